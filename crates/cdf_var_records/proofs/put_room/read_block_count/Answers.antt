use Rattle.cdf_var_records.proofs.RecordReading.{lies}
use Rattle.cdf_var_records.proofs.put_room.read_block_count.Goals as goal

pub read_wanted-requires : goal.read_wanted-requires
read_wanted-requires g c = lies c.requires.good c.requires.form
