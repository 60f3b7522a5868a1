use Rattle.cdf_vars.proofs.PutParts.{whole_pad, whole_record}
use Rattle.cdf_vars.proofs.put_record.read_new_record.Goals as goal

pub read_pad_record-requires-clause-good : goal.read_pad_record-requires-clause-good
read_pad_record-requires-clause-good g c = rw (c.read_most.ensures.area.image) c.requires.good

pub as_stored-requires : goal.as_stored-requires
as_stored-requires g c = whole_record c.requires.good c.requires.can.is.is_form c.args.bytes.items c.requires.can.long

pub as_stored-requires-2 : goal.as_stored-requires-2
as_stored-requires-2 g c = whole_pad c.requires.good c.requires.can.is.is_form c.read_most.ensures.area.image c.in_ok-pad.pad.items c.in_ok-pad.ensures.record
