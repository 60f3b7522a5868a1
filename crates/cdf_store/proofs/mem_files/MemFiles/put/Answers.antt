use Rattle.std.proofs.Common.{refl}
use Rattle.cdf_store.specs.MemFile.{entries}
use Rattle.cdf_store.proofs.Files.{distinct_put}
use Rattle.cdf_store.proofs.mem_files.MemFiles.put.Goals as goal

pub invariant_of-self-2 : goal.invariant_of-self-2
invariant_of-self-2 c =
    let new = entries c.put_entry.new.files.items in
    record {
      in_range = λ x e. cc;
      distinct = distinct_put c.args.name.now c.args.bytes.now (entries c.args.self.now.list.items) new c.args.self.now.distinct c.in_ok-put_entry.ensures.ok;
      listed = refl;
    }
