use Rattle.cdf_store.proofs.Files.{made_found}
use Rattle.cdf_store.proofs.mem_files.MemFiles.make_absent.Goals as goal

pub returns-in-Some-clause-files : goal.returns-in-Some-clause-files
returns-in-Some-clause-files c =
    let named = rw c.deref.ensures.value at c.in-Some.ensures.named in
    made_found c.args.self.now.list.items c.in-Some.field-0 c.args.name.now c.args.make c.args.self.now.distinct named
