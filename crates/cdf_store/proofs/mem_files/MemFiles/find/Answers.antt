use Rattle.std.proofs.Common.{ap, ◌∙◌, sym, Some}
use Rattle.cdf_store.proofs.Files.{lookup_read}
use Rattle.cdf_store.proofs.mem_files.MemFiles.find.Goals as goal

pub returns-in-Some : goal.returns-in-Some
returns-in-Some c =
    let named = rw c.deref.ensures.value at c.in-Some.ensures.named in
    let lt = rw c.deref.ensures.value at c.in-Some.ensures.range in
    ap Some c.as_slice.ensures.value ∙ sym (lookup_read c.args.self.now.list.items c.in-Some.place c.index.result.now c.args.name.now c.args.self.now.distinct named lt c.index.ensures)
