use Rattle.std.proofs.Common.{sym, ◌∙◌}
use Rattle.cdf_store.proofs.Files.{found_at}
use Rattle.cdf_store.proofs.mem_files.place_of.Goals as goal

pub returns-then-eq-clause-named : goal.returns-then-eq-clause-named
returns-then-eq-clause-named c =
    let named = rw c.as_str.ensures.value at c.eq.ensures in
    found_at c.args.files.now c.loop-i.i c.index-files-i.result c.args.name.now c.loop-i-test.true c.index-files-i.is (sym named ∙ c.if-eq.true)
