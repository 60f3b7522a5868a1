use Rattle.cdf_var_records.proofs.Common.{Good, IsForm, List, arith, rules, subst, sym, ℕ}
use Rattle.cdf_var_records.proofs.RecordReading.{lies}
use Rattle.cdf_var_records.proofs.previous.read_missing.Goals as goal
use Rattle.cdf_var_records.specs.Unpacked.{IsUnpacked}

pub read_sparse-requires : goal.read_sparse-requires
read_sparse-requires g c = let l = lies c.requires.good c.requires.form in omega arith

pub read_previous-requires-clause-good : goal.read_previous-requires-clause-good
read_previous-requires-clause-good g c = subst Good (sym c.read_sparse.ensures.area.image) c.requires.good

pub read_previous-requires-clause-kept : goal.read_previous-requires-clause-kept
read_previous-requires-clause-kept g c = subst (λ (x : List ℕ). IsUnpacked x c.args.unpacked.now) (sym c.read_sparse.ensures.area.image) c.requires.kept

pub read_pad_record-requires : goal.read_pad_record-requires
read_pad_record-requires g c =
    let good = subst Good (sym c.read_sparse.ensures.area.image) c.requires.good in
    let form = subst (λ (x : List _). IsForm x c.args.form.now) (sym c.read_sparse.ensures.area.image) c.requires.form in
    search (rules, good, form)
