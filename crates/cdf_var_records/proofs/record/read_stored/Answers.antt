use Rattle.cdf_var_records.proofs.Common.{Good, IsForm, List, ap, leaf_in, option_map, seen, subst, sym, ◌∙◌, ℕ}
use Rattle.cdf_var_records.proofs.LeafItems.{leaf_there}
use Rattle.cdf_var_records.specs.Unpacked.{IsUnpacked}
use Rattle.cdf_var_records.proofs.RecordReading.{index, lies, no_record}
use Rattle.cdf_var_records.proofs.record.read_stored.Goals as goal

pub find_stored-requires-clause-lies : goal.find_stored-requires-clause-lies
find_stored-requires-clause-lies g c = lies c.requires.good c.requires.form

pub find_stored-requires-clause-index : goal.find_stored-requires-clause-index
find_stored-requires-clause-index g c = index c.requires.good c.requires.form

pub returns-in_default-clause-record : goal.returns-in_default-clause-record
returns-in_default-clause-record g c = no_record c.requires.good c.requires.form c.args.rec (ap (option_map seen) (sym c.in_default.is) ∙ c.in_ok-found.ensures.leaf ∙ sym (leaf_there c.requires.good c.requires.form.is_vdr c.args.rec c.requires.within))

pub read_in_leaf-requires-clause-good : goal.read_in_leaf-requires-clause-good
read_in_leaf-requires-clause-good g c = subst Good (sym c.find_stored.ensures.area.image) c.requires.good

pub read_in_leaf-requires-clause-kept : goal.read_in_leaf-requires-clause-kept
read_in_leaf-requires-clause-kept g c = subst (λ (x : List ℕ). IsUnpacked x c.args.unpacked.now) (sym c.find_stored.ensures.area.image) c.requires.kept

pub read_in_leaf-requires-clause-form : goal.read_in_leaf-requires-clause-form
read_in_leaf-requires-clause-form g c = subst (λ (x : List _). IsForm x c.args.form.now) (sym c.find_stored.ensures.area.image) c.requires.form

pub read_in_leaf-requires-clause-leaf : goal.read_in_leaf-requires-clause-leaf
read_in_leaf-requires-clause-leaf g c =
    let vdr = c.args.form.now.place.vdr in
    ap (option_map seen) (sym c.in-Some.is) ∙ c.in_ok-found.ensures.leaf ∙ sym (leaf_there c.requires.good c.requires.form.is_vdr c.args.rec c.requires.within) ∙ ap (λ (x : List _). leaf_in x vdr c.args.rec) (sym c.find_stored.ensures.area.image)

pub returns-clause-record : goal.returns-clause-record
returns-clause-record g c = rw c.find_stored.ensures.area.image at c.in_ok-bytes.ensures.record
