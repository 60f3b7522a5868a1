use Rattle.cdf_var_records.proofs.Common.{Good, IsForm, List, ap, arith, leaf_in, subst, sym, ℕ, ◌∙◌}
use Rattle.cdf_var_records.proofs.NextRecord.{comes_next, few_records, located_in, none_left}
use Rattle.cdf_var_records.proofs.next.RecordReader.read_next.Goals as goal
use Rattle.cdf_var_records.specs.Unpacked.{IsUnpacked}

pub returns-in_default-clause-next : goal.returns-in_default-clause-next
returns-in_default-clause-next g c =
    let r = c.requires.reader in
    none_left c.requires.good r.is_form.is_vdr c.args.from c.args.self.now.extent r.extent_is (rw c.in_default.is at c.in_ok-found.ensures.found)

pub read_in_leaf-requires-clause-good : goal.read_in_leaf-requires-clause-good
read_in_leaf-requires-clause-good g c = subst Good (sym c.find.ensures.area.image) c.requires.good

pub read_in_leaf-requires-clause-kept : goal.read_in_leaf-requires-clause-kept
read_in_leaf-requires-clause-kept g c = subst (λ (x : List ℕ). IsUnpacked x c.args.self.now.unpacked) (sym c.find.ensures.area.image) c.requires.reader.kept

pub read_in_leaf-requires-clause-form : goal.read_in_leaf-requires-clause-form
read_in_leaf-requires-clause-form g c = subst (λ (x : List ℕ). IsForm x c.args.self.now.form) (sym c.find.ensures.area.image) c.requires.reader.is_form

pub read_in_leaf-requires-clause-leaf : goal.read_in_leaf-requires-clause-leaf
read_in_leaf-requires-clause-leaf g c =
    let vdr = c.args.self.now.form.place.vdr in
    let here = located_in c.requires.good c.requires.reader (rw c.in-Some.is at c.in_ok-found.ensures.found) in
    here ∙ ap (λ (x : List ℕ). leaf_in x vdr c.in-Some.found.num) (sym c.find.ensures.area.image)

pub returns-clause-next : goal.returns-clause-next
returns-clause-next g c =
    let r = c.requires.reader in
    let first = rw c.in-Some.is at c.in_ok-found.ensures.found in
    comes_next c.requires.good r.is_form.is_vdr c.args.from c.in-Some.found.num c.in_ok-bytes.bytes.items first.least first.none (rw c.find.ensures.area.image at c.in_ok-bytes.ensures.record)

pub returns-clause-few : goal.returns-clause-few
returns-clause-few g c =
    let r = c.requires.reader in
    let first = rw c.in-Some.is at c.in_ok-found.ensures.found in
    omega (arith, first.inside, r.extent_is, few_records (g.A.Area.image c.args.area.now) c.args.self.now.form.place.vdr)

pub returns-clause-reader : goal.returns-clause-reader
returns-clause-reader g c =
    let r = c.requires.reader in
    let first = rw c.in-Some.is at c.in_ok-found.ensures.found in
    record { is_form = r.is_form; extent_is = r.extent_is; leaf_is = (c.in-Some.found.num, first.has); kept = subst (λ (x : List ℕ). IsUnpacked x c.read_in_leaf.new.unpacked) c.find.ensures.area.image c.read_in_leaf.ensures.kept }

pub returns-in_err-bytes-clause-reader : goal.returns-in_err-bytes-clause-reader
returns-in_err-bytes-clause-reader g c =
    let r = c.requires.reader in
    let first = rw c.in-Some.is at c.in_ok-found.ensures.found in
    record { is_form = r.is_form; extent_is = r.extent_is; leaf_is = (c.in-Some.found.num, first.has); kept = subst (λ (x : List ℕ). IsUnpacked x c.read_in_leaf.new.unpacked) c.find.ensures.area.image c.read_in_leaf.ensures.kept }
