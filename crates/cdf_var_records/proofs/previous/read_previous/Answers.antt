use Rattle.cdf_var_records.proofs.Common.{Good, IfOk-weaker, List, Previous, Some, ap, item_at, leaf_in, missing, pad_record, subst, sym, variable_at, ◌∙◌, ◌≡◌, ℕ}
use Rattle.cdf_var_records.proofs.RecordReading.{index, last_there, lies, reads_last, reads_none}
use Rattle.cdf_var_records.proofs.previous.read_previous.Goals as goal
use Rattle.cdf_var_records.specs.Unpacked.{IsUnpacked}

pub find_previous-requires-clause-lies : goal.find_previous-requires-clause-lies
find_previous-requires-clause-lies g c = lies c.requires.good c.requires.form

pub find_previous-requires-clause-index : goal.find_previous-requires-clause-index
find_previous-requires-clause-index g c = index c.requires.good c.requires.form

pub read_in_leaf-requires-clause-good : goal.read_in_leaf-requires-clause-good
read_in_leaf-requires-clause-good g c = subst Good (sym c.find_previous.ensures.area.image) c.requires.good

pub read_in_leaf-requires-clause-kept : goal.read_in_leaf-requires-clause-kept
read_in_leaf-requires-clause-kept g c = subst (λ (x : List ℕ). IsUnpacked x c.args.unpacked.now) (sym c.find_previous.ensures.area.image) c.requires.kept

pub read_in_leaf-requires-clause-leaf : goal.read_in_leaf-requires-clause-leaf
read_in_leaf-requires-clause-leaf g c =
    let vdr = c.args.form.now.place.vdr in
    last_there c.requires.good c.requires.form c.args.rec c.requires.within c.requires.gone c.in-Some.leaf (sym (rw c.in-Some.is at c.in_ok-found.ensures.leaf))
    ∙ ap (λ (x : List _). leaf_in x vdr c.in-Some.leaf.last) (sym c.find_previous.ensures.area.image)

pub read_pad_record-requires-clause-good : goal.read_pad_record-requires-clause-good
read_pad_record-requires-clause-good g c = subst Good (sym c.find_previous.ensures.area.image) c.requires.good

pub returns-in-Some-clause-record : goal.returns-in-Some-clause-record
returns-in-Some-clause-record g c =
    let b = g.A.Area.image c.args.area.now in
    let vdr = c.args.form.now.place.vdr in
    let leaf = c.in-Some.leaf in
    let found = sym (rw c.in-Some.is at c.in_ok-found.ensures.leaf) in
    IfOk-weaker c.read_in_leaf.result (λ bytes. Some bytes.items ≡ item_at leaf.last (variable_at b vdr).recs) (λ bytes. bytes.items ≡ missing Previous (variable_at b vdr) c.args.rec)
    (λ x e. reads_last c.requires.good c.requires.form c.args.rec c.requires.within c.requires.gone leaf found x.items e)
    (rw c.find_previous.ensures.area.image at c.read_in_leaf.ensures.record)

pub returns-in-None-clause-record : goal.returns-in-None-clause-record
returns-in-None-clause-record g c =
    let b = g.A.Area.image c.args.area.now in
    let vdr = c.args.form.now.place.vdr in
    IfOk-weaker c.read_pad_record.result (λ bytes. bytes.items ≡ pad_record (variable_at b vdr)) (λ bytes. bytes.items ≡ missing Previous (variable_at b vdr) c.args.rec)
    (λ x e. reads_none c.requires.good c.requires.form c.args.rec c.requires.within c.requires.gone x.items (sym (rw c.in-None.is at c.in_ok-found.ensures.leaf)) e)
    (rw c.find_previous.ensures.area.image at c.read_pad_record.ensures.record)
