use Rattle.cdf_var_records.proofs.Common.{Good, IsForm, List, Option, [], ap, arith, length, max_rec_at, sparse_at, subst, sym, type_at, unwrap_or, variable_at, ℕ, ◌∙◌}
use Rattle.cdf_format.specs.Fields.{LiesIn, integer4, name_at, name_field}
use Rattle.cdf_format.specs.Records.{vdr_blocking_factor, vdr_max_rec}
use Rattle.cdf_var_records.proofs.PadSites.{vdr_lies}
use Rattle.cdf_var_records.proofs.VariableTold.{name_lies, passed, some_map, told, unwrap_map}
use Rattle.std.specs.Option.{is_some}
use Rattle.cdf_var_records.proofs.variable.read_variable.Goals as goal

pub read_pad-requires-clause-good : goal.read_pad-requires-clause-good
read_pad-requires-clause-good g c = subst Good (sym c.read_form.ensures.area.image) c.requires.good

pub read_pad-requires-clause-form : goal.read_pad-requires-clause-form
read_pad-requires-clause-form g c = subst (λ (x : List ℕ). IsForm x c.in_ok-form.form) (sym c.read_form.ensures.area.image) c.in_ok-form.ensures.form

pub read_name-requires : goal.read_name-requires
read_name-requires g c = subst (λ (x : List ℕ). LiesIn x c.args.vdr (name_field (type_at x c.args.vdr))) (sym (c.read_pad.ensures.area.image ∙ c.read_form.ensures.area.image)) (name_lies c.requires.good c.requires.vdr)

pub read_sparse-requires : goal.read_sparse-requires
read_sparse-requires g c =
    let l = vdr_lies c.requires.good c.requires.vdr in
    let same = ap (λ (x : List ℕ). length x) (c.read_name.ensures.area.image ∙ c.read_pad.ensures.area.image ∙ c.read_form.ensures.area.image) in
    omega (arith, l, same)

pub overflow_add-vdr : goal.overflow_add-vdr
overflow_add-vdr g c = let l = vdr_lies c.requires.good c.requires.vdr in omega (arith, l, c.size-size.ensures, c.size-size.type_inv)

pub read_signed4-requires : goal.read_signed4-requires
read_signed4-requires g c =
    let l = vdr_lies c.requires.good c.requires.vdr in
    let same = ap (λ (x : List ℕ). length x) (c.read_sparse.ensures.area.image ∙ c.read_name.ensures.area.image ∙ c.read_pad.ensures.area.image ∙ c.read_form.ensures.area.image) in
    omega (arith, l, same)

pub overflow_add-vdr-2 : goal.overflow_add-vdr-2
overflow_add-vdr-2 g c = let l = vdr_lies c.requires.good c.requires.vdr in omega (arith, l, c.size-size.ensures, c.size-size.type_inv)

pub read_signed4-requires-2 : goal.read_signed4-requires-2
read_signed4-requires-2 g c =
    let l = vdr_lies c.requires.good c.requires.vdr in
    let same = ap (λ (x : List ℕ). length x) (c.read_signed4.ensures.area.image ∙ c.read_sparse.ensures.area.image ∙ c.read_name.ensures.area.image ∙ c.read_pad.ensures.area.image ∙ c.read_form.ensures.area.image) in
    omega (arith, l, same)

pub returns-clause-event : goal.returns-clause-event
returns-clause-event g c =
    let vdr = c.args.vdr in
    let form = c.in_ok-form.form in
    let f = c.in_ok-form.ensures.form in
    let there = c.in_ok-form.ensures.vdr in
    let formed = c.read_form.ensures.area.image in
    let padded = c.read_pad.ensures.area.image ∙ formed in
    let named = c.read_name.ensures.area.image ∙ padded in
    let ruled = c.read_sparse.ensures.area.image ∙ named in
    let blocked = c.read_signed4.ensures.area.image ∙ ruled in
    let pad_is = c.in_ok-pad.ensures.pad ∙ ap (λ (x : List ℕ). (variable_at x form.place.vdr).pad) formed in
    let blocking = c.in_ok-blocking.ensures.value ∙ ap (λ (x : List ℕ). integer4 x vdr vdr_blocking_factor) ruled in
    let max_rec = c.in_ok-max_rec.ensures.value ∙ ap (λ (x : List ℕ). max_rec_at x vdr) blocked in
    told c.requires.good c.requires.vdr form f there c.args.num c.in_ok-name.name (c.in_ok-name.ensures.value ∙ ap (λ (x : List ℕ). name_at x vdr) padded)
    c.says_vary.result c.says_vary.ensures c.in_ok-sparse.sparse (c.in_ok-sparse.ensures.sparse ∙ ap (λ (x : List ℕ). sparse_at x vdr) named) c.says_packed.result c.says_packed.ensures
    _ _ (passed c.requires.good c.requires.vdr f there vdr_blocking_factor.place (omega arith) c.in_ok-blocking.blocking blocking) (passed c.requires.good c.requires.vdr f there vdr_max_rec.place (omega arith) c.in_ok-max_rec.max_rec max_rec)
    c.is_some.result c.new-2.result (c.is_some.ensures ∙ some_map c.in_ok-pad.pad (λ bytes. bytes.items) ∙ ap (λ (o : Option (List ℕ)). is_some o) pad_is)
    (c.new-2.ensures ∙ ap (λ bytes. bytes.items) c.unwrap_or.ensures ∙ unwrap_map c.in_ok-pad.pad c.new.result (λ bytes. bytes.items) [] c.new.ensures.items ∙ ap (λ (o : Option (List ℕ)). unwrap_or o []) pad_is)
