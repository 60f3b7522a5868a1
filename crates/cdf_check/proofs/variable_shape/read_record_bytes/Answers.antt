use Rattle.cdf_check.proofs.Common.{SomeIff, ap, ap₂, length, map, not, record_bytes, record_limit, record_size, subst, sym, varys_at, words, ℕ, ◌+◌, ◌==◌, ◌∙◌, ◌≡◌, ◌≤◌}
use Rattle.cdf_check.proofs.VariableShapes.{length-dims, length-varys}
use Rattle.cdf_check.proofs.variable_shape.read_record_bytes.Goals as goal

pub record_bytes-requires : goal.record_bytes-requires
record_bytes-requires g c =
    let b = g.A.Area.image c.args.area.now in
    let d = c.args.dimensions in
    let are = c.requires.dimensions in
    ap length c.in_ok-read_varys.ensures.value ∙ length-varys b (c.args.vdr + d.varys) d.count ∙ are.count_is ∙ sym (length-dims b c.args.vdr) ∙ sym (ap length are.sizes_are)

pub returns-clause-value : goal.returns-clause-value
returns-clause-value g c =
    let b = g.A.Area.image c.args.area.now in
    let vdr = c.args.vdr in
    let d = c.args.dimensions in
    let are = c.requires.dimensions in
    let value = c.requires.value in
    let varys_are : c.in_ok-read_varys.field-0 ≡ varys_at b vdr = c.in_ok-read_varys.ensures.value ∙ ap₂ (λ (p n : ℕ). map (λ (m : ℕ). not (m == 0)) (words b (vdr + p) n)) are.varys_at are.count_is in
    let size = record_size c.args.value.data_type c.args.value.elements d.sizes c.in_ok-read_varys.field-0 in
    let same : size ≡ record_bytes b vdr = λ i. record_size (value.type_is i) (value.elements_are i) (are.sizes_are i) (varys_are i) in
    subst (λ (n : ℕ). SomeIff c.record_bytes.result (n ≤ record_limit) n) same c.record_bytes.ensures
