-- The head of a good image's content is what its fields say.
use Rattle.std.proofs.Common.{◌≡◌, ℕ, suc, pos, List, [], ◌∷◌, ◌++◌, length, map, refl, sym, ap, ◌∙◌}
use Rattle.cdf_format.proofs.Common.{has_bit, gdr_offset, has_checksum, adrs_rows, r_vdrs_rows, z_vdrs_rows, content, attribute_of, AttributeShape, VariableShape, Shape, adrs, vdrs}
use Rattle.cdf_model.specs.DataSet.{head_of}
use Rattle.cdf_format.specs.Fields.{release, encoding, flags, increment, r_sizes, num_attr, nr_vars, nz_vars}
use Rattle.cdf_format.specs.Content.{majority_of, variable_of, head_by_fields}
use Rattle.cdf_format.proofs.GoodByShape.{IsGoodByShape}
use Rattle.cdf_format.proofs.Tests.{eq_of}
use Rattle.cdf_format.proofs.RowLemmas.{Hold-split}
use Rattle.cdf_format.proofs.ShapeLemmas.{content_is}

length-map : {A B : Type 0} (f : A → B) (xs : List A) → length (map f xs) ≡ length xs
length-map f [] = refl
length-map f (x ∷ xs) = ap suc (length-map f xs)

pub head_of_good : (b : List ℕ) (s : Shape) → IsGoodByShape b s → head_of (content b) ≡ head_by_fields b
head_of_good b s g =
    let p = Hold-split (adrs_rows b (adrs s) ++ r_vdrs_rows b (vdrs s.r_variables)) (z_vdrs_rows b (vdrs s.z_variables)) g.counting in
    let q = Hold-split (adrs_rows b (adrs s)) (r_vdrs_rows b (vdrs s.r_variables)) p.0 in
    let a : length (map (attribute_of b) s.attributes) ≡ num_attr b (gdr_offset b) = length-map (attribute_of b) s.attributes ∙ sym (length-map (λ (x : AttributeShape). x.adr) s.attributes) ∙ sym (eq_of _ _ q.0.0) in
    let r : length (map (variable_of b) s.r_variables) ≡ nr_vars b (gdr_offset b) = length-map (variable_of b) s.r_variables ∙ sym (length-map (λ (x : VariableShape). x.vdr) s.r_variables) ∙ sym (eq_of _ _ q.1.0) in
    let z : length (map (variable_of b) s.z_variables) ≡ nz_vars b (gdr_offset b) = length-map (variable_of b) s.z_variables ∙ sym (length-map (λ (x : VariableShape). x.vdr) s.z_variables) ∙ sym (eq_of _ _ p.1.0) in
    let gdr : r_sizes b s.gdr ≡ r_sizes b (gdr_offset b) = ap (r_sizes b) (sym g.has_shape.gdr_is) in
    ap head_of (content_is b s g.has_shape) ∙ (λ i. record {
      version = pos 3;
      release = release b;
      increment = increment b;
      encoding = encoding b;
      majority = majority_of (has_bit (flags b) 0);
      md5 = has_checksum b;
      rdims = gdr i;
      attrs = a i;
      rvars = r i;
      zvars = z i;
    })
