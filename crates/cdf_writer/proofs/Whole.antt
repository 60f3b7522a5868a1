-- The laws of the compact image, for all variables.
use Rattle.std.proofs.Common.{arith, Bool, List, [], ap, ap₂, length, map, subst, suc, sym, ℕ, ◌++◌, ◌+◌, ◌<◌, ◌^◌, ◌∙◌, ◌∷◌, ◌≡◌, ◌≤◌, max}
use Rattle.std.proofs.lemmas.List.{map-append}
use Rattle.std.specs.List.{flat_map, fold}
use Rattle.cdf_model.specs.declared.kinds.Kind.TheVariants.{R, Z}
use Rattle.cdf_model.specs.DataSet.{DataSet, Variable, extent}
use Rattle.cdf_model.specs.Names.{variable_names}
use Rattle.cdf_format.proofs.GoodImageLemmas.{vdrs_append}
use Rattle.cdf_format.proofs.NameRules.{AreNew, names_at}
use Rattle.cdf_format.specs.Content.{content}
use Rattle.cdf_format.specs.Fields.{gdr_offset, r_num_dims, r_sizes}
use Rattle.cdf_format.specs.IndexRules.{index_rows}
use Rattle.cdf_format.specs.NotRead.{IsRead}
use Rattle.cdf_format.specs.Owners.{space_of}
use Rattle.cdf_format.specs.Records.{vdr_name}
use Rattle.cdf_format.specs.Rules.{Hold}
use Rattle.cdf_format.specs.Shape.{Each, VariableShape, shape, vdrs}
use Rattle.cdf_format.specs.VariableRules.{variable_rows}
use Rattle.cdf_format.specs.WellFormed.{Good}
use Rattle.cdf_edits.proofs.Edits.VariableFrame.{IsRuled, hold_all, ruled_rows}
use Rattle.cdf_writer.specs.Compact.{bodies, compact, heads, is_little as means_little, r_place, z_place}
use Rattle.cdf_writer.specs.Fine.{Fine, FineAttributes, FineFile, FineVariable, FineVariables, PlainVariables}
use Rattle.cdf_model.specs.Limits.{image_limit}
use Rattle.cdf_model.specs.RecordSteps.{last_number}
use Rattle.std.proofs.Common.{FitsSigned, zero}
use Rattle.std.proofs.lemmas.Int.{ints}
use Rattle.std.specs.Int.{w32}
use Rattle.cdf_writer.proofs.Assembled.{VariableBodies, VariablesPart, gdr_on, good, no_waste, offset_on, little_on, means, parts_on, r_in, z_in}
use Rattle.cdf_writer.proofs.AttributesRead.{new_from}
use Rattle.cdf_writer.proofs.FilePart.{code4_fits}
use Rattle.cdf_writer.proofs.PlainMeaning.{plain_is_read}
use Rattle.cdf_writer.proofs.Stands.{places}
use Rattle.cdf_writer.proofs.VariablesRead.{AllShare, AllStand, all_distinct, all_have, all_indexed, all_lead, all_linkable, all_made, all_mean, all_named, all_numbered, all_ruled, all_stand, all_times, apart_into, names_apart, variable_shapes}

module _ (d : DataSet) (file : FineFile d) (attrs : FineAttributes d) (vars : FineVariables d) (made : VariableBodies d) (max_fits : (heads d).r_max_rec < 256 ^ 4) where
  abbrev little : Bool
  little = means_little d

  abbrev rs : List ℕ
  rs = places 8 (bodies d)

  abbrev r_shapes : List VariableShape
  r_shapes = variable_shapes R little (r_place d) d.r_variables

  abbrev z_shapes : List VariableShape
  z_shapes = variable_shapes Z little (z_place d) d.z_variables

  shares : (vs : List Variable) → Each (λ v. v.dims ≡ d.rdims) vs → AllShare R little (compact d) R vs
  shares [] e = tt
  shares (v ∷ vs) e =
      let g = gdr_on d file attrs made max_fits in
      let o : (r_num_dims (compact d) (gdr_offset (compact d)) ≡ length v.dims) × (r_sizes (compact d) (gdr_offset (compact d)) ≡ v.dims) = ((ap (r_num_dims (compact d)) (offset_on d file attrs made max_fits) ∙ g.dims_count) ∙ ap length (sym e.0), ap (r_sizes (compact d)) (offset_on d file attrs made max_fits) ∙ g.dims_are ∙ sym e.0) in
      (o, shares vs e.1)

  rs_stand : AllStand R little (compact d) rs 0 (r_place d) d.r_variables
  rs_stand = let p = parts_on d file attrs made max_fits in all_stand R little (compact d) rs 0 (r_place d) d.r_variables vars.r_fine (little_on d file attrs made max_fits) (shares d.r_variables vars.r_dims) (zero_few (length d.r_variables) vars.r_few) p.r_fits p.r_there (r_in d file attrs made max_fits)
    where
      zero_few : (k : ℕ) → k ≤ 2147483647 → 0 + k ≤ 2147483647
      zero_few k le = omega arith

  zs_stand : AllStand Z little (compact d) rs 0 (z_place d) d.z_variables
  zs_stand = let p = parts_on d file attrs made max_fits in all_stand Z little (compact d) rs 0 (z_place d) d.z_variables vars.z_fine (little_on d file attrs made max_fits) tt (zero_few (length d.z_variables) vars.z_few) p.z_fits p.z_there (z_in d file attrs made max_fits)
    where
      zero_few : (k : ℕ) → k ≤ 2147483647 → 0 + k ≤ 2147483647
      zero_few k le = omega arith

  all_names : names_at (compact d) vdr_name (vdrs (r_shapes ++ z_shapes)) ≡ variable_names d
  all_names =
      ap (names_at (compact d) vdr_name) (vdrs_append r_shapes z_shapes) ∙ map-append _ (vdrs r_shapes) (vdrs z_shapes) ∙ ap₂ (λ (xs ys : List (List ℕ)). xs ++ ys) (all_named R little (compact d) rs 0 (r_place d) d.r_variables rs_stand) (all_named Z little (compact d) rs 0 (z_place d) d.z_variables zs_stand)

  ruled_both : (xs ys : List VariableShape) → Each (IsRuled (compact d) rs) xs → Each (IsRuled (compact d) rs) ys → Each (IsRuled (compact d) rs) (xs ++ ys)
  ruled_both [] ys x y = y
  ruled_both (v ∷ xs) ys x y = (x.0, ruled_both xs ys x.1 y)

  have_both : (P : VariableShape → Type 0) (xs ys : List VariableShape) → Each P xs → Each P ys → Each P (xs ++ ys)
  have_both P [] ys x y = y
  have_both P (v ∷ xs) ys x y = (x.0, have_both P xs ys x.1 y)

  pub part : VariablesPart (compact d) d rs
  part =
      let indexed = have_both (λ v. Hold (index_rows (compact d) rs v.vdr v.index)) r_shapes z_shapes (all_indexed R little (compact d) rs 0 (r_place d) d.r_variables rs_stand) (all_indexed Z little (compact d) rs 0 (z_place d) d.z_variables zs_stand) in
      record {
        r_shapes = r_shapes;
        z_shapes = z_shapes;
        r_lead = all_lead R little (compact d) rs 0 (r_place d) d.r_variables rs_stand;
        z_lead = all_lead Z little (compact d) rs 0 (z_place d) d.z_variables zs_stand;
        r_linkable = all_linkable R little (compact d) rs 0 (r_place d) d.r_variables rs_stand;
        z_linkable = all_linkable Z little (compact d) rs 0 (z_place d) d.z_variables zs_stand;
        r_once = all_distinct R little (r_place d) d.r_variables;
        z_once = all_distinct Z little (z_place d) d.z_variables;
        have = have_both _ r_shapes z_shapes (all_have R little (compact d) rs 0 (r_place d) d.r_variables rs_stand) (all_have Z little (compact d) rs 0 (z_place d) d.z_variables zs_stand);
        r_mean = all_mean R little (compact d) rs 0 (r_place d) d.r_variables rs_stand;
        z_mean = all_mean Z little (compact d) rs 0 (z_place d) d.z_variables zs_stand;
        indexes = hold_all (λ v. index_rows (compact d) rs v.vdr v.index) (r_shapes ++ z_shapes) indexed;
        r_numbered = all_numbered R little 7 (compact d) rs 0 (r_place d) d.r_variables rs_stand;
        z_numbered = all_numbered Z little 10 (compact d) rs 0 (z_place d) d.z_variables zs_stand;
        r_times = all_times R little (compact d) rs 0 (r_place d) d.r_variables vars.r_fine rs_stand;
        z_times = all_times Z little (compact d) rs 0 (z_place d) d.z_variables vars.z_fine zs_stand;
      }

  -- the rules
  pub ruled_now : Hold (flat_map (variable_rows (compact d) rs (vdrs (r_shapes ++ z_shapes))) (vdrs (r_shapes ++ z_shapes)))
  ruled_now =
      let ruled = ruled_both r_shapes z_shapes (all_ruled R little (compact d) rs 0 (r_place d) d.r_variables rs_stand) (all_ruled Z little (compact d) rs 0 (z_place d) d.z_variables zs_stand) in
      let all = vdrs (r_shapes ++ z_shapes) in
      let new : AreNew [] (names_at (compact d) vdr_name (vdrs (r_shapes ++ z_shapes))) = subst (AreNew []) (sym all_names) (new_from [] (variable_names d) vars.differ) in
      ruled_rows (compact d) rs all (r_shapes ++ z_shapes) ruled (λ m i. apart_into (compact d) all m (λ y j ne. names_apart (compact d) [] all new m y i j ne))

-- ---- the greatest MaxRec

pub extents_small : (best : ℕ) (vs : List Variable) → Each FineVariable vs → best ≤ 2147483647 → fold max best (map (λ v. extent v.max_rec) vs) ≤ 2147483647
extents_small best [] p le = le
extents_small best (v ∷ vs) p le = let s = p.0.extent_fits in extents_small (max best (extent v.max_rec)) vs p.1 (omega arith)

last_fits : (k : ℕ) → k ≤ 2147483647 → FitsSigned w32 (last_number k)
last_fits zero le = omega (arith, ints)
last_fits (suc k) le = omega (arith, ints)

pub of_fine : (d : DataSet) → Fine d → length (compact d) ≤ image_limit → FineFile d
of_fine d f short = record { head = f.head; short = short }

module _ (d : DataSet) (file : FineFile d) (attrs : FineAttributes d) (vars : FineVariables d) where
  made : VariableBodies d
  made = record {
    r_made = all_made R (means_little d) 0 (r_place d) d.r_variables vars.r_fine;
    z_made = all_made Z (means_little d) 0 (z_place d) d.z_variables vars.z_fine;
    counts = record { r = few (length d.r_variables) vars.r_few; z = few (length d.z_variables) vars.z_few; attributes = few (length d.attributes) attrs.few };
  }
    where
      few : (k : ℕ) → k ≤ 2147483647 → k < 256 ^ 4
      few k le = omega arith

  max_fits : (heads d).r_max_rec < 256 ^ 4
  max_fits = code4_fits (last_number (fold max 0 (map (λ v. extent v.max_rec) d.r_variables))) (last_fits (fold max 0 (map (λ v. extent v.max_rec) d.r_variables)) (extents_small 0 d.r_variables vars.r_fine (omega arith)))

  pub compact_good : Good (compact d)
  unfolding part
  compact_good = good d file attrs made max_fits (part d file attrs vars made max_fits) (ruled_now d file attrs vars made max_fits)

  pub compact_means : content (compact d) ≡ d
  compact_means = means d file attrs made max_fits (part d file attrs vars made max_fits)

  pub compact_read : PlainVariables d → IsRead (compact d)
  compact_read plain = plain_is_read (compact d) (subst PlainVariables (sym compact_means) plain)

  pub compact_wastes_none : ((space_of (compact d) (shape (compact d))).listed_bytes ≡ 0) × ((space_of (compact d) (shape (compact d))).unlisted_bytes ≡ 0)
  compact_wastes_none = no_waste d file attrs made max_fits (part d file attrs vars made max_fits)
