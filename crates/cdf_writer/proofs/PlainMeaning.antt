-- No variable of an image is packed exactly where none of what it means is.
use Rattle.std.proofs.Common.{List, [], map, refl, subst, sym, ℕ, ◌∷◌}
use Rattle.std.proofs.lemmas.List.{map-append}
unfoldable use Rattle.cdf_format.specs.Content.{content}
use Rattle.cdf_format.specs.Content.{variable_of}
use Rattle.cdf_format.specs.NotRead.{IsRead, unread_variables}
use Rattle.cdf_format.specs.Rules.{Hold}
use Rattle.cdf_format.specs.Shape.{Each, VariableShape, shape, variables, vdrs}
use Rattle.cdf_format.proofs.ShapeLemmas.{Each-append, Each-split}
use Rattle.cdf_format.proofs.Tests.{not_false}
use Rattle.cdf_writer.specs.Fine.{Plain, PlainVariables}

module _ (b : List ℕ) where
  all_plain : (vs : List VariableShape) → Hold (unread_variables b (vdrs vs)) → Each Plain (map (variable_of b) vs)
  all_plain [] read = tt
  all_plain (v ∷ more) read = (record { unpacked = not_false _ read.0 }, all_plain more read.1)

  all_read : (vs : List VariableShape) → Each Plain (map (variable_of b) vs) → Hold (unread_variables b (vdrs vs))
  all_read [] plain = tt
  all_read (v ∷ more) plain = (rw plain.0.unpacked refl, all_read more plain.1)

  pub meaning_is_plain : IsRead b → PlainVariables (content b)
  unfolding content
  meaning_is_plain read =
      let s = shape b in
      let both : Each Plain (map (variable_of b) (variables s)) = all_plain (variables s) read in
      let kinds = Each-split Plain (map (variable_of b) s.r_variables) (map (variable_of b) s.z_variables) (subst (Each Plain) (map-append (variable_of b) s.r_variables s.z_variables) both) in
      record { r_plain = kinds.0; z_plain = kinds.1 }

  pub plain_is_read : PlainVariables (content b) → IsRead b
  unfolding content
  plain_is_read plain =
      let s = shape b in
      let both = Each-append Plain (map (variable_of b) s.r_variables) (map (variable_of b) s.z_variables) plain.r_plain plain.z_plain in
      all_read (variables s) (subst (Each Plain) (sym (map-append (variable_of b) s.r_variables s.z_variables)) both)
