-- The chains of the variables, as a good image has them.
use Rattle.cdf_vars.proofs.Common.{Good, HasChain, HasShape, HolderStands, In, IsChain, IsGoodByShape, Kind, List, R, Shape, Z, ap, arith, chain_of, counted_before, counted_in, fixed_size, good_by_its_shape, head_of, kind_chain, length, length-append, length-le_from_distinct, length_tiles, linkable-in, linkable-type, members_of, number, rules_of_good, shape, shapes_of, size_at, subst, sym, tile_lies, vdr_type, vdrs, ℕ, ◌+◌, ◌<◌, ◌^◌, ◌∙◌, ◌≡◌, ◌≤◌}
use Rattle.cdf_edits.proofs.Edits.ChainsOfShape.{IsOf, has_chain, members_are}
use Rattle.cdf_edits.proofs.Edits.UnlinkedVariable.{in_holder}
use Rattle.cdf_format.specs.Sealed.{trailer, sealed}
use Rattle.cdf_format.proofs.Tests.{le_of, eq_of}

-- the fixed part of a VDR
least_size : (kind : Kind) → 340 ≤ fixed_size (vdr_type kind)
least_size R = omega arith
least_size Z = omega arith

-- no record has the heads of these chains but the GDR
pub holder_stands : (b : List ℕ) (kind : Kind) → HolderStands b (chain_of kind)
holder_stands b R = tt
holder_stands b Z = tt

module _ (b : List ℕ) (s : Shape) (h : HasShape b s) where
  pub own_chain : (kind : Kind) → IsChain b s.records (vdr_type kind) (number b s.gdr (head_of (chain_of kind))) (vdrs (shapes_of s kind))
  own_chain R = h.r_chain
  own_chain Z = h.z_chain

  of_shape : (kind : Kind) → IsOf b s (chain_of kind) s.gdr (vdrs (shapes_of s kind))
  of_shape kind = record { holder_is = in_holder kind b ∙ h.gdr_is; chain = kind_chain kind h }

  pub variable_members : (kind : Kind) → members_of b (chain_of kind) ≡ vdrs (shapes_of s kind)
  variable_members kind = members_are h (of_shape kind)

  pub has_variable_chain : (kind : Kind) → HasChain b (chain_of kind)
  has_variable_chain kind = has_chain h (of_shape kind)

  -- a VDR has room for its Name
  pub vdr_inside : (kind : Kind) (m : ℕ) → In m (vdrs (shapes_of s kind)) → m + 340 ≤ length b
  vdr_inside kind m i =
      let ok = (own_chain kind).linkable m i in
      let tile = linkable-in b s.records (vdr_type kind) m ok in
      let wide : fixed_size (vdr_type kind) ≤ size_at b m = subst (λ (t : ℕ). fixed_size t ≤ size_at b m) (linkable-type b s.records (vdr_type kind) m ok) (h.fixed m tile) in
      let high = (tile_lies b 8 (length b) s.records m h.tiled tile).high in
      let least = least_size kind in
      omega arith

  -- there are fewer variables than bytes
  pub few_variables : (kind : Kind) → length (vdrs (shapes_of s kind)) + 8 ≤ length b
  few_variables kind =
      let l = length-le_from_distinct (vdrs (shapes_of s kind)) s.records (own_chain kind).once (λ m i. linkable-in b s.records (vdr_type kind) m ((own_chain kind).linkable m i)) in
      let t = length_tiles b 8 (length b) s.records h.tiled in
      omega arith

-- ---- a good image

module _ (b : List ℕ) (good : Good b) where
  abbrev s : Shape
  s = shape b

  isgood : IsGoodByShape b s
  isgood = good_by_its_shape b good

  h : HasShape b s
  h = isgood.has_shape

  -- the count that a chain has
  counted_is : (kind : Kind) → counted_in b (chain_of kind) ≡ length (vdrs (shapes_of s kind))
  counted_is R = eq_of _ _ (counted_before isgood R).0
  counted_is Z = eq_of _ _ (counted_before isgood Z).0

  pub counted_members : (kind : Kind) → counted_in b (chain_of kind) ≡ length (members_of b (chain_of kind))
  counted_members kind = counted_is kind ∙ ap (λ (xs : List ℕ). length xs) (sym (variable_members b s h kind))

  short_image : length b ≤ 1073741840
  short_image =
      let f : length (sealed b) ≤ 1073741840 = le_of (length (sealed b)) 1073741840 (rules_of_good b good).0.1.0 in
      omega (arith, length-append b (trailer b))

  pub under_31_bits : (kind : Kind) → length (vdrs (shapes_of s kind)) < 2 ^ 31
  under_31_bits kind = let few = few_variables b s h kind in let short = short_image in omega arith

  pub few_places : (kind : Kind) → length (vdrs (shapes_of s kind)) < 4294967295
  few_places kind = let few = few_variables b s h kind in let short = short_image in omega arith
