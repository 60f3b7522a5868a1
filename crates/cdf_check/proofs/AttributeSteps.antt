-- The attributes of an image, one after the other.
use Rattle.cdf_check.proofs.Common.{AreAttributes, AreLong, AreTiles, Hold, Hold-append, IsAttribute, IsBroken, IsBroken-after, IsBroken-before, LiesIn, List, [], adr_chain, adr_name, adr_type, ap, append_assoc, arith, attribute_rows, chain_sound, differ_rows, flat_map, gdr_adr_head, gdr_offset, length, length-le_from_distinct, length_tiles, linkable-in, linkable-type, name_at, name_field, name_in, phase6, refl, same_name, tile_lies, type_at, whole, ℕ, ◌++◌, ◌∙◌, ◌∷◌, ◌≡◌, ◌≤◌}

-- ---- the Name of an attribute

pub name_lies : (b : List ℕ) (adr : ℕ) → IsAttribute b adr → LiesIn b adr (name_field (type_at b adr))
name_lies b adr is = rw is.type_is (omega (arith, is.fits))

pub name_is : (b : List ℕ) (adr : ℕ) → IsAttribute b adr → name_at b adr ≡ name_in b adr adr_name
name_is b adr is = rw is.type_is refl

-- ---- the records of attributes

pub pushed : (owned : List ℕ) (adr : ℕ) (gr z : List ℕ) → ((owned ++ adr ∷ []) ++ gr) ++ z ≡ owned ++ (adr ∷ gr ++ z)
pushed owned adr gr z = ap (λ (xs : List ℕ). xs ++ z) (append_assoc owned (adr ∷ []) gr) ∙ append_assoc owned (adr ∷ gr) z

-- ---- the attributes of a file

pub chain_attributes : (b ts : List ℕ) (adrs : List ℕ) → AreTiles b 8 (length b) ts → AreLong b ts → adr_chain b ts ≡ whole adrs → AreAttributes b adrs
chain_attributes b ts adrs tiled long is adr i =
    let linkable = (chain_sound b ts adr_type (gdr_offset b) gdr_adr_head adrs is).linkable adr i in
    let inside = linkable-in b ts adr_type adr linkable in
    let type = linkable-type b ts adr_type adr linkable in
    let enough = rw type at (long adr inside) in
    let lies = tile_lies b 8 (length b) ts adr tiled inside in
    record { type_is = type; fits = omega (arith, enough, lies.high) }

pub chain_few : (b ts : List ℕ) (adrs : List ℕ) → AreTiles b 8 (length b) ts → adr_chain b ts ≡ whole adrs → length adrs ≤ length b
chain_few b ts adrs tiled is =
    let c = chain_sound b ts adr_type (gdr_offset b) gdr_adr_head adrs is in
    let less = length-le_from_distinct adrs ts c.once (λ m i. linkable-in b ts adr_type m (c.linkable m i)) in
    omega (arith, less, length_tiles b 8 (length b) ts tiled)

-- ---- the rules of the phase

module _ (b ts adrs : List ℕ) where
  pub phase6_holds : Hold (flat_map (attribute_rows b ts) adrs) → Hold (differ_rows 2 (same_name b adr_name) [] adrs) → Hold (phase6 b ts adrs)
  phase6_holds p q = Hold-append (flat_map (attribute_rows b ts) adrs) (differ_rows 2 (same_name b adr_name) [] adrs) p q

  pub attributes_break : (rule place : ℕ) → IsBroken (flat_map (attribute_rows b ts) adrs) rule place → IsBroken (phase6 b ts adrs) rule place
  attributes_break rule place p = IsBroken-before (flat_map (attribute_rows b ts) adrs) (differ_rows 2 (same_name b adr_name) [] adrs) rule place p

  pub names_break : (rule place : ℕ) → IsBroken (differ_rows 2 (same_name b adr_name) [] adrs) rule place → IsBroken (phase6 b ts adrs) rule place
  names_break rule place p = IsBroken-after (flat_map (attribute_rows b ts) adrs) (differ_rows 2 (same_name b adr_name) [] adrs) rule place p
