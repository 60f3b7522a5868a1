-- The records of one variable: how often each stands in it, of which types they are, and what a command on the variable may do to them.
use Rattle.cdf_index.proofs.Common.{leaf_at, of_each, option_map, Allowance, Anything, Each, Field, Found, Good, In, IsOneOf, Kind, Leaf, LeafFits, List, None, Only, Option, Range, Some, StandsAmong, VariableShape, [], ap, arith, cvvr_type, find, find_place, fits, got-middle, has, if◌then◌else◌, inl, inr, is_a, is_a-type, kind_type, leaves_apart, leaves_of, length, linkable-type, nodes_of, nodes_stand, or_cases, places_of, range, range_at, shape, times, times-append, type_at, typed, variable_records, vdr_type, vvr_type, vxr_type, ℕ, ◌+◌, ◌==◌, ◌∙◌, ◌∷◌, ◌≡◌, ◌⊎◌}
use Rattle.cdf_edits.proofs.Edits.VariableKept.{find_none}

pub parts_times : (v : VariableShape) (m : ℕ) → times m (variable_records v) ≡ times m (v.vdr ∷ []) + (times m (nodes_of v.index) + times m (places_of (leaves_of v.index)) + times m v.cpr)
parts_times v m = grind (arith, times-append)

-- ---- by their types

pub block_type : (b records : List ℕ) (vdr : ℕ) (leaves : List Leaf) → Each (LeafFits b records vdr) leaves → (m : ℕ) → In m (places_of leaves) → (type_at b m ≡ vvr_type) ⊎ (type_at b m ≡ cvvr_type)
block_type b records vdr leaves each m i =
    let l = leaf_at leaves m i in
    rw l.1.1 (elim (or_cases (is_a b records vvr_type l.0.place) (is_a b records cvvr_type l.0.place) (of_each (LeafFits b records vdr) leaves l.0 each l.1.0).0) [ inl p ↦ inl (is_a-type b records vvr_type l.0.place p) | inr p ↦ inr (is_a-type b records cvvr_type l.0.place p) ])

abbrev IsBlockType : ℕ → Type 0
IsBlockType type = (type ≡ vvr_type) ⊎ (type ≡ cvvr_type)

-- ---- what a command may do, where it may write these fields of the descriptor, all of a node, and of a block what its range says

abbrev by_type : Kind → List Field → ℕ → Allowance
by_type kind fields type = if type == vdr_type kind then Only fields else (if type == vxr_type then Anything else Only [])

abbrev pub by_range : List ℕ → Kind → List Field → (Range → Allowance) → ℕ → Option Range → Allowance
by_range b kind fields block m None = by_type kind fields (type_at b m)
by_range b kind fields block m (Some r) = block r

by_types : (kind : Kind) (fields : List Field) → (by_type kind fields vxr_type ≡ Anything) × (by_type kind fields (vdr_type kind) ≡ Only fields) × (IsBlockType vxr_type → ⊥) × (IsBlockType (vdr_type kind) → ⊥)
by_types kind fields = grind arith

module _ {b : List ℕ} (found : Found) {before : List VariableShape} {own : VariableShape} {after : List VariableShape} (good : Good b) (among : StandsAmong b found.kind before own after) (number_is : found.number ≡ length before) (fields : List Field) (block : Range → Allowance) (may : ℕ → Allowance)
    (allowed : (m : ℕ) (o : Option Range) → range_at (shape b) found m ≡ o → may m ≡ by_range b found.kind fields block m o) where
  ranged : (m : ℕ) (o : Option Leaf) → find (λ (leaf : Leaf). leaf.place == m) (leaves_of own.index) ≡ o → range_at (shape b) found m ≡ option_map (λ (leaf : Leaf). range leaf.first leaf.last) o
  ranged m o e = grind (arith, number_is, among.was, got-middle before own after, e)

  -- a record of another type is no block
  typed_allowed : (m type : ℕ) → type_at b m ≡ type → (IsBlockType type → ⊥) → may m ≡ by_type found.kind fields type
  typed_allowed m type t none =
      let out = λ (i : In m (places_of (leaves_of own.index))). none (rw t at (block_type b (shape b).records own.vdr (leaves_of own.index) (fits good among).2 m i)) in
      allowed m None (ranged m None (find_none (leaves_of own.index) m out)) ∙ ap (by_type found.kind fields) t

  pub descriptor_allowed : may own.vdr ≡ Only fields
  descriptor_allowed = typed_allowed own.vdr (vdr_type found.kind) (typed good among ∙ kind_type found.kind) (by_types found.kind fields).3 ∙ (by_types found.kind fields).1

  pub node_allowed : (m : ℕ) → In m (nodes_of own.index) → may m ≡ Anything
  node_allowed m i = typed_allowed m vxr_type (linkable-type b (shape b).records vxr_type m (nodes_stand b (shape b).records 8 own.index (has good among).indexed.has_nodes m i)) (by_types found.kind fields).2 ∙ (by_types found.kind fields).0

  pub block_allowed : (l : Leaf) → IsOneOf (leaves_of own.index) l → may l.place ≡ block (range l.first l.last)
  block_allowed l i = allowed l.place (Some (range l.first l.last)) (ranged l.place (Some l) (find_place (leaves_of own.index) (leaves_apart good among) l i))
