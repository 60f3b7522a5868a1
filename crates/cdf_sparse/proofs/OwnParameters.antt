-- The record of the parameters of a packed variable: of its type, apart from the descriptor and from its blocks, and what a command on the variable may do to it.
use Rattle.cdf_edits.proofs.Common.{Allowance, Field, Found, Good, In, Kind, Leaf, List, None, Only, Option, R, Range, VariableShape, Z, [], ap, arith, cpr_type, cvvr_type, is_a, is_a-type, leaves_of, length, range_at, refl, shape, sym, type_at, type_in, variables_chain, vdr_type, vvr_type, vxr_type, ℕ, ◌==◌, ◌∙◌, ◌≡◌, ◌≢◌, ◌⊎◌}
use Rattle.std.proofs.Common.{false, find, true}
use Rattle.cdf_edits.proofs.Commands.ListParts.{got-middle}
use Rattle.cdf_edits.proofs.Edits.Common.{Each-in, StandsAmong, fits, places_of, typed}
use Rattle.cdf_edits.proofs.Edits.VariableKept.{find_none}
use Rattle.cdf_index.proofs.OwnRecords.{block_type, by_range}

-- no descriptor, no node and no block has the type
not_vdr : (kind : Kind) → type_in (variables_chain kind) ≢ cpr_type
not_vdr R e = cc
not_vdr Z e = cc

not_block : (type : ℕ) → type ≡ cpr_type → (type ≡ vvr_type) ⊎ (type ≡ cvvr_type) → ⊥
not_block type e is = grind arith

other_type : (kind : Kind) → ((cpr_type == vdr_type kind) ≡ false) × ((cpr_type == vxr_type) ≡ false)
other_type R = (refl, refl)
other_type Z = (refl, refl)

module _ {b : List ℕ} {kind : Kind} {before : List VariableShape} {own : VariableShape} {after : List VariableShape} (good : Good b) (among : StandsAmong b kind before own after) where
  pub cpr_typed : (m : ℕ) → In m own.cpr → type_at b m ≡ cpr_type
  cpr_typed m i = is_a-type b (shape b).records cpr_type m (Each-in (λ (place : ℕ). is_a b (shape b).records cpr_type place ≡ true) own.cpr (fits good among).3 m i)

  pub cpr_apart : (m : ℕ) → In m own.cpr → m ≡ own.vdr → ⊥
  cpr_apart m i e = not_vdr kind (sym (typed good among) ∙ ap (type_at b) (sym e) ∙ cpr_typed m i)

  no_block : (m : ℕ) → In m own.cpr → In m (places_of (leaves_of own.index)) → ⊥
  no_block m i j = not_block (type_at b m) (cpr_typed m i) (block_type b (shape b).records own.vdr (leaves_of own.index) (fits good among).2 m j)

-- where a command may write these fields of the descriptor, all of a node, and of a block what its range says, the record stays
module _ {b : List ℕ} (found : Found) {before : List VariableShape} {own : VariableShape} {after : List VariableShape} (good : Good b) (among : StandsAmong b found.kind before own after) (number_is : found.number ≡ length before) (fields : List Field) (block : Range → Allowance) (may : ℕ → Allowance)
    (allowed : (m : ℕ) (o : Option Range) → range_at (shape b) found m ≡ o → may m ≡ by_range b found.kind fields block m o) where
  unranged : (m : ℕ) → find (λ (leaf : Leaf). leaf.place == m) (leaves_of own.index) ≡ None → range_at (shape b) found m ≡ None
  unranged m e = grind (arith, number_is, among.was, got-middle before own after, e)

  pub cpr_allowed : (m : ℕ) → In m own.cpr → may m ≡ Only []
  cpr_allowed m i =
      let none = unranged m (find_none (leaves_of own.index) m (no_block good among m i)) in
      let type = cpr_typed good among m i in
      let vdr = (other_type found.kind).0 in
      allowed m None none ∙ rw (type, vdr) refl
