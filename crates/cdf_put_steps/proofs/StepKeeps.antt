-- What a step keeps of the records of the variable: its blocks but for those that may change, and the record that says how it is packed.
use Rattle.cdf_edits.proofs.Common.{Act, AllKeep, Allowance, Anything, Bool, Field, Found, Good, In, In-append_left, In-append_right, Keeps, Kind, Leaf, List, None, OneVariable, Only, Option, Owner, R, Range, Some, Stays, Unused, VariableShape, Z, [], allowance, ap, arith, cpr_type, cvvr_type, eq-eqb, false, if◌then◌else◌, inl, inr, is_a, is_a-type, refl, true, leaves_of, length, nodes_of, owned, owned_by, owned_by_attributes, owned_by_variables, range, range_at, shape, shapes_of, slice_get, subst, suc, sym, type_at, unused_records, variable_records, vdr_type, vdr_vxr_head, vdr_vxr_tail, vvr_type, vxr_type, zero, ℕ, ◌++◌, ◌+◌, ◌==◌, ◌∙◌, ◌∷◌, ◌≡◌, ◌⊎◌, ne_eqb, cdr_type, gdr_type, HasShape, space_fields}
use Rattle.cdf_edits.proofs.Commands.ChainsStay.{AllKeep-split}
use Rattle.cdf_edits.proofs.Edits.Common.{Each-in, StandsAmong, fits, got-middle, places_of, same_as_itself, gdr_typed, sound}
use Rattle.cdf_edits.proofs.Edits.LeafPieces.{IsOneOf, place_in}
use Rattle.cdf_edits.proofs.Edits.VariableKept.{find_none}
use Rattle.cdf_edits.specs.Commands.Allowances.{anything_if}
use Rattle.cdf_edits.specs.Commands.PutSteps.{step_changes}
use Rattle.cdf_index.proofs.OwnRecords as of_own
use Rattle.cdf_puts.proofs.GoesThen.{own_there}

-- ---- the record that says how a variable is packed

cpr_by_type : (kind : Kind) (fields : List Field) (type : ℕ) → type ≡ cpr_type → (if type == vdr_type kind then Only fields else (if type == vxr_type then Anything else Only [])) ≡ Only []
cpr_by_type R fields type e = rw e refl
cpr_by_type Z fields type e = rw e refl

no_block_type : (type : ℕ) → type ≡ cpr_type → (type ≡ vvr_type) ⊎ (type ≡ cvvr_type) → ⊥
no_block_type type e (inl p) = absurd (omega (arith, e, p))
no_block_type type e (inr p) = absurd (omega (arith, e, p))

module _ {b : List ℕ} (found : Found) {before : List VariableShape} {own : VariableShape} {after : List VariableShape} (good : Good b) (at : StandsAmong b found.kind before own after) (number_is : found.number ≡ length before) (fields : List Field) (block : Range → Allowance) (may : ℕ → Allowance)
    (allowed : (m : ℕ) (o : Option Range) → range_at (shape b) found m ≡ o → may m ≡ of_own.by_range b found.kind fields block m o) where
  pub cpr_allowed : (m : ℕ) → In m own.cpr → may m ≡ Only []
  cpr_allowed m i =
      let t = is_a-type b (shape b).records cpr_type m (Each-in (λ cpr. is_a b (shape b).records cpr_type cpr ≡ true) own.cpr (fits good at).3 m i) in
      let out = λ (i : In m (places_of (leaves_of own.index))). no_block_type (type_at b m) t (of_own.block_type b (shape b).records own.vdr (leaves_of own.index) (fits good at).2 m i) in
      let none : range_at (shape b) found m ≡ None = grind (arith, number_is, at.was, got-middle before own after, find_none (leaves_of own.index) m out) in
      allowed m None none ∙ cpr_by_type found.kind fields (type_at b m) t

-- ---- a record among those that keep what they have to

module _ (b now : List ℕ) (found : Found) (changes : Range → Bool) (acts : List Act) where
  abbrev may : Kind → ℕ → ℕ → Allowance
  may kind n m = (step_changes b found changes).variables kind n m

  one_kept : (owner : Owner) (places : List ℕ) → AllKeep b now (step_changes b found changes) acts (owned_by owner places) → (m : ℕ) → In m places → Keeps b now m (allowance b (shape b) (step_changes b found changes) acts m owner)
  one_kept owner [] keeps m i = absurd i
  one_kept owner (place ∷ places) keeps m (inl e) = subst (λ (x : ℕ). Keeps b now x (allowance b (shape b) (step_changes b found changes) acts x owner)) (sym e) keeps.0
  one_kept owner (place ∷ places) keeps m (inr i) = one_kept owner places keeps.1 m i

  variable_kept : (kind : Kind) (first : ℕ) (vs : List VariableShape) (n : ℕ) (own : VariableShape) → slice_get vs n ≡ Some own → AllKeep b now (step_changes b found changes) acts (owned_by_variables kind first vs) → (m : ℕ) → In m (variable_records own) → Keeps b now m (may kind (first + n) m)
  variable_kept kind first [] n own e keeps m i = absurd cc
  variable_kept kind first (v ∷ vs) zero own e keeps m i =
      let same : own ≡ v = cc in
      let at : first ≡ first + 0 = omega arith in
      subst (λ (k : ℕ). Keeps b now m (may kind k m)) at
      (one_kept (OneVariable kind first) (variable_records v) (AllKeep-split b now (step_changes b found changes) acts (owned_by (OneVariable kind first) (variable_records v)) (owned_by_variables kind (suc first) vs) keeps).0 m (subst (λ (x : VariableShape). In m (variable_records x)) same i))
  variable_kept kind first (v ∷ vs) (suc n) own e keeps m i =
      let at : suc first + n ≡ first + suc n = omega arith in
      subst (λ (k : ℕ). Keeps b now m (may kind k m)) at
      (variable_kept kind (suc first) vs n own e (AllKeep-split b now (step_changes b found changes) acts (owned_by (OneVariable kind first) (variable_records v)) (owned_by_variables kind (suc first) vs) keeps).1 m i)

  module _ {before : List VariableShape} {own : VariableShape} {after : List VariableShape} (good : Good b) (at : StandsAmong b found.kind before own after) (number_is : found.number ≡ length before) (keeps : AllKeep b now (step_changes b found changes) acts (owned b (shape b))) where
    of_kind : AllKeep b now (step_changes b found changes) acts (owned_by_variables found.kind 0 (shapes_of (shape b) found.kind))
    of_kind =
        let as_ = owned_by_attributes 0 (shape b).attributes in
        let rs = owned_by_variables R 0 (shape b).r_variables in
        let zs = owned_by_variables Z 0 (shape b).z_variables in
        let all = AllKeep-split b now (step_changes b found changes) acts ((as_ ++ rs) ++ zs) (owned_by Unused (unused_records b (shape b))) keeps.1.1 in
        let first = AllKeep-split b now (step_changes b found changes) acts (as_ ++ rs) zs all.0 in
        by_kind found.kind (AllKeep-split b now (step_changes b found changes) acts as_ rs first.0).1 first.1
      where
        by_kind : (k : Kind) → AllKeep b now (step_changes b found changes) acts (owned_by_variables R 0 (shape b).r_variables) → AllKeep b now (step_changes b found changes) acts (owned_by_variables Z 0 (shape b).z_variables) → AllKeep b now (step_changes b found changes) acts (owned_by_variables k 0 (shapes_of (shape b) k))
        by_kind R r z = r
        by_kind Z r z = z

    own_kept : (m : ℕ) → In m (variable_records own) → Keeps b now m (may found.kind (length before) m)
    own_kept m i =
        let same : 0 + length before ≡ length before = omega arith in
        subst (λ (n : ℕ). Keeps b now m (may found.kind n m)) same (variable_kept found.kind 0 (shapes_of (shape b) found.kind) (length before) own (own_there good at) of_kind m i)

    -- ---- what a step may do to them

    abbrev heads : List Field
    heads = vdr_vxr_head ∷ vdr_vxr_tail ∷ []

    abbrev block_may : Range → Allowance
    block_may r = anything_if (changes r)

    allowed : (m : ℕ) (o : Option Range) → range_at (shape b) found m ≡ o → may found.kind (length before) m ≡ of_own.by_range b found.kind heads block_may m o
    allowed m o e = let same = same_as_itself found.kind in let number = eq-eqb found.number (length before) number_is in rw (same, number) (ap (of_own.by_range b found.kind heads block_may m) e)

    -- a block that may not change stays
    pub block_unchanged : (l : Leaf) → IsOneOf (leaves_of own.index) l → changes (range l.first l.last) ≡ false → Stays b now l.place []
    block_unchanged l i none =
        let kept = own_kept l.place (inr (In-append_left l.place (nodes_of own.index ++ places_of (leaves_of own.index)) own.cpr (In-append_right l.place (nodes_of own.index) (places_of (leaves_of own.index)) (place_in (leaves_of own.index) l i)))) in
        let is = of_own.block_allowed found good at number_is heads block_may (may found.kind (length before)) allowed l i in
        subst (λ (p : Bool). Keeps b now l.place (anything_if p)) none (subst (Keeps b now l.place) is kept)

    -- and so does the record that says how the variable is packed
    pub cpr_unchanged : (m : ℕ) → In m own.cpr → Stays b now m []
    cpr_unchanged m i =
        let kept = own_kept m (inr (In-append_right m (nodes_of own.index ++ places_of (leaves_of own.index)) own.cpr i)) in
        subst (Keeps b now m) (cpr_allowed found good at number_is heads block_may (may found.kind (length before)) allowed m i) kept

    -- of the descriptor where the index begins and ends may change
    pub vdr_unchanged : Stays b now own.vdr heads
    vdr_unchanged = subst (Keeps b now own.vdr) (of_own.descriptor_allowed found good at number_is heads block_may (may found.kind (length before)) allowed) (own_kept own.vdr (inl refl))

    -- of the GDR where space is
    not_cdr : ((shape b).gdr == 8) ≡ false
    not_cdr = ne_eqb (shape b).gdr 8 (λ e. clash (sym (is_a-type b (shape b).records cdr_type 8 h.cdr_stands) ∙ ap (type_at b) (sym e) ∙ gdr_typed b (shape b) h))
      where
        h : HasShape b (shape b)
        h = (sound good at).has_shape

        clash : cdr_type ≡ gdr_type → ⊥
        clash e = absurd (omega arith)

    pub gdr_unchanged : Stays b now (shape b).gdr space_fields
    gdr_unchanged = subst (λ (p : Bool). Keeps b now (shape b).gdr (if p then Only [] else Only space_fields)) not_cdr keeps.1.0
