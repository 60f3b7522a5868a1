-- The records of a variable are those of no other owner; and what a command may change of all records, where it changes the VDR of one variable.
use Rattle.cdf_edits.proofs.Common.{Act, AllKeep, Allowance, Allowances, Field, File, Found, In, IsSound, Keeps, Kind, Leaf, List, None, OneVariable, Only, Option, OwnAllowances, Owner, R, Range, Shape, Some, Unused, VariableShape, Z, [], ap, append_assoc, arith, eq-eqb, find, flat_map, if◌then◌else◌, inl, inr, leaves_of, length, ne_eqb, of_variable, only_of, owned, owned_by, owned_by_attributes, owned_by_variables, owned_records, range, range_at, refl, same_kind, shape, shapes_of, slice_get, subst, suc, sym, times, true, type_at, unused_records, variable_records, vdr_type, vxr_type, ℕ, ◌++◌, ◌+◌, ◌==◌, ◌∙◌, ◌∷◌, ◌≡◌, ◌≤◌}
use Rattle.cdf_edits.proofs.Commands.KeptRecords.{Stood, AllKeep-append, keep_owned, keep_variables}
use Rattle.cdf_edits.proofs.Commands.ListParts.{got-middle}
use Rattle.cdf_edits.proofs.Edits.InRecords.{places_of}
use Rattle.cdf_edits.proofs.Edits.OwnersKept.{keep_all}
use Rattle.cdf_edits.proofs.Edits.RecordFrame.{index_records}
use Rattle.cdf_edits.proofs.Edits.VariableKinds.{kind_times, other_kind}
use Rattle.cdf_edits.proofs.Frame.OwnersApart.{none-out, times-append, times-three, times-in, owned-times, file_records, all_attribute_records, all_variable_records}

-- ---- whose the records are

-- a record of a variable is no record of another owner
pub record OnlyVariable (b : List ℕ) (s : Shape) (kind : Kind) (before after : List VariableShape) (m : ℕ) : Type 0 where
  pub in_file : In m (file_records s) → ⊥
  pub in_attributes : In m (all_attribute_records s) → ⊥
  pub in_before : In m (flat_map variable_records before) → ⊥
  pub in_after : In m (flat_map variable_records after) → ⊥
  pub in_others : In m (flat_map variable_records (shapes_of s (other_kind kind))) → ⊥
  pub in_unused : In m (unused_records b s) → ⊥

none_besides : (f a v u x o y z k n : ℕ) → n ≤ 1 → n ≡ f + (a + (v + u)) → v ≡ k + z → k ≡ x + (o + y) → 1 ≤ o → (f ≡ 0) × (a ≡ 0) × (x ≡ 0) × (y ≡ 0) × (z ≡ 0) × (u ≡ 0)
none_besides f a v u x o y z k n l p q r t = (omega arith, omega arith, omega arith, omega arith, omega arith, omega arith)

pub only_variable : {b : List ℕ} {s : Shape} → IsSound b s → (kind : Kind) (before : List VariableShape) (own : VariableShape) (after : List VariableShape) → shapes_of s kind ≡ before ++ own ∷ after → (m : ℕ) → In m (variable_records own) → OnlyVariable b s kind before after m
only_variable {b = b} {s = s} sound kind before own after was m i =
    let count = λ (vs : List VariableShape). times m (flat_map variable_records vs) in
    let one : count (own ∷ []) ≡ times m (variable_records own) + 0 = times-append m (variable_records own) [] in
    let parts = ap count was ∙ times-three variable_records m before (own ∷ []) after in
    let none = none_besides (times m (file_records s)) (times m (all_attribute_records s)) (times m (all_variable_records s)) (times m (unused_records b s)) (count before) (count (own ∷ [])) (count after) (count (shapes_of s (other_kind kind))) (count (shapes_of s kind)) (times m (owned_records b s))
    (sound.not_twice m) (owned-times b s m) (kind_times kind s m) parts (some (times m (variable_records own)) _ (times-in m (variable_records own) i) one) in
    record {
      in_file = none-out m (file_records s) none.0;
      in_attributes = none-out m (all_attribute_records s) none.1;
      in_before = none-out m (flat_map variable_records before) none.2;
      in_after = none-out m (flat_map variable_records after) none.3;
      in_others = none-out m (flat_map variable_records (shapes_of s (other_kind kind))) none.4;
      in_unused = none-out m (unused_records b s) none.5;
    }
  where
    some : (n k : ℕ) → 1 ≤ n → k ≡ n + 0 → 1 ≤ k
    some n k l e = omega arith

-- ---- what a command on a variable may change of its VDR

-- no block stands there
pub find_none : (leaves : List Leaf) (p : ℕ) → (In p (places_of leaves) → ⊥) → find (λ (leaf : Leaf). leaf.place == p) leaves ≡ None
find_none [] p out = refl
find_none (leaf ∷ more) p out = rw (ne_eqb leaf.place p (λ e. out (inl (sym e)))) (find_none more p (λ i. out (inr i)))

pub same_as_itself : (kind : Kind) → same_kind kind kind ≡ true
same_as_itself R = refl
same_as_itself Z = refl

module _ (b : List ℕ) (found : Found) (before : List VariableShape) (own : VariableShape) (after : List VariableShape) (was : shapes_of (shape b) found.kind ≡ before ++ own ∷ after) (at : found.number ≡ length before) (vdr : type_at b own.vdr ≡ vdr_type found.kind) (no_block : In own.vdr (places_of (leaves_of own.index)) → ⊥) where
  no_range : range_at (shape b) found own.vdr ≡ None
  no_range =
      let there : slice_get (shapes_of (shape b) found.kind) found.number ≡ Some own = ap (slice_get (shapes_of (shape b) found.kind)) at ∙ ap (λ (vs : List VariableShape). slice_get vs (length before)) was ∙ got-middle before own after in
      ap (range_in own.vdr) there ∙ ap in_leaf (find_none (leaves_of own.index) own.vdr no_block)
    where
      in_leaf : Option Leaf → Option Range
      in_leaf None = None
      in_leaf (Some leaf) = Some (range leaf.first leaf.last)

      range_in : ℕ → Option VariableShape → Option Range
      range_in place None = None
      range_in place (Some v) = in_leaf (find (λ (leaf : Leaf). leaf.place == place) (leaves_of v.index))

  pub vdr_allowance : (mine : OwnAllowances) (others : List Field) → of_variable b (shape b) found mine others found.kind (length before) own.vdr ≡ mine.vdr
  vdr_allowance mine others =
      let same = same_as_itself found.kind in
      let number : (found.number == length before) ≡ true = eq-eqb found.number (length before) at in
      let type : (type_at b own.vdr == vdr_type found.kind) ≡ true = eq-eqb (type_at b own.vdr) (vdr_type found.kind) vdr in
      let none = no_range in
      λ i. if same i then (if number i then (elim (none i) as (λ x. Allowance) [ Some r ↦ mine.blocks r | None ↦ if type i then mine.vdr else (if type_at b own.vdr == vxr_type then mine.nodes else mine.cpr) ]) else only_of b own.vdr (vdr_type found.kind) others) else Only []

-- ---- all records

module _ (b now : List ℕ) (may : Allowances) (acts : List Act) where
  pub variables-append : (kind : Kind) (n : ℕ) (xs ys : List VariableShape) → owned_by_variables kind n (xs ++ ys) ≡ owned_by_variables kind n xs ++ owned_by_variables kind (n + length xs) ys
  variables-append kind n [] ys = ap (λ (k : ℕ). owned_by_variables kind k ys) (none n)
    where
      none : (n : ℕ) → n ≡ n + 0
      none n = omega arith
  variables-append kind n (x ∷ xs) ys =
      ap (λ (r : List (ℕ × Owner)). owned_by (OneVariable kind n) (variable_records x) ++ r) (variables-append kind (suc n) xs ys ∙ ap (λ (k : ℕ). owned_by_variables kind (suc n) xs ++ owned_by_variables kind k ys) (next n (length xs)))
      ∙ sym (append_assoc (owned_by (OneVariable kind n) (variable_records x)) (owned_by_variables kind (suc n) xs) (owned_by_variables kind (n + length (x ∷ xs)) ys))
    where
      next : (n k : ℕ) → suc n + k ≡ n + suc k
      next n k = omega arith

  -- the variables of a kind, in front of one and behind it
  pub keep_variable_parts : (kind : Kind) (before : List VariableShape) (own : VariableShape) (after : List VariableShape) → shapes_of (shape b) kind ≡ before ++ own ∷ after → AllKeep b now may acts (owned_by_variables kind 0 before) → AllKeep b now may acts (owned_by (OneVariable kind (length before)) (variable_records own))
      → AllKeep b now may acts (owned_by_variables kind (suc (length before)) after) → AllKeep b now may acts (owned_by_variables kind 0 (shapes_of (shape b) kind))
  keep_variable_parts kind before own after was front mine back =
      let rest = AllKeep-append b now may acts (owned_by (OneVariable kind (length before)) (variable_records own)) (owned_by_variables kind (suc (length before)) after) mine back in
      let all : AllKeep b now may acts (owned_by_variables kind 0 before ++ owned_by_variables kind (0 + length before) (own ∷ after)) = AllKeep-append b now may acts (owned_by_variables kind 0 before) (owned_by_variables kind (0 + length before) (own ∷ after)) front (subst (λ (k : ℕ). AllKeep b now may acts (owned_by_variables kind k (own ∷ after))) (none (length before)) rest) in
      subst (λ (vs : List VariableShape). AllKeep b now may acts (owned_by_variables kind 0 vs)) (sym was) (subst (AllKeep b now may acts) (sym (variables-append kind 0 before (own ∷ after))) all)
    where
      none : (n : ℕ) → n ≡ 0 + n
      none n = omega arith

  -- its VDR keeps what it has to, and what is behind it stays
  pub keep_own : (kind : Kind) (n : ℕ) (own : VariableShape) → Keeps b now own.vdr (may.variables kind n own.vdr) → ((m : ℕ) → In m (index_records own) → Stood b now m) → AllKeep b now may acts (owned_by (OneVariable kind n) (variable_records own))
  keep_own kind n own vdr behind = (vdr, keep_owned b now may acts (OneVariable kind n) (index_records own) behind)

  -- the variables of both kinds, of which those of one are given
  pub keep_kinds : (kind : Kind) → AllKeep b now may acts (owned_by_variables kind 0 (shapes_of (shape b) kind)) → AllKeep b now may acts (owned_by_variables (other_kind kind) 0 (shapes_of (shape b) (other_kind kind)))
      → AllKeep b now may acts (owned_by_variables R 0 (shape b).r_variables) × AllKeep b now may acts (owned_by_variables Z 0 (shape b).z_variables)
  keep_kinds R own other = (own, other)
  keep_kinds Z own other = (other, own)

  -- one variable changes in its VDR: the records of the file, of attributes and of unused ones keep what they have to, and those of other variables stay
  pub keep_one_variable : (kind : Kind) (before : List VariableShape) (own : VariableShape) (after : List VariableShape) → shapes_of (shape b) kind ≡ before ++ own ∷ after → Keeps b now own.vdr (may.variables kind (length before) own.vdr) → ((m : ℕ) → In m (index_records own) → Stood b now m)
      → ((m : ℕ) → In m (flat_map variable_records before) → Stood b now m) → ((m : ℕ) → In m (flat_map variable_records after) → Stood b now m) → ((m : ℕ) → In m (flat_map variable_records (shapes_of (shape b) (other_kind kind))) → Stood b now m)
      → AllKeep b now may acts (owned_by File (8 ∷ (shape b).gdr ∷ [])) → AllKeep b now may acts (owned_by_attributes 0 (shape b).attributes) → AllKeep b now may acts (owned_by Unused (unused_records b (shape b))) → AllKeep b now may acts (owned b (shape b))
  keep_one_variable kind before own after was vdr behind front back other f a u =
      let mine = keep_variable_parts kind before own after was (keep_variables b now may acts kind 0 before front) (keep_own kind (length before) own vdr behind) (keep_variables b now may acts kind (suc (length before)) after back) in
      let both = keep_kinds kind mine (keep_variables b now may acts (other_kind kind) 0 (shapes_of (shape b) (other_kind kind)) other) in
      keep_all b now may acts f a both.0 both.1 u
