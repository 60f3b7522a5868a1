-- A leaf that has as many records as one that was there, at its place, keeps its rules where its block keeps its bytes, packed or not.
use Rattle.cdf_cuts.proofs.Common.{Each, In, Kept, Leaf, List, Nodes, [], ap, arith, false, leaves_of, subst, sym, ℕ, ◌++◌, ◌*◌, ◌∙◌, ◌∷◌, ◌≡◌, ◌⊎◌, inl, inr}
use Rattle.cdf_edits.proofs.Common.{Good, Hold, Hold-split, Kind, LeafFits, Mark, Shape, VariableShape, flat_map, is_a, is_in-true, leaf_rows, negsuc, nodes_rows, plain_size, pos, record_bytes, record_number_limit, records_of_leaf, shape, type_kept}
use Rattle.cdf_edits.proofs.Edits.Common.{StandsAmong, behind_in, sound}
use Rattle.cdf_edits.proofs.Edits.IndexEdited.{IndexEdit, file, stays}
use Rattle.cdf_edits.proofs.Edits.LeafPieces.{IsOneOf, place_in}
use Rattle.cdf_edits.proofs.Edits.PlainLeaves.{own_rules}
use Rattle.cdf_edits.proofs.Edits.VariableCopied.{block_behind}
use Rattle.cdf_edits.proofs.Frame.VdrAlike.{plain_alike}
use Rattle.cdf_edits.proofs.Frame.VdrStays.{packed_stays, stays_alike}
use Rattle.cdf_edits.proofs.Rules.OfIndexes.{leaf_same}

-- one of these leaves stands there, with as many records
pub record AsMany (leaves : List Leaf) (m : Leaf) : Type 0 where
  pub old : Leaf
  pub one : IsOneOf leaves old
  pub place_is : m.place ≡ old.place
  pub count_is : records_of_leaf m ≡ records_of_leaf old

-- a leaf that is not packed, or that has all records of one of these
abbrev pub IsPlainOrWhole : List Leaf → Leaf → Type 0
IsPlainOrWhole leaves m = (m.packed ≡ false) ⊎ AsMany leaves m

-- the rules on a leaf ask for its place and for the count of its records alone
pub rows_as_many : (b records : List ℕ) (vdr : ℕ) (l m : Leaf) → m.place ≡ l.place → records_of_leaf m ≡ records_of_leaf l → Hold (leaf_rows b records vdr l) → Hold (leaf_rows b records vdr m)
rows_as_many b records vdr l m at count h = rw (at, count) h

-- the rules on one of several leaves
pub rows_of : (b records : List ℕ) (vdr : ℕ) (leaves : List Leaf) → Hold (flat_map (leaf_rows b records vdr) leaves) → (l : Leaf) → IsOneOf leaves l → Hold (leaf_rows b records vdr l)
rows_of b records vdr [] rows l i = absurd i
rows_of b records vdr (x ∷ more) rows l (inl q) = subst (λ (y : Leaf). Hold (leaf_rows b records vdr y)) q (Hold-split (leaf_rows b records vdr x) (flat_map (leaf_rows b records vdr) more) rows).0
rows_of b records vdr (x ∷ more) rows l (inr i) = rows_of b records vdr more (Hold-split (leaf_rows b records vdr x) (flat_map (leaf_rows b records vdr) more) rows).1 l i

module _ {b now : List ℕ} {kind : Kind} {before : List VariableShape} {own : VariableShape} {after : List VariableShape} {index : Nodes} {new list : List ℕ} {marks : List Mark} {reborn : List ℕ} (good : Good b) (at : StandsAmong b kind before own after) (x : IndexEdit b now kind own index new list marks reborn) where
  abbrev s : Shape
  s = shape b

  -- a record that is kept has the type that it had
  is_a_now : (type m : ℕ) → In m s.records → Kept b now m → is_a now new type m ≡ is_a b s.records type m
  is_a_now type m i k = grind (arith, is_in-true m new (x.edit.sub m i), is_in-true m s.records i, type_kept b now m k.same k.long)

  -- a leaf whose block is kept has its rules
  pub rules_stay : (l : Leaf) → IsOneOf (leaves_of own.index) l → Kept b now l.place → Hold (leaf_rows now new own.vdr l)
  rules_stay l i k =
      let was = behind_in good at l.place (block_behind own l.place (place_in (leaves_of own.index) l i)) in
      let alike = stays_alike (file good at x) (stays good at x) in
      let rule = rows_of b s.records own.vdr (leaves_of own.index) (Hold-split (nodes_rows b s.records (negsuc 0) (pos record_number_limit) own.index) (flat_map (leaf_rows b s.records own.vdr) (leaves_of own.index)) (own_rules good at).1).1 l i in
      subst Hold (sym (leaf_same b now (file good at x) own.vdr own.vdr (packed_stays (file good at x) (stays good at x)) (plain_alike (file good at x) alike) s.records new (sound good at).has_shape.fixed l (λ type. is_a_now type l.place was k) k rule)) rule

  -- so has one with as many records
  pub many_ruled : (m : Leaf) (w : AsMany (leaves_of own.index) m) → Kept b now w.old.place → Hold (leaf_rows now new own.vdr m)
  many_ruled m w k = rows_as_many now new own.vdr w.old m w.place_is w.count_is (rules_stay w.old w.one k)
