-- A leaf of a packed variable is given its records before a first one alone, and then all from this one on are cut: what is stored of a record before it stays, of a later one nothing is.
use Rattle.std.proofs.Common.{List, None, Some, [], ap, arith, inl, inr, subst, suc, sym, ℕ, ◌*◌, ◌+◌, ◌-◌, ◌<◌, ◌∙◌, ◌≡◌, ◌≢◌, ◌≤◌}
use Rattle.cdf_edits.proofs.Common.{Kind, Leaf, Stays, VariableShape, drop, drop-take, leaves_of, plain_bytes, record_bytes, record_number_limit, stored_bytes, take, take-take}
use Rattle.cdf_edits.proofs.Edits.LeafPieces.{IsOneOf, find_covering, of_each, times_le}
use Rattle.cdf_edits.proofs.Edits.LeafRecords.{Ascending}
use Rattle.cdf_edits.proofs.Edits.PlainLeaves.{leaves_ascend}
use Rattle.cdf_puts.proofs.CoveringRanges.{some_or_none}
use Rattle.cdf_puts.proofs.GoesThen.{later_size}
use Rattle.cdf_puts.proofs.PutBytes.{found_covering}
use Rattle.cdf_put_steps.proofs.BlockKept.{plain_kept, stays_kept}
use Rattle.cdf_put_steps.proofs.RecordPieces.{piece}
use Rattle.cdf_put_steps.proofs.StepStored.{leaf_of, stored_by}
use Rattle.cdf_cuts.specs.Past.{cut_off}
use Rattle.cdf_packed_cuts.proofs.CutStored.{cut_stored}
use Rattle.cdf_packed_cuts.proofs.TwoActs.{lasts, mids}
use Rattle.cdf_packed_cuts.proofs.TwoIndex.{is_old}
use Rattle.cdf_packed_cuts.proofs.TwoSteps.{TwoSteps, from_mid, mid_ends, other_place, to_mid}
use Rattle.cdf_packed_cuts.specs.Past.{StoredBefore}

-- a record among so many first ones
piece_front : (xs : List ℕ) (size j n : ℕ) → j < n → piece size j (take (n * size) xs) ≡ piece size j xs
piece_front xs size j n lt =
    let le = times_le (suc j) n size (omega (arith, lt)) in
    let fits : size ≤ n * size - j * size = omega (arith, le) in
    let all : j * size + (n * size - j * size) ≡ n * size = omega (arith, le) in
    let split : drop (j * size) (take (n * size) xs) ≡ take (n * size - j * size) (drop (j * size) xs) = ap (λ (m : ℕ). drop (j * size) (take m xs)) (sym all) ∙ drop-take (j * size) (n * size - j * size) xs in
    ap (take size) split ∙ take-take size (n * size - j * size) (drop (j * size) xs) fits

module _ {b mid now : List ℕ} {kind : Kind} {before : List VariableShape} {own : VariableShape} {after : List VariableShape} {first : ℕ} {old new : Leaf} {plain : List ℕ} (t : TwoSteps b mid now kind before own after first old new plain) where
  abbrev own1 : VariableShape
  own1 = t.short.own'

  abbrev own2 : VariableShape
  own2 = cut_off t.short.own' first

  abbrev size : ℕ
  size = record_bytes b own.vdr

  abbrev leaves : List Leaf
  leaves = leaves_of own.index

  ascend : Ascending 0 (suc record_number_limit) leaves
  ascend = leaves_ascend t.good t.among

  ascend_mid : Ascending 0 (suc record_number_limit) (mids t)
  ascend_mid = leaves_ascend t.short.goes_on.good t.short.goes_on.among

  found_mid : (k : ℕ) (l : Leaf) → IsOneOf (mids t) l → l.first ≤ k → k ≤ l.last → leaf_of k (mids t) ≡ Some l
  found_mid k l i f u = find_covering k 0 (suc record_number_limit) (mids t) ascend_mid l i f u

  -- of a leaf that stays
  other_stored : (k : ℕ) (l : Leaf) → IsOneOf leaves l → (l ≡ old → ⊥) → l.first ≤ k → k ≤ l.last → leaf_of k leaves ≡ Some l → stored_bytes mid own1.vdr size (mids t) k ≡ stored_bytes b own.vdr size leaves k
  other_stored k l i ne f u is =
      let stays = of_each (λ (x : Leaf). x.place ≢ old.place → Stays b mid x.place []) leaves l t.short.blocks i (other_place t.good t.among t.one t.short l i ne) in
      let same = plain_kept t.good t.among l i t.short.goes_on (stays_kept t.good t.among l i stays) in
      ap (stored_by mid own1.vdr size k) (found_mid k l (to_mid t.good t.among t.one t.short l i ne) f u) ∙ ap Some (ap (piece size (k - l.first)) same) ∙ sym (ap (stored_by b own.vdr size k) is)

  -- of the one that was shortened
  plain_mid : plain_bytes mid own1.vdr new ≡ take ((new.last + 1 - new.first) * size) (plain_bytes b own.vdr old)
  plain_mid = ap (λ (vdr : ℕ). plain_bytes mid vdr new) t.short.goes_on.vdr_is ∙ t.short.written.plain_is ∙ t.plain_is

  old_stored : (k : ℕ) → k < first → old.first ≤ k → leaf_of k leaves ≡ Some old → stored_bytes mid own1.vdr size (mids t) k ≡ stored_bytes b own.vdr size leaves k
  old_stored k lt f is =
      let first_is = t.first_is in
      let last_is = t.last_is in
      let from : new.first ≤ k = omega (arith, first_is, f) in
      let upto : k ≤ new.last = omega (arith, last_is, lt) in
      let under : k - new.first < new.last + 1 - new.first = omega (arith, from, upto) in
      ap (stored_by mid own1.vdr size k) (found_mid k new t.short.one from upto)
      ∙ ap Some (ap (piece size (k - new.first)) plain_mid ∙ piece_front (plain_bytes b own.vdr old) size (k - new.first) (new.last + 1 - new.first) under ∙ ap (λ (n : ℕ). piece size (k - n) (plain_bytes b own.vdr old)) first_is)
      ∙ sym (ap (stored_by b own.vdr size k) is)

  -- no leaf has it
  none_mid : (k : ℕ) → k < first → leaf_of k leaves ≡ None → leaf_of k (mids t) ≡ None
  none_mid k lt none = elim (some_or_none (leaf_of k (mids t))) [
    | inr gone ↦ gone
    | inl y ↦
        let o = found_covering k (mids t) y.0 y.1 in
        let was = λ (l : Leaf) (i : IsOneOf leaves l) (f : l.first ≤ k) (u : k ≤ l.last). clash l (sym (find_covering k 0 (suc record_number_limit) leaves ascend l i f u) ∙ none) in
        absurd (elim (from_mid t.good t.among t.one t.short y.0 o.0) [
          | inl q ↦
              let first_is = t.first_is in
              let behind = t.split.behind in
              let from : new.first ≤ k = subst (λ (l : Leaf). l.first ≤ k) q o.1.0 in
              was old t.one (omega (arith, first_is, from)) (omega (arith, behind, lt))
          | inr other ↦ was y.0 other.0 o.1.0 o.1.1
        ])
  ]
    where
      clash : (l : Leaf) → Some l ≡ None → ⊥
      clash l e = cc

  first_front : (k : ℕ) → k < first → stored_bytes mid own1.vdr size (mids t) k ≡ stored_bytes b own.vdr size leaves k
  first_front k lt = elim (some_or_none (leaf_of k leaves)) [
    | inr none ↦ ap (stored_by mid own1.vdr size k) (none_mid k lt none) ∙ sym (ap (stored_by b own.vdr size k) none)
    | inl y ↦
        let o = found_covering k leaves y.0 y.1 in
        elim (is_old t y.0 o.0) [
          | inl q ↦ old_stored k lt (subst (λ (l : Leaf). l.first ≤ k) q o.1.0) (y.1 ∙ ap Some q)
          | inr ne ↦ other_stored k y.0 o.0 ne o.1.0 o.1.1 y.1
        ]
  ]

  -- ---- and then all from this record on are cut

  size_mid : record_bytes mid own1.vdr ≡ size
  size_mid = later_size t.good t.among t.short.goes_on

  next : StoredBefore mid now own1 own2 first
  next = cut_stored t.short.goes_on.good t.short.goes_on.among (mid_ends t.good t.among t.one t.short t.split t.last_is) t.cut

  pub stored : StoredBefore b now own own2 first
  stored = record {
    front = λ k lt. subst (λ (n : ℕ). stored_bytes now own2.vdr n (lasts t) k ≡ stored_bytes mid own1.vdr n (mids t) k) size_mid (next.front k lt) ∙ first_front k lt;
    gone = λ k le. subst (λ (n : ℕ). stored_bytes now own2.vdr n (lasts t) k ≡ None) size_mid (next.gone k le);
  }
