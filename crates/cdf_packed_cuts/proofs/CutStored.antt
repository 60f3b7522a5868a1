-- Of a variable of which no leaf has records before a first one and this one too, all from this one on are cut out of the index: what is stored of a record before it stays, of a later one nothing is.
use Rattle.std.proofs.Common.{List, None, Some, [], ap, arith, inl, inr, subst, suc, sym, ℕ, ◌-◌, ◌<◌, ◌∙◌, ◌≡◌, ◌≤◌}
use Rattle.cdf_edits.proofs.Common.{Good, Kind, Leaf, Nodes, Stays, VariableShape, leaves_of, record_bytes, record_number_limit, shape, stored_bytes}
use Rattle.cdf_edits.proofs.Edits.LeafPieces.{IsOneOf, find_covering, in_order, of_each}
use Rattle.cdf_edits.proofs.Edits.LeafRecords.{Ascending}
use Rattle.cdf_edits.proofs.Edits.PlainLeaves.{leaves_ascend, own_rules}
use Rattle.cdf_edits.proofs.Edits.StandsAmong.{StandsAmong}
use Rattle.cdf_index.proofs.LeafRules.{index_order}
use Rattle.cdf_puts.proofs.CoveringRanges.{some_or_none}
use Rattle.cdf_puts.proofs.PutBytes.{found_covering}
use Rattle.cdf_put_steps.proofs.BlockKept.{plain_kept, stays_kept}
use Rattle.cdf_put_steps.proofs.RecordPieces.{piece}
use Rattle.cdf_put_steps.proofs.StepStored.{leaf_of, stored_by}
use Rattle.cdf_cuts.proofs.CutStay.{LeftOf, from_left, nodes_left}
use Rattle.cdf_cuts.proofs.PastKept.{Front, front, same_index}
use Rattle.cdf_cuts.specs.Past.{EndCut, EndsOrGoes, cut_off, past_span}
use Rattle.cdf_packed_cuts.proofs.TwoSteps.{whole_left}
use Rattle.cdf_packed_cuts.specs.Past.{StoredBefore}

module _ {b now : List ℕ} {kind : Kind} {before : List VariableShape} {own : VariableShape} {after : List VariableShape} {first : ℕ} (good : Good b) (at : StandsAmong b kind before own after) (uncut : (l : Leaf) → IsOneOf (leaves_of own.index) l → EndsOrGoes first l) (e : EndCut b now kind before own (cut_off own first) after first) where
  abbrev own' : VariableShape
  own' = cut_off own first

  abbrev size : ℕ
  size = record_bytes b own.vdr

  abbrev leaves : List Leaf
  leaves = leaves_of own.index

  abbrev lefts : List Leaf
  lefts = leaves_of own'.index

  ascend : Ascending 0 (suc record_number_limit) leaves
  ascend = leaves_ascend good at

  ascend_now : Ascending 0 (suc record_number_limit) lefts
  ascend_now = leaves_ascend e.goes_on.good e.goes_on.among

  left : LeftOf (past_span first) leaves lefts
  left = subst (λ (y : Nodes). LeftOf (past_span first) leaves (leaves_of y)) (same_index first own.index (index_order b (shape b).records own.vdr own.index (own_rules good at).1)) (nodes_left (past_span first) own.index)

  -- a leaf that is left was there, and ends before the first record that goes
  was_there : (m : Leaf) → IsOneOf lefts m → (l : Leaf) × (IsOneOf leaves l × Front first l m)
  was_there m i =
      let t = from_left (past_span first) leaves lefts left m i in
      let small = (in_order 0 (suc record_number_limit) leaves ascend t.0 t.1.0).before in
      (t.0, (t.1.0, front first t.0 m (omega (arith, small)) t.1.1))

  none_now : (k : ℕ) → leaf_of k leaves ≡ None → leaf_of k lefts ≡ None
  none_now k none = elim (some_or_none (leaf_of k lefts)) [
    | inr gone ↦ gone
    | inl y ↦
        let o = found_covering k lefts y.0 y.1 in
        let t = was_there y.0 o.0 in
        let f = t.1.1 in
        let q : Some t.0 ≡ None = sym (find_covering k 0 (suc record_number_limit) leaves ascend t.0 t.1.0 (omega (arith, f.first_is, o.1.0)) (omega (arith, f.last_is, o.1.1))) ∙ none in
        absurd cc
  ]

  stored_front : (k : ℕ) → k < first → stored_bytes now own'.vdr size lefts k ≡ stored_bytes b own.vdr size leaves k
  stored_front k lt = elim (some_or_none (leaf_of k leaves)) [
    | inl y ↦
        let l = y.0 in
        let o = found_covering k leaves l y.1 in
        let ends : l.last < first = elim (uncut l o.0) [ inl s ↦ s | inr s ↦ absurd (omega (arith, s, o.1.0, lt)) ] in
        let here = find_covering k 0 (suc record_number_limit) lefts ascend_now l (whole_left first good at l o.0 ends) o.1.0 o.1.1 in
        let stays = of_each (λ (x : Leaf). x.first < first → Stays b now x.place []) leaves l e.blocks o.0 (omega (arith, o.1.0, lt)) in
        let same = plain_kept good at l o.0 e.goes_on (stays_kept good at l o.0 stays) in
        ap (stored_by now own'.vdr size k) here ∙ ap Some (ap (piece size (k - l.first)) same) ∙ sym (ap (stored_by b own.vdr size k) y.1)
    | inr none ↦ ap (stored_by now own'.vdr size k) (none_now k none) ∙ sym (ap (stored_by b own.vdr size k) none)
  ]

  stored_gone : (k : ℕ) → first ≤ k → stored_bytes now own'.vdr size lefts k ≡ None
  stored_gone k le = elim (some_or_none (leaf_of k lefts)) [
    | inr none ↦ ap (stored_by now own'.vdr size k) none
    | inl y ↦
        let o = found_covering k lefts y.0 y.1 in
        let f = (was_there y.0 o.0).1.1 in
        absurd (omega (arith, f.last_is, f.reaches, o.1.1, le))
  ]

  pub cut_stored : StoredBefore b now own own' first
  cut_stored = record { front = stored_front; gone = stored_gone }
