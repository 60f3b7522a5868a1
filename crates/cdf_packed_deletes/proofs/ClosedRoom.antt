-- How many bytes are taken as records go from a packed variable and later ones close up: within the room of the command.
use Rattle.cdf_edits.proofs.Common.{Act, ActsFollow, Bool, Kind, Leaf, List, Range, Variable, VariableShape, [], ap, arith, either, filter, flat_map, inl, inr, leaves_of, length, lt-ltb, map, range, record_number_limit, records_of_leaf, refl, shared, suc, sum, true, variable_of, ℕ, ◌*◌, ◌+◌, ◌-◌, ◌<◌, ◌∷◌, ◌≡◌, ◌≤◌}
use Rattle.std.specs.Prelude.{max}
use Rattle.cdf_format.specs.Records.{linked_size, vvr_bytes}
use Rattle.std.proofs.lemmas.List.Sums.{sum_by-cons}
use Rattle.cdf_edits.proofs.Edits.LeafRecords.{Ascending, count_is}
use Rattle.cdf_edits.proofs.Edits.PlainLeaves.{leaves_ascend}
use Rattle.cdf_edits.specs.Commands.Room.{cut_room, del_recs_cuts_in_part, range_bytes}
use Rattle.cdf_edits.specs.Commands.PutSteps.{Stage}
use Rattle.cdf_edits.specs.Index.Blocks.{record_length}
use Rattle.cdf_packed_deletes.proofs.LeafKinds.{IsRanged, filter_here, filter_later, kept_kinds}
use Rattle.cdf_packed_deletes.specs.Closing.{ClosingDone, done_acts, keeping, keeping_room}
use Rattle.cdf_packed_deletes.specs.Steps.{keeps_some}
use Rattle.cdf_sparse.proofs.TwiceRoom.{longer_within}
use Rattle.cdf_puts.proofs.PutRoom.{taken_sum}
use Rattle.cdf_puts.specs.SoFar.{taken_bytes}

-- ---- a block that keeps some of its records is cut in part

module _ (v : Variable) (first last : ℕ) (order : first ≤ last) where
  abbrev size : ℕ
  size = record_length v

  abbrev part_room : Range → ℕ
  part_room r = 3 * linked_size + 2 * range_bytes v r

  abbrev in_part : Range → Bool
  in_part r = del_recs_cuts_in_part v first last r

  abbrev keeps : Leaf → Bool
  keeps l = keeps_some true first last l

  abbrev new_room : Leaf → ℕ
  new_room l = max linked_size (vvr_bytes (records_of_leaf l * record_length v))

  shares : (l : Leaf) → 0 < shared first last (range l.first l.last) → shared first last (range l.first l.last) < l.last + 1 - l.first → in_part (range l.first l.last) ≡ true
  shares l p q = rw (lt-ltb 0 (shared first last (range l.first l.last)) p, lt-ltb (shared first last (range l.first l.last)) (l.last + 1 - l.first) q) refl

  cut_in_part : (l : Leaf) → IsRanged l → keeps l ≡ true → in_part (range l.first l.last) ≡ true
  cut_in_part l r e = elim (kept_kinds first last order l r e) [
    | inl k ↦ shares l (omega (arith, k.0, k.1, order)) (omega (arith, k.0, k.1, order))
    | inr y ↦ elim y [ inl k ↦ shares l (omega (arith, k.0, k.1, k.2)) (omega (arith, k.0, k.1, k.2)) | inr k ↦ shares l (omega (arith, k.0, k.1, k.2)) (omega (arith, k.0, k.1, k.2)) ]
  ]

  fits : (l : Leaf) → IsRanged l → new_room l ≤ part_room (range l.first l.last)
  fits l r =
      let many : records_of_leaf l * record_length v ≡ (l.last + 1 - l.first) * record_length v = ap (λ (n : ℕ). n * record_length v) (count_is l r.small r.ordered) in
      omega (arith, many)

  pub keeping_within : (low : ℕ) (leaves : List Leaf) → Ascending low (suc record_number_limit) leaves → keeping_room (record_length v) (keeping first last leaves) ≤ sum (map (λ r. 3 * linked_size + 2 * range_bytes v r) (filter (del_recs_cuts_in_part v first last) (map (λ (m : Leaf). range m.first m.last) leaves)))
  keeping_within low [] a = omega arith
  keeping_within low (x ∷ xs) a =
      let r : IsRanged x = record { ordered = a.1; small = omega (arith, a.2) } in
      let more = keeping_within (suc x.last) xs a.3 in
      let rest = map part_room (filter in_part (map (λ (m : Leaf). range m.first m.last) xs)) in
      let both = sum_by-cons (λ n. n) (part_room (range x.first x.last)) rest in
      elim (either (keeps x)) [
        | inl t ↦
            let here = sum_by-cons (λ n. n) (new_room x) (map new_room (keeping first last xs)) in
            let is : keeping_room (record_length v) (keeping first last (x ∷ xs)) ≡ keeping_room (record_length v) (x ∷ keeping first last xs) = ap (keeping_room (record_length v)) (filter_here keeps x xs t) in
            rw (cut_in_part x r t) (omega (arith, is, here, both, more, fits x r))
        | inr f ↦
            let is : keeping_room (record_length v) (keeping first last (x ∷ xs)) ≡ keeping_room (record_length v) (keeping first last xs) = ap (keeping_room (record_length v)) (filter_later keeps x xs f) in
            elim (either (in_part (range x.first x.last))) [ inl t ↦ rw t (omega (arith, is, both, more)) | inr n ↦ rw n (omega (arith, is, more)) ]
      ]

-- ---- the whole

module _ {b mid now : List ℕ} {kind : Kind} {before : List VariableShape} {own : VariableShape} {after : List VariableShape} {first last : ℕ} (x : ClosingDone b mid now kind before own after first last) where
  abbrev acts : List Act
  acts = flat_map (λ (stage : Stage). stage.acts) x.cut.stages

  pub done_takes : taken_bytes (done_acts x) ≤ cut_room (variable_of b own) own.index first last
  done_takes =
      let both = taken_sum acts x.cut.left.acts in
      let none : taken_bytes x.cut.left.acts ≡ 0 = ap (λ (takes : List (ℕ × ℕ)). sum (map (λ (take : ℕ × ℕ). take.1) takes)) x.cut.cuts.takes_none in
      let most = x.cut.takes in
      omega (arith, both, none, most, keeping_within (variable_of b own) first last x.order 0 (leaves_of own.index) (leaves_ascend x.good x.among))

  pub done_within : ActsFollow b now (done_acts x) → length now ≤ length b + cut_room (variable_of b own) own.index first last
  done_within f = omega (arith, longer_within b now (done_acts x) f, done_takes)
