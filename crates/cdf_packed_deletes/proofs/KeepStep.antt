-- One leaf keeps some of its records: the leaves of the index then, the blocks, and what is stored as each record.
use Rattle.cdf_edits.proofs.Common.{Act, Bool, Good, Kind, Leaf, List, None, Option, Range, Some, Stays, Variable, VariableShape, [], ap, append-nil, arith, cases_lt, find, inl, inr, leaves_of, length, map, ne_eqb, plain_bytes, range, record_bytes, record_number_limit, refl, same_Some, stored_bytes, subst, suc, sym, variable_of, ℕ, ◌*◌, ◌++◌, ◌+◌, ◌-◌, ◌<◌, ◌==◌, ◌∙◌, ◌∷◌, ◌≡◌, ◌≢◌, ◌≤◌, ◌⊎◌}
use Rattle.std.proofs.Common.{take}
use Rattle.cdf_edits.proofs.Edits.Common.{StandsAmong}
use Rattle.cdf_edits.proofs.Edits.LeafPieces.{IsOneOf, find_covering, find_first, in_order, times_le}
use Rattle.cdf_edits.proofs.Edits.LeafRecords.{Ascending}
use Rattle.cdf_edits.proofs.Edits.PlainLeaves.{leaves_ascend}
use Rattle.cdf_edits.specs.Commands.PutSteps.{Stage}
use Rattle.cdf_blocks.proofs.PlacedLeaf.{all_placed, count_once, leaves_placed, new_placed, one_placed}
use Rattle.cdf_packed_cuts.proofs.TwoSteps.{other_placed}
use Rattle.cdf_packed_deletes.proofs.LeafKinds.{IsBack, IsBegun, IsBoth, IsRanged}
use Rattle.cdf_packed_deletes.proofs.PartPieces.{part, part_long, piece_back, piece_front, piece_of_first, piece_of_part}
use Rattle.cdf_packed_deletes.specs.Steps.{KeepsSome, bytes_of_parts, count_of, parts_kept}
use Rattle.cdf_put_steps.proofs.BlockKept.{block_long, plain_kept, stays_kept}
use Rattle.cdf_put_steps.proofs.RecordPieces.{piece}
use Rattle.cdf_put_steps.proofs.StepKeeps.{block_unchanged}
use Rattle.cdf_put_steps.proofs.StepStored.{leaf_of, stored_by}
use Rattle.cdf_puts.proofs.CoveringRanges.{some_or_none}
use Rattle.cdf_puts.proofs.GoesThen.{later_size}
use Rattle.cdf_puts.proofs.PutBytes.{found_covering}
use Rattle.cdf_puts.specs.Going.{GoesOn, found_in}

-- ---- leaves in order

-- two with one First are one
pub same_first : (low upto : ℕ) (ls : List Leaf) → Ascending low upto ls → (x y : Leaf) → IsOneOf ls x → IsOneOf ls y → x.first ≡ y.first → x ≡ y
same_first low upto ls a x y i j e = same_Some x y (sym (find_first low upto ls a x i) ∙ ap (λ (n : ℕ). find (λ (old : Leaf). old.first == n) ls) e ∙ find_first low upto ls a y j)

module _ {b : List ℕ} {kind : Kind} {before : List VariableShape} {own : VariableShape} {after : List VariableShape} {closes : Bool} (good : Good b) (at : StandsAmong b kind before own after) (first last : ℕ) (from to : Stage) (acts : List Act) (goes : GoesOn b from.image kind before own from.own after acts) (old : Leaf) (step : KeepsSome (found_in b kind before own) closes first last old from to)
    (one : GoesOn from.image to.image kind before from.own to.own after to.acts) where
  abbrev v : Variable
  v = variable_of b own

  abbrev size : ℕ
  size = record_bytes b own.vdr

  abbrev olds : List Leaf
  olds = leaves_of from.own.index

  abbrev news : List Leaf
  news = leaves_of to.own.index

  abbrev new : Leaf
  new = step.new

  ascend : Ascending 0 (suc record_number_limit) (leaves_of from.own.index)
  ascend = leaves_ascend goes.good goes.among

  pub ranged : (l : Leaf) → IsOneOf (leaves_of from.own.index) l → IsRanged l
  ranged l i = let o = in_order 0 (suc record_number_limit) olds ascend l i in record { ordered = o.ordered; small = omega (arith, o.before) }

  news_are : news ≡ all_placed old.first new olds
  news_are = ap leaves_of step.index_is ∙ leaves_placed old.first new from.own.index (count_once old.first 0 (suc record_number_limit) olds ascend)

  pub stays_leaf : (l : Leaf) → IsOneOf (leaves_of from.own.index) l → l.first ≢ old.first → IsOneOf (leaves_of to.own.index) l
  stays_leaf l i ne = subst (λ (ls : List Leaf). IsOneOf ls l) (sym news_are) (other_placed old.first new olds l i ne)

  pub from_new : (m : Leaf) → IsOneOf (leaves_of to.own.index) m → (m ≡ step.new) ⊎ (IsOneOf (leaves_of from.own.index) m × (m.first ≢ old.first))
  from_new m j = one_placed old.first new olds m (subst (λ (ls : List Leaf). IsOneOf ls m) news_are j)

  pub has_new : IsOneOf (leaves_of to.own.index) step.new
  has_new = subst (λ (ls : List Leaf). IsOneOf ls new) (sym news_are) (new_placed old new olds step.one)

  pub stays_block : (l : Leaf) → IsOneOf (leaves_of from.own.index) l → l.first ≢ old.first → Stays from.image to.image l.place []
  stays_block l i ne = block_unchanged from.image to.image (found_in b kind before own) (λ (r : Range). r.first == old.first) to.acts goes.good goes.among refl step.goes.keeps l i (ne_eqb l.first old.first ne)

  plain_stays : (l : Leaf) → IsOneOf olds l → l.first ≢ old.first → plain_bytes to.image to.own.vdr l ≡ plain_bytes from.image from.own.vdr l
  plain_stays l i ne = plain_kept goes.good goes.among l i one (stays_kept goes.good goes.among l i (stays_block l i ne))

  -- ---- what is stored

  abbrev stored : Stage → ℕ → Option (List ℕ)
  stored stage j = stored_bytes stage.image stage.own.vdr size (leaves_of stage.own.index) j

  found_old : (j : ℕ) (l : Leaf) → IsOneOf olds l → l.first ≤ j → j ≤ l.last → leaf_of j olds ≡ Some l
  found_old j l i f t = find_covering j 0 (suc record_number_limit) olds ascend l i f t

  found_new : (j : ℕ) (l : Leaf) → IsOneOf news l → l.first ≤ j → j ≤ l.last → leaf_of j news ≡ Some l
  found_new j l i f t = find_covering j 0 (suc record_number_limit) news (leaves_ascend one.good one.among) l i f t

  -- beside the leaf all stays
  pub stored_beside : old.first ≤ step.new.first → step.new.last ≤ old.last → (j : ℕ) → (j < old.first) ⊎ (old.last < j)
      → stored_bytes to.image to.own.vdr (record_bytes b own.vdr) (leaves_of to.own.index) j ≡ stored_bytes from.image from.own.vdr (record_bytes b own.vdr) (leaves_of from.own.index) j
  stored_beside begins ends j side = elim (some_or_none (leaf_of j olds)) [
    | inl y ↦
        let l = y.0 in
        let o = found_covering j olds l y.1 in
        let ne : l.first ≢ old.first = λ e. out l (same_first 0 (suc record_number_limit) olds ascend l old o.0 step.one e) o.1.0 o.1.1 in
        ap (stored_by to.image to.own.vdr size j) (found_new j l (stays_leaf l o.0 ne) o.1.0 o.1.1) ∙ ap (λ (xs : List ℕ). Some (piece size (j - l.first) xs)) (plain_stays l o.0 ne) ∙ sym (ap (stored_by from.image from.own.vdr size j) y.1)
    | inr none ↦ elim (some_or_none (leaf_of j news)) [
      | inr gone ↦ ap (stored_by to.image to.own.vdr size j) gone ∙ sym (ap (stored_by from.image from.own.vdr size j) none)
      | inl y ↦
          let m = y.0 in
          let o = found_covering j news m y.1 in
          elim (from_new m o.0) [
            | inl q ↦ absurd (within (subst (λ (z : Leaf). z.first ≤ j) q o.1.0) (subst (λ (z : Leaf). j ≤ z.last) q o.1.1))
            | inr other ↦ (let q : Some m ≡ None = sym (found_old j m other.0 o.1.0 o.1.1) ∙ none in absurd cc)
          ]
    ]
  ]
    where
      within : new.first ≤ j → j ≤ new.last → ⊥
      within f t = elim side [ inl lt ↦ omega (arith, f, t, begins, ends, lt) | inr lt ↦ omega (arith, f, t, begins, ends, lt) ]

      out : (l : Leaf) → l ≡ old → l.first ≤ j → j ≤ l.last → ⊥
      out l q f t =
          let p : l.first ≡ old.first = ap (λ (z : Leaf). z.first) q in
          let r : l.last ≡ old.last = ap (λ (z : Leaf). z.last) q in
          elim side [ inl lt ↦ omega (arith, f, t, p, r, lt) | inr lt ↦ omega (arith, f, t, p, r, lt) ]

  abbrev plain : List ℕ
  plain = plain_bytes from.image from.own.vdr old

  plain_long : length plain ≡ (old.last + 1 - old.first) * size
  plain_long = block_long goes.good goes.among old step.one ∙ ap (λ (m : ℕ). (old.last + 1 - old.first) * m) (later_size good at goes)

  -- the records of the leaf before
  stored_old : (j : ℕ) → old.first ≤ j → j ≤ old.last → stored from j ≡ Some (piece size (j - old.first) plain)
  stored_old j f t = ap (stored_by from.image from.own.vdr size j) (found_old j old step.one f t)

  -- and then
  stored_new : (rs : List Range) → parts_kept closes first last old ≡ rs → (j : ℕ) → new.first ≤ j → j ≤ new.last → stored to j ≡ Some (piece size (j - new.first) (bytes_of_parts from.image v from.own.vdr old rs))
  stored_new rs e j f t =
      let is : plain_bytes to.image to.own.vdr new ≡ bytes_of_parts from.image v from.own.vdr old rs = ap (λ (vdr : ℕ). plain_bytes to.image vdr new) one.vdr_is ∙ step.written.plain_is ∙ ap (bytes_of_parts from.image v from.own.vdr old) e in
      ap (stored_by to.image to.own.vdr size j) (found_new j new has_new f t) ∙ ap (λ (xs : List ℕ). Some (piece size (j - new.first) xs)) is

  first_by : (r : Range) (rest : List Range) → parts_kept closes first last old ≡ r ∷ rest → new.first ≡ r.first
  first_by r rest e = let q : r.first ∷ [] ≡ new.first ∷ [] = ap (λ (rs : List Range). map (λ (x : Range). x.first) (take 1 rs)) (sym e) ∙ step.first_is in cc

  last_by : (rs : List Range) → parts_kept closes first last old ≡ rs → new.last + 1 ≡ new.first + count_of rs
  last_by rs e = step.last_is ∙ ap (λ (xs : List Range). new.first + count_of xs) e

  -- ---- by what the leaf keeps

  -- those before the ones that go, whatever else it had
  module _ (k : IsBegun first last old) (is : parts_kept closes first last old ≡ range old.first (first - 1) ∷ []) where
    abbrev fronts : List Range
    fronts = range old.first (first - 1) ∷ []

    pub front_first : step.new.first ≡ old.first
    front_first = first_by (range old.first (first - 1)) [] is

    pub front_last : step.new.last + 1 ≡ first
    front_last = omega (arith, last_by fronts is, front_first, k.0)

    pub stored_front : (j : ℕ) → (j < first) ⊎ (old.last < j) → stored_bytes to.image to.own.vdr (record_bytes b own.vdr) (leaves_of to.own.index) j ≡ stored_bytes from.image from.own.vdr (record_bytes b own.vdr) (leaves_of from.own.index) j
    stored_front j side = elim (cases_lt j old.first) [
      | inl lt ↦ beside (inl lt)
      | inr ge ↦ elim side [
        | inr lt ↦ beside (inr lt)
        | inl lt ↦ here ge lt
      ]
    ]
      where
        beside : (j < old.first) ⊎ (old.last < j) → stored to j ≡ stored from j
        beside s = stored_beside (omega (arith, front_first)) (omega (arith, front_last, k.1)) j s

        here : old.first ≤ j → j < first → stored to j ≡ stored from j
        here ge lt =
            let c : first - 1 + 1 - old.first ≡ first - old.first = omega (arith, k.0) in
            let z : old.first - old.first ≡ 0 = omega arith in
            let at : j - new.first ≡ j - old.first = ap (λ (n : ℕ). j - n) front_first in
            let part_is : bytes_of_parts from.image v from.own.vdr old fronts ≡ part size 0 (first - old.first) plain = append-nil (part size (old.first - old.first) (first - 1 + 1 - old.first) plain) ∙ (λ i. part size (z i) (c i) plain) in
            stored_new fronts is j (omega (arith, front_first, ge)) (omega (arith, front_last, lt))
            ∙ (λ i. Some (piece size (at i) (part_is i))) ∙ ap Some (piece_of_first size (first - old.first) (j - old.first) plain (omega (arith, ge, lt))) ∙ sym (stored_old j ge (omega (arith, lt, k.1)))

  module _ (k : IsBack first last old) (is : parts_kept closes first last old ≡ range (last + 1) old.last ∷ []) where
    abbrev backs : List Range
    backs = range (last + 1) old.last ∷ []

    pub back_first : step.new.first ≡ last + 1
    back_first = first_by (range (last + 1) old.last) [] is

    pub back_last : step.new.last ≡ old.last
    back_last = omega (arith, last_by backs is, back_first, k.2)

    pub stored_back : (j : ℕ) → (j < first) ⊎ (last < j) → stored_bytes to.image to.own.vdr (record_bytes b own.vdr) (leaves_of to.own.index) j ≡ stored_bytes from.image from.own.vdr (record_bytes b own.vdr) (leaves_of from.own.index) j
    stored_back j side = elim (cases_lt old.last j) [
      | inl lt ↦ beside (inr lt)
      | inr le ↦ elim side [
        | inl lt ↦ beside (inl (omega (arith, lt, k.0)))
        | inr lt ↦ here lt le
      ]
    ]
      where
        beside : (j < old.first) ⊎ (old.last < j) → stored to j ≡ stored from j
        beside s = stored_beside (omega (arith, back_first, k.1)) (omega (arith, back_last)) j s

        here : last < j → j ≤ old.last → stored to j ≡ stored from j
        here lt le =
            let at : j - new.first ≡ j - (last + 1) = ap (λ (n : ℕ). j - n) back_first in
            let shift : last + 1 - old.first + (j - (last + 1)) ≡ j - old.first = omega (arith, k.1, lt) in
            stored_new backs is j (omega (arith, back_first, lt)) (omega (arith, back_last, le))
            ∙ (λ i. Some (piece size (at i) (append-nil (part size (last + 1 - old.first) (old.last + 1 - (last + 1)) plain) i)))
            ∙ ap Some (piece_of_part size (last + 1 - old.first) (old.last + 1 - (last + 1)) (j - (last + 1)) plain (omega (arith, lt, le))) ∙ ap (λ (n : ℕ). Some (piece size n plain)) shift ∙ sym (stored_old j (omega (arith, lt, k.1)) le)

  module _ (order : first ≤ last) (k : IsBoth first last old) (is : parts_kept closes first last old ≡ range old.first (first - 1) ∷ range (last + 1) old.last ∷ []) where
    abbrev boths : List Range
    boths = range old.first (first - 1) ∷ range (last + 1) old.last ∷ []

    pub both_first : step.new.first ≡ old.first
    both_first = first_by (range old.first (first - 1)) (range (last + 1) old.last ∷ []) is

    pub both_last : step.new.last + 1 ≡ first + (old.last - last)
    both_last = omega (arith, last_by boths is, both_first, k.0, k.1)

    begins : old.first ≤ new.first
    begins = omega (arith, both_first)

    ends : new.last ≤ old.last
    ends = omega (arith, both_last, order, k.1)

    abbrev low : List ℕ
    low = part size 0 (first - old.first) plain

    abbrev high : List ℕ
    high = part size (last + 1 - old.first) (old.last - last) plain

    parts_are : bytes_of_parts from.image v from.own.vdr old boths ≡ low ++ high
    parts_are =
        let c : first - 1 + 1 - old.first ≡ first - old.first = omega (arith, k.0) in
        let d : old.last + 1 - (last + 1) ≡ old.last - last = omega arith in
        let z : old.first - old.first ≡ 0 = omega arith in
        λ i. part size (z i) (c i) plain ++ append-nil (part size (last + 1 - old.first) (d i) plain) i

    low_long : length low ≡ (first - old.first) * size
    low_long = let le = times_le (0 + (first - old.first)) (old.last + 1 - old.first) size (omega (arith, k.0, k.1, order)) in part_long size 0 (first - old.first) plain (omega (arith, le, plain_long))

    -- before the first record that goes all stays
    pub stored_low : (j : ℕ) → j < first → stored_bytes to.image to.own.vdr (record_bytes b own.vdr) (leaves_of to.own.index) j ≡ stored_bytes from.image from.own.vdr (record_bytes b own.vdr) (leaves_of from.own.index) j
    stored_low j lt = elim (cases_lt j old.first) [
      | inl less ↦ stored_beside begins ends j (inl less)
      | inr ge ↦
          let at : j - new.first ≡ j - old.first = ap (λ (n : ℕ). j - n) both_first in
          stored_new boths is j (omega (arith, both_first, ge)) (omega (arith, both_last, lt, k.1))
          ∙ (λ i. Some (piece size (at i) (parts_are i))) ∙ ap Some (piece_front size (first - old.first) (j - old.first) low high low_long (omega (arith, ge, lt)))
          ∙ ap Some (piece_of_first size (first - old.first) (j - old.first) plain (omega (arith, ge, lt))) ∙ sym (stored_old j ge (omega (arith, lt, k.1, order)))
    ]

    -- those behind the last one that goes have the numbers behind these
    pub stored_high : (j : ℕ) → first ≤ j → j ≤ step.new.last → stored_bytes to.image to.own.vdr (record_bytes b own.vdr) (leaves_of to.own.index) j ≡ stored_bytes from.image from.own.vdr (record_bytes b own.vdr) (leaves_of from.own.index) (j + (last + 1 - first))
    stored_high j ge le =
        let at : j - new.first ≡ first - old.first + (j - first) = omega (arith, both_first, ge, k.0) in
        let shift : last + 1 - old.first + (j - first) ≡ j + (last + 1 - first) - old.first = omega (arith, ge, k.0, order) in
        stored_new boths is j (omega (arith, both_first, ge, k.0)) le
        ∙ (λ i. Some (piece size (at i) (parts_are i))) ∙ ap Some (piece_back size (first - old.first) (j - first) low high low_long)
        ∙ ap Some (piece_of_part size (last + 1 - old.first) (old.last - last) (j - first) plain (omega (arith, ge, le, both_last)))
        ∙ ap (λ (n : ℕ). Some (piece size n plain)) shift ∙ sym (stored_old (j + (last + 1 - first)) (omega (arith, ge, k.0, order)) (omega (arith, le, both_last, k.1, order)))

    pub stored_past : (j : ℕ) → old.last < j → stored_bytes to.image to.own.vdr (record_bytes b own.vdr) (leaves_of to.own.index) j ≡ stored_bytes from.image from.own.vdr (record_bytes b own.vdr) (leaves_of from.own.index) j
    stored_past j lt = stored_beside begins ends j (inr lt)
