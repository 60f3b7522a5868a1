-- What is stored as each record, before and after the step of one leaf.
use Rattle.cdf_edits.proofs.Common.{Act, Bool, Leaf, List, None, Option, Range, Some, Variable, VariableShape, ap, arith, covers, either, extent, false, find, inl, inr, is_little, leaves_of, length, min, nat_lt, nat_tests, option_map, pad_record, plain_bytes, range, record_bytes, record_number_limit, refl, stored_bytes, subst, suc, sym, true, turned, variable_of, Kind, Good, ℕ, ◌*◌, ◌+◌, ◌-◌, ◌<◌, ◌∙◌, ◌≡◌, ◌≤◌, ◌⊎◌}
use Rattle.cdf_base.specs.Bytes.{put}
use Rattle.cdf_edits.proofs.Edits.Common.{StandsAmong}
use Rattle.cdf_edits.proofs.Edits.LeafPieces.{IsOneOf, covers_within, find_covering}
use Rattle.cdf_edits.proofs.Edits.PlainLeaves.{leaves_ascend}
use Rattle.cdf_edits.specs.Commands.PutSteps.{Put, PutsLeaf, Stage, bytes_after, leaf_at, records_from}
use Rattle.cdf_edits.specs.Index.Blocks.{block_count, firsts_of, new_range, next_first}
use Rattle.cdf_puts.proofs.CoveringRanges.{some_or_none}
use Rattle.cdf_puts.proofs.GoesThen.{later_size}
use Rattle.cdf_puts.proofs.PutBytes.{found_covering}
use Rattle.cdf_puts.specs.Going.{GoesOn, found_in}
use Rattle.cdf_put_steps.proofs.BlockKept.{block_long, plain_kept, stays_kept}
use Rattle.cdf_put_steps.proofs.KeptAlong.{KeptSo, leaves_step}
use Rattle.cdf_put_steps.proofs.RecordPieces.{piece, piece_beside, piece_put, piece_written, put_record, records_long}
use Rattle.cdf_put_steps.proofs.StepKeeps.{block_unchanged}
use Rattle.cdf_put_steps.proofs.StepLeaves.{LeavesStep}
use Rattle.cdf_put_steps.specs.Along.{put_in}
use Rattle.std.proofs.Common.{if◌then◌else◌}

-- the leaf that has a record
abbrev pub leaf_of : ℕ → List Leaf → Option Leaf
leaf_of j leaves = find (λ leaf. covers j (range leaf.first leaf.last)) leaves

-- what is stored as a record that is found
abbrev pub stored_by : List ℕ → ℕ → ℕ → ℕ → Option Leaf → Option (List ℕ)
stored_by b vdr size j o = option_map (λ leaf. piece size (j - leaf.first) (plain_bytes b vdr leaf)) o

-- the range of a leaf, or of the block that is added
abbrev range_in : Variable → List ℕ → ℕ → Option Leaf → Range
range_in v firsts k None = new_range v firsts k
range_in v firsts k (Some old) = range old.first old.last

-- a new block holds one record where it is before MaxRec
new_alone : (v : Variable) (fs : List ℕ) (n k j : ℕ) → k ≤ n → k ≤ j → j ≤ (new_range v fs k).last → (j < k) ⊎ (n < j) → (j < k) ⊎ (j < extent v.max_rec) → ⊥
new_alone v fs n k j le low high side few = elim (either (nat_lt k (extent v.max_rec))) [
  | inl t ↦ let last : j ≤ k = rw t at high in absurd (grind (arith, side, last, le, low))
  | inr f ↦ absurd (grind (arith, nat_tests, f, few, low))
]

module _ {b : List ℕ} {kind : Kind} {before : List VariableShape} {own : VariableShape} {after : List VariableShape} (n : ℕ) (raw : List ℕ) (good : Good b) (at : StandsAmong b kind before own after) (from to : Stage) (acts : List Act) (x : KeptSo b kind before own after n from acts) (leaf : PutsLeaf (put_in b kind before own n raw) from to)
    (one : GoesOn from.image to.image kind before from.own to.own after to.acts) (raw_long : length raw ≡ record_bytes b own.vdr) (pad_long : length (turned (variable_of b own).type (is_little b) (pad_record (variable_of b own))) ≡ record_bytes b own.vdr) where
  abbrev p : Put
  p = put_in b kind before own n raw

  abbrev size : ℕ
  size = record_bytes b own.vdr

  abbrev olds : List Leaf
  olds = leaves_of from.own.index

  abbrev news : List Leaf
  news = leaves_of to.own.index

  abbrev new : Leaf
  new = leaf.new

  abbrev k : ℕ
  k = from.next

  step : LeavesStep k olds news new
  step = leaves_step n raw good at from to acts x leaf one

  size_from : record_bytes from.image from.own.vdr ≡ size
  size_from = later_size good at x.goes

  pad_from : length (turned (variable_of b own).type (is_little from.image) (pad_record (variable_of b own))) ≡ size
  pad_from = rw x.goes.file.little pad_long

  -- the leaf of a record, before and after
  found_old : (j : ℕ) (l : Leaf) → IsOneOf olds l → l.first ≤ j → j ≤ l.last → leaf_of j olds ≡ Some l
  found_old j l i f t = find_covering j 0 (suc record_number_limit) olds (leaves_ascend x.goes.good x.goes.among) l i f t

  found_new : (j : ℕ) (l : Leaf) → IsOneOf news l → l.first ≤ j → j ≤ l.last → leaf_of j news ≡ Some l
  found_new j l i f t = find_covering j 0 (suc record_number_limit) news (leaves_ascend one.good one.among) l i f t

  -- ---- where a leaf of the record was there

  module _ (old : Leaf) (found : leaf_at k from.own.index ≡ Some old) where
    old_there : IsOneOf olds old × ((old.first ≤ k) × (k ≤ old.last))
    old_there = found_covering k olds old found

    same_range : range new.first new.last ≡ range old.first old.last
    same_range = leaf.range_is ∙ ap (range_in (variable_of b own) (firsts_of from.own.index) k) found

    first_same : new.first ≡ old.first
    first_same = ap (λ (r : Range). r.first) same_range

    last_same : new.last ≡ old.last
    last_same = ap (λ (r : Range). r.last) same_range

    abbrev count : ℕ
    count = min n new.last + 1 - k

    abbrev written_bytes : List ℕ
    written_bytes = records_from p from.image k count

    plain_old : plain_bytes to.image to.own.vdr new ≡ put (plain_bytes from.image to.own.vdr old) ((k - old.first) * size) written_bytes
    plain_old = leaf.written.plain_is ∙ ap (bytes_after p from.image to.own.vdr k new.last) found

    plain_before : plain_bytes from.image to.own.vdr old ≡ plain_bytes from.image from.own.vdr old
    plain_before = ap (λ (vdr : ℕ). plain_bytes from.image vdr old) one.vdr_is

    long_old : length (plain_bytes from.image to.own.vdr old) ≡ (old.last + 1 - old.first) * size
    long_old = ap (λ (xs : List ℕ). length xs) plain_before ∙ block_long x.goes.good x.goes.among old old_there.0 ∙ ap (λ (m : ℕ). (old.last + 1 - old.first) * m) size_from

    fits : (k - old.first) + count ≤ old.last + 1 - old.first
    fits = let o = old_there.1 in let last = last_same in grind (arith, nat_tests, o, last)

    old_written : (j : ℕ) → k ≤ j → j ≤ new.last → j ≤ n → piece size (j - new.first) (plain_bytes to.image to.own.vdr new) ≡ put_record p from.image j
    old_written j low high most =
        let o = old_there.1 in
        let at : j - new.first ≡ j - old.first = ap (λ (f : ℕ). j - f) first_same in
        let off : (j - old.first) - (k - old.first) ≡ j - k = omega (arith, o.0) in
        let is : k + (j - k) ≡ j = omega arith in
        ap (λ (i : ℕ). piece size i (plain_bytes to.image to.own.vdr new)) at ∙ ap (piece size (j - old.first)) plain_old
        ∙ piece_written (plain_bytes from.image to.own.vdr old) written_bytes size (old.last + 1 - old.first) (k - old.first) count long_old (records_long p from.image size raw_long pad_from k count) fits (j - old.first) (omega (arith, o.0)) (within o.0 low high most)
        ∙ ap (λ (i : ℕ). piece size i written_bytes) off ∙ piece_put p from.image size raw_long pad_from k count (j - k) (under low high most) ∙ ap (put_record p from.image) is
      where
        under : k ≤ j → j ≤ new.last → j ≤ n → j - k < count
        under low high most = grind (arith, nat_tests)

        within : old.first ≤ k → k ≤ j → j ≤ new.last → j ≤ n → j - old.first < (k - old.first) + count
        within o low high most = grind (arith, nat_tests)

    old_beside : (j : ℕ) → old.first ≤ j → j ≤ old.last → (j < k) ⊎ (n < j) → piece size (j - new.first) (plain_bytes to.image to.own.vdr new) ≡ piece size (j - old.first) (plain_bytes from.image from.own.vdr old)
    old_beside j low high side =
        let at : j - new.first ≡ j - old.first = ap (λ (f : ℕ). j - f) first_same in
        ap (λ (i : ℕ). piece size i (plain_bytes to.image to.own.vdr new)) at ∙ ap (piece size (j - old.first)) plain_old
        ∙ piece_beside (plain_bytes from.image to.own.vdr old) written_bytes size (old.last + 1 - old.first) (k - old.first) count long_old (records_long p from.image size raw_long pad_from k count) fits (j - old.first) (apart side) (omega (arith, low, high))
        ∙ ap (piece size (j - old.first)) plain_before
      where
        apart : (j < k) ⊎ (n < j) → (j - old.first < k - old.first) ⊎ ((k - old.first) + count ≤ j - old.first)
        apart (inl lt) = inl (omega (arith, low))
        apart (inr lt) = let o = old_there.1 in let more = leaf.more in inr (grind (arith, nat_tests, o, more))

  -- ---- where it got a new one

  module _ (found : leaf_at k from.own.index ≡ None) where
    new_is : range new.first new.last ≡ new_range (variable_of b own) (firsts_of from.own.index) k
    new_is = leaf.range_is ∙ ap (range_in (variable_of b own) (firsts_of from.own.index) k) found

    begins : new.first ≡ k
    begins = ap (λ (r : Range). r.first) new_is ∙ first_of (nat_lt k (extent (variable_of b own).max_rec))
      where
        first_of : (t : Bool) → (if t then range k k else range k (min (k + block_count (variable_of b own)) (next_first k (firsts_of from.own.index)) - 1)).first ≡ k
        first_of true = refl
        first_of false = refl

    ends : new.last ≡ (new_range (variable_of b own) (firsts_of from.own.index) k).last
    ends = ap (λ (r : Range). r.last) new_is

    plain_new : plain_bytes to.image to.own.vdr new ≡ records_from p from.image k (new.last + 1 - k)
    plain_new = leaf.written.plain_is ∙ ap (bytes_after p from.image to.own.vdr k new.last) found

    new_written : (j : ℕ) → k ≤ j → j ≤ new.last → piece size (j - new.first) (plain_bytes to.image to.own.vdr new) ≡ put_record p from.image j
    new_written j low high =
        let at : j - new.first ≡ j - k = ap (λ (f : ℕ). j - f) begins in
        let is : k + (j - k) ≡ j = omega arith in
        ap (λ (i : ℕ). piece size i (plain_bytes to.image to.own.vdr new)) at ∙ ap (piece size (j - k)) plain_new
        ∙ piece_put p from.image size raw_long pad_from k (new.last + 1 - k) (j - k) (omega arith) ∙ ap (put_record p from.image) is

  -- ---- what is stored

  pub stored_written : (j : ℕ) → k ≤ j → j ≤ new.last → j ≤ n → stored_bytes to.image to.own.vdr size news j ≡ Some (put_record p from.image j)
  stored_written j low high most =
      let here = found_new j new step.has (omega (arith, step.from)) high in
      ap (stored_by to.image to.own.vdr size j) here ∙ ap Some (elim (some_or_none (leaf_at k from.own.index)) [ inl o ↦ old_written o.0 o.1 j low high most | inr none ↦ new_written none j low high ])

  -- a leaf without the record of the step
  stored_other : (j : ℕ) (l : Leaf) → IsOneOf olds l → l.first ≤ j → j ≤ l.last → covers k (range l.first l.last) ≡ false → stored_bytes to.image to.own.vdr size news j ≡ stored_bytes from.image from.own.vdr size olds j
  stored_other j l i low high none =
      let stays = block_unchanged from.image to.image (found_in b kind before own) (covers k) to.acts x.goes.good x.goes.among refl leaf.goes.keeps l i none in
      let same = plain_kept x.goes.good x.goes.among l i one (stays_kept x.goes.good x.goes.among l i stays) in
      ap (stored_by to.image to.own.vdr size j) (found_new j l (step.stay l i none) low high) ∙ ap Some (ap (piece size (j - l.first)) same) ∙ sym (ap (stored_by from.image from.own.vdr size j) (found_old j l i low high))

  -- the leaf with it
  stored_here : (j : ℕ) (l : Leaf) → leaf_at k from.own.index ≡ Some l → l.first ≤ j → j ≤ l.last → (j < k) ⊎ (n < j) → stored_bytes to.image to.own.vdr size news j ≡ stored_bytes from.image from.own.vdr size olds j
  stored_here j l found low high side =
      let is = first_same l found in
      let last = last_same l found in
      ap (stored_by to.image to.own.vdr size j) (found_new j new step.has (omega (arith, is)) (omega (arith, last))) ∙ ap Some (old_beside l found j low high side) ∙ sym (ap (stored_by from.image from.own.vdr size j) (found_old j l (old_there l found).0 low high))

  -- none has it
  none_new : (j : ℕ) → leaf_of j olds ≡ None → (j < k) ⊎ (n < j) → (j < k) ⊎ (j < extent (variable_of b own).max_rec) → leaf_of j news ≡ None
  none_new j none side few = elim (some_or_none (leaf_of j news)) [
    | inr e ↦ e
    | inl y ↦
        let g = found_covering j news y.0 y.1 in
        let was = λ (l : Leaf) (i : IsOneOf olds l) (low : l.first ≤ j) (high : j ≤ l.last). clash l (sym (found_old j l i low high) ∙ none) in
        absurd (elim (step.was y.0 g.0) [
          | inr i ↦ was y.0 i g.1.0 g.1.1
          | inl q ↦
              let low : new.first ≤ j = subst (λ (l : Leaf). l.first ≤ j) q g.1.0 in
              let high : j ≤ new.last = subst (λ (l : Leaf). j ≤ l.last) q g.1.1 in
              elim (some_or_none (leaf_at k from.own.index)) [
                | inl o ↦ was o.0 (old_there o.0 o.1).0 (omega (arith, first_same o.0 o.1, low)) (omega (arith, last_same o.0 o.1, high))
                | inr e ↦ new_alone (variable_of b own) (firsts_of from.own.index) n k j leaf.more (omega (arith, begins e, low)) (omega (arith, ends e, high)) side few
              ]
        ])
  ]
    where
      clash : (l : Leaf) → Some l ≡ None → ⊥
      clash l e = cc

  pub stored_beside : (j : ℕ) → (j < k) ⊎ (n < j) → (j < k) ⊎ (j < extent (variable_of b own).max_rec) → stored_bytes to.image to.own.vdr size news j ≡ stored_bytes from.image from.own.vdr size olds j
  stored_beside j side few = elim (some_or_none (leaf_of j olds)) [
    | inr none ↦ ap (stored_by to.image to.own.vdr size j) (none_new j none side few) ∙ sym (ap (stored_by from.image from.own.vdr size j) none)
    | inl y ↦
        let g = found_covering j olds y.0 y.1 in
        elim (either (covers k (range y.0.first y.0.last))) [
          | inr none ↦ stored_other j y.0 g.0 g.1.0 g.1.1 none
          | inl t ↦ let c = covers_within k y.0 t in stored_here j y.0 (found_old k y.0 g.0 c.0 c.1) g.1.0 g.1.1 side
        ]
  ]
