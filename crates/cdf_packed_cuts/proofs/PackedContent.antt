-- All records from a first one on went from a variable: it is what it was, without these records, and so is the content; where none of them was a record of the variable the content stays.
use Rattle.cdf_cuts.proofs.Common.{Leaf, List, ap, arith, cases_lt, inl, inr, leaves_of, length, option_map, suc, sym, ℕ, ◌<◌, ◌∙◌, ◌≡◌, ◌≤◌}
use Rattle.std.proofs.Common.{slice_set}
use Rattle.cdf_edits.proofs.Common.{Act, Good, Kind, Variable, VariableShape, content, extent, is_little, item_at, le-ltb, lt-ltb, max_rec_at, number, record_bytes, record_number_limit, records_in, stored_bytes, turned, type_of_variable, variable_of, variables_of, vdr_max_rec, with_sign, with_variable, with_variables}
use Rattle.cdf_edits.proofs.Edits.Common.{record_is, record_past, rising_records}
use Rattle.cdf_edits.proofs.Edits.LeafRecords.{Ascending}
use Rattle.cdf_edits.proofs.Edits.NumberedLookup.{item_those, none_those, rising_those, same_items}
use Rattle.cdf_edits.proofs.Edits.PlainLeaves.{leaves_ascend}
use Rattle.cdf_edits.proofs.Edits.StandsAmong.{StandsAmong}
use Rattle.cdf_edits.proofs.Frame.VdrAlike.{type_alike}
use Rattle.cdf_edits.proofs.Frame.VdrStays.{stays_alike, variable_stays}
use Rattle.cdf_puts.proofs.GoesThen.{later_size, stays, variable_there}
use Rattle.cdf_puts.specs.Going.{GoesOn, found_in}
use Rattle.cdf_cuts.proofs.PastContent.{same_set, same_variables}
use Rattle.cdf_packed_cuts.specs.Past.{PackedPast, StoredBefore, cut_records, records_before}
use Rattle.std.specs.Prelude.{Bool, nat_lt}

module _ {b now : List ℕ} {kind : Kind} {before : List VariableShape} {own own' : VariableShape} {after : List VariableShape} {acts : List Act} {first : ℕ} (good : Good b) (at : StandsAmong b kind before own after) (goes : GoesOn b now kind before own own' after acts) (max_rec_is : number now own.vdr vdr_max_rec ≡ number b own.vdr vdr_max_rec) (stored : StoredBefore b now own own' first) where
  abbrev v : Variable
  v = variable_of b own

  abbrev size : ℕ
  size = record_bytes b own.vdr

  abbrev leaves : List Leaf
  leaves = leaves_of own.index

  abbrev lefts : List Leaf
  lefts = leaves_of own'.index

  abbrev most : ℕ
  most = extent (max_rec_at b own.vdr)

  abbrev early : ℕ → Bool
  early n = nat_lt n first

  abbrev turn : List ℕ → List ℕ
  turn = turned (type_of_variable b own.vdr) (is_little b)

  ascend : Ascending 0 (suc record_number_limit) leaves
  ascend = leaves_ascend good at

  ascend_now : Ascending 0 (suc record_number_limit) lefts
  ascend_now = leaves_ascend goes.good goes.among

  max_own : max_rec_at now own.vdr ≡ max_rec_at b own.vdr
  max_own = ap with_sign max_rec_is

  max_now : max_rec_at now own'.vdr ≡ max_rec_at b own.vdr
  max_now = ap (max_rec_at now) goes.vdr_is ∙ max_own

  now_is : (k : ℕ) → k < most → item_at k (records_in now own'.vdr lefts) ≡ option_map turn (stored_bytes now own'.vdr size lefts k)
  now_is k lt =
      let t : type_of_variable now own'.vdr ≡ type_of_variable b own.vdr = ap (type_of_variable now) goes.vdr_is ∙ type_alike goes.file (stays_alike goes.file (stays good at goes.descriptor)) in
      let l = goes.file.little in
      let n = later_size good at goes in
      record_is now own'.vdr lefts ascend_now k (omega (arith, ap extent max_now, lt)) ∙ (λ i. option_map (turned (t i) (l i)) (stored_bytes now own'.vdr (n i) lefts k))

  abbrev was : List (ℕ × List ℕ)
  was = records_in b own.vdr leaves

  each : (k : ℕ) → item_at k (records_in now own'.vdr lefts) ≡ item_at k (records_before first was)
  each k = elim (cases_lt k most) [
    | inl lt ↦ elim (cases_lt k first) [
      | inl low ↦ now_is k lt ∙ ap (option_map turn) (stored.front k low) ∙ sym (item_those early k was (lt-ltb k first low) ∙ record_is b own.vdr leaves ascend k lt)
      | inr high ↦ now_is k lt ∙ ap (option_map turn) (stored.gone k high) ∙ sym (none_those early k was (le-ltb k first high))
    ]
    | inr le ↦ record_past now own'.vdr lefts ascend_now k (omega (arith, ap extent max_now, le)) ∙ sym (elim (cases_lt k first) [
      | inl low ↦ item_those early k was (lt-ltb k first low) ∙ record_past b own.vdr leaves ascend k le
      | inr high ↦ none_those early k was (le-ltb k first high)
    ])
  ]

  records_are : records_in now own'.vdr lefts ≡ records_before first was
  records_are = same_items 0 0 (records_in now own'.vdr lefts) (records_before first was) (rising_records now own'.vdr lefts ascend_now) (rising_those early 0 was (rising_records b own.vdr leaves ascend)) each

  own_records : records_in now own.vdr lefts ≡ records_before first was
  own_records = ap (λ (vdr : ℕ). records_in now vdr lefts) (sym goes.vdr_is) ∙ records_are

  pub variable_cut : variable_of now own' ≡ cut_records v first
  variable_cut = variable_stays goes.file own own' (stays good at goes.descriptor) goes.vdr_is ∙ (λ i. record v { max_rec = max_own i; recs = own_records i })

  pub content_cut : content now ≡ with_variable (content b) (found_in b kind before own) (cut_records v first)
  content_cut = goes.content_is ∙ ap (with_variable (content b) (found_in b kind before own)) variable_cut

-- ---- where none of these was a record of the variable

module _ {b now : List ℕ} {kind : Kind} {before : List VariableShape} {own : VariableShape} {after : List VariableShape} {first : ℕ} (good : Good b) (at : StandsAmong b kind before own after) (p : PackedPast b now kind before own after first) (le : extent (max_rec_at b own.vdr) ≤ first) where
  abbrev all : List (ℕ × List ℕ)
  all = records_in b own.vdr (leaves_of own.index)

  all_stay : records_before first all ≡ all
  all_stay =
      let early : ℕ → Bool = λ n. nat_lt n first in
      let a = leaves_ascend good at in
      same_items 0 0 (records_before first all) all (rising_those early 0 all (rising_records b own.vdr (leaves_of own.index) a)) (rising_records b own.vdr (leaves_of own.index) a) (λ k. elim (cases_lt k first) [
        | inl low ↦ item_those early k all (lt-ltb k first low)
        | inr high ↦ none_those early k all (le-ltb k first high) ∙ sym (record_past b own.vdr (leaves_of own.index) a k (omega (arith, le, high)))
      ])

  pub variable_past : variable_of now p.own' ≡ variable_of b own
  variable_past = p.variable_is ∙ ap (λ (rs : List (ℕ × List ℕ)). record (variable_of b own) { recs = rs }) all_stay

  pub content_past : content now ≡ content b
  content_past =
      p.goes_on.content_is
      ∙ ap (λ (u : Variable). with_variables (content b) kind (slice_set (variables_of (content b) kind) (length before) u)) variable_past
      ∙ ap (with_variables (content b) kind) (same_set (variables_of (content b) kind) (length before) (variable_of b own) (variable_there good at))
      ∙ same_variables (content b) kind
