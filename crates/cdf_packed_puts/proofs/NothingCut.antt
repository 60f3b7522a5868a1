-- A put into a packed variable where nothing is cut first, or where what would be cut is gone: it begins with the ranges and the Firsts of the index, and has room for each block that has one of its records.
use Rattle.std.proofs.Common.{ap₂}
use Rattle.cdf_puts.proofs.Common.{Ascending, Bool, Each, Leaf, List, Nodes, Range, Variable, [], ap, arith, cut_open, cuts_before_put, either, extent, filter, first_written, firsts_before_put, firsts_of, inl, inr, le-ltb, leaves_of, lt-ltb, map, min, nat_lt, packed_room, range, ranges_before_put, ranges_of, record_length, record_number_limit, refl, shared, suc, sum_by-cons, true, ℕ, ◌++◌, ◌-◌, ◌<◌, ◌∷◌, ◌≡◌, ◌≤◌, ◌||◌, Kind, VariableShape, variable_of, sym, true≢false, false, ◌∙◌}
use Rattle.cdf_edits.specs.Commands.Room.{is_rewritten}
use Rattle.cdf_edits.specs.Index.Blocks.{left_of}
use Rattle.cdf_puts.proofs.CoveringRanges.{of_leaves}
use Rattle.cdf_puts.proofs.SharedRoom.{bytes_of}
use Rattle.cdf_puts.specs.SharedRoom.{shared_room}
use Rattle.cdf_puts.specs.declared.putting.NewRecord.{NewRecord}
use Rattle.cdf_put_steps.proofs.Along.{leaves_are_put}
use Rattle.cdf_put_steps.specs.Along.{PutsAlong}
use Rattle.cdf_blocks.specs.Replaced.{stage}
use Rattle.cdf_packed_puts.specs.Putting.{EndsBefore, PackedUpTo, Packing}
use Rattle.std.specs.List.{sum}

-- ---- a cut leaves what ends before it

pub whole : (first last f l : ℕ) → f ≤ l → l < first → l ≤ last → left_of first last (range f l) ≡ range f l ∷ []
whole first last f l order lt le =
    let same : min l (first - 1) ≡ l = omega arith in
    rw (lt-ltb f first (omega arith), le-ltb last l le, same) refl

left_whole : (first last low : ℕ) (xs : List Leaf) → Ascending low (suc last) xs → Each (λ (x : Leaf). x.last < first) xs → cut_open first last (of_leaves xs) ≡ of_leaves xs
left_whole first last low [] a e = refl
left_whole first last low (x ∷ xs) a e = ap₂ (λ (rs more : List Range). rs ++ more) (whole first last x.first x.last a.1 e.0 (omega (arith, a.2))) (left_whole first last (suc x.last) xs a.3 e.1)

all_early : (first : ℕ) (fs : List ℕ) → Each (λ (f : ℕ). f < first) fs → filter (λ f. nat_lt f first) fs ≡ fs
all_early first [] e = refl
all_early first (f ∷ fs) e = rw (lt-ltb f first e.0) (ap (λ (more : List ℕ). f ∷ more) (all_early first fs e.1))

module _ (v : Variable) (index : Nodes) (n : ℕ) where
  pub nothing_cut : Ascending 0 (suc record_number_limit) (leaves_of index) → (cuts_before_put v n ≡ true → EndsBefore (extent v.max_rec) index) → ranges_before_put v index n ≡ ranges_of index
  nothing_cut ascend gone = elim (either (cuts_before_put v n)) [ inl t ↦ rw t (left_whole (extent v.max_rec) record_number_limit 0 (leaves_of index) ascend (gone t).lasts) | inr t ↦ rw t refl ]

  pub firsts_same : (cuts_before_put v n ≡ true → EndsBefore (extent v.max_rec) index) → firsts_before_put v index n ≡ firsts_of index
  firsts_same gone = elim (either (cuts_before_put v n)) [ inl t ↦ rw t (all_early (extent v.max_rec) (firsts_of index) (gone t).firsts) | inr t ↦ rw t refl ]

-- where nothing is cut first nothing has to be gone
pub uncut_gone : (v : Variable) (index : Nodes) (n : ℕ) → cuts_before_put v n ≡ false → cuts_before_put v n ≡ true → EndsBefore (extent v.max_rec) index
uncut_gone v index n uncut cuts = absurd (true≢false (sym cuts ∙ uncut))

-- and then the leaves that are put are all of the put
pub uncut_along : {b now : List ℕ} {kind : Kind} {before : List VariableShape} {own : VariableShape} {after : List VariableShape} {put : NewRecord} {k limit : ℕ} → Packing b kind before own after put limit → cuts_before_put (variable_of b own) put.rec ≡ false → (up : PackedUpTo b now kind before own after put k) → PutsAlong b kind before own after put.rec put.raw.items (stage now up.own' up.last k) up.acts
uncut_along p uncut up = leaves_are_put p.good p.among uncut up.along

-- ---- the room

-- of more ranges no fewer bytes are taken
taken_more : (h : Range → ℕ) (f g : Range → Bool) (rs : List Range) → ((r : Range) → f r ≡ true → g r ≡ true) → sum (map h (filter f rs)) ≤ sum (map h (filter g rs))
taken_more h f g [] sub = omega arith
taken_more h f g (r ∷ rs) sub = elim (either (f r)) [
  | inl t ↦
      let few = sum_by-cons (λ n. n) (h r) (map h (filter f rs)) in
      let many = sum_by-cons (λ n. n) (h r) (map h (filter g rs)) in
      rw (t, sub r t) (omega (arith, few, many, taken_more h f g rs sub))
  | inr t ↦ elim (either (g r)) [
    | inl u ↦ let many = sum_by-cons (λ n. n) (h r) (map h (filter g rs)) in rw (t, u) (omega (arith, many, taken_more h f g rs sub))
    | inr u ↦ rw (t, u) (taken_more h f g rs sub)
  ]
]

or_left : (p q : Bool) → p ≡ true → (p || q) ≡ true
or_left p q e = rw e refl

pub written_room : (v : Variable) (nodes : Nodes) (n : ℕ) → v.rle ≡ true → shared_room (record_length v) (first_written v n) n (ranges_of nodes) ≤ packed_room v nodes n
written_room v nodes n packed = rw packed (taken_more (bytes_of (record_length v)) (λ (r : Range). nat_lt 0 (shared (first_written v n) n r)) (is_rewritten v n) (ranges_of nodes) (λ r t. or_left (nat_lt 0 (shared (first_written v n) n r)) _ t))
