-- How many bytes are taken as records go from a packed variable under a rule for missing records: within the room of the command. A block that keeps some of its records is cut in part, and that of which a part is split off needs no more than two records of the least size and its bytes.
use Rattle.cdf_edits.proofs.Common.{ActsFollow, Bool, Kind, Leaf, List, None, Range, Some, Variable, VariableShape, [], ap, arith, either, false, filter, inl, inr, is_sparse, leaves_of, length, lt-ltb, map, nat_lt, range, record_bytes, record_number_limit, refl, shared, suc, sum, true, variable_of, ℕ, ◌&&◌, ◌*◌, ◌+◌, ◌-◌, ◌<◌, ◌∙◌, ◌∷◌, ◌≡◌, ◌≤◌, ◌⊎◌}
use Rattle.std.specs.Prelude.{max}
use Rattle.cdf_format.specs.Records.{linked_size, vvr_bytes, vxr_bytes}
use Rattle.std.proofs.lemmas.List.Sums.{sum_by-cons}
use Rattle.cdf_edits.proofs.Edits.LeafPieces.{IsOneOf, in_order, times_le}
use Rattle.cdf_edits.proofs.Edits.LeafRecords.{Ascending}
use Rattle.cdf_edits.proofs.Edits.PlainLeaves.{leaves_ascend}
use Rattle.cdf_edits.specs.Commands.Room.{cut_room, cuts_in_part, del_recs_cuts_in_part, range_bytes, widest}
use Rattle.cdf_edits.specs.Index.Blocks.{extent_after, record_length}
use Rattle.cdf_sparse.proofs.TwiceRoom.{longer_within}
use Rattle.cdf_packed_deletes.proofs.LeafKinds.{IsBoth, IsRanged, filter_here, filter_later}
use Rattle.cdf_packed_deletes.proofs.OpenKinds.{both_found, keeps_front, open_back, open_front, open_kept}
use Rattle.cdf_packed_deletes.proofs.TwiceOpened.{came_once, end_small, mids_ascend, opened_mid}
use Rattle.cdf_packed_deletes.specs.Opening.{OpeningDone, kept_room, keeping_open, keeping_open_room, opened_acts, opened_twice, split_room}
use Rattle.cdf_packed_deletes.specs.Steps.{count_of, keeps_some, parts_kept, with_both}
use Rattle.cdf_puts.proofs.CoveringRanges.{some_or_none}
use Rattle.cdf_puts.proofs.PutRoom.{taken_sum}
use Rattle.cdf_puts.specs.SoFar.{taken_bytes}
use Rattle.cdf_sparse.proofs.TwiceRoom.{sum_has}

two_fit : (a c n size : ℕ) → a + c ≤ n → a * size + c * size ≤ n * size
two_fit a c n size le =
    let most = times_le (a + c) n size le in
    let both : (a + c) * size ≡ a * size + c * size = omega arith in
    omega (arith, most, both)

-- a record of a block has the least size, or what comes with its bytes
record_fits : (bytes : ℕ) → max linked_size (vvr_bytes bytes) ≤ linked_size + bytes
record_fits bytes = omega arith

-- the room of three parts of a block is that of two and of one
three_parts : (v : Variable) (rs : List Range) → sum (map (λ r. 3 * linked_size + 2 * range_bytes v r) rs) ≡ sum (map (λ r. 2 * linked_size + range_bytes v r) rs) + sum (map (λ r. linked_size + range_bytes v r) rs)
three_parts v [] = omega arith
three_parts v (r ∷ rs) =
    let a = sum_by-cons (λ n. n) (3 * linked_size + 2 * range_bytes v r) (map (λ (r : Range). 3 * linked_size + 2 * range_bytes v r) rs) in
    let b = sum_by-cons (λ n. n) (2 * linked_size + range_bytes v r) (map (λ (r : Range). 2 * linked_size + range_bytes v r) rs) in
    let c = sum_by-cons (λ n. n) (linked_size + range_bytes v r) (map (λ (r : Range). linked_size + range_bytes v r) rs) in
    omega (arith, a, b, c, three_parts v rs)

-- ---- one cut

-- what a leaf keeps needs no more than its records do
module _ (size first last : ℕ) (order : first ≤ suc last) where
  abbrev keeps : Leaf → Bool
  keeps l = keeps_some false first last l

  kept_bytes : (l : Leaf) (rs : List Range) → parts_kept false first last l ≡ rs → kept_room size first last l ≤ linked_size + count_of rs * size
  kept_bytes l rs e =
      let is : kept_room size first last l ≡ max linked_size (vvr_bytes (count_of rs * size)) = ap (λ (parts : List Range). max linked_size (vvr_bytes (count_of parts * size))) e in
      omega (arith, is, record_fits (count_of rs * size))

  front_bytes : (l : Leaf) → (l.first < first) × (first ≤ l.last) → kept_room size first last l ≤ linked_size + (first - l.first) * size
  front_bytes l k =
      let most = kept_bytes l (range l.first (first - 1) ∷ []) (open_front first last order l k) in
      let many : count_of (range l.first (first - 1) ∷ []) ≡ first - l.first = omega (arith, k.0) in
      let is : count_of (range l.first (first - 1) ∷ []) * size ≡ (first - l.first) * size = ap (λ (n : ℕ). n * size) many in
      omega (arith, most, is)

  back_bytes : (l : Leaf) → (first ≤ l.first) × (l.first ≤ last) × (last < l.last) → kept_room size first last l ≤ linked_size + (l.last - last) * size
  back_bytes l k =
      let most = kept_bytes l (range (last + 1) l.last ∷ []) (open_back first last order l k) in
      let many : count_of (range (last + 1) l.last ∷ []) ≡ l.last - last = omega arith in
      let is : count_of (range (last + 1) l.last ∷ []) * size ≡ (l.last - last) * size = ap (λ (n : ℕ). n * size) many in
      omega (arith, most, is)

  pub some_bytes : (l : Leaf) → IsRanged l → keeps_some false first last l ≡ true → kept_room size first last l ≤ linked_size + (l.last + 1 - l.first) * size
  some_bytes l r e = elim (open_kept first last order l r e) [
    | inl k ↦ (let most = times_le (first - l.first) (l.last + 1 - l.first) size (omega (arith, k.1)) in omega (arith, most, front_bytes l k))
    | inr k ↦ (let most = times_le (l.last - last) (l.last + 1 - l.first) size (omega (arith, k.1)) in omega (arith, most, back_bytes l k))
  ]

  pub both_bytes : (l : Leaf) → IsBoth first last l → kept_room size first last l + max linked_size (vvr_bytes ((l.last - last) * size)) ≤ 2 * linked_size + (l.last + 1 - l.first) * size
  both_bytes l k =
      let two = two_fit (first - l.first) (l.last - last) (l.last + 1 - l.first) size (omega (arith, k.0, k.1, order)) in
      omega (arith, two, front_bytes l (k.0, omega (arith, k.1, order)), record_fits ((l.last - last) * size))

  pub room_here : (x : Leaf) (xs : List Leaf) → keeps_some false first last x ≡ true → keeping_open_room size first last (keeping_open first last (x ∷ xs)) ≡ kept_room size first last x + keeping_open_room size first last (keeping_open first last xs)
  room_here x xs t = ap (keeping_open_room size first last) (filter_here keeps x xs t) ∙ sum_by-cons (λ n. n) (kept_room size first last x) (map (kept_room size first last) (keeping_open first last xs))

  pub room_later : (x : Leaf) (xs : List Leaf) → keeps_some false first last x ≡ false → keeping_open_room size first last (keeping_open first last (x ∷ xs)) ≡ keeping_open_room size first last (keeping_open first last xs)
  room_later x xs f = ap (keeping_open_room size first last) (filter_later keeps x xs f)

module _ (v : Variable) (first last : ℕ) (order : first ≤ last) where
  abbrev size : ℕ
  size = record_length v

  abbrev in_part : Range → Bool
  in_part r = del_recs_cuts_in_part v first last r

  abbrev piece_room : Range → ℕ
  piece_room r = 2 * linked_size + range_bytes v r

  abbrev cut_ranges : List Leaf → List Range
  cut_ranges leaves = filter (del_recs_cuts_in_part v first last) (map (λ (m : Leaf). range m.first m.last) leaves)

  more : first ≤ suc last
  more = omega (arith, order)

  shares : (l : Leaf) → 0 < shared first last (range l.first l.last) → shared first last (range l.first l.last) < l.last + 1 - l.first → in_part (range l.first l.last) ≡ true
  shares l p q = rw (lt-ltb 0 (shared first last (range l.first l.last)) p, lt-ltb (shared first last (range l.first l.last)) (l.last + 1 - l.first) q) refl

  cut_in_part : (l : Leaf) → IsRanged l → keeps_some false first last l ≡ true → in_part (range l.first l.last) ≡ true
  cut_in_part l r e = elim (open_kept first last more l r e) [
    | inl k ↦ shares l (omega (arith, k.0, k.1, order)) (omega (arith, k.0, k.1, order))
    | inr k ↦ shares l (omega (arith, k.0, k.1, k.2)) (omega (arith, k.0, k.1, k.2))
  ]

  -- a leaf in front of others, by what it has in this sum and by what these have
  piece_here : (x : Leaf) (xs : List Leaf) (one rest : ℕ) → in_part (range x.first x.last) ≡ true → one ≤ piece_room (range x.first x.last) → rest ≤ sum (map (λ r. 2 * linked_size + range_bytes v r) (cut_ranges xs)) → one + rest ≤ sum (map (λ r. 2 * linked_size + range_bytes v r) (cut_ranges (x ∷ xs)))
  piece_here x xs one rest t le le' =
      let both = sum_by-cons (λ n. n) (piece_room (range x.first x.last)) (map (λ (r : Range). 2 * linked_size + range_bytes v r) (cut_ranges xs)) in
      rw t (omega (arith, both, le, le'))

  piece_later : (x : Leaf) (xs : List Leaf) (rest : ℕ) → rest ≤ sum (map (λ r. 2 * linked_size + range_bytes v r) (cut_ranges xs)) → rest ≤ sum (map (λ r. 2 * linked_size + range_bytes v r) (cut_ranges (x ∷ xs)))
  piece_later x xs rest le =
      let both = sum_by-cons (λ n. n) (piece_room (range x.first x.last)) (map (λ (r : Range). 2 * linked_size + range_bytes v r) (cut_ranges xs)) in
      elim (either (in_part (range x.first x.last))) [ inl t ↦ rw t (omega (arith, both, le)) | inr f ↦ rw f le ]

  keeping_within : (low : ℕ) (leaves : List Leaf) → Ascending low (suc record_number_limit) leaves → keeping_open_room (record_length v) first last (keeping_open first last leaves) ≤ sum (map (λ r. 2 * linked_size + range_bytes v r) (cut_ranges leaves))
  keeping_within low [] a = omega arith
  keeping_within low (x ∷ xs) a =
      let r : IsRanged x = record { ordered = a.1; small = omega (arith, a.2) } in
      let later = keeping_within (suc x.last) xs a.3 in
      elim (either (keeps_some false first last x)) [
        | inl t ↦
            let le = some_bytes size first last more x r t in
            let all = piece_here x xs (kept_room size first last x) (keeping_open_room size first last (keeping_open first last xs)) (cut_in_part x r t) (omega (arith, le)) later in
            omega (arith, all, room_here size first last more x xs t)
        | inr f ↦ (let all = piece_later x xs (keeping_open_room size first last (keeping_open first last xs)) later in omega (arith, all, room_later size first last more x xs f))
      ]

  both_here : (x : Leaf) (xs : List Leaf) → (nat_lt x.first first && nat_lt last x.last) ≡ true → with_both first last (x ∷ xs) ≡ Some x
  both_here x xs e = rw e refl

  both_later : (x : Leaf) (xs : List Leaf) → (nat_lt x.first first && nat_lt last x.last) ≡ false → with_both first last (x ∷ xs) ≡ with_both first last xs
  both_later x xs e = rw e refl

  pub opening_within : (wide low : ℕ) (leaves : List Leaf) → Ascending low (suc record_number_limit) leaves → keeping_open_room (record_length v) first last (keeping_open first last leaves) + split_room (record_length v) last wide (with_both first last leaves) ≤ vxr_bytes wide + sum (map (λ r. 2 * linked_size + range_bytes v r) (filter (del_recs_cuts_in_part v first last) (map (λ (m : Leaf). range m.first m.last) leaves)))
  opening_within wide low [] a = omega arith
  opening_within wide low (x ∷ xs) a =
      let r : IsRanged x = record { ordered = a.1; small = omega (arith, a.2) } in
      elim (either (nat_lt x.first first && nat_lt last x.last)) [
        | inl b ↦
            let k = (both_found first last more (x ∷ []) x (both_here x [] b)).1 in
            let t = keeps_front first last more x r (k.0, omega (arith, k.1, order)) in
            let need = max linked_size (vvr_bytes ((x.last - last) * size)) in
            let le = both_bytes size first last more x k in
            let all = piece_here x xs (kept_room size first last x + need) (keeping_open_room size first last (keeping_open first last xs)) (cut_in_part x r t) (omega (arith, le)) (keeping_within (suc x.last) xs a.3) in
            let is : split_room size last wide (with_both first last (x ∷ xs)) ≡ need + vxr_bytes wide = ap (split_room size last wide) (both_here x xs b) in
            omega (arith, all, is, room_here size first last more x xs t)
        | inr n ↦
            let later = opening_within wide (suc x.last) xs a.3 in
            let is : split_room size last wide (with_both first last (x ∷ xs)) ≡ split_room size last wide (with_both first last xs) = ap (split_room size last wide) (both_later x xs n) in
            let split = split_room size last wide (with_both first last xs) in
            elim (either (keeps_some false first last x)) [
              | inl t ↦
                  let le = some_bytes size first last more x r t in
                  omega (arith, is, one_more x xs (kept_room size first last x) (keeping_open_room size first last (keeping_open first last xs) + split) (vxr_bytes wide) (cut_in_part x r t) (omega (arith, le)) later, room_here size first last more x xs t)
              | inr f ↦ omega (arith, is, none_more x xs (keeping_open_room size first last (keeping_open first last xs) + split) (vxr_bytes wide) later, room_later size first last more x xs f)
            ]
      ]
    where
      one_more : (x : Leaf) (xs : List Leaf) (one rest node : ℕ) → in_part (range x.first x.last) ≡ true → one ≤ piece_room (range x.first x.last) → rest ≤ node + sum (map (λ r. 2 * linked_size + range_bytes v r) (cut_ranges xs)) → one + rest ≤ node + sum (map (λ r. 2 * linked_size + range_bytes v r) (cut_ranges (x ∷ xs)))
      one_more x xs one rest node t le le' =
          let both = sum_by-cons (λ n. n) (piece_room (range x.first x.last)) (map (λ (r : Range). 2 * linked_size + range_bytes v r) (cut_ranges xs)) in
          rw t (omega (arith, both, le, le'))

      none_more : (x : Leaf) (xs : List Leaf) (rest node : ℕ) → rest ≤ node + sum (map (λ r. 2 * linked_size + range_bytes v r) (cut_ranges xs)) → rest ≤ node + sum (map (λ r. 2 * linked_size + range_bytes v r) (cut_ranges (x ∷ xs)))
      none_more x xs rest node le =
          let both = sum_by-cons (λ n. n) (piece_room (range x.first x.last)) (map (λ (r : Range). 2 * linked_size + range_bytes v r) (cut_ranges xs)) in
          elim (either (in_part (range x.first x.last))) [ inl t ↦ rw t (omega (arith, both, le)) | inr f ↦ rw f le ]

-- ---- a cut of all records from one on

module _ (size end : ℕ) (order : end ≤ suc record_number_limit) where
  none_later : (low : ℕ) (xs : List Leaf) → Ascending low (suc record_number_limit) xs → end ≤ low → keeping_open end record_number_limit xs ≡ []
  none_later low [] a le = refl
  none_later low (x ∷ xs) a le =
      let r : IsRanged x = record { ordered = a.1; small = omega (arith, a.2) } in
      elim (either (keeps_some false end record_number_limit x)) [
        | inl t ↦ absurd (elim (open_kept end record_number_limit order x r t) [ inl k ↦ omega (arith, k.0, le, a.0) | inr k ↦ omega (arith, k.2, a.2) ])
        | inr f ↦ filter_later (λ (l : Leaf). keeps_some false end record_number_limit l) x xs f ∙ none_later (suc x.last) xs a.3 (omega (arith, le, a.0, a.1))
      ]

  -- no leaf keeps any, or one does
  pub record OnePast (leaves : List Leaf) : Type 0 where
    pub one : Leaf
    pub is_one : IsOneOf leaves one
    pub begins : one.first < end
    pub reaches : end ≤ one.last
    pub within : keeping_open_room size end record_number_limit (keeping_open end record_number_limit leaves) ≤ linked_size + (one.last + 1 - one.first) * size

  pub one_past : (low : ℕ) (leaves : List Leaf) → Ascending low (suc record_number_limit) leaves → (keeping_open_room size end record_number_limit (keeping_open end record_number_limit leaves) ≡ 0) ⊎ OnePast leaves
  one_past low [] a = inl refl
  one_past low (x ∷ xs) a =
      let r : IsRanged x = record { ordered = a.1; small = omega (arith, a.2) } in
      elim (either (keeps_some false end record_number_limit x)) [
        | inl t ↦ elim (open_kept end record_number_limit order x r t) [
          | inl k ↦
              let none : keeping_open_room size end record_number_limit (keeping_open end record_number_limit xs) ≡ 0 = ap (keeping_open_room size end record_number_limit) (none_later (suc x.last) xs a.3 (omega (arith, k.1))) in
              inr (record { one = x; is_one = inl refl; begins = k.0; reaches = k.1; within = omega (arith, none, room_here size end record_number_limit order x xs t, some_bytes size end record_number_limit order x r t) })
          | inr k ↦ absurd (omega (arith, k.2, a.2))
        ]
        | inr f ↦ elim (one_past (suc x.last) xs a.3) [
          | inl none ↦ inl (room_later size end record_number_limit order x xs f ∙ none)
          | inr o ↦ inr (record { one = o.one; is_one = inr o.is_one; begins = o.begins; reaches = o.reaches; within = omega (arith, room_later size end record_number_limit order x xs f, o.within) })
        ]
      ]

  -- nothing is split off
  pub none_both : (leaves : List Leaf) → Ascending 0 (suc record_number_limit) leaves → with_both end record_number_limit leaves ≡ None
  none_both leaves a = elim (some_or_none (with_both end record_number_limit leaves)) [
    | inr none ↦ none
    | inl y ↦
        let f = both_found end record_number_limit order leaves y.0 y.1 in
        let o = (in_order 0 (suc record_number_limit) leaves a y.0 f.0).before in
        absurd (omega (arith, f.1.1, o))
  ]

-- a leaf from before the end on is cut in part
past_in_part : (v : Variable) (first last : ℕ) (l : Leaf) → is_sparse v.sparse ≡ true → l.last ≤ record_number_limit → l.first < extent_after v first last → extent_after v first last ≤ l.last → del_recs_cuts_in_part v first last (range l.first l.last) ≡ true
past_in_part v first last l rule small begins reaches =
    let end = extent_after v first last in
    let some = lt-ltb 0 (shared end record_number_limit (range l.first l.last)) (omega (arith, small, begins, reaches)) in
    let not_all = lt-ltb (shared end record_number_limit (range l.first l.last)) (l.last + 1 - l.first) (omega (arith, small, begins, reaches)) in
    elim (either (cuts_in_part first last (range l.first l.last))) [ inl t ↦ rw t refl | inr f ↦ rw (f, rule, some, not_all) refl ]

-- ---- the whole

module _ {b mid past now : List ℕ} {kind : Kind} {before : List VariableShape} {own : VariableShape} {after : List VariableShape} {first last : ℕ} (x : OpeningDone b mid past now kind before own after first last) where
  abbrev v : Variable
  v = variable_of b own

  abbrev bytes : ℕ
  bytes = record_bytes b own.vdr

  abbrev end : ℕ
  end = extent_after (variable_of b own) first last

  abbrev leaves : List Leaf
  leaves = leaves_of own.index

  abbrev mids : List Leaf
  mids = leaves_of x.cut.end.own.index

  abbrev wide : ℕ
  wide = widest own.index

  abbrev ranges : List Range
  ranges = filter (del_recs_cuts_in_part v first last) (map (λ (m : Leaf). range m.first m.last) leaves)

  once_takes : taken_bytes (opened_acts x.cut) ≤ vxr_bytes (widest own.index) + sum (map (λ r. 2 * linked_size + range_bytes v r) ranges)
  once_takes = (let most = x.cut.takes in omega (arith, most, opening_within v first last x.order wide 0 leaves (leaves_ascend x.good x.among)))

  past_room : taken_bytes (opened_acts x.cut_past) ≤ keeping_open_room bytes end record_number_limit (keeping_open end record_number_limit mids)
  past_room =
      let most = x.cut_past.takes in
      let none : split_room (record_bytes mid x.cut.end.own.vdr) record_number_limit (widest x.cut.end.own.index) (with_both end record_number_limit mids) ≡ 0 = ap (split_room (record_bytes mid x.cut.end.own.vdr) record_number_limit (widest x.cut.end.own.index)) (none_both bytes end (end_small x) mids (mids_ascend x)) in
      let same : keeping_open_room (record_bytes mid x.cut.end.own.vdr) end record_number_limit (keeping_open end record_number_limit mids) ≡ keeping_open_room bytes end record_number_limit (keeping_open end record_number_limit mids) = ap (λ (n : ℕ). keeping_open_room n end record_number_limit (keeping_open end record_number_limit mids)) (opened_mid x) in
      omega (arith, most, none, same)

  past_one : OnePast bytes end (end_small x) mids → taken_bytes (opened_acts x.cut_past) ≤ sum (map (λ r. linked_size + range_bytes v r) ranges)
  past_one o =
      let c = came_once x o.one o.is_one in
      let l = c.0 in
      let small = (in_order 0 (suc record_number_limit) leaves (leaves_ascend x.good x.among) l c.1.0).before in
      let fewer = times_le (o.one.last + 1 - o.one.first) (l.last + 1 - l.first) bytes (omega (arith, c.1.1.0, c.1.1.1)) in
      let has = sum_has (λ (r : Range). linked_size + range_bytes v r) (del_recs_cuts_in_part v first last) leaves l c.1.0 (past_in_part v first last l x.rule (omega (arith, small)) (omega (arith, o.begins, c.1.1.0)) (omega (arith, o.reaches, c.1.1.1))) in
      omega (arith, past_room, o.within, fewer, has)

  past_takes : taken_bytes (opened_acts x.cut_past) ≤ sum (map (λ r. linked_size + range_bytes v r) ranges)
  past_takes = elim (one_past bytes end (end_small x) 0 mids (mids_ascend x)) [ inl none ↦ omega (arith, past_room, none) | inr o ↦ past_one o ]

  pub twice_takes : taken_bytes (opened_twice x) ≤ cut_room (variable_of b own) own.index first last
  twice_takes =
      let both = taken_sum (opened_acts x.cut) (opened_acts x.cut_past) in
      omega (arith, both, once_takes, past_takes, three_parts v ranges)

  pub twice_within : ActsFollow b now (opened_twice x) → length now ≤ length b + cut_room (variable_of b own) own.index first last
  twice_within f = omega (arith, longer_within b now (opened_twice x) f, twice_takes)
