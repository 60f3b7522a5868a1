-- The ranges that were written make the new file of the old one.
use Rattle.std.proofs.Common.{List, [], ap, arith, drop, inl, inr, length, max, slice_index, subst, sym, take, true, ℕ, ◌++◌, ◌+◌, ◌-◌, ◌<◌, ◌∙◌, ◌∷◌, ◌≡◌, ◌≤◌, ◌⊎◌}
use Rattle.std.proofs.lemmas.Bool.{and_from, and_parts, cases_lt, le-leb, leb-true}
use Rattle.std.proofs.lemmas.List.{ext_get_or, get_or-drop, get_or-take, length-drop, length-take}
use Rattle.std.specs.Prelude.{min, nat_le, ◌&&◌}
use Rattle.cdf_base.specs.Bytes.{put}
use Rattle.cdf_base.proofs.Puts.{byte-put_after, byte-put_before}
use Rattle.cdf_journal.specs.Log.{filled, fits, patched}
use Rattle.cdf_journal.specs.Ranges.{IsOldBut, body_of, is_in, member_of, members_of, reaches}
use Rattle.cdf_journal.specs.declared.range.Range.{Range}
use Rattle.cdf_journal.proofs.FilledAgain.{grown, inside, patched_long}

-- ---- one write more, and a cut

pub reaches_more : (reached most p c : ℕ) (ks : List Range) → p ≤ most → reaches reached most ks ≡ true → reaches reached (max most (p + c)) (ks ++ record { place = p; count = c } ∷ []) ≡ true
reaches_more reached most p c [] le r =
    let so = leb-true most reached r in
    and_from _ _ (le-leb p reached (omega (arith, so, le))) (le-leb (max most (p + c)) (max reached (p + c)) (omega (arith, so)))
reaches_more reached most p c (k ∷ ks) le r =
    let q = and_parts (nat_le k.place reached) (reaches (max reached (k.place + k.count)) most ks) r in
    and_from _ _ q.0 (reaches_more (max reached (k.place + k.count)) most p c ks le q.1)

pub reaches_less : (reached most n : ℕ) (ks : List Range) → n ≤ most → reaches reached most ks ≡ true → reaches reached n ks ≡ true
reaches_less reached most n [] le r = let so = leb-true most reached r in le-leb n reached (omega (arith, so, le))
reaches_less reached most n (k ∷ ks) le r =
    let q = and_parts (nat_le k.place reached) (reaches (max reached (k.place + k.count)) most ks) r in
    and_from _ _ q.0 (reaches_less (max reached (k.place + k.count)) most n ks le q.1)

pub reaches_whole : (reached n : ℕ) → reaches reached n (record { place = 0; count = n } ∷ []) ≡ true
reaches_whole reached n = and_from _ _ (le-leb 0 reached (omega arith)) (le-leb n (max reached (0 + n)) (omega arith))

in_more : (i : ℕ) (ks : List Range) (k : Range) → is_in i ks → is_in i (ks ++ k ∷ [])
in_more i [] k w = absurd w
in_more i (x ∷ ks) k (inl w) = inl w
in_more i (x ∷ ks) k (inr w) = inr (in_more i ks k w)

in_last : (i : ℕ) (ks : List Range) (k : Range) → k.place ≤ i → i < k.place + k.count → is_in i (ks ++ k ∷ [])
in_last i [] k le lt = inl (le, lt)
in_last i (x ∷ ks) k le lt = inr (in_last i ks k le lt)

pub old_but_more : (ks : List Range) (old file : List ℕ) (p : ℕ) (xs : List ℕ) → p ≤ length file → IsOldBut ks old file → IsOldBut (ks ++ record { place = p; count = length xs } ∷ []) old (put file p xs)
old_but_more ks old file p xs le o i lt none = by (cases_lt i p) (cases_lt i (p + length xs))
  where
    long : length (put file p xs) ≡ max (length file) (p + length xs)
    long = grown file p xs le

    out : is_in i ks → ⊥
    out w = none (in_more i ks (record { place = p; count = length xs }) w)

    by : (i < p) ⊎ (p ≤ i) → (i < p + length xs) ⊎ (p + length xs ≤ i) → (i < length old) × (slice_index (put file p xs) i ≡ slice_index old i)
    by (inl before) c = let was = o i (omega (arith, before, le)) out in (was.0, byte-put_before file p xs i le before ∙ was.1)
    by (inr from) (inl in_it) = absurd (none (in_last i ks (record { place = p; count = length xs }) from in_it))
    by (inr from) (inr past) = let was = o i (omega (arith, lt, long, past)) out in (was.0, byte-put_after file p xs i le past ∙ was.1)

pub old_but_cut : (ks : List Range) (old file : List ℕ) (n : ℕ) → IsOldBut ks old file → IsOldBut ks old (take n file)
old_but_cut ks old file n o i lt none =
    let long = length-take n file in
    let was = o i (omega (arith, lt, long)) none in
    (was.0, get_or-take n file i 0 (omega (arith, lt, long)) ∙ was.1)

pub old_but_whole : (old file : List ℕ) → IsOldBut (record { place = 0; count = length file } ∷ []) old file
old_but_whole old file i lt none = absurd (none (inl (omega arith, omega (arith, lt))))

-- a file that nothing was written into
pub old_but_none : (old file : List ℕ) → old ≡ file → IsOldBut [] old file
old_but_none old file e i lt none = (subst (λ (l : List ℕ). i < length l) (sym e) lt, sym (ap (λ (l : List ℕ). slice_index l i) e))

-- ---- what the ranges make

pub member_long : (file : List ℕ) (k : Range) → length (member_of file k).1 ≡ min k.count (length file - min k.place (length file))
member_long file k =
    let s = min k.place (length file) in
    omega (arith, length-take (min k.count (length file - s)) (drop s file), length-drop s file)

fits_members : (reached now : ℕ) (file : List ℕ) (ks : List Range) → min reached (length file) ≤ now → reaches reached (length file) ks ≡ true → fits now (length file) (members_of file ks) ≡ true
fits_members reached now file [] low r = let so = leb-true (length file) reached r in le-leb (length file) now (omega (arith, so, low))
fits_members reached now file (k ∷ ks) low r =
    let q = and_parts (nat_le k.place reached) (reaches (max reached (k.place + k.count)) (length file) ks) r in
    let there = leb-true k.place reached q.0 in
    let s = min k.place (length file) in
    let long = member_long file k in
    let start : s ≤ now = omega (arith, there, low) in
    let end : s + length (member_of file k).1 ≤ length file = omega (arith, long) in
    let next : min (max reached (k.place + k.count)) (length file) ≤ max now (s + length (member_of file k).1) = omega (arith, long, low, there) in
    and_from _ _ (and_from _ _ (le-leb s now start) (le-leb (s + length (member_of file k).1) (length file) end))
    (fits_members (max reached (k.place + k.count)) (max now (s + length (member_of file k).1)) file ks next q.1)

pub fits_kept : (reached : ℕ) (file : List ℕ) (ks : List Range) → reaches reached (length file) ks ≡ true → fits reached (length file) (members_of file ks) ≡ true
fits_kept reached file ks r = fits_members reached reached file ks (omega arith) r

decide_in : (i : ℕ) (ks : List Range) → is_in i ks ⊎ (is_in i ks → ⊥)
decide_in i [] = inr (λ w. w)
decide_in i (k ∷ ks) = by (cases_lt i k.place) (cases_lt i (k.place + k.count)) (decide_in i ks)
  where
    by : (i < k.place) ⊎ (k.place ≤ i) → (i < k.place + k.count) ⊎ (k.place + k.count ≤ i) → is_in i ks ⊎ (is_in i ks → ⊥) → is_in i (k ∷ ks) ⊎ (is_in i (k ∷ ks) → ⊥)
    by a b (inl later) = inl (inr later)
    by (inr from) (inl in_it) (inr none) = inl (inl (from, in_it))
    by (inl before) b (inr none) = inr (λ w. elim w [ inl own ↦ (let x = own.0 in absurd (omega (arith, x, before))) | inr later ↦ none later ])
    by (inr from) (inr past) (inr none) = inr (λ w. elim w [ inl own ↦ (let x = own.1 in absurd (omega (arith, x, past))) | inr later ↦ none later ])

-- a byte that one of the ranges has, or that is the old one
patched_at : (main file : List ℕ) (ks : List Range) (i : ℕ) → fits (length main) (length file) (members_of file ks) ≡ true → i < length file → is_in i ks ⊎ ((i < length main) × (slice_index main i ≡ slice_index file i))
    → slice_index (patched main (members_of file ks)) i ≡ slice_index file i
patched_at main file [] i f lt (inl w) = absurd w
patched_at main file [] i f lt (inr is) = is.1
patched_at main file (k ∷ ks) i f lt w =
    let s = min k.place (length file) in
    let xs = (member_of file k).1 in
    let q = and_parts (nat_le s (length main) && nat_le (s + length xs) (length file)) (fits (max (length main) (s + length xs)) (length file) (members_of file ks)) f in
    let r = and_parts (nat_le s (length main)) (nat_le (s + length xs) (length file)) q.0 in
    let low = leb-true s (length main) r.0 in
    let next : fits (length (put main s xs)) (length file) (members_of file ks) ≡ true = subst (λ (n : ℕ). fits n (length file) (members_of file ks) ≡ true) (sym (grown main s xs low)) q.1 in
    patched_at (put main s xs) file ks i next lt (by low (grown main s xs low) w (cases_lt i s) (cases_lt i (s + length xs)))
  where
    start : ℕ
    start = min k.place (length file)

    bytes : List ℕ
    bytes = (member_of file k).1

    by : min k.place (length file) ≤ length main → length (put main (min k.place (length file)) (member_of file k).1) ≡ max (length main) (min k.place (length file) + length (member_of file k).1)
        → is_in i (k ∷ ks) ⊎ ((i < length main) × (slice_index main i ≡ slice_index file i)) → (i < min k.place (length file)) ⊎ (min k.place (length file) ≤ i) → (i < min k.place (length file) + length (member_of file k).1) ⊎ (min k.place (length file) + length (member_of file k).1 ≤ i)
        → is_in i ks ⊎ ((i < length (put main (min k.place (length file)) (member_of file k).1)) × (slice_index (put main (min k.place (length file)) (member_of file k).1) i ≡ slice_index file i))
    by low long w (inr from) (inl in_it) =
        let s = min k.place (length file) in
        let xs = (member_of file k).1 in
        let size = member_long file k in
        let at : s + (i - s) ≡ i = omega (arith, from) in
        inr (omega (arith, long, in_it), inside main s xs i low from in_it ∙ get_or-take (min k.count (length file - s)) (drop s file) (i - s) 0 (omega (arith, size, from, in_it)) ∙ get_or-drop s file (i - s) 0 ∙ ap (slice_index file) at)
    by low long (inl (inr later)) a b = inl later
    by low long (inl (inl own)) (inl before) b = let x = own.0 in absurd (omega (arith, x, before))
    by low long (inl (inl own)) (inr from) (inr past) = let x = own.0 in let y = own.1 in absurd (omega (arith, x, y, past, lt, member_long file k))
    by low long (inr is) (inl before) b = let x = is.0 in inr (omega (arith, x, long), byte-put_before main (min k.place (length file)) (member_of file k).1 i low before ∙ is.1)
    by low long (inr is) (inr from) (inr past) = let x = is.0 in inr (omega (arith, x, long), byte-put_after main (min k.place (length file)) (member_of file k).1 i low past ∙ is.1)

-- the old file, filled, is the new one
pub filled_kept : (main file : List ℕ) (ks : List Range) → fits (length main) (length file) (members_of file ks) ≡ true → IsOldBut ks main file → filled main (body_of file ks) ≡ file
filled_kept main file ks f o =
    let n = length file in
    let p = patched main (members_of file ks) in
    let enough = patched_long main n (members_of file ks) f in
    let long : length (take n p) ≡ n = omega (arith, length-take n p, enough) in
    ext_get_or 0 (take n p) file long (λ i lt. let inn : i < n = omega (arith, lt, long) in get_or-take n p i 0 inn ∙ patched_at main file ks i f inn (known i inn (decide_in i ks)))
  where
    known : (i : ℕ) → i < length file → is_in i ks ⊎ (is_in i ks → ⊥) → is_in i ks ⊎ ((i < length main) × (slice_index main i ≡ slice_index file i))
    known i lt (inl w) = inl w
    known i lt (inr none) = let was = o i lt none in inr (was.0, sym was.1)
