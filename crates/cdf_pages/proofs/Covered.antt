-- What is kept of a page: old bytes that are put back over whatever was written.
use Rattle.cdf_pages.proofs.Common.{All-head, All-push, All-tail, AllLieBelow, Bool, Covers, Err, LiesBelow, List, None, Ok, Old, OnErr, Option, Result, Some, [], ap, arith, back, byte-put_after, byte-put_before, byte-put_inside, cases_lt, drop, get_or_default, if◌then◌else◌, inl, inr, is_some, length, length-drop, length-put, length-take-le, put, put_own, refl, same_lists, slice_index, subst, sym, take, was, ℕ, ◌++◌, ◌+◌, ◌-◌, ◌<◌, ◌∙◌, ◌∷◌, ◌≡◌, ◌≤◌, ◌⊎◌}
use Rattle.std.specs.Prelude.{OnOk}
use Rattle.cdf_area.proofs.Backs.{back-push}
use Rattle.cdf_pages.proofs.Images.{same_or_not}

pub length_back : (n : ℕ) (olds : List Old) (bytes : List ℕ) → AllLieBelow n olds → length bytes ≡ n → length (back olds bytes) ≡ n
unfolding back
length_back n [] bytes below long = long
length_back n (old ∷ olds) bytes below long =
    let rest = length_back n olds bytes (All-tail (LiesBelow n) old olds below) long in
    length-put (back olds bytes) old.place old.bytes (omega (arith, All-head (LiesBelow n) old olds below, rest)) ∙ rest

-- two pages that agree beside a range have the same bytes once others are put there
same_put : (page page' xs : List ℕ) (from upto : ℕ) → length page ≡ 65536 → length page' ≡ 65536 → from + length xs ≡ upto → upto ≤ 65536
    → ((i : ℕ) → (i < from) ⊎ (upto ≤ i) → slice_index page i ≡ slice_index page' i) → put page from xs ≡ put page' from xs
same_put page page' xs from upto long long' end room agree =
    let size = length-put page from xs (omega arith) in
    let size' = length-put page' from xs (omega arith) in
    same_lists _ _ (size ∙ long ∙ sym long' ∙ sym size') (λ i d lt.
    let low : i < 65536 = omega (arith, lt, size) in
    get_or_default (put page from xs) i d 0 lt
    ∙ elim (cases_lt i from) as (λ _. slice_index (put page from xs) i ≡ slice_index (put page' from xs) i) [
      | inl before ↦ byte-put_before page from xs i (omega arith) before ∙ agree i (inl before) ∙ sym (byte-put_before page' from xs i (omega arith) before)
      | inr behind ↦ elim (cases_lt i upto) as (λ _. slice_index (put page from xs) i ≡ slice_index (put page' from xs) i) [
        | inl within ↦ (let e : from + (i - from) ≡ i = omega arith in
            ap (slice_index (put page from xs)) (sym e) ∙ byte-put_inside page from xs (i - from) (omega arith) (omega arith)
            ∙ sym (byte-put_inside page' from xs (i - from) (omega arith) (omega arith)) ∙ ap (slice_index (put page' from xs)) e)
        | inr after ↦ byte-put_after page from xs i (omega arith) (omega arith) ∙ agree i (inr after) ∙ sym (byte-put_after page' from xs i (omega arith) (omega arith))
      ]
    ]
    ∙ get_or_default (put page' from xs) i 0 d (omega (arith, low, size', long')))

-- what is kept last covers its range
pub covers_pushed : (olds : List Old) (xs : List ℕ) (from upto : ℕ) → from + length xs ≡ upto → upto ≤ 65536 → Covers (Some (Some (olds ++ record { place = from; bytes = xs } ∷ []))) from upto
covers_pushed olds xs from upto end room page page' long long' agree =
    ap (λ l. Some l) (back-push olds _ page ∙ ap (back olds) (same_put page page' xs from upto long long' end room agree) ∙ sym (back-push olds _ page'))

-- a range of nothing is covered
pub covers_nothing : (kept : Option (Option (List Old))) (from upto : ℕ) → upto ≤ from → Covers kept from upto
covers_nothing kept from upto none page page' long long' agree =
    ap (λ l. was kept (Some l)) (same_lists page page' (long ∙ sym long') (λ i d lt.
    get_or_default page i d 0 lt
    ∙ agree i (elim (cases_lt i from) [ inl before ↦ inl before | inr behind ↦ inr (omega (arith, none, behind)) ])
    ∙ get_or_default page' i 0 d (omega (arith, lt, long, long'))))

-- what is written in a range that is covered leaves what the page was
pub was_written : (kept : Option (Option (List Old))) (from upto place : ℕ) (page xs : List ℕ) → Covers kept from upto → length page ≡ 65536 → from ≤ place → place + length xs ≤ upto → upto ≤ 65536
    → was kept (Some (put page place xs)) ≡ was kept (Some page)
was_written kept from upto place page xs covers long low high room =
    covers (put page place xs) page (length-put page place xs (omega arith) ∙ long) long (λ i beside. elim beside [
      | inl before ↦ byte-put_before page place xs i (omega arith) (omega (arith, before, low))
      | inr after ↦ byte-put_after page place xs i (omega arith) (omega (arith, after, high))
    ])

-- what stands there is put back over itself
pub was_pushed : (olds : List Old) (page : List ℕ) (from upto : ℕ) → from ≤ upto → upto ≤ length page → back (olds ++ record { place = from; bytes = take (upto - from) (drop from page) } ∷ []) page ≡ back olds page
was_pushed olds page from upto order room = back-push olds _ page ∙ ap (back olds) (put_own page from (upto - from) (omega arith))

pub covers_less : (kept : Option (Option (List Old))) (from upto from' upto' : ℕ) → from ≤ from' → upto' ≤ upto → Covers kept from upto → Covers kept from' upto'
covers_less kept from upto from' upto' low high covers page page' long long' agree =
    covers page page' long long' (λ i beside. elim beside [
      | inl before ↦ agree i (inl (omega (arith, before, low)))
      | inr after ↦ agree i (inr (omega (arith, after, high)))
    ])

-- a write within one page, in a range that is covered
pub was_step : (p p' : ℕ → Option (List ℕ)) (kept : ℕ → Option (Option (List Old))) (k off from upto : ℕ) (page xs : List ℕ) → p k ≡ Some page → length page ≡ 65536 → p' k ≡ Some (put page off xs) → ((q : ℕ) → (q ≡ k → ⊥) → p' q ≡ p q)
    → Covers (kept k) from upto → from ≤ off → off + length xs ≤ upto → upto ≤ 65536 → (q : ℕ) → was (kept q) (p' q) ≡ was (kept q) (p q)
was_step p p' kept k off from upto page xs there long now others covers low high room q = elim (same_or_not q k) [
  | inl same ↦ subst (λ x. was (kept x) (p' x) ≡ was (kept x) (p x)) (sym same) (ap (was (kept k)) now ∙ was_written (kept k) from upto off page xs covers long low high room ∙ sym (ap (was (kept k)) there))
  | inr differs ↦ ap (was (kept q)) (others q differs)
]

-- after the bytes of a part were kept, or were not for want of memory
module _ (olds olds' : List Old) (page xs : List ℕ) (from upto : ℕ) (are : xs ≡ take (upto - from) (drop from page)) (order : from ≤ upto) (room : upto ≤ length page) where
  abbrev last : Old
  last = record { place = from; bytes = xs }

  long : length xs ≡ upto - from
  long = ap length are ∙ length-take-le (upto - from) (drop from page) (omega (arith, length-drop from page))

  pub was_kept : {T E : Type 0} (result : Result T E) → OnOk result (olds' ≡ olds ++ last ∷ []) → OnErr result (olds' ≡ olds) → back olds' page ≡ back olds page
  was_kept (Ok v) pushed stays = ap (λ (l : List Old). back l page) pushed ∙ ap (λ (l : List ℕ). back (olds ++ record { place = from; bytes = l } ∷ []) page) are ∙ was_pushed olds page from upto order room
  was_kept (Err e) pushed stays = ap (λ (l : List Old). back l page) stays

  pub covers_kept : {T E : Type 0} (result : Result T E) → upto ≤ 65536 → OnOk result (olds' ≡ olds ++ last ∷ []) → OnOk result (Covers (Some (Some olds')) from upto)
  covers_kept (Ok v) small pushed = subst (λ (l : List Old). Covers (Some (Some l)) from upto) (sym pushed) (covers_pushed olds xs from upto (omega (arith, long)) small)
  covers_kept (Err e) small pushed = pushed

  pub below_kept : {T E : Type 0} (result : Result T E) (n : ℕ) → upto ≤ n → OnOk result (olds' ≡ olds ++ last ∷ []) → OnErr result (olds' ≡ olds) → AllLieBelow n olds → AllLieBelow n olds'
  below_kept (Ok v) n small pushed stays below = subst (AllLieBelow n) (sym pushed) (All-push (LiesBelow n) olds last below (omega (arith, long)))
  below_kept (Err e) n small pushed stays below = subst (AllLieBelow n) (sym stays) below

-- a page of which nothing was written over
pub was_log : (page : Option (List ℕ)) {is_changed : Bool} → is_changed ≡ is_some page → was (Some (if is_changed then Some [] else None)) page ≡ page
unfolding back
was_log None is = rw is refl
was_log (Some page) is = rw is refl
