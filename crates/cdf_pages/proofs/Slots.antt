-- Changed pages in places of their own: one that is put in, one that goes, places more.
use Rattle.cdf_pages.proofs.Common.{IsSome, List, None, Option, Some, [], ap, arith, cases_lt, get_or-set_other, get_or-set_same, get_or_past, if◌then◌else◌, inl, inr, is_some, length, min, page_at, pages_held, refl, slice_set, suc, sym, take, take_all, zero, ℕ, ◌++◌, ◌+◌, ◌<◌, ◌∙◌, ◌∷◌, ◌≡◌, ◌≢◌, ◌≤◌}
use Rattle.std.specs.Prelude.{get_or}
use Rattle.cdf_pages.proofs.Filling.{false_not_true}

pub no_pages : (n : ℕ) → page_at [] n ≡ None
unfolding page_at
no_pages n = refl

pub page_past : (slots : List (Option (List ℕ))) (n : ℕ) → length slots ≤ n → page_at slots n ≡ None
unfolding page_at
page_past slots n past = get_or_past slots n None past

pub page_read : (slots : List (Option (List ℕ))) (n : ℕ) (d : Option (List ℕ)) → n < length slots → get_or slots n d ≡ page_at slots n
unfolding page_at
page_read [] n d lt = elim lt [ ]
page_read (slot ∷ more) zero d lt = refl
page_read (slot ∷ more) (suc n) d lt = page_read more n d (omega (arith, lt))

pub page_set : (slots : List (Option (List ℕ))) (n : ℕ) (slot : Option (List ℕ)) → n < length slots → page_at (slice_set slots n slot) n ≡ slot
unfolding page_at
page_set slots n slot lt = get_or-set_same slots n slot None lt

pub page_kept : (slots : List (Option (List ℕ))) (n other : ℕ) (slot : Option (List ℕ)) → other ≢ n → page_at (slice_set slots n slot) other ≡ page_at slots other
unfolding page_at
page_kept slots n other slot ne = get_or-set_other slots n other slot None ne

-- a place more, without a page
pub page_pushed : (slots : List (Option (List ℕ))) (n : ℕ) → page_at (slots ++ None ∷ []) n ≡ page_at slots n
unfolding page_at
page_pushed [] zero = refl
page_pushed [] (suc n) = refl
page_pushed (slot ∷ more) zero = refl
page_pushed (slot ∷ more) (suc n) = page_pushed more n

-- a page goes
pub one_less : (slots : List (Option (List ℕ))) (n : ℕ) → IsSome (page_at slots n) → pages_held (slice_set slots n None) + 1 ≡ pages_held slots
unfolding page_at pages_held
one_less [] n some = absurd (false_not_true some)
one_less (None ∷ more) zero some = absurd (false_not_true some)
one_less (Some page ∷ more) zero some = omega arith
one_less (None ∷ more) (suc n) some = one_less more n some
one_less (Some page ∷ more) (suc n) some = let r = one_less more n some in omega (arith, r)

-- one slot after another is counted
pub none_counted : (slots : List (Option (List ℕ))) → pages_held (take 0 slots) ≡ 0
unfolding pages_held
none_counted [] = refl
none_counted (slot ∷ more) = refl

one_more : (slots : List (Option (List ℕ))) (n : ℕ) → n < length slots → pages_held (take (suc n) slots) ≡ pages_held (take n slots) + (if is_some (page_at slots n) then 1 else 0)
unfolding page_at pages_held
one_more [] n lt = elim lt [ ]
one_more (None ∷ more) zero lt = none_counted more
one_more (Some page ∷ more) zero lt = ap suc (none_counted more)
one_more (None ∷ more) (suc n) lt = one_more more n (omega (arith, lt))
one_more (Some page ∷ more) (suc n) lt = let r = one_more more n (omega (arith, lt)) in omega (arith, r)

pub one_counted : (slots : List (Option (List ℕ))) (n : ℕ) → n < length slots → pages_held (take (n + 1) slots) ≡ pages_held (take n slots) + (if is_some (page_at slots n) then 1 else 0)
one_counted slots n lt = let next : n + 1 ≡ suc n = omega arith in ap (λ (k : ℕ). pages_held (take k slots)) next ∙ one_more slots n lt

pub counted_short : (slots : List (Option (List ℕ))) (n : ℕ) → pages_held (take n slots) ≤ n
unfolding pages_held
counted_short slots zero = let r = none_counted slots in omega (arith, r)
counted_short [] (suc n) = omega arith
counted_short (None ∷ more) (suc n) = let r = counted_short more n in omega (arith, r)
counted_short (Some page ∷ more) (suc n) = let r = counted_short more n in omega (arith, r)

-- a page goes, before a number or behind it
pub less_before : (slots : List (Option (List ℕ))) (n k : ℕ) → n < k → IsSome (page_at slots n) → pages_held (take k (slice_set slots n None)) + 1 ≡ pages_held (take k slots)
unfolding page_at pages_held
less_before slots n zero lt some = absurd (omega (arith, lt))
less_before [] n (suc k) lt some = absurd (false_not_true some)
less_before (None ∷ more) zero (suc k) lt some = absurd (false_not_true some)
less_before (Some page ∷ more) zero (suc k) lt some = omega arith
less_before (None ∷ more) (suc n) (suc k) lt some = less_before more n k (omega (arith, lt)) some
less_before (Some page ∷ more) (suc n) (suc k) lt some = let r = less_before more n k (omega (arith, lt)) some in omega (arith, r)

pub same_before : (slots : List (Option (List ℕ))) (n k : ℕ) (slot : Option (List ℕ)) → k ≤ n → pages_held (take k (slice_set slots n slot)) ≡ pages_held (take k slots)
unfolding pages_held
same_before slots n zero slot le = none_counted (slice_set slots n slot) ∙ sym (none_counted slots)
same_before [] n (suc k) slot le = refl
same_before (one ∷ more) zero (suc k) slot le = absurd (omega (arith, le))
same_before (None ∷ more) (suc n) (suc k) slot le = same_before more n k slot (omega (arith, le))
same_before (Some page ∷ more) (suc n) (suc k) slot le = ap suc (same_before more n k slot (omega (arith, le)))

-- a number past all places counts them all
pub counted_upto : (slots : List (Option (List ℕ))) (k : ℕ) → pages_held (take (min (length slots) k) slots) ≡ pages_held (take k slots)
counted_upto slots k = elim (cases_lt k (length slots)) [
  | inl less ↦ ap (λ m. pages_held (take m slots)) (omega (arith, less))
  | inr more ↦ ap pages_held (take_all (min (length slots) k) slots (omega (arith, more)) ∙ sym (take_all k slots more))
]

-- there is a page before a number
pub some_before : (slots : List (Option (List ℕ))) (n k : ℕ) → n < k → IsSome (page_at slots n) → 1 ≤ pages_held (take k slots)
some_before slots n k lt some = let r = less_before slots n k lt some in omega (arith, r)

pub some_held : (slots : List (Option (List ℕ))) (n : ℕ) → IsSome (page_at slots n) → 1 ≤ pages_held slots
some_held slots n some = let r = one_less slots n some in omega (arith, r)
