-- The ranges that a loop has still to go over.
use Rattle.std.proofs.Common.{List, [], ap, arith, drop, get_or, inl, inr, length, max, refl, subst, suc, sym, true, zero, ℕ, ◌+◌, ◌<◌, ◌∙◌, ◌∷◌, ◌≡◌, ◌≤◌}
use Rattle.std.proofs.lemmas.Bool.{and_parts, leb-true}
use Rattle.std.specs.Prelude.{nat_le, ◌&&◌}
use Rattle.cdf_journal.specs.Log.{fits, is_within}
use Rattle.cdf_journal.specs.Ranges.{member_of, members_of}
use Rattle.cdf_journal.specs.declared.range.Range.{Range}

-- the next one and those behind it
pub next_of : (ranges : List Range) (k : ℕ) (d : Range) → k < length ranges → drop k ranges ≡ get_or ranges k d ∷ drop (k + 1) ranges
next_of [] k d lt = absurd (omega arith)
next_of (y ∷ ranges) zero d lt = refl
next_of (y ∷ ranges) (suc k) d lt =
    let at : suc (k + 1) ≡ suc k + 1 = omega arith in
    next_of ranges k d (omega arith) ∙ ap (λ (j : ℕ). get_or ranges k d ∷ drop j (y ∷ ranges)) at

pub none_of : (ranges : List Range) (k : ℕ) → length ranges ≤ k → drop k ranges ≡ []
none_of [] zero le = refl
none_of [] (suc k) le = refl
none_of (x ∷ ranges) zero le = absurd (omega arith)
none_of (x ∷ ranges) (suc k) le = none_of ranges k (omega arith)

within_all : (file : List ℕ) (ranges : List Range) (k i : ℕ) → is_within i (members_of file (drop k ranges)) → is_within i (members_of file ranges)
within_all file [] zero i w = w
within_all file [] (suc k) i w = w
within_all file (x ∷ ranges) zero i w = w
within_all file (x ∷ ranges) (suc k) i w = inr (within_all file ranges k i w)

-- the next one is one of them
pub within_next : (file : List ℕ) (ranges : List Range) (k : ℕ) (d : Range) → k < length ranges → (i : ℕ) → (member_of file (get_or ranges k d)).0 ≤ i → i < (member_of file (get_or ranges k d)).0 + length (member_of file (get_or ranges k d)).1
    → is_within i (members_of file ranges)
within_next file ranges k d lt i le before = within_all file ranges k i (subst (λ (rs : List Range). is_within i (members_of file rs)) (sym (next_of ranges k d lt)) (inl (le, before)))

-- it fits, and so do those behind it
pub fits_next : (file : List ℕ) (reached : ℕ) (ranges : List Range) (k : ℕ) (d : Range) → k < length ranges → fits reached (length file) (members_of file (drop k ranges)) ≡ true
    → ((member_of file (get_or ranges k d)).0 ≤ reached) × (fits (max reached ((member_of file (get_or ranges k d)).0 + length (member_of file (get_or ranges k d)).1)) (length file) (members_of file (drop (k + 1) ranges)) ≡ true) × ((member_of file (get_or ranges k d)).0 + length (member_of file (get_or ranges k d)).1 ≤ length file)
fits_next file reached ranges k d lt f =
    let x = get_or ranges k d in
    let here : fits reached (length file) (member_of file x ∷ members_of file (drop (k + 1) ranges)) ≡ true = subst (λ (rs : List Range). fits reached (length file) (members_of file rs) ≡ true) (next_of ranges k d lt) f in
    let p = and_parts (nat_le (member_of file x).0 reached && nat_le ((member_of file x).0 + length (member_of file x).1) (length file)) (fits (max reached ((member_of file x).0 + length (member_of file x).1)) (length file) (members_of file (drop (k + 1) ranges))) here in
    let q = and_parts (nat_le (member_of file x).0 reached) (nat_le ((member_of file x).0 + length (member_of file x).1) (length file)) p.0 in
    (leb-true (member_of file x).0 reached q.0, p.1, leb-true ((member_of file x).0 + length (member_of file x).1) (length file) q.1)
