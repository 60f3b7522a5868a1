-- Ranges that writes add to the written ones.
use Rattle.cdf_pages.proofs.Common.{All-append, All-cons, All-nil, All-weaker, Disk, List, None, Option, Some, Touches, WrittenPart, [], ap, append-nil, append_assoc, inl, inr, length, length-take-le, option_map, refl, subst, sym, take, written, ℕ, ◌++◌, ◌∙◌, ◌∷◌, ◌≡◌, ◌≤◌}

pub touches_none : (P : ℕ × ℕ → Type 0) (before after : Option (List (ℕ × ℕ))) → after ≡ before → Touches P before after
touches_none P before after e = record { ranges = []; all = All-nil P; added = e ∙ same before }
  where
    same : (ranges : Option (List (ℕ × ℕ))) → ranges ≡ option_map (λ old. old ++ []) ranges
    same None = refl
    same (Some old) = ap Some (sym (append-nil old))

pub touches_then : (P : ℕ × ℕ → Type 0) (a b c : Option (List (ℕ × ℕ))) → Touches P a b → Touches P b c → Touches P a c
touches_then P a b c h k = record {
  ranges = h.ranges ++ k.ranges;
  all = All-append P h.ranges k.ranges h.all k.all;
  added = k.added ∙ ap (option_map (λ old. old ++ k.ranges)) h.added ∙ joined a;
}
  where
    joined : (ranges : Option (List (ℕ × ℕ))) → option_map (λ old. old ++ k.ranges) (option_map (λ old. old ++ h.ranges) ranges) ≡ option_map (λ old. old ++ (h.ranges ++ k.ranges)) ranges
    joined None = refl
    joined (Some old) = ap Some (append_assoc old h.ranges k.ranges)

pub touches_weaker : (P Q : ℕ × ℕ → Type 0) (a b : Option (List (ℕ × ℕ))) → ((range : ℕ × ℕ) → P range → Q range) → Touches P a b → Touches Q a b
touches_weaker P Q a b more h = record { ranges = h.ranges; all = All-weaker P Q more h.ranges h.all; added = h.added }

-- one write
pub touches_write : {U : Type 0} (P : ℕ × ℕ → Type 0) (d next : Disk U) (place : ℕ) (xs : List ℕ) → P (place, length xs) → next ≡ written d place xs → Touches P d.touched next.touched
touches_write P d next place xs p e = record { ranges = (place, length xs) ∷ []; all = All-cons P (place, length xs) [] p (All-nil P); added = ap (λ x. x.touched) e }

-- a part of one
pub touches_part : {U : Type 0} (P : ℕ × ℕ → Type 0) (d next : Disk U) (place : ℕ) (xs : List ℕ) → ((n : ℕ) → n ≤ length xs → P (place, n)) → WrittenPart d place xs next → Touches P d.touched next.touched
touches_part P d next place xs p (inl same) = touches_none P d.touched next.touched (ap (λ x. x.touched) same)
touches_part P d next place xs p (inr w) = touches_write P d next place (take w.0 xs) (subst (λ (n : ℕ). P (place, n)) (sym (length-take-le w.0 xs w.1)) (p w.0 w.1)) w.2
