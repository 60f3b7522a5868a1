-- More pages are changed ones, and show the same bytes.
use Rattle.std.specs.Prelude.{◌≡◌, ℕ, zero, suc, ◌<◌, ◌≤◌, List, None, IsSome, nat_eq}
use Rattle.std.specs.declared.option.Option.{Option}
use Rattle.std.specs.Map.{remove_entry}
use Rattle.cdf_area.specs.OldBytes.{Old}
use Rattle.cdf_pages.specs.Pages.{Covers, byte_of, part_from, part_upto, was}

-- the first n bytes of the image stay, and so does what each page was at the mark, if there is one; no changed page is lost
pub record Grown (file : List ℕ) (n : ℕ) (marked : Option ℕ) (changed : ℕ → Option (List ℕ)) (kept : ℕ → Option (Option (List Old))) (changed' : ℕ → Option (List ℕ)) (kept' : ℕ → Option (Option (List Old))) : Type 0 where
  pub same : (i : ℕ) → i < n → byte_of changed' file i ≡ byte_of changed file i
  pub less : (number : ℕ) → changed' number ≡ None → changed number ≡ None
  pub was : IsSome marked → (number : ℕ) → was (kept' number) (changed' number) ≡ was (kept number) (changed number)

-- the pages from one up to another are changed ones, and where there is a mark, what stands in them of a range is kept
pub record Owned (marked : Option ℕ) (changed : ℕ → Option (List ℕ)) (kept : ℕ → Option (Option (List Old))) (place end from upto : ℕ) : Type 0 where
  pub there : (number : ℕ) → from ≤ number → number < upto → changed number ≡ None → ⊥
  pub ready : (number : ℕ) → from ≤ number → number < upto → IsSome marked → Covers (kept number) (part_from place number) (part_upto end number)

-- the clean pages without so many from a number on
unfoldable pub removed : {X : Type 0} → ℕ → ℕ → List (ℕ × X) → List (ℕ × X)
removed number zero clean = clean
removed number (suc count) clean = removed (suc number) count (remove_entry (nat_eq number) clean)

-- some pages from a number on left the clean ones, at most so many
pub record RemovesSome {X : Type 0} (number n : ℕ) (clean clean' : List (ℕ × X)) : Type 0 where
  pub count : ℕ
  pub most : count ≤ n
  pub are : clean' ≡ removed number count clean
