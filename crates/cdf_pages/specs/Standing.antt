-- Which pages of an area stand in memory: the changed ones, and the clean ones by their numbers, the most recently used first.
use Rattle.std.specs.Prelude.{◌≡◌, ℕ, zero, suc, ◌+◌, ◌-◌, ◌*◌, ◌/◌, ◌<◌, ◌≤◌, Bool, false, List, [], ◌∷◌, length, take, min, nat_eq, if◌then◌else◌, IsTrue}
use Rattle.std.specs.List.{IsDistinct, list_any}

-- a byte of the range of n bytes lies in a page
abbrev pub IsPageOf : ℕ → ℕ → ℕ → Type 0
IsPageOf place n number = (i : ℕ) × (place ≤ i) × (i < place + n) × (i / 65536 ≡ number)

-- in how many pages the range lies, which is at most one for each byte
abbrev pub pages_in : ℕ → ℕ → ℕ
pages_in place n = min n ((place + n + 65535) / 65536 - place / 65536)

-- the clean pages without one, and without so many from a number on
abbrev pub without : ℕ → List ℕ → List ℕ
without number [] = []
without number (other ∷ clean) = if nat_eq number other then clean else other ∷ without number clean

unfoldable pub without_from : ℕ → ℕ → List ℕ → List ℕ
without_from number zero clean = clean
without_from number (suc count) clean = without_from (suc number) count (without number clean)

-- one comes to the front, and where there would be 257 the last leaves
abbrev pub to_front : ℕ → List ℕ → List ℕ
to_front number clean = take 256 (number ∷ without number clean)

-- the clean pages after one is read, which comes to the front unless it is a changed one
abbrev pub used : (ℕ → Bool) → ℕ → List ℕ → List ℕ
used changed number clean = if changed number then clean else to_front number clean

-- after so many are read from a number on, in ascending order
unfoldable pub used_from : (ℕ → Bool) → ℕ → ℕ → List ℕ → List ℕ
used_from changed number zero clean = clean
used_from changed number (suc count) clean = used_from changed (suc number) count (used changed number clean)

-- the bytes that a page costs, of a file of so many bytes: those that the file has in it, or none where it stands in memory
abbrev pub clean_cost : List ℕ → ℕ → ℕ → ℕ
clean_cost clean long number = if list_any (nat_eq number) clean then 0 else min 65536 (long - number * 65536)

abbrev pub page_cost : (ℕ → Bool) → List ℕ → ℕ → ℕ → ℕ
page_cost changed clean long number = if changed number then 0 else clean_cost clean long number

-- what so many pages from a number on cost, all together
unfoldable pub cost_of_writing : (ℕ → Bool) → List ℕ → ℕ → ℕ → ℕ → ℕ
cost_of_writing changed clean long number zero = 0
cost_of_writing changed clean long number (suc count) = page_cost changed clean long number + cost_of_writing changed clean long (suc number) count

-- the same where each is read at its turn
unfoldable pub cost_of_reading : (ℕ → Bool) → List ℕ → ℕ → ℕ → ℕ → ℕ
cost_of_reading changed clean long number zero = 0
cost_of_reading changed clean long number (suc count) = page_cost changed clean long number + cost_of_reading changed (used changed number clean) long (suc number) count

-- what holds of the clean pages at every moment
pub record AreClean (changed : ℕ → Bool) (clean : List ℕ) : Type 0 where
  pub distinct : IsDistinct nat_eq clean
  pub few : length clean ≤ 256
  pub unchanged : (number : ℕ) → IsTrue (list_any (nat_eq number) clean) → changed number ≡ false

-- a range was written: its pages are changed ones and left the clean ones, and nothing else changed of these
pub record Changes (changed changed' : ℕ → Bool) (clean clean' : List ℕ) (place n : ℕ) : Type 0 where
  pub inside : (number : ℕ) → IsPageOf place n number → IsTrue (changed' number)
  pub outside : (number : ℕ) → (IsPageOf place n number → ⊥) → changed' number ≡ changed number
  pub gone : clean' ≡ without_from (place / 65536) (pages_in place n) clean

-- so it is of some pages of the range at most
pub record ChangesSome (changed changed' : ℕ → Bool) (clean clean' : List ℕ) (place n : ℕ) : Type 0 where
  pub more : (number : ℕ) → IsTrue (changed number) → IsTrue (changed' number)
  pub outside : (number : ℕ) → (IsPageOf place n number → ⊥) → changed' number ≡ changed number
  pub count : ℕ
  pub most : count ≤ pages_in place n
  pub gone : clean' ≡ without_from (place / 65536) count clean

-- a range was read up to one of its pages
pub record ReadsSome (changed : ℕ → Bool) (clean clean' : List ℕ) (place n : ℕ) : Type 0 where
  pub count : ℕ
  pub before : count < pages_in place n
  pub used : clean' ≡ used_from changed (place / 65536) count clean
