-- Finite maps from numbers, as lists of pairs (own). Each that is made here of one whose numbers rise has rising numbers again.
use Rattle.std.specs.Prelude.{ℕ, zero, suc, ◌+◌, ◌-◌, List, [], ◌∷◌, map, not, ◌&&◌, ◌==◌, nat_lt, nat_le, find, if◌then◌else◌, None}
use Rattle.std.specs.declared.option.Option.{Option}
use Rattle.std.specs.List.{filter, last_or}
use Rattle.std.specs.Option.{option_map}

-- the item of a number
abbrev pub item_at : {A : Type 0} → ℕ → List (ℕ × A) → Option A
item_at n items = option_map (λ pair. pair.1) (find (λ pair. pair.0 == n) items)

-- the item is put in, in place of one that has the number
abbrev pub with_item : {A : Type 0} → ℕ → A → List (ℕ × A) → List (ℕ × A)
with_item n a [] = (n, a) ∷ []
with_item n a ((m, b) ∷ items) = if nat_lt n m then (n, a) ∷ (m, b) ∷ items else (if n == m then (n, a) ∷ items else (m, b) ∷ with_item n a items)

-- each of so many numbers from n on gets the item
abbrev pub with_items : {A : Type 0} → ℕ → ℕ → A → List (ℕ × A) → List (ℕ × A)
with_items n zero a items = items
with_items n (suc count) a items = with_item n a (with_items (n + 1) count a items)

-- without the numbers from the first to the last
abbrev pub without : {A : Type 0} → ℕ → ℕ → List (ℕ × A) → List (ℕ × A)
without first last items = filter (λ pair. not (nat_le first pair.0 && nat_le pair.0 last)) items

-- the same, and each greater number falls by as many as there are
abbrev pub closed_up : {A : Type 0} → ℕ → ℕ → List (ℕ × A) → List (ℕ × A)
closed_up first last items = map (λ pair. (if nat_lt last pair.0 then pair.0 - (last + 1 - first) else pair.0, pair.1)) (without first last items)

-- the last item whose number is below n
abbrev pub item_before : {A : Type 0} → ℕ → List (ℕ × A) → Option A
item_before n items = option_map (λ pair. pair.1) (last_or None (filter (λ pair. nat_lt pair.0 n) items))

-- the greatest number
abbrev pub greatest : {A : Type 0} → List (ℕ × A) → Option ℕ
greatest items = option_map (λ pair. pair.0) (last_or None items)
