-- A list in groups, from the left (own).
use Rattle.std.specs.Prelude.{ℕ, ◌+◌, List, [], ◌∷◌, ◌++◌, length, Bool, ◌&&◌, ◌==◌, nat_lt, if◌then◌else◌}

-- an item joins the last group where the test says so, else it begins a new one
abbrev pub grouped_on : {A : Type 0} → (List A → A → Bool) → List A → List A → List (List A)
grouped_on joins group [] = group ∷ []
grouped_on joins group (a ∷ more) = if joins group a then grouped_on joins (group ++ a ∷ []) more else group ∷ grouped_on joins (a ∷ []) more

abbrev pub grouped : {A : Type 0} → (List A → A → Bool) → List A → List (List A)
grouped joins [] = []
grouped joins (a ∷ more) = grouped_on joins (a ∷ []) more

-- as many as fit
abbrev pub fits_in : {A : Type 0} → ℕ → List A → A → Bool
fits_in most group a = nat_lt (length group) most

-- the number of the first one, and of the last one
abbrev pub first_number : {A : Type 0} → List (ℕ × A) → ℕ
first_number [] = 0
first_number (pair ∷ more) = pair.0

abbrev pub last_number : {A : Type 0} → List (ℕ × A) → ℕ
last_number [] = 0
last_number (pair ∷ []) = pair.0
last_number (pair ∷ next ∷ more) = last_number (next ∷ more)

-- the next number, and as many as fit
abbrev pub goes_on : {A : Type 0} → ℕ → List (ℕ × A) → ℕ × A → Bool
goes_on most group pair = (pair.0 == last_number group + 1) && fits_in most group pair
