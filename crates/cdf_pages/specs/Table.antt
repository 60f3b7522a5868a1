-- The changed pages of an image in places of their own, one for each number (own).
use Rattle.std.specs.Prelude.{ℕ, suc, List, [], ◌∷◌, get_or, take, None, Some}
use Rattle.std.specs.declared.option.Option.{Option}

-- the changed page of a number
unfoldable pub page_at : List (Option (List ℕ)) → ℕ → Option (List ℕ)
page_at slots number = get_or slots number None

-- how many changed pages there are
unfoldable pub pages_held : List (Option (List ℕ)) → ℕ
pages_held [] = 0
pages_held (None ∷ more) = pages_held more
pages_held (Some page ∷ more) = suc (pages_held more)

-- how many of them come before a number
abbrev pub pages_before : List (Option (List ℕ)) → ℕ → ℕ
pages_before slots number = pages_held (take number slots)
