-- Words that write no value of a type.
use Rattle.std.specs.Prelude.{ℕ, List, Bool}
use Rattle.std.specs.List.{list_all}
use Rattle.std.specs.Option.{is_none}
use Rattle.cdf_model.specs.declared.data_type.DataType.{DataType}
use Rattle.cdf_model.specs.Values.{bytes_in}

-- none of these words writes a value of so many elements
abbrev pub are_no_values : DataType → ℕ → List (List ℕ) → Bool
are_no_values t elems words = list_all (λ word. is_none (bytes_in t elems word)) words
