-- The Names of records, which are to differ.
use Rattle.std.specs.Prelude.{◌≡◌, ◌≤◌, ℕ, List, [], length, map, bytes_eq, None}
use Rattle.cdf_format.specs.ChainRules.{differ_rows}
use Rattle.cdf_structure.specs.Findings.{Finds}
use Rattle.cdf_check.specs.declared.names.Names.{Names}

-- Each record has this Name, and its Name stands in the table as long as none stands twice; or a record has one that stood before it.
pub record AreNamed (name_of : ℕ → List ℕ) (places : List ℕ) (names : Names) : Type 0 where
  pub few : length names.table ≤ length places
  pub table : names.repeated ≡ None → names.table ≡ map name_of places
  pub found : Finds (differ_rows 2 (λ place other. bytes_eq (name_of place) (name_of other)) [] places) names.repeated
