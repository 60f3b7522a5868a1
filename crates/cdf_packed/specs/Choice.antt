-- Which blocks are packed (own; CDF Internal Format Description, "Compressed Variable Values Record").
use Rattle.std.specs.Prelude.{◌≡◌, ◌<◌, ℕ, List, All, Bool, false}
use Rattle.cdf_edits.specs.Index.Written.{is_worth_packing}
use Rattle.cdf_model.specs.RunLengths.{IsLongest, Packs}

-- however these bytes are packed, it is not worth it
abbrev pub NeverWorth : List ℕ → Type 0
NeverWorth plain = (packed : List ℕ) → All (λ byte. byte < 256) packed → Packs packed plain → is_worth_packing plain packed ≡ false

-- whether a block of these bytes is packed: exactly where that is worth it in the longest runs
abbrev pub IsChosen : List ℕ → Bool → Type 0
IsChosen plain is_packed = (runs : List ℕ) → All (λ byte. byte < 256) runs → Packs runs plain → IsLongest runs → is_packed ≡ is_worth_packing plain runs
