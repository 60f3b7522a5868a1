-- An edit of an image: what it leaves of each record, by its type (own).
use Rattle.std.specs.Prelude.{◌≡◌, ◌≢◌, ◌⊎◌, ◌≤◌, ℕ, ◌+◌, List, length}
use Rattle.cdf_format.specs.Bytes.{Same}
use Rattle.cdf_format.specs.Fields.{size_at, type_at}
use Rattle.cdf_format.specs.Records.{cdr_place, past, record_type}
use Rattle.cdf_format.specs.RecordTypes.{uir_type}
use Rattle.cdf_format.specs.Tiles.{In, AreTiles}
use Rattle.cdf_edits.specs.Edits.Marks.{Mark, Avoids}

-- an old record of its type, a new one that is unused, or one that is reborn
abbrev pub Kind : List ℕ → List ℕ → List ℕ → List ℕ → ℕ → Type 0
Kind b now old reborn m = (In m old × (type_at now m ≡ type_at b m)) ⊎ (((In m old → ⊥) × (type_at now m ≡ uir_type)) ⊎ In m reborn)

-- From an image with these records to one with those. Of an old record stays what avoids the marks; the reborn ones are those that may have another type.
pub record Edit (b now old new : List ℕ) (marks : List Mark) (reborn : List ℕ) : Type 0 where
  pub tiled : AreTiles b cdr_place (length b) old
  pub tiled_now : AreTiles now cdr_place (length now) new
  pub longer : length b ≤ length now
  pub front : Same b now 0 cdr_place
  pub sub : (m : ℕ) → In m old → In m new
  pub head : (m : ℕ) → In m old → type_at b m ≢ uir_type → (In m reborn → ⊥) → Same b now (m + 0) (m + past record_type)
  pub part : (m type lo hi : ℕ) → In m old → type_at b m ≡ type → Avoids marks type m 0 (past record_type) → Avoids marks type m lo hi → hi ≤ size_at b m → Same b now (m + lo) (m + hi)
  pub kind : (m : ℕ) → In m new → Kind b now old reborn m
