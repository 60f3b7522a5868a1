-- What the bytes say of an image in which a record of no owner was freed.
use Rattle.std.specs.Prelude.{◌≡◌, ℕ, List, [], ◌∷◌, length}
use Rattle.cdf_format.specs.Sound.{IsSound}
use Rattle.cdf_edits.specs.Frame.Changed.{touched_field, Changed}
use Rattle.cdf_format.specs.Chains.{next_of}
use Rattle.cdf_format.specs.Content.{content}
use Rattle.cdf_format.specs.Fields.{number, type_at}
use Rattle.cdf_edits.specs.Space.Placement.{Gives, first_back_link}
use Rattle.cdf_format.specs.Records.{record_type, gdr_uir_head, uir_next_uir, uir_prev_uir}
use Rattle.cdf_format.specs.RecordTypes.{uir_type}
use Rattle.cdf_format.specs.Shape.{Shape}
use Rattle.cdf_edits.specs.Space.Taking.{prev_of, FirstBack}

-- It has the type of an unused record, and stands on no list.
pub record UnlistedBytes (b now : List ℕ) (place : ℕ) : Type 0 where
  pub as_long : length now ≡ length b
  pub changed : Changed b now (touched_field place record_type ∷ [])
  pub type_is : type_at now place ≡ uir_type

-- It has the type of an unused record, and is the first one of the list.
pub record FirstBytes (b now : List ℕ) (gdr : ℕ) (list : List ℕ) (place : ℕ) : Type 0 where
  pub as_long : length now ≡ length b
  pub changed : Changed b now (touched_field place record_type ∷ touched_field gdr gdr_uir_head ∷ touched_field place uir_next_uir ∷ touched_field place uir_prev_uir ∷ first_back_link list)
  pub type_is : type_at now place ≡ uir_type
  pub head_is : number now gdr gdr_uir_head ≡ place
  pub next_is : next_of now place ≡ number b gdr gdr_uir_head
  pub prev_is : prev_of now place ≡ 0
  pub back_is : FirstBack now place list

-- A record was freed, and the image is sound as before, with its content.
abbrev pub IsGiven : List ℕ → List ℕ → Shape → Shape → ℕ → Type 0
IsGiven b now s s' place = Gives b now s s' place × IsSound now s' × (content now ≡ content b)
