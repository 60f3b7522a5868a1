-- What is found on the unused list, and what single writes leave of an image.
use Rattle.std.specs.Prelude.{◌≡◌, ◌≢◌, ℕ, ◌+◌, ◌<◌, List, [], ◌∷◌, ◌++◌, true, if◌then◌else◌, ◌==◌, length}
use Rattle.cdf_format.specs.Bytes.{byte}
use Rattle.cdf_edits.specs.Frame.Changed.{Touch, touch, touched_field, Changed}
use Rattle.cdf_format.specs.Chains.{next_of}
use Rattle.cdf_format.specs.Fields.{word, size_at, type_at}
use Rattle.cdf_edits.specs.Frame.Links.{end_place}
use Rattle.cdf_edits.specs.Space.Placement.{fits}
use Rattle.cdf_format.specs.Records.{uir_prev_uir, linked_size, link_size, gdr_uir_head}
use Rattle.cdf_format.specs.RecordTypes.{uir_type}
use Rattle.cdf_format.specs.Shape.{Shape}
use Rattle.cdf_edits.specs.Space.Taking.{NoneFit, last_of, prev_of}
use Rattle.cdf_space.specs.declared.placing.Fit.{Fit}

-- the first record of the unused list that fits
pub record IsFirstFit (b : List ℕ) (s : Shape) (need : ℕ) (fit : Fit) : Type 0 where
  pub front : List ℕ
  pub more : List ℕ
  pub list_is : s.unused ≡ front ++ fit.place ∷ more
  pub none_before : NoneFit b need front
  pub it_fits : fits need (size_at b fit.place) ≡ true
  pub link_is : fit.link ≡ end_place (s.gdr + gdr_uir_head.place) front
  pub before_is : fit.before ≡ last_of 0 front
  pub size_is : fit.size ≡ size_at b fit.place
  pub next_is : fit.next ≡ next_of b fit.place

-- the link back of a record, where there is one
abbrev pub back_link : ℕ → List Touch
back_link uir = if uir == 0 then [] else touched_field uir uir_prev_uir ∷ []

-- The link that leads to a record of the list leads past it, and the link back of the next record too.
pub record Relinked (b now : List ℕ) (fit : Fit) (to back : ℕ) : Type 0 where
  pub length_stays : length now ≡ length b
  pub changed : Changed b now (touch fit.link 0 link_size ∷ back_link fit.next)
  pub link_is : word now fit.link link_size ≡ to
  pub back_is : fit.next ≢ 0 → prev_of now fit.next ≡ back

-- size, type and links of an unused record
pub record Listed (b now : List ℕ) (place size next before : ℕ) : Type 0 where
  pub length_stays : length now ≡ length b
  pub changed : Changed b now (touch place 0 linked_size ∷ [])
  pub size_is : size_at now place ≡ size
  pub type_is : type_at now place ≡ uir_type
  pub next_is : next_of now place ≡ next
  pub prev_is : prev_of now place ≡ before

-- so many bytes from a place on became 0
pub record Cleared (b now : List ℕ) (from n : ℕ) : Type 0 where
  pub length_stays : length now ≡ length b
  pub changed : Changed b now (touch from 0 n ∷ [])
  pub zero : (i : ℕ) → i < n → byte now (from + i) ≡ 0
