-- What the bytes say of an image in which a record was taken: of the record, of the unused list, and of the rest of a record that was split.
use Rattle.std.specs.Prelude.{◌≡◌, ◌≤◌, ◌<◌, ℕ, ◌+◌, ◌-◌, List, [], ◌∷◌, length, false}
use Rattle.cdf_format.specs.Bytes.{byte}
use Rattle.cdf_edits.specs.Frame.Changed.{Touch, touch, touched_field, Changed}
use Rattle.cdf_format.specs.Chains.{next_of}
use Rattle.cdf_format.specs.Fields.{word, number, size_at, type_at, eof}
use Rattle.cdf_edits.specs.Frame.Links.{end_place}
use Rattle.cdf_edits.specs.Space.Placement.{fits, first_back_link, Takes}
use Rattle.cdf_format.specs.Shape.{Shape}
use Rattle.cdf_format.specs.Sound.{IsSound}
use Rattle.cdf_format.specs.Content.{content}
use Rattle.cdf_format.specs.Records.{Field, past, record_type, gdr_eof, gdr_uir_head, uir_next_uir, uir_prev_uir}
use Rattle.cdf_format.specs.RecordTypes.{uir_type}

-- none of these records fits
abbrev pub NoneFit : List ℕ → ℕ → List ℕ → Type 0
NoneFit b need [] = Unit {0}
NoneFit b need (m ∷ more) = (fits need (size_at b m) ≡ false) × NoneFit b need more

-- the record that has the link behind a front part of the list, and the field
abbrev pub link_tile : ℕ → List ℕ → ℕ
link_tile holder [] = holder
link_tile holder (m ∷ more) = link_tile m more

abbrev pub link_field : Field → List ℕ → Field
link_field f [] = f
link_field f (m ∷ more) = link_field uir_next_uir more

-- the last record of a front part, or else this
abbrev pub last_of : ℕ → List ℕ → ℕ
last_of before [] = before
last_of before (m ∷ more) = last_of m more

abbrev pub prev_of : List ℕ → ℕ → ℕ
prev_of b uir = number b uir uir_prev_uir

-- the link back of the first record of a list
abbrev pub FirstBack : List ℕ → ℕ → List ℕ → Type 0
FirstBack now before [] = Unit {0}
FirstBack now before (r ∷ rest) = prev_of now r ≡ before

-- what was touched where a record was taken that has a front part of the list before it and some more behind it
abbrev pub touched_by : ℕ → List ℕ → ℕ → List ℕ → ℕ → List Touch
touched_by gdr front a more w = touched_field (link_tile gdr front) (link_field gdr_uir_head front) ∷ touch a 0 w ∷ first_back_link more

-- A record of the list was taken: the link before it now leads to `next`.
pub record TakenBytes (b now : List ℕ) (gdr : ℕ) (front : List ℕ) (a : ℕ) (more : List ℕ) (need w next : ℕ) : Type 0 where
  pub as_long : length now ≡ length b
  pub changed : Changed b now (touched_by gdr front a more w)
  pub size_is : size_at now a ≡ need
  pub type_is : type_at now a ≡ uir_type
  pub empty : (i : ℕ) → past record_type ≤ i → i < need → byte now (a + i) ≡ 0
  pub link_is : word now (end_place (gdr + gdr_uir_head.place) front) gdr_uir_head.width ≡ next

-- It was split: size, type and links of the rest.
pub record RestBytes (b now : List ℕ) (a need before : ℕ) : Type 0 where
  pub size_is : size_at now (a + need) ≡ size_at b a - need
  pub type_is : type_at now (a + need) ≡ uir_type
  pub next_is : next_of now (a + need) ≡ next_of b a
  pub prev_is : prev_of now (a + need) ≡ before

-- A record was taken at the end.
pub record EndBytes (b now : List ℕ) (gdr need : ℕ) : Type 0 where
  pub as_long : length now ≡ length b + need
  pub changed : Changed b now (touched_field gdr gdr_eof ∷ [])
  pub size_is : size_at now (length b) ≡ need
  pub type_is : type_at now (length b) ≡ uir_type
  pub empty : (i : ℕ) → past record_type ≤ i → i < need → byte now (length b + i) ≡ 0
  pub eof_is : eof now gdr ≡ length now

-- A record was taken by first fit, and the image is sound as before, with its content.
abbrev pub IsTaken : List ℕ → List ℕ → Shape → Shape → ℕ → ℕ → Type 0
IsTaken b now s s' need place = Takes b now s s' need place × IsSound now s' × (content now ≡ content b)
