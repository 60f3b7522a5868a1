-- Where a record is placed, and what becomes of one that is freed (CDF Internal Format Description, "Unused Internal Records"; own: the first record that fits is taken, a larger one is split, a freed one becomes the head of the list).
use Rattle.std.specs.Prelude.{◌≡◌, ◌≤◌, ◌<◌, ℕ, ◌+◌, ◌-◌, List, [], ◌∷◌, length, map, Bool, true, false, ◌&&◌, ◌||◌, ◌==◌, nat_le, if◌then◌else◌}
use Rattle.cdf_format.specs.Bytes.{byte}
use Rattle.cdf_edits.specs.Frame.Changed.{Touch, touch, touched_field, Changed}
use Rattle.cdf_format.specs.Chains.{is_a, is_in, IsChain}
use Rattle.cdf_format.specs.Fields.{number, eof, size_at}
use Rattle.cdf_format.specs.Records.{Field, past, cdr_place, linked_size, record_type, gdr_eof, gdr_uir_head, uir_next_uir, uir_prev_uir}
use Rattle.cdf_format.specs.RecordTypes.{uir_type}
use Rattle.cdf_format.specs.Shape.{Shape}
use Rattle.cdf_format.specs.Tiles.{AreTiles}

-- the unused list: where each record of it stands, and its size
abbrev pub unused : List ℕ → Shape → List (ℕ × ℕ)
unused b s = map (λ place. (place, size_at b place)) s.unused

-- a record is taken whole, or so that the rest is a record of the unused list
abbrev pub fits : ℕ → ℕ → Bool
fits need size = (size == need) || nat_le (need + linked_size) size

-- the first record of the list that fits, else eof
abbrev pub place_for : List (ℕ × ℕ) → ℕ → ℕ → ℕ
place_for [] end need = end
place_for ((place, size) ∷ more) end need = if fits need size then place else place_for more end need

-- the list after that: the rest of a larger record stays at its higher end
abbrev pub taken_from : List (ℕ × ℕ) → ℕ → List (ℕ × ℕ)
taken_from [] need = []
taken_from ((place, size) ∷ more) need = if size == need then more else (if nat_le (need + linked_size) size then (place + need, size - need) ∷ more else (place, size) ∷ taken_from more need)

abbrev pub eof_after : List (ℕ × ℕ) → ℕ → ℕ → ℕ
eof_after list end need = if place_for list end need == end then end + need else end

-- ---- the unused list of the image after that

-- the same shape with other records and another unused list
abbrev pub with_space : Shape → List ℕ → List ℕ → Shape
with_space s records unused = record s { records = records; unused = unused }

-- A shape differs from another in its records and its unused list alone, and these are those of the image.
pub record HasSpace (now : List ℕ) (s s' : Shape) : Type 0 where
  pub rest_stays : s' ≡ with_space s s'.records s'.unused
  pub tiled : AreTiles now cdr_place (length now) s'.records
  pub unused_chain : IsChain now s'.records uir_type (number now s'.gdr gdr_uir_head) s'.unused

-- in a list `uir` stands directly behind `other`; `before` is the record before the list, 0 where there is none
abbrev pub stands_behind : ℕ → List ℕ → ℕ → ℕ → Bool
stands_behind before [] other uir = false
stands_behind before (first ∷ more) other uir = ((before == other) && (first == uir)) || stands_behind first more other uir

-- PrevUIR of the records of a list: that of one which stood behind the same record stays, else it is the record before it, 0 where there is none
abbrev pub back_links : List ℕ → List ℕ → ℕ → List ℕ → List ℕ
back_links b was before [] = []
back_links b was before (uir ∷ more) = (if stands_behind 0 was before uir then number b uir uir_prev_uir else before) ∷ back_links b was uir more

abbrev pub BackLinksFollow : List ℕ → List ℕ → Shape → Shape → Type 0
BackLinksFollow b now s s' = map (λ uir. number now uir uir_prev_uir) s'.unused ≡ back_links b s.unused 0 s'.unused

-- the back link of the first record of a list
abbrev pub first_back_link : List ℕ → List Touch
first_back_link [] = []
first_back_link (uir ∷ more) = touched_field uir uir_prev_uir ∷ []

-- ---- a record is taken

-- Of a record that is split: what is taken, and size, type and links of the rest, which are its first bytes.
abbrev pub split_width : ℕ → ℕ → ℕ
split_width need size = if size == need then need else need + linked_size

-- What is touched where a record of the list is taken that a link in a field of `holder` leads to: this link, the record, and the back link of the next one. If none fits, the end of the image rises.
abbrev pub taking : ℕ → ℕ → Field → List (ℕ × ℕ) → ℕ → List Touch
taking gdr holder link [] need = touched_field gdr gdr_eof ∷ []
taking gdr holder link ((place, size) ∷ more) need =
    if fits need size then touched_field holder link ∷ touch place 0 (split_width need size) ∷ first_back_link (map (λ pair. pair.0) more)
    else taking gdr place uir_next_uir more need

-- An image of a shape in which a record of so many bytes was taken: it stands at this place with type UIR, bytes 0 after its type, on no list.
pub record Takes (b now : List ℕ) (s s' : Shape) (need place : ℕ) : Type 0 where
  pub place_is : place ≡ place_for (unused b s) (length b) need
  pub list_is : unused now s' ≡ taken_from (unused b s) need
  pub length_is : length now ≡ eof_after (unused b s) (length b) need
  pub eof_is : eof now s.gdr ≡ length now
  pub space : HasSpace now s s'
  pub stands : is_a now s'.records uir_type place ≡ true
  pub size_is : size_at now place ≡ need
  pub empty : (i : ℕ) → past record_type ≤ i → i < need → byte now (place + i) ≡ 0
  pub unlisted : is_in place s'.unused ≡ false
  pub back : BackLinksFollow b now s s'
  pub changed : Changed b now (taking s.gdr s.gdr gdr_uir_head (unused b s) need)

-- ---- a record is freed

-- a record with room for the links becomes the head of the list
abbrev pub given_to : List (ℕ × ℕ) → ℕ → ℕ → List (ℕ × ℕ)
given_to list place size = if nat_le linked_size size then (place, size) ∷ list else list

-- What is touched: the type; of a record that joins the list its links and UIRhead too, and PrevUIR of the old head.
abbrev pub giving : ℕ → List ℕ → ℕ → ℕ → List Touch
giving gdr list place size =
    touched_field place record_type
    ∷ (if nat_le linked_size size then touched_field gdr gdr_uir_head ∷ touched_field place uir_next_uir ∷ touched_field place uir_prev_uir ∷ first_back_link list else [])

-- An image of a shape in which a record was freed.
pub record Gives (b now : List ℕ) (s s' : Shape) (place : ℕ) : Type 0 where
  pub list_is : unused now s' ≡ given_to (unused b s) place (size_at b place)
  pub length_is : length now ≡ length b
  pub records_stay : s'.records ≡ s.records
  pub space : HasSpace now s s'
  pub stands : is_a now s'.records uir_type place ≡ true
  pub back : BackLinksFollow b now s s'
  pub changed : Changed b now (giving s.gdr s.unused place (size_at b place))
