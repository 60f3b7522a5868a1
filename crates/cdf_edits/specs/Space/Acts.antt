-- What a command takes and frees, in the order in which it does, and what that leaves of the space of an image (CDF Internal Format Description, "Unused Internal Records": NextUIR, PrevUIR; own: a record is taken where it fits first, PrevUIR is kept true, and no record is lost).
use Rattle.std.specs.Prelude.{◌≡◌, ◌⊎◌, ◌≤◌, ◌<◌, ℕ, ◌+◌, List, [], ◌∷◌, length, map, Bool, true, false, not, ◌&&◌, ◌==◌, nat_lt, nat_le, find, if◌then◌else◌, Some, None}
use Rattle.std.specs.List.{filter, fold, list_any}
use Rattle.cdf_format.specs.Bytes.{byte}
use Rattle.cdf_format.specs.Chains.{is_in}
use Rattle.cdf_format.specs.Fields.{number, size_at, type_at}
use Rattle.cdf_format.specs.Owners.{unused_records}
use Rattle.cdf_edits.specs.Space.Placement.{unused, place_for, taken_from, given_to, eof_after, stands_behind}
use Rattle.cdf_format.specs.Records.{past, linked_size, record_type, uir_prev_uir}
use Rattle.cdf_format.specs.RecordTypes.{uir_type}
use Rattle.cdf_format.specs.Shape.{Each, shape}

-- a record of so many bytes is taken at a place, or the record at a place is freed, which has so many
pub data Act : Type 0 where
  Took : ℕ → ℕ → Act
  Gave : ℕ → ℕ → Act

-- the records that acts took
abbrev pub taken : List Act → List (ℕ × ℕ)
taken [] = []
taken (Took place need ∷ more) = (place, need) ∷ taken more
taken (Gave place size ∷ more) = taken more

-- these records are freed, in this order
abbrev pub gave : List ℕ → List ℕ → List Act
gave b places = map (λ place. Gave place (size_at b place)) places

-- ---- the space of an image

-- The records in use; the unused list, and PrevUIR of its records; the unused records that are on no list; each with its size. And eof.
pub record SpaceLeft : Type 0 where
  pub used : List (ℕ × ℕ)
  pub listed : List (ℕ × ℕ)
  pub back : List (ℕ × ℕ)
  pub loose : List (ℕ × ℕ)
  pub end : ℕ

abbrev pub sized : List ℕ → List ℕ → List (ℕ × ℕ)
sized b places = map (λ place. (place, size_at b place)) places

abbrev pub used_records : List ℕ → List ℕ
used_records b = filter (λ place. not (type_at b place == uir_type)) (shape b).records

abbrev pub loose_records : List ℕ → List ℕ
loose_records b = filter (λ place. not (is_in place (shape b).unused)) (unused_records b (shape b))

abbrev pub back_of : List ℕ → List (ℕ × ℕ)
back_of b = map (λ uir. (uir, number b uir uir_prev_uir)) (shape b).unused

abbrev pub space_before : List ℕ → SpaceLeft
space_before b = record { used = sized b (used_records b); listed = unused b (shape b); back = back_of b; loose = sized b (loose_records b); end = length b }

abbrev pub Among : ℕ × ℕ → List (ℕ × ℕ) → Type 0
Among pair [] = ⊥
Among pair (other ∷ more) = (pair ≡ other) ⊎ Among pair more

-- An image has this space. That records in use and those on no list are among these is enough, since the records of an image meet.
pub record HasLeft (now : List ℕ) (left : SpaceLeft) : Type 0 where
  pub used_are : Each (λ place. Among (place, size_at now place) left.used) (used_records now)
  pub list_is : unused now (shape now) ≡ left.listed
  pub back_is : back_of now ≡ left.back
  pub loose_are : Each (λ place. Among (place, size_at now place) left.loose) (loose_records now)
  pub end_is : length now ≡ left.end

-- ---- what acts leave

abbrev pub back_in : List (ℕ × ℕ) → ℕ → ℕ
back_in back uir = elim (find (λ pair. pair.0 == uir) back) [ None ↦ 0 | Some pair ↦ pair.1 ]

-- PrevUIR of the records of a list: that of one which stood behind the same record stays, else it is the record before it, 0 where there is none
abbrev pub back_after : List (ℕ × ℕ) → List ℕ → ℕ → List (ℕ × ℕ) → List (ℕ × ℕ)
back_after back was before [] = []
back_after back was before ((uir, size) ∷ more) = (uir, if stands_behind 0 was before uir then back_in back uir else before) ∷ back_after back was uir more

-- the space with another list
abbrev pub with_listed : SpaceLeft → List (ℕ × ℕ) → SpaceLeft
with_listed left list = record left { listed = list; back = back_after left.back (map (λ pair. pair.0) left.listed) 0 list }

abbrev pub without : ℕ → List (ℕ × ℕ) → List (ℕ × ℕ)
without place list = filter (λ pair. not (pair.0 == place)) list

abbrev pub after_act : SpaceLeft → Act → SpaceLeft
after_act left (Took place need) = record (with_listed left (taken_from left.listed need)) { used = (place, need) ∷ left.used; end = eof_after left.listed left.end need }
after_act left (Gave place size) = record (with_listed left (given_to left.listed place size)) { used = without place left.used; loose = if nat_le linked_size size then left.loose else (place, size) ∷ left.loose }

-- each is taken where it fits first, with room for the links of an unused record, and what is freed is in use
abbrev pub Happens : SpaceLeft → Act → Type 0
Happens left (Took place need) = (linked_size ≤ need) × (place ≡ place_for left.listed left.end need)
Happens left (Gave place size) = Among (place, size) left.used

abbrev pub AreActs : SpaceLeft → List Act → Type 0
AreActs left [] = Unit {0}
AreActs left (act ∷ more) = Happens left act × AreActs (after_act left act) more

-- no act frees what an earlier one took
abbrev pub none_twice : List ℕ → List Act → Bool
none_twice places [] = true
none_twice places (Took place need ∷ more) = none_twice (place ∷ places) more
none_twice places (Gave place size ∷ more) = not (is_in place places) && none_twice places more

-- the links of a record of the unused list end here; one that has no room for them has none
abbrev pub links_end : ℕ → ℕ
links_end size = if nat_le linked_size size then linked_size else past record_type

-- a byte lies in a record that acts took
abbrev pub lies_in_taken : List Act → ℕ → Bool
lies_in_taken acts i = list_any (λ take. nat_le take.0 i && nat_lt i (take.0 + take.1)) (taken acts)

-- Behind the links of the rest of a split everything stays, but for what lay in records that were taken and then freed.
abbrev pub RestStays : List ℕ → List ℕ → List Act → ℕ → ℕ → Type 0
RestStays b now acts split rest = split < rest → rest < split + size_at b split
    → (i : ℕ) → rest + linked_size ≤ i → i < rest + size_at now rest → lies_in_taken acts i ≡ false → byte now i ≡ byte b i

-- these acts lead from the space of one image to that of another
pub record ActsFollow (b now : List ℕ) (acts : List Act) : Type 0 where
  pub are : AreActs (space_before b) acts
  pub left : HasLeft now (fold after_act (space_before b) acts)
  pub rests : Each (λ split. Each (RestStays b now acts split) (shape now).unused) (shape b).unused

-- no record is freed
abbrev pub OnlyTakes : List Act → Type 0
OnlyTakes [] = Unit {0}
OnlyTakes (Took place need ∷ more) = OnlyTakes more
OnlyTakes (Gave place size ∷ more) = ⊥
