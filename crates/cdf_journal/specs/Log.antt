-- The log of a file: what is to be written into it, so that a crash in between can be mended (own).
use Rattle.std.specs.Prelude.{◌≡◌, ◌≤◌, ◌<◌, ◌⊎◌, ℕ, zero, suc, ◌+◌, List, [], ◌∷◌, ◌++◌, length, take, drop, Bool, nat_le, nat_lt, ◌&&◌, ◌==◌, slice_index, if◌then◌else◌, Some, None, max, min}
use Rattle.std.specs.declared.option.Option.{Option}
use Rattle.std.specs.List.{flat_map}
use Rattle.std.specs.Option.{option_and_then, option_map}
use Rattle.byteorder.specs.Endian.{big_bytes, big_from}
use Rattle.cdf_base.specs.Bytes.{put}

-- bytes that are to stand from a place on
abbrev pub Member : Type 0
Member = ℕ × List ℕ

-- what a log has to say: how long the file is to be, and what is to be written before, in order
pub record Body : Type 0 where
  pub new_length : ℕ
  pub members : List Member

-- ---- as bytes

abbrev pub member_bytes : Member → List ℕ
member_bytes (place, bytes) = big_bytes 8 place ++ big_bytes 8 (length bytes) ++ bytes

abbrev pub body_bytes : Body → List ℕ
body_bytes body = big_bytes 8 body.new_length ++ big_bytes 8 (length body.members) ++ flat_map member_bytes body.members

-- a log is open where its first byte is 1 and bytes stand behind its first 8
abbrev pub is_open : List ℕ → Bool
is_open log = nat_lt 8 (length log) && (slice_index log 0 == 1)

-- so many members, read from some bytes
abbrev pub members_in : ℕ → List ℕ → Option (List Member)
members_in zero bytes = Some []
members_in (suc count) bytes =
    if nat_le (16 + big_from 8 8 bytes) (length bytes)
    then option_map (λ more. (big_from 0 8 bytes, take (big_from 8 8 bytes) (drop 16 bytes)) ∷ more) (members_in count (drop (16 + big_from 8 8 bytes) bytes))
    else None

-- what a log says behind its first 8 bytes, whatever stands behind the last member
abbrev pub body_in : List ℕ → Option Body
body_in log = if nat_le 24 (length log) then option_map (λ members. record { new_length = big_from 8 8 log; members = members }) (members_in (big_from 16 8 log) (drop 24 log)) else None

-- ---- what it means for a file

abbrev pub patched : List ℕ → List Member → List ℕ
patched main [] = main
patched main ((place, bytes) ∷ more) = patched (put main place bytes) more

-- the members fit a file of so many bytes: none leaves a gap or passes the new length
abbrev pub fits : ℕ → ℕ → List Member → Bool
fits reached new_length [] = nat_le new_length reached
fits reached new_length ((place, bytes) ∷ more) = (nat_le place reached && nat_le (place + length bytes) new_length) && fits (max reached (place + length bytes)) new_length more

-- the members written in order, and the file cut to its new length
abbrev pub filled : List ℕ → Body → List ℕ
filled main body = take body.new_length (patched main body.members)

-- what a log says, where it is the journal of a file
abbrev pub journal_for : List ℕ → List ℕ → Option Body
journal_for main log = option_and_then (λ body. if fits (length main) body.new_length body.members then Some body else None) (body_in log)

-- What a file is once its log was read. A log that is not open says nothing, and one that is no journal is refused.
abbrev pub recovered : List ℕ → List ℕ → List ℕ
recovered main log = if is_open log then elim (journal_for main log) [ None ↦ main | Some body ↦ filled main body ] else main

-- ---- a file that was being filled

-- one of the members has the byte at i
abbrev pub is_within : ℕ → List Member → Type 0
is_within i [] = ⊥
is_within i ((place, bytes) ∷ more) = ((place ≤ i) × (i < place + length bytes)) ⊎ is_within i more

-- a crash in the middle: other bytes only within the members and past the old end, and a length from the lesser of the old and the new
-- one to the greater
pub record PartlyFilled (old : List ℕ) (body : Body) (now : List ℕ) : Type 0 where
  pub elsewhere : (i : ℕ) → i < length old → i < length now → (is_within i body.members → ⊥) → slice_index now i ≡ slice_index old i
  pub least : min (length old) body.new_length ≤ length now
  pub most : length now ≤ max (length old) body.new_length

-- so far only written, so that it is no shorter
pub record Grown (body : Body) (old now : List ℕ) : Type 0 where
  pub elsewhere : (i : ℕ) → i < length old → (is_within i body.members → ⊥) → slice_index now i ≡ slice_index old i
  pub longer : length old ≤ length now
  pub most : length now ≤ max (length old) body.new_length
