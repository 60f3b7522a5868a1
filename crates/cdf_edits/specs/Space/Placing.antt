-- A record that is taken and written: what follows its size is given, and what an image has then.
use Rattle.std.specs.Prelude.{◌≡◌, ◌≢◌, ◌≤◌, ℕ, ◌+◌, ◌-◌, List, [], ◌∷◌, ◌++◌, length, true}
use Rattle.byteorder.specs.Endian.{big_bytes}
use Rattle.cdf_base.specs.Bytes.{put}
use Rattle.cdf_format.specs.Sound.{IsSound}
use Rattle.cdf_edits.specs.Frame.Changed.{touch, Changed}
use Rattle.cdf_format.specs.Content.{content}
use Rattle.cdf_format.specs.Fields.{word, type_at}
use Rattle.cdf_edits.specs.Space.Placement.{with_space, Takes}
use Rattle.cdf_format.specs.Records.{Field, past, linked_size, record_size, record_type}
use Rattle.cdf_format.specs.RecordTypes.{uir_type, is_record_type, fixed_size}
use Rattle.cdf_format.specs.Shape.{Shape, shape}

-- fields with their numbers, one behind the other
abbrev pub laid_out : List (Field × ℕ) → List ℕ
laid_out [] = []
laid_out ((f, n) ∷ more) = big_bytes f.width n ++ laid_out more

-- the type with which bytes begin that follow the size of a record
abbrev pub type_of_body : List ℕ → ℕ
type_of_body body = word body 0 record_type.width

-- they make a record of a type that is in use, with its fixed part
pub record IsBody (body : List ℕ) : Type 0 where
  pub enough : linked_size ≤ past record_size + length body
  pub real : is_record_type (type_of_body body) ≡ true
  pub in_use : type_of_body body ≢ uir_type
  pub fixed : fixed_size (type_of_body body) ≤ past record_size + length body

-- From an image to one in which a record was taken, and to one in which it was written from its type on.
pub record Fills (b taken filled : List ℕ) (s : Shape) (records list : List ℕ) (need place type : ℕ) : Type 0 where
  pub takes : Takes b taken s (with_space s records list) need place
  pub sound : IsSound taken (with_space s records list)
  pub content_stays : content taken ≡ content b
  pub fill : Changed taken filled (touch place (past record_size) (need - past record_size) ∷ [])
  pub long : length filled ≡ length taken
  pub typed : type_at filled place ≡ type
  pub real : is_record_type type ≡ true
  pub in_use : type ≢ uir_type
  pub fixed : fixed_size type ≤ need
  pub enough : linked_size ≤ need

-- A record with these bytes behind its size stands at a place that was taken for it.
pub record Placed (b now body : List ℕ) (place : ℕ) : Type 0 where
  pub taken : List ℕ
  pub fills : Fills b taken now (shape b) (shape now).records (shape now).unused (past record_size + length body) place (type_of_body body)
  pub written : now ≡ put taken (place + past record_size) body
  pub inside : place + (past record_size + length body) ≤ length taken
  pub longest : length now ≤ length b + (past record_size + length body)
