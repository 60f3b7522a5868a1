-- What bytes show of a state, and what an event appends to them. No meaning of a file rests on this page (own).
use Rattle.std.specs.Prelude.{◌≡◌, ◌<◌, ◌≤◌, ℕ, ◌+◌, ◌%◌, List, [], ◌∷◌, ◌++◌, length, replicate, true, Bool}
use Rattle.cdf_base.specs.Bytes.{put}
use Rattle.cdf_format.specs.NewFile.{magic}
use Rattle.cdf_format.specs.Records.{adr_name}
use Rattle.cdf_model.specs.declared.event.Event.{Event}
use Rattle.cdf_model.specs.declared.event.Event.TheVariants as events
use Rattle.cdf_model.specs.Limits.{dimension_limit}
use Rattle.cdf_model.specs.Names.{name_limit}
use Rattle.cdf_model.specs.Types.{size_of}
use Rattle.cdf_model.specs.ByteOrder.{turned}
use Rattle.cdf_writer.specs.Bodies.{name_bytes}
use Rattle.cdf_writer.specs.Laying.{cpr_bodies, laid, laid_size}
use Rattle.cdf_writer.specs.Progress.{State, added_bodies, adr_made, adr_rest, begun, finished_bodies, finished_place, finished_root, held_bodies, held_next, image_of, is_in_z, vdr_made, vdr_rest, vdr_tail}
use Rattle.cdf_writer.specs.declared.progress.FileState.{FileState}
use Rattle.cdf_writer.specs.declared.progress.Held.{Held}
use Rattle.cdf_writer.specs.declared.progress.Part.{Part}
use Rattle.cdf_writer.specs.declared.progress.Part.TheVariants as parts

-- whole elements, and lengths as an image has them
abbrev pub IsWhole : Event → Type 0
IsWhole (events.Head h) = length h.rdims ≤ dimension_limit
IsWhole (events.Attr n name scope) = length name ≤ name_limit
IsWhole (events.Entry kind n t elems bytes) = length bytes % size_of t ≡ 0
IsWhole (events.Var kind n name t elems vary dims varys sparse rle blocking max_rec has_pad pad) = (length name ≤ name_limit) × (length dims ≤ dimension_limit) × (has_pad ≡ true → length pad % size_of t ≡ 0)
IsWhole (events.Rec n t elems bytes) = (0 < length bytes) × (length bytes % size_of t ≡ 0)
IsWhole (events.End attributes variables recs) = Unit {0}

abbrev pub IsStarted : Part → Type 0
IsStarted parts.Start = ⊥
IsStarted parts.Between = Unit {0}
IsStarted (parts.Attribute a) = Unit {0}
IsStarted (parts.Variable v) = Unit {0}

-- the room of the open part lies within so many bytes
abbrev pub HasRoom : ℕ → Part → Type 0
HasRoom long parts.Start = Unit {0}
HasRoom long parts.Between = Unit {0}
HasRoom long (parts.Attribute a) = a.place + 68 + length a.name ≤ long
HasRoom long (parts.Variable v) = v.place + 84 + length v.tail ≤ long

-- a room of so many bytes stands at a place, behind the finished records
pub record RoomAt (s : State) (place rest : ℕ) : Type 0 where
  pub place_is : place ≡ length magic + laid_size (s.cdr ∷ s.gdr ∷ s.finished)
  pub room_is : s.room ≡ replicate rest 0 ∷ []

abbrev pub IsPlaced : Part → State → Type 0
IsPlaced parts.Start s = Unit {0}
IsPlaced parts.Between s = (s.room ≡ []) × (s.behind ≡ [])
IsPlaced (parts.Attribute a) s = RoomAt s a.place (adr_rest a.name)
IsPlaced (parts.Variable v) s = RoomAt s v.place (vdr_rest v.tail)

-- the bytes that there are and what is kept are those of a state
pub record Shows (b : List ℕ) (file : FileState) (part : Part) (s : State) : Type 0 where
  pub image_is : b ≡ image_of s
  pub file_is : file ≡ s.file
  pub part_is : part ≡ s.part
  pub placed : IsPlaced s.part s
  pub gdr_long : IsStarted s.part → (length s.cdr ≡ 304) × (length s.gdr ≡ 76 + length s.file.dims)

-- ---- what an event appends behind so many bytes

abbrev pub finish_bodies : Part → ℕ → List (List ℕ)
finish_bodies parts.Start long = []
finish_bodies parts.Between long = []
finish_bodies (parts.Attribute a) long = held_bodies a 0
finish_bodies (parts.Variable v) long = finished_bodies v long

abbrev pub finished_image : FileState → Part → List ℕ → List ℕ
finished_image file parts.Start b = b
finished_image file parts.Between b = b
finished_image file (parts.Attribute a) b = put (b ++ laid (held_bodies a 0)) (a.place + 8) (adr_made file (length b + laid_size (held_bodies a 0)) a)
finished_image file (parts.Variable v) b = put (b ++ laid (finished_bodies v (length b))) (v.place + 8) (vdr_made file (finished_place v (length b)) (finished_root v (length b)) v)

abbrev pub attribute_bodies : ℕ → Part → List ℕ → List (List ℕ)
attribute_bodies long part name = finish_bodies part long ++ replicate (adr_rest (name_bytes adr_name name)) 0 ∷ []

abbrev pub variable_bodies : ℕ → Part → Bool → List ℕ → List (List ℕ)
variable_bodies long part rle tail = finish_bodies part long ++ replicate (vdr_rest tail) 0 ∷ cpr_bodies rle

abbrev pub entry_bodies : ℕ → Part → Held → List (List ℕ)
entry_bodies long parts.Start held = []
entry_bodies long parts.Between held = []
entry_bodies long (parts.Attribute a) held = held_bodies a (held_next a.held held.in_z (long + laid_size (held_bodies a 0)))
entry_bodies long (parts.Variable v) held = []

abbrev pub record_bodies : Part → ℕ → ℕ → List (List ℕ)
record_bodies parts.Start num long = []
record_bodies parts.Between num long = []
record_bodies (parts.Attribute a) num long = []
record_bodies (parts.Variable v) num long = added_bodies v num long

abbrev pub event_bodies : ℕ → Part → Bool → Event → List (List ℕ)
event_bodies long part little (events.Head h) = []
event_bodies long part little (events.Attr n name scope) = attribute_bodies long part name
event_bodies long part little (events.Entry kind n t elems bytes) = entry_bodies long part (record { in_z = is_in_z kind; num = n; t = t; elems = elems; stored = turned t little bytes })
event_bodies long part little (events.Var kind n name t elems vary dims varys sparse rle blocking max_rec has_pad pad) = variable_bodies long part rle (vdr_tail kind little name t dims varys has_pad pad)
event_bodies long part little (events.Rec n t elems bytes) = record_bodies part n (length bytes)
event_bodies long part little (events.End attributes variables recs) = finish_bodies part long

abbrev pub IsHead : Event → Type 0
IsHead (events.Head h) = Unit {0}
IsHead (events.Attr n name scope) = ⊥
IsHead (events.Entry kind n t elems bytes) = ⊥
IsHead (events.Var kind n name t elems vary dims varys sparse rle blocking max_rec has_pad pad) = ⊥
IsHead (events.Rec n t elems bytes) = ⊥
IsHead (events.End attributes variables recs) = ⊥

-- the CDR, and the room of the GDR
abbrev pub begin_bodies : Event → List (List ℕ)
begin_bodies (events.Head h) = (begun h).cdr ∷ (begun h).gdr ∷ []
begin_bodies (events.Attr n name scope) = []
begin_bodies (events.Entry kind n t elems bytes) = []
begin_bodies (events.Var kind n name t elems vary dims varys sparse rle blocking max_rec has_pad pad) = []
begin_bodies (events.Rec n t elems bytes) = []
begin_bodies (events.End attributes variables recs) = []

abbrev pub IsVariable : Event → Type 0
IsVariable (events.Head h) = ⊥
IsVariable (events.Attr n name scope) = ⊥
IsVariable (events.Entry kind n t elems bytes) = ⊥
IsVariable (events.Var kind n name t elems vary dims varys sparse rle blocking max_rec has_pad pad) = Unit {0}
IsVariable (events.Rec n t elems bytes) = ⊥
IsVariable (events.End attributes variables recs) = ⊥
