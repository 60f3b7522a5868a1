-- What a writer keeps of the events that it took, and what each event makes of it. No meaning of a file rests on this page: that all events of a data set lead to its compact image is a law (own).
use Rattle.std.specs.Prelude.{ℕ, ℤ, zero, suc, ◌+◌, ◌-◌, ◌*◌, ◌/◌, min, max, List, [], ◌∷◌, ◌++◌, length, map, replicate, Bool, true, false, not, ◌&&◌, ◌==◌, nat_lt, if◌then◌else◌, Some, None}
use Rattle.std.specs.declared.option.Option.{Option}
use Rattle.std.specs.List.{flat_map}
use Rattle.byteorder.specs.Endian.{big_bytes}
use Rattle.cdf_edits.specs.Index.Blocks.{block_limit, wanted_count}
use Rattle.cdf_format.specs.NewFile.{magic}
use Rattle.cdf_format.specs.RecordTypes.{agr_edr_type, az_edr_type, fixed_size, gdr_type}
use Rattle.cdf_format.specs.Records.{adr_name, past, record_size, vdr_name}
use Rattle.cdf_model.specs.declared.data_type.DataType.{DataType}
use Rattle.cdf_model.specs.declared.event.Event.{Event}
use Rattle.cdf_model.specs.declared.event.Event.TheVariants as events
use Rattle.cdf_model.specs.declared.head.Head.{Head}
use Rattle.cdf_model.specs.declared.kinds.EntryKind.{EntryKind}
use Rattle.cdf_model.specs.declared.kinds.EntryKind.TheVariants as entry_kinds
use Rattle.cdf_model.specs.declared.kinds.Kind.{Kind}
use Rattle.cdf_model.specs.declared.kinds.Kind.TheVariants as kinds
use Rattle.cdf_model.specs.declared.kinds.Scope.{Scope}
use Rattle.cdf_model.specs.declared.kinds.Sparse.{Sparse}
use Rattle.cdf_model.specs.ByteOrder.{turned}
use Rattle.cdf_model.specs.DataSet.{extent}
use Rattle.cdf_model.specs.Limits.{level_limit}
use Rattle.cdf_writer.specs.Bodies.{adr_front, cdr_bytes, entry_front, gdr_front, name_bytes, own_dims, vary_code, vdr_front}
use Rattle.cdf_writer.specs.Compact.{gdr_place, is_little_code}
use Rattle.cdf_writer.specs.Laying.{cpr_bodies, index_bodies, index_root, laid, laid_size, plain_body}
use Rattle.cdf_writer.specs.declared.bodies.Counts.{Counts}
use Rattle.cdf_writer.specs.declared.bodies.Descriptor.{Descriptor}
use Rattle.cdf_writer.specs.declared.bodies.EntryChain.{EntryChain}
use Rattle.cdf_writer.specs.declared.bodies.NodeEntry.{NodeEntry}
use Rattle.cdf_writer.specs.declared.progress.FileState.{FileState}
use Rattle.cdf_writer.specs.declared.progress.Group.{Group}
use Rattle.cdf_writer.specs.declared.progress.Held.{Held}
use Rattle.cdf_writer.specs.declared.progress.OpenAttribute.{OpenAttribute}
use Rattle.cdf_writer.specs.declared.progress.OpenVariable.{OpenVariable}
use Rattle.cdf_writer.specs.declared.progress.Part.{Part}
use Rattle.cdf_writer.specs.declared.progress.Part.TheVariants as parts

-- What is kept, with what stands behind the size of each record: the CDR; the GDR; records that are whole; the room of a record to come, if one is open; and what stands behind it. A room has bytes 0.
pub record State : Type 0 where
  pub file : FileState
  pub part : Part
  pub cdr : List ℕ
  pub gdr : List ℕ
  pub finished : List (List ℕ)
  pub room : List (List ℕ)
  pub behind : List (List ℕ)

abbrev pub records : State → List (List ℕ)
records s = (s.cdr ∷ s.gdr ∷ s.finished) ++ (s.room ++ s.behind)

-- where the next record will stand
abbrev pub size : State → ℕ
size s = length magic + laid_size (records s)

abbrev pub image_in : Part → List ℕ → List ℕ
image_in parts.Start b = []
image_in parts.Between b = b
image_in (parts.Attribute a) b = b
image_in (parts.Variable v) b = b

abbrev pub image_of : State → List ℕ
image_of s = image_in s.part (magic ++ laid (records s))

-- the link to a place from number n of so many
abbrev pub next_if : ℕ → ℕ → ℕ → ℕ
next_if n count place = if nat_lt (n + 1) count then place else 0

-- the place that was first
abbrev pub first_place : ℕ → ℕ → ℕ
first_place was place = if was == 0 then place else was

-- ---- the head

abbrev pub gdr_rest : ℕ → ℕ
gdr_rest dims = (fixed_size gdr_type - past record_size) + 4 * dims

abbrev pub begun : Head → State
begun h = record {
  file = record {
    little = is_little_code h.encoding;
    counts = record { attributes = h.attrs; r = h.rvars; z = h.zvars; dims = length h.rdims };
    dims = flat_map (big_bytes 4) h.rdims;
    attributes = 0;
    r = 0;
    z = 0;
    extent = 0;
  };
  part = parts.Between;
  cdr = cdr_bytes h gdr_place;
  gdr = replicate (gdr_rest (length h.rdims)) 0;
  finished = [];
  room = [];
  behind = [];
}

-- ---- attributes

abbrev pub no_chain : EntryChain
no_chain = record { head = 0; count = 0; greatest = None }

-- one more, at a place
abbrev pub longer : ℕ → ℕ → EntryChain → EntryChain
longer place num chain = record { head = if chain.count == 0 then place else chain.head; count = min (chain.count + 1) 0xffffffff; greatest = Some num }

abbrev pub is_in_z : EntryKind → Bool
is_in_z entry_kinds.G = false
is_in_z entry_kinds.R = false
is_in_z entry_kinds.Z = true

abbrev pub entry_type : Bool → ℕ
entry_type in_z = if in_z then az_edr_type else agr_edr_type

abbrev pub held_body : ℕ → Held → ℕ → List ℕ
held_body n held next = entry_front (entry_type held.in_z) n next held.num held.t held.elems ++ held.stored

-- the entry that is held back, linked to a place
abbrev pub held_bodies : OpenAttribute → ℕ → List (List ℕ)
held_bodies a next = elim a.held [ None ↦ [] | Some held ↦ held_body a.num held next ∷ [] ]

-- the link of the entry that is held back, where one of this chain follows at a place
abbrev pub held_next : Option Held → Bool → ℕ → ℕ
held_next None in_z place = 0
held_next (Some held) in_z place = if (if in_z then held.in_z else not held.in_z) then place else 0

abbrev pub with_entry : ℕ → Held → OpenAttribute → OpenAttribute
with_entry place held a = record a { g = if held.in_z then a.g else longer place held.num a.g; z = if held.in_z then longer place held.num a.z else a.z; held = Some held }

-- how many bytes stand behind the size of an ADR
abbrev pub adr_rest : List ℕ → ℕ
adr_rest name = (adr_name.place - past record_size) + length name

abbrev pub attribute_opened : ℕ → ℕ → List ℕ → Scope → OpenAttribute
attribute_opened place n name scope = record { place = place; num = n; scope = scope; name = name_bytes adr_name name; g = no_chain; z = no_chain; held = None }

abbrev pub adr_opened : State → ℕ → List ℕ → Scope → State
adr_opened s n name scope = record s {
  file = record s.file { attributes = first_place s.file.attributes (size s) };
  part = parts.Attribute (attribute_opened (size s) n name scope);
  room = replicate (adr_rest (name_bytes adr_name name)) 0 ∷ [];
}

-- where an entry will stand behind the one that is held back
abbrev pub entry_place : State → OpenAttribute → ℕ
entry_place s a = size s + laid_size (held_bodies a 0)

abbrev pub entry_added : State → OpenAttribute → Held → State
entry_added s a held =
    let place = entry_place s a in
    record s { part = parts.Attribute (with_entry place held a); behind = s.behind ++ held_bodies a (held_next a.held held.in_z place) }

abbrev pub adr_made : FileState → ℕ → OpenAttribute → List ℕ
adr_made file end a = adr_front a.num (next_if a.num file.counts.attributes end) a.scope a.g a.z ++ a.name

abbrev pub attribute_finished : State → OpenAttribute → State
attribute_finished s a =
    let last = held_bodies a 0 in
    record s { part = parts.Between; finished = s.finished ++ adr_made s.file (size s + laid_size last) a ∷ (s.behind ++ last); room = []; behind = [] }

-- ---- variables

abbrev pub no_group : Group
no_group = record { first = 0; last = 0; count = 0; plain = [] }

abbrev pub flags_of : Bool → Bool → Bool → ℕ
flags_of vary has_pad rle = (if vary then 1 else 0) + (if has_pad then 2 else 0) + (if rle then 4 else 0)

-- what stands in a VDR from its Name on
abbrev pub vdr_tail : Kind → Bool → List ℕ → DataType → List ℕ → List Bool → Bool → List ℕ → List ℕ
vdr_tail kind little name t dims varys has_pad pad = name_bytes vdr_name name ++ flat_map (big_bytes 4) (own_dims kind dims) ++ flat_map (big_bytes 4) (map vary_code varys) ++ (if has_pad then turned t little pad else [])

abbrev pub vdr_rest : List ℕ → ℕ
vdr_rest tail = (vdr_name.place - past record_size) + length tail

abbrev pub r_first : Kind → ℕ → FileState → ℕ
r_first kinds.R place file = first_place file.r place
r_first kinds.Z place file = file.r

abbrev pub z_first : Kind → ℕ → FileState → ℕ
z_first kinds.R place file = file.z
z_first kinds.Z place file = first_place file.z place

abbrev pub r_extent : Kind → ℤ → FileState → ℕ
r_extent kinds.R max_rec file = max file.extent (extent max_rec)
r_extent kinds.Z max_rec file = file.extent

-- one variable more, at a place
abbrev pub with_variable : Kind → ℕ → ℤ → FileState → FileState
with_variable kind place max_rec file = record file { r = r_first kind place file; z = z_first kind place file; extent = r_extent kind max_rec file }

abbrev pub variable_opened : ℕ → Descriptor → Bool → Bool → List ℕ → OpenVariable
variable_opened place own vary rle tail = record {
  place = place;
  own = own;
  vary = vary;
  rle = rle;
  tail = tail;
  cpr = if rle then place + (past record_size + vdr_rest tail) else 0xffffffffffffffff;
  leaves = [];
  group = no_group;
}

abbrev pub vdr_opened : State → Descriptor → Bool → Bool → List ℕ → State
vdr_opened s own vary rle tail = record s {
  file = with_variable own.kind (size s) own.max_rec s.file;
  part = parts.Variable (variable_opened (size s) own vary rle tail);
  room = replicate (vdr_rest tail) 0 ∷ [];
  behind = cpr_bodies rle;
}

abbrev pub own_of : Kind → ℕ → DataType → ℕ → ℕ → Sparse → ℤ → ℤ → Descriptor
own_of kind n t elems flags sparse blocking max_rec = record { kind = kind; num = n; t = t; elems = elems; flags = flags; sparse = sparse; blocking = blocking; max_rec = max_rec }

-- how many records a block holds, where one has so many bytes
abbrev pub most_records : Bool → ℤ → ℕ → ℕ
most_records vary blocking long = if vary then max 1 (min (wanted_count blocking) (block_limit / long)) else 1

-- a record goes into the group that is open
abbrev pub joins : OpenVariable → ℕ → ℕ → Bool
joins v num long = if v.group.count == 0 then false else ((num == v.group.last + 1) && nat_lt v.group.count (most_records v.vary v.own.blocking long))

abbrev pub joined : Group → ℕ → List ℕ → Group
joined group num plain = record { first = group.first; last = num; count = group.count + 1; plain = group.plain ++ plain }

abbrev pub group_begun : ℕ → List ℕ → Group
group_begun num plain = record { first = num; last = num; count = 1; plain = plain }

-- the block of the group that is open, and what a node says of it where it stands at a place
abbrev pub group_bodies : OpenVariable → List (List ℕ)
group_bodies v = if v.group.count == 0 then [] else plain_body v.rle v.group.plain ∷ []

abbrev pub group_entries : OpenVariable → ℕ → List NodeEntry
group_entries v place = if v.group.count == 0 then [] else record { first = v.group.first; last = v.group.last; place = place } ∷ []

abbrev pub closed : OpenVariable → ℕ → OpenVariable
closed v place = record v { leaves = v.leaves ++ group_entries v place; group = no_group }

-- what is appended for one record more, and the variable with it, where the group that is open would stand at a place
abbrev pub added_bodies : OpenVariable → ℕ → ℕ → List (List ℕ)
added_bodies v num long = if joins v num long then [] else group_bodies v

abbrev pub added : ℕ → OpenVariable → ℕ → List ℕ → ℕ → OpenVariable
added place v num plain long = record v {
  leaves = if joins v num long then v.leaves else v.leaves ++ group_entries v place;
  group = if joins v num long then joined v.group num plain else group_begun num plain;
}

abbrev pub record_added : State → OpenVariable → ℕ → DataType → List ℕ → State
record_added s v num t bytes = record s {
  part = parts.Variable (added (size s) v num (turned t s.file.little bytes) (length bytes));
  behind = s.behind ++ added_bodies v num (length bytes);
}

abbrev pub count_of : Kind → Counts → ℕ
count_of kinds.R counts = counts.r
count_of kinds.Z counts = counts.z

abbrev pub vdr_made : FileState → ℕ → ℕ → OpenVariable → List ℕ
vdr_made file end root v = vdr_front v.own (next_if v.own.num (count_of v.own.kind file.counts) end) root v.cpr ++ v.tail

-- what is appended when a variable is finished behind so many bytes: its last block and its index; where this ends; and where its top node stands
abbrev pub nodes_start : OpenVariable → ℕ → ℕ
nodes_start v size = size + laid_size (group_bodies v)

abbrev pub all_leaves : OpenVariable → ℕ → List NodeEntry
all_leaves v size = v.leaves ++ group_entries v size

abbrev pub finished_nodes : OpenVariable → ℕ → List (List ℕ)
finished_nodes v size = index_bodies level_limit (nodes_start v size) (all_leaves v size)

abbrev pub finished_bodies : OpenVariable → ℕ → List (List ℕ)
finished_bodies v size = group_bodies v ++ finished_nodes v size

abbrev pub finished_place : OpenVariable → ℕ → ℕ
finished_place v size = size + laid_size (finished_bodies v size)

abbrev pub finished_root : OpenVariable → ℕ → ℕ
finished_root v size = index_root level_limit (nodes_start v size) (all_leaves v size)

abbrev pub variable_finished : State → OpenVariable → State
variable_finished s v = record s {
  part = parts.Between;
  finished = s.finished ++ vdr_made s.file (finished_place v (size s)) (finished_root v (size s)) v ∷ (s.behind ++ finished_bodies v (size s));
  room = [];
  behind = [];
}

-- ---- all events

abbrev pub finish_in : Part → State → State
finish_in parts.Start s = s
finish_in parts.Between s = s
finish_in (parts.Attribute a) s = attribute_finished s a
finish_in (parts.Variable v) s = variable_finished s v

abbrev pub finish : State → State
finish s = finish_in s.part s

-- MaxRec where there are so many numbers up to it
abbrev pub max_rec_code : ℕ → ℕ
max_rec_code zero = 0xffffffff
max_rec_code (suc n) = n

abbrev pub gdr_made : FileState → ℕ → List ℕ
gdr_made file end = gdr_front file.counts (record { r = file.r; z = file.z; attributes = file.attributes; end = end; r_max_rec = max_rec_code file.extent }) ++ file.dims

abbrev pub ended : State → State
ended s = record s { gdr = gdr_made s.file (size s) }

abbrev pub entry_in : Part → State → Held → State
entry_in parts.Start s held = s
entry_in parts.Between s held = s
entry_in (parts.Attribute a) s held = entry_added s a held
entry_in (parts.Variable v) s held = s

abbrev pub record_in : Part → State → ℕ → DataType → List ℕ → State
record_in parts.Start s num t bytes = s
record_in parts.Between s num t bytes = s
record_in (parts.Attribute a) s num t bytes = s
record_in (parts.Variable v) s num t bytes = record_added s v num t bytes

-- after the head; events come as those of a data set, and any other one changes nothing
abbrev pub goes_on : State → Event → State
goes_on s (events.Head h) = s
goes_on s (events.Attr n name scope) = adr_opened (finish s) n name scope
goes_on s (events.Entry kind n t elems bytes) = entry_in s.part s (record { in_z = is_in_z kind; num = n; t = t; elems = elems; stored = turned t s.file.little bytes })
goes_on s (events.Var kind n name t elems vary dims varys sparse rle blocking max_rec has_pad pad) = vdr_opened (finish s) (own_of kind n t elems (flags_of vary has_pad rle) sparse blocking max_rec) vary rle (vdr_tail kind s.file.little name t dims varys has_pad pad)
goes_on s (events.Rec n t elems bytes) = record_in s.part s n t bytes
goes_on s (events.End attributes variables recs) = ended (finish s)

abbrev pub begins : State → Event → State
begins s (events.Head h) = begun h
begins s (events.Attr n name scope) = s
begins s (events.Entry kind n t elems bytes) = s
begins s (events.Var kind n name t elems vary dims varys sparse rle blocking max_rec has_pad pad) = s
begins s (events.Rec n t elems bytes) = s
begins s (events.End attributes variables recs) = s

abbrev pub step_in : Part → State → Event → State
step_in parts.Start s e = begins s e
step_in parts.Between s e = goes_on s e
step_in (parts.Attribute a) s e = goes_on s e
step_in (parts.Variable v) s e = goes_on s e

abbrev pub step : State → Event → State
step s e = step_in s.part s e

abbrev pub run_from : State → List Event → State
run_from s [] = s
run_from s (e ∷ more) = run_from (step s e) more

-- before the first event
abbrev pub start : State
start = record {
  file = record { little = false; counts = record { attributes = 0; r = 0; z = 0; dims = 0 }; dims = []; attributes = 0; r = 0; z = 0; extent = 0 };
  part = parts.Start;
  cdr = [];
  gdr = [];
  finished = [];
  room = [];
  behind = [];
}

abbrev pub run : List Event → State
run es = run_from start es
