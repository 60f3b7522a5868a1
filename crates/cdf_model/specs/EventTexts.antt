-- How events are written by `dump`, each on a line of its own (own).
use Rattle.std.specs.Prelude.{ℕ, List, [], ◌∷◌, map, Bool, true, false, codes, if◌then◌else◌}
use Rattle.std.specs.Fmt.{decimal, signed_decimal}
use Rattle.std.specs.List.{flat_map}
use Rattle.cdf_model.specs.declared.event.Event.{Event}
use Rattle.cdf_model.specs.declared.event.Event.TheVariants as events
use Rattle.cdf_model.specs.declared.data_type.DataType.{DataType}
use Rattle.cdf_model.specs.declared.kinds.EntryKind.{EntryKind}
use Rattle.cdf_model.specs.declared.kinds.EntryKind.TheVariants as entries
use Rattle.cdf_model.specs.declared.kinds.Sparse.{Sparse}
use Rattle.cdf_model.specs.declared.kinds.Sparse.TheVariants.{NoRule, Pad, Previous}
use Rattle.cdf_model.specs.DataSet.{DataSet}
use Rattle.cdf_model.specs.Events.{events_of}
use Rattle.cdf_model.specs.Texts.{◌⧺◌, newline, list_text, head_text, scope_text, kind_text}
use Rattle.cdf_model.specs.Types.{name_of}
use Rattle.cdf_model.specs.Values.{quoted, values_text}

abbrev pub entry_kind_text : EntryKind → List ℕ
entry_kind_text entries.G = codes "g"
entry_kind_text entries.R = codes "r"
entry_kind_text entries.Z = codes "z"

abbrev pub vary_text : Bool → List ℕ
vary_text true = codes "vary"
vary_text false = codes "novary"

-- `-` for no dimension, else a letter for each
abbrev pub varys_text : List Bool → List ℕ
varys_text [] = codes "-"
varys_text (vary ∷ varys) = map (λ v. if v then 84 else 70) (vary ∷ varys)

abbrev pub sparse_text : Sparse → List ℕ
sparse_text NoRule = codes "none"
sparse_text Pad = codes "pad"
sparse_text Previous = codes "previous"

abbrev pub compress_text : Bool → List ℕ
compress_text true = codes "rle"
compress_text false = codes "none"

abbrev pub pad_text : Bool → DataType → ℕ → List ℕ → List ℕ
pad_text false t elems pad = codes "-"
pad_text true t elems pad = values_text t elems pad

-- each event as a line, without its newline; a variable: kind, number, name, type, NumElems, record variance, dimensions, dimension variances, sparse rule, compression, blocking, MaxRec, pad value
abbrev pub event_text : Event → List ℕ
event_text (events.Head head) = head_text head
event_text (events.Attr num name scope) = codes "attribute " ⧺ decimal num ⧺ codes " " ⧺ quoted name ⧺ codes " " ⧺ scope_text scope
event_text (events.Entry kind num t elems bytes) =
    codes "entry " ⧺ entry_kind_text kind ⧺ codes " " ⧺ decimal num ⧺ codes " " ⧺ name_of t ⧺ codes " " ⧺ decimal elems ⧺ codes " " ⧺ values_text t elems bytes
event_text (events.Var kind num name t elems vary dims varys sparse rle blocking max_rec has_pad pad) =
    kind_text kind ⧺ codes " " ⧺ decimal num ⧺ codes " " ⧺ quoted name ⧺ codes " " ⧺ name_of t ⧺ codes " " ⧺ decimal elems
    ⧺ codes " " ⧺ vary_text vary ⧺ codes " " ⧺ list_text dims ⧺ codes " " ⧺ varys_text varys
    ⧺ codes " sparse " ⧺ sparse_text sparse ⧺ codes " compress " ⧺ compress_text rle
    ⧺ codes " blocking " ⧺ signed_decimal blocking ⧺ codes " maxrec " ⧺ signed_decimal max_rec ⧺ codes " pad " ⧺ pad_text has_pad t elems pad
event_text (events.Rec num t elems bytes) = codes "record " ⧺ decimal num ⧺ codes " " ⧺ values_text t elems bytes
event_text (events.End attrs vars recs) = codes "end attributes " ⧺ decimal attrs ⧺ codes " variables " ⧺ decimal vars ⧺ codes " records " ⧺ decimal recs

abbrev pub event_line : Event → List ℕ
event_line event = event_text event ⧺ newline

-- events as lines
abbrev pub lines_of : List Event → List ℕ
lines_of shown = flat_map event_line shown

abbrev pub dump_text : DataSet → List ℕ
dump_text d = lines_of (events_of d)
