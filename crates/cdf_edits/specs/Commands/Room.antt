-- By how many bytes a command may raise eof at most (own).
use Rattle.std.specs.Prelude.{ℕ, zero, suc, ◌+◌, ◌-◌, ◌*◌, ◌/◌, max, List, length, map, Bool, ◌&&◌, ◌||◌, ◌==◌, nat_lt, if◌then◌else◌, Some, None, Ok, Err}
use Rattle.std.specs.declared.result.Result.{Result}
use Rattle.std.specs.List.{filter, slice_get, sum}
use Rattle.cdf_model.specs.declared.answer.Reason.{Reason}
use Rattle.cdf_model.specs.declared.command.Command.{Command}
use Rattle.cdf_model.specs.declared.command.Command.TheVariants as commands
use Rattle.cdf_model.specs.declared.kinds.Kind.{Kind}
use Rattle.cdf_model.specs.declared.kinds.Kind.TheVariants.{R, Z}
use Rattle.cdf_model.specs.AttributeSteps.{entry_by}
use Rattle.cdf_model.specs.DataSet.{DataSet, Entry, Variable, extent}
use Rattle.cdf_model.specs.Limits.{level_limit, record_number_limit}
use Rattle.cdf_model.specs.Names.{Found, variable_named}
use Rattle.cdf_model.specs.RecordSteps.{value_size}
use Rattle.cdf_model.specs.Values.{notation_of}
use Rattle.cdf_edits.specs.Index.Blocks.{Range, ranges_of, covered, shared, record_length, block_count, is_sparse, first_written, cuts_before_put, ranges_before_put, extent_after}
use Rattle.cdf_edits.specs.Index.Grown.{new_entries}
use Rattle.cdf_edits.specs.Commands.Allowances.{shapes_of}
use Rattle.cdf_format.specs.Content.{content}
use Rattle.cdf_format.specs.Index.{Nodes, no_node, node, Entries, no_entry, block, lower, leaves_of, entry_count}
use Rattle.cdf_format.specs.RecordTypes.{adr_type, fixed_size}
use Rattle.cdf_format.specs.Shape.{Shape, shape}
use Rattle.cdf_format.specs.Records.{gdr_bytes, aedr_bytes, vdr_r_pad_value, vdr_z_pad_value, vxr_bytes, cpr_bytes, linked_size}

unfoldable mutual
  -- the used entries of all nodes
  pub entries_in : Nodes → ℕ
  entries_in no_node = 0
  entries_in (node place room entries more) = entry_count entries + entries_below entries + entries_in more

  pub entries_below : Entries → ℕ
  entries_below no_entry = 0
  entries_below (block first last place packed entries) = entries_below entries
  entries_below (lower first last nodes entries) = entries_in nodes + entries_below entries

unfoldable mutual
  -- Nentries of the widest node, or of a new one
  pub widest : Nodes → ℕ
  widest no_node = new_entries
  widest (node place room entries more) = max room (max (widest_below entries) (widest more))

  pub widest_below : Entries → ℕ
  widest_below no_entry = new_entries
  widest_below (block first last place packed entries) = widest_below entries
  widest_below (lower first last nodes entries) = max (widest nodes) (widest_below entries)

-- a VDR of so many dimensions
abbrev pub vdr_bytes : Kind → ℕ → ℕ
vdr_bytes R dimensions = (vdr_r_pad_value dimensions 0).place
vdr_bytes Z dimensions = (vdr_z_pad_value dimensions 0).place

abbrev pub quotient_up : ℕ → ℕ → ℕ
quotient_up n m = (n + m - 1) / m

-- the bytes of the records of a range
abbrev pub range_bytes : Variable → Range → ℕ
range_bytes v r = (r.last + 1 - r.first) * record_length v

-- how many records of a command get a block that had none
abbrev pub uncovered : Variable → Nodes → ℕ → ℕ
uncovered v nodes n = (n + 1 - first_written v n) - covered (first_written v n) n (ranges_before_put v nodes n)

-- u + 1 records get new blocks: their bytes, the last block filled up; and for each new block, of which there are at most one more than the quotient and one before each used entry of the index, the least size of a record and a VXR as wide as the widest
abbrev pub blocks_room : Variable → Nodes → ℕ → ℕ
blocks_room v nodes zero = 0
blocks_room v nodes (suc u) = (u + block_count v) * record_length v + (quotient_up (suc u) (block_count v) + entries_in nodes + 1) * (linked_size + vxr_bytes (widest nodes))

-- a block of which a put writes a record, or cuts one first
abbrev pub is_rewritten : Variable → ℕ → Range → Bool
is_rewritten v n r = nat_lt 0 (shared (first_written v n) n r) || (cuts_before_put v n && nat_lt 0 (shared (extent v.max_rec) record_number_limit r))

-- of each block that is rewritten or cut: the least size of a record and its plain bytes
abbrev pub packed_room : Variable → Nodes → ℕ → ℕ
packed_room v nodes n = if v.rle then sum (map (λ r. linked_size + range_bytes v r) (filter (is_rewritten v n) (ranges_of nodes))) else 0

abbrev pub put_room : Variable → Nodes → ℕ → ℕ
put_room v nodes n = blocks_room v nodes (uncovered v nodes n) + packed_room v nodes n

-- a cut takes some records of a range, but not all
abbrev pub cuts_in_part : ℕ → ℕ → Range → Bool
cuts_in_part first last r = nat_lt 0 (shared first last r) && nat_lt (shared first last r) (r.last + 1 - r.first)

abbrev pub del_recs_cuts_in_part : Variable → ℕ → ℕ → Range → Bool
del_recs_cuts_in_part v first last r = cuts_in_part first last r || (is_sparse v.sparse && cuts_in_part (extent_after v first last) record_number_limit r)

-- of each range that a cut takes in part: three records of the least size, and its bytes twice; and one VXR as wide as the widest
abbrev pub cut_room : Variable → Nodes → ℕ → ℕ → ℕ
cut_room v nodes first last = vxr_bytes (widest nodes) + sum (map (λ r. 3 * linked_size + 2 * range_bytes v r) (filter (del_recs_cuts_in_part v first last) (ranges_of nodes)))

-- a node of an index that is made anew has room for so many entries, and so many bytes
abbrev pub node_entries : ℕ
node_entries = 64

abbrev pub node_size : ℕ
node_size = vxr_bytes node_entries

-- the nodes above so many entries, level by level until one is left
unfoldable pub nodes_above : ℕ → ℕ → ℕ
nodes_above zero entries = 0
nodes_above (suc levels) zero = 0
nodes_above (suc levels) (suc entries) = if quotient_up (suc entries) node_entries == 1 then 1 else quotient_up (suc entries) node_entries + nodes_above levels (quotient_up (suc entries) node_entries)

abbrev pub reindex_room : Nodes → ℕ
reindex_room nodes = node_size * nodes_above level_limit (length (leaves_of nodes))

-- ---- of each command

abbrev pub entry_length : Result Entry Reason → ℕ
entry_length (Ok entry) = length entry.bytes
entry_length (Err reason) = 0

-- of a variable that is there
abbrev pub room_of_variable : DataSet → Shape → List ℕ → (Found → Nodes → ℕ) → ℕ
room_of_variable d s name room = elim (variable_named d name) [
  | None ↦ 0
  | Some found ↦ elim (slice_get (shapes_of s found.kind) found.number) [ None ↦ 0 | Some v ↦ room found v.index ]
]

abbrev pub room_in : DataSet → Shape → Command → ℕ
room_in d s (commands.Attr name scope) = fixed_size adr_type
room_in d s (commands.PutEntry attr kind num t words) = aedr_bytes (entry_length (entry_by (notation_of t) t words))
room_in d s (commands.Setup encoding majority dims) = gdr_bytes (length dims)
room_in d s (commands.RVar name t elems vary varys) = vdr_bytes R (length d.rdims)
room_in d s (commands.ZVar name t elems vary dims varys) = vdr_bytes Z (length dims)
room_in d s (commands.SetPad var words) = room_of_variable d s var (λ found nodes. vdr_bytes found.kind (length found.variable.dims) + value_size found.variable)
room_in d s (commands.SetCompress var rle) = if rle then cpr_bytes 1 else 0
room_in d s (commands.PutRec var rec words) = room_of_variable d s var (λ found nodes. put_room found.variable nodes rec)
room_in d s (commands.PutVal var rec index words) = room_of_variable d s var (λ found nodes. put_room found.variable nodes rec)
room_in d s (commands.DelRecs var first last) = room_of_variable d s var (λ found nodes. cut_room found.variable nodes first last)
room_in d s (commands.Reindex var) = room_of_variable d s var (λ found nodes. reindex_room nodes)
room_in d s c = 0

-- of a command on an image
abbrev pub room : List ℕ → Command → ℕ
room b c = room_in (content b) (shape b) c
