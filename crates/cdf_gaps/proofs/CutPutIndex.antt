-- Under a rule for missing records a put past MaxRec + 1 leaves the index that the command asks for: what is past MaxRec is cut first, and then the record gets its block.
use Rattle.cdf_edits.proofs.Common.{[], Act, Each, Kind, List, Range, Variable, VariableShape, ap, if◌then◌else◌, list_any, no_fields, append-nil, arith, bytes_eq, extent, false, filter, leaves_of, lt-ltb, nodes_of, number, refl, ◌≤◌, room_at, shape, size_at, subst, sym, taken, tile_lies, true, type_at, uir_type, used_count, vdr_vxr_tail, vxr_type, ℕ, ◌++◌, ◌<◌, ◌∙◌, ◌≡◌, In, length}
use Rattle.cdf_edits.proofs.Edits.ActsThen.{taken-gave}
use Rattle.cdf_edits.proofs.Edits.Common.{Each-in, apart, has, sound}
use Rattle.cdf_edits.specs.Commands.Allowances.{FreedStay}
use Rattle.cdf_edits.specs.Commands.Puts.{CutsFirst, PutsIndex, PutsLeaves, is_written, new_ranges}
use Rattle.cdf_edits.specs.Index.Blocks.{cuts_before_put, ranges_of}
use Rattle.cdf_edits.specs.Index.Cut.{CutsIndex, IsPlaced}
use Rattle.cdf_edits.specs.Index.Grown.{cut_nodes, indexes_with}
use Rattle.cdf_edits.specs.Index.Written.{EntryIs, NodeSpareStays, NodesFollow, TailFollows, last_node, top_chain, uses_entry, was_unused}
use Rattle.cdf_cuts.proofs.ChainKept.{top_left}
use Rattle.cdf_cuts.proofs.FreedKept.{given_filter, given_nodes}
use Rattle.cdf_cuts.specs.Past.{before_first, cut_off, past_acts, past_span}
use Rattle.cdf_cuts.specs.Planning.{freed_of, plan_of}
use Rattle.cdf_format.specs.Content.{variable_of}
use Rattle.std.proofs.Math.Path.{transport}
use Rattle.cdf_leaves.proofs.Own.{own_node}
use Rattle.cdf_puts.proofs.DoneBytes.{last_writes, size_last}
use Rattle.cdf_puts.proofs.DoneBytes.{put as put_done}
use Rattle.cdf_puts.proofs.IndexWritten.{nodes_still, tail_still}
use Rattle.cdf_puts.specs.Going.{GoesOn}
use Rattle.cdf_puts.specs.SoFar.{NodesSoFar, taken_places}
use Rattle.cdf_gaps.proofs.CutPutFreed.{freed_then, used_size}
use Rattle.cdf_gaps.proofs.CutPutLeaves.{placed_all, puts_any, tail_then}
use Rattle.cdf_gaps.proofs.CutPutNodes.{nodes_then}
use Rattle.cdf_gaps.proofs.CutPutRooms.{room_kept, through_first, used_in}
use Rattle.cdf_gaps.proofs.CutThenPut.{CutThenPut, ranges_last, variable_mid}

module _ {b mid now last : List ℕ} {kind : Kind} {before : List VariableShape} {own own' : VariableShape} {after : List VariableShape} {raw pad : List ℕ} {first r : ℕ} {acts : List Act} (t : CutThenPut b mid now last kind before own own' after raw pad first r acts) where
  abbrev v : Variable
  v = variable_of b own

  abbrev left : VariableShape
  left = cut_off own first

  abbrev cut : List Act
  cut = past_acts b own first

  abbrev rs : List Range
  rs = new_ranges (ranges_of left.index) (ranges_of own'.index)

  same : variable_of mid (cut_off own first) ≡ variable_of b own
  same = variable_mid t

  rle : v.rle ≡ false
  rle = t.cut.loose

  none_taken : taken cut ≡ []
  none_taken = taken-gave b (freed_of (plan_of (past_span first) 0 own.index))

  put : GoesOn mid last kind before left own' after acts
  put = put_done t.so t.done

  vdr_is : own'.vdr ≡ left.vdr
  vdr_is = put.vdr_is

  cuts_before : cuts_before_put v r ≡ true
  cuts_before = rw (t.rule, lt-ltb (extent v.max_rec) r (omega (arith, t.first_is, t.past))) refl

  -- ---- what is cut, and what is put

  cuts : CutsFirst b last v own own' left.index cut true
  cuts =
      let of_first = λ (n : ℕ). CutsIndex v (before_first n) own.index (cut_nodes false (before_first n) own.index) left.index cut × Each (λ old. Each (IsPlaced b last v own'.vdr (before_first n) cut old) (leaves_of left.index)) (leaves_of own.index) in
      subst of_first t.first_is (t.cut.cuts v, placed_all b last v own'.vdr (before_first first) cut (leaves_of own.index) (leaves_of left.index) rle (t.cut.cuts v).stay)

  puts : PutsLeaves b last v.rle own'.vdr (filter (is_written v r) (leaves_of own'.index)) left.index acts own'.index
  puts =
      let wrote = filter (is_written (variable_of mid left) r) (leaves_of own'.index) in
      let whole : PutsLeaves mid last false left.vdr (wrote ++ []) left.index (acts ++ []) own'.index = t.so.index.puts last (rw vdr_is at (size_last t.so t.done)) [] [] own'.index (refl, refl) in
      let plain : PutsLeaves mid last false own'.vdr (filter (is_written v r) (leaves_of own'.index)) left.index acts own'.index =
      transport (λ i. PutsLeaves mid last false (sym vdr_is i) ((append-nil wrote ∙ ap (λ (x : Variable). filter (is_written x r) (leaves_of own'.index)) same) i) left.index (append-nil acts i) own'.index) whole in
      puts_any b mid last v.rle own'.vdr (filter (is_written v r) (leaves_of own'.index)) left.index acts own'.index rle plain

  -- ---- VXRtail

  tail : TailFollows b last (cut ++ acts) left.index own own'
  tail =
      let stays = top_left cut own.index left.index none_taken in
      let first_tail : number mid own.vdr vdr_vxr_tail ≡ (if bytes_eq (top_chain own.index) (top_chain left.index) then number b own.vdr vdr_vxr_tail else last_node left.index) = (t.cut.goes 0).tail ∙ (λ i. if stays i then number b own.vdr vdr_vxr_tail else last_node left.index) in
      let last_tail : number last own'.vdr vdr_vxr_tail ≡ (if bytes_eq (top_chain left.index) (top_chain own'.index) then number mid own.vdr vdr_vxr_tail else last_node own'.index) = tail_still t.so (last_writes t.so t.done) ∙ (λ i. number now (vdr_is i) vdr_vxr_tail) ∙ t.so.index.tail in
      tail_then cut acts own.index left.index own'.index (number b own.vdr vdr_vxr_tail) (number mid own.vdr vdr_vxr_tail) (number last own'.vdr vdr_vxr_tail) none_taken t.so.index.nodes.apart first_tail last_tail

  -- ---- nodes

  n : NodesSoFar mid last left own' rs acts
  n = nodes_still t.so (last_writes t.so t.done)

  node_at : (m : ℕ) → In m (nodes_of left.index) → In m (shape mid).records × (type_at mid m ≡ vxr_type)
  node_at = own_node t.cut.goes_on.good t.cut.goes_on.among

  sizes : (m : ℕ) → In m (nodes_of left.index) → size_at mid m ≡ size_at b m
  sizes m i = let x = node_at m i in used_size t.cut.goes_on.follow none_taken m x.0 (λ u. apart vxr_type uir_type refl (sym x.1 ∙ u))

  rooms : (m : ℕ) → In m (nodes_of left.index) → room_at last m ≡ room_at mid m
  rooms m i =
      let low = (tile_lies mid 8 (length mid) (shape mid).records m (sound t.cut.goes_on.good t.cut.goes_on.among).has_shape.tiled (node_at m i).0).low in
      room_kept mid last (shape mid).records (shape last).records 8 8 (taken_places acts) rs left.index own'.index (has t.cut.goes_on.good t.cut.goes_on.among).indexed.has_nodes (has put.good put.among).indexed.has_nodes n.outlined m (λ zero. absurd (omega (arith, low, zero))) i

  uses : (m i : ℕ) → In m (nodes_of left.index) → i < used_count mid m → list_any (uses_entry m i) (indexes_with left.index rs) ≡ true
  uses m i j lt = through_first (uses_entry m i) left.index rs (used_in mid (shape mid).records m i lt 8 left.index (has t.cut.goes_on.good t.cut.goes_on.among).indexed.has_nodes j)

  entries : (m : ℕ) → In m (nodes_of left.index) → (i : ℕ) → used_count mid m ≤ i → i < room_at mid m → EntryIs b mid m i (was_unused b (nodes_of own.index) cut m i)
  entries m i = Each-in (λ vxr. (i : ℕ) → used_count mid vxr ≤ i → i < room_at mid vxr → EntryIs b mid vxr i (was_unused b (nodes_of own.index) cut vxr i)) (nodes_of left.index) (t.cut.goes 0).unused m i

  nodes : NodesFollow b last (indexes_with left.index rs) (nodes_of own.index) (nodes_of own'.index) (cut ++ acts)
  nodes = nodes_then b mid last (indexes_with left.index rs) (nodes_of own.index) (nodes_of left.index) (nodes_of own'.index) cut acts entries (Each-in (NodeSpareStays b mid cut) (nodes_of left.index) (t.cut.goes 0).spare) n.follow n.apart n.come rooms sizes uses

  -- ---- what is freed

  freed : FreedStay b last no_fields (cut ++ acts)
  freed = freed_then t.cut.goes_on.good put t.so.takes b cut (t.cut.goes 0).freed

  pub index_then : GoesOn b last kind before own own' after (past_acts b own first ++ acts) → PutsIndex b last (variable_of b own) r own own' (past_acts b own first ++ acts)
  index_then goes = record {
    ranges = ranges_last t;
    middle = left.index;
    cut = cut;
    put = acts;
    acts_are = refl;
    cuts = subst (CutsFirst b last v own own' left.index cut) (sym cuts_before) cuts;
    puts = puts;
    tail = tail;
    nodes = nodes;
    freed = given_filter b last _ (cut ++ acts) (cut ++ acts) freed;
    nodes_freed = given_nodes b last (cut ++ acts) (cut ++ acts) freed;
  }
