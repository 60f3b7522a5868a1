-- Records were cut out of the index of a variable, of which no block is packed, and then bytes of one of its blocks are moved, or none: this is still a step in which a block changes only where it has some of the records that go.
use Rattle.cdf_cuts.proofs.Common.{Bool, Changed, In, Leaf, List, NodeFits, Range, StillSays, Touch, [], ap, arith, false, image_limit, inl, inr, leaves_of, length, nat_lt, nodes_of, places_of, refl, room_at, size_at, subst, sym, tile_lies, touch, true, type_at, used_count, ℕ, ◌*◌, ◌+◌, ◌<◌, ◌∙◌, ◌∷◌, ◌≡◌, ◌≢◌, ◌≤◌, ◌⊎◌}
use Rattle.cdf_edits.proofs.Common.{Act, AllKeep, Good, HasShape, Kind, Only, Same, Same-part, Stays, VariableShape, gave, gdr_type, owned, shape, shared, space_fields, vvr_type, word_kept}
use Rattle.cdf_edits.proofs.Commands.KeptRecords.{keeps_stood}
use Rattle.cdf_edits.proofs.Edits.Common.{StandsAmong, apart, fits, gdr_in, gdr_typed, long, no_block, sound, stays_then, tile}
use Rattle.cdf_edits.proofs.Edits.LeafPieces.{IsOneOf}
use Rattle.cdf_edits.proofs.Edits.RecordsWritten.{WritesRecords, node_kept, part, records_are, type_same, unused_stands}
use Rattle.cdf_edits.proofs.Edits.VariableCopied.{block_behind}
use Rattle.cdf_edits.proofs.Frame.ChangedBytes.{changed_part}
use Rattle.cdf_edits.specs.Commands.PutSteps.{Goes, step_changes}
use Rattle.cdf_edits.specs.Index.Written.{EntryIs, NodeSpareStays, was_unused}
use Rattle.cdf_index.proofs.Common.{Each-in, behind_in}
use Rattle.cdf_index.proofs.OneNode.{SameNode, same_node}
use Rattle.cdf_index.specs.Replacing.{with_index}
use Rattle.cdf_puts.proofs.GoesThen.{own_there}
use Rattle.cdf_puts.proofs.PutNodes.{spare_then}
use Rattle.cdf_puts.specs.Going.{GoesOn, found_in}
use Rattle.cdf_cuts.proofs.CutDone.{each_from}
use Rattle.cdf_cuts.proofs.WritesThen.{freed_on, goes_more, moved_writes}
use Rattle.cdf_cuts.specs.Cut.{IsCut}
use Rattle.cdf_cuts.specs.Moving.{Moved}
use Rattle.cdf_cuts.specs.Past.{stage}
use Rattle.cdf_cuts.specs.Planning.{opening}
use Rattle.cdf_sparse.proofs.OpenCut as by
use Rattle.cdf_sparse.proofs.OpenStep.{IsApart, all_keep, descriptor_cut, gdr_cut, heads, sizes_cut, step_cut}
use Rattle.cdf_sparse.specs.Opening.{freed_opening, index_opened}
use Rattle.cdf_format.specs.Shape.{is_compressed}

-- ---- records are written where they stand: the nodes, VXRtail and what was freed are as they were

-- an entry that is not used says what it said
entry_then : (b mid now : List ℕ) (m i : ℕ) (p : Bool) → StillSays mid now m i i → EntryIs b mid m i p → EntryIs b now m i p
entry_then b mid now m i true says e = says _ _ _ e
entry_then b mid now m i false says e = says _ _ _ e

module _ {b mid now : List ℕ} {kind : Kind} {before : List VariableShape} {own left : VariableShape} {after : List VariableShape} {acts : List Act} {ts : List Touch} {next : ℕ} {changes : Range → Bool} (good : Good b) (at : StandsAmong b kind before own after) (first : GoesOn b mid kind before own left after acts) (w : WritesRecords mid now kind left ts) (short : length mid ≤ image_limit)
    (sizes : (m : ℕ) → In m (nodes_of left.index) → size_at mid m ≡ size_at b m) (step : Goes (found_in b kind before own) (stage b own [] next) (stage mid left acts next) changes) where
  kept_node : (m : ℕ) → In m (nodes_of left.index) → SameNode mid now m
  kept_node m i = same_node mid now m (node_kept first.good first.among w m i) (Each-in (NodeFits mid) (nodes_of left.index) (fits first.good first.among).1 m i)

  unused_then : (m : ℕ) → In m (nodes_of left.index) → (i : ℕ) → used_count now m ≤ i → i < room_at now m → EntryIs b now m i (was_unused b (nodes_of own.index) acts m i)
  unused_then m j i from upto =
      let n = kept_node m j in
      let e = Each-in (λ m. (i : ℕ) → used_count mid m ≤ i → i < room_at mid m → EntryIs b mid m i (was_unused b (nodes_of own.index) acts m i)) (nodes_of left.index) step.unused m j i (omega (arith, from, n.used_is)) (omega (arith, upto, n.room_is)) in
      entry_then b mid now m i (was_unused b (nodes_of own.index) acts m i) (n.entries i (omega (arith, upto, n.room_is))) e

  spare_kept : (m : ℕ) → In m (nodes_of left.index) → NodeSpareStays b now acts m
  spare_kept m j = spare_then b mid now acts m (kept_node m j).room_is (λ free. sizes m j) (Same-part mid now m (m + size_at mid m) (m + (28 + 16 * room_at mid m)) (m + size_at mid m) (node_kept first.good first.among w m j).same (omega arith) (omega arith)) (Each-in (NodeSpareStays b mid acts) (nodes_of left.index) step.spare m j)

  goes : GoesOn b now kind before own left after acts
  goes = goes_more good at first w short

  pub step_then : AllKeep b now (step_changes b (found_in b kind before own) changes) acts (owned b (shape b)) → Goes (found_in b kind before own) (stage b own [] next) (stage now left acts next) changes
  step_then keeps = record {
    good = goes.good;
    stands = own_there goes.good goes.among;
    acts_follow = goes.follow;
    keeps = keeps;
    unused = each_from (λ m. (i : ℕ) → used_count now m ≤ i → i < room_at now m → EntryIs b now m i (was_unused b (nodes_of own.index) acts m i)) (nodes_of left.index) unused_then;
    spare = each_from (NodeSpareStays b now acts) (nodes_of left.index) spare_kept;
    tail = word_kept mid now (left.vdr + 28) (left.vdr + 44) (part first.good first.among w 28 44 (inr (omega arith)) (let n = long first.good first.among in omega arith)) (left.vdr + 36) 8 (omega arith) (omega arith) ∙ step.tail;
    freed = freed_on b (records_are first.good first.among w) (λ m i t. (unused_stands first.good first.among w m i t).whole) (type_same first.good first.among w) acts acts step.freed;
  }

-- ---- bytes of a block are moved

pub record BlockMoved (b now : List ℕ) (own : VariableShape) : Type 0 where
  pub place : ℕ
  pub from : ℕ
  pub to : ℕ
  pub n : ℕ
  pub block : In place (places_of (leaves_of own.index))
  pub is_plain : type_at b place ≡ vvr_type
  pub later : 12 ≤ to
  pub room : to + n ≤ size_at b place
  pub moved : Moved b now from (place + to) n

module _ {b now : List ℕ} {kind : Kind} {before : List VariableShape} {own : VariableShape} {after : List VariableShape} (good : Good b) (at : StandsAmong b kind before own after) (x : BlockMoved b now own) where
  abbrev ts : List Touch
  ts = touch x.place x.to x.n ∷ []

  pub writes : WritesRecords b now kind own (touch x.place x.to x.n ∷ [])
  writes = moved_writes x.place x.from x.to x.n good at x.block x.is_plain x.later x.room x.moved

  has : HasShape b (shape b)
  has = (sound good at).has_shape

  changed : Changed b now ts
  changed = let m = x.moved in record { longer = omega (arith, m.as_long); same = λ i lt out. m.others i lt out.0 }

  same : (m : ℕ) → In m (shape b).records → m ≢ x.place → Same b now (m + 0) (m + size_at b m)
  same m i other = changed_part b now (shape b).records (length b) has.tiled (omega (arith, changed.longer)) ts changed (inl (behind_in good at x.place (block_behind own x.place x.block), x.room), tt) m 0 (size_at b m) i (omega arith) ((λ e. absurd (other e)), tt)

  -- another record stays
  pub others_stay : (m : ℕ) → In m (shape b).records → m ≢ x.place → Stays b now m []
  others_stay m i other =
      let t = tile_lies b 8 (length b) (shape b).records m has.tiled i in
      keeps_stood b now m (record { stands = subst (In m) (sym (records_are good at writes)) i; whole = record { same = Same-part b now (m + 0) (m + size_at b m) m (m + size_at b m) (same m i other) (omega arith) (omega arith); inside = t.high; long = t.long } }) (Only [])

  pub gdr_stays : Stays b now (shape b).gdr []
  gdr_stays = others_stay (shape b).gdr (gdr_in b (shape b) has) (λ e. apart gdr_type vvr_type refl (sym (gdr_typed b (shape b) has) ∙ ap (type_at b) e ∙ x.is_plain))

  pub descriptor_stays : Stays b now own.vdr []
  descriptor_stays = others_stay own.vdr (tile good at) (λ e. no_block good at (subst (λ (m : ℕ). In m (places_of (leaves_of own.index))) (sym e) x.block))

-- ---- the whole

module _ {b mid : List ℕ} {kind : Kind} {before : List VariableShape} {own : VariableShape} {after : List VariableShape} {first last : ℕ} (good : Good b) (at : StandsAmong b kind before own after) (order : first ≤ last) (short : length b ≤ image_limit) (c : IsCut b mid kind own (opening first last)) (loose : is_compressed b own.vdr ≡ false) where
  abbrev left : VariableShape
  left = with_index own (index_opened own first last)

  abbrev acts : List Act
  acts = gave b (freed_opening own first last)

  goes_cut : GoesOn b mid kind before own left after acts
  goes_cut = by.goes_cut good at order short c loose

  short_cut : length mid ≤ image_limit
  short_cut = omega (arith, by.long_cut good at order short c loose, short)

  by_moved : {now : List ℕ} → BlockMoved mid now left → ((l : Leaf) → IsOneOf (leaves_of own.index) l → IsApart first last l → Stays b now l.place []) → (next : ℕ) → Goes (found_in b kind before own) (stage b own [] next) (stage now left acts next) (λ r. nat_lt 0 (shared first last r))
  by_moved {now = now} x blocks next =
      let goes = goes_cut in
      let w = writes goes.good goes.among x in
      let gdr = stays_then b mid now (shape b).gdr space_fields [] space_fields (gdr_cut good at order short c loose) (subst (λ (m : ℕ). Stays mid now m []) goes.gdr_is (gdr_stays goes.good goes.among x)) (λ i out. (out, tt)) in
      let descriptor = stays_then b mid now own.vdr heads [] heads (descriptor_cut good at order short c loose) (descriptor_stays goes.good goes.among x) (λ i out. (out, tt)) in
      step_then good at goes w short_cut (sizes_cut good at order short c loose) (step_cut good at order short c loose next) (all_keep good at order loose (goes_more good at goes w short_cut) gdr descriptor blocks)

  pub step_none : {now : List ℕ} → (now ≡ mid) ⊎ BlockMoved mid now (with_index own (index_opened own first last)) → ((l : Leaf) → IsOneOf (leaves_of own.index) l → IsApart first last l → Stays b now l.place [])
      → (next : ℕ) → Goes (found_in b kind before own) (stage b own [] next) (stage now (with_index own (index_opened own first last)) (gave b (freed_opening own first last)) next) (λ r. nat_lt 0 (shared first last r))
  step_none (inl same) blocks next = subst (λ (y : List ℕ). Goes (found_in b kind before own) (stage b own [] next) (stage y left acts next) (λ r. nat_lt 0 (shared first last r))) (sym same) (step_cut good at order short c loose next)
  step_none (inr x) blocks next = by_moved x blocks next
