-- A leaf was added to a packed variable, with a block that is packed or not: the image is good, goes on with the index in which the leaf is, and its block has the plain bytes.
use Rattle.cdf_blocks.proofs.Common.{Bool, IsOneOf, Leaf, List, Nodes, ap, arith, false, inl, inr, length, refl, subst, sym, true, ℕ, ◌*◌, ◌+◌, ◌-◌, ◌==◌, ◌∙◌, ◌≡◌, ◌≤◌, ◌⊎◌}
unfoldable use Rattle.cdf_blocks.proofs.Common.{leaves_of}
use Rattle.cdf_edits.proofs.Common.{Act, Good, Hold, Kind, VariableShape, cvvr_type, image_limit, is_block, is_compressed, leaf_rows, plain_size, record_bytes, record_number_limit, shape, size_at, size_kept, type_kept, type_of_body, vvr_type}
use Rattle.cdf_edits.proofs.Edits.Common.{Kept, StandsAmong}
use Rattle.cdf_edits.proofs.Edits.IndexEdited as of_index
use Rattle.cdf_edits.proofs.Edits.LeafPieces.{place_in}
use Rattle.cdf_edits.proofs.Edits.LeafRecords.{count_is}
use Rattle.cdf_edits.proofs.Edits.OwnEdited as of_own_edit
use Rattle.cdf_edits.proofs.Frame.VdrAlike.{record_alike}
use Rattle.cdf_edits.proofs.Frame.VdrStays.{packed_stays, stays_alike}
use Rattle.cdf_edits.specs.Index.Blocks.{firsts_of}
use Rattle.cdf_edits.specs.Index.Grown.{new_room, with_leaf}
use Rattle.cdf_index.proofs.LeafRules.{before_limit}
use Rattle.cdf_index.proofs.NewIndex.{block_kept, index_edit, own_edit}
use Rattle.cdf_index.specs.Adding.{AddsLeaf, LeafAdded, leaf_acts}
use Rattle.cdf_leaves.proofs.Own.{own_order}
use Rattle.cdf_puts.proofs.LeafCounts.{one_of_leaves}
use Rattle.cdf_puts.proofs.LeafEdit as of_leaf
use Rattle.cdf_puts.specs.Going.{GoesOn}
use Rattle.cdf_puts.specs.Steps.{IsVacant}
use Rattle.cdf_blocks.specs.Blocks.{StoredAs, block_body, stored_end, type_of_block}
use Rattle.cdf_blocks.proofs.BlockBytes.{BlockIs, BlockStands, block_is, end_is}
use Rattle.cdf_blocks.proofs.KeptRules.{leaf_stays}
use Rattle.cdf_blocks.proofs.NewBlock.{NewBlock, block_now, body_is, body_long}
use Rattle.cdf_edits.specs.Index.Written.{block_end, block_need}
use Rattle.cdf_format.specs.Index.{leaf}
use Rattle.std.proofs.Common.{max}

-- ---- the type of its block

either_type : (packed : Bool) → (type_of_block packed ≡ vvr_type) ⊎ (type_of_block packed ≡ cvvr_type)
either_type true = inr refl
either_type false = inl refl

is_packed : (packed : Bool) → (type_of_block packed == cvvr_type) ≡ packed
is_packed true = refl
is_packed false = refl

pub block_types : (packed : Bool) (bytes : List ℕ) → (type_of_body (block_body packed bytes) ≡ vvr_type) ⊎ (type_of_body (block_body packed bytes) ≡ cvvr_type)
block_types packed bytes = subst (λ (type : ℕ). (type ≡ vvr_type) ⊎ (type ≡ cvvr_type)) (sym (body_is packed bytes).0) (either_type packed)

-- the leaf is packed where the block is
pub leaf_of_body : {b now : List ℕ} {own : VariableShape} {first last : ℕ} (packed : Bool) (bytes : List ℕ) (adds : AddsLeaf b now own first last (block_body packed bytes)) → LeafAdded b now own (leaf first last adds.place packed) (block_body packed bytes) adds.at
leaf_of_body {b = b} {now = now} {own = own} {first = first} {last = last} packed bytes adds =
    subst (λ (p : Bool). LeafAdded b now own (leaf first last adds.place p) (block_body packed bytes) adds.at) (ap (λ (type : ℕ). type == cvvr_type) (body_is packed bytes).0 ∙ is_packed packed) adds.added

module _ {b now : List ℕ} {kind : Kind} {before : List VariableShape} {own : VariableShape} {after : List VariableShape} {new : Leaf} {bytes : List ℕ} {at : ℕ} (good : Good b) (among : StandsAmong b kind before own after) (w : LeafAdded b now own new (block_body new.packed bytes) at) (few : length bytes ≤ image_limit) (plain : List ℕ) (rle : is_compressed b own.vdr ≡ true)
    (vacant : IsVacant own new.first new.last) (as_long : length plain ≡ (new.last + 1 - new.first) * record_bytes b own.vdr) (stored : StoredAs plain new.packed bytes) (short : length now ≤ image_limit) where
  abbrev pub index' : Nodes
  index' = with_leaf new at own.index

  abbrev pub records' : List ℕ
  records' = (shape w.roomy).records

  abbrev pub acts : List Act
  acts = leaf_acts new.place (8 + length (block_body new.packed bytes)) (new_room new.first own.index) at

  pub same_records : (shape now).records ≡ records'
  same_records = of_own_edit.records_are good among (own_edit good among (of_leaf.new_index good among w))

  -- ---- its block

  stays : Kept w.filled now new.place
  stays = of_leaf.block_stays good among w (block_types new.packed bytes)

  pub new_now : NewBlock now new.place new.packed bytes
  new_now = block_now bytes few new.packed w.block stays (of_leaf.block_filled good among w) (of_leaf.filled_longer good among w)

  pub size_now : size_at now new.place ≡ 8 + length (block_body new.packed bytes)
  size_now = size_kept w.filled now new.place stays.same (omega (arith, stays.long)) ∙ of_leaf.block_filled good among w

  stands : BlockStands now records' new bytes
  stands = record {
    there = (of_leaf.taken_used good among w new.place (inl refl)).0;
    typed = type_kept w.filled now new.place stays.same stays.long ∙ w.block.fills.typed ∙ (body_is new.packed bytes).0;
    room = omega (arith, size_now, body_long new.packed bytes);
    holds = new_now.holds;
    short = few;
  }

  rle_now : is_compressed now own.vdr ≡ true
  rle_now = let y = index_edit good among (of_leaf.new_index good among w) in packed_stays (of_index.file good among y) (of_index.stays good among y) ∙ rle

  many : plain_size now own.vdr new ≡ length plain
  many =
      let y = index_edit good among (of_leaf.new_index good among w) in
      let file = of_index.file good among y in
      let count = count_is new (before_limit new.first new.last (firsts_of own.index) vacant.before_next) vacant.ordered in
      rw (count, record_alike file (stays_alike file (of_index.stays good among y))) (sym as_long)

  pub is_block_now : BlockIs now records' own.vdr new plain
  is_block_now = block_is now records' own.vdr new.first new.last new.place plain bytes rle_now new.packed many stands stored

  pub ends_is : block_end now own.vdr new ≡ stored_end new.packed (length bytes)
  ends_is = end_is now records' own.vdr new.first new.last new.place plain bytes rle_now new.packed many stands stored

  pub need_is : block_need now own.vdr new ≡ 8 + length (block_body new.packed bytes)
  need_is = ap (max 28) ends_is ∙ sym (body_long new.packed bytes)

  -- ---- the rules

  pub old_kept : (l : Leaf) → IsOneOf (leaves_of own.index) l → Kept b now l.place
  old_kept l i = block_kept good among (of_leaf.new_index good among w) l.place (place_in (leaves_of own.index) l i)

  each_leaf : (l : Leaf) → IsOneOf (leaves_of index') l → (is_block now records' l.place ≡ true) × Hold (leaf_rows now records' own.vdr l)
  each_leaf l i = elim ((one_of_leaves new at 0 record_number_limit own.index (own_order good among) l).0 i) [
    | inl q ↦ subst (λ (x : Leaf). (is_block now records' x.place ≡ true) × Hold (leaf_rows now records' own.vdr x)) (sym q) (is_block_now.fits.0, is_block_now.rules)
    | inr j ↦ (let r = leaf_stays good among (index_edit good among (of_leaf.new_index good among w)) l j (old_kept l j) in (r.0.0, r.1))
  ]

  pub leaves_are : (l : Leaf) → (l ≡ new) ⊎ IsOneOf (leaves_of own.index) l → IsOneOf (leaves_of index') l
  leaves_are l = (one_of_leaves new at 0 record_number_limit own.index (own_order good among) l).1

  pub goes_on : GoesOn b now kind before own (record own { index = with_leaf new at own.index }) after (leaf_acts new.place (8 + length (block_body new.packed bytes)) (new_room new.first own.index) at)
  goes_on = of_leaf.goes_ruled good among w vacant short each_leaf
