-- The bytes of a block are written in its record, and its entry has another range: the image stays good, and all but this block and this entry stays.
use Rattle.cdf_blocks.proofs.Common.{Bool, In, IsOneOf, Leaf, List, SaysEntry, [], ap, arith, false, inl, inr, length, refl, subst, sym, true, used_count, ℕ, ◌*◌, ◌++◌, ◌+◌, ◌-◌, ◌<◌, ◌∙◌, ◌∷◌, ◌≡◌, ◌≢◌, ◌≤◌, ◌⊎◌}
unfoldable use Rattle.cdf_blocks.proofs.Common.{leaves_of, nodes_of, with_range}
use Rattle.cdf_edits.proofs.Common.{ActsFollow, Avoids, Away, Edit, Field, Good, HasShape, Hold, IsChain, Kind, LeafFits, Mark, Only, OwnedOnce, Shape, VariableShape, avoided, count_of, cpr_type, eof, field, gdr_eof, gdr_type, gdr_uir_head, good_by_its_shape, head_of, image_limit, index_rows, is_compressed, is_max_rec, keeps_file, leaf_rows, linkable-in, linkable-type, number, plain_size, r_max_rec, r_max_rec_field, record_bytes, shape, size_at, type_at, type_in, space_fields, uir_type, unmarked, variable_records, variables_chain, vdr_max_rec}
use Rattle.cdf_edits.proofs.Commands.KeptRecords.{Stood, keeps_stood}
use Rattle.cdf_edits.proofs.Edits.Common.{Avoids-append, Away-append, Kept, StandsAmong, all_variable_records, chain_stays, edit_then, gdr_field, gdr_in, gdr_typed, keeps_all_attributes, keeps_kind, kept, other_kind, owned_once_if, sound, stood, unmarked-away, with_shapes}
use Rattle.cdf_edits.proofs.Edits.EditActs.{acts_none}
use Rattle.cdf_edits.proofs.Edits.IndexEdited.{IndexEdit}
use Rattle.cdf_edits.proofs.Edits.IndexEdited as of_index
use Rattle.cdf_edits.proofs.Edits.MarkLemmas.{away-avoids, the_one}
use Rattle.cdf_edits.proofs.Edits.OwnEdited as of_own_edit
use Rattle.cdf_edits.proofs.Edits.PlainLeaves.{own_rules}
use Rattle.cdf_edits.proofs.Edits.RecordGrown.{kept_then}
use Rattle.cdf_edits.proofs.Edits.VariableCopied.{block_behind, node_behind}
use Rattle.cdf_edits.proofs.Frame.VdrAlike.{plain_alike}
use Rattle.cdf_edits.proofs.Frame.VdrStays.{packed_stays, stays_alike}
use Rattle.cdf_edits.specs.Index.Written.{block_end}
use Rattle.cdf_format.proofs.GoodSound.{good_eof}
use Rattle.cdf_index.proofs.Common.{EntrySet}
use Rattle.cdf_index.proofs.NewIndex.{index_marks, vdr_no_node}
use Rattle.cdf_index.proofs.TreeTouched.{Touched}
use Rattle.cdf_index.specs.Replacing.{with_index}
use Rattle.cdf_puts.proofs.GoesThen.{goes_by, links}
use Rattle.cdf_puts.specs.Going.{GoesOn}
use Rattle.cdf_blocks.specs.Blocks.{LiesIn, Overwritten, StoredAs, stored_end, type_of_block}
use Rattle.cdf_blocks.proofs.BlockBytes.{BlockIs, BlockStands, block_is, end_is, holds_kept}
use Rattle.cdf_blocks.proofs.BlockOf.{block_in, block_typed, in_places, size_is}
use Rattle.cdf_blocks.proofs.BytesWritten.{block_marks}
use Rattle.cdf_blocks.proofs.BytesWritten as of_bytes
use Rattle.cdf_blocks.proofs.EntryNamed.{Between, no_node_type}
use Rattle.cdf_blocks.proofs.EntryNamed as of_entry
use Rattle.cdf_blocks.proofs.KeptRules.{all_ruled, leaf_stays}
use Rattle.cdf_blocks.proofs.PlacedLeaf.{nodes_stay}

-- ---- marks

-- the bytes of a block, and the entries of the nodes of its variable
abbrev pub here_marks : Kind → ℕ → List ℕ → Bool → ℕ → ℕ → ℕ → List Mark
here_marks kind v nodes packed place limit most = block_marks packed place limit ++ index_marks kind v nodes (field 12 most)

pub record HereTests (kind : Kind) (v : ℕ) (nodes : List ℕ) (packed : Bool) (place limit most : ℕ) : Type 0 where
  pub file_clear : keeps_file (here_marks kind v nodes packed place limit most) ≡ true
  pub attributes_clear : keeps_all_attributes (here_marks kind v nodes packed place limit most) ≡ true
  pub other_clear : keeps_kind (here_marks kind v nodes packed place limit most) (other_kind kind) ≡ true
  pub cpr_clear : unmarked (here_marks kind v nodes packed place limit most) cpr_type ≡ true
  pub gdr_clear : unmarked (here_marks kind v nodes packed place limit most) gdr_type ≡ true
  pub unused_clear : unmarked (here_marks kind v nodes packed place limit most) uir_type ≡ true
  pub head_clear : avoided (here_marks kind v nodes packed place limit most) gdr_type (head_of (variables_chain kind)).place ((head_of (variables_chain kind)).place + (head_of (variables_chain kind)).width) ≡ true
  pub count_clear : avoided (here_marks kind v nodes packed place limit most) gdr_type (count_of (variables_chain kind)).place ((count_of (variables_chain kind)).place + (count_of (variables_chain kind)).width) ≡ true
  pub list_clear : avoided (here_marks kind v nodes packed place limit most) gdr_type 64 72 ≡ true
  pub max_clear : avoided (here_marks kind v nodes packed place limit most) gdr_type 52 56 ≡ true
  pub end_clear : avoided (here_marks kind v nodes packed place limit most) gdr_type 36 44 ≡ true
  pub vdr_clear : unmarked (block_marks packed place limit) (type_in (variables_chain kind)) ≡ true

here_tests : (kind : Kind) (v : ℕ) (nodes : List ℕ) (packed : Bool) (place limit most : ℕ) → HereTests kind v nodes packed place limit most
here_tests kind v nodes true place limit most = grind arith
here_tests kind v nodes false place limit most = grind arith

module _ {b mid now : List ℕ} {kind : Kind} {before : List VariableShape} {own : VariableShape} {after : List VariableShape} (good : Good b) (at : StandsAmong b kind before own after) (old : Leaf) (first last : ℕ) (one : IsOneOf (leaves_of own.index) old) (lies : LiesIn old first last) (bytes : List ℕ) (x i : ℕ) (x_in : In x (nodes_of own.index)) (used : i < used_count b x) (says : SaysEntry b x i old.first old.last old.place)
    (w : Overwritten b mid old.place old.packed bytes) (room : stored_end old.packed (length bytes) ≤ size_at b old.place) (set : EntrySet mid now x i first last old.place) where
  abbrev s : Shape
  s = shape b

  abbrev pub new : Leaf
  new = record { first = first; last = last; place = old.place; packed = old.packed }

  abbrev pub mine : VariableShape
  mine = with_index own (with_range old.first new own.index)

  abbrev nodes : List ℕ
  nodes = nodes_of own.index

  abbrev pub marks : List Mark
  marks = here_marks kind own.vdr nodes old.packed old.place (length b) (length mid)

  pub tests : HereTests kind own.vdr nodes old.packed old.place (length b) (length mid)
  tests = here_tests kind own.vdr nodes old.packed old.place (length b) (length mid)

  h : HasShape b s
  h = (sound good at).has_shape

  pub as_long : length now ≡ length b
  as_long = set.as_long ∙ w.as_long

  bytes_edit : Edit b mid s.records s.records (block_marks old.packed old.place (length b)) []
  bytes_edit = of_bytes.bytes_edit good at old one bytes w room

  way : Between b mid s.records own
  way = of_bytes.way good at old one bytes w room

  typed_mid : type_at mid old.place ≡ type_of_block old.packed
  typed_mid = of_bytes.typed_mid good at old one bytes w room

  -- ---- the entry

  pub t : Touched mid now s.records x
  t = of_entry.t good at old new one lies x i x_in used says way typed_mid typed_mid (block_in good at old one) set

  entry_edit : Edit mid now s.records s.records (index_marks kind own.vdr nodes (field 12 (length mid))) []
  entry_edit = of_entry.entry_edit good at old new one lies x i x_in used says way typed_mid typed_mid (block_in good at old one) set

  pub edit : Edit b now s.records s.records marks []
  edit = edit_then bytes_edit entry_edit

  block_no_node : (l : Leaf) → IsOneOf (leaves_of own.index) l → l.place ≢ x
  block_no_node l j e = no_node_type l.packed (sym (block_typed good at l j) ∙ ap (type_at b) e ∙ (of_bytes.node_in good at old one bytes w room x x_in).1)

  -- the record of the block, once its bytes were written
  pub block_set : Kept mid now old.place
  block_set = t.others old.place (block_in good at old one) (block_no_node old one)

  pub vdr_kept : Kept b now own.vdr
  vdr_kept = kept_then b mid now own.vdr way.vdr_kept (of_entry.vdr_set good at old new one lies x i x_in used says way typed_mid typed_mid (block_in good at old one) set)

  pub vdr_field : (f : Field) → f.place + f.width ≤ 340 → number now own.vdr f ≡ number b own.vdr f
  vdr_field = of_entry.vdr_field good at old new one lies x i x_in used says way typed_mid typed_mid (block_in good at old one) set

  -- ---- the variable

  unused_now : IsChain now s.records uir_type (number now s.gdr gdr_uir_head) s.unused
  unused_now = chain_stays edit uir_type _ _ s.unused h.unused_chain (gdr_field (sound good at) edit tests.file_clear gdr_uir_head tests.list_clear (omega arith)) (λ m j. away-avoids marks uir_type m 0 20 (unmarked-away marks uir_type m tests.unused_clear))

  -- a record of a variable that is not of this one
  beside : (m : ℕ) → In m (all_variable_records s) → (In m (variable_records own) → ⊥) → Away marks (type_at b m) m
  beside m j out =
      Away-append (block_marks old.packed old.place (length b)) (index_marks kind own.vdr nodes (field 12 (length mid))) (type_at b m) m
      ((λ same lies. elim lies [ inl q ↦ out (subst (λ (z : ℕ). In z (variable_records own)) (sym q) (inr (block_behind own old.place (in_places good at old one)))) | inr none ↦ none ]), tt)
      ((λ same lies. out (inl (the_one own.vdr m lies))), ((λ same lies. out (inr (node_behind own m lies))), tt))

  avoids : (m lo hi : ℕ) → (hi ≤ 24) ⊎ (44 ≤ lo) → Avoids marks (type_in (variables_chain kind)) m lo hi
  avoids m lo hi side =
      Avoids-append (block_marks old.packed old.place (length b)) (index_marks kind own.vdr nodes (field 12 (length mid))) (type_in (variables_chain kind)) m lo hi
      (away-avoids (block_marks old.packed old.place (length b)) (type_in (variables_chain kind)) m lo hi (unmarked-away (block_marks old.packed old.place (length b)) (type_in (variables_chain kind)) m tests.vdr_clear))
      ((λ same lies. elim side [ inl l ↦ inl (omega arith) | inr r ↦ inr r ]), ((λ same lies. absurd (vdr_no_node kind same)), tt))

  pub index_edit : IndexEdit b now kind own (with_range old.first new own.index) s.records s.unused marks []
  index_edit = record {
    edit = edit;
    file_clear = tests.file_clear;
    attributes_clear = tests.attributes_clear;
    other_clear = tests.other_clear;
    cpr_clear = tests.cpr_clear;
    head_clear = tests.head_clear;
    count_clear = tests.count_clear;
    beside = beside;
    avoids = avoids;
    typed = λ m j. absurd j;
    unused_chain = unused_now;
    index_now = of_entry.index_now good at old new one lies x i x_in used says way typed_mid typed_mid (block_in good at old one) set;
  }

  pub shape_now : shape now ≡ with_shapes s kind s.records s.unused (before ++ mine ∷ after)
  shape_now = of_own_edit.same_shape good at (of_index.own_edit good at index_edit)

  pub records_are : (shape now).records ≡ s.records
  records_are = ap (λ (y : Shape). y.records) shape_now

  pub r_max_rec_is : r_max_rec now ≡ r_max_rec b
  r_max_rec_is = of_own_edit.r_max_rec_kept good at (of_index.own_edit good at index_edit) tests.max_clear

  pub gdr_stood : Stood b now s.gdr
  gdr_stood = stood (sound good at) edit records_are s.gdr (gdr_in b s h) (kept edit s.gdr gdr_type (gdr_in b s h) (gdr_typed b s h) tests.gdr_clear)

  pub unused_stood : (m : ℕ) → In m s.records → type_at b m ≡ uir_type → Stood b now m
  unused_stood m j typed = stood (sound good at) edit records_are m j (kept edit m uir_type j typed tests.unused_clear)

  -- ---- its blocks

  pub rle_now : is_compressed b own.vdr ≡ true → is_compressed now own.vdr ≡ true
  rle_now rle = packed_stays (of_index.file good at index_edit) (of_index.stays good at index_edit) ∙ rle

  pub other_kept : (l : Leaf) → IsOneOf (leaves_of own.index) l → l.place ≢ old.place → Kept b now l.place
  other_kept l j ne = kept_then b mid now l.place (of_bytes.mid_kept good at old one bytes w room l.place (block_in good at l j) ne) (t.others l.place (block_in good at l j) (block_no_node l j))

  size_now : size_at now old.place ≡ size_at b old.place
  size_now = t.heads.sizes old.place (block_in good at old one) ∙ (of_bytes.heads_mid good at old one bytes w room).sizes old.place (block_in good at old one)

  pub block_stands : length b ≤ image_limit → BlockStands now s.records new bytes
  block_stands short = record {
    there = block_in good at old one;
    typed = t.heads.types old.place (block_in good at old one) ∙ typed_mid;
    room = subst (λ (n : ℕ). stored_end old.packed (length bytes) ≤ n) (sym size_now) room;
    holds = holds_kept mid now old.place bytes old.packed block_set (omega (arith, set.as_long)) (omega (arith, room, (of_bytes.heads_mid good at old one bytes w room).sizes old.place (block_in good at old one))) w.holds;
    short = omega (arith, end_past old.packed (length bytes), room, of_bytes.high good at old one bytes w room, short);
  }
    where
      end_past : (p : Bool) (n : ℕ) → n ≤ stored_end p n
      end_past true n = omega arith
      end_past false n = omega arith

  module _ (rle : is_compressed b own.vdr ≡ true) (plain : List ℕ) (plain_long : length plain ≡ (last + 1 - first) * record_bytes b own.vdr) (stored : StoredAs plain old.packed bytes) (short : length b ≤ image_limit) where
    many : plain_size now own.vdr new ≡ length plain
    many = plain_alike (of_index.file good at index_edit) (stays_alike (of_index.file good at index_edit) (of_index.stays good at index_edit)) new ∙ size_is good at old one new lies ∙ sym plain_long

    pub is_block : BlockIs now s.records own.vdr new plain
    is_block = block_is now s.records own.vdr first last old.place plain bytes (rle_now rle) old.packed many (block_stands short) stored

    pub ends : block_end now own.vdr new ≡ stored_end old.packed (length bytes)
    ends = end_is now s.records own.vdr first last old.place plain bytes (rle_now rle) old.packed many (block_stands short) stored

    leaf_now : (l : Leaf) → IsOneOf (leaves_of mine.index) l → LeafFits now s.records own.vdr l × Hold (leaf_rows now s.records own.vdr l)
    leaf_now l j = elim (of_entry.leaf_cases good at old new one lies x i x_in used says way typed_mid typed_mid (block_in good at old one) set l j) [
      | inl q ↦ subst (λ (y : Leaf). LeafFits now s.records own.vdr y × Hold (leaf_rows now s.records own.vdr y)) (sym q) (is_block.fits, is_block.rules)
      | inr k ↦ leaf_stays good at index_edit l k.0 (other_kept l k.0 k.1)
    ]

    rows : Hold (index_rows now s.records own.vdr mine.index)
    rows =
        all_ruled good at index_edit (nodes_stay old.first new own.index) (of_entry.spares good at old new one lies x i x_in used says way typed_mid typed_mid (block_in good at old one) set) leaf_now
        (of_entry.order_now good at old new one lies x i x_in used says way typed_mid typed_mid (block_in good at old one) set)

    owned_now : OwnedOnce now (with_shapes s kind s.records s.unused (before ++ mine ∷ after))
    owned_now =
        owned_once_if b now s (with_shapes s kind s.records s.unused (before ++ mine ∷ after)) marks [] (sound good at) (good_by_its_shape b good).owned_once edit
        (λ m out. omega (arith, of_entry.used_by good at old new one lies x i x_in used says way typed_mid typed_mid (block_in good at old one) set s.records s.unused m)) (λ m j. absurd j)

    end_now : eof now s.gdr ≡ length now
    end_now = gdr_field (sound good at) edit tests.file_clear gdr_eof tests.end_clear (omega arith) ∙ ap (eof b) (sym h.gdr_is) ∙ good_eof b good ∙ sym as_long

    pub good_now : Good now
    good_now = of_index.good_now good at index_edit rows (ap is_max_rec (vdr_field vdr_max_rec (omega arith)) ∙ (own_rules good at).0.1.1.1.1.1.1.1.0) owned_now end_now (omega (arith, as_long, short))

    follow : ActsFollow b now []
    follow = acts_none (sound good at) edit tests.unused_clear refl records_are (ap (λ (y : Shape). y.unused) shape_now) as_long

    pub goes_on : GoesOn b now kind before own mine after []
    goes_on =
        goes_by good at index_edit good_now follow (keeps_stood b now s.gdr (gdr_stood) (Only (r_max_rec_field kind ++ space_fields)))
        (λ m j free. keeps_stood b now m (unused_stood m (linkable-in b s.records uir_type m (h.unused_chain.linkable m j)) (linkable-type b s.records uir_type m (h.unused_chain.linkable m j))) (Only links))
        (λ m j typed out. keeps_stood b now m (unused_stood m j typed) (Only []))
