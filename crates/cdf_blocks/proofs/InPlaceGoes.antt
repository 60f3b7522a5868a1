-- A block whose bytes are written in its record has been shortened.
use Rattle.cdf_blocks.proofs.Common.{Bool, In, IsOneOf, Leaf, List, SaysEntry, [], arith, cases_eq, each_of, false, inl, inr, length, refl, room_at, subst, sym, true, used_count, ℕ, ◌*◌, ◌+◌, ◌-◌, ◌<◌, ◌∙◌, ◌≡◌, ◌≢◌, ◌≤◌, ◌⊎◌}
unfoldable use Rattle.cdf_blocks.proofs.Common.{leaves_of, nodes_of, with_range}
use Rattle.cdf_edits.proofs.Common.{Good, Kind, Misses, Only, Same, VariableShape, image_limit, is_compressed, is_in-true, le-leb, of_le, record_bytes, shape, size_at, space_fields, vdr_max_rec, vdr_vxr_head, vdr_vxr_tail, word_kept}
use Rattle.cdf_edits.proofs.Commands.KeptRecords.{keeps_stood}
use Rattle.cdf_edits.proofs.Edits.Common.{StandsAmong, each, sound, stood, tile}
use Rattle.cdf_edits.proofs.Edits.Composing.{part}
use Rattle.cdf_edits.proofs.Edits.IndexEdited as of_index
use Rattle.cdf_edits.proofs.Edits.RecordGrown.{kept_then}
use Rattle.std.proofs.Common.{true≢false}
use Rattle.cdf_edits.proofs.Edits.StandsAmong.{behind_in}
use Rattle.cdf_edits.proofs.Edits.VariableCopied.{cpr_behind}
use Rattle.cdf_edits.specs.Commands.Allowances.{Stays as StaysBut}
use Rattle.cdf_edits.specs.Commands.PutSteps.{BlockWritten}
use Rattle.cdf_edits.specs.Index.Written.{EntryIs, NodeSpareStays, block_end, same_packing, stays_put, was_unused}
use Rattle.cdf_index.proofs.Common.{EntrySet}
use Rattle.cdf_leaves.proofs.Spares.{Spares}
use Rattle.cdf_blocks.specs.Blocks.{LiesIn, Overwritten, StoredAs, stored_end, stored_touches}
use Rattle.cdf_blocks.specs.Shortened.{BlockShortened, NodeStays, NamesLeaf}
use Rattle.cdf_blocks.proofs.BlockBytes.{need_most, stored_room}
use Rattle.cdf_blocks.proofs.BlockGoes.{chain_stays, goes_by_step, heads}
use Rattle.cdf_blocks.proofs.BlockOf.{block_in}
use Rattle.cdf_blocks.proofs.EntryNamed.{NodeBut, spares_but, stays_but}
use Rattle.cdf_blocks.proofs.EntryNamed as of_entry
use Rattle.cdf_blocks.proofs.BytesWritten as of_bytes
use Rattle.cdf_blocks.proofs.InPlace as of_place
use Rattle.cdf_blocks.proofs.PlacedLeaf.{nodes_stay, top_stays}

same_kind : (p : Bool) → same_packing p p ≡ true
same_kind true = refl
same_kind false = refl

-- what is stored misses what stands behind it, and rfuA
behind : (place n hi : ℕ) (packed : Bool) → Misses (stored_touches place n packed) place (stored_end packed n) hi
behind place n hi true = ((λ e. inr (omega arith)), ((λ e. inr (omega arith)), tt))
behind place n hi false = ((λ e. inr (omega arith)), tt)

before_size : (place n : ℕ) (packed : Bool) → packed ≡ true → Misses (stored_touches place n packed) place 12 16
before_size place n true e = ((λ q. inl (omega arith)), ((λ q. inl (omega arith)), tt))
before_size place n false e = absurd cc

rfu_fits : (n size : ℕ) (packed : Bool) → packed ≡ true → stored_end packed n ≤ size → 16 ≤ size
rfu_fits n size true e le = omega arith
rfu_fits n size false e le = absurd cc

module _ {b mid now : List ℕ} {kind : Kind} {before : List VariableShape} {own : VariableShape} {after : List VariableShape} (good : Good b) (at : StandsAmong b kind before own after) (old : Leaf) (first last : ℕ) (one : IsOneOf (leaves_of own.index) old) (lies : LiesIn old first last) (bytes : List ℕ) (x i : ℕ) (x_in : In x (nodes_of own.index)) (used : i < used_count b x) (says : SaysEntry b x i old.first old.last old.place)
    (w : Overwritten b mid old.place old.packed bytes) (room : stored_end old.packed (length bytes) ≤ size_at b old.place) (set : EntrySet mid now x i first last old.place) (rle : is_compressed b own.vdr ≡ true) (plain : List ℕ) (plain_long : length plain ≡ (last + 1 - first) * record_bytes b own.vdr) (stored : StoredAs plain old.packed bytes) (short : length b ≤ image_limit) where
  abbrev new : Leaf
  new = record { first = first; last = last; place = old.place; packed = old.packed }

  abbrev nodes : List ℕ
  nodes = nodes_of own.index

  end_is : block_end now own.vdr new ≡ stored_end old.packed (length bytes)
  end_is = of_place.ends good at old first last one lies bytes x i x_in used says w room set rle plain plain_long stored short

  stays : stays_put b now true own.vdr old new ≡ true
  stays = rw (same_kind old.packed, end_is) (of_le (stored_end old.packed (length bytes)) (size_at b old.place) room)

  -- ---- the block

  -- a part of its record of which nothing is written
  part_of : (lo hi : ℕ) → hi ≤ size_at b old.place → Misses (stored_touches old.place (length bytes) old.packed) old.place lo hi → Same b now (old.place + lo) (old.place + hi)
  part_of lo hi fit miss =
      let bytes_then = part b mid (shape b).records (stored_touches old.place (length bytes) old.packed) _ [] (sound good at).has_shape.tiled w.as_long w.changed (of_bytes.all_marked good at old one bytes w room) old.place lo hi (block_in good at old one) fit miss in
      let entry_then = of_place.block_set good at old first last one lies bytes x i x_in used says w room set in
      let size = (of_bytes.heads_mid good at old one bytes w room).sizes old.place (block_in good at old one) in
      record { each = λ p low up. entry_then.same.each p (omega (arith, low)) (omega (arith, up, fit, size)) ∙ bytes_then.each p low up }

  written : BlockWritten b now true own.vdr [] new plain
  written = record {
    plain_is = (of_place.is_block good at old first last one lies bytes x i x_in used says w room set rle plain plain_long stored short).plain_is;
    packed = λ e. (of_place.is_block good at old first last one lies bytes x i x_in used says w room set rle plain plain_long stored short).well;
    spare = rw end_is (part_of (stored_end old.packed (length bytes)) (size_at b old.place) (omega arith) (behind old.place (length bytes) (size_at b old.place) old.packed));
    reserved = λ e. word_kept b now (old.place + 12) (old.place + 16) (part_of 12 16 (rfu_fits (length bytes) (size_at b old.place) old.packed e room) (before_size old.place (length bytes) old.packed e)) (old.place + 12) 4 (omega arith) (omega arith);
  }

  -- ---- the nodes

  node_but : (m : ℕ) → In m nodes → NodeBut b now x i m
  node_but = of_entry.nodes_but good at old new one lies x i x_in used says (of_bytes.way good at old one bytes w room) (of_bytes.typed_mid good at old one bytes w room) (of_bytes.typed_mid good at old one bytes w room) (block_in good at old one) set

  unused : (m : ℕ) → In m nodes → (k : ℕ) → used_count now m ≤ k → k < room_at now m → EntryIs b now m k (was_unused b nodes [] m k)
  unused m j k le lt =
      let n : Spares b now m = spares_but used (node_but m j) in
      rw (is_in-true m nodes j, le-leb (used_count b m) k (omega (arith, n.used_is, le))) (n.spare k (omega (arith, n.used_is, le)) (omega (arith, n.room_is, lt)) _ _ _ (record { first_is = refl; last_is = refl; offset_is = refl }))

  spare : (m : ℕ) → In m nodes → NodeSpareStays b now [] m
  spare m j free =
      let way = of_bytes.way good at old one bytes w room in
      let k = way.node_kept m j in
      let n = of_entry.same_mid good at old new one lies x i x_in used says way (of_bytes.typed_mid good at old one bytes w room) (of_bytes.typed_mid good at old one bytes w room) (block_in good at old one) set m j in
      let entry_then = of_entry.spare_stays good at old new one lies x i x_in used says way (of_bytes.typed_mid good at old one bytes w room) (of_bytes.typed_mid good at old one bytes w room) (block_in good at old one) set m j in
      record { each = λ p low up. entry_then.each p (omega (arith, low, n.room_is, (node_but m j).room_is)) (omega (arith, up, n.size_is)) ∙ k.same.each p (omega (arith, low)) up }

  -- a node that does not name the block stays
  else_stays : (m : ℕ) → In m nodes → StaysBut b now m [] ⊎ NamesLeaf b m old
  else_stays m j = elim (cases_eq m x) [
    | inl e ↦ inr (record { number = i; used = rw e used; says = rw e says })
    | inr ne ↦
        let way = of_bytes.way good at old one bytes w room in
        let e = of_place.edit good at old first last one lies bytes x i x_in used says w room set in
        let same = of_place.records_are good at old first last one lies bytes x i x_in used says w room set in
        let k = kept_then b mid now m (way.node_kept m j) ((of_place.t good at old first last one lies bytes x i x_in used says w room set).others m (way.node_in m j) ne) in
        inl (keeps_stood b now m (stood (sound good at) e same m (way.node_in m j) k) (Only []))
  ]

  pub shortened_here : BlockShortened b now kind before own after old new plain
  shortened_here =
      let g = of_place.goes_on good at old first last one lies bytes x i x_in used says w room set rle plain plain_long stored short in
      let same = of_place.records_are good at old first last one lies bytes x i x_in used says w room set in
      let e = of_place.edit good at old first last one lies bytes x i x_in used says w room set in
      let others = λ (l : Leaf) (j : IsOneOf (leaves_of own.index) l) (ne : l.place ≢ old.place). stood (sound good at) e same l.place (block_in good at l j) (of_place.other_kept good at old first last one lies bytes x i x_in used says w room set l j ne) in
      let cpr = λ (m : ℕ) (j : In m own.cpr). stood (sound good at) e same m (behind_in good at m (cpr_behind own m j)) (of_index.cpr_kept good at (of_place.index_edit good at old first last one lies bytes x i x_in used says w room set) m j) in
      let gdr = keeps_stood b now (shape b).gdr (of_place.gdr_stood good at old first last one lies bytes x i x_in used says w room set) (Only space_fields) in
      let descriptor = keeps_stood b now own.vdr (stood (sound good at) e same own.vdr (tile good at) (of_place.vdr_kept good at old first last one lies bytes x i x_in used says w room set)) (Only heads) in
      let field = of_place.vdr_field good at old first last one lies bytes x i x_in used says w room set in
      let is : (m : ℕ) → In m (nodes_of (with_range old.first new own.index)) → In m nodes = λ m j. subst (In m) (nodes_stay old.first new own.index) j in
      record {
        own' = of_place.mine good at old first last one lies bytes x i x_in used says w room set;
        acts = [];
        index_is = refl;
        acts_are = rw stays refl;
        place_is = λ e. refl;
        apart = λ e. absurd (true≢false (sym stays ∙ e));
        one = of_entry.new_one good at old new one lies x i x_in used says (of_bytes.way good at old one bytes w room) (of_bytes.typed_mid good at old one bytes w room) (of_bytes.typed_mid good at old one bytes w room) (block_in good at old one) set;
        lies = lies;
        written = written;
        needs = need_most plain bytes old.packed (block_end now own.vdr new) end_is stored;
        small = omega (arith, set.as_long, w.as_long, short);
        most = subst (λ (n : ℕ). n ≤ 12 + length plain) (sym end_is) (stored_room plain bytes old.packed stored);
        goes_on = g;
        goes = λ changes here. goes_by_step good at g old one gdr descriptor others cpr changes here (λ m j. unused m (is m j)) (λ m j. spare m (is m j)) (chain_stays [] own.index (with_range old.first new own.index) (top_stays old.first new own.index) (λ m j. refl)) (field vdr_vxr_tail (omega arith)) tt;
        blocks = each_of (λ (l : Leaf). l.place ≢ old.place → StaysBut b now l.place []) (leaves_of own.index) (λ l j ne. keeps_stood b now l.place (others l j ne) (Only []));
        nodes_are = nodes_stay old.first new own.index;
        nodes = each (NodeStays b now old.place) nodes (λ m j. stays_but says (node_but m j));
        elsewhere = each (λ m. StaysBut b now m [] ⊎ NamesLeaf b m old) nodes else_stays;
        head_is = field vdr_vxr_head (omega arith);
        tail_is = field vdr_vxr_tail (omega arith);
        max_rec_is = field vdr_max_rec (omega arith);
        r_max_rec_is = of_place.r_max_rec_is good at old first last one lies bytes x i x_in used says w room set;
      }
