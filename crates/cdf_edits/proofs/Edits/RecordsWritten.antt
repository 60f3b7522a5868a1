-- Records of a variable are written where they stand, in blocks that are not packed, and MaxRec with them: the image has its shape and its rules, and all but the variable stays.
use Rattle.cdf_edits.proofs.Common.{ActsFollow, Among, Anywhere, Avoids, Away, Changed, Each, Each-append, Edit, Good, HasShape, Hold, In, In-append, IsIndex, IsSound, Kind, List, Mark, Marked, NodeFits, R, Same, Shape, Stays, Touch, VariableShape, Within, Z, [], ap, arith, either, false-is_in, gdr_r_max_rec, gdr_type, gdr_uir_head, good_is_sound, image_limit, index_rows, inl, inr, is_in, is_max_rec, leaves_of, length, linkable-type, map, mark, max_rec_touches, nodes_of, nodes_stand, number, r_max_rec, r_max_rec_field, refl, shape, size_at, space_fields, subst, sym, tile_lies, true, true-is_in, true≢false, type_at, type_in, uir_type, variable_records, variable_types, variables_chain, vdr_max_rec, vdr_vxr_head, vvr_type, vxr_type, ℕ, ◌++◌, ◌+◌, ◌∙◌, ◌∷◌, ◌≡◌, ◌≤◌, ◌⊎◌}
use Rattle.cdf_edits.proofs.Edits.Common.{Each-in, FileSame, IsRuled, Kept, OwnEdit, SameHeads, StandsAmong, Stood, VdrAlike, all_variable_records, behind_in, behind_ours, block_behind, chain_stays, changed_edit, file_same, fits, gdr_field, gdr_in, gdr_long, gdr_typed, good_in_place, has, head_size, head_type, index_kept, index_records, keeps_within, kept, kept_away, long, named_before, no_block, node_behind, packed_stays, places_of, plain_alike, r_max_rec_kept, shape_stays, some_bytes, stood, the_one, tile, typed, variable_typed}
use Rattle.cdf_edits.proofs.Edits.IndexEdited.{IndexEdit}
use Rattle.cdf_edits.proofs.Rules.OfIndexes.{index_rules_written}
use Rattle.cdf_edits.proofs.Edits.OwnEdited as of_own
use Rattle.cdf_edits.proofs.Edits.IndexEdited as of_index
use Rattle.cdf_edits.proofs.Frame.VdrAlike.{Copied, copied_in_place, word_copied}

-- some bytes of a block of the variable that is not packed, behind its type
pub record InBlock (b : List ℕ) (own : VariableShape) (t : Touch) : Type 0 where
  pub block : In t.tile (places_of (leaves_of own.index))
  pub typed : type_at b t.tile ≡ vvr_type
  pub later : 12 ≤ t.place
  pub fits : t.place + t.width ≤ size_at b t.tile

-- bytes of its blocks are written, with MaxRec, and no other byte changes
pub record WritesRecords (b now : List ℕ) (kind : Kind) (own : VariableShape) (ts : List Touch) : Type 0 where
  pub changed : Changed b now (max_rec_touches b kind own.vdr ++ ts)
  pub as_long : length now ≡ length b
  pub in_blocks : Each (InBlock b own) ts
  pub max_rec_ruled : is_max_rec (number now own.vdr vdr_max_rec) ≡ true

-- ---- marks

abbrev gdr_marks : Kind → List Mark
gdr_marks R = mark gdr_type Anywhere gdr_r_max_rec ∷ []
gdr_marks Z = []

abbrev block_mark : List ℕ → ℕ → Mark
block_mark places most = record { type = vvr_type; tiles = Among places; place = 12; width = most }

abbrev pub put_marks : Kind → ℕ → List ℕ → ℕ → List Mark
put_marks kind v places most = mark (type_in (variables_chain kind)) (Among (v ∷ [])) vdr_max_rec ∷ block_mark places most ∷ gdr_marks kind

-- the first bytes of all records, and a part of the VDR beside MaxRec
early : (kind : Kind) (v : ℕ) (places : List ℕ) (most type m lo hi : ℕ) → hi ≤ 12 → Avoids (put_marks kind v places most) type m lo hi
early kind v places most type m lo hi l = grind arith

vdr_avoids : (kind : Kind) (v : ℕ) (places : List ℕ) (most m lo hi : ℕ) → (hi ≤ 24) ⊎ (28 ≤ lo) → Avoids (put_marks kind v places most) (type_in (variables_chain kind)) m lo hi
vdr_avoids kind v places most m lo hi side = grind arith

-- each is in a block of its own
in_block : (b : List ℕ) (own : VariableShape) (ts : List Touch) → Each (InBlock b own) ts → (m : ℕ) → In m (map (λ (t : Touch). t.tile) ts) → In m (places_of (leaves_of own.index)) × (type_at b m ≡ vvr_type)
in_block b own [] each m i = absurd i
in_block b own (t ∷ ts) each m (inl q) = rw q (each.0.block, each.0.typed)
in_block b own (t ∷ ts) each m (inr i) = in_block b own ts each.1 m i

-- ---- the edit

module _ {b now : List ℕ} {kind : Kind} {before : List VariableShape} {own : VariableShape} {after : List VariableShape} {ts : List Touch} (good : Good b) (at : StandsAmong b kind before own after) (w : WritesRecords b now kind own ts) where
  abbrev s : Shape
  s = shape b

  abbrev v : ℕ
  v = own.vdr

  abbrev type : ℕ
  type = type_in (variables_chain kind)

  abbrev pub places : List ℕ
  places = map (λ (t : Touch). t.tile) ts

  abbrev pub marks : List Mark
  marks = put_marks kind v places (length b)

  sound : IsSound b s
  sound = good_is_sound b good

  h : HasShape b s
  h = sound.has_shape

  pub in_records : (m : ℕ) → In m (places_of (leaves_of own.index)) → In m s.records
  in_records m i = behind_in good at m (block_behind own m i)

  blocks_marked : (xs : List Touch) → ((m : ℕ) → In m (map (λ (t : Touch). t.tile) xs) → In m places) → Each (InBlock b own) xs → Each (Marked b s.records marks []) xs
  blocks_marked [] sub each = tt
  blocks_marked (t ∷ xs) sub each =
      let x = each.0 in
      let inside = in_records t.tile x.block in
      (grind (arith, inside, x.typed, x.later, x.fits, sub t.tile (inl refl), (tile_lies b 8 (length b) s.records t.tile h.tiled inside).high), blocks_marked xs (λ m i. sub m (inr i)) each.1)

  fields_marked : Each (Marked b s.records marks []) (max_rec_touches b kind v)
  fields_marked = grind (arith, gdr_in b s h, gdr_long b s h, gdr_typed b s h, long good at, tile good at, typed good at)

  all_marked : Each (Marked b s.records marks []) (max_rec_touches b kind v ++ ts)
  all_marked = Each-append (Marked b s.records marks []) (max_rec_touches b kind v) ts fields_marked (blocks_marked ts (λ m i. i) w.in_blocks)

  pub edit : Edit b now s.records s.records marks []
  edit = changed_edit b now s.records (max_rec_touches b kind v ++ ts) marks [] h.tiled w.as_long w.changed all_marked (some_bytes b s h)

  pub file : FileSame b now
  file = file_same sound edit (grind arith)

  -- ---- its records

  start : (m : ℕ) → In m s.records → Same b now (m + 0) (m + 12)
  start m i = edit.part m (type_at b m) 0 12 i refl (early kind v places (length b) (type_at b m) m 0 12 (omega arith)) (early kind v places (length b) (type_at b m) m 0 12 (omega arith)) (tile_lies b 8 (length b) s.records m h.tiled i).long

  pub size_same : (m : ℕ) → In m s.records → size_at now m ≡ size_at b m
  size_same m i = head_size b now m (start m i)

  pub type_same : (m : ℕ) → In m s.records → type_at now m ≡ type_at b m
  type_same m i = head_type b now m (start m i)

  pub node_kept : (m : ℕ) → In m (nodes_of own.index) → Kept b now m
  node_kept m i = kept edit m vxr_type (behind_in good at m (node_behind own m i)) (linkable-type b s.records vxr_type m (nodes_stand b s.records 8 own.index (has good at).indexed.has_nodes m i)) (grind arith)

  -- no record of a variable is the GDR
  no_gdr : (m : ℕ) → In m (all_variable_records s) → type_at b m ≡ gdr_type → ⊥
  no_gdr m i e = true≢false (sym (ap (λ (x : ℕ). is_in x variable_types) (sym e) ∙ variable_typed b s sound m i))

  -- a block of which nothing is written
  pub block_kept : (m : ℕ) → In m (places_of (leaves_of own.index)) → (In m places → ⊥) → Kept b now m
  block_kept m i out =
      let other = λ (e : m ≡ v). no_block good at (subst (λ (x : ℕ). In x (places_of (leaves_of own.index))) e i) in
      kept_away edit m (type_at b m) (in_records m i) refl (grind (arith, the_one v m, no_gdr m (behind_ours good at m (block_behind own m i)), other, out))

  -- ---- its VDR

  pub part : (lo hi : ℕ) → (hi ≤ 24) ⊎ (28 ≤ lo) → hi ≤ size_at b v → Same b now (v + lo) (v + hi)
  part lo hi side fit = edit.part v type lo hi (tile good at) (typed good at) (early kind v places (length b) type v 0 12 (omega arith)) (vdr_avoids kind v places (length b) v lo hi side) fit

  links_same : Copied b now v v 28 44
  links_same = copied_in_place b now v 28 44 (part 28 44 (inr (omega arith)) (let l = long good at in omega arith))

  -- ---- its index and the others

  heads : SameHeads b now s.records s.records
  heads = record { sizes = size_same; types = type_same; sub = λ m i. i }

  nodes_fit : (m : ℕ) → In m (nodes_of own.index) → NodeFits b m
  nodes_fit = Each-in (NodeFits b) (nodes_of own.index) (fits good at).1

  index_now : IsIndex now s.records (number now v vdr_vxr_head) own.index
  index_now = index_kept b now s.records s.records heads (number b v vdr_vxr_head) (number now v vdr_vxr_head) own.index (has good at).indexed (word_copied links_same 28 8 (omega arith) (omega arith)) node_kept nodes_fit in_records

  -- records of variables that are not of this one
  beside : (m : ℕ) → In m (all_variable_records s) → (In m (variable_records own) → ⊥) → Away marks (type_at b m) m
  beside m i out = let block = λ (j : In m places). out (inr (block_behind own m (in_block b own ts w.in_blocks m j).0)) in grind (arith, the_one v m, no_gdr m i, λ (e : m ≡ v). out (inl e), block)

  pub index_edit : IndexEdit b now kind own own.index s.records s.unused marks []
  index_edit =
      let apart_vdr = λ (m lo hi : ℕ) (side : (hi ≤ 24) ⊎ (44 ≤ lo)). vdr_avoids kind v places (length b) m lo hi (elim side [ inl l ↦ inl l | inr l ↦ inr (omega arith) ]) in
      let list = chain_stays edit uir_type _ _ s.unused h.unused_chain (gdr_field sound edit (grind arith) gdr_uir_head (grind arith) (omega arith)) (λ m i. grind arith) in
      grind (arith, edit, beside, apart_vdr, list, index_now)

  abbrev own_edit : OwnEdit b now kind own own.index s.records s.unused marks []
  own_edit = of_index.own_edit good at index_edit

  pub vdr_alike : VdrAlike b now v v
  vdr_alike = of_index.vdr_alike good at index_edit

  -- a record behind its VDR, of which nothing is written
  pub behind_kept : (m : ℕ) → In m (index_records own) → (In m places → ⊥) → Kept b now m
  behind_kept m i out = elim (In-append m (nodes_of own.index ++ places_of (leaves_of own.index)) own.cpr i) [
    | inr c ↦ of_index.cpr_kept good at index_edit m c
    | inl j ↦ elim (In-append m (nodes_of own.index) (places_of (leaves_of own.index)) j) [ inl n ↦ node_kept m n | inr n ↦ block_kept m n out ]
  ]

  -- ---- the shape and the content

  pub same_shape : shape now ≡ s
  same_shape = shape_stays good at own_edit w.as_long

  pub records_are : (shape now).records ≡ s.records
  records_are = ap (λ (x : Shape). x.records) same_shape

  -- of a z variable rMaxRec stays
  pub r_max_rec_of_z : kind ≡ Z → r_max_rec now ≡ r_max_rec b
  r_max_rec_of_z z = r_max_rec_kept good at own_edit (grind arith)

  -- ---- the rules

  kept_or_plain : (m : ℕ) → In m (places_of (leaves_of own.index)) → Kept b now m ⊎ (type_at b m ≡ vvr_type)
  kept_or_plain m i = elim (either (is_in m places)) [
    | inl e ↦ inr (in_block b own ts w.in_blocks m (true-is_in m places e)).1
    | inr e ↦ inl (block_kept m i (false-is_in m places e))
  ]

  index_ruled : Hold (index_rows b s.records v own.index) → Hold (index_rows now s.records v own.index)
  index_ruled = index_rules_written b now s.records heads file h.fixed v v (packed_stays file (of_index.stays good at index_edit)) (plain_alike file vdr_alike) own.index node_kept nodes_fit (λ m i. (in_records m i, kept_or_plain m i))

  pub own_ruled : IsRuled b s.records own
  own_ruled = of_own.own_ruled good at own_edit

  pub good_now : length b ≤ image_limit → Good now
  good_now = good_in_place good at own_edit w.as_long (grind arith) (of_index.ruled good at index_edit (index_ruled own_ruled.1) w.max_rec_ruled) (named_before good at own_edit (of_index.name_same good at index_edit))

  pub no_acts_follow : ActsFollow b now []
  no_acts_follow = of_own.no_acts_follow good at own_edit w.as_long (grind arith)

  -- ---- what stays

  gdr_within : (k : Kind) → Within (put_marks k v places (length b)) gdr_type s.gdr (r_max_rec_field k ++ space_fields)
  gdr_within k = grind arith

  pub gdr_keeps : Stays b now s.gdr (r_max_rec_field kind ++ space_fields)
  gdr_keeps = keeps_within sound edit records_are s.gdr gdr_type (r_max_rec_field kind ++ space_fields) (gdr_in b s h) (gdr_typed b s h) (early kind v places (length b) gdr_type s.gdr 0 12 (omega arith)) (gdr_within kind)

  pub unused_stands : (m : ℕ) → In m s.records → type_at b m ≡ uir_type → Stood b now m
  unused_stands m i t = stood sound edit records_are m i (kept edit m uir_type i t (grind arith))
