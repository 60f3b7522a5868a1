-- A change within the records of one owner leaves those of every other.
use Rattle.cdf_edits.proofs.Common.{AreTiles, AttributeFits, AttributeShape, AttributeStays, Bool, ChainsStay, ChangedWithin, Each, Field, FileStays, HasEntries, HasShape, HasVariable, In, In-append_left, In-append_right, IsChain, Leaf, LeafFits, LeavesLinks, List, Misses, NodeFits, None, Placed, Same, Shape, Some, Touch, TouchesNone, VariableFits, VariableShape, VariableStays, [], adr_agr_edr_head, adr_az_edr_head, adr_type, adrs, after_links, agr_edr_type, ap, arith, attribute_records, az_edr_type, block_in, cdr_encoding, cdr_flags, cdr_gdr_offset, cdr_increment, cdr_release, cdr_type, counted, cpr_of, encoding, encoding_at, false, fixed_size, flat_map, gdr_adr_head, gdr_offset, gdr_r_num_dims, gdr_r_vdr_head, gdr_type, gdr_uir_head, gdr_z_vdr_head, if◌then◌else◌, inl, inr, integer_kept, is_a-in, is_a-type, is_in, is_linkable, leaves_of, length, linkable-in, linkable-long, linkable-type, linked_types, map, next_of, nodes_of, nodes_stand, number, number_kept, r_num_dims, r_sizes, r_vdr_type, refl, size_at, subst, sym, tile_lies, true, type_at, uir_type, variable_records, vdr_vxr_head, vdrs, vxr_type, word_kept, words, words_kept, z_vdr_type, ℕ, ◌*◌, ◌++◌, ◌+◌, ◌∙◌, ◌∷◌, ◌≡◌, ◌≤◌}
use Rattle.cdf_edits.proofs.Frame.ChangedBytes.{changed_part, changed_whole}
use Rattle.cdf_edits.proofs.Frame.Meaning.{FileSame, Kept, but_link, attribute_kept}
use Rattle.cdf_edits.proofs.Frame.VdrCopied.{cpr_link_copied, index_link_copied}
use Rattle.cdf_edits.proofs.Frame.VdrKept.{vdr_kept, variable_kept, compressed_same}
use Rattle.cdf_edits.proofs.Frame.LinksStay.{SameHeads, tiles_same, chain_kept, index_kept}

pub Each-in : (P : ℕ → Type 0) (xs : List ℕ) → Each P xs → (m : ℕ) → In m xs → P m
Each-in P [] h m i = absurd i
Each-in P (x ∷ xs) h m (inl e) = subst P (sym e) h.0
Each-in P (x ∷ xs) h m (inr i) = Each-in P xs h.1 m i

pub blocks_stand : (b records : List ℕ) (vdr : ℕ) (leaves : List Leaf) → Each (LeafFits b records vdr) leaves → (m : ℕ) → In m (map (λ (leaf : Leaf). leaf.place) leaves) → In m records
blocks_stand b records vdr [] h m i = absurd i
blocks_stand b records vdr (leaf ∷ more) h m (inl e) = subst (λ (x : ℕ). In x records) (sym e) (block_in b records leaf.place h.0.0)
blocks_stand b records vdr (leaf ∷ more) h m (inr i) = blocks_stand b records vdr more h.1 m i

after_12 : (b : List ℕ) (place : ℕ) → 12 ≤ after_links b place
after_12 b place = cases (is_in (type_at b place) linked_types)
  where
    cases : (p : Bool) → 12 ≤ (if p then 20 else 12)
    cases true = omega arith
    cases false = omega arith

after_20 : (b : List ℕ) (place : ℕ) → is_in (type_at b place) linked_types ≡ true → 20 ≤ after_links b place
after_20 b place e = cases (is_in (type_at b place) linked_types) e
  where
    cases : (p : Bool) → p ≡ true → 20 ≤ (if p then 20 else 12)
    cases true h = omega arith
    cases false h = absurd cc

abbrev pub little_code : ℕ → Bool
little_code code = elim (encoding_at code) [ None ↦ false | Some e ↦ e.little ]

le_through : (x y z : ℕ) → x ≤ y → y ≤ z → x ≤ z
le_through x y z p q = omega arith

-- ---- the frame

module _ (b now own : List ℕ) (s : Shape) (h : HasShape b s) (change : ChangedWithin b now own) (own_in : (m : ℕ) → In m own → In m s.records) (records : List ℕ) (sub : (m : ℕ) → In m s.records → In m records) where
  placed_all : (ts : List Touch) → Each (LeavesLinks b own) ts → Placed b s.records (length b) ts
  placed_all [] w = tt
  placed_all (t ∷ ts) w = (inl (own_in t.tile w.0.inside, w.0.fits), placed_all ts w.1)

  misses_low : (ts : List Touch) (m : ℕ) → Each (LeavesLinks b own) ts → Misses ts m 0 12
  misses_low [] m w = tt
  misses_low (t ∷ ts) m w = ((λ e. inl (le_through 12 (after_links b t.tile) t.place (after_12 b t.tile) w.0.later)), misses_low ts m w.1)

  misses_next : (ts : List Touch) (m : ℕ) → Each (LeavesLinks b own) ts → is_in (type_at b m) linked_types ≡ true → Misses ts m 12 20
  misses_next [] m w l = tt
  misses_next (t ∷ ts) m w l =
      ((λ e. inl (le_through 20 (after_links b t.tile) t.place (after_20 b t.tile (subst (λ (x : ℕ). is_in (type_at b x) linked_types ≡ true) e l)) w.0.later)), misses_next ts m w.1 l)

  touches_none : (ts : List Touch) (m : ℕ) → Each (LeavesLinks b own) ts → (In m own → ⊥) → TouchesNone ts (m ∷ [])
  touches_none [] m w out = tt
  touches_none (t ∷ ts) m w out = ((λ i. elim i [ inl e ↦ out (subst (λ (x : ℕ). In x own) e w.0.inside) | inr n ↦ n ]), touches_none ts m w.1 out)

  placed : Placed b s.records (length b) change.touches
  placed = placed_all change.touches change.within

  pub part : (m lo hi : ℕ) → In m s.records → hi ≤ size_at b m → Misses change.touches m lo hi → Same b now (m + lo) (m + hi)
  part m lo hi i fits miss = changed_part b now s.records (length b) h.tiled (omega arith) change.touches change.changed placed m lo hi i fits miss

  -- the sizes and types of all records
  pub heads : SameHeads b now s.records records
  heads = record {
    sizes = λ m i. let l = (tile_lies b 8 (length b) s.records m h.tiled i).long in
        word_kept b now (m + 0) (m + 12) (part m 0 12 i l (misses_low change.touches m change.within)) (m + 0) 8 (omega arith) (omega arith);
    types = λ m i. let l = (tile_lies b 8 (length b) s.records m h.tiled i).long in
        word_kept b now (m + 0) (m + 12) (part m 0 12 i l (misses_low change.touches m change.within)) (m + 8) 4 (omega arith) (omega arith);
    sub = sub;
  }

  -- the next fields of records that have one
  next_stays : (m : ℕ) → In m s.records → 20 ≤ size_at b m → is_in (type_at b m) linked_types ≡ true → next_of now m ≡ next_of b m
  next_stays m i fits l = word_kept b now (m + 12) (m + 20) (part m 12 20 i fits (misses_next change.touches m change.within l)) (m + 12) 8 (omega arith) (omega arith)

  -- the whole of each record of others
  pub stays : (m : ℕ) → In m s.records → (In m own → ⊥) → Kept b now m
  stays m i out = let l = tile_lies b 8 (length b) s.records m h.tiled i in record {
    same = changed_whole b now s.records (length b) h.tiled (omega arith) change.touches change.changed placed (m ∷ []) m i (inl refl) (touches_none change.touches m change.within out);
    inside = l.high;
    long = l.long;
  }

  pub tiling_stays : AreTiles now 8 (length b) s.records
  tiling_stays = tiles_same b now 8 (length b) s.records h.tiled heads.sizes

  pub chain_stays : (type link link' : ℕ) (ms : List ℕ) → is_in type linked_types ≡ true → IsChain b s.records type link ms → link' ≡ link → IsChain now records type link' ms
  chain_stays type link link' ms linked c e = chain_kept b now s.records records heads type link link' ms c e (λ m i.
      let ok = c.linkable m i in
      next_stays m (linkable-in b s.records type m ok) (let l = linkable-long b s.records type m ok in omega arith) (subst (λ (t : ℕ). is_in t linked_types ≡ true) (sym (linkable-type b s.records type m ok)) linked))

  pub attribute_stays : FileSame b now → (a : AttributeShape) → is_linkable b s.records adr_type a.adr ≡ true → HasEntries b s.records a → AttributeFits b a → ((m : ℕ) → In m (attribute_records a) → In m own → ⊥) → AttributeStays b now records a
  attribute_stays file a ok has fits out =
      let tile = linkable-in b s.records adr_type a.adr ok in
      let long : 324 ≤ size_at b a.adr = subst (λ (t : ℕ). fixed_size t ≤ size_at b a.adr) (linkable-type b s.records adr_type a.adr ok) (h.fixed a.adr tile) in
      let adr = stays a.adr tile (out a.adr (inl refl)) in
      let gr = λ (m : ℕ) (i : In m a.gr_entries). stays m (linkable-in b s.records agr_edr_type m (has.gr_chain.linkable m i)) (out m (inr (In-append_left m a.gr_entries a.z_entries i))) in
      let z = λ (m : ℕ) (i : In m a.z_entries). stays m (linkable-in b s.records az_edr_type m (has.z_chain.linkable m i)) (out m (inr (In-append_right m a.gr_entries a.z_entries i))) in (
        record {
          gr_chain = chain_stays agr_edr_type _ _ a.gr_entries refl has.gr_chain (number_kept b now a.adr adr.same adr_agr_edr_head (omega arith));
          z_chain = chain_stays az_edr_type _ _ a.z_entries refl has.z_chain (number_kept b now a.adr adr.same adr_az_edr_head (omega arith));
        },
        attribute_kept b now file a adr long gr z fits,
      )

  pub attributes_stay : FileSame b now → (as_ : List AttributeShape) → Each (λ (a : AttributeShape). is_linkable b s.records adr_type a.adr ≡ true) as_ → Each (HasEntries b s.records) as_ → Each (AttributeFits b) as_ → ((m : ℕ) → In m (flat_map attribute_records as_) → In m own → ⊥) → Each (AttributeStays b now records) as_
  attributes_stay file [] ok has fits out = tt
  attributes_stay file (a ∷ more) ok has fits out = (
    attribute_stays file a ok.0 has.0 fits.0 (λ m i. out m (In-append_left m (attribute_records a) (flat_map attribute_records more) i)),
    attributes_stay file more ok.1 has.1 fits.1 (λ m i. out m (In-append_right m (attribute_records a) (flat_map attribute_records more) i)),
  )

  pub variable_stays : FileSame b now → (v : VariableShape) → In v.vdr s.records → HasVariable b s.records v → VariableFits b s.records v → ((m : ℕ) → In m (variable_records v) → In m own → ⊥) → VariableStays b now records v
  variable_stays file v tile has fits out =
      let nodes = nodes_of v.index in
      let blocks = map (λ (leaf : Leaf). leaf.place) (leaves_of v.index) in
      let vdr = stays v.vdr tile (out v.vdr (inl refl)) in
      let node = λ (m : ℕ) (i : In m nodes). stays m (linkable-in b s.records vxr_type m (nodes_stand b s.records 8 v.index has.indexed.has_nodes m i)) (out m (inr (In-append_left m (nodes ++ blocks) v.cpr (In-append_left m nodes blocks i)))) in
      let stand = blocks_stand b s.records v.vdr (leaves_of v.index) fits.2 in
      let block = λ (m : ℕ) (i : In m blocks). stays m (stand m i) (out m (inr (In-append_left m (nodes ++ blocks) v.cpr (In-append_right m nodes blocks i)))) in
      let compressed = compressed_same b now file v.vdr (but_link b now v.vdr vdr) fits.0 in
      let link = cpr_link_copied file (vdr_kept b now file v.vdr (but_link b now v.vdr vdr) fits.0) in
      let cpr : cpr_of now v.vdr ≡ cpr_of b v.vdr = λ i. if compressed i then link i ∷ [] else [] in (
        record {
          indexed = index_kept b now s.records records heads (number b v.vdr vdr_vxr_head) (number now v.vdr vdr_vxr_head) v.index has.indexed (index_link_copied file (vdr_kept b now file v.vdr (but_link b now v.vdr vdr) fits.0)) node (Each-in (NodeFits b) nodes fits.1) stand;
          packed_by = cpr ∙ has.packed_by;
        },
        variable_kept b now file v (but_link b now v.vdr vdr) fits.0 s.records block fits.2,
      )

  pub variables_stay : FileSame b now → (vs : List VariableShape) → Each (λ (v : VariableShape). In v.vdr s.records) vs → Each (HasVariable b s.records) vs → Each (VariableFits b s.records) vs → ((m : ℕ) → In m (flat_map variable_records vs) → In m own → ⊥) → Each (VariableStays b now records) vs
  variables_stay file [] tile has fits out = tt
  variables_stay file (v ∷ more) tile has fits out = (
    variable_stays file v tile.0 has.0 fits.0 (λ m i. out m (In-append_left m (variable_records v) (flat_map variable_records more) i)),
    variables_stay file more tile.1 has.1 fits.1 (λ m i. out m (In-append_right m (variable_records v) (flat_map variable_records more) i)),
  )

  -- ---- the CDR and the GDR

  pub cdr_long : 312 ≤ size_at b 8
  cdr_long = subst (λ (t : ℕ). fixed_size t ≤ size_at b 8) (is_a-type b s.records cdr_type 8 h.cdr_stands) (h.fixed 8 (is_a-in b s.records cdr_type 8 h.cdr_stands))

  pub gdr_long : 84 ≤ size_at b s.gdr
  gdr_long = subst (λ (t : ℕ). fixed_size t ≤ size_at b s.gdr) (is_a-type b s.records gdr_type s.gdr h.gdr_stands) (h.fixed s.gdr (is_a-in b s.records gdr_type s.gdr h.gdr_stands))

  pub chains_by_links : gdr_offset now ≡ gdr_offset b → number now s.gdr gdr_adr_head ≡ number b s.gdr gdr_adr_head → number now s.gdr gdr_r_vdr_head ≡ number b s.gdr gdr_r_vdr_head
      → number now s.gdr gdr_z_vdr_head ≡ number b s.gdr gdr_z_vdr_head → number now s.gdr gdr_uir_head ≡ number b s.gdr gdr_uir_head → ChainsStay now records s
  chains_by_links g a r z u = record {
    gdr_is = g ∙ h.gdr_is;
    attribute_chain = chain_stays adr_type _ _ (adrs s) refl h.attribute_chain a;
    r_chain = chain_stays r_vdr_type _ _ (vdrs s.r_variables) refl h.r_chain r;
    z_chain = chain_stays z_vdr_type _ _ (vdrs s.z_variables) refl h.z_chain z;
    unused_chain = chain_stays uir_type _ _ s.unused refl h.unused_chain u;
  }

  pub file_same_by : gdr_offset now ≡ gdr_offset b → encoding now ≡ encoding b → r_num_dims now s.gdr ≡ r_num_dims b s.gdr → r_sizes now s.gdr ≡ r_sizes b s.gdr → FileSame b now
  file_same_by g e d z = record {
    longer = change.changed.longer;
    gdr_is = g;
    little = ap little_code e;
    dimensions = ap (r_num_dims now) (g ∙ h.gdr_is) ∙ d ∙ sym (ap (r_num_dims b) h.gdr_is);
    sizes = ap (r_sizes now) (g ∙ h.gdr_is) ∙ z ∙ sym (ap (r_sizes b) h.gdr_is);
  }

  -- where the change is not in them
  module _ (cdr : Kept b now 8) (gdr : Kept b now s.gdr) (room : 84 + 4 * r_num_dims b s.gdr ≤ size_at b s.gdr) where
    offset_same : gdr_offset now ≡ gdr_offset b
    offset_same = number_kept b now 8 cdr.same cdr_gdr_offset (let l = cdr_long in omega arith)

    dimensions_same : r_num_dims now s.gdr ≡ r_num_dims b s.gdr
    dimensions_same = ap counted (integer_kept b now s.gdr gdr.same gdr_r_num_dims (let l = gdr_long in omega arith))

    sizes_same : r_sizes now s.gdr ≡ r_sizes b s.gdr
    sizes_same = ap (words now (s.gdr + 84)) dimensions_same ∙ words_kept b now s.gdr (s.gdr + size_at b s.gdr) gdr.same (s.gdr + 84) (r_num_dims b s.gdr) (omega arith) (inside s.gdr (r_num_dims b s.gdr) (size_at b s.gdr) room)
      where
        inside : (g d n : ℕ) → 84 + 4 * d ≤ n → g + 84 + 4 * d ≤ g + n
        inside g d n r = omega arith

    pub file_same : FileSame b now
    file_same = file_same_by offset_same (number_kept b now 8 cdr.same cdr_encoding (let l = cdr_long in omega arith)) dimensions_same sizes_same

    pub chains_stay : ChainsStay now records s
    chains_stay =
        let head = λ (f : Field) (fits : f.place + f.width ≤ 84). number_kept b now s.gdr gdr.same f (le_through (f.place + f.width) 84 (size_at b s.gdr) fits gdr_long) in
        chains_by_links offset_same (head gdr_adr_head (omega arith)) (head gdr_r_vdr_head (omega arith)) (head gdr_z_vdr_head (omega arith)) (head gdr_uir_head (omega arith))

    pub file_stays : FileStays b now s
    file_stays = record {
      release_is = integer_kept b now 8 cdr.same cdr_release (let l = cdr_long in omega arith);
      increment_is = integer_kept b now 8 cdr.same cdr_increment (let l = cdr_long in omega arith);
      encoding_is = number_kept b now 8 cdr.same cdr_encoding (let l = cdr_long in omega arith);
      flags_are = number_kept b now 8 cdr.same cdr_flags (let l = cdr_long in omega arith);
      sizes_are = sizes_same;
    }
