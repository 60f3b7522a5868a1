-- What an edit leaves: decided by the types of its marks.
use Rattle.cdf_edits.proofs.Common.{AttributeShape, Avoids, Away, Bool, Edit, Field, FileStays, HasShape, HasVariable, In, In-append_left, In-append_right, IsChain, IsSound, Leads, List, Mark, NodeFits, Same, Same-part, Shape, VariableFits, VariableShape, VariableStays, [], ap, arith, avoided, both, cast_signed, cdr_encoding, cdr_flags, cdr_gdr_offset, cdr_increment, cdr_release, cdr_type, counted, cpr_link, cpr_of, encoding, ended, gdr_offset, gdr_type, if◌then◌else◌, inl, inr, integer_kept, is_a-in, is_a-type, is_compressed, keeps_file, leaves_of, length, linkable-from, linkable-in, linkable-long, linkable-type, next_field, next_kept, nodes_of, number, number_kept, r_num_dims, refl, r_sizes, size_at, size_kept, subst, sym, tile_lies, true, type_at, type_kept, unmarked, variable_records, vdr_vxr_head, w32, word_kept, words, words_kept, ℕ, ◌&&◌, ◌*◌, ◌++◌, ◌+◌, ◌∙◌, ◌∷◌, ◌≡◌, ◌≤◌}
use Rattle.cdf_edits.proofs.Frame.OwnerAlone.{Each-in, little_code}
use Rattle.cdf_edits.proofs.Frame.Meaning.{FileSame, Kept, KeptButLink, late_size, late_type}
use Rattle.cdf_edits.proofs.Frame.VdrCopied.{cpr_link_copied, index_link_copied}
use Rattle.cdf_edits.proofs.Frame.VdrKept.{vdr_kept, variable_kept, compressed_same}
use Rattle.cdf_edits.proofs.Frame.LinksStay.{SameHeads, leads_same, index_kept}
use Rattle.cdf_edits.proofs.Edits.Composing.{head_size, head_type}
use Rattle.cdf_edits.proofs.Edits.InRecords.{places_of, index_both}
use Rattle.cdf_edits.proofs.Edits.MarkLemmas.{avoided-avoids, ended-avoids, unmarked-away, away-avoids, Avoids-part}
use Rattle.cdf_edits.proofs.Edits.StepEdits.{gdr_in, gdr_typed, gdr_long, fixed_long}

-- an attribute stays but for the link to the next one
pub record AttributeLives (b now : List ℕ) (a : AttributeShape) : Type 0 where
  pub adr : KeptButLink b now a.adr
  pub entries : (m : ℕ) → In m (a.gr_entries ++ a.z_entries) → Kept b now m

-- what is behind the VDR of a variable
abbrev pub index_records : VariableShape → List ℕ
index_records v = nodes_of v.index ++ places_of (leaves_of v.index) ++ v.cpr

-- the parameters of a variable that is compressed
pub cpr_own : {b records : List ℕ} {v : VariableShape} → HasVariable b records v → is_compressed b v.vdr ≡ true → In (cpr_link b v.vdr) v.cpr
cpr_own {b = b} {v = v} has c = subst (In (cpr_link b v.vdr)) (ap (λ (p : Bool). if p then cpr_link b v.vdr ∷ [] else []) (sym c) ∙ has.packed_by) (inl refl)

-- a variable stays but for the link to the next one
pub record VariableLives (b now : List ℕ) (v : VariableShape) : Type 0 where
  pub vdr : KeptButLink b now v.vdr
  pub behind : (m : ℕ) → In m (index_records v) → Kept b now m

pub through : (x y z : ℕ) → x ≤ y → y ≤ z → x ≤ z
through x y z p q = omega arith

-- ---- records and chains, whatever else an image has

module _ {b now old new : List ℕ} {marks : List Mark} {reborn : List ℕ} (e : Edit b now old new marks reborn) where
  pub part_clear : (m type lo hi : ℕ) → In m old → type_at b m ≡ type → avoided marks type 0 12 ≡ true → avoided marks type lo hi ≡ true → hi ≤ size_at b m → Same b now (m + lo) (m + hi)
  part_clear m type lo hi i is heads a fits = e.part m type lo hi i is (avoided-avoids marks type m 0 12 heads) (avoided-avoids marks type m lo hi a) fits

  pub field_avoids : (m type : ℕ) (f : Field) → In m old → type_at b m ≡ type → Avoids marks type m 0 12 → Avoids marks type m f.place (f.place + f.width) → f.place + f.width ≤ size_at b m → number now m f ≡ number b m f
  field_avoids m type f i is heads a fits = word_kept b now (m + f.place) (m + (f.place + f.width)) (e.part m type f.place (f.place + f.width) i is heads a fits) (m + f.place) f.width (omega arith) (omega arith)

  pub field_clear : (m type : ℕ) (f : Field) → In m old → type_at b m ≡ type → avoided marks type 0 12 ≡ true → avoided marks type f.place (f.place + f.width) ≡ true → f.place + f.width ≤ size_at b m → number now m f ≡ number b m f
  field_clear m type f i is heads a fits = field_avoids m type f i is (avoided-avoids marks type m 0 12 heads) (avoided-avoids marks type m f.place (f.place + f.width) a) fits

  pub kept_away : (m type : ℕ) → In m old → type_at b m ≡ type → Away marks type m → Kept b now m
  kept_away m type i is away =
      let l = tile_lies b 8 (length b) old m e.tiled i in
      let all = e.part m type 0 (size_at b m) i is (away-avoids marks type m 0 12 away) (away-avoids marks type m 0 (size_at b m) away) (omega arith) in
      record { same = Same-part b now (m + 0) (m + size_at b m) m (m + size_at b m) all (omega arith) (omega arith); inside = l.high; long = l.long }

  pub kept : (m type : ℕ) → In m old → type_at b m ≡ type → unmarked marks type ≡ true → Kept b now m
  kept m type i is none = kept_away m type i is (unmarked-away marks type m none)

  pub kept_but_link : (m type : ℕ) → In m old → type_at b m ≡ type → Avoids marks type m 0 12 → Avoids marks type m 20 (size_at b m) → KeptButLink b now m
  kept_but_link m type i is heads rest =
      let l = tile_lies b 8 (length b) old m e.tiled i in
      record { start = e.part m type 0 12 i is heads heads l.long; rest = e.part m type 20 (size_at b m) i is heads rest (omega arith); inside = l.high; long = l.long }

  -- ---- chains

  pub chain_stays : (type link link' : ℕ) (ms : List ℕ) → IsChain b old type link ms → link' ≡ link → ((m : ℕ) → In m ms → Avoids marks type m 0 20) → IsChain now new type link' ms
  chain_stays type link link' ms c same avoids = record {
    leads = subst (λ (x : ℕ). Leads now x ms 0) (sym same) (leads_same b now link ms 0 c.leads (λ m i.
        let ok = c.linkable m i in
        let long = linkable-long b old type m ok in
        field_avoids m type next_field (linkable-in b old type m ok) (linkable-type b old type m ok) (Avoids-part marks type m 0 20 0 12 (avoids m i) (omega arith) (omega arith)) (Avoids-part marks type m 0 20 12 20 (avoids m i) (omega arith) (omega arith)) (omega arith)));
    linkable = λ m i.
        let ok = c.linkable m i in
        let inside = linkable-in b old type m ok in
        let is = linkable-type b old type m ok in
        let heads = Avoids-part marks type m 0 20 0 12 (avoids m i) (omega arith) (omega arith) in
        let start = e.part m type 0 12 inside is heads heads (tile_lies b 8 (length b) old m e.tiled inside).long in
        linkable-from now new type m (e.sub m inside) (head_type b now m start ∙ is) (subst (λ (n : ℕ). 28 ≤ n) (sym (head_size b now m start)) (linkable-long b old type m ok));
    once = c.once;
  }

  pub chain_clear : (type link link' : ℕ) (ms : List ℕ) → IsChain b old type link ms → link' ≡ link → avoided marks type 0 20 ≡ true → IsChain now new type link' ms
  chain_clear type link link' ms c same clear = chain_stays type link link' ms c same (λ m i. avoided-avoids marks type m 0 20 clear)

  -- a chain of records that are kept
  pub chain_kept : (type link link' : ℕ) (ms : List ℕ) → IsChain b old type link ms → link' ≡ link → ((m : ℕ) → In m ms → Kept b now m) → IsChain now new type link' ms
  chain_kept type link link' ms c same k = record {
    leads = subst (λ (x : ℕ). Leads now x ms 0) (sym same) (leads_same b now link ms 0 c.leads (λ m i. next_kept b now m (k m i).same (let l = linkable-long b old type m (c.linkable m i) in omega arith)));
    linkable = λ m i.
        let ok = c.linkable m i in
        let km = k m i in
        linkable-from now new type m (e.sub m (linkable-in b old type m ok)) (type_kept b now m km.same km.long ∙ linkable-type b old type m ok) (subst (λ (n : ℕ). 28 ≤ n) (sym (size_kept b now m km.same (let l = km.long in omega arith))) (linkable-long b old type m ok));
    once = c.once;
  }

-- ---- what a sound image has

module _ {b now : List ℕ} {s : Shape} {new : List ℕ} {marks : List Mark} {reborn : List ℕ} (sound : IsSound b s) (e : Edit b now s.records new marks reborn) where
  h : HasShape b s
  h = sound.has_shape

  -- ---- what the CDR and the GDR say

  module _ (clear : keeps_file marks ≡ true) where
    clear_cdr : (unmarked marks cdr_type ≡ true) × ((avoided marks gdr_type 0 12 && (avoided marks gdr_type 56 60 && ended marks gdr_type 84)) ≡ true)
    clear_cdr = both (unmarked marks cdr_type) (avoided marks gdr_type 0 12 && (avoided marks gdr_type 56 60 && ended marks gdr_type 84)) clear

    pub gdr_start : avoided marks gdr_type 0 12 ≡ true
    gdr_start = (both (avoided marks gdr_type 0 12) (avoided marks gdr_type 56 60 && ended marks gdr_type 84) clear_cdr.1).0

    clear_rest : (avoided marks gdr_type 56 60 ≡ true) × (ended marks gdr_type 84 ≡ true)
    clear_rest = both (avoided marks gdr_type 56 60) (ended marks gdr_type 84) (both (avoided marks gdr_type 0 12) (avoided marks gdr_type 56 60 && ended marks gdr_type 84) clear_cdr.1).1

    pub cdr_kept : Kept b now 8
    cdr_kept = kept e 8 cdr_type (is_a-in b s.records cdr_type 8 h.cdr_stands) (is_a-type b s.records cdr_type 8 h.cdr_stands) clear_cdr.0

    pub cdr_long : 312 ≤ size_at b 8
    cdr_long = fixed_long b s h cdr_type 8 (is_a-in b s.records cdr_type 8 h.cdr_stands) (is_a-type b s.records cdr_type 8 h.cdr_stands)

    pub gdr_part : (lo hi : ℕ) → avoided marks gdr_type lo hi ≡ true → hi ≤ size_at b s.gdr → Same b now (s.gdr + lo) (s.gdr + hi)
    gdr_part lo hi a fits = part_clear e s.gdr gdr_type lo hi (gdr_in b s h) (gdr_typed b s h) gdr_start a fits

    pub gdr_field : (f : Field) → avoided marks gdr_type f.place (f.place + f.width) ≡ true → f.place + f.width ≤ 84 → number now s.gdr f ≡ number b s.gdr f
    gdr_field f a fits = field_clear e s.gdr gdr_type f (gdr_in b s h) (gdr_typed b s h) gdr_start a (let l = gdr_long b s h in omega arith)

    pub offset_same : gdr_offset now ≡ gdr_offset b
    offset_same = number_kept b now 8 cdr_kept.same cdr_gdr_offset (let l = cdr_long in omega arith)

    pub gdr_place : gdr_offset now ≡ s.gdr
    gdr_place = offset_same ∙ h.gdr_is

    encoding_same : encoding now ≡ encoding b
    encoding_same = number_kept b now 8 cdr_kept.same cdr_encoding (let l = cdr_long in omega arith)

    pub gdr_dimensions : Same b now (s.gdr + 56) (s.gdr + 60)
    gdr_dimensions = gdr_part 56 60 clear_rest.0 (let l = gdr_long b s h in omega arith)

    pub dimensions_same : r_num_dims now s.gdr ≡ r_num_dims b s.gdr
    dimensions_same = ap (λ (n : ℕ). counted (cast_signed w32 n)) (word_kept b now (s.gdr + 56) (s.gdr + 60) gdr_dimensions (s.gdr + 56) 4 (omega arith) (omega arith))

    pub gdr_sizes : Same b now (s.gdr + 84) (s.gdr + (84 + 4 * r_num_dims b s.gdr))
    gdr_sizes =
        let d = r_num_dims b s.gdr in
        e.part s.gdr gdr_type 84 (84 + 4 * d) (gdr_in b s h) (gdr_typed b s h) (avoided-avoids marks gdr_type s.gdr 0 12 gdr_start) (ended-avoids marks gdr_type s.gdr 84 (84 + 4 * d) clear_rest.1) sound.gdr_fits

    sizes_same : r_sizes now s.gdr ≡ r_sizes b s.gdr
    sizes_same =
        let d = r_num_dims b s.gdr in
        ap (words now (s.gdr + 84)) dimensions_same ∙ words_kept b now (s.gdr + 84) (s.gdr + (84 + 4 * d)) gdr_sizes (s.gdr + 84) d (omega arith) (room s.gdr d)
      where
        room : (g d : ℕ) → g + 84 + 4 * d ≤ g + (84 + 4 * d)
        room g d = omega arith

    pub file_same : FileSame b now
    file_same = record {
      longer = e.longer;
      gdr_is = offset_same;
      little = ap little_code encoding_same;
      dimensions = ap (r_num_dims now) gdr_place ∙ dimensions_same ∙ sym (ap (r_num_dims b) h.gdr_is);
      sizes = ap (r_sizes now) gdr_place ∙ sizes_same ∙ sym (ap (r_sizes b) h.gdr_is);
    }

    pub file_stays : FileStays b now s
    file_stays = record {
      release_is = integer_kept b now 8 cdr_kept.same cdr_release (let l = cdr_long in omega arith);
      increment_is = integer_kept b now 8 cdr_kept.same cdr_increment (let l = cdr_long in omega arith);
      encoding_is = encoding_same;
      flags_are = number_kept b now 8 cdr_kept.same cdr_flags (let l = cdr_long in omega arith);
      sizes_are = sizes_same;
    }

  -- ---- a variable

  module _ (v : VariableShape) (file : FileSame b now) (has : HasVariable b s.records v) (fits : VariableFits b s.records v) (stand : (m : ℕ) → In m (variable_records v) → In m s.records) (lives : VariableLives b now v) where
    abbrev own : List ℕ
    own = variable_records v

    pub node_own : (m : ℕ) → In m (nodes_of v.index) → In m (index_records v)
    node_own m i = In-append_left m (nodes_of v.index ++ places_of (leaves_of v.index)) v.cpr (In-append_left m (nodes_of v.index) (places_of (leaves_of v.index)) i)

    pub block_own : (m : ℕ) → In m (places_of (leaves_of v.index)) → In m (index_records v)
    block_own m i = In-append_left m (nodes_of v.index ++ places_of (leaves_of v.index)) v.cpr (In-append_right m (nodes_of v.index) (places_of (leaves_of v.index)) i)

    pub own_heads : (records : List ℕ) → ((m : ℕ) → In m own → In m records) → SameHeads b now own records
    own_heads records sub = record {
      sizes = λ m i. elim i [ inl q ↦ subst (λ (x : ℕ). size_at now x ≡ size_at b x) (sym q) (late_size b now v.vdr lives.vdr) | inr j ↦ let k = lives.behind m j in size_kept b now m k.same (let l = k.long in omega arith) ];
      types = λ m i. elim i [ inl q ↦ subst (λ (x : ℕ). type_at now x ≡ type_at b x) (sym q) (late_type b now v.vdr lives.vdr) | inr j ↦ let k = lives.behind m j in type_kept b now m k.same k.long ];
      sub = sub;
    }

    own_in : (m : ℕ) → In m own → In m new
    own_in m i = e.sub m (stand m i)

    pub variable_stays : VariableStays b now new v
    variable_stays =
        let compressed = compressed_same b now file v.vdr lives.vdr fits.0 in
        let link = cpr_link_copied file (vdr_kept b now file v.vdr lives.vdr fits.0) in
        let cpr : cpr_of now v.vdr ≡ cpr_of b v.vdr = λ i. if compressed i then link i ∷ [] else [] in
        let index = index_both b s.records own (number b v.vdr vdr_vxr_head) v.index (λ m i. (stand m (inr (node_own m i)), inr (node_own m i))) (λ m i. (stand m (inr (block_own m i)), inr (block_own m i))) has.indexed in (
          record {
            indexed = index_kept b now own new (own_heads new own_in) (number b v.vdr vdr_vxr_head) (number now v.vdr vdr_vxr_head) v.index index (index_link_copied file (vdr_kept b now file v.vdr lives.vdr fits.0))
                (λ m i. lives.behind m (node_own m i)) (Each-in (NodeFits b) (nodes_of v.index) fits.1) (λ m i. inr (block_own m i));
            packed_by = cpr ∙ has.packed_by;
          },
          variable_kept b now file v lives.vdr fits.0 s.records (λ m i. lives.behind m (block_own m i)) fits.2,
        )
