-- A change within the CDR, the GDR and unused records leaves a sound image sound.
use Rattle.cdf_edits.proofs.Common.{AttributeFits, AttributeShape, Bool, Each, EntryFits, In, In-append_left, In-append_right, Leaf, LeafFits, List, NodeFits, Shape, VariableFits, VariableShape, [], ap, attribute_records, block_in, cond, cpr_type, cvvr_type, filter, flat_map, inl, inr, is_a, is_a-in, is_block, is_in, is_in-true, leaves_of, map, nodes_of, refl, size_at, sym, true, type_at, uir_type, unused_records, variable_records, vdr_end, vvr_type, ℕ, ◌++◌, ◌==◌, ◌∙◌, ◌∷◌, ◌≡◌, ◌≤◌}
use Rattle.std.proofs.Common.{◌&&◌, ◌||◌}
use Rattle.cdf_edits.proofs.Frame.Meaning.{FileSame, Kept, KeptButLink, but_link, entry_fits_kept}
use Rattle.cdf_edits.proofs.Frame.VdrCopied.{block_fits_copied}
use Rattle.cdf_edits.proofs.Frame.VdrKept.{vdr_kept, end_kept}
use Rattle.cdf_edits.proofs.Frame.LinksStay.{SameHeads, node_fits_kept}

module _ (b now : List ℕ) (records records' : List ℕ) (file : FileSame b now) (same : SameHeads b now records records') where
  entries_fit_kept : (es : List ℕ) → ((m : ℕ) → In m es → Kept b now m) → Each (EntryFits b) es → Each (EntryFits now) es
  entries_fit_kept [] k fits = tt
  entries_fit_kept (e ∷ es) k fits = (entry_fits_kept b now file e (k e (inl refl)) fits.0, entries_fit_kept es (λ m i. k m (inr i)) fits.1)

  pub attributes_fit_kept : (as_ : List AttributeShape) → ((m : ℕ) → In m (flat_map attribute_records as_) → Kept b now m) → Each (AttributeFits b) as_ → Each (AttributeFits now) as_
  attributes_fit_kept [] k fits = tt
  attributes_fit_kept (a ∷ more) k fits =
      let mine = λ (m : ℕ) (i : In m (attribute_records a)). k m (In-append_left m (attribute_records a) (flat_map attribute_records more) i) in (
        (
          entries_fit_kept a.gr_entries (λ m i. mine m (inr (In-append_left m a.gr_entries a.z_entries i))) fits.0.0,
          entries_fit_kept a.z_entries (λ m i. mine m (inr (In-append_right m a.gr_entries a.z_entries i))) fits.0.1,
        ),
        attributes_fit_kept more (λ m i. k m (In-append_right m (attribute_records a) (flat_map attribute_records more) i)) fits.1,
      )

  is_a_same : (type place : ℕ) → In place records → is_a now records' type place ≡ is_a b records type place
  is_a_same type place i =
      let there : is_in place records' ≡ is_in place records = is_in-true place records' (same.sub place i) ∙ sym (is_in-true place records i) in
      let t = same.types place i in
      λ k. there k && (t k == type)

  pub block_kept : (place : ℕ) → is_block b records place ≡ true → is_block now records' place ≡ true
  block_kept place e =
      let i = block_in b records place e in
      let p = is_a_same vvr_type place i in
      let q = is_a_same cvvr_type place i in
      (λ k. p k || q k) ∙ e

  pub nodes_fit_kept : (ms : List ℕ) → ((m : ℕ) → In m ms → Kept b now m) → Each (NodeFits b) ms → Each (NodeFits now) ms
  nodes_fit_kept [] k fits = tt
  nodes_fit_kept (m ∷ ms) k fits = (node_fits_kept b now records records' same m (k m (inl refl)) fits.0, nodes_fit_kept ms (λ x i. k x (inr i)) fits.1)

  pub leaves_fit_kept : (vdr : ℕ) → KeptButLink b now vdr → vdr_end b vdr ≤ size_at b vdr → (leaves : List Leaf) → ((m : ℕ) → In m (map (λ (leaf : Leaf). leaf.place) leaves) → Kept b now m) → Each (LeafFits b records vdr) leaves → Each (LeafFits now records' vdr) leaves
  leaves_fit_kept vdr kv end [] k fits = tt
  leaves_fit_kept vdr kv end (leaf ∷ more) k fits =
      ((block_kept leaf.place fits.0.0, block_fits_copied file (vdr_kept b now file vdr kv end) leaf leaf.packed (k leaf.place (inl refl)) fits.0.1), leaves_fit_kept vdr kv end more (λ m i. k m (inr i)) fits.1)

  pub cprs_kept : (cs : List ℕ) → Each (λ cpr. is_a b records cpr_type cpr ≡ true) cs → Each (λ cpr. is_a now records' cpr_type cpr ≡ true) cs
  cprs_kept [] h = tt
  cprs_kept (c ∷ cs) h = (is_a_same cpr_type c (is_a-in b records cpr_type c h.0) ∙ h.0, cprs_kept cs h.1)

  pub variables_fit_kept : (vs : List VariableShape) → ((m : ℕ) → In m (flat_map variable_records vs) → Kept b now m) → Each (VariableFits b records) vs → Each (VariableFits now records') vs
  variables_fit_kept [] k fits = tt
  variables_fit_kept (v ∷ more) k fits =
      let nodes = nodes_of v.index in
      let blocks = map (λ (leaf : Leaf). leaf.place) (leaves_of v.index) in
      let mine = λ (m : ℕ) (i : In m (variable_records v)). k m (In-append_left m (variable_records v) (flat_map variable_records more) i) in
      let vdr = mine v.vdr (inl refl) in (
        (
          end_kept b now file v.vdr (but_link b now v.vdr vdr) fits.0.0,
          nodes_fit_kept nodes (λ m i. mine m (inr (In-append_left m (nodes ++ blocks) v.cpr (In-append_left m nodes blocks i)))) fits.0.1,
          leaves_fit_kept v.vdr (but_link b now v.vdr vdr) fits.0.0 (leaves_of v.index) (λ m i. mine m (inr (In-append_left m (nodes ++ blocks) v.cpr (In-append_right m nodes blocks i)))) fits.0.2,
          cprs_kept v.cpr fits.0.3,
        ),
        variables_fit_kept more (λ m i. k m (In-append_right m (variable_records v) (flat_map variable_records more) i)) fits.1,
      )

pub filter_same : (p q : ℕ → Bool) (xs : List ℕ) → ((x : ℕ) → In x xs → p x ≡ q x) → filter p xs ≡ filter q xs
filter_same p q [] h = refl
filter_same p q (x ∷ xs) h =
    let here = h x (inl refl) in
    let rest = filter_same p q xs (λ y i. h y (inr i)) in
    λ i. cond (here i) (x ∷ rest i) (rest i)

-- the same types, the same unused records
pub unused_kept : (b now : List ℕ) (s : Shape) → ((m : ℕ) → In m s.records → type_at now m ≡ type_at b m) → unused_records now s ≡ unused_records b s
unused_kept b now s types = filter_same (λ m. type_at now m == uir_type) (λ m. type_at b m == uir_type) s.records (λ m i. ap (λ (t : ℕ). t == uir_type) (types m i))
