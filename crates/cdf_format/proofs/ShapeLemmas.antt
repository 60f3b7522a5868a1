-- The shape that is computed is the shape of an image, if it has one.
use Rattle.std.proofs.Common.{◌≡◌, ℕ, List, [], ◌∷◌, ◌++◌, length, map, refl, sym, ap, subst, ◌∙◌}
use Rattle.cdf_format.proofs.Common.{number, gdr_offset, gdr_r_vdr_head, gdr_z_vdr_head, gdr_adr_head, gdr_uir_head, adr_agr_edr_head, adr_az_edr_head, vdr_vxr_head, adr_type, agr_edr_type, az_edr_type, r_vdr_type, z_vdr_type, uir_type, Walk, whole, records_of, AreTiles, tiles, IsChain, Nodes, nodes_met, AttributeShape, VariableShape, Shape, adrs, vdrs, Each, HasEntries, HasVariable, HasShape, adr_chain, r_vdr_chain, z_vdr_chain, uir_chain, attribute_shape, variable_shape}
use Rattle.cdf_format.specs.Shape.{shape_in, shape}
use Rattle.cdf_format.specs.Content.{content_of, content}
use Rattle.cdf_format.proofs.TilesLemmas.{tiling_complete}
use Rattle.cdf_format.proofs.ChainsLemmas.{chain_complete}
use Rattle.cdf_format.proofs.IndexLemmas.{index_complete}

attribute_eq : (a : ℕ) (g g' z z' : List ℕ) → g ≡ g' → z ≡ z' → ◌≡◌ {A = AttributeShape} (record { adr = a; gr_entries = g; z_entries = z }) (record { adr = a; gr_entries = g'; z_entries = z' })
attribute_eq a g g' z z' p q = rw (p, q) refl

variable_eq : (v : ℕ) (n n' : Nodes) (c c' : List ℕ) → n ≡ n' → c ≡ c' → ◌≡◌ {A = VariableShape} (record { vdr = v; index = n; cpr = c }) (record { vdr = v; index = n'; cpr = c' })
variable_eq v n n' c c' p q = rw (p, q) refl

shape_eq : (t t' : List ℕ) (g g' : ℕ) (a a' : List AttributeShape) (r r' z z' : List VariableShape) (u u' : List ℕ) → t ≡ t' → g ≡ g' → a ≡ a' → r ≡ r' → z ≡ z' → u ≡ u'
    → ◌≡◌ {A = Shape} (record { records = t; gdr = g; attributes = a; r_variables = r; z_variables = z; unused = u }) (record { records = t'; gdr = g'; attributes = a'; r_variables = r'; z_variables = z'; unused = u' })
shape_eq t t' g g' a a' r r' z z' u u' p q v w x y = rw (p, q, v, w, x, y) refl

module _ (b records : List ℕ) (upto : ℕ) (tiled : AreTiles b 8 upto records) where
  attribute_is : (a : AttributeShape) → HasEntries b records a → attribute_shape b records a.adr ≡ a
  attribute_is a h = attribute_eq a.adr _ a.gr_entries _ a.z_entries
      (ap records_of (chain_complete b records upto agr_edr_type a.adr adr_agr_edr_head a.gr_entries tiled h.gr_chain))
      (ap records_of (chain_complete b records upto az_edr_type a.adr adr_az_edr_head a.z_entries tiled h.z_chain))

  pub attributes_are : (as_ : List AttributeShape) → Each (HasEntries b records) as_ → map (attribute_shape b records) (map (λ a. a.adr) as_) ≡ as_
  attributes_are [] h = refl
  attributes_are (a ∷ more) h = let here = attribute_is a h.0 in let rest = attributes_are more h.1 in rw (here, rest) refl

  variable_is : (v : VariableShape) → HasVariable b records v → variable_shape b records v.vdr ≡ v
  variable_is v h = variable_eq v.vdr _ v.index _ v.cpr (ap nodes_met (index_complete b records upto v.vdr vdr_vxr_head v.index tiled h.indexed)) h.packed_by

  pub variables_are : (vs : List VariableShape) → Each (HasVariable b records) vs → map (variable_shape b records) (vdrs vs) ≡ vs
  variables_are [] h = refl
  variables_are (v ∷ more) h = let here = variable_is v h.0 in let rest = variables_are more h.1 in rw (here, rest) refl

pub Each-split : {A : Type 0} (P : A → Type 0) (xs ys : List A) → Each P (xs ++ ys) → Each P xs × Each P ys
Each-split P [] ys h = (tt, h)
Each-split P (x ∷ xs) ys h = let r = Each-split P xs ys h.1 in ((h.0, r.0), r.1)

pub Each-append : {A : Type 0} (P : A → Type 0) (xs ys : List A) → Each P xs → Each P ys → Each P (xs ++ ys)
Each-append P [] ys h k = k
Each-append P (x ∷ xs) ys h k = (h.0, Each-append P xs ys h.1 k)

-- the chains of an image with a shape are computed
module _ (b : List ℕ) (s : Shape) (h : HasShape b s) where
  pub tiles_are : tiles b ≡ s.records
  tiles_are = ap records_of (tiling_complete b s.records h.tiled)

  link_same : (f : ℕ → ℕ) → f s.gdr ≡ f (gdr_offset b)
  link_same f = ap f (sym h.gdr_is)

  pub adr_chain_is : adr_chain b s.records ≡ whole (adrs s)
  adr_chain_is = chain_complete b s.records (length b) adr_type (gdr_offset b) gdr_adr_head (adrs s) h.tiled (subst (λ (g : ℕ). IsChain b s.records adr_type (number b g gdr_adr_head) (adrs s)) (sym h.gdr_is) h.attribute_chain)

  pub r_vdr_chain_is : r_vdr_chain b s.records ≡ whole (vdrs s.r_variables)
  r_vdr_chain_is = chain_complete b s.records (length b) r_vdr_type (gdr_offset b) gdr_r_vdr_head (vdrs s.r_variables) h.tiled (subst (λ (g : ℕ). IsChain b s.records r_vdr_type (number b g gdr_r_vdr_head) (vdrs s.r_variables)) (sym h.gdr_is) h.r_chain)

  pub z_vdr_chain_is : z_vdr_chain b s.records ≡ whole (vdrs s.z_variables)
  z_vdr_chain_is = chain_complete b s.records (length b) z_vdr_type (gdr_offset b) gdr_z_vdr_head (vdrs s.z_variables) h.tiled (subst (λ (g : ℕ). IsChain b s.records z_vdr_type (number b g gdr_z_vdr_head) (vdrs s.z_variables)) (sym h.gdr_is) h.z_chain)

  pub uir_chain_is : uir_chain b s.records ≡ whole s.unused
  uir_chain_is = chain_complete b s.records (length b) uir_type (gdr_offset b) gdr_uir_head s.unused h.tiled (subst (λ (g : ℕ). IsChain b s.records uir_type (number b g gdr_uir_head) s.unused) (sym h.gdr_is) h.unused_chain)

  shape_in_is : shape_in b s.records ≡ s
  shape_in_is =
      let vs = Each-split (HasVariable b s.records) s.r_variables s.z_variables h.have_variables in
      shape_eq s.records s.records (gdr_offset b) s.gdr _ s.attributes _ s.r_variables _ s.z_variables _ s.unused refl h.gdr_is
      (ap (λ (w : Walk). map (attribute_shape b s.records) (records_of w)) adr_chain_is ∙ attributes_are b s.records (length b) h.tiled s.attributes h.entry_chains)
      (ap (λ (w : Walk). map (variable_shape b s.records) (records_of w)) r_vdr_chain_is ∙ variables_are b s.records (length b) h.tiled s.r_variables vs.0)
      (ap (λ (w : Walk). map (variable_shape b s.records) (records_of w)) z_vdr_chain_is ∙ variables_are b s.records (length b) h.tiled s.z_variables vs.1)
      (ap records_of uir_chain_is)

  pub shape_is : shape b ≡ s
  unfolding shape
  shape_is = ap (shape_in b) tiles_are ∙ shape_in_is

  pub content_is : content b ≡ content_of b s
  unfolding content
  content_is = ap (content_of b) shape_is

-- an image has one shape, and so one meaning
pub only_shape : (b : List ℕ) (s s' : Shape) → HasShape b s → HasShape b s' → s ≡ s'
only_shape b s s' h k = sym (shape_is b s h) ∙ shape_is b s' k

pub only_content : (b : List ℕ) (s s' : Shape) → HasShape b s → HasShape b s' → content_of b s ≡ content_of b s'
only_content b s s' h k = sym (content_is b s h) ∙ content_is b s' k
