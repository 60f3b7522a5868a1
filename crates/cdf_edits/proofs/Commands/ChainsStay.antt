-- A chain whose head and links stay, by the allowances of a command, has the same records.
use Rattle.cdf_edits.proofs.Common.{Act, AllKeep, Allowance, Allowances, Anything, AreTiles, AttributeShape, Bool, Field, HasShape, In, IsChain, Keeps, Kind, List, OneAttribute, OneVariable, Only, OutsideFields, Owner, R, Shape, Unused, VariableShape, Z, [], adr_type, adrs, and_parts, ap, arith, attribute_records, byte, cdr_gdr_offset, cdr_type, false, gdr_adr_head, gdr_offset, gdr_r_vdr_head, gdr_type, gdr_z_vdr_head, if◌then◌else◌, inl, inr, is_a-in, is_a-type, le_of, leads_unique, length, linkable-in, linkable-long, linkable-type, list_all, map, nat_le, ne_eqb, next_field, next_of, number, or_cases, owned, owned_by, owned_by_attributes, owned_by_variables, r_vdr_type, shapes_of, size_at, some_place, subst, suc, sym, true, type_at, unused_records, variable_records, vdr_type, vdrs, word_kept, z_vdr_type, ℕ, ◌++◌, ◌+◌, ◌-◌, ◌<◌, ◌==◌, ◌∙◌, ◌∷◌, ◌≡◌, ◌≤◌}
use Rattle.std.proofs.Common.{◌||◌}
use Rattle.cdf_edits.proofs.Edits.StepEdits.{fixed_long, gdr_long, gdr_typed}
use Rattle.cdf_edits.proofs.Frame.LinksStay.{leads_same}

-- ---- a field that stays

-- two fields have no byte in common
abbrev pub are_apart : Field → Field → Bool
are_apart f g = nat_le (f.place + f.width) g.place || nat_le (g.place + g.width) f.place

-- a record keeps its place and this field
abbrev pub spares : Field → Allowance → Bool
spares f Anything = false
spares f (Only fields) = list_all (are_apart f) fields

outside : (f : Field) (fields : List Field) → list_all (are_apart f) fields ≡ true → (i : ℕ) → f.place ≤ i → i < f.place + f.width → OutsideFields fields i
outside f [] e i low high = tt
outside f (g ∷ fields) e i low high =
    let p = and_parts (are_apart f g) (list_all (are_apart f) fields) e in (
      elim (or_cases (nat_le (f.place + f.width) g.place) (nat_le (g.place + g.width) f.place) p.0) [
        | inl q ↦ let before = le_of (f.place + f.width) g.place q in inl (omega arith)
        | inr q ↦ let behind = le_of (g.place + g.width) f.place q in inr (omega arith)
      ],
      outside f fields p.1 i low high,
    )

pub kept_number : (b now : List ℕ) (place : ℕ) (f : Field) (a : Allowance) → Keeps b now place a → spares f a ≡ true → f.place + f.width ≤ size_at b place → number now place f ≡ number b place f
kept_number b now place f Anything keeps spared fits = absurd cc
kept_number b now place f (Only fields) keeps spared fits =
    word_kept b now (place + f.place) (place + (f.place + f.width)) (record { each = here }) (place + f.place) f.width (omega arith) (omega arith)
  where
    here : (i : ℕ) → place + f.place ≤ i → i < place + (f.place + f.width) → byte now i ≡ byte b i
    here i low high =
        let at : place + (i - place) ≡ i = omega arith in
        subst (λ (x : ℕ). byte now x ≡ byte b x) at (keeps.same (i - place) (omega arith) (outside f fields spared (i - place) (omega arith) (omega arith)))

-- ---- a chain that stays

same_chain : (b now ts ts' : List ℕ) (upto upto' type : ℕ) (link link' : ℕ) (ms ms' : List ℕ) → AreTiles b 8 upto ts → AreTiles now 8 upto' ts' → IsChain b ts type link ms → IsChain now ts' type link' ms' → link' ≡ link
    → ((m : ℕ) → In m ms → next_of now m ≡ next_of b m) → ms' ≡ ms
same_chain b now ts ts' upto upto' type link link' ms ms' tiled tiled' c c' same nexts =
    let own : IsChain now ts' type link ms' = subst (λ (x : ℕ). IsChain now ts' type x ms') same c' in
    sym (leads_unique now link ms ms' (leads_same b now link ms 0 c.leads nexts) own.leads
    (λ m i. some_place b ts upto m tiled (linkable-in b ts type m (c.linkable m i)))
    (λ m i. some_place now ts' upto' m tiled' (linkable-in now ts' type m (own.linkable m i))))

-- a command leaves what leads to the attributes and from one to the next
pub record SparesAttributes (b : List ℕ) (may : Allowances) : Type 0 where
  pub offset : spares cdr_gdr_offset may.cdr ≡ true
  pub head : spares gdr_adr_head may.gdr ≡ true
  pub links : (n place : ℕ) → type_at b place ≡ adr_type → spares next_field (may.attributes n place) ≡ true

-- the same of the variables
pub record SparesVariables (b : List ℕ) (may : Allowances) : Type 0 where
  pub offset : spares cdr_gdr_offset may.cdr ≡ true
  pub r_head : spares gdr_r_vdr_head may.gdr ≡ true
  pub z_head : spares gdr_z_vdr_head may.gdr ≡ true
  pub links : (kind : Kind) (n place : ℕ) → type_at b place ≡ vdr_type kind → spares next_field (may.variables kind n place) ≡ true

module _ (b now : List ℕ) (may : Allowances) (acts : List Act) where
  pub AllKeep-split : (xs ys : List (ℕ × Owner)) → AllKeep b now may acts (xs ++ ys) → AllKeep b now may acts xs × AllKeep b now may acts ys
  AllKeep-split [] ys p = (tt, p)
  AllKeep-split ((place, owner) ∷ xs) ys p = let rest = AllKeep-split xs ys p.1 in ((p.0, rest.0), rest.1)

  next_kept : (place m : ℕ) (a : Allowance) → m ≡ place → Keeps b now place a → (type_at b place ≡ type_at b m → spares next_field a ≡ true) → 28 ≤ size_at b m → next_of now m ≡ next_of b m
  next_kept place m a e keeps spared long =
      let wide : 28 ≤ size_at b place = subst (λ (x : ℕ). 28 ≤ size_at b x) e long in
      subst (λ (x : ℕ). next_of now x ≡ next_of b x) (sym e) (kept_number b now place next_field a keeps (spared (ap (type_at b) (sym e))) (omega arith))

  adr_next : (n : ℕ) (as_ : List AttributeShape) → AllKeep b now may acts (owned_by_attributes n as_) → ((n place : ℕ) → type_at b place ≡ adr_type → spares next_field (may.attributes n place) ≡ true)
      → (m : ℕ) → In m (map (λ (a : AttributeShape). a.adr) as_) → type_at b m ≡ adr_type → 28 ≤ size_at b m → next_of now m ≡ next_of b m
  adr_next n [] keeps spared m i typed long = absurd i
  adr_next n (a ∷ more) keeps spared m (inl e) typed long = next_kept a.adr m (may.attributes n a.adr) e keeps.0 (λ same. spared n a.adr (same ∙ typed)) long
  adr_next n (a ∷ more) keeps spared m (inr i) typed long = adr_next (suc n) more (AllKeep-split (owned_by (OneAttribute n) (attribute_records a)) (owned_by_attributes (suc n) more) keeps).1 spared m i typed long

  vdr_next : (kind : Kind) (n : ℕ) (vs : List VariableShape) → AllKeep b now may acts (owned_by_variables kind n vs) → ((n place : ℕ) → type_at b place ≡ vdr_type kind → spares next_field (may.variables kind n place) ≡ true)
      → (m : ℕ) → In m (vdrs vs) → type_at b m ≡ vdr_type kind → 28 ≤ size_at b m → next_of now m ≡ next_of b m
  vdr_next kind n [] keeps spared m i typed long = absurd i
  vdr_next kind n (v ∷ more) keeps spared m (inl e) typed long = next_kept v.vdr m (may.variables kind n v.vdr) e keeps.0 (λ same. spared n v.vdr (same ∙ typed)) long
  vdr_next kind n (v ∷ more) keeps spared m (inr i) typed long = vdr_next kind (suc n) more (AllKeep-split (owned_by (OneVariable kind n) (variable_records v)) (owned_by_variables kind (suc n) more) keeps).1 spared m i typed long

  module _ (s s' : Shape) (h : HasShape b s) (h' : HasShape now s') (keeps : AllKeep b now may acts (owned b s)) where
    not_cdr : (s.gdr == 8) ≡ false
    not_cdr = ne_eqb s.gdr 8 (λ e. clash (sym (is_a-type b s.records cdr_type 8 h.cdr_stands) ∙ ap (type_at b) (sym e) ∙ gdr_typed b s h))
      where
        clash : cdr_type ≡ gdr_type → ⊥
        clash e = absurd (omega arith)

    gdr_keeps : Keeps b now s.gdr may.gdr
    gdr_keeps = subst (λ (p : Bool). Keeps b now s.gdr (if p then may.cdr else may.gdr)) not_cdr keeps.1.0

    head_same : (f : Field) → f.place + f.width ≤ 84 → spares cdr_gdr_offset may.cdr ≡ true → spares f may.gdr ≡ true → number now s'.gdr f ≡ number b s.gdr f
    head_same f fits offset head =
        let long = fixed_long b s h cdr_type 8 (is_a-in b s.records cdr_type 8 h.cdr_stands) (is_a-type b s.records cdr_type 8 h.cdr_stands) in
        let wide = gdr_long b s h in
        let same : gdr_offset now ≡ gdr_offset b = kept_number b now 8 cdr_gdr_offset may.cdr keeps.0 offset (omega arith) in
        let place : s'.gdr ≡ s.gdr = sym h'.gdr_is ∙ same ∙ h.gdr_is in
        ap (λ (x : ℕ). number now x f) place ∙ kept_number b now s.gdr f may.gdr gdr_keeps head (omega arith)

    abbrev of_attributes : List (ℕ × Owner)
    of_attributes = owned_by_attributes 0 s.attributes

    abbrev of_variables : Kind → List (ℕ × Owner)
    of_variables kind = owned_by_variables kind 0 (shapes_of s kind)

    pub adrs_stay : SparesAttributes b may → adrs s' ≡ adrs s
    adrs_stay spared =
        let all = AllKeep-split ((of_attributes ++ of_variables R) ++ of_variables Z) (owned_by Unused (unused_records b s)) keeps.1.1 in
        let own = AllKeep-split of_attributes (of_variables R) (AllKeep-split (of_attributes ++ of_variables R) (of_variables Z) all.0).0 in
        let c = h.attribute_chain in
        same_chain b now s.records s'.records (length b) (length now) adr_type _ _ (adrs s) (adrs s') h.tiled h'.tiled c h'.attribute_chain (head_same gdr_adr_head (omega arith) spared.offset spared.head)
        (λ m i. adr_next 0 s.attributes own.0 spared.links m i (linkable-type b s.records adr_type m (c.linkable m i)) (linkable-long b s.records adr_type m (c.linkable m i)))

    pub vdrs_stay : SparesVariables b may → (kind : Kind) → vdrs (shapes_of s' kind) ≡ vdrs (shapes_of s kind)
    vdrs_stay spared R =
        let all = AllKeep-split ((of_attributes ++ of_variables R) ++ of_variables Z) (owned_by Unused (unused_records b s)) keeps.1.1 in
        let own = AllKeep-split of_attributes (of_variables R) (AllKeep-split (of_attributes ++ of_variables R) (of_variables Z) all.0).0 in
        let c = h.r_chain in
        same_chain b now s.records s'.records (length b) (length now) r_vdr_type _ _ (vdrs s.r_variables) (vdrs s'.r_variables) h.tiled h'.tiled c h'.r_chain (head_same gdr_r_vdr_head (omega arith) spared.offset spared.r_head)
        (λ m i. vdr_next R 0 s.r_variables own.1 (spared.links R) m i (linkable-type b s.records r_vdr_type m (c.linkable m i)) (linkable-long b s.records r_vdr_type m (c.linkable m i)))
    vdrs_stay spared Z =
        let all = AllKeep-split ((of_attributes ++ of_variables R) ++ of_variables Z) (owned_by Unused (unused_records b s)) keeps.1.1 in
        let own = AllKeep-split (of_attributes ++ of_variables R) (of_variables Z) all.0 in
        let c = h.z_chain in
        same_chain b now s.records s'.records (length b) (length now) z_vdr_type _ _ (vdrs s.z_variables) (vdrs s'.z_variables) h.tiled h'.tiled c h'.z_chain (head_same gdr_z_vdr_head (omega arith) spared.offset spared.z_head)
        (λ m i. vdr_next Z 0 s.z_variables own.1 (spared.links Z) m i (linkable-type b s.records z_vdr_type m (c.linkable m i)) (linkable-long b s.records z_vdr_type m (c.linkable m i)))
