-- An image whose chains, attributes and variables stay has the old shape, and the old content.
use Rattle.cdf_edits.proofs.Common.{AreTiles, Attribute, AttributeShape, AttributeStays, ChangedWithin, Each, Each-split, FileStays, HasEntries, HasShape, HasVariable, In, IsSound, Leaves, List, Shape, Variable, VariableShape, VariableStays, [], ap₂, attribute_of, cdr_type, content, content_is, content_of, fixed_size, gdr_type, has_bit, is_a, is_a-from, is_a-in, is_a-type, is_record_type, length, majority_of, map, refl, size_at, subst, sym, true, type_at, unused_records, variable_of, variables, with_records, ℕ, ◌∙◌, ◌∷◌, ◌≡◌, ◌≤◌}
use Rattle.cdf_edits.proofs.Frame.LinksStay.{SameHeads}
use Rattle.cdf_edits.proofs.Frame.OwnerAlone.{heads}
use Rattle.cdf_edits.proofs.Frame.OwnersApart.{unused_are_alone, unused_in}

pub has_entries : (b now records : List ℕ) (as_ : List AttributeShape) → Each (AttributeStays b now records) as_ → Each (HasEntries now records) as_
has_entries b now records [] h = tt
has_entries b now records (a ∷ more) h = (h.0.0, has_entries b now records more h.1)

pub same_attributes : (b now records : List ℕ) (as_ : List AttributeShape) → Each (AttributeStays b now records) as_ → map (attribute_of now) as_ ≡ map (attribute_of b) as_
same_attributes b now records [] h = refl
same_attributes b now records (a ∷ more) h = ap₂ (λ (x : Attribute) (xs : List Attribute). x ∷ xs) h.0.1 (same_attributes b now records more h.1)

pub has_variables : (b now records : List ℕ) (vs : List VariableShape) → Each (VariableStays b now records) vs → Each (HasVariable now records) vs
has_variables b now records [] h = tt
has_variables b now records (v ∷ more) h = (h.0.0, has_variables b now records more h.1)

pub same_variables : (b now records : List ℕ) (vs : List VariableShape) → Each (VariableStays b now records) vs → map (variable_of now) vs ≡ map (variable_of b) vs
same_variables b now records [] h = refl
same_variables b now records (v ∷ more) h = ap₂ (λ (x : Variable) (xs : List Variable). x ∷ xs) h.0.1 (same_variables b now records more h.1)

pub content_by : (b now : List ℕ) (s : Shape) (records : List ℕ) → Each (AttributeStays b now records) s.attributes → Each (VariableStays b now records) (variables s) → FileStays b now s → content_of now s ≡ content_of b s
content_by b now s records attributes of_variables file =
    let parts = Each-split (VariableStays b now records) s.r_variables s.z_variables of_variables in
    let a = same_attributes b now records s.attributes attributes in
    let r = same_variables b now records s.r_variables parts.0 in
    let z = same_variables b now records s.z_variables parts.1 in
    let release = file.release_is in
    let increment = file.increment_is in
    let encoding = file.encoding_is in
    let flags = file.flags_are in
    let sizes = file.sizes_are in
    λ i. record {
      release = release i;
      increment = increment i;
      encoding = encoding i;
      majority = majority_of (has_bit (flags i) 0);
      md5 = has_bit (flags i) 2;
      rdims = sizes i;
      attributes = a i;
      r_variables = r i;
      z_variables = z i;
    }

module _ (b now : List ℕ) (s : Shape) (records : List ℕ) (stay : Leaves b now s records s.attributes (variables s)) where
  pub shape_stays : AreTiles now 8 (length now) records → ((m : ℕ) → In m records → is_record_type (type_at now m) ≡ true) → ((m : ℕ) → In m records → fixed_size (type_at now m) ≤ size_at now m)
      → is_a now records cdr_type 8 ≡ true → is_a now records gdr_type s.gdr ≡ true → HasShape now (with_records s records)
  shape_stays tiled typed fixed cdr gdr = let c = stay.chains_stay in record {
    tiled = tiled;
    typed = typed;
    fixed = fixed;
    cdr_stands = cdr;
    gdr_is = c.gdr_is;
    gdr_stands = gdr;
    attribute_chain = c.attribute_chain;
    r_chain = c.r_chain;
    z_chain = c.z_chain;
    unused_chain = c.unused_chain;
    entry_chains = has_entries b now records s.attributes stay.attributes_stay;
    have_variables = has_variables b now records (variables s) stay.variables_stay;
  }

  pub content_stays : FileStays b now s → content_of now (with_records s records) ≡ content_of b s
  content_stays file = content_by b now s records stay.attributes_stay stay.variables_stay file

-- a record of the old image in the new one
pub is_a_kept : (b now records records' : List ℕ) (type place : ℕ) → SameHeads b now records records' → is_a b records type place ≡ true → is_a now records' type place ≡ true
is_a_kept b now records records' type place same e =
    let i = is_a-in b records type place e in
    is_a-from now records' type place (same.sub place i) (same.types place i ∙ is_a-type b records type place e)

module _ (b now : List ℕ) (s : Shape) (h : HasShape b s) (records : List ℕ) (same : SameHeads b now s.records records) where
  pub typed_kept : (m : ℕ) → In m s.records → is_record_type (type_at now m) ≡ true
  typed_kept m i = subst (λ (t : ℕ). is_record_type t ≡ true) (sym (same.types m i)) (h.typed m i)

  pub fixed_kept : (m : ℕ) → In m s.records → fixed_size (type_at now m) ≤ size_at now m
  fixed_kept m i = subst (λ (t : ℕ). fixed_size t ≤ size_at now m) (sym (same.types m i)) (subst (λ (n : ℕ). fixed_size (type_at b m) ≤ n) (sym (same.sizes m i)) (h.fixed m i))

-- a change within unused records leaves the shape and the content
pub unused_shape : (b now : List ℕ) (s : Shape) → IsSound b s → length now ≡ length b → ChangedWithin b now (unused_records b s) → HasShape now s × (content now ≡ content b)
unused_shape b now s sound as_long change =
    let h = sound.has_shape in
    let alone = unused_are_alone b s sound now s.records (λ m i. i) change in
    let same = heads b now (unused_records b s) s h change (unused_in b s sound) s.records (λ m i. i) in
    let tiled : AreTiles now 8 (length now) s.records = subst (λ (n : ℕ). AreTiles now 8 n s.records) (sym as_long) alone.0.tiled in
    let shape : HasShape now s = shape_stays b now s s.records alone.0 tiled (typed_kept b now s h s.records same) (fixed_kept b now s h s.records same) (is_a_kept b now s.records s.records cdr_type 8 same h.cdr_stands) (is_a_kept b now s.records s.records gdr_type s.gdr same h.gdr_stands) in
    (shape, content_is now s shape ∙ content_stays b now s s.records alone.0 alone.1 ∙ sym (content_is b s h))
