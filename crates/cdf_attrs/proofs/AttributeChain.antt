-- The chain of the attributes, as an image with a shape has it.
use Rattle.cdf_attrs.proofs.Common.{AttributeShape, Attrs, EntryKind, HasChain, HasShape, In, IsChain, IsOfAttribute, LiesIn, List, Shape, Stands, [], adr_chain_is, adr_name, adr_type, adrs, ap, arith, attribute_names, attribute_names_are, chain, content, entries_chain, fixed_size, gdr_adr_head, gdr_offset, got-middle, inl, inr, length, length-le_from_distinct, length-map, length_tiles, linkable-in, linkable-type, members_of, number, refl, shape, size_at, slice_get, stands_at, subst, suc, sym, tile_lies, tiles, tiles_are, zero, ℕ, ◌+◌, ◌<◌, ◌∙◌, ◌∷◌, ◌≡◌, ◌≤◌}
use Rattle.std.proofs.Common.{slice_index}
use Rattle.cdf_format.specs.Walks.{records_of}

module _ (b : List ℕ) (s : Shape) (h : HasShape b s) where
  pub attribute_members : members_of b Attrs ≡ adrs s
  attribute_members = ap (λ (ts : List ℕ). records_of (chain b ts adr_type (gdr_offset b) gdr_adr_head)) (tiles_are b s h) ∙ ap records_of (adr_chain_is b s h)

  pub has_attribute_chain : HasChain b Attrs
  has_attribute_chain =
      let own : IsChain b s.records adr_type (number b s.gdr gdr_adr_head) (adrs s) = h.attribute_chain in
      let at : IsChain b s.records adr_type (number b (gdr_offset b) gdr_adr_head) (adrs s) = subst (λ (g : ℕ). IsChain b s.records adr_type (number b g gdr_adr_head) (adrs s)) (sym h.gdr_is) own in
      let tiled : IsChain b (tiles b) adr_type (number b (gdr_offset b) gdr_adr_head) (adrs s) = subst (λ (ts : List ℕ). IsChain b ts adr_type (number b (gdr_offset b) gdr_adr_head) (adrs s)) (sym (tiles_are b s h)) at in
      subst (IsChain b (tiles b) adr_type (number b (gdr_offset b) gdr_adr_head)) (sym attribute_members) tiled

  -- an ADR has room for its Name, and its bytes lie in the image
  pub adr_inside : (m : ℕ) → In m (adrs s) → m + 324 ≤ length b
  adr_inside m i =
      let ok = h.attribute_chain.linkable m i in
      let tile = linkable-in b s.records adr_type m ok in
      let long : 324 ≤ size_at b m = subst (λ (t : ℕ). fixed_size t ≤ size_at b m) (linkable-type b s.records adr_type m ok) (h.fixed m tile) in
      let high = (tile_lies b 8 (length b) s.records m h.tiled tile).high in
      omega arith

  -- so does its Name in an image that is the same
  pub name_lies : (now : List ℕ) (m : ℕ) → In m (adrs s) → now ≡ b → LiesIn now m adr_name
  name_lies now m i e = let l = adr_inside m i in let n : length now ≡ length b = ap length e in omega arith

  -- there are fewer attributes than bytes
  pub few_attributes : length (adrs s) + 8 ≤ length b
  few_attributes =
      let l = length-le_from_distinct (adrs s) s.records h.attribute_chain.once (λ m i. linkable-in b s.records adr_type m (h.attribute_chain.linkable m i)) in
      let t = length_tiles b 8 (length b) s.records h.tiled in
      omega arith

  pub names_count : (names : List (List ℕ)) → names ≡ attribute_names (content b) → length names ≡ length (adrs s)
  names_count names e = ap length (e ∙ attribute_names_are b s h) ∙ length-map (adrs s) _

-- the one at a number of a list
pub index_in : (xs : List ℕ) (n : ℕ) → n < length xs → In (slice_index xs n) xs
index_in [] n lt = absurd (omega arith)
index_in (x ∷ xs) zero lt = inl refl
index_in (x ∷ xs) (suc n) lt = inr (index_in xs n (omega arith))

-- the attribute of an ADR
module _ (b : List ℕ) (adr : ℕ) (there : In adr (adrs (shape b))) where
  abbrev pub adr_parts : Stands (shape b).attributes adr
  adr_parts = stands_at (shape b).attributes adr there

  abbrev pub of_attribute : (kind : EntryKind) → IsOfAttribute b (entries_chain kind adr)
  of_attribute kind = record { number = length adr_parts.fronts; own = adr_parts.own; stands = ap (λ (as_ : List AttributeShape). slice_get as_ (length adr_parts.fronts)) adr_parts.is ∙ got-middle adr_parts.fronts adr_parts.own adr_parts.after; kind = kind; chain_is = ap (entries_chain kind) (sym adr_parts.adr_is) }
