-- An index but for where its blocks stand has the same leaves, by their records.
use Rattle.cdf_edits.proofs.Common.{Entries, Leaf, List, Nodes, Range, [], ap, block, inl, inr, lower, map, map-append, no_entry, no_node, node, range, refl, sym, ℕ, ◌++◌, ◌∙◌, ◌∷◌, ◌≡◌}
unfoldable use Rattle.cdf_edits.proofs.Common.{entry_leaves, leaves_of}
use Rattle.cdf_edits.proofs.Edits.LeafPieces.{IsOneOf}
unfoldable use Rattle.cdf_edits.specs.Index.Grown.{entries_outline, outline}

abbrev pub ranges : List Leaf → List Range
ranges leaves = map (λ (l : Leaf). range l.first l.last) leaves

both : (xs ys xs' ys' : List Leaf) → ranges xs ≡ ranges xs' → ranges ys ≡ ranges ys' → ranges (xs ++ ys) ≡ ranges (xs' ++ ys')
both xs ys xs' ys' p q = map-append (λ (l : Leaf). range l.first l.last) xs ys ∙ (λ i. p i ++ q i) ∙ sym (map-append (λ (l : Leaf). range l.first l.last) xs' ys')

mutual
  unfolding outline entries_outline leaves_of entry_leaves

  pub ranges_stay : (news : List ℕ) (ns : Nodes) → ranges (leaves_of (outline news ns)) ≡ ranges (leaves_of ns)
  ranges_stay news no_node = refl
  ranges_stay news (node place room es more) = both (entry_leaves (entries_outline news es)) (leaves_of (outline news more)) (entry_leaves es) (leaves_of more) (ranges_stay_below news es) (ranges_stay news more)

  ranges_stay_below : (news : List ℕ) (es : Entries) → ranges (entry_leaves (entries_outline news es)) ≡ ranges (entry_leaves es)
  ranges_stay_below news no_entry = refl
  ranges_stay_below news (block f l place packed es) = ap (λ (rs : List Range). range f l ∷ rs) (ranges_stay_below news es)
  ranges_stay_below news (lower f l ns es) = both (leaves_of (outline news ns)) (entry_leaves (entries_outline news es)) (leaves_of ns) (entry_leaves es) (ranges_stay news ns) (ranges_stay_below news es)

-- of two lists of leaves with the same records, one of the first is one of the second but for its place
pub same_ranges : (xs ys : List Leaf) → ranges xs ≡ ranges ys → (x : Leaf) → IsOneOf xs x → (y : Leaf) × (IsOneOf ys y × (range x.first x.last ≡ range y.first y.last))
same_ranges [] ys e x i = absurd i
same_ranges (x' ∷ xs) [] e x i = absurd cc
same_ranges (x' ∷ xs) (y' ∷ ys) e x (inl q) = let r : range x'.first x'.last ≡ range y'.first y'.last = cc in (y', (inl refl, ap (λ (z : Leaf). range z.first z.last) (sym q) ∙ r))
same_ranges (x' ∷ xs) (y' ∷ ys) e x (inr i) = let more : ranges xs ≡ ranges ys = cc in let r = same_ranges xs ys more x i in (r.0, (inr r.1.0, r.1.1))
