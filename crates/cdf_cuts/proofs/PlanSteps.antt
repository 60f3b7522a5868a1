-- What each step adds to a plan.
use Rattle.cdf_cuts.proofs.Common.{Does, Entry, List, NodeCut, NodeLink, Plan, Rewrite, [], ap, append-nil, arith, flat_map, length, link_if, map, map-append, node_told, refl, relinked, step, suc, sym, zero, ℕ, ◌++◌, ◌∙◌, ◌∷◌, ◌≡◌, ◌≢◌, ◌≤◌}

pub links_then : (xs ys : List NodeLink) (prev at : ℕ) → prev ≢ 0 → ys ≡ xs ++ record { place = prev; next = at } ∷ [] → ys ≡ xs ++ flat_map relinked (link_if prev at)
links_then xs ys zero at ne e = absurd (ne refl)
links_then xs ys (suc prev) at ne e = e

pub links_none : (xs ys : List NodeLink) (prev at : ℕ) → prev ≡ 0 → ys ≡ xs → ys ≡ xs ++ flat_map relinked (link_if prev at)
links_none xs ys zero at z e = e ∙ sym (append-nil _)
links_none xs ys (suc prev) at z e = absurd (omega (arith, z))

pub node_stays : {was now : Plan} (prev at room used : ℕ) (kept : List Entry) (n : NodeCut) → 1 ≤ length kept → now.nodes.items ≡ was.nodes.items ++ n ∷ [] → node_told n ≡ record { place = at; room = room; used = used; entries = kept } → now.links.items ≡ was.links.items ++ flat_map relinked (link_if prev at) → now.blocks.items ≡ was.blocks.items → now.emptied.items ≡ was.emptied.items → Does was now (step prev at room used kept)
node_stays prev at room used [] n some nodes told links blocks emptied = absurd (omega arith)
node_stays {was = was} {now = now} zero at room used (w ∷ ws) n some nodes told links blocks emptied = record {
  nodes_are = ap (map node_told) nodes ∙ map-append node_told was.nodes.items (n ∷ []) ∙ ap (λ (r : Rewrite). map node_told was.nodes.items ++ r ∷ []) told;
  links_are = links;
  blocks_are = blocks ∙ sym (append-nil _);
  emptied_are = emptied ∙ sym (append-nil _);
}
node_stays {was = was} {now = now} (suc prev) at room used (w ∷ ws) n some nodes told links blocks emptied = record {
  nodes_are = ap (map node_told) nodes ∙ map-append node_told was.nodes.items (n ∷ []) ∙ ap (λ (r : Rewrite). map node_told was.nodes.items ++ r ∷ []) told;
  links_are = links;
  blocks_are = blocks ∙ sym (append-nil _);
  emptied_are = emptied ∙ sym (append-nil _);
}
