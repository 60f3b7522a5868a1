-- Each node of a plan may be written, and what is written is what was planned.
use Rattle.cdf_cuts.proofs.Common.{Done, Doing, Each, Each-append, Each-split, Entries, Entry, HasNodes, In, List, MayRelink, MayRewrite, Names, NodeFits, NodeLink, NodeSays, Nodes, Range, SaysNode, Span, [], arith, block, cut_words, dropped, entry_count, flat_map, flat_map-append, kept_by, link_if, linkable-in, linkable-type, linkable-long, lower, lower_nodes, next_of, no_entry, no_node, node, nodes_of, plan_below, plan_of, range, relink, release, discard, relinked, rewrite, rewrite_one, rewritten, refl, size_at, stands_after, step, subst, suc, sym, vxr_type, zero, ℕ, ◌++◌, ◌<◌, ◌^◌, ◌∷◌, ◌≡◌, ◌≢◌, ◌≤◌}
use Rattle.cdf_cuts.proofs.PlanPlaces.{words_few}

-- ---- what was planned is done

pub done_all : (now : List ℕ) (steps : List Doing) → Each (NodeSays now) (flat_map rewritten steps) → Each (λ (l : NodeLink). next_of now l.place ≡ l.next) (flat_map relinked steps) → Each (Done now) steps
done_all now [] n l = tt
done_all now (rewrite r ∷ more) n l = (n.0, done_all now more n.1 l)
done_all now (relink place next ∷ more) n l = (l.0, done_all now more n l.1)
done_all now (release place ∷ more) n l = (tt, done_all now more n l)
done_all now (discard place ∷ more) n l = (tt, done_all now more n l)

-- ---- it may be done

module _ (b records : List ℕ) (span : Span) (small : (m : ℕ) → In m records → m < 256 ^ 8) where
  abbrev Fine : List Doing → Type 0
  Fine steps = Each (MayRewrite b records) (flat_map rewritten steps) × Each (MayRelink b records) (flat_map relinked steps)

  fine_both : (xs ys : List Doing) → Fine xs → Fine ys → Fine (xs ++ ys)
  fine_both xs ys p q = (
    subst (Each (MayRewrite b records)) (sym (flat_map-append rewritten xs ys)) (Each-append (MayRewrite b records) (flat_map rewritten xs) (flat_map rewritten ys) p.0 q.0),
    subst (Each (MayRelink b records)) (sym (flat_map-append relinked xs ys)) (Each-append (MayRelink b records) (flat_map relinked xs) (flat_map relinked ys) p.1 q.1),
  )

  -- the node behind which others follow, if there is one
  abbrev Behind : ℕ → Type 0
  Behind prev = prev ≢ 0 → In prev records × (28 ≤ size_at b prev)

  fine_link : (prev place : ℕ) → Behind prev → place < 256 ^ 8 → Fine (link_if prev place)
  fine_link zero place h s = (tt, tt)
  fine_link (suc prev) place h s = (let x = h (λ e. absurd (omega (arith, e))) in (tt, ((x.0, x.1, s), tt)))

  fine_step : (prev place room used : ℕ) (ws : List Entry) → Behind prev → MayRewrite b records (record { place = place; room = room; used = used; entries = ws }) → Fine (step prev place room used ws)
  fine_step prev place room used [] h may = (tt, tt)
  fine_step prev place room used (w ∷ ws) h may = fine_both (link_if prev place) (rewrite_one place room used (w ∷ ws)) (fine_link prev place h (small place may.there)) ((may, tt), tt)

  fine_dropped : (rs : List Range) (place : ℕ) → Fine (dropped rs place)
  fine_dropped [] place = (tt, tt)
  fine_dropped (r ∷ rest) place = (tt, tt)

  behind_now : (prev place : ℕ) (ws : List Entry) → Behind prev → Behind place → Behind (stands_after prev place ws)
  behind_now prev place [] h g = h
  behind_now prev place (w ∷ ws) h g = g

  node_may : (place room levels : ℕ) (es : Entries) (more : Nodes) → SaysNode b records place room es more → NodeFits b place → MayRewrite b records (record { place = place; room = room; used = entry_count es; entries = cut_words span es })
  node_may place room levels es more says fits = record {
    there = linkable-in b records vxr_type place says.linkable;
    typed = linkable-type b records vxr_type place says.linkable;
    fits = fits;
    room_is = sym says.room_is;
    used_is = sym says.used_is;
    few = words_few span es;
  }

  mutual
    unfolding HasNodes Names nodes_of lower_nodes plan_of plan_below

    pub plan_fine : (levels prev : ℕ) (ns : Nodes) → HasNodes b records levels ns → Each (NodeFits b) (nodes_of ns) → Behind prev → Fine (plan_of span prev ns)
    plan_fine levels prev no_node h fits behind = fine_link prev 0 behind (omega arith)
    plan_fine zero prev (node place room es more) h fits behind = absurd h
    plan_fine (suc levels) prev (node place room es more) h fits behind =
        let ws = cut_words span es in
        let here = step prev place room (entry_count es) ws in
        let on = plan_of span (stands_after prev place ws) more in
        let parts = Each-split (NodeFits b) (lower_nodes es) (nodes_of more) fits.1 in
        let may = node_may place room levels es more h.0 fits.0 in
        let stands : Behind place = λ ne. (may.there, linkable-long b records vxr_type place h.0.linkable) in
        fine_both (plan_below span es) (here ++ on) (below_fine levels es h.1 parts.0)
        (fine_both here on (fine_step prev place room (entry_count es) ws behind may) (plan_fine (suc levels) (stands_after prev place ws) more h.2 parts.1 (behind_now prev place ws behind stands)))

    pub below_fine : (levels : ℕ) (es : Entries) → Names b records levels es → Each (NodeFits b) (lower_nodes es) → Fine (plan_below span es)
    below_fine levels no_entry h fits = (tt, tt)
    below_fine levels (block first last place packed es) h fits = fine_both (dropped (kept_by span (range first last)) place) (plan_below span es) (fine_dropped (kept_by span (range first last)) place) (below_fine levels es h.2 fits)
    below_fine levels (lower first last nodes es) h fits =
        let parts = Each-split (NodeFits b) (nodes_of nodes) (lower_nodes es) fits in
        fine_both (plan_of span 0 nodes) (plan_below span es) (plan_fine levels 0 nodes h.1 parts.0 (λ ne. absurd (ne refl))) (below_fine levels es h.2 parts.1)
