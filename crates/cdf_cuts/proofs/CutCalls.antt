-- What a good image gives for the calls by which the index of one of its variables is cut, and what they come to.
use Rattle.cdf_cuts.proofs.Common.{AreTiles, Bool, Distinct, Does, Each, Entry, Left, discarded, released, stands_in, true, whole_in, ◌++◌, HasIndex, List, MayRelink, MayRewrite, None, Nodes, NodeLink, Option, Plan, Relinked, Rewritten, SomeChain, Span, Stands, [], ap, arith, flat_map, found_in, index_at, length, link_places, link_to, map, node_told, number, plan_of, freed_of, relinked, rewrite_places, rewritten, subst, sym, tiles, ℕ, ◌+◌, ◌<◌, ◌^◌, ◌∙◌, ◌∷◌, ◌≡◌, ◌≤◌, image_limit}
use Rattle.cdf_edits.proofs.Common.{AllGiven, AreFree, Good, IsSound, Kind, LiesIn, VariableShape, good_by_its_shape, good_is_sound, shape, vdr_vxr_head, vdr_vxr_tail, tiles_are}
use Rattle.cdf_edits.proofs.Edits.Common.{StandsAmong, name_room}
use Rattle.cdf_format.proofs.GoodImageLemmas.{good_image}
use Rattle.cdf_format.proofs.TilesLemmas.{tiling_complete}
use Rattle.cdf_format.specs.Walks.{records_of}
use Rattle.cdf_index.proofs.Ascending.{index_stands}
use Rattle.cdf_index.proofs.ChainWalk.{whole_chain}
use Rattle.cdf_index.proofs.GoodIndex.{good_index}
use Rattle.cdf_index.proofs.OneVariable.{among_all}
use Rattle.cdf_cuts.specs.Cut.{IsCut, heads_led, link_found}
use Rattle.cdf_cuts.specs.Linking.{IsLinked}
use Rattle.cdf_cuts.proofs.CutDone.{is_linked, may_all, once_all}
use Rattle.cdf_cuts.proofs.CutLinked.{left_free, linked_sound}

module _ (b : List ℕ) (good : Good b) {kind : Kind} {before : List VariableShape} {own : VariableShape} {after : List VariableShape} {vdr : ℕ} (among : StandsAmong b kind before own after) (is : own.vdr ≡ vdr) where
  pub index_is : HasIndex b (number b vdr vdr_vxr_head) × (index_at b (number b vdr vdr_vxr_head) ≡ own.index)
  index_is =
      let at = among_all b kind before own after among.was in
      subst (λ (m : ℕ). HasIndex b (number b m vdr_vxr_head) × (index_at b (number b m vdr_vxr_head) ≡ own.index)) is (good_index b (shape b) at.front own at.rest (good_image b (shape b) (good_by_its_shape b good)) (good_is_sound b good) at.all)

  pub tiles_of : tiles b ≡ (shape b).records
  tiles_of = tiles_are b (shape b) (good_is_sound b good).has_shape

  pub tiled_b : AreTiles b 8 (length b) (tiles b)
  tiled_b = rw tiles_of (good_is_sound b good).has_shape.tiled

  -- what was planned
  pub record Planned (span : Span) (plan : Plan) : Type 0 where
    pub nodes : map node_told plan.nodes.items ≡ flat_map rewritten (plan_of span 0 own.index)
    pub links : plan.links.items ≡ flat_map relinked (plan_of span 0 own.index)
    pub blocks : plan.blocks.items ≡ flat_map released (plan_of span 0 own.index)
    pub emptied : plan.emptied.items ≡ flat_map discarded (plan_of span 0 own.index)

  pub planned : (span : Span) {was plan : Plan} {head : ℕ} → head ≡ number b vdr vdr_vxr_head → was.nodes.items ≡ [] → was.links.items ≡ [] → was.blocks.items ≡ [] → was.emptied.items ≡ [] → ((chain : Nodes) → Stands b 8 chain → head ≡ link_to chain → Does was plan (plan_of span 0 chain)) → Planned span plan
  planned span {was = was} {plan = plan} h n l f g told =
      let ix = index_is in
      let does = told (index_at b (number b vdr vdr_vxr_head)) (index_stands b (number b vdr vdr_vxr_head) ix.0) (h ∙ ix.0.index.link_is) in
      let of = subst (λ (x : Nodes). Does was plan (plan_of span 0 x)) ix.1 does in
      record { nodes = rw n at of.nodes_are; links = rw l at of.links_are; blocks = rw f at of.blocks_are; emptied = rw g at of.emptied_are }

  pub found_there : (span : Span) {found : Option Entry} {head : ℕ} → head ≡ number b vdr vdr_vxr_head → ((chain : Nodes) → Stands b 8 chain → head ≡ link_to chain → found ≡ found_in span None chain) → found ≡ found_in span None own.index
  found_there span {found = found} h told =
      let ix = index_is in
      subst (λ (x : Nodes). found ≡ found_in span None x) ix.1 (told (index_at b (number b vdr vdr_vxr_head)) (index_stands b (number b vdr vdr_vxr_head) ix.0) (h ∙ ix.0.index.link_is))

  pub last_there : (span : Span) {last head : ℕ} → head ≡ number b vdr vdr_vxr_head → ((chain : Nodes) → Stands b 8 chain → head ≡ link_to chain → last ≡ stands_in span 0 chain) → last ≡ stands_in span 0 own.index
  last_there span {last = last} h told =
      let ix = index_is in
      subst (λ (x : Nodes). last ≡ stands_in span 0 x) ix.1 (told (index_at b (number b vdr vdr_vxr_head)) (index_stands b (number b vdr vdr_vxr_head) ix.0) (h ∙ ix.0.index.link_is))

  pub whole_there : (span : Span) {whole : Bool} {head : ℕ} → head ≡ number b vdr vdr_vxr_head → ((chain : Nodes) → Stands b 8 chain → head ≡ link_to chain → whole ≡ whole_in span true chain) → whole ≡ whole_in span true own.index
  whole_there span {whole = whole} h told =
      let ix = index_is in
      subst (λ (x : Nodes). whole ≡ whole_in span true x) ix.1 (told (index_at b (number b vdr vdr_vxr_head)) (index_stands b (number b vdr vdr_vxr_head) ix.0) (h ∙ ix.0.index.link_is))

  -- what the top chain keeps
  pub record Leads (span : Span) (left : Left) : Type 0 where
    pub found : left.found ≡ found_in span None own.index
    pub last : left.prev ≡ stands_in span 0 own.index
    pub whole : left.whole ≡ whole_in span true own.index

  pub leads : (span : Span) {left : Left} {head : ℕ} → head ≡ number b vdr vdr_vxr_head → ((chain : Nodes) → Stands b 8 chain → head ≡ link_to chain → left.found ≡ found_in span None chain) → ((chain : Nodes) → Stands b 8 chain → head ≡ link_to chain → left.prev ≡ stands_in span 0 chain)
      → ((chain : Nodes) → Stands b 8 chain → head ≡ link_to chain → left.whole ≡ whole_in span true chain) → Leads span left
  leads span h f l w = record { found = found_there span h f; last = last_there span h l; whole = whole_there span h w }

  -- the nodes may be written
  pub head_lies : vdr + 340 ≤ length b
  head_lies = omega (arith, name_room good among, is)

  pub chain_there : SomeChain b 8 (number b vdr vdr_vxr_head)
  chain_there = whole_chain b (number b vdr vdr_vxr_head) index_is.0

  pub may_rewrite : (span : Span) (plan : Plan) → length b ≤ image_limit → Planned span plan → Each (MayRewrite b (tiles b)) (map node_told plan.nodes.items) × Distinct (rewrite_places (map node_told plan.nodes.items))
  may_rewrite span plan short p = rw (p.nodes, tiles_of) ((may_all span good among (omega (arith, short))).0, (once_all span good among).0)

  module _ {span : Span} {plan : Plan} {written : List ℕ} (short : length b ≤ image_limit) (p : Planned span plan) (w : Rewritten b written (tiles b) (map node_told plan.nodes.items)) where
    pub written_ : Rewritten b written (shape b).records (flat_map rewritten (plan_of span 0 own.index))
    written_ = rw (p.nodes, tiles_of) at w

    pub tiles_written : tiles written ≡ (shape b).records
    tiles_written = ap records_of (tiling_complete written (shape b).records written_.tiled)

    pub tiled_written : AreTiles written 8 (length written) (tiles written)
    tiled_written = rw tiles_written written_.tiled

    pub may_relink : Each (MayRelink written (tiles written)) plan.links.items × Distinct (link_places plan.links.items)
    may_relink =
        let may = (may_all span good among (omega (arith, short))).1 in
        rw (p.links, tiles_written) (each_link (flat_map relinked (plan_of span 0 own.index)) may, (once_all span good among).1)
      where
        each_link : (xs : List NodeLink) → Each (MayRelink b (shape b).records) xs → Each (MayRelink written (shape b).records) xs
        each_link [] e = tt
        each_link (l ∷ xs) e = ((e.0.0, omega (arith, e.0.1, written_.heads.sizes l.place e.0.0), e.0.2), each_link xs e.1)

    pub vdr_lies : {joined : List ℕ} → Relinked written joined (tiles written) plan.links.items → LiesIn joined vdr vdr_vxr_head
    vdr_lies j = omega (arith, head_lies, j.as_long, w.as_long)

    pub tail_lies : {joined : List ℕ} → Relinked written joined (tiles written) plan.links.items → LiesIn joined vdr vdr_vxr_tail
    tail_lies j = omega (arith, head_lies, j.as_long, w.as_long)

    module _ {joined linked : List ℕ} {left : Left} (j : Relinked written joined (tiles written) plan.links.items) (f : Leads span left) (small : link_found left.found < 256 ^ 8) (small_last : left.prev < 256 ^ 8) (e : linked ≡ heads_led joined vdr left) where
      pub all_linked : IsLinked b linked kind own span
      all_linked =
          is_linked span good among written_ (rw (p.links, tiles_written) at j) (e ∙ (λ i. heads_led joined (sym is i) (record { found = f.found i; prev = f.last i; whole = f.whole i }))) (rw f.found at small) (rw f.last at small_last) (may_all span good among (omega (arith, short))).0

      freed_is : {freed : List ℕ} → freed ≡ plan.blocks.items ++ plan.emptied.items → freed ≡ freed_of (plan_of span 0 own.index)
      freed_is q = q ∙ (λ i. p.blocks i ++ p.emptied i)

      pub cut_done : {now : List ℕ} {freed : List ℕ} → freed ≡ plan.blocks.items ++ plan.emptied.items → AllGiven linked now freed → IsCut b now kind own span
      cut_done q given = record { linked = linked; is_linked = all_linked; given = rw (freed_is q) at given }

      pub sound_then : span.first ≤ span.last → IsSound linked (shape linked)
      sound_then o = linked_sound good among all_linked o

      pub free_then : {freed : List ℕ} → freed ≡ plan.blocks.items ++ plan.emptied.items → AreFree linked freed
      free_then q = rw (freed_is q) (left_free good among all_linked)
