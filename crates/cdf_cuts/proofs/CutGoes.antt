-- The index of a variable was cut: the image goes on to the one that is left, in which the nodes, VXRtail and what is freed are as commands ask for.
use Rattle.cdf_cuts.proofs.Common.{Each, In, Kept, Leaf, List, NodeFits, Nodes, Rewrite, NodeLink, MayRelink, MayRewrite, Span, cases_lt, cvvr_type, places_of, Touch, [], ap, arith, false, flat_map, freed_of, if◌then◌else◌, image_limit, inl, inr, leaves_of, length, link_places, link_touches, linkable-in, linkable-type, nodes_of, number, plan_of, refl, relinked, rewrite_places, rewrite_touches, rewritten, room_at, size_at, subst, sym, true, type_at, used_count, vxr_type, ℕ, ◌*◌, ◌++◌, ◌+◌, ◌<◌, ◌∙◌, ◌∷◌, ◌≡◌, ◌≢◌, ◌≤◌}
use Rattle.std.proofs.Common.{bytes_eq}
use Rattle.cdf_edits.proofs.Common.{AllGiven, Avoids, Field, Away, FreedStay, Good, HasShape, Kind, Mark, Misses, Only, Placed, R, Same, Same-part, Shape, Stays, VariableShape, Within, Z, avoided, gave, gdr_type, is_in, is_in-true, le-leb, nat_le, type_in, variables_chain, vvr_type, links_end, lt-leb, no_fields, record_number_limit, shape, space_fields, uir_next_uir, uir_prev_uir, uir_type, vdr_max_rec, vdr_vxr_tail, within, word_kept}
use Rattle.cdf_edits.proofs.Edits.Common.{Frees, StandsAmong, apart, freed_bytes, freed_long, freed_records, gdr_in, gdr_typed, has, in-times, no_block, others_kept, sound, through, tile, times-in, typed, long, fits}
use Rattle.cdf_edits.proofs.Edits.ActsThen.{taken-gave}
use Rattle.cdf_edits.proofs.Edits.OwnersKept.{keeps_away, keeps_fields, keeps_within}
use Rattle.cdf_edits.specs.Commands.Allowances.{r_max_rec_field}
use Rattle.cdf_edits.specs.Commands.GreatestRecord.{r_max_rec}
use Rattle.cdf_edits.specs.Edits.ManyMarks.{freeing_marks}
use Rattle.cdf_edits.specs.Index.Written.{EntryIs, NodesFollow, NodeSpareStays, UnusedEntries, last_node, top_chain, was_unused}
use Rattle.cdf_edits.specs.Space.Acts.{Act, taken}
use Rattle.cdf_edits.proofs.Frame.ChangedBytes.{changed_part}
use Rattle.cdf_edits.proofs.Edits.IndexEdited as of_index
use Rattle.cdf_edits.proofs.Edits.OwnEdited as of_own
use Rattle.cdf_edits.proofs.Edits.VariableCopied.{block_behind}
use Rattle.cdf_index.proofs.Common.{Each-in, behind_in, nodes_stand, Avoids-append, Away-append, Within-append, away-avoids, away-within, unmarked-away}
use Rattle.cdf_index.proofs.NewIndex.{block_kept, index_marks, index_unmarked, vdr_no_node}
use Rattle.cdf_index.proofs.OneNode.{SameNode, same_node}
use Rattle.cdf_index.proofs.OwnRecords.{block_type}
use Rattle.cdf_index.specs.Order.{InOrder}
use Rattle.cdf_puts.proofs.GoesThen.{goes_by}
use Rattle.cdf_puts.specs.Going.{GoesOn}
use Rattle.cdf_cuts.proofs.ChainKept.{last_is, whole_is}
use Rattle.cdf_cuts.proofs.CutDone.{each_from, may_all}
use Rattle.cdf_cuts.proofs.CutFreed.{acts, block_left, cut_marks, edit, frees, good_now, kept_used, max_kept, stays_used, types, vdr_apart, whole}
use Rattle.cdf_cuts.proofs.CutLinked.{freed_in, freed_own, heads}
use Rattle.cdf_cuts.proofs.KeptLeaf.{IsPlainOrWhole}
use Rattle.cdf_cuts.proofs.Rewriting.{kept_then}
use Rattle.cdf_cuts.proofs.CutWords.{cut}
use Rattle.cdf_cuts.proofs.PlanPlaces.{links_stay, plan_places, rewrites_stay}
use Rattle.cdf_cuts.specs.Linking.{EntriesLeft, IsLinked, cut_touches, links_touch}

-- ---- marks

abbrev pub links : List Field
links = uir_next_uir ∷ uir_prev_uir ∷ []

pub record GoTests (kind : Kind) (v : ℕ) (nodes : List ℕ) (n : ℕ) (unused freed : List ℕ) : Type 0 where
  heads_clear : avoided (cut_marks kind v nodes n unused freed) gdr_type 0 12 ≡ true
  inside : within (cut_marks kind v nodes n unused freed) gdr_type (r_max_rec_field kind ++ space_fields) ≡ true
  max_clear : avoided (cut_marks kind v nodes n unused freed) gdr_type 52 56 ≡ true

pub go_tests : (kind : Kind) (v : ℕ) (nodes : List ℕ) (n : ℕ) (unused freed : List ℕ) → GoTests kind v nodes n unused freed
go_tests R v nodes n unused freed = record { heads_clear = refl; inside = refl; max_clear = refl }
go_tests Z v nodes n unused freed = record { heads_clear = refl; inside = refl; max_clear = refl }

-- a listed unused record gets another back link, and one that is on no list stays
pub listed_avoids : (unused freed : List ℕ) (n m : ℕ) → Avoids (freeing_marks types unused freed n) uir_type m 0 12
listed_avoids unused freed n m = grind arith

pub listed_within : (unused freed : List ℕ) (n m : ℕ) → Within (freeing_marks types unused freed n) uir_type m links
listed_within unused freed n m = grind arith

pub loose_away : (unused freed : List ℕ) (n m : ℕ) → (In m unused → ⊥) → Away (freeing_marks types unused freed n) uir_type m
loose_away unused freed n m out = grind (arith, out)

-- ---- where the touches of a cut lie, and what they miss

pub misses_both : (ts us : List Touch) (m lo hi : ℕ) → Misses ts m lo hi → Misses us m lo hi → Misses (ts ++ us) m lo hi
misses_both [] us m lo hi p q = q
misses_both (t ∷ ts) us m lo hi p q = (p.0, misses_both ts us m lo hi p.1 q)

pub placed_both : (b records : List ℕ) (upto : ℕ) (ts us : List Touch) → Placed b records upto ts → Placed b records upto us → Placed b records upto (ts ++ us)
placed_both b records upto [] us p q = q
placed_both b records upto (t ∷ ts) us p q = (p.0, placed_both b records upto ts us p.1 q)

pub apart_rewrites : (rs : List Rewrite) (m lo hi : ℕ) → (In m (rewrite_places rs) → ⊥) → Misses (rewrite_touches rs) m lo hi
apart_rewrites [] m lo hi out = tt
apart_rewrites (r ∷ rs) m lo hi out = ((λ e. absurd (out (inl e))), apart_rewrites rs m lo hi (λ i. out (inr i)))

pub apart_links : (ls : List NodeLink) (m lo hi : ℕ) → (In m (link_places ls) → ⊥) → Misses (link_touches ls) m lo hi
apart_links [] m lo hi out = tt
apart_links (l ∷ ls) m lo hi out = ((λ e. absurd (out (inl e))), apart_links ls m lo hi (λ i. out (inr i)))

-- what stands behind the entries of a node
pub behind_rewrites : (b records : List ℕ) (rs : List Rewrite) (m lo hi : ℕ) → Each (MayRewrite b records) rs → 28 + 16 * room_at b m ≤ lo → Misses (rewrite_touches rs) m lo hi
behind_rewrites b records [] m lo hi may low = tt
behind_rewrites b records (r ∷ rs) m lo hi may low = ((λ e. inr (omega (arith, may.0.room_is, ap (room_at b) e, low))), behind_rewrites b records rs m lo hi may.1 low)

pub behind_links : (ls : List NodeLink) (m lo hi : ℕ) → 20 ≤ lo → Misses (link_touches ls) m lo hi
behind_links [] m lo hi low = tt
behind_links (l ∷ ls) m lo hi low = ((λ e. inr (omega (arith, low))), behind_links ls m lo hi low)

pub placed_rewrites : (b records : List ℕ) (upto : ℕ) (rs : List Rewrite) → Each (MayRewrite b records) rs → Placed b records upto (rewrite_touches rs)
placed_rewrites b records upto [] may = tt
placed_rewrites b records upto (r ∷ rs) may = (inl (may.0.there, omega (arith, may.0.fits.0, may.0.room_is)), placed_rewrites b records upto rs may.1)

pub placed_links : (b records : List ℕ) (upto : ℕ) (ls : List NodeLink) → Each (MayRelink b records) ls → Placed b records upto (link_touches ls)
placed_links b records upto [] may = tt
placed_links b records upto (l ∷ ls) may = (inl (may.0.0, omega (arith, may.0.1)), placed_links b records upto ls may.1)

-- which entries of a node were not used, where nothing is taken
pub was_is : (b before : List ℕ) (acts : List Act) (m i : ℕ) → taken acts ≡ [] → is_in m before ≡ true → was_unused b before acts m i ≡ nat_le (used_count b m) i
was_is b before acts m i none e = rw (e, none) refl

-- ---- the image goes on

module _ {b linked : List ℕ} {kind : Kind} {before : List VariableShape} {own : VariableShape} {after : List VariableShape} {span : Span} (good : Good b) (at : StandsAmong b kind before own after) (order : span.first ≤ span.last) (x : IsLinked b linked kind own span) (short : length b ≤ image_limit) where
  abbrev s : Shape
  s = shape b

  abbrev rest : Nodes
  rest = cut span own.index

  abbrev freed : List ℕ
  freed = freed_of (plan_of span 0 own.index)

  abbrev steps : List Rewrite
  steps = flat_map rewritten (plan_of span 0 own.index)

  abbrev ls : List NodeLink
  ls = flat_map relinked (plan_of span 0 own.index)

  h : HasShape b s
  h = (sound good at).has_shape

  may : Each (MayRewrite b s.records) steps × Each (MayRelink b s.records) ls
  may = may_all span good at (omega (arith, short))

  vdr_long : 44 ≤ size_at b own.vdr
  vdr_long = through 44 340 (size_at b own.vdr) (omega arith) (long good at)

  placed : Placed b s.records (length b) (cut_touches own.vdr (plan_of span 0 own.index))
  placed = placed_both b s.records (length b) (rewrite_touches steps ++ link_touches ls) (links_touch own.vdr ∷ []) (placed_both b s.records (length b) (rewrite_touches steps) (link_touches ls) (placed_rewrites b s.records (length b) steps may.0) (placed_links b s.records (length b) ls may.1)) (inl (tile good at, vdr_long), tt)

  same_part : (m lo hi : ℕ) → In m s.records → hi ≤ size_at b m → Misses (rewrite_touches steps) m lo hi → Misses (link_touches ls) m lo hi → Misses (links_touch own.vdr ∷ []) m lo hi → Same b linked (m + lo) (m + hi)
  same_part m lo hi i fit p q r = changed_part b linked s.records (length b) h.tiled (omega arith) (cut_touches own.vdr (plan_of span 0 own.index)) x.changed placed m lo hi i fit (misses_both (rewrite_touches steps ++ link_touches ls) (links_touch own.vdr ∷ []) m lo hi (misses_both (rewrite_touches steps) (link_touches ls) m lo hi p q) r)

  -- ---- the nodes that stay

  -- a node of what is left was one
  pub was_node : (m : ℕ) → In m (nodes_of rest) → In m (nodes_of own.index)
  was_node m i = in-times m (nodes_of own.index) (omega (arith, times-in m (nodes_of rest) i, rewrites_stay m span 0 own.index, (plan_places m span 0 own.index).0))

  node_there : (m : ℕ) → In m (nodes_of own.index) → In m s.records × (type_at b m ≡ vxr_type)
  node_there m i = let l = nodes_stand b s.records 8 own.index (has good at).indexed.has_nodes m i in (linkable-in b s.records vxr_type m l, linkable-type b s.records vxr_type m l)

  no_vdr : (m : ℕ) → In m (nodes_of own.index) → m ≢ own.vdr
  no_vdr m i q = vdr_no_node kind (sym (typed good at) ∙ ap (type_at b) (sym q) ∙ (node_there m i).1)

  vdr_stays : In own.vdr freed → ⊥
  vdr_stays j = elim (freed_own good at x own.vdr j) [ inl n ↦ no_vdr own.vdr n refl | inr p ↦ no_block good at p ]

  -- what is freed is not written
  freed_apart : (m : ℕ) → In m freed → Same b linked (m + 0) (m + size_at b m)
  freed_apart m i =
      let stays = stays_used good at order x m in
      same_part m 0 (size_at b m) (freed_in good at x m i) (omega arith)
      (apart_rewrites steps m 0 (size_at b m) (λ j. stays (inl (in-times m (nodes_of rest) (omega (arith, times-in m (rewrite_places steps) j, rewrites_stay m span 0 own.index)))) i))
      (apart_links ls m 0 (size_at b m) (λ j. stays (inl (in-times m (nodes_of rest) (omega (arith, times-in m (link_places ls) j, links_stay m span 0 own.index)))) i))
      ((λ e. absurd (vdr_stays (subst (λ (n : ℕ). In n freed) e i))), tt)

  module _ (now : List ℕ) (given : AllGiven linked now freed) where
    abbrev freeing : Frees b linked now (index_marks kind own.vdr (nodes_of own.index) (record { place = 12; width = length b })) types freed
    freeing = frees good at order x now given

    pub same_records : (shape now).records ≡ s.records
    same_records = freed_records freeing

    node_kept : (m : ℕ) → In m (nodes_of rest) → Kept linked now m
    node_kept m i = let n = node_there m (was_node m i) in kept_used good at order x now given m vxr_type n.0 n.1 (apart vxr_type gdr_type refl) (apart vxr_type uir_type refl) (stays_used good at order x m (inl i))

    vdr_kept : Kept linked now own.vdr
    vdr_kept = kept_used good at order x now given own.vdr (type_in (variables_chain kind)) (tile good at) (typed good at) (vdr_apart kind).0 (vdr_apart kind).1 vdr_stays

    size_linked : (m : ℕ) → In m s.records → size_at linked m ≡ size_at b m
    size_linked m i = (heads good at x).sizes m i

    same : (m : ℕ) → In m (nodes_of rest) → SameNode linked now m
    same m i = same_node linked now m (node_kept m i) (Each-in (NodeFits linked) (nodes_of rest) x.fits m i)

    pub rooms : (m : ℕ) → In m (nodes_of rest) → room_at now m ≡ room_at b m
    rooms m i = (same m i).room_is ∙ (Each-in (EntriesLeft b linked) (nodes_of rest) x.entries m i).room_stays

    -- an entry that is not used is what it was, or -1 where it was used
    pub entries_say : (m : ℕ) → In m (nodes_of rest) → (i : ℕ) → used_count now m ≤ i → i < room_at now m → EntryIs b now m i (was_unused b (nodes_of own.index) (gave b freed) m i)
    entries_say m j i from upto =
        let n = same m j in
        let e = Each-in (EntriesLeft b linked) (nodes_of rest) x.entries m j in
        let room : i < room_at b m = omega (arith, upto, rooms m j) in
        let room' : i < room_at linked m = omega (arith, upto, n.room_is) in
        let was = was_is b (nodes_of own.index) (gave b freed) m i (taken-gave b freed) (is_in-true m (nodes_of own.index) (was_node m j)) in
        elim (cases_lt i (used_count b m)) [
          | inl lt ↦ subst (EntryIs b now m i) (sym (was ∙ lt-leb (used_count b m) i lt)) (n.entries i room' _ _ _ (e.gone i (omega (arith, from, n.used_is)) lt room))
          | inr le ↦ subst (EntryIs b now m i) (sym (was ∙ le-leb (used_count b m) i le)) (n.entries i room' _ _ _ (e.unused i le room _ _ _ (record { first_is = refl; last_is = refl; offset_is = refl })))
        ]

    entries_follow : (m : ℕ) → In m (nodes_of rest) → UnusedEntries b now (rest ∷ []) (nodes_of own.index) (gave b freed) m
    entries_follow m j i from upto = inl (entries_say m j i from upto)

    pub spare_stays : (m : ℕ) → In m (nodes_of rest) → NodeSpareStays b now (gave b freed) m
    spare_stays m j free =
        let there = (node_there m (was_node m j)).0 in
        let part = same_part m (28 + 16 * room_at b m) (size_at b m) there (omega arith) (behind_rewrites b s.records steps m (28 + 16 * room_at b m) (size_at b m) may.0 (omega arith)) (behind_links ls m (28 + 16 * room_at b m) (size_at b m) (omega arith)) ((λ e. absurd (no_vdr m (was_node m j) e)), tt) in
        record { each = λ k low up. (node_kept m j).same.each k (omega (arith, low)) (omega (arith, up, size_linked m there)) ∙ part.each k (omega (arith, low, rooms m j)) up }

    pub nodes_follow : NodesFollow b now (rest ∷ []) (nodes_of own.index) (nodes_of rest) (gave b freed)
    nodes_follow = record { unused = each_from (UnusedEntries b now (rest ∷ []) (nodes_of own.index) (gave b freed)) (nodes_of rest) entries_follow; spare = each_from (NodeSpareStays b now (gave b freed)) (nodes_of rest) spare_stays }

    pub sizes_now : (m : ℕ) → In m (nodes_of rest) → size_at now m ≡ size_at b m
    sizes_now m i = (same m i).size_is ∙ size_linked m (node_there m (was_node m i)).0

    pub tail_now : number now own.vdr vdr_vxr_tail ≡ (if bytes_eq (top_chain own.index) (top_chain rest) then number b own.vdr vdr_vxr_tail else last_node rest)
    tail_now =
        word_kept linked now own.vdr (own.vdr + size_at linked own.vdr) vdr_kept.same (own.vdr + 36) 8 (omega arith) (omega (arith, size_linked own.vdr (tile good at), vdr_long))
        ∙ x.tail ∙ (λ i. if whole_is span own.index i then number b own.vdr vdr_vxr_tail else last_is span own.index i)

    pub freed_now : FreedStay b now no_fields (gave b freed)
    freed_now = freed_bytes freeing (λ m i. Same-part b linked (m + 0) (m + size_at b m) (m + links_end (size_at b m)) (m + size_at b m) (freed_apart m i) (omega arith) (omega arith))

    pub max_rec_now : number now own.vdr vdr_max_rec ≡ number b own.vdr vdr_max_rec
    max_rec_now = max_kept good at order x now given

    pub long_now : length now ≡ length b
    long_now = freed_long freeing

    -- a block that is not freed stays
    pub block_stays : (m : ℕ) → In m (places_of (leaves_of own.index)) → (In m freed → ⊥) → Kept b now m
    block_stays m i out = block_left good at order x now given m i out

    module _ (in_order : InOrder 0 record_number_limit rest) (ruled : Each (IsPlainOrWhole (leaves_of own.index)) (leaves_of rest)) where
      abbrev marks : List Mark
      marks = index_marks kind own.vdr (nodes_of own.index) (record { place = 12; width = length b })

      tests : GoTests kind own.vdr (nodes_of own.index) (length b) s.unused freed
      tests = go_tests kind own.vdr (nodes_of own.index) (length b) s.unused freed

      unused_away : (m : ℕ) → Away marks uir_type m
      unused_away m = unmarked-away marks uir_type m (index_unmarked kind own.vdr (nodes_of own.index) (record { place = 12; width = length b }))

      listed : (m : ℕ) → In m s.unused → Stays b now m links
      listed m i =
          let ok = h.unused_chain.linkable m i in
          keeps_within (sound good at) (edit good at order x now given) same_records m uir_type links (linkable-in b s.records uir_type m ok) (linkable-type b s.records uir_type m ok)
          (Avoids-append marks (freeing_marks types s.unused freed (length b)) uir_type m 0 12 (away-avoids marks uir_type m 0 12 (unused_away m)) (listed_avoids s.unused freed (length b) m))
          (Within-append marks (freeing_marks types s.unused freed (length b)) uir_type m links (away-within marks uir_type m links (unused_away m)) (listed_within s.unused freed (length b) m))

      pub cut_goes : GoesOn b now kind before own (record own { index = rest }) after (gave b freed)
      cut_goes =
          goes_by good at (whole good at order x now given) (good_now good at order x now given in_order ruled short) (acts good at order x now given)
          (keeps_fields (sound good at) (edit good at order x now given) same_records s.gdr gdr_type (r_max_rec_field kind ++ space_fields) (gdr_in b s h) (gdr_typed b s h) tests.heads_clear tests.inside)
          (λ m i free. listed m i)
          (λ m i is out. keeps_away (sound good at) (edit good at order x now given) same_records m uir_type (Only []) i is (Away-append marks (freeing_marks types s.unused freed (length b)) uir_type m (unused_away m) (loose_away s.unused freed (length b) m out)))

      pub r_max_rec_now : r_max_rec now ≡ r_max_rec b
      r_max_rec_now = of_own.r_max_rec_kept good at (of_index.own_edit good at (whole good at order x now given)) tests.max_clear
