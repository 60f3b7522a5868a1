-- What the calls of a cut come to: the nodes are written as planned, and VXRhead leads to them.
use Rattle.cdf_cuts.proofs.Common.{Bool, Changed, StillSays, UnusedStay, false, if◌then◌else◌, number, stands_in, true, whole_in, ◌≤◌, Distinct, Each, Each-append, Each-map, Entry, FieldSet, In, List, MayRelink, MayRewrite, NodeFits, NodeLink, NodeSays, Nodes, None, Option, Relinked, Rewrite, Rewritten, Some, Span, Stood, Touch, Touched, [], ap, arith, cases_eq, field_set, flat_map, inl, inr, length, link_places, link_to, link_touches, linkable-type, next_kept, next_of, nodes_of, plan_of, refl, relinked, rewrite_places, rewrite_touches, rewritten, size_at, sym, tile_lies, times, touched, type_at, vxr_type, with_field, ℕ, ◌*◌, ◌++◌, ◌+◌, ◌<◌, ◌^◌, ◌∙◌, ◌∷◌, ◌≡◌, ◌≢◌}
use Rattle.cdf_edits.proofs.Common.{Good, Kind, Mark, Shape, VariableShape, field, shape, vdr_vxr_head, vdr_vxr_tail, word_kept}
use Rattle.cdf_edits.proofs.Edits.Common.{StandsAmong, behind_in, has, in-times, long, some_bytes, sound, through, tile, times-in, typed}
use Rattle.cdf_edits.proofs.Edits.Composing.{changed_edit}
use Rattle.cdf_edits.proofs.Edits.VariableCopied.{node_behind}
use Rattle.cdf_edits.proofs.Frame.ChangedBytes.{changed_then}
use Rattle.cdf_edits.specs.Edits.Marks.{Marked}
use Rattle.cdf_index.proofs.Common.{Each-in, fits, nodes_stand}
use Rattle.cdf_index.proofs.FieldSet.{changed_again, changed_wider}
use Rattle.cdf_index.proofs.NewIndex.{index_marks, vdr_no_node}
use Rattle.cdf_index.specs.Adding.{Counts}
use Rattle.cdf_cuts.specs.Cut.{link_found, tail_led}
use Rattle.cdf_cuts.specs.Linking.{EntriesLeft, IsLinked, cut_touches, links_touch}
use Rattle.cdf_cuts.proofs.CutWords.{PlaceIs, cut, found_is}
use Rattle.cdf_cuts.proofs.PlanFits.{done_all, plan_fine}
use Rattle.cdf_cuts.proofs.PlanPlaces.{plan_places, rewrites_stay}
use Rattle.cdf_cuts.proofs.Rewriting.{kept_then, still_there, stood_still}
use Rattle.cdf_cuts.proofs.Rewriting.{each_where as where_rewrites}
use Rattle.cdf_cuts.proofs.Relinking.{each_where as where_links}
use Rattle.cdf_cuts.specs.Planning.{found_in}
use Rattle.cdf_edits.proofs.Edits.Common.{distinct_if}
use Rattle.cdf_index.proofs.Common.{times-once}

pub found_link : (found : Option Entry) (rest : Nodes) → PlaceIs found rest → link_found found ≡ link_to rest
found_link None rest p = rw p refl
found_link (Some e) rest p = p.1

-- one of them stands at the place
pub fits_at : (now records : List ℕ) (rs : List Rewrite) (m : ℕ) → Each (Stood now records) rs → In m (rewrite_places rs) → NodeFits now m × Counts now m
fits_at now records (r ∷ rs) m e (inl q) = rw q (e.0.1, omega (arith, e.0.0.count_is, e.0.0.used_is, e.0.1.1))
fits_at now records (r ∷ rs) m e (inr i) = fits_at now records rs m e.1 i
fits_at now records [] m e i = absurd i

-- of one of them, which entries it has no more, and which it never had
pub left_at : (b now records : List ℕ) (rs : List Rewrite) (m : ℕ) → Each (MayRewrite b records) rs → Each (Stood now records) rs → Each (UnusedStay b now) rs → In m (rewrite_places rs) → EntriesLeft b now m
left_at b now records [] m may st un i = absurd i
left_at b now records (r ∷ rs) m may st un (inl q) = rw q (record {
  room_stays = st.0.0.room_is ∙ may.0.room_is;
  gone = λ j le lt in_room. st.0.0.gone j (omega (arith, st.0.0.used_is, le)) (omega (arith, may.0.used_is, lt)) (omega (arith, may.0.room_is, in_room));
  unused = λ j le lt. un.0 j (omega (arith, may.0.used_is, le)) (omega (arith, may.0.room_is, lt));
})
left_at b now records (r ∷ rs) m may st un (inr i) = left_at b now records rs m may.1 st.1 un.1 i

pub unused_on : (b records : List ℕ) {mid now : List ℕ} (done : List Rewrite) → Each (Stood mid records) done → Each (UnusedStay b mid) done → ((x : Rewrite) → In x.place (rewrite_places done) → Stood mid records x → (j : ℕ) → j < x.room → StillSays mid now x.place j j) → Each (UnusedStay b now) done
unused_on b records [] say unused still = tt
unused_on b records (x ∷ xs) say unused still = (λ j le lt f l o s. still x (inl refl) say.0 j lt f l o (unused.0 j le lt f l o s), unused_on b records xs say.1 unused.1 (λ y i. still y (inr i)))

-- ---- VXRhead and VXRtail

pub record HeadsWritten (joined led linked : List ℕ) (vdr last : ℕ) (whole : Bool) : Type 0 where
  changed : Changed joined linked (links_touch vdr ∷ [])
  as_long : length linked ≡ length joined
  head_stays : number linked vdr vdr_vxr_head ≡ number led vdr vdr_vxr_head
  tail_is : number linked vdr vdr_vxr_tail ≡ (if whole then number joined vdr vdr_vxr_tail else last)

pub heads_written : {joined led linked : List ℕ} {vdr last n : ℕ} → vdr + 44 ≤ length joined → FieldSet joined led vdr vdr_vxr_head n → last < 256 ^ 8 → (whole : Bool) → linked ≡ tail_led led vdr last whole → HeadsWritten joined led linked vdr last whole
heads_written {vdr = vdr} far set small true e = rw e (record {
  changed = changed_wider 28 16 set.changed (omega arith) (omega arith);
  as_long = set.as_long;
  head_stays = refl;
  tail_is = set.past (vdr + 36) 8 (inr (omega arith));
})
heads_written {vdr = vdr} far set small false e =
    let last_set = field_set (omega (arith, far, set.as_long)) e in
    record {
      changed = changed_again (changed_wider 28 16 set.changed (omega arith) (omega arith)) set.as_long (changed_wider 28 16 last_set.changed (omega arith) (omega arith));
      as_long = last_set.as_long ∙ set.as_long;
      head_stays = last_set.past (vdr + 28) 8 (inl (omega arith));
      tail_is = last_set.reads small;
    }

pub each_from : (P : ℕ → Type 0) (xs : List ℕ) → ((m : ℕ) → In m xs → P m) → Each P xs
each_from P [] f = tt
each_from P (x ∷ xs) f = (f x (inl refl), each_from P xs (λ m i. f m (inr i)))

module _ {b : List ℕ} {kind : Kind} {before : List VariableShape} {own : VariableShape} {after : List VariableShape} (span : Span) (good : Good b) (at : StandsAmong b kind before own after) where
  abbrev s : Shape
  s = shape b

  abbrev steps : List Rewrite
  steps = flat_map rewritten (plan_of span 0 own.index)

  abbrev links : List NodeLink
  links = flat_map relinked (plan_of span 0 own.index)

  abbrev marks : List Mark
  marks = index_marks kind own.vdr (nodes_of own.index) (field 12 (length b))

  -- the nodes of the plan are nodes of the index
  pub rewrite_in : (m : ℕ) → In m (rewrite_places steps) → In m (nodes_of own.index)
  rewrite_in m i = in-times m (nodes_of own.index) (omega (arith, times-in m (rewrite_places steps) i, (plan_places m span 0 own.index).0))

  pub link_in : (m : ℕ) → In m (link_places links) → In m (nodes_of own.index)
  link_in m i = in-times m (nodes_of own.index) (omega (arith, times-in m (link_places links) i, (plan_places m span 0 own.index).1))

  node_lies : (m : ℕ) → In m (nodes_of own.index) → In m s.records × (type_at b m ≡ vxr_type) × NodeFits b m × (size_at b m ≤ length b)
  node_lies m i =
      let there = behind_in good at m (node_behind own m i) in
      let l = tile_lies b 8 (length b) s.records m (sound good at).has_shape.tiled there in
      (there, linkable-type b s.records vxr_type m (nodes_stand b s.records 8 own.index (has good at).indexed.has_nodes m i), Each-in (NodeFits b) (nodes_of own.index) (fits good at).1 m i, omega (arith, l.high))

  marked_rewrites : (rs : List Rewrite) → ((m : ℕ) → In m (rewrite_places rs) → In m (nodes_of own.index)) → Each (MayRewrite b s.records) rs → Each (Marked b s.records marks []) (rewrite_touches rs)
  marked_rewrites [] sub may = tt
  marked_rewrites (r ∷ rs) sub may =
      let i = sub r.place (inl refl) in
      let l = node_lies r.place i in
      let f = l.2.0 in
      let room : 28 + 16 * r.room ≤ size_at b r.place = omega (arith, f, may.0.room_is) in
      (record { inside = l.0; fits = omega (arith, room); behind_size = omega arith; behind_type = inl (omega arith); covered = inr (inl (record { typed = l.1; lies = i; low = omega arith; high = omega (arith, room, l.3) })) }, marked_rewrites rs (λ m j. sub m (inr j)) may.1)

  marked_links : (ls : List NodeLink) → ((m : ℕ) → In m (link_places ls) → In m (nodes_of own.index)) → Each (Marked b s.records marks []) (link_touches ls)
  marked_links [] sub = tt
  marked_links (r ∷ ls) sub =
      let i = sub r.place (inl refl) in
      let l = node_lies r.place i in
      let f = l.2.0 in
      (record { inside = l.0; fits = omega (arith, f); behind_size = omega arith; behind_type = inl (omega arith); covered = inr (inl (record { typed = l.1; lies = i; low = omega arith; high = omega (arith, f, l.3) })) }, marked_links ls (λ m j. sub m (inr j)))

  marked_head : Marked b s.records marks [] (links_touch own.vdr)
  marked_head = record { inside = tile good at; fits = through 44 340 (size_at b own.vdr) (omega arith) (long good at); behind_size = omega arith; behind_type = inl (omega arith); covered = inl (record { typed = typed good at; lies = inl refl; low = omega arith; high = omega arith }) }

  no_vdr : (m : ℕ) → In m (nodes_of own.index) → m ≢ own.vdr
  no_vdr m i q = vdr_no_node kind (sym (typed good at) ∙ ap (type_at b) (sym q) ∙ (node_lies m i).1)

  module _ {written joined linked : List ℕ} (w : Rewritten b written s.records steps) (j : Relinked written joined s.records links) (e : linked ≡ tail_led (with_field joined own.vdr vdr_vxr_head (link_found (found_in span None own.index))) own.vdr (stands_in span 0 own.index) (whole_in span true own.index))
      (small : link_found (found_in span None own.index) < 256 ^ 8) (small_last : stands_in span 0 own.index < 256 ^ 8) where
    abbrev led : List ℕ
    led = with_field joined own.vdr vdr_vxr_head (link_found (found_in span None own.index))

    size_joined : (m : ℕ) → In m s.records → size_at joined m ≡ size_at b m
    size_joined m i = j.heads.sizes m i ∙ w.heads.sizes m i

    far : own.vdr + 44 ≤ length joined
    far = let l = tile_lies b 8 (length b) s.records own.vdr (sound good at).has_shape.tiled (tile good at) in omega (arith, l.high, through 44 340 (size_at b own.vdr) (omega arith) (long good at), j.as_long, w.as_long)

    set : FieldSet joined led own.vdr vdr_vxr_head (link_found (found_in span None own.index))
    set = field_set (omega (arith, far)) refl

    written_heads : HeadsWritten joined led linked own.vdr (stands_in span 0 own.index) (whole_in span true own.index)
    written_heads = heads_written far set small_last (whole_in span true own.index) e

    t : Touched joined linked s.records own.vdr
    t = touched j.tiled (tile good at) (omega arith) (omega (arith, size_joined own.vdr (tile good at), through 44 340 (size_at b own.vdr) (omega arith) (long good at))) written_heads.changed written_heads.as_long

    -- what VXRtail was before
    tail_before : number joined own.vdr vdr_vxr_tail ≡ number b own.vdr vdr_vxr_tail
    tail_before =
        let k = kept_then (w.others own.vdr (tile good at) (λ i. no_vdr own.vdr (rewrite_in own.vdr i) refl)) (w.heads.sizes own.vdr (tile good at)) (j.others own.vdr (tile good at) (λ i. no_vdr own.vdr (link_in own.vdr i) refl)) in
        word_kept b joined own.vdr (own.vdr + size_at b own.vdr) k.same (own.vdr + 36) 8 (omega arith) (omega (arith, through 44 340 (size_at b own.vdr) (omega arith) (long good at)))

    stand : Each (Stood linked s.records) steps
    stand = where_rewrites (λ x. x.place) steps (λ r i st. let st2 = j.nodes r st in stood_still s.records r (t.others r.place st2.2 (no_vdr r.place (rewrite_in r.place i))) st2) w.say

    followed : Each (λ (l : NodeLink). next_of linked l.place ≡ l.next) links
    followed = where_links links (λ l i st. let k = t.others l.place st.1 (no_vdr l.place (link_in l.place i)) in next_kept joined linked l.place k.same (omega (arith, st.2)) ∙ st.0) j.say

    in_steps : (m : ℕ) → In m (nodes_of (cut span own.index)) → In m (rewrite_places steps)
    in_steps m i = in-times m (rewrite_places steps) (omega (arith, times-in m (nodes_of (cut span own.index)) i, rewrites_stay m span 0 own.index))

    abbrev touches : List Touch
    touches = cut_touches own.vdr (plan_of span 0 own.index)

    changed : Changed b linked touches
    changed = changed_then b joined linked (rewrite_touches steps ++ link_touches links) (links_touch own.vdr ∷ []) (changed_then b written joined (rewrite_touches steps) (link_touches links) w.changed j.changed) written_heads.changed

    as_long : length linked ≡ length b
    as_long = written_heads.as_long ∙ j.as_long ∙ w.as_long

    unused : Each (UnusedStay b linked) steps
    unused = unused_on b s.records steps w.say w.unused (λ r i st k lt f l o y. (let st2 = j.nodes r st in still_there s.records r (t.others r.place st2.2 (no_vdr r.place (rewrite_in r.place i))) st2 k lt f l o (j.still r st k lt f l o y)))

    pub is_linked : Each (MayRewrite b s.records) steps → IsLinked b linked kind own span
    is_linked may = record {
      edit = changed_edit b linked s.records touches marks [] (sound good at).has_shape.tiled as_long changed (Each-append (Marked b s.records marks []) (rewrite_touches steps ++ link_touches links) (links_touch own.vdr ∷ []) (Each-append (Marked b s.records marks []) (rewrite_touches steps) (link_touches links) (marked_rewrites steps rewrite_in may) (marked_links links link_in)) (marked_head, tt)) (some_bytes b s (sound good at).has_shape);
      long = as_long;
      done = done_all linked (plan_of span 0 own.index) (Each-map (Stood linked s.records) (NodeSays linked) (λ r st. st.0) steps stand) followed;
      fits = each_from (NodeFits linked) (nodes_of (cut span own.index)) (λ m i. (fits_at linked s.records steps m stand (in_steps m i)).0);
      counts = each_from (Counts linked) (nodes_of (cut span own.index)) (λ m i. (fits_at linked s.records steps m stand (in_steps m i)).1);
      head = written_heads.head_stays ∙ set.reads small ∙ found_link (found_in span None own.index) (cut span own.index) (found_is span own.index);
      tail = written_heads.tail_is ∙ ap (λ (n : ℕ). if whole_in span true own.index then n else stands_in span 0 own.index) tail_before;
      changed = changed;
      entries = each_from (EntriesLeft b linked) (nodes_of (cut span own.index)) (λ m i. left_at b linked s.records steps m may stand unused (in_steps m i));
    }

  -- what the calls ask for
  small_places : length b < 256 ^ 8 → (m : ℕ) → In m s.records → m < 256 ^ 8
  small_places short m i = let l = tile_lies b 8 (length b) s.records m (sound good at).has_shape.tiled i in omega (arith, l.high, l.long, short)

  pub may_all : length b < 256 ^ 8 → Each (MayRewrite b s.records) steps × Each (MayRelink b s.records) links
  may_all short = plan_fine b s.records span (small_places short) 8 0 own.index (has good at).indexed.has_nodes (fits good at).1 (λ ne. absurd (ne refl))

  once_most : (m : ℕ) → times m (nodes_of own.index) ≤ 1
  once_most m = elim (cases_eq (times m (nodes_of own.index)) 0) [ inl z ↦ omega (arith, z) | inr ne ↦ omega (arith, times-once m (nodes_of own.index) (has good at).indexed.once (in-times m (nodes_of own.index) (omega arith))) ]

  pub once_all : Distinct (rewrite_places steps) × Distinct (link_places links)
  once_all = (distinct_if (rewrite_places steps) (λ m. omega (arith, (plan_places m span 0 own.index).0, once_most m)), distinct_if (link_places links) (λ m. omega (arith, (plan_places m span 0 own.index).1, once_most m)))
