-- Records cut at the end of an index of which no node is empty, where each block begins before them: what an image has is what the cut leaves, if no more than the last entry was written.
use Rattle.cdf_cuts.proofs.Common.{Changed, Each, Entries, In, In-append, Kept, Leaf, List, MayRewrite, NodeFits, Nodes, None, Option, Rewrite, SaysEntry, Some, StillSays, Touch, Touched, [], ap, arith, block, cases_eq, flat_map, freed_of, if◌then◌else◌, image_limit, inl, inr, is_linkable, leaves_of, length, link_to, linkable-type, lower, lower_nodes, no_entry, no_node, node, nodes_of, number, plan_of, refl, relinked, rewrite_places, rewrite_touches, rewritten, room_at, size_at, stands_in, subst, suc, sym, tile_lies, touched, touched_field, true, type_at, used_count, vxr_n_used_entries, vxr_type, whole_in, ℕ, ◌*◌, ◌++◌, ◌+◌, ◌-◌, ◌<◌, ◌∙◌, ◌∷◌, ◌≡◌, ◌≢◌, ◌≤◌, ◌⊎◌, last_or, link_touches}
use Rattle.std.specs.Prelude.{Bool, false, max}
use Rattle.cdf_edits.proofs.Common.{Edit, Good, Hold, Hold-split, Kind, Mark, VariableShape, field, has_room, leaf_rows, negsuc, pos, shape, vdr_vxr_head, vdr_vxr_tail, vvr_type, word_kept, ℤ, end_of, number_before, with_sign}
unfoldable use Rattle.cdf_edits.proofs.Common.{nodes_rows, used_rows}
use Rattle.cdf_edits.proofs.Edits.Common.{StandsAmong, behind_in, fits, has, in-times, long, some_bytes, sound, through, tile, times-in, typed}
use Rattle.cdf_edits.proofs.Edits.Composing.{changed_edit}
use Rattle.cdf_edits.proofs.Edits.LeafPieces.{IsOneOf}
use Rattle.cdf_edits.proofs.Edits.PlainLeaves.{leaves_ascend, own_rules, plain_leaf}
use Rattle.cdf_edits.proofs.Edits.VariableCopied.{node_behind}
use Rattle.cdf_edits.proofs.Frame.ChangedBytes.{Outside-append}
use Rattle.cdf_edits.specs.Edits.Marks.{Marked}
use Rattle.cdf_edits.specs.Frame.Changed.{Outside}
use Rattle.cdf_index.proofs.Common.{Ascending, Each-in, nodes_stand, record_number_limit}
use Rattle.cdf_index.proofs.Inserting.{front_stays, room_stays, used_stays}
use Rattle.cdf_index.proofs.NewIndex.{index_marks, vdr_no_node}
use Rattle.cdf_index.proofs.OneNode.{same_node}
use Rattle.cdf_index.specs.Adding.{Counts}
use Rattle.cdf_index.specs.Writing.{EntrySet}
use Rattle.cdf_cuts.proofs.CutDone.{each_from, may_all}
use Rattle.cdf_cuts.proofs.CutWords.{cut}
use Rattle.cdf_cuts.proofs.PastCut.{cut_past, end_cut as cut_at_end, none_cut}
use Rattle.cdf_cuts.proofs.PlanPlaces.{rewrites_stay}
use Rattle.cdf_cuts.specs.Cut.{IsCut}
use Rattle.cdf_cuts.specs.Linking.{EntriesLeft, IsLinked, cut_touches, left_of, links_touch}
use Rattle.cdf_cuts.specs.Past.{CutPast, cut_off, past_span}
use Rattle.cdf_edits.specs.Space.Freeing.{AllGiven}
use Rattle.cdf_puts.specs.TidyIndex.{IsTidy}
use Rattle.cdf_trim.proofs.EndPlan.{EndsWritten, IsDone, OnlyReach, SameFields, each_done, none_freed, plan_done}
use Rattle.cdf_trim.proofs.EndReach.{At, Ends, none_reaches, only_reaches}
use Rattle.cdf_trim.proofs.EndShape.{Begins, cut_ended, ended, link_ended, nodes_ended, whole_kept}
use Rattle.cdf_format.specs.Shape.{is_compressed}

-- ---- the blocks

-- where the last one begins before a record, all do
all_begin : (low upto first : ℕ) (o : Option Leaf) (ls : List Leaf) (x : Leaf) → Ascending low upto ls → last_or o ls ≡ Some x → x.first < first → Each (Begins first) ls
all_begin low upto first o [] x a e lt = tt
all_begin low upto first o (l ∷ []) x a e lt = let q : Some l ≡ Some x = e in (grind (arith, q, lt), tt)
all_begin low upto first o (l ∷ m ∷ ls) x a e lt = let rest = all_begin (suc l.last) upto first (Some l) (m ∷ ls) x a.3 e lt in (omega (arith, a.1, a.3.0, rest.0), rest)

last_in : (o : Option Leaf) (ls : List Leaf) (x : Leaf) → last_or o ls ≡ Some x → (o ≡ Some x) ⊎ IsOneOf ls x
last_in o [] x e = inl e
last_in o (l ∷ ls) x e = elim (last_in (Some l) ls x e) [ inl q ↦ inr (inl (same q)) | inr i ↦ inr (inr i) ]
  where
    same : {y : Leaf} → Some y ≡ Some x → y ≡ x
    same q = cc

-- where all end before a record, all begin before it
ends_begin : (low upto first : ℕ) (ls : List Leaf) → Ascending low upto ls → Each (Ends first) ls → Each (Begins first) ls
ends_begin low upto first [] a e = tt
ends_begin low upto first (l ∷ ls) a e = (omega (arith, a.1, e.0), ends_begin (suc l.last) upto first ls a.3 e.1)

-- ---- the nodes of a good image have room for their entries

module _ (b records : List ℕ) where
  mutual
    unfolding nodes_rows used_rows nodes_of lower_nodes

    rooms : (low high : ℤ) (ns : Nodes) → Hold (nodes_rows b records low high ns) → (m : ℕ) → In m (nodes_of ns) → has_room b m ≡ true
    rooms low high no_node h m i = absurd i
    rooms low high (node place room es more) h m (inl q) = rw q h.0
    rooms low high (node place room es more) h m (inr k) =
        let parts = Hold-split (used_rows b records place low high es) (nodes_rows b records (end_of low es) high more) h.1 in
        elim (In-append m (lower_nodes es) (nodes_of more) k) [
          | inl j ↦ rooms_below place low high es parts.0 m j
          | inr j ↦ rooms (end_of low es) high more parts.1 m j
        ]

    rooms_below : (vxr : ℕ) (low high : ℤ) (es : Entries) → Hold (used_rows b records vxr low high es) → (m : ℕ) → In m (lower_nodes es) → has_room b m ≡ true
    rooms_below vxr low high no_entry h m i = absurd i
    rooms_below vxr low high (block f l at packed es) h m i = rooms_below vxr (with_sign l) high es h.1.1 m i
    rooms_below vxr low high (lower f l ns es) h m i =
        let parts = Hold-split (nodes_rows b records (number_before f) (with_sign l) ns) (used_rows b records vxr (with_sign l) high es) h.1 in
        elim (In-append m (nodes_of ns) (lower_nodes es) i) [
          | inl j ↦ rooms (number_before f) (with_sign l) ns parts.0 m j
          | inr j ↦ rooms_below vxr (with_sign l) high es parts.1 m j
        ]

counted_all : (b : List ℕ) (m : ℕ) → has_room b m ≡ true → number b m vxr_n_used_entries ≡ used_count b m
counted_all b m h = grind (arith, h)

-- ---- what is written lies in the nodes that are planned

outside_node : (b records : List ℕ) (rs : List Rewrite) (m i : ℕ) → Each (MayRewrite b records) rs → In m (rewrite_places rs) → Outside (rewrite_touches rs) i → (i < m + 24) ⊎ (m + 24 + (4 + 16 * room_at b m) ≤ i)
outside_node b records [] m i may k o = absurd k
outside_node b records (r ∷ rs) m i may (inl q) o =
    let room : r.room ≡ room_at b m = may.0.room_is ∙ ap (room_at b) (sym q) in
    elim o.0 [ inl x ↦ inl (omega (arith, x, q)) | inr x ↦ inr (omega (arith, x, q, room)) ]
outside_node b records (r ∷ rs) m i may (inr k) o = outside_node b records rs m i may.1 k o.1

module _ {b : List ℕ} {kind : Kind} {before : List VariableShape} {own : VariableShape} {after : List VariableShape} (good : Good b) (at : StandsAmong b kind before own after) (short : length b ≤ image_limit) (tidy : IsTidy own.index) (loose : is_compressed b own.vdr ≡ false) where
  abbrev records : List ℕ
  records = (shape b).records

  abbrev nodes : List ℕ
  nodes = nodes_of own.index

  abbrev leaves : List Leaf
  leaves = leaves_of own.index

  abbrev marks : List Mark
  marks = index_marks kind own.vdr nodes (field 12 (length b))

  ascend : Ascending 0 (suc record_number_limit) leaves
  ascend = leaves_ascend good at

  room_of : (m : ℕ) → In m nodes → has_room b m ≡ true
  room_of m i = rooms b records (negsuc 0) (pos record_number_limit) own.index (Hold-split (nodes_rows b records (negsuc 0) (pos record_number_limit) own.index) (flat_map (leaf_rows b records own.vdr) leaves) (own_rules good at).1).0 m i

  counted_is : (m : ℕ) → In m nodes → number b m vxr_n_used_entries ≡ used_count b m
  counted_is m i = counted_all b m (room_of m i)

  node_fits : (m : ℕ) → In m nodes → NodeFits b m
  node_fits m i = Each-in (NodeFits b) nodes (fits good at).1 m i

  there : (m : ℕ) → In m nodes → In m records
  there m i = behind_in good at m (node_behind own m i)

  lies : (m : ℕ) → In m nodes → 28 + 16 * room_at b m ≤ size_at b m
  lies m i = (node_fits m i).0

  module _ {first : ℕ} {now : List ℕ} {Here : ℕ → ℕ → Type 0} (w : EndsWritten b now nodes first Here) (reach : OnlyReach first Here own.index) (begins : Each (Begins first) leaves) (e : Edit b now records records marks []) (long_now : length now ≡ length b)
      (sizes : (m : ℕ) → In m nodes → size_at now m ≡ size_at b m) (unused : (m j : ℕ) → In m nodes → used_count b m ≤ j → j < room_at b m → StillSays b now m j j) (head : number now own.vdr vdr_vxr_head ≡ number b own.vdr vdr_vxr_head) (tail : number now own.vdr vdr_vxr_tail ≡ number b own.vdr vdr_vxr_tail)
      (changed : Changed b now (cut_touches own.vdr (plan_of (past_span first) 0 own.index))) where
    left_is : left_of (past_span first) own.index ≡ ended first own.index
    left_is = cut_ended first (max first record_number_limit) own.index tidy begins

    each_left : (P : ℕ → Type 0) → ((m : ℕ) → In m nodes → P m) → Each P (nodes_of (left_of (past_span first) own.index))
    each_left P f = subst (Each P) (sym (ap nodes_of left_is ∙ nodes_ended first own.index)) (each_from P nodes f)

    all_done : Each (IsDone now) (plan_of (past_span first) 0 own.index)
    all_done = plan_done w records (max first record_number_limit) 8 0 own.index (has good at).indexed.has_nodes tidy begins reach (λ m i. i) (λ ne. absurd (ne refl))

    fits_now : (m : ℕ) → In m nodes → NodeFits now m
    fits_now m i = let f = w.fields m i in let size = sizes m i in let was = node_fits m i in grind (arith, size, f.room_is, f.used_is, was)

    counts_now : (m : ℕ) → In m nodes → Counts now m
    counts_now m i = let f = w.fields m i in let was = (node_fits m i).1 in omega (arith, f.count_is, f.room_is, was)

    entries_now : (m : ℕ) → In m nodes → EntriesLeft b now m
    entries_now m i = let f = w.fields m i in record { room_stays = f.room_is; gone = λ j le lt room. absurd (omega (arith, f.used_is, le, lt)); unused = λ j le lt. unused m j i le lt }

    tail_now : number now own.vdr vdr_vxr_tail ≡ (if whole_in (past_span first) true own.index then number b own.vdr vdr_vxr_tail else stands_in (past_span first) 0 own.index)
    tail_now = rw (whole_kept first (max first record_number_limit) own.index tidy begins) tail

    ended_linked : IsLinked b now kind own (past_span first)
    ended_linked = record {
      edit = e;
      long = long_now;
      done = each_done now (plan_of (past_span first) 0 own.index) all_done;
      fits = each_left (NodeFits now) fits_now;
      counts = each_left (Counts now) counts_now;
      head = head ∙ (has good at).indexed.link_is ∙ sym (ap link_to left_is ∙ link_ended first own.index);
      tail = tail_now;
      changed = changed;
      entries = each_left (EntriesLeft b now) entries_now;
    }

    ended_cut : IsCut b now kind own (past_span first)
    ended_cut =
        let none = none_freed now (plan_of (past_span first) 0 own.index) all_done in
        let is : freed_of (plan_of (past_span first) 0 own.index) ≡ [] = λ i. none.0 i ++ none.1 i in
        record { linked = now; is_linked = ended_linked; given = subst (AllGiven now now) (sym is) refl }

    pub ended_past : CutPast b now kind before own (cut_off own first) after first
    ended_past = cut_past good at loose (cut_at_end good at short ended_cut (none_cut good at loose first))

  -- ---- nothing is written

  same_changed : (ts : List Touch) → Changed b b ts
  same_changed ts = record { longer = omega arith; same = λ i lt o. refl }

  same_edit : Edit b b records records marks []
  same_edit = changed_edit b b records [] marks [] (sound good at).has_shape.tiled refl (same_changed []) tt (some_bytes b (shape b) (sound good at).has_shape)

  pub nothing_cut : (first : ℕ) → Each (Ends first) leaves → CutPast b b kind before own (cut_off own first) after first
  nothing_cut first ends =
      let none : ℕ → ℕ → Type 0 = λ m j. ⊥ in
      let w : EndsWritten b b nodes first none = record { fields = λ m i. record { room_is = refl; used_is = refl; count_is = counted_is m i; next_is = refl }; still = λ m j f l o i lt s which. s; here = λ m j f l o i h. absurd h } in
      ended_past w (none_reaches first none own.index ends) (ends_begin 0 (suc record_number_limit) first leaves ascend ends) same_edit refl (λ m i. refl) (λ m j i le lt f l o s. s) refl refl (same_changed (cut_touches own.vdr (plan_of (past_span first) 0 own.index)))

  -- ---- one entry is written

  module _ {now : List ℕ} {first vxr p low high place : ℕ} {packed : Bool} (is_node : In vxr nodes) (is_last : p + 1 ≡ used_count b vxr) (says : SaysEntry b vxr p low high place) (leaf_is : last_or None leaves ≡ Some (record { first = low; last = high; place = place; packed = packed })) (early : low < first) (reaches : first ≤ high)
      (set : EntrySet b now vxr p low (first - 1) place) where
    begins_all : Each (Begins first) leaves
    begins_all = all_begin 0 (suc record_number_limit) first None leaves _ ascend leaf_is early

    is_leaf : IsOneOf leaves (record { first = low; last = high; place = place; packed = packed })
    is_leaf = elim (last_in None leaves _ leaf_is) [ inl q ↦ absurd cc | inr i ↦ i ]

    -- a block is no node
    no_vxr : is_linkable b records vxr_type place ≡ true → ⊥
    no_vxr link =
        let block_type : type_at b place ≡ vvr_type = (plain_leaf good at loose _ is_leaf).typed in
        let q : vxr_type ≡ vvr_type = sym (linkable-type b records vxr_type place link) ∙ block_type in
        absurd (omega (arith, q))

    no_node_there : (o : ℕ) → o ≡ place → In o nodes → ⊥
    no_node_there o q i = no_vxr (subst (λ (m : ℕ). is_linkable b records vxr_type m ≡ true) q (nodes_stand b records 8 own.index (has good at).indexed.has_nodes o i))

    reach_all : OnlyReach first (At vxr p) own.index
    reach_all = only_reaches records says is_last reaches no_vxr 8 0 (suc record_number_limit) own.index (has good at).indexed.has_nodes ascend begins_all is_node

    abbrev room : ℕ
    room = room_at b vxr

    far : vxr + 28 ≤ length b
    far = let l = tile_lies b 8 (length b) records vxr (sound good at).has_shape.tiled (there vxr is_node) in omega (arith, l.high, lies vxr is_node)

    t : Touched b now records vxr
    t = touched (sound good at).has_shape.tiled (there vxr is_node) (omega arith) (omega (arith, lies vxr is_node)) set.changed set.as_long

    here_fields : SameFields b now vxr
    here_fields = record {
      room_is = room_stays b now vxr (16 * room) set.changed far;
      used_is = used_stays b now vxr (16 * room) set.changed far;
      count_is = front_stays b now vxr 28 (16 * room) set.changed far 24 4 (omega arith) ∙ counted_is vxr is_node;
      next_is = front_stays b now vxr 28 (16 * room) set.changed far 12 8 (omega arith);
    }

    fields : (m : ℕ) → In m nodes → SameFields b now m
    fields m i = elim (cases_eq m vxr) [
      | inl q ↦ subst (SameFields b now) (sym q) here_fields
      | inr ne ↦
          let n = same_node b now m (t.others m (there m i) ne) (node_fits m i) in
          record { room_is = n.room_is; used_is = n.used_is; count_is = n.count_is ∙ counted_is m i; next_is = n.next_is }
    ]

    -- another entry stays
    others : (m j : ℕ) → In m nodes → j < room_at b m → (m ≡ vxr → j ≢ p) → StillSays b now m j j
    others m j i lt apart = elim (cases_eq m vxr) [
      | inl q ↦ subst (λ (n : ℕ). StillSays b now n j j) (sym q) (set.others j (subst (λ (n : ℕ). j < room_at b n) q lt) (apart q))
      | inr ne ↦ (same_node b now m (t.others m (there m i) ne) (node_fits m i)).entries j lt
    ]

    still : (m j f l o : ℕ) → In m nodes → j < used_count b m → SaysEntry b m j f l o → (l < first) ⊎ In o nodes → SaysEntry now m j f l o
    still m j f l o i lt s which =
        let fit = (node_fits m i).1 in
        others m j i (omega (arith, fit, lt)) (λ q r. let s' : SaysEntry b vxr p f l o = rw (q, r) at s in elim which [
          | inl before ↦ let e : l ≡ high = sym s'.last_is ∙ says.last_is in omega (arith, e, before, reaches)
          | inr k ↦ no_node_there o (sym s'.offset_is ∙ says.offset_is) k
        ]) f l o s

    here : (m j f l o : ℕ) → In m nodes → At vxr p m j → SaysEntry b m j f l o → SaysEntry now m j f (first - 1) o
    here m j f l o i h s =
        let s' : SaysEntry b vxr p f l o = rw (h.0, h.1) at s in
        let e : f ≡ low = sym s'.first_is ∙ says.first_is in
        let d : o ≡ place = sym s'.offset_is ∙ says.offset_is in
        rw (h.0, h.1, e, d) set.here

    unused : (m j : ℕ) → In m nodes → used_count b m ≤ j → j < room_at b m → StillSays b now m j j
    unused m j i le lt = others m j i lt (λ q r. let u : used_count b m ≡ used_count b vxr = ap (used_count b) q in omega (arith, u, is_last, r, le))

    -- ---- the descriptor

    vdr_kept : Kept b now own.vdr
    vdr_kept = t.others own.vdr (tile good at) (λ q. vdr_no_node kind (sym (typed good at) ∙ ap (type_at b) q ∙ linkable-type b records vxr_type vxr (nodes_stand b records 8 own.index (has good at).indexed.has_nodes vxr is_node)))

    head : number now own.vdr vdr_vxr_head ≡ number b own.vdr vdr_vxr_head
    head = word_kept b now own.vdr (own.vdr + size_at b own.vdr) vdr_kept.same (own.vdr + 28) 8 (omega arith) (omega (arith, through 44 340 (size_at b own.vdr) (omega arith) (long good at)))

    tail : number now own.vdr vdr_vxr_tail ≡ number b own.vdr vdr_vxr_tail
    tail = word_kept b now own.vdr (own.vdr + size_at b own.vdr) vdr_kept.same (own.vdr + 36) 8 (omega arith) (omega (arith, through 44 340 (size_at b own.vdr) (omega arith) (long good at)))

    -- ---- the bytes

    marked : Marked b records marks [] (touched_field vxr (record { place = 28; width = 16 * room }))
    marked =
        let l = tile_lies b 8 (length b) records vxr (sound good at).has_shape.tiled (there vxr is_node) in
        record { inside = there vxr is_node; fits = omega (arith, lies vxr is_node); behind_size = omega arith; behind_type = inl (omega arith); covered = inr (inl (record { typed = linkable-type b records vxr_type vxr (nodes_stand b records 8 own.index (has good at).indexed.has_nodes vxr is_node); lies = is_node; low = omega arith; high = omega (arith, l.high, lies vxr is_node) })) }

    edit : Edit b now records records marks []
    edit = changed_edit b now records (touched_field vxr (record { place = 28; width = 16 * room }) ∷ []) marks [] (sound good at).has_shape.tiled set.as_long set.changed (marked, tt) (some_bytes b (shape b) (sound good at).has_shape)

    abbrev steps : List Rewrite
    steps = flat_map rewritten (plan_of (past_span first) 0 own.index)

    is_planned : In vxr (rewrite_places steps)
    is_planned =
        let is : nodes_of (cut (past_span first) own.index) ≡ nodes = ap nodes_of (cut_ended first (max first record_number_limit) own.index tidy begins_all) ∙ nodes_ended first own.index in
        let once = times-in vxr (nodes_of (cut (past_span first) own.index)) (subst (In vxr) (sym is) is_node) in
        in-times vxr (rewrite_places steps) (omega (arith, once, rewrites_stay vxr (past_span first) 0 own.index))

    changed : Changed b now (cut_touches own.vdr (plan_of (past_span first) 0 own.index))
    changed = record {
      longer = set.changed.longer;
      same = λ i lt o.
          let links = link_touches (flat_map relinked (plan_of (past_span first) 0 own.index)) in
          let front = Outside-append (rewrite_touches steps) links i (Outside-append (rewrite_touches steps ++ links) (links_touch own.vdr ∷ []) i o).0 in
          set.changed.same i lt (elim (outside_node b records steps vxr i (may_all (past_span first) good at (omega (arith, short))).0 is_planned front.0) [ inl x ↦ inl (omega (arith, x)) | inr x ↦ inr (omega (arith, x)) ], tt);
    }

    pub end_cut : CutPast b now kind before own (cut_off own first) after first
    end_cut = ended_past (record { fields = fields; still = still; here = here }) reach_all begins_all edit set.as_long (λ m i. t.heads.sizes m (there m i)) unused head tail changed
