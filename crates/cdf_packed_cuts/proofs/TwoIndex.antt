-- A leaf of a packed variable is given its records before a first one alone, and then all from this one on are cut: the index that is left is the one of a cut at once, and each block stands where it should.
use Rattle.std.proofs.Common.{Bool, List, [], ap, arith, false, inl, inr, map, refl, subst, sym, true, true≢false, ℕ, ◌-◌, ◌<◌, ◌∙◌, ◌∷◌, ◌≡◌, ◌≢◌, ◌≤◌, ◌⊎◌, ◌||◌}
use Rattle.std.specs.Prelude.{max, min}
use Rattle.cdf_edits.proofs.Common.{Act, Each, In, In-append, In-append_left, In-append_right, Kind, Leaf, Nodes, Variable, VariableShape, eq-eqb, is_in, is_in-true, leaves_of, ne_eqb, nodes_of, range, records_of_leaf, taken, type_at, variable_of}
use Rattle.cdf_edits.proofs.Edits.Common.{Each-in, each, places_of}
use Rattle.cdf_edits.proofs.Edits.LeafPieces.{InOrder as LeafInOrder, IsOneOf, each_of, in_order, leaf_at, place_in}
use Rattle.cdf_edits.proofs.Edits.LeafRecords.{count_is}
use Rattle.cdf_edits.proofs.Edits.PlainLeaves.{leaves_ascend}
use Rattle.cdf_edits.specs.Index.Blocks.{Range}
use Rattle.cdf_edits.specs.Index.Cut.{BlockPlaced, CutsIndex, IsNeeded, IsPart, IsPlaced, StaysWhole, index_records, is_whole}
use Rattle.cdf_edits.specs.Index.Grown.{cut_nodes, outline}
use Rattle.cdf_edits.specs.Index.Written.{AnyOf, block_need, is_given_at, stays_put}
use Rattle.cdf_edits.specs.Space.Acts.{Among}
use Rattle.cdf_leaves.proofs.Own.{own_node}
use Rattle.cdf_blocks.proofs.BlockOf.{block_typed}
use Rattle.cdf_blocks.proofs.EntryNamed.{no_node_type}
use Rattle.cdf_cuts.specs.Past.{before_first, cut_off}
use Rattle.cdf_packed_cuts.proofs.PlacedCut.{KeepsSame, cut_nodes_placed, cut_placed, nodes_within}
use Rattle.cdf_packed_cuts.proofs.TwoActs.{acts, first_acts, given_apart, given_stays, if_moved, if_stays, lasts, mid_kept, mid_left, mids, new_kept, new_left, next_acts, old_given, once, stays, taken_is}
use Rattle.cdf_packed_cuts.proofs.TwoSteps.{TwoSteps, apart_ranges, keeps_before, ordered, other_first, other_place, others_whole, part_is, sides, to_mid}
use Rattle.cdf_packed_cuts.proofs.TwoWritten.{end_now, stays_now}

-- ---- lists

pub any_of : (P : ℕ × ℕ → Type 0) (f : Leaf → ℕ × ℕ) (leaves : List Leaf) (l : Leaf) → IsOneOf leaves l → P (f l) → AnyOf P (map f leaves)
any_of P f [] l i p = absurd i
any_of P f (x ∷ xs) l (inl q) p = inl (subst (λ (y : Leaf). P (f y)) (sym q) p)
any_of P f (x ∷ xs) l (inr i) p = inr (any_of P f xs l i p)

or_either : (p q : Bool) → (p || q) ≡ true → (p ≡ true) ⊎ (q ≡ true)
or_either true q e = inl refl
or_either false q e = inr e

or_first : (p q : Bool) → p ≡ true → (p || q) ≡ true
or_first p q e = rw e refl

or_second : (p q : Bool) → q ≡ true → (p || q) ≡ true
or_second true q e = refl
or_second false q e = e

or_none : (p q : Bool) → p ≡ false → q ≡ false → (p || q) ≡ false
or_none p q e f = rw (e, f) refl

module _ {b mid now : List ℕ} {kind : Kind} {before : List VariableShape} {own : VariableShape} {after : List VariableShape} {first : ℕ} {old new : Leaf} {plain : List ℕ} (t : TwoSteps b mid now kind before own after first old new plain) where
  abbrev v : Variable
  v = variable_of b own

  abbrev own1 : VariableShape
  own1 = t.short.own'

  abbrev own2 : VariableShape
  own2 = cut_off t.short.own' first

  abbrev leaves : List Leaf
  leaves = leaves_of own.index

  abbrev keep : Range → List Range
  keep = before_first first

  abbrev news : List ℕ
  news = map (λ (take : ℕ × ℕ). take.0) (taken (acts t))

  -- ---- one leaf and the others

  ranges : (l : Leaf) → IsOneOf leaves l → LeafInOrder 0 2147483647 l
  ranges l i = ordered t.good t.among t.one t.short l i

  pub small : (l : Leaf) → IsOneOf leaves l → l.last ≤ 2147483646
  small l i = let before = (ranges l i).before in omega arith

  pub is_old : (l : Leaf) → IsOneOf leaves l → (l ≡ old) ⊎ (l ≡ old → ⊥)
  is_old l i = elim (sides t.good t.among t.one t.short l i) [
    | inl q ↦ inl q
    | inr side ↦ inr (λ q.
        (let o = (ranges old t.one).ordered in
        let f : l.first ≡ old.first = ap (λ (z : Leaf). z.first) q in
        let e : l.last ≡ old.last = ap (λ (z : Leaf). z.last) q in
        elim side [ inl lt ↦ omega (arith, o, lt, e) | inr lt ↦ omega (arith, o, lt, f) ]))
  ]

  -- two leaves that are left have not the same first record
  one_last : (n m : Leaf) → IsOneOf (lasts t) n → IsOneOf (lasts t) m → n.first ≡ m.first → n ≡ m
  one_last n m i j e =
      let ascend = leaves_ascend t.cut.goes_on.good t.cut.goes_on.among in
      let o = (in_order 0 2147483647 (lasts t) ascend n i).ordered in
      let p = (in_order 0 2147483647 (lasts t) ascend m j).ordered in
      elim (apart_ranges 0 2147483647 (lasts t) ascend n m i j) [
        | inl q ↦ q
        | inr side ↦ elim side [ inl lt ↦ absurd (omega (arith, o, lt, e)) | inr lt ↦ absurd (omega (arith, p, lt, e)) ]
      ]

  -- of another leaf all is left where a part is
  pub record IsWholeLeft (l n : Leaf) : Type 0 where
    pub same : n ≡ l
    pub ends : l.last < first
    pub there : IsOneOf (leaves_of t.short.own'.index) l

  pub other_part : (l n : Leaf) → IsOneOf leaves l → (l ≡ old → ⊥) → IsOneOf (lasts t) n → IsPart keep l n → IsWholeLeft l n
  other_part l n i ne j part =
      let p = part_is first l n (small l i) part in
      let reaches = p.reaches in
      let ends : l.last < first = elim (others_whole t.good t.among t.one t.short t.split t.last_is l i ne) [ inl lt ↦ lt | inr low ↦ absurd (omega arith) ] in
      let m = to_mid t.good t.among t.one t.short l i ne in
      record { same = one_last n l j (mid_left t l m ends) p.first_is; ends = ends; there = m }

  pub new_part : (n : Leaf) → IsOneOf (lasts t) n → IsPart keep old n → n ≡ new
  new_part n j part = let p = part_is first old n (small old t.one) part in one_last n new j (new_left t) (p.first_is ∙ sym t.first_is)

  not_whole : is_whole old new ≡ false
  not_whole =
      let o = (ranges old t.one).ordered in
      let le = small old t.one in
      let s = t.split.before in
      let r = t.split.behind in
      let f = t.first_is in
      let e = t.last_is in
      let was = count_is old (omega (arith, le)) o in
      let is = count_is new (omega (arith, le, e, r)) (omega (arith, f, s, e)) in
      ne_eqb (records_of_leaf new) (records_of_leaf old) (λ q. absurd (omega (arith, q, was, is, f, e, r, s, o)))

  -- ---- the index

  keeps_same : (news : List ℕ) → Each (KeepsSame news keep old.first new) leaves
  keeps_same news = each_of (KeepsSame news keep old.first new) leaves (λ l i e. elim (is_old l i) [
    | inl q ↦
        let le = small old t.one in
        let s = t.split.before in
        let r = t.split.behind in
        let f = t.first_is in
        let z = t.last_is in
        let ends : min new.last (first - 1) ≡ min old.last (first - 1) = omega (arith, z, r) in
        let of_new = keeps_before first new.first new.last (omega (arith, le, z, r)) (omega (arith, f, s)) in
        let of_old = keeps_before first old.first old.last le s in
        of_new ∙ (λ k. range (f k) (ends k) ∷ []) ∙ sym of_old ∙ ap (λ (y : Leaf). keep (range y.first y.last)) (sym q)
    | inr ne ↦ absurd (other_first t.good t.among t.one t.short l i ne e)
  ])

  pub outlined : outline news own2.index ≡ outline news (cut_nodes false keep own.index)
  outlined = ap (λ (y : Nodes). outline news (cut_nodes false keep y)) t.short.index_is ∙ cut_placed news keep old.first new own.index (keeps_same news)

  pub wanted_nodes : nodes_of own2.index ≡ nodes_of (cut_nodes false keep own.index)
  wanted_nodes = ap (λ (y : Nodes). nodes_of (cut_nodes false keep y)) t.short.index_is ∙ cut_nodes_placed keep old.first new own.index (keeps_same [])

  -- the nodes that are left were there
  pub was_node : (m : ℕ) → In m (nodes_of own2.index) → In m (nodes_of own.index)
  was_node m j = subst (In m) t.short.nodes_are (nodes_within keep own1.index m j)

  -- none of them stands where the block did
  pub node_apart : (m : ℕ) → In m (nodes_of own.index) → m ≢ old.place
  node_apart m j e = no_node_type old.packed (sym (block_typed t.good t.among old t.one) ∙ ap (type_at b) (sym e) ∙ (own_node t.good t.among m j).1)

  pub node_no_new : (m : ℕ) → In m (nodes_of own.index) → m ≢ new.place
  node_no_new m j e =
      let there = subst (In m) (sym t.short.nodes_are) j in
      no_node_type new.packed (sym (block_typed t.short.goes_on.good t.short.goes_on.among new t.short.one) ∙ ap (type_at mid) (sym e) ∙ (own_node t.short.goes_on.good t.short.goes_on.among m there).1)

  -- ---- what is taken and freed

  abbrev Freed : ℕ → Type 0
  Freed m = (is_in m (index_records own2.index) || is_given_at (acts t) m) ≡ true

  mid_freed : (m : ℕ) → In m (index_records own1.index) → (is_in m (index_records own2.index) || is_given_at (next_acts t) m) ≡ true
  mid_freed m j = Each-in (λ p. (is_in p (index_records own2.index) || is_given_at (next_acts t) p) ≡ true) (index_records own1.index) (t.cut.cuts v).frees m j

  freed_apart : (m : ℕ) → m ≢ old.place → In m (index_records own1.index) → Freed m
  freed_apart m ne j = rw (given_apart t m ne) (mid_freed m j)

  old_freed : Freed old.place
  old_freed = go (stays t) refl
    where
      go : (s : Bool) → stays t ≡ s → Freed old.place
      go true e =
          let place = t.short.place_is e in
          or_first (is_in old.place (index_records own2.index)) (is_given_at (acts t) old.place) (subst (λ (p : ℕ). is_in p (index_records own2.index) ≡ true) place (is_in-true new.place (index_records own2.index) (In-append_right new.place (nodes_of own2.index) (places_of (leaves_of own2.index)) (place_in (leaves_of own2.index) new (new_left t)))))
      go false e = or_second (is_in old.place (index_records own2.index)) (is_given_at (acts t) old.place) (old_given t e)

  block_freed : (m : ℕ) → In m (places_of leaves) → Freed m
  block_freed m i =
      let l = leaf_at leaves m i in
      elim (is_old l.0 l.1.0) [
        | inl q ↦ subst Freed (sym (l.1.1 ∙ ap (λ (z : Leaf). z.place) q)) old_freed
        | inr ne ↦
            let there = to_mid t.good t.among t.one t.short l.0 l.1.0 ne in
            let apart = other_place t.good t.among t.one t.short l.0 l.1.0 ne in
            subst Freed (sym l.1.1) (freed_apart l.0.place apart (In-append_right l.0.place (nodes_of own1.index) (places_of (leaves_of own1.index)) (place_in (leaves_of own1.index) l.0 there)))
      ]

  all_freed : (m : ℕ) → In m (index_records own.index) → Freed m
  all_freed m i = elim (In-append m (nodes_of own.index) (places_of leaves) i) [
    | inl j ↦ freed_apart m (node_apart m j) (In-append_left m (nodes_of own1.index) (places_of (leaves_of own1.index)) (subst (In m) (sym t.short.nodes_are) j))
    | inr j ↦ block_freed m j
  ]

  needed : Each (IsNeeded v own2.index) (taken (acts t))
  needed = subst (Each (IsNeeded v own2.index)) (sym (taken_is t)) (go (stays t) refl)
    where
      go : (s : Bool) → stays t ≡ s → Each (IsNeeded v own2.index) (taken (first_acts t))
      go true e = subst (λ (xs : List Act). Each (IsNeeded v own2.index) (taken xs)) (sym (if_stays t e)) tt
      go false e = subst (λ (xs : List Act). Each (IsNeeded v own2.index) (taken xs)) (sym (if_moved t e)) (inr (any_of _ _ (leaves_of own2.index) new (new_left t) (refl, (omega (arith, t.short.most, t.long), λ q. absurd (true≢false (sym t.rle ∙ q))))), tt)

  stand : (m : ℕ) → In m (nodes_of (cut_nodes false keep own.index)) → is_given_at (acts t) m ≡ false
  stand m j =
      let k = subst (In m) (sym wanted_nodes) j in
      given_apart t m (node_apart m (was_node m k)) ∙ Each-in (λ p. is_given_at (next_acts t) p ≡ false) (nodes_of own2.index) (t.cut.cuts v).stand m k

  other_kept : (l : Leaf) → IsOneOf leaves l → (l ≡ old → ⊥) → IsOneOf (mids t) l → l.last < first → is_given_at (acts t) l.place ≡ false
  other_kept l i ne j lt = given_apart t l.place (other_place t.good t.among t.one t.short l i ne) ∙ mid_kept t l j lt

  stay : (l n : Leaf) → IsOneOf leaves l → IsOneOf (lasts t) n → StaysWhole v keep (acts t) l n
  stay l n i j part whole = elim (is_old l i) [
    | inl q ↦
        let p : IsPart keep old n = subst (λ (y : Leaf). IsPart keep y n) q part in
        let is = new_part n j p in
        let all : (is_whole l n || false) ≡ true = rw t.rle at whole in
        let two : is_whole l n ≡ is_whole old new = λ k. is_whole (q k) (is k) in
        let none : (is_whole l n || false) ≡ false = rw (two, not_whole) refl in
        absurd (true≢false (sym all ∙ none))
    | inr ne ↦
        let w = other_part l n i ne j part in
        (ap (λ (y : Leaf). y.place) w.same, ap (λ (y : Leaf). y.packed) w.same, other_kept l i ne w.there w.ends)
  ]

  pub cuts : CutsIndex v keep own.index (cut_nodes false keep own.index) own2.index (acts t)
  cuts = record {
    index_is = outlined;
    apart = (t.cut.cuts v).apart;
    once = once t (t.cut.cuts v).once;
    frees = each Freed (index_records own.index) all_freed;
    takes = needed;
    stand = each (λ m. is_given_at (acts t) m ≡ false) (nodes_of (cut_nodes false keep own.index)) stand;
    stay = each_of (λ o. Each (StaysWhole v keep (acts t) o) (lasts t)) leaves (λ l i. each_of (StaysWhole v keep (acts t) l) (lasts t) (λ n j. stay l n i j));
  }

  -- ---- where each block stands

  new_stands : BlockPlaced now own2.vdr (acts t) old new (stays t)
  new_stands = go (stays t) refl
    where
      go : (s : Bool) → stays t ≡ s → BlockPlaced now own2.vdr (acts t) old new s
      go true e = let place = t.short.place_is e in (place, given_stays t e old.place ∙ subst (λ (p : ℕ). is_given_at (next_acts t) p ≡ false) place (new_kept t))
      go false e = subst (Among (new.place, block_need now own2.vdr new)) (sym (taken_is t ∙ ap taken (if_moved t e))) (inl (λ k. (new.place, max 28 (end_now t k))))

  old_placed : (n : Leaf) → n ≡ new → BlockPlaced now own2.vdr (acts t) old n (is_whole old n || stays_put b now v.rle own2.vdr old n)
  old_placed n q = subst (λ (y : Leaf). BlockPlaced now own2.vdr (acts t) old y (is_whole old y || stays_put b now v.rle own2.vdr old y)) (sym q) (rw (not_whole, t.rle, stays_now t) new_stands)

  placed : (l n : Leaf) → IsOneOf leaves l → IsOneOf (lasts t) n → IsPlaced b now v own2.vdr keep (acts t) l n
  placed l n i j part = elim (is_old l i) [
    | inl q ↦ subst (λ (y : Leaf). BlockPlaced now own2.vdr (acts t) y n (is_whole y n || stays_put b now v.rle own2.vdr y n)) (sym q) (old_placed n (new_part n j (subst (λ (y : Leaf). IsPart keep y n) q part)))
    | inr ne ↦
        let w = other_part l n i ne j part in
        let all : is_whole l n ≡ true = ap (is_whole l) w.same ∙ eq-eqb (records_of_leaf l) (records_of_leaf l) refl in
        rw all (ap (λ (y : Leaf). y.place) w.same, other_kept l i ne w.there w.ends)
  ]

  pub all_placed : Each (λ o. Each (IsPlaced b now v own2.vdr keep (acts t) o) (lasts t)) leaves
  all_placed = each_of (λ o. Each (IsPlaced b now v own2.vdr keep (acts t) o) (lasts t)) leaves (λ l i. each_of (IsPlaced b now v own2.vdr keep (acts t) l) (lasts t) (λ n j. placed l n i j))

  -- a block of which some records go is the one that was shortened
  pub part_of_old : (l n : Leaf) → IsOneOf leaves l → IsOneOf (lasts t) n → IsPart keep l n → is_whole l n ≡ false → (l ≡ old) × (n ≡ new)
  part_of_old l n i j part some = elim (is_old l i) [
    | inl q ↦ (q, new_part n j (subst (λ (y : Leaf). IsPart keep y n) q part))
    | inr ne ↦
        let w = other_part l n i ne j part in
        absurd (true≢false (sym (ap (is_whole l) w.same ∙ eq-eqb (records_of_leaf l) (records_of_leaf l) refl) ∙ some))
  ]
