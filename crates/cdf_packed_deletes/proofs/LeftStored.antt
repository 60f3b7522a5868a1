-- Records went from a packed variable and later ones closed up: what is stored then as each record, and which blocks stayed.
use Rattle.cdf_edits.proofs.Common.{Act, Bool, Good, In, Kind, Leaf, List, Option, None, Some, Stays, VariableShape, [], ap, arith, cases_lt, either, filter, find, flat_map, image_limit, inl, inr, leaves_of, length, nat_lt, record_bytes, record_number_limit, refl, shared, stored_bytes, subst, suc, sym, true, ℕ, ◌&&◌, ◌++◌, ◌+◌, ◌-◌, ◌<◌, ◌∙◌, ◌∷◌, ◌≡◌, ◌≢◌, ◌≤◌, ◌⊎◌}
use Rattle.cdf_edits.proofs.Edits.Common.{StandsAmong, places_of, stays_then}
use Rattle.cdf_edits.proofs.Edits.LeafPieces.{IsOneOf, in_order}
use Rattle.cdf_edits.proofs.Edits.PlainLeaves.{leaves_ascend}
use Rattle.cdf_edits.specs.Commands.Deleting.{untouched}
use Rattle.cdf_edits.specs.Commands.PutSteps.{Stage}
use Rattle.cdf_cuts.proofs.ClosedUp.{risen, risen_is}
use Rattle.cdf_packed_cuts.proofs.TwoSteps.{apart_ranges}
use Rattle.cdf_packed_deletes.proofs.CutStep.{cut_block, cut_place, stored_cut}
use Rattle.cdf_packed_deletes.proofs.KeepAlong.{CprStays, KeptSo, Reached, cpr_then, kept_along, kept_first}
use Rattle.cdf_packed_deletes.proofs.KeepStep.{back_first, both_last, from_new, front_last, stored_back, stored_front, stored_high, stored_low, stored_past}
use Rattle.cdf_packed_deletes.proofs.LeafKinds.{IsApart, IsInside, IsRanged, NoSide, OneBoth, OneSide, TwoSides, other_kinds, parts_back, parts_both, parts_front, sides}
use Rattle.cdf_packed_deletes.specs.Closing.{PackedClosed, closed_acts, keeping}
use Rattle.cdf_packed_deletes.specs.Steps.{CutsWhole, KeepSome, KeepsSome, freed_from, keeps_some}
use Rattle.cdf_put_steps.proofs.GoesAlong.{goes_along}
use Rattle.cdf_put_steps.specs.Along.{GoAlong}
use Rattle.cdf_puts.specs.Going.{GoesOn, found_in}

-- ---- the leaves that keep some

pub in_kept : (p : Leaf → Bool) (xs : List Leaf) (l : Leaf) → IsOneOf xs l → p l ≡ true → IsOneOf (filter p xs) l
in_kept p [] l i e = absurd i
in_kept p (x ∷ xs) l (inl q) e = let t : p x ≡ true = ap p q ∙ e in rw t (inl q)
in_kept p (x ∷ xs) l (inr i) e = elim (either (p x)) [ inl t ↦ rw t (inr (in_kept p xs l i e)) | inr f ↦ rw f (in_kept p xs l i e) ]

pub kept_says : (p : Leaf → Bool) (xs : List Leaf) (l : Leaf) → IsOneOf (filter p xs) l → p l ≡ true
kept_says p [] l i = absurd i
kept_says p (x ∷ xs) l i = elim (either (p x)) [
  | inl t ↦ (let j : IsOneOf (x ∷ filter p xs) l = rw t at i in elim j [ inl q ↦ ap p (sym q) ∙ t | inr k ↦ kept_says p xs l k ])
  | inr f ↦ (let j : IsOneOf (filter p xs) l = rw f at i in kept_says p xs l j)
]

module _ (b : List ℕ) (kind : Kind) (before : List VariableShape) (own : VariableShape) (after : List VariableShape) (first last : ℕ) where
  none_then : (from : Stage) (stages : List Stage) (to : Stage) → KeepSome (found_in b kind before own) true first last [] from stages to → from ≡ to
  none_then from [] to e = e
  none_then from (next ∷ more) to e = absurd e

  record OneStep (old : Leaf) (from to : Stage) : Type 0 where
    pub step : KeepsSome (found_in b kind before own) true first last old from to
    pub goes : GoesOn from.image to.image kind before from.own to.own after to.acts

  one_then : (old : Leaf) (from : Stage) (stages : List Stage) (to left : Stage) → KeepSome (found_in b kind before own) true first last (old ∷ []) from stages to → GoAlong kind before after from (stages ++ left ∷ []) → OneStep old from to
  one_then old from [] to left e go = absurd e
  one_then old from (next ∷ more) to left e go = subst (OneStep old from) (none_then next more to e.1) (record { step = e.0; goes = go.0 })

  record TwoSteps (front back : Leaf) (from to : Stage) : Type 0 where
    pub mid : Stage
    pub step : KeepsSome (found_in b kind before own) true first last front from mid
    pub goes : GoesOn from.image mid.image kind before from.own mid.own after mid.acts
    pub next : OneStep back mid to

  two_then : (front back : Leaf) (from : Stage) (stages : List Stage) (to left : Stage) → KeepSome (found_in b kind before own) true first last (front ∷ back ∷ []) from stages to → GoAlong kind before after from (stages ++ left ∷ []) → TwoSteps front back from to
  two_then front back from [] to left e go = absurd e
  two_then front back from (next ∷ more) to left e go = record { mid = next; step = e.0; goes = go.0; next = one_then back next more to left e.1 go.1 }

-- ---- what is left

abbrev pub stored_in : List ℕ → VariableShape → Stage → ℕ → Option (List ℕ)
stored_in b own stage j = stored_bytes stage.image stage.own.vdr (record_bytes b own.vdr) (leaves_of stage.own.index) j

pub record LeftSo (b : List ℕ) (kind : Kind) (before : List VariableShape) (own : VariableShape) (after : List VariableShape) (first last : ℕ) (order : first ≤ last) (left : Stage) (acts : List Act) : Type 0 where
  pub goes : GoesOn b left.image kind before own left.own after acts
  pub cpr : CprStays b own left
  pub blocks : (l : Leaf) → IsOneOf (leaves_of own.index) l → IsApart first last l → In l.place (places_of (leaves_of left.own.index)) × Stays b left.image l.place []
  pub stored : (k : ℕ) → stored_in b own left k ≡ stored_bytes b own.vdr (record_bytes b own.vdr) (leaves_of own.index) (risen first last order k)

module _ {b mid : List ℕ} {kind : Kind} {before : List VariableShape} {own : VariableShape} {after : List VariableShape} {first last : ℕ} (good : Good b) (at : StandsAmong b kind before own after) (order : first ≤ last) (short : length b ≤ image_limit) (c : PackedClosed b mid kind before own after first last) where
  abbrev leaves : List Leaf
  leaves = leaves_of own.index

  abbrev start : Stage
  start = untouched b own

  abbrev keeps : Leaf → Bool
  keeps l = keeps_some true first last l

  abbrev acts : List Act
  acts = flat_map (λ (stage : Stage). stage.acts) c.stages

  begin : KeptSo b kind before own after first last start []
  begin = kept_first good at first last short

  reached : Reached good at first last order start c.kept c.left [] c.stages
  reached = kept_along good at first last order (keeping first last leaves) start c.stages c.kept c.left [] begin (kept_says keeps leaves) c.keep c.go

  ranged : (l : Leaf) → IsOneOf leaves l → IsRanged l
  ranged l i = let o = in_order 0 (suc record_number_limit) leaves (leaves_ascend good at) l i in record { ordered = o.ordered; small = omega (arith, o.before) }

  -- a leaf that is not among those that keep some
  unkept : (l : Leaf) → IsOneOf leaves l → (IsOneOf (keeping first last leaves) l → ⊥) → IsApart first last l ⊎ IsInside first last l
  unkept l i out = elim (either (keeps l)) [
    | inl t ↦ absurd (out (in_kept keeps leaves l i t))
    | inr f ↦ other_kinds first last order l (ranged l i) f
  ]

  side : (k : ℕ) → (risen first last order k < first) ⊎ (last < risen first last order k)
  side k = elim (risen_is first last order k) [ inl x ↦ inl (omega (arith, x.0, x.1)) | inr x ↦ inr (omega (arith, x.0, x.1, order)) ]

  -- ---- once no leaf is cut in part

  module _ (f t : ℕ) (ord : f ≤ t) (cuts : CutsWhole (found_in b kind before own) true f t c.kept c.left) (whole : (l : Leaf) → IsOneOf (leaves_of c.kept.own.index) l → IsApart f t l ⊎ IsInside f t l) (apart : (l : Leaf) → IsOneOf leaves l → IsApart first last l → IsApart f t l)
      (stored : (k : ℕ) → stored_in b own c.kept (risen f t ord k) ≡ stored_bytes b own.vdr (record_bytes b own.vdr) leaves (risen first last order k)) where
    block_left : (l : Leaf) → IsOneOf leaves l → IsApart first last l → In l.place (places_of (leaves_of c.left.own.index)) × Stays b c.left.image l.place []
    block_left l i a =
        let was = reached.so.blocks l i a in
        let off = apart l i a in
        let now = cut_block f t ord c.kept c.left acts reached.so.goes cuts reached.on whole l was.0 off in
        (cut_place f t ord c.kept c.left acts reached.so.goes cuts reached.on whole l was.0 off, stays_then b c.kept.image c.left.image l.place [] [] [] was.1 now (λ k out. (tt, tt)))

    left_by : LeftSo b kind before own after first last order c.left (closed_acts c)
    left_by = record {
      goes = goes_along good at reached.so.goes reached.on;
      cpr = cpr_then c.kept c.left acts reached.so.goes reached.so.cpr (λ r. nat_lt 0 (shared f t r)) cuts.goes.keeps reached.on;
      blocks = block_left;
      stored = λ k. stored_cut f t ord c.kept c.left acts reached.so.goes cuts reached.on whole k ∙ stored k;
    }

  -- ---- where no leaf has records on both sides

  abbrev Freed : ℕ → Type 0
  Freed f = CutsWhole (found_in b kind before own) true f (f + (last - first)) c.kept c.left

  freed_first : find (λ (l : Leaf). nat_lt l.first first && nat_lt last l.last) leaves ≡ None → freed_from true first last leaves ≡ first
  freed_first e = ap (λ (o : Option Leaf). elim o as (λ y. ℕ) [ None ↦ first | Some l ↦ l.last - (last - first) ]) e

  cuts_same : find (λ (l : Leaf). nat_lt l.first first && nat_lt last l.last) leaves ≡ None → CutsWhole (found_in b kind before own) true first last c.kept c.left
  cuts_same e =
      let z : first + (last - first) ≡ last = omega (arith, order) in
      subst (λ (t : ℕ). CutsWhole (found_in b kind before own) true first t c.kept c.left) z (subst Freed (freed_first e) c.cuts)

  abbrev Whole : Type 0
  Whole = (l : Leaf) → IsOneOf (leaves_of c.kept.own.index) l → IsApart first last l ⊎ IsInside first last l

  abbrev Same : Type 0
  Same = (j : ℕ) → (j < first) ⊎ (last < j) → stored_in b own c.kept j ≡ stored_bytes b own.vdr (record_bytes b own.vdr) leaves j

  left_same : find (λ (l : Leaf). nat_lt l.first first && nat_lt last l.last) leaves ≡ None → Whole → Same → LeftSo b kind before own after first last order c.left (closed_acts c)
  left_same e whole same = left_by first last order (cuts_same e) whole (λ l i a. a) (λ k. same (risen first last order k) (side k))

  none_side : NoSide first last order leaves → LeftSo b kind before own after first last order c.left (closed_acts c)
  none_side n =
      let is = none_then b kind before own after first last start c.stages c.kept (subst (λ (ls : List Leaf). KeepSome (found_in b kind before own) true first last ls start c.stages c.kept) n.keeping_is c.keep) in
      let out : (l : Leaf) → IsOneOf (keeping first last leaves) l → ⊥ = λ l j. subst (λ (ls : List Leaf). IsOneOf ls l) n.keeping_is j in
      left_same n.none (subst (λ (s : Stage). (l : Leaf) → IsOneOf (leaves_of s.own.index) l → IsApart first last l ⊎ IsInside first last l) is (λ l i. unkept l i (out l)))
      (subst (λ (s : Stage). (j : ℕ) → (j < first) ⊎ (last < j) → stored_in b own s j ≡ stored_bytes b own.vdr (record_bytes b own.vdr) leaves j) is (λ j s. refl))

  one_step : (old : Leaf) → keeping first last leaves ≡ old ∷ [] → OneStep b kind before own after first last old start c.kept
  one_step old e = one_then b kind before own after first last old start c.stages c.kept c.left (subst (λ (ls : List Leaf). KeepSome (found_in b kind before own) true first last ls start c.stages c.kept) e c.keep) c.go

  other_one : (old : Leaf) → keeping first last leaves ≡ old ∷ [] → (l : Leaf) → l.first ≢ old.first → IsOneOf (keeping first last leaves) l → ⊥
  other_one old e l ne j = elim (subst (λ (ls : List Leaf). IsOneOf ls l) e j) [ inl q ↦ ne (ap (λ (z : Leaf). z.first) (sym q)) | inr none ↦ none ]

  one_side : OneSide first last order leaves → LeftSo b kind before own after first last order c.left (closed_acts c)
  one_side n = elim n.side [
    | inl k ↦ left_same n.none (λ m j. elim (from_new good at first last start c.kept [] begin.goes n.one s.step s.goes m j) [
      | inl q ↦ inl (inl (subst (λ (z : Leaf). z.last < first) (sym q) (omega (arith, front_last good at first last start c.kept [] begin.goes n.one s.step s.goes (k.0, k.1) (parts_front first last order n.one k)))))
      | inr other ↦ unkept m other.0 (other_one n.one n.keeping_is m other.1)
    ]) (λ j a. stored_front good at first last start c.kept [] begin.goes n.one s.step s.goes (k.0, k.1) (parts_front first last order n.one k) j (elim a [ inl lt ↦ inl lt | inr lt ↦ inr (omega (arith, lt, k.2)) ]))
    | inr k ↦ left_same n.none (λ m j. elim (from_new good at first last start c.kept [] begin.goes n.one s.step s.goes m j) [
      | inl q ↦ inl (inr (subst (λ (z : Leaf). last < z.first) (sym q) (omega (arith, back_first good at first last start c.kept [] begin.goes n.one s.step s.goes k (parts_back first last order n.one k)))))
      | inr other ↦ unkept m other.0 (other_one n.one n.keeping_is m other.1)
    ]) (stored_back good at first last start c.kept [] begin.goes n.one s.step s.goes k (parts_back first last order n.one k))
  ]
    where
      s : OneStep b kind before own after first last n.one start c.kept
      s = one_step n.one n.keeping_is

  two_sides : TwoSides first last order leaves → LeftSo b kind before own after first last order c.left (closed_acts c)
  two_sides n = left_same n.none whole same
    where
      s : TwoSteps b kind before own after first last n.front n.back start c.kept
      s = two_then b kind before own after first last n.front n.back start c.stages c.kept c.left (subst (λ (ls : List Leaf). KeepSome (found_in b kind before own) true first last ls start c.stages c.kept) n.keeping_is c.keep) c.go

      there : GoesOn b s.mid.image kind before own s.mid.own after ([] ++ s.mid.acts)
      there = goes_along good at begin.goes s.goes

      out : (l : Leaf) → l.first ≢ n.front.first → l.first ≢ n.back.first → IsOneOf (keeping first last leaves) l → ⊥
      out l ne ne' j = elim (subst (λ (ls : List Leaf). IsOneOf ls l) n.keeping_is j) [
        | inl q ↦ ne (ap (λ (z : Leaf). z.first) (sym q))
        | inr k ↦ elim k [ inl q ↦ ne' (ap (λ (z : Leaf). z.first) (sym q)) | inr none ↦ none ]
      ]

      whole : Whole
      whole m j = elim (from_new good at first last s.mid c.kept ([] ++ s.mid.acts) there n.back s.next.step s.next.goes m j) [
        | inl q ↦ inl (inr (subst (λ (z : Leaf). last < z.first) (sym q) (omega (arith, back_first good at first last s.mid c.kept ([] ++ s.mid.acts) there n.back s.next.step s.next.goes n.behind (parts_back first last order n.back n.behind)))))
        | inr other ↦ elim (from_new good at first last start s.mid [] begin.goes n.front s.step s.goes m other.0) [
          | inl q ↦ inl (inl (subst (λ (z : Leaf). z.last < first) (sym q) (omega (arith, front_last good at first last start s.mid [] begin.goes n.front s.step s.goes (n.before.0, n.before.1) (parts_front first last order n.front n.before)))))
          | inr more ↦ unkept m more.0 (out m more.1 other.1)
        ]
      ]

      same : Same
      same j a = stored_back good at first last s.mid c.kept ([] ++ s.mid.acts) there n.back s.next.step s.next.goes n.behind (parts_back first last order n.back n.behind) j a ∙ stored_front good at first last start s.mid [] begin.goes n.front s.step s.goes (n.before.0, n.before.1) (parts_front first last order n.front n.before) j (elim a [ inl lt ↦ inl lt | inr lt ↦ inr (omega (arith, lt, n.before.2)) ])

  -- ---- where one has

  freed_both : (one : Leaf) → find (λ (l : Leaf). nat_lt l.first first && nat_lt last l.last) leaves ≡ Some one → freed_from true first last leaves ≡ one.last - (last - first)
  freed_both one e = ap (λ (o : Option Leaf). elim o as (λ y. ℕ) [ None ↦ first | Some l ↦ l.last - (last - first) ]) e

  low_is : (k : ℕ) → k < first → risen first last order k ≡ k
  low_is k lt = elim (risen_is first last order k) [ inl x ↦ x.1 | inr x ↦ absurd (omega (arith, x.0, lt)) ]

  high_is : (k : ℕ) → first ≤ k → risen first last order k ≡ k + (last + 1 - first)
  high_is k ge = elim (risen_is first last order k) [ inl x ↦ absurd (omega (arith, x.0, ge)) | inr x ↦ x.1 ]

  one_both : OneBoth first last order leaves → LeftSo b kind before own after first last order c.left (closed_acts c)
  one_both n = left_by f t ord cuts whole apart stored
    where
      t : ℕ
      t = n.one.last

      f : ℕ
      f = n.one.last - (last - first)

      ord : f ≤ t
      ord = omega arith

      cuts : CutsWhole (found_in b kind before own) true f t c.kept c.left
      cuts =
          let z : f + (last - first) ≡ t = omega (arith, order, n.both.1) in
          subst (λ (u : ℕ). CutsWhole (found_in b kind before own) true f u c.kept c.left) z (subst Freed (freed_both n.one n.found) c.cuts)

      s : OneStep b kind before own after first last n.one start c.kept
      s = one_step n.one n.keeping_is

      new_last : s.step.new.last + 1 ≡ n.one.last - (last - first)
      new_last = omega (arith, both_last good at first last start c.kept [] begin.goes n.one s.step s.goes order n.both (parts_both first last order n.one n.both), n.both.1, order)

      beside : (l : Leaf) → IsOneOf leaves l → (l ≡ n.one → ⊥) → IsApart f t l
      beside l i ne = elim (apart_ranges 0 (suc record_number_limit) leaves (leaves_ascend good at) l n.one i n.is_one) [
        | inl q ↦ absurd (ne q)
        | inr side ↦ elim side [ inl lt ↦ inl (omega (arith, lt, n.both.0, n.both.1, order)) | inr lt ↦ inr lt ]
      ]

      whole : (l : Leaf) → IsOneOf (leaves_of c.kept.own.index) l → IsApart f t l ⊎ IsInside f t l
      whole m j = elim (from_new good at first last start c.kept [] begin.goes n.one s.step s.goes m j) [
        | inl q ↦ inl (inl (subst (λ (z : Leaf). z.last < f) (sym q) (omega (arith, new_last))))
        | inr other ↦ inl (beside m other.0 (λ q. other.1 (ap (λ (z : Leaf). z.first) q)))
      ]

      met : (l : Leaf) → l ≡ n.one → IsApart first last l → ⊥
      met l q a =
          let p : l.first ≡ n.one.first = ap (λ (z : Leaf). z.first) q in
          let r : l.last ≡ n.one.last = ap (λ (z : Leaf). z.last) q in
          elim a [ inl lt ↦ omega (arith, lt, r, n.both.1, order) | inr lt ↦ omega (arith, lt, p, n.both.0, order) ]

      apart : (l : Leaf) → IsOneOf leaves l → IsApart first last l → IsApart f t l
      apart l i a = beside l i (λ q. met l q a)

      was : ℕ → Option (List ℕ)
      was j = stored_bytes b own.vdr (record_bytes b own.vdr) leaves j

      stored : (k : ℕ) → stored_in b own c.kept (risen f t ord k) ≡ was (risen first last order k)
      stored k = elim (risen_is f t ord k) [
        | inl x ↦ elim (cases_lt k first) [
          | inl lt ↦ ap (stored_in b own c.kept) x.1 ∙ stored_low good at first last start c.kept [] begin.goes n.one s.step s.goes order n.both (parts_both first last order n.one n.both) k lt ∙ ap was (sym (low_is k lt))
          | inr ge ↦ ap (stored_in b own c.kept) x.1 ∙ stored_high good at first last start c.kept [] begin.goes n.one s.step s.goes order n.both (parts_both first last order n.one n.both) k ge (omega (arith, x.0, new_last)) ∙ ap was (sym (high_is k ge))
        ]
        | inr x ↦
            let up : risen f t ord k ≡ k + (last + 1 - first) = omega (arith, x.1, n.both.1, order) in
            ap (stored_in b own c.kept) up ∙ stored_past good at first last start c.kept [] begin.goes n.one s.step s.goes order n.both (parts_both first last order n.one n.both) (k + (last + 1 - first)) (omega (arith, x.0, n.both.1, order)) ∙ ap was (sym (high_is k (omega (arith, x.0, n.both.1, order))))
      ]

  -- ---- in any case

  pub left_so : LeftSo b kind before own after first last order c.left (closed_acts c)
  left_so = elim (sides first last order 0 leaves (leaves_ascend good at)) [
    | inl n ↦ none_side n
    | inr x ↦ elim x [
      | inl n ↦ one_both n
      | inr y ↦ elim y [ inl n ↦ one_side n | inr n ↦ two_sides n ]
    ]
  ]
