-- The leaves that keep some of their records are given these: none, one or two of them, or the one that has records on both sides of those that go; later records keep their numbers.
use Rattle.std.proofs.Common.{List, None, Option, Some, [], ap, arith, false, inl, inr, length, refl, subst, sym, ℕ, ◌+◌, ◌-◌, ◌<◌, ◌∙◌, ◌∷◌, ◌≡◌, ◌≢◌, ◌≤◌}
use Rattle.std.proofs.lemmas.Bool.{cases_eq}
use Rattle.cdf_edits.proofs.Common.{Each, Good, Kind, Leaf, VariableShape, image_limit, leaves_of, le-ltb, lt-ltb, record_bytes}
use Rattle.cdf_edits.proofs.Edits.Common.{StandsAmong}
use Rattle.cdf_edits.proofs.Edits.LeafPieces.{IsOneOf, each_of}
use Rattle.cdf_cuts.specs.Past.{EndsOrGoes}
use Rattle.cdf_edits.specs.Commands.Deleting.{untouched}
use Rattle.cdf_edits.specs.Commands.PutSteps.{Stage}
use Rattle.cdf_puts.specs.Going.{found_in}
use Rattle.cdf_puts.specs.SoFar.{taken_bytes}
use Rattle.std.specs.List.{flat_map}
use Rattle.cdf_packed_cuts.proofs.TwoSteps.{from_mid, to_mid}
use Rattle.cdf_packed_cuts.specs.Past.{IsSplit}
use Rattle.cdf_packed_deletes.proofs.OpenChain.{OpenChain, open_more, open_none}
use Rattle.cdf_packed_deletes.proofs.OpenSides.{none_both, one_both, opening_none, opening_one, opening_two}
use Rattle.cdf_packed_deletes.proofs.KeptSides.{apart_firsts, edge_other, no_back, no_front, one_first, ordered, sides_by, small}
use Rattle.cdf_packed_deletes.specs.Opening.{keeping_open, keeping_open_room}
use Rattle.cdf_packed_deletes.specs.Keeping.{IsAllOrNone, IsCutIn, first_kept}
use Rattle.cdf_packed_deletes.specs.OpenKeeping.{IsSplitOff, LaterIs, OpenedAt, PartOpened, SomeOpened, SplitsLater, last_open}
use Rattle.cdf_packed_deletes.specs.declared.opening.Later.{Later}
use Rattle.cdf_packed_deletes.specs.Steps.{KeepSome, with_both}

module _ {b : List ℕ} {kind : Kind} {before : List VariableShape} {own : VariableShape} {after : List VariableShape} {first last : ℕ} (good : Good b) (at : StandsAmong b kind before own after) (short : length b ≤ image_limit) (order : first ≤ last) where
  abbrev leaves : List Leaf
  leaves = leaves_of own.index

  kept_by_chain : {now : List ℕ} {end : VariableShape} (ls : List Leaf) → OpenChain b now kind before own end after first last ls → keeping_open first last leaves ≡ ls → (later : Option Later) → LaterIs b own end first last later → ((m : Leaf) → IsOneOf (leaves_of end.index) m → IsAllOrNone first last m) → SomeOpened b now kind before own after first last later
  kept_by_chain {now = now} {end = end} ls c e later later_is whole = record {
    stages = c.stages;
    kept = c.kept;
    keep = subst (λ (xs : List Leaf). KeepSome (found_in b kind before own) false first last xs (untouched b own) c.stages c.kept) (sym e) c.keep;
    takes = subst (λ (xs : List Leaf). taken_bytes (flat_map (λ (s : Stage). s.acts) c.stages) ≤ keeping_open_room (record_bytes b own.vdr) first last xs) (sym e) c.takes;
    longer = subst (λ (xs : List Leaf). length now ≤ length b + keeping_open_room (record_bytes b own.vdr) first last xs) (sym e) c.longer;
    go = c.go;
    image_is = c.image_is;
    good = c.good;
    among = subst (λ (o : VariableShape). StandsAmong now kind before o after) (sym c.own_is) c.among;
    vdr_is = ap (λ (o : VariableShape). o.vdr) c.own_is ∙ c.vdr_is;
    small = c.small;
    size_is = ap (λ (o : VariableShape). record_bytes now o.vdr) c.own_is ∙ c.size_is;
    whole = subst (λ (o : VariableShape). Each (IsAllOrNone first last) (leaves_of o.index)) (sym c.own_is) (each_of (IsAllOrNone first last) (leaves_of end.index) whole);
    later_is = subst (λ (o : VariableShape). LaterIs b own o first last later) (sym c.own_is) later_is;
    max_rec_is = c.max_rec_is;
    r_max_rec_is = c.r_max_rec_is;
  }

  start : OpenChain b b kind before own own after first last []
  start = open_none first last order good at short

  -- ---- no leaf has the first edge

  module _ (none : (l : Leaf) → IsOneOf leaves l → EndsOrGoes first l) where
    front_less : with_both first last leaves ≡ None
    front_less = none_both good at order (λ l i. no_front l order (none l i))

    neither : ((l : Leaf) → IsOneOf leaves l → EndsOrGoes (last + 1) l) → SomeOpened b b kind before own after first last None
    neither no_end = kept_by_chain [] start (opening_none good at order (λ l i. sides_by l order (none l i) (no_end l i))) None front_less (λ m i. sides_by m order (none m i) (no_end m i))

    back_only : {now : List ℕ} (z : Leaf) → IsOneOf leaves z → IsCutIn first last z → IsSplit (last + 1) z → PartOpened b now kind before own after z first last → SomeOpened b now kind before own after first last None
    back_only z k cut split p =
        let c = open_more first last order [] start z k cut (ordered good at z k) (small good at z k) p in
        let others : (l : Leaf) → IsOneOf leaves l → l.first ≢ z.first → IsAllOrNone first last l = λ l i ne. sides_by l order (none l i) (edge_other good at z k split l i ne) in
        kept_by_chain (z ∷ []) c (opening_one good at order z k cut others) None front_less (λ m j. elim (from_mid good at k p.short m j) [
          | inl q ↦ inr (inl (begins m q))
          | inr other ↦ others m other.0 other.1
        ])
      where
        begins : (m : Leaf) → m ≡ p.new → last < m.first
        begins m q =
            let f = p.first_is in
            let e : m.first ≡ p.new.first = ap (λ (y : Leaf). y.first) q in
            let s = split.behind in
            elim (none z k) [
              | inl lt ↦ absurd (omega (arith, lt, s, order))
              | inr ge ↦ (let w : first_kept first last z ≡ last + 1 = rw (le-ltb z.first first ge) refl in omega (arith, e, f, w))
            ]

    pub after_none : {mid now : List ℕ} (later : Option Later) → mid ≡ b → OpenedAt mid now kind before own after (last + 1) first last later → SomeOpened b now kind before own after first last None
    after_none {now = now} later same k = by (subst (λ (y : List ℕ). OpenedAt y now kind before own after (last + 1) first last later) same k)
      where
        by : OpenedAt b now kind before own after (last + 1) first last later → SomeOpened b now kind before own after first last None
        by (inl x) = subst (λ (y : List ℕ). SomeOpened b y kind before own after first last None) (sym x.same) (neither x.none)
        by (inr x) = back_only x.leaf x.one x.cut_in x.split x.opened.part

  -- ---- one has it

  module _ {mid : List ℕ} (x : Leaf) (j : IsOneOf leaves x) (cut : IsCutIn first last x) (split : IsSplit first x) (p : PartOpened b mid kind before own after x first last) where
    abbrev mids : List Leaf
    mids = leaves_of p.short.own'.index

    begun : OpenChain b mid kind before own p.short.own' after first last (x ∷ [])
    begun = open_more first last order [] start x j cut (ordered good at x j) (small good at x j) p

    -- its block ends before the first record that goes
    pub new_low : (m : Leaf) → m ≡ p.new → m.last < first
    new_low m q =
        let e : m.last ≡ p.new.last = ap (λ (y : Leaf). y.last) q in
        let t = p.last_is in
        let lt = split.before in
        let w : last_open first last x ≡ first - 1 = rw (lt-ltb x.first first lt) refl in
        omega (arith, e, t, w, lt)

    -- another leaf is one of those in between
    other_mid : (l : Leaf) → IsOneOf leaves l → l.first ≢ x.first → IsOneOf mids l
    other_mid l i ne = to_mid good at j p.short l i (λ q. ne (ap (λ (y : Leaf). y.first) q))

    -- it has records on both sides
    pub both_left : (later : Later) → IsSplitOff b own x first last (Some later) → SomeOpened b mid kind before own after first last (Some later)
    both_left later off =
        let lt = split.before in
        let gt = off.0.1 in
        let end : IsSplit (last + 1) x = record { before = omega (arith, lt, order); behind = omega (arith, gt) } in
        let others : (l : Leaf) → IsOneOf leaves l → l.first ≢ x.first → IsAllOrNone first last l = λ l i ne. sides_by l order (edge_other good at x j split l i ne) (edge_other good at x j end l i ne) in
        let w : first_kept first last x ≡ x.first = rw (lt-ltb x.first first lt) refl in
        let is : SplitsLater b own p.short.own' first last later = record {
          old = x;
          both_is = one_both good at order x j lt gt;
          last_is = off.1;
          plain_is = off.2;
          new = p.new;
          first_is = p.first_is ∙ w;
          index_is = p.short.index_is;
          aside = λ m k. elim (from_mid good at j p.short m k) [
            | inl q ↦ inl (new_low m q)
            | inr other ↦ elim (apart_firsts good at m x other.0 j other.1) [ inl s ↦ inl (omega (arith, s, lt)) | inr s ↦ inr s ]
          ];
        } in
        kept_by_chain (x ∷ []) begun (opening_one good at order x j cut others) (Some later) is (λ m k. elim (from_mid good at j p.short m k) [
          | inl q ↦ inl (new_low m q)
          | inr other ↦ others m other.0 other.1
        ])

    module _ (le : x.last ≤ last) where
      front_from : with_both first last leaves ≡ None
      front_from = none_both good at order (λ l i. elim (cases_eq l.first x.first) [
        | inl e ↦ no_back first l (let q = ap (λ (y : Leaf). y.last) (one_first good at l x i j e) in omega (arith, q, le))
        | inr ne ↦ no_front l order (edge_other good at x j split l i ne)
      ])

      front_only : ((m : Leaf) → IsOneOf mids m → EndsOrGoes (last + 1) m) → SomeOpened b mid kind before own after first last None
      front_only no_end =
          let others : (l : Leaf) → IsOneOf leaves l → l.first ≢ x.first → IsAllOrNone first last l = λ l i ne. sides_by l order (edge_other good at x j split l i ne) (no_end l (other_mid l i ne)) in
          kept_by_chain (x ∷ []) begun (opening_one good at order x j cut others) None front_from (λ m k. elim (from_mid good at j p.short m k) [
            | inl q ↦ inl (new_low m q)
            | inr other ↦ others m other.0 other.1
          ])

      module _ {now : List ℕ} (z : Leaf) (k : IsOneOf mids z) (cut' : IsCutIn first last z) (end : IsSplit (last + 1) z) (p' : PartOpened mid now kind before p.short.own' after z first last) where
        good_mid : Good mid
        good_mid = p.short.goes_on.good

        at_mid : StandsAmong mid kind before p.short.own' after
        at_mid = p.short.goes_on.among

        -- it was there, behind the other one
        was : IsOneOf leaves z × (z.first ≢ x.first)
        was = elim (from_mid good at j p.short z k) [
          | inl q ↦ (let lt = new_low z q in let s = end.behind in absurd (omega (arith, lt, s, order)))
          | inr other ↦ other
        ]

        behind : first ≤ z.first
        behind = let s = end.behind in elim (edge_other good at x j split z was.0 was.1) [ inl lt ↦ absurd (omega (arith, lt, s, order)) | inr ge ↦ ge ]

        new_high : (m : Leaf) → m ≡ p'.new → last < m.first
        new_high m q =
            let f = p'.first_is in
            let e : m.first ≡ p'.new.first = ap (λ (y : Leaf). y.first) q in
            let w : first_kept first last z ≡ last + 1 = rw (le-ltb z.first first behind) refl in
            omega (arith, e, f, w)

        others : (l : Leaf) → IsOneOf leaves l → l.first ≢ x.first → l.first ≢ z.first → IsAllOrNone first last l
        others l i ne ne' = sides_by l order (edge_other good at x j split l i ne) (edge_other good at z was.0 end l i ne')

        both_chains : OpenChain b now kind before own p'.short.own' after first last (x ∷ z ∷ [])
        both_chains = open_more first last order (x ∷ []) begun z k cut' (ordered good_mid at_mid z k) (small good_mid at_mid z k) p'

        pub front_and_back : SomeOpened b now kind before own after first last None
        front_and_back =
            let less : x.first < z.first = (let lt = split.before in let ge = behind in omega (arith, lt, ge)) in
            kept_by_chain (x ∷ z ∷ []) both_chains (opening_two good at order x z j was.0 less cut cut' others) None front_from (λ m i. elim (from_mid good_mid at_mid k p'.short m i) [
              | inl q ↦ inr (inl (new_high m q))
              | inr other ↦ elim (from_mid good at j p.short m other.0) [
                | inl q ↦ inl (new_low m q)
                | inr first_other ↦ others m first_other.0 first_other.1 other.1
              ]
            ])

      pub after_front : {now : List ℕ} (later : Option Later) → OpenedAt mid now kind before p.short.own' after (last + 1) first last later → SomeOpened b now kind before own after first last None
      after_front later (inl y) = subst (λ (w : List ℕ). SomeOpened b w kind before own after first last None) (sym y.same) (front_only y.none)
      after_front later (inr y) = front_and_back y.leaf y.one y.cut_in y.split y.opened.part
