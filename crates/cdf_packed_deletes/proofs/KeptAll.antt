-- The leaves that keep some of their records are given these: none, one or two of them, or the one that has records on both sides of those that go.
use Rattle.std.proofs.Common.{List, None, Option, Some, [], ap, arith, inl, inr, length, refl, subst, sym, true, ℕ, ◌+◌, ◌-◌, ◌<◌, ◌∙◌, ◌∷◌, ◌≡◌, ◌≢◌, ◌≤◌}
use Rattle.std.proofs.lemmas.Bool.{cases_eq}
use Rattle.cdf_edits.proofs.Common.{Each, Good, Kind, Leaf, VariableShape, image_limit, leaves_of, le-ltb, lt-ltb, record_bytes}
use Rattle.cdf_edits.proofs.Edits.Common.{StandsAmong}
use Rattle.cdf_edits.proofs.Edits.LeafPieces.{IsOneOf, each_of}
use Rattle.cdf_blocks.specs.declared.sites.SitedLeaf.{SitedLeaf}
use Rattle.cdf_cuts.specs.Past.{EndsOrGoes}
use Rattle.cdf_edits.specs.Commands.Deleting.{untouched}
use Rattle.cdf_edits.specs.Commands.PutSteps.{Stage}
use Rattle.cdf_puts.specs.Going.{found_in}
use Rattle.cdf_puts.specs.SoFar.{taken_bytes}
use Rattle.std.specs.List.{flat_map}
use Rattle.cdf_index.specs.Sight.{seen}
use Rattle.cdf_packed_cuts.proofs.TwoSteps.{from_mid, to_mid}
use Rattle.cdf_packed_cuts.specs.Past.{IsSplit}
use Rattle.cdf_packed_deletes.proofs.Chain.{Chain, chain_more, chain_none}
use Rattle.cdf_packed_deletes.proofs.KeptSides.{apart_firsts, edge_other, from_both, from_first, keeping_none, keeping_one, keeping_two, no_back, no_front, one_first, ordered, sides_by, small}
use Rattle.cdf_packed_deletes.specs.Closing.{keeping, keeping_room}
use Rattle.cdf_packed_deletes.specs.Keeping.{IsAllOrNone, IsCutIn, KeptAt, PartsLeft, SomeKept, first_kept}
use Rattle.cdf_packed_deletes.specs.Steps.{KeepSome, freed_from}

module _ {b : List ℕ} {kind : Kind} {before : List VariableShape} {own : VariableShape} {after : List VariableShape} {first last : ℕ} (good : Good b) (at : StandsAmong b kind before own after) (short : length b ≤ image_limit) (order : first ≤ last) where
  abbrev leaves : List Leaf
  leaves = leaves_of own.index

  kept_by_chain : {now : List ℕ} {end : VariableShape} (ls : List Leaf) → Chain b now kind before own end after first last ls → keeping first last leaves ≡ ls → (from : ℕ) → from ≡ freed_from true first last leaves → ((m : Leaf) → IsOneOf (leaves_of end.index) m → IsAllOrNone from (from + (last - first)) m) → SomeKept b now kind before own after first last from
  kept_by_chain {now = now} {end = end} ls c e from from_is whole = record {
    stages = c.stages;
    kept = c.kept;
    keep = subst (λ (xs : List Leaf). KeepSome (found_in b kind before own) true first last xs (untouched b own) c.stages c.kept) (sym e) c.keep;
    takes = subst (λ (xs : List Leaf). taken_bytes (flat_map (λ (s : Stage). s.acts) c.stages) ≤ keeping_room (record_bytes b own.vdr) xs) (sym e) c.takes;
    go = c.go;
    image_is = c.image_is;
    good = c.good;
    among = subst (λ (o : VariableShape). StandsAmong now kind before o after) (sym c.own_is) c.among;
    vdr_is = ap (λ (o : VariableShape). o.vdr) c.own_is ∙ c.vdr_is;
    small = c.small;
    from_is = from_is;
    whole = subst (λ (o : VariableShape). Each (IsAllOrNone from (from + (last - first))) (leaves_of o.index)) (sym c.own_is) (each_of (IsAllOrNone from (from + (last - first))) (leaves_of end.index) whole);
    max_rec_is = c.max_rec_is;
    r_max_rec_is = c.r_max_rec_is;
  }

  -- the numbers that go, where no leaf has records on both sides
  as_far : (m : Leaf) → IsAllOrNone first last m → IsAllOrNone first (first + (last - first)) m
  as_far m side = let e : last ≡ first + (last - first) = omega (arith, order) in subst (λ (n : ℕ). IsAllOrNone first n m) e side

  start : Chain b b kind before own own after first last []
  start = chain_none first last order good at short

  -- ---- no leaf has the first edge

  module _ (none : (l : Leaf) → IsOneOf leaves l → EndsOrGoes first l) where
    front_less : first ≡ freed_from true first last leaves
    front_less = from_first good at order (λ l i. no_front l order (none l i))

    neither : ((l : Leaf) → IsOneOf leaves l → EndsOrGoes (last + 1) l) → SomeKept b b kind before own after first last first
    neither no_end = kept_by_chain [] start (keeping_none good at order (λ l i. sides_by l order (none l i) (no_end l i))) first front_less (λ m i. as_far m (sides_by m order (none m i) (no_end m i)))

    back_only : {now : List ℕ} (z : Leaf) → IsOneOf leaves z → IsCutIn first last z → IsSplit (last + 1) z → PartsLeft b now kind before own after z first last → SomeKept b now kind before own after first last first
    back_only z k cut split p =
        let c = chain_more first last order [] start z k cut (ordered good at z k) (small good at z k) p in
        let others : (l : Leaf) → IsOneOf leaves l → l.first ≢ z.first → IsAllOrNone first last l = λ l i ne. sides_by l order (none l i) (edge_other good at z k split l i ne) in
        kept_by_chain (z ∷ []) c (keeping_one good at order z k cut others) first front_less (λ m j. as_far m (elim (from_mid good at k p.short m j) [
          | inl q ↦ inr (inl (begins m q))
          | inr other ↦ others m other.0 other.1
        ]))
      where
        begins : (m : Leaf) → m ≡ p.new → last < m.first
        begins m q =
            let f = p.first_is in
            let e : m.first ≡ p.new.first = ap (λ (y : Leaf). y.first) q in
            let s = split.behind in
            elim (none z k) [
              | inl lt ↦ absurd (omega (arith, lt, s, order))
              | inr ge ↦ (let w : first_kept first last z ≡ last + 1 = rw (le-ltb z.first first ge) refl in omega (arith, e, f, w))
            ]

    pub after_none : {mid now : List ℕ} (o : Option SitedLeaf) → mid ≡ b → KeptAt mid now kind before own after (last + 1) first last o → SomeKept b now kind before own after first last first
    after_none {mid = mid} {now = now} o same k = by o (subst (λ (y : List ℕ). KeptAt y now kind before own after (last + 1) first last o) same k)
      where
        by : (o : Option SitedLeaf) → KeptAt b now kind before own after (last + 1) first last o → SomeKept b now kind before own after first last first
        by None x = subst (λ (y : List ℕ). SomeKept b y kind before own after first last first) (sym x.0) (neither x.1)
        by (Some found) x = back_only (seen found.leaf) x.0 x.1 x.2 x.3

  -- ---- one has it

  module _ {mid : List ℕ} (x : Leaf) (j : IsOneOf leaves x) (cut : IsCutIn first last x) (split : IsSplit first x) (p : PartsLeft b mid kind before own after x first last) where
    abbrev mids : List Leaf
    mids = leaves_of p.short.own'.index

    begun : Chain b mid kind before own p.short.own' after first last (x ∷ [])
    begun = chain_more first last order [] start x j cut (ordered good at x j) (small good at x j) p

    -- its block ends before the first record that goes, and with as many behind that as it has behind the last one
    new_ends : p.new.last + 1 ≡ first + (x.last - last)
    new_ends =
        let f = p.first_is in
        let e = p.last_is in
        let lt = split.before in
        let w : first_kept first last x ≡ x.first = rw (lt-ltb x.first first lt) refl in
        omega (arith, f, e, w, lt)

    -- another leaf is one of those in between
    other_mid : (l : Leaf) → IsOneOf leaves l → l.first ≢ x.first → IsOneOf mids l
    other_mid l i ne = to_mid good at j p.short l i (λ q. ne (ap (λ (y : Leaf). y.first) q))

    -- it has records on both sides
    pub both_left : last < x.last → SomeKept b mid kind before own after first last (x.last - (last - first))
    both_left gt =
        let lt = split.before in
        let end : IsSplit (last + 1) x = record { before = omega (arith, lt, order); behind = omega (arith, gt) } in
        let others : (l : Leaf) → IsOneOf leaves l → l.first ≢ x.first → IsAllOrNone first last l = λ l i ne. sides_by l order (edge_other good at x j split l i ne) (edge_other good at x j end l i ne) in
        kept_by_chain (x ∷ []) begun (keeping_one good at order x j cut others) (x.last - (last - first)) (from_both good at order x j lt gt) (λ m k. elim (from_mid good at j p.short m k) [
          | inl q ↦ inl (let e : m.last ≡ p.new.last = ap (λ (y : Leaf). y.last) q in let n = new_ends in omega (arith, e, n, order, gt))
          | inr other ↦ elim (apart_firsts good at m x other.0 j other.1) [
            | inl s ↦ inl (omega (arith, s, lt, order, gt))
            | inr s ↦ inr (inl (omega (arith, s, order, gt)))
          ]
        ])

    module _ (le : x.last ≤ last) where
      pub new_low : (m : Leaf) → m ≡ p.new → m.last < first
      new_low m q = let e : m.last ≡ p.new.last = ap (λ (y : Leaf). y.last) q in let n = new_ends in omega (arith, e, n, le)

      front_from : first ≡ freed_from true first last leaves
      front_from = from_first good at order (λ l i. elim (cases_eq l.first x.first) [
        | inl e ↦ no_back first l (let q = ap (λ (y : Leaf). y.last) (one_first good at l x i j e) in omega (arith, q, le))
        | inr ne ↦ no_front l order (edge_other good at x j split l i ne)
      ])

      front_only : ((m : Leaf) → IsOneOf mids m → EndsOrGoes (last + 1) m) → SomeKept b mid kind before own after first last first
      front_only no_end =
          let others : (l : Leaf) → IsOneOf leaves l → l.first ≢ x.first → IsAllOrNone first last l = λ l i ne. sides_by l order (edge_other good at x j split l i ne) (no_end l (other_mid l i ne)) in
          kept_by_chain (x ∷ []) begun (keeping_one good at order x j cut others) first front_from (λ m k. as_far m (elim (from_mid good at j p.short m k) [
            | inl q ↦ inl (new_low m q)
            | inr other ↦ others m other.0 other.1
          ]))

      module _ {now : List ℕ} (z : Leaf) (k : IsOneOf mids z) (cut' : IsCutIn first last z) (end : IsSplit (last + 1) z) (p' : PartsLeft mid now kind before p.short.own' after z first last) where
        good_mid : Good mid
        good_mid = p.short.goes_on.good

        at_mid : StandsAmong mid kind before p.short.own' after
        at_mid = p.short.goes_on.among

        -- it was there, behind the other one
        was : IsOneOf leaves z × (z.first ≢ x.first)
        was = elim (from_mid good at j p.short z k) [
          | inl q ↦ (let lt = new_low z q in let s = end.behind in absurd (omega (arith, lt, s, order)))
          | inr other ↦ other
        ]

        behind : first ≤ z.first
        behind = let s = end.behind in elim (edge_other good at x j split z was.0 was.1) [ inl lt ↦ absurd (omega (arith, lt, s, order)) | inr ge ↦ ge ]

        new_high : (m : Leaf) → m ≡ p'.new → last < m.first
        new_high m q =
            let f = p'.first_is in
            let e : m.first ≡ p'.new.first = ap (λ (y : Leaf). y.first) q in
            let w : first_kept first last z ≡ last + 1 = rw (le-ltb z.first first behind) refl in
            omega (arith, e, f, w)

        others : (l : Leaf) → IsOneOf leaves l → l.first ≢ x.first → l.first ≢ z.first → IsAllOrNone first last l
        others l i ne ne' = sides_by l order (edge_other good at x j split l i ne) (edge_other good at z was.0 end l i ne')

        both_chains : Chain b now kind before own p'.short.own' after first last (x ∷ z ∷ [])
        both_chains = chain_more first last order (x ∷ []) begun z k cut' (ordered good_mid at_mid z k) (small good_mid at_mid z k) p'

        pub front_and_back : SomeKept b now kind before own after first last first
        front_and_back =
            let less : x.first < z.first = (let lt = split.before in let ge = behind in omega (arith, lt, ge)) in
            kept_by_chain (x ∷ z ∷ []) both_chains (keeping_two good at order x z j was.0 less cut cut' others) first front_from (λ m i. as_far m (elim (from_mid good_mid at_mid k p'.short m i) [
              | inl q ↦ inr (inl (new_high m q))
              | inr other ↦ elim (from_mid good at j p.short m other.0) [
                | inl q ↦ inl (new_low m q)
                | inr first_other ↦ others m first_other.0 first_other.1 other.1
              ]
            ]))

      pub after_front : {now : List ℕ} (o : Option SitedLeaf) → KeptAt mid now kind before p.short.own' after (last + 1) first last o → SomeKept b now kind before own after first last first
      after_front None y = subst (λ (w : List ℕ). SomeKept b w kind before own after first last first) (sym y.0) (front_only y.1)
      after_front (Some found) y = front_and_back (seen found.leaf) y.0 y.1 y.2 y.3
