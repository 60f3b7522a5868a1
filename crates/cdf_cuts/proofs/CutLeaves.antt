-- The leaves that a cut leaves, each of a leaf that was there, of no more records.
use Rattle.cdf_cuts.proofs.Common.{Bool, Each, Each-append, Each-split, Entries, Leaf, List, Nodes, Range, Span, [], arith, block, cases_lt, entry_leaves, false, if◌then◌else◌, inl, inr, kept_by, le-ltb, leaves_of, lower, lt-ltb, nat_tests, no_entry, no_node, node, range, refl, subst, sym, true, ℕ, ◌+◌, ◌-◌, ◌∷◌, ◌≡◌, ◌≤◌}
use Rattle.std.specs.Prelude.{max, min}
unfoldable use Rattle.cdf_edits.specs.Index.Grown.{cut_entries, cut_nodes}
use Rattle.cdf_edits.specs.Index.Grown.{block_if, greatest_last, least_first}
use Rattle.cdf_edits.specs.Index.Blocks.{fallen}
use Rattle.cdf_cuts.proofs.CutWords.{cut, cut_below, leaves_lower, leaves_node}

-- one leaf is what is left of another
pub record IsLeft (span : Span) (l m : Leaf) : Type 0 where
  pub place_is : m.place ≡ l.place
  pub packed_is : m.packed ≡ l.packed
  pub more : List Range
  pub kept_is : kept_by span (range l.first l.last) ≡ range m.first m.last ∷ more

module _ (span : Span) (P Q : Leaf → Type 0) (on : (l : Leaf) → P l → (m : Leaf) → IsLeft span l m → Q m) where
  block_left : (rs : List Range) (f l place : ℕ) (packed : Bool) (es : Entries) → kept_by span (range f l) ≡ rs → P (record { first = f; last = l; place = place; packed = packed }) → Each Q (entry_leaves es) → Each Q (entry_leaves (block_if rs place packed es))
  unfolding entry_leaves leaves_of
  block_left [] f l place packed es e p q = q
  block_left (r ∷ rest) f l place packed es e p q = (on _ p (record { first = r.first; last = r.last; place = place; packed = packed }) (record { place_is = refl; packed_is = refl; more = rest; kept_is = e }), q)

  mutual
    unfolding cut_nodes cut_entries leaves_of entry_leaves

    pub each_left : (ns : Nodes) → Each P (leaves_of ns) → Each Q (leaves_of (cut span ns))
    each_left no_node e = tt
    each_left (node place room es more) e =
        let parts = Each-split P (entry_leaves es) (leaves_of more) e in
        subst (Each Q) (sym (leaves_node place room (cut_below span es) (cut span more))) (Each-append Q (entry_leaves (cut_below span es)) (leaves_of (cut span more)) (entries_left es parts.0) (each_left more parts.1))

    pub entries_left : (es : Entries) → Each P (entry_leaves es) → Each Q (entry_leaves (cut_below span es))
    entries_left no_entry e = tt
    entries_left (block f l place packed es) e = block_left (kept_by span (range f l)) f l place packed (cut_below span es) refl e.0 (entries_left es e.1)
    entries_left (lower f l ns es) e =
        let parts = Each-split P (leaves_of ns) (entry_leaves es) e in
        let b = if span.close then least_first (cut span ns) else f in
        let d = if span.close then greatest_last (cut span ns) else l in
        subst (Each Q) (sym (leaves_lower b d (cut span ns) (cut_below span es))) (Each-append Q (leaves_of (cut span ns)) (entry_leaves (cut_below span es)) (each_left ns parts.0) (entries_left es parts.1))

-- ---- of no more records

pub record Fewer (l m : Leaf) : Type 0 where
  pub order : m.first ≤ m.last
  pub most : m.last ≤ l.last
  pub fewer : m.last + l.first ≤ l.last + m.first

pub closed_fewer : (first last f l : ℕ) (m : Range) (more : List Range) → first ≤ last → f ≤ l → kept_by (record { first = first; last = last; close = true }) (range f l) ≡ m ∷ more → (m.first ≤ m.last) × (m.last ≤ l) × (m.last + f ≤ l + m.first)
closed_fewer first last f l m more o le e = elim (cases_lt (fallen first last f) (fallen first last (l + 1))) [
  | inl lt ↦
      let is : m ≡ range (fallen first last f) (fallen first last (l + 1) - 1) = (let q : range (fallen first last f) (fallen first last (l + 1) - 1) ∷ [] ≡ m ∷ more = rw (lt-ltb _ _ lt) at e in cc) in
      rw is (grind (arith, nat_tests, lt))
  | inr ge ↦ (let q : [] ≡ m ∷ more = rw (le-ltb _ _ ge) at e in absurd cc)
]

pub open_fewer : (first last f l : ℕ) (m : Range) (more : List Range) → first ≤ last → f ≤ l → kept_by (record { first = first; last = last; close = false }) (range f l) ≡ m ∷ more → (m.first ≤ m.last) × (m.last ≤ l) × (m.last + f ≤ l + m.first)
open_fewer first last f l m more o le e = elim (cases_lt f first) [
  | inl lt ↦
      let is : m ≡ range f (min l (first - 1)) = (let q : range f (min l (first - 1)) ∷ [] ≡ m ∷ more = rw (lt-ltb _ _ lt) at e in cc) in
      rw is (omega (arith, lt), omega (arith, lt), omega (arith, lt))
  | inr ge ↦ elim (cases_lt last l) [
    | inl lt ↦
        let is : m ≡ range (max f (last + 1)) l = (let q : range (max f (last + 1)) l ∷ [] ≡ m ∷ more = rw (le-ltb _ _ ge, lt-ltb _ _ lt) at e in cc) in
        rw is (omega (arith, lt), omega (arith, lt), omega (arith, lt))
    | inr none ↦ (let q : [] ≡ m ∷ more = rw (le-ltb _ _ ge, le-ltb _ _ none) at e in absurd cc)
  ]
]

pub fewer_records : (span : Span) (l m : Leaf) → span.first ≤ span.last → l.first ≤ l.last → IsLeft span l m → Fewer l m
fewer_records span l m o le left = go span.close refl
  where
    go : (c : Bool) → span.close ≡ c → Fewer l m
    go true c = let r = closed_fewer span.first span.last l.first l.last (range m.first m.last) left.more o le (rw c at left.kept_is) in record { order = r.0; most = r.1; fewer = r.2 }
    go false c = let r = open_fewer span.first span.last l.first l.last (range m.first m.last) left.more o le (rw c at left.kept_is) in record { order = r.0; most = r.1; fewer = r.2 }
