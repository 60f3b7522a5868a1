-- Each leaf that is left stands where the one stood of which it is left.
use Rattle.cdf_cuts.proofs.Common.{Bool, Each, Each-map, Entries, Leaf, List, Nodes, block, entry_leaves, false, if◌then◌else◌, lower, no_entry, no_node, node, Range, Span, [], ap, arith, inl, inr, kept_by, leaves_of, range, refl, subst, suc, sym, ℕ, ◌++◌, ◌-◌, ◌<◌, ◌∙◌, ◌∷◌, ◌≡◌, ◌≤◌, ◌⊎◌}
use Rattle.cdf_edits.proofs.Edits.LeafPieces.{IsOneOf}
use Rattle.cdf_edits.proofs.Edits.LeafRecords.{Ascending}
use Rattle.cdf_edits.specs.Index.Cut.{IsPart}
use Rattle.cdf_cuts.proofs.CutLeaves.{IsLeft}
use Rattle.cdf_cuts.proofs.CutOrder.{Falls}
use Rattle.cdf_cuts.proofs.CutOpen.{Inside, open_inside}
use Rattle.cdf_cuts.proofs.CutWords.{cut, cut_below, leaves_lower, leaves_node}
unfoldable use Rattle.cdf_edits.specs.Index.Grown.{cut_entries, cut_nodes}
use Rattle.cdf_edits.specs.Index.Grown.{block_if, greatest_last, least_first}

-- what is left of one leaf, and then of others
pub record One (span : Span) (l : Leaf) (Rest : List Leaf → Type 0) (ms : List Leaf) : Type 0 where
  pub m : Leaf
  pub rest : List Leaf
  pub is : ms ≡ m ∷ rest
  pub left : IsLeft span l m
  pub more : Rest rest

-- leaves that are left of these, each of one; of some nothing is left
abbrev pub LeftOf : Span → List Leaf → List Leaf → Type 0
LeftOf span [] ms = ms ≡ []
LeftOf span (l ∷ ls) ms = ((kept_by span (range l.first l.last) ≡ []) × LeftOf span ls ms) ⊎ One span l (LeftOf span ls) ms

pub left_both : (span : Span) (xs ys ms ns : List Leaf) → LeftOf span xs ms → LeftOf span ys ns → LeftOf span (xs ++ ys) (ms ++ ns)
left_both span [] ys ms ns p q = rw p q
left_both span (l ∷ xs) ys ms ns (inl p) q = inl (p.0, left_both span xs ys ms ns p.1 q)
left_both span (l ∷ xs) ys ms ns (inr o) q = inr (record { m = o.m; rest = o.rest ++ ns; is = ap (λ (zs : List Leaf). zs ++ ns) o.is; left = o.left; more = left_both span xs ys o.rest ns o.more q })

pub block_left : (span : Span) (rs : List Range) (f l place : ℕ) (packed : Bool) (xs : List Leaf) (es : Entries) → kept_by span (range f l) ≡ rs → LeftOf span xs (entry_leaves es) → LeftOf span (record { first = f; last = l; place = place; packed = packed } ∷ xs) (entry_leaves (block_if rs place packed es))
unfolding entry_leaves leaves_of
block_left span [] f l place packed xs es e p = inl (e, p)
block_left span (r ∷ rest) f l place packed xs es e p = inr (record { m = record { first = r.first; last = r.last; place = place; packed = packed }; rest = entry_leaves es; is = refl; left = record { place_is = refl; packed_is = refl; more = rest; kept_is = e }; more = p })

mutual
  unfolding cut_nodes cut_entries leaves_of entry_leaves

  pub nodes_left : (span : Span) (ns : Nodes) → LeftOf span (leaves_of ns) (leaves_of (cut span ns))
  nodes_left span no_node = refl
  nodes_left span (node place room es more) = subst (LeftOf span (entry_leaves es ++ leaves_of more)) (sym (leaves_node place room (cut_below span es) (cut span more))) (left_both span (entry_leaves es) (leaves_of more) (entry_leaves (cut_below span es)) (leaves_of (cut span more)) (entries_left span es) (nodes_left span more))

  entries_left : (span : Span) (es : Entries) → LeftOf span (entry_leaves es) (entry_leaves (cut_below span es))
  entries_left span no_entry = refl
  entries_left span (block f l place packed es) = block_left span (kept_by span (range f l)) f l place packed (entry_leaves es) (cut_below span es) refl (entries_left span es)
  entries_left span (lower f l ns es) =
      let b = if span.close then least_first (cut span ns) else f in
      let d = if span.close then greatest_last (cut span ns) else l in
      subst (LeftOf span (leaves_of ns ++ entry_leaves es)) (sym (leaves_lower b d (cut span ns) (cut_below span es))) (left_both span (leaves_of ns) (entry_leaves es) (leaves_of (cut span ns)) (entry_leaves (cut_below span es)) (nodes_left span ns) (entries_left span es))

-- each leaf that is left is left of one, and each of which something is left has one
pub from_left : (span : Span) (ls ms : List Leaf) → LeftOf span ls ms → (m : Leaf) → IsOneOf ms m → (l : Leaf) × (IsOneOf ls l × IsLeft span l m)
from_left span [] ms e m i = absurd (rw e at i)
from_left span (l ∷ ls) ms (inl x) m i = let r = from_left span ls ms x.1 m i in (r.0, (inr r.1.0, r.1.1))
from_left span (l ∷ ls) ms (inr o) m i = elim (subst (λ (xs : List Leaf). IsOneOf xs m) o.is i) [
  | inl q ↦ (l, (inl refl, subst (IsLeft span l) q o.left))
  | inr j ↦ let r = from_left span ls o.rest o.more m j in (r.0, (inr r.1.0, r.1.1))
]

pub to_left : (span : Span) (ls ms : List Leaf) → LeftOf span ls ms → (l : Leaf) → IsOneOf ls l → (kept_by span (range l.first l.last) ≡ [] → ⊥) → (m : Leaf) × (IsOneOf ms m × IsLeft span l m)
to_left span [] ms e l i some = absurd i
to_left span (x ∷ ls) ms (inl y) l (inl q) some = absurd (some (subst (λ (z : Leaf). kept_by span (range z.first z.last) ≡ []) q y.0))
to_left span (x ∷ ls) ms (inl y) l (inr i) some = to_left span ls ms y.1 l i some
to_left span (x ∷ ls) ms (inr o) l (inl q) some = (o.m, (subst (λ (xs : List Leaf). IsOneOf xs o.m) (sym o.is) (inl refl), subst (λ (z : Leaf). IsLeft span z o.m) q o.left))
to_left span (x ∷ ls) ms (inr o) l (inr i) some = let r = to_left span ls o.rest o.more l i some in (r.0, (subst (λ (xs : List Leaf). IsOneOf xs r.0) (sym o.is) (inr r.1.0), r.1.1))

-- what is left of a leaf begins where its first record falls to or behind that, and before where the one behind it falls to
pub record Lies (to : ℕ → ℕ) (f l : ℕ) (r : Range) : Type 0 where
  pub from : to f ≤ r.first
  pub upto : r.first < to (suc l)

pub record Parts (span : Span) (to : ℕ → ℕ) : Type 0 where
  pub rises : (m n : ℕ) → m ≤ n → to m ≤ to n
  pub lies : (f l : ℕ) (r : Range) (more : List Range) → f ≤ l → kept_by span (range f l) ≡ r ∷ more → Lies to f l r

pub falling_parts : (span : Span) (to : ℕ → ℕ) → Falls span to → Parts span to
falling_parts span to falls = record { rises = falls.rises; lies = lies }
  where
    lies : (f l : ℕ) (r : Range) (more : List Range) → f ≤ l → kept_by span (range f l) ≡ r ∷ more → Lies to f l r
    lies f l r more le e = elim (falls.keeps f l) [
      | inl none ↦ (let q : r ∷ more ≡ [] = sym e ∙ none in absurd cc)
      | inr some ↦
          let q : r ∷ more ≡ range (to f) (to (suc l) - 1) ∷ [] = sym e ∙ some.0 in
          let s : r ≡ range (to f) (to (suc l) - 1) = cc in
          let t : r.first ≡ to f = ap (λ (x : Range). x.first) s in
          record { from = omega (arith, t); upto = omega (arith, t, some.1) }
    ]

-- without closing, records keep their numbers
pub open_parts : (first last : ℕ) → first ≤ last → Parts (record { first = first; last = last; close = false }) (λ n. n)
open_parts first last order = record { rises = λ m n le. le; lies = lies }
  where
    lies : (f l : ℕ) (r : Range) (more : List Range) → f ≤ l → kept_by (record { first = first; last = last; close = false }) (range f l) ≡ r ∷ more → Lies (λ n. n) f l r
    lies f l r more le e =
        let i = subst (Inside f l) e (open_inside first last f l order le) in
        record { from = i.0; upto = omega (arith, i.1, i.2) }

module _ (span : Span) (to : ℕ → ℕ) (parts : Parts span to) where
  abbrev pub Stays : Leaf → Leaf → Type 0
  Stays old m = IsPart (kept_by span) old m → (m.place ≡ old.place) × (m.packed ≡ old.packed)

  up_from : (low n : ℕ) (ms : List Leaf) → to low ≤ to n → Each (λ (m : Leaf). to n ≤ m.first) ms → Each (λ (m : Leaf). to low ≤ m.first) ms
  up_from low n ms le e = Each-map (λ (m : Leaf). to n ≤ m.first) (λ (m : Leaf). to low ≤ m.first) (λ m i. omega (arith, i, le)) ms e

  lies : (l m : Leaf) (more : List Range) → l.first ≤ l.last → kept_by span (range l.first l.last) ≡ range m.first m.last ∷ more → Lies to l.first l.last (range m.first m.last)
  lies l m more le e = parts.lies l.first l.last (range m.first m.last) more le e

  -- those that are left of later ones begin later
  later : (low upto : ℕ) (ls ms : List Leaf) → Ascending low upto ls → LeftOf span ls ms → Each (λ (m : Leaf). to low ≤ m.first) ms
  later low upto [] ms a e = rw e tt
  later low upto (l ∷ ls) ms a (inl x) = up_from low (suc l.last) ms (parts.rises low (suc l.last) (omega (arith, a.0, a.1))) (later (suc l.last) upto ls ms a.3 x.1)
  later low upto (l ∷ ls) ms a (inr o) =
      let y = lies l o.m o.left.more a.1 o.left.kept_is in
      rw o.is (omega (arith, y.from, parts.rises low l.first a.0), up_from low (suc l.last) o.rest (parts.rises low (suc l.last) (omega (arith, a.0, a.1))) (later (suc l.last) upto ls o.rest a.3 o.more))

  -- a leaf has none of those that begin behind it
  none_later : (l : Leaf) (ms : List Leaf) → l.first ≤ l.last → Each (λ (m : Leaf). to (suc l.last) ≤ m.first) ms → Each (Stays l) ms
  none_later l ms le e = Each-map (λ (m : Leaf). to (suc l.last) ≤ m.first) (Stays l) (λ m i part. (let y = lies l m [] le part in absurd (omega (arith, y.upto, i)))) ms e

  -- and later ones have none of it
  none_before : (l m : Leaf) (low upto : ℕ) (ls : List Leaf) → Lies to l.first l.last (range m.first m.last) → to (suc l.last) ≤ to low → Ascending low upto ls → Each (λ (old : Leaf). Stays old m) ls
  none_before l m low upto [] y le a = tt
  none_before l m low upto (x ∷ ls) y le a =
      ((λ part. (let z = lies x m [] a.1 part in absurd (omega (arith, y.upto, z.from, le, parts.rises low x.first a.0)))), none_before l m (suc x.last) upto ls y (omega (arith, le, parts.rises low (suc x.last) (omega (arith, a.0, a.1)))) a.3)

  each_two : (m : Leaf) (rest ls : List Leaf) → Each (λ (old : Leaf). Stays old m) ls → Each (λ (old : Leaf). Each (Stays old) rest) ls → Each (λ (old : Leaf). Each (Stays old) (m ∷ rest)) ls
  each_two m rest [] p q = tt
  each_two m rest (x ∷ ls) p q = ((p.0, q.0), each_two m rest ls p.1 q.1)

  pub all_stay : (low upto : ℕ) (ls ms : List Leaf) → Ascending low upto ls → LeftOf span ls ms → Each (λ (old : Leaf). Each (Stays old) ms) ls
  all_stay low upto [] ms a e = tt
  all_stay low upto (l ∷ ls) ms a (inl x) = (none_later l ms a.1 (later (suc l.last) upto ls ms a.3 x.1), all_stay (suc l.last) upto ls ms a.3 x.1)
  all_stay low upto (l ∷ ls) ms a (inr o) =
      let y = lies l o.m o.left.more a.1 o.left.kept_is in
      subst (λ (zs : List Leaf). Each (λ (old : Leaf). Each (Stays old) zs) (l ∷ ls)) (sym o.is) (
        ((λ part. (o.left.place_is, o.left.packed_is)), none_later l o.rest a.1 (later (suc l.last) upto ls o.rest a.3 o.more)),
        each_two o.m o.rest ls (none_before l o.m (suc l.last) upto ls y (omega arith) a.3) (all_stay (suc l.last) upto ls o.rest a.3 o.more),
      )
