-- How many records from a first on have a block, counted from stretch to stretch.
use Rattle.cdf_var_records.proofs.Common.{Ascending, Entries, IsStretch, List, Nodes, None, NoneBegins, Range, Some, Stretch, [], arith, block, covered_before, entry_firsts, entry_leaves, firsts_of, leaf_of, leaves_of, lower, map, max, min, next_first, next_past, no_entry, no_node, node, none_begins, of_leaves, range, ranges_of, record_number_limit, refl, suc, sum_by-cons, ℕ, ◌+◌, ◌-◌, ◌<◌, ◌∷◌, ◌≡◌, ◌≤◌, Each, Each-append, Each-split, nat_tests}
use Rattle.cdf_edits.proofs.Common.{Leaf}
use Rattle.cdf_puts.proofs.SharedRoom.{leaf_there}

before_more : (s e : ℕ) (r : Range) (rs : List Range) → covered_before s e (r ∷ rs) ≡ (min e (r.last + 1) - max s r.first) + covered_before s e rs
before_more s e r rs = sum_by-cons (λ x. x) (min e (r.last + 1) - max s r.first) (map (λ (x : Range). min e (x.last + 1) - max s x.first) rs)

-- up to one record, and on from there
split : (a k e : ℕ) (rs : List Range) → a ≤ k → k ≤ e → covered_before a k rs + covered_before k e rs ≡ covered_before a e rs
split a k e [] p q = refl
split a k e (r ∷ rs) p q = omega (arith, before_more a k r rs, before_more k e r rs, before_more a e r rs, split a k e rs p q)

-- ---- none of them has one

-- a leaf does not begin past the one and up to the other
abbrev pub IsBehind : ℕ → ℕ → Leaf → Type 0
IsBehind k last l = k < l.first → last < l.first

-- where none of the firsts begins up to a last record, no leaf does
mutual
  unfolding leaves_of entry_leaves firsts_of entry_firsts

  pub leaves_behind : (k last : ℕ) (nodes : Nodes) → NoneBegins k last (firsts_of nodes) → Each (IsBehind k last) (leaves_of nodes)
  leaves_behind k last no_node n = tt
  leaves_behind k last (node place room entries more) n = let parts = Each-split (λ (f : ℕ). k < f → last < f) (entry_firsts entries) (firsts_of more) n in Each-append (IsBehind k last) (entry_leaves entries) (leaves_of more) (entries_behind k last entries parts.0) (leaves_behind k last more parts.1)

  entries_behind : (k last : ℕ) (entries : Entries) → NoneBegins k last (entry_firsts entries) → Each (IsBehind k last) (entry_leaves entries)
  entries_behind k last no_entry n = tt
  entries_behind k last (block first upto place packed entries) n = (n.0, entries_behind k last entries n.1)
  entries_behind k last (lower first upto nodes entries) n = let parts = Each-split (λ (f : ℕ). k < f → last < f) (firsts_of nodes) (entry_firsts entries) n.1 in Each-append (IsBehind k last) (leaves_of nodes) (entry_leaves entries) (leaves_behind k last nodes parts.0) (entries_behind k last entries parts.1)

none_covered : (k e last : ℕ) (xs : List Leaf) → e ≤ last + 1 → Each (IsBehind k last) xs → leaf_of k xs ≡ None → covered_before k e (of_leaves xs) ≡ 0
none_covered k e last [] le a none = refl
none_covered k e last (x ∷ xs) le a none = grind (arith, nat_tests, before_more k e (range x.first x.last) (of_leaves xs), none_covered k e last xs le a.1, a.0, none)

-- ---- all of them have one

none_after : (k e low upto : ℕ) (xs : List Leaf) → Ascending low upto xs → e ≤ low → covered_before k e (of_leaves xs) ≡ 0
none_after k e low upto [] a le = refl
none_after k e low upto (x ∷ xs) a le = omega (arith, a.0, a.1, le, before_more k e (range x.first x.last) (of_leaves xs), none_after k e (suc x.last) upto xs a.3 (omega (arith, a.0, a.1)))

all_covered : (k e low upto : ℕ) (xs : List Leaf) (l : Leaf) → Ascending low upto xs → leaf_of k xs ≡ Some l → e ≤ l.last + 1 → covered_before k e (of_leaves xs) ≡ e - k
all_covered k e low upto [] l a is le = absurd cc
all_covered k e low upto (x ∷ xs) l a is le =
    grind (arith, nat_tests, before_more k e (range x.first x.last) (of_leaves xs), all_covered k e (suc x.last) upto xs l a.3, leaf_there k (suc x.last) upto xs l a.3, none_after k e (suc x.last) upto xs a.3, a.0, a.1, is)

-- ---- a stretch

pub leaf_stretch : (nodes : Nodes) (k r upto last : ℕ) (l : Leaf) → Ascending 0 upto (leaves_of nodes) → leaf_of k (leaves_of nodes) ≡ Some l → k ≤ r → last ≡ min l.last r → IsStretch (ranges_of nodes) k r (record { end = last + 1; missing = 0 })
leaf_stretch nodes k r upto last l a found le is =
    let within = (leaf_there k 0 upto (leaves_of nodes) l a found).1 in
    let all = all_covered k (last + 1) 0 upto (leaves_of nodes) l a found (omega arith) in
    record { some = omega arith; inside = omega arith; counts = omega (arith, all) }

pub gap_some : (nodes : Nodes) (k r next end : ℕ) → k ≤ r → r ≤ record_number_limit → next ≡ next_first k (firsts_of nodes) → end ≡ min next (r + 1) → k < end
gap_some nodes k r next end le small is ends = let past = next_past k (firsts_of nodes) (omega arith) in omega arith

pub gap_stretch : (nodes : Nodes) (k r next end : ℕ) → leaf_of k (leaves_of nodes) ≡ None → k ≤ r → r ≤ record_number_limit → next ≡ next_first k (firsts_of nodes) → end ≡ min next (r + 1) → IsStretch (ranges_of nodes) k r (record { end = end; missing = end - k })
gap_stretch nodes k r next end none le small is ends =
    let some = gap_some nodes k r next end le small is ends in
    let begins = none_begins k (end - 1) (firsts_of nodes) (omega arith) in
    let zero = none_covered k end (end - 1) (leaves_of nodes) (omega arith) (leaves_behind k (end - 1) nodes begins) none in
    record { some = some; inside = omega arith; counts = omega (arith, zero) }

-- ---- one stretch more

pub one_more : (rs : List Range) (from k r missing : ℕ) (s : Stretch) → from ≤ k → IsStretch rs k r s → covered_before from k rs + missing ≡ k - from → covered_before from s.end rs + (missing + s.missing) ≡ s.end - from
one_more rs from k r missing s le is so_far = omega (arith, split from k s.end rs le (omega (arith, is.some)), so_far, is.counts, is.some)

pub none_yet_of : (from : ℕ) (rs : List Range) → covered_before from from rs + 0 ≡ from - from
none_yet_of from [] = omega arith
none_yet_of from (r ∷ rs) = omega (arith, before_more from from r rs, none_yet_of from rs)
