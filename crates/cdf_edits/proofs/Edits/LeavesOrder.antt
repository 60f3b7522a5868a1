-- The leaves of an index that keeps its rules are in order.
use Rattle.cdf_edits.proofs.Common.{ -ℤ_one, Entries, Hold, Hold-split, Leaf, List, Nodes, [], ap, arith, block, both, either, end_of, entry_leaves, flat_map, index_rows, inl, inr, int_le, int_lt, is_between, le_of, leaf_rows, leaves_of, lower, ltb, nat_tests, negsuc, no_entry, no_node, node, nodes_rows, number_before, pos, record_number_limit, refl, subst, suc, sym, true, true≢false, used_rows, with_sign, zero, ℕ, ℤ, ◌++◌, ◌-ℤ◌, ◌-◌, ◌<◌, ◌^◌, ◌∙◌, ◌∷◌, ◌≡◌, ◌≤◌, ◌⊎◌}
use Rattle.std.proofs.Common.{◌&&◌}
use Rattle.cdf_edits.proofs.Edits.LeafRecords.{Ascending}

-- ---- leaves in order

pub ascending_from : (low low' upto : ℕ) (xs : List Leaf) → low' ≤ low → Ascending low upto xs → Ascending low' upto xs
ascending_from low low' upto [] le a = tt
ascending_from low low' upto (x ∷ xs) le a = let a0 = a.0 in (omega arith, a.1, a.2, a.3)

pub ascending_both : (low mid upto : ℕ) (xs ys : List Leaf) → Ascending low mid xs → Ascending mid upto ys → low ≤ mid → mid ≤ upto → Ascending low upto (xs ++ ys)
ascending_both low mid upto [] ys a c l h = ascending_from mid low upto ys l c
ascending_both low mid upto (x ∷ xs) ys a c l h = let a2 = a.2 in (a.0, a.1, omega arith, ascending_both (suc x.last) mid upto xs ys a.3 c (omega arith) h)

-- ---- numbers with a sign

-- the number before one
abbrev pub before_number : ℕ → ℤ
before_number zero = negsuc 0
before_number (suc n) = pos n

sign_of : (n : ℕ) → (with_sign n ≡ pos n) ⊎ (with_sign n ≡ negsuc (2 ^ 32 - suc n))
sign_of n = elim (either (ltb n (2 ^ 31))) [ inl t ↦ inl (rw t refl) | inr t ↦ inr (rw t refl) ]

lt_of : (m n : ℕ) → ltb m n ≡ true → m < n
lt_of m n t = grind (arith, nat_tests)

past_before : (low first : ℕ) → int_lt (before_number low) (pos first) ≡ true → low ≤ first
past_before zero first h = omega arith
past_before (suc low) first h = lt_of low first h

none_below : (low k : ℕ) → int_lt (before_number low) (negsuc k) ≡ true → ⊥
none_below zero k h = let less = lt_of k 0 h in omega arith
none_below (suc low) k h = true≢false (sym h)

first_after : (low first : ℕ) → int_lt (before_number low) (with_sign first) ≡ true → (low ≤ first) × (with_sign first ≡ pos first)
first_after low first h = elim (sign_of first) [ inl e ↦ (past_before low first (rw e at h), e) | inr e ↦ absurd (none_below low _ (rw e at h)) ]

last_after : (first last : ℕ) → int_le (pos first) (with_sign last) ≡ true → (first ≤ last) × (with_sign last ≡ pos last)
last_after first last h = elim (sign_of last) [ inl e ↦ (le_of first last (rw e at h), e) | inr e ↦ absurd (true≢false (sym (rw e at h))) ]

pub record Between (low high first last : ℕ) : Type 0 where
  pub low_first : low ≤ first
  pub first_last : first ≤ last
  pub last_high : last ≤ high
  pub first_is : with_sign first ≡ pos first
  pub last_is : with_sign last ≡ pos last

pub between : (low high first last : ℕ) → is_between (before_number low) (pos high) first last ≡ true → Between low high first last
between low high first last e =
    let p = both (int_lt (before_number low) (with_sign first)) (int_le (with_sign first) (with_sign last) && int_le (with_sign last) (pos high)) e in
    let q = both (int_le (with_sign first) (with_sign last)) (int_le (with_sign last) (pos high)) p.1 in
    let f = first_after low first p.0 in
    let l = last_after first last (subst (λ (z : ℤ). int_le z (with_sign last) ≡ true) f.1 q.0) in
    record { low_first = f.0; first_last = l.0; last_high = le_of last high (subst (λ (z : ℤ). int_le z (pos high) ≡ true) l.1 q.1); first_is = f.1; last_is = l.1 }

pub before_is : (n : ℕ) → with_sign n ≡ pos n → number_before n ≡ before_number n
before_is zero e = ap (λ (z : ℤ). z -ℤ pos 1) e
before_is (suc n) e = ap (λ (z : ℤ). z -ℤ pos 1) e ∙ -ℤ_one (pos (suc n))

-- ---- of an index

-- where the last of some entries ends
record Ended (low high : ℕ) (entries : Entries) : Type 0 where
  mid : ℕ
  low_mid : low ≤ mid
  mid_high : mid ≤ suc high
  end_is : end_of (before_number low) entries ≡ before_number mid
  ascend : Ascending low mid (entry_leaves entries)

module _ (b records : List ℕ) where
  mutual
    unfolding nodes_rows used_rows leaves_of entry_leaves

    nodes_ascend : (low high : ℕ) (nodes : Nodes) → low ≤ suc high → Hold (nodes_rows b records (before_number low) (pos high) nodes) → Ascending low (suc high) (leaves_of nodes)
    nodes_ascend low high no_node le h = tt
    nodes_ascend low high (node place room entries more) le h =
        let p = Hold-split (used_rows b records place (before_number low) (pos high) entries) (nodes_rows b records (end_of (before_number low) entries) (pos high) more) h.1 in
        let e = entries_ascend place low high entries le p.0 in
        ascending_both low e.mid (suc high) (entry_leaves entries) (leaves_of more) e.ascend (nodes_ascend e.mid high more e.mid_high (subst (λ (z : ℤ). Hold (nodes_rows b records z (pos high) more)) e.end_is p.1)) e.low_mid e.mid_high

    entries_ascend : (vxr low high : ℕ) (entries : Entries) → low ≤ suc high → Hold (used_rows b records vxr (before_number low) (pos high) entries) → Ended low high entries
    entries_ascend vxr low high no_entry le h = record { mid = low; low_mid = omega arith; mid_high = le; end_is = refl; ascend = tt }
    entries_ascend vxr low high (block first last place packed entries) le h =
        let o = between low high first last h.1.0 in
        let rest = entries_ascend vxr (suc last) high entries (let l = o.last_high in omega arith) (subst (λ (z : ℤ). Hold (used_rows b records vxr z (pos high) entries)) o.last_is h.1.1) in
        let l0 = o.low_first in
        let l1 = o.first_last in
        let l2 = rest.low_mid in
        record { mid = rest.mid; low_mid = omega arith; mid_high = rest.mid_high; end_is = ap (λ (z : ℤ). end_of z entries) o.last_is ∙ rest.end_is; ascend = (l0, l1, omega arith, rest.ascend) }
    entries_ascend vxr low high (lower first last nodes entries) le h =
        let o = between low high first last h.0 in
        let p = Hold-split (nodes_rows b records (number_before first) (with_sign last) nodes) (used_rows b records vxr (with_sign last) (pos high) entries) h.1 in
        let l0 = o.low_first in
        let l1 = o.first_last in
        let l2 = o.last_high in
        let below = subst (λ (z : ℤ). Hold (nodes_rows b records z (with_sign last) nodes)) (before_is first o.first_is) p.0 in
        let under = nodes_ascend first last nodes (omega arith) (subst (λ (z : ℤ). Hold (nodes_rows b records (before_number first) z nodes)) o.last_is below) in
        let rest = entries_ascend vxr (suc last) high entries (omega arith) (subst (λ (z : ℤ). Hold (used_rows b records vxr z (pos high) entries)) o.last_is p.1) in
        let l3 = rest.low_mid in
        record {
          mid = rest.mid;
          low_mid = omega arith;
          mid_high = rest.mid_high;
          end_is = ap (λ (z : ℤ). end_of z entries) o.last_is ∙ rest.end_is;
          ascend = ascending_from first low rest.mid (leaves_of nodes ++ entry_leaves entries) l0 (ascending_both first (suc last) rest.mid (leaves_of nodes) (entry_leaves entries) under rest.ascend (omega arith) l3);
        }

  pub index_ascends : (vdr : ℕ) (nodes : Nodes) → Hold (index_rows b records vdr nodes) → Ascending 0 (suc record_number_limit) (leaves_of nodes)
  index_ascends vdr nodes h = nodes_ascend 0 record_number_limit nodes (omega arith) (Hold-split (nodes_rows b records (negsuc 0) (pos record_number_limit) nodes) (flat_map (leaf_rows b records vdr) (leaves_of nodes)) h).0
