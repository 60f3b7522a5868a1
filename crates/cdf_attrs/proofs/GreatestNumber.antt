-- The greatest of the numbers of entries is that of the items that they are.
use Rattle.cdf_attrs.proofs.Common.{All, All-head, All-tail, Contains, Entry, FitsSigned, In, IsGreatest, List, [], aedr_num, ap, arith, cast_signed, either, entry_of, eq_of, greatest_number, inl, inr, ints, length, map, number, nums, pos, refl, signed_limit, subst, suc, sym, to_z_pos, with_item, zero, ℕ, ℤ, ◌+◌, ◌<◌, ◌∙◌, ◌∷◌, ◌≡◌, ◌≤◌, ◌⊎◌}
use Rattle.std.proofs.Common.{w32, nat_lt, ◌==◌, slice_index_or}
use Rattle.cdf_format.specs.Content.{entries_of}
use Rattle.cdf_edits.proofs.Edits.NumberedItems.{Rising, rising_with}

-- ---- members

at_index : (xs : List ℕ) (k x : ℕ) → k < length xs → slice_index_or xs k x ≡ x → In x xs
at_index [] k x lt e = absurd (omega arith)
at_index (y ∷ xs) zero x lt e = inl (sym e)
at_index (y ∷ xs) (suc k) x lt e = inr (at_index xs k x (omega arith) e)

pub is_member : (xs : List ℕ) (x : ℕ) → Contains xs x → In x xs
is_member xs x (k, lt, e) = at_index xs k x lt e

pub each_of : (P : ℕ → Type 0) (xs : List ℕ) → All P xs → (x : ℕ) → In x xs → P x
each_of P [] all x i = absurd i
each_of P (y ∷ xs) all x (inl e) = subst P (sym e) (All-head P y xs all)
each_of P (y ∷ xs) all x (inr i) = each_of P xs (All-tail P y xs all) x i

-- ---- the greatest

pub as_greatest : (numbers : List ℕ) (m : ℕ) → All (λ n. n ≤ signed_limit) numbers → Contains numbers m → All (λ n. n ≤ m) numbers → IsGreatest numbers (cast_signed w32 m)
as_greatest [] m small has all = absurd (is_member [] m has)
as_greatest (n ∷ numbers) m small has all =
    let i = is_member (n ∷ numbers) m has in
    let le = each_of (λ x. x ≤ signed_limit) (n ∷ numbers) small m i in
    (m, to_z_pos w32 m (omega arith), (i, each_of (λ x. x ≤ m) (n ∷ numbers) all))

-- it fits 32 bits with a sign where they do
pub greatest_fits : (numbers : List ℕ) (z : ℤ) → ((n : ℕ) → In n numbers → n ≤ signed_limit) → IsGreatest numbers z → FitsSigned w32 z
greatest_fits [] z small is = subst (FitsSigned w32) (sym is) (omega (arith, ints))
greatest_fits (n ∷ numbers) z small (m, is, (i, all)) = subst (FitsSigned w32) (sym is) (let le = small m i in omega (arith, ints))

-- lists with the same members have the same one
pub same_greatest : (xs ys : List ℕ) (z w : ℤ) → ((n : ℕ) → In n xs → In n ys) → ((n : ℕ) → In n ys → In n xs) → IsGreatest xs z → IsGreatest ys w → z ≡ w
same_greatest [] [] z w to from e f = e ∙ sym f
same_greatest [] (y ∷ ys) z w to from e f = absurd (from y (inl refl))
same_greatest (x ∷ xs) [] z w to from e f = absurd (to x (inl refl))
same_greatest (x ∷ xs) (y ∷ ys) z w to from (m, is, (i, all)) (n, is', (i', all')) =
    let one = all' m (to m i) in
    let other = all n (from n i') in
    let same : m ≡ n = omega arith in
    is ∙ ap pos same ∙ sym is'

-- ---- items

abbrev pub keys : List (ℕ × Entry) → List ℕ
keys items = map (λ item. item.0) items

last_greatest : (n low : ℕ) (a : Entry) (items : List (ℕ × Entry)) → n < low → Rising low items → IsGreatest (keys ((n, a) ∷ items)) (greatest_number ((n, a) ∷ items))
last_greatest n low a items lt Rising.none = (n, refl, (inl refl, λ k i. elim i [ inl e ↦ subst (λ (x : ℕ). x ≤ n) (sym e) (omega arith) | inr none ↦ absurd none ]))
last_greatest n low a items lt (Rising.one {n = j} {a = d} {rest = rest} le r) =
    let more = last_greatest j (j + 1) d rest (omega arith) r in
    let high = more.2.1 j (inl refl) in
    (more.0, more.1, (inr more.2.0, λ k i. elim i [ inl e ↦ subst (λ (x : ℕ). x ≤ more.0) (sym e) (omega arith) | inr l ↦ more.2.1 k l ]))

rising_greatest : (low : ℕ) (items : List (ℕ × Entry)) → Rising low items → IsGreatest (keys items) (greatest_number items)
rising_greatest low items Rising.none = refl
rising_greatest low items (Rising.one {n = n} {a = a} {rest = rest} le r) = last_greatest n (n + 1) a rest (omega arith) r

key_in : (n : ℕ) (a : Entry) (items : List (ℕ × Entry)) → In n (keys (with_item n a items))
key_in n a [] = inl refl
key_in n a ((m, c) ∷ items) = elim (either (nat_lt n m)) [
  | inl lt ↦ rw lt (inl refl)
  | inr ge ↦ elim (either (n == m)) [ inl e ↦ rw (ge, e) (inl refl) | inr ne ↦ rw (ge, ne) (inr (key_in n a items)) ]
]

key_stays : (n : ℕ) (a : Entry) (items : List (ℕ × Entry)) (k : ℕ) → In k (keys items) → In k (keys (with_item n a items))
key_stays n a [] k i = absurd i
key_stays n a ((m, c) ∷ items) k i = elim (either (nat_lt n m)) [
  | inl lt ↦ rw lt (inr i)
  | inr ge ↦ elim (either (n == m)) [
    | inl e ↦ rw (ge, e) (elim i [ inl q ↦ inl (q ∙ sym (eq_of n m e)) | inr l ↦ inr l ])
    | inr ne ↦ rw (ge, ne) (elim i [ inl q ↦ inl q | inr l ↦ inr (key_stays n a items k l) ])
  ]
]

key_from : (n : ℕ) (a : Entry) (items : List (ℕ × Entry)) (k : ℕ) → In k (keys (with_item n a items)) → (k ≡ n) ⊎ In k (keys items)
key_from n a [] k i = elim i [ inl e ↦ inl e | inr none ↦ absurd none ]
key_from n a ((m, c) ∷ items) k i = elim (either (nat_lt n m)) [
  | inl lt ↦ let j : In k (n ∷ m ∷ keys items) = rw lt at i in elim j [ inl e ↦ inl e | inr l ↦ inr l ]
  | inr ge ↦ elim (either (n == m)) [
    | inl e ↦ let j : In k (n ∷ keys items) = rw (ge, e) at i in elim j [ inl q ↦ inl q | inr l ↦ inr (inr l) ]
    | inr ne ↦ let j : In k (m ∷ keys (with_item n a items)) = rw (ge, ne) at i in elim j [ inl q ↦ inr (inl q) | inr l ↦ elim (key_from n a items k l) [ inl q ↦ inl q | inr r ↦ inr (inr r) ] ]
  ]
]

pub keys_in : (b es : List ℕ) (k : ℕ) → In k (nums b es) → In k (keys (entries_of b es))
keys_in b [] k i = absurd i
keys_in b (e ∷ es) k (inl q) = subst (λ (x : ℕ). In x (keys (entries_of b (e ∷ es)))) (sym q) (key_in (number b e aedr_num) (entry_of b e) (entries_of b es))
keys_in b (e ∷ es) k (inr i) = key_stays (number b e aedr_num) (entry_of b e) (entries_of b es) k (keys_in b es k i)

pub nums_in : (b es : List ℕ) (k : ℕ) → In k (keys (entries_of b es)) → In k (nums b es)
nums_in b [] k i = absurd i
nums_in b (e ∷ es) k i = elim (key_from (number b e aedr_num) (entry_of b e) (entries_of b es) k i) [ inl q ↦ inl q | inr l ↦ inr (nums_in b es k l) ]

pub rising_entries : (b es : List ℕ) → Rising 0 (entries_of b es)
rising_entries b [] = Rising.none
rising_entries b (e ∷ es) = rising_with 0 (number b e aedr_num) (entry_of b e) (entries_of b es) (omega arith) (rising_entries b es)

-- the greatest of the numbers of records is that of the items that they mean
pub greatest_of_items : (b es : List ℕ) (z : ℤ) → IsGreatest (nums b es) z → z ≡ greatest_number (entries_of b es)
greatest_of_items b es z is = same_greatest (nums b es) (keys (entries_of b es)) z (greatest_number (entries_of b es)) (keys_in b es) (nums_in b es) is (rising_greatest 0 (entries_of b es) (rising_entries b es))

-- that of the numbers of records and of one more is that of the items with its one
pub greatest_put : (b es : List ℕ) (num : ℕ) (entry : Entry) (z : ℤ) → IsGreatest (num ∷ nums b es) z → z ≡ greatest_number (with_item num entry (entries_of b es))
greatest_put b es num entry z is =
    let items = entries_of b es in
    same_greatest (num ∷ nums b es) (keys (with_item num entry items)) z (greatest_number (with_item num entry items))
    (λ k i. elim i [ inl e ↦ subst (λ (x : ℕ). In x (keys (with_item num entry items))) (sym e) (key_in num entry items) | inr j ↦ key_stays num entry items k (keys_in b es k j) ])
    (λ k i. elim (key_from num entry items k i) [ inl e ↦ inl e | inr j ↦ inr (nums_in b es k j) ])
    is (rising_greatest 0 (with_item num entry items) (rising_with 0 num entry items (omega arith) (rising_entries b es)))
