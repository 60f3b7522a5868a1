-- The entry with a number: among the numbers and the places of a chain, and among the entries that the chain means.
use Rattle.cdf_attrs.proofs.Common.{Bool, List, None, Option, Some, [], aedr_num, ap, arith, cond, either, entry_of, eq_of, false, find, if◌then◌else◌, inl, inr, item_at, length, length-map, map, number, option_and_then, option_map, position, position_or_len, refl, slice_get, suc, sym, true, with_item, zero, ℕ, ◌+◌, ◌==◌, ◌∙◌, ◌∷◌, ◌≡◌, ◌≤◌}
use Rattle.std.proofs.Common.{not, nat_lt}
use Rattle.cdf_format.specs.Content.{entries_of}

-- ---- a place by its number

position_or_len-keys : (p : ℕ → Bool) (f : ℕ → ℕ) (xs : List ℕ) → position_or_len p (map f xs) ≡ position_or_len (λ x. p (f x)) xs
position_or_len-keys p f [] = refl
position_or_len-keys p f (x ∷ xs) = ap (λ (n : ℕ). cond (not (p (f x))) (1 + n) 0) (position_or_len-keys p f xs)

got_found : (p : ℕ → Bool) (xs : List ℕ) → slice_get xs (position_or_len p xs) ≡ find p xs
got_found p [] = refl
got_found p (x ∷ xs) = choose (p x) (position_or_len p xs) (find p xs) (got_found p xs)
  where
    choose : (q : Bool) (n : ℕ) (rest : Option ℕ) → slice_get xs n ≡ rest → slice_get (x ∷ xs) (cond (not q) (1 + n) 0) ≡ cond q (Some x) rest
    choose true n rest e = refl
    choose false n rest e = let more : 1 + n ≡ suc n = omega arith in ap (slice_get (x ∷ xs)) more ∙ e

none_past : (xs : List ℕ) (n : ℕ) → length xs ≤ n → slice_get xs n ≡ None
none_past [] n le = refl
none_past (x ∷ xs) zero le = absurd (omega arith)
none_past (x ∷ xs) (suc n) le = none_past xs n (omega arith)

got_within : (xs : List ℕ) (k n : ℕ) → n ≡ length xs → option_and_then (λ i. slice_get xs i) (cond (nat_lt k n) (Some k) None) ≡ slice_get xs k
got_within xs k n e = choose (nat_lt k n) refl
  where
    choose : (q : Bool) → nat_lt k n ≡ q → option_and_then (λ i. slice_get xs i) (cond q (Some k) None) ≡ slice_get xs k
    choose true is = refl
    choose false is = sym (none_past xs k (let out : n ≤ k = grind (arith) in omega arith))

-- the place that has the place of a number among the numbers is the first one with that number
pub place_found : (f : ℕ → ℕ) (p : ℕ → Bool) (places numbers : List ℕ) → numbers ≡ map f places → option_and_then (λ i. slice_get places i) (position p numbers) ≡ find (λ x. p (f x)) places
place_found f p places numbers are =
    let long : length numbers ≡ length places = ap (λ (xs : List ℕ). length xs) are ∙ length-map places f in
    got_within places (position_or_len p numbers) (length numbers) long
    ∙ ap (slice_get places) (ap (position_or_len p) are ∙ position_or_len-keys p f places)
    ∙ got_found (λ x. p (f x)) places

-- ---- an item by its number

item-with_item : {A : Type 0} (n k : ℕ) (a : A) (items : List (ℕ × A)) → item_at k (with_item n a items) ≡ (if n == k then Some a else item_at k items)
item-with_item n k a [] = elim (either (n == k)) [ inl e ↦ rw e refl | inr e ↦ rw e refl ]
item-with_item n k a ((m, b) ∷ items) = elim (either (nat_lt n m)) [
  | inl lt ↦ elim (either (n == k)) [ inl e ↦ rw (lt, e) refl | inr e ↦ rw (lt, e) refl ]
  | inr ge ↦ elim (either (n == m)) [
    | inl same ↦ elim (either (n == k)) [
      | inl e ↦ rw (ge, same, e) refl
      | inr e ↦ let other : (m == k) ≡ false = ap (λ (x : ℕ). x == k) (sym (eq_of n m same)) ∙ e in rw (ge, same, e, other) refl
    ]
    | inr apart ↦ elim (either (m == k)) [
      | inl e ↦ let other : (n == k) ≡ false = apart_too apart (eq_of m k e) in rw (ge, apart, e, other) refl
      | inr e ↦ rw (ge, apart, e) (item-with_item n k a items)
    ]
  ]
]
  where
    apart_too : (n == m) ≡ false → m ≡ k → (n == k) ≡ false
    apart_too apart same = ap (λ (x : ℕ). n == x) (sym same) ∙ apart

chosen : {A : Type 0} (p : Bool) (f : ℕ → A) (m : ℕ) (rest : Option A) (found : Option ℕ) → rest ≡ option_map f found → (if p then Some (f m) else rest) ≡ option_map f (cond p (Some m) found)
chosen true f m rest found e = refl
chosen false f m rest found e = e

-- the entry with a number is that of the first record that has it
pub item_of_chain : (b : List ℕ) (k : ℕ) (members : List ℕ) → item_at k (entries_of b members) ≡ option_map (entry_of b) (find (λ aedr. number b aedr aedr_num == k) members)
item_of_chain b k [] = refl
item_of_chain b k (m ∷ more) =
    item-with_item (number b m aedr_num) k (entry_of b m) (entries_of b more)
    ∙ chosen (number b m aedr_num == k) (entry_of b) m (item_at k (entries_of b more)) (find (λ aedr. number b aedr aedr_num == k) more) (item_of_chain b k more)
