-- The records of leaves in order, by their numbers: which record has a number, and that the numbers rise.
use Rattle.cdf_edits.proofs.Common.{ -ℤ_one, Leaf, List, None, Option, Some, [], ap, arith, cases_eq, cases_lt, counted, counted4, covers, drop, drop-drop, either, enumerate_from, extent, false, find, flat_map, inl, inr, is_little, item_at, le-leb, le-ltb, leaf_records, leb, lt-leb, lt-ltb, ltb, map, max_rec_at, nat_tests, number_before, option_map, parts, plain_bytes, pos, range, record_bytes, record_number_limit, records_in, records_of_leaf, refl, stored_bytes, subst, suc, sym, true, turned, type_of_variable, with_sign, zero, ℕ, ℤ, ◌*◌, ◌++◌, ◌+◌, ◌-ℤ◌, ◌-◌, ◌<◌, ◌^◌, ◌∙◌, ◌∷◌, ◌≡◌, ◌≤◌, ◌⊎◌}
use Rattle.std.proofs.Common.{take}
use Rattle.cdf_edits.proofs.Edits.NumberedItems.{Rising, none, one}
use Rattle.cdf_edits.proofs.Edits.NumberedLookup.{item_here, item_later, none_below, those, rising_those, item_those, none_those}
pub use Rattle.cdf_edits.specs.Edits.Standing.{Ascending}

-- ---- numbers that have no sign

pub signed : (n : ℕ) → n ≤ record_number_limit → with_sign n ≡ pos n
signed n h = let t : ltb n (2 ^ 31) ≡ true = grind (arith, nat_tests) in rw t refl

counted_less : (a b : ℕ) → counted (pos a -ℤ pos b) ≡ a - b
counted_less a zero = omega arith
counted_less a (suc b) = elim (either (leb (suc a) (suc b))) [ inl t ↦ let le : a - suc b ≡ 0 = grind (arith, nat_tests) in rw (t, le) refl | inr t ↦ rw t refl ]

count_from : (first last : ℕ) → last ≤ record_number_limit → first ≤ last → counted (with_sign last -ℤ number_before first) ≡ last + 1 - first
count_from zero last small le = rw (signed last small) (omega arith)
count_from (suc first) last small le = rw (signed last small, signed (suc first) (omega arith)) (ap (λ (z : ℤ). counted (pos last -ℤ z)) (-ℤ_one (pos (suc first))) ∙ counted_less last first ∙ omega arith)

-- how many records a leaf has
pub count_is : (l : Leaf) → l.last ≤ record_number_limit → l.first ≤ l.last → records_of_leaf l ≡ l.last + 1 - l.first
count_is l small le = count_from l.first l.last small le

-- ---- the records of one block

module _ (turn : List ℕ → List ℕ) (n : ℕ) where
  abbrev items : ℕ → ℕ → List ℕ → List (ℕ × List ℕ)
  items first count bytes = enumerate_from first (map turn (parts n count bytes))

  lower_rising : (low low' : ℕ) (xs : List (ℕ × List ℕ)) → low' ≤ low → Rising low xs → Rising low' xs
  lower_rising low low' xs le none = none
  lower_rising low low' xs le (one p r) = one (omega arith) r

  rising_items : (low first count : ℕ) (bytes : List ℕ) (rest : List (ℕ × List ℕ)) → low ≤ first → Rising (first + count) rest → Rising low (items first count bytes ++ rest)
  rising_items low first zero bytes rest le r = lower_rising (first + 0) low rest (omega arith) r
  rising_items low first (suc count) bytes rest le r = one le (rising_items (first + 1) (first + 1) count (drop n bytes) rest (omega arith) (subst (λ (x : ℕ). Rising x rest) (next first count) r))
    where
      next : (f c : ℕ) → f + suc c ≡ f + 1 + c
      next f c = omega arith

  item_of : (k first count : ℕ) (bytes : List ℕ) (rest : List (ℕ × List ℕ)) → first ≤ k → k < first + count → item_at k (items first count bytes ++ rest) ≡ Some (turn (take n (drop ((k - first) * n) bytes)))
  item_of k first zero bytes rest le lt = absurd (omega arith)
  item_of k first (suc count) bytes rest le lt = elim (cases_eq first k) [
    | inl e ↦
        let at : (k - first) * n ≡ 0 = ap (λ (x : ℕ). x * n) (gone first k e) ∙ none_of n in
        subst (λ (x : ℕ). item_at x ((first, turn (take n bytes)) ∷ (items (first + 1) count (drop n bytes) ++ rest)) ≡ Some (turn (take n bytes))) e (item_here first (turn (take n bytes)) (items (first + 1) count (drop n bytes) ++ rest))
        ∙ ap (λ (x : ℕ). Some (turn (take n (drop x bytes)))) (sym at)
    | inr ne ↦
        item_later k first (turn (take n bytes)) (items (first + 1) count (drop n bytes) ++ rest) ne ∙ item_of k (first + 1) count (drop n bytes) rest (omega arith) (omega arith)
        ∙ ap (λ (xs : List ℕ). Some (turn (take n xs))) (drop-drop ((k - (first + 1)) * n) n bytes ∙ ap (λ (x : ℕ). drop x bytes) (step (k - (first + 1)) (k - first) n (omega arith)))
  ]
    where
      gone : (f k : ℕ) → f ≡ k → k - f ≡ 0
      gone f k e = omega arith

      none_of : (n : ℕ) → 0 * n ≡ 0
      none_of n = omega arith

      step : (i j n : ℕ) → j ≡ suc i → n + i * n ≡ j * n
      step i j n e = rw e (omega arith)

  item_past : (k first count : ℕ) (bytes : List ℕ) (rest : List (ℕ × List ℕ)) → first + count ≤ k → item_at k (items first count bytes ++ rest) ≡ item_at k rest
  item_past k first zero bytes rest le = refl
  item_past k first (suc count) bytes rest le = item_later k first (turn (take n bytes)) (items (first + 1) count (drop n bytes) ++ rest) (λ e. absurd (omega arith)) ∙ item_past k (first + 1) count (drop n bytes) rest (omega arith)

  -- ---- the records of several

  module _ (plain : Leaf → List ℕ) where
    abbrev run : Leaf → List (ℕ × List ℕ)
    run l = items l.first (l.last + 1 - l.first) (plain l)

    abbrev piece : ℕ → Leaf → List ℕ
    piece k l = turn (take n (drop ((k - l.first) * n) (plain l)))

    ended : (f l : ℕ) → f ≤ l → f + (l + 1 - f) ≡ suc l
    ended f l h = omega arith

    rising_runs : (low upto : ℕ) (leaves : List Leaf) → Ascending low upto leaves → Rising low (flat_map run leaves)
    rising_runs low upto [] a = none
    rising_runs low upto (l ∷ more) a = rising_items low l.first (l.last + 1 - l.first) (plain l) (flat_map run more) a.0 (subst (λ (x : ℕ). Rising x (flat_map run more)) (sym (ended l.first l.last a.1)) (rising_runs (suc l.last) upto more a.3))

    skips : (k : ℕ) (l : Leaf) → (k < l.first) ⊎ (l.last < k) → covers k (range l.first l.last) ≡ false
    skips k l (inl lt) = rw (lt-leb l.first k lt) refl
    skips k l (inr lt) = elim (either (leb l.first k)) [ inl t ↦ rw (t, lt-leb k l.last lt) refl | inr t ↦ rw t refl ]

    pub none_has : (k low upto : ℕ) (leaves : List Leaf) → Ascending low upto leaves → k < low → find (λ (l : Leaf). covers k (range l.first l.last)) leaves ≡ None
    none_has k low upto [] a lt = refl
    none_has k low upto (l ∷ more) a lt = let a0 = a.0 in let a1 = a.1 in rw (skips k l (inl (omega arith))) (none_has k (suc l.last) upto more a.3 (omega arith))

    item_among : (k low upto : ℕ) (leaves : List Leaf) → Ascending low upto leaves → item_at k (flat_map run leaves) ≡ option_map (piece k) (find (λ (l : Leaf). covers k (range l.first l.last)) leaves)
    item_among k low upto [] a = refl
    item_among k low upto (l ∷ more) a = elim (cases_lt k l.first) [
      | inl lt ↦
          let nothing = none_has k (suc l.last) upto more a.3 (let a1 = a.1 in omega arith) in
          rw (skips k l (inl lt), nothing) (none_below k l.first (flat_map run (l ∷ more)) lt (rising_runs l.first upto (l ∷ more) (from l.first, a.1, a.2, a.3)))
      | inr ge ↦ elim (cases_lt l.last k) [
        | inl lt ↦ rw (skips k l (inr lt)) (item_past k l.first (l.last + 1 - l.first) (plain l) (flat_map run more) (past l.first l.last k a.1 lt) ∙ item_among k (suc l.last) upto more a.3)
        | inr le ↦ rw (le-leb l.first k ge, le-leb k l.last le) (item_of k l.first (l.last + 1 - l.first) (plain l) (flat_map run more) ge (within l.first l.last k ge le))
      ]
    ]
      where
        from : (n : ℕ) → n ≤ n
        from n = omega arith

        past : (f l k : ℕ) → f ≤ l → l < k → f + (l + 1 - f) ≤ k
        past f l k a c = omega arith

        within : (f l k : ℕ) → f ≤ k → k ≤ l → k < f + (l + 1 - f)
        within f l k a c = omega arith

-- ---- of a variable

module _ (b : List ℕ) (vdr : ℕ) where
  abbrev turn : List ℕ → List ℕ
  turn = turned (type_of_variable b vdr) (is_little b)

  abbrev n : ℕ
  n = record_bytes b vdr

  as_run : (l : Leaf) → l.first ≤ l.last → l.last ≤ record_number_limit → leaf_records b vdr l ≡ run turn n (plain_bytes b vdr) l
  as_run l le small =
      let first : counted4 l.first ≡ l.first = ap counted (signed l.first (omega arith)) in
      let count = count_is l small le in
      λ i. enumerate_from (first i) (map turn (parts n (count i) (plain_bytes b vdr l)))

  as_runs : (low : ℕ) (leaves : List Leaf) → Ascending low (suc record_number_limit) leaves → flat_map (leaf_records b vdr) leaves ≡ flat_map (run turn n (plain_bytes b vdr)) leaves
  as_runs low [] a = refl
  as_runs low (l ∷ more) a =
      let a2 = a.2 in
      let here = as_run l a.1 (omega arith) in
      let rest = as_runs (suc l.last) more a.3 in
      λ i. here i ++ rest i

  module _ (leaves : List Leaf) (a : Ascending 0 (suc record_number_limit) leaves) where
    abbrev all : List (ℕ × List ℕ)
    all = flat_map (run turn n (plain_bytes b vdr)) leaves

    abbrev most : ℕ
    most = extent (max_rec_at b vdr)

    are_below : records_in b vdr leaves ≡ those (λ (n : ℕ). ltb n most) all
    are_below = ap (those (λ (n : ℕ). ltb n most)) (as_runs 0 leaves a)

    pub rising_records : Rising 0 (records_in b vdr leaves)
    rising_records = subst (Rising 0) (sym are_below) (rising_those (λ (n : ℕ). ltb n most) 0 all (rising_runs turn n (plain_bytes b vdr) 0 (suc record_number_limit) leaves a))

    found : (k : ℕ) (o : Option Leaf) → option_map (piece turn n (plain_bytes b vdr) k) o ≡ option_map turn (option_map (λ (l : Leaf). take n (drop ((k - l.first) * n) (plain_bytes b vdr l))) o)
    found k None = refl
    found k (Some l) = refl

    -- a record up to MaxRec is what is stored of it
    pub record_is : (k : ℕ) → k < most → item_at k (records_in b vdr leaves) ≡ option_map turn (stored_bytes b vdr n leaves k)
    record_is k lt =
        ap (item_at k) are_below ∙ item_those (λ (n : ℕ). ltb n most) k all (lt-ltb k most lt) ∙ item_among turn n (plain_bytes b vdr) k 0 (suc record_number_limit) leaves a
        ∙ found k (find (λ (l : Leaf). covers k (range l.first l.last)) leaves)

    -- none is past it
    pub record_past : (k : ℕ) → most ≤ k → item_at k (records_in b vdr leaves) ≡ None
    record_past k le = ap (item_at k) are_below ∙ none_those (λ (n : ℕ). ltb n most) k all (le-ltb k most le)
