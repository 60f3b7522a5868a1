-- Items by their numbers, told by what each number has: of lists whose numbers rise, those that have the same are the same.
use Rattle.cdf_edits.proofs.Common.{Bool, List, None, Some, [], ap, arith, cases_eq, cases_lt, either, eq-eqb, false, filter, inl, inr, item_at, le-leb, lt-leb, nat_le, ne_eqb, not, refl, subst, suc, sym, true, true≢false, with_item, with_items, without, zero, ℕ, ◌&&◌, ◌+◌, ◌<◌, ◌∙◌, ◌∷◌, ◌≡◌, ◌≢◌, ◌≤◌}
use Rattle.cdf_edits.proofs.Edits.NumberedItems.{before_first, at_first, behind_first, Order, Below, Equal, Above, order, Rising, none, one, rising_lower, rising_with}

differ : (p : ℕ → Bool) (n k : ℕ) → p n ≡ true → p k ≡ false → n ≢ k
differ p n k e f q = true≢false (sym e ∙ ap p q ∙ f)

-- every number but one
abbrev out : ℕ → ℕ → Bool
out m k = not (nat_le m k && nat_le k m)

out_own : (m : ℕ) → out m m ≡ false
out_own m = rw (le-leb m m (omega arith)) refl

out_other : (m k : ℕ) → m ≢ k → out m k ≡ true
out_other m k ne = elim (cases_lt k m) [ inl lt ↦ rw (lt-leb m k lt) refl | inr le ↦ rw (le-leb m k le, lt-leb k m (omega arith)) refl ]

module _ {A : Type 0} where
  -- ---- one more in front

  pub item_here : (n : ℕ) (a : A) (rest : List (ℕ × A)) → item_at n ((n, a) ∷ rest) ≡ Some a
  item_here n a rest = rw (eq-eqb n n refl) refl

  pub item_later : (k n : ℕ) (a : A) (rest : List (ℕ × A)) → n ≢ k → item_at k ((n, a) ∷ rest) ≡ item_at k rest
  item_later k n a rest ne = rw (ne_eqb n k ne) refl

  either_way : (k m : ℕ) (c : A) (xs ys : List (ℕ × A)) → item_at k xs ≡ item_at k ys → item_at k ((m, c) ∷ xs) ≡ item_at k ((m, c) ∷ ys)
  either_way k m c xs ys so = elim (cases_eq m k) [
    | inl e ↦ subst (λ (x : ℕ). item_at x ((m, c) ∷ xs) ≡ item_at x ((m, c) ∷ ys)) e (item_here m c xs ∙ sym (item_here m c ys))
    | inr other ↦ item_later k m c xs other ∙ so ∙ sym (item_later k m c ys other)
  ]

  -- a number below all has none
  pub none_below : (k low : ℕ) (items : List (ℕ × A)) → k < low → Rising low items → item_at k items ≡ None
  none_below k low items lt none = refl
  none_below k low items lt (one {n = n} {a = a} {rest = rest} p r) = item_later k n a rest (λ e. absurd (omega arith)) ∙ none_below k (n + 1) rest (omega arith) r

  -- ---- the same items

  no_item : {a : A} → Some a ≡ None → ⊥
  no_item e = cc

  tails : (n low low' : ℕ) (a c : A) (xs ys : List (ℕ × A)) → Rising (n + 1) xs → Rising (n + 1) ys → ((k : ℕ) → item_at k ((n, a) ∷ xs) ≡ item_at k ((n, c) ∷ ys)) → (k : ℕ) → item_at k xs ≡ item_at k ys
  tails n low low' a c xs ys r r' same k = elim (cases_eq n k) [
    | inl e ↦ subst (λ (x : ℕ). item_at x xs ≡ item_at x ys) e (none_below n (n + 1) xs (omega arith) r ∙ sym (none_below n (n + 1) ys (omega arith) r'))
    | inr ne ↦ sym (item_later k n a xs ne) ∙ same k ∙ item_later k n c ys ne
  ]

  pub same_items : (low low' : ℕ) (xs ys : List (ℕ × A)) → Rising low xs → Rising low' ys → ((k : ℕ) → item_at k xs ≡ item_at k ys) → xs ≡ ys
  same_items low low' xs ys none none same = refl
  same_items low low' xs ys none (one {n = n} {a = c} {rest = rest} p r) same = absurd (no_item (sym (same n ∙ item_here n c rest)))
  same_items low low' xs ys (one {n = n} {a = a} {rest = rest} p r) none same = absurd (no_item (sym (item_here n a rest) ∙ same n))
  same_items low low' xs ys (one {n = n} {a = a} {rest = xs'} p r) (one {n = m} {a = c} {rest = ys'} q r') same = elim (order n m) [
    | Below lt ↦ absurd (no_item (sym (item_here n a xs') ∙ same n ∙ none_below n m ((m, c) ∷ ys') lt (one (omega arith) r')))
    | Above lt ↦ absurd (no_item (sym (item_here m c ys') ∙ sym (same m) ∙ none_below m n ((n, a) ∷ xs') lt (one (omega arith) r)))
    | Equal e ↦
        let r'' : Rising (n + 1) ys' = subst (λ (x : ℕ). Rising (x + 1) ys') (sym e) r' in
        let same' : (k : ℕ) → item_at k ((n, a) ∷ xs') ≡ item_at k ((n, c) ∷ ys') = λ k. same k ∙ ap (λ (x : ℕ). item_at k ((x, c) ∷ ys')) (sym e) in
        let here : a ≡ c = same_some (sym (item_here n a xs') ∙ same' n ∙ item_here n c ys') in
        let rest = same_items (n + 1) (n + 1) xs' ys' r r'' (tails n low low' a c xs' ys' r r'' same') in
        λ i. (e i, here i) ∷ rest i
  ]
    where
      same_some : {x y : A} → Some x ≡ Some y → x ≡ y
      same_some e = cc

  -- ---- an item that is put in

  pub item_with : (n : ℕ) (a : A) (items : List (ℕ × A)) → item_at n (with_item n a items) ≡ Some a
  item_with n a [] = item_here n a []
  item_with n a (item ∷ rest) = by item.0 item.1 (item_with n a rest) (order n item.0)
    where
      by : (m : ℕ) (c : A) → item_at n (with_item n a rest) ≡ Some a → Order n m → item_at n (with_item n a ((m, c) ∷ rest)) ≡ Some a
      by m c so (Below lt) = ap (item_at n) (before_first n a m c rest lt) ∙ item_here n a ((m, c) ∷ rest)
      by m c so (Equal e) = ap (item_at n) (at_first n a m c rest e) ∙ item_here n a rest
      by m c so (Above lt) = ap (item_at n) (behind_first n a m c rest lt) ∙ item_later n m c (with_item n a rest) (λ e. absurd (omega arith)) ∙ so

  pub item_beside : (k n : ℕ) (a : A) (items : List (ℕ × A)) → n ≢ k → item_at k (with_item n a items) ≡ item_at k items
  item_beside k n a [] ne = item_later k n a [] ne
  item_beside k n a (item ∷ rest) ne = by item.0 item.1 (item_beside k n a rest ne) (order n item.0)
    where
      by : (m : ℕ) (c : A) → item_at k (with_item n a rest) ≡ item_at k rest → Order n m → item_at k (with_item n a ((m, c) ∷ rest)) ≡ item_at k ((m, c) ∷ rest)
      by m c so (Below lt) = ap (item_at k) (before_first n a m c rest lt) ∙ item_later k n a ((m, c) ∷ rest) ne
      by m c so (Equal e) = ap (item_at k) (at_first n a m c rest e) ∙ item_later k n a rest ne ∙ sym (item_later k m c rest (λ q. ne (e ∙ q)))
      by m c so (Above lt) = ap (item_at k) (behind_first n a m c rest lt) ∙ either_way k m c (with_item n a rest) rest so

  -- ---- several that are the same

  pub rising_with_items : (low n count : ℕ) (a : A) (items : List (ℕ × A)) → low ≤ n → Rising low items → Rising low (with_items n count a items)
  rising_with_items low n zero a items le r = r
  rising_with_items low n (suc count) a items le r = rising_with low n a (with_items (n + 1) count a items) le (rising_with_items low (n + 1) count a items (omega arith) r)

  pub item_among : (k n count : ℕ) (a : A) (items : List (ℕ × A)) → n ≤ k → k < n + count → item_at k (with_items n count a items) ≡ Some a
  item_among k n zero a items le lt = absurd (omega arith)
  item_among k n (suc count) a items le lt = elim (cases_eq n k) [
    | inl e ↦ subst (λ (x : ℕ). item_at x (with_item n a (with_items (n + 1) count a items)) ≡ Some a) e (item_with n a (with_items (n + 1) count a items))
    | inr ne ↦ item_beside k n a (with_items (n + 1) count a items) ne ∙ item_among k (n + 1) count a items (omega arith) (omega arith)
  ]

  pub item_before_all : (k n count : ℕ) (a : A) (items : List (ℕ × A)) → k < n → item_at k (with_items n count a items) ≡ item_at k items
  item_before_all k n zero a items lt = refl
  item_before_all k n (suc count) a items lt = item_beside k n a (with_items (n + 1) count a items) (λ e. absurd (omega arith)) ∙ item_before_all k (n + 1) count a items (omega arith)

  pub item_past_all : (k n count : ℕ) (a : A) (items : List (ℕ × A)) → n + count ≤ k → item_at k (with_items n count a items) ≡ item_at k items
  item_past_all k n zero a items le = refl
  item_past_all k n (suc count) a items le = item_beside k n a (with_items (n + 1) count a items) (λ e. absurd (omega arith)) ∙ item_past_all k (n + 1) count a items (omega arith)

  -- ---- those whose numbers pass a test

  module _ (p : ℕ → Bool) where
    abbrev pub those : List (ℕ × A) → List (ℕ × A)
    those items = filter (λ pair. p pair.0) items

    stays : (n : ℕ) (a : A) (rest : List (ℕ × A)) → p n ≡ true → those ((n, a) ∷ rest) ≡ (n, a) ∷ those rest
    stays n a rest e = rw e refl

    goes : (n : ℕ) (a : A) (rest : List (ℕ × A)) → p n ≡ false → those ((n, a) ∷ rest) ≡ those rest
    goes n a rest e = rw e refl

    pub rising_those : (low : ℕ) (items : List (ℕ × A)) → Rising low items → Rising low (those items)
    rising_those low items none = none
    rising_those low items (one {n = n} {a = a} {rest = rest} q r) = elim (either (p n)) [
      | inl e ↦ subst (Rising low) (sym (stays n a rest e)) (one q (rising_those (n + 1) rest r))
      | inr e ↦ subst (Rising low) (sym (goes n a rest e)) (rising_lower (n + 1) low (those rest) (omega arith) (rising_those (n + 1) rest r))
    ]

    pub item_those : (k : ℕ) (items : List (ℕ × A)) → p k ≡ true → item_at k (those items) ≡ item_at k items
    item_those k [] e = refl
    item_those k (item ∷ rest) e = by item.0 item.1 (item_those k rest e)
      where
        by : (n : ℕ) (a : A) → item_at k (those rest) ≡ item_at k rest → item_at k (those ((n, a) ∷ rest)) ≡ item_at k ((n, a) ∷ rest)
        by n a so = elim (either (p n)) [
          | inl f ↦ ap (item_at k) (stays n a rest f) ∙ either_way k n a (those rest) rest so
          | inr f ↦ ap (item_at k) (goes n a rest f) ∙ so ∙ sym (item_later k n a rest (λ q. differ p k n e f (sym q)))
        ]

    pub none_those : (k : ℕ) (items : List (ℕ × A)) → p k ≡ false → item_at k (those items) ≡ None
    none_those k [] e = refl
    none_those k (item ∷ rest) e = by item.0 item.1 (none_those k rest e)
      where
        by : (n : ℕ) (a : A) → item_at k (those rest) ≡ None → item_at k (those ((n, a) ∷ rest)) ≡ None
        by n a so = elim (either (p n)) [
          | inl f ↦ ap (item_at k) (stays n a rest f) ∙ item_later k n a (those rest) (differ p n k f e) ∙ so
          | inr f ↦ ap (item_at k) (goes n a rest f) ∙ so
        ]

  -- ---- an item that is put in again, or goes

  abbrev by_number : List (ℕ × A) → List (ℕ × A) → ℕ → Type 0
  by_number xs ys k = item_at k xs ≡ item_at k ys

  -- two of different numbers
  pub items_swap : (n m : ℕ) (a b : A) (items : List (ℕ × A)) → n ≢ m → Rising 0 items → with_item n a (with_item m b items) ≡ with_item m b (with_item n a items)
  items_swap n m a b items ne r =
      let left = with_item n a (with_item m b items) in
      let right = with_item m b (with_item n a items) in
      same_items 0 0 left right (rising_with 0 n a _ (omega arith) (rising_with 0 m b items (omega arith) r)) (rising_with 0 m b _ (omega arith) (rising_with 0 n a items (omega arith) r)) (λ k. elim (cases_eq n k) [
        | inl e ↦ subst (by_number left right) e (item_with n a _ ∙ sym (item_beside n m b _ (λ q. ne (sym q)) ∙ item_with n a items))
        | inr p ↦ item_beside k n a _ p ∙ elim (cases_eq m k) [ inl e ↦ subst (by_number (with_item m b items) right) e (item_with m b items ∙ sym (item_with m b _)) | inr q ↦ item_beside k m b items q ∙ sym (item_beside k m b _ q ∙ item_beside k n a items p) ]
      ])

  -- one of the same number
  pub item_again : (n : ℕ) (a b : A) (items : List (ℕ × A)) → Rising 0 items → with_item n a (with_item n b items) ≡ with_item n a items
  item_again n a b items r =
      let left = with_item n a (with_item n b items) in
      same_items 0 0 left (with_item n a items) (rising_with 0 n a _ (omega arith) (rising_with 0 n b items (omega arith) r)) (rising_with 0 n a items (omega arith) r)
      (λ k. elim (cases_eq n k) [ inl e ↦ subst (by_number left (with_item n a items)) e (item_with n a _ ∙ sym (item_with n a items)) | inr p ↦ item_beside k n a _ p ∙ item_beside k n b items p ∙ sym (item_beside k n a items p) ])

  pub item_gone : (n : ℕ) (a : A) (items : List (ℕ × A)) → Rising 0 items → without n n (with_item n a items) ≡ without n n items
  item_gone n a items r =
      let more = with_item n a items in
      same_items 0 0 (without n n more) (without n n items) (rising_those (out n) 0 more (rising_with 0 n a items (omega arith) r)) (rising_those (out n) 0 items r) (λ k. elim (cases_eq n k) [
        | inl e ↦ subst (by_number (without n n more) (without n n items)) e (none_those (out n) n more (out_own n) ∙ sym (none_those (out n) n items (out_own n)))
        | inr p ↦ item_those (out n) k more (out_other n k p) ∙ item_beside k n a items p ∙ sym (item_those (out n) k items (out_other n k p))
      ])

  -- one of another number is put in before or after that
  pub item_stays : (n m : ℕ) (a : A) (items : List (ℕ × A)) → n ≢ m → Rising 0 items → without m m (with_item n a items) ≡ with_item n a (without m m items)
  item_stays n m a items ne r =
      let more = with_item n a items in
      let left = without m m more in
      let right = with_item n a (without m m items) in
      same_items 0 0 left right (rising_those (out m) 0 more (rising_with 0 n a items (omega arith) r)) (rising_with 0 n a _ (omega arith) (rising_those (out m) 0 items r)) (λ k. elim (cases_eq m k) [
        | inl e ↦ subst (by_number left right) e (none_those (out m) m more (out_own m) ∙ sym (item_beside m n a _ ne ∙ none_those (out m) m items (out_own m)))
        | inr p ↦ item_those (out m) k more (out_other m k p) ∙ elim (cases_eq n k) [
          | inl e ↦ subst (by_number more right) e (item_with n a items ∙ sym (item_with n a _))
          | inr q ↦ item_beside k n a items q ∙ sym (item_beside k n a _ q ∙ item_those (out m) k items (out_other m k p))
        ]
      ])
