-- What was freed keeps its bytes where acts that only free follow, and so does what these free, where it was as it had been.
use Rattle.cdf_edits.proofs.Common.{Act, ActsFollow, Each, FreedStays, Gave, GivenStay, HasShape, In, List, Stays, SpaceLeft, Took, [], after_act, ap, arith, byte, either, eq-eqb, eqb-true, false, false-is_in, filter-in, fold, gave, given_to, if◌then◌else◌, inl, inr, is_in, le-leb, lies_in_taken, linkable-in, linkable-long, linkable-type, links_end, list_any, loose_records, nat_le, nat_lt, no_fields, refl, shape, size_at, space_before, subst, sym, taken, true, true-is_in, type_at, uir_type, unused_records, ℕ, ◌&&◌, ◌++◌, ◌+◌, ◌-◌, ◌<◌, ◌==◌, ◌∙◌, ◌∷◌, ◌≡◌, ◌≤◌, ◌⊎◌}
use Rattle.cdf_edits.proofs.Edits.ActsJoined.{ListedStay, each_among, each_sized}
use Rattle.cdf_edits.proofs.Edits.ActsThen.{taken-gave}
use Rattle.cdf_edits.proofs.Edits.Common.{Each-in, among_sized, each, filter-says, in-filter, none_of_both, stays_bytes}
use Rattle.cdf_edits.proofs.Space.ActsLeave.{loose_if, loose_says}
use Rattle.cdf_edits.specs.Commands.Allowances.{FreedStay}
use Rattle.cdf_edits.specs.Space.Acts.{Among}
use Rattle.cdf_puts.specs.Going.{LooseStay}
use Rattle.std.proofs.Common.{Bool}

-- ---- the lists of unused records behind acts that free

listed_more : (P : ℕ × ℕ → Type 0) (place size : ℕ) (list : List (ℕ × ℕ)) → P (place, size) → Each P list → Each P (given_to list place size)
listed_more P place size list p h = by (nat_le 28 size)
  where
    by : (t : Bool) → Each P (if t then (place, size) ∷ list else list)
    by true = (p, h)
    by false = h

loose_more : (P : ℕ × ℕ → Type 0) (place size : ℕ) (list : List (ℕ × ℕ)) → P (place, size) → Each P list → Each P (if nat_le 28 size then list else (place, size) ∷ list)
loose_more P place size list p h = by (nat_le 28 size)
  where
    by : (t : Bool) → Each P (if t then list else (place, size) ∷ list)
    by true = h
    by false = (p, h)

module _ (mid : List ℕ) (P : ℕ × ℕ → Type 0) where
  -- what holds of those of a list and of all that is freed holds of the list behind that
  listed_carry : (l : SpaceLeft) (places : List ℕ) → Each P l.listed → ((p : ℕ) → In p places → P (p, size_at mid p)) → Each P (fold after_act l (gave mid places)).listed
  listed_carry l [] h g = h
  listed_carry l (p ∷ more) h g = listed_carry (after_act l (Gave p (size_at mid p))) more (listed_more P p (size_at mid p) l.listed (g p (inl refl)) h) (λ q i. g q (inr i))

  loose_carry : (l : SpaceLeft) (places : List ℕ) → Each P l.loose → ((p : ℕ) → In p places → P (p, size_at mid p)) → Each P (fold after_act l (gave mid places)).loose
  loose_carry l [] h g = h
  loose_carry l (p ∷ more) h g = loose_carry (after_act l (Gave p (size_at mid p))) more (loose_more P p (size_at mid p) l.loose (g p (inl refl)) h) (λ q i. g q (inr i))

links_most : (n : ℕ) → links_end n ≤ 28
links_most n = elim (either (nat_le 28 n)) [ inl e ↦ rw e (omega arith) | inr e ↦ rw e (omega arith) ]

links_long : (n : ℕ) → 28 ≤ n → links_end n ≡ 28
links_long n le = rw (le-leb 28 n le) refl

-- what is said of one record that is freed
given_in : (mid now : List ℕ) (acts : List Act) (places : List ℕ) → GivenStay mid now no_fields acts (gave mid places) → (p : ℕ) → In p places → Each (FreedStays mid now acts p (size_at mid p) []) (unused_records now (shape now))
given_in mid now acts [] g p i = absurd i
given_in mid now acts (x ∷ more) g p (inl q) = subst (λ (y : ℕ). Each (FreedStays mid now acts y (size_at mid y) []) (unused_records now (shape now))) (sym q) g.0
given_in mid now acts (x ∷ more) g p (inr i) = given_in mid now acts more g.1 p i

-- ---- the images

module _ {b mid now : List ℕ} (places : List ℕ) (was : HasShape mid (shape mid)) (is : HasShape now (shape now)) (follow : ActsFollow mid now (gave mid places)) (listed : ListedStay mid now (gave mid places)) (loose : LooseStay mid now) (kept : (p : ℕ) → In p places → Stays b mid p []) (freed : FreedStay mid now no_fields (gave mid places)) where
  abbrev next : List Act
  next = gave mid places

  -- an unused record is one of those before, or it was freed
  abbrev Came : ℕ × ℕ → Type 0
  Came x = (In x.0 (unused_records mid (shape mid)) ⊎ In x.0 places) × (x.1 ≡ size_at mid x.0)

  listed_in : (m : ℕ) → In m (shape mid).unused → In m (unused_records mid (shape mid))
  listed_in m i =
      let ok = was.unused_chain.linkable m i in
      in-filter (λ place. type_at mid place == uir_type) (shape mid).records m (linkable-in mid (shape mid).records uir_type m ok) (eq-eqb (type_at mid m) uir_type (linkable-type mid (shape mid).records uir_type m ok))

  loose_in : (m : ℕ) → In m (loose_records mid) → In m (unused_records mid (shape mid))
  loose_in m i = let l = loose_says mid m i in in-filter (λ place. type_at mid place == uir_type) (shape mid).records m l.stands (eq-eqb (type_at mid m) uir_type l.typed)

  came_listed : (m : ℕ) → In m (shape now).unused → (In m (shape mid).unused ⊎ In m places) × (size_at now m ≡ size_at mid m)
  came_listed m i =
      let P : ℕ × ℕ → Type 0 = λ x. (In x.0 (shape mid).unused ⊎ In x.0 places) × (x.1 ≡ size_at mid x.0) in
      let all = listed_carry mid P (space_before mid) places (each_sized mid P (shape mid).unused (λ n j. (inl j, refl))) (λ p j. (inr j, refl)) in
      each_among P (fold after_act (space_before mid) next).listed all (m, size_at now m) (subst (Among (m, size_at now m)) follow.left.list_is (among_sized now (shape now).unused m (size_at now m) i refl))

  came_loose : (m : ℕ) → In m (loose_records now) → (In m (loose_records mid) ⊎ In m places) × (size_at now m ≡ size_at mid m)
  came_loose m i =
      let P : ℕ × ℕ → Type 0 = λ x. (In x.0 (loose_records mid) ⊎ In x.0 places) × (x.1 ≡ size_at mid x.0) in
      let all = loose_carry mid P (space_before mid) places (each_sized mid P (loose_records mid) (λ n j. (inl j, refl))) (λ p j. (inr j, refl)) in
      each_among P (fold after_act (space_before mid) next).loose all (m, size_at now m) (Each-in (λ place. Among (place, size_at now place) (fold after_act (space_before mid) next).loose) (loose_records now) follow.left.loose_are m i)

  -- a byte lies behind the links of such a record, and stays; or it is as it was at first
  record Lay (n : ℕ) : Type 0 where
    uir : ℕ
    stands : In uir (unused_records mid (shape mid))
    low : uir + links_end (size_at mid uir) ≤ n
    high : n < uir + size_at mid uir
    same : byte now n ≡ byte mid n

  abbrev Back : ℕ → Type 0
  Back n = Lay n ⊎ (byte now n ≡ byte b n)

  none_taken : (n : ℕ) → lies_in_taken next n ≡ false
  none_taken n = ap (λ (ts : List (ℕ × ℕ)). list_any (λ take. nat_le take.0 n && nat_lt n (take.0 + take.1)) ts) (taken-gave mid places)

  at_place : (p n : ℕ) → p ≤ n → p + (n - p) ≡ n
  at_place p n le = omega arith

  -- of what is freed
  given_same : (p uir n : ℕ) → In p places → In uir (unused_records now (shape now)) → p ≤ n → n < p + size_at mid p → uir + links_end (size_at now uir) ≤ n → n < uir + size_at now uir → byte now n ≡ byte b n
  given_same p uir n i j from upto low high =
      let e = at_place p n from in
      let one = Each-in (FreedStays mid now next p (size_at mid p) []) (unused_records now (shape now)) (given_in mid now next places freed p i) uir j (n - p) (omega (arith, from, upto)) (omega (arith, e, low)) (omega (arith, e, high)) tt (none_taken (p + (n - p))) in
      let k = kept p i in
      let two = k.same (n - p) (omega (arith, from, upto, k.size_is)) tt in
      subst (λ (x : ℕ). byte now x ≡ byte b x) e (one ∙ two)

  back_listed : (uir n : ℕ) → In uir (unused_records now (shape now)) → In uir (shape now).unused → uir + links_end (size_at now uir) ≤ n → n < uir + size_at now uir → Back n
  back_listed uir n j i low high =
      let c = came_listed uir i in
      elim c.0 [
        | inl old ↦
            let long = linkable-long mid (shape mid).records uir_type uir (was.unused_chain.linkable uir old) in
            let z = c.1 in
            let past : uir + 28 ≤ n = subst (λ (e : ℕ). uir + e ≤ n) (links_long (size_at now uir) (omega (arith, z, long))) low in
            let most = links_most (size_at mid uir) in
            let none : list_any (λ take. nat_le uir take.0 && nat_lt take.0 (uir + size_at mid uir)) (taken next) ≡ false = ap (λ (ts : List (ℕ × ℕ)). list_any (λ take. nat_le uir take.0 && nat_lt take.0 (uir + size_at mid uir)) ts) (taken-gave mid places) in
            inl (record {
              uir = uir;
              stands = listed_in uir old;
              low = omega (arith, past, most);
              high = omega (arith, high, z);
              same = (stays_bytes (listed uir old none) 28 (size_at mid uir) (omega arith) (λ k l u. (inr (omega arith), (inr (omega arith), tt)))).each n (omega (arith, past)) (omega (arith, high, z));
            })
        | inr given ↦ let z = c.1 in inr (given_same uir uir n given j (omega (arith, low)) (omega (arith, high, z)) low high)
      ]

  back_loose : (uir n : ℕ) → In uir (unused_records now (shape now)) → (In uir (shape now).unused → ⊥) → uir + links_end (size_at now uir) ≤ n → n < uir + size_at now uir → Back n
  back_loose uir n j out low high =
      let inside = filter-in (λ place. type_at now place == uir_type) (shape now).records uir j in
      let typed = eqb-true (type_at now uir) uir_type (filter-says (λ place. type_at now place == uir_type) (shape now).records uir j) in
      let c = came_loose uir (loose_if now uir (record { stands = inside; typed = typed; unlisted = out })) in
      elim c.0 [
        | inl old ↦
            let l = loose_says mid uir old in
            let z = c.1 in
            inl (record {
              uir = uir;
              stands = loose_in uir old;
              low = subst (λ (s : ℕ). uir + links_end s ≤ n) z low;
              high = omega (arith, high, z);
              same = (stays_bytes (loose uir l.stands l.typed l.unlisted) 0 (size_at mid uir) (omega arith) (λ k l u. tt)).each n (omega (arith, low)) (omega (arith, high, z));
            })
        | inr given ↦ let z = c.1 in inr (given_same uir uir n given j (omega (arith, low)) (omega (arith, high, z)) low high)
      ]

  back : (uir n : ℕ) → In uir (unused_records now (shape now)) → uir + links_end (size_at now uir) ≤ n → n < uir + size_at now uir → Back n
  back uir n j low high = elim (either (is_in uir (shape now).unused)) [
    | inl e ↦ back_listed uir n j (true-is_in uir (shape now).unused e) low high
    | inr e ↦ back_loose uir n j (false-is_in uir (shape now).unused e) low high
  ]

  -- ---- all that was freed

  module _ (acts : List Act) where
    abbrev all : List Act
    all = acts ++ next

    first_given : (gives : List Act) → GivenStay b mid no_fields acts gives → GivenStay b now no_fields all gives
    first_given [] g = tt
    first_given (Took place need ∷ gives) g = first_given gives g
    first_given (Gave place size ∷ gives) g = (
      each (FreedStays b now all place size []) (unused_records now (shape now)) (λ uir j i lt low high out free.
          let none = none_of_both (λ take. nat_le take.0 (place + i) && nat_lt (place + i) (take.0 + take.1)) acts next free in
          elim (back uir (place + i) j low high) [
            | inl x ↦ x.same ∙ Each-in (FreedStays b mid acts place size []) (unused_records mid (shape mid)) g.0 x.uir x.stands i lt x.low x.high tt none.0
            | inr same ↦ same
          ]),
      first_given gives g.1,
    )

    next_given : (ps : List ℕ) → ((p : ℕ) → In p ps → In p places) → GivenStay b now no_fields all (gave mid ps)
    next_given [] f = tt
    next_given (p ∷ ps) f = (
      each (FreedStays b now all p (size_at mid p) []) (unused_records now (shape now)) (λ uir j i lt low high out free. given_same p uir (p + i) (f p (inl refl)) j (omega arith) (omega (arith, lt)) low high),
      next_given ps (λ q k. f q (inr k)),
    )

    both_given : (gives : List Act) → GivenStay b now no_fields all gives → GivenStay b now no_fields all (gives ++ next)
    both_given [] g = next_given places (λ p i. i)
    both_given (Took place need ∷ gives) g = both_given gives g
    both_given (Gave place size ∷ gives) g = (g.0, both_given gives g.1)

    pub freed_both : FreedStay b mid no_fields acts → FreedStay b now no_fields (acts ++ next)
    freed_both g = both_given acts (first_given acts g)
