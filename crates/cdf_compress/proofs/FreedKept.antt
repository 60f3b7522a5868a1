-- What acts freed keeps its bytes through later acts: through those that take, but for the bytes that lie in a record which they take, and through those that free.
use Rattle.cdf_edits.proofs.Common.{[], Act, ActsFollow, Each, FreedStay, FreedStays, Gave, GivenStay, HasShape, In, List, RestStays, Same, SpaceLeft, Took, after_act, ap, arith, byte, either, eq-eqb, eqb-true, false, false-is_in, filter-in, fold, gave, inl, inr, is_in, le-leb, lies_in_taken, linkable-in, linkable-long, linkable-type, links_end, list_any, loose_records, nat_le, nat_lt, nat_tests, no_fields, refl, shape, size_at, size_kept, sized, space_before, subst, sym, taken, true-is_in, type_at, uir_type, unused_records, ℕ, ◌&&◌, ◌++◌, ◌+◌, ◌<◌, ◌==◌, ◌∙◌, ◌∷◌, ◌≡◌, ◌≤◌, ◌-◌}
use Rattle.cdf_edits.proofs.Edits.ActsJoined.{ListedStay, each_among, each_sized, unused_once}
use Rattle.cdf_edits.proofs.Edits.ActsThen.{gave-same, taken-gave}
use Rattle.cdf_edits.proofs.Edits.Common.{Each-in, Kept, OnlyTakes, among_sized, each, filter-says, in-filter, none_of_both, same-then, stays_bytes, untaken}
use Rattle.cdf_edits.proofs.Edits.FreedBytes.{freed_stay}
use Rattle.cdf_edits.proofs.Space.ActsLeave.{loose_if, loose_says}
use Rattle.cdf_edits.specs.Space.Acts.{Among}
use Rattle.cdf_puts.specs.Going.{LooseStay}
use Rattle.cdf_gaps.proofs.FreedThenTaken.{part_of}

links_most : (n : ℕ) → links_end n ≤ 28
links_most n = grind (arith, nat_tests)

links_long : (n : ℕ) → 28 ≤ n → links_end n ≡ 28
links_long n le = rw (le-leb 28 n le) refl

-- ---- through acts that take

loose_same : (l : SpaceLeft) (acts : List Act) → OnlyTakes acts → (fold after_act l acts).loose ≡ l.loose
loose_same l [] takes = refl
loose_same l (Took place need ∷ acts) takes = loose_same (after_act l (Took place need)) acts takes
loose_same l (Gave place size ∷ acts) takes = absurd takes

-- a byte lies behind the links of an unused record of an image, and a later image has it as it was
record Lay (mid last : List ℕ) (n : ℕ) : Type 0 where
  uir : ℕ
  stands : In uir (unused_records mid (shape mid))
  low : uir + links_end (size_at mid uir) ≤ n
  high : n < uir + size_at mid uir
  same : byte last n ≡ byte mid n

module _ {mid last : List ℕ} {acts : List Act} (h : HasShape mid (shape mid)) (h' : HasShape last (shape last)) (follow : ActsFollow mid last acts) (listed : ListedStay mid last acts) (loose : LooseStay mid last) where
  unused_in : (m : ℕ) → In m (shape mid).records → type_at mid m ≡ uir_type → In m (unused_records mid (shape mid))
  unused_in m i t = in-filter (λ place. type_at mid place == uir_type) (shape mid).records m i (eq-eqb (type_at mid m) uir_type t)

  -- a listed record is a listed record of the image before, or the later part of such a record
  listed_lay : OnlyTakes acts → (uir n : ℕ) → In uir (shape last).unused → uir + links_end (size_at last uir) ≤ n → n < uir + size_at last uir → lies_in_taken acts n ≡ false → Lay mid last n
  listed_lay takes uir n i low high free =
      let long = linkable-long last (shape last).records uir_type uir (h'.unused_chain.linkable uir i) in
      let past : uir + 28 ≤ n = subst (λ (e : ℕ). uir + e ≤ n) (links_long (size_at last uir) long) low in
      let o = part_of follow takes uir i in
      let ok = h.unused_chain.linkable o.place o.listed in
      let stands = unused_in o.place (linkable-in mid (shape mid).records uir_type o.place ok) (linkable-type mid (shape mid).records uir_type o.place ok) in
      let most = links_most (size_at mid o.place) in
      elim o.comes [
        | inl x ↦
            let left = subst (Among (uir, size_at last uir)) follow.left.list_is (among_sized last (shape last).unused uir (size_at last uir) i refl) in
            let none = untaken (space_before mid) acts uir (size_at last uir) follow.are takes (unused_once h) left in
            let stays = listed o.place o.listed (sym (λ k. list_any (λ take. nat_le (x.0 k) take.0 && nat_lt take.0 (x.0 k + x.1 k)) (taken acts)) ∙ none) in
            record {
              uir = o.place;
              stands = stands;
              low = omega (arith, x.0, most, past);
              high = omega (arith, x.0, x.1, high);
              same = (stays_bytes stays 28 (size_at mid o.place) (omega arith) (λ k l u. (inr (omega arith), (inr (omega arith), tt)))).each n (omega (arith, x.0, past)) (omega (arith, x.0, x.1, high));
            }
        | inr x ↦ record {
          uir = o.place;
          stands = stands;
          low = omega (arith, x.0, most, past);
          high = omega (arith, x.1, high);
          same = Each-in (RestStays mid last acts o.place) (shape last).unused (Each-in (λ split. Each (RestStays mid last acts split) (shape last).unused) (shape mid).unused follow.rests o.place o.listed) uir i x.0 (omega (arith, x.1, high, past)) n past high free;
        }
      ]

  -- a record that is on no list is such a record of the image before
  loose_lay : OnlyTakes acts → (uir n : ℕ) → In uir (unused_records last (shape last)) → (In uir (shape last).unused → ⊥) → uir + links_end (size_at last uir) ≤ n → n < uir + size_at last uir → Lay mid last n
  loose_lay takes uir n i out low high =
      let inside = filter-in (λ place. type_at last place == uir_type) (shape last).records uir i in
      let typed = eqb-true (type_at last uir) uir_type (filter-says (λ place. type_at last place == uir_type) (shape last).records uir i) in
      let there = Each-in (λ place. Among (place, size_at last place) (fold after_act (space_before mid) acts).loose) (loose_records last) follow.left.loose_are uir (loose_if last uir (record { stands = inside; typed = typed; unlisted = out })) in
      let was = each_among (λ x. In x.0 (loose_records mid) × (x.1 ≡ size_at mid x.0)) (sized mid (loose_records mid)) (each_sized mid (λ x. In x.0 (loose_records mid) × (x.1 ≡ size_at mid x.0)) (loose_records mid) (λ m j. (j, refl))) (uir, size_at last uir)
      (subst (Among (uir, size_at last uir)) (loose_same (space_before mid) acts takes) there) in
      let l = loose_says mid uir was.0 in
      let stays = loose uir l.stands l.typed l.unlisted in
      record {
        uir = uir;
        stands = unused_in uir l.stands l.typed;
        low = subst (λ (s : ℕ). uir + links_end s ≤ n) was.1 low;
        high = omega (arith, was.1, high);
        same = (stays_bytes stays 0 (size_at mid uir) (omega arith) (λ k l u. tt)).each n (omega (arith, low)) (omega (arith, was.1, high));
      }

  lay : OnlyTakes acts → (uir n : ℕ) → In uir (unused_records last (shape last)) → uir + links_end (size_at last uir) ≤ n → n < uir + size_at last uir → lies_in_taken acts n ≡ false → Lay mid last n
  lay takes uir n i low high free = elim (either (is_in uir (shape last).unused)) [
    | inl e ↦ listed_lay takes uir n (true-is_in uir (shape last).unused e) low high free
    | inr e ↦ loose_lay takes uir n i (false-is_in uir (shape last).unused e) low high
  ]

  module _ (b : List ℕ) (cut : List Act) where
    given_on : OnlyTakes acts → (gives : List Act) → GivenStay b mid no_fields cut gives → GivenStay b last no_fields (cut ++ acts) gives
    given_on takes [] g = tt
    given_on takes (Took place need ∷ gives) g = given_on takes gives g
    given_on takes (Gave place size ∷ gives) g = (
      each (FreedStays b last (cut ++ acts) place size []) (unused_records last (shape last)) (λ uir j i lt low high out free.
          let none = none_of_both (λ take. nat_le take.0 (place + i) && nat_lt (place + i) (take.0 + take.1)) cut acts free in
          let x = lay takes uir (place + i) j low high none.1 in
          x.same ∙ Each-in (FreedStays b mid cut place size []) (unused_records mid (shape mid)) g.0 x.uir x.stands i lt x.low x.high tt none.0),
      given_on takes gives g.1,
    )

    none_more : (all gives : List Act) → OnlyTakes gives → GivenStay b last no_fields all gives
    none_more all [] t = tt
    none_more all (Took place need ∷ gives) t = none_more all gives t
    none_more all (Gave place size ∷ gives) t = absurd t

    both_given : (all gives more : List Act) → GivenStay b last no_fields all gives → GivenStay b last no_fields all more → GivenStay b last no_fields all (gives ++ more)
    both_given all [] more g k = k
    both_given all (Took place need ∷ gives) more g k = both_given all gives more g k
    both_given all (Gave place size ∷ gives) more g k = (g.0, both_given all gives more g.1 k)

    pub taken_then : OnlyTakes acts → FreedStay b mid no_fields cut → FreedStay b last no_fields (cut ++ acts)
    taken_then takes g = both_given (cut ++ acts) cut acts (given_on takes cut g) (none_more (cut ++ acts) acts takes)

  -- ---- through acts that free

  given_at : (b : List ℕ) (all : List Act) (places : List ℕ) → GivenStay b mid no_fields all (gave b places) → (m : ℕ) → In m places → Each (FreedStays b mid all m (size_at b m) []) (unused_records mid (shape mid))
  given_at b all [] g m i = absurd i
  given_at b all (place ∷ places) g m (inl e) = subst (λ (x : ℕ). Each (FreedStays b mid all x (size_at b x) []) (unused_records mid (shape mid))) (sym e) g.0
  given_at b all (place ∷ places) g m (inr i) = given_at b all places g.1 m i

  module _ (gives : taken acts ≡ []) where
    -- an unused record stays but for its links
    unused_stays : (m : ℕ) → In m (shape mid).records → type_at mid m ≡ uir_type → In m (shape last).records × ((size_at last m ≡ size_at mid m) × Same mid last (m + links_end (size_at mid m)) (m + size_at mid m))
    unused_stays m i t = elim (either (is_in m (shape mid).unused)) [
      | inl e ↦
          let j = true-is_in m (shape mid).unused e in
          let x = listed m j (ap (list_any (λ (take : ℕ × ℕ). nat_le m take.0 && nat_lt take.0 (m + size_at mid m))) gives) in
          let long = linkable-long mid (shape mid).records uir_type m (h.unused_chain.linkable m j) in
          (x.stands, (x.size_is, subst (λ (k : ℕ). Same mid last (m + k) (m + size_at mid m)) (sym (links_long (size_at mid m) long)) (stays_bytes x 28 (size_at mid m) (omega arith) (λ k l u. (inr (omega arith), (inr (omega arith), tt))))))
      | inr e ↦
          let x = loose m i t (false-is_in m (shape mid).unused e) in
          (x.stands, (x.size_is, stays_bytes x (links_end (size_at mid m)) (size_at mid m) (omega arith) (λ k l u. tt)))
    ]

    module _ (b freed : List ℕ) (sizes : (m : ℕ) → In m freed → size_at mid m ≡ size_at b m) (unused : (m : ℕ) → In m freed → In m (shape mid).records × (type_at mid m ≡ uir_type)) (stay : FreedStay b mid no_fields (gave b freed)) where
      abbrev cut : List Act
      cut = gave b freed

      stays : (m : ℕ) → In m freed → In m (shape last).records × ((size_at last m ≡ size_at mid m) × Same mid last (m + links_end (size_at mid m)) (m + size_at mid m))
      stays m i = let u = unused m i in unused_stays m u.0 u.1

      behind : (m : ℕ) → In m freed → Same b mid (m + links_end (size_at b m)) (m + size_at b m)
      behind m i =
          let u = unused m i in
          let size = sizes m i in
          let x = Each-in (FreedStays b mid cut m (size_at b m) []) (unused_records mid (shape mid)) (given_at b cut freed stay m i) m (unused_in m u.0 u.1) in
          record {
            each = λ p low high.
                let at : p ≡ m + (p - m) = omega (arith, low) in
                let from : m + links_end (size_at mid m) ≤ m + (p - m) = subst (λ (k : ℕ). m + links_end k ≤ m + (p - m)) (sym size) (omega (arith, low)) in
                ap (byte mid) at ∙ x (p - m) (omega (arith, low, high)) from (omega (arith, low, high, size)) tt (ap (list_any (λ (take : ℕ × ℕ). nat_le take.0 (m + (p - m)) && nat_lt (m + (p - m)) (take.0 + take.1))) (taken-gave b freed)) ∙ ap (byte b) (sym at);
          }

      first : GivenStay b last no_fields (cut ++ acts) cut
      first =
          freed_stay b last (cut ++ acts) freed no_fields h'.tiled (λ m i. (stays m i).0) (λ m i. (stays m i).1.0 ∙ sizes m i) (λ m i.
          let size = sizes m i in
          same-then b mid last (m + links_end (size_at b m)) (m + size_at b m) (behind m i) (subst (λ (k : ℕ). Same mid last (m + links_end k) (m + k)) size (stays m i).1.1))

      -- what is freed then was as it had been
      given_since : (all all' : List Act) (places : List ℕ) → taken all' ≡ [] → ((m : ℕ) → In m places → Kept b mid m) → GivenStay mid last no_fields all' (gave mid places) → GivenStay b last no_fields all (gave b places)
      given_since all all' [] none kept g = tt
      given_since all all' (place ∷ places) none kept g = (
        each (FreedStays b last all place (size_at b place) []) (unused_records last (shape last)) (λ uir j i lt low high out free.
            let k = kept place (inl refl) in
            let size = size_kept b mid place k.same (omega (arith, k.long)) in
            Each-in (FreedStays mid last all' place (size_at mid place) []) (unused_records last (shape last)) g.0 uir j i (omega (arith, lt, size)) low high tt (ap (list_any (λ (take : ℕ × ℕ). nat_le take.0 (place + i) && nat_lt (place + i) (take.0 + take.1))) none)
            ∙ k.same.each (place + i) (omega arith) (omega (arith, lt))),
        given_since all all' places none (λ m i. kept m (inr i)) g.1,
      )

      pub freed_then : (places : List ℕ) → acts ≡ gave mid places → ((m : ℕ) → In m places → Kept b mid m) → FreedStay mid last no_fields acts → FreedStay b last no_fields (cut ++ gave b places)
      freed_then places is kept g =
          let same : gave mid places ≡ gave b places = gave-same b mid places (λ m i. (let k = kept m i in size_kept b mid m k.same (omega (arith, k.long)))) in
          let later = given_since (cut ++ acts) acts places gives kept (subst (GivenStay mid last no_fields acts) is g) in
          subst (λ (xs : List Act). GivenStay b last no_fields (cut ++ xs) (cut ++ gave b places)) (is ∙ same) (both_given b cut (cut ++ acts) cut (gave b places) first later)
