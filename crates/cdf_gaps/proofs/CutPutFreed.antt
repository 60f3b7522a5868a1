-- What a cut freed keeps its bytes through the put behind it, but for the bytes that lie in a record which the put took. And a record in use behind acts that free has the size that it had.
use Rattle.cdf_edits.proofs.Common.{[], Act, Each, FreedStays, Gave, GivenStay, Good, HasShape, In, Kind, List, SpaceLeft, Took, VariableShape, after_act, arith, byte, either, eqb-true, false, filter-in, fold, good_is_sound, inl, inr, is_in, le-leb, lies_in_taken, linkable-in, linkable-long, linkable-type, links_end, list_any, loose_records, nat_le, nat_lt, nat_tests, no_fields, refl, shape, size_at, sized, space_before, subst, sym, taken, true-is_in, type_at, uir_type, unused_records, used_records, ℕ, ◌&&◌, ◌++◌, ◌+◌, ◌<◌, ◌==◌, ◌∙◌, ◌∷◌, ◌≡◌, ◌≢◌, ◌≤◌, false-is_in, eq-eqb}
use Rattle.cdf_edits.proofs.Edits.ActsJoined.{each_among, each_sized, unused_once}
use Rattle.cdf_edits.proofs.Edits.Common.{Each-in, OnlyTakes, among_sized, each, filter-says, in-filter, none_of_both, stays_bytes, untaken}
use Rattle.cdf_edits.proofs.Space.ActsLeave.{loose_if, loose_says, used_if}
use Rattle.cdf_edits.specs.Commands.Allowances.{FreedStay}
use Rattle.cdf_edits.specs.Space.Acts.{ActsFollow, Among, RestStays, without}
use Rattle.cdf_puts.specs.Going.{GoesOn}
use Rattle.cdf_gaps.proofs.FreedThenTaken.{part_of}

-- ---- records in use, behind acts that free

among_out : (x : ℕ × ℕ) (place : ℕ) (xs : List (ℕ × ℕ)) → Among x (without place xs) → Among x xs
among_out x place [] a = a
among_out x place (y ∷ ys) a = elim (either (y.0 == place)) [
  | inl e ↦ let c : Among x (without place ys) = rw e at a in inr (among_out x place ys c)
  | inr e ↦ let c : Among x (y ∷ without place ys) = rw e at a in elim c [ inl q ↦ inl q | inr d ↦ inr (among_out x place ys d) ]
]

used_was : (x : ℕ × ℕ) (l : SpaceLeft) (acts : List Act) → taken acts ≡ [] → Among x (fold after_act l acts).used → Among x l.used
used_was x l [] gives a = a
used_was x l (Took place need ∷ acts) gives a = absurd cc
used_was x l (Gave place size ∷ acts) gives a = among_out x place l.used (used_was x (after_act l (Gave place size)) acts gives a)

-- each has the size that it had
pub used_size : {b mid : List ℕ} {acts : List Act} → ActsFollow b mid acts → taken acts ≡ [] → (m : ℕ) → In m (shape mid).records → type_at mid m ≢ uir_type → size_at mid m ≡ size_at b m
used_size {b = b} {mid = mid} {acts = acts} follow gives m i other =
    let left = (fold after_act (space_before b) acts).used in
    let there = Each-in (λ place. Among (place, size_at mid place) left) (used_records mid) follow.left.used_are m (used_if mid m i other) in
    each_among (λ x. x.1 ≡ size_at b x.0) (sized b (used_records b)) (each_sized b (λ x. x.1 ≡ size_at b x.0) (used_records b) (λ n j. refl)) (m, size_at mid m) (used_was (m, size_at mid m) (space_before b) acts gives there)

-- ---- records on no list, behind acts that take

loose_same : (l : SpaceLeft) (acts : List Act) → OnlyTakes acts → (fold after_act l acts).loose ≡ l.loose
loose_same l [] takes = refl
loose_same l (Took place need ∷ acts) takes = loose_same (after_act l (Took place need)) acts takes
loose_same l (Gave place size ∷ acts) takes = absurd takes

links_most : (n : ℕ) → links_end n ≤ 28
links_most n = grind (arith, nat_tests)

links_long : (n : ℕ) → 28 ≤ n → links_end n ≡ 28
links_long n le = rw (le-leb 28 n le) refl

-- a byte lies behind the links of an unused record of an image, and a later image has it as it was
record Lay (mid last : List ℕ) (n : ℕ) : Type 0 where
  uir : ℕ
  stands : In uir (unused_records mid (shape mid))
  low : uir + links_end (size_at mid uir) ≤ n
  high : n < uir + size_at mid uir
  same : byte last n ≡ byte mid n

module _ {mid last : List ℕ} {kind : Kind} {before : List VariableShape} {own own' : VariableShape} {after : List VariableShape} {acts : List Act} (good : Good mid) (put : GoesOn mid last kind before own own' after acts) (takes : OnlyTakes acts) where
  h : HasShape mid (shape mid)
  h = (good_is_sound mid good).has_shape

  h' : HasShape last (shape last)
  h' = (good_is_sound last put.good).has_shape

  -- a listed record is a listed record of the image before the put, or the later part of such a record
  listed_lay : (uir n : ℕ) → In uir (shape last).unused → uir + links_end (size_at last uir) ≤ n → n < uir + size_at last uir → lies_in_taken acts n ≡ false → Lay mid last n
  listed_lay uir n i low high free =
      let long = linkable-long last (shape last).records uir_type uir (h'.unused_chain.linkable uir i) in
      let past : uir + 28 ≤ n = subst (λ (e : ℕ). uir + e ≤ n) (links_long (size_at last uir) long) low in
      let o = part_of put.follow takes uir i in
      let ok = h.unused_chain.linkable o.place o.listed in
      let stands : In o.place (unused_records mid (shape mid)) = in-filter (λ place. type_at mid place == uir_type) (shape mid).records o.place (linkable-in mid (shape mid).records uir_type o.place ok) (eq-eqb (type_at mid o.place) uir_type (linkable-type mid (shape mid).records uir_type o.place ok)) in
      let most = links_most (size_at mid o.place) in
      elim o.comes [
        | inl x ↦
            let left = subst (Among (uir, size_at last uir)) put.follow.left.list_is (among_sized last (shape last).unused uir (size_at last uir) i refl) in
            let none = untaken (space_before mid) acts uir (size_at last uir) put.follow.are takes (unused_once h) left in
            let stays = put.listed o.place o.listed (sym (λ k. list_any (λ take. nat_le (x.0 k) take.0 && nat_lt take.0 (x.0 k + x.1 k)) (taken acts)) ∙ none) in
            record {
              uir = o.place;
              stands = stands;
              low = omega (arith, x.0, most, past);
              high = omega (arith, x.0, x.1, high);
              same = (stays_bytes stays 28 (size_at mid o.place) (omega arith) (λ k l u. (inr (omega arith), (inr (omega arith), tt)))).each n (omega (arith, x.0, past)) (omega (arith, x.0, x.1, high));
            }
        | inr x ↦ record {
          uir = o.place;
          stands = stands;
          low = omega (arith, x.0, most, past);
          high = omega (arith, x.1, high);
          same = Each-in (RestStays mid last acts o.place) (shape last).unused (Each-in (λ split. Each (RestStays mid last acts split) (shape last).unused) (shape mid).unused put.follow.rests o.place o.listed) uir i x.0 (omega (arith, x.1, high, past)) n past high free;
        }
      ]

  -- a record that is on no list is such a record of the image before the put
  loose_lay : (uir n : ℕ) → In uir (unused_records last (shape last)) → (In uir (shape last).unused → ⊥) → uir + links_end (size_at last uir) ≤ n → n < uir + size_at last uir → Lay mid last n
  loose_lay uir n i out low high =
      let inside = filter-in (λ place. type_at last place == uir_type) (shape last).records uir i in
      let typed = eqb-true (type_at last uir) uir_type (filter-says (λ place. type_at last place == uir_type) (shape last).records uir i) in
      let there = Each-in (λ place. Among (place, size_at last place) (fold after_act (space_before mid) acts).loose) (loose_records last) put.follow.left.loose_are uir (loose_if last uir (record { stands = inside; typed = typed; unlisted = out })) in
      let was = each_among (λ x. In x.0 (loose_records mid) × (x.1 ≡ size_at mid x.0)) (sized mid (loose_records mid)) (each_sized mid (λ x. In x.0 (loose_records mid) × (x.1 ≡ size_at mid x.0)) (loose_records mid) (λ m j. (j, refl))) (uir, size_at last uir)
      (subst (Among (uir, size_at last uir)) (loose_same (space_before mid) acts takes) there) in
      let l = loose_says mid uir was.0 in
      let stays = put.loose uir l.stands l.typed l.unlisted in
      record {
        uir = uir;
        stands = in-filter (λ place. type_at mid place == uir_type) (shape mid).records uir l.stands (eq-eqb (type_at mid uir) uir_type l.typed);
        low = subst (λ (s : ℕ). uir + links_end s ≤ n) was.1 low;
        high = omega (arith, was.1, high);
        same = (stays_bytes stays 0 (size_at mid uir) (omega arith) (λ k l u. tt)).each n (omega (arith, low)) (omega (arith, was.1, high));
      }

  lay : (uir n : ℕ) → In uir (unused_records last (shape last)) → uir + links_end (size_at last uir) ≤ n → n < uir + size_at last uir → lies_in_taken acts n ≡ false → Lay mid last n
  lay uir n i low high free = elim (either (is_in uir (shape last).unused)) [
    | inl e ↦ listed_lay uir n (true-is_in uir (shape last).unused e) low high free
    | inr e ↦ loose_lay uir n i (false-is_in uir (shape last).unused e) low high
  ]

  -- ---- what was freed before

  module _ (b : List ℕ) (cut : List Act) where
    given_on : (gives : List Act) → GivenStay b mid no_fields cut gives → GivenStay b last no_fields (cut ++ acts) gives
    given_on [] g = tt
    given_on (Took place need ∷ gives) g = given_on gives g
    given_on (Gave place size ∷ gives) g = (
      each (FreedStays b last (cut ++ acts) place size []) (unused_records last (shape last)) (λ uir j i lt low high out free.
          let none = none_of_both (λ take. nat_le take.0 (place + i) && nat_lt (place + i) (take.0 + take.1)) cut acts free in
          let x = lay uir (place + i) j low high none.1 in
          x.same ∙ Each-in (FreedStays b mid cut place size []) (unused_records mid (shape mid)) g.0 x.uir x.stands i lt x.low x.high tt none.0),
      given_on gives g.1,
    )

    none_more : (all gives : List Act) → OnlyTakes gives → GivenStay b last no_fields all gives
    none_more all [] t = tt
    none_more all (Took place need ∷ gives) t = none_more all gives t
    none_more all (Gave place size ∷ gives) t = absurd t

    both_given : (all gives : List Act) → GivenStay b last no_fields all gives → GivenStay b last no_fields all (gives ++ acts)
    both_given all [] g = none_more all acts takes
    both_given all (Took place need ∷ gives) g = both_given all gives g
    both_given all (Gave place size ∷ gives) g = (g.0, both_given all gives g.1)

    pub freed_then : FreedStay b mid no_fields cut → FreedStay b last no_fields (cut ++ acts)
    freed_then g = both_given (cut ++ acts) cut (given_on cut g)
