-- Acts of any kind that follow from one image to another, and from there on to a third, follow from the first to the third.
use Rattle.cdf_edits.proofs.Common.{Act, ActsFollow, AreActs, Each, Gave, HasLeft, HasShape, In, List, RestStays, SpaceLeft, Took, [], after_act, ap, arith, byte, cases_eq, eof_after, false, fold, fold-append, inl, inr, le-leb, length, lies_in_taken, linkable-in, linkable-type, list_any, loose_records, lt-ltb, nat_le, nat_lt, nat_tests, refl, shape, size_at, sized, space_before, subst, sym, taken, tile_lies, tiles_lie_apart, true, true≢false, type_at, uir_type, unused, used_records, ℕ, ◌&&◌, ◌++◌, ◌+◌, ◌<◌, ◌∙◌, ◌∷◌, ◌≡◌, ◌≢◌, ◌≤◌, ◌⊎◌}
use Rattle.cdf_edits.proofs.Edits.ActsJoined.{ListedStay, are_both, each_among, each_sized, with_others}
use Rattle.cdf_edits.proofs.Edits.Common.{Each-in, among_sized, each, none_of_both, stays_bytes}
use Rattle.cdf_edits.proofs.Space.ActsLeave.{used_if, used_says}
use Rattle.cdf_edits.specs.Space.Acts.{Among}
use Rattle.cdf_put_steps.proofs.SpaceBytes.{AllHold, hold_on, remains}
use Rattle.cdf_put_steps.proofs.SpaceMore.{acts_more, left_with_more, used_from}
use Rattle.cdf_put_steps.proofs.SpaceOnce.{before_once}
use Rattle.std.proofs.lemmas.Bool.{or_right}

-- a byte of a record that was taken
lies_taken : (xs : List (ℕ × ℕ)) (p n i : ℕ) → Among (p, n) xs → p ≤ i → i < p + n → list_any (λ take. nat_le take.0 i && nat_lt i (take.0 + take.1)) xs ≡ true
lies_taken [] p n i a low high = absurd a
lies_taken (x ∷ xs) p n i (inl q) low high =
    let here : (nat_le x.0 i && nat_lt i (x.0 + x.1)) ≡ true = subst (λ (y : ℕ × ℕ). (nat_le y.0 i && nat_lt i (y.0 + y.1)) ≡ true) q (rw (le-leb p i low, lt-ltb i (p + n) high) refl) in
    rw here refl
lies_taken (x ∷ xs) p n i (inr a) low high = or_right (nat_le x.0 i && nat_lt i (x.0 + x.1)) (list_any (λ take. nat_le take.0 i && nat_lt i (take.0 + take.1)) xs) (lies_taken xs p n i a low high)

end_rises : (list : List (ℕ × ℕ)) (end need : ℕ) → end ≤ eof_after list end need
end_rises list end need = grind (arith, nat_tests)

ends_rise : (l : SpaceLeft) (acts : List Act) → l.end ≤ (fold after_act l acts).end
ends_rise l [] = omega arith
ends_rise l (Took place need ∷ acts) = let more = ends_rise (after_act l (Took place need)) acts in let here = end_rises l.listed l.end need in omega (arith, more, here)
ends_rise l (Gave place size ∷ acts) = ends_rise (after_act l (Gave place size)) acts

-- ---- where a record of the list comes from

-- the record of an image, on its list or in use, in which these bytes lie
record Came (b : List ℕ) (x : ℕ × ℕ) : Type 0 where
  place : ℕ
  there : In place (shape b).records
  was : In place (shape b).unused ⊎ (type_at b place ≢ uir_type)
  from : place ≤ x.0
  upto : x.0 + x.1 ≤ place + size_at b place

-- or they are behind its end
abbrev Comes : List ℕ → ℕ × ℕ → Type 0
Comes b x = Came b x ⊎ (length b ≤ x.0)

comes_part : (b : List ℕ) (x : ℕ × ℕ) (at n : ℕ) → Comes b x → x.0 ≤ at → at + n ≤ x.0 + x.1 → Comes b (at, n)
comes_part b x at n (inl c) low high = let from = c.from in let upto = c.upto in inl (record { place = c.place; there = c.there; was = c.was; from = omega arith; upto = omega arith })
comes_part b x at n (inr le) low high = inr (omega arith)

module _ {b now : List ℕ} {acts : List Act} (h : HasShape b (shape b)) (follow : ActsFollow b now acts) where
  abbrev l : SpaceLeft
  l = space_before b

  unused_there : (m : ℕ) → In m (shape b).unused → In m (shape b).records
  unused_there m i = linkable-in b (shape b).records uir_type m (h.unused_chain.linkable m i)

  unused_type : (m : ℕ) → In m (shape b).unused → type_at b m ≡ uir_type
  unused_type m i = linkable-type b (shape b).records uir_type m (h.unused_chain.linkable m i)

  all_before : AllHold (Comes b) (comes_part b) l
  all_before =
      let listed = each_sized b (Comes b) (shape b).unused (λ m i. inl (record { place = m; there = unused_there m i; was = inl i; from = omega arith; upto = omega arith })) in
      let used = each_sized b (Comes b) (used_records b) (λ m i. let u = used_says b m i in inl (record { place = m; there = u.0; was = inr u.1; from = omega arith; upto = omega arith })) in
      (each_among (Comes b) (unused b (shape b)) listed, (each_among (Comes b) (sized b (used_records b)) used, λ at n le. inr le))

  among_listed : (m : ℕ) → In m (shape now).unused → Among (m, size_at now m) (fold after_act l acts).listed
  among_listed m i = subst (Among (m, size_at now m)) follow.left.list_is (among_sized now (shape now).unused m (size_at now m) i refl)

  comes : (m : ℕ) → In m (shape now).unused → Comes b (m, size_at now m)
  comes m i = (hold_on (Comes b) (comes_part b) l acts follow.are all_before).0 (m, size_at now m) (among_listed m i)

  longer : length b ≤ length now
  longer = omega (arith, ends_rise l acts, follow.left.end_is)

  -- two records that have a byte are one
  same_record : (m n i : ℕ) → In m (shape b).records → In n (shape b).records → m ≤ i → i < m + size_at b m → n ≤ i → i < n + size_at b n → m ≡ n
  same_record m n i there there' low high low' high' = elim (cases_eq m n) [ inl e ↦ e | inr ne ↦ absurd (grind (arith, tiles_lie_apart b 8 (length b) (shape b).records m n h.tiled there there' ne, low, high, low', high')) ]

  -- an unused record that is on the list was on the list
  pub listed_first : HasShape now (shape now) → (m : ℕ) → In m (shape b).records → type_at b m ≡ uir_type → In m (shape now).unused → In m (shape b).unused
  listed_first h' m i t j =
      let long = (tile_lies now 8 (length now) (shape now).records m h'.tiled (linkable-in now (shape now).records uir_type m (h'.unused_chain.linkable m j))).long in
      let lies = tile_lies b 8 (length b) (shape b).records m h.tiled i in
      let high = lies.high in
      let wide = lies.long in
      elim (comes m j) [
        | inr le ↦ absurd (omega arith)
        | inl c ↦
            let from = c.from in
            let upto = c.upto in
            let e : c.place ≡ m = same_record c.place m m c.there i from (omega arith) (omega arith) (omega arith) in
            elim c.was [ inl k ↦ subst (λ (z : ℕ). In z (shape b).unused) e k | inr other ↦ absurd (other (ap (type_at b) e ∙ t)) ]
      ]

  -- A byte behind the links of a record of the list, which lay in a record of the list before and was not taken, stays; and the record does not begin before that.
  stays_listed : ListedStay b now acts → (was m i : ℕ) → In was (shape b).unused → In m (shape now).unused → was ≤ i → i < was + size_at b was → m + 28 ≤ i → i < m + size_at now m → lies_in_taken acts i ≡ false → (byte now i ≡ byte b i) × (was ≤ m)
  stays_listed stay was m i there j low high behind under free =
      elim (remains l acts i (was, size_at b was) (m, size_at now m) follow.are (before_once h) (among_sized b (shape b).unused was (size_at b was) there refl) (low, high) (among_listed m j) (omega arith, under) free) [
        | inl r ↦
            let same : m ≡ was = ap (λ (x : ℕ × ℕ). x.0) r.0 in
            let kept = stays_bytes (stay was there r.1) 28 (size_at b was) (omega arith) (λ k low high. (inr (omega arith), (inr (omega arith), tt))) in
            (kept.each i (omega (arith, same)) (omega arith), omega (arith, same))
        | inr later ↦
            (Each-in (RestStays b now acts was) (shape now).unused (Each-in (λ split. Each (RestStays b now acts split) (shape now).unused) (shape b).unused follow.rests was there) m j later (omega arith) i behind under free, omega arith)
      ]

-- ---- two steps

module _ {b mid now : List ℕ} {acts acts' : List Act} (was : HasShape b (shape b)) (was' : HasShape mid (shape mid)) (first : ActsFollow b mid acts) (second : ActsFollow mid now acts') (stay : ListedStay b mid acts) (stay' : ListedStay mid now acts') where
  -- a record that was in use in between was so before, or it was taken
  used_first : (m : ℕ) → In m (shape mid).records → type_at mid m ≢ uir_type → Among (m, size_at mid m) (taken acts) ⊎ ((In m (shape b).records × (type_at b m ≢ uir_type)) × (size_at mid m ≡ size_at b m))
  used_first m there used =
      let x = Each-in (λ place. Among (place, size_at mid place) (fold after_act (space_before b) acts).used) (used_records mid) first.left.used_are m (used_if mid m there used) in
      let olds = each_sized b (λ y. (In y.0 (shape b).records × (type_at b y.0 ≢ uir_type)) × (y.1 ≡ size_at b y.0)) (used_records b) (λ n j. (used_says b n j, refl)) in
      elim (used_from (space_before b) acts (m, size_at mid m) x) [ inl t ↦ inl t | inr o ↦ inr (each_among _ (sized b (used_records b)) olds (m, size_at mid m) o) ]

  module _ (split rest n : ℕ) (i : In split (shape b).unused) (j : In rest (shape now).unused) (low : split < rest) (high : rest < split + size_at b split) (behind : rest + 28 ≤ n) (under : n < rest + size_at now rest) (free : lies_in_taken acts n ≡ false) (free' : lies_in_taken acts' n ≡ false) where
    -- the record in which the rest lies is the one that was split
    is_split : (m : ℕ) → In m (shape b).records → m ≤ rest → rest < m + size_at b m → m ≡ split
    is_split m there from upto = same_record was first m split rest there (unused_there was first split i) from upto (omega arith) high

    from_listed : (o : ℕ) → In o (shape mid).unused → o ≤ rest → rest + size_at now rest ≤ o + size_at mid o → byte now n ≡ byte b n
    from_listed o listed from upto =
        let later = stays_listed was' second stay' o rest n listed j (omega arith) (omega arith) behind under free' in
        let high' = (tile_lies b 8 (length b) (shape b).records split was.tiled (unused_there was first split i)).high in
        elim (comes was first o listed) [
          | inr le ↦ absurd (omega arith)
          | inl c ↦
              let c_from = c.from in
              let c_upto = c.upto in
              let e : c.place ≡ split = is_split c.place c.there (omega arith) (omega arith) in
              let size : size_at b c.place ≡ size_at b split = ap (size_at b) e in
              later.0 ∙ (stays_listed was first stay split o n i listed (omega arith) (omega (arith, c_upto, size, e)) (omega arith) (omega arith) free).0
        ]

    from_used : (o : ℕ) → In o (shape mid).records → type_at mid o ≢ uir_type → o ≤ rest → rest + size_at now rest ≤ o + size_at mid o → ⊥
    from_used o there used from upto = elim (used_first o there used) [
      | inl t ↦ true≢false (sym (lies_taken (taken acts) o (size_at mid o) n t (omega arith) (omega arith)) ∙ free)
      | inr old ↦ let size = old.1 in old.0.1 (ap (type_at b) (is_split o old.0.0 from (omega (arith, size))) ∙ unused_type was first split i)
    ]

    rest_same : byte now n ≡ byte b n
    rest_same =
        let high' = (tile_lies b 8 (length b) (shape b).records split was.tiled (unused_there was first split i)).high in
        let more = longer was first in
        elim (comes was' second rest j) [
          | inr le ↦ absurd (omega arith)
          | inl c ↦ elim c.was [ inl listed ↦ from_listed c.place listed c.from c.upto | inr used ↦ absurd (from_used c.place c.there used c.from c.upto) ]
        ]

  rest_stays : (split rest : ℕ) → In split (shape b).unused → In rest (shape now).unused → RestStays b now (acts ++ acts') split rest
  rest_stays split rest i j low high n behind under free =
      let none = none_of_both (λ take. nat_le take.0 n && nat_lt n (take.0 + take.1)) acts acts' free in
      rest_same split rest n i j low high behind under none.0 none.1

  pub follow_then : ActsFollow b now (acts ++ acts')
  follow_then =
      let left = fold after_act (space_before b) acts in
      let has = first.left in
      let same : with_others (space_before mid) left.used left.loose ≡ left = λ i. record { used = left.used; listed = has.list_is i; back = has.back_is i; loose = left.loose; end = has.end_is i } in
      let among = λ (list : List (ℕ × ℕ)) (places : List ℕ) (all : Each (λ place. Among (place, size_at mid place) list) places). each_among (λ x. Among x list) (sized mid places) (each_sized mid (λ x. Among x list) places (Each-in _ places all)) in
      record {
        are = are_both (space_before b) acts acts' first.are (subst (λ (l : SpaceLeft). AreActs l acts') same (acts_more (space_before mid) left.used left.loose acts' (among left.used (used_records mid) has.used_are) second.are));
        left = subst (HasLeft now) (ap (λ (l : SpaceLeft). fold after_act l acts') same ∙ sym (fold-append after_act (space_before b) acts acts'))
            (left_with_more now (space_before mid) left.used left.loose acts' (among left.used (used_records mid) has.used_are) (among left.loose (loose_records mid) has.loose_are) second.left);
        rests = each (λ split. Each (RestStays b now (acts ++ acts') split) (shape now).unused) (shape b).unused (λ split i. each (RestStays b now (acts ++ acts') split) (shape now).unused (λ rest j. rest_stays split rest i j));
      }
