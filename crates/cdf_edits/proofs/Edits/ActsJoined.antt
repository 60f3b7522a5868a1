-- Acts that follow from one image to another, and from there on to a third, follow from the first to the third, where they only take.
use Rattle.cdf_edits.proofs.Common.{Act, ActsFollow, AreActs, Distinct, Each, Gave, HasLeft, HasShape, In, List, RestStays, SpaceLeft, Took, [], after_act, ap, arith, byte, false, fold, fold-append, inl, inr, length, lies_in_taken, linkable-in, list_any, loose_records, nat_le, nat_lt, nat_tests, refl, shape, size_at, sized, space_before, subst, sym, taken, tile_lies, tiles_lie_apart, uir_type, unused, used_records, ℕ, ◌&&◌, ◌++◌, ◌+◌, ◌<◌, ◌∙◌, ◌∷◌, ◌≡◌, ◌≤◌, ◌⊎◌}
use Rattle.cdf_edits.proofs.Edits.Common.{Each-in, Once, OnlyTakes, acts_carry, among_sized, each, having, no_rest, none_of_both, stays_bytes, untaken}
use Rattle.cdf_edits.specs.Space.Acts.{Among}
pub use Rattle.cdf_edits.specs.Commands.Allowances.{ListedStay}

-- ---- a space with more records in use, and more on no list

abbrev pub with_others : SpaceLeft → List (ℕ × ℕ) → List (ℕ × ℕ) → SpaceLeft
with_others l used loose = record l { used = used; loose = loose }

pub are_more : (l : SpaceLeft) (used loose : List (ℕ × ℕ)) (acts : List Act) → OnlyTakes acts → AreActs l acts → AreActs (with_others l used loose) acts
are_more l used loose [] takes are = tt
are_more l used loose (Took place need ∷ acts) takes are = (are.0, are_more (after_act l (Took place need)) ((place, need) ∷ used) loose acts takes are.1)
are_more l used loose (Gave place size ∷ acts) takes are = absurd takes

pub are_both : (l : SpaceLeft) (xs ys : List Act) → AreActs l xs → AreActs (fold after_act l xs) ys → AreActs l (xs ++ ys)
are_both l [] ys p q = q
are_both l (x ∷ xs) ys p q = (p.0, are_both (after_act l x) xs ys p.1 q)

pub left_more : (now : List ℕ) (l : SpaceLeft) (used loose : List (ℕ × ℕ)) (acts : List Act) → OnlyTakes acts → ((x : ℕ × ℕ) → Among x l.used → Among x used) → ((x : ℕ × ℕ) → Among x l.loose → Among x loose) → HasLeft now (fold after_act l acts) → HasLeft now (fold after_act (with_others l used loose) acts)
left_more now l used loose [] takes more others has =
    let used_are = each (λ place. Among (place, size_at now place) used) (used_records now) (λ m i. more (m, size_at now m) (Each-in (λ place. Among (place, size_at now place) l.used) (used_records now) has.used_are m i)) in
    let loose_are = each (λ place. Among (place, size_at now place) loose) (loose_records now) (λ m i. others (m, size_at now m) (Each-in (λ place. Among (place, size_at now place) l.loose) (loose_records now) has.loose_are m i)) in
    grind (arith, has.list_is, has.back_is, has.end_is, used_are, loose_are)
left_more now l used loose (Took place need ∷ acts) takes more others has = left_more now (after_act l (Took place need)) ((place, need) ∷ used) loose acts takes (λ x a. elim a [ inl q ↦ inl q | inr b ↦ inr (more x b) ]) others has
left_more now l used loose (Gave place size ∷ acts) takes more others has = absurd takes

-- ---- the unused list of an image that has a shape

pub each_sized : (b : List ℕ) (P : ℕ × ℕ → Type 0) (xs : List ℕ) → ((m : ℕ) → In m xs → P (m, size_at b m)) → Each P (sized b xs)
each_sized b P [] h = tt
each_sized b P (x ∷ xs) h = (h x (inl refl), each_sized b P xs (λ m i. h m (inr i)))

pub each_among : (P : ℕ × ℕ → Type 0) (list : List (ℕ × ℕ)) → Each P list → (x : ℕ × ℕ) → Among x list → P x
each_among P [] h x a = absurd a
each_among P (y ∷ list) h x (inl q) = subst P (sym q) h.0
each_among P (y ∷ list) h x (inr a) = each_among P list h.1 x a

-- each byte lies in one record, or behind the end
pub unused_once : {b : List ℕ} → HasShape b (shape b) → Once (unused b (shape b)) (length b)
unused_once {b = b} h j = go (shape b).unused h.unused_chain.once (λ m i. linkable-in b (shape b).records uir_type m (h.unused_chain.linkable m i))
  where
    none : (x : ℕ) (xs : List ℕ) → x ≤ j → j < x + size_at b x → x + size_at b x ≤ length b → ((m : ℕ) → In m xs → (x + size_at b x ≤ m) ⊎ (m + size_at b m ≤ x)) → having j (sized b xs) (length b) ≡ 0
    none x [] low high end apart = grind (arith, nat_tests)
    none x (m ∷ xs) low high end apart = let a = apart m (inl refl) in let more = none x xs low high end (λ y i. apart y (inr i)) in grind (arith, nat_tests)

    go : (xs : List ℕ) → Distinct xs → ((m : ℕ) → In m xs → In m (shape b).records) → having j (sized b xs) (length b) ≤ 1
    go [] once sub = grind (arith, nat_tests)
    go (x ∷ xs) once sub =
        let high = (tile_lies b 8 (length b) (shape b).records x h.tiled (sub x (inl refl))).high in
        let apart = λ (m : ℕ) (i : In m xs). tiles_lie_apart b 8 (length b) (shape b).records x m h.tiled (sub x (inl refl)) (sub m (inr i)) (λ q. once.0 (subst (λ (z : ℕ). In z xs) (sym q) i)) in
        grind (arith, nat_tests, go xs once.1 (λ m i. sub m (inr i)), λ (low : x ≤ j) (under : j < x + size_at b x). none x xs low under high apart)

-- it was a record of the list, or is the later part of one
pub record Origin (b : List ℕ) (x : ℕ × ℕ) : Type 0 where
  place : ℕ
  listed : In place (shape b).unused
  comes : ((x.0 ≡ place) × (x.1 ≡ size_at b place)) ⊎ ((place < x.0) × (x.0 + x.1 ≤ place + size_at b place))

module _ {b now : List ℕ} {acts : List Act} (h : HasShape b (shape b)) (follow : ActsFollow b now acts) (takes : OnlyTakes acts) where
  left_over : (m : ℕ) → In m (shape now).unused → Among (m, size_at now m) (fold after_act (space_before b) acts).listed
  left_over m i = subst (Among (m, size_at now m)) follow.left.list_is (among_sized now (shape now).unused m (size_at now m) i refl)

  -- where a record of the unused list of the later image comes from
  came_from : (m : ℕ) → In m (shape now).unused → Origin b (m, size_at now m)
  came_from m i =
      let first = each_sized b (Origin b) (shape b).unused (λ n j. record { place = n; listed = j; comes = inl (refl, refl) }) in
      let left = acts_carry (Origin b) (λ place size need enough fits o. record { place = o.place; listed = o.listed; comes = inr (let c = o.comes in grind arith) }) (space_before b) acts follow.are takes first in
      each_among (Origin b) _ left (m, size_at now m) (left_over m i)

  -- behind its links it has the bytes that were there
  behind_links : ListedStay b now acts → (m : ℕ) → In m (shape now).unused → (n : ℕ) → m + 28 ≤ n → n < m + size_at now m → lies_in_taken acts n ≡ false → byte now n ≡ byte b n
  behind_links stay m i n low high free =
      let o = came_from m i in
      let none = untaken (space_before b) acts m (size_at now m) follow.are takes (unused_once h) (left_over m i) in
      elim o.comes [
        | inl x ↦ (stays_bytes (stay o.place o.listed (sym (λ k. list_any (λ take. nat_le (x.0 k) take.0 && nat_lt take.0 (x.0 k + x.1 k)) (taken acts)) ∙ none)) 28 (size_at b o.place) (omega arith) (λ k l u. (inr (omega arith), (inr (omega arith), tt)))).each n (omega (arith, x.0)) (omega (arith, x.0, x.1))
        | inr x ↦ Each-in (RestStays b now acts o.place) (shape now).unused (Each-in (λ split. Each (RestStays b now acts split) (shape now).unused) (shape b).unused follow.rests o.place o.listed) m i x.0 (omega (arith, x.1)) n low high free
      ]

module _ {b mid now : List ℕ} {acts acts' : List Act} (was : HasShape b (shape b)) (was' : HasShape mid (shape mid)) (first : ActsFollow b mid acts) (second : ActsFollow mid now acts') (takes : OnlyTakes acts) (takes' : OnlyTakes acts') (stay : ListedStay b mid acts) (stay' : ListedStay mid now acts') where
  rest_stays : (split rest : ℕ) → In rest (shape now).unused → RestStays b now (acts ++ acts') split rest
  rest_stays split rest j low high n l u free =
      let none = none_of_both (λ take. nat_le take.0 n && nat_lt n (take.0 + take.1)) acts acts' free in
      let o = came_from was' second takes' rest j in
      let c = o.comes in
      behind_links was' second takes' stay' rest j n l u none.1 ∙ behind_links was first takes stay o.place o.listed n (grind arith) (grind arith) none.0

  pub acts_joined : ActsFollow b now (acts ++ acts')
  acts_joined =
      let left = fold after_act (space_before b) acts in
      let has = first.left in
      let same : with_others (space_before mid) left.used left.loose ≡ left = λ i. record { used = left.used; listed = has.list_is i; back = has.back_is i; loose = left.loose; end = has.end_is i } in
      let among = λ (list : List (ℕ × ℕ)) (places : List ℕ) (all : Each (λ place. Among (place, size_at mid place) list) places). each_among (λ x. Among x list) (sized mid places) (each_sized mid (λ x. Among x list) places (Each-in _ places all)) in
      record {
        are = are_both (space_before b) acts acts' first.are (subst (λ (l : SpaceLeft). AreActs l acts') same (are_more (space_before mid) left.used left.loose acts' takes' second.are));
        left = subst (HasLeft now) (ap (λ (l : SpaceLeft). fold after_act l acts') same ∙ sym (fold-append after_act (space_before b) acts acts'))
            (left_more now (space_before mid) left.used left.loose acts' takes' (among left.used (used_records mid) has.used_are) (among left.loose (loose_records mid) has.loose_are) second.left);
        rests = each (λ split. Each (RestStays b now (acts ++ acts') split) (shape now).unused) (shape b).unused (λ split i. each (RestStays b now (acts ++ acts') split) (shape now).unused (λ rest j. rest_stays split rest j));
      }

  -- what is on the list, and began as a record of the first image, was on the list
  pub listed_before : (m : ℕ) → In m (shape b).records → In m (shape mid).unused → In m (shape b).unused
  listed_before m i j =
      let o = came_from was first takes m j in
      let long = (tile_lies mid 8 (length mid) (shape mid).records m was'.tiled (linkable-in mid (shape mid).records uir_type m (was'.unused_chain.linkable m j))).long in
      elim o.comes [
        | inl x ↦ subst (λ (z : ℕ). In z (shape b).unused) (sym x.0) o.listed
        | inr x ↦ absurd (no_rest b was o.place m (linkable-in b (shape b).records uir_type o.place (was.unused_chain.linkable o.place o.listed)) i x.0 (omega (arith, x.1)))
      ]
