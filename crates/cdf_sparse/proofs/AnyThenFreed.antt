-- Acts of any kind, and from there on acts that only free records, follow from the first image to the last. Where the first acts free and then take, an unused record of the first image that is on the list in between was on the list.
use Rattle.cdf_edits.proofs.Common.{Act, ActsFollow, AreActs, Each, Gave, HasLeft, HasShape, In, List, RestStays, SpaceLeft, Took, [], after_act, ap, arith, either, fold, fold-append, given_to, if◌then◌else◌, inl, inr, le-leb, length, linkable-in, list_any, loose_records, lt-ltb, nat_le, nat_lt, refl, shape, size_at, sized, space_before, subst, sym, taken, tile_lies, true≢false, type_at, uir_type, used_records, ℕ, ◌&&◌, ◌++◌, ◌+◌, ◌<◌, ◌==◌, ◌∙◌, ◌∷◌, ◌≡◌, ◌≢◌, ◌≤◌, ◌⊎◌}
use Rattle.cdf_edits.proofs.Edits.ActsJoined.{ListedStay, are_both, each_among, each_sized, with_others}
use Rattle.cdf_edits.proofs.Edits.Common.{Each-in, OnlyTakes, acts_carry, among_sized, each, no_rest, none_of_both, stays_bytes}
use Rattle.cdf_edits.proofs.Space.ActsLeave.{used_if, used_says}
use Rattle.cdf_edits.specs.Space.Acts.{Among, without}
use Rattle.cdf_gaps.proofs.FreedThenTaken.{began}
use Rattle.std.proofs.Common.{Bool, false, true}
use Rattle.std.proofs.lemmas.Bool.{or_right}

-- ---- records of a list but for those at a place

among_out : (x : ℕ × ℕ) (place : ℕ) (xs : List (ℕ × ℕ)) → Among x (without place xs) → Among x xs
among_out x place [] a = a
among_out x place (y ∷ ys) a = elim (either (y.0 == place)) [
  | inl e ↦ let c : Among x (without place ys) = rw e at a in inr (among_out x place ys c)
  | inr e ↦ let c : Among x (y ∷ without place ys) = rw e at a in elim c [ inl q ↦ inl q | inr d ↦ inr (among_out x place ys d) ]
]

among_apart : (x : ℕ × ℕ) (place : ℕ) (xs : List (ℕ × ℕ)) → Among x (without place xs) → (x.0 == place) ≡ false
among_apart x place [] a = absurd a
among_apart x place (y ∷ ys) a = elim (either (y.0 == place)) [
  | inl e ↦ let c : Among x (without place ys) = rw e at a in among_apart x place ys c
  | inr e ↦ let c : Among x (y ∷ without place ys) = rw e at a in elim c [ inl q ↦ ap (λ (z : ℕ × ℕ). z.0 == place) q ∙ e | inr d ↦ among_apart x place ys d ]
]

among_in : (x : ℕ × ℕ) (place : ℕ) (xs : List (ℕ × ℕ)) → (x.0 == place) ≡ false → Among x xs → Among x (without place xs)
among_in x place [] ne a = a
among_in x place (y ∷ ys) ne (inl q) = let other : (y.0 == place) ≡ false = ap (λ (z : ℕ × ℕ). z.0 == place) (sym q) ∙ ne in rw other (inl q)
among_in x place (y ∷ ys) ne (inr a) = elim (either (y.0 == place)) [ inl e ↦ rw e (among_in x place ys ne a) | inr e ↦ rw e (inr (among_in x place ys ne a)) ]

among_more : (place : ℕ) (xs ys : List (ℕ × ℕ)) → ((x : ℕ × ℕ) → Among x xs → Among x ys) → (x : ℕ × ℕ) → Among x (without place xs) → Among x (without place ys)
among_more place xs ys more x a = among_in x place ys (among_apart x place xs a) (more x (among_out x place xs a))

-- ---- acts that free, in a space with more records in use and more on no list

abbrev loose_with : List (ℕ × ℕ) → ℕ → ℕ → List (ℕ × ℕ)
loose_with loose place size = if nat_le 28 size then loose else (place, size) ∷ loose

loose_more : (place size : ℕ) (xs ys : List (ℕ × ℕ)) → ((x : ℕ × ℕ) → Among x xs → Among x ys) → (x : ℕ × ℕ) → Among x (loose_with xs place size) → Among x (loose_with ys place size)
loose_more place size xs ys more x = by (nat_le 28 size)
  where
    by : (t : Bool) → Among x (if t then xs else (place, size) ∷ xs) → Among x (if t then ys else (place, size) ∷ ys)
    by true a = more x a
    by false (inl q) = inl q
    by false (inr a) = inr (more x a)

gives_more : (l : SpaceLeft) (used loose : List (ℕ × ℕ)) (acts : List Act) → taken acts ≡ [] → ((x : ℕ × ℕ) → Among x l.used → Among x used) → AreActs l acts → AreActs (with_others l used loose) acts
gives_more l used loose [] gives more are = tt
gives_more l used loose (Took place need ∷ acts) gives more are = absurd cc
gives_more l used loose (Gave place size ∷ acts) gives more are =
    (more (place, size) are.0, gives_more (after_act l (Gave place size)) (without place used) (loose_with loose place size) acts gives (among_more place l.used used more) are.1)

left_given : (now : List ℕ) (l : SpaceLeft) (used loose : List (ℕ × ℕ)) (acts : List Act) → taken acts ≡ [] → ((x : ℕ × ℕ) → Among x l.used → Among x used) → ((x : ℕ × ℕ) → Among x l.loose → Among x loose) → HasLeft now (fold after_act l acts) → HasLeft now (fold after_act (with_others l used loose) acts)
left_given now l used loose [] gives more others has =
    let used_are = each (λ place. Among (place, size_at now place) used) (used_records now) (λ m i. more (m, size_at now m) (Each-in (λ place. Among (place, size_at now place) l.used) (used_records now) has.used_are m i)) in
    let loose_are = each (λ place. Among (place, size_at now place) loose) (loose_records now) (λ m i. others (m, size_at now m) (Each-in (λ place. Among (place, size_at now place) l.loose) (loose_records now) has.loose_are m i)) in
    grind (arith, has.list_is, has.back_is, has.end_is, used_are, loose_are)
left_given now l used loose (Took place need ∷ acts) gives more others has = absurd cc
left_given now l used loose (Gave place size ∷ acts) gives more others has =
    left_given now (after_act l (Gave place size)) (without place used) (loose_with loose place size) acts gives (among_more place l.used used more) (loose_more place size l.loose loose others) has

-- ---- what is in use behind acts was taken by them, or was in use

used_from : (l : SpaceLeft) (acts : List Act) (x : ℕ × ℕ) → Among x (fold after_act l acts).used → Among x (taken acts) ⊎ Among x l.used
used_from l [] x a = inr a
used_from l (Took place need ∷ acts) x a = elim (used_from (after_act l (Took place need)) acts x a) [
  | inl i ↦ inl (inr i)
  | inr c ↦ elim c [ inl q ↦ inl (inl q) | inr d ↦ inr d ]
]
used_from l (Gave place size ∷ acts) x a = elim (used_from (after_act l (Gave place size)) acts x a) [ inl i ↦ inl i | inr c ↦ inr (among_out x place l.used c) ]

-- a byte of a record that was taken
lies_taken : (xs : List (ℕ × ℕ)) (p n i : ℕ) → Among (p, n) xs → p ≤ i → i < p + n → list_any (λ take. nat_le take.0 i && nat_lt i (take.0 + take.1)) xs ≡ true
lies_taken [] p n i a low high = absurd a
lies_taken (x ∷ xs) p n i (inl q) low high =
    let here : (nat_le x.0 i && nat_lt i (x.0 + x.1)) ≡ true = subst (λ (y : ℕ × ℕ). (nat_le y.0 i && nat_lt i (y.0 + y.1)) ≡ true) q (rw (le-leb p i low, lt-ltb i (p + n) high) refl) in
    rw here refl
lies_taken (x ∷ xs) p n i (inr a) low high = or_right (nat_le x.0 i && nat_lt i (x.0 + x.1)) (list_any (λ take. nat_le take.0 i && nat_lt i (take.0 + take.1)) xs) (lies_taken xs p n i a low high)

-- ---- acts, and then acts that free

module _ {b mid now : List ℕ} {acts acts' : List Act} (was : HasShape b (shape b)) (was' : HasShape mid (shape mid)) (first : ActsFollow b mid acts) (second : ActsFollow mid now acts') (gives : taken acts' ≡ []) (stay : ListedStay mid now acts') where
  -- a record in use in between that began as no record of the first image was taken
  was_taken : (split rest : ℕ) → In split (shape b).records → split < rest → rest < split + size_at b split → In rest (shape mid).records → type_at mid rest ≢ uir_type → Among (rest, size_at mid rest) (taken acts)
  was_taken split rest i low high there used =
      let x = Each-in (λ place. Among (place, size_at mid place) (fold after_act (space_before b) acts).used) (used_records mid) first.left.used_are rest (used_if mid rest there used) in
      let olds = each_sized b (λ y. In y.0 (shape b).records) (used_records b) (λ n j. (used_says b n j).0) in
      elim (used_from (space_before b) acts (rest, size_at mid rest) x) [
        | inl t ↦ t
        | inr o ↦ absurd (no_rest b was split rest i (each_among (λ y. In y.0 (shape b).records) (sized b (used_records b)) olds (rest, size_at mid rest) o) low high)
      ]

  rest_stays : (split rest : ℕ) → In split (shape b).unused → In rest (shape now).unused → RestStays b now (acts ++ acts') split rest
  rest_stays split rest i j low high n l u free =
      let none = none_of_both (λ take. nat_le take.0 n && nat_lt n (take.0 + take.1)) acts acts' free in
      let g = began was' second gives rest j in
      let size = g.size_is in
      elim g.was [
        | inl k ↦
            let kept = stays_bytes (stay rest k (ap (list_any (λ take. nat_le rest take.0 && nat_lt take.0 (rest + size_at mid rest))) gives)) 28 (size_at mid rest) (omega arith) (λ k l u. (inr (omega arith), (inr (omega arith), tt))) in
            kept.each n (omega arith) (omega (arith, u, size))
            ∙ Each-in (RestStays b mid acts split) (shape mid).unused (Each-in (λ split. Each (RestStays b mid acts split) (shape mid).unused) (shape b).unused first.rests split i) rest k low high n l (omega (arith, u, size)) none.0
        | inr used ↦
            let t = was_taken split rest (linkable-in b (shape b).records uir_type split (was.unused_chain.linkable split i)) low high g.there used in
            absurd (true≢false (sym (lies_taken (taken acts) rest (size_at mid rest) n t (omega arith) (omega (arith, u, size))) ∙ none.0))
      ]

  pub any_then_freed : ActsFollow b now (acts ++ acts')
  any_then_freed =
      let left = fold after_act (space_before b) acts in
      let has = first.left in
      let same : with_others (space_before mid) left.used left.loose ≡ left = λ i. record { used = left.used; listed = has.list_is i; back = has.back_is i; loose = left.loose; end = has.end_is i } in
      let among = λ (list : List (ℕ × ℕ)) (places : List ℕ) (all : Each (λ place. Among (place, size_at mid place) list) places). each_among (λ x. Among x list) (sized mid places) (each_sized mid (λ x. Among x list) places (Each-in _ places all)) in
      record {
        are = are_both (space_before b) acts acts' first.are (subst (λ (l : SpaceLeft). AreActs l acts') same (gives_more (space_before mid) left.used left.loose acts' gives (among left.used (used_records mid) has.used_are) second.are));
        left = subst (HasLeft now) (ap (λ (l : SpaceLeft). fold after_act l acts') same ∙ sym (fold-append after_act (space_before b) acts acts'))
            (left_given now (space_before mid) left.used left.loose acts' gives (among left.used (used_records mid) has.used_are) (among left.loose (loose_records mid) has.loose_are) second.left);
        rests = each (λ split. Each (RestStays b now (acts ++ acts') split) (shape now).unused) (shape b).unused (λ split i. each (RestStays b now (acts ++ acts') split) (shape now).unused (λ rest j. rest_stays split rest i j));
      }

-- ---- the unused list behind acts that free and then take

given_carries : (P : ℕ × ℕ → Type 0) (place size : ℕ) (list : List (ℕ × ℕ)) → P (place, size) → Each P list → Each P (given_to list place size)
given_carries P place size list p h = by (nat_le 28 size)
  where
    by : (t : Bool) → Each P (if t then (place, size) ∷ list else list)
    by true = (p, h)
    by false = h

freed_carry : (P : ℕ × ℕ → Type 0) (l : SpaceLeft) (acts : List Act) → taken acts ≡ [] → AreActs l acts → Each P l.listed → ((x : ℕ × ℕ) → Among x l.used → P x) → Each P (fold after_act l acts).listed
freed_carry P l [] gives are listed used = listed
freed_carry P l (Took place need ∷ acts) gives are listed used = absurd cc
freed_carry P l (Gave place size ∷ acts) gives are listed used =
    freed_carry P (after_act l (Gave place size)) acts gives are.1 (given_carries P place size l.listed (used (place, size) are.0) listed) (λ x a. used x (among_out x place l.used a))

are_first : (l : SpaceLeft) (xs ys : List Act) → AreActs l (xs ++ ys) → AreActs l xs
are_first l [] ys p = tt
are_first l (x ∷ xs) ys p = (p.0, are_first (after_act l x) xs ys p.1)

are_later : (l : SpaceLeft) (xs ys : List Act) → AreActs l (xs ++ ys) → AreActs (fold after_act l xs) ys
are_later l [] ys p = p
are_later l (x ∷ xs) ys p = are_later (after_act l x) xs ys p.1

-- a record that the unused list had or that was in use, or the later part of such a record
record Came (b : List ℕ) (x : ℕ × ℕ) : Type 0 where
  place : ℕ
  there : In place (shape b).records
  was : In place (shape b).unused ⊎ (type_at b place ≢ uir_type)
  comes : ((x.0 ≡ place) × (x.1 ≡ size_at b place)) ⊎ ((place < x.0) × (x.0 + x.1 ≤ place + size_at b place))

module _ {b mid : List ℕ} {acts : List Act} (gives takes : List Act) (is : acts ≡ gives ++ takes) (h : HasShape b (shape b)) (h' : HasShape mid (shape mid)) (follow : ActsFollow b mid acts) (gives_alone : taken gives ≡ []) (takes_alone : OnlyTakes takes) where
  are : AreActs (space_before b) (gives ++ takes)
  are = subst (AreActs (space_before b)) is follow.are

  came : Each (Came b) (fold after_act (space_before b) acts).listed
  came =
      let listed = each_sized b (Came b) (shape b).unused (λ n j. record { place = n; there = linkable-in b (shape b).records uir_type n (h.unused_chain.linkable n j); was = inl j; comes = inl (refl, refl) }) in
      let used = each_sized b (Came b) (used_records b) (λ n j. let u = used_says b n j in record { place = n; there = u.0; was = inr u.1; comes = inl (refl, refl) }) in
      let freed = freed_carry (Came b) (space_before b) gives gives_alone (are_first (space_before b) gives takes are) listed (each_among (Came b) (sized b (used_records b)) used) in
      let more = acts_carry (Came b) (λ place size need enough fits o. record { place = o.place; there = o.there; was = o.was; comes = inr (let c = o.comes in grind arith) }) (fold after_act (space_before b) gives) takes (are_later (space_before b) gives takes are) takes_alone freed in
      subst (λ (l : SpaceLeft). Each (Came b) l.listed) (sym (ap (fold after_act (space_before b)) is ∙ fold-append after_act (space_before b) gives takes)) more

  pub listed_before : (m : ℕ) → In m (shape b).records → type_at b m ≡ uir_type → In m (shape mid).unused → In m (shape b).unused
  listed_before m i t j =
      let c = each_among (Came b) _ came (m, size_at mid m) (subst (Among (m, size_at mid m)) follow.left.list_is (among_sized mid (shape mid).unused m (size_at mid m) j refl)) in
      let long = (tile_lies mid 8 (length mid) (shape mid).records m h'.tiled (linkable-in mid (shape mid).records uir_type m (h'.unused_chain.linkable m j))).long in
      elim c.comes [
        | inl x ↦ elim c.was [ inl k ↦ subst (λ (z : ℕ). In z (shape b).unused) (sym x.0) k | inr other ↦ absurd (other (ap (type_at b) (sym x.0) ∙ t)) ]
        | inr x ↦ absurd (no_rest b h c.place m c.there i x.0 (omega (arith, x.1)))
      ]
