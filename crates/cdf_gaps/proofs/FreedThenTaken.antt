-- Acts that only free records, and from there on acts that only take records, follow from the first image to the last.
use Rattle.cdf_edits.proofs.Common.{Act, ActsFollow, AreActs, Each, Gave, HasLeft, HasShape, In, List, RestStays, SpaceLeft, Took, [], after_act, ap, arith, cases_eq, either, fold, fold-append, given_to, if◌then◌else◌, inl, inr, length, linkable-in, list_any, loose_records, nat_le, nat_lt, refl, shape, size_at, sized, space_before, subst, sym, taken, tiles_lie_apart, type_at, uir_type, used_records, ℕ, ◌&&◌, ◌++◌, ◌+◌, ◌<◌, ◌==◌, ◌∙◌, ◌∷◌, ◌≡◌, ◌≢◌, ◌≤◌, ◌⊎◌}
use Rattle.cdf_edits.proofs.Edits.ActsJoined.{ListedStay, are_both, are_more, each_among, each_sized, left_more, with_others}
use Rattle.cdf_edits.proofs.Edits.Common.{Each-in, OnlyTakes, acts_carry, among_sized, each, none_of_both, stays_bytes}
use Rattle.cdf_edits.proofs.Space.ActsLeave.{used_says}
use Rattle.cdf_edits.specs.Space.Acts.{Among, without}
use Rattle.std.proofs.Common.{Bool, false, true}

-- ---- the unused list behind acts that free

among_out : (x : ℕ × ℕ) (place : ℕ) (xs : List (ℕ × ℕ)) → Among x (without place xs) → Among x xs
among_out x place [] a = a
among_out x place (y ∷ ys) a = elim (either (y.0 == place)) [
  | inl e ↦ let c : Among x (without place ys) = rw e at a in inr (among_out x place ys c)
  | inr e ↦ let c : Among x (y ∷ without place ys) = rw e at a in elim c [ inl q ↦ inl q | inr d ↦ inr (among_out x place ys d) ]
]

given_carries : (P : ℕ × ℕ → Type 0) (place size : ℕ) (list : List (ℕ × ℕ)) → P (place, size) → Each P list → Each P (given_to list place size)
given_carries P place size list p h = by (nat_le 28 size)
  where
    by : (t : Bool) → Each P (if t then (place, size) ∷ list else list)
    by true = (p, h)
    by false = h

-- what holds of the records of the list and of those in use holds of the records of the list behind acts that free
freed_carry : (P : ℕ × ℕ → Type 0) (l : SpaceLeft) (acts : List Act) → taken acts ≡ [] → AreActs l acts → Each P l.listed → ((x : ℕ × ℕ) → Among x l.used → P x) → Each P (fold after_act l acts).listed
freed_carry P l [] gives are listed used = listed
freed_carry P l (Took place need ∷ acts) gives are listed used = absurd cc
freed_carry P l (Gave place size ∷ acts) gives are listed used =
    freed_carry P (after_act l (Gave place size)) acts gives are.1 (given_carries P place size l.listed (used (place, size) are.0) listed) (λ x a. used x (among_out x place l.used a))

-- a record of an image, which its unused list has or which is in use
pub record Began (b : List ℕ) (x : ℕ × ℕ) : Type 0 where
  pub there : In x.0 (shape b).records
  pub size_is : x.1 ≡ size_at b x.0
  pub was : In x.0 (shape b).unused ⊎ (type_at b x.0 ≢ uir_type)

-- it is a record of a list, or the later part of such a record
pub record IsPart (b : List ℕ) (x : ℕ × ℕ) : Type 0 where
  pub place : ℕ
  pub listed : In place (shape b).unused
  pub comes : ((x.0 ≡ place) × (x.1 ≡ size_at b place)) ⊎ ((place < x.0) × (x.0 + x.1 ≤ place + size_at b place))

-- where a record of the unused list comes from, behind acts that take
pub part_of : {b now : List ℕ} {acts : List Act} → ActsFollow b now acts → OnlyTakes acts → (m : ℕ) → In m (shape now).unused → IsPart b (m, size_at now m)
part_of {b = b} {now = now} {acts = acts} follow takes m i =
    let first = each_sized b (IsPart b) (shape b).unused (λ n j. record { place = n; listed = j; comes = inl (refl, refl) }) in
    let left = acts_carry (IsPart b) (λ place size need enough fits o. record { place = o.place; listed = o.listed; comes = inr (let c = o.comes in grind arith) }) (space_before b) acts follow.are takes first in
    each_among (IsPart b) _ left (m, size_at now m) (subst (Among (m, size_at now m)) follow.left.list_is (among_sized now (shape now).unused m (size_at now m) i refl))

-- ---- the image behind acts that free

module _ {b mid : List ℕ} {acts : List Act} (was : HasShape b (shape b)) (first : ActsFollow b mid acts) (gives : taken acts ≡ []) where
  unused_there : (m : ℕ) → In m (shape b).unused → In m (shape b).records
  unused_there m i = linkable-in b (shape b).records uir_type m (was.unused_chain.linkable m i)

  -- each record of its unused list is a record of the first image, and was on the list or in use
  pub began : (m : ℕ) → In m (shape mid).unused → Began b (m, size_at mid m)
  began m i =
      let listed = each_sized b (Began b) (shape b).unused (λ n j. record { there = unused_there n j; size_is = refl; was = inl j }) in
      let used = each_sized b (Began b) (used_records b) (λ n j. let u = used_says b n j in record { there = u.0; size_is = refl; was = inr u.1 }) in
      let left = freed_carry (Began b) (space_before b) acts gives first.are listed (each_among (Began b) (sized b (used_records b)) used) in
      each_among (Began b) _ left (m, size_at mid m) (subst (Among (m, size_at mid m)) first.left.list_is (among_sized mid (shape mid).unused m (size_at mid m) i refl))

  -- an unused record that is on the list was on the list
  pub listed_first : (m : ℕ) → type_at b m ≡ uir_type → In m (shape mid).unused → In m (shape b).unused
  listed_first m t i = elim (began m i).was [ inl j ↦ j | inr other ↦ absurd (other t) ]

-- ---- and then records are taken

module _ {b mid now : List ℕ} {acts acts' : List Act} (was : HasShape b (shape b)) (first : ActsFollow b mid acts) (second : ActsFollow mid now acts') (gives : taken acts ≡ []) (takes' : OnlyTakes acts') (stay : ListedStay b mid acts) where
  rest_stays : (split rest : ℕ) → In split (shape b).unused → In rest (shape now).unused → RestStays b now (acts ++ acts') split rest
  rest_stays split rest i j low high n l u free =
      let none = none_of_both (λ take. nat_le take.0 n && nat_lt n (take.0 + take.1)) acts acts' free in
      let o = part_of second takes' rest j in
      let c = o.comes in
      let g = began was first gives o.place o.listed in
      elim (cases_eq o.place split) [
        | inl e ↦
            let kept = stays_bytes (stay split i (ap (list_any (λ take. nat_le split take.0 && nat_lt take.0 (split + size_at b split))) gives)) 28 (size_at b split) (omega arith) (λ k l u. (inr (omega arith), (inr (omega arith), tt))) in
            let size : size_at mid o.place ≡ size_at b split = g.size_is ∙ ap (size_at b) e in
            elim c [
              | inl x ↦ absurd (omega (arith, x.0, e, low))
              | inr x ↦ Each-in (RestStays mid now acts' o.place) (shape now).unused (Each-in (λ split. Each (RestStays mid now acts' split) (shape now).unused) (shape mid).unused second.rests o.place o.listed) rest j x.0 (omega (arith, x.1)) n l u none.1
                  ∙ kept.each n (omega arith) (omega (arith, x.1, e, size))
            ]
        | inr ne ↦
            let apart = tiles_lie_apart b 8 (length b) (shape b).records o.place split was.tiled g.there (linkable-in b (shape b).records uir_type split (was.unused_chain.linkable split i)) ne in
            let begins : o.place ≤ rest = grind (arith, c) in
            let ends : rest < o.place + size_at mid o.place = grind (arith, c, l, u) in
            let size = g.size_is in
            absurd (grind (arith, apart, begins, ends, size, low, high))
      ]

  pub freed_then_taken : ActsFollow b now (acts ++ acts')
  freed_then_taken =
      let left = fold after_act (space_before b) acts in
      let has = first.left in
      let same : with_others (space_before mid) left.used left.loose ≡ left = λ i. record { used = left.used; listed = has.list_is i; back = has.back_is i; loose = left.loose; end = has.end_is i } in
      let among = λ (list : List (ℕ × ℕ)) (places : List ℕ) (all : Each (λ place. Among (place, size_at mid place) list) places). each_among (λ x. Among x list) (sized mid places) (each_sized mid (λ x. Among x list) places (Each-in _ places all)) in
      record {
        are = are_both (space_before b) acts acts' first.are (subst (λ (l : SpaceLeft). AreActs l acts') same (are_more (space_before mid) left.used left.loose acts' takes' second.are));
        left = subst (HasLeft now) (ap (λ (l : SpaceLeft). fold after_act l acts') same ∙ sym (fold-append after_act (space_before b) acts acts'))
            (left_more now (space_before mid) left.used left.loose acts' takes' (among left.used (used_records mid) has.used_are) (among left.loose (loose_records mid) has.loose_are) second.left);
        rests = each (λ split. Each (RestStays b now (acts ++ acts') split) (shape now).unused) (shape b).unused (λ split i. each (RestStays b now (acts ++ acts') split) (shape now).unused (λ rest j. rest_stays split rest i j));
      }
