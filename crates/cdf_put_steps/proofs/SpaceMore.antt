-- Acts in a space with more records in use, and more on no list.
use Rattle.cdf_edits.proofs.Common.{Act, AreActs, Gave, HasLeft, List, SpaceLeft, Took, [], after_act, ap, arith, either, fold, if◌then◌else◌, inl, inr, loose_records, nat_le, size_at, sym, taken, used_records, ℕ, ◌==◌, ◌∙◌, ◌∷◌, ◌≡◌, ◌⊎◌}
use Rattle.cdf_edits.proofs.Edits.ActsJoined.{with_others}
use Rattle.cdf_edits.proofs.Edits.Common.{Each-in, each}
use Rattle.cdf_edits.specs.Space.Acts.{Among, without}
use Rattle.std.proofs.Common.{Bool, false, true}

-- ---- records of a list but for those at a place

pub among_out : (x : ℕ × ℕ) (place : ℕ) (xs : List (ℕ × ℕ)) → Among x (without place xs) → Among x xs
among_out x place [] a = a
among_out x place (y ∷ ys) a = elim (either (y.0 == place)) [
  | inl e ↦ let c : Among x (without place ys) = rw e at a in inr (among_out x place ys c)
  | inr e ↦ let c : Among x (y ∷ without place ys) = rw e at a in elim c [ inl q ↦ inl q | inr d ↦ inr (among_out x place ys d) ]
]

among_apart : (x : ℕ × ℕ) (place : ℕ) (xs : List (ℕ × ℕ)) → Among x (without place xs) → (x.0 == place) ≡ false
among_apart x place [] a = absurd a
among_apart x place (y ∷ ys) a = elim (either (y.0 == place)) [
  | inl e ↦ let c : Among x (without place ys) = rw e at a in among_apart x place ys c
  | inr e ↦ let c : Among x (y ∷ without place ys) = rw e at a in elim c [ inl q ↦ ap (λ (z : ℕ × ℕ). z.0 == place) q ∙ e | inr d ↦ among_apart x place ys d ]
]

among_in : (x : ℕ × ℕ) (place : ℕ) (xs : List (ℕ × ℕ)) → (x.0 == place) ≡ false → Among x xs → Among x (without place xs)
among_in x place [] ne a = a
among_in x place (y ∷ ys) ne (inl q) = let other : (y.0 == place) ≡ false = ap (λ (z : ℕ × ℕ). z.0 == place) (sym q) ∙ ne in rw other (inl q)
among_in x place (y ∷ ys) ne (inr a) = elim (either (y.0 == place)) [ inl e ↦ rw e (among_in x place ys ne a) | inr e ↦ rw e (inr (among_in x place ys ne a)) ]

among_more : (place : ℕ) (xs ys : List (ℕ × ℕ)) → ((x : ℕ × ℕ) → Among x xs → Among x ys) → (x : ℕ × ℕ) → Among x (without place xs) → Among x (without place ys)
among_more place xs ys more x a = among_in x place ys (among_apart x place xs a) (more x (among_out x place xs a))

one_more : (first : ℕ × ℕ) (xs ys : List (ℕ × ℕ)) → ((x : ℕ × ℕ) → Among x xs → Among x ys) → (x : ℕ × ℕ) → Among x (first ∷ xs) → Among x (first ∷ ys)
one_more first xs ys more x (inl q) = inl q
one_more first xs ys more x (inr a) = inr (more x a)

abbrev loose_with : List (ℕ × ℕ) → ℕ → ℕ → List (ℕ × ℕ)
loose_with loose place size = if nat_le 28 size then loose else (place, size) ∷ loose

loose_more : (place size : ℕ) (xs ys : List (ℕ × ℕ)) → ((x : ℕ × ℕ) → Among x xs → Among x ys) → (x : ℕ × ℕ) → Among x (loose_with xs place size) → Among x (loose_with ys place size)
loose_more place size xs ys more x = by (nat_le 28 size)
  where
    by : (t : Bool) → Among x (if t then xs else (place, size) ∷ xs) → Among x (if t then ys else (place, size) ∷ ys)
    by true a = more x a
    by false a = one_more (place, size) xs ys more x a

-- ---- the same acts happen, and leave more

pub acts_more : (l : SpaceLeft) (used loose : List (ℕ × ℕ)) (acts : List Act) → ((x : ℕ × ℕ) → Among x l.used → Among x used) → AreActs l acts → AreActs (with_others l used loose) acts
acts_more l used loose [] more are = tt
acts_more l used loose (Took place need ∷ acts) more are =
    (are.0, acts_more (after_act l (Took place need)) ((place, need) ∷ used) loose acts (one_more (place, need) l.used used more) are.1)
acts_more l used loose (Gave place size ∷ acts) more are =
    (more (place, size) are.0, acts_more (after_act l (Gave place size)) (without place used) (loose_with loose place size) acts (among_more place l.used used more) are.1)

pub left_with_more : (now : List ℕ) (l : SpaceLeft) (used loose : List (ℕ × ℕ)) (acts : List Act) → ((x : ℕ × ℕ) → Among x l.used → Among x used) → ((x : ℕ × ℕ) → Among x l.loose → Among x loose) → HasLeft now (fold after_act l acts) → HasLeft now (fold after_act (with_others l used loose) acts)
left_with_more now l used loose [] more others has =
    let used_are = each (λ place. Among (place, size_at now place) used) (used_records now) (λ m i. more (m, size_at now m) (Each-in (λ place. Among (place, size_at now place) l.used) (used_records now) has.used_are m i)) in
    let loose_are = each (λ place. Among (place, size_at now place) loose) (loose_records now) (λ m i. others (m, size_at now m) (Each-in (λ place. Among (place, size_at now place) l.loose) (loose_records now) has.loose_are m i)) in
    grind (arith, has.list_is, has.back_is, has.end_is, used_are, loose_are)
left_with_more now l used loose (Took place need ∷ acts) more others has =
    left_with_more now (after_act l (Took place need)) ((place, need) ∷ used) loose acts (one_more (place, need) l.used used more) others has
left_with_more now l used loose (Gave place size ∷ acts) more others has =
    left_with_more now (after_act l (Gave place size)) (without place used) (loose_with loose place size) acts (among_more place l.used used more) (loose_more place size l.loose loose others) has

-- ---- what is in use behind acts was taken by them, or was in use

pub used_from : (l : SpaceLeft) (acts : List Act) (x : ℕ × ℕ) → Among x (fold after_act l acts).used → Among x (taken acts) ⊎ Among x l.used
used_from l [] x a = inr a
used_from l (Took place need ∷ acts) x a = elim (used_from (after_act l (Took place need)) acts x a) [
  | inl i ↦ inl (inr i)
  | inr c ↦ elim c [ inl q ↦ inl (inl q) | inr d ↦ inr d ]
]
used_from l (Gave place size ∷ acts) x a = elim (used_from (after_act l (Gave place size)) acts x a) [ inl i ↦ inl i | inr c ↦ inr (among_out x place l.used c) ]
