-- The unused list where one record of it is taken: lists alone.
use Rattle.cdf_edits.proofs.Common.{Bool, Distinct, Field, FirstBack, In, In-append_right, List, NoneFit, [], ap, append-nil, append_assoc, ap₂, arith, back_links, either, eq-eqb, eqb, eqb-true, false, first_back_link, fits, inl, inr, last_of, le-leb, link_field, link_tile, map, map-append, nat_le, place_for, prev_of, refl, size_at, split_width, stands_behind, subst, sym, taken_from, taking, touch, touched_field, true, uir_next_uir, ℕ, ◌++◌, ◌+◌, ◌-◌, ◌==◌, ◌∙◌, ◌∷◌, ◌≡◌, ◌≢◌, ◌≤◌, or_parts, Misses, TouchesNone, sized}
use Rattle.std.proofs.Common.{◌&&◌, ◌||◌}

pub unfit_parts : (need size : ℕ) → fits need size ≡ false → ((size == need) ≡ false) × (nat_le (need + 28) size ≡ false)
unfit_parts need size e = or_parts (size == need) (nat_le (need + 28) size) e

-- ---- what is touched of the first record of a list

pub first_misses : (rs : List ℕ) (m lo hi : ℕ) → hi ≤ 20 → Misses (first_back_link rs) m lo hi
first_misses [] m lo hi le = tt
first_misses (r ∷ rs) m lo hi le = ((λ e. inl le), tt)

pub first_other : (rs : List ℕ) (m lo hi : ℕ) → (In m rs → ⊥) → Misses (first_back_link rs) m lo hi
first_other [] m lo hi out = tt
first_other (r ∷ rs) m lo hi out = ((λ e. absurd (out (inl e))), tt)

pub none_first : (rs : List ℕ) (m : ℕ) → (In m rs → ⊥) → TouchesNone (first_back_link rs) (m ∷ [])
none_first [] m out = tt
none_first (r ∷ rs) m out = ((λ j. elim j [ inl e ↦ out (inl (sym e)) | inr none ↦ none ]), tt)

-- ---- the first that fits

pub place_skips : (b : List ℕ) (need end : ℕ) (front rest : List ℕ) → NoneFit b need front → place_for (sized b (front ++ rest)) end need ≡ place_for (sized b rest) end need
place_skips b need end [] rest none = refl
place_skips b need end (m ∷ front) rest none = rw none.0 (place_skips b need end front rest none.1)

pub place_first : (b : List ℕ) (need end a : ℕ) (more : List ℕ) → fits need (size_at b a) ≡ true → place_for (sized b (a ∷ more)) end need ≡ a
place_first b need end a more e = rw e refl

pub place_none : (b : List ℕ) (need end : ℕ) (front : List ℕ) → NoneFit b need front → place_for (sized b front) end need ≡ end
place_none b need end [] none = refl
place_none b need end (m ∷ front) none = rw none.0 (place_none b need end front none.1)

pub taking_skips : (b : List ℕ) (need gdr holder : ℕ) (f : Field) (front rest : List ℕ) → NoneFit b need front → taking gdr holder f (sized b (front ++ rest)) need ≡ taking gdr (link_tile holder front) (link_field f front) (sized b rest) need
taking_skips b need gdr holder f [] rest none = refl
taking_skips b need gdr holder f (m ∷ front) rest none = rw none.0 (taking_skips b need gdr m uir_next_uir front rest none.1)

places_of : (b : List ℕ) (more : List ℕ) → map (λ (pair : ℕ × ℕ). pair.0) (sized b more) ≡ more
places_of b [] = refl
places_of b (m ∷ more) = ap (λ (xs : List ℕ). m ∷ xs) (places_of b more)

pub taking_first : (b : List ℕ) (need gdr holder : ℕ) (f : Field) (a : ℕ) (more : List ℕ) → fits need (size_at b a) ≡ true → taking gdr holder f (sized b (a ∷ more)) need ≡ touched_field holder f ∷ touch a 0 (split_width need (size_at b a)) ∷ first_back_link more
taking_first b need gdr holder f a more e = rw e (ap (λ (xs : List ℕ). touched_field holder f ∷ touch a 0 (split_width need (size_at b a)) ∷ first_back_link xs) (places_of b more))

pub taking_none : (b : List ℕ) (need gdr holder : ℕ) (f : Field) (front : List ℕ) → NoneFit b need front → taking gdr holder f (sized b front) need ≡ taking gdr gdr f [] need
taking_none b need gdr holder f [] none = refl
taking_none b need gdr holder f (m ∷ front) none = rw none.0 (taking_none b need gdr m uir_next_uir front none.1)

-- ---- the list after that

taken_skips : (need size : ℕ) (place : ℕ) (more : List (ℕ × ℕ)) → fits need size ≡ false → taken_from ((place, size) ∷ more) need ≡ (place, size) ∷ taken_from more need
taken_skips need size place more e = let p = unfit_parts need size e in rw (p.0, p.1) refl

pub sizes_same : (b now : List ℕ) (ms : List ℕ) → ((m : ℕ) → In m ms → size_at now m ≡ size_at b m) → sized now ms ≡ sized b ms
sizes_same b now [] same = refl
sizes_same b now (m ∷ ms) same = ap₂ (λ (n : ℕ) (xs : List (ℕ × ℕ)). (m, n) ∷ xs) (same m (inl refl)) (sizes_same b now ms (λ x i. same x (inr i)))

pub list_none : (b now : List ℕ) (need : ℕ) (front : List ℕ) → NoneFit b need front → ((m : ℕ) → In m front → size_at now m ≡ size_at b m) → sized now front ≡ taken_from (sized b front) need
list_none b now need [] none same = refl
list_none b now need (m ∷ front) none same =
    ap₂ (λ (n : ℕ) (xs : List (ℕ × ℕ)). (m, n) ∷ xs) (same m (inl refl)) (list_none b now need front none.1 (λ x i. same x (inr i))) ∙ sym (taken_skips need (size_at b m) m (sized b front) none.0)

pub list_whole : (b now : List ℕ) (need : ℕ) (front : List ℕ) (a : ℕ) (more : List ℕ) → NoneFit b need front → size_at b a ≡ need → ((m : ℕ) → In m (front ++ more) → size_at now m ≡ size_at b m) → sized now (front ++ more) ≡ taken_from (sized b (front ++ a ∷ more)) need
list_whole b now need [] a more none e same = rw (eq-eqb (size_at b a) need e) (sizes_same b now more same)
list_whole b now need (m ∷ front) a more none e same =
    ap₂ (λ (n : ℕ) (xs : List (ℕ × ℕ)). (m, n) ∷ xs) (same m (inl refl)) (list_whole b now need front a more none.1 e (λ x i. same x (inr i)))
    ∙ sym (taken_skips need (size_at b m) m (sized b (front ++ a ∷ more)) none.0)

pub list_split : (b now : List ℕ) (need : ℕ) (front : List ℕ) (a : ℕ) (more : List ℕ) → NoneFit b need front → need + 28 ≤ size_at b a → size_at now (a + need) ≡ size_at b a - need → ((m : ℕ) → In m (front ++ more) → size_at now m ≡ size_at b m)
    → sized now (front ++ (a + need) ∷ more) ≡ taken_from (sized b (front ++ a ∷ more)) need
list_split b now need [] a more none room rest same =
    let other : eqb (size_at b a) need ≡ false = elim (either (eqb (size_at b a) need)) [ inl e ↦ let f = eqb-true (size_at b a) need e in absurd (omega arith) | inr e ↦ e ] in
    rw (other, le-leb (need + 28) (size_at b a) room) (ap₂ (λ (n : ℕ) (xs : List (ℕ × ℕ)). (a + need, n) ∷ xs) rest (sizes_same b now more same))
list_split b now need (m ∷ front) a more none room rest same =
    ap₂ (λ (n : ℕ) (xs : List (ℕ × ℕ)). (m, n) ∷ xs) (same m (inl refl)) (list_split b now need front a more none.1 room rest (λ x i. same x (inr i)))
    ∙ sym (taken_skips need (size_at b m) m (sized b (front ++ a ∷ more)) none.0)

-- ---- the links back

no_equal : (x y : ℕ) → x ≢ y → eqb x y ≡ false
no_equal x y ne = elim (either (eqb x y)) [ inl e ↦ absurd (ne (eqb-true x y e)) | inr e ↦ e ]

and_false : (p : Bool) → (p && false) ≡ false
and_false true = refl
and_false false = refl

stands_nowhere : (z : ℕ) (was : List ℕ) (x y : ℕ) → (In y was → ⊥) → stands_behind z was x y ≡ false
stands_nowhere z [] x y out = refl
stands_nowhere z (m ∷ was) x y out = rw (no_equal m y (λ e. out (inl (sym e))), and_false (eqb z x)) (stands_nowhere m was x y (λ i. out (inr i)))

and_true : (p : Bool) → (p && true) ≡ p
and_true true = refl
and_true false = refl

or_false : (p : Bool) → (p || false) ≡ p
or_false true = refl
or_false false = refl

-- of a list in which it stands once, a record stands behind the last of those before it
stands_at : (z : ℕ) (pre : List ℕ) (x y : ℕ) (post : List ℕ) → Distinct (pre ++ y ∷ post) → stands_behind z (pre ++ y ∷ post) x y ≡ eqb (last_of z pre) x
stands_at z [] x y post d = rw (eq-eqb y y refl, stands_nowhere y post x y d.0, and_true (eqb z x), or_false (eqb z x)) refl
stands_at z (p ∷ pre) x y post d =
    let other : p ≢ y = λ e. d.0 (subst (λ (v : ℕ). In v (pre ++ y ∷ post)) (sym e) (In-append_right y pre (y ∷ post) (inl refl))) in
    rw (no_equal p y other, and_false (eqb z x)) (stands_at p pre x y post d.1)

not_last : (z : ℕ) (front : List ℕ) (a : ℕ) (more : List ℕ) → Distinct (front ++ a ∷ more) → a ≢ z → a ≢ last_of z front
not_last z [] a more d ne = ne
not_last z (m ∷ front) a more d ne = not_last m front a more d.1 (λ e. d.0 (subst (λ (x : ℕ). In x (front ++ a ∷ more)) e (In-append_right a front (a ∷ more) (inl refl))))

pub last_push : (z : ℕ) (pre : List ℕ) (m : ℕ) → last_of z (pre ++ m ∷ []) ≡ m
last_push z [] m = refl
last_push z (p ∷ pre) m = last_push p pre m

-- records that stay in their place keep their link back
back_stays : (b was pre fs rest tail : List ℕ) → was ≡ pre ++ (fs ++ rest) → Distinct was → back_links b was (last_of 0 pre) (fs ++ tail) ≡ map (prev_of b) fs ++ back_links b was (last_of 0 (pre ++ fs)) tail
back_stays b was pre [] rest tail e d = ap (λ (p : List ℕ). back_links b was (last_of 0 p) tail) (sym (append-nil pre))
back_stays b was pre (f ∷ fs) rest tail e d =
    let behind : stands_behind 0 was (last_of 0 pre) f ≡ true = ap (λ (l : List ℕ). stands_behind 0 l (last_of 0 pre) f) e ∙ stands_at 0 pre (last_of 0 pre) f (fs ++ rest) (subst Distinct e d) ∙ eq-eqb (last_of 0 pre) (last_of 0 pre) refl in
    let on = back_stays b was (pre ++ f ∷ []) fs rest tail (e ∙ sym (append_assoc pre (f ∷ []) (fs ++ rest))) d in
    let here = rw (last_push 0 pre f, append_assoc pre (f ∷ []) fs) at on in
    rw behind (ap (λ (xs : List ℕ). prev_of b f ∷ xs) here)

-- the links back of all records of a list but the first
abbrev pub RestKept : List ℕ → List ℕ → List ℕ → Type 0
RestKept b now [] = Unit {0}
RestKept b now (r ∷ rest) = (m : ℕ) → In m rest → prev_of now m ≡ prev_of b m

prevs_same : (b now ms : List ℕ) → ((m : ℕ) → In m ms → prev_of now m ≡ prev_of b m) → map (prev_of now) ms ≡ map (prev_of b) ms
prevs_same b now [] same = refl
prevs_same b now (m ∷ ms) same = ap₂ (λ (x : ℕ) (xs : List ℕ). x ∷ xs) (same m (inl refl)) (prevs_same b now ms (λ x i. same x (inr i)))

-- behind a record that is not the one before it any more
back_more : (b now front : List ℕ) (a : ℕ) (more : List ℕ) (before : ℕ) → Distinct (front ++ a ∷ more) → a ≢ before → FirstBack now before more → RestKept b now more → map (prev_of now) more ≡ back_links b (front ++ a ∷ more) before more
back_more b now front a [] before d ne first rest = refl
back_more b now front a (r ∷ more) before d ne first rest =
    let was = front ++ a ∷ r ∷ more in
    let one : was ≡ (front ++ a ∷ []) ++ r ∷ more = sym (append_assoc front (a ∷ []) (r ∷ more)) in
    let two : was ≡ (front ++ a ∷ r ∷ []) ++ (more ++ []) = ap (λ (xs : List ℕ). front ++ a ∷ r ∷ xs) (sym (append-nil more)) ∙ sym (append_assoc front (a ∷ r ∷ []) (more ++ [])) in
    let other : stands_behind 0 was before r ≡ false = ap (λ (l : List ℕ). stands_behind 0 l before r) one ∙ stands_at 0 (front ++ a ∷ []) before r more (subst Distinct one d) ∙ ap (λ (x : ℕ). eqb x before) (last_push 0 front a) ∙ no_equal a before ne in
    let last : last_of 0 (front ++ a ∷ r ∷ []) ≡ r = ap (last_of 0) (sym (append_assoc front (a ∷ []) (r ∷ []))) ∙ last_push 0 (front ++ a ∷ []) r in
    let on = back_stays b was (front ++ a ∷ r ∷ []) more [] [] two d in
    let here = rw (last, append-nil more, append-nil (map (prev_of b) more)) at on in
    rw other (ap₂ (λ (x : ℕ) (xs : List ℕ). x ∷ xs) first (prevs_same b now more rest ∙ sym here))

front_back : (b now front rest tail : List ℕ) → Distinct (front ++ rest) → ((m : ℕ) → In m front → prev_of now m ≡ prev_of b m) → map (prev_of now) tail ≡ back_links b (front ++ rest) (last_of 0 front) tail → map (prev_of now) (front ++ tail) ≡ back_links b (front ++ rest) 0 (front ++ tail)
front_back b now front rest tail d same on =
    map-append (prev_of now) front tail ∙ ap₂ (λ (xs ys : List ℕ). xs ++ ys) (prevs_same b now front same) on ∙ sym (back_stays b (front ++ rest) [] front rest tail refl d)

pub back_whole : (b now front : List ℕ) (a : ℕ) (more : List ℕ) → Distinct (front ++ a ∷ more) → a ≢ 0 → ((m : ℕ) → In m front → prev_of now m ≡ prev_of b m) → FirstBack now (last_of 0 front) more → RestKept b now more
    → map (prev_of now) (front ++ more) ≡ back_links b (front ++ a ∷ more) 0 (front ++ more)
back_whole b now front a more d some same first rest =
    front_back b now front (a ∷ more) more d same (back_more b now front a more (last_of 0 front) d (not_last 0 front a more d some) first rest)

pub back_split : (b now front : List ℕ) (a q : ℕ) (more : List ℕ) → Distinct (front ++ a ∷ more) → (In q (front ++ a ∷ more) → ⊥) → a ≢ q → ((m : ℕ) → In m front → prev_of now m ≡ prev_of b m) → prev_of now q ≡ last_of 0 front → FirstBack now q more → RestKept b now more
    → map (prev_of now) (front ++ q ∷ more) ≡ back_links b (front ++ a ∷ more) 0 (front ++ q ∷ more)
back_split b now front a q more d out ne same of_rest first rest =
    front_back b now front (a ∷ more) (q ∷ more) d same (rw (stands_nowhere 0 (front ++ a ∷ more) (last_of 0 front) q out) (ap₂ (λ (x : ℕ) (xs : List ℕ). x ∷ xs) of_rest (back_more b now front a more q d ne first rest)))

pub back_none : (b now was : List ℕ) → Distinct was → ((m : ℕ) → In m was → prev_of now m ≡ prev_of b m) → map (prev_of now) was ≡ back_links b was 0 was
back_none b now was d same =
    let on = front_back b now was [] [] (subst Distinct (sym (append-nil was)) d) same refl in
    rw (append-nil was) at on

-- one more before all
pub back_given : (b now : List ℕ) (q : ℕ) (was : List ℕ) → Distinct was → (In q was → ⊥) → q ≢ 0 → prev_of now q ≡ 0 → FirstBack now q was → RestKept b now was → map (prev_of now) (q ∷ was) ≡ back_links b was 0 (q ∷ was)
back_given b now q [] d out some own first rest = ap (λ (x : ℕ). x ∷ []) own
back_given b now q (r ∷ more) d out some own first rest =
    let was = r ∷ more in
    let new : stands_behind 0 was 0 q ≡ false = stands_nowhere 0 was 0 q out in
    let two : was ≡ (r ∷ []) ++ (more ++ []) = ap (λ (xs : List ℕ). r ∷ xs) (sym (append-nil more)) in
    let other : stands_behind 0 was q r ≡ false = stands_at 0 [] q r more d ∙ no_equal 0 q (λ e. some (sym e)) in
    let on = back_stays b was (r ∷ []) more [] [] two d in
    let here = rw (append-nil more, append-nil (map (prev_of b) more)) at on in
    rw (new, other) (ap₂ (λ (x : ℕ) (xs : List ℕ). x ∷ xs) own (ap₂ (λ (x : ℕ) (xs : List ℕ). x ∷ xs) first (prevs_same b now more rest ∙ sym here)))
