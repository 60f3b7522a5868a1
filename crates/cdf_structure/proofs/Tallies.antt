-- How often records stand in a list, and what is known of their owners.
use Rattle.cdf_structure.proofs.Common.{Block, Bool, Climbs, In, IsBroken, IsToldOf, List, Marks, None, Option, Owners, Some, StandsAt, [], ap, append-nil, append_assoc, arith, cases_lt, either, eq-eqb, eqb, eqb-true, false, flat_map, get_or, get_or-set_other, get_or-set_same, inl, inr, length, map, map-append, min, ne_eqb, owner_rows, refl, set, subst, sym, take, take_more, times, true, true≢false, ℕ, ◌++◌, ◌+◌, ◌<◌, ◌∙◌, ◌∷◌, ◌≡◌, ◌≢◌, ◌≤◌}
use Rattle.std.proofs.lemmas.List.{get_or_default}
use Rattle.std.specs.Option.{option_map_or}
use Rattle.std.specs.Prelude.{is_some}
use Rattle.cdf_structure.specs.Owners.{count_of}
use Rattle.cdf_structure.proofs.Rows.{In-get_or, broken_in}

times-append : (x : ℕ) (ys zs : List ℕ) → times x (ys ++ zs) ≡ times x ys + times x zs
times-append x [] zs = omega arith
times-append x (y ∷ ys) zs = let r = times-append x ys zs in elim (either (eqb x y)) [ inl e ↦ rw e (omega arith) | inr e ↦ rw e r ]

times_other : (x : ℕ) (owned : List ℕ) (place : ℕ) → x ≢ place → times x (owned ++ place ∷ []) ≡ times x owned
times_other x owned place ne = let one : times x (place ∷ []) ≡ 0 = rw (ne_eqb x place ne) refl in omega (arith, times-append x owned (place ∷ []), one)

times_same : (x : ℕ) (owned : List ℕ) (place : ℕ) → x ≡ place → times x (owned ++ place ∷ []) ≡ times x owned + 1
times_same x owned place e = let one : times x (place ∷ []) ≡ 1 = rw (eq-eqb x place e) refl in omega (arith, times-append x owned (place ∷ []), one)

-- a record with two owners has them with more of them
marks_more : (tiles owned more : List ℕ) (marks : List Bool) (p : ℕ) → Marks tiles owned marks (Some p) → Marks tiles (owned ++ more) marks (Some p)
marks_more tiles owned more marks p m = (m.0, omega (arith, m.1, times-append p owned more), λ j lj. omega (arith, m.2 j lj, times-append (get_or tiles j 0) owned more))

pub shared_stays : (tiles owned more : List ℕ) (marks : List Bool) (shared : Option ℕ) → is_some shared ≡ true → Marks tiles owned marks shared → Marks tiles (owned ++ more) marks shared
shared_stays tiles owned more marks None some m = absurd (true≢false (sym some))
shared_stays tiles owned more marks (Some p) some m = marks_more tiles owned more marks p m

-- one more that stands nowhere
pub marks_miss : (tiles owned : List ℕ) (place : ℕ) (marks : List Bool) (shared : Option ℕ) → StandsAt tiles place None → Marks tiles owned marks shared → Marks tiles (owned ++ place ∷ []) marks shared
marks_miss tiles owned place marks None none m = λ j lj. times_other (get_or tiles j 0) owned place (none j lj) ∙ m j lj
marks_miss tiles owned place marks (Some p) none m = marks_more tiles owned (place ∷ []) marks p m

-- one that stands at i
module _ (tiles owned : List ℕ) (place i : ℕ) (climbs : Climbs tiles) (marks : List Bool) (as_many : length marks ≡ length tiles) (li : i < length tiles) (is : get_or tiles i 0 ≡ place) where
  other : (j : ℕ) → j < length tiles → j ≢ i → get_or tiles j 0 ≢ place
  other j lj apart z = elim (cases_lt j i) [
    | inl l ↦ absurd (omega (arith, climbs j i l li, z, is))
    | inr l ↦ elim (cases_lt i j) [ inl m ↦ absurd (omega (arith, climbs i j m lj, z, is)) | inr m ↦ let q : j ≡ i = omega arith in apart q ]
  ]

  -- the first time
  module _ (fresh : get_or marks i false ≡ false) where
    at_i : get_or (set marks i true) i false ≡ true
    at_i = get_or-set_same marks i true false (omega (arith, as_many, li))

    pub marks_first : (shared : Option ℕ) → Marks tiles owned marks shared → Marks tiles (owned ++ place ∷ []) (set marks i true) shared
    marks_first None m = λ j lj. elim (either (eqb j i)) [
      | inl same ↦
          let s : j ≡ i = eqb-true j i same in
          let before : times (get_or tiles i 0) owned ≡ 0 = rw fresh at (m i li) in
          rw (s, at_i) (omega (arith, times_same (get_or tiles i 0) owned place is, before))
      | inr different ↦
          let apart : j ≢ i = λ z. absurd (true≢false (sym (eq-eqb j i z) ∙ different)) in
          rw (get_or-set_other marks i j true false apart) (times_other (get_or tiles j 0) owned place (other j lj apart) ∙ m j lj)
    ]
    marks_first (Some p) m = (
      m.0,
      omega (arith, m.1, times-append p owned (place ∷ [])),
      λ j lj. elim (either (eqb j i)) [
        | inl same ↦
            let s : j ≡ i = eqb-true j i same in
            rw (s, at_i) (omega (arith, times_same (get_or tiles i 0) owned place is))
        | inr different ↦
            let apart : j ≢ i = λ z. absurd (true≢false (sym (eq-eqb j i z) ∙ different)) in
            rw (get_or-set_other marks i j true false apart) (omega (arith, m.2 j lj, times-append (get_or tiles j 0) owned (place ∷ [])))
      ],
    )

  -- once more
  module _ (again : get_or marks i false ≡ true) where
    twice : 1 ≤ times (get_or tiles i 0) owned → 2 ≤ times place (owned ++ place ∷ [])
    twice once = rw (sym is) (omega (arith, once, times_same (get_or tiles i 0) owned (get_or tiles i 0) refl))

    pub marks_again : (shared : Option ℕ) → Marks tiles owned marks shared → Marks tiles (owned ++ place ∷ []) marks (Some (option_map_or (min place) shared place))
    marks_again None m =
        let once : times (get_or tiles i 0) owned ≡ 1 = rw again at (m i li) in
        (subst (λ (x : ℕ). In x tiles) is (In-get_or tiles i li), twice (omega (arith, once)), λ j lj. omega (arith, m j lj, times-append (get_or tiles j 0) owned (place ∷ [])))
    marks_again (Some p) m =
        let once : 1 ≤ times (get_or tiles i 0) owned = rw again at (m.2 i li) in
        let most : (j : ℕ) → j < length tiles → count_of (get_or marks j false) ≤ times (get_or tiles j 0) (owned ++ place ∷ []) = λ j lj. omega (arith, m.2 j lj, times-append (get_or tiles j 0) owned (place ∷ [])) in
        elim (cases_lt place p) [
          | inl l ↦ let e : min place p ≡ place = omega arith in rw e (subst (λ (x : ℕ). In x tiles) is (In-get_or tiles i li), twice once, most)
          | inr l ↦ let e : min place p ≡ p = omega arith in rw e (m.0, omega (arith, m.1, times-append p owned (place ∷ [])), most)
        ]

-- a mark that was read
pub mark_is : (marks : List Bool) (i : ℕ) (mark : Bool) → i < length marks → mark ≡ get_or marks i mark → get_or marks i false ≡ mark
mark_is marks i mark lt e = sym (e ∙ get_or_default marks i mark false lt)

-- no record has an owner yet
pub marks_none : (tiles : List ℕ) (marks : List Bool) → ((j : ℕ) → j < length tiles → get_or marks j false ≡ false) → Marks tiles [] marks None
marks_none tiles marks none = λ j lj. rw (none j lj) refl

-- a record with two owners breaks its rule
pub shared_breaks : (tiles owned : List ℕ) (p : ℕ) → In p tiles → 2 ≤ times p owned → IsBroken (flat_map (owner_rows owned) tiles) 1 p
shared_breaks tiles owned p stands twice = broken_in (owner_rows owned) tiles p 1 p stands (inl (refl, refl, ne_eqb (times p owned) 1 (λ e. absurd (omega (arith, e, twice)))))

-- ---- told of one list after the other

pub told_then : (tiles xs ys : List ℕ) (one two three : Owners) → IsToldOf tiles xs one two → IsToldOf tiles ys two three → IsToldOf tiles (xs ++ ys) one three
told_then tiles xs ys one two three first then = λ owned m. subst (λ (zs : List ℕ). Marks tiles zs three.has_owner.items three.shared) (append_assoc owned xs ys) (then (owned ++ xs) (first owned m))

pub told_none : (tiles : List ℕ) (owners : Owners) → IsToldOf tiles [] owners owners
told_none tiles owners = λ owned m. subst (λ (zs : List ℕ). Marks tiles zs owners.has_owner.items owners.shared) (sym (append-nil owned)) m

-- the records of a variable: its VDR, the nodes of its index, and the blocks one by one
module _ (tiles : List ℕ) (first now next : Owners) where
  pub told_nodes : (vdr : ℕ) (nodes : List ℕ) → IsToldOf tiles (vdr ∷ []) first now → IsToldOf tiles nodes now next → IsToldOf tiles ((vdr ∷ nodes) ++ []) first next
  told_nodes vdr nodes one more = subst (λ (xs : List ℕ). IsToldOf tiles xs first next) (sym (append-nil (vdr ∷ nodes))) (told_then tiles (vdr ∷ []) nodes first now next one more)

  pub told_block : (before : List ℕ) (blocks : List Block) (i : ℕ) (d : Block) → i < length blocks → IsToldOf tiles (before ++ map (λ (block : Block). block.place) (take i blocks)) first now → IsToldOf tiles ((get_or blocks i d).place ∷ []) now next
      → IsToldOf tiles (before ++ map (λ (block : Block). block.place) (take (i + 1) blocks)) first next
  told_block before blocks i d lt told one =
      let places = map (λ (block : Block). block.place) (take i blocks) in
      let place = (get_or blocks i d).place in
      subst (λ (xs : List ℕ). IsToldOf tiles xs first next)
      (append_assoc before places (place ∷ []) ∙ ap (λ (xs : List ℕ). before ++ xs) (sym (map-append (λ (block : Block). block.place) (take i blocks) (get_or blocks i d ∷ [])) ∙ ap (map (λ (block : Block). block.place)) (sym (take_more blocks i d lt))))
      (told_then tiles (before ++ places) (place ∷ []) first now next told one)
