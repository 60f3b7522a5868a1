-- The owners of an image of which one has gone: each other one has what it had.
use Rattle.cdf_edits.proofs.Common.{AreFree, Distinct, Edit, In, IsSound, List, Mark, OwnedOnce, Shape, [], arith, either, eq-eqb, false, flat_map, inl, inr, owned_records, refl, shape, shape_is, subst, suc, sym, times, times-none, true, type_at, uir_type, unused_records, ℕ, ◌+◌, ◌==◌, ◌∙◌, ◌∷◌, ◌≡◌, ◌≢◌, ◌≤◌, ◌⊎◌}
use Rattle.cdf_edits.proofs.Edits.ChainOwners.{not_twice_kept}
use Rattle.cdf_edits.proofs.Edits.OwnedOnce.{used_times, owned_once_if, none_in_use, unused_unowned}
use Rattle.cdf_edits.proofs.Frame.OwnersApart.{times-append, times-in, owned-times, file_records, all_attribute_records, all_variable_records}

-- a sound image has the shape with which it is sound
pub shape_there : {b : List ℕ} {s : Shape} → IsSound b s → shape b ≡ s
shape_there {b = b} {s = s} sound = shape_is b s sound.has_shape

pub sound_there : {b : List ℕ} {s : Shape} → IsSound b s → IsSound b (shape b)
sound_there {b = b} sound = subst (IsSound b) (sym (shape_there sound)) sound

-- none of the records stands twice
pub distinct_if : (xs : List ℕ) → ((m : ℕ) → times m xs ≤ 1) → Distinct xs
distinct_if [] once = tt
distinct_if (x ∷ xs) once = (
  (λ i. twice (times x (x ∷ xs)) (times x xs) (once x) (rw (eq-eqb x x refl) refl) (times-in x xs i)),
  distinct_if xs (λ m. fewer m (either (m == x))),
)
  where
    twice : (n k : ℕ) → n ≤ 1 → n ≡ suc k → 1 ≤ k → ⊥
    twice n k l e p = omega arith

    fewer : (m : ℕ) → ((m == x) ≡ true) ⊎ ((m == x) ≡ false) → times m xs ≤ 1
    fewer m (inl e) = let o : suc (times m xs) ≤ 1 = rw e at (once m) in omega arith
    fewer m (inr e) = let o : times m xs ≤ 1 = rw e at (once m) in o

-- a shape without the records of one owner
pub record Left (b : List ℕ) (s s' : Shape) (mine : List ℕ) : Type 0 where
  pub sound : IsSound b s
  pub fewer : (m : ℕ) → used_times s' m + times m mine ≡ used_times s m

pub left_of : {A : Type 0} (f : A → List ℕ) {b : List ℕ} {s s' : Shape} → IsSound b s → (x : A) → ((m : ℕ) → used_times s' m + times m (flat_map f (x ∷ [])) ≡ used_times s m + 0) → Left b s s' (f x)
left_of f {s = s} {s' = s'} sound x less = record { sound = sound; fewer = λ m. no_more (used_times s' m) (times m (f x)) (used_times s m) (times m (flat_map f (x ∷ []))) (times-append m (f x) []) (less m) }
  where
    no_more : (n' o n o' : ℕ) → o' ≡ o + 0 → n' + o' ≡ n + 0 → n' + o ≡ n
    no_more n' o n o' p q = omega arith

module _ {b : List ℕ} {s s' : Shape} {mine : List ℕ} (left : Left b s s' mine) where
  used_once : (m : ℕ) → used_times s m ≤ 1
  used_once m = at_most (times m (owned_records b s)) (times m (file_records s)) (times m (all_attribute_records s)) (times m (all_variable_records s)) (times m (unused_records b s)) (left.sound.not_twice m) (owned-times b s m)
    where
      at_most : (n f a v u : ℕ) → n ≤ 1 → n ≡ f + (a + (v + u)) → f + (a + v) ≤ 1
      at_most n f a v u l e = omega arith

  pub none_left : (m : ℕ) → In m mine → used_times s' m ≡ 0
  none_left m i = no_more (used_times s m) (used_times s' m) (times m mine) (used_once m) (left.fewer m) (times-in m mine i)
    where
      no_more : (n n' o : ℕ) → n ≤ 1 → n' + o ≡ n → 1 ≤ o → n' ≡ 0
      no_more n n' o l p q = omega arith

  -- they were in use
  pub mine_used : (m : ℕ) → In m mine → In m s.records → type_at b m ≢ uir_type
  mine_used m i inside u = clash (used_times s m) (used_times s' m) (times m mine) (unused_unowned left.sound m inside u) (left.fewer m) (times-in m mine i)
    where
      clash : (n n' o : ℕ) → n ≡ 0 → n' + o ≡ n → 1 ≤ o → ⊥
      clash n n' o e p q = omega arith

  pub mine_times : (m : ℕ) → times m mine ≤ 1
  mine_times m = at_most (used_times s m) (used_times s' m) (times m mine) (used_once m) (left.fewer m)
    where
      at_most : (n n' o : ℕ) → n ≤ 1 → n' + o ≡ n → o ≤ 1
      at_most n n' o l p = omega arith

  pub mine_once : Distinct mine
  mine_once = distinct_if mine mine_times

  -- before they are freed nobody has them, and no record has two owners
  module _ {mid : List ℕ} {marks : List Mark} (e : Edit b mid s.records s'.records marks []) where
    pub not_twice : (m : ℕ) → times m (owned_records mid s') ≤ 1
    not_twice = not_twice_kept b mid s s' marks [] left.sound e (λ m out. no_more (used_times s' m) (used_times s m) (times m mine) (left.fewer m)) (λ m i. absurd i)
      where
        no_more : (n' n o : ℕ) → n' + o ≡ n → n' ≤ n
        no_more n' n o e = omega arith

    types_stay : (m : ℕ) → In m s.records → type_at mid m ≡ type_at b m
    types_stay m i = elim (e.kind m (e.sub m i)) [ inl k ↦ k.1 | inr k ↦ elim k [ inl f ↦ absurd (f.0 i) | inr none ↦ absurd none ] ]

    -- and they can be freed, in an order of their own
    pub can_be_freed : IsSound mid s' → ((m : ℕ) → In m mine → In m s.records) → (places : List ℕ) → ((m : ℕ) → In m places → In m mine) → Distinct places → AreFree mid places
    can_be_freed sound inside places sub once = record {
      stand = λ m i. subst (λ (x : Shape). In m x.records) (sym (shape_there sound)) (e.sub m (inside m (sub m i)));
      unowned = λ m i.
          let there = inside m (sub m i) in
          let used : type_at mid m ≢ uir_type = λ u. mine_used m (sub m i) there (sym (types_stay m there) ∙ u) in
          subst (λ (x : Shape). times m (owned_records mid x) ≡ 0) (sym (shape_there sound)) (none_in_use mid s' e.tiled_now m used (none_left m (sub m i)));
      once = once;
    }

  -- and once they are freed each record has one
  pub owned_left : {now : List ℕ} {marks : List Mark} {places : List ℕ} → OwnedOnce b s → Edit b now s.records s'.records marks places → ((m : ℕ) → In m places → In m mine) → ((m : ℕ) → In m mine → In m places) → ((m : ℕ) → In m places → type_at now m ≡ uir_type) → OwnedOnce now s'
  owned_left {now = now} {marks = marks} {places = places} once e sub all freed = owned_once_if b now s s' marks places left.sound once e
      (λ m out. as_before (used_times s' m) (times m mine) (used_times s m) (left.fewer m) (times-none m mine (λ i. out (all m i))))
      (λ m i. inr (freed m i, none_left m (sub m i)))
    where
      as_before : (n' o n : ℕ) → n' + o ≡ n → o ≡ 0 → n' ≡ n
      as_before n' o n p q = omega arith
