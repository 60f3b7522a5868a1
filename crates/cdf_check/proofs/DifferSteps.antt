-- No member of a list is like one before it.
use Rattle.cdf_check.proofs.Common.{Bool, Finding, Finds, Hold, Hold-append, IsBroken, IsBroken-after, IsBroken-before, List, None, Option, Row, Some, [], add-one, ap, append-nil, append_assoc, differ_rows, drop, eqb, false, get_or, inl, inr, is_in, length, list_any, map, map-append, not, refl, row, sym, take, take_more, true, ℕ, ◌++◌, ◌+◌, ◌<◌, ◌||◌, ◌∙◌, ◌∷◌, ◌≡◌}
use Rattle.std.proofs.Math.Seq.{drop-cons}

-- what a member is compared by
module _ {X : Type 0} (key : ℕ → X) (same : X → X → Bool) (rule : ℕ) (ms : List ℕ) (i : ℕ) (lt : i < length ms) (keys : List X) (are : keys ≡ map key (take i ms)) where
  rows : List ℕ → List ℕ → List Row
  rows before rest = differ_rows rule (λ m other. same (key m) (key other)) before rest

  any-map : (x : X) (xs : List ℕ) → list_any (same x) (map key xs) ≡ list_any (λ m. same x (key m)) xs
  any-map x [] = refl
  any-map x (m ∷ xs) = ap (λ (p : Bool). same x (key m) || p) (any-map x xs)

  test_is : list_any (same (key (get_or ms i 0))) keys ≡ list_any (λ m. same (key (get_or ms i 0)) (key m)) (take i ms)
  test_is = rw are (any-map (key (get_or ms i 0)) (take i ms))

  pub key_met : list_any (same (key (get_or ms i 0))) keys ≡ true → IsBroken (differ_rows rule (λ m other. same (key m) (key other)) (take i ms) (drop i ms)) rule (get_or ms i 0)
  key_met old = rw (drop-cons ms i 0 lt) (inl (refl, refl, ap not (sym test_is ∙ old)))

  pub key_new : list_any (same (key (get_or ms i 0))) keys ≡ false → (found : Option Finding) → Finds (differ_rows rule (λ m other. same (key m) (key other)) (take (i + 1) ms) (drop (i + 1) ms)) found → Finds (differ_rows rule (λ m other. same (key m) (key other)) (take i ms) (drop i ms)) found
  key_new new None rest = rw (drop-cons ms i 0 lt) (ap not (sym test_is ∙ new), rw (take_more ms i 0 lt, add-one) at rest)
  key_new new (Some f) rest = rw (drop-cons ms i 0 lt) (inr (rw (take_more ms i 0 lt, add-one) at rest))

  pub keys_more : keys ++ key (get_or ms i 0) ∷ [] ≡ map key (take (i + 1) ms)
  keys_more = rw (are, take_more ms i 0 lt) (sym (map-append key (take i ms) (get_or ms i 0 ∷ [])))

-- one member more
module _ {X : Type 0} (key : ℕ → X) (same : X → X → Bool) (rule : ℕ) (ms : List ℕ) (m : ℕ) where
  any-keys : (x : X) (others : List ℕ) → list_any (same x) (map key others) ≡ list_any (λ other. same x (key other)) others
  any-keys x [] = refl
  any-keys x (other ∷ others) = ap (λ (p : Bool). same x (key other) || p) (any-keys x others)

  pushed : (before members : List ℕ) → differ_rows rule (λ one other. same (key one) (key other)) before (members ++ m ∷ []) ≡ differ_rows rule (λ one other. same (key one) (key other)) before members ++ row rule m (not (list_any (λ other. same (key m) (key other)) (before ++ members))) ∷ []
  pushed before [] = ap (λ (others : List ℕ). row rule m (not (list_any (λ other. same (key m) (key other)) others)) ∷ []) (sym (append-nil before))
  pushed before (x ∷ members) = ap (λ (rows : List Row). row rule x (not (list_any (λ other. same (key x) (key other)) before)) ∷ rows) (pushed (before ++ x ∷ []) members ∙ ap (λ (others : List ℕ). differ_rows rule (λ one other. same (key one) (key other)) (before ++ x ∷ []) members ++ row rule m (not (list_any (λ other. same (key m) (key other)) others)) ∷ []) (append_assoc before (x ∷ []) members))

  pub push_broken : (r place : ℕ) → IsBroken (differ_rows rule (λ one other. same (key one) (key other)) [] ms) r place → IsBroken (differ_rows rule (λ one other. same (key one) (key other)) [] (ms ++ m ∷ [])) r place
  push_broken r place broken = rw (pushed [] ms) (IsBroken-before (differ_rows rule (λ one other. same (key one) (key other)) [] ms) _ r place broken)

  pub push_met : list_any (same (key m)) (map key ms) ≡ true → IsBroken (differ_rows rule (λ one other. same (key one) (key other)) [] (ms ++ m ∷ [])) rule m
  push_met old = rw (pushed [] ms) (IsBroken-after (differ_rows rule (λ one other. same (key one) (key other)) [] ms) _ rule m (inl (refl, refl, ap not (sym (any-keys (key m) ms) ∙ old))))

  pub push_new : list_any (same (key m)) (map key ms) ≡ false → Hold (differ_rows rule (λ one other. same (key one) (key other)) [] ms) → Hold (differ_rows rule (λ one other. same (key one) (key other)) [] (ms ++ m ∷ []))
  push_new new before = rw (pushed [] ms) (Hold-append (differ_rows rule (λ one other. same (key one) (key other)) [] ms) _ before (ap not (sym (any-keys (key m) ms) ∙ new), tt))

pub is_in-any : (n : ℕ) (ns : List ℕ) → is_in n ns ≡ list_any (eqb n) ns
is_in-any n [] = refl
is_in-any n (m ∷ ns) = ap (λ (p : Bool). eqb n m || p) (is_in-any n ns)
