-- Pages become changed ones, one after another.
use Rattle.cdf_pages.proofs.Common.{All, AllServe, All-cons, All-head, All-tail, Backed, Bool, Contains-promoted, Contains-put_entries, Covers, Grown, IsDistinct, List, LruCache, None, Old, Option, Owned, RemovesSome, Serves, Some, [], ap, arith, byte_of, cases_lt, cond, eq-eqb, eqb-true, false, inl, inr, is_some, keys_of, length, lookup, nat_eq, part_from, part_upto, promoted, put_entries, refl, remove_entry, removed, subst, suc, sym, true, zero, ℕ, ◌+◌, ◌-◌, ◌/◌, ◌<◌, ◌∙◌, ◌∷◌, ◌≡◌, ◌≤◌, ◌⊎◌}
use Rattle.std.proofs.Common.{IsSome}
use Rattle.std.specs.Cmp.{nat_eq_equiv}
use Rattle.std.proofs.lemmas.Map.{lookup-remove_entry}
use Rattle.std.proofs.lemmas.Map.Views.{lookup-from_Contains, Contains-from_lookup}
use Rattle.cdf_pages.proofs.Filling.{false_not_true}

pub grown_refl : (file : List ℕ) (n : ℕ) (m : Option ℕ) (p : ℕ → Option (List ℕ)) (k : ℕ → Option (Option (List Old))) → Grown file n m p k p k
grown_refl file n m p k = record { same = λ i lt. refl; less = λ q e. e; was = λ s q. refl }

pub grown_trans : (file : List ℕ) (n : ℕ) (m : Option ℕ) (p p' p'' : ℕ → Option (List ℕ)) (k k' k'' : ℕ → Option (Option (List Old))) → Grown file n m p k p' k' → Grown file n m p' k' p'' k'' → Grown file n m p k p'' k''
grown_trans file n m p p' p'' k k' k'' g h =
    record { same = λ i lt. h.same i lt ∙ g.same i lt; less = λ q e. g.less q (h.less q e); was = λ s q. h.was s q ∙ g.was s q }

pub removed_more : {X : Type 0} (k n : ℕ) (es : List (ℕ × X)) → removed k (suc n) es ≡ remove_entry (nat_eq (k + n)) (removed k n es)
unfolding removed
removed_more k zero es = ap (λ q. remove_entry (nat_eq q) es) (omega arith)
removed_more k (suc n) es = removed_more (suc k) n (remove_entry (nat_eq k) es) ∙ ap (λ q. remove_entry (nat_eq q) (removed (suc k) n (remove_entry (nat_eq k) es))) (omega arith)

-- one page more leaves the cache
pub removed_next : {X : Type 0} (from k : ℕ) (es es' es'' : List (ℕ × X)) → from ≤ k → es' ≡ removed from (k - from) es → es'' ≡ remove_entry (nat_eq k) es' → es'' ≡ removed from (k + 1 - from) es
removed_next from k es es' es'' low e h =
    h ∙ ap (remove_entry (nat_eq k)) e ∙ ap (λ q. remove_entry (nat_eq q) (removed from (k - from) es)) (omega arith)
    ∙ sym (removed_more from (k - from) es) ∙ ap (λ n. removed from n es) (omega arith)

pub owned_more : (m : Option ℕ) (p p' : ℕ → Option (List ℕ)) (k k' : ℕ → Option (Option (List Old))) (place end from at : ℕ) → Owned m p k place end from at → ((q : ℕ) → p' q ≡ None → p q ≡ None) → ((q : ℕ) → (q ≡ at → ⊥) → k' q ≡ k q)
    → (p' at ≡ None → ⊥) → (IsSome m → Covers (k' at) (part_from place at) (part_upto end at)) → Owned m p' k' place end from (at + 1)
owned_more m p p' k k' place end from at h less others there ready = record {
  there = λ q lo hi e. elim (cases_lt q at) [ inl before ↦ h.there q lo before (less q e) | inr after ↦ (let same : q ≡ at = omega arith in there (subst (λ x. p' x ≡ None) same e)) ];
  ready = λ q lo hi s. elim (cases_lt q at) [
    | inl before ↦ subst (λ o. Covers o (part_from place q) (part_upto end q)) (sym (others q (λ e. omega (arith, before, e)))) (h.ready q lo before s)
    | inr after ↦ (let same : q ≡ at = omega arith in subst (λ x. Covers (k' x) (part_from place x) (part_upto end x)) (sym same) (ready s))
  ];
}

pub some_not_none : {X : Type 0} (o : Option X) → IsSome o → o ≡ None → ⊥
some_not_none o s e = false_not_true (sym (ap is_some e) ∙ s)

pub backed_grown : (p p' : ℕ → Option (List ℕ)) (long n : ℕ) → Backed p long n → ((q : ℕ) → p' q ≡ None → p q ≡ None) → Backed p' long n
backed_grown p p' long n b less i lt e = b i lt (less (i / 65536) e)

pub grown_next : (file file' : List ℕ) (n n' : ℕ) (m m' : Option ℕ) (p p' p'' : ℕ → Option (List ℕ)) (k k' k'' : ℕ → Option (Option (List Old))) → file' ≡ file → n' ≡ n → m' ≡ m
    → Grown file n m p k p' k' → Grown file' n' m' p' k' p'' k'' → Grown file n m p k p'' k''
grown_next file file' n n' m m' p p' p'' k k' k'' ef en em g h = record {
  same = λ i lt. subst (λ f. byte_of p'' f i ≡ byte_of p' f i) ef (h.same i (omega (arith, lt, en))) ∙ g.same i lt;
  less = λ q e. g.less q (h.less q e);
  was = λ s q. h.was (subst IsSome (sym em) s) q ∙ g.was s q;
}

pub others_next : (p p' p'' : ℕ → Option (List ℕ)) (from k : ℕ) → from ≤ k → ((q : ℕ) → (q < from) ⊎ (k ≤ q) → p' q ≡ p q) → ((q : ℕ) → (q ≡ k → ⊥) → p'' q ≡ p' q) → (q : ℕ) → (q < from) ⊎ (k + 1 ≤ q) → p'' q ≡ p q
others_next p p' p'' from k low g h q (inl below) = h q (λ e. omega (arith, below, low, e)) ∙ g q (inl below)
others_next p p' p'' from k low g h q (inr above) = h q (λ e. omega (arith, above, e)) ∙ g q (inr (omega (arith, above)))

pub some_removed : {X : Type 0} (from k upto : ℕ) (es es' es'' : List (ℕ × X)) → from ≤ k → k < upto → es' ≡ removed from (k - from) es → (es'' ≡ es') ⊎ (es'' ≡ remove_entry (nat_eq k) es') → RemovesSome from (upto - from) es es''
some_removed from k upto es es' es'' low lt gone (inl stays) = record { count = k - from; most = omega arith; are = stays ∙ gone }
some_removed from k upto es es' es'' low lt gone (inr less) = record { count = k + 1 - from; most = omega arith; are = removed_next from k es es' es'' low gone less }

module _ {X : Type 0} (P : ℕ × X → Type 0) (test : ℕ → Bool) where
  pick : (b : Bool) (e : ℕ × X) (es es' : List (ℕ × X)) → P e → All P es → All P es' → All P (cond b es (e ∷ es'))
  pick true e es es' p h h' = h
  pick false e es es' p h h' = All-cons P e es' p h'

  pub All-remove_entry : (es : List (ℕ × X)) → All P es → All P (remove_entry test es)
  All-remove_entry [] h = h
  All-remove_entry (e ∷ es) h = let less = All-tail P e es h in pick (test e.0) e es (remove_entry test es) (All-head P e es h) less (All-remove_entry es less)

pub All-removed : {X : Type 0} (P : ℕ × X → Type 0) (k n : ℕ) (es : List (ℕ × X)) → All P es → All P (removed k n es)
unfolding removed
All-removed P k zero es h = h
All-removed P k (suc n) es h = All-removed P (suc k) n (remove_entry (nat_eq k) es) (All-remove_entry P (nat_eq k) es h)

module _ {X : Type 0} (k : ℕ) (es : List (ℕ × X)) (once : IsDistinct nat_eq (keys_of es)) where
  one : (x y : ℕ) → nat_eq k x ≡ true → nat_eq k y ≡ nat_eq x y
  one x y e = ap (λ z. nat_eq z y) (eqb-true k x e)

  after_removal : (q : ℕ) → lookup (nat_eq q) (remove_entry (nat_eq k) es) ≡ cond (nat_eq k q) None (lookup (nat_eq q) es)
  after_removal q = lookup-remove_entry nat_eq_equiv (nat_eq k) one q es once

  pub out_removed : lookup (nat_eq k) (remove_entry (nat_eq k) es) ≡ None
  out_removed = after_removal k ∙ ap (λ b. cond b None (lookup (nat_eq k) es)) (eq-eqb k k refl)

  some_cond : (b : Bool) (o : Option X) (p : X) → cond b None o ≡ Some p → o ≡ Some p
  some_cond true o p e = absurd (false_not_true (ap is_some e))
  some_cond false o p e = e

  pub fewer_removed : (q : ℕ) (p : X) → lookup (nat_eq q) (remove_entry (nat_eq k) es) ≡ Some p → lookup (nat_eq q) es ≡ Some p
  fewer_removed q p e = some_cond (nat_eq k q) (lookup (nat_eq q) es) p (sym (after_removal q) ∙ e)

fewer_none : {X : Type 0} (o o' : Option X) → ((p : X) → o' ≡ Some p → o ≡ Some p) → o ≡ None → o' ≡ None
fewer_none o None h e = refl
fewer_none o (Some p) h e = absurd (false_not_true (sym (ap is_some e) ∙ ap is_some (h p refl)))

pub out_next : {X : Type 0} (from k : ℕ) (es es' : List (ℕ × X)) → ((q : ℕ) → from ≤ q → q < k → lookup (nat_eq q) es ≡ None) → lookup (nat_eq k) es' ≡ None
    → ((q : ℕ) (p : X) → lookup (nat_eq q) es' ≡ Some p → lookup (nat_eq q) es ≡ Some p) → (q : ℕ) → from ≤ q → q < k + 1 → lookup (nat_eq q) es' ≡ None
out_next from k es es' out here fewer q lo hi = elim (cases_lt q k) [
  | inl before ↦ fewer_none (lookup (nat_eq q) es) (lookup (nat_eq q) es') (fewer q) (out q lo before)
  | inr after ↦ (let same : q ≡ k = omega arith in subst (λ x. lookup (nat_eq x) es' ≡ None) (sym same) here)
]

module _ {X : Type 0} (k : ℕ) (es es' : List (ℕ × X)) (once : IsDistinct nat_eq (keys_of es)) (is : es' ≡ remove_entry (nat_eq k) es) where
  pub out_by : lookup (nat_eq k) es' ≡ None
  out_by = ap (lookup (nat_eq k)) is ∙ out_removed k es once

  pub fewer_by : (q : ℕ) (p : X) → lookup (nat_eq q) es' ≡ Some p → lookup (nat_eq q) es ≡ Some p
  fewer_by q p h = fewer_removed k es once q p (sym (ap (lookup (nat_eq q)) is) ∙ h)

-- a page that is still in the cache was not touched
pub apart_by : {X : Type 0} (k : ℕ) (es' : List (ℕ × X)) (p p' : ℕ → Option (List ℕ)) → lookup (nat_eq k) es' ≡ None → ((q : ℕ) → (q ≡ k → ⊥) → p' q ≡ p q) → (q : ℕ) (x : X) → lookup (nat_eq q) es' ≡ Some x → p' q ≡ p q
apart_by k es' p p' out others q x e = others q (λ same. false_not_true (sym (ap is_some out) ∙ ap (λ z. is_some (lookup (nat_eq z) es')) (sym same) ∙ ap is_some e))

-- the invariants of an area after pages became changed ones
pub kept_backed : (p p' : ℕ → Option (List ℕ)) (file file' : List ℕ) (n n' : ℕ) → file' ≡ file → n' ≡ n → ((q : ℕ) → p' q ≡ None → p q ≡ None) → Backed p (length file) n → Backed p' (length file') n'
kept_backed p p' file file' n n' ef en less b i lt e = omega (arith, b i (omega (arith, lt, en)) (less (i / 65536) e), ap length ef)

pub was_backed : (p p' : ℕ → Option (List ℕ)) (file file' : List ℕ) (marked marked' : Option ℕ) (n n' : ℕ) → file' ≡ file → n' ≡ n → marked' ≡ marked → (IsSome marked → (q : ℕ) → p' q ≡ p q)
    → ((m : ℕ) → marked ≡ Some m → (m ≤ n) × Backed p (length file) m) → (m : ℕ) → marked' ≡ Some m → (m ≤ n') × Backed p' (length file') m
was_backed p p' file file' marked marked' n n' ef en em same b m e =
    let is : marked ≡ Some m = sym em ∙ e in
    let old = b m is in
    (omega (arith, old.0, en), kept_backed p p' file file' m m ef refl (λ q none. sym (same (ap is_some is) q) ∙ none) old.1)

-- what is kept of pages serves for the same file
pub serves_file : (lends : Bool) (file file' : List ℕ) (n n' k : ℕ) (kept : Option (List ℕ)) → file' ≡ file → n' ≡ n → Serves lends file n k kept → Serves lends file' n' k kept
serves_file lends file file' n n' k kept ef en serves = subst (λ (f : List ℕ). Serves lends f n' k kept) (sym ef) (subst (λ (m : ℕ). Serves lends file m k kept) (sym en) serves)

pub serves_same : (lends : Bool) (p : ℕ → Option (List ℕ)) (file file' : List ℕ) (n : ℕ) (es : List (ℕ × Option (List ℕ))) → file ≡ file' → AllServe lends p file n es → AllServe lends p file' n es
serves_same lends p file file' n es ef serves q kept e = let r = serves q kept e in (r.0, serves_file lends file file' n n q kept (sym ef) refl r.1)

pub kept_serves : (lends : Bool) (p p' : ℕ → Option (List ℕ)) (file file' : List ℕ) (n n' : ℕ) (es es' : List (ℕ × Option (List ℕ))) → file' ≡ file → n' ≡ n
    → ((q : ℕ) (x : Option (List ℕ)) → lookup (nat_eq q) es' ≡ Some x → lookup (nat_eq q) es ≡ Some x) → ((q : ℕ) (x : Option (List ℕ)) → lookup (nat_eq q) es' ≡ Some x → p' q ≡ p q)
    → AllServe lends p file n es → AllServe lends p' file' n' es'
kept_serves lends p p' file file' n n' es es' ef en fewer apart old q x e =
    let was = old q x (fewer q x e) in
    (apart q x e ∙ was.0, serves_file lends file file' n n' q x ef en was.1)

module _ {X : Type 0} (q : ℕ) (x : X) (es : List (ℕ × X)) (once : IsDistinct nat_eq (keys_of es)) where
  pub promoted_old : (k : ℕ) → lookup (nat_eq q) (promoted (nat_eq k) es) ≡ Some x → lookup (nat_eq q) es ≡ Some x
  promoted_old k e = lookup-from_Contains nat_eq_equiv q x es once (Contains-promoted (nat_eq k) es (q, x) (Contains-from_lookup eqb-true q x (promoted (nat_eq k) es) e))

pub put_old : {X : Type 0} (q : ℕ) (x : X) (c : LruCache ℕ X) (k : ℕ) (v : X) → IsDistinct nat_eq (keys_of c.entries) → lookup (nat_eq q) (put_entries nat_eq c k v) ≡ Some x → (lookup (nat_eq q) c.entries ≡ Some x) ⊎ ((q ≡ k) × (x ≡ v))
put_old q x c k v once e = elim (Contains-put_entries nat_eq c k v (q, x) (Contains-from_lookup eqb-true q x (put_entries nat_eq c k v) e)) [
  | inl old ↦ inl (lookup-from_Contains nat_eq_equiv q x c.entries once old)
  | inr put ↦ inr (elim put.1 [ inl same ↦ same | inr kept ↦ sym (eqb-true k q kept.2) ], put.0)
]
