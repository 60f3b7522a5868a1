-- The numbers of the pages in a cache.
use Rattle.cdf_pages.proofs.Common.{Contains-lookup_entry, List, LruCache, None, Option, Some, [], ap, arith, cases_Bool, cond, eq-eqb, eqb-true, false, inl, inr, is_some, keys_of, length, list_any, lookup, lookup-lookup_entry, lookup_entry, nat_eq, option_map, option_map_or, promoted, put_entries, refl, remove_entry, removed, same_Some, slice_get, suc, sym, take, take_all, to_front, true, without, without_from, zero, ℕ, ◌+◌, ◌-◌, ◌∙◌, ◌∷◌, ◌≡◌, ◌≤◌}
use Rattle.std.proofs.Common.{IsSome}
use Rattle.std.proofs.lemmas.Map.Made.{is_some-lookup}
use Rattle.std.proofs.lemmas.Map.Entries.{length-keys_of}

pub keys-removed : {X : Type 0} (k : ℕ) (es : List (ℕ × X)) → keys_of (remove_entry (nat_eq k) es) ≡ without k (keys_of es)
keys-removed k [] = refl
keys-removed k (e ∷ es) = elim (nat_eq k e.0) as (λ b. keys_of (cond b es (e ∷ remove_entry (nat_eq k) es)) ≡ cond b (keys_of es) (e.0 ∷ without k (keys_of es))) [
  | true ↦ refl
  | false ↦ ap (λ (l : List ℕ). e.0 ∷ l) (keys-removed k es)
]

pub keys-removed_from : {X : Type 0} (k n : ℕ) (es : List (ℕ × X)) → keys_of (removed k n es) ≡ without_from k n (keys_of es)
unfolding removed without_from
keys-removed_from k zero es = refl
keys-removed_from k (suc n) es = keys-removed_from (suc k) n (remove_entry (nat_eq k) es) ∙ ap (without_from (suc k) n) (keys-removed k es)

-- a page that is not there is not missed
pub without_none : (k : ℕ) (ns : List ℕ) → list_any (nat_eq k) ns ≡ false → without k ns ≡ ns
without_none k [] e = refl
without_none k (n ∷ ns) e = (elim (nat_eq k n) as (λ b. (b ≡ true → ⊥) → (b ≡ false → list_any (nat_eq k) ns ≡ false) → cond b ns (n ∷ without k ns) ≡ n ∷ ns) [
  | true ↦ λ no rest. absurd (no refl)
  | false ↦ λ no rest. ap (λ (l : List ℕ). n ∷ l) (without_none k ns (rest refl))
]) (λ b. cc) (λ b. rw b at e)

-- one that is there leaves room
pub length-without : (k : ℕ) (ns : List ℕ) → list_any (nat_eq k) ns ≡ true → length (without k ns) + 1 ≡ length ns
length-without k [] e = cc
length-without k (n ∷ ns) e = elim (cases_Bool (nat_eq k n)) [
  | inl same ↦ rw same (omega arith)
  | inr apart ↦ (let rest = length-without k ns (rw apart at e) in rw apart (omega (arith, rest)))
]

map_take : {X : Type 0} (n : ℕ) (es : List (ℕ × X)) → keys_of (take n es) ≡ take n (keys_of es)
map_take zero es = refl
map_take (suc n) [] = refl
map_take (suc n) (e ∷ es) = ap (λ (l : List ℕ). e.0 ∷ l) (map_take n es)

-- whether a page is there
pub is_there : {X : Type 0} (k : ℕ) (es : List (ℕ × X)) → list_any (nat_eq k) (keys_of es) ≡ is_some (lookup (nat_eq k) es)
is_there k es = sym (is_some-lookup (nat_eq k) es)

entry_there : {X : Type 0} (k : ℕ) (es : List (ℕ × X)) → IsSome (lookup (nat_eq k) es) → (e : ℕ × X) × (lookup_entry (nat_eq k) es ≡ Some e)
entry_there k [] s = cc
entry_there k (e ∷ es) s = elim (cases_Bool (nat_eq k e.0)) [
  | inl same ↦ (e, rw same refl)
  | inr apart ↦ (let rest = entry_there k es (rw apart at s) in (rest.0, rw apart rest.1))
]

no_entry : {X : Type 0} (k : ℕ) (es : List (ℕ × X)) → lookup (nat_eq k) es ≡ None → lookup_entry (nat_eq k) es ≡ None
no_entry k [] s = refl
no_entry k (e ∷ es) s = elim (cases_Bool (nat_eq k e.0)) [
  | inl same ↦ (let no : Some e.1 ≡ None = rw same at s in cc)
  | inr apart ↦ rw apart (no_entry k es (rw apart at s))
]

-- a page that is there comes to the front
pub keys-promoted : {X : Type 0} (k : ℕ) (es : List (ℕ × X)) → IsSome (lookup (nat_eq k) es) → keys_of (promoted (nat_eq k) es) ≡ k ∷ without k (keys_of es)
keys-promoted {X = X} k es s =
    let e = entry_there k es s in
    let is : nat_eq k e.0.0 ≡ true = (Contains-lookup_entry (nat_eq k) es e.0 e.1).1 in
    ap (λ (o : Option (ℕ × X)). keys_of (option_map_or (λ f. f ∷ remove_entry (nat_eq k) es) o es)) e.1
    ∙ (λ i. sym (eqb-true k e.0.0 is) i ∷ keys-removed k es i)

pub used_there : {X : Type 0} (k : ℕ) (es : List (ℕ × X)) → IsSome (lookup (nat_eq k) es) → length es ≤ 256 → keys_of (promoted (nat_eq k) es) ≡ to_front k (keys_of es)
used_there k es s few =
    let room = length-without k (keys_of es) (is_there k es ∙ s) in
    keys-promoted k es s ∙ sym (take_all 256 (k ∷ without k (keys_of es)) (omega (arith, room, few, length-keys_of es)))

-- one that is not there comes to the front, and pushes the last out of a full cache
pub used_missing : {X : Type 0} (k : ℕ) (c : LruCache ℕ X) (v : X) → c.cap ≡ 256 → lookup (nat_eq k) c.entries ≡ None → keys_of (put_entries nat_eq c k v) ≡ to_front k (keys_of c.entries)
used_missing {X = X} k c v cap none =
    let gone : list_any (nat_eq k) (keys_of c.entries) ≡ false = is_there k c.entries ∙ ap is_some none in
    ap (λ (o : Option (ℕ × X)). keys_of (option_map_or (λ e. (e.0, v) ∷ remove_entry (nat_eq k) c.entries) o ((k, v) ∷ take (c.cap - 1) c.entries))) (no_entry k c.entries none)
    ∙ ap (λ (l : List ℕ). k ∷ l) (map_take (c.cap - 1) c.entries ∙ ap (λ n. take (n - 1) (keys_of c.entries)) cap)
    ∙ sym (ap (λ (l : List ℕ). take 256 (k ∷ l)) (without_none k (keys_of c.entries) gone))

-- a page that is not there is not missed
pub removed_none : {X : Type 0} (k : ℕ) (es : List (ℕ × X)) → lookup (nat_eq k) es ≡ None → remove_entry (nat_eq k) es ≡ es
removed_none k [] none = refl
removed_none k (e ∷ es) none = elim (cases_Bool (nat_eq k e.0)) [
  | inl same ↦ (let no : Some e.1 ≡ None = rw same at none in cc)
  | inr apart ↦ rw apart (ap (λ l. e ∷ l) (removed_none k es (rw apart at none)))
]

-- a page stays in the cache while others leave it
lookup-apart : {X : Type 0} (q k : ℕ) (es : List (ℕ × X)) → (k ≡ q → ⊥) → lookup (nat_eq q) (remove_entry (nat_eq k) es) ≡ lookup (nat_eq q) es
lookup-apart q k [] ne = refl
lookup-apart q k (e ∷ es) ne = elim (cases_Bool (nat_eq k e.0)) [
  | inl here ↦ elim (cases_Bool (nat_eq q e.0)) [
    | inl same ↦ absurd (ne (eqb-true k e.0 here ∙ sym (eqb-true q e.0 same)))
    | inr apart ↦ rw (here, apart) refl
  ]
  | inr other ↦ rw other (ap (λ o. cond (nat_eq q e.0) (Some e.1) o) (lookup-apart q k es ne))
]

pub lookup-removed : {X : Type 0} (q k n : ℕ) (es : List (ℕ × X)) → k + n ≤ q → lookup (nat_eq q) (removed k n es) ≡ lookup (nat_eq q) es
unfolding removed
lookup-removed q k zero es le = refl
lookup-removed q k (suc n) es le = lookup-removed q (suc k) n (remove_entry (nat_eq k) es) (omega arith) ∙ lookup-apart q k es (λ e. omega arith)

-- a page that is the first one is there, and stays the first one
same_number : (k : ℕ) → nat_eq k k ≡ true
same_number k = eq-eqb k k refl

pub first_there : {X : Type 0} (k : ℕ) (v : X) (es : List (ℕ × X)) → slice_get es 0 ≡ Some (k, v) → lookup (nat_eq k) es ≡ Some v
first_there k v [] e = cc
first_there k v (f ∷ es) e = rw (same_Some f (k, v) e) (rw (same_number k) refl)

pub first_stays : {X : Type 0} (k : ℕ) (v : X) (es : List (ℕ × X)) → slice_get es 0 ≡ Some (k, v) → length es ≤ 256 → to_front k (keys_of es) ≡ keys_of es
first_stays k v [] e few = cc
first_stays k v (f ∷ es) e few = rw (same_Some f (k, v) e) (rw (same_number k) (take_all 256 (k ∷ keys_of es) (omega (arith, few, length-keys_of es))))

-- a page that comes to the front stands there
pub front_promoted : {X : Type 0} (k : ℕ) (es : List (ℕ × X)) (v : X) → lookup (nat_eq k) es ≡ Some v → slice_get (promoted (nat_eq k) es) 0 ≡ Some (k, v)
front_promoted {X = X} k es v there =
    let e = entry_there k es (ap is_some there) in
    let is : nat_eq k e.0.0 ≡ true = (Contains-lookup_entry (nat_eq k) es e.0 e.1).1 in
    let value : e.0.1 ≡ v = same_Some e.0.1 v (ap (option_map (λ (f : ℕ × X). f.1)) (sym e.1) ∙ lookup-lookup_entry (nat_eq k) es ∙ there) in
    ap (λ (o : Option (ℕ × X)). slice_get (option_map_or (λ f. f ∷ remove_entry (nat_eq k) es) o es) 0) e.1
    ∙ (λ i. Some (sym (eqb-true k e.0.0 is) i, value i))

pub front_value : {X : Type 0} (k : ℕ) (es : List (ℕ × X)) (v : X) (f : ℕ × X) → Some f ≡ slice_get (promoted (nat_eq k) es) 0 → lookup (nat_eq k) es ≡ Some v → f.1 ≡ v
front_value {X = X} k es v f first there = ap (λ (e : ℕ × X). e.1) (same_Some f (k, v) (first ∙ front_promoted k es v there))
