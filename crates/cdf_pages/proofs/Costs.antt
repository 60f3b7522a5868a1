-- What reading and writing pages one after another costs, and the clean pages that it leaves.
use Rattle.cdf_pages.proofs.Common.{Bool, Changes, ChangesSome, IsPageOf, List, None, Option, RemovesSome, Some, TakesAtMost, ap, arith, cases_lt, cost_of_reading, cost_of_writing, false, inl, inr, is_in, is_some, keys_of, min, nat_eq, page_cost, pages_in, refl, removed, subst, suc, sym, true, used, used_from, without_from, zero, ℕ, ◌%◌, ◌*◌, ◌+◌, ◌-◌, ◌/◌, ◌<◌, ◌∙◌, ◌≡◌, ◌≤◌, ◌⊎◌}
use Rattle.cdf_pages.proofs.Keys.{keys-removed_from}

-- ---- pages of a range

-- a read or a write goes on with one page
pub page_next : (place done count n : ℕ) → done < n → (0 < done → done < n → (place + done) % 65536 ≡ 0) → count ≡ min (n - done) (65536 - (place + done) % 65536) → pages_in place (done + count) ≡ suc (pages_in place done)
page_next place done count n lt aligned e = elim (cases_lt 0 done) [
  | inl some ↦ (let at : (place + done) % 65536 ≡ 0 = aligned some lt in omega arith)
  | inr none ↦ (let at : done ≡ 0 = omega arith in omega arith)
]

pub page_now : (place done n : ℕ) → done < n → (0 < done → done < n → (place + done) % 65536 ≡ 0) → place / 65536 + pages_in place done ≡ (place + done) / 65536
page_now place done n lt aligned = elim (cases_lt 0 done) [
  | inl some ↦ (let at : (place + done) % 65536 ≡ 0 = aligned some lt in omega arith)
  | inr none ↦ (let at : done ≡ 0 = omega arith in omega arith)
]

pub pages_grow : (place m n : ℕ) → m ≤ n → pages_in place m ≤ pages_in place n
pages_grow place m n le = omega arith

pub pages_between : (place n : ℕ) → 0 < n → (place + (n - 1)) / 65536 + 1 - place / 65536 ≡ pages_in place n
pages_between place n some = omega arith

-- ---- reading

pub used_next : (changed : ℕ → Bool) (k n : ℕ) (clean : List ℕ) → used_from changed k (suc n) clean ≡ used changed (k + n) (used_from changed k n clean)
unfolding used_from
used_next changed k zero clean = ap (λ m. used changed m clean) (omega arith)
used_next changed k (suc n) clean = used_next changed (suc k) n (used changed k clean) ∙ ap (λ m. used changed m (used_from changed (suc k) n (used changed k clean))) (omega arith)

pub read_cost_next : (changed : ℕ → Bool) (clean : List ℕ) (long k n : ℕ) → cost_of_reading changed clean long k (suc n) ≡ cost_of_reading changed clean long k n + page_cost changed (used_from changed k n clean) long (k + n)
unfolding used_from cost_of_reading
read_cost_next changed clean long k zero =
    let e : k ≡ k + 0 = omega arith in
    let at : page_cost changed clean long k ≡ page_cost changed clean long (k + 0) = ap (page_cost changed clean long) e in
    omega (arith, at)
read_cost_next changed clean long k (suc n) =
    let rest = read_cost_next changed (used changed k clean) long (suc k) n in
    let e : suc k + n ≡ k + suc n = omega arith in
    let at = ap (page_cost changed (used_from changed (suc k) n (used changed k clean)) long) e in
    omega (arith, rest, at)

pub read_cost_grows : (changed : ℕ → Bool) (clean : List ℕ) (long k m n : ℕ) → m ≤ n → cost_of_reading changed clean long k m ≤ cost_of_reading changed clean long k n
unfolding cost_of_reading
read_cost_grows changed clean long k zero n le = omega arith
read_cost_grows changed clean long k (suc m) zero le = absurd (omega (arith, le))
read_cost_grows changed clean long k (suc m) (suc n) le = let rest = read_cost_grows changed (used changed k clean) long (suc k) m n (omega (arith, le)) in omega (arith, rest)

-- ---- writing

pub write_cost_next : (changed : ℕ → Bool) (clean : List ℕ) (long k n : ℕ) → cost_of_writing changed clean long k (suc n) ≡ cost_of_writing changed clean long k n + page_cost changed clean long (k + n)
unfolding cost_of_writing
write_cost_next changed clean long k zero =
    let e : k ≡ k + 0 = omega arith in
    let at : page_cost changed clean long k ≡ page_cost changed clean long (k + 0) = ap (page_cost changed clean long) e in
    omega (arith, at)
write_cost_next changed clean long k (suc n) =
    let rest = write_cost_next changed clean long (suc k) n in
    let e : suc k + n ≡ k + suc n = omega arith in
    let at = ap (page_cost changed clean long) e in
    omega (arith, rest, at)

pub write_cost_grows : (changed : ℕ → Bool) (clean : List ℕ) (long k m n : ℕ) → m ≤ n → cost_of_writing changed clean long k m ≤ cost_of_writing changed clean long k n
unfolding cost_of_writing
write_cost_grows changed clean long k zero n le = omega arith
write_cost_grows changed clean long k (suc m) zero le = absurd (omega (arith, le))
write_cost_grows changed clean long k (suc m) (suc n) le = let rest = write_cost_grows changed clean long (suc k) m n (omega (arith, le)) in omega (arith, rest)

-- ---- counts of bytes

pub takes_same : (a b : Option ℕ) (n : ℕ) → b ≡ a → TakesAtMost a b n
takes_same None b n e = tt
takes_same (Some t) b n e = subst (λ o. TakesAtMost (Some t) o n) (sym e) (omega arith)

pub takes_then : (a b c : Option ℕ) (m n : ℕ) → TakesAtMost a b m → TakesAtMost b c n → TakesAtMost a c (m + n)
takes_then None b c m n h k = tt
takes_then (Some t) None c m n h k = absurd h
takes_then (Some t) (Some u) None m n h k = absurd k
takes_then (Some t) (Some u) (Some v) m n h k = omega (arith, h, k)

-- ---- pages become changed ones

in_range : (place n number : ℕ) → IsPageOf place n number → (place / 65536 ≤ number) × (number < (place + (n - 1)) / 65536 + 1)
in_range place n number p =
    let low = p.1 in
    let high = p.2 in
    let at = p.3 in
    (omega (arith, low, at), omega (arith, high, at))

page_of : (place n number : ℕ) → 0 < n → place / 65536 ≤ number → number < (place + (n - 1)) / 65536 + 1 → IsPageOf place n number
page_of place n number some low high = elim (cases_lt (place / 65536) number) [
  | inl after ↦ (number * 65536, omega arith, omega arith, omega arith)
  | inr first ↦ (place, omega arith, omega arith, omega arith)
]

apart : (place n number : ℕ) → 0 < n → (IsPageOf place n number → ⊥) → (number < place / 65536) ⊎ ((place + (n - 1)) / 65536 + 1 ≤ number)
apart place n number some out = elim (cases_lt number (place / 65536)) [
  | inl before ↦ inl before
  | inr from_ ↦ elim (cases_lt number ((place + (n - 1)) / 65536 + 1)) [
    | inl within ↦ absurd (out (page_of place n number some from_ within))
    | inr after ↦ inr after
  ]
]

some_by : {X : Type 0} (o : Option X) → (o ≡ None → ⊥) → is_some o ≡ true
some_by None h = absurd (h refl)
some_by (Some x) h = refl

none_by : {X : Type 0} (o : Option X) → is_some o ≡ true → o ≡ None → ⊥
none_by None e h = (let no : false ≡ true = e in cc)
none_by (Some x) e h = cc

module _ {X : Type 0} (p p' : ℕ → Option (List ℕ)) (es es' : List (ℕ × X)) (place n : ℕ) where
  pub changes_some : 0 < n → ((q : ℕ) → (q < place / 65536) ⊎ ((place + (n - 1)) / 65536 + 1 ≤ q) → p' q ≡ p q) → ((q : ℕ) → p' q ≡ None → p q ≡ None)
      → RemovesSome (place / 65536) ((place + (n - 1)) / 65536 + 1 - place / 65536) es es' → ChangesSome (is_in p) (is_in p') (keys_of es) (keys_of es') place n
  changes_some some others less gone = record {
    more = λ q s. some_by (p' q) (λ e. none_by (p q) s (less q e));
    outside = λ q out. ap is_some (others q (apart place n q some out));
    count = gone.count;
    most = (let most = gone.most in omega (arith, most, pages_between place n some));
    gone = ap keys_of gone.are ∙ keys-removed_from (place / 65536) gone.count es;
  }

  pub changes : (p'' : ℕ → Option (List ℕ)) → 0 < n → ((q : ℕ) → (q < place / 65536) ⊎ ((place + (n - 1)) / 65536 + 1 ≤ q) → p' q ≡ p q)
      → ((q : ℕ) → place / 65536 ≤ q → q < (place + (n - 1)) / 65536 + 1 → p' q ≡ None → ⊥) → ((q : ℕ) → p'' q ≡ None → p' q ≡ None) → ((q : ℕ) → (q < place / 65536) ⊎ (place + n ≤ q * 65536) → p'' q ≡ p' q)
      → es' ≡ removed (place / 65536) ((place + (n - 1)) / 65536 + 1 - place / 65536) es → Changes (is_in p) (is_in p'') (keys_of es) (keys_of es') place n
  changes p'' some others there less rest gone = record {
    inside = λ q is. (let at = in_range place n q is in some_by (p'' q) (λ e. there q at.0 at.1 (less q e)));
    outside = λ q out. (let at = apart place n q some out in
        ap is_some (rest q (elim at [ inl before ↦ inl before | inr after ↦ inr (omega (arith, after)) ]) ∙ others q at));
    gone = ap keys_of gone ∙ keys-removed_from (place / 65536) _ es ∙ ap (λ m. without_from (place / 65536) m (keys_of es)) (pages_between place n some);
  }

pub some_length : (n : ℕ) → nat_eq n 0 ≡ false → 0 < n
some_length zero e = cc
some_length (suc n) e = omega arith

-- nothing is written
pub changes_none : (changed : ℕ → Bool) (clean : List ℕ) (place n : ℕ) → n ≡ 0 → Changes changed changed clean clean place n
unfolding without_from
changes_none changed clean place n none = record {
  inside = λ q is. (let low = is.1 in let high = is.2 in absurd (omega (arith, low, high, none)));
  outside = λ q out. refl;
  gone = (let e : pages_in place n ≡ 0 = omega arith in rw e refl);
}
