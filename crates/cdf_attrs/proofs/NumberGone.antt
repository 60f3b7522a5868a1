-- A number that stands nowhere in a chain: there was none, or its entry went.
use Rattle.cdf_attrs.proofs.Common.{Bool, Chain, Distinct, DropsNumber, EntryKind, Good, In, IsOfAttribute, KnownEntries, KnowsEntries, List, None, Some, [], ap, arith, cond, eq-eqb, false, inl, inr, length, lt-ltb, nums, position, position-Some, position_or_len, refl, remove, slice_index, subst, suc, sym, true, zero, ℕ, ◌+◌, ◌<◌, ◌==◌, ◌∙◌, ◌∷◌, ◌≡◌}
use Rattle.std.proofs.Common.{not, eqb-true}
use Rattle.cdf_attrs.proofs.AttributeChain.{index_in}
use Rattle.cdf_attrs.proofs.EntryChains.{entries_differ, members}
use Rattle.cdf_attrs.proofs.EntryTakenAt.{places_are}

bound : (here : Bool) (n m : ℕ) → n < m → cond (not here) (1 + n) 0 < suc m
bound true n m lt = omega arith
bound false n m lt = omega arith

found_in : (num : ℕ) (xs : List ℕ) → In num xs → position_or_len (λ n. n == num) xs < length xs
found_in num [] i = absurd i
found_in num (x ∷ xs) (inl e) = subst (λ (y : ℕ). position_or_len (λ n. n == num) (y ∷ xs) < suc (length xs)) e (rw (eq-eqb num num refl) (omega arith))
found_in num (x ∷ xs) (inr i) = bound (x == num) (position_or_len (λ n. n == num) xs) (length xs) (found_in num xs i)

pub none_in : (num : ℕ) (xs : List ℕ) → position (λ n. n == num) xs ≡ None → In num xs → ⊥
none_in num xs none i =
    let some : position (λ n. n == num) xs ≡ Some (position_or_len (λ n. n == num) xs) = rw (lt-ltb _ _ (found_in num xs i)) refl in
    let no : Some (position_or_len (λ n. n == num) xs) ≡ None = sym some ∙ none in
    absurd cc

gone_at : (xs : List ℕ) (i : ℕ) → i < length xs → Distinct xs → In (slice_index xs i) (remove xs i) → ⊥
gone_at [] i lt d j = absurd (omega arith)
gone_at (x ∷ xs) zero lt d j = d.0 j
gone_at (x ∷ xs) (suc i) lt d (inl e) = d.0 (subst (λ (y : ℕ). In y xs) e (index_in xs i (omega arith)))
gone_at (x ∷ xs) (suc i) lt d (inr j) = gone_at xs i (omega arith) d.1 j

-- the entry of the number was taken out of the numbers, which differ
taken_out : (num : ℕ) (xs : List ℕ) (i : ℕ) → Distinct xs → position (λ n. n == num) xs ≡ Some i → In num (remove xs i) → ⊥
taken_out num xs i d at j =
    let p = position-Some (λ n. n == num) xs i 0 at in
    let is : num ≡ slice_index xs i = sym (eqb-true _ _ p.1) in
    gone_at xs i p.0 d (subst (λ (n : ℕ). In n (remove xs i)) is j)

pub numbers_differ : {b : List ℕ} (good : Good b) {chain : Chain} (of : IsOfAttribute b chain) (es : KnownEntries) → es.chain ≡ chain → KnowsEntries b es → Distinct es.numbers
numbers_differ {b} good {chain} of es is knows = subst Distinct (sym (knows.numbers_are ∙ ap (nums b) (places_are good of es is knows ∙ members b good chain of))) (entries_differ b good chain of)

pub number_gone : {b now : List ℕ} {kind : EntryKind} {adr num : ℕ} {entries left : KnownEntries} → Distinct entries.numbers → DropsNumber b now kind adr entries num left → In num left.numbers → ⊥
number_gone {num = num} {entries = entries} d drops = elim drops [
  | inl none ↦ λ i. none_in num entries.numbers none.none (subst (λ (e : KnownEntries). In num e.numbers) none.left_is i)
  | inr takes ↦ λ i. taken_out num entries.numbers takes.index d takes.at (subst (λ (e : KnownEntries). In num e.numbers) takes.left_is i)
]
