-- What a cut takes, and where a record is taken after records were freed.
use Rattle.cdf_examples.proofs.Common.{Act, Among, AnyOf, AreActs, Bool, Each, Gave, IsNeeded, List, Nodes, SpaceLeft, Took, Variable, [], after_act, eq-eqb, false, filter, fits, if◌then◌else◌, inl, inr, list_any, nat_le, not, place_for, refl, sized_blocks, sized_nodes, subst, sym, taken, true, ℕ, ◌++◌, ◌==◌, ◌||◌, ◌∙◌, ◌∷◌, ◌≡◌, ◌≢◌}
use Rattle.cdf_examples.proofs.Refusing.{has, not_among}

clash : (p : Bool) → p ≡ true → p ≡ false → ⊥
clash true e f = absurd cc
clash false e f = absurd cc

-- each record that is taken is a node or a block of the index
pub each_needed : (v : Variable) (nodes : Nodes) (takes : List (ℕ × ℕ)) (take : ℕ × ℕ) → Each (IsNeeded v nodes) takes → Among take takes → IsNeeded v nodes take
each_needed v nodes [] take e i = absurd i
each_needed v nodes (other ∷ more) take e (inl q) = subst (IsNeeded v nodes) (sym q) e.0
each_needed v nodes (other ∷ more) take e (inr i) = each_needed v nodes more take e.1 i

abbrev pub has_place : ℕ → List (ℕ × ℕ) → Bool
has_place place list = list_any (λ other. place == other.0) list

block_place : (P : ℕ × ℕ → Type 0) (place : ℕ) (list : List (ℕ × ℕ)) → AnyOf (λ block. (place ≡ block.0) × P block) list → has_place place list ≡ true
block_place P place [] i = absurd i
block_place P place (other ∷ more) (inl e) = first (place == other.0) (has_place place more) (eq-eqb place other.0 e.0)
  where
    first : (p q : Bool) → p ≡ true → (p || q) ≡ true
    first true q e = refl
    first false q e = absurd cc
block_place P place (other ∷ more) (inr i) = last (place == other.0) (has_place place more) (block_place P place more i)
  where
    last : (p q : Bool) → q ≡ true → (p || q) ≡ true
    last true q e = refl
    last false q e = e

-- a record that is neither a node of its size nor a block is not needed
pub not_needed : (v : Variable) (nodes : Nodes) (take : ℕ × ℕ) → has take (sized_nodes nodes) ≡ false → has_place take.0 (sized_blocks v nodes) ≡ false → IsNeeded v nodes take → ⊥
not_needed v nodes take no_node no_block (inl i) = not_among take (sized_nodes nodes) no_node i
not_needed v nodes take no_node no_block (inr i) = clash (has_place take.0 (sized_blocks v nodes)) (block_place _ take.0 (sized_blocks v nodes) i) no_block

-- so none is taken where no node and no block stands
pub none_taken : (v : Variable) (nodes : Nodes) (takes : List (ℕ × ℕ)) (test : ℕ → Bool) → Each (IsNeeded v nodes) takes → list_any (λ pair. test pair.0) (sized_nodes nodes) ≡ false → list_any (λ pair. test pair.0) (sized_blocks v nodes) ≡ false
    → list_any (λ take. test take.0) takes ≡ false
none_taken v nodes [] test e no_node no_block = refl
none_taken v nodes (take ∷ more) test e no_node no_block =
    neither (test take.0) (list_any (λ take. test take.0) more) (one (test take.0) refl) (none_taken v nodes more test e.1 no_node no_block)
  where
    neither : (p q : Bool) → p ≡ false → q ≡ false → (p || q) ≡ false
    neither true q e f = absurd cc
    neither false q e f = f

    of_node : (list : List (ℕ × ℕ)) → list_any (λ pair. test pair.0) list ≡ false → Among take list → test take.0 ≡ true → ⊥
    of_node [] none i e = i
    of_node (other ∷ more) none (inl q) e = clash (list_any (λ pair. test pair.0) (other ∷ more)) (first (test other.0) _ (subst (λ (o : ℕ × ℕ). test o.0 ≡ true) q e)) none
      where
        first : (p q : Bool) → p ≡ true → (p || q) ≡ true
        first true q e = refl
        first false q e = absurd cc
    of_node (other ∷ more) none (inr i) e = of_node more (last (test other.0) _ none) i e
      where
        last : (p q : Bool) → (p || q) ≡ false → q ≡ false
        last true q f = absurd cc
        last false q f = f

    of_block : (P : ℕ × ℕ → Type 0) (list : List (ℕ × ℕ)) → list_any (λ pair. test pair.0) list ≡ false → AnyOf (λ block. (take.0 ≡ block.0) × P block) list → test take.0 ≡ true → ⊥
    of_block P [] none i e = i
    of_block P (other ∷ more) none (inl q) e = clash (list_any (λ pair. test pair.0) (other ∷ more)) (first (test other.0) _ (subst (λ (n : ℕ). test n ≡ true) q.0 e)) none
      where
        first : (p q : Bool) → p ≡ true → (p || q) ≡ true
        first true q e = refl
        first false q e = absurd cc
    of_block P (other ∷ more) none (inr i) e = of_block P more (last (test other.0) _ none) i e
      where
        last : (p q : Bool) → (p || q) ≡ false → q ≡ false
        last true q f = absurd cc
        last false q f = f

    one : (p : Bool) → test take.0 ≡ p → p ≡ false
    one false is = refl
    one true is = absurd (elim e.0 [ inl i ↦ of_node (sized_nodes nodes) no_node i is | inr i ↦ of_block _ (sized_blocks v nodes) no_block i is ])

-- ---- a record is taken after others are freed

-- an unused record fits, and none stands at the end
pub record HasFit (need : ℕ) (left : SpaceLeft) : Type 0 where
  pub fit : list_any (λ pair. fits need pair.1) left.listed ≡ true
  pub listed_before : Each (λ pair. pair.0 ≢ left.end) left.listed
  pub used_before : Each (λ pair. pair.0 ≢ left.end) left.used

place_before : (list : List (ℕ × ℕ)) (end need : ℕ) → list_any (λ pair. fits need pair.1) list ≡ true → Each (λ pair. pair.0 ≢ end) list → place_for list end need ≢ end
place_before [] end need fit before e = absurd cc
place_before ((place, size) ∷ more) end need fit before e = choose (fits need size) fit e (λ later. place_before more end need later before.1)
  where
    choose : (p : Bool) → (p || list_any (λ pair. fits need pair.1) more) ≡ true → (if p then place else place_for more end need) ≡ end → (list_any (λ pair. fits need pair.1) more ≡ true → place_for more end need ≢ end) → ⊥
    choose true fit e rest = before.0 e
    choose false fit e rest = rest fit e

pub each_filter : (P : ℕ × ℕ → Type 0) (test : ℕ × ℕ → Bool) (list : List (ℕ × ℕ)) → Each P list → Each P (filter test list)
each_filter P test [] e = tt
each_filter P test (pair ∷ more) e = choose (test pair) refl (each_filter P test more e.1)
  where
    choose : (p : Bool) → test pair ≡ p → Each P (filter test more) → Each P (filter test (pair ∷ more))
    choose true is later = let kept : filter test (pair ∷ more) ≡ pair ∷ filter test more = rw is refl in subst (Each P) (sym kept) (e.0, later)
    choose false is later = let gone : filter test (pair ∷ more) ≡ filter test more = rw is refl in subst (Each P) (sym gone) later

pub each_among : (P : ℕ × ℕ → Type 0) (pair : ℕ × ℕ) (list : List (ℕ × ℕ)) → Each P list → Among pair list → P pair
each_among P pair [] e i = absurd i
each_among P pair (other ∷ more) e (inl q) = subst P (sym q) e.0
each_among P pair (other ∷ more) e (inr i) = each_among P pair more e.1 i

fit_given : (need : ℕ) (left : SpaceLeft) (place size : ℕ) → Among (place, size) left.used → HasFit need left → HasFit need (after_act left (Gave place size))
fit_given need left place size i h = record {
  fit = longer (nat_le 28 size);
  listed_before = each_given (nat_le 28 size);
  used_before = each_filter (λ pair. pair.0 ≢ left.end) (λ pair. not (pair.0 == place)) left.used h.used_before;
}
  where
    longer : (p : Bool) → list_any (λ pair. fits need pair.1) (if p then (place, size) ∷ left.listed else left.listed) ≡ true
    longer true = last (fits need size) _ h.fit
      where
        last : (p q : Bool) → q ≡ true → (p || q) ≡ true
        last true q e = refl
        last false q e = e
    longer false = h.fit

    each_given : (p : Bool) → Each (λ pair. pair.0 ≢ left.end) (if p then (place, size) ∷ left.listed else left.listed)
    each_given true = (each_among (λ pair. pair.0 ≢ left.end) (place, size) left.used h.used_before i, h.listed_before)
    each_given false = h.listed_before

-- so it is not taken at the end
pub not_at_end : (cut : List Act) (place need : ℕ) (left : SpaceLeft) → taken cut ≡ [] → HasFit need left → AreActs left (cut ++ Took place need ∷ []) → place ≢ left.end
not_at_end [] place need left none h are e = place_before left.listed left.end need h.fit h.listed_before (sym are.0.1 ∙ e)
not_at_end (Took at size ∷ more) place need left none h are e = absurd cc
not_at_end (Gave at size ∷ more) place need left none h are e = not_at_end more place need (after_act left (Gave at size)) none (fit_given need left at size are.0 h) are.1 e
