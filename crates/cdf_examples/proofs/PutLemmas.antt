-- What the acts of a put are that cuts nothing first, one after the other.
use Rattle.cdf_examples.proofs.Common.{Act, CutsFirst, FreesFirst, Gave, List, Nodes, PutsIndex, PutsLeaves, TakesFirst, Took, Variable, VariableShape, [], ap, cuts_before_put, false, filter, is_written, leaves_of, subst, sym, ℕ, ◌++◌, ◌∙◌, ◌∷◌, ◌≡◌}

-- the first act is this one, and then the others follow
pub record FirstTake (need : ℕ) (Then : ℕ → List Act → Type 0) (acts : List Act) : Type 0 where
  pub place : ℕ
  pub more : List Act
  pub acts_are : acts ≡ Took place need ∷ more
  pub rest : Then place more

pub first_take : (need : ℕ) (Then : ℕ → List Act → Type 0) (acts : List Act) → TakesFirst need Then acts → FirstTake need Then acts
first_take need Then [] t = absurd t
first_take need Then (Took place size ∷ more) t = record { place = place; more = more; acts_are = ap (λ (n : ℕ). Took place n ∷ more) t.0; rest = t.1 }
first_take need Then (Gave place size ∷ more) t = absurd t

pub record FirstFreed (place size : ℕ) (Then : List Act → Type 0) (acts : List Act) : Type 0 where
  pub more : List Act
  pub acts_are : acts ≡ Gave place size ∷ more
  pub rest : Then more

pub first_freed : (place size : ℕ) (Then : List Act → Type 0) (acts : List Act) → FreesFirst place size Then acts → FirstFreed place size Then acts
first_freed place size Then [] t = absurd t
first_freed place size Then (Took at need ∷ more) t = absurd t
first_freed place size Then (Gave at bytes ∷ more) t = record { more = more; acts_are = ap (λ (p : ℕ). Gave p bytes ∷ more) t.0 ∙ ap (λ (n : ℕ). Gave place n ∷ more) t.1; rest = t.2 }

-- nothing is cut first: the acts are those of the leaves that are written
pub puts_only : (b now : List ℕ) (v : Variable) (n : ℕ) (before after : VariableShape) (acts : List Act) → PutsIndex b now v n before after acts → cuts_before_put v n ≡ false
    → PutsLeaves b now v.rle after.vdr (filter (is_written v n) (leaves_of after.index)) before.index acts after.index
puts_only b now v n before after acts p none =
    let c = subst (CutsFirst b now v before after p.middle p.cut) none p.cuts in
    let all : acts ≡ p.put = p.acts_are ∙ ap (λ (cut : List Act). cut ++ p.put) c.1 in
    let of_middle : PutsLeaves b now v.rle after.vdr (filter (is_written v n) (leaves_of after.index)) before.index p.put after.index =
    subst (λ (index : Nodes). PutsLeaves b now v.rle after.vdr (filter (is_written v n) (leaves_of after.index)) index p.put after.index) c.0 p.puts in
    subst (λ (list : List Act). PutsLeaves b now v.rle after.vdr (filter (is_written v n) (leaves_of after.index)) before.index list after.index) (sym all) of_middle
