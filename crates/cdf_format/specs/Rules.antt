-- Rules as rows of a table: a number, the place that a verdict gives, and whether the rule holds (own).
use Rattle.std.specs.Prelude.{◌≡◌, ◌⊎◌, ℕ, zero, suc, List, [], ◌∷◌, Bool, true, false}

pub record Row : Type 0 where
  pub rule : ℕ
  pub place : ℕ
  pub holds : Bool

abbrev pub row : ℕ → ℕ → Bool → Row
row rule place holds = record { rule = rule; place = place; holds = holds }

-- each rule holds
abbrev pub Hold : List Row → Type 0
Hold [] = Unit {0}
Hold (r ∷ rows) = (r.holds ≡ true) × Hold rows

-- a rule of this number is broken at this place
abbrev pub IsBroken : List Row → ℕ → ℕ → Type 0
IsBroken [] rule place = ⊥
IsBroken (r ∷ rows) rule place = ((r.rule ≡ rule) × (r.place ≡ place) × (r.holds ≡ false)) ⊎ IsBroken rows rule place

-- rules that are asked only where another one holds
abbrev pub asked : Bool → List Row → List Row
asked true rows = rows
asked false rows = []

-- each rule of each phase holds
abbrev pub AllHold : List (List Row) → Type 0
AllHold [] = Unit {0}
AllHold (rows ∷ phases) = Hold rows × AllHold phases

-- A phase is asked only where those before it hold: in the phase of this number a rule is broken, and those before it hold.
abbrev pub FirstBroken : List (List Row) → ℕ → ℕ → ℕ → Type 0
FirstBroken [] phase rule place = ⊥
FirstBroken (rows ∷ phases) zero rule place = IsBroken rows rule place
FirstBroken (rows ∷ phases) (suc phase) rule place = Hold rows × FirstBroken phases phase rule place
