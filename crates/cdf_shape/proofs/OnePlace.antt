-- Two indices of one place are the same in each dimension that varies.
use Rattle.std.proofs.Common.{◌≡◌, ℕ, ◌+◌, ◌*◌, ◌/◌, ◌<◌, Bool, true, false, List, [], ◌∷◌, sym, ◌∙◌, ap, inl, inr, Some, arith}
use Rattle.std.proofs.Math.Nat.{mul_assoc, mul_comm}
use Rattle.std.proofs.lemmas.Nat.{div-mul-add}
use Rattle.cdf_model.specs.declared.head.Majority.{Majority}
use Rattle.cdf_model.specs.declared.head.Majority.TheVariants.{Row, Column}
use Rattle.cdf_model.specs.Place.{has_place, value_count, row_place, column_place, place}
use Rattle.cdf_shape.specs.Indices.{Differ}
use Rattle.cdf_shape.proofs.Places.{first_below, others_below, row_below}

-- a number is one quotient and one rest
same_quotient : (a b n r s : ℕ) → r < n → s < n → a * n + r ≡ b * n + s → a ≡ b
same_quotient a b n r s r_below s_below same = sym (div-mul-add a n r r_below) ∙ ap (λ x. x / n) same ∙ div-mul-add b n s s_below

row_apart : (dims : List ℕ) (varys : List Bool) (index other : List ℕ) → has_place dims index ≡ true → has_place dims other ≡ true → Differ index other varys → row_place dims varys index ≡ row_place dims varys other → ⊥
row_apart dims varys [] other has has_other differ same = differ
row_apart dims varys (i ∷ index) [] has has_other differ same = differ
row_apart dims [] (i ∷ index) (j ∷ other) has has_other differ same = differ
row_apart [] (v ∷ varys) (i ∷ index) (j ∷ other) has has_other differ same = cc
row_apart (n ∷ dims) (false ∷ varys) (i ∷ index) (j ∷ other) has has_other differ same =
    row_apart dims varys index other (others_below n i dims index has) (others_below n j dims other has_other) differ same
row_apart (n ∷ dims) (true ∷ varys) (i ∷ index) (j ∷ other) has has_other differ same =
    let count = value_count dims varys in
    let rest = others_below n i dims index has in
    let rest_other = others_below n j dims other has_other in
    let first : i ≡ j = same_quotient i j count _ _ (row_below dims varys index rest) (row_below dims varys other rest_other) same in
    elim differ [
      | inl apart ↦ apart first
      | inr later ↦ row_apart dims varys index other rest rest_other later (omega (arith, same, ap (λ x. x * count) first))
    ]

-- a factor of what comes before is one of the place
column_scaled : (n before : ℕ) (dims : List ℕ) (varys : List Bool) (index : List ℕ) → column_place (n * before) dims varys index ≡ n * column_place before dims varys index
column_scaled n before [] varys index = omega arith
column_scaled n before (size ∷ dims) [] index = omega arith
column_scaled n before (size ∷ dims) (false ∷ varys) [] = omega arith
column_scaled n before (size ∷ dims) (true ∷ varys) [] = omega arith
column_scaled n before (size ∷ dims) (false ∷ varys) (i ∷ index) = column_scaled n before dims varys index
column_scaled n before (size ∷ dims) (true ∷ varys) (i ∷ index) =
    rw (mul_assoc n before size) (omega (arith, column_scaled n (before * size) dims varys index))

column_after : (n : ℕ) (dims : List ℕ) (varys : List Bool) (index : List ℕ) → column_place (1 * n) dims varys index ≡ column_place 1 dims varys index * n
column_after n dims varys index = ap (λ m. column_place m dims varys index) (mul_comm 1 n) ∙ column_scaled n 1 dims varys index ∙ mul_comm n (column_place 1 dims varys index)

column_apart : (dims : List ℕ) (varys : List Bool) (index other : List ℕ) → has_place dims index ≡ true → has_place dims other ≡ true → Differ index other varys → column_place 1 dims varys index ≡ column_place 1 dims varys other → ⊥
column_apart dims varys [] other has has_other differ same = differ
column_apart dims varys (i ∷ index) [] has has_other differ same = differ
column_apart dims [] (i ∷ index) (j ∷ other) has has_other differ same = differ
column_apart [] (v ∷ varys) (i ∷ index) (j ∷ other) has has_other differ same = cc
column_apart (n ∷ dims) (false ∷ varys) (i ∷ index) (j ∷ other) has has_other differ same =
    column_apart dims varys index other (others_below n i dims index has) (others_below n j dims other has_other) differ same
column_apart (n ∷ dims) (true ∷ varys) (i ∷ index) (j ∷ other) has has_other differ same =
    let a = column_place 1 dims varys index in
    let b = column_place 1 dims varys other in
    let sum : a * n + i ≡ b * n + j = omega (arith, same, column_after n dims varys index, column_after n dims varys other) in
    let later_same : a ≡ b = same_quotient a b n i j (first_below n i dims index has) (first_below n j dims other has_other) sum in
    elim differ [
      | inl apart ↦ apart (omega (arith, sum, ap (λ x. x * n) later_same))
      | inr later ↦ column_apart dims varys index other (others_below n i dims index has) (others_below n j dims other has_other) later later_same
    ]

pub one_place : (majority : Majority) (dims : List ℕ) (varys : List Bool) (index other : List ℕ) → has_place dims index ≡ true → has_place dims other ≡ true → Differ index other varys → place majority dims varys index ≡ place majority dims varys other → ⊥
one_place Row dims varys index other has has_other differ same =
    let both : Some (row_place dims varys index) ≡ Some (row_place dims varys other) = rw (has, has_other) at same in
    row_apart dims varys index other has has_other differ (cc)
one_place Column dims varys index other has has_other differ same =
    let both : Some (column_place 1 dims varys index) ≡ Some (column_place 1 dims varys other) = rw (has, has_other) at same in
    column_apart dims varys index other has has_other differ (cc)
