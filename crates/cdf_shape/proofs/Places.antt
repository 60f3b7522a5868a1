-- An index that has a place, and the places of one index and of two.
use Rattle.std.proofs.Common.{◌≡◌, ℕ, suc, ◌+◌, ◌*◌, ◌<◌, ◌≤◌, Bool, true, false, List, [], ◌∷◌, length, drop, get_or, refl, ap, arith}
use Rattle.std.proofs.Math.Bool.{and-false}
use Rattle.std.proofs.Math.Nat.{mul-le-mul_left, mul-le-mul_right}
use Rattle.std.proofs.lemmas.Bool.Decides.{nat_tests}
use Rattle.std.proofs.lemmas.List.{drop_more}
use Rattle.std.specs.Prelude.{nat_lt}
use Rattle.cdf_model.specs.Place.{has_place, value_count, row_place, column_place}

pub first_below : (n i : ℕ) (dims index : List ℕ) → has_place (n ∷ dims) (i ∷ index) ≡ true → i < n
first_below n i dims index has = grind (arith, nat_tests)

pub others_below : (n i : ℕ) (dims index : List ℕ) → has_place (n ∷ dims) (i ∷ index) ≡ true → has_place dims index ≡ true
others_below n i dims index has = grind (arith, nat_tests)

pub length-index : (dims index : List ℕ) → has_place dims index ≡ true → length index ≡ length dims
length-index [] [] has = refl
length-index [] (i ∷ index) has = cc
length-index (n ∷ dims) [] has = cc
length-index (n ∷ dims) (i ∷ index) has = ap suc (length-index dims index (others_below n i dims index has))

-- an index of another length has no place
pub no_place : (dims index : List ℕ) → (length index ≡ length dims → ⊥) → has_place dims index ≡ false
no_place [] [] differ = absurd (differ refl)
no_place [] (i ∷ index) differ = refl
no_place (n ∷ dims) [] differ = refl
no_place (n ∷ dims) (i ∷ index) differ = rw (no_place dims index (λ same. differ (ap suc same))) (and-false (nat_lt i n))

-- a record has a value where an index has a place
pub count_positive : (dims : List ℕ) (varys : List Bool) (index : List ℕ) → has_place dims index ≡ true → 1 ≤ value_count dims varys
count_positive [] varys index has = omega arith
count_positive (n ∷ dims) [] index has = omega arith
count_positive (n ∷ dims) (v ∷ varys) [] has = cc
count_positive (n ∷ dims) (false ∷ varys) (i ∷ index) has = count_positive dims varys index (others_below n i dims index has)
count_positive (n ∷ dims) (true ∷ varys) (i ∷ index) has =
    let below : 1 ≤ n = omega (arith, first_below n i dims index has) in
    omega (arith, mul-le-mul_right (value_count dims varys) below, count_positive dims varys index (others_below n i dims index has))

-- the place of an index is below the number of values
pub row_below : (dims : List ℕ) (varys : List Bool) (index : List ℕ) → has_place dims index ≡ true → row_place dims varys index < value_count dims varys
row_below [] varys index has = omega arith
row_below (n ∷ dims) [] index has = omega arith
row_below (n ∷ dims) (v ∷ varys) [] has = cc
row_below (n ∷ dims) (false ∷ varys) (i ∷ index) has = row_below dims varys index (others_below n i dims index has)
row_below (n ∷ dims) (true ∷ varys) (i ∷ index) has =
    let below : i + 1 ≤ n = omega (arith, first_below n i dims index has) in
    omega (arith, mul-le-mul_right (value_count dims varys) below, row_below dims varys index (others_below n i dims index has))

pub column_below : (before : ℕ) (dims : List ℕ) (varys : List Bool) (index : List ℕ) → has_place dims index ≡ true → column_place before dims varys index + before ≤ before * value_count dims varys
column_below before [] varys index has = omega arith
column_below before (n ∷ dims) [] index has = omega arith
column_below before (n ∷ dims) (v ∷ varys) [] has = cc
column_below before (n ∷ dims) (false ∷ varys) (i ∷ index) has = column_below before dims varys index (others_below n i dims index has)
column_below before (n ∷ dims) (true ∷ varys) (i ∷ index) has =
    let below : i + 1 ≤ n = omega (arith, first_below n i dims index has) in
    omega (arith, mul-le-mul_left before below, column_below (before * n) dims varys index (others_below n i dims index has))

-- the place so far, in row majority, of an index of which these numbers are left, and the place of the whole
pub record RowLeft (dims : List ℕ) (varys : List Bool) (index : List ℕ) (place whole : ℕ) : Type 0 where
  pub has : has_place dims index ≡ true
  pub sum : place * value_count dims varys + row_place dims varys index ≡ whole

row_limit : (dims : List ℕ) (varys : List Bool) (index : List ℕ) (place whole : ℕ) → RowLeft dims varys index place whole → place ≤ whole
row_limit dims varys index place whole left = omega (arith, mul-le-mul_left place (count_positive dims varys index left.has), left.sum)

row_more : (n i place whole : ℕ) (dims : List ℕ) (varys : List Bool) (index : List ℕ) → RowLeft (n ∷ dims) (true ∷ varys) (i ∷ index) place whole → RowLeft dims varys index (place * n + i) whole
row_more n i place whole dims varys index left = record { has = others_below n i dims index left.has; sum = omega (arith, left.sum) }

row_same : (n i place whole : ℕ) (dims : List ℕ) (varys : List Bool) (index : List ℕ) → RowLeft (n ∷ dims) (false ∷ varys) (i ∷ index) place whole → RowLeft dims varys index place whole
row_same n i place whole dims varys index left = record { has = others_below n i dims index left.has; sum = left.sum }

-- the same in column majority, with the product of the varying sizes so far and of all
pub record ColumnLeft (dims : List ℕ) (varys : List Bool) (index : List ℕ) (place before whole count : ℕ) : Type 0 where
  pub has : has_place dims index ≡ true
  pub size : before * value_count dims varys ≡ count
  pub sum : place + column_place before dims varys index ≡ whole

column_limit : (dims : List ℕ) (varys : List Bool) (index : List ℕ) (place before whole count : ℕ) → ColumnLeft dims varys index place before whole count → before ≤ count
column_limit dims varys index place before whole count left = omega (arith, mul-le-mul_left before (count_positive dims varys index left.has), left.size)

column_more : (n i place before whole count : ℕ) (dims : List ℕ) (varys : List Bool) (index : List ℕ) → ColumnLeft (n ∷ dims) (true ∷ varys) (i ∷ index) place before whole count → ColumnLeft dims varys index (place + i * before) (before * n) whole count
column_more n i place before whole count dims varys index left = record { has = others_below n i dims index left.has; size = omega (arith, left.size); sum = omega (arith, left.sum) }

column_same : (n i place before whole count : ℕ) (dims : List ℕ) (varys : List Bool) (index : List ℕ) → ColumnLeft (n ∷ dims) (false ∷ varys) (i ∷ index) place before whole count → ColumnLeft dims varys index place before whole count
column_same n i place before whole count dims varys index left = record { has = others_below n i dims index left.has; size = left.size; sum = left.sum }

-- one step along the three lists
pub row_varies : (dims : List ℕ) (varys : List Bool) (index : List ℕ) (k place whole : ℕ) → length varys ≡ length dims → has_place dims index ≡ true → k < length dims
    → RowLeft (drop k dims) (drop k varys) (drop k index) place whole → get_or varys k false ≡ true
    → RowLeft (drop (k + 1) dims) (drop (k + 1) varys) (drop (k + 1) index) (place * get_or dims k 0 + get_or index k 0) whole
row_varies dims varys index k place whole one_each has within left varies =
    let in_varys : k < length varys = omega arith in
    let in_index : k < length index = omega (arith, length-index dims index has) in
    row_more _ _ _ _ _ _ _ (rw (drop_more dims k 0 within, drop_more varys k false in_varys, drop_more index k 0 in_index, varies) at left)

pub row_stays : (dims : List ℕ) (varys : List Bool) (index : List ℕ) (k place whole : ℕ) → length varys ≡ length dims → has_place dims index ≡ true → k < length dims
    → RowLeft (drop k dims) (drop k varys) (drop k index) place whole → get_or varys k false ≡ false
    → RowLeft (drop (k + 1) dims) (drop (k + 1) varys) (drop (k + 1) index) place whole
row_stays dims varys index k place whole one_each has within left stays =
    let in_varys : k < length varys = omega arith in
    let in_index : k < length index = omega (arith, length-index dims index has) in
    row_same (get_or dims k 0) (get_or index k 0) _ _ _ _ _ (rw (drop_more dims k 0 within, drop_more varys k false in_varys, drop_more index k 0 in_index, stays) at left)

-- the place that a step makes is one of the record
pub row_fits : (dims : List ℕ) (varys : List Bool) (index : List ℕ) (k place : ℕ) → length varys ≡ length dims → has_place dims index ≡ true → k < length dims
    → RowLeft (drop k dims) (drop k varys) (drop k index) place (row_place dims varys index) → get_or varys k false ≡ true
    → place * get_or dims k 0 + get_or index k 0 < value_count dims varys
row_fits dims varys index k place one_each has within left varies =
    omega (arith, row_limit _ _ _ _ _ (row_varies dims varys index k place _ one_each has within left varies), row_below dims varys index has)

pub column_varies : (dims : List ℕ) (varys : List Bool) (index : List ℕ) (k place before whole count : ℕ) → length varys ≡ length dims → has_place dims index ≡ true → k < length dims
    → ColumnLeft (drop k dims) (drop k varys) (drop k index) place before whole count → get_or varys k false ≡ true
    → ColumnLeft (drop (k + 1) dims) (drop (k + 1) varys) (drop (k + 1) index) (place + get_or index k 0 * before) (before * get_or dims k 0) whole count
column_varies dims varys index k place before whole count one_each has within left varies =
    let in_varys : k < length varys = omega arith in
    let in_index : k < length index = omega (arith, length-index dims index has) in
    column_more _ _ _ _ _ _ _ _ _ (rw (drop_more dims k 0 within, drop_more varys k false in_varys, drop_more index k 0 in_index, varies) at left)

pub column_stays : (dims : List ℕ) (varys : List Bool) (index : List ℕ) (k place before whole count : ℕ) → length varys ≡ length dims → has_place dims index ≡ true → k < length dims
    → ColumnLeft (drop k dims) (drop k varys) (drop k index) place before whole count → get_or varys k false ≡ false
    → ColumnLeft (drop (k + 1) dims) (drop (k + 1) varys) (drop (k + 1) index) place before whole count
column_stays dims varys index k place before whole count one_each has within left stays =
    let in_varys : k < length varys = omega arith in
    let in_index : k < length index = omega (arith, length-index dims index has) in
    column_same (get_or dims k 0) (get_or index k 0) _ _ _ _ _ _ _ (rw (drop_more dims k 0 within, drop_more varys k false in_varys, drop_more index k 0 in_index, stays) at left)

pub column_fits : (dims : List ℕ) (varys : List Bool) (index : List ℕ) (k place before : ℕ) → length varys ≡ length dims → has_place dims index ≡ true → k < length dims
    → ColumnLeft (drop k dims) (drop k varys) (drop k index) place before (column_place 1 dims varys index) (value_count dims varys) → get_or varys k false ≡ true
    → (place + get_or index k 0 * before < value_count dims varys) × (before * get_or dims k 0 ≤ value_count dims varys)
column_fits dims varys index k place before one_each has within left varies =
    let next = column_varies dims varys index k place before _ _ one_each has within left varies in
    (omega (arith, next.sum, column_below 1 dims varys index has), column_limit _ _ _ _ _ _ _ next)
