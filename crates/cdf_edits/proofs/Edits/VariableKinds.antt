-- The variables of one kind among those of an image, and others in their place.
use Rattle.cdf_edits.proofs.Common.{Bool, DataSet, Each, Each-append, Each-split, HasShape, Hold, Hold-split, In, IsChain, IsGoodByShape, IsSound, Kind, List, Mark, R, Row, Shape, Variable, VariableShape, Z, [], adrs, adrs_rows, ap, arith, avoided, content_of, count_of, eq-eqb, flat_map, gdr_offset, gdr_type, head_of, length, length-append, map, number, number_rows, r_vdrs_rows, refl, row, shapes_of, subst, sym, times, type_in, variable_of, variable_records, variables, variables_chain, variables_of, vdr_num, vdr_type, vdrs, with_variables, z_vdrs_rows, ℕ, ◌&&◌, ◌++◌, ◌+◌, ◌==◌, ◌∙◌, ◌∷◌, ◌≡◌, ◌≤◌}
use Rattle.cdf_edits.proofs.Edits.VariableFrame.{AreOurs, all_ours, ours_parts, variables_in}
use Rattle.cdf_edits.proofs.Frame.OwnersApart.{flat-append, all_variable_records, times-append, times-three, file_records, all_attribute_records}
use Rattle.cdf_edits.proofs.Edits.OwnedOnce.{used_times}
use Rattle.cdf_edits.proofs.Rules.WithoutLinks.{number_rows_kept, number_rows-push}
pub use Rattle.cdf_edits.specs.Edits.Standing.{other_kind}

-- the variables of each kind, where those of one kind are others
abbrev pub shapes_with : Shape → Kind → List VariableShape → Kind → List VariableShape
shapes_with s R vs R = vs
shapes_with s R vs Z = s.z_variables
shapes_with s Z vs R = s.r_variables
shapes_with s Z vs Z = vs

-- a shape with other records and unused list, and other variables of a kind
abbrev pub with_shapes : Shape → Kind → List ℕ → List ℕ → List VariableShape → Shape
with_shapes s kind records unused vs = record s { records = records; r_variables = shapes_with s kind vs R; z_variables = shapes_with s kind vs Z; unused = unused }

-- the rules on their count and their numbers
abbrev pub vdrs_rows : Kind → List ℕ → List ℕ → List Row
vdrs_rows R b members = r_vdrs_rows b members
vdrs_rows Z b members = z_vdrs_rows b members

-- the links from one to the next of a kind, and their head and their count
abbrev pub keeps_kind : List Mark → Kind → Bool
keeps_kind marks kind =
    avoided marks (type_in (variables_chain kind)) 0 20
    && (avoided marks gdr_type (head_of (variables_chain kind)).place ((head_of (variables_chain kind)).place + (head_of (variables_chain kind)).width)
    && avoided marks gdr_type (count_of (variables_chain kind)).place ((count_of (variables_chain kind)).place + (count_of (variables_chain kind)).width))

-- ---- what holds of those of one kind, and of those of the other

pub by_kind : (P : Kind → List VariableShape → Type 0) (kind : Kind) (s : Shape) (vs : List VariableShape) → P kind vs → P (other_kind kind) (shapes_of s (other_kind kind)) → (k : Kind) → P k (shapes_with s kind vs k)
by_kind P R s vs own other R = own
by_kind P R s vs own other Z = other
by_kind P Z s vs own other R = other
by_kind P Z s vs own other Z = own

pub each_kind : (P : VariableShape → Type 0) (kind : Kind) (s : Shape) (vs : List VariableShape) → Each P vs → Each P (shapes_of s (other_kind kind)) → Each P (shapes_with s kind vs R ++ shapes_with s kind vs Z)
each_kind P R s vs own other = Each-append P vs s.z_variables own other
each_kind P Z s vs own other = Each-append P s.r_variables vs other own

pub of_kind : (P : VariableShape → Type 0) (kind : Kind) (s : Shape) → Each P (variables s) → Each P (shapes_of s kind)
of_kind P R s each = (Each-split P s.r_variables s.z_variables each).0
of_kind P Z s each = (Each-split P s.r_variables s.z_variables each).1

pub kind_ours : (b : List ℕ) (s : Shape) → IsSound b s → (kind : Kind) → AreOurs b s (shapes_of s kind)
kind_ours b s sound R = (ours_parts b s s.r_variables s.z_variables (all_ours b s sound)).0
kind_ours b s sound Z = (ours_parts b s s.r_variables s.z_variables (all_ours b s sound)).1

-- their records
pub kind_in : {b : List ℕ} {s : Shape} → IsSound b s → (kind : Kind) (m : ℕ) → In m (flat_map variable_records (shapes_of s kind)) → In m s.records
kind_in {b = b} {s = s} sound kind m i = variables_in b s sound m ((kind_ours b s sound kind).sub m i)

-- ---- chains and counts

pub kind_chain : {b : List ℕ} {s : Shape} (kind : Kind) → HasShape b s → IsChain b s.records (type_in (variables_chain kind)) (number b s.gdr (head_of (variables_chain kind))) (vdrs (shapes_of s kind))
kind_chain R h = h.r_chain
kind_chain Z h = h.z_chain

pub in_gdr : (kind : Kind) → ((head_of (variables_chain kind)).place + (head_of (variables_chain kind)).width ≤ 84) × ((count_of (variables_chain kind)).place + (count_of (variables_chain kind)).width ≤ 84)
in_gdr R = (omega arith, omega arith)
in_gdr Z = (omega arith, omega arith)

pub kind_type : (kind : Kind) → type_in (variables_chain kind) ≡ vdr_type kind
kind_type R = refl
kind_type Z = refl

pub counted_before : {b : List ℕ} {s : Shape} → IsGoodByShape b s → (kind : Kind) → Hold (vdrs_rows kind b (vdrs (shapes_of s kind)))
counted_before {b = b} {s = s} good R = (Hold-split (adrs_rows b (adrs s)) (r_vdrs_rows b (vdrs s.r_variables)) (Hold-split (adrs_rows b (adrs s) ++ r_vdrs_rows b (vdrs s.r_variables)) (z_vdrs_rows b (vdrs s.z_variables)) good.counting).0).1
counted_before {b = b} {s = s} good Z = (Hold-split (adrs_rows b (adrs s) ++ r_vdrs_rows b (vdrs s.r_variables)) (z_vdrs_rows b (vdrs s.z_variables)) good.counting).1

pub attributes_counted : {b : List ℕ} {s : Shape} → IsGoodByShape b s → Hold (adrs_rows b (adrs s))
attributes_counted {b = b} {s = s} good = (Hold-split (adrs_rows b (adrs s)) (r_vdrs_rows b (vdrs s.r_variables)) (Hold-split (adrs_rows b (adrs s) ++ r_vdrs_rows b (vdrs s.r_variables)) (z_vdrs_rows b (vdrs s.z_variables)) good.counting).0).0

-- the rules on their numbers alone
abbrev pub number_part : Kind → List ℕ → List ℕ → List Row
number_part R b members = number_rows 7 b vdr_num 0 members
number_part Z b members = number_rows 10 b vdr_num 0 members

pub numbers_kept : (kind : Kind) (b now ms : List ℕ) → ((m : ℕ) → In m ms → number now m vdr_num ≡ number b m vdr_num) → Hold (vdrs_rows kind b ms) → Hold (number_part kind now ms)
numbers_kept R b now ms nums rules = subst Hold (sym (number_rows_kept 7 b now vdr_num 0 ms nums)) rules.1
numbers_kept Z b now ms nums rules = subst Hold (sym (number_rows_kept 10 b now vdr_num 0 ms nums)) rules.1

pub vdrs_rows_kept : (kind : Kind) (b now ms : List ℕ) → gdr_offset now ≡ gdr_offset b → number now (gdr_offset now) (count_of (variables_chain kind)) ≡ number b (gdr_offset b) (count_of (variables_chain kind)) → ((m : ℕ) → In m ms → number now m vdr_num ≡ number b m vdr_num)
    → vdrs_rows kind now ms ≡ vdrs_rows kind b ms
vdrs_rows_kept R b now ms place count nums = let numbers = number_rows_kept 7 b now vdr_num 0 ms nums in λ i. (row 6 (place i) (count i == length ms) ∷ []) ++ numbers i
vdrs_rows_kept Z b now ms place count nums = let numbers = number_rows_kept 10 b now vdr_num 0 ms nums in λ i. (row 9 (place i) (count i == length ms) ∷ []) ++ numbers i

-- with one more behind them
pub vdrs_rows-push : (kind : Kind) (b ms : List ℕ) (m : ℕ) → number b (gdr_offset b) (count_of (variables_chain kind)) ≡ length ms + 1 → number b m vdr_num ≡ length ms → Hold (number_part kind b ms) → Hold (vdrs_rows kind b (ms ++ m ∷ []))
vdrs_rows-push kind b ms m count num numbers = by kind count numbers
  where
    longer : (n : ℕ) → n ≡ length ms + 1 → n ≡ length (ms ++ m ∷ [])
    longer n e = omega (arith, length-append ms (m ∷ []))

    zero_first : (n : ℕ) → n ≡ 0 + n
    zero_first n = omega arith

    by : (kind : Kind) → number b (gdr_offset b) (count_of (variables_chain kind)) ≡ length ms + 1 → Hold (number_part kind b ms) → Hold (vdrs_rows kind b (ms ++ m ∷ []))
    by R count numbers = (eq-eqb _ _ (longer _ count), number_rows-push 7 b vdr_num 0 ms m (num ∙ zero_first (length ms)) numbers)
    by Z count numbers = (eq-eqb _ _ (longer _ count), number_rows-push 10 b vdr_num 0 ms m (num ∙ zero_first (length ms)) numbers)

-- ---- the content

pub variables_of_are : (b : List ℕ) (s : Shape) (kind : Kind) → variables_of (content_of b s) kind ≡ map (variable_of b) (shapes_of s kind)
variables_of_are b s R = refl
variables_of_are b s Z = refl

pub with_kind : (d : DataSet) (kind : Kind) (s : Shape) (vs : List VariableShape) (meaning : VariableShape → Variable) (ws : List Variable) → map meaning vs ≡ ws → map meaning (shapes_of s (other_kind kind)) ≡ variables_of d (other_kind kind)
    → record d { r_variables = map meaning (shapes_with s kind vs R); z_variables = map meaning (shapes_with s kind vs Z) } ≡ with_variables d kind ws
with_kind d R s vs meaning ws own other = λ i. record d { r_variables = own i; z_variables = other i }
with_kind d Z s vs meaning ws own other = λ i. record d { r_variables = other i; z_variables = own i }

-- ---- how often a record is owned

-- by variables of the kind, and those of the other one
pub kind_times : (kind : Kind) (s : Shape) (m : ℕ) → times m (all_variable_records s) ≡ times m (flat_map variable_records (shapes_of s kind)) + times m (flat_map variable_records (shapes_of s (other_kind kind)))
kind_times kind s m = let parts = ap (times m) (flat-append variable_records s.r_variables s.z_variables) ∙ times-append m (flat_map variable_records s.r_variables) (flat_map variable_records s.z_variables) in by kind parts
  where
    by : (k : Kind) → times m (all_variable_records s) ≡ times m (flat_map variable_records s.r_variables) + times m (flat_map variable_records s.z_variables) → times m (all_variable_records s) ≡ times m (flat_map variable_records (shapes_of s k)) + times m (flat_map variable_records (shapes_of s (other_kind k)))
    by R parts = parts
    by Z parts = omega arith

-- counts with other records of some variables
pub spliced_times : (s : Shape) (kind : Kind) (records list : List ℕ) (before own own' after : List VariableShape) → shapes_of s kind ≡ before ++ (own ++ after) → (m k l : ℕ) → times m (flat_map variable_records own') + l ≡ times m (flat_map variable_records own) + k
    → used_times (with_shapes s kind records list (before ++ (own' ++ after))) m + l ≡ used_times s m + k
spliced_times s kind records list before own own' after was m k l same =
    let count = λ (vs : List VariableShape). times m (flat_map variable_records vs) in
    let parts = λ (mid : List VariableShape). times-three variable_records m before mid after in
    let old : count (shapes_of s kind) ≡ count before + (count own + count after) = ap count was ∙ parts own in
    sums (times m (file_records s)) (times m (all_attribute_records s)) (count before) (count after) (count own) (count own') (count (shapes_of s kind)) (count (before ++ (own' ++ after))) (count (shapes_of s (other_kind kind)))
    (times m (all_variable_records s)) (times m (all_variable_records (with_shapes s kind records list (before ++ (own' ++ after))))) k l old (parts own') (kind_times kind s m) (now_times kind (before ++ (own' ++ after))) same
  where
    sums : (f a x y o o' c c' d v v' k l : ℕ) → c ≡ x + (o + y) → c' ≡ x + (o' + y) → v ≡ c + d → v' ≡ c' + d → o' + l ≡ o + k → f + (a + v') + l ≡ f + (a + v) + k
    sums f a x y o o' c c' d v v' k l p q r t u = omega arith

    now_times : (kind : Kind) (vs : List VariableShape) → times m (all_variable_records (with_shapes s kind records list vs)) ≡ times m (flat_map variable_records vs) + times m (flat_map variable_records (shapes_of s (other_kind kind)))
    now_times R vs = kind_times R (with_shapes s R records list vs) m
    now_times Z vs = kind_times Z (with_shapes s Z records list vs) m
