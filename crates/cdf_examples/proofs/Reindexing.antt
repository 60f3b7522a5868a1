-- What `reindex` makes of the first z variable, and that no acts of it lead to an image, by truth values of its index: the content, the old index and the new one are computed no further than these ask.
use Rattle.cdf_examples.proofs.Common.{Act, ActsFollow, AreActs, Bool, Does, Found, FullFromLeft, List, MakesIndex, Nodes, None, Option, Some, Took, Variable, VariableShape, [], ap, content, eq-eqb, eqb-true, false, gave, length, levels_up, nodes_at, nodes_of, not, place_for, refl, shape, shapes_of, slice_get, space_before, subst, sym, true, unused, variable_named, vxr_bytes, ℕ, ◌++◌, ◌==◌, ◌∙◌, ◌∷◌, ◌≡◌}
use Rattle.std.proofs.Common.{map}
use Rattle.cdf_model.specs.declared.command.Command.TheVariants as commands
use Rattle.cdf_model.specs.declared.kinds.Kind.{Kind}
use Rattle.cdf_model.specs.declared.kinds.Kind.TheVariants.{R, Z}
use Rattle.cdf_examples.proofs.Deciding.{or_else}

-- ---- what a command makes of the first z variable

abbrev pub is_first_z : Kind → ℕ → Bool
is_first_z R number = false
is_first_z Z number = number == 0

abbrev pub names_first_z : Option Found → Bool
names_first_z None = false
names_first_z (Some found) = is_first_z found.kind found.number

-- of the only z variable
at_first : (vs : List VariableShape) (v : VariableShape) (n : ℕ) → vs ≡ v ∷ [] → n ≡ 0 → slice_get vs n ≡ Some v
at_first vs v n only first = ap (λ (k : ℕ). slice_get vs k) first ∙ ap (λ (list : List VariableShape). slice_get list 0) only

-- the index that `reindex` makes of its old one
pub makes_index : (b now name : List ℕ) (acts : List Act) (v v' : VariableShape) → Does b (commands.Reindex name) now acts → names_first_z (variable_named (content b) name) ≡ true
    → (shape b).z_variables ≡ v ∷ [] → (shape now).z_variables ≡ v' ∷ [] → MakesIndex b now v v' acts
makes_index b now name acts v v' does first before after = of_named (variable_named (content b) name) refl first
  where
    of_kind : (kind : Kind) (number : ℕ) (variable : Variable) → variable_named (content b) name ≡ Some (record { kind = kind; number = number; variable = variable }) → is_first_z kind number ≡ true → MakesIndex b now v v' acts
    of_kind R number variable named e = absurd cc
    of_kind Z number variable named e =
        let at : number ≡ 0 = eqb-true number 0 e in
        does (record { kind = Z; number = number; variable = variable }) v v' (record { named = named; before = at_first (shape b).z_variables v number before at; after = at_first (shape now).z_variables v' number after at })

    of_named : (o : Option Found) → variable_named (content b) name ≡ o → names_first_z o ≡ true → MakesIndex b now v v' acts
    of_named None named e = absurd cc
    of_named (Some found) named e = of_kind found.kind found.number found.variable named e

-- and the other way round
pub reindexes : (b now name : List ℕ) (acts : List Act) (v v' : VariableShape) → names_first_z (variable_named (content b) name) ≡ true
    → (shape b).z_variables ≡ v ∷ [] → (shape now).z_variables ≡ v' ∷ [] → MakesIndex b now v v' acts → Does b (commands.Reindex name) now acts
reindexes b now name acts v v' first before after made found w w' is = of_kind found.kind found.number (subst (λ (o : Option Found). names_first_z o ≡ true) is.named first) is.before is.after
  where
    of_kind : (kind : Kind) (number : ℕ) → is_first_z kind number ≡ true → slice_get (shapes_of (shape b) kind) number ≡ Some w → slice_get (shapes_of (shape now) kind) number ≡ Some w' → MakesIndex b now w w' acts
    of_kind R number e before_is after_is = absurd cc
    of_kind Z number e before_is after_is =
        let at : number ≡ 0 = eqb-true number 0 e in
        let same : v ≡ w = ap (or_else v) (sym (at_first (shape b).z_variables v number before at) ∙ before_is) in
        let same' : v' ≡ w' = ap (or_else v') (sym (at_first (shape now).z_variables v' number after at) ∙ after_is) in
        subst (λ (x : VariableShape). MakesIndex b now x w' acts) same (subst (λ (x : VariableShape). MakesIndex b now v x acts) same' made)

-- where no index that passes a test is made, none is made that does
pub makes_none : (b now name : List ℕ) (acts : List Act) (test : Nodes → Bool) → ((v v' : VariableShape) → test v'.index ≡ true → MakesIndex b now v v' acts → ⊥) → (v v' : VariableShape)
    → names_first_z (variable_named (content b) name) ≡ true → (shape b).z_variables ≡ v ∷ [] → (shape now).z_variables ≡ v' ∷ [] → test v'.index ≡ true → Does b (commands.Reindex name) now acts → ⊥
makes_none b now name acts test none v v' first before after passes does = none v v' passes (makes_index b now name acts v v' does first before after)

-- ---- what no new index is

-- a node of a level is followed by another, and has not 64 entries
abbrev pub has_gap : List (ℕ × ℕ) → Bool
has_gap [] = false
has_gap (n ∷ []) = false
has_gap (n ∷ m ∷ more) = not (n.1 == 64)

pub no_gap : (b now : List ℕ) (v v' : VariableShape) (acts : List Act) (levels : ℕ) → has_gap (nodes_at levels v'.index) ≡ true → MakesIndex b now v v' acts → ⊥
no_gap b now v v' acts levels gap made = of_level (nodes_at levels v'.index) (made.filled.full levels) gap
  where
    clash : (p : Bool) → p ≡ true → not p ≡ true → ⊥
    clash true e f = absurd cc
    clash false e f = absurd cc

    of_level : (list : List (ℕ × ℕ)) → FullFromLeft list → has_gap list ≡ true → ⊥
    of_level [] full e = absurd cc
    of_level (n ∷ []) full e = absurd cc
    of_level (n ∷ m ∷ more) full e = clash (n.1 == 64) (eq-eqb n.1 64 full.0) e

-- where nothing is unused, the first node of the lowest level stands at the old end
pub first_at_end : (b now : List ℕ) (v v' : VariableShape) (acts : List Act) (lowest : ℕ) (more : List ℕ) → levels_up 7 v'.index ≡ lowest ∷ more → unused b (shape b) ≡ []
    → ActsFollow b now acts → MakesIndex b now v v' acts → lowest ≡ length b
first_at_end b now v v' acts lowest more levels none follow made =
    let all : acts ≡ Took lowest (vxr_bytes 64) ∷ (map (λ vxr. Took vxr (vxr_bytes 64)) more ++ gave b (nodes_of v.index)) =
    made.acts_are ∙ ap (λ (places : List ℕ). map (λ vxr. Took vxr (vxr_bytes 64)) places ++ gave b (nodes_of v.index)) levels in
    let are = subst (AreActs (space_before b)) all follow.are in
    are.0.1 ∙ ap (λ (list : List (ℕ × ℕ)). place_for list (length b) (vxr_bytes 64)) none

abbrev pub begins_elsewhere : ℕ → List ℕ → Bool
begins_elsewhere end [] = false
begins_elsewhere end (lowest ∷ more) = not (lowest == end)

pub begins_at_end : (b now : List ℕ) (v v' : VariableShape) (acts : List Act) (end : ℕ) → length b ≡ end → begins_elsewhere end (levels_up 7 v'.index) ≡ true → unused b (shape b) ≡ [] → ActsFollow b now acts → MakesIndex b now v v' acts → ⊥
begins_at_end b now v v' acts end is_end elsewhere none follow made = of_places (levels_up 7 v'.index) refl elsewhere
  where
    clash : (p : Bool) → p ≡ true → not p ≡ true → ⊥
    clash true e f = absurd cc
    clash false e f = absurd cc

    of_places : (list : List ℕ) → levels_up 7 v'.index ≡ list → begins_elsewhere end list ≡ true → ⊥
    of_places [] is e = absurd cc
    of_places (lowest ∷ more) is e = clash (lowest == end) (eq-eqb lowest end (first_at_end b now v v' acts lowest more is none follow made ∙ is_end)) e
