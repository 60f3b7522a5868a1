-- The records of one variable in the order in which they are freed are those that it has.
use Rattle.cdf_edits.proofs.Common.{In, List, VariableShape, [], ap, append-nil, arith, freed_with_variable, leaves_of, nodes_of, subst, sym, times, variable_records, ℕ, ◌++◌, ◌∙◌, ◌∷◌, ◌≡◌, ◌≤◌}
use Rattle.cdf_edits.proofs.Edits.Common.{times-append, in-times, times-in}
use Rattle.cdf_edits.proofs.Edits.InRecords.{places_of}

module _ (v : VariableShape) where
  pub freed-times : (m : ℕ) → times m (freed_with_variable v) ≡ times m (variable_records v)
  freed-times m =
      let blocks = places_of (leaves_of v.index) in
      let nodes = nodes_of v.index in
      omega (arith, times-append m (blocks ++ nodes ++ v.cpr) (v.vdr ∷ []), times-append m (blocks ++ nodes) v.cpr, times-append m blocks nodes, times-append m (v.vdr ∷ []) (nodes ++ blocks ++ v.cpr), times-append m (nodes ++ blocks) v.cpr, times-append m nodes blocks)

  pub freed_mine : (m : ℕ) → In m (freed_with_variable v) → In m (variable_records v)
  freed_mine m i = in-times m (variable_records v) (subst (λ (n : ℕ). 1 ≤ n) (freed-times m) (times-in m (freed_with_variable v) i))

  pub mine_freed : (m : ℕ) → In m (variable_records v) → In m (freed_with_variable v)
  mine_freed m i = in-times m (freed_with_variable v) (subst (λ (n : ℕ). 1 ≤ n) (sym (freed-times m)) (times-in m (variable_records v) i))

-- without a CPR they are the blocks, the nodes and the VDR
pub without_cpr : (v : VariableShape) → v.cpr ≡ [] → freed_with_variable v ≡ places_of (leaves_of v.index) ++ nodes_of v.index ++ v.vdr ∷ []
without_cpr v none =
    let others = places_of (leaves_of v.index) ++ nodes_of v.index in
    ap (λ (cpr : List ℕ). others ++ cpr ++ v.vdr ∷ []) none ∙ ap (λ (xs : List ℕ). xs ++ v.vdr ∷ []) (append-nil others)
