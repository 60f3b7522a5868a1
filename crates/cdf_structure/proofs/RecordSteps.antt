-- The records of an image, one after the other in one walk.
use Rattle.cdf_structure.proofs.Common.{AreRecords, Bool, Finding, Finds, Hold, IsBroken, List, None, Ok, Option, Row, Some, WalksTiles, Yields, [], ap, append-nil, cond, eq-eqb, flat_map, head_rows, ne_eqb, option_or, phase4, record_rows, size_at, subst, sym, type_at, uir_type, unused_of, ℕ, ◌++◌, ◌==◌, ◌∙◌, ◌∷◌, ◌≡◌, ◌≢◌}
use Rattle.std.proofs.lemmas.List.Elements.{filter-append}
use Rattle.cdf_structure.specs.declared.tiles.Walked.{Walked}
use Rattle.cdf_structure.proofs.Findings.{none_found, one_found}
use Rattle.cdf_structure.proofs.Rows.{found_more}
use Rattle.cdf_structure.proofs.TileSteps.{whole_rows}

module _ (b all : List ℕ) (place : ℕ) where
  pub unused_more : type_at b place ≡ uir_type → unused_of b (all ++ place ∷ []) ≡ unused_of b all ++ place ∷ []
  unused_more is = filter-append (λ at. type_at b at == uir_type) all (place ∷ []) ∙ ap (λ (test : Bool). unused_of b all ++ cond test (place ∷ []) []) (eq-eqb (type_at b place) uir_type is)

  pub unused_same : type_at b place ≢ uir_type → unused_of b (all ++ place ∷ []) ≡ unused_of b all
  unused_same ne = filter-append (λ at. type_at b at == uir_type) all (place ∷ []) ∙ ap (λ (test : Bool). unused_of b all ++ cond test (place ∷ []) []) (ne_eqb (type_at b place) uir_type ne) ∙ append-nil (unused_of b all)

  -- of two findings the one on an earlier record is kept
  pub found_first : (type size : ℕ) (before here : Option Finding) → type ≡ type_at b place → size ≡ size_at b place
      → Finds (flat_map (record_rows b) all) before → Finds (head_rows place type size) here → Finds (flat_map (record_rows b) (all ++ place ∷ [])) (option_or before here)
  found_first type size before here typed sized old new =
      let rows : Finds (record_rows b place) here = rw (typed, sized) at new in
      found_more (record_rows b) all place before here old rows

-- what a walk to the end finds
module _ (b : List ℕ) (w : Walked) (walked : WalksTiles b (Ok w)) where
  pub records_hold : w.broken ≡ None → Yields (phase4 b) (AreRecords b) (Ok w.records)
  records_hold none = (subst Hold (sym (whole_rows b w.records.all.items walked.0)) (none_found (flat_map (record_rows b) w.records.all.items) w.broken walked.1.found none), record { walk = walked.0; unused = walked.1.unused })

  pub records_break : (f : Finding) → w.broken ≡ Some f → IsBroken (phase4 b) f.rule f.place
  records_break f some = subst (λ (rows : List Row). IsBroken rows f.rule f.place) (sym (whole_rows b w.records.all.items walked.0)) (one_found (flat_map (record_rows b) w.records.all.items) w.broken f walked.1.found some)
