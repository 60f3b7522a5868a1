-- Some leaves keep some of their records each, one after the other, and then leaves go whole: what holds of each image on the way.
use Rattle.cdf_edits.proofs.Common.{Act, AllKeep, Good, In, Kind, Leaf, List, Range, Bool, Stays, VariableShape, ◌==◌, [], ap, append-nil, append_assoc, cpr_of, flat_map, image_limit, inl, inr, leaves_of, length, owned, refl, shape, subst, sym, true, ℕ, ◌++◌, ◌∙◌, ◌∷◌, ◌≡◌, ◌≢◌, ◌≤◌}
use Rattle.cdf_edits.proofs.Edits.Common.{StandsAmong, behind_in, block_behind, cpr_behind, has, stays_then}
use Rattle.cdf_edits.proofs.Edits.LeafPieces.{IsOneOf, place_in}
use Rattle.cdf_edits.proofs.Edits.PlainLeaves.{leaves_ascend}
use Rattle.cdf_edits.proofs.Frame.VdrStays.{cpr_stays}
use Rattle.cdf_edits.specs.Commands.Deleting.{untouched}
use Rattle.cdf_edits.specs.Commands.PutSteps.{Stage, step_changes}
use Rattle.cdf_puts.proofs.GoesThen.{goes_written, stays, writes_nothing}
use Rattle.cdf_puts.specs.Going.{GoesOn, found_in}
use Rattle.cdf_packed_deletes.proofs.KeepStep.{ranged, same_first, stays_block, stays_leaf}
use Rattle.cdf_packed_deletes.proofs.LeafKinds.{IsApart, meets}
use Rattle.cdf_packed_deletes.specs.Steps.{KeepSome, KeepsSome, keeps_some}
use Rattle.cdf_put_steps.proofs.GoesAlong.{goes_along}
use Rattle.cdf_put_steps.proofs.StepKeeps.{cpr_unchanged}
use Rattle.cdf_put_steps.specs.Along.{GoAlong}

-- ---- the record that says how a variable is packed

pub record CprStays (b : List ℕ) (own : VariableShape) (stage : Stage) : Type 0 where
  pub cpr_is : stage.own.cpr ≡ own.cpr
  pub cpr : (m : ℕ) → In m own.cpr → Stays b stage.image m []

-- a record stays in its own image
pub stays_itself : (b : List ℕ) (m : ℕ) → In m (shape b).records → Stays b b m []
stays_itself b m i = record { stands = i; size_is = refl; same = λ i lt out. refl }

module _ {b : List ℕ} {kind : Kind} {before : List VariableShape} {own : VariableShape} {after : List VariableShape} (from to : Stage) (acts : List Act) (goes : GoesOn b from.image kind before own from.own after acts) (x : CprStays b own from) (changes : Range → Bool) (keeps : AllKeep from.image to.image (step_changes from.image (found_in b kind before own) changes) to.acts (owned from.image (shape from.image)))
    (one : GoesOn from.image to.image kind before from.own to.own after to.acts) where
  cpr_same : to.own.cpr ≡ from.own.cpr
  cpr_same = sym (has one.good one.among).packed_by ∙ ap (cpr_of to.image) one.vdr_is ∙ cpr_stays one.file (stays goes.good goes.among one.descriptor) ∙ (has goes.good goes.among).packed_by

  cpr_more : (m : ℕ) → In m own.cpr → Stays b to.image m []
  cpr_more m i =
      let now = cpr_unchanged from.image to.image (found_in b kind before own) changes to.acts goes.good goes.among refl keeps m (subst (In m) (sym x.cpr_is) i) in
      stays_then b from.image to.image m [] [] [] (x.cpr m i) now (λ k out. (tt, tt))

  pub cpr_then : CprStays b own to
  cpr_then = record { cpr_is = cpr_same ∙ x.cpr_is; cpr = cpr_more }

-- ---- an image on the way

-- blocks that lose no record stay, and so does what says how the variable is packed
pub record KeptSo (b : List ℕ) (kind : Kind) (before : List VariableShape) (own : VariableShape) (after : List VariableShape) (first last : ℕ) (stage : Stage) (acts : List Act) : Type 0 where
  pub goes : GoesOn b stage.image kind before own stage.own after acts
  pub blocks : (l : Leaf) → IsOneOf (leaves_of own.index) l → IsApart first last l → IsOneOf (leaves_of stage.own.index) l × Stays b stage.image l.place []
  pub cpr : CprStays b own stage

module _ {b : List ℕ} {kind : Kind} {before : List VariableShape} {own : VariableShape} {after : List VariableShape} (good : Good b) (at : StandsAmong b kind before own after) (first last : ℕ) where
  pub kept_first : length b ≤ image_limit → KeptSo b kind before own after first last (untouched b own) []
  kept_first short = record {
    goes = goes_written good at (writes_nothing good at) short;
    blocks = λ l i a. (i, stays_itself b l.place (behind_in good at l.place (block_behind own l.place (place_in (leaves_of own.index) l i))));
    cpr = record { cpr_is = refl; cpr = λ m i. stays_itself b m (behind_in good at m (cpr_behind own m i)) };
  }

  module _ (from to : Stage) (acts : List Act) (x : KeptSo b kind before own after first last from acts) {closes : Bool} (old : Leaf) (met : IsApart first last old → ⊥) (step : KeepsSome (found_in b kind before own) closes first last old from to) (one : GoesOn from.image to.image kind before from.own to.own after to.acts) where
    other : (l : Leaf) → IsOneOf (leaves_of from.own.index) l → IsApart first last l → l.first ≢ old.first
    other l i a e = met (subst (IsApart first last) (same_first 0 2147483647 (leaves_of from.own.index) (leaves_ascend x.goes.good x.goes.among) l old i step.one e) a)

    blocks_then : (l : Leaf) → IsOneOf (leaves_of own.index) l → IsApart first last l → IsOneOf (leaves_of to.own.index) l × Stays b to.image l.place []
    blocks_then l i a =
        let was = x.blocks l i a in
        let ne = other l was.0 a in
        let now = stays_block good at first last from to acts x.goes old step one l was.0 ne in
        (stays_leaf good at first last from to acts x.goes old step one l was.0 ne, stays_then b from.image to.image l.place [] [] [] was.1 now (λ k out. (tt, tt)))

    pub kept_then : KeptSo b kind before own after first last to (acts ++ to.acts)
    kept_then = record {
      goes = goes_along good at x.goes one;
      blocks = blocks_then;
      cpr = cpr_then from to acts x.goes x.cpr (λ r. r.first == old.first) step.goes.keeps one;
    }

module _ {b : List ℕ} {kind : Kind} {before : List VariableShape} {own : VariableShape} {after : List VariableShape} (good : Good b) (at : StandsAmong b kind before own after) (first last : ℕ) (order : first ≤ last) where
  -- after all of these, and how it goes on from there
  pub record Reached (from to left : Stage) (acts : List Act) (stages : List Stage) : Type 0 where
    pub so : KeptSo b kind before own after first last to (acts ++ flat_map (λ (stage : Stage). stage.acts) stages)
    pub on : GoesOn to.image left.image kind before to.own left.own after left.acts

  pub kept_along : (leaves : List Leaf) (from : Stage) (stages : List Stage) (to left : Stage) (acts : List Act) → KeptSo b kind before own after first last from acts → ((l : Leaf) → IsOneOf leaves l → keeps_some true first last l ≡ true)
      → KeepSome (found_in b kind before own) true first last leaves from stages to → GoAlong kind before after from (stages ++ left ∷ []) → Reached from to left acts stages
  kept_along [] from [] to left acts x some e go = record {
    so = subst (λ (s : Stage). KeptSo b kind before own after first last s (acts ++ [])) e (subst (KeptSo b kind before own after first last from) (sym (append-nil acts)) x);
    on = subst (λ (s : Stage). GoesOn s.image left.image kind before s.own left.own after left.acts) e go.0;
  }
  kept_along [] from (next ∷ more) to left acts x some e go = absurd e
  kept_along (old ∷ leaves) from [] to left acts x some e go = absurd e
  kept_along (old ∷ leaves) from (next ∷ more) to left acts x some e go =
      let r = kept_along leaves next more to left (acts ++ next.acts) (kept_then good at first last from next acts x old (meets first last order old (ranged good at first last from next acts x.goes old e.0 go.0 old e.0.one) (some old (inl refl))) e.0 go.0) (λ l i. some l (inr i)) e.1 go.1 in
      record {
        so = subst (KeptSo b kind before own after first last to) (append_assoc acts next.acts (flat_map (λ (stage : Stage). stage.acts) more)) r.so;
        on = r.on;
      }
