-- A put as far as it went: how it begins where nothing is cut, that it goes one leaf further, and what holds of it by its steps.
use Rattle.std.specs.Prelude.{◌≡◌, Bool, true, false}
use Rattle.std.proofs.lemmas.List.{flat_map_more}
use Rattle.cdf_edits.proofs.Common.{Act, List, VariableShape, [], ap, refl, subst, sym, ℕ, ◌++◌, ◌∙◌, ◌∷◌}
use Rattle.cdf_edits.specs.Commands.PutSteps.{Put, Stage, Begins, CutsPast, PutsLeaf, PutsLeaves, PutsUpTo}
use Rattle.cdf_edits.specs.Index.Blocks.{cuts_before_put, first_written}
use Rattle.cdf_format.specs.WellFormed.{Good}

abbrev at_start : List ℕ → Put → VariableShape → Stage
at_start b p before = record { image = b; own = before; acts = []; next = first_written p.found.variable p.rec }

pub put_starts : (b : List ℕ) (p : Put) (before : VariableShape) → cuts_before_put p.found.variable p.rec ≡ false → PutsUpTo b p before (at_start b p before) []
put_starts b p before e = record {
  start = at_start b p before;
  stages = [];
  begins = subst (Begins p.found (at_start b p before) (at_start b p before)) (sym e) refl;
  puts = refl;
  acts_are = refl;
}

leaves_more : (p : Put) (from : Stage) (stages : List Stage) (mid to : Stage) → PutsLeaves p from stages mid → PutsLeaf p mid to → PutsLeaves p from (stages ++ to ∷ []) to
leaves_more p from [] mid to e l = (subst (λ (s : Stage). PutsLeaf p s to) (sym e) l, refl)
leaves_more p from (next ∷ more) mid to h l = (h.0, leaves_more p next more mid to h.1 l)

pub put_goes_on : {b : List ℕ} {p : Put} {before : VariableShape} {mid to : Stage} {acts : List Act} → PutsUpTo b p before mid acts → PutsLeaf p mid to → PutsUpTo b p before to (acts ++ to.acts)
put_goes_on {p = p} {mid = mid} {to = to} so l = record {
  start = so.start;
  stages = so.stages ++ to ∷ [];
  begins = so.begins;
  puts = leaves_more p so.start so.stages mid to so.puts l;
  acts_are = ap (λ (acts : List Act). acts ++ to.acts) so.acts_are ∙ flat_map_more (λ (stage : Stage). stage.acts) so.start.acts so.stages to;
}

-- What holds at the start, and is kept by the cut and by the step of each leaf, holds as far as a put went.
module _ {p : Put} (P : Stage → Type 0) (cut : (from to : Stage) → P from → CutsPast p.found from to → P to) (leaf : (from to : Stage) → P from → PutsLeaf p from to → P to) where
  by_begin : (from to : Stage) (cuts : Bool) → P from → Begins p.found from to cuts → P to
  by_begin from to true x b = cut from to x b
  by_begin from to false x e = subst P e x

  by_leaves : (from : Stage) (stages : List Stage) (to : Stage) → P from → PutsLeaves p from stages to → P to
  by_leaves from [] to x e = subst P e x
  by_leaves from (next ∷ more) to x h = by_leaves next more to (leaf from next x h.0) h.1

  pub by_steps : {b : List ℕ} {before : VariableShape} {to : Stage} {acts : List Act} → P (at_start b p before) → PutsUpTo b p before to acts → P to
  by_steps {b = b} {before = before} {to = to} x so = by_leaves so.start so.stages to (by_begin (at_start b p before) so.start (cuts_before_put p.found.variable p.rec) x so.begins) so.puts

-- each image on the way is good
pub put_is_good : {b : List ℕ} {p : Put} {before : VariableShape} {to : Stage} {acts : List Act} → Good b → PutsUpTo b p before to acts → Good to.image
put_is_good {p = p} good so = by_steps {p = p} (λ (stage : Stage). Good stage.image) (λ from to x cut. cut.goes.good) (λ from to x leaf. leaf.goes.good) good so
