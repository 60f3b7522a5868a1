-- A put of records makes no empty node of an index.
use Rattle.cdf_vars.proofs.Common.{List, [], subst, sym, ℕ}
use Rattle.cdf_edits.specs.Commands.Puts.{new_ranges}
use Rattle.cdf_edits.specs.Index.Blocks.{ranges_of}
use Rattle.cdf_edits.specs.Index.Grown.{with_ranges}
use Rattle.cdf_edits.specs.Space.Acts.{Act}
use Rattle.cdf_format.specs.Shape.{VariableShape}
use Rattle.cdf_puts.specs.SoFar.{IndexSoFar, taken_places}
use Rattle.cdf_puts.specs.TidyIndex.{IsTidy}
use Rattle.cdf_sparse.proofs.TidyGrown.{ranges_tidy}
use Rattle.cdf_sparse.proofs.TidyStages.{outline_is_tidy, tidy_by_outline}

pub put_is_tidy : {b now : List ℕ} {own own' : VariableShape} {first k : ℕ} {acts : List Act} → IndexSoFar b now own own' first k acts → IsTidy own.index → IsTidy own'.index
put_is_tidy {own = own} {own' = own'} {acts = acts} x tidy =
    let ranges = new_ranges (ranges_of own.index) (ranges_of own'.index) in
    tidy_by_outline (taken_places acts) own'.index (subst IsTidy (sym x.nodes.outlined) (outline_is_tidy [] (with_ranges own.index ranges) (ranges_tidy ranges own.index tidy)))
