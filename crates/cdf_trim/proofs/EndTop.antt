-- Records cut at the end of an index of which no node is empty, where each block begins before them: the nodes of the top chain stay.
use Rattle.cdf_cuts.proofs.Common.{In, List, Nodes, ap, no_node, node, refl, subst, sym, ℕ, ◌∙◌, ◌∷◌, ◌≡◌}
use Rattle.cdf_cuts.specs.Past.{cut_off}
use Rattle.cdf_edits.specs.Index.Written.{top_chain}
use Rattle.cdf_format.specs.Shape.{VariableShape}
use Rattle.cdf_model.specs.Limits.{record_number_limit}
use Rattle.cdf_puts.specs.SoFar.{TopStays}
use Rattle.cdf_puts.specs.TidyIndex.{IsTidy}
use Rattle.cdf_trim.proofs.EndShape.{cut_ended}
unfoldable use Rattle.cdf_trim.proofs.EndShape.{ended}
use Rattle.cdf_trim.specs.Trimming.{KeepsBlocks}

top_ended : (first : ℕ) (ns : Nodes) → top_chain (ended first ns) ≡ top_chain ns
unfolding ended
top_ended first no_node = refl
top_ended first (node place room es more) = ap (λ (ms : List ℕ). place ∷ ms) (top_ended first more)

pub tops_stay : (own : VariableShape) (first : ℕ) → IsTidy own.index → KeepsBlocks first own.index → TopStays own.index (cut_off own first).index
tops_stay own first tidy keeps =
    let same : top_chain (cut_off own first).index ≡ top_chain own.index = ap (λ (ns : Nodes). top_chain ns) (cut_ended first record_number_limit own.index tidy keeps) ∙ top_ended first own.index in
    λ m i. subst (In m) (sym same) i
