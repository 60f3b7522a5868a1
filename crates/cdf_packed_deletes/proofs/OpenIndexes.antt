-- An index in which the block of a leaf keeps its front alone: the Firsts of its entries, and how wide its nodes are.
use Rattle.std.proofs.Common.{List, ap, arith, inl, inr, refl, sym, ℕ, ◌++◌, ◌∙◌, ◌∷◌, ◌≡◌, ◌==◌}
use Rattle.std.specs.Prelude.{max}
use Rattle.cdf_edits.proofs.Common.{either, nat_tests}
use Rattle.cdf_blocks.specs.Shortened.{with_range, with_range_in}
use Rattle.cdf_puts.proofs.Common.{widest, widest_below}
use Rattle.cdf_edits.specs.Index.Blocks.{entry_firsts, firsts_of}
use Rattle.cdf_format.specs.Index.{Entries, Leaf, Nodes, block, lower, no_entry, no_node, node}

module _ (f : ℕ) (new : Leaf) (same : new.first ≡ f) where
  mutual
    unfolding with_range with_range_in firsts_of entry_firsts

    pub firsts_range : (ns : Nodes) → firsts_of (with_range f new ns) ≡ firsts_of ns
    firsts_range no_node = refl
    firsts_range (node place room es more) = λ i. firsts_range_in es i ++ firsts_range more i

    firsts_range_in : (es : Entries) → entry_firsts (with_range_in f new es) ≡ entry_firsts es
    firsts_range_in no_entry = refl
    firsts_range_in (block first last place packed es) = elim (either (first == f)) [
      | inl t ↦ (let e : first ≡ f = grind (arith, nat_tests, t) in let q : new.first ≡ first = same ∙ sym e in rw t (ap (λ (n : ℕ). n ∷ entry_firsts es) q))
      | inr n ↦ rw n (ap (λ (xs : List ℕ). first ∷ xs) (firsts_range_in es))
    ]
    firsts_range_in (lower first last nodes es) = λ i. first ∷ (firsts_range nodes i ++ firsts_range_in es i)

  mutual
    unfolding with_range with_range_in widest widest_below

    pub widest_range : (ns : Nodes) → widest (with_range f new ns) ≡ widest ns
    widest_range no_node = refl
    widest_range (node place room es more) = λ i. max room (max (widest_range_in es i) (widest_range more i))

    widest_range_in : (es : Entries) → widest_below (with_range_in f new es) ≡ widest_below es
    widest_range_in no_entry = refl
    widest_range_in (block first last place packed es) = elim (either (first == f)) [ inl t ↦ rw t refl | inr n ↦ rw n (widest_range_in es) ]
    widest_range_in (lower first last nodes es) = λ i. max (widest_range nodes i) (widest_range_in es i)
