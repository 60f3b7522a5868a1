use Rattle.cdf_examples.proofs.Common.{Act, ActsFollow, AllKeep, AreTight, EntriesTight, FreedStay, FullFromLeft, Gave, IsPyramid, List, MakesIndex, NodeSpareStays, Shape, Took, UnusedEntries, [], allowances, ap, arith, chain_on, codes, content, content_of, entry_leaves, inl, inr, leaves_of, length, lower_nodes, no_fields, nodes_above, nodes_at, nodes_below, nodes_of, owned, refl, reindex_w, room, room_in, shape, subst, suc, sum, sym, two_levels_made_file, two_levels_made_index, w_shape, wide_node_file, wide_node_index, zero, ℕ, ◌+◌, ◌∷◌, ◌≡◌, ◌≤◌, ◌⊎◌}
use Rattle.std.proofs.Common.{map}
use Rattle.cdf_examples.proofs.Deciding.{follow_in, keep_in, bare_if, freed_in}
use Rattle.cdf_examples.proofs.Reindexing.{reindexes}
use Rattle.cdf_examples.proofs.Walking.{shape_by}
use Rattle.cdf_examples.proofs.WideNodes.{wide_shape, reindexed_records, reindexed_shape, wide_end_is, wide_shape_is, names_w, wide_index_is}
use Rattle.cdf_index.specs.Order.{nodes_passed, passed_from}
use Rattle.cdf_examples.proofs.admitted.two_levels_made.Goals as goal

abbrev made_acts : List Act
made_acts = Took 2661 1052 ∷ Took 3713 1052 ∷ Took 4765 1052 ∷ Gave 1593 1068 ∷ []

abbrev made_shape : Shape
made_shape = reindexed_shape two_levels_made_index

made_shape_is : shape two_levels_made_file ≡ made_shape
unfolding two_levels_made_file chain_on
made_shape_is = shape_by two_levels_made_file 5817 reindexed_records made_shape refl refl refl

follow : ActsFollow wide_node_file two_levels_made_file made_acts
unfolding wide_node_file two_levels_made_file
follow = follow_in wide_node_file two_levels_made_file wide_shape made_shape made_acts wide_shape_is made_shape_is refl refl refl refl refl refl refl

keep : AllKeep wide_node_file two_levels_made_file (allowances wide_node_file (content wide_node_file) (shape wide_node_file) reindex_w) made_acts (owned wide_node_file (shape wide_node_file))
unfolding wide_node_file two_levels_made_file nodes_of lower_nodes leaves_of entry_leaves
keep = keep_in wide_node_file two_levels_made_file wide_shape made_shape reindex_w made_acts wide_shape_is made_shape_is refl

pyramid : IsPyramid two_levels_made_index
unfolding nodes_at nodes_below leaves_of entry_leaves AreTight EntriesTight
pyramid = record {
  full = full;
  even = even;
  tight = (((refl, refl), (tt, tt), ((refl, refl), (tt, tt), tt)), tt);
}
  where
    full : (levels : ℕ) → FullFromLeft (nodes_at levels two_levels_made_index)
    full zero = tt
    full (suc zero) = (refl, tt)
    full (suc (suc levels)) = tt

    even : (levels : ℕ) → (nodes_at (suc levels) two_levels_made_index ≡ []) ⊎ (length (nodes_at (suc levels) two_levels_made_index) ≡ sum (map (λ pair. pair.1) (nodes_at levels two_levels_made_index)))
    even zero = inr refl
    even (suc levels) = inl refl

-- ---- the entries that the three nodes do not use

root_bare : UnusedEntries wide_node_file two_levels_made_file [] [] made_acts 4765 × NodeSpareStays wide_node_file two_levels_made_file made_acts 4765
unfolding two_levels_made_file
root_bare = bare_if wide_node_file two_levels_made_file made_acts 64 2 4765 refl

first_bare : UnusedEntries wide_node_file two_levels_made_file [] [] made_acts 2661 × NodeSpareStays wide_node_file two_levels_made_file made_acts 2661
unfolding two_levels_made_file
first_bare = bare_if wide_node_file two_levels_made_file made_acts 64 64 2661 refl

second_bare : UnusedEntries wide_node_file two_levels_made_file [] [] made_acts 3713 × NodeSpareStays wide_node_file two_levels_made_file made_acts 3713
unfolding two_levels_made_file
second_bare = bare_if wide_node_file two_levels_made_file made_acts 64 1 3713 refl

freed : FreedStay wide_node_file two_levels_made_file no_fields made_acts
unfolding wide_node_file two_levels_made_file
freed = freed_in wide_node_file two_levels_made_file no_fields made_shape made_acts made_shape_is refl

makes : MakesIndex wide_node_file two_levels_made_file (w_shape wide_node_index) (w_shape two_levels_made_index) made_acts
unfolding wide_node_file two_levels_made_file nodes_of lower_nodes leaves_of entry_leaves nodes_at nodes_below nodes_above
makes = record {
  acts_are = refl;
  leaves_stay = refl;
  fewest = refl;
  filled = pyramid;
  wide = (refl, (refl, (refl, tt)));
  alone = (refl, (refl, (refl, tt)));
  nodes = record { unused = (root_bare.0, (first_bare.0, (second_bare.0, tt))); spare = (root_bare.1, (first_bare.1, (second_bare.1, tt))) };
  tail = refl;
  freed = freed;
}

index : (shape two_levels_made_file).z_variables ≡ w_shape two_levels_made_index ∷ []
index = ap (λ (s : Shape). s.z_variables) made_shape_is

new_length : length two_levels_made_file ≡ 5817
unfolding two_levels_made_file
new_length = refl

-- three nodes of 64 entries
room_is : room wide_node_file reindex_w ≡ 3156
unfolding wide_node_file content leaves_of entry_leaves nodes_above
room_is = subst (λ (s : Shape). room_in (content_of wide_node_file s) s reindex_w ≡ 3156) (sym wide_shape_is) refl

within : length two_levels_made_file ≤ length wide_node_file + room wide_node_file reindex_w
within = omega (arith, new_length, wide_end_is, room_is)

-- ---- how many nodes are passed to a record

first_passed : nodes_passed 0 two_levels_made_index ≡ 2
unfolding nodes_passed passed_from
first_passed = refl

last_passed : nodes_passed 64 two_levels_made_index ≡ 2
unfolding nodes_passed passed_from
last_passed = refl

passed_before : nodes_passed 64 wide_node_index ≡ 1
unfolding nodes_passed passed_from
passed_before = refl

pub returns : goal.returns
returns c = record {
  index = index;
  first = first_passed;
  last = last_passed;
  before = passed_before;
  follows = record {
    within = within;
    acts_follow = follow;
    keeps = keep;
    does = reindexes wide_node_file two_levels_made_file (codes "W") made_acts (w_shape wide_node_index) (w_shape two_levels_made_index) names_w wide_index_is index makes;
  };
}
