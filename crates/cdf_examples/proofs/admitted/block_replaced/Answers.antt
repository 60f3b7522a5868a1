use Rattle.cdf_examples.proofs.Common.{Act, ActsFollow, AllKeep, Does, Found, Gave, KeepsFormat, List, Puts, Some, Took, VariableShape, [], allowances, arith, block, chain_on, codes, content, cover, digits, entries_below, entries_in, entries_on, entry_firsts, entry_leaves, false, firsts_of, found_z, leaves_of, levels_on, lower_nodes, nat_le, nat_lt, no_entry, no_fields, nodes_above, nodes_of, nodes_on, nodes_rows, one_node, owned, packed_file, plain_file, pos, put, put_r, r_data, refl, replicate, run_script, sealed, shape, subst, sym, tiles_from, true, used_rows, widest, widest_below, with_place, with_place_in, ℕ, ◌&&◌, ◌+◌, ◌∷◌, ◌≡◌}
use Rattle.cdf_edits.specs.Commands.PutSteps.{BlockWritten, Goes, Put, PutsLeaf, Stage, bytes_after, step_changes}
use Rattle.cdf_edits.specs.Index.Blocks.{covers}
use Rattle.cdf_format.specs.Index.{leaf}
use Rattle.cdf_format.specs.WellFormed.{Good}
use Rattle.cdf_examples.proofs.Tests.{keeps_rules}
use Rattle.cdf_examples.proofs.Deciding.{acts_follow_if, all_keep_if}
use Rattle.cdf_examples.proofs.Deciding.{of_variable, freed_if}
use Rattle.cdf_examples.proofs.Packing.{ones_packed}
use Rattle.cdf_examples.proofs.Stepping.{spare_by_step, unused_by_step}
use Rattle.cdf_examples.proofs.admitted.block_replaced.Goals as goal

abbrev acts : List Act
acts = Took 952 52 ∷ Gave 784 28 ∷ []

abbrev before : VariableShape
before = record { vdr = 404; index = one_node 812 7 (block 0 0 784 true no_entry); cpr = 756 ∷ [] }

abbrev after : VariableShape
after = record { vdr = 404; index = one_node 812 7 (block 0 0 952 false no_entry); cpr = 756 ∷ [] }

abbrev found : Found
found = found_z (r_data (pos 0) ((0, replicate 40 0) ∷ []))

follow : ActsFollow packed_file plain_file acts
unfolding packed_file plain_file shape content tiles_from chain_on nodes_of lower_nodes leaves_of entry_leaves entries_on nodes_on levels_on
follow = acts_follow_if packed_file plain_file acts refl refl refl refl refl refl refl

keep : AllKeep packed_file plain_file (allowances packed_file (content packed_file) (shape packed_file) (put_r (codes "1"))) acts (owned packed_file (shape packed_file))
unfolding packed_file plain_file shape content tiles_from chain_on nodes_of lower_nodes leaves_of entry_leaves entries_on nodes_on levels_on
keep = all_keep_if packed_file plain_file (allowances packed_file (content packed_file) (shape packed_file) (put_r (codes "1"))) acts (owned packed_file (shape packed_file)) refl

-- ---- the only step, which MaxRec leaves as it is

abbrev ones : Put
ones = record { found = found; rec = 0; raw = replicate 40 1 }

abbrev start : Stage
start = record { image = packed_file; own = before; acts = []; next = 0 }

abbrev last : Stage
last = record { image = plain_file; own = after; acts = acts; next = 1 }

no_trailer : sealed plain_file ≡ plain_file
unfolding plain_file
no_trailer = refl

good : Good plain_file
unfolding plain_file shape content tiles_from chain_on nodes_of lower_nodes leaves_of entry_leaves entries_on nodes_on levels_on nodes_rows used_rows
good = subst (λ (f : List ℕ). KeepsFormat f) (sym no_trailer) (keeps_rules plain_file refl)

step_keep : AllKeep packed_file plain_file (step_changes packed_file found (covers 0)) acts (owned packed_file (shape packed_file))
unfolding packed_file plain_file shape content tiles_from chain_on nodes_of lower_nodes leaves_of entry_leaves entries_on nodes_on levels_on
step_keep = all_keep_if packed_file plain_file (step_changes packed_file found (covers 0)) acts (owned packed_file (shape packed_file)) refl

goes : Goes found start last (covers 0)
unfolding packed_file plain_file shape content tiles_from chain_on nodes_of lower_nodes leaves_of entry_leaves entries_on nodes_on levels_on
goes = record {
  good = good;
  stands = refl;
  acts_follow = follow;
  keeps = step_keep;
  unused = unused_by_step packed_file plain_file (nodes_of before.index) (nodes_of after.index) acts refl;
  spare = spare_by_step packed_file plain_file (nodes_of before.index) (nodes_of after.index) acts refl;
  tail = refl;
  freed = freed_if packed_file plain_file no_fields acts refl;
}

written : BlockWritten packed_file plain_file true 404 acts (leaf 0 0 952 false) (bytes_after ones packed_file 404 0 0 (Some (leaf 0 0 784 true)))
unfolding packed_file plain_file put
written = record {
  plain_is = refl;
  packed = λ rle. record { chosen = λ packed bytes packs longest. subst (λ (n : ℕ). false ≡ (nat_le 40 67108864 && nat_lt (24 + n) 52)) (sym (ones_packed 40 packed packs)) refl; longest = λ e. absurd cc };
  spare = λ i low high. absurd (omega arith);
  reserved = λ packed. absurd cc;
}

leaf_put : PutsLeaf ones start last
unfolding packed_file plain_file nodes_of lower_nodes leaves_of entry_leaves firsts_of entry_firsts with_place with_place_in
leaf_put = record { new = leaf 0 0 952 false; at = 0; more = omega arith; has = refl; range_is = refl; step = refl; written = written; goes = goes; next_is = refl }

does : Does packed_file (put_r (codes "1")) plain_file acts
unfolding packed_file plain_file shape content tiles_from chain_on nodes_of lower_nodes leaves_of entry_leaves entries_on nodes_on levels_on
does = of_variable packed_file plain_file (codes "R") (λ found v v'. Puts packed_file plain_file found 0 v v' acts found.variable.rle) found before after refl refl refl (record {
  raw = replicate 40 1;
  raw_long = refl;
  last = last;
  puts = record { start = start; stages = last ∷ []; begins = refl; puts = (leaf_put, refl); acts_are = refl };
  past = omega arith;
  changed = record { longer = omega arith; same = λ place less outside. refl };
  as_long = refl;
  max_rec_is = refl;
  r_max_rec = refl;
})

pub returns : goal.returns
unfolding packed_file plain_file shape content tiles_from chain_on nodes_of lower_nodes leaves_of entry_leaves entries_on nodes_on levels_on nodes_rows used_rows run_script digits entries_in entries_below widest widest_below nodes_above firsts_of entry_firsts cover
returns c = record {
  rules = keeps_rules plain_file refl;
  made = refl;
  follows = record { within = omega arith; acts_follow = follow; keeps = keep; does = does };
}
