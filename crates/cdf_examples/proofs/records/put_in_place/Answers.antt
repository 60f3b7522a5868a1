use Rattle.cdf_examples.proofs.Common.{Bool, UnwrittenStay, arith, chain_on, content, cover, entries_below, entries_in, entries_on, entry_firsts, entry_leaves, false, first_written, firsts_of, in_place_file, inl, inr, leaves_of, leb-true, levels_on, lower_nodes, max_rec_touches, nodes_of, nodes_on, records_data, records_file, records_index, refl, run_script, shape, suc, t_shape, tiles_from, true, widest, widest_below, written_in, zero, ◌++◌, ◌||◌, ◌≡◌}
use Rattle.std.proofs.Common.{◌&&◌}
use Rattle.cdf_model.specs.declared.kinds.Kind.TheVariants as kinds
use Rattle.cdf_examples.proofs.BytesKept.{changed_by}
use Rattle.cdf_examples.proofs.records.put_in_place.Goals as goal

unwritten : UnwrittenStay records_file in_place_file records_data 1 (t_shape records_index) (t_shape records_index)
unfolding records_file in_place_file leaves_of entry_leaves
unwritten zero covered other = refl
unwritten (suc zero) covered (inl low) = absurd (omega arith)
unwritten (suc zero) covered (inr high) = absurd (omega arith)
unwritten (suc (suc zero)) covered other = refl
unwritten (suc (suc (suc zero))) covered other = refl
unwritten (suc (suc (suc (suc k)))) covered other = let l = leb-true (suc (suc (suc (suc k)))) 3 (second _ _ covered) in absurd (omega arith)
  where
    second : (p q : Bool) → ((p && q) || false) ≡ true → q ≡ true
    second true true e = refl
    second true false e = e
    second false q e = absurd (none e)
      where
        none : false ≡ true → ⊥
        none e = absurd cc

pub returns : goal.returns
unfolding records_file in_place_file shape content tiles_from chain_on nodes_of lower_nodes leaves_of entry_leaves entries_on nodes_on levels_on entries_in entries_below widest widest_below firsts_of entry_firsts cover run_script
returns c = record {
  content = refl;
  made = refl;
  in_place = refl;
  acts = (refl, (refl, refl));
  puts = record {
    in_place = λ stays. changed_by records_file in_place_file (max_rec_touches records_file kinds.Z 404 ++ written_in records_data (first_written records_data 1) 1 (leaves_of records_index)) (omega arith) refl;
    others_stay = (λ unwritten. absurd cc, tt);
    unwritten_stay = unwritten;
    padded = (λ is_new. absurd cc, tt);
    blocks = (λ changed. record { packed = λ rle. absurd cc; spare = record { each = λ i low high. absurd (omega arith) }; reserved = λ packed. absurd cc }, tt);
  };
}
