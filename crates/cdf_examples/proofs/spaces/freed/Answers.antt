use Rattle.cdf_examples.proofs.Common.{[], arith, chain_on, chain_sound, entries_on, gdr_uir_head, giving, half_deleted, levels_on, nodes_on, refl, shape, tiles_from, tiling_sound, two_variables, uir_type, ◌∷◌}
use Rattle.cdf_examples.proofs.BytesKept.{changed_by}
use Rattle.cdf_examples.proofs.spaces.freed.Goals as goal

pub returns : goal.returns
unfolding half_deleted two_variables shape tiles_from chain_on entries_on nodes_on levels_on
returns c = record {
  freed = record {
    list_is = refl;
    length_is = refl;
    records_stay = refl;
    space = record {
      rest_stays = refl;
      tiled = tiling_sound two_variables (8 ∷ 320 ∷ 404 ∷ 728 ∷ 1072 ∷ 1416 ∷ 1760 ∷ 1817 ∷ 1874 ∷ []) refl;
      unused_chain = chain_sound two_variables (8 ∷ 320 ∷ 404 ∷ 728 ∷ 1072 ∷ 1416 ∷ 1760 ∷ 1817 ∷ 1874 ∷ []) uir_type 320 gdr_uir_head (728 ∷ 1760 ∷ []) refl;
    };
    stands = refl;
    back = refl;
    changed = changed_by half_deleted two_variables (giving 320 (1760 ∷ []) 728 344) (omega arith) refl;
  };
}
