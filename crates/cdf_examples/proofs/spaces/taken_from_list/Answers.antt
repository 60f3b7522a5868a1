use Rattle.cdf_examples.proofs.Common.{[], arith, chain_on, chain_sound, freed100_file, gdr_uir_head, refl, shape, taken_in_list, taking, tiles_from, tiling_sound, uir_type, ◌∷◌}
use Rattle.cdf_examples.proofs.BytesKept.{changed_by, zeros_by}
use Rattle.cdf_examples.proofs.spaces.taken_from_list.Goals as goal

pub returns : goal.returns
unfolding freed100_file taken_in_list shape tiles_from chain_on
returns c = record {
  taken = record {
    place_is = refl;
    list_is = refl;
    length_is = refl;
    eof_is = refl;
    space = record {
      rest_stays = refl;
      tiled = tiling_sound taken_in_list (8 ∷ 320 ∷ 404 ∷ 728 ∷ 800 ∷ []) refl;
      unused_chain = chain_sound taken_in_list (8 ∷ 320 ∷ 404 ∷ 728 ∷ 800 ∷ []) uir_type 320 gdr_uir_head (800 ∷ []) refl;
    };
    stands = refl;
    size_is = refl;
    empty = zeros_by taken_in_list 728 72 refl;
    unlisted = refl;
    back = refl;
    changed = changed_by freed100_file taken_in_list (taking 320 320 gdr_uir_head ((728, 100) ∷ []) 72) (omega arith) refl;
  };
}
