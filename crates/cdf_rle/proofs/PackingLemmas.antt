-- How far bytes are packed.
use Rattle.std.proofs.Common.{◌≡◌, ◌∙◌, ℕ, suc, ◌+◌, ◌-◌, ◌<◌, ◌≤◌, List, [], ◌∷◌, ◌++◌, length, take, drop, get_or, ap, sym, subst, arith, add-zero, append_assoc, length-drop}
use Rattle.std.specs.Prelude.{min}
use Rattle.std.proofs.lemmas.List.{append-nil, drop-drop, drop_all, get_or-drop}
use Rattle.cdf_model.specs.RunLengths.{Packs, IsLongest}
use Rattle.cdf_rle.specs.Stretches.{data_length, zero_length}
use Rattle.cdf_rle.proofs.DataLemmas.{data_length-le, packs-data, longest-data}
use Rattle.cdf_rle.proofs.ZeroLemmas.{zero_length-le, zero_length-some, packs-run, longest-run}

-- The bytes before a place are packed: whatever packs the others packs all behind what there is.
pub record IsPacked (bytes packed : List ℕ) (place : ℕ) : Type 0 where
  pub within : place ≤ length bytes
  pub packs : (more : List ℕ) → Packs more (drop place bytes) → Packs (packed ++ more) bytes
  pub longest : (more : List ℕ) → Packs more (drop place bytes) → IsLongest more → IsLongest (packed ++ more)

pub packed_none : (bytes : List ℕ) → IsPacked bytes [] 0
packed_none bytes = record { within = omega arith; packs = λ more packs. packs; longest = λ more packs longest. longest }

-- a piece more, which packs the bytes up to an end
packed_more : (bytes packed piece : List ℕ) (place end : ℕ) → IsPacked bytes packed place → end ≤ length bytes
    → ((more : List ℕ) → Packs more (drop end bytes) → Packs (piece ++ more) (drop place bytes))
    → ((more : List ℕ) → Packs more (drop end bytes) → IsLongest more → IsLongest (piece ++ more))
    → IsPacked bytes (packed ++ piece) end
packed_more bytes packed piece place end before within packs longest = record {
  within = within;
  packs = λ more rest. rw append_assoc (before.packs (piece ++ more) (packs more rest));
  longest = λ more rest is. rw append_assoc (before.longest (piece ++ more) (packs more rest) (longest more rest is));
}

pub packed-data : (bytes packed : List ℕ) (place end : ℕ) → IsPacked bytes packed place → end ≡ place + data_length (drop place bytes)
    → IsPacked bytes (packed ++ take (end - place) (drop place bytes)) end
packed-data bytes packed place end before ends =
    let count : end - place ≡ data_length (drop place bytes) = omega arith in
    let rest : drop (data_length (drop place bytes)) (drop place bytes) ≡ drop end bytes = drop-drop _ _ bytes ∙ ap (λ (n : ℕ). drop n bytes) (sym ends) in
    packed_more bytes packed _ place end before
    (omega (arith, data_length-le (drop place bytes), length-drop place bytes, before.within))
    (λ more packs. rw count (packs-data (drop place bytes) more (rw rest packs)))
    (λ more packs longest. rw count (longest-data (drop place bytes) more longest))

pub packed-run : (bytes packed : List ℕ) (place end : ℕ) → IsPacked bytes packed place → place < length bytes → get_or bytes place 0 ≡ 0 → end ≡ place + min 256 (zero_length (drop place bytes))
    → IsPacked bytes (packed ++ 0 ∷ (end - place - 1) ∷ []) end
packed-run bytes packed place end before inside is_zero ends =
    let long : length (drop place bytes) ≡ length bytes - place = length-drop place bytes in
    let first : get_or (drop place bytes) 0 0 ≡ 0 = get_or-drop place bytes 0 0 ∙ ap (λ (n : ℕ). get_or bytes n 0) (add-zero place) ∙ is_zero in
    let some : 0 < zero_length (drop place bytes) = zero_length-some (drop place bytes) (omega arith) first in
    let most : zero_length (drop place bytes) ≤ length (drop place bytes) = zero_length-le (drop place bytes) in
    let count : suc (end - place - 1) ≡ min 256 (zero_length (drop place bytes)) = omega arith in
    let next : place + suc (end - place - 1) ≡ end = omega arith in
    let rest : drop (suc (end - place - 1)) (drop place bytes) ≡ drop end bytes = drop-drop _ _ bytes ∙ ap (λ (n : ℕ). drop n bytes) next in
    packed_more bytes packed _ place end before (omega arith)
    (λ more packs. packs-run (drop place bytes) more (end - place - 1) (omega arith) (rw rest packs))
    (λ more packs longest. longest-run (drop place bytes) more (end - place - 1) count (rw rest packs) longest)

pub record IsPackedWhole (bytes packed : List ℕ) : Type 0 where
  pub packs : Packs packed bytes
  pub longest : IsLongest packed

pub packed_all : (bytes packed : List ℕ) (place : ℕ) → IsPacked bytes packed place → length bytes ≤ place → IsPackedWhole bytes packed
packed_all bytes packed place before ends =
    let none : drop place bytes ≡ [] = drop_all place bytes ends in
    record {
      packs = subst (λ (xs : List ℕ). Packs xs bytes) (append-nil packed) (before.packs [] none);
      longest = subst IsLongest (append-nil packed) (before.longest [] none tt);
    }
