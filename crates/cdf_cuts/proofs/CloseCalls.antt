-- What the calls by which records go come to, where later ones close up.
use Rattle.cdf_cuts.proofs.Common.{List, None, Option, Some, ap, arith, image_limit, index_at, inl, inr, leaves_of, length, number, subst, sym, ℕ, ◌*◌, ◌+◌, ◌-◌, ◌∙◌, ◌≡◌, ◌≤◌, false}
use Rattle.cdf_edits.proofs.Common.{Good, Kind, VariableShape, record_bytes, vdr_vxr_head}
use Rattle.cdf_edits.proofs.Edits.Common.{StandsAmong}
use Rattle.cdf_index.specs.Sight.{seen}
use Rattle.cdf_index.specs.declared.nodes.Leaf.{Leaf as FoundLeaf}
use Rattle.cdf_cuts.proofs.BlocksClosed.{index_cut, records_closed}
use Rattle.cdf_cuts.proofs.CutCalls as by
use Rattle.cdf_cuts.proofs.LaterFound.{found_room}
use Rattle.cdf_cuts.specs.Closing.{RecordsClosed}
use Rattle.cdf_cuts.specs.Cut.{IsCut}
use Rattle.cdf_cuts.specs.Moving.{IsLater, JoinsFront}
use Rattle.cdf_cuts.specs.Planning.{closing}
use Rattle.cdf_format.specs.Shape.{is_compressed}

module _ {b : List ℕ} (good : Good b) {kind : Kind} {before : List VariableShape} {own : VariableShape} {after : List VariableShape} {vdr : ℕ} (among : StandsAmong b kind before own after) (is : own.vdr ≡ vdr) {x : List ℕ} {head : ℕ} (same : x ≡ b) (head_is : head ≡ number b vdr vdr_vxr_head) where
  index_same : index_at x head ≡ own.index
  index_same = (λ i. index_at (same i) (head_is i)) ∙ (by.index_is b good among is).1

  size_own : {rec_bytes : ℕ} → rec_bytes ≡ record_bytes b vdr → rec_bytes ≡ record_bytes b own.vdr
  size_own size = size ∙ ap (record_bytes b) (sym is)

  loose_own : is_compressed b vdr ≡ false → is_compressed b own.vdr ≡ false
  loose_own unpacked = ap (is_compressed b) is ∙ unpacked

  module _ (last : ℕ) {later : Option FoundLeaf} (found : IsLater last (leaves_of (index_at x head)) later) where
    of_own : (o : Option FoundLeaf) → later ≡ o → IsLater last (leaves_of own.index) o
    of_own o e = subst (IsLater last (leaves_of own.index)) e (rw index_same at found)

    module _ {first rec_bytes : ℕ} {mid : List ℕ} (size : rec_bytes ≡ record_bytes b vdr) (order : first ≤ last) (short : length b ≤ image_limit) (c : IsCut b mid kind own (closing first last)) (unpacked : is_compressed b vdr ≡ false) where
      pub room_there : (leaf : FoundLeaf) → later ≡ Some leaf → leaf.at + (12 + (leaf.last + 1 - leaf.first) * rec_bytes) ≤ length mid
      room_there leaf e = rw (size_own size) (omega (arith, found_room good among (loose_own unpacked) leaf (of_own (Some leaf) e).0, (index_cut good among order short c (loose_own unpacked)).long))

      pub closed_some : {now : List ℕ} (leaf : FoundLeaf) → later ≡ Some leaf → JoinsFront mid now rec_bytes first last (seen leaf) → RecordsClosed b now kind before own after first last
      closed_some {now = now} leaf e joins =
          let o = of_own (Some leaf) e in
          records_closed good among order short c (loose_own unpacked) (inr (seen leaf, (o.0, record { has_later = o.1; joins = subst (λ (n : ℕ). JoinsFront mid now n first last (seen leaf)) (size_own size) joins })))

      pub closed_none : {now : List ℕ} → later ≡ None → now ≡ mid → RecordsClosed b now kind before own after first last
      closed_none e still = records_closed good among order short c (loose_own unpacked) (inl (still, of_own None e))
