-- An index that one variable has, and the rules on it where another one has it too.
use Rattle.cdf_structure.proofs.Common.{Block, Bool, HasRoom, HaveRoom, Index, IsBoth, IsRight, KnowsIndexes, List, MeetsIndex, None, Ok, Option, Room, WalksIndex, add-one, block_rows, get_or, is_compressed, length, negsuc, nodes_rows, number, pos, record_bytes, record_number_limit, refl, subst, sym, take, vdr_vxr_head, ℕ, ◌+◌, ◌<◌, ◌≡◌}
use Rattle.std.specs.Prelude.{IfSome}
use Rattle.cdf_structure.specs.Known.{IsUnpacked, room_known, size_known}
use Rattle.cdf_structure.specs.declared.known.KnownIndexes.{KnownIndexes}
use Rattle.cdf_structure.proofs.Findings.{none_found}
use Rattle.cdf_structure.proofs.IndexMet.{index_again}
use Rattle.cdf_structure.proofs.IndexSteps.{index_holds}
use Rattle.cdf_structure.proofs.Rows.{holds_more}

-- an index that was walked and found right is right for each variable with its link
pub right_again : (b ts : List ℕ) (vdr : ℕ) (compressed : Bool) (bytes : ℕ) (room : Room) (index : Index) → WalksIndex b ts vdr (Ok index) → index.broken ≡ None → HaveRoom b ts index.blocks.items compressed bytes room → IsRight b ts (number b vdr vdr_vxr_head) room
right_again b ts vdr compressed bytes room index walked none have = λ other same fits.
    let nodes = walked.0 in
    let meets = walked.1 in
    let again : MeetsIndex b ts other index nodes = record { walk_is = index_again b ts vdr other index.nodes.list.items nodes same meets.walk_is; blocks_are = meets.blocks_are; found = meets.found } in
    index_holds b ts other index nodes again (is_compressed b other) refl (record_bytes b other) refl (none_found (nodes_rows b ts (negsuc 0) (pos record_number_limit) nodes) index.broken meets.found none)
    (have.1 (is_compressed b other) (record_bytes b other) fits)

-- ---- what is known

pub knows_none : (b ts : List ℕ) (known : KnownIndexes) → ((head : ℕ) → room_known known head ≡ None) → ((place : ℕ) → size_known known place ≡ None) → KnowsIndexes b ts known
knows_none b ts known no_room no_size = record {
  rooms = λ head. subst (λ (o : Option Room). IfSome o (IsRight b ts head)) (sym (no_room head)) tt;
  sizes = λ place. subst (λ (o : Option ℕ). IfSome o (IsUnpacked b place)) (sym (no_size place)) tt;
}

-- ---- the room of blocks

-- one block more
pub have_room_more : (b ts : List ℕ) (blocks : List Block) (i : ℕ) (compressed : Bool) (bytes : ℕ) (room share both : Room) (d : Block) → i < length blocks → IsBoth room share both
    → HaveRoom b ts (take i blocks) compressed bytes room → HasRoom b ts (get_or blocks i d) compressed bytes share → HaveRoom b ts (take (i + 1) blocks) compressed bytes both
have_room_more b ts blocks i compressed bytes room share both d lt is before here =
    let fit = is compressed bytes before.0 here.0 in
    (fit.0, λ other more fits. let two = fit.1 other more fits in rw add-one (holds_more (block_rows b ts other more) blocks i d lt (before.1 other more two.0) (here.1 other more two.1)))
