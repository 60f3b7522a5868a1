-- What the calls ask for that add a block, and what they come to.
use Rattle.cdf_blocks.proofs.Common.{Bool, In, List, ap, arith, length, subst, sym, zero, suc, ℕ, ◌+◌, ◌∷◌, ◌++◌, ◌≡◌, ◌≤◌, ◌⊎◌}
use Rattle.cdf_edits.proofs.Common.{Good, IsBody, Kind, VariableShape, cvvr_type, image_limit, number, shape, type_of_body, variables, vdr_vxr_head, vdrs, vvr_type, vxr_bytes}
use Rattle.cdf_edits.proofs.Edits.Common.{fits, has}
use Rattle.cdf_edits.proofs.Edits.StandsAmong.{in_middle}
use Rattle.cdf_edits.specs.Commands.Room.{widest}
use Rattle.cdf_edits.specs.Index.Grown.{new_room}
use Rattle.cdf_index.proofs.OneVariable.{among_all}
use Rattle.cdf_index.specs.Adding.{AddsLeaf, NodeTaken}
use Rattle.cdf_index.specs.Finding.{index_at}
use Rattle.cdf_index.specs.Starting.{IsStart}
use Rattle.cdf_leaves.proofs.Own.{searchable}
use Rattle.cdf_puts.proofs.LeafCounts.{new_room_widest}
use Rattle.cdf_blocks.specs.Blocks.{StoredAs, block_body}
use Rattle.cdf_blocks.proofs.NewBlock.{body_is, body_long, bytes_short}
use Rattle.cdf_blocks.proofs.BlockBytes.{stored_room}
use Rattle.cdf_packed_puts.specs.Adding.{BlockAdded, HasStored, HasVacancy, IsVacancy}
use Rattle.cdf_packed_puts.specs.declared.adding.Vacancy.{Vacancy}
use Rattle.cdf_packed_puts.proofs.AddedGoes.{block_added}
use Rattle.cdf_packed_puts.proofs.AddedLeaf.{block_types, leaf_of_body}
use Rattle.std.proofs.Common.{max}

node_long : (b now : List ℕ) (room at wide : ℕ) → NodeTaken b now room at → room ≤ wide → length now ≤ length b + vxr_bytes wide
node_long b now zero at wide taken le = omega (arith, ap (λ (xs : List ℕ). length xs) taken.0)
node_long b now (suc room) at wide taken le = omega (arith, taken.longest)

-- so many bytes are needed for a block that is stored so
body_room : (plain bytes : List ℕ) (packed : Bool) → StoredAs plain packed bytes → 8 + length (block_body packed bytes) ≤ max 28 (12 + length plain)
body_room plain bytes packed a = omega (arith, body_long packed bytes, stored_room plain bytes packed a)

module _ {b : List ℕ} {vacancy : Vacancy} {plain : List ℕ} {packed : Bool} {bytes : List ℕ} {limit : ℕ} (stored : StoredAs plain packed bytes) where
  module _ {kind : Kind} {before : List VariableShape} {own : VariableShape} {after : List VariableShape} (v : IsVacancy b kind before own after vacancy plain limit) where
    enough : length b + (8 + length (block_body packed bytes)) + vxr_bytes (widest own.index) ≤ limit
    enough = omega (arith, body_room plain bytes packed stored, v.room)

    few_bytes : limit ≤ image_limit → length bytes ≤ image_limit
    few_bytes most = bytes_short packed bytes 1073741824 (omega (arith, enough, most))

    pub adds_block : {now body : List ℕ} → limit ≤ image_limit → body ≡ block_body packed bytes → AddsLeaf b now own vacancy.first vacancy.last body → BlockAdded b now kind before own after vacancy.first vacancy.last plain
    adds_block {now = now} most e adds =
        let a = subst (AddsLeaf b now own vacancy.first vacancy.last) e adds in
        let w = leaf_of_body packed bytes a in
        let wide = new_room_widest b (shape b).records 8 vacancy.first own.index (has v.good v.among).indexed.has_nodes (fits v.good v.among).1 in
        let short : length now ≤ image_limit = omega (arith, w.as_long, w.block.longest, node_long w.filled w.roomy (new_room vacancy.first own.index) a.at (widest own.index) w.node wide, enough, most) in
        block_added v.good v.among w (few_bytes most) plain v.rle v.vacant v.as_long stored short

module _ {b : List ℕ} {vacancy : Vacancy} {packed : Bool} {bytes : List ℕ} {limit : ℕ} (h : HasStored b vacancy packed bytes limit) where
  pub good_before : Good b
  good_before = h.vacancy_of.is_vacancy.good

  pub vdr_there : In vacancy.vdr (vdrs (variables (shape b)))
  vdr_there =
      let v = h.vacancy_of in
      let g = among_all b v.kind v.before v.own v.after v.is_vacancy.among.was in
      subst (λ (vs : List VariableShape). In vacancy.vdr (vdrs vs)) (sym g.all) (subst (λ (n : ℕ). In n (vdrs (g.front ++ v.own ∷ g.rest))) v.is_vacancy.vdr_is (in_middle g.front v.own g.rest))

  pub start_there : IsStart b (number b vacancy.vdr vdr_vxr_head) vacancy.first vacancy.start
  start_there = rw (← h.vacancy_of.is_vacancy.vdr_is) h.vacancy_of.is_vacancy.start

  module _ {body : List ℕ} (e : body ≡ block_body packed bytes) where
    pub body_there : IsBody body
    body_there = rw e (body_is packed bytes).1

    pub block_there : (type_of_body body ≡ vvr_type) ⊎ (type_of_body body ≡ cvvr_type)
    block_there = rw e (block_types packed bytes)

    pub room_there : length b + (8 + length body) + vxr_bytes (widest (index_at b (number b vacancy.vdr vdr_vxr_head))) ≤ limit
    room_there =
        let v = h.vacancy_of.is_vacancy in
        let index = (searchable v.good v.among).1 in
        rw (e, ← v.vdr_is, index) (enough h.stored v)

-- how the plain bytes are stored
pub has_stored : {b : List ℕ} {vacancy : Vacancy} {plain : List ℕ} {limit : ℕ} (packed : Bool) (bytes : List ℕ) → StoredAs plain packed bytes → HasVacancy b vacancy plain limit → HasStored b vacancy packed bytes limit
has_stored {plain = plain} packed bytes stored v = record { plain = plain; vacancy_of = v; stored = stored }
