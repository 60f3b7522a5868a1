-- A node that gets an entry, once another record was taken.
use Rattle.cdf_leaves.proofs.Common.{Entry, Grew, IsSound, List, MayPut, NodeInside, NodeMade, NodeWritten, Spot, Takes, apart, content, fills, gdr_type, grew, length, made, node_head, node_short, refl, room_at, rules, same_node, shape, sound, sym, type_kept, uir_type, used_count, vxr_bytes, vxr_type, ℕ, ◌+◌, ◌∙◌, ◌≡◌, ◌≤◌}
use Rattle.cdf_leaves.proofs.Spares.{fits_still, node_inside, spares_kept}

-- it may also once records were taken
pub may_still : {b now : List ℕ} {seen : Spot} → MayPut b seen → Grew b now → MayPut now seen
may_still {b = b} {now = now} {seen = seen} may g =
    let k = g.kept seen.place may.there (λ u. apart vxr_type uir_type refl (sym may.typed ∙ u)) (λ u. apart vxr_type gdr_type refl (sym may.typed ∙ u)) in
    let n = same_node b now seen.place k may.fits in
    let typed = type_kept b now seen.place k.same k.long ∙ may.typed in
    let fits = fits_still b now seen.place (spares_kept b now seen.place k may.fits) may.fits in
    search (rules, g.sound, g.sub seen.place may.there, typed, fits, may.room_is ∙ sym n.room_is, may.used_is ∙ sym n.used_is, may.next_is ∙ sym n.next_is, may.most)

pub inside_before : {b : List ℕ} {seen : Spot} → MayPut b seen → NodeInside b seen.place
inside_before {b = b} {seen = seen} may = node_inside b (shape b).records seen.place may.sound.has_shape.tiled may.there may.fits

module _ {b mid now : List ℕ} {seen : Spot} {room next at : ℕ} {entries : List Entry} (may : MayPut b seen) (same : mid ≡ b) (made : NodeMade mid now room next entries at) where
  may_now : MayPut now seen
  may_now = may_still may (grew may.sound (rw same at made).fills)

  pub inside_made : NodeInside now seen.place
  inside_made = inside_before may_now

  pub room_made : seen.room ≡ room_at now seen.place
  room_made = may_now.room_is

  pub used_made : seen.used ≡ used_count now seen.place
  used_made = may_now.used_is

-- where its VXRnext lies
pub next_lies : {b now : List ℕ} {seen : Spot} {room next at : ℕ} {entries : List Entry} → MayPut b seen → NodeMade b now room next entries at → seen.place + 28 ≤ length now
next_lies may made = node_head (inside_made may refl made)

-- ---- a record that was taken becomes a node

pub node_made : (b taken : List ℕ) (room place : ℕ) (sound : IsSound b (shape b)) (takes : Takes b taken (shape b) (shape taken) (vxr_bytes room) place) (sound_taken : IsSound taken (shape taken)) (stays : content taken ≡ content b) (now : List ℕ) (next : ℕ) (entries : List Entry) → NodeWritten taken now place room next entries → NodeMade b now room next entries place
node_made b taken room place sound takes sound_taken stays now next entries w = record { taken = taken; fills = fills b taken room place sound takes sound_taken stays now next entries w; longest = node_short b taken room place sound takes sound_taken stays now next entries w; written = w }
