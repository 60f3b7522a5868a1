-- A record that was taken becomes a node: the image is sound with it, and has its content.
use Rattle.cdf_index.proofs.Common.{Entry, Fills, HasRoomFor, IsSound, List, NodeWritten, Shape, Takes, apart, arith, content, fixed_size, is_a-in, length, refl, rules, shape, shape_is, subst, sym, tile_lies, uir_type, vxr_bytes, vxr_type, with_space, ℕ, ◌*◌, ◌+◌, ◌-◌, ◌∙◌, ◌≡◌, ◌≤◌}
use Rattle.cdf_edits.proofs.Edits.MadeRecord.{filled_sound}
use Rattle.cdf_edits.proofs.Edits.RecordGrown.{grew}
use Rattle.cdf_edits.proofs.Space.TakenLeaves.{takes_longest}

module _ (b taken : List ℕ) (room place : ℕ) (sound : IsSound b (shape b)) (takes : Takes b taken (shape b) (shape taken) (vxr_bytes room) place) (sound_taken : IsSound taken (shape taken)) (stays : content taken ≡ content b) where
  pub has_room : HasRoomFor taken place room
  has_room = search (rules, tile_lies taken 8 (length taken) (shape taken).records place sound_taken.has_shape.tiled (is_a-in taken (shape taken).records uir_type place takes.stands), takes.size_is)

  module _ (now : List ℕ) (next : ℕ) (entries : List Entry) (w : NodeWritten taken now place room next entries) where
    pub fills : Fills b taken now (shape b) (shape now).records (shape now).unused (vxr_bytes room) place vxr_type
    fills =
        let own : shape taken ≡ with_space (shape b) (shape taken).records (shape taken).unused = takes.space.rest_stays in
        let wide : 20 + 16 * room ≡ vxr_bytes room - 8 = omega arith in
        let sizes : (fixed_size vxr_type ≤ vxr_bytes room) × (28 ≤ vxr_bytes room) = (omega arith, omega arith) in
        let here : Fills b taken now (shape b) (shape taken).records (shape taken).unused (vxr_bytes room) place vxr_type = search (rules, rw own at takes, rw own at sound_taken, stays, rw wide at w.changed, w.as_long, w.type_is, apart vxr_type uir_type refl, sizes) in
        subst (λ (x : Shape). Fills b taken now (shape b) x.records x.unused (vxr_bytes room) place vxr_type) (own ∙ sym (shape_is now _ (filled_sound sound here).has_shape)) here

    pub node_sound : IsSound now (shape now)
    node_sound = (grew sound fills).sound

    pub node_short : length now ≤ length b + vxr_bytes room
    node_short = omega (arith, takes_longest b taken (shape b) (shape taken) (vxr_bytes room) place sound (omega arith) takes, w.as_long)
