-- What calls ask for by which packing is turned on or off, and what they come to.
use Rattle.cdf_format.specs.Index.{Nodes, link_to, no_node, node, nodes_of}
use Rattle.cdf_format.specs.RecordTypes.{vxr_type}
use Rattle.cdf_edits.proofs.Common.{AllGiven, AreFree, Good, In, IsSound, Kind, List, VariableShape, [], ap, arith, has_bit, image_limit, is_compressed, length, inl, linkable-in, nodes_stand, number, refl, shape, subst, sym, tile_lies, true, false, variables, vdr_cpr_or_spr_offset, vdr_flags, vdr_vxr_head, vdrs, ℕ, ◌+◌, ◌<◌, ◌^◌, ◌∙◌, ◌∷◌, ◌≡◌, ◌≤◌}
use Rattle.cdf_edits.proofs.Edits.Common.{StandsAmong, has, name_room, sound}
use Rattle.cdf_edits.specs.Space.Placing.{Placed}
use Rattle.cdf_index.proofs.OneVariable.{OneOf, one_of}
use Rattle.cdf_compress.proofs.TurnedOff as off
use Rattle.cdf_compress.proofs.TurnedOn as on
use Rattle.cdf_compress.specs.Repacking.{IsRepacked, Repacked, cpr_body, no_link, with_packing}

-- the variable without an index
abbrev pub IsEmpty : List ℕ → ℕ → Type 0
IsEmpty b vdr = (kind : Kind) (before : List VariableShape) (own : VariableShape) (after : List VariableShape) → StandsAmong b kind before own after → own.vdr ≡ vdr → own.index ≡ no_node

none_linked : (n : Nodes) → link_to n ≡ 0 → ((m : ℕ) → In m (nodes_of n) → 8 ≤ m) → n ≡ no_node
unfolding nodes_of
none_linked no_node e low = refl
none_linked (node place room entries more) e low = let l = low place (inl refl) in absurd (omega (arith, l, e))

-- VXRhead that leads nowhere
pub is_empty : {b : List ℕ} {vdr : ℕ} → Good b → number b vdr vdr_vxr_head ≡ 0 → IsEmpty b vdr
is_empty {b = b} good head kind before own after at is =
    let link : link_to own.index ≡ 0 = sym (has good at).indexed.link_is ∙ ap (λ (n : ℕ). number b n vdr_vxr_head) is ∙ head in
    none_linked own.index link (λ m i. (tile_lies b 8 (length b) (shape b).records m (sound good at).has_shape.tiled (linkable-in b (shape b).records vxr_type m (nodes_stand b (shape b).records 8 own.index (has good at).indexed.has_nodes m i))).low)

module _ (b : List ℕ) (vdr : ℕ) (good : Good b) (i : In vdr (vdrs (variables (shape b)))) where
  one : OneOf b vdr
  one = one_of b vdr i

  pub room : vdr + 340 ≤ length b
  room = subst (λ (n : ℕ). n + 340 ≤ length b) one.vdr_is (name_room good one.among)

  module _ {flags : ℕ} (head : number b vdr vdr_vxr_head ≡ 0) (short : length b ≤ image_limit) (small : flags < 2 ^ 32) (flags_are : flags ≡ number b vdr vdr_flags) where
    none : one.own.index ≡ no_node
    none = is_empty good head one.kind one.before one.own one.after one.among one.vdr_is

    few : number b one.own.vdr vdr_flags < 256 ^ 4
    few = let e = ap (λ (n : ℕ). number b n vdr_flags) one.vdr_is in omega (arith, small, flags_are, e)

    pub sound_off : {now : List ℕ} → now ≡ with_packing b vdr false no_link → IsSound now (shape now)
    sound_off {now = now} is = subst (λ (x : List ℕ). IsSound x (shape x)) (sym (is ∙ ap (λ (n : ℕ). with_packing b n false no_link) (sym one.vdr_is))) (off.linked_sound good one.among none short few)

    pub free_off : {now : List ℕ} {cpr : ℕ} → now ≡ with_packing b vdr false no_link → cpr ≡ number b vdr vdr_cpr_or_spr_offset → has_bit flags 2 ≡ true → AreFree now (cpr ∷ [])
    free_off {now = now} {cpr = cpr} is link packed =
        let here : number b one.own.vdr vdr_cpr_or_spr_offset ≡ cpr = ap (λ (n : ℕ). number b n vdr_cpr_or_spr_offset) one.vdr_is ∙ sym link in
        let bit : is_compressed b one.own.vdr ≡ true = ap (λ (n : ℕ). has_bit (number b n vdr_flags) 2) one.vdr_is ∙ ap (λ (n : ℕ). has_bit n 2) (sym flags_are) ∙ packed in
        let own : one.own.cpr ≡ cpr ∷ [] = sym (has good one.among).packed_by ∙ rw (bit, here) refl in
        subst (λ (x : List ℕ). AreFree x (cpr ∷ [])) (sym (is ∙ ap (λ (n : ℕ). with_packing b n false no_link) (sym one.vdr_is))) (subst (λ (xs : List ℕ). AreFree (with_packing b one.own.vdr false no_link) xs) own (off.left_free good one.among none short few))

-- packing was turned off
module _ {b : List ℕ} {vdr flags : ℕ} (good : Good b) (head : number b vdr vdr_vxr_head ≡ 0) (short : length b ≤ image_limit) (small : flags < 2 ^ 32) (flags_are : flags ≡ number b vdr vdr_flags) {kind : Kind} {before : List VariableShape} {own : VariableShape} {after : List VariableShape} (at : StandsAmong b kind before own after) (is : own.vdr ≡ vdr) where
  few_off : number b own.vdr vdr_flags < 256 ^ 4
  few_off = let e = ap (λ (n : ℕ). number b n vdr_flags) is in omega (arith, small, flags_are, e)

  bit : is_compressed b own.vdr ≡ has_bit flags 2
  bit = ap (λ (n : ℕ). has_bit (number b n vdr_flags) 2) is ∙ ap (λ (n : ℕ). has_bit n 2) (sym flags_are)

  by_given : {now linked : List ℕ} → linked ≡ with_packing b vdr false no_link → AllGiven linked now own.cpr → IsRepacked b now kind before own after false
  by_given {now = now} said given = ([], off.turned_off good at (is_empty good head kind before own after at is) short few_off now (subst (λ (x : List ℕ). AllGiven x now own.cpr) (said ∙ ap (λ (n : ℕ). with_packing b n false no_link) (sym is)) given))

  pub off_freed : {now linked : List ℕ} {cpr : ℕ} → linked ≡ with_packing b vdr false no_link → cpr ≡ number b vdr vdr_cpr_or_spr_offset → has_bit flags 2 ≡ true → AllGiven linked now (cpr ∷ []) → IsRepacked b now kind before own after false
  off_freed {now = now} {linked = linked} {cpr = cpr} said link packed given =
      let here : number b own.vdr vdr_cpr_or_spr_offset ≡ cpr = ap (λ (n : ℕ). number b n vdr_cpr_or_spr_offset) is ∙ sym link in
      let there : is_compressed b own.vdr ≡ true = bit ∙ packed in
      let mine : own.cpr ≡ cpr ∷ [] = sym (has good at).packed_by ∙ rw (there, here) refl in
      by_given said (subst (AllGiven linked now) (sym mine) given)

  pub off_none : {now : List ℕ} → now ≡ with_packing b vdr false no_link → has_bit flags 2 ≡ false → IsRepacked b now kind before own after false
  off_none {now = now} said loose =
      let there : is_compressed b own.vdr ≡ false = bit ∙ loose in
      let mine : own.cpr ≡ [] = sym (has good at).packed_by ∙ rw there refl in
      by_given said (subst (AllGiven now now) (sym mine) refl)

-- packing was turned on
module _ {b filled : List ℕ} {vdr flags place : ℕ} (good : Good b) (head : number b vdr vdr_vxr_head ≡ 0) (loose : is_compressed b vdr ≡ false) (short : length b + 28 ≤ image_limit) (small : flags < 2 ^ 32) (flags_are : flags ≡ number b vdr vdr_flags) (placed : Placed b filled cpr_body place) {kind : Kind} {before : List VariableShape} {own : VariableShape} {after : List VariableShape} (at : StandsAmong b kind before own after) (is : own.vdr ≡ vdr) where
  none_on : own.index ≡ no_node
  none_on = is_empty good head kind before own after at is

  few_on : number b own.vdr vdr_flags < 256 ^ 4
  few_on = let e = ap (λ (n : ℕ). number b n vdr_flags) is in omega (arith, small, flags_are, e)

  loose_on : is_compressed b own.vdr ≡ false
  loose_on = ap (is_compressed b) is ∙ loose

  pub still_flags : flags ≡ number filled vdr vdr_flags
  still_flags = flags_are ∙ sym (ap (λ (n : ℕ). number b n vdr_flags) is) ∙ sym (on.flags_filled good at none_on loose_on short few_on placed) ∙ ap (λ (n : ℕ). number filled n vdr_flags) is

  pub still_inside : vdr + 80 ≤ length filled
  still_inside = subst (λ (n : ℕ). n + 80 ≤ length filled) is (on.inside_filled good at none_on loose_on short few_on placed)

  pub on_done : {now : List ℕ} → now ≡ with_packing filled vdr true place → IsRepacked b now kind before own after true
  on_done said = (place ∷ [], subst (λ (x : List ℕ). Repacked b x kind before own after true (place ∷ [])) (sym (said ∙ ap (λ (n : ℕ). with_packing filled n true place) (sym is))) (on.turned_on good at none_on loose_on short few_on placed))
