-- What the calls ask for that add a leaf, and what they leave.
use Rattle.cdf_leaves.proofs.Common.{Way, name_room, Good, In, IsBody, good_eof, good_is_sound, image_limit, type_of_body, variables, vdrs, IsBlockType, widest, ◌≤◌, Added, Each-map, EntryPut, HasEnd, IndexStarted, IsAmong, IsStart, IsWay, List, MayAdd, MayPut, Placed, PutAlong, StandsAmong, StartsAt, TailSet, VariableShape, WayStands, [], ap, arith, entry, eof, gdr_offset, index_at, length, max, number, one_of, rules, seven_at_least, shape, sound, starts_at, vdr_vxr_head, vxr_bytes, ℕ, ◌++◌, ◌+◌, ◌∙◌, ◌∷◌, ◌≡◌, ◌≢◌, ◌⊎◌}
use Rattle.cdf_edits.proofs.Edits.RecordGrown.{ends as ends_now}
use Rattle.cdf_leaves.proofs.LeafGrown.{first_added, grown_stays, grown_tail, may_put, tail_ready, vdr_lies, way_ready, wide_enough}
use Rattle.cdf_leaves.proofs.Own.{searchable}

abbrev own_at : (b : List ℕ) (vdr : ℕ) → In vdr (vdrs (variables (shape b))) → VariableShape
own_at b vdr i = record (one_of b vdr i).own { vdr = vdr }

-- it is a variable of its kind
among_kind : (b : List ℕ) (vdr : ℕ) (i : In vdr (vdrs (variables (shape b)))) → StandsAmong b (one_of b vdr i).kind (one_of b vdr i).before (own_at b vdr i) (one_of b vdr i).after
among_kind b vdr i = let o = one_of b vdr i in record { was = o.among.was ∙ ap (λ (k : ℕ). o.before ++ record o.own { vdr = k } ∷ o.after) o.vdr_is }

pub may_add : {b : List ℕ} {limit vdr : ℕ} {body : List ℕ} → Good b → In vdr (vdrs (variables (shape b))) → IsBody body → IsBlockType (type_of_body body) → length b + (8 + length body) + vxr_bytes (widest (index_at b (number b vdr vdr_vxr_head))) ≤ limit → limit ≤ image_limit → MayAdd b limit vdr body
may_add {b = b} {vdr = vdr} good i is_body type_is room short =
    record { good = good; sound = good_is_sound b good; ends = good_eof b good; lies = omega (arith, name_room good (among_kind b vdr i)); seven = seven_at_least (index_at b (number b vdr vdr_vxr_head)); vdr_in = i; is_body = is_body; block = type_is; room = room; short = short }

module _ {b : List ℕ} {limit vdr : ℕ} {body : List ℕ} (may : MayAdd b limit vdr body) where
  -- ---- where the search starts

  module _ (first start : ℕ) (is_start : IsStart b (number b vdr vdr_vxr_head) first start) where
    pub start_there : StartsAt b (number b vdr vdr_vxr_head) first start
    start_there = starts_at (searchable may.good (among_kind b vdr may.vdr_in)).0 is_start

    pub way_from : {found : Way} → IsWay b start first found → IsWay b (number b vdr vdr_vxr_head) first found
    way_from {found = found} met =
        let s = start_there in
        let among = Each-map (IsAmong (index_at b start)) (IsAmong (index_at b (number b vdr vdr_vxr_head))) (λ step. s.among step.place) found.steps.items met.among in
        search (rules, met.steps_are ∙ s.way_is, met.end_is ∙ s.spot_is, met.sees, s.among found.end.place met.last, among, met.say)

  -- ---- the block was placed

  module _ {filled : List ℕ} {place : ℕ} (block : Placed b filled body place) where
    pub still_ends : eof filled (gdr_offset filled) ≡ length filled
    still_ends = ends_now (sound may.good (among_kind b vdr may.vdr_in)) block.fills

    pub first_there : {now : List ℕ} {first last : ℕ} → number b vdr vdr_vxr_head ≡ 0 → IndexStarted filled now vdr (entry first last place) → Added b now vdr first last body
    first_there {first = first} {last = last} none st kind before own after stood is = first_added may.good stood block may.block first last st.at (rw (← is) at none) st.made (rw (← is) at st.linked) st.small

    module _ {first : ℕ} {found : Way} (way : IsWay b (number b vdr vdr_vxr_head) first found) where
      pub end_ready : MayPut filled found.end
      end_ready = may_put may.good (among_kind b vdr may.vdr_in) block may.block first 0 0 way

      pub room_ready : length filled + vxr_bytes (max 7 found.end.room) ≤ limit
      room_ready = omega (arith, block.longest, may.room, wide_enough may.good (among_kind b vdr may.vdr_in) block may.block first 0 0 way)

      pub stands_ready : {grown : List ℕ} {last at : ℕ} → EntryPut filled grown found.end (entry first last place) at → WayStands grown found.steps.items
      stands_ready {last = last} {at = at} put = way_ready may.good (among_kind b vdr may.vdr_in) block may.block first last at way put

      module _ {wide : List ℕ} {last at : ℕ} (put : PutAlong filled wide found (entry first last place) at) where
        pub end_there : found.steps.items ≡ [] → HasEnd wide found.end.place
        end_there none = tail_ready may.good (among_kind b vdr may.vdr_in) block may.block first last at way put none

        pub vdr_still : vdr + 44 ≤ length wide
        vdr_still = vdr_lies may.good (among_kind b vdr may.vdr_in) block may.block first last at way put

        pub put_added : (at ≡ 0) ⊎ (found.steps.items ≢ []) → Added b wide vdr first last body
        put_added why kind before own after stood is = grown_stays may.good stood block may.block first last at (rw (← is) at way) put why

        pub tail_added : {now : List ℕ} → at ≢ 0 → found.steps.items ≡ [] → TailSet wide now vdr found.end.place → Added b now vdr first last body
        tail_added ne none set kind before own after stood is = grown_tail may.good stood block may.block first last at (rw (← is) at way) put ne none (rw (← is) at set)
