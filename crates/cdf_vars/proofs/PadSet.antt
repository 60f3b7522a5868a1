-- The command `set-pad`: the bytes of a VDR with a pad value, the one that takes the place of the old one where that has no room for it, what the command answers, and what is kept of the variables.
use Rattle.cdf_vars.proofs.Common.{AllKeep, Allowances, Answers, Anything, AreBytes, AtNumber, ByStep, Copied, DataSet, DataType, Distinct, Done, Exchanged, Found, Go, Good, In, IsBody, IsPadded, IsPlace, IsRequest, IsSound, IsVdr, Kind, Known, Knows, Leads, List, MayPad, MovedTo, Moves, None, Ok, Option, PadPlace, Plain, Refused, Same, SetPad, SetsPad, Some, StandsAmong, TooLarge, VarId, Variable, VariableShape, [], ap, append_assoc, ap₂, arith, at_number, before, behind_link, big_bytes, byte, byte-put_after, byte-put_before, byte-put_inside, cases_lt, content, dimensions_at, dims_at, dims_long, drop, drop-drop, drop-put_there, drop_at, elems_at, eq-eqb, fits, get_or-drop, get_or-take, get_or_append_left, gone, good_is_sound, got-middle, head_of, high, image_limit, in_middle, inl, inr, is_in, is_in-true, is_little, is_vdr_body, joined_type, kind_chain, known_of, last_or, leads_rest, length, length-append, length-bytes_high_first, length-drop, length-put, length-take, members_of, ne_eqb, next_field, next_of, number, owned, owned_records, pad_field, pad_late, pad_place, pad_wide, padded_body, padded_flags, piece_kept, put, refl, room, same_link, set_at, set_pad_changes, shape, shapes_of, size_of, slice_get, slice_index, slice_set, sound, stays_own, step, subst, suc, sym, take, take_at, times, too_large, true, true≢false, turned, type_in, type_of_body, type_of_variable, typed, value_bytes, value_size, values_in, variable_of, variables_chain, vdr_bytes, vdr_flags, vdrs, with_field, with_variable, word, word-put_inside, word-put_number, word_copied, word_fits, word_kept, zero, ℕ, ◌*◌, ◌++◌, ◌+◌, ◌-◌, ◌<◌, ◌^◌, ◌∙◌, ◌∷◌, ◌≡◌, ◌≤◌, ◌⊎◌}
use Rattle.cdf_edits.proofs.Common.{length-map, vdrs_append}
use Rattle.cdf_edits.proofs.Edits.MovedVdr.{CopiesVdr, MovesVdr, chain_late, members, old_free, old_in, own', sound_late}
use Rattle.cdf_edits.proofs.Edits.PadWritten.{WritesPad, edits, meaning, pads_in_place, small_flags}
use Rattle.cdf_vars.proofs.VariableChains.{has_variable_chain, variable_members}
use Rattle.cdf_base.proofs.Puts.{put-append}
use Rattle.cdf_var_records.proofs.PadSites.{at as vdr_at, inside as vdr_inside, own as vdr_own}
use Rattle.cdf_edits.proofs.Edits.FreedVdr.{acts, acts_now, edit_now, freed_content, freed_good, freed_is, keeps_now, long_now, moved_sets_pad, pad_means}
use Rattle.cdf_vars.specs.declared.padding.PadRequest.{PadRequest}
use Rattle.cdf_vars.specs.declared.padding.PadRequest.TheVariants.{Put}
use Rattle.cdf_vars.proofs.OwnShapes.{own_now}
use Rattle.cdf_vars.proofs.VariableFound.{follows_still, knows_still, knows_with, of_found, own_known, may_keep, may_named, same_names, stands_there, still_there, with_known, Parts, the_parts, within_places}

-- ---- the bytes of the new VDR, whose pad value stands at another place in it

module _ (b value new : List ℕ) (v at n : ℕ) (inside : v + at ≤ length b) (late : 340 ≤ at) (is : new ≡ put (take (at - 8) (drop (v + 8) b)) 36 (big_bytes 4 n) ++ value) where
  abbrev was : List ℕ
  was = take (at - 8) (drop (v + 8) b)

  abbrev flags : List ℕ
  flags = big_bytes 4 n

  pub lengths : (length was ≡ at - 8) × (length flags ≡ 4) × (length (put was 36 flags) ≡ at - 8) × (8 + length new ≡ at + length value)
  lengths =
      let first : length was ≡ at - 8 = simp (length-take, length-drop) (omega arith) in
      let fourth = length-bytes_high_first 4 n in
      let front = length-put was 36 flags (omega (arith, first, fourth)) ∙ first in
      (first, fourth, front, ap (λ (xs : List ℕ). 8 + length xs) is ∙ omega (arith, length-append (put was 36 flags) value, front))

  new_byte : (i : ℕ) → 8 ≤ i → i < at → (i < 44) ⊎ (48 ≤ i) → byte new (i - 8) ≡ byte b (v + i)
  new_byte i low high side =
      let from : v + 8 + (i - 8) ≡ v + i = omega arith in
      let kept : byte (put was 36 flags) (i - 8) ≡ byte was (i - 8) = elim side [
        | inl l ↦ byte-put_before was 36 flags (i - 8) (omega (arith, lengths.0)) (omega arith)
        | inr l ↦ byte-put_after was 36 flags (i - 8) (omega (arith, lengths.0)) (omega (arith, lengths.1))
      ] in
      ap (λ (xs : List ℕ). byte xs (i - 8)) is ∙ get_or_append_left (put was 36 flags) value 0 (i - 8) (omega (arith, lengths.2)) ∙ kept ∙ get_or-take (at - 8) (drop (v + 8) b) (i - 8) 0 (omega arith) ∙ get_or-drop (v + 8) b (i - 8) 0 ∙ ap (byte b) from

  -- the type stands first
  pub new_type : word new 0 4 ≡ word b (v + 8) 4
  new_type =
      let bare : v + 8 + 0 ≡ v + 8 = omega arith in
      let copied : Copied b new (v + 8) 0 0 4 = record { each = λ i l h. let same : 0 + i ≡ (8 + i) - 8 = omega arith in let to : v + (8 + i) ≡ v + 8 + i = omega arith in ap (byte new) same ∙ new_byte (8 + i) (omega arith) (omega arith) (inl (omega arith)) ∙ ap (byte b) to } in
      word_copied copied 0 4 (omega arith) (omega arith) ∙ ap (λ (p : ℕ). word b p 4) bare

  -- where it is placed
  module _ (taken : List ℕ) (by : ℕ) (room : by + (8 + length new) ≤ length taken) where
    abbrev written : List ℕ
    written = put taken (by + 8) new

    pub bytes_copied : (i : ℕ) → 8 ≤ i → i < at → (i < 44) ⊎ (48 ≤ i) → byte written (by + i) ≡ byte b (v + i)
    bytes_copied i low high side =
        let to : by + i ≡ by + 8 + (i - 8) = omega arith in
        ap (byte written) to ∙ byte-put_inside taken (by + 8) new (i - 8) (omega arith) (omega (arith, lengths.3)) ∙ new_byte i low high side

    pub flags_there : n < 256 ^ 4 → word written (by + 44) 4 ≡ n
    flags_there small =
        let to : by + 44 ≡ by + 8 + 36 = omega arith in
        let whole : new ≡ put (was ++ value) 36 flags = is ∙ sym (put-append was value 36 flags (omega (arith, lengths.0, lengths.1))) in
        ap (λ (p : ℕ). word written p 4) to ∙ word-put_inside taken new (by + 8) 36 4 (omega arith) (omega (arith, lengths.3)) ∙ ap (λ (xs : List ℕ). word xs 36 4) whole ∙ word-put_number (was ++ value) 36 4 n (omega (arith, lengths.0, length-append was value)) small

    pub value_there : take (length value) (drop (by + at) written) ≡ value
    value_there =
        let more = drop (by + 8 + length new) taken in
        let to : by + at ≡ by + 8 + (at - 8) = omega arith in
        let whole : drop (by + 8) written ≡ put was 36 flags ++ (value ++ more) = drop-put_there taken new (by + 8) (omega arith) ∙ ap (λ (xs : List ℕ). xs ++ more) is ∙ append_assoc (put was 36 flags) value more in
        let behind : drop (by + at) written ≡ value ++ more = ap (λ (p : ℕ). drop p written) to ∙ sym (drop-drop (at - 8) (by + 8) written) ∙ ap (drop (at - 8)) whole ∙ drop_at (put was 36 flags) (value ++ more) (at - 8) lengths.2 in
        ap (take (length value)) behind ∙ take_at value more (length value) refl

-- equal numbers have equal bytes
same_digit : (P x x' y y' : ℕ) → y < P → y' < P → x * P + y ≡ x' * P + y' → x ≡ x'
same_digit P x x' y y' l l' e = grind arith

equal_bytes : {b now : List ℕ} {s s' m : ℕ} → AreBytes b s m → AreBytes now s' m → (p p' n : ℕ) → s ≤ p → p + n ≤ s + m → s' ≤ p' → p' + n ≤ s' + m → word now p' n ≡ word b p n → (k x y : ℕ) → k < n → x ≡ p' + k → y ≡ p + k → byte now x ≡ byte b y
equal_bytes are there p p' zero a c d f e k x y lt ex ey = absurd (omega arith)
equal_bytes {b = b} {now = now} {s = s} {s' = s'} {m = m} are there p p' (suc n) a c d f e k x y lt ex ey =
    let first = same_digit (256 ^ n) (byte now p') (byte b p) (word now (suc p') n) (word b (suc p) n) (word_fits now s' m (suc p') n there (omega arith) (omega arith)) (word_fits b s m (suc p) n are (omega arith) (omega arith)) e in
    let rest : word now (suc p') n ≡ word b (suc p) n = (let same = ap (λ (d : ℕ). d * 256 ^ n) first in omega (arith, same, e)) in
    elim (cases_lt k 1) [
      | inl least ↦ let left : x ≡ p' = omega arith in let right : y ≡ p = omega arith in ap (byte now) left ∙ first ∙ sym (ap (byte b) right)
      | inr more ↦ equal_bytes are there (suc p) (suc p') n (omega arith) (omega arith) (omega arith) (omega arith) rest (k - 1) x y (omega arith) (omega arith) (omega arith)
    ]

-- ---- the VDR that is made, and that takes the place of the old one

module _ {b body : List ℕ} {kind : Kind} {old : ℕ} (good : Good b) (vdr : IsVdr b kind old) (p : IsPadded b old body) where
  abbrev own : VariableShape
  own = vdr_own good vdr

  abbrev among : StandsAmong b kind vdr.before own vdr.after
  among = vdr_at good vdr

  abbrev place : ℕ
  place = (pad_field b old).place

  abbrev n : ℕ
  n = padded_flags (number b old vdr_flags)

  abbrev need : ℕ
  need = 8 + length body

  inside : old + place ≤ length b
  inside = vdr_inside good vdr

  pub need_is : need ≡ place + length p.bytes
  need_is = (lengths b p.bytes body old place n inside (pad_late b old) p.is).3

  pub type_is : type_of_body body ≡ type_in (variables_chain kind)
  type_is = new_type b p.bytes body old place n inside (pad_late b old) p.is ∙ typed good among

  pub is_body : IsBody body
  is_body = is_vdr_body kind body (dimensions_at b old) type_is (let e = pad_place kind b old (typed good among) in omega (arith, need_is, e))

  pub is_member : is_in old (members_of b (variables_chain kind)) ≡ true
  is_member =
      let there : In old (vdrs (shapes_of (shape b) kind)) = subst (λ (vs : List VariableShape). In old (vdrs vs)) (sym vdr.was) (in_middle vdr.before own vdr.after) in
      is_in-true old _ (subst (In old) (sym (variable_members b (shape b) (good_is_sound b good).has_shape kind)) there)

  module _ {late : List ℕ} {by : ℕ} (exchanged : Exchanged b late (variables_chain kind) body old by) where
    abbrev pub made : MovesVdr b late kind own body by
    made = record { joined = exchanged; type_is = type_is }

    kept : Same exchanged.filled late (by + 20) (by + need)
    kept = behind_link (sound good among) made

    late_byte : (i : ℕ) → 20 ≤ i → i < place → (i < 44) ⊎ (48 ≤ i) → byte late (by + i) ≡ byte b (old + i)
    late_byte i low high side = kept.each (by + i) (omega arith) (omega (arith, need_is)) ∙ ap (λ (x : List ℕ). byte x (by + i)) exchanged.placed.written ∙ bytes_copied b p.bytes body old place n inside (pad_late b old) p.is exchanged.placed.taken by exchanged.placed.inside i (omega arith) high side

    by_lies : by + need ≤ length exchanged.filled
    by_lies = let high = exchanged.placed.inside in let l = exchanged.placed.fills.long in omega (arith, high, l)

    pub long_late : by + 84 ≤ length late
    long_late = let l = by_lies in let k = exchanged.as_long in omega (arith, need_is, pad_late b old, l, k)

    -- ---- with the bytes of its link

    module _ (there : AreBytes late by 84) where
      link_same : number late by next_field ≡ number b old next_field
      link_same =
          let link = number b (shape b).gdr (head_of (variables_chain kind)) in
          let was = subst (λ (ms : List ℕ). Leads b link ms 0) (members good among made) (kind_chain kind (sound good among).has_shape).leads in
          let is = subst (λ (ms : List ℕ). Leads late (number late (shape b).gdr (head_of (variables_chain kind))) ms 0) (vdrs_append vdr.before (record own { vdr = by } ∷ vdr.after)) (chain_late good among made).leads in
          sym (same_link b late (next_of b old) (next_of late by) (vdrs vdr.after) (leads_rest b link (vdrs vdr.before) old (vdrs vdr.after) was) (leads_rest late _ (vdrs vdr.before) by (vdrs vdr.after) is))

      alike : (i : ℕ) → 12 ≤ i → i < place → (i < 44) ⊎ (44 + 4 ≤ i) → byte late (by + i) ≡ byte b (old + i)
      alike i low high side = elim (cases_lt i 20) [
        | inl l ↦ equal_bytes p.read there (old + 12) (by + 12) 8 (omega arith) (omega arith) (omega arith) (omega arith) link_same (i - 12) (by + i) (old + i) (omega arith) (omega arith) (omega arith)
        | inr m ↦ late_byte i m high side
      ]

      pub copies : CopiesVdr b late own body by p.bytes
      copies = record {
        held = record {
          typed = joined_type (sound good among) made ∙ sym (typed good among);
          alike = λ i low high out. alike i low high out.0;
          flags_are = word_kept exchanged.filled late (by + 20) (by + need) kept (by + 44) 4 (omega arith) (omega (arith, need_is, pad_late b old)) ∙ ap (λ (x : List ℕ). word x (by + 44) 4) exchanged.placed.written
              ∙ flags_there b p.bytes body old place n inside (pad_late b old) p.is exchanged.placed.taken by exchanged.placed.inside (small_flags (number b old vdr_flags) (word_fits b old 84 (old + 44) 4 p.read (omega arith) (omega arith)));
          pad_is =
              let wide : (pad_field b old).width ≡ length p.bytes = pad_wide b old ∙ sym p.long in
              ap (λ (k : ℕ). take k (drop (by + place) late)) wide ∙ piece_kept exchanged.filled late (by + 20) (by + need) kept (by + place) (length p.bytes) (omega (arith, pad_late b old)) (omega (arith, need_is)) by_lies (omega (arith, exchanged.as_long))
              ∙ ap (λ (x : List ℕ). take (length p.bytes) (drop (by + place) x)) exchanged.placed.written ∙ value_there b p.bytes body old place n inside (pad_late b old) p.is exchanged.placed.taken by exchanged.placed.inside;
        };
        whole = need_is ∙ ap (λ (k : ℕ). place + k) p.long;
        short = omega (arith, p.short, need_is);
      }

      -- the old one may be freed
      pub may_free : IsSound late (shape late) × In old (shape late).records × (times old (owned_records late (shape late)) ≡ 0)
      may_free = (sound_late good among made copies, old_in good among made copies, old_free good among made copies)

-- ---- at an index of the places of its kind

-- those before it
before_own : (vs : List VariableShape) (own : VariableShape) (after : List VariableShape) → Distinct (vdrs (vs ++ own ∷ after)) → vdrs vs ≡ before own.vdr (vdrs (vs ++ own ∷ after))
before_own [] own after d = rw (eq-eqb own.vdr own.vdr refl) refl
before_own (v ∷ vs) own after d = rw (ne_eqb v.vdr own.vdr (λ e. d.0 (subst (λ (x : ℕ). In x (vdrs (vs ++ own ∷ after))) (sym e) (in_middle vs own after)))) (ap (λ (r : List ℕ). v.vdr ∷ r) (before_own vs own after d.1))

module _ (b : List ℕ) (kind : Kind) {places : List ℕ} {num vdr : ℕ} (good : Good b) (are : places ≡ vdrs (shapes_of (shape b) kind)) (within : num < length places) (is : vdr ≡ slice_index places num) where
  there : AtNumber (λ (v : VariableShape). v.vdr) (shapes_of (shape b) kind) places num
  there = at_number (λ (v : VariableShape). v.vdr) (shapes_of (shape b) kind) places are num within

  vdr_is : there.own.vdr ≡ vdr
  vdr_is = sym there.own_at ∙ sym is

  pub is_vdr : IsVdr b kind vdr
  is_vdr = record { before = there.before; own = there.own; after = there.after; was = there.is ∙ ap (λ (k : ℕ). there.before ++ record there.own { vdr = k } ∷ there.after) vdr_is }

  pub stands_behind : last_or None (take num places) ≡ last_or None (before vdr (members_of b (variables_chain kind)))
  stands_behind =
      let h = (good_is_sound b good).has_shape in
      let members : members_of b (variables_chain kind) ≡ vdrs (there.before ++ there.own ∷ there.after) = variable_members b (shape b) h kind ∙ ap vdrs there.is in
      let front = before_own there.before there.own there.after (subst Distinct members (has_variable_chain b (shape b) h kind).once) in
      ap (last_or None) (there.front_at ∙ front ∙ (λ i. before (vdr_is i) (sym members i)))

  module _ {p : PadPlace} (place : IsPlace b vdr p) where
    pub place_in : (340 ≤ p.at) × (vdr + p.at ≤ length b)
    place_in = rw place.at_is (pad_late b vdr, vdr_inside good is_vdr)

    pub old_long : (xs : List ℕ) → xs ≡ take (p.at - 8) (drop (vdr + 8) b) → 40 ≤ length xs
    old_long xs e = rw e (simp (length-take, length-drop) (let l = place_in in omega arith))

    pub body_long : (xs ys value : List ℕ) (n : ℕ) → xs ≡ take (p.at - 8) (drop (vdr + 8) b) → ys ≡ put xs 36 (big_bytes 4 n) ++ value → 8 + length ys ≡ p.at + length value
    body_long xs ys value n e f = (lengths b value ys vdr p.at n place_in.1 place_in.0 (f ∙ ap (λ (old : List ℕ). put old 36 (big_bytes 4 n) ++ value) e)).3

-- ---- what is asked for

pub put_asked : {b : List ℕ} {known known' : Known} {name : List ℕ} {words : List (List ℕ)} {r : PadRequest} {id : VarId} {p : PadPlace} {bytes : _} → IsRequest b known name words r → r ≡ Put id p bytes → known ≡ known' → MayPad b known' name words id p bytes.items
put_asked {b = b} {name = name} {words = words} {id = id} {p = p} {bytes = bytes} request is view = subst (λ (k : Known). MayPad b k name words id p bytes.items) view (subst (IsRequest b _ name words) is request)

module _ {b : List ℕ} (name : List ℕ) (words : List (List ℕ)) {known : Known} (good : Good b) (knows : Knows b known) {id : VarId} {p : PadPlace} {bytes : List ℕ} (may : MayPad b known name words id p bytes) where
  abbrev parts : Parts b known name id
  parts = the_parts name good knows may.found

  abbrev vdr : ℕ
  vdr = parts.own.vdr

  abbrev mine : Found
  mine = record { kind = id.kind; number = length parts.before; variable = variable_of b parts.own }

  abbrev padded : Variable
  padded = record (variable_of b parts.own) { pad = Some may.value.value }

  site_is : p.vdr ≡ vdr
  site_is = may.vdr_is ∙ parts.place_is

  site : IsPlace b vdr p
  site = subst (λ (k : ℕ). IsPlace b k p) site_is may.place

  long : length bytes ≡ value_bytes b vdr
  long = may.value.long ∙ ap₂ (λ (t : DataType) (n : ℕ). size_of t * n) site.t_is site.elems_are

  turns : Some (turned (type_of_variable b vdr) (is_little b) bytes) ≡ Some may.value.value
  turns = ap Some (ap (λ (t : DataType). turned t (is_little b) bytes) (sym site.t_is) ∙ may.value.turns)

  goes : step (content b) (SetPad name words) ≡ ByStep (Go (with_variable (content b) mine padded) Plain)
  goes =
      let read : values_in (type_of_variable b vdr) (elems_at b vdr) 1 words ≡ Ok may.value.value = ap₂ (λ (t : DataType) (n : ℕ). values_in t n 1 words) (sym site.t_is) (sym site.elems_are) ∙ may.value.read in
      rw (parts.named, read) refl

  -- the room that it asks for is that of a VDR up to the end of its pad value
  room_is : room b (SetPad name words) ≡ p.at + length bytes
  room_is =
      ap (λ (o : Option Found). elim o as (λ x. ℕ) [ None ↦ 0 | Some f ↦ elim (slice_get (shapes_of (shape b) f.kind) f.number) as (λ x. ℕ) [ None ↦ 0 | Some u ↦ vdr_bytes f.kind (length f.variable.dims) + value_size f.variable ] ]) parts.named
      ∙ ap (λ (o : Option VariableShape). elim o as (λ x. ℕ) [ None ↦ 0 | Some u ↦ vdr_bytes id.kind (length (dims_at b vdr)) + value_bytes b vdr ]) (stands_there name good knows may.found)
      ∙ ap₂ (λ (m n : ℕ). m + n) (ap (vdr_bytes id.kind) (dims_long b vdr) ∙ sym (pad_place id.kind b vdr (typed good parts.at)) ∙ sym site.at_is) (sym long)

  pub within_known : {kind : Kind} → id.kind ≡ kind → id.num < length (known_of known kind).places
  within_known of = subst (λ (k : Kind). id.num < length (known_of known k).places) of (within_places name good knows may.found)

  pub at_inside : p.at ≤ length b
  at_inside = let fit = (fits good parts.at).0 in let l = high good parts.at in omega (arith, fit, l, site.at_is)

  pub need_inside : p.at + length bytes ≤ p.size → p.vdr + (p.at + length bytes) ≤ length b
  need_inside fit = let l = high good parts.at in omega (arith, l, fit, site_is, site.size_is)

  pub over : (limit : ℕ) → limit - length b < p.at + length bytes → length b ≤ limit → Answers limit b (SetPad name words) (Refused TooLarge) b
  over limit test fit = let size = room_is in too_large limit b (SetPad name words) _ Plain goes (omega (arith, size, test, fit))

  -- ---- in its place

  module _ {now : List ℕ} (written : now ≡ put (with_field b p.vdr vdr_flags (padded_flags p.flags)) (p.vdr + p.at) bytes) (fit : p.at + length bytes ≤ p.size) where
    written_there : WritesPad b now vdr bytes
    written_there =
        let vs = site_is in
        let fs = site.flags_are in
        let ats = site.at_is in
        record { long = long; room = omega (arith, fit, long, site.at_is, site.size_is); small = word_fits b vdr 84 (vdr + 44) 4 site.bytes (omega arith) (omega arith); written = written ∙ (λ i. put (with_field b (vs i) vdr_flags (padded_flags (fs i))) (vs i + ats i) bytes) }

    here : variable_of now parts.own ≡ padded
    here = meaning good parts.at written_there ∙ (λ i. record (variable_of b parts.own) { pad = turns i })

    pub put_done : ((limit : ℕ) → p.at + length bytes ≤ limit - length b → length b ≤ limit → limit ≤ image_limit → Answers limit b (SetPad name words) (Done Plain) now) × Knows now known
    put_done = (
      λ limit under short limited.
          let size = room_is in
          gone limit b (SetPad name words) _ Plain now goes (omega (arith, size, under, short))
          (follows_still name good knows may.found (edits good parts.at written_there) here (SetPad name words) refl goes
          (may_keep name good knows may.found now (set_pad_changes b (shape b)) (record stays_own { vdr = Anything }) (next_field ∷ []) refl tt)
          (of_found name good knows may.found (λ u u'. SetsPad b now u.vdr u'.vdr []) (still_there name good knows may.found (edits good parts.at written_there) here) (pads_in_place good parts.at written_there))
          (omega (arith, short, limited)) refl),
      knows_still name good knows may.found (edits good parts.at written_there) here refl,
    )

  -- ---- where the VDR moved

  module _ {now places places' : List ℕ} {num : ℕ} (m : Moves b now id.kind p bytes places places' num) (less : p.size < p.at + length bytes) where
    mv : MovedTo b now id.kind vdr (padded_body b vdr bytes) m.by
    mv = subst (λ (k : ℕ). MovedTo b now id.kind k (padded_body b k bytes) m.by) site_is m.moved

    abbrev stands : IsVdr b id.kind vdr
    stands = record { before = parts.before; own = parts.own; after = parts.after; was = parts.at.was }

    abbrev pads : IsPadded b vdr (padded_body b vdr bytes)
    pads = record { bytes = bytes; is = refl; long = long; short = omega (arith, less, site.size_is, site.at_is); read = site.bytes }

    abbrev moved : MovesVdr b mv.late id.kind parts.own (padded_body b vdr bytes) m.by
    moved = made good stands pads mv.exchanged

    says : CopiesVdr b mv.late parts.own (padded_body b vdr bytes) m.by bytes
    says = copies good stands pads mv.exchanged mv.read

    content_moved : content now ≡ with_variable (content b) mine padded
    content_moved = freed_content good parts.at moved says mv.gives ∙ ap (with_variable (content b) mine) (pad_means good parts.at moved says mv.gives ∙ (λ i. record (variable_of b parts.own) { pad = turns i }))

    there_now : slice_get (shapes_of (shape now) id.kind) (length parts.before) ≡ Some (own' good parts.at moved)
    there_now = ap (λ (vs : List VariableShape). slice_get vs (length parts.before)) (own_now b now _ id.kind (freed_is good parts.at moved says mv.gives)) ∙ got-middle parts.before (own' good parts.at moved) parts.after

    moved_answers : (limit : ℕ) → p.at + length bytes ≤ limit - length b → length b ≤ limit → limit ≤ image_limit → Answers limit b (SetPad name words) (Done Plain) now
    moved_answers limit under fit above =
        let size = room_is in
        let body_is : 8 + length (padded_body b vdr bytes) ≡ (pad_field b vdr).place + length bytes = need_is good stands pads in
        let same = site.at_is in
        let grown : length mv.late ≤ length b + (8 + length (padded_body b vdr bytes)) = (let l = mv.exchanged.placed.longest in omega (arith, l, mv.exchanged.as_long)) in
        let as_long = long_now good parts.at moved says mv.gives in
        gone limit b (SetPad name words) _ Plain now goes (omega (arith, size, under, fit)) (record {
          reply = Plain;
          goes = goes ∙ ap (λ (d : DataSet). ByStep (Go d Plain)) (sym content_moved);
          good = freed_good good parts.at moved says mv.gives (omega (arith, grown, body_is, same, under, fit, above));
          longer = (edit_now good parts.at moved says mv.gives).longer;
          within = omega (arith, as_long, grown, body_is, same, size);
          reads = λ e. absurd (true≢false (sym e));
          acts = acts good parts.at moved says mv.gives;
          takes_within = omega (arith, body_is, same, size);
          acts_follow = acts_now good parts.at moved says mv.gives;
          keeps = subst (λ (a : Allowances). AllKeep b now a (acts good parts.at moved says mv.gives) (owned b (shape b))) (sym (may_named name good knows may.found (set_pad_changes b (shape b)))) (keeps_now good parts.at moved says mv.gives (variable_of b parts.own));
          does = of_found name good knows may.found (λ u u'. SetsPad b now u.vdr u'.vdr (acts good parts.at moved says mv.gives)) there_now (moved_sets_pad good parts.at moved says mv.gives);
        })

    pub moved_done : ((limit : ℕ) → p.at + length bytes ≤ limit - length b → length b ≤ limit → limit ≤ image_limit → Answers limit b (SetPad name words) (Done Plain) now) × ((kind : Kind) → id.kind ≡ kind → places ≡ (known_of known kind).places → num ≡ id.num → Knows now (with_known known kind (record (known_of known kind) { places = places' })))
    moved_done = (
      moved_answers,
      λ kind of old at.
          let places_are = (own_known name good knows may.found).places_are ∙ ap vdrs parts.at.was in
          subst (λ (k : Kind). Knows now (with_known known k (record (known_of known k) { places = places' }))) of
          (knows_with _ _ knows id.kind content_moved (freed_is good parts.at moved says mv.gives) (same_names name good knows may.found padded refl)
          (m.places_are ∙ (λ i. slice_set (old i) (at i) m.by) ∙ (λ i. slice_set (known_of known (sym of i)).places (sym parts.count i) m.by) ∙ ap (λ (xs : List ℕ). slice_set xs (length parts.before) m.by) (places_are ∙ vdrs_append parts.before (parts.own ∷ parts.after))
          ∙ set_at (vdrs parts.before) parts.own.vdr (vdrs parts.after) m.by (length parts.before) (length-map parts.before (λ (v : VariableShape). v.vdr)) ∙ sym (vdrs_append parts.before (own' good parts.at moved ∷ parts.after)))),
    )
