-- Parameters were placed for a variable without an index and without parameters, and then packing was turned on: all that this leaves of the image.
use Rattle.cdf_edits.proofs.Common.{ActsFollow, Avoids, Away, Bool, Edit, Field, Fills, FreedStay, Good, HasShape, In, IsBody, IsSound, Kind, List, Mark, Only, OwnedOnce, R, Says, Shape, Stays, Took, VariableShape, Z, [], ap, append-nil, arith, avoided, big_bytes, content, count_of, cpr_c_type, cpr_p_count, cpr_parameter, cpr_type, false, gdr_type, good_by_its_shape, has_bit, head_of, image_limit, inl, inr, is_compressed, is_in-true, is_late, keeps_file, length, length-append, length-bytes_high_first, linkable-in, linkable-type, making_marks, no_fields, no_node, number, number_kept, record_type, refl, shape, size_at, space_fields, subst, sym, size_kept, tile_lies, times, times-none, true, type_at, type_in, type_kept, type_of_body, uir_type, variable_of, variables_chain, vdr_cpr_or_spr_offset, vdr_flags, with_variable, within, ℕ, ◌++◌, ◌+◌, ◌<◌, ◌^◌, ◌∙◌, ◌∷◌, ◌≡◌, ◌≢◌, ◌≤◌}
use Rattle.cdf_edits.proofs.Edits.ActsJoined.{ListedStay}
use Rattle.cdf_edits.proofs.Edits.Common.{Avoids-append, Away-append, Kept, StandsAmong, has, keeps_all_attributes, keeps_fields, keeps_kind, kept_away, long, other_kind, owned_once_if, placed_laid, placing_marks, says_laid_out, sound, the_one, tile, typed, used_times, variable_typed, with_shapes, gdr_in, gdr_typed, keeps_away, keeps_within}
use Rattle.cdf_edits.proofs.Edits.EditActs.{acts_took}
use Rattle.cdf_edits.proofs.Edits.MadeRecord as of_made
use Rattle.cdf_edits.proofs.Edits.RecordPlaced.{Grows, placed_grows}
use Rattle.cdf_edits.proofs.Space.LaidOut.{IsType, typed_body}
use Rattle.cdf_edits.specs.Commands.Cuts.{cpr_acts}
use Rattle.cdf_edits.specs.Space.Placing.{Placed}
use Rattle.cdf_format.specs.Records.{cpr_rfu_a}
use Rattle.cdf_format.specs.VariableRules.{is_cpr, is_known_packing}
use Rattle.cdf_puts.specs.Going.{LooseStay, found_in}
use Rattle.cdf_cuts.proofs.CutFreed.{used_type, vdr_apart}
use Rattle.cdf_cuts.proofs.WritesThen.{links}
use Rattle.cdf_index.proofs.Common.{away-avoids}
use Rattle.cdf_compress.proofs.PackingWritten as of_bytes
use Rattle.cdf_compress.proofs.PackingWritten.{packing_marks}
use Rattle.cdf_compress.proofs.PackEdited as of_pack
use Rattle.cdf_compress.proofs.PackEdited.{IsBeside, PackEdit}
use Rattle.cdf_compress.proofs.RepackedRules.{Packs}
use Rattle.cdf_compress.specs.Repacking.{Repacked, cpr_body, packed_flags, with_cpr, with_packing}

-- ---- what is placed

pub is_cpr_type : IsType cpr_type 28
is_cpr_type = record { small = omega arith; real = refl; in_use = (λ e. absurd cc); fixed = omega arith; enough = omega arith }

four : (n : ℕ) (rest : List ℕ) → length (big_bytes 4 n ++ rest) ≡ 4 + length rest
four n rest = length-append (big_bytes 4 n) rest ∙ ap (λ (k : ℕ). k + length rest) (length-bytes_high_first 4 n)

pub body_long : length cpr_body ≡ 20
body_long =
    let parameter = big_bytes 4 0 ++ [] in
    let count = big_bytes 4 1 ++ parameter in
    let reserved = big_bytes 4 0 ++ count in
    let packing = big_bytes 4 1 ++ reserved in
    omega (arith, four 11 packing, four 1 reserved, four 0 count, four 1 parameter, four 0 [])

pub body_is : (type_of_body cpr_body ≡ cpr_type) × IsBody cpr_body
body_is = typed_body ((cpr_c_type, 1) ∷ (cpr_rfu_a, 0) ∷ (cpr_p_count, 1) ∷ (cpr_parameter 0, 0) ∷ []) [] cpr_body is_cpr_type (sym (append-nil cpr_body)) (omega (arith, body_long))

-- ---- marks

abbrev on_marks : Kind → ℕ → List ℕ → ℕ → List Mark
on_marks kind v unused place = making_marks unused place 28 (packing_marks (type_in (variables_chain kind)) v)

record OnTests (kind : Kind) (v : ℕ) (unused : List ℕ) (place : ℕ) : Type 0 where
  file_clear : keeps_file (on_marks kind v unused place) ≡ true
  attributes_clear : keeps_all_attributes (on_marks kind v unused place) ≡ true
  other_clear : keeps_kind (on_marks kind v unused place) (other_kind kind) ≡ true
  head_clear : avoided (on_marks kind v unused place) gdr_type (head_of (variables_chain kind)).place ((head_of (variables_chain kind)).place + (head_of (variables_chain kind)).width) ≡ true
  count_clear : avoided (on_marks kind v unused place) gdr_type (count_of (variables_chain kind)).place ((count_of (variables_chain kind)).place + (count_of (variables_chain kind)).width) ≡ true
  gdr_clear : avoided (on_marks kind v unused place) gdr_type 0 12 ≡ true
  gdr_within : within (on_marks kind v unused place) gdr_type space_fields ≡ true
  lately : is_late (packing_marks (type_in (variables_chain kind)) v) cpr_type ≡ true

on_tests : (kind : Kind) (v : ℕ) (unused : List ℕ) (place : ℕ) → OnTests kind v unused place
on_tests R v unused place = record { file_clear = refl; attributes_clear = refl; other_clear = refl; head_clear = refl; count_clear = refl; gdr_clear = refl; gdr_within = refl; lately = refl }
on_tests Z v unused place = record { file_clear = refl; attributes_clear = refl; other_clear = refl; head_clear = refl; count_clear = refl; gdr_clear = refl; gdr_within = refl; lately = refl }

-- a record that is in use and is not the GDR is left
placing_away : (unused : List ℕ) (place need type m : ℕ) → type ≢ gdr_type → type ≢ uir_type → Away (placing_marks unused place need) type m
placing_away unused place need type m g u = ((λ same lies. g same), ((λ same lies. g same), ((λ same lies. u same), ((λ same lies. u same), ((λ same lies. u same), ((λ same lies. u same), tt))))))

no_cpr : (kind : Kind) → type_in (variables_chain kind) ≢ cpr_type
no_cpr R e = cc
no_cpr Z e = cc

module _ {b filled : List ℕ} {kind : Kind} {before : List VariableShape} {own : VariableShape} {after : List VariableShape} {place : ℕ} (good : Good b) (at : StandsAmong b kind before own after) (none : own.index ≡ no_node) (loose : is_compressed b own.vdr ≡ false) (short : length b + 28 ≤ image_limit) (small : number b own.vdr vdr_flags < 256 ^ 4) (placed : Placed b filled cpr_body place) where
  abbrev s : Shape
  s = shape b

  abbrev v : ℕ
  v = own.vdr

  abbrev type : ℕ
  type = type_in (variables_chain kind)

  abbrev records : List ℕ
  records = (shape filled).records

  abbrev list : List ℕ
  list = (shape filled).unused

  abbrev late : List Mark
  late = packing_marks type v

  abbrev now : List ℕ
  now = with_packing filled v true place

  h : HasShape b s
  h = (sound good at).has_shape

  fills : Fills b placed.taken filled s records list 28 place cpr_type
  fills = subst (λ (x : ℕ). Fills b placed.taken filled s records list 28 place x) body_is.0 (subst (λ (n : ℕ). Fills b placed.taken filled s records list (8 + n) place (type_of_body cpr_body)) body_long placed.fills)

  grows : Grows b filled (placing_marks s.unused place 28) (place ∷ [])
  grows = placed_grows (sound good at) fills

  tests : OnTests kind v s.unused place
  tests = on_tests kind v s.unused place

  -- ---- the descriptor, until it is written

  vdr_kept : Kept b filled v
  vdr_kept = kept_away grows.edit v type (tile good at) (typed good at) (placing_away s.unused place 28 type v (vdr_apart kind).0 (vdr_apart kind).1)

  pub flags_filled : number filled v vdr_flags ≡ number b v vdr_flags
  flags_filled = number_kept b filled v vdr_kept.same vdr_flags (let n = long good at in omega arith)

  inside : In v records
  inside = grows.edit.sub v (tile good at)

  type_filled : type_at filled v ≡ type
  type_filled = type_kept b filled v vdr_kept.same vdr_kept.long ∙ typed good at

  wide : 80 ≤ size_at filled v
  wide = let n = long good at in let e = size_kept b filled v vdr_kept.same (omega (arith, n)) in omega (arith, n, e)

  small_filled : number filled v vdr_flags < 256 ^ 4
  small_filled = omega (arith, small, flags_filled)

  filled_sound : IsSound filled (shape filled)
  filled_sound = grows.sound

  filled_short : length filled ≤ length b + 28
  filled_short = omega (arith, placed.longest, body_long)

  pub inside_filled : v + 80 ≤ length filled
  inside_filled = let t = tile_lies filled 8 (length filled) records v filled_sound.has_shape.tiled inside in omega (arith, t.high, wide)

  -- where the parameters stand
  low : place < 256 ^ 8
  low =
      let t = tile_lies filled 8 (length filled) records place filled_sound.has_shape.tiled (of_made.place_in (sound good at) fills) in
      omega (arith, t.high, filled_short, short)

  -- ---- Flags and CPRorSPRoffset

  later : Edit filled now records records late []
  later = of_bytes.edit filled records v true place filled_sound.has_shape.tiled inside type_filled wide small_filled low

  as_long : length now ≡ length filled
  as_long = of_bytes.as_long filled records v true place filled_sound.has_shape.tiled inside type_filled wide small_filled low

  link_is : number now v vdr_cpr_or_spr_offset ≡ place
  link_is = of_bytes.link_is filled records v true place filled_sound.has_shape.tiled inside type_filled wide small_filled low

  packed : is_compressed now v ≡ true
  packed = of_bytes.packed_is filled records v true place filled_sound.has_shape.tiled inside type_filled wide small_filled low

  away : (of m : ℕ) → (m ≡ v → ⊥) → Away late of m
  away of m other = ((λ same lies. other (the_one v m lies)), ((λ same lies. other (the_one v m lies)), tt))

  avoids : (m lo hi : ℕ) → IsBeside lo hi → Avoids late type m lo hi
  avoids m lo hi (inl l) = ((λ same lies. inl l), ((λ same lies. inl (omega (arith, l))), tt))
  avoids m lo hi (inr (inl p)) = ((λ same lies. inr p.0), ((λ same lies. inl p.1), tt))
  avoids m lo hi (inr (inr l)) = ((λ same lies. inr (omega (arith, l))), ((λ same lies. inr l), tt))

  abbrev placing : List Mark
  placing = placing_marks s.unused place 28

  made : Edit b now s.records records (on_marks kind v s.unused place) (place ∷ [])
  made = of_made.made_edit (sound good at) fills later as_long tests.lately

  pub on_pack : PackEdit b now kind own (place ∷ []) records list (on_marks kind v s.unused place) (place ∷ [])
  on_pack = record {
    edit = made;
    file_clear = tests.file_clear;
    attributes_clear = tests.attributes_clear;
    other_clear = tests.other_clear;
    head_clear = tests.head_clear;
    count_clear = tests.count_clear;
    beside = λ m i out. (let u = used_type (type_at b m) (variable_typed b s (sound good at) m i) in Away-append placing late (type_at b m) m (placing_away s.unused place 28 (type_at b m) m u.0 u.1) (away (type_at b m) m (λ q. out (inl q))));
    avoids = λ m lo hi side. Avoids-append placing late type m lo hi (away-avoids placing type m lo hi (placing_away s.unused place 28 type m (vdr_apart kind).0 (vdr_apart kind).1)) (avoids m lo hi side);
    typed = of_made.made_typed (sound good at) fills later as_long tests.lately;
    unused_chain = of_made.list_chain (sound good at) fills later as_long tests.lately;
    packed_by = of_bytes.cpr_is filled records v true place filled_sound.has_shape.tiled inside type_filled wide small_filled low;
    vary = of_bytes.vary_is filled records v true place filled_sound.has_shape.tiled inside type_filled wide small_filled low ∙ ap (λ (n : ℕ). has_bit n 0) flags_filled;
    padded = of_bytes.padded_is filled records v true place filled_sound.has_shape.tiled inside type_filled wide small_filled low ∙ ap (λ (n : ℕ). has_bit n 1) flags_filled;
  }

  -- ---- the parameters

  place_in : In place records
  place_in = of_made.place_in (sound good at) fills

  place_typed : type_at now place ≡ cpr_type
  place_typed = of_made.made_type (sound good at) fills later as_long tests.lately

  place_size : size_at now place ≡ 28
  place_size = of_made.made_size (sound good at) fills later as_long tests.lately

  place_apart : place ≡ v → ⊥
  place_apart q = no_cpr kind (sym type_filled ∙ ap (type_at filled) (sym q) ∙ fills.typed)

  place_kept : Kept filled now place
  place_kept = kept_away later place cpr_type place_in fills.typed (away cpr_type place place_apart)

  said : Says filled place ((record_type, cpr_type) ∷ (cpr_c_type, 1) ∷ (cpr_rfu_a, 0) ∷ (cpr_p_count, 1) ∷ (cpr_parameter 0, 0) ∷ [])
  said =
      let fields = (record_type, cpr_type) ∷ (cpr_c_type, 1) ∷ (cpr_rfu_a, 0) ∷ (cpr_p_count, 1) ∷ (cpr_parameter 0, 0) ∷ [] in
      let l = placed_laid [] cpr_body 8 refl placed refl in
      (says_laid_out filled place 8 fields l.0 l.1 refl (omega arith, (omega arith, (omega arith, (omega arith, (omega arith, tt)))))).0

  filled_size : size_at filled place ≡ 28
  filled_size = of_made.filled_size (sound good at) fills

  says : (f : Field) (n : ℕ) → f.place + f.width ≤ 28 → number filled place f ≡ n → number now place f ≡ n
  says f n l e = number_kept filled now place place_kept.same f (omega (arith, l, filled_size)) ∙ e

  pub is_parameters : is_cpr now records place ≡ true
  is_parameters =
      let there = is_in-true place records place_in in
      let count = says cpr_p_count 1 (omega arith) said.1.1.1.0 in
      rw (there, place_typed, count, place_size) refl

  pub is_known : is_known_packing now place ≡ true
  is_known =
      let type = says cpr_c_type 1 (omega arith) said.1.0 in
      let parameter = says (cpr_parameter 0) 0 (omega arith) said.1.1.1.1.0 in
      rw (type, parameter) refl

  packs : Packs now records v
  packs = (rw packed refl, (rw (packed, link_is, is_parameters) refl, rw (packed, link_is, is_parameters) (is_known, tt)))

  -- ---- the image is good

  abbrev after_shape : Shape
  after_shape = with_shapes s kind records list (before ++ with_cpr own (place ∷ []) ∷ after)

  no_own : own.cpr ≡ []
  no_own = sym (has good at).packed_by ∙ rw loose refl

  used_now : (m : ℕ) → used_times after_shape m + 0 ≡ used_times s m + times m (place ∷ [])
  used_now m = of_pack.owners good at none on_pack m (times m (place ∷ [])) 0 (rw no_own (omega arith))

  owned_now : OwnedOnce now after_shape
  owned_now = owned_once_if b now s after_shape (on_marks kind v s.unused place) (place ∷ []) (sound good at) (good_by_its_shape b good).owned_once made (λ m out. omega (arith, used_now m, times-none m (place ∷ []) out))
      (λ m i. inl (of_made.made_once (sound good at) fills later as_long tests.lately after_shape 0 (used_now place) refl m i))

  long_now : length now ≤ length b + 28
  long_now = omega (arith, as_long, filled_short)

  pub good_on : Good now
  good_on = of_pack.good_if good at none on_pack packs owned_now (of_made.end_now (sound good at) fills later as_long tests.lately) (omega (arith, long_now, short))

  -- ---- what stays

  same_records : (shape now).records ≡ records
  same_records = of_pack.records_are good at none on_pack

  same_list : (shape now).unused ≡ list
  same_list = ap (λ (y : Shape). y.unused) (of_pack.same_shape good at none on_pack)

  follow : ActsFollow b now (Took place 28 ∷ [])
  follow = acts_took (sound good at) fills later as_long tests.lately same_records same_list

  listed : ListedStay b now (Took place 28 ∷ [])
  listed m i free =
      let ok = h.unused_chain.linkable m i in
      let marked = of_made.listed_marks (sound good at) fills later as_long tests.lately same_records m i free in
      keeps_within (sound good at) made same_records m uir_type links (linkable-in b s.records uir_type m ok) (linkable-type b s.records uir_type m ok) marked.0 marked.1

  spared : LooseStay b now
  spared m i is out = keeps_away (sound good at) made same_records m uir_type (Only []) i is (of_made.loose_away (sound good at) fills later as_long tests.lately m i out)

  gdr_stays : Stays b now s.gdr space_fields
  gdr_stays = keeps_fields (sound good at) made same_records s.gdr gdr_type space_fields (gdr_in b s h) (gdr_typed b s h) tests.gdr_clear tests.gdr_within

  longer : length b ≤ length now
  longer = made.longer

  turned : cpr_acts b true own.cpr (place ∷ []) ≡ Took place 28 ∷ []
  turned = rw no_own refl

  pub turned_on : Repacked b now kind before own after true (place ∷ [])
  turned_on = record {
    good = good_on;
    among = of_pack.among_now good at none on_pack;
    gdr_is = of_pack.gdr_is good at none on_pack;
    attributes_are = of_pack.attributes_are good at none on_pack;
    others_are = of_pack.others_are good at none on_pack;
    content_is = of_pack.content_repacked good at none on_pack ∙ ap (λ (rle : Bool). with_variable (content b) (found_in b kind before own) (record (variable_of b own) { rle = rle })) packed;
    longer = longer;
    within = long_now;
    follow = subst (ActsFollow b now) (sym turned) follow;
    gdr = gdr_stays;
    descriptor = of_pack.descriptor good at none on_pack;
    cpr_stays = λ e m i. absurd (subst (In m) no_own i);
    stay = of_pack.stay good at none on_pack;
    listed = subst (ListedStay b now) (sym turned) listed;
    loose = spared;
    freed = subst (FreedStay b now no_fields) (sym turned) tt;
    flags_are = of_bytes.flags_are filled records v true place filled_sound.has_shape.tiled inside type_filled wide small_filled low ∙ ap (λ (n : ℕ). packed_flags n true) flags_filled;
    cpr_says = λ e. ((says cpr_rfu_a 0 (omega arith) said.1.1.0, (says cpr_p_count 1 (omega arith) said.1.1.1.0, tt)), tt);
    link_is = λ e. absurd cc;
  }
