-- Packing of a variable without an index was turned off, and its parameters were freed: all that this leaves of the image.
use Rattle.cdf_edits.proofs.Common.{AreFree, Avoids, Away, Bool, Edit, Field, Good, HasShape, In, IsChain, IsSound, Kind, List, Mark, Only, OwnedOnce, R, Same, Shape, Stays, VariableShape, Within, Z, [], ap, arith, avoided, content, count_of, cpr_type, eof, false, freeing_marks, gdr_eof, gdr_type, gdr_uir_head, good_by_its_shape, has_bit, head_of, image_limit, inl, inr, is_a, is_a-type, is_compressed, keeps_file, length, linkable-in, linkable-type, links_end, no_node, number, owned_records, refl, shape, size_at, space_fields, subst, sym, times, times-none, true, type_at, type_in, uir_type, variable_of, variable_records, variables_chain, with_variable, vdr_cpr_or_spr_offset, vdr_flags, within, word_kept, ℕ, ◌++◌, ◌+◌, ◌<◌, ◌^◌, ◌∙◌, ◌∷◌, ◌≡◌, ◌≢◌, ◌≤◌}
use Rattle.cdf_edits.proofs.Edits.Common.{Avoids-append, Away-append, Each-in, Frees, Kept, MarkTests, StandsAmong, all_freed, apart, behind_in, chain_stays, cpr_behind, fits, freed_acts, freed_bytes, freed_edit, freed_long, freed_records, gdr_field, gdr_in, gdr_place, gdr_still, gdr_typed, keeps_all_attributes, keeps_kind, long, not_twice_kept, none_in_use, other_kind, others_kept, owned-times, owned_once_if, sound, sound_if, sound_now, the_one, through, tile, times-in, typed, used_times, variable_typed, with_shapes}
use Rattle.cdf_edits.proofs.Edits.LeftOwners.{distinct_if}
use Rattle.cdf_edits.proofs.Edits.OwnersKept.{keeps_away, keeps_fields, keeps_within}
use Rattle.cdf_edits.proofs.Edits.OwnedOnce.{IsSorted}
use Rattle.cdf_format.proofs.GoodSound.{good_eof}
use Rattle.cdf_index.proofs.Common.{Within-append, away-avoids, away-within, unmarked-away}
use Rattle.cdf_puts.specs.Going.{LooseStay, found_in}
use Rattle.cdf_cuts.proofs.CutFreed.{used_type, vdr_apart}
use Rattle.cdf_cuts.proofs.WritesThen.{links}
use Rattle.cdf_compress.proofs.PackingWritten as of_bytes
use Rattle.cdf_compress.proofs.PackingWritten.{packing_marks, packing_tests}
use Rattle.cdf_compress.proofs.PackEdited as of_pack
use Rattle.cdf_compress.proofs.PackEdited.{IsBeside, PackEdit}
use Rattle.cdf_compress.specs.Repacking.{Repacked, TurnedOff, no_link, with_cpr, with_packing}

abbrev types : List ℕ
types = cpr_type ∷ []

abbrev off_marks : Kind → ℕ → List ℕ → List ℕ → ℕ → List Mark
off_marks kind v unused freed n = packing_marks (type_in (variables_chain kind)) v ++ freeing_marks types unused freed n

record OffTests (kind : Kind) (v : ℕ) (unused freed : List ℕ) (n : ℕ) : Type 0 where
  file_clear : keeps_file (off_marks kind v unused freed n) ≡ true
  attributes_clear : keeps_all_attributes (off_marks kind v unused freed n) ≡ true
  other_clear : keeps_kind (off_marks kind v unused freed n) (other_kind kind) ≡ true
  head_clear : avoided (off_marks kind v unused freed n) gdr_type (head_of (variables_chain kind)).place ((head_of (variables_chain kind)).place + (head_of (variables_chain kind)).width) ≡ true
  count_clear : avoided (off_marks kind v unused freed n) gdr_type (count_of (variables_chain kind)).place ((count_of (variables_chain kind)).place + (count_of (variables_chain kind)).width) ≡ true
  gdr_clear : avoided (off_marks kind v unused freed n) gdr_type 0 12 ≡ true
  gdr_within : within (off_marks kind v unused freed n) gdr_type space_fields ≡ true

off_tests : (kind : Kind) (v : ℕ) (unused freed : List ℕ) (n : ℕ) → OffTests kind v unused freed n
off_tests R v unused freed n = record { file_clear = refl; attributes_clear = refl; other_clear = refl; head_clear = refl; count_clear = refl; gdr_clear = refl; gdr_within = refl }
off_tests Z v unused freed n = record { file_clear = refl; attributes_clear = refl; other_clear = refl; head_clear = refl; count_clear = refl; gdr_clear = refl; gdr_within = refl }

-- ---- of unused records, and of the descriptor

listed_avoids : (unused freed : List ℕ) (n m : ℕ) → Avoids (freeing_marks types unused freed n) uir_type m 0 12
listed_avoids unused freed n m = grind arith

listed_within : (unused freed : List ℕ) (n m : ℕ) → Within (freeing_marks types unused freed n) uir_type m links
listed_within unused freed n m = grind arith

loose_away : (unused freed : List ℕ) (n m : ℕ) → (In m unused → ⊥) → Away (freeing_marks types unused freed n) uir_type m
loose_away unused freed n m out = grind (arith, out)

used_away : (unused freed : List ℕ) (n type m : ℕ) → type ≢ gdr_type → type ≢ uir_type → (In m freed → ⊥) → Away (freeing_marks types unused freed n) type m
used_away unused freed n type m g u out = ((λ same lies. g same), ((λ same lies. u same), ((λ same lies. out lies), tt)))

no_cpr : (kind : Kind) → type_in (variables_chain kind) ≢ cpr_type
no_cpr R e = cc
no_cpr Z e = cc

freed_avoids : (kind : Kind) (unused freed : List ℕ) (n m lo hi : ℕ) → Avoids (freeing_marks types unused freed n) (type_in (variables_chain kind)) m lo hi
freed_avoids kind unused freed n m lo hi = let far = vdr_apart kind in ((λ e l. absurd (far.0 e)), ((λ e l. absurd (far.1 e)), ((λ e l. absurd (no_cpr kind e)), tt)))

module _ {b : List ℕ} {kind : Kind} {before : List VariableShape} {own : VariableShape} {after : List VariableShape} (good : Good b) (at : StandsAmong b kind before own after) (none : own.index ≡ no_node) (short : length b ≤ image_limit) (small : number b own.vdr vdr_flags < 256 ^ 4) where
  abbrev s : Shape
  s = shape b

  abbrev v : ℕ
  v = own.vdr

  abbrev type : ℕ
  type = type_in (variables_chain kind)

  abbrev linked : List ℕ
  linked = with_packing b v false no_link

  abbrev marks : List Mark
  marks = packing_marks type v

  h : HasShape b s
  h = (sound good at).has_shape

  t : MarkTests kind marks
  t = packing_tests kind v

  wide : 80 ≤ size_at b v
  wide = through 80 340 (size_at b v) (omega arith) (long good at)

  -- ---- Flags and CPRorSPRoffset

  edit : Edit b linked s.records s.records marks []
  edit = of_bytes.edit b s.records v false no_link h.tiled (tile good at) (typed good at) wide small (omega arith)

  as_long : length linked ≡ length b
  as_long = of_bytes.as_long b s.records v false no_link h.tiled (tile good at) (typed good at) wide small (omega arith)

  away : (of m : ℕ) → (m ≡ v → ⊥) → Away marks of m
  away of m other = ((λ same lies. other (the_one v m lies)), ((λ same lies. other (the_one v m lies)), tt))

  early : (of m lo hi : ℕ) → hi ≤ 44 → Avoids marks of m lo hi
  early of m lo hi l = ((λ same lies. inl l), ((λ same lies. inl (omega (arith, l))), tt))

  avoids : (m lo hi : ℕ) → IsBeside lo hi → Avoids marks type m lo hi
  avoids m lo hi (inl l) = early type m lo hi l
  avoids m lo hi (inr (inl p)) = ((λ same lies. inr p.0), ((λ same lies. inl p.1), tt))
  avoids m lo hi (inr (inr l)) = ((λ same lies. inr (omega (arith, l))), ((λ same lies. inr l), tt))

  linked_pack : PackEdit b linked kind own [] s.records s.unused marks []
  linked_pack = record {
    edit = edit;
    file_clear = t.file_clear;
    attributes_clear = t.attributes_clear;
    other_clear = t.other_clear;
    head_clear = t.gdr_clear (head_of (variables_chain kind)).place ((head_of (variables_chain kind)).place + (head_of (variables_chain kind)).width);
    count_clear = t.gdr_clear (count_of (variables_chain kind)).place ((count_of (variables_chain kind)).place + (count_of (variables_chain kind)).width);
    beside = λ m i out. away (type_at b m) m (λ q. out (inl q));
    avoids = avoids;
    typed = λ m i. absurd i;
    unused_chain = chain_stays edit uir_type _ _ s.unused h.unused_chain (gdr_field (sound good at) edit t.file_clear gdr_uir_head (t.gdr_clear gdr_uir_head.place (gdr_uir_head.place + gdr_uir_head.width)) (omega arith)) (λ m i. early uir_type m 0 20 (omega arith));
    packed_by = of_bytes.cpr_is b s.records v false no_link h.tiled (tile good at) (typed good at) wide small (omega arith);
    vary = of_bytes.vary_is b s.records v false no_link h.tiled (tile good at) (typed good at) wide small (omega arith);
    padded = of_bytes.padded_is b s.records v false no_link h.tiled (tile good at) (typed good at) wide small (omega arith);
  }

  abbrev linked_shape_is : Shape
  linked_shape_is = with_shapes s kind s.records s.unused (before ++ with_cpr own [] ∷ after)

  linked_shape : shape linked ≡ linked_shape_is
  linked_shape = of_pack.same_shape good at none linked_pack

  left_used : (m : ℕ) → used_times linked_shape_is m + times m own.cpr ≡ used_times s m
  left_used m = of_pack.owners good at none linked_pack m 0 (times m own.cpr) (omega arith) ∙ omega arith

  used_most : (m : ℕ) → used_times s m ≤ 1
  used_most m = omega (arith, (sound good at).not_twice m, owned-times b s m)

  own_in : (m : ℕ) → In m own.cpr → In m s.records
  own_in m i = behind_in good at m (cpr_behind own m i)

  own_typed : (m : ℕ) → In m own.cpr → type_at b m ≡ cpr_type
  own_typed m i = is_a-type b s.records cpr_type m (Each-in (λ (place : ℕ). is_a b s.records cpr_type place ≡ true) own.cpr (fits good at).3 m i)

  pub linked_sound : IsSound linked (shape linked)
  linked_sound = subst (IsSound linked) (sym linked_shape) (sound_if (sound good at) (of_pack.splices good at none linked_pack) (of_pack.fits_now good at none linked_pack tt, tt)
      (not_twice_kept b linked s linked_shape_is marks [] (sound good at) edit (λ m out. omega (arith, left_used m)) (λ m i. absurd i)))

  linked_type : (m : ℕ) → In m s.records → type_at linked m ≡ type_at b m
  linked_type m i = elim (edit.kind m i) [ inl k ↦ k.1 | inr k ↦ elim k [ inl u ↦ absurd (u.0 i) | inr none ↦ absurd none ] ]

  -- the parameters may be freed
  pub left_free : AreFree linked own.cpr
  left_free = record {
    stand = λ m i. subst (λ (y : Shape). In m y.records) (sym linked_shape) (own_in m i);
    unowned = λ m i. subst (λ (y : Shape). times m (owned_records linked y) ≡ 0) (sym linked_shape) (none_in_use linked linked_shape_is edit.tiled_now m (λ u. apart cpr_type uir_type refl (sym (own_typed m i) ∙ sym (linked_type m (own_in m i)) ∙ u)) (omega (arith, left_used m, used_most m, times-in m own.cpr i)));
    once = distinct_if own.cpr (λ m. omega (arith, left_used m, used_most m));
  }

  module _ (now : List ℕ) (off : TurnedOff b now own) where
    frees : Frees b linked now marks types own.cpr
    frees = record {
      sound = sound good at;
      edit = edit;
      long = as_long;
      mid_sound = linked_sound;
      records = ap (λ (y : Shape). y.records) linked_shape;
      unused = ap (λ (y : Shape). y.unused) linked_shape;
      free = left_free;
      typed = λ m i. rw (own_typed m i) refl;
      no_gdr = refl;
      given = off;
    }

    abbrev all_marks : List Mark
    all_marks = off_marks kind v s.unused own.cpr (length b)

    abbrev freeing : List Mark
    freeing = freeing_marks types s.unused own.cpr (length b)

    tests : OffTests kind v s.unused own.cpr (length b)
    tests = off_tests kind v s.unused own.cpr (length b)

    all_edit : Edit b now s.records s.records all_marks own.cpr
    all_edit = subst (λ (n : ℕ). Edit b now s.records s.records (marks ++ freeing_marks types s.unused own.cpr n) own.cpr) as_long (freed_edit frees)

    long_now : length now ≡ length b
    long_now = freed_long frees

    vdr_kept : Kept linked now v
    vdr_kept = others_kept frees v (tile good at) (λ e. (vdr_apart kind).0 (sym (linked_type v (tile good at) ∙ typed good at) ∙ e)) (λ e. (vdr_apart kind).1 (sym (linked_type v (tile good at) ∙ typed good at) ∙ e)) (λ i. no_cpr kind (sym (typed good at) ∙ own_typed v i))

    linked_wide : 80 ≤ size_at linked v
    linked_wide = subst (λ (n : ℕ). 80 ≤ n) (sym (of_pack.vdr_size good at none linked_pack)) wide

    said : (f : Field) → f.place + f.width ≤ 80 → number now v f ≡ number linked v f
    said f l = word_kept linked now v (v + size_at linked v) vdr_kept.same (v + f.place) f.width (omega arith) (omega (arith, l, linked_wide))

    pub flags_are : number now v vdr_flags ≡ number linked v vdr_flags
    flags_are = said vdr_flags (omega arith)

    pub link_is : number now v vdr_cpr_or_spr_offset ≡ no_link
    link_is = said vdr_cpr_or_spr_offset (omega arith) ∙ of_bytes.link_is b s.records v false no_link h.tiled (tile good at) (typed good at) wide small (omega arith)

    pub not_packed : is_compressed now v ≡ false
    not_packed = ap (λ (n : ℕ). has_bit n 2) flags_are ∙ of_bytes.packed_is b s.records v false no_link h.tiled (tile good at) (typed good at) wide small (omega arith)

    own_apart : (m : ℕ) → (In m (variable_records own) → ⊥) → In m own.cpr → ⊥
    own_apart m out i = out (inr (cpr_behind own m i))

    pub off_pack : PackEdit b now kind own [] s.records (shape now).unused all_marks own.cpr
    off_pack = record {
      edit = all_edit;
      file_clear = tests.file_clear;
      attributes_clear = tests.attributes_clear;
      other_clear = tests.other_clear;
      head_clear = tests.head_clear;
      count_clear = tests.count_clear;
      beside = λ m i out. (let u = used_type (type_at b m) (variable_typed b s (sound good at) m i) in Away-append marks freeing (type_at b m) m (away (type_at b m) m (λ q. out (inl q))) (used_away s.unused own.cpr (length b) (type_at b m) m u.0 u.1 (own_apart m out)));
      avoids = λ m lo hi side. Avoids-append marks freeing type m lo hi (avoids m lo hi side) (freed_avoids kind s.unused own.cpr (length b) m lo hi);
      typed = λ m i. (let there = subst (In m) (sym (freed_records frees)) (own_in m i) in ((sound_now frees).has_shape.typed m there, (sound_now frees).has_shape.fixed m there));
      unused_chain =
          let place = sym (sound_now frees).has_shape.gdr_is ∙ gdr_place (sound good at) all_edit tests.file_clear in
          subst (λ (rs : List ℕ). IsChain now rs uir_type (number now s.gdr gdr_uir_head) (shape now).unused) (freed_records frees) (rw place at (sound_now frees).has_shape.unused_chain);
      packed_by = rw not_packed refl;
      vary = ap (λ (n : ℕ). has_bit n 0) flags_are ∙ linked_pack.vary;
      padded = ap (λ (n : ℕ). has_bit n 1) flags_are ∙ linked_pack.padded;
    }

    -- ---- the image is good

    abbrev late : Shape
    late = with_shapes s kind s.records (shape now).unused (before ++ with_cpr own [] ∷ after)

    used_late : (m : ℕ) → used_times late m + times m own.cpr ≡ used_times s m
    used_late m = of_pack.owners good at none off_pack m 0 (times m own.cpr) (omega arith) ∙ omega arith

    sorted : (m : ℕ) → In m own.cpr → IsSorted now late m
    sorted m i = inr (all_freed frees m i, omega (arith, used_late m, used_most m, times-in m own.cpr i))

    owned_now : OwnedOnce now late
    owned_now = owned_once_if b now s late all_marks own.cpr (sound good at) (good_by_its_shape b good).owned_once all_edit (λ m out. omega (arith, used_late m, times-none m own.cpr out)) sorted

    end_now : eof now s.gdr ≡ length now
    end_now =
        let g = h.gdr_is in
        let end_b : eof b s.gdr ≡ length b = rw g at (good_eof b good) in
        gdr_still frees gdr_eof (omega arith) ∙ gdr_field (sound good at) edit t.file_clear gdr_eof (t.gdr_clear gdr_eof.place (gdr_eof.place + gdr_eof.width)) (omega arith) ∙ end_b ∙ sym long_now

    pub good_off : Good now
    good_off = of_pack.good_if good at none off_pack (rw (not_packed, link_is) refl, (rw not_packed refl, rw not_packed tt)) owned_now end_now (omega (arith, long_now, short))

    -- ---- what stays

    same_records : (shape now).records ≡ s.records
    same_records = of_pack.records_are good at none off_pack

    unused_away : (m : ℕ) → Away marks uir_type m
    unused_away m = unmarked-away marks uir_type m t.unused_clear

    listed : (m : ℕ) → In m s.unused → Stays b now m links
    listed m i =
        let ok = h.unused_chain.linkable m i in
        keeps_within (sound good at) all_edit same_records m uir_type links (linkable-in b s.records uir_type m ok) (linkable-type b s.records uir_type m ok)
        (Avoids-append marks freeing uir_type m 0 12 (early uir_type m 0 12 (omega arith)) (listed_avoids s.unused own.cpr (length b) m))
        (Within-append marks freeing uir_type m links (away-within marks uir_type m links (unused_away m)) (listed_within s.unused own.cpr (length b) m))

    loose : LooseStay b now
    loose m i is out = keeps_away (sound good at) all_edit same_records m uir_type (Only []) i is (Away-append marks freeing uir_type m (unused_away m) (loose_away s.unused own.cpr (length b) m out))

    gdr_stays : Stays b now s.gdr space_fields
    gdr_stays = keeps_fields (sound good at) all_edit same_records s.gdr gdr_type space_fields (gdr_in b s h) (gdr_typed b s h) tests.gdr_clear tests.gdr_within

    -- parameters are not written before they are freed
    cpr_same : (m : ℕ) → In m own.cpr → Same b linked (m + links_end (size_at b m)) (m + size_at b m)
    cpr_same m i =
        let far = away cpr_type m (λ q. no_cpr kind (sym (typed good at) ∙ ap (type_at b) (sym q) ∙ own_typed m i)) in
        edit.part m cpr_type (links_end (size_at b m)) (size_at b m) (own_in m i) (own_typed m i) (away-avoids marks cpr_type m 0 12 far) (away-avoids marks cpr_type m (links_end (size_at b m)) (size_at b m) far) (omega arith)

    pub turned_off : Repacked b now kind before own after false []
    turned_off = record {
      good = good_off;
      among = of_pack.among_now good at none off_pack;
      gdr_is = of_pack.gdr_is good at none off_pack;
      attributes_are = of_pack.attributes_are good at none off_pack;
      others_are = of_pack.others_are good at none off_pack;
      content_is = of_pack.content_repacked good at none off_pack ∙ ap (λ (rle : Bool). with_variable (content b) (found_in b kind before own) (record (variable_of b own) { rle = rle })) not_packed;
      longer = omega (arith, long_now);
      within = omega (arith, long_now);
      follow = freed_acts frees t.unused_clear;
      gdr = gdr_stays;
      descriptor = of_pack.descriptor good at none off_pack;
      cpr_stays = λ e m i. absurd cc;
      stay = of_pack.stay good at none off_pack;
      listed = λ m i free. listed m i;
      loose = loose;
      freed = freed_bytes frees cpr_same;
      flags_are = flags_are ∙ of_bytes.flags_are b s.records v false no_link h.tiled (tile good at) (typed good at) wide small (omega arith);
      cpr_says = λ e. tt;
      link_is = λ e. link_is;
    }
