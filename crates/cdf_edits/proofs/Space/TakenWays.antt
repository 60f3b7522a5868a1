-- The three ways in which a record is taken: a record of the unused list whole, one that is split, and one at the end of the image.
use Rattle.cdf_edits.proofs.Common.{AreTiles, BackLinksFollow, Bool, Changed, Distinct, EndBytes, FirstBack, HasShape, In, In-append, In-append_left, In-append_right, IsChain, IsSound, IsTaken, Leads, List, NoneFit, Placed, RestBytes, Same, Same-part, Shape, TakenBytes, Touch, [], ap, arith, back_links, cases_eq, either, eof, eof_after, eq-eqb, eqb, eqb-true, false, fits, fixed_size, gdr_eof, gdr_type, gdr_uir_head, if◌then◌else◌, inl, inr, is_a-from, is_a-in, is_a-type, is_in-false, is_linkable, is_record_type, last_of, le-leb, leb, length, linkable-from, linkable-in, linkable-long, linkable-type, map, next_kept, next_of, number, place_for, refl, size_at, some_place, split_width, subst, sym, tile_lies, tiles_distinct, tiles_lie_apart, touched_field, true, type_at, uir_prev_uir, uir_type, unused, with_space, word_kept, ℕ, ◌++◌, ◌+◌, ◌∙◌, ◌∷◌, ◌≡◌, ◌≢◌, ◌≤◌, ◌⊎◌}
use Rattle.std.proofs.lemmas.Bool.{or_right}
use Rattle.cdf_edits.proofs.Frame.TilesGrow.{tiles_push, tiles_split}
use Rattle.cdf_edits.proofs.Frame.ChangedBytes.{changed_part, changed_whole}
use Rattle.cdf_edits.proofs.Frame.LinksStay.{tiles_same, leads_same}
use Rattle.cdf_edits.proofs.Space.UsedRecords.{apart, used-in}
use Rattle.cdf_edits.proofs.Space.SpaceSound.{UsedStay, used_stay_sound}
use Rattle.cdf_edits.proofs.Space.UnusedLists.{place_none, taking_none, list_none, list_whole, list_split, back_none, back_whole, back_split}
use Rattle.cdf_edits.proofs.Space.TakenFromList.{distinct_without, distinct_with, distinct_apart, once, linkable, a_tile, a_not_front, a_not_more, other_than_a, in_list, sizes, types, list_sizes, front_prev, rest_prev, more_leads, taken_sound, taken_takes}

-- ---- whole

module _ (b now : List ℕ) (s : Shape) (front : List ℕ) (a : ℕ) (more : List ℕ) (need : ℕ) (sound : IsSound b s) (list : s.unused ≡ front ++ a ∷ more) (none : NoneFit b need front) (whole_eof : eof b s.gdr ≡ length b) (size : size_at b a ≡ need) (taken : TakenBytes b now s.gdr front a more need need (next_of b a)) (back : FirstBack now (last_of 0 front) more) where
  whole_within : need ≤ size_at b a
  whole_within = omega arith

  whole_sizes : (m : ℕ) → In m s.records → size_at now m ≡ size_at b m
  whole_sizes m i = elim (cases_eq m a) [
    | inl e ↦ ap (size_at now) e ∙ taken.size_is ∙ sym size ∙ sym (ap (size_at b) e)
    | inr ne ↦ sizes b now s front a more need need (next_of b a) sound list taken whole_within whole_eof m i ne
  ]

  pub whole_taken : IsTaken b now s (with_space s s.records (front ++ more)) need a
  whole_taken =
      let h = sound.has_shape in
      let w = whole_within in
      let next = next_of b a in
      let d = once b now s front a more need need next sound list taken w whole_eof in
      let ok = linkable b now s front a more need need next sound list taken w whole_eof in
      let tile = a_tile b now s front a more need need next sound list taken w whole_eof in
      let other = other_than_a b now s front a more need need next sound list taken w whole_eof in
      let type = types b now s front a more need need next sound list taken w whole_eof in
      let tiled : AreTiles now 8 (length now) s.records = subst (λ (n : ℕ). AreTiles now 8 n s.records) (sym taken.as_long) (tiles_same b now 8 (length b) s.records h.tiled whole_sizes) in
      let stand : (z : ℕ) → In z more → is_linkable now s.records uir_type z ≡ true = λ z i.
      let o = ok z (In-append_right z front (a ∷ more) (inr i)) in
      let there = linkable-in b s.records uir_type z o in
      linkable-from now s.records uir_type z there (type z there (other z (In-append_right z front more i)) ∙ linkable-type b s.records uir_type z o) (subst (λ (n : ℕ). 28 ≤ n) (sym (whole_sizes z there)) (linkable-long b s.records uir_type z o)) in
      let first : fits need (size_at b a) ≡ true = rw (eq-eqb (size_at b a) need size) refl in
      let wide : need ≡ split_width need (size_at b a) = rw (eq-eqb (size_at b a) need size) refl in
      let sized_is = list_whole b now need front a more none size (list_sizes b now s front a more need need next sound list taken w whole_eof) in
      let unlisted : In a (front ++ more) → ⊥ = λ i. other a i refl in
      let backs : BackLinksFollow b now s (with_space s s.records (front ++ more)) = subst (λ (was : List ℕ). map (λ (uir : ℕ). number now uir uir_prev_uir) (front ++ more) ≡ back_links b was 0 (front ++ more)) (sym list)
      (back_whole b now front a more d (some_place b s.records (length b) a h.tiled tile) (front_prev b now s front a more need need next sound list taken w whole_eof) back (rest_prev b now s front a more need need next sound list taken w whole_eof)) in
      let leads = more_leads b now s front a more need need next sound list taken w whole_eof in
      let sub = λ (m : ℕ) (i : In m s.records). i in
      let new : (m : ℕ) → In m s.records → In m s.records ⊎ (type_at now m ≡ uir_type) = λ m i. inl i in
      let good = taken_sound b now s front a more need need next sound list taken w whole_eof s.records more tiled sub new leads stand (distinct_without front a more d) in
      (taken_takes b now s front a more need need next sound list taken w whole_eof s.records more tiled sub new leads stand (distinct_without front a more d) none first wide sized_is unlisted backs, good.0, good.1)

-- ---- split

module _ (b now : List ℕ) (s : Shape) (front : List ℕ) (a : ℕ) (more : List ℕ) (need : ℕ) (sound : IsSound b s) (list : s.unused ≡ front ++ a ∷ more) (none : NoneFit b need front) (whole_eof : eof b s.gdr ≡ length b) (some : 12 ≤ need) (room : need + 28 ≤ size_at b a) (taken : TakenBytes b now s.gdr front a more need (need + 28) (a + need)) (rest : RestBytes b now a need (last_of 0 front)) (back : FirstBack now (a + need) more) where
  split_out : In (a + need) s.records → ⊥
  split_out i =
      let h = sound.has_shape in
      let tile = a_tile b now s front a more need (need + 28) (a + need) sound list taken room whole_eof in
      elim (tiles_lie_apart b 8 (length b) s.records a (a + need) h.tiled tile i (λ e. absurd (omega arith))) [
        | inl x ↦ absurd (omega arith)
        | inr x ↦ let l = (tile_lies b 8 (length b) s.records (a + need) h.tiled i).long in absurd (omega arith)
      ]

  pub split_taken : (before after : List ℕ) → s.records ≡ before ++ a ∷ after → IsTaken b now s (with_space s (before ++ a ∷ (a + need) ∷ after) (front ++ (a + need) ∷ more)) need a
  split_taken before after parts =
      let h = sound.has_shape in
      let w = need + 28 in
      let q = a + need in
      let records = before ++ a ∷ q ∷ after in
      let tail = q ∷ more in
      let d = once b now s front a more need w q sound list taken room whole_eof in
      let ok = linkable b now s front a more need w q sound list taken room whole_eof in
      let tile = a_tile b now s front a more need w q sound list taken room whole_eof in
      let other = other_than_a b now s front a more need w q sound list taken room whole_eof in
      let type = types b now s front a more need w q sound list taken room whole_eof in
      let size = sizes b now s front a more need w q sound list taken room whole_eof in
      let old : AreTiles b 8 (length b) (before ++ a ∷ after) = subst (AreTiles b 8 (length b)) parts h.tiled in
      let distinct : Distinct (before ++ a ∷ after) = tiles_distinct b 8 (length b) (before ++ a ∷ after) old in
      let beside : (m : ℕ) → In m (before ++ after) → size_at now m ≡ size_at b m = λ m i.
      size m (subst (λ (xs : List ℕ). In m xs) (sym parts) (elim (In-append m before after i) [ inl j ↦ In-append_left m before (a ∷ after) j | inr j ↦ In-append_right m before (a ∷ after) (inr j) ]))
      (λ e. elim (In-append m before after i) [ inl j ↦ distinct_apart before (a ∷ after) m distinct j (inl e) | inr j ↦ no_after before a after distinct (subst (λ (x : ℕ). In x after) e j) ]) in
      let rest_size = rest.size_is in
      let tiled : AreTiles now 8 (length now) records = subst (λ (n : ℕ). AreTiles now 8 n records) (sym taken.as_long) (tiles_split b now 8 (length b) a need before after old beside taken.size_is (omega arith) some (omega arith)) in
      let sub : (m : ℕ) → In m s.records → In m records = λ m i. widen before a q after m (subst (λ (xs : List ℕ). In m xs) parts i) in
      let new : (m : ℕ) → In m records → In m s.records ⊎ (type_at now m ≡ uir_type) = λ m i. elim (narrow before a q after m i) [ inl j ↦ inl (subst (λ (xs : List ℕ). In m xs) (sym parts) j) | inr e ↦ inr (ap (type_at now) e ∙ rest.type_is) ] in
      let q_in : In q records = In-append_right q before (a ∷ q ∷ after) (inr (inl refl)) in
      let stand : (z : ℕ) → In z tail → is_linkable now records uir_type z ≡ true = λ z i. elim i [
        | inl e ↦ subst (λ (x : ℕ). is_linkable now records uir_type x ≡ true) (sym e) (linkable-from now records uir_type q q_in rest.type_is (omega arith))
        | inr j ↦
            let o = ok z (In-append_right z front (a ∷ more) (inr j)) in
            let there = linkable-in b s.records uir_type z o in
            let ne = other z (In-append_right z front more j) in
            linkable-from now records uir_type z (sub z there) (type z there ne ∙ linkable-type b s.records uir_type z o) (subst (λ (n : ℕ). 28 ≤ n) (sym (size z there ne)) (linkable-long b s.records uir_type z o))
      ] in
      let not_old : In q (front ++ a ∷ more) → ⊥ = λ i. split_out (linkable-in b s.records uir_type q (ok q i)) in
      let apart_q : a ≢ q = λ e. absurd (omega arith) in
      let first : fits need (size_at b a) ≡ true = or_right (eqb (size_at b a) need) (leb (need + 28) (size_at b a)) (le-leb (need + 28) (size_at b a) room) in
      let uneven : eqb (size_at b a) need ≡ false = elim (either (eqb (size_at b a) need)) [ inl e ↦ let f = eqb-true (size_at b a) need e in absurd (omega arith) | inr e ↦ e ] in
      let wide : w ≡ split_width need (size_at b a) = rw uneven refl in
      let sized_is = list_split b now need front a more none room rest.size_is (list_sizes b now s front a more need w q sound list taken room whole_eof) in
      let unlisted : In a (front ++ tail) → ⊥ = λ i. elim (In-append a front tail i) [
        | inl j ↦ a_not_front b now s front a more need w q sound list taken room whole_eof j
        | inr j ↦ elim j [ inl e ↦ apart_q e | inr k ↦ a_not_more b now s front a more need w q sound list taken room whole_eof k ]
      ] in
      let backs : BackLinksFollow b now s (with_space s records (front ++ tail)) = subst (λ (was : List ℕ). map (λ (uir : ℕ). number now uir uir_prev_uir) (front ++ tail) ≡ back_links b was 0 (front ++ tail)) (sym list)
      (back_split b now front a q more d not_old apart_q (front_prev b now s front a more need w q sound list taken room whole_eof) rest.prev_is back (rest_prev b now s front a more need w q sound list taken room whole_eof)) in
      let leads : Leads now q tail 0 = (refl, subst (λ (x : ℕ). Leads now x more 0) (sym rest.next_is) (more_leads b now s front a more need w q sound list taken room whole_eof)) in
      let distinct_now = distinct_with front q more (distinct_without front a more d) (λ i. not_old (in_list b now s front a more need w q sound list taken room whole_eof q i)) in
      let good = taken_sound b now s front a more need w q sound list taken room whole_eof records tail tiled sub new leads stand distinct_now in
      (taken_takes b now s front a more need w q sound list taken room whole_eof records tail tiled sub new leads stand distinct_now none first wide sized_is unlisted backs, good.0, good.1)
    where
      no_after : (before : List ℕ) (a : ℕ) (after : List ℕ) → Distinct (before ++ a ∷ after) → In a after → ⊥
      no_after [] a after d i = d.0 i
      no_after (x ∷ before) a after d i = no_after before a after d.1 i

      widen : (before : List ℕ) (a q : ℕ) (after : List ℕ) (m : ℕ) → In m (before ++ a ∷ after) → In m (before ++ a ∷ q ∷ after)
      widen before a q after m i = elim (In-append m before (a ∷ after) i) [
        | inl j ↦ In-append_left m before (a ∷ q ∷ after) j
        | inr j ↦ In-append_right m before (a ∷ q ∷ after) (elim j [ inl e ↦ inl e | inr k ↦ inr (inr k) ])
      ]

      narrow : (before : List ℕ) (a q : ℕ) (after : List ℕ) (m : ℕ) → In m (before ++ a ∷ q ∷ after) → In m (before ++ a ∷ after) ⊎ (m ≡ q)
      narrow before a q after m i = elim (In-append m before (a ∷ q ∷ after) i) [
        | inl j ↦ inl (In-append_left m before (a ∷ after) j)
        | inr j ↦ elim j [ inl e ↦ inl (In-append_right m before (a ∷ after) (inl e)) | inr k ↦ elim k [ inl e ↦ inr e | inr l ↦ inl (In-append_right m before (a ∷ after) (inr l)) ] ]
      ]

-- ---- at the end

module _ (b now : List ℕ) (s : Shape) (need : ℕ) (sound : IsSound b s) (none : NoneFit b need s.unused) (some : 12 ≤ need) (taken : EndBytes b now s.gdr need) where
  h : HasShape b s
  h = sound.has_shape

  abbrev touches : List Touch
  touches = touched_field s.gdr gdr_eof ∷ []

  gdr_in : In s.gdr s.records
  gdr_in = is_a-in b s.records gdr_type s.gdr h.gdr_stands

  gdr_long : 84 ≤ size_at b s.gdr
  gdr_long = subst (λ (t : ℕ). fixed_size t ≤ size_at b s.gdr) (is_a-type b s.records gdr_type s.gdr h.gdr_stands) (h.fixed s.gdr gdr_in)

  placed : Placed b s.records (length b) touches
  placed = let l = gdr_long in (inl (gdr_in, (omega arith)), tt)

  others : (m : ℕ) → In m s.records → m ≢ s.gdr → Same b now m (m + size_at b m)
  others m i ne = changed_whole b now s.records (length b) h.tiled (omega arith) touches taken.changed placed (m ∷ []) m i (inl refl) ((λ j. elim j [ inl e ↦ ne (sym e) | inr n ↦ n ]), tt)

  gdr_part : (lo hi : ℕ) → hi ≤ size_at b s.gdr → (hi ≤ 36) ⊎ (44 ≤ lo) → Same b now (s.gdr + lo) (s.gdr + hi)
  gdr_part lo hi fits beside = changed_part b now s.records (length b) h.tiled (omega arith) touches taken.changed placed s.gdr lo hi gdr_in fits ((λ e. beside), tt)

  start : (m : ℕ) → In m s.records → Same b now (m + 0) (m + 12)
  start m i =
      let l = (tile_lies b 8 (length b) s.records m h.tiled i).long in
      changed_part b now s.records (length b) h.tiled (omega arith) touches taken.changed placed m 0 12 i l ((λ e. inl (omega arith)), tt)

  end_sizes : (m : ℕ) → In m s.records → size_at now m ≡ size_at b m
  end_sizes m i = word_kept b now (m + 0) (m + 12) (start m i) (m + 0) 8 (omega arith) (omega arith)

  end_types : (m : ℕ) → In m s.records → type_at now m ≡ type_at b m
  end_types m i = word_kept b now (m + 0) (m + 12) (start m i) (m + 8) 4 (omega arith) (omega arith)

  abbrev records : List ℕ
  records = s.records ++ length b ∷ []

  sub : (m : ℕ) → In m s.records → In m records
  sub m i = In-append_left m s.records (length b ∷ []) i

  tiled_now : AreTiles now 8 (length now) records
  tiled_now = subst (λ (n : ℕ). AreTiles now 8 n records) (sym taken.as_long) (tiles_push now 8 (length b) need s.records (tiles_same b now 8 (length b) s.records h.tiled end_sizes) taken.size_is some)

  ok : (m : ℕ) → In m s.unused → is_linkable b s.records uir_type m ≡ true
  ok = h.unused_chain.linkable

  member_same : (m : ℕ) → In m s.unused → Same b now m (m + size_at b m)
  member_same m i =
      let t = linkable-type b s.records uir_type m (ok m i) in
      others m (linkable-in b s.records uir_type m (ok m i)) (λ e. apart gdr_type uir_type refl (sym (is_a-type b s.records gdr_type s.gdr h.gdr_stands) ∙ ap (type_at b) (sym e) ∙ t))

  list_now : IsChain now records uir_type (number now s.gdr gdr_uir_head) s.unused
  list_now =
      let l = gdr_long in
      let link : number now s.gdr gdr_uir_head ≡ number b s.gdr gdr_uir_head = word_kept b now (s.gdr + 64) (s.gdr + 72) (gdr_part 64 72 (omega arith) (inr (omega arith))) (s.gdr + 64) 8 (omega arith) (omega arith) in
      record {
        leads = subst (λ (x : ℕ). Leads now x s.unused 0) (sym link) (leads_same b now (number b s.gdr gdr_uir_head) s.unused 0 h.unused_chain.leads (λ m i. next_kept b now m (member_same m i) (let w = linkable-long b s.records uir_type m (ok m i) in omega arith)));
        linkable = λ m i. let there = linkable-in b s.records uir_type m (ok m i) in linkable-from now records uir_type m (sub m there) (end_types m there ∙ linkable-type b s.records uir_type m (ok m i)) (subst (λ (n : ℕ). 28 ≤ n) (sym (end_sizes m there)) (linkable-long b s.records uir_type m (ok m i)));
        once = h.unused_chain.once;
      }

  end_stay : UsedStay b now s records s.unused
  end_stay = let l = gdr_long in record {
    longer = (let e = taken.as_long in omega arith);
    kept = λ m i other no_gdr. others m i no_gdr;
    gdr_front = Same-part b now (s.gdr + 0) (s.gdr + 36) s.gdr (s.gdr + 36) (gdr_part 0 36 (omega arith) (inl (omega arith))) (omega arith) (omega arith);
    gdr_middle = gdr_part 44 64 (omega arith) (inr (omega arith));
    gdr_back = gdr_part 72 (size_at b s.gdr) (omega arith) (inr (omega arith));
    sub = λ m i. sub m (used-in b [] s.records m i);
    tiled = tiled_now;
    typed = λ m i. elim (In-append m s.records (length b ∷ []) i) [
      | inl j ↦ subst (λ (t : ℕ). is_record_type t ≡ true) (sym (end_types m j)) (h.typed m j)
      | inr j ↦ elim j [ inl e ↦ subst (λ (t : ℕ). is_record_type t ≡ true) (sym (ap (type_at now) e ∙ taken.type_is)) refl | inr none ↦ absurd none ]
    ];
    fixed = λ m i. elim (In-append m s.records (length b ∷ []) i) [
      | inl j ↦ subst (λ (t : ℕ). fixed_size t ≤ size_at now m) (sym (end_types m j)) (subst (λ (n : ℕ). fixed_size (type_at b m) ≤ n) (sym (end_sizes m j)) (h.fixed m j))
      | inr j ↦ elim j [ inl e ↦ subst (λ (t : ℕ). fixed_size t ≤ size_at now m) (sym (ap (type_at now) e ∙ taken.type_is)) (tile_lies now 8 (length now) records m tiled_now i).long | inr none ↦ absurd none ]
    ];
    unused_chain = list_now;
  }

  new_outside : In (length b) s.records → ⊥
  new_outside i = let l = tile_lies b 8 (length b) s.records (length b) h.tiled i in past (length b) (size_at b (length b)) l.high l.long
    where
      past : (x n : ℕ) → x + n ≤ x → 12 ≤ n → ⊥
      past x n p q = absurd (omega arith)

  pub end_taken : IsTaken b now s (with_space s records s.unused) need (length b)
  end_taken =
      let place = place_none b need (length b) s.unused none in
      let longer : length now ≡ eof_after (unused b s) (length b) need =
      taken.as_long ∙ sym (ap (λ (p : Bool). if p then length b + need else length b) (eq-eqb (place_for (unused b s) (length b) need) (length b) place)) in
      let good = used_stay_sound b now s records s.unused sound end_stay in (
        record {
          place_is = sym place;
          list_is = list_none b now need s.unused none (λ m i. end_sizes m (linkable-in b s.records uir_type m (ok m i)));
          length_is = longer;
          eof_is = taken.eof_is;
          space = record { rest_stays = refl; tiled = tiled_now; unused_chain = list_now };
          stands = is_a-from now records uir_type (length b) (In-append_right (length b) s.records (length b ∷ []) (inl refl)) taken.type_is;
          size_is = taken.size_is;
          empty = taken.empty;
          unlisted = is_in-false (length b) s.unused (λ i. new_outside (linkable-in b s.records uir_type (length b) (ok (length b) i)));
          back = back_none b now s.unused h.unused_chain.once (λ m i. let w = linkable-long b s.records uir_type m (ok m i) in word_kept b now m (m + size_at b m) (member_same m i) (m + 20) 8 (omega arith) (omega arith));
          changed = subst (λ (ts : List Touch). Changed b now ts) (sym (taking_none b need s.gdr s.gdr gdr_uir_head s.unused none)) taken.changed;
        },
        good.0,
        good.1,
      )
