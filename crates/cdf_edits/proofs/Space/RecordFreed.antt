-- A record of no owner is freed: a small one is on no list, a larger one becomes the first of the list.
use Rattle.cdf_edits.proofs.Common.{AreTiles, Changed, Distinct, FirstBytes, HasShape, In, IsChain, IsGiven, IsSound, Leads, List, Misses, Placed, Same, Same-part, Shape, Touch, UnlistedBytes, [], ap, ap₂, arith, cases_eq, content, eq-eqb, false, first_back_link, fixed_size, gdr_type, gdr_uir_head, given_to, inl, inr, is_a-from, is_a-in, is_a-type, is_linkable, is_record_type, le-leb, length, linkable-from, linkable-in, linkable-long, linkable-type, lt-leb, nat_le, next_of, number, owned_records, record_type, refl, size_at, some_place, subst, sym, tile_lies, times, touched_field, true, type_at, uir_next_uir, uir_prev_uir, uir_type, unused, unused_records, with_space, word_kept, ℕ, ◌+◌, ◌<◌, ◌==◌, ◌∙◌, ◌∷◌, ◌≡◌, ◌≢◌, ◌≤◌, ◌⊎◌, sized}
use Rattle.cdf_edits.proofs.Frame.ChangedBytes.{changed_part, changed_whole}
use Rattle.cdf_edits.proofs.Frame.LinksStay.{tiles_same, leads_same}
use Rattle.cdf_edits.proofs.Space.UsedRecords.{apart, in-filter, used-in}
use Rattle.cdf_edits.proofs.Frame.OwnersApart.{file_records, all_attribute_records, all_variable_records, owned-times, times-in}
use Rattle.cdf_edits.proofs.Space.SpaceSound.{stay_sound}
use Rattle.cdf_edits.proofs.Space.UnusedLists.{first_misses, first_other, none_first, RestKept, back_none, back_given}

module _ (b now : List ℕ) (s : Shape) (place : ℕ) (sound : IsSound b s) (inside : In place s.records) (free : times place (owned_records b s) ≡ 0) where
  h : HasShape b s
  h = sound.has_shape

  -- ---- it has no owner

  none : times place (file_records s) + (times place (all_attribute_records s) + (times place (all_variable_records s) + times place (unused_records b s))) ≡ 0
  none = sym (owned-times b s place) ∙ free

  no_first : (f a v u : ℕ) → f + (a + (v + u)) ≡ 0 → 1 ≤ f → ⊥
  no_first f a v u e o = absurd (omega arith)

  no_second : (f a v u : ℕ) → f + (a + (v + u)) ≡ 0 → 1 ≤ a → ⊥
  no_second f a v u e o = absurd (omega arith)

  no_third : (f a v u : ℕ) → f + (a + (v + u)) ≡ 0 → 1 ≤ v → ⊥
  no_third f a v u e o = absurd (omega arith)

  no_fourth : (f a v u : ℕ) → f + (a + (v + u)) ≡ 0 → 1 ≤ u → ⊥
  no_fourth f a v u e o = absurd (omega arith)

  pub no_file : (m : ℕ) → In m (file_records s) → In m (place ∷ []) → ⊥
  no_file m i j = elim j [ inl e ↦ no_first _ _ _ _ none (times-in place (file_records s) (subst (λ (x : ℕ). In x (file_records s)) e i)) | inr never ↦ never ]

  pub no_attribute : (m : ℕ) → In m (all_attribute_records s) → In m (place ∷ []) → ⊥
  no_attribute m i j = elim j [ inl e ↦ no_second (times place (file_records s)) _ _ _ none (times-in place (all_attribute_records s) (subst (λ (x : ℕ). In x (all_attribute_records s)) e i)) | inr never ↦ never ]

  pub no_variable : (m : ℕ) → In m (all_variable_records s) → In m (place ∷ []) → ⊥
  no_variable m i j = elim j [ inl e ↦ no_third (times place (file_records s)) (times place (all_attribute_records s)) _ _ none (times-in place (all_variable_records s) (subst (λ (x : ℕ). In x (all_variable_records s)) e i)) | inr never ↦ never ]

  pub place_used : type_at b place ≢ uir_type
  place_used e =
      let i : In place (unused_records b s) = in-filter (λ (p : ℕ). type_at b p == uir_type) s.records place inside (eq-eqb _ _ e) in
      no_fourth (times place (file_records s)) (times place (all_attribute_records s)) (times place (all_variable_records s)) _ none (times-in place (unused_records b s) i)

  gdr_in : In s.gdr s.records
  gdr_in = is_a-in b s.records gdr_type s.gdr h.gdr_stands

  gdr_typed : type_at b s.gdr ≡ gdr_type
  gdr_typed = is_a-type b s.records gdr_type s.gdr h.gdr_stands

  gdr_long : 84 ≤ size_at b s.gdr
  gdr_long = subst (λ (t : ℕ). fixed_size t ≤ size_at b s.gdr) gdr_typed (h.fixed s.gdr gdr_in)

  pub not_gdr : place ≢ s.gdr
  not_gdr e = no_file place (inr (inl e)) (inl refl)

  pub not_listed : (m : ℕ) → In m s.unused → m ≢ place
  not_listed m i e = place_used (ap (type_at b) (sym e) ∙ linkable-type b s.records uir_type m (h.unused_chain.linkable m i))

  pub gdr_unlisted : (m : ℕ) → In m s.unused → m ≢ s.gdr
  gdr_unlisted m i e = apart gdr_type uir_type refl (sym gdr_typed ∙ ap (type_at b) (sym e) ∙ linkable-type b s.records uir_type m (h.unused_chain.linkable m i))

  listed_in : (m : ℕ) → In m s.unused → In m s.records
  listed_in m i = linkable-in b s.records uir_type m (h.unused_chain.linkable m i)

  listed_long : (m : ℕ) → In m s.unused → 28 ≤ size_at b m
  listed_long m i = linkable-long b s.records uir_type m (h.unused_chain.linkable m i)

  long : (m : ℕ) → In m s.records → 12 ≤ size_at b m
  long m i = (tile_lies b 8 (length b) s.records m h.tiled i).long

  -- ---- by touches that leave sizes, and types but its own

  module _ (touches : List Touch) (as_long : length now ≡ length b) (changed : Changed b now touches) (placed : Placed b s.records (length b) touches) (type_is : type_at now place ≡ uir_type) (heads : (m : ℕ) → Misses touches m 0 8) (typed : (m : ℕ) → m ≢ place → Misses touches m 8 12) where
    part : (m lo hi : ℕ) → In m s.records → hi ≤ size_at b m → Misses touches m lo hi → Same b now (m + lo) (m + hi)
    part m lo hi i fits miss = changed_part b now s.records (length b) h.tiled (omega arith) touches changed placed m lo hi i fits miss

    sizes : (m : ℕ) → In m s.records → size_at now m ≡ size_at b m
    sizes m i = let l = long m i in word_kept b now (m + 0) (m + 8) (part m 0 8 i (omega arith) (heads m)) (m + 0) 8 (omega arith) (omega arith)

    types : (m : ℕ) → In m s.records → m ≢ place → type_at now m ≡ type_at b m
    types m i ne = let l = long m i in word_kept b now (m + 8) (m + 12) (part m 8 12 i l (typed m ne)) (m + 8) 4 (omega arith) (omega arith)

    tiled : AreTiles now 8 (length now) s.records
    tiled = subst (λ (n : ℕ). AreTiles now 8 n s.records) (sym as_long) (tiles_same b now 8 (length b) s.records h.tiled sizes)

    linked : (m : ℕ) → In m s.unused → is_linkable now s.records uir_type m ≡ true
    linked m i =
        let ok = h.unused_chain.linkable m i in
        linkable-from now s.records uir_type m (listed_in m i) (types m (listed_in m i) (not_listed m i) ∙ linkable-type b s.records uir_type m ok) (subst (λ (n : ℕ). 28 ≤ n) (sym (sizes m (listed_in m i))) (listed_long m i))

    list_sizes : (us : List ℕ) → ((m : ℕ) → In m us → In m s.unused) → sized now us ≡ sized b us
    list_sizes [] sub = refl
    list_sizes (u ∷ us) sub = ap₂ (λ (n : ℕ) (xs : List (ℕ × ℕ)). (u, n) ∷ xs) (sizes u (listed_in u (sub u (inl refl)))) (list_sizes us (λ m i. sub m (inr i)))

    sound_now : (list : List ℕ) → ((m : ℕ) → In m s.records → type_at b m ≢ uir_type → m ≢ s.gdr → m ≢ place → Same b now m (m + size_at b m)) → ((lo hi : ℕ) → (hi ≤ 64) ⊎ (72 ≤ lo) → Misses touches s.gdr lo hi)
        → IsChain now s.records uir_type (number now s.gdr gdr_uir_head) list → IsSound now (with_space s s.records list) × (content now ≡ content b)
    sound_now list others beside chain =
        let l = gdr_long in
        stay_sound b now s s.records list (place ∷ []) sound (record {
          longer = omega arith;
          kept = λ m i other no_gdr out. others m i other no_gdr (λ e. out (inl e));
          gdr_front = Same-part b now (s.gdr + 0) (s.gdr + 36) s.gdr (s.gdr + 36) (part s.gdr 0 36 gdr_in (omega arith) (beside 0 36 (inl (omega arith)))) (omega arith) (omega arith);
          gdr_middle = part s.gdr 44 64 gdr_in (omega arith) (beside 44 64 (inl (omega arith)));
          gdr_back = part s.gdr 72 (size_at b s.gdr) gdr_in (omega arith) (beside 72 (size_at b s.gdr) (inr (omega arith)));
          sub = used-in b (place ∷ []) s.records;
          tiled = tiled;
          typed = λ m i. elim (cases_eq m place) [
            | inl e ↦ subst (λ (t : ℕ). is_record_type t ≡ true) (sym (ap (type_at now) e ∙ type_is)) refl
            | inr ne ↦ subst (λ (t : ℕ). is_record_type t ≡ true) (sym (types m i ne)) (h.typed m i)
          ];
          fixed = λ m i. subst (λ (n : ℕ). fixed_size (type_at now m) ≤ n) (sym (sizes m i)) (elim (cases_eq m place) [
            | inl e ↦ subst (λ (t : ℕ). fixed_size t ≤ size_at b m) (sym (ap (type_at now) e ∙ type_is)) (long m i)
            | inr ne ↦ subst (λ (t : ℕ). fixed_size t ≤ size_at b m) (sym (types m i ne)) (h.fixed m i)
          ]);
          unused_chain = chain;
          from_file = no_file;
          from_attributes = no_attribute;
          from_variables = no_variable;
        })

  -- ---- on no list

  module _ (small : size_at b place < 28) (given : UnlistedBytes b now place) where
    abbrev type_touch : List Touch
    type_touch = touched_field place record_type ∷ []

    small_placed : Placed b s.records (length b) type_touch
    small_placed = let l = long place inside in (inl (inside, (omega arith)), tt)

    small_others : (m : ℕ) → In m s.records → m ≢ place → Same b now m (m + size_at b m)
    small_others m i ne = changed_whole b now s.records (length b) h.tiled (omega arith) type_touch given.changed small_placed (m ∷ []) m i (inl refl) ((λ j. elim j [ inl e ↦ ne (sym e) | inr never ↦ never ]), tt)

    small_heads : (m : ℕ) → Misses type_touch m 0 8
    small_heads m = ((λ e. inl (omega arith)), tt)

    small_typed : (m : ℕ) → m ≢ place → Misses type_touch m 8 12
    small_typed m ne = ((λ e. absurd (ne e)), tt)

    small_chain : IsChain now s.records uir_type (number now s.gdr gdr_uir_head) s.unused
    small_chain =
        let l = gdr_long in
        let g = small_others s.gdr gdr_in (λ e. not_gdr (sym e)) in
        let link : number now s.gdr gdr_uir_head ≡ number b s.gdr gdr_uir_head = word_kept b now s.gdr (s.gdr + size_at b s.gdr) g (s.gdr + 64) 8 (omega arith) (omega arith) in
        record {
          leads = subst (λ (x : ℕ). Leads now x s.unused 0) (sym link) (leads_same b now (number b s.gdr gdr_uir_head) s.unused 0 h.unused_chain.leads (λ m i.
              let w = listed_long m i in
              word_kept b now m (m + size_at b m) (small_others m (listed_in m i) (not_listed m i)) (m + 12) 8 (omega arith) (omega arith)));
          linkable = linked type_touch given.as_long given.changed small_placed given.type_is small_heads small_typed;
          once = h.unused_chain.once;
        }

    pub unlisted_given : IsGiven b now s (with_space s s.records s.unused) place
    unlisted_given =
        let good = sound_now type_touch given.as_long given.changed small_placed given.type_is small_heads small_typed s.unused (λ m i other no_gdr ne. small_others m i ne) (λ lo hi beside. ((λ e. absurd (not_gdr (sym e))), tt)) small_chain in
        let less : nat_le 28 (size_at b place) ≡ false = lt-leb 28 (size_at b place) small in
        let list : unused now (with_space s s.records s.unused) ≡ given_to (unused b s) place (size_at b place) = rw less (list_sizes type_touch given.as_long given.changed small_placed given.type_is small_heads small_typed s.unused (λ m i. i)) in (
          record {
            list_is = list;
            length_is = given.as_long;
            records_stay = refl;
            space = record { rest_stays = refl; tiled = tiled type_touch given.as_long given.changed small_placed given.type_is small_heads small_typed; unused_chain = small_chain };
            stands = is_a-from now s.records uir_type place inside given.type_is;
            back = back_none b now s.unused h.unused_chain.once (λ m i. let w = listed_long m i in word_kept b now m (m + size_at b m) (small_others m (listed_in m i) (not_listed m i)) (m + 20) 8 (omega arith) (omega arith));
            changed = rw less given.changed;
          },
          good.0,
          good.1,
        )

  -- ---- the first of the list

  module _ (large : 28 ≤ size_at b place) (given : FirstBytes b now s.gdr s.unused place) where
    abbrev all_touches : List Touch
    all_touches = touched_field place record_type ∷ touched_field s.gdr gdr_uir_head ∷ touched_field place uir_next_uir ∷ touched_field place uir_prev_uir ∷ first_back_link s.unused

    back_placed : (us : List ℕ) → ((m : ℕ) → In m us → In m s.unused) → Placed b s.records (length b) (first_back_link us)
    back_placed [] sub = tt
    back_placed (u ∷ us) sub = let i = sub u (inl refl) in let w = listed_long u i in (inl (listed_in u i, (omega arith)), tt)

    large_placed : Placed b s.records (length b) all_touches
    large_placed = let l = gdr_long in (inl (inside, (omega arith)), (inl (gdr_in, (omega arith)), (inl (inside, (omega arith)), (inl (inside, (omega arith)), back_placed s.unused (λ m i. i)))))

    large_heads : (m : ℕ) → Misses all_touches m 0 8
    large_heads m = ((λ e. inl (omega arith)), ((λ e. inl (omega arith)), ((λ e. inl (omega arith)), ((λ e. inl (omega arith)), first_misses s.unused m 0 8 (omega arith)))))

    large_typed : (m : ℕ) → m ≢ place → Misses all_touches m 8 12
    large_typed m ne = ((λ e. absurd (ne e)), ((λ e. inl (omega arith)), ((λ e. inl (omega arith)), ((λ e. inl (omega arith)), first_misses s.unused m 8 12 (omega arith)))))

    large_others : (m : ℕ) → In m s.records → type_at b m ≢ uir_type → m ≢ s.gdr → m ≢ place → Same b now m (m + size_at b m)
    large_others m i other no_gdr ne =
        let here : In place (m ∷ []) → ⊥ = λ j. elim j [ inl e ↦ ne (sym e) | inr never ↦ never ] in
        let there : In s.gdr (m ∷ []) → ⊥ = λ j. elim j [ inl e ↦ no_gdr (sym e) | inr never ↦ never ] in
        let unlisted : In m s.unused → ⊥ = λ j. other (linkable-type b s.records uir_type m (h.unused_chain.linkable m j)) in
        changed_whole b now s.records (length b) h.tiled (omega arith) all_touches given.changed large_placed (m ∷ []) m i (inl refl) (here, (there, (here, (here, none_first s.unused m unlisted))))

    large_gdr : (lo hi : ℕ) → (hi ≤ 64) ⊎ (72 ≤ lo) → Misses all_touches s.gdr lo hi
    large_gdr lo hi beside = (
      (λ e. absurd (not_gdr (sym e))),
      ((λ e. beside), ((λ e. absurd (not_gdr (sym e))), ((λ e. absurd (not_gdr (sym e))), first_other s.unused s.gdr lo hi (λ j. gdr_unlisted s.gdr j refl)))),
    )

    -- of a record of the list all but the link back of the first
    list_misses : (m lo hi : ℕ) → In m s.unused → Misses (first_back_link s.unused) m lo hi → Misses all_touches m lo hi
    list_misses m lo hi i back =
        let no_place = not_listed m i in
        let no_gdr = gdr_unlisted m i in
        ((λ e. absurd (no_place e)), ((λ e. absurd (no_gdr e)), ((λ e. absurd (no_place e)), ((λ e. absurd (no_place e)), back))))

    large_part : (m lo hi : ℕ) → In m s.records → hi ≤ size_at b m → Misses all_touches m lo hi → Same b now (m + lo) (m + hi)
    large_part = part all_touches given.as_long given.changed large_placed given.type_is large_heads large_typed

    list_next : (m : ℕ) → In m s.unused → next_of now m ≡ next_of b m
    list_next m i = let w = listed_long m i in word_kept b now (m + 12) (m + 20) (large_part m 12 20 (listed_in m i) (omega arith) (list_misses m 12 20 i (first_misses s.unused m 12 20 (omega arith)))) (m + 12) 8 (omega arith) (omega arith)

    rest_prev_of : (us : List ℕ) → s.unused ≡ us → RestKept b now us
    rest_prev_of [] e = tt
    rest_prev_of (r ∷ rest) e = λ m i.
        let j : In m s.unused = subst (λ (xs : List ℕ). In m xs) (sym e) (inr i) in
        let distinct : Distinct (r ∷ rest) = subst Distinct e h.unused_chain.once in
        let w = listed_long m j in
        let firsts : Misses (first_back_link s.unused) m 20 28 = subst (λ (xs : List ℕ). Misses (first_back_link xs) m 20 28) (sym e) ((λ f. absurd (distinct.0 (subst (λ (x : ℕ). In x rest) f i))), tt) in
        word_kept b now (m + 20) (m + 28) (large_part m 20 28 (listed_in m j) w (list_misses m 20 28 j firsts)) (m + 20) 8 (omega arith) (omega arith)

    large_chain : IsChain now s.records uir_type (number now s.gdr gdr_uir_head) (place ∷ s.unused)
    large_chain = record {
      leads = (given.head_is, subst (λ (x : ℕ). Leads now x s.unused 0) (sym given.next_is) (leads_same b now (number b s.gdr gdr_uir_head) s.unused 0 h.unused_chain.leads list_next));
      linkable = λ m i. elim i [
        | inl e ↦ subst (λ (x : ℕ). is_linkable now s.records uir_type x ≡ true) (sym e) (linkable-from now s.records uir_type place inside given.type_is (subst (λ (n : ℕ). 28 ≤ n) (sym (sizes all_touches given.as_long given.changed large_placed given.type_is large_heads large_typed place inside)) large))
        | inr j ↦ linked all_touches given.as_long given.changed large_placed given.type_is large_heads large_typed m j
      ];
      once = ((λ i. not_listed place i refl), h.unused_chain.once);
    }

    pub first_given : IsGiven b now s (with_space s s.records (place ∷ s.unused)) place
    first_given =
        let good = sound_now all_touches given.as_long given.changed large_placed given.type_is large_heads large_typed (place ∷ s.unused) large_others large_gdr large_chain in
        let more : nat_le 28 (size_at b place) ≡ true = le-leb 28 (size_at b place) large in
        let same = sizes all_touches given.as_long given.changed large_placed given.type_is large_heads large_typed place inside in
        let list : unused now (with_space s s.records (place ∷ s.unused)) ≡ given_to (unused b s) place (size_at b place) =
        rw more (ap₂ (λ (n : ℕ) (xs : List (ℕ × ℕ)). (place, n) ∷ xs) same (list_sizes all_touches given.as_long given.changed large_placed given.type_is large_heads large_typed s.unused (λ m i. i))) in (
          record {
            list_is = list;
            length_is = given.as_long;
            records_stay = refl;
            space = record { rest_stays = refl; tiled = tiled all_touches given.as_long given.changed large_placed given.type_is large_heads large_typed; unused_chain = large_chain };
            stands = is_a-from now s.records uir_type place inside given.type_is;
            back = back_given b now place s.unused h.unused_chain.once (λ i. not_listed place i refl) (some_place b s.records (length b) place h.tiled inside) given.prev_is given.back_is (rest_prev_of s.unused refl);
            changed = rw more given.changed;
          },
          good.0,
          good.1,
        )
