-- An attribute is taken out of the chain, counted no more, those behind it are numbered anew, and its records are freed: the image is good, with the content without it, and what it keeps of each record.
use Rattle.cdf_edits.proofs.Common.{Act, AllGiven, AllKeep, Allowances, Answers, Anything, AreFree, AreNew, Attribute, AttributeShape, Attrs, Bool, ByStep, Covered, DataSet, Deletes, Distinct-push, Done, Each, Each-append, Edit, Field, Go, Good, GrEntries, HasShape, Hold, Hold-split, In, In-append, In-append_left, In-append_right, IsChain, IsSound, Keeps, LiesIn, List, Lists, Mark, None, OneAttribute, Only, Option, Plain, Refused, Removed, Same, Shape, Some, TakenOut, Unlinks, Write, ZEntries, [], absent-append, absent-split, adr_name, adr_num, adr_type, adrs, adrs_rows, aedr_attr_num, agr_edr_type, ap, append_assoc, ap₂, arith, attribute_named, attribute_names, attribute_of, attribute_records, attribute_shape_rows, attribute_types, az_edr_type, content, content_is, del_attr_step, deleting_marks, differ_by_names, differ_rows, drop, drop-append_seam, eq-eqb, eq_of, eqb-true, false, flat_map, freeing_marks, gave, gdr_adr_head, gdr_eof, gdr_num_attr, gdr_uir_head, get_or, good_by_its_shape, good_is_sound, good_long, if◌then◌else◌, image_limit, inl, inr, is_attribute, is_in, length, linkable-in, linkable-type, links_end, map, map-append, members_of, name_in, names_at, names_differ, next_field, number, numbering_marks, numbers_from, owned, owned_by, refl, remove, rules_of_good, same_name, sealed_kept, shape, size_at, slice_get, stands_in, subst, suc, sym, times, touched_field, true, true-is_in, type_at, uir_next_uir, uir_prev_uir, uir_type, unlinking_marks, with_writes, write, ℕ, ◌++◌, ◌+◌, ◌-◌, ◌<◌, ◌==◌, ◌∙◌, ◌∷◌, ◌≡◌, ◌≤◌}
use Rattle.cdf_edits.proofs.Edits.Common.{edit_under, unused_real, fewer_rows, tiles_numbered, place_in, numbering, others_say, are_numbered, LeavingTests, LeavesChain, may_linked, left_edit, said_now, chain_now, list_now, as_long, counted_now, may_now, distinct_if, mine_once, not_twice, can_be_freed, Left, owned_left, left_of, Avoids-split, avoided-avoids, within-within, away-of_type, within-of_type, avoids-of_type, OnlyOwns, parts_once, own_in, only_owns, back_in, front_in, gdr_typed, some_bytes, fixed_long, MayWrite, writes_lie, times-in, attribute_typed, Frees, freed_edit, sound_now, all_freed, says_still, gdr_still, behind_stays, gdr_field, file_same, gdr_place, refused, gone_by_giving, AllKeep-append, keep_unused, keep_places, keep_parts, keeps_stays, keep_each, attributes_counted, Each-map, all_variables_kept, Each-apply, map-removed, AtNumber, at_number, map-without, IsOf, few_members, lists, others_in, SaysNumber, may_write, freed_shape, freed_records, freed_long, freed_types, freed_acts, freed_bytes, out_counted, shape_there, sound_there, same_middle, keep_attributes_alone, end_before, StaysBut, stays_within, field_stays}
use Rattle.cdf_edits.proofs.Edits.AttributeFrame.{all_last, AreThere, more_there, entry, each_there, remaining_names}
use Rattle.cdf_edits.proofs.Edits.OwnedOnce.{spliced_times}
use Rattle.cdf_edits.proofs.Edits.Splice.{parts_there, spliced, Splices, content_now, sound_if, good_image_if}
use Rattle.cdf_edits.specs.Commands.Attributes.{attributes_gdr_fields, del_attr_changes}
use Rattle.cdf_edits.proofs.Edits.ChainMembers.{members_chain}
use Rattle.cdf_model.specs.declared.kinds.EntryKind.TheVariants as entries
use Rattle.cdf_model.specs.declared.answer.Reason.TheVariants as reasons
use Rattle.cdf_model.specs.declared.command.Command.TheVariants as commands
use Rattle.cdf_edits.proofs.Edits.AttributeRemains.{AttributeRemains, AttributeLasts}
use Rattle.cdf_edits.proofs.Frame.OwnerAlone.{Each-in}

-- where the entries of attributes stand
abbrev entries_in : List AttributeShape → List ℕ
entries_in as_ = flat_map (λ (a : AttributeShape). a.gr_entries ++ a.z_entries) as_

abbrev adrs_in : List AttributeShape → List ℕ
adrs_in as_ = map (λ (a : AttributeShape). a.adr) as_

-- the numbers of attributes, which their entries say
abbrev numbers : ℕ → List AttributeShape → List Write
numbers n as_ = numbering (λ (a : AttributeShape). a.adr) adr_num (λ (a : AttributeShape). a.gr_entries ++ a.z_entries) aedr_attr_num n as_

as_numbers : (n : ℕ) (as_ : List AttributeShape) → numbers_from n as_ ≡ numbers n as_
as_numbers n [] = refl
as_numbers n (a ∷ more) = ap (λ (ws : List Write). write a.adr adr_num n ∷ map (λ entry. write entry aedr_attr_num n) (a.gr_entries ++ a.z_entries) ++ ws) (as_numbers (suc n) more)

-- ---- names of which one goes

-- names stay new behind fewer
new_behind : (seen fewer names : List (List ℕ)) → ((x : List ℕ) → stands_in x seen ≡ false → stands_in x fewer ≡ false) → AreNew seen names → AreNew fewer names
new_behind seen fewer [] less h = tt
new_behind seen fewer (x ∷ names) less h = (less x h.0, new_behind (seen ++ x ∷ []) (fewer ++ x ∷ []) names (λ y e. let p = absent-split y seen (x ∷ []) e in absent-append y fewer (x ∷ []) (less y p.0) p.1) h.1)

new_removed : (b : List ℕ) (seen : List (List ℕ)) (front : List AttributeShape) (own : AttributeShape) (back : List AttributeShape) → AreNew seen (names_at b adr_name (adrs_in (front ++ own ∷ back))) → AreNew seen (names_at b adr_name (adrs_in (front ++ back)))
new_removed b seen [] own back h = new_behind (seen ++ name_in b own.adr adr_name ∷ []) seen (names_at b adr_name (adrs_in back)) (λ x e. (absent-split x seen (name_in b own.adr adr_name ∷ []) e).0) h.1
new_removed b seen (x ∷ front) own back h = (h.0, new_removed b (seen ++ name_in b x.adr adr_name ∷ []) front own back h.1)

leaving_tests : (gdr : ℕ) (members adrs entries : List ℕ) → LeavingTests Attrs adr_num aedr_attr_num gdr members (numbering_marks adrs entries) []
leaving_tests gdr members adrs entries = record { num_later = omega arith; num_fits = omega arith; num_width = refl; said_width = refl; head_later = omega arith; head_fits = omega arith; count_later = omega arith; count_fits = omega arith; count_width = refl; no_uir = λ e. absurd cc; no_gdr = λ e. absurd cc; in_gdr = λ b. refl; first_file = refl; early_file = refl; later_start = refl; later_head = refl; later_links = refl; last_start = refl; last_count = refl; all_start = refl; all_list = refl; all_uir = refl }

-- ---- the numbers that are written

-- a number may be written in the entries
may_say : {b : List ℕ} {s : Shape} {marks : List Mark} {m : ℕ} (n : ℕ) → IsSound b s → (type_at b m ≡ agr_edr_type → Covered b marks (touched_field m aedr_attr_num)) → (type_at b m ≡ az_edr_type → Covered b marks (touched_field m aedr_attr_num)) → (as_ : List AttributeShape) → AreThere b s.records as_ → In m (entries_in as_) → MayWrite b s.records marks (write m aedr_attr_num n)
may_say n sound gr z [] t i = absurd i
may_say {b = b} {s = s} {marks = marks} {m = m} n sound gr z (a ∷ more) t i = elim (In-append m (a.gr_entries ++ a.z_entries) (entries_in more) i) [
  | inl j ↦ elim (In-append m a.gr_entries a.z_entries j) [
    | inl k ↦ may_linked sound marks agr_edr_type m aedr_attr_num n (t.have.0.gr_chain.linkable m k) (λ e. absurd cc) (omega arith) (omega arith) gr
    | inr k ↦ may_linked sound marks az_edr_type m aedr_attr_num n (t.have.0.z_chain.linkable m k) (λ e. absurd cc) (omega arith) (omega arith) z
  ]
  | inr j ↦ may_say n sound gr z more (more_there b s.records a more t) j
]

-- ---- the steps

-- what of a record of an attribute that is not freed may be other bytes
abbrev changing : ℕ → List Field
changing type = if type == adr_type then next_field ∷ adr_num ∷ [] else aedr_attr_num ∷ []

by_type : (P : ℕ → Type 0) → P adr_type → P agr_edr_type → P az_edr_type → (t : ℕ) → is_in t attribute_types ≡ true → P t
by_type P adr gr z t i = Each-in P attribute_types (adr, (gr, (z, tt))) t (true-is_in t attribute_types i)

module _ {b mid : List ℕ} {s : Shape} {before : List AttributeShape} {own : AttributeShape} {after : List AttributeShape} (sound : IsSound b s) (u : Unlinks b mid s before own after) where
  h : HasShape b s
  h = sound.has_shape

  there : AreThere b s.records before × (AreThere b s.records (own ∷ []) × AreThere b s.records after)
  there = parts_there b s sound before (own ∷ []) after u.was

  leaves : LeavesChain (λ (a : AttributeShape). a.adr) adr_num (λ (a : AttributeShape). a.gr_entries ++ a.z_entries) aedr_attr_num b mid mid s Attrs s.attributes before own after (numbering_marks (adrs_in after) (entries_in after)) [] []
  leaves = record {
    sound = sound;
    was = u.was;
    is_of = record { holder_is = h.gdr_is; chain = h.attribute_chain };
    tests = leaving_tests s.gdr (adrs s) (adrs_in after) (entries_in after);
    first = u.first;
    removed = u.removed;
    numbered = u.written ∙ ap (λ (ws : List Write). with_writes u.first (write s.gdr gdr_num_attr (length before + length after) ∷ ws)) (as_numbers (length before) after);
    written = refl;
    covered = λ m i t. inl (record { typed = t; lies = i; low = omega arith; high = omega arith });
    may_others = λ m n i. may_say n sound (λ t. inr (inl (record { typed = t; lies = i; low = omega arith; high = omega arith }))) (λ t. inr (inr (inl (record { typed = t; lies = i; low = omega arith; high = omega arith })))) after there.1.1 i;
    may_last = tt;
    lasts_in = λ m none. absurd none;
    once = ((λ i. let no = sym (ap (λ (t : ℕ). is_in t attribute_types) (gdr_typed b s h)) ∙ attribute_typed b s.records after there.1.1 s.gdr i in absurd cc), distinct_if (flat_map attribute_records after) (λ m. let p = parts_once b s sound before own after u.was m in omega arith));
    few = u.few;
  }

  -- no record is of an attribute before it and of one behind it
  apart : (m : ℕ) → In m (flat_map attribute_records before) → In m (flat_map attribute_records after) → ⊥
  apart m i j = let p = parts_once b s sound before own after u.was m in let x = times-in m (flat_map attribute_records before) i in let y = times-in m (flat_map attribute_records after) j in absurd (omega arith)

  only : (m : ℕ) → In m (attribute_records own) → OnlyOwns b s before after m
  only = only_owns b s sound before own after u.was

  long : (m : ℕ) → In m s.records → is_in (type_at b m) attribute_types ≡ true → 56 ≤ size_at b m
  long m i typed = by_type (λ (t : ℕ). type_at b m ≡ t → 56 ≤ size_at b m) (λ is. let l = fixed_long b s h adr_type m i is in omega arith) (λ is. let l = fixed_long b s h agr_edr_type m i is in omega arith) (λ is. let l = fixed_long b s h az_edr_type m i is in omega arith) (type_at b m) typed refl

  -- without it nobody has its records
  left_by : (list : List ℕ) → Left b s (spliced s s.records list (before ++ after)) (attribute_records own)
  left_by list = left_of attribute_records sound own (λ m. spliced_times s s.records list before (own ∷ []) [] after u.was m 0 (times m (flat_map attribute_records (own ∷ []))) (omega arith))

  -- ---- the others, whichever records of it are freed as well

  module _ {now places : List ℕ} {limit : ℕ} (e : Edit b now s.records s.records (deleting_marks s.gdr (adrs_in s.attributes) (adrs_in after) (entries_in after) s.unused places limit) places) (mine : (m : ℕ) → In m places → In m (attribute_records own)) where
    abbrev marks : List Mark
    marks = deleting_marks s.gdr (adrs_in s.attributes) (adrs_in after) (entries_in after) s.unused places limit

    stays : (m : ℕ) → In m s.records → is_in (type_at b m) attribute_types ≡ true → (In m places → ⊥) → StaysBut b now m (changing (type_at b m))
    stays m i typed out = by_type (λ (t : ℕ). type_at b m ≡ t → StaysBut b now m (changing t))
        (λ is. stays_within e m adr_type (changing adr_type) i is (avoids-of_type marks adr_type m 0 12 ((λ q l. inl (omega arith)), ((λ q l. inl (omega arith)), ((λ q l. absurd (out l)), tt)))) (within-of_type marks adr_type m (changing adr_type) ((λ q l. refl), ((λ q l. refl), ((λ q l. absurd (out l)), tt)))))
        (λ is. stays_within e m agr_edr_type (changing agr_edr_type) i is (avoids-of_type marks agr_edr_type m 0 12 ((λ q l. inl (omega arith)), ((λ q l. absurd (out l)), tt))) (within-of_type marks agr_edr_type m (changing agr_edr_type) ((λ q l. refl), ((λ q l. absurd (out l)), tt))))
        (λ is. stays_within e m az_edr_type (changing az_edr_type) i is (avoids-of_type marks az_edr_type m 0 12 ((λ q l. inl (omega arith)), ((λ q l. absurd (out l)), tt))) (within-of_type marks az_edr_type m (changing az_edr_type) ((λ q l. refl), ((λ q l. absurd (out l)), tt))))
        (type_at b m) typed refl

    -- one that is of none behind it stays but for a link
    links : (m : ℕ) → In m s.records → is_in (type_at b m) attribute_types ≡ true → (In m places → ⊥) → (In m (flat_map attribute_records after) → ⊥) → StaysBut b now m (next_field ∷ [])
    links m i typed out beside = by_type (λ (t : ℕ). type_at b m ≡ t → StaysBut b now m (next_field ∷ []))
        (λ is. stays_within e m adr_type (next_field ∷ []) i is (avoids-of_type marks adr_type m 0 12 ((λ q l. inl (omega arith)), ((λ q l. inl (omega arith)), ((λ q l. absurd (out l)), tt)))) (within-of_type marks adr_type m (next_field ∷ []) ((λ q l. refl), ((λ q l. absurd (beside (place_in (λ (a : AttributeShape). a.adr) (λ (a : AttributeShape). a.gr_entries ++ a.z_entries) after m l))), ((λ q l. absurd (out l)), tt)))))
        (λ is. stays_within e m agr_edr_type (next_field ∷ []) i is (avoids-of_type marks agr_edr_type m 0 12 ((λ q l. inl (omega arith)), ((λ q l. absurd (out l)), tt))) (within-of_type marks agr_edr_type m (next_field ∷ []) ((λ q l. absurd (beside (others_in (λ (a : AttributeShape). a.adr) (λ (a : AttributeShape). a.gr_entries ++ a.z_entries) after m l))), ((λ q l. absurd (out l)), tt))))
        (λ is. stays_within e m az_edr_type (next_field ∷ []) i is (avoids-of_type marks az_edr_type m 0 12 ((λ q l. inl (omega arith)), ((λ q l. absurd (out l)), tt))) (within-of_type marks az_edr_type m (next_field ∷ []) ((λ q l. absurd (beside (others_in (λ (a : AttributeShape). a.adr) (λ (a : AttributeShape). a.gr_entries ++ a.z_entries) after m l))), ((λ q l. absurd (out l)), tt))))
        (type_at b m) typed refl

    gone_before : (m : ℕ) → In m (flat_map attribute_records before) → In m places → ⊥
    gone_before m i j = (only m (mine m j)).in_before i

    gone_after : (m : ℕ) → In m (flat_map attribute_records after) → In m places → ⊥
    gone_after m i j = (only m (mine m j)).in_after i

    lasts : (as_ : List AttributeShape) → AreThere b s.records as_ → ((m : ℕ) → In m (flat_map attribute_records as_) → In m places → ⊥) → Each (λ a. (m : ℕ) → In m (a.gr_entries ++ a.z_entries) → number b m aedr_attr_num ≡ number b a.adr adr_num → number now m aedr_attr_num ≡ number now a.adr adr_num) as_ → Each (AttributeLasts b now) as_
    lasts as_ all out = Each-apply _ (AttributeLasts b now) as_ (each_there b s.records _ as_ all (λ a t at sub says. record {
      adr = subst (λ (t : ℕ). StaysBut b now a.adr (changing t)) (linkable-type b s.records adr_type a.adr t.linked.0) (stays a.adr (linkable-in b s.records adr_type a.adr t.linked.0) (attribute_typed b s.records as_ all a.adr (sub a.adr (inl refl))) (out a.adr (sub a.adr (inl refl))));
      entries = λ m i. let x = entry sound e a t.have.0 m i in Each-in (λ (t : ℕ). StaysBut b now m (changing t) → StaysBut b now m (aedr_attr_num ∷ [])) (agr_edr_type ∷ az_edr_type ∷ []) ((λ k. k), ((λ k. k), tt)) (type_at b m) (true-is_in (type_at b m) (agr_edr_type ∷ az_edr_type ∷ []) x.1) (stays m x.0 (attribute_typed b s.records as_ all m (sub m (inr i))) (out m (sub m (inr i))));
      numbered = says;
    }))

    -- those before it have their numbers
    number_before : (m : ℕ) (f : Field) → In m (flat_map attribute_records before) → 20 ≤ f.place → f.place + f.width ≤ 56 → number now m f ≡ number b m f
    number_before m f i low high =
        let inside = front_in b s sound before own after u.was m i in
        let typed = attribute_typed b s.records before there.0 m i in
        field_stays (links m inside typed (gone_before m i) (apart m i)) f (let l = long m inside typed in omega arith) (λ n p q. (inr (omega arith), tt))

    splices : {list : List ℕ} → Each (SaysNumber now) (numbers (length before) after) → IsChain now s.records adr_type (number now s.gdr gdr_adr_head) (adrs_in (before ++ after)) → IsChain now s.records uir_type (number now s.gdr gdr_uir_head) list → ((m : ℕ) → In m places → type_at now m ≡ uir_type)
        → Splices b now s s.records list marks places before (own ∷ []) [] after
    splices says chain unused freed =
        let file = file_same sound e refl in
        record {
          edit = e;
          was = u.was;
          file_clear = refl;
          variables_clear = refl;
          before_remain = all_last sound e file before there.0 (lasts before there.0 gone_before (each_there b s.records _ before there.0 (λ a t at sub m i was. number_before m aedr_attr_num (sub m (inr i)) (omega arith) (omega arith) ∙ was ∙ sym (number_before a.adr adr_num (sub a.adr (inl refl)) (omega arith) (omega arith)))));
          after_remain = all_last sound e file after there.1.1 (lasts after there.1.1 gone_after (Each-map _ _ (λ a k m i was. k m i) after (others_say (λ (a : AttributeShape). a.adr) adr_num (λ (a : AttributeShape). a.gr_entries ++ a.z_entries) aedr_attr_num now (length before) after says)));
          typed = λ m i. unused_real now s.records m e.tiled_now (e.sub m (own_in b s sound before own after u.was m (mine m i))) (freed m i);
          attribute_chain = chain;
          unused_chain = unused;
          own_entries = tt;
        }

  -- ---- before its records are freed, the image is sound, and they can be

  unlinked : Edit b mid s.records s.records (deleting_marks s.gdr (adrs_in s.attributes) (adrs_in after) (entries_in after) s.unused [] 0) []
  unlinked = edit_under (left_edit leaves) _ (λ m type lo hi i is a. (Avoids-split (unlinking_marks s.gdr (adrs_in s.attributes) (adrs_in after) (entries_in after)) (freeing_marks attribute_types s.unused [] 0) type m lo hi a).0)

  unlinked_sound : IsSound mid (spliced s s.records s.unused (before ++ after))
  unlinked_sound = sound_if sound (splices unlinked (λ m i. absurd i) (said_now leaves) (chain_now leaves) (list_now leaves) (λ m i. absurd i)) tt (not_twice (left_by s.unused) (left_edit leaves))

  own_mine : (m : ℕ) → In m (own.gr_entries ++ own.z_entries ++ own.adr ∷ []) → In m (attribute_records own)
  own_mine m i = elim (In-append m (own.gr_entries ++ own.z_entries) (own.adr ∷ []) i) [ inl j ↦ inr j | inr j ↦ elim j [ inl e ↦ inl e | inr none ↦ absurd none ] ]

  own_free : AreFree mid (own.gr_entries ++ own.z_entries ++ own.adr ∷ [])
  own_free =
      let once = mine_once (left_by s.unused) in
      can_be_freed (left_by s.unused) (left_edit leaves) unlinked_sound (own_in b s sound before own after u.was) (own.gr_entries ++ own.z_entries ++ own.adr ∷ []) own_mine (Distinct-push (own.gr_entries ++ own.z_entries) own.adr once.1 once.0)

  own_typed : (m : ℕ) → In m (attribute_records own) → is_in (type_at b m) attribute_types ≡ true
  own_typed m i = attribute_typed b s.records (own ∷ []) there.1.0 m (In-append_left m (attribute_records own) [] i)

  -- and they stay but for a link
  own_behind : (m : ℕ) → In m (attribute_records own) → Same b mid (m + links_end (size_at b m)) (m + size_at b m)
  own_behind m i =
      let inside = own_in b s sound before own after u.was m i in
      behind_stays (links unlinked (λ m i. absurd i) m inside (own_typed m i) (λ none. none) (only m i).in_after) (let l = long m inside (own_typed m i) in omega arith) (λ n l. (inr (omega arith), tt))

module _ {b now : List ℕ} {n : ℕ} (good : Good b) (d : Deletes b now n) where
  abbrev s : Shape
  s = shape b

  sound : IsSound b s
  sound = good_is_sound b good

  abbrev places : List ℕ
  places = d.own.gr_entries ++ d.own.z_entries ++ d.own.adr ∷ []

  frees : Frees b d.mid now (unlinking_marks s.gdr (adrs_in s.attributes) (adrs_in d.after) (entries_in d.after)) attribute_types places
  frees = record {
    sound = sound;
    edit = left_edit (leaves sound d.unlinks);
    long = as_long (leaves sound d.unlinks);
    mid_sound = sound_there (unlinked_sound sound d.unlinks);
    records = ap (λ (x : Shape). x.records) (shape_there (unlinked_sound sound d.unlinks));
    unused = ap (λ (x : Shape). x.unused) (shape_there (unlinked_sound sound d.unlinks));
    free = own_free sound d.unlinks;
    typed = λ m i. own_typed sound d.unlinks m (own_mine sound d.unlinks m i);
    no_gdr = refl;
    given = d.given;
  }

  e : Edit b now s.records s.records (deleting_marks s.gdr (adrs_in s.attributes) (adrs_in d.after) (entries_in d.after) s.unused places (length d.mid)) places
  e = freed_edit frees

  shape_after : shape now ≡ spliced s s.records (shape now).unused (d.before ++ d.after)
  shape_after = freed_shape frees (shape_there (unlinked_sound sound d.unlinks))

  says : Each (SaysNumber now) (numbers (length d.before) d.after)
  says = says_still frees _ _ (may_now (leaves sound d.unlinks)) (λ m i.
      let j = subst (In m) (tiles_numbered (λ (a : AttributeShape). a.adr) adr_num (λ (a : AttributeShape). a.gr_entries ++ a.z_entries) aedr_attr_num (length d.before) d.after) i in
      (ap (λ (t : ℕ). is_in t attribute_types) (freed_types frees m (back_in b s sound d.before d.own d.after d.unlinks.was m j)) ∙ attribute_typed b s.records d.after (there sound d.unlinks).1.1 m j, gone_after sound d.unlinks e (own_mine sound d.unlinks) m j)) (said_now (leaves sound d.unlinks))

  whole : Splices b now s s.records (shape now).unused (marks sound d.unlinks e (own_mine sound d.unlinks)) places d.before (d.own ∷ []) [] d.after
  whole = splices sound d.unlinks e (own_mine sound d.unlinks) says (subst (λ (x : Shape). IsChain now x.records adr_type (number now x.gdr gdr_adr_head) (adrs x)) shape_after (sound_now frees).has_shape.attribute_chain)
      (subst (λ (x : Shape). IsChain now x.records uir_type (number now x.gdr gdr_uir_head) x.unused) shape_after (sound_now frees).has_shape.unused_chain) (all_freed frees)

  content_after : content now ≡ record (content b) { attributes = remove (content b).attributes n }
  content_after =
      let split = ap (λ (x : DataSet). remove x.attributes (length d.before)) (content_is b s sound.has_shape) ∙ map-without (attribute_of b) s.attributes d.before d.own d.after d.unlinks.was in
      content_now sound whole ∙ ap (λ (as_ : List Attribute). record (content b) { attributes = as_ }) (sym split ∙ ap (remove (content b).attributes) d.count)

  -- ---- the rules

  counted : Hold (adrs_rows now (adrs_in (d.before ++ d.after)))
  counted = (
    eq-eqb _ _ (ap (λ (g : ℕ). number now g gdr_num_attr) (gdr_place sound e refl) ∙ gdr_still frees gdr_num_attr (omega arith) ∙ counted_now (leaves sound d.unlinks)),
    fewer_rows (λ (a : AttributeShape). a.adr) adr_num 4 b now s.attributes d.before d.own d.after d.unlinks.was (λ m i. number_before sound d.unlinks e (own_mine sound d.unlinks) m adr_num (place_in (λ (a : AttributeShape). a.adr) (λ (a : AttributeShape). a.gr_entries ++ a.z_entries) d.before m i) (omega arith) (omega arith)) (are_numbered (λ (a : AttributeShape). a.adr) adr_num (λ (a : AttributeShape). a.gr_entries ++ a.z_entries) aedr_attr_num now (length d.before) d.after says) (attributes_counted (good_by_its_shape b good)).1,
  )

  differ : Hold (differ_rows 2 (same_name now adr_name) [] (adrs_in (d.before ++ d.after)))
  differ =
      let were = names_differ 2 b adr_name (adrs s) (Hold-split (flat_map (attribute_shape_rows b) s.attributes) (differ_rows 2 (same_name b adr_name) [] (adrs s)) (good_by_its_shape b good).attributes).1 in
      let same = remaining_names b now s.records (d.before ++ d.after) (Each-append (AttributeRemains b now s.records) d.before d.after whole.before_remain whole.after_remain) in
      differ_by_names 2 now adr_name _ (subst (AreNew []) (sym same) (new_removed b [] d.before d.own d.after (subst (λ (as_ : List AttributeShape). AreNew [] (names_at b adr_name (adrs_in as_))) d.unlinks.was were)))

  good_after : length b ≤ image_limit → Good now
  good_after short =
      let image = good_by_its_shape b good in
      let end = gdr_field sound e refl gdr_eof refl (omega arith) ∙ end_before b good ∙ sym (freed_long frees) in
      good_image_if sound whole (sealed_kept b (good_long b s image) (rules_of_good b good)).0 image (record {
        counted = counted;
        own_rules = tt;
        differ = differ;
        owned = owned_left (left_by sound d.unlinks (shape now).unused) image.owned_once e (own_mine sound d.unlinks) all_mine (all_freed frees);
      }) end (let l = freed_long frees in omega arith)
    where
      all_mine : (m : ℕ) → In m (attribute_records d.own) → In m places
      all_mine m (inl e) = In-append_right m (d.own.gr_entries ++ d.own.z_entries) (d.own.adr ∷ []) (inl e)
      all_mine m (inr i) = In-append_left m (d.own.gr_entries ++ d.own.z_entries) (d.own.adr ∷ []) i

  -- ---- names and places

  pub names_after : remove (attribute_names (content b)) n ≡ attribute_names (content now)
  names_after = sym (map-removed (λ (a : Attribute). a.name) (content b).attributes n) ∙ ap attribute_names (sym content_after)

  pub places_after : remove (adrs s) n ≡ adrs (shape now)
  places_after = ap (remove (adrs s)) (sym d.count) ∙ map-without (λ (a : AttributeShape). a.adr) s.attributes d.before d.own d.after d.unlinks.was ∙ sym (map-append (λ (a : AttributeShape). a.adr) d.before d.after) ∙ ap adrs (sym shape_after)

-- ---- what the command may change

-- either of two allowances
either_keeps : (b now : List ℕ) (p q : Bool) (m : ℕ) (fields others : List Field) → Keeps b now m (Only (if q then fields else others)) → Keeps b now m (if p then Anything else (if q then Only fields else Only others))
either_keeps b now true q m fields others k = tt
either_keeps b now false true m fields others k = k
either_keeps b now false false m fields others k = k

module _ {b now : List ℕ} {n : ℕ} (good : Good b) (d : Deletes b now n) (name : List ℕ) (w : Attribute) (found : attribute_named (content b) name ≡ Some (n, w)) where
  abbrev may : Allowances
  may = del_attr_changes b (content b) name

  abbrev acts : List Act
  acts = gave b (places good d)

  -- a record of an attribute that is not freed
  one_keeps : (k m : ℕ) → In m (shape b).records → is_in (type_at b m) attribute_types ≡ true → (In m (places good d) → ⊥) → Keeps b now m (may.attributes k m)
  one_keeps k m i typed out =
      let head = (e good d).head m i (λ u. (let no = sym (ap (λ (t : ℕ). is_in t attribute_types) u) ∙ typed in absurd cc)) out in
      either_keeps b now (is_attribute (content b) name k) (type_at b m == adr_type) m (next_field ∷ adr_num ∷ []) (aedr_attr_num ∷ []) (keeps_stays (sound good d) (e good d) (freed_records (frees good d)) m _ i head (stays (sound good d) d.unlinks (e good d) (own_mine (sound good d) d.unlinks) m i typed out))

  named : is_attribute (content b) name (length d.before) ≡ true
  named = ap (λ (f : Option (ℕ × Attribute)). elim f [ None ↦ false | Some x ↦ x.0 == length d.before ]) found ∙ eq-eqb n (length d.before) (sym d.count)

  keeps : AllKeep b now may acts (owned b (shape b))
  keeps =
      let ok = sound good d in
      let t = there ok d.unlinks in
      let mine = own_mine ok d.unlinks in
      let a = keep_parts b now may acts d.before (d.own ∷ []) d.after d.unlinks.was
      (keep_each b now may acts 0 d.before (λ k m i. one_keeps k m (front_in b (shape b) ok d.before d.own d.after d.unlinks.was m i) (attribute_typed b (shape b).records d.before t.0 m i) (gone_before ok d.unlinks (e good d) mine m i)))
      (AllKeep-append b now may acts (owned_by (OneAttribute (length d.before)) (attribute_records d.own)) [] (keep_places b now may acts (OneAttribute (length d.before)) (attribute_records d.own) (λ m i.
      subst (λ (p : Bool). Keeps b now m (if p then Anything else (if type_at b m == adr_type then Only (next_field ∷ adr_num ∷ []) else Only (aedr_attr_num ∷ [])))) (sym named) tt)) tt)
      (keep_each b now may acts (length d.before + length (d.own ∷ [])) d.after (λ k m i. one_keeps k m (back_in b (shape b) ok d.before d.own d.after d.unlinks.was m i) (attribute_typed b (shape b).records d.after t.1.1 m i) (gone_after ok d.unlinks (e good d) mine m i))) in
      let u = keep_unused ok (e good d) (freed_records (frees good d)) may acts (λ m i free. (avoided-avoids (marks ok d.unlinks (e good d) mine) uir_type m 0 12 refl, within-within (marks ok d.unlinks (e good d) mine) uir_type m (uir_next_uir ∷ uir_prev_uir ∷ []) refl)) (λ m i out. away-of_type (marks ok d.unlinks (e good d) mine) uir_type m ((λ same lies. absurd (out lies)), tt)) in
      keep_attributes_alone ok (e good d) (freed_records (frees good d)) may acts attributes_gdr_fields refl refl refl refl (all_variables_kept ok (e good d) refl) a u

  -- the attribute that has the name is this one
  own_is : (k : ℕ) (a : AttributeShape) → is_attribute (content b) name k ≡ true → slice_get (shape b).attributes k ≡ Some a → d.own ≡ a
  own_is k a is at =
      let number : n ≡ k = eqb-true n k (sym (ap (λ (o : Option (ℕ × Attribute)). elim o [ None ↦ false | Some x ↦ x.0 == k ]) found) ∙ is) in
      same_middle (shape b).attributes d.before d.own d.after d.unlinks.was k (d.count ∙ number) at

  pub delete_done : (limit : ℕ) → length b ≤ limit → length b ≤ image_limit → Answers limit b (commands.DelAttr name) (Done Plain) now
  delete_done limit fits short =
      let goes : del_attr_step (content b) name ≡ Go (record (content b) { attributes = remove (content b).attributes n }) Plain = rw found refl in
      gone_by_giving limit b (commands.DelAttr name) now (places good d) refl refl (ap ByStep (goes ∙ ap (λ (x : DataSet). Go x Plain) (sym (content_after good d)))) (good_after good d short) (freed_long (frees good d)) (freed_acts (frees good d) refl) keeps
      (record { acts_are = λ k a is at. ap (λ (x : AttributeShape). gave b (x.gr_entries ++ x.z_entries ++ x.adr ∷ [])) (own_is k a is at); freed = freed_bytes (frees good d) (λ m i. own_behind (sound good d) d.unlinks m (own_mine (sound good d) d.unlinks m i)) }) fits

pub delete_refused : (limit : ℕ) (b name : List ℕ) → attribute_named (content b) name ≡ None → Answers limit b (commands.DelAttr name) (Refused reasons.NoSuchAttr) b
delete_refused limit b name none = refused limit b (commands.DelAttr name) reasons.NoSuchAttr (ap ByStep (rw none refl))

-- ---- what the calls come to, by the places of the attributes and the number of one

module _ (b : List ℕ) (good : Good b) (places : List ℕ) (are : places ≡ adrs (shape b)) where
  image_sound : IsSound b (shape b)
  image_sound = good_is_sound b good

  is_of : IsOf b (shape b) Attrs (shape b).gdr (adrs (shape b))
  is_of = record { holder_is = image_sound.has_shape.gdr_is; chain = image_sound.has_shape.attribute_chain }

  pub attributes_listed : Lists b Attrs places
  attributes_listed = lists image_sound.has_shape is_of tt are (eq_of _ _ (attributes_counted (good_by_its_shape b good)).0 ∙ ap length (sym are))

  module _ (n : ℕ) (lt : n < length places) where
    abbrev pub own : AtNumber (λ (a : AttributeShape). a.adr) (shape b).attributes places n
    own = at_number (λ (a : AttributeShape). a.adr) (shape b).attributes places are n lt

    own_entries : members_of b (GrEntries (get_or places n 0)) ++ members_of b (ZEntries (get_or places n 0)) ≡ own.own.gr_entries ++ own.own.z_entries
    own_entries =
        ap (λ (m : ℕ). members_of b (GrEntries m) ++ members_of b (ZEntries m)) own.own_at
        ∙ ap₂ (λ (gr z : List ℕ). gr ++ z) (members_chain entries.G image_sound (record { was = own.is })) (members_chain entries.Z image_sound (record { was = own.is }))

    -- the numbers of one attribute more were read
    pub numbers_more : 1 ≤ n → (entries : List ℕ) → entries ≡ members_of b (GrEntries (get_or places n 0)) ++ members_of b (ZEntries (get_or places n 0)) → (done more all : List Write)
        → more ≡ done ++ write (get_or places n 0) adr_num (n - 1) ∷ map (λ (entry : ℕ). write entry aedr_attr_num (n - 1)) entries → done ++ numbers_from (n - 1) (drop n (shape b).attributes) ≡ all → more ++ numbers_from (n + 1 - 1) (drop (n + 1) (shape b).attributes) ≡ all
    numbers_more later entries entries_are done more all more_is before_is =
        let ours = entries_are ∙ own_entries in
        let here : drop n (shape b).attributes ≡ own.own ∷ own.after = ap₂ (λ (as_ : List AttributeShape) (k : ℕ). drop k as_) own.is (sym own.count) ∙ drop-append_seam own.before (own.own ∷ own.after) in
        let next : n + 1 - 1 ≡ suc (n - 1) = omega arith in
        let numbers = λ (adr : ℕ) (es : List ℕ). write adr adr_num (n - 1) ∷ map (λ (entry : ℕ). write entry aedr_attr_num (n - 1)) es in
        (λ i. more_is i ++ numbers_from (next i) (own.later_are i)) ∙ append_assoc done (numbers (get_or places n 0) entries) (numbers_from (suc (n - 1)) own.after) ∙ (λ i. done ++ (numbers (own.own_at i) (ours i) ++ numbers_from (suc (n - 1)) own.after)) ∙ ap (λ (as_ : List AttributeShape). done ++ numbers_from (n - 1) as_) (sym here) ∙ before_is

    -- it was taken out of the chain, and numbers are written
    module _ (short : length b ≤ image_limit) {x y second : List ℕ} (same : x ≡ b) (taken : TakenOut x second Attrs (get_or places n 0)) (earlier : y ≡ b) {writes : List Write} (read : writes ≡ numbers_from n (drop (n + 1) (shape y).attributes)) where
      out : TakenOut b second Attrs (get_or places n 0)
      out = subst (λ (y : List ℕ). TakenOut y second Attrs (get_or places n 0)) same taken

      numbers_are : writes ≡ numbers_from (length own.before) own.after
      numbers_are = read ∙ ap (λ (z : List ℕ). numbers_from n (drop (n + 1) (shape z).attributes)) earlier ∙ ap₂ numbers_from (sym own.count) own.later_are

      -- from there on
      unlinks : {mid : List ℕ} → mid ≡ with_writes second writes → Unlinks b mid (shape b) own.before own.own own.after
      unlinks written =
          let few = few_members image_sound.has_shape is_of short in
          let counted = out_counted is_of attributes_listed own.long out in
          record {
            was = own.is;
            first = out.first;
            removed = subst (Removed b out.first Attrs) own.own_at out.removed;
            written = written ∙ (λ i. with_writes (counted i) (numbers_are i));
            few = omega (arith, ap length are, own.long);
          }

      pub lie_after : Each (λ (w : Write). LiesIn second w.tile w.f) writes
      lie_after = subst (Each (λ (w : Write). LiesIn second w.tile w.f)) (sym (numbers_are ∙ as_numbers (length own.before) own.after))
          (writes_lie b second (shape b).records _ _ image_sound.has_shape.tiled (some_bytes b (shape b) image_sound.has_shape) out.length_stays (may_write (leaves image_sound (unlinks refl))))

      -- then its records can be freed, and once they are it is deleted
      pub record Unlinked (mid records : List ℕ) : Type 0 where
        pub sound : IsSound mid (shape mid)
        pub free : AreFree mid records
        pub deletes : (now : List ℕ) → AllGiven mid now records → Deletes b now n

      pub unlinked_by : {mid records : List ℕ} → mid ≡ with_writes second writes → records ≡ members_of b (GrEntries (get_or places n 0)) ++ members_of b (ZEntries (get_or places n 0)) ++ get_or places n 0 ∷ [] → Unlinked mid records
      unlinked_by {mid = mid} written records_are =
          let own_records = records_are ∙ ap₂ (λ (es : List ℕ) (m : ℕ). es ++ m ∷ []) own_entries own.own_at in
          record {
            sound = sound_there (unlinked_sound image_sound (unlinks written));
            free = subst (AreFree mid) (sym own_records) (own_free image_sound (unlinks written));
            deletes = λ now given. record { before = own.before; own = own.own; after = own.after; count = own.count; mid = mid; unlinks = unlinks written; given = subst (AllGiven mid now) own_records given };
          }
