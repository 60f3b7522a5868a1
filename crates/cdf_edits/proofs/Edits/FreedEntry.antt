-- An entry that its chain has no more is freed.
use Rattle.cdf_edits.proofs.Common.{Act, ActsFollow, AttributeShape, Avoids, Away, Confined, Each, EntryFits, EntryKind, Field, Gave, GivenStay, Gives, In, In-append, In-append_left, In-append_right, IsSound, List, Mark, Same, Shape, Within, [], adr_type, ap, arith, attribute_records, attribute_types, avoided, chain_fields, chain_of, count_field, entry_type, eof, false, fixed_size, gave, gdr_eof, gdr_type, giving_marks, head_field, inl, inr, is_record_type, is_taken, keeps_but_chain, length, linkable-in, linkable-type, map, max_field, no_fields, number, owned_records, refl, shape, size_at, space_fields, subst, sum, sym, taken, times, times-none, true, type_at, uir_next_uir, uir_prev_uir, uir_type, within, ℕ, ◌++◌, ◌+◌, ◌∙◌, ◌∷◌, ◌≡◌, ◌≢◌, ◌≤◌}
use Rattle.cdf_model.specs.declared.kinds.EntryKind.TheVariants as entries
use Rattle.cdf_edits.proofs.Edits.ChainKinds.{chain_has, chain_in}
use Rattle.cdf_edits.proofs.Edits.ChainOwners.{rechained, gone_free, gone_unowned, traded_member}
use Rattle.cdf_edits.proofs.Edits.ChainSpliced.{Rechains, adr_in, adr_typed, adr_start, entry_stays, there, now_is, sound_rechained}
use Rattle.cdf_edits.proofs.Edits.Composing.{head_size, head_type}
use Rattle.cdf_edits.proofs.Edits.MarkLemmas.{the_one}
use Rattle.cdf_edits.proofs.Edits.OneChain.{Settled}
use Rattle.cdf_edits.proofs.Edits.OwnedOnce.{used_times, IsSorted}
use Rattle.cdf_edits.proofs.Edits.RecordFrame.{field_clear}
use Rattle.cdf_edits.proofs.Edits.StepEdits.{fixed_long}
use Rattle.cdf_edits.proofs.Frame.Meaning.{Kept, KeptButLink, late_type, late_size}
use Rattle.cdf_edits.proofs.Space.UsedRecords.{apart}
use Rattle.cdf_edits.proofs.Edits.FreedRecord.{FreesRecord, IsPlain}
use Rattle.cdf_edits.proofs.Edits.FreedRecord as of_one

-- ---- by the kind

pub record GiveTests (kind : EntryKind) (list : List ℕ) (old size : ℕ) : Type 0 where
  pub start : avoided (giving_marks list (entry_type kind) old size) adr_type 0 12 ≡ true
  pub head : avoided (giving_marks list (entry_type kind) old size) adr_type (head_field kind).place ((head_field kind).place + (head_field kind).width) ≡ true
  pub count : avoided (giving_marks list (entry_type kind) old size) adr_type (count_field kind).place ((count_field kind).place + (count_field kind).width) ≡ true
  pub plain : IsPlain (entry_type kind)
  pub head_fits : (head_field kind).place + (head_field kind).width ≤ 324

pub give_tests : (kind : EntryKind) (list : List ℕ) (old size : ℕ) → GiveTests kind list old size
give_tests entries.G list old size = record { start = refl; head = refl; count = refl; plain = record { no_gdr = apart 5 gdr_type refl; no_uir = apart 5 uir_type refl }; head_fits = omega arith }
give_tests entries.R list old size = record { start = refl; head = refl; count = refl; plain = record { no_gdr = apart 5 gdr_type refl; no_uir = apart 5 uir_type refl }; head_fits = omega arith }
give_tests entries.Z list old size = record { start = refl; head = refl; count = refl; plain = record { no_gdr = apart 9 gdr_type refl; no_uir = apart 9 uir_type refl }; head_fits = omega arith }

-- freeing leaves the greatest number as well
greatest_given : (kind : EntryKind) (list : List ℕ) (old size : ℕ) → avoided (giving_marks list (entry_type kind) old size) adr_type (max_field kind).place ((max_field kind).place + (max_field kind).width) ≡ true
greatest_given entries.G list old size = refl
greatest_given entries.R list old size = refl
greatest_given entries.Z list old size = refl

Confined-more : (ks : List Mark) (types own own' : List ℕ) → ((m : ℕ) → In m own → In m own') → Confined ks types own → Confined ks types own'
Confined-more [] types own own' sub c = tt
Confined-more (k ∷ ks) types own own' sub c = (elim c.0 [ inl f ↦ inl f | inr f ↦ inr (λ m l. sub m (f m l)) ], Confined-more ks types own own' sub c.1)

Confined-append : (ks ls : List Mark) (types own : List ℕ) → Confined ks types own → Confined ls types own → Confined (ks ++ ls) types own
Confined-append [] ls types own c d = d
Confined-append (k ∷ ks) ls types own c d = (c.0, Confined-append ks ls types own c.1 d)

give_confined : (kind : EntryKind) (list : List ℕ) (old size : ℕ) (own : List ℕ) → In old own → Confined (giving_marks list (entry_type kind) old size) attribute_types own
give_confined kind list old size own i = (inl refl, (inl refl, (inr (λ m j. elim j [ inl q ↦ subst (λ (x : ℕ). In x own) (sym q) i | inr none ↦ absurd none ]), tt)))

-- ---- from an image in which the entry is in use, and owned by nobody

-- what the image is to have
pub record Frees (b late : List ℕ) (records list : List ℕ) (marks : List Mark) (reborn : List ℕ) (kind : EntryKind) (before : List AttributeShape) (own : AttributeShape) (after : List AttributeShape) (chain' come : List ℕ) (old need : ℕ) (acts : List Act) : Type 0 where
  pub rechains : Rechains b late (shape b) records list marks reborn kind before own after chain' (old ∷ []) come
  pub member : In old (chain_of own kind)
  pub lives : KeptButLink b late old
  pub out : In old reborn → ⊥
  pub reborn_in : (m : ℕ) → In m reborn → In m records
  pub come_in : (m : ℕ) → In m come → In m reborn
  pub fit : (m : ℕ) → In m come → EntryFits late m
  pub sorted : (m : ℕ) → In m reborn → (type_at late m ≢ uir_type) × (used_times (rechained (shape b) records list before own after kind chain' (old ∷ []) come rechains.was rechains.trades) m ≡ 1)
  pub clear : keeps_but_chain (marks ++ giving_marks list (entry_type kind) old (size_at late old)) kind ≡ true
  pub gdr_within : within (marks ++ giving_marks list (entry_type kind) old (size_at late old)) gdr_type space_fields ≡ true
  pub adr_within : within (marks ++ giving_marks list (entry_type kind) old (size_at late old)) adr_type (chain_fields kind) ≡ true
  pub longest : length late ≤ length b + need
  pub takes_within : sum (map (λ take. take.1) (taken (acts ++ Gave old (size_at b old) ∷ []))) ≤ need
  pub acts_follow : ActsFollow b late acts
  pub listed : (m : ℕ) → In m (shape b).unused → is_taken b (acts ++ Gave old (size_at b old) ∷ []) m ≡ false → Avoids marks uir_type m 0 12 × Within marks uir_type m (uir_next_uir ∷ uir_prev_uir ∷ [])
  pub unlisted : (m : ℕ) → In m (shape b).records → (In m (shape b).unused → ⊥) → Away marks uir_type m × (In m list → ⊥)

module _ {b late : List ℕ} {records list : List ℕ} {marks : List Mark} {reborn : List ℕ} {kind : EntryKind} {before : List AttributeShape} {own : AttributeShape} {after : List AttributeShape} {chain' come : List ℕ} {old need : ℕ} {acts : List Act} (sound : IsSound b (shape b)) (f : Frees b late records list marks reborn kind before own after chain' come old need acts) where
  r : Rechains b late (shape b) records list marks reborn kind before own after chain' (old ∷ []) come
  r = f.rechains

  abbrev s : Shape
  s = shape b

  abbrev made : Shape
  made = rechained s records list before own after kind chain' (old ∷ []) come f.rechains.was f.rechains.trades

  late_is : shape late ≡ made
  late_is = now_is sound r

  abbrev size : ℕ
  size = size_at late old

  old_ok : In old s.records × (type_at b old ≡ entry_type kind)
  old_ok = let ok = (chain_has kind own (there sound r).1.0.have.0).linkable old f.member in (linkable-in b s.records (entry_type kind) old ok, linkable-type b s.records (entry_type kind) old ok)

  pub old_size : size_at late old ≡ size_at b old
  old_size = late_size b late old f.lives

  old_typed : type_at late old ≡ entry_type kind
  old_typed = late_type b late old f.lives ∙ old_ok.1

  pub old_in : In old records
  old_in = r.edit.sub old old_ok.0

  not_come : In old come → ⊥
  not_come i = f.out (f.come_in old i)

  none_come : (m : ℕ) → (In m reborn → ⊥) → times m come ≡ 0
  none_come m out = times-none m come (λ i. out (f.come_in m i))

  others : (m : ℕ) → In m chain' → m ≢ old
  others m i q = elim (traded_member (chain_of own kind) chain' (old ∷ []) come (chain_has kind own (there sound r).1.0.have.0).once r.trades m i) [ inl j ↦ not_come (subst (λ (x : ℕ). In x come) q j) | inr x ↦ x.1 (inl q) ]

  -- the image is sound, and it may be freed
  sound_made : IsSound late made
  sound_made = sound_rechained sound r
      (fit chain' (λ m i. elim (traded_member (chain_of own kind) chain' (old ∷ []) come (chain_has kind own (there sound r).1.0.have.0).once r.trades m i) [ inl j ↦ f.fit m j | inr x ↦ (entry_stays sound r m x.0 x.1).fits ]))
      (λ m out. let none = none_come m out in omega arith) (λ m i. inl ((f.sorted m i).0, (let one = (f.sorted m i).1 in omega arith)))
    where
      fit : (es : List ℕ) → ((m : ℕ) → In m es → EntryFits late m) → Each (EntryFits late) es
      fit [] each = tt
      fit (m ∷ es) each = (each m (inl refl), fit es (λ x i. each x (inr i)))

  pub sound_late : IsSound late (shape late)
  sound_late = subst (IsSound late) (sym late_is) sound_made

  pub old_stands : In old (shape late).records
  old_stands = subst (In old) (sym (ap (λ (x : Shape). x.records) late_is)) old_in

  used : type_at late old ≢ uir_type
  used u = (give_tests kind list old 0).plain.no_uir (sym old_typed ∙ u)

  pub old_free : times old (owned_records late (shape late)) ≡ 0
  old_free = subst (λ (x : Shape). times old (owned_records late x) ≡ 0) (sym late_is) (gone_free b s sound records list before own after kind chain' come old r.was r.trades not_come late r.edit.tiled_now used)

  g : GiveTests kind list old size
  g = give_tests kind list old size

  abbrev pub given_marks : List Mark
  given_marks = giving_marks list (entry_type kind) old size

  abbrev pub all_marks : List Mark
  all_marks = marks ++ given_marks

  -- ---- once it is freed

  module _ {now : List ℕ} (frees : Gives late now (shape late) (shape now) old) where
    one : FreesRecord b late now made marks reborn old (entry_type kind)
    one = record { sound = sound; edit = r.edit; late_sound = sound_late; late_is = late_is; inside = old_ok.0; typed = old_typed; used = g.plain.no_uir; other = λ q. absurd (g.plain.no_gdr q); size_is = old_size; frees = frees }

    pub freed_type : type_at now old ≡ uir_type
    freed_type = of_one.freed_type one

    -- another record of the type stays
    pub other_kept : (m : ℕ) → In m records → m ≢ old → type_at late m ≡ entry_type kind → Kept late now m
    other_kept m i ne t = of_one.other_kept one (entry_type kind) m g.plain t i ne

    pub as_long_now : length now ≡ length late
    as_long_now = of_one.as_long_now one

    -- ---- the ADR and the chain

    adr_long : 324 ≤ size_at b own.adr
    adr_long = fixed_long b s sound.has_shape adr_type own.adr (adr_in sound r) (adr_typed sound r)

    adr_part : Same b late (own.adr + 0) (own.adr + 12)
    adr_part = let l = adr_long in r.edit.part own.adr adr_type 0 12 (adr_in sound r) (adr_typed sound r) (adr_start sound r) (adr_start sound r) (omega arith)

    adr_field : (fd : Field) → avoided given_marks adr_type fd.place (fd.place + fd.width) ≡ true → fd.place + fd.width ≤ 324 → number now own.adr fd ≡ number late own.adr fd
    adr_field fd clear fits = field_clear (of_one.given one) own.adr adr_type fd (r.edit.sub own.adr (adr_in sound r)) (head_type b late own.adr adr_part ∙ adr_typed sound r) g.start clear (let l = adr_long in let e = head_size b late own.adr adr_part in omega arith)

    pub count_same : (count_field kind).place + (count_field kind).width ≤ 324 → number now own.adr (count_field kind) ≡ number late own.adr (count_field kind)
    count_same fits = adr_field (count_field kind) g.count fits

    pub greatest_same : (max_field kind).place + (max_field kind).width ≤ 324 → number now own.adr (max_field kind) ≡ number late own.adr (max_field kind)
    greatest_same fits = adr_field (max_field kind) (greatest_given kind list old size) fits

    pub freed_rechains : Rechains b now s records (shape now).unused all_marks (reborn ++ old ∷ []) kind before own after chain' (old ∷ []) come
    freed_rechains = record {
      edit = of_one.freed_edit one;
      was = r.was;
      clear = f.clear;
      confined = Confined-append marks given_marks attribute_types ((reborn ++ old ∷ []) ++ attribute_records own)
          (Confined-more marks attribute_types (reborn ++ attribute_records own) ((reborn ++ old ∷ []) ++ attribute_records own) more r.confined)
          (give_confined kind list old size ((reborn ++ old ∷ []) ++ attribute_records own) (In-append_right old (reborn ++ old ∷ []) (attribute_records own) (inr (chain_in kind own old f.member))));
      fresh = λ m i typed stands. elim (In-append m reborn (old ∷ []) i) [
        | inl j ↦ r.fresh m j typed stands
        | inr j ↦ subst (λ (x : ℕ). In x (attribute_records own)) (sym (the_one old m j)) (inr (chain_in kind own old f.member))
      ];
      typed = of_one.freed_each one (λ (m : ℕ). (is_record_type (type_at now m) ≡ true) × (fixed_size (type_at now m) ≤ size_at now m)) f.reborn_in f.out (λ m i type size. rw (type, size) (r.typed m i)) (of_one.freed_real one);
      chain_now = of_one.other_chain one (entry_type kind) _ _ chain' g.plain r.chain_now (adr_field (head_field kind) g.head g.head_fits) others;
      unused_chain = of_one.freed_list one;
      trades = r.trades;
      live = λ m i out.
          let k = r.live m i out in
          let ok = (chain_has kind own (there sound r).1.0.have.0).linkable m i in
          of_one.other_links one (entry_type kind) m g.plain (linkable-type b s.records (entry_type kind) m ok) (linkable-in b s.records (entry_type kind) m ok) (λ q. out (inl q)) k;
    }
      where
        more : (m : ℕ) → In m (reborn ++ attribute_records own) → In m ((reborn ++ old ∷ []) ++ attribute_records own)
        more m i = elim (In-append m reborn (attribute_records own) i) [
          | inl j ↦ In-append_left m (reborn ++ old ∷ []) (attribute_records own) (In-append_left m reborn (old ∷ []) j)
          | inr j ↦ In-append_right m (reborn ++ old ∷ []) (attribute_records own) j
        ]

    -- ---- who owns it

    pub unowned_now : used_times made old ≡ 0
    unowned_now = gone_unowned b s sound records list before own after kind chain' come old f.rechains.was f.rechains.trades not_come

    freed_sorted : (m : ℕ) → In m (reborn ++ old ∷ []) → IsSorted now (rechained s records (shape now).unused before own after kind chain' (old ∷ []) come f.rechains.was f.rechains.trades) m
    freed_sorted = of_one.freed_each one (IsSorted now (rechained s records (shape now).unused before own after kind chain' (old ∷ []) come f.rechains.was f.rechains.trades)) f.reborn_in f.out (λ m i type size. inl ((λ u. (f.sorted m i).0 (sym type ∙ u)), (f.sorted m i).1)) (inr (freed_type, unowned_now))

    -- ---- the acts, and what the freed one keeps

    pub freed_behind : 28 ≤ size_at b old → Same b now (old + 28) (old + size_at b old)
    freed_behind = of_one.freed_behind one f.lives

    pub freed_bytes : (before_acts : List Act) → 28 ≤ size_at b old → GivenStay b now no_fields before_acts (gave b (old ∷ []))
    freed_bytes acts = of_one.linked_bytes one acts f.lives

    pub freed_settled : eof late (shape b).gdr ≡ length late → Settled sound freed_rechains need (acts ++ Gave old (size_at b old) ∷ [])
    freed_settled ends = record {
      beside = λ m out. times-none m (old ∷ []) (λ i. out (In-append_right m reborn (old ∷ []) i)) ∙ sym (none_come m (λ i. out (In-append_left m reborn (old ∷ []) i)));
      sorted = freed_sorted;
      end = of_one.gdr_same one gdr_eof (omega arith) ∙ ends ∙ sym as_long_now;
      longest = let same = as_long_now in let l = f.longest in omega arith;
      takes_within = f.takes_within;
      acts_follow = of_one.freed_acts one f.acts_follow;
      gdr_within = f.gdr_within;
      adr_within = f.adr_within;
      unused = λ may. of_one.freed_keeps_unused one may (acts ++ Gave old (size_at b old) ∷ []) f.listed f.unlisted;
    }
