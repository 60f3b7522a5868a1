-- An edit after which one chain of entries of an attribute is another: the image has its shape and its content, and keeps the rules if the chain does.
use Rattle.cdf_edits.proofs.Common.{AreNew, AttributeShape, Avoids, Away, Confined, Each, Edit, Entry, EntryFits, EntryKind, Field, HasShape, Hold, Hold-append, Hold-split, In, In-append, IsChain, IsGoodByShape, IsSound, List, Mark, Same, Shape, [], adr_name, adr_num, adr_rows, adr_scope, adr_type, adrs, ap, arith, attribute_of, attribute_records, attribute_shape_rows, attribute_types, avoided, before_first, both, chain_of, content, count_field, differ_by_names, differ_rows, entries_rows, entry_type, fixed_size, flat_map, flat_map-append, gdr_adr_head, gdr_type, gdr_uir_head, head_field, inl, inr, is_in, is_record_type, keeps_adr, keeps_but_chain, keeps_file, keeps_other, keeps_variables, length, linkable-in, linkable-type, map, map-append, name_in, names_at, names_differ, nat_le, number, piece_kept, refl, row, same_name, shape, shape_is, size_at, subst, sym, tile_lies, times, true, type_at, uir_type, with_attribute, with_chain, with_entries, word_kept, ℕ, ◌&&◌, ◌++◌, ◌+◌, ◌==◌, ◌∙◌, ◌∷◌, ◌≡◌, ◌≤◌}
use Rattle.std.proofs.Common.{not}
use Rattle.cdf_format.specs.Content.{entries_of}
use Rattle.cdf_edits.proofs.Edits.AttributeFrame.{AreThere, lives_away, all_remain}
use Rattle.cdf_edits.proofs.Edits.ChainEntries.{EntryLives, entry_lives}
use Rattle.cdf_edits.proofs.Edits.ChainOwners.{Trades, rechained, traded, IsHeld, not_twice_kept}
use Rattle.cdf_edits.proofs.Edits.MarkLemmas.{avoided-avoids, Avoids-part, confined-away}
use Rattle.cdf_edits.proofs.Edits.OneSpliced.{content_replaced, counted, names_now, names_before}
use Rattle.cdf_edits.proofs.Edits.OwnedOnce.{used_times, IsSorted, only_owns, owned_once_if, front_in, back_in}
use Rattle.cdf_edits.proofs.Edits.RecordFrame.{AttributeLives, kept, chain_kept, chain_clear, gdr_field, file_same}
use Rattle.cdf_edits.proofs.Edits.Splice.{Splices, OwnRules, parts_there, shape_now, sound_if}
use Rattle.cdf_edits.proofs.Edits.StepEdits.{fixed_long}
use Rattle.cdf_edits.proofs.Frame.Meaning.{FileSame, Kept, KeptButLink, entries_kept, entry_fits_kept}
use Rattle.cdf_edits.proofs.Rules.OfAttributes.{entries_rows_same}
use Rattle.cdf_edits.proofs.Edits.ChainKinds.{other_of, other_type, other_head, other_count, other_has, both_have, adr_of, chain_fits, other_fits, both_fit, other_max, OtherClear, other_clear, other_lie, attribute_by, rules_split, rules_join, attribute_typed}

-- ---- one chain of an attribute is another

-- The records `gone` are no members of the chain any more, and the records `come` are new in it; each other member stays but for its link to the next one.
pub record Rechains (b now : List ℕ) (s : Shape) (new list : List ℕ) (marks : List Mark) (reborn : List ℕ) (kind : EntryKind) (before : List AttributeShape) (own : AttributeShape) (after : List AttributeShape) (chain' gone come : List ℕ) : Type 0 where
  pub edit : Edit b now s.records new marks reborn
  pub was : s.attributes ≡ before ++ own ∷ after
  pub clear : keeps_but_chain marks kind ≡ true
  pub confined : Confined marks attribute_types (reborn ++ attribute_records own)
  pub fresh : (m : ℕ) → In m reborn → is_in (type_at b m) attribute_types ≡ true → In m s.records → In m (attribute_records own)
  pub typed : (m : ℕ) → In m reborn → (is_record_type (type_at now m) ≡ true) × (fixed_size (type_at now m) ≤ size_at now m)
  pub chain_now : IsChain now new (entry_type kind) (number now own.adr (head_field kind)) chain'
  pub unused_chain : IsChain now new uir_type (number now s.gdr gdr_uir_head) list
  pub trades : Trades (chain_of own kind) chain' gone come
  pub live : (m : ℕ) → In m (chain_of own kind) → (In m gone → ⊥) → KeptButLink b now m

module _ {b now : List ℕ} {s : Shape} {new list : List ℕ} {marks : List Mark} {reborn : List ℕ} {kind : EntryKind} {before : List AttributeShape} {own : AttributeShape} {after : List AttributeShape} {chain' gone come : List ℕ} (sound : IsSound b s) (r : Rechains b now s new list marks reborn kind before own after chain' gone come) where
  e : Edit b now s.records new marks reborn
  e = r.edit

  h : HasShape b s
  h = sound.has_shape

  abbrev pub own' : AttributeShape
  own' = with_chain own kind chain'

  -- ---- the marks

  clear_parts : ((keeps_file marks ≡ true) × (keeps_variables marks ≡ true)) × ((avoided marks gdr_type 28 36 ≡ true) × (avoided marks gdr_type 48 52 ≡ true)) × (keeps_adr marks ≡ true) × (keeps_other marks kind ≡ true)
  clear_parts =
      let p = both (keeps_file marks && keeps_variables marks) ((avoided marks gdr_type 28 36 && avoided marks gdr_type 48 52) && (keeps_adr marks && keeps_other marks kind)) r.clear in
      let q = both (avoided marks gdr_type 28 36 && avoided marks gdr_type 48 52) (keeps_adr marks && keeps_other marks kind) p.1 in
      let t = both (keeps_adr marks) (keeps_other marks kind) q.1 in
      (both (keeps_file marks) (keeps_variables marks) p.0, both (avoided marks gdr_type 28 36) (avoided marks gdr_type 48 52) q.0, t.0, t.1)

  pub clear_file : keeps_file marks ≡ true
  clear_file = clear_parts.0.0

  clear_adr : (avoided marks adr_type 0 20 ≡ true) × (avoided marks adr_type 28 36 ≡ true) × (avoided marks adr_type 64 324 ≡ true)
  clear_adr =
      let p = both (avoided marks adr_type 0 20) (avoided marks adr_type 28 36 && avoided marks adr_type 64 324) clear_parts.2 in
      let q = both (avoided marks adr_type 28 36) (avoided marks adr_type 64 324) p.1 in
      (p.0, q.0, q.1)

  of_other : OtherClear marks kind
  of_other = other_clear marks kind clear_parts.3

  pub file_now : FileSame b now
  file_now = file_same sound e clear_file

  -- ---- the ADR

  pub there : AreThere b s.records before × (AreThere b s.records (own ∷ []) × AreThere b s.records after)
  there = parts_there b s sound before (own ∷ []) after r.was

  pub adr_in : In own.adr s.records
  adr_in = linkable-in b s.records adr_type own.adr there.1.0.linked.0

  pub adr_typed : type_at b own.adr ≡ adr_type
  adr_typed = linkable-type b s.records adr_type own.adr there.1.0.linked.0

  adr_long : 324 ≤ size_at b own.adr
  adr_long = fixed_long b s h adr_type own.adr adr_in adr_typed

  pub adr_start : Avoids marks adr_type own.adr 0 12
  adr_start = Avoids-part marks adr_type own.adr 0 20 0 12 (avoided-avoids marks adr_type own.adr 0 20 clear_adr.0) (omega arith) (omega arith)

  adr_part : (lo hi : ℕ) → avoided marks adr_type lo hi ≡ true → hi ≤ 324 → Same b now (own.adr + lo) (own.adr + hi)
  adr_part lo hi a fits = let l = adr_long in e.part own.adr adr_type lo hi adr_in adr_typed adr_start (avoided-avoids marks adr_type own.adr lo hi a) (omega arith)

  adr_field : (f : Field) → avoided marks adr_type f.place (f.place + f.width) ≡ true → f.place + f.width ≤ 324 → number now own.adr f ≡ number b own.adr f
  adr_field f a fits = word_kept b now (own.adr + f.place) (own.adr + (f.place + f.width)) (adr_part f.place (f.place + f.width) a fits) (own.adr + f.place) f.width (omega arith) (omega arith)

  middle : Same b now (own.adr + 28) (own.adr + 36)
  middle = adr_part 28 36 clear_adr.1 (omega arith)

  scope_same : number now own.adr adr_scope ≡ number b own.adr adr_scope
  scope_same = word_kept b now (own.adr + 28) (own.adr + 36) middle (own.adr + 28) 4 (omega arith) (omega arith)

  pub num_same : number now own.adr adr_num ≡ number b own.adr adr_num
  num_same = word_kept b now (own.adr + 28) (own.adr + 36) middle (own.adr + 32) 4 (omega arith) (omega arith)

  name_same : name_in now own.adr adr_name ≡ name_in b own.adr adr_name
  name_same =
      let long = adr_long in
      let high = (tile_lies b 8 (length b) s.records own.adr h.tiled adr_in).high in
      ap (before_first (λ (x : ℕ). x == 0)) (piece_kept b now (own.adr + 64) (own.adr + 324) (adr_part 64 324 clear_adr.2 (omega arith)) (own.adr + 68) 256 (omega arith) (omega arith) (omega arith) e.longer)

  pub other_max_same : number now own.adr (other_max kind) ≡ number b own.adr (other_max kind)
  other_max_same = adr_field (other_max kind) of_other.max (other_lie kind).2.fits

  other_count_same : number now own.adr (other_count kind) ≡ number b own.adr (other_count kind)
  other_count_same = adr_field (other_count kind) of_other.count (other_lie kind).1.fits

  -- ---- the entries

  pub other_kept : (m : ℕ) → In m (other_of own kind) → Kept b now m
  other_kept m i =
      let ok = (other_has kind own there.1.0.have.0).linkable m i in
      kept e m (other_type kind) (linkable-in b s.records (other_type kind) m ok) (linkable-type b s.records (other_type kind) m ok) of_other.entries

  pub entry_stays : (m : ℕ) → In m (chain_of own kind) → (In m gone → ⊥) → EntryLives b now m
  entry_stays m i out = entry_lives b now file_now m (r.live m i out) (each_of (chain_of own kind) m (chain_fits kind b own there.1.0.fit.0) i)
    where
      each_of : (es : List ℕ) (m : ℕ) → Each (EntryFits b) es → In m es → EntryFits b m
      each_of [] m f i = absurd i
      each_of (x ∷ es) m f (inl q) = subst (EntryFits b) (sym q) f.0
      each_of (x ∷ es) m f (inr i) = each_of es m f.1 i

  -- ---- the attributes beside it

  pub beside : (as_ : List AttributeShape) → AreThere b s.records as_ → ((m : ℕ) → In m (flat_map attribute_records as_) → In m (attribute_records own) → ⊥) → ((m : ℕ) → In m (flat_map attribute_records as_) → In m s.records) → (m : ℕ) → In m (flat_map attribute_records as_) → Away marks (type_at b m) m
  beside as_ t out sub m i =
      let typed = attribute_typed b s.records as_ t m i in
      confined-away marks attribute_types (reborn ++ attribute_records own) (type_at b m) m r.confined typed (λ j. out m i (elim (In-append m reborn (attribute_records own) j) [ inl k ↦ r.fresh m k typed (sub m i) | inr k ↦ k ]))

  pub before_in : (m : ℕ) → In m (flat_map attribute_records before) → In m s.records
  before_in = front_in b s sound before own after r.was

  pub after_in : (m : ℕ) → In m (flat_map attribute_records after) → In m s.records
  after_in = back_in b s sound before own after r.was

  pub before_away : (m : ℕ) → In m (flat_map attribute_records before) → Away marks (type_at b m) m
  before_away = beside before there.0 (λ m i j. (only_owns b s sound before own after r.was m j).in_before i) before_in

  pub after_away : (m : ℕ) → In m (flat_map attribute_records after) → Away marks (type_at b m) m
  after_away = beside after there.1.1 (λ m i j. (only_owns b s sound before own after r.was m j).in_after i) after_in

  live : Each (AttributeLives b now) before × Each (AttributeLives b now) after
  live = (lives_away sound e before there.0 before_away, lives_away sound e after there.1.1 after_away)

  -- ---- the image

  pub splices : Splices b now s new list marks reborn before (own ∷ []) (own' ∷ []) after
  splices = record {
    edit = e;
    was = r.was;
    file_clear = clear_file;
    variables_clear = clear_parts.0.1;
    before_remain = all_remain sound e file_now before there.0 live.0;
    after_remain = all_remain sound e file_now after there.1.1 live.1;
    typed = r.typed;
    attribute_chain = subst (IsChain now new adr_type (number now s.gdr gdr_adr_head)) (sym same_adrs) (chain_clear e adr_type _ _ (adrs s) h.attribute_chain (gdr_field sound e clear_file gdr_adr_head clear_parts.1.0 (omega arith)) clear_adr.0);
    unused_chain = r.unused_chain;
    own_entries = (both_have kind own chain' (subst (λ (a : ℕ). IsChain now new (entry_type kind) (number now a (head_field kind)) chain') refl r.chain_now) (chain_kept e (other_type kind) _ _ (other_of own kind) (other_has kind own there.1.0.have.0) (adr_field (other_head kind) of_other.head (other_lie kind).0.fits) other_kept), tt);
  }
    where
      same_adrs : map (λ (a : AttributeShape). a.adr) (before ++ (own' ∷ after)) ≡ adrs s
      same_adrs =
          let f = λ (a : AttributeShape). a.adr in
          map-append f before (own' ∷ after) ∙ ap (λ (x : ℕ). map f before ++ x ∷ map f after) (adr_of kind own chain') ∙ sym (map-append f before (own ∷ after)) ∙ ap (map f) (sym r.was)

  abbrev pub made : Shape
  made = rechained s new list before own after kind chain' gone come r.was r.trades

  pub now_is : shape now ≡ made
  now_is = shape_is now made (shape_now sound splices)

  pub attribute_now : (items : List (ℕ × Entry)) → entries_of now chain' ≡ items → attribute_of now own' ≡ with_entries (attribute_of b own) kind items
  attribute_now items is = attribute_by b now kind own chain' items name_same scope_same (entries_kept b now file_now (other_of own kind) other_kept (other_fits kind b own there.1.0.fit.0)) is

  pub content_rechained : (items : List (ℕ × Entry)) → entries_of now chain' ≡ items → content now ≡ with_attribute (content b) (length before) (with_entries (attribute_of b own) kind items)
  content_rechained items is = content_replaced sound splices ∙ ap (with_attribute (content b) (length before)) (attribute_now items is)

  -- ---- the rules

  pub own_before : IsGoodByShape b s → Hold (attribute_shape_rows b own)
  own_before good =
      let p = Hold-split (flat_map (attribute_shape_rows b) s.attributes) (differ_rows 2 (same_name b adr_name) [] (adrs s)) good.attributes in
      let q = (Hold-split (flat_map (attribute_shape_rows b) before) (flat_map (attribute_shape_rows b) (own ∷ after)) (subst Hold (flat_map-append (attribute_shape_rows b) before (own ∷ after)) (subst (λ (as_ : List AttributeShape). Hold (flat_map (attribute_shape_rows b) as_)) r.was p.0))).1 in
      (Hold-split (attribute_shape_rows b own) (flat_map (attribute_shape_rows b) after) q).0

  pub chain_rules_before : IsGoodByShape b s → Hold (entries_rows b own.adr (count_field kind) (chain_of own kind))
  chain_rules_before good = (rules_split b kind own (own_before good)).1

  own_now : IsGoodByShape b s → Hold (entries_rows now own.adr (count_field kind) chain') → Hold (attribute_shape_rows now own')
  own_now good rules =
      let old = rules_split b kind own (own_before good) in
      let name = name_same in
      let scope = scope_same in
      let first : adr_rows now own.adr ≡ adr_rows b own.adr = λ i. row 1 own.adr (not (length (name i) == 0)) ∷ row 3 own.adr (nat_le 1 (scope i) && nat_le (scope i) 4) ∷ [] in
      let other = entries_rows_same b now own.adr (other_count kind) (other_of own kind) num_same other_count_same other_kept (other_fits kind b own there.1.0.fit.0) in
      rules_join now kind own chain' (subst Hold (sym first) old.0) rules (subst Hold (sym other) old.2)

  same_owners : (m : ℕ) → times m gone ≡ times m come → used_times made m ≡ used_times s m
  same_owners m same = same_sums (used_times made m) (used_times s m) (times m gone) (times m come) (traded s new list before own after kind chain' gone come r.was r.trades m) same
    where
      same_sums : (u' u g h : ℕ) → u' + g ≡ u + h → g ≡ h → u' ≡ u
      same_sums u' u g h p q = omega arith

  -- each record has the owner that it had, but for the reborn ones
  pub rules_rechained : IsGoodByShape b s → Hold (entries_rows now own.adr (count_field kind) chain') → ((m : ℕ) → (In m reborn → ⊥) → times m gone ≡ times m come) → ((m : ℕ) → In m reborn → IsSorted now made m) → OwnRules sound splices
  rules_rechained good rules beside_same sorted =
      let p = Hold-split (flat_map (attribute_shape_rows b) s.attributes) (differ_rows 2 (same_name b adr_name) [] (adrs s)) good.attributes in
      let own_name : name_in now own'.adr adr_name ≡ name_in b own.adr adr_name = ap (λ (a : ℕ). name_in now a adr_name) (adr_of kind own chain') ∙ name_same in
      let names = names_now sound splices ∙ ap (λ (n : List ℕ). names_at b adr_name (map (λ (a : AttributeShape). a.adr) before) ++ n ∷ names_at b adr_name (map (λ (a : AttributeShape). a.adr) after)) own_name ∙ sym (names_before sound splices) in
      record {
        counted = counted sound splices (adr_of kind own chain') num_same live good clear_parts.1.1;
        own_rules = Hold-append (attribute_shape_rows now own') [] (own_now good rules) tt;
        differ = differ_by_names 2 now adr_name _ (subst (AreNew []) (sym names) (names_differ 2 b adr_name (adrs s) p.1));
        owned = owned_once_if b now s made marks reborn sound good.owned_once e (λ m out. same_owners m (beside_same m out)) sorted;
      }

  -- and no more have come than went
  pub sound_rechained : Each (EntryFits now) chain' → ((m : ℕ) → (In m reborn → ⊥) → times m come ≤ times m gone) → ((m : ℕ) → In m reborn → IsHeld now made m) → IsSound now made
  sound_rechained fits fewer held = sound_if sound splices
      (both_fit kind now own chain' fits (others (other_of own kind) other_kept (other_fits kind b own there.1.0.fit.0)), tt)
      (not_twice_kept b now s made marks reborn sound e (λ m out. no_more (used_times made m) (used_times s m) (times m gone) (times m come) (traded s new list before own after kind chain' gone come r.was r.trades m) (fewer m out)) held)
    where
      no_more : (u' u g h : ℕ) → u' + g ≡ u + h → h ≤ g → u' ≤ u
      no_more u' u g h p q = omega arith

      others : (es : List ℕ) → ((m : ℕ) → In m es → Kept b now m) → Each (EntryFits b) es → Each (EntryFits now) es
      others [] k f = tt
      others (m ∷ es) k f = (entry_fits_kept b now file_now m (k m (inl refl)) f.0, others es (λ x i. k x (inr i)) f.1)
