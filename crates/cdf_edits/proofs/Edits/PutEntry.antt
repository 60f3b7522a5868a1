-- An entry is put into a chain of an attribute: made and linked, behind the last one or in the place of another one, or changed in its place; then the greatest number is written.
use Rattle.cdf_edits.proofs.Common.{Added, AttributeShape, Confined, EntryFits, EntryKind, Exchanged, FitsSigned, In, IsSound, Joined, List, Mark, Same, Took, [], adding_marks, adr_type, ap, arith, attribute_records, attribute_types, avoided, cases_eq, cast_unsigned, chain_fields, chain_of, count_field, counted_in, ended, entries_chain, entry_type, eq-eqb, field, field_marks, gdr_type, giving_marks, inl, inr, integer4, is_in, is_late, keeps_but_chain, length, length-put, making_marks, max_field, members_of, ne_eqb, number, put, refl, shape, size_at, space_fields, subst, sym, tile_lies, times, times-none, true, true≢false, type_at, type_of_body, uir_type, w32, with_in_place, within, ℕ, ℤ, ◌++◌, ◌+◌, ◌∙◌, ◌∷◌, ◌≡◌, ◌≢◌, ◌≤◌}
use Rattle.cdf_model.specs.declared.kinds.EntryKind.TheVariants as entries
use Rattle.cdf_edits.proofs.Edits.ChainKept.{records_are, list_is}
use Rattle.cdf_edits.proofs.Edits.ChainKinds.{chain_in}
use Rattle.cdf_edits.proofs.Edits.ChainMembers.{IsAmong, member, member_kept, members_chain}
use Rattle.cdf_edits.proofs.Edits.ChainOwners.{Trades, pushed_trades, replaced_trades, traded}
use Rattle.cdf_edits.proofs.Edits.ChainSpliced.{Rechains, made}
use Rattle.cdf_edits.proofs.Edits.Composing.{edit_then}
use Rattle.cdf_edits.proofs.Edits.EntryFields.{MaxWritten, as_chain, as_count, max_chain, max_count, max_edit, max_integer, max_long, only, with_first}
use Rattle.cdf_edits.proofs.Edits.WrittenEntries.{WritesChain}
use Rattle.cdf_edits.proofs.Edits.FieldWritten.{Stands, still_stands}
use Rattle.cdf_edits.proofs.Edits.FreedEntry.{Frees}
use Rattle.cdf_edits.proofs.Edits.JoinedRecord.{IsJoined, acts_then, edit, ends, fills, list, longest, marks, new_in, new_once, new_part, new_typed, records, unused_chain, unused_kept}
use Rattle.cdf_edits.proofs.Edits.MadeRecord.{filled_edit, fresh, listed_before, listed_marks, loose_away}
use Rattle.cdf_edits.proofs.Edits.MarkLemmas.{avoided-avoids, ended-avoids, the_one}
use Rattle.cdf_edits.proofs.Edits.OneChain.{Settled}
use Rattle.cdf_edits.proofs.Edits.OwnedOnce.{used_times}
use Rattle.cdf_edits.proofs.Edits.Splice.{adr_stands}
use Rattle.cdf_edits.proofs.Edits.StepEdits.{field_edit}
use Rattle.cdf_edits.proofs.Frame.ChangedBytes.{changed_put}
use Rattle.cdf_edits.proofs.Frame.Meaning.{KeptButLink}

-- one takes its own place
pub in_its_place : (old : ℕ) (es : List ℕ) → with_in_place old old es ≡ es
in_its_place old [] = refl
in_its_place old (e ∷ es) = elim (cases_eq e old) [ inl q ↦ rw (eq-eqb e old q) (ap (λ (x : ℕ). x ∷ es) (sym q)) | inr ne ↦ rw (ne_eqb e old ne) (ap (λ (x : List ℕ). e ∷ x) (in_its_place old es)) ]

-- ---- the marks

-- it is linked and counted, and the greatest number is written
abbrev pub joining : List ℕ → EntryKind → ℕ → ℕ → List Mark
joining b kind adr place = adding_marks b (entries_chain kind adr) place ++ field_marks adr_type adr (max_field kind)

pub record JoinTests (b unused : List ℕ) (adr place need : ℕ) (kind : EntryKind) : Type 0 where
  pub late : is_late (joining b kind adr place) (entry_type kind) ≡ true
  pub linked : avoided (adding_marks b (entries_chain kind adr) place) adr_type 0 12 ≡ true
  pub clear : keeps_but_chain (making_marks unused place need (joining b kind adr place)) kind ≡ true
  pub gdr_within : within (making_marks unused place need (joining b kind adr place)) gdr_type space_fields ≡ true
  pub adr_within : within (making_marks unused place need (joining b kind adr place)) adr_type (chain_fields kind) ≡ true
  pub start : avoided (making_marks unused place need (joining b kind adr place)) (entry_type kind) 0 12 ≡ true
  pub rest : ended (making_marks unused place need (joining b kind adr place)) (entry_type kind) 20 ≡ true
  pub value : (hi : ℕ) → avoided (joining b kind adr place) (entry_type kind) 20 hi ≡ true
  pub confined : (own : List ℕ) → In place own → In adr own → ((m : ℕ) → In m (members_of b (entries_chain kind adr)) → In m own) → Confined (making_marks unused place need (joining b kind adr place)) attribute_types own
  pub freed : (list : List ℕ) (old size : ℕ) → (keeps_but_chain (making_marks unused place need (joining b kind adr place) ++ giving_marks list (entry_type kind) old size) kind ≡ true) × (within (making_marks unused place need (joining b kind adr place) ++ giving_marks list (entry_type kind) old size) gdr_type space_fields ≡ true)
      × (within (making_marks unused place need (joining b kind adr place) ++ giving_marks list (entry_type kind) old size) adr_type (chain_fields kind) ≡ true)

join_tests : (b unused : List ℕ) (adr place need : ℕ) (kind : EntryKind) → JoinTests b unused adr place need kind
join_tests b unused adr place need entries.Z = record { late = refl; linked = refl; clear = refl; gdr_within = refl; adr_within = refl; start = refl; rest = refl; value = λ hi. refl; confined = λ own p a ms. (inl refl, (inl refl, (inl refl, (inl refl, (inl refl, (inl refl, (inr (only own adr a), (inr (with_first own place _ p ms), (inr (only own adr a), (inr (only own adr a), tt)))))))))); freed = λ list old size. (refl, refl, refl) }
join_tests b unused adr place need other = record { late = refl; linked = refl; clear = refl; gdr_within = refl; adr_within = refl; start = refl; rest = refl; value = λ hi. refl; confined = λ own p a ms. (inl refl, (inl refl, (inl refl, (inl refl, (inl refl, (inl refl, (inr (only own adr a), (inr (with_first own place _ p ms), (inr (only own adr a), (inr (only own adr a), tt)))))))))); freed = λ list old size. (refl, refl, refl) }

-- ---- the images

-- a record with these bytes behind its size joined the chain of a kind, some members of which are gone, and its greatest number is this one
pub record JoinsEntry (b now : List ℕ) (kind : EntryKind) (own : AttributeShape) (need : ℕ) (body : List ℕ) (place : ℕ) (chain' gone : List ℕ) (count : ℕ) : Type 0 where
  pub mid : List ℕ
  pub joined : Joined b mid (entries_chain kind own.adr) body place chain' count
  pub typed : type_of_body body ≡ entry_type kind
  pub wide : 8 + length body ≡ need
  pub trades : Trades (chain_of own kind) chain' gone (place ∷ [])
  pub greatest : ℕ
  pub written : MaxWritten mid now kind own.adr greatest

module _ {b : List ℕ} {before : List AttributeShape} {own : AttributeShape} {after : List AttributeShape} (kind : EntryKind) (sound : IsSound b (shape b)) (at : IsAmong b before own after) where
  module _ {now body : List ℕ} {place need greatest : ℕ} (typed : type_of_body body ≡ entry_type kind) (wide : 8 + length body ≡ need) {mid : List ℕ} (written : MaxWritten mid now kind own.adr greatest) where
    -- it is the last one
    abbrev pub pushes : Added b mid (entries_chain kind own.adr) body place → JoinsEntry b now kind own need body place (chain_of own kind ++ place ∷ []) [] (counted_in b (entries_chain kind own.adr) + 1)
    pushes added = record { mid = mid; joined = subst (λ (ms : List ℕ). Joined b mid (entries_chain kind own.adr) body place (ms ++ place ∷ []) (counted_in b (entries_chain kind own.adr) + 1)) (members_chain kind sound at) added; typed = typed; wide = wide; trades = pushed_trades (chain_of own kind) place; greatest = greatest; written = written }

    -- it took the place of a member
    abbrev pub exchanges : {old : ℕ} → In old (chain_of own kind) → Exchanged b mid (entries_chain kind own.adr) body old place → JoinsEntry b now kind own need body place (with_in_place old place (chain_of own kind)) (old ∷ []) (counted_in b (entries_chain kind own.adr))
    exchanges {old = old} there exchanged = record { mid = mid; joined = subst (λ (ms : List ℕ). Joined b mid (entries_chain kind own.adr) body place (with_in_place old place ms) (counted_in b (entries_chain kind own.adr))) (members_chain kind sound at) exchanged; typed = typed; wide = wide; trades = replaced_trades (chain_of own kind) old place there; greatest = greatest; written = written }

  -- ---- it joined the chain

  module _ {now body : List ℕ} {place need : ℕ} {chain' gone : List ℕ} {count : ℕ} (p : JoinsEntry b now kind own need body place chain' gone count) where
    pub t : JoinTests b (shape b).unused own.adr place need kind
    t = join_tests b (shape b).unused own.adr place need kind

    pub mid_adr : Stands p.mid (shape p.joined.filled).records own.adr adr_type 324
    mid_adr = still_stands p.joined.linked (still_stands (filled_edit sound p.joined.placed.fills) (adr_stands sound before own after at.was) refl (omega arith)) t.linked (omega arith)

    abbrev pub new_record : IsJoined b now (entry_type kind) need body place (joining b kind own.adr place)
    new_record = record {
      filled = p.joined.filled;
      placed = p.joined.placed;
      typed = p.typed;
      wide = p.wide;
      later = edit_then p.joined.linked (max_edit p.joined.linked.tiled_now mid_adr p.written);
      long = max_long p.joined.linked.tiled_now mid_adr p.written ∙ p.joined.as_long;
      lately = t.late;
    }

    -- what follows its links is as it was written
    pub new_value : (hi : ℕ) → hi ≤ need → Same p.joined.filled now (place + 20) (place + hi)
    new_value hi fits = new_part sound new_record 20 hi (t.value hi) fits

    pub count_now : number now own.adr (count_field kind) ≡ count
    count_now = max_count p.joined.linked.tiled_now mid_adr p.written ∙ sym (as_count kind b p.mid own.adr) ∙ p.joined.counted

    pub greatest_now : (z : ℤ) → FitsSigned w32 z → p.greatest ≡ cast_unsigned w32 z → integer4 now own.adr (max_field kind) ≡ z
    greatest_now z fits same = max_integer p.joined.linked.tiled_now mid_adr p.written z fits same

    stays : (m : ℕ) → In m (chain_of own kind) → KeptButLink b now m
    stays m i = member_kept kind sound at (edit sound new_record) m i (avoided-avoids (marks sound new_record) (entry_type kind) m 0 12 t.start) (ended-avoids (marks sound new_record) (entry_type kind) m 20 (size_at b m) t.rest)

    pub rechains : Rechains b now (shape b) (records sound new_record) (list sound new_record) (marks sound new_record) (place ∷ []) kind before own after chain' gone (place ∷ [])
    rechains = record {
      edit = edit sound new_record;
      was = at.was;
      clear = t.clear;
      confined = t.confined (place ∷ attribute_records own) (inl refl) (inr (inl refl)) (λ m i. inr (inr (chain_in kind own m (subst (In m) (members_chain kind sound at) i))));
      fresh = λ m i typed stands. absurd (true≢false (sym typed ∙ ap (λ (type : ℕ). is_in type attribute_types) (ap (type_at b) (the_one place m i) ∙ fresh sound (fills sound new_record) (subst (λ (x : ℕ). In x (shape b).records) (the_one place m i) stands))));
      typed = new_typed sound new_record;
      chain_now = max_chain p.joined.linked.tiled_now mid_adr p.written chain' (as_chain kind b p.mid (shape p.joined.filled).records own.adr chain' p.joined.chain);
      unused_chain = unused_chain sound new_record;
      trades = p.trades;
      live = λ m i out. stays m i;
    }

    -- it is in use, and owned once
    sorted : (In place gone → ⊥) → (m : ℕ) → In m (place ∷ []) → (type_at now m ≢ uir_type) × (used_times (made sound rechains) m ≡ 1)
    sorted out = new_once sound new_record (made sound rechains) _ (traded (shape b) (records sound new_record) (list sound new_record) before own after kind chain' gone (place ∷ []) at.was p.trades place) (times-none place gone out)

    -- where no other one went, all is done
    pub settled : ((m : ℕ) → times m gone ≡ 0) → (In place gone → ⊥) → Settled sound rechains need (Took place need ∷ [])
    settled none out = record {
      beside = λ m other. none m ∙ sym (times-none m (place ∷ []) other);
      sorted = λ m i. inl (sorted out m i);
      end = ends sound new_record;
      longest = longest sound new_record;
      takes_within = omega arith;
      acts_follow = acts_then sound new_record (records_are sound rechains) (list_is sound rechains);
      gdr_within = t.gdr_within;
      adr_within = t.adr_within;
      unused = unused_kept sound new_record (records_are sound rechains);
    }

  -- the one whose place it took may be freed

  module _ {late body : List ℕ} {place old need : ℕ} {chain' : List ℕ} {count : ℕ} (p : JoinsEntry b late kind own need body place chain' (old ∷ []) count) (there : In old (chain_of own kind)) (fits : EntryFits late place) where
    pub not_old : place ≢ old
    not_old q =
        let was = member kind sound at place (subst (λ (x : ℕ). In x (chain_of own kind)) (sym q) there) in
        (fills sound (new_record p)).in_use (sym was.typed ∙ fresh sound (fills sound (new_record p)) was.inside)

    pub frees : Frees b late (records sound (new_record p)) (list sound (new_record p)) (marks sound (new_record p)) (place ∷ []) kind before own after chain' (place ∷ []) old need (Took place need ∷ [])
    frees = record {
      rechains = rechains p;
      member = there;
      lives = stays p old there;
      out = λ i. not_old (sym (the_one place old i));
      reborn_in = λ m i. subst (λ (x : ℕ). In x (records sound (new_record p))) (sym (the_one place m i)) (new_in sound (new_record p));
      come_in = λ m i. i;
      fit = λ m i. subst (EntryFits late) (sym (the_one place m i)) fits;
      sorted = sorted p (λ i. not_old (the_one old place i));
      clear = ((t p).freed (list sound (new_record p)) old (size_at late old)).0;
      gdr_within = ((t p).freed (list sound (new_record p)) old (size_at late old)).1;
      adr_within = ((t p).freed (list sound (new_record p)) old (size_at late old)).2;
      longest = longest sound (new_record p);
      takes_within = omega arith;
      acts_follow = acts_then sound (new_record p) (records_are sound (rechains p)) (list_is sound (rechains p));
      listed = λ m i free. listed_marks sound (fills sound (new_record p)) (new_record p).later (new_record p).long (t p).late (records_are sound (rechains p)) m i free;
      unlisted = λ m i o. (loose_away sound (fills sound (new_record p)) (new_record p).later (new_record p).long (t p).late m i o, (λ j. o (listed_before sound (fills sound (new_record p)) (new_record p).later (new_record p).long (t p).late m i j)));
    }

  -- ---- it is changed in its place

  -- these bytes stand behind its link, for which it has room, and the greatest number is this one
  abbrev pub changes : (fields : List ℕ) {now : List ℕ} {place greatest : ℕ} → In place (chain_of own kind) → 20 + length fields ≤ size_at b place → MaxWritten (put b (place + 20) fields) now kind own.adr greatest → WritesChain b now kind before own after (place ∷ []) (field 20 (length fields))
  changes fields {place = place} {greatest = greatest} i room written =
      let is = member kind sound at place i in
      let high = (tile_lies b 8 (length b) (shape b).records place sound.has_shape.tiled is.inside).high in
      let long : length (put b (place + 20) fields) ≡ length b = length-put b (place + 20) fields (omega arith) in
      let f = field 20 (length fields) in
      record {
        at = at;
        sub = only (chain_of own kind) place i;
        late = omega arith;
        mid = put b (place + 20) fields;
        first = field_edit b (put b (place + 20) fields) (shape b) sound.has_shape place (entry_type kind) f is.inside is.typed room (omega arith) (changed_put b place 20 (length fields) fields refl (omega arith)) long;
        long = long;
        greatest = greatest;
        written = written;
      }
