-- An entry is taken out of one chain of an attribute and freed: the image is good, all beside the chain stands, and the acts before go on.
use Rattle.cdf_edits.proofs.Common.{Act, ActsFollow, AttributeShape, Away, Distinct, EntryKind, Gave, Gives, Good, HasShape, In, IsDropped, IsSound, List, Same, Shape, Stays, [], adr_type, aedr_num, ap, ap₂, arith, attribute_of, cases_eq, chain_of, count_field, entries_chain, entries_of, entry_type, eq-eqb, eqb-false, false, field_marks, gave, gdr_type, giving_marks, good_is_sound, greatest_number, holder_type, if◌then◌else◌, image_limit, inl, inr, integer4, length, linkable-in, linkable-long, linkable-type, max_field, members_of, nat_tests, ne_eqb, next_field, next_of, number, refl, shape, size_at, size_kept, subst, sym, tile_lies, true, type_at, type_in, type_kept, uir_type, unmarked, with_chain, without, ℕ, ◌++◌, ◌+◌, ◌==◌, ◌∙◌, ◌∷◌, ◌≡◌, ◌≢◌, ◌≤◌}
use Rattle.cdf_edits.proofs.Edits.ChainEdits.{removed_keeps}
use Rattle.cdf_edits.proofs.Edits.ChainFollowed.{chain_now}
use Rattle.cdf_edits.proofs.Edits.Common.{Away-append, Kept, KeptButLink, acts_still_by, apart, chain_has, differ_before, edit_then, has_chain, kept, late_size, late_type, members_are, of_shape, same-then, the_one, there, unmarked-away, acts_gave, was_listed, link_allowed, num_in, nums}
use Rattle.cdf_edits.proofs.Edits.DroppedEntries.{link_field, numbered, takes}
use Rattle.cdf_edits.proofs.Edits.EntriesEdited.{EditsEntries, EntryEdited, stays_more, StandTests, edited, kept_stays, only_at}
use Rattle.cdf_edits.proofs.Edits.FreedEntry.{all_marks, freed_behind, freed_type, old_stands, other_kept as entry_kept, sound_late}
use Rattle.cdf_edits.proofs.Edits.LeftEntry.{LeavesChain, as_long, edit, late_is, leaving, left_acts, marks, old_ok, second, tests, third}
use Rattle.cdf_edits.proofs.Edits.TakenEntry.{f, good_now, items_left, long_now, others, r}
use Rattle.cdf_edits.specs.Space.Chains.{without as left_of}

-- ---- the chain

stays_left : (old m : ℕ) (es : List ℕ) → In m es → m ≢ old → In m (left_of old es)
stays_left old m [] i ne = absurd i
stays_left old m (e ∷ es) i ne = step e (left_of old es) i (λ j. stays_left old m es j ne)
  where
    step : (e : ℕ) (rest : List ℕ) → In m (e ∷ es) → (In m es → In m rest) → In m (if e == old then es else e ∷ rest)
    step e rest i so = grind (arith, nat_tests)

-- the records of a number
pub none_numbered : (b : List ℕ) (num : ℕ) (es : List ℕ) → (In num (nums b es) → ⊥) → numbered b num es ≡ []
none_numbered b num [] none = refl
none_numbered b num (e ∷ es) none = rw (ne_eqb (number b e aedr_num) num (λ q. none (inl (sym q)))) (none_numbered b num es (λ i. none (inr i)))

one_numbered : (b : List ℕ) (num old : ℕ) (es : List ℕ) → Distinct (nums b es) → In old es → number b old aedr_num ≡ num → numbered b num es ≡ old ∷ []
one_numbered b num old [] d i is = absurd i
one_numbered b num old (e ∷ es) d (inl q) is =
    let same : number b e aedr_num ≡ num = ap (λ (x : ℕ). number b x aedr_num) (sym q) ∙ is in
    rw (eq-eqb (number b e aedr_num) num same) (ap₂ (λ (x : ℕ) (r : List ℕ). x ∷ r) (sym q) (none_numbered b num es (λ i. d.0 (subst (λ (n : ℕ). In n (nums b es)) (sym same) i))))
one_numbered b num old (e ∷ es) d (inr i) is =
    let ne : number b e aedr_num ≢ num = λ q. d.0 (subst (λ (n : ℕ). In n (nums b es)) (is ∙ sym q) (num_in b es old i)) in
    rw (ne_eqb (number b e aedr_num) num ne) (one_numbered b num old es d.1 i is)

-- ---- the marks, by the kind

taken_tests : (kind : EntryKind) (adr : ℕ) (members list : List ℕ) (old size : ℕ) → StandTests (leaving kind adr members ++ giving_marks list (entry_type kind) old size) kind
taken_tests kind adr members list old size = grind arith

-- the holder of the chain is no member, and later edits leave the members
no_holder : (kind : EntryKind) (adr : ℕ) → (type_in (entries_chain kind adr) ≢ holder_type (entries_chain kind adr)) × (unmarked (field_marks adr_type adr (count_field kind) ++ field_marks adr_type adr (max_field kind)) (entry_type kind) ≡ true)
no_holder kind adr = grind arith

kept_then : (b mid now : List ℕ) (m : ℕ) → Kept b mid m → size_at mid m ≡ size_at b m → Kept mid now m → Kept b now m
kept_then b mid now m one size two = record { same = same-then b mid now m (m + size_at b m) one.same (subst (λ (n : ℕ). Same mid now m (m + n)) size two.same); inside = one.inside; long = one.long }

-- ---- the image

module _ {b late now : List ℕ} {kind : EntryKind} {before : List AttributeShape} {own : AttributeShape} {after : List AttributeShape} {old : ℕ} (good : Good b) (q : LeavesChain b late kind before own after old) (gives : Gives late now (shape late) (shape now) old) where
  sound : IsSound b (shape b)
  sound = good_is_sound b good

  -- ---- unused records

  late_used : type_at late old ≢ uir_type
  late_used u = (tests sound q).in_use (sym (old_ok sound q).1 ∙ sym (late_type b late old (f good q gives).lives) ∙ u)

  loose : (uir : ℕ) → In uir (shape b).records → type_at b uir ≡ uir_type → (In uir (shape b).unused → ⊥) → Away (all_marks sound (f good q gives)) uir_type uir × (In uir (shape now).unused → ⊥)
  loose m i typed out = (
    Away-append (marks sound q) (giving_marks (shape b).unused (entry_type kind) old (size_at late old)) uir_type m (unmarked-away (marks sound q) uir_type m (tests sound q).unused)
        ((λ e lies. apart uir_type gdr_type refl e), ((λ e lies. out lies), ((λ e lies. (tests sound q).in_use (sym e)), tt))),
    λ j. elim (was_listed sound.has_shape (left_acts sound q) (sound_late sound (f good q gives)) (old_stands sound (f good q gives)) late_used gives m j) [
      | inl e ↦ (tests sound q).in_use (sym (old_ok sound q).1 ∙ ap (type_at b) (sym e) ∙ typed)
      | inr l ↦ out (subst (In m) (ap (λ (x : Shape). x.unused) (late_is sound q)) l)
    ],
  )

  -- ---- an entry that does not lead to the one that went

  beside_kept : (m : ℕ) → In m (chain_of own kind) → next_of b m ≢ old → Kept b late m
  beside_kept m i out =
      let c = entries_chain kind own.adr in
      let has = (there sound (r good q gives)).1.0.have.0 in
      let members : chain_of own kind ≡ members_of b c = sym (members_are sound.has_shape (of_shape kind (shape b) own has)) in
      let ok = (chain_has kind own has).linkable m i in
      let one = removed_keeps b c sound q.holder (has_chain sound.has_shape (of_shape kind (shape b) own has)) q.removed (subst (In old) members q.member) (no_holder kind own.adr).0 m (subst (In m) members i) out in
      let long = linkable-long b (shape b).records (entry_type kind) m ok in
      let two = kept (edit_then (second sound q) (third sound q)) m (entry_type kind) (linkable-in b (shape b).records (entry_type kind) m ok) (type_kept b q.mid m one.same (omega arith) ∙ linkable-type b (shape b).records (entry_type kind) m ok) (no_holder kind own.adr).1 in
      kept_then b q.mid late m one (size_kept b q.mid m one.same (omega arith)) two

  -- ---- its number is the one that the items have no more

  module _ (num : ℕ) (of_old : number b old aedr_num ≡ num) where
    gone_is : numbered b num (chain_of own kind) ≡ old ∷ []
    gone_is = one_numbered b num old (chain_of own kind) (differ_before sound (r good q gives) good) q.member of_old

    -- only the link to the one that went is another
    links : (m : ℕ) → next_of b m ≡ old → link_field b num m ≡ next_field ∷ []
    links m e =
        let low = (tile_lies b 8 (length b) (shape b).records old sound.has_shape.tiled (old_ok sound q).0).low in
        rw (e, of_old, ne_eqb old 0 (λ z. absurd (omega arith)), eq-eqb num num refl) refl

    entry_left : (m : ℕ) → In m (chain_of own kind) → (number b m aedr_num == num) ≡ false → EntryEdited b now (with_chain own kind (left_of old (chain_of own kind))) kind m (link_field b num m) (number b m aedr_num)
    entry_left m i other =
        let ne : m ≢ old = λ e. eqb-false _ _ other (ap (λ (x : ℕ). number b x aedr_num) e ∙ of_old) in
        let ok = (chain_has kind own (there sound (r good q gives)).1.0.have.0).linkable m i in
        let is = linkable-in b (shape b).records (entry_type kind) m ok in
        let live : KeptButLink b now m = (r good q gives).live m i (λ j. ne (the_one old m j)) in
        record {
          member = subst (In m) (sym (chain_now kind own (left_of old (chain_of own kind)))) (stays_left old m (chain_of own kind) i ne);
          lasts = elim (cases_eq (next_of b m) old) [
            | inl e ↦ (subst (Stays b now m) (sym (links m e)) (link_allowed sound (r good q gives) m is live), late_type b now m live)
            | inr apart_ ↦
                let one = beside_kept m i apart_ in
                let some = one.long in
                let two = entry_kept sound (f good q gives) gives m is ne (type_kept b late m one.same one.long ∙ linkable-type b (shape b).records (entry_type kind) m ok) in
                let s = kept_stays good (r good q gives) m is (kept_then b late now m one (size_kept b late m one.same (omega arith)) two) in
                (stays_more (link_field b num m) s.0, s.1)
          ];
          num_is = (others good q gives m i ne).num;
        }

    dropped : 28 ≤ size_at b old → (m : ℕ) → In m (numbered b num (chain_of own kind)) → IsDropped b now m
    dropped long m i = subst (IsDropped b now) (sym (the_one old m (subst (In m) gone_is i))) (record {
      stands = (old_ok sound q).0;
      long = long;
      freed = freed_type sound (f good q gives) gives;
      behind = freed_behind sound (f good q gives) gives long;
    })

    -- acts that led to the image lead on
    acts_on : (first : List ℕ) (acts : List Act) → HasShape first (shape first) → ActsFollow first b acts → ActsFollow first now (acts ++ gave b (numbered b num (chain_of own kind)))
    acts_on first acts was so_far =
        let same = late_is sound q in
        let still = acts_still_by sound so_far (edit sound q) (tests sound q).unused (ap (λ (x : Shape). x.records) same) (ap (λ (x : Shape). x.unused) same) (as_long sound q) in
        subst (λ (es : List ℕ). ActsFollow first now (acts ++ gave b es)) (sym gone_is) (subst (λ (n : ℕ). ActsFollow first now (acts ++ Gave old n ∷ [])) (late_size b late old (f good q gives).lives) (acts_gave was still (sound_late sound (f good q gives)) (old_stands sound (f good q gives)) late_used gives))

    pub taken : number late own.adr (count_field kind) + 1 ≡ number b own.adr (count_field kind) → length b ≤ image_limit → 28 ≤ size_at b old → (takes b num kind own).writes ≡ true → integer4 now own.adr (max_field kind) ≡ greatest_number (without num num (entries_of (attribute_of b own) kind)) → EditsEntries b now kind (only_at (length before) (takes b num kind)) (numbered b num (chain_of own kind))
    taken counted limited long writes greatest =
        edited good (r good q gives) (taken_tests kind own.adr (members_of b (entries_chain kind own.adr)) (shape b).unused old (size_at late old)) (good_now good q gives counted limited) (long_now good q gives) loose (takes b num kind) refl refl (items_left good q gives num of_old) writes greatest entry_left acts_on (dropped long)
