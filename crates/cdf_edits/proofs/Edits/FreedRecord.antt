-- A record that an edit left in use, and no owner has, is freed: what the image is then.
use Rattle.cdf_edits.proofs.Common.{Act, ActsFollow, AllKeep, Allowances, AreTiles, Avoids, Away, Edit, Field, Gave, GivenStay, Gives, HasShape, In, In-append, IsChain, IsSound, List, Mark, Same, Same-part, Shape, Unused, Within, [], ap, arith, false, fixed_size, gave, gdr_type, gdr_uir_head, giving, giving_marks, inl, inr, is_a-type, is_record_type, is_taken, le-leb, length, links_end, no_fields, number, owned_by, refl, shape, size_at, subst, sym, true, type_at, uir_next_uir, uir_prev_uir, uir_type, unused_records, ℕ, ◌++◌, ◌+◌, ◌∙◌, ◌∷◌, ◌≡◌, ◌≢◌, ◌≤◌, ◌⊎◌}
use Rattle.cdf_edits.proofs.Edits.ActsThen.{acts_gave}
use Rattle.cdf_edits.proofs.Edits.Composing.{edit_then, same-then, sizes}
use Rattle.cdf_edits.proofs.Edits.FreedBytes.{behind_one, BytesStay, end_long, freed_stay_but}
use Rattle.cdf_edits.proofs.Edits.FreedRecords.{unused_real}
use Rattle.cdf_edits.proofs.Edits.MarkLemmas.{Avoids-append, Within-append, Away-append, away-avoids, the_one}
use Rattle.cdf_edits.proofs.Edits.OwnersKept.{keep_unused}
use Rattle.cdf_edits.proofs.Edits.RecordFrame.{chain_stays, field_avoids, kept_away}
use Rattle.cdf_edits.proofs.Edits.StepEdits.{gives_edit, all_marked, gdr_in, gdr_typed, gdr_long}
use Rattle.cdf_edits.proofs.Frame.Meaning.{Kept, KeptButLink, late_type, late_size}
use Rattle.cdf_edits.proofs.Space.UsedRecords.{apart}

pub link_then : (b mid now : List ℕ) (m : ℕ) → KeptButLink b mid m → Kept mid now m → KeptButLink b now m
link_then b mid now m k l =
    let size = late_size b mid m k in
    record {
      start = same-then b mid now (m + 0) (m + 12) k.start (Same-part mid now m (m + size_at mid m) (m + 0) (m + 12) l.same (omega arith) (let w = l.long in omega arith));
      rest = same-then b mid now (m + 20) (m + size_at b m) k.rest (Same-part mid now m (m + size_at mid m) (m + 20) (m + size_at b m) l.same (omega arith) (omega arith));
      inside = k.inside;
      long = k.long;
    }

-- the type of a record that is freed
pub record IsPlain (type : ℕ) : Type 0 where
  pub no_gdr : type ≢ gdr_type
  pub no_uir : type ≢ uir_type

-- an image before an edit, after it, and once a record of this type is freed, which is in use and not the GDR
pub record FreesRecord (b late now : List ℕ) (made : Shape) (marks : List Mark) (reborn : List ℕ) (old type : ℕ) : Type 0 where
  pub sound : IsSound b (shape b)
  pub edit : Edit b late (shape b).records made.records marks reborn
  pub late_sound : IsSound late (shape late)
  pub late_is : shape late ≡ made
  pub inside : In old (shape b).records
  pub typed : type_at late old ≡ type
  pub used : type ≢ uir_type
  pub other : type ≡ gdr_type → old ≢ made.gdr
  pub size_is : size_at late old ≡ size_at b old
  pub frees : Gives late now (shape late) (shape now) old

module _ {b late now : List ℕ} {made : Shape} {marks : List Mark} {reborn : List ℕ} {old type : ℕ} (f : FreesRecord b late now made marks reborn old type) where
  abbrev size : ℕ
  size = size_at late old

  h_late : HasShape late made
  h_late = subst (HasShape late) f.late_is f.late_sound.has_shape

  pub gives : Gives late now made (shape now) old
  gives = subst (λ (x : Shape). Gives late now x (shape now) old) f.late_is f.frees

  pub old_in : In old made.records
  old_in = f.edit.sub old f.inside

  not_gdr : old ≢ made.gdr
  not_gdr q = f.other (sym f.typed ∙ ap (type_at late) q ∙ gdr_typed late made h_late) q

  abbrev pub given_marks : List Mark
  given_marks = giving_marks made.unused type old size

  pub given : Edit late now made.records made.records given_marks (old ∷ [])
  given = gives_edit late now made (shape now) old type h_late old_in f.typed gives

  pub freed_edit : Edit b now (shape b).records made.records (marks ++ given_marks) (reborn ++ old ∷ [])
  freed_edit = edit_then f.edit given

  pub same_sizes : (m : ℕ) → In m made.records → size_at now m ≡ size_at late m
  same_sizes m i = sizes late now made.records (giving made.gdr made.unused old size) given_marks (old ∷ []) h_late.tiled gives.length_is gives.changed (all_marked late now made (shape now) old type h_late old_in f.typed gives) m i

  pub same_types : (m : ℕ) → In m made.records → m ≢ old → type_at now m ≡ type_at late m
  same_types m i ne = elim (given.kind m i) [ inl j ↦ j.1 | inr j ↦ elim j [ inl new ↦ absurd (new.0 i) | inr x ↦ absurd (ne (the_one old m x)) ] ]

  pub freed_type : type_at now old ≡ uir_type
  freed_type = is_a-type now (shape now).records uir_type old gives.stands

  pub freed_real : (is_record_type (type_at now old) ≡ true) × (fixed_size (type_at now old) ≤ size_at now old)
  freed_real = unused_real now made.records old given.tiled_now old_in freed_type

  -- what holds of the reborn ones, which keep their types and sizes, and of this one
  pub freed_each : (P : ℕ → Type 0) → ((m : ℕ) → In m reborn → In m made.records) → (In old reborn → ⊥) → ((m : ℕ) → In m reborn → type_at now m ≡ type_at late m → size_at now m ≡ size_at late m → P m) → P old → (m : ℕ) → In m (reborn ++ old ∷ []) → P m
  freed_each P inside out each mine m i = elim (In-append m reborn (old ∷ []) i) [
    | inl j ↦ each m j (same_types m (inside m j) (λ q. out (subst (λ (x : ℕ). In x reborn) q j))) (same_sizes m (inside m j))
    | inr j ↦ subst P (sym (the_one old m j)) mine
  ]

  pub records_now : (shape now).records ≡ made.records
  records_now = gives.records_stay

  pub as_long_now : length now ≡ length late
  as_long_now = gives.length_is

  -- another record stays
  pub given_away : (t m : ℕ) → IsPlain t → m ≢ old → Away given_marks t m
  given_away t m p ne = ((λ same lies. p.no_gdr same), ((λ same lies. p.no_uir same), ((λ same lies. ne (the_one old m lies)), tt)))

  pub other_kept : (t m : ℕ) → IsPlain t → type_at late m ≡ t → In m made.records → m ≢ old → Kept late now m
  other_kept t m p is i ne = kept_away given m t i is (given_away t m p ne)

  pub other_links : (t m : ℕ) → IsPlain t → type_at b m ≡ t → In m (shape b).records → m ≢ old → KeptButLink b late m → KeptButLink b now m
  other_links t m p is i ne k = link_then b late now m k (other_kept t m p (late_type b late m k ∙ is) (f.edit.sub m i) ne)

  pub other_chain : (t link link' : ℕ) (ms : List ℕ) → IsPlain t → IsChain late made.records t link ms → link' ≡ link → ((m : ℕ) → In m ms → m ≢ old) → IsChain now made.records t link' ms
  other_chain t link link' ms p c same others = chain_stays given t link link' ms c same (λ m i. away-avoids given_marks t m 0 20 (given_away t m p (others m i)))

  -- and the GDR but for the head of the unused list
  pub gdr_beside : (g : Field) → (g.place + g.width ≤ 64) ⊎ (72 ≤ g.place) → g.place + g.width ≤ 84 → number now made.gdr g ≡ number late made.gdr g
  gdr_beside g beside fits = field_avoids given made.gdr gdr_type g (gdr_in late made h_late) (gdr_typed late made h_late) (avoids 0 12 (inl (omega arith))) (avoids g.place (g.place + g.width) beside) (let l = gdr_long late made h_late in omega arith)
    where
      avoids : (lo hi : ℕ) → (hi ≤ 64) ⊎ (72 ≤ lo) → Avoids given_marks gdr_type made.gdr lo hi
      avoids lo hi l = ((λ same lies. l), ((λ same lies. absurd (apart gdr_type uir_type refl same)), ((λ same lies. absurd (not_gdr (sym (the_one old made.gdr lies)))), tt)))

  pub gdr_same : (g : Field) → g.place + g.width ≤ 64 → number now made.gdr g ≡ number late made.gdr g
  gdr_same g low = gdr_beside g (inl low) (omega arith)

  -- ---- the space

  pub freed_list : IsChain now made.records uir_type (number now made.gdr gdr_uir_head) (shape now).unused
  freed_list =
      let gdr : (shape now).gdr ≡ made.gdr = ap (λ (x : Shape). x.gdr) gives.space.rest_stays in
      subst (λ (x : ℕ). IsChain now made.records uir_type (number now x gdr_uir_head) (shape now).unused) gdr (subst (λ (ts : List ℕ). IsChain now ts uir_type (number now (shape now).gdr gdr_uir_head) (shape now).unused) records_now gives.space.unused_chain)

  pub freed_acts : {acts : List Act} → ActsFollow b late acts → ActsFollow b now (acts ++ Gave old (size_at b old) ∷ [])
  freed_acts {acts = acts} before = subst (λ (n : ℕ). ActsFollow b now (acts ++ Gave old n ∷ [])) f.size_is
      (acts_gave f.sound.has_shape before f.late_sound (subst (λ (x : Shape). In old x.records) (sym f.late_is) old_in) (λ u. f.used (sym f.typed ∙ u)) f.frees)

  -- behind the links of an unused record it has its bytes, but for what the edit changed
  behind : Same late now (old + links_end (size_at b old)) (old + size_at b old)
  behind = subst (λ (n : ℕ). Same late now (old + links_end n) (old + n)) f.size_is (behind_one h_late gives old_in old old_in not_gdr)

  pub freed_bytes : (before : List Act) (but : ℕ → List Field) → BytesStay b late old (links_end (size_at b old)) (but (type_at b old)) → GivenStay b now but before (gave b (old ∷ []))
  freed_bytes before but same = freed_stay_but b now before (old ∷ []) but (subst (AreTiles now 8 (length now)) (sym records_now) given.tiled_now)
      (λ m i. subst (λ (x : ℕ). In x (shape now).records) (sym (the_one old m i)) (subst (In old) (sym records_now) old_in))
      (λ m i. subst (λ (x : ℕ). size_at now x ≡ size_at b x) (sym (the_one old m i)) (same_sizes old old_in ∙ f.size_is))
      (λ m i. subst (λ (x : ℕ). BytesStay b now x (links_end (size_at b x)) (but (type_at b x))) (sym (the_one old m i)) (λ n lt low out. behind.each (old + n) (omega arith) (omega arith) ∙ same n lt low out))

  pub behind_links : 28 ≤ size_at b old → Same late now (old + 28) (old + size_at b old)
  behind_links long = subst (λ (n : ℕ). Same late now (old + n) (old + size_at b old)) (rw (le-leb 28 (size_at b old) long) refl) behind

  -- one that only lost its place in a chain
  pub freed_behind : KeptButLink b late old → 28 ≤ size_at b old → Same b now (old + 28) (old + size_at b old)
  freed_behind lives long = same-then b late now (old + 28) (old + size_at b old) (Same-part b late (old + 20) (old + size_at b old) (old + 28) (old + size_at b old) lives.rest (omega arith) (omega arith)) (behind_links long)

  pub linked_bytes : (before : List Act) → KeptButLink b late old → 28 ≤ size_at b old → GivenStay b now no_fields before (gave b (old ∷ []))
  linked_bytes before lives long = freed_bytes before no_fields (λ n lt low out. lives.rest.each (old + n) (let l = end_long (size_at b old) long in omega arith) (omega arith))

  -- what a command may change of unused records
  pub freed_keeps_unused : (may : Allowances) (acts : List Act) → ((m : ℕ) → In m (shape b).unused → is_taken b acts m ≡ false → Avoids marks uir_type m 0 12 × Within marks uir_type m (uir_next_uir ∷ uir_prev_uir ∷ []))
      → ((m : ℕ) → In m (shape b).records → (In m (shape b).unused → ⊥) → Away marks uir_type m × (In m made.unused → ⊥)) → AllKeep b now may acts (owned_by Unused (unused_records b (shape b)))
  freed_keeps_unused may acts listed unlisted = keep_unused f.sound freed_edit records_now may acts
      (λ m i free.
      let l = listed m i free in (
        Avoids-append marks given_marks uir_type m 0 12 l.0 ((λ q lies. absurd (apart uir_type gdr_type refl q)), ((λ q lies. inl (omega arith)), ((λ q lies. absurd (f.used (sym q))), tt))),
        Within-append marks given_marks uir_type m (uir_next_uir ∷ uir_prev_uir ∷ []) l.1 ((λ q lies. absurd (apart uir_type gdr_type refl q)), ((λ q lies. refl), ((λ q lies. absurd (f.used (sym q))), tt))),
      ))
      (λ m i out. let u = unlisted m i out in Away-append marks given_marks uir_type m u.0 ((λ q lies. apart uir_type gdr_type refl q), ((λ q lies. u.1 lies), ((λ q lies. f.used (sym q)), tt))))
