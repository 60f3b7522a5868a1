-- Records that nothing leads to any more, which are freed after another edit of the image.
use Rattle.cdf_edits.proofs.Common.{ActsFollow, AllGiven, AreFree, AreTiles, Avoids, Away, Bool, Each, Edit, Field, FreedStay, In, IsSound, List, Mark, Same, Shape, Write, [], ap, arith, eq-eqb, false, freeing_marks, gave, gdr_type, inl, inr, is_in, length, links_end, no_fields, number, number_kept, refl, shape, size_at, subst, sym, true, type_at, uir_type, unmarked, wholes, with_space, ℕ, ◌++◌, ◌+◌, ◌==◌, ◌∙◌, ◌∷◌, ◌≡◌, ◌≢◌, ◌≤◌}
use Rattle.std.proofs.Common.{◌||◌}
use Rattle.cdf_edits.proofs.Edits.ActsThen.{gave-same, all_gave}
use Rattle.cdf_edits.proofs.Edits.Composing.{head_size, edit_then, same-then}
use Rattle.cdf_edits.proofs.Edits.EditActs.{acts_none}
use Rattle.cdf_edits.proofs.Edits.FreedBytes.{IsLeft, all_left, all_unused, freed_stay, free_used}
use Rattle.cdf_edits.proofs.Edits.FreedRecords.{MayFree, sizes_by_tiles, all_given_edit}
use Rattle.cdf_edits.proofs.Edits.RecordFrame.{field_avoids, kept_away}
use Rattle.cdf_edits.proofs.Edits.StepEdits.{gdr_in, gdr_typed, gdr_long}
use Rattle.cdf_edits.proofs.Edits.WrittenFields.{MayWrite, written_tiles}
use Rattle.cdf_edits.proofs.Frame.Meaning.{Kept}

-- an edit that leaves the records as they are, and then records of these types that are freed
pub record Frees (b mid now : List ℕ) (marks : List Mark) (types places : List ℕ) : Type 0 where
  pub sound : IsSound b (shape b)
  pub edit : Edit b mid (shape b).records (shape b).records marks []
  pub long : length mid ≡ length b
  pub mid_sound : IsSound mid (shape mid)
  pub records : (shape mid).records ≡ (shape b).records
  pub unused : (shape mid).unused ≡ (shape b).unused
  pub free : AreFree mid places
  pub typed : (m : ℕ) → In m places → is_in (type_at b m) types ≡ true
  pub no_gdr : is_in gdr_type types ≡ false
  pub given : AllGiven mid now places

-- no record beside them is changed, but for the GDR and unused ones
away_freeing : (types unused places : List ℕ) (limit type m : ℕ) → type ≢ gdr_type → type ≢ uir_type → (In m places → ⊥) → Away (freeing_marks types unused places limit) type m
away_freeing types unused places limit type m no_gdr used out = ((λ same lies. no_gdr same), ((λ same lies. used same), each types))
  where
    each : (types : List ℕ) → Away (wholes types places limit) type m
    each [] = tt
    each (t ∷ types) = ((λ same lies. out lies), each types)

module _ {b mid now : List ℕ} {marks : List Mark} {types places : List ℕ} (frees : Frees b mid now marks types places) where
  abbrev s : Shape
  s = shape b

  pub freed_types : (m : ℕ) → In m s.records → type_at mid m ≡ type_at b m
  freed_types m i = elim (frees.edit.kind m i) [ inl k ↦ k.1 | inr k ↦ elim k [ inl g ↦ absurd (g.0 i) | inr none ↦ absurd none ] ]

  pub freed_places : (m : ℕ) → In m places → In m s.records
  freed_places m i = subst (In m) frees.records (frees.free.stand m i)

  pub may_free : MayFree mid types places
  may_free = record {
    stand = frees.free.stand;
    typed = λ m i. ap (λ (t : ℕ). is_in t types) (freed_types m (freed_places m i)) ∙ frees.typed m i;
    used = free_used mid places frees.free;
    once = frees.free.once;
  }

  left : IsLeft mid now
  left = all_left mid now places frees.mid_sound frees.free.stand frees.given

  pub freeing : Edit mid now s.records s.records (freeing_marks types s.unused places (length mid)) places
  freeing =
      let r = frees.records in
      let u = frees.unused in
      subst (λ (x : List ℕ × List ℕ). Edit mid now x.0 x.0 (freeing_marks types x.1 places (length mid)) places) (λ i. (r i, u i)) (all_given_edit mid now types places frees.mid_sound may_free frees.given)

  pub freed_edit : Edit b now s.records s.records (marks ++ freeing_marks types s.unused places (length mid)) places
  freed_edit = edit_then frees.edit freeing

  pub sound_now : IsSound now (shape now)
  sound_now = left.sound

  pub freed_shape : {x : Shape} → shape mid ≡ x → shape now ≡ with_space x x.records (shape now).unused
  freed_shape e = left.shape_is ∙ ap (λ (x : Shape). with_space x x.records (shape now).unused) e

  pub freed_records : (shape now).records ≡ s.records
  freed_records = ap (λ (x : Shape). x.records) left.shape_is ∙ frees.records

  pub freed_long : length now ≡ length b
  freed_long = left.long ∙ frees.long

  pub all_freed : (m : ℕ) → In m places → type_at now m ≡ uir_type
  all_freed = all_unused mid now places frees.mid_sound frees.free.stand frees.given

  -- ---- the others

  pub others_kept : (m : ℕ) → In m s.records → type_at mid m ≢ gdr_type → type_at mid m ≢ uir_type → (In m places → ⊥) → Kept mid now m
  others_kept m i no_gdr used out = kept_away freeing m (type_at mid m) i refl (away_freeing types s.unused places (length mid) (type_at mid m) m no_gdr used out)

  typed_apart : (m : ℕ) → is_in (type_at mid m) types ≡ true → type_at mid m ≢ gdr_type
  typed_apart m is e = let one = ap (λ (t : ℕ). is_in t types) (sym e) ∙ is in let no = frees.no_gdr in absurd cc

  -- what was written in records of these types stands
  pub says_still : (others : List Mark) (ws : List Write) → Each (MayWrite mid s.records others) ws → ((m : ℕ) → In m (written_tiles ws) → (is_in (type_at mid m) types ≡ true) × (In m places → ⊥)) → Each (λ (w : Write). number mid w.tile w.f ≡ w.to) ws → Each (λ (w : Write). number now w.tile w.f ≡ w.to) ws
  says_still others [] may out says = tt
  says_still others (w ∷ ws) may out says =
      let one = may.0 in
      let apart = out w.tile (inl refl) in
      (number_kept mid now w.tile (others_kept w.tile one.inside (typed_apart w.tile apart.0) one.used apart.1).same w.f one.fits ∙ says.0, says_still others ws may.1 (λ m i. out m (inr i)) says.1)

  -- and what the GDR says but for the head of the unused list
  pub gdr_still : (f : Field) → f.place + f.width ≤ 64 → number now s.gdr f ≡ number mid s.gdr f
  gdr_still f low =
      let inside = gdr_in b s frees.sound.has_shape in
      let typed : type_at mid s.gdr ≡ gdr_type = freed_types s.gdr inside ∙ gdr_typed b s frees.sound.has_shape in
      let long : 84 ≤ size_at mid s.gdr = subst (λ (k : ℕ). 84 ≤ k) (sym (head_size b mid s.gdr (frees.edit.head s.gdr inside (λ u. no_uir (sym (gdr_typed b s frees.sound.has_shape) ∙ u)) (λ r. r)))) (gdr_long b s frees.sound.has_shape) in
      field_avoids freeing s.gdr gdr_type f inside typed (beside 0 12 (omega arith)) (beside f.place (f.place + f.width) low) (omega arith)
    where
      no_uir : gdr_type ≡ uir_type → ⊥
      no_uir e = absurd cc

      each : (lo hi : ℕ) (ts : List ℕ) → is_in gdr_type ts ≡ false → Avoids (wholes ts places (length mid)) gdr_type s.gdr lo hi
      each lo hi [] none = tt
      each lo hi (t ∷ ts) none = ((λ same lies. absurd (clash (is_in gdr_type ts) (rw (eq-eqb gdr_type t same) at none))), each lo hi ts (rest (gdr_type == t) (is_in gdr_type ts) none))
        where
          clash : (p : Bool) → true ≡ false → ⊥
          clash p e = absurd cc

          rest : (p q : Bool) → (p || q) ≡ false → q ≡ false
          rest false q e = e
          rest true q e = absurd cc

      beside : (lo hi : ℕ) → hi ≤ 64 → Avoids (freeing_marks types s.unused places (length mid)) gdr_type s.gdr lo hi
      beside lo hi l = ((λ same lies. inl l), ((λ same lies. absurd (no_uir same)), each lo hi types frees.no_gdr))

  -- ---- the space

  pub sizes_before : (m : ℕ) → In m places → size_at mid m ≡ size_at b m
  sizes_before m i = head_size b mid m (frees.edit.head m (freed_places m i) (λ t. free_used mid places frees.free m i (freed_types m (freed_places m i) ∙ t)) (λ r. r))

  pub freed_acts : unmarked marks uir_type ≡ true → ActsFollow b now (gave b places)
  freed_acts clear =
      let none = acts_none frees.sound frees.edit clear refl frees.records frees.unused frees.long in
      subst (ActsFollow b now) (gave-same b mid places sizes_before) (all_gave b mid now [] types places frees.sound.has_shape none frees.mid_sound may_free frees.given)

  not_gdr : (m : ℕ) → In m places → m ≢ (shape mid).gdr
  not_gdr m i e = typed_apart m (may_free.typed m i) (ap (type_at mid) e ∙ gdr_typed mid (shape mid) frees.mid_sound.has_shape)

  -- their bytes behind the links
  pub freeing_behind : (m : ℕ) → In m places → Same mid now (m + links_end (size_at b m)) (m + size_at b m)
  freeing_behind m i = subst (λ (k : ℕ). Same mid now (m + links_end k) (m + k)) (sizes_before m i) (left.behind m (frees.free.stand m i) (not_gdr m i))

  pub freed_bytes : ((m : ℕ) → In m places → Same b mid (m + links_end (size_at b m)) (m + size_at b m)) → FreedStay b now no_fields (gave b places)
  freed_bytes same =
      let sizes = sizes_by_tiles b now 8 8 (length b) s.records refl frees.sound.has_shape.tiled (subst (λ (k : ℕ). AreTiles now 8 k s.records) freed_long freed_edit.tiled_now) in
      freed_stay b now (gave b places) places no_fields left.sound.has_shape.tiled (λ m i. subst (In m) (sym freed_records) (freed_places m i)) (λ m i. sizes m (freed_places m i)) (λ m i. same-then b mid now (m + links_end (size_at b m)) (m + size_at b m) (same m i) (freeing_behind m i))
