-- Records that are taken and written one after the other: one edit, and acts that follow.
use Rattle.cdf_edits.proofs.Common.{Act, ActsFollow, Among, Anywhere, Avoids, Away, Distinct, Edit, Field, Fills, In, IsSound, List, Mark, Took, Within, [], arith, either, eof, false, false-is_in, field, gdr_eof, gdr_type, gdr_uir_head, inl, inr, is_in, is_taken, length, linkable-in, linkable-type, mark, or_parts, refl, shape, size_at, subst, sym, tile_lies, true-is_in, type_at, uir_next_uir, uir_prev_uir, uir_type, ℕ, ◌+◌, ◌∙◌, ◌∷◌, ◌≡◌, ◌≤◌, ◌⊎◌}
use Rattle.cdf_edits.proofs.Edits.Common.{Avoids-append, Grows, OnlyTakes, acts_none, acts_took, apart, edit_then, edit_under, grows_not, keeps_within, listed_before, listed_marks, loose_away, made_edit, placed_grows, placing_marks, still_edit, taken_is_taken, the_one}
use Rattle.cdf_edits.proofs.Edits.ActsJoined.{ListedStay, acts_joined}
use Rattle.cdf_edits.proofs.Edits.MadeRecord.{place_in}

-- ---- marks

-- records of no more bytes than so many are taken at these places, and written from their types on
abbrev pub taking_all : List ℕ → List ℕ → ℕ → List Mark
taking_all unused places most =
    mark gdr_type Anywhere gdr_eof
    ∷ mark gdr_type Anywhere gdr_uir_head
    ∷ mark uir_type (Among unused) uir_next_uir
    ∷ mark uir_type (Among unused) uir_prev_uir
    ∷ mark uir_type (Among places) (field 0 most)
    ∷ []

abbrev links : List Field
links = uir_next_uir ∷ uir_prev_uir ∷ []

no_gdr : uir_type ≡ gdr_type → ⊥
no_gdr e = apart uir_type gdr_type refl e

-- ---- some, one after the other

pub record TakenAll (b now : List ℕ) (acts : List Act) (places : List ℕ) (most : ℕ) : Type 0 where
  pub grows : Grows b now (taking_all (shape b).unused places most) places
  pub fresh_all : (m : ℕ) → In m places → In m (shape b).records → type_at b m ≡ uir_type
  pub from_list : (m : ℕ) → In m places → In m (shape b).records → In m (shape b).unused
  pub once : Distinct places
  pub before : (m : ℕ) → In m (shape b).records → In m (shape now).unused → In m (shape b).unused
  pub follow : ActsFollow b now acts
  pub takes : OnlyTakes acts
  pub untaken : (c : List ℕ) (m : ℕ) → 12 ≤ size_at c m → is_taken c acts m ≡ false → In m places → ⊥

module _ {b now places : List ℕ} {acts : List Act} {most : ℕ} (t : TakenAll b now acts places most) where
  -- of a listed record that is not taken the links alone are marked
  pub listed_free : (m : ℕ) → In m (shape b).unused → 12 ≤ size_at b m → is_taken b acts m ≡ false → Avoids (taking_all (shape b).unused places most) uir_type m 0 12 × Within (taking_all (shape b).unused places most) uir_type m links
  listed_free m i long free = let out = t.untaken b m long free in (grind (arith, out), grind (arith, out))

  pub unlisted_away : (m : ℕ) → In m (shape b).records → (In m (shape b).unused → ⊥) → Away (taking_all (shape b).unused places most) uir_type m
  unlisted_away m i off = grind (arith, off, λ (lies : In m places). off (t.from_list m lies i))

  listed_stay : IsSound b (shape b) → ListedStay b now acts
  listed_stay sound m i free =
      let h = sound.has_shape in
      let ok = h.unused_chain.linkable m i in
      let inside = linkable-in b (shape b).records uir_type m ok in
      let marks = listed_free m i (tile_lies b 8 (length b) (shape b).records m h.tiled inside).long free in
      keeps_within sound t.grows.edit refl m uir_type links inside (linkable-type b (shape b).records uir_type m ok) marks.0 marks.1

pub none_taken : {b : List ℕ} {most : ℕ} → IsSound b (shape b) → eof b (shape b).gdr ≡ length b → TakenAll b b [] [] most
none_taken {b = b} {most = most} sound end =
    let g = grows_not sound end in
    let edit = edit_under g.edit (taking_all (shape b).unused [] most) (λ m type lo hi i is a. tt) in
    grind (arith, edit, g.sound, g.same_shape, g.content_stays, g.end_is, acts_none sound (still_edit sound.has_shape) refl refl refl refl refl)

-- one, and then the others
module _ {b taken mid : List ℕ} {need place type : ℕ} (sound : IsSound b (shape b)) (fills : Fills b taken mid (shape b) (shape mid).records (shape mid).unused need place type) {now more : List ℕ} {acts : List Act} {most : ℕ} (few : need ≤ most) (rest : TakenAll mid now acts more most) where
  first : Grows b mid (placing_marks (shape b).unused place need) (place ∷ [])
  first = placed_grows sound fills

  still : Edit mid mid (shape mid).records (shape mid).records [] []
  still = still_edit first.sound.has_shape

  first_listed : ListedStay b mid (Took place need ∷ [])
  first_listed m i free =
      let ok = sound.has_shape.unused_chain.linkable m i in
      let x = listed_marks sound fills still refl refl refl m i free in
      keeps_within sound (made_edit sound fills still refl refl) refl m uir_type links (linkable-in b (shape b).records uir_type m ok) (linkable-type b (shape b).records uir_type m ok) x.0 x.1

  before_first : (m : ℕ) → In m (shape b).records → In m (shape mid).unused → In m (shape b).unused
  before_first = listed_before sound fills still refl refl

  -- one that was there was on the list
  from_list : (m : ℕ) → In m (place ∷ more) → In m (shape b).records → In m (shape b).unused
  from_list m (inl q) j = elim (either (is_in m (shape b).unused)) [
    | inl x ↦ true-is_in m (shape b).unused x
    | inr x ↦ absurd ((loose_away sound fills still refl refl m j (false-is_in m (shape b).unused x)).1.1.1.1.0 refl (inl q))
  ]
  from_list m (inr k) j = before_first m j (rest.from_list m k (first.edit.sub m j))

  both : Edit b now (shape b).records (shape now).records (taking_all (shape b).unused (place ∷ more) most) (place ∷ more)
  both = edit_under (edit_then first.edit rest.grows.edit) (taking_all (shape b).unused (place ∷ more) most) (λ m type lo hi i is a.
      let one : type ≡ uir_type → In m (place ∷ []) → (hi ≤ 0) ⊎ (0 + need ≤ lo) = λ same lies. elim (a.1.1.1.1.0 same (inl (the_one place m lies))) [ inl l ↦ inl l | inr l ↦ inr (omega arith) ] in
      Avoids-append (placing_marks (shape b).unused place need) (taking_all (shape mid).unused more most) type m lo hi (a.0, (a.1.0, (a.1.1.0, (a.1.1.1.0, (one, (one, tt))))))
      (a.0, (a.1.0, ((λ same lies. a.1.1.0 same (before_first m i lies)), ((λ same lies. a.1.1.1.0 same (before_first m i lies)), ((λ same lies. a.1.1.1.1.0 same (inr lies)), tt))))))

  pub taken_then : TakenAll b now (Took place need ∷ acts) (place ∷ more) most
  taken_then = record {
    grows = grind (arith, both, rest.grows.sound, rest.grows.same_shape, first.same_shape, rest.grows.content_stays, first.content_stays, rest.grows.end_is);
    fresh_all = λ m i j. linkable-type b (shape b).records uir_type m (sound.has_shape.unused_chain.linkable m (from_list m i j));
    from_list = from_list;
    once = ((λ i. fills.in_use (sym fills.typed ∙ rest.fresh_all place i (place_in sound fills))), rest.once);
    before = λ m i j. before_first m i (rest.before m (first.edit.sub m i) j);
    follow = acts_joined sound.has_shape first.sound.has_shape (acts_took sound fills still refl refl refl refl) rest.follow tt rest.takes first_listed (listed_stay rest first.sound);
    takes = rest.takes;
    untaken = λ c m long free i. elim i [
      | inl q ↦ taken_is_taken c place need acts (subst (λ (x : ℕ). 12 ≤ size_at c x) q long) (subst (λ (x : ℕ). is_taken c (Took place need ∷ acts) x ≡ false) q free)
      | inr k ↦ rest.untaken c m long (or_parts _ _ free).1 k
    ];
  }
