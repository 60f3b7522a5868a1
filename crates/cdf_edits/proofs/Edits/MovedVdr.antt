-- A VDR is placed anew and takes the place of the old one in its chain: the image until the old one is freed.
use Rattle.cdf_edits.proofs.Common.{Distinct, Distinct-back, Distinct-middle, Each, Each-split, Good, HasShape, HasVariable, In, In-append_left, In-append_right, IsChain, IsSound, Kind, List, Shape, VariableShape, [], ap, arith, counted_in, eq-eqb, head_of, inl, inr, le_refl, length, members_of, ne_eqb, number, owned_records, pad_field, refl, shape, shapes_of, size_at, subst, sym, times, type_at, type_in, value_bytes, variables_chain, vdr_end, vdrs, vdrs_append, with_in_place, ℕ, ◌++◌, ◌+◌, ◌<◌, ◌∙◌, ◌∷◌, ◌≡◌, ◌≢◌, ◌≤◌, ◌⊎◌}
use Rattle.cdf_edits.proofs.Edits.Common.{unlike, IsHeld, StandsAmong, VariableLives, behind_in, fits, fits_copied, has, index_records, kind_chain, late_type, links_copied, made_once, members_are, not_twice_kept, of_kind, owned-times, sound, sound_if, spliced_times, the_one, tile, times-append, typed, none_in_use, used_times, with_shapes}
use Rattle.cdf_edits.proofs.Edits.JoinedVdr.{JoinsVdr, chain, edit, file, fills, gdr_is, joined_is, joined_size, joined_splices, list, lives, marks, plain_kind, records, t, used}
use Rattle.cdf_edits.proofs.Edits.PadWritten.{HoldsPad, copied, packed, padded_end}

-- a record with these bytes behind its size took the place of the VDR of a variable
abbrev pub MovesVdr : List ℕ → List ℕ → Kind → VariableShape → List ℕ → ℕ → Type 0
MovesVdr b late kind own body by = JoinsVdr b late kind body by (with_in_place own.vdr by (members_of b (variables_chain kind))) (counted_in b (variables_chain kind))

-- it says the same of it but for its flags and its pad value, for which the old one has no room, and ends with that
pub record CopiesVdr (b late : List ℕ) (own : VariableShape) (body : List ℕ) (by : ℕ) (bytes : List ℕ) : Type 0 where
  pub held : HoldsPad b late own.vdr by bytes
  pub whole : 8 + length body ≡ (pad_field b own.vdr).place + value_bytes b own.vdr
  pub short : size_at b own.vdr < 8 + length body

-- another in the place of one of some variables
vdrs_replaced : (before : List VariableShape) (own : VariableShape) (after : List VariableShape) (by : ℕ) → (In own.vdr (vdrs before) → ⊥) → with_in_place own.vdr by (vdrs (before ++ own ∷ after)) ≡ vdrs (before ++ record own { vdr = by } ∷ after)
vdrs_replaced [] own after by out = rw (eq-eqb own.vdr own.vdr refl) refl
vdrs_replaced (v ∷ before) own after by out = rw (ne_eqb v.vdr own.vdr (λ q. out (inl (sym q)))) (ap (λ (r : List ℕ). v.vdr ∷ r) (vdrs_replaced before own after by (λ i. out (inr i))))

module _ {b late : List ℕ} {kind : Kind} {before : List VariableShape} {own : VariableShape} {after : List VariableShape} {body : List ℕ} {by : ℕ} (good : Good b) (at : StandsAmong b kind before own after) (m : MovesVdr b late kind own body by) where
  h : HasShape b (shape b)
  h = (sound good at).has_shape

  pub old_live : VariableLives b late own
  old_live = (Each-split (VariableLives b late) before (own ∷ after) (subst (Each (VariableLives b late)) at.was (of_kind (VariableLives b late) kind (shape b) (lives (sound good at) m)))).1.0

  pub by_not_old : by ≢ own.vdr
  by_not_old q = unlike (sound good at) (fills (sound good at) m) own.vdr (tile good at) (λ u. (plain_kind kind).no_uir (sym (typed good at) ∙ u)) (sym q)

  abbrev pub own' : VariableShape
  own' = record own { vdr = by }

  -- the others of its kind
  pub members : vdrs (shapes_of (shape b) kind) ≡ vdrs before ++ own.vdr ∷ vdrs after
  members = ap vdrs at.was ∙ vdrs_append before (own ∷ after)

  once : Distinct (vdrs before ++ own.vdr ∷ vdrs after)
  once = subst Distinct members (kind_chain kind h).once

  pub beside : (x : ℕ) → In x (vdrs before) ⊎ In x (vdrs after) → In x (vdrs (shapes_of (shape b) kind)) × (x ≢ own.vdr)
  beside x (inl i) = (subst (In x) (sym members) (In-append_left x (vdrs before) (own.vdr ∷ vdrs after) i), λ q. Distinct-middle (vdrs before) own.vdr (vdrs after) once (subst (λ (y : ℕ). In y (vdrs before)) q i))
  beside x (inr i) = (subst (In x) (sym members) (In-append_right x (vdrs before) (own.vdr ∷ vdrs after) (inr i)), λ q. (Distinct-back (vdrs before) (own.vdr ∷ vdrs after) once).0 (subst (λ (y : ℕ). In y (vdrs after)) q i))

  members_late : vdrs (before ++ own' ∷ after) ≡ with_in_place own.vdr by (members_of b (variables_chain kind))
  members_late = sym (ap (with_in_place own.vdr by) (members_are h (record { holder_is = gdr_is (sound good at) m; chain = kind_chain kind h }) ∙ ap vdrs at.was) ∙ vdrs_replaced before own after by (λ i. (beside own.vdr (inl i)).1 refl))

  pub chain_late : IsChain late (records (sound good at) m) (type_in (variables_chain kind)) (number late (shape b).gdr (head_of (variables_chain kind))) (vdrs (before ++ own' ∷ after))
  chain_late = subst (IsChain late (records (sound good at) m) (type_in (variables_chain kind)) (number late (shape b).gdr (head_of (variables_chain kind)))) (sym members_late) (chain (sound good at) m)

  pub old_type : type_at late own.vdr ≡ type_in (variables_chain kind)
  old_type = late_type b late own.vdr old_live.vdr ∙ typed good at

  none_of : (x y : ℕ) → (x ≡ y → ⊥) → times x (y ∷ []) ≡ 0
  none_of x y other = rw (ne_eqb x y other) refl

  once_before : used_times (shape b) own.vdr ≤ 1
  once_before = let times = owned-times b (shape b) own.vdr in let once = (sound good at).not_twice own.vdr in omega arith

  -- ---- it says the same

  module _ {bytes : List ℕ} (says : CopiesVdr b late own body by bytes) where
    pub end_late : vdr_end late by ≡ 8 + length body
    end_late = padded_end says.held (file (sound good at) m) ∙ sym says.whole

    has_late : HasVariable late (records (sound good at) m) own'
    has_late = links_copied (sound good at) (edit (sound good at) m) (file (sound good at) m) own (has good at) (fits good at) (behind_in good at) old_live.behind (copied says.held) (packed says.held)

    abbrev pub late_shape : Shape
    late_shape = with_shapes (shape b) kind (records (sound good at) m) (list (sound good at) m) (before ++ own' ∷ after)

    pub late_is : shape late ≡ late_shape
    late_is = joined_is (sound good at) m before (own ∷ []) (own' ∷ []) after at.was members_late (has_late, tt)

    -- ---- who owns what

    -- the new VDR comes, and the old one goes
    pub traded : (x : ℕ) → used_times late_shape x + times x (own.vdr ∷ []) ≡ used_times (shape b) x + times x (by ∷ [])
    traded x =
        spliced_times (shape b) kind (records (sound good at) m) (list (sound good at) m) before (own ∷ []) (own' ∷ []) after at.was x (times x (by ∷ [])) (times x (own.vdr ∷ []))
        (let new = times-append x (by ∷ []) (index_records own ++ []) in let old = times-append x (own.vdr ∷ []) (index_records own ++ []) in omega arith)

    pub old_unowned : used_times late_shape own.vdr ≡ 0
    old_unowned =
        let gone : times own.vdr (own.vdr ∷ []) ≡ 1 = rw (eq-eqb own.vdr own.vdr refl) refl in
        omega (arith, traded own.vdr, once_before, none_of own.vdr by (λ q. by_not_old (sym q)))

    pub by_once : used_times late_shape by ≡ 1
    by_once = (made_once (sound good at) (fills (sound good at) m) m.joined.linked m.joined.as_long (t (sound good at) m).lately late_shape (times by (own.vdr ∷ [])) (traded by) (none_of by own.vdr by_not_old) by (inl refl)).1

    fewer : (x : ℕ) → (In x (by ∷ []) → ⊥) → used_times late_shape x ≤ used_times (shape b) x
    fewer x outside = let none = none_of x by (λ q. outside (inl q)) in omega (arith, traded x)

    held : (x : ℕ) → In x (by ∷ []) → IsHeld late late_shape x
    held x i = subst (IsHeld late late_shape) (sym (the_one by x i)) (inl (used (sound good at) m, omega (arith, by_once)))

    pub sound_late : IsSound late (shape late)
    sound_late = subst (IsSound late) (sym late_is) (sound_if (sound good at) (joined_splices (sound good at) m before (own ∷ []) (own' ∷ []) after at.was members_late (has_late, tt))
        (fits_copied (sound good at) (edit (sound good at) m) (file (sound good at) m) own (has good at) (fits good at) (behind_in good at) old_live.behind (copied says.held) (packed says.held) (subst (λ (n : ℕ). vdr_end late by ≤ n) (end_late ∙ sym (joined_size (sound good at) m)) (le_refl (vdr_end late by))), tt)
        (not_twice_kept b late (shape b) late_shape (marks (sound good at) m) (by ∷ []) (sound good at) (edit (sound good at) m) fewer held))

    -- the old one may be freed
    pub old_in : In own.vdr (shape late).records
    old_in = subst (In own.vdr) (sym (ap (λ (x : Shape). x.records) late_is)) ((edit (sound good at) m).sub own.vdr (tile good at))

    pub old_free : times own.vdr (owned_records late (shape late)) ≡ 0
    old_free = subst (λ (x : Shape). times own.vdr (owned_records late x) ≡ 0) (sym late_is) (none_in_use late late_shape (edit (sound good at) m).tiled_now own.vdr (λ u. (plain_kind kind).no_uir (sym old_type ∙ u)) old_unowned)
