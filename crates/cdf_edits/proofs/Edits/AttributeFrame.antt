-- Attributes that an edit leaves.
use Rattle.cdf_edits.proofs.Common.{Attribute, AttributeFits, AttributeShape, AttributeStays, Away, Each, Edit, HasEntries, Hold, Hold-append, Hold-split, In, In-append, In-append_left, In-append_right, IsSound, List, Mark, Shape, [], adr_name, adr_num, adr_type, aedr_attr_num, agr_edr_type, all_unmarked, ap, arith, attribute_records, attribute_shape_rows, avoided, az_edr_type, both, ended, flat_map, inl, inr, is_in, is_linkable, keeps_attributes, linkable-in, linkable-long, linkable-type, map, names_at, number, number_kept, refl, size_at, subst, sym, true, type_at, ℕ, ◌&&◌, ◌++◌, ◌∙◌, ◌∷◌, ◌≡◌, ◌≤◌}
use Rattle.cdf_edits.proofs.Frame.Meaning.{FileSame, late_number}
use Rattle.cdf_edits.proofs.Edits.RecordFrame.{AttributeLives, kept_away, kept_but_link}
use Rattle.cdf_edits.proofs.Edits.AttributeRemains.{AttributeLasts, AttributeRemains, attribute_remains}
use Rattle.cdf_edits.proofs.Edits.StaysBut.{stays_kept, stays_link}
use Rattle.cdf_edits.proofs.Edits.StepEdits.{fixed_long}
use Rattle.cdf_edits.proofs.Edits.VariableFrame.{Each-apply}
use Rattle.cdf_edits.proofs.Edits.MarkLemmas.{avoided-avoids, ended-avoids, away-avoids, all_unmarked-away}

-- attributes that the image has
pub record AreThere (b records : List ℕ) (as_ : List AttributeShape) : Type 0 where
  pub linked : Each (λ (a : AttributeShape). is_linkable b records adr_type a.adr ≡ true) as_
  pub have : Each (HasEntries b records) as_
  pub fit : Each (AttributeFits b) as_

pub more_there : (b records : List ℕ) (a : AttributeShape) (as_ : List AttributeShape) → AreThere b records (a ∷ as_) → AreThere b records as_
more_there b records a as_ t = record { linked = t.linked.1; have = t.have.1; fit = t.fit.1 }

-- what holds of each by itself
pub each_there : (b records : List ℕ) (P : AttributeShape → Type 0) (as_ : List AttributeShape) → AreThere b records as_ → ((a : AttributeShape) → AreThere b records (a ∷ []) → In a.adr (map (λ (x : AttributeShape). x.adr) as_) → ((m : ℕ) → In m (attribute_records a) → In m (flat_map attribute_records as_)) → P a) → Each P as_
each_there b records P [] there one = tt
each_there b records P (a ∷ more) there one = (
  one a (record { linked = (there.linked.0, tt); have = (there.have.0, tt); fit = (there.fit.0, tt) }) (inl refl) (λ m i. In-append_left m (attribute_records a) (flat_map attribute_records more) i),
  each_there b records P more (more_there b records a more there) (λ x t at sub. one x t (inr at) (λ m i. In-append_right m (attribute_records a) (flat_map attribute_records more) (sub m i))),
)

module _ {b now : List ℕ} {s : Shape} {new : List ℕ} {marks : List Mark} {reborn : List ℕ} (sound : IsSound b s) (e : Edit b now s.records new marks reborn) where
  pub entry : (a : AttributeShape) → HasEntries b s.records a → (m : ℕ) → In m (a.gr_entries ++ a.z_entries) → In m s.records × (is_in (type_at b m) (agr_edr_type ∷ az_edr_type ∷ []) ≡ true)
  entry a has m i = elim (In-append m a.gr_entries a.z_entries i) [
    | inl j ↦ let ok = has.gr_chain.linkable m j in (linkable-in b s.records agr_edr_type m ok, ap (λ (t : ℕ). is_in t (agr_edr_type ∷ az_edr_type ∷ [])) (linkable-type b s.records agr_edr_type m ok))
    | inr j ↦ let ok = has.z_chain.linkable m j in (linkable-in b s.records az_edr_type m ok, ap (λ (t : ℕ). is_in t (agr_edr_type ∷ az_edr_type ∷ [])) (linkable-type b s.records az_edr_type m ok))
  ]

  pub entry_long : (a : AttributeShape) → HasEntries b s.records a → (m : ℕ) → In m (a.gr_entries ++ a.z_entries) → 28 ≤ size_at b m
  entry_long a has m i = elim (In-append m a.gr_entries a.z_entries i) [ inl j ↦ linkable-long b s.records agr_edr_type m (has.gr_chain.linkable m j) | inr j ↦ linkable-long b s.records az_edr_type m (has.z_chain.linkable m j) ]

  -- no mark is in their records
  pub lives_away : (as_ : List AttributeShape) → AreThere b s.records as_ → ((m : ℕ) → In m (flat_map attribute_records as_) → Away marks (type_at b m) m) → Each (AttributeLives b now) as_
  lives_away as_ there away = each_there b s.records (AttributeLives b now) as_ there (λ a t at sub.
      let ok = t.linked.0 in
      let tile = linkable-in b s.records adr_type a.adr ok in
      let here = away a.adr (sub a.adr (inl refl)) in
      record {
        adr = kept_but_link e a.adr (type_at b a.adr) tile refl (away-avoids marks (type_at b a.adr) a.adr 0 12 here) (away-avoids marks (type_at b a.adr) a.adr 20 (size_at b a.adr) here);
        entries = λ m i. kept_away e m (type_at b m) (entry a t.have.0 m i).0 refl (away m (sub m (inr i)));
      })

  -- no mark but in the links from one to the next
  pub lives_clear : (as_ : List AttributeShape) → AreThere b s.records as_ → keeps_attributes marks ≡ true → Each (AttributeLives b now) as_
  lives_clear as_ there clear =
      let p = both (all_unmarked marks (agr_edr_type ∷ az_edr_type ∷ [])) (avoided marks adr_type 0 12 && ended marks adr_type 20) clear in
      let q = both (avoided marks adr_type 0 12) (ended marks adr_type 20) p.1 in
      each_there b s.records (AttributeLives b now) as_ there (λ a t at sub. record {
        adr = kept_but_link e a.adr adr_type (linkable-in b s.records adr_type a.adr t.linked.0) (linkable-type b s.records adr_type a.adr t.linked.0) (avoided-avoids marks adr_type a.adr 0 12 q.0) (ended-avoids marks adr_type a.adr 20 (size_at b a.adr) q.1);
        entries = λ m i. let x = entry a t.have.0 m i in kept_away e m (type_at b m) x.0 refl (all_unmarked-away marks (agr_edr_type ∷ az_edr_type ∷ []) (type_at b m) m p.0 x.1);
      })

  module _ (file : FileSame b now) where
    -- it lasts with its number, too
    lasts : (a : AttributeShape) → HasEntries b s.records a → 36 ≤ size_at b a.adr → AttributeLives b now a → AttributeLasts b now a
    lasts a has long live =
        let num : number now a.adr adr_num ≡ number b a.adr adr_num = late_number b now a.adr live.adr adr_num (omega arith) (omega arith) in
        record {
          adr = stays_link (adr_num ∷ []) live.adr;
          entries = λ m i. stays_kept (aedr_attr_num ∷ []) (live.entries m i);
          numbered = λ m i same. number_kept b now m (live.entries m i).same aedr_attr_num (let l = entry_long a has m i in omega arith) ∙ same ∙ sym num;
        }

    adr_long : (a : AttributeShape) → is_linkable b s.records adr_type a.adr ≡ true → 324 ≤ size_at b a.adr
    adr_long a ok = fixed_long b s sound.has_shape adr_type a.adr (linkable-in b s.records adr_type a.adr ok) (linkable-type b s.records adr_type a.adr ok)

    pub all_last : (as_ : List AttributeShape) → AreThere b s.records as_ → Each (AttributeLasts b now) as_ → Each (AttributeRemains b now new) as_
    all_last as_ there last = Each-apply (AttributeLasts b now) (AttributeRemains b now new) as_ (each_there b s.records (λ a. AttributeLasts b now a → AttributeRemains b now new a) as_ there (λ a t at sub k. attribute_remains sound e file a t.linked.0 t.have.0 t.fit.0 k)) last

    pub all_remain : (as_ : List AttributeShape) → AreThere b s.records as_ → Each (AttributeLives b now) as_ → Each (AttributeRemains b now new) as_
    all_remain as_ there live = all_last as_ there (Each-apply (AttributeLives b now) (AttributeLasts b now) as_ (each_there b s.records (λ a. AttributeLives b now a → AttributeLasts b now a) as_ there (λ a t at sub. lasts a t.have.0 (let l = adr_long a t.linked.0 in omega arith))) live)

    pub nums_stay : (as_ : List AttributeShape) → AreThere b s.records as_ → Each (AttributeLives b now) as_ → (m : ℕ) → In m (map (λ (a : AttributeShape). a.adr) as_) → number now m adr_num ≡ number b m adr_num
    nums_stay [] there live m i = absurd i
    nums_stay (a ∷ more) there live m (inl q) = subst (λ (x : ℕ). number now x adr_num ≡ number b x adr_num) (sym q) (late_number b now a.adr live.0.adr adr_num (omega arith) (let l = adr_long a there.linked.0 in omega arith))
    nums_stay (a ∷ more) there live m (inr i) = nums_stay more (more_there b s.records a more there) live.1 m i

-- ---- attributes that remain

module _ (b now new : List ℕ) where
  pub remaining_rules : (as_ : List AttributeShape) → Each (AttributeRemains b now new) as_ → Hold (flat_map (attribute_shape_rows b) as_) → Hold (flat_map (attribute_shape_rows now) as_)
  remaining_rules [] r rules = tt
  remaining_rules (a ∷ more) r rules =
      let parts = Hold-split (attribute_shape_rows b a) (flat_map (attribute_shape_rows b) more) rules in
      Hold-append (attribute_shape_rows now a) (flat_map (attribute_shape_rows now) more) (r.0.ruled parts.0) (remaining_rules more r.1 parts.1)

  pub remaining_names : (as_ : List AttributeShape) → Each (AttributeRemains b now new) as_ → names_at now adr_name (map (λ (a : AttributeShape). a.adr) as_) ≡ names_at b adr_name (map (λ (a : AttributeShape). a.adr) as_)
  remaining_names [] r = refl
  remaining_names (a ∷ more) r =
      let here = ap (λ (x : Attribute). x.name) r.0.stays.1 in
      let rest = remaining_names more r.1 in
      λ i. here i ∷ rest i

  pub they_stay : (as_ : List AttributeShape) → Each (AttributeRemains b now new) as_ → Each (AttributeStays b now new) as_
  they_stay [] r = tt
  they_stay (a ∷ more) r = (r.0.stays, they_stay more r.1)

  pub they_fit : (as_ : List AttributeShape) → Each (AttributeRemains b now new) as_ → Each (AttributeFits now) as_
  they_fit [] r = tt
  they_fit (a ∷ more) r = (r.0.fits, they_fit more r.1)
