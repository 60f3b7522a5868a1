-- An attribute that stays but for the link to the next one and for its number, which its entries say: it means what it meant, and keeps its rules.
use Rattle.cdf_edits.proofs.Common.{AttributeFits, AttributeShape, AttributeStays, Each, Edit, EntryFits, Field, HasEntries, Hold, Hold-append, Hold-split, In, In-append_left, In-append_right, IsChain, IsSound, Leads, List, Mark, Shape, [], adr_agr_edr_head, adr_az_edr_head, adr_name, adr_ngr_entries, adr_num, adr_nz_entries, adr_scope, adr_type, aedr_attr_num, aedr_num, agr_edr_type, ap, arith, attribute_shape_rows, az_edr_type, before_first, differ_rows, entries_rows, entry_bytes, entry_rows, eq-eqb, eq_of, flat_map, inl, inr, is_linkable, length, linkable-from, linkable-in, linkable-long, linkable-type, name_in, nat_le, next_field, number, piece_kept, record_number_limit, record_size, record_type, refl, same_number, scope_of, size_at, subst, sym, true, with_item, ℕ, ◌++◌, ◌+◌, ◌==◌, ◌∙◌, ◌∷◌, ◌≡◌, ◌≤◌}
use Rattle.std.proofs.Common.{not, ◌&&◌}
use Rattle.cdf_format.specs.Content.{entries_of}
use Rattle.cdf_edits.proofs.Edits.StaysBut.{StaysBut, part_stays, field_stays}
use Rattle.cdf_edits.proofs.Edits.StepEdits.{fixed_long}
use Rattle.cdf_edits.proofs.Frame.LinksStay.{leads_same}
use Rattle.cdf_edits.proofs.Frame.Meaning.{FileSame, EntryMeans, entry_means, long_entry}
use Rattle.cdf_edits.proofs.Rules.OfAttributes.{differ_same}

abbrev pub EntryLasts : List ℕ → List ℕ → ℕ → Type 0
EntryLasts b now m = StaysBut b now m (aedr_attr_num ∷ [])

-- an attribute stays but for the link to the next one and for its number, its entries but for that, and they say it as they did
pub record AttributeLasts (b now : List ℕ) (a : AttributeShape) : Type 0 where
  pub adr : StaysBut b now a.adr (next_field ∷ adr_num ∷ [])
  pub entries : (m : ℕ) → In m (a.gr_entries ++ a.z_entries) → EntryLasts b now m
  pub numbered : (m : ℕ) → In m (a.gr_entries ++ a.z_entries) → number b m aedr_attr_num ≡ number b a.adr adr_num → number now m aedr_attr_num ≡ number now a.adr adr_num

-- what it means, and its rules
pub record AttributeRemains (b now new : List ℕ) (a : AttributeShape) : Type 0 where
  pub stays : AttributeStays b now new a
  pub fits : AttributeFits now a
  pub ruled : Hold (attribute_shape_rows b a) → Hold (attribute_shape_rows now a)

-- ---- the entries of one chain

module _ (b now : List ℕ) (file : FileSame b now) where
  num_stays : (e : ℕ) → EntryLasts b now e → EntryFits b e → number now e aedr_num ≡ number b e aedr_num
  num_stays e k fits = let l = long_entry (entry_bytes b e) (size_at b e) fits in field_stays k aedr_num (omega arith) (λ i p q. (inr (omega arith), tt))

  means : (e : ℕ) → EntryLasts b now e → EntryFits b e → EntryMeans b now e
  means e k fits =
      let l = long_entry (entry_bytes b e) (size_at b e) fits in
      entry_means b now file e (record { size = field_stays k record_size (omega arith) (λ i p q. (inl (omega arith), tt)); code = part_stays k 24 28 (omega arith) (λ i p q. (inr (omega arith), tt)); rest = part_stays k 32 (size_at b e) (omega arith) (λ i p q. (inr (omega arith), tt)); inside = k.inside }) fits

  entries_same : (es : List ℕ) → ((m : ℕ) → In m es → EntryLasts b now m) → Each (EntryFits b) es → entries_of now es ≡ entries_of b es
  entries_same [] k fits = refl
  entries_same (e ∷ es) k fits =
      let n = num_stays e (k e (inl refl)) fits.0 in
      let entry = (means e (k e (inl refl)) fits.0).meant in
      let rest = entries_same es (λ m i. k m (inr i)) fits.1 in
      λ i. with_item (n i) (entry i) (rest i)

  entries_fit : (es : List ℕ) → ((m : ℕ) → In m es → EntryLasts b now m) → Each (EntryFits b) es → Each (EntryFits now) es
  entries_fit [] k fits = tt
  entries_fit (e ∷ es) k fits = ((means e (k e (inl refl)) fits.0).fits, entries_fit es (λ m i. k m (inr i)) fits.1)

  nums_same : (es : List ℕ) → ((m : ℕ) → In m es → EntryLasts b now m) → Each (EntryFits b) es → Each (λ m. number now m aedr_num ≡ number b m aedr_num) es
  nums_same [] k fits = tt
  nums_same (e ∷ es) k fits = (num_stays e (k e (inl refl)) fits.0, nums_same es (λ m i. k m (inr i)) fits.1)

  each_rule : (adr : ℕ) (es : List ℕ) → ((m : ℕ) → In m es → EntryLasts b now m) → Each (EntryFits b) es → ((m : ℕ) → In m es → number b m aedr_attr_num ≡ number b adr adr_num → number now m aedr_attr_num ≡ number now adr adr_num)
      → Hold (flat_map (entry_rows b adr) es) → Hold (flat_map (entry_rows now adr) es)
  each_rule adr [] k fits says h = tt
  each_rule adr (e ∷ es) k fits says h =
      let same = k e (inl refl) in
      (eq-eqb _ _ (says e (inl refl) (eq_of _ _ h.0)), (ap (λ (n : ℕ). nat_le n record_number_limit) (num_stays e same fits.0) ∙ h.1.0, ((means e same fits.0).valued ∙ h.1.1.0, each_rule adr es (λ m i. k m (inr i)) fits.1 (λ m i. says m (inr i)) h.1.1.1)))

  entries_rules : (adr : ℕ) (count : Field) (es : List ℕ) → number now adr count ≡ number b adr count → ((m : ℕ) → In m es → EntryLasts b now m) → Each (EntryFits b) es → ((m : ℕ) → In m es → number b m aedr_attr_num ≡ number b adr adr_num → number now m aedr_attr_num ≡ number now adr adr_num)
      → Hold (entries_rows b adr count es) → Hold (entries_rows now adr count es)
  entries_rules adr count es total k fits says h =
      let p = Hold-split (flat_map (entry_rows b adr) es) (differ_rows 7 (same_number b) [] es) h.1 in (
        ap (λ (n : ℕ). n == length es) total ∙ h.0,
        Hold-append (flat_map (entry_rows now adr) es) (differ_rows 7 (same_number now) [] es) (each_rule adr es k fits says p.0) (subst Hold (sym (differ_same b now [] es tt (nums_same es k fits))) p.1),
      )

-- ---- an attribute

module _ {b now : List ℕ} {s : Shape} {new : List ℕ} {marks : List Mark} {reborn : List ℕ} (sound : IsSound b s) (e : Edit b now s.records new marks reborn) (file : FileSame b now) (a : AttributeShape) (ok : is_linkable b s.records adr_type a.adr ≡ true) (has : HasEntries b s.records a) (fits : AttributeFits b a) (k : AttributeLasts b now a) where
  chain_lasts : (type link link' : ℕ) (ms : List ℕ) → IsChain b s.records type link ms → link' ≡ link → ((m : ℕ) → In m ms → EntryLasts b now m) → IsChain now new type link' ms
  chain_lasts type link link' ms c same last = record {
    leads = subst (λ (x : ℕ). Leads now x ms 0) (sym same) (leads_same b now link ms 0 c.leads (λ m i. let l = linkable-long b s.records type m (c.linkable m i) in field_stays (last m i) next_field (omega arith) (λ n p q. (inl (omega arith), tt))));
    linkable = λ m i.
        let ok = c.linkable m i in
        let l = linkable-long b s.records type m ok in
        linkable-from now new type m (e.sub m (linkable-in b s.records type m ok)) (field_stays (last m i) record_type (omega arith) (λ n p q. (inl (omega arith), tt)) ∙ linkable-type b s.records type m ok)
        (subst (λ (n : ℕ). 28 ≤ n) (sym (field_stays (last m i) record_size (omega arith) (λ n p q. (inl (omega arith), tt)))) l);
    once = c.once;
  }

  adr_long : 324 ≤ size_at b a.adr
  adr_long = fixed_long b s sound.has_shape adr_type a.adr (linkable-in b s.records adr_type a.adr ok) (linkable-type b s.records adr_type a.adr ok)

  first_field : (f : Field) → 20 ≤ f.place → f.place + f.width ≤ 32 → number now a.adr f ≡ number b a.adr f
  first_field f low high = let l = adr_long in field_stays k.adr f (omega arith) (λ i p q. (inr (omega arith), (inl (omega arith), tt)))

  last_field : (f : Field) → 36 ≤ f.place → f.place + f.width ≤ 324 → number now a.adr f ≡ number b a.adr f
  last_field f low high = let l = adr_long in field_stays k.adr f (omega arith) (λ i p q. (inr (omega arith), (inr (omega arith), tt)))

  gr : (m : ℕ) → In m a.gr_entries → In m (a.gr_entries ++ a.z_entries)
  gr m i = In-append_left m a.gr_entries a.z_entries i

  z : (m : ℕ) → In m a.z_entries → In m (a.gr_entries ++ a.z_entries)
  z m i = In-append_right m a.gr_entries a.z_entries i

  name_stays : name_in now a.adr adr_name ≡ name_in b a.adr adr_name
  name_stays = ap (before_first (λ (x : ℕ). x == 0)) (piece_kept b now (a.adr + 36) (a.adr + size_at b a.adr) (part_stays k.adr 36 (size_at b a.adr) (omega arith) (λ i p q. (inr (omega arith), (inr (omega arith), tt)))) (a.adr + 68) 256 (omega arith) (let l = adr_long in omega arith) k.adr.inside file.longer)

  pub attribute_remains : AttributeRemains b now new a
  attribute_remains =
      let name = name_stays in
      let scope = first_field adr_scope (omega arith) (omega arith) in
      let grs = λ (m : ℕ) (i : In m a.gr_entries). k.entries m (gr m i) in
      let zs = λ (m : ℕ) (i : In m a.z_entries). k.entries m (z m i) in
      let gr_same = entries_same b now file a.gr_entries grs fits.0 in
      let z_same = entries_same b now file a.z_entries zs fits.1 in
      record {
        stays = (
          record {
            gr_chain = chain_lasts agr_edr_type _ _ a.gr_entries has.gr_chain (first_field adr_agr_edr_head (omega arith) (omega arith)) grs;
            z_chain = chain_lasts az_edr_type _ _ a.z_entries has.z_chain (last_field adr_az_edr_head (omega arith) (omega arith)) zs;
          },
          λ i. record { name = name i; scope = scope_of (scope i); g = gr_same i; z = z_same i },
        );
        fits = (entries_fit b now file a.gr_entries grs fits.0, entries_fit b now file a.z_entries zs fits.1);
        ruled = λ h. let p = Hold-split (entries_rows b a.adr adr_ngr_entries a.gr_entries) (entries_rows b a.adr adr_nz_entries a.z_entries) h.1.1 in (
          ap (λ (n : List ℕ). not (length n == 0)) name ∙ h.0,
          (
            ap (λ (n : ℕ). nat_le 1 n && nat_le n 4) scope ∙ h.1.0,
            Hold-append (entries_rows now a.adr adr_ngr_entries a.gr_entries) (entries_rows now a.adr adr_nz_entries a.z_entries)
                (entries_rules b now file a.adr adr_ngr_entries a.gr_entries (last_field adr_ngr_entries (omega arith) (omega arith)) grs fits.0 (λ m i. k.numbered m (gr m i)) p.0)
                (entries_rules b now file a.adr adr_nz_entries a.z_entries (last_field adr_nz_entries (omega arith) (omega arith)) zs fits.1 (λ m i. k.numbered m (z m i)) p.1),
          ),
        );
      }
