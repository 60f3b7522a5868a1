-- The compact image of a data set is good, and means it: put together of its parts.
use Rattle.std.proofs.Common.{Bool, List, [], ap, append-nil, append_assoc, ap₂, arith, drop, eq-eqb, inl, inr, is_some, length, lit<, lit≤, map, not, refl, subst, sym, true, ℕ, ◌*◌, ◌-◌, ◌++◌, ◌+◌, ◌<◌, ◌^◌, ◌||◌, ◌∙◌, ◌∷◌, ◌≡◌, ◌≢◌, ◌≤◌}
use Rattle.std.proofs.Math.Seq.{drop-append_seam}
use Rattle.std.proofs.lemmas.Bool.{and_from, ne_eqb}
use Rattle.std.proofs.lemmas.Int.{to_z_pos}
use Rattle.std.proofs.lemmas.List.{length-append, length-map}
use Rattle.std.specs.Int.{cast_signed, w64}
use Rattle.std.specs.List.{filter, flat_map, list_all}
use Rattle.std.specs.Prelude.{if◌then◌else◌, ◌==◌}
use Rattle.cdf_model.specs.DataSet.{Attribute, DataSet}
use Rattle.cdf_model.specs.Encodings.{encoding_at}
use Rattle.cdf_model.specs.Limits.{image_limit, signed_limit}
use Rattle.cdf_format.proofs.GoodByShape.{IsGoodByShape, attribute_shape_rows}
use Rattle.cdf_format.proofs.ImageOf.{flags_of_front, short_trailer, trailer_is}
use Rattle.cdf_format.proofs.Members.{In-append_left, In-append_right, is_in-true}
use Rattle.cdf_format.proofs.NameRules.{differ_by_names}
use Rattle.cdf_format.proofs.Owning.{owned_is, times-once}
use Rattle.cdf_format.proofs.RowLemmas.{Hold-append}
use Rattle.cdf_format.proofs.SealedRules.{sealed_keeps}
use Rattle.cdf_format.proofs.ShapeLemmas.{content_is, shape_is}
use Rattle.cdf_format.proofs.Tests.{of_le}
use Rattle.cdf_format.specs.AttributeRules.{same_name}
use Rattle.cdf_format.specs.ChainRules.{adrs_rows, differ_rows, number_rows, r_vdrs_rows, z_vdrs_rows}
use Rattle.cdf_format.specs.Chains.{Leads, is_in, is_linkable}
use Rattle.cdf_format.specs.Content.{attribute_of, content, majority_of, variable_of}
use Rattle.cdf_format.specs.Fields.{counted, encoding, eof, flags, gdr_offset, has_bit, integer8, is_positive, r_num_dims, r_sizes, size_at, type_at, word}
use Rattle.cdf_format.specs.FileRules.{gdr_rows, has_gdr, is_gdr, is_record, phase3}
use Rattle.cdf_format.specs.IndexRules.{index_rows}
use Rattle.cdf_format.specs.NewFile.{magic}
use Rattle.cdf_format.specs.Owners.{attribute_records, bytes_in, owned_records, space_of, times, unused_records, variable_records}
use Rattle.cdf_format.specs.Phases.{first_phases}
use Rattle.cdf_format.specs.Records.{adr_name, gdr_eof, vdr_num}
use Rattle.cdf_format.specs.RecordTypes.{cdr_type, fixed_size, gdr_type, is_record_type, r_vdr_type, uir_type, z_vdr_type}
use Rattle.cdf_format.specs.Rules.{AllHold, Hold, asked}
use Rattle.cdf_format.specs.Sealed.{has_checksum, sealed, trailer, trailer_length}
use Rattle.cdf_format.specs.Shape.{Each, HasShape, HasVariable, AttributeShape, Shape, VariableShape, shape, vdrs}
use Rattle.cdf_format.specs.Stored.{is_little}
use Rattle.cdf_format.specs.Tiles.{AreTiles, Distinct, In}
use Rattle.cdf_format.specs.VariableRules.{variable_rows}
use Rattle.cdf_format.specs.WellFormed.{Good}
use Rattle.cdf_edits.proofs.Edits.OwnedOnce.{unused_none}
use Rattle.cdf_edits.proofs.Frame.OwnersApart.{times-append}
use Rattle.cdf_edits.specs.Space.Placing.{IsBody, type_of_body}
use Rattle.cdf_writer.specs.Bodies.{cdr_body, gdr_body, whole_record}
unfoldable use Rattle.cdf_writer.specs.Compact.{compact}
use Rattle.cdf_writer.specs.Compact.{attributes_part, attributes_place, bodies, heads, is_little as means_little, r_part, r_place, z_part, z_place}
use Rattle.cdf_writer.specs.Fine.{FineAttribute, FineAttributes, FineFile}
use Rattle.cdf_writer.specs.Laying.{laid, laid_size, link_if, past_attribute}
use Rattle.cdf_writer.proofs.AttributesRead.{AttributesRead, attribute_shapes, attributes_chains, attributes_lead, attributes_linkable, attributes_mean, attributes_named, attributes_numbered, attributes_places, attributes_read, attributes_records, attributes_rules, new_from}
use Rattle.cdf_writer.proofs.FilePart.{CdrReads, CountsFit, GdrReads, HeadsFit, cdr_made, cdr_reads, cdr_size, flags_say, gdr_made, gdr_reads, gdr_size}
use Rattle.cdf_writer.proofs.Stands.{At, IsRecord, Standing, Stands, are_tiles, each_at, part_stands, places, places-append, places_distinct, size-append, size-cons, standing, stands_parts, whole_size, word_within}

-- ---- all bodies are records where the image is not too long

pub fit_all : (bs : List (List ℕ)) → Each IsBody bs → laid_size bs < 256 ^ 8 → Each IsRecord bs
fit_all [] e lt = tt
fit_all (body ∷ more) e lt =
    let s = size-cons body more in
    let w = whole_size body in
    (record { body_is = e.0; fits = omega arith }, fit_all more e.1 (omega arith))

each_both : (xs ys : List (List ℕ)) → Each IsBody xs → Each IsBody ys → Each IsBody (xs ++ ys)
each_both [] ys x y = y
each_both (b ∷ xs) ys x y = (x.0, each_both xs ys x.1 y)

only_bodies : (bs : List (List ℕ)) → Each IsRecord bs → Each IsBody bs
only_bodies [] e = tt
only_bodies (b ∷ bs) e = (e.0.body_is, only_bodies bs e.1)

-- what is asked of the variables, for an image with these records
pub record VariablesPart (b : List ℕ) (d : DataSet) (records : List ℕ) : Type 0 where
  pub r_shapes : List VariableShape
  pub z_shapes : List VariableShape
  pub r_lead : Leads b (heads d).r (vdrs r_shapes) 0
  pub z_lead : Leads b (heads d).z (vdrs z_shapes) 0
  pub r_linkable : (m : ℕ) → In m (vdrs r_shapes) → is_linkable b records r_vdr_type m ≡ true
  pub z_linkable : (m : ℕ) → In m (vdrs z_shapes) → is_linkable b records z_vdr_type m ≡ true
  pub r_once : Distinct (vdrs r_shapes)
  pub z_once : Distinct (vdrs z_shapes)
  pub have : Each (HasVariable b records) (r_shapes ++ z_shapes)
  pub r_mean : map (variable_of b) r_shapes ≡ d.r_variables
  pub z_mean : map (variable_of b) z_shapes ≡ d.z_variables
  pub indexes : Hold (flat_map (λ v. index_rows b records v.vdr v.index) (r_shapes ++ z_shapes))
  pub r_numbered : Hold (number_rows 7 b vdr_num 0 (vdrs r_shapes))
  pub z_numbered : Hold (number_rows 10 b vdr_num 0 (vdrs z_shapes))
  pub r_times : (m : ℕ) → times m (flat_map variable_records r_shapes) ≡ times m (places (r_place d) (r_part d))
  pub z_times : (m : ℕ) → times m (flat_map variable_records z_shapes) ≡ times m (places (z_place d) (z_part d))

-- that each of their bodies is that of a record, and how many they are
pub record VariableBodies (d : DataSet) : Type 0 where
  pub r_made : Each IsBody (r_part d)
  pub z_made : Each IsBody (z_part d)
  pub counts : CountsFit d

module _ (d : DataSet) (file : FineFile d) (attrs : FineAttributes d) (made : VariableBodies d) (max_fits : (heads d).r_max_rec < 256 ^ 4) where
  abbrev image : List ℕ
  image = compact d

  abbrev A : List (List ℕ)
  A = attributes_part d

  abbrev R : List (List ℕ)
  R = r_part d

  abbrev Z : List (List ℕ)
  Z = z_part d

  abbrev cdr : List ℕ
  cdr = cdr_body d 320

  abbrev gdr : List ℕ
  gdr = gdr_body d (heads d)

  abbrev little : Bool
  little = means_little d

  abbrev records : List ℕ
  records = places 8 (bodies d)

  image_size : length (compact d) ≡ 8 + laid_size (bodies d)
  unfolding compact
  image_size = length-append magic (laid (bodies d))

  cdr_long : length (whole_record cdr) ≡ 312
  cdr_long = whole_size cdr ∙ cdr_size d file 320

  gdr_long : length (whole_record gdr) ≡ 84 + 4 * length d.rdims
  gdr_long = whole_size gdr ∙ gdr_size d file (heads d)

  -- where the parts end
  sizes_add : laid_size (bodies d) ≡ 312 + (84 + 4 * length d.rdims) + laid_size A + laid_size R + laid_size Z
  sizes_add =
      let a = size-cons cdr (gdr ∷ (A ++ R) ++ Z) in
      let g = size-cons gdr ((A ++ R) ++ Z) in
      let x = size-append (A ++ R) Z in
      let y = size-append A R in
      let c = cdr_long in
      let l = gdr_long in
      omega arith

  end_is : (heads d).end ≡ length (compact d)
  end_is = let s = sizes_add in let i = image_size in omega arith

  total_fits : 8 + laid_size (bodies d) < 256 ^ 8
  total_fits = let i = image_size in let s = file.short in limit_fits (8 + laid_size (bodies d)) (omega arith)
    where
      limit_fits : (k : ℕ) → k ≤ 1073741824 → k < 256 ^ 8
      limit_fits k le = omega arith

  few : 0 + length d.attributes ≤ 2147483647
  few = let f = attrs.few in omega arith

  attributes_made : Each IsRecord A
  attributes_made = attributes_records little 0 (attributes_place d) d.attributes attrs.each few

  all_made : Each IsBody (bodies d)
  all_made = ((cdr_made d file 320).1, ((gdr_made d file (heads d)).1, each_both (A ++ R) Z (each_both A R (only_bodies A attributes_made) made.r_made) made.z_made))

  are_records : Each IsRecord (bodies d)
  are_records = fit_all (bodies d) all_made (let t = total_fits in less (laid_size (bodies d)) t)
    where
      less : (k : ℕ) → 8 + k < 256 ^ 8 → k < 256 ^ 8
      less k lt = omega arith

  -- behind a front part of a file that begins so
  pub parts_stand : (t : List ℕ) → Stands (compact d ++ t) 8 (laid (bodies d))
  unfolding compact
  parts_stand t = record { rest = t; there = ap (drop 8) (append_assoc magic (laid (bodies d)) t) ∙ drop-append_seam magic (laid (bodies d) ++ t) }

  pub magic_stands : (t : List ℕ) → Stands (compact d ++ t) 0 magic
  unfolding compact
  magic_stands t = record { rest = laid (bodies d) ++ t; there = append_assoc magic (laid (bodies d)) t }

  module _ (t : List ℕ) where
    abbrev f : List ℕ
    f = compact d ++ t

    behind_cdr : Stands f 320 (laid (gdr ∷ (A ++ R) ++ Z))
    behind_cdr = subst (λ (n : ℕ). Stands f (8 + n) (laid (gdr ∷ (A ++ R) ++ Z))) cdr_long (stands_parts (whole_record cdr) (laid (gdr ∷ (A ++ R) ++ Z)) (parts_stand t)).1

    pub cdr_there : Standing f 8 cdr
    cdr_there = standing cdr are_records.0 (stands_parts (whole_record cdr) (laid (gdr ∷ (A ++ R) ++ Z)) (parts_stand t)).0

    pub gdr_there : Standing f 320 gdr
    gdr_there = standing gdr are_records.1.0 (stands_parts (whole_record gdr) (laid ((A ++ R) ++ Z)) behind_cdr).0

    pub attributes_there : Stands f (attributes_place d) (laid A)
    attributes_there =
        let rest = subst (λ (n : ℕ). Stands f (320 + n) (laid ((A ++ R) ++ Z))) gdr_long (stands_parts (whole_record gdr) (laid ((A ++ R) ++ Z)) behind_cdr).1 in
        (part_stands A R (part_stands (A ++ R) Z rest).0).0

    heads_fit : HeadsFit (heads d)
    heads_fit =
        let s = sizes_add in
        let tot = total_fits in
        record {
          r = link_fits (r_place d) d.r_variables (omega arith);
          z = link_fits (z_place d) d.z_variables (omega arith);
          attributes = link_fits (attributes_place d) d.attributes (omega arith);
          end = omega arith;
          r_max_rec = max_fits;
        }
      where
        link_fits : {X : Type 0} (p : ℕ) (items : List X) → p < 256 ^ 8 → link_if p items < 256 ^ 8
        link_fits p [] lt = lit< tt
        link_fits p (item ∷ items) lt = lt

    pub cdr_is : CdrReads f d 320
    cdr_is = cdr_reads d file 320 f (lit< tt) cdr_there

    pub gdr_is : GdrReads f 320 d (heads d)
    gdr_is = gdr_reads d file (heads d) f 320 heads_fit made.counts gdr_there

    pub little_is : is_little f ≡ little
    little_is = ap (λ (n : ℕ). means_little (record d { encoding = n })) cdr_is.encoding_is

    pub attributes_are : AttributesRead little f 0 (attributes_place d) d.attributes
    attributes_are = let s = sizes_add in let tot = total_fits in attributes_read little f 0 (attributes_place d) d.attributes little_is attrs.each few (omega arith) attributes_there

  -- ---- the shape

  shapes : List AttributeShape
  shapes = attribute_shapes (attributes_place d) d.attributes

  records_are : records ≡ 8 ∷ (320 ∷ ((flat_map attribute_records (attribute_shapes (attributes_place d) d.attributes) ++ places (r_place d) R) ++ places (z_place d) Z))
  records_are =
      let at_gdr : 8 + length (whole_record cdr) ≡ 320 = ap (λ (n : ℕ). 8 + n) cdr_long in
      let at_attributes : 320 + length (whole_record gdr) ≡ attributes_place d = ap (λ (n : ℕ). 320 + n) gdr_long in
      let at_z : attributes_place d + laid_size (A ++ R) ≡ z_place d = (let y = size-append A R in omega arith) in
      ap (λ (l : List ℕ). 8 ∷ l) (ap (λ (p : ℕ). places p (gdr ∷ (A ++ R) ++ Z)) at_gdr ∙ ap (λ (l : List ℕ). 320 ∷ l) (ap (λ (p : ℕ). places p ((A ++ R) ++ Z)) at_attributes
      ∙ places-append (attributes_place d) (A ++ R) Z
      ∙ ap₂ (λ (xs ys : List ℕ). xs ++ ys) (places-append (attributes_place d) A R ∙ ap (λ (xs : List ℕ). xs ++ places (r_place d) R) (attributes_places little 0 (attributes_place d) d.attributes attrs.each)) (ap (λ (p : ℕ). places p Z) at_z)))

  attributes_in : (m : ℕ) → In m (flat_map attribute_records (attribute_shapes (attributes_place d) d.attributes)) → In m records
  attributes_in m i =
      let as_ = flat_map attribute_records (attribute_shapes (attributes_place d) d.attributes) in
      subst (In m) (sym records_are) (inr (inr (In-append_left m (as_ ++ places (r_place d) R) (places (z_place d) Z) (In-append_left m as_ (places (r_place d) R) i))))

  whole : Stands (compact d) 8 (laid (bodies d))
  whole = subst (λ (b : List ℕ). Stands b 8 (laid (bodies d))) (append-nil (compact d)) (parts_stand [])

  tiles_stand : AreTiles (compact d) 8 (length (compact d)) records
  tiles_stand = subst (λ (n : ℕ). AreTiles (compact d) 8 n records) (sym image_size) (are_tiles 8 (bodies d) whole are_records)

  cdr_on : CdrReads (compact d) d 320
  cdr_on = subst (λ (b : List ℕ). CdrReads b d 320) (append-nil (compact d)) (cdr_is [])

  pub gdr_on : GdrReads (compact d) 320 d (heads d)
  gdr_on = subst (λ (b : List ℕ). GdrReads b 320 d (heads d)) (append-nil (compact d)) (gdr_is [])

  pub offset_on : gdr_offset (compact d) ≡ 320
  offset_on = cdr_on.gdr_is

  pub little_on : is_little (compact d) ≡ little
  little_on = subst (λ (b : List ℕ). is_little b ≡ little) (append-nil (compact d)) (little_is [])

  -- where the variables stand
  pub record PartsOn : Type 0 where
    pub r_there : Stands (compact d) (r_place d) (laid R)
    pub z_there : Stands (compact d) (z_place d) (laid Z)
    pub r_fits : r_place d + laid_size R < 256 ^ 8
    pub z_fits : z_place d + laid_size Z < 256 ^ 8

  pub parts_on : PartsOn
  parts_on =
      let behind = subst (λ (b : List ℕ). Stands b 320 (laid (gdr ∷ (A ++ R) ++ Z))) (append-nil (compact d)) (behind_cdr []) in
      let rest = subst (λ (n : ℕ). Stands (compact d) (320 + n) (laid ((A ++ R) ++ Z))) gdr_long (stands_parts (whole_record gdr) (laid ((A ++ R) ++ Z)) behind).1 in
      let two = part_stands (A ++ R) Z rest in
      let one = part_stands A R two.0 in
      let y = size-append A R in
      let at_z : attributes_place d + laid_size (A ++ R) ≡ z_place d = omega arith in
      let s = sizes_add in
      let tot = total_fits in
      record { r_there = one.1; z_there = subst (λ (k : ℕ). Stands (compact d) k (laid Z)) at_z two.1; r_fits = omega arith; z_fits = omega arith }

  pub r_in : (m : ℕ) → In m (places (r_place d) R) → In m records
  r_in m i =
      let as_ = flat_map attribute_records (attribute_shapes (attributes_place d) d.attributes) in
      subst (In m) (sym records_are) (inr (inr (In-append_left m (as_ ++ places (r_place d) R) (places (z_place d) Z) (In-append_right m as_ (places (r_place d) R) i))))

  pub z_in : (m : ℕ) → In m (places (z_place d) Z) → In m records
  z_in m i =
      let as_ = flat_map attribute_records (attribute_shapes (attributes_place d) d.attributes) in
      subst (In m) (sym records_are) (inr (inr (In-append_right m (as_ ++ places (r_place d) R) (places (z_place d) Z) i)))

  reads : AttributesRead little (compact d) 0 (attributes_place d) d.attributes
  reads = subst (λ (b : List ℕ). AttributesRead little b 0 (attributes_place d) d.attributes) (append-nil (compact d)) (attributes_are [])

  cdr_on_image : Standing (compact d) 8 cdr
  cdr_on_image = subst (λ (b : List ℕ). Standing b 8 cdr) (append-nil (compact d)) (cdr_there [])

  gdr_on_image : Standing (compact d) 320 gdr
  gdr_on_image = subst (λ (b : List ℕ). Standing b 320 gdr) (append-nil (compact d)) (gdr_there [])

  record_at : (m : ℕ) → In m records → At (compact d) IsBody m
  record_at m i = each_at IsBody 8 (bodies d) whole are_records all_made m i

  typed_at : (m : ℕ) → In m records → is_record_type (type_at (compact d) m) ≡ true
  typed_at m i = let r = record_at m i in subst (λ (t : ℕ). is_record_type t ≡ true) (sym r.stands.type_is) r.has.real

  used_at : (m : ℕ) → In m records → type_at (compact d) m ≢ uir_type
  used_at m i = let r = record_at m i in subst (λ (t : ℕ). t ≢ uir_type) (sym r.stands.type_is) r.has.in_use

  fixed_at : (m : ℕ) → In m records → fixed_size (type_at (compact d) m) ≤ size_at (compact d) m
  fixed_at m i = let r = record_at m i in subst (λ (t : ℕ). fixed_size t ≤ size_at (compact d) m) (sym r.stands.type_is) (subst (λ (n : ℕ). fixed_size (type_of_body r.body) ≤ n) (sym r.stands.size_is) r.has.fixed)

  adrs_distinct : (place : ℕ) (as_ : List Attribute) → Each FineAttribute as_ → Distinct (map (λ a. a.adr) (attribute_shapes place as_))
  adrs_distinct place [] f = tt
  adrs_distinct place (a ∷ more) f = ((λ i. let r = behind (past_attribute place a) more place i in absurd (omega arith)), adrs_distinct (past_attribute place a) more f.1)
    where
      behind : (from : ℕ) (as_ : List Attribute) (m : ℕ) → In m (map (λ a. a.adr) (attribute_shapes from as_)) → from ≤ m
      behind from [] m i = absurd i
      behind from (a ∷ more) m (inl e) = omega arith
      behind from (a ∷ more) m (inr i) = let r = behind (past_attribute from a) more m i in omega arith

  module _ (vs : VariablesPart (compact d) d records) where
    abbrev s : Shape
    s = record { records = records; gdr = 320; attributes = attribute_shapes (attributes_place d) d.attributes; r_variables = vs.r_shapes; z_variables = vs.z_shapes; unused = [] }

    has_shape : HasShape (compact d) s
    has_shape = record {
      tiled = tiles_stand;
      typed = typed_at;
      fixed = fixed_at;
      cdr_stands = and_from _ _ (is_in-true 8 records (subst (In 8) (sym records_are) (inl refl))) (eq-eqb (type_at (compact d) 8) cdr_type (cdr_on_image.type_is ∙ (cdr_made d file 320).0));
      gdr_is = cdr_on.gdr_is;
      gdr_stands = and_from _ _ (is_in-true 320 records (subst (In 320) (sym records_are) (inr (inl refl)))) (eq-eqb (type_at (compact d) 320) gdr_type (gdr_on_image.type_is ∙ (gdr_made d file (heads d)).0));
      attribute_chain = record {
        leads = subst (λ (l : ℕ). Leads (compact d) l (map (λ a. a.adr) (attribute_shapes (attributes_place d) d.attributes)) 0) (sym gdr_on.attributes_is) (attributes_lead little (compact d) 0 (attributes_place d) d.attributes reads);
        linkable = attributes_linkable little (compact d) records 0 (attributes_place d) d.attributes reads attributes_in;
        once = adrs_distinct (attributes_place d) d.attributes attrs.each;
      };
      r_chain = record { leads = subst (λ (l : ℕ). Leads (compact d) l (vdrs vs.r_shapes) 0) (sym gdr_on.r_is) vs.r_lead; linkable = vs.r_linkable; once = vs.r_once };
      z_chain = record { leads = subst (λ (l : ℕ). Leads (compact d) l (vdrs vs.z_shapes) 0) (sym gdr_on.z_is) vs.z_lead; linkable = vs.z_linkable; once = vs.z_once };
      unused_chain = record { leads = gdr_on.unused_is; linkable = λ m i. absurd i; once = tt };
      entry_chains = attributes_chains little (compact d) records 0 (attributes_place d) d.attributes attrs.each reads attributes_in;
      have_variables = vs.have;
    }

    -- each record is owned once
    sum_is : (m : ℕ) → times m (owned_records (compact d) s) ≡ times m records + times m (unused_records (compact d) s)
    sum_is m =
        let as_ : List ℕ = flat_map attribute_records (attribute_shapes (attributes_place d) d.attributes) in
        let rs : List ℕ = flat_map variable_records vs.r_shapes in
        let zs : List ℕ = flat_map variable_records vs.z_shapes in
        let u : List ℕ = unused_records (compact d) s in
        let first : List ℕ = 8 ∷ 320 ∷ [] in
        let pr : List ℕ = places (r_place d) R in
        let pz : List ℕ = places (z_place d) Z in
        let x : times m (owned_records (compact d) s) ≡ times m (((first ++ as_) ++ rs) ++ zs) + times m u = ap (times m) (owned_is (compact d) s) ∙ times-append m (((first ++ as_) ++ rs) ++ zs) u in
        let y : times m records ≡ times m first + times m ((as_ ++ pr) ++ pz) = ap (times m) records_are ∙ times-append m first ((as_ ++ pr) ++ pz) in
        omega (arith, x, times-append m ((first ++ as_) ++ rs) zs, times-append m (first ++ as_) rs, times-append m first as_, y, times-append m (as_ ++ pr) pz, times-append m as_ pr, vs.r_times m, vs.z_times m)

    owned : (m : ℕ) → In m records → times m (owned_records (compact d) s) ≡ 1
    owned m i = omega (arith, sum_is m, times-once m records (places_distinct 8 (bodies d)) i, unused_none (compact d) s tiles_stand m (used_at m i))

    abbrev pub VariablesRuled : Type 0
    VariablesRuled = Hold (flat_map (variable_rows (compact d) records (vdrs (vs.r_shapes ++ vs.z_shapes))) (vdrs (vs.r_shapes ++ vs.z_shapes)))

    good_by_shape : VariablesRuled → IsGoodByShape (compact d) s
    good_by_shape rules =
        let adrs = map (λ a. a.adr) (attribute_shapes (attributes_place d) d.attributes) in
        let g : gdr_offset (compact d) ≡ 320 = cdr_on.gdr_is in
        let a_len : length adrs ≡ length d.attributes = length-map (attribute_shapes (attributes_place d) d.attributes) (λ a. a.adr) ∙ sym (length-map (attribute_shapes (attributes_place d) d.attributes) (attribute_of (compact d))) ∙ ap length (attributes_mean little (compact d) 0 (attributes_place d) d.attributes attrs.each reads) in
        let r_len : length (vdrs vs.r_shapes) ≡ length d.r_variables = length-map vs.r_shapes (λ v. v.vdr) ∙ sym (length-map vs.r_shapes (variable_of (compact d))) ∙ ap length vs.r_mean in
        let z_len : length (vdrs vs.z_shapes) ≡ length d.z_variables = length-map vs.z_shapes (λ v. v.vdr) ∙ sym (length-map vs.z_shapes (variable_of (compact d))) ∙ ap length vs.z_mean in
        let a : Hold (adrs_rows (compact d) adrs) = (rw g (eq-eqb _ _ (gdr_on.a_count ∙ sym a_len)), attributes_numbered little (compact d) 0 (attributes_place d) d.attributes reads) in
        let r : Hold (r_vdrs_rows (compact d) (vdrs vs.r_shapes)) = (rw g (eq-eqb _ _ (gdr_on.r_count ∙ sym r_len)), vs.r_numbered) in
        let z : Hold (z_vdrs_rows (compact d) (vdrs vs.z_shapes)) = (rw g (eq-eqb _ _ (gdr_on.z_count ∙ sym z_len)), vs.z_numbered) in
        record {
          has_shape = has_shape;
          counting = Hold-append (adrs_rows (compact d) adrs ++ r_vdrs_rows (compact d) (vdrs vs.r_shapes)) (z_vdrs_rows (compact d) (vdrs vs.z_shapes)) (Hold-append (adrs_rows (compact d) adrs) (r_vdrs_rows (compact d) (vdrs vs.r_shapes)) a r) z;
          attributes = Hold-append (flat_map (attribute_shape_rows (compact d)) (attribute_shapes (attributes_place d) d.attributes)) (differ_rows 2 (same_name (compact d) adr_name) [] adrs) (attributes_rules little (compact d) 0 (attributes_place d) d.attributes attrs.each reads) (differ_by_names 2 (compact d) adr_name adrs (rw (attributes_named little (compact d) 0 (attributes_place d) d.attributes reads) (new_from [] (map (λ a. a.name) d.attributes) attrs.differ)));
          of_variables = rules;
          indexes = vs.indexes;
          owned_once = owned;
        }

    -- ---- what it means
    pub means : content (compact d) ≡ d
    means =
        let say = flags_say d.majority d.md5 in
        let fl = cdr_on.flags_are in
        let rel = cdr_on.release_is in
        let inc = cdr_on.increment_is in
        let enc = cdr_on.encoding_is in
        let maj : majority_of (has_bit (flags (compact d)) 0) ≡ d.majority = ap (λ (n : ℕ). majority_of (has_bit n 0)) fl ∙ say.majority in
        let sum : has_checksum (compact d) ≡ d.md5 = ap (λ (n : ℕ). has_bit n 2) fl ∙ say.checksum in
        let dims = gdr_on.dims_are in
        let as_ = attributes_mean little (compact d) 0 (attributes_place d) d.attributes attrs.each reads in
        content_is (compact d) s has_shape ∙ (λ i. record {
          release = rel i;
          increment = inc i;
          encoding = enc i;
          majority = maj i;
          md5 = sum i;
          rdims = dims i;
          attributes = as_ i;
          r_variables = vs.r_mean i;
          z_variables = vs.z_mean i;
        })

    -- ---- the two first records of the file

    first_rules : AllHold (first_phases (sealed (compact d)))
    first_rules =
        let t = trailer (compact d) in
        let fl = (cdr_is t).flags_are in
        let say = flags_say d.majority d.md5 in
        let cs = cdr_there t in
        let gs = gdr_there t in
        let c = cdr_is t in
        let g = gdr_is t in
        let ms = magic_stands t in
        let first : word (sealed (compact d)) 0 4 ≡ 0xcdf30001 = word_within ms 0 4 (lit≤ tt) ∙ refl in
        let second : word (sealed (compact d)) 4 4 ≡ 0x0000ffff = word_within ms 4 4 (lit≤ tt) ∙ refl in
        let size = length-append (compact d) t in
        let tl : length t ≡ trailer_length (compact d) = trailer_is (compact d) in
        let ts : trailer_length (compact d) ≤ 16 = short_trailer (compact d) in
        let e = end_is in
        let short = file.short in
        let all = sizes_add in
        let long = image_size in
        let n = length (sealed (compact d)) in
        let low : 404 ≤ length (compact d) = omega arith in
        let same : trailer_length (sealed (compact d)) ≡ trailer_length (compact d) = ap (λ (p : Bool). if p then 16 else 0) (flags_of_front (compact d) t (omega arith)) in
        let gdr_here : gdr_offset (sealed (compact d)) ≡ 320 = c.gdr_is in
        let checks : (not (has_checksum (sealed (compact d))) || has_bit (flags (sealed (compact d))) 3) ≡ true = rw fl say.known in
        let some : is_some (encoding_at (encoding (sealed (compact d)))) ≡ true = rw c.encoding_is file.head.encoded in
        let single : has_bit (flags (sealed (compact d))) 1 ≡ true = rw fl say.single in
        let cdr_record : is_record (sealed (compact d)) 8 1 312 ≡ true = record_is (sealed (compact d)) 8 1 312 (cs.type_is ∙ (cdr_made d file 320).0) (omega (arith, cs.size_is, cdr_size d file 320)) (omega (arith, cs.size_is, cdr_size d file 320)) in
        let room : has_gdr (sealed (compact d)) ≡ true = rw gdr_here (and_from _ _ refl (of_le 404 n (omega arith))) in
        let dims = g.dims_count in
        let gdr_record : is_record (sealed (compact d)) 320 2 (84 + 4 * r_num_dims (sealed (compact d)) 320) ≡ true = record_is (sealed (compact d)) 320 2 (84 + 4 * r_num_dims (sealed (compact d)) 320) (gs.type_is ∙ (gdr_made d file (heads d)).0) (omega (arith, gs.size_is, gdr_size d file (heads d))) (omega (arith, gs.size_is, gdr_size d file (heads d))) in
        let gdr_good : is_gdr (sealed (compact d)) 320 ≡ true = and_from _ _ (rw g.dims_said (of_le (length d.rdims) 10 file.head.few_dims)) gdr_record in
        let sizes : list_all is_positive (r_sizes (sealed (compact d)) 320) ≡ true = rw g.dims_are (all_positive d.rdims file.head.sizes) in
        let end : eof (sealed (compact d)) 320 ≡ n - trailer_length (sealed (compact d)) = omega (arith, g.end_is, e) in
        let limit : counted (integer8 (sealed (compact d)) 320 gdr_eof) ≡ length (compact d) = ap (λ (k : ℕ). counted (cast_signed w64 k)) (g.end_is ∙ e) ∙ ap counted (to_z_pos w64 (length (compact d)) (omega arith)) in
        let rows : Hold (gdr_rows (sealed (compact d)) 320) = (gdr_good, (sizes, (eq-eqb _ _ end, (rw limit (of_le (length (compact d)) image_limit short), tt)))) in
        let third : Hold (phase3 (sealed (compact d))) = (room, subst (λ (p : Bool). Hold (asked p (gdr_rows (sealed (compact d)) (gdr_offset (sealed (compact d)))))) (sym room) (subst (λ (k : ℕ). Hold (gdr_rows (sealed (compact d)) k)) (sym gdr_here) rows)) in (
          (of_le 8 n (omega arith), (of_le n (image_limit + 16) (omega arith), tt)),
          (
            (eq-eqb _ _ first, (eq-eqb _ _ second, tt)),
            (
              (of_le 320 n (omega arith), (cdr_record, (eq-eqb _ _ c.version_is, (some, (single, (checks, tt)))))),
              (third, tt),
            ),
          ),
        )
      where
        record_is : (f : List ℕ) (place type least : ℕ) → type_at f place ≡ type → least ≤ size_at f place → place + size_at f place ≤ length f → is_record f place type least ≡ true
        record_is f place type least a l h = and_from _ _ (eq-eqb _ _ a) (and_from _ _ (of_le least (size_at f place) l) (of_le (place + size_at f place) (length f) h))

        all_positive : (dims : List ℕ) → Each (λ n. (1 ≤ n) × (n ≤ signed_limit)) dims → list_all is_positive dims ≡ true
        all_positive [] f = refl
        all_positive (n ∷ dims) f = and_from _ _ (and_from _ _ (of_le 1 n f.0.0) (of_le n signed_limit f.0.1)) (all_positive dims f.1)

    pub good : VariablesRuled → Good (compact d)
    good rules = sealed_keeps (compact d) s first_rules (good_by_shape rules)

    -- ---- no bytes are unused

    none_of : (xs : List ℕ) → ((m : ℕ) → In m xs → type_at (compact d) m ≢ uir_type) → filter (λ place. type_at (compact d) place == uir_type) xs ≡ []
    none_of [] f = refl
    none_of (m ∷ xs) f = rw (ne_eqb (type_at (compact d) m) uir_type (f m (inl refl))) (none_of xs (λ k i. f k (inr i)))

    pub no_waste : ((space_of (compact d) (shape (compact d))).listed_bytes ≡ 0) × ((space_of (compact d) (shape (compact d))).unlisted_bytes ≡ 0)
    no_waste =
        let e : shape (compact d) ≡ s = shape_is (compact d) s has_shape in
        let none : unused_records (compact d) s ≡ [] = none_of records used_at in (
          ap (λ (x : Shape). bytes_in (compact d) x.unused) e,
          ap (λ (x : Shape). bytes_in (compact d) (filter (λ place. not (is_in place x.unused)) (unused_records (compact d) x))) e ∙ ap (λ (us : List ℕ). bytes_in (compact d) (filter (λ place. not (is_in place [])) us)) none,
        )
