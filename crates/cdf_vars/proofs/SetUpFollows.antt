-- `setup` follows its command: the dimensions of a GDR and the CDR are written, what the image has by then, whatever became of the GDR, and the two ways, in its place and moved.
use Rattle.cdf_vars.proofs.Common.{Act, ActsFollow, AllKeep, Among, AreTiles, Avoids-append, Away, Bool, Changed, DataSet, Edit, Field, Fills, FirstSays, Follows, FreedStay, Gave, Good, HasShape, Holds, In, IsChain, IsGiven, IsGoodByShape, IsHeld, IsSorted, IsSound, List, Majority, MakesGdr, Mark, MovesForRoom, Shape, StaysOrSays, Took, Unused, Within-append, WritesHeads, [], acts_none, acts_took, all_attribute_records, all_keep, all_variable_records, ap, apart, are_bad_sizes, arith, avoided, avoided-avoids, away-avoids, away-within, byte, cast_signed, cdr_encoding, cdr_flags, cdr_gdr_offset, cdr_increment, cdr_release, cdr_type, cdr_version, chain_clear, changed_put, content, content_is, content_of, counted, drop, drop-put_there, edit_then, either, encoding_at, end_now, eof, false, field_marks, filled_content, filled_edit, filled_size, filled_sound, first_hold, first_said, fixed_size, flags, gdr_adr_head, gdr_eof, gdr_fields, gdr_fits, gdr_leap_second_last_updated, gdr_nr_vars, gdr_num_attr, gdr_nz_vars, gdr_offset, gdr_r_dim_sizes, gdr_r_max_rec, gdr_r_num_dims, gdr_r_vdr_head, gdr_rfu_c, gdr_rfu_e, gdr_type, gdr_typed, gdr_uir_head, gdr_z_vdr_head, good_by_its_shape, good_eof, good_is_sound, good_long, has_bit, if◌then◌else◌, image_limit, inl, inr, is_a-from, is_empty_set, is_late, is_positive, is_record_type, is_some, keep_attributes, keep_file, keep_unused, keeps_fields, keeps_within, le-leb, leb-true, length, length-drop, length-put, length-take, length-words, list_all, list_chain, listed_before, listed_marks, loose_away, lt-leb, made_edit, majority_of, making_marks, map, mark, moved_for_room, nat_le, nat_tests, ne_eqb, none_in_use, not, number, of_4_bytes, or_cases, owned_by, owned_once_if, owned_records, part_clear, place_in, places-sized, placing_marks, put, r_num_dims, r_sizes, record_type, refl, rules_of_good, same_link, sealed_kept, second, shape, shape_is, shorter, size_at, sizes_by_tiles, small_signed, space_fields, subst, sym, takes_edit, the_one, times, touch, touched_field, true, type_at, uir_next_uir, uir_prev_uir, uir_type, unlike, unmarked-away, unused, unused_records, w32, with_bits, with_field, with_space, within, within-within, word, word-put_inside, word_kept, words, words_kept, words_laid_out, ℕ, ◌*◌, ◌++◌, ◌+◌, ◌-◌, ◌<◌, ◌==◌, ◌^◌, ◌∙◌, ◌∷◌, ◌≡◌, ◌≢◌, ◌≤◌}
use Rattle.cdf_format.proofs.SealedRules.{sealed_keeps}
use Rattle.std.proofs.Common.{◌||◌}
use Rattle.cdf_model.specs.declared.answer.Reply.TheVariants as replies
use Rattle.cdf_model.specs.declared.command.Command.TheVariants as commands
use Rattle.cdf_edits.specs.Commands.Allowances.{Stays}
use Rattle.cdf_edits.specs.Commands.Setup.{majority_bit, setup_changes, space_taken}
use Rattle.cdf_edits.specs.Space.Taking.{IsTaken}
use Rattle.cdf_edits.proofs.Edits.EmptySet.{times_with, gdr_once, others_none, empty_shape, empty_sound, is_empty}
use Rattle.cdf_edits.proofs.Edits.FieldWritten.{Stands, stands_fixed, field_in, still_stands, still_says, touched_edit, written_edit, written_long, written_reads}
use Rattle.cdf_edits.proofs.Edits.FreedRecord.{FreesRecord, as_long_now, behind_links, freed_acts, freed_bytes, freed_edit, freed_keeps_unused, freed_type, gdr_beside, given, given_marks, gives, records_now}
use Rattle.cdf_format.proofs.Pieces.{word-piece}
use Rattle.cdf_vars.proofs.SetUpAnswers.{set_up, step_goes, taken_lies}
use Rattle.cdf_vars.proofs.Sizes.{fine_sizes, positive_sizes, sizes_small}

-- ---- bits of Flags

abbrev pub majority_flags : ℕ → Majority → ℕ
majority_flags n majority = with_bits n 0 1 (majority_bit majority)

bit_0 : (n : ℕ) (m : Majority) → majority_of (has_bit (majority_flags n m) 0) ≡ m
bit_0 n m = grind arith

bits_stay : (n : ℕ) (m : Majority) → (has_bit (majority_flags n m) 1 ≡ has_bit n 1) × (has_bit (majority_flags n m) 2 ≡ has_bit n 2) × (has_bit (majority_flags n m) 3 ≡ has_bit n 3)
bits_stay n m = grind arith

-- ---- the edit

abbrev pub heads_marks : ℕ → ℕ → List Mark
heads_marks gdr n =
    mark gdr_type (Among (gdr ∷ [])) gdr_r_num_dims
    ∷ mark gdr_type (Among (gdr ∷ [])) (gdr_r_dim_sizes n)
    ∷ mark cdr_type (Among (8 ∷ [])) cdr_gdr_offset
    ∷ mark cdr_type (Among (8 ∷ [])) cdr_encoding
    ∷ mark cdr_type (Among (8 ∷ [])) cdr_flags
    ∷ []

pub or_true : (p : Bool) → (p || true) ≡ true
or_true p = grind arith

-- bytes of the fixed part of a GDR, but for rNumDims
abbrev pub IsBeside : ℕ → ℕ → Type 0
IsBeside lo hi = ((nat_le 60 lo || nat_le hi 56) ≡ true) × (hi ≤ 84)

pub heads_avoided : (gdr n lo hi : ℕ) → IsBeside lo hi → avoided (heads_marks gdr n) gdr_type lo hi ≡ true
heads_avoided gdr n lo hi e = rw (e.0, le-leb hi 84 e.1, or_true) refl

-- a number was written in a field of a record
record Wrote (b now records : List ℕ) (m type n : ℕ) (f : Field) (to : ℕ) : Type 0 where
  edit : Edit b now records records (field_marks type m f) []
  long : length now ≡ length b
  stands : Stands now records m type n
  says : number now m f ≡ to

wrote : {b now records : List ℕ} {m type n : ℕ} {f : Field} {to : ℕ} → AreTiles b 8 (length b) records → Stands b records m type n → now ≡ with_field b m f to → 12 ≤ f.place → f.place + f.width ≤ n → to < 256 ^ f.width → avoided (field_marks type m f) type 0 12 ≡ true → Wrote b now records m type n f to
wrote {b = b} {now = now} {records = records} {m = m} {type = type} {f = f} {to = to} tiled is written late fits small heads =
    let at = field_in tiled is late fits in
    let e = written_edit b now records m type f to at written in
    record { edit = e; long = written_long b now records m type f to at written; stands = still_stands e is heads (omega arith); says = written_reads b now records m type f to at written small }

module _ {x y records list : List ℕ} {old g code bits : ℕ} {dims : List ℕ} (h : HasShape x (empty_shape records old list)) (fine : are_bad_sizes dims ≡ false) (is : Stands x records g gdr_type (84 + 4 * length dims)) (w : WritesHeads x y g code bits dims) where
  abbrev n : ℕ
  n = length dims

  abbrev one : List ℕ
  one = with_field x g gdr_r_num_dims n

  cdr : Stands x records 8 cdr_type 312
  cdr = stands_fixed h cdr_type 8 h.cdr_stands

  w1 : Wrote x one records g gdr_type (84 + 4 * n) gdr_r_num_dims n
  w1 = let few = (fine_sizes dims fine).0 in wrote h.tiled is refl (omega arith) (omega arith) (omega arith) refl

  lies : g + 84 + 4 * n ≤ length one
  lies = let l = w1.long in let r = w.lies in omega arith

  long_2 : length w.mid ≡ length one
  long_2 = ap length w.dims_are ∙ length-put one (g + 84) (of_4_bytes dims) (let l = lies in let b = length-words dims in omega arith)

  e2 : Edit one w.mid records records (field_marks gdr_type g (gdr_r_dim_sizes n)) []
  e2 = touched_edit (field_in w1.edit.tiled_now w1.stands (omega arith) (omega arith)) (subst (λ (m : List ℕ). Changed one m (touched_field g (gdr_r_dim_sizes n) ∷ [])) (sym w.dims_are) (changed_put one g 84 (4 * n) (of_4_bytes dims) (length-words dims) lies)) long_2

  dims_edit : Edit x w.mid records records (field_marks gdr_type g gdr_r_num_dims ++ field_marks gdr_type g (gdr_r_dim_sizes n)) []
  dims_edit = edit_then w1.edit e2

  gdr_2 : Stands w.mid records g gdr_type (84 + 4 * n)
  gdr_2 = still_stands e2 w1.stands (rw or_true refl) (omega arith)

  w3 : Wrote w.mid (with_field w.mid 8 cdr_gdr_offset g) records 8 cdr_type 312 cdr_gdr_offset g
  w3 = wrote dims_edit.tiled_now (still_stands dims_edit cdr refl (omega arith)) refl (omega arith) (omega arith) w.gdr_fits refl

  w4 : Wrote (with_field w.mid 8 cdr_gdr_offset g) (with_field (with_field w.mid 8 cdr_gdr_offset g) 8 cdr_encoding code) records 8 cdr_type 312 cdr_encoding code
  w4 = wrote w3.edit.tiled_now w3.stands refl (omega arith) (omega arith) w.code_fits refl

  w5 : Wrote (with_field (with_field w.mid 8 cdr_gdr_offset g) 8 cdr_encoding code) y records 8 cdr_type 312 cdr_flags bits
  w5 = wrote w4.edit.tiled_now w4.stands w.cdr_is (omega arith) (omega arith) w.bits_fit refl

  cdr_edit : Edit w.mid y records records (field_marks cdr_type 8 cdr_gdr_offset ++ (field_marks cdr_type 8 cdr_encoding ++ field_marks cdr_type 8 cdr_flags)) []
  cdr_edit = edit_then w3.edit (edit_then w4.edit w5.edit)

  pub heads_edit : Edit x y records records (heads_marks g n) []
  heads_edit = edit_then dims_edit cdr_edit

  pub heads_long : length y ≡ length x
  heads_long = w5.long ∙ w4.long ∙ w3.long ∙ long_2 ∙ w1.long

  -- ---- what they say then

  pub flags_are : flags y ≡ bits
  flags_are = w5.says

  pub count_is : number y g gdr_r_num_dims ≡ n
  count_is = still_says cdr_edit gdr_2 refl gdr_r_num_dims refl (omega arith) ∙ still_says e2 w1.stands (rw or_true refl) gdr_r_num_dims (rw or_true refl) (omega arith) ∙ w1.says

  dims_counted : r_num_dims y g ≡ n
  dims_counted = let few = (fine_sizes dims fine).0 in ap (λ (k : ℕ). counted (cast_signed w32 k)) count_is ∙ small_signed n (omega arith)

  sizes_are : r_sizes y g ≡ dims
  sizes_are =
      let kept = part_clear cdr_edit g gdr_type 84 (84 + 4 * n) gdr_2.inside gdr_2.typed refl refl gdr_2.long in
      let there = ap (drop (g + 84)) w.dims_are ∙ drop-put_there one (of_4_bytes dims) (g + 84) (let l = lies in omega arith) in
      ap (words y (g + 84)) dims_counted
      ∙ words_kept w.mid y (g + 84) (g + (84 + 4 * n)) kept (g + 84) n (omega arith) (omega arith)
      ∙ (words_laid_out w.mid (g + 84) dims (drop (g + 84 + length (of_4_bytes dims)) one) there (sizes_small dims (fine_sizes dims fine).1)).0

  -- another field of the GDR
  pub gdr_still : (f : Field) → IsBeside f.place (f.place + f.width) → number y g f ≡ number x g f
  gdr_still f beside =
      let high = beside.1 in
      still_says heads_edit is (heads_avoided g n 0 12 (refl, omega arith)) f (heads_avoided g n f.place (f.place + f.width) beside) (omega arith)

  -- ---- the shape

  types : (m : ℕ) → In m records → type_at y m ≡ type_at x m
  types m i = elim (heads_edit.kind m i) [ inl kept ↦ kept.1 | inr new ↦ elim new [ inl free ↦ absurd (free.0 i) | inr none ↦ absurd none ] ]

  pub heads_sizes : (m : ℕ) → In m records → size_at y m ≡ size_at x m
  heads_sizes = sizes_by_tiles x y 8 8 (length x) records refl h.tiled (subst (λ (k : ℕ). AreTiles y 8 k records) heads_long heads_edit.tiled_now)

  pub heads_fit : Holds y g (gdr_r_dim_sizes (r_num_dims y g))
  heads_fit = subst (λ (k : ℕ). 84 + 4 * k ≤ size_at y g) (sym dims_counted) (subst (λ (k : ℕ). 84 + 4 * n ≤ k) (sym (heads_sizes g is.inside)) is.long)

  no_chain : (type link : ℕ) → link ≡ 0 → IsChain y records type link []
  no_chain type link z = record { leads = z; linkable = λ m i. absurd i; once = tt }

  -- where the GDR has what the old one had
  pub heads_shape : ((f : Field) → 12 ≤ f.place → f.place + f.width ≤ 84 → number x g f ≡ number x old f) → HasShape y (empty_shape records g list)
  heads_shape same = record {
    tiled = heads_edit.tiled_now;
    typed = λ m i. subst (λ (t : ℕ). is_record_type t ≡ true) (sym (types m i)) (h.typed m i);
    fixed = λ m i. subst (λ (t : ℕ). fixed_size t ≤ size_at y m) (sym (types m i)) (subst (λ (k : ℕ). fixed_size (type_at x m) ≤ k) (sym (heads_sizes m i)) (h.fixed m i));
    cdr_stands = is_a-from y records cdr_type 8 cdr.inside (types 8 cdr.inside ∙ cdr.typed);
    gdr_is = still_says (edit_then w4.edit w5.edit) w3.stands refl cdr_gdr_offset refl (omega arith) ∙ w3.says;
    gdr_stands = is_a-from y records gdr_type g is.inside (types g is.inside ∙ is.typed);
    attribute_chain = no_chain _ _ (gdr_still gdr_adr_head (refl, omega arith) ∙ same gdr_adr_head (omega arith) (omega arith) ∙ h.attribute_chain.leads);
    r_chain = no_chain _ _ (gdr_still gdr_r_vdr_head (refl, omega arith) ∙ same gdr_r_vdr_head (omega arith) (omega arith) ∙ h.r_chain.leads);
    z_chain = no_chain _ _ (gdr_still gdr_z_vdr_head (refl, omega arith) ∙ same gdr_z_vdr_head (omega arith) (omega arith) ∙ h.z_chain.leads);
    unused_chain = chain_clear heads_edit uir_type _ _ list h.unused_chain (gdr_still gdr_uir_head (refl, omega arith) ∙ same gdr_uir_head (omega arith) (omega arith)) refl;
    entry_chains = tt;
    have_variables = tt;
  }

  pub heads_content : {majority : Majority} (was : ℕ) → HasShape y (empty_shape records g list) → bits ≡ majority_flags was majority → has_bit was 2 ≡ has_bit (flags x) 2 → content y ≡ set_up (content x) code majority dims
  heads_content {majority = majority} was shape bits_are in_use =
      content_is y (empty_shape records g list) shape
      ∙ (λ i. record (content_of x (empty_shape records old list)) {
        release = cast_signed w32 (still_says heads_edit cdr refl cdr_release refl (omega arith) i);
        increment = cast_signed w32 (still_says heads_edit cdr refl cdr_increment refl (omega arith) i);
        encoding = (still_says w5.edit w4.stands refl cdr_encoding refl (omega arith) ∙ w4.says) i;
        majority = (ap (λ (n : ℕ). majority_of (has_bit n 0)) (flags_are ∙ bits_are) ∙ bit_0 was majority) i;
        md5 = (ap (λ (n : ℕ). has_bit n 2) (flags_are ∙ bits_are) ∙ (bits_stay was majority).1 ∙ in_use) i;
        rdims = sizes_are i;
      })
      ∙ ap (λ (d : DataSet). set_up d code majority dims) (sym (content_is x (empty_shape records old list) h))

-- ---- what `setup` leaves, whatever became of the GDR

-- fields of a GDR that stay: not those of the dimensions, and not those of the space
abbrev IsCopied : Field → Type 0
IsCopied f = IsBeside f.place (f.place + f.width) × ((nat_le 44 f.place || nat_le (f.place + f.width) 36) ≡ true) × ((nat_le 72 f.place || nat_le (f.place + f.width) 64) ≡ true) × (nat_le 12 f.place ≡ true)

-- The CDR and the GDR say what they have to, no other record is in use, and the unused ones and the space are as these acts leave them.
record IsSetUp (b now records list : List ℕ) (gdr code bits : ℕ) (majority : Majority) (dims : List ℕ) (marks : List Mark) (reborn : List ℕ) (acts : List Act) : Type 0 where
  edit : Edit b now (shape b).records records marks reborn
  cdr_clear : (avoided marks cdr_type 0 12 ≡ true) × (avoided marks cdr_type 20 24 ≡ true) × (within marks cdr_type (cdr_encoding ∷ cdr_flags ∷ cdr_gdr_offset ∷ []) ≡ true)
  sound : IsSound now (empty_shape records gdr list)
  content_now : content now ≡ set_up (content b) code majority dims
  flags_now : flags now ≡ bits
  count_now : number now gdr gdr_r_num_dims ≡ length dims
  stays : (f : Field) → IsCopied f → number now gdr f ≡ number b (gdr_offset b) f
  end : eof now gdr ≡ length now
  longest : length now ≤ length b + (84 + 4 * length dims)
  as_owned : (m : ℕ) → (In m reborn → ⊥) → times_with gdr m ≡ times_with (gdr_offset b) m
  anew : (m : ℕ) → In m reborn → IsSorted now (empty_shape records gdr list) m
  acts_follow : ActsFollow b now acts
  unused_stay : AllKeep b now setup_changes acts (owned_by Unused (unused_records b (shape b)))
  acts_are : acts ≡ moved_for_room b (gdr_offset b) (gdr_offset now) (84 + 4 * length dims)
  room : MovesForRoom b now (gdr_offset b) (gdr_offset now) (84 + 4 * length dims)
  freed : FreedStay b now (λ type. space_fields) acts
  emptied : gdr_offset now ≢ gdr_offset b → StaysOrSays b now (gdr_offset b) (space_taken now (gdr_offset b))

module _ (b dims : List ℕ) (good : Good b) (empty : is_empty_set (content b) ≡ true) (fine : are_bad_sizes dims ≡ false) where
  abbrev s : Shape
  s = shape b

  abbrev old : ℕ
  old = gdr_offset b

  abbrev need : ℕ
  need = 84 + 4 * length dims

  sound : IsSound b s
  sound = good_is_sound b good

  abbrev before : Shape
  before = empty_shape (shape b).records (gdr_offset b) (shape b).unused

  at : (shape b).gdr ≡ old
  at = sym sound.has_shape.gdr_is

  before_is : s ≡ before
  before_is = is_empty b good empty ∙ ap (λ (g : ℕ). empty_shape s.records g s.unused) at

  image : IsGoodByShape b before
  image = subst (IsGoodByShape b) before_is (good_by_its_shape b good)

  bare : IsSound b before
  bare = subst (IsSound b) before_is sound

  cdr_before : Stands b s.records 8 cdr_type 312
  cdr_before = stands_fixed sound.has_shape cdr_type 8 sound.has_shape.cdr_stands

  gdr_before : Stands b s.records old gdr_type 84
  gdr_before = stands_fixed bare.has_shape gdr_type old bare.has_shape.gdr_stands

  module _ {now records list : List ℕ} {gdr code bits : ℕ} {majority : Majority} {marks : List Mark} {reborn : List ℕ} {acts : List Act} (read : is_some (encoding_at code) ≡ true) (bits_are : bits ≡ majority_flags (flags b) majority) (is : IsSetUp b now records list gdr code bits majority dims marks reborn acts) where
    abbrev own : Shape
    own = empty_shape records gdr list

    moved : (f : Field) → IsCopied f → number now (gdr_offset now) f ≡ number b (gdr_offset b) f
    moved f copied = ap (λ (g : ℕ). number now g f) is.sound.has_shape.gdr_is ∙ is.stays f copied

    says : FirstSays now gdr
    says =
        let was = first_said b s sound.has_shape sound.gdr_fits (sealed_kept b (good_long b s (good_by_its_shape b good)) (rules_of_good b good)).0 in
        let bits_now = is.flags_now ∙ bits_are in
        let bits = bits_stay (flags b) majority in
        let own_content : content_of now own ≡ set_up (content b) code majority dims = sym (content_is now own is.sound.has_shape) ∙ is.content_now in
        let few : number now gdr gdr_r_num_dims ≤ 10 = rw is.count_now (fine_sizes dims fine).0 in
        let md5 : (not (has_bit (flags now) 2) || has_bit (flags now) 3) ≡ true = rw (bits_now, bits.1, bits.2) was.md5_used in
        assumption (
          word_kept b now 0 8 is.edit.front 0 4 (omega arith) (omega arith) ∙ was.first_magic,
          word_kept b now 0 8 is.edit.front 4 4 (omega arith) (omega arith) ∙ was.second_magic,
          still_says is.edit cdr_before is.cdr_clear.0 cdr_version is.cdr_clear.1 (omega arith) ∙ was.version_is,
          few,
          md5,
          is.end,
          ap (λ (n : ℕ). has_bit n 1) bits_now ∙ bits.0 ∙ was.single_file,
          ap (λ (d : DataSet). is_some (encoding_at d.encoding)) own_content ∙ read,
          ap (λ (d : DataSet). list_all is_positive d.rdims) own_content ∙ positive_sizes dims (fine_sizes dims fine).1,
        )

    good_now : IsGoodByShape now own
    good_now =
        let none = λ (f : Field) (copied : IsCopied f) (zero : (number b (gdr_offset b) f == 0) ≡ true). ap (λ (n : ℕ). n == 0) (moved f copied) ∙ zero in
        assumption (
          is.sound,
          none gdr_num_attr ((refl, omega arith), refl, refl, refl) image.counting.0,
          none gdr_nr_vars ((refl, omega arith), refl, refl, refl) image.counting.1.0,
          none gdr_nz_vars ((refl, omega arith), refl, refl, refl) image.counting.1.1.0,
          owned_once_if b now before own marks reborn bare image.owned_once is.edit is.as_owned is.anew,
        )

    setup_follows : length b + need ≤ image_limit → Follows b (commands.Setup code majority dims) now
    setup_follows room =
        let records_are = ap (λ (x : Shape). x.records) (shape_is now own is.sound.has_shape) in
        let heads = keeps_fields sound is.edit records_are 8 cdr_type (cdr_encoding ∷ cdr_flags ∷ cdr_gdr_offset ∷ []) cdr_before.inside cdr_before.typed is.cdr_clear.0 is.cdr_clear.2 in
        record {
          reply = replies.Plain;
          goes = rw is.content_now (step_goes (content b) code majority dims read fine empty);
          good = sealed_keeps now own (first_hold now own is.sound.has_shape is.sound.gdr_fits says (let l = is.longest in omega arith)) good_now;
          longer = is.edit.longer;
          within = is.longest;
          reads = λ q. absurd cc;
          acts = acts;
          takes_within = rw is.acts_are (elim (either (nat_le need (size_at b (gdr_offset b)))) [ inl e ↦ rw e (omega arith) | inr e ↦ rw e (omega arith) ]);
          acts_follow = is.acts_follow;
          keeps = all_keep b now setup_changes acts (keep_file b now setup_changes acts sound heads tt) (keep_attributes b now setup_changes acts 0 s.attributes (λ m i. absurd (subst (λ (x : Shape). In m (all_attribute_records x)) before_is i))) (λ m i. absurd (subst (λ (x : Shape). In m (all_variable_records x)) before_is i)) is.unused_stay;
          does = assumption (is.flags_now ∙ bits_are, moved gdr_r_max_rec ((refl, omega arith), refl, refl, refl), moved gdr_rfu_c ((refl, omega arith), refl, refl, refl), moved gdr_leap_second_last_updated ((refl, omega arith), refl, refl, refl), moved gdr_rfu_e ((refl, omega arith), refl, refl, refl));
        }

  -- ---- the GDR has room for the dimensions, and stays in its place

  module _ {now : List ℕ} {place code bits : ℕ} (majority : Majority) (read : is_some (encoding_at code) ≡ true) (bits_are : bits ≡ majority_flags (flags b) majority) (place_is : place ≡ gdr_offset b) (fits : need ≤ size_at b (gdr_offset b)) (roomy : length b + need ≤ image_limit) (w : WritesHeads b now place code bits dims) where
    gdr : Stands b s.records old gdr_type need
    gdr = record { inside = gdr_before.inside; typed = gdr_before.typed; long = fits }

    here : WritesHeads b now old code bits dims
    here = subst (λ (g : ℕ). WritesHeads b now g code bits dims) place_is w

    abbrev in_place : List Mark
    in_place = heads_marks old (length dims)

    e : Edit b now s.records s.records in_place []
    e = heads_edit bare.has_shape fine gdr here

    same_long : length now ≡ length b
    same_long = heads_long bare.has_shape fine gdr here

    shape_now : HasShape now before
    shape_now = heads_shape bare.has_shape fine gdr here (λ f low high. refl)

    same_shape : shape now ≡ before
    same_shape = shape_is now before shape_now

    kept_set : IsSetUp b now s.records s.unused old code bits majority dims in_place [] []
    kept_set = record {
      edit = e;
      cdr_clear = (refl, refl, refl);
      sound = empty_sound b now before [] bare e shape_now (heads_fit bare.has_shape fine gdr here) (λ m out. omega arith) (λ m i. absurd i);
      content_now = heads_content bare.has_shape fine gdr here (flags b) shape_now bits_are refl;
      flags_now = flags_are bare.has_shape fine gdr here;
      count_now = count_is bare.has_shape fine gdr here;
      stays = λ f copied. gdr_still bare.has_shape fine gdr here f copied.0;
      end = gdr_still bare.has_shape fine gdr here gdr_eof (refl, omega arith) ∙ good_eof b good ∙ sym same_long;
      longest = omega (arith, same_long);
      as_owned = λ m out. refl;
      anew = λ m i. absurd i;
      acts_follow = acts_none sound e refl refl (ap (λ (x : Shape). x.records) same_shape) (ap (λ (x : Shape). x.unused) same_shape) same_long;
      unused_stay =
          keep_unused sound e (ap (λ (x : Shape). x.records) same_shape) setup_changes [] (λ m i free. (avoided-avoids in_place uir_type m 0 12 refl, within-within in_place uir_type m (uir_next_uir ∷ uir_prev_uir ∷ []) refl)) (λ m i out. unmarked-away in_place uir_type m refl);
      acts_are = rw (le-leb need (size_at b (gdr_offset b)) fits) refl;
      room = λ le. assumption (
        shape_now.gdr_is,
        heads_sizes bare.has_shape fine gdr here old gdr_before.inside,
        e.part old gdr_type need (size_at b old) gdr_before.inside gdr_before.typed (avoided-avoids in_place gdr_type old 0 12 (heads_avoided old (length dims) 0 12 (refl, omega arith)))
            (let other = λ (q : gdr_type ≡ cdr_type). apart gdr_type cdr_type refl q in ((λ q lies. inr (omega arith)), ((λ q lies. inr (omega arith)), ((λ q lies. absurd (other q)), ((λ q lies. absurd (other q)), ((λ q lies. absurd (other q)), tt)))))) (omega arith),
      );
      freed = tt;
      emptied = λ moves. absurd (moves shape_now.gdr_is);
    }

    pub keeps_follows : Follows b (commands.Setup code majority dims) now
    keeps_follows = setup_follows read bits_are kept_set roomy

  -- ---- it has no room: another one is made

  module _ {late : List ℕ} {place code bits : ℕ} (m : MakesGdr b late code bits dims place) where
    abbrev records : List ℕ
    records = (shape m.taken).records

    abbrev list : List ℕ
    list = (shape m.taken).unused

    is_taken : IsTaken b m.taken s (with_space s records list) need place
    is_taken = subst (λ (x : Shape). IsTaken b m.taken s x need place) m.is_taken.0.space.rest_stays m.is_taken

    taken_old : Stands m.taken records old gdr_type 84
    taken_old = still_stands (takes_edit sound (omega arith) is_taken.0) gdr_before refl (omega arith)

    -- ---- the old one is copied

    abbrev piece : List ℕ
    piece = gdr_fields m.taken old

    piece_long : length piece ≡ 76
    piece_long = let l = gdr_fits b good in let e = is_taken.0.changed.longer in simp (length-take, length-drop) (omega arith)

    copied_field : (f : Field) → 8 ≤ f.place → f.place + f.width ≤ 84 → number m.copied place f ≡ number m.taken old f
    copied_field f low high =
        let l = taken_lies m.is_taken.0 m.is_taken.1 in
        let p = piece_long in
        let from : place + f.place ≡ place + 8 + (f.place - 8) = omega arith in
        let to : old + 8 + (f.place - 8) ≡ old + f.place = omega arith in
        ap (λ (x : List ℕ). number x place f) m.copy
        ∙ ap (λ (p : ℕ). word (put m.taken (place + 8) piece) p f.width) from
        ∙ word-put_inside m.taken piece (place + 8) (f.place - 8) f.width (omega arith) (omega arith)
        ∙ word-piece m.taken (old + 8) (f.place - 8) f.width 76 (omega arith)
        ∙ ap (λ (p : ℕ). word m.taken p f.width) to

    fills : Fills b m.taken m.copied s records list need place gdr_type
    fills =
        let l = taken_lies m.is_taken.0 m.is_taken.1 in
        let long : length m.copied ≡ length m.taken = ap length m.copy ∙ length-put m.taken (place + 8) piece (let p = piece_long in omega arith) in
        let change = changed_put m.taken place 8 76 piece piece_long (omega arith) in
        let fill : Changed m.taken m.copied (touch place 8 (need - 8) ∷ []) = record { longer = omega arith; same = λ i lt out. ap (λ (x : List ℕ). byte x i) m.copy ∙ change.same i lt (elim out.0 [ inl low ↦ inl low | inr high ↦ inr (omega arith) ], tt) } in
        let fixed : 84 ≤ need = omega arith in
        let enough : 28 ≤ need = omega arith in
        assumption (is_taken, fill, long, copied_field record_type (omega arith) (omega arith) ∙ taken_old.typed, apart gdr_type uir_type refl, fixed, enough)

    copied_shape : HasShape m.copied (empty_shape records old list)
    copied_shape = subst (λ (x : Shape). HasShape m.copied (with_space x records list)) before_is (filled_sound sound fills).has_shape

    -- the old one stays whole while it is copied
    copied_old : Stands m.copied records old gdr_type 84
    copied_old = still_stands (second sound fills) taken_old refl (omega arith)

    -- ---- the dimensions and the CDR are written

    new : Stands m.copied records place gdr_type need
    new = record { inside = place_in sound fills; typed = fills.typed; long = omega (arith, filled_size sound fills) }

    abbrev late_marks : List Mark
    late_marks = heads_marks place (length dims)

    abbrev make_marks : List Mark
    make_marks = making_marks (shape b).unused place (84 + 4 * length dims) (heads_marks place (length dims))

    later : Edit m.copied late records records late_marks []
    later = heads_edit copied_shape fine new m.heads

    lately : is_late late_marks gdr_type ≡ true
    lately = simp or_true

    as_long : length late ≡ length m.copied
    as_long = heads_long copied_shape fine new m.heads

    made : Edit b late s.records records make_marks (place ∷ [])
    made = made_edit sound fills later as_long lately

    late_shape : HasShape late (empty_shape records place list)
    late_shape = heads_shape copied_shape fine new m.heads (λ f low high. copied_field f (omega arith) high ∙ sym (still_says (second sound fills) taken_old refl f refl high))

    late_is : shape late ≡ empty_shape records place list
    late_is = shape_is late (empty_shape records place list) late_shape

    late_records : (shape late).records ≡ records
    late_records = ap (λ (x : Shape). x.records) late_is

    -- the new GDR is none of the records that were in use
    place_not_old : old ≢ place
    place_not_old = unlike sound fills old gdr_before.inside (λ u. apart gdr_type uir_type refl (sym gdr_before.typed ∙ u))

    place_not_8 : place ≢ 8
    place_not_8 q = unlike sound fills 8 cdr_before.inside (λ u. apart cdr_type uir_type refl (sym cdr_before.typed ∙ u)) (sym q)

    old_not_8 : old ≢ 8
    old_not_8 q = apart gdr_type cdr_type refl (sym gdr_before.typed ∙ ap (type_at b) q ∙ cdr_before.typed)

    -- ---- the old one

    late_old : Stands late records old gdr_type 84
    late_old = still_stands later copied_old (heads_avoided place (length dims) 0 12 (refl, omega arith)) (omega arith)

    -- it changed in its fields of the space alone
    old_stays : Stays b late old space_fields
    old_stays =
        let no = λ (lies : In old (place ∷ [])). place_not_old (the_one place old lies) in
        let away : Away late_marks gdr_type old = ((λ q lies. no lies), ((λ q lies. no lies), ((λ q lies. apart gdr_type cdr_type refl q), ((λ q lies. apart gdr_type cdr_type refl q), ((λ q lies. apart gdr_type cdr_type refl q), tt))))) in
        let placing = placing_marks (shape b).unused place need in
        keeps_within sound made late_records old gdr_type space_fields gdr_before.inside gdr_before.typed (Avoids-append placing late_marks gdr_type old 0 12 (avoided-avoids placing gdr_type old 0 12 refl) (away-avoids late_marks gdr_type old 0 12 away))
        (Within-append placing late_marks gdr_type old space_fields (within-within placing gdr_type old space_fields refl) (away-within late_marks gdr_type old space_fields away))

    -- what a call asks for that frees it
    pub late_sound : IsSound late (shape late)
    late_sound = rw late_is (empty_sound b late before (place ∷ []) bare made late_shape (heads_fit copied_shape fine new m.heads) (λ k out. rw (ne_eqb k place (λ q. out (inl q))) (grind (arith, nat_tests)))
        (λ k i. subst (IsHeld late (empty_shape records place list)) (sym (the_one place k i)) (inl ((λ u. apart gdr_type uir_type refl (sym (gdr_typed late _ late_shape) ∙ u)), omega (arith, gdr_once place place_not_8)))))

    pub old_stands : (g : ℕ) → g ≡ gdr_offset b → In g (shape late).records
    old_stands g is = rw (is, late_records) late_old.inside

    pub old_free : (g : ℕ) → g ≡ gdr_offset b → times g (owned_records late (shape late)) ≡ 0
    old_free g is = subst (λ (x : ℕ). times x (owned_records late (shape late)) ≡ 0) (sym is) (rw late_is (none_in_use late (empty_shape records place list) late_shape.tiled old (λ u. apart gdr_type uir_type refl (sym late_old.typed ∙ u)) (others_none place old old_not_8 place_not_old)))

    -- ---- and the old one is freed

    module _ (now : List ℕ) (majority : Majority) (read : is_some (encoding_at code) ≡ true) (bits_are : bits ≡ majority_flags (flags b) majority) (large : size_at b (gdr_offset b) < need) (free : IsGiven late now (shape late) (shape now) (gdr_offset b)) where
      f : FreesRecord b late now (empty_shape records place list) make_marks (place ∷ []) old gdr_type
      f = record { sound = sound; edit = made; late_sound = late_sound; late_is = late_is; inside = gdr_before.inside; typed = late_old.typed; used = λ u. apart gdr_type uir_type refl u; other = λ same. place_not_old; size_is = old_stays.size_is; frees = free.0 }

      abbrev own_now : Shape
      own_now = empty_shape records place (shape now).unused

      now_sound : IsSound now own_now
      now_sound = subst (IsSound now) ((gives f).space.rest_stays ∙ ap (λ (r : List ℕ). empty_shape r place (shape now).unused) (records_now f)) free.1

      h : HasShape now own_now
      h = now_sound.has_shape

      place_now : (f' : Field) → (nat_le 72 f'.place || nat_le (f'.place + f'.width) 64) ≡ true → f'.place + f'.width ≤ 84 → number now place f' ≡ number late place f'
      place_now f' beside fits = gdr_beside f f' (elim (or_cases (nat_le 72 f'.place) (nat_le (f'.place + f'.width) 64) beside) [ inl x ↦ inr (leb-true 72 f'.place x) | inr x ↦ inl (leb-true (f'.place + f'.width) 64 x) ]) fits

      -- ---- the old one

      abbrev acts : List Act
      acts = Took place need ∷ Gave old (size_at b old) ∷ []

      now_list : (shape now).unused ≡ old ∷ list
      now_list =
          sym (places-sized now (shape now).unused) ∙ ap (map (λ pair. pair.0)) (gives f).list_is ∙ ap (λ (p : Bool). map (λ pair. pair.0) (if p then (old, size_at late old) ∷ unused late (empty_shape records place list) else unused late (empty_shape records place list))) (le-leb 28 (size_at late old) (let l = late_old.long in omega arith))
          ∙ ap (λ (x : List ℕ). old ∷ x) (places-sized late list)

      old_field : (f' : Field) → 28 ≤ f'.place → f'.place + f'.width ≤ 84 → number now old f' ≡ number late old f'
      old_field f' low high = let l = gdr_before.long in word_kept late now (old + 28) (old + size_at b old) (behind_links f (omega arith)) (old + f'.place) f'.width (omega arith) (omega arith)

      -- ---- the whole

      moved_set : IsSetUp b now records (shape now).unused place code bits majority dims (make_marks ++ given_marks f) (place ∷ old ∷ []) acts
      moved_set = record {
        edit = freed_edit f;
        cdr_clear = (refl, refl, refl);
        sound = now_sound;
        content_now = free.2 ∙ heads_content copied_shape fine new m.heads (flags b) late_shape bits_are (sym (ap (λ (n : ℕ). has_bit n 2) (still_says (filled_edit sound fills) cdr_before refl cdr_flags refl (omega arith)))) ∙ ap (λ (d : DataSet). set_up d code majority dims) (filled_content sound fills);
        flags_now = still_says (given f) (stands_fixed late_shape cdr_type 8 late_shape.cdr_stands) refl cdr_flags refl (omega arith) ∙ flags_are copied_shape fine new m.heads;
        count_now = place_now gdr_r_num_dims refl (omega arith) ∙ count_is copied_shape fine new m.heads;
        stays = λ f' copied. place_now f' copied.2 copied.0.1 ∙ gdr_still copied_shape fine new m.heads f' copied.0 ∙ copied_field f' (let l = leb-true 12 f'.place copied.3 in omega arith) copied.0.1
            ∙ still_says (takes_edit sound (omega arith) is_taken.0) gdr_before refl f' (rw (copied.1, copied.2) refl) copied.0.1;
        end = place_now gdr_eof refl (omega arith) ∙ gdr_still copied_shape fine new m.heads gdr_eof (refl, omega arith) ∙ copied_field gdr_eof (omega arith) (omega arith) ∙ ap (eof m.taken) (sym at) ∙ is_taken.0.eof_is ∙ sym (as_long_now f ∙ as_long ∙ fills.long);
        longest = let l = shorter sound fills later as_long lately in let a = as_long_now f in omega arith;
        as_owned = λ k out. rw (ne_eqb k old (λ q. out (inr (inl q))), ne_eqb k place (λ q. out (inl q))) refl;
        anew = λ k i. elim i [
          | inl q ↦ subst (IsSorted now own_now) (sym q) (inl ((λ u. apart gdr_type uir_type refl (sym (gdr_typed now own_now h) ∙ u)), gdr_once place place_not_8))
          | inr last ↦ subst (IsSorted now own_now) (sym (the_one old k last)) (inr (freed_type f, others_none place old old_not_8 place_not_old))
        ];
        acts_follow = freed_acts f (acts_took sound fills later as_long lately late_records (ap (λ (x : Shape). x.unused) late_is));
        unused_stay = freed_keeps_unused f setup_changes acts (λ k i left. listed_marks sound fills later as_long lately late_records k i left)
            (λ k i out. (loose_away sound fills later as_long lately k i out, (λ j. out (listed_before sound fills later as_long lately k i j))));
        acts_are = rw (lt-leb need (size_at b (gdr_offset b)) large) (λ i. Took (sym h.gdr_is i) need ∷ Gave old (size_at b old) ∷ []);
        room = λ le. absurd (omega (arith, large, le));
        freed = freed_bytes f acts (λ type. space_fields) (λ n lt low out. old_stays.same n lt out);
        emptied = λ apart_from.
            let chain = subst (IsChain now records uir_type (number now place gdr_uir_head)) now_list now_sound.has_shape.unused_chain in (
              inr (old_field gdr_uir_head (omega arith) (omega arith) ∙ ap (λ (g : ℕ). number late g gdr_uir_head) (sym at) ∙ same_link late now _ _ list (list_chain sound fills later as_long lately).leads chain.leads.1),
              (inr (old_field gdr_eof (omega arith) (omega arith) ∙ ap (eof late) (sym at) ∙ end_now sound fills later as_long lately ∙ sym (as_long_now f)), tt),
            );
      }

      pub moves_follows : length b + need ≤ image_limit → Follows b (commands.Setup code majority dims) now
      moves_follows = setup_follows read bits_are moved_set
