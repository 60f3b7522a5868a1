-- The rules on the length, the magic numbers and the two first records of a sealed image, by what the image says.
use Rattle.cdf_edits.proofs.Common.{AllHold, Bool, HasShape, Hold, Holds, List, Same, Shape, and_from, ap, arith, asked, both, cast_signed, cdr_type, counted, encoding, encoding_at, eof, eq-eqb, eq_of, first_phases, fixed_size, flags, flags_of_front, gdr_offset, gdr_r_dim_sizes, gdr_r_num_dims, gdr_rows, gdr_type, get_or_append_left, has_bit, has_checksum, has_gdr, if◌then◌else◌, image_limit, is_a-in, is_a-type, is_positive, is_record, is_some, leb-true, length, length-append, list_all, nat_le, number, of_le, r_num_dims, r_sizes, sealed, short_trailer, size_at, subst, sym, tile_lies, trailer, trailer_is, trailer_length, true, type_at, version, w32, w64, word, word_kept, words, words_kept, ℕ, ◌*◌, ◌+◌, ◌-◌, ◌∙◌, ◌≡◌, ◌≤◌}
use Rattle.std.proofs.Common.{not, ◌||◌}

-- what the rules ask of the magic numbers, the CDR, and the GDR at a place
pub record FirstSays (b : List ℕ) (gdr : ℕ) : Type 0 where
  pub first_magic : word b 0 4 ≡ 0xcdf30001
  pub second_magic : word b 4 4 ≡ 0x0000ffff
  pub version_is : version b ≡ 3
  pub encoding_read : is_some (encoding_at (encoding b)) ≡ true
  pub single_file : has_bit (flags b) 1 ≡ true
  pub md5_used : (not (has_checksum b) || has_bit (flags b) 3) ≡ true
  pub few : number b gdr gdr_r_num_dims ≤ 10
  pub positive : list_all is_positive (r_sizes b gdr) ≡ true
  pub eof_is : eof b gdr ≡ length b

counted8_le : (n : ℕ) → counted (cast_signed w64 n) ≤ n
counted8_le n = grind arith

record_from : (f : List ℕ) (place type least : ℕ) → type_at f place ≡ type → least ≤ size_at f place → place + size_at f place ≤ length f → is_record f place type least ≡ true
record_from f place type least t l r = and_from _ _ (eq-eqb _ _ t) (and_from _ _ (of_le _ _ l) (of_le _ _ r))

module _ (b : List ℕ) (s : Shape) (h : HasShape b s) (fits : Holds b s.gdr (gdr_r_dim_sizes (r_num_dims b s.gdr))) where
  abbrev f : List ℕ
  f = sealed b

  abbrev g : ℕ
  g = s.gdr

  front : Same b f 0 (length b)
  front = record { each = λ i l lt. get_or_append_left b (trailer b) 0 i lt }

  -- the same of the file and its image
  of_image : (place n : ℕ) → place + n ≤ length b → word f place n ≡ word b place n
  of_image place n inside = word_kept b f 0 (length b) front place n (omega arith) inside

  cdr_typed : type_at b 8 ≡ cdr_type
  cdr_typed = is_a-type b s.records cdr_type 8 h.cdr_stands

  cdr_long : 312 ≤ size_at b 8
  cdr_long = subst (λ (t : ℕ). fixed_size t ≤ size_at b 8) cdr_typed (h.fixed 8 (is_a-in b s.records cdr_type 8 h.cdr_stands))

  cdr_ends : 8 + size_at b 8 ≤ length b
  cdr_ends = (tile_lies b 8 (length b) s.records 8 h.tiled (is_a-in b s.records cdr_type 8 h.cdr_stands)).high

  cdr_inside : 320 ≤ length b
  cdr_inside = let l = cdr_long in let e = cdr_ends in omega arith

  flags_here : flags f ≡ flags b
  flags_here = of_image 40 4 (let l = cdr_inside in omega arith)

  gdr_typed : type_at b g ≡ gdr_type
  gdr_typed = is_a-type b s.records gdr_type g h.gdr_stands

  gdr_low : 8 ≤ g
  gdr_low = (tile_lies b 8 (length b) s.records g h.tiled (is_a-in b s.records gdr_type g h.gdr_stands)).low

  gdr_ends : g + size_at b g ≤ length b
  gdr_ends = (tile_lies b 8 (length b) s.records g h.tiled (is_a-in b s.records gdr_type g h.gdr_stands)).high

  inside : (n : ℕ) → n ≤ 84 + 4 * r_num_dims b g → g + n ≤ length b
  inside n le = within g n (84 + 4 * r_num_dims b g) (size_at b g) (length b) le fits gdr_ends
    where
      within : (x n m k l : ℕ) → n ≤ m → m ≤ k → x + k ≤ l → x + n ≤ l
      within x n m k l p q r = omega arith

  longer : length f ≡ length b + length (trailer b)
  longer = length-append b (trailer b)

  -- the file ends with its trailer
  image_end : length f - trailer_length f ≡ length b
  image_end =
      let t : trailer_length f ≡ length (trailer b) = ap (λ (p : Bool). if p then 16 else 0) (flags_of_front b (trailer b) (let l = cdr_inside in omega arith)) ∙ sym (trailer_is b) in
      less (length f) (length b) (length (trailer b)) (trailer_length f) longer t
    where
      less : (x l t u : ℕ) → x ≡ l + t → u ≡ t → x - u ≡ l
      less x l t u p q = omega arith

  reach : (n : ℕ) → n ≤ length b → n ≤ length f
  reach n le = up n (length b) (length f) (length (trailer b)) le longer
    where
      up : (n l x t : ℕ) → n ≤ l → x ≡ l + t → n ≤ x
      up n l x t p q = omega arith

  offset_here : gdr_offset f ≡ g
  offset_here = of_image 20 8 (let l = cdr_inside in omega arith) ∙ h.gdr_is

  -- ---- the GDR

  count_here : number f g gdr_r_num_dims ≡ number b g gdr_r_num_dims
  count_here = of_image (g + 56) 4 (let i = inside 60 (omega arith) in omega arith)

  dimensions_here : r_num_dims f g ≡ r_num_dims b g
  dimensions_here = ap (λ (n : ℕ). counted (cast_signed w32 n)) count_here

  sizes_here : r_sizes f g ≡ r_sizes b g
  sizes_here =
      let d = r_num_dims b g in
      ap (words f (g + 84)) dimensions_here ∙ words_kept b f 0 (length b) front (g + 84) d (omega arith) (let i = inside (84 + 4 * d) (omega arith) in room g d (length b) i)
    where
      room : (x d l : ℕ) → x + (84 + 4 * d) ≤ l → x + 84 + 4 * d ≤ l
      room x d l p = omega arith

  size_here : size_at f g ≡ size_at b g
  size_here = of_image (g + 0) 8 (let i = inside 12 (omega arith) in omega arith)

  -- what the rules said
  pub first_said : AllHold (first_phases f) → FirstSays b g
  first_said rules =
      let l = cdr_inside in
      let i = inside 84 (omega arith) in
      let there = subst (λ (t : Bool). Hold (asked t (gdr_rows f (gdr_offset f)))) rules.1.1.1.0.0 rules.1.1.1.0.1 in
      let rows = subst (λ (x : ℕ). Hold (gdr_rows f x)) offset_here there in
      record {
        first_magic = sym (of_image 0 4 (omega arith)) ∙ eq_of _ _ rules.1.0.0;
        second_magic = sym (of_image 4 4 (omega arith)) ∙ eq_of _ _ rules.1.0.1.0;
        version_is = sym (of_image 28 4 (omega arith)) ∙ eq_of _ _ rules.1.1.0.1.1.0;
        encoding_read = ap (λ (n : ℕ). is_some (encoding_at n)) (sym (of_image 36 4 (omega arith))) ∙ rules.1.1.0.1.1.1.0;
        single_file = sym (ap (λ (n : ℕ). has_bit n 1) flags_here) ∙ rules.1.1.0.1.1.1.1.0;
        md5_used = sym (ap (λ (n : ℕ). not (has_bit n 2) || has_bit n 3) flags_here) ∙ rules.1.1.0.1.1.1.1.1.0;
        few = subst (λ (n : ℕ). n ≤ 10) count_here (leb-true _ _ (both (nat_le (number f g gdr_r_num_dims) 10) (is_record f g 2 (84 + 4 * r_num_dims f g)) rows.0).0);
        positive = ap (list_all is_positive) (sym sizes_here) ∙ rows.1.0;
        eof_is = sym (of_image (g + 36) 8 (omega arith)) ∙ eq_of _ _ rows.1.1.0 ∙ image_end;
      }

  module _ (says : FirstSays b s.gdr) (short : length b ≤ image_limit) where
    not_longer : length f ≤ image_limit + 16
    not_longer = sum_up (length f) (length b) (length (trailer b)) (trailer_length b) longer (trailer_is b) (short_trailer b) short
      where
        sum_up : (x l t u : ℕ) → x ≡ l + t → t ≡ u → u ≤ 16 → l ≤ image_limit → x ≤ image_limit + 16
        sum_up x l t u p q r e = omega arith

    gdr_rules : Hold (gdr_rows f g)
    gdr_rules =
        let few : nat_le (number f g gdr_r_num_dims) 10 ≡ true = of_le _ _ (subst (λ (n : ℕ). n ≤ 10) (sym count_here) says.few) in
        let type : type_at f g ≡ 2 = of_image (g + 8) 4 (let i = inside 12 (omega arith) in omega arith) ∙ gdr_typed in
        let least : 84 + 4 * r_num_dims f g ≤ size_at f g = subst (λ (x : ℕ). 84 + 4 * r_num_dims f g ≤ x) (sym size_here) (subst (λ (x : ℕ). 84 + 4 * x ≤ size_at b g) (sym dimensions_here) fits) in
        let ends : g + size_at f g ≤ length f = subst (λ (x : ℕ). g + x ≤ length f) (sym size_here) (reach (g + size_at b g) gdr_ends) in
        let wide : is_record f g 2 (84 + 4 * r_num_dims f g) ≡ true = record_from f g 2 (84 + 4 * r_num_dims f g) type least ends in
        let end : eof f g ≡ length b = of_image (g + 36) 8 (let i = inside 44 (omega arith) in omega arith) ∙ says.eof_is in
        let at_end = eq-eqb (eof f g) (length f - trailer_length f) (end ∙ sym image_end) in
        let limit : counted (cast_signed w64 (eof f g)) ≤ image_limit = subst (λ (n : ℕ). counted (cast_signed w64 n) ≤ image_limit) (sym end) (through _ (length b) (counted8_le (length b)) short) in
        (and_from _ _ few wide, (ap (list_all is_positive) sizes_here ∙ says.positive, (at_end, (of_le _ _ limit, tt))))
      where
        through : (x l : ℕ) → x ≤ l → l ≤ image_limit → x ≤ image_limit
        through x l p q = omega arith

    pub first_hold : AllHold (first_phases f)
    first_hold =
        let l = cdr_inside in
        let size : size_at f 8 ≡ size_at b 8 = of_image 8 8 (omega arith) in
        let type : type_at f 8 ≡ 1 = of_image 16 4 (omega arith) ∙ cdr_typed in
        let cdr : is_record f 8 1 312 ≡ true = record_from f 8 1 312 type (subst (λ (x : ℕ). 312 ≤ x) (sym size) cdr_long) (subst (λ (x : ℕ). 8 + x ≤ length f) (sym size) (reach (8 + size_at b 8) cdr_ends)) in
        let at_g : has_gdr f ≡ true = and_from _ _ (of_le _ _ (subst (λ (x : ℕ). 8 ≤ x) (sym offset_here) gdr_low)) (of_le _ _ (subst (λ (x : ℕ). x + 84 ≤ length f) (sym offset_here) (reach (g + 84) (inside 84 (omega arith))))) in
        let rows : Hold (gdr_rows f (gdr_offset f)) = subst (λ (x : ℕ). Hold (gdr_rows f x)) (sym offset_here) gdr_rules in (
          (of_le _ _ (reach 8 (omega arith)), (of_le _ _ not_longer, tt)),
          (
            (eq-eqb _ _ (of_image 0 4 (omega arith) ∙ says.first_magic), (eq-eqb _ _ (of_image 4 4 (omega arith) ∙ says.second_magic), tt)),
            (
              (
                of_le _ _ (reach 320 l),
                (
                  cdr,
                  (
                    eq-eqb _ _ (of_image 28 4 (omega arith) ∙ says.version_is),
                    (
                      ap (λ (n : ℕ). is_some (encoding_at n)) (of_image 36 4 (omega arith)) ∙ says.encoding_read,
                      (ap (λ (n : ℕ). has_bit n 1) flags_here ∙ says.single_file, (ap (λ (n : ℕ). not (has_bit n 2) || has_bit n 3) flags_here ∙ says.md5_used, tt)),
                    ),
                  ),
                ),
              ),
              ((at_g, subst (λ (t : Bool). Hold (asked t (gdr_rows f (gdr_offset f)))) (sym at_g) rows), tt),
            ),
          ),
        )
