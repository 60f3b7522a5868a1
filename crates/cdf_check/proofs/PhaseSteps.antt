-- The phases of a file, put together.
use Rattle.cdf_check.proofs.Common.{AllHold, Bool, Finding, Finds, FirstBroken, HasRoomForSizes, Hold, Hold-asked, Holds, IsBroken, Judges, JudgesImage, List, Row, [], ap, arith, asked, both, cast_signed, counted, drop, false, first_phases, gdr_offset, gdr_r_dim_sizes, gdr_r_num_dims, gdr_rows, has_checksum, has_gdr, if◌then◌else◌, image_of, image_phases, is_record, le_of, length, length-take, nat_le, number, phase10, r_num_dims, refl, row, size_at, subst, subst₂, suc, sym, take, trailer_length, trailer_size, true, w32, word, zero, ℕ, ◌*◌, ◌++◌, ◌+◌, ◌-◌, ◌<◌, ◌^◌, ◌∙◌, ◌∷◌, ◌≡◌, ◌≢◌, ◌≤◌}
use Rattle.std.specs.Prelude.{bytes_eq, Some}
use Rattle.std.specs.declared.option.Option.{Option}
use Rattle.md5.specs.Md5.{md5}
use Rattle.cdf_model.specs.Limits.{image_limit}
use Rattle.cdf_format.specs.WellFormed.{WellFormed, Breaks}
use Rattle.cdf_format.proofs.FileRecords.{record-of}
use Rattle.cdf_format.proofs.ImageOf.{short_trailer}
use Rattle.cdf_format.proofs.Pieces.{word-piece}
use Rattle.cdf_check.specs.declared.verdict.Broken.{Broken}

-- ---- phases before others

FirstBroken-before : (xs ys : List (List Row)) (n rule place : ℕ) → FirstBroken xs n rule place → FirstBroken (xs ++ ys) n rule place
FirstBroken-before [] ys n rule place p = absurd p
FirstBroken-before (x ∷ xs) ys zero rule place p = p
FirstBroken-before (x ∷ xs) ys (suc n) rule place p = (p.0, FirstBroken-before xs ys n rule place p.1)

FirstBroken-behind : (xs ys : List (List Row)) (n phase rule place : ℕ) → AllHold xs → phase ≡ n + length xs → FirstBroken ys n rule place → FirstBroken (xs ++ ys) phase rule place
FirstBroken-behind [] ys n phase rule place hold e p = let same : phase ≡ n = omega arith in subst (λ (k : ℕ). FirstBroken ys k rule place) (sym same) p
FirstBroken-behind (x ∷ xs) ys n zero rule place hold e p = absurd (omega arith)
FirstBroken-behind (x ∷ xs) ys n (suc phase) rule place hold e p = (hold.0, FirstBroken-behind xs ys n phase rule place hold.1 (omega arith) p)

AllHold-append : (xs ys : List (List Row)) → AllHold xs → AllHold ys → AllHold (xs ++ ys)
AllHold-append [] ys p q = q
AllHold-append (x ∷ xs) ys p q = (p.0, AllHold-append xs ys p.1 q)

unasked : (p : Bool) (rows : List Row) → p ≡ false → Hold (asked p rows)
unasked true rows e = absurd cc
unasked false rows e = tt

no_trailer : (p : Bool) → (if p then trailer_size else 0) ≡ 0 → p ≡ false
no_trailer true e = absurd (omega (arith, e))
no_trailer false e = refl

has_trailer : (p : Bool) → (if p then trailer_size else 0) ≢ 0 → p ≡ true
has_trailer true some = refl
has_trailer false some = absurd (some refl)

-- that the bytes behind this place are the MD5 of those before it
abbrev pub checksum_row : ℕ → List ℕ → List Row
checksum_row eof f = row 1 eof (bytes_eq (drop eof f) (md5 (take eof f))) ∷ []

abbrev pub last_row : List ℕ → List Row
last_row f = checksum_row (length f - trailer_length f) f

-- what was found in a file as it was read, up to this place and behind it
module _ (f : List ℕ) {read : List ℕ} {eof : ℕ} (same : read ≡ f) (size : eof ≡ length f - trailer_length f) where
  pub image_read : (found : Option Broken) → JudgesImage (take eof read) found → JudgesImage (image_of f) found
  image_read found judged = subst₂ (λ (n : ℕ) (b : List ℕ). JudgesImage (take n b) found) size same judged

  pub last_read : (found : Option Finding) → Finds (checksum_row eof read) found → Finds (last_row f) found
  last_read found finds = subst₂ (λ (n : ℕ) (b : List ℕ). Finds (checksum_row n b) found) size same finds

-- ---- the start of a file

pub start_broken : (f : List ℕ) (phase rule place : ℕ) → FirstBroken (first_phases f) phase rule place → Breaks f phase rule place
start_broken f phase rule place p = FirstBroken-before (first_phases f) (image_phases (image_of f) ++ phase10 f ∷ []) phase rule place p

module _ (f : List ℕ) (start : AllHold (first_phases f)) where
  abbrev size : ℕ
  size = length f - trailer_length f

  pub start_long : 320 ≤ length f
  start_long = le_of 320 (length f) start.1.1.0.0

  -- the trailer is a part of the file
  pub image_long : length (image_of f) + trailer_length f ≡ length f
  image_long = let long = start_long in let short = short_trailer f in omega (arith, length-take size f)

  pub image_some : 8 ≤ length (image_of f)
  image_some = let long = start_long in let short = short_trailer f in let all = image_long in omega arith

  pub image_small : length (image_of f) < 2 ^ 31
  image_small = let limit = le_of (length f) (image_limit + 16) start.0.1.0 in let all = image_long in omega arith

  pub image_gdr : gdr_offset (image_of f) ≡ gdr_offset f
  image_gdr = let long = start_long in let short = short_trailer f in word-piece f 0 20 8 size (omega arith)

  -- the GDR has room for the sizes of its dimensions
  pub image_sizes : HasRoomForSizes (image_of f)
  image_sizes = subst (λ (g : ℕ). Holds (image_of f) g (gdr_r_dim_sizes (r_num_dims (image_of f) g))) (sym image_gdr) (here (gdr_offset f) dims_is size_is in_file)
    where
      rows : Hold (gdr_rows f (gdr_offset f))
      rows = Hold-asked (has_gdr f) (gdr_rows f (gdr_offset f)) start.1.1.1.0.1 start.1.1.1.0.0

      in_file : 84 + 4 * r_num_dims f (gdr_offset f) ≤ size_at f (gdr_offset f)
      in_file =
          let least = 84 + 4 * r_num_dims f (gdr_offset f) in
          (record-of f (gdr_offset f) 2 least (both (nat_le (number f (gdr_offset f) gdr_r_num_dims) 10) (is_record f (gdr_offset f) 2 least) rows.0).1).long

      room : gdr_offset f + 68 ≤ length f - trailer_length f
      room = let short = short_trailer f in let fits = le_of (gdr_offset f + 84) (length f) (both (nat_le 8 (gdr_offset f)) (nat_le (gdr_offset f + 84) (length f)) start.1.1.1.0.0).1 in omega arith

      front : (place k : ℕ) → place + k ≤ length f - trailer_length f → word (image_of f) place k ≡ word f place k
      front place k le = let e : 0 + place ≡ place = omega arith in word-piece f 0 place k (length f - trailer_length f) le ∙ ap (λ (x : ℕ). word f x k) e

      size_is : size_at (image_of f) (gdr_offset f) ≡ size_at f (gdr_offset f)
      size_is = front (gdr_offset f + 0) 8 (let fits = room in omega arith)

      dims_is : r_num_dims (image_of f) (gdr_offset f) ≡ r_num_dims f (gdr_offset f)
      dims_is = ap (λ (x : ℕ). counted (cast_signed w32 x)) (front (gdr_offset f + 56) 4 (let fits = room in omega arith))

      here : (at : ℕ) → r_num_dims (image_of f) at ≡ r_num_dims f at → size_at (image_of f) at ≡ size_at f at → 84 + 4 * r_num_dims f at ≤ size_at f at → 84 + 4 * r_num_dims (image_of f) at ≤ size_at (image_of f) at
      here at dims size room = subst₂ (λ (d s : ℕ). 84 + 4 * d ≤ s) (sym dims) (sym size) room

  -- the rules on the image and the one behind them
  pub all_judged : AllHold (image_phases (image_of f)) → Hold (phase10 f) → WellFormed f
  all_judged image last = AllHold-append (first_phases f ++ image_phases (image_of f)) (phase10 f ∷ []) (AllHold-append (first_phases f) (image_phases (image_of f)) start image) (last, tt)

  image_broken : (n phase rule place : ℕ) → phase ≡ n + 4 → FirstBroken (image_phases (image_of f)) n rule place → Breaks f phase rule place
  image_broken n phase rule place e broken =
      FirstBroken-before (first_phases f ++ image_phases (image_of f)) (phase10 f ∷ []) phase rule place (FirstBroken-behind (first_phases f) (image_phases (image_of f)) n phase rule place start e broken)

  pub image_judged : (broken : Broken) → JudgesImage (image_of f) (Some broken) → Judges f (Some broken)
  image_judged broken breaks = image_broken breaks.0 broken.phase broken.rule broken.at breaks.1 breaks.2

  pub unsealed_judged : AllHold (image_phases (image_of f)) → trailer_length f ≡ 0 → WellFormed f
  unsealed_judged image none = all_judged image (unasked (has_checksum f) _ (no_trailer (has_checksum f) none))

  module _ (some : trailer_length f ≢ 0) where
    in_use : has_checksum f ≡ true
    in_use = has_trailer (has_checksum f) some

    -- the trailer is 16 bytes
    pub seal_fits : size + 16 ≡ length f
    seal_fits = let long = start_long in let sixteen : trailer_length f ≡ 16 = ap (λ (p : Bool). if p then 16 else 0) in_use in omega arith

    last_is : phase10 f ≡ last_row f
    last_is = ap (λ (p : Bool). asked p (row 1 (length (image_of f)) (bytes_eq (drop (length (image_of f)) f) (md5 (image_of f))) ∷ [])) in_use ∙ ap (λ (eof : ℕ). row 1 eof (bytes_eq (drop eof f) (md5 (image_of f))) ∷ []) size_is
      where
        size_is : length (image_of f) ≡ size
        size_is = let all = image_long in omega arith

    pub seal_held : AllHold (image_phases (image_of f)) → Hold (last_row f) → WellFormed f
    seal_held image holds = all_judged image (subst Hold (sym last_is) holds)

    pub seal_broken : AllHold (image_phases (image_of f)) → (rule place : ℕ) → IsBroken (last_row f) rule place → Breaks f 10 rule place
    seal_broken image rule place broken = FirstBroken-behind (first_phases f ++ image_phases (image_of f)) (phase10 f ∷ []) 0 10 rule place (AllHold-append (first_phases f) (image_phases (image_of f)) start image) refl (subst (λ (rows : List Row). IsBroken rows rule place) (sym last_is) broken)
