-- A number that is written as a field of a record is an edit.
use Rattle.cdf_edits.proofs.Common.{AreTiles, Changed, Edit, Field, FitsSigned, HasShape, In, LiesIn, List, Mark, Shape, [], ap, arith, avoided, cast_unsigned, field_marks, field_reads, field_reads4, fixed_size, inl, integer4, is_a, is_a-in, is_a-type, length, length-with_field, number, other_bytes, refl, size_at, subst, sym, tile_lies, touched_field, true, type_at, w32, with_field, ℕ, ℤ, ◌+◌, ◌<◌, ◌^◌, ◌∙◌, ◌∷◌, ◌≡◌, ◌≤◌}
use Rattle.cdf_edits.proofs.Edits.Composing.{changed_edit, head_size, head_type}
use Rattle.cdf_edits.proofs.Edits.RecordFrame.{part_clear, field_clear, through}
use Rattle.cdf_edits.proofs.Edits.StepEdits.{fixed_long}

-- a field behind the type, within a record of this type
pub record IsField (b records : List ℕ) (place type : ℕ) (f : Field) : Type 0 where
  pub tiled : AreTiles b 8 (length b) records
  pub inside : In place records
  pub typed : type_at b place ≡ type
  pub fits : f.place + f.width ≤ size_at b place
  pub late : 12 ≤ f.place

-- a record of a type, with so many bytes at least
pub record Stands (b records : List ℕ) (m type n : ℕ) : Type 0 where
  pub inside : In m records
  pub typed : type_at b m ≡ type
  pub long : n ≤ size_at b m

-- a record of a shape has the fixed part of its type
pub stands_fixed : {b : List ℕ} {s : Shape} → HasShape b s → (type m : ℕ) → is_a b s.records type m ≡ true → Stands b s.records m type (fixed_size type)
stands_fixed {b = b} {s = s} h type m is =
    let i = is_a-in b s.records type m is in
    let t = is_a-type b s.records type m is in
    record { inside = i; typed = t; long = fixed_long b s h type m i t }

pub field_in : {b records : List ℕ} {m type n : ℕ} {f : Field} → AreTiles b 8 (length b) records → Stands b records m type n → 12 ≤ f.place → f.place + f.width ≤ n → IsField b records m type f
field_in {b = b} {m = m} {n = n} {f = f} tiled is late fits = record { tiled = tiled; inside = is.inside; typed = is.typed; fits = through (f.place + f.width) n (size_at b m) fits is.long; late = late }

-- what an edit leaves of it that does not touch its size and its type
module _ {b now old new : List ℕ} {marks : List Mark} {reborn : List ℕ} (e : Edit b now old new marks reborn) {m type n : ℕ} (is : Stands b old m type n) (heads : avoided marks type 0 12 ≡ true) where
  pub still_stands : 12 ≤ n → Stands now new m type n
  still_stands some =
      let start = part_clear e m type 0 12 is.inside is.typed heads heads (through 12 n (size_at b m) some is.long) in
      record { inside = e.sub m is.inside; typed = head_type b now m start ∙ is.typed; long = subst (λ (k : ℕ). n ≤ k) (sym (head_size b now m start)) is.long }

  pub still_says : (f : Field) → avoided marks type f.place (f.place + f.width) ≡ true → f.place + f.width ≤ n → number now m f ≡ number b m f
  still_says f clear fits = field_clear e m type f is.inside is.typed heads clear (through (f.place + f.width) n (size_at b m) fits is.long)

-- where no more than its bytes changes
pub touched_edit : {b now records : List ℕ} {place type : ℕ} {f : Field} → IsField b records place type f → Changed b now (touched_field place f ∷ []) → length now ≡ length b → Edit b now records records (field_marks type place f) []
touched_edit {b = b} {now = now} {records = records} {place = place} {type = type} {f = f} is changed long =
    let l = tile_lies b 8 (length b) records place is.tiled is.inside in
    changed_edit b now records (touched_field place f ∷ []) (field_marks type place f) [] is.tiled long changed
    (record { inside = is.inside; fits = is.fits; behind_size = behind f.place is.late; behind_type = inl is.late; covered = inl (record { typed = is.typed; lies = inl refl; low = omega arith; high = omega arith }) }, tt) (some place (size_at b place) (length b) l.low l.high)
  where
    behind : (p : ℕ) → 12 ≤ p → 8 ≤ p
    behind p l = omega arith

    some : (p n l : ℕ) → 8 ≤ p → p + n ≤ l → 8 ≤ l
    some p n l x y = omega arith

module _ (b now records : List ℕ) (place type : ℕ) (f : Field) (n : ℕ) (is : IsField b records place type f) (written : now ≡ with_field b place f n) where
  pub field_lies : LiesIn b place f
  field_lies = let high = (tile_lies b 8 (length b) records place is.tiled is.inside).high in reach f.place f.width (size_at b place) (length b) is.fits high
    where
      reach : (p w n l : ℕ) → p + w ≤ n → place + n ≤ l → place + p + w ≤ l
      reach p w n l x y = omega arith

  pub written_long : length now ≡ length b
  written_long = ap length written ∙ length-with_field b place f n field_lies

  pub written_changed : Changed b now (touched_field place f ∷ [])
  written_changed = subst (λ (x : List ℕ). Changed b x (touched_field place f ∷ [])) (sym written) (record { longer = omega (arith, length-with_field b place f n field_lies); same = λ i lt out. other_bytes b place f n i field_lies out.0 })

  pub written_edit : Edit b now records records (field_marks type place f) []
  written_edit = touched_edit is written_changed written_long

  pub written_reads : n < 256 ^ f.width → number now place f ≡ n
  written_reads small = ap (λ (x : List ℕ). number x place f) written ∙ field_reads b place f n field_lies small

-- with a sign
pub written_integer : (b now records : List ℕ) (place type : ℕ) (f : Field) (z : ℤ) → IsField b records place type f → f.width ≡ 4 → FitsSigned w32 z → now ≡ with_field b place f (cast_unsigned w32 z) → integer4 now place f ≡ z
written_integer b now records place type f z is wide fits written = ap (λ (x : List ℕ). integer4 x place f) written ∙ field_reads4 b place f z wide (field_lies b now records place type f (cast_unsigned w32 z) is written) fits
