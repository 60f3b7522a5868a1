-- What the command `setup` is answered, which dimensions it takes, and what its calls ask for.
use Rattle.cdf_vars.proofs.Common.{AreBytes, Bool, ByStep, Cdr, DataSet, Go, Good, IsSound, List, Majority, Plain, Setup, Takes, ap, are_bad_sizes, arith, cast_unsigned, content, encoding_at, false, gdr_in, gdr_offset, good_by_its_shape, good_is_sound, is_a-in, is_empty_set, is_none, is_some, length, not, of_z-to_z, refl, shape, signed4, size_at, step, subst, sym, tile_lies, true, uir_type, w32, word, word_fits, ℕ, ◌&&◌, ◌*◌, ◌+◌, ◌==◌, ◌∙◌, ◌≡◌, ◌≤◌}
use Rattle.std.proofs.Math.Path.{transport}
use Rattle.cdf_model.specs.declared.head.Head.{Head}
use Rattle.cdf_format.proofs.HeadOf.{head_of_good}
use Rattle.cdf_records.specs.declared.gdr.Gdr.{Gdr}
use Rattle.cdf_records.specs.Heads.{cdr_at, gdr_at}

-- ---- the answers

-- whether the encoding of a code is none of those that are read
pub is_unread : (code : ℕ) (read : Bool) → is_some (encoding_at code) ≡ read → is_none (encoding_at code) ≡ not read
is_unread code read e = grind arith

-- what setup makes of a data set
abbrev pub set_up : DataSet → ℕ → Majority → List ℕ → DataSet
set_up d code majority dims = record d { encoding = code; majority = majority; rdims = dims }

pub step_goes : (d : DataSet) (code : ℕ) (majority : Majority) (dims : List ℕ) → is_some (encoding_at code) ≡ true → are_bad_sizes dims ≡ false → is_empty_set d ≡ true → step d (Setup code majority dims) ≡ ByStep (Go (set_up d code majority dims) Plain)
step_goes d code majority dims read fine empty = rw (is_unread code true read, fine, empty) refl

-- ---- the calls

-- what fits the GDR lies in the image
pub fits_gdr : (b : List ℕ) (g n : ℕ) → Good b → g ≡ gdr_offset b → 84 + 4 * n ≤ size_at b (gdr_offset b) → g + 84 + 4 * n ≤ length b
fits_gdr b g n good is room =
    let h = (good_is_sound b good).has_shape in
    let lies : gdr_offset b + size_at b (gdr_offset b) ≤ length b = subst (λ (x : ℕ). x + size_at b x ≤ length b) (sym h.gdr_is) (tile_lies b 8 (length b) (shape b).records (shape b).gdr h.tiled (gdr_in b (shape b) h)).high in
    omega arith

-- a record that was taken lies in the image
pub taken_lies : {b taken : List ℕ} {need place : ℕ} → Takes b taken (shape b) (shape taken) need place → IsSound taken (shape taken) → place + need ≤ length taken
taken_lies {taken = taken} {place = place} takes sound =
    subst (λ (n : ℕ). place + n ≤ length taken) takes.size_is (tile_lies taken 8 (length taken) (shape taken).records place sound.has_shape.tiled (is_a-in taken (shape taken).records uir_type place takes.stands)).high

-- 4 bytes are the same number with and without a sign
unsigned_is : (b : List ℕ) (start m place : ℕ) → AreBytes b start m → start ≤ place → place + 4 ≤ start + m → cast_unsigned w32 (signed4 b place) ≡ word b place 4
unsigned_is b start m place bytes le fits = of_z-to_z w32 (word b place 4) (word_fits b start m place 4 bytes le fits)

-- what is read of the CDR and the GDR
module _ {b now : List ℕ} {cdr : Cdr} {gdr : Gdr} (good : Good b) (same : now ≡ b) (first : cdr ≡ cdr_at b 8) (second : gdr ≡ gdr_at now cdr.gdr_offset) where
  offset : cdr.gdr_offset ≡ gdr_offset b
  offset = ap (λ (c : Cdr). c.gdr_offset) first

  gdr_is : gdr ≡ gdr_at b (gdr_offset b)
  gdr_is = second ∙ (λ i. gdr_at (same i) (offset i))

  pub size_read : gdr.record_size ≡ size_at b (gdr_offset b)
  size_read = ap (λ (g : Gdr). g.record_size) gdr_is

  pub counts_read : AreBytes now cdr.gdr_offset 84 → (((cast_unsigned w32 gdr.num_attr == 0) && (cast_unsigned w32 gdr.nr_vars == 0)) && (cast_unsigned w32 gdr.nz_vars == 0)) ≡ is_empty_set (content b)
  counts_read bytes =
      let there : AreBytes b (gdr_offset b) 84 = transport (λ i. AreBytes (same i) (offset i) 84) bytes in
      let attributes = ap (λ (g : Gdr). cast_unsigned w32 g.num_attr) gdr_is ∙ unsigned_is b (gdr_offset b) 84 (gdr_offset b + 48) there (omega arith) (omega arith) in
      let r_variables = ap (λ (g : Gdr). cast_unsigned w32 g.nr_vars) gdr_is ∙ unsigned_is b (gdr_offset b) 84 (gdr_offset b + 44) there (omega arith) (omega arith) in
      let z_variables = ap (λ (g : Gdr). cast_unsigned w32 g.nz_vars) gdr_is ∙ unsigned_is b (gdr_offset b) 84 (gdr_offset b + 60) there (omega arith) (omega arith) in
      (λ i. ((attributes i == 0) && (r_variables i == 0)) && (z_variables i == 0)) ∙ ap (λ (h : Head). ((h.attrs == 0) && (h.rvars == 0)) && (h.zvars == 0)) (sym (head_of_good b (shape b) (good_by_its_shape b good)))
