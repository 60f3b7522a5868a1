-- A variable as its form has it, and the place of an index, which is one of the values of a record.
use Rattle.cdf_vars.proofs.Common.{Bool, Column, Form, Good, IsForm, Kind, List, Majority, None, Row, Some, Variable, ap, arith, content, false, has_place, if◌then◌else◌, length, mul-le-mul_right, place, read, read_long, record_size_is, refl, size_of, subst, sym, true, value_count, variable_at, variable_named, ℕ, ◌*◌, ◌+◌, ◌<◌, ◌∙◌, ◌≡◌, ◌≤◌}
use Rattle.cdf_model.specs.Place.{place_in}
use Rattle.cdf_shape.proofs.Places.{column_below, row_below}

pub place_below : (majority : Majority) (dims : List ℕ) (varys : List Bool) (index : List ℕ) (n : ℕ) → place majority dims varys index ≡ Some n → n < value_count dims varys
place_below majority dims varys index n e = by (has_place dims index) refl e
  where
    below : (majority : Majority) → has_place dims index ≡ true → place_in majority dims varys index < value_count dims varys
    below Row has = row_below dims varys index has
    below Column has = let b = column_below 1 dims varys index has in omega arith

    by : (p : Bool) → has_place dims index ≡ p → (if p then Some (place_in majority dims varys index) else None) ≡ Some n → n < value_count dims varys
    by true has is = let same : place_in majority dims varys index ≡ n = cc is in subst (λ (k : ℕ). k < value_count dims varys) same (below majority has)
    by false has is = absurd (cc is)

pub value_inside : (n size count : ℕ) → n < count → n * size + size ≤ size * count
value_inside n size count lt = let there : n + 1 ≤ count = omega arith in omega (arith, mul-le-mul_right size there)

-- the variable, as a form says how its records are laid out
abbrev pub formed : Form → Variable → Variable
formed form v = record v { type = form.shape.t; elems = form.shape.elems; dims = form.shape.dims; varys = form.shape.varys }

module _ {b : List ℕ} {form : Form} (f : IsForm b form) where
  pub formed_is : variable_at b form.place.vdr ≡ formed form (variable_at b form.place.vdr)
  formed_is =
      let t = f.t_is ∙ f.place.t_is in
      let k = f.elems_are ∙ f.place.elems_are in
      let d = f.dims_are in
      let w = f.varys_are in
      λ i. record (variable_at b form.place.vdr) { type = sym t i; elems = sym k i; dims = sym d i; varys = sym w i }

  pub named_formed : (name : List ℕ) {kind : Kind} {number : ℕ} → variable_named (content b) name ≡ Some (record { kind = kind; number = number; variable = variable_at b form.place.vdr })
      → variable_named (content b) name ≡ Some (record { kind = kind; number = number; variable = formed form (variable_at b form.place.vdr) })
  named_formed name {kind = kind} {number = number} named = named ∙ ap (λ (v : Variable). Some (record { kind = kind; number = number; variable = v })) formed_is

  -- a record of it that was read has the value of an index
  pub inside : Good b → (rec : ℕ) (majority : Majority) (index : List ℕ) {size n : ℕ} {bytes : List ℕ}
      → bytes ≡ read (variable_at b form.place.vdr) rec → size ≡ size_of form.shape.t * form.shape.elems → place majority form.shape.dims form.shape.varys index ≡ Some n → n * size + size ≤ length bytes
  inside good rec majority index {size} {n} {bytes} is_read wide at =
      let count = value_count form.shape.dims form.shape.varys in
      let long : length bytes ≡ size * count = ap length is_read ∙ read_long good f.is_vdr rec ∙ sym (record_size_is good f) ∙ ap (λ (k : ℕ). k * count) (sym wide) in
      rw long (value_inside n size count (place_below majority form.shape.dims form.shape.varys index n at))
