-- What is put as a record: how many records a new block has, and whole elements.
use Rattle.cdf_vars.proofs.Common.{AreaError, Form, Good, IfOk, IsForm, List, Result, ap, arith, block_count, extent, false, le-ltb, length, lt-ltb, max_rec_at, most_in_block, nat_lt, pad_long, pad_record, record_bytes, record_size_is, refl, size_of, subst, sym, true, value_count, variable_at, whole_elements, ℕ, ◌%◌, ◌*◌, ◌<◌, ◌∙◌, ◌≡◌, ◌≤◌}

module _ (b : List ℕ) (vdr r : ℕ) {count : ℕ} (is : count ≡ extent (max_rec_at b vdr)) where
  pub most_within : r < count → 1 ≡ most_in_block (variable_at b vdr) r
  most_within lt = let t : nat_lt r (extent (max_rec_at b vdr)) ≡ true = lt-ltb r (extent (max_rec_at b vdr)) (subst (λ (n : ℕ). r < n) is lt) in rw t refl

  block_most : count ≤ r → most_in_block (variable_at b vdr) r ≡ block_count (variable_at b vdr)
  block_most le = let t : nat_lt r (extent (max_rec_at b vdr)) ≡ false = le-ltb r (extent (max_rec_at b vdr)) (subst (λ (n : ℕ). n ≤ r) is le) in rw t refl

  pub most_past : count ≤ r → (result : Result ℕ AreaError) → IfOk result (λ most. most ≡ block_count (variable_at b vdr)) → IfOk result (λ most. most ≡ most_in_block (variable_at b vdr) r)
  most_past le result h = subst (λ (n : ℕ). IfOk result (λ most. most ≡ n)) (sym (block_most le)) h

module _ {b : List ℕ} {form : Form} (good : Good b) (f : IsForm b form) where
  pub whole_record : (bytes : List ℕ) → length bytes ≡ record_bytes b form.place.vdr → length bytes % size_of form.shape.t ≡ 0
  whole_record bytes long =
      let n = value_count form.shape.dims form.shape.varys in
      whole_elements form.shape.t (form.shape.elems * n) (length bytes) (long ∙ sym (record_size_is good f) ∙ product (size_of form.shape.t) form.shape.elems n)
    where
      product : (x y z : ℕ) → x * y * z ≡ x * (y * z)
      product x y z = omega arith

  pub pad_is_long : length (pad_record (variable_at b form.place.vdr)) ≡ record_bytes b form.place.vdr
  pad_is_long = pad_long good f.is_vdr

  pub whole_pad : {x : List ℕ} → x ≡ b → (bytes : List ℕ) → bytes ≡ pad_record (variable_at x form.place.vdr) → length bytes % size_of form.shape.t ≡ 0
  whole_pad same bytes e = whole_record bytes (ap length (e ∙ ap (λ (y : List ℕ). pad_record (variable_at y form.place.vdr)) same) ∙ pad_is_long)
