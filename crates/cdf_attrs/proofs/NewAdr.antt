-- A new ADR: what was written of it reads back.
use Rattle.cdf_attrs.proofs.Common.{IsBody, IsFilled, List, Placed, Same, Says, [], adr_adr_next, adr_agr_edr_head, adr_az_edr_head, adr_body, adr_fields, adr_name, adr_ngr_entries, adr_num, adr_nz_entries, adr_scope, ap, apart, arith, drop, laid_kept, laid_out, length, length-append, length-replicate, lit<, new_adr, number, placed_laid, record_type, refl, replicate, sym, take, type_of_body, typed_body, uir_type, value_laid, ℕ, ◌++◌, ◌+◌, ◌-◌, ◌<◌, ◌^◌, ◌∙◌, ◌∷◌, ◌≡◌, ◌≤◌}

-- what the fields of a new ADR say
pub record IsNewAdr (b : List ℕ) (place scope num : ℕ) (name : List ℕ) : Type 0 where
  pub no_gr : number b place adr_agr_edr_head ≡ 0
  pub no_z : number b place adr_az_edr_head ≡ 0
  pub scope_is : number b place adr_scope ≡ scope
  pub num_is : number b place adr_num ≡ num
  pub gr_count : number b place adr_ngr_entries ≡ 0
  pub z_count : number b place adr_nz_entries ≡ 0
  pub says : Says b place new_adr
  pub filled : IsFilled b place adr_name name

is_new : (b : List ℕ) (place scope num : ℕ) (name : List ℕ) → Says b place (adr_fields scope num) → IsFilled b place adr_name name → IsNewAdr b place scope num name
is_new b place scope num name (gr, (scope_is, (num_is, (ngr, (max_gr, (rfu_a, (z, (nz, (max_z, (rfu_e, end)))))))))) filled = record {
  no_gr = gr;
  no_z = z;
  scope_is = scope_is;
  num_is = num_is;
  gr_count = ngr;
  z_count = nz;
  says = (rfu_a, (max_gr, (max_z, (rfu_e, tt))));
  filled = filled;
}

module _ (scope num : ℕ) (name : List ℕ) (short : length name ≤ 256) where
  length-padded : length (name ++ replicate (256 - length name) 0) ≡ 256
  length-padded = omega (arith, length-append name (replicate (256 - length name) 0), length-replicate {A = ℕ} (256 - length name) 0)

  pub length-body : length (adr_body scope num name) ≡ 316
  unfolding adr_body
  length-body = omega (arith, length-padded)

  pub body_made : (type_of_body (adr_body scope num name) ≡ 4) × IsBody (adr_body scope num name)
  unfolding adr_body
  body_made = typed_body {type = 4} {least = 324} ((adr_adr_next, 0) ∷ adr_fields scope num) (name ++ replicate (256 - length name) 0) (adr_body scope num name) (record { small = lit< tt; real = refl; in_use = apart 4 uir_type refl; fixed = omega arith; enough = omega arith }) refl (let long = length-body in omega arith)

  -- in an image in which it was placed, and after steps that leave what follows its link
  pub adr_written : {b filled now : List ℕ} {place : ℕ} → Placed b filled (adr_body scope num name) place → scope < 2 ^ 32 → num < 2 ^ 32 → Same filled now (place + 20) (place + 324) → place + 324 ≤ length filled → length filled ≤ length now → IsNewAdr now place scope num name
  unfolding adr_body
  adr_written {filled = filled} {now = now} {place = place} placed small_scope small_num same inside longer =
      let padded = name ++ replicate (256 - length name) 0 in
      let there = placed_laid (laid_out ((record_type, 4) ∷ (adr_adr_next, 0) ∷ [])) (laid_out (adr_fields scope num) ++ padded) 20 refl placed refl in
      let w = value_laid now place 20 (adr_fields scope num) padded _ (laid_kept filled now (place + 20) (place + 324) (laid_out (adr_fields scope num) ++ padded) there.0 there.1 same (omega (arith, length-padded)) inside longer) refl
      (lit< tt, (small_scope, (small_num, (lit< tt, (lit< tt, (lit< tt, (lit< tt, (lit< tt, (lit< tt, (lit< tt, tt)))))))))) in
      is_new now place scope num name w.0 (ap (λ (n : ℕ). take n (drop (place + 68) now)) (sym length-padded) ∙ w.1)
