-- The rules of a variable whose VDR stands at another place, or that has another name, flags, pad value or MaxRec where it is.
use Rattle.cdf_edits.proofs.Common.{Bool, Hold, Hold-asked, In, List, Row, [], ap, arith, asked, both, cpr_c_type, cpr_link, cpr_p_count, cpr_parameter, cpr_rows, cpr_type, dimension_limit, dims_at, false, has_dimensions, has_name, is_a, is_a-from, is_a-type, is_characters, is_compressed, is_cpr, is_known_packing, is_max_rec, is_named_apart, is_no_link, is_positive, is_z, le_of, list_all, nat_le, notation_of, number, number_kept, of_le, record_limit, refl, row, signed_limit, size_at, size_kept, subst, sym, true, type_kept, type_of, variable_rows, vdr_end, vdr_max_rec, vdr_name, vdr_z_num_dims, ℕ, ℤ, ◌*◌, ◌+◌, ◌==◌, ◌∙◌, ◌∷◌, ◌≡◌, ◌≤◌}
use Rattle.std.proofs.Common.{not, is_some, ◌&&◌, ◌||◌}
use Rattle.cdf_edits.proofs.Frame.Meaning.{FileSame, Kept}
use Rattle.cdf_edits.proofs.Frame.VdrAlike.{VdrAlike, z_alike, count_alike, dims_alike, raw_type_alike, type_alike, raw_elems_alike, record_alike, raw_sparse_alike, cpr_link_alike}
use Rattle.cdf_edits.proofs.Frame.VdrCopied.{VdrCopied, alike, raw_max_copied}

and_true : (p q : Bool) → p ≡ true → q ≡ true → (p && q) ≡ true
and_true p q e f = rw (e, f) refl

unless_holds : (p x : Bool) → (not p || x) ≡ true → p ≡ true → x ≡ true
unless_holds true x h e = h
unless_holds false x h e = absurd cc

unless_if : (p x : Bool) → (p ≡ true → x ≡ true) → (not p || x) ≡ true
unless_if true x f = f refl
unless_if false x f = refl

hold_asked : (p : Bool) (rows : List Row) → (p ≡ true → Hold rows) → Hold (asked p rows)
hold_asked true rows f = f refl
hold_asked false rows f = tt

-- ---- its parameters

pub record CprStays (b now records' : List ℕ) (m : ℕ) : Type 0 where
  pub is : is_cpr now records' m ≡ true
  pub packing : is_known_packing now m ≡ is_known_packing b m

pub cpr_stays : (b now records records' : List ℕ) (m : ℕ) → is_cpr b records m ≡ true → Kept b now m → In m records' → CprStays b now records' m
cpr_stays b now records records' m e k i =
    let p = both (is_a b records cpr_type m) (is_positive (number b m cpr_p_count) && nat_le (24 + 4 * number b m cpr_p_count) (size_at b m)) e in
    let q = both (is_positive (number b m cpr_p_count)) (nat_le (24 + 4 * number b m cpr_p_count) (size_at b m)) p.1 in
    let some = le_of 1 (number b m cpr_p_count) (both (nat_le 1 (number b m cpr_p_count)) (nat_le (number b m cpr_p_count) signed_limit) q.0).0 in
    let long = room (number b m cpr_p_count) (size_at b m) some (le_of (24 + 4 * number b m cpr_p_count) (size_at b m) q.1) in
    let there = is_a-from now records' cpr_type m i (type_kept b now m k.same k.long ∙ is_a-type b records cpr_type m p.0) in
    let count = number_kept b now m k.same cpr_p_count (omega arith) in
    let size = size_kept b now m k.same (omega arith) in
    let type = number_kept b now m k.same cpr_c_type (omega arith) in
    let parameter = number_kept b now m k.same (cpr_parameter 0) (omega arith) in
    record {
      is = and_true _ _ there ((λ j. is_positive (count j) && nat_le (24 + 4 * count j) (size j)) ∙ p.1);
      packing = λ j. (type j == 1) && (parameter j == 0);
    }
  where
    room : (n s : ℕ) → 1 ≤ n → 24 + 4 * n ≤ s → 28 ≤ s
    room n s p q = omega arith

-- ---- all of them

module _ {b now : List ℕ} (file : FileSame b now) {v v' : ℕ} (k : VdrAlike b now v v') (larger : size_at b v ≤ size_at now v') where
  dimensions_rule : is_z b v ≡ true → has_dimensions b v ≡ true → has_dimensions now v' ≡ true
  dimensions_rule z h =
      let n = number b v vdr_z_num_dims in
      let p = both (nat_le n dimension_limit) (nat_le (344 + 4 * n) (size_at b v) && list_all is_positive (dims_at b v)) h in
      let q = both (nat_le (344 + 4 * n) (size_at b v)) (list_all is_positive (dims_at b v)) p.1 in
      let count = count_alike file k z in
      let dims = dims_alike file k in
      let fits = of_le (344 + 4 * n) (size_at now v') (through (344 + 4 * n) (size_at b v) (size_at now v') (le_of (344 + 4 * n) (size_at b v) q.0) larger) in
      and_true _ _ (ap (λ (x : ℕ). nat_le x dimension_limit) count ∙ p.0) (and_true _ _ (ap (λ (x : ℕ). nat_le (344 + 4 * x) (size_at now v')) count ∙ fits) (ap (list_all is_positive) dims ∙ q.1))
    where
      through : (x y z : ℕ) → x ≤ y → y ≤ z → x ≤ z
      through x y z p q = omega arith

  pub variable_rules_alike : (records records' ids ids' : List ℕ) → Hold (variable_rows b records ids v) → has_name now v' vdr_name ≡ true → is_named_apart now ids' v' ≡ true → vdr_end now v' ≤ size_at now v' → is_compressed now v' ≡ is_compressed b v
      → (is_compressed b v ≡ true → is_cpr b records (cpr_link b v) ≡ true → CprStays b now records' (cpr_link b v)) → is_max_rec (number now v' vdr_max_rec) ≡ true → Hold (variable_rows now records' ids' v')
  variable_rules_alike records records' ids ids' h named apart ends packed cpr max =
      let h3 = h.1.1 in
      let h4 = h3.1 in
      let h5 = h4.1 in
      let h7 = h5.1.1 in
      let h8 = h7.1 in
      let h9 = h8.1 in
      let h10 = h9.1 in
      let h11 = h10.1 in
      let raw = raw_type_alike file k in
      let type = type_alike file k in
      let elems = raw_elems_alike file k in
      let z = z_alike file k in
      let bytes = record_alike file k in
      let sparse = raw_sparse_alike file k in
      let link = cpr_link_alike file k in
      let was : is_compressed b v ≡ true → is_cpr b records (cpr_link b v) ≡ true = unless_holds (is_compressed b v) (is_cpr b records (cpr_link b v)) h11.0 in
      let stays : is_compressed now v' ≡ true → CprStays b now records' (cpr_link b v) = λ e. let c = sym packed ∙ e in cpr c (was c) in
      let known : is_compressed b v ≡ true → is_known_packing b (cpr_link b v) ≡ true = λ c.
      (Hold-asked (is_cpr b records (cpr_link b v)) (row 12 (cpr_link b v) (is_known_packing b (cpr_link b v)) ∷ []) (Hold-asked (is_compressed b v) (cpr_rows b records (cpr_link b v)) h11.1 c) (was c)).0 in
      let parameters : is_compressed now v' ≡ true → Hold (cpr_rows now records' (cpr_link b v)) = λ e.
      hold_asked (is_cpr now records' (cpr_link b v)) (row 12 (cpr_link b v) (is_known_packing now (cpr_link b v)) ∷ []) (λ x. ((stays e).packing ∙ known (sym packed ∙ e), tt)) in (
        named,
        (
          apart,
          (
            ap (λ (t : ℤ). is_some (type_of t)) raw ∙ h3.0,
            (
              (λ i. is_positive (elems i) && ((elems i == 1) || is_characters (notation_of (type i)))) ∙ h4.0,
              (
                unless_if (is_z now v') (has_dimensions now v') (λ e. let was_z = sym z ∙ e in dimensions_rule was_z (unless_holds (is_z b v) (has_dimensions b v) h5.0 was_z)),
                (
                  of_le (vdr_end now v') (size_at now v') ends,
                  (
                    ap (λ (n : ℕ). nat_le n record_limit) bytes ∙ h7.0,
                    (
                      max,
                      (
                        ap (λ (n : ℕ). nat_le n 2) sparse ∙ h9.0,
                        (
                          (λ i. packed i || is_no_link (link i)) ∙ h10.0,
                          (
                            unless_if (is_compressed now v') (is_cpr now records' (cpr_link now v')) (λ e. ap (is_cpr now records') link ∙ (stays e).is),
                            hold_asked (is_compressed now v') (cpr_rows now records' (cpr_link now v')) (λ e. subst (λ (c : ℕ). Hold (cpr_rows now records' c)) (sym link) (parameters e)),
                          ),
                        ),
                      ),
                    ),
                  ),
                ),
              ),
            ),
          ),
        ),
      )

-- with MaxRec as it was
pub variable_rules_copied : {b now : List ℕ} (file : FileSame b now) {v v' : ℕ} (k : VdrCopied b now v v') (larger : size_at b v ≤ size_at now v') (records records' ids ids' : List ℕ) → Hold (variable_rows b records ids v) → has_name now v' vdr_name ≡ true → is_named_apart now ids' v' ≡ true → vdr_end now v' ≤ size_at now v' → is_compressed now v' ≡ is_compressed b v
    → (is_compressed b v ≡ true → is_cpr b records (cpr_link b v) ≡ true → CprStays b now records' (cpr_link b v)) → Hold (variable_rows now records' ids' v')
variable_rules_copied file k larger records records' ids ids' h named apart ends packed cpr = variable_rules_alike file (alike k) larger records records' ids ids' h named apart ends packed cpr (ap is_max_rec (raw_max_copied file k) ∙ h.1.1.1.1.1.1.1.0)
