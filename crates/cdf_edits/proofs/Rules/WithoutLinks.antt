-- The rules of an image that follow no link stay for records whose sizes and types do, and for variables whose records stay whole.
use Rattle.cdf_edits.proofs.Common.{AllHold, Field, Hold, In, IsSound, List, Shape, [], arith, eof, eq-eqb, first_phases, inl, inr, length, number, number_rows, refl, row, sealed, suc, ℕ, ◌++◌, ◌+◌, ◌==◌, ◌∙◌, ◌∷◌, ◌≡◌}
use Rattle.cdf_edits.proofs.Rules.FirstHead.{first_said}

-- the numbers of records, in order
pub number_rows_kept : (rule : ℕ) (b now : List ℕ) (f : Field) (n : ℕ) (ms : List ℕ) → ((m : ℕ) → In m ms → number now m f ≡ number b m f) → number_rows rule now f n ms ≡ number_rows rule b f n ms
number_rows_kept rule b now f n [] same = refl
number_rows_kept rule b now f n (m ∷ ms) same =
    let here = same m (inl refl) in
    let rest = number_rows_kept rule b now f (suc n) ms (λ x i. same x (inr i)) in
    λ i. row rule m (here i == n) ∷ rest i

-- and one more behind them
pub number_rows-push : (rule : ℕ) (b : List ℕ) (num : Field) (n : ℕ) (ms : List ℕ) (m : ℕ) → number b m num ≡ n + length ms → Hold (number_rows rule b num n ms) → Hold (number_rows rule b num n (ms ++ m ∷ []))
number_rows-push rule b num n [] m is h = (eq-eqb _ _ (is ∙ none n), tt)
  where
    none : (x : ℕ) → x + 0 ≡ x
    none x = omega arith
number_rows-push rule b num n (x ∷ ms) m is h = (h.0, number_rows-push rule b num (suc n) ms m (is ∙ next n (length ms)) h.1)
  where
    next : (x y : ℕ) → x + suc y ≡ suc x + y
    next x y = omega arith

-- the end of the image that the GDR has is where it ends
pub eof_by_rules : (b : List ℕ) (s : Shape) → IsSound b s → AllHold (first_phases (sealed b)) → eof b s.gdr ≡ length b
eof_by_rules b s sound rules = (first_said b s sound.has_shape sound.gdr_fits rules).eof_is
