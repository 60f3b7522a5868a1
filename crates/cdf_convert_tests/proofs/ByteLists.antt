-- Lists of bytes.
use Rattle.std.proofs.Common.{List, [], ap, arith, get_or, length, slice_index, subst, suc, sym, take, zero, ℕ, ◌+◌, ◌-◌, ◌<◌, ◌∷◌, ◌≡◌, ◌≤◌}
use Rattle.std.proofs.lemmas.List.{length-take}
use Rattle.cdf_convert.specs.Laws.{IsOfBytes}
use Rattle.cdf_format.specs.Content.{content}
use Rattle.cdf_format.specs.Sealed.{trailer_length}
use Rattle.cdf_model.specs.Limits.{image_limit}
use Rattle.cdf_session.specs.Sessions.{Adopts}
use Rattle.cdf_writer.proofs.MeantWhole.{meant_fine}
use Rattle.cdf_writer.specs.Fine.{Fine}

-- behind the last element there is none
pub all_bytes : (xs : List ℕ) → ((i : ℕ) → i < length xs → slice_index xs i < 256) → IsOfBytes xs
all_bytes [] each i = omega arith
all_bytes (x ∷ xs) each zero = each 0 (omega arith)
all_bytes (x ∷ xs) each (suc i) = all_bytes xs (λ k lt. each (suc k) (omega (arith, lt))) i

-- and one more
pub one_more : (xs : List ℕ) (n other : ℕ) → ((i : ℕ) → i < n → slice_index xs i < 256) → n < length xs → get_or xs n other < 256 → (i : ℕ) → i < n + 1 → slice_index xs i < 256
one_more [] n other each there small i lt = absurd (omega (arith, there))
one_more (x ∷ xs) zero other each there small zero lt = small
one_more (x ∷ xs) zero other each there small (suc i) lt = absurd (omega (arith, lt))
one_more (x ∷ xs) (suc n) other each there small zero lt = each 0 (omega arith)
one_more (x ∷ xs) (suc n) other each there small (suc i) lt = one_more xs n other (λ k less. each (suc k) (omega (arith, less))) (omega (arith, there)) small i (omega (arith, lt))

-- those in front of others
pub front_of_bytes : (n : ℕ) (xs : List ℕ) → IsOfBytes xs → IsOfBytes (take n xs)
front_of_bytes zero xs bytes i = omega arith
front_of_bytes (suc n) [] bytes i = omega arith
front_of_bytes (suc n) (x ∷ xs) bytes zero = bytes 0
front_of_bytes (suc n) (x ∷ xs) bytes (suc i) = front_of_bytes n xs (λ k. bytes (suc k)) i

-- what a file means that was taken up
pub meant_by_front : (f b : List ℕ) → Adopts f b → IsOfBytes f → length f ≤ image_limit → Fine (content b)
meant_by_front f b adopts bytes short =
    let n = length f - trailer_length f in
    let front : IsOfBytes b = subst IsOfBytes (sym adopts.image_is) (front_of_bytes n f bytes) in
    let long : length b ≡ length (take n f) = ap length adopts.image_is in
    meant_fine b adopts.good front (omega (arith, long, length-take n f, short))
