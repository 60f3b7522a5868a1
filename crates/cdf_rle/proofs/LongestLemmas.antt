-- Bytes are packed in one way where the runs are the longest.
use Rattle.std.proofs.Common.{◌≡◌, ◌∙◌, ℕ, zero, suc, ◌+◌, ◌<◌, List, [], ◌∷◌, ◌++◌, replicate, false, ap, refl, subst, sym, inl, inr, arith}
use Rattle.std.specs.Prelude.{min, All}
use Rattle.std.proofs.lemmas.Bool.{cases_lt}
use Rattle.std.proofs.lemmas.List.{append_cancel_left}
use Rattle.std.proofs.lemmas.List.Elements.{All-head, All-tail}
use Rattle.cdf_model.specs.RunLengths.{Packs, IsLongest, begins_pair}
use Rattle.cdf_rle.specs.Stretches.{zero_length}

zero_length-zeros : (n : ℕ) (xs : List ℕ) → zero_length (replicate n 0 ++ xs) ≡ n + zero_length xs
zero_length-zeros zero xs = omega arith
zero_length-zeros (suc n) xs = omega (arith, zero_length-zeros n xs)

-- where no pair stands first, no 0 does
data_first : (packed plain : List ℕ) → Packs packed plain → begins_pair packed ≡ false → zero_length plain ≡ 0
data_first [] plain e none = ap zero_length e
data_first (suc b ∷ more) plain (rest, e, packs) none = ap zero_length e
data_first (zero ∷ []) plain packs none = absurd packs
data_first (zero ∷ n ∷ more) plain packs none = cc

-- the count of a first pair is that of the zeros, as far as it goes
count_is : (n : ℕ) (more plain rest : List ℕ) → n < 256 → plain ≡ replicate (suc n) 0 ++ rest → Packs more rest → (n < 255 → begins_pair more ≡ false) → suc n ≡ min 256 (zero_length plain)
count_is n more plain rest byte e packs longest =
    let all : zero_length plain ≡ suc n + zero_length rest = ap zero_length e ∙ zero_length-zeros (suc n) rest in
    elim (cases_lt n 255) [ inl short ↦ omega (arith, data_first more rest packs (longest short)) | inr long ↦ omega arith ]

others : (b : ℕ) (xs : List ℕ) → All (λ x. x < 256) (b ∷ xs) → All (λ x. x < 256) xs
others b xs bytes = All-tail (λ x. x < 256) b xs bytes

count_fits : (n : ℕ) (xs : List ℕ) → All (λ x. x < 256) (0 ∷ n ∷ xs) → n < 256
count_fits n xs bytes = All-head (λ x. x < 256) n xs (others 0 (n ∷ xs) bytes)

pub longest_one : (first second plain : List ℕ) → All (λ b. b < 256) first → All (λ b. b < 256) second → Packs first plain → IsLongest first → Packs second plain → IsLongest second → first ≡ second
longest_one [] [] plain b₁ b₂ e₁ l₁ e₂ l₂ = refl
longest_one [] (suc c ∷ q) plain b₁ b₂ e₁ l₁ (s, e₂, p₂) l₂ = cc
longest_one [] (zero ∷ []) plain b₁ b₂ e₁ l₁ p₂ l₂ = absurd p₂
longest_one [] (zero ∷ m ∷ q) plain b₁ b₂ e₁ l₁ (s, e₂, p₂) l₂ = cc
longest_one (suc b ∷ p) [] plain b₁ b₂ (r, e₁, p₁) l₁ e₂ l₂ = cc
longest_one (suc b ∷ p) (suc c ∷ q) plain b₁ b₂ (r, e₁, p₁) l₁ (s, e₂, p₂) l₂ =
    let rests : s ≡ r = cc in
    let more = longest_one p q r (others (suc b) p b₁) (others (suc c) q b₂) p₁ l₁ (subst (Packs q) rests p₂) l₂ in
    cc
longest_one (suc b ∷ p) (zero ∷ []) plain b₁ b₂ p₁ l₁ p₂ l₂ = absurd p₂
longest_one (suc b ∷ p) (zero ∷ m ∷ q) plain b₁ b₂ (r, e₁, p₁) l₁ (s, e₂, p₂) l₂ = cc
longest_one (zero ∷ []) second plain b₁ b₂ p₁ l₁ p₂ l₂ = absurd p₁
longest_one (zero ∷ n ∷ p) [] plain b₁ b₂ (r, e₁, p₁) l₁ e₂ l₂ = cc
longest_one (zero ∷ n ∷ p) (suc c ∷ q) plain b₁ b₂ (r, e₁, p₁) l₁ (s, e₂, p₂) l₂ = cc
longest_one (zero ∷ n ∷ p) (zero ∷ []) plain b₁ b₂ p₁ l₁ p₂ l₂ = absurd p₂
longest_one (zero ∷ n ∷ p) (zero ∷ m ∷ q) plain b₁ b₂ (r, e₁, p₁) l₁ (s, e₂, p₂) l₂ =
    let count₁ = count_is n p plain r (count_fits n p b₁) e₁ p₁ l₁.0 in
    let count₂ = count_is m q plain s (count_fits m q b₂) e₂ p₂ l₂.0 in
    let same : m ≡ n = omega arith in
    let rests : s ≡ r = append_cancel_left (replicate (suc n) 0) s r (rw same at (sym e₂) ∙ e₁) in
    let more = longest_one p q r (others n p (others 0 (n ∷ p) b₁)) (others m q (others 0 (m ∷ q) b₂)) p₁ l₁.1 (subst (Packs q) rests p₂) l₂.1 in
    cc
