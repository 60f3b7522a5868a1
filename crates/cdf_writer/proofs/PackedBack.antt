-- Bytes that are packed stand for themselves.
use Rattle.cdf_format.specs.IndexRules.{unpacks_to}
use Rattle.std.proofs.Common.{None, Option, eq-eqb, length, Bool, List, [], ap, eqb-true, false, inl, inr, refl, replicate, suc, sym, true, zero, ℕ, ◌++◌, ◌∙◌, ◌∷◌, ◌≡◌}
use Rattle.std.specs.Prelude.{if◌then◌else◌, ◌==◌, Some}
use Rattle.cdf_format.proofs.Members.{either}
use Rattle.cdf_model.specs.RunLengths.{is_cut, plain_of, unpacked}
unfoldable use Rattle.cdf_writer.specs.Packing.{packed_of, packed_zeros}

one_more : (n : ℕ) (more : List ℕ) → replicate (suc n) 0 ++ more ≡ replicate n 0 ++ (0 ∷ more)
one_more zero more = refl
one_more (suc n) more = ap (λ (l : List ℕ). 0 ∷ l) (one_more n more)

mutual
  unfolding packed_of packed_zeros

  pub plain_back : (plain : List ℕ) → plain_of (packed_of plain) ≡ plain
  plain_back [] = refl
  plain_back (suc b ∷ more) = ap (λ (l : List ℕ). suc b ∷ l) (plain_back more)
  plain_back (zero ∷ more) = zeros_back 0 more

  zeros_back : (n : ℕ) (more : List ℕ) → plain_of (packed_zeros n more) ≡ replicate (suc n) 0 ++ more
  zeros_back n [] = refl
  zeros_back n (suc b ∷ more) = ap (λ (l : List ℕ). replicate (suc n) 0 ++ (suc b ∷ l)) (plain_back more)
  zeros_back n (zero ∷ more) = elim (either (n == 255)) [
    | inl e ↦ ap (λ (p : Bool). plain_of (if p then 0 ∷ 255 ∷ packed_zeros 0 more else packed_zeros (suc n) more)) e ∙ ap (λ (l : List ℕ). replicate 256 0 ++ l) (zeros_back 0 more) ∙ ap (λ (k : ℕ). replicate (suc k) 0 ++ (0 ∷ more)) (sym (eqb-true n 255 e))
    | inr e ↦ ap (λ (p : Bool). plain_of (if p then 0 ∷ 255 ∷ packed_zeros 0 more else packed_zeros (suc n) more)) e ∙ zeros_back (suc n) more ∙ one_more (suc n) more
  ]

mutual
  unfolding packed_of packed_zeros

  pub packed_whole : (plain : List ℕ) → is_cut (packed_of plain) ≡ false
  packed_whole [] = refl
  packed_whole (suc b ∷ more) = packed_whole more
  packed_whole (zero ∷ more) = zeros_whole 0 more

  zeros_whole : (n : ℕ) (more : List ℕ) → is_cut (packed_zeros n more) ≡ false
  zeros_whole n [] = refl
  zeros_whole n (suc b ∷ more) = packed_whole more
  zeros_whole n (zero ∷ more) = elim (either (n == 255)) [
    | inl e ↦ ap (λ (p : Bool). is_cut (if p then 0 ∷ 255 ∷ packed_zeros 0 more else packed_zeros (suc n) more)) e ∙ zeros_whole 0 more
    | inr e ↦ ap (λ (p : Bool). is_cut (if p then 0 ∷ 255 ∷ packed_zeros 0 more else packed_zeros (suc n) more)) e ∙ zeros_whole (suc n) more
  ]

pub unpacked_back : (plain : List ℕ) → unpacked (packed_of plain) ≡ Some plain
unpacked_back plain = rw (packed_whole plain) (ap Some (plain_back plain))

pub unpacks_back : (plain : List ℕ) → unpacks_to (packed_of plain) (length plain) ≡ true
unpacks_back plain = ap (λ (o : Option (List ℕ)). elim o [ None ↦ false | Some x ↦ length x == length plain ]) (unpacked_back plain) ∙ eq-eqb (length plain) (length plain) refl
