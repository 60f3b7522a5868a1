-- Bytes other than 0 are as many when they are packed.
use Rattle.cdf_examples.proofs.Common.{List, [], ap, length, refl, replicate, subst, suc, sym, zero, ℕ, ◌∷◌, ◌≡◌}
use Rattle.cdf_model.specs.RunLengths.{Packs}

abbrev pub tail_of : List ℕ → List ℕ
tail_of [] = []
tail_of (n ∷ more) = more

pub ones_packed : (n : ℕ) (packed : List ℕ) → Packs packed (replicate n 1) → length packed ≡ n
ones_packed zero [] p = refl
ones_packed zero (suc b ∷ more) p = absurd (none p.1)
  where
    none : {rest : List ℕ} → [] ≡ suc b ∷ rest → ⊥
    none e = cc
ones_packed zero (zero ∷ []) p = absurd p
ones_packed zero (zero ∷ n ∷ more) p = absurd (none p.1)
  where
    none : {rest : List ℕ} → let no : ℕ = 0 in [] ≡ no ∷ rest → ⊥
    none e = cc
ones_packed (suc n) [] p = absurd (none p)
  where
    none : let one : ℕ = 1 in one ∷ replicate n one ≡ [] → ⊥
    none e = cc
ones_packed (suc n) (suc b ∷ more) p =
    let rest : replicate n 1 ≡ p.0 = ap tail_of p.1 in
    ap suc (ones_packed n more (subst (Packs more) (sym rest) p.2))
ones_packed (suc n) (zero ∷ []) p = absurd p
ones_packed (suc n) (zero ∷ k ∷ more) p = absurd (none p.1)
  where
    none : {rest : List ℕ} → let one : ℕ = 1 in one ∷ replicate n one ≡ 0 ∷ rest → ⊥
    none e = cc
