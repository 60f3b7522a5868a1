-- Bytes packed in the longest runs are the packing of longest runs.
use Rattle.std.proofs.Common.{All, List, [], ap, arith, eqb-true, false, inl, inr, refl, replicate, subst, suc, sym, true, zero, ℕ, ◌++◌, ◌+◌, ◌<◌, ◌∙◌, ◌∷◌, ◌≡◌, ◌≤◌, ◌⊎◌}
use Rattle.std.proofs.lemmas.List.Elements.{All-head, All-tail}
use Rattle.std.specs.Prelude.{◌==◌, if◌then◌else◌}
use Rattle.cdf_format.proofs.Members.{either}
use Rattle.cdf_model.specs.RunLengths.{IsLongest, Packs, begins_pair}
unfoldable use Rattle.cdf_writer.specs.Packing.{packed_of, packed_zeros}

begins : (packed rest : List ℕ) → Packs packed (zero ∷ rest) → begins_pair packed ≡ true
begins [] rest p = absurd (cc p)
begins (suc b ∷ more) rest p = absurd (cc p.1)
begins (zero ∷ []) rest p = absurd p
begins (zero ∷ n ∷ more) rest p = refl

not_full : (k j : ℕ) → k + suc j ≤ 255 → (k == 255) ≡ false
not_full k j le = elim (either (k == 255)) [ inl t ↦ let e : k ≡ 255 = eqb-true k 255 t in absurd (omega (arith, e, le)) | inr f ↦ f ]

-- behind k + 1 zeros, j more, and others that do not go on with zeros where a count has room for them
zeros_on : (k j : ℕ) (rest : List ℕ) → k + j ≤ 255 → ((more : List ℕ) → rest ≡ zero ∷ more → k + j ≡ 255) → packed_zeros k (replicate j 0 ++ rest) ≡ 0 ∷ (k + j) ∷ packed_of rest
unfolding packed_of packed_zeros
zeros_on k zero [] le full = ap (λ (m : ℕ). 0 ∷ m ∷ []) (none k)
  where
    none : (k : ℕ) → k ≡ k + 0
    none k = omega arith
zeros_on k zero (suc b ∷ more) le full = ap (λ (m : ℕ). 0 ∷ m ∷ suc b ∷ packed_of more) (none k)
  where
    none : (k : ℕ) → k ≡ k + 0
    none k = omega arith
zeros_on k zero (zero ∷ more) le full =
    let last : k ≡ 255 = let e = full more refl in omega (arith, e) in
    ap (λ (m : ℕ). if m == 255 then 0 ∷ 255 ∷ packed_zeros 0 more else packed_zeros (suc m) more) last ∙ ap (λ (m : ℕ). 0 ∷ m ∷ packed_zeros 0 more) (back k last)
  where
    back : (k : ℕ) → k ≡ 255 → 255 ≡ k + 0
    back k e = omega (arith, e)
zeros_on k (suc j) rest le full =
    let on = zeros_on (suc k) j rest (omega (arith, le)) (λ more e. let f = full more e in omega (arith, f)) in
    rw (not_full k j le) (on ∙ ap (λ (m : ℕ). 0 ∷ m ∷ packed_of rest) (moved k j))
  where
    moved : (k j : ℕ) → suc k + j ≡ k + suc j
    moved k j = omega arith

pub packed_once : (packed plain : List ℕ) → All (λ b. b < 256) packed → Packs packed plain → IsLongest packed → packed ≡ packed_of plain
unfolding packed_of packed_zeros
packed_once [] plain small p longest = ap packed_of (sym p)
packed_once (suc b ∷ more) plain small p longest = ap (λ (l : List ℕ). suc b ∷ l) (packed_once more p.0 (All-tail (λ c. c < 256) (suc b) more small) p.2 longest) ∙ ap packed_of (sym p.1)
packed_once (zero ∷ []) plain small p longest = absurd p
packed_once (zero ∷ n ∷ more) plain small p longest =
    let behind = All-tail (λ c. c < 256) 0 (n ∷ more) small in
    let le : n ≤ 255 = let s = All-head (λ c. c < 256) n more behind in omega (arith, s) in
    let full : (rest : List ℕ) → p.0 ≡ zero ∷ rest → 0 + n ≡ 255 = λ rest e. ends n more rest le longest.0 (subst (λ (l : List ℕ). Packs more l) e p.2) in
    let one = zeros_on 0 n p.0 (omega (arith, le)) full in
    ap (λ (l : List ℕ). 0 ∷ n ∷ l) (packed_once more p.0 (All-tail (λ c. c < 256) n more behind) p.2 longest.1)
    ∙ ap (λ (m : ℕ). 0 ∷ m ∷ packed_of p.0) (none n)
    ∙ sym one
    ∙ ap packed_of (sym p.1)
  where
    none : (n : ℕ) → n ≡ 0 + n
    none n = omega arith

    ends : (n : ℕ) (more rest : List ℕ) → n ≤ 255 → (n < 255 → begins_pair more ≡ false) → Packs more (zero ∷ rest) → 0 + n ≡ 255
    ends n more rest le longest p = let b = begins more rest p in elim (less n le) [ inl lt ↦ let f = longest lt in absurd cc | inr e ↦ omega (arith, e) ]
      where
        less : (n : ℕ) → n ≤ 255 → (n < 255) ⊎ (n ≡ 255)
        less n le = grind arith
