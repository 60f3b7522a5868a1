-- Packed bytes, and what they stand for.
use Rattle.std.proofs.Common.{◌≡◌, ◌∙◌, ℕ, zero, suc, List, [], ◌∷◌, ◌++◌, replicate, Bool, true, false, Some, None, ap, sym, refl, subst}
use Rattle.std.specs.Prelude.{if◌then◌else◌}
use Rattle.cdf_model.specs.RunLengths.{Packs, is_cut, plain_of, unpacked}

pub whole : (packed plain : List ℕ) → Packs packed plain → is_cut packed ≡ false
whole [] plain e = refl
whole (suc b ∷ more) plain (rest, e, packs) = whole more rest packs
whole (zero ∷ []) plain packs = absurd packs
whole (zero ∷ n ∷ more) plain (rest, e, packs) = whole more rest packs

pub plain_is : (packed plain : List ℕ) → Packs packed plain → plain ≡ plain_of packed
plain_is [] plain e = e
plain_is (suc b ∷ more) plain (rest, e, packs) = e ∙ ap (λ (xs : List ℕ). suc b ∷ xs) (plain_is more rest packs)
plain_is (zero ∷ []) plain packs = absurd packs
plain_is (zero ∷ n ∷ more) plain (rest, e, packs) = e ∙ ap (λ (xs : List ℕ). replicate (suc n) 0 ++ xs) (plain_is more rest packs)

pub packs_plain : (packed : List ℕ) → is_cut packed ≡ false → Packs packed (plain_of packed)
packs_plain [] whole = refl
packs_plain (suc b ∷ more) whole = (plain_of more, refl, packs_plain more whole)
packs_plain (zero ∷ []) whole = cc
packs_plain (zero ∷ n ∷ more) whole = (plain_of more, refl, packs_plain more whole)

pub unpacked_is : (packed : List ℕ) → is_cut packed ≡ false → unpacked packed ≡ Some (plain_of packed)
unpacked_is packed whole = rw whole

pub packs_one : (packed first second : List ℕ) → Packs packed first → Packs packed second → first ≡ second
packs_one packed first second a b = plain_is packed first a ∙ sym (plain_is packed second b)

pub unpacked-packs : (packed plain : List ℕ) → Packs packed plain → unpacked packed ≡ Some plain
unpacked-packs packed plain packs = unpacked_is packed (whole packed plain packs) ∙ ap Some (sym (plain_is packed plain packs))

packs-cases : (packed plain : List ℕ) (cut : Bool) → is_cut packed ≡ cut → (if cut then None else Some (plain_of packed)) ≡ Some plain → Packs packed plain
packs-cases packed plain true is e = cc
packs-cases packed plain false is e = let same : plain_of packed ≡ plain = cc in subst (Packs packed) same (packs_plain packed is)

pub packs-unpacked : (packed plain : List ℕ) → unpacked packed ≡ Some plain → Packs packed plain
packs-unpacked packed plain e = packs-cases packed plain (is_cut packed) refl e

pub packs_filled : (packed plain : List ℕ) → is_cut packed ≡ false → plain_of packed ≡ plain → Packs packed plain
packs_filled packed plain whole same = subst (Packs packed) same (packs_plain packed whole)
