-- What packed bytes stand for.
use Rattle.std.proofs.Common.{◌≡◌, ◌∙◌, ℕ, zero, suc, ◌+◌, ◌*◌, ◌<◌, ◌≤◌, List, [], ◌∷◌, ◌++◌, length, drop, replicate, Bool, true, false, ap, refl, arith, length-append, length-drop}
use Rattle.std.proofs.lemmas.List.{length-replicate, length-take-le}
use Rattle.std.specs.Int.{w64, cast_signed}
use Rattle.cdf_edits.proofs.Common.{nat_tests}
use Rattle.cdf_format.specs.Fields.{LiesIn, counted, integer8, number}
use Rattle.cdf_format.specs.IndexRules.{unpacks_to}
use Rattle.cdf_format.specs.Records.{cvvr_c_size, cvvr_packed}
use Rattle.cdf_format.specs.Stored.{packed_bytes}
use Rattle.cdf_model.specs.RunLengths.{Packs, is_cut, plain_of}

pub plain_is : (packed plain : List ℕ) → Packs packed plain → plain ≡ plain_of packed
plain_is [] plain e = e
plain_is (suc b ∷ more) plain (rest, e, packs) = e ∙ ap (λ (xs : List ℕ). suc b ∷ xs) (plain_is more rest packs)
plain_is (zero ∷ []) plain packs = absurd packs
plain_is (zero ∷ n ∷ more) plain (rest, e, packs) = e ∙ ap (λ (xs : List ℕ). replicate (suc n) 0 ++ xs) (plain_is more rest packs)

-- they stand for half as many bytes at least
packed_is_short : (packed : List ℕ) → is_cut packed ≡ false → length packed ≤ 2 * length (plain_of packed)
packed_is_short [] whole = omega arith
packed_is_short (suc b ∷ more) whole = let behind = packed_is_short more whole in omega (arith, behind)
packed_is_short (zero ∷ []) whole = absurd cc
packed_is_short (zero ∷ n ∷ more) whole =
    let behind = packed_is_short more whole in
    let long : length (replicate (suc n) 0 ++ plain_of more) ≡ suc n + length (plain_of more) = length-append (replicate (suc n) 0) (plain_of more) ∙ ap (λ k. k + length (plain_of more)) (length-replicate (suc n) 0) in
    omega (arith, behind, long)

too_long-cases : (packed : List ℕ) (n : ℕ) (cut : Bool) → is_cut packed ≡ cut → 2 * n < length packed → unpacks_to packed n ≡ false
too_long-cases packed n true is long = rw (is, unpacks_to) refl
too_long-cases packed n false is long =
    let short = packed_is_short packed is in
    rw (is, unpacks_to) (grind (arith, nat_tests, short, long))

-- so more than twice as many do not stand for so many
pub too_long : (packed : List ℕ) (n : ℕ) → 2 * n < length packed → unpacks_to packed n ≡ false
too_long packed n long = too_long-cases packed n (is_cut packed) refl long

counted_is_less : (n : ℕ) → counted (cast_signed w64 n) ≤ n
counted_is_less n = grind arith

-- there are as many packed bytes as cSize says
pub length-packed : (b : List ℕ) (at : ℕ) → LiesIn b at (cvvr_packed (number b at cvvr_c_size)) → length (packed_bytes b at) ≡ counted (integer8 b at cvvr_c_size)
length-packed b at inside =
    let less = counted_is_less (number b at cvvr_c_size) in
    length-take-le (counted (integer8 b at cvvr_c_size)) (drop (at + 24) b) (omega (arith, less, inside, length-drop (at + 24) b))
