-- What a file of bytes tells, once it was taken up, can be written.
use Rattle.std.proofs.Common.{◌≡◌, ◌-◌, ◌<◌, ℕ, zero, suc, List, [], ◌∷◌, length, slice_index, take, arith, subst, sym, ◌∙◌, ap}
use Rattle.cdf_format.proofs.FormatKept.{keeps}
use Rattle.cdf_format.proofs.GoodHead.{image_fits, image_is_good}
use Rattle.cdf_format.specs.Content.{content}
use Rattle.cdf_format.specs.Sealed.{image_of, trailer_length}
use Rattle.cdf_format.specs.WellFormed.{WellFormed}
use Rattle.cdf_session.specs.Sessions.{Adopts}
use Rattle.cdf_writer.proofs.MeantWhole.{meant_fine}
use Rattle.cdf_writer.specs.Fine.{Fine}

front_below : (n : ℕ) (f : List ℕ) → ((i : ℕ) → slice_index f i < 256) → (i : ℕ) → slice_index (take n f) i < 256
front_below zero f below i = omega arith
front_below (suc n) [] below i = below i
front_below (suc n) (x ∷ more) below zero = below zero
front_below (suc n) (x ∷ more) below (suc i) = front_below n more (λ k. below (suc k)) i

-- the bytes that an area holds
pub adopted_is_fine : (f held b : List ℕ) → held ≡ f → Adopts held b → ((i : ℕ) → slice_index f i < 256) → Fine (content b)
adopted_is_fine f held b is adopts below =
    let kept = keeps f (subst WellFormed is adopts.well_formed) in
    subst (λ (image : List ℕ). Fine (content image)) (sym (adopts.image_is ∙ ap image_of is))
    (meant_fine (image_of f) (image_is_good f kept) (front_below (length f - trailer_length f) f below) (image_fits f kept))
