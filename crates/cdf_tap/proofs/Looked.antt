-- What the tap that looks for a VAR_TYPE makes of an entry and of a variable.
use Rattle.std.proofs.Common.{◌≡◌, ℕ, ℤ, List, [], ◌∷◌, ◌++◌, ◌==◌, Bool, false, refl, if◌then◌else◌}
use Rattle.std.specs.List.{list_any}
use Rattle.cdf_model.specs.declared.data_type.DataType.{DataType}
use Rattle.cdf_model.specs.declared.event.Event.TheVariants as events
use Rattle.cdf_model.specs.declared.kinds.EntryKind.TheVariants as entries
use Rattle.cdf_model.specs.declared.kinds.Kind.TheVariants as kinds
use Rattle.cdf_model.specs.declared.kinds.Sparse.{Sparse}
use Rattle.cdf_model.specs.ShippedTaps.{is_lacking, lacking, looked}
use Rattle.cdf_tap.specs.declared.lacking.Found.{Found}
use Rattle.cdf_tap.specs.declared.lacking.Found.TheVariants as found
use Rattle.cdf_tap.specs.Lacking.{is_inside, state_of}

pub looked_variable : (f : Found) (known : List ℕ) (num : ℕ) (name : List ℕ) (t : DataType) (elems : ℕ) (vary : Bool) (dims : List ℕ) (varys : List Bool) (sparse : Sparse) (rle : Bool) (blocking max_rec : ℤ) (has_pad : Bool) (pad : List ℕ)
    → is_lacking (state_of f known) ≡ false
    → looked (state_of f known) (events.Var kinds.Z num name t elems vary dims varys sparse rle blocking max_rec has_pad pad) ≡ (if list_any (λ k. k == num) known then state_of f known else lacking ∷ name)
looked_variable found.Inside known num name t elems vary dims varys sparse rle blocking max_rec has_pad pad n = refl
looked_variable found.Outside known num name t elems vary dims varys sparse rle blocking max_rec has_pad pad n = refl
looked_variable (found.Lacking variable) known num name t elems vary dims varys sparse rle blocking max_rec has_pad pad n = absurd cc

pub looked_entry : (f : Found) (known : List ℕ) (num : ℕ) (t : DataType) (elems : ℕ) (bytes : List ℕ) → is_lacking (state_of f known) ≡ false
    → looked (state_of f known) (events.Entry entries.Z num t elems bytes) ≡ state_of f (if is_inside f then known ++ num ∷ [] else known)
looked_entry found.Inside known num t elems bytes n = refl
looked_entry found.Outside known num t elems bytes n = refl
looked_entry (found.Lacking variable) known num t elems bytes n = absurd cc
