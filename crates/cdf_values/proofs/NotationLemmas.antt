-- The notation of a type, and how many bytes it has.
use Rattle.cdf_values.proofs.Common.{DataType, HasSize, Notation, notation_of, subst, sym, ℕ, ◌≡◌}

pub has_size : (t : DataType) (notation : Notation) (size : ℕ) → notation ≡ notation_of t → HasSize (notation_of t) size → HasSize notation size
has_size t notation size e h = let P : Notation → Type 0 = λ n. HasSize n size in subst P (sym e) h
