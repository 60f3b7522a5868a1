-- The numbers of the members of a chain, one after the other.
use Rattle.cdf_structure.proofs.Common.{AreLong, AreTiles, Field, Finding, Finds, In, IsBroken, List, None, Option, Some, arith, chain, chain_sound, drop, eq-eqb, fixed_size, get_or, inl, inr, length, linkable-in, linkable-type, ne_eqb, number, number_rows, refl, suc, tile_lies, whole, ℕ, ◌+◌, ◌<◌, ◌≡◌, ◌≢◌, ◌≤◌}
use Rattle.std.proofs.Math.Seq.{drop-cons}

module _ (rule : ℕ) (b : List ℕ) (num : Field) (ms : List ℕ) (i : ℕ) (lt : i < length ms) where
  pub number_wrong : number b (get_or ms i 0) num ≢ i → IsBroken (number_rows rule b num i (drop i ms)) rule (get_or ms i 0)
  number_wrong ne = rw (drop-cons ms i 0 lt) (inl (refl, refl, ne_eqb (number b (get_or ms i 0) num) i ne))

  pub number_right : number b (get_or ms i 0) num ≡ i → (found : Option Finding) → Finds (number_rows rule b num (suc i) (drop (suc i) ms)) found → Finds (number_rows rule b num i (drop i ms)) found
  number_right e None rest = rw (drop-cons ms i 0 lt) (eq-eqb (number b (get_or ms i 0) num) i e, rest)
  number_right e (Some f) rest = rw (drop-cons ms i 0 lt) (inr rest)

-- a member of a chain has the fields of its type
pub member_fields : (b ts : List ℕ) (upto type holder : ℕ) (head : Field) (place : ℕ) (ms : List ℕ) → AreTiles b 8 upto ts → AreLong b ts → place ≤ fixed_size type
    → chain b ts type holder head ≡ whole ms → (m : ℕ) → In m ms → m + place ≤ upto
member_fields b ts upto type holder head place ms tiled long fits is m i =
    let linkable = (chain_sound b ts type holder head ms is).linkable m i in
    let inside = linkable-in b ts type m linkable in
    let enough = rw (linkable-type b ts type m linkable) at (long m inside) in
    let lies = tile_lies b 8 upto ts m tiled inside in
    omega (arith, enough, lies.high, fits)
