-- Steps of a walk along links.
use Rattle.cdf_structure.proofs.Common.{AreTiles, List, Walk, [], and_parts, arith, chain_on, eqb, false, is_in, is_linkable, linkable-in, linkable-long, nat_tests, next_of, not, refl, stuck, suc, sym, tile_lies, true, whole, zero, ℕ, ◌&&◌, ◌++◌, ◌+◌, ◌<◌, ◌∙◌, ◌∷◌, ◌≡◌, ◌≤◌}

module _ (b ts : List ℕ) (type : ℕ) (met : List ℕ) (holder link most : ℕ) (w : Walk) (goes : chain_on most b ts type met holder link ≡ w) where
  pub chain_ends : link ≡ 0 → w ≡ whole met
  unfolding chain_on
  chain_ends none = sym goes ∙ at_any most
    where
      test : eqb link 0 ≡ true
      test = grind (arith, nat_tests, none)

      at_any : (k : ℕ) → chain_on k b ts type met holder link ≡ whole met
      at_any zero = rw test refl
      at_any (suc k) = rw test refl

  module _ (some : 0 < link) where
    test : eqb link 0 ≡ false
    test = grind (arith, nat_tests, some)

    pub chain_stops : (is_linkable b ts type link && not (is_in link met)) ≡ false → (before : List ℕ) × (w ≡ stuck before holder)
    unfolding chain_on
    chain_stops wrong = (met, sym goes ∙ at_any most)
      where
        at_any : (k : ℕ) → chain_on k b ts type met holder link ≡ stuck met holder
        at_any zero = rw test refl
        at_any (suc k) = rw (test, wrong) refl

    -- There are not so many members.
    pub chain_spent : most ≡ 0 → (before : List ℕ) × (w ≡ stuck before holder)
    unfolding chain_on
    chain_spent none =
        let here : chain_on most b ts type met holder link ≡ stuck met holder = rw (none, test) refl in
        (met, sym goes ∙ here)

    pub chain_more : (less : ℕ) → most ≡ suc less → (is_linkable b ts type link && not (is_in link met)) ≡ true → chain_on less b ts type (met ++ link ∷ []) link (next_of b link) ≡ w
    unfolding chain_on
    chain_more less is right =
        let here : chain_on most b ts type met holder link ≡ chain_on less b ts type (met ++ link ∷ []) link (next_of b link) = rw (is, test, right) refl in
        sym here ∙ goes

-- the next field of a record that a chain leads to
pub next_lies : (b ts : List ℕ) (upto type link : ℕ) (met : List ℕ) → AreTiles b 8 upto ts → (is_linkable b ts type link && not (is_in link met)) ≡ true → link + 28 ≤ upto
next_lies b ts upto type link met tiled right =
    let good = (and_parts (is_linkable b ts type link) (not (is_in link met)) right).0 in
    let lies = tile_lies b 8 upto ts link tiled (linkable-in b ts type link good) in
    omega (arith, lies.high, linkable-long b ts type link good)
