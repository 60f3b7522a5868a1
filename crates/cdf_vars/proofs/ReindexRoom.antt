-- How many nodes an index has that is made anew, counted level by level.
use Rattle.cdf_vars.proofs.Common.{Bool, ap, arith, false, if◌then◌else◌, inl, inr, ne_eqb, nodes_above, quotient_up, refl, suc, sym, zero, ℕ, ◌+◌, ◌-◌, ◌==◌, ◌∙◌, ◌≡◌, ◌≢◌, ◌⊎◌}

pub none_above : (levels entries : ℕ) → (levels ≡ 0) ⊎ (entries ≡ 0) → nodes_above levels entries ≡ 0
unfolding nodes_above
none_above zero entries e = refl
none_above (suc levels) zero e = refl
none_above (suc levels) (suc entries) (inl e) = absurd cc
none_above (suc levels) (suc entries) (inr e) = absurd cc

-- of some entries, where one node is left, and where more are
pub one_above : (levels entries : ℕ) → levels ≢ 0 → entries ≢ 0 → quotient_up entries 64 ≡ 1 → nodes_above levels entries ≡ 1
unfolding nodes_above
one_above zero entries l n e = absurd (l refl)
one_above (suc levels) zero l n e = absurd (n refl)
one_above (suc levels) (suc entries) l n e = rw e refl

pub more_above : (levels entries : ℕ) → levels ≢ 0 → entries ≢ 0 → quotient_up entries 64 ≢ 1 → nodes_above levels entries ≡ quotient_up entries 64 + nodes_above (levels - 1) (quotient_up entries 64)
unfolding nodes_above
more_above zero entries l n e = absurd (l refl)
more_above (suc levels) zero l n e = absurd (n refl)
more_above (suc levels) (suc entries) l n e =
    let other : (quotient_up (suc entries) 64 == 1) ≡ false = ne_eqb (quotient_up (suc entries) 64) 1 e in
    let less : suc levels - 1 ≡ levels = omega arith in
    ap (λ (p : Bool). if p then 1 else quotient_up (suc entries) 64 + nodes_above levels (quotient_up (suc entries) 64)) other ∙ ap (λ (k : ℕ). quotient_up (suc entries) 64 + nodes_above k (quotient_up (suc entries) 64)) (sym less)
