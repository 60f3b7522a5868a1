-- How much longer an image becomes by acts that only take, and that nothing is taken where no bytes are.
use Rattle.cdf_puts.proofs.Common.{Act, ActsFollow, AreActs, Gave, OnlyTakes, leaf_acts, vxr_bytes, zero, suc, if◌then◌else◌, ◌==◌, List, SpaceLeft, Took, [], after_act, arith, fold, length, map, refl, space_before, sum_by-cons, taken, taken_bytes, ℕ, ◌++◌, ◌+◌, ◌∷◌, ◌≡◌, ◌≤◌}
use Rattle.cdf_edits.specs.Index.Cut.{BlocksFreedStay, NodesFreedStay}

one_taken : (place need : ℕ) (more : List Act) → taken_bytes (Took place need ∷ more) ≡ need + taken_bytes more
one_taken place need more = sum_by-cons (λ x. x) need (map (λ (take : ℕ × ℕ). take.1) (taken more))

pub taken_sum : (acts acts' : List Act) → taken_bytes (acts ++ acts') ≡ taken_bytes acts + taken_bytes acts'
taken_sum [] acts' = omega arith
taken_sum (Took place need ∷ more) acts' = omega (arith, one_taken place need (more ++ acts'), one_taken place need more, taken_sum more acts')
taken_sum (Gave place size ∷ more) acts' = taken_sum more acts'

-- a block is taken, and a node where one is needed
pub leaf_bytes : (place need room at : ℕ) → taken_bytes (leaf_acts place need room at) ≡ need + (if room == 0 then 0 else vxr_bytes room)
leaf_bytes place need zero at = omega arith
leaf_bytes place need (suc room) at = grind arith

pub takes_both : (acts acts' : List Act) → OnlyTakes acts → OnlyTakes acts' → OnlyTakes (acts ++ acts')
takes_both [] acts' t u = u
takes_both (Took place need ∷ more) acts' t u = takes_both more acts' t u
takes_both (Gave place size ∷ more) acts' t u = absurd t

end_after_acts : (l : SpaceLeft) (acts : List Act) → OnlyTakes acts → (fold after_act l acts).end ≤ l.end + taken_bytes acts
end_after_acts l [] t = omega arith
end_after_acts l (Took place need ∷ more) t = grind (arith, end_after_acts (after_act l (Took place need)) more t, one_taken place need more)
end_after_acts l (Gave place size ∷ more) t = absurd t

-- an image is longer by no more than was taken
pub longer_by : (b now : List ℕ) (acts : List Act) → ActsFollow b now acts → OnlyTakes acts → length now ≤ length b + taken_bytes acts
longer_by b now acts f t = let e = f.left.end_is in let l = end_after_acts (space_before b) acts t in omega arith

-- where a record was taken and another one freed then, by no more than the one that was taken
pub longer_moved : (b now : List ℕ) (place need old size : ℕ) → ActsFollow b now (Took place need ∷ Gave old size ∷ []) → length now ≤ length b + need
longer_moved b now place need old size f = let e = f.left.end_is in let l = end_after_acts (space_before b) (Took place need ∷ []) tt in let one = one_taken place need [] in omega arith

pub none_without_bytes : (l : SpaceLeft) (acts : List Act) → AreActs l acts → OnlyTakes acts → taken_bytes acts ≤ 0 → acts ≡ []
none_without_bytes l [] are t le = refl
none_without_bytes l (Took place need ∷ more) are t le = let e = one_taken place need more in let some = are.0.0 in absurd (omega arith)
none_without_bytes l (Gave place size ∷ more) are t le = absurd t

-- ---- nothing is freed

pub none_given : (b now : List ℕ) (acts gives : List Act) → OnlyTakes gives → BlocksFreedStay b now acts gives × NodesFreedStay b now acts gives
none_given b now acts [] t = (tt, tt)
none_given b now acts (Took place need ∷ more) t = none_given b now acts more t
none_given b now acts (Gave place size ∷ more) t = absurd t
