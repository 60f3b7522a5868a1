-- A member that is taken out of a chain and counted no more (own).
use Rattle.std.specs.Prelude.{◌≡◌, ℕ, ◌-◌, List, length}
use Rattle.cdf_edits.specs.Space.Chains.{holder_of, count_of, counted_in, members_of, HasChain, HolderStands, Removed}
use Rattle.cdf_edits.specs.declared.chain.Chain.{Chain}
use Rattle.cdf_format.specs.Fields.{with_field}

-- a chain with these members, which are counted
pub record Lists (b : List ℕ) (c : Chain) (members : List ℕ) : Type 0 where
  pub holder : HolderStands b c
  pub has : HasChain b c
  pub are : members ≡ members_of b c
  pub counted : counted_in b c ≡ length members

-- A record is no member of the chain any more, and then one less was counted.
pub record TakenOut (b now : List ℕ) (c : Chain) (place : ℕ) : Type 0 where
  pub first : List ℕ
  pub removed : Removed b first c place
  pub counted : now ≡ with_field first (holder_of b c) (count_of c) (counted_in b c - 1)
  pub length_stays : length now ≡ length b
