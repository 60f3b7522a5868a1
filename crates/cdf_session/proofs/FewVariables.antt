-- The variables of a data set have small numbers.
use Rattle.std.proofs.Common.{Err, None, Ok, Option, Result, Some, ap, arith, length, refl, ℕ, ◌+◌, ◌<◌, ◌^◌, ◌≡◌}
use Rattle.std.proofs.lemmas.Option.{slice_get_within}
use Rattle.std.specs.List.{slice_get}
use Rattle.std.specs.Option.{option_map}
use Rattle.std.specs.Prelude.{IfOk, OnSome}
use Rattle.cdf_area.specs.declared.area.AreaError.{AreaError}
use Rattle.cdf_model.specs.declared.event.Event.{Event}
use Rattle.cdf_model.specs.declared.head.Head.{Head}
use Rattle.cdf_model.specs.declared.kinds.Kind.{Kind}
use Rattle.cdf_model.specs.declared.kinds.Kind.TheVariants.{R, Z}
use Rattle.cdf_model.specs.DataSet.{DataSet, Variable, head_of}
use Rattle.cdf_model.specs.Events.{variable_event}
use Rattle.cdf_model.specs.Names.{variables_of}
use Rattle.cdf_vars.specs.Events.{HasWholeVariables}

module _ {d : DataSet} (whole : (kind : Kind) → HasWholeVariables d kind) where
  -- a variable has a small number
  found_few : (kind : Kind) (n : ℕ) (v : Option Variable) (o : Option Event) → o ≡ option_map (variable_event kind n) v → slice_get (variables_of d kind) n ≡ v → OnSome o (n < 0xffffffff)
  found_few kind n v None is at = tt
  found_few kind n None (Some event) is at = absurd cc
  found_few kind n (Some v) (Some event) is at = let within = slice_get_within (variables_of d kind) n v at in let few = (whole kind).few in omega arith

  pub variable_few : (kind : Kind) (n : ℕ) (r : Result (Option Event) AreaError) → IfOk r (λ o. o ≡ option_map (variable_event kind n) (slice_get (variables_of d kind) n)) → IfOk r (λ o. OnSome o (n < 0xffffffff))
  variable_few kind n (Ok o) is = found_few kind n (slice_get (variables_of d kind) n) o is refl
  variable_few kind n (Err error) is = tt

  -- so there are few variables
  pub few_variables : (head : Head) → head ≡ head_of d → head.rvars + head.zvars < 2 ^ 32
  few_variables head is =
      let r_is : head.rvars ≡ length d.r_variables = ap (λ (h : Head). h.rvars) is in
      let z_is : head.zvars ≡ length d.z_variables = ap (λ (h : Head). h.zvars) is in
      let r_few = (whole R).few in
      let z_few = (whole Z).few in
      omega arith
