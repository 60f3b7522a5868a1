-- What `set-compress` answers, of a variable whose descriptor was found: it has records, or there is no room for its parameters, or the last image follows the command.
use Rattle.cdf_vars.proofs.Common.{Answers, DataSet, Done, Good, InUse, Kind, Known, Knows, List, Plain, Refused, TooLarge, VarId, Variable, ap, arith, content, extent, gone, length, map, max_rec_at, ne_eqb, refused, refl, sym, too_large, variable_of, variables_of, ℕ, ◌+◌, ◌-◌, ◌<◌, ◌∙◌, ◌≡◌, ◌≤◌, false}
use Rattle.std.specs.Prelude.{Bool, true, ◌==◌, if◌then◌else◌, not}
use Rattle.cdf_compress.specs.Compressing.{CompressionSet, packing_room}
use Rattle.cdf_format.specs.Records.{cpr_bytes}
use Rattle.cdf_format.specs.Shape.{is_compressed}
use Rattle.cdf_model.specs.declared.command.Command.TheVariants.{SetCompress}
use Rattle.cdf_model.specs.Answers.{Go}
use Rattle.cdf_model.specs.Step.{ByStep, step}
use Rattle.cdf_model.specs.VariableSteps.{with_variable}
use Rattle.cdf_puts.specs.Going.{found_in}
use Rattle.cdf_vars.proofs.PutRead.{names_set}
use Rattle.cdf_vars.proofs.VariableFound.{Parts, item_found, knows_now}

-- what a call that sets it asks for is no more than what the command may take
room_within : (b : List ℕ) (vdr : ℕ) (rle : Bool) → packing_room b vdr rle ≤ (if rle then cpr_bytes 1 else 0)
room_within b vdr false = omega arith
room_within b vdr true = by_packed (is_compressed b vdr)
  where
    by_packed : (packed : Bool) → (if not packed then 28 else 0) ≤ 28
    by_packed true = omega arith
    by_packed false = omega arith

pub room_there : (b : List ℕ) (vdr : ℕ) (rle : Bool) (limit size need : ℕ) → need ≡ (if rle then cpr_bytes 1 else 0) → size ≡ length b → length b ≤ limit → need ≤ limit - size → length b + packing_room b vdr rle ≤ limit
room_there b vdr rle limit size need is same fits left = omega (arith, room_within b vdr rle, is, same, fits, left)

module _ {b : List ℕ} {name : List ℕ} {known : Known} {id : VarId} (good : Good b) (knows : Knows b known) (p : Parts b known name id) {vdr : ℕ} (is : p.own.vdr ≡ vdr) (rle : Bool) where
  abbrev v : Variable
  v = variable_of b p.own

  -- it has records
  pub packed_in_use : {count : ℕ} → count ≡ extent (max_rec_at b vdr) → (count ≡ 0 → ⊥) → (limit : ℕ) → Answers limit b (SetCompress name rle) (Refused InUse) b
  packed_in_use {count} count_is some limit =
      let here : (extent v.max_rec == 0) ≡ false = ap (λ (n : ℕ). extent (max_rec_at b n) == 0) is ∙ ap (λ (n : ℕ). n == 0) (sym count_is) ∙ ne_eqb count 0 some in
      refused limit b (SetCompress name rle) InUse (rw (p.named, here) refl)

  -- it has none
  module _ (none : extent (max_rec_at b vdr) ≡ 0) where
    here : extent v.max_rec ≡ 0
    here = ap (λ (n : ℕ). extent (max_rec_at b n)) is ∙ none

    goes : step (content b) (SetCompress name rle) ≡ ByStep (Go (with_variable (content b) (found_in b id.kind p.before p.own) (record v { rle = rle })) Plain)
    goes = rw (p.named, here) refl

    pub no_room : (limit size need : ℕ) → need ≡ (if rle then cpr_bytes 1 else 0) → size ≡ length b → length b ≤ limit → limit - size < need → Answers limit b (SetCompress name rle) (Refused TooLarge) b
    no_room limit size need need_is size_is fits less = too_large limit b (SetCompress name rle) _ Plain goes (omega (arith, need_is, size_is, fits, less))

    pub set_done : {now : List ℕ} (limit size need : ℕ) → need ≡ (if rle then cpr_bytes 1 else 0) → size ≡ length b → length b ≤ limit → need ≤ limit - size → CompressionSet b now id.kind p.before p.own rle → Answers limit b (SetCompress name rle) (Done Plain) now
    set_done {now} limit size need need_is size_is fits left c = gone limit b (SetCompress name rle) _ Plain now goes (omega (arith, need_is, size_is, fits, left)) (c.follows name p.named)

  pub set_known : {now : List ℕ} → CompressionSet b now id.kind p.before p.own rle → Knows now known
  set_known {now} c = knows_now knows
      (λ (k : Kind). names_set (content b) id.kind (length p.before) (record v { rle = rle }) v (item_found (content b) name _ p.named) refl k ∙ ap (λ (d : DataSet). map (λ (w : Variable). w.name) (variables_of d k)) (sym c.content_is))
      (λ (k : Kind). sym (c.places k))
