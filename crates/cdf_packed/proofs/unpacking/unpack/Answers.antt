use Rattle.std.proofs.Common.{◌≡◌, ◌∙◌, ◌++◌, ℕ, List, Result, Ok, Err, false, ap, arith, drop, length, take}
use Rattle.std.specs.Prelude.{OnOk}
use Rattle.std.specs.Result.{is_err}
use Rattle.std.proofs.Math.Seq.{take-append_seam}
use Rattle.cdf_model.specs.RunLengths.{Packs, plain_of}
use Rattle.cdf_packed.proofs.Standing.{plain_is}
use Rattle.cdf_packed.proofs.unpacking.unpack.Goals as goal

-- what was read without an error
read_is : {E : Type 0} (r : Result (Unit {0}) E) (packed out : List ℕ) → is_err r ≡ false → OnOk r (Packs packed out) → out ≡ plain_of packed
read_is (Ok u) packed out done filled = plain_is packed out filled
read_is (Err e) packed out done filled = absurd cc

pub returns-clause-plain : goal.returns-clause-plain
returns-clause-plain c =
    let out = c.decode_into.new.out in
    let items = c.in_ok-plain.plain.items in
    let is : out ≡ plain_of _ = read_is c.decode_into.result _ out (cc c.if-is_err.ensures.value) c.decode_into.ensures.filled in
    let same : c.in_ok-plain.plain.len ≡ length out = omega (arith, c.decode_into.auto.out, c.deref_mut.ensures.len, c.in_ok-plain.plain.ok) in
    ap (λ (n : ℕ). take n (out ++ drop (length out) items)) same ∙ take-append_seam out (drop (length out) items) ∙ is
