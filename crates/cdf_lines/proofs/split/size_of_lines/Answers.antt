use Rattle.std.proofs.Common.{◌≡◌, ◌+◌, ◌-◌, [], take, subst, arith, ℕ}
use Rattle.cdf_model.specs.Lines.{split}
use Rattle.cdf_lines.proofs.Newlines.{ends-whole}
use Rattle.cdf_lines.proofs.split.size_of_lines.Goals as goal

pub returns-else-text-size-ne10-clause-whole : goal.returns-else-text-size-ne10-clause-whole
returns-else-text-size-ne10-clause-whole c =
    let size : c.loop-size.size - 1 + 1 ≡ c.loop-size.size = omega arith in
    subst (λ (n : ℕ). (split (take n c.args.text.now)).1 ≡ []) size (ends-whole c.args.text.now (c.loop-size.size - 1) (omega arith) c.if-text-size-ne10.false)
