use Rattle.cdf_vars.proofs.Common.{KnownKind, ap, arith, length, remove, ◌∙◌}
use Rattle.cdf_vars.proofs.RemovalAnswers.{knows_less, named_too}
use Rattle.cdf_vars.proofs.vars.VarTable.remove.Goals as goal

pub remove-requires : goal.remove-requires
remove-requires g c = let w = c.requires.within in let n = ap (λ (k : KnownKind). length k.names) c.self.view_is ∙ named_too c.requires.good c.requires.known in omega arith

pub returns-clause-known : goal.returns-clause-known
returns-clause-known g c =
    knows_less c.requires.good c.in_ok-remove_at.ensures.removed c.requires.known c.remove.new.self c.remove-2.new.self.items
    (c.remove.ensures ∙ ap (λ (k : KnownKind). remove k.names c.args.num) c.self.view_is)
    (c.remove-2.ensures.items ∙ ap (λ (k : KnownKind). remove k.places c.args.num) c.self.view_is)
