use Rattle.cdf_tool.proofs.Common.{AppendsFront, List, subst, ℕ, ◌∙◌}
use Rattle.cdf_tool.proofs.Shown.{held_cut, line_cut}
use Rattle.cdf_tool.proofs.showing.begin.Goals as goal

pub returns-in-Err-clause-part : goal.returns-in-Err-clause-part
returns-in-Err-clause-part g c = held_cut _ _ c.args.replies.now _ c.in-Err.ensures.part

pub returns-clause-part : goal.returns-clause-part
returns-clause-part g c =
    line_cut _ _ c.args.replies.now _ (g.O.Sink.written c.write.new.out) c.in-Ok.ensures.all
    (subst (λ (t : List ℕ). AppendsFront (g.O.Sink.written c.write.new.out) (g.O.Sink.written c.write_all.new.out) t) (c.deref.ensures.value ∙ c.in-Ok-frame_of.ensures.first) c.in-Err-write_all.ensures.part)
