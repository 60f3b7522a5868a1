use Rattle.cdf_tool.proofs.Common.{Asks, List, Turns, [], built, inl, inr, is_refused, refl, reply_text, subst, sym, ℕ, ◌∙◌}
use Rattle.cdf_tool.proofs.Commands.{command_replies, command_turns}
use Rattle.cdf_tool.proofs.IdleLemmas.{idle_turns, refused_same}
use Rattle.cdf_tool.proofs.OnlyReads.{reads_same}
use Rattle.cdf_tool.proofs.Whole.{can_be_written}
use Rattle.cdf_tool.specs.Answering.{RepliesTo}
use Rattle.cdf_tool.proofs.replay.answer_outcome.Goals as goal

pub answer_of-requires : goal.answer_of-requires
answer_of-requires g c = can_be_written _ _ c.args.command.now c.in_ok-outcome.outcome _ c.in_ok-outcome.ensures.answers

pub returns-clause-replies : goal.returns-clause-replies
returns-clause-replies g c =
    subst (λ (now : List ℕ). RepliesTo (g.A.Area.frame c.args.session.now).limit (g.A.Area.image c.args.session.now) c.args.line.now.number c.args.command.now now c.in_ok-answer_of.field-0) (sym c.read_broken_condition.ensures.area.image)
    (command_replies (g.A.Area.frame c.args.session.now).limit (g.A.Area.image c.args.session.now) c.args.line.now.number c.args.command.now c.in_ok-outcome.outcome (g.A.Area.image c.apply.new.self)
    c.in_ok-outcome.ensures.answers c.in_ok-answer_of.field-0 c.in_ok-answer_of.ensures)

pub returns-clause-idle : goal.returns-clause-idle
returns-clause-idle g c = λ idle.
    let applied = c.in_ok-outcome.ensures in
    let read_on = c.read_broken_condition.ensures.area in
    let unfaulted = c.in_ok-broken.ensures.area.cause.done in
    let limit = (g.A.Area.frame c.args.session.now).limit in
    let before = g.A.Area.image c.args.session.now in
    let after = g.A.Area.image c.apply.new.self in
    let command = c.args.command.now in
    let outcome = c.in_ok-outcome.outcome in
    let n = c.args.line.now.number in
    let turns : Turns limit before [] n (Asks command) after [] (is_refused outcome) (reply_text n outcome) = command_turns limit before [] n command outcome after (is_refused outcome) (reply_text n outcome) applied.answers refl refl in
    elim (idle_turns limit before n (Asks command) after (is_refused outcome) (reply_text n outcome) turns idle) [
      | inl read ↦ record {
        image = read_on.image ∙ reads_same (built command) limit before command outcome after read applied.answers;
        edited = read_on.edited ∙ c.apply.ensures.unedited read;
        frame = read_on.frame ∙ c.apply.ensures.area.frame;
        faults = unfaulted ∙ applied.area.cause.done;
      }
      | inr is ↦ record {
        image = read_on.image ∙ refused_same (built command) limit before command outcome after is applied.answers;
        edited = read_on.edited ∙ applied.refused is;
        frame = read_on.frame ∙ c.apply.ensures.area.frame;
        faults = unfaulted ∙ applied.area.cause.done;
      }
    ]
