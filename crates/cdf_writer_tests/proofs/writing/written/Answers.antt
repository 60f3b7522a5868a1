use Rattle.std.proofs.Common.{List, [], ap, arith, drop, length, subst, sym, take, ℕ, ◌++◌, ◌+◌, ◌<◌, ◌∙◌, ◌∷◌, ◌≡◌}
use Rattle.std.proofs.lemmas.List.{take-append-drop, take_all, take_more}
use Rattle.std.specs.Prelude.{get_or}
use Rattle.cdf_model.specs.declared.event.Event.{Event}
use Rattle.cdf_writer.specs.Taken.{Took}
use Rattle.cdf_writer_tests.proofs.writing.written.Goals as goal

-- one event more
next_is : (events : List Event) (i : ℕ) (e : Event) → i < length events → e ≡ get_or events i e → take (i + 1) events ≡ take i events ++ e ∷ []
next_is events i e lt is = take_more events i e lt ∙ ap (λ (x : Event). take i events ++ x ∷ []) (sym is)

pub put-requires : goal.put-requires
put-requires g c =
    let events = c.args.events.now in
    let i = c.loop-event.event-index in
    let e = c.event-item.result in
    let fine = c.requires.fine in
    let lt : i < length events = omega (arith, c.loop-event-test.true) in (
      take i events,
      c.loop-event.invariant,
      record {
        whole = fine.0;
        fine = fine.1;
        rest = drop (i + 1) events;
        are = sym fine.2 ∙ sym (take-append-drop (i + 1) events) ∙ ap (λ (l : List Event). l ++ drop (i + 1) events) (next_is events i e lt c.event-item.is);
      },
    )

pub loop-event-preserved : goal.loop-event-preserved
loop-event-preserved g c =
    let events = c.args.events.now in
    let i = c.loop-event.event-index in
    let lt : i < length events = omega (arith, c.loop-event-test.true) in
    subst (λ (l : List Event). Took g.A.Area.image g.A.Area.frame c.put.new.self l) (sym (next_is events i c.event-item.result lt c.event-item.is))
    (c.in_ok-put.ensures.took (take i events) c.loop-event.invariant)

pub returns : goal.returns
returns g c d fine are =
    let events = c.args.events.now in
    let all : take c.loop-event.event-index events ≡ events = take_all c.loop-event.event-index events (omega (arith, c.loop-event-test.false)) in
    c.into_area.ensures.whole d fine (subst (λ (l : List Event). Took g.A.Area.image g.A.Area.frame c.loop-event.writer l) (all ∙ are) c.loop-event.invariant)
