use Rattle.std.proofs.Common.{List, ap, subst, sym, true, ◌∙◌, ◌≡◌}
use Rattle.cdf_mem_disk.specs.Events.{Event, after_events, are_made}
use Rattle.cdf_mem_disk.specs.MemParts.{parts_in}
use Rattle.cdf_mem_disk.proofs.Histories.{redo_events, redo_within}
use Rattle.cdf_mem_disk.proofs.Replays.{made_take, on_ok}
use Rattle.cdf_mem_disk.proofs.history.History.redo.Goals as goal

pub redo_calls-requires-clause-within : goal.redo_calls-requires-clause-within
redo_calls-requires-clause-within c =
    let h = c.self.inside in
    redo_within h.bytes.items c.deref-2.result.now h.calls.items c.deref.result.now c.args.count c.deref-2.ensures.value c.deref.ensures.value c.self.invariant

pub redo_calls-requires-clause-made : goal.redo_calls-requires-clause-made
redo_calls-requires-clause-made c =
    let h = c.self.inside in
    let same = redo_events h.bytes.items c.deref-2.result.now h.calls.items c.deref.result.now c.args.self.now c.args.count c.deref-2.ensures.value c.deref.ensures.value c.self.view_is in
    subst (λ (es : List Event). are_made (parts_in c.args.parts.now) es ≡ true) (sym same) (made_take (parts_in c.args.parts.now) c.args.self.now c.args.count c.requires.made)

pub returns : goal.returns
returns c =
    let h = c.self.inside in
    let same = redo_events h.bytes.items c.deref-2.result.now h.calls.items c.deref.result.now c.args.self.now c.args.count c.deref-2.ensures.value c.deref.ensures.value c.self.view_is in
    on_ok c.redo_calls.result _ _ (λ e. e ∙ ap (λ (es : List Event). after_events (parts_in c.args.parts.now) es) same) c.redo_calls.ensures
