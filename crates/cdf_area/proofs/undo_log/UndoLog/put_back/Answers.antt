use Rattle.std.proofs.Common.{rules, ◌≡◌, ◌∙◌, ◌-◌, [], ap, sym, length}
use Rattle.cdf_area.specs.OldBytes.{back, olds_of}
use Rattle.cdf_area.proofs.Olds.{olds_of-pop}
use Rattle.cdf_area.proofs.undo_log.UndoLog.put_back.Goals as goal

pub put_bytes-requires : goal.put_bytes-requires
put_bytes-requires c =
    (olds_of-pop c.loop-span.spans.items c.pop.new.self.items c.in-Some.span c.loop-span.saved.items _ (c.len.result - c.in-Some.span.count) (length c.loop-span.bytes.items)
    c.in-Some.ensures.items c.deref.ensures.value (search rules) c.loop-span.invariant.whole c.loop-span.invariant.below).room

pub loop-span-preserved : goal.loop-span-preserved
loop-span-preserved c =
    let last = olds_of-pop c.loop-span.spans.items c.pop.new.self.items c.in-Some.span c.loop-span.saved.items _ (c.len.result - c.in-Some.span.count) (length c.loop-span.bytes.items)
    c.in-Some.ensures.items c.deref.ensures.value (search rules) c.loop-span.invariant.whole c.loop-span.invariant.below in
    let rest = olds_of c.pop.new.self.items in
    record {
      whole = last.whole ∙ ap length (sym c.truncate.ensures.items);
      below = rw (c.truncate.ensures.items, c.put_bytes.ensures.size) last.below;
      leads = rw (c.truncate.ensures.items, c.put_bytes.ensures.items) (last.leads c.loop-span.bytes.items ∙ c.loop-span.invariant.leads);
    }

pub returns : goal.returns
unfolding back olds_of
returns c =
    let none : c.loop-span.spans.items ≡ [] = search rules in
    ap (λ spans. back (olds_of spans c.loop-span.saved.items) c.loop-span.bytes.items) (sym none) ∙ c.loop-span.invariant.leads
