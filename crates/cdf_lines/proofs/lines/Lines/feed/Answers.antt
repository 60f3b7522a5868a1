use Rattle.std.proofs.Common.{◌∙◌, ap, arith, rules}
use Rattle.cdf_lines.specs.Waiting.{short_lines}
use Rattle.cdf_lines.proofs.Queue.{Adds, fed_is, room_left}
use Rattle.cdf_lines.proofs.lines.Lines.feed.Goals as goal

adds : (c : goal.After-drop-lines-2) → Adds c.self.inside.waiting.items c.push_lines.new.waiting.items c.append-3.new.self.items c.new.result c.self.inside.rest c.in-Some-first_line.line.now c.leading_lines.result.0.now c.leading_lines.result.1.now c.replace-text.new.dest
adds c = record {
  all = rw (c.in_ok-append-3.ensures.items, c.push_back_reserved.ensures.items) (search rules);
  is_block = record {
    line_is = c.new.ensures.line ∙ c.replace-text.ensures.value ∙ c.in_ok-append-2.ensures.ok;
    others_are = c.new.ensures.others ∙ ap short_lines c.in_ok-behind.ensures.items;
  };
  others = rw (c.in_ok-rest.ensures.lines, c.new-lines.ensures.items);
  left_is = rw c.replace-text.ensures.after c.in_ok-rest.ensures.rest;
}

pub invariant_of-self-2 : goal.invariant_of-self-2
invariant_of-self-2 c = room_left c.in-Some-first_line.ensures.first c.leading_lines.ensures (adds c) c.self.inside.block _ _ _ _ _ c.self.invariant.bytes
    (search rules) (omega (arith, c.in_ok-append-3.ensures.len, c.in_ok-reserve-2.ensures.ok, c.in_ok-reserve-2.ensures.len))

pub returns-clause-ok : goal.returns-clause-ok
returns-clause-ok c = rw (← c.self.view_is) (fed_is c.in-Some-first_line.ensures.first c.leading_lines.ensures (adds c) c.self.inside.block _ _)
