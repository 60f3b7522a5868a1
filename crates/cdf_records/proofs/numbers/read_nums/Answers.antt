use Rattle.std.proofs.Common.{◌≡◌, ◌+◌, ◌-◌, arith}
use Rattle.cdf_area.proofs.Calls.{read_more}
use Rattle.cdf_format.specs.Fields.{word}
use Rattle.cdf_records.proofs.Places.{words_more}
use Rattle.cdf_records.proofs.numbers.read_nums.Goals as goal

pub loop-preserved : goal.loop-preserved
loop-preserved g c =
    let image = g.A.Area.image c.args.area.now in
    let i = c.loop.invariant in
    let read : c.in_ok-number.number ≡ word image c.loop.place 4 = rw i.area.image at c.in_ok-number.ensures.value in
    let step = words_more image c.loop.numbers.items c.loop.place (c.args.n - c.loop.counter) (c.args.n - (c.loop.counter + 1)) (omega arith) in
    record {
      value = rw (c.in_ok-push.ensures.items, read, step) i.value;
      room = omega arith;
      area = read_more i.area c.in_ok-number.ensures.area;
    }
