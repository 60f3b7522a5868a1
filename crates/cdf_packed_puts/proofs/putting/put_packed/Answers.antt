use Rattle.std.proofs.Common.{ap, arith, refl}
use Rattle.cdf_area.proofs.Calls.{edit_more}
use Rattle.cdf_area.specs.Frame.{Frame}
use Rattle.cdf_packed_puts.proofs.PackedSpot.{all_done, all_on, all_start, on_after, some_packed}
use Rattle.cdf_packed_puts.proofs.putting.put_packed.Goals as goal

pub loop-so_far-init : goal.loop-so_far-init
loop-so_far-init g c = record { puts = all_start c.requires.some; known = c.requires.known; area = record { frame = refl; faults = refl } }

pub put_next-requires-clause-some : goal.put_next-requires-clause-some
put_next-requires-clause-some g c =
    rw (c.loop-so_far.invariant.area.frame) (some_packed c.requires.some c.loop-so_far.invariant.puts)

pub loop-so_far-preserved : goal.loop-so_far-preserved
loop-so_far-preserved g c =
    let i = c.loop-so_far.invariant in
    record {
      puts = all_on i.puts (on_after refl (ap (λ (f : Frame g.A.Area.Under). f.limit) i.area.frame) c.in_ok-so_far.ensures.put);
      known = c.in_ok-so_far.ensures.known;
      area = edit_more i.area c.in_ok-so_far.ensures.area;
    }

pub returns-clause-put : goal.returns-clause-put
returns-clause-put g c = λ kind before own after p. all_done c.loop-so_far.invariant.puts (omega (arith, c.loop-so_far-test.false)) kind before own after p
