use Rattle.cdf_puts.proofs.Common.{Frame, ap, arith, edit_more, refl}
use Rattle.cdf_puts.proofs.PutSpot.{all_done, all_on, all_start, on_after, some_put}
use Rattle.cdf_puts.proofs.putting.put_records.Goals as goal

pub loop-so_far-init : goal.loop-so_far-init
loop-so_far-init g c = record { puts = all_start c.requires.some; known = c.requires.known; area = record { frame = refl; faults = refl } }

pub put_next-requires-clause-some : goal.put_next-requires-clause-some
put_next-requires-clause-some g c =
    rw (c.loop-so_far.invariant.area.frame) (some_put c.requires.some c.loop-so_far.invariant.puts)

pub loop-so_far-preserved : goal.loop-so_far-preserved
loop-so_far-preserved g c =
    let i = c.loop-so_far.invariant in
    record {
      puts = all_on i.puts (on_after refl (ap (λ (f : Frame g.A.Area.Under). f.limit) i.area.frame) c.in_ok-so_far.ensures.put);
      known = c.in_ok-so_far.ensures.known;
      area = edit_more i.area c.in_ok-so_far.ensures.area;
    }

pub returns-clause-put : goal.returns-clause-put
returns-clause-put g c = all_done c.loop-so_far.invariant.puts (omega (arith, c.loop-so_far-test.false))
