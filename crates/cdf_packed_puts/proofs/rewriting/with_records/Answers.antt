use Rattle.std.proofs.Common.{ap, arith, length, refl, sym, ◌*◌, ◌+◌, ◌-◌, ◌∙◌, ◌≡◌}
use Rattle.cdf_packed_puts.proofs.RecordsOver.{one_fits, one_long, one_written, put_none}
use Rattle.cdf_packed_puts.proofs.rewriting.with_records.Goals as goal

pub loop-i-init : goal.loop-i-init
loop-i-init c = record { written = sym (put_none _ _); as_long = refl }

pub overwrite-requires : goal.overwrite-requires
overwrite-requires c =
    let p = c.args.put.now in
    let l = c.args.leaf.now in
    let e : c.len-size.result ≡ length p.raw.items = omega (arith, c.len-size.ensures, p.raw.ok) in
    let fits = one_fits p.raw.items p.pad.items p.rec c.requires.pads l.first l.last c.args.k c.loop-i.i c.requires.from (omega (arith, c.loop-i-test.true, c.min-last.ensures)) in
    rw e (omega (arith, fits, ap length c.bytes_of.ensures, one_long p.raw.items p.pad.items p.rec c.requires.pads (c.args.k + c.loop-i.i), c.loop-i.invariant.as_long, c.requires.whole))

pub loop-i-preserved : goal.loop-i-preserved
loop-i-preserved c =
    let p = c.args.put.now in
    let l = c.args.leaf.now in
    let i = c.loop-i.invariant in
    let e : c.len-size.result ≡ length p.raw.items = omega (arith, c.len-size.ensures, p.raw.ok) in
    let fits = one_fits p.raw.items p.pad.items p.rec c.requires.pads l.first l.last c.args.k c.loop-i.i c.requires.from (omega (arith, c.loop-i-test.true, c.min-last.ensures)) in
    let one = one_written p.raw.items p.pad.items p.rec c.requires.pads c.args.plain.items c.loop-i.plain.items ((c.args.k - l.first) * length p.raw.items) c.args.k c.loop-i.i i.written (omega (arith, fits, c.requires.whole)) in
    record { written = rw (e, c.bytes_of.ensures) at c.overwrite.ensures.items ∙ one; as_long = omega (arith, c.overwrite.ensures.size, i.as_long) }
