use Rattle.cdf_cuts.proofs.Common.{ap, arith, ℕ, ◌*◌, ◌+◌, ◌-◌, ◌≡◌}
use Rattle.cdf_cuts.proofs.BlocksMoved.{times_add}
use Rattle.cdf_sparse.proofs.opening.later_body.Goals as goal

pub read_bytes-requires : goal.read_bytes-requires
read_bytes-requires g c =
    let l = c.args.leaf.now in
    let r = c.requires.reaches in
    let t = c.requires.later in
    let sum = times_add (c.args.last + 1 - l.first) (l.last - c.args.last) c.args.rec_bytes in
    let whole : (c.args.last + 1 - l.first) + (l.last - c.args.last) ≡ l.last + 1 - l.first = omega arith in
    omega (arith, sum, ap (λ (n : ℕ). n * c.args.rec_bytes) whole, ap (λ (n : ℕ). n * c.args.rec_bytes) c.from.ensures, ap (λ (n : ℕ). n * c.args.rec_bytes) c.from-2.ensures, c.requires.room)
