use Rattle.cdf_pages.proofs.Common.{arith, file_of, length, ◌*◌, ◌+◌, ◌∙◌}
use Rattle.cdf_pages.proofs.Images.{shown_part}
use Rattle.cdf_pages.proofs.reading.read_kept.Goals as goal

pub returns-in-Some-clause-bytes : goal.returns-in-Some-clause-bytes
returns-in-Some-clause-bytes g c =
    c.read.ensures.bytes ∙ shown_part (file_of (g.S.Store.disk c.args.store.now)) c.in-Some.page c.args.number c.args.place (length c.args.out.now) (c.args.number * 65536 + c.args.place + length c.args.out.now)
    (c.requires.serves.1 c.in-Some.page c.in-Some.is) c.read.ensures.whole c.requires.room (omega arith) (λ j lt low. omega (arith, low, c.requires.inside))
