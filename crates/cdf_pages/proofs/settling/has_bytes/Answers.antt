use Rattle.cdf_pages.proofs.Common.{arith, file_of, inr, sym, ◌∙◌}
use Rattle.cdf_pages.proofs.Settled.{other_byte, same_bytes}
use Rattle.cdf_pages.proofs.settling.has_bytes.Goals as goal

pub returns-then-count-bytes-clause-yes : goal.returns-then-count-bytes-clause-yes
returns-then-count-bytes-clause-yes g c e =
    same_bytes (file_of (g.S.Store.disk c.args.store.now)) c.args.bytes.now c.fill_front.new.out c.args.place c.in_ok-count.count (c.fill_front.ensures.size ∙ c.requires.size) c.if-count-bytes.true c.in_ok-count.ensures.bytes
    (omega (arith, c.in_ok-count.ensures.count)) (sym c.eq.ensures ∙ e)

pub returns-then-count-bytes-clause-no : goal.returns-then-count-bytes-clause-no
returns-then-count-bytes-clause-no g c e =
    inr (other_byte (file_of (g.S.Store.disk c.args.store.now)) c.args.bytes.now c.fill_front.new.out c.args.place c.in_ok-count.count (c.fill_front.ensures.size ∙ c.requires.size) c.if-count-bytes.true c.in_ok-count.ensures.bytes
    (sym c.eq.ensures ∙ e))
