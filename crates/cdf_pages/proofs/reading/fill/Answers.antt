use Rattle.cdf_pages.proofs.Common.{ap, arith, drop, file_of, length, rules, sym, take, ◌+◌, ◌-◌, ◌<◌, ◌∙◌, ◌≡◌, ◌≤◌}
use lib.Seq.{drop-drop}
use Rattle.cdf_pages.proofs.Filling.{filled, takes_more, reads_piece}
use Rattle.cdf_pages.proofs.reading.fill.Goals as goal

pub loop-done-preserved : goal.loop-done-preserved
loop-done-preserved g c =
    let inv = c.loop-done.invariant in
    let src = file_of (g.S.Store.disk c.args.store.now) in
    let same : file_of (g.S.Store.disk c.loop-done.store) ≡ src = ap (λ d. file_of d) inv.disk in
    let there : c.args.place + c.args.live ≤ length (file_of (g.S.Store.disk c.args.store.now)) = c.requires.there (omega (arith, c.loop-done-test.true)) in
    let more : 0 < length (file_of (g.S.Store.disk c.loop-done.store)) = omega (arith, ap length same, there, c.loop-done-test.true) in
    let piece = reads_piece _ (g.S.Store.disk c.loop-done.store).held (c.args.place + c.loop-done.done) c.read_at.new.out c.in_ok-count.count more c.in_ok-count.ensures.bytes in
    let here : take c.in_ok-count.count c.read_at.new.out ≡ take c.in_ok-count.count (drop c.loop-done.done (drop c.args.place src)) =
    piece.bytes ∙ ap (λ l. take c.in_ok-count.count (drop (c.args.place + c.loop-done.done) l)) same ∙ ap (take c.in_ok-count.count) (sym (drop-drop c.loop-done.done c.args.place src)) in
    let within : c.loop-done.done + c.in_ok-count.count ≤ c.args.live = (let fits = piece.fits in search rules) in
    record {
      bytes = filled c.loop-done.out c.read_at.new.out (drop c.args.place src) c.loop-done.done c.in_ok-count.count (c.args.live - c.loop-done.done) (omega (arith, inv.within, inv.size, c.requires.live)) piece.fits inv.bytes here;
      within = within;
      size = search rules;
      disk = c.in_ok-count.ensures.disk ∙ inv.disk;
      read = c.in_ok-count.ensures.cause.done ∙ inv.read;
      write = c.in_ok-count.ensures.write ∙ inv.write;
      unstored = c.in_ok-count.ensures.unstored ∙ inv.unstored;
      taken = takes_more _ _ _ _ c.loop-done.done c.in_ok-count.count inv.taken c.in_ok-count.ensures.taken;
    }
