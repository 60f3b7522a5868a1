use Rattle.cdf_pages.proofs.Common.{ap, arith, drop, get, inl, inr, length, length-drop, length-take-le, min, nat_cmp, page_at, refl, sym, take, ◌%◌, ◌+◌, ◌-◌, ◌/◌, ◌<◌, ◌∙◌, ◌≡◌, ◌≤◌}
use Rattle.cdf_pages.proofs.Covered.{was_step}
use Rattle.cdf_pages.proofs.Images.{some_of, put_none, write_step, less_step, length-image}
use Rattle.cdf_pages.proofs.writing.write_range.Goals as goal

pub loop-done-init : goal.loop-done-init
loop-done-init c = record { within = omega arith; image = λ file. sym (put_none _ c.args.place); less = λ q e. e; others = λ q o. refl; kept = refl; was = λ s q. refl; length = refl; marked = refl }

pub loop-done-preserved : goal.loop-done-preserved
loop-done-preserved c =
    let inv = c.loop-done.invariant in
    let bs = c.args.bytes.now in
    let start = c.args.place + c.loop-done.done in
    let k = start / 65536 in
    let off = start % 65536 in
    let m = c.min-count.result in
    let least : m ≡ min (length bs - c.loop-done.done) (65536 - off) = c.min-count.ensures in
    let more : c.loop-done.done < length bs = c.loop-done-test.true in
    let inside : c.args.place + length bs ≤ c.args.sheets.now.length = c.requires.inside in
    let old = page_at c.loop-done.sheets.changed in
    let page = some_of (old k) (λ e. c.requires.there k (omega arith) (omega arith) (inv.less k e)) in
    let long : length page.0 ≡ 65536 = c.write.ensures.whole page.0 page.1 in
    let now = c.write.ensures.written page.0 page.1 in
    record {
      within = omega arith;
      image = λ file. write_step old _ file _ bs _ page.0 c.args.sheets.now.length c.args.place c.loop-done.done m k off page.1 long (omega arith) (omega arith) inside (omega arith)
          (ap (λ n. take n (drop c.loop-done.done bs)) (omega arith)) now c.write.ensures.others (length-image _ file _) (inv.image file);
      less = λ q e. inv.less q (less_step old _ k _ now c.write.ensures.others q e);
      others = λ q o. c.write.ensures.others q (λ e. elim o [ inl below ↦ omega arith | inr above ↦ omega arith ]) ∙ inv.others q o;
      kept = c.write.ensures.kept ∙ inv.kept;
      was = λ s q. was_step old _ (get nat_cmp c.args.sheets.now.kept) k off _ _ page.0 _ page.1 long now c.write.ensures.others (c.requires.ready k (omega arith) (omega arith) s) (omega arith) (let count = length-take-le m (drop c.loop-done.done bs) (omega (arith, length-drop c.loop-done.done bs)) in omega (arith, count)) (omega arith) q ∙ inv.was s q;
      length = c.write.ensures.length ∙ inv.length;
      marked = c.write.ensures.marked ∙ inv.marked;
    }
