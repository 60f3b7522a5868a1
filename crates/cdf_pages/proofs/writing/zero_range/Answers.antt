use Rattle.cdf_pages.proofs.Common.{Covers, IsSome, List, ap, ap₂, arith, get, image_of, inl, inr, length, length-replicate, nat_cmp, page_at, part_from, part_upto, put, refl, replicate, rules, subst, sym, take, was, ℕ, ◌+◌, ◌∙◌, ◌≡◌, ◌≤◌}
use Rattle.cdf_pages.proofs.Covered.{covers_less}
use Rattle.cdf_pages.proofs.Images.{put_none, take_zeros, zeros_more, put_end, length-image}
use Rattle.cdf_pages.proofs.writing.zero_range.Goals as goal

pub loop-done-init : goal.loop-done-init
loop-done-init c = record { within = omega arith; image = λ file. sym (put_none _ c.args.sheets.now.length); less = λ q e. e; others = λ q o. refl; kept = refl; was = λ s q. refl; length = refl; marked = refl }

pub loop-done-preserved : goal.loop-done-preserved
loop-done-preserved c =
    let inv = c.loop-done.invariant in
    let m = c.min-count.result in
    let n = c.args.sheets.now.length + c.args.n in
    let start = c.args.sheets.now.length + c.loop-done.done in
    let small : m ≤ 4096 = search rules in
    let within : c.loop-done.done + m ≤ c.args.n = search rules in
    let part : take m (replicate {A = ℕ} 4096 0) ≡ replicate m 0 = take_zeros m 4096 small in
    let count : length (take m (replicate {A = ℕ} 4096 0)) ≡ m = ap (λ (l : List ℕ). length l) part ∙ length-replicate {A = ℕ} m 0 in
    record {
      within = within;
      image = λ file. ap (λ k. image_of (page_at c.write_range.new.sheets.changed) file k) (sym inv.length) ∙ c.write_range.ensures.image file
          ∙ ap (λ k. put (image_of (page_at c.loop-done.sheets.changed) file k) start (take m (replicate {A = ℕ} 4096 0))) inv.length
          ∙ ap₂ (λ b xs. put b start xs) (inv.image file) part ∙ zeros_more (image_of (page_at c.args.sheets.now.changed) file n) c.args.sheets.now.length c.loop-done.done m (omega (arith, within, length-image (page_at c.args.sheets.now.changed) file n));
      less = λ q e. inv.less q (c.write_range.ensures.less q e);
      others = λ q o. c.write_range.ensures.others q (elim o [ inl below ↦ inl (omega arith) | inr above ↦ inr (omega (arith, above, count, within)) ]) ∙ inv.others q o;
      kept = c.write_range.ensures.kept ∙ inv.kept;
      was = λ s q. subst (λ k. was (get nat_cmp k q) (page_at c.write_range.new.sheets.changed q) ≡ was (get nat_cmp k q) (page_at c.loop-done.sheets.changed q)) inv.kept (c.write_range.ensures.was (subst IsSome (sym inv.marked) s) q) ∙ inv.was s q;
      length = c.write_range.ensures.length ∙ inv.length;
      marked = c.write_range.ensures.marked ∙ inv.marked;
    }

pub write_range-requires-clause-ready : goal.write_range-requires-clause-ready
write_range-requires-clause-ready c q low high s =
    let inv = c.loop-done.invariant in
    let m = c.min-count.result in
    let small : m ≤ 4096 = search rules in
    let within : c.loop-done.done + m ≤ c.args.n = search rules in
    let part : take m (replicate {A = ℕ} 4096 0) ≡ replicate m 0 = take_zeros m 4096 small in
    let count : length (take m (replicate {A = ℕ} 4096 0)) ≡ m = ap (λ (l : List ℕ). length l) part ∙ length-replicate {A = ℕ} m 0 in
    let piece = part_upto (c.args.sheets.now.length + c.loop-done.done + length (take m (replicate {A = ℕ} 4096 0))) q in
    let start = part_from (c.args.sheets.now.length + c.loop-done.done) q in
    subst (λ k. Covers (get nat_cmp k q) start piece) (sym inv.kept)
    (covers_less (get nat_cmp c.args.sheets.now.kept q) (part_from c.args.sheets.now.length q) (part_upto (c.args.sheets.now.length + c.args.n) q) start piece
    (omega arith) (omega (arith, count, within)) (c.requires.ready q (omega (arith, low)) (omega (arith, high, count, within)) (subst IsSome inv.marked s)))

pub returns-clause-image : goal.returns-clause-image
returns-clause-image c file =
    let inv = c.loop-done.invariant in
    let whole : c.loop-done.done ≡ c.args.n = search rules in
    ap (λ k. image_of (page_at c.loop-done.sheets.changed) file k) inv.length ∙ inv.image file
    ∙ ap (λ k. put (image_of (page_at c.args.sheets.now.changed) file (c.args.sheets.now.length + c.args.n)) c.args.sheets.now.length (replicate k 0)) whole
    ∙ put_end (page_at c.args.sheets.now.changed) file c.args.sheets.now.length c.args.n
