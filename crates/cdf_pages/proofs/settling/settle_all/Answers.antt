use Rattle.cdf_pages.proofs.Common.{Differs, IfSome, IsSome, IsTrue, List, None, Option, Some, TakesAtMost, ap, ap₂, arith, file_of, image_of, is_in, length, min, page_at, pages_in, subst, sym, ℕ, ◌*◌, ◌-◌, ◌∙◌, ◌≡◌}
use Rattle.cdf_pages.proofs.SavedPage.{changed_at_first}
use Rattle.cdf_pages.proofs.Settled.{compared_cost, compared_upto, differs_next, upto_next}
use Rattle.cdf_pages.proofs.settling.settle_all.Goals as goal

-- the next page is there, and was a changed one at first
module _ (p p' : ℕ → Option (List ℕ)) (k : ℕ) (at : Option ℕ) (is : at ≡ Some k) (there : IfSome at (λ m. IsSome (p' m))) where
  next_there : IsSome (p' k)
  next_there = subst (λ o. IfSome o (λ m. IsSome (p' m))) is there

  next_changed : ((q : ℕ) → p q ≡ None → p' q ≡ None) → IsTrue (is_in p k)
  next_changed less = changed_at_first p p' k less next_there

pub returns-in_err-settle_page-clause-taken : goal.returns-in_err-settle_page-clause-taken
returns-in_err-settle_page-clause-taken g c =
    let inv = c.loop-next.invariant in
    let P0 = page_at c.args.sheets.now.changed in
    let n = c.args.sheets.now.length in
    let k = c.in-Some.number in
    let long : length (file_of (g.S.Store.disk c.loop-next.store)) ≡ length (file_of (g.S.Store.disk c.args.store.now)) = ap (λ d. length (file_of d)) inv.disk in
    let some = next_changed P0 (page_at c.loop-next.sheets.changed) k c.loop-next.next c.in-Some.is inv.there inv.less in
    compared_cost P0 _ (g.S.Store.taken c.loop-next.store) _ (length (file_of (g.S.Store.disk c.args.store.now))) n k (pages_in 0 n) c.loop-next.next c.in-Some.is some (omega arith) inv.taken
    (subst (λ (m : ℕ). TakesAtMost (g.S.Store.taken c.loop-next.store) (g.S.Store.taken c.settle_page.new.store) (min 65536 (m - k * 65536))) long c.settle_page.ensures.taken)
    (λ past. c.settle_page.ensures.past (omega (arith, past, inv.length)))

pub loop-next-preserved : goal.loop-next-preserved
loop-next-preserved g c =
    let inv = c.loop-next.invariant in
    let ok = c.in_ok-settle_page.ensures in
    let P0 = page_at c.args.sheets.now.changed in
    let P = page_at c.loop-next.sheets.changed in
    let Q = page_at c.settle_page.new.sheets.changed in
    let F0 = file_of (g.S.Store.disk c.args.store.now) in
    let F = file_of (g.S.Store.disk c.loop-next.store) in
    let n = c.args.sheets.now.length in
    let m = c.loop-next.sheets.length in
    let k = c.in-Some.number in
    let same : F ≡ F0 = ap (λ d. file_of d) inv.disk in
    let long : length F ≡ length F0 = ap (λ (l : List ℕ). length l) same in
    let some = next_changed P0 P k c.loop-next.next c.in-Some.is inv.there inv.less in
    let as_first : image_of P F m ≡ image_of P0 F0 n = ap₂ (image_of P) same inv.length ∙ inv.image in
    record {
      image = sym (ap₂ (image_of Q) same inv.length) ∙ ok.image ∙ as_first;
      backed = λ i lt e. omega (arith, long, ok.backed i (omega (arith, lt, inv.length)) e);
      less = λ q e. ok.less q (inv.less q e);
      there = c.next-next.ensures.there;
      differs = differs_next P Q F0 (image_of P0 F0 n) k c.loop-next.next c.next-next.result c.in-Some.is inv.differs ok.others
          (λ there. subst (λ (l : List ℕ). Differs F0 l k) as_first (subst (λ (l : List ℕ). Differs l (image_of P F m) k) same (ok.differs there)))
          c.next-next.ensures.least c.next-next.ensures.none;
      buffer = ok.buffer;
      marked = ok.marked;
      disk = ok.disk ∙ inv.disk;
      taken = compared_cost P0 _ (g.S.Store.taken c.loop-next.store) _ (length F0) n k (compared_upto c.next-next.result (pages_in 0 n)) c.loop-next.next c.in-Some.is some (upto_next k (pages_in 0 n) c.next-next.result c.next-next.ensures.behind) inv.taken
          (subst (λ (l : ℕ). TakesAtMost (g.S.Store.taken c.loop-next.store) (g.S.Store.taken c.settle_page.new.store) (min 65536 (l - k * 65536))) long ok.taken)
          (λ past. ok.past (omega (arith, past, inv.length)));
      read = ok.cause.done ∙ inv.read;
      write = ok.write ∙ inv.write;
      unstored = ok.unstored ∙ inv.unstored;
      length = ok.length ∙ inv.length;
    }
