use Rattle.cdf_pages.proofs.Common.{Bool, IsValid, List, LruCache, Option, ReadsSome, ap, arith, cost_of_reading, drop, drop-drop, file_of, image_of, is_in, keys_of, length, min, nat_eq, page_at, page_cost, pages_in, refl, rules, subst, suc, sym, take, take-take, used, used_from, ℕ, ◌%◌, ◌*◌, ◌+◌, ◌-◌, ◌/◌, ◌<◌, ◌∙◌, ◌≡◌}
use borrow.Rule.Slice.PartMut.{put_mid}
use Rattle.cdf_pages.proofs.Costs.{page_next, page_now, pages_grow, read_cost_grows, read_cost_next, takes_same, takes_then, used_next}
use Rattle.cdf_pages.proofs.Growing.{serves_same}
use Rattle.cdf_pages.proofs.Filling.{filled, on_err, takes_less}
use Rattle.cdf_pages.proofs.reading.read_range.Goals as goal

pub loop-done-init : goal.loop-done-init
unfolding used_from cost_of_reading
loop-done-init g c =
    let none : pages_in c.args.place 0 ≡ 0 = omega arith in
    record {
      within = omega arith;
      bytes = refl;
      len = refl;
      serves = c.requires.serves;
      aligned = λ some. absurd (omega (arith, some));
      used = ap (λ m. used_from (is_in (page_at c.args.sheets.now.changed)) (c.args.place / 65536) m (keys_of c.args.clean.now.entries)) (sym none);
      taken = takes_same _ _ _ refl;
      valid = c.requires.valid;
      cap = refl;
      disk = refl;
      read = refl;
      write = refl;
      unstored = refl;
    }

-- what one page more costs
cost_step : (changed : ℕ → Bool) (keys keys' : List ℕ) (long long' from k count number : ℕ) → keys' ≡ used_from changed from count keys → long' ≡ long → from + count ≡ number
    → cost_of_reading changed keys long from count + page_cost changed keys' long' number ≡ cost_of_reading changed keys long from (suc count)
cost_step changed keys keys' long long' from k count number used size at =
    (λ i. cost_of_reading changed keys long from count + page_cost changed (used i) (size i) (sym at i)) ∙ sym (read_cost_next changed keys long from count)

pub returns-in_err-read_within-clause-some : goal.returns-in_err-read_within-clause-some
returns-in_err-read_within-clause-some g c =
    let inv = c.loop-done.invariant in
    let done = c.loop-done.done in
    let n = c.min-count.result in
    let more : done < length c.loop-done.out = c.loop-done-test.true in
    let least : n ≡ min (length c.loop-done.out - done) (65536 - (c.args.place + done) % 65536) = c.min-count.ensures in
    let next = page_next c.args.place done n (length c.loop-done.out) more inv.aligned least in
    let grows = pages_grow c.args.place (done + n) (length c.args.out.now) (omega (arith, least, more, inv.len)) in
    let some : ReadsSome (is_in (page_at c.args.sheets.now.changed)) (keys_of c.args.clean.now.entries) (keys_of c.read_within.new.clean.entries) c.args.place (length c.args.out.now) =
    record { count = pages_in c.args.place done; before = omega (arith, next, grows); used = ap (λ ca. keys_of ca.entries) c.in_err-read_within.ensures.stays ∙ inv.used } in
    on_err _ some

pub returns-in_err-read_within-clause-valid : goal.returns-in_err-read_within-clause-valid
returns-in_err-read_within-clause-valid g c = subst (λ (clean : LruCache ℕ (Option (List ℕ))). IsValid nat_eq clean) (sym c.in_err-read_within.ensures.stays) c.loop-done.invariant.valid

pub returns-in_err-read_within-clause-taken : goal.returns-in_err-read_within-clause-taken
returns-in_err-read_within-clause-taken g c =
    let inv = c.loop-done.invariant in
    let done = c.loop-done.done in
    let n = c.min-count.result in
    let ch = is_in (page_at c.args.sheets.now.changed) in
    let keys = keys_of c.args.clean.now.entries in
    let from = c.args.place / 65536 in
    let more : done < length c.loop-done.out = c.loop-done-test.true in
    let least : n ≡ min (length c.loop-done.out - done) (65536 - (c.args.place + done) % 65536) = c.min-count.ensures in
    let next = page_next c.args.place done n (length c.loop-done.out) more inv.aligned least in
    let at = page_now c.args.place done (length c.loop-done.out) more inv.aligned in
    let grows = pages_grow c.args.place (done + n) (length c.args.out.now) (omega (arith, least, more, inv.len)) in
    let size = ap (λ d. length (file_of d)) inv.disk in
    let step = cost_step ch keys (keys_of c.loop-done.clean.entries) _ _ from 0 (pages_in c.args.place done) ((c.args.place + done) / 65536) inv.used size at in
    let all = read_cost_grows ch keys (length (file_of (g.S.Store.disk c.args.store.now))) from (suc (pages_in c.args.place done)) (pages_in c.args.place (length c.args.out.now)) (omega (arith, next, grows)) in
    takes_less _ _ _ _ (takes_then _ _ _ _ _ inv.taken c.read_within.ensures.taken) (omega (arith, step, all))

pub returns-clause-used : goal.returns-clause-used
returns-clause-used g c =
    let inv = c.loop-done.invariant in
    let whole : c.loop-done.done ≡ length c.args.out.now = omega (arith, inv.within, inv.len, c.loop-done-test.false) in
    inv.used ∙ ap (λ m. used_from (is_in (page_at c.args.sheets.now.changed)) (c.args.place / 65536) (pages_in c.args.place m) (keys_of c.args.clean.now.entries)) whole

pub returns-clause-taken : goal.returns-clause-taken
returns-clause-taken g c =
    let inv = c.loop-done.invariant in
    let whole : c.loop-done.done ≡ length c.args.out.now = omega (arith, inv.within, inv.len, c.loop-done-test.false) in
    let all = ap (λ m. cost_of_reading (is_in (page_at c.args.sheets.now.changed)) (keys_of c.args.clean.now.entries) (length (file_of (g.S.Store.disk c.args.store.now))) (c.args.place / 65536) (pages_in c.args.place m)) whole in
    takes_less _ _ _ _ inv.taken (omega (arith, all))

pub loop-done-preserved : goal.loop-done-preserved
loop-done-preserved g c =
    let inv = c.loop-done.invariant in
    let P = page_at c.args.sheets.now.changed in
    let L = c.args.sheets.now.length in
    let F = file_of (g.S.Store.disk c.args.store.now) in
    let done = c.loop-done.done in
    let n = c.min-count.result in
    let start = c.args.place + done in
    let more : done < length c.loop-done.out = c.loop-done-test.true in
    let least : n ≡ min (length c.loop-done.out - done) (65536 - start % 65536) = c.min-count.ensures in
    let size : length c.read_within.new.out ≡ n = search rules in
    let whole : c.read_within.new.out ≡ take (length c.read_within.new.out) (drop (start / 65536 * 65536 + start % 65536) (image_of P (file_of (g.S.Store.disk c.loop-done.store)) L)) = (let len = c.in_ok-read_within.ensures.size in rw len c.in_ok-read_within.ensures.bytes) in
    let place : start / 65536 * 65536 + start % 65536 ≡ c.args.place + done = omega arith in
    let here : take n c.read_within.new.out ≡ take n (drop done (drop c.args.place (image_of P F L))) =
    ap (take n) (whole ∙ ap (λ m. take m (drop (start / 65536 * 65536 + start % 65536) (image_of P (file_of (g.S.Store.disk c.loop-done.store)) L))) size)
    ∙ take-take n n _ (omega arith)
    ∙ ap (λ i. take n (drop i (image_of P (file_of (g.S.Store.disk c.loop-done.store)) L))) place
    ∙ ap (λ d. take n (drop (c.args.place + done) (image_of P (file_of d) L))) inv.disk
    ∙ ap (take n) (sym (drop-drop done c.args.place (image_of P F L))) in
    let len : length (put_mid done (done + n - done) c.loop-done.out c.read_within.new.out) ≡ length c.loop-done.out = search rules in
    let ch = is_in P in
    let keys = keys_of c.args.clean.now.entries in
    let from = c.args.place / 65536 in
    let next = page_next c.args.place done n (length c.loop-done.out) more inv.aligned least in
    let at = page_now c.args.place done (length c.loop-done.out) more inv.aligned in
    let size_now = ap (λ d. length (file_of d)) inv.disk in
    let step = cost_step ch keys (keys_of c.loop-done.clean.entries) _ _ from 0 (pages_in c.args.place done) (start / 65536) inv.used size_now at in
    record {
      aligned = λ some rest. omega (arith, len, least, more, rest);
      used = c.in_ok-read_within.ensures.used ∙ (λ i. used ch (sym at i) (inv.used i)) ∙ sym (used_next ch from (pages_in c.args.place done) keys) ∙ ap (λ m. used_from ch from m keys) (sym next);
      taken = (let all = ap (λ m. cost_of_reading ch keys (length F) from m) next in
          takes_less _ _ _ _ (takes_then _ _ _ _ _ inv.taken c.in_ok-read_within.ensures.taken) (omega (arith, step, all)));
      valid = c.len-held.ensures.valid;
      cap = c.in_ok-read_within.ensures.cap ∙ inv.cap;
      within = omega (arith, len, least, more);
      bytes = filled c.loop-done.out c.read_within.new.out (drop c.args.place (image_of P F L)) done n (done + n - done) inv.within (omega (arith, size)) inv.bytes here;
      len = len ∙ inv.len;
      serves = serves_same g.S.Store.lends P _ F L c.read_within.new.clean.entries (ap (λ d. file_of d) inv.disk) c.in_ok-read_within.ensures.serves;
      disk = c.in_ok-read_within.ensures.disk ∙ inv.disk;
      read = c.in_ok-read_within.ensures.cause.done ∙ inv.read;
      write = c.in_ok-read_within.ensures.write ∙ inv.write;
      unstored = c.in_ok-read_within.ensures.unstored ∙ inv.unstored;
    }
