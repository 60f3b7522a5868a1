use Rattle.cdf_pages.proofs.Common.{Bool, IsChangedRange, IsTrue, LiesIn, List, Option, Touches, ap, arith, drop, file_of, get_or-drop, get_or-take, image_of, inl, inr, is_in, length, length-append, length-drop, length-take-le, page_at, slice_index, take, ℕ, ◌++◌, ◌+◌, ◌-◌, ◌<◌, ◌∙◌, ◌≡◌, ◌≤◌}
use Rattle.cdf_pages.proofs.Between.{tail_in}
use Rattle.cdf_pages.proofs.Grew.{grown_held}
use Rattle.cdf_pages.proofs.Images.{image_size}
use Rattle.cdf_pages.proofs.Touched.{touches_then, touches_weaker}
use Rattle.cdf_pages.proofs.growth.grow_all.Goals as goal

pub grow_tail-requires-clause-held : goal.grow_tail-requires-clause-held
grow_tail-requires-clause-held g c = grown_held (g.S.Store.disk c.args.store.now) (g.S.Store.disk c.grow_pages.new.store) _ (c.in_ok-grow_pages.ensures.grown c.args.tail.now)

-- the rest of the tail stands in the new file
rest_size : (tail : List ℕ) (before : ℕ) → length (take (length tail - before) (drop before tail)) ≡ length tail - before
rest_size tail before = length-take-le (length tail - before) (drop before tail) (omega (arith, length-drop before tail))

rest_in : (image tail : List ℕ) (n before : ℕ) → length image ≡ n → before ≤ length tail
    → (n + before + length (take (length tail - before) (drop before tail)) ≤ length (image ++ tail)) × ((t : ℕ) → t < length (take (length tail - before) (drop before tail)) → slice_index (take (length tail - before) (drop before tail)) t ≡ slice_index (image ++ tail) (n + before + t))
rest_in image tail n before size le =
    let long = rest_size tail before in (
      omega (arith, long, le, size, length-append image tail),
      λ t lt.
          get_or-take (length tail - before) (drop before tail) t 0 (omega (arith, lt, long)) ∙ get_or-drop before tail t 0 ∙ (tail_in image tail n size).1 (before + t) (omega (arith, lt, long)) ∙ ap (slice_index (image ++ tail)) (omega arith),
    )

-- the pages were written, and then the rest of the tail
touched_both : (changed : ℕ → Bool) (n before tail rest : ℕ) (a b c : Option (List (ℕ × ℕ))) → before + rest ≤ tail → Touches (λ range. (number : ℕ) × IsTrue (changed number) × LiesIn number range) a b
    → Touches (λ range. (n + before ≤ range.0) × (range.0 + range.1 ≤ n + before + rest)) b c → Touches (IsChangedRange changed n tail) a c
touched_both changed n before tail rest a b c fits pages behind =
    touches_then (IsChangedRange changed n tail) a b c (touches_weaker _ (IsChangedRange changed n tail) a b (λ range lies. inl lies) pages)
    (touches_weaker _ (IsChangedRange changed n tail) b c (λ range lies. inr (let low = lies.0 in let high = lies.1 in (omega (arith, low), omega (arith, high, fits)))) behind)

pub returns-in_err-grow_tail-clause-grown : goal.returns-in_err-grow_tail-clause-grown
returns-in_err-grow_tail-clause-grown g c =
    let P = page_at c.args.sheets.now.changed in
    let F = file_of (g.S.Store.disk c.args.store.now) in
    let n = c.args.sheets.now.length in
    let rest = rest_in (image_of P F n) c.args.tail.now n c.tail_before-before.result (image_size P F n) (omega (arith, c.tail_before-before.ensures)) in
    c.grow_tail.ensures.grown (g.S.Store.disk c.args.store.now) _ rest.0 rest.1 (c.in_ok-grow_pages.ensures.grown c.args.tail.now)

pub returns-in_err-grow_tail-clause-touched : goal.returns-in_err-grow_tail-clause-touched
returns-in_err-grow_tail-clause-touched g c =
    let tail = c.args.tail.now in
    let before = c.tail_before-before.result in
    touched_both (is_in (page_at c.args.sheets.now.changed)) c.args.sheets.now.length before (length tail) (length (take (length tail - before) (drop before tail))) _ _ _ (omega (arith, rest_size tail before, c.tail_before-before.ensures)) c.in_ok-grow_pages.ensures.touched c.grow_tail.ensures.touched

pub returns-clause-grown : goal.returns-clause-grown
returns-clause-grown g c =
    let P = page_at c.args.sheets.now.changed in
    let F = file_of (g.S.Store.disk c.args.store.now) in
    let n = c.args.sheets.now.length in
    let rest = rest_in (image_of P F n) c.args.tail.now n c.tail_before-before.result (image_size P F n) (omega (arith, c.tail_before-before.ensures)) in
    c.grow_tail.ensures.grown (g.S.Store.disk c.args.store.now) _ rest.0 rest.1 (c.in_ok-grow_pages.ensures.grown c.args.tail.now)

pub returns-clause-touched : goal.returns-clause-touched
returns-clause-touched g c =
    let tail = c.args.tail.now in
    let before = c.tail_before-before.result in
    touched_both (is_in (page_at c.args.sheets.now.changed)) c.args.sheets.now.length before (length tail) (length (take (length tail - before) (drop before tail))) _ _ _ (omega (arith, rest_size tail before, c.tail_before-before.ensures)) c.in_ok-grow_pages.ensures.touched c.grow_tail.ensures.touched
