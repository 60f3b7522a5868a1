use Rattle.cdf_pages.proofs.Common.{Backed, Bool, Disk, HasTailBehind, HoldsBetween, IsChangedRange, IsTrue, LiesIn, List, None, Option, Touches, ap, arith, false, file_of, image_of, inl, inr, is_in, length, length-take-le, max, min, page_at, slice_index, subst, sym, take, ℕ, ◌++◌, ◌+◌, ◌-◌, ◌<◌, ◌∙◌, ◌≡◌, ◌≤◌}
use Rattle.cdf_pages.proofs.Between.{cut_new, holds_new}
use Rattle.cdf_pages.proofs.Filling.{on_err}
use Rattle.cdf_pages.proofs.Touched.{touches_then, touches_weaker}
use Rattle.cdf_pages.proofs.WrittenOver.{Paged, file_cut, file_new, front_in, front_inside, image_kept, image_new, long_kept, long_new, long_whole, new_size}
use Rattle.cdf_pages.proofs.WritesOver.{over_cut, over_stays, over_then}
use Rattle.cdf_pages.proofs.saving.write_over.Goals as goal

paged : {U : Type 0} {end : ℕ} (p p1 : ℕ → Option (List ℕ)) (d d1 : Disk U) (n size : ℕ) (tail : List ℕ) → ((q : ℕ) → p1 q ≡ None) → length (file_of d1) ≡ length (file_of d) → image_of p1 (file_of d1) n ≡ image_of p (file_of d) n
    → end ≡ min n size → ((i : ℕ) → end ≤ i → slice_index (file_of d1) i ≡ slice_index (file_of d) i) → length (file_of d) ≡ max size (n + length tail) → HasTailBehind tail n (file_of d) (size - n) → Paged p p1 d d1 n size tail
paged p p1 d d1 n size tail none long image is same whole behind = record { none = none; long = long; image = image; same = λ i low. same i (omega (arith, low, is)); whole = whole; behind = behind }

module _ {changed : ℕ → Bool} {n : ℕ} (tail : ℕ) where
  touched_pages : {a b : Option (List (ℕ × ℕ))} → Touches (λ range. (number : ℕ) × IsTrue (changed number) × LiesIn number range) a b → Touches (IsChangedRange changed n tail) a b
  touched_pages {a = a} {b = b} h = touches_weaker _ (IsChangedRange changed n tail) a b (λ range lies. inl lies) h

  touched_tail : {a b c : Option (List (ℕ × ℕ))} (front : ℕ) → front ≤ tail → Touches (λ range. (number : ℕ) × IsTrue (changed number) × LiesIn number range) a b → Touches (λ range. (n ≤ range.0) × (range.0 + range.1 ≤ n + front)) b c → Touches (IsChangedRange changed n tail) a c
  touched_tail {a = a} {b = b} {c = c} front fits h k =
      touches_then (IsChangedRange changed n tail) a b c (touched_pages h) (touches_weaker _ (IsChangedRange changed n tail) b c (λ range lies. inr (let low = lies.0 in let high = lies.1 in (low, omega (arith, high, fits)))) k)

pub save_pages-requires-clause-long : goal.save_pages-requires-clause-long
save_pages-requires-clause-long g c =
    omega (arith, c.requires.long)

pub save_pages-requires-clause-behind : goal.save_pages-requires-clause-behind
save_pages-requires-clause-behind g c i low lt =
    c.requires.behind i (omega (arith, low, lt)) lt

pub returns-in_err-save_pages-clause-failed : goal.returns-in_err-save_pages-clause-failed
returns-in_err-save_pages-clause-failed g c first h =
    let tail = c.args.tail.now in
    on_err _ (c.save_pages.ensures.between first tail (omega (arith, c.requires.long)) h)

pub returns-in_err-save_pages-clause-long : goal.returns-in_err-save_pages-clause-long
returns-in_err-save_pages-clause-long g c =
    omega (arith, c.save_pages.ensures.long, c.requires.long)

pub returns-in_err-save_pages-clause-touched : goal.returns-in_err-save_pages-clause-touched
returns-in_err-save_pages-clause-touched g c =
    touched_pages (length c.args.tail.now) c.save_pages.ensures.touched

pub save_tail-requires-clause-place : goal.save_tail-requires-clause-place
save_tail-requires-clause-place g c =
    let ok = c.in_ok-save_pages.ensures in
    let s = paged (page_at c.args.sheets.now.changed) (page_at c.save_pages.new.sheets.changed) (g.S.Store.disk c.args.store.now) (g.S.Store.disk c.save_pages.new.store) c.args.sheets.now.length c.args.file_size c.args.tail.now ok.saved ok.long ok.image c.min.ensures ok.same c.requires.long c.requires.tail_behind in
    let before = c.tail_before-before.result in
    let is = c.tail_before-before.ensures in
    front_inside s before is

pub returns-in_err-save_tail-clause-failed : goal.returns-in_err-save_tail-clause-failed
returns-in_err-save_tail-clause-failed g c first h =
    let P = page_at c.args.sheets.now.changed in
    let d = g.S.Store.disk c.args.store.now in
    let n = c.args.sheets.now.length in
    let tail = c.args.tail.now in
    let ok = c.in_ok-save_pages.ensures in
    let s = paged (page_at c.args.sheets.now.changed) (page_at c.save_pages.new.sheets.changed) (g.S.Store.disk c.args.store.now) (g.S.Store.disk c.save_pages.new.store) c.args.sheets.now.length c.args.file_size c.args.tail.now ok.saved ok.long ok.image c.min.ensures ok.same c.requires.long c.requires.tail_behind in
    let before = c.tail_before-before.result in
    let is = c.tail_before-before.ensures in
    let front = front_in s before is in
    let held1 = ok.between first tail (omega (arith, c.requires.long)) h in
    let held2 = c.save_tail.ensures.between first (image_of P (file_of d) n ++ tail) (omega (arith, new_size s, ok.long, c.requires.long)) front.0 front.1 held1 in
    on_err _ held2

pub returns-in_err-save_tail-clause-image : goal.returns-in_err-save_tail-clause-image
returns-in_err-save_tail-clause-image g c =
    let ok = c.in_ok-save_pages.ensures in
    let s = paged (page_at c.args.sheets.now.changed) (page_at c.save_pages.new.sheets.changed) (g.S.Store.disk c.args.store.now) (g.S.Store.disk c.save_pages.new.store) c.args.sheets.now.length c.args.file_size c.args.tail.now ok.saved ok.long ok.image c.min.ensures ok.same c.requires.long c.requires.tail_behind in
    image_kept s (g.S.Store.disk c.save_tail.new.store) c.save_tail.ensures.long c.save_tail.ensures.front

pub returns-in_err-save_tail-clause-long : goal.returns-in_err-save_tail-clause-long
returns-in_err-save_tail-clause-long g c =
    let ok = c.in_ok-save_pages.ensures in
    let s = paged (page_at c.args.sheets.now.changed) (page_at c.save_pages.new.sheets.changed) (g.S.Store.disk c.args.store.now) (g.S.Store.disk c.save_pages.new.store) c.args.sheets.now.length c.args.file_size c.args.tail.now ok.saved ok.long ok.image c.min.ensures ok.same c.requires.long c.requires.tail_behind in
    long_kept s (g.S.Store.disk c.save_tail.new.store) c.save_tail.ensures.long c.save_tail.ensures.front

pub returns-in_err-save_tail-clause-touched : goal.returns-in_err-save_tail-clause-touched
returns-in_err-save_tail-clause-touched g c =
    let tail = c.args.tail.now in
    let before = c.tail_before-before.result in
    let fits : length (take before tail) ≤ length tail = omega (arith, length-take-le before tail (omega (arith, c.tail_before-before.ensures)), c.tail_before-before.ensures) in
    touched_tail (length tail) (length (take before tail)) fits c.in_ok-save_pages.ensures.touched c.save_tail.ensures.touched

pub set_len-requires-clause-within : goal.set_len-requires-clause-within
set_len-requires-clause-within g c =
    let ok = c.in_ok-save_pages.ensures in
    let s = paged (page_at c.args.sheets.now.changed) (page_at c.save_pages.new.sheets.changed) (g.S.Store.disk c.args.store.now) (g.S.Store.disk c.save_pages.new.store) c.args.sheets.now.length c.args.file_size c.args.tail.now ok.saved ok.long ok.image c.min.ensures ok.same c.requires.long c.requires.tail_behind in
    let before = c.tail_before-before.result in
    let is = c.tail_before-before.ensures in
    omega (arith, long_whole s (g.S.Store.disk c.save_tail.new.store) before is c.in_ok-save_tail.ensures.written)

pub returns-in_err-set_len-clause-failed : goal.returns-in_err-set_len-clause-failed
returns-in_err-set_len-clause-failed g c first h =
    let P = page_at c.args.sheets.now.changed in
    let d = g.S.Store.disk c.args.store.now in
    let n = c.args.sheets.now.length in
    let tail = c.args.tail.now in
    let ok = c.in_ok-save_pages.ensures in
    let s = paged (page_at c.args.sheets.now.changed) (page_at c.save_pages.new.sheets.changed) (g.S.Store.disk c.args.store.now) (g.S.Store.disk c.save_pages.new.store) c.args.sheets.now.length c.args.file_size c.args.tail.now ok.saved ok.long ok.image c.min.ensures ok.same c.requires.long c.requires.tail_behind in
    let before = c.tail_before-before.result in
    let is = c.tail_before-before.ensures in
    let front = front_in s before is in
    let held1 = ok.between first tail (omega (arith, c.requires.long)) h in
    let held2 = c.save_tail.ensures.between first (image_of P (file_of d) n ++ tail) (omega (arith, new_size s, ok.long, c.requires.long)) front.0 front.1 held1 in
    on_err _ (subst (HoldsBetween first (image_of P (file_of d) n ++ tail)) (sym c.in_err-set_len.ensures.stays) held2)

pub returns-in_err-set_len-clause-image : goal.returns-in_err-set_len-clause-image
returns-in_err-set_len-clause-image g c =
    let P = page_at c.args.sheets.now.changed in
    let d = g.S.Store.disk c.args.store.now in
    let n = c.args.sheets.now.length in
    let tail = c.args.tail.now in
    let ok = c.in_ok-save_pages.ensures in
    let s = paged (page_at c.args.sheets.now.changed) (page_at c.save_pages.new.sheets.changed) (g.S.Store.disk c.args.store.now) (g.S.Store.disk c.save_pages.new.store) c.args.sheets.now.length c.args.file_size c.args.tail.now ok.saved ok.long ok.image c.min.ensures ok.same c.requires.long c.requires.tail_behind in
    ap (λ x. image_of (page_at c.save_pages.new.sheets.changed) (file_of x) n) c.in_err-set_len.ensures.stays ∙ image_kept s (g.S.Store.disk c.save_tail.new.store) c.save_tail.ensures.long c.save_tail.ensures.front

pub returns-in_err-set_len-clause-long : goal.returns-in_err-set_len-clause-long
returns-in_err-set_len-clause-long g c =
    let ok = c.in_ok-save_pages.ensures in
    let s = paged (page_at c.args.sheets.now.changed) (page_at c.save_pages.new.sheets.changed) (g.S.Store.disk c.args.store.now) (g.S.Store.disk c.save_pages.new.store) c.args.sheets.now.length c.args.file_size c.args.tail.now ok.saved ok.long ok.image c.min.ensures ok.same c.requires.long c.requires.tail_behind in
    omega (arith, ap (λ x. length (file_of x)) c.in_err-set_len.ensures.stays, long_kept s (g.S.Store.disk c.save_tail.new.store) c.save_tail.ensures.long c.save_tail.ensures.front)

pub returns-in_err-set_len-clause-touched : goal.returns-in_err-set_len-clause-touched
returns-in_err-set_len-clause-touched g c =
    let P = page_at c.args.sheets.now.changed in
    let d = g.S.Store.disk c.args.store.now in
    let n = c.args.sheets.now.length in
    let tail = c.args.tail.now in
    let before = c.tail_before-before.result in
    let fits : length (take before tail) ≤ length tail = omega (arith, length-take-le before tail (omega (arith, c.tail_before-before.ensures)), c.tail_before-before.ensures) in
    subst (λ (x : Disk g.S.Store.Under). Touches (IsChangedRange (is_in P) n (length tail)) d.touched x.touched) (sym c.in_err-set_len.ensures.stays) (touched_tail (length tail) (length (take before tail)) fits c.in_ok-save_pages.ensures.touched c.save_tail.ensures.touched)

pub returns-in_ok-set_len-clause-saved : goal.returns-in_ok-set_len-clause-saved
returns-in_ok-set_len-clause-saved g c first h =
    let P = page_at c.args.sheets.now.changed in
    let d = g.S.Store.disk c.args.store.now in
    let n = c.args.sheets.now.length in
    let tail = c.args.tail.now in
    let ok = c.in_ok-save_pages.ensures in
    let s = paged (page_at c.args.sheets.now.changed) (page_at c.save_pages.new.sheets.changed) (g.S.Store.disk c.args.store.now) (g.S.Store.disk c.save_pages.new.store) c.args.sheets.now.length c.args.file_size c.args.tail.now ok.saved ok.long ok.image c.min.ensures ok.same c.requires.long c.requires.tail_behind in
    let before = c.tail_before-before.result in
    let is = c.tail_before-before.ensures in
    let front = front_in s before is in
    let held1 = ok.between first tail (omega (arith, c.requires.long)) h in
    let held2 = c.save_tail.ensures.between first (image_of P (file_of d) n ++ tail) (omega (arith, new_size s, ok.long, c.requires.long)) front.0 front.1 held1 in
    cut_new first (g.S.Store.disk c.save_tail.new.store) (g.S.Store.disk c.set_len.new.self) (image_of P (file_of d) n ++ tail) _ held2 c.in_ok-set_len.ensures.ok (file_cut s (g.S.Store.disk c.save_tail.new.store) before is c.in_ok-save_tail.ensures.written)

pub returns-in_ok-set_len-clause-image : goal.returns-in_ok-set_len-clause-image
returns-in_ok-set_len-clause-image g c =
    let P = page_at c.args.sheets.now.changed in
    let d = g.S.Store.disk c.args.store.now in
    let n = c.args.sheets.now.length in
    let tail = c.args.tail.now in
    let ok = c.in_ok-save_pages.ensures in
    let s = paged (page_at c.args.sheets.now.changed) (page_at c.save_pages.new.sheets.changed) (g.S.Store.disk c.args.store.now) (g.S.Store.disk c.save_pages.new.store) c.args.sheets.now.length c.args.file_size c.args.tail.now ok.saved ok.long ok.image c.min.ensures ok.same c.requires.long c.requires.tail_behind in
    let before = c.tail_before-before.result in
    let is = c.tail_before-before.ensures in
    let file3 : file_of (g.S.Store.disk c.set_len.new.self) ≡ image_of P (file_of d) n ++ tail = ap (λ x. file_of x) c.in_ok-set_len.ensures.ok ∙ file_cut s (g.S.Store.disk c.save_tail.new.store) before is c.in_ok-save_tail.ensures.written in
    image_new s (g.S.Store.disk c.set_len.new.self) file3

pub returns-in_ok-set_len-clause-long : goal.returns-in_ok-set_len-clause-long
returns-in_ok-set_len-clause-long g c =
    let P = page_at c.args.sheets.now.changed in
    let d = g.S.Store.disk c.args.store.now in
    let n = c.args.sheets.now.length in
    let tail = c.args.tail.now in
    let ok = c.in_ok-save_pages.ensures in
    let s = paged (page_at c.args.sheets.now.changed) (page_at c.save_pages.new.sheets.changed) (g.S.Store.disk c.args.store.now) (g.S.Store.disk c.save_pages.new.store) c.args.sheets.now.length c.args.file_size c.args.tail.now ok.saved ok.long ok.image c.min.ensures ok.same c.requires.long c.requires.tail_behind in
    let before = c.tail_before-before.result in
    let is = c.tail_before-before.ensures in
    let file3 : file_of (g.S.Store.disk c.set_len.new.self) ≡ image_of P (file_of d) n ++ tail = ap (λ x. file_of x) c.in_ok-set_len.ensures.ok ∙ file_cut s (g.S.Store.disk c.save_tail.new.store) before is c.in_ok-save_tail.ensures.written in
    long_new s (g.S.Store.disk c.set_len.new.self) file3

pub returns-in_ok-set_len-clause-touched : goal.returns-in_ok-set_len-clause-touched
returns-in_ok-set_len-clause-touched g c =
    let P = page_at c.args.sheets.now.changed in
    let d = g.S.Store.disk c.args.store.now in
    let n = c.args.sheets.now.length in
    let tail = c.args.tail.now in
    let before = c.tail_before-before.result in
    let fits : length (take before tail) ≤ length tail = omega (arith, length-take-le before tail (omega (arith, c.tail_before-before.ensures)), c.tail_before-before.ensures) in
    subst (λ (x : Disk g.S.Store.Under). Touches (IsChangedRange (is_in P) n (length tail)) d.touched x.touched) (sym c.in_ok-set_len.ensures.ok) (touched_tail (length tail) (length (take before tail)) fits c.in_ok-save_pages.ensures.touched c.save_tail.ensures.touched)

pub returns-else-end-file_size-clause-saved : goal.returns-else-end-file_size-clause-saved
returns-else-end-file_size-clause-saved g c first h =
    let P = page_at c.args.sheets.now.changed in
    let d = g.S.Store.disk c.args.store.now in
    let n = c.args.sheets.now.length in
    let tail = c.args.tail.now in
    let ok = c.in_ok-save_pages.ensures in
    let s = paged (page_at c.args.sheets.now.changed) (page_at c.save_pages.new.sheets.changed) (g.S.Store.disk c.args.store.now) (g.S.Store.disk c.save_pages.new.store) c.args.sheets.now.length c.args.file_size c.args.tail.now ok.saved ok.long ok.image c.min.ensures ok.same c.requires.long c.requires.tail_behind in
    let before = c.tail_before-before.result in
    let is = c.tail_before-before.ensures in
    let front = front_in s before is in
    let held1 = ok.between first tail (omega (arith, c.requires.long)) h in
    let held2 = c.save_tail.ensures.between first (image_of P (file_of d) n ++ tail) (omega (arith, new_size s, ok.long, c.requires.long)) front.0 front.1 held1 in
    holds_new first (g.S.Store.disk c.save_tail.new.store) (image_of P (file_of d) n ++ tail) held2 (file_new s (g.S.Store.disk c.save_tail.new.store) before is c.in_ok-save_tail.ensures.written c.if-end-file_size.false)

pub returns-else-end-file_size-clause-image : goal.returns-else-end-file_size-clause-image
returns-else-end-file_size-clause-image g c =
    let ok = c.in_ok-save_pages.ensures in
    let s = paged (page_at c.args.sheets.now.changed) (page_at c.save_pages.new.sheets.changed) (g.S.Store.disk c.args.store.now) (g.S.Store.disk c.save_pages.new.store) c.args.sheets.now.length c.args.file_size c.args.tail.now ok.saved ok.long ok.image c.min.ensures ok.same c.requires.long c.requires.tail_behind in
    image_kept s (g.S.Store.disk c.save_tail.new.store) c.save_tail.ensures.long c.save_tail.ensures.front

pub returns-else-end-file_size-clause-long : goal.returns-else-end-file_size-clause-long
returns-else-end-file_size-clause-long g c =
    let ok = c.in_ok-save_pages.ensures in
    let s = paged (page_at c.args.sheets.now.changed) (page_at c.save_pages.new.sheets.changed) (g.S.Store.disk c.args.store.now) (g.S.Store.disk c.save_pages.new.store) c.args.sheets.now.length c.args.file_size c.args.tail.now ok.saved ok.long ok.image c.min.ensures ok.same c.requires.long c.requires.tail_behind in
    long_kept s (g.S.Store.disk c.save_tail.new.store) c.save_tail.ensures.long c.save_tail.ensures.front

pub returns-else-end-file_size-clause-touched : goal.returns-else-end-file_size-clause-touched
returns-else-end-file_size-clause-touched g c =
    let tail = c.args.tail.now in
    let before = c.tail_before-before.result in
    let fits : length (take before tail) ≤ length tail = omega (arith, length-take-le before tail (omega (arith, c.tail_before-before.ensures)), c.tail_before-before.ensures) in
    touched_tail (length tail) (length (take before tail)) fits c.in_ok-save_pages.ensures.touched c.save_tail.ensures.touched

-- ---- what is not stored

pub returns-in_err-save_pages-clause-backed : goal.returns-in_err-save_pages-clause-backed
returns-in_err-save_pages-clause-backed g c backed =
    let still : (g.S.Store.unstored c.save_pages.new.store).change ≡ false → Backed (page_at c.save_pages.new.sheets.changed) c.args.file_size c.args.sheets.now.length = λ unchanged i lt none. backed i lt (c.in_err-save_pages.ensures.kept unchanged _ none) in
    on_err _ still

pub returns-in_err-save_pages-clause-idle : goal.returns-in_err-save_pages-clause-idle
returns-in_err-save_pages-clause-idle g c none = c.save_pages.ensures.idle (omega (arith, c.min.ensures, none))

pub returns-in_err-save_tail-clause-over : goal.returns-in_err-save_tail-clause-over
returns-in_err-save_tail-clause-over g c = over_then _ _ _ _ _ _ c.save_pages.ensures.over c.save_tail.ensures.over

pub returns-in_err-save_tail-clause-whole : goal.returns-in_err-save_tail-clause-whole
returns-in_err-save_tail-clause-whole g c = on_err _ (c.save_tail.ensures.long ∙ c.save_pages.ensures.long)

-- how long the front of the tail is
front_size : (tail : List ℕ) (before n size : ℕ) → before ≡ min (length tail) (size - n) → length (take before tail) ≡ before
front_size tail before n size is = length-take-le before tail (omega (arith, is))

-- bytes that lie before the end are backed whatever pages there are
backed_shorter : (p : ℕ → Option (List ℕ)) (size n : ℕ) → n < size → Backed p size n
backed_shorter p size n short i lt none = omega (arith, lt, short)

pub returns-in_err-save_tail-clause-backed : goal.returns-in_err-save_tail-clause-backed
returns-in_err-save_tail-clause-backed g c backed =
    let is = c.tail_before-before.ensures in
    let size = front_size c.args.tail.now c.tail_before-before.result c.args.sheets.now.length c.args.file_size is in
    let short : c.args.sheets.now.length < c.args.file_size = omega (arith, c.in_err-save_tail.ensures.some, size, is) in
    let still : (g.S.Store.unstored c.save_tail.new.store).change ≡ false → Backed (page_at c.save_pages.new.sheets.changed) c.args.file_size c.args.sheets.now.length = λ unchanged. backed_shorter (page_at c.save_pages.new.sheets.changed) _ _ short in
    on_err _ still

none_tail : (tail : List ℕ) (before n size : ℕ) → before ≡ min (length tail) (size - n) → size ≡ 0 → length (take before tail) ≡ 0
none_tail tail before n size is none = omega (arith, front_size tail before n size is, is, none)

pub returns-in_err-save_tail-clause-idle : goal.returns-in_err-save_tail-clause-idle
returns-in_err-save_tail-clause-idle g c none =
    c.save_tail.ensures.idle (none_tail c.args.tail.now c.tail_before-before.result c.args.sheets.now.length c.args.file_size c.tail_before-before.ensures none) ∙ c.save_pages.ensures.idle (omega (arith, c.min.ensures, none))

pub returns-in_err-set_len-clause-over : goal.returns-in_err-set_len-clause-over
returns-in_err-set_len-clause-over g c = over_stays _ _ _ _ _ _ c.in_err-set_len.ensures.stays c.in_err-set_len.ensures.left (over_then _ _ _ _ _ _ c.save_pages.ensures.over c.save_tail.ensures.over)

pub returns-in_err-set_len-clause-whole : goal.returns-in_err-set_len-clause-whole
returns-in_err-set_len-clause-whole g c = on_err _ (ap (λ x. length (file_of x)) c.in_err-set_len.ensures.stays ∙ c.save_tail.ensures.long ∙ c.save_pages.ensures.long)

pub returns-in_err-set_len-clause-backed : goal.returns-in_err-set_len-clause-backed
returns-in_err-set_len-clause-backed g c backed =
    let short : c.args.sheets.now.length < c.args.file_size = omega (arith, c.if-end-file_size.true) in
    let still : (g.S.Store.unstored c.set_len.new.self).change ≡ false → Backed (page_at c.save_pages.new.sheets.changed) c.args.file_size c.args.sheets.now.length = λ unchanged. backed_shorter (page_at c.save_pages.new.sheets.changed) _ _ short in
    on_err _ still

pub returns-in_err-set_len-clause-idle : goal.returns-in_err-set_len-clause-idle
returns-in_err-set_len-clause-idle g c none = absurd (omega (arith, c.if-end-file_size.true, none))

pub returns-in_ok-set_len-clause-over : goal.returns-in_ok-set_len-clause-over
returns-in_ok-set_len-clause-over g c =
    let ok = c.in_ok-save_pages.ensures in
    let s = paged (page_at c.args.sheets.now.changed) (page_at c.save_pages.new.sheets.changed) (g.S.Store.disk c.args.store.now) (g.S.Store.disk c.save_pages.new.store) c.args.sheets.now.length c.args.file_size c.args.tail.now ok.saved ok.long ok.image c.min.ensures ok.same c.requires.long c.requires.tail_behind in
    let long = long_whole s (g.S.Store.disk c.save_tail.new.store) c.tail_before-before.result c.tail_before-before.ensures c.in_ok-save_tail.ensures.written in
    over_then _ _ _ _ _ _ (over_then _ _ _ _ _ _ c.save_pages.ensures.over c.save_tail.ensures.over) (over_cut (g.S.Store.disk c.save_tail.new.store) _ _ _ _ (omega (arith, long, c.if-end-file_size.true)) c.in_ok-set_len.ensures.unstored)

pub returns-in_ok-set_len-clause-idle : goal.returns-in_ok-set_len-clause-idle
returns-in_ok-set_len-clause-idle g c none = absurd (omega (arith, c.if-end-file_size.true, none))

pub returns-else-end-file_size-clause-over : goal.returns-else-end-file_size-clause-over
returns-else-end-file_size-clause-over g c = over_then _ _ _ _ _ _ c.save_pages.ensures.over c.save_tail.ensures.over

pub returns-else-end-file_size-clause-idle : goal.returns-else-end-file_size-clause-idle
returns-else-end-file_size-clause-idle g c none =
    c.save_tail.ensures.idle (none_tail c.args.tail.now c.tail_before-before.result c.args.sheets.now.length c.args.file_size c.tail_before-before.ensures none) ∙ c.save_pages.ensures.idle (omega (arith, c.min.ensures, none))
