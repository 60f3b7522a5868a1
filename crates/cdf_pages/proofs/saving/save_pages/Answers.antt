use Rattle.cdf_pages.proofs.Common.{Disk, HoldsBetween, IsTrue, LiesIn, List, None, Option, Touches, ap, arith, cases_lt, false, file_of, image_of, inl, inr, is_in, length, page_at, refl, subst, sym, ℕ, ◌*◌, ◌++◌, ◌+◌, ◌<◌, ◌∙◌, ◌≡◌, ◌≤◌}
use Rattle.std.proofs.Common.{IsSome}
use Rattle.cdf_pages.proofs.SavedPage.{changed_at_first}
use Rattle.cdf_pages.proofs.Growing.{some_not_none}
use Rattle.cdf_pages.proofs.Touched.{touches_none, touches_then, touches_weaker}
use Rattle.cdf_pages.proofs.WritesOver.{over_none, over_then}
use Rattle.cdf_pages.proofs.Filling.{on_err}
use Rattle.cdf_pages.proofs.saving.save_pages.Goals as goal

pub loop-number-init : goal.loop-number-init
loop-number-init g c = record {
  image = refl;
  long = refl;
  behind = c.requires.behind;
  same = λ i low. refl;
  less = λ q e. e;
  held = c.requires.held;
  between = λ first tail whole h. h;
  touched = touches_none _ _ _ refl;
  length = refl;
  marked = c.requires.unmarked;
  spent = omega arith;
  end = refl;
  taken = refl;
  write = refl;
  read = refl;
  over = over_none _ _;
  idle = λ none. refl;
  kept = λ unchanged q inside e. e;
  behind_last = λ left there inside q past e. e;
}

module _ {U : Type 0} (p p' : ℕ → Option (List ℕ)) (first mid next : Disk U) (n n' k : ℕ) (same : image_of p' (file_of mid) n ≡ image_of p (file_of first) n) (len : n' ≡ n) where
  -- the image that the next page is written for is the one that all are
  between_next : length (file_of mid) ≡ length (file_of first)
      → ((d : Disk U) (tail : List ℕ) → n + length tail ≤ length (file_of first) → HoldsBetween d (image_of p (file_of first) n ++ tail) first → HoldsBetween d (image_of p (file_of first) n ++ tail) mid)
      → ((d : Disk U) (tail : List ℕ) → n' + length tail ≤ length (file_of mid) → HoldsBetween d (image_of p' (file_of mid) n' ++ tail) mid → HoldsBetween d (image_of p' (file_of mid) n' ++ tail) next)
      → (d : Disk U) (tail : List ℕ) → n + length tail ≤ length (file_of first) → HoldsBetween d (image_of p (file_of first) n ++ tail) first → HoldsBetween d (image_of p (file_of first) n ++ tail) next
  between_next long before step d tail whole h =
      let is : image_of p' (file_of mid) n' ≡ image_of p (file_of first) n = ap (image_of p' (file_of mid)) len ∙ same in
      subst (λ (l : List ℕ). HoldsBetween d (l ++ tail) next) is (step d tail (omega (arith, whole, long, len)) (subst (λ (l : List ℕ). HoldsBetween d (l ++ tail) mid) (sym is) (before d tail whole h)))

touched_next : (p p' : ℕ → Option (List ℕ)) (a b c : Option (List (ℕ × ℕ))) (k : ℕ) → ((q : ℕ) → p q ≡ None → p' q ≡ None) → IsSome (p' k)
    → Touches (λ range. (number : ℕ) × IsTrue (is_in p number) × LiesIn number range) a b → Touches (LiesIn k) b c → Touches (λ range. (number : ℕ) × IsTrue (is_in p number) × LiesIn number range) a c
touched_next p p' a b c k less some before now =
    touches_then _ a b c before (touches_weaker (LiesIn k) _ b c (λ range lies. (k, changed_at_first p p' k less some, lies)) now)

-- The first page is written or forgotten. While one is left before the end, so was the first, and none behind the end was forgotten.
module _ (p p' : ℕ → Option (List ℕ)) (k end : ℕ) (least : (q : ℕ) → q < k → p q ≡ None) where
  first_inside : (left : ℕ) → IsSome (p left) → left * 65536 < end → k * 65536 < end
  first_inside left there inside = elim (cases_lt left k) [
    | inl before ↦ absurd (some_not_none (p left) there (least left before))
    | inr from_ ↦ omega (arith, from_, inside)
  ]

  still_some : (left : ℕ) → ((q : ℕ) → p q ≡ None → p' q ≡ None) → IsSome (p' left) → IsSome (p left)
  still_some left less there = changed_at_first p p' left less there

  behind_next : ((q : ℕ) → p q ≡ None → p' q ≡ None) → ((q : ℕ) → (q ≡ k → ⊥) → p' q ≡ p q) → (left : ℕ) → IsSome (p' left) → left * 65536 < end → (q : ℕ) → end ≤ q * 65536 → p' q ≡ None → p q ≡ None
  behind_next less others left there inside q past none =
      let first = first_inside left (still_some left less there) inside in
      sym (others q (λ e. omega (arith, e, first, past))) ∙ none

pub returns-in_err-save_first-clause-over : goal.returns-in_err-save_first-clause-over
returns-in_err-save_first-clause-over g c = over_then _ _ _ _ _ _ c.loop-number.invariant.over c.save_first.ensures.over

pub returns-in_err-save_first-clause-idle : goal.returns-in_err-save_first-clause-idle
returns-in_err-save_first-clause-idle g c none = c.save_first.ensures.idle none ∙ c.loop-number.invariant.idle none

pub returns-in_err-save_first-clause-kept : goal.returns-in_err-save_first-clause-kept
returns-in_err-save_first-clause-kept g c =
    let inv = c.loop-number.invariant in
    let err = c.in_err-save_first.ensures in
    let kept : (g.S.Store.unstored c.save_first.new.store).change ≡ false → (q : ℕ) → page_at c.save_first.new.sheets.changed q ≡ None → page_at c.args.sheets.now.changed q ≡ None = λ unchanged q none.
    (let was : page_at c.loop-number.sheets.changed q ≡ None = sym (err.back q) ∙ none in
    elim (cases_lt (q * 65536) c.args.end) [
      | inl inside ↦ inv.kept (ap (λ x. x.change) (sym (c.save_first.ensures.over.untouched unchanged).1) ∙ unchanged) q inside was
      | inr past ↦ inv.behind_last c.in-Some.number c.in-Some.ensures.there err.inside q past was
    ]) in
    on_err _ kept

pub returns-in_err-save_first-clause-writes : goal.returns-in_err-save_first-clause-writes
returns-in_err-save_first-clause-writes g c = omega (arith, c.loop-number.invariant.spent, c.in_err-save_first.ensures.left)

pub returns-in_err-save_first-clause-image : goal.returns-in_err-save_first-clause-image
returns-in_err-save_first-clause-image g c =
    let inv = c.loop-number.invariant in
    ap (λ n. image_of (page_at c.save_first.new.sheets.changed) (file_of (g.S.Store.disk c.save_first.new.store)) n) (sym inv.length) ∙ c.save_first.ensures.image
    ∙ ap (λ n. image_of (page_at c.loop-number.sheets.changed) (file_of (g.S.Store.disk c.loop-number.store)) n) inv.length ∙ inv.image

pub returns-in_err-save_first-clause-less : goal.returns-in_err-save_first-clause-less
returns-in_err-save_first-clause-less g c q e = c.save_first.ensures.less q (c.loop-number.invariant.less q e)

pub returns-in_err-save_first-clause-same : goal.returns-in_err-save_first-clause-same
returns-in_err-save_first-clause-same g c i low = c.save_first.ensures.same i low ∙ c.loop-number.invariant.same i low

pub returns-in_err-save_first-clause-between : goal.returns-in_err-save_first-clause-between
returns-in_err-save_first-clause-between g c =
    let inv = c.loop-number.invariant in
    between_next (page_at c.args.sheets.now.changed) (page_at c.loop-number.sheets.changed) (g.S.Store.disk c.args.store.now) (g.S.Store.disk c.loop-number.store) (g.S.Store.disk c.save_first.new.store) c.args.sheets.now.length c.loop-number.sheets.length 0
    inv.image inv.length inv.long inv.between c.save_first.ensures.between

pub returns-in_err-save_first-clause-touched : goal.returns-in_err-save_first-clause-touched
returns-in_err-save_first-clause-touched g c =
    let inv = c.loop-number.invariant in
    touched_next (page_at c.args.sheets.now.changed) (page_at c.loop-number.sheets.changed) _ _ _ c.in-Some.number inv.less c.in-Some.ensures.there inv.touched c.save_first.ensures.touched

pub loop-number-preserved : goal.loop-number-preserved
loop-number-preserved g c =
    let inv = c.loop-number.invariant in
    let there = c.in-Some.ensures.there in
    let P = page_at c.loop-number.sheets.changed in
    let Q = page_at c.save_first.new.sheets.changed in
    let k = c.in-Some.number in
    let least = c.in-Some.ensures.least in
    let less = c.save_first.ensures.less in
    record {
      image = ap (λ n. image_of (page_at c.save_first.new.sheets.changed) (file_of (g.S.Store.disk c.save_first.new.store)) n) (sym inv.length) ∙ c.in_ok-save_first.ensures.image
          ∙ ap (λ n. image_of (page_at c.loop-number.sheets.changed) (file_of (g.S.Store.disk c.loop-number.store)) n) inv.length ∙ inv.image;
      long = c.in_ok-save_first.ensures.long ∙ inv.long;
      behind = λ i low lt. c.in_ok-save_first.ensures.behind i low (omega (arith, lt, inv.length));
      same = λ i low. c.in_ok-save_first.ensures.same i low ∙ inv.same i low;
      less = λ q e. c.in_ok-save_first.ensures.less q (inv.less q e);
      held = c.in_ok-save_first.ensures.held;
      between = between_next (page_at c.args.sheets.now.changed) (page_at c.loop-number.sheets.changed) (g.S.Store.disk c.args.store.now) (g.S.Store.disk c.loop-number.store) (g.S.Store.disk c.save_first.new.store) c.args.sheets.now.length c.loop-number.sheets.length 0
          inv.image inv.length inv.long inv.between c.in_ok-save_first.ensures.between;
      touched = touched_next (page_at c.args.sheets.now.changed) (page_at c.loop-number.sheets.changed) _ _ _ c.in-Some.number inv.less there inv.touched c.in_ok-save_first.ensures.touched;
      length = c.in_ok-save_first.ensures.length ∙ inv.length;
      marked = c.in_ok-save_first.ensures.marked;
      spent = omega (arith, inv.spent, c.in_ok-save_first.ensures.writes);
      end = c.in_ok-save_first.ensures.spare ∙ inv.end;
      taken = c.in_ok-save_first.ensures.taken ∙ inv.taken;
      write = c.in_ok-save_first.ensures.cause.done ∙ inv.write;
      read = c.in_ok-save_first.ensures.read ∙ inv.read;
      over = over_then _ _ _ _ _ _ inv.over c.save_first.ensures.over;
      idle = λ none. c.save_first.ensures.idle none ∙ inv.idle none;
      kept = λ unchanged q inside none.
          inv.kept (ap (λ x. x.change) (sym (c.save_first.ensures.over.untouched unchanged).1) ∙ unchanged) q inside (sym (c.save_first.ensures.kept unchanged q inside) ∙ none);
      behind_last = λ left still inside q past none.
          inv.behind_last left (still_some P Q k c.args.end least left less still) inside q past (behind_next P Q k c.args.end least less c.save_first.ensures.others left still inside q past none);
    }
