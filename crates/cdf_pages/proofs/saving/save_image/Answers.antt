use Rattle.cdf_pages.proofs.Common.{Backed, Bool, Disk, Err, FailsSaving, HasBehind, HasTailBehind, Holds, HoldsGrown, IsChangedRange, List, Ok, OnOk, Option, Result, Touches, arith, file_of, image_of, is_in, length, max, page_at, subst, sym, ℕ, ◌++◌, ◌+◌, ◌-◌, ◌∙◌, ◌≡◌}
use Rattle.std.proofs.Common.{IsErrAnd}
use Rattle.cdf_pages.specs.declared.save_error.SaveError.{SaveError}
use Rattle.cdf_pages.proofs.Grew.{grown_backed, grown_behind, grown_held, grown_image, grown_tail}
use Rattle.cdf_pages.proofs.Touched.{touches_then}
use Rattle.cdf_pages.proofs.WritesOver.{apart_grown, apart_over, apart_same}
use Rattle.cdf_pages.proofs.saving.save_image.Goals as goal

-- room was made, which left the disk as it was, and then the file grew
module _ {U : Type 0} (p : ℕ → Option (List ℕ)) (d r now : Disk U) (tail : List ℕ) (n : ℕ) (made : r ≡ d) (h : HoldsGrown r (image_of p (file_of r) n ++ tail) now) (backed : Backed p (length (file_of d)) n) where
  grown : HoldsGrown d (image_of p (file_of d) n ++ tail) now
  grown = subst (λ (x : Disk U). HoldsGrown x (image_of p (file_of x) n ++ tail) now) made h

  image : image_of p (file_of now) n ≡ image_of p (file_of d) n
  image = grown_image p d now tail n grown backed

  still_backed : Backed p (length (file_of now)) n
  still_backed = grown_backed p d now tail n grown backed

  still_grown : HoldsGrown d (image_of p (file_of now) n ++ tail) now
  still_grown = subst (λ (l : List ℕ). HoldsGrown d (l ++ tail) now) (sym image) grown

  is_behind : (size : ℕ) → size ≡ length (file_of d) → length (file_of now) ≡ max size (n + length tail) → HasBehind p (file_of now) size n
  is_behind size at long = grown_behind p d now tail n grown backed size at long

  tail_behind : (size : ℕ) → size ≡ length (file_of d) → length (file_of now) ≡ max size (n + length tail) → HasTailBehind tail n (file_of now) (size - n)
  tail_behind size at long = grown_tail p d now tail n grown backed size at long

-- the error of the growth is handed on
handed_on : {U : Type 0} (d now : Disk U) (new : List ℕ) (r : Result (Unit {0}) SaveError) (e : SaveError) → IsErrAnd r (λ x. x ≡ e) → FailsSaving {T = Unit {0}} d new now (Err e) → FailsSaving {T = Unit {0}} d new now r
handed_on d now new (Ok done) e is h = tt
handed_on d now new (Err x) e is h = subst (λ (y : SaveError). FailsSaving {T = Unit {0}} d new now (Err y)) (sym is) h

pub returns-in_err-grow-clause-failed : goal.returns-in_err-grow-clause-failed
returns-in_err-grow-clause-failed g c =
    let P = page_at c.args.sheets.now.changed in
    let n = c.args.sheets.now.length in
    let now = g.S.Store.disk c.grow.new.store in
    subst (λ (x : Disk g.S.Store.Under). FailsSaving {T = Unit {0}} x (image_of P (file_of x) n ++ c.args.tail.now) now c.from_residual-in_err-grow.result) c.in_ok-reserve.ensures.disk
    (handed_on (g.S.Store.disk c.reserve.new.self) now _ c.from_residual-in_err-grow.result _ c.from_residual-in_err-grow.ensures.1 c.in_err-grow.ensures.failed)

pub returns-in_err-grow-clause-image : goal.returns-in_err-grow-clause-image
returns-in_err-grow-clause-image g c =
    image (page_at c.args.sheets.now.changed) (g.S.Store.disk c.args.store.now) (g.S.Store.disk c.reserve.new.self) (g.S.Store.disk c.grow.new.store) c.args.tail.now c.args.sheets.now.length c.in_ok-reserve.ensures.disk c.grow.ensures.grown c.requires.backed

pub returns-in_err-grow-clause-backed : goal.returns-in_err-grow-clause-backed
returns-in_err-grow-clause-backed g c =
    still_backed (page_at c.args.sheets.now.changed) (g.S.Store.disk c.args.store.now) (g.S.Store.disk c.reserve.new.self) (g.S.Store.disk c.grow.new.store) c.args.tail.now c.args.sheets.now.length c.in_ok-reserve.ensures.disk c.grow.ensures.grown c.requires.backed

pub write_over_or_back-requires-clause-behind : goal.write_over_or_back-requires-clause-behind
write_over_or_back-requires-clause-behind g c =
    is_behind (page_at c.args.sheets.now.changed) (g.S.Store.disk c.args.store.now) (g.S.Store.disk c.reserve.new.self) (g.S.Store.disk c.grow.new.store) c.args.tail.now c.args.sheets.now.length c.in_ok-reserve.ensures.disk c.grow.ensures.grown c.requires.backed
    c.args.file_size c.requires.file_size c.in_ok-grow.ensures.long

pub write_over_or_back-requires-clause-tail_behind : goal.write_over_or_back-requires-clause-tail_behind
write_over_or_back-requires-clause-tail_behind g c =
    tail_behind (page_at c.args.sheets.now.changed) (g.S.Store.disk c.args.store.now) (g.S.Store.disk c.reserve.new.self) (g.S.Store.disk c.grow.new.store) c.args.tail.now c.args.sheets.now.length c.in_ok-reserve.ensures.disk c.grow.ensures.grown c.requires.backed
    c.args.file_size c.requires.file_size c.in_ok-grow.ensures.long

pub write_over_or_back-requires-clause-held : goal.write_over_or_back-requires-clause-held
write_over_or_back-requires-clause-held g c = grown_held (g.S.Store.disk c.reserve.new.self) (g.S.Store.disk c.grow.new.store) _ c.grow.ensures.grown

pub write_over_or_back-requires-clause-backed : goal.write_over_or_back-requires-clause-backed
write_over_or_back-requires-clause-backed g c i lt none = omega (arith, c.requires.backed i lt none, c.requires.file_size)

pub returns-clause-saved : goal.returns-clause-saved
returns-clause-saved g c =
    let P = page_at c.args.sheets.now.changed in
    let d = g.S.Store.disk c.args.store.now in
    let r = g.S.Store.disk c.reserve.new.self in
    let now = g.S.Store.disk c.grow.new.store in
    let n = c.args.sheets.now.length in
    let made = c.in_ok-reserve.ensures.disk in
    subst (λ (l : List ℕ). OnOk c.write_over_or_back.result (Holds d (l ++ c.args.tail.now) (g.S.Store.disk c.write_over_or_back.new.store))) (image P d r now c.args.tail.now n made c.grow.ensures.grown c.requires.backed)
    (c.write_over_or_back.ensures.saved d (still_grown P d r now c.args.tail.now n made c.grow.ensures.grown c.requires.backed))

pub returns-clause-failed : goal.returns-clause-failed
returns-clause-failed g c =
    let P = page_at c.args.sheets.now.changed in
    let d = g.S.Store.disk c.args.store.now in
    let r = g.S.Store.disk c.reserve.new.self in
    let now = g.S.Store.disk c.grow.new.store in
    let n = c.args.sheets.now.length in
    let made = c.in_ok-reserve.ensures.disk in
    subst (λ (l : List ℕ). FailsSaving d (l ++ c.args.tail.now) (g.S.Store.disk c.write_over_or_back.new.store) c.write_over_or_back.result) (image P d r now c.args.tail.now n made c.grow.ensures.grown c.requires.backed)
    (c.write_over_or_back.ensures.failed d c.requires.file_size (still_grown P d r now c.args.tail.now n made c.grow.ensures.grown c.requires.backed))

pub returns-clause-image : goal.returns-clause-image
returns-clause-image g c =
    c.write_over_or_back.ensures.image
    ∙ image (page_at c.args.sheets.now.changed) (g.S.Store.disk c.args.store.now) (g.S.Store.disk c.reserve.new.self) (g.S.Store.disk c.grow.new.store) c.args.tail.now c.args.sheets.now.length c.in_ok-reserve.ensures.disk c.grow.ensures.grown c.requires.backed

touched_both : {U : Type 0} (changed : ℕ → Bool) (n tail : ℕ) (d r : Disk U) (b c : Option (List (ℕ × ℕ))) → r ≡ d → Touches (IsChangedRange changed n tail) r.touched b → Touches (IsChangedRange changed n tail) b c → Touches (IsChangedRange changed n tail) d.touched c
touched_both {U = U} changed n tail d r b c made grew over = touches_then (IsChangedRange changed n tail) d.touched b c (subst (λ (x : Disk U). Touches (IsChangedRange changed n tail) x.touched b) made grew) over

pub returns-clause-touched : goal.returns-clause-touched
returns-clause-touched g c =
    touched_both (is_in (page_at c.args.sheets.now.changed)) c.args.sheets.now.length (length c.args.tail.now) (g.S.Store.disk c.args.store.now) (g.S.Store.disk c.reserve.new.self) _ _ c.in_ok-reserve.ensures.disk c.grow.ensures.touched c.write_over_or_back.ensures.touched

pub returns-in_err-reserve-clause-apart : goal.returns-in_err-reserve-clause-apart
returns-in_err-reserve-clause-apart g c = apart_same _ _ _ c.in_err-reserve.ensures.unstored

pub returns-in_err-grow-clause-apart : goal.returns-in_err-grow-clause-apart
returns-in_err-grow-clause-apart g c = apart_grown c.from_residual-in_err-grow.result _ (g.S.Store.unstored c.args.store.now) _ _ c.from_residual-in_err-grow.ensures.1 c.in_ok-reserve.ensures.unstored c.in_err-grow.ensures.change

pub returns-clause-apart : goal.returns-clause-apart
returns-clause-apart g c =
    apart_over c.write_over_or_back.result c.args.file_size (g.S.Store.unstored c.args.store.now) (g.S.Store.unstored c.reserve.new.self) (g.S.Store.unstored c.grow.new.store) _ c.in_ok-reserve.ensures.unstored c.in_ok-grow.ensures.change c.in_ok-grow.ensures.stored
    c.write_over_or_back.ensures.growth c.write_over_or_back.ensures.idle
