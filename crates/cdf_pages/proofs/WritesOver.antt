-- What writes and cuts add to what of the file is not stored.
use Rattle.cdf_pages.proofs.Common.{Bool, Disk, Err, Ok, Result, ap, arith, false, file_of, inl, inr, length, refl, subst, suc, sym, true, zero, ℕ, ◌+◌, ◌-◌, ◌<◌, ◌∙◌, ◌≡◌, ◌≤◌, ◌||◌}
use Rattle.std.specs.Prelude.{IsFalse, ◌&&◌}
use Rattle.std.proofs.Common.{IsErrAnd}
use Rattle.std.proofs.lemmas.Bool.{le-ltb, lt-ltb, or_right}
use Rattle.cdf_store.specs.Unstored.{WritesInPart, after_cut, after_write, nothing}
use Rattle.cdf_store.specs.declared.unstored.Unstored.{Unstored}
use Rattle.cdf_pages.specs.Saving.{KeepsApart, UnlessKept, WritesOver}
use Rattle.cdf_pages.specs.declared.save_error.SaveError.{SaveError}
use Rattle.cdf_pages.specs.declared.save_error.SaveError.TheVariants.{Failed, NoMemory}
use Rattle.cdf_pages.proofs.Filling.{true_not_false}

or_none : (b : Bool) → (b || false) ≡ b
or_none true = refl
or_none false = refl

and_none : (b : Bool) → (b && false) ≡ false
and_none true = refl
and_none false = refl

both_true : (b c : Bool) → b ≡ true → c ≡ true → (b && c) ≡ true
both_true true c e f = f
both_true false c e f = cc e

-- bytes are written over others
pub over_growth : (size place count : ℕ) (u : Unstored) → place + count ≤ size → (after_write size place count u).growth ≡ u.growth
over_growth size place count u fits = ap (λ b. u.growth || b) (le-ltb (size - place) count (omega (arith, fits))) ∙ or_none u.growth

pub over_change : (size place count : ℕ) (u : Unstored) → place + count ≤ size → 0 < count → (after_write size place count u).change ≡ true
over_change size place count u fits some = or_right u.change _ (both_true _ _ (lt-ltb 0 (size - place) (omega (arith, fits, some))) (lt-ltb 0 count some))

module _ {U : Type 0} where
  pub over_none : (d : Disk U) (u : Unstored) → WritesOver d d u u
  over_none d u = record { untouched = λ e. (refl, refl); growth = refl }

  pub over_then : (a b c : Disk U) (u v w : Unstored) → WritesOver a b u v → WritesOver b c v w → WritesOver a c u w
  over_then a b c u v w first next = record {
    untouched = λ e.
        let later = next.untouched e in
        let before = first.untouched (ap (λ x. x.change) (sym later.1) ∙ e) in (later.0 ∙ before.0, later.1 ∙ before.1);
    growth = next.growth ∙ first.growth;
  }

  pub over_stays : (a b c : Disk U) (u v w : Unstored) → c ≡ b → w ≡ v → WritesOver a b u v → WritesOver a c u w
  over_stays a b c u v w same still first = over_then a b c u v w first (record { untouched = λ e. (same, still); growth = ap (λ x. x.growth) still })

  pub over_write : (d next : Disk U) (u v : Unstored) (place count : ℕ) → place + count ≤ length (file_of d) → 0 < count → v ≡ after_write (length (file_of d)) place count u → WritesOver d next u v
  over_write d next u v place count fits some is = record {
    untouched = λ e. absurd (true_not_false (sym (ap (λ x. x.change) is ∙ over_change (length (file_of d)) place count u fits some) ∙ e));
    growth = ap (λ x. x.growth) is ∙ over_growth (length (file_of d)) place count u fits;
  }

  pub over_part : (d next : Disk U) (u v : Unstored) (place count : ℕ) → place + count ≤ length (file_of d) → WritesInPart place count d next u v → WritesOver d next u v
  over_part d next u v place count fits (inl same) = record { untouched = λ e. same; growth = ap (λ x. x.growth) same.1 }
  over_part d next u v place count fits (inr w) = over_write d next u v place w.0 (omega (arith, fits, w.2)) w.1 w.3

  pub over_cut : (d next : Disk U) (u v : Unstored) (n : ℕ) → n < length (file_of d) → v ≡ after_cut (length (file_of d)) n u → WritesOver d next u v
  over_cut d next u v n short is = record {
    untouched = λ e. absurd (true_not_false (sym (ap (λ x. x.change) is ∙ or_right u.change _ (lt-ltb n (length (file_of d)) short)) ∙ e));
    growth = ap (λ x. x.growth) is;
  }

-- ---- what a save leaves

pub unless_kept : {T : Type 0} {A : Type 0} (r : Result T SaveError) → A → UnlessKept r A
unless_kept (Ok done) a = a
unless_kept (Err (Failed true)) a = tt
unless_kept (Err (Failed false)) a = a
unless_kept (Err NoMemory) a = a

pub unless_map : {T : Type 0} {A B : Type 0} (r : Result T SaveError) → (A → B) → UnlessKept r A → UnlessKept r B
unless_map (Ok done) f a = f a
unless_map (Err (Failed true)) f a = tt
unless_map (Err (Failed false)) f a = f a
unless_map (Err NoMemory) f a = f a

pub unless_failed : {A : Type 0} (kept : Bool) → (IsFalse kept → A) → UnlessKept {T = Unit {0}} (Err (Failed kept)) A
unless_failed true a = tt
unless_failed false a = a refl

-- what was unstored stays
pub apart_same : {T : Type 0} (r : Result T SaveError) (u v : Unstored) → v ≡ u → KeepsApart r u v
apart_same r u v same = unless_kept r (λ none. ap (λ x. x.growth && x.change) (same ∙ none))

-- the file did not come to be written over
apart_unchanged : (u v : Unstored) → (u.change ≡ false → v.change ≡ false) → u ≡ nothing → (v.growth && v.change) ≡ false
apart_unchanged u v stays none = ap (λ b. v.growth && b) (stays (ap (λ x. x.change) none)) ∙ and_none v.growth

pub apart_grown : {T : Type 0} (r : Result T SaveError) (e : SaveError) (u r0 v : Unstored) → IsErrAnd r (λ x. x ≡ e) → r0 ≡ u → (r0.change ≡ false → UnlessKept {T = T} (Err e) (v.change ≡ false)) → KeepsApart r u v
apart_grown (Ok done) e u r0 v is same stays = absurd is
apart_grown {T = T} (Err x) e u r0 v is same stays = subst (λ (y : SaveError). KeepsApart {T = T} (Err y) u v) (sym is) (of e (subst (λ (w : Unstored). w.change ≡ false → UnlessKept {T = T} (Err e) (v.change ≡ false)) same stays))
  where
    of : (y : SaveError) → (u.change ≡ false → UnlessKept {T = T} (Err y) (v.change ≡ false)) → KeepsApart {T = T} (Err y) u v
    of (Failed true) k = tt
    of (Failed false) k = apart_unchanged u v k
    of NoMemory k = apart_unchanged u v k

-- it grew, which was stored unless it was empty, and then it was written over
pub apart_over : {T : Type 0} (r : Result T SaveError) (size : ℕ) (u r0 v w : Unstored) → r0 ≡ u → (r0.change ≡ false → v.change ≡ false) → (0 < size → r0 ≡ nothing → v ≡ nothing) → UnlessKept r (w.growth ≡ v.growth) → (size ≡ 0 → UnlessKept r (w ≡ v)) → KeepsApart r u w
apart_over {T = T} r size u r0 v w same stays stored growth idle = subst (λ (x : Unstored). KeepsApart {T = T} r x w) same (of size stored idle)
  where
    of : (n : ℕ) → (0 < n → r0 ≡ nothing → v ≡ nothing) → (n ≡ 0 → UnlessKept r (w ≡ v)) → KeepsApart r r0 w
    of zero stored idle = unless_map r (λ is none. ap (λ x. x.growth && x.change) is ∙ apart_unchanged r0 v stays none) (idle refl)
    of (suc n) stored idle = unless_map r (λ is none. ap (λ b. b && w.change) (is ∙ ap (λ x. x.growth) (stored (omega arith) none))) growth
