-- A file that has grown is cut back, where nothing of it was written over.
use Rattle.cdf_pages.proofs.Common.{Backed, Bool, Disk, Err, FailsSaving, Holds, HoldsBetween, HoldsGrown, IsTrue, List, Option, ap, arith, cut, false, file_of, get_or-take, image_of, inl, inr, length, length-take-le, refl, subst, sym, take, take_all, true, ℕ, ◌/◌, ◌∙◌, ◌≡◌, ◌≤◌, ◌⊎◌}
use Rattle.std.specs.Prelude.{IsFalse}
use Rattle.cdf_pages.specs.declared.save_error.SaveError.TheVariants.{Failed}
use Rattle.cdf_pages.proofs.Disks.{file_held}
use Rattle.cdf_pages.proofs.Grew.{cut_back}
use Rattle.cdf_pages.proofs.Images.{image_same}
use Rattle.cdf_pages.proofs.SavedPage.{byte_kept}

-- bytes that lie in no changed page stand before the cut
image_cut : (p : ℕ → Option (List ℕ)) (file : List ℕ) (size n : ℕ) → Backed p size n → image_of p (take size file) n ≡ image_of p file n
image_cut p file size n backed = image_same p p (take size file) file n (λ i lt. byte_kept (p (i / 65536)) (take size file) file i (λ none. get_or-take size file i 0 (backed i lt none)))

module _ {U : Type 0} (w now : Disk U) (size : ℕ) where
  -- it is as long as it was, or it was cut
  file_back : ((now ≡ w) × (length (file_of w) ≡ size)) ⊎ (now ≡ cut w size) → file_of now ≡ take size (file_of w)
  file_back (inl same) = ap (λ x. file_of x) same.0 ∙ sym (take_all size (file_of w) (omega (arith, same.1)))
  file_back (inr is) = ap (λ x. file_of x) is

module _ {U : Type 0} (first w now : Disk U) (new : List ℕ) (size : ℕ) (at : size ≡ length (file_of first)) where
  old_bytes : HoldsGrown first new w → ((now ≡ w) × (length (file_of w) ≡ size)) ⊎ (now ≡ cut w size) → Holds first (file_of first) now
  old_bytes h (inl same) =
      let file = file_held first w h.bytes h.holds in
      let long : length h.bytes ≡ length (file_of first) = sym (ap length file) ∙ same.1 ∙ at in
      let is : h.bytes ≡ file_of first = sym (take_all (length (file_of first)) h.bytes (omega (arith, long))) ∙ h.grows.front in
      subst (λ (x : Disk U). Holds first (file_of first) x) (sym same.0) (subst (λ (l : List ℕ). Holds first l w) is h.holds)
  old_bytes h (inr is) = cut_back first w new h now size at is

  pub back_failed : (kept : Bool) → (IsTrue kept → HoldsGrown first new w) → (IsTrue kept → ((now ≡ w) × (length (file_of w) ≡ size)) ⊎ (now ≡ cut w size)) → (IsFalse kept → now ≡ w) → HoldsBetween first new w → FailsSaving {T = Unit {0}} first new now (Err (Failed kept))
  back_failed true grown back stays between = old_bytes (grown refl) (back refl)
  back_failed false grown back stays between = subst (HoldsBetween first new) (sym (stays refl)) between

module _ {U : Type 0} (p : ℕ → Option (List ℕ)) (w now : Disk U) (size n : ℕ) where
  pub back_image : (kept : Bool) → (IsTrue kept → Backed p size n) → (IsTrue kept → ((now ≡ w) × (length (file_of w) ≡ size)) ⊎ (now ≡ cut w size)) → (IsFalse kept → now ≡ w) → image_of p (file_of now) n ≡ image_of p (file_of w) n
  back_image true backed back stays = ap (λ (l : List ℕ). image_of p l n) (file_back w now size (back refl)) ∙ image_cut p (file_of w) size n (backed refl)
  back_image false backed back stays = ap (λ x. image_of p (file_of x) n) (stays refl)

  pub back_backed : (kept : Bool) → size ≤ length (file_of w) → n ≤ length (file_of w) → (IsTrue kept → Backed p size n) → (IsTrue kept → ((now ≡ w) × (length (file_of w) ≡ size)) ⊎ (now ≡ cut w size)) → (IsFalse kept → now ≡ w) → Backed p (length (file_of now)) n
  back_backed true room long backed back stays i lt none =
      let size_now = ap (λ (l : List ℕ). length l) (file_back w now size (back refl)) in
      omega (arith, size_now, length-take-le size (file_of w) room, backed refl i lt none)
  back_backed false room long backed back stays i lt none = omega (arith, lt, long, ap (λ x. length (file_of x)) (stays refl))
