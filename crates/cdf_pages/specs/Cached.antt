-- What the cache of an area says of its clean pages.
use Rattle.std.specs.Prelude.{◌≡◌, ℕ, ◌≤◌, Bool, true, false, List, length, is_some, nat_eq, IsTrue, Option, Some, None, refl}
use Rattle.std.specs.Map.{keys_of, lookup}
use Rattle.std.proofs.Common.{sym, ap, subst}
use Rattle.std.proofs.lemmas.Map.Entries.{length-keys_of}
use Rattle.std.proofs.lemmas.Map.Made.{is_some-lookup}
use Rattle.lru.specs.LruCache.{IsValid, LruCache}
use Rattle.cdf_pages.specs.Pages.{AllServe, is_in}
use Rattle.cdf_pages.specs.Standing.{AreClean}

holds_if : Bool → Type 0
holds_if true = Unit {0}
holds_if false = ⊥

some_page : {X : Type 0} (o : Option X) → IsTrue (is_some o) → (page : X) × (o ≡ Some page)
unfolding holds_if
some_page None there = absurd (subst holds_if (sym there) tt)
some_page (Some page) there = (page, refl)

pub all_clean : (lends : Bool) (pages : ℕ → Option (List ℕ)) (file : List ℕ) (n : ℕ) (clean : LruCache ℕ (Option (List ℕ))) → IsValid nat_eq clean → clean.cap ≡ 256 → AllServe lends pages file n clean.entries → AreClean (is_in pages) (keys_of clean.entries)
all_clean lends pages file n clean valid cap serves = record {
  distinct = valid.0;
  few = subst (λ (m : ℕ). length (keys_of clean.entries) ≤ m) cap (subst (λ (m : ℕ). m ≤ clean.cap) (sym (length-keys_of clean.entries)) valid.1);
  unchanged = λ number there.
      let page = some_page (lookup (nat_eq number) clean.entries) (subst IsTrue (sym (is_some-lookup (nat_eq number) clean.entries)) there) in
      ap is_some (serves number page.0 page.1).0;
}
