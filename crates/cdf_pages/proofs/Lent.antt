-- Pages that the device lends.
use Rattle.cdf_pages.proofs.Common.{Bool, List, None, Option, Serves, Shows, Some, TakesAtMost, ap, false, if◌then◌else◌, is_some, min, refl, same_Some, subst, sym, true, ℕ, ◌*◌, ◌+◌, ◌-◌, ◌<◌, ◌∙◌, ◌≡◌, ◌⊎◌}
use Rattle.std.proofs.Common.{inl, inr}
use Rattle.std.specs.Option.{option_flatten}
use Rattle.cdf_pages.proofs.Filling.{true_not_false, takes_live}

pub serves_lent : (lends : Bool) (file : List ℕ) (n k : ℕ) → lends ≡ true → Serves lends file n k None
serves_lent lends file n k is = ((λ e. is), λ page e. cc)

pub serves_read : (lends : Bool) (file : List ℕ) (n k : ℕ) (page : List ℕ) → Shows file n k page → Serves lends file n k (Some page)
serves_read lends file n k page shows = ((λ e. cc), λ other e. subst (Shows file n k) (same_Some page other e) shows)

-- a page that was kept with its bytes
pub kept_page : (o : Option (Option (List ℕ))) (page : List ℕ) → option_flatten o ≡ Some page → o ≡ Some (Some page)
kept_page None page e = cc
kept_page (Some None) page e = cc
kept_page (Some (Some other)) page e = (λ i. Some (e i))

-- no bytes of a page that is lent are counted, since the device does not tell them
pub takes_lent : (a b : Option ℕ) (size k long m : ℕ) (o : Option (Option (List ℕ))) (lends : Bool) → ((j : ℕ) → j < 65536 → k * 65536 + j < size → k * 65536 + j < long) → m ≡ min 65536 (size - k * 65536)
    → TakesAtMost a b m → option_flatten o ≡ None → (o ≡ Some None → lends ≡ true) → (lends ≡ false) ⊎ (a ≡ None) → TakesAtMost a b (if is_some o then 0 else min 65536 (long - k * 65536))
takes_lent a b size k long m None lends backed live takes none serves untold = takes_live a b size k long m backed live takes
takes_lent a b size k long m (Some None) lends backed live takes none serves (inl keeps) = absurd (true_not_false (sym (serves refl) ∙ keeps))
takes_lent a b size k long m (Some None) lends backed live takes none serves (inr silent) = subst (λ (o : Option ℕ). TakesAtMost o b 0) (sym silent) tt
takes_lent a b size k long m (Some (Some page)) lends backed live takes none serves untold = cc

-- a changed page is none of the clean ones
pub changed_missing : {X : Type 0} (A : X → Type 0) (o : Option X) (p : Option (List ℕ)) → is_some p ≡ true → ((x : X) → o ≡ Some x → (p ≡ None) × A x) → o ≡ None
changed_missing A None p some clean = refl
changed_missing A (Some x) p some clean = absurd (true_not_false (sym some ∙ ap is_some (clean x refl).0))
