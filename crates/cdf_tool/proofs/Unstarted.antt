-- A run that had no memory to read its words.
use Rattle.cdf_tool.proofs.Common.{Asked, Bool, Disk, Ends, EndsAsked, List, None, Option, Outlets, Some, Without, false, inl, is_some, refl, true, ℕ, ◌≡◌}
use Rattle.cdf_saving.specs.declared.status.Status.TheVariants as statuses

pub unnamed : (name held : Option (List ℕ)) → is_some name ≡ is_some held → held ≡ None → name ≡ None
unnamed None held same free = refl
unnamed (Some name) None same free = absurd (cc same)
unnamed (Some name) (Some file) same free = absurd (cc free)

module _ {U : Type 0} (d : Disk U) (left : Option (List ℕ)) (first : Outlets) (free : d.held ≡ None) (name : d.name ≡ None) where
  without : (a : Asked) → Without a d d left left first.written first.written statuses.NoMemory
  without a = record { unattached = record { held = free; name = name; files = inl refl; touched = refl; only = refl; under = refl }; none_read = refl; ends = refl }

  by_check : (check : Bool) (a : Asked) → EndsAsked check a d d left left first first statuses.NoMemory
  by_check true a = (refl, inl (without a))
  by_check false a = inl (refl, without a)

  pub unstarted_ends : (asked : Option Asked) → Ends asked d d left left first first statuses.NoMemory
  unstarted_ends None = (refl, refl, refl, refl)
  unstarted_ends (Some a) = by_check a.check a
