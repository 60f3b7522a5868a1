-- Whether an attaching failed.
use Rattle.std.specs.Prelude.{Bool, true, false, Ok, Err}
use Rattle.std.specs.declared.result.Result.{Result}
use Rattle.cdf_store.specs.declared.store.AttachError.{AttachError}
use Rattle.cdf_store.specs.declared.store.AttachError.TheVariants.{Failed, NoMemory}

-- the device failed; want of memory is no fault of it
abbrev pub is_failed : {T : Type 0} → Result T AttachError → Bool
is_failed (Ok found) = false
is_failed (Err Failed) = true
is_failed (Err NoMemory) = false
