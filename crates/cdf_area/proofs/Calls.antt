-- Calls one after the other: what each says of the area, as one fact.
use Rattle.std.proofs.Common.{◌≡◌, ◌∙◌, ℕ, Bool, List, Result, Ok, Err, IsErrAnd, sym, ap, subst, arith}
use Rattle.cdf_base.specs.Causes.{HasCauseOf}
use Rattle.cdf_area.specs.declared.area.AreaError.{AreaError}
use Rattle.cdf_area.specs.declared.area.AreaError.TheVariants.{Fault, NoMemory}
use Rattle.cdf_area.specs.Calls.{Edits, Keeps, Overwrites, Reads, Stays}
use Rattle.cdf_area.specs.Frame.{Frame}

error_of : {E : Type 0} (d : E) → {T : Type 0} → Result T E → E
error_of d (Ok x) = d
error_of d (Err e) = e

memory_is_no_fault : NoMemory ≡ Fault → ⊥
memory_is_no_fault e = subst is_fault e tt
  where
    is_fault : AreaError → Type 0
    is_fault Fault = ⊥
    is_fault NoMemory = Unit {0}

-- no fault was counted
none_counted : {T : Type 0} (before now : ℕ) (x : T) → now ≡ before → HasCauseOf {T = T} {E = AreaError} Fault before now (Ok x)
unfolding error_of
none_counted before now x same = record {
  later = omega arith;
  failed = λ is. absurd (memory_is_no_fault (ap (error_of NoMemory) is));
  done = same;
  counted = λ less. absurd (omega arith);
}

-- an error that is passed on has the cause that it had
cause_passed : {T U : Type 0} (before mid now : ℕ) (e : AreaError) (r : Result U AreaError) → mid ≡ before → HasCauseOf {T = T} {E = AreaError} Fault mid now (Err e) → IsErrAnd r (λ x. x ≡ e) → HasCauseOf {T = U} {E = AreaError} Fault before now r
unfolding error_of
cause_passed before mid now e (Ok x) same cause p = absurd p
cause_passed before mid now e (Err x) same cause p = record {
  later = let l = cause.later in omega arith;
  failed = λ is. let rose = cause.failed (ap Err (sym p ∙ ap (error_of x) is)) in omega arith;
  done = tt;
  counted = λ less. ap Err (p ∙ ap (error_of e) (cause.counted (omega arith)));
}

-- want of memory is no fault
memory_cause : {U : Type 0} (before now : ℕ) (r : Result U AreaError) → now ≡ before → IsErrAnd r (λ x. x ≡ NoMemory) → HasCauseOf {T = U} {E = AreaError} Fault before now r
unfolding error_of
memory_cause before now (Ok x) same p = absurd p
memory_cause before now (Err x) same p = record {
  later = omega arith;
  failed = λ is. absurd (memory_is_no_fault (sym p ∙ ap (error_of x) is));
  done = tt;
  counted = λ less. absurd (omega arith);
}

module _ {A U : Type 0} {image_of : A → List ℕ} {frame_of : A → Frame U} {faults_of : A → ℕ} {edited_of : A → Bool} where
  -- a call that reads, and did not fail
  pub read_once : {T : Type 0} {old new : A} {x : T} → Reads image_of frame_of faults_of edited_of old new (Ok x) → Stays image_of frame_of faults_of edited_of old new
  read_once call = record { image = call.image; edited = call.edited; frame = call.frame; faults = call.cause.done }

  -- once more
  pub read_more : {T : Type 0} {old mid new : A} {x : T} → Stays image_of frame_of faults_of edited_of old mid → Reads image_of frame_of faults_of edited_of mid new (Ok x) → Stays image_of frame_of faults_of edited_of old new
  read_more before call = record { image = call.image ∙ before.image; edited = call.edited ∙ before.edited; frame = call.frame ∙ before.frame; faults = call.cause.done ∙ before.faults }

  -- the answer after calls of which none failed
  pub read_done : {T : Type 0} {old new : A} {x : T} → Stays image_of frame_of faults_of edited_of old new → Reads image_of frame_of faults_of edited_of old new (Ok x)
  read_done {x = x} before = record { image = before.image; edited = before.edited; frame = before.frame; cause = none_counted _ _ x before.faults }

  -- the answer where the last call failed, whose error is passed on
  pub read_failed : {T V : Type 0} {old mid new : A} {e : AreaError} {r : Result V AreaError} → Stays image_of frame_of faults_of edited_of old mid → Reads {T = T} image_of frame_of faults_of edited_of mid new (Err e) → IsErrAnd r (λ x. x ≡ e) → Reads image_of frame_of faults_of edited_of old new r
  read_failed {e = e} {r = r} before call is = record { image = call.image ∙ before.image; edited = call.edited ∙ before.edited; frame = call.frame ∙ before.frame; cause = cause_passed _ _ _ e r before.faults call.cause is }

  -- the answer where there is no memory
  pub read_without_memory : {V : Type 0} {old new : A} {r : Result V AreaError} → Stays image_of frame_of faults_of edited_of old new → IsErrAnd r (λ x. x ≡ NoMemory) → Reads image_of frame_of faults_of edited_of old new r
  read_without_memory {r = r} before is = record { image = before.image; edited = before.edited; frame = before.frame; cause = memory_cause _ _ r before.faults is }

  -- a call that reads is one that may change the image
  pub edits_by_read : {T : Type 0} {old new : A} {r : Result T AreaError} → Reads image_of frame_of faults_of edited_of old new r → Edits frame_of faults_of old new r
  edits_by_read call = record { frame = call.frame; cause = call.cause }

  pub keeps_by_read : {old new : A} → Stays image_of frame_of faults_of edited_of old new → Keeps frame_of faults_of old new
  keeps_by_read before = record { frame = before.frame; faults = before.faults }

module _ {A U : Type 0} {frame_of : A → Frame U} {faults_of : A → ℕ} where
  -- so is one that writes over bytes
  pub edits_by_write : {image_of : A → List ℕ} {T : Type 0} {old new : A} {r : Result T AreaError} → Overwrites image_of frame_of faults_of old new r → Edits frame_of faults_of old new r
  edits_by_write call = record { frame = call.frame; cause = call.cause }

  -- the same five of calls that may change the image
  pub edit_once : {T : Type 0} {old new : A} {x : T} → Edits frame_of faults_of old new (Ok x) → Keeps frame_of faults_of old new
  edit_once call = record { frame = call.frame; faults = call.cause.done }

  pub edit_more : {T : Type 0} {old mid new : A} {x : T} → Keeps frame_of faults_of old mid → Edits frame_of faults_of mid new (Ok x) → Keeps frame_of faults_of old new
  edit_more before call = record { frame = call.frame ∙ before.frame; faults = call.cause.done ∙ before.faults }

  pub edit_done : {T : Type 0} {old new : A} {x : T} → Keeps frame_of faults_of old new → Edits frame_of faults_of old new (Ok x)
  edit_done {x = x} before = record { frame = before.frame; cause = none_counted _ _ x before.faults }

  pub edit_failed : {T V : Type 0} {old mid new : A} {e : AreaError} {r : Result V AreaError} → Keeps frame_of faults_of old mid → Edits {T = T} frame_of faults_of mid new (Err e) → IsErrAnd r (λ x. x ≡ e) → Edits frame_of faults_of old new r
  edit_failed {e = e} {r = r} before call is = record { frame = call.frame ∙ before.frame; cause = cause_passed _ _ _ e r before.faults call.cause is }

  pub edit_without_memory : {V : Type 0} {old new : A} {r : Result V AreaError} → Keeps frame_of faults_of old new → IsErrAnd r (λ x. x ≡ NoMemory) → Edits frame_of faults_of old new r
  edit_without_memory {r = r} before is = record { frame = before.frame; cause = memory_cause _ _ r before.faults is }
