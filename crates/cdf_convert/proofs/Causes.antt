-- What a count of faults says where an error becomes another one.
use Rattle.std.proofs.Common.{Err, IsErrAnd, Ok, Result, ap, arith, refl, subst, sym, ℕ, ◌≡◌, ◌∙◌}
use Rattle.std.specs.Prelude.{IfErr, IsErrOf}
use Rattle.cdf_base.specs.Causes.{HasCauseOf}
use Rattle.cdf_area.specs.declared.area.AreaError.{AreaError}
use Rattle.cdf_area.specs.declared.area.AreaError.TheVariants as areas
use Rattle.cdf_convert.specs.Errors.{read_error, write_error}
use Rattle.cdf_convert.specs.declared.error.ConvertError.TheVariants.{SourceFault, TargetFault}
use Rattle.cdf_writer.specs.declared.appending.WriteStop.{WriteStop}
use Rattle.cdf_writer.specs.declared.appending.WriteStop.TheVariants as stops

-- what holds of an error holds where it is the answer
pub at_error : {T E : Type 0} (P : E → Type 0) (r : Result T E) (e : E) → IsErrAnd r (λ x. x ≡ e) → P e → IfErr r P
at_error P (Ok x) e is p = absurd is
at_error P (Err x) e is p = subst P (sym is) p

same_error : {T E : Type 0} {x y : E} → IsErrOf {T = T} (Err x) y → x ≡ y
same_error p = cc p

-- the count stays, and another error comes
pub uncounted : {T E : Type 0} (fault : E) (first now : ℕ) (e : E) (r : Result T E) → now ≡ first → (e ≡ fault → ⊥) → IsErrAnd r (λ x. x ≡ e) → HasCauseOf fault first now r
uncounted fault first now e (Ok x) same other is = absurd is
uncounted fault first now e (Err x) same other is = record {
  later = omega (arith, same);
  failed = λ p. absurd (other (sym is ∙ same_error p));
  done = tt;
  counted = λ lt. absurd (omega (arith, same, lt));
}

-- an error is passed on, and the count did not rise before it
pub passed_on : {T E : Type 0} (fault : E) (first before now : ℕ) (e : E) (r : Result T E) → before ≡ first → HasCauseOf {T = T} fault before now (Err e) → IsErrAnd r (λ x. x ≡ e) → HasCauseOf fault first now r
passed_on fault first before now e (Ok x) same cause is = absurd is
passed_on {T} {E} fault first before now e (Err x) same cause is =
    subst (λ (y : E). HasCauseOf {T = T} fault first now (Err y)) (sym is) (subst (λ n. HasCauseOf {T = T} fault n now (Err e)) same cause)

module _ {T U E F : Type 0} (becomes : E → F) (fault : E) (only : (e : E) → becomes e ≡ becomes fault → e ≡ fault) where
  -- the count did not rise before this error
  pub becomes_counted : (first before now : ℕ) (e : E) (r : Result U F) → before ≡ first → HasCauseOf {T = T} fault before now (Err e) → IsErrAnd r (λ x. x ≡ becomes e) → HasCauseOf (becomes fault) first now r
  becomes_counted first before now e (Ok x) same cause is = absurd is
  becomes_counted first before now e (Err x) same cause is =
      let here : HasCauseOf {T = T} fault first now (Err e) = subst (λ n. HasCauseOf {T = T} fault n now (Err e)) same cause in
      record {
        later = here.later;
        failed = λ p. here.failed (ap Err (only e (sym is ∙ same_error p)));
        done = tt;
        counted = λ lt. ap Err (is ∙ ap becomes (same_error (here.counted lt)));
      }

pub only_read : (e : AreaError) → read_error e ≡ SourceFault → e ≡ areas.Fault
only_read areas.Fault p = refl
only_read areas.NoMemory p = absurd (cc p)

pub only_written : (e : WriteStop) → write_error e ≡ TargetFault → e ≡ stops.Fault
only_written (stops.TooLarge eof need) p = absurd (cc p)
only_written stops.Fault p = refl
only_written stops.NoMemory p = absurd (cc p)

pub not_written : (e : AreaError) → read_error e ≡ TargetFault → ⊥
not_written areas.Fault p = absurd (cc p)
not_written areas.NoMemory p = absurd (cc p)

pub not_read : (e : WriteStop) → write_error e ≡ SourceFault → ⊥
not_read (stops.TooLarge eof need) p = absurd (cc p)
not_read stops.Fault p = absurd (cc p)
not_read stops.NoMemory p = absurd (cc p)
