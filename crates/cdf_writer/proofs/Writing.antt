-- Calls that append records, one after the other.
use Rattle.std.proofs.Common.{◌<◌, Global, List, Vec, [], ap, append-nil, append_assoc, arith, length, refl, subst, sym, ℕ, ◌++◌, ◌+◌, ◌-◌, ◌∙◌, ◌∷◌, ◌≡◌, ◌≤◌}
use Rattle.std.specs.Prelude.{IfOk, IsErrAnd, OnOk, Ok, Err}
use Rattle.std.specs.declared.result.Result.{Result}
use Rattle.cdf_area.specs.Frame.{Frame}
use Rattle.cdf_base.specs.Causes.{HasCauseOf}
use Rattle.cdf_writer.specs.Laying.{laid_size}
use Rattle.cdf_writer.specs.Stops.{CutAt, Writes}
use Rattle.cdf_writer.specs.declared.appending.WriteStop.{WriteStop}
use Rattle.cdf_writer.specs.declared.appending.WriteStop.TheVariants.{TooLarge, Fault, NoMemory}
use Rattle.cdf_writer.proofs.Stands.{size-append, whole_size}

-- a limit, a size and a list of records that are others by name
pub cut_same : {limit limit' size size' : ℕ} {xs ys : List (List ℕ)} → limit ≡ limit' → size ≡ size' → xs ≡ ys → (stop : WriteStop) → CutAt limit size xs stop → CutAt limit' size' ys stop
cut_same a b c stop h = subst (λ (t : Type 0). t) (λ i. CutAt (a i) (b i) (c i) stop) h

-- what stops some records also stops these with others behind them
pub cut_first : (limit size : ℕ) (xs ys : List (List ℕ)) (stop : WriteStop) → CutAt limit size xs stop → CutAt limit size (xs ++ ys) stop
cut_first limit size xs ys (TooLarge eof need) p = record {
  done = p.done;
  next = p.next;
  rest = p.rest ++ ys;
  are = ap (λ (l : List (List ℕ)). l ++ ys) p.are ∙ append_assoc p.done (p.next ∷ p.rest) ys;
  eof_is = p.eof_is;
  need_is = p.need_is;
  within = p.within;
  past = p.past;
}
cut_first limit size xs ys Fault p = tt
cut_first limit size xs ys NoMemory p = tt

-- and with others before them
pub cut_last : (limit size : ℕ) (xs ys : List (List ℕ)) (stop : WriteStop) → CutAt limit (size + laid_size xs) ys stop → CutAt limit size (xs ++ ys) stop
cut_last limit size xs ys (TooLarge eof need) p = record {
  done = xs ++ p.done;
  next = p.next;
  rest = p.rest;
  are = ap (λ (l : List (List ℕ)). xs ++ l) p.are ∙ sym (append_assoc xs p.done (p.next ∷ p.rest));
  eof_is = omega (arith, p.eof_is, size-append xs p.done);
  need_is = p.need_is;
  within = p.within;
  past = p.past;
}
cut_last limit size xs ys Fault p = tt
cut_last limit size xs ys NoMemory p = tt

-- what two clauses on one result say together
pub on_ok_both : {T E P Q R : Type 0} (r : Result T E) → OnOk r P → OnOk r Q → (P → Q → R) → OnOk r R
on_ok_both (Ok x) p q both = both p q
on_ok_both (Err e) p q both = tt

-- what a clause says of a number that is another by name
pub same_number : {E : Type 0} (r : Result ℕ E) (x y : ℕ) → x ≡ y → IfOk r (λ n. n ≡ x) → IfOk r (λ n. n ≡ y)
same_number (Ok n) x y e h = h ∙ e
same_number (Err d) x y e h = tt

-- bytes that are others by name
pub same_bytes : {E : Type 0} (r : Result (Vec ℕ Global) E) (xs ys : List ℕ) → xs ≡ ys → IfOk r (λ body. body.items ≡ xs) → IfOk r (λ body. body.items ≡ ys)
same_bytes (Ok body) xs ys e h = h ∙ e
same_bytes (Err x) xs ys e h = tt

module _ {A U : Type 0} (image_of : A → List ℕ) (frame_of : A → Frame U) (faults_of : A → ℕ) where
  -- one call after another that did all
  pub writes_both : {T S : Type 0} (size : ℕ) (old mid new : A) (xs ys : List (List ℕ)) (t : T) (r : Result S WriteStop)
      → Writes image_of frame_of faults_of size old mid xs (Ok t) → Writes image_of frame_of faults_of (length (image_of mid)) mid new ys r → Writes image_of frame_of faults_of size old new (xs ++ ys) r
  writes_both {T = T} {S = S} size old mid new xs ys t (Ok s) a b =
      let a_long = a.long in
      let b_long = b.long in
      record {
        frame = b.frame ∙ a.frame;
        cause = subst (λ (n : ℕ). HasCauseOf {T = S} {E = WriteStop} Fault n (faults_of new) (Ok s)) a.cause.done b.cause;
        long = omega (arith, a_long, b_long, size-append xs ys);
        fits = subst (λ (f : Frame U). length (image_of new) ≤ f.limit) a.frame b.fits;
        cut = tt;
        ends = tt;
      }
  writes_both {T = T} {S = S} size old mid new xs ys t (Err e) a b = record {
    frame = b.frame ∙ a.frame;
    cause = subst (λ (n : ℕ). HasCauseOf {T = S} {E = WriteStop} Fault n (faults_of new) (Err e)) a.cause.done b.cause;
    long = tt;
    fits = tt;
    cut = cut_last (frame_of old).limit size xs ys e (cut_same (ap (λ (f : Frame U). f.limit) a.frame) a.long refl e b.cut);
    ends = b.ends;
  }

  -- and then wrote over what is there
  pub writes_filled : {T S : Type 0} (size : ℕ) (old mid new : A) (bodies : List (List ℕ)) (t : T) (r : Result S WriteStop)
      → Writes image_of frame_of faults_of size old mid bodies (Ok t) → Writes image_of frame_of faults_of (length (image_of mid)) mid new [] r → Writes image_of frame_of faults_of size old new bodies r
  writes_filled size old mid new bodies t r a b =
      subst (λ (l : List (List ℕ)). Writes image_of frame_of faults_of size old new l r) (append-nil bodies) (writes_both size old mid new bodies [] t r a b)

  -- a call that stopped, and the ones behind it were not made
  pub writes_first : {T S : Type 0} (size : ℕ) (old new : A) (xs ys : List (List ℕ)) (e : WriteStop) → Writes {T = T} image_of frame_of faults_of size old new xs (Err e) → Writes {T = S} image_of frame_of faults_of size old new (xs ++ ys) (Err e)
  writes_first {T = T} {S = S} size old new xs ys e a = record {
    frame = a.frame;
    cause = record {
      later = a.cause.later;
      failed = λ h. let same : e ≡ Fault = cc h in a.cause.failed (λ i. Err (same i));
      done = tt;
      counted = λ lt. let h = a.cause.counted lt in let same : e ≡ Fault = cc h in λ i. Err (same i);
    };
    long = tt;
    fits = tt;
    cut = cut_first (frame_of old).limit size xs ys e a.cut;
    ends = a.ends;
  }

  -- no memory, before anything was written
  pub writes_none : {T : Type 0} (size : ℕ) (old : A) (bodies : List (List ℕ)) → Writes {T = T} image_of frame_of faults_of size old old bodies (Err NoMemory)
  writes_none size old bodies = record {
    frame = refl;
    cause = record { later = omega arith; failed = λ e. absurd (cc e); done = tt; counted = λ lt. absurd (omega (arith, lt)) };
    long = tt;
    fits = tt;
    cut = tt;
    ends = tt;
  }

  -- no memory, after all was written
  pub writes_short : {T S : Type 0} (size : ℕ) (old new : A) (bodies : List (List ℕ)) (t : T) → Writes {T = T} image_of frame_of faults_of size old new bodies (Ok t) → Writes {T = S} image_of frame_of faults_of size old new bodies (Err NoMemory)
  writes_short size old new bodies t a = record {
    frame = a.frame;
    cause = record { later = a.cause.later; failed = λ e. absurd (cc e); done = tt; counted = λ lt. let d = a.cause.done in absurd (omega (arith, lt, d)) };
    long = tt;
    fits = tt;
    cut = tt;
    ends = tt;
  }

  -- what a call that did all says of a result of another type
  pub writes_done : {T S : Type 0} (size : ℕ) (old new : A) (bodies : List (List ℕ)) (t : T) (s : S) → Writes {T = T} image_of frame_of faults_of size old new bodies (Ok t) → Writes {T = S} image_of frame_of faults_of size old new bodies (Ok s)
  writes_done size old new bodies t s a = record {
    frame = a.frame;
    cause = record { later = a.cause.later; failed = λ e. absurd (cc e); done = a.cause.done; counted = λ lt. let d = a.cause.done in absurd (omega (arith, lt, d)) };
    long = a.long;
    fits = a.fits;
    cut = tt;
    ends = tt;
  }

  -- nothing was to be written
  pub writes_nothing : {T : Type 0} (old : A) (t : T) → length (image_of old) ≤ (frame_of old).limit → Writes {T = T} image_of frame_of faults_of (length (image_of old)) old old [] (Ok t)
  writes_nothing old t fits = record {
    frame = refl;
    cause = record { later = omega arith; failed = λ e. absurd (cc e); done = refl; counted = λ lt. absurd (omega (arith, lt)) };
    long = omega arith;
    fits = fits;
    cut = tt;
    ends = tt;
  }

  -- a record passes the limit
  pub writes_past : {T : Type 0} (old : A) (body : List ℕ) (room eof need : ℕ) → eof ≡ length (image_of old) → length (image_of old) ≤ (frame_of old).limit → room ≡ (frame_of old).limit → room - eof < need → need ≡ 8 + length body
      → Writes {T = T} image_of frame_of faults_of (length (image_of old)) old old (body ∷ []) (Err (TooLarge eof need))
  writes_past old body room eof need at fits limit past long = record {
    frame = refl;
    cause = record { later = omega arith; failed = λ e. absurd (cc e); done = tt; counted = λ lt. absurd (omega (arith, lt)) };
    long = tt;
    fits = tt;
    cut = record { done = []; next = body; rest = []; are = refl; eof_is = omega (arith, at); need_is = omega (arith, long, whole_size body); within = omega (arith, at, fits); past = omega (arith, past, limit, at, fits) };
    ends = sym at;
  }

  -- an error that is handed on
  pub writes_handed : {S : Type 0} (size : ℕ) (old new : A) (bodies : List (List ℕ)) (r : Result S WriteStop) (e : WriteStop) → IsErrAnd r (λ d. d ≡ e) → Writes {T = S} image_of frame_of faults_of size old new bodies (Err e) → Writes image_of frame_of faults_of size old new bodies r
  writes_handed {S = S} size old new bodies (Ok x) e same a = absurd same
  writes_handed {S = S} size old new bodies (Err d) e same a = subst (λ (x : WriteStop). Writes {T = S} image_of frame_of faults_of size old new bodies (Err x)) (sym same) a

  -- what an error says of a result of another type
  pub writes_typed : {T S : Type 0} (size : ℕ) (old new : A) (bodies : List (List ℕ)) (e : WriteStop) → Writes {T = T} image_of frame_of faults_of size old new bodies (Err e) → Writes {T = S} image_of frame_of faults_of size old new bodies (Err e)
  writes_typed size old new bodies e a = record {
    frame = a.frame;
    cause = record {
      later = a.cause.later;
      failed = λ h. let same : e ≡ Fault = cc h in a.cause.failed (λ i. Err (same i));
      done = tt;
      counted = λ lt. let h = a.cause.counted lt in let same : e ≡ Fault = cc h in λ i. Err (same i);
    };
    long = tt;
    fits = tt;
    cut = a.cut;
    ends = a.ends;
  }

  -- a call that stopped after others that did all
  pub writes_after : {T S : Type 0} (size here : ℕ) (old mid new : A) (xs bodies : List (List ℕ)) (e : WriteStop) → frame_of mid ≡ frame_of old → faults_of mid ≡ faults_of old
      → Writes {T = T} image_of frame_of faults_of here mid new xs (Err e) → (CutAt (frame_of old).limit here xs e → CutAt (frame_of old).limit size bodies e) → Writes {T = S} image_of frame_of faults_of size old new bodies (Err e)
  writes_after {T = T} {S = S} size here old mid new xs bodies e same steady a cut =
      writes_typed {T = T} {S = S} size old new bodies e (record {
        frame = a.frame ∙ same;
        cause = subst (λ (n : ℕ). HasCauseOf {T = T} {E = WriteStop} Fault n (faults_of new) (Err e)) steady a.cause;
        long = tt;
        fits = tt;
        cut = cut (cut_same (ap (λ (f : Frame U). f.limit) same) refl refl e a.cut);
        ends = a.ends;
      })
