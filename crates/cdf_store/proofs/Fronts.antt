-- Texts that are written in parts.
use Rattle.std.proofs.Common.{◌≡◌, ℕ, ◌+◌, ◌-◌, List, [], ◌++◌, append_assoc, append-nil, length, take, drop, Option, Result, Ok, Err, refl, sym, ◌∙◌, ap, subst, arith}
use Rattle.std.proofs.lemmas.List.{take-append-drop, take_all, length-drop}
use Rattle.std.proofs.Math.Seq.{take-add}
use Rattle.std.proofs.KnownBytes.{Appends-nil, Appends-trans}
use Rattle.std.specs.Prelude.{OnErr}
use Rattle.std.specs.Io.KnownBytes.{Appends}
use Rattle.cdf_store.specs.Written.{IsFront, AppendsFront}

-- the rest of a text from a place on, as a slice has it
pub rest_of : (text : List ℕ) (done : ℕ) → take (length text - done) (drop done text) ≡ drop done text
rest_of text done = take_all (length text - done) (drop done text) (omega (arith, length-drop done text))

-- one more part of a text is written
pub written_more : (a b c : Option (List ℕ)) (text : List ℕ) (done n : ℕ) → Appends a b (take done text) → Appends b c (take n (drop done text)) → Appends a c (take (done + n) text)
written_more a b c text done n before now = subst (λ (l : List ℕ). Appends a c l) (sym (take-add done n text)) (Appends-trans a b c (take done text) (take n (drop done text)) before now)

pub IsFront-refl : (text : List ℕ) → IsFront text text
IsFront-refl text = ([], append-nil text)

pub IsFront-trans : (a b c : List ℕ) → IsFront a b → IsFront b c → IsFront a c
IsFront-trans a b c (more, is_b) (rest, is_c) =
    (more ++ rest, sym (append_assoc a more rest) ∙ ap (λ (l : List ℕ). l ++ rest) is_b ∙ is_c)

-- what was written of a text is a part from its front
pub front_of : (a b : Option (List ℕ)) (text : List ℕ) (done : ℕ) → Appends a b (take done text) → AppendsFront a b text
front_of a b text done so_far = (take done text, (drop done text, take-append-drop done text), so_far)

-- nothing written is a part
pub front_none : (a : Option (List ℕ)) (text : List ℕ) → AppendsFront a a text
front_none a text = ([], (text, refl), Appends-nil a)

-- a part of what is written after another text is a part of the two
pub front_after : (a b c : Option (List ℕ)) (first second : List ℕ) → Appends a b first → AppendsFront b c second → AppendsFront a c (first ++ second)
front_after a b c first second before (part, (rest, is), now) =
    (first ++ part, (rest, append_assoc first part rest ∙ ap (λ (l : List ℕ). first ++ l) is), Appends-trans a b c first part before now)

-- a part of a text is a part of every longer one
pub front_longer : (a b : Option (List ℕ)) (text longer : List ℕ) → IsFront text longer → AppendsFront a b text → AppendsFront a b longer
front_longer a b text longer longer-is (part, is, now) = (part, IsFront-trans part text longer is longer-is, now)

-- what holds anyway holds after an error
pub on_err : {T E P : Type 0} (r : Result T E) → P → OnErr r P
on_err (Ok x) p = tt
on_err (Err e) p = p
