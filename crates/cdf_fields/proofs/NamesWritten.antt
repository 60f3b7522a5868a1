-- A name that was written is read as it was.
use Rattle.std.proofs.Common.{◌≡◌, ◌≢◌, ◌⊎◌, ℕ, zero, suc, ◌+◌, ◌-◌, ◌≤◌, false, List, [], ◌∷◌, ◌++◌, length, take, drop, replicate, refl, ◌∙◌, ap, arith, length-append}
use Rattle.std.proofs.Math.Seq.{take-append_seam}
use Rattle.std.proofs.lemmas.Bool.Decides.{nat_tests}
use Rattle.std.proofs.lemmas.List.{take_at, drop-replicate, length-replicate}
use Rattle.std.proofs.lemmas.List.Elements.{All-head, All-tail}
use Rattle.std.specs.Prelude.{◌==◌}
use Rattle.std.specs.List.{All, before_first, position_or_len}
use Rattle.cdf_format.specs.Fields.{LiesIn, name_in, with_name, word}
use Rattle.cdf_format.specs.Records.{Field}
use Rattle.cdf_fields.proofs.Writes.{drop-put_there, word-put_outside}

-- a name over the front of bytes 0
pub padded_is : (xs name : List ℕ) → xs ≡ name → xs ++ drop (length name) (replicate 256 0) ≡ name ++ replicate (256 - length name) 0
padded_is xs name is = ap (λ (l : List ℕ). l ++ drop (length name) (replicate 256 0)) is ∙ ap (λ (l : List ℕ). name ++ l) (drop-replicate {X = ℕ} (length name) 256 0)

not_zero : (x : ℕ) → x ≢ 0 → (x == 0) ≡ false
not_zero x other = grind (arith, nat_tests)

stops : (name : List ℕ) (k : ℕ) → All (λ (byte : ℕ). byte ≢ 0) name → position_or_len (λ (byte : ℕ). byte == 0) (name ++ replicate k 0) ≡ length name
stops [] zero all = refl
stops [] (suc k) all = refl
stops (x ∷ name) k all =
    let here = not_zero x (All-head (λ (byte : ℕ). byte ≢ 0) x name all) in
    let rest = stops name k (All-tail (λ (byte : ℕ). byte ≢ 0) x name all) in
    rw (here, rest) (omega arith)

pub before_zeros : (name : List ℕ) (k : ℕ) → All (λ (byte : ℕ). byte ≢ 0) name → before_first (λ (byte : ℕ). byte == 0) (name ++ replicate k 0) ≡ name
before_zeros name k all = ap (λ (n : ℕ). take n (name ++ replicate k 0)) (stops name k all) ∙ take-append_seam name (replicate k 0)

pub name_reads : (b : List ℕ) (place : ℕ) (f : Field) (name : List ℕ) → LiesIn b place f → length name ≤ f.width → All (λ (byte : ℕ). byte ≢ 0) name → name_in (with_name b place f name) place f ≡ name
unfolding with_name
name_reads b place f name lies fits all =
    let xs = name ++ replicate (f.width - length name) 0 in
    let there = place + f.place in
    let long : length xs ≡ f.width = omega (arith, length-append name (replicate (f.width - length name) 0), length-replicate {A = ℕ} (f.width - length name) 0) in
    let whole : take f.width (drop there (with_name b place f name)) ≡ xs = ap (take f.width) (drop-put_there b xs there (omega arith)) ∙ take_at xs (drop (there + length xs) b) f.width long in
    ap (λ (l : List ℕ). before_first (λ (byte : ℕ). byte == 0) l) whole ∙ before_zeros name (f.width - length name) all

pub words_beside : (b : List ℕ) (place : ℕ) (f : Field) (name : List ℕ) (other n : ℕ) → LiesIn b place f → length name ≤ f.width → (other + n ≤ place + f.place) ⊎ (place + f.place + f.width ≤ other) → word (with_name b place f name) other n ≡ word b other n
unfolding with_name
words_beside b place f name other n lies fits apart =
    let xs = name ++ replicate (f.width - length name) 0 in
    let long : length xs ≡ f.width = omega (arith, length-append name (replicate (f.width - length name) 0), length-replicate {A = ℕ} (f.width - length name) 0) in
    word-put_outside b xs (place + f.place) other n (rw long lies) (rw long apart)
