-- What was read so far, with the next piece after it.
use Rattle.std.proofs.Common.{◌≡◌, ℕ, ◌+◌, ◌-◌, ◌≤◌, List, ◌++◌, length, length-take, take, drop, Result, Ok, Err, OnOk, sym, ap, ◌∙◌, arith}
use Rattle.std.proofs.lemmas.List.{drop-take, take-take}
use Rattle.std.proofs.Math.Seq.{take-add}

pub take_more : (place n : ℕ) (b : List ℕ) → take place b ++ take n (drop place b) ≡ take (place + n) b
take_more place n b = sym (take-add place n b)

-- a piece of the front of some bytes
pub front_piece : (b : List ℕ) (size place n : ℕ) → place + n ≤ length (take size b) → take n (drop place (take size b)) ≡ take n (drop place b)
front_piece b size place n fits =
    let within : place + n ≤ size = omega (arith, fits, length-take size b) in
    let whole : place + (size - place) ≡ size = omega arith in
    ap (λ (k : ℕ). take n (drop place (take k b))) (sym whole) ∙ ap (take n) (drop-take place (size - place) b) ∙ take-take n (size - place) (drop place b) (omega arith)

pub front_read : {T E : Type 0} (result : Result T E) (b out : List ℕ) (size place n : ℕ) → length out ≡ n → place + n ≤ length (take size b) → OnOk result (out ≡ take (length out) (drop place b)) → OnOk result (out ≡ take (length out) (drop place (take size b)))
front_read (Ok value) b out size place n long fits is = is ∙ sym (front_piece b size place (length out) (omega arith))
front_read (Err error) b out size place n long fits is = tt
