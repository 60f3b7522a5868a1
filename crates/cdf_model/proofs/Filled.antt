-- A list that is written anew part by part, from the front.
use Rattle.std.proofs.Common.{◌≡◌, ℕ, zero, suc, ◌+◌, ◌-◌, ◌*◌, List, ◌++◌, length, drop, sym, ap, ap₂, ◌∙◌, append_assoc, length-append, add-one, arith}
use Rattle.std.proofs.lemmas.List.{append-nil, take_at, drop_at, drop-drop}
use Rattle.std.specs.List.{repeat}
use borrow.Rule.Slice.PartMut.{put_mid}

-- behind what is done, the next part is written
pub filled_more : (at end k : ℕ) (done old ys : List ℕ) → length done ≡ at → end ≡ at + k → put_mid at (end - at) (done ++ drop at old) ys ≡ (done ++ ys) ++ drop end old
filled_more at end k done old ys size e =
    let kept : drop (end - at) (drop at (done ++ drop at old)) ≡ drop end old =
    ap (drop (end - at)) (drop_at done (drop at old) at size) ∙ drop-drop (end - at) at old ∙ ap (λ n. drop n old) (omega arith) in
    ap₂ (λ a b. a ++ (ys ++ b)) (take_at done (drop at old) at size) kept ∙ sym (append_assoc done ys (drop end old))

repeat_suc : (n : ℕ) (xs : List ℕ) → repeat (suc n) xs ≡ repeat n xs ++ xs
repeat_suc zero xs = append-nil xs
repeat_suc (suc n) xs = ap (λ l. xs ++ l) (repeat_suc n xs) ∙ sym (append_assoc xs (repeat n xs) xs)

pub repeat_more : (n : ℕ) (xs : List ℕ) → repeat (n + 1) xs ≡ repeat n xs ++ xs
repeat_more n xs = rw add-one (repeat_suc n xs)

pub length-repeat : (n : ℕ) (xs : List ℕ) → length (repeat n xs) ≡ n * length xs
length-repeat zero xs = omega arith
length-repeat (suc n) xs = length-append xs (repeat n xs) ∙ (let e = length-repeat n xs in omega arith)
