-- A part of a buffer is filled.
use Rattle.cdf_pages.proofs.Common.{Counts, Err, List, None, Ok, OnErr, Option, ReadsAt, ReadsPiece, Result, Some, TakesAtMost, ap, ap₂, arith, cases_lt, drop, false, file_in, inl, inr, is_some, length, length-take-le, min, refl, rules, subst, sym, take, take-append-le, true, ℕ, ◌*◌, ◌++◌, ◌+◌, ◌-◌, ◌<◌, ◌∙◌, ◌≡◌, ◌≤◌}
use borrow.Rule.Slice.PartMut.{put_mid, post_of}
use lib.Seq.{take-append-add, take-add}
use Rattle.std.specs.Prelude.{OnOk}

pub filled : (out ys src : List ℕ) (done n k : ℕ) → done ≤ length out → n ≤ length ys → take done out ≡ take done src → take n ys ≡ take n (drop done src)
    → take (done + n) (put_mid done k out ys) ≡ take (done + n) src
filled out ys src done n k room fits before now =
    let front = take done out in
    let tail = post_of done k out in
    let long : length front ≡ done = length-take-le done out room in
    ap (λ m. take (m + n) (front ++ (ys ++ tail))) (sym long) ∙ take-append-add front (ys ++ tail) n
    ∙ ap₂ (λ (u v : List ℕ). u ++ v) before (take-append-le n ys tail fits ∙ now) ∙ sym (take-add done n src)

pub takes_more : (E : Type 0) (a b c : Option ℕ) (m n : ℕ) → TakesAtMost a b m → Counts {E = E} b c (Ok n) → TakesAtMost a c (m + n)
takes_more E None b c m n h k = tt
takes_more E (Some t) None c m n h k = absurd h
takes_more E (Some t) (Some u) c m n h k = subst (λ o. TakesAtMost (Some t) o (m + n)) (sym k) (omega (arith, h))

pub reads_piece : (E : Type 0) (h : Option (List ℕ)) (place : ℕ) (out : List ℕ) (n : ℕ) → 0 < length (file_in h) → ReadsAt {E = E} h place out (Ok n) → ReadsPiece (file_in h) place out n
reads_piece E None place out n some r = absurd (omega (arith, some))
reads_piece E (Some bytes) place out n some r = r

pub takes_less : (a b : Option ℕ) (m n : ℕ) → TakesAtMost a b m → m ≤ n → TakesAtMost a b n
takes_less None b m n h le = tt
takes_less (Some t) None m n h le = absurd h
takes_less (Some t) (Some u) m n h le = omega (arith, h, le)

pub backed_live : (size k long m : ℕ) → ((j : ℕ) → j < 65536 → k * 65536 + j < size → k * 65536 + j < long) → m ≡ min 65536 (size - k * 65536) → 0 < m → k * 65536 + m ≤ long
backed_live size k long m h e some =
    let last : k * 65536 + (m - 1) < long = h (m - 1) (omega (arith, e)) (omega (arith, e, some)) in omega (arith, last, some)

-- some bytes of a page lie in the file
pub backed_part : (size k off long m : ℕ) → ((j : ℕ) → j < 65536 → k * 65536 + j < size → k * 65536 + j < long) → 0 < m → off + m ≤ 65536 → k * 65536 + off + m ≤ size → k * 65536 + off + m ≤ long
backed_part size k off long m h some room inside =
    let last : k * 65536 + (off + m - 1) < long = h (off + m - 1) (omega arith) (omega arith) in omega (arith, last, some)

pub takes_live : (a b : Option ℕ) (size k long m : ℕ) → ((j : ℕ) → j < 65536 → k * 65536 + j < size → k * 65536 + j < long) → m ≡ min 65536 (size - k * 65536)
    → TakesAtMost a b m → TakesAtMost a b (min 65536 (long - k * 65536))
takes_live a b size k long m h e t = elim (cases_lt 0 m) [
  | inl some ↦ takes_less a b m _ t (omega (arith, backed_live size k long m h e some, e))
  | inr none ↦ takes_less a b m _ t (omega (arith, none))
]

pub true_not_false : true ≡ false → ⊥
true_not_false e = search rules

pub none_is : {X : Type 0} (o : Option X) → is_some o ≡ false → o ≡ None
none_is None e = refl
none_is (Some x) e = absurd (true_not_false e)

pub false_not_true : false ≡ true → ⊥
false_not_true e = true_not_false (sym e)

pub on_err : {T E P : Type 0} (r : Result T E) → P → OnErr r P
on_err (Ok x) p = tt
on_err (Err e) p = p

pub on_ok_map : {T E P Q : Type 0} (r : Result T E) → (P → Q) → OnOk r P → OnOk r Q
on_ok_map (Ok x) f p = f p
on_ok_map (Err e) f p = tt
