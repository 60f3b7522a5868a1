-- A changed page is compared to the file.
use Rattle.cdf_pages.proofs.Common.{Backed, Differs, Err, IfNone, IfOk, IfSome, IsSome, IsTrue, List, None, Ok, Option, Result, Shows, Some, TakesAtMost, [], ap, arith, byte_from, cases_Bool, cases_lt, cost_of_writing, drop, eq-eqb, eqb-true, false, get_or-drop, get_or-take, if◌then◌else◌, image_of, inl, inr, is_in, is_some, length, min, nat_eq, not, page_cost, pages_in, refl, slice_index, subst, suc, sym, take, take_all, true, ℕ, ◌%◌, ◌*◌, ◌+◌, ◌-◌, ◌/◌, ◌<◌, ◌∙◌, ◌∷◌, ◌≡◌, ◌≤◌, ◌⊎◌}
use Rattle.std.specs.Cmp.Lexicographic.{pointwise}
use Rattle.cdf_pages.proofs.Costs.{takes_then, write_cost_grows, write_cost_next}
use Rattle.cdf_pages.proofs.Filling.{false_not_true, takes_less}
use Rattle.cdf_pages.proofs.Images.{at_page, byte-image, image_same, length-image, load_shows, same_or_not}

pub if_ok_map : {T E : Type 0} (P Q : T → Type 0) (r : Result T E) → ((x : T) → P x → Q x) → IfOk r P → IfOk r Q
if_ok_map P Q (Ok x) f p = f x p
if_ok_map P Q (Err e) f p = tt

pub alike : (xs ys : List ℕ) → pointwise nat_eq xs ys ≡ true → xs ≡ ys
alike [] [] e = refl
alike [] (y ∷ ys) e = cc
alike (x ∷ xs) [] e = cc
alike (x ∷ xs) (y ∷ ys) e = elim (cases_Bool (nat_eq x y)) [
  | inl same ↦ (let rest = alike xs ys (rw same at e) in λ i. eqb-true x y same i ∷ rest i)
  | inr apart ↦ (let no : false ≡ true = rw apart at e in cc)
]

pub unlike : (xs ys : List ℕ) → length xs ≡ length ys → pointwise nat_eq xs ys ≡ false → (i : ℕ) × (i < length xs) × (slice_index ys i ≡ slice_index xs i → ⊥)
unlike [] [] size e = cc
unlike [] (y ∷ ys) size e = absurd (omega (arith, size))
unlike (x ∷ xs) [] size e = absurd (omega (arith, size))
unlike (x ∷ xs) (y ∷ ys) size e = elim (cases_Bool (nat_eq x y)) [
  | inl same ↦ (let rest = unlike xs ys (omega (arith, size)) (rw same at e) in let lt = rest.1 in (suc rest.0, omega (arith, lt), rest.2))
  | inr apart ↦ (0, omega arith, λ is. (let no = eq-eqb x y (sym is) in cc))
]

-- bytes that were read to a buffer of their length, as many as the file has there
module _ (file bytes out : List ℕ) (place count : ℕ) (size : length out ≡ length bytes) (all : count ≡ length bytes) (read : take count out ≡ take count (drop place file)) where
  out_is : out ≡ take (length bytes) (drop place file)
  out_is = sym (take_all count out (omega (arith, size, all))) ∙ read ∙ ap (λ n. take n (drop place file)) all

  pub same_bytes : count ≤ length file - place → pointwise nat_eq bytes out ≡ true → (length bytes ≤ length file - place) × (bytes ≡ take (length bytes) (drop place file))
  same_bytes low e = (omega (arith, low, all), alike bytes out e ∙ out_is)

  pub other_byte : pointwise nat_eq bytes out ≡ false → (i : ℕ) × (i < length bytes) × (slice_index file (place + i) ≡ slice_index bytes i → ⊥)
  other_byte e =
      let at = unlike bytes out (sym size) e in
      (at.0, at.1, λ is. at.2 (ap (λ (l : List ℕ). slice_index l at.0) out_is ∙ get_or-take (length bytes) (drop place file) at.0 0 at.1 ∙ get_or-drop place file at.0 0 ∙ is))

-- a page that reaches past the end of the file differs
pub beyond : (p : ℕ → Option (List ℕ)) (file : List ℕ) (n k live : ℕ) → live ≡ min 65536 (n - k * 65536) → k * 65536 < n → length file < k * 65536 + live → Differs file (image_of p file n) k
beyond p file n k live is inside short = record {
  at = k * 65536 + (live - 1);
  here = omega (arith, is, inside);
  inside = omega (arith, is, inside, length-image p file n);
  other = λ lt e. omega (arith, lt, is, inside, short);
}

module _ (p : ℕ → Option (List ℕ)) (file page bytes : List ℕ) (n k live : ℕ) (is : live ≡ min 65536 (n - k * 65536)) (there : p k ≡ Some page) (whole : length page ≡ 65536) (front : bytes ≡ take live page) (size : length bytes ≡ live) where
  pub shows_file : bytes ≡ take (length bytes) (drop (k * 65536) file) → Shows file n k page
  shows_file e = load_shows file page k n live is whole (sym front ∙ e ∙ ap (λ m. take m (drop (k * 65536) file)) size)

  pub differs_there : k * 65536 < n → (length file - k * 65536 < length bytes) ⊎ ((i : ℕ) × (i < length bytes) × (slice_index file (k * 65536 + i) ≡ slice_index bytes i → ⊥)) → Differs file (image_of p file n) k
  differs_there inside (inl short) = beyond p file n k live is inside (omega (arith, short, size))
  differs_there inside (inr at) =
      let lt = at.1 in
      let low : at.0 < live = omega (arith, lt, size) in
      let here : (k * 65536 + at.0) / 65536 ≡ k = omega (arith, low, is) in
      let rest : (k * 65536 + at.0) % 65536 ≡ at.0 = omega (arith, low, is) in
      record {
        at = k * 65536 + at.0;
        here = here;
        inside = omega (arith, low, is, length-image p file n);
        other = λ within e. at.2 (e ∙ byte-image p file n (k * 65536 + at.0) 0 (omega (arith, low, is)) ∙ at_page p file page (k * 65536 + at.0) k here there ∙ ap (slice_index page) rest
            ∙ sym (ap (λ (l : List ℕ). slice_index l at.0) front ∙ get_or-take live page at.0 0 low));
      }

-- a page whose bytes the file has may be forgotten
pub dropped_same : (p p' : ℕ → Option (List ℕ)) (file page : List ℕ) (n k : ℕ) → p k ≡ Some page → p' k ≡ None → ((q : ℕ) → (q ≡ k → ⊥) → p' q ≡ p q) → Shows file n k page → image_of p' file n ≡ image_of p file n
dropped_same p p' file page n k there gone others shows = image_same p' p file file n (λ i lt. elim (same_or_not (i / 65536) k) [
  | inl here ↦
      (let spot : k * 65536 + i % 65536 ≡ i = omega (arith, here) in
      let shown = shows (i % 65536) (omega arith) (omega (arith, spot, lt)) in
      ap (λ q. byte_from (p' q) file i) here ∙ ap (λ o. byte_from o file i) gone ∙ sym (shown ∙ ap (slice_index file) spot) ∙ sym (at_page p file page i k here there))
  | inr other ↦ ap (λ o. byte_from o file i) (others (i / 65536) other)
])

pub dropped_backed : (p p' : ℕ → Option (List ℕ)) (long n k : ℕ) → ((q : ℕ) → (q ≡ k → ⊥) → p' q ≡ p q) → ((j : ℕ) → j < 65536 → k * 65536 + j < n → k * 65536 + j < long) → Backed p long n → Backed p' long n
dropped_backed p p' long n k others whole b i lt e = elim (same_or_not (i / 65536) k) [
  | inl here ↦
      (let spot : k * 65536 + i % 65536 ≡ i = omega (arith, here) in
      let low = whole (i % 65536) (omega arith) (omega (arith, spot, lt)) in
      omega (arith, spot, low))
  | inr other ↦ b i lt (sym (others (i / 65536) other) ∙ e)
]

-- ---- one page after another, where this one is the next

-- a page is still to be compared
abbrev pub Remains : Option ℕ → ℕ → Type 0
Remains None q = ⊥
Remains (Some k) q = k ≤ q

-- up to which page of so many all were compared
abbrev pub compared_upto : Option ℕ → ℕ → ℕ
compared_upto None pages = pages
compared_upto (Some k) pages = min k pages

-- how many numbers are left
abbrev pub numbers_left : Option ℕ → ℕ
numbers_left None = 0
numbers_left (Some k) = 18446744073709551616 - k

-- a changed page behind one is the next one, or behind it
remains_next : (p : ℕ → Option (List ℕ)) (k : ℕ) (next : Option ℕ) → IfSome next (λ m. (q : ℕ) → k < q → q < m → p q ≡ None) → IfNone next ((q : ℕ) → k < q → p q ≡ None)
    → (q : ℕ) → k < q → IsTrue (is_in p q) → Remains next q
remains_next p k None least none q lt is = absurd (false_not_true (sym (ap is_some (none q lt)) ∙ is))
remains_next p k (Some m) least none q lt is = elim (cases_lt q m) [
  | inl before ↦ absurd (false_not_true (sym (ap is_some (least q lt before)) ∙ is))
  | inr from_ ↦ from_
]

pub differs_next : (p p' : ℕ → Option (List ℕ)) (file image : List ℕ) (k : ℕ) (at next : Option ℕ) → at ≡ Some k → ((q : ℕ) → IsTrue (is_in p q) → Remains at q ⊎ Differs file image q)
    → ((q : ℕ) → (q ≡ k → ⊥) → p' q ≡ p q) → (IsSome (p' k) → Differs file image k)
    → IfSome next (λ m. (q : ℕ) → k < q → q < m → p' q ≡ None) → IfNone next ((q : ℕ) → k < q → p' q ≡ None) → (q : ℕ) → IsTrue (is_in p' q) → Remains next q ⊎ Differs file image q
differs_next p p' file image k at next is before others now least none q there = elim (same_or_not q k) [
  | inl here ↦ inr (subst (λ (m : ℕ). Differs file image m) (sym here) (now (subst (λ (m : ℕ). IsTrue (is_in p' m)) here there)))
  | inr other ↦ elim (cases_lt k q) [
    | inl behind ↦ inl (remains_next p' k next least none q behind there)
    | inr first ↦ elim (before q (sym (ap is_some (others q other)) ∙ there)) [
      | inl left ↦ (let after : k ≤ q = subst (λ o. Remains o q) is left in absurd (other (omega (arith, after, first))))
      | inr differs ↦ inr differs
    ]
  ]
]

-- what one page more costs, whether or not it lies in the image
pub compared_cost : (p : ℕ → Option (List ℕ)) (a b c : Option ℕ) (long n k upto : ℕ) (at : Option ℕ) → at ≡ Some k → IsTrue (is_in p k) → min (k + 1) (pages_in 0 n) ≤ upto
    → TakesAtMost a b (cost_of_writing (λ q. not (is_in p q)) [] long 0 (compared_upto at (pages_in 0 n))) → TakesAtMost b c (min 65536 (long - k * 65536)) → (n ≤ k * 65536 → c ≡ b)
    → TakesAtMost a c (cost_of_writing (λ q. not (is_in p q)) [] long 0 upto)
compared_cost p a b c long n k upto at is there le before now past =
    let cost : ℕ → ℕ = cost_of_writing (λ q. not (is_in p q)) [] long 0 in
    let first : TakesAtMost a b (cost (min k (pages_in 0 n))) = subst (λ o. TakesAtMost a b (cost_of_writing (λ q. not (is_in p q)) [] long 0 (compared_upto o (pages_in 0 n)))) is before in
    elim (cases_lt (k * 65536) n) [
      | inl inside ↦
          (let least : min k (pages_in 0 n) ≡ k = omega (arith, inside) in
          let same = ap (cost_of_writing (λ q. not (is_in p q)) [] long 0) least in
          let price : page_cost (λ q. not (is_in p q)) [] long (0 + k) ≡ min 65536 (long - k * 65536) =
          ap (page_cost (λ q. not (is_in p q)) [] long) (omega arith) ∙ ap (λ b. if not b then 0 else min 65536 (long - k * 65536)) there in
          let step = write_cost_next (λ q. not (is_in p q)) [] long 0 k in
          let all = write_cost_grows (λ q. not (is_in p q)) [] long 0 (suc k) upto (omega (arith, le, inside)) in
          takes_less a c _ _ (takes_then a b c _ _ first now) (omega (arith, same, price, step, all)))
      | inr after ↦ subst (λ o. TakesAtMost a o (cost_of_writing (λ q. not (is_in p q)) [] long 0 upto)) (sym (past after))
          (takes_less a b _ _ first (write_cost_grows (λ q. not (is_in p q)) [] long 0 (min k (pages_in 0 n)) upto (omega (arith, le))))
    ]

-- all pages of the image are compared at most
pub upto_next : (k pages : ℕ) (next : Option ℕ) → IfSome next (λ m. k < m) → min (k + 1) pages ≤ compared_upto next pages
upto_next k pages None behind = omega arith
upto_next k pages (Some m) behind = omega (arith, behind)
