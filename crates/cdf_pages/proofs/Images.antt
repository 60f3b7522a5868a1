-- Images in pages.
use Rattle.cdf_pages.proofs.Common.{Bool, List, None, Option, Serves, Shows, Some, [], ap, ap₂, arith, byte-put_after, byte-put_before, byte-put_inside, byte_from, byte_of, cases_lt, drop, drop_all, get_or, get_or-drop, get_or-take, get_or_default, image_of, inl, inr, is_some, length, length-drop, length-put, length-replicate, length-take-le, listed, min, put, put_more, refl, replicate, replicate-append-replicate, same_lists, slice_index, suc, sym, take, take-append-drop, take_at, zero, ℕ, ◌%◌, ◌*◌, ◌++◌, ◌+◌, ◌-◌, ◌/◌, ◌<◌, ◌∙◌, ◌∷◌, ◌≡◌, ◌≤◌, ◌⊎◌}
use Rattle.std.proofs.lemmas.List.{append-nil}
use lib.Seq.{take-add}
use Rattle.cdf_pages.proofs.Filling.{false_not_true}

pub length-listed : (f : ℕ → ℕ) (i n : ℕ) → length (listed f i n) ≡ n
unfolding listed
length-listed f i zero = refl
length-listed f i (suc n) = ap suc (length-listed f (suc i) n)

pub get_or-listed : (f : ℕ → ℕ) (i n j d : ℕ) → j < n → get_or (listed f i n) j d ≡ f (i + j)
unfolding listed
get_or-listed f i zero j d h = absurd (omega (arith, h))
get_or-listed f i (suc n) zero d h = ap f (omega arith)
get_or-listed f i (suc n) (suc j) d h = get_or-listed f (suc i) n j d (omega (arith, h)) ∙ ap f (omega arith)

pub length-image : (p : ℕ → Option (List ℕ)) (file : List ℕ) (n : ℕ) → length (image_of p file n) ≡ n
unfolding image_of
length-image p file n = length-listed (byte_of p file) 0 n

pub byte-image : (p : ℕ → Option (List ℕ)) (file : List ℕ) (n i d : ℕ) → i < n → get_or (image_of p file n) i d ≡ byte_of p file i
unfolding image_of
byte-image p file n i d h = get_or-listed (byte_of p file) 0 n i d h ∙ ap (byte_of p file) (omega arith)

pub image_same : (p p' : ℕ → Option (List ℕ)) (file file' : List ℕ) (n : ℕ) → ((i : ℕ) → i < n → byte_of p file i ≡ byte_of p' file' i) → image_of p file n ≡ image_of p' file' n
image_same p p' file file' n h =
    same_lists _ _ (length-image p file n ∙ sym (length-image p' file' n)) (λ i d lt.
    let low : i < n = omega (arith, lt, length-image p file n) in byte-image p file n i d low ∙ h i low ∙ sym (byte-image p' file' n i d low))

-- the same pages, the same image
pub image_pages : (p p' : ℕ → Option (List ℕ)) (file : List ℕ) (n : ℕ) → ((q : ℕ) → p' q ≡ p q) → image_of p' file n ≡ image_of p file n
image_pages p p' file n h = image_same p' p file file n (λ i lt. ap (λ o. byte_from o file i) (h (i / 65536)))

-- a part of two lists that have the same bytes there
pub window : (b c : List ℕ) (place off m : ℕ) → place + m ≤ length b → off + m ≤ length c → ((j : ℕ) → j < m → slice_index b (place + j) ≡ slice_index c (off + j)) → take m (drop place b) ≡ take m (drop off c)
window b c place off m inb inc h =
    let lb : length (take m (drop place b)) ≡ m = length-take-le m (drop place b) (omega (arith, length-drop place b)) in
    let lc : length (take m (drop off c)) ≡ m = length-take-le m (drop off c) (omega (arith, length-drop off c)) in
    same_lists _ _ (lb ∙ sym lc) (λ j d lt.
    let low : j < m = omega (arith, lt, lb) in
    get_or-take m (drop place b) j d low ∙ get_or-drop place b j d ∙ get_or_default b (place + j) d 0 (omega (arith, low, inb))
    ∙ h j low ∙ get_or_default c (off + j) 0 d (omega (arith, low, inc)) ∙ sym (get_or-drop off c j d) ∙ sym (get_or-take m (drop off c) j d low))

pub same_or_not : (a b : ℕ) → (a ≡ b) ⊎ (a ≡ b → ⊥)
same_or_not a b = elim (cases_lt a b) [
  | inl less ↦ inr (λ e. omega arith)
  | inr more ↦ elim (cases_lt b a) [ inl less ↦ inr (λ e. omega arith) | inr other ↦ inl (omega arith) ]
]

pub some_of : {X : Type 0} (o : Option X) → (o ≡ None → ⊥) → (x : X) × (o ≡ Some x)
some_of None h = absurd (h refl)
some_of (Some x) h = (x, refl)

pub put_none : (b : List ℕ) (place : ℕ) → put b place [] ≡ b
unfolding put
put_none b place = ap (λ n. take place b ++ drop n b) (omega arith) ∙ take-append-drop place b

pub at_page : (p : ℕ → Option (List ℕ)) (file page : List ℕ) (i k : ℕ) → i / 65536 ≡ k → p k ≡ Some page → byte_of p file i ≡ slice_index page (i % 65536)
at_page p file page i k e s = ap (λ q. byte_from (p q) file i) e ∙ ap (λ o. byte_from o file i) s

module _ (p p' : ℕ → Option (List ℕ)) (file xs page : List ℕ) (n k off : ℕ) (there : p k ≡ Some page) (long : length page ≡ 65536) (room : off + length xs ≤ 65536)
    (inside : k * 65536 + off + length xs ≤ n) (now : p' k ≡ Some (put page off xs)) (others : (q : ℕ) → (q ≡ k → ⊥) → p' q ≡ p q) where
  -- a byte that is not written
  apart : (i : ℕ) → (i < k * 65536 + off) ⊎ (k * 65536 + off + length xs ≤ i) → (i / 65536 ≡ k) ⊎ (i / 65536 ≡ k → ⊥) → byte_of p' file i ≡ byte_of p file i
  apart i (inl before) (inl here) = at_page p' file (put page off xs) i k here now ∙ byte-put_before page off xs (i % 65536) (omega arith) (omega arith) ∙ sym (at_page p file page i k here there)
  apart i (inr after) (inl here) = at_page p' file (put page off xs) i k here now ∙ byte-put_after page off xs (i % 65536) (omega arith) (omega arith) ∙ sym (at_page p file page i k here there)
  apart i where_ (inr else) = ap (λ o. byte_from o file i) (others (i / 65536) else)

  written_at : (t : ℕ) → t < length xs → byte_of p' file (k * 65536 + off + t) ≡ slice_index xs t
  written_at t lt =
      let here : (k * 65536 + off + t) / 65536 ≡ k = omega arith in
      let rest : (k * 65536 + off + t) % 65536 ≡ off + t = omega arith in
      at_page p' file (put page off xs) (k * 65536 + off + t) k here now ∙ ap (slice_index (put page off xs)) rest ∙ byte-put_inside page off xs t (omega arith) lt

  pub image_write : image_of p' file n ≡ put (image_of p file n) (k * 65536 + off) xs
  image_write =
      let image = image_of p file n in
      let size : length image ≡ n = length-image p file n in
      let place = k * 65536 + off in
      let out = length-put image place xs (omega (arith, size)) in
      same_lists _ _ (length-image p' file n ∙ sym size ∙ sym out) (λ i d lt.
      let low : i < n = omega (arith, lt, length-image p' file n) in
      let read : slice_index image i ≡ byte_of p file i = byte-image p file n i 0 low in
      let same : slice_index (put image place xs) i ≡ byte_of p' file i = elim (cases_lt i place) [
        | inl before ↦ byte-put_before image place xs i (omega (arith, size)) before ∙ read ∙ sym (apart i (inl before) (same_or_not (i / 65536) k))
        | inr from_ ↦ elim (cases_lt i (place + length xs)) [
          | inl within ↦ (let e : place + (i - place) ≡ i = omega arith in
              ap (slice_index (put image place xs)) (sym e) ∙ byte-put_inside image place xs (i - place) (omega (arith, size)) (omega arith)
              ∙ sym (written_at (i - place) (omega arith)) ∙ ap (byte_of p' file) e)
          | inr after ↦ byte-put_after image place xs i (omega (arith, size)) after ∙ read ∙ sym (apart i (inr after) (same_or_not (i / 65536) k))
        ]
      ] in
      byte-image p' file n i d low ∙ sym same ∙ get_or_default (put image place xs) i 0 d (omega (arith, low, out, size)))

-- a write in parts goes on with one page
pub write_step : (p p' : ℕ → Option (List ℕ)) (file first bs xs page : List ℕ) (n place done m k off : ℕ) → p k ≡ Some page → length page ≡ 65536 → off + m ≤ 65536 → k * 65536 + off ≡ place + done
    → place + length bs ≤ n → done + m ≤ length bs → xs ≡ take m (drop done bs) → p' k ≡ Some (put page off xs) → ((q : ℕ) → (q ≡ k → ⊥) → p' q ≡ p q)
    → length first ≡ n → image_of p file n ≡ put first place (take done bs) → image_of p' file n ≡ put first place (take (done + m) bs)
write_step p p' file first bs xs page n place done m k off there long room at inside part is now others size so_far =
    let count : length xs ≡ m = ap length is ∙ length-take-le m (drop done bs) (omega (arith, length-drop done bs)) in
    let front : length (take done bs) ≡ done = length-take-le done bs (omega arith) in
    image_write p p' file xs page n k off there long (omega (arith, count)) (omega (arith, count, at)) now others
    ∙ ap₂ (λ l i. put l i xs) so_far at
    ∙ ap (λ d. put (put first place (take done bs)) (place + d) xs) (sym front)
    ∙ put_more first (take done bs) xs place (omega (arith, front, count, size))
    ∙ ap (put first place) (ap (λ (l : List ℕ). take done bs ++ l) is ∙ sym (take-add done m bs))

-- no page is lost by a write
pub less_step : (p p' : ℕ → Option (List ℕ)) (k : ℕ) (page : List ℕ) → p' k ≡ Some page → ((q : ℕ) → (q ≡ k → ⊥) → p' q ≡ p q) → (q : ℕ) → p' q ≡ None → p q ≡ None
less_step p p' k page now others q e = elim (same_or_not q k) [
  | inl same ↦ absurd (false_not_true (ap is_some (sym e ∙ ap p' same ∙ now)))
  | inr else ↦ sym (others q else) ∙ e
]

pub image_size : (p : ℕ → Option (List ℕ)) (file : List ℕ) (n : ℕ) → length (image_of p file n) ≡ n
image_size p file n = length-image p file n

pub put_empty : (b : List ℕ) (place : ℕ) (xs : List ℕ) → length xs ≡ 0 → put b place xs ≡ b
put_empty b place [] e = put_none b place
put_empty b place (x ∷ xs) e = absurd (omega (arith, e))

abbrev the_zero : ℕ
the_zero = 0

abbrev pub zeros : ℕ → List ℕ
zeros n = replicate n 0

pub take_zeros : (m n : ℕ) → m ≤ n → take m (zeros n) ≡ zeros m
take_zeros m n h =
    let rest : m + (n - m) ≡ n = omega arith in
    ap (λ k. take m (zeros k)) (sym rest) ∙ ap (take m) (sym (replicate-append-replicate m (n - m) 0)) ∙ take_at (zeros m) (zeros (n - m)) m (length-replicate m 0)

-- zeros go on
pub zeros_more : (first : List ℕ) (place done m : ℕ) → place + done + m ≤ length first → put (put first place (zeros done)) (place + done) (zeros m) ≡ put first place (zeros (done + m))
zeros_more first place done m h =
    let long : length (zeros done) ≡ done = length-replicate done 0 in
    let more : length (zeros m) ≡ m = length-replicate m 0 in
    ap (λ d. put (put first place (zeros done)) (place + d) (zeros m)) (sym long)
    ∙ put_more first (zeros done) (zeros m) place (omega (arith, long, more))
    ∙ ap (put first place) (replicate-append-replicate done m 0)

pub image_take : (p : ℕ → Option (List ℕ)) (file : List ℕ) (n m : ℕ) → take n (image_of p file (n + m)) ≡ image_of p file n
image_take p file n m =
    let long : length (take n (image_of p file (n + m))) ≡ n = length-take-le n _ (omega (arith, length-image p file (n + m))) in
    same_lists _ _ (long ∙ sym (length-image p file n)) (λ i d lt.
    let low : i < n = omega (arith, lt, long) in
    get_or-take n (image_of p file (n + m)) i d low ∙ byte-image p file (n + m) i d (omega arith) ∙ sym (byte-image p file n i d low))

pub put_end : (p : ℕ → Option (List ℕ)) (file : List ℕ) (n m : ℕ) → put (image_of p file (n + m)) n (zeros m) ≡ image_of p file n ++ zeros m
unfolding put
put_end p file n m =
    let size : length (image_of p file (n + m)) ≡ n + m = length-image p file (n + m) in
    let count : length (zeros m) ≡ m = length-replicate m (the_zero) in
    let none : drop (n + length (zeros m)) (image_of p file (n + m)) ≡ [] = drop_all (n + length (zeros m)) (image_of p file (n + m)) (omega (arith, size, count)) in
    ap₂ (λ (u v : List ℕ). u ++ (zeros m ++ v)) (image_take p file n m) none ∙ ap (λ (l : List ℕ). image_of p file n ++ l) (append-nil (zeros m))

-- a part of a page, where it shows the file
pub shown_part : (file page : List ℕ) (k off m size : ℕ) → Shows file size k page → length page ≡ 65536 → off + m ≤ 65536 → k * 65536 + off + m ≤ size
    → ((j : ℕ) → j < 65536 → k * 65536 + j < size → k * 65536 + j < length file) → take m (drop off page) ≡ take m (drop (k * 65536 + off) file)
shown_part file page k off zero size shows long room inside backed = refl
shown_part file page k off (suc m) size shows long room inside backed =
    let last : k * 65536 + (off + m) < length file = backed (off + m) (omega arith) (omega arith) in
    window page file off (k * 65536 + off) (suc m) (omega (arith, long)) (omega (arith, last)) (λ j lt.
    shows (off + j) (omega arith) (omega arith) ∙ ap (slice_index file) (omega arith))

-- what is kept of a page serves for a shorter image too
pub serves_part : (lends : Bool) (file : List ℕ) (size less k : ℕ) (kept : Option (List ℕ)) → less ≤ size → Serves lends file size k kept → Serves lends file less k kept
serves_part lends file size less k kept le serves = (serves.0, λ page is j lt low. serves.1 page is j lt (omega arith))

-- what was read of a page shows the file
pub load_shows : (file page : List ℕ) (k size live : ℕ) → live ≡ min 65536 (size - k * 65536) → length page ≡ 65536 → take live page ≡ take live (drop (k * 65536) file) → Shows file size k page
load_shows file page k size live e long is j lt low =
    let within : j < live = omega (arith, e) in
    sym (get_or-take live page j 0 within) ∙ ap (λ (l : List ℕ). slice_index l j) is ∙ get_or-take live (drop (k * 65536) file) j 0 within ∙ get_or-drop (k * 65536) file j 0

-- a part of a changed page is that of the image
pub image_part : (p : ℕ → Option (List ℕ)) (file page : List ℕ) (n k off m : ℕ) → p k ≡ Some page → length page ≡ 65536 → off + m ≤ 65536 → k * 65536 + off + m ≤ n
    → take m (drop off page) ≡ take m (drop (k * 65536 + off) (image_of p file n))
image_part p file page n k off m there long room inside =
    let size = length-image p file n in
    window page (image_of p file n) off (k * 65536 + off) m (omega (arith, long)) (omega (arith, size)) (λ j lt.
    let here : (k * 65536 + off + j) / 65536 ≡ k = omega arith in
    let rest : (k * 65536 + off + j) % 65536 ≡ off + j = omega arith in
    sym (byte-image p file n (k * 65536 + off + j) 0 (omega arith) ∙ at_page p file page (k * 65536 + off + j) k here there ∙ ap (slice_index page) rest))

-- a part of a page that is not changed is that of the file
pub file_part : (p : ℕ → Option (List ℕ)) (file : List ℕ) (n k off m : ℕ) → p k ≡ None → off + m ≤ 65536 → k * 65536 + off + m ≤ n
    → ((j : ℕ) → j < 65536 → k * 65536 + j < n → k * 65536 + j < length file) → take m (drop (k * 65536 + off) file) ≡ take m (drop (k * 65536 + off) (image_of p file n))
file_part p file n k off zero none room inside backed = refl
file_part p file n k off (suc m) none room inside backed =
    let size = length-image p file n in
    let last : k * 65536 + (off + m) < length file = backed (off + m) (omega arith) (omega arith) in
    window file (image_of p file n) (k * 65536 + off) (k * 65536 + off) (suc m) (omega (arith, last)) (omega (arith, size)) (λ j lt.
    let here : (k * 65536 + off + j) / 65536 ≡ k = omega arith in
    sym (byte-image p file n (k * 65536 + off + j) 0 (omega arith) ∙ ap (λ q. byte_from (p q) file (k * 65536 + off + j)) here ∙ ap (λ o. byte_from o file (k * 65536 + off + j)) none))

-- no page is a changed one
pub image_file : (p : ℕ → Option (List ℕ)) (file : List ℕ) (n : ℕ) → ((q : ℕ) → p q ≡ None) → n ≤ length file → image_of p file n ≡ take n file
image_file p file n none h =
    same_lists _ _ (length-image p file n ∙ sym (length-take-le n file h)) (λ i d lt.
    let low : i < n = omega (arith, lt, length-image p file n) in
    byte-image p file n i d low ∙ ap (λ o. byte_from o file i) (none (i / 65536)) ∙ get_or_default file i 0 d (omega (arith, low, h)) ∙ sym (get_or-take n file i d low))
