-- A page is written to the file.
use Rattle.cdf_pages.proofs.Common.{Backed, HasBehind, IsSome, IsTrue, List, None, Option, Some, ap, arith, byte-put_after, byte-put_before, byte-put_inside, byte_from, cases_Bool, cases_lt, get_or-take, get_or_append_left, image_of, inl, inr, is_in, is_some, length, length-append, length-take-le, min, put, refl, slice_index, sym, take, take_at, ℕ, ◌%◌, ◌*◌, ◌++◌, ◌+◌, ◌-◌, ◌/◌, ◌<◌, ◌∙◌, ◌≡◌, ◌≤◌, ◌⊎◌}
use Rattle.cdf_pages.proofs.Filling.{false_not_true, none_is}
use Rattle.cdf_pages.proofs.Images.{at_page, byte-image, image_file, image_same, length-image, same_or_not}

-- a byte of the image stays, if the file's stays where there is no changed page
pub byte_kept : (o : Option (List ℕ)) (f g : List ℕ) (i : ℕ) → (o ≡ None → slice_index f i ≡ slice_index g i) → byte_from o f i ≡ byte_from o g i
byte_kept None f g i e = e refl
byte_kept (Some x) f g i e = refl

module _ (p p' : ℕ → Option (List ℕ)) (file page xs : List ℕ) (n k : ℕ) (there : p k ≡ Some page) (place : k * 65536 ≤ length file) (room : length xs ≤ 65536)
    (others : (q : ℕ) → (q ≡ k → ⊥) → p' q ≡ p q) where
  -- bytes of other pages stay, whatever part of this page was written
  elsewhere : (i : ℕ) → (i / 65536 ≡ k → ⊥) → slice_index (put file (k * 65536) xs) i ≡ slice_index file i
  elsewhere i else = elim (cases_lt i (k * 65536)) [
    | inl before ↦ byte-put_before file (k * 65536) xs i place before
    | inr from_ ↦ elim (cases_lt i (k * 65536 + 65536)) [
      | inl within ↦ (let here : i / 65536 ≡ k = omega arith in absurd (else here))
      | inr after ↦ byte-put_after file (k * 65536) xs i place (omega arith)
    ]
  ]

  -- the page is still a changed one
  pub part_same : image_of p (put file (k * 65536) xs) n ≡ image_of p file n
  part_same = image_same p p (put file (k * 65536) xs) file n (λ i lt. elim (same_or_not (i / 65536) k) [
    | inl here ↦ at_page p (put file (k * 65536) xs) page i k here there ∙ sym (at_page p file page i k here there)
    | inr else ↦ byte_kept (p (i / 65536)) (put file (k * 65536) xs) file i (λ none. elsewhere i else)
  ])

  -- It is a changed one no more. It was written up to an end, behind which the file has the image's bytes.
  pub saved_same : (end : ℕ) → p' k ≡ None → k * 65536 < end → xs ≡ take (min 65536 (end - k * 65536)) page → length page ≡ 65536 → HasBehind p file end n → image_of p' (put file (k * 65536) xs) n ≡ image_of p file n
  saved_same end gone inside is long behind = image_same p' p (put file (k * 65536) xs) file n (λ i lt. elim (same_or_not (i / 65536) k) [
    | inl here ↦
        (let count = min 65536 (end - k * 65536) in
        let size : length xs ≡ count = ap (λ (l : List ℕ). length l) is ∙ length-take-le count page (omega (arith, long)) in
        let read : byte_from (p' (i / 65536)) (put file (k * 65536) xs) i ≡ slice_index (put file (k * 65536) xs) i = ap (λ q. byte_from (p' q) (put file (k * 65536) xs) i) here ∙ ap (λ o. byte_from o (put file (k * 65536) xs) i) gone in
        elim (cases_lt i end) [
          | inl before ↦
              (let low : i % 65536 < count = omega (arith, here, before) in
              let spot : k * 65536 + i % 65536 ≡ i = omega (arith, here) in
              read ∙ ap (slice_index (put file (k * 65536) xs)) (sym spot) ∙ byte-put_inside file (k * 65536) xs (i % 65536) place (omega (arith, low, size))
              ∙ ap (λ (l : List ℕ). slice_index l (i % 65536)) is ∙ get_or-take count page (i % 65536) 0 low ∙ sym (at_page p file page i k here there))
          | inr after ↦ read ∙ byte-put_after file (k * 65536) xs i place (omega (arith, size, inside, after)) ∙ behind i after lt
        ])
    | inr else ↦ ap (λ o. byte_from o (put file (k * 65536) xs) i) (others (i / 65536) else) ∙ byte_kept (p (i / 65536)) (put file (k * 65536) xs) file i (λ none. elsewhere i else)
  ])

-- the part of a changed page up to an end in the image stands there, and in front of a tail
pub page_in_image : (p : ℕ → Option (List ℕ)) (file page xs tail : List ℕ) (n k end : ℕ) → p k ≡ Some page → length page ≡ 65536 → xs ≡ take (min 65536 (end - k * 65536)) page → k * 65536 < end → end ≤ n
    → (k * 65536 + length xs ≤ length (image_of p file n ++ tail)) × ((t : ℕ) → t < length xs → slice_index xs t ≡ slice_index (image_of p file n ++ tail) (k * 65536 + t))
page_in_image p file page xs tail n k end there whole is inside within_image =
    let count = min 65536 (end - k * 65536) in
    let size = length-image p file n in
    let long : length xs ≡ count = ap (λ (l : List ℕ). length l) is ∙ length-take-le count page (omega (arith, whole)) in (
      omega (arith, long, size, inside, within_image, length-append (image_of p file n) tail),
      λ t lt.
          let low : t < count = omega (arith, lt, long) in
          let within : k * 65536 + t < length (image_of p file n) = omega (arith, low, size, within_image) in
          let here : (k * 65536 + t) / 65536 ≡ k = omega (arith, low) in
          let rest : (k * 65536 + t) % 65536 ≡ t = omega (arith, low) in
          ap (λ (l : List ℕ). slice_index l t) is ∙ get_or-take count page t 0 low
          ∙ sym (get_or_append_left (image_of p file n) tail 0 (k * 65536 + t) within ∙ byte-image p file n (k * 65536 + t) 0 (omega (arith, low, within_image)) ∙ at_page p file page (k * 65536 + t) k here there ∙ ap (slice_index page) rest),
    )

-- what the file has of the image behind an end it still has, whatever changed before
pub behind_stays : (p p' : ℕ → Option (List ℕ)) (file file' : List ℕ) (end n : ℕ) → ((i : ℕ) → end ≤ i → slice_index file' i ≡ slice_index file i) → ((q : ℕ) → (p' q ≡ None) ⊎ (p' q ≡ p q)) → HasBehind p file end n → HasBehind p' file' end n
behind_stays p p' file file' end n same which behind i low lt = elim (which (i / 65536)) [
  | inl none ↦ sym (ap (λ o. byte_from o file' i) none)
  | inr is ↦ same i low ∙ behind i low lt ∙ byte_kept (p (i / 65536)) file file' i (λ none. sym (same i low)) ∙ ap (λ o. byte_from o file' i) (sym is)
]

-- one page goes, and the others stay
pub goes_or_stays : (p p' : ℕ → Option (List ℕ)) (k : ℕ) → p' k ≡ None → ((q : ℕ) → (q ≡ k → ⊥) → p' q ≡ p q) → (q : ℕ) → (p' q ≡ None) ⊎ (p' q ≡ p q)
goes_or_stays p p' k gone others q = elim (same_or_not q k) [
  | inl here ↦ inl (ap p' here ∙ gone)
  | inr else ↦ inr (others q else)
]

-- what no changed page has still stands in the file
pub backed_longer : (p p' : ℕ → Option (List ℕ)) (long long' n : ℕ) → long ≤ long' → ((q : ℕ) → p' q ≡ None → p q ≡ None) → Backed p long n → Backed p' long' n
backed_longer p p' long long' n le less b i lt e = omega (arith, le, b i lt (less (i / 65536) e))

pub less_saved : (p p' : ℕ → Option (List ℕ)) (k : ℕ) → p' k ≡ None → ((q : ℕ) → (q ≡ k → ⊥) → p' q ≡ p q) → (q : ℕ) → p q ≡ None → p' q ≡ None
less_saved p p' k gone others q e = elim (same_or_not q k) [
  | inl here ↦ ap p' here ∙ gone
  | inr else ↦ others q else ∙ e
]

-- a page that is taken away and put back is what it was
pub given_back : (p p1 p2 : ℕ → Option (List ℕ)) (k : ℕ) → p2 k ≡ p k → ((q : ℕ) → (q ≡ k → ⊥) → p1 q ≡ p q) → ((q : ℕ) → (q ≡ k → ⊥) → p2 q ≡ p1 q) → (q : ℕ) → p2 q ≡ p q
given_back p p1 p2 k back taken put q = elim (same_or_not q k) [
  | inl here ↦ ap p2 here ∙ back ∙ sym (ap p here)
  | inr else ↦ put q else ∙ taken q else
]

-- a page that is a changed one was one at first
pub changed_at_first : (p p' : ℕ → Option (List ℕ)) (k : ℕ) → ((q : ℕ) → p q ≡ None → p' q ≡ None) → IsSome (p' k) → IsTrue (is_in p k)
changed_at_first p p' k less some = elim (cases_Bool (is_some (p k))) [
  | inl is ↦ is
  | inr none ↦ absurd (false_not_true (sym (ap is_some (less k (none_is (p k) none))) ∙ some))
]

-- a page past an end may be forgotten, where the file has the image's bytes behind it
pub forgotten_same : (p p' : ℕ → Option (List ℕ)) (file : List ℕ) (n k end : ℕ) → end ≤ k * 65536 → p' k ≡ None → HasBehind p file end n → ((q : ℕ) → (q ≡ k → ⊥) → p' q ≡ p q) → image_of p' file n ≡ image_of p file n
forgotten_same p p' file n k end past gone behind others = image_same p' p file file n (λ i lt. elim (same_or_not (i / 65536) k) [
  | inl here ↦ ap (λ q. byte_from (p' q) file i) here ∙ ap (λ o. byte_from o file i) gone ∙ behind i (omega (arith, here, past)) lt
  | inr else ↦ ap (λ o. byte_from o file i) (others (i / 65536) else)
])

-- ---- no page is a changed one any more

pub all_backed : (p : ℕ → Option (List ℕ)) (long n : ℕ) → ((q : ℕ) → p q ≡ None) → Backed p long n → n ≤ long
all_backed p long n none b = elim (cases_lt 0 n) [
  | inl some ↦ (let last = b (n - 1) (omega (arith, some)) (none ((n - 1) / 65536)) in omega (arith, last, some))
  | inr zero ↦ omega (arith, zero)
]

pub image_front : (p : ℕ → Option (List ℕ)) (file file' : List ℕ) (n : ℕ) → ((q : ℕ) → p q ≡ None) → n ≤ length file → length file ≤ length file' → take n file' ≡ take n file → image_of p file' n ≡ image_of p file n
image_front p file file' n none le grows front = image_file p file' n none (omega (arith, le, grows)) ∙ front ∙ sym (image_file p file n none le)

pub image_tail : (p : ℕ → Option (List ℕ)) (file image tail : List ℕ) (n : ℕ) → ((q : ℕ) → p q ≡ None) → length image ≡ n → file ≡ image ++ tail → image_of p file n ≡ image
image_tail p file image tail n none size is =
    image_file p file n none (omega (arith, ap (λ (l : List ℕ). length l) is, length-append image tail, size)) ∙ ap (take n) is ∙ take_at image tail n size

pub backed_tail : (p : ℕ → Option (List ℕ)) (file image tail : List ℕ) (n : ℕ) → length image ≡ n → file ≡ image ++ tail → Backed p (length file) n
backed_tail p file image tail n size is i lt e = omega (arith, ap (λ (l : List ℕ). length l) is, length-append image tail, size, lt)
