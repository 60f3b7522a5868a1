-- Words that are cut from their sizes and bytes are the words.
use Rattle.std.proofs.Common.{◌≡◌, ℕ, zero, suc, ◌+◌, ◌-◌, ◌*◌, ◌/◌, ◌%◌, ◌<◌, ◌≤◌, true, false, cond, List, [], ◌∷◌, ◌++◌, length, take, drop, get_or, position, Option, Some, None, MatchOption, subst, refl, sym, ◌∙◌, ap, ap₂, append_assoc, append-nil, add-one, arith}
use Rattle.std.proofs.Math.ListN.{replicate}
use Rattle.std.proofs.Math.Seq.{take-add, take-append_seam, drop-append_seam}
use lib.Seq.{drop-drop}
use Rattle.std.proofs.lemmas.Bool.Decides.{nat_tests}
use Rattle.std.proofs.lemmas.List.{length-append, length-replicate}
use Rattle.std.proofs.lemmas.List.Concat.{flat_map-append}
use Rattle.std.specs.Prelude.{◌==◌, nat_lt}
use Rattle.std.specs.List.{concat, position_or_len}
use Rattle.cdf_model.specs.Parts.{cut, parts_of, sizes_of, Hold}

-- k parts of 255 and one of r bytes, in front of others
cut-parts : (k r n : ℕ) (sizes bytes : List ℕ) → r < 255 → n ≡ 255 * k + r → cut (replicate k 255 ++ r ∷ sizes) bytes ≡ take n bytes ∷ cut sizes (drop n bytes)
cut-parts zero r n sizes bytes small is =
    let test : (r == 255) ≡ false = grind (arith, nat_tests) in
    let same : n ≡ r = omega arith in
    rw (test, same) refl
cut-parts (suc k) r n sizes bytes small is =
    let m : ℕ = n - 255 in
    let whole : 255 + m ≡ n = omega arith in
    rw (cut-parts k r m sizes (drop 255 bytes) small (omega arith))
    (ap₂ (λ (w : List ℕ) (ws : List (List ℕ)). w ∷ ws)
    (sym (take-add 255 m bytes) ∙ ap (λ x. take x bytes) whole)
    (ap (cut sizes) (drop-drop m 255 bytes ∙ ap (λ x. drop x bytes) whole)))

parts-append : (n : ℕ) (sizes : List ℕ) → parts_of n ++ sizes ≡ replicate (n / 255) 255 ++ n % 255 ∷ sizes
parts-append n sizes = append_assoc (replicate (n / 255) 255) (n % 255 ∷ []) sizes

cut-held : (words : List (List ℕ)) → cut (sizes_of words) (concat words) ≡ words
cut-held [] = refl
cut-held (word ∷ words) =
    let n : ℕ = length word in
    ap (λ sizes. cut sizes (word ++ concat words)) (parts-append n (sizes_of words))
    ∙ cut-parts (n / 255) (n % 255) n (sizes_of words) (word ++ concat words) (omega arith) (omega arith)
    ∙ ap₂ (λ (w : List ℕ) (ws : List (List ℕ)). w ∷ ws) (take-append_seam word (concat words)) (ap (cut (sizes_of words)) (drop-append_seam word (concat words)) ∙ cut-held words)

-- what holds words is cut into them
pub cut_is : (words : List (List ℕ)) (sizes bytes : List ℕ) → Hold words sizes bytes → cut sizes bytes ≡ words
cut_is words sizes bytes held = ap₂ cut held.all_sizes held.all_bytes ∙ cut-held words

concat-append : (xs ys : List (List ℕ)) → concat (xs ++ ys) ≡ concat xs ++ concat ys
concat-append [] ys = refl
concat-append (x ∷ xs) ys = ap (λ l. x ++ l) (concat-append xs ys) ∙ sym (append_assoc x (concat xs) (concat ys))

-- a word behind others
Hold-push : (words : List (List ℕ)) (sizes bytes word : List ℕ) → Hold words sizes bytes → Hold (words ++ word ∷ []) (sizes ++ parts_of (length word)) (bytes ++ word)
Hold-push words sizes bytes word held = record {
  all_sizes = ap₂ (λ (a b : List ℕ). a ++ b) held.all_sizes (sym (append-nil (parts_of (length word)))) ∙ sym (flat_map-append (λ (w : List ℕ). parts_of (length w)) words (word ∷ []));
  all_bytes = ap₂ (λ (a b : List ℕ). a ++ b) held.all_bytes (sym (append-nil word)) ∙ sym (concat-append words (word ∷ []));
}

-- the sizes and bytes that a word makes longer, at any other names of them
pub Hold-pushed : (words : List (List ℕ)) (sizes bytes word new more : List ℕ) → Hold words sizes bytes → new ≡ sizes ++ parts_of (length word) → more ≡ bytes ++ word → Hold (words ++ word ∷ []) new more
Hold-pushed words sizes bytes word new more held e f =
    let pushed = Hold-push words sizes bytes word held in
    record { all_sizes = e ∙ pushed.all_sizes; all_bytes = f ∙ pushed.all_bytes }

-- what holds words holds those that it is cut into
pub Hold-cut : (words : List (List ℕ)) (sizes bytes : List ℕ) → Hold words sizes bytes → Hold (cut sizes bytes) sizes bytes
Hold-cut words sizes bytes held =
    let same = cut_is words sizes bytes held in
    record { all_sizes = held.all_sizes ∙ ap sizes_of (sym same); all_bytes = held.all_bytes ∙ ap concat (sym same) }

-- no more words than parts
length-sizes_of : (words : List (List ℕ)) → length words ≤ length (sizes_of words)
length-sizes_of [] = omega arith
length-sizes_of (word ∷ words) =
    let more = length-sizes_of words in
    let n : ℕ = length word in
    let front : List ℕ = replicate (n / 255) 255 in
    omega (arith, length-append (parts_of n) (sizes_of words), length-append front (n % 255 ∷ []))

pub few_words : (words : List (List ℕ)) (sizes bytes : List ℕ) → Hold words sizes bytes → length words ≤ length sizes
few_words words sizes bytes held = omega (arith, length-sizes_of words, ap length held.all_sizes)

-- the first word of those that are held
pub record Front (words : List (List ℕ)) (sizes bytes : List ℕ) (full : ℕ) : Type 0 where
  pub word : List ℕ
  pub rest : List (List ℕ)
  pub words_are : words ≡ word ∷ rest
  pub size_is : full * 255 + get_or sizes full 0 ≡ length word
  pub inside : length word ≤ length bytes
  pub front : take (length word) bytes ≡ word
  pub held : Hold rest (drop (full + 1) sizes) (drop (length word) bytes)

ends-parts : (k r : ℕ) (sizes : List ℕ) → r < 255 → position_or_len (λ size. nat_lt size 255) (replicate k 255 ++ r ∷ sizes) ≡ k
ends-parts zero r sizes small = let test : nat_lt r 255 ≡ true = grind (arith, nat_tests) in rw test refl
ends-parts (suc k) r sizes small = rw (ends-parts k r sizes small) (omega arith)

position-parts : (k r : ℕ) (sizes : List ℕ) → r < 255 → position (λ size. nat_lt size 255) (replicate k 255 ++ r ∷ sizes) ≡ Some k
position-parts k r sizes small =
    let front : List ℕ = replicate k 255 in
    let long : k < length (front ++ r ∷ sizes) = omega (arith, length-append front (r ∷ sizes), length-replicate {A = ℕ} k 255) in
    let test : nat_lt k (length (front ++ r ∷ sizes)) ≡ true = grind (arith, nat_tests) in
    ap (λ n. cond (nat_lt n (length (front ++ r ∷ sizes))) (Some n) None) (ends-parts k r sizes small) ∙ ap (λ t. cond t (Some k) None) test

at-parts : (k r : ℕ) (sizes : List ℕ) → get_or (replicate k 255 ++ r ∷ sizes) k 0 ≡ r
at-parts zero r sizes = refl
at-parts (suc k) r sizes = at-parts k r sizes

behind-parts : (k r : ℕ) (sizes : List ℕ) → drop (suc k) (replicate k 255 ++ r ∷ sizes) ≡ sizes
behind-parts zero r sizes = refl
behind-parts (suc k) r sizes = behind-parts k r sizes

Front-cons : (word : List ℕ) (words : List (List ℕ)) (sizes bytes : List ℕ) → Hold (word ∷ words) sizes bytes → (position (λ size. nat_lt size 255) sizes ≡ Some (length word / 255)) × Front (word ∷ words) sizes bytes (length word / 255)
Front-cons word words sizes bytes held =
    let n : ℕ = length word in
    let parts : sizes ≡ replicate (n / 255) 255 ++ n % 255 ∷ sizes_of words = held.all_sizes ∙ parts-append n (sizes_of words) in (
      ap (position (λ size. nat_lt size 255)) parts ∙ position-parts (n / 255) (n % 255) (sizes_of words) (omega arith),
      record {
        word = word;
        rest = words;
        words_are = refl;
        size_is = omega (arith, ap (λ l. get_or l (n / 255) 0) parts ∙ at-parts (n / 255) (n % 255) (sizes_of words));
        inside = omega (arith, ap length held.all_bytes, length-append word (concat words));
        front = ap (take n) held.all_bytes ∙ take-append_seam word (concat words);
        held = record {
          all_sizes = ap₂ (λ m l. drop m l) (add-one (n / 255)) parts ∙ behind-parts (n / 255) (n % 255) (sizes_of words);
          all_bytes = ap (drop n) held.all_bytes ∙ drop-append_seam word (concat words);
        };
      },
    )

front_of : (words : List (List ℕ)) (sizes bytes : List ℕ) → Hold words sizes bytes → MatchOption (position (λ size. nat_lt size 255) sizes) (words ≡ []) (Front words sizes bytes)
front_of [] sizes bytes held = rw held.all_sizes refl
front_of (word ∷ words) sizes bytes held = let found = Front-cons word words sizes bytes held in rw found.0 found.1

pub front_some : (words : List (List ℕ)) (sizes bytes : List ℕ) (full : ℕ) → Hold words sizes bytes → Some full ≡ position (λ size. nat_lt size 255) sizes → Front words sizes bytes full
front_some words sizes bytes full held e = subst (λ (o : Option ℕ). MatchOption o (words ≡ []) (Front words sizes bytes)) (sym e) (front_of words sizes bytes held)

pub front_none : (words : List (List ℕ)) (sizes bytes : List ℕ) → Hold words sizes bytes → None ≡ position (λ size. nat_lt size 255) sizes → words ≡ []
front_none words sizes bytes held e = subst (λ (o : Option ℕ). MatchOption o (words ≡ []) (Front words sizes bytes)) (sym e) (front_of words sizes bytes held)
