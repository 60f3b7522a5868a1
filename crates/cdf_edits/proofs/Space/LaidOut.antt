-- Fields that are written one behind the other read back.
use Rattle.cdf_edits.proofs.Common.{Bool, Each, Field, IsBody, List, Same, Says, [], ap, append_assoc, ap₂, arith, big_bytes, big_from, big_from-take, big_number-reads_back, both, drop, drop-append_seam, drop-drop, drop-put_there, eqb-true, fixed_size, flat_map, is_record_type, laid_out, length, length-append, length-bytes_high_first, piece_kept, record_type, refl, suc, sym, take-append-drop, take_at, true, type_of_body, uir_type, word, words, ℕ, ◌&&◌, ◌*◌, ◌++◌, ◌+◌, ◌<◌, ◌==◌, ◌^◌, ◌∙◌, ◌∷◌, ◌≡◌, ◌≢◌, ◌≤◌}
use Rattle.std.proofs.Common.{take}
use Rattle.cdf_format.proofs.Pieces.{word_of_piece_lem}
use Rattle.cdf_edits.specs.Space.Placing.{Placed}

-- each stands where the one before it ends
abbrev pub are_in_order : ℕ → List (Field × ℕ) → Bool
are_in_order at [] = true
are_in_order at ((f, n) ∷ more) = (f.place == at) && are_in_order (at + f.width) more

-- each number fits its field
abbrev pub AllFit : List (Field × ℕ) → Type 0
AllFit [] = Unit {0}
AllFit ((f, n) ∷ more) = (n < 256 ^ f.width) × AllFit more

abbrev pub end_of : ℕ → List (Field × ℕ) → ℕ
end_of at [] = at
end_of at ((f, n) ∷ more) = end_of (at + f.width) more

word_there : (b : List ℕ) (place width n : ℕ) (rest : List ℕ) → drop place b ≡ big_bytes width n ++ rest → n < 256 ^ width → word b place width ≡ n
word_there b place width n rest e fits =
    sym (word_of_piece_lem b place width) ∙ big_from-take 0 width width (drop place b) (omega arith) ∙ ap (λ (l : List ℕ). big_from 0 width l) e ∙ big_number-reads_back width n rest fits

-- they say it, and what stands behind them comes next
pub says_laid_out : (b : List ℕ) (place at : ℕ) (fields : List (Field × ℕ)) (rest : List ℕ) → drop (place + at) b ≡ laid_out fields ++ rest → are_in_order at fields ≡ true → AllFit fields → Says b place fields × (drop (place + end_of at fields) b ≡ rest)
says_laid_out b place at [] rest e o fit = (tt, e)
says_laid_out b place at ((f, n) ∷ more) rest e o fit =
    let p = both (f.place == at) (are_in_order (at + f.width) more) o in
    let xs = big_bytes f.width n in
    let next = laid_out more ++ rest in
    let split : drop (place + at) b ≡ xs ++ next = e ∙ append_assoc xs (laid_out more) rest in
    let long : length xs ≡ f.width = length-bytes_high_first f.width n in
    let after : drop (place + (at + f.width)) b ≡ next = ap (λ (x : ℕ). drop x b) (move place at f.width) ∙ sym (drop-drop f.width (place + at) b) ∙ ap (drop f.width) split ∙ ap (λ (k : ℕ). drop k (xs ++ next)) (sym long) ∙ drop-append_seam xs next in
    let others = says_laid_out b place (at + f.width) more rest after p.1 fit.1 in
    ((ap (λ (x : ℕ). word b (place + x) f.width) (eqb-true f.place at p.0) ∙ word_there b (place + at) f.width n next split fit.0, others.0), others.1)
  where
    move : (p a w : ℕ) → p + (a + w) ≡ p + a + w
    move p a w = omega arith

-- numbers of 4 bytes, one behind the other
pub words_laid_out : (b : List ℕ) (at : ℕ) (ns rest : List ℕ) → drop at b ≡ flat_map (big_bytes 4) ns ++ rest → Each (λ n. n < 256 ^ 4) ns → (words b at (length ns) ≡ ns) × (drop (at + 4 * length ns) b ≡ rest)
words_laid_out b at [] rest e fit = (refl, ap (λ (x : ℕ). drop x b) (none at) ∙ e)
  where
    none : (x : ℕ) → x + 4 * 0 ≡ x
    none x = omega arith
words_laid_out b at (n ∷ ns) rest e fit =
    let xs = big_bytes 4 n in
    let next = flat_map (big_bytes 4) ns ++ rest in
    let split : drop at b ≡ xs ++ next = e ∙ append_assoc xs (flat_map (big_bytes 4) ns) rest in
    let long : length xs ≡ 4 = length-bytes_high_first 4 n in
    let after : drop (at + 4) b ≡ next = sym (drop-drop 4 at b) ∙ ap (drop 4) split ∙ ap (λ (k : ℕ). drop k (xs ++ next)) (sym long) ∙ drop-append_seam xs next in
    let others = words_laid_out b (at + 4) ns rest after fit.1 in
    (ap₂ (λ (x : ℕ) (more : List ℕ). x ∷ more) (word_there b at 4 n next split fit.0) others.0, ap (λ (x : ℕ). drop x b) (move at (length ns)) ∙ others.1)
  where
    move : (p k : ℕ) → p + 4 * suc k ≡ p + 4 + 4 * k
    move p k = omega arith

pub length-words : (ns : List ℕ) → length (flat_map (big_bytes 4) ns) ≡ 4 * length ns
length-words [] = refl
length-words (n ∷ ns) = let r = length-words ns in let l = length-bytes_high_first 4 n in omega (arith, length-append (big_bytes 4 n) (flat_map (big_bytes 4) ns))

-- in a record that was placed, from a place within it on
pub placed_laid : {b filled body : List ℕ} {place : ℕ} (front rest : List ℕ) (at : ℕ) → 8 + length front ≡ at → Placed b filled body place → body ≡ front ++ rest → (more : List ℕ) × (drop (place + at) filled ≡ rest ++ more)
placed_laid {filled = filled} {body = body} {place = place} front rest at here placed is =
    let more = drop (place + 8 + length body) placed.taken in
    let to : place + at ≡ place + 8 + length front = omega arith in
    let there = ap (drop (place + 8)) placed.written ∙ drop-put_there placed.taken body (place + 8) (let i = placed.inside in omega arith) ∙ ap (λ (x : List ℕ). x ++ more) is ∙ append_assoc front rest more in
    (more, ap (λ (x : ℕ). drop x filled) to ∙ sym (drop-drop (length front) (place + 8) filled) ∙ ap (drop (length front)) there ∙ drop-append_seam front (rest ++ more))

-- and after steps that leave that
pub laid_kept : (b now : List ℕ) (from upto : ℕ) (xs more : List ℕ) → drop from b ≡ xs ++ more → Same b now from upto → from + length xs ≤ upto → upto ≤ length b → length b ≤ length now → drop from now ≡ xs ++ drop (length xs) (drop from now)
laid_kept b now from upto xs more laid same fits inside longer =
    sym (take-append-drop (length xs) (drop from now)) ∙ ap (λ (ys : List ℕ). ys ++ drop (length xs) (drop from now)) (piece_kept b now from upto same from (length xs) (omega arith) fits inside longer ∙ ap (take (length xs)) laid ∙ take_at xs more (length xs) refl)

-- a type of records that are in use, the fixed part of which is no longer than this
pub record IsType (type least : ℕ) : Type 0 where
  pub small : type < 256 ^ 4
  pub real : is_record_type type ≡ true
  pub in_use : type ≢ uir_type
  pub fixed : fixed_size type ≤ least
  pub enough : 28 ≤ least

-- what begins with it makes such a record
pub typed_body : {type least : ℕ} (fields : List (Field × ℕ)) (rest body : List ℕ) → IsType type least → body ≡ laid_out ((record_type, type) ∷ fields) ++ rest → least ≤ 8 + length body → (type_of_body body ≡ type) × IsBody body
typed_body {type = type} fields rest body t is long =
    let typed = word_there body 0 4 type (laid_out fields ++ rest) (is ∙ append_assoc (big_bytes 4 type) (laid_out fields) rest) t.small in
    let enough = t.enough in
    let fixed = t.fixed in
    (typed, record { enough = omega arith; real = rw typed t.real; in_use = rw typed t.in_use; fixed = rw typed (omega arith) })

-- fields, and a value that stands behind them
pub value_laid : (b : List ℕ) (place at : ℕ) (fields : List (Field × ℕ)) (value more : List ℕ) → drop (place + at) b ≡ (laid_out fields ++ value) ++ more → are_in_order at fields ≡ true → AllFit fields → Says b place fields × (take (length value) (drop (place + end_of at fields) b) ≡ value)
value_laid b place at fields value more laid o fit =
    let w = says_laid_out b place at fields (value ++ more) (laid ∙ append_assoc (laid_out fields) value more) o fit in
    (w.0, ap (take (length value)) w.1 ∙ take_at value more (length value) refl)
