-- Records one behind the other: what stands where, and that they are tiles.
use Rattle.byteorder.specs.Endian.{big_bytes, big_from}
use Rattle.byteorder.specs.Numbers.{big_from-take, big_number-reads_back, length-bytes_high_first}
use Rattle.std.proofs.Common.{List, [], ap, append_assoc, arith, drop, inl, inr, length, refl, subst, sym, take, true, ℕ, ◌++◌, ◌+◌, ◌<◌, ◌^◌, ◌∙◌, ◌∷◌, ◌≡◌, ◌≤◌}
use Rattle.std.proofs.Math.Seq.{drop-append_seam}
use Rattle.std.proofs.lemmas.Bool.{and_from, eq-eqb, le-leb}
use Rattle.std.proofs.lemmas.List.{drop-append-le, drop-drop, length-append, length-drop, take-append-le}
use Rattle.cdf_format.proofs.Members.{is_in-true}
use Rattle.cdf_format.proofs.Pieces.{word_of_piece_lem}
use Rattle.cdf_format.specs.Chains.{is_linkable}
use Rattle.cdf_format.specs.Fields.{size_at, type_at, word}
use Rattle.cdf_format.specs.Shape.{Each}
use Rattle.cdf_format.specs.Tiles.{AreTiles, Distinct, In}
use Rattle.cdf_edits.specs.Space.Placing.{IsBody, type_of_body}
use Rattle.cdf_writer.specs.Bodies.{whole_record}
use Rattle.cdf_writer.specs.Laying.{laid, laid_size}

-- these bytes stand at a place
pub record Stands (b : List ℕ) (place : ℕ) (xs : List ℕ) : Type 0 where
  pub rest : List ℕ
  pub there : drop place b ≡ xs ++ rest

pub stands_parts : {b : List ℕ} {place : ℕ} (xs ys : List ℕ) → Stands b place (xs ++ ys) → Stands b place xs × Stands b (place + length xs) ys
stands_parts {b = b} {place = place} xs ys s =
    let here : drop place b ≡ xs ++ (ys ++ s.rest) = s.there ∙ append_assoc xs ys s.rest in
    (record { rest = ys ++ s.rest; there = here }, record { rest = s.rest; there = sym (drop-drop (length xs) place b) ∙ ap (drop (length xs)) here ∙ drop-append_seam xs (ys ++ s.rest) })

-- a number that stands there
pub number_there : (b : List ℕ) (place width n : ℕ) (rest : List ℕ) → drop place b ≡ big_bytes width n ++ rest → n < 256 ^ width → word b place width ≡ n
number_there b place width n rest e fits =
    sym (word_of_piece_lem b place width) ∙ big_from-take 0 width width (drop place b) (omega arith) ∙ ap (λ (l : List ℕ). big_from 0 width l) e ∙ big_number-reads_back width n rest fits

-- a number within bytes that stand there
pub word_within : {b : List ℕ} {place : ℕ} {xs : List ℕ} → Stands b place xs → (i n : ℕ) → i + n ≤ length xs → word b (place + i) n ≡ word xs i n
word_within {b = b} {place = place} {xs = xs} s i n fits =
    let same : take n (drop (place + i) b) ≡ take n (drop i xs) =
    ap (take n) (sym (drop-drop i place b) ∙ ap (drop i) s.there ∙ drop-append-le i xs s.rest (omega arith)) ∙ take-append-le n (drop i xs) s.rest (omega (arith, length-drop i xs)) in
    sym (word_of_piece_lem b (place + i) n) ∙ ap (λ (l : List ℕ). word l 0 n) same ∙ word_of_piece_lem xs i n

-- ---- a record

pub whole_size : (body : List ℕ) → length (whole_record body) ≡ 8 + length body
whole_size body = omega (arith, length-append (big_bytes 8 (8 + length body)) body, length-bytes_high_first 8 (8 + length body))

-- it makes a record, of which the size fits 8 bytes
pub record IsRecord (body : List ℕ) : Type 0 where
  pub body_is : IsBody body
  pub fits : 8 + length body < 256 ^ 8

-- behind its size
pub body_stands : {b : List ℕ} {place : ℕ} (body : List ℕ) → Stands b place (whole_record body) → Stands b (place + 8) body
body_stands {b = b} {place = place} body s = subst (λ (n : ℕ). Stands b (place + n) body) (length-bytes_high_first 8 (8 + length body)) (stands_parts (big_bytes 8 (8 + length body)) body s).1

pub record Standing (b : List ℕ) (place : ℕ) (body : List ℕ) : Type 0 where
  pub stands : Stands b place (whole_record body)
  pub behind : Stands b (place + 8) body
  pub is : IsRecord body
  pub size_is : size_at b place ≡ 8 + length body
  pub type_is : type_at b place ≡ type_of_body body

pub standing : {b : List ℕ} {place : ℕ} (body : List ℕ) → IsRecord body → Stands b place (whole_record body) → Standing b place body
standing {b = b} {place = place} body is s =
    let behind = body_stands body s in
    let enough = is.body_is.enough in
    let first = stands_parts (big_bytes 8 (8 + length body)) body s in
    let here : place + 0 ≡ place = omega arith in
    let there : place + 8 ≡ place + 8 + 0 = omega arith in
    record {
      stands = s;
      behind = behind;
      is = is;
      size_is = ap (λ (p : ℕ). word b p 8) here ∙ number_there b place 8 (8 + length body) first.0.rest first.0.there is.fits;
      type_is = ap (λ (p : ℕ). word b p 4) there ∙ word_within behind 0 4 (omega arith);
    }

-- ---- records

-- where they stand
abbrev pub places : ℕ → List (List ℕ) → List ℕ
places from [] = []
places from (body ∷ more) = from ∷ places (from + length (whole_record body)) more

pub laid-append : (xs ys : List (List ℕ)) → laid (xs ++ ys) ≡ laid xs ++ laid ys
laid-append [] ys = refl
laid-append (x ∷ xs) ys = ap (λ (l : List ℕ). whole_record x ++ l) (laid-append xs ys) ∙ sym (append_assoc (whole_record x) (laid xs) (laid ys))

pub size-append : (xs ys : List (List ℕ)) → laid_size (xs ++ ys) ≡ laid_size xs + laid_size ys
size-append xs ys = ap length (laid-append xs ys) ∙ length-append (laid xs) (laid ys)

pub size-cons : (x : List ℕ) (xs : List (List ℕ)) → laid_size (x ∷ xs) ≡ length (whole_record x) + laid_size xs
size-cons x xs = length-append (whole_record x) (laid xs)

pub places-append : (from : ℕ) (xs ys : List (List ℕ)) → places from (xs ++ ys) ≡ places from xs ++ places (from + laid_size xs) ys
places-append from [] ys = ap (λ (n : ℕ). places n ys) (none from)
  where
    none : (n : ℕ) → n ≡ n + 0
    none n = omega arith
places-append from (x ∷ xs) ys =
    let e : from + length (whole_record x) + laid_size xs ≡ from + laid_size (x ∷ xs) = omega (arith, size-cons x xs) in
    ap (λ (l : List ℕ). from ∷ l) (places-append (from + length (whole_record x)) xs ys ∙ ap (λ (n : ℕ). places (from + length (whole_record x)) xs ++ places n ys) e)

pub part_stands : {b : List ℕ} {from : ℕ} (xs ys : List (List ℕ)) → Stands b from (laid (xs ++ ys)) → Stands b from (laid xs) × Stands b (from + laid_size xs) (laid ys)
part_stands {b = b} {from = from} xs ys s = stands_parts (laid xs) (laid ys) (subst (Stands b from) (laid-append xs ys) s)

-- each of them stands where it is said to
pub record At (b : List ℕ) (P : List ℕ → Type 0) (m : ℕ) : Type 0 where
  pub body : List ℕ
  pub has : P body
  pub stands : Standing b m body

pub each_at : {b : List ℕ} (P : List ℕ → Type 0) (from : ℕ) (bodies : List (List ℕ)) → Stands b from (laid bodies) → Each IsRecord bodies → Each P bodies → (m : ℕ) → In m (places from bodies) → At b P m
each_at P from [] s are has m i = absurd i
each_at {b = b} P from (body ∷ more) s are has m (inl e) =
    let st = standing body are.0 (stands_parts (whole_record body) (laid more) s).0 in
    record { body = body; has = has.0; stands = subst (λ (p : ℕ). Standing b p body) (sym e) st }
each_at P from (body ∷ more) s are has m (inr i) = each_at P (from + length (whole_record body)) more (stands_parts (whole_record body) (laid more) s).1 are.1 has.1 m i

pub are_tiles : {b : List ℕ} (from : ℕ) (bodies : List (List ℕ)) → Stands b from (laid bodies) → Each IsRecord bodies → AreTiles b from (from + laid_size bodies) (places from bodies)
are_tiles from [] s are = omega arith
are_tiles {b = b} from (body ∷ more) s are =
    let st = standing body are.0 (stands_parts (whole_record body) (laid more) s).0 in
    let enough = are.0.body_is.enough in
    let step : from + length (whole_record body) ≡ from + size_at b from = omega (arith, st.size_is, whole_size body) in
    let end : from + length (whole_record body) + laid_size more ≡ from + laid_size (body ∷ more) = omega (arith, size-cons body more) in
    let rest = are_tiles (from + length (whole_record body)) more (stands_parts (whole_record body) (laid more) s).1 are.1 in
    (refl, omega (arith, st.size_is), subst (λ (n : ℕ). AreTiles b n (from + laid_size (body ∷ more)) (places (from + length (whole_record body)) more)) step (subst (λ (n : ℕ). AreTiles b (from + length (whole_record body)) n (places (from + length (whole_record body)) more)) end rest))

-- a chain may lead to it
pub linkable_at : {b : List ℕ} {m : ℕ} {body : List ℕ} (records : List ℕ) (type : ℕ) → Standing b m body → In m records → type_of_body body ≡ type → is_linkable b records type m ≡ true
linkable_at {b = b} {m = m} {body = body} records type s i typed =
    let enough = s.is.body_is.enough in
    and_from _ _ (and_from _ _ (is_in-true m records i) (eq-eqb (type_at b m) type (s.type_is ∙ typed))) (le-leb 28 (size_at b m) (omega (arith, s.size_is)))

-- places rise
pub from_places : (from : ℕ) (bodies : List (List ℕ)) (m : ℕ) → In m (places from bodies) → from ≤ m
from_places from [] m i = absurd i
from_places from (body ∷ more) m (inl e) = omega arith
from_places from (body ∷ more) m (inr i) = let r = from_places (from + length (whole_record body)) more m i in omega arith

pub places_distinct : (from : ℕ) (bodies : List (List ℕ)) → Distinct (places from bodies)
places_distinct from [] = tt
places_distinct from (body ∷ more) = ((λ i. let r = from_places (from + length (whole_record body)) more from i in absurd (omega (arith, whole_size body))), places_distinct (from + length (whole_record body)) more)
