-- The image of a file that keeps all rules is good.
use Rattle.std.proofs.Common.{◌≡◌, ℕ, ◌+◌, ◌-◌, ◌≤◌, ◌<◌, List, length, ◌∙◌, arith, inl, inr, ◌*◌, subst, sym, ap, take, Bool, [], ◌∷◌, ◌++◌, false, refl, true, append-nil, drop}
use Rattle.cdf_format.proofs.Common.{length-take, length-append, get_or_append_left, nat_le, if◌then◌else◌, bytes_eq, type_at, gdr_offset, counted, number, r_num_dims, word, size_at, has_bit, has_checksum, trailer_length, image_of, trailer, sealed, phase10, KeepsFormat, shape, IsSound, gdr_r_num_dims, gdr_type, fixed_size, Hold, asked, gdr_rows, is_record, w32, cast_signed, Same, md5}
use Rattle.std.proofs.lemmas.List.{take-append-drop, take_all}
use Rattle.cdf_format.proofs.GoodByShape.{IsGoodByShape}
use Rattle.cdf_format.proofs.Pieces.{word-piece}
use Rattle.cdf_format.proofs.Tests.{both, le_of, same_of_bytes_eq}
use Rattle.cdf_format.proofs.Members.{either}
use Rattle.cdf_format.proofs.FileRecords.{record-of}
use Rattle.cdf_format.proofs.GoodImageLemmas.{good_by_rules}
use Rattle.cdf_format.proofs.SoundLemmas.{sound_of_good}
use Rattle.cdf_format.proofs.ChainsLemmas.{is_a-in, is_a-type}
use Rattle.cdf_format.proofs.TilesLemmas.{tile_lies}
use Rattle.cdf_format.proofs.BytesLemmas.{word-same}
use Rattle.md5.proofs.StandardFacts.{length-md5}
use Rattle.cdf_format.proofs.RowLemmas.{Hold-asked}

pub short_trailer : (f : List ℕ) → trailer_length f ≤ 16
short_trailer f = elim (either (has_checksum f)) [ inl e ↦ rw e (omega arith) | inr e ↦ rw e (omega arith) ]

pub good_image_of : (f : List ℕ) → KeepsFormat f → IsGoodByShape (image_of f) (shape (image_of f))
good_image_of f rules =
    let room = both (nat_le 8 (gdr_offset f)) (nat_le (gdr_offset f + 84) (length f)) rules.1.1.1.0.0 in
    let long : 92 ≤ length f = let p = le_of 8 (gdr_offset f) room.0 in let q = le_of (gdr_offset f + 84) (length f) room.1 in omega arith in
    let t = short_trailer f in
    let n = length f - trailer_length f in
    let enough : 20 ≤ n = omega arith in
    let as_long : 8 < length (image_of f) = omega (arith, length-take n f) in
    let first : type_at (image_of f) 8 ≡ type_at f 8 = word-piece f 0 16 4 n (omega arith) in
    good_by_rules (image_of f) as_long (first ∙ (record-of f 8 1 312 rules.1.1.0.1.0).type_is)
    (rules.1.1.1.1.0, (rules.1.1.1.1.1.0, (rules.1.1.1.1.1.1.0, (rules.1.1.1.1.1.1.1.0, (rules.1.1.1.1.1.1.1.1.0, (rules.1.1.1.1.1.1.1.1.1.0, tt))))))

-- a field of a front part
word_of_front : (n : ℕ) (f : List ℕ) (place k : ℕ) → place + k ≤ n → word (take n f) place k ≡ word f place k
word_of_front n f place k le =
    let e : 0 + place ≡ place = omega arith in
    word-piece f 0 place k n le ∙ ap (λ (x : ℕ). word f x k) e

pub sound_image_of : (f : List ℕ) → KeepsFormat f → IsSound (image_of f) (shape (image_of f))
sound_image_of f rules =
    let good = good_image_of f rules in
    let h = good.has_shape in
    let b = image_of f in
    let n = length f - trailer_length f in
    let room = both (nat_le 8 (gdr_offset f)) (nat_le (gdr_offset f + 84) (length f)) rules.1.1.1.0.0 in
    let enough : 28 ≤ n = let p = le_of 8 (gdr_offset f) room.0 in let q = le_of (gdr_offset f + 84) (length f) room.1 in let t = short_trailer f in omega arith in
    let g_is : gdr_offset b ≡ gdr_offset f = word_of_front n f 20 8 enough in
    let rows : Hold (gdr_rows f (gdr_offset f)) = subst (λ (t : Bool). Hold (asked t (gdr_rows f (gdr_offset f)))) rules.1.1.1.0.0 rules.1.1.1.0.1 in
    let least = 84 + 4 * r_num_dims f (gdr_offset f) in
    let r = record-of f (gdr_offset f) 2 least (both (nat_le (number f (gdr_offset f) gdr_r_num_dims) 10) (is_record f (gdr_offset f) 2 least) rows.0).1 in
    let g = (shape b).gdr in
    let g_same : g ≡ gdr_offset f = sym h.gdr_is ∙ g_is in
    let tile = is_a-in b (shape b).records gdr_type g h.gdr_stands in
    let long : 84 ≤ size_at b g = subst (λ (t : ℕ). fixed_size t ≤ size_at b g) (is_a-type b (shape b).records gdr_type g h.gdr_stands) (h.fixed g tile) in
    let high = (tile_lies b 8 (length b) (shape b).records g h.tiled tile).high in
    let short : length b ≤ n = front_short n f in
    let ends : g + 84 ≤ n = within g (size_at b g) (length b) n long high short in
    let size_is : size_at b g ≡ size_at f g = word_of_front n f (g + 0) 8 (part g 0 8 n ends (omega arith)) in
    let dims_is : r_num_dims b g ≡ r_num_dims f g = ap (λ (x : ℕ). counted (cast_signed w32 x)) (word_of_front n f (g + 56) 4 (part g 56 4 n ends (omega arith))) in
    let in_file : 84 + 4 * r_num_dims f g ≤ size_at f g = subst (λ (x : ℕ). 84 + 4 * r_num_dims f x ≤ size_at f x) (sym g_same) r.long in
    let in_image : 84 + 4 * r_num_dims b g ≤ size_at b g = subst (λ (x : ℕ). 84 + 4 * r_num_dims b g ≤ x) (sym size_is) (subst (λ (x : ℕ). 84 + 4 * x ≤ size_at f g) (sym dims_is) in_file) in
    sound_of_good b (shape b) good in_image
  where
    front_short : (n : ℕ) (f : List ℕ) → length (take n f) ≤ n
    front_short n f = omega (arith, length-take n f)

    within : (g s l n : ℕ) → 84 ≤ s → g + s ≤ l → l ≤ n → g + 84 ≤ n
    within g s l n a b c = omega arith

    part : (g o k n : ℕ) → g + 84 ≤ n → o + k ≤ 84 → g + o + k ≤ n
    part g o k n a b = omega arith

-- ---- a sealed image

pub flags_of_front : (b rest : List ℕ) → 44 ≤ length b → has_checksum (b ++ rest) ≡ has_checksum b
flags_of_front b rest long =
    let same : Same b (b ++ rest) 40 44 = record { each = λ i l h. get_or_append_left b rest 0 i (before i (length b) h long) } in
    ap (λ (n : ℕ). has_bit n 2) (word-same b (b ++ rest) 40 4 same)
  where
    before : (i n : ℕ) → i < 44 → 44 ≤ n → i < n
    before i n h l = omega arith

pub trailer_is : (b : List ℕ) → length (trailer b) ≡ trailer_length b
trailer_is b = cases (has_checksum b)
  where
    cases : (p : Bool) → length (if p then md5 b else []) ≡ (if p then 16 else 0)
    cases true = length-md5 b
    cases false = refl

-- the image of a sealed image is itself
pub image_of-sealed : (b : List ℕ) → 44 ≤ length b → image_of (sealed b) ≡ b
image_of-sealed b long =
    let same : trailer_length (sealed b) ≡ trailer_length b = ap (λ (p : Bool). if p then 16 else 0) (flags_of_front b (trailer b) long) in
    let n : length (sealed b) - trailer_length (sealed b) ≡ length b = count (length (sealed b)) (length b) (length (trailer b)) (trailer_length b) (trailer_length (sealed b)) (length-append b (trailer b)) (trailer_is b) same in
    ap (λ (k : ℕ). take k (sealed b)) n ∙ take-front b (trailer b)
  where
    count : (s l t u v : ℕ) → s ≡ l + t → t ≡ u → v ≡ u → s - v ≡ l
    count s l t u v p q r = omega arith

    take-front : (xs ys : List ℕ) → take (length xs) (xs ++ ys) ≡ xs
    take-front [] ys = refl
    take-front (x ∷ xs) ys = ap (λ (r : List ℕ). x ∷ r) (take-front xs ys)

-- a file that keeps all rules is its image, sealed
pub sealed_is_file : (f : List ℕ) → KeepsFormat f → sealed (image_of f) ≡ f
sealed_is_file f rules =
    let n = length f - trailer_length f in
    let room = both (nat_le 8 (gdr_offset f)) (nat_le (gdr_offset f + 84) (length f)) rules.1.1.1.0.0 in
    let enough : 44 ≤ n = let p = le_of 8 (gdr_offset f) room.0 in let q = le_of (gdr_offset f + 84) (length f) room.1 in let t = short_trailer f in omega arith in
    let flags_same : has_checksum (image_of f) ≡ has_checksum f = ap (λ (x : ℕ). has_bit x 2) (word_of_front n f 40 4 enough) in
    let rule : Hold (phase10 f) = rules.1.1.1.1.1.1.1.1.1.1.0 in
    elim (either (has_checksum f)) [
      | inl e ↦
          let row : bytes_eq (drop (length (image_of f)) f) (md5 (image_of f)) ≡ true = (Hold-asked (has_checksum f) _ rule e).0 in
          let rest : drop (length (image_of f)) f ≡ md5 (image_of f) = same_of_bytes_eq (drop (length (image_of f)) f) (md5 (image_of f)) row in
          let long : length (image_of f) ≡ n = all_taken n f (omega arith) in
          let end : trailer (image_of f) ≡ drop n f = ap (λ (p : Bool). if p then md5 (image_of f) else []) (flags_same ∙ e) ∙ sym rest ∙ ap (λ (k : ℕ). drop k f) long in
          ap (λ (x : List ℕ). image_of f ++ x) end ∙ take-append-drop n f
      | inr e ↦
          let none : trailer (image_of f) ≡ [] = ap (λ (p : Bool). if p then md5 (image_of f) else []) (flags_same ∙ e) in
          let all : length f ≤ n = let z : trailer_length f ≡ 0 = ap (λ (p : Bool). if p then 16 else 0) e in omega arith in
          ap (λ (x : List ℕ). image_of f ++ x) none ∙ append-nil (image_of f) ∙ take_all n f all
    ]
  where
    all_taken : (n : ℕ) (f : List ℕ) → n ≤ length f → length (take n f) ≡ n
    all_taken n f le = omega (arith, length-take n f)
