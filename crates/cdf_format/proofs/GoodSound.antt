-- A good image is good by its shape, and sound.
use Rattle.std.proofs.Common.{◌≡◌, ℕ, ◌+◌, ◌≤◌, List, length, true, sym, ap, subst, ◌∙◌, arith, ◌-◌, take, eqb}
use Rattle.cdf_format.proofs.Common.{length-append, length-take, get_or_append_left, eqb-true, IsSound, Same, size_at, eof, gdr_offset, gdr_type, fixed_size, trailer, trailer_length, sealed, shape, KeepsFormat, Good}
use Rattle.cdf_format.proofs.GoodByShape.{IsGoodByShape}
use Rattle.cdf_format.proofs.Tests.{le_of}
use Rattle.cdf_format.proofs.TilesLemmas.{tile_lies}
use Rattle.cdf_format.proofs.ChainsLemmas.{is_a-in, is_a-type}
use Rattle.cdf_format.proofs.BytesLemmas.{word_kept}
use Rattle.cdf_format.proofs.FileRecords.{gdr_holds}
use Rattle.cdf_format.proofs.ImageOf.{short_trailer, trailer_is, sound_image_of, image_of-sealed}
use Rattle.cdf_format.proofs.SealedRules.{sealed_kept}

-- a good image keeps all rules once it is sealed
pub rules_of_good : (b : List ℕ) → Good b → KeepsFormat (sealed b)
rules_of_good b good = good

good_is_long : (b : List ℕ) → Good b → 44 ≤ length b
good_is_long b good =
    let long : 320 ≤ length (sealed b) = le_of 320 (length (sealed b)) (rules_of_good b good).1.1.0.0 in
    fit (length (sealed b)) (length b) (length (trailer b)) (trailer_length b) long (length-append b (trailer b)) (trailer_is b) (short_trailer b)
  where
    fit : (n l t u : ℕ) → 320 ≤ n → n ≡ l + t → t ≡ u → u ≤ 16 → 44 ≤ l
    fit n l t u p q r s = omega arith

pub good_by_its_shape : (b : List ℕ) → Good b → IsGoodByShape b (shape b)
good_by_its_shape b good = (sealed_kept b (good_is_long b good) (rules_of_good b good)).1

pub good_is_sound : (b : List ℕ) → Good b → IsSound b (shape b)
good_is_sound b good = subst (λ (x : List ℕ). IsSound x (shape x)) (image_of-sealed b (good_is_long b good)) (sound_image_of (sealed b) (rules_of_good b good))

-- its eof is its length
pub good_eof : (b : List ℕ) → Good b → eof b (gdr_offset b) ≡ length b
good_eof b good =
    let f = sealed b in
    let long = good_is_long b good in
    let h = (good_is_sound b good).has_shape in
    let row : eqb (eof f (gdr_offset f)) (length f - trailer_length f) ≡ true = (gdr_holds f good).1.1.0 in
    let image : length (take (length f - trailer_length f) f) ≡ length b = ap length (image_of-sealed b long) in
    let n : length f - trailer_length f ≡ length b = omega (arith, length-take (length f - trailer_length f) f, image) in
    let same : Same b f 0 (length b) = record { each = λ i l lt. get_or_append_left b (trailer b) 0 i lt } in
    let offset : gdr_offset f ≡ gdr_offset b = word_kept b f 0 (length b) same (8 + 12) 8 (omega arith) (omega arith) in
    let gdr = is_a-in b (shape b).records gdr_type (shape b).gdr h.gdr_stands in
    let wide : 84 ≤ size_at b (shape b).gdr = subst (λ (t : ℕ). fixed_size t ≤ size_at b (shape b).gdr) (is_a-type b (shape b).records gdr_type (shape b).gdr h.gdr_stands) (h.fixed (shape b).gdr gdr) in
    let ends = (tile_lies b 8 (length b) (shape b).records (shape b).gdr h.tiled gdr).high in
    let at : gdr_offset b ≡ (shape b).gdr = h.gdr_is in
    let here : eof f (gdr_offset b) ≡ eof b (gdr_offset b) = word_kept b f 0 (length b) same (gdr_offset b + 36) 8 (omega arith) (room (gdr_offset b) (shape b).gdr (size_at b (shape b).gdr) at wide ends) in
    sym here ∙ ap (eof f) (sym offset) ∙ eqb-true (eof f (gdr_offset f)) (length f - trailer_length f) row ∙ n
  where
    room : (g s w : ℕ) → g ≡ s → 84 ≤ w → s + w ≤ length b → g + 36 + 8 ≤ length b
    room g s w e l r = omega arith
