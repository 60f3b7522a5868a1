-- A sealed image keeps all rules exactly where it does so as a file, as far as its two first records, and is good by its shape.
use Rattle.std.proofs.Common.{◌≡◌, ℕ, ◌≤◌, List, [], ◌∷◌, length, drop, Bool, true, refl, eqb, eq-eqb, sym, ap, subst, ◌∙◌, arith, inl, inr}
use Rattle.cdf_format.proofs.Common.{and_from, bytes_eq, if◌then◌else◌, md5, row, Hold, asked, AllHold, has_checksum, trailer, image_of, sealed, phase10, format_phases, KeepsFormat, Shape, shape, size_at, cdr_type, fixed_size}
use Rattle.std.proofs.Math.Seq.{drop-append_seam}
use Rattle.cdf_format.specs.Phases.{first_phases}
use Rattle.cdf_format.proofs.GoodByShape.{IsGoodByShape}
use Rattle.cdf_format.proofs.Members.{either}
use Rattle.cdf_format.proofs.TilesLemmas.{tile_lies}
use Rattle.cdf_format.proofs.ChainsLemmas.{is_a-in, is_a-type}
use Rattle.cdf_format.proofs.GoodImageLemmas.{good_image, rules_by_good}
use Rattle.cdf_format.proofs.ImageOf.{good_image_of, flags_of_front, image_of-sealed}

same_bytes : (xs : List ℕ) → bytes_eq xs xs ≡ true
same_bytes [] = refl
same_bytes (x ∷ xs) = and_from (eqb x x) (bytes_eq xs xs) (eq-eqb x x refl) (same_bytes xs)

pub good_long : (b : List ℕ) (s : Shape) → IsGoodByShape b s → 44 ≤ length b
good_long b s g =
    let h = g.has_shape in
    let tile = is_a-in b s.records cdr_type 8 h.cdr_stands in
    let long : 312 ≤ size_at b 8 = subst (λ (t : ℕ). fixed_size t ≤ size_at b 8) (is_a-type b s.records cdr_type 8 h.cdr_stands) (h.fixed 8 tile) in
    let high = (tile_lies b 8 (length b) s.records 8 h.tiled tile).high in
    omega arith

trailer_rule : (b : List ℕ) → 44 ≤ length b → Hold (phase10 (sealed b))
trailer_rule b long =
    let image : image_of (sealed b) ≡ b = image_of-sealed b long in
    let flags : has_checksum (sealed b) ≡ has_checksum b = flags_of_front b (trailer b) long in
    let rest : drop (length (image_of (sealed b))) (sealed b) ≡ trailer b = ap (λ (x : List ℕ). drop (length x) (sealed b)) image ∙ drop-append_seam b (trailer b) in
    elim (either (has_checksum b)) [
      | inl e ↦
          let used : trailer b ≡ md5 b = ap (λ (p : Bool). if p then md5 b else []) e in
          let same : bytes_eq (drop (length (image_of (sealed b))) (sealed b)) (md5 (image_of (sealed b))) ≡ true =
          ap (λ (x : List ℕ). bytes_eq x (md5 (image_of (sealed b)))) (rest ∙ used) ∙ ap (λ (x : List ℕ). bytes_eq (md5 b) (md5 x)) image ∙ same_bytes (md5 b) in
          subst (λ (p : Bool). Hold (asked p (row 1 (length (image_of (sealed b))) (bytes_eq (drop (length (image_of (sealed b))) (sealed b)) (md5 (image_of (sealed b)))) ∷ []))) (sym (flags ∙ e)) (same, tt)
      | inr e ↦ subst (λ (p : Bool). Hold (asked p (row 1 (length (image_of (sealed b))) (bytes_eq (drop (length (image_of (sealed b))) (sealed b)) (md5 (image_of (sealed b)))) ∷ []))) (sym (flags ∙ e)) tt
    ]

pub sealed_keeps : (b : List ℕ) (s : Shape) → AllHold (first_phases (sealed b)) → IsGoodByShape b s → KeepsFormat (sealed b)
sealed_keeps b s first g =
    let long = good_long b s g in
    let image : AllHold (format_phases (image_of (sealed b))) = subst (λ (x : List ℕ). AllHold (format_phases x)) (sym (image_of-sealed b long)) (rules_by_good b s (good_image b s g)) in
    let last = trailer_rule b long in
    (first.0, (first.1.0, (first.1.1.0, (first.1.1.1.0, (image.0, (image.1.0, (image.1.1.0, (image.1.1.1.0, (image.1.1.1.1.0, (image.1.1.1.1.1.0, (last, tt)))))))))))

pub sealed_kept : (b : List ℕ) → 44 ≤ length b → KeepsFormat (sealed b) → AllHold (first_phases (sealed b)) × IsGoodByShape b (shape b)
sealed_kept b long rules = (
  (rules.0, (rules.1.0, (rules.1.1.0, (rules.1.1.1.0, tt)))),
  subst (λ (x : List ℕ). IsGoodByShape x (shape x)) (image_of-sealed b long) (good_image_of (sealed b) rules),
)
