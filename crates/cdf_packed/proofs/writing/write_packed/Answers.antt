use Rattle.std.proofs.Common.{◌≡◌, ◌∙◌, ◌+◌, ◌≤◌, ◌∷◌, [], ℕ, List, ap, arith, length, subst, sym}
use Rattle.std.proofs.lemmas.Int.{of_z-to_z}
use Rattle.std.specs.Int.{w64, cast_signed, cast_unsigned}
use Rattle.cdf_base.specs.Bytes.{put}
use Rattle.cdf_edits.specs.Frame.Changed.{Changed, touched_field}
use Rattle.cdf_format.specs.Fields.{LiesIn, number, with_field}
use Rattle.cdf_format.specs.Records.{cvvr_c_size, cvvr_packed}
use Rattle.cdf_format.specs.Stored.{packed_bytes}
use Rattle.cdf_model.specs.Limits.{image_limit}
use Rattle.cdf_packed.proofs.Written.{packed-bytes, packed-changed, packed-size, with_packed}
use Rattle.cdf_packed.proofs.writing.write_packed.Goals as goal

-- one image, and what it is once both writes were made
same_image : (b mid now : List ℕ) (at : ℕ) (xs : List ℕ) → LiesIn b at (cvvr_packed (length xs)) → length b ≤ image_limit → mid ≡ with_field b at cvvr_c_size (cast_unsigned w64 (cast_signed w64 (length xs))) → now ≡ put mid (at + 24) xs → now ≡ with_packed b at xs
same_image b mid now at xs room short first second =
    let count = of_z-to_z w64 (length xs) (omega (arith, room, short)) in
    second ∙ ap (λ (l : List ℕ). put l (at + 24) xs) (first ∙ ap (λ (n : ℕ). with_field b at cvvr_c_size n) count)

pub returns-clause-size : goal.returns-clause-size
returns-clause-size g c =
    let xs = c.args.packed.now in
    let now = same_image _ _ _ c.args.at xs c.requires.room c.requires.short c.in_ok-set_cvvr_c_size.ensures.ok c.in_ok-set.ensures.written in
    subst (λ (l : List ℕ). number l c.args.at cvvr_c_size ≡ length xs) (sym now) (packed-size _ c.args.at xs c.requires.room c.requires.short)

pub returns-clause-packed : goal.returns-clause-packed
returns-clause-packed g c =
    let xs = c.args.packed.now in
    let now = same_image _ _ _ c.args.at xs c.requires.room c.requires.short c.in_ok-set_cvvr_c_size.ensures.ok c.in_ok-set.ensures.written in
    subst (λ (l : List ℕ). packed_bytes l c.args.at ≡ xs) (sym now) (packed-bytes _ c.args.at xs c.requires.room c.requires.short)

pub returns-clause-changed : goal.returns-clause-changed
returns-clause-changed g c =
    let xs = c.args.packed.now in
    let now = same_image _ _ _ c.args.at xs c.requires.room c.requires.short c.in_ok-set_cvvr_c_size.ensures.ok c.in_ok-set.ensures.written in
    subst (λ (l : List ℕ). Changed (g.A.Area.image c.args.area.now) l (touched_field c.args.at cvvr_c_size ∷ touched_field c.args.at (cvvr_packed (length xs)) ∷ [])) (sym now) (packed-changed _ c.args.at xs c.requires.room c.requires.short)
