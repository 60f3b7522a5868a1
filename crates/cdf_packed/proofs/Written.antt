-- What the bytes of an image are once cSize and packed bytes were written.
use Rattle.std.proofs.Common.{◌≡◌, ◌∙◌, ◌++◌, ◌+◌, ◌<◌, ◌≤◌, ℕ, List, [], ◌∷◌, length, take, drop, ap, refl, inl, arith}
use Rattle.std.proofs.lemmas.Int.{to_z_pos}
use Rattle.std.proofs.lemmas.List.{take_at}
use Rattle.std.specs.Int.{w64, cast_signed}
use Rattle.cdf_base.proofs.Puts.{length-put}
use Rattle.cdf_base.specs.Bytes.{put}
use Rattle.cdf_edits.proofs.Edits.WrittenFields.{with_field_changed}
use Rattle.cdf_edits.proofs.Frame.ChangedBytes.{changed_put, changed_then}
use Rattle.cdf_edits.specs.Frame.Changed.{Changed, touched_field}
use Rattle.cdf_fields.proofs.Writes.{drop-put_there, field_reads, length-with_field, word-put_outside}
use Rattle.cdf_format.specs.Fields.{LiesIn, counted, number, with_field}
use Rattle.cdf_format.specs.Records.{cvvr_c_size, cvvr_packed}
use Rattle.cdf_format.specs.Stored.{packed_bytes}
use Rattle.cdf_model.specs.Limits.{image_limit}

-- an image with cSize and these packed bytes written into the CVVR at a place
abbrev pub with_packed : List ℕ → ℕ → List ℕ → List ℕ
with_packed b at xs = put (with_field b at cvvr_c_size (length xs)) (at + 24) xs

module _ (b : List ℕ) (at : ℕ) (xs : List ℕ) (room : LiesIn b at (cvvr_packed (length xs))) (short : length b ≤ image_limit) where
  lies : LiesIn b at cvvr_c_size
  lies = omega (arith, room)

  same_length : length (with_field b at cvvr_c_size (length xs)) ≡ length b
  same_length = length-with_field b at cvvr_c_size (length xs) lies

  inside : at + 24 + length xs ≤ length (with_field b at cvvr_c_size (length xs))
  inside = omega (arith, same_length, room)

  pub packed-length : length (with_packed b at xs) ≡ length b
  packed-length = length-put (with_field b at cvvr_c_size (length xs)) (at + 24) xs inside ∙ same_length

  small : length xs < 9223372036854775808
  small = omega (arith, room, short)

  pub packed-size : number (with_packed b at xs) at cvvr_c_size ≡ length xs
  packed-size =
      word-put_outside (with_field b at cvvr_c_size (length xs)) xs (at + 24) (at + 16) 8 inside (inl (omega arith))
      ∙ field_reads b at cvvr_c_size (length xs) lies (omega (arith, small))

  pub packed-bytes : packed_bytes (with_packed b at xs) at ≡ xs
  packed-bytes =
      let mid = with_field b at cvvr_c_size (length xs) in
      let count : counted (cast_signed w64 (number (with_packed b at xs) at cvvr_c_size)) ≡ length xs = ap (λ (n : ℕ). counted (cast_signed w64 n)) packed-size ∙ ap counted (to_z_pos w64 (length xs) small) in
      let there : drop (at + 24) (with_packed b at xs) ≡ xs ++ drop (at + 24 + length xs) mid = drop-put_there mid xs (at + 24) (omega (arith, inside)) in
      ap (λ (n : ℕ). take n (drop (at + 24) (with_packed b at xs))) count
      ∙ ap (λ (l : List ℕ). take (length xs) l) there
      ∙ take_at xs (drop (at + 24 + length xs) mid) (length xs) refl

  pub packed-changed : Changed b (with_packed b at xs) (touched_field at cvvr_c_size ∷ touched_field at (cvvr_packed (length xs)) ∷ [])
  packed-changed =
      let mid = with_field b at cvvr_c_size (length xs) in
      changed_then b mid (with_packed b at xs) (touched_field at cvvr_c_size ∷ []) (touched_field at (cvvr_packed (length xs)) ∷ [])
      (with_field_changed b at cvvr_c_size (length xs) lies)
      (changed_put mid at 24 (length xs) xs refl inside)
