-- What follows the size of a block, as it is packed or not.
use Rattle.std.proofs.Common.{All, Bool, List, ap, false, sym, true, ℕ, ◌<◌, ◌∙◌, ◌≡◌}
use Rattle.std.specs.Prelude.{◌&&◌, if◌then◌else◌}
use Rattle.cdf_edits.specs.Index.Written.{is_worth_packing}
use Rattle.cdf_model.specs.RunLengths.{IsLongest, Packs}
use Rattle.cdf_writer.specs.Bodies.{cvvr_body, vvr_body}
use Rattle.cdf_writer.specs.Laying.{plain_body}
use Rattle.cdf_writer.specs.Packing.{packed_of}
use Rattle.cdf_writer.proofs.PackedOnce.{packed_once}

module _ (plain packed : List ℕ) (small : All (λ b. b < 256) packed) (packs : Packs packed plain) (longest : IsLongest packed) where
  same : packed ≡ packed_of plain
  same = packed_once packed plain small packs longest

  pub body_packed : is_worth_packing plain packed ≡ true → cvvr_body packed ≡ plain_body true plain
  body_packed w = ap cvvr_body same ∙ sym (ap (λ (b : Bool). if true && b then cvvr_body (packed_of plain) else vvr_body plain) (ap (is_worth_packing plain) (sym same) ∙ w))

  pub body_unpacked : is_worth_packing plain packed ≡ false → vvr_body plain ≡ plain_body true plain
  body_unpacked w = sym (ap (λ (b : Bool). if true && b then cvvr_body (packed_of plain) else vvr_body plain) (ap (is_worth_packing plain) (sym same) ∙ w))

pub body_plain : (rle : Bool) (plain : List ℕ) → rle ≡ false → vvr_body plain ≡ plain_body rle plain
body_plain rle plain r = sym (ap (λ (a : Bool). if a && is_worth_packing plain (packed_of plain) then cvvr_body (packed_of plain) else vvr_body plain) r)
