-- What `set_compression` asks for once all blocks and nodes of a variable went, and what it comes to.
use Rattle.cdf_edits.proofs.Common.{Bool, Good, In, Kind, List, VariableShape, ap, arith, extent, has_bit, if◌then◌else◌, image_limit, inr, is_compressed, length, max_rec_at, number, shape, subst, sym, true, variables, vdr_flags, vdr_vxr_head, vdrs, ℕ, ◌+◌, ◌∙◌, ◌≡◌, ◌≤◌}
use Rattle.std.proofs.Common.{not, ◌&&◌}
use Rattle.cdf_format.specs.Records.{cpr_bytes}
use Rattle.cdf_edits.proofs.Edits.Common.{StandsAmong, has, long, stays_word}
use Rattle.cdf_index.proofs.OneVariable.{OneOf, one_of}
use Rattle.cdf_sparse.proofs.OpenCalls.{vdr_goes}
use Rattle.cdf_compress.proofs.AlreadyPacked.{already_packed}
use Rattle.cdf_compress.proofs.CompressionFollows.{compression_set}
use Rattle.cdf_compress.specs.Compressing.{CompressionSet, packing_room}
use Rattle.cdf_compress.specs.Emptying.{Emptied, emptied}
use Rattle.cdf_compress.specs.Repacking.{IsRepacked}

-- all blocks and nodes of the variable went, wherever it stands among the others
abbrev pub AllWent : List ℕ → List ℕ → ℕ → Type 0
AllWent b mid vdr = (kind : Kind) (before : List VariableShape) (own : VariableShape) (after : List VariableShape) → StandsAmong b kind before own after → own.vdr ≡ vdr → Emptied b mid kind before own after

-- its packing was turned on or off
abbrev pub WasTurned : List ℕ → List ℕ → ℕ → Bool → Type 0
WasTurned mid now vdr rle = (kind : Kind) (before : List VariableShape) (own : VariableShape) (after : List VariableShape) → StandsAmong mid kind before own after → own.vdr ≡ vdr → IsRepacked mid now kind before own after rle

-- a variable has parameters already and is to be packed
pub already : {b now : List ℕ} {vdr flags : ℕ} {rle : Bool} {kind : Kind} {before : List VariableShape} {own : VariableShape} {after : List VariableShape} → Good b → now ≡ b → rle ≡ true → flags ≡ number b vdr vdr_flags → has_bit flags 2 ≡ true → StandsAmong b kind before own after → own.vdr ≡ vdr → IsRepacked b now kind before own after rle
already {b = b} {now = now} {rle = rle} {kind = kind} {before = before} {own = own} {after = after} good same on flags_are packed at is =
    let there : is_compressed b own.vdr ≡ true = ap (λ (n : ℕ). has_bit (number b n vdr_flags) 2) is ∙ ap (λ (n : ℕ). has_bit n 2) (sym flags_are) ∙ packed in
    let stays : IsRepacked b b kind before own after true = (own.cpr, already_packed good at there) in
    subst (IsRepacked b now kind before own after) (sym on) (subst (λ (x : List ℕ). IsRepacked b x kind before own after true) (sym same) stays)

pub low_room : (b : List ℕ) (vdr extra limit : ℕ) → vdr + 340 ≤ length b → length b + extra ≤ limit → limit ≤ image_limit → vdr + 340 ≤ image_limit
low_room b vdr extra limit inside fits low = omega arith

module _ (b mid : List ℕ) (vdr : ℕ) (good : Good b) (went : AllWent b mid vdr) where
  module _ (i : In vdr (vdrs (variables (shape b)))) where
    one : OneOf b vdr
    one = one_of b vdr i

    e : Emptied b mid one.kind one.before one.own one.after
    e = went one.kind one.before one.own one.after one.among one.vdr_is

    pub good_then : Good mid
    good_then = e.goes_on.good

    pub vdr_then : In vdr (vdrs (variables (shape mid)))
    vdr_then = vdr_goes e.goes_on.among one.vdr_is

    pub none_then : number mid vdr vdr_vxr_head ≡ 0
    none_then = ap (λ (n : ℕ). number mid n vdr_vxr_head) (sym one.vdr_is) ∙ (has e.goes_on.good e.goes_on.among).indexed.link_is

    flags_same : number mid one.own.vdr vdr_flags ≡ number b one.own.vdr vdr_flags
    flags_same = stays_word e.descriptor 44 4 (let n = long good one.among in omega arith) (λ i low high. (inr (omega arith), (inr (omega arith), tt)))

    packed_same : is_compressed mid vdr ≡ is_compressed b vdr
    packed_same = ap (λ (n : ℕ). has_bit n 2) (ap (λ (n : ℕ). number mid n vdr_flags) (sym one.vdr_is) ∙ flags_same ∙ ap (λ (n : ℕ). number b n vdr_flags) one.vdr_is)

    room_same : (rle : Bool) → length mid + packing_room mid vdr rle ≡ length b + packing_room b vdr rle
    room_same rle = let l = e.long in let p = packed_same in λ i. l i + (if rle && not (p i) then cpr_bytes 1 else 0)

    pub room_then : (rle : Bool) {limit : ℕ} → length b + packing_room b vdr rle ≤ limit → length mid + packing_room mid vdr rle ≤ limit
    room_then rle {limit = limit} fits = subst (λ (n : ℕ). n ≤ limit) (sym (room_same rle)) fits

  pub set_then : {now : List ℕ} {rle : Bool} → extent (max_rec_at b vdr) ≡ 0 → WasTurned mid now vdr rle → (kind : Kind) (before : List VariableShape) (own : VariableShape) (after : List VariableShape) → StandsAmong b kind before own after → own.vdr ≡ vdr → CompressionSet b now kind before own rle
  set_then none turned kind before own after at is =
      let cut = went kind before own after at is in
      let is_turned = turned kind before (emptied own) after cut.goes_on.among is in
      compression_set (record { good = good; among = at; none_stored = ap (λ (n : ℕ). extent (max_rec_at b n)) is ∙ none; cut = cut; turned = is_turned.1 })
