-- What a VDR means stays where its bytes do, but for its link.
use Rattle.cdf_edits.proofs.Common.{Each, Field, In, Leaf, LeafFits, List, Same, Same-part, VariableShape, arith, cast_signed, is_compressed, leaves_of, map, name_in, number, refl, size_at, variable_of, vdr_end, vdr_flags, vdr_name, w32, ℕ, ◌+◌, ◌∙◌, ◌≡◌, ◌≤◌}
use Rattle.cdf_edits.proofs.Frame.Meaning.{FileSame, Kept, KeptButLink, late_size, late_type, late_number}
use Rattle.cdf_edits.proofs.Frame.VdrAlike.{records_alike}
use Rattle.cdf_edits.proofs.Frame.VdrCopied.{VdrCopied, alike, copied_in_place, raw_max_copied}
use Rattle.cdf_edits.proofs.Frame.VdrStays.{VdrStays, long, stays_alike, flags_stay, packed_stays, name_stays, end_stays, variable_stays}

module _ (b now : List ℕ) (file : FileSame b now) (v : ℕ) (k : KeptButLink b now v) (fits : vdr_end b v ≤ size_at b v) where
  part : (lo hi : ℕ) → 20 ≤ lo → hi ≤ size_at b v → Same b now (v + lo) (v + hi)
  part lo hi l h = Same-part b now (v + 20) (v + size_at b v) (v + lo) (v + hi) k.rest (omega arith) (omega arith)

  stays : VdrStays b now v
  stays = let n = long b v fits in record { typed = late_type b now v k; type = part 20 24 (omega arith) (omega arith); behind = part 44 (size_at b v) (omega arith) (omega arith); inside = k.inside; end = fits }

  pub vdr_kept : VdrCopied b now v v
  vdr_kept =
      let n = long b v fits in
      let a = stays_alike file stays in
      record { typed = a.typed; first = copied_in_place b now v 20 44 (part 20 44 (omega arith) (omega arith)); second = a.second; third = a.third; behind = a.behind }

  pub field_same : (f : Field) → 20 ≤ f.place → f.place + f.width ≤ 340 → number now v f ≡ number b v f
  field_same f late h = late_number b now v k f late (let l = long b v fits in omega arith)

  pub flags_same : number now v vdr_flags ≡ number b v vdr_flags
  flags_same = flags_stay file stays

  pub compressed_same : is_compressed now v ≡ is_compressed b v
  compressed_same = packed_stays file stays

  pub name_same : name_in now v vdr_name ≡ name_in b v vdr_name
  name_same = name_stays file stays

  pub end_kept : vdr_end now v ≤ size_at now v
  end_kept = rw (late_size b now v k, end_stays file stays) fits

pub variable_kept : (b now : List ℕ) (file : FileSame b now) (own : VariableShape) (k : KeptButLink b now own.vdr) (fits : vdr_end b own.vdr ≤ size_at b own.vdr) (records : List ℕ) → ((m : ℕ) → In m (map (λ (leaf : Leaf). leaf.place) (leaves_of own.index)) → Kept b now m) → Each (LeafFits b records own.vdr) (leaves_of own.index)
    → variable_of now own ≡ variable_of b own
variable_kept b now file own k fits records kept room =
    let c = vdr_kept b now file own.vdr k fits in
    let max = raw_max_copied file c in
    let recs = records_alike file (alike c) max (leaves_of own.index) records kept room in
    variable_stays file own own (stays b now file own.vdr k fits) refl ∙ (λ i. record (variable_of b own) { max_rec = cast_signed w32 (max i); recs = recs i })
