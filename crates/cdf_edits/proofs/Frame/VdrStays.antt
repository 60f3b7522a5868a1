-- What a VDR means of which all but its link, MaxRec, VXRhead and VXRtail stays.
use Rattle.cdf_edits.proofs.Common.{Field, List, Same, Same-part, VariableShape, [], ap, arith, before_first, cast_signed, cpr_of, dimensions_at, field_bytes, has_bit, has_pad, if◌then◌else◌, is_compressed, is_z, leaves_of, length, max_rec_at, name_in, number, pad_at, pad_field, piece_kept, records_in, size_at, subst, sym, true, type_at, value_bytes, variable_of, vdr_blocking_factor, vdr_end, vdr_flags, vdr_name, w32, word_kept, ℕ, ◌*◌, ◌+◌, ◌==◌, ◌∙◌, ◌∷◌, ◌≡◌, ◌≤◌}
use Rattle.cdf_edits.proofs.Frame.Meaning.{FileSame, pad_place, pad_long, pad_width, end_fits}
use Rattle.cdf_edits.proofs.Frame.VdrAlike.{VdrAlike, copied_in_place, pad_alike, pad_field_alike, value_alike, cpr_link_alike, variable_alike}

pub record VdrStays (b now : List ℕ) (v : ℕ) : Type 0 where
  pub typed : type_at now v ≡ type_at b v
  pub type : Same b now (v + 20) (v + 24)
  pub behind : Same b now (v + 44) (v + size_at b v)
  pub inside : v + size_at b v ≤ length b
  pub end : vdr_end b v ≤ size_at b v

less : (a p s : ℕ) → a + p ≤ s → a ≤ s
less a p s h = omega arith

-- a VDR ends behind its pad value
module _ (b : List ℕ) (v : ℕ) (end : vdr_end b v ≤ size_at b v) where
  pub place_fits : (pad_field b v).place ≤ size_at b v
  place_fits = less (pad_field b v).place (if has_pad b v then value_bytes b v else 0) (size_at b v) end

  pub long : 340 ≤ size_at b v
  long = through (pad_field b v).place (pad_long (is_z b v) (dimensions_at b v) (value_bytes b v)) place_fits
    where
      through : (y : ℕ) → 340 ≤ y → y ≤ size_at b v → 340 ≤ size_at b v
      through y p q = omega arith

  pub long_z : is_z b v ≡ true → 344 + 8 * dimensions_at b v ≤ size_at b v
  long_z e = subst (λ (x : ℕ). x ≤ size_at b v) (pad_place (is_z b v) (dimensions_at b v) (value_bytes b v) e) place_fits

module _ {b now : List ℕ} (file : FileSame b now) {v : ℕ} (k : VdrStays b now v) where
  part : (lo hi : ℕ) → 44 ≤ lo → hi ≤ size_at b v → Same b now (v + lo) (v + hi)
  part lo hi l h = Same-part b now (v + 44) (v + size_at b v) (v + lo) (v + hi) k.behind (omega arith) (omega arith)

  pub stays_alike : VdrAlike b now v v
  stays_alike =
      let n = long b v k.end in
      record {
        typed = k.typed;
        type = copied_in_place b now v 20 24 k.type;
        second = copied_in_place b now v 48 68 (part 48 68 (omega arith) (omega arith));
        third = copied_in_place b now v 72 80 (part 72 80 (omega arith) (omega arith));
        behind = copied_in_place b now v 340 (pad_field b v).place (part 340 (pad_field b v).place (omega arith) (place_fits b v k.end));
      }

  pub late_stays : (f : Field) → 44 ≤ f.place → f.place + f.width ≤ 340 → number now v f ≡ number b v f
  late_stays f low high = word_kept b now (v + 44) (v + size_at b v) k.behind (v + f.place) f.width (omega arith) (let n = long b v k.end in omega arith)

  pub flags_stay : number now v vdr_flags ≡ number b v vdr_flags
  flags_stay = late_stays vdr_flags (omega arith) (omega arith)

  pub packed_stays : is_compressed now v ≡ is_compressed b v
  packed_stays = ap (λ (x : ℕ). has_bit x 2) flags_stay

  pub name_stays : name_in now v vdr_name ≡ name_in b v vdr_name
  name_stays = ap (before_first (λ (x : ℕ). x == 0)) (piece_kept b now (v + 44) (v + size_at b v) k.behind (v + 84) 256 (omega arith) (let n = long b v k.end in omega arith) k.inside file.longer)

  pad_bytes : has_pad b v ≡ true → field_bytes now v (pad_field b v) ≡ field_bytes b v (pad_field b v)
  pad_bytes e =
      let ends = end_fits (has_pad b v) (pad_field b v).place (value_bytes b v) (size_at b v) k.end e in
      let room : (pad_field b v).place + (pad_field b v).width ≤ size_at b v = subst (λ (w : ℕ). (pad_field b v).place + w ≤ size_at b v) (sym (pad_width (is_z b v) (dimensions_at b v) (value_bytes b v))) ends in
      piece_kept b now (v + 44) (v + size_at b v) k.behind (v + (pad_field b v).place) (pad_field b v).width (from (pad_field b v).place (pad_long (is_z b v) (dimensions_at b v) (value_bytes b v))) (upto (pad_field b v).place (pad_field b v).width room) k.inside file.longer
    where
      from : (p : ℕ) → 340 ≤ p → v + 44 ≤ v + p
      from p l = omega arith

      upto : (p n : ℕ) → p + n ≤ size_at b v → v + p + n ≤ v + size_at b v
      upto p n l = omega arith

  pub pad_stays : pad_at now v ≡ pad_at b v
  pad_stays = pad_alike file stays_alike flags_stay pad_bytes

  pub end_stays : vdr_end now v ≡ vdr_end b v
  end_stays = let f = pad_field_alike file stays_alike in let w = value_alike file stays_alike in let p = flags_stay in λ i. (f i).place + (if has_bit (p i) 1 then w i else 0)

  pub cpr_stays : cpr_of now v ≡ cpr_of b v
  cpr_stays = let p = packed_stays in let c = cpr_link_alike file stays_alike in λ i. if p i then c i ∷ [] else []

-- the variable, whose index, MaxRec and records may be others
pub variable_stays : {b now : List ℕ} (file : FileSame b now) (own own' : VariableShape) → VdrStays b now own.vdr → own'.vdr ≡ own.vdr → variable_of now own' ≡ record (variable_of b own) { max_rec = max_rec_at now own.vdr; recs = records_in now own.vdr (leaves_of own'.index) }
variable_stays {b = b} {now = now} file own own' k e =
    let mine : VariableShape = record own' { vdr = own.vdr } in
    let name = name_stays file k in
    let f = flags_stay file k in
    let blocking = late_stays file k vdr_blocking_factor (omega arith) (omega arith) in
    let p = pad_stays file k in
    (λ i. variable_of now (record own' { vdr = e i })) ∙ variable_alike file own mine (stays_alike file k)
    ∙ (λ i. record (variable_of b own) { name = name i; vary = has_bit (f i) 0; rle = has_bit (f i) 2; blocking = cast_signed w32 (blocking i); max_rec = max_rec_at now own.vdr; pad = p i; recs = records_in now own.vdr (leaves_of own'.index) })
