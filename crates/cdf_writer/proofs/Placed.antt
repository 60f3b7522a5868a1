-- A room stays behind the finished records until it is written.
use Rattle.std.proofs.Common.{List, [], ap, ap₂, append_assoc, arith, length, refl, replicate, sym, ℕ, ◌*◌, ◌++◌, ◌+◌, ◌∙◌, ◌∷◌, ◌≡◌}
use Rattle.std.proofs.lemmas.List.{length-append, length-replicate}
use Rattle.std.specs.List.{flat_map}
use Rattle.byteorder.specs.Endian.{big_bytes}
use Rattle.byteorder.specs.Numbers.{length-bytes_high_first}
use Rattle.cdf_base.specs.Bytes.{put}
use Rattle.cdf_format.specs.NewFile.{magic}
use Rattle.cdf_model.specs.declared.head.Head.{Head}
use Rattle.cdf_writer.specs.Compact.{gdr_place}
use Rattle.cdf_writer.specs.Progress.{State, begun, finish, finish_in, gdr_made, max_rec_code, size}
use Rattle.cdf_writer.specs.Shown.{IsPlaced, IsStarted}
use Rattle.cdf_writer.specs.declared.bodies.Counts.{Counts}
use Rattle.cdf_writer.specs.declared.bodies.Heads.{Heads}
use Rattle.cdf_writer.specs.declared.progress.FileState.{FileState}
use Rattle.cdf_writer.specs.declared.progress.Part.{Part}
use Rattle.cdf_writer.specs.declared.progress.Part.TheVariants as parts
unfoldable use Rattle.cdf_writer.specs.Bodies.{cdr_bytes, gdr_front}
use Rattle.cdf_writer.specs.Bodies.{whole_record}
use Rattle.cdf_writer.specs.Laying.{laid_size}
use Rattle.cdf_writer.proofs.AttributesTaken.{resting_size}
use Rattle.cdf_writer.proofs.RoomPuts.{put_free}

-- ---- nothing stands behind the finished records once the open part is finished

pub rests : (s : State) → IsPlaced s.part s → IsStarted s.part → ((finish s).room ≡ []) × ((finish s).behind ≡ [])
rests s placed started = of s.part placed started
  where
    of : (p : Part) → IsPlaced p s → IsStarted p → ((finish_in p s).room ≡ []) × ((finish_in p s).behind ≡ [])
    of parts.Start h started = absurd started
    of parts.Between h started = h
    of (parts.Attribute a) h started = (refl, refl)
    of (parts.Variable v) h started = (refl, refl)

pub size_rests : (f : State) → f.room ≡ [] → f.behind ≡ [] → size f ≡ length magic + laid_size (f.cdr ∷ f.gdr ∷ f.finished)
size_rests f room behind = ap₂ (λ (r b : List (List ℕ)). size (record f { room = r; behind = b })) room behind ∙ resting_size f.file f.cdr f.gdr f.finished

pub file_kept : (s : State) → (finish s).file ≡ s.file
file_kept s = of s.part
  where
    of : (p : Part) → (finish_in p s).file ≡ s.file
    of parts.Start = refl
    of parts.Between = refl
    of (parts.Attribute a) = refl
    of (parts.Variable v) = refl

pub gdr_kept : (s : State) → (finish s).gdr ≡ s.gdr
gdr_kept s = of s.part
  where
    of : (p : Part) → (finish_in p s).gdr ≡ s.gdr
    of parts.Start = refl
    of parts.Between = refl
    of (parts.Attribute a) = refl
    of (parts.Variable v) = refl

pub cdr_kept : (s : State) → (finish s).cdr ≡ s.cdr
cdr_kept s = of s.part
  where
    of : (p : Part) → (finish_in p s).cdr ≡ s.cdr
    of parts.Start = refl
    of parts.Between = refl
    of (parts.Attribute a) = refl
    of (parts.Variable v) = refl

gdr_front_long : (counts : Counts) (heads : Heads) → length (gdr_front counts heads) ≡ 76
unfolding gdr_front
gdr_front_long counts heads = omega arith

gdr_long : (counts : Counts) (heads : Heads) (dims : List ℕ) → length (gdr_front counts heads ++ dims) ≡ 76 + length dims
gdr_long counts heads dims = omega (arith, gdr_front_long counts heads, length-append (gdr_front counts heads) dims)

pub gdr_made_long : (file : FileState) (end : ℕ) → length (gdr_made file end) ≡ 76 + length file.dims
gdr_made_long file end = gdr_long file.counts (record { r = file.r; z = file.z; attributes = file.attributes; end = end; r_max_rec = max_rec_code file.extent }) file.dims

pub words_long : (xs : List ℕ) → length (flat_map (big_bytes 4) xs) ≡ 4 * length xs
words_long [] = refl
words_long (x ∷ xs) = omega (arith, words_long xs, length-append (big_bytes 4 x) (flat_map (big_bytes 4) xs), length-bytes_high_first 4 x)

pub cdr_long : (h : Head) → length (cdr_bytes h gdr_place) ≡ 304
unfolding cdr_bytes
cdr_long h = refl

pub room_long : (h : Head) → length (begun h).gdr ≡ 76 + length (begun h).file.dims
room_long h = omega (arith, length-replicate {A = ℕ} (76 + 4 * length h.rdims) 0, words_long h.rdims)

-- ---- what a room becomes

-- what follows the size of a record is written over as many bytes, behind others and before others
pub record_filled : (front back was : List ℕ) (place : ℕ) (body : List ℕ) → length body ≡ length was → place ≡ length front → put (front ++ (whole_record was ++ back)) (place + 8) body ≡ front ++ (whole_record body ++ back)
record_filled front back was place body long e =
    let size : List ℕ = big_bytes 8 (8 + length was) in
    let same : size ≡ big_bytes 8 (8 + length body) = ap (λ (k : ℕ). big_bytes 8 (8 + k)) (sym long) in
    let at : place + 8 ≡ length (front ++ size) = omega (arith, e, length-append front size, length-bytes_high_first 8 (8 + length was)) in
    ap₂ (λ (xs : List ℕ) (k : ℕ). put xs k body) (ap (λ (l : List ℕ). front ++ l) (append_assoc size was back) ∙ sym (append_assoc front size (was ++ back))) at
    ∙ put_free (front ++ size) was back body (sym long)
    ∙ append_assoc front size (body ++ back)
    ∙ ap (λ (l : List ℕ). front ++ (l ++ (body ++ back))) same
    ∙ ap (λ (l : List ℕ). front ++ l) (sym (append_assoc (big_bytes 8 (8 + length body)) body back))

pub room_filled : (front back : List ℕ) (n place : ℕ) (body : List ℕ) → length body ≡ n → place ≡ length front → put (front ++ (whole_record (replicate n 0) ++ back)) (place + 8) body ≡ front ++ (whole_record body ++ back)
room_filled front back n place body long e = record_filled front back (replicate n 0) place body (long ∙ sym (length-replicate {A = ℕ} n 0)) e
