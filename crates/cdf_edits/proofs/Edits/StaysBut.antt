-- A record of which all bytes stay but those of some fields.
use Rattle.cdf_edits.proofs.Common.{Avoids, Edit, Field, In, List, Mark, OutsideFields, Same, Within, arith, byte, inl, inr, length, next_field, number, size_at, subst, sym, tile_lies, type_at, word_kept, ℕ, ◌+◌, ◌-◌, ◌<◌, ◌∷◌, ◌≡◌, ◌≤◌}
use Rattle.cdf_edits.proofs.Edits.MarkLemmas.{within-avoids}
use Rattle.cdf_edits.proofs.Frame.Meaning.{Kept, KeptButLink}

pub record StaysBut (b now : List ℕ) (m : ℕ) (fields : List Field) : Type 0 where
  pub bytes : (i : ℕ) → i < size_at b m → OutsideFields fields i → byte now (m + i) ≡ byte b (m + i)
  pub inside : m + size_at b m ≤ length b

-- its marks lie in them
pub stays_within : {b now old new : List ℕ} {marks : List Mark} {reborn : List ℕ} → Edit b now old new marks reborn → (m type : ℕ) (fields : List Field) → In m old → type_at b m ≡ type → Avoids marks type m 0 12 → Within marks type m fields → StaysBut b now m fields
stays_within {b = b} {old = old} {marks = marks} e m type fields i is heads w = record {
  bytes = λ n lt out. (e.part m type n (n + 1) i is heads (within-avoids marks type m fields n w out) (omega arith)).each (m + n) (omega arith) (omega arith);
  inside = (tile_lies b 8 (length b) old m e.tiled i).high;
}

module _ {b now : List ℕ} {m : ℕ} where
  pub stays_kept : (fields : List Field) → Kept b now m → StaysBut b now m fields
  stays_kept fields k = record { bytes = λ i lt out. k.same.each (m + i) (omega arith) (omega arith); inside = k.inside }

  pub stays_link : (fields : List Field) → KeptButLink b now m → StaysBut b now m (next_field ∷ fields)
  stays_link fields k = record {
    bytes = λ i lt out. elim out.0 [ inl l ↦ k.start.each (m + i) (omega arith) (omega arith) | inr l ↦ k.rest.each (m + i) (omega arith) (omega arith) ];
    inside = k.inside;
  }

  module _ {fields : List Field} (stays : StaysBut b now m fields) where
    -- a part of it without them, and another field
    pub part_stays : (lo hi : ℕ) → hi ≤ size_at b m → ((i : ℕ) → lo ≤ i → i < hi → OutsideFields fields i) → Same b now (m + lo) (m + hi)
    part_stays lo hi fits out = record { each = λ k l u. let at : k ≡ m + (k - m) = omega arith in subst (λ (x : ℕ). byte now x ≡ byte b x) (sym at) (stays.bytes (k - m) (omega arith) (out (k - m) (omega arith) (omega arith))) }

    pub field_stays : (f : Field) → f.place + f.width ≤ size_at b m → ((i : ℕ) → f.place ≤ i → i < f.place + f.width → OutsideFields fields i) → number now m f ≡ number b m f
    field_stays f fits out = word_kept b now (m + f.place) (m + (f.place + f.width)) (part_stays f.place (f.place + f.width) fits out) (m + f.place) f.width (omega arith) (omega arith)
