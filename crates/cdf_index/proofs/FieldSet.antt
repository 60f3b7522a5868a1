-- What a write of one field leaves of a record, of a node where the field stands before its entries, and what one of an entry does.
use Rattle.cdf_index.proofs.Common.{Changed, EntrySet, Field, LiesIn, List, NodeInside, StillSays, [], ap, arith, cast_signed, counted, inl, inr, length, min, number, room_at, size_at, touch, vxr_first, vxr_last, vxr_offset, w32, with_field, word, ℕ, ◌*◌, ◌+◌, ◌-◌, ◌/◌, ◌<◌, ◌^◌, ◌∙◌, ◌∷◌, ◌≡◌, ◌≤◌, ◌⊎◌}
use Rattle.cdf_fields.proofs.Writes.{field_reads, length-with_field, other_bytes, other_words}

pub record FieldSet (b now : List ℕ) (at : ℕ) (f : Field) (n : ℕ) : Type 0 where
  pub as_long : length now ≡ length b
  pub reads : n < 256 ^ f.width → number now at f ≡ n
  pub past : (other m : ℕ) → (other + m ≤ at + f.place) ⊎ (at + f.place + f.width ≤ other) → word now other m ≡ word b other m
  pub changed : Changed b now (touch at f.place f.width ∷ [])

pub set_there : (b : List ℕ) (at : ℕ) (f : Field) (n : ℕ) → LiesIn b at f → FieldSet b (with_field b at f n) at f n
set_there b at f n lies = record {
  as_long = length-with_field b at f n lies;
  reads = field_reads b at f n lies;
  past = λ other m. other_words b at f n other m lies;
  changed = record { longer = omega (arith, length-with_field b at f n lies); same = λ i lt o. other_bytes b at f n i lies o.0 };
}

pub field_set : {b now : List ℕ} {at : ℕ} {f : Field} {n : ℕ} → LiesIn b at f → now ≡ with_field b at f n → FieldSet b now at f n
field_set lies is = rw is (set_there _ _ _ _ lies)

-- ---- changes within one range of bytes of a record

pub changed_again : {b mid now : List ℕ} {at from n : ℕ} → Changed b mid (touch at from n ∷ []) → length mid ≡ length b → Changed mid now (touch at from n ∷ []) → Changed b now (touch at from n ∷ [])
changed_again c long d = record { longer = omega (arith, c.longer, d.longer); same = λ i lt o. d.same i (omega arith) o ∙ c.same i lt o }

pub changed_wider : {b now : List ℕ} {at place width : ℕ} (from n : ℕ) → Changed b now (touch at place width ∷ []) → from ≤ place → place + width ≤ from + n → Changed b now (touch at from n ∷ [])
changed_wider {at = at} {place = place} {width = width} from n c low high = record { longer = c.longer; same = λ i lt o. c.same i lt (elim o.0 [ inl l ↦ inl (omega arith) | inr r ↦ inr (omega arith) ], tt) }

-- ---- a node

pub node_head : {b : List ℕ} {at : ℕ} → NodeInside b at → at + 28 ≤ length b
node_head inside = omega (arith, inside.room)

abbrev pub counts : ℕ → ℕ → ℕ → ℕ
counts u r s = min (counted (cast_signed w32 u)) (min (counted (cast_signed w32 r)) ((s - 28) / 16))

-- a field before its entries, but for Nentries
module _ {b now : List ℕ} {at : ℕ} {f : Field} {n : ℕ} (set : FieldSet b now at f n) (low : 8 ≤ f.place) (high : f.place + f.width ≤ 28) (beside : (f.place + f.width ≤ 20) ⊎ (24 ≤ f.place)) where
  pub size_beside : size_at now at ≡ size_at b at
  size_beside = set.past (at + 0) 8 (inl (omega arith))

  pub room_beside : room_at now at ≡ room_at b at
  room_beside = set.past (at + 20) 4 (elim beside [ inl l ↦ inr (omega arith) | inr r ↦ inl (omega arith) ])

  pub entries_beside : (i : ℕ) → StillSays b now at i i
  entries_beside i first last offset s = record {
    first_is = set.past (at + (28 + 4 * i)) 4 (inr (omega arith)) ∙ s.first_is;
    last_is = ap (λ (y : ℕ). word now (at + (28 + 4 * y + 4 * i)) 4) room_beside ∙ set.past (at + (28 + 4 * room_at b at + 4 * i)) 4 (inr (omega arith)) ∙ s.last_is;
    offset_is = ap (λ (y : ℕ). word now (at + (28 + 8 * y + 8 * i)) 8) room_beside ∙ set.past (at + (28 + 8 * room_at b at + 8 * i)) 8 (inr (omega arith)) ∙ s.offset_is;
  }

-- an entry, field by field
pub entry_written : (b : List ℕ) (at n i first last offset : ℕ) → n ≡ room_at b at → i < n → at + (28 + 16 * n) ≤ length b → first < 256 ^ 4 → last < 256 ^ 4 → offset < 256 ^ 8
    → EntrySet b (with_field (with_field (with_field b at (vxr_first i) first) at (vxr_last n i) last) at (vxr_offset n i) offset) at i first last offset
entry_written b at n i first last offset room below inside f l o =
    let begun = set_there b at (vxr_first i) first (omega arith) in
    let ended = set_there (with_field b at (vxr_first i) first) at (vxr_last n i) last (omega (arith, begun.as_long)) in
    let named = set_there (with_field (with_field b at (vxr_first i) first) at (vxr_last n i) last) at (vxr_offset n i) offset (omega (arith, begun.as_long, ended.as_long)) in
    grind (arith, begun, ended, named)
