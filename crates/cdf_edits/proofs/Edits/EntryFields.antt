-- The fields of a chain of entries in its ADR, by the kind; and what an image comes to in which its greatest number is written.
use Rattle.cdf_edits.proofs.Common.{AreTiles, AttributeShape, Edit, EntryKind, FitsSigned, HasEntries, In, IsChain, List, Shape, [], adr_type, arith, avoided, cast_unsigned, chain_of, count_field, count_of, entries_chain, entry_type, field_marks, head_field, head_of, holder_of, inl, inr, integer4, length, max_field, number, refl, subst, sym, true, type_in, w32, with_field, ℕ, ℤ, ◌+◌, ◌∷◌, ◌≡◌, ◌≤◌}
use Rattle.cdf_model.specs.declared.kinds.EntryKind.TheVariants as entries
use Rattle.cdf_edits.proofs.Edits.ChainsOfShape.{IsOf}
use Rattle.cdf_edits.proofs.Edits.FieldWritten.{IsField, written_edit, written_long, written_integer, Stands, still_says, field_in}
use Rattle.cdf_edits.proofs.Edits.RecordFrame.{chain_clear}

-- ---- by the kind

-- where the greatest number stands in the ADR
pub max_lies : (kind : EntryKind) → (12 ≤ (max_field kind).place) × ((max_field kind).place + (max_field kind).width ≤ 324) × ((max_field kind).width ≡ 4)
max_lies entries.G = (omega arith, omega arith, refl)
max_lies entries.R = (omega arith, omega arith, refl)
max_lies entries.Z = (omega arith, omega arith, refl)

pub head_lies : (kind : EntryKind) → (head_field kind).place + (head_field kind).width ≤ 324
head_lies entries.G = omega arith
head_lies entries.R = omega arith
head_lies entries.Z = omega arith

-- a chain as calls on chains speak of it
pub as_chain : (kind : EntryKind) (b now records : List ℕ) (adr : ℕ) (ms : List ℕ) → IsChain now records (type_in (entries_chain kind adr)) (number now (holder_of b (entries_chain kind adr)) (head_of (entries_chain kind adr))) ms → IsChain now records (entry_type kind) (number now adr (head_field kind)) ms
as_chain entries.G b now records adr ms c = c
as_chain entries.R b now records adr ms c = c
as_chain entries.Z b now records adr ms c = c

pub of_shape : {b : List ℕ} (kind : EntryKind) (s : Shape) (a : AttributeShape) → HasEntries b s.records a → IsOf b s (entries_chain kind a.adr) a.adr (chain_of a kind)
of_shape entries.G s a h = record { holder_is = refl; chain = h.gr_chain }
of_shape entries.R s a h = record { holder_is = refl; chain = h.gr_chain }
of_shape entries.Z s a h = record { holder_is = refl; chain = h.z_chain }

-- where the count stands beside the head
pub count_is : (kind : EntryKind) (b : List ℕ) (adr : ℕ) → ((count_field kind).place + (count_field kind).width ≤ 324) × (avoided (field_marks adr_type adr (max_field kind)) adr_type (count_field kind).place ((count_field kind).place + (count_field kind).width) ≡ true) × (count_of (entries_chain kind adr) ≡ count_field kind) × (holder_of b (entries_chain kind adr) ≡ adr)
count_is entries.G b adr = (omega arith, refl, refl, refl)
count_is entries.R b adr = (omega arith, refl, refl, refl)
count_is entries.Z b adr = (omega arith, refl, refl, refl)

pub as_count : (kind : EntryKind) (b now : List ℕ) (adr : ℕ) → number now (holder_of b (entries_chain kind adr)) (count_of (entries_chain kind adr)) ≡ number now adr (count_field kind)
as_count entries.G b now adr = refl
as_count entries.R b now adr = refl
as_count entries.Z b now adr = refl

-- what the writing of the greatest number leaves
record MaxLeaves (kind : EntryKind) (adr : ℕ) : Type 0 where
  start : avoided (field_marks adr_type adr (max_field kind)) adr_type 0 12 ≡ true
  head : avoided (field_marks adr_type adr (max_field kind)) adr_type (head_field kind).place ((head_field kind).place + (head_field kind).width) ≡ true
  links : avoided (field_marks adr_type adr (max_field kind)) (entry_type kind) 0 20 ≡ true

max_leaves : (kind : EntryKind) (adr : ℕ) → MaxLeaves kind adr
max_leaves entries.G adr = record { start = refl; head = refl; links = refl }
max_leaves entries.R adr = record { start = refl; head = refl; links = refl }
max_leaves entries.Z adr = record { start = refl; head = refl; links = refl }

-- one of some records and others of them
pub with_first : (own : List ℕ) (x : ℕ) (ms : List ℕ) → In x own → ((m : ℕ) → In m ms → In m own) → (m : ℕ) → In m (x ∷ ms) → In m own
with_first own x ms i sub m (inl q) = subst (λ (y : ℕ). In y own) (sym q) i
with_first own x ms i sub m (inr j) = sub m j

pub only : (own : List ℕ) (x : ℕ) → In x own → (m : ℕ) → In m (x ∷ []) → In m own
only own x i = with_first own x [] i (λ m none. absurd none)

-- ---- the greatest number is written

pub record MaxWritten (mid now : List ℕ) (kind : EntryKind) (adr greatest : ℕ) : Type 0 where
  pub is : now ≡ with_field mid adr (max_field kind) greatest

pub max_written : {mid now : List ℕ} {adr adr' : ℕ} (kind : EntryKind) (greatest : ℕ) → adr ≡ adr' → now ≡ with_field mid adr' (max_field kind) greatest → MaxWritten mid now kind adr greatest
max_written {mid = mid} {now = now} kind greatest same written = record { is = subst (λ (a : ℕ). now ≡ with_field mid a (max_field kind) greatest) (sym same) written }

max_in : {mid records : List ℕ} {adr : ℕ} (kind : EntryKind) → AreTiles mid 8 (length mid) records → Stands mid records adr adr_type 324 → IsField mid records adr adr_type (max_field kind)
max_in kind tiled is = field_in tiled is (max_lies kind).0 (max_lies kind).1

module _ {mid now records : List ℕ} {kind : EntryKind} {adr greatest : ℕ} (tiled : AreTiles mid 8 (length mid) records) (is : Stands mid records adr adr_type 324) (written : MaxWritten mid now kind adr greatest) where
  pub max_edit : Edit mid now records records (field_marks adr_type adr (max_field kind)) []
  max_edit = written_edit mid now records adr adr_type (max_field kind) greatest (max_in kind tiled is) written.is

  pub max_long : length now ≡ length mid
  max_long = written_long mid now records adr adr_type (max_field kind) greatest (max_in kind tiled is) written.is

  pub max_chain : (ms : List ℕ) → IsChain mid records (entry_type kind) (number mid adr (head_field kind)) ms → IsChain now records (entry_type kind) (number now adr (head_field kind)) ms
  max_chain ms c = chain_clear max_edit (entry_type kind) _ _ ms c (still_says max_edit is (max_leaves kind adr).start (head_field kind) (max_leaves kind adr).head (head_lies kind)) (max_leaves kind adr).links

  pub max_count : number now adr (count_field kind) ≡ number mid adr (count_field kind)
  max_count = still_says max_edit is (max_leaves kind adr).start (count_field kind) (count_is kind mid adr).1 (count_is kind mid adr).0

  pub max_integer : (z : ℤ) → FitsSigned w32 z → greatest ≡ cast_unsigned w32 z → integer4 now adr (max_field kind) ≡ z
  max_integer z fits same = written_integer mid now records adr adr_type (max_field kind) z (max_in kind tiled is) (max_lies kind).2 fits (subst (λ (n : ℕ). now ≡ with_field mid adr (max_field kind) n) same written.is)
