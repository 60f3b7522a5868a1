-- What calls ask for that take an entry out of its chain, and what they leave.
use Rattle.cdf_attrs.proofs.Common.{EntryKind, HasChain, HasShape, HolderStands, IsEntryOf, IsSound, LeavesChain, LiesIn, List, Removed, [], adr_type, arith, count_field, count_is, end_of, entries_chain, has_chain, is_a, is_in, is_member, length, linkable-is_a, long_of, max_field, max_lies, max_written, members_of, of_shape, parts_there, shape, size_at, subst, sym, tiles, tiles_are, true, with_field, ℕ, ◌+◌, ◌∷◌, ◌≡◌, ◌≤◌}
use Rattle.cdf_model.specs.declared.kinds.EntryKind.TheVariants as entries

-- what the image has of the chain of an entry
pub record HasEntry (b : List ℕ) (kind : EntryKind) (adr entry : ℕ) : Type 0 where
  pub holder : HolderStands b (entries_chain kind adr)
  pub chain : HasChain b (entries_chain kind adr)
  pub member : is_in entry (members_of b (entries_chain kind adr)) ≡ true
  pub inside : adr + 324 ≤ length b

as_holder : (kind : EntryKind) (b : List ℕ) (adr : ℕ) → is_a b (tiles b) adr_type adr ≡ true → HolderStands b (entries_chain kind adr)
as_holder entries.G b adr is = is
as_holder entries.R b adr is = is
as_holder entries.Z b adr is = is

pub has_entry : (b : List ℕ) (kind : EntryKind) (adr entry : ℕ) → IsSound b (shape b) → IsEntryOf b kind adr entry → HasEntry b kind adr entry
has_entry b kind adr entry sound i = subst (λ (a : ℕ). HasEntry b kind a entry) i.adr_is (
    let h : HasShape b (shape b) = sound.has_shape in
    let there = (parts_there b (shape b) sound i.before (i.own ∷ []) i.after i.stands).1.0 in
    let is : is_a b (tiles b) adr_type i.own.adr ≡ true = subst (λ (ts : List ℕ). is_a b ts adr_type i.own.adr ≡ true) (sym (tiles_are b (shape b) h)) (linkable-is_a b (shape b).records adr_type i.own.adr there.linked.0) in
    let of = of_shape kind (shape b) i.own there.have.0 in
    record {
      holder = as_holder kind b i.own.adr is;
      chain = has_chain h of;
      member = is_member h of entry i.member;
      inside = reach i.own.adr (size_at b i.own.adr) (length b) (long_of b sound adr_type i.own.adr is) (end_of b sound adr_type i.own.adr is);
    })
  where
    reach : (a n l : ℕ) → 324 ≤ n → a + n ≤ l → a + 324 ≤ l
    reach a n l p q = omega arith

-- fields of its ADR lie in an image that is as long
pub count_lies : (b now : List ℕ) (kind : EntryKind) (adr : ℕ) → adr + 324 ≤ length b → length now ≡ length b → LiesIn now adr (count_field kind)
count_lies b now kind adr inside same = within (count_field kind).place (count_field kind).width (count_is kind b adr).0
  where
    within : (p w : ℕ) → p + w ≤ 324 → adr + p + w ≤ length now
    within p w fits = omega arith

pub greatest_lies : (b now : List ℕ) (kind : EntryKind) (adr : ℕ) → adr + 324 ≤ length b → length now ≡ length b → LiesIn now adr (max_field kind)
greatest_lies b now kind adr inside same = within (max_field kind).place (max_field kind).width (max_lies kind).1
  where
    within : (p w : ℕ) → p + w ≤ 324 → adr + p + w ≤ length now
    within p w fits = omega arith

-- it was taken out, and both numbers were written
abbrev pub leaves : {b mid counted late : List ℕ} {kind : EntryKind} {adr entry : ℕ} (count greatest : ℕ) → IsSound b (shape b) → (i : IsEntryOf b kind adr entry) → Removed b mid (entries_chain kind adr) entry → counted ≡ with_field mid adr (count_field kind) count → late ≡ with_field counted adr (max_field kind) greatest → LeavesChain b late kind i.before i.own i.after entry
leaves {b = b} {mid = mid} {counted = counted} {late = late} {kind = kind} {adr = adr} {entry = entry} count greatest sound i removed count_written written = record {
  was = i.stands;
  member = i.member;
  holder = subst (λ (a : ℕ). HolderStands b (entries_chain kind a)) (sym i.adr_is) (has_entry b kind adr entry sound i).holder;
  mid = mid;
  removed = subst (λ (a : ℕ). Removed b mid (entries_chain kind a) entry) (sym i.adr_is) removed;
  count = count;
  counted = counted;
  count_written = subst (λ (a : ℕ). counted ≡ with_field mid a (count_field kind) count) (sym i.adr_is) count_written;
  greatest = greatest;
  written = max_written kind greatest i.adr_is written;
}
