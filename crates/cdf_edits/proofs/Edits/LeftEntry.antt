-- An entry is taken out of a chain of an attribute, which then counts one less, and the greatest number is written.
use Rattle.cdf_edits.proofs.Common.{ActsFollow, AttributeShape, Distinct, Edit, EntryKind, FitsSigned, HasShape, HolderStands, In, IsChain, IsSound, List, Mark, Removed, Shape, [], adr_type, ap, arith, attribute_records, avoided, cases_eq, cast_unsigned, chain_fields, chain_of, count_field, ended, entries_chain, entry_type, eof, eq-eqb, field_marks, gdr_eof, gdr_type, gdr_uir_head, giving_marks, head_field, head_of, holder_of, holder_type, inl, inr, integer4, keeps_but_chain, length, linkable-in, linkable-type, max_field, members_of, ne_eqb, number, refl, removing_marks, shape, size_at, space_fields, subst, sym, true, type_at, type_in, uir_next_uir, uir_prev_uir, uir_type, unmarked, w32, with_field, within, ℕ, ℤ, ◌++◌, ◌+◌, ◌∙◌, ◌∷◌, ◌≡◌, ◌≢◌, ◌≤◌}
use Rattle.cdf_model.specs.declared.kinds.EntryKind.TheVariants as entries
use Rattle.cdf_edits.specs.Space.Chains.{without}
use Rattle.cdf_edits.proofs.Edits.AttributeFrame.{AreThere}
use Rattle.cdf_edits.proofs.Edits.ChainKinds.{chain_has, chain_in}
use Rattle.cdf_edits.proofs.Edits.ChainEdits.{removed_edit}
use Rattle.cdf_edits.proofs.Edits.ChainOwners.{left_trades, rechained}
use Rattle.cdf_edits.proofs.Edits.ChainSpliced.{Rechains, now_is}
use Rattle.cdf_edits.proofs.Edits.ChainsOfShape.{has_chain, left_chain, members_are}
use Rattle.cdf_edits.proofs.Edits.Composing.{edit_then}
use Rattle.cdf_edits.proofs.Edits.EditActs.{acts_none}
use Rattle.cdf_edits.proofs.Edits.FieldWritten.{IsField, written_edit, written_long, Stands, still_stands, still_says, field_in}
use Rattle.cdf_edits.proofs.Edits.FreedEntry.{Frees}
use Rattle.cdf_edits.proofs.Edits.MarkLemmas.{avoided-avoids, away-avoids, away-within, ended-avoids, unmarked-away}
use Rattle.cdf_edits.proofs.Edits.EntryFields.{MaxWritten, head_lies, count_is, as_chain, max_chain, max_count, max_edit, max_integer, max_long, of_shape, only}
use Rattle.cdf_edits.proofs.Edits.RecordFrame.{field_clear, chain_clear, kept_but_link}
use Rattle.cdf_edits.proofs.Edits.Splice.{parts_there, adr_stands}
use Rattle.cdf_edits.proofs.Edits.StepEdits.{gdr_in, gdr_typed, gdr_long}
use Rattle.cdf_edits.proofs.Frame.Meaning.{KeptButLink}
use Rattle.cdf_edits.proofs.Space.UsedRecords.{apart}

-- the members of a chain that one left
pub left_members : (old m : ℕ) (es : List ℕ) → Distinct es → In m (without old es) → In m es × (m ≢ old)
left_members old m [] d i = absurd i
left_members old m (e ∷ es) d i = elim (cases_eq e old) [
  | inl q ↦ let k : In m es = rw (eq-eqb e old q) at i in (inr k, (λ x. d.0 (subst (λ (y : ℕ). In y es) (x ∙ sym q) k)))
  | inr ne ↦
      let j : In m (e ∷ without old es) = rw (ne_eqb e old ne) at i in
      elim j [ inl x ↦ (inl x, (λ y. ne (sym x ∙ y))) | inr k ↦ let r = left_members old m es d.1 k in (inr r.0, r.1) ]
]

pub left_length : (old : ℕ) (es : List ℕ) → In old es → length (without old es) + 1 ≡ length es
left_length old [] i = absurd i
left_length old (e ∷ es) i = elim (cases_eq e old) [
  | inl q ↦ rw (eq-eqb e old q) (omega arith)
  | inr ne ↦ let there : In old es = elim i [ inl q ↦ absurd (ne (sym q)) | inr j ↦ j ] in rw (ne_eqb e old ne) (let r = left_length old es there in omega arith)
]

-- ---- the marks

abbrev leaving_link : EntryKind → ℕ → List ℕ → List Mark
leaving_link kind adr members = removing_marks adr_type adr (head_field kind) (entry_type kind) members

abbrev pub leaving : EntryKind → ℕ → List ℕ → List Mark
leaving kind adr members = (leaving_link kind adr members ++ field_marks adr_type adr (count_field kind)) ++ field_marks adr_type adr (max_field kind)

pub record LeaveTests (kind : EntryKind) (adr : ℕ) (members list : List ℕ) (old size : ℕ) : Type 0 where
  pub clear : keeps_but_chain (leaving kind adr members) kind ≡ true
  pub unused : unmarked (leaving kind adr members) uir_type ≡ true
  pub start : avoided (leaving kind adr members) (entry_type kind) 0 12 ≡ true
  pub rest : ended (leaving kind adr members) (entry_type kind) 20 ≡ true
  pub heads : avoided (leaving kind adr members) gdr_type 0 12 ≡ true
  pub list_head : avoided (leaving kind adr members) gdr_type 64 72 ≡ true
  pub end : avoided (leaving kind adr members) gdr_type 36 44 ≡ true
  pub links : avoided (leaving kind adr members) uir_type 0 20 ≡ true
  pub adr_link : avoided (leaving_link kind adr members) adr_type 0 12 ≡ true
  pub adr_count : avoided (field_marks adr_type adr (count_field kind)) adr_type 0 12 ≡ true
  pub later_links : avoided (field_marks adr_type adr (count_field kind)) (entry_type kind) 0 20 ≡ true
  pub later_head : avoided (field_marks adr_type adr (count_field kind)) adr_type (head_field kind).place ((head_field kind).place + (head_field kind).width) ≡ true
  pub count_lies : (12 ≤ (count_field kind).place) × ((count_field kind).place + (count_field kind).width ≤ 324)
  pub all_clear : keeps_but_chain (leaving kind adr members ++ giving_marks list (entry_type kind) old size) kind ≡ true
  pub gdr_within : within (leaving kind adr members ++ giving_marks list (entry_type kind) old size) gdr_type space_fields ≡ true
  pub adr_within : within (leaving kind adr members ++ giving_marks list (entry_type kind) old size) adr_type (chain_fields kind) ≡ true
  pub in_use : entry_type kind ≢ uir_type

pub leave_tests : (kind : EntryKind) (adr : ℕ) (members list : List ℕ) (old size : ℕ) → LeaveTests kind adr members list old size
leave_tests entries.G adr members list old size = record { clear = refl; unused = refl; start = refl; rest = refl; heads = refl; list_head = refl; end = refl; links = refl; adr_link = refl; adr_count = refl; later_links = refl; later_head = refl; count_lies = (omega arith, omega arith); all_clear = refl; gdr_within = refl; adr_within = refl; in_use = apart 5 uir_type refl }
leave_tests entries.R adr members list old size = record { clear = refl; unused = refl; start = refl; rest = refl; heads = refl; list_head = refl; end = refl; links = refl; adr_link = refl; adr_count = refl; later_links = refl; later_head = refl; count_lies = (omega arith, omega arith); all_clear = refl; gdr_within = refl; adr_within = refl; in_use = apart 5 uir_type refl }
leave_tests entries.Z adr members list old size = record { clear = refl; unused = refl; start = refl; rest = refl; heads = refl; list_head = refl; end = refl; links = refl; adr_link = refl; adr_count = refl; later_links = refl; later_head = refl; count_lies = (omega arith, omega arith); all_clear = refl; gdr_within = refl; adr_within = refl; in_use = apart 9 uir_type refl }

as_leaving : (kind : EntryKind) (b mid records : List ℕ) (adr : ℕ) (members : List ℕ) → Edit b mid records records (removing_marks (holder_type (entries_chain kind adr)) (holder_of b (entries_chain kind adr)) (head_of (entries_chain kind adr)) (type_in (entries_chain kind adr)) members) [] → Edit b mid records records (leaving_link kind adr members) []
as_leaving entries.G b mid records adr members e = e
as_leaving entries.R b mid records adr members e = e
as_leaving entries.Z b mid records adr members e = e

-- ---- the image

pub record LeavesChain (b late : List ℕ) (kind : EntryKind) (before : List AttributeShape) (own : AttributeShape) (after : List AttributeShape) (old : ℕ) : Type 0 where
  pub was : (shape b).attributes ≡ before ++ own ∷ after
  pub member : In old (chain_of own kind)
  pub holder : HolderStands b (entries_chain kind own.adr)
  pub mid : List ℕ
  pub removed : Removed b mid (entries_chain kind own.adr) old
  pub count : ℕ
  pub counted : List ℕ
  pub count_written : counted ≡ with_field mid own.adr (count_field kind) count
  pub greatest : ℕ
  pub written : MaxWritten counted late kind own.adr greatest

module _ {b late : List ℕ} {kind : EntryKind} {before : List AttributeShape} {own : AttributeShape} {after : List AttributeShape} {old : ℕ} (sound : IsSound b (shape b)) (q : LeavesChain b late kind before own after old) where
  abbrev s : Shape
  s = shape b

  h : HasShape b s
  h = sound.has_shape

  abbrev members : List ℕ
  members = members_of b (entries_chain kind own.adr)

  t : (list : List ℕ) (size : ℕ) → LeaveTests kind own.adr members list old size
  t list size = leave_tests kind own.adr members list old size

  u : LeaveTests kind own.adr members s.unused old 0
  u = t s.unused 0

  pub tests : LeaveTests kind own.adr members s.unused old 0
  tests = u

  there : AreThere b s.records (own ∷ [])
  there = (parts_there b s sound before (own ∷ []) after q.was).1.0

  the_adr : Stands b s.records own.adr adr_type 324
  the_adr = adr_stands sound before own after q.was

  members_old : members ≡ chain_of own kind
  members_old = members_are h (of_shape kind s own there.have.0)

  first : Edit b q.mid s.records s.records (leaving_link kind own.adr members) []
  first = as_leaving kind b q.mid s.records own.adr members (removed_edit b (entries_chain kind own.adr) sound q.holder (has_chain h (of_shape kind s own there.have.0)) q.removed)

  mid_adr : Stands q.mid s.records own.adr adr_type 324
  mid_adr = still_stands first the_adr u.adr_link (omega arith)

  pub of_count : IsField q.mid s.records own.adr adr_type (count_field kind)
  of_count = field_in first.tiled_now mid_adr u.count_lies.0 u.count_lies.1

  pub second : Edit q.mid q.counted s.records s.records (field_marks adr_type own.adr (count_field kind)) []
  second = written_edit q.mid q.counted s.records own.adr adr_type (count_field kind) q.count of_count q.count_written

  counted_adr : Stands q.counted s.records own.adr adr_type 324
  counted_adr = still_stands second mid_adr u.adr_count (omega arith)

  pub third : Edit q.counted late s.records s.records (field_marks adr_type own.adr (max_field kind)) []
  third = max_edit second.tiled_now counted_adr q.written

  pub left_greatest : (z : ℤ) → FitsSigned w32 z → q.greatest ≡ cast_unsigned w32 z → integer4 late own.adr (max_field kind) ≡ z
  left_greatest z fits same = max_integer second.tiled_now counted_adr q.written z fits same

  abbrev pub marks : List Mark
  marks = leaving kind own.adr members

  pub edit : Edit b late s.records s.records marks []
  edit = edit_then (edit_then first second) third

  pub as_long : length late ≡ length b
  as_long = max_long second.tiled_now counted_adr q.written ∙ written_long q.mid q.counted s.records own.adr adr_type (count_field kind) q.count of_count q.count_written ∙ q.removed.length_stays

  -- the count that was written
  pub count_now : number late own.adr (count_field kind) ≡ number q.counted own.adr (count_field kind)
  count_now = max_count second.tiled_now counted_adr q.written

  abbrev pub chain' : List ℕ
  chain' = without old (chain_of own kind)

  chain_late : IsChain late s.records (entry_type kind) (number late own.adr (head_field kind)) chain'
  chain_late =
      let c1 = as_chain kind q.mid q.mid s.records own.adr chain' (at_holder (left_chain h (of_shape kind s own there.have.0) q.removed first.tiled_now (count_is kind q.mid own.adr).3)) in
      let c2 = chain_clear second (entry_type kind) _ _ chain' c1 (still_says second mid_adr u.adr_count (head_field kind) u.later_head (head_lies kind)) u.later_links in
      max_chain second.tiled_now counted_adr q.written chain' c2
    where
      at_holder : IsChain q.mid s.records (type_in (entries_chain kind own.adr)) (number q.mid own.adr (head_of (entries_chain kind own.adr))) chain' → IsChain q.mid s.records (type_in (entries_chain kind own.adr)) (number q.mid (holder_of q.mid (entries_chain kind own.adr)) (head_of (entries_chain kind own.adr))) chain'
      at_holder x = subst (λ (a : ℕ). IsChain q.mid s.records (type_in (entries_chain kind own.adr)) (number q.mid a (head_of (entries_chain kind own.adr))) chain') (sym (count_is kind q.mid own.adr).3) x

  once : Distinct (chain_of own kind)
  once = (chain_has kind own there.have.0).once

  lives : (m : ℕ) → In m (chain_of own kind) → KeptButLink b late m
  lives m i =
      let ok = (chain_has kind own there.have.0).linkable m i in
      kept_but_link edit m (entry_type kind) (linkable-in b s.records (entry_type kind) m ok) (linkable-type b s.records (entry_type kind) m ok) (avoided-avoids marks (entry_type kind) m 0 12 u.start) (ended-avoids marks (entry_type kind) m 20 (size_at b m) u.rest)

  pub left_rechains : Rechains b late s s.records s.unused marks [] kind before own after chain' (old ∷ []) []
  left_rechains = record {
    edit = edit;
    was = q.was;
    clear = u.clear;
    confined = (inr (only (attribute_records own) own.adr (inl refl)), (inr (λ m i. inr (chain_in kind own m (subst (In m) members_old i))), (inr (only (attribute_records own) own.adr (inl refl)), (inr (only (attribute_records own) own.adr (inl refl)), tt))));
    fresh = λ m i typed stands. absurd i;
    typed = λ m i. absurd i;
    chain_now = chain_late;
    unused_chain = chain_clear edit uir_type _ _ s.unused h.unused_chain (field_clear edit s.gdr gdr_type gdr_uir_head (gdr_in b s h) (gdr_typed b s h) u.heads u.list_head (let l = gdr_long b s h in omega arith)) u.links;
    trades = left_trades (chain_of own kind) old q.member;
    live = λ m i out. lives m i;
  }

  pub late_is : shape late ≡ rechained s s.records s.unused before own after kind chain' (old ∷ []) [] q.was left_rechains.trades
  late_is = now_is sound left_rechains

  pub old_ok : In old s.records × (type_at b old ≡ entry_type kind)
  old_ok = let ok = (chain_has kind own there.have.0).linkable old q.member in (linkable-in b s.records (entry_type kind) old ok, linkable-type b s.records (entry_type kind) old ok)

  -- so far nothing was taken or freed
  pub left_acts : ActsFollow b late []
  left_acts = acts_none sound edit u.unused refl (ap (λ (x : Shape). x.records) late_is) (ap (λ (x : Shape). x.unused) late_is) as_long

  pub left_end : eof b s.gdr ≡ length b → eof late s.gdr ≡ length late
  left_end ends = field_clear edit s.gdr gdr_type gdr_eof (gdr_in b s h) (gdr_typed b s h) u.heads u.end (let l = gdr_long b s h in omega arith) ∙ ends ∙ sym as_long

  pub left_frees : Frees b late s.records s.unused marks [] kind before own after chain' [] old 0 []
  left_frees = record {
    rechains = left_rechains;
    member = q.member;
    lives = lives old q.member;
    out = λ none. none;
    reborn_in = λ m i. absurd i;
    come_in = λ m i. absurd i;
    fit = λ m i. absurd i;
    sorted = λ m i. absurd i;
    clear = (t s.unused (size_at late old)).all_clear;
    gdr_within = (t s.unused (size_at late old)).gdr_within;
    adr_within = (t s.unused (size_at late old)).adr_within;
    longest = let same = as_long in omega arith;
    takes_within = omega arith;
    acts_follow = left_acts;
    listed = λ m i free. (away-avoids marks uir_type m 0 12 (unmarked-away marks uir_type m u.unused), away-within marks uir_type m (uir_next_uir ∷ uir_prev_uir ∷ []) (unmarked-away marks uir_type m u.unused));
    unlisted = λ m i o. (unmarked-away marks uir_type m u.unused, o);
  }
