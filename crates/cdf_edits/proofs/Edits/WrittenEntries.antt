-- A part of some entries of a chain is written, which all stay, and then the greatest number of the chain.
use Rattle.cdf_edits.proofs.Common.{Among, AttributeShape, Avoids, Away, Edit, EntryKind, Field, FitsSigned, Good, In, IsSound, List, Mark, Same, Unused, [], adr_type, arith, attribute_records, avoided, cast_unsigned, chain_fields, chain_of, count_field, entry_type, eqb, eqb-true, field_marks, gdr_eof, gdr_type, gdr_uir_head, head_field, inl, inr, integer4, keeps_but_chain, length, mark, max_field, number, refl, shape, size_at, space_fields, sym, true, type_at, uir_type, unmarked, unused_records, w32, within, ℕ, ℤ, ◌+◌, ◌∙◌, ◌∷◌, ◌≡◌, ◌≢◌, ◌≤◌, ◌⊎◌}
use Rattle.cdf_model.specs.declared.kinds.EntryKind.TheVariants as entries
use Rattle.cdf_edits.proofs.Commands.KeptRecords.{keep_owned}
use Rattle.cdf_edits.proofs.Edits.ChainKept.{records_are, list_is}
use Rattle.cdf_edits.proofs.Edits.ChainKinds.{chain_has, chain_in}
use Rattle.cdf_edits.proofs.Edits.ChainMembers.{IsAmong, member, member_kept, own_there}
use Rattle.cdf_edits.proofs.Edits.ChainSpliced.{Rechains}
use Rattle.cdf_edits.proofs.Edits.Composing.{edit_then, head_size, head_type}
use Rattle.cdf_edits.proofs.Edits.EditActs.{acts_none}
use Rattle.cdf_edits.proofs.Edits.EntryFields.{MaxWritten, count_is, head_lies, max_edit, max_integer, max_long, only}
use Rattle.cdf_edits.proofs.Edits.FieldWritten.{Stands, still_says, still_stands}
use Rattle.cdf_edits.proofs.Edits.MarkLemmas.{away-avoids}
use Rattle.cdf_edits.proofs.Edits.OneChain.{Settled, end_before}
use Rattle.cdf_edits.proofs.Edits.OwnersKept.{stood}
use Rattle.cdf_edits.proofs.Edits.RecordFrame.{chain_clear, chain_stays, field_clear, kept, kept_away}
use Rattle.cdf_edits.proofs.Edits.Splice.{adr_stands}
use Rattle.cdf_edits.proofs.Edits.StepEdits.{gdr_in, gdr_long, gdr_typed}
use Rattle.cdf_edits.proofs.Frame.Meaning.{Kept}
use Rattle.cdf_edits.proofs.Frame.OwnersApart.{unused_in}
use Rattle.cdf_edits.proofs.Space.UsedRecords.{apart, filter-says}

-- ---- by the kind

-- a field of entries, and the greatest number
abbrev pub writing : EntryKind → ℕ → List ℕ → Field → List Mark
writing kind adr es f = mark (entry_type kind) (Among es) f ∷ field_marks adr_type adr (max_field kind)

pub record WriteTests (kind : EntryKind) (adr : ℕ) (es : List ℕ) (f : Field) : Type 0 where
  pub clear : keeps_but_chain (writing kind adr es f) kind ≡ true
  pub gdr_within : within (writing kind adr es f) gdr_type space_fields ≡ true
  pub adr_within : within (writing kind adr es f) adr_type (chain_fields kind) ≡ true
  pub heads : avoided (writing kind adr es f) gdr_type 0 12 ≡ true
  pub list : avoided (writing kind adr es f) gdr_type 64 72 ≡ true
  pub end : avoided (writing kind adr es f) gdr_type 36 44 ≡ true
  pub unused : unmarked (writing kind adr es f) uir_type ≡ true
  pub links : avoided (writing kind adr es f) uir_type 0 20 ≡ true
  pub start : avoided (writing kind adr es f) adr_type 0 12 ≡ true
  pub head : avoided (writing kind adr es f) adr_type (head_field kind).place ((head_field kind).place + (head_field kind).width) ≡ true
  pub count : avoided (writing kind adr es f) adr_type (count_field kind).place ((count_field kind).place + (count_field kind).width) ≡ true
  pub first_only : avoided (mark (entry_type kind) (Among es) f ∷ []) adr_type 0 12 ≡ true
  pub other : entry_type kind ≢ adr_type
  pub in_use : entry_type kind ≢ uir_type

pub write_tests : (kind : EntryKind) (adr : ℕ) (es : List ℕ) (f : Field) → WriteTests kind adr es f
write_tests entries.Z adr es f = record { clear = refl; gdr_within = refl; adr_within = refl; heads = refl; list = refl; end = refl; unused = refl; links = refl; start = refl; head = refl; count = refl; first_only = refl; other = apart 9 4 refl; in_use = apart 9 uir_type refl }
write_tests other adr es f = record { clear = refl; gdr_within = refl; adr_within = refl; heads = refl; list = refl; end = refl; unused = refl; links = refl; start = refl; head = refl; count = refl; first_only = refl; other = apart 5 4 refl; in_use = apart 5 uir_type refl }

-- ---- the image

-- a part of these entries, behind the link, was written, and then the greatest number
pub record WritesChain (b now : List ℕ) (kind : EntryKind) (before : List AttributeShape) (own : AttributeShape) (after : List AttributeShape) (es : List ℕ) (f : Field) : Type 0 where
  pub at : IsAmong b before own after
  pub sub : (m : ℕ) → In m es → In m (chain_of own kind)
  pub late : 20 ≤ f.place
  pub mid : List ℕ
  pub first : Edit b mid (shape b).records (shape b).records (mark (entry_type kind) (Among es) f ∷ []) []
  pub long : length mid ≡ length b
  pub greatest : ℕ
  pub written : MaxWritten mid now kind own.adr greatest

module _ {b now : List ℕ} {kind : EntryKind} {before : List AttributeShape} {own : AttributeShape} {after : List AttributeShape} {es : List ℕ} {f : Field} (sound : IsSound b (shape b)) (q : WritesChain b now kind before own after es f) where
  abbrev pub marks : List Mark
  marks = writing kind own.adr es f

  pub tests : WriteTests kind own.adr es f
  tests = write_tests kind own.adr es f

  the_adr : Stands b (shape b).records own.adr adr_type 324
  the_adr = adr_stands sound before own after q.at.was

  mid_adr : Stands q.mid (shape b).records own.adr adr_type 324
  mid_adr = still_stands q.first the_adr tests.first_only (omega arith)

  second : Edit q.mid now (shape b).records (shape b).records (field_marks adr_type own.adr (max_field kind)) []
  second = max_edit q.first.tiled_now mid_adr q.written

  pub edit : Edit b now (shape b).records (shape b).records marks []
  edit = edit_then q.first second

  pub as_long : length now ≡ length b
  as_long = max_long q.first.tiled_now mid_adr q.written ∙ q.long

  pub greatest_now : (z : ℤ) → FitsSigned w32 z → q.greatest ≡ cast_unsigned w32 z → integer4 now own.adr (max_field kind) ≡ z
  greatest_now z fits same = max_integer q.first.tiled_now mid_adr q.written z fits same

  adr_same : (f : Field) → avoided marks adr_type f.place (f.place + f.width) ≡ true → f.place + f.width ≤ 324 → number now own.adr f ≡ number b own.adr f
  adr_same = still_says edit the_adr tests.start

  pub count_now : number now own.adr (count_field kind) ≡ number b own.adr (count_field kind)
  count_now = adr_same (count_field kind) tests.count (count_is kind b own.adr).0

  -- ---- a member of the chain

  beside : (m lo hi : ℕ) → (hi ≤ f.place) ⊎ (f.place + f.width ≤ lo) → Avoids marks (entry_type kind) m lo hi
  beside m lo hi out = ((λ same lies. out), ((λ same lies. absurd (tests.other same)), tt))

  -- beside the part that was written
  pub part_beside : (m lo hi : ℕ) → In m (chain_of own kind) → (hi ≤ f.place) ⊎ (f.place + f.width ≤ lo) → hi ≤ size_at b m → Same b now (m + lo) (m + hi)
  part_beside m lo hi i out fits =
      let is = member kind sound q.at m i in
      let late = q.late in
      edit.part m (entry_type kind) lo hi is.inside is.typed (beside m 0 12 (inl (omega arith))) (beside m lo hi out) fits

  first_head : (m : ℕ) → In m (chain_of own kind) → Same b q.mid (m + 0) (m + 12)
  first_head m i = let is = member kind sound q.at m i in q.first.head m is.inside (λ u. tests.in_use (sym is.typed ∙ u)) (λ none. none)

  pub mid_size : (m : ℕ) → In m (chain_of own kind) → size_at q.mid m ≡ size_at b m
  mid_size m i = head_size b q.mid m (first_head m i)

  pub size_now : (m : ℕ) → In m (chain_of own kind) → size_at now m ≡ size_at b m
  size_now m i = let is = member kind sound q.at m i in head_size b now m (edit.head m is.inside (λ u. tests.in_use (sym is.typed ∙ u)) (λ none. none))

  -- what the writing of the greatest number leaves of it
  pub mid_kept : (m : ℕ) → In m (chain_of own kind) → Kept q.mid now m
  mid_kept m i = let is = member kind sound q.at m i in kept_away second m (entry_type kind) is.inside (head_type b q.mid m (first_head m i) ∙ is.typed) ((λ same lies. tests.other same), tt)

  -- ---- the chain

  pub rechains : Rechains b now (shape b) (shape b).records (shape b).unused marks [] kind before own after (chain_of own kind) es es
  rechains = record {
    edit = edit;
    was = q.at.was;
    clear = tests.clear;
    confined = (inr (λ m i. inr (chain_in kind own m (q.sub m i))), (inr (only (attribute_records own) own.adr (inl refl)), tt));
    fresh = λ m i typed stands. absurd i;
    typed = λ m i. absurd i;
    chain_now = chain_stays edit (entry_type kind) _ _ (chain_of own kind) (chain_has kind own (own_there kind sound q.at).have.0) (adr_same (head_field kind) tests.head (head_lies kind)) (λ m i. beside m 0 20 (inl q.late));
    unused_chain = chain_clear edit uir_type _ _ (shape b).unused sound.has_shape.unused_chain (field_clear edit (shape b).gdr gdr_type gdr_uir_head (gdr_in b (shape b) sound.has_shape) (gdr_typed b (shape b) sound.has_shape) tests.heads tests.list (let l = gdr_long b (shape b) sound.has_shape in omega arith)) tests.links;
    trades = λ m. refl;
    live = λ m i out.
        let away : Away marks (entry_type kind) m = ((λ same lies. out lies), ((λ same lies. tests.other same), tt)) in
        member_kept kind sound q.at edit m i (away-avoids marks (entry_type kind) m 0 12 away) (away-avoids marks (entry_type kind) m 20 (size_at b m) away);
  }

  -- nothing is taken or freed
  pub settled : {need : ℕ} → Good b → Settled sound rechains need []
  settled good = record {
    beside = λ m out. refl;
    sorted = λ m i. absurd i;
    end = field_clear edit (shape b).gdr gdr_type gdr_eof (gdr_in b (shape b) sound.has_shape) (gdr_typed b (shape b) sound.has_shape) tests.heads tests.end (let l = gdr_long b (shape b) sound.has_shape in omega arith) ∙ end_before b good ∙ sym as_long;
    longest = let same = as_long in omega arith;
    takes_within = omega arith;
    acts_follow = acts_none sound edit tests.unused refl (records_are sound rechains) (list_is sound rechains) as_long;
    gdr_within = tests.gdr_within;
    adr_within = tests.adr_within;
    unused = λ may. keep_owned b now may [] Unused (unused_records b (shape b)) (λ m i.
        let inside = unused_in b (shape b) sound m i in
        stood sound edit (records_are sound rechains) m inside (kept edit m uir_type inside (eqb-true (type_at b m) uir_type (filter-says (λ (x : ℕ). eqb (type_at b x) uir_type) (shape b).records m i)) tests.unused));
  }
