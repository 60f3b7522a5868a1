-- A checksum is put in use, or out of use.
use Rattle.cdf_session.proofs.Common.{Answers, Bool, Cdr, Done, Follows, Frame, Good, HasShape, IsOpen, Known, List, None, Some, [], ap, arith, cdr_at, content, false, flags, good_is_sound, has_bit, has_checksum, if◌then◌else◌, image_limit, length, refl, shape, subst, sym, take, true, with_field, ℕ, ◌<◌, ◌^◌, ◌∙◌, ◌∷◌, ◌≡◌, ◌≤◌}
use Rattle.cdf_vars.specs.Known.{Known as KnownVariables}
use Rattle.cdf_edits.specs.Commands.NewRecords.{with_bits}
use Rattle.cdf_edits.specs.Frame.Changed.{Changed, touched_field}
use Rattle.cdf_edits.proofs.Commands.Answered.{gone}
use Rattle.cdf_edits.proofs.Edits.ChecksumSet.{checksum_follows}
use Rattle.cdf_edits.proofs.Edits.FieldWritten.{IsField, written_changed, written_reads}
use Rattle.cdf_edits.proofs.Edits.StepEdits.{fixed_long}
use Rattle.cdf_format.specs.Records.{cdr_flags}
use Rattle.cdf_format.specs.RecordTypes.{cdr_type}
use Rattle.cdf_format.proofs.ChainsLemmas.{is_a-in, is_a-type}
use Rattle.cdf_model.specs.declared.answer.Reply.TheVariants as replies
use Rattle.cdf_model.specs.declared.command.Command.TheVariants as commands
use Rattle.cdf_session.specs.Seals.{seal_of}
use Rattle.cdf_puts.specs.Starts.{KnowsStarts}
use Rattle.cdf_puts.specs.declared.starts.Starts.{Starts}
use Rattle.cdf_session.proofs.OpenLemmas.{starts_known, attributes_known, variables_known}
use Rattle.md5.specs.Md5.{md5 as md5_of}
use Rattle.std.proofs.lemmas.List.{take_all}
use Rattle.cdf_session.proofs.StepsRead.{follows_read}

-- ---- Flags are written

module _ (b read now : List ℕ) (n : ℕ) (good : Good b) (same : read ≡ b) (written : now ≡ with_field read 8 cdr_flags n) where
  here : now ≡ with_field b 8 cdr_flags n
  here = subst (λ (x : List ℕ). now ≡ with_field x 8 cdr_flags n) same written

  is_field : IsField b (shape b).records 8 cdr_type cdr_flags
  is_field =
      let h : HasShape b (shape b) = (good_is_sound b good).has_shape in
      let tile = is_a-in b (shape b).records cdr_type 8 h.cdr_stands in
      let typed = is_a-type b (shape b).records cdr_type 8 h.cdr_stands in
      let long = fixed_long b (shape b) h cdr_type 8 tile typed in
      record { tiled = h.tiled; inside = tile; typed = typed; fits = omega (arith, long); late = omega arith }

  pub flags_written : n < 2 ^ 32 → flags now ≡ n
  flags_written small = written_reads b now (shape b).records 8 cdr_type cdr_flags n is_field here small

  pub flags_changed : Changed b now (touched_field 8 cdr_flags ∷ [])
  flags_changed = written_changed b now (shape b).records 8 cdr_type cdr_flags n is_field here

-- what was read of Flags
pub flags_read : (b : List ℕ) (cdr : Cdr) (md5 : Bool) → cdr ≡ cdr_at b 8 → with_bits cdr.flags 2 2 (if md5 then 3 else 0) ≡ with_bits (flags b) 2 2 (if md5 then 3 else 0)
flags_read b cdr md5 is = ap (λ (r : Cdr). with_bits r.flags 2 2 (if md5 then 3 else 0)) is

-- ---- the checksum is read

in_use : (b : List ℕ) (cdr : Cdr) (p : Bool) → cdr ≡ cdr_at b 8 → p ≡ has_bit cdr.flags 2 → p ≡ has_checksum b
in_use b cdr p is read = read ∙ ap (λ (r : Cdr). has_bit r.flags 2) is

pub no_seal : (b : List ℕ) (cdr : Cdr) (p : Bool) → cdr ≡ cdr_at b 8 → p ≡ has_bit cdr.flags 2 → p ≡ false → None ≡ seal_of b
no_seal b cdr p is read out = ap (λ (q : Bool). if q then Some (md5_of b) else None) (sym out ∙ in_use b cdr p is read)

pub is_seal : (b now : List ℕ) (cdr : Cdr) (p : Bool) (eof : ℕ) (digest : List ℕ) → cdr ≡ cdr_at b 8 → p ≡ has_bit cdr.flags 2 → p ≡ true → now ≡ b → eof ≡ length now → digest ≡ md5_of (take eof now) → Some digest ≡ seal_of b
is_seal b now cdr p eof digest is read used same long made =
    let whole : take eof now ≡ b = ap (λ (n : ℕ). take n now) long ∙ take_all (length now) now (omega arith) ∙ same in
    ap (λ (x : List ℕ). Some x) (made ∙ ap md5_of whole) ∙ ap (λ (q : Bool). if q then Some (md5_of b) else None) (sym used ∙ in_use b cdr p is read)

-- ---- what that leads to

module _ (b now : List ℕ) (md5 : Bool) (good : Good b) (flags_are : flags now ≡ with_bits (flags b) 2 2 (if md5 then 3 else 0)) (changed : Changed b now (touched_field 8 cdr_flags ∷ [])) (as_long : length now ≡ length b) where
  abbrev Leads : Type 0
  Leads = Follows b (commands.Checksum md5) now

  leads : length b ≤ image_limit → Leads
  leads short = checksum_follows b now md5 good changed as_long flags_are short

  pub checksum_answers : (limit : ℕ) → length b ≤ limit → limit ≤ image_limit → Answers limit b (commands.Checksum md5) (Done replies.Plain) now
  checksum_answers limit fits limited = gone limit b (commands.Checksum md5) (record (content b) { md5 = md5 }) replies.Plain now refl (omega arith) (leads (omega arith))

  pub checksum_open : {U : Type 0} (frame after : Frame U) (known : Known) (vars : KnownVariables) → IsOpen b frame known vars → after ≡ frame → IsOpen now after known vars
  checksum_open frame after known vars was kept =
      let fits = was.fits in
      let limited = was.limited in
      let knows = attributes_known b now (commands.Checksum md5) known (record { not_on_attributes = refl; on_no_entry = λ d n kind. refl }) good (leads (omega arith)) was.knows in
      let variables = variables_known b now (commands.Checksum md5) vars refl good (leads (omega arith)) was.knows_variables in
      let there : IsOpen now frame known vars = record { good = (leads (omega arith)).good; read = follows_read {b = b} {now = now} {c = commands.Checksum md5} good was.read refl (leads (omega arith)); fits = omega arith; limited = limited; unmarked = was.unmarked; knows = knows; knows_variables = variables } in
      subst (λ (f : Frame _). IsOpen now f known vars) (sym kept) there

  -- the nodes that are known stay too
  pub checksum_starts : (starts after : Starts) → KnowsStarts b starts → after ≡ starts → length b ≤ image_limit → KnowsStarts now after
  checksum_starts starts after knows same short = subst (KnowsStarts now) (sym same) (starts_known b now (commands.Checksum md5) starts refl good (leads short) knows)
