-- What `get-rec` and `get-val` answer that show what was read.
use Rattle.cdf_vars.proofs.Common.{Answers, ByStep, Command, Done, Form, Go, Good, HasForm, List, Reply, Some, ap, arith, content, drop, gone, le-ltb, length, only_reads, place, read, record_number_limit, refl, room, size_of, step, sym, take, true, variable_at, ℕ, ◌*◌, ◌∙◌, ◌≡◌, ◌≤◌}
use Rattle.cdf_edits.proofs.Commands.ReadingFollows.{reading_follows}
use Rattle.cdf_model.specs.declared.answer.Reply.TheVariants as replies
use Rattle.cdf_model.specs.declared.command.Command.TheVariants as commands
use Rattle.cdf_vars.proofs.RecordPlaces.{formed, formed_is, named_formed}

shown : (limit : ℕ) (b : List ℕ) (c : Command) (reply : Reply) → step (content b) c ≡ ByStep (Go (content b) reply) → only_reads c ≡ true → room b c ≡ 0 → Good b → length b ≤ limit → Answers limit b c (Done reply) b
shown limit b c reply goes reads none good fits = gone limit b c (content b) reply b goes (omega arith) (reading_follows b c reply reads goes good)

module _ (limit : ℕ) {b name : List ℕ} {form : Form} {rec : ℕ} (h : HasForm b name form) (good : Good b) (fits : length b ≤ limit)
    (within : rec ≤ record_number_limit) {bytes : List ℕ} (is_read : bytes ≡ read (variable_at b form.place.vdr) rec) where
  abbrev formed_read : List ℕ
  formed_read = read (formed form (variable_at b form.place.vdr)) rec

  read_so : formed_read ≡ bytes
  read_so = let v = formed_is h.is_form in let e = is_read in (λ i. read (sym v i) rec) ∙ sym e

  pub shown_rec : Answers limit b (commands.GetRec name rec) (Done (replies.Values form.shape.t form.shape.elems bytes)) b
  shown_rec =
      shown limit b (commands.GetRec name rec) (replies.Values form.shape.t form.shape.elems bytes)
      (rw (named_formed h.is_form name h.named, le-ltb record_number_limit rec within) (ap (λ (xs : List ℕ). ByStep (Go (content b) (replies.Values form.shape.t form.shape.elems xs))) read_so))
      refl refl good fits

  pub shown_val : (index : List ℕ) {n : ℕ} → place (content b).majority form.shape.dims form.shape.varys index ≡ Some n → {size : ℕ} → size ≡ size_of form.shape.t * form.shape.elems
      → (value : List ℕ) → value ≡ take size (drop (n * size) bytes) → Answers limit b (commands.GetVal name rec index) (Done (replies.Values form.shape.t form.shape.elems value)) b
  shown_val index {n} at {size} wide value is =
      let all = size_of form.shape.t * form.shape.elems in
      let bits : take all (drop (n * all) formed_read) ≡ take size (drop (n * size) bytes) = λ i. take (sym wide i) (drop (n * sym wide i) (read_so i)) in
      shown limit b (commands.GetVal name rec index) (replies.Values form.shape.t form.shape.elems value)
      (rw (named_formed h.is_form name h.named, at, le-ltb record_number_limit rec within) (ap (λ (xs : List ℕ). ByStep (Go (content b) (replies.Values form.shape.t form.shape.elems xs))) (bits ∙ sym is)))
      refl refl good fits
