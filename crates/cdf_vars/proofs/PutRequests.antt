-- What `put-rec` and `put-val` ask for: the bytes that become a record of a variable.
use Rattle.cdf_vars.proofs.Common.{ByStep, Command, Found, Go, Good, HasElements, HasTarget, IsForm, List, MayPut, Ok, PutsAs, Some, Target, Variable, ap, arith, cannot_be_put, content, drop, false, has_so_many, length, length-append, length-drop, length-take, place, read, read_long, record_bytes, record_size_is, refl, size_of, step, subst, sym, take, value_count, values_in, values_long, variable_at, with_record, with_value, with_variable, ℕ, ◌*◌, ◌++◌, ◌+◌, ◌∙◌, ◌≡◌, ◌≤◌}
use Rattle.cdf_model.specs.declared.answer.Reply.TheVariants as replies
use Rattle.cdf_model.specs.declared.command.Command.TheVariants as commands
use Rattle.cdf_vars.proofs.RecordPlaces.{formed, formed_is, named_formed}

-- a value of the record is replaced
with_long : (n size : ℕ) (old value : List ℕ) → n * size + size ≤ length old → length value ≡ size → length (take (n * size) old ++ value ++ drop ((n + 1) * size) old) ≡ length old
with_long n size old value within long = simp (length-append, length-take, length-drop) (omega (arith, within, long))

module _ {b name : List ℕ} {t : Target} (h : HasTarget b name t) (r : ℕ) where
  abbrev form : IsForm b t.form
  form = h.is.is_form

  abbrev v : Variable
  v = variable_at b t.form.place.vdr

  abbrev so_formed : Found
  so_formed = record { kind = t.id.kind; number = t.id.num; variable = formed t.form v }

  long : Good b → (n : ℕ) (words : List (List ℕ)) (bytes : List ℕ) → values_in t.form.shape.t t.form.shape.elems n words ≡ Ok bytes → length bytes ≡ size_of t.form.shape.t * t.form.shape.elems * n
  long good n words bytes is = values_long t.form.shape.t t.form.shape.elems n words bytes (subst (λ (x : Variable). HasElements x.type x.elems) (formed_is form) (has_so_many good form.is_vdr)) is

  -- the value that a word writes has its bytes
  pub one_long : Good b → (words : List (List ℕ)) (value : List ℕ) → values_in t.form.shape.t t.form.shape.elems 1 words ≡ Ok value → length value ≡ size_of t.form.shape.t * t.form.shape.elems
  one_long good words value is = omega (arith, long good 1 words value is)

  may_put : (c : Command) (bytes : List ℕ) → PutsAs name r c → cannot_be_put v r ≡ false → length bytes ≡ record_bytes b t.form.place.vdr
      → step (content b) c ≡ ByStep (Go (with_variable (content b) so_formed (with_record (formed t.form v) r bytes)) replies.Plain) → MayPut b c name r t bytes
  may_put c bytes puts can long goes =
      let same = formed_is form in
      record {
        can = record { is = h.is; can = can; long = long };
        so = record { named = h.named; puts = puts; goes = goes ∙ (λ i. ByStep (Go (with_variable (content b) (record so_formed { variable = sym same i }) (with_record (sym same i) r bytes)) replies.Plain)) };
      }

  module _ (good : Good b) (can : cannot_be_put v r ≡ false) (words : List (List ℕ)) where
    pub rec_may : {n : ℕ} → n ≡ value_count t.form.shape.dims t.form.shape.varys
        → (bytes : List ℕ) → values_in t.form.shape.t t.form.shape.elems n words ≡ Ok bytes → MayPut b (commands.PutRec name r words) name r t bytes
    rec_may {n} all bytes is = may_put (commands.PutRec name r words) bytes (refl, refl) can
        (long good n words bytes is ∙ ap (λ (k : ℕ). size_of t.form.shape.t * t.form.shape.elems * k) all ∙ record_size_is good form)
        (rw (named_formed form name h.named, ← all, is, can) refl)

    pub val_may : (index : List ℕ) {n : ℕ} → place (content b).majority t.form.shape.dims t.form.shape.varys index ≡ Some n
        → {size : ℕ} → size ≡ size_of t.form.shape.t * t.form.shape.elems → (old : List ℕ) → old ≡ read v r → n * size + size ≤ length old
        → (value bytes : List ℕ) → values_in t.form.shape.t t.form.shape.elems 1 words ≡ Ok value → length value ≡ size → bytes ≡ take (n * size) old ++ value ++ drop ((n + 1) * size) old
        → MayPut b (commands.PutVal name r index words) name r t bytes
    val_may index {n} at {size} wide old is_read within value bytes says one made =
        let read_so : read (formed t.form v) r ≡ old = ap (λ (w : Variable). read w r) (sym (formed_is form)) ∙ sym is_read in
        let replaced : with_value (formed t.form v) (read (formed t.form v) r) n value ≡ bytes = (λ i. take (n * sym wide i) (read_so i) ++ value ++ drop ((n + 1) * sym wide i) (read_so i)) ∙ sym made in
        may_put (commands.PutVal name r index words) bytes (refl, refl) can (ap length made ∙ with_long n size old value within one ∙ ap length is_read ∙ read_long good form.is_vdr r)
        (rw (named_formed form name h.named, says, at, can) (ap (λ (xs : List ℕ). ByStep (Go (with_variable (content b) so_formed (with_record (formed t.form v) r xs)) replies.Plain)) replaced))
