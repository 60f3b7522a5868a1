-- Records were deleted under a rule for missing records, and MaxRec is another one, which was written, or it stays: the image follows `del-recs`.
use Rattle.cdf_puts.proofs.Common.{Act, AllKeep, Allowances, DataSet, Found, GoesOn, Kind, List, None, Option, Some, Variable, VariableShape, ap, arith, content, extent, found_in, is_sparse, le-ltb, max_rec_at, owned, refl, room, room_of_variable, same_Some, shape, stays_all, subst, sym, true≢false, variable_named, variable_of, with_variable, ℕ, ◌++◌, ◌∙◌, ◌≡◌, ◌≢◌}
use Rattle.cdf_edits.proofs.Common.{ByStep, Command, Follows, Go, lt-leb, step}
use Rattle.cdf_edits.specs.Commands.Cuts.{del_recs_changes}
use Rattle.cdf_edits.specs.Commands.Deleting.{Deletes}
use Rattle.cdf_edits.specs.Commands.Named.{OfVariable}
use Rattle.cdf_edits.specs.Commands.Room.{cut_room}
use Rattle.cdf_edits.specs.Index.Blocks.{extent_after}
use Rattle.cdf_model.specs.RecordSteps.{without_records}
use Rattle.cdf_model.specs.declared.answer.Reply.TheVariants as replies
use Rattle.cdf_model.specs.declared.command.Command.TheVariants as commands
use Rattle.cdf_puts.proofs.GoesThen.{own_there}
use Rattle.cdf_cuts.specs.Past.{cut_off, past_acts}
use Rattle.cdf_sparse.proofs.CutTwice.{CutTwice, low_writes}
use Rattle.cdf_sparse.proofs.TwiceContent.{deleted_content}
use Rattle.cdf_sparse.proofs.TwiceDeletes.{deletes_by}
use Rattle.cdf_sparse.proofs.TwiceGoes.{goes_left, twice_goes}
use Rattle.cdf_sparse.proofs.TwiceKeeps.{keeps}
use Rattle.cdf_sparse.proofs.TwiceLeft.{TwiceEnds, TwiceLeft, left_twice}
use Rattle.cdf_sparse.proofs.TwiceMaxRec.{low_ends, same_ends}
use Rattle.cdf_sparse.proofs.TwiceRoom.{longer_within, takes_within}
use Rattle.cdf_sparse.specs.Opening.{opening_acts}

-- ---- the command, which names the variable

module _ {b mid left now : List ℕ} {kind : Kind} {before : List VariableShape} {own own' : VariableShape} {after : List VariableShape} {first last : ℕ} {takes : List Act} (t : TwiceLeft b mid left kind before own own' after first last takes) (e : TwiceEnds b left now kind (cut_off own' (extent_after (variable_of b own) first last)) (extent_after (variable_of b own) first last)) (name : List ℕ)
    (named : variable_named (content b) name ≡ Some (found_in b kind before own)) where
  abbrev v : Variable
  v = variable_of b own

  abbrev found : Found
  found = found_in b kind before own

  abbrev rest : VariableShape
  rest = cut_off own' (extent_after v first last)

  abbrev acts : List Act
  acts = opening_acts b own first last takes ++ past_acts mid own' (extent_after v first last)

  abbrev c : Command
  c = commands.DelRecs name first last

  goes : GoesOn b now kind before own rest after acts
  goes = twice_goes t e.writes

  deletes_named : OfVariable b now name (λ found x x'. Deletes b now found first last x x' acts (is_sparse found.variable.sparse))
  deletes_named found' y y' is =
      let q : found ≡ found' = same_Some found found' (sym named ∙ is.named) in
      let was : own ≡ y = same_Some own y (sym (own_there t.good t.among) ∙ (rw (← q) at is.before)) in
      let now_is : rest ≡ y' = same_Some rest y' (sym (own_there goes.good goes.among) ∙ (rw (← q) at is.after)) in
      rw (← q, ← was, ← now_is) (rw t.rule (deletes_by t e))

  -- the data set gives the variable without these records
  del_recs_goes : step (content b) c ≡ ByStep (Go (with_variable (content b) found (without_records v.sparse v first last)) replies.Plain)
  del_recs_goes = rw (named, le-ltb last first t.order, lt-leb (extent v.max_rec) last t.has) refl

  room_is : room b c ≡ cut_room v own.index first last
  room_is = rw (room_of_variable, named, own_there t.good t.among) refl

  follows : Follows b c now
  follows =
      let may_be = ap (λ (o : Option Found). elim o as (λ x. Allowances) [ None ↦ stays_all | Some found ↦ del_recs_changes b (shape b) found first last ]) named in
      let some = takes_within t in
      record {
        reply = replies.Plain;
        goes = del_recs_goes ∙ ap (λ (d : DataSet). ByStep (Go d replies.Plain)) (sym (deleted_content t e));
        good = goes.good;
        longer = goes.file.longer;
        within = (let by = longer_within b now acts goes.follow in omega (arith, by, some, room_is));
        reads = λ q. absurd (true≢false (sym q));
        acts = acts;
        takes_within = omega (arith, some, room_is);
        acts_follow = goes.follow;
        keeps = subst (λ (a : Allowances). AllKeep b now a acts (owned b (shape b))) (sym may_be) (keeps t e.writes);
        does = deletes_named;
      }

-- ---- MaxRec falls

module _ {b mid left now : List ℕ} {kind : Kind} {before : List VariableShape} {own own' : VariableShape} {after : List VariableShape} {first last : ℕ} {takes : List Act} {r : ℕ} (t : CutTwice b mid left now kind before own own' after first last takes r) (other : extent (max_rec_at b own.vdr) ≢ extent_after (variable_of b own) first last) where
  pub falls_goes : GoesOn b now kind before own (cut_off own' (extent_after (variable_of b own) first last)) after (opening_acts b own first last takes ++ past_acts mid own' (extent_after (variable_of b own) first last))
  falls_goes = twice_goes (left_twice t) (low_writes t)

  pub falls_content : content now ≡ with_variable (content b) (found_in b kind before own) (without_records (variable_of b own).sparse (variable_of b own) first last)
  falls_content = deleted_content (left_twice t) (low_ends t other)

  pub falls_follows : (name : List ℕ) → variable_named (content b) name ≡ Some (found_in b kind before own) → Follows b (commands.DelRecs name first last) now
  falls_follows = follows (left_twice t) (low_ends t other)

-- ---- MaxRec stays

module _ {b mid left : List ℕ} {kind : Kind} {before : List VariableShape} {own own' : VariableShape} {after : List VariableShape} {first last : ℕ} {takes : List Act} (t : TwiceLeft b mid left kind before own own' after first last takes) (same : extent (max_rec_at b own.vdr) ≡ extent_after (variable_of b own) first last) where
  pub stays_goes : GoesOn b left kind before own (cut_off own' (extent_after (variable_of b own) first last)) after (opening_acts b own first last takes ++ past_acts mid own' (extent_after (variable_of b own) first last))
  stays_goes = goes_left t

  pub stays_content : content left ≡ with_variable (content b) (found_in b kind before own) (without_records (variable_of b own).sparse (variable_of b own) first last)
  stays_content = deleted_content t (same_ends t same)

  pub stays_follows : (name : List ℕ) → variable_named (content b) name ≡ Some (found_in b kind before own) → Follows b (commands.DelRecs name first last) left
  stays_follows = follows t (same_ends t same)
