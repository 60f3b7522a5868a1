-- What is past MaxRec was cut, a record was put, and MaxRec was raised: the image follows `put-rec`, or `put-val`.
use Rattle.cdf_puts.proofs.Common.{Act, AllKeep, Allowances, DataSet, Found, GoesOn, Kind, List, None, Option, Puts, Some, Variable, VariableShape, ap, arith, content, extent, false, is_little, max_rec_at, owned, pad_record, put_changes, put_room, refl, room, room_of_variable, same_Some, shape, stays_all, subst, sym, taken_bytes, true≢false, turned, type_of_variable, variable_named, variable_of, with_record, with_variable, found_in, ℕ, ◌++◌, ◌<◌, ◌∙◌, ◌≡◌, ◌≤◌}
use Rattle.std.specs.Prelude.{map}
use Rattle.std.specs.List.{sum}
use Rattle.cdf_edits.proofs.Common.{ByStep, Command, Does, Follows, Go, allowances, only_reads, step}
use Rattle.cdf_edits.specs.Commands.Named.{OfVariable}
use Rattle.cdf_model.specs.declared.answer.Reply.TheVariants as replies
use Rattle.cdf_model.specs.declared.command.Command.TheVariants as commands
use Rattle.cdf_puts.proofs.GoesThen.{own_there}
use Rattle.cdf_puts.proofs.PutRoom.{longer_by}
use Rattle.cdf_cuts.specs.Past.{past_acts}
use Rattle.cdf_gaps.proofs.CutPutBytes.{bytes_then, none_taken, taken_is}
pub use Rattle.cdf_gaps.proofs.CutPutContent.{content_then}
use Rattle.cdf_gaps.proofs.CutPutIndex.{index_then}
use Rattle.cdf_gaps.proofs.CutPutKeeps.{keeps_then}
use Rattle.cdf_gaps.proofs.CutThenPut.{CutThenPut, fits, last_r_max_rec, put_last}
use Rattle.cdf_gaps.proofs.FreedThenGoes.{goes_taken}

module _ {b mid now last : List ℕ} {kind : Kind} {before : List VariableShape} {own own' : VariableShape} {after : List VariableShape} {raw pad : List ℕ} {first r : ℕ} {acts : List Act} (t : CutThenPut b mid now last kind before own own' after raw pad first r acts) where
  abbrev v : Variable
  v = variable_of b own

  abbrev found : Found
  found = found_in b kind before own

  abbrev all_acts : List Act
  all_acts = past_acts b own first ++ acts

  -- the cut and the put are a step from the first image to the last
  goes : GoesOn b last kind before own own' after all_acts
  goes = goes_taken t.good t.among t.cut.goes_on (put_last t) (none_taken t) t.so.takes

  -- the cut takes nothing, and what the put takes is within its room
  room_after : taken_bytes acts ≤ put_room v own.index r
  room_after = fits t

  as_much : taken_bytes all_acts ≡ taken_bytes acts
  as_much = ap (λ (takes : List (ℕ × ℕ)). sum (map (λ take. take.1) takes)) (taken_is t)

  module _ (pad_stored : extent (max_rec_at b own.vdr) ≤ r → pad ≡ turned (type_of_variable b own.vdr) (is_little b) (pad_record (variable_of b own))) (name : List ℕ) (named : variable_named (content b) name ≡ Some (found_in b kind before own)) where
    puts_named : OfVariable b last name (λ found v v'. Puts b last found r v v' all_acts found.variable.rle)
    puts_named found' x x' is =
        let q : found ≡ found' = same_Some found found' (sym named ∙ is.named) in
        let was : own ≡ x = same_Some own x (sym (own_there t.good t.among) ∙ (rw (← q) at is.before)) in
        let now_is : own' ≡ x' = same_Some own' x' (sym (own_there goes.good goes.among) ∙ (rw (← q) at is.after)) in
        rw (← q, ← was, ← now_is) (subst (Puts b last found r own own' all_acts) (sym t.cut.loose) (record { index = index_then t goes; bytes = bytes_then t goes pad_stored; r_max_rec = last_r_max_rec t }))

    may_be : (elim (variable_named (content b) name) as (λ x. Allowances) [ None ↦ stays_all | Some found ↦ put_changes b (shape b) found r ]) ≡ put_changes b (shape b) found r
    may_be = ap (λ (o : Option Found). elim o as (λ x. Allowances) [ None ↦ stays_all | Some found ↦ put_changes b (shape b) found r ]) named

    module _ (bytes : List ℕ) (raw_is : turned (type_of_variable b own.vdr) (is_little b) raw ≡ bytes) (pad_is : extent (max_rec_at b own.vdr) < r → turned (type_of_variable b own.vdr) (is_little b) pad ≡ pad_record (variable_of b own)) where
      follows_by : (c : Command) → only_reads c ≡ false → step (content b) c ≡ ByStep (Go (with_variable (content b) found (with_record v r bytes)) replies.Plain) → room b c ≡ put_room v own.index r → allowances b (content b) (shape b) c ≡ put_changes b (shape b) found r → Does b c last all_acts → Follows b c last
      follows_by c changes step_is room_is may does =
          record {
            reply = replies.Plain;
            goes = step_is ∙ ap (λ (d : DataSet). ByStep (Go d replies.Plain)) (sym (content_then t bytes raw_is pad_is));
            good = goes.good;
            longer = goes.file.longer;
            within = (let by = longer_by mid last acts (put_last t).follow t.so.takes in let long = t.cut.long in omega (arith, by, long, room_after, room_is));
            reads = λ e. absurd (true≢false (sym e ∙ changes));
            acts = all_acts;
            takes_within = omega (arith, as_much, room_after, room_is);
            acts_follow = goes.follow;
            keeps = subst (λ (a : Allowances). AllKeep b last a all_acts (owned b (shape b))) (sym may) (keeps_then t goes);
            does = does;
          }

      -- as `put-rec` and as `put-val`
      pub put_rec_then : (words : List (List ℕ)) → step (content b) (commands.PutRec name r words) ≡ ByStep (Go (with_variable (content b) found (with_record v r bytes)) replies.Plain) → Follows b (commands.PutRec name r words) last
      put_rec_then words step_is = follows_by (commands.PutRec name r words) refl step_is (rw (room_of_variable, named, own_there t.good t.among) refl) may_be puts_named

      pub put_val_then : (index : List ℕ) (words : List (List ℕ)) → step (content b) (commands.PutVal name r index words) ≡ ByStep (Go (with_variable (content b) found (with_record v r bytes)) replies.Plain) → Follows b (commands.PutVal name r index words) last
      put_val_then index words step_is = follows_by (commands.PutVal name r index words) refl step_is (rw (room_of_variable, named, own_there t.good t.among) refl) may_be puts_named
