-- By such acts a packed variable got a record, whether something was cut first or not: the last image follows the command.
use Rattle.cdf_vars.proofs.Common.{Act, AllKeep, Allowances, ByStep, Command, DataSet, Does, Follows, Found, Go, Good, Kind, List, None, Option, Some, StandsAmong, Variable, VariableShape, allowances, ap, arith, content, false, is_compressed, length, only_reads, owned, put_room, refl, room, room_of_variable, same_Some, shape, stays_all, step, subst, sym, true, true≢false, variable_named, variable_of, with_record, with_variable, ℕ, ◌+◌, ◌∙◌, ◌≡◌, ◌≤◌}
use Rattle.cdf_edits.specs.Commands.Named.{OfVariable}
use Rattle.cdf_edits.specs.Commands.PutSteps.{Puts, PutsBySteps}
use Rattle.cdf_edits.specs.Commands.Puts.{put_changes}
use Rattle.cdf_model.specs.declared.answer.Reply.TheVariants as replies
use Rattle.cdf_model.specs.declared.command.Command.TheVariants as commands
use Rattle.cdf_puts.proofs.GoesThen.{own_there}
use Rattle.cdf_puts.specs.Going.{GoesOn, found_in}
use Rattle.cdf_puts.specs.SoFar.{taken_bytes}
use Rattle.cdf_sparse.proofs.TwiceRoom.{longer_within}

-- record n of a packed variable is these bytes by then, in network order
pub record IsPackedPut (b last : List ℕ) (kind : Kind) (before : List VariableShape) (own own' : VariableShape) (after : List VariableShape) (n : ℕ) (bytes : List ℕ) (acts : List Act) : Type 0 where
  pub good : Good b
  pub among : StandsAmong b kind before own after
  pub rle : is_compressed b own.vdr ≡ true
  pub goes : GoesOn b last kind before own own' after acts
  pub keeps : AllKeep b last (put_changes b (shape b) (found_in b kind before own) n) acts (owned b (shape b))
  pub fits : taken_bytes acts ≤ put_room (variable_of b own) own.index n
  pub steps : PutsBySteps b last (found_in b kind before own) n own acts
  pub content_is : content last ≡ with_variable (content b) (found_in b kind before own) (with_record (variable_of b own) n bytes)

module _ {b last : List ℕ} {kind : Kind} {before : List VariableShape} {own own' : VariableShape} {after : List VariableShape} {n : ℕ} {bytes : List ℕ} {acts : List Act} (p : IsPackedPut b last kind before own own' after n bytes acts) where
  abbrev v : Variable
  v = variable_of b own

  abbrev found : Found
  found = found_in b kind before own

  longer : length last ≤ length b + put_room v own.index n
  longer = omega (arith, longer_within b last acts p.goes.follow, p.fits)

  -- ---- of the variable that has a name

  module _ (name : List ℕ) (named : variable_named (content b) name ≡ Some found) where
    puts_named : OfVariable b last name (λ found v v'. Puts b last found n v v' acts found.variable.rle)
    puts_named found' x x' is =
        let q : found ≡ found' = same_Some found found' (sym named ∙ is.named) in
        let was : own ≡ x = same_Some own x (sym (own_there p.good p.among) ∙ (rw (← q) at is.before)) in
        let now_is : own' ≡ x' = same_Some own' x' (sym (own_there p.goes.good p.goes.among) ∙ (rw (← q) at is.after)) in
        rw (← q, ← was, ← now_is) (subst (Puts b last found n own own' acts) (sym p.rle) p.steps)

    follows_by : (c : Command) → only_reads c ≡ false → step (content b) c ≡ ByStep (Go (with_variable (content b) found (with_record v n bytes)) replies.Plain) → room b c ≡ put_room v own.index n → allowances b (content b) (shape b) c ≡ put_changes b (shape b) found n → Does b c last acts → Follows b c last
    follows_by c changes steps room_is may does =
        record {
          reply = replies.Plain;
          goes = steps ∙ ap (λ (x : DataSet). ByStep (Go x replies.Plain)) (sym p.content_is);
          good = p.goes.good;
          longer = p.goes.file.longer;
          within = omega (arith, longer, room_is);
          reads = λ e. absurd (true≢false (sym e ∙ changes));
          acts = acts;
          takes_within = omega (arith, p.fits, room_is);
          acts_follow = p.goes.follow;
          keeps = subst (λ (a : Allowances). AllKeep b last a acts (owned b (shape b))) (sym may) p.keeps;
          does = does;
        }

    may_be : (elim (variable_named (content b) name) as (λ x. Allowances) [ None ↦ stays_all | Some found ↦ put_changes b (shape b) found n ]) ≡ put_changes b (shape b) found n
    may_be = ap (λ (o : Option Found). elim o as (λ x. Allowances) [ None ↦ stays_all | Some found ↦ put_changes b (shape b) found n ]) named

    -- as `put-rec` and as `put-val`
    pub put_rec_done : (words : List (List ℕ)) → step (content b) (commands.PutRec name n words) ≡ ByStep (Go (with_variable (content b) found (with_record v n bytes)) replies.Plain) → Follows b (commands.PutRec name n words) last
    put_rec_done words steps = follows_by (commands.PutRec name n words) refl steps (rw (room_of_variable, named, own_there p.good p.among) refl) may_be puts_named

    pub put_val_done : (index : List ℕ) (words : List (List ℕ)) → step (content b) (commands.PutVal name n index words) ≡ ByStep (Go (with_variable (content b) found (with_record v n bytes)) replies.Plain) → Follows b (commands.PutVal name n index words) last
    put_val_done index words steps = follows_by (commands.PutVal name n index words) refl steps (rw (room_of_variable, named, own_there p.good p.among) refl) may_be puts_named
