-- What a call answers that carries out a command: the outcome of its step, over the image that the step leads to.
use Rattle.cdf_edits.proofs.Common.{ActsFollow, AllKeep, Answers, Bool, ByStep, Command, DataSet, Does, Done, Follows, Go, Good, List, MovesIf, Plain, Reason, Refuse, Refused, Reply, allowances, ap, arith, content, false, gave, is_accepted, is_full, le-ltb, length, lt-ltb, map, only_reads, outcome, owned, refl, room, shape, step, subst, sum, sym, true, ℕ, ◌+◌, ◌<◌, ◌≡◌, ◌≤◌}
use Rattle.cdf_model.specs.declared.answer.Reason.TheVariants.{TooLarge}
use Rattle.cdf_edits.proofs.Edits.ActsThen.{taken-gave}

-- a step that refuses
pub refused : (limit : ℕ) (b : List ℕ) (c : Command) (reason : Reason) → step (content b) c ≡ ByStep (Refuse reason) → Answers limit b c (Refused reason) b
refused limit b c reason e = record { answer = Refuse reason; step_is = e; outcome_is = refl; moves = refl }

-- a step that goes, where there is room
pub gone : (limit : ℕ) (b : List ℕ) (c : Command) (d : DataSet) (reply : Reply) (now : List ℕ) → step (content b) c ≡ ByStep (Go d reply) → length b + room b c ≤ limit → Follows b c now → Answers limit b c (Done reply) now
gone limit b c d reply now e fits follows =
    let all : is_full limit b c (Go d reply) ≡ false = le-ltb limit (length b + room b c) fits in
    record {
      answer = Go d reply;
      step_is = e;
      outcome_is = sym (ap (outcome (Go d reply)) all);
      moves = subst (λ (full : Bool). MovesIf (is_accepted (Go d reply) full) b c now) (sym all) follows;
    }

-- one that goes and gives records back, and takes none
pub gone_by_giving : (limit : ℕ) (b : List ℕ) (c : Command) (now places : List ℕ) → room b c ≡ 0 → only_reads c ≡ false → step (content b) c ≡ ByStep (Go (content now) Plain) → Good now → length now ≡ length b
    → ActsFollow b now (gave b places) → AllKeep b now (allowances b (content b) (shape b) c) (gave b places) (owned b (shape b)) → Does b c now (gave b places) → length b ≤ limit → Answers limit b c (Done Plain) now
gone_by_giving limit b c now places none writes goes good long acts keeps does fits = gone limit b c (content now) Plain now goes (omega arith) (record {
  reply = Plain;
  goes = goes;
  good = good;
  longer = omega arith;
  within = omega arith;
  reads = λ e. absurd cc;
  acts = gave b places;
  takes_within = subst (λ (xs : List (ℕ × ℕ)). sum (map (λ take. take.1) xs) ≤ room b c) (sym (taken-gave b places)) (omega arith);
  acts_follow = acts;
  keeps = keeps;
  does = does;
})

-- a step that would go, where there is no room
pub too_large : (limit : ℕ) (b : List ℕ) (c : Command) (d : DataSet) (reply : Reply) → step (content b) c ≡ ByStep (Go d reply) → limit < length b + room b c → Answers limit b c (Refused TooLarge) b
too_large limit b c d reply e over =
    let full : is_full limit b c (Go d reply) ≡ true = lt-ltb limit (length b + room b c) over in
    record {
      answer = Go d reply;
      step_is = e;
      outcome_is = sym (ap (outcome (Go d reply)) full);
      moves = subst (λ (p : Bool). MovesIf (is_accepted (Go d reply) p) b c b) (sym full) refl;
    }
