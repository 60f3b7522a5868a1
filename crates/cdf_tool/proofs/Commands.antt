-- A command is answered, or is not known.
use Rattle.cdf_tool.proofs.Common.{Answer, Answers, AnswersBuilt, Asks, Blank, Bool, ByStep, Command, CommandLeads, DataSet, Err, Faulty, IfOk, IsAnswer, IsFront, IsReplyOf, IsSayable, IsShort, IsShown, LineLeads, List, Ok, Option, Outcome, Parsed, RepliesTo, Result, Route, RouteLeads, StepLeads, Tap, Turn, Turns, UnknownWord, [], answered, ap, asked, asked_by, built, content, dump_text, false, faulty, framed, has_tap, if◌then◌else◌, is_full, is_refused, is_some, left_after, parse, refl, reply_text, step, subst, sym, told, transport, true, turn_over, ℕ, ◌∙◌, ◌≡◌}
use Rattle.std.specs.Prelude.{Some, None}
use Rattle.cdf_model.specs.declared.answer.LineError.{LineError}
use Rattle.cdf_model.specs.declared.answer.Outcome.TheVariants.{Refused}
use Rattle.cdf_model.specs.declared.answer.Reason.TheVariants.{BadLine, NoSuchTap}
use Rattle.cdf_model.specs.declared.command.Command.TheVariants.{Dump, Report}
use Rattle.cdf_model.specs.Turns.{replied, reported}
use Rattle.cdf_tool.specs.declared.replay.Answer.{Answer as ToldAnswer}
use Rattle.cdf_tool.specs.declared.replay.Answer.TheVariants as forms
use Rattle.cdf_model.specs.Sayable.{Sayable}
use Rattle.cdf_model.proofs.SayableForms.{sayable-line}
use Rattle.cdf_script.specs.declared.parsing.Parsed.{Parsed as Read}
use Rattle.cdf_script.specs.declared.parsing.Parsed.TheVariants as readings
use Rattle.cdf_script.specs.Asking.{Parses}

module _ (limit : ℕ) (b : List ℕ) (taps : List Tap) (n : ℕ) (c : Command) (o : Outcome) (end : List ℕ) where
  turn_built : built c ≡ true → (answer : Answer) (full : Bool) → step (content b) c ≡ ByStep answer → turn_over b taps n (Asks c) full ≡ answered (content b) taps n answer full
  turn_built is answer full step_is = λ i. if is i then asked (content b) taps n (step_is i) full else faulty (content b) taps n (UnknownWord 0)

  leads_built : built c ≡ true → (answer : Answer) (full : Bool) → step (content b) c ≡ ByStep answer → StepLeads limit b c answer full end → LineLeads limit b (Asks c) full end
  leads_built is answer full step_is leads = subst (λ (t : Bool). CommandLeads t limit b c full end) (sym is) (subst (λ (r : Route). RouteLeads r limit b c full end) (sym step_is) leads)

  built_turns : built c ≡ true → Answers limit b c o end → Turns limit b taps n (Asks c) end taps (is_refused o) (reply_text n o)
  built_turns is answers =
      let full = is_full limit b c answers.answer in
      let turn = turn_built is answers.answer full answers.step_is in
      record {
        full = full;
        leads = leads_built is answers.answer full answers.step_is (refl, answers.moves);
        taps_are = ap (λ (t : Turn). t.taps) (sym turn);
        refused_is = ap is_refused answers.outcome_is ∙ ap (λ (t : Turn). t.refused) (sym turn);
        reply_is = ap (reply_text n) answers.outcome_is ∙ ap (λ (t : Turn). t.text) (sym turn);
      }

  unknown_turns : built c ≡ false → o ≡ Refused (BadLine (UnknownWord 0)) → end ≡ b → Turns limit b taps n (Asks c) end taps (is_refused o) (reply_text n o)
  unknown_turns is unknown same =
      let turn : turn_over b taps n (Asks c) false ≡ faulty (content b) taps n (UnknownWord 0) = λ i. if is i then asked (content b) taps n (step (content b) c) false else faulty (content b) taps n (UnknownWord 0) in
      record {
        full = false;
        leads = subst (λ (t : Bool). CommandLeads t limit b c false end) (sym is) (refl, same);
        taps_are = ap (λ (t : Turn). t.taps) (sym turn);
        refused_is = ap is_refused unknown ∙ ap (λ (t : Turn). t.refused) (sym turn);
        reply_is = ap (reply_text n) unknown ∙ ap (λ (t : Turn). t.text) (sym turn);
      }

  turns_by : (is_built : Bool) → built c ≡ is_built → AnswersBuilt is_built limit b c o end → Turns limit b taps n (Asks c) end taps (is_refused o) (reply_text n o)
  turns_by true is answers = built_turns is answers
  turns_by false is answers = unknown_turns is answers.0 answers.1

  -- a command is answered
  pub command_turns : (refused : Bool) (reply : List ℕ) → AnswersBuilt (built c) limit b c o end → refused ≡ is_refused o → reply ≡ reply_text n o → Turns limit b taps n (Asks c) end taps refused reply
  command_turns refused reply answers refused_is reply_is =
      transport (λ i. Turns limit b taps n (Asks c) end taps (sym refused_is i) (sym reply_is i)) (turns_by (built c) refl answers)

-- a reply to a command that tells what it comes to
pub command_replies : (limit : ℕ) (b : List ℕ) (n : ℕ) (c : Command) (o : Outcome) (end : List ℕ) → AnswersBuilt (built c) limit b c o end → (answer : ToldAnswer) → IsReplyOf n o answer → RepliesTo limit b n c end answer
command_replies limit b n c o end answers (forms.Reply text refused) is = λ taps. command_turns limit b taps n c o end (is_some refused) text.items answers is.1 is.0
command_replies limit b n c o end answers forms.Dump is = is
command_replies limit b n c o end answers (forms.Report name) is = is

-- a command that is no dump and no report is answered, whatever taps there are
pub replies_answer : (limit : ℕ) (b : List ℕ) (taps : List Tap) (n : ℕ) (c : Command) (end : List ℕ) (answer : ToldAnswer) → RepliesTo limit b n c end answer → IsAnswer limit b taps n (Asks c) end answer
replies_answer limit b taps n c end (forms.Reply text refused) is = is taps
replies_answer limit b taps n c end forms.Dump is = absurd is
replies_answer limit b taps n c end (forms.Report name) is = absurd is

-- a blank line is answered
pub turns_blank : (limit : ℕ) (b : List ℕ) (taps : List Tap) (n : ℕ) → Turns limit b taps n Blank b taps false []
turns_blank limit b taps n = record { full = false; leads = (refl, refl); taps_are = refl; refused_is = refl; reply_is = refl }

-- a line that is no command is answered
fault_turns : (limit : ℕ) (b : List ℕ) (taps : List Tap) (n : ℕ) (fault : LineError) (parsed : Parsed) (end : List ℕ) (refused : Bool) (reply : List ℕ) → parsed ≡ Faulty fault → end ≡ b → refused ≡ true → reply ≡ reply_text n (Refused (BadLine fault)) → Turns limit b taps n parsed end taps refused reply
fault_turns limit b taps n fault parsed end refused reply is same refused_is reply_is =
    let there : Turns limit b taps n (Faulty fault) end taps true (reply_text n (Refused (BadLine fault))) = record { full = false; leads = (refl, same); taps_are = refl; refused_is = refl; reply_is = refl } in
    transport (λ i. Turns limit b taps n (sym is i) end taps (sym refused_is i) (sym reply_is i)) there

pub fault_answer : (limit : ℕ) (b : List ℕ) (taps : List Tap) (n : ℕ) (fault : LineError) (parsed : Parsed) (answer : ToldAnswer) → parsed ≡ Faulty fault → IsReplyOf n (Refused (BadLine fault)) answer → IsAnswer limit b taps n parsed b answer
fault_answer limit b taps n fault parsed (forms.Reply text refused) is says = fault_turns limit b taps n fault parsed b (is_some refused) text.items is refl says.1 says.0
fault_answer limit b taps n fault parsed forms.Dump is says = absurd says
fault_answer limit b taps n fault parsed (forms.Report name) is says = absurd says

-- a report of a name that no tap has is refused
unknown_tap : (taps : List Tap) (name : List ℕ) (d : DataSet) (n : ℕ) → has_tap taps name ≡ false → reported d taps n name ≡ replied d taps n (Refused NoSuchTap)
unknown_tap taps name d n is = λ i. if is i then record { data_set = d; taps = left_after taps name d; text = framed n (told taps name d); refused = false } else replied d taps n (Refused NoSuchTap)

unknown_answer : (limit : ℕ) (b : List ℕ) (taps : List Tap) (n : ℕ) (name : List ℕ) (answer : ToldAnswer) → has_tap taps name ≡ false → IsReplyOf n (Refused NoSuchTap) answer → IsAnswer limit b taps n (Asks (Report name)) b answer
unknown_answer limit b taps n name (forms.Reply text refused) none says =
    let is = unknown_tap taps name (content b) n none in
    record {
      full = false;
      leads = (refl, refl);
      taps_are = ap (λ (t : Turn). t.taps) (sym is);
      refused_is = says.1 ∙ ap (λ (t : Turn). t.refused) (sym is);
      reply_is = says.0 ∙ ap (λ (t : Turn). t.text) (sym is);
    }
unknown_answer limit b taps n name forms.Dump none says = absurd says
unknown_answer limit b taps n name (forms.Report other) none says = absurd says

pub unknown_if : {E : Type 0} (limit : ℕ) (b : List ℕ) (taps : List Tap) (n : ℕ) (name : List ℕ) → has_tap taps name ≡ false → (r : Result ToldAnswer E) → IfOk r (IsReplyOf n (Refused NoSuchTap)) → IfOk r (IsAnswer limit b taps n (Asks (Report name)) b)
unknown_if limit b taps n name none (Ok answer) says = unknown_answer limit b taps n name answer none says
unknown_if limit b taps n name none (Err e) says = tt

-- a dump is answered
pub dump_turns : (limit : ℕ) (b : List ℕ) (taps : List Tap) (n : ℕ) (parsed : Parsed) (end : List ℕ) → parsed ≡ Asks Dump → end ≡ b → Turns limit b taps n parsed end taps false (framed n (dump_text (content b)))
dump_turns limit b taps n parsed end is same =
    subst (λ (p : Parsed). Turns limit b taps n p end taps false (framed n (dump_text (content b)))) (sym is)
    (record { full = false; leads = (refl, same); taps_are = refl; refused_is = refl; reply_is = refl })

-- so is a report
known_tap : (taps : List Tap) (name : List ℕ) (d : DataSet) (n : ℕ) → has_tap taps name ≡ true → reported d taps n name ≡ record { data_set = d; taps = left_after taps name d; text = framed n (told taps name d); refused = false }
known_tap taps name d n is = λ i. if is i then record { data_set = d; taps = left_after taps name d; text = framed n (told taps name d); refused = false } else replied d taps n (Refused NoSuchTap)

pub report_turns : (limit : ℕ) (b : List ℕ) (taps : List Tap) (n : ℕ) (name : List ℕ) (parsed : Parsed) (end : List ℕ) (kept : List Tap) → parsed ≡ Asks (Report name) → has_tap taps name ≡ true → end ≡ b → kept ≡ left_after taps name (content b) → Turns limit b taps n parsed end kept false (framed n (told taps name (content b)))
report_turns limit b taps n name parsed end kept asks known same left =
    let is = known_tap taps name (content b) n known in
    subst (λ (p : Parsed). Turns limit b taps n p end kept false (framed n (told taps name (content b)))) (sym asks)
    (record {
      full = false;
      leads = (refl, same);
      taps_are = left ∙ ap (λ (t : Turn). t.taps) (sym is);
      refused_is = ap (λ (t : Turn). t.refused) (sym is);
      reply_is = ap (λ (t : Turn). t.text) (sym is);
    })

-- a front of a dump, and of a report
pub dump_shown : (b : List ℕ) (taps : List Tap) (n : ℕ) (parsed : Parsed) (part : List ℕ) → parsed ≡ Asks Dump → IsFront part (framed n (dump_text (content b))) → IsShown b taps n parsed part
dump_shown b taps n parsed part is front = subst (λ (p : Parsed). IsShown b taps n p part) (sym is) (record { is = refl; front = front })

pub report_shown : (b : List ℕ) (taps : List Tap) (n : ℕ) (name : List ℕ) (parsed : Parsed) (part : List ℕ) → parsed ≡ Asks (Report name) → has_tap taps name ≡ true → IsFront part (framed n (told taps name (content b))) → IsShown b taps n parsed part
report_shown b taps n name parsed part asks known front =
    subst (λ (p : Parsed). IsShown b taps n p part) (sym asks)
    (record { is = refl; front = subst (λ (text : List ℕ). IsFront part text) (ap (λ (t : Turn). t.text) (sym (known_tap taps name (content b) n known))) front })

-- the command of a line that is not too long can be said
pub sayable : (line : Option (List ℕ)) (c : Command) → IsShort line → parse line ≡ Asks c → Sayable c
sayable None c short asks = absurd (cc asks)
sayable (Some line) c short asks = sayable-line line c short asks

pub asked_sayable : (line : Option (List ℕ)) (asked : Parsed) → IsShort line → parse line ≡ asked → IsSayable asked
asked_sayable line (Asks c) short is = sayable line c short is
asked_sayable line Blank short is = tt
asked_sayable line (Faulty fault) short is = tt

-- what was read of a line is what it asks for
pub asked_is : (asked : Parsed) (parsed : Read) → Parses asked (Ok parsed) → asked ≡ asked_by parsed
asked_is asked readings.Blank parses = parses
asked_is asked (readings.Cmd c) parses = parses
