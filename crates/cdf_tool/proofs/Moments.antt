-- Moments one after the other, and the run that they tell.
use Rattle.cdf_tool.proofs.Common.{Answer, Appends-nil, Appends-trans, Asks, Blank, Bool, ByContent, ByStep, ByTaps, Command, CommandLeads, DataSet, Faulty, Go, Goes, IsPartOfNext, LineLeads, LinesLead, List, Moment, Moves, MovesIf, Option, Outlets, Parsed, Refuse, Replies, Route, RouteLeads, State, Stops, Tap, Turn, Turns, UnknownWord, [], advance, ap, append-nil, append_assoc, arith, asked, begun, built, content, data_after, false, faulty, flagged_line, framed, has_tap, if◌then◌else◌, inl, is_accepted, last_image, left_after, length, line_of_moment, map, parse, refl, run_on, step, subst, sym, tale, told, true, turn, turn_over, ℕ, ◌++◌, ◌+◌, ◌||◌, ◌∙◌, ◌∷◌, ◌≡◌}
use Rattle.std.proofs.lemmas.List.{length-map, map-append}
use Rattle.cdf_model.specs.Turns.{replied}
use Rattle.cdf_model.specs.declared.answer.Outcome.TheVariants.{Refused}
use Rattle.cdf_model.specs.declared.answer.Reason.TheVariants.{NoSuchTap}
use Rattle.cdf_saving.specs.declared.status.Status.TheVariants.{NoMemory}

-- ---- the content of the image follows the data set

goes_on : (d made : DataSet) (answer : Answer) (full : Bool) (r : _) → answer ≡ Go made r → is_accepted answer full ≡ true → made ≡ data_after d answer full
goes_on d made answer false r goes is = rw goes refl
goes_on d made answer true r goes is = let full = rw goes at is in absurd (cc full)

stays_so : (d : DataSet) (answer : Answer) (full : Bool) → is_accepted answer full ≡ false → d ≡ data_after d answer full
stays_so d (Go made r) true is = refl
stays_so d (Go made r) false is = absurd (cc is)
stays_so d (Refuse reason) full is = refl

same_answer : (answer other : Answer) → ByStep answer ≡ ByStep other → answer ≡ other
same_answer answer other e = cc e

moves_if : (b : List ℕ) (c : Command) (answer : Answer) (full : Bool) (now : List ℕ) (accepted : Bool) → step (content b) c ≡ ByStep answer → is_accepted answer full ≡ accepted → MovesIf accepted b c now → content now ≡ data_after (content b) answer full
moves_if b c answer full now true step_is is f = goes_on (content b) (content now) answer full f.reply (same_answer answer (Go (content now) f.reply) (sym step_is ∙ f.goes)) is
moves_if b c answer full now false step_is is same = ap content same ∙ stays_so (content b) answer full is

-- the image that a command leads to means the data set after it
pub content_moves : (b : List ℕ) (c : Command) (answer : Answer) (full : Bool) (now : List ℕ) → step (content b) c ≡ ByStep answer → Moves b c answer full now → content now ≡ data_after (content b) answer full
content_moves b c answer full now step_is moves = moves_if b c answer full now (is_accepted answer full) step_is refl moves

-- a line that leads to an image makes the data set that it means
asked_stands : (limit : ℕ) (b : List ℕ) (taps : List Tap) (n : ℕ) (c : Command) (full : Bool) (now : List ℕ) (route : Route) → step (content b) c ≡ route → RouteLeads route limit b c full now → (asked (content b) taps n route full).data_set ≡ content now
asked_stands limit b taps n c full now (ByStep answer) is leads = sym (content_moves b c answer full now is leads.1)
asked_stands limit b taps n c full now ByContent is leads = ap content (sym leads.1)
asked_stands limit b taps n c full now (ByTaps name) is leads = reported_stands (has_tap taps name)
  where
    reported_stands : (known : Bool) → (if known then record { data_set = content b; taps = left_after taps name (content b); text = framed n (told taps name (content b)); refused = false } else replied (content b) taps n (Refused NoSuchTap)).data_set ≡ content now
    reported_stands true = ap content (sym leads.1)
    reported_stands false = ap content (sym leads.1)

command_stands : (limit : ℕ) (b : List ℕ) (taps : List Tap) (n : ℕ) (c : Command) (full : Bool) (now : List ℕ) (is_built : Bool) → CommandLeads is_built limit b c full now
    → (if is_built then asked (content b) taps n (step (content b) c) full else faulty (content b) taps n (UnknownWord 0)).data_set ≡ content now
command_stands limit b taps n c full now true leads = asked_stands limit b taps n c full now (step (content b) c) refl leads
command_stands limit b taps n c full now false leads = ap content (sym leads.1)

line_stands : (limit : ℕ) (b : List ℕ) (taps : List Tap) (n : ℕ) (parsed : Parsed) (full : Bool) (now : List ℕ) → LineLeads limit b parsed full now → (turn_over b taps n parsed full).data_set ≡ content now
line_stands limit b taps n Blank full now leads = ap content (sym leads.1)
line_stands limit b taps n (Asks c) full now leads = command_stands limit b taps n c full now (built c) leads
line_stands limit b taps n (Faulty fault) full now leads = ap content (sym leads.1)

-- ---- a run of moments

-- the state of a run from another image on, once so much text and a refusal or none came before
abbrev joined : State → State → State
joined s t = record { data_set = t.data_set; taps = t.taps; count = t.count; text = s.text ++ t.text; refused = s.refused || t.refused }

abbrev fresh : State → State
fresh s = record s { text = []; refused = false }

or-assoc : (a b c : Bool) → ((a || b) || c) ≡ (a || (b || c))
or-assoc true b c = refl
or-assoc false b c = refl

or-false : (a : Bool) → (a || false) ≡ a
or-false true = refl
or-false false = refl

run_joined : (ls : List (Option (List ℕ) × Bool)) (s : State) → run_on s ls ≡ joined s (run_on (fresh s) ls)
run_joined [] s = λ i. record { data_set = s.data_set; taps = s.taps; count = s.count; text = sym (append-nil s.text) i; refused = sym (or-false s.refused) i }
run_joined (l ∷ ls) s =
    let rest = run_on (fresh (advance s l)) ls in
    let t = turn s.data_set s.taps (s.count + 1) (parse l.0) l.1 in
    run_joined ls (advance s l)
    ∙ (λ i. record { data_set = rest.data_set; taps = rest.taps; count = rest.count; text = append_assoc s.text t.text rest.text i; refused = or-assoc s.refused t.refused rest.refused i })
    ∙ sym (ap (joined s) (run_joined ls (advance (fresh s) l)))

run_more : (s : State) (first more : List (Option (List ℕ) × Bool)) → run_on s (first ++ more) ≡ run_on (run_on s first) more
run_more s [] more = refl
run_more s (l ∷ first) more = run_more (advance s l) first more

-- where a run stands over its image
pub record Standing (b : List ℕ) (given : ℕ) (s : State) : Type 0 where
  pub data_set : s.data_set ≡ content b
  pub count : s.count ≡ given

run_stands : (limit : ℕ) (ms : List Moment) (b : List ℕ) (given : ℕ) (s : State) → Standing b given s → LinesLead limit b ms → Standing (last_image b ms) (given + length ms) (run_on s (map flagged_line ms))
run_stands limit [] b given s stands leads = record { data_set = stands.data_set; count = stands.count ∙ omega arith }
run_stands limit (m ∷ ms) b given s stands leads =
    let same : turn s.data_set s.taps (s.count + 1) (parse m.line) m.full ≡ turn_over b s.taps (s.count + 1) (parse m.line) m.full = λ i. turn (stands.data_set i) s.taps (s.count + 1) (parse m.line) m.full in
    let next : Standing m.image (given + 1) (advance s (flagged_line m)) = record {
      data_set = ap (λ (t : Turn). t.data_set) same ∙ line_stands limit b s.taps (s.count + 1) (parse m.line) m.full m.image leads.0;
      count = ap (λ (n : ℕ). n + 1) stands.count;
    } in
    let onward = run_stands limit ms m.image (given + 1) (advance s (flagged_line m)) next leads.1 in
    record { data_set = onward.data_set; count = onward.count ∙ omega arith }

pub tale_stands : (limit : ℕ) (b : List ℕ) (taps : List Tap) (given : ℕ) (ms : List Moment) → LinesLead limit b ms → Standing (last_image b ms) (given + length ms) (tale b taps given ms)
tale_stands limit b taps given ms leads = run_stands limit ms b given (begun b taps given) (record { data_set = refl; count = refl }) leads

-- what is told of more moments is told after what was told before, with the taps that are left
pub tale_more : (limit : ℕ) (b : List ℕ) (taps : List Tap) (given : ℕ) (ms more : List Moment) → LinesLead limit b ms → tale b taps given (ms ++ more) ≡ joined (tale b taps given ms) (tale (last_image b ms) (tale b taps given ms).taps (given + length ms) more)
tale_more limit b taps given ms more leads =
    let s = tale b taps given ms in
    let stands = tale_stands limit b taps given ms leads in
    let same : fresh s ≡ begun (last_image b ms) s.taps (given + length ms) = λ i. record { data_set = stands.data_set i; taps = s.taps; count = stands.count i; text = []; refused = false } in
    ap (λ ls. run_on (begun b taps given) ls) (map-append flagged_line ms more)
    ∙ run_more (begun b taps given) (map flagged_line ms) (map flagged_line more)
    ∙ run_joined (map flagged_line more) s
    ∙ ap (λ (t : State). joined s (run_on t (map flagged_line more))) same

leads_more : (limit : ℕ) (b : List ℕ) (ms more : List Moment) → LinesLead limit b ms → LinesLead limit (last_image b ms) more → LinesLead limit b (ms ++ more)
leads_more limit b [] more first second = second
leads_more limit b (m ∷ ms) more first second = (first.0, leads_more limit m.image ms more first.1 second)

last_more : (b : List ℕ) (ms more : List Moment) → last_image b (ms ++ more) ≡ last_image (last_image b ms) more
last_more b [] more = refl
last_more b (m ∷ ms) more = last_more m.image ms more

-- ---- lines that were answered

count_of : {A B : Type 0} (f : A → B) (xs : List A) (ys : List B) → map f xs ≡ ys → length xs ≡ length ys
count_of f xs ys is = sym (length-map xs f) ∙ ap (λ l. length l) is

pub goes_nowhere : (limit : ℕ) (b : List ℕ) (taps : List Tap) (given : ℕ) → Goes limit b taps given [] b taps false []
goes_nowhere limit b taps given = record { moments = []; lines_are = refl; steps = tt; end_is = refl; taps_are = refl; refused_is = refl; text_is = refl }

pub goes_one : (limit : ℕ) (b : List ℕ) (taps : List Tap) (given n : ℕ) (line : Option (List ℕ)) (end : List ℕ) (kept : List Tap) (refused : Bool) (reply : List ℕ) → n ≡ given + 1 → Turns limit b taps n (parse line) end kept refused reply → Goes limit b taps given (line ∷ []) end kept refused reply
goes_one limit b taps given n line end kept refused reply is t = record {
  moments = record { line = line; full = t.full; image = end } ∷ [];
  lines_are = refl;
  steps = (t.leads, tt);
  end_is = refl;
  taps_are = t.taps_are ∙ ap (λ (k : ℕ). (turn_over b taps k (parse line) t.full).taps) is;
  refused_is = t.refused_is ∙ ap (λ (k : ℕ). (turn_over b taps k (parse line) t.full).refused) is;
  text_is = t.reply_is ∙ ap (λ (k : ℕ). (turn_over b taps k (parse line) t.full).text) is;
}

module _ (limit : ℕ) (b : List ℕ) (taps : List Tap) (given : ℕ) (these : List (Option (List ℕ))) (mid : List ℕ) (half : List Tap) (refused : Bool) (text : List ℕ) (first : Goes limit b taps given these mid half refused text) where
  told_on : (more : List Moment) → tale b taps given (first.moments ++ more) ≡ joined (tale b taps given first.moments) (tale mid half (given + length these) more)
  told_on more =
      tale_more limit b taps given first.moments more first.steps
      ∙ (λ i. joined (tale b taps given first.moments) (tale (sym first.end_is i) (sym first.taps_are i) (given + count_of line_of_moment first.moments these first.lines_are i) more))

  -- and then others
  pub goes_more : (next : ℕ) (those : List (Option (List ℕ))) (end : List ℕ) (kept : List Tap) (more : Bool) (reply : List ℕ) → next ≡ given + length these → Goes limit mid half next those end kept more reply → Goes limit b taps given (these ++ those) end kept (refused || more) (text ++ reply)
  goes_more next those end kept more reply is second =
      let own : Goes limit mid half (given + length these) those end kept more reply = subst (λ (k : ℕ). Goes limit mid half k those end kept more reply) is second in
      record {
        moments = first.moments ++ own.moments;
        lines_are = map-append line_of_moment first.moments own.moments ∙ (λ i. first.lines_are i ++ own.lines_are i);
        steps = leads_more limit b first.moments own.moments first.steps (subst (λ (x : List ℕ). LinesLead limit x own.moments) first.end_is own.steps);
        end_is = own.end_is ∙ ap (λ (x : List ℕ). last_image x own.moments) first.end_is ∙ sym (last_more b first.moments own.moments);
        taps_are = own.taps_are ∙ ap (λ (s : State). s.taps) (sym (told_on own.moments));
        refused_is = (λ i. first.refused_is i || own.refused_is i) ∙ ap (λ (s : State). s.refused) (sym (told_on own.moments));
        text_is = (λ i. first.text_is i ++ own.text_is i) ∙ ap (λ (s : State). s.text) (sym (told_on own.moments));
      }

-- nothing was written yet
pub no_replies : (limit : ℕ) (b : List ℕ) (given : ℕ) (was : Outlets) → Replies limit b given [] b false was was
no_replies limit b given was = record { text = []; goes = goes_nowhere limit b was.taps given; written = Appends-nil was.written }

-- replies, and then others
pub more_replies : (limit : ℕ) (b : List ℕ) (given : ℕ) (these : List (Option (List ℕ))) (mid : List ℕ) (refused : Bool) (was half : Outlets) (next : ℕ) (those : List (Option (List ℕ))) (end : List ℕ) (more : Bool) (now : Outlets)
    → next ≡ given + length these → Replies limit b given these mid refused was half → Replies limit mid next those end more half now → Replies limit b given (these ++ those) end (refused || more) was now
more_replies limit b given these mid refused was half next those end more now is first second = record {
  text = first.text ++ second.text;
  goes = goes_more limit b was.taps given these mid half.taps refused first.text first.goes next those end now.taps more second.text is second.goes;
  written = Appends-trans was.written half.written now.written first.text second.text first.written second.written;
}

-- nothing of the next line was written
pub no_part : (b : List ℕ) (taps : List Tap) (n : ℕ) (lines : List (Option (List ℕ))) → IsPartOfNext b taps n lines []
no_part b taps n [] = refl
no_part b taps n (line ∷ more) = inl refl

-- no line was answered
pub stops_nowhere : (limit : ℕ) (b : List ℕ) (given : ℕ) (lines : List (Option (List ℕ))) (was : Outlets) → Stops limit b given lines was was NoMemory
stops_nowhere limit b given lines was = record {
  done = [];
  first = (lines, refl);
  end = b;
  refused = false;
  text = [];
  goes = goes_nowhere limit b was.taps given;
  part = [];
  part_is = no_part b was.taps (given + 0 + 1) lines;
  wrote = Appends-nil was.written;
}
