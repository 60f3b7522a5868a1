-- A line that is idle changes nothing.
use Rattle.cdf_tool.proofs.Common.{Answer, AnswersBuilt, Asks, Blank, Bool, ByContent, ByStep, ByTaps, Command, CommandLeads, DataSet, Faulty, Go, IfIdle, IfReads, LineLeads, LinesLead, List, Moment, MovesIf, Option, Outcome, Parsed, Refuse, Route, RouteLeads, Turns, UnknownWord, [], all_idle, all_idle_over, ap, asked, both, built, command_full, content, false, faulty, flagged_line, full_for, if◌then◌else◌, inl, inr, is_accepted, is_full, is_idle, is_refused, line_idles, line_of_moment, line_reads, map, outcome, parse, reads, refl, route_full, step, subst, sym, true, turn, ℕ, ◌||◌, ◌∙◌, ◌∷◌, ◌≡◌, ◌⊎◌}
unfoldable use Rattle.cdf_tool.proofs.Common.{asks_idly}
use Rattle.cdf_edits.specs.Follows.{only_reads}
use Rattle.cdf_tool.proofs.OnlyReads.{if_weaker}

either : (a b : Bool) → (a || b) ≡ true → (a ≡ true) ⊎ (b ≡ true)
either true b is = inl refl
either false b is = inr is

or_left : (a b : Bool) → a ≡ true → (a || b) ≡ true
or_left true b is = refl
or_left false b is = absurd (cc is)

or_right : (a b : Bool) → b ≡ true → (a || b) ≡ true
or_right true b is = refl
or_right false b is = is

-- ---- one line

-- whether it is refused does not hang on its number
turn_by : (d : DataSet) (n m : ℕ) (full is_built : Bool) (route : Route) → (if is_built then asked d [] n route full else faulty d [] n (UnknownWord 0)).refused ≡ (if is_built then asked d [] m route full else faulty d [] m (UnknownWord 0)).refused
turn_by d n m full true (ByStep answer) = refl
turn_by d n m full true ByContent = refl
turn_by d n m full true (ByTaps name) = refl
turn_by d n m full false route = refl

turn_refused : (d : DataSet) (n m : ℕ) (parsed : Parsed) (full : Bool) → (turn d [] n parsed full).refused ≡ (turn d [] m parsed full).refused
turn_refused d n m Blank full = refl
turn_refused d n m (Asks c) full = turn_by d n m full (built c) (step d c)
turn_refused d n m (Faulty fault) full = refl

-- the flag says whether the file is full for it
route_full_is : (route : Route) (limit : ℕ) (b : List ℕ) (c : Command) (full : Bool) (now : List ℕ) → RouteLeads route limit b c full now → full ≡ route_full route limit b c
route_full_is (ByStep answer) limit b c full now leads = leads.0
route_full_is ByContent limit b c full now leads = leads.0
route_full_is (ByTaps name) limit b c full now leads = leads.0

command_full_is : (is_built : Bool) (limit : ℕ) (b : List ℕ) (c : Command) (full : Bool) (now : List ℕ) → CommandLeads is_built limit b c full now → full ≡ command_full is_built limit b c
command_full_is true limit b c full now leads = route_full_is (step (content b) c) limit b c full now leads
command_full_is false limit b c full now leads = leads.0

full_is : (limit : ℕ) (b : List ℕ) (parsed : Parsed) (full : Bool) (now : List ℕ) → LineLeads limit b parsed full now → full ≡ full_for limit b parsed
full_is limit b Blank full now leads = leads.0
full_is limit b (Asks c) full now leads = command_full_is (built c) limit b c full now leads
full_is limit b (Faulty fault) full now leads = leads.0

-- an idle line that was answered only reads, or was refused
pub idle_turns : (limit : ℕ) (b : List ℕ) (n : ℕ) (parsed : Parsed) (end : List ℕ) (refused : Bool) (reply : List ℕ) → Turns limit b [] n parsed end [] refused reply → asks_idly limit b parsed ≡ true → (reads parsed ≡ true) ⊎ (refused ≡ true)
unfolding asks_idly
idle_turns limit b n parsed end refused reply t idle = elim (either (reads parsed) (turn (content b) [] 0 parsed (full_for limit b parsed)).refused idle) [
  | inl read ↦ inl read
  | inr is ↦ inr (t.refused_is ∙ turn_refused (content b) n 0 parsed t.full ∙ ap (λ (full : Bool). (turn (content b) [] 0 parsed full).refused) (full_is limit b parsed t.full end t.leads) ∙ is)
]

not_accepted : (answer : Answer) (full : Bool) → is_refused (outcome answer full) ≡ true → is_accepted answer full ≡ false
not_accepted (Go d reply) true is = refl
not_accepted (Go d reply) false is = absurd (cc is)
not_accepted (Refuse reason) full is = refl

-- a refused command leaves the image
pub refused_same : (is_built : Bool) (limit : ℕ) (b : List ℕ) (c : Command) (o : Outcome) (now : List ℕ) → is_refused o ≡ true → AnswersBuilt is_built limit b c o now → now ≡ b
refused_same true limit b c o now refused answers =
    subst (λ (t : Bool). MovesIf t b c now) (not_accepted answers.answer (is_full limit b c answers.answer) (ap is_refused (sym answers.outcome_is) ∙ refused)) answers.moves
refused_same false limit b c o now refused answers = answers.1

-- ---- many lines

read_idles : (limit : ℕ) (b : List ℕ) (line : Option (List ℕ)) → line_reads line ≡ true → line_idles limit b line ≡ true
unfolding asks_idly
read_idles limit b line read = or_left (reads (parse line)) (turn (content b) [] 0 (parse line) (full_for limit b (parse line))).refused read

-- a script that only reads is idle
pub if_idle_reads : (limit : ℕ) (b : List ℕ) (before : Option (List ℕ)) (P : Type 0) → IfIdle limit b before P → IfReads before P
if_idle_reads limit b before P holds = if_weaker line_reads (line_idles limit b) (read_idles limit b) before P holds

-- ---- the moments of a run

moves_not : (accepted : Bool) (b : List ℕ) (c : Command) (now : List ℕ) → only_reads c ≡ true → MovesIf accepted b c now → now ≡ b
moves_not true b c now read follows = follows.reads read
moves_not false b c now read same = same

route_idle : (limit : ℕ) (b : List ℕ) (c : Command) (full : Bool) (now : List ℕ) (route : Route) → RouteLeads route limit b c full now → (only_reads c ≡ true) ⊎ ((asked (content b) [] 0 route full).refused ≡ true) → now ≡ b
route_idle limit b c full now (ByStep answer) leads (inl read) = moves_not (is_accepted answer full) b c now read leads.1
route_idle limit b c full now (ByStep answer) leads (inr refused) = subst (λ (t : Bool). MovesIf t b c now) (not_accepted answer full refused) leads.1
route_idle limit b c full now ByContent leads why = leads.1
route_idle limit b c full now (ByTaps name) leads why = leads.1

command_idle : (is_built : Bool) (limit : ℕ) (b : List ℕ) (c : Command) (full : Bool) (now : List ℕ) → CommandLeads is_built limit b c full now
    → (only_reads c ≡ true) ⊎ ((if is_built then asked (content b) [] 0 (step (content b) c) full else faulty (content b) [] 0 (UnknownWord 0)).refused ≡ true) → now ≡ b
command_idle true limit b c full now leads why = route_idle limit b c full now (step (content b) c) leads why
command_idle false limit b c full now leads why = leads.1

-- an idle line leads to the same image
line_idle : (limit : ℕ) (b : List ℕ) (parsed : Parsed) (full : Bool) (now : List ℕ) → LineLeads limit b parsed full now → (reads parsed || (turn (content b) [] 0 parsed full).refused) ≡ true → now ≡ b
line_idle limit b Blank full now leads idle = leads.1
line_idle limit b (Asks c) full now leads idle = command_idle (built c) limit b c full now leads (either (only_reads c) (turn (content b) [] 0 (Asks c) full).refused idle)
line_idle limit b (Faulty fault) full now leads idle = leads.1

line_idles_so : (limit : ℕ) (b : List ℕ) (line : Option (List ℕ)) (full : Bool) (now : List ℕ) → LineLeads limit b (parse line) full now → is_idle (content b) (line, full) ≡ true → line_idles limit b line ≡ true
unfolding asks_idly
line_idles_so limit b line full now leads idle =
    subst (λ (f : Bool). (reads (parse line) || (turn (content b) [] 0 (parse line) f).refused) ≡ true) (full_is limit b (parse line) full now leads) idle

-- lines that are idle with their flags are idle over the image
pub moments_idle : (limit : ℕ) (ms : List Moment) (b : List ℕ) → LinesLead limit b ms → all_idle (content b) (map flagged_line ms) ≡ true → all_idle_over limit b (map line_of_moment ms) ≡ true
moments_idle limit [] b leads all = refl
moments_idle limit (m ∷ ms) b leads all =
    let parts = both (is_idle (content b) (m.line, m.full)) (all_idle (content b) (map flagged_line ms)) all in
    let same : m.image ≡ b = line_idle limit b (parse m.line) m.full m.image leads.0 parts.0 in
    let first = line_idles_so limit b m.line m.full m.image leads.0 parts.0 in
    let rest = moments_idle limit ms b (subst (λ (x : List ℕ). LinesLead limit x ms) same leads.1) parts.1 in
    rw (first, rest) refl
