-- How the lines that are ready are answered.
use Rattle.cdf_tool.proofs.Common.{Appends, AppendsFront, AreBlank, AreShort, AreaError, Blank, Bool, Gathers, GathersReply, GivesLine, GivesNext, Goes, IsDrained, IsFront, IsPartOfNext, IsPartOfReply, IsReply, IsShort, IsShown, List, None, Option, Outlets, Parsed, Passes, PassesAll, Pending, Replies, Some, Status, Stops, StopsAt, StopsReply, Tap, Turns, Wrote, WrotePart, [], ap, append-nil, append_assoc, arith, cond, false, grown, inl, inr, kept, last_of, leb-true, length, length-append, line_limit, line_of, lines_ended, map, nat_le, new_lines, parse, refl, split, status_of_area, subst, sym, transport, true, ℕ, ◌++◌, ◌+◌, ◌<◌, ◌||◌, ◌∙◌, ◌∷◌, ◌≡◌}
use Rattle.std.specs.Prelude.{◌⊎◌}
use Rattle.cdf_area.specs.declared.area.AreaError.TheVariants as areas
use Rattle.cdf_lines.specs.declared.line.Line.{Line}
use Rattle.cdf_saving.specs.declared.status.Status.TheVariants as statuses
use Rattle.cdf_tool.proofs.Commands.{turns_blank}
use Rattle.cdf_tool.proofs.Gathered.{gathers_nothing, gathers_more, gathered_whole, gathered_in_part, gathered_written, gathered_cut}
use Rattle.cdf_tool.proofs.Moments.{goes_nowhere, goes_one, goes_more, no_part}
use Rattle.cdf_tool.proofs.Standing.{Reached}

-- ---- no line is longer than a line may be

pub kept_short : (line : List ℕ) → IsShort (kept line)
kept_short line = elim (nat_le (length line) line_limit) as (λ t. nat_le (length line) line_limit ≡ t → IsShort (cond t (Some line) None)) [
  | true ↦ λ fits. leb-true (length line) line_limit fits
  | false ↦ λ long. tt
] refl

all_kept_short : (ls : List (List ℕ)) → AreShort (map kept ls)
all_kept_short [] = tt
all_kept_short (l ∷ ls) = (kept_short l, all_kept_short ls)

grown_short : (rest : Option (List ℕ)) (more : List ℕ) → IsShort (grown rest more)
grown_short None more = tt
grown_short (Some line) more = kept_short (line ++ more)

ended_short : (rest : Option (List ℕ)) (parts : List (List ℕ)) → AreShort (lines_ended rest parts)
ended_short rest [] = tt
ended_short rest (l ∷ ls) = (grown_short rest l, all_kept_short ls)

pub new_short : (rest : Option (List ℕ)) (piece : List ℕ) → AreShort (new_lines rest piece)
new_short rest piece = ended_short rest (split piece).0

pub last_short : (rest : Option (List ℕ)) → IsShort rest → AreShort (last_of rest)
last_short None short = (tt, tt)
last_short (Some []) short = tt
last_short (Some (b ∷ line)) short = (short, tt)

short_behind : (blank more : List (Option (List ℕ))) → AreShort (blank ++ more) → AreShort more
short_behind [] more short = short
short_behind (line ∷ blank) more short = short_behind blank more short.1

-- ---- blank lines

pub passes_none : (p : Pending) → Passes p p
passes_none p = let none : p.given ≡ p.given + 0 = omega arith in record { blank = []; are_blank = tt; first = refl; counted = λ i. record p { given = none i } }

one_more_blank : (blank : List (Option (List ℕ))) (line : Option (List ℕ)) → AreBlank blank → parse line ≡ Blank → AreBlank (blank ++ line ∷ [])
one_more_blank [] line are is = (is, tt)
one_more_blank (other ∷ blank) line are is = (are.0, one_more_blank blank line are.1 is)

pub passes_one : (p then p' : Pending) (line : Line) → Passes p then → GivesLine then p' → line_of line ≡ p'.line → parse (line_of line) ≡ Blank → Passes p p'
passes_one p then p' line passes gives text is =
    let given : then.given + 1 ≡ p.given + length (passes.blank ++ p'.line ∷ []) = omega (arith, ap (λ (q : Pending). q.given) passes.counted, length-append passes.blank (p'.line ∷ [])) in
    record {
      blank = passes.blank ++ p'.line ∷ [];
      are_blank = one_more_blank passes.blank p'.line passes.are_blank (ap parse (sym text) ∙ is);
      first = passes.first ∙ ap (λ l. passes.blank ++ l) gives.first ∙ sym (append_assoc passes.blank (p'.line ∷ []) p'.ready);
      counted = gives.counted ∙ (λ i. record { given = given i; line = p'.line; ready = p'.ready; rest = (passes.counted i).rest; over = (passes.counted i).over });
    }

-- ---- the next line

-- it and the lines behind it are no longer than a line may be
pub next_short : (p p' : Pending) → GivesNext p p' → AreShort p.ready → IsShort p'.line × AreShort p'.ready
next_short p p' next short = subst AreShort next.gives.first (short_behind next.passes.blank next.passed.ready (subst AreShort next.passes.first short))

-- there are fewer of them
pub next_fewer : (p p' : Pending) → GivesNext p p' → length p'.ready < length p.ready
next_fewer p p' next = omega (arith, ap (λ l. length l) next.passes.first, length-append next.passes.blank next.passed.ready, ap (λ l. length l) next.gives.first)

-- and all else stays
pub next_same : (p p' : Pending) → GivesNext p p' → (p'.rest ≡ p.rest) × (p'.over ≡ p.over)
next_same p p' next = (
  ap (λ (q : Pending). q.rest) next.gives.counted ∙ ap (λ (q : Pending). q.rest) next.passes.counted,
  ap (λ (q : Pending). q.over) next.gives.counted ∙ ap (λ (q : Pending). q.over) next.passes.counted,
)

-- ---- line after line

-- all replies that there were to a replay that its area or the memory stopped
wrote_all : (was now : Option (List ℕ)) (text : List ℕ) (error : AreaError) → Appends was now text → Wrote was now text (status_of_area error)
wrote_all was now text areas.Fault writes = writes
wrote_all was now text areas.NoMemory writes = writes

module _ (limit : ℕ) (b : List ℕ) (line : Line) (was : Outlets) (held : List ℕ) (now : Outlets) (same : now.taps ≡ was.taps) where
  -- a line that was not answered stops it
  pub stops_before : (error : AreaError) (status : Status) → status ≡ status_of_area error → Appends was.written now.written held → StopsAt limit b line was held now status
  stops_before error status is writes = record {
    reply = [];
    answered = inl (same, inl refl);
    wrote = transport (λ i. Wrote was.written now.written (sym (append-nil held) i) (sym is i)) (wrote_all was.written now.written held error writes);
  }

  -- and then the sink failed too
  pub stops_cut : AppendsFront was.written now.written held → StopsAt limit b line was held now statuses.OutputFault
  stops_cut part = record { reply = []; answered = inl (same, inl refl); wrote = subst (λ t. AppendsFront was.written now.written t) (sym (append-nil held)) part }

  -- a front of its reply was written
  pub stops_within : (reply : List ℕ) (status : Status) → ((part : List ℕ) → IsFront part reply → IsShown b was.taps line.number (parse (line_of line)) part) → WrotePart was.written now.written held reply status → StopsAt limit b line was held now status
  stops_within reply status shown (part, front, wrote) = record { reply = part; answered = inl (same, inr (shown part front)); wrote = wrote }

-- a report stops it
pub stops_report : (limit : ℕ) (b : List ℕ) (line : Line) (was : Outlets) (held : List ℕ) (now : Outlets) (kept : List Tap) (reply end : List ℕ) (status : Status) → Turns limit b was.taps line.number (parse (line_of line)) end kept false reply
    → ((part : List ℕ) → IsFront part reply → IsShown b was.taps line.number (parse (line_of line)) part) → StopsReply was now held kept reply status → StopsAt limit b line was held now status
stops_report limit b line was held now kept reply end status turns shown (inl (same, wrote)) = stops_within limit b line was held now same reply status shown wrote
stops_report limit b line was held now kept reply end status turns shown (inr (left, wrote)) = record {
  reply = reply;
  answered = inr (record { end = end; refused = false; turns = subst (λ (taps : List Tap). Turns limit b was.taps line.number (parse (line_of line)) end taps false reply) (sym left) turns });
  wrote = wrote;
}

-- what was gathered before the last reply is written with it
wrote_gathered : (was now after : Option (List ℕ)) (text held reply : List ℕ) → Gathers was text now held → (status : Status) → Wrote now after (held ++ reply) status → Wrote was after (text ++ reply) status
wrote_gathered was now after text held reply g statuses.StoreReadFault wrote = gathered_whole was now text held g after reply wrote
wrote_gathered was now after text held reply g statuses.NoMemory wrote = gathered_whole was now text held g after reply wrote
wrote_gathered was now after text held reply g statuses.OutputFault wrote = gathered_in_part was now text held g after reply wrote
wrote_gathered was now after text held reply g statuses.Done wrote = absurd wrote
wrote_gathered was now after text held reply g statuses.SomeRefused wrote = absurd wrote
wrote_gathered was now after text held reply g statuses.Usage wrote = absurd wrote
wrote_gathered was now after text held reply g statuses.BadJournal wrote = absurd wrote
wrote_gathered was now after text held reply g statuses.NoFile wrote = absurd wrote
wrote_gathered was now after text held reply g statuses.Rejected wrote = absurd wrote
wrote_gathered was now after text held reply g statuses.StoreWriteFault wrote = absurd wrote
wrote_gathered was now after text held reply g statuses.ScriptFault wrote = absurd wrote
wrote_gathered was now after text held reply g statuses.ScriptTooLong wrote = absurd wrote

blanks_go : (limit : ℕ) (b : List ℕ) (taps : List Tap) (given : ℕ) (blank : List (Option (List ℕ))) → AreBlank blank → Goes limit b taps given blank b taps false []
blanks_go limit b taps given [] are = goes_nowhere limit b taps given
blanks_go limit b taps given (line ∷ more) are =
    let turns : Turns limit b taps (given + 1) (parse line) b taps false [] = subst (λ (parsed : Parsed). Turns limit b taps (given + 1) parsed b taps false []) (sym are.0) (turns_blank limit b taps (given + 1)) in
    let one : Goes limit b taps given (line ∷ []) b taps false [] = goes_one limit b taps given (given + 1) line b taps false [] refl turns in
    goes_more limit b taps given (line ∷ []) b taps false [] one (given + 1) more b taps false [] refl (blanks_go limit b taps (given + 1) more are.1)

or-false : (a : Bool) → (a || false) ≡ a
or-false true = refl
or-false false = refl

module _ (limit : ℕ) (b : List ℕ) (given : ℕ) (lines : List (Option (List ℕ))) (was : Outlets) where
  -- none was answered yet
  pub starts : (held : List ℕ) → held ≡ [] → Reached limit b given lines was given lines b false was held
  starts held empty = record { done = []; left = refl; text = []; goes = goes_nowhere limit b was.taps given; counted = omega arith; gathers = gathers_nothing was.written held empty }

  module _ (image : List ℕ) (refused : Bool) (now : Outlets) (held : List ℕ) (p : Pending) (r : Reached limit b given lines was p.given p.ready image refused now held) where
    -- what is gathered is written in part
    pub stopped_cut : (after : Option (List ℕ)) → AppendsFront now.written after held → Stops limit b given lines was (record now { written = after }) statuses.OutputFault
    stopped_cut after part = record {
      done = r.done;
      first = (p.ready, r.left);
      end = image;
      refused = refused;
      text = r.text;
      goes = r.goes;
      part = [];
      part_is = no_part image now.taps (given + length r.done + 1) p.ready;
      wrote = subst (λ t. AppendsFront was.written after t) (sym (append-nil r.text)) (gathered_cut was.written now.written r.text held r.gathers after part);
    }

    -- no line is left
    module _ (none : p.ready ≡ []) where
      all_done : r.done ≡ lines
      all_done = sym (append-nil r.done) ∙ ap (λ l. r.done ++ l) (sym none) ∙ r.left

      all_answered : (after : Option (List ℕ)) → Appends now.written after held → Replies limit b given lines image refused was (record now { written = after })
      all_answered after writes = record {
        text = r.text;
        goes = subst (λ l. Goes limit b was.taps given l image now.taps refused r.text) all_done r.goes;
        written = gathered_written was.written now.written r.text held r.gathers after writes;
      }

      all_counted : p.given ≡ given + length lines
      all_counted = r.counted ∙ ap (λ l. given + length l) all_done

    -- blank lines are passed over
    blanks_passed : (p' : Pending) → Passes p p' → Reached limit b given lines was p'.given p'.ready image refused now held
    blanks_passed p' passes = record {
      done = r.done ++ passes.blank;
      left = append_assoc r.done passes.blank p'.ready ∙ ap (λ l. r.done ++ l) (sym passes.first) ∙ r.left;
      text = r.text;
      goes = transport (λ i. Goes limit b was.taps given (r.done ++ passes.blank) image now.taps (or-false refused i) (append-nil r.text i)) (goes_more limit b was.taps given r.done image now.taps refused r.text r.goes p.given passes.blank image now.taps false [] r.counted (blanks_go limit image now.taps p.given passes.blank passes.are_blank));
      counted = omega (arith, ap (λ (q : Pending). q.given) passes.counted, r.counted, length-append r.done passes.blank);
      gathers = r.gathers;
    }

    -- one more line is given
    module _ (p' : Pending) (line : Line) (limit' : ℕ) (gives : GivesLine p p') (text : line_of line ≡ p'.line) (number : line.number ≡ p'.given) (same : limit' ≡ limit) where
      next : p'.given ≡ p.given + 1
      next = ap (λ (q : Pending). q.given) gives.counted

      ahead : r.done ++ (p'.line ∷ p'.ready) ≡ lines
      ahead = ap (λ l. r.done ++ l) (sym gives.first) ∙ r.left

      further : (r.done ++ (p'.line ∷ [])) ++ p'.ready ≡ lines
      further = append_assoc r.done (p'.line ∷ []) p'.ready ∙ ahead

      one_more : (end : List ℕ) (kept : List Tap) (more : Bool) (reply : List ℕ) → Turns limit' image now.taps line.number (parse (line_of line)) end kept more reply → Goes limit b was.taps given (r.done ++ p'.line ∷ []) end kept (refused || more) (r.text ++ reply)
      one_more end kept more reply turns =
          let own : Turns limit image now.taps p'.given (parse p'.line) end kept more reply = transport (λ i. Turns (same i) image now.taps (number i) (parse (text i)) end kept more reply) turns in
          let one : Goes limit image now.taps p.given (p'.line ∷ []) end kept more reply = goes_one limit image now.taps p.given p'.given p'.line end kept more reply next own in
          goes_more limit b was.taps given r.done image now.taps refused r.text r.goes p.given (p'.line ∷ []) end kept more reply r.counted one

      -- its reply is gathered
      line_answered : (end : List ℕ) (more either : Bool) (after : Outlets) (held' : List ℕ) → either ≡ (refused || more) → GathersReply limit' image line end more now held after held' → Reached limit b given lines was p'.given p'.ready end either after held'
      line_answered end more either after held' is gathers = record {
        done = r.done ++ p'.line ∷ [];
        left = further;
        text = r.text ++ gathers.reply;
        goes = subst (λ (t : Bool). Goes limit b was.taps given (r.done ++ p'.line ∷ []) end after.taps t (r.text ++ gathers.reply)) (sym is) (one_more end after.taps more gathers.reply gathers.turns);
        counted = omega (arith, next, r.counted, length-append r.done (p'.line ∷ []));
        gathers = gathers_more was.written now.written r.text held r.gathers after.written gathers.reply held' gathers.gathers;
      }

      -- the line before which it stopped is the next one
      part_of_next : (kept : List Tap) (part : List ℕ) → kept ≡ now.taps → IsPartOfReply image now.taps line part → IsPartOfNext image kept (given + length r.done + 1) (p'.line ∷ p'.ready) part
      part_of_next kept part left (inl none) = inl none
      part_of_next kept part left (inr shown) =
          let at : line.number ≡ given + length r.done + 1 = omega (arith, number, next, r.counted) in
          inr (transport (λ i. IsShown image (sym left i) (at i) (parse (text i)) part) shown)

      -- it stops the replay
      stopped_at : (reply : List ℕ) (after : Outlets) (status : Status) → ((after.taps ≡ now.taps) × IsPartOfReply image now.taps line reply) ⊎ IsReply limit' image now.taps line after.taps reply → Wrote was.written after.written (r.text ++ reply) status → Stops limit b given lines was after status
      stopped_at reply after status (inl (left, part)) wrote = record {
        done = r.done;
        first = (p'.line ∷ p'.ready, ahead);
        end = image;
        refused = refused;
        text = r.text;
        goes = subst (λ (taps : List Tap). Goes limit b was.taps given r.done image taps refused r.text) (sym left) r.goes;
        part = reply;
        part_is = part_of_next after.taps reply left part;
        wrote = wrote;
      }
      stopped_at reply after status (inr answered) wrote = record {
        done = r.done ++ p'.line ∷ [];
        first = (p'.ready, further);
        end = answered.end;
        refused = refused || answered.refused;
        text = r.text ++ reply;
        goes = one_more answered.end after.taps answered.refused reply answered.turns;
        part = [];
        part_is = no_part answered.end after.taps (given + length (r.done ++ p'.line ∷ []) + 1) p'.ready;
        wrote = subst (λ t. Wrote was.written after.written t status) (sym (append-nil (r.text ++ reply))) wrote;
      }

      line_stops : (after : Outlets) (status : Status) → StopsAt limit' image line now held after status → Stops limit b given lines was after status
      line_stops after status stops = stopped_at stops.reply after status stops.answered (wrote_gathered was.written now.written after.written r.text held stops.reply r.gathers status stops.wrote)

module _ (limit : ℕ) (b : List ℕ) (given : ℕ) (lines : List (Option (List ℕ))) (was : Outlets) (image : List ℕ) (refused : Bool) (now : Outlets) (held : List ℕ) (p : Pending) (r : Reached limit b given lines was p.given p.ready image refused now held) where
  -- the next line is given
  module _ (p' : Pending) (line : Line) (limit' : ℕ) (next : GivesNext p p') (text : line_of line ≡ p'.line) (number : line.number ≡ p'.given) (same : limit' ≡ limit) where
    there : Reached limit b given lines was next.passed.given next.passed.ready image refused now held
    there = blanks_passed limit b given lines was image refused now held p r next.passed next.passes

    pub next_answered : (end : List ℕ) (more either : Bool) (after : Outlets) (held' : List ℕ) → either ≡ (refused || more) → GathersReply limit' image line end more now held after held' → Reached limit b given lines was p'.given p'.ready end either after held'
    next_answered end more either after held' is gathers = line_answered limit b given lines was image refused now held next.passed there p' line limit' next.gives text number same end more either after held' is gathers

    pub next_stops : (after : Outlets) (status : Status) → StopsAt limit' image line now held after status → Stops limit b given lines was after status
    next_stops after status stops = line_stops limit b given lines was image refused now held next.passed there p' line limit' next.gives text number same after status stops

  -- no line but blank ones is left
  module _ (p' : Pending) (all : PassesAll p p') where
    at_last : Reached limit b given lines was p'.given p'.ready image refused now held
    at_last = blanks_passed limit b given lines was image refused now held p r p' all.0

    pub all_replies : (after : Option (List ℕ)) → Appends now.written after held → Replies limit b given lines image refused was (record now { written = after })
    all_replies after writes = all_answered limit b given lines was image refused now held p' at_last all.1 after writes

    pub all_given : p'.given ≡ given + length lines
    all_given = all_counted limit b given lines was image refused now held p' at_last all.1

    pub all_drained : (first : Pending) → p.rest ≡ first.rest → p.over ≡ first.over → first.given ≡ given → first.ready ≡ lines → IsDrained first p'
    all_drained first rest over from ready = record {
      ready = all.1;
      rest = ap (λ (q : Pending). q.rest) all.0.counted ∙ rest;
      over = ap (λ (q : Pending). q.over) all.0.counted ∙ over;
      given = all_given ∙ (λ i. sym from i + length (sym ready i));
    }
