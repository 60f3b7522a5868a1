-- A dump or a report that a line asks for was written.
use Rattle.cdf_tool.proofs.Common.{Appends, Asks, GathersReply, IsAnswer, List, Outlets, Parsed, Status, StopsAt, StopsReply, Turns, WrotePart, [], ap, content, dump_text, false, framed, has_tap, left_after, line_of, parse, refl, subst, sym, told, transport, true, ℕ, ◌++◌, ◌∙◌, ◌≡◌}
use Rattle.cdf_lines.specs.declared.line.Line.{Line}
use Rattle.cdf_model.specs.declared.command.Command.TheVariants.{Dump, Report}
use Rattle.cdf_tool.specs.declared.replay.Answer.{Answer}
use Rattle.cdf_tool.specs.declared.replay.Answer.TheVariants as forms
use Rattle.cdf_tool.proofs.Commands.{dump_shown, dump_turns, report_shown, report_turns}
use Rattle.cdf_tool.proofs.Gathered.{gathers_all}
use Rattle.cdf_tool.proofs.Lines.{stops_report, stops_within}

module _ (limit : ℕ) (b : List ℕ) (line : Line) (was : Outlets) (held : List ℕ) (now : Outlets) (mid : List ℕ) (answer : Answer) (is_answer : IsAnswer limit b was.taps line.number (parse (line_of line)) mid answer) where
  abbrev asked : Parsed
  asked = parse (line_of line)

  -- ---- a dump

  module _ (dumps : answer ≡ forms.Dump) where
    asks_dump : (asked ≡ Asks Dump) × (mid ≡ b)
    asks_dump = subst (λ (a : Answer). IsAnswer limit b was.taps line.number asked mid a) dumps is_answer

    pub dump_gathers : (end none : List ℕ) → end ≡ mid → now.taps ≡ was.taps → none ≡ [] → Appends was.written now.written (held ++ framed line.number (dump_text (content mid))) → GathersReply limit b line end false was held now none
    dump_gathers end none stays same empty writes = record {
      reply = framed line.number (dump_text (content mid));
      turns = transport (λ i. Turns limit b was.taps line.number asked end (sym same i) false (framed line.number (dump_text (content (sym asks_dump.1 i))))) (dump_turns limit b was.taps line.number asked end asks_dump.0 (stays ∙ asks_dump.1));
      gathers = gathers_all was.written now.written (held ++ framed line.number (dump_text (content mid))) none empty writes;
    }

    pub dump_stops : (status : Status) → now.taps ≡ was.taps → WrotePart was.written now.written held (framed line.number (dump_text (content mid))) status → StopsAt limit b line was held now status
    dump_stops status same wrote =
        stops_within limit b line was held now same (framed line.number (dump_text (content b))) status (λ part front. dump_shown b was.taps line.number asked part asks_dump.0 front)
        (subst (λ (x : List ℕ). WrotePart was.written now.written held (framed line.number (dump_text (content x))) status) asks_dump.1 wrote)

  -- ---- a report

  module _ (name slice : List ℕ) (reports : answer ≡ forms.Report name) (is : slice ≡ name) where
    asks_report : (asked ≡ Asks (Report name)) × (has_tap was.taps name ≡ true) × (mid ≡ b)
    asks_report = subst (λ (a : Answer). IsAnswer limit b was.taps line.number asked mid a) reports is_answer

    pub report_known : has_tap was.taps slice ≡ true
    report_known = ap (λ (x : List ℕ). has_tap was.taps x) is ∙ asks_report.1

    pub report_stops : (status : Status) → StopsReply was now held (left_after was.taps slice (content mid)) (framed line.number (told was.taps slice (content mid))) status → StopsAt limit b line was held now status
    report_stops status stops =
        stops_report limit b line was held now (left_after was.taps name (content b)) (framed line.number (told was.taps name (content b))) b status
        (report_turns limit b was.taps line.number name asked b (left_after was.taps name (content b)) asks_report.0 asks_report.1 refl refl)
        (λ part front. report_shown b was.taps line.number name asked part asks_report.0 asks_report.1 front)
        (transport (λ i. StopsReply was now held (left_after was.taps (is i) (content (asks_report.2 i))) (framed line.number (told was.taps (is i) (content (asks_report.2 i)))) status) stops)
