-- The names that most proofs of this crate cite, passed on from one place. Declares nothing.
pub use Rattle.cdf_area.specs.Calls.{Stays}
pub use Rattle.cdf_area.specs.Frame.{Frame}
pub use Rattle.cdf_area.specs.declared.area.AreaError.{AreaError}
pub use Rattle.cdf_check.specs.declared.verdict.Broken.{Broken}
pub use Rattle.cdf_edits.specs.Answers.{Answers, Moves, MovesIf, StepLeads, is_full}
pub use Rattle.cdf_format.proofs.Tests.{both, eq_of}
pub use Rattle.cdf_format.proofs.Verdicts.{excluded}
pub use Rattle.cdf_format.specs.Content.{content}
pub use Rattle.cdf_format.specs.Phases.{all_phases}
pub use Rattle.cdf_format.specs.Sealed.{has_checksum, image_of, sealed, trailer, trailer_length}
pub use Rattle.cdf_format.specs.Shape.{shape}
pub use Rattle.cdf_format.specs.WellFormed.{Breaks, Good, WellFormed}
pub use Rattle.cdf_lines.proofs.Pieces.{lines-split, rest-append, whole_lines-append}
pub use Rattle.cdf_lines.specs.Pending.{GivesLine, Pending, fed, grown, last_of, line_of, lines_ended, new_lines, new_rest, nothing_fed}
pub use Rattle.cdf_model.specs.Answers.{Answer, Go, Refuse, data_after, given, is_accepted, outcome, unless, valued}
pub use Rattle.cdf_model.specs.DataSet.{Attribute, DataSet, Entry}
pub use Rattle.cdf_model.specs.EventTexts.{dump_text}
pub use Rattle.cdf_model.specs.Grammar.{Asks, Blank, Faulty, Parsed, parse}
pub use Rattle.cdf_model.specs.Limits.{image_limit, line_limit, script_limit, signed_limit}
pub use Rattle.cdf_model.specs.Lines.{kept, lines, split, whole_lines}
pub use Rattle.cdf_model.specs.Names.{Found, attribute_named, attribute_names, is_among, is_bad_name, variable_named, variable_names, variables_of, with_variables}
pub use Rattle.cdf_model.specs.Step.{ByContent, ByStep, ByTaps, Route, step}
pub use Rattle.cdf_model.specs.Taps.{Tap, has_tap, left_after, told}
pub use Rattle.cdf_model.specs.Texts.{end_text, framed, rejected_text, reply_text, space_text}
pub use Rattle.cdf_model.specs.Turns.{State, Turn, answered, asked, faulty, is_refused, start}
pub use Rattle.cdf_model.specs.declared.answer.LineError.TheVariants.{UnknownWord}
pub use Rattle.cdf_model.specs.declared.answer.Outcome.{Outcome}
pub use Rattle.cdf_model.specs.declared.command.Command.{Command}
pub use Rattle.cdf_pages.proofs.Touched.{touches_none, touches_weaker}
pub use Rattle.cdf_pages.specs.Saving.{Differs, Holds, HoldsBetween, IsBetween, Touches, tail_bytes}
pub use Rattle.cdf_saving.specs.Counts.{Counted, CountedIn, Counts, ReadsCounted, ReadsCountedBehind, WritesCounted, counts}
pub use Rattle.cdf_saving.specs.Refusing.{was_refused}
pub use Rattle.cdf_saving.specs.Saved.{EndsSaving, IsLeft, IsRewritten, Rewrites, TellsLeft}
pub use Rattle.cdf_saving.specs.Statuses.{Exactly, IsDone, IsFailure, IsUnsaved, status_of, status_of_area}
pub use Rattle.cdf_saving.specs.declared.notes.Left.{Left}
pub use Rattle.cdf_saving.specs.declared.refusals.Refusals.{Refusals}
pub use Rattle.cdf_saving.specs.declared.status.Status.{Status}
pub use Rattle.cdf_session.specs.Built.{built}
pub use Rattle.cdf_session.specs.History.{CommandLeads, LineLeads, LinesLead, Moment, RouteLeads, last_image}
pub use Rattle.cdf_session.specs.Run.{advance, flagged, run_of, run_on, turn}
pub use Rattle.cdf_session.specs.Sessions.{AnswersBuilt, Explains}
pub use Rattle.cdf_session.specs.declared.refusal.AdoptError.{AdoptError}
pub use Rattle.cdf_store.specs.Disk.{Disk, IsWhole, file_in, file_of, files_with}
pub use Rattle.cdf_store.specs.Named.{AttachesIn, files_attached, found_or_made, lookup, with_file}
pub use Rattle.cdf_store.specs.Written.{AppendsFront, IsFront}
pub use Rattle.cdf_tap.specs.Meanings.{kinds_of}
pub use Rattle.cdf_tool.specs.Accepts.{Accepts}
pub use Rattle.cdf_tool.specs.Answering.{IsAnswer, IsReplyOf, RepliesTo}
pub use Rattle.cdf_tool.specs.Areas.{EndsAttached, EndsInMemory, EndsOver, EndsStored, Refuses, status_from}
pub use Rattle.cdf_tool.specs.Checking.{Accepted, Checks, EndsChecked, EndsOverFile, IsAnswered, SaysAccepted, accepted_text, yes_text}
pub use Rattle.cdf_tool.specs.Due.{CanBegin, FilesStay, IsGood, Looked, Untouched}
pub use Rattle.cdf_tool.specs.Endings.{Ends, EndsAsked}
pub use Rattle.cdf_tool.specs.Ends.{Completes, EndsNamed, EndsUnread, EndsWithout, Opens, Runs, SpoilsTo, Without}
pub use Rattle.cdf_walk.specs.Gathering.{Gathers}
pub use Rattle.cdf_tool.specs.Idle.{IfIdle, IsUnmoved, all_idle, all_idle_over, command_full, full_for, is_idle, line_idles, route_full}
unfoldable pub use Rattle.cdf_tool.specs.Idle.{asks_idly}
pub use Rattle.cdf_tool.specs.Outlets.{Outlets, with_taps}
pub use Rattle.cdf_tool.specs.Reading.{IfAll, IfReads, WritesNothing, line_reads, reads}
pub use Rattle.cdf_tool.specs.Replay.{AreBlank, AreShort, GathersReply, GivesNext, Goes, IsDrained, IsPartOfNext, IsPartOfReply, IsReply, IsSayable, IsShort, IsShown, Passes, PassesAll, Replies, Stops, StopsAt, Turns, Wrote, asked_by, begun, flagged_line, line_of_moment, tale, turn_over}
pub use Rattle.cdf_tool.specs.Says.{Names, Rejects, SaysNoFile, SaysRejected, SaysUsage, Tells, old_file, rejection}
pub use Rattle.cdf_tool.specs.Script.{Finishes, FinishesWith, Follow, Halts, HaltsAfter, HaltsWith, Pieces, StopsIn, last_line}
pub use Rattle.cdf_tool.specs.Showing.{StopsReply, WrotePart, status_of_walk}
pub use Rattle.cdf_tool.specs.Stored.{Attached, IsChanged, Kept, KeptBy, Replaced, Spoiled, StoredBy, Unattached}
pub use Rattle.cdf_tool.specs.Taking.{Takes, TakesLast, TakesNone, TakesPiece, piece_limit}
pub use Rattle.cdf_words.specs.Asking.{Asked, ask, asked_for}
pub use Rattle.std.proofs.Common.{Bool, Err, List, None, Ok, OnOk, Option, Result, Some, [], ap, append-nil, append_assoc, arith, codes, cond, false, inl, inr, leb-true, length, length-append, map, refl, string_bytes, subst, sym, take, true, ℕ, ◌++◌, ◌+◌, ◌-◌, ◌<◌, ◌==◌, ◌∙◌, ◌∷◌, ◌≡◌, ◌≤◌, ◌⊎◌}
pub use Rattle.std.proofs.KnownBytes.{Appends-nil, Appends-trans, Consumes-nil, Consumes-trans}
pub use Rattle.std.proofs.Math.Path.{transport}
pub use Rattle.std.proofs.lemmas.List.Folds.{list_all-append}
pub use Rattle.std.specs.Io.KnownBytes.{Appends, Consumes, IsAtEnd}
pub use Rattle.std.specs.List.{list_all, remove}
pub use Rattle.std.specs.Option.{is_none, option_map}
pub use Rattle.std.specs.Prelude.{IfOk, IfSome, IsSome, bytes_eq, if◌then◌else◌, is_some, nat_le, nat_lt, not, pos, ◌&&◌, ◌||◌, ◌↔◌, ◌≢◌}
