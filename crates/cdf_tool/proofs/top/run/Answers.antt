use Rattle.cdf_tool.proofs.Common.{Bool, ask, asked_for, false, image_limit, image_of, inl, line_idles, line_reads, lookup, map, not, refl, string_bytes, true, ◌&&◌, ◌≡◌}
use Rattle.cdf_saving.specs.declared.status.Status.TheVariants as statuses
use Rattle.cdf_tool.proofs.AskedLemmas.{accepts_checked, check_ends, check_leaves, if_some, named_looked, old_called, run_ends, unsaved_run, untouched_old}
use Rattle.cdf_tool.proofs.Changes.{run_changes, unstarted_changes, unwritten_changes}
use Rattle.cdf_tool.proofs.CheckLemmas.{checks, usage_not_done}
use Rattle.cdf_tool.proofs.CountLemmas.{not_false, unwritten}
use Rattle.cdf_tool.proofs.RunLemmas.{came, checked_came, completes, never_usage, no_file_exactly, no_file_held, rejected_exactly, too_long_exactly}
use Rattle.cdf_tool.proofs.Headline.{accepts}
use Rattle.cdf_tool.proofs.Told.{tells_names, tells_status}
use Rattle.cdf_tool.proofs.OnlyReads.{if_all}
use Rattle.cdf_tool.proofs.RunIdle.{named_idle, named_reads, none_replaced, refusals_counted, replaced_not_done, replaced_old}
use Rattle.cdf_tool.proofs.Unstarted.{unnamed, unstarted_ends}
use Rattle.cdf_tool.proofs.top.run.Goals as goal

pub run_file-requires-clause-allowed : goal.run_file-requires-clause-allowed
run_file-requires-clause-allowed g c =
    c.requires.allowed (asked_for c.in-Ok.asked) c.in-Ok.ensures.asked

pub check_file-requires-clause-allowed : goal.check_file-requires-clause-allowed
check_file-requires-clause-allowed g c =
    c.requires.allowed (asked_for c.in-Ok.asked) c.in-Ok.ensures.asked

pub check_file-requires-clause-old : goal.check_file-requires-clause-old
check_file-requires-clause-old g c =
    c.in-Ok.ensures.old c.if-asked.true

-- ---- a script was run

pub returns-else-asked-clause-accepted : goal.returns-else-asked-clause-accepted
returns-else-asked-clause-accepted g c =
    rw c.in-Ok.ensures.asked (accepts (asked_for c.in-Ok.asked) (g.S.Store.disk c.args.store) (g.S.Store.disk c.run_file.result.store) (g.I.Source.left c.args.script.now) (g.I.Source.left c.run_file.new.script) _ _ c.run_file.result.status c.run_file.ensures.ends)

pub returns-else-asked-clause-checked : goal.returns-else-asked-clause-checked
returns-else-asked-clause-checked g c =
    rw c.in-Ok.ensures.asked (λ is. absurd (cc (is, c.if-asked.false)))

pub returns-else-asked-clause-unread : goal.returns-else-asked-clause-unread
returns-else-asked-clause-unread g c =
    rw c.in-Ok.ensures.asked (λ is. absurd (cc (is, c.if-asked.false)))

pub returns-else-asked-clause-unshown : goal.returns-else-asked-clause-unshown
returns-else-asked-clause-unshown g c =
    rw c.in-Ok.ensures.asked (λ is. absurd (cc (is, c.if-asked.false)))

pub returns-else-asked-clause-ends : goal.returns-else-asked-clause-ends
returns-else-asked-clause-ends g c =
    rw c.in-Ok.ensures.asked (run_ends (asked_for c.in-Ok.asked) (g.S.Store.disk c.args.store) (g.S.Store.disk c.run_file.result.store) (g.I.Source.left c.args.script.now) (g.I.Source.left c.run_file.new.script) _ _ c.run_file.result.status c.in-Ok.asked.check c.if-asked.false c.run_file.ensures.ends)

pub returns-else-asked-clause-no_file : goal.returns-else-asked-clause-no_file
returns-else-asked-clause-no_file g c =
    rw c.in-Ok.ensures.asked (no_file_exactly (asked_for c.in-Ok.asked) (g.S.Store.disk c.args.store) (g.S.Store.disk c.run_file.result.store) (g.I.Source.left c.args.script.now) (g.I.Source.left c.run_file.new.script) c.run_file.result.status (came (asked_for c.in-Ok.asked) (g.S.Store.disk c.args.store) (g.S.Store.disk c.run_file.result.store) (g.I.Source.left c.args.script.now) (g.I.Source.left c.run_file.new.script) _ _ c.run_file.result.status c.run_file.ensures.ends))

pub returns-else-asked-clause-rejected : goal.returns-else-asked-clause-rejected
returns-else-asked-clause-rejected g c =
    rw c.in-Ok.ensures.asked (rejected_exactly (asked_for c.in-Ok.asked) (g.S.Store.disk c.args.store) (g.S.Store.disk c.run_file.result.store) (g.I.Source.left c.args.script.now) (g.I.Source.left c.run_file.new.script) c.run_file.result.status (came (asked_for c.in-Ok.asked) (g.S.Store.disk c.args.store) (g.S.Store.disk c.run_file.result.store) (g.I.Source.left c.args.script.now) (g.I.Source.left c.run_file.new.script) _ _ c.run_file.result.status c.run_file.ensures.ends))

pub returns-else-asked-clause-too_long : goal.returns-else-asked-clause-too_long
returns-else-asked-clause-too_long g c =
    too_long_exactly (asked_for c.in-Ok.asked) (g.S.Store.disk c.args.store) (g.S.Store.disk c.run_file.result.store) (g.I.Source.left c.args.script.now) (g.I.Source.left c.run_file.new.script) c.run_file.result.status (came (asked_for c.in-Ok.asked) (g.S.Store.disk c.args.store) (g.S.Store.disk c.run_file.result.store) (g.I.Source.left c.args.script.now) (g.I.Source.left c.run_file.new.script) _ _ c.run_file.result.status c.run_file.ensures.ends)

pub returns-else-asked-clause-complete : goal.returns-else-asked-clause-complete
returns-else-asked-clause-complete g c =
    rw c.in-Ok.ensures.asked (completes (asked_for c.in-Ok.asked) (g.S.Store.disk c.args.store) (g.S.Store.disk c.run_file.result.store) (g.I.Source.left c.args.script.now) (g.I.Source.left c.run_file.new.script) c.run_file.result.status (came (asked_for c.in-Ok.asked) (g.S.Store.disk c.args.store) (g.S.Store.disk c.run_file.result.store) (g.I.Source.left c.args.script.now) (g.I.Source.left c.run_file.new.script) _ _ c.run_file.result.status c.run_file.ensures.ends))

pub returns-else-asked-clause-looked : goal.returns-else-asked-clause-looked
returns-else-asked-clause-looked g c =
    rw c.in-Ok.ensures.asked (λ old unsaved. named_looked (asked_for c.in-Ok.asked) (g.S.Store.disk c.args.store) (g.S.Store.disk c.run_file.result.store) (g.I.Source.left c.args.script.now) (g.I.Source.left c.run_file.new.script) _ _ old c.run_file.result.status (unsaved_run c.in-Ok.asked.check c.in-Ok.asked.no_save c.run_file.result.status c.if-asked.false unsaved) c.run_file.ensures.ends)

pub returns-else-asked-clause-unwritten : goal.returns-else-asked-clause-unwritten
returns-else-asked-clause-unwritten g c =
    rw c.in-Ok.ensures.asked (λ unsaved. unwritten (asked_for c.in-Ok.asked) (g.S.Store.disk c.args.store) (g.S.Store.disk c.run_file.result.store) (g.I.Source.left c.args.script.now) (g.I.Source.left c.run_file.new.script) _ _ c.run_file.result.status _ _ c.run_file.ensures.ends c.run_file.ensures.counted (unsaved_run c.in-Ok.asked.check c.in-Ok.asked.no_save c.run_file.result.status c.if-asked.false unsaved))

pub returns-else-asked-clause-not_called : goal.returns-else-asked-clause-not_called
returns-else-asked-clause-not_called g c =
    rw c.in-Ok.ensures.asked (λ calls. c.run_file.ensures.not_called (not_false _ calls))

pub returns-else-asked-clause-reads : goal.returns-else-asked-clause-reads
returns-else-asked-clause-reads g c =
    rw c.in-Ok.ensures.asked (λ old. named_reads (asked_for c.in-Ok.asked) (g.S.Store.disk c.args.store) (g.S.Store.disk c.run_file.result.store) (g.I.Source.left c.args.script.now) (g.I.Source.left c.run_file.new.script) _ _ old c.run_file.result.status _ _ c.run_file.ensures.counted c.run_file.ensures.ends)

pub returns-else-asked-clause-idle : goal.returns-else-asked-clause-idle
returns-else-asked-clause-idle g c =
    rw c.in-Ok.ensures.asked (λ old. named_idle (asked_for c.in-Ok.asked) (g.S.Store.disk c.args.store) (g.S.Store.disk c.run_file.result.store) (g.I.Source.left c.args.script.now) (g.I.Source.left c.run_file.new.script) _ _ old c.run_file.result.status _ _ c.run_file.ensures.counted c.run_file.ensures.ends)

pub returns-else-asked-clause-synced : goal.returns-else-asked-clause-synced
returns-else-asked-clause-synced g c =
    rw c.in-Ok.ensures.asked c.run_file.ensures.synced

pub returns-else-asked-clause-left : goal.returns-else-asked-clause-left
returns-else-asked-clause-left g c =
    rw c.in-Ok.ensures.asked c.run_file.ensures.left

pub returns-else-asked-clause-replaced : goal.returns-else-asked-clause-replaced
returns-else-asked-clause-replaced g c =
    rw c.in-Ok.ensures.asked c.run_file.ensures.replaced

pub returns-else-asked-clause-refusals : goal.returns-else-asked-clause-refusals
returns-else-asked-clause-refusals g c = λ done. refusals_counted c.run_file.result.notes.refusals c.run_file.result.status (c.run_file.ensures.refusals done)

pub returns-else-asked-clause-touched : goal.returns-else-asked-clause-touched
returns-else-asked-clause-touched g c =
    rw c.in-Ok.ensures.asked (run_changes (asked_for c.in-Ok.asked) (g.S.Store.disk c.args.store) (g.S.Store.disk c.run_file.result.store) (g.I.Source.left c.args.script.now) (g.I.Source.left c.run_file.new.script) _ _ c.run_file.result.status c.run_file.ensures.ends)

-- ---- a file was checked

not_new : (new no_save : Bool) → new ≡ false → (new && not no_save) ≡ false
not_new true no_save is = absurd (cc is)
not_new false no_save is = refl

pub returns-then-asked-clause-touched : goal.returns-then-asked-clause-touched
returns-then-asked-clause-touched g c =
    rw c.in-Ok.ensures.asked (unwritten_changes (asked_for c.in-Ok.asked) (g.S.Store.disk c.args.store) (g.S.Store.disk c.check_file.result.store) c.check_file.result.status c.check_file.ensures.reads.touched)

pub returns-then-asked-clause-accepted : goal.returns-then-asked-clause-accepted
returns-then-asked-clause-accepted g c =
    rw c.in-Ok.ensures.asked (accepts_checked (asked_for c.in-Ok.asked) (g.S.Store.disk c.args.store) (g.S.Store.disk c.check_file.result.store) (g.I.Source.left c.args.script.now) (g.I.Source.left c.args.script.now) _ _ c.check_file.result.status c.if-asked.true)

pub returns-then-asked-clause-checked : goal.returns-then-asked-clause-checked
returns-then-asked-clause-checked g c =
    rw c.in-Ok.ensures.asked (λ is. checks (asked_for c.in-Ok.asked) (g.S.Store.disk c.args.store) (g.S.Store.disk c.check_file.result.store) (g.I.Source.left c.args.script.now) (g.I.Source.left c.args.script.now) (g.O.Sink.written c.args.out.now) (g.O.Sink.written c.check_file.new.out) c.check_file.result.status (c.in-Ok.ensures.old is) (c.check_file.ensures.ends (g.I.Source.left c.args.script.now)))

pub returns-then-asked-clause-ends : goal.returns-then-asked-clause-ends
returns-then-asked-clause-ends g c =
    rw c.in-Ok.ensures.asked (check_ends (asked_for c.in-Ok.asked) (g.S.Store.disk c.args.store) (g.S.Store.disk c.check_file.result.store) (g.I.Source.left c.args.script.now) (g.I.Source.left c.args.script.now) _ _ c.check_file.result.status c.in-Ok.asked.check c.if-asked.true refl (c.check_file.ensures.ends (g.I.Source.left c.args.script.now)))

pub returns-then-asked-clause-no_file : goal.returns-then-asked-clause-no_file
returns-then-asked-clause-no_file g c =
    rw c.in-Ok.ensures.asked (no_file_exactly (asked_for c.in-Ok.asked) (g.S.Store.disk c.args.store) (g.S.Store.disk c.check_file.result.store) (g.I.Source.left c.args.script.now) (g.I.Source.left c.args.script.now) c.check_file.result.status (checked_came (asked_for c.in-Ok.asked) (g.S.Store.disk c.args.store) (g.S.Store.disk c.check_file.result.store) (g.I.Source.left c.args.script.now) (g.I.Source.left c.args.script.now) (g.O.Sink.written c.args.out.now) (g.O.Sink.written c.check_file.new.out) c.check_file.result.status (c.in-Ok.ensures.old c.if-asked.true) (c.check_file.ensures.ends (g.I.Source.left c.args.script.now))))

pub returns-then-asked-clause-rejected : goal.returns-then-asked-clause-rejected
returns-then-asked-clause-rejected g c =
    rw c.in-Ok.ensures.asked (rejected_exactly (asked_for c.in-Ok.asked) (g.S.Store.disk c.args.store) (g.S.Store.disk c.check_file.result.store) (g.I.Source.left c.args.script.now) (g.I.Source.left c.args.script.now) c.check_file.result.status (checked_came (asked_for c.in-Ok.asked) (g.S.Store.disk c.args.store) (g.S.Store.disk c.check_file.result.store) (g.I.Source.left c.args.script.now) (g.I.Source.left c.args.script.now) (g.O.Sink.written c.args.out.now) (g.O.Sink.written c.check_file.new.out) c.check_file.result.status (c.in-Ok.ensures.old c.if-asked.true) (c.check_file.ensures.ends (g.I.Source.left c.args.script.now))))

pub returns-then-asked-clause-too_long : goal.returns-then-asked-clause-too_long
returns-then-asked-clause-too_long g c =
    too_long_exactly (asked_for c.in-Ok.asked) (g.S.Store.disk c.args.store) (g.S.Store.disk c.check_file.result.store) (g.I.Source.left c.args.script.now) (g.I.Source.left c.args.script.now) c.check_file.result.status (checked_came (asked_for c.in-Ok.asked) (g.S.Store.disk c.args.store) (g.S.Store.disk c.check_file.result.store) (g.I.Source.left c.args.script.now) (g.I.Source.left c.args.script.now) (g.O.Sink.written c.args.out.now) (g.O.Sink.written c.check_file.new.out) c.check_file.result.status (c.in-Ok.ensures.old c.if-asked.true) (c.check_file.ensures.ends (g.I.Source.left c.args.script.now)))

pub returns-then-asked-clause-complete : goal.returns-then-asked-clause-complete
returns-then-asked-clause-complete g c =
    rw c.in-Ok.ensures.asked (completes (asked_for c.in-Ok.asked) (g.S.Store.disk c.args.store) (g.S.Store.disk c.check_file.result.store) (g.I.Source.left c.args.script.now) (g.I.Source.left c.args.script.now) c.check_file.result.status (checked_came (asked_for c.in-Ok.asked) (g.S.Store.disk c.args.store) (g.S.Store.disk c.check_file.result.store) (g.I.Source.left c.args.script.now) (g.I.Source.left c.args.script.now) (g.O.Sink.written c.args.out.now) (g.O.Sink.written c.check_file.new.out) c.check_file.result.status (c.in-Ok.ensures.old c.if-asked.true) (c.check_file.ensures.ends (g.I.Source.left c.args.script.now))))

pub returns-then-asked-clause-counted : goal.returns-then-asked-clause-counted
returns-then-asked-clause-counted g c =
    c.check_file.ensures.counted (g.I.Source.faults c.args.script.now)

pub returns-then-asked-clause-unwritten : goal.returns-then-asked-clause-unwritten
returns-then-asked-clause-unwritten g c =
    rw c.in-Ok.ensures.asked (λ unsaved. c.check_file.ensures.reads.writes)

pub returns-else-asked-clause-usage : goal.returns-else-asked-clause-usage
returns-else-asked-clause-usage g c =
    rw c.in-Ok.ensures.asked (record { only = λ be. absurd (never_usage (asked_for c.in-Ok.asked) (g.S.Store.disk c.args.store) (g.S.Store.disk c.run_file.result.store) (g.I.Source.left c.args.script.now) (g.I.Source.left c.run_file.new.script) c.run_file.result.status (came (asked_for c.in-Ok.asked) (g.S.Store.disk c.args.store) (g.S.Store.disk c.run_file.result.store) (g.I.Source.left c.args.script.now) (g.I.Source.left c.run_file.new.script) _ _ c.run_file.result.status c.run_file.ensures.ends) be); always = λ none. absurd (cc none) })

pub returns-else-asked-clause-no_file_read : goal.returns-else-asked-clause-no_file_read
returns-else-asked-clause-no_file_read g c =
    no_file_held (asked_for c.in-Ok.asked) (g.S.Store.disk c.args.store) (g.S.Store.disk c.run_file.result.store) (g.I.Source.left c.args.script.now) (g.I.Source.left c.run_file.new.script) c.run_file.result.status (came (asked_for c.in-Ok.asked) (g.S.Store.disk c.args.store) (g.S.Store.disk c.run_file.result.store) (g.I.Source.left c.args.script.now) (g.I.Source.left c.run_file.new.script) _ _ c.run_file.result.status c.run_file.ensures.ends)

pub returns-else-asked-clause-verdict : goal.returns-else-asked-clause-verdict
returns-else-asked-clause-verdict g c =
    tells_names (g.O.Sink.written c.args.out.now) (g.O.Sink.written c.run_file.new.out) c.run_file.result.notes.broken (g.S.Store.disk c.run_file.result.store).held c.run_file.result.status c.run_file.ensures.told

pub returns-else-asked-clause-told : goal.returns-else-asked-clause-told
returns-else-asked-clause-told g c =
    tells_status (g.O.Sink.written c.args.out.now) (g.O.Sink.written c.run_file.new.out) c.run_file.result.notes.broken (g.S.Store.disk c.run_file.result.store).held c.run_file.result.status c.run_file.ensures.told

pub returns-then-asked-clause-usage : goal.returns-then-asked-clause-usage
returns-then-asked-clause-usage g c =
    rw c.in-Ok.ensures.asked (record { only = λ be. absurd (never_usage (asked_for c.in-Ok.asked) (g.S.Store.disk c.args.store) (g.S.Store.disk c.check_file.result.store) (g.I.Source.left c.args.script.now) (g.I.Source.left c.args.script.now) c.check_file.result.status (checked_came (asked_for c.in-Ok.asked) (g.S.Store.disk c.args.store) (g.S.Store.disk c.check_file.result.store) (g.I.Source.left c.args.script.now) (g.I.Source.left c.args.script.now) (g.O.Sink.written c.args.out.now) (g.O.Sink.written c.check_file.new.out) c.check_file.result.status (c.in-Ok.ensures.old c.if-asked.true) (c.check_file.ensures.ends (g.I.Source.left c.args.script.now))) be); always = λ none. absurd (cc none) })

pub returns-then-asked-clause-no_file_read : goal.returns-then-asked-clause-no_file_read
returns-then-asked-clause-no_file_read g c =
    no_file_held (asked_for c.in-Ok.asked) (g.S.Store.disk c.args.store) (g.S.Store.disk c.check_file.result.store) (g.I.Source.left c.args.script.now) (g.I.Source.left c.args.script.now) c.check_file.result.status (checked_came (asked_for c.in-Ok.asked) (g.S.Store.disk c.args.store) (g.S.Store.disk c.check_file.result.store) (g.I.Source.left c.args.script.now) (g.I.Source.left c.args.script.now) (g.O.Sink.written c.args.out.now) (g.O.Sink.written c.check_file.new.out) c.check_file.result.status (c.in-Ok.ensures.old c.if-asked.true) (c.check_file.ensures.ends (g.I.Source.left c.args.script.now)))

pub returns-then-asked-clause-verdict : goal.returns-then-asked-clause-verdict
returns-then-asked-clause-verdict g c =
    tells_names (g.O.Sink.written c.args.out.now) (g.O.Sink.written c.check_file.new.out) c.check_file.result.notes.broken (g.S.Store.disk c.check_file.result.store).held c.check_file.result.status c.check_file.ensures.told

pub returns-then-asked-clause-told : goal.returns-then-asked-clause-told
returns-then-asked-clause-told g c =
    tells_status (g.O.Sink.written c.args.out.now) (g.O.Sink.written c.check_file.new.out) c.check_file.result.notes.broken (g.S.Store.disk c.check_file.result.store).held c.check_file.result.status c.check_file.ensures.told

pub returns-then-asked-clause-not_called : goal.returns-then-asked-clause-not_called
returns-then-asked-clause-not_called g c =
    rw c.in-Ok.ensures.asked (λ calls. absurd (old_called c.in-Ok.asked.new c.in-Ok.asked.no_save (c.in-Ok.ensures.old c.if-asked.true) calls))

pub returns-then-asked-clause-reads : goal.returns-then-asked-clause-reads
returns-then-asked-clause-reads g c =
    rw c.in-Ok.ensures.asked (λ old. if_all line_reads (g.I.Source.left c.args.script.now) _ c.check_file.ensures.reads)

pub returns-then-asked-clause-idle : goal.returns-then-asked-clause-idle
returns-then-asked-clause-idle g c =
    rw c.in-Ok.ensures.asked (λ old. if_some (g.S.Store.disk c.args.store).files _ (λ files. if_some (lookup c.in-Ok.asked.name.now files) _ (λ file. if_all (line_idles image_limit (image_of file)) (g.I.Source.left c.args.script.now) _ c.check_file.ensures.reads)))

pub returns-then-asked-clause-synced : goal.returns-then-asked-clause-synced
returns-then-asked-clause-synced g c =
    rw c.in-Ok.ensures.asked (λ done. inl (untouched_old (asked_for c.in-Ok.asked) (g.S.Store.disk c.args.store) (g.S.Store.disk c.check_file.result.store) (c.in-Ok.ensures.old c.if-asked.true) c.check_file.ensures.reads.files c.check_file.ensures.reads.touched))

pub returns-then-asked-clause-left : goal.returns-then-asked-clause-left
returns-then-asked-clause-left g c =
    rw c.in-Ok.ensures.asked (λ is. absurd (c.check_file.ensures.reads.saved is))

pub returns-then-asked-clause-replaced : goal.returns-then-asked-clause-replaced
returns-then-asked-clause-replaced g c =
    rw c.in-Ok.ensures.asked (none_replaced (g.S.Store.disk c.args.store).files c.in-Ok.asked.name.now (c.in-Ok.asked.new && not c.in-Ok.asked.no_save) c.check_file.result.notes.replaced c.check_file.result.status c.check_file.ensures.replaced
    (λ size. replaced_old (c.in-Ok.asked.new && not c.in-Ok.asked.no_save) size c.check_file.result.status (not_new c.in-Ok.asked.new c.in-Ok.asked.no_save (c.in-Ok.ensures.old c.if-asked.true))))

pub returns-then-asked-clause-refusals : goal.returns-then-asked-clause-refusals
returns-then-asked-clause-refusals g c = λ done. refusals_counted c.check_file.result.notes.refusals c.check_file.result.status (c.check_file.ensures.refusals done)

pub returns-then-asked-clause-untouched : goal.returns-then-asked-clause-untouched
returns-then-asked-clause-untouched g c =
    rw c.in-Ok.ensures.asked (λ unsaved. untouched_old (asked_for c.in-Ok.asked) (g.S.Store.disk c.args.store) (g.S.Store.disk c.check_file.result.store) (c.in-Ok.ensures.old c.if-asked.true) c.check_file.ensures.reads.files c.check_file.ensures.reads.touched)

pub returns-then-asked-clause-named : goal.returns-then-asked-clause-named
returns-then-asked-clause-named g c =
    rw c.in-Ok.ensures.asked (check_leaves (asked_for c.in-Ok.asked) (g.S.Store.disk c.args.store) (g.S.Store.disk c.check_file.result.store) (g.I.Source.left c.args.script.now) (g.I.Source.left c.args.script.now) (g.O.Sink.written c.args.out.now) (g.O.Sink.written c.check_file.new.out) c.check_file.result.status (c.in-Ok.ensures.old c.if-asked.true) (c.check_file.ensures.ends (g.I.Source.left c.args.script.now))).name

pub returns-then-asked-clause-looked : goal.returns-then-asked-clause-looked
returns-then-asked-clause-looked g c =
    rw c.in-Ok.ensures.asked (λ old unsaved. (check_leaves (asked_for c.in-Ok.asked) (g.S.Store.disk c.args.store) (g.S.Store.disk c.check_file.result.store) (g.I.Source.left c.args.script.now) (g.I.Source.left c.args.script.now) (g.O.Sink.written c.args.out.now) (g.O.Sink.written c.check_file.new.out) c.check_file.result.status (c.in-Ok.ensures.old c.if-asked.true) (c.check_file.ensures.ends (g.I.Source.left c.args.script.now))).looked)

pub returns-then-asked-clause-only : goal.returns-then-asked-clause-only
returns-then-asked-clause-only g c =
    (check_leaves (asked_for c.in-Ok.asked) (g.S.Store.disk c.args.store) (g.S.Store.disk c.check_file.result.store) (g.I.Source.left c.args.script.now) (g.I.Source.left c.args.script.now) (g.O.Sink.written c.args.out.now) (g.O.Sink.written c.check_file.new.out) c.check_file.result.status (c.in-Ok.ensures.old c.if-asked.true) (c.check_file.ensures.ends (g.I.Source.left c.args.script.now))).only

pub returns-then-asked-clause-under : goal.returns-then-asked-clause-under
returns-then-asked-clause-under g c =
    (check_leaves (asked_for c.in-Ok.asked) (g.S.Store.disk c.args.store) (g.S.Store.disk c.check_file.result.store) (g.I.Source.left c.args.script.now) (g.I.Source.left c.args.script.now) (g.O.Sink.written c.args.out.now) (g.O.Sink.written c.check_file.new.out) c.check_file.result.status (c.in-Ok.ensures.old c.if-asked.true) (c.check_file.ensures.ends (g.I.Source.left c.args.script.now))).under

-- ---- there was no memory to read the words

pub returns-in-Err-NoMemory-clause-ends : goal.returns-in-Err-NoMemory-clause-ends
returns-in-Err-NoMemory-clause-ends g c =
    unstarted_ends (g.S.Store.disk c.args.store) (g.I.Source.left c.args.script.now) _ c.requires.free (unnamed _ _ (g.met.S.Store.whole c.args.store).named c.requires.free) (ask (map string_bytes c.args.words.now))

pub returns-in-Err-NoMemory-clause-touched : goal.returns-in-Err-NoMemory-clause-touched
returns-in-Err-NoMemory-clause-touched g c =
    unstarted_changes (g.S.Store.disk c.args.store) (ask (map string_bytes c.args.words.now)) statuses.NoMemory

-- ---- the words ask for nothing

pub returns-in-Err-Usage-clause-counted : goal.returns-in-Err-Usage-clause-counted
returns-in-Err-Usage-clause-counted g c =
    c.say_usage-status.ensures.counted (g.S.Store.read_faults c.args.store) (g.S.Store.write_faults c.args.store) (g.I.Source.faults c.args.script.now)

pub returns-in-Err-Usage-clause-replaced : goal.returns-in-Err-Usage-clause-replaced
returns-in-Err-Usage-clause-replaced g c =
    if_some (ask (map string_bytes c.args.words.now)) _ (λ asked. none_replaced (g.S.Store.disk c.args.store).files asked.name (asked.new && not asked.no_save) _ c.say_usage-status.result c.none.ensures.replaced
    (λ size. replaced_not_done (asked.new && not asked.no_save) size c.say_usage-status.result (usage_not_done _ _ c.say_usage-status.result c.say_usage-status.ensures.text)))
