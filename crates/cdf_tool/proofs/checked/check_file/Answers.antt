use Rattle.cdf_tool.proofs.Common.{Attached, Disk, Some, ap, asked_for, false, file_of, option_map, refl, ◌∙◌, ◌≡◌}
use Rattle.cdf_tool.proofs.CheckLemmas.{never_six, over_attached}
use Rattle.cdf_tool.proofs.CountLemmas.{counted_from, writes_stay}
use Rattle.cdf_tool.proofs.OnlyReads.{attached_files}
use Rattle.cdf_tool.proofs.StoredLemmas.{found_file, held_file}
use Rattle.cdf_tool.proofs.checked.check_file.Goals as goal

pub returns-in-Ok-Some-clause-ends : goal.returns-in-Ok-Some-clause-ends
returns-in-Ok-Some-clause-ends g c = λ left.
    let asked = c.args.asked.now in
    let d = g.S.Store.disk c.args.store in
    let at = g.S.Store.disk c.attach.new.self in
    let e = c.in-Ok-Some.ensures in
    let held : at.held ≡ Some (file_of at) = held_file at.held c.in-Ok-Some.size c.in-Ok-Some.field-0 c.in-Ok-Some.field-0-is e.length in
    let attached : Attached (asked_for asked) (file_of at) d at = record {
      found = rw c.requires.old (found_file false asked.name.now at.held (file_of at) d.files held e.known);
      held = held;
      name = e.name ∙ ap (λ o. option_map (λ _. asked.name.now) o) held;
      files = rw c.requires.old e.files;
      touched = e.touched;
      only = e.only;
      under = e.under;
    } in
    over_attached (asked_for asked) (file_of at) d (g.S.Store.disk c.check_attached.result.store) left (g.O.Sink.written c.args.out.now) (g.O.Sink.written c.check_attached.new.out) c.check_attached.result.status c.requires.old
    (rw c.check_attached.ensures.disk attached) c.check_attached.ensures.ends

pub returns-in-Ok-Some-clause-counted : goal.returns-in-Ok-Some-clause-counted
returns-in-Ok-Some-clause-counted g c = λ source.
    counted_from (g.S.Store.read_faults c.args.store) (g.S.Store.write_faults c.args.store) (g.O.Sink.faults c.args.out.now) source _ (g.S.Store.read_faults c.attach.new.self) (g.S.Store.write_faults c.attach.new.self) c.check_attached.result.status
    c.in-Ok-Some.ensures.cause.done c.attach.ensures.write (c.check_attached.ensures.counted source)

pub returns-in-Ok-None-clause-counted : goal.returns-in-Ok-None-clause-counted
returns-in-Ok-None-clause-counted g c = λ source.
    counted_from (g.S.Store.read_faults c.args.store) (g.S.Store.write_faults c.args.store) (g.O.Sink.faults c.args.out.now) source _ (g.S.Store.read_faults c.attach.new.self) (g.S.Store.write_faults c.attach.new.self) c.say_no_file-status.result
    c.in-Ok-None.ensures.cause.done c.attach.ensures.write (c.say_no_file-status.ensures.counted _ _ _)

pub returns-in-Ok-Some-clause-reads : goal.returns-in-Ok-Some-clause-reads
returns-in-Ok-Some-clause-reads g c =
    let disk = c.check_attached.ensures.disk in
    let six = never_six c.args.asked.now.space _ _ _ c.check_attached.result.status c.check_attached.ensures.ends in
    record {
      files = ap (λ (d : Disk g.S.Store.Under). d.files) disk ∙ attached_files false c.args.asked.now.name.now (g.S.Store.disk c.args.store).files (g.S.Store.disk c.attach.new.self).files c.attach.result refl c.attach.ensures.files;
      touched = ap (λ (d : Disk g.S.Store.Under). d.touched) disk ∙ c.attach.ensures.touched;
      writes = writes_stay c.check_attached.result.status _ _ six (c.check_attached.ensures.counted 0) ∙ c.attach.ensures.write;
      saved = six;
    }
