use Rattle.cdf_tool.proofs.Common.{Attached, Bool, Some, ap, asked_for, false, file_of, inl, inr, not, option_map, refl, sym, true, ◌&&◌, ◌∙◌, ◌≡◌}
use Rattle.cdf_tool.proofs.CheckLemmas.{no_file_not_done}
use Rattle.cdf_tool.proofs.CountLemmas.{counted_from}
use Rattle.cdf_tool.proofs.RunIdle.{none_replaced, replaced_found, replaced_not_done, replaced_old}
use Rattle.cdf_tool.proofs.EndLemmas.{attached_ends, attached_spoils, in_memory_ends}
use Rattle.cdf_tool.proofs.RunStore.{attached_untouched}
use Rattle.cdf_tool.proofs.StoredLemmas.{both_are, found_file, held_file, saves}
use Rattle.cdf_tool.proofs.file.run_file.Goals as goal

pub returns-then-is_in_memory-clause-ends : goal.returns-then-is_in_memory-clause-ends
returns-then-is_in_memory-clause-ends g c =
    let asked = c.args.asked.now in
    let both = both_are asked.new asked.no_save (sym c.is_in_memory.ensures ∙ c.if-is_in_memory.true) in
    rw c.run_in_memory.ensures.store (in_memory_ends asked.new asked.check asked.no_save asked.space asked.name.now (g.S.Store.disk c.args.store) (g.I.Source.left c.args.script.now) (g.I.Source.left c.run_in_memory.new.script) _ _
    c.run_in_memory.result.status both.0 both.1 c.run_in_memory.ensures.ends)

pub returns-in-Ok-Some-clause-ends : goal.returns-in-Ok-Some-clause-ends
returns-in-Ok-Some-clause-ends g c =
    let asked = c.args.asked.now in
    let d = g.S.Store.disk c.args.store in
    let at = g.S.Store.disk c.attach.new.self in
    let e = c.in-Ok-Some.ensures in
    let held : at.held ≡ Some (file_of at) = held_file at.held c.in-Ok-Some.size c.in-Ok-Some.field-0 c.in-Ok-Some.field-0-is e.length in
    let attached : Attached (asked_for asked) (file_of at) d at = record {
      found = found_file asked.new asked.name.now at.held (file_of at) d.files held e.known;
      held = held;
      name = e.name ∙ ap (λ o. option_map (λ _. asked.name.now) o) held;
      files = e.files;
      touched = e.touched;
      only = e.only;
      under = e.under;
    } in
    rw (c.note_replaced.ensures.status, c.note_replaced.ensures.store) (attached_ends asked.new asked.check asked.no_save asked.space asked.name.now (file_of at) d (g.S.Store.disk c.run_attached-ended.result.store) (g.I.Source.left c.args.script.now) (g.I.Source.left c.run_attached-ended.new.script) _ _
    at attached (saves asked.new asked.no_save (sym c.is_in_memory.ensures ∙ c.if-is_in_memory.false)) c.run_attached-ended.result.notes.left c.run_attached-ended.result.status c.run_attached-ended.ensures.ends)

pub returns-in-Ok-Some-clause-left : goal.returns-in-Ok-Some-clause-left
returns-in-Ok-Some-clause-left g c =
    let asked = c.args.asked.now in
    let d = g.S.Store.disk c.args.store in
    let at = g.S.Store.disk c.attach.new.self in
    let e = c.in-Ok-Some.ensures in
    let held : at.held ≡ Some (file_of at) = held_file at.held c.in-Ok-Some.size c.in-Ok-Some.field-0 c.in-Ok-Some.field-0-is e.length in
    let attached : Attached (asked_for asked) (file_of at) d at = record {
      found = found_file asked.new asked.name.now at.held (file_of at) d.files held e.known;
      held = held;
      name = e.name ∙ ap (λ o. option_map (λ _. asked.name.now) o) held;
      files = e.files;
      touched = e.touched;
      only = e.only;
      under = e.under;
    } in
    rw (c.note_replaced.ensures.status, c.note_replaced.ensures.store, c.note_replaced.ensures.left) (attached_spoils asked.new asked.check asked.no_save asked.space asked.name.now (file_of at) d (g.S.Store.disk c.run_attached-ended.result.store) (g.I.Source.left c.args.script.now) (g.I.Source.left c.run_attached-ended.new.script) _ _
    at attached (saves asked.new asked.no_save (sym c.is_in_memory.ensures ∙ c.if-is_in_memory.false)) c.run_attached-ended.result.notes.left c.run_attached-ended.result.status c.run_attached-ended.ensures.ends)

pub returns-in-Ok-Some-clause-synced : goal.returns-in-Ok-Some-clause-synced
returns-in-Ok-Some-clause-synced g c =
    let asked = c.args.asked.now in
    let d = g.S.Store.disk c.args.store in
    let at = g.S.Store.disk c.attach.new.self in
    let e = c.in-Ok-Some.ensures in
    let held : at.held ≡ Some (file_of at) = held_file at.held c.in-Ok-Some.size c.in-Ok-Some.field-0 c.in-Ok-Some.field-0-is e.length in
    let attached : Attached (asked_for asked) (file_of at) d at = record {
      found = found_file asked.new asked.name.now at.held (file_of at) d.files held e.known;
      held = held;
      name = e.name ∙ ap (λ o. option_map (λ _. asked.name.now) o) held;
      files = e.files;
      touched = e.touched;
      only = e.only;
      under = e.under;
    } in
    rw (c.note_replaced.ensures.status, c.note_replaced.ensures.store) (λ done. elim (c.run_attached-ended.ensures.synced done) [
      | inl same ↦ inl (attached_untouched (asked_for asked) (file_of at) d at _ attached same)
      | inr synced ↦ inr synced
    ])

pub returns-in-Ok-Some-clause-counted : goal.returns-in-Ok-Some-clause-counted
returns-in-Ok-Some-clause-counted g c =
    rw (c.note_replaced.ensures.status, c.note_replaced.ensures.store) (counted_from (g.S.Store.read_faults c.args.store) (g.S.Store.write_faults c.args.store) (g.O.Sink.faults c.args.out.now) (g.I.Source.faults c.args.script.now) _ (g.S.Store.read_faults c.attach.new.self) (g.S.Store.write_faults c.attach.new.self) c.run_attached-ended.result.status
    c.in-Ok-Some.ensures.cause.done c.attach.ensures.write c.run_attached-ended.ensures.counted)

pub returns-in-Ok-None-clause-counted : goal.returns-in-Ok-None-clause-counted
returns-in-Ok-None-clause-counted g c =
    counted_from (g.S.Store.read_faults c.args.store) (g.S.Store.write_faults c.args.store) (g.O.Sink.faults c.args.out.now) (g.I.Source.faults c.args.script.now) _ (g.S.Store.read_faults c.attach.new.self) (g.S.Store.write_faults c.attach.new.self) c.say_no_file-status.result
    c.in-Ok-None.ensures.cause.done c.attach.ensures.write (c.say_no_file-status.ensures.counted _ _ _)

pub returns-then-is_in_memory-clause-counted : goal.returns-then-is_in_memory-clause-counted
returns-then-is_in_memory-clause-counted g c = rw c.run_in_memory.ensures.store (c.run_in_memory.ensures.counted (g.S.Store.read_faults c.args.store) (g.S.Store.write_faults c.args.store))

pub returns-in-Ok-Some-clause-replaced : goal.returns-in-Ok-Some-clause-replaced
returns-in-Ok-Some-clause-replaced g c =
    let asked = c.args.asked.now in
    let e = c.in-Ok-Some.ensures in
    rw (c.note_replaced.ensures.status, c.note_replaced.ensures.replaced)
    (replaced_found asked.new asked.no_save asked.name.now (g.S.Store.disk c.args.store).files (g.S.Store.disk c.attach.new.self).held c.in-Ok-Some.size c.run_attached-ended.result.status
    (saves asked.new asked.no_save (sym c.is_in_memory.ensures ∙ c.if-is_in_memory.false)) e.known (sym c.in-Ok-Some.field-0-is ∙ e.length))

pub returns-in-Ok-None-clause-replaced : goal.returns-in-Ok-None-clause-replaced
returns-in-Ok-None-clause-replaced g c =
    none_replaced (g.S.Store.disk c.args.store).files c.args.asked.now.name.now (c.args.asked.now.new && not c.args.asked.now.no_save) _ c.say_no_file-status.result c.none.ensures.replaced
    (λ size. replaced_not_done (c.args.asked.now.new && not c.args.asked.now.no_save) size c.say_no_file-status.result (no_file_not_done _ _ c.say_no_file-status.result c.say_no_file-status.ensures.text))

in_memory : (new no_save : Bool) → (new && no_save) ≡ true → (new && not no_save) ≡ false
in_memory true true is = refl
in_memory true false is = absurd (cc is)
in_memory false no_save is = refl

pub returns-then-is_in_memory-clause-replaced : goal.returns-then-is_in_memory-clause-replaced
returns-then-is_in_memory-clause-replaced g c =
    let asked = c.args.asked.now in
    none_replaced (g.S.Store.disk c.args.store).files asked.name.now (asked.new && not asked.no_save) c.run_in_memory.result.notes.replaced c.run_in_memory.result.status c.run_in_memory.ensures.replaced
    (λ size. replaced_old (asked.new && not asked.no_save) size c.run_in_memory.result.status (in_memory asked.new asked.no_save (sym c.is_in_memory.ensures ∙ c.if-is_in_memory.true)))
