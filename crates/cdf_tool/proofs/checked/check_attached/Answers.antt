use Rattle.cdf_store.specs.declared.unstored.Unstored.{Unstored}
use Rattle.cdf_tool.proofs.Common.{Broken, Counted, Disk, EndsOverFile, Frame, List, Option, Tells, ap, counts, file_in, status_of, subst, sym, transport, ℕ, ◌∙◌}
use Rattle.cdf_tool.proofs.CheckLemmas.{checked_done}
use Rattle.cdf_tool.proofs.CountLemmas.{stopped_counted}
use Rattle.cdf_tool.proofs.checked.check_attached.Goals as goal

pub returns-in-Ok-clause-ends : goal.returns-in-Ok-clause-ends
returns-in-Ok-clause-ends g c =
    subst (λ (file : List ℕ). EndsOverFile c.args.space file (g.O.Sink.written c.args.out.now) (g.O.Sink.written c.check_area-area.new.out) c.check_area-area.result.status) (ap file_in c.in-Ok.ensures.image) c.check_area-area.ensures.ends

pub returns-in-Ok-clause-told : goal.returns-in-Ok-clause-told
returns-in-Ok-clause-told g c =
    let disk = c.into_store-store.ensures.disk ∙ ap (λ (f : Frame (Disk g.S.Store.Under × ℕ × Unstored)). f.under.0) (c.check_area-area.ensures.frame ∙ c.in-Ok.ensures.frame) in
    subst (λ (broken : Option Broken). Tells broken (g.S.Store.disk c.into_store-store.result).held (g.O.Sink.written c.args.out.now) (g.O.Sink.written c.check_area-area.new.out) c.check_area-area.result.status) (sym c.of_verdict.ensures.broken)
    (subst (λ (held : Option (List ℕ)). Tells c.check_area-area.result.broken held (g.O.Sink.written c.args.out.now) (g.O.Sink.written c.check_area-area.new.out) c.check_area-area.result.status) (c.in-Ok.ensures.image ∙ ap (λ (d : Disk g.S.Store.Under). d.held) (sym disk)) c.check_area-area.ensures.told)

pub returns-in-Ok-clause-refusals : goal.returns-in-Ok-clause-refusals
returns-in-Ok-clause-refusals g c = λ done.
    checked_done c.args.space _ _ _ c.check_area-area.result.status c.check_area-area.ensures.ends done ∙ sym (ap status_of c.of_verdict.ensures.refusals)

pub returns-in-Ok-clause-counted : goal.returns-in-Ok-clause-counted
returns-in-Ok-clause-counted g c = λ source.
    let writes = c.into_store-store.ensures.write ∙ ap (λ (f : Frame (Disk g.S.Store.Under × ℕ × Unstored)). f.under.1) (c.check_area-area.ensures.frame ∙ c.in-Ok.ensures.frame) in
    stopped_counted c.check_area-area.result.status (g.S.Store.read_faults c.args.store) (g.S.Store.write_faults c.args.store) (g.O.Sink.faults c.args.out.now) source
    (g.S.Store.read_faults c.into_store-store.result) (g.S.Store.write_faults c.into_store-store.result) (g.O.Sink.faults c.check_area-area.new.out) source
    (transport (λ i. Counted (counts (c.in-Ok.ensures.faults i) 0 (g.O.Sink.faults c.args.out.now) source) (counts (sym c.into_store-store.ensures.read i) 0 (g.O.Sink.faults c.check_area-area.new.out) source) c.check_area-area.result.status) (c.check_area-area.ensures.counted source))
    writes
