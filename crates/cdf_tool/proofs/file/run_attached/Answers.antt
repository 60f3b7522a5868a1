use Rattle.cdf_store.specs.declared.unstored.Unstored.{Unstored}
use Rattle.cdf_tool.proofs.Common.{Disk, Err, Frame, List, None, Option, Some, [], ap, file_of, image_limit, image_of, inl, inr, length, line_idles, option_map, refl, subst, sym, ℕ, ◌∙◌, ◌≡◌}
use Rattle.std.proofs.Common.{IsSome}
use Rattle.cdf_saving.specs.declared.status.Status.TheVariants as statuses
use Rattle.cdf_tool.proofs.AreaLemmas.{attached_holds}
use Rattle.cdf_tool.proofs.CountLemmas.{counted_attached, no_write}
use Rattle.cdf_tool.proofs.EndLemmas.{attached_all, over_not_done}
use Rattle.cdf_tool.proofs.OnlyReads.{if_all}
use Rattle.cdf_tool.proofs.StoredLemmas.{held_file}
use Rattle.cdf_saving.proofs.SavedLemmas.{none_left}
use Rattle.cdf_tool.proofs.Told.{stored_tells, untold_at_end}
use Rattle.cdf_tool.proofs.file.run_attached.Goals as goal

pub finish-requires-clause-no_write : goal.finish-requires-clause-no_write
finish-requires-clause-no_write g c = no_write _ _ _ _ _ _ c.run_area-ran.result.outcome c.run_area-ran.ensures.counted

pub finish-requires-clause-opened : goal.finish-requires-clause-opened
finish-requires-clause-opened g c =
    attached_holds c.args.asked.now.new c.args.asked.now.space _ (g.S.Store.disk c.args.store) _ (g.I.Source.left c.args.script.now) (g.I.Source.left c.run_area-ran.new.script) _ _
    _ c.run_area-ran.result.outcome c.in-Ok.ensures.image (ap (λ (f : Frame (Disk g.S.Store.Under × ℕ × Unstored)). f.under.0) (c.run_area-ran.ensures.frame ∙ c.in-Ok.ensures.frame)) c.run_area-ran.ensures.ends

pub returns-in-Ok-clause-ends : goal.returns-in-Ok-clause-ends
returns-in-Ok-clause-ends g c =
    attached_all c.args.asked.now.new c.args.asked.now.no_save c.args.asked.now.space (file_of (g.S.Store.disk c.args.store)) _ (g.S.Store.disk c.args.store) _ (g.S.Store.disk c.finish.result.store) (g.I.Source.left c.args.script.now) (g.I.Source.left c.run_area-ran.new.script) _ _
    _ c.run_area-ran.result.outcome c.finish.result.notes.left c.finish.result.status c.in-Ok.ensures.image c.run_area-ran.ensures.ends c.run_area-ran.ensures.well_formed
    (ap (λ (f : Frame (Disk g.S.Store.Under × ℕ × Unstored)). f.under.0) (c.run_area-ran.ensures.frame ∙ c.in-Ok.ensures.frame)) c.finish.ensures.ends c.finish.ensures.left
    _ _ (λ old same. same ∙ c.in-Ok.ensures.unedited old) c.run_area-ran.ensures.unedited c.finish.ensures.unmoved

pub finish-requires-clause-untold : goal.finish-requires-clause-untold
finish-requires-clause-untold g c = untold_at_end (g.O.Sink.written c.args.out.now) (g.O.Sink.written c.run_area-ran.new.out) c.run_area-ran.result.broken _ c.run_area-ran.result.outcome c.run_area-ran.ensures.told

pub returns-in-Ok-clause-told : goal.returns-in-Ok-clause-told
returns-in-Ok-clause-told g c =
    let d = g.S.Store.disk c.args.store in
    stored_tells (g.O.Sink.written c.args.out.now) (g.O.Sink.written c.run_area-ran.new.out) c.args.asked.now.no_save _ d _ (g.S.Store.disk c.finish.result.store) (ap (λ (f : Frame (Disk g.S.Store.Under × ℕ × Unstored)). f.under.0) (c.run_area-ran.ensures.frame ∙ c.in-Ok.ensures.frame))
    c.args.asked.now.new _ c.run_area-ran.result.broken c.finish.result.notes.broken c.run_area-ran.result.outcome c.finish.result.status c.finish.ensures.told c.in-Ok.ensures.image (held_file d.held c.args.size (Some c.args.size) refl c.requires)
    c.run_area-ran.ensures.told c.finish.ensures.ends

pub returns-in-Ok-clause-counted : goal.returns-in-Ok-clause-counted
returns-in-Ok-clause-counted g c =
    counted_attached c.args.asked.now.no_save _ _ _ c.run_area-ran.result.outcome c.finish.result.status (g.S.Store.read_faults c.args.store) (g.S.Store.write_faults c.args.store) (g.O.Sink.faults c.args.out.now) (g.I.Source.faults c.args.script.now)
    (g.S.Store.read_faults c.finish.result.store) (g.S.Store.write_faults c.finish.result.store) (g.O.Sink.faults c.run_area-ran.new.out) (g.I.Source.faults c.run_area-ran.new.script) _ _ _
    c.in-Ok.ensures.faults (ap (λ (f : Frame (Disk g.S.Store.Under × ℕ × Unstored)). f.under.1) (c.run_area-ran.ensures.frame ∙ c.in-Ok.ensures.frame))
    c.finish.ensures.ends c.run_area-ran.ensures.counted c.finish.ensures.reads c.finish.ensures.writes

pub finish-requires-clause-not_done : goal.finish-requires-clause-not_done
finish-requires-clause-not_done g c = over_not_done _ _ _ _ _ _ _ _ c.run_area-ran.result.outcome c.run_area-ran.ensures.ends

pub returns-in-Ok-clause-none_left : goal.returns-in-Ok-clause-none_left
returns-in-Ok-clause-none_left g c = none_left c.finish.result.notes.left _ _ _ c.finish.result.status c.finish.ensures.left

pub returns-in-Ok-clause-synced : goal.returns-in-Ok-clause-synced
returns-in-Ok-clause-synced g c = λ done. elim (c.finish.ensures.synced done) [
  | inl same ↦ inl (same ∙ ap (λ (f : Frame (Disk g.S.Store.Under × ℕ × Unstored)). f.under.0) (c.run_area-ran.ensures.frame ∙ c.in-Ok.ensures.frame))
  | inr synced ↦ inr synced
]

-- a file of which the length is known is attached
is_attached : (held : Option (List ℕ)) (size : ℕ) → Some size ≡ option_map (λ (l : List ℕ). length l) held → IsSome held
is_attached None size e = absurd (cc e)
is_attached (Some bytes) size e = refl

pub finish-requires-clause-held : goal.finish-requires-clause-held
finish-requires-clause-held g c =
    let same = ap (λ (f : Frame (Disk g.S.Store.Under × ℕ × Unstored)). f.under.0) (c.run_area-ran.ensures.frame ∙ c.in-Ok.ensures.frame) in
    subst (λ (x : Disk g.S.Store.Under). IsSome x.held) (sym same) (is_attached (g.S.Store.disk c.args.store).held c.args.size c.requires)

pub returns-in-Err-clause-ends : goal.returns-in-Err-clause-ends
returns-in-Err-clause-ends g c = record {
  end = [];
  outcome = Err statuses.NoMemory;
  over = inl (refl, refl, refl);
  well_formed = tt;
  stored = (refl, ap (λ s. g.S.Store.disk s) c.in-Err.ensures.handed_back);
  leaves = c.none.ensures.left;
  idle = λ old. if_all (line_idles image_limit (image_of (file_of (g.S.Store.disk c.args.store)))) (g.I.Source.left c.args.script.now) _ (ap (λ s. g.S.Store.disk s) c.in-Err.ensures.handed_back, λ is. cc);
}
