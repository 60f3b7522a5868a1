use Rattle.std.proofs.Common.{ap, arith, drop, length, refl, subst, take, ℕ, ◌+◌, ◌∙◌, ◌≡◌, ◌≤◌}
use Rattle.std.proofs.lemmas.List.{length-append, length-drop}
use Rattle.std.specs.Prelude.{slice_range}
use Rattle.cdf_area.specs.Frame.{Frame}
use Rattle.cdf_writer.specs.Bodies.{vxr_body, whole_record}
use Rattle.cdf_writer.specs.Laying.{node_bodies}
use Rattle.cdf_writer.proofs.LevelNodes.{level_cut, level_image, level_named, level_rest}
use Rattle.cdf_writer.proofs.NodeGroups.{next_node, next_rest}
use Rattle.cdf_writer.proofs.Writing.{writes_after, writes_handed}
use Rattle.cdf_writer.proofs.index.append_level.Goals as goal

pub returns-in_err-entry-clause-area : goal.returns-in_err-entry-clause-area
returns-in_err-entry-clause-area g c =
    let image = g.A.Area.image in
    let frame = g.A.Area.frame in
    let faults = g.A.Area.faults in
    let l = c.loop-from in
    let entries = c.args.entries.now in
    let here = drop l.from entries in
    let node = slice_range entries l.from c.min-end.result in
    let some : 1 ≤ length here = let t = c.loop-from-test.true in omega (arith, t, length-drop l.from entries) in
    let node_is : node ≡ take 64 here = ap (λ (k : ℕ). slice_range entries l.from k) c.min-end.ensures ∙ next_node entries l.from l.invariant.within in
    let e = c.in_err-entry.field-0.0 in
    let old = c.args.area.now in
    let new = c.append_node.new.area in
    let size = length (image old) in
    let at = length (image l.area) in
    writes_handed image frame faults size old new (node_bodies entries) c.from_residual.result e c.from_residual.ensures.1
    (writes_after image frame faults size at old l.area new (_) (node_bodies entries) e l.invariant.frame l.invariant.faults c.in_err-entry.ensures.area
    (λ cut. l.invariant.cut e (level_cut here node (drop 64 here) some node_is refl (frame old).limit at e cut)))

pub loop-from-preserved : goal.loop-from-preserved
loop-from-preserved g c =
    let image = g.A.Area.image in
    let l = c.loop-from in
    let i = l.invariant in
    let entries = c.args.entries.now in
    let here = drop l.from entries in
    let left = drop c.min-end.result entries in
    let node = slice_range entries l.from c.min-end.result in
    let some : 1 ≤ length here = let t = c.loop-from-test.true in omega (arith, t, length-drop l.from entries) in
    let node_is : node ≡ take 64 here = ap (λ (k : ℕ). slice_range entries l.from k) c.min-end.ensures ∙ next_node entries l.from i.within in
    let left_is : left ≡ drop 64 here = ap (λ (k : ℕ). drop k entries) c.min-end.ensures ∙ next_rest entries l.from i.within in
    let call = c.in_ok-entry.ensures in
    let now = c.append_node.new.area in
    let limit = (g.A.Area.frame c.args.area.now).limit in
    let long : length (image now) ≡ length (image l.area) + length (whole_record (vxr_body node)) = ap length call.appended ∙ length-append (image l.area) (whole_record (vxr_body node)) in
    record {
      within = omega (arith, c.min-end.ensures);
      image = level_image here node left some node_is left_is (image l.area) (image now) _ call.appended i.image;
      named = level_named here node left some node_is left_is l.upper.items c.push.new.self.items _ c.in_ok-entry.entry (length (image l.area)) (length (image now)) c.in_ok-push.ensures.items call.entry long i.named;
      frame = call.area.frame ∙ i.frame;
      faults = call.area.cause.done ∙ i.faults;
      fits = subst (λ (f : Frame _). length (image now) ≤ f.limit) i.frame call.area.fits;
      cut = λ stop k. i.cut stop (level_rest here node left some node_is left_is limit (length (image l.area)) (length (image now)) stop long k);
    }
