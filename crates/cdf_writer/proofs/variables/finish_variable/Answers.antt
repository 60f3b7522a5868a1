use Rattle.std.proofs.Common.{List, ap, arith, length, ℕ, ◌++◌, ◌+◌, ◌∙◌, ◌≡◌}
use Rattle.std.specs.Prelude.{Err, Ok}
use Rattle.cdf_base.specs.Bytes.{put}
use Rattle.cdf_model.specs.Limits.{level_limit}
use Rattle.cdf_writer.specs.Laying.{index_bodies, index_root, laid}
use Rattle.cdf_writer.specs.Progress.{finished_bodies, finished_nodes, finished_place, finished_root, group_bodies, vdr_made}
use Rattle.cdf_writer.specs.declared.appending.WriteStop.TheVariants.{NoMemory}
use Rattle.cdf_writer.specs.declared.bodies.NodeEntry.{NodeEntry}
use Rattle.cdf_writer.specs.declared.progress.OpenVariable.{OpenVariable}
use Rattle.cdf_writer.proofs.Finished.{vdr_made_long}
use Rattle.cdf_writer.proofs.VariableFinished.{last_is, last_long, made_is, nodes_write}
use Rattle.cdf_writer.proofs.Writing.{writes_filled, writes_first, writes_handed, writes_short, writes_typed}
use Rattle.cdf_writer.proofs.variables.finish_variable.Goals as goal

pub fill_room-requires-clause-room : goal.fill_room-requires-clause-room
fill_room-requires-clause-room g c =
    let v = c.args.v.now in
    let next = c.close_group.new.v in
    let b = g.A.Area.image c.args.area.now in
    let mid = g.A.Area.image c.close_group.new.area in
    let last = g.A.Area.image c.append_index.new.area in
    let closed_is = c.in_ok-close_group.ensures.closed in
    let blocks_are = c.in_ok-close_group.ensures.appended in
    let behind : last ≡ mid ++ laid (index_bodies level_limit (length mid) next.leaves) =
    c.in_ok-root.ensures.appended ∙ ap (λ (l : List NodeEntry). mid ++ laid (index_bodies level_limit (length mid) l)) c.as_slice.ensures in
    let place : next.place ≡ v.place = ap (λ (x : OpenVariable). x.place) closed_is in
    let tail : length next.tail ≡ length v.tail = ap (λ (x : OpenVariable). length x.tail) closed_is in
    omega (arith, c.requires.room, place, tail, last_long v next b mid closed_is blocks_are last behind, ap length (c.deref.ensures.value ∙ c.in_ok-body.ensures), vdr_made_long c.args.file.now c.size.result c.in_ok-root.root next)

pub returns-in_err-close_group-clause-area : goal.returns-in_err-close_group-clause-area
returns-in_err-close_group-clause-area g c =
    let image = g.A.Area.image in
    let frame = g.A.Area.frame in
    let faults = g.A.Area.faults in
    let v = c.args.v.now in
    let old = c.args.area.now in
    let new = c.close_group.new.area in
    let size = length (image old) in
    let e = c.in_err-close_group.field-0.0 in
    writes_handed image frame faults size old new (finished_bodies v size) c.from_residual.result e c.from_residual.ensures.1
    (writes_first image frame faults size old new (group_bodies v) (finished_nodes v size) e c.in_err-close_group.ensures.area)

pub returns-in_err-root-clause-area : goal.returns-in_err-root-clause-area
returns-in_err-root-clause-area g c =
    let image = g.A.Area.image in
    let frame = g.A.Area.frame in
    let faults = g.A.Area.faults in
    let v = c.args.v.now in
    let old = c.args.area.now in
    let new = c.append_index.new.area in
    let size = length (image old) in
    let e = c.in_err-root.field-0.0 in
    let first = c.in_ok-close_group.ensures in
    writes_handed image frame faults size old new (finished_bodies v size) c.from_residual-in_err-root.result e c.from_residual-in_err-root.ensures.1
    (writes_typed image frame faults size old new (finished_bodies v size) e
    (nodes_write image frame faults v c.close_group.new.v old c.close_group.new.area new c.as_slice.result.now (Err e) first.closed first.appended c.as_slice.ensures first.area c.in_err-root.ensures.area))

pub returns-in_err-body-clause-area : goal.returns-in_err-body-clause-area
returns-in_err-body-clause-area g c =
    let image = g.A.Area.image in
    let frame = g.A.Area.frame in
    let faults = g.A.Area.faults in
    let v = c.args.v.now in
    let old = c.args.area.now in
    let new = c.append_index.new.area in
    let size = length (image old) in
    let first = c.in_ok-close_group.ensures in
    writes_handed image frame faults size old new (finished_bodies v size) c.from_residual-in_err-body.result NoMemory c.from_residual-in_err-body.ensures.1
    (writes_short image frame faults size old new (finished_bodies v size) c.in_ok-root.root
    (nodes_write image frame faults v c.close_group.new.v old c.close_group.new.area new c.as_slice.result.now (Ok c.in_ok-root.root) first.closed first.appended c.as_slice.ensures first.area c.in_ok-root.ensures.area))

pub returns-in_err-fill_room-clause-area : goal.returns-in_err-fill_room-clause-area
returns-in_err-fill_room-clause-area g c =
    let image = g.A.Area.image in
    let frame = g.A.Area.frame in
    let faults = g.A.Area.faults in
    let v = c.args.v.now in
    let old = c.args.area.now in
    let last = c.append_index.new.area in
    let new = c.fill_room.new.area in
    let size = length (image old) in
    let e = c.in_err-fill_room.field-0.0 in
    let first = c.in_ok-close_group.ensures in
    writes_handed image frame faults size old new (finished_bodies v size) c.from_residual-in_err-fill_room.result e c.from_residual-in_err-fill_room.ensures.1
    (writes_filled image frame faults size old last new (finished_bodies v size) c.in_ok-root.root (Err e)
    (nodes_write image frame faults v c.close_group.new.v old c.close_group.new.area last c.as_slice.result.now (Ok c.in_ok-root.root) first.closed first.appended c.as_slice.ensures first.area c.in_ok-root.ensures.area)
    c.in_err-fill_room.ensures.area)

pub returns-clause-finished : goal.returns-clause-finished
returns-clause-finished g c =
    let v = c.args.v.now in
    let next = c.close_group.new.v in
    let file = c.args.file.now in
    let root = c.in_ok-root.root in
    let b = g.A.Area.image c.args.area.now in
    let mid = g.A.Area.image c.close_group.new.area in
    let last = g.A.Area.image c.append_index.new.area in
    let closed_is = c.in_ok-close_group.ensures.closed in
    let blocks_are = c.in_ok-close_group.ensures.appended in
    let leaves = c.as_slice.ensures in
    let behind : last ≡ mid ++ laid (index_bodies level_limit (length mid) next.leaves) =
    c.in_ok-root.ensures.appended ∙ ap (λ (l : List NodeEntry). mid ++ laid (index_bodies level_limit (length mid) l)) leaves in
    let root_is = c.in_ok-root.ensures.root ∙ ap (λ (l : List NodeEntry). index_root level_limit (length mid) l) leaves in
    let place : next.place ≡ v.place = ap (λ (x : OpenVariable). x.place) closed_is in
    let all = last_is v next b mid closed_is blocks_are last behind in
    let body : c.deref.result.now ≡ vdr_made file (finished_place v (length b)) (finished_root v (length b)) v =
    c.deref.ensures.value ∙ c.in_ok-body.ensures ∙ ap (λ (n : ℕ). vdr_made file n root next) c.size.ensures ∙ made_is v next b mid closed_is blocks_are last behind file root root_is in
    c.in_ok-fill_room.ensures.filled ∙ (λ i. put (all i) (place i + 8) (body i))

pub returns-clause-area : goal.returns-clause-area
returns-clause-area g c =
    let image = g.A.Area.image in
    let frame = g.A.Area.frame in
    let faults = g.A.Area.faults in
    let v = c.args.v.now in
    let old = c.args.area.now in
    let last = c.append_index.new.area in
    let new = c.fill_room.new.area in
    let size = length (image old) in
    let first = c.in_ok-close_group.ensures in
    writes_filled image frame faults size old last new (finished_bodies v size) c.in_ok-root.root (Ok tt)
    (nodes_write image frame faults v c.close_group.new.v old c.close_group.new.area last c.as_slice.result.now (Ok c.in_ok-root.root) first.closed first.appended c.as_slice.ensures first.area c.in_ok-root.ensures.area)
    c.in_ok-fill_room.ensures.area
