use Rattle.std.proofs.Common.{List, ap, arith, length, subst, sym, ℕ, ◌++◌, ◌<◌, ◌-◌, ◌∙◌, ◌≤◌}
use Rattle.std.specs.Prelude.{Err}
use Rattle.cdf_writer.specs.Laying.{index_bodies, index_root, laid, link_if, node_bodies}
use Rattle.cdf_writer.specs.Stops.{Writes}
use Rattle.std.specs.Prelude.{Ok}
use Rattle.cdf_writer.proofs.IndexLevels.{above_bodies, above_image, above_root, alone_bodies, alone_root, first_level}
use Rattle.cdf_writer.proofs.Writing.{on_ok_both, same_number, writes_both, writes_done, writes_first, writes_handed}
use Rattle.cdf_writer.proofs.index.+append_levels.Goals as goal

pub returns-in_err-upper-clause-area : goal.returns-in_err-upper-clause-area
returns-in_err-upper-clause-area g t c =
    let image = g.A.Area.image in
    let frame = g.A.Area.frame in
    let faults = g.A.Area.faults in
    let old = c.args.area.now in
    let new = c.append_level.new.area in
    let size = length (image old) in
    let entries = c.args.entries.now in
    let first = first_level size entries c.args.most c.if-most-eq0.false in
    let e = c.in_err-upper.field-0.0 in
    writes_handed image frame faults size old new (index_bodies c.args.most size entries) c.from_residual.result e c.from_residual.ensures.1
    (subst (λ (l : List (List ℕ)). Writes {T = ℕ} image frame faults size old new l (Err e)) (sym first.are)
    (writes_first image frame faults size old new (node_bodies entries) first.rest e c.in_err-upper.ensures.area))

pub returns-then-len-gt1-clause-appended : goal.returns-then-len-gt1-clause-appended
returns-then-len-gt1-clause-appended g t c =
    let b = g.A.Area.image c.args.area.now in
    let mid = g.A.Area.image c.append_level.new.area in
    let now = g.A.Area.image c.append_levels.new.area in
    let above = c.deref.result.now in
    let above_is = c.deref.ensures.value ∙ c.in_ok-upper.ensures.entries in
    let many : 1 < length above = omega (arith, c.if-len-gt1.true, c.len.ensures, ap length c.deref.ensures.value) in
    let appended = c.append_levels.ensures.appended in
    on_ok_both c.append_levels.result appended appended (λ e _. above_image b mid c.args.entries.now above c.args.most c.if-most-eq0.false c.in_ok-upper.ensures.appended above_is now many e)

pub returns-then-len-gt1-clause-root : goal.returns-then-len-gt1-clause-root
returns-then-len-gt1-clause-root g t c =
    let b = g.A.Area.image c.args.area.now in
    let mid = g.A.Area.image c.append_level.new.area in
    let entries = c.args.entries.now in
    let most = c.args.most in
    let above = c.deref.result.now in
    let above_is = c.deref.ensures.value ∙ c.in_ok-upper.ensures.entries in
    let many : 1 < length above = omega (arith, c.if-len-gt1.true, c.len.ensures, ap length c.deref.ensures.value) in
    same_number c.append_levels.result (index_root (most - 1) (length mid) above) (index_root most (length b) entries)
    (sym (above_root b mid entries above most c.if-most-eq0.false c.in_ok-upper.ensures.appended above_is many))
    c.append_levels.ensures.root

pub returns-then-len-gt1-clause-area : goal.returns-then-len-gt1-clause-area
returns-then-len-gt1-clause-area g t c =
    let image = g.A.Area.image in
    let frame = g.A.Area.frame in
    let faults = g.A.Area.faults in
    let old = c.args.area.now in
    let mid = c.append_level.new.area in
    let new = c.append_levels.new.area in
    let size = length (image old) in
    let entries = c.args.entries.now in
    let most = c.args.most in
    let above = c.deref.result.now in
    let above_is = c.deref.ensures.value ∙ c.in_ok-upper.ensures.entries in
    let many : 1 < length above = omega (arith, c.if-len-gt1.true, c.len.ensures, ap length c.deref.ensures.value) in
    let r = c.append_levels.result in
    subst (λ (l : List (List ℕ)). Writes image frame faults size old new l r) (sym (above_bodies (image old) (image mid) entries above most c.if-most-eq0.false c.in_ok-upper.ensures.appended above_is many))
    (writes_both image frame faults size old mid new (node_bodies entries) (index_bodies (most - 1) (length (image mid)) above) c.in_ok-upper.upper r c.in_ok-upper.ensures.area c.append_levels.ensures.area)

pub returns-clause-appended : goal.returns-clause-appended
returns-clause-appended g t c =
    let b = g.A.Area.image c.args.area.now in
    let mid = g.A.Area.image c.append_level.new.area in
    let above = c.in_ok-upper.upper.items in
    let few : length above ≤ 1 = omega (arith, c.if-len-gt1.false, c.len.ensures) in
    c.in_ok-upper.ensures.appended
    ∙ ap (λ (l : List (List ℕ)). b ++ laid l) (sym (alone_bodies b mid c.args.entries.now above c.args.most c.if-most-eq0.false c.in_ok-upper.ensures.appended c.in_ok-upper.ensures.entries few))

pub returns-clause-root : goal.returns-clause-root
returns-clause-root g t c =
    let b = g.A.Area.image c.args.area.now in
    let mid = g.A.Area.image c.append_level.new.area in
    let entries = c.args.entries.now in
    let above = c.in_ok-upper.upper.items in
    let few : length above ≤ 1 = omega (arith, c.if-len-gt1.false, c.len.ensures) in
    c.link_if.ensures
    ∙ ap (λ (p : ℕ). link_if p entries) c.size-place.ensures
    ∙ sym (alone_root b mid entries above c.args.most c.if-most-eq0.false c.in_ok-upper.ensures.appended c.in_ok-upper.ensures.entries few)

pub returns-clause-area : goal.returns-clause-area
returns-clause-area g t c =
    let image = g.A.Area.image in
    let frame = g.A.Area.frame in
    let faults = g.A.Area.faults in
    let old = c.args.area.now in
    let new = c.append_level.new.area in
    let size = length (image old) in
    let entries = c.args.entries.now in
    let above = c.in_ok-upper.upper.items in
    let few : length above ≤ 1 = omega (arith, c.if-len-gt1.false, c.len.ensures) in
    let are = alone_bodies (image old) (image new) entries above c.args.most c.if-most-eq0.false c.in_ok-upper.ensures.appended c.in_ok-upper.ensures.entries few in
    subst (λ (l : List (List ℕ)). Writes {T = ℕ} image frame faults size old new l (Ok c.link_if.result)) (sym are)
    (writes_done image frame faults size old new (node_bodies entries) c.in_ok-upper.upper c.link_if.result c.in_ok-upper.ensures.area)
