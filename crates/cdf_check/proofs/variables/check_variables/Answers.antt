use Rattle.cdf_check.proofs.Common.{AreNamed, Err, Finds, Hold, In-get_or, IsVariableOf, List, Ok, Yields, [], add-one, ap, arith, broken_member, cpr_at, differ_rows, flat_map, get_or, holds_more, map, name_in, none_found, number, one_found, one_more, phase7, read_done, read_failed, read_more, record_bytes, same_name, subst, sym, take, take_all, take_more, variable_rows, vdr_name, vdr_vxr_head, ℕ, ◌∙◌, ◌≡◌}
use Rattle.cdf_check.proofs.VariableSteps.{each_breaks, all_found}
use Rattle.cdf_check.proofs.variables.check_variables.Goals as goal

pub check_variable-requires : goal.check_variable-requires
check_variable-requires g c =
    let l = c.loop-vdr in
    let m = get_or c.args.vdrs.now l.vdr-index 0 in
    rw l.invariant.area.image (record {
      gdr = c.requires.gdr;
      sizes = c.requires.sizes;
      tiled = c.requires.tiled;
      variable = c.requires.variables m (In-get_or c.args.vdrs.now l.vdr-index c.loop-vdr-test.true);
    })

pub returns-in-Err-clause-found : goal.returns-in-Err-clause-found
returns-in-Err-clause-found g c =
    let l = c.loop-vdr in
    let b = g.A.Area.image c.args.area.now in
    let ts = c.args.tiles.now in
    let m = get_or c.args.vdrs.now l.vdr-index 0 in
    let here : Yields (variable_rows b ts [] m) (IsVariableOf b m) (Err c.in-Err.broken) = rw (c.in-Err.is, l.invariant.area.image) at c.in_ok-variable.ensures.found in
    each_breaks b ts c.args.vdrs.now c.in-Err.broken.rule c.in-Err.broken.place (broken_member (variable_rows b ts []) c.args.vdrs.now l.vdr-index 0 c.in-Err.broken.rule c.in-Err.broken.place c.loop-vdr-test.true here)

pub loop-vdr-preserved : goal.loop-vdr-preserved
loop-vdr-preserved g c =
    let l = c.loop-vdr in
    let b = g.A.Area.image c.args.area.now in
    let ts = c.args.tiles.now in
    let m = get_or c.args.vdrs.now l.vdr-index 0 in
    let here : Yields (variable_rows b ts [] m) (IsVariableOf b m) (Ok c.in-Ok.variable) = rw (c.in-Ok.is, l.invariant.area.image) at c.in_ok-variable.ensures.found in
    let more = sym (take_more c.args.vdrs.now l.vdr-index 0 c.loop-vdr-test.true) in
    record {
      area = read_more l.invariant.area c.in_ok-variable.ensures.area;
      rows = rw add-one (holds_more (variable_rows b ts []) c.args.vdrs.now l.vdr-index 0 c.loop-vdr-test.true l.invariant.rows here.0);
      named = subst (λ (xs : List ℕ). AreNamed (λ vdr. name_in b vdr vdr_name) xs c.add.new.self) more (c.in_ok-add-in-Ok.ensures.named (λ vdr. name_in b vdr vdr_name) (take l.vdr-index c.args.vdrs.now) here.1.name_is l.invariant.named);
      cprs = c.in_ok-push-in-Ok.ensures.items ∙ one_more (cpr_at b) c.args.vdrs.now l.vdr-index l.cprs.items c.in-Ok.variable.cpr c.loop-vdr-test.true l.invariant.cprs here.1.cpr_is;
      sizes = c.in_ok-push-in-Ok-2.ensures.items ∙ one_more (record_bytes b) c.args.vdrs.now l.vdr-index l.record_sizes.items c.in-Ok.variable.record_bytes c.loop-vdr-test.true l.invariant.sizes here.1.bytes_are;
      heads = c.in_ok-push-in-Ok-3.ensures.items ∙ one_more (λ vdr. number b vdr vdr_vxr_head) c.args.vdrs.now l.vdr-index l.vxr_heads.items c.in-Ok.variable.vxr_head c.loop-vdr-test.true l.invariant.heads here.1.head_is;
    }

pub returns-in-Some-clause-found : goal.returns-in-Some-clause-found
returns-in-Some-clause-found g c =
    let l = c.loop-vdr in
    let b = g.A.Area.image c.args.area.now in
    let ts = c.args.tiles.now in
    let vdrs = c.args.vdrs.now in
    let all : take l.vdr-index vdrs ≡ vdrs = take_all l.vdr-index vdrs (omega (arith, c.loop-vdr-test.false)) in
    let rows : Hold (flat_map (variable_rows b ts []) vdrs) = rw all at l.invariant.rows in
    let found : Finds (differ_rows 2 (same_name b vdr_name) [] vdrs) l.names.repeated = rw all at l.invariant.named.found in
    one_found (phase7 b ts vdrs) l.names.repeated c.in-Some.broken (all_found b ts vdrs c.requires.once rows l.names.repeated found) c.in-Some.is

pub returns-clause-found : goal.returns-clause-found
returns-clause-found g c =
    let l = c.loop-vdr in
    let b = g.A.Area.image c.args.area.now in
    let ts = c.args.tiles.now in
    let vdrs = c.args.vdrs.now in
    let all : take l.vdr-index vdrs ≡ vdrs = take_all l.vdr-index vdrs (omega (arith, c.loop-vdr-test.false)) in
    let rows : Hold (flat_map (variable_rows b ts []) vdrs) = rw all at l.invariant.rows in
    let found : Finds (differ_rows 2 (same_name b vdr_name) [] vdrs) l.names.repeated = rw all at l.invariant.named.found in
    (none_found (phase7 b ts vdrs) l.names.repeated (all_found b ts vdrs c.requires.once rows l.names.repeated found) c.in-None.is, record { cprs_are = l.invariant.cprs ∙ ap (map (cpr_at b)) all; sizes_are = l.invariant.sizes ∙ ap (map (record_bytes b)) all; heads_are = l.invariant.heads ∙ ap (map (λ vdr. number b vdr vdr_vxr_head)) all })

pub returns-in_err-variable-clause-area : goal.returns-in_err-variable-clause-area
returns-in_err-variable-clause-area g c = read_failed c.loop-vdr.invariant.area c.in_err-variable.ensures.area c.from_residual-in_err-variable.ensures.1

pub returns-in-Err-clause-area : goal.returns-in-Err-clause-area
returns-in-Err-clause-area g c = read_done (read_more c.loop-vdr.invariant.area c.in_ok-variable.ensures.area)

pub returns-clause-area : goal.returns-clause-area
returns-clause-area g c = read_done c.loop-vdr.invariant.area

pub returns-in-Some-clause-area : goal.returns-in-Some-clause-area
returns-in-Some-clause-area g c = read_done c.loop-vdr.invariant.area
