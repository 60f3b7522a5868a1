use Rattle.cdf_structure.proofs.Common.{Finds, Hold, IsToldOf, List, None, Ok, Some, add-one, ap, arith, cpr_at, flat_map, get_or, index_of, length, length-map, map, met_rows, number, phase8, read_more, record_bytes, refl, subst, take, take_all, variable_records, variable_shape, vdr_vxr_head, ℕ, ◌≡◌}
use Rattle.cdf_structure.proofs.IndexAgain.{knows_none}
use Rattle.cdf_structure.proofs.IndexLists.{had_at, is_small, told_variable}
use Rattle.cdf_structure.proofs.Rows.{broken_member, holds_more}
use Rattle.cdf_structure.proofs.Tallies.{told_none}
use Rattle.cdf_structure.proofs.indexes.check_indexes.Goals as goal

pub bounds-record_sizes-i : goal.bounds-record_sizes-i
bounds-record_sizes-i g c =
    let b = g.A.Area.image c.args.area.now in
    omega (arith, c.loop-i-test.true, ap length c.requires.sizes, length-map c.args.vdrs.now (record_bytes b))

pub bounds-vxr_heads-i : goal.bounds-vxr_heads-i
bounds-vxr_heads-i g c =
    let b = g.A.Area.image c.args.area.now in
    omega (arith, c.loop-i-test.true, ap length c.requires.heads, length-map c.args.vdrs.now (λ vdr. number b vdr vdr_vxr_head))

pub bounds-cprs-i : goal.bounds-cprs-i
bounds-cprs-i g c =
    let b = g.A.Area.image c.args.area.now in
    omega (arith, c.loop-i-test.true, ap length c.requires.cprs, length-map c.args.vdrs.now (cpr_at b))

pub loop-i-init : goal.loop-i-init
loop-i-init g c =
    let b = g.A.Area.image c.args.area.now in
    let ts = c.args.tiles.now in
    record {
      area = record { image = refl; edited = refl; frame = refl; faults = refl };
      rows = tt;
      known = knows_none b ts c.new-known.result c.new-known.ensures.rooms c.new-known.ensures.sizes;
      marks = c.requires.marks;
      told = told_none ts c.args.owners.now;
    }

pub check_indexed-requires : goal.check_indexed-requires
check_indexed-requires g c =
    let l = c.loop-i in
    let b = g.A.Area.image c.args.area.now in
    let ts = c.args.tiles.now in
    let vdrs = c.args.vdrs.now in
    let lt = c.loop-i-test.true in
    let bytes = had_at (record_bytes b) vdrs c.args.record_sizes.now l.i 0 lt c.requires.sizes in
    rw l.invariant.area.image (record {
      tiled = c.requires.tiled;
      small = c.requires.small;
      variable = record {
        head_is = had_at (λ vdr. number b vdr vdr_vxr_head) vdrs c.args.vxr_heads.now l.i 0 lt c.requires.heads;
        cpr_is = had_at (cpr_at b) vdrs c.args.cprs.now l.i None lt c.requires.cprs;
        bytes_are = bytes;
        few = omega (arith, bytes, is_small b ts vdrs c.requires.described l.i lt);
      };
      known = l.invariant.known;
      marks = l.invariant.marks;
    })

pub returns-in-Some-clause-found : goal.returns-in-Some-clause-found
returns-in-Some-clause-found g c =
    let l = c.loop-i in
    let b = g.A.Area.image c.args.area.now in
    let ts = c.args.tiles.now in
    let m = get_or c.args.vdrs.now l.i 0 in
    let here : Finds (met_rows b ts m (index_of b ts m)) (Some c.in-Some.broken) = rw (c.in-Some.is, l.invariant.area.image) at c.in_ok-found.ensures.found in
    broken_member (λ vdr. met_rows b ts vdr (index_of b ts vdr)) c.args.vdrs.now l.i 0 c.in-Some.broken.rule c.in-Some.broken.place c.loop-i-test.true here

pub loop-i-preserved : goal.loop-i-preserved
loop-i-preserved g c =
    let l = c.loop-i in
    let b = g.A.Area.image c.args.area.now in
    let ts = c.args.tiles.now in
    let vdrs = c.args.vdrs.now in
    let m = get_or vdrs l.i 0 in
    let here : Finds (met_rows b ts m (index_of b ts m)) None = rw (c.in_default.is, l.invariant.area.image) at c.in_ok-found.ensures.found in
    let told : IsToldOf ts (variable_records (variable_shape b ts m)) l.owners c.check_indexed.new.owners = rw l.invariant.area.image at (c.in_ok-found.ensures.told (ap Ok c.in_default.is)) in
    record {
      area = read_more l.invariant.area c.in_ok-found.ensures.area;
      rows = rw add-one (holds_more (λ vdr. met_rows b ts vdr (index_of b ts vdr)) vdrs l.i 0 c.loop-i-test.true l.invariant.rows here);
      known = rw l.invariant.area.image at c.in_ok-found.ensures.known;
      marks = c.in_ok-found.ensures.marks;
      told = told_variable b ts vdrs l.i c.loop-i-test.true c.args.owners.now l.owners c.check_indexed.new.owners l.invariant.told told;
    }

pub returns-clause-found : goal.returns-clause-found
returns-clause-found g c =
    let l = c.loop-i in
    let b = g.A.Area.image c.args.area.now in
    let ts = c.args.tiles.now in
    let vdrs = c.args.vdrs.now in
    let all : take l.i vdrs ≡ vdrs = take_all l.i vdrs (omega (arith, c.loop-i-test.false)) in
    let rows : Hold (phase8 b ts vdrs) = rw all at l.invariant.rows in
    rows

pub returns-clause-told : goal.returns-clause-told
returns-clause-told g c = λ none.
    let l = c.loop-i in
    let b = g.A.Area.image c.args.area.now in
    let ts = c.args.tiles.now in
    let vdrs = c.args.vdrs.now in
    subst (λ (xs : List ℕ). IsToldOf ts (flat_map variable_records (map (variable_shape b ts) xs)) c.args.owners.now l.owners) (take_all l.i vdrs (omega (arith, c.loop-i-test.false))) l.invariant.told
