use Rattle.cdf_check.proofs.Common.{AreNamed, Describes, Err, Finds, Hold, In-get_or, List, Ok, Walk, Yields, [], add-one, adr_name, ap, ap₂, arith, attribute_records, attribute_rows, attribute_shape, broken_member, differ_rows, flat_map, get_or, holds_more, map, name_in, none_found, one_found, read_more, records_of, same_name, subst, sym, take, take_all, take_more, ℕ, ◌++◌, ◌∙◌, ◌∷◌, ◌≡◌}
use Rattle.cdf_structure.proofs.IndexLists.{list_more}
use Rattle.cdf_check.proofs.AttributeSteps.{attributes_break, names_break, phase6_holds}
use Rattle.cdf_check.proofs.attributes.check_each.Goals as goal

pub check_attribute-requires-clause-attribute : goal.check_attribute-requires-clause-attribute
check_attribute-requires-clause-attribute g c =
    let l = c.loop-adr in
    rw l.invariant.area.image (c.requires.attributes (get_or c.args.adrs.now l.adr-index 0) (In-get_or c.args.adrs.now l.adr-index c.loop-adr-test.true))

pub returns-in-Err-clause-found : goal.returns-in-Err-clause-found
returns-in-Err-clause-found g c =
    let l = c.loop-adr in
    let b = g.A.Area.image c.args.area.now in
    let ts = c.args.tiles.now in
    let m = get_or c.args.adrs.now l.adr-index 0 in
    let here : Yields (attribute_rows b ts m) (Describes b ts m) (Err c.in-Err.broken) = rw (c.in-Err.is, l.invariant.area.image) at c.in_ok-attribute.ensures.found in
    attributes_break b ts c.args.adrs.now c.in-Err.broken.rule c.in-Err.broken.place (broken_member (attribute_rows b ts) c.args.adrs.now l.adr-index 0 c.in-Err.broken.rule c.in-Err.broken.place c.loop-adr-test.true here)

pub loop-adr-preserved : goal.loop-adr-preserved
loop-adr-preserved g c =
    let l = c.loop-adr in
    let b = g.A.Area.image c.args.area.now in
    let ts = c.args.tiles.now in
    let m = get_or c.args.adrs.now l.adr-index 0 in
    let here : Yields (attribute_rows b ts m) (Describes b ts m) (Ok c.in-Ok.attribute) = rw (c.in-Ok.is, l.invariant.area.image) at c.in_ok-attribute.ensures.found in
    let lists = c.in-Ok.attribute in
    let records : attribute_records (attribute_shape b ts m) ≡ m ∷ lists.gr.items ++ lists.z.items = ap₂ (λ (one two : Walk). m ∷ records_of one ++ records_of two) here.1.gr here.1.z in
    record {
      area = read_more l.invariant.area c.in_ok-attribute.ensures.area;
      rows = rw add-one (holds_more (attribute_rows b ts) c.args.adrs.now l.adr-index 0 c.loop-adr-test.true l.invariant.rows here.0);
      owned = list_more attribute_records (attribute_shape b ts) c.args.adrs.now l.adr-index l.owned.items c.own.new.owned.items c.loop-adr-test.true l.invariant.owned (c.in_ok-own-in-Ok.ensures.owned ∙ ap (λ (xs : List ℕ). l.owned.items ++ xs) (sym records));
      named = subst (λ (xs : List ℕ). AreNamed (λ adr. name_in b adr adr_name) xs c.add.new.self) (sym (take_more c.args.adrs.now l.adr-index 0 c.loop-adr-test.true)) (c.in_ok-add-in-Ok.ensures.named (λ adr. name_in b adr adr_name) (take l.adr-index c.args.adrs.now) here.1.name l.invariant.named);
    }

pub returns-in-Some-clause-found : goal.returns-in-Some-clause-found
returns-in-Some-clause-found g c =
    let l = c.loop-adr in
    let b = g.A.Area.image c.args.area.now in
    let adrs = c.args.adrs.now in
    let all : take l.adr-index adrs ≡ adrs = take_all l.adr-index adrs (omega (arith, c.loop-adr-test.false)) in
    let found : Finds (differ_rows 2 (same_name b adr_name) [] adrs) l.names.repeated = rw all at l.invariant.named.found in
    names_break b c.args.tiles.now adrs c.in-Some.broken.rule c.in-Some.broken.place (one_found (differ_rows 2 (same_name b adr_name) [] adrs) l.names.repeated c.in-Some.broken found c.in-Some.is)

pub returns-in-None-clause-found : goal.returns-in-None-clause-found
returns-in-None-clause-found g c =
    let l = c.loop-adr in
    let b = g.A.Area.image c.args.area.now in
    let adrs = c.args.adrs.now in
    let all : take l.adr-index adrs ≡ adrs = take_all l.adr-index adrs (omega (arith, c.loop-adr-test.false)) in
    let found : Finds (differ_rows 2 (same_name b adr_name) [] adrs) l.names.repeated = rw all at l.invariant.named.found in
    let rows : Hold (flat_map (attribute_rows b c.args.tiles.now) adrs) = rw all at l.invariant.rows in
    let owned : l.owned.items ≡ flat_map attribute_records (map (attribute_shape b c.args.tiles.now) adrs) = rw all at l.invariant.owned in
    (phase6_holds b c.args.tiles.now adrs rows (none_found (differ_rows 2 (same_name b adr_name) [] adrs) l.names.repeated found c.in-None.is), owned)
