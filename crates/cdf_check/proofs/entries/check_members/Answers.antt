use Rattle.cdf_check.proofs.Common.{Hold, IsBroken, List, Row, [], all_of_three, count_rows, differ_rows, entry_rows, field, first_of_three, flat_map, same_number, second_of_three, third_of_three, ℕ}
use Rattle.cdf_check.proofs.entries.check_members.Goals as goal

abbrev counted : List ℕ → ℕ → ℕ → List ℕ → List Row
counted b adr count entries = count_rows 5 b adr (field count 4) entries

abbrev each : List ℕ → ℕ → List ℕ → List Row
each b adr entries = flat_map (entry_rows b adr) entries

abbrev apart : List ℕ → List ℕ → List Row
apart b entries = differ_rows 7 (same_number b) [] entries

pub check_each-requires-clause-entries : goal.check_each-requires-clause-entries
check_each-requires-clause-entries g c = λ m i. rw c.check_count.ensures.area.image (c.requires.entries m i)

pub check_apart-requires : goal.check_apart-requires
check_apart-requires g c = record { entries = λ m i. rw (c.check_each.ensures.area.image, c.check_count.ensures.area.image) (c.requires.entries m i) }

pub returns-in-Some-clause-found : goal.returns-in-Some-clause-found
returns-in-Some-clause-found g c =
    let b = g.A.Area.image c.args.area.now in
    let f = c.in-Some.broken in
    let entries = c.args.entries.now in
    let broken : IsBroken (counted b c.args.adr c.args.count entries) f.rule f.place = rw c.in-Some.is at c.in_ok-broken.ensures.found in
    first_of_three (counted b c.args.adr c.args.count entries) (each b c.args.adr entries) (apart b entries) f.rule f.place broken

pub returns-in-Some-2-clause-found : goal.returns-in-Some-2-clause-found
returns-in-Some-2-clause-found g c =
    let b = g.A.Area.image c.args.area.now in
    let f = c.in-Some-2.broken in
    let entries = c.args.entries.now in
    let broken : IsBroken (each b c.args.adr entries) f.rule f.place = rw (c.in-Some-2.is, c.check_count.ensures.area.image) at c.in_ok-broken-2.ensures.found in
    second_of_three (counted b c.args.adr c.args.count entries) (each b c.args.adr entries) (apart b entries) f.rule f.place broken

pub returns-in-Some-3-clause-found : goal.returns-in-Some-3-clause-found
returns-in-Some-3-clause-found g c =
    let b = g.A.Area.image c.args.area.now in
    let f = c.in-Some-3.broken in
    let entries = c.args.entries.now in
    let broken : IsBroken (apart b entries) f.rule f.place = rw (c.in-Some-3.is, c.check_each.ensures.area.image, c.check_count.ensures.area.image) at c.in_ok-broken-3.ensures.found in
    third_of_three (counted b c.args.adr c.args.count entries) (each b c.args.adr entries) (apart b entries) f.rule f.place broken

pub returns-clause-found : goal.returns-clause-found
returns-clause-found g c =
    let b = g.A.Area.image c.args.area.now in
    let entries = c.args.entries.now in
    let one : Hold (counted b c.args.adr c.args.count entries) = rw c.in_default.is at c.in_ok-broken.ensures.found in
    let two : Hold (each b c.args.adr entries) = rw (c.in_default-2.is, c.check_count.ensures.area.image) at c.in_ok-broken-2.ensures.found in
    let three : Hold (apart b entries) = rw (c.in_default-3.is, c.check_each.ensures.area.image, c.check_count.ensures.area.image) at c.in_ok-broken-3.ensures.found in
    all_of_three (counted b c.args.adr c.args.count entries) (each b c.args.adr entries) (apart b entries) one two three
