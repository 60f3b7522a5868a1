use Rattle.cdf_structure.proofs.Common.{Err, Ok, searched, sym}
use Rattle.cdf_structure.proofs.Searches.{found_in, not_found_in}
use Rattle.cdf_structure.proofs.sorted.stands_in.Goals as goal

pub returns-in-Ok : goal.returns-in-Ok
returns-in-Ok c =
    let s = searched c.args.list.now c.args.number (Ok c.in-Ok.field-0) c.in-Ok.ensures.position c.requires.ascends in
    sym (found_in c.args.list.now c.args.number c.in-Ok.field-0 s.0 s.1)

pub returns-in-Err : goal.returns-in-Err
returns-in-Err c =
    let s = searched c.args.list.now c.args.number (Err c.in-Err.field-0) c.in-Err.ensures.position c.requires.ascends in
    sym (not_found_in c.args.list.now c.args.number c.in-Err.field-0 s.1 s.2)
