use Rattle.cdf_var_records.proofs.Common.{List, ap, arith, length, subst, ℕ, ◌∙◌}
use Rattle.cdf_edits.proofs.Common.{Leaf}
use Rattle.std.specs.Prelude.{IfOk}
use Rattle.cdf_var_records.proofs.NextRecord.{first_kept, index_there, known_there, leaves_same, vdr_there}
use Rattle.cdf_var_records.proofs.PadSites.{vdr_lies}
use Rattle.cdf_var_records.specs.Next.{Finds}
use Rattle.cdf_var_records.proofs.next.RecordReader.find.Goals as goal

pub returns-in-Some-clause-found : goal.returns-in-Some-clause-found
returns-in-Some-clause-found g c = first_kept c.requires.good c.requires.reader c.in-Some.leaf c.args.from c.in-Some.ensures.kept c.in-Some.ensures.has c.in-Some.ensures.inside

pub find_start-requires-clause-vdr : goal.find_start-requires-clause-vdr
find_start-requires-clause-vdr g c = vdr_there c.requires.good c.requires.reader.is_form.is_vdr

pub overflow_add-vdr : goal.overflow_add-vdr
overflow_add-vdr g c =
    let l = vdr_lies c.requires.good c.requires.reader.is_form.is_vdr in
    let same = ap (λ (x : List ℕ). length x) c.find_start.ensures.area.image in
    omega (arith, l, same, c.size-size.ensures, c.size-size.type_inv)

pub read_unsigned8-requires : goal.read_unsigned8-requires
read_unsigned8-requires g c =
    let l = vdr_lies c.requires.good c.requires.reader.is_form.is_vdr in
    let same = ap (λ (x : List ℕ). length x) c.find_start.ensures.area.image in
    omega (arith, l, same)

pub find_first-requires-clause-index : goal.find_first-requires-clause-index
find_first-requires-clause-index g c = index_there c.requires.good c.requires.reader.is_form.is_vdr c.find_start.ensures.area.image (c.read_unsigned8.ensures.area.image ∙ c.find_start.ensures.area.image) c.in_ok-head.ensures.value

pub find_first-requires-clause-known : goal.find_first-requires-clause-known
find_first-requires-clause-known g c = known_there c.requires.good c.requires.reader.is_form.is_vdr c.find_start.ensures.area.image (c.read_unsigned8.ensures.area.image ∙ c.find_start.ensures.area.image) c.in_ok-head.ensures.value _ c.in_ok-known.ensures.start

pub returns-clause-found : goal.returns-clause-found
returns-clause-found g c =
    let same = leaves_same c.requires.good c.requires.reader.is_form.is_vdr c.find_start.ensures.area.image (c.read_unsigned8.ensures.area.image ∙ c.find_start.ensures.area.image) c.in_ok-head.ensures.value in
    subst (λ (leaves : List Leaf). IfOk c.find_first.result (Finds leaves c.args.from c.args.self.now.extent)) same c.find_first.ensures.found
