use Rattle.std.proofs.Common.{ap, ◌∙◌, sym, arith, take, Some}
use Rattle.cdf_store.specs.Disk.{file_in}
use Rattle.cdf_store.proofs.Attached.{changed}
use Rattle.cdf_store.proofs.mem_files.MemFiles.cut.Goals as goal

pub invariant_of-self : goal.invariant_of-self
invariant_of-self c =
    let r = changed c.args.self.now c.in-Some.index c.index_mut.result.now c.truncate.new.self c.in-Some.is c.index_mut.ensures.value in
    record { in_range = r.in_range; distinct = r.distinct; listed = r.listed }

pub returns-in-Some : goal.returns-in-Some
returns-in-Some c =
    let r = changed c.args.self.now c.in-Some.index c.index_mut.result.now c.truncate.new.self c.in-Some.is c.index_mut.ensures.value in
    record {
      held = r.held ∙ ap Some (c.truncate.ensures.items ∙ ap (λ o. take c.args.length (file_in o)) (sym r.held_before));
      name = r.name;
      files = r.files;
      room = omega (arith, r.room, r.room_before, c.truncate.ensures.capacity);
    }
