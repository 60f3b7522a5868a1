use Rattle.std.proofs.Common.{ap, ◌∙◌, sym, arith, Some}
use Rattle.cdf_base.specs.Bytes.{put}
use Rattle.cdf_store.specs.Disk.{file_in}
use Rattle.cdf_store.proofs.Attached.{changed}
use Rattle.cdf_store.proofs.mem_files.MemFiles.write.Goals as goal

pub invariant_of-self : goal.invariant_of-self
invariant_of-self c =
    let r = changed c.args.self.now c.in-Some.index c.index_mut.result.now c.put_in.new.kept c.in-Some.is c.index_mut.ensures.value in
    record { in_range = r.in_range; distinct = r.distinct; listed = r.listed }

pub returns-in-Some : goal.returns-in-Some
returns-in-Some c =
    let r = changed c.args.self.now c.in-Some.index c.index_mut.result.now c.put_in.new.kept c.in-Some.is c.index_mut.ensures.value in
    record {
      held = r.held ∙ ap Some (c.put_in.ensures.items ∙ ap (λ o. put (file_in o) c.args.place c.args.bytes.now) (sym r.held_before));
      name = r.name;
      files = r.files;
      room = omega (arith, r.room, r.room_before, c.put_in.ensures.room);
    }
