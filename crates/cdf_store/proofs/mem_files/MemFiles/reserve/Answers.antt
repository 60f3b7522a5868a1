use Rattle.std.proofs.Common.{ap, ◌∙◌, sym, arith, Some, refl}
use Rattle.cdf_store.proofs.Attached.{changed}
use Rattle.cdf_store.proofs.Files.{entries_same}
use Rattle.cdf_store.proofs.mem_files.MemFiles.reserve.Goals as goal

pub invariant_of-self : goal.invariant_of-self
invariant_of-self c =
    let r = changed c.args.self.now c.in-Some.place c.index_mut.result.now c.reserve_to.new.bytes c.in-Some.is c.index_mut.ensures.value in
    record { in_range = r.in_range; distinct = r.distinct; listed = r.listed }

pub returns : goal.returns
returns c =
    let r = changed c.args.self.now c.in-Some.place c.index_mut.result.now c.reserve_to.new.bytes c.in-Some.is c.index_mut.ensures.value in
    record {
      room = rw r.room c.reserve_to.ensures.room;
      kept = omega (arith, r.room, r.room_before, c.reserve_to.ensures.kept);
      held = r.held ∙ ap Some c.reserve_to.ensures.items ∙ sym r.held_before;
      name = r.name;
      files = entries_same c.args.self.now.list.items c.in-Some.place c.index_mut.result.now (record { name = c.index_mut.result.now.name; bytes = c.reserve_to.new.bytes }) c.index_mut.ensures.value refl c.reserve_to.ensures.items;
    }
