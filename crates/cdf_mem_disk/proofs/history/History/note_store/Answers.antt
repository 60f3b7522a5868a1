use Rattle.std.proofs.Common.{List, length, subst, sym}
use Rattle.cdf_mem_disk.specs.History.{AreWithin}
use Rattle.cdf_mem_disk.specs.declared.history.Call.{Call}
use Rattle.cdf_mem_disk.proofs.Histories.{within_push}
use Rattle.cdf_mem_disk.proofs.history.History.note_store.Goals as goal

pub invariant_of-self-2 : goal.invariant_of-self-2
invariant_of-self-2 c =
    let h = c.self.inside in
    subst (λ (calls : List Call). AreWithin (length h.bytes.items) calls) (sym c.in_ok-push.ensures.items) (within_push (length h.bytes.items) h.calls.items _ c.self.invariant tt)
