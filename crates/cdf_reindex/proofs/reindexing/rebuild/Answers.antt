use Rattle.cdf_reindex.proofs.Common.{arith, good_is_sound, on_ok_weaker}
use Rattle.cdf_reindex.proofs.ReindexCalls.{linked_free, linked_sound, rebuilt_by}
use Rattle.cdf_reindex.proofs.reindexing.rebuild.Goals as goal

pub write_index-requires-clause-sound : goal.write_index-requires-clause-sound
write_index-requires-clause-sound g c = good_is_sound _ c.requires.good

pub free_records-requires-clause-sound : goal.free_records-requires-clause-sound
free_records-requires-clause-sound g c = linked_sound _ c.requires.good _ c.requires.leaves _ c.in_ok-top.ensures.made (omega arith) c.requires.vdr c.in_ok-set_vdr_vxr_head.ensures.ok c.in_ok-set_vdr_vxr_tail.ensures.ok

pub free_records-requires-clause-free : goal.free_records-requires-clause-free
free_records-requires-clause-free g c = linked_free _ c.requires.good _ c.requires.leaves _ c.in_ok-top.ensures.made (omega arith) c.requires.vdr c.in_ok-set_vdr_vxr_head.ensures.ok c.in_ok-set_vdr_vxr_tail.ensures.ok c.requires.nodes

pub returns-clause-rebuilt : goal.returns-clause-rebuilt
returns-clause-rebuilt g c =
    on_ok_weaker c.free_records.result (λ given kind before own after among is. rebuilt_by _ c.requires.good _ c.requires.leaves _ c.in_ok-top.ensures.made (omega arith) among is c.requires.nodes c.in_ok-set_vdr_vxr_head.ensures.ok c.in_ok-set_vdr_vxr_tail.ensures.ok given) c.free_records.ensures.given
