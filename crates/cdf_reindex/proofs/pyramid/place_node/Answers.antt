use Rattle.cdf_reindex.proofs.Common.{has_room, node_sound}
use Rattle.cdf_reindex.proofs.pyramid.place_node.Goals as goal

pub write_node-requires-clause-place : goal.write_node-requires-clause-place
write_node-requires-clause-place g c = let at = c.in_ok-place.ensures in has_room _ _ 64 _ c.requires.sound at.takes at.sound at.content

pub returns-clause-sound : goal.returns-clause-sound
returns-clause-sound g c = let at = c.in_ok-place.ensures in node_sound _ _ 64 _ c.requires.sound at.takes at.sound at.content _ 0 _ c.in_ok-write_node.ensures.written
