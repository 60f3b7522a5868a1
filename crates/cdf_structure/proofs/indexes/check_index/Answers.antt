use Rattle.cdf_structure.proofs.Common.{Err, HaveRoom, IsBroken, Ok, WalksIndex, Yields, block_rows, flat_map, is_compressed, negsuc, nodes_rows, pos, read_done, read_more, read_once, record_number_limit, ◌∙◌, ◌≡◌}
use Rattle.cdf_structure.proofs.Findings.{none_found}
use Rattle.cdf_structure.proofs.IndexAgain.{right_again}
use Rattle.cdf_structure.proofs.IndexSteps.{blocks_break, cpr_stands, found_in_nodes, index_holds, index_lost, records_are}
use Rattle.cdf_structure.proofs.indexes.check_index.Goals as goal

pub returns-in-Err-clause-found : goal.returns-in-Err-clause-found
returns-in-Err-clause-found g c =
    let b = g.A.Area.image c.args.area.now in
    let wrong : WalksIndex b c.args.tiles.now c.args.variable.vdr (Err c.in-Err.place) = rw c.in-Err.is at c.in_ok-index.ensures.walk in
    index_lost b c.args.tiles.now c.args.variable.vdr c.in-Err.place wrong

pub returns-in-Some-clause-found : goal.returns-in-Some-clause-found
returns-in-Some-clause-found g c =
    let b = g.A.Area.image c.args.area.now in
    let walked : WalksIndex b c.args.tiles.now c.args.variable.vdr (Ok c.in-Ok.index) = rw c.in-Ok.is at c.in_ok-index.ensures.walk in
    found_in_nodes b c.args.tiles.now c.args.variable.vdr c.in-Ok.index walked c.in-Some.broken c.in-Some.is

pub returns-in-Err-2-clause-found : goal.returns-in-Err-2-clause-found
returns-in-Err-2-clause-found g c =
    let b = g.A.Area.image c.args.area.now in
    let ts = c.args.tiles.now in
    let v = c.args.variable in
    let index = c.in-Ok.index in
    let walked : WalksIndex b ts v.vdr (Ok index) = rw c.in-Ok.is at c.in_ok-index.ensures.walk in
    let packs : c.is_some-is_compressed.result ≡ is_compressed b v.vdr = c.is_some-is_compressed.ensures ∙ cpr_stands b v.vdr v.cpr c.requires.variable.cpr_is in
    let broken : IsBroken (flat_map (block_rows b ts c.is_some-is_compressed.result v.rec_bytes) index.blocks.items) c.in-Err-2.broken.rule c.in-Err-2.broken.place = rw (c.in-Err-2.is, c.in_ok-index.ensures.area.image, c.deref.ensures.value) at c.in_ok-room.ensures.found in
    blocks_break b ts v.vdr index walked.0 walked.1 c.is_some-is_compressed.result packs v.rec_bytes c.requires.variable.bytes_are c.in-Err-2.broken.rule c.in-Err-2.broken.place broken

pub returns-in-Ok-2-clause-found : goal.returns-in-Ok-2-clause-found
returns-in-Ok-2-clause-found g c =
    let b = g.A.Area.image c.args.area.now in
    let ts = c.args.tiles.now in
    let v = c.args.variable in
    let index = c.in-Ok.index in
    let compressed = c.is_some-is_compressed.result in
    let walked : WalksIndex b ts v.vdr (Ok index) = rw c.in-Ok.is at c.in_ok-index.ensures.walk in
    let packs : compressed ≡ is_compressed b v.vdr = c.is_some-is_compressed.ensures ∙ cpr_stands b v.vdr v.cpr c.requires.variable.cpr_is in
    let blocks : Yields (flat_map (block_rows b ts compressed v.rec_bytes) index.blocks.items) (HaveRoom b ts index.blocks.items compressed v.rec_bytes) (Ok c.in-Ok-2.room) = rw (c.in-Ok-2.is, c.in_ok-index.ensures.area.image, c.deref.ensures.value) at c.in_ok-room.ensures.found in
    let nodes = none_found (nodes_rows b ts (negsuc 0) (pos record_number_limit) walked.0) index.broken walked.1.found c.in_default.is in (
      index_holds b ts v.vdr index walked.0 walked.1 compressed packs v.rec_bytes c.requires.variable.bytes_are nodes blocks.0,
      record {
        records_are = records_are b ts v index walked.0 walked.1 c.requires.tiled c.requires.variable.cpr_is;
        room_is = rw c.requires.variable.head_is (right_again b ts v.vdr compressed v.rec_bytes c.in-Ok-2.room index walked c.in_default.is blocks.1);
      },
    )

pub returns-in-Ok-2-clause-area : goal.returns-in-Ok-2-clause-area
returns-in-Ok-2-clause-area g c = read_done (read_more (read_once c.in_ok-index.ensures.area) c.in_ok-room.ensures.area)
