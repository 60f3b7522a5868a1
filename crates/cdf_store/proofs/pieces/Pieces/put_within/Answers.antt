use Rattle.std.proofs.Common.{ap, length, sym, ◌∙◌, ◌/◌, arith}
use Rattle.std.proofs.Math.ListN.{length-set}
use Rattle.cdf_base.specs.Bytes.{put}
use Rattle.cdf_store.proofs.Joined.{Put, piece_place, piece_room, put_piece, put-nil}
use Rattle.cdf_store.proofs.pieces.Pieces.put_within.Goals as goal

pub returns-then-is_empty-clause-bytes : goal.returns-then-is_empty-clause-bytes
returns-then-is_empty-clause-bytes c = sym (put-nil c.args.self.now.bytes c.args.place c.args.bytes.now (grind arith))

pub put_in-requires-clause-place : goal.put_in-requires-clause-place
put_in-requires-clause-place c =
    let bytes = ap (λ v. length v.bytes) c.self.view_is in
    let room = ap (λ v. v.room) c.self.view_is in
    let place = piece_place c.self.inside.list.items c.args.place c.index_mut.result.now c.self.invariant.0 c.index_mut.ensures.value (omega arith) (grind arith) in omega arith

pub put_in-requires-clause-room : goal.put_in-requires-clause-room
put_in-requires-clause-room c =
    let bytes = ap (λ v. length v.bytes) c.self.view_is in
    let room = ap (λ v. v.room) c.self.view_is in
    let room = piece_room c.self.inside.list.items c.args.place c.index_mut.result.now c.self.invariant.0 c.index_mut.ensures.value (omega arith) (grind arith) in omega (arith, c.requires.within)

written : (c : goal.After-self-2-1) → Put c.self.inside.list.items c.args.place c.put_in.new.kept c.args.bytes.now
written c =
    let bytes = ap (λ v. length v.bytes) c.self.view_is in
    let room = ap (λ v. v.room) c.self.view_is in
    let capacity = piece_room c.self.inside.list.items c.args.place c.index_mut.result.now c.self.invariant.0 c.index_mut.ensures.value (omega arith) (grind arith) in
    put_piece c.self.inside.list.items c.args.place c.index_mut.result.now c.self.invariant.0 c.index_mut.ensures.value (omega arith) (grind arith) c.put_in.new.kept c.args.bytes.now c.requires.within (omega arith) c.put_in.ensures.items

pub invariant_of-self : goal.invariant_of-self
invariant_of-self c = let r = written c in (r.pieces, omega (arith, r.size), omega (arith, c.self.invariant.2, length-set c.self.inside.list.items (c.args.place / 65536) c.put_in.new.kept))

pub returns-clause-bytes : goal.returns-clause-bytes
returns-clause-bytes c = (written c).bytes ∙ ap (λ v. put v.bytes c.args.place c.args.bytes.now) c.self.view_is
