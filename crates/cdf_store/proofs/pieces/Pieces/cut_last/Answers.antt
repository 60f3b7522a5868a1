use Rattle.std.proofs.Common.{◌-◌, ◌/◌, ℕ, List, ap, ap₂, length, take, sym, ◌∙◌, arith}
use Rattle.std.proofs.Math.ListN.{length-set}
use Rattle.cdf_store.proofs.Joined.{Cut, cut_last, joined_bound, piece_room}
use Rattle.cdf_store.proofs.pieces.Pieces.cut_last.Goals as goal

pub index_mut-requires : goal.index_mut-requires
index_mut-requires c = let bound = joined_bound c.self.inside.list.items c.self.invariant.0 in let bytes = ap (λ v. length v.bytes) c.self.view_is in grind arith

left : (c : goal.After-self-2-1) → Cut c.self.inside.list.items (c.self.inside.size - 1) c.truncate.new.self c.max-end.result
left c =
    let ps = c.self.inside.list.items in
    let p = c.index_mut.result.now in
    let bytes = ap (λ v. length v.bytes) c.self.view_is in
    let bound = joined_bound ps c.self.invariant.0 in
    let room = piece_room ps (c.self.inside.size - 1) p c.self.invariant.0 c.index_mut.ensures.value (omega arith) (grind arith) in
    cut_last ps (c.self.inside.size - 1) p c.self.invariant.0 c.index_mut.ensures.value (omega arith) (grind arith) c.max-end.result c.truncate.new.self (grind arith) (grind arith) (grind arith) (omega (arith, room, c.truncate.ensures.capacity)) c.truncate.ensures.items

pub invariant_of-self : goal.invariant_of-self
invariant_of-self c = let r = left c in (r.pieces, sym r.size, omega (arith, c.self.invariant.2, length-set c.self.inside.list.items ((c.self.inside.size - 1) / 65536) c.truncate.new.self))

pub returns-clause-bytes : goal.returns-clause-bytes
returns-clause-bytes c =
    let r = left c in r.bytes ∙ ap₂ (λ n (l : List ℕ). take n l) (sym r.size) (ap (λ v. v.bytes) c.self.view_is)

pub returns-clause-least : goal.returns-clause-least
returns-clause-least c = let r = left c in omega (arith, r.size)

pub returns-clause-less : goal.returns-clause-less
returns-clause-less c = let r = left c in let bytes = ap (λ v. length v.bytes) c.self.view_is in omega (arith, r.size)
