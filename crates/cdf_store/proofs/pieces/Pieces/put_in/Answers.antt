use Rattle.std.proofs.Common.{◌≡◌, ◌+◌, ap, ap₂, length, take, drop, ◌∙◌, arith}
use Rattle.std.proofs.lemmas.List.{take_rest, take-append-drop, length-take-le}
use Rattle.cdf_base.specs.Bytes.{put}
use Rattle.cdf_store.proofs.Joined.{length-written, put_on}
use Rattle.cdf_store.proofs.pieces.Pieces.put_in.Goals as goal

pub put_within-requires-2-clause-place : goal.put_within-requires-2-clause-place
put_within-requires-2-clause-place c =
    let n = c.min-front.result in
    let xs = take n c.args.bytes.now in
    omega (arith, ap (λ l. length l) c.put_within.ensures.bytes, length-written c.args.self.now.bytes c.args.place xs c.requires.place, length-take-le n c.args.bytes.now (omega arith))

pub overflow_add-place : goal.overflow_add-place
overflow_add-place c = let room = ap (λ v. v.room) c.self.view_is in omega arith

pub returns-clause-bytes : goal.returns-clause-bytes
returns-clause-bytes c =
    let n = c.min-front.result in
    let b = c.args.self.now.bytes in
    let place = c.args.place in
    let xs = take n c.args.bytes.now in
    let ys = drop n c.args.bytes.now in
    let long : length xs ≡ n = length-take-le n c.args.bytes.now (omega arith) in
    let next : place + n ≡ place + length xs = omega (arith, long) in
    c.put_within-2.ensures.bytes ∙ ap (put c.put_within.new.self.bytes (place + n)) (take_rest c.args.bytes.now n) ∙ ap₂ (λ u m. put u m ys) c.put_within.ensures.bytes next
    ∙ put_on b xs ys place c.requires.place ∙ ap (put b place) (take-append-drop n c.args.bytes.now)
