use Rattle.std.proofs.Common.{List, ap, ap₂, arith, length, replicate, sym, ℕ, ◌++◌, ◌+◌, ◌∙◌}
use Rattle.std.proofs.lemmas.List.{length-replicate}
use Rattle.byteorder.specs.Endian.{big_bytes}
use Rattle.byteorder.specs.Numbers.{length-bytes_high_first}
use Rattle.cdf_base.specs.Bytes.{put}
use Rattle.cdf_writer.proofs.RoomPuts.{room_put}
use Rattle.cdf_writer.proofs.Writing.{writes_past}
use Rattle.cdf_writer.proofs.appending.keep_room.Goals as goal

pub returns-then-limit-eof-clause-area : goal.returns-then-limit-eof-clause-area
returns-then-limit-eof-clause-area g c =
    writes_past g.A.Area.image g.A.Area.frame g.A.Area.faults c.args.area.now (replicate c.args.size 0) c.limit.result c.size-eof.result (8 + c.args.size) c.size-eof.ensures c.requires.within c.limit.ensures c.if-limit-eof.true (omega (arith, length-replicate {A = ℕ} c.args.size 0))

pub returns-clause-appended : goal.returns-clause-appended
returns-clause-appended g c =
    let b = g.A.Area.image c.args.area.now in
    let n = c.args.size in
    let zeros : List ℕ = replicate n 0 in
    c.in_ok-set.ensures.written
    ∙ ap₂ (λ (k : ℕ) (xs : List ℕ). put (g.A.Area.image c.extend.new.self) k xs) c.size-eof.ensures c.to_be_bytes.ensures
    ∙ ap (λ (x : List ℕ). put x (length b) (big_bytes 8 (8 + n))) c.in_ok-extend.ensures.longer
    ∙ room_put b (big_bytes 8 (8 + n)) n (length-bytes_high_first 8 (8 + n))
    ∙ ap (λ (k : ℕ). b ++ (big_bytes 8 (8 + k) ++ zeros)) (sym (length-replicate {A = ℕ} n 0))
