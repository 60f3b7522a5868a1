use Rattle.std.proofs.Common.{List, ap, ap₂, arith, length, refl, replicate, sym, ℕ, ◌++◌, ◌+◌, ◌∙◌, ◌≡◌}
use Rattle.byteorder.specs.Endian.{big_bytes}
use Rattle.byteorder.specs.Numbers.{length-bytes_high_first}
use Rattle.cdf_base.specs.Bytes.{put}
use Rattle.cdf_writer.proofs.RoomPuts.{record_put}
use Rattle.cdf_writer.proofs.Writing.{writes_past}
use Rattle.cdf_writer.proofs.appending.append_record.Goals as goal

pub returns-then-limit-eof-clause-area : goal.returns-then-limit-eof-clause-area
returns-then-limit-eof-clause-area g c =
    writes_past g.A.Area.image g.A.Area.frame g.A.Area.faults c.args.area.now c.args.body.now c.limit.result c.size-eof.result (8 + length c.args.body.now) c.size-eof.ensures c.requires.within c.limit.ensures c.if-limit-eof.true refl

pub returns-clause-appended : goal.returns-clause-appended
returns-clause-appended g c =
    let b = g.A.Area.image c.args.area.now in
    let n = 8 + length c.args.body.now in
    let eof : c.size-eof.result ≡ length b = c.size-eof.ensures in
    let size : c.to_be_bytes.result ≡ big_bytes 8 n = c.to_be_bytes.ensures in
    let first : g.A.Area.image c.set.new.self ≡ put (b ++ replicate n 0) (length b) (big_bytes 8 n) =
    c.in_ok-set.ensures.written ∙ ap₂ (λ (k : ℕ) (xs : List ℕ). put (g.A.Area.image c.extend.new.self) k xs) eof size ∙ ap (λ (x : List ℕ). put x (length b) (big_bytes 8 n)) c.in_ok-extend.ensures.longer in
    c.in_ok-set-2.ensures.written
    ∙ ap₂ (λ (x : List ℕ) (k : ℕ). put x (k + 8) c.args.body.now) first eof
    ∙ ap (λ (k : ℕ). put (put (b ++ replicate n 0) (length b) (big_bytes 8 n)) (length b + k) c.args.body.now) (sym (length-bytes_high_first 8 n))
    ∙ record_put b (big_bytes 8 n) c.args.body.now n (omega (arith, length-bytes_high_first 8 n))
