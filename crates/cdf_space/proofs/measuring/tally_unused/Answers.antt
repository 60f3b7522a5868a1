use Rattle.cdf_space.proofs.Common.{List, ap, arith, length, read_done, read_failed, read_more, refl, shape, size_at, subst, sym, type_at, uir_type, ℕ, ◌+◌, ◌∙◌, ◌≡◌, ◌≢◌, ◌≤◌}
use Rattle.std.proofs.Math.Path.{transport}
use Rattle.cdf_space.proofs.Counting.{AreLeft, all_left, none_left, stands, unused_fits, unused_left, used_left}
use Rattle.cdf_space.proofs.measuring.tally_unused.Goals as goal

pub loop-place-init : goal.loop-place-init
loop-place-init g c =
    let b = g.A.Area.image c.args.area.now in
    let s = shape b in
    record {
      left = subst (λ (n : ℕ). AreLeft b s 8 n c.none-unused.result.bytes) (sym c.none-unused.ensures.count) (subst (λ (n : ℕ). AreLeft b s 8 0 n) (sym c.none-unused.ensures.bytes) (all_left b s c.requires.sound));
      area = record { image = refl; edited = refl; frame = refl; faults = refl };
    }

pub read_unsigned8-requires : goal.read_unsigned8-requires
read_unsigned8-requires g c =
    let l = c.loop-place in
    let b = g.A.Area.image c.args.area.now in
    let s = stands b (shape b) c.requires.sound l.place l.unused.count l.unused.bytes l.invariant.left (omega (arith, c.loop-place-test.true, c.size-eof.ensures)) in
    subst (λ (x : List ℕ). l.place + 0 + 8 ≤ length x) (sym l.invariant.area.image) (omega (arith, s.long, s.high))

pub returns-in_err-size-clause-area : goal.returns-in_err-size-clause-area
returns-in_err-size-clause-area g c = read_failed c.loop-place.invariant.area c.in_err-size.ensures.area c.from_residual.ensures.1

pub overflow_add-place-in-loop-place : goal.overflow_add-place-in-loop-place
overflow_add-place-in-loop-place g c =
    let l = c.loop-place in
    let b = g.A.Area.image c.args.area.now in
    let s = stands b (shape b) c.requires.sound l.place l.unused.count l.unused.bytes l.invariant.left (omega (arith, c.loop-place-test.true, c.size-eof.ensures)) in
    omega (arith, s.long, s.high, c.size-eof.ensures)

pub read_unsigned4-requires : goal.read_unsigned4-requires
read_unsigned4-requires g c =
    let l = c.loop-place in
    let b = g.A.Area.image c.args.area.now in
    let s = stands b (shape b) c.requires.sound l.place l.unused.count l.unused.bytes l.invariant.left (omega (arith, c.loop-place-test.true, c.size-eof.ensures)) in
    subst (λ (x : List ℕ). l.place + 8 + 4 ≤ length x) (sym (c.read_unsigned8.ensures.area.image ∙ l.invariant.area.image)) (omega (arith, s.long, s.high))

pub returns-in_err-record_type-clause-area : goal.returns-in_err-record_type-clause-area
returns-in_err-record_type-clause-area g c = read_failed (read_more c.loop-place.invariant.area c.in_ok-size.ensures.area) c.in_err-record_type.ensures.area c.from_residual-in_err-record_type.ensures.1

pub overflow_add-place-in-loop-place-2 : goal.overflow_add-place-in-loop-place-2
overflow_add-place-in-loop-place-2 g c =
    let l = c.loop-place in
    let b = g.A.Area.image c.args.area.now in
    let s = stands b (shape b) c.requires.sound l.place l.unused.count l.unused.bytes l.invariant.left (omega (arith, c.loop-place-test.true, c.size-eof.ensures)) in
    let size : c.in_ok-size.size ≡ size_at b l.place = c.in_ok-size.ensures.value ∙ ap (λ (x : List ℕ). size_at x l.place) l.invariant.area.image in
    omega (arith, s.high, size, c.size-eof.ensures)

pub with-unused-requires-clause-count : goal.with-unused-requires-clause-count
with-unused-requires-clause-count g c =
    let l = c.loop-place in
    let b = g.A.Area.image c.args.area.now in
    let s = stands b (shape b) c.requires.sound l.place l.unused.count l.unused.bytes l.invariant.left (omega (arith, c.loop-place-test.true, c.size-eof.ensures)) in
    let type : type_at b l.place ≡ uir_type = sym (ap (λ (x : List ℕ). type_at x l.place) (c.in_ok-size.ensures.area.image ∙ l.invariant.area.image)) ∙ sym c.in_ok-record_type.ensures.value ∙ c.if-record_type.true in
    let fits = unused_fits b (shape b) c.requires.sound l.place l.unused.count l.unused.bytes s type in
    omega (arith, fits.0, c.size-eof.ensures)

pub with-unused-requires-clause-bytes : goal.with-unused-requires-clause-bytes
with-unused-requires-clause-bytes g c =
    let l = c.loop-place in
    let b = g.A.Area.image c.args.area.now in
    let s = stands b (shape b) c.requires.sound l.place l.unused.count l.unused.bytes l.invariant.left (omega (arith, c.loop-place-test.true, c.size-eof.ensures)) in
    let size : c.in_ok-size.size ≡ size_at b l.place = c.in_ok-size.ensures.value ∙ ap (λ (x : List ℕ). size_at x l.place) l.invariant.area.image in
    let type : type_at b l.place ≡ uir_type = sym (ap (λ (x : List ℕ). type_at x l.place) (c.in_ok-size.ensures.area.image ∙ l.invariant.area.image)) ∙ sym c.in_ok-record_type.ensures.value ∙ c.if-record_type.true in
    let fits = unused_fits b (shape b) c.requires.sound l.place l.unused.count l.unused.bytes s type in
    omega (arith, fits.1, size, c.size-eof.ensures)

pub loop-place-smaller-then-record_type : goal.loop-place-smaller-then-record_type
loop-place-smaller-then-record_type g c =
    let l = c.loop-place in
    let b = g.A.Area.image c.args.area.now in
    let s = stands b (shape b) c.requires.sound l.place l.unused.count l.unused.bytes l.invariant.left (omega (arith, c.loop-place-test.true, c.size-eof.ensures)) in
    let size : c.in_ok-size.size ≡ size_at b l.place = c.in_ok-size.ensures.value ∙ ap (λ (x : List ℕ). size_at x l.place) l.invariant.area.image in
    omega (arith, s.long, size, c.loop-place-test.true)

pub loop-place-smaller : goal.loop-place-smaller
loop-place-smaller g c =
    let l = c.loop-place in
    let b = g.A.Area.image c.args.area.now in
    let s = stands b (shape b) c.requires.sound l.place l.unused.count l.unused.bytes l.invariant.left (omega (arith, c.loop-place-test.true, c.size-eof.ensures)) in
    let size : c.in_ok-size.size ≡ size_at b l.place = c.in_ok-size.ensures.value ∙ ap (λ (x : List ℕ). size_at x l.place) l.invariant.area.image in
    omega (arith, s.long, size, c.loop-place-test.true)

pub loop-place-preserved-then-record_type : goal.loop-place-preserved-then-record_type
loop-place-preserved-then-record_type g c =
    let l = c.loop-place in
    let b = g.A.Area.image c.args.area.now in
    let s = stands b (shape b) c.requires.sound l.place l.unused.count l.unused.bytes l.invariant.left (omega (arith, c.loop-place-test.true, c.size-eof.ensures)) in
    let size : c.in_ok-size.size ≡ size_at b l.place = c.in_ok-size.ensures.value ∙ ap (λ (x : List ℕ). size_at x l.place) l.invariant.area.image in
    let type : type_at b l.place ≡ uir_type = sym (ap (λ (x : List ℕ). type_at x l.place) (c.in_ok-size.ensures.area.image ∙ l.invariant.area.image)) ∙ sym c.in_ok-record_type.ensures.value ∙ c.if-record_type.true in
    let next : l.place + c.in_ok-size.size ≡ l.place + size_at b l.place = ap (λ (k : ℕ). l.place + k) size in
    let bytes : c.with-unused.result.bytes ≡ l.unused.bytes + size_at b l.place = c.with-unused.ensures.bytes ∙ ap (λ (k : ℕ). l.unused.bytes + k) size in
    record {
      left = transport (λ i. AreLeft b (shape b) (sym next i) (sym c.with-unused.ensures.count i) (sym bytes i)) (unused_left b (shape b) c.requires.sound l.place l.unused.count l.unused.bytes s type);
      area = read_more (read_more l.invariant.area c.in_ok-size.ensures.area) c.in_ok-record_type.ensures.area;
    }

pub loop-place-preserved : goal.loop-place-preserved
loop-place-preserved g c =
    let l = c.loop-place in
    let b = g.A.Area.image c.args.area.now in
    let s = stands b (shape b) c.requires.sound l.place l.unused.count l.unused.bytes l.invariant.left (omega (arith, c.loop-place-test.true, c.size-eof.ensures)) in
    let size : c.in_ok-size.size ≡ size_at b l.place = c.in_ok-size.ensures.value ∙ ap (λ (x : List ℕ). size_at x l.place) l.invariant.area.image in
    let here = c.in_ok-record_type.ensures.value ∙ ap (λ (x : List ℕ). type_at x l.place) (c.in_ok-size.ensures.area.image ∙ l.invariant.area.image) in
    let other : type_at b l.place ≢ uir_type = λ is. c.if-record_type.false (here ∙ is) in
    let next : l.place + c.in_ok-size.size ≡ l.place + size_at b l.place = ap (λ (k : ℕ). l.place + k) size in
    record {
      left = subst (λ (p : ℕ). AreLeft b (shape b) p l.unused.count l.unused.bytes) (sym next) (used_left b (shape b) c.requires.sound l.place l.unused.count l.unused.bytes s other);
      area = read_more (read_more l.invariant.area c.in_ok-size.ensures.area) c.in_ok-record_type.ensures.area;
    }

pub returns-clause-tally : goal.returns-clause-tally
returns-clause-tally g c =
    let l = c.loop-place in
    let b = g.A.Area.image c.args.area.now in
    let over = none_left b (shape b) c.requires.sound l.place l.unused.count l.unused.bytes l.invariant.left (λ less. absurd (omega (arith, less, c.loop-place-test.false, c.size-eof.ensures))) in
    record { count_is = over.0; bytes_are = over.1 }

pub returns-clause-area : goal.returns-clause-area
returns-clause-area g c = read_done c.loop-place.invariant.area
