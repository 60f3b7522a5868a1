use Rattle.cdf_space.proofs.Common.{List, ap, arith, cdr_room, gdr_field, gdr_uir_head, length, next_of, number, read_done, read_failed, read_more, read_once, shape, size_at, subst, sym, ℕ, ◌+◌, ◌∙◌, ◌≡◌, ◌≤◌}
use Rattle.cdf_space.proofs.Counting.{AreListed, all_listed, few_listed, is_next, list_over}
use Rattle.cdf_space.proofs.measuring.tally_listed.Goals as goal

pub read_unsigned8-requires : goal.read_unsigned8-requires
read_unsigned8-requires g c = let room = cdr_room (g.A.Area.image c.args.area.now) c.requires.sound in omega (arith, room)

pub overflow_add-gdr : goal.overflow_add-gdr
overflow_add-gdr g c =
    let room = gdr_field (g.A.Area.image c.args.area.now) c.requires.sound 64 (omega arith) in
    let size = c.size-size.ensures in
    omega (arith, room, size, c.in_ok-gdr.ensures.value)

pub read_unsigned8-requires-2 : goal.read_unsigned8-requires-2
read_unsigned8-requires-2 g c =
    let room = gdr_field (g.A.Area.image c.args.area.now) c.requires.sound 64 (omega arith) in
    subst (λ (x : List ℕ). c.in_ok-gdr.gdr + 64 + 8 ≤ length x) (sym c.read_unsigned8.ensures.area.image) (omega (arith, room, c.in_ok-gdr.ensures.value))

pub loop-place-init : goal.loop-place-init
loop-place-init g c =
    let b = g.A.Area.image c.args.area.now in
    let s = shape b in
    let at : c.in_ok-gdr.gdr ≡ s.gdr = c.in_ok-gdr.ensures.value ∙ c.requires.sound.has_shape.gdr_is in
    let place : c.in_ok-place.place ≡ number b s.gdr gdr_uir_head = c.in_ok-place.ensures.value ∙ ap (λ (x : List ℕ). number x c.in_ok-gdr.gdr gdr_uir_head) c.in_ok-gdr.ensures.area.image ∙ ap (λ (x : ℕ). number b x gdr_uir_head) at in
    record {
      left = subst (λ (p : ℕ). AreListed b s p c.none-listed.result.count c.none-listed.result.bytes) (sym place)
          (subst (λ (n : ℕ). AreListed b s (number b s.gdr gdr_uir_head) n c.none-listed.result.bytes) (sym c.none-listed.ensures.count) (subst (λ (n : ℕ). AreListed b s (number b s.gdr gdr_uir_head) 0 n) (sym c.none-listed.ensures.bytes) (all_listed b s c.requires.sound)));
      area = read_more (read_once c.in_ok-gdr.ensures.area) c.in_ok-place.ensures.area;
    }

pub read_uir-requires : goal.read_uir-requires
read_uir-requires g c =
    let l = c.loop-place in
    let b = g.A.Area.image c.args.area.now in
    let n = is_next b (shape b) c.requires.sound l.place l.listed.count l.listed.bytes l.invariant.left c.loop-place-test.true in
    subst (λ (x : List ℕ). l.place + 28 ≤ length x) (sym l.invariant.area.image) n.lies

pub returns-in_err-uir-clause-area : goal.returns-in_err-uir-clause-area
returns-in_err-uir-clause-area g c = read_failed c.loop-place.invariant.area c.in_err-uir.ensures.area c.from_residual-in_err-uir.ensures.1

pub with-listed-requires-clause-count : goal.with-listed-requires-clause-count
with-listed-requires-clause-count g c =
    let l = c.loop-place in
    let b = g.A.Area.image c.args.area.now in
    let n = is_next b (shape b) c.requires.sound l.place l.listed.count l.listed.bytes l.invariant.left c.loop-place-test.true in
    let few = few_listed b (shape b) c.requires.sound in
    omega (arith, n.few, few, c.size-size.ensures)

pub with-listed-requires-clause-bytes : goal.with-listed-requires-clause-bytes
with-listed-requires-clause-bytes g c =
    let l = c.loop-place in
    let b = g.A.Area.image c.args.area.now in
    let n = is_next b (shape b) c.requires.sound l.place l.listed.count l.listed.bytes l.invariant.left c.loop-place-test.true in
    let uir = c.in_ok-uir.uir in
    let size : uir.record_size ≡ size_at b l.place = ap (λ u. u.record_size) c.in_ok-uir.ensures.value ∙ ap (λ (x : List ℕ). size_at x l.place) l.invariant.area.image in
    omega (arith, n.short, size, c.size-size.ensures)

pub loop-place-smaller : goal.loop-place-smaller
loop-place-smaller g c =
    let l = c.loop-place in
    let b = g.A.Area.image c.args.area.now in
    let n = is_next b (shape b) c.requires.sound l.place l.listed.count l.listed.bytes l.invariant.left c.loop-place-test.true in
    omega (arith, n.few, c.with-listed.ensures.count)

pub loop-place-preserved : goal.loop-place-preserved
loop-place-preserved g c =
    let l = c.loop-place in
    let b = g.A.Area.image c.args.area.now in
    let s = shape b in
    let n = is_next b s c.requires.sound l.place l.listed.count l.listed.bytes l.invariant.left c.loop-place-test.true in
    let uir = c.in_ok-uir.uir in
    let size : uir.record_size ≡ size_at b l.place = ap (λ u. u.record_size) c.in_ok-uir.ensures.value ∙ ap (λ (x : List ℕ). size_at x l.place) l.invariant.area.image in
    let next : uir.next_uir ≡ next_of b l.place = ap (λ u. u.next_uir) c.in_ok-uir.ensures.value ∙ ap (λ (x : List ℕ). next_of x l.place) l.invariant.area.image in
    let bytes : c.with-listed.result.bytes ≡ l.listed.bytes + size_at b l.place = c.with-listed.ensures.bytes ∙ ap (λ (k : ℕ). l.listed.bytes + k) size in
    record {
      left = subst (λ (p : ℕ). AreListed b s p c.with-listed.result.count c.with-listed.result.bytes) (sym next)
          (subst (λ (k : ℕ). AreListed b s (next_of b l.place) k c.with-listed.result.bytes) (sym c.with-listed.ensures.count) (subst (λ (k : ℕ). AreListed b s (next_of b l.place) (l.listed.count + 1) k) (sym bytes) n.left));
      area = read_more l.invariant.area c.in_ok-uir.ensures.area;
    }

pub returns-clause-tally : goal.returns-clause-tally
returns-clause-tally g c =
    let l = c.loop-place in
    let b = g.A.Area.image c.args.area.now in
    let over = list_over b (shape b) c.requires.sound l.place l.listed.count l.listed.bytes l.invariant.left (omega (arith, c.loop-place-test.false)) in
    record { count_is = over.0; bytes_are = over.1 }

pub returns-clause-area : goal.returns-clause-area
returns-clause-area g c = read_done c.loop-place.invariant.area
