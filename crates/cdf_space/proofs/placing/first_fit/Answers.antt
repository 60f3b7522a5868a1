use Rattle.cdf_space.proofs.Common.{List, ap, arith, false, fits, gdr_field, gdr_uir_head, length, next_of, number, read_more, read_once, shape, size_at, subst, sym, true, ℕ, ◌+◌, ◌∙◌, ◌≡◌, ◌≤◌}
use Rattle.cdf_space.proofs.FirstFit.{IsOnTheList, list_start, listed_lies, place_listed, list_on, list_found, list_ends, list_short}
use Rattle.cdf_space.proofs.placing.first_fit.Goals as goal

pub read_unsigned8-requires : goal.read_unsigned8-requires
read_unsigned8-requires g c =
    let b = g.A.Area.image c.args.area.now in
    subst (λ (x : ℕ). x + 64 + 8 ≤ length b) (sym c.requires.gdr) (gdr_field b c.requires.sound 64 (omega arith))

pub loop-init : goal.loop-init
loop-init g c =
    let b = g.A.Area.image c.args.area.now in
    let s = shape b in
    let at : c.args.gdr ≡ s.gdr = c.requires.gdr ∙ c.requires.sound.has_shape.gdr_is in
    let place : c.in_ok-place.place ≡ number b s.gdr gdr_uir_head = c.in_ok-place.ensures.value ∙ ap (λ (x : ℕ). number b x gdr_uir_head) at in
    record {
      walked = subst (λ (x : ℕ). IsOnTheList b s c.args.need (x + 64) 0 c.in_ok-place.place 0) (sym at) (subst (λ (p : ℕ). IsOnTheList b s c.args.need (s.gdr + 64) 0 p 0) (sym place) (list_start b s c.args.need c.requires.sound));
      area = read_once c.in_ok-place.ensures.area;
    }

pub returns-then-place-eq0-clause-found : goal.returns-then-place-eq0-clause-found
returns-then-place-eq0-clause-found g c =
    let b = g.A.Area.image c.args.area.now in
    list_ends b (shape b) c.args.need c.requires.sound c.loop.link c.loop.before c.loop.place c.loop.counter c.loop.invariant.walked c.if-place-eq0.true

pub read_uir-requires : goal.read_uir-requires
read_uir-requires g c =
    let b = g.A.Area.image c.args.area.now in
    let i = place_listed b (shape b) c.args.need c.requires.sound c.loop.link c.loop.before c.loop.place c.loop.counter c.loop.invariant.walked c.if-place-eq0.false in
    subst (λ (x : List ℕ). c.loop.place + 28 ≤ length x) (sym c.loop.invariant.area.image) (listed_lies b (shape b) c.args.need c.requires.sound c.loop.place i)

pub returns-then-is_fit-clause-found : goal.returns-then-is_fit-clause-found
returns-then-is_fit-clause-found g c =
    let b = g.A.Area.image c.args.area.now in
    let uir = c.in_ok-uir.uir in
    let size : uir.record_size ≡ size_at b c.loop.place = ap (λ u. u.record_size) c.in_ok-uir.ensures.value ∙ ap (λ (x : List ℕ). size_at x c.loop.place) c.loop.invariant.area.image in
    let next : uir.next_uir ≡ next_of b c.loop.place = ap (λ u. u.next_uir) c.in_ok-uir.ensures.value ∙ ap (λ (x : List ℕ). next_of x c.loop.place) c.loop.invariant.area.image in
    let fit : fits c.args.need (size_at b c.loop.place) ≡ true = ap (fits c.args.need) (sym size) ∙ sym c.is_fit.ensures ∙ c.if-is_fit.true in
    list_found b (shape b) c.args.need c.requires.sound c.loop.link c.loop.before c.loop.place c.loop.counter uir.record_size uir.next_uir c.loop.invariant.walked c.if-place-eq0.false fit size next

pub overflow_add-link-in-loop : goal.overflow_add-link-in-loop
overflow_add-link-in-loop g c =
    let b = g.A.Area.image c.args.area.now in
    let i = place_listed b (shape b) c.args.need c.requires.sound c.loop.link c.loop.before c.loop.place c.loop.counter c.loop.invariant.walked c.if-place-eq0.false in
    let room = listed_lies b (shape b) c.args.need c.requires.sound c.loop.place i in
    let short = c.requires.short in
    omega arith

pub loop-preserved : goal.loop-preserved
loop-preserved g c =
    let b = g.A.Area.image c.args.area.now in
    let uir = c.in_ok-uir.uir in
    let i = c.loop.invariant in
    let size : uir.record_size ≡ size_at b c.loop.place = ap (λ u. u.record_size) c.in_ok-uir.ensures.value ∙ ap (λ (x : List ℕ). size_at x c.loop.place) i.area.image in
    let next : uir.next_uir ≡ next_of b c.loop.place = ap (λ u. u.next_uir) c.in_ok-uir.ensures.value ∙ ap (λ (x : List ℕ). next_of x c.loop.place) i.area.image in
    let unfit : fits c.args.need (size_at b c.loop.place) ≡ false = ap (fits c.args.need) (sym size) ∙ sym c.is_fit.ensures ∙ c.if-is_fit.false in
    record {
      walked = subst (λ (x : ℕ). IsOnTheList b (shape b) c.args.need (c.loop.place + 12) c.loop.place x (c.loop.counter + 1)) (sym next)
          (list_on b (shape b) c.args.need c.requires.sound c.loop.link c.loop.before c.loop.place c.loop.counter i.walked c.if-place-eq0.false unfit);
      area = read_more i.area c.in_ok-uir.ensures.area;
    }

pub returns-clause-found : goal.returns-clause-found
returns-clause-found g c =
    let b = g.A.Area.image c.args.area.now in
    let few = list_short b (shape b) c.args.need c.requires.sound c.loop.link c.loop.before c.loop.place c.loop.counter c.loop.invariant.walked in
    let short = c.requires.short in
    let over = c.loop-test.false in
    absurd (omega arith)
