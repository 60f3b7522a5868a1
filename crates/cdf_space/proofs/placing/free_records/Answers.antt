use Rattle.cdf_space.proofs.Common.{AllGiven, AreFree, IsGiven, List, arith, at_drop_all, at_drop_more, drop, edit_more, get_or, inl, length, refl, shape, subst, sym, ℕ, ◌+◌, ◌<◌, ◌∙◌, ◌∷◌}
use Rattle.cdf_edits.proofs.Edits.FreedBytes.{free_again}
use Rattle.cdf_space.proofs.placing.free_records.Goals as goal

-- the next one, and those that are left
next_free : (b places : List ℕ) (i : ℕ) → i < length places → AreFree b (drop i places) → AreFree b (get_or places i 0 ∷ drop (i + 1) places)
next_free b places i lt free = subst (AreFree b) (at_drop_more (λ (xs : List ℕ). xs) places i 0 lt) free

pub free_record-requires-clause-stands : goal.free_record-requires-clause-stands
free_record-requires-clause-stands g c = (next_free _ c.args.places.now c.loop-place.place-index c.loop-place-test.true c.loop-place.invariant.free).stand _ (inl refl)

pub free_record-requires-clause-free : goal.free_record-requires-clause-free
free_record-requires-clause-free g c = (next_free _ c.args.places.now c.loop-place.place-index c.loop-place-test.true c.loop-place.invariant.free).unowned _ (inl refl)

pub loop-place-preserved : goal.loop-place-preserved
loop-place-preserved g c =
    let l = c.loop-place in
    let b = g.A.Area.image c.args.area.now in
    let before = g.A.Area.image l.area in
    let mid = g.A.Area.image c.free_record.new.area in
    let places = c.args.places.now in
    let call = c.in_ok-free_record.ensures in
    let free = next_free before places l.place-index c.loop-place-test.true l.invariant.free in
    let given : IsGiven before mid (shape before) (shape mid) (get_or places l.place-index 0) = (call.gives, call.sound, call.content) in
    record {
      sound = call.sound;
      content_stays = call.content ∙ l.invariant.content_stays;
      free = free_again l.invariant.sound given free;
      goes = λ now all. l.invariant.goes now (subst (AllGiven before now) (sym (at_drop_more (λ (xs : List ℕ). xs) places l.place-index 0 c.loop-place-test.true)) (mid, (given, all)));
      area = edit_more l.invariant.area call.area;
    }

pub returns-clause-given : goal.returns-clause-given
returns-clause-given g c =
    let l = c.loop-place in
    let now = g.A.Area.image l.area in
    l.invariant.goes now (subst (AllGiven now now) (sym (at_drop_all (λ (xs : List ℕ). xs) c.args.places.now l.place-index (let e = c.loop-place-test.false in omega arith))) refl)
