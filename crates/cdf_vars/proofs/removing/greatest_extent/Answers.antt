use Rattle.cdf_vars.proofs.Common.{LiesIn, List, ap, arith, at_drop_all, drop, extent, fold, get_or, got_in, max, max_rec_at, read_more, subst, sym, vdr_name, ℕ, ◌+◌, ◌^◌, ◌∙◌, ◌≤◌}
use Rattle.cdf_vars.proofs.RemovalAnswers.{extents, max_few, one_read}
use Rattle.cdf_vars.proofs.removing.greatest_extent.Goals as goal

pub read_extent-requires : goal.read_extent-requires
read_extent-requires g c =
    let l = c.loop-place in
    subst (λ (x : List ℕ). LiesIn x (get_or c.args.places.now l.place-index 0) vdr_name) (sym l.invariant.area.image) (c.requires.lie _ (got_in c.args.places.now l.place-index c.loop-place-test.true))

pub loop-place-preserved : goal.loop-place-preserved
loop-place-preserved g c =
    let l = c.loop-place in
    let b = g.A.Area.image c.args.area.now in
    let place = get_or c.args.places.now l.place-index 0 in
    let read = c.in_ok-extent.ensures.extent ∙ ap (λ (x : List ℕ). extent (max_rec_at x place)) l.invariant.area.image in
    let is = c.max-greatest.ensures in
    record {
      few = subst (λ (n : ℕ). n ≤ 2 ^ 31) (sym is) (max_few l.greatest c.in_ok-extent.extent l.invariant.few c.in_ok-extent.ensures.few);
      goes = ap (λ (n : ℕ). fold max n (extents b (drop (l.place-index + 1) c.args.places.now))) is ∙ one_read b c.args.places.now l.place-index l.greatest c.in_ok-extent.extent _ c.loop-place-test.true read l.invariant.goes;
      area = read_more l.invariant.area c.in_ok-extent.ensures.area;
    }

pub returns-clause-greatest : goal.returns-clause-greatest
returns-clause-greatest g c =
    let l = c.loop-place in
    let b = g.A.Area.image c.args.area.now in
    sym (at_drop_all (λ (xs : List ℕ). fold max l.greatest (extents b xs)) c.args.places.now l.place-index (omega arith)) ∙ l.invariant.goes
