use Rattle.cdf_structure.proofs.Common.{IsToldOf, List, get_or, subst, sym, take, take_all, take_more, ℕ, [], ◌∷◌}
use Rattle.cdf_structure.proofs.Tallies.{told_none, told_then}
use Rattle.cdf_structure.proofs.owners.Owners.add_all.Goals as goal

pub loop-place-init : goal.loop-place-init
loop-place-init c = record { marks = c.requires.marks; told = told_none c.args.tiles.now c.args.self.now }

pub loop-place-preserved : goal.loop-place-preserved
loop-place-preserved c =
    let l = c.loop-place in
    let places = c.args.places.now in
    record {
      marks = c.add.ensures.marks;
      told = subst (λ (xs : List ℕ). IsToldOf c.args.tiles.now xs c.args.self.now c.add.new.self) (sym (take_more places l.place-index 0 c.loop-place-test.true))
          (told_then c.args.tiles.now (take l.place-index places) (get_or places l.place-index 0 ∷ []) c.args.self.now l.self c.add.new.self l.invariant.told c.add.ensures.told);
    }

pub returns-clause-told : goal.returns-clause-told
returns-clause-told c = subst (λ (xs : List ℕ). IsToldOf c.args.tiles.now xs c.args.self.now c.loop-place.self) (take_all c.loop-place.place-index c.args.places.now c.loop-place-test.false) c.loop-place.invariant.told
