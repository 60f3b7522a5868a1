use Rattle.cdf_structure.proofs.Common.{Marks, Some, add-one, arith, eq-eqb, false, get_or, inl, ne_eqb, owner_rows, refl, true, ◌∙◌, ◌≡◌}
use Rattle.cdf_structure.proofs.Rows.{broken_member, holds_more}
use Rattle.cdf_structure.proofs.Tallies.{mark_is, shared_breaks}
use Rattle.cdf_structure.proofs.owners.Owners.check.Goals as goal

pub returns-in-Some : goal.returns-in-Some
returns-in-Some c = record {
  found = λ owned knows.
      let m : Marks c.args.tiles.now owned c.args.self.now.has_owner.items (Some c.in-Some.place) = rw c.in-Some.is at knows in
      shared_breaks c.args.tiles.now owned c.in-Some.place m.0 m.1;
}

pub returns-then-not-index : goal.returns-then-not-index
returns-then-not-index c =
    let i = c.loop-i.i in
    let marks = c.args.self.now.has_owner.items in
    let mark : get_or marks i false ≡ false = mark_is marks i c.index.result.now (omega (arith, c.requires.marks, c.loop-i-test.true)) c.index.ensures ∙ c.if-not-index.true in
    record {
      found = λ owned knows.
          let none = rw c.in_default.is at knows in
          broken_member (owner_rows owned) c.args.tiles.now i 0 1 (get_or c.args.tiles.now i 0) c.loop-i-test.true
          (inl (refl, refl, ne_eqb _ 1 (λ e. let unowned = rw mark at (none i c.loop-i-test.true) in absurd (omega (arith, e, unowned)))));
    }

pub loop-i-preserved : goal.loop-i-preserved
loop-i-preserved c =
    let i = c.loop-i.i in
    let marks = c.args.self.now.has_owner.items in
    let mark : get_or marks i false ≡ true = mark_is marks i c.index.result.now (omega (arith, c.requires.marks, c.loop-i-test.true)) c.index.ensures ∙ c.if-not-index.false in
    λ owned none. rw add-one (holds_more (owner_rows owned) c.args.tiles.now i 0 c.loop-i-test.true (c.loop-i.invariant owned none) (eq-eqb _ 1 (none i c.loop-i-test.true ∙ rw mark refl), tt))
