use Rattle.cdf_structure.proofs.Common.{Block, IsToldOf, List, [], get_or, map, subst, take_all, ℕ, ◌++◌, ◌∷◌}
use Rattle.cdf_structure.proofs.Tallies.{told_block, told_nodes, told_none, told_then}
use Rattle.cdf_structure.proofs.indexes.own.Goals as goal

pub loop-block-init : goal.loop-block-init
loop-block-init c =
    let ts = c.args.tiles.now in
    let nodes = c.args.index.now.nodes.list.items in
    record {
      marks = c.add_all.ensures.marks;
      told = told_nodes ts c.args.owners.now c.add.new.self c.add_all.new.self c.args.variable.vdr nodes c.add.ensures.told
          (subst (λ (xs : List ℕ). IsToldOf ts xs c.add.new.self c.add_all.new.self) c.deref.ensures.value c.add_all.ensures.told);
    }

pub loop-block-preserved : goal.loop-block-preserved
loop-block-preserved c =
    let l = c.loop-block in
    let ts = c.args.tiles.now in
    let index = c.args.index.now in
    let d : Block = record { first = 0; last = 0; place = 0 } in
    let one : IsToldOf ts ((get_or index.blocks.items l.block-index d).place ∷ []) l.owners c.add-in-loop-block.new.self = rw c.deref-block-items.ensures.value at c.add-in-loop-block.ensures.told in
    record {
      marks = c.add-in-loop-block.ensures.marks;
      told = told_block ts c.args.owners.now l.owners c.add-in-loop-block.new.self (c.args.variable.vdr ∷ index.nodes.list.items) index.blocks.items l.block-index d (rw c.deref-block-items.ensures.value at c.loop-block-test.true) l.invariant.told one;
    }

pub returns-in-Some-clause-told : goal.returns-in-Some-clause-told
returns-in-Some-clause-told c =
    let l = c.loop-block in
    let ts = c.args.tiles.now in
    let index = c.args.index.now in
    let places = λ (blocks : List Block). (c.args.variable.vdr ∷ index.nodes.list.items) ++ map (λ (block : Block). block.place) blocks in
    let told = subst (λ (blocks : List Block). IsToldOf ts (places blocks) c.args.owners.now l.owners) (take_all l.block-index index.blocks.items (rw c.deref-block-items.ensures.value at c.loop-block-test.false)) l.invariant.told in
    rw c.in-Some.is (told_then ts (places index.blocks.items) (c.in-Some.cpr ∷ []) c.args.owners.now l.owners c.add-in-Some.new.self told c.add-in-Some.ensures.told)

pub returns-in_default-clause-told : goal.returns-in_default-clause-told
returns-in_default-clause-told c =
    let l = c.loop-block in
    let ts = c.args.tiles.now in
    let index = c.args.index.now in
    let places = λ (blocks : List Block). (c.args.variable.vdr ∷ index.nodes.list.items) ++ map (λ (block : Block). block.place) blocks in
    let told = subst (λ (blocks : List Block). IsToldOf ts (places blocks) c.args.owners.now l.owners) (take_all l.block-index index.blocks.items (rw c.deref-block-items.ensures.value at c.loop-block-test.false)) l.invariant.told in
    rw c.in_default.is (told_then ts (places index.blocks.items) [] c.args.owners.now l.owners l.owners told (told_none ts l.owners))
