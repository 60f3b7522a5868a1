use Rattle.cdf_writer.specs.declared.bodies.NodeEntry.{NodeEntry}
use Rattle.cdf_writer.proofs.NodesNamed.{first_at, last_at}
use Rattle.cdf_writer.proofs.index.naming.Goals as goal

pub returns : goal.returns
returns c =
    let none : NodeEntry = record { first = 0; last = 0; place = 0 } in
    let first = first_at c.args.entries.now none c.requires.some in
    let last = last_at c.args.entries.now none c.requires.some in
    λ i. record { first = first i; last = last i; place = c.args.place }
