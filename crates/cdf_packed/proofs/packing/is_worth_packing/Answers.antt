use Rattle.std.proofs.Common.{◌<◌, arith, length}
use Rattle.std.specs.Prelude.{All}
use Rattle.std.proofs.lemmas.List.Elements.{All-from_get_or}
use Rattle.cdf_packed.proofs.Shortest.{longest_is_shortest}
use Rattle.cdf_packed.proofs.Worth.{as_long_is, longer_is_not}
use Rattle.cdf_packed.proofs.packing.is_worth_packing.Goals as goal

pub returns-clause-never : goal.returns-clause-never
returns-clause-never c = λ none packed bytes packs.
    let own : All (λ byte. byte < 256) c.args.packed.now = All-from_get_or (λ byte. byte < 256) c.args.packed.now 0 (λ i less. (c.type_inv.packed i).fits) in
    longer_is_not c.args.plain.now packed (length c.args.packed.now) none
    (longest_is_shortest c.args.packed.now packed c.args.plain.now own c.requires.packs c.requires.longest bytes packs)

pub returns-clause-chosen : goal.returns-clause-chosen
returns-clause-chosen c = λ runs bytes packs longest.
    let own : All (λ byte. byte < 256) c.args.packed.now = All-from_get_or (λ byte. byte < 256) c.args.packed.now 0 (λ i less. (c.type_inv.packed i).fits) in
    let least = longest_is_shortest c.args.packed.now runs c.args.plain.now own c.requires.packs c.requires.longest bytes packs in
    let most = longest_is_shortest runs c.args.packed.now c.args.plain.now bytes packs longest own c.requires.packs in
    as_long_is c.args.plain.now runs (length c.args.packed.now) c.requires.small (omega (arith, least, most))
