use Rattle.std.proofs.Common.{rules, sym, ◌<◌, ◌∙◌}
use Rattle.std.proofs.lemmas.List.Elements.{All-from_get_or}
use Rattle.cdf_writer.specs.Bodies.{cvvr_body, vvr_body}
use Rattle.cdf_writer.specs.Laying.{plain_body}
use Rattle.cdf_writer.proofs.BlockBodies.{body_packed, body_unpacked}
use Rattle.std.specs.Prelude.{true}
use Rattle.cdf_writer.proofs.Writing.{same_bytes}
use Rattle.cdf_writer.proofs.blocks.shorter_body.Goals as goal

pub returns-then-is_worth_packing : goal.returns-then-is_worth_packing
returns-then-is_worth_packing c =
    let small = All-from_get_or (λ b. b < 256) c.args.packed.now 0 (λ i lt. search (rules, c.type_inv.packed i)) in
    same_bytes c.cvvr_body.result (cvvr_body c.args.packed.now) (plain_body true c.args.plain.now)
    (body_packed c.args.plain.now c.args.packed.now small c.requires.packs c.requires.longest (sym c.is_worth_packing.ensures ∙ c.if-is_worth_packing.true))
    c.cvvr_body.ensures

pub returns-else-is_worth_packing : goal.returns-else-is_worth_packing
returns-else-is_worth_packing c =
    let small = All-from_get_or (λ b. b < 256) c.args.packed.now 0 (λ i lt. search (rules, c.type_inv.packed i)) in
    same_bytes c.vvr_body.result (vvr_body c.args.plain.now) (plain_body true c.args.plain.now)
    (body_unpacked c.args.plain.now c.args.packed.now small c.requires.packs c.requires.longest (sym c.is_worth_packing.ensures ∙ c.if-is_worth_packing.false))
    c.vvr_body.ensures
