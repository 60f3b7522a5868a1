use Rattle.cdf_check.proofs.Common.{[], ◌∷◌}
use Rattle.cdf_check.proofs.image_rules.own_members.Goals as goal

pub returns-clause-told : goal.returns-clause-told
returns-clause-told c = c.add_all.ensures.told (8 ∷ c.args.gdr ∷ []) (c.add-2.ensures.told (8 ∷ []) (c.add.ensures.told [] c.in_ok-owners.ensures.none))
