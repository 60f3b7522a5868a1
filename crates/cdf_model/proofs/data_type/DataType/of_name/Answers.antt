use Rattle.std.proofs.Common.{◌∙◌, rules, tests}
use Rattle.std.proofs.lemmas.Iterator.{YieldsList-from_slice}
use Rattle.std.proofs.lemmas.Iterator.Search.{find_from_yields_List}
use Rattle.std.specs.Prelude.{bytes_eq}
use Rattle.cdf_model.specs.Types.{data_types, name_of}
use Rattle.cdf_model.proofs.data_type.DataType.of_name.Goals as goal

pub returns : goal.returns
returns c =
    let found = find_from_yields_List (λ t. bytes_eq (name_of t) c.args.name.now) _ _ c.find.result c.find.ensures.ran (YieldsList-from_slice data_types cc) (λ x b q k. search (rules, tests)) in
    c.copied.ensures ∙ found
