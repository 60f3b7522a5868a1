use Rattle.cdf_vars.proofs.Common.{Some, ap, read_done, read_once, sym, ◌∙◌}
use Rattle.cdf_model.specs.Events.{variable_event}
use Rattle.cdf_model.specs.declared.event.Event.{Event}
use Rattle.cdf_vars.proofs.VariableNumbered.{none_numbered, numbered_vdr, variable_numbered}
use Rattle.cdf_vars.proofs.vars.Vars.variable_event.Goals as goal
use Rattle.std.specs.Option.{option_map}

pub returns-in_default-clause-event : goal.returns-in_default-clause-event
returns-in_default-clause-event g c = sym (ap (option_map (variable_event c.args.kind c.args.n)) (none_numbered c.requires.good c.requires.known c.args.kind c.args.n (sym c.in_default.is ∙ c.find_place.ensures)))

pub read_variable-requires-clause-vdr : goal.read_variable-requires-clause-vdr
read_variable-requires-clause-vdr g c = numbered_vdr c.requires.good c.requires.known c.args.kind c.args.n (sym c.in-Some.is ∙ c.find_place.ensures)

pub returns-clause-event : goal.returns-clause-event
returns-clause-event g c =
    ap (λ (e : Event). Some e) c.in_ok-event.ensures.event ∙ sym (ap (option_map (variable_event c.args.kind c.args.n)) (variable_numbered c.requires.good c.requires.known c.args.kind c.args.n (sym c.in-Some.is ∙ c.find_place.ensures)))

pub returns-clause-area : goal.returns-clause-area
returns-clause-area g c = read_done (read_once c.in_ok-event.ensures.area)
