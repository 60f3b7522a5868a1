-- The variable of a name: an r variable, or else a z variable (own).
use Rattle.std.specs.Prelude.{ℕ, List, ◌++◌}
use Rattle.std.specs.declared.option.Option.{Option}
use Rattle.std.specs.Option.{option_map, option_or}
use Rattle.cdf_model.specs.declared.kinds.Kind.{Kind}
use Rattle.cdf_model.specs.declared.kinds.Kind.TheVariants.{R, Z}
use Rattle.cdf_model.specs.Names.{Found}
use Rattle.cdf_names.specs.Names.{number_of}
use Rattle.cdf_vars.specs.declared.vars.VarId.{VarId}
use Rattle.cdf_vars.specs.Known.{Known}

-- among the names of one kind
abbrev pub found_of : Kind → List (List ℕ) → List ℕ → Option VarId
found_of kind names name = option_map (λ num. record { kind = kind; num = num }) (number_of names name)

abbrev pub found_among : Known → List ℕ → Option VarId
found_among known name = option_or (found_of R known.r.names name) (found_of Z known.z.names name)

-- the names of both kinds
abbrev pub names_of : Known → List (List ℕ)
names_of known = known.r.names ++ known.z.names

-- the kind and the number of a variable of the data set
abbrev pub id_of : Found → VarId
id_of found = record { kind = found.kind; num = found.number }
