-- The error that comes where a line is faulty.
use Rattle.std.specs.Prelude.{◌≡◌, ⊤}
use Rattle.cdf_model.specs.Grammar.{Parsed, Faulty}
use Rattle.cdf_script.specs.declared.fault.ParseError.{ParseError}
use Rattle.cdf_script.specs.declared.fault.ParseError.TheVariants.{Bad, NoMemory}

-- this fault; want of memory may come at any line
abbrev pub Fails : Parsed → ParseError → Type 0
Fails asked (Bad fault) = asked ≡ Faulty fault
Fails asked NoMemory = ⊤
