-- The answer of reading a line.
use Rattle.std.specs.Prelude.{◌≡◌, Ok, Err}
use Rattle.std.specs.declared.result.Result.{Result}
use Rattle.cdf_model.specs.Grammar.{Asks}
use Rattle.cdf_model.specs.Grammar.{Parsed as Asked, Blank as Nothing}
use Rattle.cdf_script.specs.declared.fault.ParseError.{ParseError}
use Rattle.cdf_script.specs.declared.parsing.Parsed.{Parsed}
use Rattle.cdf_script.specs.declared.parsing.Parsed.TheVariants.{Blank, Cmd}
use Rattle.cdf_script.specs.Faults.{Fails}

-- this is what a line asks for; want of memory may come at any line
abbrev pub Parses : Asked → Result Parsed ParseError → Type 0
Parses asked (Ok Blank) = asked ≡ Nothing
Parses asked (Ok (Cmd c)) = asked ≡ Asks c
Parses asked (Err e) = Fails asked e
