-- What an error of the file that is read, and one of the file that is written, is to a conversion (own).
use Rattle.std.specs.Prelude.{◌≡◌, ◌<◌, ℕ, List, length}
use Rattle.cdf_area.specs.declared.area.AreaError.{AreaError}
use Rattle.cdf_area.specs.declared.area.AreaError.TheVariants as areas
use Rattle.cdf_convert.specs.declared.error.ConvertError.{ConvertError}
use Rattle.cdf_convert.specs.declared.error.ConvertError.TheVariants.{SourceFault, TargetFault, TooLarge, NoMemory}
use Rattle.cdf_model.specs.DataSet.{DataSet}
use Rattle.cdf_writer.specs.Compact.{bodies, compact}
use Rattle.cdf_writer.specs.Stops.{Passes}
use Rattle.cdf_writer.specs.declared.appending.WriteStop.{WriteStop}
use Rattle.cdf_writer.specs.declared.appending.WriteStop.TheVariants as stops

abbrev pub read_error : AreaError → ConvertError
read_error areas.Fault = SourceFault
read_error areas.NoMemory = NoMemory

abbrev pub write_error : WriteStop → ConvertError
write_error (stops.TooLarge eof need) = TooLarge eof need
write_error stops.Fault = TargetFault
write_error stops.NoMemory = NoMemory

-- the compact image is too large only where it passes the limit
abbrev pub PassesLimit : ℕ → DataSet → ConvertError → Type 0
PassesLimit limit d (TooLarge eof need) = limit < length (compact d)
PassesLimit limit d other = Unit {0}

-- and then the first of its records that passes it is named
abbrev pub NamesRecord : ℕ → DataSet → ConvertError → Type 0
NamesRecord limit d (TooLarge eof need) = Passes limit 8 (bodies d) eof need
NamesRecord limit d other = Unit {0}

-- what was written are so many bytes
abbrev pub EndsBefore : List ℕ → ConvertError → Type 0
EndsBefore b (TooLarge eof need) = length b ≡ eof
EndsBefore b other = Unit {0}
