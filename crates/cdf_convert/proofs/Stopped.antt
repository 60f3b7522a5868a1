-- Where a conversion stops for want of room, the compact image is too long.
use Rattle.std.proofs.Common.{List, ap, arith, length, refl, ℕ, ◌+◌, ◌<◌, ◌∙◌, ◌∷◌, ◌≡◌}
use Rattle.std.proofs.lemmas.List.{length-append}
use Rattle.cdf_area.specs.declared.area.AreaError.{AreaError}
use Rattle.cdf_area.specs.declared.area.AreaError.TheVariants as areas
use Rattle.cdf_convert.specs.Errors.{EndsBefore, NamesRecord, PassesLimit, read_error, write_error}
use Rattle.cdf_convert.specs.declared.error.ConvertError.{ConvertError}
use Rattle.cdf_convert.specs.declared.error.ConvertError.TheVariants.{SourceFault, TargetFault, TooLarge, NoMemory}
use Rattle.cdf_model.specs.DataSet.{DataSet}
use Rattle.cdf_format.specs.NewFile.{magic}
use Rattle.cdf_writer.proofs.Stands.{laid-append}
use Rattle.cdf_writer.specs.Bodies.{whole_record}
use Rattle.cdf_writer.specs.Compact.{bodies}
unfoldable use Rattle.cdf_writer.specs.Compact.{compact}
use Rattle.cdf_writer.specs.Laying.{laid, laid_size}
use Rattle.cdf_writer.specs.Stops.{CutAt, EndsAt, Passes}
use Rattle.cdf_writer.specs.declared.appending.WriteStop.{WriteStop}
use Rattle.cdf_writer.specs.declared.appending.WriteStop.TheVariants as stops

long_image : (d : DataSet) → length (compact d) ≡ 8 + laid_size (bodies d)
unfolding compact
long_image d = length-append magic (laid (bodies d)) ∙ ap (λ n. n + laid_size (bodies d)) magic_long
  where
    magic_long : length magic ≡ 8
    magic_long = refl

passed : (limit : ℕ) (d : DataSet) (eof need : ℕ) → Passes limit 8 (bodies d) eof need → limit < length (compact d)
passed limit d eof need p =
    let all : laid_size (bodies d) ≡ laid_size p.done + laid_size (p.next ∷ p.rest) = ap laid_size p.are ∙ ap length (laid-append p.done (p.next ∷ p.rest)) ∙ length-append (laid p.done) (laid (p.next ∷ p.rest)) in
    let next : laid_size (p.next ∷ p.rest) ≡ length (whole_record p.next) + laid_size p.rest = length-append (whole_record p.next) (laid p.rest) in
    omega (arith, long_image d, all, next, p.past, p.eof_is, p.need_is)

pub passes_limit : (limit : ℕ) (d : DataSet) (e : ConvertError) → NamesRecord limit d e → PassesLimit limit d e
passes_limit limit d SourceFault p = tt
passes_limit limit d TargetFault p = tt
passes_limit limit d (TooLarge eof need) p = passed limit d eof need p
passes_limit limit d NoMemory p = tt

-- an error of the file that is read says nothing of it
pub read_names : (limit : ℕ) (d : DataSet) (e : AreaError) → NamesRecord limit d (read_error e)
read_names limit d areas.Fault = tt
read_names limit d areas.NoMemory = tt

pub read_ends : (b : List ℕ) (e : AreaError) → EndsBefore b (read_error e)
read_ends b areas.Fault = tt
read_ends b areas.NoMemory = tt

pub written_names : (limit : ℕ) (d : DataSet) (stop : WriteStop) → CutAt limit 8 (bodies d) stop → NamesRecord limit d (write_error stop)
written_names limit d (stops.TooLarge eof need) p = p
written_names limit d stops.Fault p = tt
written_names limit d stops.NoMemory p = tt

pub written_ends : (b : List ℕ) (stop : WriteStop) → EndsAt (length b) stop → EndsBefore b (write_error stop)
written_ends b (stops.TooLarge eof need) p = p
written_ends b stops.Fault p = tt
written_ends b stops.NoMemory p = tt
