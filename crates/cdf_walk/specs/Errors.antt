-- What an error of the parts is to a walk (own).
use Rattle.cdf_area.specs.declared.area.AreaError.{AreaError}
use Rattle.cdf_area.specs.declared.area.AreaError.TheVariants as areas
use Rattle.cdf_walk.specs.declared.error.WalkError.{WalkError}
use Rattle.cdf_walk.specs.declared.error.WalkError.TheVariants.{Fault, NoMemory}

abbrev pub walk_error : AreaError → WalkError
walk_error areas.Fault = Fault
walk_error areas.NoMemory = NoMemory
