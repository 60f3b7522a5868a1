-- What a session keeps of its file beside the area (own).
use Rattle.std.specs.Prelude.{ℕ, List}
use Rattle.cdf_attrs.specs.Known.{Knows}
use Rattle.cdf_puts.specs.Starts.{KnowsStarts}
use Rattle.cdf_vars.specs.Events.{KnowsView}
use Rattle.cdf_vars.specs.Known.{Knows as KnowsVariables}
use Rattle.cdf_session.specs.declared.kept.Kept.{Kept}
use Rattle.cdf_session.specs.declared.loading.Loaded.{Loaded}

-- these are the attributes and the variables of an image
pub record AreOf (b : List ℕ) (loaded : Loaded) : Type 0 where
  pub attributes : Knows b loaded.attrs
  pub variables : KnowsVariables b loaded.vars

-- what is kept of the records of variables is right of an image
pub record IsKept (b : List ℕ) (kept : Kept) : Type 0 where
  pub starts : KnowsStarts b kept.starts
  pub view : KnowsView b kept.view
