-- What a run over devices that tell their bytes comes to, where nothing failed.
use Rattle.std.specs.Prelude.{Bool, IfSome, List, None, Some, [], false, length, true, ℕ, ◌++◌, ◌↔◌, ◌≡◌, ◌≤◌}
use Rattle.std.specs.declared.option.Option.{Option}
use Rattle.cdf_store.specs.Disk.{Disk}
use Rattle.cdf_format.specs.Content.{content}
use Rattle.cdf_session.specs.History.{History}
use Rattle.cdf_model.specs.Limits.{image_limit, script_limit}
use Rattle.cdf_format.specs.WellFormed.{WellFormed}
use Rattle.cdf_model.specs.Lines.{lines}
use Rattle.cdf_model.specs.Taps.{Tap}
use Rattle.cdf_session.specs.Run.{flagged, run_of}
use Rattle.cdf_saving.specs.Statuses.{IsDone}
use Rattle.cdf_saving.specs.declared.status.Status.TheVariants as statuses
use Rattle.cdf_saving.specs.declared.status.Status.{Status}
use Rattle.cdf_words.specs.Asking.{Asked}
use Rattle.cdf_tool.specs.Ends.{Opens}
use Rattle.cdf_tool.specs.Idle.{IsUnmoved, all_idle}
use Rattle.cdf_tool.specs.Outlets.{Outlets}
use Rattle.cdf_tool.specs.Script.{last_line}
use Rattle.cdf_tool.specs.Stored.{Stored}
use Rattle.cdf_format.specs.Sealed.{sealed}

-- The file was opened, or a new one made. From its image the script led to another one, which was stored, and the text of the run over the data set with the taps was written, then the line on space where it is asked for, and nothing else. The last image is well formed once it is sealed, and means the data set that the run ends with, and the taps are left that it leaves. Where no line changed anything, nothing was written to the store.
pub record Accepted {U : Type 0} (a : Asked) (d d' : Disk U) (script : List ℕ) (left : Option (List ℕ)) (written : List ℕ) (taps : List Tap) (now : Outlets) (status : Status) : Type 0 where
  pub file : List ℕ
  pub image : List ℕ
  pub end : List ℕ
  pub full : List Bool
  pub opens : Opens a.new file image
  pub history : History image_limit image script full end
  pub limit : length script ≤ script_limit
  pub read : left ≡ Some []
  pub replies : now.written ≡ Some (written ++ ((run_of (content image) taps script full).text ++ last_line a.space end))
  pub refused : (status ≡ statuses.SomeRefused) ↔ ((run_of (content image) taps script full).refused ≡ true)
  pub well_formed : WellFormed (sealed end)
  pub means : content end ≡ (run_of (content image) taps script full).data_set
  pub taps_left : now.taps ≡ (run_of (content image) taps script full).taps
  pub stored : Stored a file end d d'
  pub idle : a.new ≡ false → all_idle (content image) (flagged (lines script) full) ≡ true → IsUnmoved d d' status

-- with status 0 or 1 and no check, over a source and a sink that tell their bytes
abbrev pub Accepts : {U : Type 0} → Option Asked → Disk U → Disk U → Option (List ℕ) → Option (List ℕ) → Outlets → Outlets → Status → Type 0
Accepts None d d' before left first now status = IsDone status → ⊥
Accepts (Some a) d d' (Some script) left first now status = IfSome first.written (λ written. a.check ≡ false → IsDone status → Accepted a d d' script left written first.taps now status)
Accepts (Some a) d d' None left first now status = Unit {0}
