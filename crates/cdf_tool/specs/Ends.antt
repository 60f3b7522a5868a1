-- What a run leaves, by its status (own). `d` is the store as it came, and `d'` as it is handed back.
use Rattle.std.specs.Prelude.{Bool, IfSome, List, None, false, true, ℕ, ◌≡◌, ◌⊎◌}
use Rattle.std.specs.declared.option.Option.{Option}
use Rattle.std.specs.Io.KnownBytes.{Appends}
use Rattle.cdf_store.specs.Disk.{Disk}
use Rattle.cdf_store.specs.Named.{lookup}
use Rattle.cdf_store.specs.Written.{AppendsFront}
use Rattle.cdf_format.specs.NewFile.{new_image}
use Rattle.cdf_format.specs.Sealed.{image_of, sealed}
use Rattle.cdf_format.specs.WellFormed.{WellFormed}
use Rattle.cdf_model.specs.Limits.{image_limit}
use Rattle.cdf_model.specs.Texts.{no_file_text}
use Rattle.cdf_saving.specs.Saved.{IsLeft}
use Rattle.cdf_saving.specs.declared.notes.Left.{Left}
use Rattle.cdf_saving.specs.declared.status.Status.TheVariants as statuses
use Rattle.cdf_saving.specs.declared.status.Status.{Status}
use Rattle.cdf_words.specs.Asking.{Asked}
use Rattle.cdf_tool.specs.Idle.{IfIdle, IsUnmoved}
use Rattle.cdf_tool.specs.Outlets.{Outlets}
use Rattle.cdf_tool.specs.Says.{Rejects, rejection}
use Rattle.cdf_tool.specs.Script.{FinishesWith, HaltsWith}
use Rattle.cdf_tool.specs.Stored.{Kept, Spoiled, Stored, Unattached}

-- ---- over a file

-- The image that a run begins with: with `--new` the new one, whatever the file, else that of the file, which is well formed.
abbrev pub Opens : Bool → List ℕ → List ℕ → Type 0
Opens true file image = image ≡ new_image
Opens false file image = WellFormed file × (image ≡ image_of file)

-- the script was run to its end, the line on space written where it is asked for, and the image that it led to was stored
pub record Completes {U : Type 0} (a : Asked) (file image : List ℕ) (d d' : Disk U) (before left : Option (List ℕ)) (first now : Outlets) (refused : Bool) : Type 0 where
  pub end : List ℕ
  pub finishes : FinishesWith a.space image_limit image before left first end refused now
  pub well_formed : WellFormed (sealed end)
  pub stored : Stored a file end d d'

-- it was run to its end, and the saving failed
pub record Spoils {U : Type 0} (a : Asked) (file image : List ℕ) (d d' : Disk U) (before left : Option (List ℕ)) (first now : Outlets) : Type 0 where
  pub end : List ℕ
  pub refused : Bool
  pub finishes : FinishesWith a.space image_limit image before left first end refused now
  pub spoiled : Spoiled a file end d d'

-- the script was run over this image
abbrev pub Runs : {U : Type 0} → Asked → List ℕ → List ℕ → Disk U → Disk U → Option (List ℕ) → Option (List ℕ) → Outlets → Outlets → Status → Type 0
Runs a file image d d' before left first now statuses.Done = Completes a file image d d' before left first now false
Runs a file image d d' before left first now statuses.SomeRefused = Completes a file image d d' before left first now true
Runs a file image d d' before left first now statuses.StoreWriteFault = Spoils a file image d d' before left first now
Runs a file image d d' before left first now other = Kept a file d d' × HaltsWith a.space image_limit image before left first now other

pub record Replays {U : Type 0} (a : Asked) (d d' : Disk U) (before left : Option (List ℕ)) (first now : Outlets) (status : Status) : Type 0 where
  pub file : List ℕ
  pub image : List ℕ
  pub opens : Opens a.new file image
  pub runs : Runs a file image d d' before left first now status
  pub idle : a.new ≡ false → IfIdle image_limit image before (IsUnmoved d d' status)

-- the saving failed, and this is told of what it left
pub record SpoilsTo {U : Type 0} (a : Asked) (d d' : Disk U) (before left : Option (List ℕ)) (first now : Outlets) (what : Option Left) : Type 0 where
  pub file : List ℕ
  pub image : List ℕ
  pub opens : Opens a.new file image
  pub spoils : Spoils a file image d d' before left first now
  pub leaves : IsLeft what file (sealed spoils.end) spoils.spoiled.now

-- nothing of the script was read: the file was rejected, which no new one is, or a device failed or memory was refused before
abbrev pub EndsUnread : Bool → List ℕ → Option (List ℕ) → Option (List ℕ) → Status → Type 0
EndsUnread new file first now statuses.Rejected = (new ≡ false) × ((r : Rejects file) × Appends first now (rejection r))
EndsUnread new file first now statuses.OutputFault = (new ≡ false) × ((r : Rejects file) × AppendsFront first now (rejection r))
EndsUnread new file first now statuses.StoreReadFault = now ≡ first
EndsUnread new file first now statuses.NoMemory = now ≡ first
EndsUnread new file first now other = ⊥

pub record Unread {U : Type 0} (a : Asked) (d d' : Disk U) (before left first now : Option (List ℕ)) (status : Status) : Type 0 where
  pub file : List ℕ
  pub kept : Kept a file d d'
  pub none_read : left ≡ before
  pub ends : EndsUnread a.new file first now status

-- ---- over no file

-- no file was attached: there is none, which no new one lacks, or a device failed or memory was refused
abbrev pub EndsWithout : Asked → Option (List (List ℕ × List ℕ)) → Option (List ℕ) → Option (List ℕ) → Status → Type 0
EndsWithout a files first now statuses.NoFile = (a.new ≡ false) × IfSome files (λ fs. lookup a.name fs ≡ None) × Appends first now no_file_text
EndsWithout a files first now statuses.OutputFault = (a.new ≡ false) × IfSome files (λ fs. lookup a.name fs ≡ None) × AppendsFront first now no_file_text
EndsWithout a files first now statuses.StoreReadFault = now ≡ first
EndsWithout a files first now statuses.NoMemory = now ≡ first
EndsWithout a files first now other = ⊥

pub record Without {U : Type 0} (a : Asked) (d d' : Disk U) (before left first now : Option (List ℕ)) (status : Status) : Type 0 where
  pub unattached : Unattached a d d'
  pub none_read : left ≡ before
  pub ends : EndsWithout a d.files first now status

-- ---- a whole run

-- A run ended so that was asked for this, and for no check. Where nothing of the script was read, the taps are as they were.
abbrev pub EndsNamed : {U : Type 0} → Asked → Disk U → Disk U → Option (List ℕ) → Option (List ℕ) → Outlets → Outlets → Status → Type 0
EndsNamed a d d' before left first now status = ((now.taps ≡ first.taps) × Without a d d' before left first.written now.written status) ⊎ (((now.taps ≡ first.taps) × Unread a d d' before left first.written now.written status) ⊎ Replays a d d' before left first now status)
