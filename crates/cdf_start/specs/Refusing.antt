-- What a run says where no file was opened with its log.
use Rattle.std.specs.Prelude.{List, codes, ℕ, ◌≡◌, ◌⊎◌}
use Rattle.std.specs.declared.option.Option.{Option}
use Rattle.std.specs.Io.KnownBytes.{Appends}
use Rattle.cdf_model.specs.Texts.{newline, no_file_text, ◌⧺◌}
use Rattle.cdf_store.specs.Written.{AppendsFront}
use Rattle.cdf_saving.specs.declared.status.Status.TheVariants as statuses
use Rattle.cdf_saving.specs.declared.status.Status.{Status}

abbrev pub bad_journal_text : List ℕ
bad_journal_text = codes "bad journal" ⧺ newline

-- that the log is no journal of the file was written, or a part of it
abbrev pub SaysBadJournal : Option (List ℕ) → Option (List ℕ) → Status → Type 0
SaysBadJournal first now statuses.BadJournal = Appends first now bad_journal_text
SaysBadJournal first now statuses.OutputFault = AppendsFront first now bad_journal_text
SaysBadJournal first now other = ⊥

-- How a run ends that opened no file: since there is none, since its log is open and no journal of it, since the disk failed, or for
-- want of memory. In the last two cases nothing was written.
abbrev pub EndsUnopened : Type 0 → Type 0 → Type 0 → Option (List ℕ) → Option (List ℕ) → Status → Type 0
EndsUnopened absent bad failed first now statuses.NoFile = absent × Appends first now no_file_text
EndsUnopened absent bad failed first now statuses.BadJournal = bad × Appends first now bad_journal_text
EndsUnopened absent bad failed first now statuses.OutputFault = (absent × AppendsFront first now no_file_text) ⊎ (bad × AppendsFront first now bad_journal_text)
EndsUnopened absent bad failed first now statuses.StoreReadFault = failed × (now ≡ first)
EndsUnopened absent bad failed first now statuses.NoMemory = now ≡ first
EndsUnopened absent bad failed first now other = ⊥
