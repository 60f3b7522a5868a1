-- The command line as clap sees it: its flags, its file, and what it makes of words (own).
use Rattle.std.specs.Prelude.{ℕ, List, Some, true, codes}
use Rattle.clap.specs.Words.{App, Kinds, Row, Rule, Text, fault_of, matches_of, new_app, new_rule, with_rule}
use Rattle.clap.specs.Simple.{on_top}
use Rattle.clap.specs.declared.builder.ArgAction.TheVariants.{Set, SetTrue}

abbrev pub flag_rule : List ℕ → Rule
flag_rule name = record (new_rule name) { long = Some name; action = Some SetTrue }

abbrev pub file_rule : Rule
file_rule = record (new_rule (codes "file")) { action = Some Set; required = true }

abbrev pub plain_app : App
plain_app = on_top (λ s. record s { no_binary_name = true; disable_help_flag = true }) (new_app (codes "cdfedit"))

abbrev pub with_flag : List ℕ → App → App
with_flag name app = with_rule app (flag_rule name)

-- four flags, and a file
abbrev pub command_app : App
command_app = with_rule (with_flag (codes "space") (with_flag (codes "no-save") (with_flag (codes "check") (with_flag (codes "new") plain_app)))) file_rule

unfoldable pub command : App
command = command_app

-- the faults of words, and what is found in words without one
unfoldable pub faults : List Text → Kinds
faults words = fault_of command words

unfoldable pub found : List Text → List Row
found words = matches_of command words
