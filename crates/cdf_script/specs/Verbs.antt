-- The names of commands.
use Rattle.std.specs.Prelude.{◌≡◌, ℕ, List, [], ◌∷◌, map, refl, bytes_eq, find, slice_index_or}
use Rattle.std.specs.declared.option.Option.{Option}
use Rattle.cdf_model.specs.Forms.{CommandRow, row, rows}
use Rattle.cdf_model.specs.declared.command.Command.TheVariants as commands
use Rattle.cdf_script.specs.declared.verb.Verb.{Verb}
use Rattle.cdf_script.specs.declared.verb.Verb.TheVariants as verb

-- in the order of the rows
abbrev pub verbs : List Verb
verbs =
    verb.Info ∷ verb.List ∷ verb.Setup ∷ verb.Checksum ∷ verb.Dump ∷ verb.Report
    ∷ verb.Attr ∷ verb.RenameAttr ∷ verb.DelAttr ∷ verb.PutEntry ∷ verb.GetEntry ∷ verb.DelEntry
    ∷ verb.RVar ∷ verb.ZVar ∷ verb.RenameVar ∷ verb.DelVar ∷ verb.SetPad ∷ verb.SetSparse ∷ verb.SetCompress ∷ verb.SetBlocking
    ∷ verb.PutRec ∷ verb.GetRec ∷ verb.DelRecs ∷ verb.PutVal ∷ verb.GetVal ∷ verb.Reindex
    ∷ []

-- the place of a verb's row
abbrev pub place_of : Verb → ℕ
place_of verb.Info = 0
place_of verb.List = 1
place_of verb.Setup = 2
place_of verb.Checksum = 3
place_of verb.Dump = 4
place_of verb.Report = 5
place_of verb.Attr = 6
place_of verb.RenameAttr = 7
place_of verb.DelAttr = 8
place_of verb.PutEntry = 9
place_of verb.GetEntry = 10
place_of verb.DelEntry = 11
place_of verb.RVar = 12
place_of verb.ZVar = 13
place_of verb.RenameVar = 14
place_of verb.DelVar = 15
place_of verb.SetPad = 16
place_of verb.SetSparse = 17
place_of verb.SetCompress = 18
place_of verb.SetBlocking = 19
place_of verb.PutRec = 20
place_of verb.GetRec = 21
place_of verb.DelRecs = 22
place_of verb.PutVal = 23
place_of verb.GetVal = 24
place_of verb.Reindex = 25

abbrev pub row_of : Verb → CommandRow
row_of v = slice_index_or rows (place_of v) (row [] [] commands.Info)

abbrev pub name_of : Verb → List ℕ
name_of v = (row_of v).name

-- the verb that has the name
abbrev pub verb_in : List ℕ → Option Verb
verb_in name = find (λ v. bytes_eq (name_of v) name) verbs

-- each row has a verb, and each verb its row
pub rows-verbs : rows ≡ map row_of verbs
rows-verbs = refl
