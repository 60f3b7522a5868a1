-- The commands of a script, each with the words that follow its name (own).
use Rattle.std.specs.Prelude.{ℕ, ◌+◌, List, [], ◌∷◌, ◌++◌, length, Bool, true, false, bytes_eq, codes, find, if◌then◌else◌}
use Rattle.std.specs.declared.option.Option.{Option}
use Rattle.cdf_model.specs.declared.command.Command.{Command}
use Rattle.cdf_model.specs.declared.command.Command.TheVariants as commands
use Rattle.cdf_model.specs.declared.data_type.DataType.{DataType}
use Rattle.cdf_model.specs.declared.head.Majority.{Majority}
use Rattle.cdf_model.specs.declared.kinds.EntryKind.{EntryKind}
use Rattle.cdf_model.specs.declared.kinds.Scope.{Scope}
use Rattle.cdf_model.specs.declared.kinds.Sparse.{Sparse}

-- what a word behind a command's name has to be
pub data Slot : Type 0 where
  AText : Slot
  ANumber : Slot
  Numbers : Slot  -- DIMS or INDEX
  Varies : Slot  -- VARYS
  AType : Slot
  AScope : Slot
  AKind : Slot
  AMajority : Slot
  ARule : Slot
  AChoice : List ℕ → List ℕ → Slot  -- the first of two words, or the second
  AValue : Slot  -- the only VALUE

-- what it is read as
abbrev pub Meaning : Slot → Type 0
Meaning AText = List ℕ
Meaning ANumber = ℕ
Meaning Numbers = List ℕ
Meaning Varies = List Bool
Meaning AType = DataType
Meaning AScope = Scope
Meaning AKind = EntryKind
Meaning AMajority = Majority
Meaning ARule = Sparse
Meaning (AChoice first second) = Bool
Meaning AValue = List (List ℕ)

-- What makes a command of what such words are read as. Where it is open, one VALUE or more stand behind them, to the end of the line.
abbrev pub Makes : List Slot → Bool → Type 0
Makes [] false = Command
Makes [] true = List (List ℕ) → Command
Makes (slot ∷ slots) many = Meaning slot → Makes slots many

-- a command's name, its words, and what they make
pub record CommandRow : Type 0 where
  pub name : List ℕ
  pub slots : List Slot
  pub is_open : Bool
  pub makes : Makes slots is_open

abbrev pub row : List ℕ → (slots : List Slot) → Makes slots false → CommandRow
row name slots makes = record { name = name; slots = slots; is_open = false; makes = makes }

abbrev pub row_of_values : List ℕ → (slots : List Slot) → Makes slots true → CommandRow
row_of_values name slots makes = record { name = name; slots = slots; is_open = true; makes = makes }

-- how many words there have to be at least
abbrev pub wanted : CommandRow → ℕ
wanted r = length r.slots + (if r.is_open then 1 else 0)

-- whether records vary
abbrev pub record_variance : Slot
record_variance = AChoice (codes "novary") (codes "vary")

abbrev pub file_rows : List CommandRow
file_rows =
    row (codes "info") [] commands.Info
    ∷ row (codes "list") [] commands.List
    ∷ row (codes "setup") (ANumber ∷ AMajority ∷ Numbers ∷ []) commands.Setup
    ∷ row (codes "checksum") (AChoice (codes "none") (codes "md5") ∷ []) commands.Checksum
    ∷ row (codes "dump") [] commands.Dump
    ∷ row (codes "report") (AText ∷ []) commands.Report
    ∷ []

abbrev pub attribute_rows : List CommandRow
attribute_rows =
    row (codes "attr") (AText ∷ AScope ∷ []) commands.Attr
    ∷ row (codes "rename-attr") (AText ∷ AText ∷ []) commands.RenameAttr
    ∷ row (codes "del-attr") (AText ∷ []) commands.DelAttr
    ∷ row_of_values (codes "put-entry") (AText ∷ AKind ∷ ANumber ∷ AType ∷ []) commands.PutEntry
    ∷ row (codes "get-entry") (AText ∷ AKind ∷ ANumber ∷ []) commands.GetEntry
    ∷ row (codes "del-entry") (AText ∷ AKind ∷ ANumber ∷ []) commands.DelEntry
    ∷ []

abbrev pub variable_rows : List CommandRow
variable_rows =
    row (codes "rvar") (AText ∷ AType ∷ ANumber ∷ record_variance ∷ Varies ∷ []) commands.RVar
    ∷ row (codes "zvar") (AText ∷ AType ∷ ANumber ∷ record_variance ∷ Numbers ∷ Varies ∷ []) commands.ZVar
    ∷ row (codes "rename-var") (AText ∷ AText ∷ []) commands.RenameVar
    ∷ row (codes "del-var") (AText ∷ []) commands.DelVar
    ∷ row (codes "set-pad") (AText ∷ AValue ∷ []) commands.SetPad
    ∷ row (codes "set-sparse") (AText ∷ ARule ∷ []) commands.SetSparse
    ∷ row (codes "set-compress") (AText ∷ AChoice (codes "none") (codes "rle") ∷ []) commands.SetCompress
    ∷ row (codes "set-blocking") (AText ∷ ANumber ∷ []) commands.SetBlocking
    ∷ []

abbrev pub record_rows : List CommandRow
record_rows =
    row_of_values (codes "put-rec") (AText ∷ ANumber ∷ []) commands.PutRec
    ∷ row (codes "get-rec") (AText ∷ ANumber ∷ []) commands.GetRec
    ∷ row (codes "del-recs") (AText ∷ ANumber ∷ ANumber ∷ []) commands.DelRecs
    ∷ row (codes "put-val") (AText ∷ ANumber ∷ Numbers ∷ AValue ∷ []) commands.PutVal
    ∷ row (codes "get-val") (AText ∷ ANumber ∷ Numbers ∷ []) commands.GetVal
    ∷ row (codes "reindex") (AText ∷ []) commands.Reindex
    ∷ []

abbrev pub rows : List CommandRow
rows = file_rows ++ attribute_rows ++ variable_rows ++ record_rows

-- the row of the command that has the name
abbrev pub row_named : List ℕ → Option CommandRow
row_named name = find (λ r. bytes_eq r.name name) rows
