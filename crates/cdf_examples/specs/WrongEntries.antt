-- Images that `del-entry` and `put-entry` lead to, and ones beside them in which the chain of entries has another order: of the attribute `Project`.
use Rattle.std.specs.Prelude.{ℕ, List, [], ◌∷◌, codes}
use Rattle.cdf_model.specs.declared.command.Command.{Command}
use Rattle.cdf_model.specs.declared.command.Command.TheVariants as commands
use Rattle.cdf_model.specs.declared.data_type.DataType.TheVariants.{Char}
use Rattle.cdf_model.specs.declared.kinds.EntryKind.TheVariants as entries
use Rattle.cdf_examples.specs.Attributes.{project, gdr_with}
use Rattle.cdf_examples.specs.Building.{◌⧺◌, magic, new_cdr, cdr, gdr, AdrFields, adr, text_entry, gr_entry, uir}

-- an entry of one letter, and its record of 57 bytes
abbrev pub letter : List ℕ → ℕ → ℕ → List ℕ
letter text num next = gr_entry (record (text_entry text) { num = num; next = next })

abbrev pub with_chain : ℕ → ℕ → ℕ → AdrFields
with_chain head count max = record project { gr_head = head; ngr_entries = count; max_gr_entry = max }

abbrev pub front : ℕ → ℕ → AdrFields → List ℕ
front eof unused a = magic ⧺ cdr new_cdr ⧺ gdr (gdr_with eof unused) ⧺ adr a

-- ---- the entry 1 of three goes

unfoldable pub three_entries_file : List ℕ
three_entries_file = front 899 0 (with_chain 728 3 2) ⧺ letter (codes "a") 0 785 ⧺ letter (codes "b") 1 842 ⧺ letter (codes "c") 2 0

abbrev pub delete_second : Command
delete_second = commands.DelEntry (codes "Project") entries.G 1

-- what is left of it behind the links
abbrev pub rest_of_letter : List ℕ
rest_of_letter = 0 ∷ 0 ∷ 0 ∷ 1 ∷ 0 ∷ 0 ∷ 0 ∷ 1 ∷ 0 ∷ 0 ∷ 0 ∷ 0 ∷ 0 ∷ 0 ∷ 0 ∷ 0 ∷ 0 ∷ 0 ∷ 0 ∷ 0 ∷ 0xff ∷ 0xff ∷ 0xff ∷ 0xff ∷ 0xff ∷ 0xff ∷ 0xff ∷ 0xff ∷ 98 ∷ []

unfoldable pub second_deleted_file : List ℕ
second_deleted_file = front 899 785 (with_chain 728 2 2) ⧺ letter (codes "a") 0 842 ⧺ uir 0 0 rest_of_letter ⧺ letter (codes "c") 2 0

-- the others stand in the other order
unfoldable pub reversed_file : List ℕ
reversed_file = front 899 785 (with_chain 842 2 2) ⧺ letter (codes "a") 0 0 ⧺ uir 0 0 rest_of_letter ⧺ letter (codes "c") 2 728

-- ---- a second entry

unfoldable pub one_entry_file : List ℕ
one_entry_file = front 785 0 (with_chain 728 1 0) ⧺ letter (codes "a") 0 0

abbrev pub put_second : Command
put_second = commands.PutEntry (codes "Project") entries.G 1 Char (codes "b" ∷ [])

unfoldable pub entry_last_file : List ℕ
entry_last_file = front 842 0 (with_chain 728 2 1) ⧺ letter (codes "a") 0 785 ⧺ letter (codes "b") 1 0

-- it stands before the first one
unfoldable pub entry_first_file : List ℕ
entry_first_file = front 842 0 (with_chain 785 2 1) ⧺ letter (codes "a") 0 0 ⧺ letter (codes "b") 1 728

-- ---- the first of two entries gets a longer value, and moves

abbrev pub put_longer : Command
put_longer = commands.PutEntry (codes "Project") entries.G 0 Char (codes "aa" ∷ [])

-- what is left of the old one behind the links
abbrev pub rest_of_first : List ℕ
rest_of_first = 0 ∷ 0 ∷ 0 ∷ 0 ∷ 0 ∷ 0 ∷ 0 ∷ 1 ∷ 0 ∷ 0 ∷ 0 ∷ 0 ∷ 0 ∷ 0 ∷ 0 ∷ 0 ∷ 0 ∷ 0 ∷ 0 ∷ 0 ∷ 0xff ∷ 0xff ∷ 0xff ∷ 0xff ∷ 0xff ∷ 0xff ∷ 0xff ∷ 0xff ∷ 97 ∷ []

unfoldable pub entry_moved_file : List ℕ
entry_moved_file = front 900 728 (with_chain 842 2 1) ⧺ uir 0 0 rest_of_first ⧺ letter (codes "b") 1 0 ⧺ letter (codes "aa") 0 785

-- it stands behind the other one
unfoldable pub moved_last_file : List ℕ
moved_last_file = front 900 728 (with_chain 785 2 1) ⧺ uir 0 0 rest_of_first ⧺ letter (codes "b") 1 842 ⧺ letter (codes "aa") 0 0
