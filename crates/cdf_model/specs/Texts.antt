-- The texts that a run writes (own).
use Rattle.std.specs.Prelude.{ℕ, List, [], ◌∷◌, ◌++◌, Bool, true, false, codes}
use Rattle.std.specs.List.{flat_map}
use Rattle.std.specs.Fmt.{decimal, signed_decimal}
use Rattle.cdf_model.specs.declared.head.Majority.{Majority}
use Rattle.cdf_model.specs.declared.head.Majority.TheVariants.{Row, Column}
use Rattle.cdf_model.specs.declared.head.Head.{Head}
use Rattle.cdf_model.specs.declared.answer.Reply.{Reply}
use Rattle.cdf_model.specs.declared.answer.Reply.TheVariants as replies
use Rattle.cdf_model.specs.declared.item.Item.{Item}
use Rattle.cdf_model.specs.declared.item.Item.TheVariants.{Attr, Var}
use Rattle.cdf_model.specs.declared.kinds.Kind.{Kind}
use Rattle.cdf_model.specs.declared.kinds.Kind.TheVariants.{R, Z}
use Rattle.cdf_model.specs.declared.kinds.Scope.{Scope}
use Rattle.cdf_model.specs.declared.kinds.Scope.TheVariants.{Global, Variable, GlobalAssumed, VariableAssumed}
use Rattle.cdf_model.specs.declared.answer.LineError.{LineError}
use Rattle.cdf_model.specs.declared.answer.LineError.TheVariants.{TooLong, BadQuote, BadHex, UnknownWord, MissingWord, ExtraWord, BadNumber}
use Rattle.cdf_model.specs.declared.answer.Reason.{Reason}
use Rattle.cdf_model.specs.declared.answer.Reason.TheVariants.{BadLine, NoSuchAttr, NoSuchVar, NoSuchTap, BadName, NameTaken, WrongScope, NoSuchEntry, NumberOutOfRange, BadShape, WrongCount, BadValue, IndexOutOfRange, RecordOutOfRange, InUse, TooLarge}
use Rattle.cdf_model.specs.declared.answer.Outcome.{Outcome}
use Rattle.cdf_model.specs.declared.answer.Outcome.TheVariants.{Done, Refused}
use Rattle.cdf_model.specs.declared.space.Space.{Space}
use Rattle.cdf_model.specs.Types.{name_of}
use Rattle.cdf_model.specs.Values.{quoted, values_text}

-- one text and then another; a long text groups to the right
infixr 10 ◌⧺◌
abbrev pub ◌⧺◌ : List ℕ → List ℕ → List ℕ
first ⧺ second = first ++ second

abbrev pub newline : List ℕ
newline = 10 ∷ []

-- `-` for no dimension, else the sizes joined by commas
abbrev pub list_text : List ℕ → List ℕ
list_text [] = codes "-"
list_text (n ∷ ns) = decimal n ⧺ flat_map (λ m. 44 ∷ decimal m) ns

abbrev pub majority_text : Majority → List ℕ
majority_text Row = codes "row"
majority_text Column = codes "column"

abbrev pub checksum_text : Bool → List ℕ
checksum_text true = codes "md5"
checksum_text false = codes "none"

abbrev pub version_text : Head → List ℕ
version_text h = codes "version " ⧺ signed_decimal h.version ⧺ codes "." ⧺ signed_decimal h.release ⧺ codes "." ⧺ signed_decimal h.increment

abbrev pub form_text : Head → List ℕ
form_text h = codes " encoding " ⧺ decimal h.encoding ⧺ codes " majority " ⧺ majority_text h.majority ⧺ codes " checksum " ⧺ checksum_text h.md5

abbrev pub counts_text : Head → List ℕ
counts_text h = codes " rdims " ⧺ list_text h.rdims ⧺ codes " attributes " ⧺ decimal h.attrs ⧺ codes " rvars " ⧺ decimal h.rvars ⧺ codes " zvars " ⧺ decimal h.zvars

abbrev pub head_text : Head → List ℕ
head_text h = version_text h ⧺ form_text h ⧺ counts_text h

abbrev pub fault_text : LineError → List ℕ
fault_text (TooLong place) = codes "TooLong " ⧺ decimal place
fault_text (BadQuote place) = codes "BadQuote " ⧺ decimal place
fault_text (BadHex place) = codes "BadHex " ⧺ decimal place
fault_text (UnknownWord place) = codes "UnknownWord " ⧺ decimal place
fault_text (MissingWord place) = codes "MissingWord " ⧺ decimal place
fault_text (ExtraWord place) = codes "ExtraWord " ⧺ decimal place
fault_text (BadNumber place) = codes "BadNumber " ⧺ decimal place

-- a reason by its number and name
abbrev pub reason_text : Reason → List ℕ
reason_text (BadLine fault) = codes "1 BadLine " ⧺ fault_text fault
reason_text NoSuchAttr = codes "2 NoSuchAttr"
reason_text NoSuchVar = codes "3 NoSuchVar"
reason_text NoSuchTap = codes "4 NoSuchTap"
reason_text BadName = codes "5 BadName"
reason_text NameTaken = codes "6 NameTaken"
reason_text WrongScope = codes "7 WrongScope"
reason_text NoSuchEntry = codes "8 NoSuchEntry"
reason_text NumberOutOfRange = codes "9 NumberOutOfRange"
reason_text BadShape = codes "10 BadShape"
reason_text (WrongCount found wanted) = codes "11 WrongCount " ⧺ decimal found ⧺ codes " " ⧺ decimal wanted
reason_text (BadValue place) = codes "12 BadValue " ⧺ decimal place
reason_text IndexOutOfRange = codes "13 IndexOutOfRange"
reason_text RecordOutOfRange = codes "14 RecordOutOfRange"
reason_text InUse = codes "15 InUse"
reason_text TooLarge = codes "16 TooLarge"

abbrev pub scope_text : Scope → List ℕ
scope_text Global = codes "global"
scope_text Variable = codes "variable"
scope_text GlobalAssumed = codes "global-assumed"
scope_text VariableAssumed = codes "variable-assumed"

abbrev pub kind_text : Kind → List ℕ
kind_text R = codes "rvar"
kind_text Z = codes "zvar"

-- an attribute or a variable by its number
abbrev pub item_text : Item → List ℕ
item_text (Attr num name scope) = codes "attribute " ⧺ decimal num ⧺ codes " " ⧺ quoted name ⧺ codes " " ⧺ scope_text scope ⧺ newline
item_text (Var kind num name) = kind_text kind ⧺ codes " " ⧺ decimal num ⧺ codes " " ⧺ quoted name ⧺ newline

abbrev pub end_text : ℕ → List ℕ
end_text n = decimal n ⧺ codes " end" ⧺ newline

-- a text of several lines that answers a line
abbrev pub framed : ℕ → List ℕ → List ℕ
framed n text = decimal n ⧺ codes " ok" ⧺ newline ⧺ text ⧺ end_text n

-- the reply of a command that is done
abbrev pub done_text : ℕ → Reply → List ℕ
done_text n replies.Plain = decimal n ⧺ codes " ok" ⧺ newline
done_text n (replies.Head head) = decimal n ⧺ codes " ok " ⧺ head_text head ⧺ newline
done_text n (replies.Listing items) = framed n (flat_map item_text items)
done_text n (replies.Entry t elems bytes) = decimal n ⧺ codes " ok " ⧺ name_of t ⧺ codes " " ⧺ decimal elems ⧺ codes " " ⧺ values_text t elems bytes ⧺ newline
done_text n (replies.Values t elems bytes) = decimal n ⧺ codes " ok " ⧺ values_text t elems bytes ⧺ newline

-- the reply to the line of a number
abbrev pub reply_text : ℕ → Outcome → List ℕ
reply_text n (Done reply) = done_text n reply
reply_text n (Refused reason) = decimal n ⧺ codes " refused " ⧺ reason_text reason ⧺ newline

abbrev pub usage_text : List ℕ
usage_text = codes "usage: cdfedit [--new] [--check] [--no-save] [--space] [--make N] FILE" ⧺ newline

abbrev pub no_file_text : List ℕ
no_file_text = codes "no file" ⧺ newline

-- the rule that a file breaks, and where
abbrev pub rejected_text : ℕ → ℕ → ℕ → List ℕ
rejected_text phase rule place = codes "rejected " ⧺ decimal phase ⧺ codes " " ⧺ decimal rule ⧺ codes " " ⧺ decimal place ⧺ newline

-- what the records of an image take
abbrev pub space_text : Space → List ℕ
space_text s =
    codes "space eof " ⧺ decimal s.eof ⧺ codes " used " ⧺ decimal s.used
    ⧺ codes " listed " ⧺ decimal s.listed ⧺ codes " " ⧺ decimal s.listed_bytes
    ⧺ codes " unlisted " ⧺ decimal s.unlisted ⧺ codes " " ⧺ decimal s.unlisted_bytes ⧺ newline
