-- What `get-entry` shows (own).
use Rattle.cdf_model.specs.declared.answer.Reply.{Reply}
use Rattle.cdf_model.specs.declared.answer.Reply.TheVariants as replies
use Rattle.cdf_model.specs.DataSet.{Entry}
use Rattle.cdf_attrs.specs.declared.getting.EntryValue.{EntryValue}

-- the type of an entry, its number of elements and its value
abbrev pub entry_reply : Entry → Reply
entry_reply entry = replies.Entry entry.type entry.elems entry.bytes

-- the entry that has a value
abbrev pub meant : EntryValue → Entry
meant value = record { type = value.t; elems = value.elems; bytes = value.bytes }
