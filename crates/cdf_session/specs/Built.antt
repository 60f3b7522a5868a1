-- Which commands there are by now, and which of them come to an outcome (own).
use Rattle.std.specs.Prelude.{Bool, true, false}
use Rattle.cdf_model.specs.declared.command.Command.{Command}
use Rattle.cdf_model.specs.declared.command.Command.TheVariants as commands

-- the commands that there are by now
abbrev pub built : Command → Bool
built commands.Info = true
built commands.List = true
built (commands.Checksum md5) = true
built (commands.Attr name scope) = true
built (commands.RenameAttr from to) = true
built (commands.DelAttr name) = true
built (commands.GetEntry attr kind num) = true
built (commands.DelEntry attr kind num) = true
built (commands.PutEntry attr kind num t words) = true
built (commands.Setup encoding majority dims) = true
built (commands.RVar name t elems vary varys) = true
built (commands.ZVar name t elems vary dims varys) = true
built (commands.RenameVar from to) = true
built (commands.DelVar name) = true
built (commands.SetPad var words) = true
built (commands.SetSparse var rule) = true
built (commands.SetBlocking var n) = true
built (commands.Reindex var) = true
built (commands.DelRecs var first last) = true
built (commands.PutRec var rec words) = true
built (commands.GetRec var rec) = true
built (commands.PutVal var rec index words) = true
built (commands.GetVal var rec index) = true
built commands.Dump = true
built (commands.Report tap) = true
built c = false

-- those that come to an outcome: a dump and a report write the events, or what taps say of them
abbrev pub is_applied : Command → Bool
is_applied commands.Dump = false
is_applied (commands.Report tap) = false
is_applied c = true
