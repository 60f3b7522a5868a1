-- What each command does to a data set. Where several reasons hold, the one with the least number is given (own).
use Rattle.std.specs.Prelude.{ℕ, List}
use Rattle.cdf_model.specs.declared.answer.Reply.TheVariants as replies
use Rattle.cdf_model.specs.declared.command.Command.{Command}
use Rattle.cdf_model.specs.declared.command.Command.TheVariants as commands
use Rattle.cdf_model.specs.declared.kinds.Kind.TheVariants as kinds
use Rattle.cdf_model.specs.Answers.{Answer, Go}
use Rattle.cdf_model.specs.AttributeSteps.{attr_step, rename_attr_step, del_attr_step, put_entry_step, get_entry_step, del_entry_step}
use Rattle.cdf_model.specs.DataSet.{DataSet, head_of}
use Rattle.cdf_model.specs.Listing.{items_of}
use Rattle.cdf_model.specs.RecordSteps.{put_rec_step, get_rec_step, del_recs_step, put_val_step, get_val_step}
use Rattle.cdf_model.specs.VariableSteps.{setup_step, var_step, rename_var_step, del_var_step, set_pad_step, set_sparse_step, set_compress_step, set_blocking_step, reindex_step}

-- How a command is answered: by what its step makes of the data set; `dump` by the whole content of it; `report` by what the taps of a name say.
pub data Route : Type 0 where
  ByStep : Answer → Route
  ByContent : Route
  ByTaps : List ℕ → Route

abbrev pub step : DataSet → Command → Route
step d commands.Info = ByStep (Go d (replies.Head (head_of d)))
step d commands.List = ByStep (Go d (replies.Listing (items_of d)))
step d (commands.Attr name scope) = ByStep (attr_step d name scope)
step d (commands.RenameAttr from to) = ByStep (rename_attr_step d from to)
step d (commands.DelAttr name) = ByStep (del_attr_step d name)
step d (commands.PutEntry attr kind num t words) = ByStep (put_entry_step d attr kind num t words)
step d (commands.GetEntry attr kind num) = ByStep (get_entry_step d attr kind num)
step d (commands.DelEntry attr kind num) = ByStep (del_entry_step d attr kind num)
step d (commands.Setup encoding majority dims) = ByStep (setup_step d encoding majority dims)
step d (commands.RVar name t elems vary varys) = ByStep (var_step d kinds.R name t elems vary d.rdims varys)
step d (commands.ZVar name t elems vary dims varys) = ByStep (var_step d kinds.Z name t elems vary dims varys)
step d (commands.RenameVar from to) = ByStep (rename_var_step d from to)
step d (commands.DelVar name) = ByStep (del_var_step d name)
step d (commands.SetPad var words) = ByStep (set_pad_step d var words)
step d (commands.SetSparse var rule) = ByStep (set_sparse_step d var rule)
step d (commands.SetCompress var rle) = ByStep (set_compress_step d var rle)
step d (commands.SetBlocking var n) = ByStep (set_blocking_step d var n)
step d (commands.PutRec var rec words) = ByStep (put_rec_step d var rec words)
step d (commands.GetRec var rec) = ByStep (get_rec_step d var rec)
step d (commands.DelRecs var first last) = ByStep (del_recs_step d var first last)
step d (commands.PutVal var rec index words) = ByStep (put_val_step d var rec index words)
step d (commands.GetVal var rec index) = ByStep (get_val_step d var rec index)
step d (commands.Reindex var) = ByStep (reindex_step d var)
step d (commands.Checksum md5) = ByStep (Go (record d { md5 = md5 }) replies.Plain)
step d commands.Dump = ByContent
step d (commands.Report tap) = ByTaps tap
