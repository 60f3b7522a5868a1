-- What each command may change of the records that an image has; one page for each family of commands says it.
use Rattle.std.specs.Prelude.{ℕ, List}
use Rattle.cdf_model.specs.declared.command.Command.{Command}
use Rattle.cdf_model.specs.declared.command.Command.TheVariants as commands
use Rattle.cdf_model.specs.declared.kinds.Kind.TheVariants.{R, Z}
use Rattle.cdf_model.specs.DataSet.{DataSet}
use Rattle.cdf_edits.specs.Commands.Allowances.{Allowances, stays_all, of_named}
use Rattle.cdf_edits.specs.Commands.Attributes.{attr_changes, rename_attr_changes, del_attr_changes}
use Rattle.cdf_edits.specs.Commands.Cuts.{del_recs_changes, set_sparse_changes, set_compress_changes}
use Rattle.cdf_edits.specs.Commands.Entries.{entry_changes}
use Rattle.cdf_edits.specs.Commands.Puts.{put_changes}
use Rattle.cdf_edits.specs.Commands.Reindex.{reindex_changes}
use Rattle.cdf_edits.specs.Commands.Setup.{setup_changes, checksum_changes}
use Rattle.cdf_edits.specs.Commands.Variables.{variable_changes, rename_var_changes, del_var_changes, set_pad_changes, set_blocking_changes}
use Rattle.cdf_format.specs.Shape.{Shape}

abbrev pub allowances : List ℕ → DataSet → Shape → Command → Allowances
allowances b d s (commands.Attr name scope) = attr_changes b
allowances b d s (commands.RenameAttr from to) = rename_attr_changes b d from
allowances b d s (commands.DelAttr name) = del_attr_changes b d name
allowances b d s (commands.PutEntry attr kind num t words) = entry_changes b d attr kind num
allowances b d s (commands.DelEntry attr kind num) = entry_changes b d attr kind num
allowances b d s (commands.RVar name t elems vary varys) = variable_changes b R
allowances b d s (commands.ZVar name t elems vary dims varys) = variable_changes b Z
allowances b d s (commands.RenameVar from to) = of_named d from (λ found. rename_var_changes b s found)
allowances b d s (commands.DelVar name) = of_named d name (λ found. del_var_changes b d s found)
allowances b d s (commands.SetPad var words) = of_named d var (λ found. set_pad_changes b s found)
allowances b d s (commands.SetBlocking var n) = of_named d var (λ found. set_blocking_changes b s found)
allowances b d s (commands.PutRec var rec words) = of_named d var (λ found. put_changes b s found rec)
allowances b d s (commands.PutVal var rec index words) = of_named d var (λ found. put_changes b s found rec)
allowances b d s (commands.DelRecs var first last) = of_named d var (λ found. del_recs_changes b s found first last)
allowances b d s (commands.SetSparse var rule) = of_named d var (λ found. set_sparse_changes b s found)
allowances b d s (commands.SetCompress var rle) = of_named d var (λ found. set_compress_changes b s found rle)
allowances b d s (commands.Reindex var) = of_named d var (λ found. reindex_changes b s found)
allowances b d s (commands.Setup encoding majority dims) = setup_changes
allowances b d s (commands.Checksum md5) = checksum_changes
allowances b d s c = stays_all
