-- What each command does: which records it takes and frees, and what it writes; one page for each family of commands says it.
use Rattle.std.specs.Prelude.{◌≡◌, ℕ, List, []}
use Rattle.cdf_model.specs.declared.command.Command.{Command}
use Rattle.cdf_model.specs.declared.command.Command.TheVariants as commands
use Rattle.cdf_model.specs.declared.kinds.Kind.TheVariants.{R, Z}
use Rattle.cdf_edits.specs.Space.Acts.{Act}
use Rattle.cdf_edits.specs.Commands.Attributes.{MakesAttribute, RenamesAttribute, DeletesAttribute}
use Rattle.cdf_edits.specs.Commands.Cuts.{SetsCompress}
use Rattle.cdf_edits.specs.Commands.Deleting.{Deletes, SetsSparse}
use Rattle.cdf_edits.specs.Index.Blocks.{is_sparse}
use Rattle.cdf_edits.specs.Commands.Entries.{PutsEntry, DeletesEntry}
use Rattle.cdf_edits.specs.Commands.Named.{OfAttribute, OfVariable}
use Rattle.cdf_edits.specs.Commands.Setup.{SetsUp, SetsChecksum}
use Rattle.cdf_edits.specs.Commands.PutSteps.{Puts}
use Rattle.cdf_edits.specs.Commands.Reindex.{MakesIndex}
use Rattle.cdf_edits.specs.Commands.Variables.{MakesVariable, RenamesVariable, SetsPad, DeletesNamed}

-- the bytes of what is put are those of the content
abbrev pub Does : List ℕ → Command → List ℕ → List Act → Type 0
Does b (commands.Attr name scope) now acts = MakesAttribute b now name acts
Does b (commands.RenameAttr from to) now acts = RenamesAttribute b now from to acts
Does b (commands.DelAttr name) now acts = DeletesAttribute b now name acts
Does b (commands.PutEntry attr kind num t words) now acts = OfAttribute b now attr (λ a a'. PutsEntry b now a a' kind num acts)
Does b (commands.DelEntry attr kind num) now acts = OfAttribute b now attr (λ a a'. DeletesEntry b now a a' kind num acts)
Does b (commands.RVar name t elems vary varys) now acts = MakesVariable b now R name vary varys acts
Does b (commands.ZVar name t elems vary dims varys) now acts = MakesVariable b now Z name vary varys acts
Does b (commands.RenameVar from to) now acts = OfVariable b now from (λ found v v'. RenamesVariable now to v' acts)
Does b (commands.DelVar name) now acts = DeletesNamed b now name acts
Does b (commands.SetPad var words) now acts = OfVariable b now var (λ found v v'. SetsPad b now v.vdr v'.vdr acts)
Does b (commands.PutRec var rec words) now acts = OfVariable b now var (λ found v v'. Puts b now found rec v v' acts found.variable.rle)
Does b (commands.PutVal var rec index words) now acts = OfVariable b now var (λ found v v'. Puts b now found rec v v' acts found.variable.rle)
Does b (commands.DelRecs var first last) now acts = OfVariable b now var (λ found v v'. Deletes b now found first last v v' acts (is_sparse found.variable.sparse))
Does b (commands.SetSparse var rule) now acts = OfVariable b now var (λ found v v'. SetsSparse b now found rule v v' acts)
Does b (commands.SetCompress var rle) now acts = OfVariable b now var (λ found v v'. SetsCompress b now rle v v' acts)
Does b (commands.Reindex var) now acts = OfVariable b now var (λ found v v'. MakesIndex b now v v' acts)
Does b (commands.Setup encoding majority dims) now acts = SetsUp b now majority dims acts
Does b (commands.Checksum md5) now acts = SetsChecksum b now md5 acts
Does b c now acts = acts ≡ []
