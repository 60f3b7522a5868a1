use Rattle.cdf_script.proofs.Takes.{by_verb, made}
use Rattle.cdf_script.proofs.command.read_command.Goals as goal

pub returns-in-Info : goal.returns-in-Info
returns-in-Info c = by_verb c.in-Info.is (made _ _)

pub returns-in-List : goal.returns-in-List
returns-in-List c = by_verb c.in-List.is (made _ _)

pub returns-in-Dump : goal.returns-in-Dump
returns-in-Dump c = by_verb c.in-Dump.is (made _ _)

pub returns-in-Setup : goal.returns-in-Setup
returns-in-Setup c = by_verb c.in-Setup.is c.read_setup.ensures

pub returns-in-Checksum : goal.returns-in-Checksum
returns-in-Checksum c = by_verb c.in-Checksum.is c.read_checksum.ensures

pub returns-in-Report : goal.returns-in-Report
returns-in-Report c = by_verb c.in-Report.is c.read_report.ensures

pub returns-in-Attr : goal.returns-in-Attr
returns-in-Attr c = by_verb c.in-Attr.is c.read_attr.ensures

pub returns-in-RenameAttr : goal.returns-in-RenameAttr
returns-in-RenameAttr c = by_verb c.in-RenameAttr.is c.read_rename_attr.ensures

pub returns-in-DelAttr : goal.returns-in-DelAttr
returns-in-DelAttr c = by_verb c.in-DelAttr.is c.read_del_attr.ensures

pub returns-in-PutEntry : goal.returns-in-PutEntry
returns-in-PutEntry c = by_verb c.in-PutEntry.is c.read_put_entry.ensures

pub returns-in-GetEntry : goal.returns-in-GetEntry
returns-in-GetEntry c = by_verb c.in-GetEntry.is c.read_get_entry.ensures

pub returns-in-DelEntry : goal.returns-in-DelEntry
returns-in-DelEntry c = by_verb c.in-DelEntry.is c.read_del_entry.ensures

pub returns-in-RVar : goal.returns-in-RVar
returns-in-RVar c = by_verb c.in-RVar.is c.read_rvar.ensures

pub returns-in-ZVar : goal.returns-in-ZVar
returns-in-ZVar c = by_verb c.in-ZVar.is c.read_zvar.ensures

pub returns-in-RenameVar : goal.returns-in-RenameVar
returns-in-RenameVar c = by_verb c.in-RenameVar.is c.read_rename_var.ensures

pub returns-in-DelVar : goal.returns-in-DelVar
returns-in-DelVar c = by_verb c.in-DelVar.is c.read_del_var.ensures

pub returns-in-SetPad : goal.returns-in-SetPad
returns-in-SetPad c = by_verb c.in-SetPad.is c.read_set_pad.ensures

pub returns-in-SetSparse : goal.returns-in-SetSparse
returns-in-SetSparse c = by_verb c.in-SetSparse.is c.read_set_sparse.ensures

pub returns-in-SetCompress : goal.returns-in-SetCompress
returns-in-SetCompress c = by_verb c.in-SetCompress.is c.read_set_compress.ensures

pub returns-in-SetBlocking : goal.returns-in-SetBlocking
returns-in-SetBlocking c = by_verb c.in-SetBlocking.is c.read_set_blocking.ensures

pub returns-in-PutRec : goal.returns-in-PutRec
returns-in-PutRec c = by_verb c.in-PutRec.is c.read_put_rec.ensures

pub returns-in-GetRec : goal.returns-in-GetRec
returns-in-GetRec c = by_verb c.in-GetRec.is c.read_get_rec.ensures

pub returns-in-DelRecs : goal.returns-in-DelRecs
returns-in-DelRecs c = by_verb c.in-DelRecs.is c.read_del_recs.ensures

pub returns-in-PutVal : goal.returns-in-PutVal
returns-in-PutVal c = by_verb c.in-PutVal.is c.read_put_val.ensures

pub returns-in-GetVal : goal.returns-in-GetVal
returns-in-GetVal c = by_verb c.in-GetVal.is c.read_get_val.ensures

pub returns-in-Reindex : goal.returns-in-Reindex
returns-in-Reindex c = by_verb c.in-Reindex.is c.read_reindex.ensures
