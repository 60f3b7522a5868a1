use Rattle.cdf_convert.proofs.WholeCopy.{copy_good, copy_means, copy_read, copy_written, if_passed}
use Rattle.cdf_convert.proofs.copying.write_compact.Goals as goal

pub returns-clause-written : goal.returns-clause-written
returns-clause-written g c = copy_written g.B.Area.image g.B.Area.frame (g.P.Parts.told c.args.parts.now) c.requires.fine c.put_all-done.new.writer c.into_area.result c.into_area.ensures.area (c.into_area.ensures.whole (g.P.Parts.told c.args.parts.now) c.requires.fine) c.put_all-done.result c.put_all-done.ensures.took

pub returns-clause-content : goal.returns-clause-content
returns-clause-content g c = copy_means g.B.Area.image g.B.Area.frame (g.P.Parts.told c.args.parts.now) c.requires.fine c.put_all-done.new.writer c.into_area.result c.into_area.ensures.area (c.into_area.ensures.whole (g.P.Parts.told c.args.parts.now) c.requires.fine) c.put_all-done.result c.put_all-done.ensures.took

pub returns-clause-good : goal.returns-clause-good
returns-clause-good g c = copy_good g.B.Area.image g.B.Area.frame (g.P.Parts.told c.args.parts.now) c.requires.fine c.put_all-done.new.writer c.into_area.result c.into_area.ensures.area (c.into_area.ensures.whole (g.P.Parts.told c.args.parts.now) c.requires.fine) c.put_all-done.result c.put_all-done.ensures.took

pub returns-clause-read : goal.returns-clause-read
returns-clause-read g c = copy_read g.B.Area.image g.B.Area.frame (g.P.Parts.told c.args.parts.now) c.requires.fine c.put_all-done.new.writer c.into_area.result c.into_area.ensures.area (c.into_area.ensures.whole (g.P.Parts.told c.args.parts.now) c.requires.fine) c.put_all-done.result c.put_all-done.ensures.took

pub returns-clause-too_large : goal.returns-clause-too_large
returns-clause-too_large g c =
    let d = g.P.Parts.told c.args.parts.now in
    if_passed (g.B.Area.frame c.args.area).limit d c.put_all-done.result (rw c.new-writer.ensures.area at c.put_all-done.ensures.named)
