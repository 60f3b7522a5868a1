use Rattle.cdf_pages.proofs.Grew.{cut_or_not, kept_or_not}
use Rattle.cdf_pages.proofs.growth.grow.Goals as goal

pub returns-then-file_size-gt0-clause-grown : goal.returns-then-file_size-gt0-clause-grown
returns-then-file_size-gt0-clause-grown g c =
    cut_or_not (g.S.Store.disk c.args.store.now) (g.S.Store.disk c.grow_stored.new.store) (g.S.Store.disk c.set_len.new.self) _ c.args.file_size c.in-Err.ensures.grown c.requires.file_size c.set_len.result c.set_len.ensures.ok c.set_len.ensures.stays

pub returns-then-file_size-gt0-clause-failed : goal.returns-then-file_size-gt0-clause-failed
returns-then-file_size-gt0-clause-failed g c =
    kept_or_not (g.S.Store.disk c.args.store.now) (g.S.Store.disk c.grow_stored.new.store) (g.S.Store.disk c.set_len.new.self) _ c.args.file_size c.in-Err.ensures.grown c.requires.file_size c.set_len.result c.is_ok-kept.result c.is_ok-kept.ensures.value c.set_len.ensures.ok c.set_len.ensures.stays
