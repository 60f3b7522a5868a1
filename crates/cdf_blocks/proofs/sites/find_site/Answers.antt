use Rattle.cdf_blocks.proofs.Common.{sym, ◌∙◌}
use Rattle.cdf_blocks.proofs.SpotLeaf.{found_whole, no_leaf}
use Rattle.cdf_index.proofs.FromReached.{starts_at}
use Rattle.std.proofs.lemmas.Result.{IfOk-weaker}
use Rattle.cdf_blocks.proofs.sites.find_site.Goals as goal

pub returns-then-search-eq0-clause-found : goal.returns-then-search-eq0-clause-found
returns-then-search-eq0-clause-found g c =
    let s = c.requires.search in
    let start = starts_at s.index s.start in
    sym start.leaf_is ∙ no_leaf c.args.search.now.rec start.has c.if-search-eq0.true

pub end_counted-requires-clause-index : goal.end_counted-requires-clause-index
end_counted-requires-clause-index g c = let s = c.requires.search in (starts_at s.index s.start).has

pub last_begun-requires-clause-index : goal.last_begun-requires-clause-index
last_begun-requires-clause-index g c = let s = c.requires.search in rw c.in_ok-end.ensures.area.image (starts_at s.index s.start).has

pub returns-clause-found : goal.returns-clause-found
returns-clause-found g c =
    let s = c.requires.search in
    let found = rw c.in_ok-end.ensures.area.image at c.last_begun.ensures.found in
    IfOk-weaker c.last_begun.result _ _ (found_whole (starts_at s.index s.start)) found
