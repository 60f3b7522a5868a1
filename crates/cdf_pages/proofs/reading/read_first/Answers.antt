use Rattle.cdf_pages.proofs.Common.{Some, ap, arith, option_map, slice_get, sym, ◌∙◌, ◌≡◌}
use Rattle.cdf_pages.proofs.Keys.{first_there}
use Rattle.cdf_pages.proofs.reading.read_first.Goals as goal

pub read_kept-requires-clause-serves : goal.read_kept-requires-clause-serves
read_kept-requires-clause-serves g c =
    let kept = c.in-Some.kept.now in
    let first : slice_get c.args.clean.now.entries 0 ≡ Some (c.in-Some.last.now, c.in-Some.kept.now) = sym c.first.ensures ∙ ap (option_map (λ p. (p.0.now, p.1.now))) c.in-Some.is in
    let same : c.in-Some.last.now ≡ c.args.number = omega arith in
    c.requires.serves kept (first_there c.args.number kept c.args.clean.now.entries (first ∙ ap (λ n. Some (n, c.in-Some.kept.now)) same))
