use Rattle.cdf_pages.proofs.Common.{ap, arith, file_of, inl, is_some, keys_of, length, lookup, nat_eq, sym, true, ◌∙◌, ◌≡◌}
use Rattle.cdf_pages.proofs.Growing.{promoted_old}
use Rattle.cdf_pages.proofs.Filling.{backed_part}
use Rattle.cdf_pages.proofs.Images.{serves_part}
use Rattle.cdf_pages.proofs.Keys.{first_stays, used_there}
use Rattle.cdf_pages.proofs.reading.read_clean.Goals as goal

pub read_first-requires-clause-inside : goal.read_first-requires-clause-inside
read_first-requires-clause-inside g c = backed_part c.args.size c.args.number c.args.place _ (length c.args.out.now) c.requires.backed c.requires.some c.requires.room c.requires.inside

pub read_first-requires-clause-serves : goal.read_first-requires-clause-serves
read_first-requires-clause-serves g c kept is =
    serves_part g.S.Store.lends (file_of (g.S.Store.disk c.args.store.now)) c.args.size _ c.args.number kept c.requires.inside (c.requires.serves c.args.number kept is)

pub read_cached-requires-clause-inside : goal.read_cached-requires-clause-inside
read_cached-requires-clause-inside g c =
    let inside = backed_part c.args.size c.args.number c.args.place _ (length c.args.out.now) c.requires.backed c.requires.some c.requires.room c.requires.inside in
    omega (arith, inside, c.read_first.ensures.size)

pub read_cached-requires-clause-serves : goal.read_cached-requires-clause-serves
read_cached-requires-clause-serves g c kept is =
    serves_part g.S.Store.lends (file_of (g.S.Store.disk c.args.store.now)) c.args.size _ c.args.number kept (omega (arith, c.requires.inside, c.read_first.ensures.size)) (c.requires.serves c.args.number kept is)

pub returns-then-read_first-clause-used : goal.returns-then-read_first-clause-used
returns-then-read_first-clause-used g c =
    let first = c.read_first.ensures.first c.if-read_first.true in
    sym (first_stays c.args.number first.0 c.args.clean.now.entries first.1 (omega (arith, c.len-count.ensures.valid.1, c.requires.cap)))

pub returns-then-read_cached-clause-fewer : goal.returns-then-read_cached-clause-fewer
returns-then-read_cached-clause-fewer g c q kept e = inl (promoted_old q kept c.args.clean.now.entries c.len-count.ensures.valid.0 c.args.number (sym (ap (λ ca. lookup (nat_eq q) ca.entries) c.read_cached.ensures.promoted) ∙ e))

pub returns-then-read_cached-clause-used : goal.returns-then-read_cached-clause-used
returns-then-read_cached-clause-used g c =
    let there : is_some (lookup (nat_eq c.args.number) c.args.clean.now.entries) ≡ true = sym c.read_cached.ensures.there ∙ c.if-read_cached.true in
    ap (λ ca. keys_of ca.entries) c.read_cached.ensures.promoted ∙ used_there c.args.number c.args.clean.now.entries there (omega (arith, c.len-count.ensures.valid.1, c.requires.cap))
