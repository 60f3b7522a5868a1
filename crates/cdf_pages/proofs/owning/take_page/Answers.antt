use Rattle.cdf_pages.proofs.Common.{TakesAtMost, file_of, if◌then◌else◌, is_some, length, min, refl, subst, sym, ◌*◌, ◌-◌, ◌∙◌}
use Rattle.cdf_pages.proofs.Filling.{backed_live}
use Rattle.cdf_pages.proofs.Lent.{kept_page, takes_lent}
use Rattle.cdf_pages.proofs.owning.take_page.Goals as goal

pub returns-in-Some-clause-page : goal.returns-in-Some-clause-page
returns-in-Some-clause-page g c = (c.requires.serves _ (sym c.pop.ensures.value ∙ kept_page c.pop.result c.in-Some.page (sym c.flatten.ensures ∙ c.in-Some.is))).1 c.in-Some.page refl

pub load_page-requires-clause-there : goal.load_page-requires-clause-there
load_page-requires-clause-there g c = backed_live c.args.size c.args.number _ c.live_bytes-live.result c.requires.backed c.live_bytes-live.ensures

pub returns-clause-taken : goal.returns-clause-taken
returns-clause-taken g c =
    let missed = sym c.flatten.ensures ∙ c.in_default.is in
    subst (λ o. TakesAtMost (g.S.Store.taken c.args.store.now) (g.S.Store.taken c.load_page.new.store) (if is_some o then 0 else min 65536 (length (file_of (g.S.Store.disk c.args.store.now)) - c.args.number * 65536))) c.pop.ensures.value
    (takes_lent _ _ c.args.size c.args.number _ c.live_bytes-live.result c.pop.result g.S.Store.lends c.requires.backed c.live_bytes-live.ensures c.load_page.ensures.taken missed
    (λ lent. (c.requires.serves _ (sym c.pop.ensures.value ∙ lent)).0 refl) (g.met.S.Store.untold c.args.store.now))
