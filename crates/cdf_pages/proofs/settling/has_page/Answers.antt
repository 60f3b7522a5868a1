use Rattle.cdf_pages.proofs.Common.{List, Shows, arith, file_of, page_at, same_Some, subst, sym, ℕ, ◌∙◌}
use Rattle.cdf_pages.proofs.Settled.{beyond, differs_there, if_ok_map, shows_file}
use Rattle.cdf_pages.proofs.settling.has_page.Goals as goal

pub returns-then-file_size-place-clause-differs : goal.returns-then-file_size-place-clause-differs
returns-then-file_size-place-clause-differs g c e =
    beyond (page_at c.args.sheets.now.changed) (file_of (g.S.Store.disk c.args.store.now)) c.args.sheets.now.length c.args.number c.live_bytes-live.result c.live_bytes-live.ensures c.requires.inside
    (omega (arith, c.requires.file_size, c.if-file_size-place.true))

pub returns-clause-shows : goal.returns-clause-shows
returns-clause-shows g c =
    let P = page_at c.args.sheets.now.changed in
    let F = file_of (g.S.Store.disk c.args.store.now) in
    if_ok_map _ _ c.has_bytes.result (λ b f e page at. subst (λ (l : List ℕ). Shows F c.args.sheets.now.length c.args.number l) (same_Some _ page (c.in-Some.ensures ∙ at))
    (shows_file P F c.in-Some.page.now c.front.result.now c.args.sheets.now.length c.args.number c.live_bytes-live.result c.live_bytes-live.ensures (sym c.in-Some.ensures) c.front.ensures.whole c.front.ensures.bytes c.front.ensures.size (f e).1)) c.has_bytes.ensures.yes

pub returns-clause-differs : goal.returns-clause-differs
returns-clause-differs g c =
    let P = page_at c.args.sheets.now.changed in
    if_ok_map _ _ c.has_bytes.result (λ b f e. differs_there P (file_of (g.S.Store.disk c.args.store.now)) c.in-Some.page.now c.front.result.now c.args.sheets.now.length c.args.number c.live_bytes-live.result c.live_bytes-live.ensures
    (sym c.in-Some.ensures) c.front.ensures.whole c.front.ensures.bytes c.front.ensures.size c.requires.inside (f e)) c.has_bytes.ensures.no
