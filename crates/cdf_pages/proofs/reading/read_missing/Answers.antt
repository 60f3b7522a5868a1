use Rattle.cdf_pages.proofs.Common.{List, None, Serves, Some, ap, arith, drop, false, file_of, inl, inr, is_some, keys_of, length, list_any, lookup, nat_eq, put_entries, refl, subst, sym, take, ℕ, ◌∙◌, ◌≡◌}
use Rattle.cdf_pages.proofs.Keys.{is_there, used_missing}
use Rattle.cdf_pages.proofs.Images.{shown_part, load_shows}
use Rattle.cdf_pages.proofs.Growing.{put_old}
use Rattle.cdf_pages.proofs.Costs.{takes_same}
use Rattle.cdf_pages.proofs.Filling.{backed_live, backed_part, takes_live}
use Rattle.cdf_pages.proofs.Lent.{serves_lent, serves_read}
use Rattle.cdf_pages.proofs.reading.read_missing.Goals as goal

pub load_page-requires-clause-there : goal.load_page-requires-clause-there
load_page-requires-clause-there g c = backed_live c.args.size c.args.number _ c.live_bytes-live.result c.requires.backed c.live_bytes-live.ensures

pub read_lent-requires : goal.read_lent-requires
read_lent-requires g c =
    let inside = backed_part c.args.size c.args.number c.args.place _ (length c.args.out.now) c.requires.backed c.requires.some c.requires.room c.requires.inside in
    record { inside = inside; page = omega (arith, c.requires.room) }

pub returns-in_err-put-clause-taken : goal.returns-in_err-put-clause-taken
returns-in_err-put-clause-taken g c = takes_same _ _ _ refl

pub returns-then-read_lent-clause-taken : goal.returns-then-read_lent-clause-taken
returns-then-read_lent-clause-taken g c = takes_same _ _ _ refl

pub returns-then-read_lent-clause-used : goal.returns-then-read_lent-clause-used
returns-then-read_lent-clause-used g c =
    ap (λ ca. keys_of ca.entries) c.in_ok-put.ensures.entries ∙ used_missing c.args.number c.args.clean.now None c.requires.cap c.requires.missing

pub returns-then-read_lent-clause-fewer : goal.returns-then-read_lent-clause-fewer
returns-then-read_lent-clause-fewer g c q kept e =
    let F = file_of (g.S.Store.disk c.args.store.now) in
    elim (put_old q kept c.args.clean.now c.args.number None c.len-count.ensures.valid.0 (sym (ap (λ ca. lookup (nat_eq q) ca.entries) c.in_ok-put.ensures.entries) ∙ e)) [
      | inl old ↦ inl old
      | inr new ↦ inr (new.0, subst (Serves g.S.Store.lends F c.args.size c.args.number) (sym new.1) (serves_lent g.S.Store.lends F c.args.size c.args.number (sym c.read_lent.ensures.lent ∙ c.if-read_lent.true)))
    ]

missing : {X : Type 0} (k : ℕ) (es : List (ℕ × X)) → lookup (nat_eq k) es ≡ None → list_any (nat_eq k) (keys_of es) ≡ false
missing k es none = is_there k es ∙ ap is_some none

pub returns-in_err-page-clause-taken : goal.returns-in_err-page-clause-taken
returns-in_err-page-clause-taken g c =
    let gone : list_any (nat_eq c.args.number) (keys_of c.args.clean.now.entries) ≡ false = missing c.args.number c.args.clean.now.entries c.requires.missing in
    rw gone (takes_live _ _ c.args.size c.args.number _ c.live_bytes-live.result c.requires.backed c.live_bytes-live.ensures c.load_page.ensures.taken)

pub returns-in_err-put-2-clause-taken : goal.returns-in_err-put-2-clause-taken
returns-in_err-put-2-clause-taken g c =
    let gone : list_any (nat_eq c.args.number) (keys_of c.args.clean.now.entries) ≡ false = missing c.args.number c.args.clean.now.entries c.requires.missing in
    rw gone (takes_live _ _ c.args.size c.args.number _ c.live_bytes-live.result c.requires.backed c.live_bytes-live.ensures c.load_page.ensures.taken)

pub returns-clause-taken : goal.returns-clause-taken
returns-clause-taken g c =
    let gone : list_any (nat_eq c.args.number) (keys_of c.args.clean.now.entries) ≡ false = missing c.args.number c.args.clean.now.entries c.requires.missing in
    rw gone (takes_live _ _ c.args.size c.args.number _ c.live_bytes-live.result c.requires.backed c.live_bytes-live.ensures c.load_page.ensures.taken)

pub returns-clause-used : goal.returns-clause-used
returns-clause-used g c =
    let none : lookup (nat_eq c.args.number) c.args.clean.now.entries ≡ None = c.requires.missing in
    ap (λ ca. keys_of ca.entries) c.in_ok-put-2.ensures.entries ∙ ap (λ ca. keys_of (put_entries nat_eq ca c.args.number (Some c.in_ok-page.page))) c.load_page.ensures.clean ∙ used_missing c.args.number c.args.clean.now (Some c.in_ok-page.page) c.requires.cap none

pub returns-clause-bytes : goal.returns-clause-bytes
returns-clause-bytes g c =
    let F = file_of (g.S.Store.disk c.args.store.now) in
    let shows = load_shows F c.in_ok-page.page c.args.number c.args.size c.live_bytes-live.result c.live_bytes-live.ensures c.read.ensures.whole c.in_ok-page.ensures.bytes in
    c.read.ensures.bytes ∙ ap (λ n. take n (drop c.args.place c.in_ok-page.page)) c.read_lent.ensures.size ∙ shown_part F c.in_ok-page.page c.args.number c.args.place (length c.args.out.now) c.args.size shows c.read.ensures.whole c.requires.room c.requires.inside c.requires.backed

pub returns-clause-fewer : goal.returns-clause-fewer
returns-clause-fewer g c q p e =
    let F = file_of (g.S.Store.disk c.args.store.now) in
    let shows = load_shows F c.in_ok-page.page c.args.number c.args.size c.live_bytes-live.result c.live_bytes-live.ensures c.read.ensures.whole c.in_ok-page.ensures.bytes in
    elim (put_old q p c.args.clean.now c.args.number (Some c.in_ok-page.page) c.len-count.ensures.valid.0 (sym (ap (λ ca. lookup (nat_eq q) ca.entries) c.in_ok-put-2.ensures.entries ∙ ap (λ ca. lookup (nat_eq q) (put_entries nat_eq ca c.args.number (Some c.in_ok-page.page))) c.load_page.ensures.clean) ∙ e)) [
      | inl old ↦ inl old
      | inr new ↦ inr (new.0, subst (Serves g.S.Store.lends F c.args.size c.args.number) (sym new.1) (serves_read g.S.Store.lends F c.args.size c.args.number c.in_ok-page.page shows))
    ]
