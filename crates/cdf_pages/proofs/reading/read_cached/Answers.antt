use Rattle.cdf_pages.proofs.Common.{List, Option, Serves, Some, ap, file_of, length, lru_cache, nat_eq, none-some, option_map, promoted, promoted_absent, promoted_put, slice_get, subst, sym, ◌*◌, ◌+◌, ◌∙◌, ℕ, ◌≡◌}
use Rattle.cdf_pages.proofs.Keys.{front_promoted, front_value}
use Rattle.cdf_pages.proofs.reading.read_cached.Goals as goal

pub read_kept-requires-clause-serves : goal.read_kept-requires-clause-serves
read_kept-requires-clause-serves g c =
    let it = promoted_put nat_eq c.args.clean.now c.args.number (sym c.promote.ensures.value ∙ c.if-not-promote.false) in
    let first : Some (c.in-Some.field-0-0.now, c.in-Some.kept.now) ≡ slice_get (promoted (nat_eq c.args.number) c.args.clean.now.entries) 0 = ap (option_map (λ p. (p.0.now, p.1.now))) (sym c.in-Some.is) ∙ c.first.ensures ∙ ap (λ ca. slice_get ca.entries 0) c.promote.ensures.entries in
    let same : c.in-Some.kept.now ≡ it.0 = front_value c.args.number c.args.clean.now.entries it.0 (c.in-Some.field-0-0.now, c.in-Some.kept.now) first it.1 in
    subst (λ (kept : Option (List ℕ)). Serves g.S.Store.lends (file_of (g.S.Store.disk c.args.store.now)) (c.args.number * 65536 + c.args.place + length c.args.out.now) c.args.number kept) (sym same) (c.requires.serves it.0 it.1)

pub returns-in_default-clause-bytes : goal.returns-in_default-clause-bytes
returns-in_default-clause-bytes g c sure =
    let it = promoted_put nat_eq c.args.clean.now c.args.number (sym c.promote.ensures.value ∙ c.if-not-promote.false) in
    absurd (none-some (c.args.number, it.0) (ap (option_map (λ p. (p.0.now, p.1.now))) (sym c.in_default.is) ∙ c.first.ensures ∙ ap (λ ca. slice_get ca.entries 0) c.promote.ensures.entries ∙ front_promoted c.args.number c.args.clean.now.entries it.0 it.1))

pub returns-then-not-promote-clause-absent : goal.returns-then-not-promote-clause-absent
returns-then-not-promote-clause-absent g c sure =
    c.promote.ensures.entries ∙ ap (λ es. lru_cache es c.args.clean.now.cap) (promoted_absent nat_eq c.args.clean.now c.args.number (sym c.promote.ensures.value ∙ c.if-not-promote.true)).1
