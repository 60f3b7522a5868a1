use Rattle.cdf_attrs.proofs.Common.{All, Contains, KnownEntries, List, ap, cast_signed, cast_unsigned, inr, lower_writes, map, max_field, on_ok_weaker, signed_limit, subst, with_field, with_writes, write_of, ℕ, ◌-◌, ◌∙◌, ◌≤◌}
use Rattle.std.proofs.Common.{w32}
use Rattle.cdf_attrs.proofs.GreatestNumber.{each_of, is_member}
use Rattle.cdf_attrs.proofs.DroppingSteps.{lies_after, lowered_greatest}
use Rattle.cdf_attrs.proofs.dropping.lower_entries.Goals as goal

pub set_greatest-requires : goal.set_greatest-requires
set_greatest-requires g c =
    let b = g.A.Area.image c.args.area.now in
    let writes = ap (map write_of) c.deref-2.ensures.value ∙ c.in_ok-lower.ensures in
    lies_after b _ (lower_writes c.args.num c.args.entries.now.numbers c.args.entries.now.places) c.args.adr (max_field c.args.kind) (c.in_ok-set_numbers.ensures.written ∙ ap (with_writes b) writes) c.requires.lie c.requires.field

pub returns-clause-lowers : goal.returns-clause-lowers
returns-clause-lowers g c =
    let b = g.A.Area.image c.args.area.now in
    let es = c.args.entries.now in
    let writes = ap (map write_of) c.deref-2.ensures.value ∙ c.in_ok-lower.ensures in
    let most = c.in-Some.greatest in
    let numbers = c.deref.ensures.value ∙ ap (λ (e : KnownEntries). e.numbers) c.entries.view_is in
    let has = subst (λ (xs : List ℕ). Contains xs most) numbers c.in-Some.ensures.member in
    let all = subst (λ (xs : List ℕ). All (λ n. n ≤ most) xs) numbers c.in-Some.ensures.greatest in
    on_ok_weaker _ (λ w. inr (record {
      some = (most, (is_member es.numbers most has, c.in-Some.ensures.above));
      greatest = cast_signed w32 (most - 1);
      greatest_is = lowered_greatest c.args.num most es.numbers c.in-Some.ensures.above has all (each_of (λ n. n ≤ signed_limit) es.numbers c.requires.small most (is_member es.numbers most has));
      written = w ∙ ap (λ (x : List ℕ). with_field x c.args.adr (max_field c.args.kind) (cast_unsigned w32 (cast_signed w32 (most - 1)))) (c.in_ok-set_numbers.ensures.written ∙ ap (with_writes b) writes);
    })) c.set_greatest.ensures.written
