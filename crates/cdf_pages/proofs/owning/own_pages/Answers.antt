use Rattle.cdf_pages.proofs.Common.{List, Option, Owned, ap, arith, cases_lt, cost_of_writing, file_of, get, if◌then◌else◌, inl, inr, is_in, is_some, keys_of, length, list_any, lookup, min, nat_cmp, nat_eq, page_at, page_cost, refl, removed, subst, sym, ℕ, ◌*◌, ◌+◌, ◌-◌, ◌∙◌, ◌≡◌, ◌≤◌}
use Rattle.cdf_pages.proofs.Costs.{takes_same, takes_then, write_cost_grows, write_cost_next}
use Rattle.cdf_pages.proofs.Covered.{covers_less}
use Rattle.cdf_pages.proofs.Filling.{takes_less}
use Rattle.cdf_pages.proofs.Keys.{is_there, lookup-removed}
use Rattle.cdf_pages.proofs.Growing.{serves_file, grown_refl, removed_next, owned_more, some_not_none, grown_next, others_next, some_removed, out_next}
use Rattle.cdf_pages.proofs.owning.own_pages.Goals as goal

pub loop-number-init : goal.loop-number-init
unfolding removed
loop-number-init g c =
    let none : c.args.from - c.args.from ≡ 0 = omega arith in
    record {
      low = omega arith;
      high = λ lt. absurd (omega (arith, lt));
      grown = grown_refl _ _ _ _ _;
      owned = record { there = λ q lo hi. absurd (omega (arith, lo, hi)); ready = λ q lo hi. absurd (omega (arith, lo, hi)) };
      others = λ q o. refl;
      gone = rw none refl;
      out = λ q lo hi. absurd (omega (arith, lo, hi));
      fewer = λ q p e. e;
      apart = λ q p e. refl;
      cap = refl;
      length = refl;
      marked = refl;
      disk = refl;
      taken = takes_same _ _ _ refl;
      read = refl;
      write = refl;
      unstored = refl;
    }

pub returns-in_err-own_page-clause-clean : goal.returns-in_err-own_page-clause-clean
returns-in_err-own_page-clause-clean g c = some_removed c.args.from c.loop-number.number c.args.upto _ _ _ c.loop-number.invariant.low c.loop-number-test.true c.loop-number.invariant.gone c.own_page.ensures.clean

-- what one page more costs, whether or not it stands in memory
cost_step : {X : Type 0} (p p' : ℕ → Option (List ℕ)) (es es' : List (ℕ × X)) (long long' from number : ℕ) → from ≤ number → p' number ≡ p number → es' ≡ removed from (number - from) es → long' ≡ long
    → cost_of_writing (is_in p) (keys_of es) long from (number - from) + (if is_some (p' number) then 0 else (if is_some (lookup (nat_eq number) es') then 0 else min 65536 (long' - number * 65536)))
    ≡ cost_of_writing (is_in p) (keys_of es) long from (number + 1 - from)
cost_step {X = X} p p' es es' long long' from number low same gone size =
    let at : from + (number - from) ≡ number = omega arith in
    let there : lookup (nat_eq number) es' ≡ lookup (nat_eq number) es = ap (lookup (nat_eq number)) gone ∙ lookup-removed number from (number - from) es (omega arith) in
    let among : is_some (lookup (nat_eq number) es') ≡ list_any (nat_eq number) (keys_of es) = ap is_some there ∙ sym (is_there number es) in
    (λ i. cost_of_writing (is_in p) (keys_of es) long from (number - from) + (if is_some (same i) then 0 else (if among i then 0 else min 65536 (size i - number * 65536))))
    ∙ ap (λ m. cost_of_writing (is_in p) (keys_of es) long from (number - from) + page_cost (is_in p) (keys_of es) long m) (sym at)
    ∙ sym (write_cost_next (is_in p) (keys_of es) long from (number - from)) ∙ ap (cost_of_writing (is_in p) (keys_of es) long from) (omega arith)

pub returns-in_err-own_page-clause-taken : goal.returns-in_err-own_page-clause-taken
returns-in_err-own_page-clause-taken g c =
    let inv = c.loop-number.invariant in
    let P = page_at c.args.sheets.now.changed in
    let step = cost_step P (page_at c.loop-number.sheets.changed) c.args.clean.now.entries c.loop-number.clean.entries _ _ c.args.from c.loop-number.number inv.low (inv.others c.loop-number.number (inr (omega arith))) inv.gone (ap (λ d. length (file_of d)) inv.disk) in
    let all = write_cost_grows (is_in P) (keys_of c.args.clean.now.entries) (length (file_of (g.S.Store.disk c.args.store.now))) c.args.from (c.loop-number.number + 1 - c.args.from) (c.args.upto - c.args.from) (omega (arith, c.loop-number-test.true)) in
    takes_less _ _ _ _ (takes_then _ _ _ _ _ inv.taken c.own_page.ensures.taken) (omega (arith, step, all))

pub returns-clause-taken : goal.returns-clause-taken
returns-clause-taken g c =
    let inv = c.loop-number.invariant in
    let at_most : c.loop-number.number - c.args.from ≤ c.args.upto - c.args.from = elim (cases_lt c.args.from c.loop-number.number) [
      | inl some ↦ (let high = inv.high some in omega (arith, high))
      | inr none ↦ omega (arith, none)
    ] in
    let all = write_cost_grows (is_in (page_at c.args.sheets.now.changed)) (keys_of c.args.clean.now.entries) (length (file_of (g.S.Store.disk c.args.store.now))) c.args.from (c.loop-number.number - c.args.from) (c.args.upto - c.args.from) at_most in
    takes_less _ _ _ _ inv.taken all

pub loop-number-preserved : goal.loop-number-preserved
loop-number-preserved g c =
    let inv = c.loop-number.invariant in
    let step = cost_step (page_at c.args.sheets.now.changed) (page_at c.loop-number.sheets.changed) c.args.clean.now.entries c.loop-number.clean.entries _ _ c.args.from c.loop-number.number inv.low (inv.others c.loop-number.number (inr (omega arith))) inv.gone (ap (λ d. length (file_of d)) inv.disk) in
    record {
      taken = takes_less _ _ _ _ (takes_then _ _ _ _ _ inv.taken c.in_ok-own_page.ensures.taken) (omega (arith, step));
      low = omega (arith, inv.low);
      high = λ lt. omega (arith, c.loop-number-test.true);
      grown = grown_next _ _ _ _ _ _ _ _ _ _ _ _ (ap (λ d. file_of d) inv.disk) inv.length inv.marked inv.grown c.own_page.ensures.grown;
      owned = subst (λ m. Owned m (page_at c.own_page.new.sheets.changed) (get nat_cmp c.own_page.new.sheets.kept) c.args.place c.args.end c.args.from (c.loop-number.number + 1)) (sym c.own_page.ensures.marked)
          (owned_more c.loop-number.sheets.marked _ _ _ _ c.args.place c.args.end c.args.from c.loop-number.number inv.owned c.own_page.ensures.grown.less c.own_page.ensures.kept (some_not_none _ c.in_ok-own_page.ensures.there) (λ s. covers_less _ _ _ _ _ (omega arith) (omega arith) (c.in_ok-own_page.ensures.ready s)));
      others = others_next _ _ _ c.args.from c.loop-number.number inv.low inv.others c.own_page.ensures.others;
      gone = removed_next c.args.from c.loop-number.number _ _ _ inv.low inv.gone c.in_ok-own_page.ensures.gone;
      out = out_next c.args.from c.loop-number.number c.loop-number.clean.entries c.own_page.new.clean.entries inv.out c.in_ok-own_page.ensures.out c.own_page.ensures.fewer;
      fewer = λ q p e. inv.fewer q p (c.own_page.ensures.fewer q p e);
      apart = λ q p e. c.own_page.ensures.apart q p e ∙ inv.apart q p (c.own_page.ensures.fewer q p e);
      cap = c.in_ok-own_page.ensures.cap ∙ inv.cap;
      length = c.in_ok-own_page.ensures.length ∙ inv.length;
      marked = c.in_ok-own_page.ensures.marked ∙ inv.marked;
      disk = c.in_ok-own_page.ensures.disk ∙ inv.disk;
      read = c.in_ok-own_page.ensures.cause.done ∙ inv.read;
      write = c.in_ok-own_page.ensures.write ∙ inv.write;
      unstored = c.in_ok-own_page.ensures.unstored ∙ inv.unstored;
    }

pub returns-in_err-own_page-clause-apart : goal.returns-in_err-own_page-clause-apart
returns-in_err-own_page-clause-apart g c q p e = c.own_page.ensures.apart q p e ∙ c.loop-number.invariant.apart q p (c.own_page.ensures.fewer q p e)

pub returns-clause-owned : goal.returns-clause-owned
returns-clause-owned g c =
    let owned = c.loop-number.invariant.owned in
    record { there = λ q lo hi. owned.there q lo (omega arith); ready = λ q lo hi s. owned.ready q lo (omega arith) s }

pub own_page-requires-clause-serves : goal.own_page-requires-clause-serves
own_page-requires-clause-serves g c kept e =
    let inv = c.loop-number.invariant in
    let old = c.requires.serves c.loop-number.number kept (inv.fewer c.loop-number.number kept e) in
    (inv.apart c.loop-number.number kept e ∙ old.0, serves_file g.S.Store.lends _ _ _ _ c.loop-number.number kept (ap (λ d. file_of d) inv.disk) inv.length old.1)
