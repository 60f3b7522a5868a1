use Rattle.cdf_check.proofs.Common.{In-get_or, Some, aedr_num, ap, arith, eqb, false, get_or, is_in, list_any, number, read_more, sym, true, ℕ, ◌∙◌, ◌≡◌}
use Rattle.cdf_check.proofs.DifferSteps.{key_met, key_new, keys_more, is_in-any}
use Rattle.cdf_check.proofs.entries.check_apart.Goals as goal

pub overflow_add-place : goal.overflow_add-place
overflow_add-place g c =
    let l = c.loop-entry in
    let inside = c.requires.entries (get_or c.args.entries.now l.entry-index 0) (In-get_or c.args.entries.now l.entry-index c.loop-entry-test.true) in
    omega (arith, inside, c.size-size.ensures)

pub read_unsigned4-requires : goal.read_unsigned4-requires
read_unsigned4-requires g c =
    let l = c.loop-entry in
    let inside = c.requires.entries (get_or c.args.entries.now l.entry-index 0) (In-get_or c.args.entries.now l.entry-index c.loop-entry-test.true) in
    rw l.invariant.area.image (omega (arith, inside))

pub returns-then-has-clause-found : goal.returns-then-has-clause-found
returns-then-has-clause-found g c =
    let l = c.loop-entry in
    let b = g.A.Area.image c.args.area.now in
    let m = get_or c.args.entries.now l.entry-index 0 in
    let key = λ (x : ℕ). number b x aedr_num in
    let value : c.in_ok-read_unsigned4.field-0 ≡ key m = rw l.invariant.area.image at c.in_ok-read_unsigned4.ensures.value in
    let here : c.from-number.result ≡ key m = c.from-number.ensures ∙ value in
    let old : list_any (eqb (key m)) l.numbers.list.items ≡ true = sym (is_in-any (key m) l.numbers.list.items) ∙ ap (λ (n : ℕ). is_in n l.numbers.list.items) (sym here) ∙ sym c.has.ensures ∙ c.if-has.true in
    l.invariant.goes (Some (record { rule = 7; place = m })) (key_met key eqb 7 c.args.entries.now l.entry-index c.loop-entry-test.true l.numbers.list.items l.invariant.numbers old)

pub loop-entry-preserved : goal.loop-entry-preserved
loop-entry-preserved g c =
    let l = c.loop-entry in
    let b = g.A.Area.image c.args.area.now in
    let m = get_or c.args.entries.now l.entry-index 0 in
    let key = λ (x : ℕ). number b x aedr_num in
    let value : c.in_ok-read_unsigned4.field-0 ≡ key m = rw l.invariant.area.image at c.in_ok-read_unsigned4.ensures.value in
    let here : c.from-number.result ≡ key m = c.from-number.ensures ∙ value in
    let new : list_any (eqb (key m)) l.numbers.list.items ≡ false = sym (is_in-any (key m) l.numbers.list.items) ∙ ap (λ (n : ℕ). is_in n l.numbers.list.items) (sym here) ∙ sym c.has.ensures ∙ c.if-has.false in
    record {
      area = read_more l.invariant.area c.in_ok-read_unsigned4.ensures.area;
      agrees = c.in_ok-add.ensures.agrees;
      numbers = rw (c.in_ok-add.ensures.items, here) (keys_more key eqb 7 c.args.entries.now l.entry-index c.loop-entry-test.true l.numbers.list.items l.invariant.numbers);
      goes = λ found rest. l.invariant.goes found (key_new key eqb 7 c.args.entries.now l.entry-index c.loop-entry-test.true l.numbers.list.items l.invariant.numbers new found rest);
    }
