use Rattle.std.proofs.Common.{ap, drop, false, length, rules, sym, take, true, ◌+◌, ◌∙◌, ◌≡◌}
use Rattle.std.specs.Prelude.{nat_le, ◌&&◌}
use Rattle.cdf_journal.specs.Loading.{fit_members}
use Rattle.cdf_journal.proofs.Loaded.{advanced, stopped, unfit}
use Rattle.cdf_journal.proofs.loading.patch.Goals as goal

pub returns-then-not-is_fit : goal.returns-then-not-is_fit
returns-then-not-is_fit c =
    let l = c.loop-left in
    let p = c.in-Some.head.place in
    let size = c.in-Some.head.size in
    let head = c.in-Some.ensures.head in
    let fails : c.is_fit.result ≡ false = search rules in
    let unfits : (nat_le p (length l.file.items) && nat_le (p + size) c.args.new_length) ≡ false = (λ i. nat_le p (length (sym c.deref.ensures.value i)) && nat_le (p + size) c.args.new_length) ∙ sym c.is_fit.ensures ∙ fails in
    stopped c.args.file.now.items c.args.ranges.now.items (fit_members (length c.args.file.now.items) c.args.new_length c.args.count c.args.bytes.now) l.file.items l.ranges.items (fit_members (length l.file.items) c.args.new_length l.left l.rest.now) l.invariant
    (unfit (length l.file.items) c.args.new_length l.left l.rest.now p size c.loop-left-test.true head.0 head.1 head.2 unfits) l.file.items l.ranges.items

pub loop-left-preserved : goal.loop-left-preserved
loop-left-preserved c =
    let l = c.loop-left in
    let p = c.in-Some.head.place in
    let size = c.in-Some.head.size in
    let head = c.in-Some.ensures.head in
    let holds : c.is_fit.result ≡ true = search rules in
    let fit : (nat_le p (length l.file.items) && nat_le (p + size) c.args.new_length) ≡ true = (λ i. nat_le p (length (sym c.deref.ensures.value i)) && nat_le (p + size) c.args.new_length) ∙ sym c.is_fit.ensures ∙ holds in
    advanced c.args.file.now.items c.args.ranges.now.items (fit_members (length c.args.file.now.items) c.args.new_length c.args.count c.args.bytes.now) l.file.items l.ranges.items c.args.new_length l.left l.rest.now p size
    c.front-piece.result.now c.behind-next.result.now c.put_member.new.file.items c.put_member.new.ranges.items l.invariant c.loop-left-test.true head.0 head.1 head.2 fit
    (c.front-piece.ensures ∙ ap (take size) c.behind-body.ensures) (c.behind-next.ensures ∙ ap (drop size) c.behind-body.ensures) c.in_ok-put_member.ensures.file c.in_ok-put_member.ensures.ranges
