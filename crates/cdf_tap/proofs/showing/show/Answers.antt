use Rattle.std.proofs.Common.{rules, ◌<◌, ◌∙◌, map, length, length-set, false, arith}
use Rattle.std.proofs.lemmas.List.{length-map}
use Rattle.std.proofs.lemmas.Slice.Zip.{length-zip}
use Rattle.cdf_tap.specs.Meanings.{shown_one}
use Rattle.cdf_tap.proofs.Lists.{all_changed, both_changed, kinds_stay, others_stay}
use Rattle.cdf_tap.proofs.showing.show.Goals as goal

pub returns-in_err-after-clause-kinds : goal.returns-in_err-after-clause-kinds
returns-in_err-after-clause-kinds g c =
    let within : c.loop-i.i < length c.loop-i.taps.items = omega (arith, c.loop-i.invariant.count, c.loop-i-test.true, c.len-i-end.ensures, c.args.taps.now.ok) in
    kinds_stay _ c.loop-i.taps.items c.loop-i.i c.index_mut.result.now c.show_one.new.tap within c.index_mut.ensures.value c.show_one.ensures.own ∙ c.loop-i.invariant.kinds

pub returns-in_err-after-clause-others : goal.returns-in_err-after-clause-others
returns-in_err-after-clause-others g c =
    let within : c.loop-i.i < length c.loop-i.taps.items = omega (arith, c.loop-i.invariant.count, c.loop-i-test.true, c.len-i-end.ensures, c.args.taps.now.ok) in
    others_stay _ c.loop-i.taps.items c.loop-i.i c.index_mut.result.now c.show_one.new.tap within c.index_mut.ensures.value c.args.name.now c.show_one.ensures.own c.show_one.ensures.other ∙ c.loop-i.invariant.others

pub loop-i-preserved : goal.loop-i-preserved
loop-i-preserved g c =
    let inv = c.loop-i.invariant in
    let within : c.loop-i.i < length c.args.taps.now.items = search rules in
    let now : c.loop-i.i < length c.loop-i.taps.items = omega (arith, inv.count, within) in
    let long = length-map c.args.taps.now.items (λ b. (goal.Tap-dyn g (b.vtable, b.value)).meaning b.value) in
    let both = length-zip (map (λ b. (goal.Tap-dyn g (b.vtable, b.value)).meaning b.value) c.args.taps.now.items) c.args.ended.now in
    record {
      shown = both_changed _ (shown_one c.args.name.now c.args.event.now) _ c.loop-i.taps.items c.loop-i.ended c.loop-i.i c.index_mut.result.now c.show_one.new.tap false c.in_ok-after.after
          (omega (arith, both, long, c.requires, within)) now (search rules) inv.shown c.index_mut.ensures.value c.in_ok-after.ensures.shown;
      count = length-set c.loop-i.taps.items c.loop-i.i c.show_one.new.tap ∙ inv.count;
      kinds = kinds_stay _ c.loop-i.taps.items c.loop-i.i c.index_mut.result.now c.show_one.new.tap now c.index_mut.ensures.value c.show_one.ensures.own ∙ inv.kinds;
      others = others_stay _ c.loop-i.taps.items c.loop-i.i c.index_mut.result.now c.show_one.new.tap now c.index_mut.ensures.value c.args.name.now c.show_one.ensures.own c.show_one.ensures.other ∙ inv.others;
    }

pub returns-clause-shown : goal.returns-clause-shown
returns-clause-shown g c =
    let long = length-map c.args.taps.now.items (λ b. (goal.Tap-dyn g (b.vtable, b.value)).meaning b.value) in
    let both = length-zip (map (λ b. (goal.Tap-dyn g (b.vtable, b.value)).meaning b.value) c.args.taps.now.items) c.args.ended.now in
    c.loop-i.invariant.shown ∙ all_changed (shown_one c.args.name.now c.args.event.now) c.loop-i.i _ (omega (arith, both, long, c.requires, c.loop-i-test.false, c.len-i-end.ensures, c.args.taps.now.ok))
