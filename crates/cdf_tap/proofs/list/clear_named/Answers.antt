use Rattle.std.proofs.Common.{rules, ◌<◌, ◌∙◌, length, length-set, if◌then◌else◌, sym, arith}
use Rattle.std.proofs.lemmas.List.{length-map}
use Rattle.cdf_tap.specs.Meanings.{cleared, has_name}
use Rattle.cdf_tap.proofs.Lists.{changed}
use Rattle.cdf_tap.proofs.list.clear_named.Goals as goal

pub loop-i-preserved : goal.loop-i-preserved
loop-i-preserved g c =
    let within : c.loop-i.i < length c.args.taps.now.items = search rules in
    let long = length-map c.args.taps.now.items (λ b. (goal.Tap-dyn g (b.vtable, b.value)).meaning b.value) in
    record {
      cleared = changed _ (λ m. if has_name c.args.name.now m then cleared m else m) _ _ c.loop-i.i c.index_mut.result.now c.clear_if_named.new.tap
          (omega (arith, long, within)) (c.loop-i.invariant.count ∙ sym long) c.loop-i.invariant.cleared c.index_mut.ensures.value c.clear_if_named.ensures;
      count = length-set c.loop-i.taps.items c.loop-i.i c.clear_if_named.new.tap ∙ c.loop-i.invariant.count;
    }
