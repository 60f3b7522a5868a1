use Rattle.std.proofs.Common.{◌≡◌, ◌∙◌, ap, length, map, false, refl, sym, arith}
use Rattle.std.proofs.lemmas.List.{length-map, length-replicate}
use Rattle.std.specs.List.{zip}
use Rattle.cdf_model.specs.Events.{events_of}
use Rattle.cdf_model.specs.Spots.{rest}
use Rattle.cdf_tap.specs.Meanings.{kinds_of, others_of}
use Rattle.cdf_tap.specs.Reports.{after_all}
use Rattle.cdf_walk.proofs.Shows.{all_left, cleared_kinds, cleared_others, none_set, none_shown}
use Rattle.cdf_walk.proofs.reporting.show_all.Goals as goal

pub loop-going-init : goal.loop-going-init
loop-going-init g c =
    let d = g.P.Parts.told c.args.parts.now in
    let name = c.args.name.now in
    let now = map (λ b. (goal.Tap-dyn g (b.vtable, b.value)).meaning b.value) c.clear_named.new.taps.items in
    let flags = c.in_ok-ended.ensures in
    let long : c.len.result ≡ length c.args.taps.now.items = c.len.ensures ∙ omega (arith, c.args.taps.now.ok) in
    let many : c.len.result ≡ length now = long ∙ sym c.clear_named.ensures.count ∙ sym (length-map c.clear_named.new.taps.items (λ b. (goal.Tap-dyn g (b.vtable, b.value)).meaning b.value)) in
    record {
      told = refl;
      under = refl;
      faults = refl;
      stands = c.new-walk.ensures.stands d;
      flags = ap length flags ∙ length-replicate _ _ ∙ long ∙ sym c.clear_named.ensures.count;
      same = ap (λ s. after_all name (rest d s) (zip now c.in_ok-ended.ended.items)) c.new-walk.ensures.spot
          ∙ ap (λ l. after_all name l (zip now c.in_ok-ended.ended.items)) (all_left d)
          ∙ ap (after_all name (events_of d)) (ap (zip now) flags ∙ none_set now _ many ∙ ap (map (λ m. (m, false))) c.clear_named.ensures.taps);
      kinds = ap kinds_of c.clear_named.ensures.taps ∙ cleared_kinds name _;
      others = ap (others_of name) c.clear_named.ensures.taps ∙ cleared_others name _;
      over = λ e. absurd cc;
    }

pub returns-clause-all : goal.returns-clause-all
returns-clause-all g c =
    let i = c.loop-going.invariant in
    let name = c.args.name.now in
    let taps = zip (map (λ b. (goal.Tap-dyn g (b.vtable, b.value)).meaning b.value) c.loop-going.taps.items) c.loop-going.ended.items in
    sym (none_shown name taps) ∙ ap (λ l. after_all name l taps) (sym (i.over c.loop-going-test.false)) ∙ i.same
