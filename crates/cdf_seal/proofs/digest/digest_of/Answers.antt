use Rattle.std.proofs.Common.{◌≡◌, ℕ, List, ◌∙◌, ◌++◌, take, drop, length, ap, subst, rules}
use Rattle.cdf_area.proofs.Calls.{read_more}
use Rattle.md5.specs.Md5.{Holds}
use Rattle.cdf_seal.proofs.Pieces.{take_more}
use Rattle.cdf_seal.proofs.digest.digest_of.Goals as goal

pub loop-place-preserved : goal.loop-place-preserved
loop-place-preserved g c =
    let i = c.loop-place.invariant in
    let b = g.A.Area.image c.args.area.now in
    let place = c.loop-place.place in
    let count = c.min-count.result in
    let long : length c.get.new.out ≡ count = search rules in
    let piece : c.get.new.out ≡ take count (drop place b) = c.in_ok-get.ensures.bytes ∙ (λ k. take (long k) (drop place (i.area.image k))) in
    let held = c.update.ensures _ i.held in
    record {
      held = subst (λ (l : List ℕ). Holds c.update.new.self l) (ap (λ (p : List ℕ). take place b ++ p) piece ∙ take_more place count b) held;
      within = search rules;
      area = read_more i.area c.in_ok-get.ensures.area;
    }
