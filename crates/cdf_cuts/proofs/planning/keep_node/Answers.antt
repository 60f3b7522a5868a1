use Rattle.cdf_cuts.proofs.Common.{Bool, NodeCut, Plan, [], ap, arith, eqb, false, length, nat_tests, refl, ℕ, ◌++◌, ◌∙◌, ◌∷◌, ◌≡◌, ◌≤◌}
use Rattle.cdf_cuts.proofs.PlanSteps.{links_none, links_then, node_stays}
use Rattle.cdf_cuts.proofs.planning.keep_node.Goals.{then-left-ne0+in_ok-push-2, else-left-ne0}
use Rattle.cdf_cuts.proofs.planning.keep_node.Goals as goal

kept_some : (n : ℕ) (r : Bool) → r ≡ eqb n 0 → r ≡ false → 1 ≤ n
kept_some n r e f = grind (arith, nat_tests)

pub returns-clause-does : goal.returns-clause-does
returns-clause-does c =
    let kept = c.args.kept in
    let some : 1 ≤ length kept.items = omega (arith, kept.ok, kept_some kept.len c.is_empty.result c.is_empty.ensures c.if-is_empty.false) in
    let n : NodeCut = record { place = c.args.at; room = c.args.head.now.room; used = c.args.head.now.used; entries = kept } in
    let prev = c.args.left.prev in
    elim c.if-left-ne0.branch [
      | then-left-ne0+in_ok-push-2 w ↦ node_stays prev c.args.at n.room n.used kept.items n some (c.in_ok-push-3.ensures.items ∙ ap (λ (p : Plan). p.nodes.items ++ n ∷ []) w.plan-is) refl
          (ap (λ (p : Plan). p.links.items) w.plan-is ∙ links_then c.args.plan.now.links.items _ prev c.args.at w.if-left-ne0.true w.in_ok-push-2.ensures.items) (ap (λ (p : Plan). p.blocks.items) w.plan-is) (ap (λ (p : Plan). p.emptied.items) w.plan-is)
      | else-left-ne0 w ↦ node_stays prev c.args.at n.room n.used kept.items n some (c.in_ok-push-3.ensures.items ∙ ap (λ (p : Plan). p.nodes.items ++ n ∷ []) w.plan-is) refl
          (ap (λ (p : Plan). p.links.items) w.plan-is ∙ links_none c.args.plan.now.links.items _ prev c.args.at w.if-left-ne0.false refl) (ap (λ (p : Plan). p.blocks.items) w.plan-is) (ap (λ (p : Plan). p.emptied.items) w.plan-is)
    ]
