use Rattle.cdf_reindex.proofs.Common.{Entries, words_of, Entry, [], ap, arith, chunks_rest, edit_more, length, length-append, min, nil_from_length, rules, subst, sym, ℕ, ◌++◌, ◌∙◌, ◌∷◌, ◌≡◌}
use Rattle.cdf_reindex.proofs.LevelSteps.{Goes, goes_last, goes_more}
use Rattle.cdf_reindex.proofs.pyramid.write_level.Goals as goal

pub loop-node-preserved : goal.loop-node-preserved
loop-node-preserved g c =
    let l = c.loop-node in
    let i = l.invariant in
    let rest = chunks_rest l.node-iterator in
    let left = chunks_rest c.next.new.self in
    let chunk = c.in-Some.node.now in
    let call = c.in_ok-place.ensures in
    let steps = c.in-Some.ensures.steps in
    let size : length chunk ≡ min 64 (length rest) = steps.1.1 ∙ ap (λ (n : ℕ). min n (length rest)) i.size in
    let lists = ap length c.in_ok-push.ensures.items ∙ length-append l.uppers.items _ in
    let parts = ap length steps.1.0 ∙ length-append chunk left in
    let goes = λ (all : Entries) (said : words_of all ≡ c.args.entries.now). subst (Goes _ _ all left) (sym (c.in_ok-push.ensures.items ∙ ap (λ (e : Entry). l.uppers.items ++ e ∷ []) c.naming.ensures)) (goes_more (i.goes all said) steps.1.0 size steps.1.2 call.made) in
    search (arith, rules, steps.0 ∙ i.size, call, lists, parts, size, i.count, i.longest, call.made.longest, goes, edit_more i.area call.area)

pub returns-clause-made : goal.returns-clause-made
returns-clause-made g c = λ all said. goes_last (c.loop-node.invariant.goes all said) (nil_from_length _ c.in-None.ensures.steps.1.0)
