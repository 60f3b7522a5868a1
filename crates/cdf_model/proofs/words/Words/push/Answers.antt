use Rattle.std.proofs.Common.{◌≡◌, ℕ, List, [], ◌∷◌, ◌++◌, length, ◌∙◌, ap, arith}
use Rattle.std.proofs.lemmas.List.{length-append}
use Rattle.cdf_model.specs.Parts.{cut}
use Rattle.cdf_model.proofs.Cut.{cut_is, Hold-pushed, Hold-cut, few_words}
use Rattle.cdf_model.proofs.words.Words.push.Goals as goal

pub overflow_add-self : goal.overflow_add-self
overflow_add-self c =
    let s = c.self.inside in
    let few = few_words _ s.sizes.items s.bytes.items c.self.invariant.0 in
    omega arith

pub invariant_of-self-2 : goal.invariant_of-self-2
invariant_of-self-2 c =
    let s = c.self.inside in
    let words : List (List ℕ) = cut s.sizes.items s.bytes.items in
    let written = rw c.unwrap.ensures at c.extend_from_slice.ensures.items in
    let more : c.extend_from_slice.new.self.items ≡ s.bytes.items ++ c.args.word.now = written ∙ ap (λ l. l ++ c.args.word.now) c.reserve.ensures.items in
    let held = Hold-pushed words s.sizes.items s.bytes.items c.args.word.now c.push_parts.new.sizes.items c.extend_from_slice.new.self.items c.self.invariant.0 c.in_ok-push_parts.ensures.ok more in
    (Hold-cut _ _ _ held, omega (arith, ap length (cut_is _ _ _ held), length-append words (c.args.word.now ∷ [])))

pub returns-clause-ok : goal.returns-clause-ok
returns-clause-ok c =
    let s = c.self.inside in
    let words : List (List ℕ) = cut s.sizes.items s.bytes.items in
    let written = rw c.unwrap.ensures at c.extend_from_slice.ensures.items in
    let more : c.extend_from_slice.new.self.items ≡ s.bytes.items ++ c.args.word.now = written ∙ ap (λ l. l ++ c.args.word.now) c.reserve.ensures.items in
    let held = Hold-pushed words s.sizes.items s.bytes.items c.args.word.now c.push_parts.new.sizes.items c.extend_from_slice.new.self.items c.self.invariant.0 c.in_ok-push_parts.ensures.ok more in
    cut_is _ _ _ held ∙ ap (λ l. l ++ c.args.word.now ∷ []) c.self.view_is
