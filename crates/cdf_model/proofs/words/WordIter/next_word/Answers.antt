use Rattle.std.proofs.Common.{◌≡◌, ℕ, ◌+◌, ◌-◌, ◌*◌, List, [], ◌∷◌, length, take, drop, get_or, sym, ◌∙◌, ap, ap₂, arith, rules}
use Rattle.std.proofs.lemmas.List.{take_rest}
use Rattle.cdf_model.specs.Parts.{cut, Hold}
use Rattle.cdf_model.proofs.Cut.{cut_is, Hold-cut, Front, front_some, front_none}
use Rattle.cdf_model.proofs.words.WordIter.next_word.Goals as goal

pub returns-in_err-full-clause-none : goal.returns-in_err-full-clause-none
returns-in_err-full-clause-none c =
    let none : cut c.self.inside.sizes.now c.self.inside.bytes.now ≡ [] = front_none _ c.self.inside.sizes.now c.self.inside.bytes.now c.self.invariant c.in_err-full.ensures in
    let given = sym c.self.view_is ∙ none in
    search rules

pub overflow_mul-size : goal.overflow_mul-size
overflow_mul-size c =
    let front = front_some _ c.self.inside.sizes.now c.self.inside.bytes.now c.in_ok-full.full c.self.invariant c.in_ok-full.ensures in
    omega arith

pub overflow_add-size : goal.overflow_add-size
overflow_add-size c =
    let front = front_some _ c.self.inside.sizes.now c.self.inside.bytes.now c.in_ok-full.full c.self.invariant c.in_ok-full.ensures in
    omega arith

pub split_at-requires : goal.split_at-requires
split_at-requires c =
    let front = front_some _ c.self.inside.sizes.now c.self.inside.bytes.now c.in_ok-full.full c.self.invariant c.in_ok-full.ensures in
    omega arith

rest : (words : List (List ℕ)) (sizes bytes back : List ℕ) (full size : ℕ) (front : Front words sizes bytes full) → size ≡ full * 255 + get_or sizes full 0 → back ≡ drop size bytes → Hold front.rest (take (length sizes - (full + 1)) (drop (full + 1) sizes)) back
rest words sizes bytes back full size front e b =
    record { all_sizes = take_rest sizes (full + 1) ∙ front.held.all_sizes; all_bytes = b ∙ ap (λ n. drop n bytes) (e ∙ front.size_is) ∙ front.held.all_bytes }

pub invariant_of-self : goal.invariant_of-self
invariant_of-self c =
    let front = front_some _ c.self.inside.sizes.now c.self.inside.bytes.now c.in_ok-full.full c.self.invariant c.in_ok-full.ensures in
    Hold-cut _ _ _ (rest _ c.self.inside.sizes.now c.self.inside.bytes.now c.split_at.result.1.now c.in_ok-full.full (c.in_ok-full.full * 255 + c.from.result) front (omega arith) c.split_at.ensures.back)

pub returns-clause-word : goal.returns-clause-word
returns-clause-word c =
    let front = front_some _ c.self.inside.sizes.now c.self.inside.bytes.now c.in_ok-full.full c.self.invariant c.in_ok-full.ensures in
    let size : c.in_ok-full.full * 255 + c.from.result ≡ length front.word = omega arith in
    let more = rest _ c.self.inside.sizes.now c.self.inside.bytes.now c.split_at.result.1.now c.in_ok-full.full (c.in_ok-full.full * 255 + c.from.result) front (omega arith) c.split_at.ensures.back in
    let word : c.split_at.result.0.now ≡ front.word = c.split_at.ensures.front ∙ ap (λ n. take n c.self.inside.bytes.now) size ∙ front.front in
    sym c.self.view_is ∙ front.words_are ∙ ap₂ (λ (w : List ℕ) (ws : List (List ℕ)). w ∷ ws) (sym word) (sym (cut_is _ _ _ more))
