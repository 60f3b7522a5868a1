use Rattle.std.proofs.Common.{◌≡◌, ℕ, ◌-◌, List, [], ◌∷◌, ◌++◌, length, take, drop, sym, ◌∙◌, ap, ap₂, arith, rules}
use Rattle.std.proofs.Math.ListN.{length-drop}
use Rattle.std.proofs.Math.Seq.{take-length}
use Rattle.std.proofs.lemmas.List.{take-append-drop, length-append, drop_all}
use Rattle.cdf_model.specs.Gathered as gathered
use Rattle.cdf_model.specs.Parts.{cut, parts_of, Hold}
use Rattle.cdf_model.proofs.Cut.{cut_is, Hold-pushed, Hold-cut, few_words}
use Rattle.cdf_model.proofs.words.WordsBuilder.end_word.Goals as goal

ended : (start end : ℕ) (sizes new bytes : List ℕ) → Hold (cut sizes (take start bytes)) sizes (take start bytes) → end ≡ length bytes → new ≡ sizes ++ parts_of (end - start) → Hold (cut sizes (take start bytes) ++ drop start bytes ∷ []) new (take end bytes)
ended start end sizes new bytes held all e =
    let size : end - start ≡ length (drop start bytes) = omega (arith, length-drop start bytes) in
    let whole : take end bytes ≡ bytes = ap (λ n. take n bytes) all ∙ take-length bytes in
    Hold-pushed (cut sizes (take start bytes)) sizes (take start bytes) (drop start bytes) new (take end bytes) held
    (e ∙ ap (λ n. sizes ++ parts_of n) size)
    (whole ∙ sym (take-append-drop start bytes))

pub overflow_add-self : goal.overflow_add-self
overflow_add-self c =
    let s = c.self.inside in
    let few = few_words _ s.sizes.items (take s.start s.bytes.items) c.self.invariant.0 in
    omega arith

pub invariant_of-self-2 : goal.invariant_of-self-2
invariant_of-self-2 c =
    let s = c.self.inside in
    let held = ended s.start c.len-end.result s.sizes.items c.push_parts.new.sizes.items s.bytes.items c.self.invariant.0 (search rules) c.in_ok-push_parts.ensures.ok in
    let words : List (List ℕ) = cut s.sizes.items (take s.start s.bytes.items) in
    (Hold-cut _ _ _ held, omega (arith, ap length (cut_is _ _ _ held), length-append words (drop s.start s.bytes.items ∷ [])), omega arith)

pub returns-clause-ok : goal.returns-clause-ok
returns-clause-ok c =
    let s = c.self.inside in
    let held = ended s.start c.len-end.result s.sizes.items c.push_parts.new.sizes.items s.bytes.items c.self.invariant.0 (search rules) c.in_ok-push_parts.ensures.ok in
    ap₂ (λ w l. record { words = w; last = l }) (cut_is _ _ _ held) (drop_all c.len-end.result s.bytes.items (omega arith)) ∙ ap gathered.ended c.self.view_is
