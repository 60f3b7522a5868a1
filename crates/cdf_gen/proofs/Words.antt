-- A word is appended again, behind a blank.
use Rattle.std.proofs.Common.{◌≡◌, ℕ, ◌+◌, List, [], ◌∷◌, ◌++◌, sym, ap, ◌∙◌, append_assoc}
use Rattle.std.specs.List.{repeat}
use Rattle.cdf_model.proofs.Filled.{repeat_more}

pub word_more : (n : ℕ) (word old now blank new : List ℕ) → now ≡ old ++ repeat n (32 ∷ word) → blank ≡ now ++ (32 ∷ []) → new ≡ blank ++ word → new ≡ old ++ repeat (n + 1) (32 ∷ word)
word_more n word old now blank new before pushed appended =
    let done = repeat n (32 ∷ word) in
    appended ∙ ap (λ l. l ++ word) (pushed ∙ ap (λ l. l ++ (32 ∷ [])) before)
    ∙ append_assoc (old ++ done) (32 ∷ []) word
    ∙ append_assoc old done (32 ∷ word)
    ∙ ap (λ l. old ++ l) (sym (repeat_more n (32 ∷ word)))

-- a text of three parts is appended, its last part by itself
pub part_more : (old first second third now new : List ℕ) → now ≡ old ++ (first ++ second) → new ≡ now ++ third → new ≡ old ++ (first ++ (second ++ third))
part_more old first second third now new before appended =
    appended ∙ ap (λ l. l ++ third) before
    ∙ append_assoc old (first ++ second) third
    ∙ ap (λ l. old ++ l) (append_assoc first second third)
