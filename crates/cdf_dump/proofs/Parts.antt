-- Parts of a line, appended one behind the other.
use Rattle.std.proofs.Common.{◌≡◌, ◌∙◌, ℕ, List, [], ◌∷◌, ◌++◌, Ok, Err, Result, ap, append_assoc}
use Rattle.std.specs.Prelude.{OnOk}
use Rattle.cdf_model.specs.Texts.{◌⧺◌}

module _ {T E : Type 0} where
  pub three_parts : (r : Result T E) (t0 t1 t2 t3 a b c : List ℕ) → t1 ≡ t0 ++ a → t2 ≡ t1 ++ b → OnOk r (t3 ≡ t2 ++ c) → OnOk r (t3 ≡ t0 ++ (a ++ (b ++ c)))
  three_parts (Ok x) t0 t1 t2 t3 a b c first second third = third ∙ ap (λ l. l ++ c) (second ∙ ap (λ l. l ++ b) first) ∙ simp append_assoc
  three_parts (Err e) t0 t1 t2 t3 a b c first second third = tt

  -- a numbered name, and what stands behind it
  pub named_parts : (r : Result T E) (t0 t1 t2 t3 t4 word num name rest : List ℕ) → t1 ≡ t0 ++ (word ++ (32 ∷ num)) → t2 ≡ t1 ++ 32 ∷ [] → t3 ≡ t2 ++ name → OnOk r (t4 ≡ t3 ++ rest) → OnOk r (t4 ≡ t0 ++ (word ++ (32 ∷ (num ++ (32 ∷ (name ++ rest))))))
  named_parts (Ok x) t0 t1 t2 t3 t4 word num name rest first second third fourth =
      fourth ∙ ap (λ l. l ++ rest) (third ∙ ap (λ l. l ++ name) (second ∙ ap (λ l. l ++ 32 ∷ []) first)) ∙ simp append_assoc
  named_parts (Err e) t0 t1 t2 t3 t4 word num name rest first second third fourth = tt

pub four_parts : (t0 t1 t2 t3 t4 a b c d : List ℕ) → t1 ≡ t0 ++ a → t2 ≡ t1 ++ b → t3 ≡ t2 ++ c → t4 ≡ t3 ++ d → t4 ≡ t0 ++ (a ++ (b ++ (c ++ d)))
four_parts t0 t1 t2 t3 t4 a b c d first second third fourth = fourth ∙ ap (λ l. l ++ d) (third ∙ ap (λ l. l ++ c) (second ∙ ap (λ l. l ++ b) first)) ∙ simp append_assoc

-- the line of a variable, of its four parts
pub variable_parts : (k s n q t e v d w a sparse b rle c blocking m max_rec p pad : List ℕ)
    → (k ⧺ s ⧺ n ⧺ s ⧺ q ⧺ s ⧺ t ⧺ s ⧺ e) ⧺ (s ⧺ v ⧺ s ⧺ d ⧺ s ⧺ w) ⧺ (a ⧺ sparse ⧺ b ⧺ rle ⧺ c ⧺ blocking ⧺ m ⧺ max_rec ⧺ p) ⧺ pad
    ≡ k ⧺ s ⧺ n ⧺ s ⧺ q ⧺ s ⧺ t ⧺ s ⧺ e ⧺ s ⧺ v ⧺ s ⧺ d ⧺ s ⧺ w ⧺ a ⧺ sparse ⧺ b ⧺ rle ⧺ c ⧺ blocking ⧺ m ⧺ max_rec ⧺ p ⧺ pad
variable_parts k s n q t e v d w a sparse b rle c blocking m max_rec p pad = simp append_assoc
