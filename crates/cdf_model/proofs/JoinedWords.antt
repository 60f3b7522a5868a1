-- Words that are written one after the other, joined by blanks, are a line of these words.
use Rattle.std.proofs.Common.{◌≡◌, ℕ, true, List, [], ◌∷◌, ◌++◌, map, refl, sym, ap, append-nil}
use Rattle.std.proofs.lemmas.List.Elements.{All-head, All-tail}
use Rattle.std.specs.List.{All, flat_map, join_with_byte}
use Rattle.cdf_model.specs.Quoting.{at_end}
use Rattle.cdf_model.specs.Written.{WritesWord, WritesLine}

-- the texts of some values, each behind a blank
abbrev behind_blanks : (List ℕ → List ℕ) → List (List ℕ) → List ℕ
behind_blanks text values = flat_map (λ value. 32 ∷ text value) values

at_end-behind_blanks : (text : List ℕ → List ℕ) (values : List (List ℕ)) → at_end (behind_blanks text values) ≡ true
at_end-behind_blanks text [] = refl
at_end-behind_blanks text (value ∷ values) = refl

writes-behind_blanks : (P : List ℕ → Type 0) (text word : List ℕ → List ℕ) (values : List (List ℕ)) → ((value : List ℕ) → P value → WritesWord (text value) (word value)) → All P values → WritesLine (behind_blanks text values) (map word values)
writes-behind_blanks P text word [] writes all = refl
writes-behind_blanks P text word (value ∷ values) writes all =
    (32 ∷ [], text value, behind_blanks text values, refl, refl, writes value (All-head P value values all), at_end-behind_blanks text values, writes-behind_blanks P text word values writes (All-tail P value values all))

joined-texts : (text : List ℕ → List ℕ) (value : List ℕ) (values : List (List ℕ)) → join_with_byte 32 (map text (value ∷ values)) ≡ text value ++ behind_blanks text values
joined-texts text value [] = sym (append-nil (text value))
joined-texts text value (next ∷ values) = ap (λ l. text value ++ 32 ∷ l) (joined-texts text next values)

pub writes-joined : (P : List ℕ → Type 0) (text word : List ℕ → List ℕ) (values : List (List ℕ)) → ((value : List ℕ) → P value → WritesWord (text value) (word value)) → All P values → WritesLine (join_with_byte 32 (map text values)) (map word values)
writes-joined P text word [] writes all = refl
writes-joined P text word (value ∷ values) writes all =
    ([], text value, behind_blanks text values, joined-texts text value values, refl, writes value (All-head P value values all), at_end-behind_blanks text values, writes-behind_blanks P text word values writes (All-tail P value values all))
