-- Lines are appended one after the other.
use Rattle.std.proofs.Common.{◌≡◌, ℕ, ◌+◌, ◌++◌, List, refl, sym, ap, ◌∙◌, append-nil, append_assoc, add-one}
use Rattle.cdf_gen.specs.Generated.{command_of, kind_of, line_of, lines_behind, next_number, put_entry}

-- a command that is none of the three for records
pub fourth : (x : ℕ) → kind_of x ≡ 3 → put_entry x ≡ command_of x
unfolding command_of
fourth x kind = rw kind refl

-- the next line is appended
pub lines_more : (x y left more : ℕ) (now new : List ℕ) → left ≡ more + 1 → y ≡ next_number x → new ≡ now ++ line_of y → new ++ lines_behind y more ≡ now ++ lines_behind x left
lines_more x y left more now new counted next appended =
    ap (λ l. l ++ lines_behind y more) appended
    ∙ append_assoc now (line_of y) (lines_behind y more)
    ∙ ap (λ z. now ++ (line_of z ++ lines_behind z more)) next
    ∙ ap (λ n. now ++ lines_behind x n) (sym (counted ∙ add-one more))

-- no further line is left
pub lines_end : (x left : ℕ) (now whole : List ℕ) → left ≡ 0 → now ++ lines_behind x left ≡ whole → now ≡ whole
lines_end x left now whole none kept = sym (ap (λ n. now ++ lines_behind x n) none ∙ append-nil now) ∙ kept
