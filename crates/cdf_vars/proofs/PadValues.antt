-- How many bytes the word of a pad value writes.
use Rattle.cdf_vars.proofs.Common.{Bool, DataType, HasElements, IsValue, List, Ok, arith, back, drop, in_place, length, size_of, size_stays, subst, sym, take, turned, values_in, values_long, whole_elements, ℕ, ◌*◌, ◌++◌, ◌∙◌, ◌≡◌}

-- of one word
pub value_long : (t : DataType) (elems : ℕ) (words : List (List ℕ)) (value : List ℕ) → HasElements t elems → values_in t elems 1 words ≡ Ok value → length value ≡ size_of t * elems
value_long t elems words value one e = values_long t elems 1 words value one e ∙ omega arith

-- turned into the byte order of a file, in place
pub is_value : (t : DataType) (little : Bool) (elems n : ℕ) (words : List (List ℕ)) (value now : List ℕ) → HasElements t elems → values_in t elems 1 words ≡ Ok value → n ≡ length value → now ≡ turned t little value → IsValue little t elems words (take n (now ++ drop (length now) value))
is_value t little elems n words value now one read as_long is =
    let size : length value ≡ size_of t * elems = value_long t elems words value one read in
    let parts = whole_elements t elems (length value) size in
    subst (IsValue little t elems words) (sym (in_place t little n value now parts as_long is)) (record { value = value; read = read; turns = back t little value parts; long = size_stays t little value parts ∙ size })
