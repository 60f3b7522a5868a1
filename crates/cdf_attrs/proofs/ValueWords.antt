-- What words come to as the value of an entry.
use Rattle.cdf_attrs.proofs.Common.{Bool, DataType, IsStored, IsWritten, List, Ok, Sizes, ap, arith, back, bytes_of_words, drop, false, fewer, in_place, is_text, length, number_entry, refl, size_of, size_stays, subst, sym, take, turned, values_in, whole_elements, whole_text, words_sized, ℕ, ◌%◌, ◌++◌, ◌∙◌, ◌≡◌, ◌≤◌}
use Rattle.cdf_model.specs.Sayable.{Fit}
use Rattle.cdf_model.specs.declared.data_type.DataType.TheVariants.{Char, UChar}
use Rattle.cdf_values.proofs.ReadLemmas.{counted}

-- what the numbers of a line write may be stored
pub numbers_written : (t : DataType) (words : List (List ℕ)) (bytes : List ℕ) → is_text t ≡ false → 1 ≤ length words → Fit words → values_in t 1 (length words) words ≡ Ok bytes → IsWritten false t words (length words) bytes
numbers_written Char words bytes n some fit e = absurd cc
numbers_written UChar words bytes n some fit e = absurd cc
numbers_written t words bytes n some fit e =
    let read : bytes_of_words t 1 words ≡ Ok bytes = sym (counted t 1 (length words) words refl) ∙ e in
    let s : Sizes (size_of t) 0 words bytes = subst (λ (size : ℕ). Sizes size 0 words bytes) (whole_text t 1 refl ∙ omega arith) (words_sized t 1 words bytes read) in
    record {
      means = rw (read, number_entry) refl;
      stored = record { long = omega (arith, s.long); some = some; few = omega (arith, fewer words, fit); short = omega (arith, s.long, s.short, fit) };
    }

-- ---- in the byte order of the file

pub whole : {t : DataType} {elems : ℕ} {bytes : List ℕ} → IsStored t elems bytes → length bytes % size_of t ≡ 0
whole {t = t} {elems = elems} {bytes = bytes} stored = whole_elements t elems (length bytes) (sym stored.long)

-- written back over what was there
pub back_written : {t : DataType} {words : List (List ℕ)} {elems : ℕ} {bytes : List ℕ} → IsWritten false t words elems bytes → (little : Bool) (new : List ℕ) (n : ℕ) → new ≡ turned t little bytes → n ≡ length bytes → IsWritten little t words elems (take n (new ++ drop (length new) bytes))
back_written {t = t} {words = words} {elems = elems} {bytes = bytes} w little new n is all =
    let same = size_stays t little bytes (whole w.stored) in
    subst (IsWritten little t words elems) (sym (in_place t little n bytes new (whole w.stored) all is)) (record {
      means = w.means ∙ ap (λ (xs : List ℕ). Ok (record { type = t; elems = elems; bytes = xs })) (sym (back t little bytes (whole w.stored)));
      stored = record { long = w.stored.long ∙ sym same; some = w.stored.some; few = w.stored.few; short = omega (arith, w.stored.short, same) };
    })
