-- Entries in nodes, one node after the other.
use Rattle.std.proofs.Common.{Bool, List, [], ap, append-nil, append_assoc, arith, drop, false, length, map, min, refl, suc, sym, take, zero, ℕ, ◌++◌, ◌+◌, ◌-◌, ◌∙◌, ◌∷◌, ◌≡◌, ◌≤◌}
use Rattle.std.proofs.lemmas.Bool.{lt-ltb}
use Rattle.std.proofs.lemmas.List.{drop-drop, length-append, length-drop}
use Rattle.std.specs.Prelude.{if◌then◌else◌, nat_lt}
use Rattle.cdf_writer.specs.Bodies.{vxr_body, whole_record}
use Rattle.cdf_writer.specs.Groups.{fits_in, grouped, grouped_on}
use Rattle.cdf_writer.specs.Laying.{first_in, last_in, naming, node_bodies, nodes_over}
use Rattle.cdf_writer.specs.declared.bodies.NodeEntry.{NodeEntry}

full : (most n : ℕ) → n ≡ most → nat_lt n most ≡ false
full most n e = grind (arith, e)

module _ {A : Type 0} (most : ℕ) where
  group_on : (k : ℕ) (g xs : List A) → length g + k ≡ most → grouped_on (fits_in most) g xs ≡ (g ++ take k xs) ∷ grouped (fits_in most) (drop k xs)
  group_on zero g [] e = ap (λ (l : List A). l ∷ []) (sym (append-nil g))
  group_on (suc k) g [] e = ap (λ (l : List A). l ∷ []) (sym (append-nil g))
  group_on zero g (x ∷ xs) e =
      ap (λ (b : Bool). if b then grouped_on (fits_in most) (g ++ x ∷ []) xs else g ∷ grouped_on (fits_in most) (x ∷ []) xs) (full most (length g) (omega (arith, e)))
      ∙ ap (λ (l : List A). l ∷ grouped_on (fits_in most) (x ∷ []) xs) (sym (append-nil g))
  group_on (suc k) g (x ∷ xs) e =
      ap (λ (b : Bool). if b then grouped_on (fits_in most) (g ++ x ∷ []) xs else g ∷ grouped_on (fits_in most) (x ∷ []) xs) (lt-ltb (length g) most (omega (arith, e)))
      ∙ group_on k (g ++ x ∷ []) xs (omega (arith, e, length-append g (x ∷ [])))
      ∙ ap (λ (l : List A). l ∷ grouped (fits_in most) (drop k xs)) (append_assoc g (x ∷ []) (take k xs))

-- the first node of some entries
pub node_first : (entries : List NodeEntry) → 1 ≤ length entries → nodes_over entries ≡ take 64 entries ∷ nodes_over (drop 64 entries)
node_first [] some = absurd (omega (arith, some))
node_first (e ∷ more) some = group_on 64 63 (e ∷ []) more refl

-- as much of a list as there is
zero_less : (n : ℕ) → min 0 n ≡ 0
zero_less n = omega arith

less_zero : (n : ℕ) → min n 0 ≡ 0
less_zero n = omega arith

less_more : (n m : ℕ) → min (suc n) (suc m) ≡ suc (min n m)
less_more n m = omega arith

take_less : {A : Type 0} (n : ℕ) (xs : List A) → take (min n (length xs)) xs ≡ take n xs
take_less zero xs = ap (λ (k : ℕ). take k xs) (zero_less (length xs))
take_less {A = A} (suc n) [] = let none : List A = [] in ap (λ (k : ℕ). take k none) (less_zero (suc n))
take_less {A = A} (suc n) (x ∷ xs) = ap (λ (k : ℕ). take k (x ∷ xs)) (less_more n (length xs)) ∙ ap (λ (l : List A). x ∷ l) (take_less n xs)

drop_less : {A : Type 0} (n : ℕ) (xs : List A) → drop (min n (length xs)) xs ≡ drop n xs
drop_less zero xs = ap (λ (k : ℕ). drop k xs) (zero_less (length xs))
drop_less {A = A} (suc n) [] = let none : List A = [] in ap (λ (k : ℕ). drop k none) (less_zero (suc n))
drop_less (suc n) (x ∷ xs) = ap (λ (k : ℕ). drop k (x ∷ xs)) (less_more n (length xs)) ∙ drop_less n xs

-- what stands from a place on, up to 64 entries behind it or the end
pub next_node : (entries : List NodeEntry) (from : ℕ) → from ≤ length entries → take (min (length entries) (from + 64) - from) (drop from entries) ≡ take 64 (drop from entries)
next_node entries from le =
    let rest = drop from entries in
    let many : min (length entries) (from + 64) - from ≡ min 64 (length rest) = omega (arith, le, length-drop from entries) in
    ap (λ (n : ℕ). take n rest) many ∙ take_less 64 rest

pub next_rest : (entries : List NodeEntry) (from : ℕ) → from ≤ length entries → drop (min (length entries) (from + 64)) entries ≡ drop 64 (drop from entries)
next_rest entries from le =
    let rest = drop from entries in
    let many : min (length entries) (from + 64) ≡ from + min 64 (length rest) = omega (arith, le, length-drop from entries) in
    ap (λ (n : ℕ). drop n entries) many ∙ sym (drop-drop (min 64 (length rest)) from entries) ∙ drop_less 64 rest

pub bodies_first : (entries : List NodeEntry) → 1 ≤ length entries → node_bodies entries ≡ vxr_body (take 64 entries) ∷ node_bodies (drop 64 entries)
bodies_first entries some = ap (map vxr_body) (node_first entries some)

pub naming_first : (place : ℕ) (entries : List NodeEntry) → 1 ≤ length entries
    → naming place (nodes_over entries) ≡ record { first = first_in (take 64 entries); last = last_in (take 64 entries); place = place } ∷ naming (place + length (whole_record (vxr_body (take 64 entries)))) (nodes_over (drop 64 entries))
naming_first place entries some = ap (naming place) (node_first entries some)
