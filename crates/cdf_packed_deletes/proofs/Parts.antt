-- What a leaf keeps of its records where some go and later ones close up: how many, from which number on, and their bytes.
use Rattle.std.proofs.Common.{List, [], ap, append-nil, arith, drop, false, inl, inr, length, length-append, length-drop, length-take, map, refl, subst, sym, take, true, ℕ, ◌*◌, ◌+◌, ◌++◌, ◌-◌, ◌<◌, ◌∙◌, ◌∷◌, ◌≡◌, ◌≤◌, ◌⊎◌}
use Rattle.std.specs.Prelude.{if◌then◌else◌, max, min, nat_lt}
use Rattle.std.proofs.lemmas.Bool.{cases_lt}
use Rattle.std.proofs.lemmas.List.{drop_all, take_all}
use Rattle.std.specs.List.{flat_map}
use Rattle.cdf_edits.proofs.Common.{Leaf, Range, Variable, le-ltb, lt-ltb, nat_tests, plain_bytes, range, record_number_limit}
use Rattle.cdf_edits.proofs.Edits.LeafPieces.{times_le}
use Rattle.cdf_edits.proofs.Edits.LeafRecords.{count_is}
use Rattle.cdf_edits.specs.Index.Blocks.{record_length}
use Rattle.cdf_packed_deletes.specs.Keeping.{IsAllOrNone, IsCutIn, back_count, first_kept, front_count, outer_bytes}
use Rattle.cdf_packed_deletes.specs.Steps.{bytes_of_parts, count_of, keeps_some, parts_kept}

-- ---- lists

-- what is left behind a front is all of it
pub rest_is : (xs : List ℕ) (from n : ℕ) → from + n ≡ length xs → take n (drop from xs) ≡ drop from xs
rest_is xs from n e = take_all n (drop from xs) (omega (arith, length-drop from xs, e))

-- ---- bytes of ranges, by the size of a record

abbrev pub sized_parts : List ℕ → Leaf → List Range → ℕ → List ℕ
sized_parts plain l ranges size = flat_map (λ r. take ((r.last + 1 - r.first) * size) (drop ((r.first - l.first) * size) plain)) ranges

-- another variable with records as long has the same
pub bytes_alike : (b : List ℕ) (v w : Variable) (vdr : ℕ) (l : Leaf) (ranges : List Range) → record_length v ≡ record_length w → bytes_of_parts b v vdr l ranges ≡ bytes_of_parts b w vdr l ranges
bytes_alike b v w vdr l ranges e = ap (sized_parts (plain_bytes b vdr l) l ranges) e

-- ---- a leaf of which some records go and others stay

module _ (first last : ℕ) (order : first ≤ last) (l : Leaf) where
  -- the records before those that go and behind them
  abbrev fronts : List Range
  fronts = if nat_lt l.first first then range l.first (first - 1) ∷ [] else []

  abbrev backs : List Range
  backs = if nat_lt last l.last then range (last + 1) l.last ∷ [] else []

  module _ (cut : IsCutIn first last l) where
    parts_are : parts_kept true first last l ≡ fronts ++ backs
    parts_are =
        let reaches = cut.reaches in
        let begins = cut.begins in
        elim (cases_lt l.first first) [
          | inl lt ↦ elim (cases_lt last l.last) [
            | inl more ↦ (let up : min l.last (first - 1) ≡ first - 1 = omega (arith, reaches, lt) in let low : max l.first (last + 1) ≡ last + 1 = omega (arith, begins) in rw (lt-ltb l.first first lt, lt-ltb last l.last more, up, low) refl)
            | inr none ↦ (let up : min l.last (first - 1) ≡ first - 1 = omega (arith, reaches, lt) in rw (lt-ltb l.first first lt, le-ltb last l.last none, up) refl)
          ]
          | inr ge ↦ elim (cases_lt last l.last) [
            | inl more ↦ (let low : max l.first (last + 1) ≡ last + 1 = omega (arith, begins) in rw (le-ltb l.first first ge, lt-ltb last l.last more, low) refl)
            | inr none ↦ rw (le-ltb l.first first ge, le-ltb last l.last none) refl
          ]
        ]

    pub counted : count_of (parts_kept true first last l) ≡ front_count first l + back_count last l
    counted = ap count_of parts_are ∙ elim (cases_lt l.first first) [
      | inl lt ↦ elim (cases_lt last l.last) [
        | inl more ↦ rw (lt-ltb l.first first lt, lt-ltb last l.last more) (omega (arith, lt, more))
        | inr none ↦ rw (lt-ltb l.first first lt, le-ltb last l.last none) (omega (arith, lt, none))
      ]
      | inr ge ↦ elim (cases_lt last l.last) [
        | inl more ↦ rw (le-ltb l.first first ge, lt-ltb last l.last more) (omega (arith, ge, more))
        | inr none ↦ rw (le-ltb l.first first ge, le-ltb last l.last none) (omega (arith, ge, none))
      ]
    ]

    pub begun : map (λ (r : Range). r.first) (take 1 (parts_kept true first last l)) ≡ first_kept first last l ∷ []
    begun = ap (λ (rs : List Range). map (λ (r : Range). r.first) (take 1 rs)) parts_are ∙ elim (cases_lt l.first first) [
      | inl lt ↦ rw (lt-ltb l.first first lt) refl
      | inr ge ↦ elim cut.some [
        | inl lt ↦ absurd (omega (arith, lt, ge))
        | inr more ↦ rw (le-ltb l.first first ge, lt-ltb last l.last more) refl
      ]
    ]

    module _ (size : ℕ) (plain : List ℕ) (long : length plain ≡ (l.last + 1 - l.first) * size) where
      abbrev front : List ℕ
      front = take (front_count first l * size) plain

      abbrev back : List ℕ
      back = drop (length plain - back_count last l * size) plain

      front_is : l.first < first → take ((first - 1 + 1 - l.first) * size) (drop ((l.first - l.first) * size) plain) ≡ front
      front_is lt =
          let count : first - 1 + 1 - l.first ≡ first - l.first = omega (arith, lt) in
          let zero : l.first - l.first ≡ 0 = omega arith in
          let none : (l.first - l.first) * size ≡ 0 = ap (λ (n : ℕ). n * size) zero ∙ omega arith in
          (λ i. take (count i * size) (drop (none i) plain))

      front_none : first ≤ l.first → front ≡ []
      front_none ge = let none : (first - l.first) * size ≡ 0 = ap (λ (n : ℕ). n * size) (let z : first - l.first ≡ 0 = omega (arith, ge) in z) ∙ omega arith in ap (λ (n : ℕ). take n plain) none

      split_sizes : last < l.last → (last + 1 - l.first) * size + (l.last - last) * size ≡ length plain
      split_sizes more =
          let begins = cut.begins in
          let count : l.last + 1 - l.first ≡ (last + 1 - l.first) + (l.last - last) = omega (arith, begins, more) in
          let both : (l.last + 1 - l.first) * size ≡ ((last + 1 - l.first) + (l.last - last)) * size = ap (λ (n : ℕ). n * size) count in
          grind (arith, both, long)

      back_is : last < l.last → take ((l.last + 1 - (last + 1)) * size) (drop ((last + 1 - l.first) * size) plain) ≡ back
      back_is more =
          let count : l.last + 1 - (last + 1) ≡ l.last - last = omega (arith, more) in
          let s = split_sizes more in
          let from : (last + 1 - l.first) * size ≡ length plain - (l.last - last) * size = omega (arith, s) in
          ap (λ (n : ℕ). take (n * size) (drop ((last + 1 - l.first) * size) plain)) count ∙ rest_is plain ((last + 1 - l.first) * size) ((l.last - last) * size) s ∙ ap (λ (n : ℕ). drop n plain) from

      back_none : l.last ≤ last → back ≡ []
      back_none ge =
          let none : (l.last - last) * size ≡ 0 = ap (λ (n : ℕ). n * size) (let z : l.last - last ≡ 0 = omega (arith, ge) in z) ∙ omega arith in
          ap (λ (n : ℕ). drop (length plain - n) plain) none ∙ nothing
        where
          nothing : drop (length plain - 0) plain ≡ []
          nothing = drop_all (length plain - 0) plain (omega arith)

      pub parts_bytes : sized_parts plain l (parts_kept true first last l) size ≡ outer_bytes size first last l plain
      parts_bytes = ap (λ (rs : List Range). sized_parts plain l rs size) parts_are ∙ elim (cases_lt l.first first) [
        | inl lt ↦ elim (cases_lt last l.last) [
          | inl more ↦ rw (lt-ltb l.first first lt, lt-ltb last l.last more) ((λ i. front_is lt i ++ (back_is more i ++ [])) ∙ ap (λ (xs : List ℕ). front ++ xs) (append-nil back))
          | inr none ↦ rw (lt-ltb l.first first lt, le-ltb last l.last none) ((λ i. front_is lt i ++ []) ∙ ap (λ (xs : List ℕ). front ++ xs) (sym (back_none none)))
        ]
        | inr ge ↦ elim (cases_lt last l.last) [
          | inl more ↦ rw (le-ltb l.first first ge, lt-ltb last l.last more) ((λ i. back_is more i ++ []) ∙ append-nil back ∙ ap (λ (xs : List ℕ). xs ++ back) (sym (front_none ge)))
          | inr none ↦ rw (le-ltb l.first first ge, le-ltb last l.last none) (λ i. sym (front_none ge) i ++ sym (back_none none) i)
        ]
      ]

      pub outer_fits : front_count first l * size + back_count last l * size ≤ length plain
      outer_fits =
          let reaches = cut.reaches in
          let begins = cut.begins in
          let most = times_le ((first - l.first) + (l.last - last)) (l.last + 1 - l.first) size (omega (arith, reaches, begins)) in
          grind (arith, most, long)

      pub ends_fit : (n m : ℕ) → n ≡ front_count first l → m ≡ back_count last l → n * size + m * size ≤ length plain
      ends_fit n m e f = subst (λ (k : ℕ). k * size + m * size ≤ length plain) (sym e) (subst (λ (k : ℕ). front_count first l * size + k * size ≤ length plain) (sym f) outer_fits)

      pub outer_long : length (outer_bytes size first last l plain) ≡ (front_count first l + back_count last l) * size
      outer_long =
          let fits = outer_fits in
          let n = length-take (front_count first l * size) plain in
          let m = length-drop (length plain - back_count last l * size) plain in
          let sum : (front_count first l + back_count last l) * size ≡ front_count first l * size + back_count last l * size = grind arith in
          length-append front back ∙ omega (arith, n, m, fits) ∙ sym sum

  -- ---- which leaves keep some

  pub side_or_cut : IsAllOrNone first last l ⊎ IsCutIn first last l
  side_or_cut = elim (cases_lt l.last first) [
    | inl lt ↦ inl (inl lt)
    | inr reaches ↦ elim (cases_lt last l.first) [
      | inl lt ↦ inl (inr (inl lt))
      | inr begins ↦ elim (cases_lt l.first first) [
        | inl lt ↦ inr (record { reaches = reaches; begins = begins; some = inl lt })
        | inr ge ↦ elim (cases_lt last l.last) [
          | inl more ↦ inr (record { reaches = reaches; begins = begins; some = inr more })
          | inr none ↦ inl (inr (inr (ge, none)))
        ]
      ]
    ]
  ]

  module _ (ordered : l.first ≤ l.last) (small : l.last ≤ record_number_limit) where
    pub cut_keeps : IsCutIn first last l → keeps_some true first last l ≡ true
    cut_keeps cut =
        let reaches = cut.reaches in
        let begins = cut.begins in
        let some : 0 < front_count first l + back_count last l = elim cut.some [ inl lt ↦ omega (arith, lt) | inr lt ↦ omega (arith, lt) ] in
        let fewer : front_count first l + back_count last l < l.last + 1 - l.first = omega (arith, reaches, begins, ordered, order) in
        rw (counted cut, count_is l small ordered, lt-ltb 0 (front_count first l + back_count last l) some, lt-ltb (front_count first l + back_count last l) (l.last + 1 - l.first) fewer) refl

    pub side_keeps : IsAllOrNone first last l → keeps_some true first last l ≡ false
    side_keeps (inl lt) = rw (count_is l small ordered) (grind (arith, nat_tests, lt, ordered, order))
    side_keeps (inr (inl lt)) = rw (count_is l small ordered) (grind (arith, nat_tests, lt, ordered, order))
    side_keeps (inr (inr all)) = rw (count_is l small ordered) (grind (arith, nat_tests, all, ordered, order))
