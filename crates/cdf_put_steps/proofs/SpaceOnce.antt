-- Each byte lies in one record of a space, in use or on the list, or behind the end; acts that happen keep it so.
use Rattle.cdf_edits.proofs.Common.{Act, Distinct, Gave, HasShape, Happens, In, List, SpaceLeft, Took, [], after_act, ap, arith, either, eof_after, false, given_to, if◌then◌else◌, inl, inr, length, linkable-in, linkable-type, map-append, nat_le, nat_lt, nat_tests, place_for, refl, shape, size_at, sized, space_before, subst, sym, taken_from, tile_lies, tiles_lie_apart, type_at, uir_type, unused, used_records, ℕ, ◌&&◌, ◌++◌, ◌+◌, ◌<◌, ◌==◌, ◌∙◌, ◌∷◌, ◌≡◌, ◌≤◌, ◌⊎◌, Bool, true, In-append, not}
use Rattle.cdf_edits.proofs.Edits.Common.{Once, filter-distinct, having}
use Rattle.cdf_edits.proofs.Space.ActsLeave.{used_says}
use Rattle.cdf_edits.specs.Space.Acts.{Among, without}
use Rattle.cdf_format.proofs.Owning.{tiles_distinct}

-- ---- how many of these records have a byte

abbrev pub one : ℕ → ℕ → ℕ → ℕ
one i place size = if nat_le place i && nat_lt i (place + size) then 1 else 0

abbrev pub count : ℕ → List (ℕ × ℕ) → ℕ
count i [] = 0
count i ((place, size) ∷ more) = one i place size + count i more

pub having_counts : (i : ℕ) (list : List (ℕ × ℕ)) (end : ℕ) → having i list end ≡ count i list + having i [] end
having_counts i [] end = omega arith
having_counts i (x ∷ list) end = let more = having_counts i list end in omega arith

pub having_among : (i m k : ℕ) (list : List (ℕ × ℕ)) (end : ℕ) → Among (m, k) list → one i m k ≤ having i list end
having_among i m k [] end a = absurd a
having_among i m k (x ∷ list) end (inl q) = rw (← q) (omega arith)
having_among i m k (x ∷ list) end (inr a) = omega (arith, having_among i m k list end a)

-- the only record of a list that has a byte
pub same_entry : (i end : ℕ) (x y : ℕ × ℕ) (list : List (ℕ × ℕ)) → having i list end ≤ 1 → Among x list → Among y list → one i x.0 x.1 ≡ 1 → one i y.0 y.1 ≡ 1 → x ≡ y
same_entry i end x y [] once a c p q = absurd a
same_entry i end x y (z ∷ list) once (inl e) (inl f) p q = e ∙ sym f
same_entry i end x y (z ∷ list) once (inl e) (inr c) p q = let here : one i z.0 z.1 ≡ 1 = rw (← e) p in absurd (omega (arith, here, once, having_among i y.0 y.1 list end c, q))
same_entry i end x y (z ∷ list) once (inr a) (inl f) p q = let here : one i z.0 z.1 ≡ 1 = rw (← f) q in absurd (omega (arith, here, once, having_among i x.0 x.1 list end a, p))
same_entry i end x y (z ∷ list) once (inr a) (inr c) p q = same_entry i end x y list (omega (arith, once)) a c p q

-- ---- one act

end_had : (list : List (ℕ × ℕ)) (end : ℕ) → 1 ≤ having end list end
end_had [] end = grind (arith, nat_tests)
end_had (x ∷ list) end = let m = end_had list end in omega arith

-- what is taken lies in none that is left
having_taken : (list : List (ℕ × ℕ)) (end need i : ℕ) → 28 ≤ need → having end list end ≤ 1 → having i (taken_from list need) (eof_after list end need) + one i (place_for list end need) need ≡ having i list end
having_taken [] end need i enough once = grind (arith, nat_tests)
having_taken ((place, size) ∷ more) end need i enough once = grind (arith, nat_tests, end_had more end, having_taken more end need i enough)

count_less : (i place : ℕ) (xs : List (ℕ × ℕ)) → count i (without place xs) ≤ count i xs
count_less i place [] = omega arith
count_less i place (x ∷ xs) = elim (either (x.0 == place)) [ inl e ↦ rw e (omega (arith, count_less i place xs)) | inr e ↦ rw e (omega (arith, count_less i place xs)) ]

count_without : (i place size : ℕ) (xs : List (ℕ × ℕ)) → Among (place, size) xs → count i (without place xs) + one i place size ≤ count i xs
count_without i place size [] a = absurd a
count_without i place size (x ∷ xs) (inl q) = grind (arith, nat_tests, q, count_less i place xs)
count_without i place size (x ∷ xs) (inr a) = elim (either (x.0 == place)) [ inl e ↦ rw e (omega (arith, count_without i place size xs a)) | inr e ↦ rw e (omega (arith, count_without i place size xs a)) ]

having_given : (i place size end : ℕ) (list : List (ℕ × ℕ)) → having i (given_to list place size) end ≤ one i place size + having i list end
having_given i place size end list = by (nat_le 28 size)
  where
    by : (t : Bool) → having i (if t then (place, size) ∷ list else list) end ≤ one i place size + having i list end
    by true = omega arith
    by false = omega arith

-- ---- a space

abbrev pub OnceIn : SpaceLeft → Type 0
OnceIn l = (i : ℕ) → having i l.listed l.end + count i l.used ≤ 1

pub listed_once : (l : SpaceLeft) → OnceIn l → Once l.listed l.end
listed_once l once i = omega (arith, once i)

-- in one list after the other
pub step_once : (l : SpaceLeft) (place need i : ℕ) → Happens l (Took place need) → Once l.listed l.end → having i (after_act l (Took place need)).listed (after_act l (Took place need)).end + one i place need ≡ having i l.listed l.end
step_once l place need i h once = rw h.1 (having_taken l.listed l.end need i h.0 (once l.end))

pub once_then : (l : SpaceLeft) (act : Act) → Happens l act → OnceIn l → OnceIn (after_act l act)
once_then l (Took place need) h once i = omega (arith, step_once l place need i h (listed_once l once), once i)
once_then l (Gave place size) h once i = omega (arith, having_given i place size l.end l.listed, count_without i place size l.used h, once i)

-- ---- of an image

distinct_both : (xs ys : List ℕ) → Distinct xs → Distinct ys → ((m : ℕ) → In m xs → In m ys → ⊥) → Distinct (xs ++ ys)
distinct_both [] ys d e apart = e
distinct_both (x ∷ xs) ys d e apart = (λ i. elim (In-append x xs ys i) [ inl j ↦ d.0 j | inr j ↦ apart x (inl refl) j ], distinct_both xs ys d.1 e (λ m i. apart m (inr i)))

having_both : (j : ℕ) (xs ys : List (ℕ × ℕ)) (end : ℕ) → having j (xs ++ ys) end ≡ having j xs end + count j ys
having_both j [] ys end = omega (arith, having_counts j ys end)
having_both j (x ∷ xs) ys end = omega (arith, having_both j xs ys end)

module _ {b : List ℕ} (h : HasShape b (shape b)) where
  none_behind : (j x : ℕ) (xs : List ℕ) → x ≤ j → j < x + size_at b x → x + size_at b x ≤ length b → ((m : ℕ) → In m xs → (x + size_at b x ≤ m) ⊎ (m + size_at b m ≤ x)) → having j (sized b xs) (length b) ≡ 0
  none_behind j x [] low high end apart = grind (arith, nat_tests)
  none_behind j x (m ∷ xs) low high end apart = let a = apart m (inl refl) in let more = none_behind j x xs low high end (λ y i. apart y (inr i)) in grind (arith, nat_tests)

  once_among : (j : ℕ) (xs : List ℕ) → Distinct xs → ((m : ℕ) → In m xs → In m (shape b).records) → having j (sized b xs) (length b) ≤ 1
  once_among j [] once sub = grind (arith, nat_tests)
  once_among j (x ∷ xs) once sub =
      let high = (tile_lies b 8 (length b) (shape b).records x h.tiled (sub x (inl refl))).high in
      let apart = λ (m : ℕ) (i : In m xs). tiles_lie_apart b 8 (length b) (shape b).records x m h.tiled (sub x (inl refl)) (sub m (inr i)) (λ q. once.0 (subst (λ (z : ℕ). In z xs) (sym q) i)) in
      grind (arith, nat_tests, once_among j xs once.1 (λ m i. sub m (inr i)), λ (low : x ≤ j) (under : j < x + size_at b x). none_behind j x xs low under high apart)

  unused_in : (m : ℕ) → In m (shape b).unused → In m (shape b).records
  unused_in m i = linkable-in b (shape b).records uir_type m (h.unused_chain.linkable m i)

  in_one : (m : ℕ) → In m ((shape b).unused ++ used_records b) → In m (shape b).records
  in_one m i = elim (In-append m (shape b).unused (used_records b) i) [ inl j ↦ unused_in m j | inr j ↦ (used_says b m j).0 ]

  all_distinct : Distinct ((shape b).unused ++ used_records b)
  all_distinct =
      distinct_both (shape b).unused (used_records b) h.unused_chain.once (filter-distinct (λ (place : ℕ). not (type_at b place == uir_type)) (shape b).records (tiles_distinct b 8 (length b) (shape b).records h.tiled))
      (λ m i j. (used_says b m j).1 (linkable-type b (shape b).records uir_type m (h.unused_chain.linkable m i)))

  pub before_once : OnceIn (space_before b)
  before_once j =
      let all = once_among j ((shape b).unused ++ used_records b) all_distinct in_one in
      let parts = map-append (λ (place : ℕ). (place, size_at b place)) (shape b).unused (used_records b) in
      let both : having j (sized b ((shape b).unused ++ used_records b)) (length b) ≡ having j (unused b (shape b)) (length b) + count j (sized b (used_records b)) =
      ap (λ (xs : List (ℕ × ℕ)). having j xs (length b)) parts ∙ having_both j (unused b (shape b)) (sized b (used_records b)) (length b) in
      subst (λ (n : ℕ). n ≤ 1) both all
