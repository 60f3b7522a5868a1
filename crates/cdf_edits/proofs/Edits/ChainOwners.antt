-- Who owns the records of an image where the entries of one attribute have come to be others.
use Rattle.cdf_edits.proofs.Common.{AreTiles, AttributeShape, Distinct, Edit, EntryKind, In, IsSound, List, Mark, Shape, [], ap, append-nil, arith, attribute_records, cases_eq, chain_of, either, eq-eqb, eqb, false-is_in, filter-in, inl, inr, is_in, length, ne_eqb, owned_records, refl, subst, sym, times, times-none, times-once, true-is_in, type_at, uir_type, unused_records, with_chain, with_in_place, ℕ, ◌++◌, ◌+◌, ◌∙◌, ◌∷◌, ◌≡◌, ◌≢◌, ◌≤◌, ◌⊎◌}
use Rattle.cdf_model.specs.declared.kinds.EntryKind.TheVariants as entries
use Rattle.cdf_edits.specs.Space.Chains.{without}
use Rattle.cdf_edits.proofs.Edits.OwnedOnce.{none_in_use, used_times, unused_none, unused_once, outside_unowned, unused_unowned, spliced_times}
use Rattle.cdf_edits.proofs.Edits.Splice.{spliced}
use Rattle.cdf_edits.proofs.Frame.OwnersApart.{file_records, all_attribute_records, all_variable_records, owned-times, times-append, times-in}

-- ---- one chain of an attribute

records_times : (a : AttributeShape) (m : ℕ) → times m (attribute_records a) ≡ times m (a.adr ∷ []) + (times m a.gr_entries + times m a.z_entries)
records_times a m = times-append m (a.adr ∷ []) (a.gr_entries ++ a.z_entries) ∙ ap (λ (n : ℕ). times m (a.adr ∷ []) + n) (times-append m a.gr_entries a.z_entries)

pub with_chain_times : (a : AttributeShape) (kind : EntryKind) (es : List ℕ) (m : ℕ) → times m (attribute_records (with_chain a kind es)) + times m (chain_of a kind) ≡ times m (attribute_records a) + times m es
with_chain_times a entries.G es m = omega (arith, records_times a m, records_times (record a { gr_entries = es }) m)
with_chain_times a entries.R es m = omega (arith, records_times a m, records_times (record a { gr_entries = es }) m)
with_chain_times a entries.Z es m = omega (arith, records_times a m, records_times (record a { z_entries = es }) m)

-- ---- what comes into a chain, and what goes

-- of these records some come into the chain, and others go
abbrev pub Trades : List ℕ → List ℕ → List ℕ → List ℕ → Type 0
Trades chain chain' gone come = (m : ℕ) → times m chain' + times m gone ≡ times m chain + times m come

once_more : (m x : ℕ) (xs : List ℕ) → times m (x ∷ xs) ≡ times m (x ∷ []) + times m xs
once_more m x xs = times-append m (x ∷ []) xs

pub pushed_trades : (es : List ℕ) (e : ℕ) → Trades es (es ++ e ∷ []) [] (e ∷ [])
pushed_trades es e m = omega (arith, times-append m es (e ∷ []))

-- a member then came, or was one that stays
pub traded_member : (chain chain' gone come : List ℕ) → Distinct chain → Trades chain chain' gone come → (m : ℕ) → In m chain' → In m come ⊎ (In m chain × (In m gone → ⊥))
traded_member chain chain' gone come once trades m i =
    let all = trades m in
    let here = times-in m chain' i in
    elim (either (is_in m come)) [
      | inl x ↦ inl (true-is_in m come x)
      | inr x ↦
          let new = times-none m come (false-is_in m come x) in
          elim (either (is_in m chain)) [
            | inl y ↦ let one = times-once m chain once (true-is_in m chain y) in inr (true-is_in m chain y, (λ j. let went = times-in m gone j in absurd (omega arith)))
            | inr y ↦ let none = times-none m chain (false-is_in m chain y) in absurd (omega arith)
          ]
    ]

-- and what came is a member
pub came_in : (chain chain' gone come : List ℕ) → Trades chain chain' gone come → (m : ℕ) → In m come → times m gone ≤ times m chain → In m chain'
came_in chain chain' gone come trades m i within = elim (either (is_in m chain')) [
  | inl x ↦ true-is_in m chain' x
  | inr x ↦ let all = trades m in let new = times-in m come i in let absent = times-none m chain' (false-is_in m chain' x) in absurd (omega arith)
]

pub one_within : (x : ℕ) (xs : List ℕ) → In x xs → (m : ℕ) → times m (x ∷ []) ≤ times m xs
one_within x xs i m = elim (cases_eq m x) [ inl q ↦ rw (eq-eqb m x q) (times-in m xs (subst (λ (y : ℕ). In y xs) (sym q) i)) | inr ne ↦ rw (ne_eqb m x ne) (omega arith) ]

pub replaced_trades : (es : List ℕ) (old by : ℕ) → In old es → Trades es (with_in_place old by es) (old ∷ []) (by ∷ [])
replaced_trades [] old by i m = absurd i
replaced_trades (e ∷ es) old by i m = elim (cases_eq e old) [
  | inl q ↦ rw (eq-eqb e old q) (let here : times m (e ∷ []) ≡ times m (old ∷ []) = ap (λ (x : ℕ). times m (x ∷ [])) q in swapped (times m (by ∷ es)) (times m (e ∷ es)) (times m (by ∷ [])) (times m (old ∷ [])) (times m (e ∷ [])) (times m es) (once_more m by es) (once_more m e es) here)
  | inr ne ↦
      let there : In old es = elim i [ inl q ↦ absurd (ne (sym q)) | inr j ↦ j ] in
      rw (ne_eqb e old ne) (later (times m (e ∷ with_in_place old by es)) (times m (e ∷ es)) (times m (e ∷ [])) (times m (with_in_place old by es)) (times m es) (times m (old ∷ [])) (times m (by ∷ [])) (once_more m e (with_in_place old by es)) (once_more m e es) (replaced_trades es old by there m))
]
  where
    swapped : (n n' b o e x : ℕ) → n ≡ b + x → n' ≡ e + x → e ≡ o → n + o ≡ n' + b
    swapped n n' b o e x p q r = omega arith

    later : (n n' e x y o b : ℕ) → n ≡ e + x → n' ≡ e + y → x + o ≡ y + b → n + o ≡ n' + b
    later n n' e x y o b p q r = omega arith

pub left_trades : (es : List ℕ) (old : ℕ) → In old es → Trades es (without old es) (old ∷ []) []
left_trades [] old i m = absurd i
left_trades (e ∷ es) old i m = elim (cases_eq e old) [
  | inl q ↦ rw (eq-eqb e old q) (let here : times m (e ∷ []) ≡ times m (old ∷ []) = ap (λ (x : ℕ). times m (x ∷ [])) q in gone (times m (e ∷ es)) (times m (old ∷ [])) (times m (e ∷ [])) (times m es) (once_more m e es) here)
  | inr ne ↦
      let there : In old es = elim i [ inl q ↦ absurd (ne (sym q)) | inr j ↦ j ] in
      rw (ne_eqb e old ne) (later (times m (e ∷ without old es)) (times m (e ∷ es)) (times m (e ∷ [])) (times m (without old es)) (times m es) (times m (old ∷ [])) (once_more m e (without old es)) (once_more m e es) (left_trades es old there m))
]
  where
    gone : (n o e x : ℕ) → n ≡ e + x → e ≡ o → x + o ≡ n + 0
    gone n o e x p q = omega arith

    later : (n n' e x y o : ℕ) → n ≡ e + x → n' ≡ e + y → x + o ≡ y + 0 → n + o ≡ n' + 0
    later n n' e x y o p q r = omega arith

-- ---- the attribute in an image

module _ (s : Shape) (records list : List ℕ) (before : List AttributeShape) (own : AttributeShape) (after : List AttributeShape) (kind : EntryKind) (chain' gone come : List ℕ) (was : s.attributes ≡ before ++ own ∷ after) (trades : Trades (chain_of own kind) chain' gone come) where
  abbrev pub rechained : Shape
  rechained = spliced s records list (before ++ with_chain own kind chain' ∷ after)

  pub traded : (m : ℕ) → used_times rechained m + times m gone ≡ used_times s m + times m come
  traded m =
      let own' = with_chain own kind chain' in
      let flat = λ (a : AttributeShape). ap (times m) (append-nil (attribute_records a)) in
      sums (used_times rechained m) (used_times s m) (times m (chain_of own kind)) (times m chain') (times m gone) (times m come)
      (spliced_times s records list before (own ∷ []) (own' ∷ []) after was m (times m chain') (times m (chain_of own kind)) (joined _ _ _ _ _ _ (flat own') (flat own) (with_chain_times own kind chain' m)))
      (trades m)
    where
      joined : (a b x y p q : ℕ) → a ≡ x → b ≡ y → x + p ≡ y + q → a + p ≡ b + q
      joined a b x y p q e f g = omega arith

      sums : (u' u c c' g h : ℕ) → u' + c ≡ u + c' → c' + g ≡ c + h → u' + g ≡ u + h
      sums u' u c c' g h p q = omega arith

-- one that went is owned by nobody
module _ (b : List ℕ) (s : Shape) (sound : IsSound b s) (records list : List ℕ) (before : List AttributeShape) (own : AttributeShape) (after : List AttributeShape) (kind : EntryKind) (chain' come : List ℕ) (old : ℕ) (was : s.attributes ≡ before ++ own ∷ after) (trades : Trades (chain_of own kind) chain' (old ∷ []) come) (out : In old come → ⊥) where
  once_before : used_times s old ≤ 1
  once_before = at_most (times old (owned_records b s)) (times old (file_records s)) (times old (all_attribute_records s)) (times old (all_variable_records s)) (times old (unused_records b s)) (owned-times b s old) (sound.not_twice old)
    where
      at_most : (o x a v u : ℕ) → o ≡ x + (a + (v + u)) → o ≤ 1 → x + (a + v) ≤ 1
      at_most o x a v u p q = omega arith

  pub gone_unowned : used_times (rechained s records list before own after kind chain' (old ∷ []) come was trades) old ≡ 0
  gone_unowned = none (used_times (rechained s records list before own after kind chain' (old ∷ []) come was trades) old) (used_times s old) (times old (old ∷ [])) (times old come) (traded s records list before own after kind chain' (old ∷ []) come was trades old) once_before (rw (eq-eqb old old refl) refl) (times-none old come out)
    where
      none : (u' u g h : ℕ) → u' + g ≡ u + h → u ≤ 1 → g ≡ 1 → h ≡ 0 → u' ≡ 0
      none u' u g h p q r t = omega arith

  pub gone_free : (now : List ℕ) → AreTiles now 8 (length now) records → type_at now old ≢ uir_type → times old (owned_records now (rechained s records list before own after kind chain' (old ∷ []) come was trades)) ≡ 0
  gone_free now tiled used = none_in_use now (rechained s records list before own after kind chain' (old ∷ []) come was trades) tiled old used gone_unowned

-- ---- an image with records that are for a moment in use and owned by nobody

-- a record that is used by one owner at most, or unused by all
abbrev pub IsHeld : List ℕ → Shape → ℕ → Type 0
IsHeld now s m = ((type_at now m ≢ uir_type) × (used_times s m ≤ 1)) ⊎ ((type_at now m ≡ uir_type) × (used_times s m ≡ 0))

regrouped : (f a v u : ℕ) → f + (a + (v + u)) ≡ f + (a + v) + u
regrouped f a v u = omega arith

-- where no record but the reborn ones has more owners, none is owned twice
pub not_twice_kept : (b now : List ℕ) (s s' : Shape) (marks : List Mark) (reborn : List ℕ) → IsSound b s → Edit b now s.records s'.records marks reborn → ((m : ℕ) → (In m reborn → ⊥) → used_times s' m ≤ used_times s m) → ((m : ℕ) → In m reborn → IsHeld now s' m) → (m : ℕ) → times m (owned_records now s') ≤ 1
not_twice_kept b now s s' marks reborn sound e fewer held m =
    let all = owned-times now s' m ∙ regrouped (times m (file_records s')) (times m (all_attribute_records s')) (times m (all_variable_records s')) (times m (unused_records now s')) in
    let once_before = owned-times b s m ∙ regrouped (times m (file_records s)) (times m (all_attribute_records s)) (times m (all_variable_records s)) (times m (unused_records b s)) in
    let owners : IsHeld now s' m = elim (either (is_in m reborn)) [
      | inl x ↦ held m (true-is_in m reborn x)
      | inr x ↦
          let out = false-is_in m reborn x in
          let less = fewer m out in
          elim (cases_eq (type_at now m) uir_type) [
            | inl u ↦ elim (either (is_in m s'.records)) [
              | inl y ↦ inr (
                u,
                none (used_times s' m) (used_times s m) less (elim (e.kind m (true-is_in m s'.records y)) [
                  | inl j ↦ unused_unowned sound m j.0 (sym j.1 ∙ u)
                  | inr j ↦ elim j [ inl new ↦ outside_unowned sound m new.0 | inr r ↦ absurd (out r) ]
                ]),
              )
              | inr y ↦ inr (u, none (used_times s' m) (used_times s m) less (outside_unowned sound m (λ i. false-is_in m s'.records y (e.sub m i))))
            ]
            | inr used ↦ inl (used, most (used_times s' m) (used_times s m) (times m (unused_records b s)) (times m (owned_records b s)) less once_before (sound.not_twice m))
          ]
    ] in
    elim owners [
      | inl p ↦ at_most (times m (owned_records now s')) (used_times s' m) (times m (unused_records now s')) all p.1 (unused_none now s' e.tiled_now m p.0)
      | inr p ↦ elim (either (is_in m s'.records)) [
        | inl y ↦ one (times m (owned_records now s')) (used_times s' m) (times m (unused_records now s')) all p.1 (unused_once now s' e.tiled_now m (true-is_in m s'.records y) p.0)
        | inr y ↦ nought (times m (owned_records now s')) (used_times s' m) (times m (unused_records now s')) all p.1 (times-none m (unused_records now s') (λ j. false-is_in m s'.records y (filter-in (λ (p : ℕ). eqb (type_at now p) uir_type) s'.records m j)))
      ]
    ]
  where
    none : (u' u : ℕ) → u' ≤ u → u ≡ 0 → u' ≡ 0
    none u' u p q = omega arith

    most : (u' u n o : ℕ) → u' ≤ u → o ≡ u + n → o ≤ 1 → u' ≤ 1
    most u' u n o p q r = omega arith

    at_most : (o u n : ℕ) → o ≡ u + n → u ≤ 1 → n ≡ 0 → o ≤ 1
    at_most o u n p q r = omega arith

    one : (o u n : ℕ) → o ≡ u + n → u ≡ 0 → n ≡ 1 → o ≤ 1
    one o u n p q r = omega arith

    nought : (o u n : ℕ) → o ≡ u + n → u ≡ 0 → n ≡ 0 → o ≤ 1
    nought o u n p q r = omega arith
