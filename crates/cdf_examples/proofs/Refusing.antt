-- What acts leave, whichever they are: records in use were in use or are taken, and unlisted ones were unlisted or have fewer than 28 bytes.
use Rattle.cdf_examples.proofs.Common.{Act, ActsFollow, Among, Bool, Command, Each, Entries, Gave, In, List, Nodes, None, Option, Refused, Some, SpaceLeft, Took, [], after_act, ap, block, entry_count, eq-eqb, false, filter, fold, if◌then◌else◌, inl, inr, list_any, loose_records, lower, nat_le, no_entry, no_node, node, not, refl, size_at, space_before, subst, suc, sym, taken, true, used_records, ℕ, ◌==◌, ◌||◌, ◌∷◌, ◌≡◌, ◌⊎◌}
use Rattle.std.proofs.Common.{◌&&◌}
use Rattle.cdf_edits.specs.Follows.{Follows}

-- no acts lead to an image that is refused, so the command does not
pub never_follows : (b : List ℕ) (c : Command) (now : List ℕ) → Refused b c now → Follows b c now → ⊥
never_follows b c now refused f = refused f.acts (record { within = f.within; acts_follow = f.acts_follow; keeps = f.keeps; does = f.does })

pub unequal : (m n : ℕ) → (m == n) ≡ false → m ≡ n → ⊥
unequal m n f e = clash (m == n) (eq-eqb m n e) f
  where
    clash : (p : Bool) → p ≡ true → p ≡ false → ⊥
    clash true e f = absurd cc
    clash false e f = absurd cc

-- how two indexes, or two records, differ: in the entries of the first node or its Nentries, in the number of nodes, in the Last of the first entry, in the first record of a chain, in the first byte
abbrev pub first_entries : Nodes → ℕ
first_entries no_node = 0
first_entries (node place room entries more) = entry_count entries

abbrev pub first_room : Nodes → ℕ
first_room no_node = 0
first_room (node place room entries more) = room

abbrev pub chain_count : Nodes → ℕ
chain_count no_node = 0
chain_count (node place room entries more) = suc (chain_count more)

abbrev pub last_of_first : Entries → ℕ
last_of_first no_entry = 0
last_of_first (block first last place packed entries) = last
last_of_first (lower first last nodes entries) = last

abbrev pub first_last : Nodes → ℕ
first_last no_node = 0
first_last (node place room entries more) = last_of_first entries

abbrev pub first_number : List ℕ → ℕ
first_number [] = 0
first_number (n ∷ more) = n

abbrev pub first_byte : Option (List ℕ) → ℕ
first_byte None = 0
first_byte (Some []) = 0
first_byte (Some (n ∷ more)) = n

-- ---- pairs of a list

abbrev pub has : ℕ × ℕ → List (ℕ × ℕ) → Bool
has pair list = list_any (λ other. (pair.0 == other.0) && (pair.1 == other.1)) list

true_first : (p q : Bool) → p ≡ true → (p || q) ≡ true
true_first true q e = refl
true_first false q e = absurd cc

true_last : (p q : Bool) → q ≡ true → (p || q) ≡ true
true_last true q e = refl
true_last false q e = e

true_both : (p q : Bool) → p ≡ true → q ≡ true → (p && q) ≡ true
true_both true q e f = f
true_both false q e f = absurd cc

pub among-has : (pair : ℕ × ℕ) (list : List (ℕ × ℕ)) → Among pair list → has pair list ≡ true
among-has pair [] i = absurd i
among-has pair (other ∷ more) (inl e) =
    true_first ((pair.0 == other.0) && (pair.1 == other.1)) (has pair more)
    (true_both (pair.0 == other.0) (pair.1 == other.1) (eq-eqb pair.0 other.0 (ap (λ (p : ℕ × ℕ). p.0) e)) (eq-eqb pair.1 other.1 (ap (λ (p : ℕ × ℕ). p.1) e)))
among-has pair (other ∷ more) (inr i) = true_last ((pair.0 == other.0) && (pair.1 == other.1)) (has pair more) (among-has pair more i)

-- it is not among pairs of which none is this one
pub not_among : (pair : ℕ × ℕ) (list : List (ℕ × ℕ)) → has pair list ≡ false → Among pair list → ⊥
not_among pair list none i = clash (has pair list) (among-has pair list i) none
  where
    clash : (p : Bool) → p ≡ true → p ≡ false → ⊥
    clash true e f = absurd cc
    clash false e f = absurd cc

-- nor among pairs whose sizes are others
abbrev pub has_size : ℕ → List (ℕ × ℕ) → Bool
has_size size list = list_any (λ other. size == other.1) list

pub no_size : (pair : ℕ × ℕ) (list : List (ℕ × ℕ)) → has_size pair.1 list ≡ false → Among pair list → ⊥
no_size pair [] none i = i
no_size pair (other ∷ more) none (inl e) = first (pair.1 == other.1) (has_size pair.1 more) (eq-eqb pair.1 other.1 (ap (λ (p : ℕ × ℕ). p.1) e)) none
  where
    first : (p q : Bool) → p ≡ true → (p || q) ≡ false → ⊥
    first true q e f = absurd cc
    first false q e f = absurd cc
no_size pair (other ∷ more) none (inr i) = no_size pair more (last (pair.1 == other.1) (has_size pair.1 more) none) i
  where
    last : (p q : Bool) → (p || q) ≡ false → q ≡ false
    last true q f = absurd cc
    last false q f = f

among_filter : (pair : ℕ × ℕ) (test : ℕ × ℕ → Bool) (list : List (ℕ × ℕ)) → Among pair (filter test list) → Among pair list
among_filter pair test [] i = i
among_filter pair test (other ∷ more) i = choose (test other) refl i (λ j. among_filter pair test more j)
  where
    choose : (p : Bool) → test other ≡ p → Among pair (filter test (other ∷ more)) → (Among pair (filter test more) → Among pair more) → Among pair (other ∷ more)
    choose true e i later =
        let kept : filter test (other ∷ more) ≡ other ∷ filter test more = rw e refl in
        let here : Among pair (other ∷ filter test more) = subst (Among pair) kept i in
        elim here [ inl q ↦ inl q | inr j ↦ inr (later j) ]
    choose false e i later =
        let gone : filter test (other ∷ more) ≡ filter test more = rw e refl in
        let there : Among pair (filter test more) = subst (Among pair) gone i in
        inr (later there)

-- ---- what acts leave

-- a record in use was in use, or it was taken
pub used_after : (acts : List Act) (left : SpaceLeft) (pair : ℕ × ℕ) → Among pair (fold after_act left acts).used → Among pair left.used ⊎ Among pair (taken acts)
used_after [] left pair i = inl i
used_after (Took place need ∷ more) left pair i = elim (used_after more (after_act left (Took place need)) pair i) [
  | inl j ↦ elim j [ inl e ↦ inr (inl e) | inr k ↦ inl k ]
  | inr j ↦ inr (inr j)
]
used_after (Gave place size ∷ more) left pair i = elim (used_after more (after_act left (Gave place size)) pair i) [
  | inl j ↦ inl (among_filter pair (λ other. not (other.0 == place)) left.used j)
  | inr j ↦ inr j
]

-- an unlisted one was unlisted, or it has fewer than 28 bytes
pub loose_after : (acts : List Act) (left : SpaceLeft) (pair : ℕ × ℕ) → Among pair (fold after_act left acts).loose → Among pair left.loose ⊎ (nat_le 28 pair.1 ≡ false)
loose_after [] left pair i = inl i
loose_after (Took place need ∷ more) left pair i = loose_after more (after_act left (Took place need)) pair i
loose_after (Gave place size ∷ more) left pair i = elim (loose_after more (after_act left (Gave place size)) pair i) [
  | inl j ↦ choose (nat_le 28 size) refl j
  | inr small ↦ inr small
]
  where
    choose : (p : Bool) → nat_le 28 size ≡ p → Among pair (if p then left.loose else (place, size) ∷ left.loose) → Among pair left.loose ⊎ (nat_le 28 pair.1 ≡ false)
    choose true e j = inl j
    choose false e j = elim j [ inl q ↦ inr (subst (λ (o : ℕ × ℕ). nat_le 28 o.1 ≡ false) (sym q) e) | inr k ↦ inl k ]

-- of a record of an image
pub each_in : (P : ℕ → Type 0) (places : List ℕ) (place : ℕ) → Each P places → In place places → P place
each_in P [] place e i = absurd i
each_in P (other ∷ more) place e (inl q) = subst P (sym q) e.0
each_in P (other ∷ more) place e (inr i) = each_in P more place e.1 i

module _ {b now : List ℕ} {acts : List Act} (f : ActsFollow b now acts) where
  pub in_use : (place : ℕ) → In place (used_records now) → Among (place, size_at now place) (space_before b).used ⊎ Among (place, size_at now place) (taken acts)
  in_use place i = used_after acts (space_before b) (place, size_at now place) (each_in (λ m. Among (m, size_at now m) (fold after_act (space_before b) acts).used) (used_records now) place f.left.used_are i)

  pub unlisted : (place : ℕ) → In place (loose_records now) → Among (place, size_at now place) (space_before b).loose ⊎ (nat_le 28 (size_at now place) ≡ false)
  unlisted place i = loose_after acts (space_before b) (place, size_at now place) (each_in (λ m. Among (m, size_at now m) (fold after_act (space_before b) acts).loose) (loose_records now) place f.left.loose_are i)

  -- a record of at least 28 bytes has not become unlisted
  pub none_unlisted : (place : ℕ) → In place (loose_records now) → nat_le 28 (size_at now place) ≡ true → has (place, size_at now place) (space_before b).loose ≡ false → ⊥
  none_unlisted place i long was = elim (unlisted place i) [
    | inl j ↦ not_among (place, size_at now place) (space_before b).loose was j
    | inr small ↦ clash (nat_le 28 (size_at now place)) long small
  ]
    where
      clash : (p : Bool) → p ≡ true → p ≡ false → ⊥
      clash true e f = absurd cc
      clash false e f = absurd cc

  -- a record in use that was not in use with this size is taken
  pub is_taken_if : (place : ℕ) → In place (used_records now) → has (place, size_at now place) (space_before b).used ≡ false → Among (place, size_at now place) (taken acts)
  is_taken_if place i was = elim (in_use place i) [
    | inl j ↦ absurd (not_among (place, size_at now place) (space_before b).used was j)
    | inr j ↦ j
  ]
