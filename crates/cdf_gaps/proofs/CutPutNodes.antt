-- The nodes of an index that was cut, and to which leaves were then added: their unused entries and their spare bytes are as a command leaves them.
use Rattle.cdf_edits.proofs.Common.{Act, Bool, In, List, Nodes, arith, cases_lt, false, inl, inr, is_in-true, le-leb, list_any, nat_tests, refl, room_at, size_at, sym, true, true≢false, used_count, ℕ, ◌+◌, ◌++◌, ◌<◌, ◌||◌, ◌∙◌, ◌≡◌, ◌≤◌, ◌⊎◌}
use Rattle.cdf_edits.proofs.Edits.Common.{Each-in, each, same-then}
use Rattle.cdf_edits.specs.Index.Written.{EntryIs, NodeSpareStays, NodesFollow, UnusedEntries, is_taken_at, uses_entry, was_unused}
use Rattle.cdf_format.specs.Bytes.{Same}
use Rattle.cdf_format.specs.Records.{vxr_bytes}
use Rattle.cdf_puts.proofs.PutNodes.{taken_both}

-- a node that was taken has no entry of before
taken_anew : (b before : List ℕ) (acts : List Act) (m i : ℕ) → is_taken_at acts m ≡ true → was_unused b before acts m i ≡ false
taken_anew b before acts m i e = grind (arith, e)

-- as long as a node is not taken, the same entries of it were unused
still_unused : (b before : List ℕ) (cut put : List Act) (m i : ℕ) → is_taken_at put m ≡ false → was_unused b before (cut ++ put) m i ≡ was_unused b before cut m i
still_unused b before cut put m i e = grind (arith, taken_both cut put m, e)

-- an entry that stays from one image to another, and on to the next image
entry_on : (b mid last : List ℕ) (m i : ℕ) (was : Bool) → EntryIs mid last m i true → EntryIs b mid m i was → EntryIs b last m i was
entry_on b mid last m i true x y = record { first_is = x.first_is ∙ y.first_is; last_is = x.last_is ∙ y.last_is; offset_is = x.offset_is ∙ y.offset_is }
entry_on b mid last m i false x y = record { first_is = x.first_is ∙ y.first_is; last_is = x.last_is ∙ y.last_is; offset_is = x.offset_is ∙ y.offset_is }

module _ (b mid last : List ℕ) (through : List Nodes) (before middle after : List ℕ) (cut put : List Act) (entries : (m : ℕ) → In m middle → (i : ℕ) → used_count mid m ≤ i → i < room_at mid m → EntryIs b mid m i (was_unused b before cut m i)) (spares : (m : ℕ) → In m middle → NodeSpareStays b mid cut m)
    (f : NodesFollow mid last through middle after put) (apart : (m : ℕ) → In m middle → is_taken_at put m ≡ false) (come : (m : ℕ) → In m after → In m middle ⊎ (is_taken_at put m ≡ true)) (rooms : (m : ℕ) → In m middle → room_at last m ≡ room_at mid m) (sizes : (m : ℕ) → In m middle → size_at mid m ≡ size_at b m)
    (uses : (m i : ℕ) → In m middle → i < used_count mid m → list_any (uses_entry m i) through ≡ true) where
  abbrev acts : List Act
  acts = cut ++ put

  -- a node that stayed
  kept_entry : (m i : ℕ) → In m middle → i < room_at mid m → EntryIs mid last m i (was_unused mid middle put m i) → EntryIs b last m i (was_unused b before acts m i) ⊎ ((list_any (uses_entry m i) through ≡ true) × EntryIs b last m i false)
  kept_entry m i j high x = elim (cases_lt i (used_count mid m)) [
    | inl lt ↦
        let none : was_unused mid middle put m i ≡ false = grind (arith, nat_tests, lt) in
        inr (uses m i j lt, rw none at x)
    | inr ge ↦
        let some : was_unused mid middle put m i ≡ true = rw (is_in-true m middle j, apart m j, le-leb (used_count mid m) i ge) refl in
        inl (rw (still_unused b before cut put m i (apart m j)) (entry_on b mid last m i (was_unused b before cut m i) (rw some at x) (entries m j i ge high)))
  ]

  -- a node that was taken
  new_entry : (m i : ℕ) → is_taken_at put m ≡ true → EntryIs mid last m i (was_unused mid middle put m i) → EntryIs b last m i (was_unused b before acts m i)
  new_entry m i t x =
      let both : is_taken_at acts m ≡ true = grind (arith, taken_both cut put m, t) in
      rw (taken_anew b before acts m i both) (rw (taken_anew mid middle put m i t) at x)

  unused_now : (m : ℕ) → In m after → UnusedEntries b last through before acts m
  unused_now m k i low high = elim (Each-in (UnusedEntries mid last through middle put) after f.unused m k i low high) [
    | inr x ↦ inr x
    | inl x ↦ elim (come m k) [ inl j ↦ kept_entry m i j (omega (arith, rooms m j, high)) x | inr t ↦ inl (new_entry m i t x) ]
  ]

  spare_now : (m : ℕ) → In m after → NodeSpareStays b last acts m
  spare_now m k e =
      let none : (is_taken_at cut m ≡ false) × (is_taken_at put m ≡ false) = parts (is_taken_at cut m) (is_taken_at put m) (sym (taken_both cut put m) ∙ e) in
      elim (come m k) [
        | inr t ↦ absurd (true≢false (sym t ∙ none.1))
        | inl j ↦
            let second : Same mid last (m + vxr_bytes (room_at last m)) (m + size_at mid m) = Each-in (NodeSpareStays mid last put) after f.spare m k none.1 in
            let first : Same b mid (m + vxr_bytes (room_at mid m)) (m + size_at b m) = spares m j none.0 in
            same-then b mid last (m + vxr_bytes (room_at last m)) (m + size_at b m) (rw (rooms m j) first) (rw (← sizes m j) second)
      ]
    where
      parts : (p q : Bool) → (p || q) ≡ false → (p ≡ false) × (q ≡ false)
      parts true q e = absurd (true≢false e)
      parts false q e = (refl, e)

  pub nodes_then : NodesFollow b last through before after acts
  nodes_then = record { unused = each (UnusedEntries b last through before acts) after unused_now; spare = each (NodeSpareStays b last acts) after spare_now }
