-- Records were cut out of an index, and then a leaf was added to it: an entry that no node uses by then is as it was where it was not used at first either, and -1 elsewhere. And VXRtail, by the top chains on the way.
use Rattle.cdf_cuts.proofs.Common.{Bool, Each, Entries, In, List, Nodes, None, Range, [], ap, arith, block, cases_lt, entry_count, false, if◌then◌else◌, inl, inr, length, lower, no_entry, no_node, node, range, room_at, suc, sym, true, true≢false, unwrap_or, used_count, zero, last_or, ℕ, ◌++◌, ◌<◌, ◌==◌, ◌∙◌, ◌∷◌, ◌≡◌, ◌≤◌, ◌⊎◌, refl}
unfoldable use Rattle.cdf_cuts.proofs.Common.{HasNodes, Names}
use Rattle.std.proofs.Common.{bytes_eq, ◌&&◌, ◌||◌, not}
use Rattle.std.specs.List.{list_any}
use Rattle.cdf_cuts.proofs.CutWords.{cut, cut_below, length_words, words_are}
use Rattle.cdf_cuts.proofs.PlanPlaces.{words_few}
use Rattle.cdf_edits.proofs.Common.{Act, eqb-true, is_in-true, le-leb, lt-leb, ltb-true, nat_lt, nat_tests}
use Rattle.cdf_edits.proofs.Edits.Common.{Each-in}
use Rattle.cdf_cuts.specs.Planning.{opening}
use Rattle.cdf_edits.specs.Index.Grown.{block_if, kept_open, lower_if, new_room, node_if, with_leaf}
unfoldable use Rattle.cdf_edits.specs.Index.Grown.{cut_entries, cut_nodes}
use Rattle.cdf_edits.specs.Index.Written.{EntryIs, UnusedEntries, is_taken_at, top_chain, was_unused}
unfoldable use Rattle.cdf_edits.specs.Index.Written.{uses_entry, uses_entry_below}
use Rattle.cdf_format.proofs.NameRules.{bytes_eq-same}
use Rattle.cdf_format.proofs.Tests.{same_of_bytes_eq}
use Rattle.cdf_format.specs.Index.{Leaf}
use Rattle.cdf_index.proofs.ByLeaf.{Grows, by_leaf}
use Rattle.cdf_puts.proofs.PutNodes.{taken_both}

-- ---- a cut uses no other entries

module _ (from upto m i : ℕ) where
  few : (es : Entries) → entry_count (cut_below (opening from upto) es) ≤ entry_count es
  few es = omega (arith, words_few (opening from upto) es, ap length (words_are (opening from upto) es), length_words (cut_below (opening from upto) es))

  of_node : (place room : ℕ) (es : Entries) (more : Nodes) → uses_entry m i (node_if place room es more) ≡ true → (((place == m) && nat_lt i (entry_count es)) || (uses_entry_below m i es || uses_entry m i more)) ≡ true
  unfolding uses_entry uses_entry_below
  of_node place room no_entry more e = grind (arith, e)
  of_node place room (block first last at packed es) more e = e
  of_node place room (lower first last nodes es) more e = e

  of_block : (rs : List Range) (place : ℕ) (packed : Bool) (es : Entries) → uses_entry_below m i (block_if rs place packed es) ≡ uses_entry_below m i es
  unfolding uses_entry_below
  of_block [] place packed es = refl
  of_block (r ∷ rs) place packed es = refl

  of_lower : (first last : ℕ) (nodes : Nodes) (es : Entries) → uses_entry_below m i (lower_if first last nodes es) ≡ (uses_entry m i nodes || uses_entry_below m i es)
  unfolding uses_entry uses_entry_below
  of_lower first last no_node es = refl
  of_lower first last (node place room fs more) es = refl

  mutual
    unfolding cut_nodes cut_entries uses_entry uses_entry_below

    pub used_before : (ns : Nodes) → uses_entry m i (cut (opening from upto) ns) ≡ true → uses_entry m i ns ≡ true
    used_before no_node e = e
    used_before (node place room es more) e = grind (arith, nat_tests, of_node place room (cut_below (opening from upto) es) (cut (opening from upto) more) e, few es, below_before es, used_before more)

    below_before : (es : Entries) → uses_entry_below m i (cut_below (opening from upto) es) ≡ true → uses_entry_below m i es ≡ true
    below_before no_entry e = e
    below_before (block first last place packed es) e = below_before es (sym (of_block (kept_open from upto (range first last)) place packed (cut_below (opening from upto) es)) ∙ e)
    below_before (lower first last nodes es) e = grind (arith, sym (of_lower _ _ (cut (opening from upto) nodes) (cut_below (opening from upto) es)) ∙ e, used_before nodes, below_before es)

-- ---- an entry that is used in the index is one that its node uses

-- a node has it, or one below the node, or one behind it
where_used : (p q r s : Bool) → ((p && q) || (r || s)) ≡ true → ((p ≡ true) × (q ≡ true)) ⊎ (r ≡ true) ⊎ (s ≡ true)
where_used true true r s e = inl (refl, refl)
where_used true false true s e = inr (inl refl)
where_used true false false s e = inr (inr e)
where_used false q true s e = inr (inl refl)
where_used false q false s e = inr (inr e)

module _ (b records : List ℕ) (vxr i : ℕ) where
  mutual
    unfolding HasNodes Names uses_entry uses_entry_below

    pub node_uses : (levels : ℕ) (index : Nodes) → HasNodes b records levels index → uses_entry vxr i index ≡ true → i < used_count b vxr
    node_uses levels no_node h e = absurd (true≢false (sym e))
    node_uses zero (node place room es more) h e = absurd h
    node_uses (suc levels) (node place room es more) h e = elim (where_used (place == vxr) (nat_lt i (entry_count es)) (uses_entry_below vxr i es) (uses_entry vxr i more) e) [
      | inl x ↦ omega (arith, ltb-true i (entry_count es) x.1, h.0.used_is, ap (used_count b) (eqb-true place vxr x.0))
      | inr x ↦ elim x [ inl y ↦ below_uses levels es h.1 y | inr y ↦ node_uses (suc levels) more h.2 y ]
    ]

    below_uses : (levels : ℕ) (es : Entries) → Names b records levels es → uses_entry_below vxr i es ≡ true → i < used_count b vxr
    below_uses levels no_entry n e = absurd (true≢false (sym e))
    below_uses levels (block first last place packed es) n e = below_uses levels es n.2 e
    below_uses levels (lower first last nodes es) n e = grind (arith, e, node_uses levels nodes n.1, below_uses levels es n.2)

-- ---- unused entries, after a cut and a leaf more

-- an entry that stays from one image to another, and on to the next image
entry_on : (b mid last : List ℕ) (m i : ℕ) (was : Bool) → EntryIs mid last m i true → EntryIs b mid m i was → EntryIs b last m i was
entry_on b mid last m i true x y = record { first_is = x.first_is ∙ y.first_is; last_is = x.last_is ∙ y.last_is; offset_is = x.offset_is ∙ y.offset_is }
entry_on b mid last m i false x y = record { first_is = x.first_is ∙ y.first_is; last_is = x.last_is ∙ y.last_is; offset_is = x.offset_is ∙ y.offset_is }

-- a node that was taken has no entry of before, and an entry that was used was not unused
taken_anew : (b before : List ℕ) (acts : List Act) (m i : ℕ) → is_taken_at acts m ≡ true → was_unused b before acts m i ≡ false
taken_anew b before acts m i e = grind (arith, e)

was_used : (b before : List ℕ) (acts : List Act) (m i : ℕ) → i < used_count b m → was_unused b before acts m i ≡ false
was_used b before acts m i lt = grind (arith, lt-leb (used_count b m) i lt)

-- as long as a node is not taken, the same entries of it were unused
still_unused : (b before : List ℕ) (cut put : List Act) (m i : ℕ) → is_taken_at put m ≡ false → was_unused b before (cut ++ put) m i ≡ was_unused b before cut m i
still_unused b before cut put m i e = grind (arith, taken_both cut put m, e)

module _ (b mid last : List ℕ) (index : Nodes) (before middle after : List ℕ) (cut put : List Act) (entries : (m : ℕ) → In m middle → (i : ℕ) → used_count mid m ≤ i → i < room_at mid m → EntryIs b mid m i (was_unused b before cut m i))
    (unused : Each (UnusedEntries mid last (index ∷ []) middle put) after) (apart : (m : ℕ) → In m middle → is_taken_at put m ≡ false) (come : (m : ℕ) → In m after → In m middle ⊎ (is_taken_at put m ≡ true)) (rooms : (m : ℕ) → In m middle → room_at last m ≡ room_at mid m)
    (uses : (m i : ℕ) → uses_entry m i index ≡ true → i < used_count mid m) (fewer : (m : ℕ) → In m middle → used_count mid m ≤ used_count b m) where
  abbrev acts : List Act
  acts = cut ++ put

  -- in both cases of an unused entry
  either_gone : (m i : ℕ) (was : Bool) → was ≡ false → EntryIs mid last m i was ⊎ ((list_any (uses_entry m i) (index ∷ []) ≡ true) × EntryIs mid last m i false) → EntryIs b last m i false
  either_gone m i true e x = absurd (true≢false e)
  either_gone m i false e (inl x) = x
  either_gone m i false e (inr x) = x.1

  pub entry_then : (m : ℕ) → In m after → (i : ℕ) → used_count last m ≤ i → i < room_at last m → EntryIs b last m i (was_unused b before (cut ++ put) m i)
  entry_then m k i low high =
      let x = Each-in (UnusedEntries mid last (index ∷ []) middle put) after unused m k i low high in
      elim (come m k) [
        | inr t ↦
            let both : is_taken_at acts m ≡ true = grind (arith, taken_both cut put m, t) in
            rw (taken_anew b before acts m i both) (either_gone m i (was_unused mid middle put m i) (taken_anew mid middle put m i t) x)
        | inl j ↦ elim (cases_lt i (used_count mid m)) [
          | inl lt ↦ rw (was_used b before acts m i (omega (arith, lt, fewer m j))) (either_gone m i (was_unused mid middle put m i) (was_used mid middle put m i lt) x)
          | inr ge ↦
              let some : was_unused mid middle put m i ≡ true = rw (is_in-true m middle j, apart m j, le-leb (used_count mid m) i ge) refl in
              let stays : EntryIs mid last m i true = kept m i (was_unused mid middle put m i) some ge x in
              rw (still_unused b before cut put m i (apart m j)) (entry_on b mid last m i (was_unused b before cut m i) stays (entries m j i ge (omega (arith, rooms m j, high))))
        ]
      ]
    where
      one : (p : Bool) → (p || false) ≡ true → p ≡ true
      one true e = refl
      one false e = e

      kept : (m i : ℕ) (was : Bool) → was ≡ true → used_count mid m ≤ i → EntryIs mid last m i was ⊎ ((list_any (uses_entry m i) (index ∷ []) ≡ true) × EntryIs mid last m i false) → EntryIs mid last m i true
      kept m i true e ge (inl x) = x
      kept m i true e ge (inr x) = absurd (omega (arith, ge, uses m i (one (uses_entry m i index) x.0)))
      kept m i false e ge x = absurd (true≢false (sym e))

-- ---- VXRtail

-- the top chain stays as a leaf is added, or the new node is one of it
pub top_new : (new : Leaf) (at : ℕ) (index : Nodes) → (top_chain (with_leaf new at index) ≡ top_chain index) ⊎ ((1 ≤ new_room new.first index) × In at (top_chain (with_leaf new at index)))
top_new new at index = let steps : Grows new at (λ n a a'. (top_chain a' ≡ top_chain a) ⊎ ((1 ≤ n) × In at (top_chain a'))) (λ n es es'. Unit {0}) = grind arith in by_leaf steps index

abbrev last_of : List ℕ → ℕ
last_of xs = unwrap_or (last_or None xs) 0

-- a cut says it by the top chain before and behind it, and so does a leaf more; a node is new in the last chain where the second one is another
pub tail_one : (x y z : List ℕ) (out : Bool) (first mid last : ℕ) → (bytes_eq y z ≡ true → out ≡ false) → (bytes_eq y z ≡ false → out ≡ true) → mid ≡ (if bytes_eq x y then first else last_of y) → last ≡ (if bytes_eq y z then mid else last_of z) → last ≡ (if bytes_eq x x && (bytes_eq x z && not out) then first else last_of z)
tail_one x y z out first mid last none some p q = grind (arith, p, q, none, some, same_of_bytes_eq y z, bytes_eq-same x)
