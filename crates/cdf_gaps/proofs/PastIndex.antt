-- An index of which all records from a first one on are cut, each block keeping those before it: its Firsts are before that one, it has no more entries, no node is wider, and what is cut already is not cut again.
use Rattle.std.specs.Prelude.{max, min}
use Rattle.std.specs.List.{filter}
use Rattle.cdf_puts.proofs.Common.{Ascending, Bool, Each, Entries, Leaf, List, Nodes, Range, Variable, [], ap, arith, block, cases_lt, false, fold, if◌then◌else◌, inl, inr, le-ltb, lower, lt-ltb, next_first, no_entry, no_node, node, range, record_number_limit, refl, suc, sym, zero, ℕ, ◌*◌, ◌++◌, ◌+◌, ◌-◌, ◌<◌, ◌∙◌, ◌∷◌, ◌≡◌, ◌≤◌, block_count, blocks_room, cut_open, entry_count, nat_lt, quotient_up, vxr_bytes}
use Rattle.std.proofs.Math.Nat.{mul-le-mul}
use Rattle.cdf_edits.proofs.Common.{Each-append}
use Rattle.cdf_edits.specs.Index.Blocks.{left_of}
unfoldable use Rattle.cdf_edits.specs.Index.Blocks.{entry_firsts, firsts_of}
use Rattle.cdf_edits.specs.Index.Grown.{block_if, greatest_last, least_first, lower_if, node_if}
unfoldable use Rattle.cdf_edits.specs.Index.Grown.{cut_entries, cut_nodes}
unfoldable use Rattle.cdf_edits.specs.Commands.Room.{entries_below, entries_in, widest, widest_below}
use Rattle.cdf_format.specs.Records.{linked_size}
use Rattle.cdf_index.proofs.OrderLemmas.{end_after}
use Rattle.cdf_index.specs.Order.{past_entries}
unfoldable use Rattle.cdf_index.specs.Order.{AreInOrder, InOrder}
use Rattle.cdf_cuts.proofs.PastKept.{kept_front, kept_none, kept_same}
use Rattle.cdf_cuts.specs.Past.{before_first}
use Rattle.cdf_puts.proofs.CoveringRanges.{of_leaves}

-- ---- the Firsts

module _ (first : ℕ) where
  abbrev Early : List ℕ → Type 0
  Early fs = Each (λ (f : ℕ). f < first) fs

  abbrev left : Nodes → Nodes
  left ns = cut_nodes false (before_first first) ns

  abbrev left_below : Entries → Entries
  left_below es = cut_entries false (before_first first) es

  -- a block keeps what is before the first record that goes, or nothing
  keeps : (f l : ℕ) → l ≤ record_number_limit → f < first → before_first first (range f l) ≡ range f (min l (first - 1)) ∷ []
  keeps f l le lt = sym (kept_same first f l le) ∙ kept_front first f l le lt

  keeps_none : (f l : ℕ) → l ≤ record_number_limit → first ≤ f → before_first first (range f l) ≡ []
  keeps_none f l le low = sym (kept_same first f l le) ∙ kept_none first f l le low

  mutual
    unfolding InOrder AreInOrder cut_nodes cut_entries

    -- nothing is left where each record is one that goes
    none_left : (low high : ℕ) (ns : Nodes) → first ≤ low → high ≤ record_number_limit → InOrder low high ns → left ns ≡ no_node
    none_left low high no_node le h o = refl
    none_left low high (node place room es more) le h o = rw (none_below low high es le h o.0, none_left (past_entries low es) high more (omega (arith, le, end_after low high es o.0)) h o.1) refl

    none_below : (low high : ℕ) (es : Entries) → first ≤ low → high ≤ record_number_limit → AreInOrder low high es → left_below es ≡ no_entry
    none_below low high no_entry le h o = refl
    none_below low high (block f l place packed es) le h o = rw (keeps_none f l (omega (arith, o.2, h)) (omega (arith, o.0, le)), none_below (suc l) high es (omega (arith, o.0, o.1, le)) h o.3) refl
    none_below low high (lower f l ns es) le h o = rw (none_left f l ns (omega (arith, o.0, le)) (omega (arith, o.2, h)) o.3, none_below (suc l) high es (omega (arith, o.0, o.1, le)) h o.4) refl

  node_firsts : (place room : ℕ) (es : Entries) (more : Nodes) → Early (entry_firsts es) → Early (firsts_of more) → Early (firsts_of (node_if place room es more))
  unfolding firsts_of entry_firsts
  node_firsts place room no_entry more e m = m
  node_firsts place room (block f l p packed es) more e m = Each-append (λ (n : ℕ). n < first) (entry_firsts (block f l p packed es)) (firsts_of more) e m
  node_firsts place room (lower f l ns es) more e m = Each-append (λ (n : ℕ). n < first) (entry_firsts (lower f l ns es)) (firsts_of more) e m

  lower_firsts : (f l : ℕ) (ns : Nodes) (es : Entries) → f < first → Early (firsts_of ns) → Early (entry_firsts es) → Early (entry_firsts (lower_if f l ns es))
  unfolding firsts_of entry_firsts
  lower_firsts f l no_node es lt n e = e
  lower_firsts f l (node place room fs more) es lt n e = (lt, Each-append (λ (n : ℕ). n < first) (firsts_of (node place room fs more)) (entry_firsts es) n e)

  mutual
    unfolding InOrder AreInOrder cut_nodes cut_entries firsts_of entry_firsts

    firsts_left : (low high : ℕ) (ns : Nodes) → high ≤ record_number_limit → InOrder low high ns → Early (firsts_of (left ns))
    firsts_left low high no_node h o = tt
    firsts_left low high (node place room es more) h o = node_firsts place room (left_below es) (left more) (firsts_below low high es h o.0) (firsts_left (past_entries low es) high more h o.1)

    firsts_below : (low high : ℕ) (es : Entries) → high ≤ record_number_limit → AreInOrder low high es → Early (entry_firsts (left_below es))
    firsts_below low high no_entry h o = tt
    firsts_below low high (block f l place packed es) h o = elim (cases_lt f first) [
      | inl lt ↦ rw (keeps f l (omega (arith, o.2, h)) lt) (lt, firsts_below (suc l) high es h o.3)
      | inr le ↦ rw (keeps_none f l (omega (arith, o.2, h)) le) (firsts_below (suc l) high es h o.3)
    ]
    firsts_below low high (lower f l ns es) h o = elim (cases_lt f first) [
      | inl lt ↦ lower_firsts f l (left ns) (left_below es) lt (firsts_left f l ns (omega (arith, o.2, h)) o.3) (firsts_below (suc l) high es h o.4)
      | inr le ↦ rw (none_left f l ns le (omega (arith, o.2, h)) o.3) (firsts_below (suc l) high es h o.4)
    ]

  -- each First of the index that is left is before the first record that goes
  pub firsts_early : (nodes : Nodes) → InOrder 0 record_number_limit nodes → Each (λ (f : ℕ). f < first) (firsts_of (cut_nodes false (before_first first) nodes))
  firsts_early nodes o = firsts_left 0 record_number_limit nodes (omega arith) o

-- of Firsts that are before some record, none is past it
pub none_past : (first m : ℕ) (fs : List ℕ) → first ≤ m → Each (λ (f : ℕ). f < first) fs → filter (nat_lt m) fs ≡ []
none_past first m [] le e = refl
none_past first m (f ∷ fs) le e = let low : f ≤ m = omega (arith, e.0, le) in rw (le-ltb m f low) (none_past first m fs le e.1)

pub early : (first : ℕ) (fs : List ℕ) → Each (λ (f : ℕ). f < first) (filter (λ f. nat_lt f first) fs)
early first [] = tt
early first (f ∷ fs) = elim (cases_lt f first) [
  | inl lt ↦ rw (lt-ltb f first lt) (lt, early first fs)
  | inr le ↦ rw (le-ltb f first le) (early first fs)
]

-- so no First is the next one
pub next_none : (first m : ℕ) (fs : List ℕ) → first ≤ m → Each (λ (f : ℕ). f < first) fs → next_first m fs ≡ record_number_limit + 1
next_none first m fs le e = ap (fold min (record_number_limit + 1)) (none_past first m fs le e)

-- ---- entries, and how wide the nodes are

module _ (close : Bool) (keep : Range → List Range) where
  abbrev kept : Nodes → Nodes
  kept ns = cut_nodes close keep ns

  abbrev kept_below : Entries → Entries
  kept_below es = cut_entries close keep es

  abbrev used : Entries → ℕ
  used es = entry_count es + entries_below es

  node_used : (place room : ℕ) (es : Entries) (more : Nodes) → entries_in (node_if place room es more) ≤ used es + entries_in more
  unfolding entries_in entries_below
  node_used place room no_entry more = omega arith
  node_used place room (block f l p packed es) more = omega arith
  node_used place room (lower f l ns es) more = omega arith

  block_used : (rs : List Range) (place : ℕ) (packed : Bool) (es : Entries) → used (block_if rs place packed es) ≤ suc (used es)
  unfolding entries_in entries_below
  block_used [] place packed es = omega arith
  block_used (r ∷ rs) place packed es = omega arith

  lower_used : (f l : ℕ) (ns : Nodes) (es : Entries) → used (lower_if f l ns es) ≤ suc (entries_in ns + used es)
  unfolding entries_in entries_below
  lower_used f l no_node es = omega arith
  lower_used f l (node place room fs more) es = omega arith

  mutual
    unfolding cut_nodes cut_entries entries_in entries_below

    pub fewer_entries : (ns : Nodes) → entries_in (cut_nodes close keep ns) ≤ entries_in ns
    fewer_entries no_node = omega arith
    fewer_entries (node place room es more) = omega (arith, node_used place room (kept_below es) (kept more), fewer_below es, fewer_entries more)

    fewer_below : (es : Entries) → used (kept_below es) ≤ used es
    fewer_below no_entry = omega arith
    fewer_below (block f l place packed es) = omega (arith, block_used (keep (range f l)) place packed (kept_below es), fewer_below es)
    fewer_below (lower f l ns es) = omega (arith, lower_used (if close then least_first (kept ns) else f) (if close then greatest_last (kept ns) else l) (kept ns) (kept_below es), fewer_entries ns, fewer_below es)

  node_wide : (place room : ℕ) (es : Entries) (more : Nodes) → widest (node_if place room es more) ≤ max room (max (widest_below es) (widest more))
  unfolding widest widest_below
  node_wide place room no_entry more = omega arith
  node_wide place room (block f l p packed es) more = omega arith
  node_wide place room (lower f l ns es) more = omega arith

  block_wide : (rs : List Range) (place : ℕ) (packed : Bool) (es : Entries) → widest_below (block_if rs place packed es) ≤ widest_below es
  unfolding widest widest_below
  block_wide [] place packed es = omega arith
  block_wide (r ∷ rs) place packed es = omega arith

  lower_wide : (f l : ℕ) (ns : Nodes) (es : Entries) → widest_below (lower_if f l ns es) ≤ max (widest ns) (widest_below es)
  unfolding widest widest_below
  lower_wide f l no_node es = omega arith
  lower_wide f l (node place room fs more) es = omega arith

  mutual
    unfolding cut_nodes cut_entries widest widest_below

    pub no_wider : (ns : Nodes) → widest (cut_nodes close keep ns) ≤ widest ns
    no_wider no_node = omega arith
    no_wider (node place room es more) = omega (arith, node_wide place room (kept_below es) (kept more), no_wider_below es, no_wider more)

    no_wider_below : (es : Entries) → widest_below (kept_below es) ≤ widest_below es
    no_wider_below no_entry = omega arith
    no_wider_below (block f l place packed es) = omega (arith, block_wide (keep (range f l)) place packed (kept_below es), no_wider_below es)
    no_wider_below (lower f l ns es) = omega (arith, lower_wide (if close then least_first (kept ns) else f) (if close then greatest_last (kept ns) else l) (kept ns) (kept_below es), no_wider ns, no_wider_below es)

-- ---- the room of new blocks is no less in a larger index

pub more_room : (v : Variable) (index index' : Nodes) (u : ℕ) → entries_in index ≤ entries_in index' → widest index ≤ widest index' → blocks_room v index u ≤ blocks_room v index' u
more_room v index index' zero few narrow = omega arith
more_room v index index' (suc u) few narrow =
    let more : quotient_up (suc u) (block_count v) + entries_in index + 1 ≤ quotient_up (suc u) (block_count v) + entries_in index' + 1 = omega (arith, few) in
    let wider : linked_size + vxr_bytes (widest index) ≤ linked_size + vxr_bytes (widest index') = omega (arith, narrow) in
    let all : (quotient_up (suc u) (block_count v) + entries_in index + 1) * (linked_size + vxr_bytes (widest index)) ≤ (quotient_up (suc u) (block_count v) + entries_in index' + 1) * (linked_size + vxr_bytes (widest index')) = mul-le-mul more wider in
    omega (arith, all)

-- ---- a second cut

left_one : (first last f l : ℕ) → f < first → l ≤ last → left_of first last (range f l) ≡ range f (min l (first - 1)) ∷ []
left_one first last f l lt le = rw (lt-ltb f first lt, le-ltb last l le) refl

left_none : (first last f l : ℕ) → first ≤ f → l ≤ last → left_of first last (range f l) ≡ []
left_none first last f l low le = rw (le-ltb f first low, le-ltb last l le) refl

-- ranges that are left of a cut from a first record on are left of the same cut again
pub cut_again : (first last low : ℕ) (leaves : List Leaf) → Ascending low (suc last) leaves → cut_open first last (cut_open first last (of_leaves leaves)) ≡ cut_open first last (of_leaves leaves)
cut_again first last low [] a = refl
cut_again first last low (x ∷ xs) a =
    let rest = cut_open first last (of_leaves xs) in
    let upto : x.last ≤ last = omega (arith, a.2) in
    elim (cases_lt x.first first) [
      | inl lt ↦
          let end = min x.last (first - 1) in
          let same : min end (first - 1) ≡ end = omega arith in
          let once : cut_open first last (of_leaves (x ∷ xs)) ≡ range x.first end ∷ rest = ap (λ (rs : List Range). rs ++ rest) (left_one first last x.first x.last lt upto) in
          let twice : cut_open first last (range x.first end ∷ rest) ≡ range x.first end ∷ cut_open first last rest = ap (λ (rs : List Range). rs ++ cut_open first last rest) (left_one first last x.first end lt (omega (arith, upto)) ∙ ap (λ (n : ℕ). range x.first n ∷ []) same) in
          ap (cut_open first last) once ∙ twice ∙ ap (λ (rs : List Range). range x.first end ∷ rs) (cut_again first last (suc x.last) xs a.3) ∙ sym once
      | inr low ↦
          let once : cut_open first last (of_leaves (x ∷ xs)) ≡ rest = ap (λ (rs : List Range). rs ++ rest) (left_none first last x.first x.last low upto) in
          ap (cut_open first last) once ∙ cut_again first last (suc x.last) xs a.3 ∙ sym once
    ]
