-- How large a put makes the file at most, by what was read of the variable.
use Rattle.cdf_var_records.proofs.Common.{None, Option, Some, [], block_count, extent, map, min, sum_by-cons, Ascending, Form, Good, HasIndex, IsForm, List, Nodes, Variable, ap, arith, blocks_room, covered, false, first_written, index_at, leaves_ascend, leaves_of, length, number, packed_room, put_room, ranges_before_put, ranges_of, record_number_limit, refl, subst, suc, sym, uncovered, variable_at, vdr_vxr_head, ℕ, ◌+◌, ◌-◌, ◌<◌, ◌∙◌, ◌∷◌, ◌≡◌, ◌≤◌, ◌≡◌}
use Rattle.cdf_edits.proofs.Common.{Leaf, either, inl, inr, lt-ltb, ltb, nat_tests}
use Rattle.cdf_edits.specs.Commands.Room.{entries_in, quotient_up, widest}
use Rattle.cdf_format.specs.Records.{linked_size, vxr_bytes}
use Rattle.cdf_edits.specs.Index.Blocks.{cut_open, is_sparse, range, record_length, shared}
use Rattle.cdf_puts.proofs.CoveringRanges.{of_leaves}
use Rattle.cdf_puts.specs.Starts.{IsRightOf, IsWithin, LeavesEntries, known_of}
use Rattle.cdf_puts.specs.declared.known_index.IndexBound.{IndexBound}
use Rattle.cdf_puts.specs.declared.known_index.KnownIndex.{KnownIndex}
use Rattle.cdf_puts.specs.declared.starts.Starts.{Starts}
use Rattle.cdf_var_records.specs.Room.{ExpectsPut, bytes_by, room_by, room_in}
use Rattle.cdf_var_records.specs.declared.put_room.NewBlocks.{NewBlocks}
use Rattle.std.proofs.Math.Nat.{mul-le-mul}
use Rattle.std.specs.Prelude.{IfSome, zero, ◌*◌, if◌then◌else◌}
use Rattle.cdf_model.specs.declared.kinds.Sparse.{Sparse}
use Rattle.cdf_var_records.proofs.RecordReading.{index, lies}

-- ---- the records that a put writes

-- under a rule, what is past MaxRec is cut before a record past MaxRec + 1 is put, so that it has no block
none_past : (r cut : ℕ) (xs : List Leaf) → cut < r → (low : ℕ) → Ascending low (suc record_number_limit) xs → covered r r (cut_open cut record_number_limit (of_leaves xs)) ≡ 0
none_past r cut [] lt low a = refl
none_past r cut (x ∷ xs) lt low a =
    let whole : ltb record_number_limit x.last ≡ false = grind (arith, nat_tests, a.2) in
    let rest = cut_open cut record_number_limit (of_leaves xs) in
    let so = none_past r cut xs lt (suc x.last) a.3 in
    elim (either (ltb x.first cut)) [
      | inl t ↦
          let before : x.first < cut = grind (arith, nat_tests, t) in
          let more = sum_by-cons (λ n. n) (shared r r (range x.first (min x.last (cut - 1)))) (map (shared r r) rest) in
          rw (t, whole) (omega (arith, before, lt, so, more))
      | inr t ↦ rw (t, whole) so
    ]

pub first_upto : (v : Variable) (r from : ℕ) → from ≡ first_written v r → from ≤ r
first_upto v r from from_is = elim (either (is_sparse v.sparse)) [ inl t ↦ omega (arith, rw t at from_is) | inr t ↦ omega (arith, rw t at from_is) ]

-- without a gap it is the record itself, else a rule decides
pub first_there : (v : Variable) (r : ℕ) {count : ℕ} → count ≡ extent v.max_rec → r ≤ count → r ≡ first_written v r
first_there v r is le = elim (either (is_sparse v.sparse)) [ inl t ↦ rw t refl | inr t ↦ rw t (omega (arith, is, le)) ]

pub first_behind : (v : Variable) (r : ℕ) {count from : ℕ} {rule : Sparse} → count ≡ extent v.max_rec → count < r → rule ≡ v.sparse → from ≡ (if is_sparse rule then r else count) → from ≡ first_written v r
first_behind v r {rule = rule} is lt rule_is from_is =
    from_is ∙ (λ i. if is_sparse (rule_is i) then r else is i) ∙ elim (either (is_sparse v.sparse)) [ inl t ↦ rw t refl | inr t ↦ rw t (omega (arith, is, lt)) ]

pub cut_first : (v : Variable) (nodes : Nodes) (r from : ℕ) → from ≡ first_written v r → Ascending 0 (suc record_number_limit) (leaves_of nodes) → extent v.max_rec < from → r + 1 - from ≡ uncovered v nodes r
cut_first v nodes r from from_is a past = elim (either (is_sparse v.sparse)) [
  | inl t ↦
      let is : from ≡ r = rw t at from_is in
      let cut = cut_open (extent v.max_rec) record_number_limit (ranges_of nodes) in
      let ranges : ranges_before_put v nodes r ≡ cut = rw (t, lt-ltb (extent v.max_rec) r (omega arith)) refl in
      let none : covered from r cut ≡ 0 = ap (λ (k : ℕ). covered k r cut) is ∙ none_past r (extent v.max_rec) (leaves_of nodes) (omega arith) 0 a in
      omega (arith, none) ∙ (λ i. (r + 1 - from_is i) - covered (from_is i) r (sym ranges i))
  | inr t ↦ absurd (omega (arith, rw t at from_is))
]

room_is : (v : Variable) (nodes : Nodes) (r missing : ℕ) → missing ≡ uncovered v nodes r → put_room v nodes r ≡ blocks_room v nodes missing + packed_room v nodes r
room_is v nodes r missing is = ap (λ (u : ℕ). blocks_room v nodes u + packed_room v nodes r) (sym is)

-- the room of new blocks, by what they are to have
blocks_by : (v : Variable) (nodes : Nodes) (missing : ℕ) → blocks_room v nodes missing ≡ bytes_by (block_count v) (record_length v) missing (entries_in nodes) (widest nodes)
blocks_by v nodes zero = refl
blocks_by v nodes (suc u) = refl

-- it is no less in a larger index
grows : (count size missing entries entries' wide wide' : ℕ) → entries ≤ entries' → wide ≤ wide' → bytes_by count size missing entries wide ≤ bytes_by count size missing entries' wide'
grows count size zero entries entries' wide wide' le less = omega arith
grows count size (suc u) entries entries' wide wide' le less =
    let more : quotient_up (suc u) count + entries + 1 ≤ quotient_up (suc u) count + entries' + 1 = omega arith in
    let wider : linked_size + vxr_bytes wide ≤ linked_size + vxr_bytes wide' = omega arith in
    let all : (quotient_up (suc u) count + entries + 1) * (linked_size + vxr_bytes wide) ≤ (quotient_up (suc u) count + entries' + 1) * (linked_size + vxr_bytes wide') = mul-le-mul more wider in
    omega (arith, all)

pub room_within : (nodes : Nodes) (blocks : NewBlocks) (bound : IndexBound) → IsWithin nodes bound → room_in nodes blocks ≤ room_by blocks bound.entries bound.widest
room_within nodes blocks bound is = grows blocks.count blocks.size blocks.missing (entries_in nodes) bound.entries (widest nodes) bound.widest is.few is.narrow

none_more : (nodes : Nodes) {more : ℕ} (known : Option IndexBound) → IfSome known (IsWithin nodes) → more ≡ 0 → IfSome known (λ bound. entries_in nodes + more ≤ bound.entries)
none_more nodes None within none = tt
none_more nodes (Some bound) within none = omega (arith, within.few, none)

none_left : (nodes : Nodes) {more : ℕ} (known : Option KnownIndex) → IfSome known (IsRightOf nodes) → more ≡ 0 → IfSome known (λ k. LeavesEntries k nodes more)
none_left nodes None is none = tt
none_left nodes (Some known) is none = none_more nodes known.bound is.bound none

module _ {b : List ℕ} {form : Form} (good : Good b) (is : IsForm b form) (r : ℕ) where
  abbrev pub vdr : ℕ
  vdr = form.place.vdr

  abbrev pub v : Variable
  v = variable_at b vdr

  abbrev pub nodes : Nodes
  nodes = index_at b (number b vdr vdr_vxr_head)

  pub head_lies : vdr + 340 ≤ length b
  head_lies = lies good is

  module _ {x : List ℕ} {head : ℕ} (same : x ≡ b) (head_is : head ≡ number b vdr vdr_vxr_head) where
    pub index_same : index_at x head ≡ nodes
    index_same = λ i. index_at (same i) (head_is i)

    pub index_there : HasIndex x head
    index_there = subst (λ (y : List ℕ). HasIndex y head) (sym same) (subst (HasIndex b) (sym head_is) (index good is))

    pub leaves_rise : Ascending 0 (suc record_number_limit) (leaves_of (index_at x head))
    leaves_rise = leaves_ascend 0 record_number_limit (index_at x head) index_there.order (omega arith)

  module _ (missing : ℕ) (missing_is : missing ≡ uncovered v nodes r) where
    room_there : put_room v nodes r ≡ blocks_room v nodes missing + packed_room v nodes r
    room_there = room_is v nodes r missing missing_is

    -- the room is that of these blocks and of those that are rewritten, and of these alone where no record is without one
    pub blocks_there : (blocks : NewBlocks) → blocks.count ≡ block_count v → blocks.size ≡ record_length v → blocks.missing ≡ missing → put_room v nodes r ≡ room_in nodes blocks + packed_room v nodes r
    blocks_there blocks count_is size_is same =
        room_there
        ∙ ap (λ (n : ℕ). n + packed_room v nodes r) (blocks_by v nodes missing)
        ∙ (λ i. bytes_by (sym count_is i) (sym size_is i) (sym same i) (entries_in nodes) (widest nodes) + packed_room v nodes r)

    pub none_there : missing ≡ 0 → put_room v nodes r ≡ packed_room v nodes r
    none_there none = omega (arith, room_there, ap (blocks_room v nodes) none)

    -- what is rewritten takes no more than all
    pub rewritten_there : packed_room v nodes r ≤ put_room v nodes r
    rewritten_there = omega (arith, room_there)

    -- and an index that is known to be no larger than a bound has room for no entry more
    pub none_expected : (starts : Starts) → IfSome (known_of starts vdr) (IsRightOf nodes) → missing ≡ 0 → ExpectsPut b vdr r starts
    none_expected starts is_right none = none_left nodes (known_of starts vdr) is_right (sym missing_is ∙ none)
