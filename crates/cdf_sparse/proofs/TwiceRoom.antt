-- What is taken where records are deleted under a rule for missing records is within the room of the command: a block for the later records of a leaf that is divided, and a node no wider than the widest. No image is longer by more than was taken.
use Rattle.cdf_puts.proofs.Common.{Act, ActsFollow, Bool, Each, Each-split, Entries, Gave, Grows, HasNodes, IsOneOf, Kind, Leaf, List, Names, NodeFits, Nodes, Range, SpaceLeft, Took, Variable, VariableShape, [], after_act, ap, arith, block, by_leaf, either, entry_count, false, filter, fits, fold, has, if◌then◌else◌, inl, inr, leaf, leaf_acts, leaves_of, length, lower, lower_nodes, lt-ltb, map, max, nat_tests, new_room, no_entry, no_node, node, nodes_of, range, record_bytes, refl, shape, shared, space_before, suc, sum_by-cons, taken, taken_bytes, times_le, true, variable_of, vxr_bytes, widest, widest_below, zero, ℕ, ◌*◌, ◌++◌, ◌+◌, ◌-◌, ◌==◌, ◌∙◌, ◌∷◌, ◌≡◌, ◌≤◌}
use Rattle.std.specs.List.{sum}
use Rattle.cdf_edits.proofs.Edits.ActsThen.{taken-gave}
use Rattle.cdf_edits.specs.Commands.Room.{cut_room, cuts_in_part, del_recs_cuts_in_part, range_bytes}
use Rattle.cdf_edits.specs.Index.Blocks.{extent_after}
use Rattle.cdf_edits.specs.Index.Grown.{block_if, greatest_last, kept_open, least_first, lower_if, node_if}
unfoldable use Rattle.cdf_edits.specs.Index.Grown.{cut_entries, cut_nodes}
use Rattle.cdf_format.specs.Records.{linked_size, vvr_bytes}
use Rattle.cdf_index.proofs.Measured.{seven_at_least}
use Rattle.cdf_index.proofs.Saying.{count_both}
use Rattle.cdf_puts.proofs.PutRoom.{leaf_bytes, taken_sum}
use Rattle.cdf_cuts.specs.Past.{past_acts, past_span}
use Rattle.cdf_cuts.specs.Planning.{freed_of, plan_of}
use Rattle.cdf_gaps.proofs.PastIndex.{no_wider}
use Rattle.cdf_sparse.proofs.TwiceLeaves.{taken_opening}
use Rattle.cdf_sparse.proofs.TwiceLeft.{TwiceLeft}
use Rattle.cdf_sparse.specs.Opening.{IsDivided, OneDivided, index_opened, opening_acts}

-- ---- no node has more entries than it has room for

unfoldable mutual
  pub Roomy : Nodes → Type 0
  Roomy no_node = Unit {0}
  Roomy (node place room es more) = (entry_count es ≤ room) × RoomyBelow es × Roomy more

  pub RoomyBelow : Entries → Type 0
  RoomyBelow no_entry = Unit {0}
  RoomyBelow (block first last place packed es) = RoomyBelow es
  RoomyBelow (lower first last nodes es) = Roomy nodes × RoomyBelow es

-- in an image that is sound
mutual
  unfolding HasNodes Names nodes_of lower_nodes Roomy RoomyBelow

  roomy_in : (b records : List ℕ) (levels : ℕ) (ns : Nodes) → HasNodes b records levels ns → Each (NodeFits b) (nodes_of ns) → Roomy ns
  roomy_in b records levels no_node h f = tt
  roomy_in b records zero (node place room es more) h f = absurd h
  roomy_in b records (suc levels) (node place room es more) h f =
      let parts = Each-split (NodeFits b) (lower_nodes es) (nodes_of more) f.1 in
      (omega (arith, h.0.room_is, h.0.used_is, f.0.1), roomy_below b records levels es h.1 parts.0, roomy_in b records (suc levels) more h.2 parts.1)

  roomy_below : (b records : List ℕ) (levels : ℕ) (es : Entries) → Names b records levels es → Each (NodeFits b) (lower_nodes es) → RoomyBelow es
  roomy_below b records levels no_entry h f = tt
  roomy_below b records levels (block first last place packed es) h f = roomy_below b records levels es h.2 f
  roomy_below b records levels (lower first last ns es) h f =
      let parts = Each-split (NodeFits b) (nodes_of ns) (lower_nodes es) f in
      (roomy_in b records levels ns h.1 parts.0, roomy_below b records levels es h.2 parts.1)

-- and so where less is left of it
module _ (close : Bool) (keep : Range → List Range) where
  roomy_node : (place room : ℕ) (es : Entries) (more : Nodes) → entry_count es ≤ room → RoomyBelow es → Roomy more → Roomy (node_if place room es more)
  unfolding Roomy RoomyBelow
  roomy_node place room no_entry more le e m = m
  roomy_node place room (block f l p packed es) more le e m = (le, e, m)
  roomy_node place room (lower f l ns es) more le e m = (le, e, m)

  -- how many entries are left, and that those below them have room
  abbrev Fewer : ℕ → Entries → Type 0
  Fewer n es = (entry_count es ≤ n) × RoomyBelow es

  roomy_block : (rs : List Range) (place n : ℕ) (packed : Bool) (es : Entries) → Fewer n es → Fewer (suc n) (block_if rs place packed es)
  unfolding RoomyBelow
  roomy_block [] place n packed es e = (omega (arith, e.0), e.1)
  roomy_block (r ∷ rs) place n packed es e = (omega (arith, e.0), e.1)

  roomy_lower : (f l n : ℕ) (ns : Nodes) (es : Entries) → Roomy ns → Fewer n es → Fewer (suc n) (lower_if f l ns es)
  unfolding RoomyBelow
  roomy_lower f l n no_node es r e = (omega (arith, e.0), e.1)
  roomy_lower f l n (node place room fs more) es r e = (omega (arith, e.0), (r, e.1))

  mutual
    unfolding cut_nodes cut_entries Roomy RoomyBelow

    roomy_cut : (ns : Nodes) → Roomy ns → Roomy (cut_nodes close keep ns)
    roomy_cut no_node r = tt
    roomy_cut (node place room es more) r =
        let e = fewer_cut es r.1 in
        roomy_node place room (cut_entries close keep es) (cut_nodes close keep more) (omega (arith, e.0, r.0)) e.1 (roomy_cut more r.2)

    fewer_cut : (es : Entries) → RoomyBelow es → Fewer (entry_count es) (cut_entries close keep es)
    fewer_cut no_entry r = (omega arith, tt)
    fewer_cut (block f l place packed es) r = roomy_block (keep (range f l)) place (entry_count es) packed (cut_entries close keep es) (fewer_cut es r)
    fewer_cut (lower f l ns es) r =
        roomy_lower (if close then least_first (cut_nodes close keep ns) else f) (if close then greatest_last (cut_nodes close keep ns) else l) (entry_count es) (cut_nodes close keep ns) (cut_entries close keep es) (roomy_cut ns r.0) (fewer_cut es r.1)

-- a new node is no wider than the widest
new_room_grows : (new : Leaf) (at : ℕ) → Grows new at (λ n a a'. Roomy a → n ≤ widest a) (λ n es es'. RoomyBelow es → n ≤ widest_below es)
unfolding widest widest_below Roomy RoomyBelow
new_room_grows new at = grind (arith, nat_tests, count_both, seven_at_least)

pub new_room_within : (f : ℕ) (index : Nodes) → Roomy index → new_room f index ≤ widest index
new_room_within f index r = by_leaf (new_room_grows (leaf f 0 0 false) 0) index r

-- ---- the room that one range has in it

pub sum_has : (g : Range → ℕ) (p : Range → Bool) (leaves : List Leaf) (l : Leaf) → IsOneOf leaves l → p (range l.first l.last) ≡ true → g (range l.first l.last) ≤ sum (map g (filter p (map (λ (m : Leaf). range m.first m.last) leaves)))
sum_has g p [] l i e = absurd i
sum_has g p (x ∷ leaves) l (inl q) e =
    let rest = map g (filter p (map (λ (m : Leaf). range m.first m.last) leaves)) in
    let here : p (range x.first x.last) ≡ true = ap (λ (m : Leaf). p (range m.first m.last)) q ∙ e in
    let same : g (range x.first x.last) ≡ g (range l.first l.last) = ap (λ (m : Leaf). g (range m.first m.last)) q in
    let both = sum_by-cons (λ x. x) (g (range x.first x.last)) rest in
    rw here (omega (arith, both, same))
sum_has g p (x ∷ leaves) l (inr i) e =
    let rest = map g (filter p (map (λ (m : Leaf). range m.first m.last) leaves)) in
    let both = sum_by-cons (λ x. x) (g (range x.first x.last)) rest in
    let later = sum_has g p leaves l i e in
    elim (either (p (range x.first x.last))) [ inl t ↦ rw t (omega (arith, both, later)) | inr t ↦ rw t later ]

-- a leaf that is divided is cut in part
pub divided_part : (first last : ℕ) (l : Leaf) → first ≤ last → IsDivided first last l → cuts_in_part first last (range l.first l.last) ≡ true
divided_part first last l order d =
    let begins = d.begins in
    let ends = d.ends in
    rw (lt-ltb 0 (shared first last (range l.first l.last)) (omega (arith, order, begins, ends)), lt-ltb (shared first last (range l.first l.last)) (l.last + 1 - l.first) (omega (arith, order, begins, ends))) refl

-- a node is taken, or none
node_within : (room wide : ℕ) → room ≤ wide → (if room == 0 then 0 else vxr_bytes room) ≤ vxr_bytes wide
node_within zero wide le = omega arith
node_within (suc room) wide le = grind (arith, le)

bytes_of : (acts acts' : List Act) → taken acts ≡ taken acts' → taken_bytes acts ≡ taken_bytes acts'
bytes_of acts acts' e = ap (λ (takes : List (ℕ × ℕ)). sum (map (λ (take : ℕ × ℕ). take.1) takes)) e

-- ---- acts may also free

ends_within : (l : SpaceLeft) (acts : List Act) → (fold after_act l acts).end ≤ l.end + taken_bytes acts
ends_within l [] = omega arith
ends_within l (Took place need ∷ more) = let one = sum_by-cons (λ x. x) need (map (λ (take : ℕ × ℕ). take.1) (taken more)) in grind (arith, ends_within (after_act l (Took place need)) more, one)
ends_within l (Gave place size ∷ more) = ends_within (after_act l (Gave place size)) more

-- an image is longer by no more than was taken
pub longer_within : (b now : List ℕ) (acts : List Act) → ActsFollow b now acts → length now ≤ length b + taken_bytes acts
longer_within b now acts f = let e = f.left.end_is in let l = ends_within (space_before b) acts in omega (arith, e, l)

-- ---- the whole

module _ {b mid left : List ℕ} {kind : Kind} {before : List VariableShape} {own own' : VariableShape} {after : List VariableShape} {first last : ℕ} {takes : List Act} (t : TwiceLeft b mid left kind before own own' after first last takes) where
  abbrev v : Variable
  v = variable_of b own

  abbrev size : ℕ
  size = record_bytes b own.vdr

  abbrev end : ℕ
  end = extent_after (variable_of b own) first last

  abbrev opened : Nodes
  opened = index_opened own first last

  abbrev wide : ℕ
  wide = widest own.index

  abbrev part_room : Range → ℕ
  part_room r = 3 * linked_size + 2 * range_bytes v r

  all_bytes : taken_bytes (opening_acts b own first last takes ++ past_acts mid own' end) ≡ taken_bytes takes
  all_bytes =
      let both = taken_sum (opening_acts b own first last takes) (past_acts mid own' end) in
      let once = bytes_of (opening_acts b own first last takes) takes (taken_opening t.good t.among t.order t.opened) in
      let none = bytes_of (past_acts mid own' end) [] (taken-gave mid (freed_of (plan_of (past_span end) 0 own'.index))) in
      omega (arith, both, once, none)

  narrow : new_room (last + 1) opened ≤ wide
  narrow =
      let roomy = roomy_in b (shape b).records 8 own.index (has t.good t.among).indexed.has_nodes (fits t.good t.among).1 in
      let new = new_room_within (last + 1) opened (roomy_cut false (kept_open first last) own.index roomy) in
      omega (arith, new, no_wider false (kept_open first last) own.index)

  divided_within : (d : OneDivided b own first last own'.index takes) → taken_bytes takes ≤ cut_room v own.index first last
  divided_within d =
      let begins = d.is_divided.begins in
      let ends = d.is_divided.ends in
      let need = max linked_size (vvr_bytes ((d.old.last - last) * size)) in
      let bytes = bytes_of takes (leaf_acts d.place need (new_room (last + 1) opened) d.at) (ap taken d.takes_are) in
      let leaf_is = leaf_bytes d.place need (new_room (last + 1) opened) d.at in
      let node = node_within (new_room (last + 1) opened) wide narrow in
      let has_part = sum_has part_room (del_recs_cuts_in_part v first last) (leaves_of own.index) d.old d.is_one (rw (divided_part first last d.old t.order d.is_divided) refl) in
      let fewer = times_le (d.old.last - last) (d.old.last + 1 - d.old.first) size (omega (arith, begins, ends, t.order)) in
      omega (arith, bytes, leaf_is, node, has_part, fewer)

  pub takes_within : taken_bytes (opening_acts b own first last takes ++ past_acts mid own' end) ≤ cut_room v own.index first last
  takes_within = elim t.opened.divided [
    | inl n ↦ omega (arith, all_bytes, bytes_of takes [] (ap taken n.takes_are))
    | inr d ↦ omega (arith, all_bytes, divided_within d)
  ]
