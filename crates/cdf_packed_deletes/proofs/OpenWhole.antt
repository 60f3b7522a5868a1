-- The leaves that keep some of their records were given these, and then the others went, where later records keep their numbers: what that comes to, and what the next calls ask for.
use Rattle.std.proofs.Common.{List, None, Option, Some, [], ap, append-nil, arith, false, find, inl, inr, length, refl, subst, suc, sym, true, ℕ, ◌*◌, ◌++◌, ◌+◌, ◌-◌, ◌<◌, ◌∙◌, ◌∷◌, ◌≡◌, ◌≤◌, ◌⊎◌, ◌&&◌}
use Rattle.std.specs.Prelude.{Bool, min, nat_le, nat_lt}
use Rattle.std.specs.List.{filter, flat_map, fold}
use Rattle.std.proofs.lemmas.Bool.{cases_lt}
use Rattle.cdf_edits.proofs.Common.{Act, Each, Good, In, Kind, Leaf, Nodes, VariableShape, image_limit, is_compressed, le-ltb, leaves_of, lt-leb, lt-ltb, number, plain_bytes, range, record_bytes, record_number_limit, shape, variable_of, variables, vdr_vxr_head, vdrs}
use Rattle.cdf_edits.proofs.Edits.ActsThen.{taken-gave}
use Rattle.cdf_edits.proofs.Edits.Common.{StandsAmong}
use Rattle.cdf_edits.proofs.Edits.LeafPieces.{IsOneOf}
use Rattle.cdf_edits.proofs.Edits.PlainLeaves.{own_rules}
use Rattle.cdf_edits.proofs.Edits.StandsAmong.{in_middle}
use Rattle.cdf_edits.proofs.Frame.VdrStays.{packed_stays}
use Rattle.cdf_edits.specs.Commands.Deleting.{untouched}
use Rattle.cdf_edits.specs.Commands.PutSteps.{Stage}
use Rattle.cdf_edits.specs.Commands.Room.{widest}
use Rattle.cdf_edits.specs.Index.Blocks.{covers, firsts_of}
use Rattle.cdf_blocks.proofs.LeafBlock.{plain_long}
use Rattle.cdf_index.proofs.LeafRules.{index_order}
use Rattle.cdf_index.proofs.OneVariable.{among_all}
use Rattle.cdf_index.specs.Finding.{index_at}
use Rattle.cdf_index.specs.Order.{InOrder}
use Rattle.cdf_cuts.proofs.CutCalls.{index_is}
use Rattle.cdf_packed_deletes.proofs.Chain.{go_more, goes_as}
use Rattle.cdf_packed_deletes.proofs.KeptLists.{find_none}
use Rattle.cdf_packed_deletes.proofs.KeptSides.{small}
use Rattle.cdf_packed_deletes.proofs.LeafKinds.{IsApart, IsBoth}
use Rattle.cdf_packed_deletes.proofs.OpenAlong.{OpenSo, open_along}
use Rattle.cdf_packed_deletes.proofs.OpenCut.{from_cut}
use Rattle.cdf_packed_deletes.proofs.OpenIndexes.{firsts_range, widest_range}
use Rattle.cdf_packed_deletes.proofs.OpenKinds.{both_found}
use Rattle.cdf_packed_deletes.proofs.OpenLeft.{cut_so}
use Rattle.cdf_packed_deletes.proofs.OpenParts.{bytes_long, off_is}
use Rattle.cdf_packed_deletes.specs.Keeping.{IsAllOrNone, IsCutIn}
use Rattle.cdf_packed_deletes.specs.OpenKeeping.{IsLater, HasLater, SomeOpened, SplitsLater, WholeOpened, freed_opening, opened_up, opening_acts, part_bytes}
use Rattle.cdf_packed_deletes.specs.Opening.{keeping_open, keeping_open_room, opening_room, split_room}
use Rattle.cdf_packed_deletes.specs.Steps.{CutsWhole, bytes_of_parts}
use Rattle.cdf_packed_deletes.specs.declared.opening.Later.{Later}
use Rattle.cdf_put_steps.specs.Along.{GoAlong}
use Rattle.cdf_puts.proofs.GoesThen.{later_size, stays}
use Rattle.cdf_puts.specs.Going.{GoesOn, found_in}
use Rattle.cdf_puts.specs.Steps.{IsVacant}
use Rattle.cdf_sparse.proofs.OpenFirsts.{first_beside, firsts_left, wide_left}

-- ---- the next First

next_past : (n m best : ℕ) (xs : List ℕ) → m < best → ((f : ℕ) → In f xs → (f ≤ n) ⊎ (m < f)) → m < fold min best (filter (nat_lt n) xs)
next_past n m best [] lt far = lt
next_past n m best (x ∷ xs) lt far = elim (cases_lt n x) [
  | inl gt ↦ rw (lt-ltb n x gt) (next_past n m (min best x) xs (elim (far x (inl refl)) [ inl le ↦ absurd (omega arith) | inr b ↦ omega (arith, lt, b) ]) (λ f i. far f (inr i)))
  | inr le ↦ rw (le-ltb n x le) (next_past n m best xs lt (λ f i. far f (inr i)))
]

-- ---- a number that a leaf does not have

not_covered : (n f l : ℕ) → (l < n) ⊎ (n < f) → (nat_le f n && nat_le n l) ≡ false
not_covered n f l (inl lt) = rw (lt-leb n l lt) (and_none (nat_le f n))
  where
    and_none : (p : Bool) → (p && false) ≡ false
    and_none true = refl
    and_none false = refl
not_covered n f l (inr lt) = rw (lt-leb f n lt) refl

-- ---- what the cut of whole leaves asks for

module _ {b mid : List ℕ} {kind : Kind} {before : List VariableShape} {own : VariableShape} {after : List VariableShape} {first last : ℕ} {later : Option Later} (k : SomeOpened b mid kind before own after first last later) {vdr : ℕ} (is : own.vdr ≡ vdr) where
  pub vdr_opened : In vdr (vdrs (variables (shape mid)))
  vdr_opened =
      let g = among_all mid kind before k.kept.own after k.among.was in
      subst (λ (vs : List VariableShape). In vdr (vdrs vs)) (sym g.all) (subst (λ (v : ℕ). In v (vdrs (g.front ++ k.kept.own ∷ g.rest))) (k.vdr_is ∙ is) (in_middle g.front k.kept.own g.rest))

  pub whole_so : Each (IsAllOrNone first last) (leaves_of (index_at mid (number mid vdr vdr_vxr_head)))
  whole_so = subst (λ (y : Nodes). Each (IsAllOrNone first last) (leaves_of y)) (sym (index_is mid k.good k.among (k.vdr_is ∙ is)).1) k.whole

-- ---- the image that is left

module _ {b mid now : List ℕ} {kind : Kind} {before : List VariableShape} {own : VariableShape} {after : List VariableShape} {first last : ℕ} {later : Option Later} (good : Good b) (at : StandsAmong b kind before own after) (order : first ≤ last) (short : length b ≤ image_limit) (k : SomeOpened b mid kind before own after first last later) (w : WholeOpened mid now kind before k.kept.own after first last) where
  abbrev pub left : Stage
  left = record { image = now; own = opened_up k.kept.own first last; acts = opening_acts mid k.kept.own first last; next = k.kept.next }

  up : first ≤ suc last
  up = omega (arith, order)

  pub cuts_whole : CutsWhole (found_in b kind before own) false first last k.kept left
  cuts_whole = record {
    index = w.cuts (variable_of b own);
    takes_none = taken-gave mid (freed_opening k.kept.own first last);
    goes = goes_as k.image_is refl (w.goes k.kept.next) k.kept.next;
    next_is = refl;
  }

  one_on : GoesOn k.kept.image now kind before k.kept.own (opened_up k.kept.own first last) after (opening_acts mid k.kept.own first last)
  one_on = subst (λ (image : List ℕ). GoesOn image now kind before k.kept.own (opened_up k.kept.own first last) after (opening_acts mid k.kept.own first last)) (sym k.image_is) w.goes_on

  pub go_left : GoAlong kind before after (untouched b own) (k.stages ++ left ∷ [])
  go_left = go_more (found_in b kind before own) false first last kind before after (keeping_open first last (leaves_of own.index)) (untouched b own) k.stages k.kept left k.keep k.go one_on

  abbrev done : List Act
  done = [] ++ flat_map (λ (stage : Stage). stage.acts) k.stages

  so : OpenSo b kind before own after first last k.kept done []
  so = (open_along good at first last up short k.stages k.kept (left ∷ []) k.keep go_left).so

  goes_left : GoesOn b now kind before own (opened_up k.kept.own first last) after (done ++ opening_acts mid k.kept.own first last)
  goes_left = (cut_so good at first last up k.kept left done so cuts_whole one_on).goes

  whole_or : (m : Leaf) → IsOneOf (leaves_of k.kept.own.index) m → IsApart first last m ⊎ ((first ≤ m.first) × (m.last ≤ last))
  whole_or m i = elim (so.whole m i) [ inl y ↦ y | inr none ↦ absurd none ]

  pub was_kept : (m : Leaf) → IsOneOf (leaves_of (opened_up k.kept.own first last).index) m → IsOneOf (leaves_of k.kept.own.index) m
  was_kept m i = (from_cut first last up k.kept left done so.kept.goes cuts_whole one_on whole_or m i).0

  -- ---- what is split off

  module _ (later' : Later) (d : SplitsLater b own k.kept.own first last later') where
    both : IsOneOf (leaves_of own.index) d.old × IsBoth first last d.old
    both = both_found first last up (leaves_of own.index) d.old d.both_is

    cut_in : IsCutIn first last d.old
    cut_in = let f = both.1.0 in let l = both.1.1 in record { reaches = omega (arith, l, order); begins = omega (arith, f, order); some = inl f }

    uncovered : find (λ (leaf : Leaf). covers (last + 1) (range leaf.first leaf.last)) (leaves_of (opened_up k.kept.own first last).index) ≡ None
    uncovered = find_none (λ (leaf : Leaf). covers (last + 1) (range leaf.first leaf.last)) (leaves_of (opened_up k.kept.own first last).index) (λ m i. not_covered (last + 1) m.first m.last (aside m i))
      where
        aside : (m : Leaf) → IsOneOf (leaves_of (opened_up k.kept.own first last).index) m → (m.last < last + 1) ⊎ (last + 1 < m.first)
        aside m i = let l = both.1.1 in elim (d.aside m (was_kept m i)) [ inl lt ↦ inl (omega (arith, lt, order)) | inr lt ↦ inr (omega (arith, lt, l)) ]

    own_order : InOrder 0 record_number_limit own.index
    own_order = index_order b (shape b).records own.vdr own.index (own_rules good at).1

    firsts_same : firsts_of k.kept.own.index ≡ firsts_of own.index
    firsts_same = ap firsts_of d.index_is ∙ firsts_range d.old.first d.new d.first_is own.index

    far : (f : ℕ) → In f (firsts_of (opened_up k.kept.own first last).index) → (f ≤ last + 1) ⊎ (later'.last < f)
    far f i =
        let fl = both.1.0 in
        let e = d.last_is in
        elim (firsts_left first last k.kept.own.index f i) [
          | inl j ↦ elim (first_beside 0 record_number_limit own.index own_order d.old both.0 f (subst (In f) firsts_same j)) [ inl le ↦ inl (omega (arith, le, fl, order)) | inr gt ↦ inr (omega (arith, gt, e)) ]
          | inr le ↦ inl le
        ]

    small_last : later'.last ≤ record_number_limit
    small_last = let s = small good at d.old both.0 in let e = d.last_is in omega (arith, s, e)

    vacant : IsVacant (opened_up k.kept.own first last) (last + 1) later'.last
    vacant = let e = d.last_is in let l = both.1.1 in record {
      ordered = omega (arith, e, l);
      uncovered = uncovered;
      before_next = next_past (last + 1) later'.last (record_number_limit + 1) (firsts_of (opened_up k.kept.own first last).index) (let s = small_last in omega (arith, s)) far;
    }

    long_b : length later'.plain.items ≡ (later'.last + 1 - (last + 1)) * record_bytes b own.vdr
    long_b =
        let size = record_bytes b own.vdr in
        let l = both.1.1 in
        let f = both.1.0 in
        let bytes = part_bytes size d.old (last + 1) d.old.last (plain_bytes b own.vdr d.old) in
        let one : length (bytes ++ []) ≡ length bytes = ap length (append-nil bytes) in
        ap length (d.plain_is ∙ ap (bytes_of_parts b (variable_of b own) own.vdr d.old) (off_is first last order d.old cut_in both.1)) ∙ one
        ∙ bytes_long size d.old (last + 1) d.old.last (plain_bytes b own.vdr d.old) (record { begins = omega (arith, f, order); ordered = omega (arith, l); ends = omega arith }) (plain_long good at d.old both.0 size refl)
        ∙ ap (λ (n : ℕ). (n + 1 - (last + 1)) * size) (sym d.last_is)

    pub wide_so : widest (opened_up k.kept.own first last).index ≤ widest own.index
    wide_so =
        let e = ap widest d.index_is ∙ widest_range d.old.first d.new d.first_is own.index in
        let n = wide_left first last k.kept.own.index in
        omega (arith, e, n)

    pub long_so : length later'.plain.items ≡ (d.old.last - last) * record_bytes b own.vdr
    long_so =
        let e = d.last_is in
        let c : later'.last + 1 - (last + 1) ≡ d.old.last - last = omega (arith, e) in
        long_b ∙ ap (λ (n : ℕ). n * record_bytes b own.vdr) c

    module _ {limit : ℕ} (rle : is_compressed b own.vdr ≡ true) (room : length b + opening_room (record_bytes b own.vdr) first last own.index ≤ limit) {vdr : ℕ} (is : own.vdr ≡ vdr) where
      room_some : length b + (keeping_open_room (record_bytes b own.vdr) first last (keeping_open first last (leaves_of own.index)) + split_room (record_bytes b own.vdr) last (widest own.index) (Some d.old)) ≤ limit
      room_some = subst (λ (o : Option Leaf). length b + (keeping_open_room (record_bytes b own.vdr) first last (keeping_open first last (leaves_of own.index)) + split_room (record_bytes b own.vdr) last (widest own.index) o) ≤ limit) d.both_is room

      pub is_later : IsLater now kind before (opened_up k.kept.own first last) after vdr last later' limit
      is_later = record {
        good = goes_left.good;
        among = goes_left.among;
        rle = ap (is_compressed now) goes_left.vdr_is ∙ packed_stays goes_left.file (stays good at goes_left.descriptor) ∙ rle;
        vdr_is = goes_left.vdr_is ∙ is;
        vacant = vacant;
        as_long = long_b ∙ ap (λ (n : ℕ). (later'.last + 1 - (last + 1)) * n) (sym (later_size good at goes_left));
        room = let w1 = w.long in let w2 = k.longer in let w3 = room_some in let w4 = wide_so in let w5 = long_so in omega (arith, w1, w2, w3, w4, w5);
      }

      pub has_later : HasLater now vdr last later' limit
      has_later = record { kind = kind; before = before; own = opened_up k.kept.own first last; after = after; is_later = is_later }
