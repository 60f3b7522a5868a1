-- Where the leaf with the first edge was given what it keeps, the leaf with the last one may be given what that keeps, and what both come to.
use Rattle.std.proofs.Common.{List, None, Option, Some, ap, arith, inl, inr, length, refl, subst, sym, true, ℕ, ◌*◌, ◌+◌, ◌-◌, ◌<◌, ◌∙◌, ◌≡◌, ◌≤◌, ◌++◌, ◌∷◌}
use Rattle.std.specs.Prelude.{max}
use Rattle.std.proofs.lemmas.Bool.{cases_lt}
use Rattle.cdf_edits.proofs.Common.{Good, In, Kind, Leaf, Nodes, VariableShape, image_limit, is_compressed, leaves_of, le-ltb, lt-ltb, number, record_bytes, record_number_limit, shape, variables, vdr_vxr_head, vdrs}
use Rattle.cdf_edits.proofs.Edits.Common.{StandsAmong}
use Rattle.cdf_edits.proofs.Edits.LeafPieces.{IsOneOf}
use Rattle.cdf_edits.proofs.Edits.LeafRecords.{count_is}
use Rattle.cdf_edits.proofs.Edits.StandsAmong.{in_middle}
use Rattle.cdf_edits.proofs.Frame.VdrStays.{packed_stays}
use Rattle.cdf_index.proofs.OneVariable.{among_all}
use Rattle.cdf_index.specs.Finding.{index_at}
use Rattle.cdf_index.specs.Sight.{seen}
use Rattle.cdf_blocks.specs.declared.sites.SitedLeaf.{SitedLeaf}
use Rattle.cdf_cuts.proofs.CutCalls.{index_is}
use Rattle.cdf_packed_cuts.proofs.TwoSteps.{from_mid}
use Rattle.cdf_packed_cuts.specs.Past.{IsSplit}
use Rattle.cdf_puts.proofs.GoesThen.{later_size, stays}
use Rattle.cdf_packed_deletes.proofs.Chain.{step_bytes}
use Rattle.cdf_packed_deletes.proofs.KeptAll.{after_front, after_none, both_left, new_low}
use Rattle.cdf_packed_deletes.proofs.KeptLists.{leaf_room, room_one, room_two}
use Rattle.cdf_packed_deletes.proofs.KeptSides.{ordered, small}
use Rattle.cdf_packed_deletes.proofs.Parts.{cut_keeps}
use Rattle.cdf_packed_deletes.specs.Closing.{keeping, keeping_room}
use Rattle.cdf_packed_deletes.specs.Keeping.{HasKeepingRoom, IsCutIn, KeptAt, PartsLeft, SomeKept, later_end}
use Rattle.cdf_packed_deletes.specs.Steps.{keeps_some}

-- ---- the last record of a leaf with later ones

pub end_past : (last : ℕ) (o : Option SitedLeaf) (end : ℕ) → later_end last o ≡ Some end → last < end
end_past last None end e = absurd cc
end_past last (Some found) end e = elim (cases_lt last found.leaf.last) [
  | inl lt ↦ (let q : Some found.leaf.last ≡ Some end = rw (lt-ltb last found.leaf.last lt) at e in let s : found.leaf.last ≡ end = cc in omega (arith, lt, s))
  | inr ge ↦ (let q : None ≡ Some end = rw (le-ltb last found.leaf.last ge) at e in absurd cc)
]

end_none : (last : ℕ) (found : SitedLeaf) → later_end last (Some found) ≡ None → found.leaf.last ≤ last
end_none last found e = elim (cases_lt last found.leaf.last) [
  | inl lt ↦ (let q : Some found.leaf.last ≡ None = rw (lt-ltb last found.leaf.last lt) at e in absurd cc)
  | inr ge ↦ ge
]

end_some : (last : ℕ) (found : SitedLeaf) (end : ℕ) → later_end last (Some found) ≡ Some end → (last < found.leaf.last) × (found.leaf.last ≡ end)
end_some last found end e = elim (cases_lt last found.leaf.last) [
  | inl lt ↦ (let q : Some found.leaf.last ≡ Some end = rw (lt-ltb last found.leaf.last lt) at e in (lt, cc))
  | inr ge ↦ (let q : None ≡ Some end = rw (le-ltb last found.leaf.last ge) at e in absurd cc)
]

-- ---- room

leaf_room_is : (size : ℕ) (l : Leaf) → l.first ≤ l.last → l.last ≤ record_number_limit → leaf_room size l ≡ max 28 (12 + (l.last + 1 - l.first) * size)
leaf_room_is size l o s = ap (λ (n : ℕ). max 28 (12 + n * size)) (count_is l s o)

-- the image with the variable once the first leaf is done
pub record Onward (b mid : List ℕ) (kind : Kind) (before : List VariableShape) (own : VariableShape) (after : List VariableShape) (first last size limit : ℕ) : Type 0 where
  pub own' : VariableShape
  pub vdr_is : own'.vdr ≡ own.vdr
  pub good : Good mid
  pub among : StandsAmong mid kind before own' after
  pub rle : is_compressed mid own'.vdr ≡ true
  pub size_is : record_bytes mid own'.vdr ≡ record_bytes b own.vdr
  pub short : length mid ≤ image_limit
  pub room : HasKeepingRoom mid (leaves_of own'.index) size first last limit
  pub done : {now : List ℕ} (o : Option SitedLeaf) → KeptAt mid now kind before own' after (last + 1) first last o → SomeKept b now kind before own after first last first

module _ {b : List ℕ} (good : Good b) {kind : Kind} {before : List VariableShape} {own : VariableShape} {after : List VariableShape} {vdr : ℕ} (among : StandsAmong b kind before own after) (is : own.vdr ≡ vdr) {first last size limit : ℕ} (rle : is_compressed b vdr ≡ true) (size_is : size ≡ record_bytes b vdr) (order : first ≤ last) (room : length b + keeping_room size (keeping first last (leaves_of (index_at b (number b vdr vdr_vxr_head)))) ≤ limit) (most : limit ≤ image_limit) where
  abbrev leaves : List Leaf
  leaves = leaves_of own.index

  own_room : length b + keeping_room size (keeping first last leaves) ≤ limit
  own_room = subst (λ (y : Nodes). length b + keeping_room size (keeping first last (leaves_of y)) ≤ limit) (index_is b good among is).1 room

  pub short : length b ≤ image_limit
  short = omega (arith, room, most)

  own_rle : is_compressed b own.vdr ≡ true
  own_rle = ap (is_compressed b) is ∙ rle

  own_size : size ≡ record_bytes b own.vdr
  own_size = size_is ∙ ap (record_bytes b) (sym is)

  keeps : (l : Leaf) → IsOneOf leaves l → IsCutIn first last l → keeps_some true first last l ≡ true
  keeps l i cut = cut_keeps first last order l (ordered good among l i) (small good among l i) cut

  one_room : HasKeepingRoom b leaves size first last limit
  one_room l i cut =
      let r = room_one (keeps_some true first last) size leaves l i (keeps l i cut) in
      let e = leaf_room_is size l (ordered good among l i) (small good among l i) in
      omega (arith, own_room, r, e)

  pub first_room : HasKeepingRoom b (leaves_of (index_at b (number b vdr vdr_vxr_head))) size first last limit
  first_room = subst (λ (y : Nodes). HasKeepingRoom b (leaves_of y) size first last limit) (sym (index_is b good among is).1) one_room

  module _ {mid : List ℕ} (x : Leaf) (j : IsOneOf leaves x) (cut : IsCutIn first last x) (split : IsSplit first x) (p : PartsLeft b mid kind before own after x first last) where
    longer : length mid ≤ length b + leaf_room size x
    longer =
        let s = (step_bytes order j cut p (ordered good among x j) (small good among x j)).1 in
        subst (λ (n : ℕ). length mid ≤ length b + leaf_room n x) (sym own_size) s

    module _ (le : x.last ≤ last) where
      mid_room : HasKeepingRoom mid (leaves_of p.short.own'.index) size first last limit
      mid_room l i in_ = elim (from_mid good among j p.short l i) [
        | inl q ↦ (let lt = new_low good among short order x j cut split p le l q in let r = in_.reaches in absurd (omega (arith, lt, r)))
        | inr other ↦
            let two = room_two (keeps_some true first last) size leaves x l j other.0 (λ e. other.1 (sym e)) (keeps x j cut) (keeps l other.0 in_) in
            let e = leaf_room_is size l (ordered good among l other.0) (small good among l other.0) in
            let g = longer in
            omega (arith, own_room, two, e, g)
      ]

      on_front : Onward b mid kind before own after first last size limit
      on_front = let one = p.short.goes_on in record {
        own' = p.short.own';
        vdr_is = one.vdr_is;
        good = one.good;
        among = one.among;
        rle = ap (is_compressed mid) one.vdr_is ∙ packed_stays one.file (stays good among one.descriptor) ∙ own_rle;
        size_is = later_size good among one;
        short = p.short.small;
        room = mid_room;
        done = λ o k. after_front good among short order x j cut split p le o k;
      }

  pub onward : {mid : List ℕ} (o : Option SitedLeaf) → KeptAt b mid kind before own after first first last o → later_end last o ≡ None → Onward b mid kind before own after first last size limit
  onward None k e = subst (λ (y : List ℕ). Onward b y kind before own after first last size limit) (sym k.0) (record {
    own' = own;
    vdr_is = refl;
    good = good;
    among = among;
    rle = own_rle;
    size_is = refl;
    short = short;
    room = one_room;
    done = λ o m. after_none good among short order k.1 o refl m;
  })
  onward (Some found) k e = on_front (seen found.leaf) k.0 k.1 k.2 k.3 (end_none last found e)

  pub both_done : {mid : List ℕ} (o : Option SitedLeaf) → KeptAt b mid kind before own after first first last o → (end : ℕ) → later_end last o ≡ Some end → SomeKept b mid kind before own after first last (end - (last - first)) × (end ≤ record_number_limit)
  both_done None k end e = absurd cc
  both_done {mid = mid} (Some found) k end e =
      let s = end_some last found end e in
      let n = small good among (seen found.leaf) k.0 in
      (subst (λ (m : ℕ). SomeKept b mid kind before own after first last (m - (last - first))) s.1 (both_left good among short order (seen found.leaf) k.0 k.1 k.2 k.3 s.0), omega (arith, n, s.1))

-- ---- what the next call asks for

module _ {b mid : List ℕ} {kind : Kind} {before : List VariableShape} {own : VariableShape} {after : List VariableShape} {first last size limit vdr : ℕ} (m : Onward b mid kind before own after first last size limit) (is : own.vdr ≡ vdr) where
  pub vdr_on : In vdr (vdrs (variables (shape mid)))
  vdr_on =
      let g = among_all mid kind before m.own' after m.among.was in
      subst (λ (vs : List VariableShape). In vdr (vdrs vs)) (sym g.all) (subst (λ (v : ℕ). In v (vdrs (g.front ++ m.own' ∷ g.rest))) (m.vdr_is ∙ is) (in_middle g.front m.own' g.rest))

  pub rle_on : is_compressed mid vdr ≡ true
  rle_on = ap (is_compressed mid) (sym (m.vdr_is ∙ is)) ∙ m.rle

  pub size_on : size ≡ record_bytes b vdr → size ≡ record_bytes mid vdr
  size_on e = e ∙ ap (record_bytes b) (sym is) ∙ sym m.size_is ∙ ap (record_bytes mid) (m.vdr_is ∙ is)

  pub room_on : HasKeepingRoom mid (leaves_of (index_at mid (number mid vdr vdr_vxr_head))) size first last limit
  room_on = subst (λ (y : Nodes). HasKeepingRoom mid (leaves_of y) size first last limit) (sym (index_is mid m.good m.among (m.vdr_is ∙ is)).1) m.room
