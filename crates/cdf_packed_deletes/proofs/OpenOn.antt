-- Where the leaf with the first edge was given what it keeps, the leaf with the last one may be given what that keeps, and what both come to; later records keep their numbers.
use Rattle.std.proofs.Common.{List, None, Option, Some, ap, arith, false, inl, inr, length, refl, subst, sym, true, ℕ, ◌+◌, ◌∙◌, ◌≡◌, ◌≤◌, ◌++◌, ◌∷◌}
use Rattle.std.proofs.lemmas.Bool.{cases_lt}
use Rattle.cdf_edits.proofs.Common.{Good, In, Kind, Leaf, Nodes, VariableShape, image_limit, is_compressed, leaves_of, number, record_bytes, shape, variables, vdr_vxr_head, vdrs}
use Rattle.cdf_edits.proofs.Edits.Common.{StandsAmong}
use Rattle.cdf_edits.proofs.Edits.LeafPieces.{IsOneOf}
use Rattle.cdf_edits.proofs.Edits.StandsAmong.{in_middle}
use Rattle.cdf_edits.proofs.Frame.VdrStays.{packed_stays}
use Rattle.cdf_index.proofs.OneVariable.{among_all}
use Rattle.cdf_index.specs.Finding.{index_at}
use Rattle.cdf_cuts.proofs.CutCalls.{index_is}
use Rattle.cdf_packed_cuts.proofs.TwoSteps.{from_mid}
use Rattle.cdf_packed_cuts.specs.Past.{IsSplit}
use Rattle.cdf_packed_deletes.proofs.OpenAll.{after_front, after_none, both_left, new_low}
use Rattle.cdf_packed_deletes.proofs.OpenChain.{step_bytes}
use Rattle.cdf_packed_deletes.proofs.KeptSides.{ordered, small}
use Rattle.cdf_packed_deletes.proofs.OpenLists.{room_one, room_two}
use Rattle.cdf_packed_deletes.proofs.OpenSides.{open_keeps}
use Rattle.cdf_packed_deletes.specs.Keeping.{IsCutIn}
use Rattle.cdf_packed_deletes.specs.OpenKeeping.{HasBoth, HasOpenRoom, IsSplitOff, OpenedAt, PartOpened, SomeOpened}
use Rattle.cdf_packed_deletes.specs.Opening.{kept_room, keeping_open, keeping_open_room}
use Rattle.cdf_packed_deletes.specs.Steps.{keeps_some}
use Rattle.cdf_packed_deletes.specs.declared.opening.Later.{Later}
use Rattle.cdf_puts.proofs.GoesThen.{later_size, stays}

-- the image with the variable once the first leaf is done
pub record OpenOnward (b mid : List ℕ) (kind : Kind) (before : List VariableShape) (own : VariableShape) (after : List VariableShape) (first last size limit : ℕ) : Type 0 where
  pub own' : VariableShape
  pub vdr_is : own'.vdr ≡ own.vdr
  pub good : Good mid
  pub among : StandsAmong mid kind before own' after
  pub rle : is_compressed mid own'.vdr ≡ true
  pub size_is : record_bytes mid own'.vdr ≡ record_bytes b own.vdr
  pub short : length mid ≤ image_limit
  pub room : HasOpenRoom mid (leaves_of own'.index) size first last limit
  pub done : {now : List ℕ} (later : Option Later) → OpenedAt mid now kind before own' after (last + 1) first last later → SomeOpened b now kind before own after first last None

module _ {b : List ℕ} (good : Good b) {kind : Kind} {before : List VariableShape} {own : VariableShape} {after : List VariableShape} {vdr : ℕ} (among : StandsAmong b kind before own after) (is : own.vdr ≡ vdr) {first last size limit : ℕ} (rle : is_compressed b vdr ≡ true) (size_is : size ≡ record_bytes b vdr) (order : first ≤ last) (room : length b + keeping_open_room size first last (keeping_open first last (leaves_of (index_at b (number b vdr vdr_vxr_head)))) ≤ limit) (most : limit ≤ image_limit) where
  abbrev leaves : List Leaf
  leaves = leaves_of own.index

  own_room : length b + keeping_open_room size first last (keeping_open first last leaves) ≤ limit
  own_room = subst (λ (y : Nodes). length b + keeping_open_room size first last (keeping_open first last (leaves_of y)) ≤ limit) (index_is b good among is).1 room

  pub short : length b ≤ image_limit
  short = omega (arith, room, most)

  own_rle : is_compressed b own.vdr ≡ true
  own_rle = ap (is_compressed b) is ∙ rle

  own_size : size ≡ record_bytes b own.vdr
  own_size = size_is ∙ ap (record_bytes b) (sym is)

  one_room : HasOpenRoom b leaves size first last limit
  one_room l i cut =
      let r = room_one (kept_room size first last) (keeps_some false first last) leaves l i (open_keeps good among order l i cut) in
      omega (arith, own_room, r)

  pub first_room : HasOpenRoom b (leaves_of (index_at b (number b vdr vdr_vxr_head))) size first last limit
  first_room = subst (λ (y : Nodes). HasOpenRoom b (leaves_of y) size first last limit) (sym (index_is b good among is).1) one_room

  module _ {mid : List ℕ} (x : Leaf) (j : IsOneOf leaves x) (cut : IsCutIn first last x) (split : IsSplit first x) (p : PartOpened b mid kind before own after x first last) where
    longer : length mid ≤ length b + kept_room size first last x
    longer =
        let s = (step_bytes order j cut p (ordered good among x j) (small good among x j)).1 in
        subst (λ (n : ℕ). length mid ≤ length b + kept_room n first last x) (sym own_size) s

    module _ (le : x.last ≤ last) where
      mid_room : HasOpenRoom mid (leaves_of p.short.own'.index) size first last limit
      mid_room l i in_ = elim (from_mid good among j p.short l i) [
        | inl q ↦ (let lt = new_low good among short order x j cut split p l q in let r = in_.reaches in absurd (omega (arith, lt, r)))
        | inr other ↦
            let two = room_two (kept_room size first last) (keeps_some false first last) leaves x l j other.0 (λ e. other.1 (sym e)) (open_keeps good among order x j cut) (open_keeps good among order l other.0 in_) in
            let g = longer in
            omega (arith, own_room, two, g)
      ]

      on_front : OpenOnward b mid kind before own after first last size limit
      on_front = let one = p.short.goes_on in record {
        own' = p.short.own';
        vdr_is = one.vdr_is;
        good = one.good;
        among = one.among;
        rle = ap (is_compressed mid) one.vdr_is ∙ packed_stays one.file (stays good among one.descriptor) ∙ own_rle;
        size_is = later_size good among one;
        short = p.short.small;
        room = mid_room;
        done = λ o k. after_front good among short order x j cut split p le o k;
      }

  pub open_onward : {mid : List ℕ} (later : Option Later) → OpenedAt b mid kind before own after first first last later → later ≡ None → OpenOnward b mid kind before own after first last size limit
  open_onward later (inl k) e = subst (λ (y : List ℕ). OpenOnward b y kind before own after first last size limit) (sym k.same) (record {
    own' = own;
    vdr_is = refl;
    good = good;
    among = among;
    rle = own_rle;
    size_is = refl;
    short = short;
    room = one_room;
    done = λ o m. after_none good among short order k.none o refl m;
  })
  open_onward {mid = mid} later (inr k) e = on_front k.leaf k.one k.cut_in k.split k.opened.part (ends (subst (IsSplitOff b own k.leaf first last) e k.opened.split))
    where
      ends : (HasBoth first last k.leaf → ⊥) → k.leaf.last ≤ last
      ends none = elim (cases_lt last k.leaf.last) [ inl lt ↦ absurd (none (k.split.before, lt)) | inr le ↦ le ]

  pub both_opened : {mid : List ℕ} (o : Option Later) → OpenedAt b mid kind before own after first first last o → (later : Later) → o ≡ Some later → SomeOpened b mid kind before own after first last (Some later)
  both_opened o (inl k) later e = let q : None ≡ Some later = sym k.none_later ∙ e in absurd cc
  both_opened o (inr k) later e = both_left good among short order k.leaf k.one k.cut_in k.split k.opened.part later (subst (IsSplitOff b own k.leaf first last) e k.opened.split)

-- ---- what the next call asks for

module _ {b mid : List ℕ} {kind : Kind} {before : List VariableShape} {own : VariableShape} {after : List VariableShape} {first last size limit vdr : ℕ} (m : OpenOnward b mid kind before own after first last size limit) (is : own.vdr ≡ vdr) where
  pub open_vdr : In vdr (vdrs (variables (shape mid)))
  open_vdr =
      let g = among_all mid kind before m.own' after m.among.was in
      subst (λ (vs : List VariableShape). In vdr (vdrs vs)) (sym g.all) (subst (λ (v : ℕ). In v (vdrs (g.front ++ m.own' ∷ g.rest))) (m.vdr_is ∙ is) (in_middle g.front m.own' g.rest))

  pub open_rle : is_compressed mid vdr ≡ true
  open_rle = ap (is_compressed mid) (sym (m.vdr_is ∙ is)) ∙ m.rle

  pub open_size : size ≡ record_bytes b vdr → size ≡ record_bytes mid vdr
  open_size e = e ∙ ap (record_bytes b) (sym is) ∙ sym m.size_is ∙ ap (record_bytes mid) (m.vdr_is ∙ is)

  pub open_room : HasOpenRoom mid (leaves_of (index_at mid (number mid vdr vdr_vxr_head))) size first last limit
  open_room = subst (λ (y : Nodes). HasOpenRoom mid (leaves_of y) size first last limit) (sym (index_is mid m.good m.among (m.vdr_is ∙ is)).1) m.room
