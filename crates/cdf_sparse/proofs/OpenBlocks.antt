-- What stays of a leaf in its block, where no block is packed: its bytes stand at the front of the block by then, and what is behind them stays.
use Rattle.cdf_cuts.proofs.Common.{Leaf, List, ap, arith, false, inl, inr, length, refl, size_at, subst, sym, true≢false, ℕ, ◌*◌, ◌+◌, ◌-◌, ◌<◌, ◌∙◌, ◌≡◌, ◌≤◌}
use Rattle.std.proofs.Common.{drop, take}
use Rattle.std.proofs.lemmas.List.{drop-drop, take-take}
use Rattle.std.specs.Prelude.{max}
use Rattle.cdf_edits.proofs.Common.{Act, Same, Variable, byte, drop-take, plain_bytes, record_bytes, word_kept}
use Rattle.cdf_edits.proofs.Edits.LeafPieces.{times_le}
use Rattle.cdf_edits.proofs.Edits.LeafRecords.{count_is}
use Rattle.cdf_edits.proofs.Edits.PlainLeaves.{PlainLeaf}
use Rattle.cdf_edits.specs.Index.Blocks.{record_length}
use Rattle.cdf_edits.specs.Index.Written.{SpareIs, block_end, is_taken_at}
use Rattle.cdf_cuts.proofs.BlocksMoved.{piece_shifted, times_add}
use Rattle.cdf_cuts.specs.Moving.{HasLater, JoinsFront}
use Rattle.cdf_sparse.specs.Opening.{PartStays}

abbrev pub count : Leaf → ℕ
count l = l.last + 1 - l.first

-- a leaf that has records of another one, in the same block
pub record Within (old new : Leaf) : Type 0 where
  pub place_is : new.place ≡ old.place
  pub from : old.first ≤ new.first
  pub some : new.first ≤ new.last
  pub upto : new.last ≤ old.last

-- the bytes of its block by then
pub record PartAt (b now : List ℕ) (size : ℕ) (old new : Leaf) : Type 0 where
  pub head : (i : ℕ) → i < 12 → byte now (old.place + i) ≡ byte b (old.place + i)
  pub there : (i : ℕ) → i < count new * size → byte now (old.place + (12 + i)) ≡ byte b (old.place + (12 + ((new.first - old.first) * size + i)))
  pub spare : (i : ℕ) → 12 + count new * size ≤ i → i < size_at b old.place → byte now (old.place + i) ≡ byte b (old.place + i)

-- every byte of a block stays
abbrev pub BlockStill : List ℕ → List ℕ → Leaf → Type 0
BlockStill b now l = (i : ℕ) → i < size_at b l.place → byte now (l.place + i) ≡ byte b (l.place + i)

-- where the first records stay, they are at the front
pub still_part : {b now : List ℕ} {size : ℕ} {old new : Leaf} → PlainLeaf b size old → Within old new → new.first ≡ old.first → BlockStill b now old → PartAt b now size old new
still_part {b = b} {now = now} {size = size} {old = old} {new = new} x w e s =
    let f = w.from in
    let m = w.some in
    let u = w.upto in
    let fit = times_le (count new) (count old) size (omega arith) in
    let same : new.first - old.first ≡ 0 = omega (arith, e) in
    let none : (new.first - old.first) * size ≡ 0 = rw same (omega arith) in
    record {
      head = λ i lt. s i (omega (arith, x.room));
      there = λ i lt. s (12 + i) (omega (arith, x.room, fit)) ∙ ap (λ (n : ℕ). byte b (old.place + (12 + n))) (omega (arith, none));
      spare = λ i low lt. s i lt;
    }

-- later records are moved there
pub moved_part : {b mid now : List ℕ} {size first last : ℕ} {old new : Leaf} → PlainLeaf b size old → length mid ≡ length b → old.place + size_at b old.place ≤ length b → BlockStill b mid old → HasLater last old → first ≤ old.first → JoinsFront mid now size first last old → new.first ≡ last + 1 → new.last ≡ old.last
    → PartAt b now size old new
moved_part {b = b} {mid = mid} {now = now} {size = size} {first = first} {last = last} {old = old} {new = new} x long inside s has low m is_first is_last =
    let r = has.reaches in
    let t = has.later in
    let room = x.room in
    let d = last + 1 - old.first in
    let k = old.last - last in
    let all = times_add d k size in
    let fit = times_le (d + k) (count old) size (omega arith) in
    let many : count new * size ≡ k * size = ap (λ (n : ℕ). n * size) (omega (arith, is_first, is_last)) in
    let at_front : max first old.first - old.first ≡ 0 = omega arith in
    let none : (max first old.first - old.first) * size ≡ 0 = rw at_front (omega arith) in
    let off : (new.first - old.first) * size ≡ d * size = ap (λ (n : ℕ). n * size) (omega (arith, is_first)) in
    record {
      head = λ i lt. m.others (old.place + i) (omega (arith, long)) (inl (omega arith)) ∙ s i (omega arith);
      there = λ i lt.
          let at : old.place + (12 + (max first old.first - old.first) * size) + i ≡ old.place + (12 + i) = omega (arith, none) in
          let was : old.place + (12 + d * size) + i ≡ old.place + (12 + d * size + i) = omega arith in
          let is : old.place + (12 + d * size + i) ≡ old.place + (12 + ((new.first - old.first) * size + i)) = omega (arith, off) in
          ap (byte now) (sym at) ∙ m.moved i (omega (arith, many)) ∙ ap (byte mid) was ∙ s (12 + d * size + i) (omega (arith, many, all, fit)) ∙ ap (byte b) is;
      spare = λ i from lt. m.others (old.place + i) (omega (arith, long)) (inr (omega (arith, many, none))) ∙ s i lt;
    }

module _ {b now : List ℕ} (vdr : ℕ) {size : ℕ} {old new : Leaf} (was_size : record_bytes b vdr ≡ size) (is_size : record_bytes now vdr ≡ size) (x : PlainLeaf b size old) (y : PlainLeaf now size new) (w : Within old new) (inside : old.place + size_at b old.place ≤ length b) (longer : length b ≤ length now) (p : PartAt b now size old new) where
  head_same : Same b now old.place (old.place + 12)
  head_same = record { each = λ q low high. (let z : old.place + (q - old.place) ≡ q = omega (arith, low) in rw z at (p.head (q - old.place) (omega (arith, high)))) }

  pub size_is : size_at now new.place ≡ size_at b old.place
  size_is = ap (size_at now) w.place_is ∙ word_kept b now old.place (old.place + 12) head_same (old.place + 0) 8 (omega arith) (omega arith)

  end_is : block_end now vdr new ≡ 12 + count new * size
  end_is = rw (y.plain, count_is new y.small y.ordered, is_size) (omega arith)

  plain_was : plain_bytes b vdr old ≡ take (count old * size) (drop (old.place + 12) b)
  plain_was = rw (x.plain, count_is old x.small x.ordered, was_size) refl

  plain_now : plain_bytes now vdr new ≡ take (count new * size) (drop (new.place + 12) now)
  plain_now = rw (y.plain, count_is new y.small y.ordered, is_size) refl

  abbrev off : ℕ
  off = (new.first - old.first) * size

  abbrev n : ℕ
  n = count new * size

  within : off + n ≤ count old * size
  within = let f = w.from in let s = w.some in let u = w.upto in omega (arith, times_add (new.first - old.first) (count new) size, times_le (new.first - old.first + count new) (count old) size (omega arith))

  shifted : take n (drop (new.place + 12) now) ≡ take n (drop (old.place + 12 + off) b)
  shifted =
      let at = w.place_is in
      let room = x.room in
      let fit = within in
      piece_shifted n (new.place + 12) (old.place + 12 + off) now b (omega arith) (omega arith) (λ i lt.
      let z : new.place + 12 + i ≡ old.place + (12 + i) = omega arith in
      let u : old.place + 12 + off + i ≡ old.place + (12 + (off + i)) = omega arith in
      ap (byte now) z ∙ p.there i lt ∙ ap (byte b) (sym u))

  piece_was : take n (drop off (plain_bytes b vdr old)) ≡ take n (drop (old.place + 12 + off) b)
  piece_was =
      let fit = within in
      let all : count old * size ≡ off + (count old * size - off) = omega arith in
      ap (λ (xs : List ℕ). take n (drop off xs)) plain_was ∙ ap (λ (k : ℕ). take n (drop off (take k (drop (old.place + 12) b)))) all
      ∙ ap (take n) (drop-take off (count old * size - off) (drop (old.place + 12) b)) ∙ take-take n (count old * size - off) (drop off (drop (old.place + 12) b)) (omega arith) ∙ ap (take n) (drop-drop off (old.place + 12) b)

  plain_is : plain_bytes now vdr new ≡ take n (drop off (plain_bytes b vdr old))
  plain_is = plain_now ∙ shifted ∙ sym piece_was

  spare_same : Same b now (new.place + block_end now vdr new) (new.place + size_at b new.place)
  spare_same = record {
    each = λ q from upto.
        let at = w.place_is in
        let sized = ap (size_at b) at in
        let z : old.place + (q - old.place) ≡ q = omega (arith, from, at) in
        rw z at (p.spare (q - old.place) (omega (arith, from, end_is)) (omega (arith, from, upto, sized)));
  }

  -- what a block keeps that is not taken anew
  pub part_stays : (v : Variable) (acts : List Act) → v.rle ≡ false → record_length v ≡ size → is_taken_at acts new.place ≡ false → PartStays b now v vdr acts old new
  part_stays v acts loose long stays = record {
    stays = stays;
    size_is = size_is;
    written = record {
      plain_is = subst (λ (k : ℕ). plain_bytes now vdr new ≡ take (count new * k) (drop ((new.first - old.first) * k) (plain_bytes b vdr old))) (sym long) plain_is;
      packed = λ q. absurd (true≢false (sym q ∙ loose));
      spare = subst (SpareIs b now vdr new) (sym stays) spare_same;
      reserved = λ q. absurd (true≢false (sym q ∙ y.plain));
    };
  }
