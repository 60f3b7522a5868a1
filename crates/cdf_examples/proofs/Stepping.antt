-- A put into packed blocks that is done in one step: what it says of the image that it leads to, and what of a step is computed.
use Rattle.cdf_examples.proofs.Common.{Act, Bool, Each, EntryIs, Found, List, NodeSpareStays, None, Option, Shape, Some, Took, VariableShape, [], ap, arith, byte, cuts_before_put, false, first_written, if◌then◌else◌, inl, inr, is_taken_at, leaves_of, leb-true, map, max_rec_touches, nat_le, nat_lt, number, pos, refl, room_at, shape, shapes_of, size_at, slice_get, subst, suc, sym, true, used_count, was_unused, word, zero, ℕ, ◌*◌, ◌++◌, ◌+◌, ◌<◌, ◌==◌, ◌^◌, ◌||◌, ◌∙◌, ◌∷◌, ◌≡◌, ◌≤◌}
use Rattle.std.proofs.Common.{append-nil, negsuc, ◌&&◌}
use Rattle.std.proofs.lemmas.Int.{of_z-to_z}
use Rattle.std.specs.Int.{cast_signed, cast_unsigned, w32}
use Rattle.std.specs.List.{flat_map}
use Rattle.std.specs.Prelude.{find, max, ℤ}
use Rattle.cdf_model.specs.DataSet.{extent}
use Rattle.cdf_edits.proofs.Edits.RecordsWritten as of_records
use Rattle.cdf_edits.proofs.Edits.RecordsWritten.{WritesRecords}
use Rattle.cdf_edits.proofs.Edits.StandsAmong.{StandsAmong, fits}
use Rattle.cdf_edits.proofs.Frame.VdrAlike.{plain_alike}
use Rattle.cdf_edits.specs.Commands.PutSteps.{Begins, Put, PutsBySteps, PutsLeaf, PutsLeaves, Stage, grown, leaf_at, leaf_step, range_at}
use Rattle.cdf_edits.specs.Frame.Changed.{Changed}
use Rattle.cdf_edits.specs.Frame.Kept.{Kept}
use Rattle.cdf_edits.specs.Index.Blocks.{Range, covers, range}
use Rattle.cdf_edits.specs.Index.Grown.{with_place}
use Rattle.cdf_edits.specs.Index.Written.{block_end, keeps_record}
use Rattle.cdf_edits.specs.Space.Acts.{Gave}
use Rattle.cdf_format.proofs.BytesLemmas.{number_kept}
use Rattle.cdf_format.specs.Index.{Leaf, Nodes}
use Rattle.cdf_format.specs.Records.{cvvr_bytes, cvvr_c_size, linked_size, vdr_max_rec, vvr_bytes, vxr_bytes}
use Rattle.cdf_format.specs.Sound.{BlockFits, LeafFits}
use Rattle.cdf_format.specs.Tiles.{In}
use Rattle.cdf_format.specs.VariableFields.{plain_size}
use Rattle.cdf_format.specs.VariableRules.{is_max_rec}
use Rattle.cdf_examples.proofs.BytesKept.{all_below}
use Rattle.cdf_examples.proofs.Deciding.{each_by, each_if, entries_if, entry_by, node_by, or_else, spare_if}

both : (p q : Bool) → (p && q) ≡ true → (p ≡ true) × (q ≡ true)
both true q e = (refl, e)
both false q e = absurd cc

-- ---- what is computed of a step

-- An entry of a node that is not used is as a step leaves it.
abbrev pub UnusedAre : List ℕ → List ℕ → List ℕ → List Act → ℕ → Type 0
UnusedAre b now before acts vxr = (i : ℕ) → used_count now vxr ≤ i → i < room_at now vxr → EntryIs b now vxr i (was_unused b before acts vxr i)

-- The truth value of a node has two parts: of its entries, and of the bytes behind them.
abbrev of_entries : List ℕ → List ℕ → List ℕ → List Act → ℕ → Bool
of_entries b now before acts vxr = all_below (λ i. nat_lt i (used_count now vxr) || entry_by b now vxr i (was_unused b before acts vxr i)) (room_at now vxr)

abbrev of_spare : List ℕ → List ℕ → List Act → ℕ → Bool
of_spare b now acts vxr = is_taken_at acts vxr || nat_le (size_at b vxr) (28 + 16 * room_at now vxr)

-- What the nodes after a step are to be follows of their truth values.
pub unused_by_step : (b now : List ℕ) (before after : List ℕ) (acts : List Act) → each_by (node_by b now before acts) after ≡ true → Each (UnusedAre b now before acts) after
unused_by_step b now before after acts e =
    each_if (UnusedAre b now before acts) (node_by b now before acts) (λ vxr h. entries_if b now before acts vxr (both (of_entries b now before acts vxr) (of_spare b now acts vxr) h).0) after e

pub spare_by_step : (b now : List ℕ) (before after : List ℕ) (acts : List Act) → each_by (node_by b now before acts) after ≡ true → Each (NodeSpareStays b now acts) after
spare_by_step b now before after acts e =
    each_if (NodeSpareStays b now acts) (node_by b now before acts) (λ vxr h. spare_if b now acts vxr (both (of_entries b now before acts vxr) (of_spare b now acts vxr) h).1) after e

-- ---- MaxRec of an image whose bytes are below 256

abbrev pub are_bytes : List ℕ → Bool
are_bytes bytes = each_by (λ n. nat_lt n 256) bytes

-- each byte, and so a number of four of them, is small
byte_small : (bytes : List ℕ) → are_bytes bytes ≡ true → (i : ℕ) → byte bytes i < 256
byte_small [] e i = omega arith
byte_small (n ∷ more) e zero = leb-true (suc n) 256 (both (nat_lt n 256) (are_bytes more) e).0
byte_small (n ∷ more) e (suc i) = byte_small more (both (nat_lt n 256) (are_bytes more) e).1 i

four_small : (bytes : List ℕ) (at : ℕ) → are_bytes bytes ≡ true → word bytes at 4 < 2 ^ 32
four_small bytes at e = made (byte bytes at) (byte bytes (suc at)) (byte bytes (suc (suc at))) (byte bytes (suc (suc (suc at)))) (byte_small bytes e at) (byte_small bytes e (suc at)) (byte_small bytes e (suc (suc at))) (byte_small bytes e (suc (suc (suc at))))
  where
    made : (w x y z : ℕ) → w < 256 → x < 256 → y < 256 → z < 256 → w * 256 ^ 3 + (x * 256 ^ 2 + (y * 256 ^ 1 + (z * 256 ^ 0 + 0))) < 2 ^ 32
    made w x y z lw lx ly lz = omega (arith, lw, lx, ly, lz)

-- so MaxRec is known by how many records it counts
last_one : (z : ℤ) (k : ℕ) → extent z ≡ suc k → z ≡ pos k
last_one (pos n) k e = ap pos (omega (arith, e))
last_one (negsuc n) k e = absurd (omega (arith, e))

number_of : (n k : ℕ) → n < 2 ^ 32 → extent (cast_signed w32 n) ≡ suc k → n ≡ cast_unsigned w32 (pos k)
number_of n k small e = sym (of_z-to_z w32 n small) ∙ ap (λ (z : ℤ). cast_unsigned w32 z) (last_one (cast_signed w32 n) k e)

-- ---- one step

-- the first step ends with the record that is put, so it is the only one
one_step : (p : Put) (from : Stage) (stages : List Stage) (to : Stage) → PutsLeaves p from stages to → from.next ≤ p.rec → p.rec < to.next → ((next : Stage) → PutsLeaf p from next → p.rec < next.next)
    → PutsLeaf p from to × (flat_map (λ stage. stage.acts) stages ≡ to.acts)
one_step p from [] to puts low past ends = let same : from.next ≡ to.next = ap (λ (s : Stage). s.next) puts in absurd (omega (arith, same, low, past))
one_step p from (next ∷ []) to puts low past ends = (subst (PutsLeaf p from) puts.1 puts.0, append-nil next.acts ∙ ap (λ (s : Stage). s.acts) puts.1)
one_step p from (next ∷ other ∷ more) to puts low past ends =
    let later : next.next ≤ p.rec = puts.1.0.more in
    let ended : p.rec < next.next = ends next puts.0 in
    absurd (omega (arith, later, ended))

-- a step ends with its leaf
leaf_ends : (p : Put) (from : Stage) (last : ℕ) → p.rec ≤ last → (range_at p.found.variable from.next from.own.index).last ≡ last → (next : Stage) → PutsLeaf p from next → p.rec < next.next
leaf_ends p from last le is next leaf =
    let e : leaf.new.last ≡ last = ap (λ (r : Range). r.last) leaf.range_is ∙ is in
    let n : next.next ≡ leaf.new.last + 1 = leaf.next_is in
    omega (arith, le, e, n)

-- where a variable stands among others
record AtNumber (vs : List VariableShape) (own : VariableShape) : Type 0 where
  pub before : List VariableShape
  pub after : List VariableShape
  pub are : vs ≡ before ++ own ∷ after

at_number : (vs : List VariableShape) (n : ℕ) (own : VariableShape) → slice_get vs n ≡ Some own → AtNumber vs own
at_number [] n own e = absurd cc
at_number (v ∷ vs) zero own e = record { before = []; after = vs; are = ap (λ (x : VariableShape). x ∷ vs) (ap (or_else v) e) }
at_number (v ∷ vs) (suc n) own e = let later = at_number vs n own e in record { before = v ∷ later.before; after = later.after; are = ap (λ (xs : List VariableShape). v ∷ xs) later.are }

-- a leaf that is found is one of the leaves
found_holds : (P : Leaf → Type 0) (test : Leaf → Bool) (leaves : List Leaf) (l : Leaf) → Each P leaves → find test leaves ≡ Some l → P l
found_holds P test [] l each e = absurd cc
found_holds P test (x ∷ more) l each e = choose (test x) e (λ f. found_holds P test more l each.1 f)
  where
    choose : (q : Bool) → (if q then Some x else find test more) ≡ Some l → (find test more ≡ Some l → P l) → P l
    choose true e later = subst P (ap (or_else x) e) each.0
    choose false e later = later e

found_place : (test : Leaf → Bool) (leaves : List Leaf) (l : Leaf) → find test leaves ≡ Some l → In l.place (map (λ (leaf : Leaf). leaf.place) leaves)
found_place test [] l e = absurd cc
found_place test (x ∷ more) l e = choose (test x) e (λ f. found_place test more l f)
  where
    choose : (q : Bool) → (if q then Some x else find test more) ≡ Some l → (find test more ≡ Some l → In l.place (map (λ (leaf : Leaf). leaf.place) more)) → In l.place (x.place ∷ map (λ (leaf : Leaf). leaf.place) more)
    choose true e later = inl (sym (ap (λ (leaf : Leaf). leaf.place) (ap (or_else x) e)))
    choose false e later = inr (later e)

-- an index with the acts that led to it
abbrev led_to : Nodes → List Act → Nodes × List Act
led_to index acts = (index, acts)

-- what the step of a new block leads to, and that of a block that was there, by where its bytes end
abbrev with_new : Nodes → Leaf → ℕ → ℕ → Nodes × List Act
with_new index new at end = ((grown new at index).0, Took new.place (max linked_size end) ∷ (if (grown new at index).1 == 0 then [] else Took at (vxr_bytes (grown new at index).1) ∷ []))

abbrev with_old : List ℕ → Bool → Nodes → Leaf → Leaf → ℕ → Nodes × List Act
with_old b rle index old new end =
    if keeps_record rle old.packed new.packed end (size_at b old.place) then (index, []) else (with_place new index, Took new.place (max linked_size end) ∷ Gave old.place (size_at b old.place) ∷ [])

-- so a step leads to the same in two images where the bytes of the block end at the same place
step_same : (b mid now : List ℕ) (rle : Bool) (vdr : ℕ) (index : Nodes) (old : Option Leaf) (new : Leaf) (at : ℕ) → block_end mid vdr new ≡ block_end now vdr new → leaf_step b mid rle vdr index old new at ≡ leaf_step b now rle vdr index old new at
step_same b mid now rle vdr index None new at e = ap (with_new index new at) e
step_same b mid now rle vdr index (Some old) new at e = ap (with_old b rle index old new) e

-- What a put of one step says: the step leads from the index before it to the index that the image has.
pub record OneStep (b now : List ℕ) (found : Found) (n : ℕ) (before after : VariableShape) (acts : List Act) : Type 0 where
  pub new : Leaf
  pub at : ℕ
  pub has : leaf_at (first_written found.variable n) after.index ≡ Some new
  pub step : (after.index, acts) ≡ leaf_step b now found.variable.rle after.vdr before.index (leaf_at (first_written found.variable n) before.index) new at

-- MaxRec is k afterwards, and the first block that is put ends with record n or later.
module _ {b now : List ℕ} {found : Found} {n : ℕ} {before : VariableShape} {acts : List Act} (p : PutsBySteps b now found n before acts) (uncut : cuts_before_put found.variable n ≡ false) (low : first_written found.variable n ≤ n) (last : ℕ) (le : n ≤ last) (ends : (range_at found.variable (first_written found.variable n) before.index).last ≡ last)
    (bytes : are_bytes now ≡ true) (k : ℕ) (greatest : max (extent found.variable.max_rec) (n + 1) ≡ suc k) (ruled : is_max_rec (cast_unsigned w32 (pos k)) ≡ true) where
  abbrev this : Put
  this = record { found = found; rec = n; raw = p.raw }

  abbrev first : Stage
  first = record { image = b; own = before; acts = []; next = first_written found.variable n }

  abbrev to : Stage
  to = p.last

  begins : first ≡ p.puts.start
  begins = subst (Begins found first p.puts.start) uncut p.puts.begins

  one : PutsLeaf this first to × (flat_map (λ stage. stage.acts) p.puts.stages ≡ to.acts)
  one = one_step this first p.puts.stages to (subst (λ (s : Stage). PutsLeaves this s p.puts.stages to) (sym begins) p.puts.puts) low p.past (leaf_ends this first last le ends)

  acts_are : acts ≡ to.acts
  acts_are = p.puts.acts_are ∙ ap (λ (s : Stage). s.acts ++ flat_map (λ stage. stage.acts) p.puts.stages) (sym begins) ∙ one.1

  place : AtNumber (shapes_of (shape to.image) found.kind) to.own
  place = at_number (shapes_of (shape to.image) found.kind) found.number to.own one.0.goes.stands

  stands : StandsAmong to.image found.kind place.before to.own place.after
  stands = record { was = place.are }

  max_rec_now : is_max_rec (number now to.own.vdr vdr_max_rec) ≡ true
  max_rec_now = ap is_max_rec (number_of (number now to.own.vdr vdr_max_rec) k (four_small now (to.own.vdr + 24) bytes) (p.max_rec_is ∙ greatest)) ∙ ruled

  writes : WritesRecords to.image now found.kind to.own []
  writes = record { changed = subst (Changed to.image now) (sym (append-nil (max_rec_touches to.image found.kind to.own.vdr))) p.changed; as_long = p.as_long; in_blocks = tt; max_rec_ruled = max_rec_now }

  same_shape : shape now ≡ shape to.image
  same_shape = of_records.same_shape one.0.goes.good stands writes

  -- a block of the variable ends where it ended
  end_same : (l : Leaf) (packed : Bool) → Kept to.image now l.place → BlockFits to.image to.own.vdr l packed
      → (if packed then cvvr_bytes (number to.image l.place cvvr_c_size) else vvr_bytes (plain_size to.image to.own.vdr l)) ≡ (if packed then cvvr_bytes (number now l.place cvvr_c_size) else vvr_bytes (plain_size now to.own.vdr l))
  end_same l true kept room = ap (λ (c : ℕ). cvvr_bytes c) (sym (number_kept to.image now l.place kept.same cvvr_c_size (short (number to.image l.place cvvr_c_size) (size_at to.image l.place) room)))
    where
      short : (c size : ℕ) → 24 + c ≤ size → 24 ≤ size
      short c size h = omega (arith, h)
  end_same l false kept room = ap (λ (c : ℕ). vvr_bytes c) (sym (plain_alike (of_records.file one.0.goes.good stands writes) (of_records.vdr_alike one.0.goes.good stands writes) l))

  ends_same : block_end to.image to.own.vdr one.0.new ≡ block_end now to.own.vdr one.0.new
  ends_same =
      let test = λ (l : Leaf). covers (first_written found.variable n) (range l.first l.last) in
      let there = found_place test (leaves_of to.own.index) one.0.new one.0.has in
      let kept = of_records.block_kept one.0.goes.good stands writes one.0.new.place there (λ none. none) in
      let fit = found_holds (λ (l : Leaf). BlockFits to.image to.own.vdr l l.packed) test (leaves_of to.own.index) one.0.new (fit_all (leaves_of to.own.index) (fits one.0.goes.good stands).2) one.0.has in
      end_same one.0.new one.0.new.packed kept fit
    where
      fit_all : (leaves : List Leaf) → Each (LeafFits to.image (shape to.image).records to.own.vdr) leaves → Each (λ (l : Leaf). BlockFits to.image to.own.vdr l l.packed) leaves
      fit_all [] each = tt
      fit_all (l ∷ more) each = (each.0.1, fit_all more each.1)

  -- the image but for MaxRec is that of the only step, so what the step says of its index and of its acts holds of it
  pub put_at_once : (after : VariableShape) → slice_get (shapes_of (shape now) found.kind) found.number ≡ Some after → OneStep b now found n before after acts
  put_at_once after is =
      let own_is : to.own ≡ after = ap (or_else to.own) (sym one.0.goes.stands ∙ subst (λ (s : Shape). slice_get (shapes_of s found.kind) found.number ≡ Some after) same_shape is) in
      let old = leaf_at (first_written found.variable n) before.index in
      let led : (to.own.index, acts) ≡ leaf_step b now found.variable.rle to.own.vdr before.index old one.0.new one.0.at =
      ap (led_to to.own.index) acts_are ∙ one.0.step ∙ step_same b to.image now found.variable.rle to.own.vdr before.index old one.0.new one.0.at ends_same in
      record {
        new = one.0.new;
        at = one.0.at;
        has = subst (λ (own : VariableShape). leaf_at (first_written found.variable n) own.index ≡ Some one.0.new) own_is one.0.has;
        step = subst (λ (own : VariableShape). (own.index, acts) ≡ leaf_step b now found.variable.rle own.vdr before.index old one.0.new one.0.at) own_is led;
      }
