-- A block that keeps all its records is replaced.
use Rattle.cdf_blocks.proofs.Common.{Bool, IsOneOf, Leaf, List, [], ap, false, if◌then◌else◌, refl, sym, true, ℕ, ◌∙◌, ◌∷◌, ◌≡◌}
unfoldable use Rattle.cdf_blocks.proofs.Common.{leaves_of, with_place, with_range}
use Rattle.cdf_edits.proofs.Common.{Act, Gave, Good, Kind, Nodes, Took, VariableShape, nat_le, size_at, ◌&&◌}
use Rattle.cdf_edits.proofs.Edits.Common.{StandsAmong}
use Rattle.cdf_edits.proofs.Edits.PlainLeaves.{leaves_ascend}
use Rattle.cdf_edits.specs.Index.Written.{block_end, block_need, same_packing, stays_put}
use Rattle.cdf_blocks.specs.Replaced.{BlockReplaced}
use Rattle.cdf_blocks.specs.Shortened.{BlockShortened, shortening_acts}
use Rattle.cdf_blocks.proofs.PlacedLeaf.{range_same, with_range_is}

-- a block that stays in its record keeps its kind
same_kind : (p q : Bool) (more : Bool) → (same_packing p q && more) ≡ true → q ≡ p
same_kind true true more e = refl
same_kind false false more e = refl
same_kind true false more e = absurd cc
same_kind false true more e = absurd cc

module _ {b now : List ℕ} {kind : Kind} {before : List VariableShape} {own : VariableShape} {after : List VariableShape} {old new : Leaf} {plain : List ℕ} (good : Good b) (at : StandsAmong b kind before own after) (one : IsOneOf (leaves_of own.index) old) (first_is : new.first ≡ old.first) (last_is : new.last ≡ old.last) (x : BlockShortened b now kind before own after old new plain) where
  abbrev stays : Bool
  stays = stays_put b now true own.vdr old new

  abbrev step_by : Bool → Nodes × List Act
  step_by s = if s then (own.index, []) else (with_place new own.index, Took new.place (block_need now own.vdr new) ∷ Gave old.place (size_at b old.place) ∷ [])

  -- the leaf that stays in its record is as it was
  new_is : stays ≡ true → new ≡ old
  new_is e = let packed = same_kind old.packed new.packed (nat_le (block_end now own.vdr new) (size_at b old.place)) e in λ i. record { first = first_is i; last = last_is i; place = x.place_is e i; packed = packed i }

  acts_by : (s : Bool) → stays ≡ s → x.acts ≡ (step_by s).1
  acts_by s e = x.acts_are ∙ by s e
    where
      by : (s : Bool) → stays ≡ s → shortening_acts b now own.vdr old new ≡ (step_by s).1
      by true e = rw e refl
      by false e = rw e refl

  index_by : (s : Bool) → stays ≡ s → x.own'.index ≡ (step_by s).0
  index_by true e = x.index_is ∙ ap (λ (l : Leaf). with_range old.first l own.index) (new_is e) ∙ range_same 0 2147483647 old own.index (leaves_ascend good at) one
  index_by false e = x.index_is ∙ ap (λ (f : ℕ). with_range f new own.index) (sym first_is) ∙ with_range_is new own.index

  step_is : (s : Bool) → stays ≡ s → (x.own'.index, x.acts) ≡ step_by s
  step_is s e = λ i. (index_by s e i, acts_by s e i)

  pub replaced : BlockReplaced b now kind before own after old new plain
  replaced = record {
    own' = x.own';
    acts = x.acts;
    step = λ p. step_is stays refl;
    one = x.one;
    first_is = first_is;
    last_is = last_is;
    written = x.written;
    needs = x.needs;
    goes_on = x.goes_on;
    goes = x.goes;
    blocks = x.blocks;
    max_rec_is = x.max_rec_is;
    r_max_rec_is = x.r_max_rec_is;
  }
