-- What the calls ask for that give the block of a leaf its records before a first one alone, and what they come to.
use Rattle.std.proofs.Common.{List, None, Option, Some, ap, inl, inr, subst, sym, true, ℕ, ◌∙◌, ◌≡◌}
use Rattle.cdf_edits.proofs.Common.{Good, Kind, Nodes, VariableShape, is_compressed, leaves_of, number, record_bytes, vdr_vxr_head}
use Rattle.cdf_edits.proofs.Edits.StandsAmong.{StandsAmong}
use Rattle.cdf_index.specs.Finding.{index_at}
use Rattle.cdf_index.specs.Sight.{seen}
use Rattle.cdf_blocks.specs.declared.sites.SitedLeaf.{SitedLeaf}
use Rattle.cdf_cuts.proofs.CutCalls.{index_is}
use Rattle.cdf_packed_cuts.specs.Past.{HasRoom}
use Rattle.cdf_packed_cuts.specs.Splitting.{FrontKept, FrontLeft, HasSplit, IsSplitOf, SplitIs}

module _ {b : List ℕ} (good : Good b) {kind : Kind} {before : List VariableShape} {own : VariableShape} {after : List VariableShape} {vdr : ℕ} (among : StandsAmong b kind before own after) (is : own.vdr ≡ vdr) {first size limit : ℕ} (rle : is_compressed b vdr ≡ true) (size_is : size ≡ record_bytes b vdr) (room : HasRoom b (leaves_of (index_at b (number b vdr vdr_vxr_head))) size first limit) where
  own_room : HasRoom b (leaves_of own.index) size first limit
  own_room = subst (λ (y : Nodes). HasRoom b (leaves_of y) size first limit) (index_is b good among is).1 room

  module _ (o : Option SitedLeaf) (split : SplitIs b own.index first o) (found : SitedLeaf) (some : o ≡ Some found) where
    one_is : SplitIs b own.index first (Some found)
    one_is = subst (SplitIs b own.index first) some split

    -- the leaf that was found
    pub split_of : IsSplitOf b kind before own after found.site (seen found.leaf) first size limit
    split_of = record {
      good = good;
      among = among;
      rle = ap (is_compressed b) is ∙ rle;
      one = one_is.0;
      split = one_is.1;
      site_is = one_is.2;
      size_is = size_is ∙ ap (record_bytes b) (sym is);
      room = own_room (seen found.leaf) one_is.0 one_is.1;
    }

    pub has_split : HasSplit b found.site (seen found.leaf) first size limit
    has_split = record { kind = kind; before = before; own = own; after = after; is = split_of }

    -- its block was given these records
    pub kept_some : {mid : List ℕ} → FrontLeft b mid kind before own after (seen found.leaf) first → FrontKept b mid kind before own after first
    kept_some f = inr (record { old = seen found.leaf; one = one_is.0; split = one_is.1; front = f })

-- or there is none
pub kept_none : {b mid : List ℕ} {kind : Kind} {before : List VariableShape} {own : VariableShape} {after : List VariableShape} {first : ℕ} (o : Option SitedLeaf) → SplitIs b own.index first o → o ≡ None → mid ≡ b → FrontKept b mid kind before own after first
kept_none {b = b} {own = own} {first = first} o split none same = inl (same, subst (SplitIs b own.index first) none split)
