-- What the calls ask for that give the block of the leaf with an edge the records that stay alone, and what they come to.
use Rattle.std.proofs.Common.{List, None, Option, Some, ap, arith, inl, inr, subst, sym, true, ℕ, ◌∙◌, ◌≡◌, ◌≤◌}
use Rattle.cdf_edits.proofs.Common.{Good, Kind, Leaf, Nodes, VariableShape, is_compressed, leaves_of, number, record_bytes, vdr_vxr_head}
use Rattle.cdf_edits.proofs.Edits.LeafPieces.{IsOneOf}
use Rattle.cdf_edits.proofs.Edits.StandsAmong.{StandsAmong}
use Rattle.cdf_index.specs.Finding.{index_at}
use Rattle.cdf_index.specs.Sight.{seen}
use Rattle.cdf_blocks.specs.declared.sites.SitedLeaf.{SitedLeaf}
use Rattle.cdf_cuts.proofs.CutCalls.{index_is}
use Rattle.cdf_cuts.specs.Past.{EndsOrGoes}
use Rattle.cdf_packed_cuts.specs.Past.{IsSplit}
use Rattle.cdf_packed_cuts.specs.Splitting.{SplitIs}
use Rattle.cdf_packed_deletes.specs.Keeping.{HasKept, HasKeepingRoom, IsCutIn, IsEdge, IsKeptOf, KeptAt, PartsLeft}

pub split_cut : {edge first last : ℕ} {l : Leaf} → first ≤ last → IsEdge edge first last → IsSplit edge l → IsCutIn first last l
split_cut order (inl e) s = let f = s.before in let g = s.behind in record { reaches = omega (arith, e, g); begins = omega (arith, e, f, order); some = inl (omega (arith, e, f)) }
split_cut order (inr e) s = let f = s.before in let g = s.behind in record { reaches = omega (arith, e, g, order); begins = omega (arith, e, f); some = inr (omega (arith, e, g)) }

module _ {b : List ℕ} (good : Good b) {kind : Kind} {before : List VariableShape} {own : VariableShape} {after : List VariableShape} {vdr : ℕ} (among : StandsAmong b kind before own after) (is : own.vdr ≡ vdr) {edge first last size limit : ℕ} (rle : is_compressed b vdr ≡ true) (size_is : size ≡ record_bytes b vdr) (order : first ≤ last) (at_edge : IsEdge edge first last) (room : HasKeepingRoom b (leaves_of (index_at b (number b vdr vdr_vxr_head))) size first last limit) where
  own_room : HasKeepingRoom b (leaves_of own.index) size first last limit
  own_room = subst (λ (y : Nodes). HasKeepingRoom b (leaves_of y) size first last limit) (index_is b good among is).1 room

  module _ (o : Option SitedLeaf) (split : SplitIs b own.index edge o) (found : SitedLeaf) (some : o ≡ Some found) where
    one_is : SplitIs b own.index edge (Some found)
    one_is = subst (SplitIs b own.index edge) some split

    cut_in : IsCutIn first last (seen found.leaf)
    cut_in = split_cut order at_edge one_is.1

    -- the leaf that was found
    pub kept_of : IsKeptOf b kind before own after found.site (seen found.leaf) first last size limit
    kept_of = record {
      good = good;
      among = among;
      rle = ap (is_compressed b) is ∙ rle;
      one = one_is.0;
      cut_in = cut_in;
      order = order;
      site_is = one_is.2;
      size_is = size_is ∙ ap (record_bytes b) (sym is);
      room = own_room (seen found.leaf) one_is.0 cut_in;
    }

    pub has_kept : HasKept b found.site (seen found.leaf) first last size limit
    has_kept = record { kind = kind; before = before; own = own; after = after; is = kept_of }

    -- its block was given these records
    pub kept_some : {now : List ℕ} → PartsLeft b now kind before own after (seen found.leaf) first last → KeptAt b now kind before own after edge first last (Some found)
    kept_some p = (one_is.0, cut_in, one_is.1, p)

-- or there is none
pub kept_none : {b mid : List ℕ} (own : VariableShape) {edge : ℕ} (o : Option SitedLeaf) → SplitIs b own.index edge o → o ≡ None → mid ≡ b → (mid ≡ b) × ((l : Leaf) → IsOneOf (leaves_of own.index) l → EndsOrGoes edge l)
kept_none {b = b} own {edge = edge} o split none same = (same, subst (SplitIs b own.index edge) none split)
