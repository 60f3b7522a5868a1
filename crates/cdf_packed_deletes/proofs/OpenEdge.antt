-- What the calls ask for that give the block of the leaf with an edge the records that stay in it, where later ones keep their numbers, and what they come to.
use Rattle.std.proofs.Common.{List, None, Option, Some, ap, inl, inr, subst, sym, true, ℕ, ◌∙◌, ◌≡◌, ◌≤◌}
use Rattle.cdf_edits.proofs.Common.{Good, Kind, Nodes, VariableShape, is_compressed, leaves_of, number, record_bytes, vdr_vxr_head}
use Rattle.cdf_edits.proofs.Edits.StandsAmong.{StandsAmong}
use Rattle.cdf_index.specs.Finding.{index_at}
use Rattle.cdf_index.specs.Sight.{seen}
use Rattle.cdf_blocks.specs.declared.sites.SitedLeaf.{SitedLeaf}
use Rattle.cdf_cuts.proofs.CutCalls.{index_is}
use Rattle.cdf_packed_cuts.specs.Splitting.{SplitIs}
use Rattle.cdf_packed_deletes.proofs.KeptEdge.{split_cut}
use Rattle.cdf_packed_deletes.specs.Keeping.{IsCutIn, IsEdge}
use Rattle.cdf_packed_deletes.specs.OpenKeeping.{HasOpen, HasOpenRoom, IsOpenOf, Opened, OpenedAt}
use Rattle.cdf_packed_deletes.specs.declared.opening.Later.{Later}

module _ {b : List ℕ} (good : Good b) {kind : Kind} {before : List VariableShape} {own : VariableShape} {after : List VariableShape} {vdr : ℕ} (among : StandsAmong b kind before own after) (is : own.vdr ≡ vdr) {edge first last size limit : ℕ} (rle : is_compressed b vdr ≡ true) (size_is : size ≡ record_bytes b vdr) (order : first ≤ last) (at_edge : IsEdge edge first last) (room : HasOpenRoom b (leaves_of (index_at b (number b vdr vdr_vxr_head))) size first last limit) where
  own_room : HasOpenRoom b (leaves_of own.index) size first last limit
  own_room = subst (λ (y : Nodes). HasOpenRoom b (leaves_of y) size first last limit) (index_is b good among is).1 room

  module _ (o : Option SitedLeaf) (split : SplitIs b own.index edge o) (found : SitedLeaf) (some : o ≡ Some found) where
    one_is : SplitIs b own.index edge (Some found)
    one_is = subst (SplitIs b own.index edge) some split

    cut_in : IsCutIn first last (seen found.leaf)
    cut_in = split_cut order at_edge one_is.1

    -- the leaf that was found
    pub open_of : IsOpenOf b kind before own after found.site (seen found.leaf) first last size limit
    open_of = record {
      good = good;
      among = among;
      rle = ap (is_compressed b) is ∙ rle;
      one = one_is.0;
      cut_in = cut_in;
      order = order;
      site_is = one_is.2;
      size_is = size_is ∙ ap (record_bytes b) (sym is);
      room = own_room (seen found.leaf) one_is.0 cut_in;
    }

    pub has_open : HasOpen b found.site (seen found.leaf) first last size limit
    has_open = record { kind = kind; before = before; own = own; after = after; is = open_of }

    -- its block was given these records
    pub opened_some : {now : List ℕ} (later : Option Later) → Opened b now kind before own after (seen found.leaf) first last later → OpenedAt b now kind before own after edge first last later
    opened_some later p = inr (record { leaf = seen found.leaf; one = one_is.0; cut_in = cut_in; split = one_is.1; opened = p })

-- or there is none
pub opened_none : {b mid : List ℕ} {kind : Kind} {before : List VariableShape} (own : VariableShape) {after : List VariableShape} {edge first last : ℕ} (o : Option SitedLeaf) → SplitIs b own.index edge o → o ≡ None → mid ≡ b → (later : Option Later) → later ≡ None → OpenedAt b mid kind before own after edge first last later
opened_none {b = b} own {edge = edge} o split none same later is = inl (record { same = same; none = subst (SplitIs b own.index edge) none split; none_later = is })
