-- Records cut at the end of an index of which no node is empty: where no block reaches them nothing is done, and where the last one alone does, and begins before them, Last of its entry is written.
use Rattle.std.specs.Prelude.{◌≡◌, ◌<◌, ◌≤◌, ℕ, ◌-◌, List, length, false}
use Rattle.cdf_edits.proofs.Common.{Good, Kind, VariableShape, image_limit}
use Rattle.cdf_edits.proofs.Edits.Common.{StandsAmong}
use Rattle.cdf_edits.proofs.Edits.LeafPieces.{IsOneOf, each_of}
use Rattle.cdf_format.specs.Index.{Leaf, leaves_of}
use Rattle.cdf_index.specs.Writing.{EntrySet}
use Rattle.cdf_cuts.specs.Past.{CutPast, cut_off}
use Rattle.cdf_puts.specs.TidyIndex.{IsTidy}
use Rattle.cdf_trim.proofs.EndLinked as by
use Rattle.cdf_trim.proofs.EndReach.{Ends}
use Rattle.cdf_trim.specs.LastEntry.{NamesLast}
use Rattle.cdf_trim.specs.declared.last_entry.LastEntry.{LastEntry}
use Rattle.cdf_format.specs.Shape.{is_compressed}

module _ {b : List ℕ} {kind : Kind} {before : List VariableShape} {own : VariableShape} {after : List VariableShape} (good : Good b) (at : StandsAmong b kind before own after) (short : length b ≤ image_limit) (tidy : IsTidy own.index) (loose : is_compressed b own.vdr ≡ false) where
  pub nothing_cut : (first : ℕ) → ((l : Leaf) → IsOneOf (leaves_of own.index) l → l.last < first) → CutPast b b kind before own (cut_off own first) after first
  nothing_cut first ends = by.nothing_cut good at short tidy loose first (each_of (Ends first) (leaves_of own.index) ends)

  pub end_cut : {now : List ℕ} (first : ℕ) (e : LastEntry) → NamesLast b own.index e → e.leaf.first < first → first ≤ e.leaf.last → EntrySet b now e.node e.number e.leaf.first (first - 1) e.leaf.at → CutPast b now kind before own (cut_off own first) after first
  end_cut first e n early reaches set = by.end_cut good at short tidy loose n.is_node n.is_last n.says n.leaf_is early reaches set
