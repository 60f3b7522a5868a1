-- What a cut leaves of a good image of which no block of the variable is packed.
use Rattle.cdf_cuts.proofs.Common.{Bool, List, Nodes, Span, false, kept_by, leaves_of, nodes_of, places_of, plan_of, freed_of, times, true, ℕ, ◌+◌, ◌≤◌}
use Rattle.cdf_edits.proofs.Common.{gave, record_number_limit}
use Rattle.cdf_edits.specs.Index.Blocks.{fallen}
use Rattle.cdf_edits.specs.Index.Cut.{CutsIndex}
use Rattle.cdf_index.specs.Order.{InOrder}
use Rattle.cdf_model.specs.DataSet.{Variable}
use Rattle.cdf_cuts.proofs.CutFollows.{meets_index}
use Rattle.cdf_cuts.proofs.CutLaws.{falls, is_in_order}
use Rattle.cdf_cuts.proofs.CutOpen.{open_order}
use Rattle.cdf_cuts.proofs.CutStay.{falling_parts, open_parts}
use Rattle.cdf_cuts.proofs.CutWords.{cut}
use Rattle.cdf_cuts.specs.Planning.{closing, opening}
use Rattle.cdf_cuts.specs.Linking.{left_of}

abbrev pub spanning : ℕ → ℕ → Bool → Span
spanning first last close = record { first = first; last = last; close = close }

pub rest_order : (first last : ℕ) (close : Bool) (nodes : Nodes) → first ≤ last → InOrder 0 record_number_limit nodes → InOrder 0 record_number_limit (cut (spanning first last close) nodes)
rest_order first last true nodes le o = is_in_order first last nodes le o
rest_order first last false nodes le o = open_order first last le 0 2147483646 nodes o

pub meets : (b : List ℕ) (v : Variable) (first last : ℕ) (close : Bool) (nodes : Nodes) → ((m : ℕ) → times m (nodes_of nodes) + times m (places_of (leaves_of nodes)) ≤ 1) → first ≤ last → InOrder 0 record_number_limit nodes
    → CutsIndex v (kept_by (spanning first last close)) nodes (left_of (spanning first last close) nodes) (left_of (spanning first last close) nodes) (gave b (freed_of (plan_of (spanning first last close) 0 nodes)))
meets b v first last true nodes once le o = meets_index b v (closing first last) nodes once (fallen first last) (falling_parts (closing first last) (fallen first last) (falls first last le)) o
meets b v first last false nodes once le o = meets_index b v (opening first last) nodes once (λ n. n) (open_parts first last le) o
