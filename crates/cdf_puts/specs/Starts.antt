-- What is known of the indexes of variables: nodes of their top chains, from which searches go on, how large they are at most, and whether no node is empty (own).
use Rattle.std.specs.Prelude.{◌≡◌, ◌≤◌, ◌+◌, ℕ, List, true, IfSome}
use Rattle.std.specs.declared.option.Option.{Option}
use Rattle.std.specs.BTreeMap.{get}
use Rattle.std.specs.Ordering.{nat_cmp}
use Rattle.cdf_edits.specs.Commands.Room.{entries_in, widest}
use Rattle.cdf_edits.specs.Index.Written.{top_chain}
use Rattle.cdf_format.specs.Fields.{number}
use Rattle.cdf_format.specs.Index.{Nodes}
use Rattle.cdf_format.specs.Records.{vdr_vxr_head}
use Rattle.cdf_format.specs.Shape.{VariableShape, Each, shape, variables}
use Rattle.cdf_format.specs.Tiles.{In}
use Rattle.cdf_index.specs.Finding.{index_at}
use Rattle.cdf_puts.specs.TidyIndex.{IsTidy}
use Rattle.cdf_puts.specs.declared.known_index.IndexBound.{IndexBound}
use Rattle.cdf_puts.specs.declared.known_index.KnownIndex.{KnownIndex}
use Rattle.cdf_puts.specs.declared.starts.Starts.{Starts}

-- a node that may be known of an index is one of its top chain
abbrev pub InTopChain : Nodes → Option ℕ → Type 0
InTopChain index known = IfSome known (λ m. In m (top_chain index))

-- of the index of the variable whose VDR stands there
abbrev pub IsKnownStart : List ℕ → ℕ → Option ℕ → Type 0
IsKnownStart b vdr known = InTopChain (index_at b (number b vdr vdr_vxr_head)) known

-- an index has at most so many used entries, and no wider node
pub record IsWithin (index : Nodes) (bound : IndexBound) : Type 0 where
  pub few : entries_in index ≤ bound.entries
  pub narrow : widest index ≤ bound.widest

-- what is known of an index is right of it
pub record IsRightOf (index : Nodes) (known : KnownIndex) : Type 0 where
  pub node : InTopChain index known.node
  pub passed : (rec : ℕ) → InTopChain index (get nat_cmp known.passed rec)
  pub bound : IfSome known.bound (IsWithin index)
  pub tidy : known.tidy ≡ true → IsTidy index

-- what is known of a variable, by the place of its VDR
abbrev pub known_of : Starts → ℕ → Option KnownIndex
known_of starts vdr = get nat_cmp starts.indexes vdr

abbrev pub IsKnownOf : Starts → VariableShape → Type 0
IsKnownOf starts v = IfSome (known_of starts v.vdr) (IsRightOf v.index)

-- what is known of the variables of an image
pub record KnowsStarts (b : List ℕ) (starts : Starts) : Type 0 where
  pub each : Each (IsKnownOf starts) (variables (shape b))

-- what is known of the index of the variable whose VDR stands there is right of any index, as where nothing is known
abbrev pub IsForgotten : ℕ → Starts → Type 0
IsForgotten vdr starts = (index : Nodes) → IfSome (known_of starts vdr) (IsRightOf index)

-- a bound that is known leaves room for so many entries more of an index
abbrev pub LeavesEntries : KnownIndex → Nodes → ℕ → Type 0
LeavesEntries known index more = IfSome known.bound (λ bound. entries_in index + more ≤ bound.entries)

-- so does what is known of a variable
abbrev pub ExpectsEntries : Starts → ℕ → Nodes → ℕ → Type 0
ExpectsEntries starts vdr index more = IfSome (known_of starts vdr) (λ known. LeavesEntries known index more)
