-- What a cut makes of an index, as code plans it before any byte is written (own).
use Rattle.std.specs.Prelude.{◌≡◌, ℕ, zero, suc, ◌-◌, List, [], ◌∷◌, ◌++◌, length, map, get_or, Bool, true, false, if◌then◌else◌, Some, None}
use Rattle.std.specs.declared.option.Option.{Option}
use Rattle.std.specs.List.{flat_map}
use Rattle.cdf_edits.specs.Index.Blocks.{Range, range}
use Rattle.cdf_edits.specs.Index.Grown.{kept_open, kept_closed}
use Rattle.cdf_format.specs.Index.{Nodes, no_node, node, Entries, no_entry, block, lower, entry_count}
use Rattle.cdf_index.specs.declared.entries.Entry.{Entry}
use Rattle.cdf_cuts.specs.declared.planning.NodeCut.{NodeCut}
use Rattle.cdf_cuts.specs.declared.planning.NodeLink.{NodeLink}
use Rattle.cdf_cuts.specs.declared.planning.Plan.{Plan}
use Rattle.cdf_cuts.specs.declared.planning.Span.{Span}

-- a cut by which later records close up
abbrev pub closing : ℕ → ℕ → Span
closing first last = record { first = first; last = last; close = true }

-- and one by which they keep their numbers
abbrev pub opening : ℕ → ℕ → Span
opening first last = record { first = first; last = last; close = false }

-- what a block keeps of its records
abbrev pub kept_by : Span → Range → List Range
kept_by span r = if span.close then kept_closed span.first span.last r else kept_open span.first span.last r

-- ---- what is to be done

-- a node with so much room, of whose entries so many were used, gets these
pub record Rewrite : Type 0 where
  pub place : ℕ
  pub room : ℕ
  pub used : ℕ
  pub entries : List Entry

-- a node is rewritten, a node gets another one behind it, a block is freed, a node that is left without entries is freed
pub data Doing : Type 0 where
  rewrite : Rewrite → Doing
  relink : ℕ → ℕ → Doing
  release : ℕ → Doing
  discard : ℕ → Doing

abbrev pub rewritten : Doing → List Rewrite
rewritten (rewrite r) = r ∷ []
rewritten (relink place next) = []
rewritten (release place) = []
rewritten (discard place) = []

abbrev pub relinked : Doing → List NodeLink
relinked (rewrite r) = []
relinked (relink place next) = record { place = place; next = next } ∷ []
relinked (release place) = []
relinked (discard place) = []

abbrev pub released : Doing → List ℕ
released (rewrite r) = []
released (relink place next) = []
released (release place) = place ∷ []
released (discard place) = []

abbrev pub discarded : Doing → List ℕ
discarded (rewrite r) = []
discarded (relink place next) = []
discarded (release place) = []
discarded (discard place) = place ∷ []

-- what is freed: the blocks, and then the nodes
abbrev pub freed_of : List Doing → List ℕ
freed_of steps = flat_map released steps ++ flat_map discarded steps

abbrev pub node_told : NodeCut → Rewrite
node_told cut = record { place = cut.place; room = cut.room; used = cut.used; entries = cut.entries.items }

-- a plan has these too by now
pub record Does (was now : Plan) (more : List Doing) : Type 0 where
  pub nodes_are : map node_told now.nodes.items ≡ map node_told was.nodes.items ++ flat_map rewritten more
  pub links_are : now.links.items ≡ was.links.items ++ flat_map relinked more
  pub blocks_are : now.blocks.items ≡ was.blocks.items ++ flat_map released more
  pub emptied_are : now.emptied.items ≡ was.emptied.items ++ flat_map discarded more

-- ---- what entries are to say

abbrev pub words : ℕ → ℕ → ℕ → Entry
words first last place = record { first = first; last = last; place = place }

abbrev pub block_words : List Range → ℕ → List Entry
block_words [] place = []
block_words (r ∷ rest) place = words r.first r.last place ∷ []

abbrev pub dropped : List Range → ℕ → List Doing
dropped [] place = release place ∷ []
dropped (r ∷ rest) place = []

abbrev pub lower_words : Bool → ℕ → ℕ → Option Entry → List Entry
lower_words close first last None = []
lower_words true first last (Some e) = e ∷ []
lower_words false first last (Some e) = words first last e.place ∷ []

abbrev pub last_word : List Entry → ℕ
last_word ws = (get_or ws (length ws - 1) (words 0 0 0)).last

-- the entry that names a chain with another node, which has these
abbrev pub found_with : Option Entry → ℕ → Entry → ℕ → Option Entry
found_with None place w last = Some (words w.first last place)
found_with (Some e) place w last = Some (words e.first last e.place)

abbrev pub found_after : Option Entry → ℕ → List Entry → Option Entry
found_after found place [] = found
found_after found place (w ∷ ws) = found_with found place w (last_word (w ∷ ws))

-- the last node that stays, by then
abbrev pub stands_after : ℕ → ℕ → List Entry → ℕ
stands_after prev place [] = prev
stands_after prev place (w ∷ ws) = place

-- no node went so far
abbrev pub whole_after : Bool → List Entry → Bool
whole_after whole [] = false
whole_after whole (w ∷ ws) = whole

unfoldable mutual
  -- the entry that names what is left of a chain, behind what was found before
  pub found_in : Span → Option Entry → Nodes → Option Entry
  found_in span found no_node = found
  found_in span found (node place room entries more) = found_in span (found_after found place (cut_words span entries)) more

  pub cut_words : Span → Entries → List Entry
  cut_words span no_entry = []
  cut_words span (block first last place packed entries) = block_words (kept_by span (range first last)) place ++ cut_words span entries
  cut_words span (lower first last nodes entries) = lower_words span.close first last (found_in span None nodes) ++ cut_words span entries

-- the last node of a chain that stays, behind the last one before it; and whether all its nodes stay
unfoldable pub stands_in : Span → ℕ → Nodes → ℕ
stands_in span prev no_node = prev
stands_in span prev (node place room entries more) = stands_in span (stands_after prev place (cut_words span entries)) more

unfoldable pub whole_in : Span → Bool → Nodes → Bool
whole_in span whole no_node = whole
whole_in span whole (node place room entries more) = whole_in span (whole_after whole (cut_words span entries)) more

-- ---- what is to be done, node by node

abbrev pub link_if : ℕ → ℕ → List Doing
link_if zero place = []
link_if (suc prev) place = relink (suc prev) place ∷ []

abbrev pub ended : ℕ → List Doing
ended prev = link_if prev 0

abbrev pub rewrite_one : ℕ → ℕ → ℕ → List Entry → List Doing
rewrite_one place room used entries = rewrite (record { place = place; room = room; used = used; entries = entries }) ∷ []

abbrev pub step : ℕ → ℕ → ℕ → ℕ → List Entry → List Doing
step prev place room used [] = discard place ∷ []
step prev place room used (w ∷ ws) = link_if prev place ++ rewrite_one place room used (w ∷ ws)

unfoldable mutual
  -- for a chain behind a node that stays, 0 for none
  pub plan_of : Span → ℕ → Nodes → List Doing
  plan_of span prev no_node = ended prev
  plan_of span prev (node place room entries more) =
      plan_below span entries ++ (step prev place room (entry_count entries) (cut_words span entries) ++ plan_of span (stands_after prev place (cut_words span entries)) more)

  pub plan_below : Span → Entries → List Doing
  plan_below span no_entry = []
  plan_below span (block first last place packed entries) = dropped (kept_by span (range first last)) place ++ plan_below span entries
  plan_below span (lower first last nodes entries) = plan_of span 0 nodes ++ plan_below span entries
