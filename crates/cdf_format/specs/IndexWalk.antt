-- The index of an image, computed: a walk along its links (CDF Internal Format Description, "Variable Index Record").
use Rattle.std.specs.Prelude.{ℕ, zero, suc, List, [], ◌∷◌, ◌++◌, length, not, ◌&&◌, ◌==◌, if◌then◌else◌}
use Rattle.cdf_model.specs.Limits.{level_limit}
use Rattle.cdf_format.specs.Fields.{number, type_at}
use Rattle.cdf_format.specs.Records.{Field}
use Rattle.cdf_format.specs.RecordTypes.{vxr_type, cvvr_type}
use Rattle.cdf_format.specs.Chains.{is_in, is_linkable, next_of}
use Rattle.cdf_format.specs.Index.{Nodes, no_node, node, Entries, no_entry, block, lower, room_at, used_count, first_at, last_at, offset_at}

-- the records met so far, with what was made of them; or the place where a link leads wrong
pub data Met (A : Type 0) : Type 0 where
  met : List ℕ → A → Met A
  lost : ℕ → Met A

abbrev pub and_then : {A B : Type 0} → Met A → (List ℕ → A → Met B) → Met B
and_then (met seen a) more = more seen a
and_then (lost place) more = lost place

-- the used entries of a node from number i on, so many of them; those that name a VXR lead on, and `below` walks the lower chain, one level down
unfoldable pub entries_on : (List ℕ → ℕ → ℕ → Met Nodes) → List ℕ → List ℕ → ℕ → ℕ → ℕ → List ℕ → Met Entries
entries_on below b tiles place i zero seen = met seen no_entry
entries_on below b tiles place i (suc left) seen =
    if is_linkable b tiles vxr_type (offset_at b place i)
    then and_then (below seen place (offset_at b place i)) (λ seen nodes. and_then (entries_on below b tiles place (suc i) left seen) (λ seen entries. met seen (lower (first_at b place i) (last_at b place i) nodes entries)))
    else and_then (entries_on below b tiles place (suc i) left seen) (λ seen entries. met seen (block (first_at b place i) (last_at b place i) (offset_at b place i) (type_at b (offset_at b place i) == cvvr_type) entries))

-- the nodes of a chain from a link in the record `holder`, at most so many, with `below` for the lower chains; each link is 0 or leads to a VXR that was not met before
unfoldable pub nodes_on : (List ℕ → ℕ → ℕ → Met Nodes) → ℕ → List ℕ → List ℕ → List ℕ → ℕ → ℕ → Met Nodes
nodes_on below zero b tiles seen holder link = if link == 0 then met seen no_node else lost holder
nodes_on below (suc most) b tiles seen holder link =
    if link == 0 then met seen no_node
    else (if is_linkable b tiles vxr_type link && not (is_in link seen)
    then and_then (entries_on below b tiles link 0 (used_count b link) (seen ++ link ∷ []))
    (λ seen entries. and_then (nodes_on below most b tiles seen link (next_of b link)) (λ seen more. met seen (node link (room_at b link) entries more)))
    else lost holder)

-- so many levels deep
unfoldable pub levels_on : ℕ → List ℕ → List ℕ → List ℕ → ℕ → ℕ → Met Nodes
levels_on zero b tiles seen holder link = if link == 0 then met seen no_node else lost holder
levels_on (suc levels) b tiles seen holder link = nodes_on (levels_on levels b tiles) (length tiles) b tiles seen holder link

-- the index from the link in a field of a record
abbrev pub index_walk : List ℕ → List ℕ → ℕ → Field → Met Nodes
index_walk b tiles holder head = levels_on level_limit b tiles [] holder (number b holder head)

-- the index of a walk that does not lead wrong
abbrev pub nodes_met : Met Nodes → Nodes
nodes_met (met seen nodes) = nodes
nodes_met (lost place) = no_node
