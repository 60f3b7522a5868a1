-- The rules of an image on indexes and blocks, phase 8 (CDF Internal Format Description, "Variable Index Record", "Variable Values Record", "Compressed Variable Values Record").
use Rattle.std.specs.Prelude.{ℕ, ℤ, pos, negsuc, List, [], ◌∷◌, ◌++◌, length, Bool, false, ◌&&◌, ◌||◌, ◌==◌, nat_le, int_le, int_lt, Some, None}
use Rattle.std.specs.List.{flat_map}
use Rattle.cdf_model.specs.Limits.{record_number_limit, signed_limit}
use Rattle.cdf_model.specs.Place.{record_limit}
use Rattle.cdf_model.specs.RunLengths.{unpacked}
use Rattle.cdf_format.specs.Fields.{with_sign, number, holds}
use Rattle.cdf_format.specs.Records.{vxr_n_used_entries, vxr_entries, vvr_records, cvvr_c_size, cvvr_packed}
use Rattle.cdf_format.specs.RecordTypes.{vvr_type, cvvr_type}
use Rattle.cdf_format.specs.Rules.{Row, row, asked}
use Rattle.cdf_format.specs.Chains.{is_a}
use Rattle.cdf_format.specs.Index.{Nodes, no_node, node, Entries, no_entry, block, lower, Leaf, leaves_of, room_at}
use Rattle.cdf_format.specs.IndexWalk.{Met, met, lost}
use Rattle.cdf_format.specs.Shape.{is_compressed, index_of}
use Rattle.cdf_format.specs.Stored.{packed_bytes}
use Rattle.cdf_format.specs.VariableFields.{number_before, plain_size}

-- a node has no more used entries than entries, and room for these
abbrev pub has_room : List ℕ → ℕ → Bool
has_room b vxr = (nat_le (number b vxr vxr_n_used_entries) (room_at b vxr) && nat_le (room_at b vxr) signed_limit) && holds b vxr (vxr_entries (room_at b vxr))

abbrev pub is_block : List ℕ → List ℕ → ℕ → Bool
is_block b records place = is_a b records vvr_type place || is_a b records cvvr_type place

-- First and Last of an entry, with their sign, are in order; First is greater than one number, and Last is at most another
abbrev pub is_between : ℤ → ℤ → ℕ → ℕ → Bool
is_between low high first last = int_lt low (with_sign first) && (int_le (with_sign first) (with_sign last) && int_le (with_sign last) high)

-- Last of the last entry, or this number where there is none
abbrev pub end_of : ℤ → Entries → ℤ
end_of low no_entry = low
end_of low (block first last place packed entries) = end_of (with_sign last) entries
end_of low (lower first last nodes entries) = end_of (with_sign last) entries

unfoldable mutual
  -- Entries are in ascending order, along a chain too, and those of a lower chain lie within the entry that names it.
  pub nodes_rows : List ℕ → List ℕ → ℤ → ℤ → Nodes → List Row
  nodes_rows b records low high no_node = []
  nodes_rows b records low high (node place room entries more) = row 2 place (has_room b place) ∷ used_rows b records place low high entries ++ nodes_rows b records (end_of low entries) high more

  pub used_rows : List ℕ → List ℕ → ℕ → ℤ → ℤ → Entries → List Row
  used_rows b records vxr low high no_entry = []
  used_rows b records vxr low high (block first last place packed entries) =
      row 3 vxr (is_block b records place) ∷ row 4 vxr (is_between low high first last) ∷ used_rows b records vxr (with_sign last) high entries
  used_rows b records vxr low high (lower first last nodes entries) =
      row 4 vxr (is_between low high first last) ∷ nodes_rows b records (number_before first) (with_sign last) nodes ++ used_rows b records vxr (with_sign last) high entries

-- packed bytes stand for just so many
abbrev pub unpacks_to : List ℕ → ℕ → Bool
unpacks_to packed n = elim (unpacked packed) [ None ↦ false | Some plain ↦ length plain == n ]

-- cSize is not negative, and there is room for as many bytes
abbrev pub holds_packed : List ℕ → ℕ → Bool
holds_packed b cvvr = nat_le (number b cvvr cvvr_c_size) 0x7fffffffffffffff && holds b cvvr (cvvr_packed (number b cvvr cvvr_c_size))

-- the block of a leaf
abbrev pub vvr_rows : List ℕ → ℕ → Leaf → List Row
vvr_rows b vdr leaf = row 5 leaf.place (holds b leaf.place (vvr_records (plain_size b vdr leaf))) ∷ []

abbrev pub cvvr_rows : List ℕ → ℕ → Leaf → List Row
cvvr_rows b vdr leaf =
    row 6 leaf.place (is_compressed b vdr && holds_packed b leaf.place)
    ∷ row 7 leaf.place (nat_le (plain_size b vdr leaf) record_limit)
    ∷ row 8 leaf.place (unpacks_to (packed_bytes b leaf.place) (plain_size b vdr leaf))
    ∷ []

abbrev pub leaf_rows : List ℕ → List ℕ → ℕ → Leaf → List Row
leaf_rows b records vdr leaf = asked (is_a b records vvr_type leaf.place) (vvr_rows b vdr leaf) ++ asked (is_a b records cvvr_type leaf.place) (cvvr_rows b vdr leaf)

-- an index that is one
abbrev pub index_rows : List ℕ → List ℕ → ℕ → Nodes → List Row
index_rows b records vdr nodes = nodes_rows b records (negsuc 0) (pos record_number_limit) nodes ++ flat_map (leaf_rows b records vdr) (leaves_of nodes)

-- each link of an index leads right; else its record is named
abbrev pub met_rows : List ℕ → List ℕ → ℕ → Met Nodes → List Row
met_rows b records vdr (lost place) = row 1 place false ∷ []
met_rows b records vdr (met seen nodes) = index_rows b records vdr nodes

-- the indexes of these variables, in an image with these records
abbrev pub phase8 : List ℕ → List ℕ → List ℕ → List Row
phase8 b records vdrs = flat_map (λ vdr. met_rows b records vdr (index_of b records vdr)) vdrs
