-- The bytes of a block were written in its record: what stays of the records and the index of its variable.
use Rattle.cdf_blocks.proofs.Common.{Bool, Each, In, IsOneOf, Leaf, List, [], arith, cases_eq, false, inl, inr, length, refl, sym, true, ℕ, ◌+◌, ◌∙◌, ◌∷◌, ◌≡◌, ◌≢◌, ◌≤◌}
unfoldable use Rattle.cdf_blocks.proofs.Common.{leaves_of, nodes_of}
use Rattle.cdf_edits.proofs.Common.{Among, Edit, Good, HasShape, Kind, Mark, Marked, NodeFits, Shape, VariableShape, linkable-type, nodes_stand, shape, size_at, tile_lies, type_at, unmarked, vxr_type}
use Rattle.cdf_edits.proofs.Edits.Common.{Kept, SameHeads, StandsAmong, behind_in, changed_edit, fits, has, head_size, kept, kept_away, some_bytes, sound, tile}
use Rattle.cdf_edits.proofs.Edits.VariableCopied.{block_behind, node_behind}
use Rattle.cdf_edits.proofs.Frame.LinksStay.{nodes_kept}
use Rattle.cdf_index.proofs.Common.{Each-in}
use Rattle.cdf_blocks.specs.Blocks.{Overwritten, stored_end, stored_touches, type_of_block}
use Rattle.cdf_blocks.proofs.BlockOf.{block_in, block_typed, no_vdr}
use Rattle.cdf_blocks.proofs.EntryNamed.{Between}

-- the bytes of a block behind its type
abbrev pub block_marks : Bool → ℕ → ℕ → List Mark
block_marks packed place limit = record { type = type_of_block packed; tiles = Among (place ∷ []); place = 12; width = limit } ∷ []

no_nodes : (packed : Bool) (place limit : ℕ) → unmarked (block_marks packed place limit) vxr_type ≡ true
no_nodes true place limit = refl
no_nodes false place limit = refl

-- what is written lies in it
marked : (b records : List ℕ) (place n limit : ℕ) (packed : Bool) → In place records → type_at b place ≡ type_of_block packed → stored_end packed n ≤ size_at b place → size_at b place ≤ limit → Each (Marked b records (block_marks packed place limit) []) (stored_touches place n packed)
marked b records place n limit true there typed fit small = grind (arith, there, typed, fit, small)
marked b records place n limit false there typed fit small = grind (arith, there, typed, fit, small)

module _ {b mid : List ℕ} {kind : Kind} {before : List VariableShape} {own : VariableShape} {after : List VariableShape} (good : Good b) (at : StandsAmong b kind before own after) (old : Leaf) (one : IsOneOf (leaves_of own.index) old) (bytes : List ℕ) (w : Overwritten b mid old.place old.packed bytes) (room : stored_end old.packed (length bytes) ≤ size_at b old.place) where
  abbrev s : Shape
  s = shape b

  abbrev nodes : List ℕ
  nodes = nodes_of own.index

  h : HasShape b s
  h = (sound good at).has_shape

  pub high : old.place + size_at b old.place ≤ length b
  high = (tile_lies b 8 (length b) s.records old.place h.tiled (block_in good at old one)).high

  pub all_marked : Each (Marked b s.records (block_marks old.packed old.place (length b)) []) (stored_touches old.place (length bytes) old.packed)
  all_marked = marked b s.records old.place (length bytes) (length b) old.packed (block_in good at old one) (block_typed good at old one) room (omega (arith, high))

  pub bytes_edit : Edit b mid s.records s.records (block_marks old.packed old.place (length b)) []
  bytes_edit = changed_edit b mid s.records (stored_touches old.place (length bytes) old.packed) (block_marks old.packed old.place (length b)) [] h.tiled w.as_long w.changed all_marked (some_bytes b s h)

  pub mid_kept : (m : ℕ) → In m s.records → m ≢ old.place → Kept b mid m
  mid_kept m j ne = kept_away bytes_edit m (type_at b m) j refl ((λ same lies. elim lies [ inl q ↦ ne q | inr none ↦ none ]), tt)

  pub node_in : (m : ℕ) → In m nodes → In m s.records × (type_at b m ≡ vxr_type)
  node_in m j = (behind_in good at m (node_behind own m j), linkable-type b s.records vxr_type m (nodes_stand b s.records 8 own.index (has good at).indexed.has_nodes m j))

  pub node_mid : (m : ℕ) → In m nodes → Kept b mid m
  node_mid m j = kept bytes_edit m vxr_type (node_in m j).0 (node_in m j).1 (no_nodes old.packed old.place (length b))

  pub heads_mid : SameHeads b mid s.records s.records
  heads_mid = record {
    sizes = λ m j. elim (cases_eq m old.place) [
      | inl e ↦ rw e (head_size b mid old.place (bytes_edit.part old.place (type_at b old.place) 0 12 (block_in good at old one) refl ((λ same lies. inl (omega arith)), tt) ((λ same lies. inl (omega arith)), tt) (tile_lies b 8 (length b) s.records old.place h.tiled (block_in good at old one)).long))
      | inr ne ↦ let k = mid_kept m j ne in head_size b mid m (record { each = λ p low up. k.same.each p (omega (arith, low)) (omega (arith, up, k.long)) })
    ];
    types = λ m j. elim (bytes_edit.kind m j) [ inl k ↦ k.1 | inr k ↦ elim k [ inl u ↦ absurd (u.0 j) | inr none ↦ absurd none ] ];
    sub = λ m j. j;
  }

  node_fits : (m : ℕ) → In m nodes → NodeFits b m
  node_fits m j = Each-in (NodeFits b) nodes (fits good at).1 m j

  pub way : Between b mid s.records own
  way = record {
    tiled = bytes_edit.tiled_now;
    some = omega (arith, some_bytes b s h, w.as_long);
    vdr_in = tile good at;
    vdr_kept = mid_kept own.vdr (tile good at) (λ e. no_vdr good at old one (sym e));
    node_in = λ m j. (node_in m j).0;
    node_kept = node_mid;
    has_nodes = nodes_kept b mid s.records s.records heads_mid 8 own.index (has good at).indexed.has_nodes node_mid node_fits (λ m j. behind_in good at m (block_behind own m j));
    blocks = λ m j. behind_in good at m (block_behind own m j);
  }

  pub typed_mid : type_at mid old.place ≡ type_of_block old.packed
  typed_mid = heads_mid.types old.place (block_in good at old one) ∙ block_typed good at old one
