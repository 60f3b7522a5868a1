-- What `del-recs` does to a variable without a rule for missing records, what `del-recs` and `set-sparse` may change, and what `set-compress` does (CDF Internal Format Description, "Variable Index Record", "Compressed Parameters Record").
use Rattle.std.specs.Prelude.{◌≡◌, ℕ, ◌+◌, List, [], ◌∷◌, ◌++◌, map, Bool, true, false, not, ◌&&◌, ◌||◌, nat_lt, nat_le, if◌then◌else◌}
use Rattle.std.specs.List.{list_any}
use Rattle.cdf_model.specs.DataSet.{Variable}
use Rattle.cdf_model.specs.Limits.{record_number_limit}
use Rattle.cdf_model.specs.Names.{Found}
use Rattle.cdf_edits.specs.Commands.Allowances.{Allowances, Anything, Only, stays_all, stays_own, space_fields, anything_if, r_max_rec_field, of_variable}
use Rattle.cdf_edits.specs.Commands.GreatestRecord.{RMaxRecFollows}
use Rattle.cdf_edits.specs.Commands.NewRecords.{Says, with_bits}
use Rattle.cdf_edits.specs.Index.Blocks.{Range, covers, shared, fallen, is_sparse, record_length, ranges_of, extent_after}
use Rattle.cdf_edits.specs.Index.Cut.{IsPart, is_whole, CutsIndex, BlockPlaced, BlocksFreedStay, NodesFreedStay}
use Rattle.cdf_edits.specs.Index.Grown.{kept_closed, index_cut_closed}
use Rattle.cdf_edits.specs.Index.Written.{is_taken_at, stays_put, WellPacked, BlockFollows, stored_bytes, NodesFollow, TailFollows}
use Rattle.cdf_edits.specs.Space.Acts.{Act, Took, gave, taken}
use Rattle.cdf_format.specs.Fields.{number, size_at}
use Rattle.cdf_format.specs.Index.{no_node, Leaf, leaves_of, nodes_of, room_at}
use Rattle.cdf_format.specs.Records.{Field, vdr_max_rec, vdr_vxr_head, vdr_vxr_tail, vdr_flags, vdr_compression_bit, vdr_s_records, vdr_cpr_or_spr_offset, cpr_rfu_a, cpr_p_count, cpr_bytes, vxr_bytes}
use Rattle.cdf_format.specs.Shape.{Shape, VariableShape, Each}

-- ---- `del-recs`

-- a block loses a record
abbrev pub del_recs_cuts : Variable → ℕ → ℕ → Range → Bool
del_recs_cuts v first last r = nat_lt 0 (shared first last r) || (is_sparse v.sparse && nat_lt 0 (shared (extent_after v first last) record_number_limit r))

-- a block that loses none stays
abbrev pub del_recs_changes : List ℕ → Shape → Found → ℕ → ℕ → Allowances
del_recs_changes b s found first last = record stays_all {
  gdr = Only (r_max_rec_field found.kind ++ space_fields);
  variables = of_variable b s found (record stays_own { vdr = Only (vdr_max_rec ∷ vdr_vxr_head ∷ vdr_vxr_tail ∷ []); nodes = Anything; blocks = λ r. anything_if (del_recs_cuts found.variable first last r) }) [];
}

-- a leaf that keeps records, in its block where it can
pub record LeafKept (b now : List ℕ) (v : Variable) (vdr : ℕ) (acts : List Act) (old new : Leaf) : Type 0 where
  pub packed : is_whole old new ≡ false → v.rle ≡ true → WellPacked now vdr new
  pub placed : BlockPlaced now vdr acts old new (is_whole old new || stays_put b now v.rle vdr old new)
  pub bytes : is_whole old new ≡ false → BlockFollows b now v.rle vdr (old ∷ []) acts new

abbrev pub LeafFollows : List ℕ → List ℕ → Variable → ℕ → ℕ → ℕ → List Act → Leaf → Leaf → Type 0
LeafFollows b now v first last vdr acts old new = IsPart (kept_closed first last) old new → LeafKept b now v vdr acts old new

abbrev pub is_deleted : ℕ → ℕ → ℕ → Bool
is_deleted first last n = nat_le first n && nat_le n last

-- what blocks held of the records that stay, past MaxRec too
abbrev pub OthersStay : List ℕ → List ℕ → Variable → ℕ → ℕ → VariableShape → VariableShape → Type 0
OthersStay b now v first last before after = (k : ℕ) → list_any (covers k) (ranges_of before.index) ≡ true → is_deleted first last k ≡ false
    → stored_bytes now after.vdr (record_length v) (leaves_of after.index) (fallen first last k) ≡ stored_bytes b before.vdr (record_length v) (leaves_of before.index) k

-- without a rule, by one cut, after which later records have lower numbers
pub record DeletesRecords (b now : List ℕ) (v : Variable) (first last : ℕ) (before after : VariableShape) (acts : List Act) : Type 0 where
  pub cuts : CutsIndex v (kept_closed first last) before.index (index_cut_closed first last before.index) after.index acts
  pub blocks : Each (λ old. Each (LeafFollows b now v first last after.vdr acts old) (leaves_of after.index)) (leaves_of before.index)
  pub others_stay : OthersStay b now v first last before after
  pub new_nodes : Each (λ vxr. is_taken_at acts vxr ≡ true → size_at now vxr ≡ vxr_bytes (room_at now vxr)) (nodes_of after.index)
  pub nodes : NodesFollow b now (after.index ∷ []) (nodes_of before.index) (nodes_of after.index) acts
  pub tail : TailFollows b now acts after.index before after
  pub freed : BlocksFreedStay b now acts acts
  pub nodes_freed : NodesFreedStay b now acts acts
  pub r_max_rec : RMaxRecFollows b now

-- ---- `set-sparse` and `set-compress`

abbrev pub set_sparse_changes : List ℕ → Shape → Found → Allowances
set_sparse_changes b s found = record stays_all {
  gdr = Only space_fields;
  variables = of_variable b s found (record stays_own { vdr = Only (vdr_s_records ∷ vdr_vxr_head ∷ vdr_vxr_tail ∷ []); nodes = Anything; blocks = λ r. Anything }) [];
}

abbrev pub set_compress_changes : List ℕ → Shape → Found → Bool → Allowances
set_compress_changes b s found rle = record stays_all {
  gdr = Only space_fields;
  variables = of_variable b s found (record { vdr = Only (vdr_flags ∷ vdr_cpr_or_spr_offset ∷ vdr_vxr_head ∷ vdr_vxr_tail ∷ []); nodes = Anything; blocks = λ r. Anything; cpr = anything_if (not rle) }) [];
}

-- all blocks and nodes are freed
pub record CutsAll (b now : List ℕ) (before after : VariableShape) (acts : List Act) : Type 0 where
  pub index_is : after.index ≡ no_node
  pub takes_none : taken acts ≡ []
  pub tail : TailFollows b now acts before.index before after

-- then a CPR is taken where there is none, or the one that there is is freed
abbrev pub cpr_acts : List ℕ → Bool → List ℕ → List ℕ → List Act
cpr_acts b true [] new = map (λ cpr. Took cpr (cpr_bytes 1)) new
cpr_acts b true old new = []
cpr_acts b false old new = gave b old

abbrev pub new_cpr : List (Field × ℕ)
new_cpr = (cpr_rfu_a, 0) ∷ (cpr_p_count, 1) ∷ []

-- Flags say that records are packed; CPRorSPRoffset is -1 once nothing is packed, also where it was 0
pub record SetsCompress (b now : List ℕ) (rle : Bool) (before after : VariableShape) (acts : List Act) : Type 0 where
  pub cut : List Act
  pub cuts : CutsAll b now before after cut
  pub acts_are : acts ≡ cut ++ cpr_acts b rle before.cpr after.cpr
  pub flags_are : number now after.vdr vdr_flags ≡ with_bits (number b before.vdr vdr_flags) vdr_compression_bit 1 (if rle then 1 else 0)
  pub cpr_says : before.cpr ≡ [] → Each (λ cpr. Says now cpr new_cpr) after.cpr
  pub link_is : rle ≡ false → number now after.vdr vdr_cpr_or_spr_offset ≡ 0xffffffffffffffff
  pub freed : BlocksFreedStay b now acts acts
  pub nodes_freed : NodesFreedStay b now acts acts
