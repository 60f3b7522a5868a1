-- SRecords of a variable without records is written once all its blocks are gone: what the image is by then (CDF Internal Format Description, "rVariable Descriptor Record", "zVariable Descriptor Record"; own: that no other byte changes).
use Rattle.std.specs.Prelude.{◌≡◌, ℕ, List, [], ◌∷◌, length}
use Rattle.cdf_model.specs.DataSet.{extent}
use Rattle.cdf_model.specs.declared.kinds.Kind.{Kind}
use Rattle.cdf_model.specs.declared.kinds.Sparse.{Sparse}
use Rattle.cdf_model.specs.declared.kinds.Sparse.TheVariants.{NoRule, Pad, Previous}
use Rattle.cdf_cuts.specs.Past.{EndCut, cut_off}
use Rattle.cdf_edits.specs.Edits.Standing.{StandsAmong}
use Rattle.cdf_edits.specs.Frame.Changed.{Changed, touched_field}
use Rattle.cdf_format.specs.Fields.{number}
use Rattle.cdf_format.specs.Records.{vdr_s_records}
use Rattle.cdf_format.specs.Shape.{VariableShape}
use Rattle.cdf_format.specs.VariableFields.{max_rec_at}
use Rattle.cdf_format.specs.WellFormed.{Good}

-- what SRecords says of each rule
abbrev pub rule_code : Sparse → ℕ
rule_code NoRule = 0
rule_code Pad = 1
rule_code Previous = 2

-- SRecords of the descriptor at a place has this number, and no other byte is another one
pub record RuleWritten (b now : List ℕ) (vdr code : ℕ) : Type 0 where
  pub changed : Changed b now (touched_field vdr vdr_s_records ∷ [])
  pub as_long : length now ≡ length b
  pub code_is : number now vdr vdr_s_records ≡ code

-- all blocks of a variable without records went, packed or not, and then its rule was written
pub record SetRule (b mid now : List ℕ) (kind : Kind) (before : List VariableShape) (own : VariableShape) (after : List VariableShape) (rule : Sparse) : Type 0 where
  pub good : Good b
  pub among : StandsAmong b kind before own after
  pub none_stored : extent (max_rec_at b own.vdr) ≡ 0
  pub cut : EndCut b mid kind before own (cut_off own 0) after 0
  pub written : RuleWritten mid now own.vdr (rule_code rule)
  pub still_good : Good now
