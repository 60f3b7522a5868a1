-- A data set that is written out: two attributes, and a packed variable of three records, of which the first two have bytes 0 alone (own).
use Rattle.std.specs.Prelude.{pos, [], ◌∷◌, replicate, true, false, Some}
use Rattle.cdf_model.specs.declared.data_type.DataType.TheVariants.{Int2, Char}
use Rattle.cdf_model.specs.declared.head.Majority.TheVariants.{Row}
use Rattle.cdf_model.specs.declared.kinds.Scope.TheVariants as scopes
use Rattle.cdf_model.specs.declared.kinds.Sparse.TheVariants.{NoRule}
use Rattle.cdf_model.specs.DataSet.{Attribute, DataSet, Variable}

-- Title of the file: Storm
abbrev pub title : Attribute
title = record { name = 84 ∷ 105 ∷ 116 ∷ 108 ∷ 101 ∷ []; scope = scopes.Global; g = (0, record { type = Char; elems = 5; bytes = 83 ∷ 116 ∷ 111 ∷ 114 ∷ 109 ∷ [] }) ∷ []; z = [] }

-- UNITS of the first z variable: nT
abbrev pub units : Attribute
units = record { name = 85 ∷ 78 ∷ 73 ∷ 84 ∷ 83 ∷ []; scope = scopes.Variable; g = []; z = (0, record { type = Char; elems = 2; bytes = 110 ∷ 84 ∷ [] }) ∷ [] }

-- Bx
abbrev pub field : Variable
field = record {
  name = 66 ∷ 120 ∷ [];
  type = Int2;
  elems = 1;
  dims = 16 ∷ [];
  varys = true ∷ [];
  vary = true;
  sparse = NoRule;
  rle = true;
  blocking = pos 2;
  max_rec = pos 3;
  pad = Some (1 ∷ 2 ∷ []);
  recs = (0, replicate 32 0) ∷ (1, replicate 32 0) ∷ (3, replicate 32 1) ∷ [];
}

abbrev pub example : DataSet
example = record { release = pos 9; increment = pos 0; encoding = 6; majority = Row; md5 = false; rdims = []; attributes = title ∷ units ∷ []; r_variables = []; z_variables = field ∷ [] }
