-- A data set: what a file means, without any offset (CDF User's Guide, Concepts: CDFs, attributes, variables).
use Rattle.std.specs.Prelude.{ℕ, ℤ, pos, negsuc, ◌+◌, List, [], length, Bool, false}
use Rattle.std.specs.declared.option.Option.{Option}
use Rattle.cdf_model.specs.declared.data_type.DataType.{DataType}
use Rattle.cdf_model.specs.declared.head.Head.{Head}
use Rattle.cdf_model.specs.declared.head.Majority.{Majority}
use Rattle.cdf_model.specs.declared.head.Majority.TheVariants.{Row}
use Rattle.cdf_model.specs.declared.kinds.Scope.{Scope}
use Rattle.cdf_model.specs.declared.kinds.Sparse.{Sparse}

-- an entry of an attribute, with its bytes in network order
pub record Entry : Type 0 where
  pub type : DataType
  pub elems : ℕ
  pub bytes : List ℕ

-- The entries of a global attribute are numbered freely; those of an attribute of variables have the number of their variable,
-- an r variable's in `g` and a z variable's in `z`. There need be no such variable, and `z` of a global attribute need not be empty.
pub record Attribute : Type 0 where
  pub name : List ℕ
  pub scope : Scope
  pub g : List (ℕ × Entry)
  pub z : List (ℕ × Entry)

-- The dimensions of an r variable are those that all r variables share. Records are in network order.
pub record Variable : Type 0 where
  pub name : List ℕ
  pub type : DataType
  pub elems : ℕ  -- of a value
  pub dims : List ℕ
  pub varys : List Bool
  pub vary : Bool  -- records vary
  pub sparse : Sparse
  pub rle : Bool  -- records are packed
  pub blocking : ℤ
  pub max_rec : ℤ  -- the greatest record number, and -1 without records
  pub pad : Option (List ℕ)  -- the bytes of a value
  pub recs : List (ℕ × List ℕ)  -- the records that are stored, each with its number

-- the version is always 3
pub record DataSet : Type 0 where
  pub release : ℤ
  pub increment : ℤ
  pub encoding : ℕ
  pub majority : Majority
  pub md5 : Bool
  pub rdims : List ℕ
  pub attributes : List Attribute
  pub r_variables : List Variable
  pub z_variables : List Variable

-- the data set of a new file
abbrev pub new_data_set : DataSet
new_data_set = record { release = pos 9; increment = pos 0; encoding = 6; majority = Row; md5 = false; rdims = []; attributes = []; r_variables = []; z_variables = [] }

-- how many record numbers there are up to the greatest
abbrev pub extent : ℤ → ℕ
extent (pos n) = n + 1
extent (negsuc n) = 0

abbrev pub head_of : DataSet → Head
head_of d = record {
  version = pos 3;
  release = d.release;
  increment = d.increment;
  encoding = d.encoding;
  majority = d.majority;
  md5 = d.md5;
  rdims = d.rdims;
  attrs = length d.attributes;
  rvars = length d.r_variables;
  zvars = length d.z_variables;
}
