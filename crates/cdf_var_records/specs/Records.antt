-- A variable whose records are read, by the place of its VDR.
use Rattle.std.specs.Prelude.{◌≡◌, ◌≤◌, ◌*◌, ℕ, List, [], length, nat_lt, None, if◌then◌else◌}
use Rattle.std.specs.declared.option.Option.{Option}
use Rattle.cdf_format.specs.Content.{variable_of}
use Rattle.cdf_format.specs.Fields.{number}
use Rattle.cdf_format.specs.Index.{Leaf, leaves_of}
use Rattle.cdf_format.specs.Records.{vdr_vxr_head}
use Rattle.cdf_format.specs.Stored.{is_little}
use Rattle.cdf_format.specs.VariableFields.{dims_at, max_rec_at, varys_at}
use Rattle.cdf_index.specs.Finding.{index_at}
use Rattle.cdf_index.specs.Order.{leaf_of}
use Rattle.cdf_model.specs.declared.kinds.Kind.{Kind}
use Rattle.cdf_model.specs.DataSet.{Variable, extent}
use Rattle.cdf_model.specs.Place.{record_limit, record_size}
use Rattle.cdf_model.specs.Types.{size_of}
use Rattle.cdf_shape.specs.declared.shape.Shape.{Shape}
use Rattle.cdf_var_records.specs.declared.form.Form.{Form}
use Rattle.cdf_var_records.specs.Descriptors.{IsPlace, IsVdr}

-- the variable whose VDR stands at a place, with the records of the index that its VXRhead leads to
abbrev pub variable_at : List ℕ → ℕ → Variable
variable_at b vdr = variable_of b (record { vdr = vdr; index = index_at b (number b vdr vdr_vxr_head); cpr = [] })

-- the leaf that has a record of the variable whose VDR stands at a place; none past MaxRec
abbrev pub leaf_in : List ℕ → ℕ → ℕ → Option Leaf
leaf_in b vdr rec = if nat_lt rec (extent (max_rec_at b vdr)) then leaf_of rec (leaves_of (index_at b (number b vdr vdr_vxr_head))) else None

-- each value has bytes, and a record no more than one can have
pub record IsRecordShape (shape : Shape) : Type 0 where
  pub one_each : length shape.varys ≡ length shape.dims
  pub some : 1 ≤ size_of shape.t * shape.elems
  pub fits : record_size shape.t shape.elems shape.dims shape.varys ≤ record_limit

-- this is what the VDR of a variable says, and the CDR
pub record IsForm (b : List ℕ) (form : Form) : Type 0 where
  pub kind : Kind
  pub is_vdr : IsVdr b kind form.place.vdr
  pub place : IsPlace b form.place.vdr form.place
  pub order : form.encoding.little ≡ is_little b
  pub t_is : form.shape.t ≡ form.place.t
  pub elems_are : form.shape.elems ≡ form.place.elems
  pub dims_are : form.shape.dims ≡ dims_at b form.place.vdr
  pub varys_are : form.shape.varys ≡ varys_at b form.place.vdr
  pub shaped : IsRecordShape form.shape
