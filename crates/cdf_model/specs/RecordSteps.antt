-- What the commands on records and values do (CDF User's Guide, Variables: records, sparse records; own: the reasons and their order, and that one value of a missing record is put into the record as it reads).
use Rattle.std.specs.Prelude.{ℕ, ℤ, zero, suc, pos, negsuc, ◌+◌, ◌-◌, ◌*◌, List, [], ◌∷◌, ◌++◌, take, drop, Bool, not, ◌&&◌, ◌||◌, ◌==◌, nat_lt, nat_le, if◌then◌else◌, Some, None}
use Rattle.std.specs.declared.option.Option.{Option}
use Rattle.cdf_model.specs.declared.answer.Reason.TheVariants as reasons
use Rattle.cdf_model.specs.declared.answer.Reply.TheVariants as replies
use Rattle.cdf_model.specs.declared.kinds.Sparse.{Sparse}
use Rattle.cdf_model.specs.declared.kinds.Sparse.TheVariants.{NoRule}
use Rattle.cdf_model.specs.Answers.{Answer, Go, unless, given, valued}
use Rattle.cdf_model.specs.DataSet.{DataSet, Variable, extent}
use Rattle.cdf_model.specs.Limits.{record_number_limit}
use Rattle.cdf_model.specs.Names.{Found, variable_named}
use Rattle.cdf_model.specs.Numbered.{with_item, with_items, without, closed_up, greatest}
use Rattle.cdf_model.specs.Place.{place, value_count}
use Rattle.cdf_model.specs.Reading.{pad_record, read}
use Rattle.cdf_model.specs.Types.{size_of}
use Rattle.cdf_model.specs.Values.{values_in}
use Rattle.cdf_model.specs.VariableSteps.{with_variable}

-- the greatest number, where there are so many
abbrev pub last_number : ℕ → ℤ
last_number zero = negsuc 0
last_number (suc n) = pos n

abbrev pub greater : ℕ → ℕ → ℕ
greater m n = if nat_lt m n then n else m

-- without a rule the records between the last one and the new one become stored as pads
abbrev pub filled : Sparse → Variable → ℕ → List (ℕ × List ℕ)
filled NoRule v r = with_items (extent v.max_rec) (r - extent v.max_rec) (pad_record v) v.recs
filled rule v r = v.recs

abbrev pub with_record : Variable → ℕ → List ℕ → Variable
with_record v r bytes = record v { recs = with_item r bytes (filled v.sparse v r); max_rec = last_number (greater (extent v.max_rec) (r + 1)) }

-- records that do not vary have the number 0
abbrev pub cannot_be_put : Variable → ℕ → Bool
cannot_be_put v r = nat_lt record_number_limit r || (not v.vary && not (r == 0))

abbrev pub put_record : DataSet → Found → ℕ → List ℕ → Answer
put_record d found r bytes = unless ((cannot_be_put found.variable r, reasons.RecordOutOfRange) ∷ []) (Go (with_variable d found (with_record found.variable r bytes)) replies.Plain)

abbrev pub put_rec_step : DataSet → List ℕ → ℕ → List (List ℕ) → Answer
put_rec_step d name r words = given reasons.NoSuchVar (variable_named d name) (λ found.
    valued (values_in found.variable.type found.variable.elems (value_count found.variable.dims found.variable.varys) words) (put_record d found r))

abbrev pub get_rec_step : DataSet → List ℕ → ℕ → Answer
get_rec_step d name r = given reasons.NoSuchVar (variable_named d name) (λ found.
    unless ((nat_lt record_number_limit r, reasons.RecordOutOfRange) ∷ []) (Go d (replies.Values found.variable.type found.variable.elems (read found.variable r))))

-- Without a rule later records get the numbers of those that go. Under a rule no number changes.
abbrev pub without_records : Sparse → Variable → ℕ → ℕ → Variable
without_records NoRule v first last = record v { recs = closed_up first last v.recs; max_rec = last_number (extent v.max_rec - (last + 1 - first)) }
without_records rule v first last = record v { recs = without first last v.recs; max_rec = elim (greatest (without first last v.recs)) [ None ↦ negsuc 0 | Some n ↦ pos n ] }

abbrev pub del_recs_step : DataSet → List ℕ → ℕ → ℕ → Answer
del_recs_step d name first last = given reasons.NoSuchVar (variable_named d name) (λ found.
    unless ((nat_lt last first || nat_le (extent found.variable.max_rec) last, reasons.RecordOutOfRange) ∷ [])
    (Go (with_variable d found (without_records found.variable.sparse found.variable first last)) replies.Plain))

-- the bytes of a value
abbrev pub value_size : Variable → ℕ
value_size v = size_of v.type * v.elems

-- the place of an index in a record
abbrev pub place_in_record : DataSet → Variable → List ℕ → Option ℕ
place_in_record d v index = place d.majority v.dims v.varys index

-- a record with the value of a number replaced
abbrev pub with_value : Variable → List ℕ → ℕ → List ℕ → List ℕ
with_value v bytes n value = take (n * value_size v) bytes ++ value ++ drop ((n + 1) * value_size v) bytes

abbrev pub put_val_step : DataSet → List ℕ → ℕ → List ℕ → List (List ℕ) → Answer
put_val_step d name r index words = given reasons.NoSuchVar (variable_named d name) (λ found.
    valued (values_in found.variable.type found.variable.elems 1 words) (λ value.
    given reasons.IndexOutOfRange (place_in_record d found.variable index) (λ n.
    put_record d found r (with_value found.variable (read found.variable r) n value))))

abbrev pub get_val_step : DataSet → List ℕ → ℕ → List ℕ → Answer
get_val_step d name r index = given reasons.NoSuchVar (variable_named d name) (λ found.
    given reasons.IndexOutOfRange (place_in_record d found.variable index) (λ n.
    unless ((nat_lt record_number_limit r, reasons.RecordOutOfRange) ∷ [])
    (Go d (replies.Values found.variable.type found.variable.elems (take (value_size found.variable) (drop (n * value_size found.variable) (read found.variable r)))))))
