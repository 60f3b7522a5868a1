use Rattle.cdf_var_records.proofs.Common.{List, ap₂, repeat, ℕ, ◌∙◌}
use Rattle.cdf_var_records.proofs.RecordReading.{count_is}
use Rattle.cdf_var_records.proofs.record.read_pad_record.Goals as goal

pub returns-clause-record : goal.returns-clause-record
returns-clause-record g c =
    c.in_ok-bytes.ensures
    ∙ ap₂ (λ (n : ℕ) (xs : List ℕ). repeat n xs) (count_is c.requires.good c.requires.form c.record_size_of-all.result c.value_size-one.result c.record_size_of-all.ensures c.value_size-one.ensures) (c.deref.ensures.value ∙ c.in_ok-value.ensures.value)
