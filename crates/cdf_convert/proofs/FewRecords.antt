-- A data set that a content may be has few records, since the numbers of those of a variable rise and are small.
use Rattle.std.proofs.Common.{arith, length, map, suc, ℕ, List, [], ◌∷◌, ◌*◌, ◌+◌, ◌-◌, ◌<◌, ◌^◌, ◌≡◌, ◌≤◌}
use Rattle.std.proofs.lemmas.List.Sums.{sum_by-cons}
use Rattle.cdf_format.specs.Shape.{Each}
use Rattle.cdf_model.specs.DataSet.{DataSet, Variable, extent}
use Rattle.cdf_model.specs.Events.{record_count}
use Rattle.cdf_model.specs.Walks.{all_records}
use Rattle.cdf_writer.specs.Fine.{Fine, FineRecord, FineVariable, Rise}

-- numbers that rise from a least one on, and are below a most one, are so many at most
rise_few : (v : Variable) (low : ℕ) (items : List (ℕ × List ℕ)) → Rise low items → Each (λ (pair : ℕ × List ℕ). FineRecord v pair.0 pair.1) items → length items ≤ extent v.max_rec - low
rise_few v low [] rise fine = omega arith
rise_few v low ((n, bytes) ∷ items) rise fine =
    let more = rise_few v (suc n) items rise.1 fine.1 in
    let first = fine.0.numbered in
    let least = rise.0 in
    omega (arith, more, first, least)

few_of : (vs : List Variable) → Each FineVariable vs → record_count vs ≤ length vs * 2147483648
few_of [] all = omega arith
few_of (v ∷ vs) all =
    let more = few_of vs all.1 in
    let own = rise_few v 0 v.recs all.0.rises all.0.records in
    let most = all.0.extent_fits in
    let count : record_count (v ∷ vs) ≡ length v.recs + record_count vs = sum_by-cons (λ x. x) (length v.recs) (map (λ (x : Variable). length x.recs) vs) in
    omega (arith, more, own, most, count)

pub few_records : (d : DataSet) → Fine d → all_records d < 2 ^ 64
few_records d fine =
    let r_records = few_of d.r_variables fine.variables.r_fine in
    let z_records = few_of d.z_variables fine.variables.z_fine in
    let r_few = fine.variables.r_few in
    let z_few = fine.variables.z_few in
    omega arith
