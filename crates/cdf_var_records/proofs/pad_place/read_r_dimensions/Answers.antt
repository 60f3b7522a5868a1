use Rattle.cdf_var_records.proofs.Common.{few_dimensions, subst, sym, word, ℕ, ◌+◌, ◌∙◌, ◌≤◌}
use Rattle.cdf_var_records.proofs.PadSites.{count_is, count_lies}
use Rattle.cdf_var_records.proofs.pad_place.read_r_dimensions.Goals as goal

pub read_unsigned4-requires : goal.read_unsigned4-requires
read_unsigned4-requires g c = count_lies (g.A.Area.image c.args.area.now) (g.A.Area.image c.read_unsigned8.new.area) c.requires c.read_unsigned8.ensures.area.image c.in_ok-gdr.gdr c.in_ok-gdr.ensures.value

pub returns-clause-few : goal.returns-clause-few
returns-clause-few g c =
    let b = g.A.Area.image c.args.area.now in
    let same = c.read_unsigned8.ensures.area.image in
    let there = c.in_ok-gdr.ensures.value in
    subst (λ (n : ℕ). n ≤ 10) (sym (c.in_ok-dimensions.ensures.value ∙ (λ i. word (same i) (there i + 56) 4))) (few_dimensions b c.requires)

pub returns-clause-dimensions : goal.returns-clause-dimensions
returns-clause-dimensions g c = count_is (g.A.Area.image c.args.area.now) (g.A.Area.image c.read_unsigned8.new.area) c.requires c.read_unsigned8.ensures.area.image c.in_ok-gdr.gdr c.in_ok-gdr.ensures.value c.in_ok-dimensions.dimensions c.in_ok-dimensions.ensures.value
