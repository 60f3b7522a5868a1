use Rattle.cdf_var_records.proofs.Common.{ap, arith, extent, length, max_rec_at, sym, List, ℕ, ◌∙◌}
use Rattle.cdf_var_records.proofs.PadSites.{vdr_lies}
use Rattle.cdf_var_records.proofs.next.RecordReader.new.Goals as goal

pub read_extent-requires : goal.read_extent-requires
read_extent-requires g c =
    let l = vdr_lies c.requires.good c.requires.vdr in
    let same = ap (λ (x : List ℕ). length x) c.read_form.ensures.area.image in
    omega (arith, l, same)

pub returns-clause-reader : goal.returns-clause-reader
returns-clause-reader g c =
    let there = c.in_ok-form.ensures.vdr in
    record {
      is_form = c.in_ok-form.ensures.form;
      extent_is = c.in_ok-extent.ensures.extent ∙ (λ i. extent (max_rec_at (c.read_form.ensures.area.image i) (sym there i)));
      leaf_is = tt;
      kept = c.new.ensures (g.A.Area.image c.args.area.now);
    }
