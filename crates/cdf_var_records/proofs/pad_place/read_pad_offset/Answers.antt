use Rattle.cdf_var_records.proofs.Common.{IsVdr, Kind, ap, dimensions_at, subst, sym, vdr_bytes, ◌∙◌, ◌≡◌}
use Rattle.cdf_var_records.proofs.PadSites.{at_is, r_count}
use Rattle.cdf_var_records.proofs.pad_place.read_pad_offset.Goals.{in-R+in_ok-dimensions-in-R, in-Z+in_ok-dimensions-in-Z}
use Rattle.cdf_var_records.proofs.pad_place.read_pad_offset.Goals as goal

pub returns-clause-place : goal.returns-clause-place
returns-clause-place g c =
    let b = g.A.Area.image c.args.area.now in
    let count : c.match-kind.dimensions ≡ dimensions_at b c.args.vdr = elim c.match-kind.branch [
      | in-R+in_ok-dimensions-in-R w ↦ w.dimensions-is ∙ w.in_ok-dimensions-in-R.ensures.dimensions ∙ sym (r_count c.requires.good (subst (λ (k : Kind). IsVdr b k c.args.vdr) w.in-R.is c.requires.vdr))
      | in-Z+in_ok-dimensions-in-Z w ↦ w.dimensions-is ∙ w.in_ok-dimensions-in-Z.ensures.dimensions
    ] in
    c.descriptor_size.ensures ∙ ap (vdr_bytes c.args.kind) count ∙ sym (at_is c.requires.good c.requires.vdr)
