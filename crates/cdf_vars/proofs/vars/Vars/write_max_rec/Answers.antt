use Rattle.cdf_vars.proofs.Common.{R, arith, cdr_fits, on_ok_weaker, vdr_lies}
use Rattle.std.proofs.Common.{w32}
use Rattle.std.specs.Int.{cast_unsigned}
use Rattle.cdf_vars.proofs.PutRaised.{greatest_lies, mid_good, mid_places, passed_on, raised, vdrs_lie}
use Rattle.cdf_vars.proofs.vars.Vars.write_max_rec.Goals as goal

pub set_vdr_max_rec-requires : goal.set_vdr_max_rec-requires
set_vdr_max_rec-requires g c = let l = vdr_lies c.requires.good c.requires.vdr in omega arith

pub follow_max_rec-requires-clause-cdr : goal.follow_max_rec-requires-clause-cdr
follow_max_rec-requires-clause-cdr g c =
    let good = mid_good c.requires.good c.requires.vdr (cast_unsigned w32 c.args.last) c.requires.ruled c.requires.short (passed_on (g.A.Area.image c.args.area.now) c.args.target.now.form.place.vdr c.args.last c.requires.ruled c.in_ok-set_vdr_max_rec.ensures.ok) in
    let l = cdr_fits (g.A.Area.image c.set_vdr_max_rec.new.area) good in
    omega arith

pub follow_max_rec-requires-clause-field : goal.follow_max_rec-requires-clause-field
follow_max_rec-requires-clause-field g c = greatest_lies _ (mid_good c.requires.good c.requires.vdr (cast_unsigned w32 c.args.last) c.requires.ruled c.requires.short (passed_on (g.A.Area.image c.args.area.now) c.args.target.now.form.place.vdr c.args.last c.requires.ruled c.in_ok-set_vdr_max_rec.ensures.ok))

pub follow_max_rec-requires-clause-lie : goal.follow_max_rec-requires-clause-lie
follow_max_rec-requires-clause-lie g c =
    let ok = passed_on (g.A.Area.image c.args.area.now) c.args.target.now.form.place.vdr c.args.last c.requires.ruled c.in_ok-set_vdr_max_rec.ensures.ok in
    vdrs_lie _ (mid_good c.requires.good c.requires.vdr (cast_unsigned w32 c.args.last) c.requires.ruled c.requires.short ok) R c.args.self.now.r.places (mid_places c.requires.good c.requires.vdr (cast_unsigned w32 c.args.last) c.requires.ruled c.requires.short ok R c.args.self.now.r.places c.requires.places)

pub returns-clause-written : goal.returns-clause-written
returns-clause-written g c =
    let ok = passed_on (g.A.Area.image c.args.area.now) c.args.target.now.form.place.vdr c.args.last c.requires.ruled c.in_ok-set_vdr_max_rec.ensures.ok in
    on_ok_weaker c.follow_max_rec.result (λ follows v e. raised c.args.target.now.id.kind c.requires.good c.requires.vdr (cast_unsigned w32 c.args.last) c.requires.ruled c.requires.short ok c.args.self.now.r.places c.requires.places follows v e) c.follow_max_rec.ensures.written
