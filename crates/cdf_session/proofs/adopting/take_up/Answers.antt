use Rattle.cdf_session.proofs.Common.{AreOf, List, subst, sym, ℕ, ◌∙◌}
use Rattle.cdf_session.proofs.AdoptLemmas.{front_is, shortened, taken_good}
use Rattle.cdf_session.proofs.adopting.take_up.Goals as goal

pub load_image-requires : goal.load_image-requires
load_image-requires g c =
    taken_good (g.A.Area.image c.args.area.now) _ c.requires.well_formed
    (front_is (g.A.Area.image c.args.area.now) (g.A.Area.image c.trailer_size.new.area) c.size.result c.in_ok-trailer.trailer c.trailer_size.ensures.area.image c.size.ensures c.in_ok-trailer.ensures.size)

pub returns-clause-known : goal.returns-clause-known
returns-clause-known g c =
    let front = front_is (g.A.Area.image c.args.area.now) (g.A.Area.image c.trailer_size.new.area) c.size.result c.in_ok-trailer.trailer c.trailer_size.ensures.area.image c.size.ensures c.in_ok-trailer.ensures.size in
    let now = shortened (g.A.Area.image c.args.area.now) (g.A.Area.image c.load_image.new.area) (g.A.Area.image c.shorten.new.self) c.in_ok-trailer.trailer (c.load_image.ensures.area.image ∙ c.trailer_size.ensures.area.image) c.in_ok-trailer.ensures.size c.shorten.ensures.shorter in
    subst (λ (b : List ℕ). AreOf b c.in_ok-loaded.loaded) (front ∙ sym now) c.in_ok-loaded.ensures.known
