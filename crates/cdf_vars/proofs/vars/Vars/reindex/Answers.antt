use Rattle.cdf_vars.proofs.Common.{Frame, IsVdr, List, NoSuchVar, Reindex, Reindexed, ap, arith, at, length, own, refl, refused, vdr_lies, ℕ, ◌∙◌, ◌≡◌}
use Rattle.cdf_vars.proofs.ReindexAnswers.{answers_done, known_done, over, vdr_in}
use Rattle.cdf_vars.proofs.VariableFound.{is_vdr, missing, named_as, placed}
use Rattle.cdf_vars.proofs.vars.Vars.reindex.Given.{Over}
use Rattle.cdf_vars.proofs.vars.Vars.reindex.Goals.{After-place_of-vdr, After-size, In_ok-reindex}
use Rattle.cdf_vars.proofs.vars.Vars.reindex.Goals as goal

abbrev there : (g : Over) (c : After-place_of-vdr g) → IsVdr (g.A.Area.image c.args.area.now) c.in-Some.found.kind c.place_of-vdr.result
there g c = is_vdr c.args.name.now c.requires.known c.find.ensures.found c.requires.good c.in-Some.is c.place_of-vdr.ensures

-- the size and the limit are those that there were
sizes : (g : Over) (c : After-size g) → (c.size.result ≡ length (g.A.Area.image c.args.area.now)) × (c.limit.result ≡ (g.A.Area.frame c.args.area.now).limit)
sizes g c = (c.size.ensures ∙ ap (λ (x : List ℕ). length x) c.in_ok-need.ensures.area.image, c.limit.ensures ∙ ap (λ (f : Frame _). f.limit) c.in_ok-need.ensures.area.frame)

made : (g : Over) (c : In_ok-reindex g) → Reindexed (g.A.Area.image c.args.area.now) (g.A.Area.image c.reindex.new.area) (own c.requires.good (there g (goal.at.In_ok-reindex g c).After-place_of-vdr))
made g c =
    let v = there g (goal.at.In_ok-reindex g c).After-place_of-vdr in
    (rw (c.in_ok-need.ensures.area.image) at c.in_ok-reindex.ensures.made) c.in-Some.found.kind v.before (own c.requires.good v) v.after (at c.requires.good v) refl

pub returns-in_default-clause-answers : goal.returns-in_default-clause-answers
returns-in_default-clause-answers g c = refused _ _ (Reindex c.args.name.now) NoSuchVar (rw (missing c.args.name.now c.requires.known c.find.ensures.found c.in_default.is) refl)

pub place_of-vdr-requires : goal.place_of-vdr-requires
place_of-vdr-requires g c = placed c.args.name.now c.requires.known c.find.ensures.found c.requires.good c.in-Some.is

pub read_room-requires-clause-vdr : goal.read_room-requires-clause-vdr
read_room-requires-clause-vdr g c = vdr_in (there g (goal.at.read_room-requires-clause-vdr g c).After-place_of-vdr)

pub read_room-requires-clause-lies : goal.read_room-requires-clause-lies
read_room-requires-clause-lies g c = let l = vdr_lies c.requires.good (there g (goal.at.read_room-requires-clause-lies g c).After-place_of-vdr) in omega arith

pub returns-then-limit-size-clause-answers : goal.returns-then-limit-size-clause-answers
returns-then-limit-size-clause-answers g c =
    let named = named_as c.args.name.now c.requires.known c.find.ensures.found c.requires.good c.in-Some.is c.place_of-vdr.ensures in
    let is = sizes g (goal.at.returns-then-limit-size-clause-answers g c).After-size in
    let v = there g (goal.at.returns-then-limit-size-clause-answers g c).After-place_of-vdr in
    rw (c.in_ok-need.ensures.area.image)
    (over c.args.name.now c.requires.good v named c.in_ok-need.ensures.room (g.A.Area.frame c.args.area.now).limit (omega (arith, is.0, is.1, c.if-limit-size.true, c.requires.fits)))

pub reindex-requires-clause-good : goal.reindex-requires-clause-good
reindex-requires-clause-good g c = rw (c.in_ok-need.ensures.area.image) c.requires.good

pub reindex-requires-clause-vdr : goal.reindex-requires-clause-vdr
reindex-requires-clause-vdr g c = rw (c.in_ok-need.ensures.area.image) (vdr_in (there g (goal.at.reindex-requires-clause-vdr g c).After-place_of-vdr))

pub returns-clause-answers : goal.returns-clause-answers
returns-clause-answers g c =
    let named = named_as c.args.name.now c.requires.known c.find.ensures.found c.requires.good c.in-Some.is c.place_of-vdr.ensures in
    let is = sizes g (goal.at.returns-clause-answers g c).After-size in
    let v = there g (goal.at.returns-clause-answers g c).After-place_of-vdr in
    let now_is = made g (goal.at.returns-clause-answers g c).In_ok-reindex in
    answers_done c.args.name.now c.requires.good v named c.in_ok-need.ensures.room (g.A.Area.frame c.args.area.now).limit
    (omega (arith, is.0, is.1, c.if-limit-size.false, c.requires.fits)) c.requires.limit now_is

pub returns-clause-known : goal.returns-clause-known
returns-clause-known g c =
    let named = named_as c.args.name.now c.requires.known c.find.ensures.found c.requires.good c.in-Some.is c.place_of-vdr.ensures in
    let is = sizes g (goal.at.returns-clause-known g c).After-size in
    let v = there g (goal.at.returns-clause-known g c).After-place_of-vdr in
    let now_is = made g (goal.at.returns-clause-known g c).In_ok-reindex in
    known_done c.args.name.now c.requires.good v named c.in_ok-need.ensures.room (g.A.Area.frame c.args.area.now).limit
    (omega (arith, is.0, is.1, c.if-limit-size.false, c.requires.fits)) c.requires.limit now_is c.requires.known
