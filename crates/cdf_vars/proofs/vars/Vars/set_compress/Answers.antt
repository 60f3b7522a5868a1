use Rattle.cdf_vars.proofs.Common.{Frame, IsVdr, NoSuchVar, ap, arith, length, refl, refused, sym, vdr_lies, List, ℕ, ◌∙◌, ◌≡◌}
use Rattle.cdf_model.specs.declared.command.Command.TheVariants.{SetCompress}
use Rattle.cdf_vars.proofs.CompressionAnswers.{no_room, packed_in_use, room_there, set_done, set_known}
use Rattle.cdf_vars.proofs.ReindexAnswers.{vdr_in}
use Rattle.cdf_vars.proofs.VariableFound.{Parts, is_vdr, missing, own_is, parts_there, placed}
use Rattle.cdf_vars.proofs.vars.Vars.set_compress.Given.{Over}
use Rattle.cdf_vars.proofs.vars.Vars.set_compress.Goals.{After-place_of-vdr}
use Rattle.cdf_vars.proofs.vars.Vars.set_compress.Goals as goal

-- the variable of the name, and where its descriptor stands
abbrev parts : (g : Over) (c : After-place_of-vdr g) → Parts (g.A.Area.image c.args.area.now) c.args.self.now c.args.name.now c.in-Some.found
parts g c = parts_there c.args.name.now c.requires.known c.find.ensures.found c.requires.good c.in-Some.is

own_at : (g : Over) (c : After-place_of-vdr g) → (parts g c).own.vdr ≡ c.place_of-vdr.result
own_at g c = own_is c.args.name.now c.requires.known c.find.ensures.found c.requires.good c.in-Some.is c.place_of-vdr.ensures

there : (g : Over) (c : After-place_of-vdr g) → IsVdr (g.A.Area.image c.args.area.now) c.in-Some.found.kind c.place_of-vdr.result
there g c = is_vdr c.args.name.now c.requires.known c.find.ensures.found c.requires.good c.in-Some.is c.place_of-vdr.ensures

pub returns-in_default-clause-answers : goal.returns-in_default-clause-answers
returns-in_default-clause-answers g c = refused _ _ (SetCompress c.args.name.now c.args.rle) NoSuchVar (rw (missing c.args.name.now c.requires.known c.find.ensures.found c.in_default.is) refl)

pub place_of-vdr-requires : goal.place_of-vdr-requires
place_of-vdr-requires g c = placed c.args.name.now c.requires.known c.find.ensures.found c.requires.good c.in-Some.is

pub read_extent-requires : goal.read_extent-requires
read_extent-requires g c = let l = vdr_lies c.requires.good (there g (goal.at.read_extent-requires g c).After-place_of-vdr) in omega arith

pub returns-then-count-ne0-clause-answers : goal.returns-then-count-ne0-clause-answers
returns-then-count-ne0-clause-answers g c =
    let v = (goal.at.returns-then-count-ne0-clause-answers g c).After-place_of-vdr in
    rw (c.read_extent.ensures.area.image) (packed_in_use c.requires.good c.requires.known (parts g v) (own_at g v) c.args.rle c.in_ok-count.ensures.extent c.if-count-ne0.true (g.A.Area.frame c.args.area.now).limit)

pub returns-then-limit-size-clause-answers : goal.returns-then-limit-size-clause-answers
returns-then-limit-size-clause-answers g c =
    let v = (goal.at.returns-then-limit-size-clause-answers g c).After-place_of-vdr in
    let same = c.read_extent.ensures.area.image in
    let size : c.size.result ≡ length (g.A.Area.image c.args.area.now) = c.size.ensures ∙ ap (λ (x : List ℕ). length x) same in
    let limit : c.limit.result ≡ (g.A.Area.frame c.args.area.now).limit = c.limit.ensures ∙ ap (λ (f : Frame _). f.limit) c.read_extent.ensures.area.frame in
    rw same (no_room c.requires.good c.requires.known (parts g v) (own_at g v) c.args.rle (sym c.in_ok-count.ensures.extent ∙ c.if-count-ne0.false) (g.A.Area.frame c.args.area.now).limit c.size.result c.room_of.result c.room_of.ensures size c.requires.fits (rw (← limit) c.if-limit-size.true))

pub set_compression-requires-clause-good : goal.set_compression-requires-clause-good
set_compression-requires-clause-good g c = rw (c.read_extent.ensures.area.image) c.requires.good

pub set_compression-requires-clause-vdr : goal.set_compression-requires-clause-vdr
set_compression-requires-clause-vdr g c = rw (c.read_extent.ensures.area.image) (vdr_in (there g (goal.at.set_compression-requires-clause-vdr g c).After-place_of-vdr))

pub set_compression-requires-clause-none : goal.set_compression-requires-clause-none
set_compression-requires-clause-none g c = rw (c.read_extent.ensures.area.image) (sym c.in_ok-count.ensures.extent ∙ c.if-count-ne0.false)

pub set_compression-requires-clause-fits : goal.set_compression-requires-clause-fits
set_compression-requires-clause-fits g c =
    let same = c.read_extent.ensures.area.image in
    let size : c.size.result ≡ length (g.A.Area.image c.args.area.now) = c.size.ensures ∙ ap (λ (x : List ℕ). length x) same in
    let limit : c.limit.result ≡ (g.A.Area.frame c.args.area.now).limit = c.limit.ensures ∙ ap (λ (f : Frame _). f.limit) c.read_extent.ensures.area.frame in
    rw (same, c.read_extent.ensures.area.frame) (room_there (g.A.Area.image c.args.area.now) c.place_of-vdr.result c.args.rle (g.A.Area.frame c.args.area.now).limit c.size.result c.room_of.result c.room_of.ensures size c.requires.fits (rw (← limit) c.if-limit-size.false))

pub set_compression-requires-clause-limit : goal.set_compression-requires-clause-limit
set_compression-requires-clause-limit g c = rw (c.read_extent.ensures.area.frame) c.requires.limit

pub returns-clause-answers : goal.returns-clause-answers
returns-clause-answers g c =
    let v = (goal.at.returns-clause-answers g c).After-place_of-vdr in
    let p = parts g v in
    let same = c.read_extent.ensures.area.image in
    let size : c.size.result ≡ length (g.A.Area.image c.args.area.now) = c.size.ensures ∙ ap (λ (x : List ℕ). length x) same in
    let limit : c.limit.result ≡ (g.A.Area.frame c.args.area.now).limit = c.limit.ensures ∙ ap (λ (f : Frame _). f.limit) c.read_extent.ensures.area.frame in
    let set = (rw same at c.in_ok-set_compression.ensures.set) c.in-Some.found.kind p.before p.own p.after p.at (own_at g v) in
    set_done c.requires.good c.requires.known p (own_at g v) c.args.rle (sym c.in_ok-count.ensures.extent ∙ c.if-count-ne0.false) (g.A.Area.frame c.args.area.now).limit c.size.result c.room_of.result c.room_of.ensures size c.requires.fits (rw (← limit) c.if-limit-size.false) set

pub returns-clause-known : goal.returns-clause-known
returns-clause-known g c =
    let v = (goal.at.returns-clause-known g c).After-place_of-vdr in
    let p = parts g v in
    set_known c.requires.good c.requires.known p (own_at g v) c.args.rle ((rw (c.read_extent.ensures.area.image) at c.in_ok-set_compression.ensures.set) c.in-Some.found.kind p.before p.own p.after p.at (own_at g v))
