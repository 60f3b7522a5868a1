use Rattle.cdf_vars.proofs.Common.{IsVdr, NoSuchVar, arith, extent, image_limit, length, max_rec_at, refl, refused, sym, vdr_lies, ◌∙◌, ◌≡◌, ◌≤◌}
use Rattle.cdf_cuts.specs.Past.{EndCut, cut_off}
use Rattle.cdf_model.specs.declared.command.Command.TheVariants.{SetSparse}
use Rattle.cdf_vars.proofs.ReindexAnswers.{vdr_in}
use Rattle.cdf_vars.proofs.SparseRule.{code_lies, in_use, none_in_part, rule_done, rule_known}
use Rattle.cdf_vars.proofs.VariableFound.{Parts, is_vdr, missing, own_is, parts_there, placed}
use Rattle.cdf_vars.proofs.vars.Vars.set_sparse.Given.{Over}
use Rattle.cdf_vars.proofs.vars.Vars.set_sparse.Goals.{After-place_of-vdr, In_ok-cut_end}
use Rattle.cdf_vars.proofs.vars.Vars.set_sparse.Goals as goal

-- the variable of the name, and where its descriptor stands
abbrev parts : (g : Over) (c : After-place_of-vdr g) → Parts (g.A.Area.image c.args.area.now) c.args.self.now c.args.name.now c.in-Some.found
parts g c = parts_there c.args.name.now c.requires.known c.find.ensures.found c.requires.good c.in-Some.is

own_at : (g : Over) (c : After-place_of-vdr g) → (parts g c).own.vdr ≡ c.place_of-vdr.result
own_at g c = own_is c.args.name.now c.requires.known c.find.ensures.found c.requires.good c.in-Some.is c.place_of-vdr.ensures

there : (g : Over) (c : After-place_of-vdr g) → IsVdr (g.A.Area.image c.args.area.now) c.in-Some.found.kind c.place_of-vdr.result
there g c = is_vdr c.args.name.now c.requires.known c.find.ensures.found c.requires.good c.in-Some.is c.place_of-vdr.ensures

pub returns-in_default-clause-answers : goal.returns-in_default-clause-answers
returns-in_default-clause-answers g c = refused _ _ (SetSparse c.args.name.now c.args.rule) NoSuchVar (rw (missing c.args.name.now c.requires.known c.find.ensures.found c.in_default.is) refl)

pub place_of-vdr-requires : goal.place_of-vdr-requires
place_of-vdr-requires g c = placed c.args.name.now c.requires.known c.find.ensures.found c.requires.good c.in-Some.is

pub read_extent-requires : goal.read_extent-requires
read_extent-requires g c = let l = vdr_lies c.requires.good (there g (goal.at.read_extent-requires g c).After-place_of-vdr) in omega arith

pub returns-then-count-ne0-clause-answers : goal.returns-then-count-ne0-clause-answers
returns-then-count-ne0-clause-answers g c =
    let v = (goal.at.returns-then-count-ne0-clause-answers g c).After-place_of-vdr in
    rw (c.read_extent.ensures.area.image) (in_use c.requires.good c.requires.known (parts g v) (own_at g v) c.in_ok-count.ensures.extent c.if-count-ne0.true c.args.rule (g.A.Area.frame c.args.area.now).limit)

pub cut_end-requires-clause-good : goal.cut_end-requires-clause-good
cut_end-requires-clause-good g c = rw (c.read_extent.ensures.area.image) c.requires.good

pub cut_end-requires-clause-vdr : goal.cut_end-requires-clause-vdr
cut_end-requires-clause-vdr g c = rw (c.read_extent.ensures.area.image) (vdr_in (there g (goal.at.cut_end-requires-clause-vdr g c).After-place_of-vdr))

pub cut_end-requires-clause-uncut : goal.cut_end-requires-clause-uncut
cut_end-requires-clause-uncut g c = none_in_part _

-- its blocks went
abbrev IsCut : (g : Over) → In_ok-cut_end g → Type 0
IsCut g c =
    let p = parts g (goal.at.In_ok-cut_end g c).After-place_of-vdr in
    EndCut (g.A.Area.image c.args.area.now) (g.A.Area.image c.cut_end.new.area) c.in-Some.found.kind p.before p.own (cut_off p.own 0) p.after 0

cut : (g : Over) (c : In_ok-cut_end g) → IsCut g c
cut g c =
    let v = (goal.at.In_ok-cut_end g c).After-place_of-vdr in
    let p = parts g v in
    (rw (c.read_extent.ensures.area.image) at c.in_ok-cut_end.ensures.cut) c.in-Some.found.kind p.before p.own p.after p.at (own_at g v)

-- it had no records
none : (g : Over) (c : In_ok-cut_end g) → extent (max_rec_at (g.A.Area.image c.args.area.now) c.place_of-vdr.result) ≡ 0
none g c = sym c.in_ok-count.ensures.extent ∙ c.if-count-ne0.false

short : (g : Over) (c : In_ok-cut_end g) → length (g.A.Area.image c.args.area.now) ≤ image_limit
short g c = omega (arith, c.requires.fits, c.requires.limit)

pub set_vdr_s_records-requires : goal.set_vdr_s_records-requires
set_vdr_s_records-requires g c =
    let at = goal.at.set_vdr_s_records-requires g c in
    code_lies c.requires.good c.requires.known (parts g at.After-place_of-vdr) (own_at g at.After-place_of-vdr) (none g at.In_ok-cut_end) (cut g at.In_ok-cut_end)

pub returns-clause-answers : goal.returns-clause-answers
returns-clause-answers g c =
    let at = goal.at.returns-clause-answers g c in
    rule_done c.requires.good c.requires.known (parts g at.After-place_of-vdr) (own_at g at.After-place_of-vdr) (none g at.In_ok-cut_end) (cut g at.In_ok-cut_end)
    c.args.rule c.rule_code.ensures c.in_ok-set_vdr_s_records.ensures.ok (short g at.In_ok-cut_end) (g.A.Area.frame c.args.area.now).limit c.requires.fits

pub returns-clause-known : goal.returns-clause-known
returns-clause-known g c =
    let at = goal.at.returns-clause-known g c in
    rule_known c.requires.good c.requires.known (parts g at.After-place_of-vdr) (own_at g at.After-place_of-vdr) (none g at.In_ok-cut_end) (cut g at.In_ok-cut_end)
    c.args.rule c.rule_code.ensures c.in_ok-set_vdr_s_records.ensures.ok (short g at.In_ok-cut_end)
