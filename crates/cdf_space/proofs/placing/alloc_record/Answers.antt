use Rattle.cdf_space.proofs.Common.{EndBytes, IsTaken, Takes, ap, arith, cdr_room, gdr_field, length, on_ok_weaker, shape, subst, sym, ℕ, ◌∙◌}
use Rattle.cdf_space.proofs.Taking.{taken_end, none_found, if_both}
use Rattle.cdf_space.proofs.placing.alloc_record.Goals as goal

pub read_unsigned8-requires : goal.read_unsigned8-requires
read_unsigned8-requires g c = let r = cdr_room (g.A.Area.image c.args.area.now) c.requires.sound in omega arith

pub take_end-requires-clause-gdr : goal.take_end-requires-clause-gdr
take_end-requires-clause-gdr g c =
    let b = g.A.Area.image c.args.area.now in
    let room = gdr_field b c.requires.sound 36 (omega arith) in
    let same = ap length (c.in_ok-fit.ensures.area.image ∙ c.in_ok-gdr.ensures.area.image) in
    let at = c.in_ok-gdr.ensures.value in
    omega arith

at_end : (g : _) (c : goal.After-take_end g) → EndBytes (g.A.Area.image c.first_fit.new.area) (g.A.Area.image c.take_end.new.area) c.in_ok-gdr.gdr c.args.need
    → IsTaken (g.A.Area.image c.args.area.now) (g.A.Area.image c.take_end.new.area) (shape (g.A.Area.image c.args.area.now)) (shape (g.A.Area.image c.take_end.new.area)) c.args.need (length (g.A.Area.image c.args.area.now))
at_end g c bytes =
    let b = g.A.Area.image c.args.area.now in
    let none = none_found b (g.A.Area.image c.read_unsigned8.new.area) c.args.need c.in_ok-fit.field-0 c.in_default.is c.in_ok-gdr.ensures.area.image c.in_ok-fit.ensures.found in
    taken_end b (g.A.Area.image c.first_fit.new.area) (g.A.Area.image c.take_end.new.area) c.in_ok-gdr.gdr c.args.need c.requires.sound none c.requires.need (c.in_ok-fit.ensures.area.image ∙ c.in_ok-gdr.ensures.area.image) c.in_ok-gdr.ensures.value bytes

pub returns-in_default-clause-takes : goal.returns-in_default-clause-takes
returns-in_default-clause-takes g c =
    let b = g.A.Area.image c.args.area.now in
    let now = g.A.Area.image c.take_end.new.area in
    let long = ap length (c.in_ok-fit.ensures.area.image ∙ c.in_ok-gdr.ensures.area.image) in
    if_both c.take_end.result c.take_end.ensures.place c.take_end.ensures.taken (λ place at bytes. subst (λ (p : ℕ). Takes b now (shape b) (shape now) c.args.need p) (sym (at ∙ long)) (at_end g c bytes).0)

pub returns-in_default-clause-sound : goal.returns-in_default-clause-sound
returns-in_default-clause-sound g c = on_ok_weaker _ (λ bytes. (at_end g c bytes).1) c.take_end.ensures.taken

pub returns-in_default-clause-content : goal.returns-in_default-clause-content
returns-in_default-clause-content g c = on_ok_weaker _ (λ bytes. (at_end g c bytes).2) c.take_end.ensures.taken
