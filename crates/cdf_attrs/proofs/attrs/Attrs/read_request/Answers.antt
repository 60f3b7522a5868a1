use Rattle.cdf_attrs.proofs.Common.{List, ap, arith, cdr_room, content, entry_of_words, good_is_sound, is_out_of_range, sym, ℕ, ◌∙◌}
use Rattle.cdf_attrs.proofs.PutAnswers.{no_value}
use Rattle.cdf_attrs.proofs.attrs.Attrs.read_request.Goals as goal

pub is_out_of_range-requires : goal.is_out_of_range-requires
is_out_of_range-requires g c = rw c.find_chain.ensures.area.image c.requires.good

pub read_encoding-requires : goal.read_encoding-requires
read_encoding-requires g c = grind (arith, cdr_room (g.A.Area.image c.args.area.now) (good_is_sound (g.A.Area.image c.args.area.now) c.requires.good), c.is_out_of_range.ensures.area.image, c.find_chain.ensures.area.image)

pub returns-in_ok-reason_of-in-Err-clause-request : goal.returns-in_ok-reason_of-in-Err-clause-request
returns-in_ok-reason_of-in-Err-clause-request g c =
    no_value (rw c.in-Found.is at c.in_ok-number.ensures.target) c.args.num c.args.t c.args.words.now c.in_ok-reason_of-in-Err.field-0 (ap (λ (x : List ℕ). is_out_of_range (content x) c.args.kind c.args.num) (sym c.find_chain.ensures.area.image) ∙ sym c.in_ok-is_out_of_range.ensures.range ∙ c.if-branch.false)
    (c.in_ok-reason_of-in-Err.ensures.reason (entry_of_words c.args.t c.args.words.now) c.in-Err.ensures.err)
