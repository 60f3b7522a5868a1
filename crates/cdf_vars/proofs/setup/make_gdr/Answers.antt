use Rattle.cdf_vars.proofs.Common.{arith, cdr_fits, gdr_fits, good_eof, good_is_sound, rules}
use Rattle.cdf_vars.proofs.SetUpAnswers.{taken_lies}
use Rattle.cdf_vars.proofs.setup.make_gdr.Goals as goal

pub alloc_record-requires : goal.alloc_record-requires
alloc_record-requires g c = search (rules, good_is_sound, good_eof)

pub copy_gdr-requires : goal.copy_gdr-requires
copy_gdr-requires g c =
    omega (arith, gdr_fits (g.A.Area.image c.args.area.now) c.requires.good, c.in_ok-place.ensures.takes.changed.longer, taken_lies c.in_ok-place.ensures.takes c.in_ok-place.ensures.sound)

pub write_heads-requires : goal.write_heads-requires
write_heads-requires g c =
    grind (arith, cdr_fits (g.A.Area.image c.args.area.now) c.requires.good, c.in_ok-place.ensures.takes.changed.longer, taken_lies c.in_ok-place.ensures.takes c.in_ok-place.ensures.sound, c.in_ok-copy_gdr.ensures.long)
