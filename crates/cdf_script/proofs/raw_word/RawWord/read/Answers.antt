use Rattle.std.proofs.Common.{◌+◌, sym, refl}
use Rattle.cdf_script.proofs.Escapes.{means_itself}
use Rattle.cdf_script.proofs.raw_word.RawWord.read.Goals as goal

pub returns-then-not-has_escape : goal.returns-then-not-has_escape
returns-then-not-has_escape c =
    rw (← c.self.view_is, c.if-not-self.false, means_itself (c.self.inside.place + 1) c.self.inside.text.now (sym c.if-not-has_escape.ensures)) refl
