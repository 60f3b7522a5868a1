-- Words that were read.
use Rattle.std.specs.Prelude.{ℕ, List}
use Rattle.cdf_model.specs.Quoting.{Word}
use Rattle.cdf_script.specs.declared.word_text.Argument.{Argument}
use Rattle.cdf_script.specs.declared.word_text.WordText.{WordText}
use Rattle.cdf_script.specs.declared.word_text.WordText.TheVariants.{Lent, Owned}

abbrev pub bytes_of : WordText → List ℕ
bytes_of (Lent text) = text.now
bytes_of (Owned bytes) = bytes.items

abbrev pub word_of : Argument → Word
word_of argument = record { place = argument.place; bytes = bytes_of argument.text }
