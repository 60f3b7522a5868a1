-- The command is one of which clap's clauses say all.
use Rattle.cdf_words.proofs.Common.{command, is_simple, is_simple_and_free, refl, true, ◌≡◌}

pub simple : is_simple command ≡ true
unfolding command
simple = refl

pub simple_and_free : is_simple_and_free command ≡ true
unfolding command
simple_and_free = refl
