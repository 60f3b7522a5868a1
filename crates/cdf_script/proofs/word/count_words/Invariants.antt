use Rattle.std.proofs.Common.{◌≡◌, ◌+◌, ◌≤◌, length}
use Rattle.cdf_model.specs.Quoting.{words}
use Rattle.cdf_script.specs.Left.{how_many, words_at}
use Rattle.cdf_script.proofs.Words.{counted}
use Rattle.cdf_script.proofs.word.count_words.Given as goal

abbrev pub invariant-loop-found : goal.invariant-loop-found
invariant-loop-found l = record {
  so_far : how_many (words l.line) ≡ counted l.count (how_many (words_at l.place l.left));
  all : l.place + length l.left ≡ length l.line;
  few : l.count ≤ l.place;
}

abbrev pub decreases-loop-found : goal.decreases-loop-found
decreases-loop-found l = length l.left
