-- What stays is torn in no place, and shortened by nothing.
use Rattle.std.proofs.Common.{List, arith, length, refl, ℕ}
use Rattle.std.proofs.lemmas.List.{take_all}
use Rattle.cdf_journal.specs.Crashes.{InPart, Parts, Shortened, Torn}
use Rattle.cdf_journal.specs.declared.disk.Part.{Part}
use Rattle.cdf_journal.specs.declared.disk.Part.TheVariants.{Log, Main}

torn_nowhere : (at n : ℕ) (b : List ℕ) → Torn at n b b
torn_nowhere at n b = record { before = refl; after = refl; no_shorter = omega arith; no_longer = omega arith }

pub untorn : (part : Part) (at n : ℕ) (c : Parts) → InPart part (Torn at n) c c
untorn Main at n c = (torn_nowhere at n c.main, refl)
untorn Log at n c = (torn_nowhere at n c.log, refl)

shortened_by_none : (n : ℕ) (b : List ℕ) → Shortened n b b
shortened_by_none n b = record { no_shorter = omega arith; front = take_all (length b) b (omega arith) }

pub uncut : (part : Part) (n : ℕ) (c : Parts) → InPart part (Shortened n) c c
uncut Main n c = (shortened_by_none n c.main, refl)
uncut Log n c = (shortened_by_none n c.log, refl)
