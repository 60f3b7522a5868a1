-- What was done is one of the outcomes of a crash.
use Rattle.std.proofs.Common.{List, ap, append_assoc, arith, drop, length, refl, sym, take, ℕ, ◌++◌, ◌+◌, ◌∙◌, ◌≡◌, ◌≤◌}
use Rattle.std.proofs.lemmas.List.{drop_at, length-append, length-take, length-take-le, take_min}
use Rattle.cdf_base.specs.Bytes.{put}
use Rattle.cdf_base.proofs.Puts.{take-put}
use Rattle.cdf_journal.specs.Crashes.{InPart, Parts, Shortened, Torn, part_of, with_part}
use Rattle.cdf_journal.specs.declared.disk.Part.{Part}
use Rattle.cdf_journal.specs.declared.disk.Part.TheVariants.{Log, Main}
use Rattle.cdf_journal.proofs.FilledAgain.{grown}

-- what stands past a write, also where it goes past the end
drop_past : (b : List ℕ) (at : ℕ) (bytes : List ℕ) → at ≤ length b → drop (at + length bytes) (put b at bytes) ≡ drop (at + length bytes) b
unfolding put
drop_past b at bytes le =
    let head = take at b ++ bytes in
    let long : length head ≡ at + length bytes = length-append (take at b) bytes ∙ ap (λ n. n + length bytes) (length-take-le at b le) in
    ap (λ (l : List ℕ). drop (at + length bytes) l) (sym (append_assoc (take at b) bytes (drop (at + length bytes) b))) ∙ drop_at head _ (at + length bytes) long

torn_by_put : (at : ℕ) (bytes b : List ℕ) → at ≤ length b → Torn at (length bytes) b (put b at bytes)
torn_by_put at bytes b le =
    let long = grown b at bytes le in
    record {
      before = take-put b at bytes le;
      after = drop_past b at bytes le;
      no_shorter = omega arith;
      no_longer = omega arith;
    }

pub torn : (part : Part) (at : ℕ) (bytes : List ℕ) (c : Parts) → at ≤ length (part_of c part) → InPart part (Torn at (length bytes)) c (with_part c part (put (part_of c part) at bytes))
torn Main at bytes c le = (torn_by_put at bytes c.main le, refl)
torn Log at bytes c le = (torn_by_put at bytes c.log le, refl)

shortened_by_take : (n : ℕ) (b : List ℕ) → Shortened n b (take n b)
shortened_by_take n b = record {
  no_shorter = omega (arith, length-take n b);
  front = ap (λ (k : ℕ). take k b) (length-take n b) ∙ take_min n b;
}

pub shortened : (part : Part) (n : ℕ) (c : Parts) → InPart part (Shortened n) c (with_part c part (take n (part_of c part)))
shortened Main n c = (shortened_by_take n c.main, refl)
shortened Log n c = (shortened_by_take n c.log, refl)
