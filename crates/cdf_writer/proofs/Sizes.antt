-- How long the records are that are written: each event appends some, and those that stand keep their length.
use Rattle.std.proofs.Common.{List, [], ap, ap₂, append_assoc, arith, length, map, refl, sym, ℕ, ◌++◌, ◌+◌, ◌∙◌, ◌∷◌, ◌≡◌}
use Rattle.std.proofs.lemmas.List.{map-append}
use Rattle.cdf_writer.specs.Laying.{laid_size}
use Rattle.cdf_writer.specs.Stops.{CutAt}
use Rattle.cdf_writer.specs.declared.appending.WriteStop.{WriteStop}
use Rattle.cdf_writer.specs.declared.appending.WriteStop.TheVariants.{TooLarge, Fault, NoMemory}
use Rattle.cdf_writer.proofs.Stands.{size-cons, whole_size}

-- so many bytes behind the size of each
abbrev pub lengths : List (List ℕ) → List ℕ
lengths bodies = map length bodies

abbrev pub total : List ℕ → ℕ
total [] = 0
total (n ∷ more) = 8 + n + total more

pub laid_total : (bodies : List (List ℕ)) → laid_size bodies ≡ total (lengths bodies)
laid_total [] = refl
laid_total (b ∷ more) = omega (arith, size-cons b more, whole_size b, laid_total more)

-- a list parted where its lengths are
pub record PartedAt (bodies : List (List ℕ)) (before : List ℕ) (n : ℕ) : Type 0 where
  pub done : List (List ℕ)
  pub next : List ℕ
  pub rest : List (List ℕ)
  pub are : bodies ≡ done ++ next ∷ rest
  pub done_long : lengths done ≡ before
  pub next_long : length next ≡ n

pub parted_at : (bodies : List (List ℕ)) (before : List ℕ) (n : ℕ) (more : List ℕ) → lengths bodies ≡ before ++ n ∷ more → PartedAt bodies before n
parted_at [] [] n more e = absurd (cc e)
parted_at [] (b ∷ before) n more e = absurd (cc e)
parted_at (x ∷ bodies) [] n more e = record { done = []; next = x; rest = bodies; are = refl; done_long = refl; next_long = cc e }
parted_at (x ∷ bodies) (b ∷ before) n more e =
    let first : length x ≡ b = cc e in
    let others : lengths bodies ≡ before ++ n ∷ more = cc e in
    let r = parted_at bodies before n more others in
    record { done = x ∷ r.done; next = r.next; rest = r.rest; are = ap (λ (l : List (List ℕ)). x ∷ l) r.are; done_long = ap₂ (λ (k : ℕ) (l : List ℕ). k ∷ l) first r.done_long; next_long = r.next_long }

-- What stops records of these lengths, behind others, stops any list that begins with records as long.
pub cut_whole : (limit : ℕ) (bodies : List (List ℕ)) (before : List ℕ) (xs : List (List ℕ)) (more : List ℕ) (stop : WriteStop)
    → lengths bodies ≡ before ++ (lengths xs ++ more) → CutAt limit (8 + total before) xs stop → CutAt limit 8 bodies stop
cut_whole limit bodies before xs more (TooLarge eof need) e p =
    let own : lengths xs ≡ lengths p.done ++ length p.next ∷ lengths p.rest = ap lengths p.are ∙ map-append length p.done (p.next ∷ p.rest) in
    let all : lengths bodies ≡ (before ++ lengths p.done) ++ length p.next ∷ (lengths p.rest ++ more) =
    e
    ∙ ap (λ (l : List ℕ). before ++ (l ++ more)) own
    ∙ ap (λ (l : List ℕ). before ++ l) (append_assoc (lengths p.done) (length p.next ∷ lengths p.rest) more)
    ∙ sym (append_assoc before (lengths p.done) (length p.next ∷ (lengths p.rest ++ more))) in
    let r = parted_at bodies (before ++ lengths p.done) (length p.next) (lengths p.rest ++ more) all in
    record {
      done = r.done;
      next = r.next;
      rest = r.rest;
      are = r.are;
      eof_is = omega (arith, p.eof_is, laid_total p.done, laid_total r.done, ap total r.done_long, total-append before (lengths p.done));
      need_is = omega (arith, p.need_is, whole_size p.next, whole_size r.next, r.next_long);
      within = p.within;
      past = p.past;
    }
  where
    total-append : (xs ys : List ℕ) → total (xs ++ ys) ≡ total xs + total ys
    total-append [] ys = omega arith
    total-append (x ∷ xs) ys = omega (arith, total-append xs ys)
cut_whole limit bodies before xs more Fault e p = tt
cut_whole limit bodies before xs more NoMemory e p = tt
