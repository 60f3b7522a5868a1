-- An open log that was read as the journal of a file: its ranges, and the file that it makes.
use Rattle.std.proofs.Common.{Bool, List, None, Option, Some, [], ap, arith, false, inl, inr, length, max, refl, subst, sym, true, true≢false, ℕ, ◌+◌, ◌<◌, ◌∙◌, ◌∷◌, ◌≡◌, ◌≤◌, ◌⊎◌}
use Rattle.std.proofs.lemmas.Bool.{and_from, and_parts, cases_lt, leb-true}
use Rattle.std.proofs.lemmas.List.{get_or-take, length-take}
use Rattle.std.proofs.lemmas.Option.{same_Some}
use Rattle.std.specs.Option.{option_and_then}
use Rattle.std.specs.Prelude.{MatchOption, if◌then◌else◌, map, nat_le, ◌&&◌}
use Rattle.cdf_journal.specs.Crashes.{Parts}
use Rattle.cdf_journal.specs.Loading.{Loads, range_of}
use Rattle.cdf_journal.specs.Log.{Body, Member, PartlyFilled, body_in, filled, fits, is_open, is_within, journal_for, patched, recovered}
use Rattle.cdf_journal.specs.Ranges.{IsOldBut, body_of, is_in, members_of, reaches}
use Rattle.cdf_journal.specs.Stages.{IsOpen}
use Rattle.cdf_journal.specs.declared.range.Range.{Range}
use Rattle.cdf_journal.proofs.FilledAgain.{patched_elsewhere, patched_long}
use Rattle.cdf_journal.proofs.Kept.{filled_kept, fits_kept, member_long}
use Rattle.cdf_journal.proofs.Mended.{while_filling}

-- ---- what reading the log told

pub record IsRead (main log file : List ℕ) (ranges : List Range) : Type 0 where
  pub body : Body
  pub journal : journal_for main log ≡ Some body
  pub fills : file ≡ filled main body
  pub kept : ranges ≡ map range_of body.members

pub is_read : (main log file : List ℕ) (ranges : List Range) (is : Bool) → is ≡ true → Loads log main file ranges is → IsRead main log file ranges
is_read main log file ranges is holds l = by (journal_for main log) refl l
  where
    by : (j : Option Body) → journal_for main log ≡ j → MatchOption j (is ≡ false) (λ body. (is ≡ true) × (file ≡ filled main body) × (ranges ≡ map range_of body.members)) → IsRead main log file ranges
    by None e fails = absurd (true≢false (sym holds ∙ fails))
    by (Some body) e p = record { body = body; journal = e; fills = p.1; kept = p.2 }

pub not_read : (main log file : List ℕ) (ranges : List Range) (is : Bool) → is ≡ false → Loads log main file ranges is → journal_for main log ≡ None
not_read main log file ranges is fails l = by (journal_for main log) refl l
  where
    by : (j : Option Body) → journal_for main log ≡ j → MatchOption j (is ≡ false) (λ body. (is ≡ true) × (file ≡ filled main body) × (ranges ≡ map range_of body.members)) → journal_for main log ≡ None
    by None e p = e
    by (Some body) e p = absurd (true≢false (sym p.0 ∙ fails))

-- a journal is what its log says, and fits
pub says_and_fits : (main log : List ℕ) (body : Body) → journal_for main log ≡ Some body → (body_in log ≡ Some body) × (fits (length main) body.new_length body.members ≡ true)
says_and_fits main log body e = by (body_in log) refl e
  where
    each : (b : Body) (q : Bool) → fits (length main) b.new_length b.members ≡ q → body_in log ≡ Some b → (if q then Some b else None) ≡ Some body → (body_in log ≡ Some body) × (fits (length main) body.new_length body.members ≡ true)
    each b true f says e = let same = same_Some b body e in (says ∙ ap Some same, subst (λ (x : Body). fits (length main) x.new_length x.members ≡ true) same f)
    each b false f says e = absurd (nothing e)
      where
        nothing : None ≡ Some body → ⊥
        nothing e = cc

    by : (o : Option Body) → body_in log ≡ o → option_and_then (λ (b : Body). if fits (length main) b.new_length b.members then Some b else None) o ≡ Some body → (body_in log ≡ Some body) × (fits (length main) body.new_length body.members ≡ true)
    by None says e = absurd (nothing e)
      where
        nothing : None ≡ Some body → ⊥
        nothing e = cc
    by (Some b) says e = each b (fits (length main) b.new_length b.members) refl says e

-- ---- the ranges of its members

reaches_of : (reached n : ℕ) (ms : List Member) → fits reached n ms ≡ true → reaches reached n (map range_of ms) ≡ true
reaches_of reached n [] f = f
reaches_of reached n ((p, xs) ∷ ms) f =
    let q = and_parts (nat_le p reached && nat_le (p + length xs) n) (fits (max reached (p + length xs)) n ms) f in
    let r = and_parts (nat_le p reached) (nat_le (p + length xs) n) q.0 in
    and_from _ _ r.0 (reaches_of (max reached (p + length xs)) n ms q.1)

-- what none of them has stood there before
below : (reached n : ℕ) (ms : List Member) (i : ℕ) → fits reached n ms ≡ true → i < n → (is_in i (map range_of ms) → ⊥) → i < reached
below reached n [] i f lt none = let le = leb-true n reached f in omega (arith, le, lt)
below reached n ((p, xs) ∷ ms) i f lt none =
    let q = and_parts (nat_le p reached && nat_le (p + length xs) n) (fits (max reached (p + length xs)) n ms) f in
    let r = and_parts (nat_le p reached) (nat_le (p + length xs) n) q.0 in
    let le = leb-true p reached r.0 in
    let so = below (max reached (p + length xs)) n ms i q.1 lt (λ w. none (inr w)) in
    by le so (cases_lt i reached)
  where
    by : p ≤ reached → i < max reached (p + length xs) → (i < reached) ⊎ (reached ≤ i) → i < reached
    by le so (inl before) = before
    by le so (inr past) = absurd (none (inl (omega (arith, le, past), omega (arith, so, past))))

in_ranges : (i : ℕ) (ms : List Member) → is_within i ms → is_in i (map range_of ms)
in_ranges i ((p, xs) ∷ ms) (inl w) = inl w
in_ranges i ((p, xs) ∷ ms) (inr w) = inr (in_ranges i ms w)
in_ranges i [] w = w

within_members : (file : List ℕ) (i : ℕ) (ms : List Member) → is_within i (members_of file (map range_of ms)) → is_within i ms
within_members file i [] w = w
within_members file i ((p, xs) ∷ ms) (inl w) =
    let size = member_long file (record { place = p; count = length xs }) in
    let a = w.0 in
    let b = w.1 in
    inl (omega (arith, size, a, b), omega (arith, size, a, b))
within_members file i ((p, xs) ∷ ms) (inr w) = inr (within_members file i ms w)

module _ (main : List ℕ) (body : Body) (fit : fits (length main) body.new_length body.members ≡ true) where
  pub long_filled : length (filled main body) ≡ body.new_length
  long_filled = let long = patched_long main body.new_length body.members fit in omega (arith, length-take body.new_length (patched main body.members), long)

  pub old_but_filled : IsOldBut (map range_of body.members) main (filled main body)
  old_but_filled i lt none =
      let inn : i < body.new_length = omega (arith, lt, long_filled) in
      let there = below (length main) body.new_length body.members i fit inn none in
      (there, get_or-take body.new_length (patched main body.members) i 0 inn ∙ patched_elsewhere main body.new_length body.members fit i there (λ w. none (in_ranges i body.members w)))

  pub reaches_filled : reaches (length main) (length (filled main body)) (map range_of body.members) ≡ true
  reaches_filled = subst (λ (n : ℕ). reaches (length main) n (map range_of body.members) ≡ true) (sym long_filled) (reaches_of (length main) body.new_length body.members fit)

  pub fits_filled : fits (length main) (length (filled main body)) (members_of (filled main body) (map range_of body.members)) ≡ true
  fits_filled = fits_kept (length main) (filled main body) (map range_of body.members) reaches_filled

  pub partly_of : (c : List ℕ) → PartlyFilled main (body_of (filled main body) (map range_of body.members)) c → PartlyFilled main body c
  partly_of c p = record {
    elsewhere = λ i lt there none. p.elsewhere i lt there (λ w. none (within_members (filled main body) i body.members w));
    least = let l = p.least in omega (arith, l, long_filled);
    most = let m = p.most in omega (arith, m, long_filled);
  }

-- ---- what was read, as it is lent to the calls

pub record AsRead (main log file lent : List ℕ) (lent_ranges : List Range) : Type 0 where
  pub body : Body
  pub opened : IsOpen body log
  pub fit : fits (length main) body.new_length body.members ≡ true
  pub fills : file ≡ filled main body
  pub file_is : lent ≡ filled main body
  pub ranges_are : lent_ranges ≡ map range_of body.members

pub as_read : (main log file : List ℕ) (ranges : List Range) (lent : List ℕ) (lent_ranges : List Range) → is_open log ≡ true → IsRead main log file ranges → lent ≡ file → lent_ranges ≡ ranges → AsRead main log file lent lent_ranges
as_read main log file ranges lent lent_ranges holds r same same_ranges =
    let says = says_and_fits main log r.body r.journal in
    record { body = r.body; opened = record { opened = holds; says = says.0 }; fit = says.1; fills = r.fills; file_is = same ∙ r.fills; ranges_are = same_ranges ∙ r.kept }

module _ (main log file lent : List ℕ) (lent_ranges : List Range) (a : AsRead main log file lent lent_ranges) where
  body_is : body_of lent lent_ranges ≡ body_of (filled main a.body) (map range_of a.body.members)
  body_is = (λ i. body_of (a.file_is i) (a.ranges_are i))

  pub fits_lent : fits (length main) (length lent) (members_of lent lent_ranges) ≡ true
  fits_lent = (λ i. fits (length main) (length (a.file_is i)) (members_of (a.file_is i) (a.ranges_are i))) ∙ fits_filled main a.body a.fit

  pub made_lent : filled main (body_of lent lent_ranges) ≡ filled main a.body
  made_lent = ap (filled main) body_is ∙ filled_kept main (filled main a.body) (map range_of a.body.members) (fits_filled main a.body a.fit) (old_but_filled main a.body a.fit)

  pub lent_filling : (c : Parts) → (c.log ≡ log) × PartlyFilled main (body_of lent lent_ranges) c.main → recovered c.main c.log ≡ recovered main log
  lent_filling c p = while_filling main log a.body a.opened a.fit c (p.0, partly_of main a.body a.fit c.main (subst (λ (b : Body). PartlyFilled main b c.main) body_is p.1))
