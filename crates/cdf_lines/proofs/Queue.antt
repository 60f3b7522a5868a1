-- The lines that a piece adds, as they wait.
use Rattle.std.proofs.Common.{◌≡◌, ℕ, suc, ◌+◌, ◌≤◌, Bool, true, List, [], ◌∷◌, ◌++◌, map, length, length-append, append_assoc, append-nil, refl, sym, ◌∙◌, ap, subst, arith}
use Rattle.std.proofs.lemmas.Bool.{cond_both}
use Rattle.std.proofs.lemmas.List.{map-append, length-map}
use Rattle.std.proofs.lemmas.Bool.Decides.{nat_tests}
use Rattle.std.proofs.lemmas.Grind.{flat_map-append}
use Rattle.std.specs.Prelude.{◌==◌, nat_le, Some, None}
use Rattle.std.specs.List.{flat_map}
use Rattle.std.specs.declared.option.Option.{Option}
use Rattle.cdf_model.specs.Limits.{line_limit}
use Rattle.cdf_model.proofs.LinesOf.{in_front, split-cons}
use Rattle.cdf_model.specs.Lines.{split, kept, whole_lines, last_line}
use Rattle.cdf_lines.proofs.Pieces.{kept-last_line}
use Rattle.cdf_lines.specs.Parts.{FirstLine, LeadingLines}
use Rattle.cdf_lines.specs.Pending.{fed, grown, new_lines, new_rest, last_of}
use Rattle.cdf_lines.specs.Waiting.{Standing, short_lines, lines_of, ready_of, HasRoom}

-- one more that waits
pub waiting-push : (ws : List Standing) (w : Standing) → flat_map lines_of (ws ++ w ∷ []) ≡ flat_map lines_of ws ++ lines_of w
waiting-push ws w = flat_map-append lines_of ws (w ∷ []) ∙ ap (λ (ls : List (Option (List ℕ))). flat_map lines_of ws ++ ls) (append-nil (lines_of w))

-- no line has more bytes than so many
abbrev AllShort : ℕ → List (List ℕ) → Type 0
AllShort n [] = Unit {0}
AllShort n (l ∷ ls) = (length l ≤ n) × AllShort n ls

AllShort-more : (n : ℕ) (ls : List (List ℕ)) → AllShort n ls → AllShort (suc n) ls
AllShort-more n [] short = tt
AllShort-more n (l ∷ ls) short = (omega arith, AllShort-more n ls short.1)

AllShort-in_front : (n b : ℕ) (ls : List (List ℕ)) (rest : List ℕ) → AllShort n ls → length rest ≤ n → AllShort (suc n) (in_front b ls rest).0 × (length (in_front b ls rest).1 ≤ suc n)
AllShort-in_front n b [] rest short le = (tt, omega arith)
AllShort-in_front n b (l ∷ ls) rest short le = ((omega arith, AllShort-more n ls short.1), omega arith)

AllShort-split : (text : List ℕ) → AllShort (length text) (split text).0 × (length (split text).1 ≤ length text)
AllShort-split [] = (tt, omega arith)
AllShort-split (b ∷ text) =
    let rest = AllShort-split text in
    subst (λ (parts : List (List ℕ) × List ℕ). AllShort (suc (length text)) parts.0 × (length parts.1 ≤ suc (length text))) (sym (split-cons b text))
    (cond_both (b == 10) _ _ (λ (parts : List (List ℕ) × List ℕ). AllShort (suc (length text)) parts.0 × (length parts.1 ≤ suc (length text)))
    (λ newline. ((omega arith, AllShort-more (length text) (split text).0 rest.0), omega arith))
    (λ other. AllShort-in_front (length text) b (split text).0 (split text).1 rest.0 rest.1))

map-short : (n : ℕ) (ls : List (List ℕ)) → n ≤ line_limit → AllShort n ls → map Some ls ≡ map kept ls
map-short n [] le short = refl
map-short n (l ∷ ls) le short =
    let fits : length l ≤ line_limit = omega arith in
    let test : nat_le (length l) line_limit ≡ true = grind (arith, nat_tests) in
    rw (test, map-short n ls le short.1) refl

-- no line of a short text is too long
pub short-kept : (text : List ℕ) → length text ≤ line_limit → short_lines text ≡ whole_lines text
short-kept text le = map-short (length text) (split text).0 le (AllShort-split text).0

module _ {text line others : List ℕ} (first : FirstLine text line others) {whole behind : List ℕ} (more : LeadingLines others whole behind) where
  -- the lines that end behind the first
  others-kept : map kept (split others).0 ≡ short_lines whole ++ whole_lines behind
  others-kept = rw more.parts (map-append kept (split whole).0 (split behind).0 ∙ ap (λ (ls : List (Option (List ℕ))). ls ++ whole_lines behind) (sym (short-kept whole more.short)))

  pub whole_lines-first : whole_lines text ≡ (kept line ∷ short_lines whole) ++ whole_lines behind
  whole_lines-first = rw first.parts (ap (λ (ls : List (Option (List ℕ))). kept line ∷ ls) others-kept)

  pub rest-first : (split text).1 ≡ (split behind).1
  rest-first = rw (first.parts, more.parts) refl

  pub new_lines-first : (rest : Option (List ℕ)) → new_lines rest text ≡ (grown rest line ∷ short_lines whole) ++ whole_lines behind
  new_lines-first rest = rw first.parts (ap (λ (ls : List (Option (List ℕ))). grown rest line ∷ ls) others-kept)

  pub new_rest-first : (rest : Option (List ℕ)) → new_rest rest text ≡ kept (split behind).1
  new_rest-first rest = rw (first.parts, more.parts) refl

-- a block is a line and whole lines behind it
pub record IsBlock (block : Standing) (line : Option (List ℕ)) (whole : List ℕ) : Type 0 where
  pub line_is : block.line ≡ line
  pub others_are : block.others ≡ short_lines whole

lines-of : (block : Standing) (line : Option (List ℕ)) (whole : List ℕ) → IsBlock block line whole → lines_of block ≡ line ∷ short_lines whole
lines-of block line whole is = λ i. is.line_is i ∷ is.others_are i

-- a line and the lines behind it wait now
pub pushes : {text line others whole behind : List ℕ} (ws : List Standing) (block : Standing) (all : List (Option (List ℕ))) → FirstLine text line others → LeadingLines others whole behind → IsBlock block (kept line) whole
    → flat_map lines_of ws ++ whole_lines text ≡ all → flat_map lines_of (ws ++ block ∷ []) ++ whole_lines behind ≡ all
pushes {line = line} {whole = whole} {behind = behind} ws block all first more is before =
    rw (waiting-push ws block, lines-of block (kept line) whole is)
    (append_assoc (flat_map lines_of ws) (kept line ∷ short_lines whole) (whole_lines behind) ∙ ap (λ (ls : List (Option (List ℕ))). flat_map lines_of ws ++ ls) (sym (whole_lines-first first more)) ∙ before)

count-in_front : (b : ℕ) (ls : List (List ℕ)) (rest : List ℕ) (n : ℕ) → length ls + length (last_line rest) ≤ n → length (in_front b ls rest).0 + length (last_line (in_front b ls rest).1) ≤ suc n
count-in_front b [] rest n few = omega arith
count-in_front b (l ∷ ls) rest n few = omega arith

-- each line has a byte of the text
count-split : (text : List ℕ) → length (split text).0 + length (last_line (split text).1) ≤ length text
count-split [] = omega arith
count-split (b ∷ text) =
    subst (λ (parts : List (List ℕ) × List ℕ). length parts.0 + length (last_line parts.1) ≤ suc (length text)) (sym (split-cons b text))
    (cond_both (b == 10) _ _ (λ (parts : List (List ℕ) × List ℕ). length parts.0 + length (last_line parts.1) ≤ suc (length text))
    (λ newline. omega (arith, count-split text))
    (λ other. count-in_front b (split text).0 (split text).1 (length text) (count-split text)))

pub count-lines : (text : List ℕ) → length (whole_lines text) + length (last_of (kept (split text).1)) ≤ length text
count-lines text = simp (← kept-last_line (split text).1, length-map) (count-split text)

last_of-one : (rest : Option (List ℕ)) → length (last_of rest) ≤ 1
last_of-one None = omega arith
last_of-one (Some []) = omega arith
last_of-one (Some (b ∷ line)) = omega arith

count-short : (text : List ℕ) → length (short_lines text) ≤ length text
count-short text = simp length-map (omega (arith, count-split text))

-- a line that goes on from the rest waits now, and the lines behind it
pub record Adds (old added new : List Standing) (block : Standing) (rest : Option (List ℕ)) (line whole behind : List ℕ) (left : Option (List ℕ)) : Type 0 where
  pub all : new ≡ (old ++ block ∷ []) ++ added
  pub is_block : IsBlock block (grown rest line) whole
  pub others : flat_map lines_of added ≡ whole_lines behind
  pub left_is : left ≡ kept (split behind).1

module _ {piece line others : List ℕ} (first : FirstLine piece line others) {whole behind : List ℕ} (parts : LeadingLines others whole behind)
    {old added new : List Standing} {block : Standing} {rest left : Option (List ℕ)} (adds : Adds old added new block rest line whole behind left) (now : Standing) where
  new_lines_are : new_lines rest piece ≡ (grown rest line ∷ short_lines whole) ++ whole_lines behind
  new_lines_are = new_lines-first first parts rest

  waiting_are : flat_map lines_of new ≡ flat_map lines_of old ++ new_lines rest piece
  waiting_are =
      rw (adds.all, flat_map-append lines_of (old ++ block ∷ []) added, waiting-push old block, lines-of block (grown rest line) whole adds.is_block, adds.others, new_lines_are)
      (append_assoc (flat_map lines_of old) (grown rest line ∷ short_lines whole) (whole_lines behind))

  ready_are : ready_of now new ≡ ready_of now old ++ new_lines rest piece
  ready_are = ap (λ (ls : List (Option (List ℕ))). now.others ++ ls) waiting_are ∙ sym (append_assoc now.others (flat_map lines_of old) (new_lines rest piece))

  left_is : left ≡ new_rest rest piece
  left_is = adds.left_is ∙ sym (new_rest-first first parts rest)

  pub fed_is : (given : ℕ) (over : Bool) → record { given = given; line = now.line; ready = ready_of now new; rest = left; over = over } ≡ fed (record { given = given; line = now.line; ready = ready_of now old; rest = rest; over = over }) piece
  fed_is given over = λ i. record { given = given; line = now.line; ready = ready_are i; rest = left_is i; over = over }

  more : length (ready_of now new) ≡ length (ready_of now old) + (1 + length (short_lines whole) + length (whole_lines behind))
  more = rw (ready_are, new_lines_are) (simp length-append (omega arith))

  pub room_left : (given taken taken' places room : ℕ) → given + length (ready_of now old) + length (last_of rest) ≤ taken → taken' ≡ taken + length piece → places + 1 ≤ room → HasRoom given (ready_of now new) left taken' places room
  room_left given taken taken' places room bytes later some =
      let last : length (last_of left) ≡ length (last_of (kept (split behind).1)) = ap (λ (l : Option (List ℕ)). length (last_of l)) adds.left_is in
      record {
        places = omega (arith, last_of-one left);
        bytes = omega (arith, more, last, count-short whole, count-lines behind, first.sizes, parts.sizes);
      }
