-- The members of a log that fit a file, one after the other.
use Rattle.byteorder.specs.Endian.{big_from}
use Rattle.std.proofs.Common.{Bool, List, None, Option, Some, [], ap, append_assoc, arith, drop, false, length, max, refl, subst, suc, sym, take, true, true≢false, ℕ, ◌++◌, ◌+◌, ◌-◌, ◌<◌, ◌∙◌, ◌∷◌, ◌≡◌}
use Rattle.std.proofs.lemmas.Bool.{and_parts, leb-true}
use Rattle.std.proofs.lemmas.List.{append-nil, drop-drop, length-drop, length-take, map-append}
use Rattle.std.specs.Option.{option_and_then, option_map}
use Rattle.std.specs.Prelude.{MatchOption, if◌then◌else◌, map, nat_le, ◌&&◌}
use Rattle.cdf_base.specs.Bytes.{put}
use Rattle.cdf_journal.specs.Loading.{Loads, Patches, fit_members, range_of}
use Rattle.cdf_journal.specs.Log.{Body, Member, filled, fits, journal_for, members_in, patched}
use Rattle.cdf_journal.specs.declared.range.Range.{Range}
use Rattle.cdf_journal.proofs.FilledAgain.{grown}

-- a first member that fits, and those behind it
abbrev pub with_first : Bool → Member → Option (List Member) → Option (List Member)
with_first here member more = if here then option_map (λ ms. member ∷ ms) more else None

first_fits : (here later : Bool) (member : Member) (ms : List Member) → (if here && later then Some (member ∷ ms) else None) ≡ with_first here member (if later then Some ms else None)
first_fits true true member ms = refl
first_fits true false member ms = refl
first_fits false later member ms = refl

none_first : (here : Bool) (member : Member) → None ≡ with_first here member None
none_first true member = refl
none_first false member = refl

pub fit_step : (reached n k : ℕ) (bytes : List ℕ) → nat_le (16 + big_from 8 8 bytes) (length bytes) ≡ true
    → length (take (big_from 8 8 bytes) (drop 16 bytes)) ≡ big_from 8 8 bytes
    → fit_members reached n (suc k) bytes
    ≡ with_first (nat_le (big_from 0 8 bytes) reached && nat_le (big_from 0 8 bytes + big_from 8 8 bytes) n) (big_from 0 8 bytes, take (big_from 8 8 bytes) (drop 16 bytes))
    (fit_members (max reached (big_from 0 8 bytes + big_from 8 8 bytes)) n k (drop (16 + big_from 8 8 bytes) bytes))
fit_step reached n k bytes room long =
    let p = big_from 0 8 bytes in
    let xs = take (big_from 8 8 bytes) (drop 16 bytes) in
    let rest = members_in k (drop (16 + big_from 8 8 bytes) bytes) in
    ap (λ (q : Bool). option_and_then (λ ms. if fits reached n ms then Some ms else None) (if q then option_map (λ more. (p, xs) ∷ more) rest else None)) room
    ∙ by rest
    ∙ ap (λ (size : ℕ). with_first (nat_le p reached && nat_le (p + size) n) (p, xs) (option_and_then (λ ms. if fits (max reached (p + size)) n ms then Some ms else None) rest)) long
  where
    by : (rest : Option (List Member)) → option_and_then (λ ms. if fits reached n ms then Some ms else None) (option_map (λ more. (big_from 0 8 bytes, take (big_from 8 8 bytes) (drop 16 bytes)) ∷ more) rest)
        ≡ with_first (nat_le (big_from 0 8 bytes) reached && nat_le (big_from 0 8 bytes + length (take (big_from 8 8 bytes) (drop 16 bytes))) n) (big_from 0 8 bytes, take (big_from 8 8 bytes) (drop 16 bytes))
        (option_and_then (λ ms. if fits (max reached (big_from 0 8 bytes + length (take (big_from 8 8 bytes) (drop 16 bytes)))) n ms then Some ms else None) rest)
    by None = none_first (nat_le (big_from 0 8 bytes) reached && nat_le (big_from 0 8 bytes + length (take (big_from 8 8 bytes) (drop 16 bytes))) n) (big_from 0 8 bytes, take (big_from 8 8 bytes) (drop 16 bytes))
    by (Some ms) = first_fits (nat_le (big_from 0 8 bytes) reached && nat_le (big_from 0 8 bytes + length (take (big_from 8 8 bytes) (drop 16 bytes))) n) (fits (max reached (big_from 0 8 bytes + length (take (big_from 8 8 bytes) (drop 16 bytes)))) n ms) (big_from 0 8 bytes, take (big_from 8 8 bytes) (drop 16 bytes)) ms

pub fit_no_room : (reached n k : ℕ) (bytes : List ℕ) → nat_le (16 + big_from 8 8 bytes) (length bytes) ≡ false → fit_members reached n (suc k) bytes ≡ None
fit_no_room reached n k bytes none =
    ap (λ (q : Bool). option_and_then (λ ms. if fits reached n ms then Some ms else None) (if q then option_map (λ more. (big_from 0 8 bytes, take (big_from 8 8 bytes) (drop 16 bytes)) ∷ more) (members_in k (drop (16 + big_from 8 8 bytes) bytes)) else None)) none

-- ---- a log that is read

-- so many members were written in order, and their ranges kept; all are these and the rest
pub record SoFar (main : List ℕ) (ranges : List Range) (all : Option (List Member)) (file : List ℕ) (ranges' : List Range) (rest : Option (List Member)) : Type 0 where
  pub done : List Member
  pub file_is : file ≡ patched main done
  pub ranges_are : ranges' ≡ ranges ++ map range_of done
  pub all_are : all ≡ option_map (λ ms. done ++ ms) rest

pub begun : (main : List ℕ) (ranges : List Range) (all : Option (List Member)) → SoFar main ranges all main ranges all
begun main ranges all = record { done = []; file_is = refl; ranges_are = sym (append-nil ranges); all_are = by all }
  where
    by : (all : Option (List Member)) → all ≡ option_map (λ ms. [] ++ ms) all
    by None = refl
    by (Some ms) = refl

patched_more : (main : List ℕ) (ms : List Member) (m : Member) → patched main (ms ++ m ∷ []) ≡ put (patched main ms) m.0 m.1
patched_more main [] (p, xs) = refl
patched_more main ((p, xs) ∷ ms) m = patched_more (put main p xs) ms m

-- one member more
pub went_on : (main : List ℕ) (ranges : List Range) (all : Option (List Member)) (file : List ℕ) (ranges' : List Range) (m : Member) (rest : Option (List Member)) → SoFar main ranges all file ranges' (option_map (λ ms. m ∷ ms) rest)
    → SoFar main ranges all (put file m.0 m.1) (ranges' ++ range_of m ∷ []) rest
went_on main ranges all file ranges' m rest s = record {
  done = s.done ++ m ∷ [];
  file_is = ap (λ (f : List ℕ). put f m.0 m.1) s.file_is ∙ sym (patched_more main s.done m);
  ranges_are = ap (λ (rs : List Range). rs ++ range_of m ∷ []) s.ranges_are ∙ append_assoc ranges (map range_of s.done) (range_of m ∷ []) ∙ ap (λ (rs : List Range). ranges ++ rs) (sym (map-append range_of s.done (m ∷ [])));
  all_are = s.all_are ∙ by rest;
}
  where
    by : (rest : Option (List Member)) → option_map (λ ms. s.done ++ ms) (option_map (λ ms. m ∷ ms) rest) ≡ option_map (λ ms. (s.done ++ m ∷ []) ++ ms) rest
    by None = refl
    by (Some ms) = ap Some (sym (append_assoc s.done (m ∷ []) ms))

-- there are not as many, or one does not fit
pub stopped : (main : List ℕ) (ranges : List Range) (all : Option (List Member)) (file : List ℕ) (ranges' : List Range) (rest : Option (List Member)) → SoFar main ranges all file ranges' rest → rest ≡ None → (now : List ℕ) (ranges'' : List Range) → Patches all main ranges now ranges'' false
stopped main ranges all file ranges' rest s none now ranges'' = subst (λ (o : Option (List Member)). Patches o main ranges now ranges'' false) (sym (s.all_are ∙ ap (option_map (λ ms. s.done ++ ms)) none)) refl

-- no member is left
pub ended : (main : List ℕ) (ranges : List Range) (all : Option (List Member)) (file : List ℕ) (ranges' : List Range) (is : Bool) → SoFar main ranges all file ranges' (if is then Some [] else None) → Patches all main ranges file ranges' is
ended main ranges all file ranges' true s =
    subst (λ (o : Option (List Member)). Patches o main ranges file ranges' true) (sym s.all_are) (refl, s.file_is ∙ ap (patched main) (sym (append-nil s.done)), s.ranges_are ∙ ap (λ (ms : List Member). ranges ++ map range_of ms) (sym (append-nil s.done)))
ended main ranges all file ranges' false s = subst (λ (o : Option (List Member)). Patches o main ranges file ranges' false) (sym s.all_are) refl

-- a body of these members
abbrev pub body_with : ℕ → List Member → Body
body_with n ms = record { new_length = n; members = ms }

abbrev pub where_fit : ℕ → Body → Option Body
where_fit reached body = if fits reached body.new_length body.members then Some body else None

each : (n : ℕ) (ms : List Member) (q : Bool) → (let body : Body = body_with n ms in if q then Some body else None) ≡ option_map (body_with n) (if q then Some ms else None)
each n ms true = refl
each n ms false = refl

-- a log's journal, by its members
pub journal_is : (main log : List ℕ) → nat_le 24 (length log) ≡ true
    → journal_for main log ≡ option_map (body_with (big_from 8 8 log)) (fit_members (length main) (big_from 8 8 log) (big_from 16 8 log) (drop 24 log))
journal_is main log room = ap (λ (q : Bool). option_and_then (where_fit (length main)) (if q then option_map (body_with (big_from 8 8 log)) (members_in (big_from 16 8 log) (drop 24 log)) else None)) room ∙ by (members_in (big_from 16 8 log) (drop 24 log))
  where
    by : (o : Option (List Member)) → option_and_then (where_fit (length main)) (option_map (body_with (big_from 8 8 log)) o) ≡ option_map (body_with (big_from 8 8 log)) (option_and_then (λ ms. if fits (length main) (big_from 8 8 log) ms then Some ms else None) o)
    by None = refl
    by (Some ms) = each (big_from 8 8 log) ms (fits (length main) (big_from 8 8 log) ms)

pub no_journal : (main log : List ℕ) → nat_le 24 (length log) ≡ false → journal_for main log ≡ None
no_journal main log short = ap (λ (q : Bool). option_and_then (where_fit (length main)) (if q then option_map (body_with (big_from 8 8 log)) (members_in (big_from 16 8 log) (drop 24 log)) else None)) short

pub loaded : (main log file : List ℕ) (ranges : List Range) (o : Option (List Member)) → journal_for main log ≡ option_map (body_with (big_from 8 8 log)) o → Patches o main [] file ranges true → Loads log main (take (big_from 8 8 log) file) ranges true
loaded main log file ranges None e p = absurd (true≢false p)
loaded main log file ranges (Some ms) e p =
    subst (λ (j : Option Body). MatchOption j (true ≡ false) (λ body. (true ≡ true) × (take (big_from 8 8 log) file ≡ filled main body) × (ranges ≡ map range_of body.members))) (sym e)
    (refl, ap (take (big_from 8 8 log)) p.1, p.2)

pub not_loaded : (main log file now : List ℕ) (ranges ranges' : List Range) (o : Option (List Member)) → journal_for main log ≡ option_map (body_with (big_from 8 8 log)) o → Patches o main [] file ranges false → Loads log main now ranges' false
not_loaded main log file now ranges ranges' None e p = subst (λ (j : Option Body). MatchOption j (false ≡ false) (λ body. (false ≡ true) × (now ≡ filled main body) × (ranges' ≡ map range_of body.members))) (sym e) refl
not_loaded main log file now ranges ranges' (Some ms) e p = absurd (true≢false (sym p.0))

-- ---- the next member

long_piece : (bytes : List ℕ) → nat_le (16 + big_from 8 8 bytes) (length bytes) ≡ true → length (take (big_from 8 8 bytes) (drop 16 bytes)) ≡ big_from 8 8 bytes
long_piece bytes room = let le = leb-true (16 + big_from 8 8 bytes) (length bytes) room in omega (arith, le, length-take (big_from 8 8 bytes) (drop 16 bytes), length-drop 16 bytes)

-- it does not fit
pub unfit : (reached n left : ℕ) (bytes : List ℕ) (p size : ℕ) → 0 < left → nat_le (16 + big_from 8 8 bytes) (length bytes) ≡ true → p ≡ big_from 0 8 bytes → size ≡ big_from 8 8 bytes → (nat_le p reached && nat_le (p + size) n) ≡ false → fit_members reached n left bytes ≡ None
unfit reached n left bytes p size some room place long fails =
    let k = left - 1 in
    let next : left ≡ suc k = omega (arith, some) in
    let member : Member = (big_from 0 8 bytes, take (big_from 8 8 bytes) (drop 16 bytes)) in
    let rest : Option (List Member) = fit_members (max reached (big_from 0 8 bytes + big_from 8 8 bytes)) n k (drop (16 + big_from 8 8 bytes) bytes) in
    let here : (nat_le (big_from 0 8 bytes) reached && nat_le (big_from 0 8 bytes + big_from 8 8 bytes) n) ≡ false = (λ i. nat_le (sym place i) reached && nat_le (sym place i + sym long i) n) ∙ fails in
    ap (λ (j : ℕ). fit_members reached n j bytes) next ∙ fit_step reached n k bytes room (long_piece bytes room) ∙ ap (λ (q : Bool). with_first q member rest) here

-- it fits, and is written
pub advanced : (main : List ℕ) (ranges : List Range) (all : Option (List Member)) (file : List ℕ) (ranges' : List Range) (n left : ℕ) (bytes : List ℕ) (p size : ℕ) (piece next file' : List ℕ) (ranges'' : List Range)
    → SoFar main ranges all file ranges' (fit_members (length file) n left bytes) → 0 < left → nat_le (16 + big_from 8 8 bytes) (length bytes) ≡ true → p ≡ big_from 0 8 bytes → size ≡ big_from 8 8 bytes → (nat_le p (length file) && nat_le (p + size) n) ≡ true
    → piece ≡ take size (drop 16 bytes) → next ≡ drop size (drop 16 bytes) → file' ≡ put file p piece → ranges'' ≡ ranges' ++ record { place = p; count = length piece } ∷ []
    → SoFar main ranges all file' ranges'' (fit_members (length file') n (left - 1) next)
advanced main ranges all file ranges' n left bytes p size piece next file' ranges'' so some room place long holds piece_is next_is file_is ranges_are =
    let k = left - 1 in
    let more : left ≡ suc k = omega (arith, some) in
    let xs : List ℕ = take (big_from 8 8 bytes) (drop 16 bytes) in
    let member : Member = (big_from 0 8 bytes, xs) in
    let rest : Option (List Member) = fit_members (max (length file) (big_from 0 8 bytes + big_from 8 8 bytes)) n k (drop (16 + big_from 8 8 bytes) bytes) in
    let here : (nat_le (big_from 0 8 bytes) (length file) && nat_le (big_from 0 8 bytes + big_from 8 8 bytes) n) ≡ true = (λ i. nat_le (sym place i) (length file) && nat_le (sym place i + sym long i) n) ∙ holds in
    let first : fit_members (length file) n left bytes ≡ option_map (λ ms. member ∷ ms) rest = ap (λ (j : ℕ). fit_members (length file) n j bytes) more ∙ fit_step (length file) n k bytes room (long_piece bytes room) ∙ ap (λ (q : Bool). with_first q member rest) here in
    let written = went_on main ranges all file ranges' member rest (subst (λ (o : Option (List Member)). SoFar main ranges all file ranges' o) first so) in
    let low = leb-true p (length file) (and_parts (nat_le p (length file)) (nat_le (p + size) n) holds).0 in
    let piece_of : piece ≡ xs = piece_is ∙ ap (λ (s : ℕ). take s (drop 16 bytes)) long in
    let file_of : file' ≡ put file (big_from 0 8 bytes) xs = file_is ∙ (λ i. put file (place i) (piece_of i)) in
    let ranges_of : ranges'' ≡ ranges' ++ range_of member ∷ [] = ranges_are ∙ ap (λ (r : Range). ranges' ++ r ∷ []) (λ i. record { place = place i; count = length (piece_of i) }) in
    let size_of : length file' ≡ max (length file) (big_from 0 8 bytes + big_from 8 8 bytes) =
    ap length file_is ∙ grown file p piece low ∙ (λ i. max (length file) (place i + length (piece_of i))) ∙ ap (λ (s : ℕ). max (length file) (big_from 0 8 bytes + s)) (long_piece bytes room) in
    let rest_of : next ≡ drop (16 + big_from 8 8 bytes) bytes = next_is ∙ ap (λ (s : ℕ). drop s (drop 16 bytes)) long ∙ drop-drop (big_from 8 8 bytes) 16 bytes in
    subst (λ (f : List ℕ). SoFar main ranges all f ranges'' (fit_members (length file') n k next)) (sym file_of)
    (subst (λ (rs : List Range). SoFar main ranges all (put file (big_from 0 8 bytes) xs) rs (fit_members (length file') n k next)) (sym ranges_of)
    (subst (λ (r : ℕ). SoFar main ranges all (put file (big_from 0 8 bytes) xs) (ranges' ++ range_of member ∷ []) (fit_members r n k next)) (sym size_of)
    (subst (λ (bs : List ℕ). SoFar main ranges all (put file (big_from 0 8 bytes) xs) (ranges' ++ range_of member ∷ []) (fit_members (max (length file) (big_from 0 8 bytes + big_from 8 8 bytes)) n k bs)) (sym rest_of) written)))
