-- A log reads back as its body, and what the parts are recovered to.
use Rattle.byteorder.specs.Endian.{big_bytes, big_from}
use Rattle.byteorder.specs.Numbers.{big_from-cons, big_number-reads_back, length-bytes_high_first}
use Rattle.std.proofs.Common.{Bool, List, None, Option, Some, [], ap, append_assoc, ap₂, arith, drop, false, length, max, refl, slice_index, suc, sym, take, true, ℕ, ◌++◌, ◌+◌, ◌<◌, ◌^◌, ◌∙◌, ◌∷◌, ◌≡◌, ◌≤◌}
use Rattle.std.proofs.lemmas.Bool.{and_parts, le-leb, leb-true, lt-ltb, ne_eqb}
use Rattle.std.proofs.lemmas.List.{drop-drop, drop_at, get_or-take, length-append, length-take, take_at}
use Rattle.std.specs.List.{flat_map}
use Rattle.std.specs.Option.{option_and_then, option_map}
use Rattle.std.specs.Prelude.{if◌then◌else◌, nat_le, nat_lt, ◌&&◌, ◌==◌}
unfoldable use Rattle.cdf_base.specs.Bytes.{put}
use Rattle.cdf_journal.specs.Crashes.{Torn}
use Rattle.cdf_journal.specs.Log.{Body, Member, PartlyFilled, body_bytes, body_in, filled, fits, is_open, journal_for, member_bytes, members_in, recovered}
use Rattle.cdf_journal.specs.Stages.{AreSmall, IsLog, IsOpen, IsSmall}
use Rattle.cdf_journal.proofs.FilledAgain.{fills_again, fits_again}

from_behind : (front xs : List ℕ) (n : ℕ) → big_from (length front) n (front ++ xs) ≡ big_from 0 n xs
from_behind [] xs n = refl
from_behind (a ∷ front) xs n = big_from-cons (length front) n a (front ++ xs) ∙ from_behind front xs n

number_at : (front rest : List ℕ) (at n : ℕ) → length front ≡ at → n < 256 ^ 8 → big_from at 8 (front ++ (big_bytes 8 n ++ rest)) ≡ n
number_at front rest at n e lt = ap (λ (k : ℕ). big_from k 8 (front ++ (big_bytes 8 n ++ rest))) (sym e) ∙ from_behind front (big_bytes 8 n ++ rest) 8 ∙ big_number-reads_back 8 n rest lt

members_back : (ms : List Member) (rest : List ℕ) → AreSmall ms → members_in (length ms) (flat_map member_bytes ms ++ rest) ≡ Some ms
members_back [] rest s = refl
members_back ((p, xs) ∷ ms) rest s =
    let n = length xs in
    let tail = flat_map member_bytes ms ++ rest in
    let bs = big_bytes 8 p ++ (big_bytes 8 n ++ (xs ++ tail)) in
    let whole : flat_map member_bytes ((p, xs) ∷ ms) ++ rest ≡ bs =
    append_assoc (big_bytes 8 p ++ big_bytes 8 n ++ xs) (flat_map member_bytes ms) rest ∙ append_assoc (big_bytes 8 p ++ big_bytes 8 n) xs tail ∙ append_assoc (big_bytes 8 p) (big_bytes 8 n) (xs ++ tail) in
    let place : big_from 0 8 bs ≡ p = big_number-reads_back 8 p (big_bytes 8 n ++ (xs ++ tail)) s.0 in
    let size : big_from 8 8 bs ≡ n = number_at (big_bytes 8 p) (xs ++ tail) 8 n (length-bytes_high_first 8 p) s.1 in
    let sixteen : drop 16 bs ≡ xs ++ tail =
    ap (λ (l : List ℕ). drop 16 l) (sym (append_assoc (big_bytes 8 p) (big_bytes 8 n) (xs ++ tail))) ∙ drop_at (big_bytes 8 p ++ big_bytes 8 n) (xs ++ tail) 16 (omega (arith, length-append (big_bytes 8 p) (big_bytes 8 n), length-bytes_high_first 8 p, length-bytes_high_first 8 n)) in
    let own : take n (drop 16 bs) ≡ xs = ap (take n) sixteen ∙ take_at xs tail n refl in
    let later : drop (16 + n) bs ≡ tail = sym (drop-drop n 16 bs) ∙ ap (drop n) sixteen ∙ drop_at xs tail n refl in
    let room : nat_le (16 + n) (length bs) ≡ true = le-leb (16 + n) (length bs) (omega (arith, length-append (big_bytes 8 p) (big_bytes 8 n ++ (xs ++ tail)), length-append (big_bytes 8 n) (xs ++ tail), length-append xs tail, length-bytes_high_first 8 p, length-bytes_high_first 8 n)) in
    ap (members_in (suc (length ms))) whole
    ∙ (λ i. if nat_le (16 + size i) (length bs) then option_map (λ more. (place i, take (size i) (drop 16 bs)) ∷ more) (members_in (length ms) (drop (16 + size i) bs)) else None)
    ∙ ap (λ (q : Bool). if q then option_map (λ more. (p, take n (drop 16 bs)) ∷ more) (members_in (length ms) (drop (16 + n) bs)) else None) room
    ∙ ap₂ (λ (ys : List ℕ) (o : Option (List Member)). option_map (λ more. (p, ys) ∷ more) o) own (ap (members_in (length ms)) later ∙ members_back ms rest s.2)

-- members that fit are made of numbers of 8 bytes
are_small : (reached n : ℕ) (ms : List Member) → n < 256 ^ 8 → fits reached n ms ≡ true → AreSmall ms
are_small reached n [] lt f = tt
are_small reached n ((p, xs) ∷ ms) lt f =
    let q = and_parts (nat_le p reached && nat_le (p + length xs) n) (fits (max reached (p + length xs)) n ms) f in
    let r = and_parts (nat_le p reached) (nat_le (p + length xs) n) q.0 in
    let end = leb-true (p + length xs) n r.1 in
    (omega (arith, lt, end), omega (arith, lt, end), are_small (max reached (p + length xs)) n ms lt q.1)

pub is_small : (reached : ℕ) (body : Body) → body.new_length < 256 ^ 8 → length body.members < 256 ^ 8 → fits reached body.new_length body.members ≡ true → IsSmall body
is_small reached body lt count f = record { length_fits = lt; count_fits = count; members_fit = are_small reached body.new_length body.members lt f }

-- ---- the body of a log

body_back : (body : Body) (first : ℕ) (log : List ℕ) → IsSmall body → IsLog body first log → body_in log ≡ Some body
body_back body first log s l =
    let p8 = first ∷ l.front in
    let eight : length p8 ≡ 8 = ap suc l.seven in
    let nl = big_bytes 8 body.new_length in
    let cnt = big_bytes 8 (length body.members) in
    let ms = flat_map member_bytes body.members in
    let tail = ms ++ l.rest in
    let whole : log ≡ p8 ++ (nl ++ (cnt ++ tail)) = l.is ∙ ap (λ (x : List ℕ). p8 ++ x) (append_assoc (nl ++ cnt) ms l.rest ∙ append_assoc nl cnt tail) in
    let again : log ≡ (p8 ++ nl) ++ (cnt ++ tail) = whole ∙ sym (append_assoc p8 nl (cnt ++ tail)) in
    let third : log ≡ ((p8 ++ nl) ++ cnt) ++ tail = again ∙ sym (append_assoc (p8 ++ nl) cnt tail) in
    let size : big_from 8 8 log ≡ body.new_length = ap (big_from 8 8) whole ∙ number_at p8 (cnt ++ tail) 8 body.new_length eight s.length_fits in
    let count : big_from 16 8 log ≡ length body.members = ap (big_from 16 8) again ∙ number_at (p8 ++ nl) tail 16 (length body.members) (omega (arith, length-append p8 nl, eight, length-bytes_high_first 8 body.new_length)) s.count_fits in
    let long3 : length ((p8 ++ nl) ++ cnt) ≡ 24 = omega (arith, length-append (p8 ++ nl) cnt, length-append p8 nl, eight, length-bytes_high_first 8 body.new_length, length-bytes_high_first 8 (length body.members)) in
    let behind : drop 24 log ≡ tail = ap (drop 24) third ∙ drop_at ((p8 ++ nl) ++ cnt) tail 24 long3 in
    let room : nat_le 24 (length log) ≡ true = le-leb 24 (length log) (omega (arith, ap length third, length-append ((p8 ++ nl) ++ cnt) tail, long3)) in
    ap (λ (q : Bool). if q then option_map (λ members. record { new_length = big_from 8 8 log; members = members }) (members_in (big_from 16 8 log) (drop 24 log)) else None) room
    ∙ (λ i. option_map (λ members. record { new_length = size i; members = members }) (members_in (count i) (behind i)))
    ∙ ap (option_map (λ members. record { new_length = body.new_length; members = members })) (members_back body.members l.rest s.members_fit)

opens : (body : Body) (first : ℕ) (log : List ℕ) → IsLog body first log → is_open log ≡ (first == 1)
opens body first log l =
    let eight : length (first ∷ l.front) ≡ 8 = ap suc l.seven in
    let nl = big_bytes 8 body.new_length in
    let cnt = big_bytes 8 (length body.members) in
    let ms = flat_map member_bytes body.members in
    let long : nat_lt 8 (length log) ≡ true = lt-ltb 8 (length log) (omega (arith, ap length l.is, length-append (first ∷ l.front) (body_bytes body ++ l.rest), eight, length-append (body_bytes body) l.rest, length-append (nl ++ cnt) ms, length-append nl cnt, length-bytes_high_first 8 body.new_length, length-bytes_high_first 8 (length body.members))) in
    ap (λ (q : Bool). q && (slice_index log 0 == 1)) long ∙ ap (λ (x : List ℕ). slice_index x 0 == 1) l.is

pub is_shut : (body : Body) (first : ℕ) (log : List ℕ) → IsLog body first log → (first ≡ 1 → ⊥) → is_open log ≡ false
is_shut body first log l ne = opens body first log l ∙ ne_eqb first 1 (λ e. absurd (ne e))

pub says_open : (body : Body) (log : List ℕ) → IsSmall body → IsLog body 1 log → IsOpen body log
says_open body log s l = record { opened = opens body 1 log l; says = body_back body 1 log s l }

-- a log whose first byte is not 1 is not open
pub never_open : (log : List ℕ) → (slice_index log 0 ≡ 1 → ⊥) → is_open log ≡ false
never_open log closed = rw (ne_eqb (slice_index log 0) 1 (λ e. absurd (closed e))) (none (nat_lt 8 (length log)))
  where
    none : (p : Bool) → (p && false) ≡ false
    none p = grind arith

-- ---- what the parts are recovered to

pub recovers_shut : (main log : List ℕ) → is_open log ≡ false → recovered main log ≡ main
recovers_shut main log e = ap (λ (q : Bool). if q then (elim (journal_for main log) [ None ↦ main | Some body ↦ filled main body ]) else main) e

pub is_journal : (main log : List ℕ) (body : Body) → body_in log ≡ Some body → fits (length main) body.new_length body.members ≡ true → journal_for main log ≡ Some body
is_journal main log body e f = ap (λ (o : Option Body). option_and_then (λ b. if fits (length main) b.new_length b.members then Some b else None) o) e ∙ ap (λ (q : Bool). if q then Some body else None) f

pub recovers_open : (main log : List ℕ) (body : Body) → IsOpen body log → fits (length main) body.new_length body.members ≡ true → recovered main log ≡ filled main body
recovers_open main log body o f =
    ap (λ (q : Bool). if q then (elim (journal_for main log) [ None ↦ main | Some b ↦ filled main b ]) else main) o.opened
    ∙ ap (λ (j : Option Body). elim j [ None ↦ main | Some b ↦ filled main b ]) (is_journal main log body o.says f)

pub recovers_again : (old now log : List ℕ) (body : Body) → is_open log ≡ true → body_in log ≡ Some body → fits (length old) body.new_length body.members ≡ true → PartlyFilled old body now → recovered now log ≡ filled old body
recovers_again old now log body opened says f p = recovers_open now log body (record { opened = opened; says = says }) (fits_again old now body f p) ∙ fills_again old now body f p

-- ---- the log at each step

pub laid : (body : Body) (log : List ℕ) → 8 ≤ length log → IsLog body (slice_index log 0) (put log 8 (body_bytes body))
unfolding put
laid body [] le = absurd (omega arith)
laid body (x ∷ log) le = record {
  front = take 7 log;
  rest = drop (8 + length (body_bytes body)) (x ∷ log);
  seven = omega (arith, length-take 7 log);
  is = refl;
}

pub gated : (body : Body) (first now : ℕ) (log : List ℕ) → IsLog body first log → IsLog body now (put log 0 (now ∷ []))
unfolding put
gated body first now log l = record { front = l.front; rest = l.rest; seven = l.seven; is = ap (λ (x : List ℕ). now ∷ drop 1 x) l.is }

pub torn_gate : (body : Body) (first : ℕ) (log c : List ℕ) → IsLog body first log → Torn 0 1 log c → (now : ℕ) × IsLog body now c
torn_gate body first log [] l t = let n = t.no_shorter in absurd (omega (arith, ap length l.is))
torn_gate body first log (x ∷ c) l t = (x, record { front = l.front; rest = l.rest; seven = l.seven; is = ap (λ (y : List ℕ). x ∷ y) (t.after ∙ ap (drop 1) l.is) })

-- the first 8 bytes are those of before
pub same_gate : (log c : List ℕ) → take 8 c ≡ take 8 log → slice_index c 0 ≡ slice_index log 0
same_gate log c e = sym (get_or-take 8 c 0 0 (omega arith)) ∙ ap (λ (l : List ℕ). slice_index l 0) e ∙ get_or-take 8 log 0 0 (omega arith)

pub first_is : (body : Body) (first : ℕ) (log : List ℕ) → IsLog body first log → slice_index log 0 ≡ first
first_is body first log l = ap (λ (x : List ℕ). slice_index x 0) l.is

pub is_long : (body : Body) (first : ℕ) (log : List ℕ) → IsLog body first log → 8 ≤ length log
is_long body first log l = let s = l.seven in omega (arith, ap length l.is, length-append (first ∷ l.front) (body_bytes body ++ l.rest))
