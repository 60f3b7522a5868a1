-- A file that was partly filled, filled again.
use Rattle.std.proofs.Common.{List, [], ap, append_assoc, ap₂, arith, drop, inl, inr, length, max, refl, slice_index, subst, sym, take, true, ℕ, ◌-◌, ◌++◌, ◌+◌, ◌<◌, ◌∙◌, ◌∷◌, ◌≡◌, ◌≤◌, ◌⊎◌}
use Rattle.std.proofs.lemmas.Bool.{and_from, and_parts, cases_lt, le-leb, leb-true}
use Rattle.std.proofs.lemmas.List.{drop-drop, drop_at, ext_get_or, get_or-take, length-append, length-drop, length-take, length-take-le, take_at}
use Rattle.std.specs.Prelude.{min, nat_le, ◌&&◌}
use Rattle.cdf_base.specs.Bytes.{put}
use Rattle.cdf_base.proofs.Puts.{byte-put_after, byte-put_before, byte-put_inside}
use Rattle.cdf_journal.specs.Log.{Body, Member, PartlyFilled, filled, fits, is_within, patched}

pub grown : (b : List ℕ) (at : ℕ) (xs : List ℕ) → at ≤ length b → length (put b at xs) ≡ max (length b) (at + length xs)
unfolding put
grown b at xs le = omega (arith, length-append (take at b) (xs ++ drop (at + length xs) b), length-append xs (drop (at + length xs) b), length-take at b, length-drop (at + length xs) b)

pub inside : (b : List ℕ) (at : ℕ) (xs : List ℕ) (i : ℕ) → at ≤ length b → at ≤ i → i < at + length xs → slice_index (put b at xs) i ≡ slice_index xs (i - at)
inside b at xs i h le lt =
    let e : at + (i - at) ≡ i = omega arith in
    ap (slice_index (put b at xs)) (sym e) ∙ byte-put_inside b at xs (i - at) h (omega arith)

-- the next bytes, also past the end
pub put_on : (b xs ys : List ℕ) (at : ℕ) → at ≤ length b → put (put b at xs) (at + length xs) ys ≡ put b at (xs ++ ys)
unfolding put
put_on b xs ys at h =
    let head = take at b ++ xs in
    let tail = drop (at + length xs) b in
    let long : length head ≡ at + length xs = length-append (take at b) xs ∙ ap (λ n. n + length xs) (length-take-le at b h) in
    let whole : take at b ++ (xs ++ tail) ≡ head ++ tail = sym (append_assoc (take at b) xs tail) in
    let front : take (at + length xs) (take at b ++ (xs ++ tail)) ≡ head = ap (take (at + length xs)) whole ∙ take_at head tail (at + length xs) long in
    let rest : drop (at + length xs + length ys) (take at b ++ (xs ++ tail)) ≡ drop (at + length (xs ++ ys)) b =
    sym (drop-drop (length ys) (at + length xs) (take at b ++ (xs ++ tail)))
    ∙ ap (λ (l : List ℕ). drop (length ys) (drop (at + length xs) l)) whole
    ∙ ap (drop (length ys)) (drop_at head tail (at + length xs) long)
    ∙ drop-drop (length ys) (at + length xs) b
    ∙ ap (λ n. drop n b) (omega (arith, length-append xs ys)) in
    ap₂ (λ (u v : List ℕ). u ++ (ys ++ v)) front rest
    ∙ append_assoc (take at b) xs (ys ++ drop (at + length (xs ++ ys)) b)
    ∙ ap (λ (l : List ℕ). take at b ++ l) (sym (append_assoc xs ys (drop (at + length (xs ++ ys)) b)))

-- two files that are the same but within the members that are still to come
record Alike (old now : List ℕ) (n : ℕ) (members : List Member) : Type 0 where
  elsewhere : (i : ℕ) → i < n → i < length old → (is_within i members → ⊥) → slice_index now i ≡ slice_index old i
  least : min (length old) n ≤ length now

patch_both : (old now : List ℕ) (n : ℕ) (members : List Member) → fits (length old) n members ≡ true → Alike old now n members → take n (patched now members) ≡ take n (patched old members)
patch_both old now n [] f a =
    let le = leb-true n (length old) f in
    let least = a.least in
    let x : length (take n now) ≡ n = omega (arith, length-take n now) in
    let y : length (take n old) ≡ n = omega (arith, length-take n old) in
    ext_get_or 0 (take n now) (take n old) (x ∙ sym y) (λ i lt. get_or-take n now i 0 (omega arith) ∙ a.elsewhere i (omega arith) (omega arith) (λ w. w) ∙ sym (get_or-take n old i 0 (omega arith)))
patch_both old now n ((place, xs) ∷ more) f a =
    let p = and_parts (nat_le place (length old) && nat_le (place + length xs) n) (fits (max (length old) (place + length xs)) n more) f in
    let q = and_parts (nat_le place (length old)) (nat_le (place + length xs) n) p.0 in
    let low = leb-true place (length old) q.0 in
    let high = leb-true (place + length xs) n q.1 in
    let least = a.least in
    let here : place ≤ length now = omega arith in
    let long = grown old place xs low in
    let longs = grown now place xs here in
    patch_both (put old place xs) (put now place xs) n more (subst (λ (k : ℕ). fits k n more ≡ true) (sym long) p.1) (record {
      elsewhere = λ i lt inn none. by i lt (omega arith) none (cases_lt i place) (cases_lt i (place + length xs)) low here;
      least = omega arith;
    })
  where
    by : (i : ℕ) → i < n → i < max (length old) (place + length xs) → (is_within i more → ⊥) → (i < place) ⊎ (place ≤ i) → (i < place + length xs) ⊎ (place + length xs ≤ i) → place ≤ length old → place ≤ length now → slice_index (put now place xs) i ≡ slice_index (put old place xs) i
    by i lt inn none (inl before) c low here = byte-put_before now place xs i here before ∙ a.elsewhere i lt (omega arith) (λ w. not_here w before) ∙ sym (byte-put_before old place xs i low before)
      where
        not_here : is_within i ((place, xs) ∷ more) → i < place → ⊥
        not_here (inl w) b = let x = w.0 in absurd (omega arith)
        not_here (inr w) b = none w
    by i lt inn none (inr le) (inl within) low here = inside now place xs i here le within ∙ sym (inside old place xs i low le within)
    by i lt inn none (inr le) (inr past) low here = byte-put_after now place xs i here past ∙ a.elsewhere i lt (omega arith) (λ w. not_here w past) ∙ sym (byte-put_after old place xs i low past)
      where
        not_here : is_within i ((place, xs) ∷ more) → place + length xs ≤ i → ⊥
        not_here (inl w) b = let x = w.1 in absurd (omega arith)
        not_here (inr w) b = none w

pub fills_again : (old now : List ℕ) (body : Body) → fits (length old) body.new_length body.members ≡ true → PartlyFilled old body now → filled now body ≡ filled old body
fills_again old now body f p =
    let least = p.least in
    patch_both old now body.new_length body.members f (record { elsewhere = λ i lt inn none. p.elsewhere i inn (omega arith) none; least = least })

-- what fits a file fits one that is no shorter than it and the new length
fits_lower : (reached now n : ℕ) (members : List Member) → min reached n ≤ now → fits reached n members ≡ true → fits now n members ≡ true
fits_lower reached now n [] low f = let le = leb-true n reached f in le-leb n now (omega (arith, le, low))
fits_lower reached now n ((place, xs) ∷ more) low f =
    let p = and_parts (nat_le place reached && nat_le (place + length xs) n) (fits (max reached (place + length xs)) n more) f in
    let q = and_parts (nat_le place reached) (nat_le (place + length xs) n) p.0 in
    let start = leb-true place reached q.0 in
    let end = leb-true (place + length xs) n q.1 in
    and_from _ _ (and_from _ _ (le-leb place now (omega (arith, low, start, end))) q.1) (fits_lower (max reached (place + length xs)) (max now (place + length xs)) n more (omega (arith, low)) p.1)

pub fits_again : (old now : List ℕ) (body : Body) → fits (length old) body.new_length body.members ≡ true → PartlyFilled old body now → fits (length now) body.new_length body.members ≡ true
fits_again old now body f p = fits_lower (length old) (length now) body.new_length body.members p.least f

-- ---- the file that is filled is a partly filled one

pub patched_elsewhere : (main : List ℕ) (n : ℕ) (ms : List Member) → fits (length main) n ms ≡ true → (i : ℕ) → i < length main → (is_within i ms → ⊥) → slice_index (patched main ms) i ≡ slice_index main i
patched_elsewhere main n [] f i lt none = refl
patched_elsewhere main n ((p, xs) ∷ ms) f i lt none =
    let q = and_parts (nat_le p (length main) && nat_le (p + length xs) n) (fits (max (length main) (p + length xs)) n ms) f in
    let r = and_parts (nat_le p (length main)) (nat_le (p + length xs) n) q.0 in
    let low = leb-true p (length main) r.0 in
    let long = grown main p xs low in
    let here : slice_index (put main p xs) i ≡ slice_index main i = by (cases_lt i p) (cases_lt i (p + length xs)) low in
    patched_elsewhere (put main p xs) n ms (subst (λ (k : ℕ). fits k n ms ≡ true) (sym long) q.1) i (omega arith) (λ w. none (inr w)) ∙ here
  where
    by : (i < p) ⊎ (p ≤ i) → (i < p + length xs) ⊎ (p + length xs ≤ i) → p ≤ length main → slice_index (put main p xs) i ≡ slice_index main i
    by (inl before) c low = byte-put_before main p xs i low before
    by (inr le) (inl within) low = absurd (none (inl (le, within)))
    by (inr le) (inr past) low = byte-put_after main p xs i low past

pub patched_long : (main : List ℕ) (n : ℕ) (ms : List Member) → fits (length main) n ms ≡ true → n ≤ length (patched main ms)
patched_long main n [] f = leb-true n (length main) f
patched_long main n ((p, xs) ∷ ms) f =
    let q = and_parts (nat_le p (length main) && nat_le (p + length xs) n) (fits (max (length main) (p + length xs)) n ms) f in
    let r = and_parts (nat_le p (length main)) (nat_le (p + length xs) n) q.0 in
    patched_long (put main p xs) n ms (subst (λ (k : ℕ). fits k n ms ≡ true) (sym (grown main p xs (leb-true p (length main) r.0))) q.1)

pub partly_all : (main : List ℕ) (body : Body) → fits (length main) body.new_length body.members ≡ true → PartlyFilled main body (filled main body)
partly_all main body f =
    let n = body.new_length in
    let long = patched_long main n body.members f in
    record {
      elsewhere = λ i inn there none. get_or-take n (patched main body.members) i 0 (omega (arith, length-take n (patched main body.members))) ∙ patched_elsewhere main n body.members f i inn none;
      least = omega (arith, length-take n (patched main body.members));
      most = omega (arith, length-take n (patched main body.members));
    }

pub again : (main : List ℕ) (body : Body) → fits (length main) body.new_length body.members ≡ true → filled (filled main body) body ≡ filled main body
again main body f = fills_again main (filled main body) body f (partly_all main body f)
