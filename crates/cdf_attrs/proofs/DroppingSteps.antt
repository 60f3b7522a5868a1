-- The numbers of entries that are less by one: index by index, the greatest of them, and where they are written.
use Rattle.cdf_attrs.proofs.Common.{All, All-map, AllLie, Contains, Field, IsGreatest, LiesIn, List, Write, [], aedr_num, ap, arith, cast_signed, drop, drop_more, fallen, get_or, get_or-map, if◌then◌else◌, length, length-map, length-with_field, lower_writes, lt-ltb, map, nat_lt, nat_tests, refl, signed_limit, with_field, with_writes, write, ℕ, ◌+◌, ◌-◌, ◌<◌, ◌∙◌, ◌∷◌, ◌≡◌, ◌≤◌}
use Rattle.std.proofs.Common.{w32}
use Rattle.cdf_attrs.proofs.DeletingSteps.{lie_still}
use Rattle.cdf_attrs.proofs.GreatestNumber.{as_greatest}

pub lower_step : (num : ℕ) (ns ps : List ℕ) (i : ℕ) → i < length ns → length ns ≡ length ps → lower_writes num (drop i ns) (drop i ps) ≡ (if nat_lt num (get_or ns i 0) then write (get_or ps i 0) aedr_num (get_or ns i 0 - 1) ∷ lower_writes num (drop (i + 1) ns) (drop (i + 1) ps) else lower_writes num (drop (i + 1) ns) (drop (i + 1) ps))
lower_step num ns ps i lt long = rw (drop_more ns i 0 lt, drop_more ps i 0 (omega arith)) refl

fallen_most : (num m n : ℕ) → num < m → n ≤ m → fallen num n ≤ m - 1
fallen_most num m n lt le = grind (arith, nat_tests)

pub lowered_greatest : (num m : ℕ) (ns : List ℕ) → num < m → Contains ns m → All (λ n. n ≤ m) ns → m ≤ signed_limit → IsGreatest (map (fallen num) ns) (cast_signed w32 (m - 1))
lowered_greatest num m ns lt (k, inside, is) all small =
    let most : All (λ n. n ≤ m - 1) (map (fallen num) ns) = All-map (λ n. n ≤ m - 1) (fallen num) ns (λ j d i. fallen_most num m _ lt (all j d i)) in
    let falls : fallen num m ≡ m - 1 = rw (lt-ltb num m lt) refl in
    as_greatest (map (fallen num) ns) (m - 1) (λ j d i. let le = most j d i in omega arith) (k, rw length-map inside, get_or-map (fallen num) ns k m (m - 1) inside ∙ ap (fallen num) is ∙ falls) most

-- the image is as long
length-writes : (b : List ℕ) (ws : List Write) → AllLie b ws → length (with_writes b ws) ≡ length b
length-writes b [] lie = refl
length-writes b (w ∷ ws) lie = let long = length-with_field b w.tile w.f w.to lie.0 in length-writes (with_field b w.tile w.f w.to) ws (lie_still b (with_field b w.tile w.f w.to) ws long lie.1) ∙ long

pub lies_after : (b now : List ℕ) (ws : List Write) (adr : ℕ) (f : Field) → now ≡ with_writes b ws → AllLie b ws → LiesIn b adr f → LiesIn now adr f
lies_after b now ws adr f is lie lies = let long = ap (λ (x : List ℕ). length x) is ∙ length-writes b ws lie in omega (arith, lies)
