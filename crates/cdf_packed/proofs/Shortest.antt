-- Packed in the longest runs, bytes are packed in the fewest bytes.
use Rattle.std.proofs.Common.{◌≡◌, ◌∙◌, ℕ, zero, suc, ◌+◌, ◌-◌, ◌<◌, ◌≤◌, List, [], ◌∷◌, ◌++◌, length, replicate, false, ap, refl, inl, inr, arith}
use Rattle.std.specs.Prelude.{All}
use Rattle.std.proofs.lemmas.Bool.{cases_lt}
use Rattle.std.proofs.lemmas.List.Elements.{All-head, All-tail}
use Rattle.cdf_model.specs.RunLengths.{Packs, IsLongest, begins_pair}

-- how many bytes these are packed in at least, behind a pair that has room for so many zeros more
abbrev least : ℕ → List ℕ → ℕ
least room [] = 0
least room (suc b ∷ xs) = suc (least 0 xs)
least zero (zero ∷ xs) = suc (suc (least 255 xs))
least (suc room) (zero ∷ xs) = least room xs

mutual
  -- more room never costs more
  least-room : (more less : ℕ) (xs : List ℕ) → less ≤ more → least more xs ≤ least less xs
  least-room more less [] le = omega arith
  least-room more less (suc b ∷ xs) le = omega arith
  least-room zero zero (zero ∷ xs) le = omega arith
  least-room zero (suc less) (zero ∷ xs) le = absurd (omega arith)
  least-room (suc more) zero (zero ∷ xs) le = least-pair more 255 xs (omega arith)
  least-room (suc more) (suc less) (zero ∷ xs) le = least-room more less xs (omega arith)

  -- room costs a pair at most
  least-pair : (first second : ℕ) (xs : List ℕ) → second ≤ 255 → least first xs ≤ suc (suc (least second xs))
  least-pair first second [] le = omega arith
  least-pair first second (suc b ∷ xs) le = omega arith
  least-pair zero zero (zero ∷ xs) le = omega arith
  least-pair zero (suc second) (zero ∷ xs) le = let more = least-room 255 second xs (omega arith) in omega (arith, more)
  least-pair (suc first) zero (zero ∷ xs) le = let more = least-pair first 255 xs (omega arith) in omega (arith, more)
  least-pair (suc first) (suc second) (zero ∷ xs) le = least-pair first second xs (omega arith)

-- zeros for which there is room
least-zeros : (n room : ℕ) (xs : List ℕ) → least (n + room) (replicate n 0 ++ xs) ≡ least room xs
least-zeros zero room xs = let none : 0 + room ≡ room = omega arith in rw none refl
least-zeros (suc n) room xs = let more : suc n + room ≡ suc (n + room) = omega arith in rw more (least-zeros n room xs)

-- a pair and what stands behind it
least-run : (n : ℕ) (rest : List ℕ) → n < 256 → least 0 (replicate (suc n) 0 ++ rest) ≡ suc (suc (least (255 - n) rest))
least-run n rest byte =
    let all : 255 ≡ n + (255 - n) = omega arith in
    ap (λ (room : ℕ). suc (suc (least room (replicate n 0 ++ rest)))) all ∙ ap (λ (k : ℕ). suc (suc k)) (least-zeros n (255 - n) rest)

others : (b : ℕ) (xs : List ℕ) → All (λ x. x < 256) (b ∷ xs) → All (λ x. x < 256) xs
others b xs bytes = All-tail (λ x. x < 256) b xs bytes

count_fits : (n : ℕ) (xs : List ℕ) → All (λ x. x < 256) (0 ∷ n ∷ xs) → n < 256
count_fits n xs bytes = All-head (λ x. x < 256) n xs (others 0 (n ∷ xs) bytes)

-- no packing has fewer
least-packs : (packed plain : List ℕ) → All (λ x. x < 256) packed → Packs packed plain → least 0 plain ≤ length packed
least-packs [] plain bytes e = rw e (omega arith)
least-packs (suc b ∷ more) plain bytes (rest, e, packs) =
    let behind = least-packs more rest (others (suc b) more bytes) packs in
    rw e (omega (arith, behind))
least-packs (zero ∷ []) plain bytes packs = absurd packs
least-packs (zero ∷ n ∷ more) plain bytes (rest, e, packs) =
    let behind = least-packs more rest (others n more (others 0 (n ∷ more) bytes)) packs in
    let room = least-room (255 - n) 0 rest (omega arith) in
    let run = least-run n rest (count_fits n more bytes) in
    rw (e, run) (omega (arith, behind, room))

-- where no pair stands first, room is of no use
least-data : (room : ℕ) (packed plain : List ℕ) → Packs packed plain → begins_pair packed ≡ false → least room plain ≡ least 0 plain
least-data room [] plain e none = rw e refl
least-data room (suc b ∷ more) plain (rest, e, packs) none = rw e refl
least-data room (zero ∷ []) plain packs none = absurd packs
least-data room (zero ∷ n ∷ more) plain packs none = cc

-- the packing in the longest runs has no more
least-longest : (packed plain : List ℕ) → All (λ x. x < 256) packed → Packs packed plain → IsLongest packed → length packed ≤ least 0 plain
least-longest [] plain bytes e longest = omega arith
least-longest (suc b ∷ more) plain bytes (rest, e, packs) longest =
    let behind = least-longest more rest (others (suc b) more bytes) packs longest in
    rw e (omega (arith, behind))
least-longest (zero ∷ []) plain bytes packs longest = absurd packs
least-longest (zero ∷ n ∷ more) plain bytes (rest, e, packs) longest =
    let byte = count_fits n more bytes in
    let behind = least-longest more rest (others n more (others 0 (n ∷ more) bytes)) packs longest.1 in
    let run = least-run n rest byte in
    let same : least (255 - n) rest ≡ least 0 rest = elim (cases_lt n 255) [
      | inl short ↦ least-data (255 - n) more rest packs (longest.0 short)
      | inr long ↦ let none : 255 - n ≡ 0 = omega arith in rw none refl
    ] in
    rw (e, run) (omega (arith, behind, same))

-- no packing is shorter than that in the longest runs
pub longest_is_shortest : (runs packed plain : List ℕ) → All (λ x. x < 256) runs → Packs runs plain → IsLongest runs → All (λ x. x < 256) packed → Packs packed plain → length runs ≤ length packed
longest_is_shortest runs packed plain bytes packs longest others_bytes others_pack =
    let most = least-longest runs plain bytes packs longest in
    let fewest = least-packs packed plain others_bytes others_pack in
    omega (arith, most, fewest)
