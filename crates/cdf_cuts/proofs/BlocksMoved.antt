-- The records of a block that are left close up: which bytes stand where by then.
use Rattle.cdf_cuts.proofs.Common.{Kept, Leaf, List, ap, arith, cases_eq, cases_lt, inl, inr, length, nat_tests, refl, size_at, subst, suc, sym, zero, ℕ, ◌*◌, ◌+◌, ◌-◌, ◌<◌, ◌∙◌, ◌∷◌, ◌≡◌, ◌≢◌, ◌≤◌, ◌⊎◌}
use Rattle.std.proofs.Common.{drop, take}
use Rattle.std.proofs.Math.Seq.{drop-cons}
use Rattle.std.specs.Prelude.{max}
use Rattle.cdf_edits.proofs.Common.{byte, record_number_limit}
use Rattle.cdf_edits.proofs.Edits.LeafPieces.{IsOneOf, find_covering, one_place, PlacedApart, record_place, times_le}
use Rattle.cdf_edits.proofs.Edits.LeafRecords.{Ascending}
use Rattle.cdf_edits.proofs.Edits.PlainLeaves.{PlainLeaf}
use Rattle.cdf_edits.specs.Index.Blocks.{fallen}
use Rattle.cdf_cuts.proofs.ClosedUp.{fallen_high, fallen_low}
use Rattle.cdf_cuts.specs.Moving.{ClosesUp, HasLater, JoinsFront, LeafStays, OneJoins}

-- bytes that stand elsewhere are read there
pub piece_shifted : (n x y : ℕ) (now b : List ℕ) → x + n ≤ length now → y + n ≤ length b → ((i : ℕ) → i < n → byte now (x + i) ≡ byte b (y + i)) → take n (drop x now) ≡ take n (drop y b)
piece_shifted zero x y now b p q f = refl
piece_shifted (suc n) x y now b p q f =
    let z : x + 0 ≡ x = omega arith in
    let w : y + 0 ≡ y = omega arith in
    let here : byte now x ≡ byte b y = rw (z, w) at (f 0 (omega arith)) in
    let next : (i : ℕ) → i < n → byte now (suc x + i) ≡ byte b (suc y + i) = λ i lt. (let z : suc x + i ≡ x + suc i = omega arith in let w : suc y + i ≡ y + suc i = omega arith in rw (z, w) (f (suc i) (omega arith))) in
    let rest = piece_shifted n (suc x) (suc y) now b (omega arith) (omega arith) next in
    ap (take (suc n)) (drop-cons now x 0 (omega arith)) ∙ (λ i. here i ∷ rest i) ∙ sym (ap (take (suc n)) (drop-cons b y 0 (omega arith)))

pub times_add : (x y n : ℕ) → (x + y) * n ≡ x * n + y * n
times_add zero y n = let z : 0 + y ≡ y = omega arith in rw z (omega arith)
times_add (suc x) y n = let z : suc x + y ≡ suc (x + y) = omega arith in let r = times_add x y n in rw z (omega arith)

module _ (first last : ℕ) (order : first ≤ last) where
  abbrev fell : ℕ → ℕ
  fell = fallen first last

  -- ---- a block in which nothing is moved

  flat : (f l j : ℕ) → f ≤ j → j ≤ l → (j < first) ⊎ (last < j) → (l ≤ last) ⊎ (last < f) → fell j - fell f ≡ j - f
  flat f l j low high (inl lt) side = omega (arith, fallen_low first last order j (omega arith), fallen_low first last order f (omega arith))
  flat f l j low high (inr lt) (inl le) = absurd (omega arith)
  flat f l j low high (inr lt) (inr gt) = omega (arith, fallen_high first last order j lt, fallen_high first last order f gt)

  pub still : {b now : List ℕ} {size : ℕ} {l : Leaf} → PlainLeaf b size l → ((i : ℕ) → i < size_at b l.place → byte now (l.place + i) ≡ byte b (l.place + i)) → (l.last ≤ last) ⊎ (last < l.first) → LeafStays b now size first last l
  still {b = b} {now = now} {size = size} {l = l} x same side = record {
    head = λ i lt. same i (omega (arith, x.room));
    fallen_there = λ j low high out i lt.
        let e = flat l.first l.last j low high out side in
        let fit = times_le (suc (j - l.first)) (l.last + 1 - l.first) size (omega arith) in
        let at : l.place + (12 + (fell j - fell l.first) * size) + i ≡ l.place + (12 + (j - l.first) * size + i) = ap (λ (n : ℕ). l.place + (12 + n * size) + i) e ∙ omega arith in
        let was : record_place l size j + i ≡ l.place + (12 + (j - l.first) * size + i) = omega arith in
        ap (byte now) at ∙ same (12 + (j - l.first) * size + i) (omega (arith, fit, x.room)) ∙ ap (byte b) (sym was);
    spare = λ i low lt. same i lt;
    apart = λ out i lt. same i lt;
  }

  -- ---- the block in which later records join

  pub joined : {b mid now : List ℕ} {size : ℕ} {l : Leaf} → PlainLeaf b size l → length mid ≡ length b → l.place + size_at b l.place ≤ length b → ((i : ℕ) → i < size_at b l.place → byte mid (l.place + i) ≡ byte b (l.place + i)) → HasLater last l → JoinsFront mid now size first last l → LeafStays b now size first last l
  joined {b = b} {mid = mid} {now = now} {size = size} {l = l} x long inside same has m =
      let r = has.reaches in
      let t = has.later in
      let to : ℕ = max first l.first - l.first in
      let all = times_add to (l.last - last) size in
      let whole = times_le (to + (l.last - last)) (l.last + 1 - l.first) size (omega arith) in
      let many : fell (l.last + 1) - fell l.first ≡ to + (l.last - last) = elim (cases_lt l.first first) [
        | inl lt ↦ omega (arith, fallen_high first last order (l.last + 1) (omega arith), fallen_low first last order l.first (omega arith))
        | inr ge ↦ omega (arith, fallen_high first last order (l.last + 1) (omega arith), grind_first l.first ge r)
      ] in
      record {
        head = λ i lt. m.others (l.place + i) (omega (arith, long, inside, x.room)) (inl (omega arith)) ∙ same i (omega (arith, x.room));
        fallen_there = λ j low high out i lt.
            let fit = times_le (suc (j - l.first)) (l.last + 1 - l.first) size (omega arith) in
            elim out [
              | inl before ↦
                  let e : fell j - fell l.first ≡ j - l.first = omega (arith, fallen_low first last order j (omega arith), fallen_low first last order l.first (omega arith)) in
                  let ahead = times_le (suc (j - l.first)) to size (omega arith) in
                  let at : l.place + (12 + (fell j - fell l.first) * size) + i ≡ l.place + (12 + (j - l.first) * size + i) = ap (λ (n : ℕ). l.place + (12 + n * size) + i) e ∙ omega arith in
                  let was : record_place l size j + i ≡ l.place + (12 + (j - l.first) * size + i) = omega arith in
                  ap (byte now) at ∙ m.others (l.place + (12 + (j - l.first) * size + i)) (omega (arith, fit, x.room, inside, long)) (inl (omega (arith, ahead))) ∙ same (12 + (j - l.first) * size + i) (omega (arith, fit, x.room)) ∙ ap (byte b) (sym was)
              | inr behind ↦
                  let d : ℕ = j - (last + 1) in
                  let e : fell j - fell l.first ≡ to + d = elim (cases_lt l.first first) [
                    | inl less ↦ omega (arith, fallen_high first last order j behind, fallen_low first last order l.first (omega arith))
                    | inr ge ↦ omega (arith, fallen_high first last order j behind, grind_first l.first ge r)
                  ] in
                  let there = times_add to d size in
                  let were : j - l.first ≡ (last + 1 - l.first) + d = omega arith in
                  let from = ap (λ (n : ℕ). n * size) were ∙ times_add (last + 1 - l.first) d size in
                  let inner = times_le (suc d) (l.last - last) size (omega arith) in
                  let at : l.place + (12 + (fell j - fell l.first) * size) + i ≡ l.place + (12 + to * size) + (d * size + i) = ap (λ (n : ℕ). l.place + (12 + n * size) + i) e ∙ omega (arith, there) in
                  let was : l.place + (12 + (last + 1 - l.first) * size) + (d * size + i) ≡ l.place + (12 + (j - l.first) * size + i) = omega (arith, from) in
                  let is : record_place l size j + i ≡ l.place + (12 + (j - l.first) * size + i) = omega arith in
                  ap (byte now) at ∙ m.moved (d * size + i) (omega (arith, inner)) ∙ ap (byte mid) was ∙ same (12 + (j - l.first) * size + i) (omega (arith, fit, x.room)) ∙ ap (byte b) (sym is)
            ];
        spare = λ i low lt. m.others (l.place + i) (omega (arith, long, inside)) (inr (let n = ap (λ (k : ℕ). k * size) many in omega (arith, n, all, low))) ∙ same i lt;
        apart = λ out. absurd (elim out [ inl lt ↦ omega arith | inr lt ↦ omega arith ]);
      }
    where
      grind_first : (n : ℕ) → first ≤ n → n ≤ last → fell n ≡ first
      grind_first n ge le = grind (arith, nat_tests)

  -- ---- all blocks

  -- a leaf in which nothing joins
  without_later : (l : Leaf) → l.first ≤ l.last → (HasLater last l → ⊥) → (l.last ≤ last) ⊎ (last < l.first)
  without_later l ordered none = elim (cases_lt last l.last) [
    | inl lt ↦ elim (cases_lt last l.first) [ inl gt ↦ inr gt | inr le ↦ absurd (none (record { reaches = le; later = lt })) ]
    | inr le ↦ inl le
  ]

  -- at most one has later records
  same_leaf : (leaves : List Leaf) → Ascending 0 (suc record_number_limit) leaves → (l l' : Leaf) → IsOneOf leaves l → IsOneOf leaves l' → HasLater last l → HasLater last l' → l ≡ l'
  same_leaf leaves ascend l l' i i' h h' =
      let p = find_covering last 0 (suc record_number_limit) leaves ascend l i h.reaches (omega (arith, h.later)) in
      let q = find_covering last 0 (suc record_number_limit) leaves ascend l' i' h'.reaches (omega (arith, h'.later)) in
      let r = sym p ∙ q in
      cc

  module _ {b mid now : List ℕ} {size : ℕ} (leaves : List Leaf) (ascend : Ascending 0 (suc record_number_limit) leaves) (once : PlacedApart leaves) (plain : (l : Leaf) → IsOneOf leaves l → PlainLeaf b size l) (long : length mid ≡ length b) (inside : (l : Leaf) → IsOneOf leaves l → l.place + size_at b l.place ≤ length b)
      (beside : (l l' : Leaf) → IsOneOf leaves l → IsOneOf leaves l' → l.place ≢ l'.place → (l.place + size_at b l.place ≤ l'.place) ⊎ (l'.place + size_at b l'.place ≤ l.place)) where
    outside : (l o : Leaf) → IsOneOf leaves l → IsOneOf leaves o → l.place ≢ o.place → OneJoins mid now size first last o → (n : ℕ) → n < size_at b l.place → byte now (l.place + n) ≡ byte mid (l.place + n)
    outside l o i i' ne j n lt =
        let h = j.has_later in
        let r = h.reaches in
        let t = h.later in
        let to : ℕ = max first o.first - o.first in
        let all = times_add to (o.last - last) size in
        let most = times_le (to + (o.last - last)) (o.last + 1 - o.first) size (omega arith) in
        let room = (plain o i').room in
        j.joins.others (l.place + n) (omega (arith, inside l i, long)) (elim (beside l o i i' ne) [ inl low ↦ inl (omega arith) | inr high ↦ inr (omega (arith, all, most, room)) ])

    pub leaf_stays : ClosesUp mid now size first last leaves → (l : Leaf) → IsOneOf leaves l → Kept b mid l.place → LeafStays b now size first last l
    leaf_stays c l i k =
        let x = plain l i in
        let kept : (n : ℕ) → n < size_at b l.place → byte mid (l.place + n) ≡ byte b (l.place + n) = λ n lt. k.same.each (l.place + n) (omega arith) (omega arith) in
        elim c [
          | inl none ↦ still x (λ n lt. ap (λ (y : List ℕ). byte y (l.place + n)) none.0 ∙ kept n lt) (without_later l x.ordered (none.1 l i))
          | inr one ↦ elim (cases_eq l.place one.0.place) [
            | inl e ↦
                let q : l ≡ one.0 = one_place leaves once l one.0 i one.1.0 e in
                joined x long (inside l i) kept (subst (HasLater last) (sym q) one.1.1.has_later) (subst (JoinsFront mid now size first last) (sym q) one.1.1.joins)
            | inr ne ↦ still x (λ n lt. outside l one.0 i one.1.0 ne one.1.1 n lt ∙ kept n lt) (without_later l x.ordered (λ h. ne (ap (λ (y : Leaf). y.place) (same_leaf leaves ascend l one.0 i one.1.0 h one.1.1.has_later))))
          ]
        ]
