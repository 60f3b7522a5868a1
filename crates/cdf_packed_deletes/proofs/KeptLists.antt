-- Which leaves of an index keep some of their records, where one or two of them do or none, and what room these need.
use Rattle.std.proofs.Common.{Bool, List, None, Some, [], ap, arith, false, inl, inr, map, refl, suc, sym, true, ℕ, ◌*◌, ◌+◌, ◌<◌, ◌∙◌, ◌∷◌, ◌≡◌, ◌≢◌, ◌≤◌, find, ◌++◌}
use Rattle.std.specs.List.{filter}
use Rattle.std.proofs.lemmas.List.Sums.{sum_by-cons}
use Rattle.cdf_edits.proofs.Common.{either}
use Rattle.cdf_edits.proofs.Edits.LeafPieces.{IsOneOf, in_order}
use Rattle.cdf_edits.proofs.Edits.LeafRecords.{Ascending}
use Rattle.cdf_format.specs.Index.{Leaf}
use Rattle.cdf_format.specs.Records.{linked_size, vvr_bytes}
use Rattle.cdf_format.specs.VariableFields.{records_of_leaf}
use Rattle.cdf_packed_deletes.specs.Closing.{keeping_room}
use Rattle.std.specs.Prelude.{max}

module _ (p : Leaf → Bool) where
  pub filter_none : (ls : List Leaf) → ((l : Leaf) → IsOneOf ls l → p l ≡ false) → filter p ls ≡ []
  filter_none [] f = refl
  filter_none (y ∷ ys) f = rw (f y (inl refl)) (filter_none ys (λ l i. f l (inr i)))

  pub find_none : (ls : List Leaf) → ((l : Leaf) → IsOneOf ls l → p l ≡ false) → find p ls ≡ None
  find_none [] f = refl
  find_none (y ∷ ys) f = rw (f y (inl refl)) (find_none ys (λ l i. f l (inr i)))

  later : (y : Leaf) (upto : ℕ) (ys : List Leaf) → Ascending y.first upto (y ∷ ys) → (l : Leaf) → IsOneOf ys l → y.first < l.first
  later y upto ys a l i = let r = (in_order (suc y.last) upto ys a.3 l i).from in omega (arith, r, a.1)

  from_itself : (low upto : ℕ) (y : Leaf) (ys : List Leaf) → Ascending low upto (y ∷ ys) → Ascending y.first upto (y ∷ ys)
  from_itself low upto y ys a = (omega arith, a.1, a.2, a.3)

  -- one has it
  pub filter_one : (low upto : ℕ) (ls : List Leaf) → Ascending low upto ls → (x : Leaf) → IsOneOf ls x → p x ≡ true → ((l : Leaf) → IsOneOf ls l → l.first ≢ x.first → p l ≡ false) → filter p ls ≡ x ∷ []
  filter_one low upto [] a x i t f = absurd i
  filter_one low upto (y ∷ ys) a x (inl q) t f =
      let here : p y ≡ true = ap p q ∙ t in
      let none = filter_none ys (λ l j. f l (inr j) (λ e. (let lt = later y upto ys (from_itself low upto y ys a) l j in let s = ap (λ (z : Leaf). z.first) q in omega (arith, lt, s, e)))) in
      rw here (λ k. q k ∷ none k)
  filter_one low upto (y ∷ ys) a x (inr i) t f =
      let lt = later y upto ys (from_itself low upto y ys a) x i in
      rw (f y (inl refl) (λ e. omega (arith, lt, e))) (filter_one (suc y.last) upto ys a.3 x i t (λ l j. f l (inr j)))

  pub find_one : (low upto : ℕ) (ls : List Leaf) → Ascending low upto ls → (x : Leaf) → IsOneOf ls x → p x ≡ true → ((l : Leaf) → IsOneOf ls l → l.first ≢ x.first → p l ≡ false) → find p ls ≡ Some x
  find_one low upto [] a x i t f = absurd i
  find_one low upto (y ∷ ys) a x (inl q) t f = let here : p y ≡ true = ap p q ∙ t in rw here (ap Some q)
  find_one low upto (y ∷ ys) a x (inr i) t f =
      let lt = later y upto ys (from_itself low upto y ys a) x i in
      rw (f y (inl refl) (λ e. omega (arith, lt, e))) (find_one (suc y.last) upto ys a.3 x i t (λ l j. f l (inr j)))

  -- two have it
  pub filter_two : (low upto : ℕ) (ls : List Leaf) → Ascending low upto ls → (x z : Leaf) → IsOneOf ls x → IsOneOf ls z → x.first < z.first → p x ≡ true → p z ≡ true → ((l : Leaf) → IsOneOf ls l → l.first ≢ x.first → l.first ≢ z.first → p l ≡ false) → filter p ls ≡ x ∷ z ∷ []
  filter_two low upto [] a x z i j less t s f = absurd i
  filter_two low upto (y ∷ ys) a x z (inl q) (inl r) less t s f = (let e = ap (λ (w : Leaf). w.first) q in let g = ap (λ (w : Leaf). w.first) r in absurd (omega (arith, e, g, less)))
  filter_two low upto (y ∷ ys) a x z (inl q) (inr j) less t s f =
      let here : p y ≡ true = ap p q ∙ t in
      let rest = filter_one (suc y.last) upto ys a.3 z j s (λ l k ne. f l (inr k) (λ e. (let lt = later y upto ys (from_itself low upto y ys a) l k in let g = ap (λ (w : Leaf). w.first) q in omega (arith, lt, g, e))) ne) in
      rw here (λ k. q k ∷ rest k)
  filter_two low upto (y ∷ ys) a x z (inr i) (inl r) less t s f = (let lt = later y upto ys (from_itself low upto y ys a) x i in let g = ap (λ (w : Leaf). w.first) r in absurd (omega (arith, lt, g, less)))
  filter_two low upto (y ∷ ys) a x z (inr i) (inr j) less t s f =
      let lt = later y upto ys (from_itself low upto y ys a) x i in
      let gt = later y upto ys (from_itself low upto y ys a) z j in
      rw (f y (inl refl) (λ e. omega (arith, lt, e)) (λ e. omega (arith, gt, e))) (filter_two (suc y.last) upto ys a.3 x z i j less t s (λ l k. f l (inr k)))

-- ---- room

abbrev pub leaf_room : ℕ → Leaf → ℕ
leaf_room size l = max linked_size (vvr_bytes (records_of_leaf l * size))

room_cons : (size : ℕ) (l : Leaf) (ls : List Leaf) → keeping_room size (l ∷ ls) ≡ leaf_room size l + keeping_room size ls
room_cons size l ls = sum_by-cons (λ x. x) (leaf_room size l) (map (leaf_room size) ls)

pub room_none : (size : ℕ) → keeping_room size [] ≡ 0
room_none size = refl

pub room_last : (size : ℕ) (ls : List Leaf) (l : Leaf) → keeping_room size (ls ++ l ∷ []) ≡ keeping_room size ls + leaf_room size l
room_last size [] l = room_cons size l [] ∙ omega (arith, room_none size)
room_last size (y ∷ ys) l = let a = room_cons size y (ys ++ l ∷ []) in let b = room_cons size y ys in let c = room_last size ys l in omega (arith, a, b, c)

module _ (p : Leaf → Bool) (size : ℕ) where
  -- one that has it has room, and two that have it have room together
  pub room_one : (ls : List Leaf) (x : Leaf) → IsOneOf ls x → p x ≡ true → leaf_room size x ≤ keeping_room size (filter p ls)
  room_one [] x i t = absurd i
  room_one (y ∷ ys) x (inl q) t =
      let here : p y ≡ true = ap p q ∙ t in
      let same : leaf_room size y ≡ leaf_room size x = ap (leaf_room size) q in
      rw here (let c = room_cons size y (filter p ys) in omega (arith, c, same))
  room_one (y ∷ ys) x (inr i) t = elim (either (p y)) [
    | inl s ↦ rw s (let c = room_cons size y (filter p ys) in let r = room_one ys x i t in omega (arith, c, r))
    | inr s ↦ rw s (room_one ys x i t)
  ]

  pub room_two : (ls : List Leaf) (x z : Leaf) → IsOneOf ls x → IsOneOf ls z → x.first ≢ z.first → p x ≡ true → p z ≡ true → leaf_room size x + leaf_room size z ≤ keeping_room size (filter p ls)
  room_two [] x z i j ne t s = absurd i
  room_two (y ∷ ys) x z (inl q) (inl r) ne t s = absurd (ne (ap (λ (w : Leaf). w.first) (sym q ∙ r)))
  room_two (y ∷ ys) x z (inl q) (inr j) ne t s =
      let here : p y ≡ true = ap p q ∙ t in
      let same : leaf_room size y ≡ leaf_room size x = ap (leaf_room size) q in
      rw here (let c = room_cons size y (filter p ys) in let r = room_one ys z j s in omega (arith, c, r, same))
  room_two (y ∷ ys) x z (inr i) (inl q) ne t s =
      let here : p y ≡ true = ap p q ∙ s in
      let same : leaf_room size y ≡ leaf_room size z = ap (leaf_room size) q in
      rw here (let c = room_cons size y (filter p ys) in let r = room_one ys x i t in omega (arith, c, r, same))
  room_two (y ∷ ys) x z (inr i) (inr j) ne t s = elim (either (p y)) [
    | inl g ↦ rw g (let c = room_cons size y (filter p ys) in let r = room_two ys x z i j ne t s in omega (arith, c, r))
    | inr g ↦ rw g (room_two ys x z i j ne t s)
  ]
