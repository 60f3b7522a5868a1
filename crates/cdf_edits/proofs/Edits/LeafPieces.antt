-- Leaves in order, each with its place: how one is found, and the bytes of its records where it is not packed.
use Rattle.cdf_edits.proofs.Common.{Bool, Each, In, Leaf, List, None, Some, [], ap, arith, both, covers, drop, drop-drop, drop-take, either, eq-eqb, false, find, if◌then◌else◌, inl, inr, le-leb, le_of, leb, lt-leb, ne_eqb, plain_bytes, range, record_bytes, record_number_limit, refl, same_Some, shared, subst, suc, sym, take-take, times, true, zero, ℕ, ◌*◌, ◌+◌, ◌-◌, ◌<◌, ◌==◌, ◌∙◌, ◌∷◌, ◌≡◌, ◌≤◌, ◌⊎◌}
use Rattle.std.proofs.Common.{take}
use Rattle.std.specs.Prelude.{max}
use Rattle.cdf_edits.proofs.Edits.InRecords.{places_of}
use Rattle.cdf_edits.proofs.Edits.LeafRecords.{Ascending, count_is}
use Rattle.cdf_edits.proofs.Frame.OwnersApart.{times-in}
pub use Rattle.cdf_edits.specs.Edits.Standing.{IsOneOf, record_place}

-- ---- what holds of each

pub of_each : (P : Leaf → Type 0) (leaves : List Leaf) (l : Leaf) → Each P leaves → IsOneOf leaves l → P l
of_each P [] l each i = absurd i
of_each P (x ∷ more) l each (inl q) = subst P q each.0
of_each P (x ∷ more) l each (inr i) = of_each P more l each.1 i

pub each_of : (P : Leaf → Type 0) (leaves : List Leaf) → ((l : Leaf) → IsOneOf leaves l → P l) → Each P leaves
each_of P [] f = tt
each_of P (x ∷ more) f = (f x (inl refl), each_of P more (λ l i. f l (inr i)))

pub record InOrder (low upto : ℕ) (l : Leaf) : Type 0 where
  pub from : low ≤ l.first
  pub ordered : l.first ≤ l.last
  pub before : l.last < upto

pub in_order : (low upto : ℕ) (leaves : List Leaf) → Ascending low upto leaves → (l : Leaf) → IsOneOf leaves l → InOrder low upto l
in_order low upto [] a l i = absurd i
in_order low upto (x ∷ more) a l (inl q) = subst (InOrder low upto) q (record { from = a.0; ordered = a.1; before = a.2 })
in_order low upto (x ∷ more) a l (inr i) =
    let r = in_order (suc x.last) upto more a.3 l i in
    let a0 = a.0 in
    let a1 = a.1 in
    let f = r.from in
    record { from = omega arith; ordered = r.ordered; before = r.before }

-- ---- found by a record, by First and by a place

pub covers_from : (k : ℕ) (l : Leaf) → l.first ≤ k → k ≤ l.last → covers k (range l.first l.last) ≡ true
covers_from k l a c = rw (le-leb l.first k a, le-leb k l.last c) refl

pub covers_within : (k : ℕ) (l : Leaf) → covers k (range l.first l.last) ≡ true → (l.first ≤ k) × (k ≤ l.last)
covers_within k l e = let p = both (leb l.first k) (leb k l.last) e in (le_of l.first k p.0, le_of k l.last p.1)

ends_before : (k : ℕ) (l : Leaf) → l.last < k → covers k (range l.first l.last) ≡ false
ends_before k l lt = elim (either (leb l.first k)) [ inl t ↦ rw (t, lt-leb k l.last lt) refl | inr t ↦ rw t refl ]

pub find_covering : (k low upto : ℕ) (leaves : List Leaf) → Ascending low upto leaves → (l : Leaf) → IsOneOf leaves l → l.first ≤ k → k ≤ l.last → find (λ (leaf : Leaf). covers k (range leaf.first leaf.last)) leaves ≡ Some l
find_covering k low upto [] a l i f t = absurd i
find_covering k low upto (x ∷ more) a l (inl q) f t = let here : covers k (range x.first x.last) ≡ true = subst (λ (y : Leaf). covers k (range y.first y.last) ≡ true) (sym q) (covers_from k l f t) in rw here (ap Some q)
find_covering k low upto (x ∷ more) a l (inr i) f t = let r = (in_order (suc x.last) upto more a.3 l i).from in rw (ends_before k x (omega arith)) (find_covering k (suc x.last) upto more a.3 l i f t)

pub find_first : (low upto : ℕ) (leaves : List Leaf) → Ascending low upto leaves → (l : Leaf) → IsOneOf leaves l → find (λ (old : Leaf). old.first == l.first) leaves ≡ Some l
find_first low upto [] a l i = absurd i
find_first low upto (x ∷ more) a l (inl q) = rw (eq-eqb x.first l.first (ap (λ (y : Leaf). y.first) q)) (ap Some q)
find_first low upto (x ∷ more) a l (inr i) =
    let r = (in_order (suc x.last) upto more a.3 l i).from in
    let a1 = a.1 in
    rw (ne_eqb x.first l.first (λ e. absurd (omega arith))) (find_first (suc x.last) upto more a.3 l i)

pub found_in : (test : Leaf → Bool) (leaves : List Leaf) (l : Leaf) → find test leaves ≡ Some l → IsOneOf leaves l × (test l ≡ true)
found_in test [] l e = absurd (none_is e)
  where
    none_is : {x : Leaf} → None ≡ Some x → ⊥
    none_is e = cc
found_in test (x ∷ more) l e = elim (either (test x)) [
  | inl t ↦ let is : Some x ≡ Some l = rw t at e in let same = same_Some x l is in (inl same, ap test (sym same) ∙ t)
  | inr t ↦ let rest : find test more ≡ Some l = rw t at e in let r = found_in test more l rest in (inr r.0, r.1)
]

pub place_in : (leaves : List Leaf) (l : Leaf) → IsOneOf leaves l → In l.place (places_of leaves)
place_in [] l i = absurd i
place_in (x ∷ more) l (inl q) = inl (ap (λ (y : Leaf). y.place) (sym q))
place_in (x ∷ more) l (inr i) = inr (place_in more l i)

pub leaf_at : (leaves : List Leaf) (m : ℕ) → In m (places_of leaves) → (l : Leaf) × (IsOneOf leaves l × (m ≡ l.place))
leaf_at [] m i = absurd i
leaf_at (x ∷ more) m (inl q) = (x, (inl refl, q))
leaf_at (x ∷ more) m (inr i) = let r = leaf_at more m i in (r.0, (inr r.1.0, r.1.1))

-- no two leaves have one place
abbrev pub PlacedApart : List Leaf → Type 0
PlacedApart leaves = (m : ℕ) → times m (places_of leaves) ≤ 1

more_apart : (x : Leaf) (more : List Leaf) → PlacedApart (x ∷ more) → PlacedApart more
more_apart x more once m = by (m == x.place) (times m (places_of more)) (once m)
  where
    by : (p : Bool) (t : ℕ) → (if p then suc t else t) ≤ 1 → t ≤ 1
    by true t l = omega arith
    by false t l = l

not_again : (x : Leaf) (more : List Leaf) (l : Leaf) → PlacedApart (x ∷ more) → IsOneOf more l → x.place ≡ l.place → ⊥
not_again x more l once i e =
    let there = times-in l.place (places_of more) (place_in more l i) in
    let twice : times l.place (places_of (x ∷ more)) ≡ suc (times l.place (places_of more)) = rw (eq-eqb l.place x.place (sym e)) refl in
    clash (times l.place (places_of (x ∷ more))) (times l.place (places_of more)) (once l.place) twice there
  where
    clash : (n t : ℕ) → n ≤ 1 → n ≡ suc t → 1 ≤ t → ⊥
    clash n t a c d = omega arith

pub find_place : (leaves : List Leaf) → PlacedApart leaves → (l : Leaf) → IsOneOf leaves l → find (λ (leaf : Leaf). leaf.place == l.place) leaves ≡ Some l
find_place [] once l i = absurd i
find_place (x ∷ more) once l (inl q) = rw (eq-eqb x.place l.place (ap (λ (y : Leaf). y.place) q)) (ap Some q)
find_place (x ∷ more) once l (inr i) = rw (ne_eqb x.place l.place (not_again x more l once i)) (find_place more (more_apart x more once) l i)

pub one_place : (leaves : List Leaf) → PlacedApart leaves → (l l' : Leaf) → IsOneOf leaves l → IsOneOf leaves l' → l.place ≡ l'.place → l ≡ l'
one_place leaves once l l' i i' e = same_Some l l' (sym (find_place leaves once l i) ∙ ap (λ (p : ℕ). find (λ (leaf : Leaf). leaf.place == p) leaves) e ∙ find_place leaves once l' i')

-- ---- the bytes of a record

pub times_le : (x y n : ℕ) → x ≤ y → x * n ≤ y * n
times_le zero y n l = omega arith
times_le (suc x) zero n l = absurd (omega arith)
times_le (suc x) (suc y) n l = let r = times_le x y n (omega arith) in omega arith

part_fits : (k n size : ℕ) → k < n → size ≤ n * size - k * size
part_fits k zero size lt = absurd (omega arith)
part_fits zero (suc n) size lt = omega arith
part_fits (suc k) (suc n) size lt = let r = part_fits k n size (omega arith) in omega arith

part_ends : (k n size : ℕ) → k < n → k * size + (n * size - k * size) ≡ n * size
part_ends zero n size lt = omega arith
part_ends (suc k) zero size lt = absurd (omega arith)
part_ends (suc k) (suc n) size lt = let r = part_ends k n size (omega arith) in omega arith

-- a part of some bytes stands where it is read from
part_is : (b : List ℕ) (place k n size : ℕ) → k < n → take size (drop (place + k * size) b) ≡ take size (drop (k * size) (take (n * size) (drop place b)))
part_is b place k n size lt =
    let whole = drop-take (k * size) (n * size - k * size) (drop place b) in
    let same = ap (λ (m : ℕ). drop (k * size) (take m (drop place b))) (part_ends k n size lt) in
    ap (take size) (sym (drop-drop (k * size) place b)) ∙ sym (take-take size (n * size - k * size) (drop (k * size) (drop place b)) (part_fits k n size lt)) ∙ ap (take size) (sym whole ∙ same)

pub plain_piece : (b : List ℕ) (vdr size k : ℕ) (l : Leaf) → l.packed ≡ false → l.last ≤ record_number_limit → record_bytes b vdr ≡ size → l.first ≤ k → k ≤ l.last → take size (drop ((k - l.first) * size) (plain_bytes b vdr l)) ≡ take size (drop (record_place l size k) b)
plain_piece b vdr size k l plain small is f t =
    let count = count_is l small (omega arith) in
    let bytes : plain_bytes b vdr l ≡ take ((l.last + 1 - l.first) * size) (drop (l.place + 12) b) = rw (plain, count, is) refl in
    let place : l.place + (12 + (k - l.first) * size) ≡ (l.place + 12) + (k - l.first) * size = omega arith in
    ap (λ (xs : List ℕ). take size (drop ((k - l.first) * size) xs)) bytes ∙ sym (part_is b (l.place + 12) (k - l.first) (l.last + 1 - l.first) size (omega arith)) ∙ ap (λ (n : ℕ). take size (drop n b)) (sym place)

-- ---- the records of a leaf that are written

-- they lie in it
pub written_fits : (first n : ℕ) (l : Leaf) (size : ℕ) → l.first ≤ l.last → 0 < shared first n (range l.first l.last) → 12 + (max first l.first - l.first) * size + shared first n (range l.first l.last) * size ≤ 12 + (l.last + 1 - l.first) * size
written_fits first n l size le some = let r = times_le (max first l.first - l.first + shared first n (range l.first l.last)) (l.last + 1 - l.first) size (inside first n l.first l.last le some) in join (max first l.first - l.first) (shared first n (range l.first l.last)) ((l.last + 1 - l.first) * size) r
  where
    inside : (first n f t : ℕ) → f ≤ t → 0 < shared first n (range f t) → max first f - f + shared first n (range f t) ≤ t + 1 - f
    inside first n f t le some = omega arith

    join : (x y z : ℕ) → (x + y) * size ≤ z → 12 + x * size + y * size ≤ 12 + z
    join x y z l = omega arith

-- one that is not written is apart from them
pub unwritten_apart : (first n k : ℕ) (l : Leaf) (size : ℕ) → l.first ≤ k → k ≤ l.last → (k < first) ⊎ (n < k) → 0 < shared first n (range l.first l.last)
    → (12 + (k - l.first) * size + size ≤ 12 + (max first l.first - l.first) * size) ⊎ (12 + (max first l.first - l.first) * size + shared first n (range l.first l.last) * size ≤ 12 + (k - l.first) * size)
unwritten_apart first n k l size f t (inl lt) some = let r = times_le (suc (k - l.first)) (max first l.first - l.first) size (ahead first k l.first f lt) in inl (omega arith)
  where
    ahead : (first k f : ℕ) → f ≤ k → k < first → suc (k - f) ≤ max first f - f
    ahead first k f le lt = omega arith
unwritten_apart first n k l size f t (inr lt) some = let r = times_le (max first l.first - l.first + shared first n (range l.first l.last)) (k - l.first) size (behind first n k l.first l.last f t lt some) in inr (join (max first l.first - l.first) (shared first n (range l.first l.last)) ((k - l.first) * size) r)
  where
    behind : (first n k f t : ℕ) → f ≤ k → k ≤ t → n < k → 0 < shared first n (range f t) → max first f - f + shared first n (range f t) ≤ k - f
    behind first n k f t a c lt some = omega arith

    join : (x y z : ℕ) → (x + y) * size ≤ z → 12 + x * size + y * size ≤ 12 + z
    join x y z l = omega arith
