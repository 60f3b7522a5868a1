-- Records that are freed one after the other are one edit.
use Rattle.cdf_edits.proofs.Common.{AllGiven, AreTiles, Avoids, Distinct, Edit, In, IsGiven, IsSound, List, Mark, Same, Shape, [], ap, arith, either, eqb-true, fixed_size, freeing_marks, given_to, giving_marks, inl, inr, is_in, is_record_type, length, map, nat_le, refl, shape, size_at, subst, sym, tile_lies, true, type_at, uir_type, unused, wholes, ℕ, ◌+◌, ◌==◌, ◌∙◌, ◌∷◌, ◌≡◌, ◌≢◌, ◌≤◌, ◌⊎◌}
use Rattle.cdf_edits.proofs.Space.ActsLeave.{places-sized}
use Rattle.cdf_edits.proofs.Edits.Composing.{head_type, edit_then}
use Rattle.cdf_edits.proofs.Edits.MarkLemmas.{or_cases, Avoids-append}
use Rattle.cdf_edits.proofs.Edits.StepEdits.{gives_edit}

-- ---- other marks, and more records that may have another type

module _ {b now old new : List ℕ} {marks : List Mark} {reborn : List ℕ} (e : Edit b now old new marks reborn) where
  -- what avoids the others avoids these
  pub edit_under : (others : List Mark) → ((m type lo hi : ℕ) → In m old → type_at b m ≡ type → Avoids others type m lo hi → Avoids marks type m lo hi) → Edit b now old new others reborn
  edit_under others avoids = record {
    tiled = e.tiled;
    tiled_now = e.tiled_now;
    longer = e.longer;
    front = e.front;
    sub = e.sub;
    head = e.head;
    part = λ m type lo hi i is heads a fits. e.part m type lo hi i is (avoids m type 0 12 i is heads) (avoids m type lo hi i is a) fits;
    kind = e.kind;
  }

-- nothing changes
pub same_edit : (b records : List ℕ) (marks : List Mark) → AreTiles b 8 (length b) records → Edit b b records records marks []
same_edit b records marks tiled = record {
  tiled = tiled;
  tiled_now = tiled;
  longer = omega arith;
  front = record { each = λ i l u. refl };
  sub = λ m i. i;
  head = λ m i used out. record { each = λ i l u. refl };
  part = λ m type lo hi i is heads a fits. record { each = λ i l u. refl };
  kind = λ m i. inl (i, refl);
}

-- an unused record has the fixed part of its type
pub unused_real : (now records : List ℕ) (m : ℕ) → AreTiles now 8 (length now) records → In m records → type_at now m ≡ uir_type → (is_record_type (type_at now m) ≡ true) × (fixed_size (type_at now m) ≤ size_at now m)
unused_real now records m tiled i t = subst (λ (x : ℕ). (is_record_type x ≡ true) × (fixed_size x ≤ size_at now m)) (sym t) (refl, (tile_lies now 8 (length now) records m tiled i).long)

-- records that stand where they stood have their sizes
pub sizes_by_tiles : (b now : List ℕ) (from from' upto : ℕ) (ts : List ℕ) → from ≡ from' → AreTiles b from upto ts → AreTiles now from' upto ts → (m : ℕ) → In m ts → size_at now m ≡ size_at b m
sizes_by_tiles b now from from' upto [] same old new m i = absurd i
sizes_by_tiles b now from from' upto (t ∷ []) same old new m (inl e) = let x = old.2 in let y = new.2 in subst (λ (p : ℕ). size_at now p ≡ size_at b p) (sym e) (omega arith)
sizes_by_tiles b now from from' upto (t ∷ []) same old new m (inr i) = absurd i
sizes_by_tiles b now from from' upto (t ∷ u ∷ more) same old new m (inl e) = let x = old.2.0 in let y = new.2.0 in subst (λ (p : ℕ). size_at now p ≡ size_at b p) (sym e) (omega arith)
sizes_by_tiles b now from from' upto (t ∷ u ∷ more) same old new m (inr i) = sizes_by_tiles b now (from + size_at b t) (from' + size_at now t) upto (u ∷ more) (sym old.2.0 ∙ new.2.0) old.2 new.2 m i

-- ---- a list of records is freed

-- records of these types, none twice
pub record MayFree (b : List ℕ) (types places : List ℕ) : Type 0 where
  pub stand : (m : ℕ) → In m places → In m (shape b).records
  pub typed : (m : ℕ) → In m places → is_in (type_at b m) types ≡ true
  pub used : (m : ℕ) → In m places → type_at b m ≢ uir_type
  pub once : Distinct places

wholes-more : (types places : List ℕ) (place limit type m lo hi : ℕ) → Avoids (wholes types (place ∷ places) limit) type m lo hi → Avoids (wholes types places limit) type m lo hi
wholes-more [] places place limit type m lo hi a = tt
wholes-more (t ∷ types) places place limit type m lo hi a = ((λ same lies. a.0 same (inr lies)), wholes-more types places place limit type m lo hi a.1)

-- a record of one of the types is whole in them
wholes-one : (types places : List ℕ) (limit type m lo hi : ℕ) → Avoids (wholes types places limit) type m lo hi → is_in type types ≡ true → In m places → (hi ≤ 0) ⊎ (0 + limit ≤ lo)
wholes-one [] places limit type m lo hi a typed i = absurd cc
wholes-one (t ∷ types) places limit type m lo hi a typed i = elim (or_cases (type == t) (is_in type types) typed) [
  | inl x ↦ a.0 (eqb-true type t x) i
  | inr x ↦ wholes-one types places limit type m lo hi a.1 x i
]

within_limit : (hi lo size limit : ℕ) → size ≤ limit → (hi ≤ 0) ⊎ (0 + limit ≤ lo) → (hi ≤ 0) ⊎ (0 + size ≤ lo)
within_limit hi lo size limit fits (inl x) = inl x
within_limit hi lo size limit fits (inr x) = inr (omega arith)

module _ {b mid : List ℕ} {place : ℕ} (sound : IsSound b (shape b)) (given : IsGiven b mid (shape b) (shape mid) place) (inside : In place (shape b).records) where
  abbrev s : Shape
  s = shape b

  pub one_given : Edit b mid s.records s.records (giving_marks s.unused (type_at b place) place (size_at b place)) (place ∷ [])
  one_given = gives_edit b mid s (shape mid) place (type_at b place) sound.has_shape inside refl given.0

  pub others_still : (m : ℕ) → In m s.records → type_at b m ≢ uir_type → m ≢ place → Same b mid (m + 0) (m + 12)
  others_still m i used other = one_given.head m i used (λ r. elim r [ inl e ↦ other e | inr none ↦ none ])

  pub sizes_stay : (m : ℕ) → In m s.records → size_at mid m ≡ size_at b m
  sizes_stay = sizes_by_tiles b mid 8 8 (length b) s.records refl sound.has_shape.tiled (subst (λ (n : ℕ). AreTiles mid 8 n s.records) given.0.length_is (subst (AreTiles mid 8 (length mid)) given.0.records_stay given.0.space.tiled))

  -- the list may have it now
  pub listed_now : (m : ℕ) → In m (shape mid).unused → (m ≡ place) ⊎ In m s.unused
  listed_now m i = go (size_at b place) (ap (λ (pairs : List (ℕ × ℕ)). map (λ (pair : ℕ × ℕ). pair.0) pairs) given.0.list_is)
    where
      go : (size : ℕ) → map (λ (pair : ℕ × ℕ). pair.0) (unused mid (shape mid)) ≡ map (λ (pair : ℕ × ℕ). pair.0) (given_to (unused b s) place size) → (m ≡ place) ⊎ In m s.unused
      go size e = elim (either (nat_le 28 size)) [
        | inl q ↦ let i' : In m (place ∷ s.unused) = subst (In m) (ap (λ (xs : List ℕ). place ∷ xs) (places-sized b s.unused)) (rw q at (subst (In m) (sym (places-sized mid (shape mid).unused) ∙ e) i)) in i'
        | inr q ↦ inr (subst (In m) (places-sized b s.unused) (rw q at (subst (In m) (sym (places-sized mid (shape mid).unused) ∙ e) i)))
      ]

-- the next ones stand in the image that is left
pub still_free : {b mid : List ℕ} {place : ℕ} (sound : IsSound b (shape b)) (given : IsGiven b mid (shape b) (shape mid) place) (types more : List ℕ) → MayFree b types (place ∷ more) → MayFree mid types more
still_free {b = b} {mid = mid} {place = place} sound given types more may =
    let apart_from = λ (m : ℕ) (i : In m more) (e : m ≡ place). may.once.0 (subst (λ (x : ℕ). In x more) e i) in
    let type = λ (m : ℕ) (i : In m more). head_type b mid m (others_still sound given (may.stand place (inl refl)) m (may.stand m (inr i)) (may.used m (inr i)) (apart_from m i)) in
    record {
      stand = λ m i. subst (In m) (sym given.0.records_stay) (may.stand m (inr i));
      typed = λ m i. ap (λ (t : ℕ). is_in t types) (type m i) ∙ may.typed m (inr i);
      used = λ m i u. may.used m (inr i) (sym (type m i) ∙ u);
      once = may.once.1;
    }

pub all_given_edit : (b now : List ℕ) (types places : List ℕ) → IsSound b (shape b) → MayFree b types places → AllGiven b now places → Edit b now (shape b).records (shape b).records (freeing_marks types (shape b).unused places (length b)) places
all_given_edit b now types [] sound may same = subst (λ (x : List ℕ). Edit b x (shape b).records (shape b).records (freeing_marks types (shape b).unused [] (length b)) []) (sym same) (same_edit b (shape b).records _ sound.has_shape.tiled)
all_given_edit b now types (place ∷ more) sound may all =
    let mid = all.0 in
    let given = all.1.0 in
    let inside = may.stand place (inl refl) in
    let l = tile_lies b 8 (length b) (shape b).records place sound.has_shape.tiled inside in
    let long : length mid ≡ length b = given.0.length_is in
    let first = one_given sound given inside in
    let rest = all_given_edit mid now types more given.1 (still_free sound given types more may) all.1.1 in
    let second = subst (λ (r : List ℕ). Edit mid now r r (freeing_marks types (shape mid).unused more (length mid)) more) given.0.records_stay rest in
    let both = edit_then first second in
    edit_under both (freeing_marks types (shape b).unused (place ∷ more) (length b)) (λ m type lo hi i is a.
    Avoids-append (giving_marks (shape b).unused (type_at b place) place (size_at b place)) (freeing_marks types (shape mid).unused more (length mid)) type m lo hi (
      a.0,
      (
        a.1.0,
        (
          (λ same lies. elim lies [
            | inl e ↦ within_limit hi lo (size_at b place) (length b) (omega (arith, l.high)) (wholes-one types (place ∷ more) (length b) type m lo hi a.1.1 (ap (λ (t : ℕ). is_in t types) same ∙ may.typed place (inl refl)) (inl e))
            | inr none ↦ absurd none
          ]),
          tt,
        ),
      ),
    ) (
      a.0,
      (
        (λ same lies. elim (listed_now sound given inside m lies) [
          | inl e ↦ absurd (may.used place (inl refl) (ap (type_at b) (sym e) ∙ is ∙ same))
          | inr j ↦ a.1.0 same j
        ]),
        subst (λ (n : ℕ). Avoids (wholes types more n) type m lo hi) (sym long) (wholes-more types more place (length b) type m lo hi a.1.1),
      ),
    ))
