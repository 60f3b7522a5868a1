-- What is freed keeps its bytes behind the links of an unused record.
use Rattle.cdf_edits.proofs.Common.{Act, AllGiven, AreFree, AreTiles, Field, FreedStays, GivenStay, Gives, HasShape, In, IsGiven, IsSound, List, Misses, OutsideFields, Same, Same-part, Shape, [], ap, arith, byte, cases_eq, content, either, eq-eqb, eqb-true, filter-in, first_back_link, gave, giving, giving_marks, inl, inr, is_a-type, le-leb, leb-true, length, linkable-long, links_end, nat_le, owned_records, refl, shape, size_at, subst, sym, tiles_lie_apart, times, times-none, type_at, uir_type, unused_records, with_space, ℕ, ◌+◌, ◌<◌, ◌==◌, ◌∙◌, ◌∷◌, ◌≡◌, ◌≢◌, ◌≤◌}
use Rattle.cdf_edits.proofs.Edits.Composing.{head_type, part}
use Rattle.cdf_edits.proofs.Edits.FreedRecords.{one_given, others_still, sizes_stay}
use Rattle.cdf_edits.proofs.Edits.StaysBut.{StaysBut, part_stays}
use Rattle.cdf_edits.proofs.Edits.StepEdits.{all_marked}
use Rattle.cdf_edits.proofs.Frame.OwnersApart.{times-in, owned-times, file_records, all_attribute_records, all_variable_records}
use Rattle.cdf_edits.proofs.Space.ActsLeave.{each}
use Rattle.cdf_edits.proofs.Space.UsedRecords.{in-filter, filter-says}
use Rattle.cdf_edits.proofs.Frame.Meaning.{Kept, KeptButLink}

end_low : (size : ℕ) → 12 ≤ links_end size
end_low size = elim (either (nat_le 28 size)) [ inl e ↦ rw e (omega arith) | inr e ↦ rw e (omega arith) ]

pub end_long : (size : ℕ) → 28 ≤ size → 28 ≤ links_end size
end_long size long = rw (le-leb 28 size long) (omega arith)

-- a record that is kept, or but for the link to the next one, keeps its bytes behind the links of an unused one
pub behind_kept : {b now : List ℕ} {m : ℕ} → Kept b now m → Same b now (m + links_end (size_at b m)) (m + size_at b m)
behind_kept {b = b} {now = now} {m = m} k = Same-part b now m (m + size_at b m) (m + links_end (size_at b m)) (m + size_at b m) k.same (omega arith) (omega arith)

pub behind_link : {b now : List ℕ} {m : ℕ} → KeptButLink b now m → 28 ≤ size_at b m → Same b now (m + links_end (size_at b m)) (m + size_at b m)
behind_link {b = b} {now = now} {m = m} k long = Same-part b now (m + 20) (m + size_at b m) (m + links_end (size_at b m)) (m + size_at b m) k.rest (let l = end_long (size_at b m) long in omega arith) (omega arith)

-- and so does one of which fields stay that lie behind them
pub behind_stays : {b now : List ℕ} {m : ℕ} {fields : List Field} → StaysBut b now m fields → 28 ≤ size_at b m → ((i : ℕ) → 28 ≤ i → OutsideFields fields i) → Same b now (m + links_end (size_at b m)) (m + size_at b m)
behind_stays {b = b} {now = now} {m = m} k long out = let l = end_long (size_at b m) long in part_stays k (links_end (size_at b m)) (size_at b m) (omega arith) (λ i p q. out i (omega arith))

-- ---- one record

module _ {b mid : List ℕ} {s : Shape} {place : ℕ} (h : HasShape b s) (gives : Gives b mid s (shape mid) place) (inside : In place s.records) where
  backs_missed : (us : List ℕ) (m hi : ℕ) → ((u : ℕ) → In u us → In u s.unused) → Misses (first_back_link us) m (links_end (size_at b m)) hi
  backs_missed [] m hi sub = tt
  backs_missed (u ∷ us) m hi sub = (
    (λ e.
        let long = subst (λ (x : ℕ). 28 ≤ size_at b x) (sym e) (linkable-long b s.records uir_type u (h.unused_chain.linkable u (sub u (inl refl)))) in
        let l = end_long (size_at b m) long in
        inr (omega arith)),
    tt,
  )

  all_missed : (m hi : ℕ) → m ≢ s.gdr → Misses (giving s.gdr s.unused place (size_at b place)) m (links_end (size_at b m)) hi
  all_missed m hi other = (
    (λ e. let l = end_low (size_at b m) in inr (omega arith)),
    elim (either (nat_le 28 (size_at b place))) [
      | inl q ↦ rw q (
        (λ e. absurd (other e)),
        (
          (λ e. let l = end_long (size_at b m) (subst (λ (x : ℕ). 28 ≤ size_at b x) (sym e) (leb-true 28 (size_at b place) q)) in inr (omega arith)),
          (
            (λ e. let l = end_long (size_at b m) (subst (λ (x : ℕ). 28 ≤ size_at b x) (sym e) (leb-true 28 (size_at b place) q)) in inr (omega arith)),
            backs_missed s.unused m hi (λ u i. i),
          ),
        ),
      )
      | inr q ↦ rw q tt
    ],
  )

  pub behind_one : (m : ℕ) → In m s.records → m ≢ s.gdr → Same b mid (m + links_end (size_at b m)) (m + size_at b m)
  behind_one m i other =
      part b mid s.records (giving s.gdr s.unused place (size_at b place)) (giving_marks s.unused (type_at b place) place (size_at b place)) (place ∷ []) h.tiled gives.length_is gives.changed
      (all_marked b mid s (shape mid) place (type_at b place) h inside refl gives) m (links_end (size_at b m)) (size_at b m) i (omega arith) (all_missed m (size_at b m) other)

-- ---- one after the other

-- the image after that: sound, with its content; only the unused list is another
pub record IsLeft (b now : List ℕ) : Type 0 where
  pub sound : IsSound now (shape now)
  pub content_stays : content now ≡ content b
  pub shape_is : shape now ≡ with_space (shape b) (shape b).records (shape now).unused
  pub long : length now ≡ length b
  pub behind : (m : ℕ) → In m (shape b).records → m ≢ (shape b).gdr → Same b now (m + links_end (size_at b m)) (m + size_at b m)

pub all_left : (b now places : List ℕ) → IsSound b (shape b) → ((m : ℕ) → In m places → In m (shape b).records) → AllGiven b now places → IsLeft b now
all_left b now [] sound stand same = subst (IsLeft b) (sym same) (record { sound = sound; content_stays = refl; shape_is = refl; long = refl; behind = λ m i other. record { each = λ k l u. refl } })
all_left b now (place ∷ more) sound stand all =
    let mid = all.0 in
    let g = all.1.0 in
    let inside = stand place (inl refl) in
    let records = g.0.records_stay in
    let rest = all_left mid now more g.1 (λ m i. subst (In m) (sym records) (stand m (inr i))) all.1.1 in
    let first : shape mid ≡ with_space (shape b) (shape b).records (shape mid).unused = g.0.space.rest_stays ∙ ap (λ (r : List ℕ). with_space (shape b) r (shape mid).unused) records in
    record {
      sound = rest.sound;
      content_stays = rest.content_stays ∙ g.2;
      shape_is = rest.shape_is ∙ ap (λ (x : Shape). with_space x x.records (shape now).unused) first;
      long = rest.long ∙ g.0.length_is;
      behind = λ m i other.
          let size = sizes_stay sound g inside m i in
          let one = behind_one sound.has_shape g.0 inside m i other in
          let two = rest.behind m (subst (In m) (sym records) i) (λ e. other (e ∙ ap (λ (x : Shape). x.gdr) first)) in
          let two' : Same mid now (m + links_end (size_at b m)) (m + size_at b m) = subst (λ (n : ℕ). Same mid now (m + links_end n) (m + n)) size two in
          record { each = λ k l u. two'.each k l u ∙ one.each k l u };
    }

-- a record that is unused stays unused
pub unused_still : (b now places : List ℕ) → IsSound b (shape b) → ((m : ℕ) → In m places → In m (shape b).records) → AllGiven b now places → (m : ℕ) → In m (shape b).records → type_at b m ≡ uir_type → type_at now m ≡ uir_type
unused_still b now [] sound stand same m i t = ap (λ (x : List ℕ). type_at x m) same ∙ t
unused_still b now (place ∷ more) sound stand all m i t =
    let mid = all.0 in
    let g = all.1.0 in
    let there : type_at mid m ≡ uir_type = elim ((one_given sound g (stand place (inl refl))).kind m i) [
      | inl k ↦ k.1 ∙ t
      | inr k ↦ elim k [ inl f ↦ f.1 | inr r ↦ elim r [ inl e ↦ ap (type_at mid) e ∙ is_a-type mid (shape mid).records uir_type place g.0.stands | inr none ↦ absurd none ] ]
    ] in
    unused_still mid now more g.1 (λ x j. subst (In x) (sym g.0.records_stay) (stand x (inr j))) all.1.1 m (subst (In m) (sym g.0.records_stay) i) there

-- each of them is unused then
pub all_unused : (b now places : List ℕ) → IsSound b (shape b) → ((m : ℕ) → In m places → In m (shape b).records) → AllGiven b now places → (m : ℕ) → In m places → type_at now m ≡ uir_type
all_unused b now [] sound stand same m i = absurd i
all_unused b now (place ∷ more) sound stand all m (inl e) =
    let mid = all.0 in
    let g = all.1.0 in
    let t : type_at mid place ≡ uir_type = is_a-type mid (shape mid).records uir_type place g.0.stands in
    subst (λ (x : ℕ). type_at now x ≡ uir_type) (sym e) (unused_still mid now more g.1 (λ x j. subst (In x) (sym g.0.records_stay) (stand x (inr j))) all.1.1 place (subst (In place) (sym g.0.records_stay) (stand place (inl refl))) t)
all_unused b now (place ∷ more) sound stand all m (inr i) =
    let g = all.1.0 in
    all_unused all.0 now more g.1 (λ x j. subst (In x) (sym g.0.records_stay) (stand x (inr j))) all.1.1 m i

-- ---- as a command says it

-- the bytes of a record from one on stay, but for some fields
abbrev pub BytesStay : List ℕ → List ℕ → ℕ → ℕ → List Field → Type 0
BytesStay b now m from fields = (i : ℕ) → i < size_at b m → from ≤ i → OutsideFields fields i → byte now (m + i) ≡ byte b (m + i)

pub freed_stay_but : (b now : List ℕ) (acts : List Act) (places : List ℕ) (but : ℕ → List Field) → AreTiles now 8 (length now) (shape now).records → ((m : ℕ) → In m places → In m (shape now).records) → ((m : ℕ) → In m places → size_at now m ≡ size_at b m)
    → ((m : ℕ) → In m places → BytesStay b now m (links_end (size_at b m)) (but (type_at b m))) → GivenStay b now but acts (gave b places)
freed_stay_but b now acts [] but tiled stand sizes behind = tt
freed_stay_but b now acts (place ∷ more) but tiled stand sizes behind = (
  each (FreedStays b now acts place (size_at b place) (but (type_at b place))) (unused_records now (shape now)) (λ uir j i lt low high out untaken.
      let size = sizes place (inl refl) in
      elim (cases_eq uir place) [
        | inl q ↦
            let from : place + links_end (size_at b place) ≤ place + i = subst (λ (n : ℕ). place + links_end n ≤ place + i) size (subst (λ (x : ℕ). x + links_end (size_at now x) ≤ place + i) q low) in
            behind place (inl refl) i lt (omega arith) out
        | inr ne ↦ elim (tiles_lie_apart now 8 (length now) (shape now).records uir place tiled (filter-in (λ (x : ℕ). type_at now x == uir_type) (shape now).records uir j) (stand place (inl refl)) ne) [
          | inl x ↦ absurd (omega arith)
          | inr x ↦ absurd (let l = end_low (size_at now uir) in omega arith)
        ]
      ]),
  freed_stay_but b now acts more but tiled (λ m i. stand m (inr i)) (λ m i. sizes m (inr i)) (λ m i. behind m (inr i)),
)

pub freed_stay : (b now : List ℕ) (acts : List Act) (places : List ℕ) (but : ℕ → List Field) → AreTiles now 8 (length now) (shape now).records → ((m : ℕ) → In m places → In m (shape now).records) → ((m : ℕ) → In m places → size_at now m ≡ size_at b m)
    → ((m : ℕ) → In m places → Same b now (m + links_end (size_at b m)) (m + size_at b m)) → GivenStay b now but acts (gave b places)
freed_stay b now acts places but tiled stand sizes behind = freed_stay_but b now acts places but tiled stand sizes (λ m i k lt low out. (behind m i).each (m + k) (omega arith) (omega arith))

-- ---- what a call asks for that frees them

-- a record that no owner has is in use
pub unowned_used : (b : List ℕ) (s : Shape) (m : ℕ) → In m s.records → times m (owned_records b s) ≡ 0 → type_at b m ≢ uir_type
unowned_used b s m i none t =
    let one = times-in m (unused_records b s) (in-filter (λ (place : ℕ). type_at b place == uir_type) s.records m i (eq-eqb (type_at b m) uir_type t)) in
    clash (times m (owned_records b s)) (times m (file_records s)) (times m (all_attribute_records s)) (times m (all_variable_records s)) (times m (unused_records b s)) (owned-times b s m) none one
  where
    clash : (n f a v r : ℕ) → n ≡ f + (a + (v + r)) → n ≡ 0 → 1 ≤ r → ⊥
    clash n f a v r p q l = omega arith

pub free_used : (b places : List ℕ) → AreFree b places → (m : ℕ) → In m places → type_at b m ≢ uir_type
free_used b places free m i = unowned_used b (shape b) m (free.stand m i) (free.unowned m i)

-- the next ones are free after one was freed
pub free_again : {b mid : List ℕ} {place : ℕ} {more : List ℕ} (sound : IsSound b (shape b)) (given : IsGiven b mid (shape b) (shape mid) place) → AreFree b (place ∷ more) → AreFree mid more
free_again {b = b} {mid = mid} {place = place} {more = more} sound given free = record {
  stand = λ m i. subst (In m) (sym given.0.records_stay) (free.stand m (inr i));
  unowned = λ m i.
      let inside = free.stand m (inr i) in
      let used = free_used b (place ∷ more) free m (inr i) in
      let other : m ≢ place = λ e. free.once.0 (subst (λ (x : ℕ). In x more) e i) in
      let type = head_type b mid m (others_still sound given (free.stand place (inl refl)) m inside used other) in
      let none = times-none m (unused_records mid (shape mid)) (λ j. used (sym type ∙ eqb-true (type_at mid m) uir_type (filter-says (λ (p : ℕ). type_at mid p == uir_type) (shape mid).records m j))) in
      let rest = given.0.space.rest_stays in
      gone (times m (owned_records mid (shape mid))) (times m (owned_records b (shape b))) (times m (file_records (shape b))) (times m (all_attribute_records (shape b))) (times m (all_variable_records (shape b))) (times m (unused_records b (shape b))) (times m (unused_records mid (shape mid)))
      (owned-times mid (shape mid) m ∙ (λ i. times m (file_records (rest i)) + (times m (all_attribute_records (rest i)) + (times m (all_variable_records (rest i)) + times m (unused_records mid (shape mid)))))) (owned-times b (shape b) m) (free.unowned m (inr i)) none;
  once = free.once.1;
}
  where
    gone : (n n' f a v r r' : ℕ) → n ≡ f + (a + (v + r')) → n' ≡ f + (a + (v + r)) → n' ≡ 0 → r' ≡ 0 → n ≡ 0
    gone n n' f a v r r' p q e o = omega arith
