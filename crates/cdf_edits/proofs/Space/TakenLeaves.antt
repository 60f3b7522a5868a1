-- What an image keeps where a record was taken, from its unused list or at its end.
use Rattle.cdf_edits.proofs.Common.{AreTiles, Changed, Distinct, Distinct-back, Distinct-middle, Field, HasShape, In, In-append, In-append_left, In-append_right, IsSound, List, Misses, Outside, Placed, Same, Same-part, Shape, Takes, Touch, [], ap, arith, cases_eq, either, eq-eqb, eqb-true, false, first_back_link, fits, fixed_size, gdr_type, gdr_uir_head, inl, inr, is_a-in, is_a-type, leb-true, length, linkable-in, linkable-long, linkable-type, map, nat_le, place_for, refl, size_at, split_width, subst, sym, taken_from, taking, tile_lies, tiles_distinct, tiles_unique, true, true≢false, type_at, uir_next_uir, uir_type, unused, word_kept, ℕ, ◌++◌, ◌+◌, ◌-◌, ◌<◌, ◌==◌, ◌∙◌, ◌∷◌, ◌≡◌, ◌≢◌, ◌≤◌, ◌⊎◌, sized}
use Rattle.cdf_edits.proofs.Frame.ChangedBytes.{changed_part}
use Rattle.cdf_edits.proofs.Frame.LinksStay.{tiles_same}
use Rattle.cdf_edits.proofs.Space.TakenFromList.{member_split}
use Rattle.cdf_edits.proofs.Frame.TilesGrow.{tiles_push, tiles_split}
use Rattle.cdf_edits.proofs.Space.UsedRecords.{apart}

-- ---- what is touched

split_fits : (need size : ℕ) → fits need size ≡ true → split_width need size ≤ size
split_fits need size e = elim (either (size == need)) [
  | inl same ↦ let s = eqb-true size need same in rw same (omega arith)
  | inr other ↦ elim (either (nat_le (need + 28) size)) [
    | inl room ↦ let l = leb-true (need + 28) size room in rw other l
    | inr small ↦ let unfit : fits need size ≡ false = rw (other, small) refl in absurd (true≢false (sym e ∙ unfit))
  ]
]

from_start : (x y : ℕ) → x ≤ y → 0 + x ≤ y
from_start x y p = omega arith

-- the bytes of a record from one place within it to another, as the list from here on is gone through
taking_misses : (b : List ℕ) (need end gdr holder : ℕ) (link : Field) (us : List ℕ) (m lo hi : ℕ)
    → (m ≡ gdr → (hi ≤ 36) ⊎ (44 ≤ lo)) → (m ≡ holder → (hi ≤ link.place) ⊎ (link.place + link.width ≤ lo)) → (In m us → (hi ≤ 12) ⊎ (28 ≤ lo)) → m ≢ place_for (sized b us) end need
    → Misses (taking gdr holder link (sized b us) need) m lo hi
taking_misses b need end gdr holder link [] m lo hi at_end at_link listed other = (at_end, tt)
taking_misses b need end gdr holder link (p ∷ us) m lo hi at_end at_link listed other = elim (either (fits need (size_at b p))) [
  | inl fit ↦ rw fit (at_link, ((λ e. absurd (other (e ∙ rw fit refl))), firsts us (λ i. listed (inr i))))
  | inr unfit ↦ rw unfit (taking_misses b need end gdr p uir_next_uir us m lo hi at_end (λ e. elim (listed (inl e)) [ inl x ↦ inl x | inr x ↦ inr (omega arith) ]) (λ i. listed (inr i)) (λ e. other (e ∙ rw unfit refl)))
]
  where
    firsts : (us : List ℕ) → (In m us → (hi ≤ 12) ⊎ (28 ≤ lo)) → Misses (first_back_link (map (λ (pair : ℕ × ℕ). pair.0) (sized b us))) m lo hi
    firsts [] listed = tt
    firsts (u ∷ us) listed = ((λ e. elim (listed (inl e)) [ inl x ↦ inl (omega arith) | inr x ↦ inr (omega arith) ]), tt)

taking_placed : (b records : List ℕ) (need end gdr holder : ℕ) (link : Field) (us : List ℕ)
    → In gdr records → 84 ≤ size_at b gdr → In holder records → link.place + link.width ≤ size_at b holder → ((m : ℕ) → In m us → In m records × (28 ≤ size_at b m))
    → Placed b records end (taking gdr holder link (sized b us) need)
taking_placed b records need end gdr holder link [] gdr_in gdr_long holder_in inside listed = (inl (gdr_in, omega arith), tt)
taking_placed b records need end gdr holder link (p ∷ us) gdr_in gdr_long holder_in inside listed = elim (either (fits need (size_at b p))) [
  | inl fit ↦ rw fit (inl (holder_in, inside), (inl ((listed p (inl refl)).0, from_start (split_width need (size_at b p)) (size_at b p) (split_fits need (size_at b p) fit)), firsts us (λ m i. listed m (inr i))))
  | inr unfit ↦ rw unfit (taking_placed b records need end gdr p uir_next_uir us gdr_in gdr_long (listed p (inl refl)).0 (let l = (listed p (inl refl)).1 in omega arith) (λ m i. listed m (inr i)))
]
  where
    firsts : (us : List ℕ) → ((m : ℕ) → In m us → In m records × (28 ≤ size_at b m)) → Placed b records end (first_back_link (map (λ (pair : ℕ × ℕ). pair.0) (sized b us)))
    firsts [] listed = tt
    firsts (u ∷ us) listed = let l = listed u (inl refl) in (inl (l.0, omega (arith, l.1)), tt)

-- the end of a record that was split
taking_misses_far : (b : List ℕ) (need gdr holder : ℕ) (link : Field) (us : List ℕ) (m lo hi : ℕ)
    → (m ≡ gdr → (hi ≤ 36) ⊎ (44 ≤ lo)) → (m ≡ holder → (hi ≤ link.place) ⊎ (link.place + link.width ≤ lo)) → need + 28 ≤ lo
    → Misses (taking gdr holder link (sized b us) need) m lo hi
taking_misses_far b need gdr holder link [] m lo hi at_end at_link far = (at_end, tt)
taking_misses_far b need gdr holder link (p ∷ us) m lo hi at_end at_link far = elim (either (fits need (size_at b p))) [
  | inl fit ↦ rw fit (at_link, ((λ e. inr (width (size_at b p))), firsts us))
  | inr unfit ↦ rw unfit (taking_misses_far b need gdr p uir_next_uir us m lo hi at_end (λ e. inr (omega arith)) far)
]
  where
    width : (size : ℕ) → 0 + split_width need size ≤ lo
    width size = elim (either (size == need)) [ inl e ↦ rw e (omega arith) | inr e ↦ rw e (omega arith) ]

    firsts : (us : List ℕ) → Misses (first_back_link (map (λ (pair : ℕ × ℕ). pair.0) (sized b us))) m lo hi
    firsts [] = tt
    firsts (u ∷ us) = ((λ e. inr (omega arith)), tt)

-- ---- how a record was taken

abbrev HasPair : ℕ → ℕ → List (ℕ × ℕ) → Type 0
HasPair x n [] = ⊥
HasPair x n (pair ∷ more) = ((x ≡ pair.0) × (n ≡ pair.1)) ⊎ HasPair x n more

pair_sized : (now us : List ℕ) (x n : ℕ) → HasPair x n (sized now us) → In x us × (size_at now x ≡ n)
pair_sized now [] x n p = absurd p
pair_sized now (u ∷ us) x n (inl e) = (inl e.0, ap (size_at now) e.0 ∙ sym e.1)
pair_sized now (u ∷ us) x n (inr p) = let r = pair_sized now us x n p in (inr r.0, r.1)

-- at the end; whole; or split
abbrev Way : List ℕ → ℕ → List ℕ → ℕ → ℕ → Type 0
Way b need us end place = (place ≡ end) ⊎ (In place us × ((size_at b place ≡ need) ⊎ ((need + 28 ≤ size_at b place) × HasPair (place + need) (size_at b place - need) (taken_from (sized b us) need))))

way : (b : List ℕ) (need : ℕ) (us : List ℕ) (end : ℕ) → Way b need us end (place_for (sized b us) end need)
way b need [] end = inl refl
way b need (p ∷ us) end = elim (either (size_at b p == need)) [
  | inl whole ↦
      let here : place_for (sized b (p ∷ us)) end need ≡ p = rw whole refl in
      subst (Way b need (p ∷ us) end) (sym here) (inr (inl refl, inl (eqb-true (size_at b p) need whole)))
  | inr other ↦ elim (either (nat_le (need + 28) (size_at b p))) [
    | inl larger ↦
        let here : place_for (sized b (p ∷ us)) end need ≡ p = rw (other, larger) refl in
        let list : taken_from (sized b (p ∷ us)) need ≡ (p + need, size_at b p - need) ∷ sized b us = rw (other, larger) refl in
        subst (Way b need (p ∷ us) end) (sym here) (inr (inl refl, inr (leb-true (need + 28) (size_at b p) larger, subst (HasPair (p + need) (size_at b p - need)) (sym list) (inl (refl, refl)))))
    | inr small ↦
        let here : place_for (sized b (p ∷ us)) end need ≡ place_for (sized b us) end need = rw (other, small) refl in
        let list : taken_from (sized b (p ∷ us)) need ≡ (p, size_at b p) ∷ taken_from (sized b us) need = rw (other, small) refl in
        subst (Way b need (p ∷ us) end) (sym here) (elim (way b need us end) [
          | inl e ↦ inl e
          | inr w ↦ inr (inr w.0, elim w.1 [ inl e ↦ inl e | inr f ↦ inr (f.0, subst (HasPair _ _) (sym list) (inr f.1)) ])
        ])
  ]
]

-- ---- the image

-- A record at this place was taken from the list or at the end, and these are the records by now. A record that was on no list stays, one of the list but for its links, and the GDR but for eof and the head of the list; what is new is the taken record or unused.
pub record KeepsTaken (b now : List ℕ) (s : Shape) (records : List ℕ) (place : ℕ) : Type 0 where
  pub longer : length b ≤ length now
  pub unlisted_kept : (m : ℕ) → In m s.records → (In m s.unused → ⊥) → m ≢ s.gdr → Same b now m (m + size_at b m)
  pub listed_part : (m lo hi : ℕ) → In m s.records → m ≢ place → m ≢ s.gdr → (hi ≤ 12) ⊎ (28 ≤ lo) → hi ≤ size_at b m → Same b now (m + lo) (m + hi)
  pub gdr_part : (lo hi : ℕ) → (hi ≤ 36) ⊎ (44 ≤ lo) → (hi ≤ 64) ⊎ (72 ≤ lo) → hi ≤ size_at b s.gdr → Same b now (s.gdr + lo) (s.gdr + hi)
  pub front : Same b now 0 8
  pub unlisted_apart : (m : ℕ) → In m s.records → (In m s.unused → ⊥) → m ≢ place
  pub sub : (m : ℕ) → In m s.records → In m records
  pub new : (m : ℕ) → In m records → In m s.records ⊎ ((m ≡ place) ⊎ (type_at now m ≡ uir_type))

-- what a record that was split leaves
pub record IsRest (b now : List ℕ) (s s' : Shape) (need place m : ℕ) : Type 0 where
  pub typed : type_at now m ≡ uir_type
  pub on_list : In m s'.unused
  pub stands : m ≡ place + need
  pub split : In place s.unused
  pub room : need + 28 ≤ size_at b place
  pub size_is : size_at now m ≡ size_at b place - need
  pub far : Same b now (m + 28) (place + size_at b place)

module _ (b now : List ℕ) (s s' : Shape) (need place : ℕ) (sound : IsSound b s) (some : 12 ≤ need) (takes : Takes b now s s' need place) where
  h : HasShape b s
  h = sound.has_shape

  abbrev touches : List Touch
  touches = taking s.gdr s.gdr gdr_uir_head (sized b s.unused) need

  gdr_in : In s.gdr s.records
  gdr_in = is_a-in b s.records gdr_type s.gdr h.gdr_stands

  gdr_typed : type_at b s.gdr ≡ gdr_type
  gdr_typed = is_a-type b s.records gdr_type s.gdr h.gdr_stands

  gdr_long : 84 ≤ size_at b s.gdr
  gdr_long = subst (λ (t : ℕ). fixed_size t ≤ size_at b s.gdr) gdr_typed (h.fixed s.gdr gdr_in)

  listed_in : (m : ℕ) → In m s.unused → In m s.records × (28 ≤ size_at b m)
  listed_in m i = let l = h.unused_chain.linkable m i in (linkable-in b s.records uir_type m l, linkable-long b s.records uir_type m l)

  used_unlisted : (m : ℕ) → type_at b m ≢ uir_type → In m s.unused → ⊥
  used_unlisted m used i = used (linkable-type b s.records uir_type m (h.unused_chain.linkable m i))

  gdr_unlisted : In s.gdr s.unused → ⊥
  gdr_unlisted = used_unlisted s.gdr (λ e. apart gdr_type uir_type refl (sym gdr_typed ∙ e))

  taken_way : Way b need s.unused (length b) place
  taken_way = subst (Way b need s.unused (length b)) (sym takes.place_is) (way b need s.unused (length b))

  before_end : (m : ℕ) → In m s.records → m ≢ length b
  before_end m i e = let l = tile_lies b 8 (length b) s.records m h.tiled i in past m (size_at b m) (length b) l.high l.long e
    where
      past : (x k l : ℕ) → x + k ≤ l → 12 ≤ k → x ≡ l → ⊥
      past x k l p q r = absurd (omega arith)

  unlisted_apart : (m : ℕ) → In m s.records → (In m s.unused → ⊥) → m ≢ place
  unlisted_apart m i out e = elim taken_way [ inl end ↦ before_end m i (e ∙ end) | inr w ↦ out (subst (λ (x : ℕ). In x s.unused) (sym e) w.0) ]

  changed : Changed b now touches
  changed = takes.changed

  placed : Placed b s.records (length b) touches
  placed = taking_placed b s.records need (length b) s.gdr s.gdr gdr_uir_head s.unused gdr_in gdr_long gdr_in (let l = gdr_long in omega arith) listed_in

  part : (m lo hi : ℕ) → In m s.records → m ≢ place → (m ≡ s.gdr → (hi ≤ 36) ⊎ (44 ≤ lo)) → (m ≡ s.gdr → (hi ≤ 64) ⊎ (72 ≤ lo)) → (In m s.unused → (hi ≤ 12) ⊎ (28 ≤ lo)) → hi ≤ size_at b m → Same b now (m + lo) (m + hi)
  part m lo hi i other eof head listed fits =
      changed_part b now s.records (length b) h.tiled (omega arith) touches changed placed m lo hi i fits
      (taking_misses b need (length b) s.gdr s.gdr gdr_uir_head s.unused m lo hi eof head listed (λ e. other (e ∙ sym takes.place_is)))

  start : (m : ℕ) → In m s.records → m ≢ place → Same b now (m + 0) (m + 12)
  start m i other = part m 0 12 i other (λ e. inl (omega arith)) (λ e. inl (omega arith)) (λ j. inl (omega arith)) (tile_lies b 8 (length b) s.records m h.tiled i).long

  sizes : (m : ℕ) → In m s.records → m ≢ place → size_at now m ≡ size_at b m
  sizes m i other = word_kept b now (m + 0) (m + 12) (start m i other) (m + 0) 8 (omega arith) (omega arith)

  reach : 8 ≤ length b
  reach = let l = tile_lies b 8 (length b) s.records s.gdr h.tiled gdr_in in between s.gdr (size_at b s.gdr) (length b) l.low l.high
    where
      between : (x k l : ℕ) → 8 ≤ x → x + k ≤ l → 8 ≤ l
      between x k l p q = omega arith

  ahead : (ts : List Touch) → Placed b s.records (length b) ts → (i : ℕ) → i < 8 → Outside ts i
  ahead [] p i lt = tt
  ahead (t ∷ ts) p i lt = (
    elim p.0 [
      | inl x ↦ let low = (tile_lies b 8 (length b) s.records t.tile h.tiled x.0).low in inl (omega arith)
      | inr x ↦ let l = reach in inl (omega arith)
    ],
    ahead ts p.1 i lt,
  )

  front : Same b now 0 8
  front = record { each = λ i from upto. let l = reach in changed.same i (omega arith) (ahead touches placed i upto) }

  -- ---- the records

  abbrev Are : List ℕ → Type 0
  Are records = ((m : ℕ) → In m s.records → In m records) × ((m : ℕ) → In m records → In m s.records ⊎ ((m ≡ place) ⊎ IsRest b now s s' need place m))

  found : (records : List ℕ) → AreTiles now 8 (length now) records → Are records → Are s'.records
  found records tiled are = subst Are (tiles_unique now 8 (length now) records s'.records tiled takes.space.tiled) are

  at_end : place ≡ length b → Are s'.records
  at_end e =
      let other : (m : ℕ) → In m s.records → m ≢ place = λ m i x. before_end m i (x ∙ e) in
      let long : length now ≡ length b + need = takes.length_is ∙ rw (eq-eqb (place_for (unused b s) (length b) need) (length b) (sym takes.place_is ∙ e)) refl in
      let old = tiles_same b now 8 (length b) s.records h.tiled (λ m i. sizes m i (other m i)) in
      let grown = tiles_push now 8 (length b) need s.records old (subst (λ (p : ℕ). size_at now p ≡ need) e takes.size_is) some in
      found (s.records ++ length b ∷ []) (subst (λ (n : ℕ). AreTiles now 8 n (s.records ++ length b ∷ [])) (sym long) grown) (
        (λ m i. In-append_left m s.records (length b ∷ []) i),
        (λ m i. elim (In-append m s.records (length b ∷ []) i) [ inl j ↦ inl j | inr j ↦ elim j [ inl x ↦ inr (inl (x ∙ sym e)) | inr none ↦ absurd none ] ]),
      )

  as_long : In place s.unused → length now ≡ length b
  as_long i =
      let no_end : place ≢ length b = before_end place (listed_in place i).0 in
      let test : (place_for (unused b s) (length b) need == length b) ≡ false = elim (either (place_for (unused b s) (length b) need == length b)) [ inl x ↦ absurd (no_end (takes.place_is ∙ eqb-true _ _ x)) | inr x ↦ x ] in
      takes.length_is ∙ rw test refl

  whole : In place s.unused → size_at b place ≡ need → Are s'.records
  whole i size =
      let all : (m : ℕ) → In m s.records → size_at now m ≡ size_at b m = λ m j. elim (cases_eq m place) [ inl e ↦ ap (size_at now) e ∙ takes.size_is ∙ sym size ∙ sym (ap (size_at b) e) | inr ne ↦ sizes m j ne ] in
      found s.records (subst (λ (n : ℕ). AreTiles now 8 n s.records) (sym (as_long i)) (tiles_same b now 8 (length b) s.records h.tiled all)) ((λ m j. j), (λ m j. inl j))

  far_stays : In place s.unused → need + 28 ≤ size_at b place → Same b now (place + need + 28) (place + size_at b place)
  far_stays i room =
      let gone : place ≡ s.gdr → ⊥ = λ e. gdr_unlisted (subst (λ (x : ℕ). In x s.unused) e i) in
      Same-part b now (place + (need + 28)) (place + size_at b place) (place + need + 28) (place + size_at b place)
      (changed_part b now s.records (length b) h.tiled (omega arith) touches changed placed place (need + 28) (size_at b place) (listed_in place i).0 (omega arith)
      (taking_misses_far b need s.gdr s.gdr gdr_uir_head s.unused place (need + 28) (size_at b place) (λ e. absurd (gone e)) (λ e. absurd (gone e)) (omega arith)))
      (omega arith) (omega arith)

  rest_is : In place s.unused → need + 28 ≤ size_at b place → (m : ℕ) → m ≡ place + need → type_at now (place + need) ≡ uir_type → In (place + need) s'.unused × (size_at now (place + need) ≡ size_at b place - need) → IsRest b now s s' need place m
  rest_is i room m e typed rest = record {
    typed = ap (type_at now) e ∙ typed;
    on_list = subst (λ (x : ℕ). In x s'.unused) (sym e) rest.0;
    stands = e;
    split = i;
    room = room;
    size_is = ap (size_at now) e ∙ rest.1;
    far = subst (λ (x : ℕ). Same b now (x + 28) (place + size_at b place)) (sym e) (far_stays i room);
  }

  split : In place s.unused → need + 28 ≤ size_at b place → HasPair (place + need) (size_at b place - need) (taken_from (sized b s.unused) need) → Are s'.records
  split i room pair =
      let q = place + need in
      let rest = pair_sized now s'.unused q (size_at b place - need) (subst (HasPair q (size_at b place - need)) (sym takes.list_is) pair) in
      let typed = linkable-type now s'.records uir_type q (takes.space.unused_chain.linkable q rest.0) in
      let parts = member_split place s.records (listed_in place i).0 in
      let before = parts.0 in
      let after = parts.1.0 in
      let is = parts.1.1 in
      let old : AreTiles b 8 (length b) (before ++ place ∷ after) = subst (AreTiles b 8 (length b)) is h.tiled in
      let once : Distinct (before ++ place ∷ after) = tiles_distinct b 8 (length b) (before ++ place ∷ after) old in
      let beside : (m : ℕ) → In m (before ++ after) → size_at now m ≡ size_at b m = λ m j.
      elim (In-append m before after j) [
        | inl k ↦ sizes m (subst (In m) (sym is) (In-append_left m before (place ∷ after) k)) (λ e. Distinct-middle before place after once (subst (λ (x : ℕ). In x before) e k))
        | inr k ↦ sizes m (subst (In m) (sym is) (In-append_right m before (place ∷ after) (inr k))) (λ e. (Distinct-back before (place ∷ after) once).0 (subst (λ (x : ℕ). In x after) e k))
      ] in
      let rest_size = rest.1 in
      let tiled = tiles_split b now 8 (length b) place need before after old beside takes.size_is (omega arith) some (omega arith) in
      found (before ++ place ∷ q ∷ after) (subst (λ (n : ℕ). AreTiles now 8 n (before ++ place ∷ q ∷ after)) (sym (as_long i)) tiled) (
        (λ m j. elim (In-append m before (place ∷ after) (subst (In m) is j)) [
          | inl k ↦ In-append_left m before (place ∷ q ∷ after) k
          | inr k ↦ In-append_right m before (place ∷ q ∷ after) (elim k [ inl e ↦ inl e | inr l ↦ inr (inr l) ])
        ]),
        (λ m j. elim (In-append m before (place ∷ q ∷ after) j) [
          | inl k ↦ inl (subst (In m) (sym is) (In-append_left m before (place ∷ after) k))
          | inr k ↦ elim k [
            | inl e ↦ inr (inl e)
            | inr l ↦ elim l [
              | inl e ↦ inr (inr (rest_is i room m e typed rest))
              | inr o ↦ inl (subst (In m) (sym is) (In-append_right m before (place ∷ after) (inr o)))
            ]
          ]
        ]),
      )

  records_are : Are s'.records
  records_are = elim taken_way [ inl e ↦ at_end e | inr w ↦ elim w.1 [ inl e ↦ whole w.0 e | inr f ↦ split w.0 f.0 f.1 ] ]

  -- what is new is the record, or the rest of one that was split
  pub takes_new : (m : ℕ) → In m s'.records → In m s.records ⊎ ((m ≡ place) ⊎ IsRest b now s s' need place m)
  takes_new = records_are.1

  pub takes_longest : length now ≤ length b + need
  takes_longest = elim taken_way [
    | inl e ↦ let long : length now ≡ length b + need = takes.length_is ∙ rw (eq-eqb (place_for (unused b s) (length b) need) (length b) (sym takes.place_is ∙ e)) refl in omega arith
    | inr w ↦ let long = as_long w.0 in omega arith
  ]

  pub takes_keep : KeepsTaken b now s s'.records place
  takes_keep =
      let l = gdr_long in
      record {
        longer = takes.changed.longer;
        unlisted_kept = λ m i out ne. Same-part b now (m + 0) (m + size_at b m) m (m + size_at b m) (part m 0 (size_at b m) i (unlisted_apart m i out) (λ e. absurd (ne e)) (λ e. absurd (ne e)) (λ j. absurd (out j)) (omega arith)) (omega arith) (omega arith);
        listed_part = λ m lo hi i other ne beside fits. part m lo hi i other (λ e. absurd (ne e)) (λ e. absurd (ne e)) (λ j. beside) fits;
        gdr_part = λ lo hi eof head fits. part s.gdr lo hi gdr_in (unlisted_apart s.gdr gdr_in gdr_unlisted) (λ e. eof) (λ e. head) (λ j. absurd (gdr_unlisted j)) fits;
        front = front;
        unlisted_apart = unlisted_apart;
        sub = records_are.0;
        new = λ m i. elim (takes_new m i) [ inl old ↦ inl old | inr new ↦ elim new [ inl e ↦ inr (inl e) | inr rest ↦ inr (inr rest.typed) ] ];
      }
