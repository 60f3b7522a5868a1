-- A record is taken and written anew, and then it is linked and counted: what every command has that makes a record.
use Rattle.cdf_edits.proofs.Common.{AllKeep, Allowances, Avoids, Away, Changed, Edit, Field, Fills, HasShape, In, IsChain, IsSound, List, Mark, Same, Shape, Took, Unused, Within, [], ap, ap₂, arith, avoided, back_links, both, content, either, eof, eof_after, eq-eqb, false, false-is_in, fixed_size, gdr_eof, gdr_type, gdr_uir_head, inl, inr, is_a-in, is_a-type, is_in, is_late, is_record_type, is_taken, leb-true, length, linkable-in, linkable-long, linkable-type, making_marks, map, nat_le, number, owned_by, place_for, record_size, refl, shape, size_at, sized, subst, sym, taken_from, taking_marks, tile_lies, times, touch, true, true-is_in, type_at, uir_next_uir, uir_prev_uir, uir_type, unmarked, unused, unused_records, whole, with_space, word_kept, ℕ, ◌&&◌, ◌++◌, ◌+◌, ◌-◌, ◌<◌, ◌==◌, ◌∙◌, ◌∷◌, ◌≡◌, ◌≢◌, ◌≤◌, ◌⊎◌}
use Rattle.cdf_edits.proofs.Space.RecordFilled.{filled_stays_sound}
use Rattle.cdf_edits.proofs.Space.TakenLeaves.{KeepsTaken, IsRest, takes_keep, takes_new, takes_longest}
use Rattle.cdf_edits.proofs.Space.ActsLeave.{no_rest, places-sized, sizes_same}
use Rattle.cdf_edits.proofs.Space.UsedRecords.{apart}
use Rattle.cdf_edits.proofs.Edits.Composing.{head_size, head_type, edit_then}
use Rattle.cdf_edits.proofs.Edits.RecordFrame.{kept, part_clear, field_avoids, field_clear, chain_stays}
use Rattle.cdf_edits.proofs.Edits.OwnersKept.{keep_unused, taken_is_taken}
use Rattle.cdf_edits.proofs.Edits.MarkLemmas.{the_one, unmarked-away, away-avoids, away-within, Avoids-append, Within-append, Away-append}
use Rattle.cdf_edits.proofs.Edits.OwnedOnce.{used_times, fresh_unowned}
use Rattle.cdf_edits.proofs.Edits.StepEdits.{gdr_in, gdr_typed, gdr_long, takes_edit, fill_edit}

-- ---- the marks of a record that was taken, seen from the unused list

no_gdr : (type : ℕ) → type ≡ uir_type → type ≡ gdr_type → ⊥
no_gdr type u g = apart uir_type gdr_type refl (sym u ∙ g)

other_one : (place m : ℕ) → m ≢ place → In m (place ∷ []) → ⊥
other_one place m ne (inl e) = ne e
other_one place m ne (inr none) = none

pub taking_avoids : (list : List ℕ) (place need m lo hi : ℕ) → m ≢ place → (hi ≤ 12) ⊎ (28 ≤ lo) → Avoids (taking_marks list place need) uir_type m lo hi
taking_avoids list place need m lo hi ne beside = (
  (λ same lies. absurd (no_gdr uir_type refl same)),
  (
    (λ same lies. absurd (no_gdr uir_type refl same)),
    (
      (λ same lies. elim beside [ inl x ↦ inl x | inr x ↦ inr (omega arith) ]),
      ((λ same lies. elim beside [ inl x ↦ inl (omega arith) | inr x ↦ inr x ]), ((λ same lies. absurd (other_one place m ne lies)), tt)),
    ),
  ),
)

pub taking_within : (list : List ℕ) (place need m : ℕ) → m ≢ place → Within (taking_marks list place need) uir_type m (uir_next_uir ∷ uir_prev_uir ∷ [])
taking_within list place need m ne =
    ((λ same lies. absurd (no_gdr uir_type refl same)), ((λ same lies. absurd (no_gdr uir_type refl same)), ((λ same lies. refl), ((λ same lies. refl), ((λ same lies. absurd (other_one place m ne lies)), tt)))))

pub taking_away : (list : List ℕ) (place need m : ℕ) → m ≢ place → (In m list → ⊥) → Away (taking_marks list place need) uir_type m
taking_away list place need m ne out =
    ((λ same lies. absurd (no_gdr uir_type refl same)), ((λ same lies. absurd (no_gdr uir_type refl same)), ((λ same lies. out lies), ((λ same lies. out lies), ((λ same lies. absurd (other_one place m ne lies)), tt)))))

whole_away : (place need m : ℕ) → m ≢ place → Away (whole uir_type place need ∷ []) uir_type m
whole_away place need m ne = ((λ same lies. absurd (other_one place m ne lies)), tt)

-- ---- lists that keep their sizes and links back

backs_same : (b now list : List ℕ) → ((m : ℕ) → In m list → number now m uir_prev_uir ≡ number b m uir_prev_uir) → map (λ uir. number now uir uir_prev_uir) list ≡ map (λ uir. number b uir uir_prev_uir) list
backs_same b now [] same = refl
backs_same b now (m ∷ more) same = ap₂ (λ (n : ℕ) (rest : List ℕ). n ∷ rest) (same m (inl refl)) (backs_same b now more (λ x i. same x (inr i)))

-- where the record was taken, and what is on the list by now
pub record IsListed (b now : List ℕ) (s : Shape) (list : List ℕ) (need place : ℕ) : Type 0 where
  pub place_is : place ≡ place_for (unused b s) (length b) need
  pub length_is : length now ≡ eof_after (unused b s) (length b) need
  pub list_is : sized now list ≡ taken_from (unused b s) need
  pub back : map (λ uir. number now uir uir_prev_uir) list ≡ back_links b s.unused 0 list

-- ---- the record is taken and written

module _ {b taken filled : List ℕ} {s : Shape} {records list : List ℕ} {need place type : ℕ} (sound : IsSound b s) (fills : Fills b taken filled s records list need place type) where
  abbrev grown : Shape
  grown = with_space s records list

  some : 12 ≤ need
  some = let l = fills.enough in omega arith

  of_taken : HasShape taken grown
  of_taken = fills.sound.has_shape

  keeps : KeepsTaken b taken s records place
  keeps = takes_keep b taken s grown need place sound some fills.takes

  pub place_in : In place records
  place_in = is_a-in taken records uir_type place fills.takes.stands

  first : Edit b taken s.records records (taking_marks s.unused place need) []
  first = takes_edit sound some fills.takes

  pub second : Edit taken filled records records (whole uir_type place need ∷ []) (place ∷ [])
  second =
      let size = fills.takes.size_is in
      subst (λ (n : ℕ). Edit taken filled records records (whole uir_type place n ∷ []) (place ∷ [])) size
      (fill_edit taken filled grown of_taken place uir_type place_in (is_a-type taken records uir_type place fills.takes.stands) (subst (λ (n : ℕ). Changed taken filled (touch place 8 (n - 8) ∷ [])) (sym size) fills.fill) fills.long)

  -- until it is written
  abbrev filling_marks : List Mark
  filling_marks = taking_marks s.unused place need ++ whole uir_type place need ∷ []

  pub filled_edit : Edit b filled s.records records filling_marks (place ∷ [])
  filled_edit = edit_then first second

  filled_both : IsSound filled grown × (content filled ≡ content taken)
  filled_both = filled_stays_sound taken filled grown place fills.sound fills.takes.stands fills.takes.unlisted fills.long
      (subst (λ (n : ℕ). Changed taken filled (touch place 8 (n - 8) ∷ [])) (sym fills.takes.size_is) fills.fill)
      (subst (λ (t : ℕ). is_record_type t ≡ true) (sym fills.typed) fills.real)
      (subst (λ (t : ℕ). fixed_size t ≤ size_at taken place) (sym fills.typed) (subst (λ (n : ℕ). fixed_size type ≤ n) (sym fills.takes.size_is) fills.fixed))

  pub filled_sound : IsSound filled grown
  filled_sound = filled_both.0

  pub filled_content : content filled ≡ content b
  filled_content = filled_both.1 ∙ fills.content_stays

  pub filled_size : size_at filled place ≡ need
  filled_size = changed_size ∙ fills.takes.size_is
    where
      changed_size : size_at filled place ≡ size_at taken place
      changed_size = word_kept taken filled (place + 0) (place + 8) (record { each = λ i l u. fills.fill.same i (inside i u) (inl u, tt) }) (place + 0) 8 (omega arith) (omega arith)
        where
          inside : (i : ℕ) → i < place + 8 → i < length taken
          inside i u = let t = tile_lies taken 8 (length taken) records place of_taken.tiled place_in in below i place (size_at taken place) (length taken) u t.long t.high
            where
              below : (i p n l : ℕ) → i < p + 8 → 12 ≤ n → p + n ≤ l → i < l
              below i p n l x y z = omega arith

  -- the record was unused, or none
  pub fresh : In place s.records → type_at b place ≡ uir_type
  fresh i = elim (either (is_in place s.unused)) [
    | inl x ↦ linkable-type b s.records uir_type place (sound.has_shape.unused_chain.linkable place (true-is_in place s.unused x))
    | inr x ↦ absurd (keeps.unlisted_apart place i (false-is_in place s.unused x) refl)
  ]

  -- so it is none of those in use
  pub unlike : (m : ℕ) → In m s.records → type_at b m ≢ uir_type → m ≢ place
  unlike m i used q = used (ap (type_at b) q ∙ fresh (subst (λ (x : ℕ). In x s.records) q i))

  pub unowned : used_times s place ≡ 0
  unowned = fresh_unowned sound place fresh

  -- ---- and then come steps that leave it, the list and the end of the image

  module _ {now : List ℕ} {late : List Mark} (later : Edit filled now records records late []) (as_long : length now ≡ length filled) (lately : is_late late type ≡ true) where
    abbrev marks : List Mark
    marks = making_marks s.unused place need late

    pub made_edit : Edit b now s.records records marks (place ∷ [])
    made_edit = edit_then filled_edit later

    clear : ((unmarked late uir_type && avoided late type 0 12) ≡ true) × ((avoided late gdr_type 0 12 && (avoided late gdr_type 36 44 && avoided late gdr_type 64 72)) ≡ true)
    clear = both (unmarked late uir_type && avoided late type 0 12) (avoided late gdr_type 0 12 && (avoided late gdr_type 36 44 && avoided late gdr_type 64 72)) lately

    clear_own : (unmarked late uir_type ≡ true) × (avoided late type 0 12 ≡ true)
    clear_own = both (unmarked late uir_type) (avoided late type 0 12) clear.0

    clear_gdr : (avoided late gdr_type 0 12 ≡ true) × ((avoided late gdr_type 36 44 && avoided late gdr_type 64 72) ≡ true)
    clear_gdr = both (avoided late gdr_type 0 12) (avoided late gdr_type 36 44 && avoided late gdr_type 64 72) clear.1

    clear_end : (avoided late gdr_type 36 44 ≡ true) × (avoided late gdr_type 64 72 ≡ true)
    clear_end = both (avoided late gdr_type 36 44) (avoided late gdr_type 64 72) clear_gdr.1

    -- a part of the new record
    pub made_part : (lo hi : ℕ) → avoided late type lo hi ≡ true → hi ≤ need → Same filled now (place + lo) (place + hi)
    made_part lo hi a fits = part_clear later place type lo hi place_in fills.typed clear_own.1 a (subst (λ (n : ℕ). hi ≤ n) (sym filled_size) fits)

    made_head : Same filled now (place + 0) (place + 12)
    made_head = made_part 0 12 clear_own.1 some

    pub made_type : type_at now place ≡ type
    made_type = head_type filled now place made_head ∙ fills.typed

    pub made_size : size_at now place ≡ need
    made_size = head_size filled now place made_head ∙ filled_size

    -- it has the fixed part of a record of its type, and is in use
    pub made_typed : (m : ℕ) → In m (place ∷ []) → (is_record_type (type_at now m) ≡ true) × (fixed_size (type_at now m) ≤ size_at now m)
    made_typed m i = subst (λ (x : ℕ). (is_record_type (type_at now x) ≡ true) × (fixed_size (type_at now x) ≤ size_at now x)) (sym (the_one place m i)) (rw (made_type, made_size) (fills.real, fills.fixed))

    -- and owned once, if what the image has of it is what it had and it
    pub made_once : (s' : Shape) (gone : ℕ) → used_times s' place + gone ≡ used_times s place + times place (place ∷ []) → gone ≡ 0 → (m : ℕ) → In m (place ∷ []) → (type_at now m ≢ uir_type) × (used_times s' m ≡ 1)
    made_once s' gone owners none m i = subst (λ (x : ℕ). (type_at now x ≢ uir_type) × (used_times s' x ≡ 1)) (sym (the_one place m i)) (
      (λ u. fills.in_use (sym made_type ∙ u)),
      one (used_times s' place) (used_times s place) gone (times place (place ∷ [])) owners unowned none (rw (eq-eqb place place refl) refl),
    )
      where
        one : (u' u g h : ℕ) → u' + g ≡ u + h → u ≡ 0 → g ≡ 0 → h ≡ 1 → u' ≡ 1
        one u' u g h x y z w = omega arith

    pub shorter : length now ≤ length b + need
    shorter = let l = takes_longest b taken s grown need place sound some fills.takes in let m = fills.long in omega arith

    pub end_now : eof now s.gdr ≡ length now
    end_now =
        let g = gdr_long taken grown of_taken in
        let g' = gdr_long filled grown filled_sound.has_shape in
        field_clear later s.gdr gdr_type gdr_eof (gdr_in filled grown filled_sound.has_shape) (gdr_typed filled grown filled_sound.has_shape) clear_gdr.0 clear_end.0 (omega arith)
        ∙ field_clear second s.gdr gdr_type gdr_eof (gdr_in taken grown of_taken) (gdr_typed taken grown of_taken) refl refl (omega arith)
        ∙ fills.takes.eof_is ∙ sym (as_long ∙ fills.long)

    -- ---- the unused list

    unlisted : (m : ℕ) → In m list → m ≢ place
    unlisted m i e = false-is_in place list fills.takes.unlisted (subst (λ (x : ℕ). In x list) e i)

    -- a record of it, from when the record was taken
    listed_field : (f : Field) → f.place + f.width ≤ 28 → (m : ℕ) → In m list → number now m f ≡ number taken m f
    listed_field f fits m i =
        let ok = of_taken.unused_chain.linkable m i in
        let ok' = filled_sound.has_shape.unused_chain.linkable m i in
        let away = whole_away place need m (unlisted m i) in
        let away' = unmarked-away late uir_type m clear_own.0 in
        field_avoids later m uir_type f (linkable-in filled records uir_type m ok') (linkable-type filled records uir_type m ok') (away-avoids late uir_type m 0 12 away') (away-avoids late uir_type m f.place (f.place + f.width) away')
        (let l = linkable-long filled records uir_type m ok' in omega arith)
        ∙ field_avoids second m uir_type f (linkable-in taken records uir_type m ok) (linkable-type taken records uir_type m ok) (away-avoids (whole uir_type place need ∷ []) uir_type m 0 12 away) (away-avoids (whole uir_type place need ∷ []) uir_type m f.place (f.place + f.width) away)
        (let l = linkable-long taken records uir_type m ok in omega arith)

    pub listed : IsListed b now s list need place
    listed = record {
      place_is = fills.takes.place_is;
      length_is = as_long ∙ fills.long ∙ fills.takes.length_is;
      list_is = sizes_same taken now list (listed_field record_size (omega arith)) ∙ fills.takes.list_is;
      back = backs_same taken now list (listed_field uir_prev_uir (omega arith)) ∙ fills.takes.back;
    }

    pub list_chain : IsChain now records uir_type (number now s.gdr gdr_uir_head) list
    list_chain =
        let g = gdr_long filled grown filled_sound.has_shape in
        chain_stays later uir_type _ _ list filled_sound.has_shape.unused_chain
        (field_clear later s.gdr gdr_type gdr_uir_head (gdr_in filled grown filled_sound.has_shape) (gdr_typed filled grown filled_sound.has_shape) clear_gdr.0 clear_end.1 (omega arith))
        (λ m i. away-avoids late uir_type m 0 20 (unmarked-away late uir_type m clear_own.0))

    -- ---- records that were there, and the rest of one that was split

    pub loose_away : (m : ℕ) → In m s.records → (In m s.unused → ⊥) → Away marks uir_type m
    loose_away m tile out =
        let ne = keeps.unlisted_apart m tile out in
        let taking = taking_marks s.unused place need in
        let one = whole uir_type place need ∷ [] in
        Away-append (taking ++ one) late uir_type m (Away-append taking one uir_type m (taking_away s.unused place need m ne out) (whole_away place need m ne)) (unmarked-away late uir_type m clear_own.0)

    rest_here : (m : ℕ) → In m records → IsRest b taken s grown need place m → Same filled now m (m + size_at filled m) × (size_at filled m ≡ size_at taken m)
    rest_here m i rest =
        let behind : place + need ≤ m = let l = rest.stands in omega arith in
        let long = (tile_lies taken 8 (length taken) records m of_taken.tiled i).high in
        let wide = (tile_lies taken 8 (length taken) records m of_taken.tiled i).long in
        let head : Same taken filled m (m + 12) = record { each = λ n l u. fills.fill.same n (below n m (size_at taken m) (length taken) u wide long) (inr (let l' = fills.enough in past n m l behind l'), tt) } in
        let typed : type_at filled m ≡ uir_type = word_kept taken filled m (m + 12) head (m + 8) 4 (omega arith) (omega arith) ∙ rest.typed in
        ((kept later m uir_type i typed clear_own.0).same, word_kept taken filled m (m + 12) head (m + 0) 8 (omega arith) (omega arith))
      where
        below : (n m k l : ℕ) → n < m + 12 → 12 ≤ k → m + k ≤ l → n < l
        below n m k l p q r = omega arith

        past : (n m : ℕ) → m ≤ n → place + need ≤ m → 28 ≤ need → place + 8 + (need - 8) ≤ n
        past n m p q r = omega arith

    pub made_new : (m : ℕ) → In m records → In m s.records ⊎ ((m ≡ place) ⊎ IsRest b taken s grown need place m)
    made_new m i = takes_new b taken s grown need place sound some fills.takes m i

    -- behind its links the rest of a split stays
    pub rest_stays : (m : ℕ) → In m records → IsRest b taken s grown need place m → Same b now (m + 28) (m + size_at now m)
    rest_stays m i rest =
        let here = rest_here m i rest in
        let wide = (tile_lies taken 8 (length taken) records m of_taken.tiled i).long in
        let high = (tile_lies taken 8 (length taken) records m of_taken.tiled i).high in
        let size : size_at now m ≡ size_at taken m = word_kept filled now m (m + size_at filled m) here.0 (m + 0) 8 (omega arith) (let e = here.1 in omega arith) ∙ here.1 in
        record {
          each = λ n l u.
              here.0.each n (omega arith) (let e = here.1 in omega arith)
              ∙ fills.fill.same n (let e = size in omega arith) (inr (let e = rest.stands in let f = fills.enough in omega arith), tt)
              ∙ rest.far.each n l (let e = size in let f = rest.size_is in let g = rest.stands in let r = rest.room in omega arith);
        }

-- ---- records of the unused list after one was taken

-- each was on it before, or is the rest of one that was
pub rest_or_old : (b : List ℕ) (need m : ℕ) → 1 ≤ need → (us : List ℕ) → In m (map (λ pair. pair.0) (taken_from (sized b us) need)) → In m us ⊎ ((p : ℕ) × In p us × (p < m) × (m < p + size_at b p))
rest_or_old b need m some [] i = absurd i
rest_or_old b need m some (p ∷ us) i = elim (either (size_at b p == need)) [
  | inl whole ↦ let j : In m (map (λ pair. pair.0) (sized b us)) = rw whole at i in inl (inr (subst (In m) (places-sized b us) j))
  | inr partly ↦ elim (either (nat_le (need + 28) (size_at b p))) [
    | inl larger ↦
        let j : In m ((p + need) ∷ map (λ pair. pair.0) (sized b us)) = rw (partly, larger) at i in
        elim j [
          | inl q ↦ let l = leb-true (need + 28) (size_at b p) larger in inr (p, inl refl, below p need m some q, above p need (size_at b p) m l q)
          | inr k ↦ inl (inr (subst (In m) (places-sized b us) k))
        ]
    | inr small ↦
        let j : In m (p ∷ map (λ pair. pair.0) (taken_from (sized b us) need)) = rw (partly, small) at i in
        elim j [ inl q ↦ inl (inl q) | inr k ↦ elim (rest_or_old b need m some us k) [ inl old ↦ inl (inr old) | inr rest ↦ inr (rest.0, inr rest.1, rest.2, rest.3) ] ]
  ]
]
  where
    below : (p n m : ℕ) → 1 ≤ n → m ≡ p + n → p < m
    below p n m o q = omega arith

    above : (p n size m : ℕ) → n + 28 ≤ size → m ≡ p + n → m < p + size
    above p n size m l q = omega arith

module _ {b taken filled now records list : List ℕ} {need place type : ℕ} (sound : IsSound b (shape b)) (fills : Fills b taken filled (shape b) records list need place type) {late : List Mark} (later : Edit filled now records records late []) (as_long : length now ≡ length filled) (lately : is_late late type ≡ true) where
  -- an old record that is on the list by now was on it before
  pub listed_before : (m : ℕ) → In m (shape b).records → In m list → In m (shape b).unused
  listed_before m i j =
      let k : In m (map (λ pair. pair.0) (taken_from (sized b (shape b).unused) need)) = subst (In m) (sym (places-sized now list) ∙ ap (map (λ pair. pair.0)) (listed sound fills later as_long lately).list_is) j in
      elim (rest_or_old b need m (some fills.enough) (shape b).unused k) [
        | inl x ↦ x
        | inr rest ↦ absurd (no_rest b sound.has_shape rest.0 m (linkable-in b (shape b).records uir_type rest.0 (sound.has_shape.unused_chain.linkable rest.0 rest.1)) i rest.2 rest.3)
      ]
    where
      some : 28 ≤ need → 1 ≤ need
      some l = omega arith
      -- ---- what the command may change of unused records

module _ {b taken filled now records list : List ℕ} {need place type : ℕ} (sound : IsSound b (shape b)) (fills : Fills b taken filled (shape b) records list need place type) {late : List Mark} (later : Edit filled now records records late []) (as_long : length now ≡ length filled) (lately : is_late late type ≡ true) (records_are : (shape now).records ≡ records) where
  abbrev before_shape : Shape
  before_shape = shape b

  -- of a listed record that is not taken no more than the links is marked
  pub listed_marks : (m : ℕ) → In m before_shape.unused → is_taken b (Took place need ∷ []) m ≡ false → Avoids (making_marks before_shape.unused place need late) uir_type m 0 12 × Within (making_marks before_shape.unused place need late) uir_type m (uir_next_uir ∷ uir_prev_uir ∷ [])
  listed_marks m i free =
      let none = (clear_own sound fills later as_long lately).0 in
      let h = sound.has_shape in
      let tile = linkable-in b before_shape.records uir_type m (h.unused_chain.linkable m i) in
      let ne : m ≢ place = λ q. taken_is_taken b place need [] (subst (λ (x : ℕ). 12 ≤ size_at b x) q (tile_lies b 8 (length b) before_shape.records m h.tiled tile).long) (subst (λ (x : ℕ). is_taken b (Took place need ∷ []) x ≡ false) q free) in
      let away = whole_away place need m ne in
      let away' = unmarked-away late uir_type m none in
      let taking = taking_marks before_shape.unused place need in
      let links : List Field = uir_next_uir ∷ uir_prev_uir ∷ [] in
      let one = whole uir_type place need ∷ [] in (
        Avoids-append (taking ++ one) late uir_type m 0 12 (Avoids-append taking one uir_type m 0 12 (taking_avoids before_shape.unused place need m 0 12 ne (inl (omega arith))) (away-avoids one uir_type m 0 12 away)) (away-avoids late uir_type m 0 12 away'),
        Within-append (taking ++ one) late uir_type m links (Within-append taking one uir_type m links (taking_within before_shape.unused place need m ne) (away-within one uir_type m links away)) (away-within late uir_type m links away'),
      )

  pub made_keeps_unused : (may : Allowances) → AllKeep b now may (Took place need ∷ []) (owned_by Unused (unused_records b before_shape))
  made_keeps_unused may = keep_unused sound (made_edit sound fills later as_long lately) records_are may (Took place need ∷ []) listed_marks (λ m tile out. loose_away sound fills later as_long lately m tile out)
