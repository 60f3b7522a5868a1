-- What an edit leaves of the space of an image: of one that takes nothing, and of one that makes a record.
use Rattle.cdf_edits.proofs.Common.{ActsFollow, Each, Edit, Fills, In, IsSound, List, Mark, RestStays, Same, Shape, Took, [], ap, ap₂, arith, back_after, either, eq-eqb, eqb-true, false, false-is_in, inl, inr, is_late, length, linkable-in, linkable-long, linkable-type, loose_records, making_marks, map, nat_le, number_kept, place_for, record_size, record_type, refl, shape, size_at, sized, subst, sym, taken_from, tile_lies, true, type_at, uir_prev_uir, uir_type, unmarked, unused, used_records, ℕ, ◌+◌, ◌==◌, ◌∙◌, ◌∷◌, ◌≡◌, ◌≢◌, true≢false}
use Rattle.cdf_edits.specs.Space.Acts.{Among}
use Rattle.cdf_edits.proofs.Space.ActsLeave.{each, places-sized, among_sized, used_says, used_if, loose_says, loose_if, backs, backs_follow, no_rest, no_acts}
use Rattle.cdf_edits.proofs.Edits.Composing.{head_size, head_type}
use Rattle.cdf_edits.proofs.Edits.RecordFrame.{kept}
use Rattle.cdf_edits.proofs.Edits.MadeRecord.{fresh, made_edit, made_type, made_size, filled_sound, listed, loose_away, made_new, rest_stays}
use Rattle.cdf_edits.proofs.Edits.MarkLemmas.{away-avoids, the_one}

pub differs : (t : ℕ) → (t == uir_type) ≡ false → t ≢ uir_type
differs t e q = true≢false (sym (eq-eqb t uir_type q) ∙ e)

-- ---- nothing is taken, and no mark is of an unused record

pub acts_none : {b now new : List ℕ} {marks : List Mark} {reborn : List ℕ} (sound : IsSound b (shape b)) → Edit b now (shape b).records new marks reborn → unmarked marks uir_type ≡ true → reborn ≡ [] → (shape now).records ≡ (shape b).records → (shape now).unused ≡ (shape b).unused → length now ≡ length b → ActsFollow b now []
acts_none {b = b} {now = now} sound e clear none records list long =
    let used = λ (m : ℕ) (i : In m (shape b).records) (other : type_at b m ≢ uir_type). e.head m i other (λ r. subst (In m) none r) in
    let unused_one = λ (m : ℕ) (i : In m (shape b).records) (t : type_at b m ≡ uir_type). kept e m uir_type i t clear in
    no_acts b now sound.has_shape (record {
      records = records;
      list = list;
      long = long;
      size = λ m i. elim (either (type_at b m == uir_type)) [
        | inl t ↦ let k = unused_one m i (eqb-true (type_at b m) uir_type t) in let w = k.long in number_kept b now m k.same record_size (omega arith)
        | inr t ↦ head_size b now m (used m i (differs (type_at b m) t))
      ];
      type = λ m i. elim (either (type_at b m == uir_type)) [
        | inl t ↦ let k = unused_one m i (eqb-true (type_at b m) uir_type t) in let w = k.long in number_kept b now m k.same record_type (omega arith)
        | inr t ↦ head_type b now m (used m i (differs (type_at b m) t))
      ];
      back = λ m i.
          let ok = sound.has_shape.unused_chain.linkable m i in
          let wide = linkable-long b (shape b).records uir_type m ok in
          number_kept b now m (unused_one m (linkable-in b (shape b).records uir_type m ok) (linkable-type b (shape b).records uir_type m ok)).same uir_prev_uir (omega arith);
    })

-- ---- a record is made

stays_listed : (b : List ℕ) (need end : ℕ) (us : List ℕ) (m : ℕ) → In m us → m ≢ place_for (sized b us) end need → In m (map (λ pair. pair.0) (taken_from (sized b us) need))
stays_listed b need end [] m i other = absurd i
stays_listed b need end (p ∷ us) m i other = elim (either (size_at b p == need)) [
  | inl whole ↦
      let later : In m us = elim i [ inl q ↦ absurd (other (q ∙ sym (here (place_for (sized b (p ∷ us)) end need) (rw whole refl)))) | inr j ↦ j ] in
      rw whole (subst (In m) (sym (places-sized b us)) later)
  | inr partly ↦ elim (either (nat_le (need + 28) (size_at b p))) [
    | inl larger ↦
        let later : In m us = elim i [ inl q ↦ absurd (other (q ∙ sym (here (place_for (sized b (p ∷ us)) end need) (rw (partly, larger) refl)))) | inr j ↦ j ] in
        rw (partly, larger) (inr (subst (In m) (sym (places-sized b us)) later))
    | inr small ↦
        let skips : place_for (sized b (p ∷ us)) end need ≡ place_for (sized b us) end need = rw (partly, small) refl in
        rw (partly, small) (elim i [ inl q ↦ inl q | inr j ↦ inr (stays_listed b need end us m j (λ q. other (q ∙ sym skips))) ])
  ]
]
  where
    here : (x : ℕ) → x ≡ p → x ≡ p
    here x e = e

module _ {b taken filled now records list : List ℕ} {need place type : ℕ} (sound : IsSound b (shape b)) (fills : Fills b taken filled (shape b) records list need place type) {late : List Mark} (later : Edit filled now records records late []) (as_long : length now ≡ length filled) (lately : is_late late type ≡ true) (records_are : (shape now).records ≡ records) (list_are : (shape now).unused ≡ list) where
  abbrev s : Shape
  s = shape b

  now_type : type_at now place ≢ uir_type
  now_type e = fills.in_use (sym (made_type sound fills later as_long lately) ∙ e)

  stands_still : (m : ℕ) → In m s.records → type_at b m ≢ uir_type → Same b now (m + 0) (m + 12)
  stands_still m i other = (made_edit sound fills later as_long lately).head m i other (λ r. other (subst (λ (x : ℕ). type_at b x ≡ uir_type) (sym (the_one place m r)) (fresh sound fills (subst (λ (x : ℕ). In x s.records) (the_one place m r) i))))

  used_among : (m : ℕ) → In m (used_records now) → Among (m, size_at now m) ((place, need) ∷ sized b (used_records b))
  used_among m i =
      let u = used_says now m i in
      elim ((made_edit sound fills later as_long lately).kind m (subst (In m) records_are u.0)) [
        | inl old ↦
            let other = λ (t : type_at b m ≡ uir_type). u.1 (old.1 ∙ t) in
            inr (among_sized b (used_records b) m (size_at now m) (used_if b m old.0 other) (head_size b now m (stands_still m old.0 other)))
        | inr new ↦ elim new [
          | inl free ↦ absurd (u.1 free.1)
          | inr again ↦ inl (ap₂ (λ (x n : ℕ). (x, n)) (the_one place m again) (ap (size_at now) (the_one place m again) ∙ made_size sound fills later as_long lately))
        ]
      ]

  sizes_are : sized now list ≡ taken_from (unused b s) need
  sizes_are = (listed sound fills later as_long lately).list_is

  stays_on : (m : ℕ) → In m s.unused → m ≢ place → In m list
  stays_on m i other =
      subst (In m) (ap (map (λ pair. pair.0)) (sym sizes_are) ∙ places-sized now list)
      (stays_listed b need (length b) s.unused m i (λ e. other (e ∙ sym (listed sound fills later as_long lately).place_is)))

  loose_among : (m : ℕ) → In m (loose_records now) → Among (m, size_at now m) (sized b (loose_records b))
  loose_among m i =
      let l = loose_says now m i in
      let off : In m list → ⊥ = λ j. l.unlisted (subst (In m) (sym list_are) j) in
      let no_place : m ≢ place = λ e. now_type (ap (type_at now) (sym e) ∙ l.typed) in
      elim (made_new sound fills later as_long lately m (subst (In m) records_are l.stands)) [
        | inl old ↦
            let out : In m s.unused → ⊥ = λ j. off (stays_on m j no_place) in
            let typed : type_at b m ≡ uir_type = elim (either (type_at b m == uir_type)) [
              | inl t ↦ eqb-true (type_at b m) uir_type t
              | inr t ↦ absurd (differs (type_at b m) t (sym (head_type b now m (stands_still m old (differs (type_at b m) t))) ∙ l.typed))
            ] in
            let away = away-avoids (making_marks s.unused place need late) uir_type m 0 12 (loose_away sound fills later as_long lately m old out) in
            let long = (tile_lies b 8 (length b) s.records m sound.has_shape.tiled old).long in
            among_sized b (loose_records b) m (size_at now m) (loose_if b m (record { stands = old; typed = typed; unlisted = out }))
            (head_size b now m ((made_edit sound fills later as_long lately).part m uir_type 0 12 old typed away away long))
        | inr new ↦ elim new [ inl e ↦ absurd (no_place e) | inr rest ↦ absurd (off rest.on_list) ]
      ]

  rest_follows : (split rest : ℕ) → In split s.unused → In rest list → RestStays b now (Took place need ∷ []) split rest
  rest_follows split rest i j low high k from upto untaken =
      let in_records = linkable-in filled records uir_type rest ((filled_sound sound fills).has_shape.unused_chain.linkable rest j) in
      elim (made_new sound fills later as_long lately rest in_records) [
        | inl old ↦ absurd (no_rest b sound.has_shape split rest (linkable-in b s.records uir_type split (sound.has_shape.unused_chain.linkable split i)) old low high)
        | inr new ↦ elim new [
          | inl e ↦ absurd (false-is_in place list fills.takes.unlisted (subst (λ (x : ℕ). In x list) e j))
          | inr r ↦ (rest_stays sound fills later as_long lately rest in_records r).each k from upto
        ]
      ]

  pub acts_took : ActsFollow b now (Took place need ∷ [])
  acts_took = record {
    are = ((fills.enough, (listed sound fills later as_long lately).place_is), tt);
    left = record {
      used_are = each (λ m. Among (m, size_at now m) ((place, need) ∷ sized b (used_records b))) (used_records now) used_among;
      list_is = ap (sized now) list_are ∙ sizes_are;
      back_is =
          ap (backs now) list_are
          ∙ backs_follow b now s.unused 0 list (listed sound fills later as_long lately).back
          ∙ ap (back_after (backs b s.unused) s.unused 0) sizes_are
          ∙ ap (λ (was : List ℕ). back_after (backs b s.unused) was 0 (taken_from (unused b s) need)) (sym (places-sized b s.unused));
      loose_are = each (λ m. Among (m, size_at now m) (sized b (loose_records b))) (loose_records now) loose_among;
      end_is = (listed sound fills later as_long lately).length_is;
    };
    rests = each (λ split. Each (RestStays b now (Took place need ∷ []) split) (shape now).unused) s.unused (λ split i.
        each (RestStays b now (Took place need ∷ []) split) (shape now).unused (λ rest j. rest_follows split rest i (subst (In rest) list_are j)));
  }
