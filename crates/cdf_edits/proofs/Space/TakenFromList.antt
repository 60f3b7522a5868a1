-- A record of the unused list is taken, whole or split.
use Rattle.cdf_edits.proofs.Common.{AllSpare, AreTiles, BackLinksFollow, Bool, Changed, Distinct, Distinct-back, Distinct-middle, Field, HasShape, In, In-append, In-append_left, In-append_right, IsChain, IsHead, IsSound, Leads, List, Misses, NoneFit, Placed, Same, Same-part, Shape, TakenBytes, Takes, Touch, TouchesNone, [], ap, arith, cases_eq, chain_head, content, either, end_place, eof, eof_after, eqb, eqb-true, false, first_back_link, fits, fixed_size, gdr_type, gdr_uir_head, if◌then◌else◌, inl, inr, is_a-from, is_a-in, is_a-type, is_in-false, is_linkable, is_record_type, length, link_field, link_tile, linkable-in, linkable-long, linkable-type, next_of, number, place_for, prev_of, refl, size_at, split_width, subst, sym, taken_from, taking, tile_lies, touch, touched_by, touched_field, true, type_at, uir_next_uir, uir_type, unused, with_space, word, word_kept, ℕ, ◌++◌, ◌+◌, ◌∙◌, ◌∷◌, ◌≡◌, ◌≢◌, ◌≤◌, ◌⊎◌, sized}
use Rattle.cdf_edits.proofs.Frame.ChangedBytes.{changed_part, changed_whole}
use Rattle.cdf_edits.proofs.Frame.LinksStay.{leads_same}
use Rattle.cdf_edits.proofs.Frame.LinkWritten.{one_chain}
use Rattle.cdf_edits.proofs.Space.UsedRecords.{apart, used-in}
use Rattle.cdf_edits.proofs.Space.SpaceSound.{UsedStay, used_stay_sound}
use Rattle.cdf_edits.proofs.Space.UnusedLists.{first_misses, first_other, none_first, place_skips, place_first, taking_skips, taking_first, RestKept}

-- ---- lists

pub distinct_without : (front : List ℕ) (a : ℕ) (more : List ℕ) → Distinct (front ++ a ∷ more) → Distinct (front ++ more)
distinct_without [] a more d = d.1
distinct_without (m ∷ front) a more d = ((λ i. d.0 (elim (In-append m front more i) [ inl j ↦ In-append_left m front (a ∷ more) j | inr j ↦ In-append_right m front (a ∷ more) (inr j) ])), distinct_without front a more d.1)

pub distinct_with : (front : List ℕ) (q : ℕ) (more : List ℕ) → Distinct (front ++ more) → (In q (front ++ more) → ⊥) → Distinct (front ++ q ∷ more)
distinct_with [] q more d out = (out, d)
distinct_with (m ∷ front) q more d out = (
  (λ i. elim (In-append m front (q ∷ more) i) [
    | inl j ↦ d.0 (In-append_left m front more j)
    | inr j ↦ elim j [ inl e ↦ out (inl (sym e)) | inr k ↦ d.0 (In-append_right m front more k) ]
  ]),
  distinct_with front q more d.1 (λ i. out (inr i)),
)

pub distinct_apart : (front : List ℕ) (rest : List ℕ) (m : ℕ) → Distinct (front ++ rest) → In m front → In m rest → ⊥
distinct_apart [] rest m d i j = i
distinct_apart (x ∷ front) rest m d (inl e) j = d.0 (subst (λ (y : ℕ). In y (front ++ rest)) e (In-append_right m front rest j))
distinct_apart (x ∷ front) rest m d (inr i) j = distinct_apart front rest m d.1 i j

-- links that lead through the same list are the same
pub same_link : (b now : List ℕ) (x y : ℕ) (ms : List ℕ) → Leads b x ms 0 → Leads now y ms 0 → x ≡ y
same_link b now x y [] p q = p ∙ sym q
same_link b now x y (k ∷ ms) p q = p.0 ∙ sym q.0

pub leads_rest : (b : List ℕ) (link : ℕ) (front : List ℕ) (a : ℕ) (more : List ℕ) → Leads b link (front ++ a ∷ more) 0 → Leads b (next_of b a) more 0
leads_rest b link [] a more l = l.1
leads_rest b link (m ∷ front) a more l = leads_rest b (next_of b m) front a more l.1

-- the link behind a front part
pub link_after : (holder : ℕ) (f : Field) (front : List ℕ) → (end_place (holder + f.place) front ≡ link_tile holder front + (link_field f front).place)
    × ((link_tile holder front ≡ holder) × ((link_field f front).place ≡ f.place) ⊎ In (link_tile holder front) front × ((link_field f front).place ≡ 12))
link_after holder f [] = (refl, inl (refl, refl))
link_after holder f (m ∷ front) = let r = link_after m uir_next_uir front in (r.0, elim r.1 [ inl g ↦ inr (inl g.0, g.1) | inr g ↦ inr (inr g.0, g.1) ])

pub link_wide : (f : Field) (front : List ℕ) → f.width ≡ 8 → (link_field f front).width ≡ 8
link_wide f [] e = e
link_wide f (m ∷ front) e = link_wide uir_next_uir front refl

pub member_split : (m : ℕ) (ts : List ℕ) → In m ts → (before : List ℕ) × ((after : List ℕ) × (ts ≡ before ++ m ∷ after))
member_split m [] i = absurd i
member_split m (t ∷ ts) (inl e) = ([], (ts, ap (λ (x : ℕ). x ∷ ts) (sym e)))
member_split m (t ∷ ts) (inr i) = let r = member_split m ts i in (t ∷ r.0, (r.1.0, ap (λ (xs : List ℕ). t ∷ xs) r.1.1))

-- ---- the image

module _ (b now : List ℕ) (s : Shape) (front : List ℕ) (a : ℕ) (more : List ℕ) (need w next : ℕ) (sound : IsSound b s) (list : s.unused ≡ front ++ a ∷ more) (taken : TakenBytes b now s.gdr front a more need w next) (within : w ≤ size_at b a) (whole_eof : eof b s.gdr ≡ length b) where
  h : HasShape b s
  h = sound.has_shape

  abbrev touches : List Touch
  touches = touched_by s.gdr front a more w

  pub once : Distinct (front ++ a ∷ more)
  once = subst Distinct list h.unused_chain.once

  pub linkable : (m : ℕ) → In m (front ++ a ∷ more) → is_linkable b s.records uir_type m ≡ true
  linkable m i = h.unused_chain.linkable m (subst (λ (xs : List ℕ). In m xs) (sym list) i)

  pub in_list : (m : ℕ) → In m (front ++ more) → In m (front ++ a ∷ more)
  in_list m i = elim (In-append m front more i) [ inl j ↦ In-append_left m front (a ∷ more) j | inr j ↦ In-append_right m front (a ∷ more) (inr j) ]

  front_in : (m : ℕ) → In m front → In m (front ++ a ∷ more)
  front_in m i = In-append_left m front (a ∷ more) i

  pub more_in : (m : ℕ) → In m more → In m (front ++ a ∷ more)
  more_in m i = In-append_right m front (a ∷ more) (inr i)

  a_in : In a (front ++ a ∷ more)
  a_in = In-append_right a front (a ∷ more) (inl refl)

  pub a_tile : In a s.records
  a_tile = linkable-in b s.records uir_type a (linkable a a_in)

  pub a_not_front : In a front → ⊥
  a_not_front i = Distinct-middle front a more once i

  pub a_not_more : In a more → ⊥
  a_not_more i = (Distinct-back front (a ∷ more) once).0 i

  pub other_than_a : (m : ℕ) → In m (front ++ more) → m ≢ a
  other_than_a m i e = elim (In-append m front more i) [ inl j ↦ a_not_front (subst (λ (x : ℕ). In x front) e j) | inr j ↦ a_not_more (subst (λ (x : ℕ). In x more) e j) ]

  -- a record of another type is none of the list
  no_member : (m x : ℕ) → type_at b m ≢ uir_type → In x (front ++ a ∷ more) → m ≢ x
  no_member m x other i e = other (ap (type_at b) e ∙ linkable-type b s.records uir_type x (linkable x i))

  gdr_in : In s.gdr s.records
  gdr_in = is_a-in b s.records gdr_type s.gdr h.gdr_stands

  gdr_other : type_at b s.gdr ≢ uir_type
  gdr_other u = apart gdr_type uir_type refl (sym (is_a-type b s.records gdr_type s.gdr h.gdr_stands) ∙ u)

  gdr_long : 84 ≤ size_at b s.gdr
  gdr_long = subst (λ (t : ℕ). fixed_size t ≤ size_at b s.gdr) (is_a-type b s.records gdr_type s.gdr h.gdr_stands) (h.fixed s.gdr gdr_in)

  placed_first : (rs : List ℕ) → ((m : ℕ) → In m rs → In m (front ++ a ∷ more)) → Placed b s.records (length b) (first_back_link rs)
  placed_first [] sub = tt
  placed_first (r ∷ rs) sub =
      let ok = linkable r (sub r (inl refl)) in
      let l = linkable-long b s.records uir_type r ok in
      (inl (linkable-in b s.records uir_type r ok, (omega arith)), tt)

  abbrev tile : ℕ
  tile = link_tile s.gdr front

  abbrev field : Field
  field = link_field gdr_uir_head front

  link_inside : In tile s.records × (field.place + field.width ≤ size_at b tile)
  link_inside = elim (link_after s.gdr gdr_uir_head front).1 [
    | inl g ↦ (subst (λ (x : ℕ). In x s.records) (sym g.0) gdr_in, rw (g.0, g.1, link_wide gdr_uir_head front refl) (let l = gdr_long in omega arith))
    | inr g ↦
        let ok = linkable tile (front_in tile g.0) in
        let l = linkable-long b s.records uir_type tile ok in
        (linkable-in b s.records uir_type tile ok, rw (g.1, link_wide gdr_uir_head front refl) (omega arith))
  ]

  placed : Placed b s.records (length b) touches
  placed = (inl link_inside, (inl (a_tile, omega (arith, within)), placed_first more more_in))

  -- the parts of records that are not touched
  link_low : 12 ≤ field.place
  link_low = elim (link_after s.gdr gdr_uir_head front).1 [ inl g ↦ subst (λ (p : ℕ). 12 ≤ p) (sym g.1) (omega arith) | inr g ↦ subst (λ (p : ℕ). 12 ≤ p) (sym g.1) (omega arith) ]

  low : (m : ℕ) → m ≢ a → Misses touches m 0 12
  low m ne = ((λ e. inl link_low), ((λ e. absurd (ne e)), first_misses more m 0 12 (omega arith)))

  part : (m lo hi : ℕ) → In m s.records → hi ≤ size_at b m → Misses touches m lo hi → Same b now (m + lo) (m + hi)
  part m lo hi i fits miss = changed_part b now s.records (length b) h.tiled (omega arith) touches taken.changed placed m lo hi i fits miss

  pub sizes : (m : ℕ) → In m s.records → m ≢ a → size_at now m ≡ size_at b m
  sizes m i ne = let l = (tile_lies b 8 (length b) s.records m h.tiled i).long in word_kept b now (m + 0) (m + 12) (part m 0 12 i l (low m ne)) (m + 0) 8 (omega arith) (omega arith)

  pub types : (m : ℕ) → In m s.records → m ≢ a → type_at now m ≡ type_at b m
  types m i ne = let l = (tile_lies b 8 (length b) s.records m h.tiled i).long in word_kept b now (m + 0) (m + 12) (part m 0 12 i l (low m ne)) (m + 8) 4 (omega arith) (omega arith)

  pub list_sizes : (m : ℕ) → In m (front ++ more) → size_at now m ≡ size_at b m
  list_sizes m i = sizes m (linkable-in b s.records uir_type m (linkable m (in_list m i))) (other_than_a m i)

  used_same : (m : ℕ) → In m s.records → type_at b m ≢ uir_type → m ≢ s.gdr → Same b now m (m + size_at b m)
  used_same m i other no_gdr =
      let not_link : tile ≢ m = λ e. elim (link_after s.gdr gdr_uir_head front).1 [ inl g ↦ no_gdr (sym e ∙ g.0) | inr g ↦ no_member m tile other (front_in tile g.0) (sym e) ] in
      let none : TouchesNone touches (m ∷ []) = (
        (λ j. elim j [ inl e ↦ not_link e | inr n ↦ n ]),
        ((λ j. elim j [ inl e ↦ no_member m a other a_in (sym e) | inr n ↦ n ]), none_first more m (λ j. no_member m m other (more_in m j) refl)),
      ) in
      changed_whole b now s.records (length b) h.tiled (omega arith) touches taken.changed placed (m ∷ []) m i (inl refl) none

  gdr_misses : (lo hi : ℕ) → (hi ≤ 64) ⊎ (72 ≤ lo) → Misses touches s.gdr lo hi
  gdr_misses lo hi beside = (
    (λ e. elim (link_after s.gdr gdr_uir_head front).1 [
      | inl g ↦ rw (g.1, link_wide gdr_uir_head front refl) beside
      | inr g ↦ absurd (no_member s.gdr tile gdr_other (front_in tile g.0) e)
    ]),
    ((λ e. absurd (no_member s.gdr a gdr_other a_in e)), first_other more s.gdr lo hi (λ j. no_member s.gdr s.gdr gdr_other (more_in s.gdr j) refl)),
  )

  gdr_part : (lo hi : ℕ) → hi ≤ size_at b s.gdr → (hi ≤ 64) ⊎ (72 ≤ lo) → Same b now (s.gdr + lo) (s.gdr + hi)
  gdr_part lo hi fits beside = part s.gdr lo hi gdr_in fits (gdr_misses lo hi beside)

  eof_now : eof now s.gdr ≡ length now
  eof_now = let l = gdr_long in word_kept b now (s.gdr + 36) (s.gdr + 44) (gdr_part 36 44 (omega arith) (inl (omega arith))) (s.gdr + 36) 8 (omega arith) (omega arith) ∙ whole_eof ∙ sym taken.as_long

  -- links of the list
  pub front_prev : (m : ℕ) → In m front → prev_of now m ≡ prev_of b m
  front_prev m i =
      let ok = linkable m (front_in m i) in
      let l = linkable-long b s.records uir_type m ok in
      let miss : Misses touches m 20 28 = (
        (λ e. elim (link_after s.gdr gdr_uir_head front).1 [
          | inl g ↦ absurd (no_member s.gdr m gdr_other (front_in m i) (sym g.0 ∙ sym e))
          | inr g ↦ inr (rw (g.1, link_wide gdr_uir_head front refl) (omega arith))
        ]),
        ((λ e. absurd (a_not_front (subst (λ (x : ℕ). In x front) e i))), first_other more m 20 28 (λ j. distinct_apart front (a ∷ more) m once i (inr j))),
      ) in
      word_kept b now (m + 20) (m + 28) (part m 20 28 (linkable-in b s.records uir_type m ok) l miss) (m + 20) 8 (omega arith) (omega arith)

  more_misses_link : (m lo hi : ℕ) → In m more → tile ≢ m
  more_misses_link m lo hi i e = elim (link_after s.gdr gdr_uir_head front).1 [
    | inl g ↦ no_member s.gdr m gdr_other (more_in m i) (sym g.0 ∙ e)
    | inr g ↦ distinct_apart front (a ∷ more) m once (subst (λ (x : ℕ). In x front) e g.0) (inr i)
  ]

  more_next : (m : ℕ) → In m more → next_of now m ≡ next_of b m
  more_next m i =
      let ok = linkable m (more_in m i) in
      let l = linkable-long b s.records uir_type m ok in
      let miss : Misses touches m 12 20 = ((λ e. absurd (more_misses_link m 12 20 i (sym e))), ((λ e. absurd (a_not_more (subst (λ (x : ℕ). In x more) e i))), first_misses more m 12 20 (omega arith))) in
      word_kept b now (m + 12) (m + 20) (part m 12 20 (linkable-in b s.records uir_type m ok) (omega arith) miss) (m + 12) 8 (omega arith) (omega arith)

  rest_prev_of : (rs : List ℕ) → more ≡ rs → RestKept b now rs
  rest_prev_of [] e = tt
  rest_prev_of (r ∷ rest) e = λ m i.
      let j : In m more = subst (λ (xs : List ℕ). In m xs) (sym e) (inr i) in
      let distinct : Distinct (r ∷ rest) = subst Distinct e (Distinct-back front (a ∷ more) once).1 in
      let ok = linkable m (more_in m j) in
      let l = linkable-long b s.records uir_type m ok in
      let firsts : Misses (first_back_link more) m 20 28 = subst (λ (xs : List ℕ). Misses (first_back_link xs) m 20 28) (sym e) ((λ f. absurd (distinct.0 (subst (λ (x : ℕ). In x rest) f i))), tt) in
      let miss : Misses touches m 20 28 = ((λ f. absurd (more_misses_link m 20 28 j (sym f))), ((λ f. absurd (a_not_more (subst (λ (x : ℕ). In x more) f j))), firsts)) in
      word_kept b now (m + 20) (m + 28) (part m 20 28 (linkable-in b s.records uir_type m ok) l miss) (m + 20) 8 (omega arith) (omega arith)

  pub rest_prev : RestKept b now more
  rest_prev = rest_prev_of more refl

  pub more_leads : Leads now (next_of b a) more 0
  more_leads =
      let l : Leads b (number b s.gdr gdr_uir_head) (front ++ a ∷ more) 0 = subst (λ (xs : List ℕ). Leads b (number b s.gdr gdr_uir_head) xs 0) list h.unused_chain.leads in
      leads_same b now (next_of b a) more 0 (leads_rest b (number b s.gdr gdr_uir_head) front a more l) more_next

  -- ---- with the records and the list that it has now

  head_b : IsHead b s.records (chain_head s.gdr 64 uir_type (front ++ a ∷ more))
  head_b = record {
    holder_in = gdr_in;
    fits = (let l = gdr_long in omega arith);
    later = inl (omega arith);
    linked = refl;
    chain_is = subst (λ (xs : List ℕ). IsChain b s.records uir_type (number b s.gdr gdr_uir_head) xs) list h.unused_chain;
  }

  spare_first : (rs : List ℕ) → ((m : ℕ) → In m rs → In m more) → AllSpare (first_back_link rs) (chain_head s.gdr 64 uir_type front)
  spare_first [] sub = tt
  spare_first (r ∷ rs) sub =
      let out : s.gdr ≢ r = no_member s.gdr r gdr_other (more_in r (sub r (inl refl))) in
      (record { holder = λ e. absurd (out e); head = λ e. absurd (out e); member = λ i. absurd (distinct_apart front (a ∷ more) r once i (inr (sub r (inl refl)))) }, tt)

  module _ (records tail : List ℕ) (tiled : AreTiles now 8 (length now) records) (sub : (m : ℕ) → In m s.records → In m records) (new : (m : ℕ) → In m records → In m s.records ⊎ (type_at now m ≡ uir_type)) (leads : Leads now next tail 0) (tail_linkable : (z : ℕ) → In z tail → is_linkable now records uir_type z ≡ true) (once_now : Distinct (front ++ tail)) where
    list_now : IsChain now records uir_type (number now s.gdr gdr_uir_head) (front ++ tail)
    list_now =
        let wide : touched_field tile field ≡ touch tile field.place 8 = ap (touch tile field.place) (link_wide gdr_uir_head front refl) in
        let rest = touch a 0 w ∷ first_back_link more in
        let change : Changed b now (touch tile field.place 8 ∷ rest) = subst (λ (t : Touch). Changed b now (t ∷ rest)) wide taken.changed in
        let place : Placed b s.records (length b) (touch tile field.place 8 ∷ rest) = subst (λ (t : Touch). Placed b s.records (length b) (t ∷ rest)) wide placed in
        let after = link_after s.gdr gdr_uir_head front in
        let to : Leads now (word now (tile + field.place) 8) tail 0 = subst (λ (p : ℕ). Leads now (word now p 8) tail 0) after.0 (subst (λ (x : ℕ). Leads now x tail 0) (sym taken.link_is) leads) in
        let no_a : s.gdr ≢ a = no_member s.gdr a gdr_other a_in in
        (one_chain b now s.records records (length b) h.tiled (omega arith) sub tile field.place rest change place (chain_head s.gdr 64 uir_type (front ++ a ∷ more)) front (a ∷ more) tail head_b after
        (record { holder = λ e. absurd (no_a e); head = λ e. absurd (no_a e); member = λ i. absurd (a_not_front i) }, spare_first more (λ m i. i))
        to tail_linkable once_now).chain_is

    stay : UsedStay b now s records (front ++ tail)
    stay = let l = gdr_long in record {
      longer = (let e = taken.as_long in omega arith);
      kept = used_same;
      gdr_front = Same-part b now (s.gdr + 0) (s.gdr + 36) s.gdr (s.gdr + 36) (gdr_part 0 36 (omega arith) (inl (omega arith))) (omega arith) (omega arith);
      gdr_middle = gdr_part 44 64 (omega arith) (inl (omega arith));
      gdr_back = gdr_part 72 (size_at b s.gdr) (omega arith) (inr (omega arith));
      sub = λ m i. sub m (used-in b [] s.records m i);
      tiled = tiled;
      typed = λ m i. elim (new m i) [
        | inr u ↦ subst (λ (t : ℕ). is_record_type t ≡ true) (sym u) refl
        | inl j ↦ elim (cases_eq m a) [
          | inl e ↦ subst (λ (t : ℕ). is_record_type t ≡ true) (sym (ap (type_at now) e ∙ taken.type_is)) refl
          | inr ne ↦ subst (λ (t : ℕ). is_record_type t ≡ true) (sym (types m j ne)) (h.typed m j)
        ]
      ];
      fixed = λ m i. elim (new m i) [
        | inr u ↦ subst (λ (t : ℕ). fixed_size t ≤ size_at now m) (sym u) (tile_lies now 8 (length now) records m tiled i).long
        | inl j ↦ elim (cases_eq m a) [
          | inl e ↦ subst (λ (t : ℕ). fixed_size t ≤ size_at now m) (sym (ap (type_at now) e ∙ taken.type_is)) (tile_lies now 8 (length now) records m tiled i).long
          | inr ne ↦ subst (λ (t : ℕ). fixed_size t ≤ size_at now m) (sym (types m j ne)) (subst (λ (n : ℕ). fixed_size (type_at b m) ≤ n) (sym (sizes m j ne)) (h.fixed m j))
        ]
      ];
      unused_chain = list_now;
    }

    pub taken_sound : IsSound now (with_space s records (front ++ tail)) × (content now ≡ content b)
    taken_sound = used_stay_sound b now s records (front ++ tail) sound stay

    module _ (none : NoneFit b need front) (first : fits need (size_at b a) ≡ true) (wide : w ≡ split_width need (size_at b a)) (list_is : sized now (front ++ tail) ≡ taken_from (sized b (front ++ a ∷ more)) need) (unlisted : In a (front ++ tail) → ⊥) (back : BackLinksFollow b now s (with_space s records (front ++ tail))) where
      place_is : a ≡ place_for (unused b s) (length b) need
      place_is = sym (ap (λ (xs : List ℕ). place_for (sized b xs) (length b) need) list ∙ place_skips b need (length b) front (a ∷ more) none ∙ place_first b need (length b) a more first)

      inside : a ≢ length b
      inside e = let l = tile_lies b 8 (length b) s.records a h.tiled a_tile in past a (size_at b a) (length b) l.high l.long e
        where
          past : (x n y : ℕ) → x + n ≤ y → 12 ≤ n → x ≡ y → ⊥
          past x n y p q r = absurd (omega arith)

      no_longer : length now ≡ eof_after (unused b s) (length b) need
      no_longer =
          let other : eqb (place_for (unused b s) (length b) need) (length b) ≡ false = subst (λ (x : ℕ). eqb x (length b) ≡ false) place_is (elim (either (eqb a (length b))) [ inl e ↦ absurd (inside (eqb-true a (length b) e)) | inr e ↦ e ]) in
          taken.as_long ∙ sym (ap (λ (p : Bool). if p then length b + need else length b) other)

      touched : touches ≡ taking s.gdr s.gdr gdr_uir_head (unused b s) need
      touched =
          ap (λ (x : ℕ). touched_by s.gdr front a more x) wide
          ∙ sym (ap (λ (xs : List ℕ). taking s.gdr s.gdr gdr_uir_head (sized b xs) need) list ∙ taking_skips b need s.gdr s.gdr gdr_uir_head front (a ∷ more) none ∙ taking_first b need s.gdr tile field a more first)

      pub taken_takes : Takes b now s (with_space s records (front ++ tail)) need a
      taken_takes = record {
        place_is = place_is;
        list_is = list_is ∙ ap (λ (xs : List ℕ). taken_from (sized b xs) need) (sym list);
        length_is = no_longer;
        eof_is = eof_now;
        space = record { rest_stays = refl; tiled = tiled; unused_chain = list_now };
        stands = is_a-from now records uir_type a (sub a a_tile) taken.type_is;
        size_is = taken.size_is;
        empty = taken.empty;
        unlisted = is_in-false a (front ++ tail) unlisted;
        back = back;
        changed = subst (λ (ts : List Touch). Changed b now ts) touched taken.changed;
      }
