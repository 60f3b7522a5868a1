-- A record of the unused list is taken by writes of fields.
use Rattle.cdf_space.proofs.Common.{Bool, Cleared, Distinct, Distinct-back, EndBytes, Err, Field, FirstBack, Fit, HasShape, IfOk, In, In-append_left, In-append_right, IsFirstFit, IsSound, IsTaken, Leads, LiesIn, List, Listed, MatchOption, None, NoneFit, Ok, Option, Outside, Relinked, RestBytes, Result, Shape, TakenBytes, Touch, [], ap, apart, arith, back_link, byte, changed_then, distinct_apart, end_place, eof, eqb, eqb-true, false, first_back_link, fixed_size, gdr_offset, gdr_type, gdr_uir_head, inl, inr, is_a-in, is_a-type, is_linkable, last_of, leads_rest, leb, leb-true, length, link_after, link_field, link_tile, link_wide, linkable-in, linkable-long, linkable-type, member_split, next_of, number, prev_of, record_size, refl, shape, shape_is, size_at, some_place, subst, sym, tile_lies, tiles_lie_apart, touch, touched_by, touched_field, true, type_at, uir_type, with_field, word, ℕ, ◌++◌, ◌+◌, ◌-◌, ◌<◌, ◌^◌, ◌||◌, ◌∙◌, ◌∷◌, ◌≡◌, ◌≢◌, ◌≤◌, ◌⊎◌}
use Rattle.std.specs.Prelude.{OnOk}
use Rattle.cdf_edits.proofs.Space.TakenWays.{whole_taken, split_taken, end_taken}
use Rattle.cdf_space.proofs.Writing.{Clear, word_clear, changed_weaker, changed_field, field_is, length_is, back_link_none, back_link_some}

outside_both : (ts us : List Touch) (i : ℕ) → Outside ts i → Outside us i → Outside (ts ++ us) i
outside_both [] us i o p = p
outside_both (t ∷ ts) us i o p = (o.0, outside_both ts us i o.1 p)

clear_both : (ts us : List Touch) (place n : ℕ) → Clear ts place n → Clear us place n → Clear (ts ++ us) place n
clear_both [] us place n c d = d
clear_both (t ∷ ts) us place n c d = (c.0, clear_both ts us place n c.1 d)

-- what is taken makes the shape that the image has
pub taken_now : (b now : List ℕ) (s s' : Shape) (need place : ℕ) → IsTaken b now s s' need place → IsTaken b now s (shape now) need place
taken_now b now s s' need place t = subst (λ (x : Shape). IsTaken b now s x need place) (sym (shape_is now s' t.1.has_shape)) t

module _ (b : List ℕ) (s : Shape) (need : ℕ) (fit : Fit) (sound : IsSound b s) (first : IsFirstFit b s need fit) where
  h : HasShape b s
  h = sound.has_shape

  abbrev a : ℕ
  a = fit.place

  abbrev front : List ℕ
  front = first.front

  abbrev more : List ℕ
  more = first.more

  abbrev tile : ℕ
  tile = link_tile s.gdr front

  abbrev field : Field
  field = link_field gdr_uir_head front

  once : Distinct (front ++ a ∷ more)
  once = subst Distinct first.list_is h.unused_chain.once

  ok : (m : ℕ) → In m (front ++ a ∷ more) → is_linkable b s.records uir_type m ≡ true
  ok m i = h.unused_chain.linkable m (subst (λ (xs : List ℕ). In m xs) (sym first.list_is) i)

  stands : (m : ℕ) → In m (front ++ a ∷ more) → In m s.records
  stands m i = linkable-in b s.records uir_type m (ok m i)

  long : (m : ℕ) → In m (front ++ a ∷ more) → 28 ≤ size_at b m
  long m i = linkable-long b s.records uir_type m (ok m i)

  back_in : (m : ℕ) → In m (a ∷ more) → In m (front ++ a ∷ more)
  back_in m i = In-append_right m front (a ∷ more) i

  a_in : In a (a ∷ more)
  a_in = inl refl

  pub a_ends : a + size_at b a ≤ length b
  a_ends = (tile_lies b 8 (length b) s.records a h.tiled (stands a (back_in a a_in))).high

  gdr_in : In s.gdr s.records
  gdr_in = is_a-in b s.records gdr_type s.gdr h.gdr_stands

  gdr_other : (m : ℕ) → In m (front ++ a ∷ more) → s.gdr ≢ m
  gdr_other m i e = apart gdr_type uir_type refl (sym (is_a-type b s.records gdr_type s.gdr h.gdr_stands) ∙ ap (type_at b) e ∙ linkable-type b s.records uir_type m (ok m i))

  gdr_long : 84 ≤ size_at b s.gdr
  gdr_long = subst (λ (t : ℕ). fixed_size t ≤ size_at b s.gdr) (is_a-type b s.records gdr_type s.gdr h.gdr_stands) (h.fixed s.gdr gdr_in)

  link_at : fit.link ≡ tile + field.place
  link_at = first.link_is ∙ (link_after s.gdr gdr_uir_head front).0

  tile_in : In tile s.records × (field.place + 8 ≤ size_at b tile)
  tile_in = elim (link_after s.gdr gdr_uir_head front).1 [
    | inl g ↦ (subst (λ (x : ℕ). In x s.records) (sym g.0) gdr_in, rw (g.0, g.1) (let l = gdr_long in omega arith))
    | inr g ↦
        let i = In-append_left tile front (a ∷ more) g.0 in
        let l = long tile i in
        (stands tile i, subst (λ (p : ℕ). p + 8 ≤ size_at b tile) (sym g.1) (omega arith))
  ]

  tile_not : (m : ℕ) → In m (a ∷ more) → tile ≢ m
  tile_not m i e = elim (link_after s.gdr gdr_uir_head front).1 [
    | inl g ↦ gdr_other m (back_in m i) (sym g.0 ∙ e)
    | inr g ↦ distinct_apart front (a ∷ more) m once (subst (λ (x : ℕ). In x front) e g.0) i
  ]

  link_apart : (m : ℕ) → In m (a ∷ more) → (fit.link + 8 ≤ m) ⊎ (m + size_at b m ≤ fit.link)
  link_apart m i = between tile field.place fit.link m (size_at b tile) (size_at b m) link_at tile_in.1 (tiles_lie_apart b 8 (length b) s.records tile m h.tiled tile_in.0 (stands m (back_in m i)) (tile_not m i))
    where
      between : (t p l m w n : ℕ) → l ≡ t + p → p + 8 ≤ w → (t + w ≤ m) ⊎ (m + n ≤ t) → (l + 8 ≤ m) ⊎ (m + n ≤ l)
      between t p l m w n e f (inl x) = inl (omega arith)
      between t p l m w n e f (inr x) = inr (omega arith)

  more_apart : (m : ℕ) → In m more → (m + size_at b m ≤ a) ⊎ (a + size_at b a ≤ m)
  more_apart m i = tiles_lie_apart b 8 (length b) s.records m a h.tiled (stands m (back_in m (inr i))) (stands a (back_in a a_in)) (λ e. (Distinct-back front (a ∷ more) once).0 (subst (λ (x : ℕ). In x more) e i))

  pub link_lies : fit.link + 8 ≤ length b
  link_lies = let l = tile_lies b 8 (length b) s.records tile h.tiled tile_in.0 in within tile field.place fit.link (size_at b tile) link_at tile_in.1 l.high
    where
      within : (t p l w : ℕ) → l ≡ t + p → p + 8 ≤ w → t + w ≤ length b → l + 8 ≤ length b
      within t p l w e f g = omega arith

  -- the record behind it
  more_is : ((fit.next ≡ 0) × (more ≡ [])) ⊎ ((rest : List ℕ) × (more ≡ fit.next ∷ rest))
  more_is = go more (subst (λ (x : ℕ). Leads b x more 0) (sym first.next_is) (leads_rest b (number b s.gdr gdr_uir_head) front a more (subst (λ (xs : List ℕ). Leads b (number b s.gdr gdr_uir_head) xs 0) first.list_is h.unused_chain.leads)))
    where
      go : (xs : List ℕ) → Leads b fit.next xs 0 → ((fit.next ≡ 0) × (xs ≡ [])) ⊎ ((rest : List ℕ) × (xs ≡ fit.next ∷ rest))
      go [] l = inl (l, refl)
      go (m ∷ xs) l = inr (xs, ap (λ (x : ℕ). x ∷ xs) (sym l.0))

  next_in : fit.next ≢ 0 → In fit.next more
  next_in ne = elim more_is [ inl n ↦ absurd (ne n.0) | inr n ↦ subst (λ (xs : List ℕ). In fit.next xs) (sym n.1) (inl refl) ]

  next_some : In fit.next more → fit.next ≢ 0
  next_some i = some_place b s.records (length b) fit.next h.tiled (stands fit.next (back_in fit.next (inr i)))

  pub next_lies : fit.next ≢ 0 → fit.next + 28 ≤ length b
  next_lies ne =
      let i = back_in fit.next (inr (next_in ne)) in
      let l = (tile_lies b 8 (length b) s.records fit.next h.tiled (stands fit.next i)).high in
      let w = long fit.next i in
      omega arith

  pub next_apart : fit.next ≢ 0 → (fit.link + 8 ≤ fit.next + 20) ⊎ (fit.next + 28 ≤ fit.link)
  next_apart ne =
      let w = long fit.next (back_in fit.next (inr (next_in ne))) in
      elim (link_apart fit.next (inr (next_in ne))) [ inl x ↦ inl (omega arith) | inr x ↦ inr (omega arith) ]

  backs : back_link fit.next ≡ first_back_link more
  backs = elim more_is [
    | inl n ↦ back_link_none fit.next n.0 ∙ sym (ap first_back_link n.1)
    | inr n ↦ back_link_some fit.next (next_some (subst (λ (xs : List ℕ). In fit.next xs) (sym n.1) (inl refl))) ∙ sym (ap first_back_link n.1)
  ]

  abbrev links : List Touch
  links = touch fit.link 0 8 ∷ back_link fit.next

  -- the links lie outside the record
  links_clear : (place n : ℕ) → a ≤ place → place + n ≤ a + size_at b a → Clear links place n
  links_clear place n low high = (
    elim (link_apart a a_in) [ inl x ↦ inr (omega arith) | inr x ↦ inl (omega arith) ],
    elim more_is [
      | inl e ↦ subst (λ (ts : List Touch). Clear ts place n) (sym (back_link_none fit.next e.0)) tt
      | inr e ↦
          let i : In fit.next more = subst (λ (xs : List ℕ). In fit.next xs) (sym e.1) (inl refl) in
          let w = long fit.next (back_in fit.next (inr i)) in
          subst (λ (ts : List Touch). Clear ts place n) (sym (back_link_some fit.next (next_some i))) (elim (more_apart fit.next i) [ inl x ↦ inr (omega arith) | inr x ↦ inl (omega arith) ], tt)
    ],
  )

  links_outside : (i w : ℕ) → Outside (touched_by s.gdr front a more w) i → Outside links i
  links_outside i w o = (
    at tile field.place field.width fit.link (link_wide gdr_uir_head front refl) link_at o.0,
    subst (λ (ts : List Touch). Outside ts i) (sym backs) o.1.1,
  )
    where
      at : (t p n l : ℕ) → n ≡ 8 → l ≡ t + p → (i < t + p) ⊎ (t + p + n ≤ i) → (i < l + 0) ⊎ (l + 0 + 8 ≤ i)
      at t p n l e f (inl x) = inl (omega arith)
      at t p n l e f (inr x) = inr (omega arith)

  first_back : (now : List ℕ) (before : ℕ) → (fit.next ≢ 0 → prev_of now fit.next ≡ before) → FirstBack now before more
  first_back now before is = elim more_is [
    | inl n ↦ subst (λ (xs : List ℕ). FirstBack now before xs) (sym n.1) tt
    | inr n ↦ subst (λ (xs : List ℕ). FirstBack now before xs) (sym n.1) (is (next_some (subst (λ (xs : List ℕ). In fit.next xs) (sym n.1) (inl refl))))
  ]

  type_b : type_at b a ≡ uir_type
  type_b = linkable-type b s.records uir_type a (ok a (back_in a a_in))

  module _ (some : 28 ≤ need) (whole_eof : eof b s.gdr ≡ length b) where
    -- ---- whole

    pub taken_whole : (b1 now : List ℕ) → fit.size ≡ need → Relinked b b1 fit fit.next fit.before → Cleared b1 now (a + 12) (need - 12) → IsTaken b now s (shape now) need a
    taken_whole b1 now size w z =
        let t = touch (a + 12) 0 (need - 12) in
        let own : size_at b a ≡ need = sym first.size_is ∙ size in
        let ends = a_ends in
        let long1 = w.length_stays in
        let inside = link_lies in
        let all = changed_then b b1 now links (t ∷ []) w.changed z.changed in
        let size_now : size_at now a ≡ need = word_clear b1 now (t ∷ []) (a + 0) 8 z.changed (omega arith) (inl (omega arith), tt) ∙ word_clear b b1 links (a + 0) 8 w.changed (omega arith) (links_clear (a + 0) 8 (omega arith) (omega arith)) ∙ own in
        let type_now : type_at now a ≡ uir_type = word_clear b1 now (t ∷ []) (a + 8) 4 z.changed (omega arith) (inl (omega arith), tt) ∙ word_clear b b1 links (a + 8) 4 w.changed (omega arith) (links_clear (a + 8) 4 (omega arith) (omega arith)) ∙ type_b in
        let link_clear : Clear (t ∷ []) fit.link 8 = (elim (link_apart a a_in) [ inl x ↦ inl (omega arith) | inr x ↦ inr (omega arith) ], tt) in
        let link_now : word now (end_place (s.gdr + 64) front) 8 ≡ next_of b a = ap (λ (p : ℕ). word now p 8) (sym first.link_is) ∙ word_clear b1 now (t ∷ []) fit.link 8 z.changed (omega arith) link_clear ∙ w.link_is ∙ first.next_is in
        let back : FirstBack now (last_of 0 front) more = first_back now (last_of 0 front) (λ ne.
        let lies = next_lies ne in
        let v = long fit.next (back_in fit.next (inr (next_in ne))) in
        word_clear b1 now (t ∷ []) (fit.next + 20) 8 z.changed (omega arith) (elim (more_apart fit.next (next_in ne)) [ inl x ↦ inl (omega arith) | inr x ↦ inr (omega arith) ], tt) ∙ w.back_is ne ∙ first.before_is) in
        let taken : TakenBytes b now s.gdr front a more need need (next_of b a) = record {
          as_long = z.length_stays ∙ w.length_stays;
          changed = changed_weaker b now (links ++ t ∷ []) (touched_by s.gdr front a more need) all (λ i o. outside_both links (t ∷ []) i (links_outside i need o) (elim o.1.0 [ inl x ↦ inl (omega arith) | inr x ↦ inr (omega arith) ], tt));
          size_is = size_now;
          type_is = type_now;
          empty = λ i low high. let e : a + i ≡ a + 12 + (i - 12) = omega arith in ap (byte now) e ∙ z.zero (i - 12) (omega arith);
          link_is = link_now;
        } in
        taken_now b now s _ need a (whole_taken b now s front a more need sound first.list_is first.none_before whole_eof own taken back)

    -- ---- in part

    pub has_room : fit.size ≢ need → need + 28 ≤ size_at b a
    has_room ne = go (eqb (size_at b a) need) (leb (need + 28) (size_at b a)) refl refl first.it_fits
      where
        go : (p q : Bool) → eqb (size_at b a) need ≡ p → leb (need + 28) (size_at b a) ≡ q → (p || q) ≡ true → need + 28 ≤ size_at b a
        go true q e f t = absurd (ne (first.size_is ∙ eqb-true (size_at b a) need e))
        go false q e f t = leb-true (need + 28) (size_at b a) (f ∙ t)

    pub taken_part : (b1 b2 b3 now : List ℕ) → fit.size ≢ need → need < 2 ^ 64 → Listed b b1 (a + need) (fit.size - need) fit.next fit.before → Relinked b1 b2 fit (a + need) (a + need) → b3 ≡ with_field b2 a record_size need → Cleared b3 now (a + 12) (need - 12)
        → IsTaken b now s (shape now) need a
    taken_part b1 b2 b3 now ne small l w e z =
        let q = a + need in
        let room = has_room ne in
        let ends = a_ends in
        let inside = link_lies in
        let t1 = touch q 0 28 in
        let t3 = touched_field a record_size in
        let t4 = touch (a + 12) 0 (need - 12) in
        let long1 = l.length_stays in
        let long2 = w.length_stays in
        let lies : LiesIn b2 a record_size = omega arith in
        let long3 : length b3 ≡ length b2 = length_is b2 b3 a record_size need lies e in
        let c3 = changed_field b2 b3 a record_size need lies e in
        let c34 = changed_then b2 b3 now (t3 ∷ []) (t4 ∷ []) c3 z.changed in
        let c234 = changed_then b1 b2 now links (t3 ∷ t4 ∷ []) w.changed c34 in
        let all = changed_then b b1 now (t1 ∷ []) (links ++ t3 ∷ t4 ∷ []) l.changed c234 in
        let size_now : size_at now a ≡ need = word_clear b3 now (t4 ∷ []) (a + 0) 8 z.changed (omega arith) (inl (omega arith), tt) ∙ field_is b2 b3 a record_size need lies (omega arith) e in
        let type_now : type_at now a ≡ uir_type =
        word_clear b now (t1 ∷ (links ++ t3 ∷ t4 ∷ [])) (a + 8) 4 all (omega arith) (inl (omega arith), clear_both links (t3 ∷ t4 ∷ []) (a + 8) 4 (links_clear (a + 8) 4 (omega arith) (omega arith)) (inr (omega arith), (inl (omega arith), tt))) ∙ type_b in
        let link_clear : Clear (t3 ∷ t4 ∷ []) fit.link 8 = elim (link_apart a a_in) [ inl x ↦ (inl (omega arith), (inl (omega arith), tt)) | inr x ↦ (inr (omega arith), (inr (omega arith), tt)) ] in
        let link_now : word now (end_place (s.gdr + 64) front) 8 ≡ q = ap (λ (p : ℕ). word now p 8) (sym first.link_is) ∙ word_clear b2 now (t3 ∷ t4 ∷ []) fit.link 8 c34 (omega arith) link_clear ∙ w.link_is in
        let kept : (place n : ℕ) → q ≤ place → place + n ≤ q + 28 → word now place n ≡ word b1 place n = λ place n low high.
        word_clear b1 now (links ++ t3 ∷ t4 ∷ []) place n c234 (omega arith) (clear_both links (t3 ∷ t4 ∷ []) place n (links_clear place n (omega arith) (omega arith)) (inr (omega arith), (inr (omega arith), tt))) in
        let back : FirstBack now q more = first_back now q (λ some_next.
        let lies_next = next_lies some_next in
        let v = long fit.next (back_in fit.next (inr (next_in some_next))) in
        word_clear b2 now (t3 ∷ t4 ∷ []) (fit.next + 20) 8 c34 (omega arith) (elim (more_apart fit.next (next_in some_next)) [ inl x ↦ (inl (omega arith), (inl (omega arith), tt)) | inr x ↦ (inr (omega arith), (inr (omega arith), tt)) ]) ∙ w.back_is some_next) in
        let rest : RestBytes b now a need (last_of 0 front) = record {
          size_is = kept (q + 0) 8 (omega arith) (omega arith) ∙ l.size_is ∙ ap (λ (n : ℕ). n - need) first.size_is;
          type_is = kept (q + 8) 4 (omega arith) (omega arith) ∙ l.type_is;
          next_is = kept (q + 12) 8 (omega arith) (omega arith) ∙ l.next_is ∙ first.next_is;
          prev_is = kept (q + 20) 8 (omega arith) (omega arith) ∙ l.prev_is ∙ first.before_is;
        } in
        let taken : TakenBytes b now s.gdr front a more need (need + 28) q = record {
          as_long = z.length_stays ∙ long3 ∙ w.length_stays ∙ l.length_stays;
          changed = changed_weaker b now (t1 ∷ (links ++ t3 ∷ t4 ∷ [])) (touched_by s.gdr front a more (need + 28)) all (λ i o. elim o.1.0 [
            | inl x ↦ (inl (omega arith), outside_both links (t3 ∷ t4 ∷ []) i (links_outside i (need + 28) o) (inl (omega arith), (inl (omega arith), tt)))
            | inr x ↦ (inr (omega arith), outside_both links (t3 ∷ t4 ∷ []) i (links_outside i (need + 28) o) (inr (omega arith), (inr (omega arith), tt)))
          ]);
          size_is = size_now;
          type_is = type_now;
          empty = λ i low high. let f : a + i ≡ a + 12 + (i - 12) = omega arith in ap (byte now) f ∙ z.zero (i - 12) (omega arith);
          link_is = link_now;
        } in
        let parts = member_split a s.records (stands a (back_in a a_in)) in
        taken_now b now s _ need a (split_taken b now s front a more need sound first.list_is first.none_before whole_eof (omega arith) room taken rest back parts.0 parts.1.0 parts.1.1)

-- ---- at the end

pub taken_end : (b b1 now : List ℕ) (gdr need : ℕ) → IsSound b (shape b) → NoneFit b need (shape b).unused → 28 ≤ need → b1 ≡ b → gdr ≡ gdr_offset b → EndBytes b1 now gdr need → IsTaken b now (shape b) (shape now) need (length b)
taken_end b b1 now gdr need sound none some same at bytes =
    let s = shape b in
    let here : EndBytes b now s.gdr need = subst (λ (x : List ℕ). EndBytes x now s.gdr need) same (subst (λ (x : ℕ). EndBytes b1 now x need) (at ∙ sound.has_shape.gdr_is) bytes) in
    taken_now b now s _ need (length b) (end_taken b now s need sound none (omega arith) here)

pub none_found : (b b0 : List ℕ) (need : ℕ) (found : Option Fit) → found ≡ None → b0 ≡ b → MatchOption found (NoneFit b0 need (shape b0).unused) (IsFirstFit b0 (shape b0) need) → NoneFit b need (shape b).unused
none_found b b0 need found e same m = subst (λ (x : List ℕ). NoneFit x need (shape x).unused) same (subst (λ (o : Option Fit). MatchOption o (NoneFit b0 need (shape b0).unused) (IsFirstFit b0 (shape b0) need)) e m)

-- two facts on a value give a third
pub if_both : {T E Q : Type 0} {P R : T → Type 0} (r : Result T E) → IfOk r P → OnOk r Q → ((x : T) → P x → Q → R x) → IfOk r R
if_both (Ok x) p q f = f x p q
if_both (Err e) p q f = tt
