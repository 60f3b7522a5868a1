-- A record of no owner is freed by writes of fields.
use Rattle.cdf_space.proofs.Common.{FirstBack, Fit, HasShape, In, IsGiven, IsSound, Leads, LiesIn, List, Outside, Relinked, Shape, Touch, [], ap, arith, back_link, cases_eq, changed_then, first_back_link, fixed_size, gdr_type, gdr_uir_head, inl, inr, is_a-in, is_a-type, length, linkable-in, linkable-long, number, owned_records, prev_of, record_type, refl, shape, shape_is, size_at, some_place, subst, sym, tile_lies, tiles_lie_apart, times, touch, touched_field, uir_next_uir, uir_prev_uir, uir_type, with_field, word, ℕ, ◌+◌, ◌<◌, ◌^◌, ◌∙◌, ◌∷◌, ◌≡◌, ◌≢◌, ◌≤◌, ◌⊎◌}
use Rattle.cdf_edits.proofs.Space.RecordFreed.{not_gdr, not_listed, gdr_unlisted, unlisted_given, first_given}
use Rattle.cdf_space.proofs.Writing.{Clear, word_clear, changed_weaker, changed_field, field_is, length_is, back_link_none, back_link_some}

-- what is given makes the shape that the image has
given_now : (b now : List ℕ) (s s' : Shape) (place : ℕ) → IsGiven b now s s' place → IsGiven b now s (shape now) place
given_now b now s s' place t = subst (λ (x : Shape). IsGiven b now s x place) (sym (shape_is now s' t.1.has_shape)) t

module _ (b : List ℕ) (s : Shape) (place : ℕ) (sound : IsSound b s) (inside : In place s.records) (free : times place (owned_records b s) ≡ 0) where
  h : HasShape b s
  h = sound.has_shape

  abbrev head : ℕ
  head = number b s.gdr gdr_uir_head

  pub ends : place + size_at b place ≤ length b
  ends = (tile_lies b 8 (length b) s.records place h.tiled inside).high

  pub long : 12 ≤ size_at b place
  long = (tile_lies b 8 (length b) s.records place h.tiled inside).long

  gdr_in : In s.gdr s.records
  gdr_in = is_a-in b s.records gdr_type s.gdr h.gdr_stands

  gdr_long : 84 ≤ size_at b s.gdr
  gdr_long = subst (λ (t : ℕ). fixed_size t ≤ size_at b s.gdr) (is_a-type b s.records gdr_type s.gdr h.gdr_stands) (h.fixed s.gdr gdr_in)

  pub gdr_ends : s.gdr + 84 ≤ length b
  gdr_ends = room s.gdr (size_at b s.gdr) (length b) gdr_long (tile_lies b 8 (length b) s.records s.gdr h.tiled gdr_in).high
    where
      room : (g n l : ℕ) → 84 ≤ n → g + n ≤ l → g + 84 ≤ l
      room g n l p q = omega arith

  pub gdr_apart : (place + size_at b place ≤ s.gdr) ⊎ (s.gdr + 84 ≤ place)
  gdr_apart = elim (tiles_lie_apart b 8 (length b) s.records place s.gdr h.tiled inside gdr_in (not_gdr b b s place sound inside free)) [ inl x ↦ inl x | inr x ↦ inr (let w = gdr_long in omega arith) ]

  -- the first record of the list
  list_is : ((head ≡ 0) × (s.unused ≡ [])) ⊎ ((rest : List ℕ) × (s.unused ≡ head ∷ rest))
  list_is = go s.unused h.unused_chain.leads
    where
      go : (xs : List ℕ) → Leads b head xs 0 → ((head ≡ 0) × (xs ≡ [])) ⊎ ((rest : List ℕ) × (xs ≡ head ∷ rest))
      go [] l = inl (l, refl)
      go (m ∷ xs) l = inr (xs, ap (λ (x : ℕ). x ∷ xs) (sym l.0))

  head_in : head ≢ 0 → In head s.unused
  head_in ne = elim list_is [ inl n ↦ absurd (ne n.0) | inr n ↦ subst (λ (xs : List ℕ). In head xs) (sym n.1) (inl refl) ]

  head_stands : (m : ℕ) → In m s.unused → In m s.records
  head_stands m i = linkable-in b s.records uir_type m (h.unused_chain.linkable m i)

  head_some : (rest : List ℕ) → s.unused ≡ head ∷ rest → head ≢ 0
  head_some rest e = some_place b s.records (length b) head h.tiled (head_stands head (subst (λ (xs : List ℕ). In head xs) (sym e) (inl refl)))

  pub head_lies : head ≢ 0 → head + 28 ≤ length b
  head_lies ne =
      let i = head_in ne in
      let l = (tile_lies b 8 (length b) s.records head h.tiled (head_stands head i)).high in
      let w = linkable-long b s.records uir_type head (h.unused_chain.linkable head i) in
      omega arith

  pub head_from_gdr : head ≢ 0 → (s.gdr + 72 ≤ head + 20) ⊎ (head + 28 ≤ s.gdr + 64)
  head_from_gdr ne =
      let i = head_in ne in
      let w = linkable-long b s.records uir_type head (h.unused_chain.linkable head i) in
      let g = gdr_long in
      elim (tiles_lie_apart b 8 (length b) s.records head s.gdr h.tiled (head_stands head i) gdr_in (gdr_unlisted b b s place sound inside free head i)) [ inl x ↦ inr (omega arith) | inr x ↦ inl (omega arith) ]

  head_apart : head ≢ 0 → (head + 28 ≤ place) ⊎ (place + size_at b place ≤ head)
  head_apart ne =
      let i = head_in ne in
      let w = linkable-long b s.records uir_type head (h.unused_chain.linkable head i) in
      elim (tiles_lie_apart b 8 (length b) s.records head place h.tiled (head_stands head i) inside (not_listed b b s place sound inside free head i)) [ inl x ↦ inl (omega arith) | inr x ↦ inr x ]

  backs : back_link head ≡ first_back_link s.unused
  backs = elim list_is [
    | inl n ↦ back_link_none head n.0 ∙ sym (ap first_back_link n.1)
    | inr n ↦ back_link_some head (head_some n.0 n.1) ∙ sym (ap first_back_link n.1)
  ]

  first_back : (now : List ℕ) (before : ℕ) → (head ≢ 0 → prev_of now head ≡ before) → FirstBack now before s.unused
  first_back now before is = elim list_is [
    | inl n ↦ subst (λ (xs : List ℕ). FirstBack now before xs) (sym n.1) tt
    | inr n ↦ subst (λ (xs : List ℕ). FirstBack now before xs) (sym n.1) (is (head_some n.0 n.1))
  ]

  -- ---- on no list

  pub freed_small : (now : List ℕ) → size_at b place < 28 → now ≡ with_field b place record_type uir_type → IsGiven b now s (shape now) place
  freed_small now small e =
      let l = long in
      let high = ends in
      let lies : LiesIn b place record_type = omega arith in
      given_now b now s _ place (unlisted_given b now s place sound inside free small (record {
        as_long = length_is b now place record_type uir_type lies e;
        changed = changed_field b now place record_type uir_type lies e;
        type_is = field_is b now place record_type uir_type lies (omega arith) e;
      }))

  -- ---- the first of the list

  back_clear : (p n : ℕ) → place ≤ p → p + n ≤ place + size_at b place → Clear (back_link head) p n
  back_clear p n low high = elim list_is [
    | inl e ↦ subst (λ (ts : List Touch). Clear ts p n) (sym (back_link_none head e.0)) tt
    | inr e ↦ let ne = head_some e.0 e.1 in subst (λ (ts : List Touch). Clear ts p n) (sym (back_link_some head ne)) (elim (head_apart ne) [ inl x ↦ inr (omega arith) | inr x ↦ inl (omega arith) ], tt)
  ]

  pub head_small : length b < 2 ^ 64 → head < 2 ^ 64
  head_small short = elim (cases_eq head 0) [ inl e ↦ omega arith | inr ne ↦ let l = head_lies ne in omega arith ]

  head_outside : (g l i : ℕ) → l ≡ g + 64 → (i < g + 64) ⊎ (g + 64 + 8 ≤ i) → (i < l + 0) ⊎ (l + 0 + 8 ≤ i)
  head_outside g l i e (inl x) = inl (omega arith)
  head_outside g l i e (inr x) = inr (omega arith)

  pub freed_first : (b1 b2 b3 now : List ℕ) (fit : Fit) → 28 ≤ size_at b place → place < 2 ^ 64 → fit.next < 2 ^ 64 → fit.link ≡ s.gdr + 64 → fit.next ≡ head
      → b1 ≡ with_field b place record_type uir_type → b2 ≡ with_field b1 place uir_next_uir fit.next → b3 ≡ with_field b2 place uir_prev_uir 0 → Relinked b3 now fit place place → IsGiven b now s (shape now) place
  freed_first b1 b2 b3 now fit large small small_next link next first second third w =
      let high = ends in
      let apart = gdr_apart in
      let t1 = touched_field place record_type in
      let t2 = touched_field place uir_next_uir in
      let t3 = touched_field place uir_prev_uir in
      let links = touch fit.link 0 8 ∷ back_link fit.next in
      let lies1 : LiesIn b place record_type = omega arith in
      let long1 : length b1 ≡ length b = length_is b b1 place record_type uir_type lies1 first in
      let lies2 : LiesIn b1 place uir_next_uir = omega arith in
      let long2 : length b2 ≡ length b1 = length_is b1 b2 place uir_next_uir fit.next lies2 second in
      let lies3 : LiesIn b2 place uir_prev_uir = omega arith in
      let long3 : length b3 ≡ length b2 = length_is b2 b3 place uir_prev_uir 0 lies3 third in
      let c1 = changed_field b b1 place record_type uir_type lies1 first in
      let c2 = changed_field b1 b2 place uir_next_uir fit.next lies2 second in
      let c3 = changed_field b2 b3 place uir_prev_uir 0 lies3 third in
      let c34 = changed_then b2 b3 now (t3 ∷ []) links c3 w.changed in
      let c234 = changed_then b1 b2 now (t2 ∷ []) (t3 ∷ links) c2 c34 in
      let all = changed_then b b1 now (t1 ∷ []) (t2 ∷ t3 ∷ links) c1 c234 in
      let clear : (p n : ℕ) → place ≤ p → p + n ≤ place + size_at b place → Clear links p n = λ p n low up. (
        elim apart [ inl x ↦ inl (omega arith) | inr x ↦ inr (omega arith) ],
        subst (λ (x : ℕ). Clear (back_link x) p n) (sym next) (back_clear p n low up),
      ) in
      let outside : (i : ℕ) → Outside (t1 ∷ touched_field s.gdr gdr_uir_head ∷ t2 ∷ t3 ∷ first_back_link s.unused) i → Outside (t1 ∷ t2 ∷ t3 ∷ links) i = λ i o. (
        o.0,
        (o.1.1.0, (o.1.1.1.0, (head_outside s.gdr fit.link i link o.1.0, subst (λ (x : ℕ). Outside (back_link x) i) (sym next) (subst (λ (ts : List Touch). Outside ts i) (sym backs) o.1.1.1.1)))),
      ) in
      given_now b now s _ place (first_given b now s place sound inside free large (record {
        as_long = w.length_stays ∙ long3 ∙ long2 ∙ long1;
        changed = changed_weaker b now (t1 ∷ t2 ∷ t3 ∷ links) (t1 ∷ touched_field s.gdr gdr_uir_head ∷ t2 ∷ t3 ∷ first_back_link s.unused) all outside;
        type_is = word_clear b1 now (t2 ∷ t3 ∷ links) (place + 8) 4 c234 (omega arith) (inl (omega arith), (inl (omega arith), clear (place + 8) 4 (omega arith) (omega arith))) ∙ field_is b b1 place record_type uir_type lies1 (omega arith) first;
        head_is = ap (λ (p : ℕ). word now p 8) (sym link) ∙ w.link_is;
        next_is = word_clear b2 now (t3 ∷ links) (place + 12) 8 c34 (omega arith) (inl (omega arith), clear (place + 12) 8 (omega arith) (omega arith)) ∙ field_is b1 b2 place uir_next_uir fit.next lies2 (omega arith) second ∙ next;
        prev_is = word_clear b3 now links (place + 20) 8 w.changed (omega arith) (clear (place + 20) 8 (omega arith) (omega arith)) ∙ field_is b2 b3 place uir_prev_uir 0 lies3 (omega arith) third;
        back_is = first_back now place (λ ne. subst (λ (x : ℕ). prev_of now x ≡ place) next (w.back_is (λ z. ne (sym next ∙ z))));
      }))

-- ---- what is read before

pub size_read : (b : List ℕ) (place n : ℕ) → n ≡ word b place 8 → n ≡ size_at b place
size_read b place n e = e ∙ ap (λ (p : ℕ). word b p 8) (plus_0 place)
  where
    plus_0 : (n : ℕ) → n ≡ n + 0
    plus_0 n = omega arith

pub gdr_read : (b b1 : List ℕ) (gdr : ℕ) → IsSound b (shape b) → b1 ≡ b → gdr ≡ word b1 20 8 → gdr ≡ (shape b).gdr
gdr_read b b1 gdr sound same e = e ∙ ap (λ (x : List ℕ). word x 20 8) same ∙ sound.has_shape.gdr_is

pub head_read : (b b2 : List ℕ) (gdr next : ℕ) → gdr ≡ (shape b).gdr → b2 ≡ b → next ≡ word b2 (gdr + 64) 8 → next ≡ number b (shape b).gdr gdr_uir_head
head_read b b2 gdr next is same e = e ∙ ap (λ (x : List ℕ). word x (gdr + 64) 8) same ∙ ap (λ (g : ℕ). word b (g + 64) 8) is
