-- A link of a chain that is written anew: a record joins behind the last one, a member goes, or another record takes its place.
use Rattle.cdf_space.proofs.Common.{AllSpare, Appended, AreTiles, Attrs, Chain, ChainHead, Changed, Distinct, Field, GrEntries, HasChain, HolderStands, In, In-append, In-append_left, In-append_right, IsChain, IsHead, IsSound, Leads, LiesIn, List, MayJoin, Misses, None, Option, RVars, Removed, Replaced, Same, Some, Touch, ZEntries, ZVars, [], ap, apart, append-nil, ap₂, arith, before, cdr_stands, cdr_type, chain_complete, chain_head, changed_part, changed_then, distinct_apart, distinct_with, distinct_without, either, end_place, eqb-true, false, false-is_in, field, field_reads, gdr_offset, head_fits, head_lies, head_of, head_width, holder_of, holder_stands, holder_type, inl, inr, is_a-in, is_a-type, is_in, is_linkable, last_or, leads_rest, length, length-with_field, link_behind, link_place, linkable-from, linkable-in, linkable-long, linkable-type, linked_types, long_of, member_lies, members_of, next_field, next_of, number, other_words, refl, shape, size_at, subst, sym, tile_lies, tiled, tiles, tiles_lie_apart, tiling_complete, touch, touched_field, true, true-is_in, type_at, type_in, uir_next_uir, with_field, with_in_place, with_members, without, word, word_kept, ℕ, ◌++◌, ◌+◌, ◌<◌, ◌==◌, ◌^◌, ◌∙◌, ◌∷◌, ◌≡◌, ◌≢◌, ◌≤◌, ◌⊎◌}
use Rattle.cdf_format.specs.Walks.{records_of}
use Rattle.cdf_edits.specs.Frame.Changed.{Placed}
use Rattle.cdf_edits.proofs.Frame.LinksStay.{tiles_same, leads_same}
use Rattle.cdf_edits.proofs.Frame.LinkWritten.{one_chain}
use Rattle.cdf_space.proofs.Writing.{changed_field}

-- ---- the link behind a front part of a chain

behind_is : (holder : ℕ) (f : Field) (ms : List ℕ) → (end_place (holder + f.place) ms ≡ (link_behind holder f ms).tile + (link_behind holder f ms).place)
    × (((link_behind holder f ms).tile ≡ holder) × ((link_behind holder f ms).place ≡ f.place) ⊎ In (link_behind holder f ms).tile ms × ((link_behind holder f ms).place ≡ 12))
behind_is holder f [] = (refl, inl (refl, refl))
behind_is holder f (m ∷ more) = let r = behind_is m next_field more in (r.0, elim r.1 [ inl g ↦ inr (inl g.0, g.1) | inr g ↦ inr (inr g.0, g.1) ])

behind_wide : (holder : ℕ) (f : Field) (ms : List ℕ) → f.width ≡ 8 → (link_behind holder f ms).width ≡ 8
behind_wide holder f [] e = e
behind_wide holder f (m ∷ more) e = behind_wide m next_field more refl

behind_touch : (holder : ℕ) (f : Field) (ms : List ℕ) → f.width ≡ 8 → touch (link_behind holder f ms).tile (link_behind holder f ms).place 8 ≡ link_behind holder f ms
behind_touch holder f ms e = ap (touch (link_behind holder f ms).tile (link_behind holder f ms).place) (sym (behind_wide holder f ms e))

last_link : (b : List ℕ) (c : Chain) (holder : ℕ) (f : Field) (o : Option ℕ) → link_place b c o ≡ holder + f.place → (ms : List ℕ) → link_place b c (last_or o ms) ≡ (link_behind holder f ms).tile + (link_behind holder f ms).place
last_link b c holder f o e [] = e
last_link b c holder f o e (m ∷ more) = last_link b c m next_field (Some m) refl more

-- it lies in the image
pub link_inside : (b : List ℕ) (c : Chain) → IsSound b (shape b) → HolderStands b c → HasChain b c → (ms : List ℕ) → ((m : ℕ) → In m ms → In m (members_of b c)) → link_place b c (last_or None ms) + 8 ≤ length b
link_inside b c sound stands has ms sub = go ms sub None (head_lies b sound c stands)
  where
    go : (xs : List ℕ) → ((m : ℕ) → In m xs → In m (members_of b c)) → (o : Option ℕ) → link_place b c o + 8 ≤ length b → link_place b c (last_or o xs) + 8 ≤ length b
    go [] sub o l = l
    go (x ∷ xs) sub o l = go xs (λ m i. sub m (inr i)) (Some x) (let r = member_lies b sound c has x (sub x (inl refl)) in omega arith)

-- ---- the head of a chain

-- its record is of another type than its members, neither is the CDR
types_differ : (c : Chain) → ((holder_type c == type_in c) ≡ false) × ((holder_type c == cdr_type) ≡ false) × ((type_in c == cdr_type) ≡ false)
types_differ Attrs = (refl, refl, refl)
types_differ RVars = (refl, refl, refl)
types_differ ZVars = (refl, refl, refl)
types_differ (GrEntries adr) = (refl, refl, refl)
types_differ (ZEntries adr) = (refl, refl, refl)

-- the head stands behind the next field of its record, if that has one, and leads to records that have one
later_head : (c : Chain) → 12 ≤ (head_of c).place → (20 ≤ (head_of c).place) ⊎ ((12 ≤ (head_of c).place) × (is_in (holder_type c) linked_types ≡ false))
later_head Attrs low = inr (low, refl)
later_head RVars low = inr (low, refl)
later_head ZVars low = inr (low, refl)
later_head (GrEntries adr) low = inl (omega arith)
later_head (ZEntries adr) low = inl (omega arith)

members_linked : (c : Chain) → is_in (type_in c) linked_types ≡ true
members_linked Attrs = refl
members_linked RVars = refl
members_linked ZVars = refl
members_linked (GrEntries adr) = refl
members_linked (ZEntries adr) = refl

abbrev head_in : List ℕ → Chain → ChainHead
head_in b c = chain_head (holder_of b c) (head_of c).place (type_in c) (members_of b c)

module _ (b : List ℕ) (sound : IsSound b (shape b)) (c : Chain) where
  module _ (stands : HolderStands b c) where
    holder_typed : type_at b (holder_of b c) ≡ holder_type c
    holder_typed = is_a-type b (tiles b) (holder_type c) (holder_of b c) (holder_stands b sound c stands)

    head_is : HasChain b c → IsHead b (tiles b) (head_in b c)
    head_is has =
        let f = head_fits b sound c in
        record {
          holder_in = is_a-in b (tiles b) (holder_type c) (holder_of b c) (holder_stands b sound c stands);
          fits = let l = long_of b sound (holder_type c) (holder_of b c) (holder_stands b sound c stands) in omega (arith, f.1);
          later = subst (λ (t : ℕ). (20 ≤ (head_of c).place) ⊎ ((12 ≤ (head_of c).place) × (is_in t linked_types ≡ false))) (sym holder_typed) (later_head c f.0);
          linked = members_linked c;
          chain_is = subst (λ (w : ℕ). IsChain b (tiles b) (type_in c) (word b (holder_of b c + (head_of c).place) w) (members_of b c)) (head_width c) has;
        }

    -- the record with the head is none of the chain's type, nor is the CDR
    holder_other : (m : ℕ) → type_at b m ≡ type_in c → holder_of b c ≢ m
    holder_other m t e = apart (holder_type c) (type_in c) (types_differ c).0 (sym holder_typed ∙ ap (type_at b) e ∙ t)

    cdr_no_holder : holder_of b c ≢ 8
    cdr_no_holder e = apart (holder_type c) cdr_type (types_differ c).1 (sym holder_typed ∙ ap (type_at b) e ∙ is_a-type b (tiles b) cdr_type 8 (cdr_stands b sound))

  cdr_no_member : (m : ℕ) → type_at b m ≡ type_in c → m ≢ 8
  cdr_no_member m t e = apart (type_in c) cdr_type (types_differ c).2 (sym t ∙ ap (type_at b) e ∙ is_a-type b (tiles b) cdr_type 8 (cdr_stands b sound))

-- the same holder where the CDR leads to the same GDR
pub holder_same : (b now : List ℕ) (c : Chain) → gdr_offset now ≡ gdr_offset b → holder_of now c ≡ holder_of b c
holder_same b now Attrs e = e
holder_same b now RVars e = e
holder_same b now ZVars e = e
holder_same b now (GrEntries adr) e = refl
holder_same b now (ZEntries adr) e = refl

-- ---- the link behind a front part leads to other members

module _ (b now : List ℕ) (c : Chain) (sound : IsSound b (shape b)) (stands : HolderStands b c) (has : HasChain b c) (front rest : List ℕ) (parts : members_of b c ≡ front ++ rest) where
  abbrev link : Touch
  link = link_behind (holder_of b c) (head_of c) front

  pub part_in : (m : ℕ) → In m (front ++ rest) → In m (members_of b c)
  part_in m i = subst (λ (xs : List ℕ). In m xs) (sym parts) i

  front_in : (m : ℕ) → In m front → In m (members_of b c)
  front_in m i = part_in m (In-append_left m front rest i)

  rest_in : (m : ℕ) → In m rest → In m (members_of b c)
  rest_in m i = part_in m (In-append_right m front rest i)

  pub once : Distinct (front ++ rest)
  once = subst Distinct parts has.once

  pub member_type : (m : ℕ) → In m (members_of b c) → type_at b m ≡ type_in c
  member_type m i = linkable-type b (tiles b) (type_in c) m (has.linkable m i)

  link_low : 12 ≤ link.place
  link_low = elim (behind_is (holder_of b c) (head_of c) front).1 [ inl g ↦ subst (λ (p : ℕ). 12 ≤ p) (sym g.1) (head_fits b sound c).0 | inr g ↦ subst (λ (p : ℕ). 12 ≤ p) (sym g.1) (omega arith) ]

  pub link_placed : In link.tile (tiles b) × (link.place + 8 ≤ size_at b link.tile)
  link_placed =
      let h = head_is b sound c stands has in
      elim (behind_is (holder_of b c) (head_of c) front).1 [
        | inl g ↦ (subst (λ (t : ℕ). In t (tiles b)) (sym g.0) h.holder_in, rw (g.0, g.1) h.fits)
        | inr g ↦
            let ok = has.linkable link.tile (front_in link.tile g.0) in
            let l = linkable-long b (tiles b) (type_in c) link.tile ok in
            (linkable-in b (tiles b) (type_in c) link.tile ok, subst (λ (p : ℕ). p + 8 ≤ size_at b link.tile) (sym g.1) (omega arith))
      ]

  -- where it stands, by the record that it is behind
  pub link_at : (at : ℕ) → at ≡ link_place b c (last_or None front) → (at ≡ link.tile + link.place) × (at + 8 ≤ length b)
  link_at at e =
      let here = e ∙ last_link b c (holder_of b c) (head_of c) None refl front in
      let l = tile_lies b 8 (length b) (tiles b) link.tile (tiled b sound) link_placed.0 in
      (here, ends at link.tile link.place (size_at b link.tile) (length b) here link_placed.1 l.high)
    where
      ends : (at t p n l : ℕ) → at ≡ t + p → p + 8 ≤ n → t + n ≤ l → at + 8 ≤ l
      ends at t p n l e f g = omega arith

  link_not_cdr : link.tile ≢ 8
  link_not_cdr e = elim (behind_is (holder_of b c) (head_of c) front).1 [
    | inl g ↦ cdr_no_holder b sound c stands (sym g.0 ∙ e)
    | inr g ↦ cdr_no_member b sound c link.tile (member_type link.tile (front_in link.tile g.0)) e
  ]

  -- it is in no record of the chain's type that stands before it
  pub link_other : (m : ℕ) → type_at b m ≡ type_in c → (In m front → ⊥) → link.tile ≢ m
  link_other m t out e = elim (behind_is (holder_of b c) (head_of c) front).1 [
    | inl g ↦ holder_other b sound c stands m t (sym g.0 ∙ e)
    | inr g ↦ out (subst (λ (x : ℕ). In x front) e g.0)
  ]

  module _ (more : List Touch) (change : Changed b now (touch link.tile link.place 8 ∷ more)) (as_long : length now ≡ length b) (placed_more : Placed b (tiles b) (length b) more) (low_more : (m : ℕ) → Misses more m 0 12) where
    touches : List Touch
    touches = touch link.tile link.place 8 ∷ more

    placed : Placed b (tiles b) (length b) touches
    unfolding touches
    placed = (inl link_placed, placed_more)

    start : (m : ℕ) → In m (tiles b) → Same b now (m + 0) (m + 12)
    unfolding touches
    start m i =
        let l = (tile_lies b 8 (length b) (tiles b) m (tiled b sound) i).long in
        changed_part b now (tiles b) (length b) (tiled b sound) (omega arith) touches change placed m 0 12 i l ((λ e. inl link_low), low_more m)

    sizes : (m : ℕ) → In m (tiles b) → size_at now m ≡ size_at b m
    sizes m i = word_kept b now (m + 0) (m + 12) (start m i) (m + 0) 8 (omega arith) (omega arith)

    types : (m : ℕ) → In m (tiles b) → type_at now m ≡ type_at b m
    types m i = word_kept b now (m + 0) (m + 12) (start m i) (m + 8) 4 (omega arith) (omega arith)

    -- the next field of a member behind the link
    pub next_stays : (m : ℕ) → In m rest → Misses more m 12 20 → next_of now m ≡ next_of b m
    unfolding touches
    next_stays m i miss =
        let ok = has.linkable m (rest_in m i) in
        let l = linkable-long b (tiles b) (type_in c) m ok in
        let apart = link_other m (member_type m (rest_in m i)) (λ j. distinct_apart front rest m once j i) in
        word_kept b now (m + 12) (m + 20) (changed_part b now (tiles b) (length b) (tiled b sound) (omega arith) touches change placed m 12 20 (linkable-in b (tiles b) (type_in c) m ok) (omega arith) ((λ e. absurd (apart (sym e))), miss)) (m + 12) 8 (omega arith) (omega arith)

    tiled_now : AreTiles now 8 (length now) (tiles b)
    tiled_now = subst (λ (n : ℕ). AreTiles now 8 n (tiles b)) (sym as_long) (tiles_same b now 8 (length b) (tiles b) (tiled b sound) sizes)

    tiles_now : tiles now ≡ tiles b
    tiles_now = ap records_of (tiling_complete now (tiles b) tiled_now)

    module _ (tail : List ℕ) (cdr_more : Misses more 8 12 20) (spare_more : AllSpare more (with_members (head_in b c) front)) (leads : Leads now (word now (link.tile + link.place) 8) tail 0) (tail_ok : (z : ℕ) → In z tail → is_linkable b (tiles b) (type_in c) z ≡ true) (once_now : Distinct (front ++ tail)) where
      gdr_now : gdr_offset now ≡ gdr_offset b
      unfolding touches
      gdr_now =
          let i = is_a-in b (tiles b) cdr_type 8 (cdr_stands b sound) in
          let l : 312 ≤ size_at b 8 = long_of b sound cdr_type 8 (cdr_stands b sound) in
          let same = changed_part b now (tiles b) (length b) (tiled b sound) (omega arith) touches change placed 8 12 20 i (omega arith) ((λ e. absurd (link_not_cdr (sym e))), cdr_more) in
          word_kept b now (8 + 12) (8 + 20) same (8 + 12) 8 (omega arith) (omega arith)

      head_now : IsHead now (tiles b) (with_members (head_in b c) (front ++ tail))
      unfolding touches
      head_now =
          let h : IsHead b (tiles b) (with_members (head_in b c) (front ++ rest)) = subst (λ (xs : List ℕ). IsHead b (tiles b) (with_members (head_in b c) xs)) parts (head_is b sound c stands has) in
          one_chain b now (tiles b) (tiles b) (length b) (tiled b sound) (omega arith) (λ m i. i) link.tile link.place more change placed
          (head_in b c) front rest tail h (behind_is (holder_of b c) (head_of c) front) spare_more leads
          (λ z i.
          let ok = tail_ok z i in
          let there = linkable-in b (tiles b) (type_in c) z ok in
          linkable-from now (tiles b) (type_in c) z there (types z there ∙ linkable-type b (tiles b) (type_in c) z ok) (subst (λ (n : ℕ). 28 ≤ n) (sym (sizes z there)) (linkable-long b (tiles b) (type_in c) z ok)))
          once_now

      chain_now : IsChain now (tiles now) (type_in c) (number now (holder_of now c) (head_of c)) (front ++ tail)
      chain_now =
          let is = head_now.chain_is in
          let wide : IsChain now (tiles b) (type_in c) (number now (holder_of b c) (head_of c)) (front ++ tail) = subst (λ (w : ℕ). IsChain now (tiles b) (type_in c) (word now (holder_of b c + (head_of c).place) w) (front ++ tail)) (sym (head_width c)) is in
          rw (tiles_now, holder_same b now c gdr_now) wide

      pub members_now : members_of now c ≡ front ++ tail
      members_now = ap records_of (chain_complete now (tiles now) (length now) (type_in c) (holder_of now c) (head_of c) (front ++ tail) (subst (λ (xs : List ℕ). AreTiles now 8 (length now) xs) (sym tiles_now) tiled_now) chain_now)

      pub has_chain_now : HasChain now c
      has_chain_now = subst (λ (xs : List ℕ). IsChain now (tiles now) (type_in c) (number now (holder_of now c) (head_of c)) xs) (sym members_now) chain_now

-- ---- what the writes touch

-- the place from which a touch is counted does not matter
one_placed : (b now : List ℕ) (end tile place : ℕ) → Changed b now (touch end 0 8 ∷ []) → end ≡ tile + place → Changed b now (touch tile place 8 ∷ [])
one_placed b now end tile place c e = record { longer = c.longer; same = λ i lt o. c.same i lt (elim o.0 [ inl x ↦ inl (omega arith) | inr x ↦ inr (omega arith) ], tt) }

-- nor does the order of two
changed_placed : (b now : List ℕ) (u : Touch) (end tile place : ℕ) → Changed b now (u ∷ touch end 0 8 ∷ []) → end ≡ tile + place → Changed b now (touch tile place 8 ∷ u ∷ [])
changed_placed b now u end tile place c e = record { longer = c.longer; same = λ i lt o. c.same i lt (o.1.0, (elim o.0 [ inl x ↦ inl (omega arith) | inr x ↦ inr (omega arith) ], tt)) }

same_place : (x e : ℕ) → x ≡ e → x ≡ e + 0
same_place x e h = omega arith

-- what a link behind a front part leaves of a chain that goes on otherwise
record GoesOn (b now : List ℕ) (c : Chain) (front tail : List ℕ) (more : List Touch) : Type 0 where
  members_are : members_of now c ≡ front ++ tail
  has_chain : HasChain now c
  length_stays : length now ≡ length b
  changed : Changed b now (link_behind (holder_of b c) (head_of c) front ∷ more)

-- ---- a record is put behind a front part, and leads on to the end of the chain

module _ (b : List ℕ) (c : Chain) (sound : IsSound b (shape b)) (stands : HolderStands b c) (has : HasChain b c) (by : ℕ) (joins : MayJoin b c by) where
  abbrev added : Touch
  added = touched_field by next_field

  by_in : In by (tiles b)
  by_in = linkable-in b (tiles b) (type_in c) by joins.linkable

  by_typed : type_at b by ≡ type_in c
  by_typed = linkable-type b (tiles b) (type_in c) by joins.linkable

  by_out : In by (members_of b c) → ⊥
  by_out = false-is_in by (members_of b c) joins.outside

  pub by_lies : LiesIn b by uir_next_uir
  by_lies = let r = (tile_lies b 8 (length b) (tiles b) by (tiled b sound) by_in).high in let w = linkable-long b (tiles b) (type_in c) by joins.linkable in omega arith

  by_placed : Placed b (tiles b) (length b) (added ∷ [])
  by_placed = let l = linkable-long b (tiles b) (type_in c) by joins.linkable in (inl (by_in, (omega arith)), tt)

  by_low : (m : ℕ) → Misses (added ∷ []) m 0 12
  by_low m = ((λ e. inl (omega arith)), tt)

  module _ (front old rest : List ℕ) (parts : members_of b c ≡ front ++ old) (behind : (m : ℕ) → In m rest → In m old) (next : ℕ) (leads : Leads b next rest 0) (once : Distinct (front ++ rest)) where
    abbrev entering : Touch
    entering = link_behind (holder_of b c) (head_of c) front

    front_out : In by front → ⊥
    front_out i = by_out (part_in b b c sound stands has front old parts by (In-append_left by front old i))

    behind_member : (m : ℕ) → In m rest → In m (members_of b c)
    behind_member m i = part_in b b c sound stands has front old parts m (In-append_right m front old (behind m i))

    joined : (now b1 : List ℕ) (at : ℕ) → at ≡ link_place b c (last_or None front) → next < 2 ^ 64 → by < 2 ^ 64 → b1 ≡ with_field b by uir_next_uir next → now ≡ with_field b1 at (field 0 8) by → GoesOn b now c front (by ∷ rest) (added ∷ [])
    joined now b1 at l small small_by first second =
        let link = link_at b now c sound stands has front old parts at l in
        let here = link.0 in
        let lies = by_lies in
        let long1 : length b1 ≡ length b = ap length first ∙ length-with_field b by uir_next_uir next lies in
        let inside : LiesIn b1 at (field 0 8) = let r = link.1 in omega arith in
        let long : length now ≡ length b = ap length second ∙ length-with_field b1 at (field 0 8) by inside ∙ long1 in
        let c1 = changed_field b b1 by uir_next_uir next lies first in
        let c2 = changed_field b1 now at (field 0 8) by inside second in
        let both = changed_then b b1 now (touched_field by uir_next_uir ∷ []) (touched_field at (field 0 8) ∷ []) c1 c2 in
        let change : Changed b now (touch entering.tile entering.place 8 ∷ added ∷ []) = changed_placed b now added at entering.tile entering.place both here in
        let placed = link_placed b now c sound stands has front old parts in
        let other = link_other b now c sound stands has front old parts by by_typed front_out in
        let apart_by : (by + 12 + 8 ≤ at + 0) ⊎ (at + 0 + 8 ≤ by + 12) = between entering.tile entering.place at (size_at b by) (size_at b entering.tile) here (linkable-long b (tiles b) (type_in c) by joins.linkable) placed.1 (tiles_lie_apart b 8 (length b) (tiles b) by entering.tile (tiled b sound) by_in placed.0 (λ e. other (sym e))) in
        let word_now : word now (entering.tile + entering.place) 8 ≡ by = ap₂ (λ (x : List ℕ) (q : ℕ). word x q 8) second (same_place (entering.tile + entering.place) at (sym here)) ∙ field_reads b1 at (field 0 8) by inside small_by in
        let next_now : next_of now by ≡ next = ap (λ (x : List ℕ). word x (by + 12) 8) second ∙ other_words b1 at (field 0 8) by (by + 12) 8 inside apart_by ∙ ap (λ (x : List ℕ). word x (by + 12) 8) first ∙ field_reads b by uir_next_uir next lies small in
        let nexts = λ (m : ℕ) (i : In m rest). next_stays b now c sound stands has front old parts (added ∷ []) change long by_placed by_low m (behind m i) ((λ e. absurd (by_out (subst (λ (x : ℕ). In x (members_of b c)) e (behind_member m i)))), tt) in
        let leads_now : Leads now (word now (entering.tile + entering.place) 8) (by ∷ rest) 0 = (word_now, subst (λ (x : ℕ). Leads now x rest 0) (sym next_now) (leads_same b now next rest 0 leads nexts)) in
        let ok : (z : ℕ) → In z (by ∷ rest) → is_linkable b (tiles b) (type_in c) z ≡ true = λ z i. elim i [ inl e ↦ subst (λ (x : ℕ). is_linkable b (tiles b) (type_in c) x ≡ true) (sym e) joins.linkable | inr j ↦ has.linkable z (behind_member z j) ] in
        let single = distinct_with front by rest once (λ i. elim (In-append by front rest i) [ inl j ↦ front_out j | inr j ↦ by_out (behind_member by j) ]) in
        let cdr : Misses (added ∷ []) 8 12 20 = ((λ e. absurd (cdr_no_member b sound c by by_typed (sym e))), tt) in
        let spare : AllSpare (added ∷ []) (with_members (head_in b c) front) = (record { holder = λ e. omega arith; head = λ e. absurd (holder_other b sound c stands by by_typed e); member = λ i. absurd (front_out i) }, tt) in
        record {
          members_are = members_now b now c sound stands has front old parts (added ∷ []) change long by_placed by_low (by ∷ rest) cdr spare leads_now ok single;
          has_chain = has_chain_now b now c sound stands has front old parts (added ∷ []) change long by_placed by_low (by ∷ rest) cdr spare leads_now ok single;
          length_stays = long;
          changed = subst (λ (t : Touch). Changed b now (t ∷ added ∷ [])) (behind_touch (holder_of b c) (head_of c) front (head_width c)) change;
        }
      where
        between : (tile p end s w : ℕ) → end ≡ tile + p → 28 ≤ s → p + 8 ≤ w → (by + s ≤ tile) ⊎ (tile + w ≤ by) → (by + 12 + 8 ≤ end + 0) ⊎ (end + 0 + 8 ≤ by + 12)
        between tile p end s w e l f (inl x) = inl (omega arith)
        between tile p end s w e l f (inr x) = inr (omega arith)

  -- behind the last one
  pub appended_by : (now b1 : List ℕ) (at : ℕ) → at ≡ link_place b c (last_or None (members_of b c)) → by < 2 ^ 64 → b1 ≡ with_field b by uir_next_uir 0 → now ≡ with_field b1 at (field 0 8) by → Appended b now c by
  appended_by now b1 at l small first second =
      let ms = members_of b c in
      let r = joined ms [] [] (sym (append-nil ms)) (λ m i. i) 0 refl (subst Distinct (sym (append-nil ms)) has.once) now b1 at l (omega arith) small first second in
      record { members_are = r.members_are; has_chain = r.has_chain; length_stays = r.length_stays; changed = r.changed }

-- ---- a member in the midst of its chain

-- a list in which it stands, in parts
record Parts (place : ℕ) (ms : List ℕ) : Type 0 where
  rest : List ℕ
  list_is : ms ≡ before place ms ++ place ∷ rest
  without_is : without place ms ≡ before place ms ++ rest
  with_is : (by : ℕ) → with_in_place place by ms ≡ before place ms ++ by ∷ rest

parts_of : (place : ℕ) (ms : List ℕ) → In place ms → Parts place ms
parts_of place [] i = absurd i
parts_of place (m ∷ ms) i = elim (either (m == place)) [
  | inl e ↦ record {
    rest = ms;
    list_is = rw e (ap (λ (x : ℕ). x ∷ ms) (eqb-true m place e));
    without_is = rw e refl;
    with_is = λ by. rw e refl;
  }
  | inr e ↦
      let r = parts_of place ms (elim i [ inl f ↦ absurd (apart m place e (sym f)) | inr j ↦ j ]) in
      record {
        rest = r.rest;
        list_is = rw e (ap (λ (xs : List ℕ). m ∷ xs) r.list_is);
        without_is = rw e (ap (λ (xs : List ℕ). m ∷ xs) r.without_is);
        with_is = λ by. rw e (ap (λ (xs : List ℕ). m ∷ xs) (r.with_is by));
      }
]

module _ (b : List ℕ) (c : Chain) (place : ℕ) (sound : IsSound b (shape b)) (stands : HolderStands b c) (has : HasChain b c) (member : is_in place (members_of b c) ≡ true) where
  abbrev ms : List ℕ
  ms = members_of b c

  there : In place ms
  there = true-is_in place ms member

  p : Parts place ms
  p = parts_of place ms there

  abbrev front : List ℕ
  front = before place ms

  abbrev leading : Touch
  leading = link_behind (holder_of b c) (head_of c) front

  pub place_lies : place + 28 ≤ length b
  place_lies = member_lies b sound c has place there

  pub front_inside : link_place b c (last_or None front) + 8 ≤ length b
  front_inside = link_inside b c sound stands has front (λ m i. subst (λ (xs : List ℕ). In m xs) (sym p.list_is) (In-append_left m front (place ∷ p.rest) i))

  rest_member : (m : ℕ) → In m p.rest → In m ms
  rest_member m i = subst (λ (xs : List ℕ). In m xs) (sym p.list_is) (In-append_right m front (place ∷ p.rest) (inr i))

  rest_leads : Leads b (next_of b place) p.rest 0
  rest_leads = leads_rest b (number b (holder_of b c) (head_of c)) front place p.rest (subst (λ (xs : List ℕ). Leads b (number b (holder_of b c) (head_of c)) xs 0) p.list_is has.leads)

  rest_once : Distinct (front ++ p.rest)
  rest_once = distinct_without front place p.rest (subst Distinct p.list_is has.once)

  next_small : length b < 2 ^ 64 → next_of b place < 2 ^ 64
  next_small short = go p.rest rest_leads (λ m i. member_lies b sound c has m (rest_member m i))
    where
      go : (xs : List ℕ) → Leads b (next_of b place) xs 0 → ((m : ℕ) → In m xs → m + 28 ≤ length b) → next_of b place < 2 ^ 64
      go [] l lies = let e : next_of b place ≡ 0 = l in omega arith
      go (m ∷ xs) l lies = let e = l.0 in let r = lies m (inl refl) in omega arith

  -- it goes
  pub removed_by : (now : List ℕ) (at next : ℕ) → at ≡ link_place b c (last_or None front) → length b < 2 ^ 64 → next ≡ next_of b place → now ≡ with_field b at (field 0 8) next → Removed b now c place
  removed_by now at next l short is e =
      let link = link_at b now c sound stands has front (place ∷ p.rest) p.list_is at l in
      let here = link.0 in
      let inside : LiesIn b at (field 0 8) = let r = link.1 in omega arith in
      let small : next < 2 ^ 64 = subst (λ (n : ℕ). n < 2 ^ 64) (sym is) (next_small short) in
      let long : length now ≡ length b = ap length e ∙ length-with_field b at (field 0 8) next inside in
      let change : Changed b now (touch leading.tile leading.place 8 ∷ []) = one_placed b now at leading.tile leading.place (changed_field b now at (field 0 8) next inside e) here in
      let word_now : word now (leading.tile + leading.place) 8 ≡ next_of b place = ap₂ (λ (x : List ℕ) (q : ℕ). word x q 8) e (same_place (leading.tile + leading.place) at (sym here)) ∙ field_reads b at (field 0 8) next inside small ∙ is in
      let nexts = λ (m : ℕ) (i : In m p.rest). next_stays b now c sound stands has front (place ∷ p.rest) p.list_is [] change long tt (λ n. tt) m (inr i) tt in
      let leads : Leads now (word now (leading.tile + leading.place) 8) p.rest 0 = subst (λ (x : ℕ). Leads now x p.rest 0) (sym word_now) (leads_same b now (next_of b place) p.rest 0 rest_leads nexts) in
      let ok = λ (z : ℕ) (i : In z p.rest). has.linkable z (rest_member z i) in
      record {
        members_are = members_now b now c sound stands has front (place ∷ p.rest) p.list_is [] change long tt (λ n. tt) p.rest tt tt leads ok rest_once ∙ sym p.without_is;
        has_chain = has_chain_now b now c sound stands has front (place ∷ p.rest) p.list_is [] change long tt (λ n. tt) p.rest tt tt leads ok rest_once;
        length_stays = long;
        changed = subst (λ (t : Touch). Changed b now (t ∷ [])) (behind_touch (holder_of b c) (head_of c) front (head_width c)) change;
      }

  -- another record takes its place
  pub replaced_by : (now b1 : List ℕ) (by : ℕ) → MayJoin b c by → (at next : ℕ) → at ≡ link_place b c (last_or None front) → length b < 2 ^ 64 → by < 2 ^ 64 → next ≡ next_of b place → b1 ≡ with_field b by uir_next_uir next → now ≡ with_field b1 at (field 0 8) by → Replaced b now c place by
  replaced_by now b1 by joins at next l short small is first second =
      let r = joined b c sound stands has by joins front (place ∷ p.rest) p.rest p.list_is (λ m i. inr i) (next_of b place) rest_leads rest_once now b1 at l (next_small short) small (first ∙ ap (with_field b by uir_next_uir) is) second in
      record { members_are = r.members_are ∙ sym (p.with_is by); has_chain = r.has_chain; length_stays = r.length_stays; changed = r.changed }
