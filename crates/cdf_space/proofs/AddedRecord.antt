-- A record that is taken and written becomes the last one of a chain, and is counted there; or it takes the place of another one.
use Rattle.cdf_space.proofs.Common.{Appended, Attrs, Chain, Changed, Edit, Fills, GrEntries, HasChain, HasShape, HolderStands, In, IsChain, IsOf, IsSound, LiesIn, List, Mark, MayJoin, Placed, RVars, Replaced, Shape, ZEntries, ZVars, [], ap, apart, append_changed, append_edit, append_marks, arith, avoided, cdr_gdr_offset, cdr_room, cdr_type, chain_clear, count_of, counted_in, false, field_clear, field_marks, field_reads, fixed_size, has_chain, head_fits, head_of, holder_of, holder_stands, holder_type, inl, is_a, is_a-from, is_a-in, is_a-type, joined_chain, length, length-with_field, linkable-in, linkable-type, long_of, may_join, members_are, members_of, number, other_bytes, part_clear, refl, replaced_chain, replacing_marks, shape, shape_is, size_at, subst, sym, taking_marks, tile_lies, tiles, tiles_are, touched_field, true, type_at, type_in, type_of_body, uir_type, whole, with_field, with_space, ℕ, ◌++◌, ◌+◌, ◌<◌, ◌==◌, ◌^◌, ◌∙◌, ◌∷◌, ◌≡◌, ◌≤◌}
use Rattle.cdf_edits.specs.Space.Adding.{Added, Exchanged}
use Rattle.cdf_edits.proofs.Edits.Composing.{edit_then, edit_wider, changed_edit, head_size, head_type}
use Rattle.cdf_edits.proofs.Edits.ChainEdits.{replaced_edit}
use Rattle.cdf_edits.proofs.Edits.MadeRecord.{place_in, filled_sound, filled_size, filled_edit, fresh}
use Rattle.cdf_space.proofs.Linking.{holder_same}

-- where the count stands in its record
pub count_fits : (c : Chain) → (12 ≤ (count_of c).place) × ((count_of c).place + 4 ≤ fixed_size (holder_type c)) × ((count_of c).width ≡ 4) × ((head_of c).width ≡ 8)
count_fits Attrs = (omega arith, omega arith, refl, refl)
count_fits RVars = (omega arith, omega arith, refl, refl)
count_fits ZVars = (omega arith, omega arith, refl, refl)
count_fits (GrEntries adr) = (omega arith, omega arith, refl, refl)
count_fits (ZEntries adr) = (omega arith, omega arith, refl, refl)

-- what the writes leave of the record that has the head, and of the links
record Clear (c : Chain) (filling linking counting : List Mark) : Type 0 where
  holder_stays : (avoided filling (holder_type c) 0 12 ≡ true) × (avoided linking (holder_type c) 0 12 ≡ true) × (avoided counting (holder_type c) 0 12 ≡ true)
  head_stays : (avoided filling (holder_type c) (head_of c).place ((head_of c).place + (head_of c).width) ≡ true) × (avoided counting (holder_type c) (head_of c).place ((head_of c).place + (head_of c).width) ≡ true)
  count_stays : (avoided filling (holder_type c) (count_of c).place ((count_of c).place + (count_of c).width) ≡ true) × (avoided linking (holder_type c) (count_of c).place ((count_of c).place + (count_of c).width) ≡ true)
  links_stay : (avoided filling (type_in c) 0 20 ≡ true) × (avoided counting (type_in c) 0 20 ≡ true)
  first_stays : (avoided linking cdr_type 0 12 ≡ true) × (avoided linking cdr_type 12 20 ≡ true)
  unlike : (type_in c == uir_type) ≡ false

module _ (unused ms : List ℕ) (place need holder : ℕ) where
  abbrev filling : List Mark
  filling = taking_marks unused place need ++ whole uir_type place need ∷ []

  abbrev linking : Chain → List Mark
  linking c = append_marks (holder_type c) holder (head_of c) (type_in c) place ms

  abbrev counting : Chain → List Mark
  counting c = field_marks (holder_type c) holder (count_of c)

  clear : (c : Chain) → Clear c filling (linking c) (counting c)
  clear Attrs = record { holder_stays = (refl, refl, refl); head_stays = (refl, refl); count_stays = (refl, refl); links_stay = (refl, refl); first_stays = (refl, refl); unlike = refl }
  clear RVars = record { holder_stays = (refl, refl, refl); head_stays = (refl, refl); count_stays = (refl, refl); links_stay = (refl, refl); first_stays = (refl, refl); unlike = refl }
  clear ZVars = record { holder_stays = (refl, refl, refl); head_stays = (refl, refl); count_stays = (refl, refl); links_stay = (refl, refl); first_stays = (refl, refl); unlike = refl }
  clear (GrEntries adr) = record { holder_stays = (refl, refl, refl); head_stays = (refl, refl); count_stays = (refl, refl); links_stay = (refl, refl); first_stays = (refl, refl); unlike = refl }
  clear (ZEntries adr) = record { holder_stays = (refl, refl, refl); head_stays = (refl, refl); count_stays = (refl, refl); links_stay = (refl, refl); first_stays = (refl, refl); unlike = refl }

module _ (b : List ℕ) (c : Chain) (body : List ℕ) (sound : IsSound b (shape b)) (stands : HolderStands b c) (has : HasChain b c) (kind : type_of_body body ≡ type_in c) (filled : List ℕ) (place : ℕ) (placed : Placed b filled body place) where
  abbrev s : Shape
  s = shape b

  abbrev records : List ℕ
  records = (shape filled).records

  abbrev list : List ℕ
  list = (shape filled).unused

  abbrev grown : Shape
  grown = with_space s records list

  abbrev need : ℕ
  need = 8 + length body

  abbrev holder : ℕ
  holder = holder_of b c

  abbrev ms : List ℕ
  ms = members_of b c

  fills : Fills b placed.taken filled s records list need place (type_of_body body)
  fills = placed.fills

  of_filled : HasShape filled grown
  of_filled = (filled_sound sound fills).has_shape

  e : Edit b filled s.records records (filling s.unused ms place need holder) (place ∷ [])
  e = filled_edit sound fills

  k : Clear c (filling s.unused ms place need holder) (linking s.unused ms place need holder c) (counting s.unused ms place need holder c)
  k = clear s.unused ms place need holder c

  at_tiles : tiles b ≡ s.records
  at_tiles = tiles_are b s sound.has_shape

  -- the record with the head
  holder_in : In holder s.records
  holder_in = subst (λ (ts : List ℕ). In holder ts) at_tiles (is_a-in b (tiles b) (holder_type c) holder (holder_stands b sound c stands))

  holder_typed : type_at b holder ≡ holder_type c
  holder_typed = is_a-type b (tiles b) (holder_type c) holder (holder_stands b sound c stands)

  holder_long : fixed_size (holder_type c) ≤ size_at b holder
  holder_long = long_of b sound (holder_type c) holder (holder_stands b sound c stands)

  head_long : (head_of c).place + (head_of c).width ≤ size_at b holder
  head_long = wide (head_of c).width (size_at b holder) (fixed_size (holder_type c)) (count_fits c).3 (head_fits b sound c).1 holder_long
    where
      wide : (w n f : ℕ) → w ≡ 8 → (head_of c).place + 8 ≤ f → f ≤ n → (head_of c).place + w ≤ n
      wide w n f p q r = omega arith

  count_long : (count_of c).place + (count_of c).width ≤ size_at b holder
  count_long = wide (count_of c).width (size_at b holder) (fixed_size (holder_type c)) (count_fits c).2 (count_fits c).1 holder_long
    where
      wide : (w n f : ℕ) → w ≡ 4 → (count_of c).place + 4 ≤ f → f ≤ n → (count_of c).place + w ≤ n
      wide w n f p q r = omega arith

  -- ---- once it is written

  holder_then : type_at filled holder ≡ holder_type c × (size_at filled holder ≡ size_at b holder)
  holder_then =
      let start = part_clear e holder (holder_type c) 0 12 holder_in holder_typed k.holder_stays.0 k.holder_stays.0 (tile_lies b 8 (length b) s.records holder sound.has_shape.tiled holder_in).long in
      (head_type b filled holder start ∙ holder_typed, head_size b filled holder start)

  same_holder : holder_of filled c ≡ holder
  same_holder = holder_same b filled c (of_filled.gdr_is ∙ sym sound.has_shape.gdr_is)

  chain_then : IsChain filled records (type_in c) (number filled holder (head_of c)) ms
  chain_then = chain_clear e (type_in c) _ _ ms (subst (λ (ts : List ℕ). IsChain b ts (type_in c) (number b holder (head_of c)) ms) at_tiles has)
      (field_clear e holder (holder_type c) (head_of c) holder_in holder_typed k.holder_stays.0 k.head_stays.0 head_long) k.links_stay.0

  is_of : IsOf filled grown c holder ms
  is_of = record { holder_is = same_holder; chain = chain_then }

  pub filled_members : members_of filled c ≡ ms
  filled_members = members_are of_filled is_of

  pub filled_stands : HolderStands filled c
  filled_stands = again c (subst (λ (ts : List ℕ). is_a filled ts (holder_type c) holder ≡ true) (sym (tiles_are filled grown of_filled)) (is_a-from filled records (holder_type c) holder (e.sub holder holder_in) holder_then.0))
    where
      again : (c : Chain) → is_a filled (tiles filled) (holder_type c) (holder_of b c) ≡ true → HolderStands filled c
      again Attrs e = tt
      again RVars e = tt
      again ZVars e = tt
      again (GrEntries adr) e = e
      again (ZEntries adr) e = e

  pub filled_has_chain : HasChain filled c
  filled_has_chain = has_chain of_filled is_of

  stands_there : In place records
  stands_there = place_in sound fills

  wide : 28 ≤ size_at filled place
  wide = subst (λ (n : ℕ). 28 ≤ n) (sym (filled_size sound fills)) fills.enough

  typed : type_at filled place ≡ type_in c
  typed = fills.typed ∙ kind

  no_member : In place ms → ⊥
  no_member i =
      let ok = has.linkable place i in
      apart (type_in c) uir_type k.unlike (sym (linkable-type b (tiles b) (type_in c) place ok) ∙ fresh sound fills (subst (λ (ts : List ℕ). In place ts) at_tiles (linkable-in b (tiles b) (type_in c) place ok)))

  pub filled_joins : MayJoin filled c place
  filled_joins = may_join of_filled is_of place stands_there typed wide no_member

  -- ---- once it is linked

  module _ (mid : List ℕ) (appended : Appended filled mid c place) where
    linked : Edit filled mid records records (linking s.unused ms place need holder c) []
    linked = append_edit filled grown (holder_type c) holder (head_of c) (type_in c) _ ms mid of_filled (record {
      holder_in = e.sub holder holder_in;
      holder_typed = holder_then.0;
      head_fits = subst (λ (n : ℕ). (head_of c).place + (head_of c).width ≤ n) (sym holder_then.1) head_long;
      head_later = (head_fits b sound c).0;
      chain = chain_then;
    }) appended.length_stays place (record { place_in = stands_there; place_typed = typed; place_long = let w = wide in omega arith }) (append_changed of_filled is_of appended)

    holder_now : type_at mid holder ≡ holder_type c × (size_at mid holder ≡ size_at filled holder)
    holder_now =
        let start = part_clear linked holder (holder_type c) 0 12 (e.sub holder holder_in) holder_then.0 k.holder_stays.1 k.holder_stays.1 (tile_lies filled 8 (length filled) records holder of_filled.tiled (e.sub holder holder_in)).long in
        (head_type filled mid holder start ∙ holder_then.0, head_size filled mid holder start)

    size_now : size_at mid holder ≡ size_at b holder
    size_now = holder_now.1 ∙ holder_then.1

    pub count_lies : LiesIn mid holder (count_of c)
    count_lies = reach (count_of c).place (count_of c).width (size_at mid holder) (length mid) (subst (λ (n : ℕ). (count_of c).place + (count_of c).width ≤ n) (sym size_now) count_long) (tile_lies mid 8 (length mid) records holder linked.tiled_now (e.sub holder holder_in)).high
      where
        reach : (p w n l : ℕ) → p + w ≤ n → holder + n ≤ l → holder + p + w ≤ l
        reach p w n l x y = omega arith

    count_then : number mid holder (count_of c) ≡ counted_in b c
    count_then =
        field_clear linked holder (holder_type c) (count_of c) (e.sub holder holder_in) holder_then.0 k.holder_stays.1 k.count_stays.1 (subst (λ (n : ℕ). (count_of c).place + (count_of c).width ≤ n) (sym holder_then.1) count_long)
        ∙ field_clear e holder (holder_type c) (count_of c) holder_in holder_typed k.holder_stays.0 k.count_stays.0 count_long

    pub mid_holder : holder_of mid c ≡ holder
    mid_holder =
        let i = is_a-in filled records cdr_type 8 of_filled.cdr_stands in
        let t = is_a-type filled records cdr_type 8 of_filled.cdr_stands in
        let long : 312 ≤ size_at filled 8 = subst (λ (t : ℕ). fixed_size t ≤ size_at filled 8) t (of_filled.fixed 8 i) in
        holder_same filled mid c (field_clear linked 8 cdr_type cdr_gdr_offset i t k.first_stays.0 k.first_stays.1 (omega arith)) ∙ same_holder

    pub counted_then : counted_in mid c ≡ counted_in b c
    counted_then = ap (λ (g : ℕ). number mid g (count_of c)) mid_holder ∙ count_then

    pub mid_long : 320 ≤ length mid
    mid_long = let l = cdr_room b sound in let m = e.longer in let n = linked.longer in omega arith

    pub count_room : holder_of mid c + (count_of c).place + 4 ≤ length mid
    count_room = rw mid_holder (subst (λ (w : ℕ). holder + (count_of c).place + w ≤ length mid) (count_fits c).2 count_lies)

    -- ---- once it is counted

    module _ (now : List ℕ) (small : counted_in b c + 1 < 2 ^ 32) (raised : now ≡ with_field mid (holder_of mid c) (count_of c) (counted_in mid c + 1)) where
      written : now ≡ with_field mid holder (count_of c) (counted_in b c + 1)
      written = raised ∙ (λ i. with_field mid (mid_holder i) (count_of c) (counted_then i + 1))

      long_now : length now ≡ length mid
      long_now = ap length written ∙ length-with_field mid holder (count_of c) (counted_in b c + 1) count_lies

      changed : Changed mid now (touched_field holder (count_of c) ∷ [])
      changed = subst (λ (x : List ℕ). Changed mid x (touched_field holder (count_of c) ∷ [])) (sym written)
          (record { longer = omega (arith, length-with_field mid holder (count_of c) (counted_in b c + 1) count_lies); same = λ i lt out. other_bytes mid holder (count_of c) (counted_in b c + 1) i count_lies out.0 })

      counts : Edit mid now records records (counting s.unused ms place need holder c) []
      counts = changed_edit mid now records (touched_field holder (count_of c) ∷ []) (counting s.unused ms place need holder c) [] linked.tiled_now long_now changed (
        record {
          inside = e.sub holder holder_in;
          fits = subst (λ (n : ℕ). (count_of c).place + (count_of c).width ≤ n) (sym size_now) count_long;
          behind_size = behind (count_of c).place (count_fits c).0;
          behind_type = inl (count_fits c).0;
          covered = inl (record { typed = holder_now.0; lies = inl refl; low = omega arith; high = omega arith });
        },
        tt,
      ) (let l = mid_long in omega arith)
        where
          behind : (p : ℕ) → 12 ≤ p → 8 ≤ p
          behind p l = omega arith

      chain_now : IsChain now records (type_in c) (number now holder (head_of c)) (ms ++ place ∷ [])
      chain_now = chain_clear counts (type_in c) _ _ (ms ++ place ∷ []) (joined_chain of_filled is_of appended linked.tiled_now mid_holder)
          (field_clear counts holder (holder_type c) (head_of c) (e.sub holder holder_in) holder_now.0 k.holder_stays.2 k.head_stays.1 (subst (λ (n : ℕ). (head_of c).place + (head_of c).width ≤ n) (sym size_now) head_long)) k.links_stay.1

      counted : number now holder (count_of c) ≡ counted_in b c + 1
      counted = ap (λ (x : List ℕ). number x holder (count_of c)) written ∙ field_reads mid holder (count_of c) (counted_in b c + 1) count_lies (fits (count_of c).width (counted_in b c + 1) (count_fits c).2 small)
        where
          fits : (w n : ℕ) → w ≡ 4 → n < 2 ^ 32 → n < 256 ^ w
          fits w n e l = rw e (omega arith)

      pub is_added : Added b now c body place
      is_added = record {
        filled = filled;
        placed = placed;
        linked = edit_then linked counts;
        as_long = long_now ∙ appended.length_stays;
        chain = chain_now;
        counted = counted;
      }

  -- ---- once it took the place of a member

  module _ (mid : List ℕ) {old : ℕ} (replaced : Replaced filled mid c old place) where
    exchanged : Edit filled mid records records (linking s.unused ms place need holder c) []
    exchanged =
        let in_its_shape : IsSound filled (shape filled) = subst (IsSound filled) (sym (shape_is filled grown of_filled)) (filled_sound sound fills) in
        subst (λ (h : ℕ). Edit filled mid records records (linking s.unused ms place need h c) []) same_holder
        (subst (λ (xs : List ℕ). Edit filled mid records records (replacing_marks (holder_type c) (holder_of filled c) (head_of c) (type_in c) place xs) []) filled_members (replaced_edit filled c in_its_shape filled_stands filled_has_chain filled_joins replaced))

    count_same : number mid holder (count_of c) ≡ counted_in b c
    count_same =
        field_clear exchanged holder (holder_type c) (count_of c) (e.sub holder holder_in) holder_then.0 k.holder_stays.1 k.count_stays.1 (subst (λ (n : ℕ). (count_of c).place + (count_of c).width ≤ n) (sym holder_then.1) count_long)
        ∙ field_clear e holder (holder_type c) (count_of c) holder_in holder_typed k.holder_stays.0 k.count_stays.0 count_long

    holder_still : holder_of mid c ≡ holder
    holder_still =
        let i = is_a-in filled records cdr_type 8 of_filled.cdr_stands in
        let t = is_a-type filled records cdr_type 8 of_filled.cdr_stands in
        let long : 312 ≤ size_at filled 8 = subst (λ (t : ℕ). fixed_size t ≤ size_at filled 8) t (of_filled.fixed 8 i) in
        holder_same filled mid c (field_clear exchanged 8 cdr_type cdr_gdr_offset i t k.first_stays.0 k.first_stays.1 (omega arith)) ∙ same_holder

    pub is_exchanged : Exchanged b mid c body old place
    is_exchanged = record {
      filled = filled;
      placed = placed;
      linked = edit_wider (counting s.unused ms place need holder c) exchanged;
      as_long = replaced.length_stays;
      chain = replaced_chain of_filled is_of replaced exchanged.tiled_now holder_still;
      counted = count_same;
    }
