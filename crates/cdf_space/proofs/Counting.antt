-- Walks along the records of an image and along its unused list, by what is left of them.
use Rattle.cdf_space.proofs.Common.{AreTiles, Bool, HasShape, In, IsSound, Leads, List, Shape, Tallies, [], arith, bytes_in, either, eq-eqb, eqb, eqb-true, false, filter, gdr_uir_head, inl, inr, length, length_tiles, linkable-in, linkable-long, next_of, number, refl, size_at, some_place, space_of, subst, sym, tile_lies, tiles_end, type_at, uir_type, unused_records, ℕ, ◌+◌, ◌-◌, ◌<◌, ◌∙◌, ◌∷◌, ◌≡◌, ◌≢◌, ◌≤◌}
use Rattle.cdf_format.proofs.SpaceLemmas.{space_adds_up_lem, unused_bytes, unused_count}
use Rattle.cdf_space.specs.declared.measuring.Tally.{Tally}

abbrev is_unused : List ℕ → ℕ → Bool
is_unused b place = eqb (type_at b place) uir_type

abbrev unused_in : List ℕ → List ℕ → List ℕ
unused_in b records = filter (is_unused b) records

length_filter : (p : ℕ → Bool) (xs : List ℕ) → length (filter p xs) ≤ length xs
length_filter p [] = omega arith
length_filter p (x ∷ xs) = let r = length_filter p xs in elim (either (p x)) [ inl e ↦ rw e (omega (arith, r)) | inr e ↦ rw e (omega (arith, r)) ]

-- no difference is below 0
pub record Parts (eof : ℕ) (unused listed : Tally) : Type 0 where
  pub used : unused.bytes + 8 ≤ eof
  pub count : listed.count ≤ unused.count
  pub bytes : listed.bytes ≤ unused.bytes

module _ (b : List ℕ) (s : Shape) where
  abbrev all : List ℕ
  all = unused_records b s

  -- behind a place these records are left
  pub record AreLeft (place count bytes : ℕ) : Type 0 where
    pub rest : List ℕ
    pub tiled : AreTiles b place (length b) rest
    pub counted : count + length (unused_in b rest) ≡ length all
    pub summed : bytes + bytes_in b (unused_in b rest) ≡ bytes_in b all

  -- one of them stands there
  pub record Stands (place count bytes : ℕ) : Type 0 where
    pub more : List ℕ
    pub long : 12 ≤ size_at b place
    pub high : place + size_at b place ≤ length b
    pub tiled : AreTiles b (place + size_at b place) (length b) more
    pub counted : count + length (unused_in b (place ∷ more)) ≡ length all
    pub summed : bytes + bytes_in b (unused_in b (place ∷ more)) ≡ bytes_in b all

  -- from a place on these records of the list are left
  pub record AreListed (place count bytes : ℕ) : Type 0 where
    pub rest : List ℕ
    pub leads : Leads b place rest 0
    pub within : (m : ℕ) → In m rest → In m s.unused
    pub counted : count + length rest ≡ length s.unused
    pub summed : bytes + bytes_in b rest ≡ bytes_in b s.unused

  -- one of them stands there
  pub record IsNext (place count bytes : ℕ) : Type 0 where
    pub lies : place + 28 ≤ length b
    pub few : count + 1 ≤ length s.unused
    pub short : bytes + size_at b place ≤ length b
    pub left : AreListed (next_of b place) (count + 1) (bytes + size_at b place)

module _ (b : List ℕ) (s : Shape) (sound : IsSound b s) where
  h : HasShape b s
  h = sound.has_shape

  pub few_unused : length (all b s) ≤ length b
  few_unused =
      let part = length_filter (is_unused b) s.records in
      let tiles = length_tiles b 8 (length b) s.records h.tiled in
      omega (arith, part, tiles)

  pub bytes_unused : bytes_in b (all b s) + 8 ≤ length b
  bytes_unused =
      let sum = space_adds_up_lem b s h in
      let parts = unused_bytes b s h in
      within (space_of b s).used (space_of b s).listed_bytes (space_of b s).unlisted_bytes (bytes_in b (all b s)) (length b) sum parts
    where
      within : (used listed rest bytes n : ℕ) → used + listed + rest + 8 ≡ n → listed + rest ≡ bytes → bytes + 8 ≤ n
      within used listed rest bytes n p q = omega arith

  -- ---- along the records

  pub all_left : AreLeft b s 8 0 0
  all_left = record { rest = s.records; tiled = h.tiled; counted = omega arith; summed = omega arith }

  pub stands : (place count bytes : ℕ) → AreLeft b s place count bytes → place < length b → Stands b s place count bytes
  stands place count bytes left lt = at left.rest left.tiled left.counted left.summed
    where
      at : (rest : List ℕ) → AreTiles b place (length b) rest → count + length (unused_in b rest) ≡ length (all b s) → bytes + bytes_in b (unused_in b rest) ≡ bytes_in b (all b s) → Stands b s place count bytes
      at [] tiled counted summed = let end : place ≡ length b = tiled in absurd (omega arith)
      at (tile ∷ more) tiled counted summed =
          let here : tile ≡ place = tiled.0 in
          let rest = subst (λ (x : ℕ). AreTiles b (place + size_at b x) (length b) more) here tiled.2 in
          record {
            more = more;
            long = subst (λ (x : ℕ). 12 ≤ size_at b x) here tiled.1;
            high = tiles_end b (place + size_at b place) (length b) more rest;
            tiled = rest;
            counted = subst (λ (x : ℕ). count + length (unused_in b (x ∷ more)) ≡ length (all b s)) here counted;
            summed = subst (λ (x : ℕ). bytes + bytes_in b (unused_in b (x ∷ more)) ≡ bytes_in b (all b s)) here summed;
          }

  pub unused_fits : (place count bytes : ℕ) (at : Stands b s place count bytes) → type_at b place ≡ uir_type → (count + 1 ≤ length b) × (bytes + size_at b place ≤ length b)
  unused_fits place count bytes at is =
      let few = few_unused in
      let short = bytes_unused in
      let counted = rw (eq-eqb (type_at b place) uir_type is) at at.counted in
      let summed = rw (eq-eqb (type_at b place) uir_type is) at at.summed in
      (omega (arith, few, counted), omega (arith, short, summed))

  pub unused_left : (place count bytes : ℕ) (at : Stands b s place count bytes) → type_at b place ≡ uir_type → AreLeft b s (place + size_at b place) (count + 1) (bytes + size_at b place)
  unused_left place count bytes at is = record {
    rest = at.more;
    tiled = at.tiled;
    counted = let counted = rw (eq-eqb (type_at b place) uir_type is) at at.counted in omega (arith, counted);
    summed = let summed = rw (eq-eqb (type_at b place) uir_type is) at at.summed in omega (arith, summed);
  }

  pub used_left : (place count bytes : ℕ) (at : Stands b s place count bytes) → type_at b place ≢ uir_type → AreLeft b s (place + size_at b place) count bytes
  used_left place count bytes at other =
      let no : eqb (type_at b place) uir_type ≡ false = elim (either (eqb (type_at b place) uir_type)) [ inl e ↦ absurd (other (eqb-true (type_at b place) uir_type e)) | inr e ↦ e ] in
      record { rest = at.more; tiled = at.tiled; counted = rw no at at.counted; summed = rw no at at.summed }

  pub none_left : (place count bytes : ℕ) → AreLeft b s place count bytes → (place < length b → ⊥) → (count ≡ length (all b s)) × (bytes ≡ bytes_in b (all b s))
  none_left place count bytes left over = at left.rest left.tiled left.counted left.summed
    where
      at : (rest : List ℕ) → AreTiles b place (length b) rest → count + length (unused_in b rest) ≡ length (all b s) → bytes + bytes_in b (unused_in b rest) ≡ bytes_in b (all b s) → (count ≡ length (all b s)) × (bytes ≡ bytes_in b (all b s))
      at [] tiled counted summed = (omega (arith, counted), omega (arith, summed))
      at (tile ∷ more) tiled counted summed =
          let end = tiles_end b (place + size_at b tile) (length b) more tiled.2 in
          let long : 12 ≤ size_at b tile = tiled.1 in
          absurd (over (omega (arith, end, long)))

  -- ---- along the list

  pub all_listed : AreListed b s (number b s.gdr gdr_uir_head) 0 0
  all_listed = record { rest = s.unused; leads = h.unused_chain.leads; within = λ m i. i; counted = omega arith; summed = omega arith }

  pub few_listed : length s.unused ≤ length b
  few_listed = let sum = unused_count b s h in let all_few = few_unused in less (space_of b s).listed (space_of b s).unlisted (length (all b s)) (length b) sum all_few
    where
      less : (listed rest count n : ℕ) → listed + rest ≡ count → count ≤ n → listed ≤ n
      less listed rest count n p q = omega arith

  bytes_listed : bytes_in b s.unused ≤ length b
  bytes_listed = let sum = space_adds_up_lem b s h in less (space_of b s).used (space_of b s).listed_bytes (space_of b s).unlisted_bytes (length b) sum
    where
      less : (used listed rest n : ℕ) → used + listed + rest + 8 ≡ n → listed ≤ n
      less used listed rest n p = omega arith

  pub is_next : (place count bytes : ℕ) → AreListed b s place count bytes → place ≢ 0 → IsNext b s place count bytes
  is_next place count bytes left some = at left.rest left.leads left.within left.counted left.summed
    where
      at : (rest : List ℕ) → Leads b place rest 0 → ((m : ℕ) → In m rest → In m s.unused) → count + length rest ≡ length s.unused → bytes + bytes_in b rest ≡ bytes_in b s.unused → IsNext b s place count bytes
      at [] leads within counted summed = absurd (some leads)
      at (member ∷ more) leads within counted summed =
          let here : place ≡ member = leads.0 in
          let listed : In place s.unused = within place (inl here) in
          let ok = h.unused_chain.linkable place listed in
          let lies = tile_lies b 8 (length b) s.records place h.tiled (linkable-in b s.records uir_type place ok) in
          let long = linkable-long b s.records uir_type place ok in
          let sum : bytes + (size_at b place + bytes_in b more) ≡ bytes_in b s.unused = subst (λ (x : ℕ). bytes + (size_at b x + bytes_in b more) ≡ bytes_in b s.unused) (sym here) summed in
          record {
            lies = omega (arith, lies.high, long);
            few = omega (arith, counted);
            short = let most = bytes_listed in omega (arith, sum, most);
            left = record {
              rest = more;
              leads = subst (λ (x : ℕ). Leads b (next_of b x) more 0) (sym here) leads.1;
              within = λ m i. within m (inr i);
              counted = omega (arith, counted);
              summed = omega (arith, sum);
            };
          }

  pub list_over : (place count bytes : ℕ) → AreListed b s place count bytes → place ≡ 0 → (count ≡ length s.unused) × (bytes ≡ bytes_in b s.unused)
  list_over place count bytes left none = at left.rest left.leads left.within left.counted left.summed
    where
      at : (rest : List ℕ) → Leads b place rest 0 → ((m : ℕ) → In m rest → In m s.unused) → count + length rest ≡ length s.unused → bytes + bytes_in b rest ≡ bytes_in b s.unused → (count ≡ length s.unused) × (bytes ≡ bytes_in b s.unused)
      at [] leads within counted summed = (omega (arith, counted), omega (arith, summed))
      at (member ∷ more) leads within counted summed =
          let listed : In member s.unused = within member (inl refl) in
          absurd (some_place b s.records (length b) member h.tiled (linkable-in b s.records uir_type member (h.unused_chain.linkable member listed)) (sym leads.0 ∙ none))

  -- ---- both

  pub parts : (eof : ℕ) (unused listed : Tally) → eof ≡ length b → Tallies b (all b s) unused → Tallies b s.unused listed → Parts eof unused listed
  parts eof unused listed end u l =
      let count = unused_count b s h in
      let bytes = unused_bytes b s h in
      let short = bytes_unused in
      record {
        used = omega (arith, end, u.bytes_are, short);
        count = omega (arith, u.count_is, l.count_is, count);
        bytes = omega (arith, u.bytes_are, l.bytes_are, bytes);
      }

  pub space_is : (eof : ℕ) (unused listed : Tally) → eof ≡ length b → Tallies b (all b s) unused → Tallies b s.unused listed
      → record { eof = eof; used = eof - 8 - unused.bytes; listed = listed.count; listed_bytes = listed.bytes; unlisted = unused.count - listed.count; unlisted_bytes = unused.bytes - listed.bytes } ≡ space_of b s
  space_is eof unused listed end u l =
      let count = unused_count b s h in
      let bytes = unused_bytes b s h in
      let sum = space_adds_up_lem b s h in
      let used : eof - 8 - unused.bytes ≡ (space_of b s).used = omega (arith, end, u.bytes_are, bytes, sum) in
      let unlisted : unused.count - listed.count ≡ (space_of b s).unlisted = omega (arith, u.count_is, l.count_is, count) in
      let unlisted_bytes : unused.bytes - listed.bytes ≡ (space_of b s).unlisted_bytes = omega (arith, u.bytes_are, l.bytes_are, bytes) in
      λ i. record { eof = end i; used = used i; listed = l.count_is i; listed_bytes = l.bytes_are i; unlisted = unlisted i; unlisted_bytes = unlisted_bytes i }
