-- The record that has the head of a chain, and where the head, the count and the members lie in a sound image.
use Rattle.cdf_edits.proofs.Common.{AreTiles, Attrs, Chain, GrEntries, HasChain, HasShape, HolderStands, In, IsSound, List, RVars, ZEntries, ZVars, arith, cdr_type, count_of, field, fixed_size, gdr_offset, gdr_type, head_of, holder_of, holder_type, is_a, is_a-in, is_a-type, length, linkable-in, linkable-long, members_of, refl, shape, size_at, subst, sym, tile_lies, tiles, tiles_are, true, type_in, ℕ, ◌+◌, ◌≡◌, ◌≤◌}

pub head_width : (c : Chain) → (head_of c).width ≡ 8
head_width Attrs = refl
head_width RVars = refl
head_width ZVars = refl
head_width (GrEntries adr) = refl
head_width (ZEntries adr) = refl

-- a count has 4 bytes
pub count_field : (c : Chain) → field (count_of c).place 4 ≡ count_of c
count_field Attrs = refl
count_field RVars = refl
count_field ZVars = refl
count_field (GrEntries adr) = refl
count_field (ZEntries adr) = refl

module _ (b : List ℕ) (sound : IsSound b (shape b)) where
  h : HasShape b (shape b)
  h = sound.has_shape

  pub tiled : AreTiles b 8 (length b) (tiles b)
  tiled = subst (λ (ts : List ℕ). AreTiles b 8 (length b) ts) (sym (tiles_are b (shape b) h)) h.tiled

  pub long_of : (type place : ℕ) → is_a b (tiles b) type place ≡ true → fixed_size type ≤ size_at b place
  long_of type place e =
      let i = subst (λ (ts : List ℕ). In place ts) (tiles_are b (shape b) h) (is_a-in b (tiles b) type place e) in
      subst (λ (t : ℕ). fixed_size t ≤ size_at b place) (is_a-type b (tiles b) type place e) (h.fixed place i)

  pub end_of : (type place : ℕ) → is_a b (tiles b) type place ≡ true → place + size_at b place ≤ length b
  end_of type place e = (tile_lies b 8 (length b) (tiles b) place tiled (is_a-in b (tiles b) type place e)).high

  pub cdr_stands : is_a b (tiles b) cdr_type 8 ≡ true
  cdr_stands = subst (λ (ts : List ℕ). is_a b ts cdr_type 8 ≡ true) (sym (tiles_are b (shape b) h)) h.cdr_stands

  pub gdr_stands : is_a b (tiles b) gdr_type (gdr_offset b) ≡ true
  gdr_stands =
      let e : is_a b (tiles b) gdr_type (shape b).gdr ≡ true = subst (λ (ts : List ℕ). is_a b ts gdr_type (shape b).gdr ≡ true) (sym (tiles_are b (shape b) h)) h.gdr_stands in
      subst (λ (g : ℕ). is_a b (tiles b) gdr_type g ≡ true) (sym h.gdr_is) e

  pub cdr_room : 320 ≤ length b
  cdr_room = let l : 312 ≤ size_at b 8 = long_of cdr_type 8 cdr_stands in let r = end_of cdr_type 8 cdr_stands in omega arith

  -- a field of the fixed part of a record
  field_room : (type place at : ℕ) → is_a b (tiles b) type place ≡ true → at + 8 ≤ fixed_size type → place + at + 8 ≤ length b
  field_room type place at e fits = room (fixed_size type) (size_at b place) (long_of type place e) (end_of type place e) fits
    where
      room : (f n : ℕ) → f ≤ n → place + n ≤ length b → at + 8 ≤ f → place + at + 8 ≤ length b
      room f n l r p = omega arith

  pub gdr_field : (place : ℕ) → place + 8 ≤ 84 → gdr_offset b + place + 8 ≤ length b
  gdr_field place fits = field_room gdr_type (gdr_offset b) place gdr_stands fits

  -- ---- the record that has the head of a chain

  pub holder_stands : (c : Chain) → HolderStands b c → is_a b (tiles b) (holder_type c) (holder_of b c) ≡ true
  holder_stands Attrs stands = gdr_stands
  holder_stands RVars stands = gdr_stands
  holder_stands ZVars stands = gdr_stands
  holder_stands (GrEntries adr) stands = stands
  holder_stands (ZEntries adr) stands = stands

  -- where the head stands in it
  pub head_fits : (c : Chain) → (12 ≤ (head_of c).place) × ((head_of c).place + 8 ≤ fixed_size (holder_type c))
  head_fits Attrs = (omega arith, omega arith)
  head_fits RVars = (omega arith, omega arith)
  head_fits ZVars = (omega arith, omega arith)
  head_fits (GrEntries adr) = (omega arith, omega arith)
  head_fits (ZEntries adr) = (omega arith, omega arith)

  pub head_lies : (c : Chain) → HolderStands b c → holder_of b c + (head_of c).place + 8 ≤ length b
  head_lies c stands = field_room (holder_type c) (holder_of b c) (head_of c).place (holder_stands c stands) (head_fits c).1

  pub member_lies : (c : Chain) → HasChain b c → (m : ℕ) → In m (members_of b c) → m + 28 ≤ length b
  member_lies c has m i =
      let ok = has.linkable m i in
      let l = tile_lies b 8 (length b) (tiles b) m tiled (linkable-in b (tiles b) (type_in c) m ok) in
      let long = linkable-long b (tiles b) (type_in c) m ok in
      omega (arith, l.high)
