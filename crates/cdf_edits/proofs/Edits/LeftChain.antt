-- A member of a chain of the GDR that leaves it: the count falls, fields of those behind are written, and then others of the GDR.
use Rattle.cdf_edits.proofs.Common.{Chain, Covered, Distinct, Distinct-middle, Each, Edit, Field, HasShape, In, In-append_right, IsChain, IsSound, List, Mark, Removed, Same, Shape, Write, [], ap, arith, avoided, count_of, either, eq-eqb, eqb-true, field_marks, fixed_size, flat_map, gdr_offset, gdr_type, gdr_uir_head, head_of, holder_of, inl, inr, is_linkable, keeps_file, length, length-append, length-map, linkable-in, linkable-type, map, map-append, number, refl, removing_marks, size_at, subst, sym, touched_field, true, type_at, type_in, uir_type, with_writes, write, ℕ, ◌++◌, ◌+◌, ◌<◌, ◌==◌, ◌^◌, ◌∙◌, ◌∷◌, ◌≡◌, ◌≢◌, ◌≤◌}
use Rattle.cdf_edits.specs.Space.Chains.{without}
use Rattle.cdf_edits.proofs.Edits.ChainsOfShape.{IsOf, remove_changed, left_chain}
use Rattle.cdf_edits.proofs.Edits.Composing.{head_size, head_type, edit_then}
use Rattle.cdf_edits.proofs.Edits.RecordFrame.{chain_clear, field_clear, gdr_place, through}
use Rattle.cdf_edits.proofs.Edits.StepEdits.{fixed_long, Linked, gdr_in, gdr_typed, gdr_long, some_bytes, remove_edit}
use Rattle.cdf_edits.proofs.Edits.NumbersBehind.{numbering, tiles_numbered, each_numbered, small_numbers}
use Rattle.cdf_edits.proofs.Edits.VariableFrame.{Each-map}
use Rattle.cdf_edits.proofs.Edits.WrittenFields.{MayWrite, written_tiles, may_after, writes_edit, writes_long, writes_say, others_keep}

-- ---- lists

pub without-middle : (xs : List ℕ) (x : ℕ) (ys : List ℕ) → (In x xs → ⊥) → without x (xs ++ x ∷ ys) ≡ xs ++ ys
without-middle [] x ys out = rw (eq-eqb x x refl) refl
without-middle (z ∷ xs) x ys out = elim (either (z == x)) [
  | inl e ↦ absurd (out (inl (sym (eqb-true z x e))))
  | inr e ↦ rw e (ap (λ (r : List ℕ). z ∷ r) (without-middle xs x ys (λ i. out (inr i))))
]

-- a number in a field of a record of a chain
pub may_linked : {b : List ℕ} {s : Shape} → IsSound b s → (marks : List Mark) (type m : ℕ) (f : Field) (n : ℕ) → is_linkable b s.records type m ≡ true → type ≢ uir_type → 12 ≤ f.place → f.place + f.width ≤ fixed_size type → (type_at b m ≡ type → Covered b marks (touched_field m f)) → MayWrite b s.records marks (write m f n)
may_linked {b = b} {s = s} sound marks type m f n ok used later fits covered =
    let inside = linkable-in b s.records type m ok in
    let typed = linkable-type b s.records type m ok in
    record { inside = inside; used = λ u. used (sym typed ∙ u); fits = through (f.place + f.width) (fixed_size type) (size_at b m) fits (fixed_long b s sound.has_shape type m inside typed); later = later; covered = covered typed }

-- ---- the marks of the steps

-- the count, and what is written behind
abbrev pub counting : Chain → ℕ → List Mark → List Mark
counting c gdr behind = field_marks gdr_type gdr (count_of c) ++ behind

abbrev pub leaving : Chain → ℕ → List ℕ → List Mark → List Mark → List Mark
leaving c gdr members behind last = removing_marks gdr_type gdr (head_of c) (type_in c) members ++ counting c gdr behind ++ last

-- what they leave, by the chain
pub record LeavingTests (c : Chain) (num said : Field) (gdr : ℕ) (members : List ℕ) (behind last : List Mark) : Type 0 where
  pub num_later : 12 ≤ num.place
  pub num_fits : num.place + num.width ≤ fixed_size (type_in c)
  pub num_width : num.width ≡ 4
  pub said_width : said.width ≡ 4
  pub head_later : 12 ≤ (head_of c).place
  pub head_fits : (head_of c).place + (head_of c).width ≤ 84
  pub count_later : 12 ≤ (count_of c).place
  pub count_fits : (count_of c).place + (count_of c).width ≤ 84
  pub count_width : (count_of c).width ≡ 4
  pub no_uir : type_in c ≢ uir_type
  pub no_gdr : type_in c ≢ gdr_type
  pub in_gdr : (b : List ℕ) → holder_of b c ≡ gdr_offset b
  pub first_file : keeps_file (removing_marks gdr_type gdr (head_of c) (type_in c) members) ≡ true
  pub early_file : keeps_file (removing_marks gdr_type gdr (head_of c) (type_in c) members ++ counting c gdr behind) ≡ true
  pub later_start : avoided (counting c gdr behind ++ last) gdr_type 0 12 ≡ true
  pub later_head : avoided (counting c gdr behind ++ last) gdr_type (head_of c).place ((head_of c).place + (head_of c).width) ≡ true
  pub later_links : avoided (counting c gdr behind ++ last) (type_in c) 0 20 ≡ true
  pub last_start : avoided last gdr_type 0 12 ≡ true
  pub last_count : avoided last gdr_type (count_of c).place ((count_of c).place + (count_of c).width) ≡ true
  pub all_start : avoided (leaving c gdr members behind last) gdr_type 0 12 ≡ true
  pub all_list : avoided (leaving c gdr members behind last) gdr_type 64 72 ≡ true
  pub all_uir : avoided (leaving c gdr members behind last) uir_type 0 20 ≡ true

-- ---- the steps

-- the members get their numbers one after the other, which other records of theirs say
module _ {A : Type 0} (place : A → ℕ) (num : Field) (others : A → List ℕ) (said : Field) where
  pub record LeavesChain (b second mid : List ℕ) (s : Shape) (c : Chain) (all before : List A) (own : A) (after : List A) (behind last : List Mark) (lasts : List Write) : Type 0 where
    pub sound : IsSound b s
    pub was : all ≡ before ++ own ∷ after
    pub is_of : IsOf b s c s.gdr (map place all)
    pub tests : LeavingTests c num said s.gdr (map place all) behind last
    pub first : List ℕ
    pub removed : Removed b first c (place own)
    pub numbered : second ≡ with_writes first (write s.gdr (count_of c) (length before + length after) ∷ numbering place num others said (length before) after)
    pub written : mid ≡ with_writes second lasts
    pub covered : (m : ℕ) → In m (map place after) → type_at b m ≡ type_in c → Covered b behind (touched_field m num)
    pub may_others : (m n : ℕ) → In m (flat_map others after) → MayWrite b s.records behind (write m said n)
    pub may_last : Each (MayWrite b s.records last) lasts
    pub lasts_in : (m : ℕ) → In m (written_tiles lasts) → m ≡ s.gdr
    pub once : Distinct (s.gdr ∷ flat_map (λ x. place x ∷ others x) after)
    pub few : length before + length after < 256 ^ 4

module _ {A : Type 0} {place : A → ℕ} {num : Field} {others : A → List ℕ} {said : Field} {b second mid : List ℕ} {s : Shape} {c : Chain} {all_members before : List A} {own : A} {after : List A} {behind last : List Mark} {lasts : List Write} (l : LeavesChain place num others said b second mid s c all_members before own after behind last lasts) where
  h : HasShape b s
  h = l.sound.has_shape

  abbrev members : List ℕ
  members = map place all_members

  abbrev ws : List Write
  ws = numbering place num others said (length before) after

  t : LeavingTests c num said s.gdr members behind last
  t = l.tests

  were : members ≡ map place before ++ place own ∷ map place after
  were = ap (map place) l.was ∙ map-append place before (own ∷ after)

  pub may_write : Each (MayWrite b s.records behind) ws
  may_write = each_numbered place num others said (MayWrite b s.records behind) (length before) (length before + length after) after (omega arith)
      (λ m n i lt. may_linked l.sound behind (type_in c) m num n (l.is_of.chain.linkable m (subst (In m) (sym were) (In-append_right m (map place before) (place own ∷ map place after) (inr i)))) t.no_uir t.num_later t.num_fits (l.covered m i)) (λ m n i lt. l.may_others m n i)

  once : Distinct (s.gdr ∷ written_tiles ws)
  once = subst (λ (ms : List ℕ). Distinct (s.gdr ∷ ms)) (sym (tiles_numbered place num others said (length before) after)) l.once

  gdr_used : gdr_type ≢ uir_type
  gdr_used e = absurd cc

  abbrev removing : List Mark
  removing = removing_marks gdr_type s.gdr (head_of c) (type_in c) members

  abbrev all : List Write
  all = write s.gdr (count_of c) (length before + length after) ∷ ws

  linked : Linked b s gdr_type s.gdr (head_of c) (type_in c) (number b s.gdr (head_of c)) members
  linked = record { holder_in = gdr_in b s h; holder_typed = gdr_typed b s h; head_fits = through ((head_of c).place + (head_of c).width) 84 (size_at b s.gdr) t.head_fits (gdr_long b s h); head_later = t.head_later; chain = l.is_of.chain }

  e_first : Edit b l.first s.records s.records removing []
  e_first = remove_edit b s gdr_type s.gdr (head_of c) (type_in c) (number b s.gdr (head_of c)) members l.first h linked l.removed.length_stays (place own) (remove_changed h l.is_of l.removed)

  may_all : Each (MayWrite b s.records (counting c s.gdr behind)) all
  may_all = (
    record { inside = gdr_in b s h; used = λ u. gdr_used (sym (gdr_typed b s h) ∙ u); fits = through ((count_of c).place + (count_of c).width) 84 (size_at b s.gdr) t.count_fits (gdr_long b s h); later = t.count_later; covered = inl (record { typed = gdr_typed b s h; lies = inl refl; low = omega arith; high = omega arith }) },
    Each-map (MayWrite b s.records behind) (MayWrite b s.records (counting c s.gdr behind)) (λ w m. record { inside = m.inside; used = m.used; fits = m.fits; later = m.later; covered = inr m.covered }) ws may_write,
  )

  some : 8 ≤ length l.first
  some = let x = e_first.longer in let y = some_bytes b s h in omega arith

  may_first : Each (MayWrite l.first s.records (counting c s.gdr behind)) all
  may_first = may_after e_first (counting c s.gdr behind) all may_all

  pub e_second : Edit l.first second s.records s.records (counting c s.gdr behind) []
  e_second = subst (λ (x : List ℕ). Edit l.first x s.records s.records (counting c s.gdr behind) []) (sym l.numbered) (writes_edit l.first s.records (counting c s.gdr behind) all e_first.tiled_now some may_first)

  pub e_early : Edit b second s.records s.records (removing ++ counting c s.gdr behind) []
  e_early = edit_then e_first e_second

  pub some_second : 8 ≤ length second
  some_second = let x = e_second.longer in let y = some in omega arith

  pub lasts_second : Each (MayWrite second s.records last) lasts
  lasts_second = may_after e_early last lasts l.may_last

  e_last : Edit second mid s.records s.records last []
  e_last = subst (λ (x : List ℕ). Edit second x s.records s.records last []) (sym l.written) (writes_edit second s.records last lasts e_second.tiled_now some_second lasts_second)

  e_later : Edit l.first mid s.records s.records (counting c s.gdr behind ++ last) []
  e_later = edit_then e_second e_last

  pub left_edit : Edit b mid s.records s.records (leaving c s.gdr members behind last) []
  left_edit = edit_then e_first e_later

  pub as_long : length mid ≡ length b
  as_long =
      ap length l.written ∙ writes_long second s.records last lasts e_second.tiled_now some_second lasts_second
      ∙ ap length l.numbered ∙ writes_long l.first s.records (counting c s.gdr behind) all e_first.tiled_now some may_first ∙ l.removed.length_stays

  -- ---- what the image says

  gdr_head : {now : List ℕ} {marks : List Mark} → Edit b now s.records s.records marks [] → Same b now (s.gdr + 0) (s.gdr + 12)
  gdr_head e = e.head s.gdr (gdr_in b s h) (λ u. gdr_used (sym (gdr_typed b s h) ∙ u)) (λ r. r)

  gdr_still : {now : List ℕ} {marks : List Mark} → Edit b now s.records s.records marks [] → (type_at now s.gdr ≡ gdr_type) × (84 ≤ size_at now s.gdr)
  gdr_still {now = now} e = (head_type b now s.gdr (gdr_head e) ∙ gdr_typed b s h, subst (λ (n : ℕ). 84 ≤ n) (sym (head_size b now s.gdr (gdr_head e))) (gdr_long b s h))

  all_said : Each (λ (w : Write). number second w.tile w.f ≡ w.to) all
  all_said = subst (λ (x : List ℕ). Each (λ (w : Write). number x w.tile w.f ≡ w.to) all) (sym l.numbered)
      (writes_say l.first s.records (counting c s.gdr behind) all e_first.tiled_now some may_first once (subst (λ (n : ℕ). length before + length after < 256 ^ n) (sym t.count_width) l.few, small_numbers place num others said (length before) after t.num_width t.said_width l.few))

  pub counted_now : number mid s.gdr (count_of c) ≡ length (map place (before ++ after))
  counted_now = let g = gdr_still e_early in field_clear e_last s.gdr gdr_type (count_of c) (gdr_in b s h) g.0 t.last_start t.last_count (through ((count_of c).place + (count_of c).width) 84 (size_at second s.gdr) t.count_fits g.1) ∙ all_said.0 ∙ sym (length-map (before ++ after) place ∙ length-append before after)

  -- what was written behind
  pub may_now : Each (MayWrite mid s.records behind) ws
  may_now = may_after left_edit behind ws may_write

  pub said_now : Each (λ (w : Write). number mid w.tile w.f ≡ w.to) ws
  said_now = still ws (λ m i. i) (may_after e_early behind ws may_write) all_said.1
    where
      still : (vs : List Write) → ((m : ℕ) → In m (written_tiles vs) → In m (written_tiles ws)) → Each (MayWrite second s.records behind) vs → Each (λ (w : Write). number second w.tile w.f ≡ w.to) vs → Each (λ (w : Write). number mid w.tile w.f ≡ w.to) vs
      still [] sub writable says = tt
      still (v ∷ vs) sub writable says = (
        ap (λ (x : List ℕ). number x v.tile v.f) l.written ∙ others_keep second s.records last lasts e_second.tiled_now some_second lasts_second v.tile v.f writable.0.inside writable.0.used (λ i. once.0 (subst (λ (x : ℕ). In x (written_tiles ws)) (l.lasts_in v.tile i) (sub v.tile (inl refl)))) writable.0.fits ∙ says.0,
        still vs (λ m i. sub m (inr i)) writable.1 says.1,
      )

  -- ---- its chains

  pub chain_now : IsChain mid s.records (type_in c) (number mid s.gdr (head_of c)) (map place (before ++ after))
  chain_now =
      let left = without-middle (map place before) (place own) (map place after) (Distinct-middle (map place before) (place own) (map place after) (subst Distinct were l.is_of.chain.once)) in
      let first = left_chain h l.is_of l.removed e_first.tiled_now (t.in_gdr l.first ∙ gdr_place l.sound e_first t.first_file) in
      let g = gdr_still e_first in
      subst (IsChain mid s.records (type_in c) (number mid s.gdr (head_of c))) (ap (without (place own)) were ∙ left ∙ sym (map-append place before after))
      (chain_clear e_later (type_in c) _ _ (without (place own) members) first (field_clear e_later s.gdr gdr_type (head_of c) (gdr_in b s h) g.0 t.later_start t.later_head (through ((head_of c).place + (head_of c).width) 84 (size_at l.first s.gdr) t.head_fits g.1)) t.later_links)

  pub list_now : IsChain mid s.records uir_type (number mid s.gdr gdr_uir_head) s.unused
  list_now = chain_clear left_edit uir_type _ _ s.unused h.unused_chain (field_clear left_edit s.gdr gdr_type gdr_uir_head (gdr_in b s h) (gdr_typed b s h) t.all_start t.all_list (let g = gdr_long b s h in omega arith)) t.all_uir
