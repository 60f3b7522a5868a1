-- The image after a variable went: its shape, its content, its rules and its space.
use Rattle.cdf_edits.proofs.Common.{Field, Good, In, IsChain, IsSound, Kind, List, R, RMaxRecOf, RemovesVariable, Says, Shape, VariableShape, Z, [], ap, arith, cast_signed, content, count_of, emptied_fields, empty_writes, extent, false, field_reads4, fold, freed_with_variable, freeing_marks, gdr_eof, gdr_offset, gdr_r_max_rec, gdr_type, gdr_uir_head, good_by_its_shape, good_is_sound, good_long, greatest_at, head_of, image_limit, index_types, inl, inr, integer4, is_in, last_number, le-leb, length, links_end, map, max, max_rec_at, no_index, number, number_kept, r_extents, refl, remove, rules_of_good, sealed_kept, shape, shapes_of, size_at, subst, suc, sym, type_at, type_in, uir_type, variable_of, variable_records, variable_unlinking_marks, variables_chain, variables_of, vdr_num, vdrs, w32, with_variables, with_writes, word_kept, zero, ℕ, ◌++◌, ◌+◌, ◌∙◌, ◌∷◌, ◌≡◌, ◌≤◌}
use Rattle.cdf_edits.proofs.Edits.Common.{head_size, field_clear, gdr_field, gdr_place, gdr_in, gdr_typed, gdr_long, TakesVariable, SaysTaken, tests, without_variable, content_taken, taken_good, vdr_there, back_out, e_second, e_early, some_second, lasts_second, counted_now, numbered_still, kind_chain, with_shapes, content_now, write_lies, Frees, freed_edit, sound_now, others_kept, all_freed, gdr_still, freeing_behind, BytesStay, edit_under, Avoids-append, Avoids-split, freed_shape, freed_records, freed_long, freed_types, end_before}
use Rattle.std.specs.Int.RustNames.{FitsSigned}
use Rattle.cdf_edits.proofs.Edits.OwnVariable.{freed_mine, mine_freed}
use Rattle.cdf_edits.proofs.Edits.TakenVariable.{splices, back_in}
use Rattle.cdf_edits.proofs.Edits.UnlinkedVariable.{own_typed, leaves, leaving_tests, own_there, emptying_marks, emptied_edit, emptied_long, emptied_shape, emptied_sound, emptied_free, leads_nowhere, gdr_emptied, numbered_emptied, emptied_under, emptied_behind}
use Rattle.std.proofs.lemmas.Int.{ints}

no_gdr : (kind : Kind) → is_in gdr_type (type_in (variables_chain kind) ∷ index_types) ≡ false
no_gdr R = refl
no_gdr Z = refl

module _ {b now : List ℕ} {kind : Kind} {n : ℕ} (good : Good b) (d : RemovesVariable b now kind n) where
  abbrev pub s : Shape
  s = shape b

  pub sound : IsSound b s
  sound = good_is_sound b good

  abbrev type : ℕ
  type = type_in (variables_chain kind)

  -- the image in which its VDR leads to no node
  abbrev pub emptied : List ℕ
  emptied = with_writes d.mid (empty_writes d.own.vdr)

  -- its records, as they are freed
  abbrev pub places : List ℕ
  places = freed_with_variable d.own

  mine : (m : ℕ) → In m places → In m (variable_records d.own)
  mine = freed_mine d.own

  pub frees : Frees b emptied now (variable_unlinking_marks kind s.gdr (vdrs (shapes_of s kind)) (vdrs d.after) ++ emptying_marks kind d.own.vdr) (type_in (variables_chain kind) ∷ index_types) places
  frees = record {
    sound = sound;
    edit = emptied_edit good d.unlinks;
    long = emptied_long good d.unlinks;
    mid_sound = emptied_sound good d.unlinks;
    records = ap (λ (x : Shape). x.records) (emptied_shape good d.unlinks);
    unused = ap (λ (x : Shape). x.unused) (emptied_shape good d.unlinks);
    free = emptied_free good d.unlinks;
    typed = λ m i. own_typed good d.unlinks m (mine m i);
    no_gdr = no_gdr kind;
    given = d.given;
  }

  pub takes : TakesVariable b now s kind d.before d.own d.after places places (length emptied)
  takes =
      let unlinking = variable_unlinking_marks kind s.gdr (vdrs (shapes_of s kind)) (vdrs d.after) in
      let freeing = freeing_marks (type_in (variables_chain kind) ∷ index_types) s.unused places (length emptied) in
      record {
        edit = edit_under (freed_edit frees) _ (λ m t lo hi i is a. Avoids-append (unlinking ++ emptying_marks kind d.own.vdr) freeing t m lo hi (emptied_under good d.unlinks m t lo hi a) (Avoids-split unlinking freeing t m lo hi a).1);
        at = record { was = d.unlinks.was };
        mine = mine;
        born = λ m i. i;
      }

  -- ---- the shape

  pub shape_after : shape now ≡ without_variable sound takes (shape now).unused
  shape_after = freed_shape frees (emptied_shape good d.unlinks)

  pub records_are : (shape now).records ≡ s.records
  records_are = freed_records frees

  pub long_now : length now ≡ length b
  long_now = freed_long frees

  -- ---- what the records behind say

  numbered : (m : ℕ) → In m (vdrs d.after) → number now m vdr_num ≡ number emptied m vdr_num
  numbered m i =
      let v = vdr_there sound takes.at m (back_in sound takes.at m i) in
      let t = leaving_tests kind s.gdr [] [] in
      let typed = freed_types frees m v.0 ∙ v.1.0 in
      let later = head_size b emptied m (frees.edit.head m v.0 (λ x. t.no_uir (sym v.1.0 ∙ x)) (λ r. r)) in
      number_kept emptied now m (others_kept frees m v.0 (λ x. t.no_gdr (sym typed ∙ x)) (λ x. t.no_uir (sym typed ∙ x)) (back_out sound takes m i)).same vdr_num (let l = v.1.1 in omega arith)

  pub says : SaysTaken sound takes (shape now).unused
  says = record {
    numbered = numbered_still emptied now vdr_num (length d.before) (vdrs d.after) numbered (numbered_emptied good d.unlinks);
    variable_chain = chain_after;
    unused_chain = subst (λ (x : Shape). IsChain now x.records uir_type (number now x.gdr gdr_uir_head) x.unused) shape_after (sound_now frees).has_shape.unused_chain;
    freed = all_freed frees;
  }
    where
      chain_of_shape : (k : Kind) → IsChain now (shape now).records (type_in (variables_chain k)) (number now (shape now).gdr (head_of (variables_chain k))) (vdrs (shapes_of (shape now) k))
      chain_of_shape k = kind_chain k (sound_now frees).has_shape

      of_kind : (k : Kind) (vs : List VariableShape) (records list : List ℕ) → shapes_of (with_shapes s k records list vs) k ≡ vs
      of_kind R vs records list = refl
      of_kind Z vs records list = refl

      chain_after : IsChain now s.records (type_in (variables_chain kind)) (number now s.gdr (head_of (variables_chain kind))) (vdrs (d.before ++ d.after))
      chain_after = subst (λ (vs : List VariableShape). IsChain now s.records (type_in (variables_chain kind)) (number now s.gdr (head_of (variables_chain kind))) (vdrs vs)) (of_kind kind (d.before ++ d.after) s.records (shape now).unused)
          (subst (λ (x : Shape). IsChain now x.records (type_in (variables_chain kind)) (number now x.gdr (head_of (variables_chain kind))) (vdrs (shapes_of x kind))) shape_after (chain_of_shape kind))

  pub content_after : content now ≡ with_variables (content b) kind (remove (variables_of (content b) kind) n)
  content_after = content_taken sound takes says ∙ ap (λ (k : ℕ). with_variables (content b) kind (remove (variables_of (content b) kind) k)) d.count

  -- what the GDR says but for the head of the unused list is not written any more
  gdr_after : (f : Field) → f.place + f.width ≤ 64 → number now s.gdr f ≡ number d.mid s.gdr f
  gdr_after f low = gdr_still frees f low ∙ gdr_emptied good d.unlinks f (omega arith)

  pub count_now : number now s.gdr (count_of (variables_chain kind)) ≡ length (vdrs (d.before ++ d.after))
  count_now = gdr_after (count_of (variables_chain kind)) (count_low kind) ∙ counted_now (leaves good d.unlinks)
    where
      count_low : (kind : Kind) → (count_of (variables_chain kind)).place + (count_of (variables_chain kind)).width ≤ 64
      count_low R = omega arith
      count_low Z = omega arith

  pub good_after : length b ≤ image_limit → Good now
  good_after short =
      let image = good_by_its_shape b good in
      let t = tests sound takes in
      let end = gdr_field sound takes.edit t.file_clear gdr_eof t.eof_clear (omega arith) ∙ end_before b good ∙ sym long_now in
      taken_good sound takes says (sealed_kept b (good_long b s image) (rules_of_good b good)).0 image (mine_freed d.own) count_now end (let l = long_now in omega arith)

  -- rMaxRec is not written by freeing
  pub r_max_mid : number now s.gdr gdr_r_max_rec ≡ number d.mid s.gdr gdr_r_max_rec
  r_max_mid = gdr_after gdr_r_max_rec (omega arith)

  -- its bytes behind the links, but for the links of the VDR to its index
  pub behind : (m : ℕ) → In m places → BytesStay b now m (links_end (size_at b m)) (emptied_fields kind (type_at b m))
  behind m i k lt low out = (freeing_behind frees m i).each (m + k) (omega arith) (omega arith) ∙ emptied_behind good d.unlinks m (mine m i) k lt low out

  -- and these are 0
  pub left_empty : Says now d.own.vdr no_index
  left_empty =
      let same = freeing_behind frees d.own.vdr (mine_freed d.own d.own.vdr (inl refl)) in
      let long = (own_there good d.unlinks).1.1 in
      let end = links_of_long (size_at b d.own.vdr) long in
      let zero = leads_nowhere good d.unlinks in (
        word_kept emptied now (d.own.vdr + links_end (size_at b d.own.vdr)) (d.own.vdr + size_at b d.own.vdr) same (d.own.vdr + 28) 8 (omega arith) (omega arith) ∙ zero.0,
        (word_kept emptied now (d.own.vdr + links_end (size_at b d.own.vdr)) (d.own.vdr + size_at b d.own.vdr) same (d.own.vdr + 36) 8 (omega arith) (omega arith) ∙ zero.1, tt),
      )
    where
      links_of_long : (n : ℕ) → 340 ≤ n → links_end n ≡ 28
      links_of_long n l = rw (le-leb 28 n (omega arith)) refl

-- ---- rMaxRec

extent_small : (n : ℕ) → extent (cast_signed w32 n) ≤ 2147483648
extent_small n = grind arith

max_small : (m n k : ℕ) → m ≤ k → n ≤ k → max m n ≤ k
max_small m n k l h = grind arith

fold_small : (k m : ℕ) (ns : List ℕ) → m ≤ k → ((n : ℕ) → In n ns → n ≤ k) → fold max m ns ≤ k
fold_small k m [] l all = l
fold_small k m (n ∷ ns) l all = fold_small k (max m n) ns (max_small m n k l (all n (inl refl))) (λ x i. all x (inr i))

pub last_fits : (n : ℕ) → n ≤ 2147483648 → FitsSigned w32 (last_number n)
last_fits zero l = omega (arith, ints)
last_fits (suc n) l = omega (arith, ints)

pub greatest_fits : (b places : List ℕ) → FitsSigned w32 (greatest_at b places)
greatest_fits b places = last_fits (fold max 0 (map (λ vdr. extent (max_rec_at b vdr)) places)) (fold_small 2147483648 0 (map (λ vdr. extent (max_rec_at b vdr)) places) (omega arith) (all places))
  where
    all : (xs : List ℕ) → (n : ℕ) → In n (map (λ vdr. extent (max_rec_at b vdr)) xs) → n ≤ 2147483648
    all [] n i = absurd i
    all (x ∷ xs) n (inl q) = subst (λ (k : ℕ). k ≤ 2147483648) (sym q) (extent_small _)
    all (x ∷ xs) n (inr i) = all xs n i

extents_at : (b : List ℕ) (xs ys : List VariableShape) → map (λ v. extent v.max_rec) (map (variable_of b) xs ++ map (variable_of b) ys) ≡ map (λ vdr. extent (max_rec_at b vdr)) (vdrs (xs ++ ys))
extents_at b [] [] = refl
extents_at b [] (y ∷ ys) = ap (λ (r : List ℕ). extent (max_rec_at b y.vdr) ∷ r) (extents_at b [] ys)
extents_at b (x ∷ xs) ys = ap (λ (r : List ℕ). extent (max_rec_at b x.vdr) ∷ r) (extents_at b xs ys)

-- as the command says it
pub r_max_after : {b now : List ℕ} {n : ℕ} (kind : Kind) (good : Good b) (d : RemovesVariable b now kind n) → RMaxRecOf b now kind
r_max_after {b = b} {now = now} R good d =
    let s = shape b in
    let places = vdrs (d.before ++ d.after) in
    let greatest = greatest_at b places in
    let t = takes good d in
    let may = (lasts_second (leaves good d.unlinks)).0 in
    let second = e_second (leaves good d.unlinks) in
    let lies = write_lies d.unlinks.second s.records second.tiled_now (some_second (leaves good d.unlinks)) s.gdr gdr_r_max_rec may.inside may.fits in
    let written : integer4 d.mid s.gdr gdr_r_max_rec ≡ greatest = ap (λ (x : List ℕ). integer4 x s.gdr gdr_r_max_rec) d.unlinks.written ∙ field_reads4 d.unlinks.second s.gdr gdr_r_max_rec greatest refl lies (greatest_fits b places) in
    let kept : integer4 now s.gdr gdr_r_max_rec ≡ integer4 d.mid s.gdr gdr_r_max_rec = ap (cast_signed w32) (r_max_mid good d) in
    let place : gdr_offset now ≡ s.gdr = gdr_place (sound good d) t.edit (tests (sound good d) t).file_clear in
    let left : r_extents (content now) ≡ map (λ vdr. extent (max_rec_at b vdr)) places = ap r_extents (content_now (sound good d) (splices (sound good d) t (says good d))) ∙ extents_at b d.before d.after in
    ap (λ (g : ℕ). integer4 now g gdr_r_max_rec) place ∙ kept ∙ written ∙ ap (λ (ns : List ℕ). last_number (fold max 0 ns)) (sym left)
r_max_after {b = b} {now = now} Z good d =
    let s = shape b in
    let t = takes good d in
    let h = (sound good d).has_shape in
    let place : gdr_offset now ≡ s.gdr = gdr_place (sound good d) t.edit (tests (sound good d) t).file_clear in
    let early = e_early (leaves good d.unlinks) in
    let first = field_clear early s.gdr gdr_type gdr_r_max_rec (gdr_in b s h) (gdr_typed b s h) refl refl (let l = gdr_long b s h in omega arith) in
    let kept : integer4 now s.gdr gdr_r_max_rec ≡ integer4 b s.gdr gdr_r_max_rec = ap (cast_signed w32) (r_max_mid good d ∙ ap (λ (x : List ℕ). number x s.gdr gdr_r_max_rec) d.unlinks.written ∙ first) in
    ap (λ (g : ℕ). integer4 now g gdr_r_max_rec) place ∙ kept ∙ ap (λ (g : ℕ). integer4 b g gdr_r_max_rec) (sym h.gdr_is)
