-- A variable that is taken out of the chain, counted no more, those behind it numbered anew, and whose VDR then leads to no node: the image is sound, and no one has the records of the variable.
use Rattle.cdf_edits.proofs.Common.{Among, AreFree, Avoids, Distinct, Distinct-back, Each, Edit, Field, Good, HasShape, In, IsSound, Kind, LiesIn, List, Mark, OutsideFields, R, Shape, UnlinksVariable, VariableShape, Within, Write, Z, [], all_unmarked, ap, arith, avoided, byte, count_of, either, emptied_fields, empty_writes, eq-eqb, field_marks, field_reads, flat_map, freed_with_variable, freeing_marks, gdr_offset, gdr_type, gdr_uir_head, good_is_sound, greatest_at, head_of, holder_of, if◌then◌else◌, index_types, inl, inr, is_in, length, length-with_field, links_end, mark, next_field, number, number_kept, numbers_on, other_words, r_max_marks, r_max_writes, r_vdr_type, refl, shape, shapes_of, size_at, subst, suc, sym, tile_lies, true, type_at, type_in, uir_type, variable_records, variable_removing_marks, variable_unlinking_marks, variables_chain, vdr_num, vdr_type, vdr_vxr_head, vdr_vxr_tail, vdrs, with_field, with_writes, write, z_vdr_type, ℕ, ℤ, ◌++◌, ◌+◌, ◌<◌, ◌==◌, ◌∙◌, ◌∷◌, ◌≡◌, ◌≢◌, ◌≤◌, ◌⊎◌}
use Rattle.cdf_edits.proofs.Edits.Common.{edit_under, Avoids-split, all_unmarked-away, kept_away, gdr_in, gdr_typed, gdr_long, Stands, TakesVariable, vdr_there, own_stand, once, ours, vdr_record, left_by, sound_taken, are_numbered, LeavingTests, LeavesChain, left_edit, said_now, chain_now, list_now, not_twice, can_be_freed, AreNumbered, index_typed, only_variable, kind_chain, MayWrite, written_tiles, BytesStay, end_long, head_size, edit_then, the_one, Avoids-append, avoided-avoids, within-of_type, as_long, shape_there, sound_there, with_shapes, kind_type, may_after, writes_edit, writes_long, write_lies, chain_clear, numbered_still, some_bytes, stays_within, apart, mine_times, distinct_if}
use Rattle.cdf_edits.proofs.Edits.OwnVariable.{freed-times, mine_freed, freed_mine}
use Rattle.cdf_edits.proofs.Edits.TakenVariable.{back_in, own_in}
use Rattle.cdf_edits.proofs.Edits.NumbersBehind.{numbering as numbering_of}

-- ---- by the kind

pub in_holder : (kind : Kind) (b : List ℕ) → holder_of b (variables_chain kind) ≡ gdr_offset b
in_holder kind b = grind arith

-- the numbers of those behind
abbrev pub numbering : Kind → List ℕ → List Mark
numbering kind behind = mark (type_in (variables_chain kind)) (Among behind) vdr_num ∷ []

pub leaving_tests : (kind : Kind) (gdr : ℕ) (members behind : List ℕ) → LeavingTests (variables_chain kind) vdr_num vdr_num gdr members (numbering kind behind) (r_max_marks kind gdr)
leaving_tests kind gdr members behind = grind arith

-- the links of a VDR to its index
abbrev pub emptying_marks : Kind → ℕ → List Mark
emptying_marks kind vdr = field_marks (type_in (variables_chain kind)) vdr vdr_vxr_head ++ field_marks (type_in (variables_chain kind)) vdr vdr_vxr_tail

-- what these and the steps before leave
record EmptyingTests (kind : Kind) (gdr : ℕ) (members behind : List ℕ) (vdr : ℕ) : Type 0 where
  pub links : avoided (emptying_marks kind vdr) (type_in (variables_chain kind)) 0 20 ≡ true
  pub list : avoided (emptying_marks kind vdr) uir_type 0 20 ≡ true
  pub index : all_unmarked (variable_unlinking_marks kind gdr members behind ++ emptying_marks kind vdr) index_types ≡ true
  pub start : Avoids (variable_unlinking_marks kind gdr members behind ++ emptying_marks kind vdr) (type_in (variables_chain kind)) vdr 0 12
  pub within : (In vdr behind → ⊥) → Within (variable_unlinking_marks kind gdr members behind ++ emptying_marks kind vdr) (type_in (variables_chain kind)) vdr (next_field ∷ vdr_vxr_head ∷ vdr_vxr_tail ∷ [])

emptying_tests : (kind : Kind) (gdr : ℕ) (members behind : List ℕ) (vdr : ℕ) → EmptyingTests kind gdr members behind vdr
emptying_tests R gdr members behind vdr = record { links = refl; list = refl; index = refl; start = avoided-avoids (variable_unlinking_marks R gdr members behind ++ emptying_marks R vdr) r_vdr_type vdr 0 12 refl; within = λ out. within-of_type (variable_unlinking_marks R gdr members behind ++ emptying_marks R vdr) r_vdr_type vdr (next_field ∷ vdr_vxr_head ∷ vdr_vxr_tail ∷ []) ((λ q l. refl), ((λ q l. absurd (out l)), ((λ q l. refl), ((λ q l. refl), tt)))) }
emptying_tests Z gdr members behind vdr = record { links = refl; list = refl; index = refl; start = avoided-avoids (variable_unlinking_marks Z gdr members behind ++ emptying_marks Z vdr) z_vdr_type vdr 0 12 refl; within = λ out. within-of_type (variable_unlinking_marks Z gdr members behind ++ emptying_marks Z vdr) z_vdr_type vdr (next_field ∷ vdr_vxr_head ∷ vdr_vxr_tail ∷ []) ((λ q l. refl), ((λ q l. absurd (out l)), ((λ q l. refl), ((λ q l. refl), tt)))) }

-- ---- the numbers that are written

abbrev numbers : ℕ → List VariableShape → List Write
numbers n vs = numbering_of (λ (v : VariableShape). v.vdr) vdr_num (λ (v : VariableShape). []) vdr_num n vs

numbers_are : (n : ℕ) (vs : List VariableShape) → numbers_on n (vdrs vs) ≡ numbers n vs
numbers_are n [] = refl
numbers_are n (v ∷ vs) = ap (λ (ws : List Write). write v.vdr vdr_num n ∷ ws) (numbers_are (suc n) vs)

tiles_are : (vs : List VariableShape) → flat_map (λ (v : VariableShape). v.vdr ∷ []) vs ≡ vdrs vs
tiles_are [] = refl
tiles_are (v ∷ vs) = ap (λ (ms : List ℕ). v.vdr ∷ ms) (tiles_are vs)

may_r_max : (b records : List ℕ) (gdr : ℕ) → In gdr records → type_at b gdr ≡ gdr_type → 84 ≤ size_at b gdr → (kind : Kind) (greatest : ℤ) → Each (MayWrite b records (r_max_marks kind gdr)) (r_max_writes kind gdr greatest)
may_r_max b records gdr i is long Z greatest = tt
may_r_max b records gdr i is long R greatest = (
  record { inside = i; used = λ u. (let e : gdr_type ≡ uir_type = sym is ∙ u in absurd cc); fits = omega arith; later = omega arith; covered = inl (record { typed = is; lies = inl refl; low = omega arith; high = omega arith }) },
  tt,
)

-- rMaxRec is in the GDR
r_max_in : (kind : Kind) (gdr : ℕ) (greatest : ℤ) (m : ℕ) → In m (written_tiles (r_max_writes kind gdr greatest)) → m ≡ gdr
r_max_in R gdr greatest m (inl e) = e
r_max_in R gdr greatest m (inr none) = absurd none
r_max_in Z gdr greatest m none = absurd none

-- they lie in what is freed
within_freed : (types unused places : List ℕ) (limit type vdr t m lo hi : ℕ) → In vdr places → 44 ≤ limit → Avoids (freeing_marks (type ∷ types) unused places limit) t m lo hi → Avoids (field_marks type vdr vdr_vxr_head ++ field_marks type vdr vdr_vxr_tail) t m lo hi
within_freed types unused places limit type vdr t m lo hi there long a = ((λ same lies. part 28 8 (omega arith) (all same lies)), ((λ same lies. part 36 8 (omega arith) (all same lies)), tt))
  where
    all : t ≡ type → In m (vdr ∷ []) → (hi ≤ 0) ⊎ (0 + limit ≤ lo)
    all same lies = a.1.1.0 same (subst (λ (x : ℕ). In x places) (sym (the_one vdr m lies)) there)

    part : (place width : ℕ) → place + width ≤ limit → (hi ≤ 0) ⊎ (0 + limit ≤ lo) → (hi ≤ place) ⊎ (place + width ≤ lo)
    part place width l (inl q) = inl (omega arith)
    part place width l (inr q) = inr (omega arith)

-- ---- the steps

module _ {b mid : List ℕ} {kind : Kind} {before : List VariableShape} {own : VariableShape} {after : List VariableShape} (good : Good b) (u : UnlinksVariable b mid kind before own after) where
  abbrev pub s : Shape
  s = shape b

  pub sound : IsSound b s
  sound = good_is_sound b good

  h : HasShape b s
  h = sound.has_shape

  abbrev members : List ℕ
  members = vdrs (shapes_of s kind)

  at : Stands s kind before own after
  at = record { was = u.was }

  vdr_behind : (m : ℕ) → In m (vdrs after) → In m s.records × ((type_at b m ≡ type_in (variables_chain kind)) × (340 ≤ size_at b m))
  vdr_behind m i = vdr_there sound at m (back_in sound at m i)

  pub leaves : LeavesChain (λ (v : VariableShape). v.vdr) vdr_num (λ (v : VariableShape). []) vdr_num b u.second mid s (variables_chain kind) (shapes_of s kind) before own after (numbering kind (vdrs after)) (r_max_marks kind s.gdr) (r_max_writes kind s.gdr (greatest_at b (vdrs (before ++ after))))
  leaves = record {
    sound = sound;
    was = u.was;
    is_of = record { holder_is = in_holder kind b ∙ h.gdr_is; chain = kind_chain kind h };
    tests = leaving_tests kind s.gdr members (vdrs after);
    first = u.first;
    removed = u.removed;
    numbered = u.numbered ∙ ap (λ (ws : List Write). with_writes u.first (write s.gdr (count_of (variables_chain kind)) (length before + length after) ∷ ws)) (numbers_are (length before) after);
    written = u.written;
    covered = λ m i t. inl (record { typed = t; lies = i; low = omega arith; high = omega arith });
    may_others = λ m n i. absurd (none_in after m i);
    may_last = may_r_max b s.records s.gdr (gdr_in b s h) (gdr_typed b s h) (gdr_long b s h) kind (greatest_at b (vdrs (before ++ after)));
    lasts_in = r_max_in kind s.gdr (greatest_at b (vdrs (before ++ after)));
    once = (
      (λ i. (leaving_tests kind s.gdr [] []).no_gdr (sym (vdr_behind s.gdr (subst (In s.gdr) (tiles_are after) i)).1.0 ∙ gdr_typed b s h)),
      subst Distinct (sym (tiles_are after)) (Distinct-back (vdrs before) (own.vdr ∷ vdrs after) (once sound at)).1,
    );
    few = u.few;
  }
    where
      none_in : (vs : List VariableShape) (m : ℕ) → In m (flat_map (λ (v : VariableShape). []) vs) → ⊥
      none_in [] m i = absurd i
      none_in (v ∷ vs) m i = none_in vs m i

  pub unlinked_edit : Edit b mid s.records s.records (variable_unlinking_marks kind s.gdr members (vdrs after)) []
  unlinked_edit = left_edit leaves

  pub own_there : In own.vdr s.records × ((type_at b own.vdr ≡ type_in (variables_chain kind)) × (340 ≤ size_at b own.vdr))
  own_there = vdr_there sound at own.vdr (own_in sound at)

  own_out : In own.vdr (vdrs after) → ⊥
  own_out i = (only_variable sound kind before own after u.was own.vdr (inl refl)).in_after (vdr_record after own.vdr i)

  numbered_now : AreNumbered mid vdr_num (length before) (vdrs after)
  numbered_now = are_numbered (λ (v : VariableShape). v.vdr) vdr_num (λ (v : VariableShape). []) vdr_num mid (length before) after (said_now leaves)

  -- each record is a VDR of the kind, a node, a block or a CPR
  pub own_typed : (m : ℕ) → In m (variable_records own) → is_in (type_at b m) (type_in (variables_chain kind) ∷ index_types) ≡ true
  own_typed m (inl e) = rw (eq-eqb (type_at b m) (type_in (variables_chain kind)) (ap (type_at b) e ∙ own_there.1.0)) refl
  own_typed m (inr i) = elim (either (type_at b m == type_in (variables_chain kind))) [ inl e ↦ rw e refl | inr e ↦ rw e (index_typed b s own (ours sound at).1.has.0 (ours sound at).1.fits.0 m i) ]

  -- ---- its VDR leads to no node any more

  abbrev vdr : ℕ
  vdr = own.vdr

  abbrev pub emptied : List ℕ
  emptied = with_writes mid (empty_writes vdr)

  -- its records, as they are freed
  abbrev places : List ℕ
  places = freed_with_variable own

  abbrev unlinking : List Mark
  unlinking = variable_unlinking_marks kind s.gdr members (vdrs after)

  abbrev marks : List Mark
  marks = emptying_marks kind vdr

  may : Each (MayWrite mid s.records marks) (empty_writes vdr)
  may =
      let used = λ (x : type_at b vdr ≡ uir_type). (leaving_tests kind s.gdr [] []).no_uir (sym own_there.1.0 ∙ x) in
      let long = own_there.1.1 in
      may_after unlinked_edit marks (empty_writes vdr) (
        record { inside = own_there.0; used = used; fits = omega arith; later = omega arith; covered = inl (record { typed = own_there.1.0; lies = inl refl; low = omega arith; high = omega arith }) },
        (record { inside = own_there.0; used = used; fits = omega arith; later = omega arith; covered = inr (inl (record { typed = own_there.1.0; lies = inl refl; low = omega arith; high = omega arith })) }, tt),
      )

  some : 8 ≤ length mid
  some = let x = unlinked_edit.longer in let y = some_bytes b s h in omega arith

  own_edit : Edit mid emptied s.records s.records marks []
  own_edit = writes_edit mid s.records marks (empty_writes vdr) unlinked_edit.tiled_now some may

  pub emptied_edit : Edit b emptied s.records s.records (unlinking ++ marks) []
  emptied_edit = edit_then unlinked_edit own_edit

  pub emptied_long : length emptied ≡ length b
  emptied_long = writes_long mid s.records marks (empty_writes vdr) unlinked_edit.tiled_now some may ∙ as_long leaves

  -- another record has its fields
  kept_field : (m : ℕ) (f : Field) → In m s.records → type_at b m ≢ uir_type → m ≢ vdr → f.place + f.width ≤ size_at b m → number emptied m f ≡ number mid m f
  kept_field m f i used ne fits =
      let kept = kept_away own_edit m (type_at mid m) i refl ((λ q l. ne (the_one vdr m l)), ((λ q l. ne (the_one vdr m l)), tt)) in
      let size = head_size b mid m (unlinked_edit.head m i used (λ r. r)) in
      number_kept mid emptied m kept.same f (omega arith)

  pub gdr_emptied : (f : Field) → f.place + f.width ≤ 84 → number emptied s.gdr f ≡ number mid s.gdr f
  gdr_emptied f low =
      let is = gdr_typed b s h in
      kept_field s.gdr f (gdr_in b s h) (λ x. apart gdr_type uir_type refl (sym is ∙ x)) (λ e. (leaving_tests kind s.gdr [] []).no_gdr (sym own_there.1.0 ∙ ap (type_at b) (sym e) ∙ is)) (let l = gdr_long b s h in omega arith)

  pub numbered_emptied : AreNumbered emptied vdr_num (length before) (vdrs after)
  numbered_emptied = numbered_still mid emptied vdr_num (length before) (vdrs after) (λ m i.
      let v = vdr_behind m i in
      kept_field m vdr_num v.0 (λ x. (leaving_tests kind s.gdr [] []).no_uir (sym v.1.0 ∙ x)) (λ e. own_out (subst (λ (x : ℕ). In x (vdrs after)) e i)) (let l = v.1.1 in omega arith)) numbered_now

  -- what is written in the VDR lies in what is freed
  pub emptied_under : (m t lo hi : ℕ) → Avoids (variable_removing_marks kind s.gdr members (vdrs after) s.unused places (length emptied)) t m lo hi → Avoids (unlinking ++ marks) t m lo hi
  emptied_under m t lo hi a =
      let parts = Avoids-split unlinking (freeing_marks (type_in (variables_chain kind) ∷ index_types) s.unused places (length emptied)) t m lo hi a in
      let inside = (tile_lies b 8 (length b) s.records vdr h.tiled own_there.0).high in
      let same = emptied_long in
      let long = own_there.1.1 in
      Avoids-append unlinking marks t m lo hi parts.0 (within_freed index_types s.unused places (length emptied) (type_in (variables_chain kind)) vdr t m lo hi (mine_freed own vdr (inl refl)) (omega arith) parts.1)

  -- ---- the image is sound, and no one has the records of the variable, which can be freed

  takes_emptied : TakesVariable b emptied s kind before own after places [] (length emptied)
  takes_emptied = record { edit = edit_under emptied_edit _ (λ m t lo hi i is a. emptied_under m t lo hi a); at = at; mine = freed_mine own; born = λ m i. absurd i }

  left_sound : IsSound emptied (with_shapes s kind s.records s.unused (before ++ after))
  left_sound =
      let t = emptying_tests kind s.gdr members (vdrs after) vdr in
      let c = variables_chain kind in
      sound_taken sound takes_emptied (record {
        numbered = numbered_emptied;
        variable_chain = chain_clear own_edit (type_in c) _ _ (vdrs (before ++ after)) (chain_now leaves) (gdr_emptied (head_of c) (leaving_tests kind s.gdr [] []).head_fits) t.links;
        unused_chain = chain_clear own_edit uir_type _ _ s.unused (list_now leaves) (gdr_emptied gdr_uir_head (omega arith)) t.list;
        freed = λ m i. absurd i;
      }) (not_twice (left_by sound at s.unused) emptied_edit)

  pub emptied_shape : shape emptied ≡ with_shapes s kind s.records s.unused (before ++ after)
  emptied_shape = shape_there left_sound

  pub emptied_sound : IsSound emptied (shape emptied)
  emptied_sound = sound_there left_sound

  pub emptied_free : AreFree emptied places
  emptied_free = can_be_freed (left_by sound at s.unused) emptied_edit left_sound (own_stand sound at) places (freed_mine own) (distinct_if places (λ m. subst (λ (n : ℕ). n ≤ 1) (sym (freed-times own m)) (mine_times (left_by sound at s.unused) m)))

  -- behind the links of an unused record they have their bytes, but for the links of the VDR to its index
  pub emptied_behind : (m : ℕ) → In m (variable_records own) → BytesStay b emptied m (links_end (size_at b m)) (emptied_fields kind (type_at b m))
  emptied_behind m (inl e) k lt low out =
      let t = emptying_tests kind s.gdr members (vdrs after) vdr in
      let stays = stays_within emptied_edit vdr (type_in (variables_chain kind)) _ own_there.0 own_there.1.0 t.start (t.within own_out) in
      let behind = subst (λ (x : ℕ). 28 ≤ links_end (size_at b x)) (sym e) (end_long (size_at b vdr) (let l = own_there.1.1 in omega arith)) in
      let fields = subst (λ (fs : List Field). OutsideFields fs k) (ap (λ (t : ℕ). emptied_fields kind t) (ap (type_at b) e ∙ own_there.1.0 ∙ kind_type kind) ∙ ap (λ p. if p then vdr_vxr_head ∷ vdr_vxr_tail ∷ [] else []) (eq-eqb (vdr_type kind) (vdr_type kind) refl)) out in
      subst (λ (x : ℕ). byte emptied (x + k) ≡ byte b (x + k)) (sym e) (stays.bytes k (subst (λ (x : ℕ). k < size_at b x) e lt) (inr (omega arith), fields))
  emptied_behind m (inr i) k lt low out =
      let mine = (ours sound at).1 in
      let away = all_unmarked-away (unlinking ++ marks) index_types (type_at b m) m (emptying_tests kind s.gdr members (vdrs after) vdr).index (index_typed b s own mine.has.0 mine.fits.0 m i) in
      (kept_away emptied_edit m (type_at b m) (own_stand sound at m (inr i)) refl away).same.each (m + k) (omega arith) (omega arith)

  -- the links are 0
  pub leads_nowhere : (number emptied vdr vdr_vxr_head ≡ 0) × (number emptied vdr vdr_vxr_tail ≡ 0)
  leads_nowhere =
      let first = with_field mid vdr vdr_vxr_head 0 in
      let head = write_lies mid s.records unlinked_edit.tiled_now some vdr vdr_vxr_head may.0.inside may.0.fits in
      let end = write_lies mid s.records unlinked_edit.tiled_now some vdr vdr_vxr_tail may.1.0.inside may.1.0.fits in
      let tail : LiesIn first vdr vdr_vxr_tail = let same = length-with_field mid vdr vdr_vxr_head 0 head in omega arith in
      (other_words first vdr vdr_vxr_tail 0 (vdr + 28) 8 tail (inl (omega arith)) ∙ field_reads mid vdr vdr_vxr_head 0 head (omega arith), field_reads first vdr vdr_vxr_tail 0 tail (omega arith))
