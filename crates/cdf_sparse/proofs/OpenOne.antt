-- Records were cut out of the index of a variable, of which a leaf has some, and others before them and behind them: those before them stay in its block, and those behind them get a leaf of their own.
use Rattle.cdf_cuts.proofs.Common.{Bool, Each, In, In-append, Leaf, List, Nodes, [], ap, arith, cases_lt, false, image_limit, inl, inr, leaves_of, length, map, nodes_of, places_of, range, refl, size_at, subst, suc, sym, tile_lies, times-append, true, type_at, vxr_type, zero, In-append_left, In-append_right, ℕ, ◌*◌, ◌+◌, ◌-◌, ◌<◌, ◌∙◌, ◌≡◌, ◌≢◌, ◌≤◌, ◌⊎◌}
use Rattle.std.proofs.Common.{drop, find, take, ◌||◌}
use Rattle.std.proofs.lemmas.List.{drop-drop, length-drop, length-take-le, take-take}
use Rattle.std.specs.Prelude.{max}
use Rattle.cdf_edits.proofs.Common.{Act, Good, Kind, Same, Stays, Variable, VariableShape, covers, drop-take, gave, is_in, is_in-true, plain_bytes, record_bytes, record_number_limit, shape, true-is_in, true≢false, uir_type, variable_of, vvr_place, vvr_type}
use Rattle.cdf_edits.proofs.Edits.ActsThen.{taken-gave}
use Rattle.cdf_edits.proofs.Edits.Common.{StandsAmong, apart, sound}
use Rattle.cdf_edits.proofs.Edits.LeafPieces.{IsOneOf, each_of, leaf_at, of_each, place_in, times_le}
use Rattle.cdf_edits.proofs.Edits.LeafRecords.{count_is}
use Rattle.cdf_edits.proofs.Edits.PlainLeaves.{PlainLeaf, leaves_ascend, plain_leaf}
use Rattle.cdf_edits.proofs.Edits.VariableCopied.{block_behind}
use Rattle.cdf_edits.specs.Index.Blocks.{record_length}
use Rattle.cdf_edits.specs.Index.Cut.{CutsIndex, IsNeeded, IsPart, StaysWhole, index_records}
use Rattle.cdf_edits.specs.Index.Grown.{index_cut_open, kept_open, new_room, outline, split_off, with_leaf, with_ranges}
use Rattle.cdf_edits.specs.Index.Written.{SpareIs, block_end, is_given_at, is_taken_at}
use Rattle.cdf_edits.specs.Space.Acts.{taken}
use Rattle.cdf_format.specs.Index.{leaf}
use Rattle.cdf_format.specs.Records.{linked_size, vvr_bytes}
use Rattle.cdf_index.proofs.ByLeaf.{in_nodes_with_leaf, node_stays}
use Rattle.cdf_index.proofs.Common.{Each-in, behind_in}
use Rattle.cdf_index.specs.Adding.{LeafAdded, NodeTaken, leaf_acts}
use Rattle.cdf_leaves.proofs.Own.{own_node}
use Rattle.cdf_index.specs.Replacing.{with_index}
use Rattle.cdf_puts.proofs.CoveringRanges.{some_or_none}
use Rattle.cdf_puts.proofs.GoesThen.{later_size, later_loose}
use Rattle.cdf_puts.proofs.LeafCounts.{one_of_leaves}
use Rattle.cdf_puts.proofs.LeafEdit.{blocks_go_on, body_long, leaf_goes_on, leaf_max_rec, node_taken, r_max_rec_stays, used_apart}
use Rattle.cdf_puts.proofs.PutBytes.{found_covering}
use Rattle.cdf_puts.proofs.PutNodes.{place_outside}
use Rattle.cdf_puts.specs.Going.{GoesOn}
use Rattle.cdf_puts.specs.SoFar.{taken_places}
use Rattle.cdf_puts.specs.Steps.{IsBlockBody, IsVacant}
use Rattle.cdf_cuts.proofs.BlocksMoved.{times_add}
use Rattle.cdf_cuts.proofs.CutFollows.{apart_by, each_of_list, given_out}
use Rattle.cdf_cuts.proofs.CutLinked.{freed_in}
use Rattle.cdf_cuts.specs.Cut.{IsCut}
use Rattle.cdf_cuts.specs.Planning.{opening}
use Rattle.cdf_gaps.proofs.FreedThenGoes.{goes_taken}
use Rattle.cdf_sparse.proofs.OpenBlocks.{BlockStill, PartAt, count, part_stays, still_part}
use Rattle.cdf_sparse.proofs.OpenCut as by
use Rattle.cdf_sparse.proofs.OpenFirsts.{next_left}
use Rattle.cdf_sparse.proofs.OpenLeaves.{kept_some, one_split, same_leaf, split_is}
use Rattle.cdf_sparse.proofs.OpenNodes.{any_of, given_before, new_sized, node_needed, once_both, outline_new, taken_behind, takes_leaf}
use Rattle.cdf_sparse.proofs.OpenNone.{still_stays}
use Rattle.cdf_sparse.proofs.OpenOneStep.{step_one}
use Rattle.cdf_sparse.specs.Opening.{IsDivided, OneDivided, PartStays, PartTaken, RecordsOpened, freed_opening, index_opened, later_records, opening_acts}
use Rattle.cdf_format.specs.Shape.{is_compressed}

outside_zero : (news : List ℕ) (at room : ℕ) → (room ≡ 0 → at ≡ 0) → (1 ≤ room → is_in at news ≡ true) → place_outside news at ≡ 0
outside_zero news at room none some = grind (arith, none, some)

module _ {b mid now : List ℕ} {kind : Kind} {before : List VariableShape} {own : VariableShape} {after : List VariableShape} {first last place at : ℕ} {old : Leaf} {body : List ℕ} (good : Good b) (stand : StandsAmong b kind before own after) (order : first ≤ last) (short : length b ≤ image_limit) (c : IsCut b mid kind own (opening first last)) (loose : is_compressed b own.vdr ≡ false)
    (i : IsOneOf (leaves_of own.index) old) (d : IsDivided first last old) (says : IsBlockBody body (later_records b (record_bytes b own.vdr) last old)) (w : LeafAdded mid now (with_index own (index_opened own first last)) (leaf (last + 1) old.last place false) body at) (still_short : length now ≤ image_limit) where
  abbrev v : Variable
  v = variable_of b own

  abbrev leaves : List Leaf
  leaves = leaves_of own.index

  abbrev size : ℕ
  size = record_bytes b own.vdr

  abbrev left : VariableShape
  left = with_index own (index_opened own first last)

  abbrev leaves' : List Leaf
  leaves' = leaves_of (index_opened own first last)

  abbrev new : Leaf
  new = leaf (last + 1) old.last place false

  abbrev own' : VariableShape
  own' = with_index own (with_leaf new at (index_opened own first last))

  abbrev records : List ℕ
  records = later_records b size last old

  abbrev room : ℕ
  room = new_room (last + 1) (index_opened own first last)

  abbrev step : List Act
  step = leaf_acts place (8 + length body) room at

  abbrev acts : List Act
  acts = opening_acts b own first last step

  goes_first : GoesOn b mid kind before own left after (gave b (freed_opening own first last))
  goes_first = by.goes_cut good stand order short c loose

  -- ---- the leaf is divided

  was : PlainLeaf b size old
  was = by.plain good stand order short c loose old i

  -- of no other leaf there are records before the last one that goes and behind it
  alone : (l : Leaf) → IsOneOf leaves l → l.first ≤ last → last < l.last → l ≡ old
  alone l j f t = let b' = d.begins in let e = d.ends in same_leaf last leaves (leaves_ascend good stand) l old j i f (omega arith) (omega arith) (omega arith)

  -- no part that stays in a block has the records of the new leaf
  no_part : (l : Leaf) → IsOneOf leaves l → l.first ≤ last + 1 → (m : Leaf) → by.LeftIn first last order l m → m.first ≤ last + 1 → last + 1 ≤ m.last → ⊥
  no_part l j low m x f t =
      let e = d.ends in
      let q : l ≡ old = same_leaf (last + 1) leaves (leaves_ascend good stand) l old j i low (omega (arith, x.within.upto)) (omega (arith, d.begins)) (omega arith) in
      elim x.side [
        | inl k ↦ absurd (omega (arith, k.last_is, k.reaches))
        | inr k ↦ absurd (omega (arith, k.from, d.begins, ap (λ (y : Leaf). y.first) q))
      ]

  vacant : IsVacant left (last + 1) old.last
  vacant = record {
    ordered = (let e = d.ends in omega arith);
    uncovered = elim (some_or_none (find (λ (leaf : Leaf). covers (last + 1) (range leaf.first leaf.last)) leaves')) [
      | inl y ↦
          let o = found_covering (last + 1) leaves' y.0 y.1 in
          let t = by.from_cut good stand order short c loose y.0 o.0 in
          absurd (no_part t.0 t.1.0 (omega (arith, t.1.1.within.from, o.1.0)) y.0 t.1.1 o.1.0 o.1.1)
      | inr none ↦ none
    ];
    before_next = next_left first last own.index (by.was_order good stand order short c loose) old i (omega (arith, d.begins)) was.small;
  }

  many : count new ≡ old.last - last
  many = let e = d.ends in omega arith

  as_long : length records ≡ (old.last - last) * size
  as_long =
      let e = d.ends in
      let f = d.begins in
      let all = times_add (last + 1 - old.first) (old.last - last) size in
      let fit = times_le (last + 1 - old.first + (old.last - last)) (count old) size (omega arith) in
      let inside = by.inside good stand order short c loose old i in
      length-take-le ((old.last - last) * size) (drop (old.place + vvr_place ((last + 1 - old.first) * size)) b) (omega (arith, length-drop (old.place + vvr_place ((last + 1 - old.first) * size)) b, was.room))

  as_long_mid : length records ≡ (old.last + 1 - (last + 1)) * record_bytes mid own.vdr
  as_long_mid = as_long ∙ (λ k. (sym many k) * (sym (by.size_cut good stand order short c loose) k))

  second : GoesOn mid now kind before left own' after step
  second = leaf_goes_on goes_first.good goes_first.among w says vacant as_long_mid still_short (later_loose good stand goes_first loose)

  pub goes : GoesOn b now kind before own own' after acts
  goes = goes_taken good stand goes_first second (taken-gave b (freed_opening own first last)) (takes_leaf place (8 + length body) room at)

  -- ---- the leaves by then

  in_order' : (l : Leaf) → (IsOneOf (leaves_of own'.index) l → (l ≡ new) ⊎ IsOneOf leaves' l) × ((l ≡ new) ⊎ IsOneOf leaves' l → IsOneOf (leaves_of own'.index) l)
  in_order' l = one_of_leaves new at 0 record_number_limit (index_opened own first last) (by.in_order good stand order short c loose) l

  not_new : (l : Leaf) → IsOneOf leaves l → IsPart (kept_open first last) l new → ⊥
  not_new l j part = elim (kept_some first last order l new [] part) [
    | inl k ↦ absurd (omega (arith, k.first_is, k.reaches))
    | inr k ↦
        let o = (by.plain good stand order short c loose l j).ordered in
        let e = d.ends in
        let q : l ≡ old = same_leaf old.last leaves (leaves_ascend good stand) l old j i (omega (arith, k.last_is)) (omega (arith, k.last_is)) was.ordered (omega arith) in
        absurd (omega (arith, k.from, d.begins, ap (λ (y : Leaf). y.first) q))
  ]

  part_left : (l m : Leaf) → IsOneOf leaves l → IsOneOf (leaves_of own'.index) m → IsPart (kept_open first last) l m → IsOneOf leaves' m
  part_left l m j k part = elim ((in_order' m).0 k) [ inl q ↦ absurd (not_new l j (subst (IsPart (kept_open first last) l) q part)) | inr x ↦ x ]

  split_new : (l m : Leaf) → IsOneOf leaves l → IsOneOf (leaves_of own'.index) m → IsPart (split_off first last) l m → (m ≡ new) × (l ≡ old)
  split_new l m j k part =
      let s = split_is first last order l m part in
      let q : l ≡ old = alone l j (let f = s.0.begins in omega arith) s.0.ends in
      let e = s.0.ends in
      elim ((in_order' m).0 k) [
        | inl r ↦ (r, q)
        | inr x ↦
            let t = by.from_cut good stand order short c loose m x in
            absurd (no_part t.0 t.1.0 (omega (arith, t.1.1.within.from, s.1.0)) m t.1.1 (omega (arith, s.1.0)) (omega (arith, s.1.1)))
      ]

  -- ---- what is taken

  taken_is : taken acts ≡ taken step
  taken_is = taken_behind b (freed_opening own first last) step

  taken_at : (m : ℕ) → is_taken_at acts m ≡ is_taken_at step m
  taken_at m = ap (λ (xs : List (ℕ × ℕ)). is_in m (map (λ (take : ℕ × ℕ). take.0) xs)) taken_is

  untaken : (m : ℕ) → In m (shape mid).records → type_at mid m ≢ uir_type → is_taken_at acts m ≡ false
  untaken m j used = taken_at m ∙ used_apart goes_first.good goes_first.among w m j used

  mid_plain : (m : Leaf) → IsOneOf leaves' m → PlainLeaf mid size m
  mid_plain m j = subst (λ (n : ℕ). PlainLeaf mid n m) (by.size_cut good stand order short c loose) (plain_leaf goes_first.good goes_first.among (later_loose good stand goes_first loose) m j)

  mid_there : (m : Leaf) → IsOneOf leaves' m → In m.place (shape mid).records
  mid_there m j = behind_in goes_first.good goes_first.among m.place (block_behind left m.place (place_in leaves' m j))

  block_untaken : (m : Leaf) → IsOneOf leaves' m → is_taken_at acts m.place ≡ false
  block_untaken m j = untaken m.place (mid_there m j) (λ e. apart vvr_type uir_type refl (sym (mid_plain m j).typed ∙ e))

  -- ---- the blocks that stay

  still : (l : Leaf) → IsOneOf leaves l → (l.first < first) ⊎ (last < l.last) → BlockStill b now l
  still l j side n lt =
      let t = by.to_cut good stand order short c loose l j side in
      let go = blocks_go_on goes_first.good goes_first.among w says in
      let p = t.1.1.within.place_is in
      let same = of_each (λ (m : Leaf). Same mid now m.place (m.place + size_at mid m.place)) leaves' t.0 go.old t.1.0 in
      let sized = ap (size_at mid) p ∙ by.sized_cut good stand order short c loose l j side in
      same.each (l.place + n) (omega (arith, p)) (omega (arith, p, sized, lt)) ∙ by.still_cut good stand order short c loose l j side n lt

  size_now : record_bytes now own.vdr ≡ size
  size_now = later_size good stand goes

  longer : length b ≤ length now
  longer = omega (arith, by.long_cut good stand order short c loose, goes_longer)
    where
      goes_longer : length mid ≤ length now
      goes_longer = second.file.longer

  plain_now : (m : Leaf) → IsOneOf (leaves_of own'.index) m → PlainLeaf now size m
  plain_now m j = subst (λ (n : ℕ). PlainLeaf now n m) size_now (plain_leaf goes.good goes.among (later_loose good stand goes loose) m j)

  kept : (l m : Leaf) → IsOneOf leaves l → IsOneOf (leaves_of own'.index) m → IsPart (kept_open first last) l m → PartStays b now v own.vdr acts l m
  kept l m j k part =
      let k' = part_left l m j k part in
      let x = by.part_cut good stand order short c loose l m j k' part in
      let p = by.plain good stand order short c loose l j in
      let at : PartAt b now size l m = elim x.side [
        | inl f ↦ still_part p x.within f.first_is (still l j (inl f.reaches))
        | inr g ↦ elim (cases_lt last l.first) [
          | inl gt ↦ still_part p x.within (omega (arith, g.first_is, gt)) (still l j (inr g.ends))
          | inr le ↦ absurd (omega (arith, g.from, d.begins, ap (λ (y : Leaf). y.first) (alone l j le g.ends)))
        ]
      ] in
      part_stays own.vdr refl size_now p (plain_now m k) x.within (by.inside good stand order short c loose l j) longer at v acts loose refl (block_untaken m k')

  -- ---- the block that is new

  new_in : IsOneOf (leaves_of own'.index) new
  new_in = (in_order' new).1 (inl refl)

  new_plain : PlainLeaf now size new
  new_plain = plain_now new new_in

  plain_new : plain_bytes now own.vdr new ≡ records
  plain_new =
      (rw (count_is new new_plain.small new_plain.ordered, size_now) refl) ∙ ap (λ (n : ℕ). take n (drop (place + 12) now)) (ap (λ (n : ℕ). n * size) many ∙ sym as_long) ∙ (blocks_go_on goes_first.good goes_first.among w says).records_are

  end_new : block_end now own.vdr new ≡ 12 + length records
  end_new = rw (count_is new new_plain.small new_plain.ordered, size_now) (omega (arith, as_long, ap (λ (n : ℕ). n * size) many))

  -- the later records are those of the leaf that it was
  records_were : records ≡ take (count new * size) (drop ((last + 1 - old.first) * size) (plain_bytes b own.vdr old))
  records_were =
      let e = d.ends in
      let f = d.begins in
      let off = (last + 1 - old.first) * size in
      let n = (old.last - last) * size in
      let all = times_add (last + 1 - old.first) (old.last - last) size in
      let fit = times_le (last + 1 - old.first + (old.last - last)) (count old) size (omega arith) in
      let whole : count old * size ≡ off + (count old * size - off) = omega arith in
      let plain : plain_bytes b own.vdr old ≡ take (count old * size) (drop (old.place + 12) b) = rw (was.plain, count_is old was.small was.ordered) refl in
      let at : old.place + vvr_place off ≡ old.place + 12 + off = omega arith in
      ap (λ (k : ℕ). take n (drop k b)) at
      ∙ sym (
      ap (λ (k : ℕ). take (k * size) (drop off (plain_bytes b own.vdr old))) many ∙ ap (λ (xs : List ℕ). take n (drop off xs)) plain ∙ ap (λ (k : ℕ). take n (drop off (take k (drop (old.place + 12) b)))) whole
      ∙ ap (take n) (drop-take off (count old * size - off) (drop (old.place + 12) b)) ∙ take-take n (count old * size - off) (drop off (drop (old.place + 12) b)) (omega arith) ∙ ap (take n) (drop-drop off (old.place + 12) b)
      )

  is_new : is_taken_at acts place ≡ true
  is_new = taken_at place ∙ is_in-true place (taken_places step) (inl refl)

  taken_new : PartTaken b now v own.vdr acts old new
  taken_new =
      let go = blocks_go_on goes_first.good goes_first.among w says in
      record {
        is_new = is_new;
        size_is = go.size_is ∙ ap (λ (n : ℕ). max 28 n) (sym end_new);
        written = record {
          plain_is = plain_new ∙ records_were;
          packed = λ q. absurd (true≢false (sym q ∙ loose));
          spare = subst (SpareIs b now own.vdr new) (sym is_new) (λ n low up. go.spare n (omega (arith, low, end_new)) up);
          reserved = λ q. absurd (true≢false (sym q));
        };
      }

  split : (l m : Leaf) → IsOneOf leaves l → IsOneOf (leaves_of own'.index) m → IsPart (split_off first last) l m → PartTaken b now v own.vdr acts l m
  split l m j k part = let s = split_new l m j k part in subst (λ (y : Leaf). PartTaken b now v own.vdr acts y m) (sym s.1) (subst (PartTaken b now v own.vdr acts old) (sym s.0) taken_new)

  -- ---- a leaf apart from the records that go

  untouched : (l : Leaf) → IsOneOf leaves l → (l.last < first) ⊎ (last < l.first) → Stays b now l.place []
  untouched l j side =
      let p = by.plain good stand order short c loose l j in
      let o = p.ordered in
      let s : (l.first < first) ⊎ (last < l.last) = elim side [ inl x ↦ inl (omega arith) | inr x ↦ inr (omega arith) ] in
      let t = by.to_cut good stand order short c loose l j s in
      let there = behind_in goes.good goes.among t.0.place (block_behind own' t.0.place (place_in (leaves_of own'.index) t.0 ((in_order' t.0).1 (inr t.1.0)))) in
      still_stays l (still l j s) (omega (arith, p.room)) (subst (λ (m : ℕ). In m (shape now).records) t.1.1.within.place_is there)

  -- ---- the index

  wanted : index_cut_open first last own.index ≡ with_leaf (leaf (last + 1) old.last 0 false) 0 (index_opened own first last)
  wanted = ap (with_ranges (index_opened own first last)) (one_split first last order 0 (suc record_number_limit) leaves (leaves_ascend good stand) old i d)

  need_is : 8 + length body ≡ max linked_size (vvr_bytes ((old.last - last) * size))
  need_is = body_long body records says ∙ ap (λ (n : ℕ). max 28 (12 + n)) as_long

  no_room : (k : ℕ) → room ≡ k → k ≡ 0 → at ≡ 0
  no_room k e z = by_room w.filled w.roomy room (e ∙ z) w.node
    where
      by_room : (filled roomy : List ℕ) (k : ℕ) → k ≡ 0 → NodeTaken filled roomy k at → at ≡ 0
      by_room filled roomy zero e t = t.1
      by_room filled roomy (suc k) e t = absurd (omega (arith, e))

  node_untaken : (m : ℕ) → In m (nodes_of (index_opened own first last)) → is_in m (taken_places acts) ≡ false
  node_untaken m j =
      let n = own_node goes_first.good goes_first.among m j in
      untaken m n.0 (λ e. apart vxr_type uir_type refl (sym n.1 ∙ e))

  record_given : (v : Variable) (m : ℕ) → is_given_at acts m ≡ is_given_at (gave b (freed_opening own first last)) m
  record_given v m = given_before b (freed_opening own first last) place (8 + length body) room at m

  cuts : (v : Variable) → record_length v ≡ record_bytes b own.vdr → CutsIndex v (kept_open first last) own.index (index_cut_open first last own.index) own'.index acts
  cuts v long =
      let was = by.cuts_cut good stand order short c loose v in
      let freed = freed_opening own first last in
      let index = index_opened own first last in
      let before : List Act = gave b freed in
      record {
        index_is = outline_new (taken_places acts) new at index node_untaken (outside_zero (taken_places acts) at room (λ z. no_room room refl z) (λ some. taken_at at ∙ node_taken place (8 + length body) room at some)) ∙ ap (outline (taken_places acts)) (sym wanted);
        apart = apart_by (index_records own'.index) (λ m. omega (arith, by.own_once goes.good goes.among m, times-append m (nodes_of own'.index) (places_of (leaves_of own'.index))));
        once = once_both b freed place (8 + length body) room at;
        frees = each_of_list (λ m. (is_in m (index_records own'.index) || is_given_at acts m) ≡ true) (index_records own.index) (λ m j. or_goes (is_in m (index_records index)) (is_given_at before m) (is_in m (index_records own'.index)) (is_given_at acts m) (λ e. in_later m e) (sym (record_given v m)) (Each-in (λ m. (is_in m (index_records index) || is_given_at before m) ≡ true) (index_records own.index) was.frees m j));
        takes = subst (Each (IsNeeded v own'.index)) (sym taken_is) (inr (any_of _ _ (leaves_of own'.index) new new_in (refl, (omega (arith, sized long), λ q. sized long))), node_needed v own'.index room at (new_sized new at index));
        stand = subst (λ (y : Nodes). Each (λ vxr. is_given_at acts vxr ≡ false) (nodes_of y)) (sym wanted) (each_of_list (λ vxr. is_given_at acts vxr ≡ false) (nodes_of (with_leaf (leaf (last + 1) old.last 0 false) 0 index)) (λ m j. record_given v m ∙ elim (in_nodes_with_leaf (leaf (last + 1) old.last 0 false) 0 index m j) [
          | inl k ↦ Each-in (λ vxr. is_given_at before vxr ≡ false) (nodes_of index) was.stand m k
          | inr z ↦ given_out b freed m (λ k. absurd (omega (arith, z.0, (tile_lies b 8 (length b) (shape b).records m (sound good stand).has_shape.tiled (freed_in good stand c.is_linked m k)).low)))
        ]));
        stay = each_of (λ o. Each (StaysWhole v (kept_open first last) acts o) (leaves_of own'.index)) leaves (λ o j. each_of (StaysWhole v (kept_open first last) acts o) (leaves_of own'.index) (λ n k part whole.
            let s = of_each (StaysWhole v (kept_open first last) before o) leaves' n (of_each (λ (o : Leaf). Each (StaysWhole v (kept_open first last) before o) leaves') leaves o was.stay j) (part_left o n j k part) part whole in
            (s.0, s.1, record_given v o.place ∙ s.2)));
      }
    where
      or_goes : (p q p' q' : Bool) → (p ≡ true → p' ≡ true) → q ≡ q' → (p || q) ≡ true → (p' || q') ≡ true
      or_goes p q p' q' f e t = grind (arith, f, e, t)

      sized : record_length v ≡ record_bytes b own.vdr → 8 + length body ≡ max linked_size (vvr_bytes ((old.last + 1 - (last + 1)) * record_length v))
      sized long = need_is ∙ (λ k. max linked_size (vvr_bytes (sym many k * sym long k)))

      in_later : (m : ℕ) → is_in m (index_records (index_opened own first last)) ≡ true → is_in m (index_records own'.index) ≡ true
      in_later m e = is_in-true m (index_records own'.index) (elim (In-append m (nodes_of (index_opened own first last)) (places_of leaves') (true-is_in m (index_records (index_opened own first last)) e)) [
        | inl j ↦ In-append_left m (nodes_of own'.index) (places_of (leaves_of own'.index)) (node_stays new at (index_opened own first last) m j)
        | inr j ↦
            let l = leaf_at leaves' m j in
            In-append_right m (nodes_of own'.index) (places_of (leaves_of own'.index)) (subst (λ (x : ℕ). In x (places_of (leaves_of own'.index))) (sym l.1.1) (place_in (leaves_of own'.index) l.0 ((in_order' l.0).1 (inr l.1.0))))
      ])

  -- ---- the whole

  one : OneDivided b own first last own'.index step
  one = record { old = old; is_one = i; is_divided = d; place = place; at = at; index_is = refl; takes_are = ap (λ (n : ℕ). leaf_acts place n room at) need_is }

  pub opened_one : RecordsOpened b now kind before own own' after first last step
  opened_one = record {
    loose = loose;
    goes = goes;
    divided = inr one;
    cuts = cuts;
    kept = kept;
    split = split;
    apart = untouched;
    max_rec_is = leaf_max_rec goes_first.good goes_first.among w ∙ by.max_cut good stand order short c loose;
    r_max_rec_is = r_max_rec_stays goes_first.good goes_first.among w ∙ by.r_max_cut good stand order short c loose;
    step = step_one good stand order short c loose w second goes untouched;
  }
