-- An unused record that is on no list is filled anew.
use Rattle.cdf_edits.proofs.Common.{AreTiles, Changed, In, IsChain, IsSound, Leads, List, Placed, Same, Same-part, Shape, Touch, [], ap, arith, cases_eq, content, false, false-is_in, fixed_size, gdr_type, gdr_uir_head, inl, inr, is_a, is_a-in, is_a-type, is_in, is_record_type, length, linkable-from, linkable-in, linkable-long, linkable-type, next_kept, number, number_kept, refl, size_at, subst, sym, tile_lies, touch, true, type_at, type_kept, uir_type, word_kept, ℕ, ◌+◌, ◌-◌, ◌∙◌, ◌∷◌, ◌≡◌, ◌≢◌, ◌≤◌}
use Rattle.cdf_edits.proofs.Frame.ChangedBytes.{changed_part, changed_whole}
use Rattle.cdf_edits.proofs.Frame.LinksStay.{tiles_same, leads_same}
use Rattle.cdf_edits.proofs.Space.UsedRecords.{apart, used-in}
use Rattle.cdf_edits.proofs.Space.SpaceSound.{used_stay_sound}

module _ (b now : List ℕ) (s : Shape) (place : ℕ) (sound : IsSound b s) (stands : is_a b s.records uir_type place ≡ true) (unlisted : is_in place s.unused ≡ false) (as_long : length now ≡ length b) (change : Changed b now (touch place 8 (size_at b place - 8) ∷ [])) where
  tile : In place s.records
  tile = is_a-in b s.records uir_type place stands

  touches : List Touch
  touches = touch place 8 (size_at b place - 8) ∷ []

  placed : Placed b s.records (length b) touches
  unfolding touches
  placed = let l = (tile_lies b 8 (length b) s.records place sound.has_shape.tiled tile).long in (inl (tile, omega arith), tt)

  sizes : (m : ℕ) → In m s.records → size_at now m ≡ size_at b m
  unfolding touches
  sizes m i =
      let tiled = sound.has_shape.tiled in
      let l = (tile_lies b 8 (length b) s.records m tiled i).long in
      word_kept b now (m + 0) (m + 8) (changed_part b now s.records (length b) tiled (omega arith) touches change placed m 0 8 i (omega arith) ((λ e. inl (omega arith)), tt)) (m + 0) 8 (omega arith) (omega arith)

  others : (m : ℕ) → In m s.records → m ≢ place → Same b now m (m + size_at b m)
  unfolding touches
  others m i ne = changed_whole b now s.records (length b) sound.has_shape.tiled (omega arith) touches change placed (m ∷ []) m i (inl refl) ((λ j. elim j [ inl e ↦ ne (sym e) | inr none ↦ none ]), tt)

  types : (m : ℕ) → In m s.records → m ≢ place → type_at now m ≡ type_at b m
  types m i ne = type_kept b now m (others m i ne) (tile_lies b 8 (length b) s.records m sound.has_shape.tiled i).long

  -- it has another type
  not_it : (m : ℕ) → type_at b m ≢ uir_type → m ≢ place
  not_it m other e = other (ap (type_at b) e ∙ is_a-type b s.records uir_type place stands)

  gdr_same : Same b now s.gdr (s.gdr + size_at b s.gdr)
  gdr_same =
      let h = sound.has_shape in
      others s.gdr (is_a-in b s.records gdr_type s.gdr h.gdr_stands) (not_it s.gdr (λ u. apart gdr_type uir_type refl (sym (is_a-type b s.records gdr_type s.gdr h.gdr_stands) ∙ u)))

  gdr_long : 84 ≤ size_at b s.gdr
  gdr_long = let h = sound.has_shape in
      subst (λ (t : ℕ). fixed_size t ≤ size_at b s.gdr) (is_a-type b s.records gdr_type s.gdr h.gdr_stands) (h.fixed s.gdr (is_a-in b s.records gdr_type s.gdr h.gdr_stands))

  list_stays : IsChain now s.records uir_type (number now s.gdr gdr_uir_head) s.unused
  list_stays =
      let c = sound.has_shape.unused_chain in
      let ne : (m : ℕ) → In m s.unused → m ≢ place = λ m i e. false-is_in place s.unused unlisted (subst (λ (x : ℕ). In x s.unused) e i) in
      let there = λ (m : ℕ) (i : In m s.unused). linkable-in b s.records uir_type m (c.linkable m i) in
      let long = λ (m : ℕ) (i : In m s.unused). linkable-long b s.records uir_type m (c.linkable m i) in
      let link = number_kept b now s.gdr gdr_same gdr_uir_head (let l = gdr_long in omega arith) in
      record {
        leads = subst (λ (x : ℕ). Leads now x s.unused 0) (sym link) (leads_same b now (number b s.gdr gdr_uir_head) s.unused 0 c.leads (λ m i. next_kept b now m (others m (there m i) (ne m i)) (let l = long m i in omega arith)));
        linkable = λ m i. linkable-from now s.records uir_type m (there m i) (types m (there m i) (ne m i) ∙ linkable-type b s.records uir_type m (c.linkable m i)) (subst (λ (n : ℕ). 28 ≤ n) (sym (sizes m (there m i))) (long m i));
        once = c.once;
      }

  pub filled_stays_sound : is_record_type (type_at now place) ≡ true → fixed_size (type_at now place) ≤ size_at b place → IsSound now s × (content now ≡ content b)
  filled_stays_sound typed fixed =
      let h = sound.has_shape in
      let gdr = gdr_same in
      let l = gdr_long in
      used_stay_sound b now s s.records s.unused sound (record {
        longer = omega arith;
        kept = λ m i other not_gdr. others m i (not_it m other);
        gdr_front = Same-part b now s.gdr (s.gdr + size_at b s.gdr) s.gdr (s.gdr + 36) gdr (omega arith) (omega arith);
        gdr_middle = Same-part b now s.gdr (s.gdr + size_at b s.gdr) (s.gdr + 44) (s.gdr + 64) gdr (omega arith) (omega arith);
        gdr_back = Same-part b now s.gdr (s.gdr + size_at b s.gdr) (s.gdr + 72) (s.gdr + size_at b s.gdr) gdr (omega arith) (omega arith);
        sub = used-in b [] s.records;
        tiled = subst (λ (n : ℕ). AreTiles now 8 n s.records) (sym as_long) (tiles_same b now 8 (length b) s.records h.tiled sizes);
        typed = λ m i. elim (cases_eq m place) [ inl e ↦ subst (λ (x : ℕ). is_record_type (type_at now x) ≡ true) (sym e) typed | inr ne ↦ subst (λ (t : ℕ). is_record_type t ≡ true) (sym (types m i ne)) (h.typed m i) ];
        fixed = λ m i. subst (λ (n : ℕ). fixed_size (type_at now m) ≤ n) (sym (sizes m i)) (elim (cases_eq m place) [
          | inl e ↦ subst (λ (x : ℕ). fixed_size (type_at now x) ≤ size_at b x) (sym e) fixed
          | inr ne ↦ subst (λ (t : ℕ). fixed_size t ≤ size_at b m) (sym (types m i ne)) (h.fixed m i)
        ]);
        unused_chain = list_stays;
      })
