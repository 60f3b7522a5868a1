-- How many variables a good image says that it has, and the numbers that entries may have by it.
use Rattle.cdf_attrs.proofs.Common.{DataSet, EntryKind, G, Good, HasShape, IsChain, List, R, VariableShape, Z, ap, arith, cdr_room, content, content_is, content_of, false, gdr_offset, good_by_its_shape, good_is_sound, image_limit, is_out_of_range, length, length-le_from_distinct, length-map, length_tiles, linkable-in, map, nat_le, nat_tests, record_number_limit, shape, subst, sym, variable_of, vdrs, word, ℕ, ◌+◌, ◌<◌, ◌∙◌, ◌≡◌, ◌≤◌}
use Rattle.cdf_model.specs.declared.head.Head.{Head}
use Rattle.cdf_format.proofs.GoodHead.{gdr_fits}
use Rattle.cdf_format.proofs.HeadOf.{head_of_good}

module _ (b : List ℕ) (good : Good b) where
  pub cdr_there : 28 ≤ length b
  cdr_there = let room = cdr_room b (good_is_sound b good) in omega (arith, room)

  pub gdr_there : (field : ℕ) → field + 4 ≤ 84 → gdr_offset b + field + 4 ≤ length b
  gdr_there field le = let fits = gdr_fits b good in omega (arith, fits, le)

  -- the count that was read, of the variables of a kind
  pub r_range : (count num : ℕ) → count ≡ word b (gdr_offset b + 44) 4 → nat_le count num ≡ is_out_of_range (content b) R num
  r_range count num e = ap (λ (n : ℕ). nat_le n num) (e ∙ ap (λ (h : Head). h.rvars) (sym (head_of_good b (shape b) (good_by_its_shape b good))))

  pub z_range : (count num : ℕ) → count ≡ word b (gdr_offset b + 60) 4 → nat_le count num ≡ is_out_of_range (content b) Z num
  z_range count num e = ap (λ (n : ℕ). nat_le n num) (e ∙ ap (λ (h : Head). h.zvars) (sym (head_of_good b (shape b) (good_by_its_shape b good))))

-- ---- numbers in range

-- of one of the variables of a kind, which are fewer than bytes
number_small : (b : List ℕ) (h : HasShape b (shape b)) (vs : List VariableShape) (type link num : ℕ) → length b ≤ image_limit → IsChain b (shape b).records type link (vdrs vs) → num < length (map (variable_of b) vs) → num ≤ record_number_limit
number_small b h vs type link num short chain under =
    let l = length-le_from_distinct (vdrs vs) (shape b).records chain.once (λ m i. linkable-in b (shape b).records type m (chain.linkable m i)) in
    omega (arith, length_tiles b 8 (length b) (shape b).records h.tiled, length-map vs (λ (v : VariableShape). v.vdr), length-map vs (variable_of b))

-- a number in range is that of an entry
pub in_range_small : (b : List ℕ) → Good b → length b ≤ image_limit → (kind : EntryKind) (num : ℕ) → is_out_of_range (content b) kind num ≡ false → num ≤ record_number_limit
in_range_small b good short kind num e =
    let h = (good_is_sound b good).has_shape in
    by kind h (subst (λ (x : DataSet). is_out_of_range x kind num ≡ false) (content_is b (shape b) h) e)
  where
    by : (kind : EntryKind) → HasShape b (shape b) → is_out_of_range (content_of b (shape b)) kind num ≡ false → num ≤ record_number_limit
    by G h e = grind (arith, nat_tests, e)
    by R h e = number_small b h (shape b).r_variables _ _ num short h.r_chain (grind (arith, nat_tests, e))
    by Z h e = number_small b h (shape b).z_variables _ _ num short h.z_chain (grind (arith, nat_tests, e))
