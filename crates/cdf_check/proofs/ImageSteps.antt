-- What follows from the rules on the records of an image for its other rules.
use Rattle.cdf_check.proofs.Common.{AllHold, AreChains, AreLong, AreTiles, AreVariables, AttributeShape, Distinct, FirstBroken, HasRoomForSizes, HasSizes, Hold, Hold-append, Hold-member, IsBroken, IsBroken-after, IsBroken-before, List, Row, Walk, [], adr_chain, adrs, ap, append_assoc, ap₂, arith, attribute_records, attribute_shape, filter, flat_map, gdr_offset, gdr_r_vdr_head, gdr_type, gdr_z_vdr_head, image_phases, is_a-in, le_of, length, map, owned_records, phase4, phase5, phase6, phase7, phase8, phase9, r_num_dims, r_vdr_chain, record_rows, records_of, refl, shape, size_at, subst, sym, tile_lies, tiles, tiling, tiling_sound, type_at, uir_type, unread_variables, unused_records, variable_records, variable_shape, vdrs, whole, z_vdr_chain, ℕ, ◌*◌, ◌++◌, ◌+◌, ◌==◌, ◌∙◌, ◌∷◌, ◌≡◌, ◌≤◌}
use Rattle.cdf_format.specs.Shape.{variables as shape_variables}
use Rattle.cdf_format.proofs.GoodImageLemmas.{map_adrs, map_vdrs, vdrs_append}
use Rattle.cdf_format.proofs.Owning.{owned_is}
use Rattle.cdf_structure.specs.declared.file_chains.Chains.{Chains}
use Rattle.cdf_structure.proofs.TileSteps.{whole_rows}
use Rattle.cdf_check.proofs.VariableSteps.{all_variables, all_once, all_few}

module _ (b ts : List ℕ) (is : tiling b ≡ whole ts) where
  are_tiles : tiles b ≡ ts
  are_tiles = ap records_of is

  records_are : (shape b).records ≡ ts
  unfolding shape
  records_are = are_tiles

  module _ (holds : Hold (phase4 b)) where
    pub all_long : AreLong b ts
    all_long m i = le_of _ (size_at b m) (Hold-member (record_rows b) ts m (subst Hold (whole_rows b ts is) holds) i).1.0

    pub linked_break : (rule place : ℕ) → IsBroken (phase5 b ts) rule place → FirstBroken (image_phases b) 1 rule place
    linked_break rule place broken = (holds, subst (λ (xs : List ℕ). IsBroken (phase5 b xs) rule place) (sym records_are) broken)

    -- the sizes of the dimensions that the r variables share lie in the image
    pub sizes_lie : Hold (phase5 b ts) → HasRoomForSizes b → HasSizes b
    sizes_lie linked room =
        let g = gdr_offset b in
        let tile = is_a-in b ts gdr_type g linked.0 in
        fit g (4 * r_num_dims b g) (size_at b g) (length b) room (tile_lies b 8 (length b) ts g (tiling_sound b ts is) tile).high
      where
        fit : (g d s n : ℕ) → 84 + d ≤ s → g + s ≤ n → g + 84 + d ≤ n
        fit g d s n p q = omega arith

    module _ (c : Chains) (are : AreChains b ts c) (linked : Hold (phase5 b ts)) where
      tiled : AreTiles b 8 (length b) ts
      tiled = tiling_sound b ts is

      pub variables : AreVariables b (c.r_variables.items ++ c.z_variables.items)
      variables = all_variables b ts tiled all_long (gdr_offset b) gdr_r_vdr_head gdr_z_vdr_head c.r_variables.items c.z_variables.items are.r_variables are.z_variables

      pub variables_once : Distinct (c.r_variables.items ++ c.z_variables.items)
      variables_once = all_once b ts tiled all_long (gdr_offset b) gdr_r_vdr_head gdr_z_vdr_head c.r_variables.items c.z_variables.items are.r_variables are.z_variables

      pub variables_few : length (c.r_variables.items ++ c.z_variables.items) ≤ length b
      variables_few = all_few b ts tiled all_long (gdr_offset b) gdr_r_vdr_head gdr_z_vdr_head c.r_variables.items c.z_variables.items are.r_variables are.z_variables

      -- ---- what the shape has

      rs_are : records_of (r_vdr_chain b (tiles b)) ≡ c.r_variables.items
      rs_are = ap (λ (xs : List ℕ). records_of (r_vdr_chain b xs)) are_tiles ∙ ap records_of are.r_variables

      zs_are : records_of (z_vdr_chain b (tiles b)) ≡ c.z_variables.items
      zs_are = ap (λ (xs : List ℕ). records_of (z_vdr_chain b xs)) are_tiles ∙ ap records_of are.z_variables

      adrs_are : adrs (shape b) ≡ c.attributes.items
      unfolding shape
      adrs_are =
          ap (λ (xs : List ℕ). map (λ (a : AttributeShape). a.adr) (map (attribute_shape b xs) (records_of (adr_chain b xs)))) are_tiles
          ∙ ap (λ (w : Walk). map (λ (a : AttributeShape). a.adr) (map (attribute_shape b ts) (records_of w))) are.attributes
          ∙ map_adrs b ts c.attributes.items

      vdrs_are : vdrs (shape_variables (shape b)) ≡ c.r_variables.items ++ c.z_variables.items
      unfolding shape
      vdrs_are =
          let r = records_of (r_vdr_chain b (tiles b)) in
          let z = records_of (z_vdr_chain b (tiles b)) in
          vdrs_append (map (variable_shape b (tiles b)) r) (map (variable_shape b (tiles b)) z)
          ∙ ap₂ (λ (xs ys : List ℕ). xs ++ ys) (map_vdrs b (tiles b) r ∙ rs_are) (map_vdrs b (tiles b) z ∙ zs_are)

      attributes_are : phase6 b (shape b).records (adrs (shape b)) ≡ phase6 b ts c.attributes.items
      attributes_are = ap₂ (phase6 b) records_are adrs_are

      variables_are : phase7 b (shape b).records (vdrs (shape_variables (shape b))) ≡ phase7 b ts (c.r_variables.items ++ c.z_variables.items)
      variables_are = ap₂ (phase7 b) records_are vdrs_are

      indexes_are : phase8 b (shape b).records (vdrs (shape_variables (shape b))) ≡ phase8 b ts (c.r_variables.items ++ c.z_variables.items)
      indexes_are = ap₂ (phase8 b) records_are vdrs_are

      linked_hold : Hold (phase5 b (shape b).records)
      linked_hold = subst (λ (xs : List ℕ). Hold (phase5 b xs)) (sym records_are) linked

      pub attributes_break : (rule place : ℕ) → IsBroken (phase6 b ts c.attributes.items) rule place → FirstBroken (image_phases b) 2 rule place
      attributes_break rule place broken = (holds, (linked_hold, subst (λ (rows : List Row). IsBroken rows rule place) (sym attributes_are) broken))

      module _ (named : Hold (phase6 b ts c.attributes.items)) where
        named_hold : Hold (phase6 b (shape b).records (adrs (shape b)))
        named_hold = subst Hold (sym attributes_are) named

        pub variables_break : (rule place : ℕ) → IsBroken (phase7 b ts (c.r_variables.items ++ c.z_variables.items)) rule place → FirstBroken (image_phases b) 3 rule place
        variables_break rule place broken = (holds, (linked_hold, (named_hold, subst (λ (rows : List Row). IsBroken rows rule place) (sym variables_are) broken)))

        module _ (described : Hold (phase7 b ts (c.r_variables.items ++ c.z_variables.items))) where
          variables_hold : Hold (phase7 b (shape b).records (vdrs (shape_variables (shape b))))
          variables_hold = subst Hold (sym variables_are) described

          pub indexes_break : (rule place : ℕ) → IsBroken (phase8 b ts (c.r_variables.items ++ c.z_variables.items)) rule place → FirstBroken (image_phases b) 4 rule place
          indexes_break rule place broken = (holds, (linked_hold, (named_hold, (variables_hold, subst (λ (rows : List Row). IsBroken rows rule place) (sym indexes_are) broken))))

          module _ (indexed : Hold (phase8 b ts (c.r_variables.items ++ c.z_variables.items))) where
            indexes_hold : Hold (phase8 b (shape b).records (vdrs (shape_variables (shape b))))
            indexes_hold = subst Hold (sym indexes_are) indexed

            -- ---- what is not read so far

            abbrev unread : List Row
            unread = unread_variables b (vdrs (shape_variables (shape b)))

            unread_are : unread ≡ unread_variables b (c.r_variables.items ++ c.z_variables.items)
            unread_are = ap (unread_variables b) vdrs_are

            pub read_breaks : (rule place : ℕ) → IsBroken (unread_variables b (c.r_variables.items ++ c.z_variables.items)) rule place → FirstBroken (image_phases b) 5 rule place
            read_breaks rule place broken =
                let here = IsBroken-before unread (phase9 (shape b).records (owned_records b (shape b))) rule place (subst (λ (rows : List Row). IsBroken rows rule place) (sym unread_are) broken) in
                (holds, (linked_hold, (named_hold, (variables_hold, (indexes_hold, here)))))

            -- ---- the owners

            abbrev records_of_variables : List ℕ → List ℕ
            records_of_variables vs = flat_map variable_records (map (variable_shape b ts) vs)

            rs_owned : flat_map variable_records (map (variable_shape b (tiles b)) (records_of (r_vdr_chain b (tiles b)))) ≡ records_of_variables c.r_variables.items
            rs_owned = ap₂ (λ (xs ms : List ℕ). flat_map variable_records (map (variable_shape b xs) ms)) are_tiles rs_are

            zs_owned : flat_map variable_records (map (variable_shape b (tiles b)) (records_of (z_vdr_chain b (tiles b)))) ≡ records_of_variables c.z_variables.items
            zs_owned = ap₂ (λ (xs ms : List ℕ). flat_map variable_records (map (variable_shape b xs) ms)) are_tiles zs_are

            both_owned : (rs zs : List ℕ) → records_of_variables (rs ++ zs) ≡ records_of_variables rs ++ records_of_variables zs
            both_owned [] zs = refl
            both_owned (v ∷ rs) zs = ap (λ (xs : List ℕ). variable_records (variable_shape b ts v) ++ xs) (both_owned rs zs) ∙ sym (append_assoc (variable_records (variable_shape b ts v)) (records_of_variables rs) (records_of_variables zs))

            module _ (own members : List ℕ) (own_is : own ≡ flat_map attribute_records (map (attribute_shape b ts) c.attributes.items)) (all_is : members ≡ own ++ flat_map variable_records (map (variable_shape b ts) (c.r_variables.items ++ c.z_variables.items))) where
              attributes_owned : flat_map attribute_records (map (attribute_shape b (tiles b)) (records_of (adr_chain b (tiles b)))) ≡ own
              attributes_owned =
                  ap (λ (xs : List ℕ). flat_map attribute_records (map (attribute_shape b xs) (records_of (adr_chain b xs)))) are_tiles
                  ∙ ap (λ (w : Walk). flat_map attribute_records (map (attribute_shape b ts) (records_of w))) are.attributes
                  ∙ sym own_is

              owned_are : owned_records b (shape b) ≡ (8 ∷ gdr_offset b ∷ members) ++ unused_records b (shape b)
              unfolding shape
              owned_are =
                  owned_is b (shape b)
                  ∙ joined (unused_records b (shape b)) _ own _ (records_of_variables c.r_variables.items) _ (records_of_variables c.z_variables.items) attributes_owned rs_owned zs_owned
                  ∙ ap (λ (xs : List ℕ). (8 ∷ gdr_offset b ∷ xs) ++ unused_records b (shape b)) (append_assoc own (records_of_variables c.r_variables.items) (records_of_variables c.z_variables.items) ∙ ap (λ (xs : List ℕ). own ++ xs) (sym (both_owned c.r_variables.items c.z_variables.items)) ∙ sym all_is)
                where
                  joined : (u a own r rs z zs : List ℕ) → a ≡ own → r ≡ rs → z ≡ zs → (8 ∷ gdr_offset b ∷ []) ++ a ++ r ++ z ++ u ≡ (8 ∷ gdr_offset b ∷ (own ++ rs ++ zs)) ++ u
                  joined u a own r rs z zs p q s = λ i. (8 ∷ gdr_offset b ∷ (p i ++ q i ++ s i)) ++ u

              abbrev all_owned : List ℕ
              all_owned = (8 ∷ gdr_offset b ∷ members) ++ filter (λ place. type_at b place == uir_type) ts

              owners_are : phase9 (shape b).records (owned_records b (shape b)) ≡ phase9 ts all_owned
              owners_are = ap₂ phase9 records_are (owned_are ∙ ap (λ (xs : List ℕ). (8 ∷ gdr_offset b ∷ members) ++ filter (λ place. type_at b place == uir_type) xs) records_are)

              pub owners_break : (rule place : ℕ) → IsBroken (phase9 ts all_owned) rule place → FirstBroken (image_phases b) 5 rule place
              owners_break rule place broken =
                  let here = IsBroken-after unread (phase9 (shape b).records (owned_records b (shape b))) rule place (subst (λ (rows : List Row). IsBroken rows rule place) (sym owners_are) broken) in
                  (holds, (linked_hold, (named_hold, (variables_hold, (indexes_hold, here)))))

              pub all_held : Hold (unread_variables b (c.r_variables.items ++ c.z_variables.items)) → Hold (phase9 ts all_owned) → AllHold (image_phases b)
              all_held read owned =
                  let here = Hold-append unread (phase9 (shape b).records (owned_records b (shape b))) (subst Hold (sym unread_are) read) (subst Hold (sym owners_are) owned) in
                  (holds, (linked_hold, (named_hold, (variables_hold, (indexes_hold, (here, tt))))))
