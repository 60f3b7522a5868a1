-- The variables of an image, one after the other.
use Rattle.cdf_check.proofs.Common.{AreLong, AreTiles, AreVariables, Distinct, Field, Finding, Finds, Hold, Hold-member, Hold-members, In, In-append, IsBroken, IsBroken-after, IsBroken-before, IsBroken-split, IsVariable, LiesIn, List, None, Option, Row, Some, [], arith, chain, chain_sound, differ_rows, either, eq-eqb, eqb, false, fixed_size, flat_map, inl, inr, is_named_apart, length, length-le_from_distinct, length_tiles, linkable-in, linkable-type, name_at, name_field, name_in, ne_eqb, not, phase7, r_vdr_type, refl, same_name, size_at, subst, sym, tile_lies, true, true≢false, type_at, variable_rows, vdr_name, whole, z_vdr_type, ℕ, ◌++◌, ◌==◌, ◌||◌, ◌∙◌, ◌∷◌, ◌≡◌, ◌≢◌, ◌≤◌}
use Rattle.cdf_check.proofs.Alike.{all_of_each, not_all, bytes_eq-sym, one_is_like, none_is_like}

-- ---- the Name of a variable

pub name_lies : (b : List ℕ) (vdr : ℕ) → IsVariable b vdr → LiesIn b vdr (name_field (type_at b vdr))
name_lies b vdr is = let long = is.long in let fits = is.fits in elim is.type_is [ inl e ↦ rw e (omega arith) | inr e ↦ rw e (omega arith) ]

pub name_is : (b : List ℕ) (vdr : ℕ) → IsVariable b vdr → name_at b vdr ≡ name_in b vdr vdr_name
name_is b vdr is = elim is.type_is [ inl e ↦ rw e refl | inr e ↦ rw e refl ]

-- ---- the variables of a file

apart : r_vdr_type ≡ z_vdr_type → ⊥
apart e = absurd {A = ⊥} (omega (arith, e))

module _ (b ts : List ℕ) (tiled : AreTiles b 8 (length b) ts) (long : AreLong b ts) where
  chain_r_variables : (holder : ℕ) (head : Field) (vdrs : List ℕ) → chain b ts r_vdr_type holder head ≡ whole vdrs → AreVariables b vdrs
  chain_r_variables holder head vdrs is vdr i =
      let linkable = (chain_sound b ts r_vdr_type holder head vdrs is).linkable vdr i in
      let inside = linkable-in b ts r_vdr_type vdr linkable in
      let of_type : type_at b vdr ≡ 3 = linkable-type b ts r_vdr_type vdr linkable in
      let enough : 340 ≤ size_at b vdr = subst (λ (t : ℕ). fixed_size t ≤ size_at b vdr) of_type (long vdr inside) in
      record { type_is = inl of_type; long = enough; long_z = λ z. absurd (apart (sym of_type ∙ z)); fits = (tile_lies b 8 (length b) ts vdr tiled inside).high }

  chain_z_variables : (holder : ℕ) (head : Field) (vdrs : List ℕ) → chain b ts z_vdr_type holder head ≡ whole vdrs → AreVariables b vdrs
  chain_z_variables holder head vdrs is vdr i =
      let linkable = (chain_sound b ts z_vdr_type holder head vdrs is).linkable vdr i in
      let inside = linkable-in b ts z_vdr_type vdr linkable in
      let of_type : type_at b vdr ≡ 8 = linkable-type b ts z_vdr_type vdr linkable in
      let enough : 344 ≤ size_at b vdr = subst (λ (t : ℕ). fixed_size t ≤ size_at b vdr) of_type (long vdr inside) in
      record { type_is = inr of_type; long = omega (arith, enough); long_z = λ z. enough; fits = (tile_lies b 8 (length b) ts vdr tiled inside).high }

  -- those of both kinds
  module _ (holder : ℕ) (r_head z_head : Field) (rs zs : List ℕ) (r_is : chain b ts r_vdr_type holder r_head ≡ whole rs) (z_is : chain b ts z_vdr_type holder z_head ≡ whole zs) where
    pub all_variables : AreVariables b (rs ++ zs)
    all_variables vdr i = elim (In-append vdr rs zs i) [ inl j ↦ chain_r_variables holder r_head rs r_is vdr j | inr j ↦ chain_z_variables holder z_head zs z_is vdr j ]

    pub all_once : Distinct (rs ++ zs)
    all_once =
        let r = chain_sound b ts r_vdr_type holder r_head rs r_is in
        let z = chain_sound b ts z_vdr_type holder z_head zs z_is in
        join rs r.once z.once (λ m i j. apart (sym (linkable-type b ts r_vdr_type m (r.linkable m i)) ∙ linkable-type b ts z_vdr_type m (z.linkable m j)))
      where
        join : (xs : List ℕ) → Distinct xs → Distinct zs → ((m : ℕ) → In m xs → In m zs → ⊥) → Distinct (xs ++ zs)
        join [] d e out = e
        join (x ∷ xs) d e out = ((λ i. elim (In-append x xs zs i) [ inl j ↦ d.0 j | inr j ↦ out x (inl refl) j ]), join xs d.1 e (λ m i j. out m (inr i) j))

    pub all_inside : (m : ℕ) → In m (rs ++ zs) → In m ts
    all_inside m i = elim (In-append m rs zs i) [
      | inl j ↦ linkable-in b ts r_vdr_type m ((chain_sound b ts r_vdr_type holder r_head rs r_is).linkable m j)
      | inr j ↦ linkable-in b ts z_vdr_type m ((chain_sound b ts z_vdr_type holder z_head zs z_is).linkable m j)
    ]

    pub all_few : length (rs ++ zs) ≤ length b
    all_few = omega (arith, length-le_from_distinct (rs ++ zs) ts all_once all_inside, length_tiles b 8 (length b) ts tiled)

-- ---- the rules of all variables

breaks_in : (one two : ℕ → List Row) (rule place : ℕ) → ((m : ℕ) → IsBroken (one m) rule place → IsBroken (two m) rule place) → (ms : List ℕ) → IsBroken (flat_map one ms) rule place → IsBroken (flat_map two ms) rule place
breaks_in one two rule place to [] p = absurd p
breaks_in one two rule place to (m ∷ ms) p = elim (IsBroken-split (one m) (flat_map one ms) rule place p) [
  | inl q ↦ IsBroken-before (two m) (flat_map two ms) rule place (to m q)
  | inr q ↦ IsBroken-after (two m) (flat_map two ms) rule place (breaks_in one two rule place to ms q)
]

breaks_at : (rows : ℕ → List Row) (m rule place : ℕ) → IsBroken (rows m) rule place → (ms : List ℕ) → In m ms → IsBroken (flat_map rows ms) rule place
breaks_at rows m rule place p [] i = absurd i
breaks_at rows m rule place p (x ∷ ms) (inl e) = IsBroken-before (rows x) (flat_map rows ms) rule place (subst (λ (z : ℕ). IsBroken (rows z) rule place) e p)
breaks_at rows m rule place p (x ∷ ms) (inr i) = IsBroken-after (rows x) (flat_map rows ms) rule place (breaks_at rows m rule place p ms i)

module _ (b ts vdrs : List ℕ) where
  beside : (rule place vdr : ℕ) → IsBroken (variable_rows b ts [] vdr) rule place → IsBroken (variable_rows b ts vdrs vdr) rule place
  beside rule place vdr (inl p) = inl p
  beside rule place vdr (inr (inl p)) = absurd (true≢false p.2)
  beside rule place vdr (inr (inr p)) = inr (inr p)

  pub each_breaks : (rule place : ℕ) → IsBroken (flat_map (variable_rows b ts []) vdrs) rule place → IsBroken (phase7 b ts vdrs) rule place
  each_breaks rule place p = breaks_in (variable_rows b ts []) (variable_rows b ts vdrs) rule place (beside rule place) vdrs p

  names_break : Distinct vdrs → (rule place : ℕ) → IsBroken (differ_rows 2 (same_name b vdr_name) [] vdrs) rule place → IsBroken (phase7 b ts vdrs) rule place
  names_break once rule place p =
      let like = one_is_like (same_name b vdr_name) 2 [] vdrs once rule place p in
      let apart : eqb like.other place ≡ false = ne_eqb like.other place like.apart in
      let here : (eqb like.other place || not (same_name b vdr_name place like.other)) ≡ false = rw (apart, like.alike) refl in
      let named : is_named_apart b vdrs place ≡ false = not_all (λ o. (o == place) || not (same_name b vdr_name place o)) vdrs like.other like.other_in here in
      breaks_at (variable_rows b ts vdrs) place rule place (inr (inl (like.rule_is, refl, named))) vdrs like.inside

  names_hold : Hold (flat_map (variable_rows b ts []) vdrs) → Hold (differ_rows 2 (same_name b vdr_name) [] vdrs) → Hold (phase7 b ts vdrs)
  names_hold each differ = Hold-members (variable_rows b ts vdrs) vdrs (λ m i.
      let h = Hold-member (variable_rows b ts []) vdrs m each i in
      (h.0, (named m i, h.1.1)))
    where
      apart : (m o : ℕ) → In m vdrs → In o vdrs → o ≢ m → same_name b vdr_name m o ≡ false
      apart = none_is_like (same_name b vdr_name) 2 (λ m o. bytes_eq-sym (name_in b m vdr_name) (name_in b o vdr_name)) [] vdrs differ (λ m o i j ne. absurd i)

      named : (m : ℕ) → In m vdrs → is_named_apart b vdrs m ≡ true
      named m i = all_of_each (λ o. (o == m) || not (same_name b vdr_name m o)) vdrs (λ o j. elim (either (eqb o m)) [
        | inl e ↦ rw e refl
        | inr e ↦
            let ne : o ≢ m = λ q. absurd (true≢false (sym (eq-eqb o m q) ∙ e)) in
            rw (e, apart m o i j ne) refl
      ])

  -- each keeps the other rules, and this is the first one with a Name that one before it has, or none is
  pub all_found : Distinct vdrs → Hold (flat_map (variable_rows b ts []) vdrs) → (found : Option Finding) → Finds (differ_rows 2 (same_name b vdr_name) [] vdrs) found → Finds (phase7 b ts vdrs) found
  all_found once each None differ = names_hold each differ
  all_found once each (Some f) differ = names_break once f.rule f.place differ
