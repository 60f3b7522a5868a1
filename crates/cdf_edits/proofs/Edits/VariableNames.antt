-- That no two variables have one name, where some were put in the place of others.
use Rattle.cdf_edits.proofs.Common.{Bool, Distinct, Distinct-back, Hold-member, In, In-append, In-append_left, In-append_right, IsGoodByShape, IsSound, Kind, List, Mark, R, Shape, VariableShape, Z, [], and_from, ap, both, bytes_eq, cases_eq, differ-turned, either, eq-eqb, eqb-true, false, inl, inr, is_named_apart, linkable-type, name_in, not_false, r_vdr_type, refl, same_name, shapes_of, subst, sym, true, type_at, type_in, variable_rows, variables, variables_chain, vdr_name, vdrs, vdrs_append, z_vdr_type, ℕ, ◌++◌, ◌==◌, ◌∙◌, ◌∷◌, ◌≡◌, ◌≢◌, ◌⊎◌}
use Rattle.std.proofs.Common.{not, ◌||◌}
use Rattle.cdf_edits.proofs.Edits.VariableFrame.{remaining_names}
use Rattle.cdf_edits.proofs.Edits.VariableKinds.{other_kind, shapes_with, by_kind, kind_chain}
use Rattle.cdf_edits.proofs.Edits.VariableSplice.{VariableSplices, s', variables', others_remain}
use Rattle.cdf_edits.proofs.Space.TakenFromList.{distinct_apart}
use Rattle.cdf_edits.proofs.Space.UsedRecords.{apart}

-- ---- the rule, pair by pair

or_not : (p q : Bool) → (p || not q) ≡ true → p ≡ false → q ≡ false
or_not true q e f = cc f
or_not false q e f = not_false q e

not_same : (x y : ℕ) → x ≢ y → (y == x) ≡ false
not_same x y ne = elim (either (y == x)) [ inl e ↦ absurd (ne (sym (eqb-true y x e))) | inr e ↦ e ]

apart_from : (b all : List ℕ) (x y : ℕ) → is_named_apart b all x ≡ true → In y all → x ≢ y → same_name b vdr_name x y ≡ false
apart_from b [] x y h i ne = absurd i
apart_from b (z ∷ all) x y h (inl q) ne =
    let here = (both ((z == x) || not (same_name b vdr_name x z)) (is_named_apart b all x) h).0 in
    subst (λ (w : ℕ). same_name b vdr_name x w ≡ false) (sym q) (or_not (z == x) (same_name b vdr_name x z) here (subst (λ (w : ℕ). (w == x) ≡ false) q (not_same x y ne)))
apart_from b (z ∷ all) x y h (inr i) ne = apart_from b all x y (both ((z == x) || not (same_name b vdr_name x z)) (is_named_apart b all x) h).1 i ne

apart_into : (b all : List ℕ) (x : ℕ) → ((y : ℕ) → In y all → x ≢ y → same_name b vdr_name x y ≡ false) → is_named_apart b all x ≡ true
apart_into b [] x h = refl
apart_into b (z ∷ all) x h = and_from _ _ here (apart_into b all x (λ y i. h y (inr i)))
  where
    here : ((z == x) || not (same_name b vdr_name x z)) ≡ true
    here = elim (cases_eq x z) [
      | inl e ↦ rw (eq-eqb z x (sym e)) refl
      | inr ne ↦ rw (not_same x z ne, h z (inl refl) ne) refl
    ]

-- no two variables of a good image have one name
pub names_apart : (b : List ℕ) (s : Shape) → IsGoodByShape b s → (x y : ℕ) → In x (vdrs (variables s)) → In y (vdrs (variables s)) → x ≢ y → same_name b vdr_name x y ≡ false
names_apart b s good x y i j ne = let ids = vdrs (variables s) in apart_from b ids x y (Hold-member (variable_rows b s.records ids) ids x good.of_variables i).1.0 j ne

types_apart : (kind : Kind) → type_in (variables_chain kind) ≢ type_in (variables_chain (other_kind kind))
types_apart R = apart r_vdr_type z_vdr_type refl
types_apart Z = apart z_vdr_type r_vdr_type refl

kind_in : (s : Shape) (kind : Kind) (m : ℕ) → In m (vdrs (shapes_of s kind)) → In m (vdrs (variables s))
kind_in s R m i = subst (In m) (sym (vdrs_append s.r_variables s.z_variables)) (In-append_left m (vdrs s.r_variables) (vdrs s.z_variables) i)
kind_in s Z m i = subst (In m) (sym (vdrs_append s.r_variables s.z_variables)) (In-append_right m (vdrs s.r_variables) (vdrs s.z_variables) i)

three_are : (xs ys zs : List VariableShape) → vdrs (xs ++ (ys ++ zs)) ≡ vdrs xs ++ (vdrs ys ++ vdrs zs)
three_are xs ys zs = vdrs_append xs (ys ++ zs) ∙ ap (λ (r : List ℕ). vdrs xs ++ r) (vdrs_append ys zs)

-- ---- beside those that are put in place

module _ {b now : List ℕ} {s : Shape} {kind : Kind} {new list : List ℕ} {marks : List Mark} {reborn : List ℕ} {before own own' after : List VariableShape} (sound : IsSound b s) (splices : VariableSplices b now s kind new list marks reborn before own own' after) where
  abbrev pub IsBeside : ℕ → Type 0
  IsBeside m = (In m (vdrs before) ⊎ In m (vdrs after)) ⊎ In m (vdrs (shapes_of s (other_kind kind)))

  was : vdrs (shapes_of s kind) ≡ vdrs before ++ (vdrs own ++ vdrs after)
  was = ap vdrs splices.was ∙ three_are before own after

  pub beside_in : (m : ℕ) → IsBeside m → In m (vdrs (variables s))
  beside_in m (inl (inl i)) = kind_in s kind m (subst (In m) (sym was) (In-append_left m (vdrs before) (vdrs own ++ vdrs after) i))
  beside_in m (inl (inr i)) = kind_in s kind m (subst (In m) (sym was) (In-append_right m (vdrs before) (vdrs own ++ vdrs after) (In-append_right m (vdrs own) (vdrs after) i)))
  beside_in m (inr i) = kind_in s (other_kind kind) m i

  pub own_in : (m : ℕ) → In m (vdrs own) → In m (vdrs (variables s))
  own_in m i = kind_in s kind m (subst (In m) (sym was) (In-append_right m (vdrs before) (vdrs own ++ vdrs after) (In-append_left m (vdrs own) (vdrs after) i)))

  beside_named : (m : ℕ) → IsBeside m → name_in now m vdr_name ≡ name_in b m vdr_name
  beside_named m (inl (inl i)) = remaining_names b now s.records new before splices.before_remain m i
  beside_named m (inl (inr i)) = remaining_names b now s.records new after splices.after_remain m i
  beside_named m (inr i) = remaining_names b now s.records new (shapes_of s (other_kind kind)) (others_remain sound splices) m i

  -- what was put in place of is not beside
  pub own_apart : (x y : ℕ) → In x (vdrs own) → IsBeside y → x ≢ y
  own_apart x y i beside e =
      let d : Distinct (vdrs before ++ (vdrs own ++ vdrs after)) = subst Distinct was (kind_chain kind sound.has_shape).once in
      elim beside [
        | inl (inl j) ↦ distinct_apart (vdrs before) (vdrs own ++ vdrs after) y d j (subst (λ (w : ℕ). In w (vdrs own ++ vdrs after)) e (In-append_left x (vdrs own) (vdrs after) i))
        | inl (inr j) ↦ distinct_apart (vdrs own) (vdrs after) y (Distinct-back (vdrs before) (vdrs own ++ vdrs after) d) (subst (λ (w : ℕ). In w (vdrs own)) e i) j
        | inr j ↦
            let here = linkable-type b s.records (type_in (variables_chain kind)) x ((kind_chain kind sound.has_shape).linkable x (subst (In x) (sym was) (In-append_right x (vdrs before) (vdrs own ++ vdrs after) (In-append_left x (vdrs own) (vdrs after) i)))) in
            let there = linkable-type b s.records (type_in (variables_chain (other_kind kind))) y ((kind_chain (other_kind kind) sound.has_shape).linkable y j) in
            types_apart kind (sym here ∙ ap (type_at b) e ∙ there)
      ]

  pub own_names_apart : IsGoodByShape b s → (x y : ℕ) → In x (vdrs own) → IsBeside y → bytes_eq (name_in b x vdr_name) (name_in b y vdr_name) ≡ false
  own_names_apart good x y i beside = names_apart b s good x y (own_in x i) (beside_in y beside) (own_apart x y i beside)

  new_or_beside : (m : ℕ) → In m (vdrs (variables (s' sound splices))) → In m (vdrs own') ⊎ IsBeside m
  new_or_beside m i =
      let vs = variables' sound splices in
      let each = by_kind (λ k ws. In m (vdrs ws) → In m (vdrs own') ⊎ IsBeside m) kind s vs of_own (λ j. inr (inr j)) in
      elim (In-append m (vdrs (shapes_with s kind vs R)) (vdrs (shapes_with s kind vs Z)) (subst (In m) (vdrs_append (shapes_with s kind vs R) (shapes_with s kind vs Z)) i)) [ inl j ↦ each R j | inr j ↦ each Z j ]
    where
      of_own : In m (vdrs (before ++ (own' ++ after))) → In m (vdrs own') ⊎ IsBeside m
      of_own j = elim (In-append m (vdrs before) (vdrs own' ++ vdrs after) (subst (In m) (three_are before own' after) j)) [
        | inl k ↦ inr (inl (inl k))
        | inr k ↦ elim (In-append m (vdrs own') (vdrs after) k) [ inl l ↦ inl l | inr l ↦ inr (inl (inr l)) ]
      ]

  -- names differ, if those of the new variables differ from each other and from those beside
  pub apart_if : IsGoodByShape b s → ((x y : ℕ) → In x (vdrs own') → In y (vdrs own') → x ≢ y → same_name now vdr_name x y ≡ false) → ((x y : ℕ) → In x (vdrs own') → IsBeside y → bytes_eq (name_in now x vdr_name) (name_in b y vdr_name) ≡ false)
      → (m : ℕ) → In m (vdrs (variables (s' sound splices))) → is_named_apart now (vdrs (variables (s' sound splices))) m ≡ true
  apart_if good mine beside m i = apart_into now (vdrs (variables (s' sound splices))) m (λ y j ne. pair m y (new_or_beside m i) (new_or_beside y j) ne)
    where
      pair : (x y : ℕ) → In x (vdrs own') ⊎ IsBeside x → In y (vdrs own') ⊎ IsBeside y → x ≢ y → same_name now vdr_name x y ≡ false
      pair x y (inl i) (inl j) ne = mine x y i j ne
      pair x y (inl i) (inr j) ne = subst (λ (n : List ℕ). bytes_eq (name_in now x vdr_name) n ≡ false) (sym (beside_named y j)) (beside x y i j)
      pair x y (inr i) (inl j) ne = differ-turned (name_in now y vdr_name) (name_in now x vdr_name) (subst (λ (n : List ℕ). bytes_eq (name_in now y vdr_name) n ≡ false) (sym (beside_named x i)) (beside y x j i))
      pair x y (inr i) (inr j) ne =
          let a = beside_named x i in
          let c = beside_named y j in
          let same : same_name now vdr_name x y ≡ same_name b vdr_name x y = λ k. bytes_eq (a k) (c k) in
          same ∙ names_apart b s good x y (beside_in x i) (beside_in y j) ne
