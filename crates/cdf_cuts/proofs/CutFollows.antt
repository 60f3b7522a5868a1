-- What a cut frees, and the index that it leaves, are those that commands ask for, but for blocks that are packed anew and parts that are split off.
use Rattle.cdf_cuts.proofs.Common.{Bool, Each, In, Leaf, List, Nodes, Span, [], arith, cases_eq, false, inl, inr, kept_by, leaves_of, ne_eqb, nodes_of, places_of, plan_of, refl, freed_of, subst, sym, times, times-append, true, ℕ, ◌+◌, ◌∷◌, ◌≡◌, ◌≤◌, nat_tests}
use Rattle.std.proofs.Common.{◌||◌}
use Rattle.cdf_edits.proofs.Common.{gave, is_in, is_in-true}
use Rattle.cdf_edits.proofs.Edits.Common.{in-times, times-in}
use Rattle.cdf_edits.proofs.Edits.ActsThen.{taken-gave}
use Rattle.cdf_edits.specs.Index.Cut.{CutsIndex, StaysWhole, index_records, stand_apart}
use Rattle.cdf_edits.specs.Index.Written.{is_given_at}
use Rattle.cdf_edits.specs.Space.Acts.{Act, none_twice}
use Rattle.cdf_model.specs.DataSet.{Variable}
use Rattle.cdf_cuts.proofs.CutWords.{cut}
use Rattle.cdf_cuts.proofs.PlanPlaces.{plan_frees}
use Rattle.cdf_cuts.proofs.CutStay.{Parts, Stays, all_stay, nodes_left}
use Rattle.cdf_cuts.specs.Linking.{left_of}
unfoldable use Rattle.cdf_index.specs.Order.{InOrder}
use Rattle.cdf_index.proofs.LeavesAscend.{leaves_ascend}
use Rattle.cdf_edits.proofs.Edits.LeafPieces.{each_of, of_each}
use Rattle.cdf_edits.proofs.Edits.LeafPieces.{place_in as leaf_in}
use Rattle.cdf_model.specs.Limits.{record_number_limit}
use Rattle.cdf_edits.proofs.Common.{is_in-false}

pub given_in : (b : List ℕ) (places : List ℕ) (m : ℕ) → In m places → is_given_at (gave b places) m ≡ true
given_in b [] m i = absurd i
given_in b (p ∷ more) m (inl e) = grind (arith, nat_tests, e)
given_in b (p ∷ more) m (inr i) = let r = given_in b more m i in grind (arith, nat_tests, r)

pub given_out : (b : List ℕ) (places : List ℕ) (m : ℕ) → (In m places → ⊥) → is_given_at (gave b places) m ≡ false
given_out b [] m out = refl
given_out b (p ∷ more) m out = rw (ne_eqb p m (λ e. out (inl (sym e)))) (given_out b more m (λ i. out (inr i)))

pub none_taken_twice : (b : List ℕ) (places : List ℕ) → none_twice [] (gave b places) ≡ true
none_taken_twice b [] = refl
none_taken_twice b (p ∷ more) = none_taken_twice b more

pub apart_by : (xs : List ℕ) → ((m : ℕ) → times m xs ≤ 1) → stand_apart xs ≡ true
apart_by [] once = refl
apart_by (x ∷ xs) once =
    let self : times x (x ∷ []) ≡ 1 = grind (arith, nat_tests) in
    let out : In x xs → ⊥ = λ i. absurd (omega (arith, once x, times-append x (x ∷ []) xs, self, times-in x xs i)) in
    rw (is_in-false x xs out) (apart_by xs (λ m. omega (arith, once m, times-append m (x ∷ []) xs)))

pub each_of_list : (P : ℕ → Type 0) (xs : List ℕ) → ((m : ℕ) → In m xs → P m) → Each P xs
each_of_list P [] f = tt
each_of_list P (x ∷ xs) f = (f x (inl refl), each_of_list P xs (λ m i. f m (inr i)))

module _ (b : List ℕ) (v : Variable) (span : Span) (nodes : Nodes) (once : (m : ℕ) → times m (nodes_of nodes) + times m (places_of (leaves_of nodes)) ≤ 1) where
  abbrev rest : Nodes
  rest = cut span nodes

  abbrev freed : List ℕ
  freed = freed_of (plan_of span 0 nodes)

  abbrev acts : List Act
  acts = gave b freed

  frees : (m : ℕ) → In m (index_records nodes) → (is_in m (index_records rest) || is_given_at acts m) ≡ true
  frees m i =
      let all = plan_frees m span 0 nodes in
      let some = times-append m (nodes_of nodes) (places_of (leaves_of nodes)) in
      let is = times-append m (nodes_of rest) (places_of (leaves_of rest)) in
      elim (cases_eq (times m freed) 0) [
        | inl z ↦ rw (is_in-true m (index_records rest) (in-times m (index_records rest) (omega (arith, all, some, is, z, times-in m (index_records nodes) i)))) refl
        | inr ne ↦ or_right (is_in m (index_records rest)) _ (given_in b freed m (in-times m freed (omega arith)))
      ]
    where
      or_right : (p q : Bool) → q ≡ true → (p || q) ≡ true
      or_right true q e = refl
      or_right false q e = e

  stays : (m : ℕ) → In m (nodes_of rest) → is_given_at acts m ≡ false
  stays m i = given_out b freed m (λ j. absurd (omega (arith, once m, plan_frees m span 0 nodes, times-in m (nodes_of rest) i, times-in m freed j)))

  module _ (to : ℕ → ℕ) (parts : Parts span to) (in_order : InOrder 0 record_number_limit nodes) where
    two : Each (λ (old : Leaf). Each (Stays span to parts old) (leaves_of rest)) (leaves_of nodes)
    two = all_stay span to parts 0 2147483647 (leaves_of nodes) (leaves_of rest) (leaves_ascend 0 2147483646 nodes in_order (omega arith)) (nodes_left span nodes)

    stay : Each (λ old. Each (StaysWhole v (kept_by span) acts old) (leaves_of rest)) (leaves_of nodes)
    stay = each_of (λ old. Each (StaysWhole v (kept_by span) acts old) (leaves_of rest)) (leaves_of nodes) (λ old i. each_of (StaysWhole v (kept_by span) acts old) (leaves_of rest) (λ new j part whole.
        (let s = of_each (Stays span to parts old) (leaves_of rest) new (of_each (λ (o : Leaf). Each (Stays span to parts o) (leaves_of rest)) (leaves_of nodes) old two i) j part in
        (s.0, s.1, given_out b freed old.place (λ k. absurd (omega (arith, once old.place, plan_frees old.place span 0 nodes, times-in old.place (places_of (leaves_of rest)) (subst (λ (p : ℕ). In p (places_of (leaves_of rest))) s.0 (leaf_in (leaves_of rest) new j)), times-in old.place freed k)))))))

    pub meets_index : CutsIndex v (kept_by span) nodes (left_of span nodes) rest acts
    meets_index = record {
      index_is = refl;
      apart = apart_by (index_records rest) (λ m. omega (arith, once m, plan_frees m span 0 nodes, times-append m (nodes_of rest) (places_of (leaves_of rest))));
      once = none_taken_twice b freed;
      frees = each_of_list _ (index_records nodes) frees;
      takes = rw (taken-gave b freed) tt;
      stand = each_of_list _ (nodes_of rest) stays;
      stay = stay;
    }
