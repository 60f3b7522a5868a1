-- The record that is stored last before a missing one, by the leaves of the index.
use Rattle.cdf_var_records.proofs.Common.{Ascending, Good, IsVdr, Kind, List, None, Option, Some, [], ap, arith, extent, item_at, leaf_in, leaf_of, max_rec_at, nat_tests, option_map, record_number_limit, record_of_leaf, refl, subst, suc, sym, variable_at, ℕ, ◌<◌, ◌∙◌, ◌∷◌, ◌≡◌, ◌≤◌, ◌⊎◌}
use Rattle.cdf_edits.proofs.Common.{Leaf, cases_lt, inl, inr}
use Rattle.cdf_model.specs.Numbered.{item_before}
use Rattle.cdf_var_records.proofs.LastBegun.{last_both, one_begun}
use Rattle.cdf_var_records.proofs.LeafItems.{by_leaf, in_order, leaf_low, leaf_there, missed, recs_rise, same_leaf}
use Rattle.cdf_var_records.proofs.PreviousItem.{none_before, one_before}
use Rattle.cdf_var_records.specs.Next.{leaves_at}
use Rattle.cdf_var_records.specs.Previous.{last_begun}
use Rattle.std.specs.Option.{option_or}

-- ---- leaves in order

no_leaf : {l : Leaf} → None ≡ Some l → ⊥
no_leaf e = cc

module _ (rec : ℕ) where
  or_none : (p q : Option Leaf) → option_or p q ≡ None → (p ≡ None) × (q ≡ None)
  or_none None q e = (refl, e)
  or_none (Some a) q e = absurd (no_leaf (sym e))

  not_begun : (x : Leaf) → last_begun rec (x ∷ []) ≡ None → rec < x.first
  not_begun x e = elim (cases_lt rec x.first) [ inl lt ↦ lt | inr le ↦ absurd (no_leaf (sym e ∙ one_begun rec x le)) ]

  pub none_begins : (k : ℕ) (xs : List Leaf) → last_begun rec xs ≡ None → k ≤ rec → leaf_of k xs ≡ None
  none_begins k [] e le = refl
  none_begins k (x ∷ xs) e le =
      let parts = or_none (last_begun rec xs) (last_begun rec (x ∷ [])) (sym (last_both rec (x ∷ []) xs) ∙ e) in
      let past = not_begun x parts.1 in
      let so = none_begins k xs parts.0 le in
      grind (arith, nat_tests, past, so)

  -- the last one that begins up to a record has its own last record, and no later one has any up to that record
  pub record IsLast (xs : List Leaf) (l : Leaf) : Type 0 where
    pub begins : l.first ≤ rec
    pub ordered : l.first ≤ l.last
    pub has : leaf_of l.last xs ≡ Some l
    pub none : (k : ℕ) → l.last < k → k ≤ rec → leaf_of k xs ≡ None

  pub last_is : (low upto : ℕ) (xs : List Leaf) (l : Leaf) → Ascending low upto xs → last_begun rec xs ≡ Some l → IsLast xs l
  last_is low upto [] l a e = absurd (no_leaf e)
  last_is low upto (x ∷ xs) l a e = by (λ is. last_is (suc x.last) upto xs l a.3 is) (last_begun rec xs) refl (sym (last_both rec (x ∷ []) xs) ∙ e)
    where
      none_one : rec < x.first → last_begun rec (x ∷ []) ≡ None
      none_one lt = grind (arith, nat_tests, lt)

      as_own : Some x ≡ Some l → IsLast (x ∷ xs) x → IsLast (x ∷ xs) l
      as_own q i = let z : x ≡ l = cc in subst (IsLast (x ∷ xs)) z i

      own : last_begun rec xs ≡ None → (rec < x.first) ⊎ (x.first ≤ rec) → last_begun rec (x ∷ []) ≡ Some l → IsLast (x ∷ xs) l
      own is (inl lt) q = absurd (no_leaf (sym (none_one lt) ∙ q))
      own is (inr le) q =
          let ordered = a.1 in
          as_own (sym (one_begun rec x le) ∙ q) (record {
            begins = le;
            ordered = a.1;
            has = grind (arith, nat_tests, ordered);
            none = λ k lt up. (let gone = none_begins k xs is up in grind (arith, nat_tests, gone, lt));
          })

      by : (last_begun rec xs ≡ Some l → IsLast xs l) → (p : Option Leaf) → last_begun rec xs ≡ p → option_or (last_begun rec xs) (last_begun rec (x ∷ [])) ≡ Some l → IsLast (x ∷ xs) l
      by so (Some m) is q =
          let r = so (is ∙ (rw is at q)) in
          let has = r.has in
          let ordered = r.ordered in
          let low = leaf_low l.last (suc x.last) upto xs l a.3 has in
          record {
            begins = r.begins;
            ordered = r.ordered;
            has = grind (arith, nat_tests, low, has, ordered);
            none = λ k lt le. (let gone = r.none k lt le in grind (arith, nat_tests, low, gone, ordered, lt));
          }
      by so None is q = own is (cases_lt rec x.first) (rw is at q)

-- ---- a variable of a good image

module _ {b : List ℕ} {kind : Kind} {vdr : ℕ} (good : Good b) (v : IsVdr b kind vdr) (rec : ℕ) (lt : rec < extent (max_rec_at b vdr)) (missing : None ≡ item_at rec (variable_at b vdr).recs) where
  abbrev recs : List (ℕ × List ℕ)
  recs = (variable_at b vdr).recs

  abbrev leaves : List Leaf
  leaves = leaves_at b vdr

  pub none_stored : last_begun rec leaves ≡ None → item_before rec recs ≡ None
  none_stored e = none_before rec recs (recs_rise good v) (λ k less. missed good v k (λ within. none_begins rec k leaves e (omega arith)))

  -- no leaf has it
  no_leaf_has : (l : Leaf) → leaf_of rec leaves ≡ Some l → ⊥
  no_leaf_has l e = none_is (missing ∙ by_leaf good v rec ∙ ap (option_map (record_of_leaf b vdr rec)) (leaf_there good v rec lt ∙ e))
    where
      none_is : None ≡ Some (record_of_leaf b vdr rec l) → ⊥
      none_is q = cc

  module _ (l : Leaf) (found : last_begun rec leaves ≡ Some l) where
    last : IsLast rec leaves l
    last = last_is rec 0 (suc record_number_limit) leaves l (in_order good v) found

    pub ends_before : l.last < rec
    ends_before = elim (cases_lt l.last rec) [ inl less ↦ less | inr le ↦ absurd (no_leaf_has l (same_leaf l.last rec 0 (suc record_number_limit) leaves l (in_order good v) last.has last.begins le)) ]

    -- the leaf has its last record
    pub last_leaf : leaf_in b vdr l.last ≡ Some l
    last_leaf = leaf_there good v l.last (let e = ends_before in omega arith) ∙ last.has

    pub last_stored : item_before rec recs ≡ item_at l.last recs
    last_stored =
        let is = by_leaf good v l.last ∙ ap (option_map (record_of_leaf b vdr l.last)) last_leaf in
        one_before rec l.last (record_of_leaf b vdr l.last l) recs (recs_rise good v) (sym is) ends_before (λ k past less. missed good v k (λ within. last.none k past (omega arith))) ∙ sym is
