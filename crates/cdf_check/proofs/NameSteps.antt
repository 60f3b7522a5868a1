-- The Names of records, one after the other.
use Rattle.cdf_check.proofs.Common.{AreNamed, Finding, Finds, List, None, Option, Some, [], arith, bytes_eq, differ_rows, false, is_some, length_push, list_any, map-append, none_found, refl, sym, true, ℕ, ◌++◌, ◌∷◌, ◌≡◌}
use Rattle.cdf_check.specs.declared.names.Names.{Names}
use Rattle.cdf_check.proofs.DifferSteps.{push_broken, push_met, push_new}

pub none_broken : (found : Option Finding) → is_some found ≡ false → found ≡ None
none_broken None none = refl
none_broken (Some f) none = absurd cc

module _ (name_of : ℕ → List ℕ) (places : List ℕ) (place : ℕ) where
  found_kept : (found : Option Finding) → is_some found ≡ true → Finds (differ_rows 2 (λ one other. bytes_eq (name_of one) (name_of other)) [] places) found → Finds (differ_rows 2 (λ one other. bytes_eq (name_of one) (name_of other)) [] (places ++ place ∷ [])) found
  found_kept None some finds = absurd cc
  found_kept (Some f) some finds = push_broken name_of bytes_eq 2 places place f.rule f.place finds

  none_is_none : (found : Option Finding) → is_some found ≡ true → found ≡ None → ⊥
  none_is_none None some none = absurd cc
  none_is_none (Some f) some none = absurd cc

  module _ (names : Names) (are : AreNamed name_of places names) where
    -- a Name stood twice before
    pub named_still : is_some names.repeated ≡ true → AreNamed name_of (places ++ place ∷ []) names
    named_still some = record {
      few = omega (arith, are.few, length_push places place);
      table = λ none. absurd (none_is_none names.repeated some none);
      found = found_kept names.repeated some are.found;
    }

    module _ (none : names.repeated ≡ None) where
      -- this one stands in the table
      pub named_twice : list_any (bytes_eq (name_of place)) names.table ≡ true → AreNamed name_of (places ++ place ∷ []) (record names { repeated = Some (record { rule = 2; place = place }) })
      named_twice old = record {
        few = omega (arith, are.few, length_push places place);
        table = λ is. absurd cc;
        found = push_met name_of bytes_eq 2 places place (rw (are.table none) at old);
      }

      -- and this one does not
      pub named_anew : list_any (bytes_eq (name_of place)) names.table ≡ false → AreNamed name_of (places ++ place ∷ []) (record names { table = names.table ++ name_of place ∷ [] })
      named_anew new = record {
        few = omega (arith, are.few, length_push places place, length_push names.table (name_of place));
        table = λ is. rw (are.table none) (sym (map-append name_of places (place ∷ [])));
        found = rw none (push_new name_of bytes_eq 2 places place (rw (are.table none) at new) (none_found (differ_rows 2 (λ one other. bytes_eq (name_of one) (name_of other)) [] places) names.repeated are.found none));
      }
