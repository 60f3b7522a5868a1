-- What is left at each spot, by what is there.
use Rattle.std.proofs.Common.{ℕ, zero, suc, ◌≡◌, ◌∙◌, ◌+◌, ◌<◌, List, [], ◌∷◌, ◌++◌, map, drop, refl, subst, sym, ap, arith, append_assoc, Some, None, slice_get, add-one, le-ltb}
use Rattle.std.specs.declared.option.Option.{Option}
use Rattle.std.specs.Option.{option_and_then, option_map}
use Rattle.std.specs.List.{enumerate_from, flat_map}
use Rattle.cdf_model.specs.declared.event.Event.{Event}
use Rattle.cdf_model.specs.declared.event.Event.TheVariants as events
use Rattle.cdf_model.specs.declared.kinds.EntryKind.TheVariants.{Z}
use Rattle.cdf_model.specs.declared.kinds.Kind.{Kind}
use Rattle.cdf_model.specs.declared.kinds.Kind.TheVariants as kinds
use Rattle.cdf_model.specs.declared.spot.Spot.{Spot}
use Rattle.cdf_model.specs.declared.spot.Spot.TheVariants as spots
use Rattle.cdf_model.specs.DataSet.{Attribute, DataSet, Variable, head_of}
use Rattle.cdf_model.specs.Events.{entry_event, kind_in, attribute_events, record_event, variable_event, variable_events, end_event}
use Rattle.cdf_model.specs.Names.{variables_of}
use Rattle.cdf_model.specs.Spots.{each_from, rest, variables_from, attributes_from, r_from, z_from, from_number, own_from, z_entries_from, records_from}
use Rattle.cdf_model.specs.Walks.{Counts, all_records}
use Rattle.cdf_walk.specs.Parts.{IsFirstOf, attribute_event, attribute_part, own_part, variable_part, z_part}
use Rattle.cdf_walk.specs.Walks.{IsStep, behind, rank}
use Rattle.cdf_walk.specs.declared.walk.Step.TheVariants as steps
use Rattle.cdf_walk.specs.declared.parts.Found.{Found}

no_some : {A : Type 0} {a : A} → Some a ≡ None → ⊥
no_some q = cc

some_no : {A : Type 0} {a : A} → None ≡ Some a → ⊥
some_no q = cc

same_first : {A : Type 0} (x a : A) (xs : List A) → Some a ≡ Some x → x ∷ xs ≡ a ∷ xs
same_first x a xs q = cc

-- ---- items behind so many

module _ {A : Type 0} (f : A → Event) where
  mapped_suc : (i : ℕ) (items : List A) (event : Event) → Some event ≡ option_map f (slice_get items i) → map f (drop i items) ≡ event ∷ map f (drop (suc i) items)
  mapped_suc zero [] event e = absurd (no_some e)
  mapped_suc zero (x ∷ xs) event e = same_first (f x) event (map f xs) e
  mapped_suc (suc i) [] event e = absurd (no_some e)
  mapped_suc (suc i) (x ∷ xs) event e = mapped_suc i xs event e

  mapped_at : (i : ℕ) (items : List A) (event : Event) → Some event ≡ option_map f (slice_get items i) → map f (drop i items) ≡ event ∷ map f (drop (i + 1) items)
  mapped_at i items event e = mapped_suc i items event e ∙ ap (λ k. event ∷ map f (drop k items)) (sym (add-one i))

  mapped_past : (i : ℕ) (items : List A) → None ≡ option_map f (slice_get items i) → map f (drop i items) ≡ []
  mapped_past zero [] e = refl
  mapped_past zero (x ∷ xs) e = absurd (some_no e)
  mapped_past (suc i) [] e = refl
  mapped_past (suc i) (x ∷ xs) e = mapped_past i xs e

-- ---- items of a number, and those of greater ones

abbrev shown_at : {A : Type 0} → (ℕ × A → List Event) → ℕ → Option A → List Event
shown_at shown n None = []
shown_at shown n (Some a) = shown (n, a)

module _ {A : Type 0} (shown : ℕ × A → List Event) where
  each_suc : (m n : ℕ) (items : List A) → flat_map shown (enumerate_from m (drop n items)) ≡ shown_at shown m (slice_get items n) ++ flat_map shown (enumerate_from (m + 1) (drop (suc n) items))
  each_suc m zero [] = refl
  each_suc m zero (x ∷ xs) = refl
  each_suc m (suc n) [] = refl
  each_suc m (suc n) (x ∷ xs) = each_suc m n xs

  each_is : (n : ℕ) (items : List A) → each_from shown n items ≡ shown_at shown n (slice_get items n) ++ each_from shown (n + 1) items
  each_is n items = each_suc n n items ∙ ap (λ k. shown_at shown n (slice_get items n) ++ flat_map shown (enumerate_from (n + 1) (drop k items))) (sym (add-one n))

  each_past : {B : Type 0} (f : A → B) (m n : ℕ) (items : List A) → None ≡ option_map f (slice_get items n) → flat_map shown (enumerate_from m (drop n items)) ≡ []
  each_past f m zero [] e = refl
  each_past f m zero (x ∷ xs) e = absurd (some_no e)
  each_past f m (suc n) [] e = refl
  each_past f m (suc n) (x ∷ xs) e = each_past f m n xs e

-- ---- the parts of an attribute and of a variable

attribute_first : (n : ℕ) (o : Option Attribute) (event : Event) (more : List Event) → Some event ≡ option_map (attribute_event n) o → shown_at attribute_events n o ++ more ≡ event ∷ own_from 0 o ++ more
attribute_first n None event more e = absurd (no_some e)
attribute_first n (Some a) event more e = same_first (attribute_event n a) event (own_from 0 (Some a) ++ more) e

own_first : (i : ℕ) (o : Option Attribute) (event : Event) → Some event ≡ option_and_then (λ a. option_map (entry_event (kind_in a.scope)) (slice_get a.g i)) o → own_from i o ≡ event ∷ own_from (i + 1) o
own_first i None event e = absurd (no_some e)
own_first i (Some a) event e = ap (λ l. l ++ map (entry_event Z) a.z) (mapped_at (entry_event (kind_in a.scope)) i a.g event e)

own_over : (i : ℕ) (o : Option Attribute) → None ≡ option_and_then (λ a. option_map (entry_event (kind_in a.scope)) (slice_get a.g i)) o → own_from i o ≡ z_entries_from 0 o
own_over i None e = refl
own_over i (Some a) e = ap (λ l. l ++ map (entry_event Z) a.z) (mapped_past (entry_event (kind_in a.scope)) i a.g e)

z_first : (i : ℕ) (o : Option Attribute) (event : Event) → Some event ≡ option_and_then (λ a. option_map (entry_event Z) (slice_get a.z i)) o → z_entries_from i o ≡ event ∷ z_entries_from (i + 1) o
z_first i None event e = absurd (no_some e)
z_first i (Some a) event e = mapped_at (entry_event Z) i a.z event e

z_over : (i : ℕ) (o : Option Attribute) → None ≡ option_and_then (λ a. option_map (entry_event Z) (slice_get a.z i)) o → z_entries_from i o ≡ []
z_over i None e = refl
z_over i (Some a) e = mapped_past (entry_event Z) i a.z e

all_from : {A : Type 0} (items : List (ℕ × A)) → items ≡ from_number 0 items
all_from [] = refl
all_from (x ∷ xs) = rw (le-ltb x.0 0 (omega arith)) (ap (λ l. x ∷ l) (all_from xs))

variable_first : (kind : Kind) (n : ℕ) (o : Option Variable) (event : Event) (more : List Event) → Some event ≡ option_map (variable_event kind n) o → shown_at (variable_events kind) n o ++ more ≡ event ∷ records_from 0 o ++ more
variable_first kind n None event more e = absurd (no_some e)
variable_first kind n (Some v) event more e =
    ap (λ l. variable_event kind n v ∷ map (record_event v) l ++ more) (all_from v.recs) ∙ same_first (variable_event kind n v) event (records_from 0 (Some v) ++ more) e

record_first : (from : ℕ) (o : Option Variable) (found : Found) → IsFirstOf o from (Some found) → records_from from o ≡ found.event ∷ records_from (found.num + 1) o
record_first from None found is = absurd is
record_first from (Some v) found (bytes, is, event) = ap (map (record_event v)) is ∙ ap (λ x. x ∷ records_from (found.num + 1) (Some v)) (sym event)

records_over : (from : ℕ) (o : Option Variable) → IsFirstOf o from None → records_from from o ≡ []
records_over from None is = refl
records_over from (Some v) is = ap (map (record_event v)) is

-- the variable behind is nearer to the end
pub variable_nearer : (kind : Kind) (n m from : ℕ) → rank (spots.Var kind m) < rank (spots.Rec kind n from)
variable_nearer kinds.R n m from = omega arith
variable_nearer kinds.Z n m from = omega arith

-- ---- the spots

module _ (d : DataSet) where
  pub at_head : rest d spots.Head ≡ events.Head (head_of d) ∷ rest d (spots.Attr 0)
  unfolding rest
  at_head =
      let own = each_from attribute_events 0 d.attributes in
      let r = each_from (variable_events kinds.R) 0 d.r_variables in
      let z = each_from (variable_events kinds.Z) 0 d.z_variables in
      ap (λ l. events.Head (head_of d) ∷ l) (append_assoc (own ++ r) z (end_event d ∷ []) ∙ append_assoc own r (z ++ end_event d ∷ []))

  pub at_attribute : (n : ℕ) (event : Event) → Some event ≡ attribute_part d n → rest d (spots.Attr n) ≡ event ∷ rest d (spots.OwnEntry n 0)
  unfolding rest
  at_attribute n event e =
      let o = slice_get d.attributes n in
      ap (λ l. l ++ r_from d 0) (each_is attribute_events n d.attributes) ∙ append_assoc (shown_at attribute_events n o) (each_from attribute_events (n + 1) d.attributes) (r_from d 0)
      ∙ attribute_first n o event (attributes_from d (n + 1)) e

  pub past_attributes : (n : ℕ) → None ≡ attribute_part d n → rest d (spots.Attr n) ≡ rest d (spots.Var kinds.R 0)
  unfolding rest
  past_attributes n e = ap (λ l. l ++ r_from d 0) (each_past attribute_events (attribute_event n) n n d.attributes e)

  pub at_own : (n i : ℕ) (event : Event) → Some event ≡ own_part d n i → rest d (spots.OwnEntry n i) ≡ event ∷ rest d (spots.OwnEntry n (i + 1))
  unfolding rest
  at_own n i event e = ap (λ l. l ++ attributes_from d (n + 1)) (own_first i (slice_get d.attributes n) event e)

  pub past_own : (n i : ℕ) → None ≡ own_part d n i → rest d (spots.OwnEntry n i) ≡ rest d (spots.ZEntry n 0)
  unfolding rest
  past_own n i e = ap (λ l. l ++ attributes_from d (n + 1)) (own_over i (slice_get d.attributes n) e)

  pub at_z : (n i : ℕ) (event : Event) → Some event ≡ z_part d n i → rest d (spots.ZEntry n i) ≡ event ∷ rest d (spots.ZEntry n (i + 1))
  unfolding rest
  at_z n i event e = ap (λ l. l ++ attributes_from d (n + 1)) (z_first i (slice_get d.attributes n) event e)

  pub past_z : (n i : ℕ) → None ≡ z_part d n i → rest d (spots.ZEntry n i) ≡ rest d (spots.Attr (n + 1))
  unfolding rest
  past_z n i e = ap (λ l. l ++ attributes_from d (n + 1)) (z_over i (slice_get d.attributes n) e)

  variable_is : (kind : Kind) (n : ℕ) → variables_from d kind n ≡ shown_at (variable_events kind) n (slice_get (variables_of d kind) n) ++ variables_from d kind (n + 1)
  variable_is kinds.R n = ap (λ l. l ++ z_from d 0) (each_is (variable_events kinds.R) n d.r_variables) ∙ append_assoc (shown_at (variable_events kinds.R) n (slice_get d.r_variables n)) (each_from (variable_events kinds.R) (n + 1) d.r_variables) (z_from d 0)
  variable_is kinds.Z n = ap (λ l. l ++ end_event d ∷ []) (each_is (variable_events kinds.Z) n d.z_variables) ∙ append_assoc (shown_at (variable_events kinds.Z) n (slice_get d.z_variables n)) (each_from (variable_events kinds.Z) (n + 1) d.z_variables) (end_event d ∷ [])

  pub at_variable : (kind : Kind) (n : ℕ) (event : Event) → Some event ≡ variable_part d kind n → rest d (spots.Var kind n) ≡ event ∷ rest d (spots.Rec kind n 0)
  unfolding rest
  at_variable kind n event e = variable_is kind n ∙ variable_first kind n (slice_get (variables_of d kind) n) event (variables_from d kind (n + 1)) e

  pub past_variables : (kind : Kind) (n : ℕ) → None ≡ variable_part d kind n → rest d (spots.Var kind n) ≡ rest d (behind kind)
  unfolding rest
  past_variables kinds.R n e = ap (λ l. l ++ z_from d 0) (each_past (variable_events kinds.R) (variable_event kinds.R n) n n d.r_variables e)
  past_variables kinds.Z n e = ap (λ l. l ++ end_event d ∷ []) (each_past (variable_events kinds.Z) (variable_event kinds.Z n) n n d.z_variables e)

  pub at_record : (kind : Kind) (n from : ℕ) (found : Found) → IsFirstOf (slice_get (variables_of d kind) n) from (Some found) → rest d (spots.Rec kind n from) ≡ found.event ∷ rest d (spots.Rec kind n (found.num + 1))
  unfolding rest
  at_record kind n from found is = ap (λ l. l ++ variables_from d kind (n + 1)) (record_first from (slice_get (variables_of d kind) n) found is)

  pub past_records : (kind : Kind) (n from : ℕ) → IsFirstOf (slice_get (variables_of d kind) n) from None → rest d (spots.Rec kind n from) ≡ rest d (spots.Var kind (n + 1))
  unfolding rest
  past_records kind n from is = ap (λ l. l ++ variables_from d kind (n + 1)) (records_over from (slice_get (variables_of d kind) n) is)

  -- behind the variables of a kind
  pub passes_variables : (kind : Kind) (n : ℕ) (next : Spot) → next ≡ behind kind → None ≡ variable_part d kind n → IsStep d (spots.Var kind n) (steps.Passes next)
  passes_variables kinds.R n next is e = subst (λ (s : Spot). IsStep d (spots.Var kinds.R n) (steps.Passes s)) (sym is) (past_variables kinds.R n e, tt, omega arith)
  passes_variables kinds.Z n next is e = subst (λ (s : Spot). IsStep d (spots.Var kinds.Z n) (steps.Passes s)) (sym is) (past_variables kinds.Z n e, tt, omega arith)

  pub all_counted : (counted : ℕ) → Counts d spots.End counted → counted ≡ all_records d
  unfolding rest
  all_counted counted e = omega (arith, e)

  pub at_end : rest d spots.End ≡ end_event d ∷ rest d spots.Behind
  unfolding rest
  at_end = refl

  pub at_behind : rest d spots.Behind ≡ []
  unfolding rest
  at_behind = refl
