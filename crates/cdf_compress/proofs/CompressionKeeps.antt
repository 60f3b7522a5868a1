-- All blocks and nodes of a variable without records went, and then its packing was turned on or off: the content and the acts, and that each record keeps what `set-compress` leaves of it.
use Rattle.cdf_edits.proofs.Common.{Act, ActsFollow, AllKeep, Allowance, Allowances, Anything, Bool, Field, Found, FreedStay, Good, HasShape, In, Keeps, Kind, List, OneVariable, Only, Option, OutsideFields, Range, Some, None, Stays, Unused, Variable, VariableShape, [], ap, arith, content, cpr_type, either, eq-eqb, extent, false, false-is_in, if◌then◌else◌, inl, inr, is_a, is_a-type, is_in, length, linkable-in, linkable-type, max_rec_at, nat_le, nat_lt, no_fields, not, owned, range_at, refl, shape, shapes_of, size_at, space_fields, subst, suc, sym, taken, tile_lies, true, true-is_in, type_at, uir_type, unused_records, variable_of, variable_records, vdr_type, vxr_type, with_variable, ℕ, ◌&&◌, ◌++◌, ◌+◌, ◌<◌, ◌==◌, ◌∙◌, ◌∷◌, ◌≡◌}
use Rattle.cdf_edits.proofs.Commands.KeptRecords.{Stood, keep_attributes, keep_variables, keeps_stood}
use Rattle.cdf_edits.proofs.Edits.ActsJoined.{ListedStay}
use Rattle.cdf_edits.proofs.Edits.ActsThen.{gave-same}
use Rattle.cdf_edits.proofs.Edits.Common.{Each-in, OnlyTakes, StandsAmong, fits, keep_all, keep_file, keep_kinds, keep_places, keep_variable_parts, kind_type, none_of_both, other_kind, sizes_by_tiles, sound, stays_then, type_stays, typed}
use Rattle.cdf_edits.proofs.Edits.RecordGrown.{kept_then}
use Rattle.cdf_edits.proofs.Frame.OwnersApart.{unused_in}
use Rattle.cdf_edits.specs.Commands.Allowances.{anything_if}
use Rattle.cdf_edits.specs.Commands.Cuts.{cpr_acts, set_compress_changes}
use Rattle.cdf_format.specs.Records.{vdr_cpr_or_spr_offset, vdr_flags, vdr_vxr_head, vdr_vxr_tail}
use Rattle.cdf_index.proofs.OwnRecords as of_own
use Rattle.cdf_puts.proofs.Common.{same_as_itself}
use Rattle.cdf_puts.specs.Going.{IsOther, LooseStay, found_in}
use Rattle.cdf_puts.proofs.GoesKeep.{each_own, unused_stays}
use Rattle.cdf_cuts.proofs.WritesThen.{links}
use Rattle.cdf_gaps.proofs.FreedThenTaken.{freed_then_taken, listed_first}
use Rattle.cdf_sparse.proofs.AnyThenFreed.{any_then_freed}
use Rattle.cdf_sparse.proofs.AllContent.{same_variable}
use Rattle.cdf_compress.proofs.FreedKept.{freed_then, taken_then}
use Rattle.cdf_compress.specs.Emptying.{Emptied, all_acts, all_freed, emptied}
use Rattle.cdf_compress.specs.Repacking.{Repacked}

-- all blocks and nodes went, and then packing was turned on or off
pub record Compresses (b mid now : List ℕ) (kind : Kind) (before : List VariableShape) (own : VariableShape) (after : List VariableShape) (rle : Bool) (cpr : List ℕ) : Type 0 where
  pub good : Good b
  pub among : StandsAmong b kind before own after
  pub none_stored : extent (max_rec_at b own.vdr) ≡ 0
  pub cut : Emptied b mid kind before own after
  pub turned : Repacked mid now kind before (emptied own) after rle cpr

-- ---- parameters are freed, or else taken

pub none_taken : (b old new : List ℕ) → taken (cpr_acts b false old new) ≡ []
none_taken b [] new = refl
none_taken b (place ∷ old) new = none_taken b old new

pub only_takes : (b old new : List ℕ) → OnlyTakes (cpr_acts b true old new)
only_takes b [] [] = tt
only_takes b [] (place ∷ new) = only_takes b [] new
only_takes b (place ∷ old) new = tt

-- ---- what the command leaves of a record, as it leaves of one that has no parameters

abbrev pub fields : List Field
fields = vdr_flags ∷ vdr_cpr_or_spr_offset ∷ vdr_vxr_head ∷ vdr_vxr_tail ∷ []

abbrev heads : List Field
heads = vdr_vxr_head ∷ vdr_vxr_tail ∷ []

abbrev packing : List Field
packing = vdr_flags ∷ vdr_cpr_or_spr_offset ∷ []

abbrev any_block : Range → Allowance
any_block r = Anything

abbrev by_record : List ℕ → Kind → Allowance → ℕ → Option Range → Allowance
by_record b kind cpr m None = if type_at b m == vdr_type kind then Only fields else (if type_at b m == vxr_type then Anything else cpr)
by_record b kind cpr m (Some r) = Anything

no_fields_alone : Only fields ≡ Anything → ⊥
no_fields_alone e = cc

empty_alone : Only [] ≡ Anything → ⊥
empty_alone e = cc

-- what may go may go, with parameters or without
any_alike : (b : List ℕ) (kind : Kind) (cpr : Allowance) (m : ℕ) (o : Option Range) → of_own.by_range b kind fields any_block m o ≡ Anything → by_record b kind cpr m o ≡ Anything
any_alike b kind cpr m (Some r) e = refl
any_alike b kind cpr m None e = by (type_at b m == vdr_type kind) (type_at b m == vxr_type) e
  where
    by : (p q : Bool) → (if p then Only fields else (if q then Anything else Only [])) ≡ Anything → (if p then Only fields else (if q then Anything else cpr)) ≡ Anything
    by true q e = absurd (no_fields_alone e)
    by false true e = refl
    by false false e = absurd (empty_alone e)

-- and so is what the command leaves of the descriptor
fields_alike : (b : List ℕ) (kind : Kind) (cpr : Allowance) (m : ℕ) (o : Option Range) → of_own.by_range b kind fields any_block m o ≡ Only fields → type_at b m ≡ vdr_type kind → by_record b kind cpr m o ≡ Only fields
fields_alike b kind cpr m (Some r) e t = absurd (no_fields_alone (sym e))
fields_alike b kind cpr m None e t = let is = eq-eqb (type_at b m) (vdr_type kind) t in rw is refl

-- parameters
cpr_alike : (b now : List ℕ) (kind : Kind) (cpr : Allowance) (m : ℕ) (o : Option Range) → type_at b m ≡ cpr_type → Keeps b now m cpr → Keeps b now m (by_record b kind cpr m o)
cpr_alike b now kind cpr m (Some r) t keeps = tt
cpr_alike b now kind cpr m None t keeps = let no_vdr = none kind in rw (t, no_vdr) keeps
  where
    none : (k : Kind) → (cpr_type == vdr_type k) ≡ false
    none k = grind arith

module _ {b mid now : List ℕ} {kind : Kind} {before : List VariableShape} {own : VariableShape} {after : List VariableShape} {rle : Bool} {cpr : List ℕ} (x : Compresses b mid now kind before own after rle cpr) where
  abbrev v : Variable
  v = variable_of b own

  abbrev found : Found
  found = found_in b kind before own

  abbrev cut_acts : List Act
  cut_acts = all_acts b own

  abbrev cpr_now : List Act
  cpr_now = cpr_acts b rle own.cpr cpr

  abbrev pub acts : List Act
  acts = cut_acts ++ cpr_now

  abbrev e : Emptied b mid kind before own after
  e = x.cut

  abbrev r : Repacked mid now kind before (emptied own) after rle cpr
  r = x.turned

  -- ---- the content

  pub content_is : content now ≡ with_variable (content b) found (record v { rle = rle })
  content_is =
      let same = same_variable x.good x.among e.goes_on e.descriptor x.none_stored in
      let rest = e.same_content x.none_stored in
      r.content_is ∙ (λ i. with_variable (rest i) found (record (same i) { rle = rle }))

  -- ---- the acts

  h : HasShape b (shape b)
  h = (sound x.good x.among).has_shape

  h' : HasShape mid (shape mid)
  h' = (sound e.goes_on.good e.goes_on.among).has_shape

  h'' : HasShape now (shape now)
  h'' = (sound r.good r.among).has_shape

  -- parameters keep their sizes until they are freed
  same_acts : cpr_acts mid rle own.cpr cpr ≡ cpr_now
  same_acts = by rle
    where
      by : (p : Bool) → cpr_acts mid p own.cpr cpr ≡ cpr_acts b p own.cpr cpr
      by false = gave-same b mid own.cpr (λ m i. (keeps_stood b mid m (e.cpr m i) (Only [])).size_is)
      by true = on own.cpr
        where
          on : (old : List ℕ) → cpr_acts mid true old cpr ≡ cpr_acts b true old cpr
          on [] = refl
          on (place ∷ old) = refl

  follow_on : (p : Bool) → ActsFollow mid now (cpr_acts mid p own.cpr cpr) → ListedStay mid now (cpr_acts mid p own.cpr cpr) → ActsFollow b now (cut_acts ++ cpr_acts mid p own.cpr cpr)
  follow_on false second listed = any_then_freed h h' e.goes_on.follow second (none_taken mid own.cpr cpr) listed
  follow_on true second listed = freed_then_taken h e.goes_on.follow second e.cuts.takes_none (only_takes mid own.cpr cpr) e.goes_on.listed

  pub follow : ActsFollow b now acts
  follow = subst (λ (xs : List Act). ActsFollow b now (cut_acts ++ xs)) same_acts (follow_on rle r.follow r.listed)

  -- ---- what is freed

  sizes : (m : ℕ) → In m (all_freed own) → size_at mid m ≡ size_at b m
  sizes m i =
      let there = subst (In m) e.records_are (e.unused m i).0 in
      sizes_by_tiles b mid 8 8 (length b) (shape b).records refl h.tiled (rw (e.long, e.records_are) at h'.tiled) m there

  freed_on : (p : Bool) → ActsFollow mid now (cpr_acts mid p own.cpr cpr) → ListedStay mid now (cpr_acts mid p own.cpr cpr) → FreedStay mid now no_fields (cpr_acts mid p own.cpr cpr) → cpr_acts mid p own.cpr cpr ≡ cpr_acts b p own.cpr cpr → FreedStay b now no_fields (cut_acts ++ cpr_acts b p own.cpr cpr)
  freed_on false second listed freed same = freed_then h' h'' second listed r.loose (none_taken mid own.cpr cpr) b (all_freed own) sizes e.unused e.freed own.cpr refl (λ m i. (e.cpr m i).whole) freed
  freed_on true second listed freed same = subst (λ (xs : List Act). FreedStay b now no_fields (cut_acts ++ xs)) same (taken_then h' h'' second listed r.loose b cut_acts (only_takes mid own.cpr cpr) e.freed)

  pub freed : FreedStay b now no_fields acts
  freed = freed_on rle r.follow r.listed r.freed same_acts

  -- ---- the records of others

  stay : (m : ℕ) → IsOther (shape b).attributes before after (shapes_of (shape b) (other_kind kind)) m → Stood b now m
  stay m i =
      let one = e.goes_on.stay m i in
      let two = r.stay m (rw (e.goes_on.attributes_are, e.goes_on.others_are) i) in
      record { stands = two.stands; whole = kept_then b mid now m one.whole two.whole }

  twice : (m : ℕ) (fs : List Field) → Stays b mid m fs → Stays mid now m fs → Stays b now m fs
  twice m fs one two = stays_then b mid now m fs fs fs one two (λ i o. (o, o))

  -- an unused record is an unused record in between
  type_later : (m : ℕ) (fs : List Field) → In m (shape b).records → type_at b m ≡ uir_type → Stays b mid m fs → ((i : ℕ) → i < 12 → OutsideFields fs i) → type_at mid m ≡ uir_type
  type_later m fs i t one out = type_stays b mid m fs one (tile_lies b 8 (length b) (shape b).records m h.tiled i).long out ∙ t

  loose : LooseStay b now
  loose m i t out =
      let one = e.goes_on.loose m i t out in
      twice m [] one (r.loose m one.stands (type_later m [] i t one (λ n l. tt)) (λ j. out (listed_first h e.goes_on.follow e.cuts.takes_none m t j)))

  listed : ListedStay b now acts
  listed m j free =
      let ok = h.unused_chain.linkable m j in
      let none = none_of_both (λ (take : ℕ × ℕ). nat_le m take.0 && nat_lt take.0 (m + size_at b m)) cut_acts cpr_now free in
      let one = e.goes_on.listed m j none.0 in
      let typed = type_later m links (linkable-in b (shape b).records uir_type m ok) (linkable-type b (shape b).records uir_type m ok) one (λ n l. (inl (omega arith), (inl (omega arith), tt))) in
      elim (either (is_in m (shape mid).unused)) [
        | inl q ↦ twice m links one (r.listed m (true-is_in m (shape mid).unused q) (rw (one.size_is, same_acts) none.1))
        | inr q ↦ stays_then b mid now m links [] links one (r.loose m one.stands typed (false-is_in m (shape mid).unused q)) (λ n o. (o, tt))
      ]

  gdr : Stays b now (shape b).gdr space_fields
  gdr = twice (shape b).gdr space_fields e.gdr (subst (λ (m : ℕ). Stays mid now m space_fields) e.goes_on.gdr_is r.gdr)

  -- ---- the records of the variable

  pub descriptor : Stays b now own.vdr fields
  descriptor = stays_then b mid now own.vdr heads packing fields e.descriptor r.descriptor (λ i o. ((o.1.1.0, (o.1.1.1.0, tt)), (o.0, (o.1.0, tt))))

  abbrev may : Allowances
  may = set_compress_changes b (shape b) found rle

  abbrev may_cpr : Allowance
  may_cpr = anything_if (not rle)

  abbrev own_may : ℕ → Allowance
  own_may m = may.variables kind (length before) m

  abbrev plain_may : ℕ → Allowance
  plain_may m = of_own.by_range b kind fields any_block m (range_at (shape b) found m)

  plain_is : (m : ℕ) (o : Option Range) → range_at (shape b) found m ≡ o → plain_may m ≡ of_own.by_range b kind fields any_block m o
  plain_is m o q = ap (of_own.by_range b kind fields any_block m) q

  own_is : (m : ℕ) (o : Option Range) → range_at (shape b) found m ≡ o → own_may m ≡ by_record b kind may_cpr m o
  own_is m o q = let same = same_as_itself kind in let number = eq-eqb (length before) (length before) refl in rw (same, number, q) refl

  abbrev at : ℕ → Option Range
  at m = range_at (shape b) found m

  cpr_keeps : (m : ℕ) → In m own.cpr → (p : Bool) → (p ≡ true → (m : ℕ) → In m own.cpr → Stood mid now m) → Keeps b now m (anything_if (not p))
  cpr_keeps m i false kept = tt
  cpr_keeps m i true kept = let two = kept refl m i in keeps_stood b now m (record { stands = two.stands; whole = kept_then b mid now m (e.cpr m i).whole two.whole }) (Only [])

  cpr_typed : (m : ℕ) → In m own.cpr → type_at b m ≡ cpr_type
  cpr_typed m i = is_a-type b (shape b).records cpr_type m (Each-in (λ (place : ℕ). is_a b (shape b).records cpr_type place ≡ true) own.cpr (fits x.good x.among).3 m i)

  own_keeps : (m : ℕ) → In m (variable_records own) → Keeps b now m (own_may m)
  own_keeps = each_own (λ (m : ℕ). Keeps b now m (own_may m)) own
      (rw (own_is own.vdr (at own.vdr) refl ∙ fields_alike b kind may_cpr own.vdr (at own.vdr) (of_own.descriptor_allowed found x.good x.among refl fields any_block plain_may plain_is) (typed x.good x.among ∙ kind_type kind)) descriptor)
      (λ m i. rw (own_is m (at m) refl ∙ any_alike b kind may_cpr m (at m) (of_own.node_allowed found x.good x.among refl fields any_block plain_may plain_is m i)) tt)
      (λ l i. rw (own_is l.place (at l.place) refl ∙ any_alike b kind may_cpr l.place (at l.place) (of_own.block_allowed found x.good x.among refl fields any_block plain_may plain_is l i)) tt)
      (λ m i. subst (Keeps b now m) (sym (own_is m (at m) refl)) (cpr_alike b now kind may_cpr m (at m) (cpr_typed m i) (cpr_keeps m i rle r.cpr_stays)))

  pub keeps : AllKeep b now may acts (owned b (shape b))
  keeps =
      let front = keep_variables b now may acts kind 0 before (λ m i. stay m (inr (inr (inl i)))) in
      let back = keep_variables b now may acts kind (suc (length before)) after (λ m i. stay m (inr (inr (inr (inl i))))) in
      let others = keep_variables b now may acts (other_kind kind) 0 (shapes_of (shape b) (other_kind kind)) (λ m i. stay m (inr (inr (inr (inr i))))) in
      let both = keep_kinds b now may acts kind (keep_variable_parts b now may acts kind before own after x.among.was front (keep_places b now may acts (OneVariable kind (length before)) (variable_records own) own_keeps) back) others in
      keep_all b now may acts (keep_file b now may acts (sound x.good x.among) (keeps_stood b now 8 (stay 8 (inl refl)) may.cdr) gdr) (keep_attributes b now may acts 0 (shape b).attributes (λ m i. stay m (inr (inl i)))) both.0 both.1
      (keep_places b now may acts Unused (unused_records b (shape b)) (λ m i. unused_stays acts listed loose m i (unused_in b (shape b) (sound x.good x.among) m i)))
