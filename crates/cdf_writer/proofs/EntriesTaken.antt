-- The events of the entries of an attribute, taken one after the other, append its chain of entries.
use Rattle.std.proofs.Common.{eqb-true, inl, inr, Bool, List, None, Option, Some, [], ap, ap₂, append_assoc, append-nil, arith, false, length, map, min, refl, suc, sym, true, ℕ, ◌++◌, ◌+◌, ◌∙◌, ◌∷◌, ◌≡◌, ◌≤◌}
use Rattle.std.proofs.lemmas.List.{length-append}
use Rattle.std.specs.List.{last_or}
use Rattle.std.specs.Option.{option_map}
use Rattle.std.specs.Prelude.{◌==◌, if◌then◌else◌}
use Rattle.cdf_format.proofs.Members.{either}
use Rattle.cdf_model.specs.declared.data_type.DataType.{DataType}
use Rattle.cdf_model.specs.declared.kinds.EntryKind.{EntryKind}
use Rattle.cdf_model.specs.ByteOrder.{turned}
use Rattle.cdf_model.specs.DataSet.{Entry}
use Rattle.cdf_model.specs.Events.{entry_event}
use Rattle.cdf_writer.specs.Bodies.{chain_of, whole_record}
use Rattle.cdf_writer.specs.Fine.{FineEntry}
use Rattle.cdf_writer.specs.Laying.{entry_bodies, entry_size, laid_size, link_if}
use Rattle.cdf_writer.specs.Progress.{State, entry_place, entry_type, held_bodies, held_body, held_next, is_in_z, longer, no_chain, run_from, size, with_entry}
use Rattle.cdf_writer.specs.declared.bodies.EntryChain.{EntryChain}
use Rattle.cdf_writer.specs.declared.progress.Held.{Held}
use Rattle.cdf_writer.specs.declared.progress.OpenAttribute.{OpenAttribute}
use Rattle.cdf_writer.specs.declared.progress.Part.TheVariants as parts
use Rattle.cdf_writer.proofs.Entries.{Fines, body_size}
use Rattle.cdf_writer.proofs.Stands.{size-append, whole_size}
unfoldable use Rattle.cdf_writer.specs.Bodies.{entry_body, entry_front}

-- a state in which this attribute is open
abbrev pub open_at : State → OpenAttribute → List (List ℕ) → State
open_at s a behind = record s { part = parts.Attribute a; behind = behind }

-- an entry, as it is held back
abbrev pub held_of : Bool → Bool → ℕ × Entry → Held
held_of in_z little (num, entry) = record { in_z = in_z; num = num; t = entry.type; elems = entry.elems; stored = turned entry.type little entry.bytes }

pub held_is : (in_z little : Bool) (n next : ℕ) (num : ℕ) (entry : Entry) → held_body n (held_of in_z little (num, entry)) next ≡ entry_body (entry_type in_z) little n next (num, entry)
unfolding entry_body
held_is in_z little n next num entry = refl

front_long : (type n next num elems : ℕ) (t : DataType) → length (entry_front type n next num t elems) ≡ 48
unfolding entry_front
front_long type n next num elems t = omega arith

pub held_long : (n : ℕ) (held : Held) (next : ℕ) → length (whole_record (held_body n held next)) ≡ 56 + length held.stored
held_long n held next = omega (arith, whole_size (held_body n held next), length-append (entry_front (entry_type held.in_z) n next held.num held.t held.elems) held.stored, front_long (entry_type held.in_z) n next held.num held.elems held.t)

-- how long the entry is that is held back
abbrev held_length : Option Held → ℕ
held_length None = 0
held_length (Some held) = 56 + length held.stored

bodies_in : ℕ → Option Held → ℕ → List (List ℕ)
bodies_in n held next = elim held [ None ↦ [] | Some h ↦ held_body n h next ∷ [] ]

pub held_size : (a : OpenAttribute) (next : ℕ) → laid_size (held_bodies a next) ≡ held_length a.held
held_size a next = of a.held
  where
    of : (held : Option Held) → laid_size (elim held [ None ↦ [] | Some h ↦ held_body a.num h next ∷ [] ]) ≡ held_length held
    of None = refl
    of (Some h) = ap length (append-nil (whole_record (held_body a.num h next))) ∙ held_long a.num h next

pub held_size_at : (a : OpenAttribute) (held : Held) → a.held ≡ Some held → laid_size (held_bodies a 0) ≡ 56 + length held.stored
held_size_at a held e = held_size a 0 ∙ ap held_length e

-- ---- the attribute with these entries, which stand from a place on

abbrev pub chained : ℕ → List (ℕ × Entry) → EntryChain → EntryChain
chained place [] chain = chain
chained place (item ∷ more) chain = chained (place + entry_size item) more (longer place item.0 chain)

abbrev pub held_after : Bool → Bool → List (ℕ × Entry) → Option Held → Option Held
held_after in_z little [] held = held
held_after in_z little (item ∷ more) held = held_after in_z little more (Some (held_of in_z little item))

abbrev pub with_entries : Bool → Bool → ℕ → List (ℕ × Entry) → OpenAttribute → OpenAttribute
with_entries in_z little place items a = record a { g = if in_z then a.g else chained place items a.g; z = if in_z then chained place items a.z else a.z; held = held_after in_z little items a.held }

none_more : (in_z little : Bool) (place : ℕ) (a : OpenAttribute) → a ≡ with_entries in_z little place [] a
none_more true little place a = refl
none_more false little place a = refl

one_more : (in_z little : Bool) (place there : ℕ) (num : ℕ) (entry : Entry) (more : List (ℕ × Entry)) (a : OpenAttribute) → there ≡ place + entry_size (num, entry)
    → with_entries in_z little there more (with_entry place (held_of in_z little (num, entry)) a) ≡ with_entries in_z little place ((num, entry) ∷ more) a
one_more true little place there num entry more a e = ap (λ (p : ℕ). record a { z = chained p more (longer place num a.z); held = held_after true little more (Some (held_of true little (num, entry))) }) e
one_more false little place there num entry more a e = ap (λ (p : ℕ). record a { g = chained p more (longer place num a.g); held = held_after false little more (Some (held_of false little (num, entry))) }) e

-- the link of the entry that is held back, where these follow
abbrev pub link_to : Bool → ℕ → Option Held → List (ℕ × Entry) → ℕ
link_to in_z place held [] = 0
link_to in_z place held (item ∷ more) = held_next held in_z place

link_own : (in_z little : Bool) (place num : ℕ) (entry : Entry) (more : List (ℕ × Entry)) → link_to in_z place (Some (held_of in_z little (num, entry))) more ≡ link_if place more
link_own true little place num entry [] = refl
link_own false little place num entry [] = refl
link_own true little place num entry (item ∷ more) = refl
link_own false little place num entry (item ∷ more) = refl

-- ---- one entry after the other

pub size_more : (s : State) (a b : OpenAttribute) (behind more : List (List ℕ)) → size (open_at s b (behind ++ more)) ≡ size (open_at s a behind) + laid_size more
size_more s a b behind more =
    let front = s.cdr ∷ s.gdr ∷ s.finished in
    omega (arith, size-append front (s.room ++ (behind ++ more)), size-append front (s.room ++ behind), size-append s.room (behind ++ more), size-append s.room behind, size-append behind more)

pub record EntriesTaken (in_z : Bool) (s : State) (a : OpenAttribute) (behind : List (List ℕ)) (items : List (ℕ × Entry)) (t : State) : Type 0 where
  pub after : List (List ℕ)
  pub is : t ≡ open_at s (with_entries in_z s.file.little (entry_place (open_at s a behind) a) items a) after
  pub flushed : after ++ held_bodies (with_entries in_z s.file.little (entry_place (open_at s a behind) a) items a) 0
      ≡ (behind ++ held_bodies a (link_to in_z (entry_place (open_at s a behind) a) a.held items)) ++ entry_bodies (entry_type in_z) s.file.little a.num (entry_place (open_at s a behind) a) items

pub entries_taken : (kind : EntryKind) (s : State) (items : List (ℕ × Entry)) (a : OpenAttribute) (behind : List (List ℕ)) → Fines items
    → EntriesTaken (is_in_z kind) s a behind items (run_from (open_at s a behind) (map (entry_event kind) items))
entries_taken kind s [] a behind f =
    let same = none_more (is_in_z kind) s.file.little (entry_place (open_at s a behind) a) a in
    record {
      after = behind;
      is = ap (λ (x : OpenAttribute). open_at s x behind) same;
      flushed = ap (λ (x : OpenAttribute). behind ++ held_bodies x 0) (sym same) ∙ sym (append-nil (behind ++ held_bodies a 0));
    }
entries_taken kind s ((num, entry) ∷ more) a behind f =
    let z = is_in_z kind in
    let little = s.file.little in
    let place = entry_place (open_at s a behind) a in
    let held = held_of z little (num, entry) in
    let next = held_next a.held z place in
    let one = with_entry place held a in
    let written = behind ++ held_bodies a next in
    let there = entry_place (open_at s one written) one in
    let r = entries_taken kind s more one written f.1 in
    let there_is : there ≡ place + entry_size (num, entry) =
    omega (arith, size_more s a one behind (held_bodies a next), held_size a next, held_size a 0, held_size one 0, stored_long z little num entry f.0) in
    let whole = one_more z little place there num entry more a there_is in
    let link : link_to z there (Some held) more ≡ link_if (place + entry_size (num, entry)) more = link_own z little there num entry more ∙ ap (λ (p : ℕ). link_if p more) there_is in
    record {
      after = r.after;
      is = r.is ∙ ap (λ (x : OpenAttribute). open_at s x r.after) whole;
      flushed =
          ap (λ (x : OpenAttribute). r.after ++ held_bodies x 0) (sym whole)
          ∙ r.flushed
          ∙ ap₂ (λ (l p : ℕ). (written ++ held_body a.num held l ∷ []) ++ entry_bodies (entry_type z) little a.num p more) link there_is
          ∙ append_assoc written (held_body a.num held (link_if (place + entry_size (num, entry)) more) ∷ []) (entry_bodies (entry_type z) little a.num (place + entry_size (num, entry)) more)
          ∙ ap (λ (b : List ℕ). written ++ b ∷ entry_bodies (entry_type z) little a.num (place + entry_size (num, entry)) more) (held_is z little a.num (link_if (place + entry_size (num, entry)) more) num entry);
    }
  where
    stored_long : (z little : Bool) (num : ℕ) (entry : Entry) → FineEntry num entry → 56 + length (held_of z little (num, entry)).stored ≡ entry_size (num, entry)
    stored_long z little num entry fine = omega (arith, body_size num entry fine little (entry_type z) 0 0, ap (λ (b : List ℕ). 8 + length b) (held_is z little 0 0 num entry), held_long 0 (held_of z little (num, entry)) 0, whole_size (held_body 0 (held_of z little (num, entry)) 0))

-- ---- no link leads from one chain to the other

pub none_across : (little : Bool) (items : List (ℕ × Entry)) (held : Option Held) → ((place : ℕ) → held_next held true place ≡ 0) → (place : ℕ) → held_next (held_after false little items held) true place ≡ 0
none_across little [] held h = h
none_across little (item ∷ more) held h = none_across little more (Some (held_of false little item)) (λ place. refl)

-- ---- the chain of all entries

pub not_zero : (n : ℕ) → (suc n == 0) ≡ false
not_zero n = elim (either (suc n == 0)) [ inl t ↦ let e : suc n ≡ 0 = eqb-true (suc n) 0 t in absurd (omega (arith, e)) | inr f ↦ f ]

-- the greatest number of these behind another one
abbrev greatest_from : ℕ → List (ℕ × Entry) → Option ℕ
greatest_from n [] = Some n
greatest_from n (item ∷ more) = greatest_from item.0 more

greatest_is : (pair : ℕ × Entry) (items : List (ℕ × Entry)) → greatest_from pair.0 items ≡ option_map (λ (x : ℕ × Entry). x.0) (last_or (Some pair) items)
greatest_is pair [] = refl
greatest_is pair (item ∷ more) = greatest_is item more

chained_on : (head n count place : ℕ) (items : List (ℕ × Entry)) → suc count + length items ≤ 2147483648
    → chained place items (record { head = head; count = suc count; greatest = Some n }) ≡ record { head = head; count = suc count + length items; greatest = greatest_from n items }
chained_on head n count place [] le = ap (λ (k : ℕ). record { head = head; count = k; greatest = Some n }) (none (suc count))
  where
    none : (k : ℕ) → k ≡ k + 0
    none k = omega arith
chained_on head n count place (item ∷ more) le =
    let next : min (suc count + 1) 0xffffffff ≡ suc (suc count) = omega (arith, le) in
    ap (λ (b : Bool). chained (place + entry_size item) more (record { head = if b then place else head; count = min (suc count + 1) 0xffffffff; greatest = Some item.0 })) (not_zero count)
    ∙ ap (λ (k : ℕ). chained (place + entry_size item) more (record { head = head; count = k; greatest = Some item.0 })) next
    ∙ chained_on head item.0 (suc count) (place + entry_size item) more (omega (arith, le))
    ∙ ap (λ (k : ℕ). record { head = head; count = k; greatest = greatest_from item.0 more }) (moved count (length more))
  where
    moved : (k l : ℕ) → suc (suc k) + l ≡ suc k + suc l
    moved k l = omega arith

pub chain_made : (place : ℕ) (items : List (ℕ × Entry)) → length items ≤ 2147483648 → chained place items no_chain ≡ chain_of (link_if place items) items
chain_made place [] le = refl
chain_made place (item ∷ more) le =
    chained_on place item.0 0 (place + entry_size item) more (omega (arith, le))
    ∙ ap₂ (λ (k : ℕ) (o : Option ℕ). record { head = place; count = k; greatest = o }) (one (length more)) (greatest_is item more)
  where
    one : (l : ℕ) → suc 0 + l ≡ suc l
    one l = omega arith
