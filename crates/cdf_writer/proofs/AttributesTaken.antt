-- The events of attributes, taken one after the other, make the records of all attributes.
use Rattle.std.proofs.Common.{Bool, List, None, [], ap, ap₂, append_assoc, append-nil, arith, false, length, map, refl, replicate, subst, suc, sym, true, zero, ℕ, ◌++◌, ◌+◌, ◌-◌, ◌<◌, ◌∙◌, ◌∷◌, ◌≡◌, ◌≤◌}
use Rattle.std.proofs.lemmas.Bool.{lt-ltb}
use Rattle.std.proofs.lemmas.List.{length-append, length-replicate}
use Rattle.std.specs.List.{enumerate_from, flat_map}
use Rattle.std.specs.Prelude.{if◌then◌else◌, nat_lt}
use Rattle.cdf_format.specs.NewFile.{magic}
use Rattle.cdf_format.specs.Records.{adr_name}
use Rattle.cdf_format.specs.RecordTypes.{agr_edr_type, az_edr_type}
use Rattle.cdf_format.specs.Shape.{Each}
use Rattle.cdf_edits.proofs.Commands.FineNames.{fine_is_short}
use Rattle.cdf_model.specs.declared.event.Event.{Event}
use Rattle.cdf_model.specs.declared.event.Event.TheVariants as events
use Rattle.cdf_model.specs.declared.kinds.EntryKind.TheVariants as entry_kinds
use Rattle.cdf_model.specs.declared.kinds.Scope.{Scope}
use Rattle.cdf_model.specs.declared.kinds.Scope.TheVariants.{Global, Variable, GlobalAssumed, VariableAssumed}
use Rattle.cdf_model.specs.DataSet.{Attribute, Entry}
use Rattle.cdf_model.specs.Events.{attribute_events, entry_event, kind_in}
use Rattle.cdf_writer.specs.Bodies.{chain_of, name_bytes, whole_record}
use Rattle.cdf_writer.specs.Fine.{FineAttribute, FineEntries}
use Rattle.cdf_writer.specs.Laying.{attribute_bodies, attributes_bodies, entry_bodies, g_place, laid_size, link_if, past_attribute, z_place}
use Rattle.cdf_writer.specs.Progress.{State, adr_made, adr_opened, adr_rest, attribute_opened, entry_place, finish, first_place, goes_on, held_bodies, held_next, is_in_z, next_if, run_from, size, step, step_in}
use Rattle.cdf_writer.specs.Shown.{IsStarted}
use Rattle.cdf_writer.specs.declared.bodies.EntryChain.{EntryChain}
use Rattle.cdf_writer.specs.declared.progress.FileState.{FileState}
use Rattle.cdf_writer.specs.declared.progress.OpenAttribute.{OpenAttribute}
use Rattle.cdf_writer.specs.declared.progress.Part.{Part}
use Rattle.cdf_writer.specs.declared.progress.Part.TheVariants as parts
unfoldable use Rattle.cdf_writer.specs.Bodies.{adr_body, adr_front}
use Rattle.cdf_writer.proofs.AttributesRead.{attribute_end, few_entries}
use Rattle.cdf_writer.proofs.Entries.{entry_sizes}
use Rattle.cdf_writer.proofs.EntriesTaken.{EntriesTaken, chain_made, entries_taken, not_zero, link_to, none_across, open_at, size_more, with_entries}
use Rattle.cdf_writer.proofs.Stands.{size-append, whole_size}

-- ---- events

pub run_append : (s : State) (xs ys : List Event) → run_from s (xs ++ ys) ≡ run_from (run_from s xs) ys
run_append s [] ys = refl
run_append s (x ∷ xs) ys = run_append (step s x) xs ys

pub started_step : (s : State) (e : Event) → IsStarted s.part → step s e ≡ goes_on s e
started_step s e h = of s.part h
  where
    of : (p : Part) → IsStarted p → step_in p s e ≡ goes_on s e
    of parts.Start h = absurd h
    of parts.Between h = refl
    of (parts.Attribute a) h = refl
    of (parts.Variable v) h = refl

-- all that came is written
abbrev pub resting : FileState → List ℕ → List ℕ → List (List ℕ) → State
resting file cdr gdr finished = record { file = file; part = parts.Between; cdr = cdr; gdr = gdr; finished = finished; room = []; behind = [] }

abbrev pub end_of : List ℕ → List ℕ → List (List ℕ) → ℕ
end_of cdr gdr finished = length magic + laid_size (cdr ∷ gdr ∷ finished)

pub resting_size : (file : FileState) (cdr gdr : List ℕ) (finished : List (List ℕ)) → size (resting file cdr gdr finished) ≡ end_of cdr gdr finished
resting_size file cdr gdr finished = ap (λ (xs : List (List ℕ)). length magic + laid_size xs) (append-nil (cdr ∷ gdr ∷ finished))

-- after these events it is open, and once it is finished all that came is written
pub record Rests (t : State) (file : FileState) (cdr gdr : List ℕ) (finished : List (List ℕ)) : Type 0 where
  pub started : IsStarted t.part
  pub is : finish t ≡ resting file cdr gdr finished

-- ---- one attribute

g_in : (scope : Scope) → is_in_z (kind_in scope) ≡ false
g_in Global = refl
g_in Variable = refl
g_in GlobalAssumed = refl
g_in VariableAssumed = refl

padded : (name : List ℕ) → length name ≤ 256 → length (name_bytes adr_name name) ≡ 256
padded name le = omega (arith, length-append name (replicate (256 - length name) 0), length-replicate {A = ℕ} (256 - length name) 0)

module _ (file : FileState) (cdr gdr : List ℕ) (finished : List (List ℕ)) (n : ℕ) (a : Attribute) (fine : FineAttribute a) where
  little : Bool
  little = file.little

  abbrev place : ℕ
  place = end_of cdr gdr finished

  abbrev name : List ℕ
  name = name_bytes adr_name a.name

  abbrev whole : FileState
  whole = record file { attributes = first_place file.attributes (size (resting file cdr gdr finished)) }

  abbrev room : State
  room = record { file = whole; part = parts.Between; cdr = cdr; gdr = gdr; finished = finished; room = replicate (adr_rest name) 0 ∷ []; behind = [] }

  abbrev empty : OpenAttribute
  empty = attribute_opened (size (resting file cdr gdr finished)) n a.name a.scope

  g_taken : EntriesTaken false room empty [] a.g (run_from (open_at room empty []) (map (entry_event (kind_in a.scope)) a.g))
  g_taken = subst (λ (z : Bool). EntriesTaken z room empty [] a.g (run_from (open_at room empty []) (map (entry_event (kind_in a.scope)) a.g))) (g_in a.scope) (entries_taken (kind_in a.scope) room a.g empty [] fine.g_fine.1)

  abbrev g_from : ℕ
  g_from = entry_place (open_at room empty []) empty

  abbrev with_g : OpenAttribute
  with_g = with_entries false file.little g_from a.g empty

  z_taken : EntriesTaken true room with_g g_taken.after a.z (run_from (open_at room with_g g_taken.after) (map (entry_event entry_kinds.Z) a.z))
  z_taken = entries_taken entry_kinds.Z room a.z with_g g_taken.after fine.z_fine.1

  abbrev z_from : ℕ
  z_from = entry_place (open_at room with_g g_taken.after) with_g

  abbrev with_z : OpenAttribute
  with_z = with_entries true file.little z_from a.z with_g

  abbrev last : State
  last = open_at room with_z z_taken.after

  g_starts : g_from ≡ g_place place
  g_starts =
      let front = cdr ∷ gdr ∷ finished in
      let zeros : List ℕ = replicate (adr_rest name) 0 in
      omega (arith, size-append front ((zeros ∷ []) ++ []), ap length (append-nil (whole_record zeros)), whole_size zeros, length-replicate {A = ℕ} (adr_rest name) 0, padded a.name (fine_is_short a.name fine.named))

  g_bodies : g_taken.after ++ held_bodies with_g 0 ≡ entry_bodies agr_edr_type file.little n g_from a.g
  g_bodies = g_taken.flushed

  z_starts : z_from ≡ z_place place a
  z_starts = omega (arith, size_more room with_g with_g g_taken.after (held_bodies with_g 0), size_more room empty with_g [] (g_taken.after ++ held_bodies with_g 0), ap laid_size g_bodies, entry_sizes agr_edr_type file.little n g_from a.g fine.g_fine.1, g_starts)

  g_held : held_next (with_g).held true z_from ≡ 0
  g_held = none_across file.little a.g None (λ p. refl) z_from

  z_link : link_to true z_from (with_g).held a.z ≡ 0
  z_link = of a.z
    where
      of : (items : List (ℕ × Entry)) → link_to true z_from (with_g).held items ≡ 0
      of [] = refl
      of (item ∷ more) = g_held

  abbrev entries : List (List ℕ)
  entries = entry_bodies agr_edr_type file.little n (g_place place) a.g ++ entry_bodies az_edr_type file.little n (z_place place a) a.z

  z_bodies : z_taken.after ++ held_bodies with_z 0 ≡ entries
  z_bodies =
      z_taken.flushed
      ∙ ap₂ (λ (l p : ℕ). (g_taken.after ++ held_bodies with_g l) ++ entry_bodies az_edr_type file.little n p a.z) z_link z_starts
      ∙ ap (λ (xs : List (List ℕ)). xs ++ entry_bodies az_edr_type file.little n (z_place place a) a.z) (g_bodies ∙ ap (λ (p : ℕ). entry_bodies agr_edr_type file.little n p a.g) g_starts)

  abbrev end : ℕ
  end = size last + laid_size (held_bodies with_z 0)

  ends : end ≡ past_attribute place a
  ends = omega (arith, size_more room with_z with_z z_taken.after (held_bodies with_z 0), size_more room empty with_z [] (z_taken.after ++ held_bodies with_z 0), ap laid_size z_bodies, size-append (entry_bodies agr_edr_type file.little n (g_place place) a.g) (entry_bodies az_edr_type file.little n (z_place place a) a.z), entry_sizes agr_edr_type file.little n (g_place place) a.g fine.g_fine.1, entry_sizes az_edr_type file.little n (z_place place a) a.z fine.z_fine.1, g_starts)

  few : (items : List (ℕ × Entry)) → FineEntries items → length items ≤ 2147483648
  few items f = let k = few_entries 0 items f.0 f.1 (omega arith) in omega (arith, k)

  adr_is : adr_made whole end with_z ≡ adr_body n (next_if n file.counts.attributes (past_attribute place a)) (link_if (g_place place) a.g) (link_if (z_place place a) a.z) a
  unfolding adr_body
  adr_is =
      ap (λ (e : ℕ). adr_front n (next_if n file.counts.attributes e) a.scope (with_z).g (with_z).z ++ name) ends
      ∙ ap₂ (λ (g z : EntryChain). adr_front n (next_if n file.counts.attributes (past_attribute place a)) a.scope g z ++ name)
      (chain_made g_from a.g (few a.g fine.g_fine) ∙ ap (λ (p : ℕ). chain_of (link_if p a.g) a.g) g_starts)
      (chain_made z_from a.z (few a.z fine.z_fine) ∙ ap (λ (p : ℕ). chain_of (link_if p a.z) a.z) z_starts)

  abbrev made : List (List ℕ)
  made = attribute_bodies file.little n place (next_if n file.counts.attributes (past_attribute place a)) a

  finished_now : finish last ≡ resting whole cdr gdr (finished ++ made)
  finished_now = ap₂ (λ (b : List ℕ) (xs : List (List ℕ)). resting whole cdr gdr (finished ++ b ∷ xs)) adr_is z_bodies

  -- all its events
  ran : (s : State) → IsStarted s.part → finish s ≡ resting file cdr gdr finished → run_from s (attribute_events (n, a)) ≡ last
  ran s started e =
      let opened : step s (events.Attr n a.name a.scope) ≡ open_at room empty [] = started_step s (events.Attr n a.name a.scope) started ∙ ap (λ (f : State). adr_opened f n a.name a.scope) e in
      let gs = map (entry_event (kind_in a.scope)) a.g in
      let zs = map (entry_event entry_kinds.Z) a.z in
      ap (λ (f : State). run_from f (gs ++ zs)) opened
      ∙ run_append (open_at room empty []) gs zs
      ∙ ap (λ (f : State). run_from f zs) g_taken.is
      ∙ z_taken.is

  pub attribute_taken : (s : State) → IsStarted s.part → finish s ≡ resting file cdr gdr finished → Rests (run_from s (attribute_events (n, a))) whole cdr gdr (finished ++ made)
  attribute_taken s started e =
      let r = ran s started e in
      record { started = subst (λ (t : State). IsStarted t.part) (sym r) tt; is = ap finish r ∙ finished_now }

  pub made_long : end_of cdr gdr (finished ++ made) ≡ past_attribute place a
  made_long = omega (arith, size-append (cdr ∷ gdr ∷ finished) made, attribute_end file.little a fine n place (next_if n file.counts.attributes (past_attribute place a)))

-- ---- all of them

pub next_here : {A : Type 0} (n total place : ℕ) (more : List A) → n + suc (length more) ≡ total → next_if n total place ≡ link_if place more
next_here n total place [] e = rw (no_more n total (omega (arith, e))) refl
  where
    no_more : (n total : ℕ) → total ≤ n + 1 → nat_lt (n + 1) total ≡ false
    no_more n total le = grind arith
next_here n total place (x ∷ more) e = rw (lt-ltb (n + 1) total (omega (arith, e))) refl

-- the place of the first one, where one more comes at a place, or none
abbrev pub first_of : {A : Type 0} → ℕ → ℕ → List A → ℕ
first_of was place [] = was
first_of was place (x ∷ more) = first_place was place

first_kept : (n place : ℕ) → first_place (suc n) place ≡ suc n
first_kept n place = ap (λ (b : Bool). if b then place else suc n) (not_zero n)

first_again : (was place there : ℕ) → 0 < place → first_place (first_place was place) there ≡ first_place was place
first_again zero zero there some = absurd (omega (arith, some))
first_again zero (suc place) there some = first_kept place there
first_again (suc was) place there some = ap (λ (w : ℕ). first_place w there) (first_kept was place) ∙ first_kept was there ∙ sym (first_kept was place)

pub first_stays : {A : Type 0} (was place here there : ℕ) (more : List A) → 0 < place → here ≡ place → first_of (first_place was here) there more ≡ first_place was place
first_stays was place here there [] some e = ap (λ (p : ℕ). first_place was p) e
first_stays was place here there (x ∷ more) some e = ap (λ (p : ℕ). first_place (first_place was p) there) e ∙ first_again was place there some

abbrev pub with_attributes : FileState → ℕ → List Attribute → FileState
with_attributes file place as_ = record file { attributes = first_of file.attributes place as_ }

pub attributes_taken : (as_ : List Attribute) (s : State) (file : FileState) (cdr gdr : List ℕ) (finished : List (List ℕ)) (n : ℕ) → Each FineAttribute as_ → n + length as_ ≡ file.counts.attributes
    → IsStarted s.part → finish s ≡ resting file cdr gdr finished
    → Rests (run_from s (flat_map attribute_events (enumerate_from n as_))) (with_attributes file (end_of cdr gdr finished) as_) cdr gdr (finished ++ attributes_bodies file.little n (end_of cdr gdr finished) as_)
attributes_taken [] s file cdr gdr finished n f count started e = record { started = started; is = e ∙ ap (λ (xs : List (List ℕ)). resting file cdr gdr xs) (sym (append-nil finished)) }
attributes_taken (a ∷ more) s file cdr gdr finished n f count started e =
    let place = end_of cdr gdr finished in
    let there = past_attribute place a in
    let next = next_if n file.counts.attributes there in
    let own = attribute_bodies file.little n place next a in
    let whole = record file { attributes = first_place file.attributes (size (resting file cdr gdr finished)) } in
    let one = attribute_taken file cdr gdr finished n a f.0 s started e in
    let t = run_from s (attribute_events (n, a)) in
    let long = made_long file cdr gdr finished n a f.0 in
    let rest = attributes_taken more t whole cdr gdr (finished ++ own) (n + 1) f.1 (omega (arith, count)) one.started one.is in
    let number : n + 1 ≡ suc n = omega arith in
    let link = next_here n file.counts.attributes there more count in
    let behind : (finished ++ own) ++ attributes_bodies file.little (n + 1) (end_of cdr gdr (finished ++ own)) more ≡ finished ++ attributes_bodies file.little n place (a ∷ more) =
    append_assoc finished own (attributes_bodies file.little (n + 1) (end_of cdr gdr (finished ++ own)) more)
    ∙ ap₂ (λ (k p : ℕ). finished ++ (own ++ attributes_bodies file.little k p more)) number long
    ∙ ap (λ (l : ℕ). finished ++ (attribute_bodies file.little n place l a ++ attributes_bodies file.little (suc n) there more)) link in
    let some : 0 < place = omega arith in
    let same : with_attributes whole (end_of cdr gdr (finished ++ own)) more ≡ with_attributes file place (a ∷ more) = ap (λ (p : ℕ). record file { attributes = p }) (first_stays file.attributes place (size (resting file cdr gdr finished)) (end_of cdr gdr (finished ++ own)) more some (resting_size file cdr gdr finished)) in
    let all : run_from s (flat_map attribute_events (enumerate_from n (a ∷ more))) ≡ run_from t (flat_map attribute_events (enumerate_from (n + 1) more)) = run_append s (attribute_events (n, a)) (flat_map attribute_events (enumerate_from (n + 1) more)) in
    record {
      started = subst (λ (x : State). IsStarted x.part) (sym all) rest.started;
      is = ap finish all ∙ rest.is ∙ ap₂ (λ (x : FileState) (xs : List (List ℕ)). resting x cdr gdr xs) same behind;
    }
