-- All events of a data set, taken one after the other, make its compact image.
use Rattle.std.proofs.Common.{List, [], ap, ap₂, append-nil, arith, length, map, max, refl, suc, zero, ℕ, ◌++◌, ◌+◌, ◌∙◌, ◌∷◌, ◌≡◌, ◌≤◌}
use Rattle.std.proofs.lemmas.Int.{ints}
use Rattle.std.proofs.lemmas.List.{length-replicate}
use Rattle.std.specs.List.{flat_map, fold}
use Rattle.byteorder.specs.Endian.{big_bytes}
use Rattle.cdf_format.specs.NewFile.{magic}
use Rattle.cdf_model.specs.declared.event.Event.{Event}
use Rattle.cdf_model.specs.declared.event.Event.TheVariants as events
use Rattle.cdf_model.specs.declared.kinds.Kind.TheVariants.{R, Z}
use Rattle.cdf_model.specs.DataSet.{DataSet, extent, head_of}
use Rattle.cdf_model.specs.Events.{attribute_events, each, end_event, events_of, variable_events}
use Rattle.cdf_model.specs.RecordSteps.{last_number}
use Rattle.cdf_writer.specs.Bodies.{code4, counts_of, gdr_front, whole_record}
use Rattle.cdf_writer.specs.Compact.{attributes_part, attributes_place, bodies, heads, is_little, r_part, r_place, z_part, z_place}
use Rattle.cdf_writer.specs.Fine.{Fine}
use Rattle.cdf_writer.specs.Laying.{attributes_bodies, laid, laid_size, link_if, variables_bodies}
use Rattle.cdf_writer.specs.Progress.{State, begun, ended, gdr_made, gdr_rest, image_of, max_rec_code, records, run, run_from, size, start, step}
use Rattle.cdf_writer.specs.declared.bodies.Heads.{Heads}
use Rattle.cdf_writer.specs.declared.progress.FileState.{FileState}
unfoldable use Rattle.cdf_writer.specs.Bodies.{cdr_body, cdr_bytes, gdr_body}
unfoldable use Rattle.cdf_writer.specs.Compact.{compact}
use Rattle.cdf_writer.proofs.AttributesTaken.{Rests, attributes_taken, end_of, first_of, resting, resting_size, run_append, started_step, with_attributes}
use Rattle.cdf_writer.proofs.Stands.{size-append, size-cons, whole_size}
use Rattle.cdf_writer.proofs.VariablesTaken.{variables_taken, with_variables}
use Rattle.cdf_writer.proofs.Whole.{extents_small}

code_is : (e : ℕ) → e ≤ 2147483647 → max_rec_code e ≡ code4 (last_number e)
code_is zero le = refl
code_is (suc n) le = omega (arith, ints, le)

-- the head, and what comes behind it
split_events : (head : Event) (as_ rs zs : List Event) (end : Event) → run_from start (head ∷ as_ ++ rs ++ zs ++ end ∷ []) ≡ step (run_from (run_from (run_from (step start head) as_) rs) zs) end
split_events head as_ rs zs end =
    run_append start (head ∷ as_ ++ rs ++ zs) (end ∷ [])
    ∙ ap (λ (s : State). step s end) (run_append start (head ∷ as_ ++ rs) zs ∙ ap (λ (s : State). run_from s zs) (run_append start (head ∷ as_) rs))

module _ (d : DataSet) (f : Fine d) where
  abbrev first : State
  first = begun (head_of d)

  abbrev cdr : List ℕ
  cdr = first.cdr

  abbrev room : List ℕ
  room = first.gdr

  cdr_long : length cdr ≡ 304
  unfolding cdr_bytes
  cdr_long = refl

  first_place_is : end_of cdr room [] ≡ attributes_place d
  first_place_is = omega (arith, ap length (append-nil (whole_record room)), size-cons cdr (room ∷ []), whole_size cdr, whole_size room, cdr_long, length-replicate {A = ℕ} (gdr_rest (length d.rdims)) 0)

  abbrev as_bodies : List (List ℕ)
  as_bodies = attributes_bodies first.file.little 0 (end_of cdr room []) d.attributes

  as_are : as_bodies ≡ attributes_part d
  as_are = ap (λ (p : ℕ). attributes_bodies (is_little d) 0 p d.attributes) first_place_is

  abbrev with_as : FileState
  with_as = with_attributes first.file (end_of cdr room []) d.attributes

  abbrev r_from : ℕ
  r_from = end_of cdr room as_bodies

  past_parts : (xs ys : List (List ℕ)) → end_of cdr room (xs ++ ys) ≡ end_of cdr room xs + laid_size ys
  past_parts xs ys = omega (arith, size-append (cdr ∷ room ∷ xs) ys)

  r_from_is : r_from ≡ r_place d
  r_from_is = past_parts [] as_bodies ∙ ap₂ (λ (p : ℕ) (xs : List (List ℕ)). p + laid_size xs) first_place_is as_are

  abbrev r_bodies : List (List ℕ)
  r_bodies = variables_bodies R first.file.little 0 r_from d.r_variables

  r_are : r_bodies ≡ r_part d
  r_are = ap (λ (p : ℕ). variables_bodies R (is_little d) 0 p d.r_variables) r_from_is

  abbrev with_r : FileState
  with_r = with_variables R cdr room with_as r_from d.r_variables

  abbrev z_from : ℕ
  z_from = end_of cdr room (as_bodies ++ r_bodies)

  z_from_is : z_from ≡ z_place d
  z_from_is = past_parts as_bodies r_bodies ∙ ap₂ (λ (p : ℕ) (xs : List (List ℕ)). p + laid_size xs) r_from_is r_are

  abbrev z_bodies : List (List ℕ)
  z_bodies = variables_bodies Z first.file.little 0 z_from d.z_variables

  z_are : z_bodies ≡ z_part d
  z_are = ap (λ (p : ℕ). variables_bodies Z (is_little d) 0 p d.z_variables) z_from_is

  abbrev with_z : FileState
  with_z = with_variables Z cdr room with_r z_from d.z_variables

  abbrev whole : List (List ℕ)
  whole = as_bodies ++ r_bodies ++ z_bodies

  abbrev attributes_done : State
  attributes_done = run_from first (each attribute_events d.attributes)

  abbrev r_done : State
  r_done = run_from attributes_done (each (variable_events R) d.r_variables)

  abbrev z_done : State
  z_done = run_from r_done (each (variable_events Z) d.z_variables)

  attributes_rest : Rests attributes_done with_as cdr room as_bodies
  attributes_rest = attributes_taken d.attributes first first.file cdr room [] 0 f.attributes.each (omega arith) tt refl

  r_rest : Rests r_done with_r cdr room (as_bodies ++ r_bodies)
  r_rest = variables_taken R cdr room d.r_variables attributes_done with_as as_bodies 0 f.variables.r_fine (omega arith) attributes_rest.started attributes_rest.is

  z_rest : Rests z_done with_z cdr room whole
  z_rest = variables_taken Z cdr room d.z_variables r_done with_r (as_bodies ++ r_bodies) 0 f.variables.z_fine (omega arith) r_rest.started r_rest.is

  abbrev end : ℕ
  end = size (resting with_z cdr room whole)

  end_is : end ≡ (heads d).end
  end_is = resting_size with_z cdr room whole ∙ past_parts (as_bodies ++ r_bodies) z_bodies ∙ ap₂ (λ (p : ℕ) (xs : List (List ℕ)). p + laid_size xs) z_from_is z_are

  first_link : {A : Type 0} (place : ℕ) (xs : List A) → first_of 0 place xs ≡ link_if place xs
  first_link place [] = refl
  first_link place (x ∷ xs) = refl

  heads_are : (h : Heads) → (h.r ≡ with_z.r) → (h.z ≡ with_z.z) → (h.attributes ≡ with_z.attributes) → (h.end ≡ end) → (h.r_max_rec ≡ max_rec_code with_z.extent) → h ≡ heads d
  heads_are h r z a e m =
      let r' = r ∙ first_link r_from d.r_variables ∙ ap (λ (p : ℕ). link_if p d.r_variables) r_from_is in
      let z' = z ∙ first_link z_from d.z_variables ∙ ap (λ (p : ℕ). link_if p d.z_variables) z_from_is in
      let a' = a ∙ first_link (end_of cdr room []) d.attributes ∙ ap (λ (p : ℕ). link_if p d.attributes) first_place_is in
      let e' = e ∙ end_is in
      let m' = m ∙ code_is (fold max 0 (map (λ v. extent v.max_rec) d.r_variables)) (extents_small 0 d.r_variables f.variables.r_fine (omega arith)) in
      λ i. record { r = r' i; z = z' i; attributes = a' i; end = e' i; r_max_rec = m' i }

  gdr_is : gdr_made with_z end ≡ gdr_body d (heads d)
  unfolding gdr_body
  gdr_is = ap (λ (h : Heads). gdr_front (counts_of d) h ++ flat_map (big_bytes 4) d.rdims) (heads_are (record { r = with_z.r; z = with_z.z; attributes = with_z.attributes; end = end; r_max_rec = max_rec_code with_z.extent }) refl refl refl refl refl)

  abbrev ends : State
  ends = record (resting with_z cdr room whole) { gdr = gdr_made with_z end }

  ran : run (events_of d) ≡ ends
  ran =
      split_events (events.Head (head_of d)) (each attribute_events d.attributes) (each (variable_events R) d.r_variables) (each (variable_events Z) d.z_variables) (end_event d)
      ∙ started_step z_done (end_event d) z_rest.started
      ∙ ap ended z_rest.is

  records_are : records ends ≡ bodies d
  unfolding cdr_body
  records_are =
      append-nil (cdr ∷ gdr_made with_z end ∷ whole)
      ∙ ap (λ (g : List ℕ). cdr ∷ g ∷ whole) gdr_is
      ∙ ap₂ (λ (xs ys : List (List ℕ)). cdr ∷ gdr_body d (heads d) ∷ (xs ++ ys ++ z_bodies)) as_are r_are
      ∙ ap (λ (zs : List (List ℕ)). cdr ∷ gdr_body d (heads d) ∷ (attributes_part d ++ r_part d ++ zs)) z_are

  pub events_make_bodies : records (run (events_of d)) ≡ bodies d
  events_make_bodies = ap records ran ∙ records_are

  pub events_make_image : image_of (run (events_of d)) ≡ compact d
  unfolding compact
  events_make_image = ap image_of ran ∙ ap (λ (xs : List (List ℕ)). magic ++ laid xs) records_are
