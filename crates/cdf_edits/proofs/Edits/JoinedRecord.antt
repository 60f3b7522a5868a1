-- A record of a type was made and then linked: what commands that make a record for a chain come to, with the steps that follow.
use Rattle.cdf_edits.proofs.Common.{ActsFollow, AllKeep, Allowances, Edit, Fills, In, IsChain, IsSound, List, Mark, Same, Shape, Took, Unused, [], avoided, eof, fixed_size, gdr_uir_head, is_late, is_record_type, length, making_marks, number, owned_by, shape, size_at, subst, times, true, type_at, type_of_body, uir_type, unused_records, ℕ, ◌+◌, ◌∷◌, ◌≡◌, ◌≢◌, ◌≤◌}
use Rattle.cdf_edits.specs.Space.Placing.{Placed}
use Rattle.cdf_edits.proofs.Edits.EditActs.{acts_took}
use Rattle.cdf_edits.proofs.Edits.MadeRecord.{end_now, list_chain, made_edit, made_keeps_unused, made_once, made_part, made_size, made_type, made_typed, place_in, shorter}
use Rattle.cdf_edits.proofs.Edits.OwnedOnce.{used_times}

-- the bytes of it were written behind its size, and then came steps that leave them but for the link
pub record IsJoined (b now : List ℕ) (type need : ℕ) (body : List ℕ) (place : ℕ) (late : List Mark) : Type 0 where
  pub filled : List ℕ
  pub placed : Placed b filled body place
  pub typed : type_of_body body ≡ type
  pub wide : 8 + length body ≡ need
  pub later : Edit filled now (shape filled).records (shape filled).records late []
  pub long : length now ≡ length filled
  pub lately : is_late late type ≡ true

module _ {b now : List ℕ} {type need : ℕ} {body : List ℕ} {place : ℕ} {late : List Mark} (sound : IsSound b (shape b)) (j : IsJoined b now type need body place late) where
  abbrev pub records : List ℕ
  records = (shape j.filled).records

  abbrev pub list : List ℕ
  list = (shape j.filled).unused

  abbrev pub marks : List Mark
  marks = making_marks (shape b).unused place need late

  pub fills : Fills b j.placed.taken j.filled (shape b) records list need place type
  fills = subst (λ (n : ℕ). Fills b j.placed.taken j.filled (shape b) records list n place type) j.wide (subst (λ (t : ℕ). Fills b j.placed.taken j.filled (shape b) records list (8 + length body) place t) j.typed j.placed.fills)

  pub edit : Edit b now (shape b).records records marks (place ∷ [])
  edit = made_edit sound fills j.later j.long j.lately

  pub new_in : In place records
  new_in = place_in sound fills

  pub new_type : type_at now place ≡ type
  new_type = made_type sound fills j.later j.long j.lately

  pub new_size : size_at now place ≡ need
  new_size = made_size sound fills j.later j.long j.lately

  pub new_part : (lo hi : ℕ) → avoided late type lo hi ≡ true → hi ≤ need → Same j.filled now (place + lo) (place + hi)
  new_part = made_part sound fills j.later j.long j.lately

  pub new_typed : (m : ℕ) → In m (place ∷ []) → (is_record_type (type_at now m) ≡ true) × (fixed_size (type_at now m) ≤ size_at now m)
  new_typed = made_typed sound fills j.later j.long j.lately

  pub new_once : (s : Shape) (gone : ℕ) → used_times s place + gone ≡ used_times (shape b) place + times place (place ∷ []) → gone ≡ 0 → (m : ℕ) → In m (place ∷ []) → (type_at now m ≢ uir_type) × (used_times s m ≡ 1)
  new_once = made_once sound fills j.later j.long j.lately

  -- ---- the space

  pub unused_chain : IsChain now records uir_type (number now (shape b).gdr gdr_uir_head) list
  unused_chain = list_chain sound fills j.later j.long j.lately

  pub longest : length now ≤ length b + need
  longest = shorter sound fills j.later j.long j.lately

  pub ends : eof now (shape b).gdr ≡ length now
  ends = end_now sound fills j.later j.long j.lately

  pub acts_then : (shape now).records ≡ records → (shape now).unused ≡ list → ActsFollow b now (Took place need ∷ [])
  acts_then = acts_took sound fills j.later j.long j.lately

  pub unused_kept : (shape now).records ≡ records → (may : Allowances) → AllKeep b now may (Took place need ∷ []) (owned_by Unused (unused_records b (shape b)))
  unused_kept = made_keeps_unused sound fills j.later j.long j.lately
