-- A name that is written as a field of a record: the field is filled with it and with bytes 0, and no other byte changes.
use Rattle.cdf_edits.proofs.Common.{Changed, Field, IsFilled, LiesIn, List, [], ap, arith, drop, drop-put_there, length, length-append, length-put, length-replicate, replicate, take_at, touched_field, with_name, ℕ, ◌++◌, ◌+◌, ◌-◌, ◌∙◌, ◌∷◌, ◌≡◌, ◌≤◌}
use Rattle.std.proofs.Common.{take}
use Rattle.cdf_edits.proofs.Frame.ChangedBytes.{changed_put}

module _ (b : List ℕ) (place : ℕ) (f : Field) (to : List ℕ) (lies : LiesIn b place f) (short : length to ≤ f.width) where
  abbrev written : List ℕ
  written = to ++ replicate (f.width - length to) 0

  as_wide : length written ≡ f.width
  as_wide = omega (arith, length-append to (replicate (f.width - length to) 0), length-replicate {A = ℕ} (f.width - length to) 0)

  pub name_filled : IsFilled (with_name b place f to) place f to
  unfolding with_name
  name_filled = ap (take f.width) (drop-put_there b written (place + f.place) (omega arith)) ∙ take_at written (drop (place + f.place + length written) b) f.width as_wide

  pub length-with_name : length (with_name b place f to) ≡ length b
  unfolding with_name
  length-with_name = let l = as_wide in length-put b (place + f.place) written (omega arith)

  pub name_changed : Changed b (with_name b place f to) (touched_field place f ∷ [])
  unfolding with_name
  name_changed = changed_put b place f.place f.width written as_wide lies
