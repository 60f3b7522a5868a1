-- Records are deleted under a rule for missing records: the images before MaxRec is written, and what is said of the last one, in which MaxRec is another one or stays.
use Rattle.cdf_cuts.proofs.Common.{List, [], arith, inl, inr, length, subst, suc, sym, true, zero, ℕ, ◌*◌, ◌+◌, ◌-◌, ◌<◌, ◌≡◌, ◌≤◌}
use Rattle.std.specs.Prelude.{max}
use Rattle.cdf_edits.proofs.Common.{Act, Good, Kind, VariableShape, extent, image_limit, is_sparse, last_number, max_rec_at, shape, taken, tile_lies, variable_of}
use Rattle.cdf_edits.proofs.Edits.ActsThen.{taken-gave}
use Rattle.cdf_edits.proofs.Edits.Common.{OnlyTakes, StandsAmong, long, sound, tile}
use Rattle.cdf_edits.proofs.Edits.RecordsWritten.{WritesRecords}
use Rattle.cdf_edits.specs.Commands.GreatestRecord.{RMaxRecFollows}
use Rattle.cdf_edits.specs.Index.Blocks.{extent_after}
use Rattle.cdf_edits.specs.Index.Grown.{new_room}
use Rattle.cdf_format.proofs.GoodHead.{image_fits}
use Rattle.cdf_format.proofs.ImageOf.{image_of-sealed}
use Rattle.cdf_format.specs.Records.{linked_size, vvr_bytes}
use Rattle.cdf_format.specs.Sealed.{sealed}
use Rattle.cdf_format.specs.VariableFields.{record_bytes}
use Rattle.cdf_index.specs.Adding.{leaf_acts}
use Rattle.cdf_cuts.specs.Past.{CutPast, cut_off, past_acts, past_span}
use Rattle.cdf_cuts.specs.Planning.{freed_of, plan_of}
use Rattle.cdf_sparse.proofs.CutTwice.{CutTwice}
use Rattle.cdf_sparse.specs.Opening.{RecordsOpened, index_opened}

pub record TwiceLeft (b mid left : List ℕ) (kind : Kind) (before : List VariableShape) (own own' : VariableShape) (after : List VariableShape) (first last : ℕ) (takes : List Act) : Type 0 where
  pub good : Good b
  pub among : StandsAmong b kind before own after
  pub rule : is_sparse (variable_of b own).sparse ≡ true
  pub order : first ≤ last
  pub has : last < extent (max_rec_at b own.vdr)
  pub opened : RecordsOpened b mid kind before own own' after first last takes
  pub past : CutPast mid left kind before own' (cut_off own' (extent_after (variable_of b own) first last)) after (extent_after (variable_of b own) first last)

pub left_twice : {b mid left now : List ℕ} {kind : Kind} {before : List VariableShape} {own own' : VariableShape} {after : List VariableShape} {first last : ℕ} {takes : List Act} {r : ℕ} → CutTwice b mid left now kind before own own' after first last takes r → TwiceLeft b mid left kind before own own' after first last takes
left_twice t = record { good = t.good; among = t.among; rule = t.rule; order = t.order; has = t.has; opened = t.opened; past = t.past }

-- MaxRec and rMaxRec of the last image
pub record TwiceEnds (b left now : List ℕ) (kind : Kind) (rest : VariableShape) (end : ℕ) : Type 0 where
  pub writes : WritesRecords left now kind rest []
  pub max_rec_is : max_rec_at now rest.vdr ≡ last_number end
  pub r_max_rec_is : RMaxRecFollows b now

-- ---- before MaxRec is written

-- what is taken for a leaf more is taken, and nothing is freed
pub leaf_takes : (place need room at : ℕ) → OnlyTakes (leaf_acts place need room at)
leaf_takes place need zero at = tt
leaf_takes place need (suc room) at = tt

-- an image is no longer than an image may be
pub image_short : {b : List ℕ} {kind : Kind} {before : List VariableShape} {own : VariableShape} {after : List VariableShape} → Good b → StandsAmong b kind before own after → length b ≤ image_limit
image_short {b = b} {own = own} good at =
    let n = long good at in
    let high = (tile_lies b 8 (length b) (shape b).records own.vdr (sound good at).has_shape.tiled (tile good at)).high in
    let enough : 44 ≤ length b = omega (arith, n, high) in
    subst (λ (x : List ℕ). length x ≤ image_limit) (image_of-sealed b enough) (image_fits (sealed b) good)

module _ {b mid left : List ℕ} {kind : Kind} {before : List VariableShape} {own own' : VariableShape} {after : List VariableShape} {first last : ℕ} {takes : List Act} (t : TwiceLeft b mid left kind before own own' after first last takes) where
  -- behind what it frees, the open cut takes
  pub takes_alone : OnlyTakes takes
  takes_alone = elim t.opened.divided [
    | inl n ↦ subst OnlyTakes (sym n.takes_are) tt
    | inr o ↦ subst OnlyTakes (sym o.takes_are) (leaf_takes o.place (max linked_size (vvr_bytes ((o.old.last - last) * record_bytes b own.vdr))) (new_room (last + 1) (index_opened own first last)) o.at)
  ]

  -- the cut past the new MaxRec takes nothing
  pub past_takes_none : taken (past_acts mid own' (extent_after (variable_of b own) first last)) ≡ []
  past_takes_none = taken-gave mid (freed_of (plan_of (past_span (extent_after (variable_of b own) first last)) 0 own'.index))

  pub left_short : length left ≤ image_limit
  left_short = image_short t.past.goes_on.good t.past.goes_on.among
