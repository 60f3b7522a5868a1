-- Records of a variable were deleted, and MaxRec written: what that leaves, and that the last image follows the command.
use Rattle.cdf_vars.proofs.Common.{Answers, Bool, ByStep, Command, Done, Follows, Go, Good, IsVdr, Kind, Known, Knows, List, RecordOutOfRange, Refused, Some, Target, TooLarge, Variable, VariableShape, ap, arith, content, extent, gone, got-middle, image_limit, is_max_rec, last_fits, le-leb, length, map, max_rec_at, record_number_limit, refl, refused, room, shape, shapes_of, slice_get, sym, target_found, to_z-of_z, too_large, true, variable_at, variable_named, variable_of, variables_of, vdrs, with_sign, zero, suc, ℕ, ℤ, ◌++◌, ◌+◌, ◌-◌, ◌<◌, ◌∙◌, ◌∷◌, ◌≡◌, ◌≤◌}
use Rattle.std.proofs.Common.{w32}
use Rattle.std.specs.Int.{cast_signed, cast_unsigned}
use Rattle.cdf_model.specs.declared.kinds.Sparse.{Sparse}
use Rattle.cdf_model.specs.declared.kinds.Sparse.TheVariants.{NoRule, Pad, Previous}
use Rattle.std.proofs.lemmas.Int.{of_z-to_z, to_z_pos}
use Rattle.cdf_model.specs.RecordSteps.{last_number, without_records}
use Rattle.cdf_model.specs.VariableSteps.{with_variable}
use Rattle.cdf_model.specs.DataSet.{DataSet}
use Rattle.cdf_model.specs.declared.answer.Reply.TheVariants as replies
use Rattle.cdf_model.specs.declared.command.Command.TheVariants as commands
use Rattle.cdf_edits.specs.Commands.Room.{cut_room}
use Rattle.cdf_edits.specs.Index.Blocks.{is_sparse}
use Rattle.cdf_cuts.specs.Closing.{RecordsClosed, closed}
use Rattle.cdf_cuts.proofs.DeletedFollows as by
use Rattle.cdf_puts.specs.Going.{found_in}
use Rattle.cdf_puts.specs.Steps.{MaxRecRaised}
use Rattle.cdf_vars.proofs.PutRead.{names_set, places_on}
use Rattle.cdf_vars.proofs.VariableFound.{knows_now}
use Rattle.cdf_vars.proofs.VariableNames.{variables_are}
use Rattle.cdf_vars.specs.Puts.{IsTarget, MaxRecWrites}
use Rattle.cdf_vars.proofs.Common.{false, good_is_sound, got-map, inl, inr, le-ltb, lt-leb, lt-ltb, nat_le, nat_lt, room_of_variable, step, ◌||◌, ◌⊎◌}

-- ---- MaxRec, of so many records

pub last_ruled : (n : ℕ) → n ≤ 2147483647 → is_max_rec (cast_unsigned w32 (last_number n)) ≡ true
last_ruled zero le = refl
last_ruled (suc n) le = ap (λ x. is_max_rec (cast_unsigned w32 x)) (sym (to_z_pos w32 n (omega arith))) ∙ ap is_max_rec (of_z-to_z w32 n (omega arith)) ∙ rw (le-leb n record_number_limit (omega arith)) refl

pub last_back : (n : ℕ) → n ≤ 2147483647 → with_sign (cast_unsigned w32 (last_number n)) ≡ last_number n
last_back n le = to_z-of_z w32 (last_number n) (last_fits n (omega arith))

-- such a number that is passed on as 4 bytes
pub last_passed : {z : ℤ} (n : ℕ) → n ≤ 2147483647 → z ≡ last_number n → cast_signed w32 (cast_unsigned w32 z) ≡ last_number n
last_passed {z} n le is = ap (λ (y : ℤ). cast_signed w32 (cast_unsigned w32 y)) is ∙ to_z-of_z w32 (last_number n) (last_fits n (omega arith))

-- without records the name stays
pub name_stays : (rule : Sparse) (v : Variable) (first last : ℕ) → (without_records rule v first last).name ≡ v.name
name_stays NoRule v first last = refl
name_stays Pad v first last = refl
name_stays Previous v first last = refl

module _ {b : List ℕ} {t : Target} (good : Good b) (is : IsTarget b t) (free : (variable_at b t.form.place.vdr).sparse ≡ NoRule) {first last count : ℕ} (count_is : count ≡ extent (max_rec_at b t.form.place.vdr)) (order : first ≤ last) (has : last < count) (few : count ≤ 2147483648) where
  abbrev kind : Kind
  kind = t.id.kind

  abbrev vdr : ℕ
  vdr = t.form.place.vdr

  abbrev left : ℕ
  left = count - (last + 1 - first)

  abbrev own' : VariableShape
  own' = closed is.own first last

  own_free : (variable_of b is.own).sparse ≡ NoRule
  own_free = ap (λ (x : Variable). x.sparse) (sym is.variable_is) ∙ free

  own_count : count ≡ extent (max_rec_at b is.own.vdr)
  own_count = count_is ∙ ap (λ (k : ℕ). extent (max_rec_at b k)) (sym is.vdr_is)

  module _ {one : List ℕ} (x : RecordsClosed b one kind is.before is.own is.after first last) where
    pub one_good : Good one
    one_good = x.index.goes.good

    pub one_short : length one ≤ image_limit
    one_short = omega (arith, x.index.long, x.index.short)

    one_is : own'.vdr ≡ vdr
    one_is = x.index.goes.vdr_is ∙ is.vdr_is

    pub one_vdr : IsVdr one kind vdr
    one_vdr = record { before = is.before; own = own'; after = is.after; was = x.index.goes.among.was ∙ ap (λ (k : ℕ). is.before ++ record own' { vdr = k } ∷ is.after) one_is }

    pub one_places : (k : Kind) → vdrs (shapes_of (shape b) k) ≡ vdrs (shapes_of (shape one) k)
    one_places = places_on kind is.among.was x.index.goes

    module _ {now : List ℕ} {r : ℕ} (r_is : r ≡ cast_unsigned w32 (last_number left)) (writes : MaxRecWrites one now kind vdr r) where
      low : MaxRecRaised one now kind own' r
      low = writes own' one_is

      ruled : is_max_rec r ≡ true
      ruled = ap is_max_rec r_is ∙ last_ruled left (omega arith)

      back : with_sign r ≡ last_number (extent (max_rec_at b is.own.vdr) - (last + 1 - first))
      back = ap with_sign r_is ∙ last_back left (omega arith) ∙ ap (λ (n : ℕ). last_number (n - (last + 1 - first))) own_count

      here : last < extent (max_rec_at b is.own.vdr)
      here = omega (arith, own_count, has)

      found_same : target_found b t ≡ found_in b kind is.before is.own
      found_same = let n = is.number_is in let v = is.variable_is in λ i. record { kind = kind; number = sym n i; variable = v i }

      pub deleted : (name : List ℕ) → variable_named (content b) name ≡ Some (target_found b t) → Follows b (commands.DelRecs name first last) now
      deleted name named = by.deleted_follows good is.among own_free order here x low ruled back name (named ∙ ap Some found_same)

      pub known_then : {known : Known} → Knows b known → Knows now known
      known_then knows =
          let goes = by.goes good is.among own_free order here x low ruled back in
          let v = variable_of b is.own in
          let stands : slice_get (shapes_of (shape b) kind) (length is.before) ≡ Some is.own = ap (λ (vs : List VariableShape). slice_get vs (length is.before)) is.among.was ∙ got-middle is.before is.own is.after in
          let was = ap (λ (vs : List Variable). slice_get vs (length is.before)) (variables_are b (shape b) (good_is_sound b good).has_shape kind) ∙ got-map (variable_of b) (shapes_of (shape b) kind) (length is.before) is.own stands in
          let made = by.deleted_content good is.among own_free order here x low ruled back in
          knows_now knows (λ (k : Kind). names_set (content b) kind (length is.before) (without_records v.sparse v first last) v was (name_stays v.sparse v first last) k ∙ ap (λ (d : DataSet). map (λ (w : Variable). w.name) (variables_of d k)) (sym made))
          (places_on kind is.among.was goes)

-- ---- whether there is a rule

pub free_of : (rule : Sparse) → is_sparse rule ≡ false → rule ≡ NoRule
free_of NoRule e = refl
free_of Pad e = absurd cc
free_of Previous e = absurd cc

-- ---- the answers

or_right : (p : Bool) → (p || true) ≡ true
or_right true = refl
or_right false = refl

module _ {b : List ℕ} {t : Target} (good : Good b) (is : IsTarget b t) (name : List ℕ) (named : variable_named (content b) name ≡ Some (target_found b t)) (first last : ℕ) {count : ℕ} (count_is : count ≡ extent (max_rec_at b t.form.place.vdr)) (limit : ℕ) where
  abbrev v : Variable
  v = variable_at b t.form.place.vdr

  abbrev c : Command
  c = commands.DelRecs name first last

  out : (last < first) ⊎ (count ≤ last) → (nat_lt last first || nat_le (extent v.max_rec) last) ≡ true
  out (inl lt) = rw (lt-ltb last first lt) refl
  out (inr le) = rw (le-leb (extent v.max_rec) last (omega (arith, count_is, le))) (or_right (nat_lt last first))

  -- the records are not there
  pub out_of_range : (last < first) ⊎ (count ≤ last) → Answers limit b c (Refused RecordOutOfRange) b
  out_of_range side = refused limit b c RecordOutOfRange (rw (named, out side) refl)

  module _ (order : first ≤ last) (has : last < count) {need : ℕ} (need_is : need ≡ cut_room (variable_of b is.own) is.own.index first last) where
    steps_to : step (content b) c ≡ ByStep (Go (with_variable (content b) (target_found b t) (without_records v.sparse v first last)) replies.Plain)
    steps_to = rw (named, le-ltb last first order, lt-leb (extent v.max_rec) last (omega (arith, count_is, has))) refl

    there : slice_get (shapes_of (shape b) t.id.kind) t.id.num ≡ Some is.own
    there = ap (slice_get (shapes_of (shape b) t.id.kind)) (sym is.number_is) ∙ ap (λ (vs : List VariableShape). slice_get vs (length is.before)) is.among.was ∙ got-middle is.before is.own is.after

    room_is : room b c ≡ need
    room_is = let one = is.variable_is in rw (room_of_variable, named, there) (λ i. cut_room (one i) is.own.index first last) ∙ sym need_is

    pub has_room : {now : List ℕ} → length b + need ≤ limit → Follows b c now → Answers limit b c (Done replies.Plain) now
    has_room {now} fits follows = gone limit b c (with_variable (content b) (target_found b t) (without_records v.sparse v first last)) replies.Plain now steps_to (rw room_is fits) follows

    pub has_none : limit < length b + need → Answers limit b c (Refused TooLarge) b
    has_none over = too_large limit b c (with_variable (content b) (target_found b t) (without_records v.sparse v first last)) replies.Plain steps_to (rw room_is over)

-- what is left below a limit is room
pub room_left : {size long limit most need : ℕ} → size ≡ long → limit ≡ most → need ≤ limit - size → long ≤ most → long + need ≤ most
room_left size_is limit_is fits le = omega (arith, size_is, limit_is, fits, le)
