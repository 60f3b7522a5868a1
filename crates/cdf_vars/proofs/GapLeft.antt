-- Records of a variable that has a rule for missing records were deleted: the images on the way are good, and the last one follows the command, where MaxRec is written or stays.
use Rattle.cdf_vars.proofs.Common.{DataSet, Follows, Good, IsTarget, IsVdr, Kind, Known, Knows, List, Some, Target, Variable, VariableShape, ap, arith, cases_lt, cast_unsigned, inl, inr, content, extent, good_is_sound, got-map, got-middle, image_limit, is_max_rec, length, map, max_rec_at, record_bytes, shape, shapes_of, slice_get, subst, sym, target_found, true, variable_at, variable_named, variable_of, variables_of, vdrs, with_sign, with_variable, ℕ, ◌+◌, ◌<◌, ◌∙◌, ◌≡◌, ◌≢◌, ◌≤◌, index_at, number, vdr_vxr_head, w32, false}
use Rattle.cdf_edits.specs.Commands.Room.{cut_room}
use Rattle.cdf_edits.specs.Index.Blocks.{extent_after, is_sparse}
use Rattle.cdf_edits.specs.Space.Acts.{Act}
use Rattle.cdf_model.specs.RecordSteps.{last_number, without_records}
use Rattle.cdf_model.specs.declared.command.Command.TheVariants as commands
use Rattle.cdf_puts.specs.Going.{GoesOn, found_in}
use Rattle.cdf_puts.specs.Steps.{MaxRecRaised}
use Rattle.cdf_cuts.specs.Past.{CutPast, cut_off}
use Rattle.cdf_sparse.proofs.CutTwice.{CutTwice}
use Rattle.cdf_sparse.proofs.OpeningWithin.{opening_within}
use Rattle.cdf_sparse.proofs.TwiceFollows.{falls_content, falls_follows, falls_goes, stays_content, stays_follows, stays_goes}
use Rattle.cdf_sparse.proofs.TwiceLeft.{TwiceLeft, image_short}
use Rattle.cdf_sparse.specs.Opening.{CutOpen, opening_room}
use Rattle.cdf_vars.proofs.PutRead.{index_there, names_set, places_on, vdr_on}
use Rattle.cdf_vars.proofs.RecordsDeleted.{last_back, last_ruled, name_stays}
use Rattle.cdf_vars.proofs.VariableFound.{knows_now}
use Rattle.cdf_vars.proofs.VariableNames.{variables_are}
use Rattle.cdf_vars.specs.Puts.{MaxRecWrites}
use Rattle.cdf_format.specs.Shape.{is_compressed}
use Rattle.cdf_puts.proofs.GoesThen.{later_loose}

-- what the open cut takes fits where the whole command does
pub opening_fits : {b : List ℕ} {t : Target} {limit rec_bytes first last : ℕ} (good : Good b) (is : IsTarget b t) → first ≤ last → rec_bytes ≡ record_bytes b t.form.place.vdr
    → length b + cut_room (variable_at b t.form.place.vdr) (index_at b (number b t.form.place.vdr vdr_vxr_head)) first last ≤ limit
    → length b + opening_room first last rec_bytes (index_at b (number b t.form.place.vdr vdr_vxr_head)) ≤ limit
opening_fits {b} {t} {limit} {rec_bytes} {first} {last} good is order size fits =
    let one = is.variable_is in
    let there = index_there good is in
    let own_size : rec_bytes ≡ record_bytes b is.own.vdr = size ∙ ap (record_bytes b) (sym is.vdr_is) in
    let within = opening_within b is.own first last order in
    let need : opening_room first last rec_bytes (index_at b (number b t.form.place.vdr vdr_vxr_head)) ≡ opening_room first last (record_bytes b is.own.vdr) is.own.index = λ i. opening_room first last (own_size i) (there i) in
    let has : cut_room (variable_at b t.form.place.vdr) (index_at b (number b t.form.place.vdr vdr_vxr_head)) first last ≡ cut_room (variable_of b is.own) is.own.index first last = λ i. cut_room (one i) (there i) first last in
    omega (arith, fits, within, need, has)

-- where MaxRec falls, it is a number that it may have
pub below : (end count : ℕ) → count ≤ 2147483648 → end ≤ count → end ≢ count → end ≤ 2147483647
below end count few fewer other = elim (cases_lt end count) [ inl lt ↦ omega (arith, lt, few) | inr le ↦ absurd (other (omega (arith, le, fewer))) ]

module _ {b : List ℕ} {t : Target} (good : Good b) (is : IsTarget b t) (rule : is_sparse (variable_at b t.form.place.vdr).sparse ≡ true) {first last count end : ℕ} (count_is : count ≡ extent (max_rec_at b t.form.place.vdr)) (order : first ≤ last) (has : last < count) (few : count ≤ 2147483648) (end_is : end ≡ extent_after (variable_at b t.form.place.vdr) first last) (fewer : end ≤ count) where
  abbrev kind : Kind
  kind = t.id.kind

  abbrev vdr : ℕ
  vdr = t.form.place.vdr

  abbrev v : Variable
  v = variable_of b is.own

  abbrev end' : ℕ
  end' = extent_after (variable_of b is.own) first last

  own_rule : is_sparse v.sparse ≡ true
  own_rule = ap (λ (x : Variable). is_sparse x.sparse) (sym is.variable_is) ∙ rule

  own_end : end ≡ end'
  own_end = end_is ∙ ap (λ (x : Variable). extent_after x first last) is.variable_is

  own_count : count ≡ extent (max_rec_at b is.own.vdr)
  own_count = count_is ∙ ap (λ (k : ℕ). extent (max_rec_at b k)) (sym is.vdr_is)

  found_same : target_found b t ≡ found_in b kind is.before is.own
  found_same = let n = is.number_is in let one = is.variable_is in λ i. record { kind = kind; number = sym n i; variable = one i }

  -- what is kept of the variables, where the content is that without the records
  knows_left : {now : List ℕ} {own' : VariableShape} {acts : List Act} → GoesOn b now kind is.before is.own own' is.after acts → content now ≡ with_variable (content b) (found_in b kind is.before is.own) (without_records v.sparse v first last) → {known : Known} → Knows b known → Knows now known
  knows_left goes made knows =
      let stands : slice_get (shapes_of (shape b) kind) (length is.before) ≡ Some is.own = ap (λ (vs : List VariableShape). slice_get vs (length is.before)) is.among.was ∙ got-middle is.before is.own is.after in
      let was = ap (λ (vs : List Variable). slice_get vs (length is.before)) (variables_are b (shape b) (good_is_sound b good).has_shape kind) ∙ got-map (variable_of b) (shapes_of (shape b) kind) (length is.before) is.own stands in
      knows_now knows (λ (k : Kind). names_set (content b) kind (length is.before) (without_records v.sparse v first last) v was (name_stays v.sparse v first last) k ∙ ap (λ (d : DataSet). map (λ (w : Variable). w.name) (variables_of d k)) (sym made))
      (places_on kind is.among.was goes)

  -- ---- the records are cut out

  module _ {mid : List ℕ} (x : CutOpen b mid kind is.before is.own is.after first last) where
    mid_is : x.own'.vdr ≡ vdr
    mid_is = x.opened.goes.vdr_is ∙ is.vdr_is

    pub mid_good : Good mid
    mid_good = x.opened.goes.good

    pub mid_short : length mid ≤ image_limit
    mid_short = image_short x.opened.goes.good x.opened.goes.among

    pub mid_unpacked : is_compressed mid vdr ≡ false
    mid_unpacked = ap (is_compressed mid) (sym mid_is) ∙ later_loose good is.among x.opened.goes x.opened.loose

    pub mid_vdr : IsVdr mid kind vdr
    mid_vdr = vdr_on kind is.vdr_is x.opened.goes

    -- ---- what is past the last one left goes

    module _ {left : List ℕ} (y : CutPast mid left kind is.before x.own' (cut_off x.own' end) is.after end) where
      abbrev rest : VariableShape
      rest = cut_off x.own' end'

      past : CutPast mid left kind is.before x.own' rest is.after end'
      past = subst (λ (n : ℕ). CutPast mid left kind is.before x.own' (cut_off x.own' n) is.after n) own_end y

      pub left_good : Good left
      left_good = past.goes_on.good

      pub left_short : length left ≤ image_limit
      left_short = image_short past.goes_on.good past.goes_on.among

      left_is : rest.vdr ≡ vdr
      left_is = past.goes_on.vdr_is ∙ mid_is

      pub left_vdr : IsVdr left kind vdr
      left_vdr = vdr_on kind mid_is past.goes_on

      pub left_places : (j : Kind) → vdrs (shapes_of (shape b) j) ≡ vdrs (shapes_of (shape left) j)
      left_places j = places_on kind is.among.was x.opened.goes j ∙ places_on kind x.opened.goes.among.was past.goes_on j

      twice : TwiceLeft b mid left kind is.before is.own x.own' is.after first last x.takes
      twice = record { good = good; among = is.among; rule = own_rule; order = order; has = omega (arith, own_count, has); opened = x.opened; past = past }

      -- ---- MaxRec stays

      module _ (same : end ≡ count) where
        same_own : extent (max_rec_at b is.own.vdr) ≡ end'
        same_own = sym own_count ∙ sym same ∙ own_end

        pub follows_same : (name : List ℕ) → variable_named (content b) name ≡ Some (target_found b t) → Follows b (commands.DelRecs name first last) left
        follows_same name named = stays_follows twice same_own name (named ∙ ap Some found_same)

        pub knows_same : {known : Known} → Knows b known → Knows left known
        knows_same = knows_left (stays_goes twice same_own) (stays_content twice same_own)

      -- ---- MaxRec falls

      module _ (other : end ≢ count) {now : List ℕ} {r : ℕ} (r_is : r ≡ cast_unsigned w32 (last_number end)) (writes : MaxRecWrites left now kind vdr r) where
        small : end ≤ 2147483647
        small = below end count few fewer other

        low : MaxRecRaised left now kind rest r
        low = writes rest left_is

        fallen : CutTwice b mid left now kind is.before is.own x.own' is.after first last x.takes r
        fallen = record {
          good = good;
          among = is.among;
          rule = own_rule;
          order = order;
          has = omega (arith, own_count, has);
          opened = x.opened;
          past = past;
          low = low;
          ruled = ap is_max_rec r_is ∙ last_ruled end small;
          r_is = ap with_sign r_is ∙ last_back end small ∙ ap last_number own_end;
        }

        other_own : extent (max_rec_at b is.own.vdr) ≢ end'
        other_own e = other (own_end ∙ sym e ∙ sym own_count)

        pub follows_other : (name : List ℕ) → variable_named (content b) name ≡ Some (target_found b t) → Follows b (commands.DelRecs name first last) now
        follows_other name named = falls_follows fallen other_own name (named ∙ ap Some found_same)

        pub knows_other : {known : Known} → Knows b known → Knows now known
        knows_other = knows_left (falls_goes fallen other_own) (falls_content fallen other_own)
