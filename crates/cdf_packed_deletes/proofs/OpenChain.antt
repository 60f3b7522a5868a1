-- Leaves of a packed variable are given what they keep, one after the other, where later records keep their numbers: the steps so far, and one more.
use Rattle.std.proofs.Common.{List, [], ap, arith, false, inl, inr, length, map, refl, take, subst, sym, true, ℕ, ◌*◌, ◌+◌, ◌-◌, ◌∙◌, ◌∷◌, ◌≡◌, ◌≤◌, ◌++◌, ◌==◌}
use Rattle.std.specs.List.{flat_map}
use Rattle.cdf_edits.proofs.Common.{Act, ActsFollow, Gave, Good, Kind, Leaf, Range, Took, Variable, VariableShape, either, eq-eqb, image_limit, leaves_of, number, r_max_rec, record_bytes, record_number_limit, size_at, variable_of, vdr_max_rec}
use Rattle.cdf_edits.proofs.Edits.Common.{StandsAmong}
use Rattle.cdf_edits.proofs.Edits.LeafPieces.{IsOneOf}
use Rattle.cdf_edits.specs.Commands.Deleting.{untouched}
use Rattle.cdf_edits.specs.Commands.PutSteps.{BlockWritten, Stage}
use Rattle.cdf_edits.specs.Index.Blocks.{record_length}
use Rattle.cdf_edits.specs.Index.Written.{block_need, stays_put}
use Rattle.cdf_edits.specs.Space.Acts.{OnlyTakes}
use Rattle.cdf_cuts.specs.Past.{stage}
use Rattle.cdf_put_steps.specs.Along.{GoAlong}
use Rattle.cdf_puts.proofs.GoesThen.{later_size}
use Rattle.cdf_puts.proofs.PutRoom.{longer_by, longer_moved}
use Rattle.cdf_puts.specs.Going.{GoesOn, found_in}
use Rattle.cdf_puts.specs.SoFar.{taken_bytes}
use Rattle.cdf_packed_deletes.proofs.Chain.{acts_more, go_more, goes_as, keep_more}
use Rattle.cdf_packed_deletes.proofs.OpenLists.{room_last}
use Rattle.cdf_packed_deletes.proofs.OpenParts.{open_count, open_is, open_lies}
use Rattle.cdf_packed_deletes.proofs.Parts.{bytes_alike}
use Rattle.cdf_packed_deletes.specs.Opening.{kept_room, keeping_open_room}
use Rattle.cdf_packed_deletes.specs.Keeping.{IsCutIn}
use Rattle.cdf_packed_deletes.specs.OpenKeeping.{PartOpened}
use Rattle.cdf_packed_deletes.specs.Steps.{KeepSome, KeepsSome, count_of, parts_kept}

moved_bytes : (place need old size : ℕ) → taken_bytes (Took place need ∷ Gave old size ∷ []) ≡ need
moved_bytes place need old size = omega arith

-- ---- one step

module _ {b now : List ℕ} {kind : Kind} {before : List VariableShape} {own : VariableShape} {after : List VariableShape} {old : Leaf} {first last : ℕ} (order : first ≤ last) (one : IsOneOf (leaves_of own.index) old) (cut : IsCutIn first last old) (p : PartOpened b now kind before own after old first last) where
  abbrev pub to_stage : ℕ → Stage
  to_stage next = record { image = now; own = p.short.own'; acts = p.short.acts; next = next }

  ends : p.new.last + 1 ≡ p.new.first + count_of (parts_kept false first last old)
  ends =
      let f = p.first_is in
      let e = p.last_is in
      let count = open_count first last order old cut in
      let lies = (open_lies first last order old cut).ordered in
      omega (arith, f, e, count, lies)

  pub keeps_some_step : (v : Variable) → record_bytes b own.vdr ≡ record_length v → (done : List Act) (next : ℕ) → KeepsSome (record { kind = kind; number = length before; variable = v }) false first last old (stage b own done next) (to_stage next)
  keeps_some_step v size done next = record {
    new = p.new;
    one = one;
    first_is = ap (λ (rs : List Range). map (λ (r : Range). r.first) (take 1 rs)) (open_is first last order old cut) ∙ ap (λ (n : ℕ). n ∷ []) (sym p.first_is);
    last_is = ends;
    index_is = p.short.index_is;
    acts_are = p.short.acts_are;
    place_is = p.short.place_is;
    written = subst (BlockWritten b now true own.vdr p.short.acts p.new) (p.plain_is ∙ bytes_alike b (variable_of b own) v own.vdr old (parts_kept false first last old) size) p.short.written;
    goes = goes_as refl refl (p.short.goes (λ (r : Range). r.first == old.first) (eq-eqb old.first old.first refl) done next next) next;
    next_is = refl;
  }

  -- ---- what it takes

  module _ (ordered : old.first ≤ old.last) (small : old.last ≤ record_number_limit) where
    abbrev size : ℕ
    size = record_bytes b own.vdr

    abbrev need : ℕ
    need = block_need now own.vdr p.new

    need_most : need ≤ kept_room size first last old
    need_most =
        let e = ends in
        let many : p.new.last + 1 - p.new.first ≡ count_of (parts_kept false first last old) = omega (arith, e) in
        let bytes : (p.new.last + 1 - p.new.first) * size ≡ count_of (parts_kept false first last old) * size = ap (λ (n : ℕ). n * size) many in
        let needs = p.short.needs in
        let long = p.long in
        omega (arith, needs, long, bytes)

    still : p.short.acts ≡ [] → (taken_bytes p.short.acts ≤ kept_room size first last old) × (length now ≤ length b + kept_room size first last old)
    still none =
        let longer = longer_by b now p.short.acts p.short.goes_on.follow (subst OnlyTakes (sym none) tt) in
        let bytes : taken_bytes p.short.acts ≡ 0 = ap taken_bytes none in
        (omega (arith, bytes), omega (arith, longer, bytes))

    moved : p.short.acts ≡ Took p.new.place need ∷ Gave old.place (size_at b old.place) ∷ [] → (taken_bytes p.short.acts ≤ kept_room size first last old) × (length now ≤ length b + kept_room size first last old)
    moved e =
        let longer = longer_moved b now p.new.place need old.place (size_at b old.place) (subst (ActsFollow b now) e p.short.goes_on.follow) in
        let bytes : taken_bytes p.short.acts ≡ need = ap taken_bytes e ∙ moved_bytes p.new.place need old.place (size_at b old.place) in
        let most = need_most in
        (omega (arith, bytes, most), omega (arith, longer, most))

    pub step_bytes : (taken_bytes p.short.acts ≤ kept_room size first last old) × (length now ≤ length b + kept_room size first last old)
    step_bytes = elim (either (stays_put b now true own.vdr old p.new)) [
      | inl t ↦ still (p.short.acts_are ∙ (rw t refl))
      | inr t ↦ moved (p.short.acts_are ∙ (rw t refl))
    ]

-- ---- several steps

-- these leaves were given what they keep, and the variable is this one by then
pub record OpenChain (b now : List ℕ) (kind : Kind) (before : List VariableShape) (own end : VariableShape) (after : List VariableShape) (first last : ℕ) (leaves : List Leaf) : Type 0 where
  pub stages : List Stage
  pub kept : Stage
  pub image_is : kept.image ≡ now
  pub own_is : kept.own ≡ end
  pub keep : KeepSome (found_in b kind before own) false first last leaves (untouched b own) stages kept
  pub takes : taken_bytes (flat_map (λ (s : Stage). s.acts) stages) ≤ keeping_open_room (record_bytes b own.vdr) first last leaves
  pub longer : length now ≤ length b + keeping_open_room (record_bytes b own.vdr) first last leaves
  pub go : GoAlong kind before after (untouched b own) stages
  pub good : Good now
  pub among : StandsAmong now kind before end after
  pub vdr_is : end.vdr ≡ own.vdr
  pub small : length now ≤ image_limit
  pub size_is : record_bytes now end.vdr ≡ record_bytes b own.vdr
  pub max_rec_is : number now own.vdr vdr_max_rec ≡ number b own.vdr vdr_max_rec
  pub r_max_rec_is : r_max_rec now ≡ r_max_rec b

module _ {b : List ℕ} {kind : Kind} {before : List VariableShape} {own : VariableShape} {after : List VariableShape} (first last : ℕ) (order : first ≤ last) where
  pub open_none : Good b → StandsAmong b kind before own after → length b ≤ image_limit → OpenChain b b kind before own own after first last []
  open_none good at short = record {
    stages = [];
    kept = untouched b own;
    image_is = refl;
    own_is = refl;
    keep = refl;
    takes = omega arith;
    longer = omega arith;
    go = tt;
    good = good;
    among = at;
    vdr_is = refl;
    small = short;
    size_is = refl;
    max_rec_is = refl;
    r_max_rec_is = refl;
  }

  pub open_more : {mid now : List ℕ} {end : VariableShape} (ls : List Leaf) → OpenChain b mid kind before own end after first last ls → (old : Leaf) → IsOneOf (leaves_of end.index) old → IsCutIn first last old → old.first ≤ old.last → old.last ≤ record_number_limit → (p : PartOpened mid now kind before end after old first last) → OpenChain b now kind before own p.short.own' after first last (ls ++ old ∷ [])
  open_more {mid = mid} {now = now} {end = end} ls c old one cut ordered small p =
      let to = to_stage order one cut p c.kept.next in
      let found = found_in b kind before own in
      let stage_is : stage mid end c.kept.acts c.kept.next ≡ c.kept = λ i. record { image = sym c.image_is i; own = sym c.own_is i; acts = c.kept.acts; next = c.kept.next } in
      let step : KeepsSome found false first last old c.kept to = subst (λ (s : Stage). KeepsSome found false first last old s to) stage_is (keeps_some_step order one cut p (variable_of b own) c.size_is c.kept.acts c.kept.next) in
      let one_on = p.short.goes_on in
      let goes_on : GoesOn c.kept.image now kind before c.kept.own p.short.own' after p.short.acts = subst (λ (s : Stage). GoesOn s.image now kind before s.own p.short.own' after p.short.acts) stage_is one_on in
      let bytes = (step_bytes order one cut p ordered small).0 in
      let room : kept_room (record_bytes mid end.vdr) first last old ≡ kept_room (record_bytes b own.vdr) first last old = ap (λ (n : ℕ). kept_room n first last old) c.size_is in
      let last_room = room_last (kept_room (record_bytes b own.vdr) first last) ls old in
      let takes = c.takes in
      let longer = c.longer in
      let grown = (step_bytes order one cut p ordered small).1 in
      record {
        stages = c.stages ++ to ∷ [];
        kept = to;
        image_is = refl;
        own_is = refl;
        keep = keep_more found false first last ls (untouched b own) c.stages c.kept old to c.keep step;
        takes = omega (arith, acts_more c.stages to, takes, bytes, room, last_room);
        longer = omega (arith, longer, grown, room, last_room);
        go = go_more found false first last kind before after ls (untouched b own) c.stages c.kept to c.keep c.go goes_on;
        good = one_on.good;
        among = one_on.among;
        vdr_is = one_on.vdr_is ∙ c.vdr_is;
        small = p.short.small;
        size_is = later_size c.good c.among one_on ∙ c.size_is;
        max_rec_is = subst (λ (vdr : ℕ). number now vdr vdr_max_rec ≡ number mid vdr vdr_max_rec) c.vdr_is p.short.max_rec_is ∙ c.max_rec_is;
        r_max_rec_is = p.short.r_max_rec_is ∙ c.r_max_rec_is;
      }
