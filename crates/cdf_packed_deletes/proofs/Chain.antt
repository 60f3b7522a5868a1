-- Leaves of a packed variable are given what they keep, one after the other: the steps so far, and one more.
use Rattle.std.proofs.Common.{Bool, List, [], ap, append-nil, arith, inl, inr, length, refl, subst, sym, true, ℕ, ◌*◌, ◌+◌, ◌-◌, ◌∙◌, ◌∷◌, ◌≡◌, ◌≤◌, ◌++◌, ◌==◌}
use Rattle.std.specs.List.{flat_map}
use Rattle.cdf_edits.proofs.Common.{Act, ActsFollow, Found, Gave, Good, Kind, Leaf, Range, Took, Variable, VariableShape, either, eq-eqb, image_limit, leaves_of, number, r_max_rec, record_bytes, record_number_limit, records_of_leaf, size_at, variable_of, vdr_max_rec}
use Rattle.cdf_edits.proofs.Edits.Common.{StandsAmong}
use Rattle.cdf_edits.proofs.Edits.LeafPieces.{IsOneOf, times_le}
use Rattle.cdf_edits.proofs.Edits.LeafRecords.{count_is}
use Rattle.cdf_edits.specs.Commands.Deleting.{untouched}
use Rattle.cdf_edits.specs.Commands.PutSteps.{BlockWritten, Goes, Stage}
use Rattle.cdf_edits.specs.Index.Blocks.{record_length}
use Rattle.cdf_edits.specs.Index.Written.{block_need, stays_put}
use Rattle.cdf_edits.specs.Space.Acts.{OnlyTakes}
use Rattle.cdf_cuts.proofs.Flat.{flat_map-append}
use Rattle.cdf_cuts.specs.Past.{stage}
use Rattle.cdf_put_steps.specs.Along.{GoAlong}
use Rattle.cdf_puts.proofs.GoesThen.{later_size}
use Rattle.cdf_puts.proofs.PutRoom.{longer_by, longer_moved, taken_sum}
use Rattle.cdf_puts.specs.Going.{GoesOn, found_in}
use Rattle.cdf_puts.specs.SoFar.{taken_bytes}
use Rattle.cdf_packed_deletes.proofs.KeptLists.{leaf_room, room_last}
use Rattle.cdf_packed_deletes.proofs.Parts.{begun, bytes_alike, counted}
use Rattle.cdf_packed_deletes.specs.Closing.{keeping_room}
use Rattle.cdf_packed_deletes.specs.Keeping.{IsCutIn, PartsLeft}
use Rattle.cdf_packed_deletes.specs.Steps.{KeepSome, KeepsSome, parts_kept}

-- ---- lists of steps

module _ (found : Found) (closes : Bool) (first last : ℕ) where
  pub keep_more : (ls : List Leaf) (from : Stage) (stages : List Stage) (mid : Stage) (old : Leaf) (to : Stage) → KeepSome found closes first last ls from stages mid → KeepsSome found closes first last old mid to → KeepSome found closes first last (ls ++ old ∷ []) from (stages ++ to ∷ []) to
  keep_more [] from [] mid old to e k = (subst (λ (s : Stage). KeepsSome found closes first last old s to) (sym e) k, refl)
  keep_more [] from (next ∷ more) mid old to e k = absurd e
  keep_more (l ∷ ls) from [] mid old to e k = absurd e
  keep_more (l ∷ ls) from (next ∷ more) mid old to h k = (h.0, keep_more ls next more mid old to h.1 k)

  pub go_more : (kind : Kind) (before after : List VariableShape) (ls : List Leaf) (from : Stage) (stages : List Stage) (mid to : Stage) → KeepSome found closes first last ls from stages mid → GoAlong kind before after from stages → GoesOn mid.image to.image kind before mid.own to.own after to.acts → GoAlong kind before after from (stages ++ to ∷ [])
  go_more kind before after [] from [] mid to e go one = (subst (λ (s : Stage). GoesOn s.image to.image kind before s.own to.own after to.acts) (sym e) one, tt)
  go_more kind before after [] from (next ∷ more) mid to e go one = absurd e
  go_more kind before after (l ∷ ls) from [] mid to e go one = absurd e
  go_more kind before after (l ∷ ls) from (next ∷ more) mid to h go one = (go.0, go_more kind before after ls next more mid to h.1 go.1 one)

pub acts_more : (stages : List Stage) (to : Stage) → taken_bytes (flat_map (λ (s : Stage). s.acts) (stages ++ to ∷ [])) ≡ taken_bytes (flat_map (λ (s : Stage). s.acts) stages) + taken_bytes to.acts
acts_more stages to = ap taken_bytes (flat_map-append (λ (s : Stage). s.acts) stages (to ∷ []) ∙ ap (λ (xs : List Act). flat_map (λ (s : Stage). s.acts) stages ++ xs) (append-nil to.acts)) ∙ taken_sum (flat_map (λ (s : Stage). s.acts) stages) to.acts

moved_bytes : (place need old size : ℕ) → taken_bytes (Took place need ∷ Gave old size ∷ []) ≡ need
moved_bytes place need old size = omega arith

-- ---- one step

-- all else stays, also where the variable is told of otherwise and more was taken and freed before
pub goes_as : {b now : List ℕ} {kind : Kind} {n : ℕ} {v w : Variable} {own own' : VariableShape} {acts done : List Act} {next to : ℕ} {from : Stage} {changes : Range → Bool} → from.image ≡ b → from.own ≡ own → Goes (record { kind = kind; number = n; variable = v }) (stage b own done next) (stage now own' acts to) changes → (to' : ℕ)
    → Goes (record { kind = kind; number = n; variable = w }) from (stage now own' acts to') changes
goes_as {b = b} {now = now} {kind = kind} {n = n} {v = v} {w = w} {own' = own'} {acts = acts} {done = done} {next = next} {to = to} {from = from} {changes = changes} image_is own_is g to' =
    by (subst (λ (x : List ℕ). Goes (record { kind = kind; number = n; variable = v }) (stage x from.own done next) (stage now own' acts to) changes) (sym image_is)
    (subst (λ (x : VariableShape). Goes (record { kind = kind; number = n; variable = v }) (stage b x done next) (stage now own' acts to) changes) (sym own_is) g))
  where
    by : Goes (record { kind = kind; number = n; variable = v }) (stage from.image from.own done next) (stage now own' acts to) changes → Goes (record { kind = kind; number = n; variable = w }) from (stage now own' acts to') changes
    by h = record { good = h.good; stands = h.stands; acts_follow = h.acts_follow; keeps = h.keeps; unused = h.unused; spare = h.spare; tail = h.tail; freed = h.freed }

module _ {b now : List ℕ} {kind : Kind} {before : List VariableShape} {own : VariableShape} {after : List VariableShape} {old : Leaf} {first last : ℕ} (order : first ≤ last) (one : IsOneOf (leaves_of own.index) old) (cut : IsCutIn first last old) (p : PartsLeft b now kind before own after old first last) where
  abbrev pub to_stage : ℕ → Stage
  to_stage next = record { image = now; own = p.short.own'; acts = p.short.acts; next = next }

  pub keeps_some_step : (v : Variable) → record_bytes b own.vdr ≡ record_length v → (done : List Act) (next : ℕ) → KeepsSome (record { kind = kind; number = length before; variable = v }) true first last old (stage b own done next) (to_stage next)
  keeps_some_step v size done next = record {
    new = p.new;
    one = one;
    first_is = begun first last order old cut ∙ ap (λ (n : ℕ). n ∷ []) (sym p.first_is);
    last_is = p.last_is ∙ ap (λ (n : ℕ). p.new.first + n) (sym (counted first last order old cut));
    index_is = p.short.index_is;
    acts_are = p.short.acts_are;
    place_is = p.short.place_is;
    written = subst (BlockWritten b now true own.vdr p.short.acts p.new) (p.plain_is ∙ bytes_alike b (variable_of b own) v own.vdr old (parts_kept true first last old) size) p.short.written;
    goes = goes_as refl refl (p.short.goes (λ (r : Range). r.first == old.first) (eq-eqb old.first old.first refl) done next next) next;
    next_is = refl;
  }

  -- ---- what it takes

  module _ (ordered : old.first ≤ old.last) (small : old.last ≤ record_number_limit) where
    abbrev size : ℕ
    size = record_bytes b own.vdr

    abbrev need : ℕ
    need = block_need now own.vdr p.new

    need_most : need ≤ leaf_room size old
    need_most =
        let r = cut.reaches in
        let s = cut.begins in
        let e = p.last_is in
        let most = times_le (p.new.last + 1 - p.new.first) (old.last + 1 - old.first) size (omega (arith, e, r, s, order, ordered)) in
        let count : records_of_leaf old * size ≡ (old.last + 1 - old.first) * size = ap (λ (n : ℕ). n * size) (count_is old small ordered) in
        let needs = p.short.needs in
        let long = p.long in
        omega (arith, needs, long, most, count)

    still : p.short.acts ≡ [] → (taken_bytes p.short.acts ≤ leaf_room size old) × (length now ≤ length b + leaf_room size old)
    still none =
        let longer = longer_by b now p.short.acts p.short.goes_on.follow (subst OnlyTakes (sym none) tt) in
        let bytes : taken_bytes p.short.acts ≡ 0 = ap taken_bytes none in
        (omega (arith, bytes), omega (arith, longer, bytes))

    moved : p.short.acts ≡ Took p.new.place need ∷ Gave old.place (size_at b old.place) ∷ [] → (taken_bytes p.short.acts ≤ leaf_room size old) × (length now ≤ length b + leaf_room size old)
    moved e =
        let longer = longer_moved b now p.new.place need old.place (size_at b old.place) (subst (ActsFollow b now) e p.short.goes_on.follow) in
        let bytes : taken_bytes p.short.acts ≡ need = ap taken_bytes e ∙ moved_bytes p.new.place need old.place (size_at b old.place) in
        let most = need_most in
        (omega (arith, bytes, most), omega (arith, longer, most))

    pub step_bytes : (taken_bytes p.short.acts ≤ leaf_room size old) × (length now ≤ length b + leaf_room size old)
    step_bytes = elim (either (stays_put b now true own.vdr old p.new)) [
      | inl t ↦ still (p.short.acts_are ∙ (rw t refl))
      | inr t ↦ moved (p.short.acts_are ∙ (rw t refl))
    ]

-- ---- several steps

-- these leaves were given what they keep, and the variable is this one by then
pub record Chain (b now : List ℕ) (kind : Kind) (before : List VariableShape) (own end : VariableShape) (after : List VariableShape) (first last : ℕ) (leaves : List Leaf) : Type 0 where
  pub stages : List Stage
  pub kept : Stage
  pub image_is : kept.image ≡ now
  pub own_is : kept.own ≡ end
  pub keep : KeepSome (found_in b kind before own) true first last leaves (untouched b own) stages kept
  pub takes : taken_bytes (flat_map (λ (s : Stage). s.acts) stages) ≤ keeping_room (record_bytes b own.vdr) leaves
  pub go : GoAlong kind before after (untouched b own) stages
  pub good : Good now
  pub among : StandsAmong now kind before end after
  pub vdr_is : end.vdr ≡ own.vdr
  pub small : length now ≤ image_limit
  pub size_is : record_bytes now end.vdr ≡ record_bytes b own.vdr
  pub max_rec_is : number now own.vdr vdr_max_rec ≡ number b own.vdr vdr_max_rec
  pub r_max_rec_is : r_max_rec now ≡ r_max_rec b

module _ {b : List ℕ} {kind : Kind} {before : List VariableShape} {own : VariableShape} {after : List VariableShape} (first last : ℕ) (order : first ≤ last) where
  pub chain_none : Good b → StandsAmong b kind before own after → length b ≤ image_limit → Chain b b kind before own own after first last []
  chain_none good at short = record {
    stages = [];
    kept = untouched b own;
    image_is = refl;
    own_is = refl;
    keep = refl;
    takes = omega arith;
    go = tt;
    good = good;
    among = at;
    vdr_is = refl;
    small = short;
    size_is = refl;
    max_rec_is = refl;
    r_max_rec_is = refl;
  }

  pub chain_more : {mid now : List ℕ} {end : VariableShape} (ls : List Leaf) → Chain b mid kind before own end after first last ls → (old : Leaf) → IsOneOf (leaves_of end.index) old → IsCutIn first last old → old.first ≤ old.last → old.last ≤ record_number_limit → (p : PartsLeft mid now kind before end after old first last) → Chain b now kind before own p.short.own' after first last (ls ++ old ∷ [])
  chain_more {mid = mid} {now = now} {end = end} ls c old one cut ordered small p =
      let to = to_stage order one cut p c.kept.next in
      let found = found_in b kind before own in
      let stage_is : stage mid end c.kept.acts c.kept.next ≡ c.kept = λ i. record { image = sym c.image_is i; own = sym c.own_is i; acts = c.kept.acts; next = c.kept.next } in
      let step : KeepsSome found true first last old c.kept to = subst (λ (s : Stage). KeepsSome found true first last old s to) stage_is (keeps_some_step order one cut p (variable_of b own) c.size_is c.kept.acts c.kept.next) in
      let one_on = p.short.goes_on in
      let goes_on : GoesOn c.kept.image now kind before c.kept.own p.short.own' after p.short.acts = subst (λ (s : Stage). GoesOn s.image now kind before s.own p.short.own' after p.short.acts) stage_is one_on in
      let bytes = (step_bytes order one cut p ordered small).0 in
      let room : leaf_room (record_bytes mid end.vdr) old ≡ leaf_room (record_bytes b own.vdr) old = ap (λ (n : ℕ). leaf_room n old) c.size_is in
      let last_room = room_last (record_bytes b own.vdr) ls old in
      let takes = c.takes in
      record {
        stages = c.stages ++ to ∷ [];
        kept = to;
        image_is = refl;
        own_is = refl;
        keep = keep_more found true first last ls (untouched b own) c.stages c.kept old to c.keep step;
        takes = omega (arith, acts_more c.stages to, takes, bytes, room, last_room);
        go = go_more found true first last kind before after ls (untouched b own) c.stages c.kept to c.keep c.go goes_on;
        good = one_on.good;
        among = one_on.among;
        vdr_is = one_on.vdr_is ∙ c.vdr_is;
        small = p.short.small;
        size_is = later_size c.good c.among one_on ∙ c.size_is;
        max_rec_is = subst (λ (vdr : ℕ). number now vdr vdr_max_rec ≡ number mid vdr vdr_max_rec) c.vdr_is p.short.max_rec_is ∙ c.max_rec_is;
        r_max_rec_is = p.short.r_max_rec_is ∙ c.r_max_rec_is;
      }
