-- A put past MaxRec + 1 of a variable that has a rule for missing records: what is past MaxRec is cut first, then the record is put, and the last image follows the command.
use Rattle.cdf_vars.proofs.Common.{Command, Follows, Good, IsTarget, IsVdr, Kind, Known, Knows, List, MaxRecRaised, MaxRecRaises, NewRecord, PutsSo, PutsUpTo, Putting, Shape, SomePutting, Target, Variable, VariableShape, ap, arith, extent, first_written, image_limit, inl, inr, length, max_rec_at, most_in_block, nat_lt, raised_shape, record_bytes, refl, shape, shapes_of, subst, sym, true, variable_at, variable_of, variables, vdrs, with_sign, ℕ, ◌+◌, ◌<◌, ◌∙◌, ◌≡◌, ◌≤◌, ◌⊎◌, IsPut, Each, cases_lt, le-ltb, true≢false}
use Rattle.cdf_gaps.proofs.CutPutFollows.{content_then, put_rec_then, put_val_then}
use Rattle.cdf_gaps.proofs.CutThenPut.{CutThenPut}
use Rattle.cdf_gaps.proofs.PastStart as start
use Rattle.cdf_cuts.specs.Past.{CutPast, before_first, cut_off}
use Rattle.cdf_cuts.proofs.CutCalls.{index_is}
use Rattle.cdf_edits.specs.Commands.Room.{uncovered}
use Rattle.cdf_format.specs.Fields.{number}
use Rattle.cdf_format.specs.Records.{vdr_vxr_head}
use Rattle.cdf_gaps.proofs.PastIndex.{fewer_entries, no_wider}
use Rattle.cdf_index.specs.Finding.{index_at}
use Rattle.cdf_edits.proofs.Edits.RecordsWritten.{good_now}
use Rattle.cdf_puts.proofs.CoveringRanges.{covering_entries}
use Rattle.cdf_puts.proofs.RaisedGoes.{raise_writes}
use Rattle.cdf_puts.specs.TidyIndex.{IsTidy}
use Rattle.cdf_sparse.proofs.TidyStages.{cut_off_tidy}
use Rattle.cdf_trim.proofs.EndTop.{tops_stay}
use Rattle.cdf_trim.specs.Trimming.{KeepsBlocks}
use Rattle.cdf_var_records.specs.Room.{ExpectsPut}
use Rattle.cdf_format.specs.Index.{Nodes}
use Rattle.cdf_vars.proofs.Common.{None, Option, Some, StandsAmong, false}
use Rattle.cdf_vars.proofs.PutTidy.{put_is_tidy}
use Rattle.cdf_vars.specs.Puts.{HasTidyIndex}
use Rattle.std.proofs.Math.Path.{transport}
use Rattle.std.specs.Prelude.{IfSome}
use Rattle.cdf_format.proofs.Tests.{both}
use Rattle.cdf_edits.specs.Index.Blocks.{cuts_before_put, is_sparse}
use Rattle.cdf_puts.proofs.GoesThen.{later_size, later_loose}
use Rattle.cdf_puts.proofs.KnownStarts.{known_there, right_yet, starts_go_on}
use Rattle.cdf_puts.specs.SoFar.{MaxRecDone, TopStays}
use Rattle.cdf_puts.specs.Starts.{ExpectsEntries, InTopChain, IsForgotten, IsKnownOf, IsKnownStart, IsRightOf, KnowsStarts, known_of}
use Rattle.cdf_puts.specs.declared.starts.Starts.{Starts}
use Rattle.cdf_vars.proofs.PutRead.{WasRead, cuts_own, followed, form_vdr, index_there, knows_put, most_is, pad_is, pad_long, pad_stored, places_on, raw_is, raw_long, room_own, small, vdr_in, vdr_on}

module _ {b : List ℕ} {t : Target} {bytes : List ℕ} {put : NewRecord} {limit : ℕ} (k : WasRead b t put.rec bytes put limit false) {count : ℕ} (count_is : count ≡ extent (max_rec_at b t.form.place.vdr)) (cuts_at : cuts_before_put (variable_at b t.form.place.vdr) put.rec ≡ true) where
  abbrev kind : Kind
  kind = t.id.kind

  abbrev vdr : ℕ
  vdr = t.form.place.vdr

  abbrev is : IsTarget b t
  is = k.can.is

  abbrev v : Variable
  v = variable_of b is.own

  cuts : (is_sparse v.sparse ≡ true) × (nat_lt (extent v.max_rec) put.rec ≡ true)
  cuts = both (is_sparse v.sparse) (nat_lt (extent v.max_rec) put.rec) (cuts_own k cuts_at)

  rule : is_sparse v.sparse ≡ true
  rule = cuts.0

  first_is : count ≡ extent (max_rec_at b is.own.vdr)
  first_is = count_is ∙ ap (λ (n : ℕ). extent (max_rec_at b n)) (sym is.vdr_is)

  past : count < put.rec
  past = elim (cases_lt (extent v.max_rec) put.rec) [
    | inl lt ↦ omega (arith, first_is, lt)
    | inr le ↦ absurd (true≢false (sym cuts.1 ∙ le-ltb (extent v.max_rec) put.rec le))
  ]

  -- the variable once it is cut
  abbrev own' : VariableShape
  own' = cut_off is.own count

  -- ---- what is past MaxRec is cut

  module _ {mid : List ℕ} (cut : CutPast b mid kind is.before is.own own' is.after count) where
    abbrev v' : Variable
    v' = variable_of mid own'

    same : v' ≡ v
    same = start.variable_same k.good is.among cut first_is rule put.rec past

    own_is : own'.vdr ≡ vdr
    own_is = cut.goes_on.vdr_is ∙ is.vdr_is

    size : record_bytes mid own'.vdr ≡ record_bytes b is.own.vdr
    size = later_size k.good is.among cut.goes_on

    putting : Putting mid kind is.before own' is.after put limit
    putting = record {
      start = record {
        good = cut.goes_on.good;
        among = cut.goes_on.among;
        loose = later_loose k.good is.among cut.goes_on cut.loose;
        same_ranges = start.same_now k.good is.among cut first_is rule put.rec past;
        same_nexts = start.nexts_now k.good is.among cut first_is rule put.rec past;
        small = small k;
        short = omega (arith, cut.long, k.short);
        raw_long = raw_long k ∙ sym size;
      };
      vdr_is = own_is ∙ sym k.new.vdr_is;
      pad_long = pad_long k ∙ sym size;
      most_is = most_is k ∙ ap (λ (x : Variable). most_in_block x put.rec) (sym same);
      room = omega (arith, cut.long, room_own k, start.room k.good is.among cut first_is rule put.rec past);
    }

    pub some_putting : {from : ℕ} → from ≡ put.rec → SomePutting mid put from limit
    some_putting e = record { kind = kind; before = is.before; own = own'; after = is.after; putting = putting; from_is = e ∙ first_now }
      where
        first_now : put.rec ≡ first_written v' put.rec
        first_now = rw (start.rule_now k.good is.among cut first_is rule put.rec past) refl

    -- ---- what is known yet, where each block stays

    module _ (tidy : IsTidy (index_at b (number b vdr vdr_vxr_head))) (stays : KeepsBlocks count (index_at b (number b vdr vdr_vxr_head))) where
      pub tops : TopStays is.own.index own'.index
      tops = let here = index_there k.good is in tops_stay is.own count (subst IsTidy here tidy) (subst (KeepsBlocks count) here stays)

      pub start_yet : (node : Option ℕ) → IsKnownStart b vdr node → IsKnownStart mid vdr node
      start_yet node known = subst (λ (ns : Nodes). InTopChain ns node) (sym (index_is mid cut.goes_on.good cut.goes_on.among own_is).1) (by node (subst (λ (ns : Nodes). InTopChain ns node) (index_there k.good is) known))
        where
          by : (node : Option ℕ) → InTopChain is.own.index node → InTopChain own'.index node
          by None known = tt
          by (Some m) known = tops m known

    -- ---- all are put

    module _ {now : List ℕ} (upto : PutsUpTo mid now limit put (put.rec + 1)) where
      done : IsPut mid now kind is.before own' is.after put (put.rec + 1)
      done = upto kind is.before own' is.after putting

      pub now_good : Good now
      now_good = done.so.goes.good

      pub now_short : length now ≤ image_limit
      now_short = done.so.short

      now_is : done.own'.vdr ≡ vdr
      now_is = done.so.goes.vdr_is ∙ own_is

      pub now_vdr : IsVdr now kind vdr
      now_vdr = vdr_on kind own_is done.so.goes

      mid_extent : extent (max_rec_at mid own'.vdr) ≡ extent (max_rec_at now vdr)
      mid_extent = subst (λ (n : ℕ). extent (max_rec_at mid own'.vdr) ≡ extent (max_rec_at now n)) own_is (ap (λ (n : ℕ). extent (with_sign n)) (sym done.so.max_rec_is))

      pub now_extent : extent (max_rec_at b vdr) ≡ extent (max_rec_at now vdr)
      now_extent = sym count_is ∙ first_is ∙ ap (λ (n : ℕ). extent (with_sign n)) (sym cut.max_rec_is) ∙ mid_extent

      -- the places stay
      pub now_places : (j : Kind) → vdrs (shapes_of (shape b) j) ≡ vdrs (shapes_of (shape now) j)
      now_places j = places_on kind is.among.was cut.goes_on j ∙ places_on kind cut.goes_on.among.was done.so.goes j

      -- ---- MaxRec is raised

      module _ {last : List ℕ} (raises : MaxRecRaises now last kind vdr put.rec) where
        max_rec_done : MaxRecDone mid now last kind own' done.own' put.rec
        max_rec_done = subst (λ (n : ℕ). ((n ≤ put.rec) × MaxRecRaised now last kind done.own' put.rec) ⊎ ((put.rec < n) × (last ≡ now))) (sym mid_extent) (raises done.own' now_is)

        together : CutThenPut b mid now last kind is.before is.own done.own' is.after put.raw.items put.pad.items count put.rec done.acts
        together = record { good = k.good; among = is.among; cut = cut; first_is = first_is; rule = rule; past = past; so = done.so; done = max_rec_done }

        pub follows : (c : Command) (name : List ℕ) → PutsSo b c name put.rec t bytes → Follows b c last
        follows c name so =
            followed k c name so
            (λ words named. put_rec_then together (λ le. pad_stored k) name named bytes (raw_is k) (λ lt. pad_is k) words)
            (λ index words named. put_val_then together (λ le. pad_stored k) name named bytes (raw_is k) (λ lt. pad_is k) index words)

        -- ---- what is kept of the variables

        last_shape : shape last ≡ shape now
        last_shape = elim max_rec_done [ inl x ↦ raised_shape done.so.goes.good done.so.goes.among x.1 (small k) | inr x ↦ ap shape x.1 ]

        pub known_now : {known : Known} → Knows b known → Knows last known
        known_now = knows_put k (content_then together bytes (raw_is k) (λ lt. pad_is k)) (λ (j : Kind). now_places j ∙ ap (λ (s : Shape). vdrs (shapes_of s j)) (sym last_shape))

        pub starts_now : {starts : Starts} → KnowsStarts b starts → IsForgotten vdr starts → KnowsStarts last starts
        starts_now {starts} knows forgotten =
            let mid_knows = starts_go_on knows kind is.among cut.goes_on (λ was. subst (λ (n : ℕ). IsForgotten n starts) (sym is.vdr_is) forgotten own'.index) in
            let now_knows = starts_go_on mid_knows kind cut.goes_on.among done.so.goes (λ was. subst (λ (n : ℕ). IsForgotten n starts) (sym own_is) forgotten done.own'.index) in
            record { each = subst (λ (s : Shape). Each (IsKnownOf starts) (variables s)) (sym last_shape) now_knows.each }

        last_good : Good last
        last_good = elim max_rec_done [ inl x ↦ good_now done.so.goes.good done.so.goes.among (raise_writes done.so.goes.good done.so.goes.among x.1 (small k)) now_short | inr x ↦ subst Good (sym x.1) done.so.goes.good ]

        last_among : StandsAmong last kind is.before done.own' is.after
        last_among = record { was = ap (λ (s : Shape). shapes_of s kind) last_shape ∙ done.so.goes.among.was }

        last_vdr : IsVdr last kind vdr
        last_vdr = record { before = now_vdr.before; own = now_vdr.own; after = now_vdr.after; was = ap (λ (s : Shape). shapes_of s kind) last_shape ∙ now_vdr.was }

        -- no node is empty then, whatever the index was before
        pub tidy_now : HasTidyIndex last vdr
        tidy_now = record {
          good = last_good;
          is_there = vdr_in last_good last_vdr;
          tidy = subst IsTidy (sym (index_is last last_good last_among now_is).1) (put_is_tidy done.so.index (cut_off_tidy is.own count));
        }

        -- where each block stays, so does what is known
        pub starts_yet : {starts : Starts} → TopStays is.own.index own'.index → KnowsStarts b starts → ExpectsPut b vdr put.rec starts → KnowsStarts last starts
        starts_yet {starts} stay knows expects =
            let more = uncovered v is.own.index put.rec in
            let known = known_of starts is.own.vdr in
            let left = subst (λ (at : ℕ). ExpectsEntries starts at is.own.index more) (sym is.vdr_is)
            (let x = is.variable_is in let nodes = index_there k.good is in transport (λ i. ExpectsEntries starts vdr (nodes i) (uncovered (x i) (nodes i) put.rec)) expects) in
            let fewer = fewer_entries false (before_first count) is.own.index in
            let narrow = no_wider false (before_first count) is.own.index in
            let most = covering_entries done.so.covers done.so.start.same_ranges in
            let same = start.uncovered_same k.good is.among cut first_is rule put.rec past in
            let here = subst (λ (ns : Nodes). IfSome (known_of starts vdr) (IsRightOf ns)) (index_there k.good is) (known_there knows vdr k.good (form_vdr k.good is.is_form)) in
            let right = subst (λ (n : ℕ). IfSome (known_of starts n) (IsRightOf is.own.index)) (sym is.vdr_is) here in
            let tidy = cut_off_tidy is.own count in
            let mid_right = right_yet is.own.index own'.index more known right left stay (omega (arith, fewer)) narrow (λ t. tidy) in
            let now_right = right_yet is.own.index done.own'.index more known right left (λ m i. done.so.index.tops m (stay m i)) (omega (arith, fewer, most, same)) (omega (arith, narrow, done.so.covers.as_wide)) (λ t. put_is_tidy done.so.index tidy) in
            let mid_knows = starts_go_on knows kind is.among cut.goes_on (λ was. mid_right) in
            let now_knows = starts_go_on mid_knows kind cut.goes_on.among done.so.goes (λ was. subst (λ (n : ℕ). IfSome (known_of starts n) (IsRightOf done.own'.index)) (sym cut.goes_on.vdr_is) now_right) in
            record { each = subst (λ (s : Shape). Each (IsKnownOf starts) (variables s)) (sym last_shape) now_knows.each }
