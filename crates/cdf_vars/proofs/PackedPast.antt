-- A put past MaxRec + 1 of a packed variable that has a rule for missing records: what is past MaxRec is cut first, then the record is put, and the last image follows the command.
use Rattle.cdf_vars.proofs.Common.{Command, Each, Follows, Good, IsTarget, IsVdr, Kind, Known, Knows, List, MaxRecRaised, MaxRecRaises, NewRecord, PutsSo, Shape, Target, Variable, VariableShape, ap, arith, cases_lt, extent, image_limit, index_at, inl, inr, is_compressed, le-ltb, length, max_rec_at, nat_lt, number, raised_shape, record_bytes, shape, shapes_of, subst, sym, true, true≢false, variable_at, variable_of, variables, vdr_vxr_head, vdrs, with_sign, ℕ, ◌++◌, ◌<◌, ◌∙◌, ◌≡◌, ◌≤◌, ◌⊎◌}
use Rattle.std.proofs.Math.Path.{transport}
use Rattle.cdf_blocks.specs.Replaced.{stage}
use Rattle.cdf_edits.specs.Index.Blocks.{cuts_before_put, is_sparse}
use Rattle.cdf_format.proofs.Tests.{both}
use Rattle.cdf_format.specs.Index.{leaves_of}
use Rattle.cdf_puts.proofs.KnownStarts.{starts_go_on}
use Rattle.cdf_puts.specs.Going.{GoesOn}
use Rattle.cdf_puts.specs.SoFar.{MaxRecDone}
use Rattle.cdf_puts.specs.Starts.{IsForgotten, IsKnownOf, KnowsStarts}
use Rattle.cdf_puts.specs.declared.starts.Starts.{Starts}
use Rattle.cdf_put_steps.proofs.KeptAlong.{kept_along}
use Rattle.cdf_put_steps.specs.Along.{LeavesPut, stored_pad}
use Rattle.cdf_packed_cuts.specs.Past.{HasRoom, PackedPast}
use Rattle.cdf_packed_puts.specs.Putting.{PackedPut, Packing, SomePacking}
use Rattle.cdf_packed_gaps.proofs.CutPacking.{begins, packs}
use Rattle.cdf_packed_gaps.proofs.CutPutContent.{content_then}
use Rattle.cdf_packed_gaps.proofs.CutPutDone as gap
use Rattle.cdf_packed_gaps.proofs.CutRoom.{both_fit, room_for_cut}
use Rattle.cdf_packed_gaps.specs.CutThenPut.{CutThenPut, CutsForPut, PackingToCut}
use Rattle.cdf_vars.proofs.PackedFollows.{IsPackedPut, put_rec_done, put_val_done}
use Rattle.cdf_vars.proofs.PutRead.{WasRead, cuts_own, followed, index_there, knows_put, most_is, pad_long, pad_stored, places_on, raw_is, raw_long, room_own, small, vdr_on}

module _ {b : List ℕ} {t : Target} {bytes : List ℕ} {put : NewRecord} {limit : ℕ} (k : WasRead b t put.rec bytes put limit true) {count : ℕ} (count_is : count ≡ extent (max_rec_at b t.form.place.vdr)) (cuts_at : cuts_before_put (variable_at b t.form.place.vdr) put.rec ≡ true) where
  abbrev kind : Kind
  kind = t.id.kind

  abbrev vdr : ℕ
  vdr = t.form.place.vdr

  abbrev is : IsTarget b t
  is = k.can.is

  abbrev v : Variable
  v = variable_of b is.own

  cuts : (is_sparse v.sparse ≡ true) × (nat_lt (extent v.max_rec) put.rec ≡ true)
  cuts = both (is_sparse v.sparse) (nat_lt (extent v.max_rec) put.rec) (cuts_own k cuts_at)

  first_is : count ≡ extent (max_rec_at b is.own.vdr)
  first_is = count_is ∙ ap (λ (n : ℕ). extent (max_rec_at b n)) (sym is.vdr_is)

  past : count < put.rec
  past = elim (cases_lt (extent v.max_rec) put.rec) [
    | inl lt ↦ omega (arith, first_is, lt)
    | inr le ↦ absurd (true≢false (sym cuts.1 ∙ le-ltb (extent v.max_rec) put.rec le))
  ]

  rle : is_compressed b is.own.vdr ≡ true
  rle = ap (is_compressed b) is.vdr_is ∙ k.rle_is

  cuts_for : CutsForPut b kind is.before is.own is.after count put.rec
  cuts_for = record { good = k.good; among = is.among; first_is = first_is; rule = cuts.0; past = past }

  to_cut : PackingToCut b kind is.before is.own is.after count put limit
  to_cut = record {
    cuts = cuts_for;
    rle = rle;
    vdr_is = is.vdr_is ∙ sym k.new.vdr_is;
    small = small k;
    raw_long = raw_long k;
    pad_is = pad_stored k;
    pad_long = pad_long k;
    most_is = most_is k;
    room = room_own k;
  }

  -- there is room for the cut
  pub cut_room : {size : ℕ} → size ≡ record_bytes b vdr → HasRoom b (leaves_of (index_at b (number b vdr vdr_vxr_head))) size count limit
  cut_room {size} sized =
      let nodes = index_there k.good is in
      let own_size : size ≡ record_bytes b is.own.vdr = sized ∙ ap (record_bytes b) (sym is.vdr_is) in
      transport (λ i. HasRoom b (leaves_of (sym nodes i)) (sym own_size i) count limit) (room_for_cut cuts_for limit rle (room_own k))

  -- ---- what is past MaxRec is cut

  module _ {mid : List ℕ} (cut : PackedPast b mid kind is.before is.own is.after count) where
    mid_is : cut.own'.vdr ≡ vdr
    mid_is = cut.goes_on.vdr_is ∙ is.vdr_is

    packing : Packing mid kind is.before cut.own' is.after put limit
    packing = packs to_cut cut

    pub some_packing : {from : ℕ} → from ≡ put.rec → SomePacking mid put from limit
    some_packing e = record { kind = kind; before = is.before; own = cut.own'; after = is.after; packing = packing; from_is = e ∙ sym (begins to_cut cut) }

    -- ---- all are put

    module _ {now : List ℕ} (puts : (kind : Kind) (before : List VariableShape) (own : VariableShape) (after : List VariableShape) → Packing mid kind before own after put limit → PackedPut mid now kind before own after put) where
      done : PackedPut mid now kind is.before cut.own' is.after put
      done = puts kind is.before cut.own' is.after packing

      abbrev own' : VariableShape
      own' = done.is_put.own'

      pub now_short : length now ≤ image_limit
      now_short = omega (arith, done.longer, done.fits, packing.room, k.bound)

      along : LeavesPut mid kind is.before cut.own' is.after put.rec put.raw.items (stage now own' done.is_put.last done.next) done.is_put.acts
      along = record { good = cut.goes_on.good; among = cut.goes_on.among; along = done.is_put.along }

      goes : GoesOn mid now kind is.before cut.own' own' is.after done.is_put.acts
      goes = (kept_along along now_short).goes

      pub now_good : Good now
      now_good = goes.good

      now_is : own'.vdr ≡ vdr
      now_is = goes.vdr_is ∙ mid_is

      pub now_vdr : IsVdr now kind vdr
      now_vdr = vdr_on kind mid_is goes

      mid_extent : extent (max_rec_at mid cut.own'.vdr) ≡ extent (max_rec_at now vdr)
      mid_extent = subst (λ (n : ℕ). extent (max_rec_at mid cut.own'.vdr) ≡ extent (max_rec_at now n)) mid_is (ap (λ (n : ℕ). extent (with_sign n)) (sym done.is_put.max_rec_is))

      pub now_extent : extent (max_rec_at b vdr) ≡ extent (max_rec_at now vdr)
      now_extent = sym count_is ∙ first_is ∙ ap (λ (n : ℕ). extent (with_sign n)) (sym cut.max_rec_is) ∙ ap (λ (n : ℕ). extent (max_rec_at mid n)) (sym cut.goes_on.vdr_is) ∙ mid_extent

      -- the places stay
      pub now_places : (j : Kind) → vdrs (shapes_of (shape b) j) ≡ vdrs (shapes_of (shape now) j)
      now_places j = places_on kind is.among.was cut.goes_on j ∙ places_on kind cut.goes_on.among.was goes j

      -- ---- MaxRec is raised

      module _ {last : List ℕ} (raises : MaxRecRaises now last kind vdr put.rec) where
        max_rec_done : MaxRecDone mid now last kind cut.own' own' put.rec
        max_rec_done = subst (λ (n : ℕ). ((n ≤ put.rec) × MaxRecRaised now last kind own' put.rec) ⊎ ((put.rec < n) × (last ≡ now))) (sym mid_extent) (raises own' now_is)

        together : CutThenPut b mid last kind is.before is.own is.after count put.rec put.raw.items cut (stage now own' done.is_put.last done.next) done.is_put.acts
        together = record { cuts = cuts_for; along = done.is_put.along; upto = done.past; done = max_rec_done; short = now_short }

        pad_as_long : length (stored_pad b is.own) ≡ record_bytes b is.own.vdr
        pad_as_long = ap length (sym (pad_stored k)) ∙ pad_long k

        is_put : IsPackedPut b last kind is.before is.own own' is.after put.rec bytes (cut.acts ++ done.is_put.acts)
        is_put = record {
          good = k.good;
          among = is.among;
          rle = rle;
          goes = gap.goes together;
          keeps = gap.keeps together;
          fits = both_fit cuts_for cut done.is_put.acts rle done.fits;
          steps = gap.by_steps together (raw_long k);
          content_is = content_then together (raw_long k) pad_as_long bytes (raw_is k);
        }

        pub follows : (c : Command) (name : List ℕ) → PutsSo b c name put.rec t bytes → Follows b c last
        follows c name so = followed k c name so (λ words named. put_rec_done is_put name named words) (λ index words named. put_val_done is_put name named index words)

        -- ---- what is kept of the variables

        last_shape : shape last ≡ shape now
        last_shape = elim max_rec_done [ inl x ↦ raised_shape goes.good goes.among x.1 (small k) | inr x ↦ ap shape x.1 ]

        pub known_now : {known : Known} → Knows b known → Knows last known
        known_now = knows_put k is_put.content_is (λ (j : Kind). now_places j ∙ ap (λ (s : Shape). vdrs (shapes_of s j)) (sym last_shape))

        pub starts_now : {starts : Starts} → KnowsStarts b starts → IsForgotten vdr starts → KnowsStarts last starts
        starts_now {starts} knows forgotten =
            let mid_knows = starts_go_on knows kind is.among cut.goes_on (λ was. subst (λ (n : ℕ). IsForgotten n starts) (sym is.vdr_is) forgotten cut.own'.index) in
            let now_knows = starts_go_on mid_knows kind cut.goes_on.among goes (λ was. subst (λ (n : ℕ). IsForgotten n starts) (sym mid_is) forgotten own'.index) in
            record { each = subst (λ (s : Shape). Each (IsKnownOf starts) (variables s)) (sym last_shape) now_knows.each }
