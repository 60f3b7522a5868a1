-- The whole of a put into a packed variable before which nothing is cut: what is put under way, and that the last image follows the command.
use Rattle.cdf_vars.proofs.Common.{Command, Each, Follows, Good, IsTarget, IsVdr, Kind, Known, Knows, List, MaxRecRaised, MaxRecRaises, NewRecord, PutsSo, Shape, Target, Variable, VariableShape, ap, arith, extent, false, first_written, image_limit, inl, inr, is_compressed, length, max_rec_at, raised_shape, shape, shapes_of, subst, sym, true, variable_at, variable_of, variables, vdrs, with_sign, ℕ, ◌<◌, ◌∙◌, ◌≡◌, ◌≤◌, ◌⊎◌}
use Rattle.std.proofs.Math.Path.{transport}
use Rattle.std.specs.Prelude.{IfSome}
use Rattle.cdf_edits.specs.Commands.Room.{uncovered}
use Rattle.cdf_edits.specs.Index.Blocks.{cuts_before_put}
use Rattle.cdf_puts.proofs.KnownStarts.{right_yet, starts_go_on}
use Rattle.cdf_puts.specs.Going.{GoesOn}
use Rattle.cdf_puts.specs.SoFar.{MaxRecDone}
use Rattle.cdf_puts.specs.Starts.{ExpectsEntries, IsKnownOf, IsRightOf, KnowsStarts, known_of}
use Rattle.cdf_puts.specs.declared.starts.Starts.{Starts}
use Rattle.cdf_put_steps.proofs.Along.{put_leaves}
use Rattle.cdf_put_steps.proofs.KeptAlong.{kept_along}
use Rattle.cdf_packed_puts.proofs.NothingCut.{uncut_along, uncut_gone}
use Rattle.cdf_packed_puts.specs.Putting.{PackedPut, Packing, SomePacking}
use Rattle.cdf_sparse.proofs.TidyStages.{puts_tidy}
use Rattle.cdf_var_records.specs.Room.{ExpectsPut}
use Rattle.cdf_vars.proofs.PackedDone.{is_packed_put}
use Rattle.cdf_vars.proofs.PackedFollows.{IsPackedPut, put_rec_done, put_val_done}
use Rattle.cdf_vars.proofs.PutRead.{WasRead, cuts_own, followed, index_there, knows_put, most_is, pad_is, pad_long, pad_stored, places_on, raw_is, raw_long, room_own, small, vdr_on}

module _ {b : List ℕ} {t : Target} {bytes : List ℕ} {put : NewRecord} {limit : ℕ} (k : WasRead b t put.rec bytes put limit true) (uncut_at : cuts_before_put (variable_at b t.form.place.vdr) put.rec ≡ false) where
  abbrev kind : Kind
  kind = t.id.kind

  abbrev vdr : ℕ
  vdr = t.form.place.vdr

  abbrev is : IsTarget b t
  is = k.can.is

  abbrev v : Variable
  v = variable_of b is.own

  uncut : cuts_before_put v put.rec ≡ false
  uncut = cuts_own k uncut_at

  packing : Packing b kind is.before is.own is.after put limit
  packing = record {
    good = k.good;
    among = is.among;
    rle = ap (is_compressed b) is.vdr_is ∙ k.rle_is;
    gone = uncut_gone v is.own.index put.rec uncut;
    vdr_is = is.vdr_is ∙ sym k.new.vdr_is;
    small = small k;
    raw_long = raw_long k;
    pad_is = pad_stored k;
    pad_long = pad_long k;
    most_is = most_is k;
    room = room_own k;
  }

  pub some_packing : {from : ℕ} → from ≡ first_written v put.rec → SomePacking b put from limit
  some_packing e = record { kind = kind; before = is.before; own = is.own; after = is.after; packing = packing; from_is = e }

  -- ---- all are put

  module _ {now : List ℕ} (puts : (kind : Kind) (before : List VariableShape) (own : VariableShape) (after : List VariableShape) → Packing b kind before own after put limit → PackedPut b now kind before own after put) where
    done : PackedPut b now kind is.before is.own is.after put
    done = puts kind is.before is.own is.after packing

    abbrev own' : VariableShape
    own' = done.is_put.own'

    pub now_short : length now ≤ image_limit
    now_short = omega (arith, done.longer, done.fits, packing.room, k.bound)

    goes : GoesOn b now kind is.before is.own own' is.after done.is_put.acts
    goes = (kept_along (put_leaves (uncut_along packing uncut done.is_put)) now_short).goes

    pub now_good : Good now
    now_good = goes.good

    now_is : own'.vdr ≡ vdr
    now_is = goes.vdr_is ∙ is.vdr_is

    pub now_vdr : IsVdr now kind vdr
    now_vdr = vdr_on kind is.vdr_is goes

    pub now_extent : extent (max_rec_at b vdr) ≡ extent (max_rec_at now vdr)
    now_extent = subst (λ (k : ℕ). extent (max_rec_at b k) ≡ extent (max_rec_at now k)) is.vdr_is (ap (λ (n : ℕ). extent (with_sign n)) (sym done.is_put.max_rec_is))

    -- the places stay
    pub now_places : (k : Kind) → vdrs (shapes_of (shape b) k) ≡ vdrs (shapes_of (shape now) k)
    now_places = places_on kind is.among.was goes

    -- ---- MaxRec is raised

    module _ {last : List ℕ} (raises : MaxRecRaises now last kind vdr put.rec) where
      max_rec_done : MaxRecDone b now last kind is.own own' put.rec
      max_rec_done =
          subst (λ (n : ℕ). ((n ≤ put.rec) × MaxRecRaised now last kind own' put.rec) ⊎ ((put.rec < n) × (last ≡ now))) (sym now_extent ∙ ap (λ (k : ℕ). extent (max_rec_at b k)) (sym is.vdr_is)) (raises own' now_is)

      is_put : IsPackedPut b last kind is.before is.own own' is.after put.rec bytes done.is_put.acts
      is_put = is_packed_put packing uncut done now_short max_rec_done bytes (raw_is k) (pad_is k)

      pub follows : (c : Command) (name : List ℕ) → PutsSo b c name put.rec t bytes → Follows b c last
      follows c name so = followed k c name so (λ words named. put_rec_done is_put name named words) (λ index words named. put_val_done is_put name named index words)

      -- ---- what is kept of the variables

      last_shape : shape last ≡ shape now
      last_shape = elim max_rec_done [ inl x ↦ raised_shape goes.good goes.among x.1 (small k) | inr x ↦ ap shape x.1 ]

      pub starts_now : {starts : Starts} → KnowsStarts b starts → ExpectsPut b vdr put.rec starts → KnowsStarts last starts
      starts_now {starts} knows expects =
          let left = subst (λ (at : ℕ). ExpectsEntries starts at is.own.index (uncovered v is.own.index put.rec)) (sym is.vdr_is)
          (let x = is.variable_is in let nodes = index_there k.good is in transport (λ i. ExpectsEntries starts vdr (nodes i) (uncovered (x i) (nodes i) put.rec)) expects) in
          let yet = λ (is_right : IfSome (known_of starts is.own.vdr) (IsRightOf is.own.index)). right_yet is.own.index own'.index (uncovered v is.own.index put.rec) (known_of starts is.own.vdr) is_right left done.index.tops done.index.entries done.index.as_wide (puts_tidy (uncut_along packing uncut done.is_put).puts) in
          record { each = subst (λ (s : Shape). Each (IsKnownOf starts) (variables s)) (sym last_shape) (starts_go_on knows kind is.among goes yet).each }

      pub known_now : {known : Known} → Knows b known → Knows last known
      known_now = knows_put k is_put.content_is (λ (j : Kind). now_places j ∙ ap (λ (s : Shape). vdrs (shapes_of s j)) (sym last_shape))
