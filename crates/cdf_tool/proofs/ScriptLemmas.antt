-- What the run of a script leaves, at each of its ends.
use Rattle.cdf_tool.proofs.Common.{AreShort, Bool, Consumes, Consumes-nil, Consumes-trans, Finishes, Follow, Halts, HaltsAfter, IsDrained, IsShort, List, Option, Outlets, Pending, Pieces, Replies, Status, Stops, StopsIn, Takes, TakesLast, TakesNone, TakesPiece, [], ap, append-nil, arith, false, fed, inl, inr, last_of, length, length-append, lines, lines-split, new_lines, new_rest, nothing_fed, piece_limit, refl, rest-append, script_limit, split, subst, sym, transport, true, whole_lines, whole_lines-append, ℕ, ◌++◌, ◌+◌, ◌||◌, ◌∙◌, ◌≡◌, ◌≤◌}
use Rattle.cdf_lines.specs.Pending.{finished}
use Rattle.cdf_saving.specs.declared.status.Status.TheVariants as statuses
use Rattle.cdf_tool.proofs.Lines.{kept_short, last_short, new_short}
use Rattle.cdf_tool.proofs.Moments.{more_replies, no_replies, stops_nowhere}
use Rattle.cdf_tool.proofs.Standing.{HasTaken, IsAfter, IsReady}

-- the lines that are ready once a piece comes
fed_ready : (p p' : Pending) (piece : List ℕ) → p.ready ≡ [] → p' ≡ fed p piece → (p'.ready ≡ new_lines p.rest piece) × (p'.given ≡ p.given)
fed_ready p p' piece none is = (ap (λ (q : Pending). q.ready) is ∙ ap (λ l. l ++ new_lines p.rest piece) none, ap (λ (q : Pending). q.given) is)

-- and once no piece comes
finished_ready : (p p' : Pending) → p.ready ≡ [] → p' ≡ finished p → (p'.ready ≡ last_of p.rest) × (p'.given ≡ p.given)
finished_ready p p' none is =
    (ap (λ (q : Pending). q.ready) is ∙ ap (λ (ls : List (Option (List ℕ))). ls ++ last_of p.rest) none, ap (λ (q : Pending). q.given) is)

halts_in : (limit : ℕ) (b taken : List ℕ) (left : Option (List ℕ)) (first now : Outlets) (status : Status) → length taken ≤ script_limit → StopsIn limit b taken left first now status → HaltsAfter limit b taken left first now status
halts_in limit b taken left first now statuses.StoreReadFault le s = (le, s)
halts_in limit b taken left first now statuses.OutputFault le s = (le, s)
halts_in limit b taken left first now statuses.NoMemory le s = (le, s)
halts_in limit b taken left first now statuses.Done le s = s.stops.wrote
halts_in limit b taken left first now statuses.SomeRefused le s = s.stops.wrote
halts_in limit b taken left first now statuses.Usage le s = s.stops.wrote
halts_in limit b taken left first now statuses.BadJournal le s = s.stops.wrote
halts_in limit b taken left first now statuses.NoFile le s = s.stops.wrote
halts_in limit b taken left first now statuses.Rejected le s = s.stops.wrote
halts_in limit b taken left first now statuses.StoreWriteFault le s = s.stops.wrote
halts_in limit b taken left first now statuses.ScriptFault le s = absurd s.stops.wrote
halts_in limit b taken left first now statuses.ScriptTooLong le s = absurd s.stops.wrote

-- before the first piece
pub at_start : (limit : ℕ) (b : List ℕ) (before : Option (List ℕ)) (first : Outlets) (p : Pending) → p ≡ nothing_fed → IsAfter limit b before before first p b false first 0
at_start limit b before first p is = record {
  taken = [];
  consumed = Consumes-nil before;
  total_is = refl;
  rest = ap (λ (q : Pending). q.rest) is;
  none_ready = ap (λ (q : Pending). q.ready) is;
  not_over = ap (λ (q : Pending). q.over) is;
  given = ap (λ (q : Pending). q.given) is;
  replies = no_replies limit b 0 first;
}

module _ (limit : ℕ) (b : List ℕ) (before left : Option (List ℕ)) (first : Outlets) (p : Pending) (image : List ℕ) (refused : Bool) (was : Outlets) (total : ℕ) (so_far : IsAfter limit b before left first p image refused was total) where
  abbrev whole : List (Option (List ℕ))
  whole = whole_lines so_far.taken

  -- it is at its end
  all_lines : whole ++ last_of p.rest ≡ lines so_far.taken
  all_lines = ap (λ (r : Option (List ℕ)). whole ++ last_of r) so_far.rest ∙ sym (lines-split so_far.taken)

  -- one more piece was taken
  taken_is : (piece : List ℕ) → length (so_far.taken ++ piece) ≡ total + length piece
  taken_is piece = omega (arith, length-append so_far.taken piece, so_far.total_is)

  consumed_with : (now : Option (List ℕ)) (piece : List ℕ) → Consumes left now piece → Consumes before now (so_far.taken ++ piece)
  consumed_with now piece took = Consumes-trans before left now so_far.taken piece so_far.consumed took

  lines_are : (piece : List ℕ) → whole ++ new_lines p.rest piece ≡ whole_lines (so_far.taken ++ piece)
  lines_are piece = ap (λ (r : Option (List ℕ)). whole ++ new_lines r piece) so_far.rest ∙ sym (whole_lines-append so_far.taken piece)

  abbrev pieces_of : (piece : List ℕ) → length piece ≤ piece_limit → Pieces (so_far.taken ++ piece)
  pieces_of piece fits = record { earlier = so_far.taken; last = piece; are = refl; short = fits }

  has_piece : (now : Option (List ℕ)) (p' : Pending) (total' : ℕ) → TakesPiece left now p p' total total' → HasTaken true limit b before now first p' image refused was total'
  has_piece now p' total' t =
      let fed = fed_ready p p' t.piece so_far.none_ready t.lines in
      record {
        earlier = so_far.taken;
        last = t.piece;
        short = t.short;
        consumed = consumed_with now t.piece t.consumed;
        total_is = taken_is t.piece ∙ sym t.sum;
        within = t.within;
        given = fed.1 ∙ so_far.given;
        replies = so_far.replies;
        ready = (
          ap (λ l. whole ++ l) fed.0 ∙ lines_are t.piece,
          ap (λ (q : Pending). q.rest) t.lines ∙ ap (λ (r : Option (List ℕ)). new_rest r t.piece) so_far.rest ∙ sym (rest-append so_far.taken t.piece),
          ap (λ (q : Pending). q.over) t.lines ∙ so_far.not_over,
        );
        are_short = subst AreShort (sym fed.0) (new_short p.rest t.piece);
      }

  has_last : (now : Option (List ℕ)) (p' : Pending) (total' : ℕ) → total ≤ script_limit → TakesLast left now p p' total total' → HasTaken false limit b before now first p' image refused was total'
  has_last now p' total' le t =
      let last = finished_ready p p' so_far.none_ready t.lines in
      record {
        earlier = so_far.taken;
        last = [];
        short = omega arith;
        consumed = consumed_with now [] t.consumed;
        total_is = omega (arith, taken_is [], t.sum);
        within = omega (arith, t.sum);
        given = last.1 ∙ so_far.given;
        replies = so_far.replies;
        ready = (t.over, ap (λ l. whole ++ l) last.0 ∙ all_lines ∙ ap (λ l. lines l) (sym (append-nil so_far.taken)));
        are_short = subst AreShort (sym last.0) (last_short p.rest (subst IsShort (sym so_far.rest) (kept_short (split so_far.taken).1)));
      }

  pub has_taken : (more : Bool) (now : Option (List ℕ)) (p' : Pending) (total' : ℕ) → total ≤ script_limit → Takes more left now p p' total total' → HasTaken more limit b before now first p' image refused was total'
  has_taken true now p' total' le t = has_piece now p' total' t
  has_taken false now p' total' le t = has_last now p' total' le t

  -- none was taken
  pub none_taken : (now : Option (List ℕ)) (status : Status) → total ≤ script_limit → TakesNone left now total status → Halts limit b before now first was status
  none_taken now statuses.ScriptFault le took = record {
    taken = so_far.taken;
    consumed = subst (λ (t : List ℕ). Consumes before now t) (append-nil so_far.taken) (consumed_with now [] took);
    how = (omega (arith, so_far.total_is), record { end = image; refused = refused; replies = so_far.replies });
  }
  none_taken now statuses.ScriptTooLong le dropped = record {
    taken = so_far.taken ++ dropped.piece;
    consumed = consumed_with now dropped.piece dropped.consumed;
    how = record { pieces = pieces_of dropped.piece dropped.short; long = omega (arith, taken_is dropped.piece, dropped.size); answered = record { end = image; refused = refused; replies = so_far.replies } };
  }
  none_taken now statuses.NoMemory le dropped = record {
    taken = so_far.taken ++ dropped.piece;
    consumed = consumed_with now dropped.piece dropped.consumed;
    how = (
      omega (arith, taken_is dropped.piece, dropped.size),
      record {
        pieces = pieces_of dropped.piece dropped.short;
        image = image;
        refused = refused;
        then = was;
        replies = so_far.replies;
        more = new_lines p.rest dropped.piece;
        follow = inl (lines_are dropped.piece);
        stops = stops_nowhere limit image (length whole) (new_lines p.rest dropped.piece) was;
      },
    );
  }
  none_taken now statuses.StoreReadFault le took = absurd took
  none_taken now statuses.OutputFault le took = absurd took
  none_taken now statuses.StoreWriteFault le took = absurd took
  none_taken now statuses.Done le took = absurd took
  none_taken now statuses.SomeRefused le took = absurd took
  none_taken now statuses.Usage le took = absurd took
  none_taken now statuses.BadJournal le took = absurd took
  none_taken now statuses.NoFile le took = absurd took
  none_taken now statuses.Rejected le took = absurd took

-- each piece has bytes
pub taken_more : (more : Bool) (before left : Option (List ℕ)) (p p' : Pending) (total total' : ℕ) → more ≡ true → Takes more before left p p' total total' → (counter : ℕ) → counter ≤ total → counter + 1 ≤ total'
taken_more true before left p p' total total' is t counter le = omega (arith, t.some, t.sum)
taken_more false before left p p' total total' is t counter le = absurd (cc is)

follow : (more : Bool) (earlier last : List ℕ) (p : Pending) (left : Option (List ℕ)) → IsReady more earlier last p left → Follow p.ready earlier (earlier ++ last) left
follow true earlier last p left ready = inl ready.0
follow false earlier last p left ready = inr ready

module _ (more : Bool) (limit : ℕ) (b : List ℕ) (before left : Option (List ℕ)) (first : Outlets) (p : Pending) (image : List ℕ) (refused : Bool) (was : Outlets) (total : ℕ) (has : HasTaken more limit b before left first p image refused was total) (limit' : ℕ) (same : limit' ≡ limit) where
  abbrev taken : List ℕ
  taken = has.earlier ++ has.last

  -- the lines that were ready were not all answered
  pub halted : (now : Outlets) (status : Status) → Stops limit' image p.given p.ready was now status → Halts limit b before left first now status
  halted now status stops = record {
    taken = taken;
    consumed = has.consumed;
    how = halts_in limit b taken left first now status (omega (arith, has.total_is, has.within)) (record {
      pieces = record { earlier = has.earlier; last = has.last; are = refl; short = has.short };
      image = image;
      refused = refused;
      then = was;
      replies = has.replies;
      more = p.ready;
      follow = follow more has.earlier has.last p left has.ready;
      stops = transport (λ i. Stops (same i) image (has.given i) p.ready was now status) stops;
    });
  }

  -- they were
  module _ (end : List ℕ) (again either : Bool) (now : Outlets) (is : either ≡ (refused || again)) (replies : Replies limit' image p.given p.ready end again was now) where
    all_replies : (all : List (Option (List ℕ))) → whole_lines has.earlier ++ p.ready ≡ all → Replies limit b 0 all end either first now
    all_replies all are =
        let joined : Replies limit b 0 (whole_lines has.earlier ++ p.ready) end (refused || again) first now =
        more_replies limit b 0 (whole_lines has.earlier) image refused first was p.given p.ready end again now (omega (arith, has.given)) has.replies (subst (λ (k : ℕ). Replies k image p.given p.ready end again was now) same replies) in
        transport (λ i. Replies limit b 0 (are i) end (sym is i) first now) joined

    -- and there may be more
    pub goes_on : (p' : Pending) → more ≡ true → IsDrained p p' → IsAfter limit b before left first p' end either now total
    goes_on p' is_more drained =
        let ready : IsReady true has.earlier has.last p left = subst (λ (t : Bool). IsReady t has.earlier has.last p left) is_more has.ready in
        record {
          taken = taken;
          consumed = has.consumed;
          total_is = has.total_is;
          rest = drained.rest ∙ ready.1;
          none_ready = drained.ready;
          not_over = drained.over ∙ ready.2;
          given = omega (arith, drained.given, has.given, length-append (whole_lines has.earlier) p.ready, ap (λ l. length l) ready.0);
          replies = all_replies (whole_lines taken) ready.0;
        }

    -- and the script is at its end
    pub at_end : more ≡ false → Finishes limit b before left first end either now
    at_end is_last =
        let ready : IsReady false has.earlier has.last p left = subst (λ (t : Bool). IsReady t has.earlier has.last p left) is_last has.ready in
        record {
          taken = taken;
          consumed = has.consumed;
          short = omega (arith, has.total_is, has.within);
          over = ready.0;
          replies = all_replies (lines taken) ready.1;
        }
