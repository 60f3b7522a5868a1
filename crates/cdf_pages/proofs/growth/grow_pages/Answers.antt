use Rattle.cdf_pages.proofs.Common.{IsTrue, LiesIn, List, Option, Some, Touches, ap, arith, drop, file_of, image_of, is_in, is_some, length, min, option_copied, page_at, refl, rules, slice_index, sym, take, ℕ, ◌%◌, ◌*◌, ◌++◌, ◌+◌, ◌-◌, ◌/◌, ◌<◌, ◌∙◌, ◌≡◌, ◌≤◌}
use Rattle.cdf_pages.proofs.Grew.{grown_held, holds_grown_first, one_page_less, piece_in_image}
use Rattle.cdf_pages.proofs.Touched.{touches_none, touches_then, touches_weaker}
use Rattle.cdf_pages.proofs.growth.grow_pages.Goals as goal

pub loop-place-init : goal.loop-place-init
loop-place-init g c = record {
  long = sym c.requires.file_size;
  low = omega arith;
  high = omega arith;
  grown = λ tail. holds_grown_first (g.S.Store.disk c.args.store.now) _ (g.met.S.Store.whole c.args.store.now) c.requires.held;
  touched = touches_none _ _ _ refl;
  spent = omega arith;
  end = refl;
  taken = refl;
  write = refl;
  read = refl;
  change = refl;
  idle = λ short. refl;
}

pub append-requires-clause-held : goal.append-requires-clause-held
append-requires-clause-held g c = grown_held (g.S.Store.disk c.args.store.now) (g.S.Store.disk c.loop-place.store) _ (c.loop-place.invariant.grown c.piece.result.now)

-- the piece stands in the image
module _ (p : ℕ → Option (List ℕ)) (file page xs : List ℕ) (n live place : ℕ) (there : p (place / 65536) ≡ Some page) (whole : length page ≡ 65536) (end : live ≡ min 65536 (n - place / 65536 * 65536)) (short : place < n)
    (is : xs ≡ take (live - place % 65536) (drop (place % 65536) page)) (size : length xs ≡ live - place % 65536) where
  piece : (tail : List ℕ) → (place + length xs ≤ length (image_of p file n ++ tail)) × ((t : ℕ) → t < length xs → slice_index xs t ≡ slice_index (image_of p file n ++ tail) (place + t))
  piece tail = piece_in_image p file page xs tail n (place / 65536) (place % 65536) live place there whole end (omega (arith, short, end)) (omega arith) is size

-- the piece lies in a changed page
touched_piece : (p : ℕ → Option (List ℕ)) (page : List ℕ) (place size : ℕ) (a b c : Option (List (ℕ × ℕ))) → p (place / 65536) ≡ Some page → place % 65536 + size ≤ 65536 → Touches (λ range. (number : ℕ) × IsTrue (is_in p number) × LiesIn number range) a b
    → Touches (λ range. (place ≤ range.0) × (range.0 + range.1 ≤ place + size)) b c → Touches (λ range. (number : ℕ) × IsTrue (is_in p number) × LiesIn number range) a c
touched_piece p page place size a b c there room before now =
    touches_then _ a b c before (touches_weaker _ _ b c (λ range lies. let low = lies.0 in let high = lies.1 in (place / 65536, ap is_some there, (omega (arith, low), omega (arith, high, room)))) now)

pub returns-in_err-append-clause-grown : goal.returns-in_err-append-clause-grown
returns-in_err-append-clause-grown g c tail =
    let there = sym c.page.ensures ∙ ap option_copied c.unwrap-page.ensures in
    let in_image = piece (page_at c.args.sheets.now.changed) (file_of (g.S.Store.disk c.args.store.now)) c.unwrap-page.result.now c.piece.result.now c.args.sheets.now.length c.live_bytes-live.result c.loop-place.place there c.piece.ensures.whole c.live_bytes-live.ensures (search rules) c.piece.ensures.bytes c.piece.ensures.size tail in
    c.append.ensures.grown (g.S.Store.disk c.args.store.now) _ in_image.0 in_image.1 (c.loop-place.invariant.grown tail)

pub returns-in_err-append-clause-touched : goal.returns-in_err-append-clause-touched
returns-in_err-append-clause-touched g c =
    touched_piece (page_at c.args.sheets.now.changed) c.unwrap-page.result.now c.loop-place.place (length c.piece.result.now) _ _ _ (sym c.page.ensures ∙ ap option_copied c.unwrap-page.ensures) (omega (arith, c.piece.ensures.size, c.live_bytes-live.ensures)) c.loop-place.invariant.touched c.append.ensures.touched

pub loop-place-preserved : goal.loop-place-preserved
loop-place-preserved g c =
    let inv = c.loop-place.invariant in
    let ok = c.in_ok-append.ensures in
    let place = c.loop-place.place in
    let short : place < c.args.sheets.now.length = search rules in
    let end = c.live_bytes-live.ensures in
    let size = c.piece.ensures.size in
    let there = sym c.page.ensures ∙ ap option_copied c.unwrap-page.ensures in
    record {
      long = omega (arith, ok.long, size, end, short);
      low = omega (arith, inv.low, end, short);
      high = omega (arith, end, short);
      grown = λ tail. (let in_image = piece (page_at c.args.sheets.now.changed) (file_of (g.S.Store.disk c.args.store.now)) c.unwrap-page.result.now c.piece.result.now c.args.sheets.now.length c.live_bytes-live.result place there c.piece.ensures.whole end short c.piece.ensures.bytes size tail in ok.grown (g.S.Store.disk c.args.store.now) _ in_image.0 in_image.1 (inv.grown tail));
      touched = touched_piece (page_at c.args.sheets.now.changed) c.unwrap-page.result.now place (length c.piece.result.now) _ _ _ there (omega (arith, size, end)) inv.touched ok.touched;
      spent = omega (arith, inv.spent, ok.spare.writes, one_page_less c.args.sheets.now.length place c.live_bytes-live.result short end);
      end = ok.spare.end ∙ inv.end;
      taken = ok.taken ∙ inv.taken;
      write = ok.cause.done ∙ inv.write;
      read = ok.read ∙ inv.read;
      change = ok.change ∙ inv.change;
      idle = λ none. absurd (omega (arith, short, inv.low, none));
    }
