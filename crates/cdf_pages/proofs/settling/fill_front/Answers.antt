use Rattle.cdf_pages.proofs.Common.{List, None, Option, ReadsAt, ReadsPiece, Some, ap, arith, drop, file_in, file_of, length, length-drop, length-take, rules, subst, sym, take, ℕ, ◌+◌, ◌-◌, ◌∙◌, ◌≡◌, ◌≤◌}
use Rattle.std.proofs.Common.{IsSome, Ok}
use lib.Seq.{drop-drop}
use Rattle.cdf_pages.proofs.Filling.{filled, takes_more}
use Rattle.cdf_pages.proofs.settling.fill_front.Goals as goal

reads_held : (E : Type 0) (h : Option (List ℕ)) (place : ℕ) (out : List ℕ) (n : ℕ) → IsSome h → ReadsAt {E = E} h place out (Ok n) → ReadsPiece (file_in h) place out n
reads_held E None place out n is r = cc
reads_held E (Some bytes) place out n is r = r

-- a piece lies in the file
piece_within : (file out : List ℕ) (place n : ℕ) → ReadsPiece file place out n → n ≤ length file - place
piece_within file out place n r =
    let fits = r.fits in
    let same : length (take n out) ≡ length (take n (drop place file)) = ap (λ (l : List ℕ). length l) r.bytes in
    omega (arith, fits, same, length-take n out, length-take n (drop place file), length-drop place file)

pub loop-done-preserved : goal.loop-done-preserved
loop-done-preserved g c =
    let inv = c.loop-done.invariant in
    let src = file_of (g.S.Store.disk c.args.store.now) in
    let same : file_of (g.S.Store.disk c.loop-done.store) ≡ src = ap (λ d. file_of d) inv.disk in
    let held : IsSome (g.S.Store.disk c.loop-done.store).held = subst (λ d. IsSome d.held) (sym inv.disk) c.requires.held in
    let piece = reads_held _ (g.S.Store.disk c.loop-done.store).held (c.args.place + c.loop-done.done) c.read_at.new.out c.in_ok-count.count held c.in_ok-count.ensures.bytes in
    let fits = piece.fits in
    let inside = piece_within (file_of (g.S.Store.disk c.loop-done.store)) c.read_at.new.out (c.args.place + c.loop-done.done) c.in_ok-count.count piece in
    let here : take c.in_ok-count.count c.read_at.new.out ≡ take c.in_ok-count.count (drop c.loop-done.done (drop c.args.place src)) =
    piece.bytes ∙ ap (λ l. take c.in_ok-count.count (drop (c.args.place + c.loop-done.done) l)) same ∙ ap (take c.in_ok-count.count) (sym (drop-drop c.loop-done.done c.args.place src)) in
    let low : c.loop-done.done + c.in_ok-count.count ≤ length c.args.out.now = search rules in
    record {
      bytes = filled c.loop-done.out c.read_at.new.out (drop c.args.place src) c.loop-done.done c.in_ok-count.count (length c.loop-done.out - c.loop-done.done) (omega (arith, inv.within, inv.size)) fits inv.bytes here;
      within = omega (arith, low, inside, inv.within, ap length same);
      size = search rules;
      disk = c.in_ok-count.ensures.disk ∙ inv.disk;
      read = c.in_ok-count.ensures.cause.done ∙ inv.read;
      write = c.in_ok-count.ensures.write ∙ inv.write;
      unstored = c.in_ok-count.ensures.unstored ∙ inv.unstored;
      taken = takes_more _ _ _ _ c.loop-done.done c.in_ok-count.count inv.taken c.in_ok-count.ensures.taken;
    }
