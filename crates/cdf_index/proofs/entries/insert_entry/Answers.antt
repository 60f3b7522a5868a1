use Rattle.cdf_index.proofs.Common.{add-one, ap, arith, edit_more, edits_by_read, of_z-to_z, on_ok_weaker, vxr_n_used_entries, with_field, ℕ, ◌+◌, ◌-◌, ◌∙◌, ◌≡◌}
use Rattle.std.specs.Int.{w32}
use Rattle.cdf_index.proofs.Inserting.{inside_stays, shift_more, inserted}
use Rattle.cdf_index.proofs.entries.insert_entry.Goals as goal

pub loop-moved-preserved : goal.loop-moved-preserved
loop-moved-preserved g c =
    let i = c.loop-moved.invariant in
    let shifted = shift_more i.shifted c.requires.inside (omega (arith, c.requires.room, c.requires.fits)) (omega (arith, c.loop-moved-test.true)) c.in_ok-before.ensures.value (rw c.in_ok-before.ensures.area.image at c.in_ok-set_entry.ensures.set) in
    record {
      shifted = shifted;
      inside = inside_stays _ _ _ _ shifted.changed shifted.as_long c.requires.inside;
      area = edit_more (edit_more i.area (edits_by_read c.in_ok-before.ensures.area)) c.in_ok-set_entry.ensures.area;
      far = omega (arith, c.loop-moved-test.true);
    }

pub returns-clause-inserted : goal.returns-clause-inserted
returns-clause-inserted g c =
    let i = c.loop-moved.invariant in
    let end : c.loop-moved.moved ≡ c.args.used - c.args.p = omega (arith, i.far, c.loop-moved-test.false) in
    on_ok_weaker _ (λ w. inserted (rw end at i.shifted) c.requires.inside c.requires.short (omega (arith, c.requires.room, c.requires.fits)) c.requires.place c.in_ok-set_entry-2.ensures.set
    (w ∙ ap (λ (n : ℕ). with_field (g.A.Area.image c.set_entry-2.new.area) c.args.at vxr_n_used_entries n) (of_z-to_z w32 (c.args.used + 1) (omega (arith, c.requires.inside.room, c.requires.room, c.requires.fits)) ∙ add-one c.args.used))) c.set_vxr_n_used_entries.ensures.ok
