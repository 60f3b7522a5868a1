use Rattle.cdf_index.proofs.Common.{ap, arith, of_z-to_z, on_ok_weaker, vxr_n_used_entries, with_field, ℕ, ◌+◌, ◌∙◌}
use Rattle.std.specs.Int.{w32}
use Rattle.cdf_index.proofs.Inserting.{shortened}
use Rattle.cdf_index.proofs.splitting.shorten_node.Goals as goal

pub returns-clause-shortened : goal.returns-clause-shortened
returns-clause-shortened g c =
    let fits = rw (← c.requires.used) at c.requires.inside.fits in
    on_ok_weaker _ (λ w. shortened _ _ _ _ _ c.args.at c.args.used c.args.p c.args.entry.first c.args.entry.last c.args.entry.place c.args.next c.requires.inside c.requires.short fits c.requires.place (omega arith) c.in_ok-clear_entries.ensures.cleared c.in_ok-set_entry.ensures.set
    (c.in_ok-set_vxr_n_used_entries.ensures.ok ∙ ap (λ (n : ℕ). with_field (g.A.Area.image c.set_entry.new.area) c.args.at vxr_n_used_entries n) (of_z-to_z w32 (c.args.p + 1) (omega arith))) w) c.set_vxr_vxr_next.ensures.ok
