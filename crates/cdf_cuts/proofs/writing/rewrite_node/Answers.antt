use Rattle.cdf_cuts.proofs.Common.{ap, arith, length, of_z-to_z, on_ok_weaker, vxr_n_used_entries, with_field, ℕ, ◌∙◌, ◌≡◌}
use Rattle.std.specs.Int.{w32}
use Rattle.cdf_cuts.proofs.Rewriting.{node_rewritten}
use Rattle.cdf_cuts.proofs.writing.rewrite_node.Goals as goal

pub returns-clause-rewritten : goal.returns-clause-rewritten
returns-clause-rewritten g c =
    let n = c.args.node.now in
    let len : c.len.result ≡ length n.entries.items = omega (arith, c.len.ensures, n.entries.ok) in
    let written = rw c.deref.ensures.value at c.in_ok-write_entries.ensures.written in
    on_ok_weaker _ (λ w. node_rewritten _ _ _ n.place n.room n.used n.entries.items c.requires.inside c.requires.short c.requires.room c.requires.used c.requires.few written (w ∙ ap (λ (x : ℕ). with_field (g.A.Area.image c.write_entries.new.area) n.place vxr_n_used_entries x) (of_z-to_z w32 c.len.result (omega (arith, len, c.requires.few, c.requires.used, c.requires.inside.fits, c.requires.inside.room, c.requires.short)) ∙ len))) c.set_vxr_n_used_entries.ensures.ok
