use Rattle.cdf_check.proofs.Common.{Err, Global, List, Ok, Row, Vec, Yields, adr_name, adr_ngr_entries, adr_nz_entries, adr_rows, all_of_three, chain_rows, entries_rows, gr_entry_chain, name_in, second_of_three, whole, z_entry_chain, ℕ, ◌≡◌}
use Rattle.cdf_check.proofs.attributes.check_attribute.Goals as goal

gr_rows : List ℕ → List ℕ → ℕ → List Row
gr_rows b ts adr = chain_rows 4 (gr_entry_chain b ts adr) (entries_rows b adr adr_ngr_entries)

z_rows : List ℕ → List ℕ → ℕ → List Row
z_rows b ts adr = chain_rows 4 (z_entry_chain b ts adr) (entries_rows b adr adr_nz_entries)

pub returns-in-Err-2-clause-found : goal.returns-in-Err-2-clause-found
unfolding gr_rows z_rows
returns-in-Err-2-clause-found g c =
    let b = g.A.Area.image c.args.area.now in
    let ts = c.args.tiles.now in
    let adr = c.args.adr in
    let gr : Yields (gr_rows b ts adr) (λ (e : Vec ℕ Global). gr_entry_chain b ts adr ≡ whole e.items) (Err c.in-Err-2.broken) = rw (c.in-Err-2.is, c.check_fields.ensures.area.image) at c.in_ok-entries.ensures.found in
    second_of_three (adr_rows b adr) (gr_rows b ts adr) (z_rows b ts adr) c.in-Err-2.broken.rule c.in-Err-2.broken.place gr

pub returns-clause-found : goal.returns-clause-found
unfolding gr_rows z_rows
returns-clause-found g c =
    let b = g.A.Area.image c.args.area.now in
    let ts = c.args.tiles.now in
    let adr = c.args.adr in
    let fields : Yields (adr_rows b adr) (λ (name : List ℕ). name ≡ name_in b adr adr_name) (Ok c.in-Ok.name) = rw c.in-Ok.is at c.in_ok-name.ensures.found in
    let gr : Yields (gr_rows b ts adr) (λ (e : Vec ℕ Global). gr_entry_chain b ts adr ≡ whole e.items) (Ok c.in-Ok-2.entries) = rw (c.in-Ok-2.is, c.check_fields.ensures.area.image) at c.in_ok-entries.ensures.found in
    let z : Yields (z_rows b ts adr) (λ (e : Vec ℕ Global). z_entry_chain b ts adr ≡ whole e.items) (Ok c.in-Ok-3.entries) = rw (c.in-Ok-3.is, c.check_entries.ensures.area.image, c.check_fields.ensures.area.image) at c.in_ok-entries-2.ensures.found in
    (all_of_three (adr_rows b adr) (gr_rows b ts adr) (z_rows b ts adr) fields.0 gr.0 z.0, record { name = fields.1; gr = gr.1; z = z.1 })
