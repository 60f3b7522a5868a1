use Rattle.std.proofs.Common.{ap, ◌∙◌}
use Rattle.cdf_store.specs.Named.{lookup}
use Rattle.cdf_store.specs.MemFiles.{entries_of, held_of}
use Rattle.cdf_store.proofs.Files.{lookup_made, made_some}
use Rattle.cdf_store.proofs.mem_files.MemFiles.attach.Goals as goal

pub returns-clause-held : goal.returns-clause-held
returns-clause-held c =
    c.attach_found.ensures.held ∙ ap (lookup c.args.name.now) c.in_ok-make_absent.ensures.files ∙ lookup_made c.args.name.now (entries_of c.args.self.now) c.args.make

pub returns-clause-made : goal.returns-clause-made
returns-clause-made c asked =
    let held = c.attach_found.ensures.held ∙ ap (lookup c.args.name.now) c.in_ok-make_absent.ensures.files ∙ lookup_made c.args.name.now (entries_of c.args.self.now) c.args.make in
    rw c.attach_found.ensures.length (made_some c.args.make (lookup c.args.name.now (entries_of c.args.self.now)) (held_of c.attach_found.new.self) asked held)
