use Rattle.std.proofs.Common.{refl, ap, ◌∙◌}
use Rattle.cdf_store.specs.Named.{with_file}
use Rattle.cdf_store.specs.MemFile.{entries}
use Rattle.cdf_store.proofs.Files.{put_at, put_new}
use Rattle.cdf_store.proofs.mem_files.put_entry.Goals as goal

pub returns-in-Some-clause-ok : goal.returns-in-Some-clause-ok
returns-in-Some-clause-ok c =
    let named = rw c.deref.ensures.value at c.in-Some.ensures.named in
    let lt = rw c.deref.ensures.value at c.in-Some.ensures.range in
    put_at c.args.files.now.items c.in-Some.place c.index_mut.result.now (record { name = c.index_mut.result.now.name; bytes = c.in_ok-bytes.bytes }) c.args.name.now c.requires named lt c.index_mut.ensures.value refl
    ∙ ap (λ b. with_file c.args.name.now b (entries c.args.files.now.items)) c.in_ok-bytes.ensures.items

pub returns-in_ok-push-in-None-clause-ok : goal.returns-in_ok-push-in-None-clause-ok
returns-in_ok-push-in-None-clause-ok c =
    let none = rw c.deref.ensures.value at c.in-None.ensures.none in
    ap entries c.in_ok-push-in-None.ensures.items
    ∙ put_new c.args.files.now.items (record { name = c.in_ok-name-in-None.name; bytes = c.in_ok-bytes.bytes }) c.args.name.now none c.in_ok-name-in-None.ensures.ok
    ∙ ap (λ b. with_file c.args.name.now b (entries c.args.files.now.items)) c.in_ok-bytes.ensures.items
