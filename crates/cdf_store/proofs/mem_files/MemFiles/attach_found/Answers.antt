use Rattle.std.proofs.Common.{◌≡◌, ℕ, ◌<◌, ap, ◌∙◌, sym, subst, length, Some, rules}
use Rattle.std.specs.Option.{option_map}
use Rattle.cdf_store.proofs.Files.{held_read, listed_at}
use Rattle.cdf_store.proofs.mem_files.MemFiles.attach_found.Goals as goal

pub invariant_of-self : goal.invariant_of-self
invariant_of-self c =
    let s = c.args.self.now in
    let named = rw c.deref.ensures.value at c.in-Some.ensures.named in
    let lt = rw c.deref.ensures.value at c.in-Some.ensures.range in
    record {
      in_range = λ x e. let it : c.in-Some.place ≡ x = cc in subst (λ (n : ℕ). n < length s.list.items) it lt;
      distinct = s.distinct;
      listed = listed_at s.list.items c.in-Some.place c.args.name.now s.distinct named;
    }

pub returns-in-Some-clause-length : goal.returns-in-Some-clause-length
returns-in-Some-clause-length c =
    let lt = rw c.deref.ensures.value at c.in-Some.ensures.range in
    let long : c.len.result ≡ length c.index.result.now.bytes.items = search rules in
    ap Some long ∙ sym (ap (option_map length) (held_read c.args.self.now.list.items c.in-Some.place c.index.result.now lt c.index.ensures))
