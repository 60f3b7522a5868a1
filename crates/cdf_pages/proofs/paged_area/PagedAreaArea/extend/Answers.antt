use Rattle.cdf_pages.proofs.Common.{Changes, ChangesSome, Covers, List, TakesAtMost, ap, ap₂, arith, cost_of_writing, file_of, get, image_of, is_in, keys_of, length, nat_cmp, page_at, pages_in, part_from, part_upto, refl, replicate, rules, subst, sym, was, ℕ, ◌*◌, ◌++◌, ◌+◌, ◌/◌, ◌<◌, ◌∙◌, ◌≡◌, ◌≤◌, ◌⊎◌}
use Rattle.cdf_pages.proofs.Filling.{on_err, true_not_false}
use Rattle.cdf_pages.proofs.Images.{image_same, image_size}
use Rattle.cdf_pages.proofs.Growing.{kept_backed, was_backed, kept_serves}
use Rattle.cdf_pages.proofs.Costs.{changes, changes_none, changes_some, pages_between, takes_same}
use Rattle.cdf_pages.proofs.paged_area.PagedAreaArea.extend.Goals as goal

pub invariant_of-self : goal.invariant_of-self
invariant_of-self g c =
    let file = ap (λ d. file_of d) c.own_pages-owned.ensures.disk in
    record {
      backed = kept_backed (page_at c.args.self.now.sheets.changed) (page_at c.own_pages-owned.new.sheets.changed) _ _ c.args.self.now.sheets.length _ file c.own_pages-owned.ensures.length c.own_pages-owned.ensures.grown.less c.args.self.now.backed;
      base_backed = was_backed (λ q. was (get nat_cmp c.args.self.now.sheets.kept q) (page_at c.args.self.now.sheets.changed q)) (λ q. was (get nat_cmp c.own_pages-owned.new.sheets.kept q) (page_at c.own_pages-owned.new.sheets.changed q)) _ _ c.args.self.now.sheets.marked _ c.args.self.now.sheets.length _
          file c.own_pages-owned.ensures.length c.own_pages-owned.ensures.marked c.own_pages-owned.ensures.grown.was c.args.self.now.base_backed;
      serves = kept_serves g.S.Store.lends (page_at c.args.self.now.sheets.changed) (page_at c.own_pages-owned.new.sheets.changed) _ _ c.args.self.now.sheets.length _ c.args.self.now.clean.entries c.own_pages-owned.new.clean.entries file c.own_pages-owned.ensures.length c.own_pages-owned.ensures.fewer c.own_pages-owned.ensures.apart c.args.self.now.serves;
      measured = c.args.self.now.measured ∙ sym (ap length file);
      valid = c.len-count.ensures.valid;
      cap = c.own_pages-owned.ensures.cap ∙ c.args.self.now.cap;
      unedited = λ e. absurd (true_not_false e);
    }

pub returns-in_err-owned-clause-stays : goal.returns-in_err-owned-clause-stays
returns-in_err-owned-clause-stays g c =
    let F = file_of (g.S.Store.disk c.args.self.now.store) in
    on_err _ (ap₂ (λ d n. image_of (page_at c.own_pages-owned.new.sheets.changed) (file_of d) n) c.own_pages-owned.ensures.disk c.own_pages-owned.ensures.length
    ∙ image_same (page_at c.own_pages-owned.new.sheets.changed) (page_at c.args.self.now.sheets.changed) F F c.args.self.now.sheets.length c.own_pages-owned.ensures.grown.same)

pub returns-clause-longer : goal.returns-clause-longer
returns-clause-longer g c =
    let F = file_of (g.S.Store.disk c.args.self.now.store) in
    let mid : image_of (page_at c.own_pages-owned.new.sheets.changed) F c.own_pages-owned.new.sheets.length ≡ image_of (page_at c.args.self.now.sheets.changed) F c.args.self.now.sheets.length =
    ap (λ n. image_of (page_at c.own_pages-owned.new.sheets.changed) F n) c.own_pages-owned.ensures.length
    ∙ image_same (page_at c.own_pages-owned.new.sheets.changed) (page_at c.args.self.now.sheets.changed) F F c.args.self.now.sheets.length c.own_pages-owned.ensures.grown.same in
    ap (λ d. image_of (page_at c.zero_range.new.sheets.changed) (file_of d) c.zero_range.new.sheets.length) c.own_pages-owned.ensures.disk
    ∙ c.zero_range.ensures.image F ∙ ap (λ (b : List ℕ). b ++ replicate c.args.n 0) mid

pub returns-then-n-eq0-clause-changes : goal.returns-then-n-eq0-clause-changes
returns-then-n-eq0-clause-changes g c = changes_none (is_in (page_at c.args.self.now.sheets.changed)) (keys_of c.args.self.now.clean.entries) (length (image_of (page_at c.args.self.now.sheets.changed) (file_of (g.S.Store.disk c.args.self.now.store)) c.args.self.now.sheets.length)) c.args.n (search rules)

pub returns-then-n-eq0-clause-taken : goal.returns-then-n-eq0-clause-taken
returns-then-n-eq0-clause-taken g c = takes_same _ _ _ refl

pub returns-in_err-owned-clause-some : goal.returns-in_err-owned-clause-some
returns-in_err-owned-clause-some g c =
    let some : 0 < c.args.n = omega arith in
    let part = changes_some (page_at c.args.self.now.sheets.changed) (page_at c.own_pages-owned.new.sheets.changed) c.args.self.now.clean.entries c.own_pages-owned.new.clean.entries c.args.self.now.sheets.length c.args.n some c.own_pages-owned.ensures.others c.own_pages-owned.ensures.grown.less c.own_pages-owned.ensures.clean in
    on_err _ (subst (λ (m : ℕ). ChangesSome (is_in (page_at c.args.self.now.sheets.changed)) (is_in (page_at c.own_pages-owned.new.sheets.changed)) (keys_of c.args.self.now.clean.entries) (keys_of c.own_pages-owned.new.clean.entries) m c.args.n) (sym (image_size (page_at c.args.self.now.sheets.changed) (file_of (g.S.Store.disk c.args.self.now.store)) c.args.self.now.sheets.length)) (part))

pub returns-in_err-owned-clause-taken : goal.returns-in_err-owned-clause-taken
returns-in_err-owned-clause-taken g c =
    let some : 0 < c.args.n = omega arith in
    subst (λ (m : ℕ). TakesAtMost (g.S.Store.taken c.args.self.now.store) (g.S.Store.taken c.own_pages-owned.new.store) (cost_of_writing (is_in (page_at c.args.self.now.sheets.changed)) (keys_of c.args.self.now.clean.entries) (length (file_of (g.S.Store.disk c.args.self.now.store))) (m / 65536) (pages_in m c.args.n))) (sym (image_size (page_at c.args.self.now.sheets.changed) (file_of (g.S.Store.disk c.args.self.now.store)) c.args.self.now.sheets.length)) (subst (λ (count : ℕ). TakesAtMost (g.S.Store.taken c.args.self.now.store) (g.S.Store.taken c.own_pages-owned.new.store) (cost_of_writing (is_in (page_at c.args.self.now.sheets.changed)) (keys_of c.args.self.now.clean.entries) (length (file_of (g.S.Store.disk c.args.self.now.store))) (c.args.self.now.sheets.length / 65536) count)) (pages_between c.args.self.now.sheets.length c.args.n some) c.own_pages-owned.ensures.taken)

pub returns-clause-changes : goal.returns-clause-changes
returns-clause-changes g c =
    let some : 0 < c.args.n = omega arith in
    subst (λ (m : ℕ). Changes (is_in (page_at c.args.self.now.sheets.changed)) (is_in (page_at c.zero_range.new.sheets.changed)) (keys_of c.args.self.now.clean.entries) (keys_of c.own_pages-owned.new.clean.entries) m c.args.n) (sym (image_size (page_at c.args.self.now.sheets.changed) (file_of (g.S.Store.disk c.args.self.now.store)) c.args.self.now.sheets.length)) (changes (page_at c.args.self.now.sheets.changed) (page_at c.own_pages-owned.new.sheets.changed) c.args.self.now.clean.entries c.own_pages-owned.new.clean.entries c.args.self.now.sheets.length c.args.n (page_at c.zero_range.new.sheets.changed) some c.own_pages-owned.ensures.others c.in_ok-owned.ensures.owned.there c.zero_range.ensures.less (λ q o. c.zero_range.ensures.others q (subst (λ (m : ℕ). (q < m / 65536) ⊎ (m + c.args.n ≤ q * 65536)) (sym c.own_pages-owned.ensures.length) o)) c.in_ok-owned.ensures.gone)

pub returns-clause-taken : goal.returns-clause-taken
returns-clause-taken g c =
    let some : 0 < c.args.n = omega arith in
    subst (λ (m : ℕ). TakesAtMost (g.S.Store.taken c.args.self.now.store) (g.S.Store.taken c.own_pages-owned.new.store) (cost_of_writing (is_in (page_at c.args.self.now.sheets.changed)) (keys_of c.args.self.now.clean.entries) (length (file_of (g.S.Store.disk c.args.self.now.store))) (m / 65536) (pages_in m c.args.n))) (sym (image_size (page_at c.args.self.now.sheets.changed) (file_of (g.S.Store.disk c.args.self.now.store)) c.args.self.now.sheets.length)) (subst (λ (count : ℕ). TakesAtMost (g.S.Store.taken c.args.self.now.store) (g.S.Store.taken c.own_pages-owned.new.store) (cost_of_writing (is_in (page_at c.args.self.now.sheets.changed)) (keys_of c.args.self.now.clean.entries) (length (file_of (g.S.Store.disk c.args.self.now.store))) (c.args.self.now.sheets.length / 65536) count)) (pages_between c.args.self.now.sheets.length c.args.n some) c.own_pages-owned.ensures.taken)

pub zero_range-requires-clause-ready : goal.zero_range-requires-clause-ready
zero_range-requires-clause-ready g c q low high s =
    let size = c.own_pages-owned.ensures.length in
    subst (λ m. Covers (get nat_cmp c.own_pages-owned.new.sheets.kept q) (part_from m q) (part_upto (m + c.args.n) q)) (sym size) (c.in_ok-owned.ensures.owned.ready q (omega (arith, low, size)) (omega (arith, high, size)) s)
