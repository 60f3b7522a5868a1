use Rattle.cdf_pages.proofs.Common.{TakesAtMost, ap, ap₂, arith, cost_of_writing, eqb-true, file_of, get, image_of, is_in, keys_of, length, nat_cmp, page_at, put, refl, rules, subst, sym, was, ℕ, ◌/◌, ◌<◌, ◌∙◌, ◌≡◌}
use Rattle.cdf_pages.proofs.Filling.{on_err, true_not_false}
use Rattle.cdf_pages.proofs.Images.{image_same, image_size, put_empty}
use Rattle.cdf_pages.proofs.Growing.{kept_backed, was_backed, kept_serves}
use Rattle.cdf_pages.proofs.Costs.{changes, changes_none, changes_some, pages_between, some_length, takes_same}
use Rattle.cdf_pages.proofs.paged_area.PagedAreaArea.set.Goals as goal

pub invariant_of-self : goal.invariant_of-self
invariant_of-self g c =
    let file = ap (λ d. file_of d) c.own_pages-owned.ensures.disk in
    record {
      backed = kept_backed (page_at c.args.self.now.sheets.changed) (page_at c.own_pages-owned.new.sheets.changed) _ _ c.args.self.now.sheets.length _ file c.own_pages-owned.ensures.length c.own_pages-owned.ensures.grown.less c.args.self.now.backed;
      base_backed = was_backed (λ q. was (get nat_cmp c.args.self.now.sheets.kept q) (page_at c.args.self.now.sheets.changed q)) (λ q. was (get nat_cmp c.own_pages-owned.new.sheets.kept q) (page_at c.own_pages-owned.new.sheets.changed q)) _ _ c.args.self.now.sheets.marked _ c.args.self.now.sheets.length _
          file c.own_pages-owned.ensures.length c.own_pages-owned.ensures.marked c.own_pages-owned.ensures.grown.was c.args.self.now.base_backed;
      serves = kept_serves g.S.Store.lends (page_at c.args.self.now.sheets.changed) (page_at c.own_pages-owned.new.sheets.changed) _ _ c.args.self.now.sheets.length _ c.args.self.now.clean.entries c.own_pages-owned.new.clean.entries file c.own_pages-owned.ensures.length c.own_pages-owned.ensures.fewer c.own_pages-owned.ensures.apart c.args.self.now.serves;
      measured = c.args.self.now.measured ∙ sym (ap length file);
      valid = c.len-count.ensures.valid;
      cap = c.own_pages-owned.ensures.cap ∙ c.args.self.now.cap;
      unedited = λ e. absurd (true_not_false e);
    }

pub returns-in_err-owned-clause-area : goal.returns-in_err-owned-clause-area
returns-in_err-owned-clause-area g c =
    let F = file_of (g.S.Store.disk c.args.self.now.store) in
    record {
      stays = on_err _ (ap₂ (λ d n. image_of (page_at c.own_pages-owned.new.sheets.changed) (file_of d) n) c.own_pages-owned.ensures.disk c.own_pages-owned.ensures.length
          ∙ image_same (page_at c.own_pages-owned.new.sheets.changed) (page_at c.args.self.now.sheets.changed) F F c.args.self.now.sheets.length c.own_pages-owned.ensures.grown.same);
      size = image_size _ _ c.own_pages-owned.new.sheets.length ∙ c.own_pages-owned.ensures.length ∙ sym (image_size _ _ c.args.self.now.sheets.length);
      frame = search rules;
      cause = search rules;
    }

pub returns-then-is_empty-clause-written : goal.returns-then-is_empty-clause-written
returns-then-is_empty-clause-written g c = sym (put_empty _ c.args.place c.args.bytes.now (eqb-true (length c.args.bytes.now) 0 (sym c.is_empty.ensures ∙ c.if-is_empty.true)))

pub returns-clause-written : goal.returns-clause-written
returns-clause-written g c =
    let F = file_of (g.S.Store.disk c.args.self.now.store) in
    let mid : image_of (page_at c.own_pages-owned.new.sheets.changed) F c.own_pages-owned.new.sheets.length ≡ image_of (page_at c.args.self.now.sheets.changed) F c.args.self.now.sheets.length =
    ap (λ n. image_of (page_at c.own_pages-owned.new.sheets.changed) F n) c.own_pages-owned.ensures.length
    ∙ image_same (page_at c.own_pages-owned.new.sheets.changed) (page_at c.args.self.now.sheets.changed) F F c.args.self.now.sheets.length c.own_pages-owned.ensures.grown.same in
    ap₂ (λ d n. image_of (page_at c.write_range.new.sheets.changed) (file_of d) n) c.own_pages-owned.ensures.disk c.write_range.ensures.length
    ∙ c.write_range.ensures.image F ∙ ap (λ b. put b c.args.place c.args.bytes.now) mid

pub returns-then-is_empty-clause-changes : goal.returns-then-is_empty-clause-changes
returns-then-is_empty-clause-changes g c = changes_none (is_in (page_at c.args.self.now.sheets.changed)) (keys_of c.args.self.now.clean.entries) c.args.place (length c.args.bytes.now) (eqb-true (length c.args.bytes.now) 0 (sym c.is_empty.ensures ∙ c.if-is_empty.true))

pub returns-then-is_empty-clause-taken : goal.returns-then-is_empty-clause-taken
returns-then-is_empty-clause-taken g c = takes_same _ _ _ refl

pub returns-in_err-owned-clause-some : goal.returns-in_err-owned-clause-some
returns-in_err-owned-clause-some g c =
    let some : 0 < (length c.args.bytes.now) = some_length (length c.args.bytes.now) (sym c.is_empty.ensures ∙ c.if-is_empty.false) in
    let part = changes_some (page_at c.args.self.now.sheets.changed) (page_at c.own_pages-owned.new.sheets.changed) c.args.self.now.clean.entries c.own_pages-owned.new.clean.entries c.args.place (length c.args.bytes.now) some c.own_pages-owned.ensures.others c.own_pages-owned.ensures.grown.less c.own_pages-owned.ensures.clean in
    on_err _ (part)

pub returns-in_err-owned-clause-taken : goal.returns-in_err-owned-clause-taken
returns-in_err-owned-clause-taken g c =
    let some : 0 < (length c.args.bytes.now) = some_length (length c.args.bytes.now) (sym c.is_empty.ensures ∙ c.if-is_empty.false) in
    subst (λ (count : ℕ). TakesAtMost (g.S.Store.taken c.args.self.now.store) (g.S.Store.taken c.own_pages-owned.new.store) (cost_of_writing (is_in (page_at c.args.self.now.sheets.changed)) (keys_of c.args.self.now.clean.entries) (length (file_of (g.S.Store.disk c.args.self.now.store))) (c.args.place / 65536) count)) (pages_between c.args.place (length c.args.bytes.now) some) c.own_pages-owned.ensures.taken

pub returns-clause-changes : goal.returns-clause-changes
returns-clause-changes g c =
    let some : 0 < (length c.args.bytes.now) = some_length (length c.args.bytes.now) (sym c.is_empty.ensures ∙ c.if-is_empty.false) in
    changes (page_at c.args.self.now.sheets.changed) (page_at c.own_pages-owned.new.sheets.changed) c.args.self.now.clean.entries c.own_pages-owned.new.clean.entries c.args.place (length c.args.bytes.now) (page_at c.write_range.new.sheets.changed) some c.own_pages-owned.ensures.others c.in_ok-owned.ensures.owned.there c.write_range.ensures.less c.write_range.ensures.others c.in_ok-owned.ensures.gone

pub returns-clause-taken : goal.returns-clause-taken
returns-clause-taken g c =
    let some : 0 < (length c.args.bytes.now) = some_length (length c.args.bytes.now) (sym c.is_empty.ensures ∙ c.if-is_empty.false) in
    subst (λ (count : ℕ). TakesAtMost (g.S.Store.taken c.args.self.now.store) (g.S.Store.taken c.own_pages-owned.new.store) (cost_of_writing (is_in (page_at c.args.self.now.sheets.changed)) (keys_of c.args.self.now.clean.entries) (length (file_of (g.S.Store.disk c.args.self.now.store))) (c.args.place / 65536) count)) (pages_between c.args.place (length c.args.bytes.now) some) c.own_pages-owned.ensures.taken

pub write_range-requires-clause-ready : goal.write_range-requires-clause-ready
write_range-requires-clause-ready g c q low high s = c.in_ok-owned.ensures.owned.ready q low (omega arith) s
