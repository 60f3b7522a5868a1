use Rattle.cdf_check.proofs.Common.{false, sym, true, ◌∙◌, ◌≡◌}
use Rattle.cdf_names.specs.Names.{has_name}
use Rattle.cdf_check.proofs.NameSteps.{named_anew, named_still, named_twice, none_broken}
use Rattle.cdf_check.proofs.names.Names.add.Goals as goal

pub returns-then-is_some : goal.returns-then-is_some
returns-then-is_some c = record {
  named = λ name_of places is are. named_still name_of places c.args.place c.args.self.now are (sym c.is_some.ensures ∙ c.if-is_some.true);
}

pub returns-then-is_some-2 : goal.returns-then-is_some-2
returns-then-is_some-2 c =
    let none = none_broken c.args.self.now.repeated (sym c.is_some.ensures ∙ c.if-is_some.false) in
    let exact = rw c.as_slice.ensures at c.find.ensures.exact in
    let old : has_name c.args.self.now.table c.args.name ≡ true = sym exact ∙ (sym c.is_some-2.ensures ∙ c.if-is_some-2.true) in
    record { named = λ name_of places is are. named_twice name_of places c.args.place c.args.self.now are none (rw is at old) }

pub returns : goal.returns
returns c =
    let none = none_broken c.args.self.now.repeated (sym c.is_some.ensures ∙ c.if-is_some.false) in
    let exact = rw c.as_slice.ensures at c.find.ensures.exact in
    let new : has_name c.args.self.now.table c.args.name ≡ false = sym exact ∙ (sym c.is_some-2.ensures ∙ c.if-is_some-2.false) in
    record { named = λ name_of places is are. rw (c.in_ok-add.ensures.added, is) (named_anew name_of places c.args.place c.args.self.now are none (rw is at new)) }
