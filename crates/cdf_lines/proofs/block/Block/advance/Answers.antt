use Rattle.std.proofs.Common.{◌≡◌, ◌+◌, ◌-◌, ◌∷◌, ◌∙◌, refl, sym, ap, take, drop, arith}
use Rattle.std.specs.Prelude.{Some}
use Rattle.cdf_lines.specs.Waiting.{Standing, short_lines, next_of}
use Rattle.cdf_lines.proofs.Newlines.{next_line, no_next_line}
use Rattle.cdf_lines.proofs.block.Block.advance.Goals as goal

pub returns-in_default-clause-none : goal.returns-in_default-clause-none
returns-in_default-clause-none c =
    let found = rw (c.deref.ensures.value, c.next-start.ensures) at (sym c.in_default.is ∙ c.newline_in.ensures) in
    (λ _. ap (λ (s : Standing). s.others) (sym c.self.view_is) ∙ no_next_line c.self.inside.behind.items (next_of c.self.inside.place) found, λ _. refl)

others_are : (c : goal.After-self-1) → c.args.self.now.others ≡ Some (take c.in-Some.size (drop c.next-start.result c.self.inside.behind.items)) ∷ short_lines (drop (c.next-start.result + c.in-Some.size + 1) c.self.inside.behind.items)
others_are c =
    let found = rw c.deref.ensures.value at (sym c.in-Some.is ∙ c.newline_in.ensures) in
    let starts : short_lines (drop (next_of c.self.inside.place) c.self.inside.behind.items) ≡ short_lines (drop c.next-start.result c.self.inside.behind.items) = rw c.next-start.ensures refl in
    ap (λ (s : Standing). s.others) (sym c.self.view_is) ∙ starts ∙ next_line c.self.inside.behind.items c.next-start.result c.in-Some.size (omega arith) found

pub returns-clause-none : goal.returns-clause-none
returns-clause-none c =
    let others = others_are c in
    (λ never. cc, λ none. cc)

pub returns-clause-line : goal.returns-clause-line
returns-clause-line c =
    let size : c.next-start.result + c.in-Some.size - c.next-start.result ≡ c.in-Some.size = omega arith in
    λ _. rw size (others_are c)
