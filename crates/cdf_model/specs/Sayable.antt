-- What holds of every command that a line gives (own).
use Rattle.std.specs.Prelude.{ℕ, ◌+◌, ◌≡◌, ◌≤◌, ⊤, List, map, length}
use Rattle.std.specs.List.{sum}
use Rattle.cdf_model.specs.declared.command.Command.{Command}
use Rattle.cdf_model.specs.declared.command.Command.TheVariants as commands
use Rattle.cdf_model.specs.declared.kinds.Scope.{Scope}
use Rattle.cdf_model.specs.declared.kinds.Scope.TheVariants.{Global, Variable, GlobalAssumed, VariableAssumed}
use Rattle.cdf_model.specs.Limits.{line_limit}

-- values with a separator each fit on a line
abbrev pub Fit : List (List ℕ) → Type 0
Fit words = sum (map (λ word. length word + 1) words) ≤ line_limit

abbrev pub CanBeGiven : Scope → Type 0
CanBeGiven Global = ⊤
CanBeGiven Variable = ⊤
CanBeGiven GlobalAssumed = ⊥
CanBeGiven VariableAssumed = ⊥

-- an attribute gets no assumed scope, and there are as many values as the command takes, which fit on a line
abbrev pub Sayable : Command → Type 0
Sayable (commands.Attr name scope) = CanBeGiven scope
Sayable (commands.PutEntry attr kind num t words) = (1 ≤ length words) × Fit words
Sayable (commands.SetPad var words) = (length words ≡ 1) × Fit words
Sayable (commands.PutVal var rec index words) = (length words ≡ 1) × Fit words
Sayable (commands.PutRec var rec words) = Fit words
Sayable c = ⊤
