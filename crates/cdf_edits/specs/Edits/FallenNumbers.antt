-- Numbers once a variable is gone: those of later ones are less by one.
use Rattle.std.specs.Prelude.{ℕ, ◌-◌, nat_lt, if◌then◌else◌}

abbrev pub fallen : ℕ → ℕ → ℕ
fallen num n = if nat_lt num n then n - 1 else n
