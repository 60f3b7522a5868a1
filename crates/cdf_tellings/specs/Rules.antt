-- The numbers of the rules of a well-formed file.
use Rattle.std.specs.Prelude.{ℕ, Bool, nat_lt, nat_le, ◌&&◌, ◌==◌, if◌then◌else◌}

-- the last rule of a phase, but for a rule 99; 0 where there is no such phase
abbrev pub last_rule : ℕ → ℕ
last_rule phase = if phase == 0 then 2 else if phase == 1 then 2 else if phase == 2 then 6 else if phase == 3 then 5 else if phase == 4 then 3 else if phase == 5 then 11 else if phase == 6 then 8 else if phase == 7 then 12 else if phase == 8 then 8 else if phase == 9 then 1 else if phase == 10 then 1 else 0

-- the phase that has a rule 99: what the format allows and is not read yet
abbrev pub has_unread : ℕ → Bool
has_unread phase = phase == 9

-- there is this rule in this phase
abbrev pub is_rule : ℕ → ℕ → Bool
is_rule phase number = if number == 99 then has_unread phase else nat_lt 0 number && nat_le number (last_rule phase)
