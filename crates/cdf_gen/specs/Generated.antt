-- The script that is generated from a number, for trials (own).
use Rattle.std.specs.Prelude.{ℕ, zero, suc, ◌+◌, ◌*◌, ◌^◌, ◌/◌, ◌%◌, ◌==◌, List, [], codes, if◌then◌else◌}
use Rattle.std.specs.Fmt.{decimal}
use Rattle.std.specs.Int.{bytes_high_first}
use Rattle.std.specs.List.{repeat}
use Rattle.cdf_model.specs.Texts.{◌⧺◌, newline}
use Rattle.cdf_model.specs.Values.{hex_text}

-- an attribute of variables and three variables: of one number, of three, and of sixteen, the last one compressed
abbrev pub first_lines : List ℕ
first_lines =
    codes "attr VAR_TYPE variable" ⧺ newline
    ⧺ codes "zvar A INT4 1 vary - -" ⧺ newline
    ⧺ codes "zvar B REAL8 1 vary 3 T" ⧺ newline
    ⧺ codes "zvar C UINT1 1 vary 16 T" ⧺ newline
    ⧺ codes "set-compress C rle" ⧺ newline

-- the number that follows a number, by a linear congruence
abbrev pub next_number : ℕ → ℕ
next_number x = (6364136223846793005 * x + 1442695040888963407) % 2 ^ 64

-- a number below 2 ^ 64 as 16 lower-case hexadecimal digits
unfoldable pub hexadecimal : ℕ → List ℕ
hexadecimal x = hex_text (bytes_high_first 8 x)

-- which of four commands stands in the line of a number
abbrev pub kind_of : ℕ → ℕ
kind_of x = x / 2 ^ 33 % 4

-- the number of the record that the command puts
abbrev pub record_of : ℕ → ℕ
record_of x = x / 2 ^ 40 % 1000

-- a record of A, of one value below 100000
unfoldable pub put_in_a : ℕ → List ℕ
put_in_a x = codes "put-rec A " ⧺ decimal (record_of x) ⧺ codes " " ⧺ decimal (x / 2 ^ 16 % 100000)

-- a record of B, three times the number itself
unfoldable pub put_in_b : ℕ → List ℕ
put_in_b x = codes "put-rec B " ⧺ decimal (record_of x) ⧺ repeat 3 (codes " " ⧺ hexadecimal x)

-- a record of C, sixteen times a value below 4
unfoldable pub put_in_c : ℕ → List ℕ
put_in_c x = codes "put-rec C " ⧺ decimal (record_of x) ⧺ repeat 16 (codes " " ⧺ decimal (x / 2 ^ 8 % 4))

-- the number of the variable that the entry is for
abbrev pub variable_of : ℕ → ℕ
variable_of x = record_of x % 3

-- an entry of the attribute for A, B or C
unfoldable pub put_entry : ℕ → List ℕ
put_entry x = codes "put-entry VAR_TYPE z " ⧺ decimal (variable_of x) ⧺ codes " CHAR \"data\""

-- the command of a number
unfoldable pub command_of : ℕ → List ℕ
command_of x =
    if kind_of x == 0 then put_in_a x
    else (if kind_of x == 1 then put_in_b x
    else (if kind_of x == 2 then put_in_c x
    else put_entry x))

-- its line
abbrev pub line_of : ℕ → List ℕ
line_of x = command_of x ⧺ newline

-- so many lines, the first of the number that follows x, each further line of the number that follows the last
abbrev pub lines_behind : ℕ → ℕ → List ℕ
lines_behind x zero = []
lines_behind x (suc count) = line_of (next_number x) ⧺ lines_behind (next_number x) count

-- the first lines, and then n lines, of the numbers that follow n
abbrev pub script_of : ℕ → List ℕ
script_of n = first_lines ⧺ lines_behind n n
