-- The two records that each well-formed file has.
use Rattle.std.proofs.Common.{◌≡◌, ℕ, ◌+◌, ◌*◌, ◌≤◌, List, length, Bool, true, ◌&&◌, subst, arith}
use Rattle.cdf_format.proofs.Common.{nat_le, ◌==◌, number, size_at, type_at, gdr_offset, r_num_dims, gdr_r_num_dims, Hold, asked, KeepsFormat, is_record, gdr_rows}
use Rattle.cdf_format.proofs.Tests.{both, le_of, eq_of}

-- a record and its size
pub record HasRecord (f : List ℕ) (place type least : ℕ) : Type 0 where
  pub type_is : type_at f place ≡ type
  pub long : least ≤ size_at f place
  pub ends : place + size_at f place ≤ length f

pub record-of : (f : List ℕ) (place type least : ℕ) → is_record f place type least ≡ true → HasRecord f place type least
record-of f place type least e =
    let p = both (type_at f place == type) (nat_le least (size_at f place) && nat_le (place + size_at f place) (length f)) e in
    let q = both (nat_le least (size_at f place)) (nat_le (place + size_at f place) (length f)) p.1 in
    record { type_is = eq_of _ _ p.0; long = le_of _ _ q.0; ends = le_of _ _ q.1 }

pub cdr_record : (f : List ℕ) → KeepsFormat f → HasRecord f 8 1 312
cdr_record f holds = record-of f 8 1 312 holds.1.1.0.1.0

pub gdr_holds : (f : List ℕ) → KeepsFormat f → Hold (gdr_rows f (gdr_offset f))
gdr_holds f holds = subst (λ (t : Bool). Hold (asked t (gdr_rows f (gdr_offset f)))) holds.1.1.1.0.0 holds.1.1.1.0.1

pub gdr_record : (f : List ℕ) → KeepsFormat f → HasRecord f (gdr_offset f) 2 84
gdr_record f holds =
    let g = gdr_offset f in
    let least = 84 + 4 * r_num_dims f g in
    let r = record-of f g 2 least (both (nat_le (number f g gdr_r_num_dims) 10) (is_record f g 2 least) (gdr_holds f holds).0).1 in
    let long : least ≤ size_at f g = r.long in
    record { type_is = r.type_is; long = omega arith; ends = r.ends }
