-- Which records the blocks of a variable hold, before and after a command (CDF Internal Format Description, "Variable Index Record"; CDF User's Guide, Variables: blocking factor; own: 64 records where it is not positive, 1,048,576 bytes at most).
use Rattle.std.specs.Prelude.{ℕ, ℤ, pos, negsuc, zero, suc, ◌+◌, ◌-◌, ◌/◌, min, max, List, [], ◌∷◌, ◌++◌, map, Bool, true, false, ◌&&◌, nat_lt, nat_le, find, if◌then◌else◌, Some, None}
use Rattle.std.specs.List.{filter, flat_map, fold, sum}
use Rattle.cdf_model.specs.declared.kinds.Sparse.{Sparse}
use Rattle.cdf_model.specs.declared.kinds.Sparse.TheVariants.{NoRule}
use Rattle.cdf_model.specs.DataSet.{Variable, extent}
use Rattle.cdf_model.specs.Limits.{record_number_limit}
use Rattle.cdf_model.specs.Place.{record_size}
use Rattle.cdf_model.specs.RecordSteps.{without_records}
use Rattle.cdf_format.specs.Index.{Nodes, no_node, node, Entries, no_entry, block, lower, leaves_of}

-- the records from a first to a last
pub record Range : Type 0 where
  pub first : ℕ
  pub last : ℕ

abbrev pub range : ℕ → ℕ → Range
range first last = record { first = first; last = last }

-- the records of each block, in order
abbrev pub ranges_of : Nodes → List Range
ranges_of nodes = map (λ leaf. range leaf.first leaf.last) (leaves_of nodes)

abbrev pub covers : ℕ → Range → Bool
covers n r = nat_le r.first n && nat_le n r.last

-- how many records from a first to a last are among those of a range, and of several that share none
abbrev pub shared : ℕ → ℕ → Range → ℕ
shared first last r = min (last + 1) (r.last + 1) - max first r.first

abbrev pub covered : ℕ → ℕ → List Range → ℕ
covered first last ranges = sum (map (shared first last) ranges)

-- ---- new blocks

-- how many records a block is to hold whose BlockingFactor is not positive, and the most bytes of a new block of several records
abbrev pub usual_count : ℕ
usual_count = 64

abbrev pub block_limit : ℕ
block_limit = 1048576

-- BlockingFactor, and the usual count where that is not positive
abbrev pub wanted_count : ℤ → ℕ
wanted_count (pos zero) = usual_count
wanted_count (pos (suc n)) = suc n
wanted_count (negsuc n) = usual_count

abbrev pub record_length : Variable → ℕ
record_length v = record_size v.type v.elems v.dims v.varys

-- how many records a new block holds: no more than the limit has room for, but one at least, and one where records do not vary
abbrev pub block_count : Variable → ℕ
block_count v = if v.vary then max 1 (min (wanted_count v.blocking) (block_limit / record_length v)) else 1

unfoldable mutual
  -- First of each entry, at each level
  pub firsts_of : Nodes → List ℕ
  firsts_of no_node = []
  firsts_of (node place room entries more) = entry_firsts entries ++ firsts_of more

  pub entry_firsts : Entries → List ℕ
  entry_firsts no_entry = []
  entry_firsts (block first last place packed entries) = first ∷ entry_firsts entries
  entry_firsts (lower first last nodes entries) = first ∷ firsts_of nodes ++ entry_firsts entries

-- the least of these numbers that is past n, or one past the greatest number of a record
abbrev pub next_first : ℕ → List ℕ → ℕ
next_first n firsts = fold min (record_number_limit + 1) (filter (nat_lt n) firsts)

-- A block that is made for record n: up to MaxRec it holds this one alone; past MaxRec it holds as many as `block_count` says, but ends before the next First of any entry.
abbrev pub new_range : Variable → List ℕ → ℕ → Range
new_range v firsts n = if nat_lt n (extent v.max_rec) then range n n else range n (min (n + block_count v) (next_first n firsts) - 1)

abbrev pub with_range : Range → List Range → List Range
with_range new [] = new ∷ []
with_range new (r ∷ more) = if nat_lt new.first r.first then new ∷ r ∷ more else r ∷ with_range new more

-- so many records at most from n on, up to a last, get a block where they have none, in ascending order
unfoldable pub cover : ℕ → Variable → List ℕ → ℕ → ℕ → List Range → List Range
cover zero v firsts n last ranges = ranges
cover (suc most) v firsts n last ranges =
    if nat_lt last n then ranges
    else elim (find (covers n) ranges) [
      | Some r ↦ cover most v firsts (r.last + 1) last ranges
      | None ↦ cover most v firsts ((new_range v firsts n).last + 1) last (with_range (new_range v firsts n) ranges)
    ]

-- ---- cutting

-- records from a first to a last go; what is left of a range, before and after
abbrev pub left_of : ℕ → ℕ → Range → List Range
left_of first last r =
    (if nat_lt r.first first then range r.first (min r.last (first - 1)) ∷ [] else [])
    ++ (if nat_lt last r.last then range (max r.first (last + 1)) r.last ∷ [] else [])

abbrev pub cut_open : ℕ → ℕ → List Range → List Range
cut_open first last ranges = flat_map (left_of first last) ranges

-- They go, and later numbers fall by as many numbers as stand from the first to the last; one that goes counts as the first.
abbrev pub fallen : ℕ → ℕ → ℕ → ℕ
fallen first last n = if nat_lt n first then n else (if nat_le n last then first else n - (last + 1 - first))

abbrev pub cut_closed : ℕ → ℕ → List Range → List Range
cut_closed first last ranges =
    flat_map (λ r. if nat_lt (fallen first last r.first) (fallen first last (r.last + 1)) then range (fallen first last r.first) (fallen first last (r.last + 1) - 1) ∷ [] else []) ranges

-- ---- commands

abbrev pub is_sparse : Sparse → Bool
is_sparse NoRule = false
is_sparse rule = true

-- the first record that is written where record n is put: without a rule, those past MaxRec too
abbrev pub first_written : Variable → ℕ → ℕ
first_written v n = if is_sparse v.sparse then n else min n (extent v.max_rec)

-- Under a rule, a record past MaxRec + 1 first cuts what is past MaxRec: else records that a block covers past MaxRec would become stored.
abbrev pub cuts_before_put : Variable → ℕ → Bool
cuts_before_put v n = is_sparse v.sparse && nat_lt (extent v.max_rec) n

abbrev pub ranges_before_put : Variable → Nodes → ℕ → List Range
ranges_before_put v nodes n = if cuts_before_put v n then cut_open (extent v.max_rec) record_number_limit (ranges_of nodes) else ranges_of nodes

abbrev pub firsts_before_put : Variable → Nodes → ℕ → List ℕ
firsts_before_put v nodes n = if cuts_before_put v n then filter (λ first. nat_lt first (extent v.max_rec)) (firsts_of nodes) else firsts_of nodes

abbrev pub ranges_after_put : Variable → Nodes → ℕ → List Range
ranges_after_put v nodes n = cover (n + 1 - first_written v n) v (firsts_before_put v nodes n) (first_written v n) n (ranges_before_put v nodes n)

-- under a rule, what is past the new MaxRec is cut too
abbrev pub extent_after : Variable → ℕ → ℕ → ℕ
extent_after v first last = extent (without_records v.sparse v first last).max_rec

abbrev pub ranges_after_cut : Variable → Nodes → ℕ → ℕ → List Range
ranges_after_cut v nodes first last =
    if is_sparse v.sparse then cut_open (extent_after v first last) record_number_limit (cut_open first last (ranges_of nodes))
    else cut_closed first last (ranges_of nodes)
