use Rattle.std.proofs.Common.{List, ap, arith, length, refl, ℕ, ◌∙◌, ◌≡◌}
use Rattle.cdf_area.proofs.Calls.{read_done, read_failed, read_once}
use Rattle.cdf_index.specs.Sight.{seen}
use Rattle.cdf_packed_puts.proofs.LeafRewritten.{has_record, pads_long, read_fits, read_long, read_so, size_fits, small_last, stands_so}
use Rattle.cdf_packed_puts.specs.Rewriting.{written_over}
use Rattle.cdf_packed_puts.proofs.rewriting.read_rewritten.Goals as goal

pub block_size-size-requires-clause-ordered : goal.block_size-size-requires-clause-ordered
block_size-size-requires-clause-ordered g c = let h = has_record c.requires.some.into c.args.k c.args.found.now c.requires.found in omega (arith, h.0, h.1)

pub block_size-size-requires-clause-small : goal.block_size-size-requires-clause-small
block_size-size-requires-clause-small g c = small_last c.requires.some.into c.args.k c.args.found.now c.requires.found

pub block_size-size-requires-clause-fits : goal.block_size-size-requires-clause-fits
block_size-size-requires-clause-fits g c =
    let e : c.len-rec_bytes.result ≡ length c.args.put.now.raw.items = omega (arith, c.len-rec_bytes.ensures, c.args.put.now.raw.ok) in
    size_fits c.requires.some.into c.args.k c.args.found.now c.requires.found c.len-rec_bytes.result e c.requires.short

pub read_plain-requires-clause-stands : goal.read_plain-requires-clause-stands
read_plain-requires-clause-stands g c =
    let e : c.len-rec_bytes.result ≡ length c.args.put.now.raw.items = omega (arith, c.len-rec_bytes.ensures, c.args.put.now.raw.ok) in
    stands_so c.requires.some.into c.args.k c.args.found.now c.requires.found c.len-rec_bytes.result c.block_size-size.result e c.block_size-size.ensures c.requires.short

pub read_plain-requires-clause-short : goal.read_plain-requires-clause-short
read_plain-requires-clause-short g c = c.requires.short

pub returns-in_err-plain-clause-area : goal.returns-in_err-plain-clause-area
returns-in_err-plain-clause-area g c = read_failed (record { image = refl; edited = refl; frame = refl; faults = refl }) c.in_err-plain.ensures.area c.from_residual.ensures.1

pub with_records-requires-clause-from : goal.with_records-requires-clause-from
with_records-requires-clause-from g c = (has_record c.requires.some.into c.args.k c.args.found.now c.requires.found).0

pub with_records-requires-clause-upto : goal.with_records-requires-clause-upto
with_records-requires-clause-upto g c = (has_record c.requires.some.into c.args.k c.args.found.now c.requires.found).1

pub with_records-requires-clause-more : goal.with_records-requires-clause-more
with_records-requires-clause-more g c = c.requires.more

pub with_records-requires-clause-small : goal.with_records-requires-clause-small
with_records-requires-clause-small g c = small_last c.requires.some.into c.args.k c.args.found.now c.requires.found

pub with_records-requires-clause-pads : goal.with_records-requires-clause-pads
with_records-requires-clause-pads g c = pads_long c.requires.some.into

pub with_records-requires-clause-whole : goal.with_records-requires-clause-whole
with_records-requires-clause-whole g c =
    let x = c.requires.some.into in
    let e : c.len-rec_bytes.result ≡ length c.args.put.now.raw.items = omega (arith, c.len-rec_bytes.ensures, c.args.put.now.raw.ok) in
    let read = read_so x c.args.k c.args.found.now c.requires.found c.len-rec_bytes.result c.block_size-size.result c.in_ok-plain.plain.items e c.block_size-size.ensures c.in_ok-plain.ensures.plain in
    read_long x c.args.k c.args.found.now c.requires.found c.in_ok-plain.plain.items read

pub with_records-requires-clause-fits : goal.with_records-requires-clause-fits
with_records-requires-clause-fits g c =
    let x = c.requires.some.into in
    let e : c.len-rec_bytes.result ≡ length c.args.put.now.raw.items = omega (arith, c.len-rec_bytes.ensures, c.args.put.now.raw.ok) in
    let read = read_so x c.args.k c.args.found.now c.requires.found c.len-rec_bytes.result c.block_size-size.result c.in_ok-plain.plain.items e c.block_size-size.ensures c.in_ok-plain.ensures.plain in
    read_fits x c.args.k c.args.found.now c.requires.found c.in_ok-plain.plain.items read c.requires.short

pub returns-clause-plain : goal.returns-clause-plain
returns-clause-plain g c = λ p kind before own after x.
    (let e : c.len-rec_bytes.result ≡ length c.args.put.now.raw.items = omega (arith, c.len-rec_bytes.ensures, c.args.put.now.raw.ok) in
    let read = read_so x c.args.k c.args.found.now c.requires.found c.len-rec_bytes.result c.block_size-size.result c.in_ok-plain.plain.items e c.block_size-size.ensures c.in_ok-plain.ensures.plain in
    c.with_records.ensures ∙ ap (λ (xs : List ℕ). written_over c.args.put.now c.args.k (seen c.args.found.now.leaf) xs) read)

pub returns-clause-area : goal.returns-clause-area
returns-clause-area g c = read_done (read_once c.in_ok-plain.ensures.area)
