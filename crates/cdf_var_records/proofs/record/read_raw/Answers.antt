use Rattle.cdf_var_records.proofs.Common.{IfOk-weaker, arith, drop, plain_bytes, record_bytes, record_in, seen, take, ℕ, ◌*◌, ◌-◌, ◌≡◌}
use Rattle.cdf_format.specs.Stored.{packed_bytes}
use Rattle.cdf_model.specs.RunLengths.{plain_of}
use Rattle.cdf_var_records.proofs.RecordReading.{among_leaf, holds, reads_packed, reads_plain, unpacks_inside, unpacks_small, unpacks_whole, within_block}
use Rattle.cdf_var_records.proofs.record.read_raw.Goals as goal

pub read_rec-requires-clause-block : goal.read_rec-requires-clause-block
read_rec-requires-clause-block g c = holds c.requires.good c.requires.form c.args.rec c.args.leaf.now c.requires.leaf c.record_size_of-size.result c.record_size_of-size.ensures c.if-not-leaf.true

pub read_rec-requires-clause-from : goal.read_rec-requires-clause-from
read_rec-requires-clause-from g c = (among_leaf c.requires.good c.requires.form c.args.rec c.args.leaf.now c.requires.leaf).0

pub read_rec-requires-clause-upto : goal.read_rec-requires-clause-upto
read_rec-requires-clause-upto g c = (among_leaf c.requires.good c.requires.form c.args.rec c.args.leaf.now c.requires.leaf).1

pub returns-then-not-leaf-clause-bytes : goal.returns-then-not-leaf-clause-bytes
returns-then-not-leaf-clause-bytes g c =
    let b = g.A.Area.image c.args.area.now in
    let leaf = c.args.leaf.now in
    let size = c.record_size_of-size.result in
    let at = c.args.rec - leaf.first in
    IfOk-weaker c.read_rec.result (λ bytes. (vdr : ℕ) → record_bytes b vdr ≡ size → bytes.items ≡ record_in (plain_bytes b vdr (seen leaf)) size at)
    (λ bytes. bytes.items ≡ record_in (plain_bytes b c.args.form.now.place.vdr (seen leaf)) (record_bytes b c.args.form.now.place.vdr) at)
    (λ x is. reads_plain c.requires.good c.requires.form c.args.rec c.args.leaf.now c.requires.leaf c.record_size_of-size.result c.record_size_of-size.ensures x.items is)
    c.read_rec.ensures.value

pub overflow_sub-from : goal.overflow_sub-from
overflow_sub-from g c = (among_leaf c.requires.good c.requires.form c.args.rec c.args.leaf.now c.requires.leaf).0

pub overflow_sub-all : goal.overflow_sub-all
overflow_sub-all g c = let among = among_leaf c.requires.good c.requires.form c.args.rec c.args.leaf.now c.requires.leaf in omega arith

pub read_part-requires-clause-inside : goal.read_part-requires-clause-inside
read_part-requires-clause-inside g c = unpacks_inside c.requires.good c.requires.form c.args.rec c.args.leaf.now c.requires.leaf c.record_size_of-size.result c.record_size_of-size.ensures c.if-not-leaf.false

pub read_part-requires-clause-fits : goal.read_part-requires-clause-fits
read_part-requires-clause-fits g c = unpacks_whole c.requires.good c.requires.form c.args.rec c.args.leaf.now c.requires.leaf c.record_size_of-size.result c.record_size_of-size.ensures c.if-not-leaf.false

pub read_part-requires-clause-small : goal.read_part-requires-clause-small
read_part-requires-clause-small g c = unpacks_small c.requires.good c.requires.form c.args.rec c.args.leaf.now c.requires.leaf c.record_size_of-size.result c.record_size_of-size.ensures c.if-not-leaf.false

pub read_part-requires-clause-within : goal.read_part-requires-clause-within
read_part-requires-clause-within g c = within_block c.requires.good c.requires.form c.args.rec c.args.leaf.now c.requires.leaf c.record_size_of-size.result c.record_size_of-size.ensures

pub returns-clause-bytes : goal.returns-clause-bytes
returns-clause-bytes g c =
    let b = g.A.Area.image c.args.area.now in
    let leaf = c.args.leaf.now in
    let size = c.record_size_of-size.result in
    let at = c.args.rec - leaf.first in
    IfOk-weaker c.read_part.result (λ bytes. bytes.items ≡ take size (drop (at * size) (plain_of (packed_bytes b leaf.at))))
    (λ bytes. bytes.items ≡ record_in (plain_bytes b c.args.form.now.place.vdr (seen leaf)) (record_bytes b c.args.form.now.place.vdr) at)
    (λ x is. reads_packed c.requires.good c.requires.form c.args.rec c.args.leaf.now c.requires.leaf c.record_size_of-size.result c.record_size_of-size.ensures c.if-not-leaf.false x.items is)
    c.read_part.ensures.bytes
