use Rattle.cdf_var_records.proofs.Common.{arith, sym, ◌∙◌}
use Rattle.cdf_var_records.proofs.RecordReading.{pad_is_inside, pad_whole}
use Rattle.cdf_var_records.proofs.record.read_pad.Goals as goal

pub overflow_add-place : goal.overflow_add-place
overflow_add-place g c = let l = pad_is_inside c.requires.good c.requires.form (sym c.says_pad.ensures ∙ c.if-not-says_pad.false) in omega (arith, l, c.size-size.ensures)

pub read_bytes-requires : goal.read_bytes-requires
read_bytes-requires g c = let l = pad_is_inside c.requires.good c.requires.form (sym c.says_pad.ensures ∙ c.if-not-says_pad.false) in let e = c.value_size-size.ensures in omega (arith, l, e)

pub in_network_order-requires : goal.in_network_order-requires
in_network_order-requires g c =
    let e = c.value_size-size.ensures in
    pad_whole c.requires.good c.requires.form (sym c.says_pad.ensures ∙ c.if-not-says_pad.false) c.in_ok-bytes.bytes.items (rw e at c.in_ok-bytes.ensures.bytes)
