use Rattle.cdf_values.proofs.Common.{ap, arith, bytes_high_first, drop, if◌then◌else◌, is_ok, take, take_rest, ◌++◌, ◌-◌, ◌∙◌, ◌≡◌, ◌≤◌}
use Rattle.cdf_values.proofs.ByteLemmas.{lowest, ok_items}
use Rattle.cdf_values.proofs.number.append_bytes.Goals as goal

pub returns : goal.returns
returns c =
    let size = c.args.size in
    let n = c.args.number in
    let old = c.args.bytes.now.items in
    let low : take (8 - (8 - size)) (drop (8 - size) (bytes_high_first 8 n)) ≡ bytes_high_first size n =
    take_rest (bytes_high_first 8 n) (8 - size) ∙ lowest (8 - size) size 8 n (let few : size ≤ 8 = c.requires in omega arith) in
    let part = ap (λ l. take (8 - (8 - size)) (drop (8 - size) l)) c.to_be_bytes-all.ensures ∙ low in
    let items = c.extend_from_slice.ensures.items ∙ ap (λ l. if is_ok c.extend_from_slice.result then old ++ l else old) part in
    ok_items c.extend_from_slice.result c.extend_from_slice.new.self.items old (bytes_high_first size n) items
