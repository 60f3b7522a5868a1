use Rattle.cdf_var_records.proofs.Common.{AreBytes, Byte, List, Vdr, ap, arith, length, read_done, read_more, read_once, rules, subst, unwrap_or, vdr_at, ℕ, ◌∙◌, ◌≡◌}
use Rattle.cdf_var_records.proofs.PadSites.{elems_are as site_elems, type_is, vdr_lies}
use Rattle.cdf_var_records.proofs.pad_place.read_pad_place.Goals as goal

pub read_vdr-requires : goal.read_vdr-requires
read_vdr-requires g c = let l = vdr_lies c.requires.good c.requires.vdr in let same = ap (λ (x : List ℕ). length x) c.read_pad_offset.ensures.area.image in omega (arith, l, same)

pub returns-clause-place : goal.returns-clause-place
returns-clause-place g c =
    let b = g.A.Area.image c.args.area.now in
    let head : c.in_ok-head.head ≡ vdr_at b c.args.vdr = c.in_ok-head.ensures.value ∙ ap (λ (x : List ℕ). vdr_at x c.args.vdr) c.read_pad_offset.ensures.area.image in
    let there : AreBytes b c.args.vdr 84 = subst (λ (x : List ℕ). AreBytes x c.args.vdr 84) c.read_pad_offset.ensures.area.image c.in_ok-head.ensures.bytes in
    let type = c.unwrap_or.ensures ∙ ap (λ o. unwrap_or o Byte) (c.of_code.ensures ∙ type_is c.requires.good c.requires.vdr there c.in_ok-head.head.data_type (ap (λ (h : Vdr). h.data_type) head)) in
    let count = site_elems c.requires.good c.requires.vdr there c.cast_unsigned.result c.in_ok-head.head.num_elems c.cast_unsigned.ensures (ap (λ (h : Vdr). h.num_elems) head) in
    search (rules, type, count, c.in_ok-at.ensures.place, ap (λ (h : Vdr). h.record_size) head, ap (λ (h : Vdr). h.flags) head, there)

pub returns-clause-area : goal.returns-clause-area
returns-clause-area g c = read_done (read_more (read_once c.in_ok-at.ensures.area) c.in_ok-head.ensures.area)
