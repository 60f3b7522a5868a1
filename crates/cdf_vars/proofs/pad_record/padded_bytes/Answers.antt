use Rattle.cdf_vars.proofs.Common.{append_assoc, arith, drop, length, length-drop, length-take, put, sym, take, take_all, ◌-◌, ◌∙◌, ◌≡◌}
use Rattle.cdf_vars.proofs.pad_record.padded_bytes.Goals as goal

pub slice_bounds-extend_from_slice-end : goal.slice_bounds-extend_from_slice-end
slice_bounds-extend_from_slice-end c = sym (length-take 36 c.args.old.now ∙ omega (arith, c.requires))

pub returns : goal.returns
unfolding put
returns c =
    let rest : take (length c.args.old.now - 40) (drop 40 c.args.old.now) ≡ drop 40 c.args.old.now = take_all (length c.args.old.now - 40) (drop 40 c.args.old.now) (simp length-drop (omega arith)) in
    simp (c.in_ok-extend_from_slice-4.ensures.items, c.in_ok-extend_from_slice-3.ensures.items, c.in_ok-extend_from_slice-2.ensures.items, c.in_ok-extend_from_slice.ensures.items, c.new-bytes.ensures.items, c.to_be_bytes.ensures, c.padded.ensures, rest, append_assoc)
