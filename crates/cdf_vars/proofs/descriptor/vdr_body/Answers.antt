use Rattle.cdf_vars.proofs.Common.{List, ap₂, big_bytes, flat_map, map, own_dims, vary_code, wanted, ℕ, ◌++◌, ◌∙◌}
use Rattle.cdf_vars.proofs.NewVdr.{body_parts}
use Rattle.cdf_vars.proofs.descriptor.vdr_body.Goals as goal

pub returns : goal.returns
returns c =
    let dims = c.in_ok-push_dims.ensures ∙ ap₂ (λ (xs ds : List ℕ). xs ++ flat_map (big_bytes 4) (own_dims c.args.kind ds)) (c.in_ok-extend_from_slice.ensures.items ∙ ap₂ (λ (xs ys : List ℕ). xs ++ ys) c.in_ok-bytes.ensures c.padded.ensures) c.as_slice.ensures in
    c.in_ok-push_varys.ensures ∙ ap₂ (λ (xs : List ℕ) (vs : List _). xs ++ flat_map (big_bytes 4) (map vary_code vs)) dims c.as_slice-2.ensures
    ∙ body_parts c.args.kind (wanted c.args.name.now c.args.shape.now c.args.vary) c.args.num
