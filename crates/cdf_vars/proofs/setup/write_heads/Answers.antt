use Rattle.cdf_vars.proofs.Common.{List, ap, arith, cast_unsigned, cdr_flags, length, length-words, of_4_bytes, of_z-to_z, on_ok_weaker, w32, with_field, ℕ, ◌++◌, ◌∙◌, ◌≡◌}
use Rattle.cdf_vars.proofs.Sizes.{fine_sizes}
use Rattle.cdf_vars.proofs.setup.write_heads.Goals as goal

pub set-requires : goal.set-requires
set-requires g c =
    let bytes = c.deref.ensures.value ∙ c.in_ok-push_sizes.ensures ∙ ap (λ (x : List ℕ). x ++ of_4_bytes c.args.dims.now) c.new-bytes.ensures.items in
    omega (arith, ap length bytes ∙ length-words c.args.dims.now, c.in_ok-set_gdr_r_num_dims.ensures.area.size, c.requires.room)

pub returns-clause-written : goal.returns-clause-written
returns-clause-written g c =
    let bytes = c.deref.ensures.value ∙ c.in_ok-push_sizes.ensures ∙ ap (λ (x : List ℕ). x ++ of_4_bytes c.args.dims.now) c.new-bytes.ensures.items in
    let count = of_z-to_z w32 (length c.args.dims.now) (omega (arith, (fine_sizes c.args.dims.now c.requires.fine).0)) in
    let back = of_z-to_z w32 c.args.encoding c.ranges.encoding.fits in
    let code : cast_unsigned w32 c.cast_signed.result ≡ c.args.encoding = ap (cast_unsigned w32) c.cast_signed.ensures ∙ back in
    on_ok_weaker _ (λ (third : g.A.Area.image c.set_cdr_flags.new.area ≡ with_field (g.A.Area.image c.set_cdr_encoding.new.area) 8 cdr_flags c.args.flags). record {
      mid = g.A.Area.image c.set.new.self;
      dims_are = cc (bytes, count, c.in_ok-set.ensures.written, c.in_ok-set_gdr_r_num_dims.ensures.ok);
      cdr_is = cc (third, code, back, c.in_ok-set_cdr_encoding.ensures.ok, c.in_ok-set_cdr_gdr_offset.ensures.ok);
      lies = c.requires.room;
      gdr_fits = c.ranges.gdr.fits;
      code_fits = c.ranges.encoding.fits;
      bits_fit = c.ranges.flags.fits;
    }) c.set_cdr_flags.ensures.ok
