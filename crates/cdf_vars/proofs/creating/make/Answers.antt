use Rattle.cdf_vars.proofs.Common.{None, ap, arith, good_eof, good_is_sound, last_got, last_or, length, members_of, shape, sym, type_in, wanted, ◌∙◌}
use Rattle.cdf_vars.proofs.CreatedVariable.{few, few_counted, follows, has_room, is_body, is_typed, known, others}
use Rattle.cdf_vars.proofs.VariableChains.{has_variable_chain, holder_stands, variable_members}
use Rattle.cdf_vars.proofs.creating.make.Goals as goal

pub overflow_cast-num : goal.overflow_cast-num
overflow_cast-num g c = let l = few (g.A.Area.image c.args.area.now) c.args.kind (wanted c.args.name.now c.args.form.now c.args.vary) (g.A.Area.frame c.args.area.now).limit c.requires.good c.requires.named c.requires.shaped c.requires.room c.requires.limit in omega (arith, l, c.len-num.ensures, ap length c.requires.places, c.args.places.now.ok.0)

pub append_record-requires : goal.append_record-requires
append_record-requires g c =
    let b = g.A.Area.image c.args.area.now in
    let h = (good_is_sound b c.requires.good).has_shape in
    record {
      sound = good_is_sound b c.requires.good;
      eof = good_eof b c.requires.good;
      holder = rw c.chain_of.ensures (holder_stands b c.args.kind);
      chain = rw c.chain_of.ensures (has_variable_chain b (shape b) h c.args.kind);
      last = c.copied-last.ensures ∙ c.last.ensures.value ∙ last_got c.deref.result.now ∙ ap (last_or None) (c.deref.ensures.value ∙ c.requires.places ∙ sym (variable_members b (shape b) h c.args.kind) ∙ ap (members_of b) (sym c.chain_of.ensures));
      body = is_body (g.A.Area.image c.args.area.now) c.args.kind (wanted c.args.name.now c.args.form.now c.args.vary) (g.A.Area.frame c.args.area.now).limit c.requires.good c.requires.named c.requires.shaped c.requires.room c.requires.limit c.len-num.result (c.deref-2.ensures.value ∙ c.in_ok-bytes.ensures);
      kind = is_typed (g.A.Area.image c.args.area.now) c.args.kind (wanted c.args.name.now c.args.form.now c.args.vary) (g.A.Area.frame c.args.area.now).limit c.requires.good c.requires.named c.requires.shaped c.requires.room c.requires.limit c.len-num.result (c.deref-2.ensures.value ∙ c.in_ok-bytes.ensures) ∙ ap type_in (sym c.chain_of.ensures);
      few = rw c.chain_of.ensures (few_counted (g.A.Area.image c.args.area.now) c.args.kind (wanted c.args.name.now c.args.form.now c.args.vary) (g.A.Area.frame c.args.area.now).limit c.requires.good c.requires.named c.requires.shaped c.requires.room c.requires.limit);
      room = has_room (g.A.Area.image c.args.area.now) c.args.kind (wanted c.args.name.now c.args.form.now c.args.vary) (g.A.Area.frame c.args.area.now).limit c.requires.good c.requires.named c.requires.shaped c.requires.room c.requires.limit c.len-num.result (c.deref-2.ensures.value ∙ c.in_ok-bytes.ensures);
      limit = c.requires.limit;
    }

pub returns-clause-follows : goal.returns-clause-follows
returns-clause-follows g c =
    follows (g.A.Area.image c.args.area.now) c.args.kind (wanted c.args.name.now c.args.form.now c.args.vary) (g.A.Area.frame c.args.area.now).limit c.requires.good c.requires.named c.requires.shaped c.requires.room c.requires.limit c.len-num.result (c.deref-2.ensures.value ∙ c.in_ok-bytes.ensures)
    c.requires.dims (omega (arith, c.len-num.ensures, ap length c.requires.places)) c.chain_of.ensures c.in_ok-place.ensures.added c.requires.free

pub returns-clause-known : goal.returns-clause-known
returns-clause-known g c =
    λ names had. known (g.A.Area.image c.args.area.now) c.args.kind (wanted c.args.name.now c.args.form.now c.args.vary) (g.A.Area.frame c.args.area.now).limit c.requires.good c.requires.named c.requires.shaped c.requires.room c.requires.limit c.len-num.result (c.deref-2.ensures.value ∙ c.in_ok-bytes.ensures)
    c.requires.dims (omega (arith, c.len-num.ensures, ap length c.requires.places)) c.chain_of.ensures c.in_ok-place.ensures.added c.in_ok-push.ensures.items had

pub returns-clause-others : goal.returns-clause-others
returns-clause-others g c =
    others (g.A.Area.image c.args.area.now) c.args.kind (wanted c.args.name.now c.args.form.now c.args.vary) (g.A.Area.frame c.args.area.now).limit c.requires.good c.requires.named c.requires.shaped c.requires.room c.requires.limit c.len-num.result (c.deref-2.ensures.value ∙ c.in_ok-bytes.ensures)
    c.requires.dims (omega (arith, c.len-num.ensures, ap length c.requires.places)) c.chain_of.ensures c.in_ok-place.ensures.added
