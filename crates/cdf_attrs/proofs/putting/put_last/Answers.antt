use Rattle.cdf_attrs.proofs.Common.{KnownEntries, None, ap, arith, edit_done, edit_failed, edit_more, edit_once, edit_without_memory, good_eof, good_is_sound, last_got, last_or, new_reserved, ◌∙◌}
use Rattle.cdf_attrs.proofs.EntryChains.{chain_there, counted, few_entries, holder_stands}
use Rattle.cdf_attrs.proofs.EntryPut.{body_kind, body_long, body_made, body_of, known_at, max_joined, of_chain, pushed}
use Rattle.cdf_attrs.proofs.putting.put_last.Goals as goal

pub append_record-requires : goal.append_record-requires
append_record-requires g c =
    let bytes = c.deref-2.ensures.value ∙ c.in_ok-bytes.ensures ∙ ap (body_of c.args.entry.now) c.new.ensures in
    let of = of_chain c.requires.good c.requires.ready c.entries_chain.ensures in
    record {
      sound = good_is_sound _ c.requires.good;
      eof = good_eof _ c.requires.good;
      holder = holder_stands _ c.requires.good _ of;
      chain = chain_there _ c.requires.good _ of;
      last = c.copied-last.ensures ∙ c.last.ensures.value ∙ last_got c.deref.result.now ∙ ap (last_or None) (c.deref.ensures.value ∙ ap (λ (k : KnownEntries). k.places) c.put.view_is ∙ known_at c.requires.good c.requires.ready c.entries_chain.ensures);
      body = rw bytes (body_made c.args.entry.now new_reserved).1;
      kind = body_kind c.requires.good c.requires.ready c.entries_chain.ensures new_reserved bytes;
      few = omega (arith, few_entries _ c.requires.good _ of, counted _ c.requires.good _ of, c.requires.ready.room, c.requires.ready.within);
      room = rw bytes (omega (arith, body_long c.args.entry.now new_reserved, c.requires.ready.room));
      limit = c.requires.ready.within;
    }

pub set_greatest-requires : goal.set_greatest-requires
set_greatest-requires g c = max_joined c.requires.good c.requires.ready c.in_ok-place.ensures.added

pub returns-clause-put : goal.returns-clause-put
returns-clause-put g c = rw c.in_ok-push.ensures (pushed c.requires.good c.requires.ready c.requires.absent c.entries_chain.ensures (c.deref-2.ensures.value ∙ c.in_ok-bytes.ensures ∙ ap (body_of c.args.entry.now) c.new.ensures) c.in_ok-place.ensures.added c.in_ok-set_greatest.ensures.written)

pub returns-in_err-set_greatest-clause-area : goal.returns-in_err-set_greatest-clause-area
returns-in_err-set_greatest-clause-area g c = edit_failed (edit_once c.in_ok-place.ensures.area) c.in_err-set_greatest.ensures.area c.from_residual-in_err-set_greatest.ensures.1

pub returns-in_err-push-clause-area : goal.returns-in_err-push-clause-area
returns-in_err-push-clause-area g c = edit_without_memory (edit_more (edit_once c.in_ok-place.ensures.area) c.in_ok-set_greatest.ensures.area) c.from_residual-in_err-push.ensures.1

pub returns-clause-area : goal.returns-clause-area
returns-clause-area g c = edit_done (edit_more (edit_once c.in_ok-place.ensures.area) c.in_ok-set_greatest.ensures.area)
