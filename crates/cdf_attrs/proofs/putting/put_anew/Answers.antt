use Rattle.cdf_attrs.proofs.Common.{In, KnownEntries, List, None, ap, arith, edit_done, edit_failed, edit_more, edit_once, good_eof, good_is_sound, is_in-true, last_got, last_or, old_free, old_stands, sound_late, subst, sym, take, ℕ, ◌∙◌}
use Rattle.cdf_attrs.proofs.EntryChains.{chain_there, holder_stands, members}
use Rattle.cdf_attrs.proofs.EntryPut.{behind_at, body_kind, body_long, body_made, freed, max_joined, member, of_chain, put_anew}
use Rattle.cdf_attrs.proofs.putting.put_anew.Goals as goal

pub exchange_record-requires : goal.exchange_record-requires
exchange_record-requires g c =
    let bytes = c.deref-2.ensures.value ∙ c.in_ok-bytes.ensures in
    let of = of_chain c.requires.good c.requires.ready c.entries_chain-chain.ensures in
    record {
      sound = good_is_sound _ c.requires.good;
      eof = good_eof _ c.requires.good;
      holder = holder_stands _ c.requires.good _ of;
      chain = chain_there _ c.requires.good _ of;
      member = is_in-true _ _ (subst (In c.args.old.place) (sym (members _ c.requires.good _ of)) (member c.requires.good c.requires.ready c.requires.old));
      behind = c.copied-behind.ensures ∙ c.last.ensures.value ∙ last_got (take c.args.i c.deref.result.now) ∙ ap (λ (xs : List ℕ). last_or None (take c.args.i xs)) (c.deref.ensures.value ∙ ap (λ (e : KnownEntries). e.places) c.put.view_is)
          ∙ behind_at c.requires.good c.requires.ready c.requires.old c.entries_chain-chain.ensures;
      body = rw bytes (body_made c.args.entry.now c.args.old.reserved).1;
      kind = body_kind c.requires.good c.requires.ready c.entries_chain-chain.ensures c.args.old.reserved bytes;
      room = rw bytes (omega (arith, body_long c.args.entry.now c.args.old.reserved, c.requires.ready.room));
      limit = c.requires.ready.within;
    }

pub set_greatest-requires : goal.set_greatest-requires
set_greatest-requires g c = max_joined c.requires.good c.requires.ready c.in_ok-place.ensures.exchanged

pub free_record-requires : goal.free_record-requires
free_record-requires g c =
    let sound = good_is_sound _ c.requires.good in
    let gone = freed c.requires.good c.requires.ready c.requires.old c.entries_chain-chain.ensures (c.deref-2.ensures.value ∙ c.in_ok-bytes.ensures) c.in_ok-place.ensures.exchanged c.in_ok-set_greatest.ensures.written in
    record { sound = sound_late sound gone; stands = old_stands sound gone; free = old_free sound gone }

pub returns-clause-put : goal.returns-clause-put
returns-clause-put g c = rw c.set_place.ensures (put_anew c.requires.good c.requires.ready c.requires.old c.entries_chain-chain.ensures (c.deref-2.ensures.value ∙ c.in_ok-bytes.ensures) c.in_ok-place.ensures.exchanged c.in_ok-set_greatest.ensures.written c.requires.large c.in_ok-free_record.ensures.gives)

pub returns-in_err-set_greatest-clause-area : goal.returns-in_err-set_greatest-clause-area
returns-in_err-set_greatest-clause-area g c = edit_failed (edit_once c.in_ok-place.ensures.area) c.in_err-set_greatest.ensures.area c.from_residual-in_err-set_greatest.ensures.1

pub returns-in_err-free_record-clause-area : goal.returns-in_err-free_record-clause-area
returns-in_err-free_record-clause-area g c = edit_failed (edit_more (edit_once c.in_ok-place.ensures.area) c.in_ok-set_greatest.ensures.area) c.in_err-free_record.ensures.area c.from_residual-in_err-free_record.ensures.1

pub returns-clause-area : goal.returns-clause-area
returns-clause-area g c = edit_done (edit_more (edit_more (edit_once c.in_ok-place.ensures.area) c.in_ok-set_greatest.ensures.area) c.in_ok-free_record.ensures.area)
