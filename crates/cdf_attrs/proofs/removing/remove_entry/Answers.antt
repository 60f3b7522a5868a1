use Rattle.cdf_attrs.proofs.Common.{Chain, HasChain, HolderStands, Removed, ap, is_in, left_frees, length, length-with_field, members_of, old_free, old_stands, sound_late, subst, sym, true, ◌∙◌, ◌≡◌}
use Rattle.cdf_attrs.proofs.EntryCalls.{has_entry, count_lies, greatest_lies, leaves}
use Rattle.cdf_attrs.proofs.removing.remove_entry.Goals as goal

pub chain_remove-requires-clause-holder : goal.chain_remove-requires-clause-holder
chain_remove-requires-clause-holder g c = subst (HolderStands (g.A.Area.image c.args.area.now)) (sym c.entries_chain.ensures) (has_entry _ c.args.kind c.args.adr c.args.place c.requires.sound c.requires.entry).holder

pub chain_remove-requires-clause-chain : goal.chain_remove-requires-clause-chain
chain_remove-requires-clause-chain g c = subst (HasChain (g.A.Area.image c.args.area.now)) (sym c.entries_chain.ensures) (has_entry _ c.args.kind c.args.adr c.args.place c.requires.sound c.requires.entry).chain

pub chain_remove-requires-clause-member : goal.chain_remove-requires-clause-member
chain_remove-requires-clause-member g c = subst (λ (x : Chain). is_in c.args.place (members_of (g.A.Area.image c.args.area.now) x) ≡ true) (sym c.entries_chain.ensures) (has_entry _ c.args.kind c.args.adr c.args.place c.requires.sound c.requires.entry).member

pub set_count-requires : goal.set_count-requires
set_count-requires g c = count_lies (g.A.Area.image c.args.area.now) _ c.args.kind c.args.adr (has_entry _ c.args.kind c.args.adr c.args.place c.requires.sound c.requires.entry).inside c.in_ok-chain_remove.ensures.removed.length_stays

pub set_greatest-requires : goal.set_greatest-requires
set_greatest-requires g c =
    let inside = (has_entry (g.A.Area.image c.args.area.now) c.args.kind c.args.adr c.args.place c.requires.sound c.requires.entry).inside in
    let first = c.in_ok-chain_remove.ensures.removed.length_stays in
    greatest_lies (g.A.Area.image c.args.area.now) _ c.args.kind c.args.adr inside (ap length c.in_ok-set_count.ensures.written ∙ length-with_field _ c.args.adr _ _ (count_lies (g.A.Area.image c.args.area.now) _ c.args.kind c.args.adr inside first) ∙ first)

pub free_record-requires-clause-sound : goal.free_record-requires-clause-sound
free_record-requires-clause-sound g c =
    let removed = subst (λ (x : Chain). Removed (g.A.Area.image c.args.area.now) (g.A.Area.image c.chain_remove.new.area) x c.args.place) c.entries_chain.ensures c.in_ok-chain_remove.ensures.removed in
    sound_late c.requires.sound (left_frees c.requires.sound (leaves _ _ c.requires.sound c.requires.entry removed c.in_ok-set_count.ensures.written c.in_ok-set_greatest.ensures.written))

pub free_record-requires-clause-stands : goal.free_record-requires-clause-stands
free_record-requires-clause-stands g c =
    let removed = subst (λ (x : Chain). Removed (g.A.Area.image c.args.area.now) (g.A.Area.image c.chain_remove.new.area) x c.args.place) c.entries_chain.ensures c.in_ok-chain_remove.ensures.removed in
    old_stands c.requires.sound (left_frees c.requires.sound (leaves _ _ c.requires.sound c.requires.entry removed c.in_ok-set_count.ensures.written c.in_ok-set_greatest.ensures.written))

pub free_record-requires-clause-free : goal.free_record-requires-clause-free
free_record-requires-clause-free g c =
    let removed = subst (λ (x : Chain). Removed (g.A.Area.image c.args.area.now) (g.A.Area.image c.chain_remove.new.area) x c.args.place) c.entries_chain.ensures c.in_ok-chain_remove.ensures.removed in
    old_free c.requires.sound (left_frees c.requires.sound (leaves _ _ c.requires.sound c.requires.entry removed c.in_ok-set_count.ensures.written c.in_ok-set_greatest.ensures.written))
