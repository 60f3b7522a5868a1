use Rattle.cdf_vars.proofs.Common.{good_eof, good_is_sound}
use Rattle.cdf_vars.proofs.PadSet.{is_body, is_member, long_late, may_free, type_is}
use Rattle.cdf_vars.proofs.VariableChains.{has_variable_chain, holder_stands}
use Rattle.cdf_vars.proofs.pad_record.replace_vdr.Goals as goal

pub exchange_record-requires : goal.exchange_record-requires
exchange_record-requires g c =
    let sound = good_is_sound _ c.requires.good in
    rw c.chain_of.ensures (record {
      sound = sound;
      eof = good_eof _ c.requires.good;
      holder = holder_stands _ c.args.kind;
      chain = has_variable_chain _ _ sound.has_shape c.args.kind;
      member = is_member c.requires.good c.requires.vdr c.requires.padded;
      behind = c.requires.behind;
      body = is_body c.requires.good c.requires.vdr c.requires.padded;
      kind = type_is c.requires.good c.requires.vdr c.requires.padded;
      room = c.requires.room;
      limit = c.requires.limit;
    })

pub read_vdr-requires : goal.read_vdr-requires
read_vdr-requires g c = long_late c.requires.good c.requires.vdr c.requires.padded (rw c.chain_of.ensures at c.in_ok-place.ensures.exchanged)

pub free_record-requires : goal.free_record-requires
free_record-requires g c =
    let may = may_free c.requires.good c.requires.vdr c.requires.padded (rw c.chain_of.ensures at c.in_ok-place.ensures.exchanged) c.in_ok-_linked.ensures.bytes in
    rw c.read_vdr.ensures.area.image (record { sound = may.0; stands = may.1; free = may.2 })
