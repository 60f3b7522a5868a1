use Rattle.std.proofs.Common.{slice_index, ◌∙◌}
use Rattle.std.proofs.lemmas.Result.{on_ok_weaker}
use Rattle.cdf_base.specs.Bytes.{put}
use Rattle.cdf_journal.specs.Crashes.{Only, with_part}
use Rattle.cdf_journal.specs.Log.{Body, body_bytes}
use Rattle.cdf_journal.specs.Ranges.{body_of}
use Rattle.cdf_journal.specs.declared.disk.Part.TheVariants.{Log}
use Rattle.cdf_journal.proofs.Journalled.{laid}
use Rattle.cdf_journal.proofs.Steps.{if_some}
use Rattle.cdf_journal.proofs.laying.lay.Goals as goal

pub returns-clause-laid : goal.returns-clause-laid
returns-clause-laid g c =
    on_ok_weaker c.sync.result
    (λ told parts rest.
    let body : Body = body_of c.args.file.now c.args.ranges.now in
    let mid = c.in_ok-lay_members.ensures.seen parts rest.settled.reads in (
      slice_index parts.log 0,
      rest.closed,
      record {
        log = put parts.log 8 (body_bytes body);
        settled = record { reads = c.sync.ensures.seen ∙ mid; durable = if_some (g.D.Disk.seen c.lay_members.new.disk) (with_part parts Log (put parts.log 8 (body_bytes body))) (λ ps. Only ps (g.D.Disk.may_leave c.sync.new.self)) mid told };
        has = laid body parts.log rest.long;
      },
    ))
    c.sync.ensures.durable
