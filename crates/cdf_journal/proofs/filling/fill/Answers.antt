use Rattle.std.proofs.Common.{Some, ap, length, take, ◌∙◌, ◌≡◌}
use Rattle.std.proofs.lemmas.Result.{on_ok_weaker}
use Rattle.std.specs.Option.{option_map}
use Rattle.cdf_journal.specs.Crashes.{InPart, Leads, Only, Parts, Shortened, with_part}
use Rattle.cdf_journal.specs.Log.{Body, Grown, filled}
use Rattle.cdf_journal.specs.Ranges.{body_of}
use Rattle.cdf_journal.specs.declared.disk.Part.TheVariants.{Main}
use Rattle.cdf_journal.proofs.Moments.{followed, from_one, went_on}
use Rattle.cdf_journal.proofs.Steps.{Fills, as_cut, as_filling, as_synced, if_some, not_filled, not_grown}
use Rattle.cdf_journal.proofs.filling.fill.Goals as goal

pub returns-in_err-write_ranges-clause-any_moment : goal.returns-in_err-write_ranges-clause-any_moment
returns-in_err-write_ranges-clause-any_moment g c parts rest =
    let body : Body = body_of c.args.file.now c.args.ranges.now in
    from_one g.D.Disk.may_leave g.D.Disk.moment g.D.Disk.left_since c.args.disk.now c.write_ranges.new.disk parts (InPart Main (Grown body)) (λ x. Fills body parts x) (g.met.D.Disk.only_now c.args.disk.now) rest.durable
    c.write_ranges.ensures.leads (not_grown body parts) (λ x s. as_filling body parts x s)

pub returns-in_err-cut-clause-any_moment : goal.returns-in_err-cut-clause-any_moment
returns-in_err-cut-clause-any_moment g c parts rest =
    let body : Body = body_of c.args.file.now c.args.ranges.now in
    let cut : Leads g.D.Disk.may_leave g.D.Disk.moment g.D.Disk.left_since (Fills body) c.args.disk.now c.cut.new.self =
    went_on g.D.Disk.may_leave g.D.Disk.moment g.D.Disk.left_since c.args.disk.now c.write_ranges.new.disk c.cut.new.self (InPart Main (Grown body)) (InPart Main (Shortened body.new_length)) (Fills body)
    c.write_ranges.ensures.leads c.cut.ensures.crash c.cut.ensures.time (λ a b s. as_filling body a b s) (λ a b x s t. as_cut body a b x s t) in
    from_one g.D.Disk.may_leave g.D.Disk.moment g.D.Disk.left_since c.args.disk.now c.cut.new.self parts (Fills body) (λ x. Fills body parts x) (g.met.D.Disk.only_now c.args.disk.now) rest.durable cut (not_filled body parts) (λ x s. s)

pub returns-clause-any_moment : goal.returns-clause-any_moment
returns-clause-any_moment g c parts rest =
    let body : Body = body_of c.args.file.now c.args.ranges.now in
    let cut : Leads g.D.Disk.may_leave g.D.Disk.moment g.D.Disk.left_since (Fills body) c.args.disk.now c.cut.new.self =
    went_on g.D.Disk.may_leave g.D.Disk.moment g.D.Disk.left_since c.args.disk.now c.write_ranges.new.disk c.cut.new.self (InPart Main (Grown body)) (InPart Main (Shortened body.new_length)) (Fills body)
    c.write_ranges.ensures.leads c.cut.ensures.crash c.cut.ensures.time (λ a b s. as_filling body a b s) (λ a b x s t. as_cut body a b x s t) in
    let synced : Leads g.D.Disk.may_leave g.D.Disk.moment g.D.Disk.left_since (Fills body) c.args.disk.now c.sync.new.self =
    went_on g.D.Disk.may_leave g.D.Disk.moment g.D.Disk.left_since c.args.disk.now c.cut.new.self c.sync.new.self (Fills body) (λ a b. b ≡ a) (Fills body) cut
    (followed (g.D.Disk.may_leave c.cut.new.self) (g.D.Disk.may_leave c.sync.new.self) c.sync.ensures.crash) c.sync.ensures.time (λ a b s. s) (λ a b x s e. as_synced body a b x s e) in
    from_one g.D.Disk.may_leave g.D.Disk.moment g.D.Disk.left_since c.args.disk.now c.sync.new.self parts (Fills body) (λ x. Fills body parts x) (g.met.D.Disk.only_now c.args.disk.now) rest.durable synced (not_filled body parts) (λ x s. s)

pub returns-clause-settled : goal.returns-clause-settled
returns-clause-settled g c =
    on_ok_weaker c.sync.result
    (λ told parts e.
    let body : Body = body_of c.args.file.now c.args.ranges.now in
    let mid = c.in_ok-write_ranges.ensures.seen parts e in
    let after : g.D.Disk.seen c.cut.new.self ≡ Some (with_part parts Main (filled parts.main body)) = c.in_ok-cut.ensures.cut ∙ ap (option_map (λ (ps : Parts). with_part ps Main (take (length c.args.file.now) ps.main))) mid in
    record { reads = c.sync.ensures.seen ∙ after; durable = if_some (g.D.Disk.seen c.cut.new.self) (with_part parts Main (filled parts.main body)) (λ ps. Only ps (g.D.Disk.may_leave c.sync.new.self)) after told })
    c.sync.ensures.durable
