use Rattle.std.proofs.Common.{Some, refl, subst, sym, ◌∙◌, ◌≡◌}
use Rattle.cdf_journal.specs.Crashes.{Leads, LeavesOnly, Parts, Settles, part_of}
use Rattle.cdf_journal.specs.Log.{recovered}
use Rattle.cdf_journal.specs.Opening.{IsRecovered}
use Rattle.cdf_journal.specs.declared.disk.Part.TheVariants.{Log, Main}
use Rattle.cdf_journal.proofs.Moments.{chained, followed, from_one, joined, left_alone, stayed, unmoved, went_on}
use Rattle.cdf_journal.proofs.Steps.{if_some}
use Rattle.cdf_journal.proofs.opening.open_file.Goals as goal

pub returns-in_err-name_kept-clause-any_moment : goal.returns-in_err-name_kept-clause-any_moment
returns-in_err-name_kept-clause-any_moment g c parts rest =
    unmoved g.D.Disk.may_leave g.D.Disk.moment g.D.Disk.left_since c.args.disk.now parts (IsRecovered (recovered parts.main parts.log)) (g.met.D.Disk.only_now c.args.disk.now) rest.durable refl

pub returns-in_err-attach-clause-any_moment : goal.returns-in_err-attach-clause-any_moment
returns-in_err-attach-clause-any_moment g c parts rest =
    let P : Parts → Type 0 = IsRecovered (recovered parts.main parts.log) in
    let l1 : Leads g.D.Disk.may_leave g.D.Disk.moment g.D.Disk.left_since (λ a b. b ≡ a) c.args.disk.now c.attach.new.self = went_on g.D.Disk.may_leave g.D.Disk.moment g.D.Disk.left_since c.args.disk.now c.args.disk.now c.attach.new.self (λ a b. b ≡ a) (λ a b. b ≡ a) (λ a b. b ≡ a) (stayed g.D.Disk.may_leave g.D.Disk.moment g.D.Disk.left_since c.args.disk.now (λ a b. b ≡ a) (λ x. refl)) (followed (g.D.Disk.may_leave c.args.disk.now) (g.D.Disk.may_leave c.attach.new.self) c.attach.ensures.crash) c.attach.ensures.time (λ a b s. s) (λ a b x s t. t ∙ s) in
    from_one g.D.Disk.may_leave g.D.Disk.moment g.D.Disk.left_since c.args.disk.now c.attach.new.self parts (λ a b. b ≡ a) P (g.met.D.Disk.only_now c.args.disk.now) rest.durable l1 refl (λ x e. subst P (sym e) refl)

pub returns-then-is_none-clause-any_moment : goal.returns-then-is_none-clause-any_moment
returns-then-is_none-clause-any_moment g c parts rest =
    let P : Parts → Type 0 = IsRecovered (recovered parts.main parts.log) in
    let l1 : Leads g.D.Disk.may_leave g.D.Disk.moment g.D.Disk.left_since (λ a b. b ≡ a) c.args.disk.now c.attach.new.self = went_on g.D.Disk.may_leave g.D.Disk.moment g.D.Disk.left_since c.args.disk.now c.args.disk.now c.attach.new.self (λ a b. b ≡ a) (λ a b. b ≡ a) (λ a b. b ≡ a) (stayed g.D.Disk.may_leave g.D.Disk.moment g.D.Disk.left_since c.args.disk.now (λ a b. b ≡ a) (λ x. refl)) (followed (g.D.Disk.may_leave c.args.disk.now) (g.D.Disk.may_leave c.attach.new.self) c.attach.ensures.crash) c.attach.ensures.time (λ a b s. s) (λ a b x s t. t ∙ s) in
    from_one g.D.Disk.may_leave g.D.Disk.moment g.D.Disk.left_since c.args.disk.now c.attach.new.self parts (λ a b. b ≡ a) P (g.met.D.Disk.only_now c.args.disk.now) rest.durable l1 refl (λ x e. subst P (sym e) refl)

pub returns-in_err-sync-clause-any_moment : goal.returns-in_err-sync-clause-any_moment
returns-in_err-sync-clause-any_moment g c parts rest =
    let P : Parts → Type 0 = IsRecovered (recovered parts.main parts.log) in
    let l1 : Leads g.D.Disk.may_leave g.D.Disk.moment g.D.Disk.left_since (λ a b. b ≡ a) c.args.disk.now c.attach.new.self = went_on g.D.Disk.may_leave g.D.Disk.moment g.D.Disk.left_since c.args.disk.now c.args.disk.now c.attach.new.self (λ a b. b ≡ a) (λ a b. b ≡ a) (λ a b. b ≡ a) (stayed g.D.Disk.may_leave g.D.Disk.moment g.D.Disk.left_since c.args.disk.now (λ a b. b ≡ a) (λ x. refl)) (followed (g.D.Disk.may_leave c.args.disk.now) (g.D.Disk.may_leave c.attach.new.self) c.attach.ensures.crash) c.attach.ensures.time (λ a b s. s) (λ a b x s t. t ∙ s) in
    let l2 : Leads g.D.Disk.may_leave g.D.Disk.moment g.D.Disk.left_since (λ a b. b ≡ a) c.args.disk.now c.sync.new.self = went_on g.D.Disk.may_leave g.D.Disk.moment g.D.Disk.left_since c.args.disk.now c.attach.new.self c.sync.new.self (λ a b. b ≡ a) (λ a b. b ≡ a) (λ a b. b ≡ a) l1 (followed (g.D.Disk.may_leave c.attach.new.self) (g.D.Disk.may_leave c.sync.new.self) c.sync.ensures.crash) c.sync.ensures.time (λ a b s. s) (λ a b x s t. t ∙ s) in
    from_one g.D.Disk.may_leave g.D.Disk.moment g.D.Disk.left_since c.args.disk.now c.sync.new.self parts (λ a b. b ≡ a) P (g.met.D.Disk.only_now c.args.disk.now) rest.durable l2 refl (λ x e. subst P (sym e) refl)

pub returns-in_err-file-clause-any_moment : goal.returns-in_err-file-clause-any_moment
returns-in_err-file-clause-any_moment g c parts rest =
    let P : Parts → Type 0 = IsRecovered (recovered parts.main parts.log) in
    let l1 : Leads g.D.Disk.may_leave g.D.Disk.moment g.D.Disk.left_since (λ a b. b ≡ a) c.args.disk.now c.attach.new.self = went_on g.D.Disk.may_leave g.D.Disk.moment g.D.Disk.left_since c.args.disk.now c.args.disk.now c.attach.new.self (λ a b. b ≡ a) (λ a b. b ≡ a) (λ a b. b ≡ a) (stayed g.D.Disk.may_leave g.D.Disk.moment g.D.Disk.left_since c.args.disk.now (λ a b. b ≡ a) (λ x. refl)) (followed (g.D.Disk.may_leave c.args.disk.now) (g.D.Disk.may_leave c.attach.new.self) c.attach.ensures.crash) c.attach.ensures.time (λ a b s. s) (λ a b x s t. t ∙ s) in
    let l2 : Leads g.D.Disk.may_leave g.D.Disk.moment g.D.Disk.left_since (λ a b. b ≡ a) c.args.disk.now c.sync.new.self = went_on g.D.Disk.may_leave g.D.Disk.moment g.D.Disk.left_since c.args.disk.now c.attach.new.self c.sync.new.self (λ a b. b ≡ a) (λ a b. b ≡ a) (λ a b. b ≡ a) l1 (followed (g.D.Disk.may_leave c.attach.new.self) (g.D.Disk.may_leave c.sync.new.self) c.sync.ensures.crash) c.sync.ensures.time (λ a b s. s) (λ a b x s t. t ∙ s) in
    let l3 : Leads g.D.Disk.may_leave g.D.Disk.moment g.D.Disk.left_since (λ a b. b ≡ a) c.args.disk.now c.read_part.new.disk = joined g.D.Disk.may_leave g.D.Disk.moment g.D.Disk.left_since c.args.disk.now c.sync.new.self c.read_part.new.disk (λ a b. b ≡ a) l2 c.read_part.ensures.leads (λ a b x s t. t ∙ s) in
    from_one g.D.Disk.may_leave g.D.Disk.moment g.D.Disk.left_since c.args.disk.now c.read_part.new.disk parts (λ a b. b ≡ a) P (g.met.D.Disk.only_now c.args.disk.now) rest.durable l3 refl (λ x e. subst P (sym e) refl)

pub returns-in_err-log-clause-any_moment : goal.returns-in_err-log-clause-any_moment
returns-in_err-log-clause-any_moment g c parts rest =
    let P : Parts → Type 0 = IsRecovered (recovered parts.main parts.log) in
    let l1 : Leads g.D.Disk.may_leave g.D.Disk.moment g.D.Disk.left_since (λ a b. b ≡ a) c.args.disk.now c.attach.new.self = went_on g.D.Disk.may_leave g.D.Disk.moment g.D.Disk.left_since c.args.disk.now c.args.disk.now c.attach.new.self (λ a b. b ≡ a) (λ a b. b ≡ a) (λ a b. b ≡ a) (stayed g.D.Disk.may_leave g.D.Disk.moment g.D.Disk.left_since c.args.disk.now (λ a b. b ≡ a) (λ x. refl)) (followed (g.D.Disk.may_leave c.args.disk.now) (g.D.Disk.may_leave c.attach.new.self) c.attach.ensures.crash) c.attach.ensures.time (λ a b s. s) (λ a b x s t. t ∙ s) in
    let l2 : Leads g.D.Disk.may_leave g.D.Disk.moment g.D.Disk.left_since (λ a b. b ≡ a) c.args.disk.now c.sync.new.self = went_on g.D.Disk.may_leave g.D.Disk.moment g.D.Disk.left_since c.args.disk.now c.attach.new.self c.sync.new.self (λ a b. b ≡ a) (λ a b. b ≡ a) (λ a b. b ≡ a) l1 (followed (g.D.Disk.may_leave c.attach.new.self) (g.D.Disk.may_leave c.sync.new.self) c.sync.ensures.crash) c.sync.ensures.time (λ a b s. s) (λ a b x s t. t ∙ s) in
    let l3 : Leads g.D.Disk.may_leave g.D.Disk.moment g.D.Disk.left_since (λ a b. b ≡ a) c.args.disk.now c.read_part.new.disk = joined g.D.Disk.may_leave g.D.Disk.moment g.D.Disk.left_since c.args.disk.now c.sync.new.self c.read_part.new.disk (λ a b. b ≡ a) l2 c.read_part.ensures.leads (λ a b x s t. t ∙ s) in
    let l4 : Leads g.D.Disk.may_leave g.D.Disk.moment g.D.Disk.left_since (λ a b. b ≡ a) c.args.disk.now c.read_part-2.new.disk = joined g.D.Disk.may_leave g.D.Disk.moment g.D.Disk.left_since c.args.disk.now c.read_part.new.disk c.read_part-2.new.disk (λ a b. b ≡ a) l3 c.read_part-2.ensures.leads (λ a b x s t. t ∙ s) in
    from_one g.D.Disk.may_leave g.D.Disk.moment g.D.Disk.left_since c.args.disk.now c.read_part-2.new.disk parts (λ a b. b ≡ a) P (g.met.D.Disk.only_now c.args.disk.now) rest.durable l4 refl (λ x e. subst P (sym e) refl)

pub returns-in_err-mend-clause-any_moment : goal.returns-in_err-mend-clause-any_moment
returns-in_err-mend-clause-any_moment g c parts rest =
    let P : Parts → Type 0 = IsRecovered (recovered parts.main parts.log) in
    let l1 : Leads g.D.Disk.may_leave g.D.Disk.moment g.D.Disk.left_since (λ a b. b ≡ a) c.args.disk.now c.attach.new.self = went_on g.D.Disk.may_leave g.D.Disk.moment g.D.Disk.left_since c.args.disk.now c.args.disk.now c.attach.new.self (λ a b. b ≡ a) (λ a b. b ≡ a) (λ a b. b ≡ a) (stayed g.D.Disk.may_leave g.D.Disk.moment g.D.Disk.left_since c.args.disk.now (λ a b. b ≡ a) (λ x. refl)) (followed (g.D.Disk.may_leave c.args.disk.now) (g.D.Disk.may_leave c.attach.new.self) c.attach.ensures.crash) c.attach.ensures.time (λ a b s. s) (λ a b x s t. t ∙ s) in
    let l2 : Leads g.D.Disk.may_leave g.D.Disk.moment g.D.Disk.left_since (λ a b. b ≡ a) c.args.disk.now c.sync.new.self = went_on g.D.Disk.may_leave g.D.Disk.moment g.D.Disk.left_since c.args.disk.now c.attach.new.self c.sync.new.self (λ a b. b ≡ a) (λ a b. b ≡ a) (λ a b. b ≡ a) l1 (followed (g.D.Disk.may_leave c.attach.new.self) (g.D.Disk.may_leave c.sync.new.self) c.sync.ensures.crash) c.sync.ensures.time (λ a b s. s) (λ a b x s t. t ∙ s) in
    let l3 : Leads g.D.Disk.may_leave g.D.Disk.moment g.D.Disk.left_since (λ a b. b ≡ a) c.args.disk.now c.read_part.new.disk = joined g.D.Disk.may_leave g.D.Disk.moment g.D.Disk.left_since c.args.disk.now c.sync.new.self c.read_part.new.disk (λ a b. b ≡ a) l2 c.read_part.ensures.leads (λ a b x s t. t ∙ s) in
    let l4 : Leads g.D.Disk.may_leave g.D.Disk.moment g.D.Disk.left_since (λ a b. b ≡ a) c.args.disk.now c.read_part-2.new.disk = joined g.D.Disk.may_leave g.D.Disk.moment g.D.Disk.left_since c.args.disk.now c.read_part.new.disk c.read_part-2.new.disk (λ a b. b ≡ a) l3 c.read_part-2.ensures.leads (λ a b x s t. t ∙ s) in
    let told : g.D.Disk.seen c.sync.new.self ≡ Some parts = c.sync.ensures.seen ∙ c.attach.ensures.seen ∙ rest.reads in
    let told2 : g.D.Disk.seen c.read_part.new.disk ≡ Some parts = c.read_part.ensures.seen ∙ told in
    let main : c.in_ok-file.file.items ≡ parts.main = if_some (g.D.Disk.seen c.sync.new.self) parts (λ ps. c.in_ok-file.file.items ≡ part_of ps Main) told c.in_ok-file.ensures.bytes in
    let log : c.deref.result.now ≡ parts.log = c.deref.ensures.value ∙ if_some (g.D.Disk.seen c.read_part.new.disk) parts (λ ps. c.in_ok-log.log.items ≡ part_of ps Log) told2 c.in_ok-log.ensures.bytes in
    let settled : Settles g.D.Disk.seen g.D.Disk.may_leave c.read_part-2.new.disk (record { main = c.in_ok-file.file.items; log = c.deref.result.now }) =
    subst (Settles g.D.Disk.seen g.D.Disk.may_leave c.read_part-2.new.disk) (λ i. record { main = sym main i; log = sym log i }) (record { reads = c.read_part-2.ensures.seen ∙ told2; durable = left_alone g.D.Disk.may_leave g.D.Disk.moment g.D.Disk.left_since c.args.disk.now c.read_part-2.new.disk parts l4 rest.durable }) in
    let last = subst (λ (ps : Parts). LeavesOnly g.D.Disk.moment g.D.Disk.left_since c.read_part-2.new.disk c.mend.new.disk (IsRecovered (recovered ps.main ps.log))) (λ i. record { main = main i; log = log i }) (c.mend.ensures.any_moment settled) in
    chained g.D.Disk.moment g.D.Disk.left_since c.args.disk.now c.read_part-2.new.disk c.mend.new.disk P (from_one g.D.Disk.may_leave g.D.Disk.moment g.D.Disk.left_since c.args.disk.now c.read_part-2.new.disk parts (λ a b. b ≡ a) P (g.met.D.Disk.only_now c.args.disk.now) rest.durable l4 refl (λ x e. subst P (sym e) refl)) last

pub returns-clause-any_moment : goal.returns-clause-any_moment
returns-clause-any_moment g c parts rest =
    let P : Parts → Type 0 = IsRecovered (recovered parts.main parts.log) in
    let l1 : Leads g.D.Disk.may_leave g.D.Disk.moment g.D.Disk.left_since (λ a b. b ≡ a) c.args.disk.now c.attach.new.self = went_on g.D.Disk.may_leave g.D.Disk.moment g.D.Disk.left_since c.args.disk.now c.args.disk.now c.attach.new.self (λ a b. b ≡ a) (λ a b. b ≡ a) (λ a b. b ≡ a) (stayed g.D.Disk.may_leave g.D.Disk.moment g.D.Disk.left_since c.args.disk.now (λ a b. b ≡ a) (λ x. refl)) (followed (g.D.Disk.may_leave c.args.disk.now) (g.D.Disk.may_leave c.attach.new.self) c.attach.ensures.crash) c.attach.ensures.time (λ a b s. s) (λ a b x s t. t ∙ s) in
    let l2 : Leads g.D.Disk.may_leave g.D.Disk.moment g.D.Disk.left_since (λ a b. b ≡ a) c.args.disk.now c.sync.new.self = went_on g.D.Disk.may_leave g.D.Disk.moment g.D.Disk.left_since c.args.disk.now c.attach.new.self c.sync.new.self (λ a b. b ≡ a) (λ a b. b ≡ a) (λ a b. b ≡ a) l1 (followed (g.D.Disk.may_leave c.attach.new.self) (g.D.Disk.may_leave c.sync.new.self) c.sync.ensures.crash) c.sync.ensures.time (λ a b s. s) (λ a b x s t. t ∙ s) in
    let l3 : Leads g.D.Disk.may_leave g.D.Disk.moment g.D.Disk.left_since (λ a b. b ≡ a) c.args.disk.now c.read_part.new.disk = joined g.D.Disk.may_leave g.D.Disk.moment g.D.Disk.left_since c.args.disk.now c.sync.new.self c.read_part.new.disk (λ a b. b ≡ a) l2 c.read_part.ensures.leads (λ a b x s t. t ∙ s) in
    let l4 : Leads g.D.Disk.may_leave g.D.Disk.moment g.D.Disk.left_since (λ a b. b ≡ a) c.args.disk.now c.read_part-2.new.disk = joined g.D.Disk.may_leave g.D.Disk.moment g.D.Disk.left_since c.args.disk.now c.read_part.new.disk c.read_part-2.new.disk (λ a b. b ≡ a) l3 c.read_part-2.ensures.leads (λ a b x s t. t ∙ s) in
    let told : g.D.Disk.seen c.sync.new.self ≡ Some parts = c.sync.ensures.seen ∙ c.attach.ensures.seen ∙ rest.reads in
    let told2 : g.D.Disk.seen c.read_part.new.disk ≡ Some parts = c.read_part.ensures.seen ∙ told in
    let main : c.in_ok-file.file.items ≡ parts.main = if_some (g.D.Disk.seen c.sync.new.self) parts (λ ps. c.in_ok-file.file.items ≡ part_of ps Main) told c.in_ok-file.ensures.bytes in
    let log : c.deref.result.now ≡ parts.log = c.deref.ensures.value ∙ if_some (g.D.Disk.seen c.read_part.new.disk) parts (λ ps. c.in_ok-log.log.items ≡ part_of ps Log) told2 c.in_ok-log.ensures.bytes in
    let settled : Settles g.D.Disk.seen g.D.Disk.may_leave c.read_part-2.new.disk (record { main = c.in_ok-file.file.items; log = c.deref.result.now }) =
    subst (Settles g.D.Disk.seen g.D.Disk.may_leave c.read_part-2.new.disk) (λ i. record { main = sym main i; log = sym log i }) (record { reads = c.read_part-2.ensures.seen ∙ told2; durable = left_alone g.D.Disk.may_leave g.D.Disk.moment g.D.Disk.left_since c.args.disk.now c.read_part-2.new.disk parts l4 rest.durable }) in
    let last = subst (λ (ps : Parts). LeavesOnly g.D.Disk.moment g.D.Disk.left_since c.read_part-2.new.disk c.mend.new.disk (IsRecovered (recovered ps.main ps.log))) (λ i. record { main = main i; log = log i }) (c.mend.ensures.any_moment settled) in
    chained g.D.Disk.moment g.D.Disk.left_since c.args.disk.now c.read_part-2.new.disk c.mend.new.disk P (from_one g.D.Disk.may_leave g.D.Disk.moment g.D.Disk.left_since c.args.disk.now c.read_part-2.new.disk parts (λ a b. b ≡ a) P (g.met.D.Disk.only_now c.args.disk.now) rest.durable l4 refl (λ x e. subst P (sym e) refl)) last
