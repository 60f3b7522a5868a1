use Rattle.cdf_var_records.proofs.Common.{Good, IfOk-weaker, extent, max_rec_at, missing, pad_record, read, subst, sym, variable_at, ◌<◌, ◌∙◌, ◌≡◌, ◌≤◌, arith, List, ℕ}
use Rattle.cdf_var_records.proofs.RecordReading.{lies, reads_missing, reads_past, reads_stored}
use Rattle.cdf_var_records.proofs.record.read_record.Goals as goal
use Rattle.cdf_var_records.specs.Unpacked.{IsUnpacked}

pub read_extent-requires : goal.read_extent-requires
read_extent-requires g c = let l = lies c.requires.good c.requires.form in omega arith

pub read_pad_record-requires-clause-good : goal.read_pad_record-requires-clause-good
read_pad_record-requires-clause-good g c = subst Good (sym c.read_extent.ensures.area.image) c.requires.good

pub returns-then-number-extent-clause-record : goal.returns-then-number-extent-clause-record
returns-then-number-extent-clause-record g c =
    let b = g.A.Area.image c.args.area.now in
    let vdr = c.args.form.now.place.vdr in
    let past : extent (max_rec_at b vdr) ≤ c.number_of-number.result = omega (arith, c.in_ok-extent.ensures.extent, c.if-number-extent.true) in
    IfOk-weaker c.read_pad_record.result (λ bytes. bytes.items ≡ pad_record (variable_at b vdr)) (λ bytes. bytes.items ≡ read (variable_at b vdr) c.args.rec)
    (λ x e. reads_past c.requires.good c.requires.form c.args.rec c.number_of-number.result x.items c.number_of-number.ensures past e)
    (rw c.read_extent.ensures.area.image at c.read_pad_record.ensures.record)

pub read_stored-requires-clause-good : goal.read_stored-requires-clause-good
read_stored-requires-clause-good g c = subst Good (sym c.read_extent.ensures.area.image) c.requires.good

pub read_stored-requires-clause-kept : goal.read_stored-requires-clause-kept
read_stored-requires-clause-kept g c = subst (λ (x : List ℕ). IsUnpacked x c.args.unpacked.now) (sym c.read_extent.ensures.area.image) c.requires.kept

pub returns-in-Some-clause-record : goal.returns-in-Some-clause-record
returns-in-Some-clause-record g c =
    let b = g.A.Area.image c.args.area.now in
    let within : c.number_of-number.result < extent (max_rec_at b c.args.form.now.place.vdr) = omega (arith, c.in_ok-extent.ensures.extent, c.if-number-extent.false) in
    reads_stored c.requires.good c.requires.form c.args.rec c.number_of-number.result c.in-Some.bytes.items c.number_of-number.ensures within (rw (c.in-Some.is, c.read_extent.ensures.area.image) at c.in_ok-stored.ensures.record)

pub read_missing-requires-clause-good : goal.read_missing-requires-clause-good
read_missing-requires-clause-good g c = subst Good (sym (c.read_stored.ensures.area.image ∙ c.read_extent.ensures.area.image)) c.requires.good

pub read_missing-requires-clause-kept : goal.read_missing-requires-clause-kept
read_missing-requires-clause-kept g c = subst (λ (x : List ℕ). IsUnpacked x c.read_stored.new.unpacked) (sym c.read_stored.ensures.area.image) c.read_stored.ensures.kept

pub returns-in-None-clause-record : goal.returns-in-None-clause-record
returns-in-None-clause-record g c =
    let b = g.A.Area.image c.args.area.now in
    let vdr = c.args.form.now.place.vdr in
    let within : c.number_of-number.result < extent (max_rec_at b vdr) = omega (arith, c.in_ok-extent.ensures.extent, c.if-number-extent.false) in
    let gone = rw (c.in-None.is, c.read_extent.ensures.area.image) at c.in_ok-stored.ensures.record in
    IfOk-weaker c.read_missing.result (λ bytes. bytes.items ≡ missing (variable_at b vdr).sparse (variable_at b vdr) c.number_of-number.result) (λ bytes. bytes.items ≡ read (variable_at b vdr) c.args.rec)
    (λ x e. reads_missing c.requires.good c.requires.form c.args.rec c.number_of-number.result x.items c.number_of-number.ensures within gone e)
    (rw (c.read_stored.ensures.area.image, c.read_extent.ensures.area.image) at c.read_missing.ensures.record)
