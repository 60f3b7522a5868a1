use Rattle.std.proofs.Common.{Ok, Some, ap, arith, length, rules, sym, take, ℕ, ◌++◌, ◌∙◌, ◌≡◌, ◌≤◌, drop}
use Rattle.std.proofs.lemmas.List.{length-append, length-take, take_all}
use Rattle.cdf_store.specs.Reading.{ReadsAt}
use Rattle.cdf_store.specs.declared.failed.Failed.{Failed}
use Rattle.cdf_journal.specs.Crashes.{part_of}
use Rattle.cdf_journal.proofs.Moments.{followed, went_on}
use Rattle.cdf_journal.proofs.Steps.{if_some, if_told, read_on}
use Rattle.cdf_journal.proofs.reading.read_part.Goals as goal

pub loop-part-preserved : goal.loop-part-preserved
loop-part-preserved g c =
    let l = c.loop-part in
    let part = c.args.part in
    let n = c.in_ok-count.count in
    let out = c.read_at.new.out in
    let piece = c.front.result.now in
    let items : c.extend_from_slice.new.self.items ≡ l.bytes.items ++ piece = c.in_ok-extend_from_slice.ensures.items in
    let some = c.in_ok-count.ensures.some in
    let place : c.len-in-loop-part.result ≡ length l.bytes.items = search rules in
    let size : g.D.Disk.size l.disk part ≡ c.len-size.result = l.invariant.sizes part ∙ sym l.invariant.whole in
    let long : length piece ≤ n = omega (arith, ap length c.front.ensures, length-take n out) in
    record {
      within = omega (arith, some.within, place, size, long, ap length items, length-append l.bytes.items piece, l.invariant.within);
      whole = l.invariant.whole;
      bytes = λ parts e.
          let now : g.D.Disk.seen l.disk ≡ Some parts = l.invariant.seen ∙ e in
          let read : ReadsAt {E = Failed} (Some (part_of parts part)) c.len-in-loop-part.result out (Ok n) = if_some (g.D.Disk.seen l.disk) parts (λ ps. ReadsAt {E = Failed} (Some (part_of ps part)) c.len-in-loop-part.result out (Ok n)) now c.in_ok-count.ensures.bytes in
          read_on (part_of parts part) l.bytes.items piece c.extend_from_slice.new.self.items n (l.invariant.bytes parts e) items (c.front.ensures ∙ read.bytes ∙ ap (λ (k : ℕ). take n (drop k (part_of parts part))) place);
      seen = c.read_at.ensures.seen ∙ l.invariant.seen;
      sizes = λ other. c.read_at.ensures.sizes other ∙ l.invariant.sizes other;
      leads = went_on g.D.Disk.may_leave g.D.Disk.moment g.D.Disk.left_since c.args.disk.now l.disk c.read_at.new.self (λ a b. b ≡ a) (λ a b. b ≡ a) (λ a b. b ≡ a) l.invariant.leads
          (followed (g.D.Disk.may_leave l.disk) (g.D.Disk.may_leave c.read_at.new.self) c.read_at.ensures.crash) c.read_at.ensures.time (λ a b s. s) (λ a b x s t. t ∙ s);
      faults = c.in_ok-count.ensures.cause.done ∙ l.invariant.faults;
    }

pub returns-clause-bytes : goal.returns-clause-bytes
returns-clause-bytes g c =
    let l = c.loop-part in
    if_told (g.D.Disk.seen c.args.disk.now) (λ parts. l.bytes.items ≡ part_of parts c.args.part)
    (λ parts e.
    let long : g.D.Disk.size c.args.disk.now c.args.part ≡ length (part_of parts c.args.part) = if_some (g.D.Disk.seen c.args.disk.now) parts (λ ps. g.D.Disk.size c.args.disk.now c.args.part ≡ length (part_of ps c.args.part)) e (g.met.D.Disk.sized c.args.disk.now c.args.part) in
    let enough : length (part_of parts c.args.part) ≤ length l.bytes.items = (let f = c.loop-part-test.false in omega (arith, f, long, l.invariant.whole)) in
    l.invariant.bytes parts e ∙ take_all (length l.bytes.items) (part_of parts c.args.part) enough)
