-- What is past MaxRec was cut, a record was put, and MaxRec was raised: the first image goes on to the last one, each record keeps what it has to, and the steps are those of `put-rec`.
use Rattle.cdf_edits.proofs.Common.{Act, AllKeep, Found, Good, In, Kind, Leaf, List, Range, Stays, Variable, VariableShape, [], ap, arith, bytes_eq, content, extent, false, if◌then◌else◌, leaves_of, length, max_rec_at, nat_le, nat_lt, nat_tests, or_parts, owned, put_changes, range, record_bytes, record_number_limit, refl, shape, shared, subst, suc, sym, true, variable_of, ℕ, ◌&&◌, ◌++◌, ◌+◌, ◌<◌, ◌∙◌, ◌∷◌, ◌≡◌, ◌≤◌}
use Rattle.cdf_edits.proofs.Edits.Common.{block_behind, cpr_behind, stays_then}
use Rattle.cdf_edits.proofs.Edits.LeafPieces.{IsOneOf, in_order, of_each, place_in}
use Rattle.cdf_edits.proofs.Edits.PlainLeaves.{leaves_ascend}
use Rattle.cdf_edits.specs.Commands.GreatestRecord.{RMaxRecFollows, greatest_r_max_rec, r_extents}
use Rattle.cdf_edits.specs.Commands.PutSteps.{Begins, Put, PutsBySteps, PutsLeaf, PutsLeaves, PutsUpTo, Stage}
use Rattle.cdf_edits.specs.Commands.Room.{is_rewritten}
use Rattle.cdf_edits.specs.Index.Blocks.{cuts_before_put, first_written}
use Rattle.cdf_model.specs.RecordSteps.{greater}
use Rattle.cdf_puts.specs.Going.{GoesOn, found_in}
use Rattle.cdf_put_steps.proofs.GoesAlong.{goes_along}
use Rattle.cdf_put_steps.proofs.KeptAlong.{all_keep, behind_stays, cpr_same, put_goes, so, writes}
use Rattle.cdf_put_steps.proofs.StepKeeps.{cpr_unchanged}
use Rattle.cdf_put_steps.proofs.StepsDone.{greater_is_max, last_extent, last_r_max_rec, touched}
use Rattle.cdf_put_steps.specs.Along.{LeavesPut, at_start, put_in}
use Rattle.cdf_packed_cuts.specs.Past.{PackedPast}
use Rattle.cdf_packed_gaps.proofs.CutLeft.{leaf_left}
use Rattle.cdf_packed_gaps.proofs.CutRoom.{alone, content_mid, cuts_was, variable_mid}
use Rattle.cdf_packed_gaps.specs.CutThenPut.{CutThenPut}

-- ---- the acts before an image do not count for what comes after it

leaf_from : (p : Put) (image : List ℕ) (own : VariableShape) (acts acts' : List Act) (next : ℕ) (to : Stage) → PutsLeaf p (record { image = image; own = own; acts = acts; next = next }) to → PutsLeaf p (record { image = image; own = own; acts = acts'; next = next }) to
leaf_from p image own acts acts' next to x = record {
  new = x.new;
  at = x.at;
  more = x.more;
  has = x.has;
  range_is = x.range_is;
  step = x.step;
  written = x.written;
  goes = record { good = x.goes.good; stands = x.goes.stands; acts_follow = x.goes.acts_follow; keeps = x.goes.keeps; unused = x.goes.unused; spare = x.goes.spare; tail = x.goes.tail; freed = x.goes.freed };
  next_is = x.next_is;
}

leaves_from : (p : Put) (image : List ℕ) (own : VariableShape) (acts acts' : List Act) (next : ℕ) (stages : List Stage) (to : Stage) → next < to.next → PutsLeaves p (record { image = image; own = own; acts = acts; next = next }) stages to → PutsLeaves p (record { image = image; own = own; acts = acts'; next = next }) stages to
leaves_from p image own acts acts' next [] to lt e = let same : next ≡ to.next = ap (λ (s : Stage). s.next) e in absurd (omega (arith, same))
leaves_from p image own acts acts' next (s ∷ more) to lt h = (leaf_from p image own acts acts' next s h.0, h.1)

-- a block of which no record is written or cut ends before the first record that is cut
unwritten_ends : (v : Variable) (n f l : ℕ) → cuts_before_put v n ≡ true → f ≤ l → l ≤ record_number_limit → is_rewritten v n (range f l) ≡ false → l < extent v.max_rec
unwritten_ends v n f l cuts order small e =
    let none = (or_parts (nat_lt 0 (shared (first_written v n) n (range f l))) (cuts_before_put v n && nat_lt 0 (shared (extent v.max_rec) record_number_limit (range f l))) e).1 in
    let gone : nat_lt 0 (shared (extent v.max_rec) record_number_limit (range f l)) ≡ false = rw cuts at none in
    outside (extent v.max_rec) f l order small gone
  where
    outside : (m f l : ℕ) → f ≤ l → l ≤ record_number_limit → nat_lt 0 (shared m record_number_limit (range f l)) ≡ false → l < m
    outside m f l order small none = grind (arith, nat_tests, none)

module _ {b mid now : List ℕ} {kind : Kind} {before : List VariableShape} {own : VariableShape} {after : List VariableShape} {first n : ℕ} {raw : List ℕ} {cut : PackedPast b mid kind before own after first} {to : Stage} {acts : List Act} (t : CutThenPut b mid now kind before own after first n raw cut to acts) where
  abbrev v : Variable
  v = variable_of b own

  abbrev found : Found
  found = found_in b kind before own

  abbrev good : Good b
  good = t.cuts.good

  abbrev own' : VariableShape
  own' = cut.own'

  -- ---- the put after the cut

  pub max_rec_mid : max_rec_at mid cut.own'.vdr ≡ max_rec_at b own.vdr
  max_rec_mid = ap (λ (w : Variable). w.max_rec) (variable_mid t.cuts cut)

  pub put : LeavesPut mid kind before cut.own' after n raw to acts
  put = record { good = cut.goes_on.good; among = cut.goes_on.among; along = t.along }

  pub goes : GoesOn b now kind before own to.own after (cut.acts ++ acts)
  goes = goes_along t.cuts.good t.cuts.among cut.goes_on (put_goes put t.upto t.done t.short)

  -- ---- the steps

  found_same : found_in mid kind before cut.own' ≡ found
  found_same = λ i. record found { variable = variable_mid t.cuts cut i }

  put_same : put_in mid kind before cut.own' n raw ≡ put_in b kind before own n raw
  put_same = λ i. record { found = found_same i; rec = n; raw = raw }

  abbrev start : Stage
  start = record { image = mid; own = cut.own'; acts = cut.acts; next = first_written v n }

  upto_leaf : first_written v n < to.next
  upto_leaf = let upto = t.upto in omega (arith, alone t.cuts)

  puts : PutsLeaves (put_in b kind before own n raw) start t.along.stages to
  puts = leaves_from (put_in b kind before own n raw) mid cut.own' [] cut.acts (first_written v n) t.along.stages to upto_leaf (subst (λ (p : Put). PutsLeaves p (at_start mid p cut.own') t.along.stages to) put_same t.along.puts)

  steps : PutsUpTo b (put_in b kind before own n raw) own to (cut.acts ++ acts)
  steps = record {
    start = start;
    stages = t.along.stages;
    begins = subst (Begins found (at_start b (put_in b kind before own n raw) own) start) (sym (cuts_was t.cuts)) (cut.steps t.cuts.first_is (first_written v n));
    puts = puts;
    acts_are = ap (λ (more : List Act). cut.acts ++ more) t.along.acts_are;
  }

  r_max_then : RMaxRecFollows b now
  r_max_then = last_r_max_rec put t.upto t.done t.short ∙ (λ i. if bytes_eq (r_extents (content_mid t.cuts cut i)) (r_extents (content now)) then cut.r_max_rec_is i else greatest_r_max_rec (content now))

  pub by_steps : length raw ≡ record_bytes b own.vdr → PutsBySteps b now (found_in b kind before own) n own (cut.acts ++ acts)
  by_steps raw_long = record {
    raw = raw;
    raw_long = raw_long;
    last = to;
    puts = steps;
    past = t.upto;
    changed = touched put t.upto t.done t.short;
    as_long = (writes put t.upto t.done t.short).as_long;
    max_rec_is = last_extent put t.upto t.done t.short ∙ ap (λ (m : _). greater (extent m) (n + 1)) max_rec_mid ∙ greater_is_max (extent v.max_rec) (n + 1);
    r_max_rec = r_max_then;
  }

  -- ---- what each record keeps

  abbrev leaves : List Leaf
  leaves = leaves_of own.index

  unwritten_stays : (l : Leaf) → IsOneOf leaves l → is_rewritten v n (range l.first l.last) ≡ false → Stays b now l.place []
  unwritten_stays l i e =
      let o = in_order 0 (suc record_number_limit) leaves (leaves_ascend t.cuts.good t.cuts.among) l i in
      let ends : l.last < first = subst (λ (m : ℕ). l.last < m) (sym t.cuts.first_is) (unwritten_ends v n l.first l.last (cuts_was t.cuts) (omega (arith, o.ordered)) (omega (arith, o.before)) e) in
      let there = leaf_left t.cuts.good t.cuts.among cut t.cuts.first_is l i ends in
      let one = of_each (λ (x : Leaf). x.last < first → Stays b mid x.place []) leaves l cut.blocks i ends in
      let two = (so put t.upto t.done t.short).blocks l there (ap (λ (w : Variable). is_rewritten w n (range l.first l.last)) (variable_mid t.cuts cut) ∙ e) in
      let three = behind_stays put t.upto t.done t.short l.place (block_behind to.own l.place (place_in (leaves_of to.own.index) l two.0)) in
      stays_then b mid now l.place [] [] [] one (stays_then mid to.image now l.place [] [] [] two.1 three (λ k out. (tt, tt))) (λ k out. (tt, tt))

  cpr_keeps : (m : ℕ) → In m own.cpr → Stays b now m []
  cpr_keeps m i =
      let kept = so put t.upto t.done t.short in
      let one = cpr_unchanged b mid found (λ (r : Range). nat_le (extent v.max_rec) r.last) cut.acts t.cuts.good t.cuts.among refl (cut.steps t.cuts.first_is 0).goes.keeps m i in
      let there : In m cut.own'.cpr = subst (In m) (sym (cpr_same t.cuts.good t.cuts.among cut.goes_on)) i in
      let three = behind_stays put t.upto t.done t.short m (cpr_behind to.own m (subst (In m) (sym kept.cpr_is) there)) in
      stays_then b mid now m [] [] [] one (stays_then mid to.image now m [] [] [] (kept.cpr m there) three (λ k out. (tt, tt))) (λ k out. (tt, tt))

  pub keeps : AllKeep b now (put_changes b (shape b) (found_in b kind before own) n) (cut.acts ++ acts) (owned b (shape b))
  keeps = all_keep n t.cuts.good t.cuts.among goes unwritten_stays cpr_keeps
