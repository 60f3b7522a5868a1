-- A block that was added to a packed variable, with the records that a new block has, is a step of a put.
use Rattle.std.proofs.Common.{Bool, List, None, Option, Some, ap, ap₂, arith, length, max, refl, subst, suc, sym, true, ℕ, ◌*◌, ◌+◌, ◌-◌, ◌∙◌, ◌≡◌, ◌≤◌}
use Rattle.cdf_edits.proofs.Common.{Act, Kind, VariableShape, leaves_of, range, record_number_limit, same_Some}
use Rattle.cdf_edits.proofs.Edits.LeafPieces.{find_covering}
use Rattle.cdf_edits.proofs.Edits.PlainLeaves.{leaves_ascend}
use Rattle.cdf_edits.specs.Commands.PutSteps.{BlockWritten, Put, PutsLeaf, bytes_after, leaf_at, leaf_step, range_at, records_from}
use Rattle.cdf_edits.specs.Index.Blocks.{covers, firsts_of, new_range}
use Rattle.cdf_edits.specs.Index.Written.{block_need}
use Rattle.cdf_format.specs.Index.{Leaf}
use Rattle.cdf_model.specs.DataSet.{Variable}
use Rattle.cdf_puts.proofs.PutSpot.{records_long}
use Rattle.cdf_puts.specs.Covering.{new_last}
use Rattle.cdf_puts.specs.Going.{found_in}
use Rattle.cdf_puts.specs.Putting.{records_put}
use Rattle.cdf_puts.specs.Steps.{IsVacant}
use Rattle.cdf_puts.specs.declared.putting.NewRecord.{NewRecord}
use Rattle.cdf_blocks.specs.Replaced.{stage}
use Rattle.cdf_blocks.specs.Reading.{block_size}
use Rattle.cdf_packed_puts.specs.Adding.{BlockAdded}
use Rattle.cdf_packed_puts.specs.Rewriting.{LeafPut, PutsInto}
use Rattle.cdf_packed_puts.proofs.LeafRewritten.{goes_found, into_later}
use Rattle.cdf_packed_puts.proofs.RecordsOver.{records_are}

new_is : (v : Variable) (fs : List ℕ) (k : ℕ) → range k (new_range v fs k).last ≡ new_range v fs k
new_is v fs k = grind arith

module _ {b now : List ℕ} {p : Put} {new : NewRecord} {kind : Kind} {before : List VariableShape} {own : VariableShape} {after : List VariableShape} {k : ℕ} (x : PutsInto p new b kind before own after) (more : k ≤ new.rec) (none : leaf_at k own.index ≡ None) (end : ℕ) (end_is : end ≡ new_last p.found.variable own.index k) (vacant : IsVacant own k end) (plain : List ℕ) (plain_is : plain ≡ records_put new.raw.items new.pad.items new.rec (end + 1 - k) k) (a : BlockAdded b now kind before own after k end plain) where
  abbrev own' : VariableShape
  own' = a.own'

  abbrev made : Leaf
  made = a.new

  abbrev v : Variable
  v = p.found.variable

  vdr_stays : own'.vdr ≡ own.vdr
  vdr_stays = a.goes_on.vdr_is

  has_made : leaf_at k own'.index ≡ Some made
  has_made =
      let order = vacant.ordered in
      find_covering k 0 (suc record_number_limit) (leaves_of own'.index) (leaves_ascend a.goes_on.good a.goes_on.among) made a.one (omega (arith, a.first_is)) (omega (arith, a.last_is, order))

  ranges : range made.first made.last ≡ range_at v k own.index
  ranges =
      subst (λ (o : Option Leaf). range made.first made.last ≡ elim o [ None ↦ new_range v (firsts_of own.index) k | Some old ↦ range old.first old.last ]) (sym none)
      (ap₂ range a.first_is (a.last_is ∙ end_is) ∙ new_is v (firsts_of own.index) k)

  step : (own'.index, a.acts) ≡ leaf_step b now v.rle own'.vdr own.index (leaf_at k own.index) made a.at
  step =
      subst (λ (o : Option Leaf). (own'.index, a.acts) ≡ leaf_step b now v.rle own'.vdr own.index o made a.at) (sym none)
      (subst (λ (rle : Bool). (own'.index, a.acts) ≡ leaf_step b now rle own'.vdr own.index None made a.at) (sym x.was_rle)
      (subst (λ (vdr : ℕ). (own'.index, a.acts) ≡ leaf_step b now true vdr own.index None made a.at) (sym vdr_stays) a.step))

  bytes_are : plain ≡ records_from p b k (made.last + 1 - k)
  bytes_are =
      plain_is ∙ records_are p b new.raw.items new.pad.items new.rec x.rec_is x.raw_is x.pad_is (end + 1 - k) k ∙ ap (λ (n : ℕ). records_from p b k (n + 1 - k)) (sym a.last_is)

  written : BlockWritten b now v.rle own'.vdr a.acts made (bytes_after p b own'.vdr k made.last (leaf_at k own.index))
  written =
      subst (λ (o : Option Leaf). BlockWritten b now v.rle own'.vdr a.acts made (bytes_after p b own'.vdr k made.last o)) (sym none)
      (subst (λ (rle : Bool). BlockWritten b now rle own'.vdr a.acts made (bytes_after p b own'.vdr k made.last None)) (sym x.was_rle)
      (subst (λ (vdr : ℕ). BlockWritten b now true vdr a.acts made (bytes_after p b vdr k made.last None)) (sym vdr_stays) (subst (BlockWritten b now true own.vdr a.acts made) bytes_are a.written)))

  puts_leaf : (done : List Act) → PutsLeaf p (stage b own done k) (stage now own' a.acts (end + 1))
  puts_leaf done = record {
    new = made;
    at = a.at;
    more = rw x.rec_is more;
    has = has_made;
    range_is = ranges;
    step = step;
    written = written;
    goes = goes_found (found_in b kind before own) p.found (stage b own done k) (stage now own' a.acts (end + 1)) (covers k) x.kind_is x.number_is (a.goes (covers k) done k (end + 1));
    next_is = ap (λ (n : ℕ). n + 1) (sym a.last_is);
  }

  plain_long : length plain ≡ block_size made (length new.raw.items)
  plain_long =
      ap length plain_is ∙ records_long new.raw.items new.pad.items new.rec (length new.raw.items) refl (x.pad_long ∙ sym x.raw_long) (end + 1 - k) k
      ∙ ap₂ (λ (f t : ℕ). (t + 1 - f) * length new.raw.items) (sym a.first_is) (sym a.last_is)

  needs : (l : Leaf) → leaf_at k own'.index ≡ Some l → block_need now own'.vdr l ≤ max 28 (12 + block_size l (length new.raw.items))
  needs l e =
      let most : block_need now own.vdr made ≤ max 28 (12 + block_size made (length new.raw.items)) = subst (λ (n : ℕ). block_need now own.vdr made ≤ max 28 (12 + n)) plain_long a.needs in
      let same : made ≡ l = same_Some made l (sym has_made ∙ e) in
      subst (λ (y : Leaf). block_need now own'.vdr y ≤ max 28 (12 + block_size y (length new.raw.items))) same
      (subst (λ (vdr : ℕ). block_need now vdr made ≤ max 28 (12 + block_size made (length new.raw.items))) (sym vdr_stays) most)

  pub added_put : LeafPut b now p new kind before own after k (end + 1)
  added_put = record {
    own' = own';
    acts = a.acts;
    leaf = puts_leaf;
    into = into_later x a.goes_on;
    needs = needs;
    goes_on = a.goes_on;
    max_rec_is = a.max_rec_is;
    r_max_rec_is = a.r_max_rec_is;
  }
