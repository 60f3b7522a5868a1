-- Where the next record is put: the records of a new block, each step by which records are put, and what an image says of a variable of which some records are put.
use Rattle.cdf_puts.proofs.Common.{GoesOnTo, IsKnownStart, Option, refl, Leaf, put, Act, AddsLeaf, BlockRecords, Covering, GoesOn, HasIndex, In, IsBlockBody, IsBody, IsPut, IsVacant, Kind, LeafAdded, List, NodeTaken, Nodes, None, PutStart, PutsOn, PutsUpTo, Putting, RecordsWritten, SoFar, Some, SomePut, SomePutting, StandsAmong, Variable, VariableShape, [], ap, append-nil, arith, block_bytes, block_count, covers, div-le_self, drop, drop-append-le, drop_at, extent, false, find, first_written, firsts_of, fits, has, if◌then◌else◌, image_limit, in_middle, index_at, is_sparse, last_in_new, leaf, leaf_acts, leaf_of, leaves_of, length, length-append, length-drop, max_rec_at, min, most_in_block, nat_tests, new_last, new_range, new_room, next_first, node_bytes, number, range, record_bytes, record_length, record_of, record_put, records_put, shape, sparse_at, subst, suc, sym, take, take-append-le, take_all, taken_bytes, times_le, variable_of, variables, vdr_vxr_head, vdrs, vxr_bytes, widest, with_leaf, zero, ℕ, ◌*◌, ◌++◌, ◌+◌, ◌-◌, ◌<◌, ◌==◌, ◌∙◌, ◌∷◌, ◌≡◌, ◌≤◌}
use Rattle.cdf_puts.proofs.LeafEdit.{r_max_rec_stays as leaf_r_max_rec, body_long, plain_body, plain_leaf, leaf_goes_on, leaf_max_rec, taking}
use Rattle.cdf_puts.proofs.CoveringRanges.{covering_starts, covering_has, covering_leaf, covering_room, covering_ends, Ends, one_at_least, written_from}
use Rattle.cdf_puts.proofs.GoesThen.{later_size, goes_then, goes_written, writes_nothing}
use Rattle.cdf_puts.proofs.IndexAdded.{blocks_added, index_added}
use Rattle.cdf_puts.proofs.LeafCounts.{new_room_widest}
use Rattle.cdf_puts.proofs.IndexWritten.{blocks_written, index_written, max_rec_kept, r_max_rec_stays, writes}
use Rattle.cdf_puts.proofs.PutRoom.{taken_sum, takes_both, leaf_bytes, longer_by}
use Rattle.cdf_puts.proofs.SoFarStarts.{starts_upto, index_start, blocks_start}
use Rattle.cdf_leaves.proofs.Own.{among_all, own_order, searchable}
use Rattle.cdf_puts.proofs.PutBytes.{found_covering, loose_now, size_now, whole}
use Rattle.cdf_puts.proofs.KnownStarts.{top_kept, tops_in, vdr_lies}
use Rattle.cdf_index.proofs.Common.{HoldsRecords, seen}
use Rattle.cdf_index.specs.declared.nodes.Leaf.{Leaf as SeenLeaf}
use Rattle.cdf_puts.specs.declared.putting.NewRecord.{NewRecord}

pub one_more : (raw pad : List ℕ) (r count k : ℕ) → records_put raw pad r (count + 1) k ≡ records_put raw pad r count k ++ record_put raw pad r (k + count)
one_more raw pad r count k = grind arith

-- a piece more behind pieces of a size
piece_more : (xs y : List ℕ) (size n j : ℕ) → length xs ≡ n * size → length y ≡ size → j ≤ n → take size (drop (j * size) (xs ++ y)) ≡ (if j == n then y else take size (drop (j * size) xs))
piece_more xs y size n j long as_long le = grind (arith, nat_tests, times_le (suc j) n size, drop-append-le (j * size) xs y, take-append-le size (drop (j * size) xs) y, length-drop (j * size) xs, drop_at xs y (n * size) long, take_all size y)

module _ (raw pad : List ℕ) (r size : ℕ) (raw_long : length raw ≡ size) (pad_long : length pad ≡ size) where
  pub record_long : (k : ℕ) → length (record_put raw pad r k) ≡ size
  record_long k = grind (arith, raw_long, pad_long)

  pub records_long : (count k : ℕ) → length (records_put raw pad r count k) ≡ count * size
  records_long zero k = omega arith
  records_long (suc count) k = omega (arith, length-append (records_put raw pad r count k) (record_put raw pad r (k + count)), record_long (k + count), records_long count k)

  record_there : (count k j : ℕ) → k ≤ j → j < k + count → take size (drop ((j - k) * size) (records_put raw pad r count k)) ≡ record_put raw pad r j
  record_there zero k j from upto = absurd (omega arith)
  record_there (suc count) k j from upto = grind (arith, nat_tests, from, upto, record_there count k j from, piece_more (records_put raw pad r count k) (record_put raw pad r (k + count)) size count (j - k) (records_long count k) (record_long (k + count)))

  pub block_records : (k last : ℕ) → BlockRecords raw pad r k last size (records_put raw pad r (last + 1 - k) k)
  block_records k last = record { as_long = records_long (last + 1 - k) k; written = λ j from upto. record_there (last + 1 - k) k j from (omega arith) }

pub body_is : (body records : List ℕ) → IsBlockBody body records → IsBody body
body_is body records says = grind (arith, plain_body body records says, body_long body records says)

-- ---- the steps

module _ {b : List ℕ} {kind : Kind} {before : List VariableShape} {own : VariableShape} {after : List VariableShape} {raw pad : List ℕ} {r : ℕ} where
  pub so_far_starts : PutStart b kind before own after raw pad r → SoFar b b kind before own own after raw pad r (first_written (variable_of b own) r) []
  so_far_starts start =
      let goes = goes_written start.good start.among (writes_nothing start.good start.among) start.short in
      let covers = covering_starts (variable_of b own) own.index r start.small start.same_ranges start.same_nexts (own_order start.good start.among) in
      search (arith, start, goes, covers, starts_upto start, index_start start, blocks_start start)

  module _ {now : List ℕ} {own' : VariableShape} {k : ℕ} {acts : List Act} (so : SoFar b now kind before own own' after raw pad r k acts) (more : k ≤ r) where
    pub so_far_written : {now' : List ℕ} {l : Leaf} → RecordsWritten now now' own' l k (record_of raw pad r k) → length (record_of raw pad r k) ≡ record_bytes b own.vdr → SoFar b now' kind before own own' after raw pad r (k + 1) acts
    so_far_written {now' = now'} {l = l} w as_long =
        let good = so.goes.good in
        let at = so.goes.among in
        let goes = subst (GoesOn b now' kind before own own' after) (append-nil acts) (goes_then so.start.good so.start.among so.goes (goes_written good at (writes good at w (loose_now so)) so.short) so.takes tt) in
        search (arith, so, goes, ← so.goes.vdr_is, max_rec_kept good at w (loose_now so), r_max_rec_stays good at w (loose_now so), covering_has so.covers so.start.small more l w.found, index_written so more w as_long, blocks_written so more w as_long)

    pub so_far_added : {now' : List ℕ} {last place at next : ℕ} {body records : List ℕ} → last ≡ (new_range (variable_of b own) (firsts_of own'.index) k).last → IsVacant own' k last → IsBlockBody body records → BlockRecords raw pad r k last (record_bytes b own.vdr) records
        → LeafAdded now now' own' (leaf k last place false) body at → length now' ≤ image_limit → min (last + 1) (r + 1) ≡ next
        → SoFar b now' kind before own (record own' { index = with_leaf (leaf k last place false) at own'.index }) after raw pad r next (acts ++ leaf_acts place (8 + length body) (new_room k own'.index) at)
    so_far_added {now' = now'} {last = last} {place = place} {at = at} {body = body} {records = records} is vacant holds says w short upto =
        let good = so.goes.good in
        let among = so.goes.among in
        let new = leaf k last place false in
        let step = leaf_acts place (8 + length body) (new_room k own'.index) at in
        let goes : GoesOn now now' kind before own' (record own' { index = with_leaf new at own'.index }) after step = leaf_goes_on good among w holds vacant (says.as_long ∙ ap (λ (n : ℕ). (last + 1 - k) * n) (sym (later_size so.start.good so.start.among so.goes))) short (loose_now so) in
        let bytes : taken_bytes (acts ++ step) ≡ taken_bytes acts + block_bytes (variable_of b own) k last + node_bytes k own'.index = omega (arith, taken_sum acts step, leaf_bytes place (8 + length body) (new_room k own'.index) at, body_long body records holds, says.as_long) in
        let wide = new_room_widest now (shape now).records 8 k own'.index (has good among).indexed.has_nodes (fits good among).1 in
        let covers : Covering (variable_of b own) own.index (with_leaf new at own'.index) r (min (last + 1) (r + 1)) (taken_bytes (acts ++ step)) = rw (bytes, is) (covering_leaf so.covers so.start.small more so.start.same_ranges vacant.uncovered place at false wide) in
        rw (← upto) (search (arith, so, short, ← so.goes.vdr_is, leaf_max_rec good among w, leaf_r_max_rec good among w, goes_then so.start.good so.start.among so.goes goes so.takes (taking good among w).takes, takes_both acts step so.takes (taking good among w).takes, index_added so more is vacant holds says w goes.good goes.among, blocks_added so more is vacant holds says w goes.good goes.among))

-- ---- how many records a new block has

pub most_within : (v : Variable) (r : ℕ) → (1 ≤ most_in_block v r) × (most_in_block v r ≤ 1048576)
most_within v r = grind (arith, nat_tests, one_at_least v, div-le_self 1048576 (record_length v))

-- up to MaxRec it is one record, which is the one that is put
pub last_as : (v : Variable) (index : Nodes) (k r most : ℕ) → most ≡ most_in_block v r → first_written v r ≤ k → k ≤ r → k < next_first k (firsts_of index) → last_in_new most index k ≡ new_last v index k
last_as v index k r most is from upto before = let first : min r (extent v.max_rec) ≤ k = omega (arith, written_from v r) in grind (arith, nat_tests)

-- a node more is no wider than the widest
node_long : (b now : List ℕ) (room at wide : ℕ) → NodeTaken b now room at → room ≤ wide → length now ≤ length b + vxr_bytes wide
node_long b now room at wide n le = grind (arith, n, le)

-- a leaf is added, whichever variable has this descriptor
abbrev pub AddsOn : List ℕ → List ℕ → ℕ → ℕ → ℕ → List ℕ → Type 0
AddsOn b now vdr first last body = (kind : Kind) (before : List VariableShape) (own : VariableShape) (after : List VariableShape) → StandsAmong b kind before own after → own.vdr ≡ vdr → AddsLeaf b now own first last body

-- ---- the image in which the records before k are put

module _ {b now : List ℕ} {kind : Kind} {before : List VariableShape} {own : VariableShape} {after : List VariableShape} {new : NewRecord} {k limit : ℕ} (p : Putting b kind before own after new limit) (is : IsPut b now kind before own after new k) where
  abbrev own' : VariableShape
  own' = is.own'

  abbrev so : SoFar b now kind before own own' after new.raw.items new.pad.items new.rec k is.acts
  so = is.so

  vdr_is : own'.vdr ≡ new.vdr
  vdr_is = so.goes.vdr_is ∙ p.vdr_is

  pub vdr_in : In new.vdr (vdrs (variables (shape now)))
  vdr_in = let g = among_all now kind before own' after so.goes.among.was in subst (λ (vs : List VariableShape). In new.vdr (vdrs vs)) (sym g.all) (subst (λ (v : ℕ). In v (vdrs (g.front ++ own' ∷ g.rest))) vdr_is (in_middle g.front own' g.rest))

  pub lies : new.vdr + 340 ≤ length now
  lies = vdr_lies now so.goes.good new.vdr vdr_in

  pub searched : HasIndex now (number now new.vdr vdr_vxr_head) × (index_at now (number now new.vdr vdr_vxr_head) ≡ own'.index)
  searched = subst (λ (v : ℕ). HasIndex now (number now v vdr_vxr_head) × (index_at now (number now v vdr_vxr_head) ≡ own'.index)) vdr_is (searchable so.goes.good so.goes.among)

  module _ (more : k ≤ new.rec) where
    pub some_few : (1 ≤ new.most) × (new.most ≤ 1048576)
    some_few = rw p.most_is (most_within (variable_of b own) new.rec)

    -- ---- a block has the next one

    module _ (l : SeenLeaf) (found : Some (seen l) ≡ leaf_of k (leaves_of (index_at now (number now new.vdr vdr_vxr_head)))) where
      here : leaf_of k (leaves_of own'.index) ≡ Some (seen l)
      here = sym (rw searched.1 at found)

      pub held : HoldsRecords now l (record_bytes now own'.vdr) × (l.first ≤ k) × (k ≤ l.last)
      held =
          let one = found_covering k (leaves_of own'.index) (seen l) here in
          let x = whole so.goes.good so.goes.among (loose_now so) (seen l) one.0 in
          search (arith, x.leaf, x.inside, one)

      module _ (n : ℕ) (n_is : n ≡ length new.raw.items) where
        sized : record_bytes now own'.vdr ≡ n
        sized = size_now so ∙ sym p.start.raw_long ∙ sym n_is

        pub holds : HoldsRecords now l n
        holds = subst (HoldsRecords now l) sized held.0

        module _ (bytes : List ℕ) (bytes_are : bytes ≡ record_put new.raw.items new.pad.items new.rec k) where
          pub held_within : (k - l.first) * n + length bytes ≤ (l.last + 1 - l.first) * n
          held_within =
              let long = ap length bytes_are ∙ record_long new.raw.items new.pad.items new.rec (record_bytes b own.vdr) p.start.raw_long p.pad_long k ∙ sym (size_now so) ∙ sized in
              omega (arith, held.1, held.2, times_le (suc (k - l.first)) (l.last + 1 - l.first) n (omega (arith, held.1, held.2)))

          pub written_on : {now' : List ℕ} → now' ≡ put now (l.at + (12 + (k - l.first) * n)) bytes → GoesOnTo b now now' kind before own after new k (k + 1) is
          written_on w = record {
            tops = λ m i. i;
            is = record {
              own' = own';
              acts = is.acts;
              so = so_far_written so more (record { found = here; within = rw (sized, ← bytes_are) held_within; written = rw (sized, ← bytes_are) w }) (record_long new.raw.items new.pad.items new.rec (record_bytes b own.vdr) p.start.raw_long p.pad_long k);
            };
          }

    -- ---- no block has it

    ending : Ends k (next_first k (firsts_of own'.index)) (block_count (variable_of b own)) (new_last (variable_of b own) own'.index k)
    ending = covering_ends so.covers so.start.small more

    module _ {at : ℕ} (at_is : at ≡ number now new.vdr vdr_vxr_head) (vacant : leaf_of k (leaves_of (index_at now at)) ≡ None) where
      none : find (λ (leaf : Leaf). covers k (range leaf.first leaf.last)) (leaves_of own'.index) ≡ None
      none = rw (at_is, searched.1) at vacant

      module _ (end : ℕ) (end_is : end ≡ last_in_new new.most (index_at now at) k) (body : List ℕ) (says : IsBlockBody body (records_put new.raw.items new.pad.items new.rec (end + 1 - k) k)) where
        ends_at : end ≡ new_last (variable_of b own) own'.index k
        ends_at = rw (at_is, searched.1) at end_is ∙ last_as (variable_of b own) own'.index k new.rec new.most p.most_is so.covers.from more (omega (arith, ending.0, ending.1))

        -- an image that is read in between
        pub room_after : {mid : List ℕ} {bound : ℕ} → mid ≡ now → bound ≡ limit → length mid + (8 + length body) + vxr_bytes (widest (index_at mid (number mid new.vdr vdr_vxr_head))) ≤ bound
        room_after same bounded =
            let bytes = records_long new.raw.items new.pad.items new.rec (record_bytes b own.vdr) p.start.raw_long p.pad_long (end + 1 - k) k ∙ ap (λ (n : ℕ). (n + 1 - k) * record_bytes b own.vdr) ends_at in
            let need = covering_room so.covers so.start.small more so.start.same_ranges none in
            rw (same, bounded, searched.1) (omega (arith, longer_by b now is.acts so.goes.follow so.takes, body_long body (records_put new.raw.items new.pad.items new.rec (end + 1 - k) k) says, bytes, need))

        pub added_on : {now' : List ℕ} → AddsOn now now' new.vdr k end body → limit ≤ image_limit → GoesOnTo b now now' kind before own after new k (min end new.rec + 1) is
        added_on {now' = now'} adds upto =
            let a = adds kind before own' after so.goes.among vdr_is in
            let vacancy : IsVacant own' k end = record { ordered = omega (arith, ends_at, ending.0); uncovered = none; before_next = omega (arith, ends_at, ending.1) } in
            let wide = new_room_widest now (shape now).records 8 k own'.index (has so.goes.good so.goes.among).indexed.has_nodes (fits so.goes.good so.goes.among).1 in
            let short : length now' ≤ image_limit = omega (arith, a.added.as_long, a.added.block.longest, node_long a.added.filled a.added.roomy (new_room k own'.index) a.at (widest own'.index) a.added.node wide, rw searched.1 at (room_after refl refl)) in
            record {
              tops = top_kept (leaf k end a.place false) a.at own'.index;
              is = record {
                own' = record own' { index = with_leaf (leaf k end a.place false) a.at own'.index };
                acts = is.acts ++ leaf_acts a.place (8 + length body) (new_room k own'.index) a.at;
                so = so_far_added so more ends_at vacancy says (block_records new.raw.items new.pad.items new.rec (record_bytes b own.vdr) p.start.raw_long p.pad_long k end) (plain_leaf a says) short (omega arith);
              };
            }

-- ---- from the first image on

-- where what is read in between leaves the image and the limit
pub on_after : {early mid now : List ℕ} {new : NewRecord} {k next limit bound : ℕ} → mid ≡ early → bound ≡ limit → PutsOn mid now bound new k next → PutsOn early now limit new k next
on_after {early = early} {now = now} {new = new} {k = k} {next = next} {bound = bound} same bounded on = subst (λ (n : ℕ). PutsOn early now n new k next) bounded (subst (λ (x : List ℕ). PutsOn x now bound new k next) same on)

pub all_start : {b : List ℕ} {new : NewRecord} {from limit : ℕ} → SomePutting b new from limit → PutsUpTo b b limit new from
all_start {b = b} {new = new} some kind before own after p =
    let from = ap (λ (v : ℕ). if is_sparse (sparse_at b v) then new.rec else min new.rec (extent (max_rec_at b v))) (p.vdr_is ∙ sym some.putting.vdr_is) ∙ sym some.from_is in
    record { own' = own; acts = []; so = subst (λ (n : ℕ). SoFar b b kind before own own after new.raw.items new.pad.items new.rec n []) from (so_far_starts p.start) }

pub some_put : {b now : List ℕ} {new : NewRecord} {from k limit : ℕ} → SomePutting b new from limit → PutsUpTo b now limit new k → SomePut now new k limit
some_put {b = b} some all = record { b = b; kind = some.kind; before = some.before; own = some.own; after = some.after; putting = some.putting; is = all some.kind some.before some.own some.after some.putting }

pub all_on : {b mid now : List ℕ} {new : NewRecord} {k next limit : ℕ} → PutsUpTo b mid limit new k → PutsOn mid now limit new k next → PutsUpTo b now limit new next
all_on {b = b} all on kind before own after p = (on b kind before own after p (all kind before own after p)).is

-- a node that is known of the index before a step is known of it after the step
pub node_on : {mid now : List ℕ} {new : NewRecord} {k next limit : ℕ} (known : Option ℕ) → SomePut mid new k limit → PutsOn mid now limit new k next → IsKnownStart mid new.vdr known → IsKnownStart now new.vdr known
node_on {mid = mid} {now = now} known some on i =
    let to = on some.b some.kind some.before some.own some.after some.putting some.is in
    rw ((searched some.putting to.is).1) (tops_in some.is.own'.index to.is.own'.index to.tops known (rw ((searched some.putting some.is).1) at i))

-- once a record past the last one would be next, all are put
pub all_done : {b now : List ℕ} {new : NewRecord} {k limit : ℕ} → PutsUpTo b now limit new k → new.rec < k → PutsUpTo b now limit new (new.rec + 1)
all_done {b = b} {now = now} {new = new} all past kind before own after p = subst (IsPut b now kind before own after new) (omega (arith, (all kind before own after p).so.upto)) (all kind before own after p)
