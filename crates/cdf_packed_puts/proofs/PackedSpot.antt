-- Where the next record of a packed variable is put: what an image says of it in which some records are put, what each step asks for, and what it leads to.
use Rattle.std.proofs.Common.{List, None, Option, Some, [], ap, arith, length, max, min, refl, subst, sym, ℕ, ◌*◌, ◌++◌, ◌+◌, ◌-◌, ◌<◌, ◌∙◌, ◌∷◌, ◌≡◌, ◌≤◌}
use Rattle.std.specs.Prelude.{find, if◌then◌else◌}
use Rattle.cdf_edits.proofs.Common.{Kind, VariableShape, extent, is_sparse, leaves_of, max_rec_at, number, range, record_bytes, shape, sparse_at, variable_of, variables, vdr_max_rec, vdr_vxr_head, vdrs, vxr_bytes}
use Rattle.cdf_edits.proofs.Edits.PlainLeaves.{leaves_ascend}
use Rattle.cdf_edits.proofs.Edits.StandsAmong.{in_middle}
use Rattle.cdf_edits.specs.Commands.PutSteps.{Put}
use Rattle.cdf_edits.specs.Commands.Room.{put_room, widest}
use Rattle.cdf_edits.specs.Index.Blocks.{block_count, covers, first_written, firsts_of, next_first, ranges_before_put, ranges_of}
use Rattle.cdf_format.specs.Index.{Leaf}
use Rattle.cdf_format.specs.Tiles.{In}
use Rattle.cdf_index.proofs.OneVariable.{among_all}
use Rattle.cdf_index.specs.Finding.{HasIndex, index_at}
use Rattle.cdf_index.specs.Order.{leaf_of}
use Rattle.cdf_index.specs.Sight.{seen}
use Rattle.cdf_index.specs.Starting.{IsStart}
use Rattle.cdf_leaves.proofs.Own.{own_order, searchable}
use Rattle.cdf_puts.proofs.CoveringRanges.{Ends, covering_entries, covering_starts, written_upto}
use Rattle.cdf_puts.proofs.KnownStarts.{tops_in, vdr_lies}
use Rattle.cdf_puts.proofs.PutRoom.{taken_sum}
use Rattle.cdf_puts.proofs.PutSpot.{last_as, most_within, records_long}
use Rattle.cdf_puts.specs.Covering.{Covering, new_last}
use Rattle.cdf_puts.specs.Putting.{last_in_new, records_put}
use Rattle.cdf_puts.specs.SoFar.{taken_bytes}
use Rattle.cdf_puts.specs.Starts.{IsKnownStart}
use Rattle.cdf_puts.specs.Steps.{IsVacant}
use Rattle.cdf_puts.specs.declared.putting.NewRecord.{NewRecord}
use Rattle.cdf_put_steps.proofs.Along.{leaves_one_along, leaves_start}
use Rattle.cdf_put_steps.specs.Along.{at_start, put_in}
use Rattle.cdf_blocks.specs.Sites.{IsFound}
use Rattle.cdf_blocks.specs.declared.sites.SitedLeaf.{SitedLeaf}
use Rattle.cdf_blocks.specs.Reading.{block_size}
use Rattle.cdf_packed_puts.specs.Adding.{BlockAdded, HasVacancy, IsVacancy}
use Rattle.cdf_packed_puts.specs.Putting.{IndexAfter, PackedOnTo, PackedPut, PackedSoFar, Packing, PacksOn, PacksUpTo, RoomLeft, SomePacked, SomePacking}
use Rattle.cdf_packed_puts.specs.Rewriting.{LeafPut, PutsInto, SomePutInto}
use Rattle.cdf_packed_puts.specs.declared.adding.Vacancy.{Vacancy}
use Rattle.cdf_packed_puts.proofs.AddedPut.{added_put}
use Rattle.cdf_packed_puts.proofs.NothingCut.{firsts_same, nothing_cut, written_room}
use Rattle.cdf_packed_puts.proofs.PackedStep.{stepped}
use Rattle.cdf_packed_puts.proofs.RoomSteps.{new_ends, new_fits, old_fits}

-- ---- what a search found

pub found_so : (head vdr k : ℕ) {mid b : List ℕ} {site : Option SitedLeaf} {found : SitedLeaf} → mid ≡ b → head ≡ number b vdr vdr_vxr_head → site ≡ Some found → IsFound b (index_at b head) k site → IsFound mid (index_at mid (number mid vdr vdr_vxr_head)) k (Some found)
found_so head vdr k {b = b} {found = found} same head_is site_is is =
    subst (λ (x : List ℕ). IsFound x (index_at x (number x vdr vdr_vxr_head)) k (Some found)) (sym same) (subst (λ (n : ℕ). IsFound b (index_at b n) k (Some found)) head_is (subst (IsFound b (index_at b head) k) site_is is))

pub none_so : (head k : ℕ) {mid b : List ℕ} {site : Option SitedLeaf} → mid ≡ b → site ≡ None → IsFound b (index_at b head) k site → leaf_of k (leaves_of (index_at mid head)) ≡ None
none_so head k {b = b} same site_is is =
    let none : leaf_of k (leaves_of (index_at b head)) ≡ None = subst (IsFound b (index_at b head) k) site_is is in
    subst (λ (x : List ℕ). leaf_of k (leaves_of (index_at x head)) ≡ None) (sym same) none

-- ---- the image in which the records before k are put

module _ {b now : List ℕ} {kind : Kind} {before : List VariableShape} {own : VariableShape} {after : List VariableShape} {new : NewRecord} {k limit : ℕ} (p : Packing b kind before own after new limit) (so : PackedSoFar b now kind before own after new k) where
  abbrev own' : VariableShape
  own' = so.up.own'

  same_ranges : ranges_before_put (variable_of b own) own.index new.rec ≡ ranges_of own.index
  same_ranges = nothing_cut (variable_of b own) own.index new.rec (leaves_ascend p.good p.among) p.gone

  pub vdr_in : In new.vdr (vdrs (variables (shape now)))
  vdr_in =
      let g = among_all now kind before own' after so.into.among.was in
      subst (λ (vs : List VariableShape). In new.vdr (vdrs vs)) (sym g.all) (subst (λ (n : ℕ). In n (vdrs (g.front ++ own' ∷ g.rest))) so.into.vdr_is (in_middle g.front own' g.rest))

  pub lies : new.vdr + 340 ≤ length now
  lies = vdr_lies now so.into.good new.vdr vdr_in

  pub searched : HasIndex now (number now new.vdr vdr_vxr_head) × (index_at now (number now new.vdr vdr_vxr_head) ≡ own'.index)
  searched = subst (λ (v : ℕ). HasIndex now (number now v vdr_vxr_head) × (index_at now (number now v vdr_vxr_head) ≡ own'.index)) so.into.vdr_is (searchable so.into.good so.into.among)

  pub within : length now ≤ limit
  within = let longer = so.longer in let enough = so.room.enough in let fits = so.room.covers.fits in let room = p.room in omega arith

  pub takes_within : taken_bytes so.up.acts ≤ put_room (variable_of b own) own.index new.rec
  takes_within = let enough = so.room.enough in let fits = so.room.covers.fits in omega arith

  pub some_into : SomePutInto now new
  some_into = record { p = put_in b kind before own new.rec new.raw.items; kind = kind; before = before; own = own'; after = after; into = so.into }

  pub index_after : IndexAfter (variable_of b own) own.index own'.index new.rec
  index_after = record { tops = so.up.tops; entries = covering_entries so.room.covers same_ranges; as_wide = so.room.covers.as_wide }

  -- ---- the records of one leaf more

  pub packed_on : {now' : List ℕ} {next : ℕ} → LeafPut now now' (put_in b kind before own new.rec new.raw.items) new kind before own' after k next → PackedOnTo b now now' kind before own after new k next so
  packed_on {now' = now'} {next = next} lp =
      let same_vdr : own'.vdr ≡ own.vdr = so.into.vdr_is ∙ sym p.vdr_is in
      let max_rec : number now' own.vdr vdr_max_rec ≡ number now own.vdr vdr_max_rec = subst (λ (v : ℕ). number now' v vdr_max_rec ≡ number now v vdr_max_rec) same_vdr lp.max_rec_is in
      let step = stepped so.into lp so.room same_ranges p.small in
      let bytes : taken_bytes (so.up.acts ++ lp.acts) ≡ taken_bytes so.up.acts + taken_bytes lp.acts = taken_sum so.up.acts lp.acts in
      record {
        so = record {
          up = record {
            own' = lp.own';
            last = lp.acts;
            acts = so.up.acts ++ lp.acts;
            along = leaves_one_along so.up.along (lp.leaf so.up.last) lp.goes_on;
            max_rec_is = max_rec ∙ so.up.max_rec_is;
            r_max_rec_is = lp.r_max_rec_is ∙ so.up.r_max_rec_is;
            tops = λ m i. step.1.0 m (so.up.tops m i);
          };
          into = lp.into;
          room = subst (λ (bytes : ℕ). RoomLeft (variable_of b own) own.index lp.own'.index new.rec next bytes) (sym bytes) step.0;
          longer = let longer = so.longer in let more = step.1.1 in omega arith;
        };
        tops = step.1.0;
      }

  -- of an image that is the same
  pub rewritten_on : {mid now' : List ℕ} {next : ℕ} → mid ≡ now → ((put : Put) (kind : Kind) (before : List VariableShape) (own : VariableShape) (after : List VariableShape) → PutsInto put new mid kind before own after → LeafPut mid now' put new kind before own after k next) → PackedOnTo b now now' kind before own after new k next so
  rewritten_on {now' = now'} {next = next} same puts =
      let all = subst (λ (x : List ℕ). (put : Put) (kind : Kind) (before : List VariableShape) (own : VariableShape) (after : List VariableShape) → PutsInto put new x kind before own after → LeafPut x now' put new kind before own after k next) same puts in
      packed_on (all (put_in b kind before own new.rec new.raw.items) kind before own' after so.into)

  module _ (more : k ≤ new.rec) where
    pub some_few : (1 ≤ new.most) × (new.most ≤ 1048576)
    some_few = rw p.most_is (most_within (variable_of b own) new.rec)

    -- ---- a leaf has the next one

    pub block_fits : (l : Leaf) → leaf_of k (leaves_of own'.index) ≡ Some l → length now + max 28 (12 + block_size l (length new.raw.items)) ≤ limit
    block_fits l e =
        let size = ap (λ (n : ℕ). (l.last + 1 - l.first) * n) p.raw_long in
        let need = old_fits so.room p.small more l e in
        let longer = so.longer in
        let fits = so.room.covers.fits in
        let room = p.room in
        omega arith

    -- in an image that is the same, as a search found it
    pub rewrites : {mid : List ℕ} {most head : ℕ} {site : Option SitedLeaf} {found : SitedLeaf} → mid ≡ now → most ≡ limit → head ≡ number now new.vdr vdr_vxr_head → site ≡ Some found → IsFound now (index_at now head) k site → length mid + max 28 (12 + block_size (seen found.leaf) (length new.raw.items)) ≤ most
    rewrites {head = head} {found = found} same limit_is head_is site_is is =
        let there = found_so head new.vdr k refl head_is site_is is in
        let here : leaf_of k (leaves_of own'.index) ≡ Some (seen found.leaf) = sym (rw searched.1 at there.0) in
        subst (λ (y : List ℕ × ℕ). length y.0 + max 28 (12 + block_size (seen found.leaf) (length new.raw.items)) ≤ y.1) (λ i. (sym same i, sym limit_is i)) (block_fits (seen found.leaf) here)

    -- ---- none has it

    ends : Ends k (next_first k (firsts_of own'.index)) (block_count (variable_of b own)) (new_last (variable_of b own) own'.index k)
    ends = new_ends so.room p.small more

    from : first_written (variable_of b own) new.rec ≤ k
    from = let c = so.room.covers.from in omega arith

    module _ {at : ℕ} (at_is : at ≡ number now new.vdr vdr_vxr_head) (vacant : leaf_of k (leaves_of (index_at now at)) ≡ None) where
      none : find (λ (leaf : Leaf). covers k (range leaf.first leaf.last)) (leaves_of own'.index) ≡ None
      none = rw (at_is, searched.1) at vacant

      module _ (end : ℕ) (end_is : end ≡ last_in_new new.most (index_at now at) k) where
        ends_at : end ≡ new_last (variable_of b own) own'.index k
        ends_at = rw (at_is, searched.1) at end_is ∙ last_as (variable_of b own) own'.index k new.rec new.most p.most_is from more (omega (arith, ends.0, ends.1))

        vacancy_is : IsVacant own' k end
        vacancy_is = record { ordered = omega (arith, ends_at, ends.0); uncovered = none; before_next = omega (arith, ends_at, ends.1) }

        module _ (plain : List ℕ) (plain_is : plain ≡ records_put new.raw.items new.pad.items new.rec (end + 1 - k) k) where
          long : length plain ≡ (end + 1 - k) * record_bytes b own.vdr
          long = ap length plain_is ∙ records_long new.raw.items new.pad.items new.rec (record_bytes b own.vdr) p.raw_long p.pad_long (end + 1 - k) k

          fits_so : length now + max 28 (12 + length plain) + vxr_bytes (widest own'.index) ≤ limit
          fits_so =
              let bytes : length plain ≡ (new_last (variable_of b own) own'.index k + 1 - k) * record_bytes b own.vdr = long ∙ ap (λ (n : ℕ). (n + 1 - k) * record_bytes b own.vdr) ends_at in
              let need = new_fits so.room p.small more same_ranges none in
              let longer = so.longer in
              let room = p.room in
              omega arith

          -- a search may start there
          module _ (start : ℕ) (starts : IsStart now at k start) where
            abbrev vacancy : Vacancy
            vacancy = record { vdr = new.vdr; start = start; first = k; last = end }

            is_vacancy : IsVacancy now kind before own' after vacancy plain limit
            is_vacancy = record {
              good = so.into.good;
              among = so.into.among;
              rle = so.into.rle;
              vdr_is = so.into.vdr_is;
              start = subst (λ (v : ℕ). IsStart now (number now v vdr_vxr_head) k start) (sym so.into.vdr_is) (subst (λ (n : ℕ). IsStart now n k start) at_is starts);
              vacant = vacancy_is;
              as_long = long ∙ ap (λ (n : ℕ). (end + 1 - k) * n) (sym p.raw_long ∙ so.into.raw_long);
              room = fits_so;
            }

            -- of an image that is the same
            pub has_vacancy : {mid : List ℕ} {most : ℕ} → mid ≡ now → most ≡ limit → HasVacancy mid vacancy plain most
            has_vacancy same limit_is =
                subst (λ (y : List ℕ × ℕ). HasVacancy y.0 vacancy plain y.1) (λ i. (sym same i, sym limit_is i))
                (record { kind = kind; before = before; own = own'; after = after; is_vacancy = is_vacancy })

            pub added_on : {mid now' : List ℕ} {most : ℕ} → mid ≡ now → most ≡ limit → ((kind : Kind) (before : List VariableShape) (own : VariableShape) (after : List VariableShape) → IsVacancy mid kind before own after vacancy plain most → BlockAdded mid now' kind before own after k end plain) → PackedOnTo b now now' kind before own after new k (end + 1) so
            added_on {now' = now'} same limit_is adds =
                let all = subst (λ (y : List ℕ × ℕ). (kind : Kind) (before : List VariableShape) (own : VariableShape) (after : List VariableShape) → IsVacancy y.0 kind before own after vacancy plain y.1 → BlockAdded y.0 now' kind before own after k end plain) (λ i. (same i, limit_is i)) adds in
                packed_on (added_put so.into more none end ends_at vacancy_is plain plain_is (all kind before own' after is_vacancy))

-- ---- from the first image on

-- where what is read in between leaves the image and the limit
pub on_after : {early mid now : List ℕ} {new : NewRecord} {k next limit bound : ℕ} → mid ≡ early → bound ≡ limit → PacksOn mid now bound new k next → PacksOn early now limit new k next
on_after {early = early} {now = now} {new = new} {k = k} {next = next} {bound = bound} same bounded on = subst (λ (n : ℕ). PacksOn early now n new k next) bounded (subst (λ (x : List ℕ). PacksOn x now bound new k next) same on)

pub packing_starts : {b : List ℕ} {kind : Kind} {before : List VariableShape} {own : VariableShape} {after : List VariableShape} {new : NewRecord} {limit : ℕ} → Packing b kind before own after new limit → PackedSoFar b b kind before own after new (first_written (variable_of b own) new.rec)
packing_starts {b = b} {kind = kind} {before = before} {own = own} {after = after} {new = new} p =
    let v = variable_of b own in
    let first : min (first_written v new.rec) (new.rec + 1) ≡ first_written v new.rec = let w = written_upto v new.rec in omega arith in
    let ranges = nothing_cut v own.index new.rec (leaves_ascend p.good p.among) p.gone in
    let covers = covering_starts v own.index new.rec p.small ranges (λ m le. ap (next_first m) (firsts_same v own.index new.rec p.gone)) (own_order p.good p.among) in
    let room = written_room v own.index new.rec p.rle in
    record {
      up = record { own' = own; last = []; acts = []; along = leaves_start (put_in b kind before own new.rec new.raw.items) kind before after (at_start b (put_in b kind before own new.rec new.raw.items) own); max_rec_is = refl; r_max_rec_is = refl; tops = λ m i. i };
      into = record {
        good = p.good;
        among = p.among;
        vdr_is = p.vdr_is;
        rle = p.rle;
        kind_is = refl;
        number_is = refl;
        was_rle = p.rle;
        size_is = refl;
        rec_is = refl;
        raw_is = refl;
        pad_is = p.pad_is;
        raw_long = p.raw_long;
        pad_long = p.pad_long;
        small = p.small;
      };
      room = record {
        taken = 0;
        covers = subst (λ (m : ℕ). Covering v own.index own.index new.rec m 0) (sym first) covers;
        enough = omega arith;
      };
      longer = omega arith;
    }

pub all_start : {b : List ℕ} {new : NewRecord} {from limit : ℕ} → SomePacking b new from limit → PacksUpTo b b limit new from
all_start {b = b} {new = new} some kind before own after p =
    let from = ap (λ (v : ℕ). if is_sparse (sparse_at b v) then new.rec else min new.rec (extent (max_rec_at b v))) (p.vdr_is ∙ sym some.packing.vdr_is) ∙ sym some.from_is in
    subst (PackedSoFar b b kind before own after new) from (packing_starts p)

pub some_packed : {b now : List ℕ} {new : NewRecord} {from k limit : ℕ} → SomePacking b new from limit → PacksUpTo b now limit new k → SomePacked now new k limit
some_packed {b = b} some all = record { b = b; kind = some.kind; before = some.before; own = some.own; after = some.after; packing = some.packing; so = all some.kind some.before some.own some.after some.packing }

pub all_on : {b mid now : List ℕ} {new : NewRecord} {k next limit : ℕ} → PacksUpTo b mid limit new k → PacksOn mid now limit new k next → PacksUpTo b now limit new next
all_on {b = b} all on kind before own after p = (on b kind before own after p (all kind before own after p)).so

-- a node that is known of the index before a step is known of it after the step
pub node_on : {mid now : List ℕ} {new : NewRecord} {k next limit : ℕ} (known : Option ℕ) → SomePacked mid new k limit → PacksOn mid now limit new k next → IsKnownStart mid new.vdr known → IsKnownStart now new.vdr known
node_on {mid = mid} {now = now} known some on i =
    let to = on some.b some.kind some.before some.own some.after some.packing some.so in
    rw ((searched some.packing to.so).1) (tops_in some.so.up.own'.index to.so.up.own'.index to.tops known (rw ((searched some.packing some.so).1) at i))

-- once a record past the last one would be next, all are put
pub all_done : {b now : List ℕ} {new : NewRecord} {k limit : ℕ} → PacksUpTo b now limit new k → new.rec < k → (kind : Kind) (before : List VariableShape) (own : VariableShape) (after : List VariableShape) → Packing b kind before own after new limit → PackedPut b now kind before own after new
all_done {k = k} all past kind before own after p =
    let so = all kind before own after p in
    record { next = k; past = past; is_put = so.up; index = index_after p so; fits = takes_within p so; longer = so.longer }
