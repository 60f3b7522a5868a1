-- A block that has been replaced by its plain bytes with records written over is a step of a put.
use Rattle.std.proofs.Common.{Bool, List, None, Option, Some, ap, ap₂, arith, length, max, refl, subst, suc, sym, true, ℕ, ◌*◌, ◌+◌, ◌-◌, ◌∙◌, ◌≡◌, ◌≤◌}
use Rattle.std.specs.Prelude.{min}
use Rattle.cdf_edits.proofs.Common.{Act, Found, Kind, Range, VariableShape, image_limit, is_compressed, leaves_of, of_le, plain_bytes, plain_size, range, record_number_limit, same_Some}
use Rattle.cdf_edits.specs.Index.Written.{block_need}
use Rattle.cdf_edits.specs.Index.Blocks.{covers, firsts_of, new_range, record_length}
use Rattle.cdf_edits.proofs.Edits.LeafPieces.{IsOneOf, find_covering, in_order}
use Rattle.cdf_edits.proofs.Edits.PlainLeaves.{leaves_ascend}
use Rattle.cdf_edits.proofs.Frame.VdrStays.{packed_stays}
use Rattle.cdf_base.specs.Bytes.{put}
use Rattle.cdf_edits.specs.Commands.PutSteps.{BlockWritten, Goes, Put, PutsLeaf, Stage, bytes_after, leaf_at, leaf_step, range_at, records_from}
use Rattle.cdf_format.specs.Fields.{number}
use Rattle.cdf_format.specs.Index.{Leaf}
use Rattle.cdf_format.specs.Records.{linked_size, vdr_vxr_head, vvr_bytes}
use Rattle.cdf_index.specs.Finding.{index_at}
use Rattle.cdf_leaves.proofs.Own.{searchable}
use Rattle.cdf_model.specs.ByteOrder.{turned}
use Rattle.cdf_model.specs.DataSet.{Variable}
use Rattle.cdf_model.specs.Reading.{pad_record}
use Rattle.cdf_puts.proofs.GoesThen.{later_size, stays}
use Rattle.cdf_puts.proofs.PutBytes.{found_covering}
use Rattle.cdf_puts.specs.Going.{GoesOn, found_in}
use Rattle.cdf_puts.specs.Putting.{records_put}
use Rattle.cdf_puts.specs.declared.putting.NewRecord.{NewRecord}
use Rattle.cdf_blocks.specs.Blocks.{HasPlain, IsPlainOf}
use Rattle.cdf_blocks.specs.Replaced.{BlockReplaced, stage}
use Rattle.cdf_blocks.specs.Sites.{IsFound}
use Rattle.cdf_blocks.specs.declared.sites.SitedLeaf.{SitedLeaf}
use Rattle.cdf_index.specs.Sight.{seen}
use Rattle.cdf_packed_puts.specs.Rewriting.{PutsInto, LeafPut, written_over}
use Rattle.cdf_blocks.specs.Reading.{PlainStands, block_size}
use Rattle.cdf_blocks.proofs.LeafBlock.{plain_long, plain_size_is, plain_stands}
use Rattle.cdf_base.proofs.Puts.{length-put}
use Rattle.cdf_puts.proofs.PutSpot.{records_long}
use Rattle.cdf_packed_puts.proofs.RecordsOver.{piece_fits, records_are}

-- what goes on of a variable that is found does so of another one with its number
goes_of : (kind : Kind) (n : ℕ) (v w : Variable) (from to : Stage) (changes : Range → Bool) → Goes (record { kind = kind; number = n; variable = v }) from to changes → Goes (record { kind = kind; number = n; variable = w }) from to changes
goes_of kind n v w from to changes x = record { good = x.good; stands = x.stands; acts_follow = x.acts_follow; keeps = x.keeps; unused = x.unused; spare = x.spare; tail = x.tail; freed = x.freed }

pub goes_found : (found other : Found) (from to : Stage) (changes : Range → Bool) → other.kind ≡ found.kind → other.number ≡ found.number → Goes found from to changes → Goes other from to changes
goes_found found other from to changes kind_is number_is x =
    subst (λ (kind : Kind). Goes (record { kind = kind; number = other.number; variable = other.variable }) from to changes) (sym kind_is)
    (subst (λ (n : ℕ). Goes (record { kind = found.kind; number = n; variable = other.variable }) from to changes) (sym number_is)
    (goes_of found.kind found.number found.variable other.variable from to changes x))

module _ {p : Put} {new : NewRecord} {b : List ℕ} {kind : Kind} {before : List VariableShape} {own : VariableShape} {after : List VariableShape} (x : PutsInto p new b kind before own after) where
  -- it may go on where the image goes on
  pub into_later : {now : List ℕ} {own' : VariableShape} {acts : List Act} → GoesOn b now kind before own own' after acts → PutsInto p new now kind before own' after
  into_later {now = now} goes =
      let size = later_size x.good x.among goes in
      record {
        good = goes.good;
        among = goes.among;
        vdr_is = goes.vdr_is ∙ x.vdr_is;
        rle = ap (is_compressed now) goes.vdr_is ∙ packed_stays goes.file (stays x.good x.among goes.descriptor) ∙ x.rle;
        kind_is = x.kind_is;
        number_is = x.number_is;
        was_rle = x.was_rle;
        size_is = x.size_is ∙ sym size;
        rec_is = x.rec_is;
        raw_is = x.raw_is;
        pad_is = x.pad_is ∙ ap (λ (little : Bool). turned p.found.variable.type little (pad_record p.found.variable)) (sym goes.file.little);
        raw_long = x.raw_long ∙ sym size;
        pad_long = x.pad_long ∙ sym size;
        small = x.small;
      }

  pub pads_long : length new.pad.items ≡ length new.raw.items
  pads_long = x.pad_long ∙ sym x.raw_long

  module _ (k : ℕ) (found : SitedLeaf) (is : IsFound b (index_at b (number b new.vdr vdr_vxr_head)) k (Some found)) where
    abbrev l : Leaf
    l = seen found.leaf

    index_is : index_at b (number b new.vdr vdr_vxr_head) ≡ own.index
    index_is = ap (λ (vdr : ℕ). index_at b (number b vdr vdr_vxr_head)) (sym x.vdr_is) ∙ (searchable x.good x.among).1

    found_here : IsFound b own.index k (Some found)
    found_here = rw index_is at is

    there : leaf_at k own.index ≡ Some l
    there = sym found_here.0

    pub one : IsOneOf (leaves_of own.index) l
    one = (found_covering k (leaves_of own.index) l there).0

    pub has_record : (l.first ≤ k) × (k ≤ l.last)
    has_record = (found_covering k (leaves_of own.index) l there).1

    pub small_last : l.last ≤ record_number_limit
    small_last = omega (arith, (in_order 0 (suc record_number_limit) (leaves_of own.index) (leaves_ascend x.good x.among) l one).before)

    pub stands : length b ≤ image_limit → PlainStands b l (block_size l (length new.raw.items))
    stands short = plain_stands x.good x.among l one (length new.raw.items) x.raw_long short

    pub size_of : plain_size b own.vdr l ≡ block_size l (length new.raw.items)
    size_of = plain_size_is x.good x.among l one (length new.raw.items) x.raw_long

    pub long : length (plain_bytes b own.vdr l) ≡ block_size l (length new.raw.items)
    long = plain_long x.good x.among l one (length new.raw.items) x.raw_long

    pub size_fits : (n : ℕ) → n ≡ length new.raw.items → length b ≤ image_limit → block_size l n ≤ image_limit
    size_fits n e short = subst (λ (n : ℕ). block_size l n ≤ image_limit) (sym e) (stands short).small

    pub stands_so : (n size : ℕ) → n ≡ length new.raw.items → size ≡ block_size l n → length b ≤ image_limit → PlainStands b l size
    stands_so n size e s short = subst (PlainStands b l) (sym (s ∙ ap (block_size l) e)) (stands short)

    -- what was read
    pub read_so : (n size : ℕ) (bytes : List ℕ) → n ≡ length new.raw.items → size ≡ block_size l n → ((vdr : ℕ) → plain_size b vdr l ≡ size → bytes ≡ plain_bytes b vdr l) → bytes ≡ plain_bytes b own.vdr l
    read_so n size bytes e s is = is own.vdr (size_of ∙ sym (s ∙ ap (block_size l) e))

    pub read_long : (bytes : List ℕ) → bytes ≡ plain_bytes b own.vdr l → length bytes ≡ block_size l (length new.raw.items)
    read_long bytes e = ap length e ∙ long

    pub read_fits : (bytes : List ℕ) → bytes ≡ plain_bytes b own.vdr l → length b ≤ image_limit → length bytes ≤ image_limit
    read_fits bytes e short = subst (λ (n : ℕ). n ≤ image_limit) (sym (read_long bytes e)) (stands short).small

    -- with records written over it is as long
    pub over_long : k ≤ new.rec → (old : List ℕ) → length old ≡ block_size l (length new.raw.items) → length (written_over new k l old) ≡ block_size l (length new.raw.items)
    over_long more old e =
        let h = has_record in
        let count = min new.rec l.last + 1 - k in
        let many = records_long new.raw.items new.pad.items new.rec (length new.raw.items) refl pads_long count k in
        let all = piece_fits (k - l.first) count (l.last + 1 - l.first) (length new.raw.items) (omega (arith, h.0, h.1)) in
        length-put old ((k - l.first) * length new.raw.items) (records_put new.raw.items new.pad.items new.rec count k) (omega (arith, many, all, e)) ∙ e

    -- it can be written, into an image that is the same
    module _ {mid : List ℕ} {limit most : ℕ} (bytes : List ℕ) (same : mid ≡ b) (limit_is : most ≡ limit) (more : k ≤ new.rec) (over : bytes ≡ written_over new k l (plain_bytes b own.vdr l)) (room : length b + max 28 (12 + block_size l (length new.raw.items)) ≤ limit) where
      as_long : length bytes ≡ block_size l (length new.raw.items)
      as_long = ap length over ∙ over_long more (plain_bytes b own.vdr l) long

      has_room : length b + max 28 (12 + length bytes) ≤ limit
      has_room = subst (λ (n : ℕ). length b + max 28 (12 + n) ≤ limit) (sym as_long) room

      is_plain : IsPlainOf b kind before own after found.site l bytes limit
      is_plain = record {
        good = x.good;
        among = x.among;
        rle = x.rle;
        one = one;
        site_is = found_here.1;
        as_long = as_long ∙ ap (λ (n : ℕ). (l.last + 1 - l.first) * n) x.raw_long;
        room = has_room;
      }

      plain_so : IsPlainOf mid kind before own after found.site l bytes most
      plain_so =
          subst (λ (image : List ℕ). IsPlainOf image kind before own after found.site l bytes most) (sym same)
          (subst (λ (n : ℕ). IsPlainOf b kind before own after found.site l bytes n) (sym limit_is) is_plain)

      pub has_plain : HasPlain mid found.site l bytes most
      has_plain = record { kind = kind; before = before; own = own; after = after; is_plain = plain_so }

    module _ {now : List ℕ} {next : Leaf} {plain : List ℕ} (more : k ≤ new.rec) (over : plain ≡ written_over new k l (plain_bytes b own.vdr l)) (r : BlockReplaced b now kind before own after l next plain) where
      abbrev own' : VariableShape
      own' = r.own'

      vdr_stays : own'.vdr ≡ own.vdr
      vdr_stays = r.goes_on.vdr_is

      has_next : leaf_at k own'.index ≡ Some next
      has_next =
          let here = has_record in
          find_covering k 0 (suc record_number_limit) (leaves_of own'.index) (leaves_ascend r.goes_on.good r.goes_on.among) next r.one (omega (arith, r.first_is, here.0)) (omega (arith, r.last_is, here.1))

      covers_here : covers k (range l.first l.last) ≡ true
      covers_here = let here = has_record in rw (of_le l.first k here.0, of_le k l.last here.1) refl

      bytes_are : plain ≡ put (plain_bytes b own.vdr l) ((k - l.first) * record_length p.found.variable) (records_from p b k (min p.rec next.last + 1 - k))
      bytes_are =
          let count : min new.rec l.last + 1 - k ≡ min p.rec next.last + 1 - k = rw (x.rec_is, r.last_is) refl in
          over
          ∙ ap (λ (n : ℕ). put (plain_bytes b own.vdr l) ((k - l.first) * n) (records_put new.raw.items new.pad.items new.rec (min new.rec l.last + 1 - k) k)) (x.raw_long ∙ sym x.size_is)
          ∙ ap (put (plain_bytes b own.vdr l) ((k - l.first) * record_length p.found.variable)) (records_are p b new.raw.items new.pad.items new.rec x.rec_is x.raw_is x.pad_is (min new.rec l.last + 1 - k) k ∙ ap (records_from p b k) count)

      written : BlockWritten b now p.found.variable.rle own'.vdr r.acts next (bytes_after p b own'.vdr k next.last (leaf_at k own.index))
      written =
          subst (λ (o : Option Leaf). BlockWritten b now p.found.variable.rle own'.vdr r.acts next (bytes_after p b own'.vdr k next.last o)) (sym there)
          (subst (λ (rle : Bool). BlockWritten b now rle own'.vdr r.acts next (bytes_after p b own'.vdr k next.last (Some l))) (sym x.was_rle)
          (subst (λ (vdr : ℕ). BlockWritten b now true vdr r.acts next (bytes_after p b vdr k next.last (Some l))) (sym vdr_stays) (subst (BlockWritten b now true own.vdr r.acts next) bytes_are r.written)))

      step : (own'.index, r.acts) ≡ leaf_step b now p.found.variable.rle own'.vdr own.index (leaf_at k own.index) next 0
      step =
          subst (λ (o : Option Leaf). (own'.index, r.acts) ≡ leaf_step b now p.found.variable.rle own'.vdr own.index o next 0) (sym there)
          (subst (λ (rle : Bool). (own'.index, r.acts) ≡ leaf_step b now rle own'.vdr own.index (Some l) next 0) (sym x.was_rle)
          (subst (λ (vdr : ℕ). (own'.index, r.acts) ≡ leaf_step b now true vdr own.index (Some l) next 0) (sym vdr_stays) (r.step 0)))

      ranges : range next.first next.last ≡ range_at p.found.variable k own.index
      ranges =
          subst (λ (o : Option Leaf). range next.first next.last ≡ elim o [ None ↦ new_range p.found.variable (firsts_of own.index) k | Some old ↦ range old.first old.last ]) (sym there) (ap₂ range r.first_is r.last_is)

      pub puts_leaf : (done : List Act) → PutsLeaf p (stage b own done k) (stage now own' r.acts (l.last + 1))
      puts_leaf done = record {
        new = next;
        at = 0;
        more = rw x.rec_is more;
        has = has_next;
        range_is = ranges;
        step = step;
        written = written;
        goes = goes_found (found_in b kind before own) p.found (stage b own done k) (stage now own' r.acts (l.last + 1)) (covers k) x.kind_is x.number_is (r.goes (covers k) covers_here done k (l.last + 1));
        next_is = ap (λ (n : ℕ). n + 1) (sym r.last_is);
      }

      plain_so_long : length plain ≡ block_size next (length new.raw.items)
      plain_so_long = ap length over ∙ over_long more (plain_bytes b own.vdr l) long ∙ ap₂ (λ (x y : ℕ). (y + 1 - x) * length new.raw.items) (sym r.first_is) (sym r.last_is)

      needs : (x : Leaf) → leaf_at k own'.index ≡ Some x → block_need now own'.vdr x ≤ max linked_size (vvr_bytes (block_size x (length new.raw.items)))
      needs x e =
          let most : block_need now own.vdr next ≤ max linked_size (vvr_bytes (block_size next (length new.raw.items))) = subst (λ (n : ℕ). block_need now own.vdr next ≤ max linked_size (vvr_bytes n)) plain_so_long r.needs in
          let same : next ≡ x = same_Some next x (sym has_next ∙ e) in
          subst (λ (y : Leaf). block_need now own'.vdr y ≤ max linked_size (vvr_bytes (block_size y (length new.raw.items)))) same
          (subst (λ (vdr : ℕ). block_need now vdr next ≤ max linked_size (vvr_bytes (block_size next (length new.raw.items)))) (sym vdr_stays) most)

      pub puts_on : LeafPut b now p new kind before own after k (l.last + 1)
      puts_on = record {
        own' = own';
        acts = r.acts;
        leaf = puts_leaf;
        into = into_later r.goes_on;
        needs = needs;
        goes_on = r.goes_on;
        max_rec_is = r.max_rec_is;
        r_max_rec_is = r.r_max_rec_is;
      }

    -- the same where it was written into an image that is the same
    pub puts_so : {mid now : List ℕ} {limit most : ℕ} {next : Leaf} (bytes : List ℕ) → mid ≡ b → most ≡ limit → k ≤ new.rec → bytes ≡ written_over new k l (plain_bytes b own.vdr l) → length b + max 28 (12 + block_size l (length new.raw.items)) ≤ limit → ((kind : Kind) (before : List VariableShape) (own : VariableShape) (after : List VariableShape) → IsPlainOf mid kind before own after found.site l bytes most → BlockReplaced mid now kind before own after l next bytes) → LeafPut b now p new kind before own after k (l.last + 1)
    puts_so {now = now} {next = next} bytes same limit_is more over room replaced =
        puts_on more over (subst (λ (image : List ℕ). BlockReplaced image now kind before own after l next bytes) same (replaced kind before own after (plain_so bytes same limit_is more over room)))
