-- What the calls come to by which the leaf is found that has the record before a first one and this one too, and its block is given the records before this one alone.
use Rattle.std.proofs.Common.{List, None, Option, Some, ap, arith, inl, inr, length, subst, suc, sym, take, ℕ, ◌*◌, ◌+◌, ◌-◌, ◌<◌, ◌∙◌, ◌≡◌, ◌≤◌}
use Rattle.std.proofs.lemmas.Bool.{cases_lt}
use Rattle.std.proofs.lemmas.List.{length-take}
use Rattle.cdf_edits.proofs.Common.{Good, Kind, Leaf, Nodes, VariableShape, image_limit, leaves_of, number, plain_bytes, plain_size, record_bytes, record_number_limit, vdr_vxr_head}
use Rattle.cdf_edits.proofs.Edits.LeafPieces.{IsOneOf, in_order, of_each, times_le}
use Rattle.cdf_edits.proofs.Edits.PlainLeaves.{leaves_ascend}
use Rattle.cdf_edits.proofs.Edits.StandsAmong.{StandsAmong}
use Rattle.cdf_index.proofs.LeafRules.{uncovered_by}
use Rattle.cdf_index.specs.Finding.{index_at}
use Rattle.cdf_index.specs.Sight.{seen}
use Rattle.cdf_puts.proofs.PutBytes.{found_covering}
use Rattle.cdf_blocks.proofs.LeafBlock.{plain_long, plain_size_is, plain_stands}
use Rattle.cdf_blocks.specs.Blocks.{HasPart, IsPartOf}
use Rattle.cdf_blocks.specs.Reading.{PlainStands, block_size}
use Rattle.cdf_blocks.specs.Shortened.{BlockShortened}
use Rattle.cdf_blocks.specs.Sites.{IsFound}
use Rattle.cdf_blocks.specs.declared.placing.Site.{Site}
use Rattle.cdf_blocks.specs.declared.sites.SitedLeaf.{SitedLeaf}
use Rattle.cdf_cuts.proofs.CutCalls.{index_is}
use Rattle.cdf_packed_cuts.proofs.TwoSteps.{apart_ranges}
use Rattle.cdf_packed_cuts.specs.Splitting.{FrontLeft, IsSplitOf, SplitIs}

-- ---- the leaf

module _ {b : List ℕ} {kind : Kind} {before : List VariableShape} {own : VariableShape} {after : List VariableShape} (good : Good b) (at : StandsAmong b kind before own after) (first : ℕ) where
  -- what was found in an image that is the same is found in this one
  pub found_here : {x : List ℕ} {head rec vdr : ℕ} {o p : Option SitedLeaf} → own.vdr ≡ vdr → x ≡ b → head ≡ number b vdr vdr_vxr_head → rec ≡ first - 1 → o ≡ p → IsFound x (index_at x head) rec o → IsFound b own.index (first - 1) p
  found_here {head = head} {rec = rec} {vdr = vdr} {o = o} is same head_is rec_is option_is f =
      let here = subst (λ (z : List ℕ). IsFound z (index_at z head) rec o) same f in
      let there = subst (λ (h : ℕ). IsFound b (index_at b h) rec o) head_is here in
      let own_one = subst (λ (y : Nodes). IsFound b y rec o) (index_is b good at is).1 there in
      let so = subst (λ (r : ℕ). IsFound b own.index r o) rec_is own_one in
      subst (λ (q : Option SitedLeaf). IsFound b own.index (first - 1) q) option_is so

module _ {b : List ℕ} {kind : Kind} {before : List VariableShape} {own : VariableShape} {after : List VariableShape} {first : ℕ} (good : Good b) (at : StandsAmong b kind before own after) where
  -- before the record 0 there is none
  pub none_before : first ≡ 0 → SplitIs b own.index first None
  none_before e l i = inr (omega (arith, e))

  -- no leaf has the record before
  pub none_has : 1 ≤ first → IsFound b own.index (first - 1) None → SplitIs b own.index first None
  none_has some e l i =
      let miss = of_each (λ (x : Leaf). x.first ≤ first - 1 → x.last < first - 1) (leaves_of own.index) l (uncovered_by (first - 1) (leaves_of own.index) e) i in
      elim (cases_lt (first - 1) l.first) [
        | inl lt ↦ inr (omega (arith, lt, some))
        | inr le ↦ let m = miss le in inl (omega (arith, m, some))
      ]

  module _ (found : SitedLeaf) (is : IsFound b own.index (first - 1) (Some found)) (some : 1 ≤ first) where
    abbrev l : Leaf
    l = seen found.leaf

    pub has : IsOneOf (leaves_of own.index) l × ((l.first ≤ first - 1) × (first - 1 ≤ l.last))
    has = found_covering (first - 1) (leaves_of own.index) l (sym is.0)

    -- the leaf that has it ends with it
    pub none_with : found.leaf.last < first → SplitIs b own.index first None
    none_with lt m i =
        let h = has in
        let low = h.1.0 in
        let high = h.1.1 in
        elim (apart_ranges 0 2147483647 (leaves_of own.index) (leaves_ascend good at) m l i h.0) [
          | inl q ↦ inl (let e : m.last ≡ l.last = ap (λ (z : Leaf). z.last) q in omega (arith, e, lt))
          | inr side ↦ elim side [ inl s ↦ inl (omega (arith, s, low, some)) | inr s ↦ inr (omega (arith, s, high, lt, some)) ]
        ]

    -- or it goes on
    pub one_with : first ≤ found.leaf.last → SplitIs b own.index first (Some found)
    one_with le =
        let h = has in
        let low = h.1.0 in
        (h.0, record { before = omega (arith, low, some); behind = le }, is.1)

-- ---- its block

module _ {b : List ℕ} {kind : Kind} {before : List VariableShape} {own : VariableShape} {after : List VariableShape} {site : Site} {l : Leaf} {first size limit : ℕ} (x : IsSplitOf b kind before own after site l first size limit) where
  pub small_last : l.last ≤ record_number_limit
  small_last = omega (arith, (in_order 0 (suc record_number_limit) (leaves_of own.index) (leaves_ascend x.good x.among) l x.one).before)

  pub ordered : l.first ≤ l.last
  ordered = (in_order 0 (suc record_number_limit) (leaves_of own.index) (leaves_ascend x.good x.among) l x.one).ordered

  stands : length b ≤ image_limit → PlainStands b l (block_size l size)
  stands short = plain_stands x.good x.among l x.one size x.size_is short

  short_by : limit ≤ image_limit → length b ≤ image_limit
  short_by most = omega (arith, x.room, most)

  pub stands_so : (n : ℕ) → n ≡ block_size l size → limit ≤ image_limit → PlainStands b l n
  stands_so n e most = subst (PlainStands b l) (sym e) (stands (short_by most))

  front_most : (first - l.first) * size ≤ block_size l size
  front_most = let s = x.split.behind in times_le (first - l.first) (l.last + 1 - l.first) size (omega (arith, s))

  -- what was read
  pub read_is : (n : ℕ) (bytes : List ℕ) → n ≡ block_size l size → ((vdr : ℕ) → plain_size b vdr l ≡ n → bytes ≡ plain_bytes b vdr l) → bytes ≡ plain_bytes b own.vdr l
  read_is n bytes e is = is own.vdr (plain_size_is x.good x.among l x.one size x.size_is ∙ sym e)

  read_long : (bytes : List ℕ) → bytes ≡ plain_bytes b own.vdr l → length bytes ≡ block_size l size
  read_long bytes e = ap length e ∙ plain_long x.good x.among l x.one size x.size_is

  -- it is long enough
  front_in : (bytes : List ℕ) → bytes ≡ plain_bytes b own.vdr l → (first - l.first) * size ≤ length bytes
  front_in bytes e = let m = front_most in let n = read_long bytes e in omega (arith, m, n)

  pub front_taken : (n : ℕ) (bytes : List ℕ) → n ≡ first - l.first → bytes ≡ plain_bytes b own.vdr l → n * size ≡ length (take (n * size) bytes)
  front_taken n bytes e read =
      let m : n * size ≤ length bytes = subst (λ (k : ℕ). k * size ≤ length bytes) (sym e) (front_in bytes read) in
      omega (arith, length-take (n * size) bytes, m)

  module _ (bytes : List ℕ) (read : bytes ≡ plain_bytes b own.vdr l) (plain : List ℕ) (front : plain ≡ take ((first - l.first) * size) bytes) where
    as_long : length plain ≡ (first - l.first) * size
    as_long = let m = front_in bytes read in ap length front ∙ omega (arith, length-take ((first - l.first) * size) bytes, m)

    count : (first - 1) + 1 - l.first ≡ first - l.first
    count = let s = x.split.before in omega (arith, s)

    -- these bytes can be given
    front_part : IsPartOf b kind before own after site l (record { first = l.first; last = first - 1 }) plain limit
    front_part =
        let s = x.split.before in
        let t = x.split.behind in
        let n = as_long in
        let m = front_most in
        record {
          good = x.good;
          among = x.among;
          rle = x.rle;
          one = x.one;
          site_is = x.site_is;
          lies = record { begins = omega arith; ordered = omega (arith, s); ends = omega (arith, t) };
          as_long = n ∙ (λ i. sym count i * x.size_is i);
          room = omega (arith, x.room, n, m);
        }

    -- and once they are, the block has those of the records before the first one
    front_left : {mid : List ℕ} (new : Leaf) → new.first ≡ l.first → new.last ≡ first - 1 → BlockShortened b mid kind before own after l new plain → FrontLeft b mid kind before own after l first
    front_left new f e short =
        let s = x.split.before in
        let many : (new.last + 1 - new.first) * record_bytes b own.vdr ≡ (first - l.first) * size = (λ i. (e i + 1 - f i) * sym x.size_is i) ∙ ap (λ (n : ℕ). n * size) count in
        record {
          new = new;
          plain = plain;
          first_is = f;
          last_is = omega (arith, e, s);
          plain_is = front ∙ ap (take ((first - l.first) * size)) read ∙ ap (λ (n : ℕ). take n (plain_bytes b own.vdr l)) (sym many);
          long = as_long ∙ sym many;
          short = short;
        }

    -- the same in an image that is the same
    module _ {mid : List ℕ} {most : ℕ} (same : mid ≡ b) (limit_is : most ≡ limit) where
      part_so : IsPartOf mid kind before own after site l (record { first = l.first; last = first - 1 }) plain most
      part_so =
          subst (λ (image : List ℕ). IsPartOf image kind before own after site l (record { first = l.first; last = first - 1 }) plain most) (sym same)
          (subst (λ (n : ℕ). IsPartOf b kind before own after site l (record { first = l.first; last = first - 1 }) plain n) (sym limit_is) front_part)

      pub has_part : HasPart mid site l (record { first = l.first; last = first - 1 }) plain most
      has_part = record { kind = kind; before = before; own = own; after = after; is_part = part_so }

      pub left_so : {now : List ℕ} (new : Leaf) → new.first ≡ l.first → new.last ≡ first - 1
          → ((kind : Kind) (before : List VariableShape) (own : VariableShape) (after : List VariableShape) → IsPartOf mid kind before own after site l (record { first = l.first; last = first - 1 }) plain most → BlockShortened mid now kind before own after l new plain) → FrontLeft b now kind before own after l first
      left_so {now = now} new f e shortened = front_left new f e (subst (λ (image : List ℕ). BlockShortened image now kind before own after l new plain) same (shortened kind before own after part_so))
