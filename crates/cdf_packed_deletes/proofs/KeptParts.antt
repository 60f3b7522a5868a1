-- What the calls come to by which the block of a leaf is given the records that stay alone.
use Rattle.std.proofs.Common.{List, ap, arith, length, refl, subst, suc, sym, true, ℕ, ◌*◌, ◌+◌, ◌-◌, ◌<◌, ◌∙◌, ◌≡◌, ◌≤◌, inl, inr}
use Rattle.std.proofs.lemmas.Bool.{cases_lt}
use Rattle.cdf_edits.proofs.Common.{Kind, Leaf, VariableShape, image_limit, le-ltb, leaves_of, lt-ltb, plain_bytes, plain_size, record_number_limit, variable_of}
use Rattle.cdf_edits.proofs.Edits.LeafPieces.{in_order, times_le}
use Rattle.cdf_edits.proofs.Edits.PlainLeaves.{leaves_ascend}
use Rattle.cdf_blocks.proofs.LeafBlock.{plain_long, plain_size_is, plain_stands}
use Rattle.cdf_blocks.specs.Blocks.{HasPart, IsPartOf, LiesIn}
use Rattle.cdf_blocks.specs.Reading.{PlainStands, block_size}
use Rattle.cdf_blocks.specs.Shortened.{BlockShortened}
use Rattle.cdf_blocks.specs.declared.placing.Part.{Part}
use Rattle.cdf_blocks.specs.declared.placing.Site.{Site}
use Rattle.cdf_packed_deletes.proofs.Parts.{outer_long, parts_bytes, sized_parts}
use Rattle.cdf_packed_deletes.specs.Keeping.{IsCutIn, IsKeptOf, PartsLeft, back_count, first_kept, front_count, outer_bytes}
use Rattle.cdf_packed_deletes.specs.Steps.{bytes_of_parts, parts_kept}

-- the first one that stays, where there are such before those that go, and where there are none
kept_front : (first last : ℕ) (l : Leaf) → l.first < first → first_kept first last l ≡ l.first
kept_front first last l lt = rw (lt-ltb l.first first lt) refl

kept_back : (first last : ℕ) (l : Leaf) → first ≤ l.first → first_kept first last l ≡ last + 1
kept_back first last l ge = rw (le-ltb l.first first ge) refl

-- the numbers of what stays lie among those of the leaf
kept_lies : (first last : ℕ) (l : Leaf) → first ≤ last → IsCutIn first last l → (f e : ℕ) → f ≡ first_kept first last l → e + 1 ≡ f + (front_count first l + back_count last l) → LiesIn l f e
kept_lies first last l order cut f e begins ends =
    let r = cut.reaches in
    let s = cut.begins in
    elim (cases_lt l.first first) [
      | inl lt ↦ (let q = begins ∙ kept_front first last l lt in record { begins = omega (arith, q); ordered = omega (arith, ends, lt); ends = omega (arith, q, ends, lt, r, s, order) })
      | inr ge ↦ elim cut.some [
        | inl lt ↦ absurd (omega (arith, lt, ge))
        | inr more ↦ (let q = begins ∙ kept_back first last l ge in record { begins = omega (arith, q, s); ordered = omega (arith, ends, more); ends = omega (arith, q, ends, more, r, s, ge, order) })
      ]
    ]

module _ {b : List ℕ} {kind : Kind} {before : List VariableShape} {own : VariableShape} {after : List VariableShape} {site : Site} {l : Leaf} {first last size limit : ℕ} (x : IsKeptOf b kind before own after site l first last size limit) where
  pub small_last : l.last ≤ record_number_limit
  small_last = omega (arith, (in_order 0 (suc record_number_limit) (leaves_of own.index) (leaves_ascend x.good x.among) l x.one).before)

  pub ordered : l.first ≤ l.last
  ordered = (in_order 0 (suc record_number_limit) (leaves_of own.index) (leaves_ascend x.good x.among) l x.one).ordered

  stands : length b ≤ image_limit → PlainStands b l (block_size l size)
  stands short = plain_stands x.good x.among l x.one size x.size_is short

  short_by : limit ≤ image_limit → length b ≤ image_limit
  short_by most = omega (arith, x.room, most)

  pub fits : limit ≤ image_limit → block_size l size ≤ image_limit
  fits most = (stands (short_by most)).small

  pub stands_so : (n : ℕ) → n ≡ block_size l size → limit ≤ image_limit → PlainStands b l n
  stands_so n e most = subst (PlainStands b l) (sym e) (stands (short_by most))

  -- what was read
  pub read_is : (n : ℕ) (bytes : List ℕ) → n ≡ block_size l size → ((vdr : ℕ) → plain_size b vdr l ≡ n → bytes ≡ plain_bytes b vdr l) → bytes ≡ plain_bytes b own.vdr l
  read_is n bytes e is = is own.vdr (plain_size_is x.good x.among l x.one size x.size_is ∙ sym e)

  pub read_long : (bytes : List ℕ) → bytes ≡ plain_bytes b own.vdr l → length bytes ≡ block_size l size
  read_long bytes e = ap length e ∙ plain_long x.good x.among l x.one size x.size_is

  module _ (bytes : List ℕ) (read : bytes ≡ plain_bytes b own.vdr l) (plain : List ℕ) (outer : plain ≡ outer_bytes size first last l bytes) (part : Part) (first_is : part.first ≡ first_kept first last l) (last_is : part.last + 1 ≡ part.first + (front_count first l + back_count last l)) where
    count : part.last + 1 - part.first ≡ front_count first l + back_count last l
    count = omega (arith, last_is)

    as_long : length plain ≡ (front_count first l + back_count last l) * size
    as_long = ap length outer ∙ outer_long first last x.order l x.cut_in size bytes (read_long bytes read)

    -- these bytes can be given
    is_part : IsPartOf b kind before own after site l part plain limit
    is_part =
        let n = as_long in
        let r = x.cut_in.reaches in
        let s = x.cut_in.begins in
        let o = x.order in
        let m = times_le (front_count first l + back_count last l) (l.last + 1 - l.first) size (omega (arith, r, s, o, ordered)) in
        record {
          good = x.good;
          among = x.among;
          rle = x.rle;
          one = x.one;
          site_is = x.site_is;
          lies = kept_lies first last l x.order x.cut_in part.first part.last first_is last_is;
          as_long = n ∙ (λ i. sym count i * x.size_is i);
          room = omega (arith, x.room, n, m);
        }

    plain_is : plain ≡ bytes_of_parts b (variable_of b own) own.vdr l (parts_kept true first last l)
    plain_is =
        outer ∙ ap (outer_bytes size first last l) read
        ∙ sym (parts_bytes first last x.order l x.cut_in size (plain_bytes b own.vdr l) (plain_long x.good x.among l x.one size x.size_is))
        ∙ (λ i. sized_parts (plain_bytes b own.vdr l) l (parts_kept true first last l) (x.size_is i))

    -- and once they are, the block has those of the records that stay
    parts_left : {now : List ℕ} (new : Leaf) → new.first ≡ part.first → new.last ≡ part.last → BlockShortened b now kind before own after l new plain → PartsLeft b now kind before own after l first last
    parts_left new f e short = record {
      new = new;
      plain = plain;
      first_is = f ∙ first_is;
      last_is = omega (arith, e, f, last_is);
      plain_is = plain_is;
      long = as_long ∙ (λ i. (let many : front_count first l + back_count last l ≡ new.last + 1 - new.first = omega (arith, e, f, last_is) in many i) * x.size_is i);
      short = short;
    }

    -- the same in an image that is the same
    module _ {mid : List ℕ} {most : ℕ} (same : mid ≡ b) (limit_is : most ≡ limit) where
      part_so : IsPartOf mid kind before own after site l part plain most
      part_so = subst (λ (image : List ℕ). IsPartOf image kind before own after site l part plain most) (sym same) (subst (λ (n : ℕ). IsPartOf b kind before own after site l part plain n) (sym limit_is) is_part)

      pub has_part : HasPart mid site l part plain most
      has_part = record { kind = kind; before = before; own = own; after = after; is_part = part_so }

      pub left_so : {now : List ℕ} (new : Leaf) → new.first ≡ part.first → new.last ≡ part.last
          → ((kind : Kind) (before : List VariableShape) (own : VariableShape) (after : List VariableShape) → IsPartOf mid kind before own after site l part plain most → BlockShortened mid now kind before own after l new plain) → PartsLeft b now kind before own after l first last
      left_so {now = now} new f e shortened = parts_left new f e (subst (λ (image : List ℕ). BlockShortened image now kind before own after l new plain) same (shortened kind before own after part_so))
