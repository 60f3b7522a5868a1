-- What the calls come to by which the block of a leaf is given the records that stay in it, where later ones keep their numbers.
use Rattle.std.proofs.Common.{List, None, Option, Some, [], ap, append-nil, arith, drop, false, inl, inr, length, length-drop, length-take, refl, subst, suc, sym, take, ℕ, ◌*◌, ◌+◌, ◌-◌, ◌<◌, ◌∙◌, ◌∷◌, ◌≡◌, ◌≤◌}
use Rattle.std.specs.Prelude.{max}
use Rattle.std.proofs.lemmas.Bool.{cases_lt}
use Rattle.cdf_edits.proofs.Common.{Kind, Leaf, VariableShape, image_limit, le-ltb, leaves_of, lt-ltb, plain_bytes, plain_size, range, record_number_limit, variable_of}
use Rattle.cdf_edits.proofs.Edits.LeafPieces.{in_order, times_le}
use Rattle.cdf_edits.proofs.Edits.PlainLeaves.{leaves_ascend}
use Rattle.cdf_edits.specs.Index.Grown.{split_off}
use Rattle.cdf_blocks.proofs.LeafBlock.{plain_long, plain_size_is, plain_stands}
use Rattle.cdf_blocks.specs.Blocks.{HasPart, IsPartOf, LiesIn}
use Rattle.cdf_blocks.specs.Reading.{PlainStands, block_size}
use Rattle.cdf_blocks.specs.Shortened.{BlockShortened}
use Rattle.cdf_blocks.specs.declared.placing.Part.{Part}
use Rattle.cdf_blocks.specs.declared.placing.Site.{Site}
use Rattle.cdf_packed_deletes.proofs.OpenKinds.{open_back, open_front}
use Rattle.cdf_packed_deletes.proofs.PartPieces.{part_long}
use Rattle.cdf_packed_deletes.proofs.Parts.{sized_parts}
use Rattle.cdf_packed_deletes.specs.Keeping.{IsCutIn, first_kept}
use Rattle.cdf_packed_deletes.specs.OpenKeeping.{HasBoth, IsLaterPart, IsOpenOf, IsSplitOff, PartOpened, last_open, part_bytes}
use Rattle.cdf_packed_deletes.specs.Steps.{bytes_of_parts, count_of, parts_kept}
use Rattle.cdf_packed_deletes.specs.declared.opening.Later.{Later}

-- ---- bytes of some records

pub slice_long : (xs : List ℕ) (k n : ℕ) → k + n ≤ length xs → n ≡ length (take n (take (length xs - k) (drop k xs)))
slice_long xs k n le =
    let d = length-drop k xs in
    let t = length-take (length xs - k) (drop k xs) in
    let u = length-take n (take (length xs - k) (drop k xs)) in
    omega (arith, le, d, t, u)

pub part_fits : (l : Leaf) (f e size : ℕ) (xs : List ℕ) → LiesIn l f e → length xs ≡ block_size l size → (f - l.first) * size + (e - f + 1) * size ≤ length xs
part_fits l f e size xs lies long =
    let a = lies.begins in
    let o = lies.ordered in
    let z = lies.ends in
    let most = times_le ((f - l.first) + (e - f + 1)) (l.last + 1 - l.first) size (omega (arith, a, o, z)) in
    let sum : ((f - l.first) + (e - f + 1)) * size ≡ (f - l.first) * size + (e - f + 1) * size = grind arith in
    omega (arith, most, sum, long)

-- as the code takes them
pub slice_ends : (l : Leaf) (f e size : ℕ) (xs : List ℕ) → LiesIn l f e → length xs ≡ block_size l size → (k n : ℕ) → k ≡ f - l.first → n ≡ e - f → (n + 1) * size ≡ length (take ((n + 1) * size) (take (length xs - k * size) (drop (k * size) xs)))
slice_ends l f e size xs lies long k n k_is n_is = slice_long xs (k * size) ((n + 1) * size) fits
  where
    fits : k * size + (n + 1) * size ≤ length xs
    fits = subst (λ (m : ℕ). m * size + (n + 1) * size ≤ length xs) (sym k_is) (subst (λ (m : ℕ). (f - l.first) * size + (m + 1) * size ≤ length xs) (sym n_is) (part_fits l f e size xs lies long))

pub bytes_long : (size : ℕ) (l : Leaf) (f e : ℕ) (xs : List ℕ) → LiesIn l f e → length xs ≡ block_size l size → length (part_bytes size l f e xs) ≡ (e + 1 - f) * size
bytes_long size l f e xs lies long =
    let a = lies.begins in
    let o = lies.ordered in
    let z = lies.ends in
    let most = times_le ((f - l.first) + (e + 1 - f)) (l.last + 1 - l.first) size (omega (arith, a, o, z)) in
    part_long size (f - l.first) (e + 1 - f) xs (omega (arith, most, long))

-- ---- which records stay

module _ (first last : ℕ) (order : first ≤ last) (l : Leaf) (cut : IsCutIn first last l) where
  front_first : l.first < first → first_kept first last l ≡ l.first
  front_first lt = rw (lt-ltb l.first first lt) refl

  front_last : l.first < first → last_open first last l ≡ first - 1
  front_last lt = rw (lt-ltb l.first first lt) refl

  back_first : first ≤ l.first → first_kept first last l ≡ last + 1
  back_first ge = rw (le-ltb l.first first ge) refl

  back_last : first ≤ l.first → last_open first last l ≡ l.last
  back_last ge = rw (le-ltb l.first first ge) refl

  more : first ≤ l.first → last < l.last
  more ge = elim cut.some [ inl lt ↦ absurd (omega (arith, lt, ge)) | inr gt ↦ gt ]

  pub open_is : parts_kept false first last l ≡ range (first_kept first last l) (last_open first last l) ∷ []
  open_is = elim (cases_lt l.first first) [
    | inl lt ↦ open_front first last (omega (arith, order)) l (lt, cut.reaches) ∙ (λ i. range (sym (front_first lt) i) (sym (front_last lt) i) ∷ [])
    | inr ge ↦ open_back first last (omega (arith, order)) l (ge, cut.begins, more ge) ∙ (λ i. range (sym (back_first ge) i) (sym (back_last ge) i) ∷ [])
  ]

  pub open_lies : LiesIn l (first_kept first last l) (last_open first last l)
  open_lies =
      let r = cut.reaches in
      let s = cut.begins in
      elim (cases_lt l.first first) [
        | inl lt ↦ (let f = front_first lt in let e = front_last lt in record { begins = omega (arith, f); ordered = omega (arith, f, e, lt); ends = omega (arith, e, r) })
        | inr ge ↦ (let f = back_first ge in let e = back_last ge in let m = more ge in record { begins = omega (arith, f, s); ordered = omega (arith, f, e, m); ends = omega (arith, e) })
      ]

  pub open_count : count_of (parts_kept false first last l) ≡ last_open first last l + 1 - first_kept first last l
  open_count = ap count_of open_is ∙ omega arith

  -- what is split off
  pub off_is : HasBoth first last l → split_off first last (range l.first l.last) ≡ range (last + 1) l.last ∷ []
  off_is both =
      let s = cut.begins in
      let q : max l.first (last + 1) ≡ last + 1 = omega (arith, s) in
      rw (lt-ltb l.first first both.0, lt-ltb last l.last both.1) (ap (λ (n : ℕ). range n l.last ∷ []) q)

-- the bytes of one range
one_part : (size : ℕ) (l : Leaf) (f e : ℕ) (xs : List ℕ) → part_bytes size l f e xs ≡ sized_parts xs l (range f e ∷ []) size
one_part size l f e xs = sym (append-nil (part_bytes size l f e xs))

-- ---- the calls

module _ {b : List ℕ} {kind : Kind} {before : List VariableShape} {own : VariableShape} {after : List VariableShape} {site : Site} {l : Leaf} {first last size limit : ℕ} (x : IsOpenOf b kind before own after site l first last size limit) where
  pub small_last : l.last ≤ record_number_limit
  small_last = omega (arith, (in_order 0 (suc record_number_limit) (leaves_of own.index) (leaves_ascend x.good x.among) l x.one).before)

  pub ordered : l.first ≤ l.last
  ordered = (in_order 0 (suc record_number_limit) (leaves_of own.index) (leaves_ascend x.good x.among) l x.one).ordered

  stands : length b ≤ image_limit → PlainStands b l (block_size l size)
  stands short = plain_stands x.good x.among l x.one size x.size_is short

  short_by : limit ≤ image_limit → length b ≤ image_limit
  short_by most = omega (arith, x.room, most)

  pub fits : limit ≤ image_limit → block_size l size ≤ image_limit
  fits most = (stands (short_by most)).small

  pub stands_so : (n : ℕ) → n ≡ block_size l size → limit ≤ image_limit → PlainStands b l n
  stands_so n e most = subst (PlainStands b l) (sym e) (stands (short_by most))

  -- what was read
  pub read_is : (n : ℕ) (bytes : List ℕ) → n ≡ block_size l size → ((vdr : ℕ) → plain_size b vdr l ≡ n → bytes ≡ plain_bytes b vdr l) → bytes ≡ plain_bytes b own.vdr l
  read_is n bytes e is = is own.vdr (plain_size_is x.good x.among l x.one size x.size_is ∙ sym e)

  pub read_long : (bytes : List ℕ) → bytes ≡ plain_bytes b own.vdr l → length bytes ≡ block_size l size
  read_long bytes e = ap length e ∙ plain_long x.good x.among l x.one size x.size_is

  pub lies_so : (part : Part) → part.first ≡ first_kept first last l → part.last ≡ last_open first last l → LiesIn l part.first part.last
  lies_so part f e = subst (λ (n : ℕ). LiesIn l n part.last) (sym f) (subst (λ (n : ℕ). LiesIn l (first_kept first last l) n) (sym e) (open_lies first last x.order l x.cut_in))

  module _ (bytes : List ℕ) (read : bytes ≡ plain_bytes b own.vdr l) (part : Part) (first_is : part.first ≡ first_kept first last l) (last_is : part.last ≡ last_open first last l) (plain : List ℕ) (kept : plain ≡ part_bytes size l part.first part.last bytes) where
    as_long : length plain ≡ (part.last + 1 - part.first) * size
    as_long = ap length kept ∙ bytes_long size l part.first part.last bytes (lies_so part first_is last_is) (read_long bytes read)

    -- these bytes can be given
    is_part : IsPartOf b kind before own after site l part plain limit
    is_part =
        let n = as_long in
        let many : count_of (parts_kept false first last l) ≡ part.last + 1 - part.first = open_count first last x.order l x.cut_in ∙ (λ i. sym last_is i + 1 - sym first_is i) in
        let m : count_of (parts_kept false first last l) * size ≡ (part.last + 1 - part.first) * size = ap (λ (k : ℕ). k * size) many in
        record {
          good = x.good;
          among = x.among;
          rle = x.rle;
          one = x.one;
          site_is = x.site_is;
          lies = lies_so part first_is last_is;
          as_long = n ∙ ap (λ (k : ℕ). (part.last + 1 - part.first) * k) x.size_is;
          room = omega (arith, x.room, n, m);
        }

    plain_is : plain ≡ bytes_of_parts b (variable_of b own) own.vdr l (parts_kept false first last l)
    plain_is =
        kept ∙ ap (part_bytes size l part.first part.last) read ∙ one_part size l part.first part.last (plain_bytes b own.vdr l)
        ∙ (λ i. sized_parts (plain_bytes b own.vdr l) l (range (first_is i) (last_is i) ∷ []) (x.size_is i))
        ∙ ap (bytes_of_parts b (variable_of b own) own.vdr l) (sym (open_is first last x.order l x.cut_in))

    -- and once they are, the block has those of the records that stay
    part_opened : {now : List ℕ} (new : Leaf) → new.first ≡ part.first → new.last ≡ part.last → BlockShortened b now kind before own after l new plain → PartOpened b now kind before own after l first last
    part_opened new f e short = record {
      new = new;
      plain = plain;
      first_is = f ∙ first_is;
      last_is = e ∙ last_is;
      plain_is = plain_is;
      long = as_long ∙ (λ i. (sym e i + 1 - sym f i) * x.size_is i);
      short = short;
    }

    -- the same in an image that is the same
    module _ {mid : List ℕ} {most : ℕ} (same : mid ≡ b) (limit_is : most ≡ limit) where
      part_so : IsPartOf mid kind before own after site l part plain most
      part_so = subst (λ (image : List ℕ). IsPartOf image kind before own after site l part plain most) (sym same) (subst (λ (n : ℕ). IsPartOf b kind before own after site l part plain n) (sym limit_is) is_part)

      pub has_part : HasPart mid site l part plain most
      has_part = record { kind = kind; before = before; own = own; after = after; is_part = part_so }

      pub left_so : {now : List ℕ} (new : Leaf) → new.first ≡ part.first → new.last ≡ part.last
          → ((kind : Kind) (before : List VariableShape) (own : VariableShape) (after : List VariableShape) → IsPartOf mid kind before own after site l part plain most → BlockShortened mid now kind before own after l new plain) → PartOpened b now kind before own after l first last
      left_so {now = now} new f e shortened = part_opened new f e (subst (λ (image : List ℕ). BlockShortened image now kind before own after l new plain) same (shortened kind before own after part_so))

  -- what is to be split off
  pub off_so : (bytes : List ℕ) → bytes ≡ plain_bytes b own.vdr l → (later : Option Later) → IsLaterPart size first last l bytes later → IsSplitOff b own l first last later
  off_so bytes read None e = e
  off_so bytes read (Some later) e = (e.0, e.1, bytes_are)
    where
      bytes_are : later.plain.items ≡ bytes_of_parts b (variable_of b own) own.vdr l (split_off first last (range l.first l.last))
      bytes_are =
          e.2 ∙ ap (part_bytes size l (last + 1) l.last) read ∙ one_part size l (last + 1) l.last (plain_bytes b own.vdr l)
          ∙ ap (sized_parts (plain_bytes b own.vdr l) l (range (last + 1) l.last ∷ [])) x.size_is
          ∙ ap (bytes_of_parts b (variable_of b own) own.vdr l) (sym (off_is first last x.order l x.cut_in e.0))
