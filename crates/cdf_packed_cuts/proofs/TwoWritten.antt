-- A leaf of a packed variable is given its records before a first one alone, and then all from this one on are cut: the block that was shortened has what it was given, and keeps it.
use Rattle.std.proofs.Common.{Bool, List, [], ap, arith, false, inl, refl, subst, sym, true, ℕ, ◌*◌, ◌+◌, ◌<◌, ◌∙◌, ◌∷◌, ◌≡◌, ◌≤◌, if◌then◌else◌}
use Rattle.cdf_edits.proofs.Common.{Act, ActsFollow, Kind, Leaf, Stays, VariableShape, cvvr_c_size, cvvr_type, is_in-true, leaves_of, number, number_kept, packed_bytes, plain_bytes, record_bytes, records_of_leaf, size_at, sized, uir_type, used_records, vvr_type}
use Rattle.cdf_edits.proofs.Edits.ActsJoined.{each_among, each_sized}
use Rattle.cdf_edits.proofs.Edits.Common.{Each-in, Kept, apart}
use Rattle.cdf_edits.proofs.Edits.PlainLeaves.{leaves_ascend}
use Rattle.cdf_edits.proofs.Space.ActsLeave.{used_if}
use Rattle.cdf_edits.specs.Space.Acts.{Among}
use Rattle.cdf_blocks.proofs.BlockOf.{block_in, block_typed}
use Rattle.cdf_blocks.specs.Blocks.{type_of_block}
use Rattle.cdf_edits.proofs.Edits.LeafPieces.{in_order, of_each}
use Rattle.cdf_edits.proofs.Frame.Meaning.{packed_same}
use Rattle.cdf_edits.specs.Commands.PutSteps.{BlockWritten}
use Rattle.cdf_edits.specs.Index.Written.{SpareIs, WellPacked, block_end, is_taken_at, stays_put}
use Rattle.cdf_format.specs.Records.{cvvr_rfu_a}
use Rattle.cdf_index.proofs.Common.{size_kept}
use Rattle.cdf_puts.proofs.GoesThen.{later_size}
use Rattle.cdf_put_steps.proofs.BlockKept.{leaf_fits, plain_kept, stays_kept}
use Rattle.cdf_cuts.specs.Past.{cut_off}
use Rattle.cdf_packed_cuts.proofs.TwoActs.{acts, first_acts, if_moved, if_stays, new_before, stays, taken_at}
use Rattle.cdf_packed_cuts.proofs.TwoSteps.{TwoSteps}

no_unused : (packed : Bool) → type_of_block packed ≡ uir_type → ⊥
no_unused true e = apart cvvr_type uir_type refl e
no_unused false e = apart vvr_type uir_type refl e

-- the bytes of a block end where they did, where its cSize is what it was, or its records are as long
ends_same : (now mid : List ℕ) (vdr vdr' : ℕ) (l : Leaf) (packed : Bool) → l.packed ≡ packed → (l.packed ≡ true → number now l.place cvvr_c_size ≡ number mid l.place cvvr_c_size) → record_bytes now vdr ≡ record_bytes mid vdr' → block_end now vdr l ≡ block_end mid vdr' l
ends_same now mid vdr vdr' l true e count size = let same = count e in rw e (ap (λ (n : ℕ). 24 + n) same)
ends_same now mid vdr vdr' l false e count size = rw e (ap (λ (n : ℕ). 12 + records_of_leaf l * n) size)

module _ {b mid now : List ℕ} {kind : Kind} {before : List VariableShape} {own : VariableShape} {after : List VariableShape} {first : ℕ} {old new : Leaf} {plain : List ℕ} (t : TwoSteps b mid now kind before own after first old new plain) where
  abbrev own1 : VariableShape
  own1 = t.short.own'

  abbrev own2 : VariableShape
  own2 = cut_off t.short.own' first

  vdr_is : own1.vdr ≡ own.vdr
  vdr_is = t.short.goes_on.vdr_is

  -- the block stays where the records behind go
  block_stays : Stays mid now new.place []
  block_stays =
      let o = (in_order 0 2147483647 (leaves_of own1.index) (leaves_ascend t.short.goes_on.good t.short.goes_on.among) new t.short.one).ordered in
      of_each (λ (l : Leaf). l.first < first → Stays mid now l.place []) (leaves_of own1.index) new t.cut.blocks t.short.one (omega (arith, o, new_before t))

  pub kept : Kept mid now new.place
  kept = stays_kept t.short.goes_on.good t.short.goes_on.among new t.short.one block_stays

  pub size_kept_now : size_at now new.place ≡ size_at mid new.place
  size_kept_now = size_kept mid now new.place kept.same (omega (arith, kept.long))

  pub plain_now : plain_bytes now own2.vdr new ≡ plain
  plain_now = plain_kept t.short.goes_on.good t.short.goes_on.among new t.short.one t.cut.goes_on kept ∙ ap (λ (vdr : ℕ). plain_bytes mid vdr new) vdr_is ∙ t.short.written.plain_is

  -- ---- where its bytes end

  fits_packed : new.packed ≡ true → 24 + number mid new.place cvvr_c_size ≤ size_at mid new.place
  fits_packed e = rw e at (leaf_fits t.short.goes_on.good t.short.goes_on.among new t.short.one).1

  pub end_now : block_end now own2.vdr new ≡ block_end mid own.vdr new
  end_now =
      let count = λ (e : new.packed ≡ true). (let fit = fits_packed e in number_kept mid now new.place kept.same cvvr_c_size (omega (arith, fit))) in
      ends_same now mid own2.vdr own1.vdr new new.packed refl count (later_size t.short.goes_on.good t.short.goes_on.among t.cut.goes_on) ∙ ap (λ (vdr : ℕ). block_end mid vdr new) vdr_is

  -- it stays in its record where it did
  pub stays_now : stays_put b now true own2.vdr old new ≡ stays t
  stays_now = rw end_now refl

  -- ---- how it is written

  packed_now : new.packed ≡ true → packed_bytes now new.place ≡ packed_bytes mid new.place
  packed_now e = packed_same mid now t.cut.goes_on.file new.place kept (fits_packed e)

  well : WellPacked now own2.vdr new
  well =
      let was = t.short.written.packed refl in
      let same : plain_bytes now own2.vdr new ≡ plain_bytes mid own.vdr new = plain_now ∙ sym t.short.written.plain_is in
      record { chosen = rw same was.chosen; longest = λ e. rw (packed_now e) (was.longest e) }

  -- a block that stays in its record has its size
  size_stays : stays t ≡ true → size_at mid new.place ≡ size_at b new.place
  size_stays e =
      let follow = subst (ActsFollow b mid) (if_stays t e) t.short.goes_on.follow in
      let there = block_in t.short.goes_on.good t.short.goes_on.among new t.short.one in
      let typed = block_typed t.short.goes_on.good t.short.goes_on.among new t.short.one in
      let used = Each-in (λ place. Among (place, size_at mid place) (sized b (used_records b))) (used_records mid) follow.left.used_are new.place (used_if mid new.place there (λ u. no_unused new.packed (sym typed ∙ u))) in
      each_among (λ x. x.1 ≡ size_at b x.0) (sized b (used_records b)) (each_sized b (λ x. x.1 ≡ size_at b x.0) (used_records b) (λ n j. refl)) (new.place, size_at mid new.place) used

  anew_spare : SpareIs b mid own.vdr new true → SpareIs b now own2.vdr new true
  anew_spare s i from upto =
      let e = end_now in
      let z = size_kept_now in
      kept.same.each (new.place + i) (omega arith) (omega (arith, upto, z)) ∙ s i (omega (arith, from, e)) (omega (arith, upto, z))

  still_spare : stays t ≡ true → SpareIs b mid own.vdr new false → SpareIs b now own2.vdr new false
  still_spare q s = record {
    each = λ p low high. (let e = end_now in let z = size_stays q in kept.same.each p (omega (arith, low)) (omega (arith, high, z)) ∙ s.each p (omega (arith, low, e)) high);
  }

  spare : SpareIs b now own2.vdr new (is_taken_at (first_acts t) new.place)
  spare = go (stays t) refl
    where
      go : (p : Bool) → stays t ≡ p → SpareIs b now own2.vdr new (is_taken_at (first_acts t) new.place)
      go true e =
          let none : is_taken_at (first_acts t) new.place ≡ false = ap (λ (xs : List Act). is_taken_at xs new.place) (if_stays t e) in
          subst (SpareIs b now own2.vdr new) (sym none) (still_spare e (subst (SpareIs b mid own.vdr new) none t.short.written.spare))
      go false e =
          let one : is_taken_at (first_acts t) new.place ≡ true = ap (λ (xs : List Act). is_taken_at xs new.place) (if_moved t e) ∙ is_in-true new.place (new.place ∷ []) (inl refl) in
          subst (SpareIs b now own2.vdr new) (sym one) (anew_spare (subst (SpareIs b mid own.vdr new) one t.short.written.spare))

  pub written : BlockWritten b now true own2.vdr (acts t) new plain
  written = record {
    plain_is = plain_now;
    packed = λ e. well;
    spare = subst (SpareIs b now own2.vdr new) (sym (taken_at t new.place)) spare;
    reserved = λ e. (let fit = fits_packed e in number_kept mid now new.place kept.same cvvr_rfu_a (omega (arith, fit)) ∙ t.short.written.reserved e ∙ sym (ap (λ (p : Bool). if p then 0 else number b new.place cvvr_rfu_a) (taken_at t new.place)));
  }
