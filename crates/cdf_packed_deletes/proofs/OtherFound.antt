-- Steps of a cut are told of a variable by its kind, its number and the length of its records: they are those of one with other records too.
use Rattle.cdf_edits.proofs.Common.{Act, Bool, Each, Found, Kind, Leaf, List, None, Option, Range, Some, Variable, VariableShape, [], drop, false, flat_map, leaves_of, not, plain_bytes, range, refl, subst, sym, true, true≢false, ℕ, ◌*◌, ◌+◌, ◌-◌, ◌∷◌, ◌≡◌, ◌||◌}
use Rattle.std.proofs.Common.{take}
use Rattle.cdf_edits.proofs.Edits.VariableFrame.{Each-map}
use Rattle.cdf_edits.specs.Commands.PutSteps.{BlockWritten, Goes, Stage}
use Rattle.cdf_edits.specs.Index.Blocks.{record_length}
use Rattle.cdf_edits.specs.Index.Cut.{IsNeeded, Part, StaysWhole, is_whole}
use Rattle.cdf_edits.specs.Index.Grown.{kept_open, split_off}
use Rattle.cdf_packed_deletes.specs.Steps.{CutsWhole, KeepSome, KeepsSome, SplitLast, SplitsOff, bytes_of_parts, parts_kept}

-- a variable by its kind and number
abbrev pub of_variable : Kind → ℕ → Variable → Found
of_variable kind n v = record { kind = kind; number = n; variable = v }

pub goes_other : (kind : Kind) (n : ℕ) (v w : Variable) (from to : Stage) (changes : Range → Bool) → Goes (of_variable kind n v) from to changes → Goes (of_variable kind n w) from to changes
goes_other kind n v w from to changes x = record { good = x.good; stands = x.stands; acts_follow = x.acts_follow; keeps = x.keeps; unused = x.unused; spare = x.spare; tail = x.tail; freed = x.freed }

-- the plain bytes of ranges by the length of a record
abbrev pub bytes_by : ℕ → List ℕ → ℕ → Leaf → List Range → List ℕ
bytes_by size b vdr l ranges = flat_map (λ r. take ((r.last + 1 - r.first) * size) (drop ((r.first - l.first) * size) (plain_bytes b vdr l))) ranges

module _ (kind : Kind) (n : ℕ) (v w : Variable) (same : record_length v ≡ record_length w) where
  keeps_other : (closes : Bool) (first last : ℕ) (old : Leaf) (from to : Stage) → KeepsSome (of_variable kind n v) closes first last old from to → KeepsSome (of_variable kind n w) closes first last old from to
  keeps_other closes first last old from to x = record {
    new = x.new;
    one = x.one;
    first_is = x.first_is;
    last_is = x.last_is;
    index_is = x.index_is;
    acts_are = x.acts_are;
    place_is = x.place_is;
    written = subst (λ (size : ℕ). BlockWritten from.image to.image true from.own.vdr to.acts x.new (bytes_by size from.image from.own.vdr old (parts_kept closes first last old))) same x.written;
    goes = goes_other kind n v w from to _ x.goes;
    next_is = x.next_is;
  }

  pub keep_other : (closes : Bool) (first last : ℕ) (leaves : List Leaf) (from : Stage) (stages : List Stage) (to : Stage) → KeepSome (of_variable kind n v) closes first last leaves from stages to → KeepSome (of_variable kind n w) closes first last leaves from stages to
  keep_other closes first last [] from [] to e = e
  keep_other closes first last [] from (next ∷ more) to e = e
  keep_other closes first last (old ∷ leaves) from [] to e = e
  keep_other closes first last (old ∷ leaves) from (next ∷ more) to e = (keeps_other closes first last old from next e.0, keep_other closes first last leaves next more to e.1)

  split_other : (old : Leaf) (part : Range) (plain : List ℕ) (from to : Stage) → SplitsOff (of_variable kind n v) old part plain from to → SplitsOff (of_variable kind n w) old part plain from to
  split_other old part plain from to x = record { new = x.new; at = x.at; range_is = x.range_is; step = x.step; written = x.written; goes = goes_other kind n v w from to _ x.goes; next_is = x.next_is }

  pub splits_other : (first last : ℕ) (b : List ℕ) (own : VariableShape) (o : Option Leaf) (from to : Stage) → SplitLast (of_variable kind n v) first last b own o from to → SplitLast (of_variable kind n w) first last b own o from to
  splits_other first last b own None from to e = e
  splits_other first last b own (Some old) from to e =
      subst (λ (size : ℕ). SplitsOff (of_variable kind n w) old (range (last + 1) old.last) (bytes_by size b own.vdr old (split_off first last (range old.first old.last))) from to) same
      (split_other old (range (last + 1) old.last) (bytes_of_parts b v own.vdr old (split_off first last (range old.first old.last))) from to e)

  -- ---- of a packed variable only blocks of which all records stay have to stay

  or_whole : (p q : Bool) → w.rle ≡ true → (p || not w.rle) ≡ true → (p || q) ≡ true
  or_whole true q r e = refl
  or_whole false q r e = let none : false ≡ true = rw r at e in absurd (true≢false (sym none))

  whole_other : (kept : Part) (acts : List Act) (old new : Leaf) → w.rle ≡ true → StaysWhole v kept acts old new → StaysWhole w kept acts old new
  whole_other kept acts old new r x = λ part e. x part (or_whole (is_whole old new) (not v.rle) r e)

  pub cuts_other : (first last : ℕ) (from to : Stage) → w.rle ≡ true → CutsWhole (of_variable kind n v) false first last from to → CutsWhole (of_variable kind n w) false first last from to
  cuts_other first last from to r x = record {
    index = record {
      index_is = x.index.index_is;
      apart = x.index.apart;
      once = x.index.once;
      frees = x.index.frees;
      takes = subst (Each (IsNeeded w to.own.index)) (sym x.takes_none) tt;
      stand = x.index.stand;
      stay = Each-map (λ (old : Leaf). Each (StaysWhole v (kept_open first last) to.acts old) (leaves_of to.own.index)) (λ (old : Leaf). Each (StaysWhole w (kept_open first last) to.acts old) (leaves_of to.own.index))
          (λ old e. Each-map (StaysWhole v (kept_open first last) to.acts old) (StaysWhole w (kept_open first last) to.acts old) (λ new s. whole_other (kept_open first last) to.acts old new r s) (leaves_of to.own.index) e) (leaves_of from.own.index) x.index.stay;
    };
    takes_none = x.takes_none;
    goes = goes_other kind n v w from to _ x.goes;
    next_is = x.next_is;
  }
