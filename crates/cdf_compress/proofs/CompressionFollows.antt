-- All blocks and nodes of a variable without records went, and then its packing was turned on or off: the image follows `set-compress`.
use Rattle.cdf_edits.proofs.Common.{Act, AllKeep, Allowances, Bool, ByStep, DataSet, Follows, Found, Go, Kind, List, None, Option, Some, Variable, VariableShape, [], ap, arith, content, R, Z, cpr_link, false, gave, if◌then◌else◌, inl, inr, is_compressed, length, map, number, owned, refl, shape, shapes_of, size_at, stays_all, step, subst, sym, taken, true, true≢false, variable_named, variable_of, vdrs, vdrs_append, with_variable, ℕ, ◌++◌, ◌+◌, ◌∙◌, ◌∷◌, ◌≡◌, ◌≤◌}
use Rattle.std.specs.List.{sum}
use Rattle.cdf_model.specs.declared.answer.Reply.TheVariants as replies
use Rattle.cdf_model.specs.declared.command.Command.TheVariants as commands
use Rattle.cdf_edits.proofs.Edits.Common.{has, long, other_kind, stays_word}
use Rattle.cdf_edits.specs.Commands.Cuts.{CutsAll, SetsCompress, cpr_acts, set_compress_changes}
use Rattle.cdf_edits.specs.Commands.Named.{OfVariable}
use Rattle.cdf_format.specs.Records.{cpr_bytes, vdr_flags, vdr_vxr_tail}
use Rattle.cdf_puts.proofs.Common.{same_Some}
use Rattle.cdf_puts.proofs.GoesThen.{own_there}
use Rattle.cdf_puts.specs.Going.{found_in}
use Rattle.cdf_cuts.proofs.FreedKept.{given_filter, given_nodes}
use Rattle.cdf_compress.proofs.CompressionKeeps.{Compresses, acts, content_is, follow, freed, keeps, none_taken}
use Rattle.cdf_compress.specs.Compressing.{CompressionSet}
use Rattle.cdf_compress.specs.Emptying.{Emptied, all_acts, all_freed, emptied}
use Rattle.cdf_compress.specs.Repacking.{Repacked, packed_flags, with_cpr}

-- ---- a variable takes one record for parameters at most

taken_behind : (b places : List ℕ) (more : List Act) → taken (gave b places ++ more) ≡ taken more
taken_behind b [] more = refl
taken_behind b (place ∷ places) more = taken_behind b places more

one_taken : (b old : List ℕ) (link : ℕ) (p : Bool) → sum (map (λ take. take.1) (taken (cpr_acts b true old (if p then link ∷ [] else [])))) ≤ cpr_bytes 1
one_taken b [] link true = omega arith
one_taken b [] link false = omega arith
one_taken b (place ∷ old) link p = omega arith

few_taken : (b old new : List ℕ) (link : ℕ) (p rle : Bool) → (if p then link ∷ [] else []) ≡ new → sum (map (λ take. take.1) (taken (cpr_acts b rle old new))) ≤ (if rle then cpr_bytes 1 else 0)
few_taken b old new link p true is = subst (λ (xs : List ℕ). sum (map (λ take. take.1) (taken (cpr_acts b true old xs))) ≤ cpr_bytes 1) is (one_taken b old link p)
few_taken b old new link p false is = rw (none_taken b old new) (omega arith)

-- a law on the variables of both kinds
both_kinds : (P : Kind → Type 0) (kind : Kind) → P kind → P (other_kind kind) → (k : Kind) → P k
both_kinds P R own other R = own
both_kinds P R own other Z = other
both_kinds P Z own other R = other
both_kinds P Z own other Z = own

module _ {b mid now : List ℕ} {kind : Kind} {before : List VariableShape} {own : VariableShape} {after : List VariableShape} {rle : Bool} {cpr : List ℕ} (x : Compresses b mid now kind before own after rle cpr) where
  abbrev v : Variable
  v = variable_of b own

  abbrev found : Found
  found = found_in b kind before own

  abbrev own' : VariableShape
  own' = with_cpr (emptied own) cpr

  abbrev e : Emptied b mid kind before own after
  e = x.cut

  abbrev r : Repacked mid now kind before (emptied own) after rle cpr
  r = x.turned

  -- ---- what is written of the descriptor

  long_then : 340 ≤ size_at mid own.vdr
  long_then = long e.goes_on.good e.goes_on.among

  flags_same : number mid own.vdr vdr_flags ≡ number b own.vdr vdr_flags
  flags_same = stays_word e.descriptor 44 4 (let n = long x.good x.among in omega arith) (λ i low high. (inr (omega arith), (inr (omega arith), tt)))

  tail_same : number now own.vdr vdr_vxr_tail ≡ number mid own.vdr vdr_vxr_tail
  tail_same = stays_word r.descriptor 36 8 (omega (arith, long_then)) (λ i low high. (inl (omega arith), (inl (omega arith), tt)))

  cuts : CutsAll b now own own' (all_acts b own)
  cuts = record { index_is = refl; takes_none = e.cuts.takes_none; tail = tail_same ∙ e.cuts.tail }

  sets_compress : SetsCompress b now rle own own' (acts x)
  sets_compress = record {
    cut = all_acts b own;
    cuts = cuts;
    acts_are = refl;
    flags_are = r.flags_are ∙ ap (λ (n : ℕ). packed_flags n rle) flags_same;
    cpr_says = r.cpr_says;
    link_is = r.link_is;
    freed = given_filter b now _ (acts x) (acts x) (freed x);
    nodes_freed = given_nodes b now (acts x) (acts x) (freed x);
  }

  -- ---- room, and where descriptors stand

  takes_few : sum (map (λ take. take.1) (taken (acts x))) ≤ (if rle then cpr_bytes 1 else 0)
  takes_few =
      let only = taken_behind b (all_freed own) (cpr_acts b rle own.cpr cpr) in
      subst (λ (xs : List (ℕ × ℕ)). sum (map (λ take. take.1) xs) ≤ (if rle then cpr_bytes 1 else 0)) (sym only) (few_taken b own.cpr cpr (cpr_link now own.vdr) (is_compressed now own.vdr) rle (has r.good r.among).packed_by)

  within : length now ≤ length b + (if rle then cpr_bytes 1 else 0)
  within = subst (λ (n : ℕ). length now ≤ n + (if rle then cpr_bytes 1 else 0)) e.long r.within

  places : (k : Kind) → vdrs (shapes_of (shape now) k) ≡ vdrs (shapes_of (shape b) k)
  places = both_kinds (λ k. vdrs (shapes_of (shape now) k) ≡ vdrs (shapes_of (shape b) k)) kind
      (ap vdrs r.among.was ∙ vdrs_append before (own' ∷ after) ∙ sym (vdrs_append before (own ∷ after)) ∙ sym (ap vdrs x.among.was))
      (ap vdrs (r.others_are ∙ e.goes_on.others_are))

  -- ---- the command, which names the variable

  module _ (name : List ℕ) (named : variable_named (content b) name ≡ Some found) where
    sets_named : OfVariable b now name (λ found y y'. SetsCompress b now rle y y' (acts x))
    sets_named found' y y' is =
        let q : found ≡ found' = same_Some _ _ (sym named ∙ is.named) in
        let was : own ≡ y = same_Some own y (sym (own_there x.good x.among) ∙ (rw (← q) at is.before)) in
        let now_is : own' ≡ y' = same_Some own' y' (sym (own_there r.good r.among) ∙ (rw (← q) at is.after)) in
        rw (← was, ← now_is) sets_compress

    -- the data set gives the variable, packed or not
    goes : step (content b) (commands.SetCompress name rle) ≡ ByStep (Go (with_variable (content b) found (record v { rle = rle })) replies.Plain)
    goes = rw (named, x.none_stored) refl

    follows : Follows b (commands.SetCompress name rle) now
    follows =
        let may_be = ap (λ (o : Option Found). elim o as (λ x. Allowances) [ None ↦ stays_all | Some found ↦ set_compress_changes b (shape b) found rle ]) named in
        record {
          reply = replies.Plain;
          goes = goes ∙ ap (λ (d : DataSet). ByStep (Go d replies.Plain)) (sym (content_is x));
          good = r.good;
          longer = omega (arith, e.long, r.longer);
          within = within;
          reads = λ e. absurd (true≢false (sym e));
          acts = acts x;
          takes_within = takes_few;
          acts_follow = follow x;
          keeps = subst (λ (a : Allowances). AllKeep b now a (acts x) (owned b (shape b))) (sym may_be) (keeps x);
          does = sets_named;
        }

  pub compression_set : CompressionSet b now kind before own rle
  compression_set = record { good = r.good; content_is = content_is x; places = places; follows = follows }
