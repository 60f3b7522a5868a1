-- Of a packed variable of which no leaf has records before a first one and this one too, all from this one on are cut out of the index: that is what a put under a rule cuts first.
use Rattle.std.proofs.Common.{List, [], ap, arith, drop, false, inl, inr, length, map, refl, subst, sym, take, true, true≢false, ℕ, ◌*◌, ◌+◌, ◌-◌, ◌<◌, ◌∙◌, ◌≡◌, ◌≤◌}
use Rattle.std.specs.List.{sum}
use Rattle.std.specs.Prelude.{nat_le}
use Rattle.cdf_edits.proofs.Common.{Act, Each, Good, Kind, Leaf, Stays, Variable, VariableShape, eq-eqb, extent, leaves_of, max_rec_at, plain_bytes, record_bytes, records_of_leaf, taken, variable_of}
use Rattle.cdf_edits.proofs.Edits.ActsThen.{taken-gave}
use Rattle.cdf_edits.proofs.Edits.LeafPieces.{IsOneOf, each_of, in_order, of_each}
use Rattle.cdf_edits.proofs.Edits.PlainLeaves.{leaves_ascend}
use Rattle.cdf_edits.proofs.Edits.StandsAmong.{StandsAmong}
use Rattle.cdf_edits.specs.Commands.PutSteps.{BlockWritten, CutsPast, Goes}
use Rattle.cdf_edits.specs.Index.Cut.{CutsIndex, IsPart, IsPlaced, StaysWhole, is_whole}
use Rattle.cdf_edits.specs.Index.Grown.{cut_nodes}
use Rattle.cdf_puts.specs.Going.{found_in}
use Rattle.cdf_puts.specs.SoFar.{taken_bytes}
use Rattle.cdf_cuts.specs.Past.{EndCut, EndsOrGoes, before_first, cut_off, past_acts, past_span, stage}
use Rattle.cdf_cuts.specs.Planning.{freed_of, plan_of}
use Rattle.cdf_packed_cuts.proofs.CutStored.{cut_stored}
use Rattle.cdf_packed_cuts.proofs.PackedContent.{content_cut, variable_cut}
use Rattle.cdf_packed_cuts.proofs.TwoSteps.{part_is}
use Rattle.cdf_packed_cuts.specs.Past.{PackedPast, StoredBefore}

module _ {b now : List ℕ} {kind : Kind} {before : List VariableShape} {own : VariableShape} {after : List VariableShape} {first : ℕ} (good : Good b) (at : StandsAmong b kind before own after) (uncut : (l : Leaf) → IsOneOf (leaves_of own.index) l → EndsOrGoes first l) (e : EndCut b now kind before own (cut_off own first) after first) where
  abbrev v : Variable
  v = variable_of b own

  abbrev own' : VariableShape
  own' = cut_off own first

  abbrev leaves : List Leaf
  leaves = leaves_of own.index

  abbrev lefts : List Leaf
  lefts = leaves_of own'.index

  abbrev acts : List Act
  acts = past_acts b own first

  abbrev size : ℕ
  size = record_bytes b own.vdr

  gives : taken acts ≡ []
  gives = taken-gave b (freed_of (plan_of (past_span first) 0 own.index))

  takes_first : taken (drop (length (taken acts)) acts) ≡ []
  takes_first = ap (λ (n : ℕ). taken (drop n acts)) (ap length gives) ∙ gives

  small : (l : Leaf) → IsOneOf leaves l → l.last ≤ 2147483646
  small l i = let before = (in_order 0 2147483647 leaves (leaves_ascend good at) l i).before in omega arith

  -- of each leaf all is left where a part is
  whole : (l n : Leaf) → IsOneOf leaves l → IsPart (before_first first) l n → is_whole l n ≡ true
  whole l n i part =
      let p = part_is first l n (small l i) part in
      let reaches = p.reaches in
      let ends : l.last < first = elim (uncut l i) [ inl lt ↦ lt | inr low ↦ absurd (omega arith) ] in
      let last : n.last ≡ l.last = omega (arith, p.last_is, ends) in
      let count : records_of_leaf n ≡ records_of_leaf l = rw (p.first_is, last) refl in
      eq-eqb (records_of_leaf n) (records_of_leaf l) count

  there : (l n : Leaf) → IsOneOf leaves l → IsOneOf lefts n → StaysWhole v (before_first first) acts l n
  there l n i j = of_each (StaysWhole v (before_first first) acts l) lefts n (of_each (λ o. Each (StaysWhole v (before_first first) acts o) lefts) leaves l (e.cuts v).stay i) j

  placed : (l n : Leaf) → IsOneOf leaves l → IsOneOf lefts n → IsPlaced b now v own'.vdr (before_first first) acts l n
  placed l n i j part =
      let w = whole l n i part in
      let s = there l n i j part (rw w refl) in
      rw w (s.0, s.2)

  all_placed : Each (λ l. Each (IsPlaced b now v own'.vdr (before_first first) acts l) lefts) leaves
  all_placed = each_of (λ l. Each (IsPlaced b now v own'.vdr (before_first first) acts l) lefts) leaves (λ l i. each_of (IsPlaced b now v own'.vdr (before_first first) acts l) lefts (λ n j. placed l n i j))

  abbrev Written : ℕ → Leaf → Leaf → Type 0
  Written m l n = IsPart (before_first m) l n → is_whole l n ≡ false → BlockWritten b now v.rle own'.vdr acts n (take ((n.last + 1 - n.first) * size) (plain_bytes b own'.vdr l))

  all_written : Each (λ l. Each (Written first l) lefts) leaves
  all_written = each_of (λ l. Each (Written first l) lefts) leaves (λ l i. each_of (Written first l) lefts (λ n j part some. absurd (true≢false (sym (whole l n i part) ∙ some))))

  cuts_past : first ≡ extent (max_rec_at b own.vdr) → (next : ℕ) → CutsPast (found_in b kind before own) (stage b own [] next) (stage now own' acts next)
  cuts_past is next = record {
    cuts = (
      subst (λ (m : ℕ). CutsIndex v (before_first m) own.index (cut_nodes false (before_first m) own.index) own'.index acts) is (e.cuts v),
      subst (λ (m : ℕ). Each (λ l. Each (IsPlaced b now v own'.vdr (before_first m) acts l) lefts) leaves) is all_placed,
    );
    takes_first = takes_first;
    written = subst (λ (m : ℕ). Each (λ l. Each (Written m l) lefts) leaves) is all_written;
    goes = subst (λ (m : ℕ). Goes (found_in b kind before own) (stage b own [] next) (stage now own' acts next) (λ r. nat_le m r.last)) is (e.goes next);
    next_is = refl;
  }

  stored : StoredBefore b now own own' first
  stored = cut_stored good at uncut e

  nothing : taken_bytes acts ≡ 0
  nothing = ap (λ (takes : List (ℕ × ℕ)). sum (map (λ (take : ℕ × ℕ). take.1) takes)) gives

  pub past_at_once : PackedPast b now kind before own after first
  past_at_once = record {
    own' = own';
    acts = acts;
    goes_on = e.goes_on;
    steps = cuts_past;
    blocks = each_of (λ l. l.last < first → Stays b now l.place []) leaves (λ l i lt. of_each (λ l. l.first < first → Stays b now l.place []) leaves l e.blocks i (begins l i lt));
    stored = stored;
    variable_is = variable_cut good at e.goes_on e.max_rec_is stored;
    content_is = content_cut good at e.goes_on e.max_rec_is stored;
    max_rec_is = e.max_rec_is;
    r_max_rec_is = e.r_max_rec_is;
    fits = λ room within. omega (arith, nothing);
    longer = omega (arith, e.long);
  }
    where
      begins : (l : Leaf) → IsOneOf leaves l → l.last < first → l.first < first
      begins l i lt = let o = (in_order 0 2147483647 leaves (leaves_ascend good at) l i).ordered in omega (arith, o, lt)
