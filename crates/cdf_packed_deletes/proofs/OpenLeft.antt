-- One cut of a packed variable after which later records keep their numbers: what is left of it, how the image goes on, and what is stored as each record.
use Rattle.cdf_edits.proofs.Common.{Act, Found, Good, Kind, Leaf, List, None, Option, Some, Stays, VariableShape, [], ap, append-nil, append_assoc, arith, cases_lt, false, flat_map, image_limit, inl, inr, leaves_of, length, nat_lt, record_bytes, record_number_limit, refl, shared, stored_bytes, subst, suc, sym, ℕ, ◌++◌, ◌<◌, ◌∙◌, ◌∷◌, ◌≡◌, ◌≤◌, ◌⊎◌}
use Rattle.cdf_edits.proofs.Edits.Common.{StandsAmong, stays_then}
use Rattle.cdf_edits.proofs.Edits.LeafPieces.{IsOneOf}
use Rattle.cdf_edits.proofs.Edits.PlainLeaves.{leaves_ascend}
use Rattle.cdf_edits.specs.Commands.Deleting.{untouched}
use Rattle.cdf_edits.specs.Commands.PutSteps.{Stage}
use Rattle.cdf_packed_cuts.proofs.TwoSteps.{apart_ranges}
use Rattle.cdf_packed_deletes.proofs.KeepAlong.{CprStays, cpr_then}
use Rattle.cdf_packed_deletes.proofs.LeafKinds.{IsApart, IsBoth, IsInside}
use Rattle.cdf_packed_deletes.proofs.LeftStored.{stored_in}
use Rattle.cdf_packed_deletes.proofs.OpenAlong.{CameFrom, OpenReached, OpenSo, Remains, open_along}
use Rattle.cdf_packed_deletes.proofs.OpenCut.{cut_block, from_cut, stored_cut, stored_gone, to_cut}
use Rattle.cdf_packed_deletes.proofs.OpenKinds.{both_found, both_none}
use Rattle.cdf_packed_deletes.proofs.OpenSplit.{from_split, new_first, new_last, split_block, stored_beside, stored_split, to_split}
use Rattle.cdf_packed_deletes.specs.Opening.{PackedOpened, opened_acts, split_stage}
use Rattle.cdf_packed_deletes.specs.Steps.{CutsWhole, SplitLast, with_both}
use Rattle.cdf_put_steps.proofs.GoesAlong.{goes_along}
use Rattle.cdf_put_steps.specs.Along.{GoAlong}
use Rattle.cdf_puts.specs.Going.{GoesOn, found_in}

-- the acts of several images
pub acts_both : (xs ys : List Stage) → flat_map (λ (stage : Stage). stage.acts) (xs ++ ys) ≡ flat_map (λ (stage : Stage). stage.acts) xs ++ flat_map (λ (stage : Stage). stage.acts) ys
acts_both [] ys = refl
acts_both (x ∷ xs) ys = ap (λ (zs : List Act). x.acts ++ zs) (acts_both xs ys) ∙ sym (append_assoc x.acts (flat_map (λ (stage : Stage). stage.acts) xs) (flat_map (λ (stage : Stage). stage.acts) ys))

-- after the cut: of these numbers and no others records are gone
pub record OpenedSo (b : List ℕ) (kind : Kind) (before : List VariableShape) (own : VariableShape) (after : List VariableShape) (first last : ℕ) (end : Stage) (acts : List Act) : Type 0 where
  pub goes : GoesOn b end.image kind before own end.own after acts
  pub cpr : CprStays b own end
  pub blocks : (l : Leaf) → IsOneOf (leaves_of own.index) l → IsApart first last l → IsOneOf (leaves_of end.own.index) l × Stays b end.image l.place []
  pub came : (m : Leaf) → IsOneOf (leaves_of end.own.index) m → CameFrom own m
  pub outside : (k : ℕ) → (k < first) ⊎ (last < k) → stored_in b own end k ≡ stored_bytes b own.vdr (record_bytes b own.vdr) (leaves_of own.index) k
  pub inside : (k : ℕ) → first ≤ k → k ≤ last → stored_in b own end k ≡ None

-- before anything is split off
pub record CutSo (b : List ℕ) (kind : Kind) (before : List VariableShape) (own : VariableShape) (after : List VariableShape) (first last : ℕ) (left : Stage) (acts : List Act) : Type 0 where
  pub goes : GoesOn b left.image kind before own left.own after acts
  pub cpr : CprStays b own left
  pub blocks : (l : Leaf) → IsOneOf (leaves_of own.index) l → IsApart first last l → IsOneOf (leaves_of left.own.index) l × Stays b left.image l.place []
  pub came : (m : Leaf) → IsOneOf (leaves_of left.own.index) m → CameFrom own m
  pub stored : (k : ℕ) → Remains own first last k → stored_in b own left k ≡ stored_bytes b own.vdr (record_bytes b own.vdr) (leaves_of own.index) k
  pub gone : (k : ℕ) → first ≤ k → k ≤ last → stored_in b own left k ≡ None

module _ {b : List ℕ} {kind : Kind} {before : List VariableShape} {own : VariableShape} {after : List VariableShape} (good : Good b) (at : StandsAmong b kind before own after) (first last : ℕ) (order : first ≤ suc last) where
  abbrev leaves : List Leaf
  leaves = leaves_of own.index

  module _ (kept left : Stage) (acts : List Act) (so : OpenSo b kind before own after first last kept acts []) (cuts : CutsWhole (found_in b kind before own) false first last kept left) (one : GoesOn kept.image left.image kind before kept.own left.own after left.acts) where
    whole : (m : Leaf) → IsOneOf (leaves_of kept.own.index) m → IsApart first last m ⊎ IsInside first last m
    whole m i = elim (so.whole m i) [ inl k ↦ k | inr none ↦ absurd none ]

    outside_of : (k : ℕ) → Remains own first last k → (k < first) ⊎ (last < k)
    outside_of k (inl lt) = inl lt
    outside_of k (inr p) = inr p.0

    cut_blocks : (l : Leaf) → IsOneOf leaves l → IsApart first last l → IsOneOf (leaves_of left.own.index) l × Stays b left.image l.place []
    cut_blocks l i a =
        let was = so.kept.blocks l i a in
        let now = cut_block first last order kept left acts so.kept.goes cuts one whole l was.0 a in
        (to_cut first last order kept left acts so.kept.goes cuts one whole l was.0 a, stays_then b kept.image left.image l.place [] [] [] was.1 now (λ k out. (tt, tt)))

    pub cut_so : CutSo b kind before own after first last left (acts ++ left.acts)
    cut_so = record {
      goes = goes_along good at so.kept.goes one;
      cpr = cpr_then kept left acts so.kept.goes so.kept.cpr (λ r. nat_lt 0 (shared first last r)) cuts.goes.keeps one;
      blocks = cut_blocks;
      came = λ m i. so.came m (from_cut first last order kept left acts so.kept.goes cuts one whole m i).0;
      stored = λ k r. stored_cut first last order kept left acts so.kept.goes cuts one whole k (outside_of k r) ∙ so.stored k r;
      gone = λ k low high. stored_gone first last order kept left acts so.kept.goes cuts one whole k low high;
    }

  -- ---- what is split off

  module _ (left : Stage) (acts : List Act) (x : CutSo b kind before own after first last left acts) where
    -- no leaf has records on both sides
    remains_none : with_both first last leaves ≡ None → (k : ℕ) → (k < first) ⊎ (last < k) → Remains own first last k
    remains_none e k (inl lt) = inl lt
    remains_none e k (inr lt) = inr (lt, λ l i g. elim (cases_lt l.last k) [ inl y ↦ y | inr le ↦ absurd (both_none first last order leaves e l i (g.0, omega (arith, lt, le))) ])

    none_split : with_both first last leaves ≡ None → OpenedSo b kind before own after first last left acts
    none_split e = record { goes = x.goes; cpr = x.cpr; blocks = x.blocks; came = x.came; outside = λ k out. x.stored k (remains_none e k out); inside = x.gone }

    module _ (end : Stage) (old : Leaf) (e : with_both first last (leaves_of own.index) ≡ Some old) (splits : SplitLast (found_in b kind before own) first last b own (Some old) left end) (one : GoesOn left.image end.image kind before left.own end.own after end.acts) where
      there : IsOneOf leaves old
      there = (both_found first last order leaves old e).0

      both : IsBoth first last old
      both = (both_found first last order leaves old e).1

      -- another leaf has none behind those that go
      remains : (k : ℕ) → (k < first) ⊎ (last < k) → (k ≤ last) ⊎ (old.last < k) → Remains own first last k
      remains k (inl lt) side = inl lt
      remains k (inr lt) side = inr (
        lt,
        λ l i g. elim (apart_ranges 0 (suc record_number_limit) leaves (leaves_ascend good at) l old i there) [
          | inl q ↦ elim side [ inl le ↦ absurd (omega (arith, le, lt)) | inr out ↦ subst (λ (z : Leaf). z.last < k) (sym q) out ]
          | inr apart ↦ elim apart [ inl y ↦ absurd (omega (arith, y, g.1, both.0)) | inr y ↦ absurd (omega (arith, y, g.0, both.1, order)) ]
        ],
      )

      split_blocks : (l : Leaf) → IsOneOf leaves l → IsApart first last l → IsOneOf (leaves_of end.own.index) l × Stays b end.image l.place []
      split_blocks l i a =
          let was = x.blocks l i a in
          let now = split_block good at first last left end acts x.goes old there both splits one order l was.0 in
          (to_split good at first last left end acts x.goes old there both splits one order l (inr was.0), stays_then b left.image end.image l.place [] [] [] was.1 now (λ k out. (tt, tt)))

      split_came : (m : Leaf) → IsOneOf (leaves_of end.own.index) m → CameFrom own m
      split_came m i = elim (from_split good at first last left end acts x.goes old there both splits one order m i) [
        | inl q ↦
            let f = new_first good at first last left end acts x.goes old there both splits one order in
            let t = new_last good at first last left end acts x.goes old there both splits one order in
            subst (CameFrom own) (sym q) (record { old = old; there = there; begins = omega (arith, f, both.0, order); ends = omega (arith, t) })
        | inr j ↦ x.came m j
      ]

      split_outside : (k : ℕ) → (k < first) ⊎ (last < k) → stored_in b own end k ≡ stored_bytes b own.vdr (record_bytes b own.vdr) leaves k
      split_outside k out = elim (cases_lt last k) [
        | inr le ↦ stored_beside good at first last left end acts x.goes old there both splits one order k (inl le) ∙ x.stored k (remains k out (inl le))
        | inl lt ↦ elim (cases_lt old.last k) [
          | inl past ↦ stored_beside good at first last left end acts x.goes old there both splits one order k (inr past) ∙ x.stored k (remains k out (inr past))
          | inr upto ↦ stored_split good at first last left end acts x.goes old there both splits one order k lt upto
        ]
      ]

      some_split : OpenedSo b kind before own after first last end (acts ++ end.acts)
      some_split = record {
        goes = goes_along good at x.goes one;
        cpr = cpr_then left end acts x.goes x.cpr (λ r. false) splits.goes.keeps one;
        blocks = split_blocks;
        came = split_came;
        outside = split_outside;
        inside = λ k low high. stored_beside good at first last left end acts x.goes old there both splits one order k (inl high) ∙ x.gone k low high;
      }

  -- ---- in any case

  module _ {mid : List ℕ} (short : length b ≤ image_limit) (c : PackedOpened b mid kind before own after first last) where
    by : (o : Option Leaf) → with_both first last leaves ≡ o → SplitLast (found_in b kind before own) first last b own o c.left c.end → OpenReached good at first last order c.kept [] c.stages (c.left ∷ split_stage o c.end)
        → OpenedSo b kind before own after first last c.end (flat_map (λ (stage : Stage). stage.acts) (c.stages ++ c.left ∷ split_stage o c.end))
    by None e s r =
        let cut = cut_so c.kept c.left (flat_map (λ (stage : Stage). stage.acts) c.stages) r.so c.cuts r.go.0 in
        let is : flat_map (λ (stage : Stage). stage.acts) (c.stages ++ c.left ∷ []) ≡ flat_map (λ (stage : Stage). stage.acts) c.stages ++ c.left.acts = acts_both c.stages (c.left ∷ []) ∙ ap (λ (a : List Act). flat_map (λ (stage : Stage). stage.acts) c.stages ++ a) (append-nil c.left.acts) in
        subst (λ (a : List Act). OpenedSo b kind before own after first last c.end a) (sym is) (subst (λ (z : Stage). OpenedSo b kind before own after first last z (flat_map (λ (stage : Stage). stage.acts) c.stages ++ c.left.acts)) s (none_split c.left (flat_map (λ (stage : Stage). stage.acts) c.stages ++ c.left.acts) cut e))
    by (Some old) e s r =
        let cut = cut_so c.kept c.left (flat_map (λ (stage : Stage). stage.acts) c.stages) r.so c.cuts r.go.0 in
        let is : flat_map (λ (stage : Stage). stage.acts) (c.stages ++ c.left ∷ c.end ∷ []) ≡ (flat_map (λ (stage : Stage). stage.acts) c.stages ++ c.left.acts) ++ c.end.acts =
        acts_both c.stages (c.left ∷ c.end ∷ []) ∙ ap (λ (a : List Act). flat_map (λ (stage : Stage). stage.acts) c.stages ++ (c.left.acts ++ a)) (append-nil c.end.acts) ∙ sym (append_assoc (flat_map (λ (stage : Stage). stage.acts) c.stages) c.left.acts c.end.acts) in
        subst (λ (a : List Act). OpenedSo b kind before own after first last c.end a) (sym is) (some_split c.left (flat_map (λ (stage : Stage). stage.acts) c.stages ++ c.left.acts) cut c.end old e s r.go.1.0)

    at_end : OpenedSo b kind before own after first last c.end (opened_acts c)
    at_end = by (with_both first last leaves) refl c.splits (open_along good at first last order short c.stages c.kept (c.left ∷ split_stage (with_both first last leaves) c.end) c.keep c.go)

    pub opened_so : OpenedSo b kind before own after first last (record { image = mid; own = c.end.own; acts = c.end.acts; next = c.end.next }) (opened_acts c)
    opened_so = subst (λ (z : List ℕ). OpenedSo b kind before own after first last (record { image = z; own = c.end.own; acts = c.end.acts; next = c.end.next }) (opened_acts c)) c.now_is at_end

-- an image on the way is no shorter than the first
longer_by : (b : List ℕ) (own : VariableShape) (kind : Kind) (before after : List VariableShape) (found : Found) (first last : ℕ) (from : Stage) (stages : List Stage) (o : Option Leaf) (left end : Stage) → SplitLast found first last b own o left end → GoAlong kind before after from (stages ++ left ∷ split_stage o end) → length from.image ≤ length end.image
longer_by b own kind before after found first last from [] None left end s go = subst (λ (z : Stage). length from.image ≤ length z.image) s go.0.file.longer
longer_by b own kind before after found first last from [] (Some old) left end s go = omega (arith, go.0.file.longer, go.1.0.file.longer)
longer_by b own kind before after found first last from (next ∷ stages) o left end s go = omega (arith, go.0.file.longer, longer_by b own kind before after found first last next stages o left end s go.1)

pub opened_longer : {b mid : List ℕ} {kind : Kind} {before : List VariableShape} {own : VariableShape} {after : List VariableShape} {first last : ℕ} → PackedOpened b mid kind before own after first last → length b ≤ length mid
opened_longer {b = b} {kind = kind} {before = before} {own = own} {after = after} {first = first} {last = last} c = subst (λ (z : List ℕ). length b ≤ length z) c.now_is (longer_by b own kind before after (found_in b kind before own) first last (untouched b own) c.stages (with_both first last (leaves_of own.index)) c.left c.end c.splits c.go)
