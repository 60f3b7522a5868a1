-- Some leaves keep some of their records each, one after the other, and later records keep their numbers: what is stored on the way, and which leaves there are.
use Rattle.cdf_edits.proofs.Common.{Act, Bool, Good, Kind, Leaf, List, VariableShape, [], ap, append-nil, append_assoc, arith, either, false, filter, flat_map, image_limit, inl, inr, leaves_of, length, record_bytes, record_number_limit, refl, stored_bytes, subst, suc, sym, true, ℕ, ◌++◌, ◌<◌, ◌∙◌, ◌∷◌, ◌≡◌, ◌≤◌, ◌⊎◌}
use Rattle.cdf_edits.proofs.Edits.Common.{StandsAmong}
use Rattle.cdf_edits.proofs.Edits.LeafPieces.{IsOneOf, in_order}
use Rattle.cdf_edits.proofs.Edits.PlainLeaves.{leaves_ascend}
use Rattle.cdf_edits.specs.Commands.Deleting.{untouched}
use Rattle.cdf_edits.specs.Commands.PutSteps.{Stage}
use Rattle.cdf_packed_deletes.proofs.KeepAlong.{KeptSo, kept_first, kept_then}
use Rattle.cdf_packed_deletes.proofs.KeepStep.{back_first, back_last, from_new, front_first, front_last, stored_back, stored_front}
use Rattle.cdf_packed_deletes.proofs.LeafKinds.{IsApart, IsBack, IsBegun, IsInside, IsRanged}
use Rattle.cdf_packed_deletes.proofs.LeftStored.{in_kept, kept_says, stored_in}
use Rattle.cdf_packed_deletes.proofs.OpenKinds.{open_back, open_front, open_kept, open_meets, open_other}
use Rattle.cdf_packed_deletes.specs.Opening.{keeping_open}
use Rattle.cdf_packed_deletes.specs.Steps.{KeepSome, KeepsSome, keeps_some}
use Rattle.cdf_put_steps.specs.Along.{GoAlong}
use Rattle.cdf_puts.specs.Going.{GoesOn, found_in}

pub in_filtered : (p : Leaf → Bool) (xs : List Leaf) (l : Leaf) → IsOneOf (filter p xs) l → IsOneOf xs l
in_filtered p [] l i = absurd i
in_filtered p (x ∷ xs) l i = elim (either (p x)) [
  | inl t ↦ (let j : IsOneOf (x ∷ filter p xs) l = rw t at i in elim j [ inl q ↦ inl q | inr k ↦ inr (in_filtered p xs l k) ])
  | inr f ↦ (let j : IsOneOf (filter p xs) l = rw f at i in inr (in_filtered p xs l j))
]

-- the records of a leaf are among those of one that was there
pub record CameFrom (own : VariableShape) (m : Leaf) : Type 0 where
  pub old : Leaf
  pub there : IsOneOf (leaves_of own.index) old
  pub begins : old.first ≤ m.first
  pub ends : m.last ≤ old.last

-- a record that does not go, and that does not stand behind those that go in a leaf that has others before them
abbrev pub Remains : VariableShape → ℕ → ℕ → ℕ → Type 0
Remains own first last j = (j < first) ⊎ ((last < j) × ((l : Leaf) → IsOneOf (leaves_of own.index) l → IsBegun first last l → l.last < j))

-- an image on the way to which these leaves still keep some
pub record OpenSo (b : List ℕ) (kind : Kind) (before : List VariableShape) (own : VariableShape) (after : List VariableShape) (first last : ℕ) (stage : Stage) (acts : List Act) (todo : List Leaf) : Type 0 where
  pub kept : KeptSo b kind before own after first last stage acts
  pub whole : (m : Leaf) → IsOneOf (leaves_of stage.own.index) m → (IsApart first last m ⊎ IsInside first last m) ⊎ IsOneOf todo m
  pub came : (m : Leaf) → IsOneOf (leaves_of stage.own.index) m → CameFrom own m
  pub stored : (j : ℕ) → Remains own first last j → stored_in b own stage j ≡ stored_bytes b own.vdr (record_bytes b own.vdr) (leaves_of own.index) j

module _ {b : List ℕ} {kind : Kind} {before : List VariableShape} {own : VariableShape} {after : List VariableShape} (good : Good b) (at : StandsAmong b kind before own after) (first last : ℕ) (order : first ≤ suc last) where
  abbrev leaves : List Leaf
  leaves = leaves_of own.index

  own_ranged : (l : Leaf) → IsOneOf leaves l → IsRanged l
  own_ranged l i = let o = in_order 0 (suc record_number_limit) leaves (leaves_ascend good at) l i in record { ordered = o.ordered; small = omega (arith, o.before) }

  whole_first : (m : Leaf) → IsOneOf leaves m → (IsApart first last m ⊎ IsInside first last m) ⊎ IsOneOf (keeping_open first last leaves) m
  whole_first m i = elim (either (keeps_some false first last m)) [
    | inl t ↦ inr (in_kept (λ (l : Leaf). keeps_some false first last l) leaves m i t)
    | inr f ↦ inl (open_other first last order m (own_ranged m i) f)
  ]

  pub open_first : length b ≤ image_limit → OpenSo b kind before own after first last (untouched b own) [] (keeping_open first last (leaves_of own.index))
  open_first short = record {
    kept = kept_first good at first last short;
    whole = whole_first;
    came = λ m i. record { old = m; there = i; begins = omega arith; ends = omega arith };
    stored = λ j r. refl;
  }

  module _ (from to : Stage) (acts : List Act) (old : Leaf) (rest : List Leaf) (x : OpenSo b kind before own after first last from acts (old ∷ rest)) (there : IsOneOf (leaves_of own.index) old) (some : keeps_some false first last old ≡ true) (step : KeepsSome (found_in b kind before own) false first last old from to) (one : GoesOn from.image to.image kind before from.own to.own after to.acts) where
    r : IsRanged old
    r = own_ranged old there

    side : IsBegun first last old ⊎ IsBack first last old
    side = open_kept first last order old r some

    within : (old.first ≤ step.new.first) × (step.new.last ≤ old.last)
    within = elim side [
      | inl k ↦
          let f = front_first good at first last from to acts x.kept.goes old step one k (open_front first last order old k) in
          let t = front_last good at first last from to acts x.kept.goes old step one k (open_front first last order old k) in
          (omega (arith, f), omega (arith, t, k.1))
      | inr k ↦
          let f = back_first good at first last from to acts x.kept.goes old step one k (open_back first last order old k) in
          let t = back_last good at first last from to acts x.kept.goes old step one k (open_back first last order old k) in
          (omega (arith, f, k.1), omega (arith, t))
    ]

    new_apart : IsApart first last step.new
    new_apart = elim side [
      | inl k ↦ (let t = front_last good at first last from to acts x.kept.goes old step one k (open_front first last order old k) in inl (omega (arith, t)))
      | inr k ↦ (let f = back_first good at first last from to acts x.kept.goes old step one k (open_back first last order old k) in inr (omega (arith, f)))
    ]

    whole_then : (m : Leaf) → IsOneOf (leaves_of to.own.index) m → (IsApart first last m ⊎ IsInside first last m) ⊎ IsOneOf rest m
    whole_then m j = elim (from_new good at first last from to acts x.kept.goes old step one m j) [
      | inl q ↦ inl (inl (subst (IsApart first last) (sym q) new_apart))
      | inr other ↦ elim (x.whole m other.0) [
        | inl k ↦ inl k
        | inr t ↦ elim t [ inl q ↦ absurd (other.1 (ap (λ (z : Leaf). z.first) (sym q))) | inr i ↦ inr i ]
      ]
    ]

    came_then : (m : Leaf) → IsOneOf (leaves_of to.own.index) m → CameFrom own m
    came_then m j = elim (from_new good at first last from to acts x.kept.goes old step one m j) [
      | inl q ↦ subst (CameFrom own) (sym q) (record { old = old; there = there; begins = within.0; ends = within.1 })
      | inr other ↦ x.came m other.0
    ]

    stored_then : (j : ℕ) → Remains own first last j → stored_in b own to j ≡ stored_bytes b own.vdr (record_bytes b own.vdr) (leaves_of own.index) j
    stored_then j rem = elim side [
      | inl k ↦ stored_front good at first last from to acts x.kept.goes old step one k (open_front first last order old k) j (elim rem [ inl lt ↦ inl lt | inr p ↦ inr (p.1 old there k) ]) ∙ x.stored j rem
      | inr k ↦ stored_back good at first last from to acts x.kept.goes old step one k (open_back first last order old k) j (elim rem [ inl lt ↦ inl lt | inr p ↦ inr p.0 ]) ∙ x.stored j rem
    ]

    pub open_then : OpenSo b kind before own after first last to (acts ++ to.acts) rest
    open_then = record {
      kept = kept_then good at first last from to acts x.kept old (open_meets first last order old r some) step one;
      whole = whole_then;
      came = came_then;
      stored = stored_then;
    }

  -- after all of these, and how it goes on from there
  pub record OpenReached (kept : Stage) (acts : List Act) (stages more : List Stage) : Type 0 where
    pub so : OpenSo b kind before own after first last kept (acts ++ flat_map (λ (stage : Stage). stage.acts) stages) []
    pub go : GoAlong kind before after kept more

  reach : (todo : List Leaf) (from : Stage) (stages : List Stage) (kept : Stage) (more : List Stage) (acts : List Act) → OpenSo b kind before own after first last from acts todo → ((l : Leaf) → IsOneOf todo l → IsOneOf leaves l × (keeps_some false first last l ≡ true))
      → KeepSome (found_in b kind before own) false first last todo from stages kept → GoAlong kind before after from (stages ++ more) → OpenReached kept acts stages more
  reach [] from [] kept more acts x some e go = record {
    so = subst (λ (s : Stage). OpenSo b kind before own after first last s (acts ++ []) []) e (subst (λ (a : List Act). OpenSo b kind before own after first last from a []) (sym (append-nil acts)) x);
    go = subst (λ (s : Stage). GoAlong kind before after s more) e go;
  }
  reach [] from (next ∷ stages) kept more acts x some e go = absurd e
  reach (old ∷ todo) from [] kept more acts x some e go = absurd e
  reach (old ∷ todo) from (next ∷ stages) kept more acts x some e go =
      let is = some old (inl refl) in
      let r = reach todo next stages kept more (acts ++ next.acts) (open_then from next acts old todo x is.0 is.1 e.0 go.0) (λ l i. some l (inr i)) e.1 go.1 in
      record {
        so = subst (λ (a : List Act). OpenSo b kind before own after first last kept a []) (append_assoc acts next.acts (flat_map (λ (stage : Stage). stage.acts) stages)) r.so;
        go = r.go;
      }

  pub open_along : length b ≤ image_limit → (stages : List Stage) (kept : Stage) (more : List Stage) → KeepSome (found_in b kind before own) false first last (keeping_open first last (leaves_of own.index)) (untouched b own) stages kept → GoAlong kind before after (untouched b own) (stages ++ more) → OpenReached kept [] stages more
  open_along short stages kept more e go = reach (keeping_open first last leaves) (untouched b own) stages kept more [] (open_first short) (λ l i. (in_filtered keeps leaves l i, kept_says keeps leaves l i)) e go
    where
      keeps : Leaf → Bool
      keeps l = keeps_some false first last l
