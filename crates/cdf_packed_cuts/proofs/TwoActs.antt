-- A leaf of a packed variable is given its records before a first one alone, and then all from this one on are cut: what both steps take and free.
use Rattle.std.proofs.Common.{Bool, List, [], ap, arith, drop, false, inl, inr, length, map, refl, subst, sym, true, ℕ, ◌-◌, ◌<◌, ◌++◌, ◌==◌, ◌∙◌, ◌∷◌, ◌≡◌, ◌≢◌, ◌≤◌, ◌||◌}
use Rattle.std.specs.Prelude.{min}
use Rattle.cdf_edits.proofs.Common.{Act, Each, Gave, Kind, Leaf, Took, Variable, VariableShape, eq-eqb, is_in, is_in-false, leaves_of, ne_eqb, range, records_of_leaf, size_at, taken, variable_of}
use Rattle.cdf_edits.proofs.Edits.ActsThen.{taken-gave}
use Rattle.cdf_edits.proofs.Edits.LeafPieces.{IsOneOf, in_order, of_each}
use Rattle.cdf_edits.proofs.Edits.PlainLeaves.{leaves_ascend}
use Rattle.cdf_edits.specs.Index.Cut.{IsPart, StaysWhole}
use Rattle.cdf_edits.specs.Index.Written.{block_need, is_given_at, is_taken_at, stays_put}
use Rattle.cdf_edits.specs.Space.Acts.{none_twice}
use Rattle.cdf_cuts.specs.Past.{before_first, cut_off, past_acts, past_span}
use Rattle.cdf_cuts.specs.Planning.{freed_of, plan_of}
use Rattle.cdf_packed_cuts.proofs.TwoSteps.{TwoSteps, keeps_before, whole_left}

-- ---- acts of which the later ones take nothing

pub taken_alone : (xs ys : List Act) → taken ys ≡ [] → taken (xs ++ ys) ≡ taken xs
taken_alone [] ys e = e
taken_alone (Took p n ∷ xs) ys e = ap (λ (ts : List (ℕ × ℕ)). (p, n) ∷ ts) (taken_alone xs ys e)
taken_alone (Gave p n ∷ xs) ys e = taken_alone xs ys e

or_three : (p q r : Bool) → (p || (q || r)) ≡ ((p || q) || r)
or_three true q r = refl
or_three false q r = refl

pub given_both : (xs ys : List Act) (m : ℕ) → is_given_at (xs ++ ys) m ≡ (is_given_at xs m || is_given_at ys m)
given_both [] ys m = refl
given_both (Took p n ∷ xs) ys m = given_both xs ys m
given_both (Gave p n ∷ xs) ys m = ap (λ (q : Bool). (p == m) || q) (given_both xs ys m) ∙ or_three (p == m) (is_given_at xs m) (is_given_at ys m)

-- none of them frees what was taken before
once_after : (n : ℕ) (ys : List Act) → taken ys ≡ [] → is_given_at ys n ≡ false → none_twice (n ∷ []) ys ≡ true
once_after n [] e none = refl
once_after n (Took p s ∷ ys) e none = absurd cc
once_after n (Gave p s ∷ ys) e none = grind (arith, none, once_after n ys e)

module _ {b mid now : List ℕ} {kind : Kind} {before : List VariableShape} {own : VariableShape} {after : List VariableShape} {first : ℕ} {old new : Leaf} {plain : List ℕ} (t : TwoSteps b mid now kind before own after first old new plain) where
  abbrev pub first_acts : List Act
  first_acts = t.short.acts

  abbrev pub next_acts : List Act
  next_acts = past_acts mid t.short.own' first

  abbrev pub acts : List Act
  acts = first_acts ++ next_acts

  abbrev pub mids : List Leaf
  mids = leaves_of t.short.own'.index

  abbrev pub lasts : List Leaf
  lasts = leaves_of (cut_off t.short.own' first).index

  abbrev pub stays : Bool
  stays = stays_put b mid true own.vdr old new

  abbrev pub moved_acts : List Act
  moved_acts = Took new.place (block_need mid own.vdr new) ∷ Gave old.place (size_at b old.place) ∷ []

  pub if_stays : stays ≡ true → first_acts ≡ []
  if_stays e = t.short.acts_are ∙ rw e refl

  pub if_moved : stays ≡ false → first_acts ≡ moved_acts
  if_moved e = t.short.acts_are ∙ rw e refl

  by_stay : (P : List Act → Type 0) → (stays ≡ true → P []) → (stays ≡ false → P moved_acts) → P first_acts
  by_stay P p q = go stays refl
    where
      go : (s : Bool) → stays ≡ s → P first_acts
      go true e = subst P (sym (if_stays e)) (p e)
      go false e = subst P (sym (if_moved e)) (q e)

  -- the cut takes nothing
  pub gives : taken next_acts ≡ []
  gives = taken-gave mid (freed_of (plan_of (past_span first) 0 t.short.own'.index))

  pub taken_is : taken acts ≡ taken first_acts
  taken_is = taken_alone first_acts next_acts gives

  pub taken_at : (m : ℕ) → is_taken_at acts m ≡ is_taken_at first_acts m
  taken_at m = ap (λ (ts : List (ℕ × ℕ)). is_in m (map (λ (take : ℕ × ℕ). take.0) ts)) taken_is

  pub none_next : (m : ℕ) → is_taken_at next_acts m ≡ false
  none_next m = ap (λ (ts : List (ℕ × ℕ)). is_in m (map (λ (take : ℕ × ℕ). take.0) ts)) gives

  pub first_alone : (m : ℕ) → m ≢ new.place → is_taken_at first_acts m ≡ false
  first_alone m ne = by_stay (λ (xs : List Act). is_taken_at xs m ≡ false) (λ e. refl) (λ e. is_in-false m (new.place ∷ []) (λ k. elim k [ inl q ↦ ne q | inr none ↦ none ]))

  pub taken_apart : (m : ℕ) → m ≢ new.place → is_taken_at acts m ≡ false
  taken_apart m ne = taken_at m ∙ first_alone m ne

  pub takes_first : taken (drop (length (taken acts)) acts) ≡ []
  takes_first = by_stay (λ (xs : List Act). taken (drop (length (taken (xs ++ next_acts))) (xs ++ next_acts)) ≡ []) (λ e. ap (λ (n : ℕ). taken (drop n next_acts)) (ap length gives) ∙ gives) (λ e. ap (λ (ts : List (ℕ × ℕ)). taken (drop (length ((new.place, block_need mid own.vdr new) ∷ ts)) (moved_acts ++ next_acts))) gives ∙ gives)

  -- ---- what is freed

  pub first_given : (m : ℕ) → m ≢ old.place → is_given_at first_acts m ≡ false
  first_given m ne = by_stay (λ (xs : List Act). is_given_at xs m ≡ false) (λ e. refl) (λ e. rw (ne_eqb old.place m (λ q. ne (sym q))) refl)

  pub old_given : stays ≡ false → is_given_at acts old.place ≡ true
  old_given e = given_both first_acts next_acts old.place ∙ ap (λ (xs : List Act). is_given_at xs old.place || is_given_at next_acts old.place) (if_moved e) ∙ rw (eq-eqb old.place old.place refl) refl

  pub given_apart : (m : ℕ) → m ≢ old.place → is_given_at acts m ≡ is_given_at next_acts m
  given_apart m ne = given_both first_acts next_acts m ∙ ap (λ (p : Bool). p || is_given_at next_acts m) (first_given m ne)

  pub given_stays : stays ≡ true → (m : ℕ) → is_given_at acts m ≡ is_given_at next_acts m
  given_stays e m = given_both first_acts next_acts m ∙ ap (λ (xs : List Act). is_given_at xs m || is_given_at next_acts m) (if_stays e)

  -- ---- the leaves that are left

  pub mid_small : (m : Leaf) → IsOneOf mids m → m.last ≤ 2147483646
  mid_small m j = let before = (in_order 0 2147483647 mids (leaves_ascend t.short.goes_on.good t.short.goes_on.among) m j).before in omega arith

  -- a leaf that ends before the first record that goes is left, and its block is not freed
  pub mid_left : (m : Leaf) → IsOneOf mids m → m.last < first → IsOneOf lasts m
  mid_left m j lt = whole_left first t.short.goes_on.good t.short.goes_on.among m j lt

  whole_part : (m : Leaf) → m.last ≤ 2147483646 → m.first ≤ m.last → m.last < first → IsPart (before_first first) m m
  whole_part m le ordered lt =
      let ends : min m.last (first - 1) ≡ m.last = omega (arith, lt) in
      keeps_before first m.first m.last le (omega (arith, ordered, lt)) ∙ ap (λ (l : ℕ). range m.first l ∷ []) ends

  pub mid_kept : (m : Leaf) → IsOneOf mids m → m.last < first → is_given_at next_acts m.place ≡ false
  mid_kept m j lt =
      let v : Variable = variable_of b own in
      let o = (in_order 0 2147483647 mids (leaves_ascend t.short.goes_on.good t.short.goes_on.among) m j).ordered in
      let one = of_each (λ (x : Leaf). Each (StaysWhole v (before_first first) next_acts x) lasts) mids m (t.cut.cuts v).stay j in
      (of_each (StaysWhole v (before_first first) next_acts m) lasts m one (mid_left m j lt) (whole_part m (mid_small m j) o lt) (rw (eq-eqb (records_of_leaf m) (records_of_leaf m) refl) refl)).2

  pub new_before : new.last < first
  new_before = let e = t.last_is in omega arith

  pub new_left : IsOneOf lasts new
  new_left = mid_left new t.short.one new_before

  pub new_kept : is_given_at next_acts new.place ≡ false
  new_kept = mid_kept new t.short.one new_before

  pub once : none_twice [] next_acts ≡ true → none_twice [] acts ≡ true
  once next = by_stay (λ (xs : List Act). none_twice [] (xs ++ next_acts) ≡ true) (λ e. next) (λ e.
      let apart = t.short.apart e in
      rw (is_in-false old.place (new.place ∷ []) (λ k. elim k [ inl q ↦ apart (sym q) | inr none ↦ none ])) (once_after new.place next_acts gives new_kept))
