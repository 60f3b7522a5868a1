-- How a run of disk calls goes on.
use Rattle.std.proofs.Common.{arith, inl, inr, refl, subst, sym, ⊎_elim, ℕ, ◌∙◌, ◌≡◌}
use Rattle.cdf_journal.specs.Crashes.{Elapses, Follows, Leads, LeavesOnly, Only, Parts}

-- a call that takes no outcome away and adds none
pub followed : (old new : Parts → Type 0) → ((c : Parts) → new c → old c) → Follows (λ a b. b ≡ a) old new
followed old new kept c left = (c, kept c left, refl)

module _ {D : Type 0} (may_leave : D → Parts → Type 0) (moment : D → ℕ) (left_since : D → ℕ → Parts → Type 0) where
  -- no call
  pub stayed : (disk : D) (step : Parts → Parts → Type 0) → ((c : Parts) → step c c) → Leads may_leave moment left_since step disk disk
  stayed disk step same = record { later = omega arith; now = λ c left. (c, left, same c); since = λ t c le left. inl left }

  -- one call more
  pub went_on : (old mid new : D) (first last whole : Parts → Parts → Type 0) → Leads may_leave moment left_since first old mid → Follows last (may_leave mid) (may_leave new)
      → Elapses (moment mid) (moment new) (left_since mid) (left_since new) (may_leave new) → ((a b : Parts) → first a b → whole a b) → ((a b c : Parts) → first a b → last b c → whole a c)
      → Leads may_leave moment left_since whole old new
  went_on old mid new first last whole so_far follows time weaker join = record {
    later = omega (arith, so_far.later, time.later);
    now = now;
    since = λ t c le left. ⊎_elim (λ past. ⊎_elim (λ before. inl before) (λ d. inr (d.0, d.1, weaker d.0 c d.2)) (so_far.since t c le past)) (λ here. inr (now c here)) (time.nothing_else t c (omega (arith, le, so_far.later)) left);
  }
    where
      now : Follows whole (may_leave old) (may_leave new)
      now c left = let f = follows c left in let s = so_far.now f.0 f.1 in (s.0, s.1, join s.0 f.0 c s.2 f.2)

  -- one run of calls behind another
  pub joined : (old mid new : D) (step : Parts → Parts → Type 0) → Leads may_leave moment left_since step old mid → Leads may_leave moment left_since step mid new → ((a b c : Parts) → step a b → step b c → step a c)
      → Leads may_leave moment left_since step old new
  joined old mid new step a b join = record {
    later = omega (arith, a.later, b.later);
    now = λ c left. let f = b.now c left in earlier c (f.0, f.1, f.2);
    since = λ t c le left. ⊎_elim (λ past. a.since t c le past) (λ d. inr (earlier c d)) (b.since t c (omega (arith, le, a.later)) left);
  }
    where
      earlier : (c : Parts) → (d : Parts) × may_leave mid d × step d c → (d : Parts) × may_leave old d × step d c
      earlier c d = let s = a.now d.0 d.1 in (s.0, s.1, join s.0 d.0 c s.2 d.2)

  -- a run from parts that a crash alone leaves
  pub from_one : (old new : D) (parts : Parts) (step : Parts → Parts → Type 0) (P : Parts → Type 0) → ((c : Parts) → left_since old (moment old) c → may_leave old c) → Only parts (may_leave old)
      → Leads may_leave moment left_since step old new → step parts parts → ((c : Parts) → step parts c → P c) → LeavesOnly moment left_since old new P
  from_one old new parts step P only_now only l same holds = record {
    later = l.later;
    each = λ c left. ⊎_elim (λ past. holds c (subst (λ (d : Parts). step parts d) (sym (only c (only_now c past))) same)) (λ d. behind c d) (l.since (moment old) c (omega arith) left);
    before = λ t c le left. ⊎_elim (λ past. inl past) (λ d. inr (behind c d)) (l.since t c le left);
  }
    where
      behind : (c : Parts) → (d : Parts) × may_leave old d × step d c → P c
      behind c d = holds c (subst (λ (x : Parts). step x c) (only d.0 d.1) d.2)

module _ {D : Type 0} (moment : D → ℕ) (left_since : D → ℕ → Parts → Type 0) where
  -- what has P has Q
  pub weaker : (old new : D) (P Q : Parts → Type 0) → ((c : Parts) → P c → Q c) → LeavesOnly moment left_since old new P → LeavesOnly moment left_since old new Q
  weaker old new P Q f l = record { later = l.later; each = λ c left. f c (l.each c left); before = λ t c le left. ⊎_elim (λ b. inl b) (λ p. inr (f c p)) (l.before t c le left) }

  -- one part of a run behind another
  pub chained : (old mid new : D) (P : Parts → Type 0) → LeavesOnly moment left_since old mid P → LeavesOnly moment left_since mid new P → LeavesOnly moment left_since old new P
  chained old mid new P a b = record {
    later = omega (arith, a.later, b.later);
    each = λ c left. ⊎_elim (a.each c) (λ p. p) (b.before (moment old) c a.later left);
    before = λ t c le left. ⊎_elim (a.before t c le) (λ p. inr p) (b.before t c (omega (arith, le, a.later)) left);
  }

-- no call, from parts that a crash alone leaves
pub unmoved : {D : Type 0} (may_leave : D → Parts → Type 0) (moment : D → ℕ) (left_since : D → ℕ → Parts → Type 0) (disk : D) (parts : Parts) (P : Parts → Type 0) → ((c : Parts) → left_since disk (moment disk) c → may_leave disk c) → Only parts (may_leave disk) → P parts
    → LeavesOnly moment left_since disk disk P
unmoved may_leave moment left_since disk parts P only_now only holds = record { later = omega arith; each = λ c left. subst P (sym (only c (only_now c left))) holds; before = λ t c le left. inl left }

-- calls that change nothing leave what they found
pub left_alone : {D : Type 0} (may_leave : D → Parts → Type 0) (moment : D → ℕ) (left_since : D → ℕ → Parts → Type 0) (old new : D) (parts : Parts) → Leads may_leave moment left_since (λ a b. b ≡ a) old new → Only parts (may_leave old) → Only parts (may_leave new)
left_alone may_leave moment left_since old new parts l only c left = let f = l.now c left in f.2 ∙ only f.0 f.1
