-- What avoids marks.
use Rattle.cdf_edits.proofs.Common.{Avoids, Away, Bool, Confined, Covered, Each, Field, In, Lies, List, Mark, Marked, Misses, OutsideFields, Touch, Within, [], all_unmarked, ap, arith, avoided, both, either, ended, eq-eqb, eqb-true, false, has_mark, if◌then◌else◌, inl, inr, is_in, leb-true, nat_le, subst, sym, true, true≢false, type_at, unmarked, within, ℕ, ◌&&◌, ◌++◌, ◌+◌, ◌==◌, ◌∙◌, ◌∷◌, ◌≡◌, ◌≤◌, ◌⊎◌}
use Rattle.std.proofs.Common.{not, ◌||◌}
pub use Rattle.std.proofs.lemmas.Bool.{or_cases}

pub the_one : (x m : ℕ) → In m (x ∷ []) → m ≡ x
the_one x m (inl q) = q
the_one x m (inr none) = absurd none

-- a test that types differ or else something holds
unless : (type other : ℕ) (p : Bool) → (not (type == other) || p) ≡ true → type ≡ other → p ≡ true
unless type other p e same = let t = eq-eqb type other same in rw t at e

pub avoided-avoids : (ks : List Mark) (type m lo hi : ℕ) → avoided ks type lo hi ≡ true → Avoids ks type m lo hi
avoided-avoids [] type m lo hi e = tt
avoided-avoids (k ∷ ks) type m lo hi e =
    let p = both (not (type == k.type) || (nat_le (k.place + k.width) lo || nat_le hi k.place)) (avoided ks type lo hi) e in (
      (λ same lies. elim (or_cases _ _ (unless type k.type _ p.0 same)) [ inl x ↦ inr (leb-true _ _ x) | inr x ↦ inl (leb-true _ _ x) ]),
      avoided-avoids ks type m lo hi p.1,
    )

pub ended-avoids : (ks : List Mark) (type m lo hi : ℕ) → ended ks type lo ≡ true → Avoids ks type m lo hi
ended-avoids [] type m lo hi e = tt
ended-avoids (k ∷ ks) type m lo hi e =
    let p = both (not (type == k.type) || nat_le (k.place + k.width) lo) (ended ks type lo) e in
    ((λ same lies. inr (leb-true _ _ (unless type k.type _ p.0 same))), ended-avoids ks type m lo hi p.1)

-- a smaller part
pub Avoids-part : (ks : List Mark) (type m lo hi lo' hi' : ℕ) → Avoids ks type m lo hi → lo ≤ lo' → hi' ≤ hi → Avoids ks type m lo' hi'
Avoids-part [] type m lo hi lo' hi' a l h = tt
Avoids-part (k ∷ ks) type m lo hi lo' hi' a l h = ((λ same lies. elim (a.0 same lies) [ inl x ↦ inl (omega arith) | inr x ↦ inr (omega arith) ]), Avoids-part ks type m lo hi lo' hi' a.1 l h)

pub unmarked-away : (ks : List Mark) (type m : ℕ) → unmarked ks type ≡ true → Away ks type m
unmarked-away [] type m e = tt
unmarked-away (k ∷ ks) type m e =
    let p = both (not (type == k.type)) (unmarked ks type) e in
    ((λ same lies. let t = eq-eqb type k.type same in let f : false ≡ true = rw t at p.0 in absurd (true≢false (sym f))), unmarked-away ks type m p.1)

pub all_unmarked-away : (ks : List Mark) (types : List ℕ) (type m : ℕ) → all_unmarked ks types ≡ true → is_in type types ≡ true → Away ks type m
all_unmarked-away ks [] type m e i = absurd (true≢false (sym i))
all_unmarked-away ks (t ∷ types) type m e i =
    let p = both (unmarked ks t) (all_unmarked ks types) e in
    elim (or_cases (type == t) (is_in type types) i) [
      | inl x ↦ subst (λ (n : ℕ). Away ks n m) (sym (eqb-true type t x)) (unmarked-away ks t m p.0)
      | inr x ↦ all_unmarked-away ks types type m p.1 x
    ]

pub confined-away : (ks : List Mark) (types own : List ℕ) (type m : ℕ) → Confined ks types own → is_in type types ≡ true → (In m own → ⊥) → Away ks type m
confined-away [] types own type m c i out = tt
confined-away (k ∷ ks) types own type m c i out =
    ((λ same lies. elim c.0 [ inl f ↦ true≢false (sym i ∙ ap (λ (t : ℕ). is_in t types) same ∙ f) | inr f ↦ out (f m lies) ]), confined-away ks types own type m c.1 i out)

pub away-avoids : (ks : List Mark) (type m lo hi : ℕ) → Away ks type m → Avoids ks type m lo hi
away-avoids [] type m lo hi a = tt
away-avoids (k ∷ ks) type m lo hi a = ((λ same lies. absurd (a.0 same lies)), away-avoids ks type m lo hi a.1)

pub away-within : (ks : List Mark) (type m : ℕ) (fields : List Field) → Away ks type m → Within ks type m fields
away-within [] type m fields a = tt
away-within (k ∷ ks) type m fields a = ((λ same lies. absurd (a.0 same lies)), away-within ks type m fields a.1)

pub within-within : (ks : List Mark) (type m : ℕ) (fields : List Field) → within ks type fields ≡ true → Within ks type m fields
within-within [] type m fields e = tt
within-within (k ∷ ks) type m fields e =
    let p = both (not (type == k.type) || has_mark fields k) (within ks type fields) e in
    ((λ same lies. unless type k.type _ p.0 same), within-within ks type m fields p.1)

-- ---- the marks of one type

abbrev pub of_type : ℕ → List Mark → List Mark
of_type type [] = []
of_type type (k ∷ ks) = if type == k.type then k ∷ of_type type ks else of_type type ks

other_type : (type other : ℕ) → (type == other) ≡ false → type ≡ other → ⊥
other_type type other e same = true≢false (sym (eq-eqb type other same) ∙ e)

pub avoids-of_type : (ks : List Mark) (type m lo hi : ℕ) → Avoids (of_type type ks) type m lo hi → Avoids ks type m lo hi
avoids-of_type [] type m lo hi a = tt
avoids-of_type (k ∷ ks) type m lo hi a = elim (either (type == k.type)) [
  | inl e ↦ let c : Avoids (k ∷ of_type type ks) type m lo hi = rw e at a in (c.0, avoids-of_type ks type m lo hi c.1)
  | inr e ↦ let c : Avoids (of_type type ks) type m lo hi = rw e at a in ((λ same lies. absurd (other_type type k.type e same)), avoids-of_type ks type m lo hi c)
]

pub within-of_type : (ks : List Mark) (type m : ℕ) (fields : List Field) → Within (of_type type ks) type m fields → Within ks type m fields
within-of_type [] type m fields a = tt
within-of_type (k ∷ ks) type m fields a = elim (either (type == k.type)) [
  | inl e ↦ let c : Within (k ∷ of_type type ks) type m fields = rw e at a in (c.0, within-of_type ks type m fields c.1)
  | inr e ↦ let c : Within (of_type type ks) type m fields = rw e at a in ((λ same lies. absurd (other_type type k.type e same)), within-of_type ks type m fields c)
]

pub away-of_type : (ks : List Mark) (type m : ℕ) → Away (of_type type ks) type m → Away ks type m
away-of_type [] type m a = tt
away-of_type (k ∷ ks) type m a = elim (either (type == k.type)) [
  | inl e ↦ let c : Away (k ∷ of_type type ks) type m = rw e at a in (c.0, away-of_type ks type m c.1)
  | inr e ↦ let c : Away (of_type type ks) type m = rw e at a in ((λ same lies. other_type type k.type e same), away-of_type ks type m c)
]

pub Avoids-split : (ks ls : List Mark) (type m lo hi : ℕ) → Avoids (ks ++ ls) type m lo hi → Avoids ks type m lo hi × Avoids ls type m lo hi
Avoids-split [] ls type m lo hi a = (tt, a)
Avoids-split (k ∷ ks) ls type m lo hi a = let r = Avoids-split ks ls type m lo hi a.1 in ((a.0, r.0), r.1)

pub Avoids-append : (ks ls : List Mark) (type m lo hi : ℕ) → Avoids ks type m lo hi → Avoids ls type m lo hi → Avoids (ks ++ ls) type m lo hi
Avoids-append [] ls type m lo hi a c = c
Avoids-append (k ∷ ks) ls type m lo hi a c = (a.0, Avoids-append ks ls type m lo hi a.1 c)

pub Within-append : (ks ls : List Mark) (type m : ℕ) (fields : List Field) → Within ks type m fields → Within ls type m fields → Within (ks ++ ls) type m fields
Within-append [] ls type m fields a c = c
Within-append (k ∷ ks) ls type m fields a c = (a.0, Within-append ks ls type m fields a.1 c)

pub Away-append : (ks ls : List Mark) (type m : ℕ) → Away ks type m → Away ls type m → Away (ks ++ ls) type m
Away-append [] ls type m a c = c
Away-append (k ∷ ks) ls type m a c = (a.0, Away-append ks ls type m a.1 c)

-- a byte outside the fields that have the marks
outside_mark : (fs : List Field) (k : Mark) (i : ℕ) → has_mark fs k ≡ true → OutsideFields fs i → (i + 1 ≤ k.place) ⊎ (k.place + k.width ≤ i)
outside_mark [] k i e o = absurd (true≢false (sym e))
outside_mark (f ∷ fs) k i e o = elim (or_cases (nat_le f.place k.place && nat_le (k.place + k.width) (f.place + f.width)) (has_mark fs k) e) [
  | inl x ↦
      let p = both (nat_le f.place k.place) (nat_le (k.place + k.width) (f.place + f.width)) x in
      let low = leb-true _ _ p.0 in
      let high = leb-true _ _ p.1 in
      elim o.0 [ inl l ↦ inl (omega arith) | inr r ↦ inr (omega arith) ]
  | inr x ↦ outside_mark fs k i x o.1
]

pub within-avoids : (ks : List Mark) (type m : ℕ) (fs : List Field) (i : ℕ) → Within ks type m fs → OutsideFields fs i → Avoids ks type m i (i + 1)
within-avoids [] type m fs i w o = tt
within-avoids (k ∷ ks) type m fs i w o = ((λ same lies. outside_mark fs k i (w.0 same lies) o), within-avoids ks type m fs i w.1 o)

-- ---- touches that have marks

avoids-touch : (b : List ℕ) (ks : List Mark) (t : Touch) (type m lo hi : ℕ) → type_at b m ≡ type → Covered b ks t → Avoids ks type m lo hi → m ≡ t.tile → (hi ≤ t.place) ⊎ (t.place + t.width ≤ lo)
avoids-touch b [] t type m lo hi is c a e = absurd c
avoids-touch b (k ∷ ks) t type m lo hi is (inl c) a e =
    elim (a.0 (sym is ∙ ap (type_at b) e ∙ c.typed) (subst (Lies k.tiles) (sym e) c.lies)) [ inl x ↦ inl (let l = c.low in omega arith) | inr x ↦ inr (let h = c.high in omega arith) ]
avoids-touch b (k ∷ ks) t type m lo hi is (inr c) a e = avoids-touch b ks t type m lo hi is c a.1 e

pub avoids-misses : (b old : List ℕ) (ks : List Mark) (reborn : List ℕ) (ts : List Touch) (type m lo hi : ℕ) → type_at b m ≡ type → Each (Marked b old ks reborn) ts → Avoids ks type m lo hi → Misses ts m lo hi
avoids-misses b old ks reborn [] type m lo hi is c a = tt
avoids-misses b old ks reborn (t ∷ ts) type m lo hi is c a = (avoids-touch b ks t type m lo hi is c.0.covered a, avoids-misses b old ks reborn ts type m lo hi is c.1 a)
