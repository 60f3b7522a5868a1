-- A chain is computed, it is the only one, and where a link leads wrong the walk says which.
use Rattle.std.proofs.Common.{◌≡◌, ◌≢◌, ◌⊎◌, ℕ, zero, suc, ◌+◌, ◌≤◌, List, [], ◌∷◌, ◌++◌, length, true, false, eqb, leb, eq-eqb, refl, true≢false, sym, ap, subst, ◌∙◌, append_assoc, append-nil, arith, inl, inr}
use Rattle.cdf_format.proofs.Common.{eqb-true, and_parts, and_from, leb-true, le-leb, length-append, number, size_at, type_at, Field, Walk, whole, stuck, In, Distinct, AreTiles, next_of, is_in, is_a, is_linkable, IsChain}
use Rattle.cdf_format.specs.Chains.{Leads, chain_on, chain}
use Rattle.cdf_format.proofs.Members.{either, In-append, Distinct-push, Distinct-middle, length-le_from_distinct, is_in-true, true-is_in, false-is_in, is_in-false}
use Rattle.cdf_format.proofs.TilesLemmas.{tile_lies}

-- ---- a record that can be linked

pub is_a-from : (b ts : List ℕ) (type place : ℕ) → In place ts → type_at b place ≡ type → is_a b ts type place ≡ true
is_a-from b ts type place i t = and_from _ _ (is_in-true place ts i) (eq-eqb _ _ t)

pub is_a-in : (b ts : List ℕ) (type place : ℕ) → is_a b ts type place ≡ true → In place ts
is_a-in b ts type place e = true-is_in place ts (and_parts (is_in place ts) (eqb (type_at b place) type) e).0

pub is_a-type : (b ts : List ℕ) (type place : ℕ) → is_a b ts type place ≡ true → type_at b place ≡ type
is_a-type b ts type place e = eqb-true _ _ (and_parts (is_in place ts) (eqb (type_at b place) type) e).1

pub linkable-is_a : (b ts : List ℕ) (type place : ℕ) → is_linkable b ts type place ≡ true → is_a b ts type place ≡ true
linkable-is_a b ts type place e = (and_parts (is_a b ts type place) (leb 28 (size_at b place)) e).0

pub linkable-in : (b ts : List ℕ) (type place : ℕ) → is_linkable b ts type place ≡ true → In place ts
linkable-in b ts type place e = is_a-in b ts type place (linkable-is_a b ts type place e)

pub linkable-type : (b ts : List ℕ) (type place : ℕ) → is_linkable b ts type place ≡ true → type_at b place ≡ type
linkable-type b ts type place e = is_a-type b ts type place (linkable-is_a b ts type place e)

pub linkable-long : (b ts : List ℕ) (type place : ℕ) → is_linkable b ts type place ≡ true → 28 ≤ size_at b place
linkable-long b ts type place e = leb-true _ _ (and_parts (is_a b ts type place) (leb 28 (size_at b place)) e).1

pub linkable-from : (b ts : List ℕ) (type place : ℕ) → In place ts → type_at b place ≡ type → 28 ≤ size_at b place → is_linkable b ts type place ≡ true
linkable-from b ts type place i t l = and_from _ _ (is_a-from b ts type place i t) (le-leb _ _ l)

-- no tile stands at 0
pub some_place : (b ts : List ℕ) (upto place : ℕ) → AreTiles b 8 upto ts → In place ts → place ≢ 0
some_place b ts upto place t i z = let l = tile_lies b 8 upto ts place t i in absurd (omega (arith, l.low))

-- ---- one chain from a link

pub leads_unique : (b : List ℕ) (link : ℕ) (xs ys : List ℕ) → Leads b link xs 0 → Leads b link ys 0 → ((m : ℕ) → In m xs → m ≢ 0) → ((m : ℕ) → In m ys → m ≢ 0) → xs ≡ ys
leads_unique b link [] [] p q nx ny = refl
leads_unique b link [] (y ∷ ys) p q nx ny = absurd (ny y (inl refl) (sym q.0 ∙ p))
leads_unique b link (x ∷ xs) [] p q nx ny = absurd (nx x (inl refl) (sym p.0 ∙ q))
leads_unique b link (x ∷ xs) (y ∷ ys) p q nx ny =
    let e : x ≡ y = sym p.0 ∙ q.0 in
    let r = leads_unique b (next_of b x) xs ys p.1 (subst (λ z. Leads b (next_of b z) ys 0) (sym e) q.1) (λ m i. nx m (inr i)) (λ m i. ny m (inr i)) in
    rw (e, r) refl

pub chain_unique : (b ts : List ℕ) (upto type link : ℕ) (xs ys : List ℕ) → AreTiles b 8 upto ts → IsChain b ts type link xs → IsChain b ts type link ys → xs ≡ ys
chain_unique b ts upto type link xs ys t p q =
    leads_unique b link xs ys p.leads q.leads (λ m i. some_place b ts upto m t (linkable-in b ts type m (p.linkable m i))) (λ m i. some_place b ts upto m t (linkable-in b ts type m (q.linkable m i)))

-- ---- what a walk says

-- the record with the last link
abbrev pub last_of : ℕ → List ℕ → ℕ
last_of holder [] = holder
last_of holder (m ∷ ms) = last_of m ms

-- what was met on the way to a link
pub record Going (b ts : List ℕ) (type holder head : ℕ) (ms : List ℕ) (place link : ℕ) : Type 0 where
  pub leads : Leads b head ms link
  pub linkable : (m : ℕ) → In m ms → is_linkable b ts type m ≡ true
  pub once : Distinct ms
  pub from : place ≡ last_of holder ms

-- a link in the last record is neither 0 nor leads to a record of the type that was not met before
pub record LeadsWrong (b ts : List ℕ) (type holder head : ℕ) (ms : List ℕ) (place : ℕ) : Type 0 where
  pub link : ℕ
  pub going : Going b ts type holder head ms place link
  pub some : link ≢ 0
  pub bad : (is_linkable b ts type link ≡ false) ⊎ In link ms

leads_push : (b : List ℕ) (head : ℕ) (ms : List ℕ) (link : ℕ) → Leads b head ms link → Leads b head (ms ++ link ∷ []) (next_of b link)
leads_push b head [] link p = (p, refl)
leads_push b head (m ∷ ms) link p = (p.0, leads_push b (next_of b m) ms link p.1)

last_push : (holder : ℕ) (ms : List ℕ) (link : ℕ) → link ≡ last_of holder (ms ++ link ∷ [])
last_push holder [] link = refl
last_push holder (m ∷ ms) link = last_push m ms link

going_on : (b ts : List ℕ) (type holder head : ℕ) (ms : List ℕ) (place link : ℕ) → Going b ts type holder head ms place link → is_linkable b ts type link ≡ true → (In link ms → ⊥) → Going b ts type holder head (ms ++ link ∷ []) link (next_of b link)
going_on b ts type holder head ms place link g ok new = record {
  leads = leads_push b head ms link g.leads;
  linkable = λ m i. elim (In-append m ms (link ∷ []) i) [ inl l ↦ g.linkable m l | inr r ↦ elim r [ inl e ↦ ap (is_linkable b ts type) e ∙ ok | inr n ↦ absurd n ] ];
  once = Distinct-push ms link g.once new;
  from = last_push holder ms link;
}

abbrev pub WalkSays : List ℕ → List ℕ → ℕ → ℕ → ℕ → Walk → Type 0
WalkSays b ts type holder head (whole ms) = IsChain b ts type head ms
WalkSays b ts type holder head (stuck ms place) = LeadsWrong b ts type holder head ms place

too_many : (b ts : List ℕ) (type : ℕ) (ms : List ℕ) (link : ℕ) → ((m : ℕ) → In m ms → is_linkable b ts type m ≡ true) → Distinct ms → is_linkable b ts type link ≡ true → (In link ms → ⊥) → length ts ≤ length ms → ⊥
too_many b ts type ms link good once ok new full =
    let l = length-le_from_distinct (ms ++ link ∷ []) ts (Distinct-push ms link once new)
    (λ m i. elim (In-append m ms (link ∷ []) i) [ inl j ↦ linkable-in b ts type m (good m j) | inr j ↦ elim j [ inl e ↦ subst (λ z. In z ts) (sym e) (linkable-in b ts type link ok) | inr n ↦ absurd n ] ]) in
    absurd (omega (arith, l, full, length-append ms (link ∷ [])))

ends : (b ts : List ℕ) (type holder head : ℕ) (ms : List ℕ) (place link : ℕ) → Going b ts type holder head ms place link → link ≡ 0 → IsChain b ts type head ms
ends b ts type holder head ms place link g z = record { leads = subst (λ x. Leads b head ms x) z g.leads; linkable = g.linkable; once = g.once }

chain_says : (n : ℕ) (b ts : List ℕ) (type holder head : ℕ) (ms : List ℕ) (place link : ℕ) → Going b ts type holder head ms place link → length ts ≤ length ms + n → WalkSays b ts type holder head (chain_on n b ts type ms place link)
unfolding chain_on
chain_says zero b ts type holder head ms place link g room = elim (either (eqb link 0)) [
  | inl e ↦ rw e (ends b ts type holder head ms place link g (eqb-true link 0 e))
  | inr e ↦ rw e (record {
    link = link;
    going = g;
    some = λ z. absurd (true≢false (sym (eq-eqb link 0 z) ∙ e));
    bad = elim (either (is_linkable b ts type link)) [ inr no_link ↦ inl no_link | inl ok ↦ elim (either (is_in link ms)) [ inl i ↦ inr (true-is_in link ms i) | inr j ↦ absurd (too_many b ts type ms link g.linkable g.once ok (false-is_in link ms j) (omega (arith, room))) ] ];
  })
]
chain_says (suc n) b ts type holder head ms place link g room = elim (either (eqb link 0)) [
  | inl e ↦ rw e (ends b ts type holder head ms place link g (eqb-true link 0 e))
  | inr e ↦
      let some : link ≢ 0 = λ z. absurd (true≢false (sym (eq-eqb link 0 z) ∙ e)) in
      elim (either (is_linkable b ts type link)) [
        | inr no_link ↦ rw (e, no_link) (record { link = link; going = g; some = some; bad = inl no_link })
        | inl ok ↦ elim (either (is_in link ms)) [
          | inl old ↦ rw (e, ok, old) (record { link = link; going = g; some = some; bad = inr (true-is_in link ms old) })
          | inr new ↦ rw (e, ok, new) (chain_says n b ts type holder head (ms ++ link ∷ []) link (next_of b link) (going_on b ts type holder head ms place link g ok (false-is_in link ms new)) (omega (arith, room, length-append ms (link ∷ []))))
        ]
      ]
]

pub chain_is : (b ts : List ℕ) (type holder : ℕ) (f : Field) → WalkSays b ts type holder (number b holder f) (chain b ts type holder f)
chain_is b ts type holder f = chain_says (length ts) b ts type holder (number b holder f) [] holder (number b holder f)
    (record { leads = refl; linkable = λ m i. absurd i; once = tt; from = refl }) (omega arith)

-- a walk that reaches 0 met a chain
pub chain_sound : (b ts : List ℕ) (type holder : ℕ) (f : Field) (ms : List ℕ) → chain b ts type holder f ≡ whole ms → IsChain b ts type (number b holder f) ms
chain_sound b ts type holder f ms e = subst (WalkSays b ts type holder (number b holder f)) e (chain_is b ts type holder f)

-- and a chain is met by its walk
chain_meets : (n : ℕ) (b ts : List ℕ) (type : ℕ) (seen : List ℕ) (holder head : ℕ) (ms : List ℕ) → Leads b head ms 0 → ((m : ℕ) → In m ms → is_linkable b ts type m ≡ true) → ((m : ℕ) → In m ms → m ≢ 0)
    → Distinct (seen ++ ms) → length ms ≤ n → chain_on n b ts type seen holder head ≡ whole (seen ++ ms)
unfolding chain_on
chain_meets zero b ts type seen holder head [] p good nz d l = rw (eq-eqb head 0 p) (ap whole (sym (append-nil seen)))
chain_meets (suc n) b ts type seen holder head [] p good nz d l = rw (eq-eqb head 0 p) (ap whole (sym (append-nil seen)))
chain_meets zero b ts type seen holder head (m ∷ ms) p good nz d l = absurd (omega arith)
chain_meets (suc n) b ts type seen holder head (m ∷ ms) p good nz d l =
    let e : head ≡ m = p.0 in
    let here : is_linkable b ts type head ≡ true = ap (is_linkable b ts type) e ∙ good m (inl refl) in
    let new : is_in head seen ≡ false = is_in-false head seen (λ i. Distinct-middle seen m ms d (subst (λ z. In z seen) e i)) in
    let some : eqb head 0 ≡ false = elim (either (eqb head 0)) [ inl z ↦ absurd (nz m (inl refl) (sym e ∙ eqb-true head 0 z)) | inr z ↦ z ] in
    let d' : Distinct ((seen ++ head ∷ []) ++ ms) = subst Distinct (ap (λ (z : ℕ). seen ++ z ∷ ms) (sym e) ∙ sym (append_assoc seen (head ∷ []) ms)) d in
    let rest = chain_meets n b ts type (seen ++ head ∷ []) head (next_of b head) ms (subst (λ z. Leads b (next_of b z) ms 0) (sym e) p.1) (λ x i. good x (inr i)) (λ x i. nz x (inr i)) d' (omega arith) in
    rw (some, here, new) (rest ∙ ap whole (append_assoc seen (head ∷ []) ms ∙ ap (λ (z : ℕ). seen ++ z ∷ ms) e))

pub chain_complete : (b ts : List ℕ) (upto type holder : ℕ) (f : Field) (ms : List ℕ) → AreTiles b 8 upto ts → IsChain b ts type (number b holder f) ms → chain b ts type holder f ≡ whole ms
chain_complete b ts upto type holder f ms t c =
    chain_meets (length ts) b ts type [] holder (number b holder f) ms c.leads c.linkable
    (λ m i. some_place b ts upto m t (linkable-in b ts type m (c.linkable m i))) c.once (length-le_from_distinct ms ts c.once (λ m i. linkable-in b ts type m (c.linkable m i)))
