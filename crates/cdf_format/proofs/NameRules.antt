-- The rule that names differ, over the names alone.
use Rattle.std.proofs.Common.{◌≡◌, ℕ, List, [], ◌∷◌, ◌++◌, map, Bool, true, false, not, ◌||◌, eq-eqb, bytes_eq, refl, sym, ap, subst, ◌∙◌, append_assoc, append-nil, inl, inr}
use Rattle.cdf_format.proofs.Common.{same_name, differ_rows, content, attribute_of, name_in, Field, adr_name, Hold, AttributeShape, Shape, adrs, HasShape}
use Rattle.std.specs.List.{list_any}
use Rattle.cdf_model.specs.Names.{attribute_names}
use Rattle.cdf_format.proofs.Members.{either}
use Rattle.cdf_format.proofs.ShapeLemmas.{content_is}
use Rattle.cdf_format.proofs.Tests.{not_false, same_of_bytes_eq}

-- a name stands among others
abbrev pub stands_in : List ℕ → List (List ℕ) → Bool
stands_in name names = list_any (bytes_eq name) names

-- each name is new behind those before it, and behind some that came before all
abbrev pub AreNew : List (List ℕ) → List (List ℕ) → Type 0
AreNew before [] = Unit {0}
AreNew before (name ∷ more) = (stands_in name before ≡ false) × AreNew (before ++ name ∷ []) more

-- ---- whether a name stands in a list

pub stands-append : (x : List ℕ) (xs ys : List (List ℕ)) → stands_in x (xs ++ ys) ≡ (stands_in x xs || stands_in x ys)
stands-append x [] ys = refl
stands-append x (y ∷ xs) ys = ap (λ (p : Bool). bytes_eq x y || p) (stands-append x xs ys) ∙ regroup (bytes_eq x y) (stands_in x xs) (stands_in x ys)
  where
    regroup : (p q r : Bool) → (p || (q || r)) ≡ ((p || q) || r)
    regroup true q r = refl
    regroup false q r = refl

neither : (p q : Bool) → (p || q) ≡ false → (p ≡ false) × (q ≡ false)
neither true q e = cc e
neither false q e = (refl, e)

none_of : (p q : Bool) → p ≡ false → q ≡ false → (p || q) ≡ false
none_of true q e f = cc e
none_of false q e f = f

pub absent-split : (x : List ℕ) (xs ys : List (List ℕ)) → stands_in x (xs ++ ys) ≡ false → (stands_in x xs ≡ false) × (stands_in x ys ≡ false)
absent-split x xs ys e = neither (stands_in x xs) (stands_in x ys) (sym (stands-append x xs ys) ∙ e)

pub absent-append : (x : List ℕ) (xs ys : List (List ℕ)) → stands_in x xs ≡ false → stands_in x ys ≡ false → stands_in x (xs ++ ys) ≡ false
absent-append x xs ys p q = stands-append x xs ys ∙ none_of (stands_in x xs) (stands_in x ys) p q

pub bytes_eq-same : (xs : List ℕ) → bytes_eq xs xs ≡ true
bytes_eq-same [] = refl
bytes_eq-same (x ∷ xs) = rw (eq-eqb x x refl, bytes_eq-same xs) refl

-- two names differ either way round
pub differ-turned : (xs ys : List ℕ) → bytes_eq xs ys ≡ false → bytes_eq ys xs ≡ false
differ-turned xs ys e = elim (either (bytes_eq ys xs)) [
  | inl t ↦ let same = same_of_bytes_eq ys xs t in absurd (clash (bytes_eq xs ys) (ap (bytes_eq xs) same ∙ bytes_eq-same xs) e)
  | inr f ↦ f
]
  where
    clash : (p : Bool) → p ≡ true → p ≡ false → ⊥
    clash true a f = cc
    clash false a f = cc

-- ---- names that are new

-- a name stands nowhere before itself
pub new_there : (before front : List (List ℕ)) (name : List ℕ) (back : List (List ℕ)) → AreNew before (front ++ name ∷ back) → stands_in name (before ++ front) ≡ false
new_there before [] name back h = ap (stands_in name) (append-nil before) ∙ h.0
new_there before (x ∷ front) name back h = ap (stands_in name) (sym (append_assoc before (x ∷ []) front)) ∙ new_there (before ++ x ∷ []) front name back h.1

-- one that stands nowhere is put last
pub new_pushed : (before names : List (List ℕ)) (name : List ℕ) → AreNew before names → stands_in name (before ++ names) ≡ false → AreNew before (names ++ name ∷ [])
new_pushed before [] name h absent = (sym (ap (stands_in name) (append-nil before)) ∙ absent, tt)
new_pushed before (x ∷ names) name h absent = (h.0, new_pushed (before ++ x ∷ []) names name h.1 (ap (stands_in name) (append_assoc before (x ∷ []) names) ∙ absent))

-- among those before, one name is another that stands nowhere
seen_replaced : (before mid : List (List ℕ)) (old new : List ℕ) (names : List (List ℕ)) → AreNew (before ++ old ∷ mid) names → stands_in new names ≡ false → AreNew (before ++ new ∷ mid) names
seen_replaced before mid old new [] h absent = tt
seen_replaced before mid old new (x ∷ names) h absent =
    let here = neither (bytes_eq new x) (stands_in new names) absent in
    let parts = absent-split x before (old ∷ mid) h.0 in
    let rest = neither (bytes_eq x old) (stands_in x mid) parts.1 in
    let next : AreNew (before ++ old ∷ (mid ++ x ∷ [])) names = subst (λ (z : List (List ℕ)). AreNew z names) (append_assoc before (old ∷ mid) (x ∷ [])) h.1 in (
      absent-append x before (new ∷ mid) parts.0 (none_of (bytes_eq x new) (stands_in x mid) (differ-turned new x here.0) rest.1),
      subst (λ (z : List (List ℕ)). AreNew z names) (sym (append_assoc before (new ∷ mid) (x ∷ []))) (seen_replaced before (mid ++ x ∷ []) old new names next here.1),
    )

-- one name is replaced by another that stands nowhere
pub new_replaced : (before front : List (List ℕ)) (old new : List ℕ) (back : List (List ℕ)) → AreNew before (front ++ old ∷ back) → stands_in new (before ++ (front ++ old ∷ back)) ≡ false → AreNew before (front ++ new ∷ back)
new_replaced before [] old new back h absent =
    let parts = absent-split new before (old ∷ back) absent in
    (parts.0, seen_replaced before [] old new back h.1 (neither (bytes_eq new old) (stands_in new back) parts.1).1)
new_replaced before (x ∷ front) old new back h absent = (h.0, new_replaced (before ++ x ∷ []) front old new back h.1 (ap (stands_in new) (append_assoc before (x ∷ []) (front ++ old ∷ back)) ∙ absent))

-- ---- the rule

-- the names in a field of records
abbrev pub names_at : List ℕ → Field → List ℕ → List (List ℕ)
names_at b f places = map (λ place. name_in b place f) places

pub same_names : (b : List ℕ) (f : Field) (place : ℕ) (others : List ℕ) → list_any (same_name b f place) others ≡ stands_in (name_in b place f) (names_at b f others)
same_names b f place [] = refl
same_names b f place (other ∷ others) = ap (λ (p : Bool). same_name b f place other || p) (same_names b f place others)

names_push : (b : List ℕ) (f : Field) (xs : List ℕ) (x : ℕ) → names_at b f (xs ++ x ∷ []) ≡ names_at b f xs ++ name_in b x f ∷ []
names_push b f [] x = refl
names_push b f (y ∷ xs) x = ap (λ (r : List (List ℕ)). name_in b y f ∷ r) (names_push b f xs x)

new_by_rule : (rule : ℕ) (b : List ℕ) (f : Field) (before members : List ℕ) → Hold (differ_rows rule (same_name b f) before members) → AreNew (names_at b f before) (names_at b f members)
new_by_rule rule b f before [] h = tt
new_by_rule rule b f before (m ∷ members) h = (
  sym (same_names b f m before) ∙ not_false (list_any (same_name b f m) before) h.0,
  subst (λ (z : List (List ℕ)). AreNew z (names_at b f members)) (names_push b f before m) (new_by_rule rule b f (before ++ m ∷ []) members h.1),
)

rule_by_new : (rule : ℕ) (b : List ℕ) (f : Field) (before members : List ℕ) → AreNew (names_at b f before) (names_at b f members) → Hold (differ_rows rule (same_name b f) before members)
rule_by_new rule b f before [] h = tt
rule_by_new rule b f before (m ∷ members) h = (
  ap not (same_names b f m before ∙ h.0),
  rule_by_new rule b f (before ++ m ∷ []) members (subst (λ (z : List (List ℕ)). AreNew z (names_at b f members)) (sym (names_push b f before m)) h.1),
)

-- the names of records differ exactly where each is new
pub names_differ : (rule : ℕ) (b : List ℕ) (f : Field) (members : List ℕ) → Hold (differ_rows rule (same_name b f) [] members) → AreNew [] (names_at b f members)
names_differ rule b f members h = new_by_rule rule b f [] members h

pub differ_by_names : (rule : ℕ) (b : List ℕ) (f : Field) (members : List ℕ) → AreNew [] (names_at b f members) → Hold (differ_rows rule (same_name b f) [] members)
differ_by_names rule b f members h = rule_by_new rule b f [] members h

-- ---- the names of the content

names_of_content : (b : List ℕ) (as_ : List AttributeShape) → map (λ a. a.name) (map (attribute_of b) as_) ≡ names_at b adr_name (map (λ (a : AttributeShape). a.adr) as_)
names_of_content b [] = refl
names_of_content b (a ∷ more) = ap (λ (r : List (List ℕ)). name_in b a.adr adr_name ∷ r) (names_of_content b more)

-- those of the attributes stand in their ADRs
pub attribute_names_are : (b : List ℕ) (s : Shape) → HasShape b s → attribute_names (content b) ≡ names_at b adr_name (adrs s)
attribute_names_are b s h = ap attribute_names (content_is b s h) ∙ names_of_content b s.attributes
