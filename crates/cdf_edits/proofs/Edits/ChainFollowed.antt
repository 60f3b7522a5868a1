-- What is said of a chain of entries after a command on one of them: where the entry of a number stands, the chain, and the greatest numbers.
use Rattle.cdf_edits.proofs.Common.{Attribute, AttributeShape, Distinct, EntryKind, GreatestIs, In, List, None, OfAttribute, Option, Some, [], aedr_num, ap, attribute_named, attribute_of, cases_eq, cast_signed, chain_of, content, entries_of, eq-eqb, eqb-true, false, flat_map, greatest_number, if◌then◌else◌, inl, inr, integer4, is_attribute, max_field, ne_eqb, number, refl, shape, share_chain, slice_get, subst, sym, true, unwrap_or, w32, with_chain, with_in_place, ℕ, ◌==◌, ◌∙◌, ◌∷◌, ◌≡◌}
use Rattle.std.proofs.Common.{find}
use Rattle.cdf_model.specs.declared.kinds.EntryKind.TheVariants as entries
use Rattle.cdf_edits.specs.Space.Chains.{without}
use Rattle.cdf_edits.proofs.Edits.ChainEntries.{nums, num_in}
use Rattle.cdf_edits.proofs.Edits.ChainKinds.{other_max}

-- ---- the attribute of a name

pub of_attribute : (b now attr : List ℕ) (n : ℕ) (w : Attribute) (own own' : AttributeShape) (P : AttributeShape → AttributeShape → Type 0) → attribute_named (content b) attr ≡ Some (n, w) → slice_get (shape b).attributes n ≡ Some own → slice_get (shape now).attributes n ≡ Some own' → P own own' → OfAttribute b now attr P
of_attribute b now attr n w own own' P found here here' p m a a' is =
    let number : n ≡ m = eqb-true n m (sym (ap (λ (o : Option (ℕ × Attribute)). elim o [ None ↦ false | Some x ↦ x.0 == m ]) found) ∙ is.named) in
    let first : own ≡ a = ap (λ (o : Option AttributeShape). unwrap_or o own) (sym (subst (λ (k : ℕ). slice_get (shape b).attributes k ≡ Some own) number here) ∙ is.before_is) in
    let second : own' ≡ a' = ap (λ (o : Option AttributeShape). unwrap_or o own') (sym (subst (λ (k : ℕ). slice_get (shape now).attributes k ≡ Some own') number here') ∙ is.after_is) in
    subst (λ (x : AttributeShape). P a x) second (subst (λ (x : AttributeShape). P x own') first p)

pub is_named : (b attr : List ℕ) (n : ℕ) (w : Attribute) → attribute_named (content b) attr ≡ Some (n, w) → is_attribute (content b) attr n ≡ true
is_named b attr n w found = ap (λ (f : Option (ℕ × Attribute)). elim f [ None ↦ false | Some x ↦ x.0 == n ]) found ∙ eq-eqb n n refl

-- ---- where the entry of a number stands

pub chain_now : (kind : EntryKind) (a : AttributeShape) (es : List ℕ) → chain_of (with_chain a kind es) kind ≡ es
chain_now entries.G a es = refl
chain_now entries.R a es = refl
chain_now entries.Z a es = refl

pub found_none : (b : List ℕ) (num : ℕ) (es : List ℕ) → (In num (nums b es) → ⊥) → find (λ aedr. number b aedr aedr_num == num) es ≡ None
found_none b num [] out = refl
found_none b num (e ∷ es) out = rw (ne_eqb (number b e aedr_num) num (λ q. out (inl (sym q)))) (found_none b num es (λ i. out (inr i)))

pub found_one : (b : List ℕ) (num old : ℕ) (es : List ℕ) → number b old aedr_num ≡ num → In old es → Distinct (nums b es) → find (λ aedr. number b aedr aedr_num == num) es ≡ Some old
found_one b num old [] is i d = absurd i
found_one b num old (e ∷ es) is (inl q) d = rw (eq-eqb (number b e aedr_num) num (ap (λ (x : ℕ). number b x aedr_num) (sym q) ∙ is)) (ap Some (sym q))
found_one b num old (e ∷ es) is (inr i) d = rw (ne_eqb (number b e aedr_num) num (λ q. d.0 (subst (λ (x : ℕ). In x (nums b es)) (is ∙ sym q) (num_in b es old i)))) (found_one b num old es is i d.1)

-- ---- the chain after that

abbrev in_its_place : ℕ → List ℕ → List ℕ → List ℕ
in_its_place old new es = flat_map (λ place. if place == old then new else place ∷ []) es

none_in_place : (old : ℕ) (new es : List ℕ) → (In old es → ⊥) → in_its_place old new es ≡ es
none_in_place old new [] out = refl
none_in_place old new (e ∷ es) out = rw (ne_eqb e old (λ q. out (inl (sym q)))) (ap (λ (x : List ℕ). e ∷ x) (none_in_place old new es (λ i. out (inr i))))

pub replaced_after : (old by : ℕ) (es : List ℕ) → Distinct es → in_its_place old (by ∷ []) es ≡ with_in_place old by es
replaced_after old by [] d = refl
replaced_after old by (e ∷ es) d = elim (cases_eq e old) [
  | inl q ↦ rw (eq-eqb e old q) (ap (λ (x : List ℕ). by ∷ x) (none_in_place old (by ∷ []) es (λ i. d.0 (subst (λ (x : ℕ). In x es) (sym q) i))))
  | inr ne ↦ rw (ne_eqb e old ne) (ap (λ (x : List ℕ). e ∷ x) (replaced_after old by es d.1))
]

pub left_after : (old : ℕ) (es : List ℕ) → Distinct es → in_its_place old [] es ≡ without old es
left_after old [] d = refl
left_after old (e ∷ es) d = elim (cases_eq e old) [
  | inl q ↦ rw (eq-eqb e old q) (none_in_place old [] es (λ i. d.0 (subst (λ (x : ℕ). In x es) (sym q) i)))
  | inr ne ↦ rw (ne_eqb e old ne) (ap (λ (x : List ℕ). e ∷ x) (left_after old es d.1))
]

-- ---- the greatest numbers

pub greatest_integer : (kind : EntryKind) (b now : List ℕ) (adr : ℕ) → number now adr (max_field kind) ≡ number b adr (max_field kind) → integer4 now adr (max_field kind) ≡ integer4 b adr (max_field kind)
greatest_integer entries.G b now adr e = ap (cast_signed w32) e
greatest_integer entries.R b now adr e = ap (cast_signed w32) e
greatest_integer entries.Z b now adr e = ap (cast_signed w32) e

other_integer : (kind : EntryKind) (b now : List ℕ) (adr : ℕ) → number now adr (other_max kind) ≡ number b adr (other_max kind) → integer4 now adr (other_max kind) ≡ integer4 b adr (other_max kind)
other_integer entries.G b now adr e = ap (cast_signed w32) e
other_integer entries.R b now adr e = ap (cast_signed w32) e
other_integer entries.Z b now adr e = ap (cast_signed w32) e

pub greatest_follow : (kind : EntryKind) (b now : List ℕ) (own : AttributeShape) (es : List ℕ) → integer4 now own.adr (max_field kind) ≡ greatest_number (entries_of (attribute_of now (with_chain own kind es)) kind) → number now own.adr (other_max kind) ≡ number b own.adr (other_max kind) → (other : EntryKind) → GreatestIs b now own (with_chain own kind es) other (share_chain kind other)
greatest_follow entries.G b now own es g o entries.G = g
greatest_follow entries.G b now own es g o entries.R = g
greatest_follow entries.G b now own es g o entries.Z = other_integer entries.G b now own.adr o
greatest_follow entries.R b now own es g o entries.G = g
greatest_follow entries.R b now own es g o entries.R = g
greatest_follow entries.R b now own es g o entries.Z = other_integer entries.R b now own.adr o
greatest_follow entries.Z b now own es g o entries.G = other_integer entries.Z b now own.adr o
greatest_follow entries.Z b now own es g o entries.R = other_integer entries.Z b now own.adr o
greatest_follow entries.Z b now own es g o entries.Z = g
