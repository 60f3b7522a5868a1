-- What acts leave and what records keep, computed as truth values over the bytes of two images.
use Rattle.cdf_examples.proofs.Common.{Act, ActsFollow, AllKeep, Allowance, Allowances, Among, Anything, AreActs, Attribute, AttributeShape, Bool, Command, DeletesNamed, DeletesVariable, Each, EntryIs, Field, Found, FreedStay, FreedStays, Gave, GivenStay, Keeps, List, NodeSpareStays, Nodes, NodesFollow, NodesFreedStay, None, Only, Option, OutsideFields, Owner, RestStays, Same, Shape, Some, SpaceLeft, Took, UnusedEntries, VariableShape, [], after_act, allowance, allowances, ap, ap₂, arith, attribute_named, back_of, byte, content, content_of, drop, eq-eqb, eqb-true, false, field, filter, first_at, fold, get_or-drop, inl, inr, is_in, is_taken_at, last_at, leb-true, length, links_end, loose_records, lt-ltb, min, nat_le, nat_lt, not, number, offset_at, owned, place_for, refl, room_at, shape, shapes_of, size_at, sized, slice_get, slice_index, space_before, subst, suc, sym, true, type_at, uir_prev_uir, uir_type, unused, unused_records, used_count, used_records, variable_named, vxr_type, was_unused, word, zero, ℕ, ◌*◌, ◌+◌, ◌-◌, ◌<◌, ◌==◌, ◌^◌, ◌||◌, ◌∙◌, ◌∷◌, ◌≡◌, ◌≤◌, ◌⊎◌}
use Rattle.std.proofs.Common.{◌&&◌, map}
use Rattle.cdf_edits.specs.Commands.Named.{OfAttribute, OfVariable}
use Rattle.cdf_format.specs.IndexOf.{SaysEntry}
use Rattle.cdf_format.proofs.Members.{true-is_in}
use Rattle.cdf_examples.proofs.BytesKept.{all_below, below, agree_in, agreed}
use Rattle.cdf_examples.proofs.Refusing.{has}

both : (p q : Bool) → (p && q) ≡ true → (p ≡ true) × (q ≡ true)
both true q e = (refl, e)
both false q e = absurd cc

-- ---- lists

abbrev pub each_by : {A : Type 0} → (A → Bool) → List A → Bool
each_by test [] = true
each_by test (a ∷ more) = test a && each_by test more

pub each_if : {A : Type 0} (P : A → Type 0) (test : A → Bool) → ((a : A) → test a ≡ true → P a) → (list : List A) → each_by test list ≡ true → Each P list
each_if P test one [] e = tt
each_if P test one (a ∷ more) e = let two = both (test a) (each_by test more) e in (one a two.0, each_if P test one more two.1)

pub has-among : (pair : ℕ × ℕ) (list : List (ℕ × ℕ)) → has pair list ≡ true → Among pair list
has-among pair [] e = absurd cc
has-among pair (other ∷ more) e = choose ((pair.0 == other.0) && (pair.1 == other.1)) refl e (has-among pair more)
  where
    choose : (p : Bool) → ((pair.0 == other.0) && (pair.1 == other.1)) ≡ p → (p || has pair more) ≡ true → (has pair more ≡ true → Among pair more) → Among pair (other ∷ more)
    choose true is e later = let two = both (pair.0 == other.0) (pair.1 == other.1) is in inl (ap₂ (λ (x y : ℕ). (x, y)) (eqb-true pair.0 other.0 two.0) (eqb-true pair.1 other.1 two.1))
    choose false is e later = inr (later e)

-- ---- what a record keeps

abbrev pub in_fields : List Field → ℕ → Bool
in_fields [] i = false
in_fields (f ∷ more) i = (nat_le f.place i && nat_lt i (f.place + f.width)) || in_fields more i

apart : (from upto place : ℕ) → (place < from) ⊎ (upto ≤ place) → (nat_le from place && nat_lt place upto) ≡ true → ⊥
apart from upto place outside e =
    let two = both (nat_le from place) (nat_lt place upto) e in
    let after : from ≤ place = leb-true from place two.0 in
    let before : place < upto = leb-true (suc place) upto two.1 in
    elim outside [ inl low ↦ omega (arith, low, after) | inr high ↦ omega (arith, high, before) ]

outside-fields : (fields : List Field) (i : ℕ) (q : Bool) → OutsideFields fields i → (in_fields fields i || q) ≡ true → q ≡ true
outside-fields [] i q out e = e
outside-fields (f ∷ more) i q out e = choose (nat_le f.place i && nat_lt i (f.place + f.width)) refl e (outside-fields more i q out.1)
  where
    choose : (p : Bool) → (nat_le f.place i && nat_lt i (f.place + f.width)) ≡ p → ((p || in_fields more i) || q) ≡ true → ((in_fields more i || q) ≡ true → q ≡ true) → q ≡ true
    choose true is e later = absurd (apart f.place (f.place + f.width) i out.0 is)
    choose false is e later = later e

abbrev pub same_by : List ℕ → List ℕ → ℕ → List Field → Bool
same_by b now place fields = agree_in b now (in_fields fields) place 0 (size_at b place)

abbrev pub keeps_by : List ℕ → List ℕ → List ℕ → ℕ → Allowance → Bool
keeps_by b now records place Anything = true
keeps_by b now records place (Only fields) = is_in place records && ((size_at now place == size_at b place) && same_by b now place fields)

keeps_if : (b now : List ℕ) (place : ℕ) (a : Allowance) → keeps_by b now (shape now).records place a ≡ true → Keeps b now place a
keeps_if b now place Anything e = tt
keeps_if b now place (Only fields) e =
    let two = both (is_in place (shape now).records) ((size_at now place == size_at b place) && same_by b now place fields) e in
    let more = both (size_at now place == size_at b place) (same_by b now place fields) two.1 in
    record {
      stands = true-is_in place (shape now).records two.0;
      size_is = eqb-true (size_at now place) (size_at b place) more.0;
      same = λ i less out. eqb-true (byte now (place + i)) (byte b (place + i))
          (outside-fields fields i (byte now (place + i) == byte b (place + i)) out (agreed b now (in_fields fields) place 0 (size_at b place) more.1 i (omega arith) (omega (arith, less))));
    }

abbrev pub all_keep_by : List ℕ → Shape → List ℕ → List ℕ → Allowances → List Act → List (ℕ × Owner) → Bool
all_keep_by b s now records may acts [] = true
all_keep_by b s now records may acts ((place, owner) ∷ more) = keeps_by b now records place (allowance b s may acts place owner) && all_keep_by b s now records may acts more

pub all_keep_if : (b now : List ℕ) (may : Allowances) (acts : List Act) (list : List (ℕ × Owner)) → all_keep_by b (shape b) now (shape now).records may acts list ≡ true → AllKeep b now may acts list
all_keep_if b now may acts [] e = tt
all_keep_if b now may acts ((place, owner) ∷ more) e =
    let two = both (keeps_by b now (shape now).records place (allowance b (shape b) may acts place owner)) (all_keep_by b (shape b) now (shape now).records may acts more) e in
    (keeps_if b now place (allowance b (shape b) may acts place owner) two.0, all_keep_if b now may acts more two.1)

-- likewise of two images whose shapes are these
pub keep_in : (b now : List ℕ) (s s' : Shape) (c : Command) (acts : List Act) → shape b ≡ s → shape now ≡ s' → all_keep_by b s now s'.records (allowances b (content_of b s) s c) acts (owned b s) ≡ true
    → AllKeep b now (allowances b (content b) (shape b) c) acts (owned b (shape b))
unfolding content
keep_in b now s s' c acts is is' e =
    let now_known : all_keep_by b s now (shape now).records (allowances b (content_of b s) s c) acts (owned b s) ≡ true =
    subst (λ (x : Shape). all_keep_by b s now x.records (allowances b (content_of b s) s c) acts (owned b s) ≡ true) (sym is') e in
    all_keep_if b now (allowances b (content b) (shape b) c) acts (owned b (shape b))
    (subst (λ (x : Shape). all_keep_by b x now (shape now).records (allowances b (content_of b x) x c) acts (owned b x) ≡ true) (sym is) now_known)

-- ---- what acts leave

abbrev pub happens_by : SpaceLeft → Act → Bool
happens_by left (Took place need) = nat_le 28 need && (place == place_for left.listed left.end need)
happens_by left (Gave place size) = has (place, size) left.used

abbrev pub are_by : SpaceLeft → List Act → Bool
are_by left [] = true
are_by left (act ∷ more) = happens_by left act && are_by (after_act left act) more

are_if : (left : SpaceLeft) (acts : List Act) → are_by left acts ≡ true → AreActs left acts
are_if left [] e = tt
are_if left (Took place need ∷ more) e =
    let two = both (happens_by left (Took place need)) (are_by (after_act left (Took place need)) more) e in
    let here = both (nat_le 28 need) (place == place_for left.listed left.end need) two.0 in
    ((leb-true 28 need here.0, eqb-true place (place_for left.listed left.end need) here.1), are_if (after_act left (Took place need)) more two.1)
are_if left (Gave place size ∷ more) e =
    let two = both (happens_by left (Gave place size)) (are_by (after_act left (Gave place size)) more) e in
    (has-among (place, size) left.used two.0, are_if (after_act left (Gave place size)) more two.1)

abbrev pub left_by : List ℕ → List ℕ → List (ℕ × ℕ) → Bool
left_by now places list = each_by (λ place. has (place, size_at now place) list) places

left_if : (now places : List ℕ) (list : List (ℕ × ℕ)) → left_by now places list ≡ true → Each (λ place. Among (place, size_at now place) list) places
left_if now places list e = each_if (λ place. Among (place, size_at now place) list) (λ place. has (place, size_at now place) list) (λ place h. has-among (place, size_at now place) list h) places e

abbrev pub rest_by : List ℕ → List ℕ → ℕ → ℕ → Bool
rest_by b now split rest = not (nat_lt split rest && nat_lt rest (split + size_at b split)) || agree_in b now (λ i. false) rest 28 (size_at now rest - 28)

rest_if : (b now : List ℕ) (acts : List Act) (split rest : ℕ) → rest_by b now split rest ≡ true → RestStays b now acts split rest
rest_if b now acts split rest e low high i from upto untaken =
    let at : rest + (i - rest) ≡ i = omega arith in
    let same = agreed b now (λ i. false) rest 28 (size_at now rest - 28) (tests (nat_lt split rest) (nat_lt rest (split + size_at b split)) _ (lt-ltb split rest low) (lt-ltb rest (split + size_at b split) high) e) (i - rest) (omega arith) (omega arith) in
    subst (λ (n : ℕ). byte now n ≡ byte b n) at (eqb-true (byte now (rest + (i - rest))) (byte b (rest + (i - rest))) same)
  where
    tests : (p q r : Bool) → p ≡ true → q ≡ true → (not (p && q) || r) ≡ true → r ≡ true
    tests true true r x y f = f
    tests true false r x y f = absurd cc
    tests false q r x y f = absurd cc

pub acts_follow_if : (b now : List ℕ) (acts : List Act) → are_by (space_before b) acts ≡ true → left_by now (used_records now) (fold after_act (space_before b) acts).used ≡ true → unused now (shape now) ≡ (fold after_act (space_before b) acts).listed
    → back_of now ≡ (fold after_act (space_before b) acts).back → left_by now (loose_records now) (fold after_act (space_before b) acts).loose ≡ true → length now ≡ (fold after_act (space_before b) acts).end
    → each_by (λ split. each_by (rest_by b now split) (shape now).unused) (shape b).unused ≡ true → ActsFollow b now acts
acts_follow_if b now acts are used listed back loose end rests = record {
  are = are_if (space_before b) acts are;
  left = record {
    used_are = left_if now (used_records now) (fold after_act (space_before b) acts).used used;
    list_is = listed;
    back_is = back;
    loose_are = left_if now (loose_records now) (fold after_act (space_before b) acts).loose loose;
    end_is = end;
  };
  rests = each_if (λ split. Each (RestStays b now acts split) (shape now).unused) (λ split. each_by (rest_by b now split) (shape now).unused)
      (λ split e. each_if (RestStays b now acts split) (rest_by b now split) (λ rest h. rest_if b now acts split rest h) (shape now).unused e) (shape b).unused rests;
}

-- likewise of two images whose shapes are these
abbrev pub used_in : List ℕ → Shape → List ℕ
used_in b s = filter (λ place. not (type_at b place == uir_type)) s.records

abbrev pub loose_in : List ℕ → Shape → List ℕ
loose_in b s = filter (λ place. not (is_in place s.unused)) (unused_records b s)

abbrev pub back_in : List ℕ → Shape → List (ℕ × ℕ)
back_in b s = map (λ uir. (uir, number b uir uir_prev_uir)) s.unused

abbrev pub space_in : List ℕ → Shape → SpaceLeft
space_in b s = record { used = sized b (used_in b s); listed = unused b s; back = back_in b s; loose = sized b (loose_in b s); end = length b }

abbrev pub FollowIf : List ℕ → List ℕ → List Act → Shape → Shape → Type 0
FollowIf b now acts s s' =
    are_by (space_in b s) acts ≡ true → left_by now (used_in now s') (fold after_act (space_in b s) acts).used ≡ true → unused now s' ≡ (fold after_act (space_in b s) acts).listed
    → back_in now s' ≡ (fold after_act (space_in b s) acts).back → left_by now (loose_in now s') (fold after_act (space_in b s) acts).loose ≡ true → length now ≡ (fold after_act (space_in b s) acts).end
    → each_by (λ split. each_by (rest_by b now split) s'.unused) s.unused ≡ true → ActsFollow b now acts

pub follow_in : (b now : List ℕ) (s s' : Shape) (acts : List Act) → shape b ≡ s → shape now ≡ s' → FollowIf b now acts s s'
follow_in b now s s' acts is is' = subst (λ (x : Shape). FollowIf b now acts x s') is (subst (λ (x : Shape). FollowIf b now acts (shape b) x) is' (acts_follow_if b now acts))

-- ---- nodes

abbrev pub entry_by : List ℕ → List ℕ → ℕ → ℕ → Bool → Bool
entry_by b now vxr i true = (first_at now vxr i == first_at b vxr i) && ((last_at now vxr i == last_at b vxr i) && (offset_at now vxr i == offset_at b vxr i))
entry_by b now vxr i false = (first_at now vxr i == 0xffffffff) && ((last_at now vxr i == 0xffffffff) && (offset_at now vxr i == 0xffffffffffffffff))

says_if : (now : List ℕ) (vxr i first last offset : ℕ) → ((first_at now vxr i == first) && ((last_at now vxr i == last) && (offset_at now vxr i == offset))) ≡ true → SaysEntry now vxr i first last offset
says_if now vxr i first last offset e =
    let two = both (first_at now vxr i == first) ((last_at now vxr i == last) && (offset_at now vxr i == offset)) e in
    let more = both (last_at now vxr i == last) (offset_at now vxr i == offset) two.1 in
    record { first_is = eqb-true (first_at now vxr i) first two.0; last_is = eqb-true (last_at now vxr i) last more.0; offset_is = eqb-true (offset_at now vxr i) offset more.1 }

entry_if : (b now : List ℕ) (vxr i : ℕ) (was : Bool) → entry_by b now vxr i was ≡ true → EntryIs b now vxr i was
entry_if b now vxr i true e = says_if now vxr i (first_at b vxr i) (last_at b vxr i) (offset_at b vxr i) e
entry_if b now vxr i false e = says_if now vxr i 0xffffffff 0xffffffff 0xffffffffffffffff e

abbrev pub node_by : List ℕ → List ℕ → List ℕ → List Act → ℕ → Bool
node_by b now before acts vxr =
    all_below (λ i. nat_lt i (used_count now vxr) || entry_by b now vxr i (was_unused b before acts vxr i)) (room_at now vxr)
    && (is_taken_at acts vxr || nat_le (size_at b vxr) (28 + 16 * room_at now vxr))

pub entries_if : (b now : List ℕ) (before : List ℕ) (acts : List Act) (vxr : ℕ) → all_below (λ i. nat_lt i (used_count now vxr) || entry_by b now vxr i (was_unused b before acts vxr i)) (room_at now vxr) ≡ true
    → (i : ℕ) → used_count now vxr ≤ i → i < room_at now vxr → EntryIs b now vxr i (was_unused b before acts vxr i)
entries_if b now before acts vxr e i from upto =
    entry_if b now vxr i (was_unused b before acts vxr i) (past (nat_lt i (used_count now vxr)) refl (below (λ i. nat_lt i (used_count now vxr) || entry_by b now vxr i (was_unused b before acts vxr i)) (room_at now vxr) e i upto))
  where
    past : (p : Bool) → nat_lt i (used_count now vxr) ≡ p → (p || entry_by b now vxr i (was_unused b before acts vxr i)) ≡ true → entry_by b now vxr i (was_unused b before acts vxr i) ≡ true
    past true is e = let low : i < used_count now vxr = leb-true (suc i) (used_count now vxr) is in absurd (omega (arith, low, from))
    past false is e = e

unused_if : (b now : List ℕ) (through : List Nodes) (before : List ℕ) (acts : List Act) (vxr : ℕ) → all_below (λ i. nat_lt i (used_count now vxr) || entry_by b now vxr i (was_unused b before acts vxr i)) (room_at now vxr) ≡ true → UnusedEntries b now through before acts vxr
unused_if b now through before acts vxr e i from upto = inl (entries_if b now before acts vxr e i from upto)

pub spare_if : (b now : List ℕ) (acts : List Act) (vxr : ℕ) → (is_taken_at acts vxr || nat_le (size_at b vxr) (28 + 16 * room_at now vxr)) ≡ true → NodeSpareStays b now acts vxr
spare_if b now acts vxr e free = choose (is_taken_at acts vxr) e free
  where
    choose : (p : Bool) → (p || nat_le (size_at b vxr) (28 + 16 * room_at now vxr)) ≡ true → p ≡ false → Same b now (vxr + (28 + 16 * room_at now vxr)) (vxr + size_at b vxr)
    choose true e f = absurd cc
    choose false e f = let short : size_at b vxr ≤ 28 + 16 * room_at now vxr = leb-true (size_at b vxr) (28 + 16 * room_at now vxr) e in record { each = λ i low high. absurd (none (28 + 16 * room_at now vxr) (size_at b vxr) i short low high) }
      where
        none : (end size i : ℕ) → size ≤ end → vxr + end ≤ i → i < vxr + size → ⊥
        none end size i short low high = omega (arith, short, low, high)

pub nodes_if : (b now : List ℕ) (through : List Nodes) (before after : List ℕ) (acts : List Act) → each_by (node_by b now before acts) after ≡ true → NodesFollow b now through before after acts
nodes_if b now through before after acts e = record {
  unused = each_if (UnusedEntries b now through before acts) (node_by b now before acts) (λ vxr h. unused_if b now through before acts vxr (both (all_below (λ i. nat_lt i (used_count now vxr) || entry_by b now vxr i (was_unused b before acts vxr i)) (room_at now vxr)) (is_taken_at acts vxr || nat_le (size_at b vxr) (28 + 16 * room_at now vxr)) h).0) after e;
  spare = each_if (NodeSpareStays b now acts) (node_by b now before acts) (λ vxr h. spare_if b now acts vxr (both (all_below (λ i. nat_lt i (used_count now vxr) || entry_by b now vxr i (was_unused b before acts vxr i)) (room_at now vxr)) (is_taken_at acts vxr || nat_le (size_at b vxr) (28 + 16 * room_at now vxr)) h).1) after e;
}

-- the first n bytes of a list are 255
abbrev pub all_ones : List ℕ → ℕ → Bool
all_ones bytes zero = true
all_ones [] (suc n) = false
all_ones (byte ∷ more) (suc n) = (byte == 255) && all_ones more n

ones_at : (bytes : List ℕ) (n k : ℕ) → all_ones bytes n ≡ true → k < n → slice_index bytes k ≡ 255
ones_at bytes zero k e less = absurd (omega (arith, less))
ones_at [] (suc n) k e less = absurd cc
ones_at (byte ∷ more) (suc n) zero e less = eqb-true byte 255 (both (byte == 255) (all_ones more n) e).0
ones_at (byte ∷ more) (suc n) (suc k) e less = ones_at more n k (both (byte == 255) (all_ones more n) e).1 (omega (arith, less))

-- so a number of 4 or of 8 bytes among n of these is -1
module _ (b : List ℕ) (from n : ℕ) (ones : all_ones (drop from b) n ≡ true) where
  one_byte : (k : ℕ) → from ≤ k → k < from + n → byte b k ≡ 255
  one_byte k low high =
      let on : from + (k - from) ≡ k = omega (arith, low) in
      ap (λ (i : ℕ). byte b i) (sym on) ∙ sym (get_or-drop from b (k - from) 0) ∙ ones_at (drop from b) n (k - from) ones (omega (arith, low, high))

  four_ones : (at : ℕ) → from ≤ at → at + 4 ≤ from + n → word b at 4 ≡ 0xffffffff
  four_ones at low high = made (byte b at) (byte b (suc at)) (byte b (suc (suc at))) (byte b (suc (suc (suc at)))) (one_byte at low (omega (arith, high))) (one_byte (suc at) (omega (arith, low)) (omega (arith, high)))
      (one_byte (suc (suc at)) (omega (arith, low)) (omega (arith, high))) (one_byte (suc (suc (suc at))) (omega (arith, low)) (omega (arith, high)))
    where
      made : (w x y z : ℕ) → w ≡ 255 → x ≡ 255 → y ≡ 255 → z ≡ 255 → w * 256 ^ 3 + (x * 256 ^ 2 + (y * 256 ^ 1 + (z * 256 ^ 0 + 0))) ≡ 0xffffffff
      made w x y z ew ex ey ez = rw (ew, ex, ey, ez) refl

  eight_ones : (at : ℕ) → from ≤ at → at + 8 ≤ from + n → word b at 8 ≡ 0xffffffffffffffff
  eight_ones at low high =
      made (byte b at) (byte b (suc at)) (byte b (suc (suc at))) (byte b (suc (suc (suc at)))) (word b (suc (suc (suc (suc at)))) 4)
      (one_byte at low (omega (arith, high))) (one_byte (suc at) (omega (arith, low)) (omega (arith, high))) (one_byte (suc (suc at)) (omega (arith, low)) (omega (arith, high)))
      (one_byte (suc (suc (suc at))) (omega (arith, low)) (omega (arith, high))) (four_ones (suc (suc (suc (suc at)))) (omega (arith, low)) (omega (arith, high)))
    where
      made : (w x y z more : ℕ) → w ≡ 255 → x ≡ 255 → y ≡ 255 → z ≡ 255 → more ≡ 0xffffffff → w * 256 ^ 7 + (x * 256 ^ 6 + (y * 256 ^ 5 + (z * 256 ^ 4 + more))) ≡ 0xffffffffffffffff
      made w x y z more ew ex ey ez e = rw (ew, ex, ey, ez, e) refl

-- a node that was taken has room for so many entries, of which so many are used, and the others are -1 throughout
abbrev pub is_bare : List ℕ → List Act → ℕ → ℕ → ℕ → Bool
is_bare now acts room used vxr =
    (is_taken_at acts vxr && ((room_at now vxr == room) && (used_count now vxr == used)))
    && (all_ones (drop (vxr + (28 + 4 * used)) now) (4 * (room - used))
    && (all_ones (drop (vxr + (28 + 4 * room + 4 * used)) now) (4 * (room - used)) && all_ones (drop (vxr + (28 + 8 * room + 8 * used)) now) (8 * (room - used))))

bare_entry : (now : List ℕ) (vxr room used : ℕ) → room_at now vxr ≡ room → all_ones (drop (vxr + (28 + 4 * used)) now) (4 * (room - used)) ≡ true → all_ones (drop (vxr + (28 + 4 * room + 4 * used)) now) (4 * (room - used)) ≡ true
    → all_ones (drop (vxr + (28 + 8 * room + 8 * used)) now) (8 * (room - used)) ≡ true → (i : ℕ) → used ≤ i → i < room → SaysEntry now vxr i 0xffffffff 0xffffffff 0xffffffffffffffff
bare_entry now vxr room used is firsts lasts offsets i from upto = record {
  first_is = four_ones now (vxr + (28 + 4 * used)) (4 * (room - used)) firsts (vxr + (28 + 4 * i)) (omega (arith, from)) (omega (arith, from, upto));
  last_is = ap (λ (n : ℕ). word now (vxr + (28 + 4 * n + 4 * i)) 4) is ∙ four_ones now (vxr + (28 + 4 * room + 4 * used)) (4 * (room - used)) lasts (vxr + (28 + 4 * room + 4 * i)) (omega (arith, from)) (omega (arith, from, upto));
  offset_is = ap (λ (n : ℕ). word now (vxr + (28 + 8 * n + 8 * i)) 8) is ∙ eight_ones now (vxr + (28 + 8 * room + 8 * used)) (8 * (room - used)) offsets (vxr + (28 + 8 * room + 8 * i)) (omega (arith, from)) (omega (arith, from, upto));
}

pub bare_if : (b now : List ℕ) (acts : List Act) (room used vxr : ℕ) → is_bare now acts room used vxr ≡ true → UnusedEntries b now [] [] acts vxr × NodeSpareStays b now acts vxr
bare_if b now acts room used vxr e =
    let parts = both (is_taken_at acts vxr && ((room_at now vxr == room) && (used_count now vxr == used))) (all_ones (drop (vxr + (28 + 4 * used)) now) (4 * (room - used)) && (all_ones (drop (vxr + (28 + 4 * room + 4 * used)) now) (4 * (room - used)) && all_ones (drop (vxr + (28 + 8 * room + 8 * used)) now) (8 * (room - used)))) e in
    let head = both (is_taken_at acts vxr) ((room_at now vxr == room) && (used_count now vxr == used)) parts.0 in
    let counts = both (room_at now vxr == room) (used_count now vxr == used) head.1 in
    let ones = both (all_ones (drop (vxr + (28 + 4 * used)) now) (4 * (room - used))) (all_ones (drop (vxr + (28 + 4 * room + 4 * used)) now) (4 * (room - used)) && all_ones (drop (vxr + (28 + 8 * room + 8 * used)) now) (8 * (room - used))) parts.1 in
    let more = both (all_ones (drop (vxr + (28 + 4 * room + 4 * used)) now) (4 * (room - used))) (all_ones (drop (vxr + (28 + 8 * room + 8 * used)) now) (8 * (room - used))) ones.1 in
    let room_is = eqb-true (room_at now vxr) room counts.0 in
    let used_is = eqb-true (used_count now vxr) used counts.1 in
    (λ i from upto. inl (bare_entry now vxr room used room_is ones.0 more.0 more.1 i (subst (λ (n : ℕ). n ≤ i) used_is from) (subst (λ (n : ℕ). i < n) room_is upto)), λ untaken. absurd (clash (is_taken_at acts vxr) head.0 untaken))
  where
    clash : (p : Bool) → p ≡ true → p ≡ false → ⊥
    clash true is other = absurd cc
    clash false is other = absurd cc

-- ---- records that are freed

-- what lies behind the links of the unused record, from the first such byte of the freed one on
abbrev pub freed_by : List ℕ → List ℕ → ℕ → ℕ → List Field → ℕ → Bool
freed_by b now place size fields uir =
    agree_in b now (in_fields fields) place (uir + links_end (size_at now uir) - place) (min size (uir + size_at now uir - place) - (uir + links_end (size_at now uir) - place))

freed_one : (b now : List ℕ) (acts : List Act) (place size : ℕ) (fields : List Field) (uir : ℕ) → freed_by b now place size fields uir ≡ true → FreedStays b now acts place size fields uir
freed_one b now acts place size fields uir e i less from upto out untaken =
    eqb-true (byte now (place + i)) (byte b (place + i)) (outside-fields fields i (byte now (place + i) == byte b (place + i)) out
    (agreed b now (in_fields fields) place (uir + links_end (size_at now uir) - place) (min size (uir + size_at now uir - place) - (uir + links_end (size_at now uir) - place)) e i (omega arith) (omega arith)))

abbrev pub freed_stay_by : List ℕ → List ℕ → List ℕ → (ℕ → List Field) → List Act → Bool
freed_stay_by b now uirs but [] = true
freed_stay_by b now uirs but (Took place need ∷ more) = freed_stay_by b now uirs but more
freed_stay_by b now uirs but (Gave place size ∷ more) = each_by (freed_by b now place size (but (type_at b place))) uirs && freed_stay_by b now uirs but more

-- of what some of the acts free, and of what all do
pub given_if : (b now : List ℕ) (but : ℕ → List Field) (acts gives : List Act) → freed_stay_by b now (unused_records now (shape now)) but gives ≡ true → GivenStay b now but acts gives
given_if b now but acts [] e = tt
given_if b now but acts (Took place need ∷ more) e = given_if b now but acts more e
given_if b now but acts (Gave place size ∷ more) e =
    let two = both (each_by (freed_by b now place size (but (type_at b place))) (unused_records now (shape now))) (freed_stay_by b now (unused_records now (shape now)) but more) e in
    (each_if (FreedStays b now acts place size (but (type_at b place))) (freed_by b now place size (but (type_at b place))) (λ uir h. freed_one b now acts place size (but (type_at b place)) uir h) (unused_records now (shape now)) two.0, given_if b now but acts more two.1)

pub freed_if : (b now : List ℕ) (but : ℕ → List Field) (acts : List Act) → freed_stay_by b now (unused_records now (shape now)) but acts ≡ true → FreedStay b now but acts
freed_if b now but acts e = given_if b now but acts acts e

-- likewise of an image whose shape is this
pub freed_in : (b now : List ℕ) (but : ℕ → List Field) (s : Shape) (acts : List Act) → shape now ≡ s → freed_stay_by b now (unused_records now s) but acts ≡ true → FreedStay b now but acts
freed_in b now but s acts is e = freed_if b now but acts (subst (λ (x : Shape). freed_stay_by b now (unused_records now x) but acts ≡ true) (sym is) e)

abbrev pub nodes_freed_by : List ℕ → List ℕ → List ℕ → List Act → Bool
nodes_freed_by b now uirs [] = true
nodes_freed_by b now uirs (Took place need ∷ more) = nodes_freed_by b now uirs more
nodes_freed_by b now uirs (Gave place size ∷ more) = (not (type_at b place == vxr_type) || each_by (freed_by b now place size (field 28 (16 * room_at b place) ∷ [])) uirs) && nodes_freed_by b now uirs more

pub nodes_freed_if : (b now : List ℕ) (acts gives : List Act) → nodes_freed_by b now (unused_records now (shape now)) gives ≡ true → NodesFreedStay b now acts gives
nodes_freed_if b now acts [] e = tt
nodes_freed_if b now acts (Took place need ∷ more) e = nodes_freed_if b now acts more e
nodes_freed_if b now acts (Gave place size ∷ more) e =
    let fields = field 28 (16 * room_at b place) ∷ [] in
    let two = both (not (type_at b place == vxr_type) || each_by (freed_by b now place size fields) (unused_records now (shape now))) (nodes_freed_by b now (unused_records now (shape now)) more) e in
    (λ is. each_if (FreedStays b now acts place size fields) (freed_by b now place size fields) (λ uir h. freed_one b now acts place size fields uir h) (unused_records now (shape now)) (of_node (type_at b place == vxr_type) (eq-eqb (type_at b place) vxr_type is) two.0), nodes_freed_if b now acts more two.1)
  where
    of_node : (p : Bool) → p ≡ true → {q : Bool} → (not p || q) ≡ true → q ≡ true
    of_node true is e = e
    of_node false is e = absurd cc

-- ---- what a command names

abbrev pub or_else : {A : Type 0} → A → Option A → A
or_else x None = x
or_else x (Some y) = y

pub of_variable : (b now name : List ℕ) (F : Found → VariableShape → VariableShape → Type 0) (found : Found) (v v' : VariableShape) → variable_named (content b) name ≡ Some found
    → slice_get (shapes_of (shape b) found.kind) found.number ≡ Some v → slice_get (shapes_of (shape now) found.kind) found.number ≡ Some v' → F found v v' → OfVariable b now name F
of_variable b now name F found v v' named before after f other w w' is =
    let same : found ≡ other = ap (or_else found) (sym named ∙ is.named) in
    let before_is = subst (λ (x : Found). slice_get (shapes_of (shape b) x.kind) x.number ≡ Some w) (sym same) is.before in
    let after_is = subst (λ (x : Found). slice_get (shapes_of (shape now) x.kind) x.number ≡ Some w') (sym same) is.after in
    let first : v ≡ w = ap (or_else v) (sym before ∙ before_is) in
    let last : v' ≡ w' = ap (or_else v') (sym after ∙ after_is) in
    subst (λ (x : VariableShape). F other x w') first (subst (λ (x : VariableShape). F other v x) last (subst (λ (x : Found). F x v v') same f))

pub deleted_named : (b now name : List ℕ) (acts : List Act) (found : Found) (v : VariableShape) → variable_named (content b) name ≡ Some found
    → slice_get (shapes_of (shape b) found.kind) found.number ≡ Some v → DeletesVariable b now found v acts → DeletesNamed b now name acts
deleted_named b now name acts found v named before d other w is before_other =
    let same : found ≡ other = ap (or_else found) (sym named ∙ is) in
    let before_is = subst (λ (x : Found). slice_get (shapes_of (shape b) x.kind) x.number ≡ Some w) (sym same) before_other in
    let first : v ≡ w = ap (or_else v) (sym before ∙ before_is) in
    subst (λ (x : VariableShape). DeletesVariable b now other x acts) first (subst (λ (x : Found). DeletesVariable b now x v acts) same d)

pub of_attribute : (b now name : List ℕ) (F : AttributeShape → AttributeShape → Type 0) (pair : ℕ × Attribute) (a a' : AttributeShape) → attribute_named (content b) name ≡ Some pair
    → slice_get (shape b).attributes pair.0 ≡ Some a → slice_get (shape now).attributes pair.0 ≡ Some a' → F a a' → OfAttribute b now name F
of_attribute b now name F pair a a' named before after f n w w' is =
    let said : elim (Some pair) [ None ↦ false | Some found ↦ found.0 == n ] ≡ true = subst (λ (x : Option (ℕ × Attribute)). elim x [ None ↦ false | Some found ↦ found.0 == n ] ≡ true) named is.named in
    let same : pair.0 ≡ n = eqb-true pair.0 n said in
    let first : a ≡ w = ap (or_else a) (sym before ∙ subst (λ (k : ℕ). slice_get (shape b).attributes k ≡ Some w) (sym same) is.before_is) in
    let last : a' ≡ w' = ap (or_else a') (sym after ∙ subst (λ (k : ℕ). slice_get (shape now).attributes k ≡ Some w') (sym same) is.after_is) in
    subst (λ (x : AttributeShape). F x w') first (subst (λ (x : AttributeShape). F a x) last f)

-- ---- records, one after the other

pub same_if : (b now : List ℕ) (from upto : ℕ) → agree_in b now (λ i. false) 0 from (upto - from) ≡ true → Same b now from upto
same_if b now from upto e = record { each = λ i low high. subst (λ (n : ℕ). byte now n ≡ byte b n) (zero_more i) (eqb-true (byte now (0 + i)) (byte b (0 + i)) (agreed b now (λ i. false) 0 from (upto - from) e i low (omega arith))) }
  where
    zero_more : (i : ℕ) → 0 + i ≡ i
    zero_more i = omega arith

-- of a number that a range of one, of two or of four covers
covered_last : (k last : ℕ) → ((nat_le 0 k && nat_le k last) || false) ≡ true → k ≤ last
covered_last k last covered = leb-true k last (second (nat_le 0 k) (nat_le k last) covered)
  where
    second : (p q : Bool) → ((p && q) || false) ≡ true → q ≡ true
    second true true e = refl
    second true false e = absurd cc
    second false q e = absurd cc

pub of_one : (P : ℕ → Type 0) → P 0 → (k : ℕ) → ((nat_le 0 k && nat_le k 0) || false) ≡ true → P k
of_one P p0 zero covered = p0
of_one P p0 (suc k) covered = let last = covered_last (suc k) 0 covered in absurd (omega (arith, last))

pub of_two : (P : ℕ → Type 0) → P 0 → P 1 → (k : ℕ) → ((nat_le 0 k && nat_le k 1) || false) ≡ true → P k
of_two P p0 p1 zero covered = p0
of_two P p0 p1 (suc zero) covered = p1
of_two P p0 p1 (suc (suc k)) covered = let last = covered_last (suc (suc k)) 1 covered in absurd (omega (arith, last))

pub of_four : (P : ℕ → Type 0) → P 0 → P 1 → P 2 → P 3 → (k : ℕ) → ((nat_le 0 k && nat_le k 3) || false) ≡ true → P k
of_four P p0 p1 p2 p3 zero covered = p0
of_four P p0 p1 p2 p3 (suc zero) covered = p1
of_four P p0 p1 p2 p3 (suc (suc zero)) covered = p2
of_four P p0 p1 p2 p3 (suc (suc (suc zero))) covered = p3
of_four P p0 p1 p2 p3 (suc (suc (suc (suc k)))) covered = let last = covered_last (suc (suc (suc (suc k)))) 3 covered in absurd (omega (arith, last))

-- covered by a first range of four or by a second one
pub first_or_second : (P : ℕ → Type 0) (k : ℕ) (second : Bool) → ((nat_le 0 k && nat_le k 3) || (second || false)) ≡ true → P 0 → P 1 → P 2 → P 3 → (second ≡ true → P k) → P k
first_or_second P k second covered p0 p1 p2 p3 other = choose (nat_le 0 k && nat_le k 3) refl covered
  where
    last : (second : Bool) → (second || false) ≡ true → second ≡ true
    last true e = refl
    last false e = absurd cc

    with_false : (p : Bool) → p ≡ true → (p || false) ≡ true
    with_false true e = refl
    with_false false e = absurd cc

    choose : (p : Bool) → (nat_le 0 k && nat_le k 3) ≡ p → (p || (second || false)) ≡ true → P k
    choose true is e = of_four P p0 p1 p2 p3 k (with_false (nat_le 0 k && nat_le k 3) is)
    choose false is e = other (last second e)

pub not_kept : (p : Bool) → p ≡ true → p ≡ false → ⊥
not_kept true e f = absurd cc
not_kept false e f = absurd cc
