-- What the calls of the removal of a variable ask: the greatest MaxRec that is left, the numbers that are written, and the records that go; and what is kept of the variables then.
use Rattle.cdf_vars.proofs.Common.{AreRecordsAt, DataSet, Each, Each-split, Err, FitsSigned, Good, HasIndex, HasVariable, In, In-append_left, In-append_right, IsSound, Kind, KnownKind, KnowsKind, Leaf, List, Ok, OnOk, R, RemovesVariable, Shape, Variable, VariableShape, VdrsLie, Z, [], ap, append_assoc, arith, at_drop_more, cast_signed, cast_unsigned, content, content_after, drop, extent, fold, freed_with_variable, get_or, good_by_its_shape, good_image, good_is_sound, greatest_at, greatest_fits, image_limit, index_at, inl, inr, last_number, leaves_of, length, length-drop, length-map, map, map-append, map-removed, max, max_rec_at, nodes_of, number, numbers_on, other_kind, refl, remove, removed-at, shape, shape_after, shapes_of, subst, suc, sym, take, take_all, this, to_z-of_z, variable_of, variables, variables_of, vdr_num, vdr_vxr_head, vdrs, vdrs_append, w32, with_field, with_shapes, with_variables, with_writes, ℕ, ℤ, ◌++◌, ◌+◌, ◌-◌, ◌<◌, ◌^◌, ◌∙◌, ◌∷◌, ◌≡◌, ◌≤◌}
use Rattle.cdf_format.specs.Shape.{cpr_of, variables}
use Rattle.std.proofs.Common.{Result}
use Rattle.std.proofs.lemmas.List.{take-append-drop}
use Rattle.std.proofs.lemmas.List.Sums.{fold-append}
use Rattle.cdf_index.proofs.GoodIndex.{good_index}
use Rattle.cdf_vars.proofs.VariableNames.{variables_are}

-- ---- lists

pub dropped : (xs : List ℕ) (i : ℕ) → i < length xs → drop i xs ≡ get_or xs i 0 ∷ drop (i + 1) xs
dropped xs i lt = at_drop_more (λ (ys : List ℕ). ys) xs i 0 lt

pub in_taken : (xs : List ℕ) (n m : ℕ) → In m (take n xs) → In m xs
in_taken xs n m i = subst (In m) (take-append-drop n xs) (In-append_left m (take n xs) (drop n xs) i)

pub in_dropped : (xs : List ℕ) (n m : ℕ) → In m (drop n xs) → In m xs
in_dropped xs n m i = subst (In m) (take-append-drop n xs) (In-append_right m (take n xs) (drop n xs) i)

-- ---- the greatest MaxRec

abbrev pub extents : List ℕ → List ℕ → List ℕ
extents b places = map (λ vdr. extent (max_rec_at b vdr)) places

-- one more was read
pub one_read : (b places : List ℕ) (i greatest extent_at all : ℕ) → i < length places → extent_at ≡ extent (max_rec_at b (get_or places i 0)) → fold max greatest (extents b (drop i places)) ≡ all → fold max (max greatest extent_at) (extents b (drop (i + 1) places)) ≡ all
one_read b places i greatest extent_at all lt is goes =
    ap (λ (n : ℕ). fold max (max greatest n) (extents b (drop (i + 1) places))) is
    ∙ ap (λ (xs : List ℕ). fold max greatest (extents b xs)) (sym (dropped places i lt)) ∙ goes

pub max_few : (m n : ℕ) → m ≤ 2 ^ 31 → n ≤ 2 ^ 31 → max m n ≤ 2 ^ 31
max_few m n l h = grind arith

-- those before one and those behind it
pub greatest_of_parts : (b x : List ℕ) → x ≡ b → (places : List ℕ) (n front greatest : ℕ) → front ≡ fold max 0 (extents b (take n places)) → greatest ≡ fold max front (extents x (drop (n + 1) places)) → last_number greatest ≡ greatest_at b (remove places n)
greatest_of_parts b x same places n front greatest first second =
    let next : n + 1 ≡ suc n = omega arith in
    ap last_number (second ∙ (λ i. fold max (first i) (extents (same i) (drop (next i) places))) ∙ sym (fold-append max 0 (extents b (take n places)) (extents b (drop (suc n) places))))
    ∙ ap (λ (ns : List ℕ). last_number (fold max 0 ns)) (sym (map-append (λ vdr. extent (max_rec_at b vdr)) (take n places) (drop (suc n) places)))

-- ---- the numbers

pub one_numbered : (before now places : List ℕ) (first i : ℕ) (all : List ℕ) → i < length places → now ≡ with_field before (get_or places i 0) vdr_num (first + i) → with_writes before (numbers_on (first + i) (drop i places)) ≡ all → with_writes now (numbers_on (first + (i + 1)) (drop (i + 1) places)) ≡ all
one_numbered before now places first i all lt written goes =
    let next : first + (i + 1) ≡ suc (first + i) = omega arith in
    (λ k. with_writes (written k) (numbers_on (next k) (drop (i + 1) places))) ∙ ap (λ (xs : List ℕ). with_writes before (numbers_on (first + i) xs)) (sym (dropped places i lt)) ∙ goes

pub lie_still : (b now places : List ℕ) → length now ≡ length b → VdrsLie b places → VdrsLie now places
lie_still b now places long lie place i = let l = lie place i in omega arith

-- ---- the records that go

-- a variable whose VDR stands at a place
record StandsAt (vs : List VariableShape) (vdr : ℕ) : Type 0 where
  pub before : List VariableShape
  pub own : VariableShape
  pub after : List VariableShape
  pub is : vs ≡ before ++ own ∷ after
  pub vdr_is : own.vdr ≡ vdr

stands_at : (vs : List VariableShape) (m : ℕ) → In m (vdrs vs) → StandsAt vs m
stands_at [] m i = absurd i
stands_at (v ∷ vs) m (inl e) = record { before = []; own = v; after = vs; is = refl; vdr_is = sym e }
stands_at (v ∷ vs) m (inr i) = let at = stands_at vs m i in record { before = v ∷ at.before; own = at.own; after = at.after; is = ap (λ (r : List VariableShape). v ∷ r) at.is; vdr_is = at.vdr_is }

module _ {b : List ℕ} (good : Good b) where
  sound : IsSound b (shape b)
  sound = good_is_sound b good

  indexed : (before : List VariableShape) (v : VariableShape) (after : List VariableShape) → variables (shape b) ≡ before ++ v ∷ after → HasIndex b (number b v.vdr vdr_vxr_head) × (index_at b (number b v.vdr vdr_vxr_head) ≡ v.index)
  indexed before v after is = good_index b (shape b) before v after (good_image b (shape b) (good_by_its_shape b good)) sound is

  pub has_index : {x : List ℕ} → x ≡ b → (vdr : ℕ) → {head : ℕ} → head ≡ number b vdr vdr_vxr_head → In vdr (vdrs (variables (shape b))) → HasIndex x head
  has_index {x = x} same vdr {head = head} head_is i =
      let at = stands_at (variables (shape b)) vdr i in
      let here : HasIndex b (number b vdr vdr_vxr_head) = subst (λ (m : ℕ). HasIndex b (number b m vdr_vxr_head)) at.vdr_is (indexed at.before at.own at.after at.is).0 in
      subst (λ (y : List ℕ). HasIndex y head) (sym same) (subst (HasIndex b) (sym head_is) here)

  pub are_records : {x y : List ℕ} → x ≡ b → y ≡ b → (vdr : ℕ) → {head : ℕ} → head ≡ number b vdr vdr_vxr_head → {places found records : List ℕ} → places ≡ map (λ (leaf : Leaf). leaf.place) (leaves_of (index_at x head)) ++ nodes_of (index_at x head) → found ≡ places ++ cpr_of y vdr → records ≡ found ++ vdr ∷ [] → AreRecordsAt b vdr records
  are_records {x = x} {y = y} same then vdr {head = head} head_is {places = places} {found = found} {records = records} places_are found_is all before v after is vdr_is =
      let here = indexed before v after is in
      let head_same : head ≡ number b v.vdr vdr_vxr_head = head_is ∙ ap (λ (m : ℕ). number b m vdr_vxr_head) (sym vdr_is) in
      let index : index_at x head ≡ v.index = (λ i. index_at (same i) (head_same i)) ∙ here.1 in
      let has = (Each-split (HasVariable b (shape b).records) before (v ∷ after) (subst (Each (HasVariable b (shape b).records)) is sound.has_shape.have_variables)).1.0 in
      let parameters : cpr_of y vdr ≡ v.cpr = (λ i. cpr_of (then i) (sym vdr_is i)) ∙ has.packed_by in
      all ∙ ap (λ (xs : List ℕ). xs ++ vdr ∷ []) (found_is ∙ (λ i. places_are i ++ parameters i)) ∙ (λ i. map (λ (leaf : Leaf). leaf.place) (leaves_of (index i)) ++ nodes_of (index i) ++ v.cpr ++ sym vdr_is i ∷ [])

-- ---- a variable of a kind

pub vdr_among : (kind : Kind) (s : Shape) (m : ℕ) → In m (vdrs (shapes_of s kind)) → In m (vdrs (variables s))
vdr_among R s m i = subst (In m) (sym (vdrs_append s.r_variables s.z_variables)) (In-append_left m (vdrs s.r_variables) (vdrs s.z_variables) i)
vdr_among Z s m i = subst (In m) (sym (vdrs_append s.r_variables s.z_variables)) (In-append_right m (vdrs s.r_variables) (vdrs s.z_variables) i)

pub own_records : (b : List ℕ) (kind : Kind) (before : List VariableShape) (own : VariableShape) (after : List VariableShape) → shapes_of (shape b) kind ≡ before ++ own ∷ after → (vdr : ℕ) → own.vdr ≡ vdr → (records : List ℕ) → AreRecordsAt b vdr records → records ≡ freed_with_variable own
own_records b R before own after was vdr at records are = let z = (shape b).z_variables in are before own (after ++ z) (ap (λ (vs : List VariableShape). vs ++ z) was ∙ append_assoc before (own ∷ after) z) at
own_records b Z before own after was vdr at records are = let r = (shape b).r_variables in are (r ++ before) own after (ap (λ (vs : List VariableShape). r ++ vs) was ∙ sym (append_assoc r before (own ∷ after))) at

-- ---- calls

-- what holds where a call went well
pub on_ok_all : {T E P Q S U : Type 0} (r : Result T E) → (P → Q → S → U) → OnOk r P → OnOk r Q → OnOk r S → OnOk r U
on_ok_all (Ok x) f p q s = f p q s
on_ok_all (Err e) f p q s = tt

-- a slice to the end
pub to_the_end : (xs : List ℕ) (k : ℕ) → take (length xs - k) (drop k xs) ≡ drop k xs
to_the_end xs k = take_all (length xs - k) (drop k xs) (let l = length-drop k xs in omega arith)

-- rMaxRec as it is handed on
pub handed_on : (b places : List ℕ) (kind : Kind) (greatest : ℤ) {x : List ℕ} → x ≡ b → (kind ≡ R → greatest ≡ greatest_at x places) → kind ≡ R → cast_signed w32 (cast_unsigned w32 greatest) ≡ greatest_at b places
handed_on b places kind greatest {x = x} same is e = to_z-of_z w32 greatest (subst (FitsSigned w32) (sym (is e)) (greatest_fits x places)) ∙ is e ∙ ap (λ (y : List ℕ). greatest_at y places) same

-- numbers that are written in all of it
pub numbers_written : {second : List ℕ} (less places : List ℕ) (n : ℕ) → second ≡ with_writes less (numbers_on n (take (length places - (n + 1)) (drop (n + 1) places))) → second ≡ with_writes less (numbers_on n (drop (n + 1) places))
numbers_written less places n written = written ∙ ap (λ (xs : List ℕ). with_writes less (numbers_on n xs)) (to_the_end places (n + 1))

pub few_behind : (places : List ℕ) (n : ℕ) → n < length places → length places ≤ image_limit → n + length (take (length places - (n + 1)) (drop (n + 1) places)) ≤ 2 ^ 31
few_behind places n lt few =
    let l = ap length (to_the_end places (n + 1)) ∙ length-drop (n + 1) places in
    omega arith

-- the records that go, as they are read
pub own_are : (b : List ℕ) (good : Good b) (kind : Kind) (places : List ℕ) (are : places ≡ vdrs (shapes_of (shape b) kind)) (n : ℕ) (lt : n < length places) {records : List ℕ} → AreRecordsAt b (get_or places n 0) records → records ≡ freed_with_variable (this b good kind places are n lt).own
own_are b good kind places are n lt {records = records} read = let t = this b good kind places are n lt in own_records b kind t.before t.own t.after t.is (get_or places n 0) (sym t.own_at) records read

-- ---- what is kept of the variables

own_variables : (d : DataSet) (kind : Kind) (vs : List Variable) → variables_of (with_variables d kind vs) kind ≡ vs
own_variables d R vs = refl
own_variables d Z vs = refl

other_variables : (d : DataSet) (kind : Kind) (vs : List Variable) → variables_of (with_variables d kind vs) (other_kind kind) ≡ variables_of d (other_kind kind)
other_variables d R vs = refl
other_variables d Z vs = refl

own_shapes : (s : Shape) (kind : Kind) (records list : List ℕ) (vs : List VariableShape) → shapes_of (with_shapes s kind records list vs) kind ≡ vs
own_shapes s R records list vs = refl
own_shapes s Z records list vs = refl

other_shapes : (s : Shape) (kind : Kind) (records list : List ℕ) (vs : List VariableShape) → shapes_of (with_shapes s kind records list vs) (other_kind kind) ≡ shapes_of s (other_kind kind)
other_shapes s R records list vs = refl
other_shapes s Z records list vs = refl

module _ {b now : List ℕ} {kind : Kind} {n : ℕ} (good : Good b) (d : RemovesVariable b now kind n) where
  pub variables_after : variables_of (content now) kind ≡ remove (variables_of (content b) kind) n
  variables_after = ap (λ (x : DataSet). variables_of x kind) (content_after good d) ∙ own_variables (content b) kind (remove (variables_of (content b) kind) n)

  pub shapes_after : shapes_of (shape now) kind ≡ d.before ++ d.after
  shapes_after = ap (λ (x : Shape). shapes_of x kind) (shape_after good d) ∙ own_shapes (shape b) kind (shape b).records (shape now).unused (d.before ++ d.after)

  pub places_after : remove (vdrs (shapes_of (shape b) kind)) n ≡ vdrs (shapes_of (shape now) kind)
  places_after = sym (map-removed (λ (v : VariableShape). v.vdr) (shapes_of (shape b) kind) n) ∙ (λ i. vdrs (remove (d.unlinks.was i) (sym d.count i))) ∙ ap vdrs (removed-at d.before d.own d.after ∙ sym shapes_after)

  pub names_after : remove (map (λ (v : Variable). v.name) (variables_of (content b) kind)) n ≡ map (λ (v : Variable). v.name) (variables_of (content now) kind)
  names_after = sym (map-removed (λ (v : Variable). v.name) (variables_of (content b) kind) n) ∙ ap (map (λ (v : Variable). v.name)) (sym variables_after)

  -- those of its kind
  pub knows_less : {known : KnownKind} → KnowsKind b kind known → (names : List (List ℕ)) (places : List ℕ) → names ≡ remove known.names n → places ≡ remove known.places n → KnowsKind now kind (record { names = names; places = places })
  knows_less knows names places named placed = record {
    names_are = named ∙ ap (λ (xs : List (List ℕ)). remove xs n) knows.names_are ∙ names_after;
    places_are = placed ∙ ap (λ (xs : List ℕ). remove xs n) knows.places_are ∙ places_after;
  }

  -- and those of the other kind
  pub knows_other : {known : KnownKind} → KnowsKind b (other_kind kind) known → KnowsKind now (other_kind kind) known
  knows_other knows = record {
    names_are = knows.names_are ∙ ap (map (λ (v : Variable). v.name)) (sym (ap (λ (x : DataSet). variables_of x (other_kind kind)) (content_after good d) ∙ other_variables (content b) kind (remove (variables_of (content b) kind) n)));
    places_are = knows.places_are ∙ ap vdrs (sym (ap (λ (x : Shape). shapes_of x (other_kind kind)) (shape_after good d) ∙ other_shapes (shape b) kind (shape b).records (shape now).unused (d.before ++ d.after)));
  }

-- there are as many names as places
pub named_too : {b : List ℕ} {kind : Kind} {known : KnownKind} → Good b → KnowsKind b kind known → length known.names ≡ length known.places
named_too {b = b} {kind = kind} {known = known} good knows =
    let names = ap length knows.names_are ∙ length-map (variables_of (content b) kind) (λ (v : Variable). v.name) ∙ ap length (variables_are b (shape b) (good_is_sound b good).has_shape kind) ∙ length-map (shapes_of (shape b) kind) (variable_of b) in
    let places = ap length knows.places_are ∙ length-map (shapes_of (shape b) kind) (λ (v : VariableShape). v.vdr) in
    names ∙ sym places
