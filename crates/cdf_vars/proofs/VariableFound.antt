-- The variable of a name, by what is kept of the variables, in the data set, and among those of its kind; and where it becomes another one: what is kept then, and the commands that change it where its VDR stands.
use Rattle.cdf_vars.proofs.Common.{Allowances, Answers, ByStep, Command, DataSet, Does, Done, EditsVdr, Field, Follows, Found, Go, Good, In, IsBeside, IsFilled, IsVdr, Kind, Known, KnownKind, Knows, KnowsKind, LiesIn, List, Mark, MayRename, None, Only, Option, OthersStay, OwnAllowances, Plain, R, RenameVar, RenamesVariable, SetBlocking, Shape, Some, StandsAmong, VarId, Variable, VariableShape, Z, [], absent-split, allowances, ap, ap₂, arith, beside_in, bytes_eq, cast_signed, cast_unsigned, content, content_replaced, cut, false, field_reads4, fine_has_no_zeros, fine_is_short, fine_is_some, follows_by, found_among, found_in, found_of, get_or, gone, good_by_its_shape, good_is_sound, good_now, got-map, got-middle, id_of, image_limit, in_middle, inl, integer4, is_among, is_bad_name, keeps_vdr, kind_type, known_of, le-ltb, length, length-map, length-with_field, map, map-set, name_in, name_reads, names_of, nat_lt, no_block, not, number_of, numbered, of_named, of_variable, only_reads, option_map, option_or, other_bytes, own_names_apart, own_ruled, pos, position, refl, rename_var_changes, same_Some, same_shape, set_blocking_changes, shape, shapes_of, signed_limit, slice_get, slice_get_within, slice_set, sound, splices, stays_all, stays_own, step, subst, suc, sym, to_z_pos, true, typed, variable_at, variable_is, variable_named, variable_names, variable_of, variables_of, vdr_blocking_factor, vdr_name, vdrs, with_field, with_name, with_shapes, with_variable, with_variables, zero, ℕ, ◌++◌, ◌+◌, ◌<◌, ◌==◌, ◌∙◌, ◌∷◌, ◌≡◌, ◌≤◌}
use Rattle.std.proofs.Common.{is_some, w32}
use Rattle.std.proofs.lemmas.List.Quantifiers.{position-Some}
use Rattle.cdf_edits.specs.Commands.Allowances.{Keeps}
use Rattle.cdf_names.specs.Names.{has_name as has_name_among}
use Rattle.cdf_names.proofs.Keys.{number_of-keys}
use Rattle.cdf_vars.proofs.VariableNames.{variables_are, absent_from}
use Rattle.cdf_vars.proofs.VariableChains.{vdr_inside, few_places}
use Rattle.cdf_format.specs.AttributeRules.{has_name}
use Rattle.cdf_edits.specs.Commands.Named.{IsVariable}
use Rattle.cdf_edits.proofs.Edits.NameWritten.{length-with_name, name_changed, name_filled}
use Rattle.cdf_edits.proofs.Edits.VariableKept.{vdr_allowance}
use Rattle.cdf_edits.proofs.Edits.VdrWritten.{WritesVdr, blocking_same, edits, marks_within, meaning, name_same}

-- ---- which variable of the data set it is

abbrev of_pair : Kind → ℕ × Variable → Found
of_pair kind pair = record { kind = kind; number = pair.0; variable = pair.1 }

abbrev id_at : Kind → ℕ → VarId
id_at kind n = record { kind = kind; num = n }

-- an item that is there
there_is : (vs : List Variable) (n : ℕ) → n < length vs → is_some (slice_get vs n) ≡ true
there_is [] n lt = absurd (omega arith)
there_is (v ∷ vs) zero lt = refl
there_is (v ∷ vs) (suc n) lt = there_is vs n (omega arith)

id_of_item : (kind : Kind) (n : ℕ) (v : Option Variable) → is_some v ≡ true → option_map id_of (option_map (of_pair kind) (option_map (λ (x : Variable). (n, x)) v)) ≡ Some (id_at kind n)
id_of_item kind n None e = absurd cc
id_of_item kind n (Some v) e = refl

id_of_number : (kind : Kind) (vs : List Variable) (o : Option ℕ) → ((n : ℕ) → o ≡ Some n → n < length vs) → option_map id_of (option_map (of_pair kind) (numbered vs o)) ≡ option_map (id_at kind) o
id_of_number kind vs None within = refl
id_of_number kind vs (Some n) within = id_of_item kind n (slice_get vs n) (there_is vs n (within n refl))

number_within : (names : List (List ℕ)) (name : List ℕ) (n : ℕ) → number_of names name ≡ Some n → n < length names
number_within names name n e = (position-Some (bytes_eq name) names n [] e).0

id_in : (d : DataSet) (name : List ℕ) (kind : Kind) (names : List (List ℕ)) → names ≡ map (λ (v : Variable). v.name) (variables_of d kind) → option_map id_of (found_in d name kind) ≡ found_of kind names name
id_in d name kind names is =
    let vs = variables_of d kind in
    let same : position (λ (v : Variable). bytes_eq name v.name) vs ≡ number_of names name = number_of-keys (λ (v : Variable). v.name) vs names (sym is) name in
    let long : length names ≡ length vs = ap length is ∙ length-map vs (λ (v : Variable). v.name) in
    let within : (n : ℕ) → number_of names name ≡ Some n → n < length vs = λ n e. let lt = number_within names name n e in omega arith in
    ap (λ (o : Option ℕ). option_map id_of (option_map (of_pair kind) (numbered vs o))) same ∙ id_of_number kind vs (number_of names name) within

map-or : (p q : Option Found) → option_map id_of (option_or p q) ≡ option_or (option_map id_of p) (option_map id_of q)
map-or None q = refl
map-or (Some f) q = refl

-- what is found by the names that are kept is the variable of that name
pub found_is : (b : List ℕ) (known : Known) (name : List ℕ) → Knows b known → option_map id_of (variable_named (content b) name) ≡ found_among known name
found_is b known name knows =
    map-or (found_in (content b) name R) (found_in (content b) name Z)
    ∙ ap₂ (λ (p q : Option VarId). option_or p q) (id_in (content b) name R known.r.names knows.r_known.names_are) (id_in (content b) name Z known.z.names knows.z_known.names_are)

-- as the names of the one kind and then of the other give it
pub named_first : (b : List ℕ) (known : Known) (name : List ℕ) (id : VarId) → Knows b known → found_of R known.r.names name ≡ Some id → Some id ≡ option_map id_of (variable_named (content b) name)
named_first b known name id knows e = sym (found_is b known name knows ∙ ap (λ (p : Option VarId). option_or p (found_of Z known.z.names name)) e)

pub named_second : (b : List ℕ) (known : Known) (name : List ℕ) (found : Option VarId) → Knows b known → found_of R known.r.names name ≡ None → found ≡ found_of Z known.z.names name → found ≡ option_map id_of (variable_named (content b) name)
named_second b known name found knows none is = is ∙ ap (λ (p : Option VarId). option_or p (found_of Z known.z.names name)) (sym none) ∙ sym (found_is b known name knows)

-- ---- where it stands

-- the one that is found stands in the list of its kind
found_number : (kind : Kind) (vs : List Variable) (o : Option ℕ) (f : Found) → option_map (of_pair kind) (numbered vs o) ≡ Some f → (f.kind ≡ kind) × (slice_get vs f.number ≡ Some f.variable)
found_number kind vs None f e = absurd cc
found_number kind vs (Some n) f e = found_item (slice_get vs n) refl e
  where
    found_item : (v : Option Variable) → slice_get vs n ≡ v → option_map (of_pair kind) (option_map (λ (x : Variable). (n, x)) v) ≡ Some f → (f.kind ≡ kind) × (slice_get vs f.number ≡ Some f.variable)
    found_item None is e = absurd cc
    found_item (Some v) is e = let same = same_Some (of_pair kind (n, v)) f e in subst (λ (g : Found). (g.kind ≡ kind) × (slice_get vs g.number ≡ Some g.variable)) same (refl, is)

pub item_found : (d : DataSet) (name : List ℕ) (f : Found) → variable_named d name ≡ Some f → slice_get (variables_of d f.kind) f.number ≡ Some f.variable
item_found d name f e = in_either (found_in d name R) (found_in d name Z) refl refl e
  where
    of_kind : (kind : Kind) → found_in d name kind ≡ Some f → slice_get (variables_of d f.kind) f.number ≡ Some f.variable
    of_kind kind e =
        let p = found_number kind (variables_of d kind) (position (λ (v : Variable). bytes_eq name v.name) (variables_of d kind)) f e in
        subst (λ (k : Kind). slice_get (variables_of d k) f.number ≡ Some f.variable) (sym p.0) p.1

    in_either : (p q : Option Found) → found_in d name R ≡ p → found_in d name Z ≡ q → option_or p q ≡ Some f → slice_get (variables_of d f.kind) f.number ≡ Some f.variable
    in_either None q is other e = of_kind Z (other ∙ e)
    in_either (Some g) q is other e = of_kind R (is ∙ e)

vdr_at : (vs : List VariableShape) (n : ℕ) (own : VariableShape) → slice_get vs n ≡ Some own → get_or (vdrs vs) n 0 ≡ own.vdr
vdr_at [] n own e = absurd cc
vdr_at (v ∷ vs) zero own e = ap (λ (x : VariableShape). x.vdr) (same_Some v own e)
vdr_at (v ∷ vs) (suc n) own e = vdr_at vs n own e

pub knows_kind : (b : List ℕ) (known : Known) → Knows b known → (kind : Kind) → KnowsKind b kind (known_of known kind)
knows_kind b known knows R = knows.r_known
knows_kind b known knows Z = knows.z_known

id_is : (b name : List ℕ) (id : VarId) → option_map id_of (variable_named (content b) name) ≡ Some id → (f : Found) × (variable_named (content b) name ≡ Some f) × (id_of f ≡ id)
id_is b name id e = from (variable_named (content b) name) refl e
  where
    from : (o : Option Found) → variable_named (content b) name ≡ o → option_map id_of o ≡ Some id → (f : Found) × (variable_named (content b) name ≡ Some f) × (id_of f ≡ id)
    from None is e = absurd cc
    from (Some f) is e = (f, is, same_Some (id_of f) id e)

-- no variable has the name
pub none_found : (b : List ℕ) (known : Known) (name : List ℕ) → Knows b known → found_among known name ≡ None → variable_named (content b) name ≡ None
none_found b known name knows e = nothing (variable_named (content b) name) (found_is b known name knows ∙ e)
  where
    nothing : (o : Option Found) → option_map id_of o ≡ None → o ≡ None
    nothing None e = refl
    nothing (Some f) e = absurd cc

-- the variables in front of it, it, and those behind it
pub record Parts (b : List ℕ) (known : Known) (name : List ℕ) (id : VarId) : Type 0 where
  pub before : List VariableShape
  pub own : VariableShape
  pub after : List VariableShape
  pub at : StandsAmong b id.kind before own after
  pub count : length before ≡ id.num
  pub named : variable_named (content b) name ≡ Some (record { kind = id.kind; number = length before; variable = variable_of b own })
  pub within : id.num < length (known_of known id.kind).places
  pub place_is : get_or (known_of known id.kind).places id.num 0 ≡ own.vdr

module _ {b : List ℕ} (name : List ℕ) {known : Known} {id : VarId} (good : Good b) (knows : Knows b known) (found : found_among known name ≡ Some id) where
  pub the_parts : Parts b known name id
  the_parts =
      let r = id_is b name id (found_is b known name knows ∙ found) in
      let n = r.0.number in
      let vs = shapes_of (shape b) r.0.kind in
      let there : slice_get (map (variable_of b) vs) n ≡ Some r.0.variable = subst (λ (xs : List Variable). slice_get xs n ≡ Some r.0.variable) (variables_are b (shape b) (good_is_sound b good).has_shape r.0.kind) (item_found (content b) name r.0 r.1) in
      let within : n < length vs = let lt = slice_get_within (map (variable_of b) vs) n r.0.variable there in omega (arith, lt, length-map vs (variable_of b)) in
      let c = cut vs n within in
      let stands : slice_get vs n ≡ Some c.own = ap₂ (λ (xs : List VariableShape) (k : ℕ). slice_get xs k) c.is (sym c.count) ∙ got-middle c.before c.own c.after in
      let same : r.0.variable ≡ variable_of b c.own = same_Some r.0.variable (variable_of b c.own) (sym there ∙ got-map (variable_of b) vs n c.own stands) in
      let count = c.count in
      let places = (knows_kind b known knows r.0.kind).places_are in
      let mine : Parts b known name (id_of r.0) = record {
        before = c.before;
        own = c.own;
        after = c.after;
        at = record { was = c.is };
        count = count;
        named = r.1 ∙ (λ i. Some (record { kind = r.0.kind; number = sym count i; variable = same i }));
        within = let long = ap (λ (xs : List ℕ). length xs) places in omega (arith, within, long, length-map vs (λ (v : VariableShape). v.vdr));
        place_is = ap (λ (xs : List ℕ). get_or xs n 0) places ∙ vdr_at vs n c.own stands;
      } in
      subst (Parts b known name) r.2 mine

  pub vdr_there : the_parts.own.vdr + 340 ≤ length b
  vdr_there = vdr_inside b (shape b) (good_is_sound b good).has_shape id.kind the_parts.own.vdr (subst (λ (vs : List VariableShape). In the_parts.own.vdr (vdrs vs)) (sym the_parts.at.was) (in_middle the_parts.before the_parts.own the_parts.after))

  pub within_places : id.num < length (known_of known id.kind).places
  within_places = the_parts.within

-- by what a call found
module _ {b : List ℕ} (name : List ℕ) {known : Known} {result : Option VarId} (knows : Knows b known) (asked : result ≡ found_among known name) where
  pub missing : result ≡ None → variable_named (content b) name ≡ None
  missing none = none_found b known name knows (sym asked ∙ none)

  module _ {id : VarId} (good : Good b) (some : result ≡ Some id) where
    pub parts_there : Parts b known name id
    parts_there = the_parts name good knows (sym asked ∙ some)

    pub placed : id.num < length (known_of known id.kind).places
    placed = parts_there.within

    module _ {at : ℕ} (is : at ≡ get_or (known_of known id.kind).places id.num 0) where
      pub own_is : parts_there.own.vdr ≡ at
      own_is = sym parts_there.place_is ∙ sym is

      pub is_vdr : IsVdr b id.kind at
      is_vdr = record { before = parts_there.before; own = parts_there.own; after = parts_there.after; was = parts_there.at.was ∙ ap (λ (k : ℕ). parts_there.before ++ record parts_there.own { vdr = k } ∷ parts_there.after) own_is }

      pub variable_there : variable_at b at ≡ variable_of b parts_there.own
      unfolding is_vdr
      variable_there = variable_is good is_vdr ∙ ap (λ (k : ℕ). variable_of b (record parts_there.own { vdr = k })) (sym own_is)

      pub named_as : variable_named (content b) name ≡ Some (record { kind = id.kind; number = length is_vdr.before; variable = variable_of b parts_there.own })
      unfolding is_vdr
      named_as = parts_there.named

-- as a call meets it, by the parts of what is kept
pub knows_view : {b : List ℕ} {view known : Known} → view ≡ known → Knows b known → Knows b view
knows_view {b = b} is knows = subst (Knows b) (sym is) knows

pub found_view : {view known : Known} {result : Option VarId} {id : VarId} (name : List ℕ) → view ≡ known → result ≡ found_among known name → result ≡ Some id → found_among view name ≡ Some id
found_view name is asked some = ap (λ (k : Known). found_among k name) is ∙ sym asked ∙ some

-- ---- of one kind, and of both

-- a name that no variable has is none of the kind
free_of_kind : (d : DataSet) (kind : Kind) (name : List ℕ) → is_among name (variable_names d) ≡ false → is_among name (map (λ (v : Variable). v.name) (variables_of d kind)) ≡ false
free_of_kind d R name free = (absent-split name (map (λ (v : Variable). v.name) d.r_variables) (map (λ (v : Variable). v.name) d.z_variables) free).0
free_of_kind d Z name free = (absent-split name (map (λ (v : Variable). v.name) d.r_variables) (map (λ (v : Variable). v.name) d.z_variables) free).1

pub kind_view : {b : List ℕ} {kind : Kind} {view known : KnownKind} → view ≡ known → KnowsKind b kind known → KnowsKind b kind view
kind_view {b = b} {kind = kind} is knows = subst (KnowsKind b kind) (sym is) knows

module _ {b : List ℕ} {kind : Kind} {known : KnownKind} (knows : KnowsKind b kind known) where
  pub kind_absent : (name : List ℕ) → is_among name (variable_names (content b)) ≡ false → has_name_among known.names name ≡ false
  kind_absent name free = ap (λ (xs : List (List ℕ)). has_name_among xs name) knows.names_are ∙ free_of_kind (content b) kind name free

  as_many : Good b → length known.names ≡ length known.places
  as_many good =
      let vs = shapes_of (shape b) kind in
      ap (λ (xs : List (List ℕ)). length xs) knows.names_are ∙ length-map (variables_of (content b) kind) (λ (v : Variable). v.name)
      ∙ ap (λ (xs : List Variable). length xs) (variables_are b (shape b) (good_is_sound b good).has_shape kind) ∙ length-map vs (variable_of b) ∙ sym (length-map vs (λ (v : VariableShape). v.vdr)) ∙ ap (λ (xs : List ℕ). length xs) (sym knows.places_are)

  pub kind_few : Good b → length known.names < 4294967295
  kind_few good = let few = few_places b good kind in let many = as_many good in let places = ap (λ (xs : List ℕ). length xs) knows.places_are in omega (arith, few, many, places)

pub all_names : {b : List ℕ} {known : Known} → Knows b known → names_of known ≡ variable_names (content b)
all_names knows = ap₂ (λ (xs ys : List (List ℕ)). xs ++ ys) knows.r_known.names_are knows.z_known.names_are

-- ---- what is kept

-- where those of one kind are others
abbrev pub with_known : Known → Kind → KnownKind → Known
with_known known R k = record known { r = k }
with_known known Z k = record known { z = k }

-- of an image with other variables of a kind
pub kind_with : (b now : List ℕ) {k : KnownKind} {records unused : List ℕ} (xs : List Variable) (ws : List VariableShape) (kind : Kind) → content now ≡ with_variables (content b) kind xs → shape now ≡ with_shapes (shape b) kind records unused ws → k.names ≡ map (λ (v : Variable). v.name) xs → k.places ≡ vdrs ws → KnowsKind now kind k
kind_with b now xs ws R made is names places = record { names_are = names ∙ ap (λ (d : DataSet). map (λ (v : Variable). v.name) d.r_variables) (sym made); places_are = places ∙ ap (λ (s : Shape). vdrs s.r_variables) (sym is) }
kind_with b now xs ws Z made is names places = record { names_are = names ∙ ap (λ (d : DataSet). map (λ (v : Variable). v.name) d.z_variables) (sym made); places_are = places ∙ ap (λ (s : Shape). vdrs s.z_variables) (sym is) }

pub others_with : (b now : List ℕ) {records unused : List ℕ} (xs : List Variable) (ws : List VariableShape) (kind : Kind) → content now ≡ with_variables (content b) kind xs → shape now ≡ with_shapes (shape b) kind records unused ws → OthersStay b now kind
others_with b now xs ws R made is = λ known k. record { names_are = k.names_are ∙ ap (λ (d : DataSet). map (λ (v : Variable). v.name) d.z_variables) (sym made); places_are = k.places_are ∙ ap (λ (s : Shape). vdrs s.z_variables) (sym is) }
others_with b now xs ws Z made is = λ known k. record { names_are = k.names_are ∙ ap (λ (d : DataSet). map (λ (v : Variable). v.name) d.r_variables) (sym made); places_are = k.places_are ∙ ap (λ (s : Shape). vdrs s.r_variables) (sym is) }

-- of both kinds, where those of one are others
pub knows_made : {b now : List ℕ} {kind : Kind} {view known : Known} {k : KnownKind} (of : Kind) → kind ≡ of → Knows b known → view ≡ known → KnowsKind now kind k → OthersStay b now kind → Knows now (with_known view of k)
knows_made {b = b} {now = now} {view = view} {k = k} R e knows is mine others = record { r_known = subst (λ (x : Kind). KnowsKind now x k) e mine; z_known = subst (OthersStay b now) e others view.z (subst (Knows b) (sym is) knows).z_known }
knows_made {b = b} {now = now} {view = view} {k = k} Z e knows is mine others = record { r_known = subst (OthersStay b now) e others view.r (subst (Knows b) (sym is) knows).r_known; z_known = subst (λ (x : Kind). KnowsKind now x k) e mine }

pub knows_with : {b now : List ℕ} {known : Known} {k : KnownKind} {records unused : List ℕ} (xs : List Variable) (ws : List VariableShape) → Knows b known → (kind : Kind) → content now ≡ with_variables (content b) kind xs → shape now ≡ with_shapes (shape b) kind records unused ws → k.names ≡ map (λ (v : Variable). v.name) xs → k.places ≡ vdrs ws → Knows now (with_known known kind k)
knows_with xs ws knows kind made is names places = knows_made kind refl knows refl (kind_with _ _ xs ws kind made is names places) (others_with _ _ xs ws kind made is)

-- of an image with the same names, and the same places
pub knows_now : {b now : List ℕ} {known : Known} → Knows b known → ((k : Kind) → map (λ (v : Variable). v.name) (variables_of (content b) k) ≡ map (λ (v : Variable). v.name) (variables_of (content now) k)) → ((k : Kind) → vdrs (shapes_of (shape b) k) ≡ vdrs (shapes_of (shape now) k)) → Knows now known
knows_now knows names places = record {
  r_known = record { names_are = knows.r_known.names_are ∙ names R; places_are = knows.r_known.places_are ∙ places R };
  z_known = record { names_are = knows.z_known.names_are ∙ names Z; places_are = knows.z_known.places_are ∙ places Z };
}

as_known : (known : Known) (kind : Kind) → with_known known kind (known_of known kind) ≡ known
as_known known R = refl
as_known known Z = refl

with_own : (s : Shape) (kind : Kind) → s ≡ with_shapes s kind s.records s.unused (shapes_of s kind)
with_own s R = refl
with_own s Z = refl

-- one with the name that it had
pub same_name_set : (vs : List Variable) (n : ℕ) (x v : Variable) → slice_get vs n ≡ Some v → x.name ≡ v.name → map (λ (v : Variable). v.name) vs ≡ map (λ (v : Variable). v.name) (slice_set vs n x)
same_name_set [] n x v there e = refl
same_name_set (w ∷ vs) zero x v there e = ap (λ (name : List ℕ). name ∷ map (λ (v : Variable). v.name) vs) (ap (λ (y : Variable). y.name) (same_Some w v there) ∙ sym e)
same_name_set (w ∷ vs) (suc n) x v there e = ap (λ (r : List (List ℕ)). w.name ∷ r) (same_name_set vs n x v there e)

-- ---- its VDR is another

module _ {b : List ℕ} (name : List ℕ) {known : Known} {id : VarId} (good : Good b) (knows : Knows b known) (found : found_among known name ≡ Some id) where
  abbrev parts : Parts b known name id
  parts = the_parts name good knows found

  abbrev v : ℕ
  v = parts.own.vdr

  abbrev old : Variable
  old = variable_of b parts.own

  abbrev mine : Found
  mine = record { kind = id.kind; number = length parts.before; variable = old }

  -- what a command may change of it
  vdr_may : (may : OwnAllowances) (others : List Field) → of_variable b (shape b) mine may others id.kind (length parts.before) v ≡ may.vdr
  vdr_may = vdr_allowance b mine parts.before parts.own parts.after parts.at.was refl (typed good parts.at ∙ kind_type id.kind) (no_block good parts.at)

  pub may_named : (all : Found → Allowances) → of_named (content b) name all ≡ all mine
  may_named all = ap (λ (o : Option Found). elim o as (λ x. Allowances) [ None ↦ stays_all | Some f ↦ all f ]) parts.named

  pub may_keep : (now : List ℕ) (all : Found → Allowances) (may : OwnAllowances) (others : List Field) → (all mine).variables id.kind (length parts.before) v ≡ of_variable b (shape b) mine may others id.kind (length parts.before) v → Keeps b now v may.vdr → Keeps b now v ((of_named (content b) name all).variables id.kind (length parts.before) v)
  may_keep now all may others is keeps =
      subst (λ (a : Allowances). Keeps b now v (a.variables id.kind (length parts.before) v)) (sym (may_named all)) (subst (Keeps b now v) (sym (is ∙ vdr_may may others)) keeps)

  pub stands_there : slice_get (shapes_of (shape b) id.kind) (length parts.before) ≡ Some parts.own
  stands_there = ap (λ (vs : List VariableShape). slice_get vs (length parts.before)) parts.at.was ∙ got-middle parts.before parts.own parts.after

  -- what is said of it in both images is said of the one of its name
  pub of_found : {now : List ℕ} {own' : VariableShape} (P : VariableShape → VariableShape → Type 0) → slice_get (shapes_of (shape now) id.kind) (length parts.before) ≡ Some own' → P parts.own own' → (f : Found) (w w' : VariableShape) → IsVariable b now name f w w' → P w w'
  of_found {now = now} {own' = own'} P there holds f w w' is =
      let same = same_Some mine f (sym parts.named ∙ is.named) in
      let was = same_Some parts.own w (sym stands_there ∙ (λ i. slice_get (shapes_of (shape b) (same i).kind) (same i).number) ∙ is.before) in
      let by = same_Some own' w' (sym there ∙ (λ i. slice_get (shapes_of (shape now) (same i).kind) (same i).number) ∙ is.after) in
      subst (λ (u : VariableShape). P u w') was (subst (P parts.own) by holds)

  pub own_known : KnowsKind b id.kind (known_of known id.kind)
  own_known = knows_kind b known knows id.kind

  -- it has the name that it had
  pub same_names : (x : Variable) → x.name ≡ old.name → (known_of known id.kind).names ≡ map (λ (w : Variable). w.name) (slice_set (variables_of (content b) id.kind) (length parts.before) x)
  same_names x same = own_known.names_are ∙ same_name_set (variables_of (content b) id.kind) (length parts.before) x old (item_found (content b) name _ parts.named) same

  -- ---- where it stands

  module _ {now : List ℕ} {marks : List Mark} (e : EditsVdr b now id.kind parts.own marks) {x : Variable} (here : variable_of now parts.own ≡ x) where
    content_now : content now ≡ with_variable (content b) mine x
    content_now = content_replaced good parts.at e ∙ ap (with_variable (content b) mine) here

    shape_now : shape now ≡ with_shapes (shape b) id.kind (shape b).records (shape b).unused (shapes_of (shape b) id.kind)
    shape_now = same_shape good parts.at e ∙ with_own (shape b) id.kind

    pub still_there : slice_get (shapes_of (shape now) id.kind) (length parts.before) ≡ Some parts.own
    still_there = ap (λ (s : Shape). slice_get (shapes_of s id.kind) (length parts.before)) (same_shape good parts.at e) ∙ stands_there

    pub knows_named : Knows now (with_known known id.kind (record (known_of known id.kind) { names = slice_set (known_of known id.kind).names id.num x.name }))
    knows_named =
        let vs = variables_of (content b) id.kind in
        knows_with _ _ knows id.kind content_now shape_now
        (ap (λ (names : List (List ℕ)). slice_set names id.num x.name) own_known.names_are ∙ sym (map-set (λ (w : Variable). w.name) vs id.num x) ∙ ap (λ (n : ℕ). map (λ (w : Variable). w.name) (slice_set vs n x)) (sym parts.count)) own_known.places_are

    pub knows_still : x.name ≡ old.name → Knows now known
    knows_still same = subst (Knows now) (as_known known id.kind) (knows_with _ _ knows id.kind content_now shape_now (same_names x same) own_known.places_are)

    module _ (c : Command) (changes : only_reads c ≡ false) (goes : step (content b) c ≡ ByStep (Go (with_variable (content b) mine x) Plain)) (keeps : Keeps b now v ((allowances b (content b) (shape b) c).variables id.kind (length parts.before) v)) (does : Does b c now []) (short : length b ≤ image_limit) where
      pub follows_named : has_name now v vdr_name ≡ true → ((m : ℕ) → IsBeside (sound good parts.at) (splices good parts.at e) m → bytes_eq (name_in now v vdr_name) (name_in b m vdr_name) ≡ false) → Follows b c now
      follows_named some apart = follows_by good parts.at e c Plain changes (goes ∙ ap (λ (d : DataSet). ByStep (Go d Plain)) (sym content_now)) (good_now good parts.at e short some apart) keeps does

      pub follows_still : x.name ≡ old.name → Follows b c now
      follows_still same =
          let image = good_by_its_shape b good in
          let named : name_in now v vdr_name ≡ name_in b v vdr_name = ap (λ (w : Variable). w.name) here ∙ same in
          follows_named (ap (λ (n : List ℕ). not (length n == 0)) named ∙ (own_ruled good parts.at e image).0.0)
          (λ m beside. ap (λ (n : List ℕ). bytes_eq n (name_in b m vdr_name)) named ∙ own_names_apart (sound good parts.at) (splices good parts.at e) image v m (inl refl) beside)

  -- ---- a field of its VDR is written

  pub field_lies : (f : Field) → f.place + f.width ≤ 340 → LiesIn b (get_or (known_of known id.kind).places id.num 0) f
  field_lies f early = let there = vdr_there name good knows found in let is = parts.place_is in omega (arith, there, is, early)

  place_in : {kind : Kind} → id.kind ≡ kind → get_or (known_of known kind).places id.num 0 ≡ v
  place_in of = ap (λ (k : Kind). get_or (known_of known k).places id.num 0) (sym of) ∙ parts.place_is

  own_lies : (f : Field) → f.place + f.width ≤ 340 → LiesIn b v f
  own_lies f early = let there = vdr_there name good knows found in omega (arith, there, early)

  -- `rename-var`
  pub may_rename : {kind : Kind} → id.kind ≡ kind → (to : List ℕ) → is_among to (variable_names (content b)) ≡ false → MayRename b (known_of known kind) id.num to
  may_rename of to free = subst (λ (k : Kind). MayRename b (known_of known k) id.num to) of (record {
    named = let many = as_many own_known good in let within = within_places name good knows found in omega (arith, many, within);
    placed = within_places name good knows found;
    absent = kind_absent own_known to free;
    few = kind_few own_known good;
    field = field_lies vdr_name (omega arith);
  })

  module _ {now : List ℕ} (to : List ℕ) (fine : is_bad_name to ≡ false) {kind : Kind} (of : id.kind ≡ kind) (written : now ≡ with_name b (get_or (known_of known kind).places id.num 0) vdr_name to) where
    named_there : with_name b v vdr_name to ≡ now
    named_there = ap (λ (p : ℕ). with_name b p vdr_name to) (sym (place_in of)) ∙ sym written

    lies : LiesIn b v vdr_name
    lies = own_lies vdr_name (omega arith)

    writes_name : WritesVdr b now v vdr_name
    writes_name = subst (λ (x : List ℕ). WritesVdr b x v vdr_name) named_there (record { late = omega arith; early = omega arith; changed = name_changed b v vdr_name to lies (fine_is_short to fine); as_long = length-with_name b v vdr_name to lies (fine_is_short to fine) })

    named : name_in now v vdr_name ≡ to
    named = subst (λ (x : List ℕ). name_in x v vdr_name ≡ to) named_there (name_reads b v vdr_name to lies (fine_is_short to fine) (fine_has_no_zeros to fine))

    filled : IsFilled now v vdr_name to
    filled = subst (λ (x : List ℕ). IsFilled x v vdr_name to) named_there (name_filled b v vdr_name to lies (fine_is_short to fine))

    renamed : variable_of now parts.own ≡ record old { name = to }
    renamed = let blocking = blocking_same good parts.at writes_name (omega arith) in meaning good parts.at writes_name ∙ (λ i. record old { name = named i; blocking = blocking i })

    pub rename_knows : Knows now (with_known known kind (record (known_of known kind) { names = slice_set (known_of known kind).names id.num to }))
    rename_knows = subst (λ (k : Kind). Knows now (with_known known k (record (known_of known k) { names = slice_set (known_of known k).names id.num to }))) of (knows_named (edits good parts.at writes_name) renamed)

    pub rename_done : is_among to (variable_names (content b)) ≡ false → (limit : ℕ) → length b ≤ limit → limit ≤ image_limit → Answers limit b (RenameVar name to) (Done Plain) now
    rename_done free limit fits short =
        let e = edits good parts.at writes_name in
        let goes : step (content b) (RenameVar name to) ≡ ByStep (Go (with_variable (content b) mine (record old { name = to })) Plain) = rw (parts.named, fine, free) refl in
        gone limit b (RenameVar name to) _ Plain now goes (omega arith) (follows_named e renamed (RenameVar name to) refl goes
        (may_keep now (rename_var_changes b (shape b)) (record stays_own { vdr = Only (vdr_name ∷ []) }) [] refl (keeps_vdr good parts.at e (vdr_name ∷ []) (marks_within good parts.at writes_name)))
        (of_found (λ u u'. RenamesVariable now to u' []) (still_there e renamed) (record { acts_are = refl; named = filled }))
        (omega arith) (ap (λ (n : List ℕ). not (length n == 0)) named ∙ ap not (fine_is_some to fine))
        (λ m beside. ap (λ (n : List ℕ). bytes_eq n (name_in b m vdr_name)) named ∙ absent_from b good to free m (beside_in (sound good parts.at) (splices good parts.at e) m beside)))

  -- `set-blocking`
  module _ {now : List ℕ} (n : ℕ) (within : n ≤ signed_limit) {place : ℕ} (is : place ≡ get_or (known_of known id.kind).places id.num 0) (written : now ≡ with_field b place vdr_blocking_factor (cast_unsigned w32 (cast_signed w32 n))) where
    blocked_there : with_field b v vdr_blocking_factor (cast_unsigned w32 (pos n)) ≡ now
    blocked_there =
        let place_is = sym parts.place_is ∙ sym is in
        let number = sym (to_z_pos w32 n (omega arith)) in
        (λ i. with_field b (place_is i) vdr_blocking_factor (cast_unsigned w32 (number i))) ∙ sym written

    factor_lies : LiesIn b v vdr_blocking_factor
    factor_lies = own_lies vdr_blocking_factor (omega arith)

    writes_factor : WritesVdr b now v vdr_blocking_factor
    writes_factor = subst (λ (x : List ℕ). WritesVdr b x v vdr_blocking_factor) blocked_there (record {
      late = omega arith;
      early = omega arith;
      changed = record { longer = omega (arith, length-with_field b v vdr_blocking_factor (cast_unsigned w32 (pos n)) factor_lies); same = λ i lt out. other_bytes b v vdr_blocking_factor (cast_unsigned w32 (pos n)) i factor_lies out.0 };
      as_long = length-with_field b v vdr_blocking_factor (cast_unsigned w32 (pos n)) factor_lies;
    })

    blocked : variable_of now parts.own ≡ record old { blocking = pos n }
    blocked =
        let says : integer4 now v vdr_blocking_factor ≡ pos n = subst (λ (x : List ℕ). integer4 x v vdr_blocking_factor ≡ pos n) blocked_there (field_reads4 b v vdr_blocking_factor (pos n) refl factor_lies (omega arith)) in
        let same = name_same good parts.at writes_factor (omega arith) in
        meaning good parts.at writes_factor ∙ (λ i. record old { name = same i; blocking = says i })

    pub blocking_knows : Knows now known
    blocking_knows = knows_still (edits good parts.at writes_factor) blocked refl

    pub blocking_done : (limit : ℕ) → length b ≤ limit → limit ≤ image_limit → Answers limit b (SetBlocking name n) (Done Plain) now
    blocking_done limit fits short =
        let e = edits good parts.at writes_factor in
        let test : nat_lt signed_limit n ≡ false = le-ltb signed_limit n within in
        let goes : step (content b) (SetBlocking name n) ≡ ByStep (Go (with_variable (content b) mine (record old { blocking = pos n })) Plain) = rw (parts.named, test) refl in
        gone limit b (SetBlocking name n) _ Plain now goes (omega arith) (follows_still e blocked (SetBlocking name n) refl goes
        (may_keep now (set_blocking_changes b (shape b)) (record stays_own { vdr = Only (vdr_blocking_factor ∷ []) }) [] refl (keeps_vdr good parts.at e (vdr_blocking_factor ∷ []) (marks_within good parts.at writes_factor)))
        refl (omega arith) refl)
