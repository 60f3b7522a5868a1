-- A new variable: the making of its VDR leads from a good image to the one that follows, what is known of the variables then, and what the command is answered.
use Rattle.cdf_vars.proofs.Common.{Act, All, AllKeep, Allowances, Answers, ByStep, Chain, DataSet, Does, Done, Follows, Go, Good, HasDims, HasShape, Hold, In, IsBody, IsGoodByShape, IsSound, JoinsVdr, Keeps, Kind, KnowsKind, List, MakesVariable, NewVariable, Only, OthersStay, OwnRules, Plain, R, Refused, Same, Shape, Some, TooLarge, Took, Variable, VariableLives, VariableShape, VariableSplices, Z, [], allowances, ap, apart_if, append-nil, arith, attributes_kept, behind_link, beside_in, bytes_eq, content, content_is, content_now, count_of, counted_before, counted_in, edit, ends, eq-eqb, false, file, fills, fine_has_no_zeros, fine_is_short, fine_is_some, flat_map, gdr_is, gdr_place, gone, good_by_its_shape, good_image_if, good_is_sound, got-middle, if◌then◌else◌, image_limit, inl, is_among, is_bad_name, is_bad_shape, is_vdr_body, joined_acts, joined_size, joined_splices, joined_type, kind_ours, kind_type, leaves_of, length, linked, lives, made_keeps_unused, made_once, making, map, map-append, marks, member_in, name_in, new_variable, next_field, nodes_of, number, numbers_kept, nums_from, of_kind, only_of, only_reads, owned, owned_once_if, r_sizes, refl, room, same_as_itself, same_kind, shape, shape_is, shape_now, shapes_of, size_at, slice_get, spliced_times, step, subst, sym, t, the_one, times, times-none, too_large, true≢false, type_at, type_in, type_of_body, used_times, var_step, variable_changes, variable_names, variable_of, variable_records, variables_chain, variables_of, variables_of_are, vdr_body, vdr_bytes, vdr_name, vdr_type, vdrs, vdrs_append, vdrs_rows, vdrs_rows-push, with_shapes, with_variables, ℕ, ◌++◌, ◌+◌, ◌<◌, ◌^◌, ◌∙◌, ◌∷◌, ◌≡◌, ◌≢◌, ◌≤◌, sealed_kept, good_long, rules_of_good}
use Rattle.cdf_edits.proofs.Common.{members_of}
use Rattle.cdf_edits.specs.Space.Adding.{Added}
use Rattle.cdf_edits.proofs.Edits.VariablesLinked.{keep_numbered, keep_with_kind, next_keeps, other_stays}
use Rattle.cdf_vars.proofs.VariableChains.{counted_members, variable_members, few_variables}
use Rattle.cdf_vars.proofs.NewVdr.{IsNewVdr, IsShaped, Shares, bare_variable, end_is, has, length-body, means, name_is, ruled, shaped, type_in_body, varys_written, vdr_written}
use Rattle.cdf_vars.proofs.VariableFound.{kind_with, others_with}
use Rattle.cdf_vars.proofs.OwnShapes.{own_now}
use Rattle.cdf_vars.proofs.VariableNames.{absent_from}

-- ---- what is said by the kind

-- what the command is that makes it
pub record IsMaking (b : List ℕ) (kind : Kind) (v : NewVariable) : Type 0 where
  pub step_is : step (content b) (making kind v) ≡ ByStep (var_step (content b) kind v.name v.type v.elems v.vary v.dims v.varys)
  pub room_is : room b (making kind v) ≡ vdr_bytes kind (length v.dims)
  pub may_is : allowances b (content b) (shape b) (making kind v) ≡ variable_changes b kind
  pub makes : only_reads (making kind v) ≡ false
  pub does : (now : List ℕ) (acts : List Act) → MakesVariable b now kind v.name v.vary v.varys acts → Does b (making kind v) now acts

pub is_making : (b : List ℕ) (kind : Kind) (v : NewVariable) → HasDims b kind v.dims → IsMaking b kind v
is_making b R v dims = record { step_is = ap (λ (d : List ℕ). ByStep (var_step (content b) R v.name v.type v.elems v.vary d v.varys)) (sym dims); room_is = ap (λ (d : List ℕ). vdr_bytes R (length d)) (sym dims); may_is = refl; makes = refl; does = λ now acts m. m }
is_making b Z v dims = record { step_is = refl; room_is = refl; may_is = refl; makes = refl; does = λ now acts m. m }

bare_records : (place : ℕ) → flat_map variable_records (bare_variable place ∷ []) ≡ place ∷ []
unfolding nodes_of leaves_of
bare_records place = refl

-- ---- the record is taken, written, linked and counted

module _ (b : List ℕ) (kind : Kind) (v : NewVariable) (limit : ℕ) (image : Good b) (well_named : is_bad_name v.name ≡ false) (fine : is_bad_shape v.type v.elems v.dims v.varys ≡ false) (roomy : length b + vdr_bytes kind (length v.dims) ≤ limit) (limited : limit ≤ image_limit) where
  abbrev s : Shape
  s = shape b

  abbrev own : List VariableShape
  own = shapes_of s kind

  abbrev num : ℕ
  num = length (vdrs own)

  good : IsGoodByShape b s
  good = good_by_its_shape b image

  sound : IsSound b s
  sound = good_is_sound b image

  h : HasShape b s
  h = sound.has_shape

  short : length v.name ≤ 256
  short = fine_is_short v.name well_named

  no_zero : All (λ (byte : ℕ). byte ≢ 0) v.name
  no_zero = fine_has_no_zeros v.name well_named

  is : IsShaped v.type v.elems v.dims v.varys
  is = shaped v.type v.elems v.dims v.varys fine

  pub few : num < 2 ^ 32
  few = let l = few_variables b s h kind in omega (arith, l, roomy, limited)

  pub few_counted : counted_in b (variables_chain kind) + 1 < 2 ^ 32
  few_counted =
      let count : counted_in b (variables_chain kind) ≡ num = counted_members b image kind ∙ ap (λ (ms : List ℕ). length ms) (variable_members b s h kind) in
      omega (arith, few_variables b s h kind, count, roomy, limited)

  -- the bytes that are written
  module _ {bytes : List ℕ} (n : ℕ) (are : bytes ≡ vdr_body kind v n) where
    pub is_typed : type_of_body bytes ≡ type_in (variables_chain kind)
    is_typed = ap type_of_body are ∙ type_in_body kind v n ∙ sym (kind_type kind)

    pub is_body : IsBody bytes
    is_body = is_vdr_body kind bytes (length v.dims) is_typed (omega (arith, length-body kind v n short is, ap (λ (x : List ℕ). length x) are))

    pub has_room : length b + (8 + length bytes) ≤ limit
    has_room = let size = length-body kind v n short is in let same = ap (λ (x : List ℕ). length x) are in omega (arith, size, same, roomy)

    -- ---- once it is linked and counted

    module _ {now : List ℕ} {chain : Chain} {place : ℕ} (dims : HasDims b kind v.dims) (counted : n ≡ num) (is_chain : chain ≡ variables_chain kind) (made_there : Added b now chain bytes place) where
      pub added : Added b now (variables_chain kind) (vdr_body kind v num) place
      added = subst (λ (c : Chain). Added b now c (vdr_body kind v num) place) is_chain (subst (λ (x : List ℕ). Added b now chain x place) (are ∙ ap (vdr_body kind v) counted) made_there)

      abbrev records : List ℕ
      records = (shape added.filled).records

      abbrev list : List ℕ
      list = (shape added.filled).unused

      abbrev body : List ℕ
      body = vdr_body kind v num

      abbrev w : JoinsVdr b now kind body place (members_of b (variables_chain kind) ++ place ∷ []) (counted_in b (variables_chain kind) + 1)
      w = record { joined = added; type_is = type_in_body kind v num ∙ sym (kind_type kind) }

      long : 8 + length body ≡ vdr_bytes kind (length v.dims)
      long = length-body kind v num short is

      new_type : type_at now place ≡ vdr_type kind
      new_type = joined_type sound w ∙ kind_type kind

      new_size : size_at now place ≡ vdr_bytes kind (length v.dims)
      new_size = joined_size sound w ∙ long

      new : IsNewVdr now place kind v num
      new = vdr_written kind v num short is added.placed few (subst (λ (n : ℕ). Same added.filled now (place + 20) (place + n)) long (behind_link sound w))
          (subst (λ (n : ℕ). place + n ≤ length added.filled) long (let high = added.placed.inside in let same = added.placed.fills.long in omega (arith, high, same))) (omega (arith, added.as_long))

      abbrev bare : VariableShape
      bare = bare_variable place

      abbrev made : Shape
      made = with_shapes s kind records list (own ++ (bare ∷ [] ++ []))

      vdrs_are : vdrs (own ++ (bare ∷ [] ++ [])) ≡ vdrs own ++ place ∷ []
      vdrs_are = vdrs_append own (bare ∷ [])

      shares : Shares now kind v.dims
      shares = by kind dims
        where
          by : (kind : Kind) → HasDims b kind v.dims → Shares now kind v.dims
          by R d = (file sound w).sizes ∙ ap (r_sizes b) h.gdr_is ∙ sym (ap (λ (x : DataSet). x.rdims) (content_is b s h)) ∙ sym d
          by Z d = tt

      splices : VariableSplices b now s kind records list (marks sound w) (place ∷ []) own [] (bare ∷ []) []
      splices = joined_splices sound w own [] (bare ∷ []) [] (sym (append-nil own)) (vdrs_are ∙ ap (λ (ms : List ℕ). ms ++ place ∷ []) (sym (variable_members b s h kind))) (has new is new_type shares records new_size, tt)

      pub now_is : shape now ≡ made
      now_is = shape_is now made (shape_now sound splices)

      abbrev fresh : Variable
      fresh = new_variable v.name v.type v.elems v.dims v.varys v.vary

      pub content_is_made : content now ≡ with_variables (content b) kind (variables_of (content b) kind ++ fresh ∷ [])
      content_is_made =
          let here = means new is new_type shares no_zero in
          let old : map (variable_of b) own ≡ variables_of (content b) kind = sym (ap (λ (d : DataSet). variables_of d kind) (content_is b s h) ∙ variables_of_are b s kind) in
          content_now sound splices ∙ (λ i. with_variables (content b) kind (old i ++ here i ∷ []))

      -- ---- the rules

      -- the new record is owned once more than before
      owners : (m : ℕ) → used_times made m + 0 ≡ used_times s m + times m (place ∷ [])
      owners m = spliced_times s kind records list own [] (bare ∷ []) [] (sym (append-nil own)) m (times m (place ∷ [])) 0 (ap (λ (ms : List ℕ). times m ms + 0) (bare_records place) ∙ omega arith)

      own_rules : is_among v.name (variable_names (content b)) ≡ false → OwnRules sound splices
      own_rules free =
          let named = name_is new is new_type shares no_zero in
          let count =
          ap (λ (g : ℕ). number now g (count_of (variables_chain kind))) (gdr_place sound (edit sound w) (t sound w).all.file_clear ∙ sym (gdr_is sound w)) ∙ added.counted
          ∙ ap (λ (n : ℕ). n + 1) (counted_members b image kind ∙ ap (λ (ms : List ℕ). length ms) (variable_members b s h kind)) in
          let nums = nums_from sound (edit sound w) (file sound w) own (kind_ours b s sound kind) (of_kind (VariableLives b now) kind s (lives sound w)) in
          record {
            counted = subst (λ (ms : List ℕ). Hold (vdrs_rows kind now ms)) (sym vdrs_are) (vdrs_rows-push kind now (vdrs own) place count new.says.1.1.1.1.1.1.1.1.1.1.0 (numbers_kept kind b now (vdrs own) nums (counted_before good kind)));
            apart = apart_if sound splices good (λ x y i j ne. absurd (ne (the_one place x i ∙ sym (the_one place y j))))
                (λ x y i j. subst (λ (n : List ℕ). bytes_eq n (name_in b y vdr_name) ≡ false) (sym (ap (λ (m : ℕ). name_in now m vdr_name) (the_one place x i) ∙ named)) (absent_from b image v.name free y (beside_in sound splices y j)));
            own_ruled = (ruled new is new_type shares records new_size no_zero (fine_is_some v.name well_named), tt);
            owned = owned_once_if b now s made (marks sound w) (place ∷ []) sound good.owned_once (edit sound w) (λ m out. omega (arith, owners m, times-none m (place ∷ []) out))
                (λ m i. inl (made_once sound (fills sound w) added.linked added.as_long (t sound w).lately made 0 (owners place) refl m i));
          }

      -- ---- what stays

      abbrev acts : List Act
      acts = Took place (8 + length body) ∷ []

      records_are : (shape now).records ≡ records
      records_are = ap (λ (x : Shape). x.records) now_is

      keeps : AllKeep b now (variable_changes b kind) acts (owned b s)
      keeps =
          let only : (m : ℕ) → In m (vdrs own) → (if same_kind kind kind then only_of b m (vdr_type kind) (next_field ∷ []) else Only []) ≡ Only (next_field ∷ []) = λ m i. rw (same_as_itself kind, eq-eqb (type_at b m) (vdr_type kind) ((member_in sound w m i).1 ∙ kind_type kind)) refl in
          keep_with_kind sound (edit sound w) (t sound w).all records_are (variable_changes b kind).variables acts (λ i m. rw (other_stays kind) refl)
          (keep_numbered sound (edit sound w) (t sound w).all records_are (variable_changes b kind) acts kind 0 own (kind_ours b s sound kind) (λ k m low high i inside. subst (Keeps b now m) (sym (only m i)) (next_keeps sound (edit sound w) (t sound w).all records_are m inside (linked sound w m i))))
          (attributes_kept sound splices)
          (made_keeps_unused sound (fills sound w) added.linked added.as_long (t sound w).lately records_are (variable_changes b kind))

      pub follows : is_among v.name (variable_names (content b)) ≡ false → Follows b (making kind v) now
      follows free =
          let longest : length now ≤ length b + vdr_bytes kind (length v.dims) = (let l = added.placed.longest in omega (arith, l, long, added.as_long)) in
          record {
            reply = Plain;
            goes = (is_making b kind v dims).step_is ∙ rw (well_named, free, fine) (ap (λ (d : DataSet). ByStep (Go d Plain)) (sym content_is_made));
            good = good_image_if sound splices (sealed_kept b (good_long b s good) (rules_of_good b image)).0 good (own_rules free) (ends sound w) (omega arith);
            longer = (edit sound w).longer;
            within = subst (λ (n : ℕ). length now ≤ length b + n) (sym (is_making b kind v dims).room_is) longest;
            reads = λ q. absurd (true≢false (sym q ∙ (is_making b kind v dims).makes));
            acts = acts;
            takes_within = subst (λ (n : ℕ). 0 + (8 + length body) ≤ n) (sym (is_making b kind v dims).room_is) (let l = long in omega arith);
            acts_follow = joined_acts sound w _ now_is;
            keeps = subst (λ (a : Allowances). AllKeep b now a acts (owned b s)) (sym (is_making b kind v dims).may_is) keeps;
            does = (is_making b kind v dims).does now acts (record {
              made = bare;
              made_last = subst (λ (vs : List VariableShape). slice_get vs (length own) ≡ Some bare) (sym (own_now b now (own ++ bare ∷ []) kind now_is)) (got-middle own bare []);
              acts_are = ap (λ (n : ℕ). Took place n ∷ []) (long ∙ sym (end_is new is new_type shares));
              says = (new.says.1.1.1.0, (new.says.1.1.1.1.0, (new.says.1.1.1.1.1.1.0, (new.says.1.1.1.1.1.1.1.0, (new.says.1.1.1.1.1.1.1.1.0, (new.says.1.1.1.1.1.1.1.1.1.1.1.0, tt))))));
              named = new.filled;
              varys_are = varys_written new is new_type shares;
            });
          }

      -- ---- what is known of the variables

      pub known : {names : List (List ℕ)} {places places' : List ℕ} → places' ≡ places ++ place ∷ [] → KnowsKind b kind (record { names = names; places = places }) → KnowsKind now kind (record { names = names ++ v.name ∷ []; places = places' })
      known pushed k =
          kind_with b now _ _ kind content_is_made now_is (ap (λ (xs : List (List ℕ)). xs ++ v.name ∷ []) k.names_are ∙ sym (map-append (λ (x : Variable). x.name) (variables_of (content b) kind) (fresh ∷ [])))
          (pushed ∙ ap (λ (xs : List ℕ). xs ++ place ∷ []) k.places_are ∙ sym vdrs_are)

      pub others : OthersStay b now kind
      others = others_with b now _ _ kind content_is_made now_is

-- ---- the answers

module _ (limit : ℕ) (b : List ℕ) (kind : Kind) (v : NewVariable) (dims : HasDims b kind v.dims) (named : is_bad_name v.name ≡ false) (free : is_among v.name (variable_names (content b)) ≡ false) (fine : is_bad_shape v.type v.elems v.dims v.varys ≡ false) where
  goes : step (content b) (making kind v) ≡ ByStep (Go (with_variables (content b) kind (variables_of (content b) kind ++ new_variable v.name v.type v.elems v.dims v.varys v.vary ∷ [])) Plain)
  goes = (is_making b kind v dims).step_is ∙ rw (named, free, fine) refl

  pub no_room : limit < length b + vdr_bytes kind (length v.dims) → Answers limit b (making kind v) (Refused TooLarge) b
  no_room over = too_large limit b (making kind v) _ Plain goes (subst (λ (n : ℕ). limit < length b + n) (sym ((is_making b kind v dims).room_is)) over)

  pub is_done : length b + vdr_bytes kind (length v.dims) ≤ limit → {now : List ℕ} → Follows b (making kind v) now → Answers limit b (making kind v) (Done Plain) now
  is_done fits {now = now} follows = gone limit b (making kind v) _ Plain now goes (subst (λ (n : ℕ). length b + n ≤ limit) (sym ((is_making b kind v dims).room_is)) fits) follows
