-- What `get-rec` and `get-val` show are whole values.
use Rattle.cdf_vars.proofs.Common.{Answer, Bool, DataSet, Found, Go, Good, IndexOutOfRange, IsVdr, Kind, Known, KnownKind, Knows, List, NoSuchVar, None, Option, R, RecordOutOfRange, Reply, Some, Variable, Z, [], ap, arith, content, drop, false, get_rec_step, get_val_step, given, id_of, length, length-drop, length-take, map, mul-mod_right, nat_lt, option_map, place_in_record, read, read_long, record_bytes, record_number_limit, refl, same_Some, shape, shapes_of, some_elements, subst, sym, take, true, unless, value_count, value_size, variable_is, variable_named, variable_of, variables_of, vdrs, ℕ, ◌%◌, ◌*◌, ◌∙◌, ◌∷◌, ◌≡◌, ◌≤◌}
use Rattle.cdf_model.specs.declared.answer.Reply.TheVariants as replies
use Rattle.cdf_model.specs.Whole.{HasWholeValues, IsWhole}
use Rattle.cdf_vars.proofs.RecordPlaces.{place_below, value_inside}
use Rattle.cdf_vars.proofs.VariableFound.{found_is}
use Rattle.cdf_vars.proofs.VariableFound.{Parts, the_parts}

module _ (b : List ℕ) (good : Good b) where
  -- all that there is to know of the variables
  abbrev all_of : Kind → KnownKind
  all_of kind = record { names = map (λ (v : Variable). v.name) (variables_of (content b) kind); places = vdrs (shapes_of (shape b) kind) }

  abbrev all : Known
  all = record { r = all_of R; z = all_of Z }

  knows_all : Knows b all
  knows_all = record { r_known = record { names_are = refl; places_are = refl }; z_known = record { names_are = refl; places_are = refl } }

  module _ (name : List ℕ) (f : Found) (named : variable_named (content b) name ≡ Some f) where
    parts : Parts b all name (id_of f)
    parts = the_parts name good knows_all (sym (found_is b all name knows_all) ∙ ap (option_map id_of) named)

    is_vdr : IsVdr b f.kind parts.own.vdr
    is_vdr = record { before = parts.before; own = parts.own; after = parts.after; was = parts.at.was }

    variable : f.variable ≡ variable_of b parts.own
    variable = ap (λ (g : Found). g.variable) (same_Some f _ (sym named ∙ parts.named))

    some : 1 ≤ f.variable.elems
    some = subst (λ (v : Variable). 1 ≤ v.elems) (sym variable) (some_elements good is_vdr)

    long : (rec : ℕ) → length (read f.variable rec) ≡ value_size f.variable * value_count f.variable.dims f.variable.varys
    unfolding is_vdr
    long rec =
        let here : length (read (variable_of b parts.own) rec) ≡ record_bytes b parts.own.vdr = ap (λ (v : Variable). length (read v rec)) (sym (variable_is good is_vdr)) ∙ read_long good is_vdr rec in
        subst (λ (v : Variable). length (read v rec) ≡ value_size v * value_count v.dims v.varys) (sym variable) here

    record_whole : (rec : ℕ) → IsWhole f.variable.type f.variable.elems (read f.variable rec)
    record_whole rec = (some, ap (λ (n : ℕ). n % value_size f.variable) (long rec) ∙ mul-mod_right (value_size f.variable) (value_count f.variable.dims f.variable.varys))

    value_whole : (rec n : ℕ) (index : List ℕ) → place_in_record (content b) f.variable index ≡ Some n → IsWhole f.variable.type f.variable.elems (take (value_size f.variable) (drop (n * value_size f.variable) (read f.variable rec)))
    value_whole rec n index at =
        let size = value_size f.variable in
        let bytes = read f.variable rec in
        let below = place_below (content b).majority f.variable.dims f.variable.varys index n at in
        let room = value_inside n size (value_count f.variable.dims f.variable.varys) below in
        let l = long rec in
        let one : length (take size (drop (n * size) bytes)) ≡ size = omega (arith, length-take size (drop (n * size) bytes), length-drop (n * size) bytes, room, l) in
        (some, ap (λ (k : ℕ). k % size) (one ∙ times_one size) ∙ mul-mod_right size 1)
      where
        times_one : (k : ℕ) → k ≡ k * 1
        times_one k = omega arith

  -- ---- what is shown

  shown : (over : Bool) (answer : DataSet) (reply reply' : Reply) (d : DataSet) → HasWholeValues reply → unless ((over, RecordOutOfRange) ∷ []) (Go answer reply) ≡ Go d reply' → HasWholeValues reply'
  shown true answer reply reply' d whole e = absurd cc
  shown false answer reply reply' d whole e = let same : reply ≡ reply' = cc in subst HasWholeValues same whole

  pub shown_record : (name : List ℕ) (rec : ℕ) (d : DataSet) (reply : Reply) → get_rec_step (content b) name rec ≡ Go d reply → HasWholeValues reply
  shown_record name rec d reply e = go (variable_named (content b) name) refl e
    where
      show : Found → Answer
      show f = unless ((nat_lt record_number_limit rec, RecordOutOfRange) ∷ []) (Go (content b) (replies.Values f.variable.type f.variable.elems (read f.variable rec)))

      go : (found : Option Found) → variable_named (content b) name ≡ found → given NoSuchVar found show ≡ Go d reply → HasWholeValues reply
      go None is e = absurd cc
      go (Some f) is e = shown (nat_lt record_number_limit rec) (content b) (replies.Values f.variable.type f.variable.elems (read f.variable rec)) reply d (record_whole name f is rec) e

  pub shown_value : (name : List ℕ) (rec : ℕ) (index : List ℕ) (d : DataSet) (reply : Reply) → get_val_step (content b) name rec index ≡ Go d reply → HasWholeValues reply
  shown_value name rec index d reply e = go (variable_named (content b) name) refl e
    where
      show : Found → ℕ → Answer
      show f n = unless ((nat_lt record_number_limit rec, RecordOutOfRange) ∷ []) (Go (content b) (replies.Values f.variable.type f.variable.elems (take (value_size f.variable) (drop (n * value_size f.variable) (read f.variable rec)))))

      last : (f : Found) → variable_named (content b) name ≡ Some f → (at : Option ℕ) → place_in_record (content b) f.variable index ≡ at → given IndexOutOfRange at (show f) ≡ Go d reply → HasWholeValues reply
      last f named None is e = absurd cc
      last f named (Some n) is e = shown (nat_lt record_number_limit rec) (content b) (replies.Values f.variable.type f.variable.elems (take (value_size f.variable) (drop (n * value_size f.variable) (read f.variable rec)))) reply d (value_whole name f named rec n index is) e

      go : (found : Option Found) → variable_named (content b) name ≡ found → given NoSuchVar found (λ f. given IndexOutOfRange (place_in_record (content b) f.variable index) (show f)) ≡ Go d reply → HasWholeValues reply
      go None is e = absurd cc
      go (Some f) is e = last f is (place_in_record (content b) f.variable index) refl e
