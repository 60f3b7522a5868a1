-- What is put, as it was read of the variable: how many records are written and as which bytes, and what a command that puts them so is; and what is kept of the variables where one has other records.
use Rattle.cdf_vars.proofs.Common.{Bool, ByStep, CanPut, Command, DataSet, DataType, Follows, Form, Go, Good, HasRoom, In, IsForm, IsNewRecord, IsTarget, IsVdr, Kind, Known, Knows, List, NewRecord, PutsAs, PutsSo, R, Some, Target, Variable, VariableShape, Z, ap, arith, back, cannot_be_put, content, extent, false, first_written, good_is_sound, got-map, got-middle, image_limit, in_middle, index_at, index_is, inl, inr, is_little, length, map, max_rec_at, min, most_in_block, nat_lt, nat_tests, number, other_kind, pad_record, put_room, record_bytes, record_number_limit, refl, shape, shapes_of, size_of, size_stays, slice_get, slice_set, step, subst, sym, target_found, true, true≢false, turned, type_of_variable, variable_at, variable_named, variable_of, variables, variables_of, vdr_vxr_head, vdrs, vdrs_append, with_record, with_variable, with_variables, ℕ, ◌%◌, ◌&&◌, ◌++◌, ◌+◌, ◌<◌, ◌==◌, ◌||◌, ◌∙◌, ◌∷◌, ◌≡◌, ◌≤◌}
use Rattle.std.proofs.Math.Path.{transport}
use Rattle.std.specs.Prelude.{not}
use Rattle.cdf_model.specs.declared.command.Command.TheVariants as commands
use Rattle.cdf_model.specs.declared.answer.Reply.TheVariants as replies
use Rattle.cdf_puts.specs.Going.{GoesOn, found_in}
use Rattle.cdf_edits.specs.Index.Blocks.{cuts_before_put, is_sparse}
use Rattle.cdf_vars.proofs.Common.{Act, cases_lt, either, le-ltb, lt-ltb}
use Rattle.cdf_var_records.specs.Room.{ExpectsPut}
use Rattle.cdf_puts.specs.declared.starts.Starts.{Starts}
use Rattle.cdf_var_records.proofs.RecordForms.{among}
use Rattle.cdf_var_records.proofs.PadSites.{own}
use Rattle.cdf_vars.proofs.VariableFound.{knows_now, same_name_set}
use Rattle.cdf_vars.proofs.VariableNames.{variables_are}
use Rattle.cdf_vars.proofs.PutParts.{pad_is_long, whole_record}
use Rattle.cdf_format.specs.Shape.{is_compressed}

-- ---- what is kept of the variables where one has other records

pub names_set : (d : DataSet) (kind : Kind) (n : ℕ) (x v : Variable) → slice_get (variables_of d kind) n ≡ Some v → x.name ≡ v.name → (k : Kind)
    → map (λ (w : Variable). w.name) (variables_of d k) ≡ map (λ (w : Variable). w.name) (variables_of (with_variables d kind (slice_set (variables_of d kind) n x)) k)
names_set d R n x v there same R = same_name_set d.r_variables n x v there same
names_set d R n x v there same Z = refl
names_set d Z n x v there same R = refl
names_set d Z n x v there same Z = same_name_set d.z_variables n x v there same

pub both_kinds : (P : Kind → Type 0) (kind : Kind) → P kind → P (other_kind kind) → (k : Kind) → P k
both_kinds P R own other R = own
both_kinds P R own other Z = other
both_kinds P Z own other R = other
both_kinds P Z own other Z = own

pub within : (v : Variable) (r : ℕ) → cannot_be_put v r ≡ false → r ≤ record_number_limit
within v r can = by (nat_lt record_number_limit r) refl
  where
    by : (p : Bool) → nat_lt record_number_limit r ≡ p → r ≤ record_number_limit
    by true e = let over : cannot_be_put v r ≡ true = ap (λ (p : Bool). p || (not v.vary && not (r == 0))) e in absurd (true≢false (sym over ∙ can))
    by false e = grind (arith, nat_tests)

-- ---- whether something is cut before a put

pub uncut_by : (v : Variable) (r from : ℕ) → from ≡ first_written v r → from ≤ extent v.max_rec → cuts_before_put v r ≡ false
uncut_by v r from from_is le = elim (either (is_sparse v.sparse)) [
  | inl rule ↦ let is : from ≡ r = rw rule at from_is in rw (rule, le-ltb (extent v.max_rec) r (omega (arith, is, le))) refl
  | inr free ↦ rw free refl
]

pub cuts_by : (v : Variable) (r from : ℕ) → from ≡ first_written v r → extent v.max_rec < from → cuts_before_put v r ≡ true
cuts_by v r from from_is lt = elim (either (is_sparse v.sparse)) [
  | inl rule ↦ let is : from ≡ r = rw rule at from_is in rw (rule, lt-ltb (extent v.max_rec) r (omega (arith, is, lt))) refl
  | inr free ↦ let is : from ≡ min r (extent v.max_rec) = rw free at from_is in absurd (omega (arith, is, lt))
]

-- else the first record that is written is at most one past MaxRec
first_uncut : (v : Variable) (r : ℕ) → cuts_before_put v r ≡ false → min r (extent v.max_rec) ≡ first_written v r
first_uncut v r uncut = elim (either (is_sparse v.sparse)) [
  | inl rule ↦ elim (cases_lt (extent v.max_rec) r) [
    | inl lt ↦ let cuts : cuts_before_put v r ≡ true = rw (rule, lt-ltb (extent v.max_rec) r lt) refl in absurd (true≢false (sym cuts ∙ uncut))
    | inr le ↦ rw rule (omega (arith, le))
  ]
  | inr free ↦ rw free refl
]

-- ---- where an image goes on, the places of the descriptors stay

pub places_on : {b now : List ℕ} (kind : Kind) {before : List VariableShape} {own own' : VariableShape} {after : List VariableShape} {acts : List Act} → shapes_of (shape b) kind ≡ before ++ own ∷ after → GoesOn b now kind before own own' after acts → (k : Kind) → vdrs (shapes_of (shape b) k) ≡ vdrs (shapes_of (shape now) k)
places_on {b} {now} kind {before} {own} {own'} {after} was goes =
    both_kinds (λ k. vdrs (shapes_of (shape b) k) ≡ vdrs (shapes_of (shape now) k)) kind
    (ap vdrs was ∙ vdrs_append before (own ∷ after) ∙ ap (λ (k : ℕ). vdrs before ++ k ∷ vdrs after) (sym goes.vdr_is) ∙ sym (vdrs_append before (own' ∷ after)) ∙ ap vdrs (sym goes.among.was))
    (ap vdrs (sym goes.others_are))

pub vdr_on : {b now : List ℕ} (kind : Kind) {before : List VariableShape} {own own' : VariableShape} {after : List VariableShape} {acts : List Act} {vdr : ℕ} → own.vdr ≡ vdr → GoesOn b now kind before own own' after acts → IsVdr now kind vdr
vdr_on kind {before} {own} {own'} {after} {acts} {vdr} is goes =
    let at : own'.vdr ≡ vdr = goes.vdr_is ∙ is in
    record { before = before; own = own'; after = after; was = goes.among.was ∙ ap (λ (k : ℕ). before ++ record own' { vdr = k } ∷ after) at }

-- the variable of a target, and the first record that is written
module _ {b : List ℕ} {t : Target} (good : Good b) (is : IsTarget b t) where
  pub is_vdr : IsVdr b t.id.kind t.form.place.vdr
  is_vdr = record { before = is.before; own = is.own; after = is.after; was = is.among.was ∙ ap (λ (k : ℕ). is.before ++ record is.own { vdr = k } ∷ is.after) is.vdr_is }

  pub index_there : index_at b (number b t.form.place.vdr vdr_vxr_head) ≡ is.own.index
  unfolding is_vdr
  index_there = index_is good is_vdr

  -- where nothing is cut before
  pub from_is : (r : ℕ) {count : ℕ} → count ≡ extent (max_rec_at b t.form.place.vdr) → cuts_before_put (variable_of b is.own) r ≡ false → min r count ≡ first_written (variable_of b is.own) r
  from_is r count_is uncut = ap (min r) (count_is ∙ ap (λ (k : ℕ). extent (max_rec_at b k)) (sym is.vdr_is)) ∙ first_uncut (variable_of b is.own) r uncut

pub vdr_in : {b : List ℕ} {kind : Kind} {vdr : ℕ} → Good b → IsVdr b kind vdr → In vdr (vdrs (variables (shape b)))
vdr_in {vdr = vdr} good is =
    let all = among good is in
    subst (λ (vs : List VariableShape). In vdr (vdrs vs)) (sym all.all) (in_middle all.front (own good is) all.rest)

pub form_vdr : {b : List ℕ} {form : Form} → Good b → IsForm b form → In form.place.vdr (vdrs (variables (shape b)))
form_vdr good f = vdr_in good f.is_vdr

-- what is known of the index leaves room for a put of the same record in the same image
pub expects_there : {b x : List ℕ} {r n : ℕ} (vdr : ℕ) (starts : Starts) → x ≡ b → n ≡ r → ExpectsPut b vdr r starts → ExpectsPut x vdr n starts
expects_there vdr starts same is expects = transport (λ i. ExpectsPut (sym same i) vdr (sym is i) starts) expects

-- ---- what holds where the record was read, of a variable that is packed or not

pub record WasRead (b : List ℕ) (t : Target) (r : ℕ) (bytes : List ℕ) (put : NewRecord) (limit : ℕ) (rle : Bool) : Type 0 where
  pub good : Good b
  pub rle_is : is_compressed b t.form.place.vdr ≡ rle
  pub can : CanPut b r t bytes
  pub short : length b ≤ image_limit
  pub bound : limit ≤ image_limit
  pub room : HasRoom b t r limit
  pub new : IsNewRecord b t r bytes put

-- of an image that is read before
pub is_read : {b x : List ℕ} {t : Target} {r : ℕ} {bytes : List ℕ} {put : NewRecord} {limit limit' : ℕ} {rle : Bool}
    → x ≡ b → limit' ≡ limit → Good b → is_compressed b t.form.place.vdr ≡ rle → CanPut b r t bytes → HasRoom b t r limit → limit ≤ image_limit → IsNewRecord b t r bytes put → WasRead x t put.rec bytes put limit' rle
is_read {b} {x} {t} {r} {bytes} {put} {limit} {limit'} {rle} same frame good rle_is can room most new =
    let k : WasRead b t r bytes put limit rle = record { good = good; rle_is = rle_is; can = can; short = omega arith; bound = most; room = room; new = new } in
    let at_rec = subst (λ (n : ℕ). WasRead b t n bytes put limit rle) (sym new.rec_is) k in
    subst (λ (y : List ℕ). WasRead y t put.rec bytes put limit' rle) (sym same) (subst (λ (n : ℕ). WasRead b t put.rec bytes put n rle) (sym frame) at_rec)

-- whether something is cut before
pub cuts_there : {b x : List ℕ} {r n : ℕ} (vdr : ℕ) {cuts : Bool} → x ≡ b → n ≡ r → cuts_before_put (variable_at b vdr) r ≡ cuts → cuts_before_put (variable_at x vdr) n ≡ cuts
cuts_there vdr same is e = (λ i. cuts_before_put (variable_at (same i) vdr) (is i)) ∙ e

module _ {b : List ℕ} {t : Target} {bytes : List ℕ} {put : NewRecord} {limit : ℕ} {rle : Bool} (k : WasRead b t put.rec bytes put limit rle) where
  abbrev vdr : ℕ
  vdr = t.form.place.vdr

  abbrev is : IsTarget b t
  is = k.can.is

  type_is : t.form.shape.t ≡ type_of_variable b vdr
  type_is = is.is_form.t_is ∙ is.is_form.place.t_is

  whole : (bytes : List ℕ) → length bytes ≡ record_bytes b vdr → length bytes % size_of (type_of_variable b vdr) ≡ 0
  whole bytes long = subst (λ (x : DataType). length bytes % size_of x ≡ 0) type_is (whole_record k.good is.is_form bytes long)

  turned_long : (bytes : List ℕ) → length bytes ≡ record_bytes b vdr → length (turned (type_of_variable b vdr) (is_little b) bytes) ≡ record_bytes b is.own.vdr
  turned_long bytes long = size_stays (type_of_variable b vdr) (is_little b) bytes (whole bytes long) ∙ long ∙ ap (record_bytes b) (sym is.vdr_is)

  -- turned once more they are as they were
  turned_back : (bytes stored : List ℕ) → length bytes ≡ record_bytes b vdr → stored ≡ turned (type_of_variable b vdr) (is_little b) bytes → turned (type_of_variable b is.own.vdr) (is_little b) stored ≡ bytes
  turned_back bytes stored long e = let at = is.vdr_is in (λ i. turned (type_of_variable b (at i)) (is_little b) (e i)) ∙ back (type_of_variable b vdr) (is_little b) bytes (whole bytes long)

  pad_as_long : length (pad_record (variable_at b vdr)) ≡ record_bytes b vdr
  pad_as_long = pad_is_long k.good is.is_form

  pub small : put.rec ≤ record_number_limit
  small = within (variable_at b vdr) put.rec k.can.can

  -- both are as long as a record, and turned they are what is put, and a pad
  pub raw_long : length put.raw.items ≡ record_bytes b is.own.vdr
  raw_long = ap length k.new.raw_is ∙ turned_long bytes k.can.long

  pub pad_long : length put.pad.items ≡ record_bytes b is.own.vdr
  pad_long = ap length k.new.pad_is ∙ turned_long (pad_record (variable_at b vdr)) pad_as_long

  pub raw_is : turned (type_of_variable b is.own.vdr) (is_little b) put.raw.items ≡ bytes
  raw_is = turned_back bytes put.raw.items k.can.long k.new.raw_is

  pub pad_is : turned (type_of_variable b is.own.vdr) (is_little b) put.pad.items ≡ pad_record (variable_of b is.own)
  pad_is = turned_back (pad_record (variable_at b vdr)) put.pad.items pad_as_long k.new.pad_is ∙ ap pad_record is.variable_is

  pub pad_stored : put.pad.items ≡ turned (type_of_variable b is.own.vdr) (is_little b) (pad_record (variable_of b is.own))
  pad_stored = let at = is.vdr_is in let x = is.variable_is in k.new.pad_is ∙ (λ i. turned (type_of_variable b (sym at i)) (is_little b) (pad_record (x i)))

  pub most_is : put.most ≡ most_in_block (variable_of b is.own) put.rec
  most_is = k.new.most_is ∙ ap (λ (x : Variable). most_in_block x put.rec) is.variable_is

  pub room_own : length b + put_room (variable_of b is.own) is.own.index put.rec ≤ limit
  room_own = let x = is.variable_is in let nodes = index_there k.good is in subst (λ (n : ℕ). length b + n ≤ limit) (λ i. put_room (x i) (nodes i) put.rec) k.room

  pub cuts_own : {cuts : Bool} → cuts_before_put (variable_at b vdr) put.rec ≡ cuts → cuts_before_put (variable_of b is.own) put.rec ≡ cuts
  cuts_own e = ap (λ (x : Variable). cuts_before_put x put.rec) (sym is.variable_is) ∙ e

  -- the variable that a command names
  pub found_same : target_found b t ≡ found_in b t.id.kind is.before is.own
  found_same = let n = is.number_is in let can_be = is.variable_is in λ i. record { kind = t.id.kind; number = sym n i; variable = can_be i }

  -- a command goes by the step of a put
  abbrev pub StepsSo : Command → Type 0
  StepsSo c = step (content b) c ≡ ByStep (Go (with_variable (content b) (found_in b t.id.kind is.before is.own) (with_record (variable_of b is.own) put.rec bytes)) replies.Plain)

  -- where it is followed as `put-rec` and as `put-val`, it is followed
  pub followed : {last : List ℕ} (c : Command) (name : List ℕ) → PutsSo b c name put.rec t bytes
      → ((words : List (List ℕ)) → variable_named (content b) name ≡ Some (found_in b t.id.kind is.before is.own) → StepsSo (commands.PutRec name put.rec words) → Follows b (commands.PutRec name put.rec words) last)
      → ((index : List ℕ) (words : List (List ℕ)) → variable_named (content b) name ≡ Some (found_in b t.id.kind is.before is.own) → StepsSo (commands.PutVal name put.rec index words) → Follows b (commands.PutVal name put.rec index words) last)
      → Follows b c last
  followed {last} c name so rec_done val_done = by c so.puts (so.goes ∙ (let can_be = is.variable_is in λ i. ByStep (Go (with_variable (content b) (found_same i) (with_record (can_be i) put.rec bytes)) replies.Plain)))
    where
      named : variable_named (content b) name ≡ Some (found_in b t.id.kind is.before is.own)
      named = so.named ∙ ap Some found_same

      by : (c : Command) → PutsAs name put.rec c → StepsSo c → Follows b c last
      by (commands.PutRec var rec words) p goes = let e = p.0 in let f = p.1 in rw (e, f) (rec_done words named (rw (e, f) at goes))
      by (commands.PutVal var rec index words) p goes = let e = p.0 in let f = p.1 in rw (e, f) (val_done index words named (rw (e, f) at goes))
      by _ p goes = absurd p

  -- what is known of the names and the places of the variables is so yet
  pub knows_put : {last : List ℕ} {known : Known} → content last ≡ with_variable (content b) (found_in b t.id.kind is.before is.own) (with_record (variable_of b is.own) put.rec bytes)
      → ((k : Kind) → vdrs (shapes_of (shape b) k) ≡ vdrs (shapes_of (shape last) k)) → Knows b known → Knows last known
  knows_put made places knows =
      let stands : slice_get (shapes_of (shape b) t.id.kind) (length is.before) ≡ Some is.own = ap (λ (vs : List VariableShape). slice_get vs (length is.before)) is.among.was ∙ got-middle is.before is.own is.after in
      let was = ap (λ (vs : List Variable). slice_get vs (length is.before)) (variables_are b (shape b) (good_is_sound b k.good).has_shape t.id.kind) ∙ got-map (variable_of b) (shapes_of (shape b) t.id.kind) (length is.before) is.own stands in
      knows_now knows (λ (j : Kind). names_set (content b) t.id.kind (length is.before) (with_record (variable_of b is.own) put.rec bytes) (variable_of b is.own) was refl j ∙ ap (λ (d : DataSet). map (λ (w : Variable). w.name) (variables_of d j)) (sym made))
      places
