-- What is told of a variable, by what was read of its VDR.
use Rattle.cdf_var_records.proofs.Common.{AreBytes, Bool, Form, Good, IsForm, IsVdr, Kind, List, None, Option, R, Some, Sparse, Z, [], ap, arith, cast_signed, cast_unsigned, has_bit, max_rec_at, of_z-to_z, option_map, refl, sparse_at, subst, sym, type_at, typed, unwrap_or, variable_at, variables_chain, w32, word, word_fits, ℕ, ℤ, ◌+◌, ◌<◌, ◌^◌, ◌∙◌, ◌≡◌, ◌≤◌}
use Rattle.cdf_edits.specs.Space.Chains.{type_in}
use Rattle.cdf_format.specs.Fields.{LiesIn, integer4, name_at, name_field, name_in, signed4}
use Rattle.cdf_format.specs.Records.{vdr_blocking_factor, vdr_name}
use Rattle.cdf_model.specs.Events.{variable_event}
use Rattle.cdf_model.specs.declared.event.Event.TheVariants as events
use Rattle.cdf_var_records.proofs.PadSites.{at, vdr_lies}
use Rattle.std.specs.Option.{is_some}

named_as : (kind : Kind) → name_field (type_in (variables_chain kind)) ≡ vdr_name
named_as R = refl
named_as Z = refl

pub some_map : {A B : Type 0} (o : Option A) (f : A → B) → is_some o ≡ is_some (option_map f o)
some_map None f = refl
some_map (Some a) f = refl

pub unwrap_map : {A B : Type 0} (o : Option A) (other : A) (f : A → B) (b : B) → f other ≡ b → f (unwrap_or o other) ≡ unwrap_or (option_map f o) b
unwrap_map None other f b e = e
unwrap_map (Some a) other f b e = refl

module _ {b : List ℕ} {kind : Kind} {vdr : ℕ} (good : Good b) (v : IsVdr b kind vdr) where
  named_by : name_field (type_at b vdr) ≡ vdr_name
  named_by = ap name_field (typed good (at good v)) ∙ named_as kind

  pub name_lies : LiesIn b vdr (name_field (type_at b vdr))
  name_lies = subst (LiesIn b vdr) (sym named_by) (let l = vdr_lies good v in omega arith)

  -- a number that is passed on
  pub passed : {form : Form} → IsForm b form → form.place.vdr ≡ vdr → (place : ℕ) → place + 4 ≤ 84 → (z : ℤ) → z ≡ signed4 b (vdr + place) → cast_signed w32 (cast_unsigned w32 z) ≡ signed4 b (vdr + place)
  passed is there place inside z e =
      let bytes = subst (λ (k : ℕ). AreBytes b k 84) there is.place.bytes in
      let fits : word b (vdr + place) 4 < 256 ^ 4 = word_fits b vdr 84 (vdr + place) 4 bytes (omega arith) (omega arith) in
      ap (λ (x : ℤ). cast_signed w32 (cast_unsigned w32 x)) e ∙ ap (λ (k : ℕ). cast_signed w32 k) (of_z-to_z w32 (word b (vdr + place) 4) (omega arith))

  -- by what was read of it
  pub told : (form : Form) → IsForm b form → form.place.vdr ≡ vdr → (num : ℕ) (name : List ℕ) → name ≡ name_at b vdr → (vary : Bool) → vary ≡ has_bit form.place.flags 0 → (sparse : Sparse) → sparse ≡ sparse_at b vdr
      → (rle : Bool) → rle ≡ has_bit form.place.flags 2 → (blocking max_rec : ℤ) → blocking ≡ integer4 b vdr vdr_blocking_factor → max_rec ≡ max_rec_at b vdr
      → (has : Bool) (pad : List ℕ) → has ≡ is_some (variable_at b form.place.vdr).pad → pad ≡ unwrap_or (variable_at b form.place.vdr).pad []
      → events.Var kind num name form.shape.t form.shape.elems vary form.shape.dims form.shape.varys sparse rle blocking max_rec has pad ≡ variable_event kind num (variable_at b vdr)
  told form f there num name name_is vary vary_is sparse sparse_is rle rle_is blocking max_rec blocking_is max_is has pad has_is pad_is =
      let at_form = sym there in
      let named = name_is ∙ ap (name_in b vdr) named_by ∙ ap (λ (k : ℕ). name_in b k vdr_name) at_form in
      let t = f.t_is ∙ f.place.t_is in
      let elems = f.elems_are ∙ f.place.elems_are in
      let varies = vary_is ∙ ap (λ (n : ℕ). has_bit n 0) f.place.flags_are in
      let rule = sparse_is ∙ ap (sparse_at b) at_form in
      let packed = rle_is ∙ ap (λ (n : ℕ). has_bit n 2) f.place.flags_are in
      let factor = blocking_is ∙ ap (λ (k : ℕ). integer4 b k vdr_blocking_factor) at_form in
      let most = max_is ∙ ap (max_rec_at b) at_form in
      let dims = f.dims_are in
      let varys = f.varys_are in
      let now : events.Var kind num name form.shape.t form.shape.elems vary form.shape.dims form.shape.varys sparse rle blocking max_rec has pad ≡ variable_event kind num (variable_at b form.place.vdr) =
      λ i. events.Var kind num (named i) (t i) (elems i) (varies i) (dims i) (varys i) (rule i) (packed i) (factor i) (most i) (has_is i) (pad_is i) in
      now ∙ ap (λ (k : ℕ). variable_event kind num (variable_at b k)) there
