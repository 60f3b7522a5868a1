-- The variable of which a record is put or read, by its name.
use Rattle.cdf_vars.proofs.Common.{Form, Good, HasForm, HasTarget, IsForm, Known, Knows, List, Option, Some, VarId, ap, found_among, get_or, known_of, sym, variable_at, ℕ, ◌∙◌, ◌≡◌}
use Rattle.cdf_vars.proofs.VariableFound.{own_is, parts_there, variable_there}

module _ {b : List ℕ} (name : List ℕ) {known : Known} {result : Option VarId} (knows : Knows b known) (asked : result ≡ found_among known name) {id : VarId} (good : Good b) (some : result ≡ Some id)
    {at : ℕ} (is : at ≡ get_or (known_of known id.kind).places id.num 0) (form : Form) (f : IsForm b form) (there : form.place.vdr ≡ at) where
  pub has_target : HasTarget b name (record { id = id; form = form })
  has_target =
      let parts = parts_there name knows asked good some in
      let count = parts.count in
      let here = ap (variable_at b) there ∙ variable_there name knows asked good some is in
      record {
        is = record { before = parts.before; own = parts.own; after = parts.after; among = parts.at; number_is = count; vdr_is = own_is name knows asked good some is ∙ sym there; variable_is = here; is_form = f };
        named = parts.named ∙ (λ i. Some (record { kind = id.kind; number = count i; variable = sym here i }));
      }

  pub has_form : HasForm b name form
  has_form = record { kind = id.kind; number = id.num; is_form = f; named = has_target.named }
