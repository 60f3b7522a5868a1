-- A variable whose records a command reads, by the place of its VDR.
use Rattle.std.specs.Prelude.{◌≡◌, ℕ, List, Some, None}
use Rattle.cdf_format.specs.Content.{content}
use Rattle.cdf_model.specs.declared.kinds.Kind.{Kind}
use Rattle.cdf_model.specs.Names.{variable_named}
use Rattle.cdf_var_records.specs.declared.form.Form.{Form}
use Rattle.cdf_vars.specs.declared.records.Sought.{Sought}
use Rattle.cdf_vars.specs.declared.records.Sought.TheVariants.{Found, Missing}
use Rattle.cdf_var_records.specs.Records.{IsForm, variable_at}

-- the variable of a name has this form
pub record HasForm (b name : List ℕ) (form : Form) : Type 0 where
  pub kind : Kind
  pub number : ℕ
  pub is_form : IsForm b form
  pub named : variable_named (content b) name ≡ Some (record { kind = kind; number = number; variable = variable_at b form.place.vdr })

abbrev pub Sees : List ℕ → List ℕ → Sought → Type 0
Sees b name (Found form) = HasForm b name form
Sees b name Missing = variable_named (content b) name ≡ None
