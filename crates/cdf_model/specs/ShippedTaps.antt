-- The two taps that the editor hands in: one counts, one looks for the attribute VAR_TYPE (own; ISTP Metadata Guidelines, Variable Attributes: VAR_TYPE).
use Rattle.std.specs.Prelude.{ℕ, suc, List, [], ◌∷◌, ◌++◌, Bool, false, ◌==◌, codes, bytes_eq, if◌then◌else◌}
use Rattle.std.specs.Fmt.{decimal}
use Rattle.std.specs.List.{list_any}
use Rattle.cdf_model.specs.declared.event.Event.{Event}
use Rattle.cdf_model.specs.declared.event.Event.TheVariants as events
use Rattle.cdf_model.specs.declared.kinds.EntryKind.TheVariants as entries
use Rattle.cdf_model.specs.declared.kinds.Kind.TheVariants as kinds
use Rattle.cdf_model.specs.Taps.{Tap}
use Rattle.cdf_model.specs.Texts.{◌⧺◌, newline}
use Rattle.cdf_model.specs.Values.{quoted}

-- four counts, of attributes, entries, variables and records, with what an event adds
abbrev pub counts_after : List ℕ → Event → List ℕ
counts_after (a ∷ e ∷ v ∷ r ∷ []) (events.Attr num name scope) = suc a ∷ e ∷ v ∷ r ∷ []
counts_after (a ∷ e ∷ v ∷ r ∷ []) (events.Entry kind num t elems bytes) = a ∷ suc e ∷ v ∷ r ∷ []
counts_after (a ∷ e ∷ v ∷ r ∷ []) (events.Var kind num name t elems vary dims varys sparse rle blocking max_rec has_pad pad) = a ∷ e ∷ suc v ∷ r ∷ []
counts_after (a ∷ e ∷ v ∷ r ∷ []) (events.Rec num t elems bytes) = a ∷ e ∷ v ∷ suc r ∷ []
counts_after counts other = counts

abbrev pub tally_text : List ℕ → List ℕ
tally_text (a ∷ e ∷ v ∷ r ∷ []) = codes "attributes " ⧺ decimal a ⧺ codes " entries " ⧺ decimal e ⧺ codes " variables " ⧺ decimal v ⧺ codes " records " ⧺ decimal r ⧺ newline
tally_text other = []

-- how many attributes, entries, variables and records there are
abbrev pub tally : Tap
tally = record { name = codes "tally"; first = 0 ∷ 0 ∷ 0 ∷ 0 ∷ []; after = counts_after; text = tally_text; is_final = λ counts. false }

-- how a state of the second tap begins: among the entries of VAR_TYPE, elsewhere, or at a variable that has none
abbrev pub inside : ℕ
inside = 0

abbrev pub outside : ℕ
outside = 1

abbrev pub lacking : ℕ
lacking = 2

-- behind the mark stand the numbers of the z entries of VAR_TYPE so far, or the name of the variable
abbrev pub looked_at : ℕ → List ℕ → Event → List ℕ
looked_at mark known (events.Attr num name scope) = (if bytes_eq name (codes "VAR_TYPE") then inside else outside) ∷ known
looked_at mark known (events.Entry entries.Z num t elems bytes) = mark ∷ (if mark == inside then known ++ num ∷ [] else known)
looked_at mark known (events.Var kinds.Z num name t elems vary dims varys sparse rle blocking max_rec has_pad pad) =
    if list_any (λ k. k == num) known then mark ∷ known else lacking ∷ name
looked_at mark known other = mark ∷ known

abbrev pub is_lacking : List ℕ → Bool
is_lacking [] = false
is_lacking (mark ∷ known) = mark == lacking

abbrev pub looked : List ℕ → Event → List ℕ
looked [] event = []
looked (mark ∷ known) event = if mark == lacking then mark ∷ known else looked_at mark known event

abbrev pub lacking_text : List ℕ → List ℕ
lacking_text [] = []
lacking_text (mark ∷ known) = if mark == lacking then codes "missing VAR_TYPE " ⧺ quoted known ⧺ newline else codes "all zvars have VAR_TYPE" ⧺ newline

-- the first z variable for which the attribute VAR_TYPE has no z entry
abbrev pub needs_var_type : Tap
needs_var_type = record { name = codes "vartype"; first = outside ∷ []; after = looked; text = lacking_text; is_final = is_lacking }
