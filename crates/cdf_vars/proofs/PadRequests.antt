-- What `set-pad` asks for: the variable of a name, where its pad value belongs, and what the word says.
use Rattle.cdf_vars.proofs.Common.{Answers, Bool, DataType, Err, Explains, Good, HasElements, IsPlace, IsValue, Known, Knows, List, MayPad, Option, PadPlace, Reason, Refused, Some, ValueError, VarId, ap, ap₂, elems_at, found_among, get_or, has_so_many, is_little, known_of, refl, refused, subst, sym, type_of_variable, values_in, ℕ, ◌∙◌, ◌≡◌}
use Rattle.std.proofs.Common.{Result}
use Rattle.cdf_model.specs.declared.command.Command.TheVariants as commands
use Rattle.cdf_vars.proofs.VariableFound.{is_vdr, own_is, parts_there}

module _ {b : List ℕ} (name : List ℕ) (words : List (List ℕ)) {known : Known} {result : Option VarId} (knows : Knows b known) (asked : result ≡ found_among known name) where
  module _ {id : VarId} (good : Good b) (some : result ≡ Some id) {place : ℕ} (is : place ≡ get_or (known_of known id.kind).places id.num 0) {p : PadPlace} (there : IsPlace b place p) where
    pub elements : HasElements p.t p.elems
    elements = subst (λ (t : DataType). HasElements t p.elems) (sym there.t_is) (subst (λ (n : ℕ). HasElements (type_of_variable b place) n) (sym there.elems_are) (has_so_many good (is_vdr name knows asked good some is)))

    pub may : (little : Bool) (bytes : List ℕ) → little ≡ is_little b → IsValue little p.t p.elems words bytes → MayPad b known name words id p bytes
    may little bytes same value = record { found = sym asked ∙ some; place = subst (λ (v : ℕ). IsPlace b v p) (sym there.vdr_is) there; vdr_is = there.vdr_is ∙ is; value = subst (λ (l : Bool). IsValue l p.t p.elems words bytes) same value }

    pub no_value : (error : ValueError) (why : Reason) → Explains (values_in p.t p.elems 1 words) error → ((meaning : Result (List ℕ) Reason) → Explains meaning error → meaning ≡ Err why) → (limit : ℕ) → Answers limit b (commands.SetPad name words) (Refused why) b
    no_value error why says reason limit =
        let same = ap (λ (v : ℕ). values_in (type_of_variable b v) (elems_at b v) 1 words) (own_is name knows asked good some is) ∙ ap₂ (λ (t : DataType) (n : ℕ). values_in t n 1 words) (sym there.t_is) (sym there.elems_are) in
        refused limit b (commands.SetPad name words) why (rw ((parts_there name knows asked good some).named, same ∙ reason (values_in p.t p.elems 1 words) says) refl)
