-- An image of a data set without attributes and variables: its CDR, its GDR, and unused records.
use Rattle.cdf_edits.proofs.Common.{Edit, Good, HasShape, Holds, In, IsSound, List, Mark, Shape, [], ap, arith, attribute_of, both, content, content_is, content_of, eq-eqb, eq_of, gdr_r_dim_sizes, good_is_sound, is_empty_set, length, map, ne_eqb, r_num_dims, refl, shape, suc, sym, true, variable_of, ℕ, ◌&&◌, ◌==◌, ◌∙◌, ◌∷◌, ◌≡◌, ◌≢◌, ◌≤◌}
use Rattle.cdf_edits.proofs.Edits.Common.{IsHeld, not_twice_kept, used_times}

abbrev pub empty_shape : List ℕ → ℕ → List ℕ → Shape
empty_shape records gdr list = record { records = records; gdr = gdr; attributes = []; r_variables = []; z_variables = []; unused = list }

-- ---- how often the owners have a record

-- only the GDR counts for that
abbrev pub times_with : ℕ → ℕ → ℕ
times_with gdr m = used_times (empty_shape [] gdr []) m

pub gdr_once : (gdr : ℕ) → gdr ≢ 8 → times_with gdr gdr ≡ 1
gdr_once gdr p = rw (ne_eqb gdr 8 p, eq-eqb gdr gdr refl) refl

pub others_none : (gdr m : ℕ) → m ≢ 8 → m ≢ gdr → times_with gdr m ≡ 0
others_none gdr m p q = rw (ne_eqb m 8 p, ne_eqb m gdr q) refl

-- an edit leaves no owner a record twice
pub empty_sound : (b now : List ℕ) (s : Shape) {records list : List ℕ} {gdr : ℕ} {marks : List Mark} (reborn : List ℕ) → IsSound b s → Edit b now s.records records marks reborn → HasShape now (empty_shape records gdr list) → Holds now gdr (gdr_r_dim_sizes (r_num_dims now gdr))
    → ((m : ℕ) → (In m reborn → ⊥) → used_times (empty_shape records gdr list) m ≤ used_times s m) → ((m : ℕ) → In m reborn → IsHeld now (empty_shape records gdr list) m) → IsSound now (empty_shape records gdr list)
empty_sound b now s {records = records} {list = list} {gdr = gdr} {marks = marks} reborn sound e h fits fewer held = record { has_shape = h; gdr_fits = fits; attributes_fit = tt; variables_fit = tt; not_twice = not_twice_kept b now s (empty_shape records gdr list) marks reborn sound e fewer held }

-- ---- a good image of a data set without attributes and variables is such a one

none_mapped : {A B : Type 0} (f : A → B) (xs : List A) → (length (map f xs) == 0) ≡ true → xs ≡ []
none_mapped f [] e = refl
none_mapped f (x ∷ xs) e = absurd (let q : suc (length (map f xs)) ≡ 0 = eq_of _ _ e in omega arith)

pub is_empty : (b : List ℕ) → Good b → is_empty_set (content b) ≡ true → shape b ≡ empty_shape (shape b).records (shape b).gdr (shape b).unused
is_empty b good empty =
    let s = shape b in
    let here : is_empty_set (content_of b s) ≡ true = ap is_empty_set (sym (content_is b s (good_is_sound b good).has_shape)) ∙ empty in
    let p = both ((length (map (attribute_of b) s.attributes) == 0) && (length (map (variable_of b) s.r_variables) == 0)) (length (map (variable_of b) s.z_variables) == 0) here in
    let q = both (length (map (attribute_of b) s.attributes) == 0) (length (map (variable_of b) s.r_variables) == 0) p.0 in
    λ i. record { records = s.records; gdr = s.gdr; attributes = none_mapped (attribute_of b) s.attributes q.0 i; r_variables = none_mapped (variable_of b) s.r_variables q.1 i; z_variables = none_mapped (variable_of b) s.z_variables p.1 i; unused = s.unused }
