-- The names of attributes, and what a renaming makes of them.
use Rattle.cdf_attrs.proofs.Common.{Attribute, DataSet, List, None, Some, ap, ap₂, arith, attribute_named, attribute_names, bytes_eq, cut, got-middle, length, length-map, map-set, number_of, position, refl, slice_get, slice_get_within, slice_set, sym, with_attribute, ℕ, ◌<◌, ◌∙◌, ◌≡◌}
use Rattle.cdf_model.specs.Names.{numbered}
use Rattle.cdf_names.proofs.Keys.{number_of-keys, found_at}

-- the number of a name is that of its attribute
pub numbered_name : (d : DataSet) (names : List (List ℕ)) (name : List ℕ) → names ≡ attribute_names d → position (λ (a : Attribute). bytes_eq name a.name) d.attributes ≡ number_of names name
numbered_name d names name e = number_of-keys (λ (a : Attribute). a.name) d.attributes names (sym e) name

pub none_named : (d : DataSet) (names : List (List ℕ)) (name : List ℕ) → names ≡ attribute_names d → number_of names name ≡ None → attribute_named d name ≡ None
none_named d names name e none = ap (numbered d.attributes) (numbered_name d names name e ∙ none)

pub number_within : (names : List (List ℕ)) (name : List ℕ) (n : ℕ) → number_of names name ≡ Some n → n < length names
number_within names name n e = slice_get_within names n name (found_at names name n e)

pub named_there : (d : DataSet) (names : List (List ℕ)) (name : List ℕ) (n : ℕ) (a : Attribute) → names ≡ attribute_names d → number_of names name ≡ Some n → slice_get d.attributes n ≡ Some a → attribute_named d name ≡ Some (n, a)
named_there d names name n a e found there = ap (numbered d.attributes) (numbered_name d names name e ∙ found) ∙ rw there refl

-- there is an attribute that has the number
pub some_named : (d : DataSet) (names : List (List ℕ)) (name : List ℕ) (n : ℕ) → names ≡ attribute_names d → number_of names name ≡ Some n → (a : Attribute) × (attribute_named d name ≡ Some (n, a))
some_named d names name n e found =
    let lt = number_within names name n found in
    let long : length names ≡ length d.attributes = ap length e ∙ length-map d.attributes (λ (a : Attribute). a.name) in
    let c = cut d.attributes n (omega arith) in
    let there : slice_get d.attributes n ≡ Some c.own = ap₂ (λ (xs : List Attribute) (k : ℕ). slice_get xs k) c.is (sym c.count) ∙ got-middle c.before c.own c.after in
    (c.own, named_there d names name n c.own e found there)

pub renamed_names : (d : DataSet) (n : ℕ) (a : Attribute) (to : List ℕ) → attribute_names (with_attribute d n (record a { name = to })) ≡ slice_set (attribute_names d) n to
renamed_names d n a to = map-set (λ (x : Attribute). x.name) d.attributes n (record a { name = to })
