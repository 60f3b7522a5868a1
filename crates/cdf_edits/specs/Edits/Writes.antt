-- Numbers that a step writes in fields of records, one after the other (own).
use Rattle.std.specs.Prelude.{ℕ, suc, List, [], ◌∷◌, ◌++◌, map}
use Rattle.cdf_format.specs.Fields.{with_field}
use Rattle.cdf_format.specs.Records.{Field, adr_num, aedr_attr_num}
use Rattle.cdf_format.specs.Shape.{AttributeShape}

-- a number in a field of the record at a place
pub record Write : Type 0 where
  pub tile : ℕ
  pub f : Field
  pub to : ℕ

abbrev pub write : ℕ → Field → ℕ → Write
write tile f to = record { tile = tile; f = f; to = to }

abbrev pub with_writes : List ℕ → List Write → List ℕ
with_writes b [] = b
with_writes b (w ∷ more) = with_writes (with_field b w.tile w.f w.to) more

-- attributes have the numbers from one on, and their entries say them
abbrev pub numbers_from : ℕ → List AttributeShape → List Write
numbers_from n [] = []
numbers_from n (a ∷ more) = write a.adr adr_num n ∷ map (λ entry. write entry aedr_attr_num n) (a.gr_entries ++ a.z_entries) ++ numbers_from (suc n) more
