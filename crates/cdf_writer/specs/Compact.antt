-- The image of a data set in which each record stands behind the one before (own).
use Rattle.std.specs.Prelude.{ℕ, ◌+◌, List, ◌∷◌, ◌++◌, length, map, max, Bool, false, Some, None}
use Rattle.std.specs.List.{fold}
use Rattle.cdf_model.specs.declared.kinds.Kind.TheVariants.{R, Z}
use Rattle.cdf_model.specs.DataSet.{DataSet, extent}
use Rattle.cdf_model.specs.Encodings.{encoding_at}
use Rattle.cdf_model.specs.RecordSteps.{last_number}
use Rattle.cdf_format.specs.NewFile.{magic}
use Rattle.cdf_format.specs.RecordTypes.{fixed_size, cdr_type}
use Rattle.cdf_format.specs.Records.{cdr_place, gdr_bytes}
use Rattle.cdf_writer.specs.Bodies.{code4, cdr_body, gdr_body}
use Rattle.cdf_writer.specs.declared.bodies.Heads.{Heads}
use Rattle.cdf_writer.specs.Laying.{link_if, laid, laid_size, attributes_bodies, variables_bodies}

-- the least byte of a value stands first
abbrev pub is_little_code : ℕ → Bool
is_little_code code = elim (encoding_at code) [ None ↦ false | Some e ↦ e.little ]

abbrev pub is_little : DataSet → Bool
is_little d = is_little_code d.encoding

-- where each part stands
abbrev pub gdr_place : ℕ
gdr_place = cdr_place + fixed_size cdr_type

abbrev pub attributes_place : DataSet → ℕ
attributes_place d = gdr_place + gdr_bytes (length d.rdims)

abbrev pub attributes_part : DataSet → List (List ℕ)
attributes_part d = attributes_bodies (is_little d) 0 (attributes_place d) d.attributes

abbrev pub r_place : DataSet → ℕ
r_place d = attributes_place d + laid_size (attributes_part d)

abbrev pub r_part : DataSet → List (List ℕ)
r_part d = variables_bodies R (is_little d) 0 (r_place d) d.r_variables

abbrev pub z_place : DataSet → ℕ
z_place d = r_place d + laid_size (r_part d)

abbrev pub z_part : DataSet → List (List ℕ)
z_part d = variables_bodies Z (is_little d) 0 (z_place d) d.z_variables

-- the greatest MaxRec of the r variables, or -1
abbrev pub r_max_rec : DataSet → ℕ
r_max_rec d = code4 (last_number (fold max 0 (map (λ v. extent v.max_rec) d.r_variables)))

abbrev pub heads : DataSet → Heads
heads d = record {
  r = link_if (r_place d) d.r_variables;
  z = link_if (z_place d) d.z_variables;
  attributes = link_if (attributes_place d) d.attributes;
  end = z_place d + laid_size (z_part d);
  r_max_rec = r_max_rec d;
}

abbrev pub bodies : DataSet → List (List ℕ)
bodies d = cdr_body d gdr_place ∷ gdr_body d (heads d) ∷ attributes_part d ++ r_part d ++ z_part d

unfoldable pub compact : DataSet → List ℕ
compact d = magic ++ laid (bodies d)
