-- The steps by which a variable goes: the link, the count, the numbers of those behind, of an r variable rMaxRec, the links to its index, and then its records (own).
use Rattle.std.specs.Prelude.{◌≡◌, ℕ, ℤ, suc, max, ◌+◌, ◌^◌, ◌<◌, List, [], ◌∷◌, ◌++◌, length, map}
use Rattle.std.specs.Int.{w32, cast_unsigned}
use Rattle.std.specs.List.{fold}
use Rattle.cdf_model.specs.declared.kinds.Kind.{Kind}
use Rattle.cdf_model.specs.declared.kinds.Kind.TheVariants.{R, Z}
use Rattle.cdf_model.specs.DataSet.{extent}
use Rattle.cdf_model.specs.RecordSteps.{last_number}
use Rattle.cdf_edits.specs.Commands.Allowances.{shapes_of}
use Rattle.cdf_edits.specs.Commands.Variables.{freed_with_variable}
use Rattle.cdf_edits.specs.Edits.Marks.{Among, Mark, mark, field_marks, index_types, removing_marks}
use Rattle.cdf_edits.specs.Edits.ManyMarks.{freeing_marks}
use Rattle.cdf_edits.specs.Edits.Writes.{Write, write, with_writes}
use Rattle.cdf_edits.specs.Space.Chains.{head_of, count_of, type_in, Removed}
use Rattle.cdf_edits.specs.Space.Freeing.{AllGiven}
use Rattle.cdf_edits.specs.Space.VariableChains.{variables_chain}
use Rattle.cdf_format.specs.Records.{gdr_r_max_rec, vdr_vxr_head, vdr_vxr_tail, vdr_num}
use Rattle.cdf_format.specs.RecordTypes.{gdr_type}
use Rattle.cdf_format.specs.Shape.{VariableShape, vdrs, shape}
use Rattle.cdf_format.specs.VariableFields.{max_rec_at}

-- ---- what is written

-- variables have the numbers from one on
abbrev pub numbers_on : ℕ → List ℕ → List Write
numbers_on n [] = []
numbers_on n (vdr ∷ more) = write vdr vdr_num n ∷ numbers_on (suc n) more

-- the greatest MaxRec of some VDRs, or -1
abbrev pub greatest_at : List ℕ → List ℕ → ℤ
greatest_at b places = last_number (fold max 0 (map (λ vdr. extent (max_rec_at b vdr)) places))

-- rMaxRec is written of r variables
abbrev pub r_max_writes : Kind → ℕ → ℤ → List Write
r_max_writes R gdr greatest = write gdr gdr_r_max_rec (cast_unsigned w32 greatest) ∷ []
r_max_writes Z gdr greatest = []

-- a VDR leads to no node any more
abbrev pub empty_writes : ℕ → List Write
empty_writes vdr = write vdr vdr_vxr_head 0 ∷ write vdr vdr_vxr_tail 0 ∷ []

-- ---- the steps

-- from an image to one in which no chain leads to one of its variables
pub record UnlinksVariable (b mid : List ℕ) (kind : Kind) (before : List VariableShape) (own : VariableShape) (after : List VariableShape) : Type 0 where
  pub was : shapes_of (shape b) kind ≡ before ++ own ∷ after
  pub first : List ℕ
  pub removed : Removed b first (variables_chain kind) own.vdr
  pub second : List ℕ
  pub numbered : second ≡ with_writes first (write (shape b).gdr (count_of (variables_chain kind)) (length before + length after) ∷ numbers_on (length before) (vdrs after))
  pub written : mid ≡ with_writes second (r_max_writes kind (shape b).gdr (greatest_at b (vdrs (before ++ after))))
  pub few : length before + length after < 256 ^ 4

-- The variable of a number was taken out of the chain, its VDR leads to no node any more, and then its records were freed.
pub record RemovesVariable (b now : List ℕ) (kind : Kind) (number : ℕ) : Type 0 where
  pub before : List VariableShape
  pub own : VariableShape
  pub after : List VariableShape
  pub count : length before ≡ number
  pub mid : List ℕ
  pub unlinks : UnlinksVariable b mid kind before own after
  pub given : AllGiven (with_writes mid (empty_writes own.vdr)) now (freed_with_variable own)

-- ---- the marks

-- rMaxRec, of r variables
abbrev pub r_max_marks : Kind → ℕ → List Mark
r_max_marks R gdr = field_marks gdr_type gdr gdr_r_max_rec
r_max_marks Z gdr = []

-- a variable is taken out of the chain and counted no more, those behind it get other numbers, and of an r variable rMaxRec may be another
abbrev pub variable_unlinking_marks : Kind → ℕ → List ℕ → List ℕ → List Mark
variable_unlinking_marks kind gdr members behind =
    removing_marks gdr_type gdr (head_of (variables_chain kind)) (type_in (variables_chain kind)) members
    ++ (field_marks gdr_type gdr (count_of (variables_chain kind)) ++ mark (type_in (variables_chain kind)) (Among behind) vdr_num ∷ [])
    ++ r_max_marks kind gdr

-- and records of it are freed: its VDR, nodes, blocks and parameters
abbrev pub variable_removing_marks : Kind → ℕ → List ℕ → List ℕ → List ℕ → List ℕ → ℕ → List Mark
variable_removing_marks kind gdr members behind unused places limit = variable_unlinking_marks kind gdr members behind ++ freeing_marks (type_in (variables_chain kind) ∷ index_types) unused places limit
